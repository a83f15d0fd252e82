-- What a lookup leaves.
use Rattle.std.proofs.Common.{◌≡◌, ℕ, zero, suc, ◌+◌, ◌-◌, ◌==◌, ◌≤◌, Bool, true, false, if◌then◌else◌, List, [], ◌∷◌, refl, sym, ap, ◌∙◌, subst, arith}
use Rattle.std.proofs.lemmas.Bool.Decides.{nat_tests}
use Rattle.redn_words.specs.declared.types.Obs.TheVariants as shows
use Rattle.redn_kernel.specs.declared.types.Word.{Word}
use Rattle.redn_kernel.specs.declared.types.Kernel.{Kernel, out-Kernel}
use Rattle.redn_kernel.specs.declared.types.Kernel.TheOpen.{Kernel-F}
use Rattle.redn_kernel.specs.declared.types.Kernel.TheVariants as k
use Rattle.redn_kernel.specs.declared.types.Core.{Core}
use Rattle.redn_kernel.specs.Source as source
use Rattle.redn_kernel.specs.Source.{ChainState, Turn, Item, Find, Take, first_does, item_does, statement_does, value_of, wrapped, same_low, has_word, word_in}
use Rattle.redn_kernel.specs.CoreRun.{Cells, do_cores, cores_after}
use Rattle.redn_kernel.specs.Becomes.{chain_at, cores_at}
use Rattle.redn_kernel.specs.Found.{LeaveFound, buckets, first_with, with_found}
use Rattle.redn_kernel.proofs.CoreRuns.{front_statement, Reaches, next_reach, ended_stays, idle_stays, first_hit, first_miss, some_left, ended_not, take_leaves}
use Rattle.redn_kernel.proofs.Becoming.{comes}
use Rattle.redn_lookup.specs.Lookup.{IsLookup, cores_of}
use Rattle.redn_lookup.proofs.Composed.{lookup_composes}

-- what a lookup of the source leaves
module _ (c : ℕ) (words : List ℕ) (tables last : List (List ℕ)) (s : Cells) (x table : ℕ) (key : Word) (u : ChainState) (over : u.items ≡ []) (goes : u.ended ≡ false) where
  abbrev Leaves : ℕ → ℕ → Type 0
  Leaves o more = u.vars ≡ with_found tables table x s.vars (first_with tables table (value_of s.vars key) (buckets (suc more) o))

  -- a look at a bucket
  look_turn : ℕ → ℕ → Bool → Bool → Turn
  look_turn o more there met =
      let t : ChainState = chain_at words s false (Find x table o key (suc more) ∷ []) in
      if there then source.goes_on c tables t (source.found_or met x table o key (suc more) []) (shows.Look c table o (word_in tables table o)) else source.ends c tables t (shows.Fault c table o)

  find_turn : (o more : ℕ) → first_does c tables (chain_at words s false (Find x table o key (suc more) ∷ [])) (Find x table o key (suc more) ∷ []) ≡ look_turn o more (has_word tables table o) (same_low (word_in tables table o) (value_of s.vars key))
  unfolding look_turn item_does
  find_turn o more = refl

  find_by : (n o more : ℕ) → ((o : ℕ) → (less : ℕ) → more ≡ suc less → Reaches c n tables (chain_at words s false (Find x table o key (suc less) ∷ [])) last u → Leaves o less) → (there met : Bool) → has_word tables table o ≡ there → same_low (word_in tables table o) (value_of s.vars key) ≡ met →
      Reaches c (suc n) tables (chain_at words s false (Find x table o key (suc more) ∷ [])) last u → Leaves o more
  unfolding look_turn
  find_by n o more behind false met e f r =
      let t : ChainState = chain_at words s false (Find x table o key (suc more) ∷ []) in
      ended_not c words tables last s x table u over goes (ended_stays c n words tables last s (Find x table o key (suc more) ∷ []) u (next_reach c n tables last t u (look_turn o more false met) (find_turn o more ∙ ap (λ (b : Bool). look_turn o more b (same_low (word_in tables table o) (value_of s.vars key))) e ∙ ap (look_turn o more false) f) r))
  find_by n o more behind true true e f r =
      let t : ChainState = chain_at words s false (Find x table o key (suc more) ∷ []) in
      take_leaves c words tables last s x table u over goes n (wrapped (o + 8)) (next_reach c n tables last t u (look_turn o more true true) (find_turn o more ∙ ap (λ (b : Bool). look_turn o more b (same_low (word_in tables table o) (value_of s.vars key))) e ∙ ap (look_turn o more true) f) r)
      ∙ sym (ap (with_found tables table x s.vars) (first_hit tables table (value_of s.vars key) o (buckets more (wrapped (o + 16))) f))
  find_by n o zero behind true false e f r =
      let t : ChainState = chain_at words s false (Find x table o key 1 ∷ []) in
      idle_stays c n words tables last s u (next_reach c n tables last t u (look_turn o 0 true false) (find_turn o 0 ∙ ap (λ (b : Bool). look_turn o 0 b (same_low (word_in tables table o) (value_of s.vars key))) e ∙ ap (look_turn o 0 true) f) r)
      ∙ sym (ap (with_found tables table x s.vars) (first_miss tables table (value_of s.vars key) o [] f))
  find_by n o (suc more) behind true false e f r =
      let t : ChainState = chain_at words s false (Find x table o key (suc (suc more)) ∷ []) in
      let find : ℕ → List Item = λ j. Find x table (wrapped (o + 16)) key j ∷ [] in
      let some : (suc (suc more) == 1) ≡ false = grind (arith, nat_tests) in
      let less : suc (suc more) - 1 ≡ suc more = omega arith in
      let lost : source.found_or false x table o key (suc (suc more)) [] ≡ find (suc more) = ap (λ (b : Bool). if b then [] else find (suc (suc more) - 1)) some ∙ ap find less in
      let at : List Item → Turn = λ list. source.goes_on c tables t list (shows.Look c table o (word_in tables table o)) in
      behind (wrapped (o + 16)) more refl
      (next_reach c n tables last t u (at (find (suc more))) (find_turn o (suc more) ∙ ap (λ (b : Bool). look_turn o (suc more) b (same_low (word_in tables table o) (value_of s.vars key))) e ∙ ap (look_turn o (suc more) true) f ∙ ap at lost) r)
      ∙ sym (ap (with_found tables table x s.vars) (first_miss tables table (value_of s.vars key) o (buckets (suc more) (wrapped (o + 16))) f))

  pub find_leaves : (n more o : ℕ) → Reaches c n tables (chain_at words s false (Find x table o key (suc more) ∷ [])) last u → Leaves o more
  find_leaves zero more o r = some_left c words tables last s x table u over goes _ _ (ap (λ (t : ChainState). t.items) r.1)
  find_leaves (suc n) more o r =
      find_by n o more (λ p less is q. find_leaves n less p q) (has_word tables table o) (same_low (word_in tables table o) (value_of s.vars key)) refl refl r

  pub lookup_leaves : (n more : ℕ) (offset : Word) → Reaches c n tables (chain_at words s false (source.Do (k.Lookup x table offset key (suc more)) ∷ [])) last u → Leaves (value_of s.vars offset) more
  unfolding statement_does
  lookup_leaves zero more offset r = some_left c words tables last s x table u over goes _ _ (ap (λ (t : ChainState). t.items) r.1)
  lookup_leaves (suc n) more offset r =
      let t : ChainState = chain_at words s false (source.Do (k.Lookup x table offset key (suc more)) ∷ []) in
      find_leaves n more (value_of s.vars offset)
      (next_reach c n tables last t u (source.silent c tables t (Find x table (value_of s.vars offset) key (suc more) ∷ [])) (front_statement c words tables s _ _ [] (k.outs-Lookup x table offset key (suc more))) r)

pub lookup_finds : (x table : ℕ) (offset key : Word) (more : ℕ) → LeaveFound x table key (λ tables vars. buckets (suc more) (value_of vars offset)) (cores_of x table offset key more)
lookup_finds x table offset key more c words tables s n over goes =
    let statement : Kernel = k.Lookup x table offset key (suc more) in
    let cores = cores_of x table offset key more in
    let end = cores_after c words tables n (cores_at s (do_cores cores)) in
    let reached = comes statement cores (lookup_composes x table offset key more) c words tables s n end refl over in
    lookup_leaves c words tables tables s x table key (chain_at words end.cells end.ended []) refl goes reached.count more offset reached.reaches

-- what is said of a lookup's own parts is said of each spelling of them
module _ (cores : List Core) where
  abbrev FindsIn : Kernel-F Kernel → Type 0
  FindsIn (Kernel-F.Lookup x table offset key n) = LeaveFound x table key (λ tables vars. buckets n (value_of vars offset)) cores
  FindsIn _ = Unit {0}

  pub finds_in : (x table n x2 table2 n2 : ℕ) (offset key offset2 key2 : Word) → k.Lookup x table offset key n ≡ k.Lookup x2 table2 offset2 key2 n2 → LeaveFound x table key (λ tables vars. buckets n (value_of vars offset)) cores → LeaveFound x2 table2 key2 (λ tables vars. buckets n2 (value_of vars offset2)) cores
  finds_in x table n x2 table2 n2 offset key offset2 key2 e =
      subst FindsIn (sym (k.outs-Lookup x table offset key n) ∙ ap out-Kernel e ∙ k.outs-Lookup x2 table2 offset2 key2 n2)

abbrev SomeProbes : Kernel-F Kernel → Type 0
SomeProbes (Kernel-F.Lookup x table offset key n) = 1 ≤ n
SomeProbes _ = Unit {0}

pub some_probes : (statement : Kernel) (x table n : ℕ) (offset key : Word) → IsLookup statement → statement ≡ k.Lookup x table offset key n → 1 ≤ n
some_probes st x table n offset key l e =
    subst SomeProbes (sym (k.outs-Lookup l.to l.table l.offset l.key l.probes) ∙ ap out-Kernel (sym l.is ∙ e) ∙ k.outs-Lookup x table offset key n) l.some

-- and of each spelling of a lookup
abbrev MadeIn : List Core → Kernel-F Kernel → Type 0
MadeIn cores (Kernel-F.Lookup x table offset key n) = cores ≡ cores_of x table offset key (n - 1)
MadeIn cores _ = Unit {0}

pub made_in : (x table n x2 table2 n2 : ℕ) (offset key offset2 key2 : Word) → k.Lookup x table offset key n ≡ k.Lookup x2 table2 offset2 key2 n2 → cores_of x table offset key (n - 1) ≡ cores_of x2 table2 offset2 key2 (n2 - 1)
made_in x table n x2 table2 n2 offset key offset2 key2 e =
    subst (MadeIn (cores_of x table offset key (n - 1))) (sym (k.outs-Lookup x table offset key n) ∙ ap out-Kernel e ∙ k.outs-Lookup x2 table2 offset2 key2 n2) refl
