-- Runs that are quiet have ended their chains.
use Rattle.std.proofs.Common.{◌≡◌, ℕ, zero, suc, ◌+◌, ◌*◌, ◌%◌, ◌<◌, Bool, true, false, ◌==◌, ◌&&◌, cond, List, [], ◌∷◌, ◌++◌, length, map, refl, sym, ap, subst, ◌∙◌, arith}
use Rattle.std.specs.Prelude.{Option, Some, None, Result, Ok, Err, slice_get, is_some}
use Rattle.std.specs.List.{All, find, list_any, range_with_len}
use Rattle.std.proofs.lemmas.List.{length-map}
use Rattle.std.proofs.lemmas.List.FromFn.{length-range_with_len}
use Rattle.std.proofs.lemmas.List.Elements.{All-nil, All-cons, All-map, All-from_get_or}
use Rattle.std.proofs.lemmas.Bool.{eqb-true}
use Rattle.hex.specs.Hex.{decode_of, decode_pairs, IsBytes}
use Rattle.hex.specs.declared.FromHexError.{FromHexError}
use Rattle.hex.specs.declared.FromHexError.TheVariants.{OddLength}
use Rattle.hex.proofs.HexLemmas.{decode_pairs-ok}
use Rattle.redn_words.specs.declared.types.Action.{Action}
use Rattle.redn_words.specs.declared.types.Receive.{Receive}
use Rattle.redn_words.specs.Misfits.{misfit, misfits}
use Rattle.redn_words.specs.States.{Queue, State, start, fresh_queue, fresh_chain}
use Rattle.redn_words.specs.Runs.{reached}
use Rattle.redn_kernel.specs.declared.types.ChainInit.{ChainInit}
use Rattle.redn_kernel.specs.declared.types.Program.{Program}
use Rattle.redn_kernel.specs.Source.{Source, source_start, source_after, is_running, runs_there, fresh_chains, message_words}
use Rattle.redn_image.specs.Rules.{Image, Obeys}
use Rattle.redn_image.specs.Faithful.{IsMessageOf, AreMessages, Explains}
use Rattle.redn_adapter.specs.Quiet.{IsQuiet}
use Rattle.redn_adapter.proofs.Images.{image_inside}
use Rattle.redn_sched.specs.Laws.{HaveOwners, EndsWhole, MadeRunsEndWhole}
use Rattle.redn_command.specs.Words.{Plan, Schedule, Fair, Shuffle, MessageWord}
use Rattle.redn_top.specs.declared.status.MessageFault.{MessageFault}
use Rattle.redn_top.specs.declared.status.MessageFault.TheVariants.{Length}
use Rattle.redn_top.specs.declared.status.Status.TheVariants.{Message}
use Rattle.redn_top.specs.MessageWords.{is_for, bytes_or, given_by, given, messages, length_faults}
use Rattle.redn_top.specs.Reasons.{first_fault}
use Rattle.redn_top.specs.Answers.{opened}
use Rattle.redn_top.specs.Refusals.{MakesActions}
use Rattle.redn_top.specs.RunText.{planned, steps_asked}
use Rattle.redn_top.specs.Laws.{ends_chain, AcceptedWordsAreMessages, QuietRunsHaveEnded}
use Rattle.redn_top.proofs.SourceEnds.{turns_end}

-- ---- messages that are accepted

abbrev AreBytes : List ℕ → Type 0
AreBytes = All (λ (b : ℕ). b < 256)

all_bytes : (bytes : List ℕ) → IsBytes bytes → AreBytes bytes
all_bytes bytes h = All-from_get_or (λ (b : ℕ). b < 256) bytes 0 (λ i l. h i)

spelled_bytes : (answer : Result (List ℕ) FromHexError) → ((bytes : List ℕ) → answer ≡ Ok bytes → IsBytes bytes) → AreBytes (bytes_or answer)
spelled_bytes (Ok bytes) h = all_bytes bytes (h bytes refl)
spelled_bytes (Err e) h = All-nil (λ (b : ℕ). b < 256)

decoded_bytes : (digits bytes : List ℕ) → decode_of digits ≡ Ok bytes → IsBytes bytes
decoded_bytes digits bytes e = by_test (length digits % 2 == 1) e
  where
    by_test : (b : Bool) → cond b (Err OddLength) (decode_pairs 0 digits) ≡ Ok bytes → IsBytes bytes
    by_test true f = absurd (cc)
    by_test false f = (decode_pairs-ok 0 digits bytes f).2

abbrev HasBytes : Option (List ℕ) → Type 0
HasBytes None = Unit {0}
HasBytes (Some bytes) = AreBytes bytes

word_bytes : (o : Option MessageWord) → HasBytes (given_by o)
word_bytes None = tt
word_bytes (Some w) = spelled_bytes (decode_of w.digits) (decoded_bytes w.digits)

no_fault : (faults : List MessageFault) → ((s : _) → first_fault faults s → ⊥) → faults ≡ []
no_fault [] none = refl
no_fault (f ∷ behind) none = absurd (none (Message f) (f, behind, refl, refl))

both_nil : {X : Type 0} (xs ys : List X) → xs ++ ys ≡ [] → (xs ≡ []) × (ys ≡ [])
both_nil [] ys e = (refl, e)
both_nil (x ∷ xs) ys e = absurd (cc)

fits_one : (c : ChainInit) (n want : ℕ) (m : Option (List ℕ)) → want ≡ 8 * c.args → misfit Length n want m ≡ [] → HasBytes m → IsMessageOf c m
fits_one c n want None is e bytes = tt
fits_one c n want (Some given) is e bytes = (by_test (length given == want) refl e ∙ is, bytes)
  where
    by_test : (b : Bool) → (length given == want) ≡ b → cond b [] (Length n (length given) want ∷ []) ≡ [] → length given ≡ want
    by_test true t f = eqb-true (length given) want t
    by_test false t f = absurd (cc)

fit_all : (cs : List ChainInit) (wants : List ℕ) (n : ℕ) (ms : List (Option (List ℕ))) → wants ≡ map (λ (c : ChainInit). 8 * c.args) cs → length ms ≡ length wants → misfits Length n wants ms ≡ [] → All HasBytes ms → AreMessages cs ms
fit_all [] [] n [] is many e bytes = tt
fit_all [] [] n (m ∷ ms) is many e bytes = absurd (omega (arith, many))
fit_all [] (w ∷ ws) n ms is many e bytes = absurd (cc)
fit_all (c ∷ cs) [] n ms is many e bytes = absurd (cc)
fit_all (c ∷ cs) (w ∷ ws) n [] is many e bytes = absurd (omega (arith, many))
fit_all (c ∷ cs) (w ∷ ws) n (m ∷ ms) is many e bytes =
    let want : w ≡ 8 * c.args = cc in
    let wants : ws ≡ map (λ (c : ChainInit). 8 * c.args) cs = cc in
    let none = both_nil (misfit Length n w m) (misfits Length (n + 1) ws ms) e in (
      fits_one c n w m want none.0 (bytes 0 m (omega arith)),
      fit_all cs ws (n + 1) ms wants (omega (arith, many)) none.1 (λ k d l. bytes (suc k) d (omega (arith, l))),
    )

all_given : (words : List MessageWord) (chains : List ℕ) → All HasBytes (map (given words) chains)
all_given words [] = All-nil HasBytes
all_given words (c ∷ cs) = All-cons HasBytes (given words c) (map (given words) cs) (word_bytes (find (is_for c) words)) (all_given words cs)

as_many : (n : ℕ) (words : List MessageWord) → length (messages n words) ≡ n
as_many n words = length-map (range_with_len 0 n) (given words) ∙ length-range_with_len 0 n

pub accepted_words : AcceptedWordsAreMessages
accepted_words p image words faithful none =
    fit_all p.chains (map (λ (r : Receive). r.len) image.receives) 0 (messages (length image.receives) words) faithful.fits.messages
    (as_many (length image.receives) words ∙ sym (length-map image.receives (λ (r : Receive). r.len)))
    (no_fault (length_faults image.receives (messages (length image.receives) words)) none.1.0)
    (all_given words (range_with_len 0 (length image.receives)))

-- ---- a chain with a message runs at first

runs_first : (cs : List ChainInit) (ms : List (Option (List ℕ))) → AreMessages cs ms → (c : ℕ) (bytes : List ℕ) → slice_get ms c ≡ Some (Some bytes) → runs_there (slice_get (fresh_chains cs ms) c) ≡ true
runs_first [] [] are c bytes e = absurd (cc)
runs_first [] (m ∷ ms) are c bytes e = absurd are
runs_first (i ∷ cs) [] are c bytes e = absurd are
runs_first (i ∷ cs) (m ∷ ms) are zero bytes e =
    let same : m ≡ Some bytes = cc in
    subst (λ (m : Option (List ℕ)). (is_some (message_words i.args m) && true) ≡ true) (sym same) refl
runs_first (i ∷ cs) (m ∷ ms) are (suc c) bytes e = runs_first cs ms are.1 c bytes e

starts : (p : Program) (ms : List (Option (List ℕ))) → AreMessages p.chains ms → (c : ℕ) (bytes : List ℕ) → slice_get ms c ≡ Some (Some bytes) → is_running (source_start p ms) c ≡ true
unfolding source_start
starts p ms are c bytes e = runs_first p.chains ms are c bytes e

-- ---- where nothing useful is left, no chain runs

owners : (image : Image) (words : List MessageWord) → Obeys image → HaveOwners (opened image words)
unfolding start
owners image words obeys =
    let many : length (map fresh_chain (messages (length image.receives) words)) ≡ length image.receives = length-map (messages (length image.receives) words) fresh_chain ∙ as_many (length image.receives) words in
    subst (λ (n : ℕ). All (λ (u : Queue). u.row.domain < n) (map fresh_queue image.queues)) (sym many)
    (All-map (λ (u : Queue). u.row.domain < length image.receives) fresh_queue image.queues (image_inside image obeys).domains)

none_left : (first : State) (acts : List Action) (source : Source) (turns : List ℕ) → Explains first acts source turns → IsQuiet (reached first acts) → (c : ℕ) → (b : Bool) → is_running (source_after source turns) c ≡ b → b ≡ false
none_left first acts source turns e quiet c false running = refl
none_left first acts source turns e quiet c true running = let next = e.goes_on c running in sym next.useful ∙ quiet next.action next.can

module _ (law : MadeRunsEndWhole) where
  whole : (plan : Plan) (s : State) → HaveOwners s → MakesActions plan → EndsWhole (steps_asked plan) s (planned plan s)
  whole (Schedule file) s owned makes = absurd makes
  whole (Fair steps) s owned makes = (law steps 0 s owned).0
  whole (Shuffle number steps) s owned makes = (law steps number s owned).1

  pub quiet_runs : QuietRunsHaveEnded
  quiet_runs p image words plan faithful obeys none makes few short c bytes e =
      let ms = messages (length image.receives) words in
      let first = opened image words in
      let acts = planned plan first in
      let made = whole plan first (owners image words obeys) makes in
      let are = accepted_words p image words faithful none in
      let run = faithful.explained ms are acts (omega (arith, short, few)) made.can in
      let over = none_left first acts (source_start p ms) run.0 run.1 (made.quiet short) c (is_running (source_after (source_start p ms) run.0) c) refl in
      ap (list_any (ends_chain c)) run.1.shows_events ∙ turns_end (source_start p ms) c run.0 (starts p ms are c bytes e) over
