-- Jumps past blocks that do nothing.
use Rattle.std.proofs.Common.{◌≡◌, ℕ, zero, suc, ◌+◌, ◌-◌, ◌<◌, ◌≤◌, Bool, true, false, if◌then◌else◌, List, length, Option, Some, None, refl, sym, ap, ◌∙◌, subst, arith}
use Rattle.std.specs.Prelude.{slice_get, unwrap_or}
use Rattle.redn_graph.specs.declared.types.End.{End}
use Rattle.redn_graph.specs.declared.types.End.TheVariants.{Jump, Test48, Test64, Probe, Reply}
use Rattle.redn_graph.specs.declared.types.Block.{Block}
use Rattle.redn_graph.specs.Finding.{EachThere, TargetsThere}
use Rattle.redn_graph.specs.Idle.{only_puts_back, jump_of, idle_block, idle_at, jumps, past_idle}

none_some : {A : Type 0} {x : A} → None ≡ Some x → ⊥
none_some e = cc

some_is : {a b : ℕ} → Some a ≡ Some b → a ≡ b
some_is e = cc

-- what an idle block is
pub record IsIdle (blocks : List Block) (k l : ℕ) : Type 0 where
  pub block : Block
  pub there : slice_get blocks k ≡ Some block
  pub idle : only_puts_back block.instrs ≡ true
  pub end : block.end ≡ Jump l

end_is : (end : End) (l : ℕ) → jump_of end ≡ Some l → end ≡ Jump l
end_is (Jump to) l e = ap Jump (some_is e)
end_is (Test48 left right met unmet) l e = absurd (none_some e)
end_is (Test64 left right met unmet) l e = absurd (none_some e)
end_is (Probe to table offset key hit miss) l e = absurd (none_some e)
end_is (Reply words) l e = absurd (none_some e)

code_is : (b : Bool) (end : End) (l : ℕ) → (let o : Option ℕ = if b then jump_of end else None in o) ≡ Some l → (b ≡ true) × (end ≡ Jump l)
code_is true end l e = (refl, end_is end l e)
code_is false end l e = absurd (none_some e)

idle_of : (blocks : List Block) (k l : ℕ) (o : Option Block) → slice_get blocks k ≡ o → idle_block o ≡ Some l → IsIdle blocks k l
idle_of blocks k l None at e = absurd (none_some e)
idle_of blocks k l (Some b) at e = let is = code_is (only_puts_back b.instrs) b.end l e in record { block = b; there = at; idle = is.0; end = is.1 }

pub idle_is : (blocks : List Block) (k l : ℕ) → idle_at blocks k ≡ Some l → IsIdle blocks k l
idle_is blocks k l e = idle_of blocks k l (slice_get blocks k) refl e

-- its target is there
pub idle_there : (blocks : List Block) (k l : ℕ) → EachThere blocks → idle_at blocks k ≡ Some l → l < length blocks
idle_there blocks k l each e =
    let i = idle_is blocks k l e in
    subst (TargetsThere (length blocks)) i.end (each k i.block i.there) l refl

pub jumps_stay : (blocks : List Block) (n k : ℕ) → idle_at blocks k ≡ None → jumps blocks n k ≡ k
jumps_stay blocks zero k none = refl
jumps_stay blocks (suc n) k none = ap (λ (o : Option ℕ). jumps blocks n (unwrap_or o k)) none ∙ jumps_stay blocks n k none

pub jumps_add : (blocks : List Block) (m n k : ℕ) → jumps blocks (m + n) k ≡ jumps blocks n (jumps blocks m k)
jumps_add blocks zero n k = let e : zero + n ≡ n = omega arith in ap (λ (i : ℕ). jumps blocks i k) e
jumps_add blocks (suc m) n k = let e : suc m + n ≡ suc (m + n) = omega arith in ap (λ (i : ℕ). jumps blocks i k) e ∙ jumps_add blocks m n (unwrap_or (idle_at blocks k) k)

-- one more
pub jumps_more : (blocks : List Block) (n k at next : ℕ) → at ≡ jumps blocks n k → idle_at blocks at ≡ Some next → next ≡ jumps blocks (n + 1) k
jumps_more blocks n k at next is leads =
    sym (jumps_add blocks n 1 k ∙ ap (λ (l : ℕ). unwrap_or (idle_at blocks l) l) (sym is) ∙ ap (λ (o : Option ℕ). unwrap_or o at) leads)

-- the end was reached earlier
pub jumps_done : (blocks : List Block) (n k at : ℕ) → n ≤ length blocks → at ≡ jumps blocks n k → idle_at blocks at ≡ None → at ≡ past_idle blocks k
jumps_done blocks n k at few is none =
    let m : ℕ = length blocks - n in
    let e : length blocks ≡ n + m = omega arith in
    sym (ap (λ (i : ℕ). jumps blocks i k) e ∙ jumps_add blocks n m k ∙ ap (jumps blocks m) (sym is) ∙ jumps_stay blocks m at none)

jumps_on : (blocks : List Block) (n k : ℕ) → EachThere blocks → ((l : ℕ) → l < length blocks → jumps blocks n l < length blocks) → k < length blocks → (o : Option ℕ) → idle_at blocks k ≡ o → jumps blocks n (unwrap_or (idle_at blocks k) k) < length blocks
jumps_on blocks n k each rest lt None none = subst (λ (o : Option ℕ). jumps blocks n (unwrap_or o k) < length blocks) (sym none) (rest k lt)
jumps_on blocks n k each rest lt (Some l) leads = subst (λ (o : Option ℕ). jumps blocks n (unwrap_or o k) < length blocks) (sym leads) (rest l (idle_there blocks k l each leads))

-- all blocks on the way are there
pub jumps_there : (blocks : List Block) (n k : ℕ) → EachThere blocks → k < length blocks → jumps blocks n k < length blocks
jumps_there blocks zero k each lt = lt
jumps_there blocks (suc n) k each lt = jumps_on blocks n k each (λ l there. jumps_there blocks n l each there) lt (idle_at blocks k) refl
