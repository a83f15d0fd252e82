-- The last segment of a block's ring: a reply's SEND, or no draft at all.
use Rattle.std.proofs.Common.{◌≡◌, ℕ, zero, suc, ◌+◌, ◌-◌, ◌≤◌, Bool, true, false, List, [], ◌∷◌, ◌++◌, length, refl, sym, ap, ◌∙◌, subst, arith, length-append, drop}
use Rattle.std.specs.Prelude.{get_or}
use Rattle.std.proofs.lemmas.Bool.{true≢false}
use Rattle.std.proofs.lemmas.List.{append-nil, get_or-append-add}
use Rattle.redn_graph.specs.declared.types.Instr.{Instr}
use Rattle.redn_graph.specs.declared.types.End.{End}
use Rattle.redn_graph.specs.declared.types.End.TheVariants.{Reply}
use Rattle.redn_graph.specs.Run.{GraphState}
use Rattle.redn_segment.specs.declared.types.SlotRef.{SlotRef}
use Rattle.redn_segment.specs.declared.types.Draft.{Draft}
use Rattle.redn_segment.specs.Costs.{sends}
use Rattle.redn_segment.specs.Effects.{slot_behind}
use Rattle.redn_segment.specs.Plain.{Bytes}
use Rattle.redn_recycle.specs.Lapped.{segment_at}
use Rattle.redn_block.specs.Blocks.{instr_part, end_part, part_segments, part_size}
use Rattle.redn_block.proofs.Parts.{segments_of}
use Rattle.redn_proof_block.specs.Parts.{Round, GoesOn, EndsAs}

abbrev pub IsReply : End → Bool
IsReply (Reply words) = true
IsReply _ = false

abbrev last_of : List (List Draft) → List Draft
last_of segs = segment_at segs (length segs - 1)

-- the last segment of two lists
last_behind : (xs ys : List (List Draft)) → 1 ≤ length ys → last_of (xs ++ ys) ≡ last_of ys
last_behind xs ys some =
    let long = length-append xs ys in
    let place : length (xs ++ ys) - 1 ≡ length xs + (length ys - 1) = omega (arith, long, some) in
    ap (λ (n : ℕ). get_or (xs ++ ys) n []) place ∙ get_or-append-add xs ys (length ys - 1) []

pub record LastIs (e : End) (segs : List (List Draft)) : Type 0 where
  pub some : 1 ≤ length segs
  pub empty : IsReply e ≡ false → last_of segs ≡ []
  pub sent : IsReply e ≡ true → sends (last_of segs) ≡ true

end_last : (first : ℕ) (e : End) (at : SlotRef) → LastIs e (part_segments at (end_part first e))
end_last first (Reply words) at = record { some = omega arith; empty = λ h. absurd (true≢false h); sent = λ h. refl }
end_last first _ at = record { some = omega arith; empty = λ h. refl; sent = λ h. absurd (true≢false (sym h)) }

pub block_last : (first : ℕ) (is : List Instr) (e : End) (at : SlotRef) → LastIs e (segments_of first at is e)
block_last first [] e at = subst (LastIs e) (sym (append-nil (part_segments at (end_part first e)))) (end_last first e at)
block_last first (i ∷ is) e at =
    let xs : List (List Draft) = part_segments at (instr_part i) in
    let ys : List (List Draft) = segments_of first (slot_behind at (part_size at (instr_part i))) is e in
    let rest = block_last first is e (slot_behind at (part_size at (instr_part i))) in
    let some = rest.some in
    record {
      some = let long = length-append xs ys in omega (arith, long, some);
      empty = λ h. last_behind xs ys some ∙ rest.empty h;
      sent = λ h. ap sends (last_behind xs ys some) ∙ rest.sent h;
    }

-- an end that is no reply goes on
pub goes_of : (r : Round) (e : End) → IsReply e ≡ false → (b : Bytes) (z : GraphState) (t : Bytes) → EndsAs r e b z t → GoesOn r b z t
goes_of r (Reply words) h b z t k = absurd (true≢false h)
goes_of r _ h b z t k = k

-- what is left of a list from one place on
pub dropped : {X : Type 0} (xs : List X) (j : ℕ) (d x : X) (rest : List X) → drop j xs ≡ x ∷ rest → (get_or xs j d ≡ x) × (drop (suc j) xs ≡ rest)
dropped [] zero d x rest e = absurd (cc)
dropped [] (suc j) d x rest e = absurd (cc)
dropped (y ∷ xs) zero d x rest e = (cc, cc)
dropped (y ∷ xs) (suc j) d x rest e = dropped xs j d x rest e
