use Rattle.std.proofs.Common.{rules, ◌≡◌, ℕ, Bool, suc, ◌+◌, ◌*◌, ◌<◌, ◌^◌, ◌++◌, [], ◌∷◌, map, length, List, refl, sym, subst, ap, ◌∙◌, arith}
use Rattle.std.specs.List.{range_with_len}
use Rattle.std.proofs.lemmas.List.FromFn.{map-range_with_len_more}
use Rattle.redn_segment.specs.declared.types.Draft.{Draft}
use Rattle.redn_segment.specs.Building.{drafts_of}
use Rattle.redn_recycle.specs.Lapped.{segment_at, start_of, first_of, slots_added, added_to, sends_last}
use Rattle.redn_recycle.proofs.Starts.{item_is, end_next, first_next, end_small, first_small}
use Rattle.redn_recycle.proofs.places.Places.new.Goals as goal

pub overflow_cast-drafts : goal.overflow_cast-drafts
overflow_cast-drafts c =
    let xs : List (List Draft) = c.deref-s-items.result.now in
    let len : c.len-drafts.result ≡ length (segment_at xs c.loop-j.j) = (let h : c.len-drafts.result ≡ length c.s.inside.drafts.items = search rules in h) ∙ ap length (c.s.view_is ∙ c.s-item.is ∙ item_is xs c.loop-j.j c.s-item.result [] c.loop-j-test.true) in
    let few : length (drafts_of xs) + 4 * length xs < 2 ^ 32 = subst (λ (ys : List (List Draft)). length (drafts_of ys) + 4 * length ys < 2 ^ 32) (sym c.deref-s-items.ensures.value) c.requires.few in
    let small = end_small xs c.loop-j.j c.loop-j.end c.loop-j.first c.len-drafts.result (slots_added xs c.loop-j.j) c.loop-j-test.true few c.loop-j.invariant.end_is c.loop-j.invariant.first_is len refl in
    omega (arith, small)

pub overflow_add-end : goal.overflow_add-end
overflow_add-end c =
    let xs : List (List Draft) = c.deref-s-items.result.now in
    let len : c.len-drafts.result ≡ length (segment_at xs c.loop-j.j) = (let h : c.len-drafts.result ≡ length c.s.inside.drafts.items = search rules in h) ∙ ap length (c.s.view_is ∙ c.s-item.is ∙ item_is xs c.loop-j.j c.s-item.result [] c.loop-j-test.true) in
    let few : length (drafts_of xs) + 4 * length xs < 2 ^ 32 = subst (λ (ys : List (List Draft)). length (drafts_of ys) + 4 * length ys < 2 ^ 32) (sym c.deref-s-items.ensures.value) c.requires.few in
    let small = end_small xs c.loop-j.j c.loop-j.end c.loop-j.first c.len-drafts.result (slots_added xs c.loop-j.j) c.loop-j-test.true few c.loop-j.invariant.end_is c.loop-j.invariant.first_is len refl in
    omega (arith, small)

pub overflow_add-first : goal.overflow_add-first
overflow_add-first c =
    let xs : List (List Draft) = c.deref-s-items.result.now in
    let len : c.len-drafts.result ≡ length (segment_at xs c.loop-j.j) = (let h : c.len-drafts.result ≡ length c.s.inside.drafts.items = search rules in h) ∙ ap length (c.s.view_is ∙ c.s-item.is ∙ item_is xs c.loop-j.j c.s-item.result [] c.loop-j-test.true) in
    let few : length (drafts_of xs) + 4 * length xs < 2 ^ 32 = subst (λ (ys : List (List Draft)). length (drafts_of ys) + 4 * length ys < 2 ^ 32) (sym c.deref-s-items.ensures.value) c.requires.few in
    let sends_is : c.sends_last-sends.result ≡ sends_last xs = c.sends_last-sends.ensures ∙ ap sends_last (c.deref.ensures.value ∙ sym c.deref-s-items.ensures.value) in
    let count_is : c.len-count.result ≡ length xs = (let h : c.len-count.result ≡ length c.args.r.segments.items = search rules in h) ∙ ap length (sym c.deref-s-items.ensures.value) in
    let added : c.added_to.result ≡ slots_added xs c.loop-j.j = c.added_to.ensures ∙ ap (λ (b : Bool). added_to b c.len-count.result c.loop-j.j) sends_is ∙ ap (λ (n : ℕ). added_to (sends_last xs) n c.loop-j.j) count_is in
    let small = first_small xs c.loop-j.j c.loop-j.end c.loop-j.first c.len-drafts.result c.added_to.result c.loop-j-test.true few c.loop-j.invariant.end_is c.loop-j.invariant.first_is len added in
    omega (arith, small)

pub overflow_add-first-in-loop-j : goal.overflow_add-first-in-loop-j
overflow_add-first-in-loop-j c =
    let xs : List (List Draft) = c.deref-s-items.result.now in
    let len : c.len-drafts.result ≡ length (segment_at xs c.loop-j.j) = (let h : c.len-drafts.result ≡ length c.s.inside.drafts.items = search rules in h) ∙ ap length (c.s.view_is ∙ c.s-item.is ∙ item_is xs c.loop-j.j c.s-item.result [] c.loop-j-test.true) in
    let few : length (drafts_of xs) + 4 * length xs < 2 ^ 32 = subst (λ (ys : List (List Draft)). length (drafts_of ys) + 4 * length ys < 2 ^ 32) (sym c.deref-s-items.ensures.value) c.requires.few in
    let sends_is : c.sends_last-sends.result ≡ sends_last xs = c.sends_last-sends.ensures ∙ ap sends_last (c.deref.ensures.value ∙ sym c.deref-s-items.ensures.value) in
    let count_is : c.len-count.result ≡ length xs = (let h : c.len-count.result ≡ length c.args.r.segments.items = search rules in h) ∙ ap length (sym c.deref-s-items.ensures.value) in
    let added : c.added_to.result ≡ slots_added xs c.loop-j.j = c.added_to.ensures ∙ ap (λ (b : Bool). added_to b c.len-count.result c.loop-j.j) sends_is ∙ ap (λ (n : ℕ). added_to (sends_last xs) n c.loop-j.j) count_is in
    let small = first_small xs c.loop-j.j c.loop-j.end c.loop-j.first c.len-drafts.result c.added_to.result c.loop-j-test.true few c.loop-j.invariant.end_is c.loop-j.invariant.first_is len added in
    omega (arith, small)

pub loop-j-preserved : goal.loop-j-preserved
loop-j-preserved c =
    let xs : List (List Draft) = c.deref-s-items.result.now in
    let len : c.len-drafts.result ≡ length (segment_at xs c.loop-j.j) = (let h : c.len-drafts.result ≡ length c.s.inside.drafts.items = search rules in h) ∙ ap length (c.s.view_is ∙ c.s-item.is ∙ item_is xs c.loop-j.j c.s-item.result [] c.loop-j-test.true) in
    let few : length (drafts_of xs) + 4 * length xs < 2 ^ 32 = subst (λ (ys : List (List Draft)). length (drafts_of ys) + 4 * length ys < 2 ^ 32) (sym c.deref-s-items.ensures.value) c.requires.few in
    let sends_is : c.sends_last-sends.result ≡ sends_last xs = c.sends_last-sends.ensures ∙ ap sends_last (c.deref.ensures.value ∙ sym c.deref-s-items.ensures.value) in
    let count_is : c.len-count.result ≡ length xs = (let h : c.len-count.result ≡ length c.args.r.segments.items = search rules in h) ∙ ap length (sym c.deref-s-items.ensures.value) in
    let added : c.added_to.result ≡ slots_added xs c.loop-j.j = c.added_to.ensures ∙ ap (λ (b : Bool). added_to b c.len-count.result c.loop-j.j) sends_is ∙ ap (λ (n : ℕ). added_to (sends_last xs) n c.loop-j.j) count_is in
    let end = end_next xs c.loop-j.j c.loop-j.end c.loop-j.first c.len-drafts.result c.added_to.result c.loop-j-test.true few c.loop-j.invariant.end_is c.loop-j.invariant.first_is len added in
    let first = first_next xs c.loop-j.j c.loop-j.end c.loop-j.first c.len-drafts.result c.added_to.result c.loop-j-test.true few c.loop-j.invariant.end_is c.loop-j.invariant.first_is len added in
    let next : c.loop-j.j + 1 ≡ suc c.loop-j.j = omega arith in
    let one : start_of xs (c.loop-j.j + 1) ≡ start_of xs (suc c.loop-j.j) = ap (start_of xs) next in
    record {
      end_is = end;
      first_is = first;
      ends_are = c.in_ok-push-2.ensures.items ∙ ap (λ (l : List ℕ). l ++ (c.loop-j.end + c.len-drafts.result) ∷ []) c.loop-j.invariant.ends_are ∙ ap (λ (n : ℕ). map (λ (j : ℕ). start_of xs (suc j)) (range_with_len 0 c.loop-j.j) ++ n ∷ []) (end ∙ one) ∙ sym (map-range_with_len_more (λ (j : ℕ). start_of xs (suc j)) 0 c.loop-j.j c.loop-j.j (omega arith));
      firsts_are = c.in_ok-push-3.ensures.items ∙ ap (λ (l : List ℕ). l ++ (c.loop-j.first + (c.len-drafts.result + c.added_to.result)) ∷ []) c.loop-j.invariant.firsts_are ∙ ap (λ (n : ℕ). map (first_of xs) (range_with_len 0 (c.loop-j.j + 1)) ++ n ∷ []) first ∙ sym (map-range_with_len_more (first_of xs) 0 (c.loop-j.j + 1) (c.loop-j.j + 1) (omega arith));
    }
