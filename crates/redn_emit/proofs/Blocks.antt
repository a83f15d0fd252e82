-- The segments of a block: what laps ask of them, and how many slots they take.
use Rattle.std.proofs.Common.{◌≡◌, ℕ, suc, ◌+◌, ◌-◌, ◌*◌, ◌<◌, ◌≤◌, Bool, true, false, cond, List, [], ◌∷◌, ◌++◌, length, map, get_or, refl, sym, ap, ◌∙◌, subst, arith, length-append, append-nil}
use Rattle.std.specs.List.{list_all, AllByRecursion}
use Rattle.std.proofs.lemmas.List.Sums.{sum_by-cons}
use Rattle.redn_kernel.specs.declared.types.Cell.{Cell}
use Rattle.redn_kernel.specs.declared.types.Cell.TheVariants as cell
use Rattle.redn_graph.specs.declared.types.Instr.{Instr}
use Rattle.redn_graph.specs.declared.types.Instr.TheVariants.{Set, Move, Add, Load, Store}
use Rattle.redn_graph.specs.declared.types.End.{End}
use Rattle.redn_graph.specs.declared.types.End.TheVariants.{Jump, Test48, Test64, Probe, Reply}
use Rattle.redn_graph.specs.Slots.{instr_slots, end_slots, code_slots}
use Rattle.redn_segment.specs.declared.types.SlotRef.{SlotRef}
use Rattle.redn_segment.specs.declared.types.Site.{Site}
use Rattle.redn_segment.specs.declared.types.Site.TheVariants as site
use Rattle.redn_segment.specs.declared.types.Draft.{Draft}
use Rattle.redn_segment.specs.Building.{drafts_of}
use Rattle.redn_segment.specs.Effects.{slot_behind}
use Rattle.redn_segment.specs.Costs.{sends}
use Rattle.redn_segment.specs.Templates.{is_some, all_filled}
use Rattle.redn_segment.proofs.Growing.{drafts_append, length-drafts}
use Rattle.redn_move.specs.Adding.{add_segments}
use Rattle.redn_move.specs.Replying.{copies_from, send_words, reply}
use Rattle.redn_recycle.specs.Lapped.{sends_last}
use Rattle.redn_block.specs.Blocks.{instr_part, end_part, part_segments, part_size, all_segments, slots_from, EndFits}

abbrev pub SiteFits : ℕ → ℕ → Site → Type 0
SiteFits ring below (site.Field f) = (f.slot.ring ≡ ring) × (f.slot.slot < below) × (f.byte ≤ 64)
SiteFits ring below (site.ReplyWord i) = i ≤ 8
SiteFits ring below (site.Table t offset) = offset ≤ 64
SiteFits ring below _ = Unit {0}

abbrev pub DraftFits : ℕ → ℕ → Draft → Type 0
DraftFits ring below d = SiteFits ring below d.local × SiteFits ring below d.remote

-- each draft names slots of its ring below a number, and begins near the beginning of its spaces
abbrev pub AllFit : ℕ → ℕ → List Draft → Type 0
AllFit ring below ds = AllByRecursion (DraftFits ring below) ds

add_fits : (at : SlotRef) (to by : Cell) → AllFit at.ring (at.slot + length (drafts_of (add_segments (slots_from at) to by))) (drafts_of (add_segments (slots_from at) to by))
add_fits at to (cell.Num n) = ((tt, tt), tt)
add_fits at to (cell.Var x) = ((tt, (refl, omega arith, omega arith)), ((tt, tt), tt))
add_fits at to (cell.Hidden k) = ((tt, (refl, omega arith, omega arith)), ((tt, tt), tt))
add_fits at to (cell.Argument i) = ((tt, (refl, omega arith, omega arith)), ((tt, tt), tt))

instr_fits : (at : SlotRef) (i : Instr) → AllFit at.ring (at.slot + part_size at (instr_part i)) (drafts_of (part_segments at (instr_part i)))
instr_fits at (Set to v) = ((tt, tt), tt)
instr_fits at (Move to from) = ((tt, tt), tt)
instr_fits at (Add to by) = add_fits at to by
instr_fits at (Load to t offset) = ((tt, (refl, omega arith, omega arith)), ((tt, omega arith), tt))
instr_fits at (Store t offset from) = ((tt, (refl, omega arith, omega arith)), ((tt, omega arith), tt))

pub is_reply : End → Bool
is_reply (Reply words) = true
is_reply _ = false

-- an end but a reply has a last ENABLE, behind its drafts
abbrev pub behind : Bool → ℕ
behind sends = cond sends 0 1

abbrev pub spared : Bool → ℕ
spared sends = cond sends 4 0

pub record InstrIs (at : SlotRef) (i : Instr) : Type 0 where
  pub fits : AllFit at.ring (at.slot + part_size at (instr_part i)) (drafts_of (part_segments at (instr_part i)))
  pub filled : list_all is_some (part_segments at (instr_part i)) ≡ true
  pub few : part_size at (instr_part i) + 4 * length (part_segments at (instr_part i)) ≤ instr_slots i

add_is : (at : SlotRef) (to by : Cell) → InstrIs at (Add to by)
add_is at to (cell.Num n) = record { fits = add_fits at to (cell.Num n); filled = refl; few = omega arith }
add_is at to (cell.Var x) = record { fits = add_fits at to (cell.Var x); filled = refl; few = omega arith }
add_is at to (cell.Hidden k) = record { fits = add_fits at to (cell.Hidden k); filled = refl; few = omega arith }
add_is at to (cell.Argument j) = record { fits = add_fits at to (cell.Argument j); filled = refl; few = omega arith }

pub instr_is : (at : SlotRef) (i : Instr) → InstrIs at i
instr_is at (Set to v) = record { fits = instr_fits at (Set to v); filled = refl; few = omega arith }
instr_is at (Move to from) = record { fits = instr_fits at (Move to from); filled = refl; few = omega arith }
instr_is at (Add to by) = add_is at to by
instr_is at (Load to t offset) = record { fits = instr_fits at (Load to t offset); filled = refl; few = omega arith }
instr_is at (Store t offset from) = record { fits = instr_fits at (Store t offset from); filled = refl; few = omega arith }

-- the same of an end
pub record EndIs (at : SlotRef) (first : ℕ) (e : End) (sends : Bool) : Type 0 where
  pub fits : AllFit at.ring (at.slot + (part_size at (end_part first e) + behind sends)) (drafts_of (part_segments at (end_part first e)))
  pub filled : all_filled (part_segments at (end_part first e)) ≡ true
  pub few : part_size at (end_part first e) + 4 * length (part_segments at (end_part first e)) ≤ end_slots e + spared sends
  pub two : 2 ≤ length (part_segments at (end_part first e))
  pub sends_is : sends_last (part_segments at (end_part first e)) ≡ sends

copies_fit : (ring below i : ℕ) (words : List Cell) → i + length words ≤ 8 → (rest : List Draft) → AllFit ring below rest → AllFit ring below (copies_from i words ++ rest)
copies_fit ring below i [] l rest h = h
copies_fit ring below i (w ∷ ws) l rest h = ((tt, omega arith), copies_fit ring below (i + 1) ws (omega arith) rest h)

length-copies : (i : ℕ) (words : List Cell) → length (copies_from i words) ≡ length words
length-copies i [] = refl
length-copies i (w ∷ ws) = ap suc (length-copies (i + 1) ws)

reply_size : (words : List Cell) → length (drafts_of (reply words)) ≡ length words + 1
reply_size words = length-append (copies_from 0 words) (send_words (length words) ∷ []) ∙ ap (λ (n : ℕ). n + 1) (length-copies 0 words)

reply_is : (at : SlotRef) (first : ℕ) (words : List Cell) → 1 ≤ length words → length words ≤ 8 → EndIs at first (Reply words) true
reply_is at first [] some few = absurd (omega arith)
reply_is at first (w ∷ ws) some few =
    record {
      fits = copies_fit at.ring _ 0 (w ∷ ws) (omega arith) _ ((omega arith, omega arith), tt);
      filled = refl;
      few = (let size = reply_size (w ∷ ws) in omega (arith, size));
      two = omega arith;
      sends_is = refl;
    }

pub end_is : (at : SlotRef) (most first : ℕ) (e : End) → EndFits most first e → EndIs at first e (is_reply e)
unfolding is_reply
end_is at most first (Jump to) fits =
    record { fits = ((tt, (refl, omega arith, omega arith)), tt); filled = refl; few = omega arith; two = omega arith; sends_is = refl }
end_is at most first (Test48 left right met unmet) fits =
    record {
      fits = ((tt, (refl, omega arith, omega arith)), ((tt, (refl, omega arith, omega arith)), ((tt, (refl, omega arith, omega arith)), ((tt, (refl, omega arith, omega arith)), ((tt, (refl, omega arith, omega arith)), ((tt, (refl, omega arith, omega arith)), tt))))));
      filled = refl;
      few = omega arith;
      two = omega arith;
      sends_is = refl;
    }
end_is at most first (Test64 left right met unmet) fits =
    record { fits = ((tt, (refl, omega arith, omega arith)), ((tt, (refl, omega arith, omega arith)), ((tt, (refl, omega arith, omega arith)), ((tt, (refl, omega arith, omega arith)), ((tt, (refl, omega arith, omega arith)), ((tt, (refl, omega arith, omega arith)), ((tt, (refl, omega arith, omega arith)), ((tt, (refl, omega arith, omega arith)), ((tt, (refl, omega arith, omega arith)), ((tt, (refl, omega arith, omega arith)), tt)))))))))); filled = refl; few = omega arith; two = omega arith; sends_is = refl }
end_is at most first (Probe to t offset key hit miss) fits =
    record { fits = ((tt, (refl, omega arith, omega arith)), ((tt, (refl, omega arith, omega arith)), ((tt, (refl, omega arith, omega arith)), ((tt, (refl, omega arith, omega arith)), ((tt, (refl, omega arith, omega arith)), ((tt, (refl, omega arith, omega arith)), ((tt, omega arith), ((tt, (refl, omega arith, omega arith)), ((tt, (refl, omega arith, omega arith)), ((tt, (refl, omega arith, omega arith)), ((tt, (refl, omega arith, omega arith)), ((tt, (refl, omega arith, omega arith)), ((tt, (refl, omega arith, omega arith)), ((tt, omega arith), ((tt, (refl, omega arith, omega arith)), tt))))))))))))))); filled = refl; few = omega arith; two = omega arith; sends_is = refl }
end_is at most first (Reply words) fits = reply_is at first words fits.0 fits.1

site_more : (ring m n : ℕ) → m ≤ n → (s : Site) → SiteFits ring m s → SiteFits ring n s
site_more ring m n l (site.Field f) h = let low = h.1 in (h.0, omega (arith, low), h.2)
site_more ring m n l (site.ReplyWord i) h = h
site_more ring m n l (site.Table t offset) h = h
site_more ring m n l (site.Cell c) h = tt
site_more ring m n l site.Key h = tt
site_more ring m n l (site.Scratch i) h = tt
site_more ring m n l (site.Descriptor r) h = tt

fit_more : (ring m n : ℕ) → m ≤ n → (ds : List Draft) → AllFit ring m ds → AllFit ring n ds
fit_more ring m n l [] h = tt
fit_more ring m n l (d ∷ ds) h = ((site_more ring m n l d.local h.0.0, site_more ring m n l d.remote h.0.1), fit_more ring m n l ds h.1)

fit_append : (ring n : ℕ) (ds es : List Draft) → AllFit ring n ds → AllFit ring n es → AllFit ring n (ds ++ es)
fit_append ring n [] es h k = k
fit_append ring n (d ∷ ds) es h k = (h.0, fit_append ring n ds es h.1 k)

filled_append : (xs ys : List (List Draft)) → list_all is_some xs ≡ true → all_filled ys ≡ true → all_filled (xs ++ ys) ≡ true
filled_append [] ys h k = k
filled_append ([] ∷ xs) ys h k = cc
filled_append ((d ∷ ds) ∷ []) [] h k = refl
filled_append ((d ∷ ds) ∷ []) (y ∷ ys) h k = k
filled_append ((d ∷ ds) ∷ (x ∷ xs)) ys h k = filled_append (x ∷ xs) ys h k

last_of : (xs ys : List (List Draft)) → 1 ≤ length ys → sends_last (xs ++ ys) ≡ sends_last ys
last_of [] ys l = refl
last_of (x ∷ xs) ys l =
    let zs : List (List Draft) = xs ++ ys in
    let long = length-append xs ys in
    let here : length (x ∷ zs) - 1 ≡ suc (length zs - 1) = omega (arith, long) in
    ap (λ (n : ℕ). sends (get_or (x ∷ zs) n [])) here ∙ last_of xs ys l

abbrev pub segments_of : ℕ → SlotRef → List Instr → End → List (List Draft)
segments_of first at is e = all_segments at (map instr_part is ++ end_part first e ∷ [])

pub record BlockIs (at : SlotRef) (first : ℕ) (is : List Instr) (e : End) (sends : Bool) : Type 0 where
  pub fits : AllFit at.ring (at.slot + (length (drafts_of (segments_of first at is e)) + behind sends)) (drafts_of (segments_of first at is e))
  pub filled : all_filled (segments_of first at is e) ≡ true
  pub few : length (drafts_of (segments_of first at is e)) + 4 * length (segments_of first at is e) ≤ code_slots is e + spared sends
  pub two : 2 ≤ length (segments_of first at is e)
  pub sends_is : sends_last (segments_of first at is e) ≡ sends

pub block_is : (most first : ℕ) (is : List Instr) (e : End) → EndFits most first e → (at : SlotRef) → BlockIs at first is e (is_reply e)
block_is most first [] e fits at =
    let end = end_is at most first e fits in
    let segs : List (List Draft) = part_segments at (end_part first e) in
    let all : segs ++ [] ≡ segs = append-nil segs in
    let count : length (drafts_of (segs ++ [])) ≡ length (drafts_of segs) = ap (λ (l : List (List Draft)). length (drafts_of l)) all in
    let many : length (segs ++ []) ≡ length segs = ap length all in
    let few = end.few in
    let two = end.two in
    record {
      fits = subst (λ (l : List (List Draft)). AllFit at.ring (at.slot + (length (drafts_of l) + behind (is_reply e))) (drafts_of l)) (sym all) end.fits;
      filled = ap all_filled all ∙ end.filled;
      few = omega (arith, count, many, few);
      two = omega (arith, many, two);
      sends_is = ap sends_last all ∙ end.sends_is;
    }
block_is most first (i ∷ is) e fits at =
    let one = instr_is at i in
    let there : SlotRef = slot_behind at (part_size at (instr_part i)) in
    let rest = block_is most first is e fits there in
    let xs : List (List Draft) = part_segments at (instr_part i) in
    let ys : List (List Draft) = segments_of first there is e in
    let count : length (drafts_of (xs ++ ys)) ≡ length (drafts_of xs) + length (drafts_of ys) = length-drafts xs ys in
    let many : length (xs ++ ys) ≡ length xs + length ys = length-append xs ys in
    let few_one = one.few in
    let few_rest = rest.few in
    let two = rest.two in
    let cost = sum_by-cons instr_slots i is in
    record {
      fits = subst (λ (l : List Draft). AllFit at.ring (at.slot + (length (drafts_of (xs ++ ys)) + behind (is_reply e))) l) (sym (drafts_append xs ys)) (fit_append at.ring _ (drafts_of xs) (drafts_of ys) (fit_more at.ring _ _ (omega (arith, count)) (drafts_of xs) one.fits) (fit_more at.ring _ _ (omega (arith, count)) (drafts_of ys) rest.fits));
      filled = filled_append xs ys one.filled rest.filled;
      few = omega (arith, count, many, few_one, few_rest, cost);
      two = omega (arith, many, two);
      sends_is = last_of xs ys (omega (arith, two)) ∙ rest.sends_is;
    }
