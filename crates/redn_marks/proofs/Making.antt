-- Marks while they are made: the numbers so far.
use Rattle.std.proofs.Common.{◌≡◌, ℕ, ◌+◌, ◌<◌, List, [], ◌∷◌, ◌++◌, length, map, get_or, set, take, sym, ap, ◌∙◌, arith}
use Rattle.std.proofs.lemmas.List.{get_or-map, map-set, set-get_or, length-take-le, take_more}
use Rattle.redn_marks.specs.declared.marks.Group.{Group}
use Rattle.redn_marks.specs.Seats.{Seats, list_of}
use Rattle.redn_marks.proofs.Joining.{joined}

abbrev pub seats_at : List ℕ → ℕ → List ℕ → List Group → Seats
seats_at group k at groups = record { group = take k group; at = at; lists = map (λ (g : Group). g.numbers.items) groups; marked = map (λ (g : Group). g.marked) groups }

-- number k is added to its group
pub record Adds (group : List ℕ) (k : ℕ) (groups : List Group) (c : ℕ) (old new : Group) : Type 0 where
  pub there : k < length group
  pub group_is : c ≡ get_or group k 0
  pub group_there : c < length groups
  pub old_is : old ≡ get_or groups c old
  pub numbers : new.numbers.items ≡ old.numbers.items ++ k ∷ []
  pub marked : new.marked ≡ old.marked

module _ (group : List ℕ) (k : ℕ) (at : List ℕ) (groups : List Group) (c : ℕ) (old new : Group) (h : Adds group k groups c old new) where
  abbrev s : Seats
  s = seats_at group k at groups

  pub list_is : list_of s c ≡ old.numbers.items
  list_is = get_or-map (λ (g : Group). g.numbers.items) groups c old [] h.group_there ∙ ap (λ (g : Group). g.numbers.items) (sym h.old_is)

  long : length s.group ≡ k
  long = length-take-le k group (omega (arith, h.there))

  lists_are : map (λ (g : Group). g.numbers.items) (set groups c new) ≡ set s.lists c (list_of s c ++ length s.group ∷ [])
  lists_are =
      map-set (λ (g : Group). g.numbers.items) groups c new
      ∙ ap (set s.lists c) (h.numbers ∙ ap (λ (l : List ℕ). l ++ k ∷ []) (sym list_is) ∙ ap (λ (n : ℕ). list_of s c ++ n ∷ []) (sym long))

  marks_are : map (λ (g : Group). g.marked) (set groups c new) ≡ s.marked
  marks_are =
      let old_mark : old.marked ≡ get_or s.marked c 0 = ap (λ (g : Group). g.marked) h.old_is ∙ sym (get_or-map (λ (g : Group). g.marked) groups c old 0 h.group_there) in
      map-set (λ (g : Group). g.marked) groups c new ∙ ap (set s.marked c) (h.marked ∙ old_mark) ∙ set-get_or s.marked c 0

  group_more : take (k + 1) group ≡ s.group ++ c ∷ []
  group_more = take_more group k 0 h.there ∙ ap (λ (x : ℕ). take k group ++ x ∷ []) (sym h.group_is)

  pub next_seats : (place : ℕ) → place ≡ length old.numbers.items → seats_at group (k + 1) (at ++ place ∷ []) (set groups c new) ≡ joined s c
  next_seats place e =
      ap (λ (l : List ℕ). record { group = l; at = at ++ place ∷ []; lists = map (λ (g : Group). g.numbers.items) (set groups c new); marked = map (λ (g : Group). g.marked) (set groups c new) }) group_more
      ∙ ap (λ (x : ℕ). record { group = s.group ++ c ∷ []; at = at ++ x ∷ []; lists = map (λ (g : Group). g.numbers.items) (set groups c new); marked = map (λ (g : Group). g.marked) (set groups c new) }) (e ∙ ap length (sym list_is))
      ∙ ap (λ (l : List (List ℕ)). record { group = s.group ++ c ∷ []; at = at ++ length (list_of s c) ∷ []; lists = l; marked = map (λ (g : Group). g.marked) (set groups c new) }) lists_are
      ∙ ap (λ (l : List ℕ). record { group = s.group ++ c ∷ []; at = at ++ length (list_of s c) ∷ []; lists = set s.lists c (list_of s c ++ length s.group ∷ []); marked = l }) marks_are
