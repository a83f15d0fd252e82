-- How marks are kept: of each group a list of its numbers, the marked ones first.
use Rattle.std.specs.Prelude.{◌≡◌, ℕ, ◌+◌, ◌-◌, ◌^◌, ◌<◌, ◌≤◌, Bool, nat_lt, if◌then◌else◌, List, [], length, map, get_or, slice_index}
use Rattle.std.specs.List.{range_with_len}
use Rattle.redn_marks.specs.Marks.{Marks}
use Rattle.redn_marks.specs.declared.marks.Group.{Group}
use Rattle.redn_marks.specs.declared.marks.Marks.TheInside.{Inside}

-- of each number its group and its place in the group's list; of each group its list, and how many of it are marked
pub record Seats : Type 0 where
  pub group : List ℕ
  pub at : List ℕ
  pub lists : List (List ℕ)
  pub marked : List ℕ

abbrev pub list_of : Seats → ℕ → List ℕ
list_of s c = get_or s.lists c []

abbrev pub number_at : Seats → ℕ → ℕ → ℕ
number_at s c p = slice_index (list_of s c) p

-- a number stands at its place, which is one of its group's
pub record Sits (s : Seats) (n : ℕ) : Type 0 where
  pub group : slice_index s.group n < length s.lists
  pub within : slice_index s.at n < length (list_of s (slice_index s.group n))
  pub there : number_at s (slice_index s.group n) (slice_index s.at n) ≡ n

-- and a place has the number that stands there
pub record Has (s : Seats) (c p : ℕ) : Type 0 where
  pub number : number_at s c p < length s.group
  pub group : slice_index s.group (number_at s c p) ≡ c
  pub place : slice_index s.at (number_at s c p) ≡ p

pub record AreSeated (s : Seats) : Type 0 where
  pub places : length s.at ≡ length s.group
  pub counts : length s.marked ≡ length s.lists
  pub sit : (n : ℕ) → n < length s.group → Sits s n
  pub has : (c p : ℕ) → c < length s.lists → p < length (list_of s c) → Has s c p
  pub few : (c : ℕ) → c < length s.lists → slice_index s.marked c ≤ length (list_of s c)
  pub short : (c : ℕ) → length (list_of s c) < 2 ^ 32

-- a number is marked if its place is one of the marked ones'
abbrev pub sits_marked : Seats → ℕ → Bool
sits_marked s n = nat_lt (slice_index s.at n) (slice_index s.marked (slice_index s.group n))

abbrev pub marks_of : Seats → Marks
marks_of s = record { groups = length s.lists; group = s.group; marked = map (sits_marked s) (range_with_len 0 (length s.group)) }

-- where a number goes that gets its mark, or loses it, and how many are marked then
abbrev pub place_for : Bool → ℕ → ℕ
place_for mark marked = if mark then marked else marked - 1

abbrev pub count_for : Bool → ℕ → ℕ
count_for mark marked = if mark then marked + 1 else marked - 1

-- how the fields are seen
abbrev pub seats_of : Inside → Seats
seats_of a =
    record { group = a.group.items; at = a.at.items; lists = map (λ (g : Group). g.numbers.items) a.groups.items; marked = map (λ (g : Group). g.marked) a.groups.items }

abbrev pub marks_view : Inside → Marks
marks_view a = marks_of (seats_of a)

abbrev pub IsMarks : Inside → Type 0
IsMarks a = AreSeated (seats_of a)
