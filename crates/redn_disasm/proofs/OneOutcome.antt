-- A text comes to one outcome.
use Rattle.std.proofs.Common.{◌≡◌, ℕ, ◌+◌, List, [], ◌∷◌, ◌++◌, length, sym, ap, subst, ◌∙◌, inl, inr, arith}
use Rattle.std.specs.Prelude.{◌⊎◌, codes, Ok, Err, Result, MatchResult}
use Rattle.redn_words.specs.declared.types.Receive.{Receive}
use Rattle.redn_words.specs.declared.types.Request.{Request}
use Rattle.redn_words.specs.Requests.{encoded}
use Rattle.redn_words.specs.Words.{spelled, with_bytes_at}
use Rattle.redn_image.specs.declared.numbers.Fault.{Fault}
use Rattle.redn_image.specs.declared.numbers.QueueNumbers.{QueueNumbers}
use Rattle.redn_image.specs.declared.numbers.RegionNumbers.{RegionNumbers}
use Rattle.redn_image.specs.Rules.{Numbers}
use Rattle.redn_disasm.specs.Assembly.{Begun, BreaksRule, ComesTo, Ended, Filled, GivenRows, GivesQueue, GivesReceive, GivesRegion, GivesSlot, GivesWord, Leads, Named, Outcome, Place, Progress, WrongLine, data_formats, memory_formats, no_rows, queue_formats, queue_values, receive_formats, receive_values, region_formats, region_values, settled, slot_formats, slot_values}
use Rattle.redn_disasm.proofs.OneValue.{one_row}

abbrev nth_0 : List ℕ → ℕ
nth_0 [] = 0
nth_0 (x ∷ xs) = x

abbrev nth_1 : List ℕ → ℕ
nth_1 [] = 0
nth_1 (x ∷ xs) = nth_0 xs

abbrev nth_2 : List ℕ → ℕ
nth_2 [] = 0
nth_2 (x ∷ xs) = nth_1 xs

-- rows from their values
abbrev region_from : List ℕ → RegionNumbers
region_from (a ∷ b ∷ c ∷ d ∷ e ∷ f ∷ g ∷ []) = record { key = a; domain = b; kind = c; table = d; rights = e; base = f; len = g }
region_from _ = record { key = 0; domain = 0; kind = 0; table = 0; rights = 0; base = 0; len = 0 }

abbrev queue_from : List ℕ → QueueNumbers
queue_from (k ∷ a ∷ b ∷ c ∷ d ∷ e ∷ []) = record { domain = a; managed = b; base = c; slots = d; limit = e }
queue_from _ = record { domain = 0; managed = 0; base = 0; slots = 0; limit = 0 }

abbrev receive_from : List ℕ → Receive
receive_from (k ∷ a ∷ b ∷ []) = record { base = a; len = b }
receive_from _ = record { base = 0; len = 0 }

abbrev request_from : List ℕ → Request
request_from (k ∷ i ∷ a ∷ b ∷ c ∷ d ∷ e ∷ f ∷ g ∷ h ∷ j ∷ l ∷ []) = record { op = a; id = b; lkey = c; rkey = d; local = e; remote = f; length = g; first = h; second = j; flags = l }
request_from _ = record { op = 0; id = 0; lkey = 0; rkey = 0; local = 0; remote = 0; length = 0; first = 0; second = 0; flags = 0 }

one_region : (n : Numbers) (line : List ℕ) (x y : Progress) → GivesRegion n line x → GivesRegion n line y → x ≡ y
one_region n line x y a b =
    let same : a.0 ≡ b.0 = ap region_from (one_row (codes "region") region_formats line (region_values a.0) (region_values b.0) a.1 b.1) in
    a.4 ∙ ap (λ (r : RegionNumbers). GivenRows (record n { regions = n.regions ++ r ∷ [] })) same ∙ sym b.4

one_queue : (n : Numbers) (line : List ℕ) (x y : Progress) → GivesQueue n line x → GivesQueue n line y → x ≡ y
one_queue n line x y a b =
    let same : a.0 ≡ b.0 = ap queue_from (one_row (codes "queue") queue_formats line (queue_values (length n.queues) a.0) (queue_values (length n.queues) b.0) a.1 b.1) in
    a.3 ∙ ap (λ (q : QueueNumbers). GivenRows (record n { queues = n.queues ++ q ∷ [] })) same ∙ sym b.3

one_receive : (n : Numbers) (line : List ℕ) (x y : Progress) → GivesReceive n line x → GivesReceive n line y → x ≡ y
one_receive n line x y a b =
    let same : a.0 ≡ b.0 = ap receive_from (one_row (codes "receive") receive_formats line (receive_values (length n.receives) a.0) (receive_values (length n.receives) b.0) a.1 b.1) in
    a.2 ∙ ap (λ (r : Receive). GivenRows (record n { receives = n.receives ++ r ∷ [] })) same ∙ sym b.2

one_slot : (n : Numbers) (place : Place) (slots : List Place) (memory line : List ℕ) (x y : Progress) → GivesSlot n place slots memory line x → GivesSlot n place slots memory line y → x ≡ y
one_slot n place slots memory line x y a b =
    let same : a.0 ≡ b.0 = ap request_from (one_row (codes "slot") slot_formats line (slot_values place.queue place.index a.0) (slot_values place.queue place.index b.0) a.1 b.1) in
    a.2 ∙ ap (λ (r : Request). Filled n slots (with_bytes_at memory place.at (encoded r))) same ∙ sym b.2

one_word : (n : Numbers) (memory line : List ℕ) (x y : Progress) → GivesWord n memory line x → GivesWord n memory line y → x ≡ y
one_word n memory line x y a b =
    let values = one_row (codes "data") data_formats line (a.0 ∷ a.1 ∷ []) (b.0 ∷ b.1 ∷ []) a.2 b.2 in
    let offset : a.0 ≡ b.0 = ap nth_0 values in
    let word : a.1 ≡ b.1 = ap nth_1 values in
    a.5 ∙ ap (λ (o : ℕ). Filled n [] (with_bytes_at memory o (spelled 8 a.1))) offset ∙ ap (λ (w : ℕ). Filled n [] (with_bytes_at memory b.0 (spelled 8 w))) word ∙ sym b.5

region_queue : (n : Numbers) (line : List ℕ) (x y : Progress) → GivesRegion n line x → GivesQueue n line y → ⊥
region_queue n line x y a b = let e = ap nth_0 (sym a.1.1 ∙ b.1.1) in omega arith

region_receive : (n : Numbers) (line : List ℕ) (x y : Progress) → GivesRegion n line x → GivesReceive n line y → ⊥
region_receive n line x y a b = let e = ap nth_2 (sym a.1.1 ∙ b.1.1) in omega arith

queue_receive : (n : Numbers) (line : List ℕ) (x y : Progress) → GivesQueue n line x → GivesReceive n line y → ⊥
queue_receive n line x y a b = let e = ap nth_0 (sym a.1.1 ∙ b.1.1) in omega arith

word_last : (n : Numbers) (memory line : List ℕ) (x : Progress) → GivesWord n memory line x → line ≡ codes "end\n" → ⊥
word_last n memory line x a e = let f = ap nth_0 (sym a.2.1 ∙ e) in omega arith

-- a line leads to one thing
one_lead : (p : Progress) (line : List ℕ) (x y : Progress) → Leads p line x → Leads p line y → x ≡ y
unfolding Leads
one_lead Begun line x y a b = a.1 ∙ sym b.1
one_lead Named line x y a b =
    let same : a.0 ≡ b.0 = ap nth_0 (one_row (codes "memory") memory_formats line (a.0 ∷ []) (b.0 ∷ []) a.1 b.1) in
    a.2 ∙ ap (λ (s : ℕ). GivenRows (no_rows s)) same ∙ sym b.2
one_lead (GivenRows n) line x y (inl a) (inl b) = one_region n line x y a b
one_lead (GivenRows n) line x y (inl a) (inr (inl b)) = absurd (region_queue n line x y a b)
one_lead (GivenRows n) line x y (inl a) (inr (inr b)) = absurd (region_receive n line x y a b)
one_lead (GivenRows n) line x y (inr (inl a)) (inl b) = absurd (region_queue n line y x b a)
one_lead (GivenRows n) line x y (inr (inl a)) (inr (inl b)) = one_queue n line x y a b
one_lead (GivenRows n) line x y (inr (inl a)) (inr (inr b)) = absurd (queue_receive n line x y a b)
one_lead (GivenRows n) line x y (inr (inr a)) (inl b) = absurd (region_receive n line y x b a)
one_lead (GivenRows n) line x y (inr (inr a)) (inr (inl b)) = absurd (queue_receive n line y x b a)
one_lead (GivenRows n) line x y (inr (inr a)) (inr (inr b)) = one_receive n line x y a b
one_lead (Filled n (place ∷ slots) memory) line x y a b = one_slot n place slots memory line x y a b
one_lead (Filled n [] memory) line x y (inl a) (inl b) = one_word n memory line x y a b
one_lead (Filled n [] memory) line x y (inl a) (inr b) = absurd (word_last n memory line x a b.0)
one_lead (Filled n [] memory) line x y (inr a) (inl b) = absurd (word_last n memory line y b a.0)
one_lead (Filled n [] memory) line x y (inr a) (inr b) = a.1 ∙ sym b.1
one_lead (Ended n memory) line x y a b = absurd a

abbrev Follows : ℕ → List ℕ → List (List ℕ) → Outcome → Progress → Type 0
Follows k line lines out q = ((after : Progress) × Leads q line after × ComesTo (k + 1) after lines out) ⊎ (((after : Progress) → ¬ Leads q line after) × (out ≡ WrongLine k))

one_follows : (k : ℕ) (line : List ℕ) (lines : List (List ℕ)) (a b : Outcome) (q : Progress) → ((p : Progress) → ComesTo (k + 1) p lines a → ComesTo (k + 1) p lines b → a ≡ b) → Follows k line lines a q → Follows k line lines b q → a ≡ b
one_follows k line lines a b q more (inl x) (inl y) = more y.0 (subst (λ (p : Progress). ComesTo (k + 1) p lines a) (one_lead q line x.0 y.0 x.1 y.1) x.2) y.2
one_follows k line lines a b q more (inl x) (inr y) = absurd (y.0 x.0 x.1)
one_follows k line lines a b q more (inr x) (inl y) = absurd (x.0 y.0 y.1)
one_follows k line lines a b q more (inr x) (inr y) = x.1 ∙ sym y.1

one_step : (k : ℕ) (line : List ℕ) (lines : List (List ℕ)) (a b : Outcome) (r : Result Progress Fault) → ((p : Progress) → ComesTo (k + 1) p lines a → ComesTo (k + 1) p lines b → a ≡ b) → MatchResult r (Follows k line lines a) (λ (f : Fault). a ≡ BreaksRule f) → MatchResult r (Follows k line lines b) (λ (f : Fault). b ≡ BreaksRule f) → a ≡ b
one_step k line lines a b (Ok q) more x y = one_follows k line lines a b q more x y
one_step k line lines a b (Err f) more x y = x ∙ sym y

pub one_outcome : (k : ℕ) (p : Progress) (lines : List (List ℕ)) (a b : Outcome) → ComesTo k p lines a → ComesTo k p lines b → a ≡ b
one_outcome k p [] a b x y = x ∙ sym y
one_outcome k p (line ∷ lines) a b x y = one_step k line lines a b (settled p line) (λ q. one_outcome (k + 1) q lines a b) x y
