-- The lines of rows, as texts that are read back.
use Rattle.std.proofs.Common.{◌≡◌, ℕ, ◌+◌, ◌^◌, ◌<◌, Bool, true, false, not, ◌&&◌, ◌==◌, List, [], ◌∷◌, ◌++◌, length, map, decimal, refl, sym, ap, subst, ◌∙◌, inl, inr, arith, append_assoc, append-nil, length-append}
use Rattle.std.specs.Prelude.{codes, Ok}
use Rattle.std.specs.List.{flat_map, list_all}
use Rattle.std.proofs.lemmas.Bool.{and_parts}
use Rattle.redn_words.specs.declared.types.Receive.{Receive}
use Rattle.redn_image.specs.declared.numbers.QueueNumbers.{QueueNumbers}
use Rattle.redn_image.specs.declared.numbers.RegionNumbers.{RegionNumbers}
use Rattle.redn_image.proofs.Back.{FitsQueue, FitsReceive, FitsRegion}
use Rattle.redn_disasm.specs.declared.formats.Format.{Format}
use Rattle.redn_disasm.specs.Assembly.{ComesTo, GivenRows, Leads, Outcome, Progress, fills, is_inside, queue_formats, queue_values, receive_formats, receive_values, region_formats, region_values, settled}
use Rattle.redn_text.specs.Texts.{lines_of}
use Rattle.redn_disasm.specs.Fields.{FieldsAre, IsRow, IsText, kind_word, order_word}
use Rattle.redn_disasm.specs.Listing.{flat_from, queue_line, receive_line, region_line}
use Rattle.redn_text.specs.Texts.{is_no_newline}
use Rattle.redn_text.proofs.Cuts.{after_line}
use Rattle.redn_disasm.proofs.FieldLists.{text_inside}
use Rattle.redn_disasm.proofs.Going.{comes_more, not_held}
use Rattle.redn_disasm.proofs.Pieces.{all_append}
use Rattle.redn_disasm.proofs.Steps.{queue_given, receive_given, region_given, rows_of}

-- a text with one newline, at its end
pub record IsLine (line : List ℕ) : Type 0 where
  pub front : List ℕ
  pub is : line ≡ front ++ 10 ∷ []
  pub inside : list_all is_no_newline front ≡ true

pub next_of : (line rest : List ℕ) → IsLine line → lines_of (line ++ rest) ≡ line ∷ lines_of rest
next_of line rest h =
    ap lines_of (ap (λ (l : List ℕ). l ++ rest) h.is ∙ append_assoc h.front (10 ∷ []) rest) ∙ after_line [] h.front rest h.inside ∙ ap (λ (l : List ℕ). l ∷ lines_of rest) (sym h.is)

no_newline_in : (text : List ℕ) → list_all is_inside text ≡ true → list_all is_no_newline text ≡ true
no_newline_in [] h = refl
no_newline_in (b ∷ text) h =
    let both = and_parts (is_inside b) (list_all is_inside text) h in
    let one = and_parts (not (b == 32)) (not (b == 10)) both.0 in
    ap (λ (v : Bool). v && list_all is_no_newline text) one.1 ∙ no_newline_in text both.1

pub fields_line : (formats : List Format) (text values : List ℕ) → FieldsAre formats text values → IsLine text
fields_line [] text [] h = record { front = []; is = h; inside = refl }
fields_line [] text (n ∷ values) h = absurd h
fields_line (f ∷ formats) text [] h = absurd h
fields_line (f ∷ formats) text (n ∷ values) h =
    let rest = fields_line formats h.1 values h.4 in
    record {
      front = 32 ∷ (h.0 ++ rest.front);
      is = h.2 ∙ ap (λ (l : List ℕ). 32 ∷ (h.0 ++ l)) rest.is ∙ ap (λ (l : List ℕ). 32 ∷ l) (sym (append_assoc h.0 rest.front (10 ∷ [])));
      inside = all_append is_no_newline h.0 rest.front (no_newline_in h.0 (text_inside f h.0 n h.3)) rest.inside;
    }

pub row_line : (word : List ℕ) (formats : List Format) (line values : List ℕ) → list_all is_no_newline word ≡ true → IsRow word formats line values → IsLine line
row_line word formats line values e h =
    let rest = fields_line formats h.0 values h.2 in
    record {
      front = word ++ rest.front;
      is = h.1 ∙ ap (λ (l : List ℕ). word ++ l) rest.is ∙ sym (append_assoc word rest.front (10 ∷ []));
      inside = all_append is_no_newline word rest.front e rest.inside;
    }

-- the texts of fields, one after the other
abbrev pub fields_text : List (List ℕ) → List ℕ
fields_text [] = 10 ∷ []
fields_text (t ∷ texts) = 32 ∷ (t ++ fields_text texts)

abbrev pub Texts : List Format → List (List ℕ) → List ℕ → Type 0
Texts [] [] [] = Unit {0}
Texts [] [] (n ∷ values) = ⊥
Texts [] (t ∷ texts) values = ⊥
Texts (f ∷ formats) [] values = ⊥
Texts (f ∷ formats) (t ∷ texts) [] = ⊥
Texts (f ∷ formats) (t ∷ texts) (n ∷ values) = IsText f t n × Texts formats texts values

pub fields_are : (formats : List Format) (texts : List (List ℕ)) (values : List ℕ) → Texts formats texts values → FieldsAre formats (fields_text texts) values
fields_are [] [] [] h = refl
fields_are [] [] (n ∷ values) h = absurd h
fields_are [] (t ∷ texts) values h = absurd h
fields_are (f ∷ formats) [] values h = absurd h
fields_are (f ∷ formats) (t ∷ texts) [] h = absurd h
fields_are (f ∷ formats) (t ∷ texts) (n ∷ values) h = (t, fields_text texts, refl, h.0, fields_are formats texts values h.1)

joined_5 : (w a b c n : List ℕ) → w ++ a ++ b ++ c ++ n ≡ w ++ (a ++ (b ++ (c ++ n)))
joined_5 w a b c n = simp append_assoc

joined_9 : (w a b s k c d e n : List ℕ) → w ++ a ++ b ++ s ++ k ++ c ++ d ++ e ++ n ≡ w ++ (a ++ (b ++ (s ++ (k ++ (c ++ (d ++ (e ++ n)))))))
joined_9 w a b s k c d e n = simp append_assoc

joined_10 : (w a b s k c d e f n : List ℕ) → w ++ a ++ b ++ s ++ k ++ c ++ d ++ e ++ f ++ n ≡ w ++ (a ++ (b ++ (s ++ (k ++ (c ++ (d ++ (e ++ (f ++ n))))))))
joined_10 w a b s k c d e f n = simp append_assoc

region_texts : RegionNumbers → List (List ℕ)
region_texts r = decimal r.key ∷ decimal r.domain ∷ kind_word r.kind ∷ decimal r.table ∷ decimal r.rights ∷ decimal r.base ∷ decimal r.len ∷ []

region_text : (r : RegionNumbers) → region_line r ≡ codes "region" ++ fields_text (region_texts r)
unfolding region_line region_texts
region_text r =
    joined_10 (codes "region") (codes " " ++ decimal r.key) (codes " " ++ decimal r.domain) (codes " ") (kind_word r.kind) (codes " " ++ decimal r.table) (codes " " ++ decimal r.rights) (codes " " ++ decimal r.base) (codes " " ++ decimal r.len) (codes "\n")

pub region_row : (r : RegionNumbers) → FitsRegion r → r.kind < 5 → IsRow (codes "region") region_formats (region_line r) (region_values r)
unfolding region_texts
region_row r f k =
    let a = f.key in
    let b = f.domain in
    let d = f.table in
    let e = f.rights in
    let g = f.base in
    let h = f.len in
    (fields_text (region_texts r), region_text r, fields_are region_formats (region_texts r) (region_values r) ((refl, omega arith, omega arith), ((refl, omega arith, omega arith), ((refl, k), ((refl, omega arith, omega arith), ((refl, omega arith, omega arith), ((refl, omega arith, omega arith), ((refl, omega arith, omega arith), tt))))))))

queue_texts : ℕ → QueueNumbers → List (List ℕ)
queue_texts k q = decimal k ∷ decimal q.domain ∷ order_word q.managed ∷ decimal q.base ∷ decimal q.slots ∷ decimal q.limit ∷ []

queue_text : (k : ℕ) (q : QueueNumbers) → queue_line k q ≡ codes "queue" ++ fields_text (queue_texts k q)
unfolding queue_line queue_texts
queue_text k q =
    joined_9 (codes "queue") (codes " " ++ decimal k) (codes " " ++ decimal q.domain) (codes " ") (order_word q.managed) (codes " " ++ decimal q.base) (codes " " ++ decimal q.slots) (codes " " ++ decimal q.limit) (codes "\n")

pub queue_row : (k : ℕ) (q : QueueNumbers) → k < 2 ^ 64 → FitsQueue q → q.managed < 2 → IsRow (codes "queue") queue_formats (queue_line k q) (queue_values k q)
unfolding queue_texts
queue_row k q small f m =
    let a = f.domain in
    let b = f.base in
    let d = f.slots in
    let e = f.limit in
    (fields_text (queue_texts k q), queue_text k q, fields_are queue_formats (queue_texts k q) (queue_values k q) ((refl, omega arith, small), ((refl, omega arith, omega arith), ((refl, m), ((refl, omega arith, omega arith), ((refl, omega arith, omega arith), ((refl, omega arith, omega arith), tt)))))))

receive_texts : ℕ → Receive → List (List ℕ)
receive_texts k r = decimal k ∷ decimal r.base ∷ decimal r.len ∷ []

receive_text : (k : ℕ) (r : Receive) → receive_line k r ≡ codes "receive" ++ fields_text (receive_texts k r)
unfolding receive_line receive_texts
receive_text k r = joined_5 (codes "receive") (codes " " ++ decimal k) (codes " " ++ decimal r.base) (codes " " ++ decimal r.len) (codes "\n")

pub receive_row : (k : ℕ) (r : Receive) → k < 2 ^ 64 → FitsReceive r → IsRow (codes "receive") receive_formats (receive_line k r) (receive_values k r)
unfolding receive_texts
receive_row k r small f =
    let a = f.base in
    let b = f.len in
    (fields_text (receive_texts k r), receive_text k r, fields_are receive_formats (receive_texts k r) (receive_values k r) ((refl, omega arith, small), ((refl, omega arith, omega arith), ((refl, omega arith, omega arith), tt))))

-- rows' lines fill no memory
fills_region : (rest : List ℕ) → fills (codes "region" ++ (32 ∷ rest)) ≡ false
unfolding fills
fills_region rest = refl

fills_queue : (rest : List ℕ) → fills (codes "queue" ++ (32 ∷ rest)) ≡ false
unfolding fills
fills_queue rest = refl

fills_receive : (rest : List ℕ) → fills (codes "receive" ++ (32 ∷ rest)) ≡ false
unfolding fills
fills_receive rest = refl

region_fills : (line : List ℕ) (r : RegionNumbers) → IsRow (codes "region") region_formats line (region_values r) → fills line ≡ false
region_fills line r h = ap fills (h.1 ∙ ap (λ (l : List ℕ). codes "region" ++ l) h.2.2) ∙ fills_region (h.2.0 ++ h.2.1)

queue_fills : (line : List ℕ) (k : ℕ) (q : QueueNumbers) → IsRow (codes "queue") queue_formats line (queue_values k q) → fills line ≡ false
queue_fills line k q h = ap fills (h.1 ∙ ap (λ (l : List ℕ). codes "queue" ++ l) h.2.2) ∙ fills_queue (h.2.0 ++ h.2.1)

receive_fills : (line : List ℕ) (k : ℕ) (r : Receive) → IsRow (codes "receive") receive_formats line (receive_values k r) → fills line ≡ false
receive_fills line k r h = ap fills (h.1 ∙ ap (λ (l : List ℕ). codes "receive" ++ l) h.2.2) ∙ fills_receive (h.2.0 ++ h.2.1)

-- what is left of a text comes to this, whatever the number of its first line
pub record Comes (out : Outcome) (p : Progress) (text : List ℕ) : Type 0 where
  pub at : (k : ℕ) → ComesTo k p (lines_of text) out

pub come_line : (out : Outcome) (p q : Progress) (line rest : List ℕ) → IsLine line → settled p line ≡ Ok p → Leads p line q → Comes out q rest → Comes out p (line ++ rest)
come_line out p q line rest l s leads h = record { at = λ k. comes_more k p (line ++ rest) line rest q out (next_of line rest l) s leads (h.at (k + 1)) }

abbrev pub Each : {X : Type 0} → (X → Type 0) → List X → Type 0
Each P [] = Unit {0}
Each P (x ∷ xs) = P x × Each P xs

lead_region : (rs now : List RegionNumbers) (size : ℕ) (line : List ℕ) (r : RegionNumbers) → IsRow (codes "region") region_formats line (region_values r) → now ≡ rs ++ r ∷ [] → Leads (GivenRows (rows_of rs [] [] size)) line (GivenRows (rows_of now [] [] size))
unfolding Leads
lead_region rs now size line r row e = inl (region_given rs now [] [] size line r row refl refl e)

lead_queue : (rs : List RegionNumbers) (qs now : List QueueNumbers) (size : ℕ) (line : List ℕ) (q : QueueNumbers) → IsRow (codes "queue") queue_formats line (queue_values (length qs) q) → now ≡ qs ++ q ∷ [] → Leads (GivenRows (rows_of rs qs [] size)) line (GivenRows (rows_of rs now [] size))
unfolding Leads
lead_queue rs qs now size line q row e = inr (inl (queue_given rs qs now [] size (length qs) line q row refl refl e))

lead_receive : (rs : List RegionNumbers) (qs : List QueueNumbers) (cs now : List Receive) (size : ℕ) (line : List ℕ) (r : Receive) → IsRow (codes "receive") receive_formats line (receive_values (length cs) r) → now ≡ cs ++ r ∷ [] → Leads (GivenRows (rows_of rs qs cs size)) line (GivenRows (rows_of rs qs now size))
unfolding Leads
lead_receive rs qs cs now size line r row e = inr (inr (receive_given rs qs cs now size (length cs) line r row refl e))

pub record GoodRegion (r : RegionNumbers) : Type 0 where
  pub fits : FitsRegion r
  pub kind : r.kind < 5

pub record GoodQueue (q : QueueNumbers) : Type 0 where
  pub fits : FitsQueue q
  pub managed : q.managed < 2

-- the lines of regions are read on
pub regions_come : {X : Type 0} (out : Outcome) (f : X → RegionNumbers) (rows : List X) (before : List RegionNumbers) (size : ℕ) (rest : List ℕ) → Each (λ x. GoodRegion (f x)) rows → Comes out (GivenRows (rows_of (before ++ map f rows) [] [] size)) rest → Comes out (GivenRows (rows_of before [] [] size)) (flat_map (λ x. region_line (f x)) rows ++ rest)
regions_come out f [] before size rest g h = subst (λ (l : List RegionNumbers). Comes out (GivenRows (rows_of l [] [] size)) rest) (append-nil before) h
regions_come out f (x ∷ rows) before size rest g h =
    let line = region_line (f x) in
    let row = region_row (f x) g.0.fits g.0.kind in
    let now : List RegionNumbers = before ++ f x ∷ [] in
    let later = regions_come out f rows now size rest g.1 (subst (λ (l : List RegionNumbers). Comes out (GivenRows (rows_of l [] [] size)) rest) (sym (append_assoc before (f x ∷ []) (map f rows))) h) in
    let n = rows_of before [] [] size in
    subst (Comes out (GivenRows n)) (sym (append_assoc line (flat_map (λ y. region_line (f y)) rows) rest)) (come_line out (GivenRows n) (GivenRows (rows_of now [] [] size)) line (flat_map (λ y. region_line (f y)) rows ++ rest) (row_line (codes "region") region_formats line (region_values (f x)) refl row) (not_held n line (region_fills line (f x) row)) (lead_region before now size line (f x) row refl) later)

-- and those of queues, by their numbers
pub queues_come : {X : Type 0} (out : Outcome) (f : X → QueueNumbers) (rows : List X) (rs : List RegionNumbers) (before : List QueueNumbers) (size : ℕ) (rest : List ℕ) → length before + length rows < 2 ^ 64 → Each (λ x. GoodQueue (f x)) rows → Comes out (GivenRows (rows_of rs (before ++ map f rows) [] size)) rest → Comes out (GivenRows (rows_of rs before [] size)) (flat_from (λ k x. queue_line k (f x)) (length before) rows ++ rest)
queues_come out f [] rs before size rest few g h = subst (λ (l : List QueueNumbers). Comes out (GivenRows (rows_of rs l [] size)) rest) (append-nil before) h
queues_come out f (x ∷ rows) rs before size rest few g h =
    let k : ℕ = length before in
    let line = queue_line k (f x) in
    let row = queue_row k (f x) (omega arith) g.0.fits g.0.managed in
    let now : List QueueNumbers = before ++ f x ∷ [] in
    let count : length now ≡ k + 1 = omega (arith, length-append before (f x ∷ [])) in
    let texts : ℕ → List ℕ = λ j. flat_from (λ i y. queue_line i (f y)) j rows in
    let later = queues_come out f rows rs now size rest (omega (arith, count)) g.1 (subst (λ (l : List QueueNumbers). Comes out (GivenRows (rows_of rs l [] size)) rest) (sym (append_assoc before (f x ∷ []) (map f rows))) h) in
    let behind = subst (λ (j : ℕ). Comes out (GivenRows (rows_of rs now [] size)) (texts j ++ rest)) count later in
    let n = rows_of rs before [] size in
    subst (Comes out (GivenRows n)) (sym (append_assoc line (texts (k + 1)) rest)) (come_line out (GivenRows n) (GivenRows (rows_of rs now [] size)) line (texts (k + 1) ++ rest) (row_line (codes "queue") queue_formats line (queue_values k (f x)) refl row) (not_held n line (queue_fills line k (f x) row)) (lead_queue rs before now size line (f x) row refl) behind)

-- and those of message places
pub receives_come : (out : Outcome) (rows : List Receive) (rs : List RegionNumbers) (qs : List QueueNumbers) (before : List Receive) (size : ℕ) (rest : List ℕ) → length before + length rows < 2 ^ 64 → Each FitsReceive rows → Comes out (GivenRows (rows_of rs qs (before ++ rows) size)) rest → Comes out (GivenRows (rows_of rs qs before size)) (flat_from receive_line (length before) rows ++ rest)
receives_come out [] rs qs before size rest few g h = subst (λ (l : List Receive). Comes out (GivenRows (rows_of rs qs l size)) rest) (append-nil before) h
receives_come out (x ∷ rows) rs qs before size rest few g h =
    let k : ℕ = length before in
    let line = receive_line k x in
    let row = receive_row k x (omega arith) g.0 in
    let now : List Receive = before ++ x ∷ [] in
    let count : length now ≡ k + 1 = omega (arith, length-append before (x ∷ [])) in
    let texts : ℕ → List ℕ = λ j. flat_from receive_line j rows in
    let later = receives_come out rows rs qs now size rest (omega (arith, count)) g.1 (subst (λ (l : List Receive). Comes out (GivenRows (rows_of rs qs l size)) rest) (sym (append_assoc before (x ∷ []) rows)) h) in
    let behind = subst (λ (j : ℕ). Comes out (GivenRows (rows_of rs qs now size)) (texts j ++ rest)) count later in
    let n = rows_of rs qs before size in
    subst (Comes out (GivenRows n)) (sym (append_assoc line (texts (k + 1)) rest)) (come_line out (GivenRows n) (GivenRows (rows_of rs qs now size)) line (texts (k + 1) ++ rest) (row_line (codes "receive") receive_formats line (receive_values k x) refl row) (not_held n line (receive_fills line k x row)) (lead_receive rs qs before now size line x row refl) behind)
