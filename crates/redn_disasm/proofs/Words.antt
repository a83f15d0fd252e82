-- The lines of words, and the last one.
use Rattle.std.proofs.Common.{◌≡◌, ◌≢◌, ℕ, ◌+◌, ◌%◌, ◌<◌, ◌≤◌, List, [], ◌∷◌, ◌++◌, length, map, drop, get_or, refl, sym, ap, subst, ◌∙◌, inl, inr, arith, add-one, drop-cons}
use Rattle.std.specs.Prelude.{codes}
use Rattle.redn_words.specs.declared.types.QueueRow.{QueueRow}
use Rattle.redn_words.specs.Words.{spelled, with_bytes_at}
use Rattle.redn_image.specs.Rules.{Numbers, queue_numbers}
use Rattle.redn_disasm.specs.declared.assembler.ListFault.{ListFault}
use Rattle.redn_disasm.specs.declared.assembler.ListFault.TheVariants.{Line, Rule, Memory}
use Rattle.redn_disasm.specs.Assembly.{ComesTo, Ended, Filled, GivesWord, Leads, Made, Place, Progress, WrongLine, all_places, data_formats, places_from}
use Rattle.redn_text.specs.Texts.{lines_of}
use Rattle.redn_disasm.specs.Fields.{IsRow}
use Rattle.redn_disasm.specs.Going.{GoesOn, Refuses}
use Rattle.redn_disasm.proofs.Going.{comes_wrong, goes_more, goes_then}
use Rattle.redn_disasm.proofs.OneValue.{one_number}

pub word_odd : (memory line : List ℕ) (offset w : ℕ) → IsRow (codes "data") data_formats line (offset ∷ w ∷ []) → offset % 8 ≢ 0 → (n : Numbers) (after : Progress) → n.size ≡ length memory → GivesWord n memory line after → ⊥
word_odd memory line offset w row odd n after size h = odd (ap (λ (k : ℕ). k % 8) (one_number (codes "data") data_formats line offset h.0 (w ∷ []) (h.1 ∷ []) row h.2) ∙ h.3)

pub word_outside : (memory line : List ℕ) (offset w : ℕ) → IsRow (codes "data") data_formats line (offset ∷ w ∷ []) → (offset + 8 ≤ length memory → ⊥) → (n : Numbers) (after : Progress) → n.size ≡ length memory → GivesWord n memory line after → ⊥
word_outside memory line offset w row out n after size h =
    let same : offset ≡ h.0 = one_number (codes "data") data_formats line offset h.0 (w ∷ []) (h.1 ∷ []) row h.2 in
    let inside = h.4 in
    out (omega arith)

leads_word : (n : Numbers) (memory line : List ℕ) (after : Progress) → GivesWord n memory line after → Leads (Filled n [] memory) line after
unfolding Leads
leads_word n memory line after h = inl h

leads_end : (n : Numbers) (memory line : List ℕ) → line ≡ codes "end\n" → Leads (Filled n [] memory) line (Ended n memory)
unfolding Leads
leads_end n memory line e = inr (e, refl)

none_last : (n : Numbers) (memory line : List ℕ) → ((after : Progress) → GivesWord n memory line after → ⊥) → (line ≡ codes "end\n" → ⊥) → (after : Progress) → Leads (Filled n [] memory) line after → ⊥
unfolding Leads
none_last n memory line word last after (inl h) = word after h
none_last n memory line word last after (inr h) = last h.0

none_ended : (n : Numbers) (memory line : List ℕ) (after : Progress) → Leads (Ended n memory) line after → ⊥
unfolding Leads
none_ended n memory line after h = h

-- what the whole text comes to, once words are read
abbrev pub WordsTo : ℕ → List ℕ → List ℕ → ℕ → List ℕ → List ℕ → Type 0
WordsTo first text whole line rest memory = (n : Numbers) → n.size ≡ length whole → GoesOn first (Filled n [] whole) text line (Filled n [] memory) rest

pub word_read : (first : ℕ) (text whole : List ℕ) (line : ℕ) (rest memory row behind now : List ℕ) → WordsTo first text whole line rest memory → length memory ≡ length whole → lines_of rest ≡ row ∷ lines_of behind → length behind < length rest → ((n : Numbers) → n.size ≡ length memory → GivesWord n memory row (Filled n [] now)) → WordsTo first text whole (line + 1) behind now
word_read first text whole line rest memory row behind now g size e short put n is =
    goes_more first (Filled n [] whole) text line (Filled n [] memory) rest row behind (Filled n [] now) (g n is) e short refl (leads_word n memory row (Filled n [] now) (put n (omega arith)))

pub word_wrong : (first : ℕ) (text whole : List ℕ) (line : ℕ) (rest memory row behind : List ℕ) → WordsTo first text whole line rest memory → length memory ≡ length whole → lines_of rest ≡ row ∷ lines_of behind → ((n : Numbers) (after : Progress) → n.size ≡ length memory → GivesWord n memory row after → ⊥) → (row ≡ codes "end\n" → ⊥) → (n : Numbers) → n.size ≡ length whole → ComesTo first (Filled n [] whole) (lines_of text) (WrongLine line)
word_wrong first text whole line rest memory row behind g size e word last n is =
    (g n is).whole (WrongLine line) (comes_wrong line (Filled n [] memory) rest row behind e refl (none_last n memory row (λ after h. word n after (omega arith) h) last))

ended : (first : ℕ) (text whole : List ℕ) (line : ℕ) (rest memory row behind : List ℕ) → WordsTo first text whole line rest memory → lines_of rest ≡ row ∷ lines_of behind → length behind < length rest → row ≡ codes "end\n" → (n : Numbers) → n.size ≡ length whole → GoesOn first (Filled n [] whole) text (line + 1) (Ended n memory) behind
ended first text whole line rest memory row behind g e short last n is =
    goes_more first (Filled n [] whole) text line (Filled n [] memory) rest row behind (Ended n memory) (g n is) e short refl (leads_end n memory row last)

pub all_read : (first : ℕ) (text whole : List ℕ) (line : ℕ) (rest memory row behind : List ℕ) → WordsTo first text whole line rest memory → lines_of rest ≡ row ∷ lines_of behind → length behind < length rest → row ≡ codes "end\n" → lines_of behind ≡ [] → (n : Numbers) → n.size ≡ length whole → ComesTo first (Filled n [] whole) (lines_of text) (Made n memory)
all_read first text whole line rest memory row behind g e short last none n is =
    (ended first text whole line rest memory row behind g e short last n is).whole (Made n memory) (subst (λ (ls : List (List ℕ)). ComesTo (line + 1) (Ended n memory) ls (Made n memory)) (sym none) refl)

pub too_long : (first : ℕ) (text whole : List ℕ) (line : ℕ) (rest memory row behind more last_behind : List ℕ) → WordsTo first text whole line rest memory → lines_of rest ≡ row ∷ lines_of behind → length behind < length rest → row ≡ codes "end\n" → lines_of behind ≡ more ∷ lines_of last_behind → (n : Numbers) → n.size ≡ length whole → ComesTo first (Filled n [] whole) (lines_of text) (WrongLine (line + 1))
too_long first text whole line rest memory row behind more last_behind g e short last f n is =
    (ended first text whole line rest memory row behind g e short last n is).whole (WrongLine (line + 1)) (comes_wrong (line + 1) (Ended n memory) behind more last_behind f refl (none_ended n memory more))

pub end_missing : (first : ℕ) (text whole : List ℕ) (line : ℕ) (rest memory : List ℕ) → WordsTo first text whole line rest memory → lines_of rest ≡ [] → (n : Numbers) → n.size ≡ length whole → ComesTo first (Filled n [] whole) (lines_of text) (WrongLine line)
end_missing first text whole line rest memory g e n is =
    (g n is).whole (WrongLine line) (subst (λ (ls : List (List ℕ)). ComesTo line (Filled n [] memory) ls (WrongLine line)) (sym e) refl)

pub refuses_then : (k : ℕ) (p : Progress) (text : List ℕ) (j : ℕ) (q : Progress) (rest : List ℕ) (e : ListFault) → GoesOn k p text j q rest → Refuses j q rest e → Refuses k p text e
refuses_then k p text j q rest (Line n) g h = g.whole _ h
refuses_then k p text j q rest (Rule number index) g h = g.whole _ h
refuses_then k p text j q rest Memory g h = tt

-- the slots of the rings from number k on
abbrev pub places_left : List QueueRow → ℕ → List Place
places_left rows k = all_places k (map queue_numbers (drop k rows))

pub next_ring : (rows : List QueueRow) (k : ℕ) (d : QueueRow) → k < length rows → places_left rows k ≡ places_from k (get_or rows k d).base 0 (get_or rows k d).slots ++ places_left rows (k + 1)
next_ring rows k d low =
    ap (λ (l : List QueueRow). all_places k (map queue_numbers l)) (drop-cons rows k d low ∙ ap (λ (j : ℕ). get_or rows k d ∷ drop j rows) (sym (add-one k)))

at_ring : (k : ℕ) (p : Progress) (text : List ℕ) (j : ℕ) (rows : List QueueRow) (i : ℕ) (d : QueueRow) (n : Numbers) (memory rest : List ℕ) → i < length rows → GoesOn k p text j (Filled n (places_left rows i) memory) rest → GoesOn k p text j (Filled n (places_from i (get_or rows i d).base 0 (get_or rows i d).slots ++ places_left rows (i + 1)) memory) rest
at_ring k p text j rows i d n memory rest low g = subst (λ (l : List Place). GoesOn k p text j (Filled n l memory) rest) (next_ring rows i d low) g

pub ring_goes : (k : ℕ) (p : Progress) (text : List ℕ) (j : ℕ) (rows : List QueueRow) (i : ℕ) (d : QueueRow) (n : Numbers) (memory rest : List ℕ) (h : ℕ) (now last : List ℕ) → i < length rows → GoesOn k p text j (Filled n (places_left rows i) memory) rest → GoesOn j (Filled n (places_from i (get_or rows i d).base 0 (get_or rows i d).slots ++ places_left rows (i + 1)) memory) rest h (Filled n (places_left rows (i + 1)) now) last → GoesOn k p text h (Filled n (places_left rows (i + 1)) now) last
ring_goes k p text j rows i d n memory rest h now last low g more = goes_then k p text j _ rest h _ last (at_ring k p text j rows i d n memory rest low g) more

pub ring_refuses : (k : ℕ) (p : Progress) (text : List ℕ) (j : ℕ) (rows : List QueueRow) (i : ℕ) (d : QueueRow) (n : Numbers) (memory rest : List ℕ) (e : ListFault) → i < length rows → GoesOn k p text j (Filled n (places_left rows i) memory) rest → Refuses j (Filled n (places_from i (get_or rows i d).base 0 (get_or rows i d).slots ++ places_left rows (i + 1)) memory) rest e → Refuses k p text e
ring_refuses k p text j rows i d n memory rest e low g h = refuses_then k p text j _ rest e (at_ring k p text j rows i d n memory rest low g) h
