use Rattle.std.proofs.Common.{◌≡◌, ℕ, Bool, ◌*◌, ◌/◌, ◌++◌, List, false, length, get_or, ap, ◌∙◌}
use Rattle.std.specs.List.{list_any}
use Rattle.redn_disasm.specs.Listing.{data_of, data_text, lies_in}
use Rattle.redn_disasm.proofs.Flats.{grown_below}
use Rattle.redn_disasm.proofs.Rings.{same_places}
use Rattle.redn_disasm.proofs.write.put_words.Goals as goal

pub loop-k-preserved : goal.loop-k-preserved
loop-k-preserved c =
    let rows = c.args.rows.now in
    let memory = c.args.memory.now in
    let offset : ℕ = 8 * c.loop-k.k in
    let in_ring : c.is_marked.result ≡ list_any (lies_in offset) rows = c.is_marked.ensures ∙ ap (λ (m : List Bool). get_or m (offset / 64) false) c.deref.ensures.value ∙ c.in_ok-marks.ensures (offset / 64) ∙ same_places (length memory) offset rows c.requires in
    grown_below (λ (k : ℕ). data_text rows memory (8 * k)) c.loop-k.k c.args.out.now.items c.loop-k.out.items c.put_word_at.new.out.items c.loop-k.invariant (c.in_ok-put_word_at.ensures ∙ ap (λ (b : Bool). c.loop-k.out.items ++ data_of memory offset b) in_ring)
