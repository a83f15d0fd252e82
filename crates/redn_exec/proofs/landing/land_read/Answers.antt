use Rattle.std.proofs.Common.{◌≡◌, length, ap, ◌∙◌, arith}
use Rattle.std.proofs.lemmas.Bool.Decides.{when_true}
use Rattle.redn_words.specs.declared.types.Opcode.TheVariants as op
use Rattle.redn_words.specs.declared.types.Obs.{Obs}
use Rattle.redn_words.specs.declared.types.Spot.{Spot}
use Rattle.redn_words.specs.Words.{bytes_at}
use Rattle.redn_words.specs.Landings.{lands, read_by}
use Rattle.redn_exec.specs.declared.landing.Landing.TheVariants.{Done}
use Rattle.redn_exec.proofs.ReadWords.{read_shows_same}
use Rattle.redn_exec.proofs.landing.land_read.Goals as goal

pub returns : goal.returns
unfolding lands
returns c =
    let mem = c.args.mem.now in
    let o = c.args.o in
    let r = c.args.r.now in
    let l = c.in-Ok.places.local in
    let d = c.in-Ok.places.remote in
    let go = λ (l : Spot) (d : Spot). read_by o r l d (bytes_at mem d.at r.length) in
    let inside = c.in-Ok.ensures.inside (length mem) c.requires.inside in
    let is : lands c.args.regions.now o mem r op.Read ≡ read_by o r l d (bytes_at mem d.at r.length) = c.in-Ok.ensures.exact go in
    rw is (record {
      memory = when_true _ _ (c.copy_within_checked.ensures.fits.1 (inside.1, inside.0)) c.copy_within_checked.ensures.copied;
      answer = ap (λ (s : Obs). Done s) (c.read_shown.ensures ∙ read_shows_same o r _ _ (λ e. c.first_word-word.ensures (omega (arith, e)) inside.1) l.kind d.kind);
    })
