use Rattle.std.proofs.Common.{List, length, ap, ◌∙◌, arith}
use Rattle.std.proofs.lemmas.Result.{on_ok_weaker}
use Rattle.redn_segment.specs.declared.types.Draft.{Draft}
use Rattle.redn_segment.specs.Building.{drafts_of}
use Rattle.redn_segment.specs.Effects.{first_slot}
use Rattle.redn_segment.specs.Footprints.{segments_apart}
use Rattle.redn_segment.proofs.Growing.{with_more}
use Rattle.redn_move.proofs.Appended.{appends_reply, apart_reply, count, reply_costs, reply_rights}
use Rattle.redn_move.proofs.replies.reply_template.Goals as goal

pub push_segments-requires : goal.push_segments-requires
push_segments-requires c =
    let words = c.args.words.now in
    record {
      few = omega (arith, ap (λ (l : List (List Draft)). length (drafts_of l)) c.in_ok-segments.ensures, count words c.requires.some_word c.requires.few_words, c.requires.few, c.requires.few_words);
      apart = ap (segments_apart (first_slot c.args.b.now)) c.in_ok-segments.ensures ∙ apart_reply words c.requires.some_word c.requires.few_words (first_slot c.args.b.now);
    }

pub returns-clause-appended : goal.returns-clause-appended
returns-clause-appended c =
    on_ok_weaker c.push_segments.result (λ e. appends_reply c.args.words.now c.requires.some_word c.requires.few_words c.args.b.now c.push_segments.new.self (e ∙ ap (with_more c.args.b.now) c.in_ok-segments.ensures)) c.push_segments.ensures

pub returns-clause-cost : goal.returns-clause-cost
returns-clause-cost c =
    on_ok_weaker c.push_segments.result (λ e. reply_costs c.args.words.now c.requires.some_word c.requires.few_words c.args.b.now c.push_segments.new.self (e ∙ ap (with_more c.args.b.now) c.in_ok-segments.ensures)) c.push_segments.ensures

pub returns-clause-rights : goal.returns-clause-rights
returns-clause-rights c =
    on_ok_weaker c.push_segments.result (λ e. reply_rights c.args.words.now c.args.b.now c.push_segments.new.self (e ∙ ap (with_more c.args.b.now) c.in_ok-segments.ensures)) c.push_segments.ensures

pub returns-clause-made : goal.returns-clause-made
returns-clause-made c =
    on_ok_weaker c.push_segments.result (λ e. e ∙ ap (with_more c.args.b.now) c.in_ok-segments.ensures) c.push_segments.ensures
