-- How the generated file's command ends, by what its parts answer.
use Rattle.std.proofs.Common.{◌≡◌, ◌*◌, ◌≤◌, ℕ, List, [], ◌∷◌, ◌++◌, length, inl, inr, refl, sym, ap, subst, ◌∙◌}
use Rattle.std.specs.Prelude.{◌≢◌, codes, None, Result, Ok, Err, OnOk, IfErr}
use Rattle.std.specs.Option.{option_map}
use Rattle.redn_outside.specs.Files.{OthersStay, with_file}
use Rattle.redn_outside.specs.Seen.{StoreSeen, SinkSeen}
use Rattle.redn_image.specs.Rules.{Image}
use Rattle.redn_image.specs.Spelling.{Spells, spelling}
use Rattle.redn_image.specs.Faithful.{Faithful}
use Rattle.redn_command.specs.Words.{Gen}
use Rattle.redn_summary.specs.Summary.{counted, generated_program, generated_run, reply_line, summary}
use Rattle.redn_gen.specs.Generated.{below, chain_count}
use Rattle.std.specs.List.{flat_map}
use Rattle.redn_top.specs.declared.status.Status.{Status}
use Rattle.redn_top.specs.declared.status.Status.TheVariants.{Done, Words, Schedule as BadSchedule, ReadFailed, Missing, WriteFailed, Long, Text, Program as ProgramRefused, Image as ImageRefused, Memory, Step, Message}
use Rattle.redn_top.specs.declared.limits.TheConstants.{MAX_IMAGE}
use Rattle.redn_top.specs.Reasons.{Input}
use Rattle.redn_top.specs.Answers.{Written, Generated, BrokeOff, Ends, status_of}
use Rattle.redn_top.specs.Refusals.{LinesRefused, WriteRefused}
use Rattle.redn_top.proofs.Ending.{written_one}
use Rattle.redn_top.proofs.ImageRuns.{told_nothing}
use Rattle.redn_top.proofs.RunLemmas.{some_behind}

-- a summary has lines
summary_some : (number : ℕ) (image : Image) → summary number image ≢ []
summary_some number image e =
    let chains = chain_count number in
    let front = counted (codes "gen ") number ++ counted (codes "chains ") chains ++ counted (codes "events ") (4003 * chains) ++ counted (codes "steps ") (length (generated_run number image)) ++ flat_map (reply_line number) (below chains) in
    some_behind front (codes "end quiet\n") (λ n. absurd (cc)) e

-- it reads no file
no_file : Input
no_file = record { first = None; schedule = None }

module _ (number : ℕ) (name : List ℕ) (before : StoreSeen) (out : SinkSeen) where
  pub gen_unwritten : (now : StoreSeen) → OthersStay name before.told now.told → (s : Status) → WriteRefused before now s → Ends (Gen number name) before now out out s
  gen_unwritten now others WriteFailed h = inl (h, inl (record { input = no_file; name = name; is_first = refl; is_input = tt; none = tt; others = others; prints = refl }))
  gen_unwritten now others Memory h = inl (record { holds = ap (λ (x : StoreSeen). x.told) h; prints = refl })
  gen_unwritten now others Done h = absurd h
  gen_unwritten now others Words h = absurd h
  gen_unwritten now others ReadFailed h = absurd h
  gen_unwritten now others Missing h = absurd h
  gen_unwritten now others (Long seen limit) h = absurd h
  gen_unwritten now others (Text fault) h = absurd h
  gen_unwritten now others (ProgramRefused rule at seen) h = absurd h
  gen_unwritten now others (ImageRefused fault) h = absurd h
  gen_unwritten now others (BadSchedule line) h = absurd h
  gen_unwritten now others (Step line) h = absurd h
  gen_unwritten now others (Message fault) h = absurd h

  module _ (image : Image) (faithful : Faithful (generated_program number) image) (small : length (spelling image) ≤ MAX_IMAGE) (now : StoreSeen) (w : (bytes : List ℕ) × Spells bytes image × (now.told ≡ option_map (with_file name bytes) before.told)) where
    abbrev first : List Written
    first = record { name = name; bytes = w.0 } ∷ []

    generated : (printed : List ℕ) → printed ≡ summary number image → Generated number name printed first
    generated printed e = record { image = image; bytes = w.0; spells = w.1; faithful = faithful; small = subst (λ (b : List ℕ). length b ≤ MAX_IMAGE) (sym w.1.bytes_are) small; prints = e; writes = refl }

    -- a part of the summary was put
    broke : (out_now : SinkSeen) (printed rest : List ℕ) → summary number image ≡ printed ++ rest → out_now.told ≡ option_map (λ t. t ++ printed) out.told → BrokeOff (Gen number name) before now out out_now
    broke out_now printed rest e put =
        record {
          input = no_file;
          printed = printed;
          written = first;
          is_input = tt;
          none = tt;
          part = record { status = Done; rest = rest; later = []; finishes = (generated (printed ++ rest) (sym e), refl) };
          behind = λ empty. absurd (cc);
          holds = w.2 ∙ written_one name w.0 before.told;
          prints = put;
        }

    pub gen_unsummed : Ends (Gen number name) before now out out Memory
    gen_unsummed = inr (broke out [] (summary number image) refl (told_nothing out.told))

    module _ (text : List ℕ) (is : text ≡ summary number image) (out_now : SinkSeen) where
      pub gen_put : (r : Result (Unit {0}) Status) → OnOk r (out_now.told ≡ option_map (λ t. t ++ text) out.told) → IfErr r (LinesRefused text out out_now) → Ends (Gen number name) before now out out_now (status_of r)
      unfolding broke
      gen_put (Ok done) e h = record { input = no_file; printed = text; written = first; is_input = tt; answers = inr (tt, (generated text is, refl)); holds = w.2 ∙ written_one name w.0 before.told; prints = e }
      gen_put (Err WriteFailed) e h = inr (h.0, record { broke = broke out_now h.1.0 h.1.1 (sym is ∙ h.1.2) h.1.3; some = λ e. summary_some number image (sym is ∙ h.1.2 ∙ e) })
      gen_put (Err Memory) e h = absurd h
      gen_put (Err Done) e h = absurd h
      gen_put (Err Words) e h = absurd h
      gen_put (Err ReadFailed) e h = absurd h
      gen_put (Err Missing) e h = absurd h
      gen_put (Err (Long seen limit)) e h = absurd h
      gen_put (Err (Text fault)) e h = absurd h
      gen_put (Err (ProgramRefused rule at seen)) e h = absurd h
      gen_put (Err (ImageRefused fault)) e h = absurd h
      gen_put (Err (BadSchedule line)) e h = absurd h
      gen_put (Err (Step line)) e h = absurd h
      gen_put (Err (Message fault)) e h = absurd h
