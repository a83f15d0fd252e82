-- An image whose chains keep their promises, for all messages, and whose machines do what the source chains do, is faithful.
use Rattle.std.proofs.Common.{ℕ, List, subst, arith}
use Rattle.redn_words.specs.States.{State}
use Rattle.redn_words.specs.Runs.{AllPossible}
use Rattle.redn_kernel.specs.declared.types.Program.{Program}
use Rattle.redn_kernel.specs.Source.{source_start}
use Rattle.redn_image.specs.Rules.{Image}
use Rattle.redn_image.specs.Agreement.{Fits}
use Rattle.redn_image.specs.Faithful.{AreMessages, Explains, Faithful}
use Rattle.redn_proof_interleave.specs.Sources.{Sourced}
use Rattle.redn_proof_interleave.specs.Compiled.{Messages, IsCompiled}
use Rattle.redn_proof_interleave.proofs.Sources.{source_explains}

pub compiled_is_faithful : (p : Program) (i : Image) (sourced : Messages → Sourced) → Fits p i → ((messages : Messages) → AreMessages p.chains messages → IsCompiled p i messages (sourced messages)) → Faithful p i
compiled_is_faithful p i sourced fits each =
    record {
      fits = fits;
      explained = λ messages are acts few possible.
          let k = each messages are in
          let most = k.most in
          subst (λ (s : State). AllPossible s acts → (turns : List ℕ) × Explains s acts (source_start p messages) turns) k.begin (source_explains (sourced messages) k.promises k.machines k.begins (source_start p messages) k.same k.translates k.tables k.variables acts (omega (arith, most))) possible;
    }
