-- What is asked of the compiled form of a program, for each choice of messages.
use Rattle.std.specs.Prelude.{◌≡◌, ℕ, ◌^◌, ◌<◌, List, Option}
use Rattle.std.specs.List.{All}
use Rattle.redn_words.specs.declared.types.Region.{Region}
use Rattle.redn_words.specs.Words.{bytes_at}
use Rattle.redn_kernel.specs.declared.types.Program.{Program}
use Rattle.redn_kernel.specs.Source.{source_start, bytes_of}
use Rattle.redn_image.specs.Rules.{Image}
use Rattle.redn_image.specs.Agreement.{HoldsVariables, variables_of, places_of}
use Rattle.redn_image.specs.Faithful.{start_of}
use Rattle.redn_proof_interleave.specs.Machines.{Contents, Many}
use Rattle.redn_proof_interleave.specs.Forms.{chains_of, AllPromise}
use Rattle.redn_proof_interleave.specs.Explains.{Begins}
use Rattle.redn_proof_interleave.specs.Sources.{Sourced, Translates, Same}

abbrev pub Messages : Type 0
Messages = List (Option (List ℕ))

-- the world that an adapter runs through with these messages: its chains keep their promises, and their machines do what the program's chains do
pub record IsCompiled (p : Program) (i : Image) (messages : Messages) (sourced : Sourced) : Type 0 where
  pub begin : sourced.world.begin ≡ start_of i messages
  pub most : sourced.world.most ≡ 2 ^ 62
  pub promises : AllPromise sourced.world
  pub machines : Many sourced.world.M
  pub begins : Begins sourced.world machines
  pub same : Same sourced machines (source_start p messages)
  pub translates : (c : ℕ) → c < chains_of sourced.world → Translates sourced c
  pub tables : (t : Contents) (m : List ℕ) (n : ℕ) → sourced.world.Tables t m
      → All (λ (r : Region). bytes_at m r.base r.len ≡ bytes_of t n) (places_of n sourced.world.begin.regions)
  pub variables : (c : ℕ) (y : sourced.world.M) (m : List ℕ) → c < chains_of sourced.world → (sourced.world.form c).Holds y m
      → All (HoldsVariables m (sourced.here c y).vars) (variables_of c sourced.world.begin.regions)
