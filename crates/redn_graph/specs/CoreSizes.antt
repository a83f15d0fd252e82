-- Code of core statements: what it takes.
use Rattle.std.specs.Prelude.{◌≡◌, ℕ, ◌+◌, ◌*◌, ◌<◌, ◌≤◌, Bool, true, false, List, [], ◌∷◌, ◌++◌, length, map, All}
use Rattle.redn_kernel.specs.declared.types.Kernel.{Kernel}
use Rattle.redn_kernel.specs.declared.types.Core.{Core, out-Core, fold-Core, every-Core}
use Rattle.redn_kernel.specs.declared.types.Core.TheOpen.{Core-F}
use Rattle.redn_kernel.specs.Program.{weight_of}
use Rattle.redn_kernel.specs.Composes.{Composes, opens}
use Rattle.redn_graph.specs.declared.types.Block.{Block}
use Rattle.redn_graph.specs.declared.build.Builder.{Builder}
use Rattle.redn_graph.specs.declared.build.Tail.{Tail}
use Rattle.redn_graph.specs.declared.build.Tail.TheVariants as tail
use Rattle.redn_graph.specs.Code.{Labels}
use Rattle.redn_graph.specs.Cores.{AllPlain, CoresCompile, Forks}
use Rattle.redn_graph.specs.Slots.{SlotsWithin, Sized, AreSmall, add_slots, all_slots, tail_slots, tail_size}
use Rattle.redn_graph.specs.Fits.{Things, IsCell, IsTarget, FitsTail, Fitted, IsWithin, IsWell}
use Rattle.redn_graph.specs.Growth.{Bound}
use Rattle.redn_graph.specs.Onward.{Works, AllStop, IsAmong, Added, LeadsOn}

-- what a core statement takes
pub record Taken : Type 0 where
  pub slots : ℕ  -- without a jump to what follows
  pub blocks : ℕ
  pub instrs : ℕ
  pub statements : ℕ
  pub acts : Bool  -- it is one instruction
  pub begins : Bool  -- it begins a block

abbrev pub begins_with : List Taken → Bool
begins_with [] = false
begins_with (first ∷ rest) = first.begins

-- an instruction needs a jump where no block begins behind it
abbrev pub jump_slots_by : Bool → Bool → ℕ
jump_slots_by true false = 9
jump_slots_by _ _ = 0

abbrev pub slots_in : List Taken → ℕ
slots_in [] = 0
slots_in (first ∷ rest) = first.slots + jump_slots_by first.acts (begins_with rest) + slots_in rest

abbrev pub blocks_in : List Taken → ℕ
blocks_in [] = 0
blocks_in (first ∷ rest) = first.blocks + blocks_in rest

abbrev pub instrs_in : List Taken → ℕ
instrs_in [] = 0
instrs_in (first ∷ rest) = first.instrs + instrs_in rest

abbrev pub statements_in : List Taken → ℕ
statements_in [] = 0
statements_in (first ∷ rest) = first.statements + statements_in rest

abbrev pub instr_taken : ℕ → Taken
instr_taken slots = record { slots = slots; blocks = 0; instrs = 1; statements = 1; acts = true; begins = true }

abbrev pub fork_taken : ℕ → List Taken → List Taken → Taken
fork_taken slots met unmet = record {
  slots = slots + slots_in met + slots_in unmet;
  blocks = 3 + blocks_in met + blocks_in unmet;
  instrs = instrs_in met + instrs_in unmet;
  statements = 1 + statements_in met + statements_in unmet;
  acts = false;
  begins = true;
}

abbrev pub round_taken : List Taken → Taken
round_taken body = record {
  slots = 27 + slots_in body;
  blocks = 2 + blocks_in body;
  instrs = instrs_in body;
  statements = 1 + statements_in body;
  acts = false;
  begins = false;
}

unfoldable pub taken_by : Core-F Taken → Taken
taken_by (Core-F.Move to from) = instr_taken 5
taken_by (Core-F.Add to by) = instr_taken (add_slots by)
taken_by (Core-F.Load to table offset) = instr_taken 10
taken_by (Core-F.If wide left right met unmet) = fork_taken 30 met unmet
taken_by (Core-F.Loop body) = round_taken body
taken_by Core-F.Leave = record { slots = 0; blocks = 0; instrs = 0; statements = 1; acts = false; begins = false }
taken_by (Core-F.Probe to table offset key hit miss) = fork_taken 39 hit miss

unfoldable pub taken_of : Core → Taken
taken_of = fold-Core Taken taken_by

abbrev pub taken_of_all : List Core → List Taken
taken_of_all cores = map taken_of cores

-- cells and tables are there
unfoldable pub CoreFits : Things → Core-F Core → Type 0
CoreFits n (Core-F.Move to from) = IsTarget n to × IsCell n from
CoreFits n (Core-F.Add to by) = IsTarget n to × IsCell n by
CoreFits n (Core-F.Load to table offset) = IsTarget n to × (table < length n.tables) × IsCell n offset
CoreFits n (Core-F.If wide left right met unmet) = IsCell n left × IsCell n right
CoreFits n (Core-F.Probe to table offset key hit miss) = IsTarget n to × (table < length n.tables) × IsCell n offset × IsCell n key
CoreFits n _ = Unit {0}

abbrev pub AllCoresFit : Things → List Core → Type 0
AllCoresFit n cores = All (every-Core (CoreFits n)) cores

abbrev pub is_nothing : List Core → Bool
is_nothing [] = true
is_nothing (first ∷ rest) = false

unfoldable pub leaves_loop : Core-F Core → Bool
leaves_loop Core-F.Leave = true
leaves_loop _ = false

abbrev pub quits : List Core → Bool
quits [] = false
quits (first ∷ rest) = leaves_loop (out-Core first)

abbrev pub jump_needed : Tail → ℕ
jump_needed (tail.To l) = 9
jump_needed (tail.Open instrs end) = 0

-- core statements have code before a tail
pub record Made (old new : Builder) (exit : ℕ) (before : Tail) (cores : List Core) (after : Tail) : Type 0 where
  pub compiles : CoresCompile old.blocks new.blocks exit cores before after
  pub works : opens cores ≡ true → Works after
  pub slots : SlotsWithin old.blocks new.blocks before after (slots_in (taken_of_all cores))
  pub longer : length old.blocks ≤ length new.blocks
  pub blocks : length new.blocks ≤ length old.blocks + blocks_in (taken_of_all cores)
  pub hidden : new.hidden ≡ old.hidden
  pub fits : (n : Things) → IsWithin n new → exit < n.blocks → AllCoresFit n cores → FitsTail n before → Fitted n old.blocks new.blocks × FitsTail n after
  pub size : Sized old.blocks new.blocks before after (instrs_in (taken_of_all cores))
  pub leads : exit < length old.blocks → LeadsOn old.blocks new.blocks exit before after (is_nothing cores) (quits cores)

-- two branches have code before a tail
pub record ForkMade (old new : Builder) (exit : ℕ) (before : Tail) (met unmet : List Core) (yes_block no_block : ℕ) : Type 0 where
  pub forks : Forks old.blocks new.blocks exit met unmet before yes_block no_block
  pub slots : all_slots new.blocks ≤ all_slots old.blocks + tail_slots before + slots_in (taken_of_all met) + slots_in (taken_of_all unmet)
  pub longer : length old.blocks ≤ length new.blocks
  pub blocks : length new.blocks ≤ length old.blocks + (3 + blocks_in (taken_of_all met) + blocks_in (taken_of_all unmet))
  pub hidden : new.hidden ≡ old.hidden
  pub fits : (n : Things) → IsWithin n new → exit < n.blocks → AllCoresFit n met → AllCoresFit n unmet → FitsTail n before → Fitted n old.blocks new.blocks × (yes_block < n.blocks) × (no_block < n.blocks)
  pub small : (size most : ℕ) → 39 ≤ size → tail_size before ≤ size → size + 10 * (instrs_in (taken_of_all met) + instrs_in (taken_of_all unmet)) ≤ most → AreSmall most old.blocks → AreSmall most new.blocks
  pub added : exit < length old.blocks → AllStop old.blocks → IsAmong (length old.blocks) before → Added old.blocks new.blocks

-- a loop's body has code, which leads back to the block at its front
pub record RoundMade (old new : Builder) (before : Tail) (body : List Core) (head : ℕ) : Type 0 where
  pub out_block : ℕ
  pub labelled : List Block
  pub reserved : List Block
  pub inner : List Block
  pub spare : Block
  pub begin : Tail
  pub labels : Labels old.blocks labelled before out_block
  pub is_reserved : reserved ≡ labelled ++ spare ∷ []
  pub at : head ≡ length labelled
  pub compiles : CoresCompile reserved inner out_block body (tail.To head) begin
  pub works : opens body ≡ true → Works begin
  pub bound : Bound inner new.blocks head begin
  pub slots : all_slots new.blocks ≤ all_slots old.blocks + tail_slots before + 27 + slots_in (taken_of_all body)
  pub longer : length old.blocks ≤ length new.blocks
  pub blocks : length new.blocks ≤ length old.blocks + (2 + blocks_in (taken_of_all body))
  pub hidden : new.hidden ≡ old.hidden
  pub fits : (n : Things) → IsWithin n new → AllCoresFit n body → FitsTail n before → Fitted n old.blocks new.blocks × (head < n.blocks)
  pub small : (size most : ℕ) → 39 ≤ size → tail_size before ≤ size → size + 10 * instrs_in (taken_of_all body) ≤ most → AreSmall most old.blocks → AreSmall most new.blocks
  pub leads : (exit : ℕ) → opens body ≡ true → LeadsOn old.blocks new.blocks exit before (tail.To head) false false

-- core statements do what a search does, and take no more than it weighs
pub record IsSearch (statement : Kernel) (cores : List Core) : Type 0 where
  pub composes : Composes statement cores
  pub plain : AllPlain cores
  pub fits : (n : Things) → 2 ≤ n.hidden → IsWell n statement → AllCoresFit n cores
  pub slots : slots_in (taken_of_all cores) ≤ 37 * weight_of statement
  pub blocks : blocks_in (taken_of_all cores) + 1 ≤ 4 * weight_of statement
  pub instrs : instrs_in (taken_of_all cores) ≤ weight_of statement
