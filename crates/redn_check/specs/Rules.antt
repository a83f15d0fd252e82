-- The rules of a source file: for each the list of its faults, in the order of the tree.
use Rattle.std.specs.Prelude.{◌≡◌, ℕ, ◌+◌, ◌-◌, ◌%◌, ◌^◌, min, Bool, false, not, ◌&&◌, ◌||◌, ◌==◌, nat_lt, nat_le, List, [], ◌∷◌, ◌++◌, length, map, fold, Option, Some, None, slice_get, sum_by}
use Rattle.std.specs.List.{flat_map, list_any}
use Rattle.std.specs.Option.{option_map_or}
use Rattle.std.specs.Str.{bytes_eq}
use Rattle.redn_syntax.specs.declared.tree.Name.{Name}
use Rattle.redn_syntax.specs.declared.tree.Num.{Num}
use Rattle.redn_syntax.specs.declared.tree.Operand.{Operand}
use Rattle.redn_syntax.specs.declared.tree.Operand.TheVariants as operand
use Rattle.redn_syntax.specs.declared.tree.Item.{Item}
use Rattle.redn_syntax.specs.declared.tree.Table.{Table}
use Rattle.redn_syntax.specs.declared.tree.Chain.{Chain}
use Rattle.redn_syntax.specs.declared.tree.File.{File}
use Rattle.redn_syntax.specs.declared.tree.Stmt.{Stmt}
use Rattle.redn_syntax.specs.declared.tree.StmtKind.TheOpen.{StmtKind-F}
use Rattle.redn_check.specs.declared.fault.Fault.{Fault}
use Rattle.redn_check.specs.Faults.{fault, when}
use Rattle.redn_check.specs.Statements.{with_earlier, layer_of, blocks, each_of, falls_through, is_idle_body, breaks_of, own_weight}
use Rattle.redn_check.specs.Names.{declares, table_names, chain_names, variables, table_of, named}

-- ---- rule 1: each name that is used is declared

abbrev pub variables_in : {A B : Type 0} → StmtKind-F A B → List Name
variables_in (StmtKind-F.Move to from) = to ∷ named from
variables_in (StmtKind-F.Add to by) = to ∷ named by
variables_in (StmtKind-F.Load to table offset) = to ∷ named offset
variables_in (StmtKind-F.Store table offset from) = named offset ++ named from
variables_in (StmtKind-F.If wide left right met unmet) = named left ++ named right
variables_in (StmtKind-F.Lookup to table offset key probes) = to ∷ (named offset ++ named key)
variables_in (StmtKind-F.Walk to table offset key nodes) = to ∷ (named offset ++ named key)
variables_in (StmtKind-F.Reply words) = flat_map named words
variables_in _ = []

abbrev pub tables_in : {A B : Type 0} → StmtKind-F A B → List Name
tables_in (StmtKind-F.Load to table offset) = table ∷ []
tables_in (StmtKind-F.Store table offset from) = table ∷ []
tables_in (StmtKind-F.Lookup to table offset key probes) = table ∷ []
tables_in (StmtKind-F.Walk to table offset key nodes) = table ∷ []
tables_in _ = []

abbrev pub undeclared : List Name → List Name → List Fault
undeclared names used = flat_map (λ n. when (not (declares names n)) (fault 1 n.at 0)) used

-- ---- rule 2: no name is declared twice

abbrev pub twice : List Name → List Fault
twice names = flat_map (λ e. when (declares e.0 e.1) (fault 2 e.1.at 0)) (with_earlier names)

-- ---- rule 3: no store goes into a table that is only read

abbrev pub is_read_only : Option Table → Bool
is_read_only None = false
is_read_only (Some t) = not t.writable

abbrev pub read_only : {A B : Type 0} → List Table → StmtKind-F A B → List Fault
read_only tables (StmtKind-F.Store table offset from) = when (is_read_only (table_of tables table)) (fault 3 table.at 0)
read_only tables _ = []

-- ---- rules 4 to 7: breaks stand in loops, chains end, statements are reached, loops do something

abbrev pub loose_breaks : List Stmt → List Fault
loose_breaks body = map (λ at. fault 4 at 0) (flat_map breaks_of body)

abbrev pub open_end : Chain → List Fault
open_end c = when (falls_through c.body) (fault 5 c.close 0)

abbrev pub unreached : List Stmt → List Fault
unreached body = flat_map (λ e. when (not (falls_through e.0)) (fault 6 e.1.at 0)) (with_earlier body)

abbrev pub idle_loop : {A : Type 0} → ℕ → StmtKind-F A Stmt → List Fault
idle_loop at (StmtKind-F.Loop body) = when (is_idle_body body) (fault 7 at 0)
idle_loop at _ = []

-- ---- rule 8: a search doesn't write over its offset or its key

abbrev pub written_over : Name → Operand → Operand → List Fault
written_over to offset key = when (list_any (λ n. bytes_eq to.text n.text) (named offset ++ named key)) (fault 8 to.at 0)

abbrev pub overwritten : {A B : Type 0} → StmtKind-F A B → List Fault
overwritten (StmtKind-F.Lookup to table offset key probes) = written_over to offset key
overwritten (StmtKind-F.Walk to table offset key nodes) = written_over to offset key
overwritten _ = []

-- ---- rules 9 to 12: how many there may be, and how large tables are

-- the one that stands behind so many
abbrev pub one_too_many : ℕ → ℕ → List ℕ → List Fault
one_too_many rule most places = option_map_or (λ at. fault rule at (most + 1) ∷ []) (slice_get places most) []

-- a running sum comes past a limit with this
abbrev pub passes : ℕ → ℕ → ℕ → Bool
passes most before own = nat_le before most && nat_lt most (before + own)

abbrev pub lengths : List Table → ℕ
lengths tables = sum_by (λ (t : Table). t.length.value) tables

abbrev pub bad_length : List Table → Table → List Fault
bad_length earlier t =
    when (t.length.value == 0 || not (t.length.value % 8 == 0) || passes 1048576 (lengths earlier) t.length.value) (fault 12 t.length.at t.length.value)

-- where an item stands, behind others that end here
abbrev pub offset_behind : ℕ → Item → ℕ
offset_behind end i = option_map_or (λ (n : Num). n.value) i.at end

-- where the last of these ends
abbrev pub end_of : List Item → ℕ
end_of items = fold (λ end i. offset_behind end i + 8) 0 items

abbrev pub is_misplaced : ℕ → ℕ → ℕ → Bool
is_misplaced len end offset = not (offset % 8 == 0) || nat_lt offset end || nat_lt len (offset + 8)

abbrev pub place_of_item : Item → ℕ
place_of_item i = option_map_or (λ (n : Num). n.at) i.at i.word.at

-- an offset that is no number of a text is told as the greatest
abbrev pub misplaced : ℕ → List Item → Item → List Fault
misplaced len earlier i =
    let offset = offset_behind (end_of earlier) i in
    when (is_misplaced len (end_of earlier) offset) (fault 12 (place_of_item i) (min offset (2 ^ 64 - 1)))

-- those of a table
abbrev pub bad_items : Table → List Fault
bad_items t = flat_map (λ e. misplaced t.length.value e.0 e.1) (with_earlier t.items)

abbrev pub table_faults : List Table → Table → List Fault
table_faults earlier t = when (length earlier == 64) (fault 12 t.name.at 65) ++ bad_length earlier t ++ bad_items t

-- ---- rules 13 and 15: numbers and replies keep to their ranges

abbrev pub outside : ℕ → ℕ → ℕ → Num → List Fault
outside rule least most n = when (nat_lt n.value least || nat_lt most n.value) (fault rule n.at n.value)

-- one message is what chains can serve so far
abbrev pub most_served : ℕ
most_served = 1

abbrev pub bad_serve : Chain → List Fault
bad_serve c = option_map_or (outside 15 1 most_served) c.serve []

abbrev pub place_of_operand : Operand → ℕ
place_of_operand (operand.Name n) = n.at
place_of_operand (operand.Num n) = n.at

abbrev pub out_of_range : {A B : Type 0} → StmtKind-F A B → List Fault
out_of_range (StmtKind-F.Repeat count body) = outside 13 1 4294967295 count
out_of_range (StmtKind-F.Lookup to table offset key probes) = outside 13 1 4 probes
out_of_range (StmtKind-F.Walk to table offset key nodes) = outside 13 1 65535 nodes
out_of_range (StmtKind-F.Reply words) = one_too_many 13 8 (map place_of_operand words)
out_of_range _ = []

abbrev pub number_faults : Stmt → List Fault
number_faults s = out_of_range (layer_of s)

-- ---- rule 14: a file isn't too heavy

pub record Weight : Type 0 where
  pub at : ℕ
  pub weight : ℕ

abbrev pub weight_at : ℕ → ℕ → Weight
weight_at at weight = record { at = at; weight = weight }

abbrev pub weights_in : List Stmt → List Weight
weights_in statements = map (λ s. weight_at s.at (own_weight (layer_of s))) statements

abbrev pub weights : Chain → List Weight
weights c = map (λ n. weight_at n.at 1) c.args ++ weights_in (each_of c.body)

abbrev pub weight_of_all : List Weight → ℕ
weight_of_all ws = sum_by (λ (w : Weight). w.weight) ws

abbrev pub too_heavy : List Weight → List Fault
too_heavy ws = flat_map (λ e. when (passes 4096 (weight_of_all e.0) e.1.weight) (fault 14 e.1.at (weight_of_all e.0 + e.1.weight))) (with_earlier ws)

-- ---- all of them

abbrev pub statement_faults : List Table → List Name → Stmt → List Fault
statement_faults tables names s =
    undeclared names (variables_in (layer_of s)) ++ undeclared (table_names tables) (tables_in (layer_of s))
    ++ read_only tables (layer_of s) ++ overwritten (layer_of s) ++ number_faults s

abbrev pub flow_faults : Stmt → List Fault
flow_faults s = idle_loop s.at (layer_of s) ++ flat_map unreached (blocks (layer_of s))

abbrev pub control_faults : Chain → List Fault
control_faults c = loose_breaks c.body ++ open_end c ++ unreached c.body ++ flat_map flow_faults (each_of c.body)

abbrev pub chain_faults : List Table → Chain → List Fault
chain_faults tables c =
    twice (variables c)
    ++ one_too_many 10 8 (map (λ (n : Name). n.at) c.args) ++ one_too_many 11 256 (map (λ (n : Name). n.at) (variables c))
    ++ bad_serve c
    ++ flat_map (statement_faults tables (variables c)) (each_of c.body)
    ++ control_faults c

abbrev pub faults : File → List Fault
faults f =
    twice (table_names f.tables) ++ flat_map (λ e. table_faults e.0 e.1) (with_earlier f.tables)
    ++ twice (chain_names f.chains) ++ one_too_many 9 16 (map (λ (c : Chain). c.name.at) f.chains)
    ++ flat_map (chain_faults f.tables) f.chains
    ++ too_heavy (flat_map weights f.chains)

abbrev pub Accepts : File → Type 0
Accepts f = faults f ≡ []
