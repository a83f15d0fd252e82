-- Statements that are written out: what stands in each, how it may be left, and whether it is idle.
use Rattle.std.proofs.Common.{◌≡◌, ℕ, Bool, true, false, ◌||◌, List, [], ◌∷◌, ◌++◌, map, ap, ◌∙◌}
use Rattle.redn_syntax.specs.declared.tree.Name.{Name}
use Rattle.redn_syntax.specs.declared.tree.Num.{Num}
use Rattle.redn_syntax.specs.declared.tree.Operand.{Operand}
use Rattle.redn_syntax.specs.declared.tree.Stmt.{Stmt}
use Rattle.redn_syntax.specs.declared.tree.StmtKind.{StmtKind, out-StmtKind}
use Rattle.redn_syntax.specs.declared.tree.StmtKind.TheVariants as k
use Rattle.redn_syntax.specs.declared.tree.StmtKind.TheOpen.{StmtKind-F}
use Rattle.redn_kernel.specs.Program.{exits, some_break, idles, break_idly}
use Rattle.redn_check.specs.Statements.{inner, exits_by, exits_of, idles_by, idles_of, breaks_by, breaks_of, falls_through, with_inner, each_of}
use Rattle.redn_check.proofs.Inner.{with_inner_is}
use Rattle.redn_check.proofs.Cases.{exits_out, idles_out, breaks_out}

abbrev pub stmt : ℕ → StmtKind → Stmt
stmt at kind = record { at = at; kind = kind }

inner_of : (at : ℕ) (kind : StmtKind) (layer : StmtKind-F StmtKind Stmt) → out-StmtKind kind ≡ layer → with_inner (stmt at kind) ≡ stmt at kind ∷ each_of (inner layer)
inner_of at kind layer e = with_inner_is (stmt at kind) ∙ ap (λ l. stmt at kind ∷ each_of (inner l)) e

pub inner_add : (at : ℕ) (to : Name) (by : Operand) → with_inner (stmt at (k.Add to by)) ≡ stmt at (k.Add to by) ∷ []
inner_add at to by = inner_of at (k.Add to by) _ (k.outs-Add to by)

pub exits_add : (at : ℕ) (to : Name) (by : Operand) → exits_of (stmt at (k.Add to by)) ≡ exits true false
unfolding exits_by
exits_add at to by = exits_out (stmt at (k.Add to by)) _ (k.outs-Add to by)

pub idles_add : (at : ℕ) (to : Name) (by : Operand) → idles_of (stmt at (k.Add to by)) ≡ idles false false
unfolding idles_by
idles_add at to by = idles_out (stmt at (k.Add to by)) _ (k.outs-Add to by)

pub inner_load : (at : ℕ) (to : Name) (table : Name) (offset : Operand) → with_inner (stmt at (k.Load to table offset)) ≡ stmt at (k.Load to table offset) ∷ []
inner_load at to table offset = inner_of at (k.Load to table offset) _ (k.outs-Load to table offset)

pub exits_load : (at : ℕ) (to : Name) (table : Name) (offset : Operand) → exits_of (stmt at (k.Load to table offset)) ≡ exits true false
unfolding exits_by
exits_load at to table offset = exits_out (stmt at (k.Load to table offset)) _ (k.outs-Load to table offset)

pub breaks_load : (at : ℕ) (to : Name) (table : Name) (offset : Operand) → breaks_of (stmt at (k.Load to table offset)) ≡ []
unfolding breaks_by
breaks_load at to table offset = breaks_out (stmt at (k.Load to table offset)) _ (k.outs-Load to table offset)

pub inner_store : (at : ℕ) (table : Name) (offset : Operand) (from : Operand) → with_inner (stmt at (k.Store table offset from)) ≡ stmt at (k.Store table offset from) ∷ []
inner_store at table offset from = inner_of at (k.Store table offset from) _ (k.outs-Store table offset from)

pub exits_store : (at : ℕ) (table : Name) (offset : Operand) (from : Operand) → exits_of (stmt at (k.Store table offset from)) ≡ exits true false
unfolding exits_by
exits_store at table offset from = exits_out (stmt at (k.Store table offset from)) _ (k.outs-Store table offset from)

pub breaks_store : (at : ℕ) (table : Name) (offset : Operand) (from : Operand) → breaks_of (stmt at (k.Store table offset from)) ≡ []
unfolding breaks_by
breaks_store at table offset from = breaks_out (stmt at (k.Store table offset from)) _ (k.outs-Store table offset from)

pub inner_loop : (at : ℕ) (body : List Stmt) → with_inner (stmt at (k.Loop body)) ≡ stmt at (k.Loop body) ∷ each_of (body ++ [])
inner_loop at body = inner_of at (k.Loop body) _ (k.outs-Loop body)

pub exits_loop : (at : ℕ) (body : List Stmt) → exits_of (stmt at (k.Loop body)) ≡ exits (some_break (map exits_of body)) false
unfolding exits_by
exits_loop at body = exits_out (stmt at (k.Loop body)) _ (k.outs-Loop body)

pub idles_loop : (at : ℕ) (body : List Stmt) → idles_of (stmt at (k.Loop body)) ≡ idles false (break_idly (map idles_of body))
unfolding idles_by
idles_loop at body = idles_out (stmt at (k.Loop body)) _ (k.outs-Loop body)

pub breaks_loop : (at : ℕ) (body : List Stmt) → breaks_of (stmt at (k.Loop body)) ≡ []
unfolding breaks_by
breaks_loop at body = breaks_out (stmt at (k.Loop body)) _ (k.outs-Loop body)

pub inner_repeat : (at : ℕ) (count : Num) (body : List Stmt) → with_inner (stmt at (k.Repeat count body)) ≡ stmt at (k.Repeat count body) ∷ each_of (body ++ [])
inner_repeat at count body = inner_of at (k.Repeat count body) _ (k.outs-Repeat count body)

pub exits_repeat : (at : ℕ) (count : Num) (body : List Stmt) → exits_of (stmt at (k.Repeat count body)) ≡ exits (falls_through body || some_break (map exits_of body)) false
unfolding exits_by
exits_repeat at count body = exits_out (stmt at (k.Repeat count body)) _ (k.outs-Repeat count body)

pub breaks_repeat : (at : ℕ) (count : Num) (body : List Stmt) → breaks_of (stmt at (k.Repeat count body)) ≡ []
unfolding breaks_by
breaks_repeat at count body = breaks_out (stmt at (k.Repeat count body)) _ (k.outs-Repeat count body)

pub inner_break : (at : ℕ) → with_inner (stmt at k.Break) ≡ stmt at k.Break ∷ []
inner_break at = inner_of at k.Break _ k.outs-Break

pub exits_break : (at : ℕ) → exits_of (stmt at k.Break) ≡ exits false true
unfolding exits_by
exits_break at = exits_out (stmt at k.Break) _ k.outs-Break

pub idles_break : (at : ℕ) → idles_of (stmt at k.Break) ≡ idles true false
unfolding idles_by
idles_break at = idles_out (stmt at k.Break) _ k.outs-Break

pub breaks_break : (at : ℕ) → breaks_of (stmt at k.Break) ≡ at ∷ []
unfolding breaks_by
breaks_break at = breaks_out (stmt at k.Break) _ k.outs-Break

pub inner_lookup : (at : ℕ) (to : Name) (table : Name) (offset : Operand) (key : Operand) (probes : Num) → with_inner (stmt at (k.Lookup to table offset key probes)) ≡ stmt at (k.Lookup to table offset key probes) ∷ []
inner_lookup at to table offset key probes = inner_of at (k.Lookup to table offset key probes) _ (k.outs-Lookup to table offset key probes)

pub exits_lookup : (at : ℕ) (to : Name) (table : Name) (offset : Operand) (key : Operand) (probes : Num) → exits_of (stmt at (k.Lookup to table offset key probes)) ≡ exits true false
unfolding exits_by
exits_lookup at to table offset key probes = exits_out (stmt at (k.Lookup to table offset key probes)) _ (k.outs-Lookup to table offset key probes)

pub breaks_lookup : (at : ℕ) (to : Name) (table : Name) (offset : Operand) (key : Operand) (probes : Num) → breaks_of (stmt at (k.Lookup to table offset key probes)) ≡ []
unfolding breaks_by
breaks_lookup at to table offset key probes = breaks_out (stmt at (k.Lookup to table offset key probes)) _ (k.outs-Lookup to table offset key probes)

pub inner_walk : (at : ℕ) (to : Name) (table : Name) (offset : Operand) (key : Operand) (nodes : Num) → with_inner (stmt at (k.Walk to table offset key nodes)) ≡ stmt at (k.Walk to table offset key nodes) ∷ []
inner_walk at to table offset key nodes = inner_of at (k.Walk to table offset key nodes) _ (k.outs-Walk to table offset key nodes)

pub exits_walk : (at : ℕ) (to : Name) (table : Name) (offset : Operand) (key : Operand) (nodes : Num) → exits_of (stmt at (k.Walk to table offset key nodes)) ≡ exits true false
unfolding exits_by
exits_walk at to table offset key nodes = exits_out (stmt at (k.Walk to table offset key nodes)) _ (k.outs-Walk to table offset key nodes)

pub breaks_walk : (at : ℕ) (to : Name) (table : Name) (offset : Operand) (key : Operand) (nodes : Num) → breaks_of (stmt at (k.Walk to table offset key nodes)) ≡ []
unfolding breaks_by
breaks_walk at to table offset key nodes = breaks_out (stmt at (k.Walk to table offset key nodes)) _ (k.outs-Walk to table offset key nodes)

pub inner_reply : (at : ℕ) (words : List Operand) → with_inner (stmt at (k.Reply words)) ≡ stmt at (k.Reply words) ∷ []
inner_reply at words = inner_of at (k.Reply words) _ (k.outs-Reply words)

pub exits_reply : (at : ℕ) (words : List Operand) → exits_of (stmt at (k.Reply words)) ≡ exits false false
unfolding exits_by
exits_reply at words = exits_out (stmt at (k.Reply words)) _ (k.outs-Reply words)

pub breaks_reply : (at : ℕ) (words : List Operand) → breaks_of (stmt at (k.Reply words)) ≡ []
unfolding breaks_by
breaks_reply at words = breaks_out (stmt at (k.Reply words)) _ (k.outs-Reply words)
