-- How a statement of each kind may be left, whether it is idle, where its loose breaks stand, and what stands in it.
use Rattle.std.proofs.Common.{◌≡◌, ℕ, List, ap, ◌∙◌}
use Rattle.redn_syntax.specs.declared.tree.Stmt.{Stmt, fold_out-Stmt}
use Rattle.redn_syntax.specs.declared.tree.StmtKind.{StmtKind, map-StmtKind, fold-StmtKind, fold_out-StmtKind}
use Rattle.redn_syntax.specs.declared.tree.StmtKind.TheOpen.{StmtKind-F}
use Rattle.redn_kernel.specs.Program.{Exits, Idles}
use Rattle.redn_check.specs.Statements.{layer_of, exits_by, exits_of, idles_by, idles_of, breaks_by, breaks_of}

pub exits_out : (s : Stmt) (layer : StmtKind-F StmtKind Stmt) → layer_of s ≡ layer → exits_of s ≡ exits_by (map-StmtKind StmtKind Stmt Exits Exits (fold-StmtKind Exits Exits exits_by (λ x. x.kind)) exits_of layer)
unfolding exits_of
exits_out s layer e =
    fold_out-Stmt Exits Exits exits_by (λ x. x.kind) s ∙ fold_out-StmtKind Exits Exits exits_by (λ x. x.kind) s.kind
    ∙ ap (λ l. exits_by (map-StmtKind StmtKind Stmt Exits Exits (fold-StmtKind Exits Exits exits_by (λ x. x.kind)) exits_of l)) e

pub idles_out : (s : Stmt) (layer : StmtKind-F StmtKind Stmt) → layer_of s ≡ layer → idles_of s ≡ idles_by (map-StmtKind StmtKind Stmt Idles Idles (fold-StmtKind Idles Idles idles_by (λ x. x.kind)) idles_of layer)
unfolding idles_of
idles_out s layer e =
    fold_out-Stmt Idles Idles idles_by (λ x. x.kind) s ∙ fold_out-StmtKind Idles Idles idles_by (λ x. x.kind) s.kind
    ∙ ap (λ l. idles_by (map-StmtKind StmtKind Stmt Idles Idles (fold-StmtKind Idles Idles idles_by (λ x. x.kind)) idles_of l)) e

pub breaks_out : (s : Stmt) (layer : StmtKind-F StmtKind Stmt) → layer_of s ≡ layer →
    breaks_of s ≡ breaks_by (map-StmtKind StmtKind Stmt (ℕ → List ℕ) (List ℕ) (fold-StmtKind (ℕ → List ℕ) (List ℕ) breaks_by (λ x. x.kind x.at)) breaks_of layer) s.at
unfolding breaks_of
breaks_out s layer e =
    fold_out-Stmt (ℕ → List ℕ) (List ℕ) breaks_by (λ x. x.kind x.at) s ∙ ap (λ f. f s.at) (fold_out-StmtKind (ℕ → List ℕ) (List ℕ) breaks_by (λ x. x.kind x.at) s.kind)
    ∙ ap (λ l. breaks_by (map-StmtKind StmtKind Stmt (ℕ → List ℕ) (List ℕ) (fold-StmtKind (ℕ → List ℕ) (List ℕ) breaks_by (λ x. x.kind x.at)) breaks_of l) s.at) e
