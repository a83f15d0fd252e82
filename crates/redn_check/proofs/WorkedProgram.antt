-- A file and its program, computed.
use Rattle.std.proofs.Common.{◌≡◌, false, [], ◌∷◌, Some, None, codes, refl}
use Rattle.redn_words.specs.Words.{spelled}
use Rattle.redn_syntax.specs.declared.tree.Chain.{Chain}
use Rattle.redn_syntax.specs.declared.tree.File.{File}
use Rattle.redn_syntax.specs.declared.tree.Stmt.{Stmt}
use Rattle.redn_syntax.specs.declared.tree.StmtKind.TheVariants as k
use Rattle.redn_kernel.specs.declared.types.Word.TheVariants.{Var, Num}
use Rattle.redn_kernel.specs.declared.types.Kernel.TheVariants as kernel
use Rattle.redn_check.specs.Names.{table_names, variables}
use Rattle.redn_check.specs.Rules.{faults}
use Rattle.redn_check.specs.Numbering.{program_of}
use Rattle.redn_check.proofs.WrittenOut.{stmt, inner_load, exits_load, breaks_load, inner_reply, exits_reply, breaks_reply}
use Rattle.redn_check.proofs.WorkedRules.{name, number, named, numbered, table}
use Rattle.redn_check.proofs.Numbered.{kernel_load, kernel_reply}

abbrev load : Stmt
load = stmt 60 (k.Load (name (codes "x") 60) (name (codes "t") 64) (named (codes "k") 66))

abbrev reply : Stmt
reply = stmt 70 (k.Reply (named (codes "x") 76 ∷ numbered 5 79 ∷ []))

-- chain c { arg k; var x = 7; x = t[k]; reply x, 5; }
abbrev chain : Chain
chain = record {
  name = name (codes "c") 38;
  serve = None;
  args = name (codes "k") 46 ∷ [];
  vars = record { name = name (codes "x") 53; first = Some (number 7 57) } ∷ [];
  body = load ∷ reply ∷ [];
  close = 82;
}

-- table t[24] ro = { 8: 258, 3 };
abbrev file : File
file = record {
  tables = table 24 false (record { at = Some (number 8 19); word = number 258 22 } ∷ record { at = None; word = number 3 27 } ∷ []) ∷ [];
  chains = chain ∷ [];
}

the_file_is_accepted : faults file ≡ []
the_file_is_accepted = simp (k.outs-Load, k.outs-Reply, inner_load, inner_reply, exits_load, exits_reply, breaks_load, breaks_reply) refl

its_program :
    program_of file
    ≡ record {
      tables = record { bytes = 0 ∷ 0 ∷ 0 ∷ 0 ∷ 0 ∷ 0 ∷ 0 ∷ 0 ∷ 0 ∷ 0 ∷ 0 ∷ 0 ∷ 0 ∷ 0 ∷ 1 ∷ 2 ∷ 0 ∷ 0 ∷ 0 ∷ 0 ∷ 0 ∷ 0 ∷ 0 ∷ 3 ∷ []; writable = false } ∷ [];
      chains = record { serve = 1; args = 1; vars = 0 ∷ 7 ∷ []; body = kernel.Load 1 0 (Var 0) ∷ kernel.Reply (Var 1 ∷ Num 5 ∷ []) ∷ [] } ∷ [];
    }
unfolding spelled
its_program =
    let tables = table_names file.tables in
    let names = variables chain in
    rw (kernel_load tables names load _ _ _ (k.outs-Load _ _ _), kernel_reply tables names reply _ (k.outs-Reply _)) refl
