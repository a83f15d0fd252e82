use Rattle.std.proofs.Common.{◌<◌, ◌≤◌, ◌+◌, ◌-◌, ◌^◌, Option, Some, None, ◌∙◌, ap, subst, sym, arith}
use Rattle.std.specs.Prelude.{IfSome}
use Rattle.redn_words.specs.declared.types.Region.{Region}
use Rattle.redn_words.specs.Access.{region_of}
use Rattle.redn_words.specs.Access.{EndsBy}
use Rattle.redn_region.proofs.Keys.{found_ends}
use Rattle.redn_region.proofs.regions.Regions.row.Goals as goal

below : (o : Option Region) → IfSome o (λ r. r.base + r.len ≤ 2 ^ 64 - 1) → IfSome o (λ r. r.base + r.len < 2 ^ 64)
below None h = tt
below (Some r) h = omega arith

pub returns-clause-found : goal.returns-clause-found
returns-clause-found c = c.copied.ensures ∙ c.get.ensures.value ∙ c.self.invariant.finds c.args.key ∙ ap (λ rows. region_of rows c.args.key) c.self.view_is

pub returns-clause-inside : goal.returns-clause-inside
returns-clause-inside c = λ size h. subst (λ (o : Option Region). IfSome o (λ r. r.base + r.len ≤ size)) (sym (returns-clause-found c)) (found_ends size c.args.key c.args.self.now h)

pub returns-clause-fits : goal.returns-clause-fits
returns-clause-fits c =
    let ends = subst (EndsBy (2 ^ 64 - 1)) c.self.view_is c.self.invariant.ends in
    below c.copied.result (returns-clause-inside c (2 ^ 64 - 1) ends)
