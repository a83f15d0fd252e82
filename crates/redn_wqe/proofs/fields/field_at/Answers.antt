use Rattle.std.proofs.Common.{ℕ, List, ap, ◌∙◌}
use Rattle.redn_wqe.specs.Fields.{place_of}
use Rattle.redn_words.specs.Words.{number}
use Rattle.redn_wqe.specs.Fields.{width_of}
use Rattle.redn_wqe.proofs.FieldPlaces.{field_reads}
use Rattle.redn_wqe.proofs.fields.field_at.Goals as goal

pub returns-in-Op-clause-reads : goal.returns-in-Op-clause-reads
returns-in-Op-clause-reads c = λ slot. field_reads c.args.f slot ∙ ap (λ f. number (width_of c.args.f) slot (place_of f)) c.in-Op.is

pub returns-in-Id-clause-reads : goal.returns-in-Id-clause-reads
returns-in-Id-clause-reads c = λ slot. field_reads c.args.f slot ∙ ap (λ f. number (width_of c.args.f) slot (place_of f)) c.in-Id.is

pub returns-in-Lkey-clause-reads : goal.returns-in-Lkey-clause-reads
returns-in-Lkey-clause-reads c = λ slot. field_reads c.args.f slot ∙ ap (λ f. number (width_of c.args.f) slot (place_of f)) c.in-Lkey.is

pub returns-in-Rkey-clause-reads : goal.returns-in-Rkey-clause-reads
returns-in-Rkey-clause-reads c = λ slot. field_reads c.args.f slot ∙ ap (λ f. number (width_of c.args.f) slot (place_of f)) c.in-Rkey.is

pub returns-in-Local-clause-reads : goal.returns-in-Local-clause-reads
returns-in-Local-clause-reads c = λ slot. field_reads c.args.f slot ∙ ap (λ f. number (width_of c.args.f) slot (place_of f)) c.in-Local.is

pub returns-in-Remote-clause-reads : goal.returns-in-Remote-clause-reads
returns-in-Remote-clause-reads c = λ slot. field_reads c.args.f slot ∙ ap (λ f. number (width_of c.args.f) slot (place_of f)) c.in-Remote.is

pub returns-in-Length-clause-reads : goal.returns-in-Length-clause-reads
returns-in-Length-clause-reads c = λ slot. field_reads c.args.f slot ∙ ap (λ f. number (width_of c.args.f) slot (place_of f)) c.in-Length.is

pub returns-in-First-clause-reads : goal.returns-in-First-clause-reads
returns-in-First-clause-reads c = λ slot. field_reads c.args.f slot ∙ ap (λ f. number (width_of c.args.f) slot (place_of f)) c.in-First.is

pub returns-in-Second-clause-reads : goal.returns-in-Second-clause-reads
returns-in-Second-clause-reads c = λ slot. field_reads c.args.f slot ∙ ap (λ f. number (width_of c.args.f) slot (place_of f)) c.in-Second.is

pub returns-in-Flags-clause-reads : goal.returns-in-Flags-clause-reads
returns-in-Flags-clause-reads c = λ slot. field_reads c.args.f slot ∙ ap (λ f. number (width_of c.args.f) slot (place_of f)) c.in-Flags.is
