-- How the fields of a chain are seen.
use Rattle.redn_words.specs.States.{Mail, Absent, Pending, Delivered, Chain}
use Rattle.redn_adapter.specs.declared.chain.Mail.TheVariants as mail
use Rattle.redn_adapter.specs.declared.chain.Mail.{Mail as Kept}
use Rattle.redn_adapter.specs.declared.chain.Chain.TheInside.{Inside}

abbrev pub mail_view : Kept → Mail
mail_view mail.Absent = Absent
mail_view (mail.Pending bytes) = Pending bytes.items
mail_view mail.Delivered = Delivered

abbrev pub chain_view : Inside → Chain
chain_view a = record { mail = mail_view a.mail; received = a.received }
