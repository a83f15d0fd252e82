use Rattle.std.proofs.Common.{◌≡◌, ℕ, Bool, true, false, not, Some, take, sym, ap, subst, ◌∙◌}
use Rattle.std.specs.Prelude.{nat_eq}
use Rattle.std.specs.Cmp.Lexicographic.{pointwise}
use Rattle.redn_image.specs.Answers.{SaysWhy}
use Rattle.redn_image.specs.Rules.{first_of}
use Rattle.redn_image.specs.Spelling.{Broken, OtherVersion, refused}
use Rattle.redn_image.proofs.Headers.{Counted, begins, counted_faults, has_header, refused_header, refused_magic, refused_short, refused_version}
use Rattle.redn_image.proofs.Reading.{are_bytes}
use Rattle.redn_image.proofs.read.read_header.Goals as goal

unless_not : (ne is : Bool) → ne ≡ not is → ne ≡ true → is ≡ false
unless_not ne true e t = absurd (cc)
unless_not ne false e t = cc

not_ne : (ne is : Bool) → ne ≡ not is → ne ≡ false → is ≡ true
not_ne ne true e t = cc
not_ne ne false e t = absurd (cc)

pub returns-then-bytes-lt32-clause-refusal : goal.returns-then-bytes-lt32-clause-refusal
returns-then-bytes-lt32-clause-refusal c = refused_short c.args.bytes.now c.if-bytes-lt32.true

pub returns-then-ne-clause-refusal : goal.returns-then-ne-clause-refusal
returns-then-ne-clause-refusal c =
    let b = c.args.bytes.now in
    let is : begins b ≡ false = ap (pointwise nat_eq (take 4 b)) (sym c.as_slice.ensures) ∙ unless_not c.ne.result _ c.ne.ensures c.if-ne.true in
    refused_magic b c.if-bytes-lt32.false is

pub returns-then-v-ne1-clause-refusal : goal.returns-then-v-ne1-clause-refusal
returns-then-v-ne1-clause-refusal c =
    let b = c.args.bytes.now in
    let is : begins b ≡ true = ap (pointwise nat_eq (take 4 b)) (sym c.as_slice.ensures) ∙ not_ne c.ne.result _ c.ne.ensures c.if-ne.false in
    refused_version b c.if-bytes-lt32.false is (λ one. c.if-v-ne1.true (c.u32_at-v.ensures ∙ one)) ∙ ap (λ (v : ℕ). Some (OtherVersion v)) (sym c.u32_at-v.ensures)

pub returns-in-Some-clause-refusal : goal.returns-in-Some-clause-refusal
returns-in-Some-clause-refusal c =
    let b = c.args.bytes.now in
    let is : begins b ≡ true = ap (pointwise nat_eq (take 4 b)) (sym c.as_slice.ensures) ∙ not_ne c.ne.result _ c.ne.ensures c.if-ne.false in
    let one = sym c.u32_at-v.ensures ∙ c.if-v-ne1.false in
    let counts : Counted b c.from.result c.from-2.result c.from-3.result c.u64_at-size.result = record { regions = c.from.ensures ∙ c.u32_at-regions.ensures; queues = c.from-2.ensures ∙ c.u32_at-queues.ensures; receives = c.from-3.ensures ∙ c.u32_at-receives.ensures; size = c.u64_at-size.ensures } in
    let why : refused b ≡ Some (Broken c.in-Some.fault) = refused_header b c.from.result c.from-2.result c.from-3.result c.u32_at-zero.result c.u64_at-size.result c.in-Some.fault c.if-bytes-lt32.false is one counts c.u32_at-zero.ensures c.in-Some.ensures in
    subst (SaysWhy (refused b)) (sym c.from-in-Some.ensures) why

pub returns-in-None-clause-header : goal.returns-in-None-clause-header
returns-in-None-clause-header c =
    let b = c.args.bytes.now in
    let is : begins b ≡ true = ap (pointwise nat_eq (take 4 b)) (sym c.as_slice.ensures) ∙ not_ne c.ne.result _ c.ne.ensures c.if-ne.false in
    let one = sym c.u32_at-v.ensures ∙ c.if-v-ne1.false in
    let counts : Counted b c.u32_at-regions.result c.u32_at-queues.result c.u32_at-receives.result c.u64_at-size.result = record { regions = c.u32_at-regions.ensures; queues = c.u32_at-queues.ensures; receives = c.u32_at-receives.ensures; size = c.u64_at-size.ensures } in
    let wide : Counted b c.from.result c.from-2.result c.from-3.result c.u64_at-size.result = record { regions = c.from.ensures ∙ c.u32_at-regions.ensures; queues = c.from-2.ensures ∙ c.u32_at-queues.ensures; receives = c.from-3.ensures ∙ c.u32_at-receives.ensures; size = c.u64_at-size.ensures } in
    let same = counted_faults b _ _ _ _ _ wide c.u32_at-zero.ensures ∙ sym (counted_faults b _ _ _ _ _ counts c.u32_at-zero.ensures) in
    has_header b _ _ _ c.u32_at-zero.result _ (are_bytes b c.type_inv.bytes) c.if-bytes-lt32.false is one counts c.u32_at-zero.ensures (c.in-None.ensures ∙ ap first_of same)
