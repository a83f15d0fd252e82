-- One more weight, and the weights of statements put together.
use Rattle.std.proofs.Common.{◌≡◌, ℕ, ◌+◌, ◌-◌, ◌^◌, ◌<◌, ◌≤◌, min, Bool, true, false, ◌&&◌, leb, ltb, List, [], ◌∷◌, ◌++◌, length, map, take, get_or, Option, refl, sym, ap, ◌∙◌, arith}
use Rattle.std.specs.List.{flat_map}
use Rattle.std.proofs.lemmas.List.{append-nil, append_assoc, map-append, take_more}
use Rattle.std.proofs.lemmas.List.Concat.{flat_map-append}
use Rattle.std.proofs.lemmas.Bool.Decides.{nat_tests}
use Rattle.redn_syntax.specs.declared.tree.Num.{Num}
use Rattle.redn_syntax.specs.declared.tree.Operand.{Operand}
use Rattle.redn_syntax.specs.declared.tree.Chain.{Chain}
use Rattle.redn_syntax.specs.declared.tree.Stmt.{Stmt}
use Rattle.redn_syntax.specs.declared.tree.StmtKind.{StmtKind}
use Rattle.redn_syntax.specs.declared.tree.StmtKind.TheOpen.{StmtKind-F}
use Rattle.redn_check.specs.declared.fault.Fault.{Fault}
use Rattle.redn_check.specs.declared.weight.Load.{Load}
use Rattle.redn_check.specs.Faults.{fault, when, earlier, first_of}
use Rattle.redn_check.specs.Statements.{layer_of, inner, with_inner, each_of, own_weight}
use Rattle.redn_check.specs.Rules.{passes, Weight, weight_at, weights_in, weights, weight_of_all, too_heavy}
use Rattle.redn_check.specs.Flow.{load_of}
use Rattle.redn_check.proofs.EarliestOf.{first_push_earlier}
use Rattle.redn_check.proofs.Behind.{sum_push, capped}
use Rattle.redn_check.proofs.Inner.{with_inner_is}

abbrev pub most : ℕ
most = 2 ^ 64 - 1

-- a sum that stops at a limit far off passes 4096 where the sum does
passes_capped : (at total sum own next : ℕ) (b : Bool) → total ≡ min sum most → next ≡ min (total + own) most → own ≤ 5 → b ≡ (leb total 4096 && ltb 4096 next) →
    first_of (when b (fault 14 at next)) ≡ first_of (when (passes 4096 sum own) (fault 14 at (sum + own)))
passes_capped at total sum own next b e f small passed = by (leb sum 4096) refl
  where
    by : (light : Bool) → leb sum 4096 ≡ light → first_of (when b (fault 14 at next)) ≡ first_of (when (passes 4096 sum own) (fault 14 at (sum + own)))
    by true light =
        let below : sum ≤ 4096 = grind (arith, nat_tests) in
        let same : total ≡ sum = omega arith in
        let whole : next ≡ sum + own = omega arith in
        (λ j. first_of (when (passed j) (fault 14 at next))) ∙ (λ j. first_of (when (leb (same j) 4096 && ltb 4096 (whole j)) (fault 14 at (whole j))))
    by false light =
        let above : 4096 < sum = grind (arith, nat_tests) in
        let over : leb total 4096 ≡ false = grind (arith, nat_tests) in
        ap (λ t. first_of (when t (fault 14 at next))) (passed ∙ ap (λ l. l && ltb 4096 next) over) ∙ sym (ap (λ l. first_of (when (l && ltb 4096 (sum + own)) (fault 14 at (sum + own)))) light)

abbrev load : ℕ → Option Fault → Load
load total first = record { total = total; first = first }

pub load_push : (ws : List Weight) (at own total next : ℕ) (first now after : Option Fault) (b : Bool) → load total first ≡ load_of ws → next ≡ min (total + own) most → own ≤ 5 →
    b ≡ (leb total 4096 && ltb 4096 next) → now ≡ first_of (when b (fault 14 at next)) → after ≡ earlier first now → load next after ≡ load_of (ws ++ weight_at at own ∷ [])
load_push ws at own total next first now after b before e small passed told joined =
    let w = weight_at at own in
    let sums = sum_push (λ (v : Weight). v.weight) ws w in
    let total_is : total ≡ min (weight_of_all ws) most = ap (λ l. l.total) before in
    let first_is : first ≡ first_of (too_heavy ws) = ap (λ l. l.first) before in
    let here = told ∙ passes_capped at total (weight_of_all ws) own next b total_is e small passed in
    let pushed = first_push_earlier (λ x. when (passes 4096 (weight_of_all x.0) x.1.weight) (fault 14 x.1.at (weight_of_all x.0 + x.1.weight))) ws w in
    λ j. load (capped next total (weight_of_all ws) own _ most e total_is sums j) ((joined ∙ (λ i. earlier (first_is i) (here i)) ∙ sym pushed) j)

-- ---- the weights of a statement and of those in its blocks

pub weights_in-append : (xs ys : List Stmt) → weights_in (xs ++ ys) ≡ weights_in xs ++ weights_in ys
weights_in-append xs ys = map-append (λ s. weight_at s.at (own_weight (layer_of s))) xs ys

abbrev pub in_body : List Stmt → List Weight
in_body body = weights_in (each_of body)

pub in_body-append : (xs ys : List Stmt) → in_body (xs ++ ys) ≡ in_body xs ++ in_body ys
in_body-append xs ys = ap weights_in (flat_map-append with_inner xs ys) ∙ weights_in-append (each_of xs) (each_of ys)

module _ (s : Stmt) where
  abbrev pub own : Weight
  own = weight_at s.at (own_weight (layer_of s))

  pub weighed : (layer : StmtKind-F StmtKind Stmt) → layer_of s ≡ layer → weights_in (with_inner s) ≡ own ∷ in_body (inner layer)
  weighed layer e = ap weights_in (with_inner_is s) ∙ ap (λ l. own ∷ in_body (inner l)) e

  module _ (ws : List Weight) where
    pub weighed_if : (wide : Bool) (left right : Operand) (met unmet : List Stmt) → layer_of s ≡ StmtKind-F.If wide left right met unmet →
        ((ws ++ own ∷ []) ++ in_body met) ++ in_body unmet ≡ ws ++ weights_in (with_inner s)
    weighed_if wide left right met unmet e =
        append_assoc (ws ++ own ∷ []) (in_body met) (in_body unmet) ∙ append_assoc ws (own ∷ []) (in_body met ++ in_body unmet)
        ∙ ap (λ l. ws ++ own ∷ l) (sym (in_body-append met (unmet ++ []) ∙ ap (λ l. in_body met ++ in_body l) (append-nil unmet))) ∙ ap (λ l. ws ++ l) (sym (weighed _ e))

    weighed_block : (body : List Stmt) (layer : StmtKind-F StmtKind Stmt) → layer_of s ≡ layer → inner layer ≡ body ++ [] → (ws ++ own ∷ []) ++ in_body body ≡ ws ++ weights_in (with_inner s)
    weighed_block body layer e within =
        append_assoc ws (own ∷ []) (in_body body) ∙ ap (λ l. ws ++ own ∷ in_body l) (sym (within ∙ append-nil body)) ∙ ap (λ l. ws ++ l) (sym (weighed layer e))

    pub weighed_loop : (body : List Stmt) → layer_of s ≡ StmtKind-F.Loop body → (ws ++ own ∷ []) ++ in_body body ≡ ws ++ weights_in (with_inner s)
    weighed_loop body e = weighed_block body _ e refl

    pub weighed_repeat : (count : Num) (body : List Stmt) → layer_of s ≡ StmtKind-F.Repeat count body → (ws ++ own ∷ []) ++ in_body body ≡ ws ++ weights_in (with_inner s)
    weighed_repeat count body e = weighed_block body _ e refl

    pub weighed_plain : inner (layer_of s) ≡ [] → ws ++ own ∷ [] ≡ ws ++ weights_in (with_inner s)
    weighed_plain bare = ap (λ l. ws ++ own ∷ in_body l) (sym bare) ∙ ap (λ l. ws ++ l) (sym (weighed _ refl))

-- one more statement of a list
pub weighed_more : (ws : List Weight) (body : List Stmt) (i : ℕ) (s : Stmt) → i < length body → s ≡ get_or body i s →
    (ws ++ in_body (take i body)) ++ weights_in (with_inner s) ≡ ws ++ in_body (take (i + 1) body)
weighed_more ws body i s h e =
    append_assoc ws (in_body (take i body)) (weights_in (with_inner s))
    ∙ ap (λ l. ws ++ l) (sym (in_body-append (take i body) (s ∷ []) ∙ ap (λ l. in_body (take i body) ++ weights_in l) (append-nil (with_inner s))))
    ∙ ap (λ l. ws ++ in_body l) (sym (take_more body i s h ∙ ap (λ t. take i body ++ t ∷ []) (sym e)))

-- one more chain
pub chain_more : (chains : List Chain) (i : ℕ) (c : Chain) → i < length chains → c ≡ get_or chains i c →
    (flat_map weights (take i chains) ++ map (λ n. weight_at n.at 1) c.args) ++ in_body c.body ≡ flat_map weights (take (i + 1) chains)
chain_more chains i c h e =
    append_assoc (flat_map weights (take i chains)) (map (λ n. weight_at n.at 1) c.args) (in_body c.body)
    ∙ ap (λ l. flat_map weights (take i chains) ++ l) (sym (append-nil (weights c))) ∙ sym (flat_map-append weights (take i chains) (c ∷ []))
    ∙ ap (flat_map weights) (sym (take_more chains i c h ∙ ap (λ d. take i chains ++ d ∷ []) (sym e)))
