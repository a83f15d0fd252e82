-- The generated messages are those that the generated file takes, and fit an image of it.
use Rattle.std.proofs.Common.{arith, ◌≡◌, ℕ, suc, ◌+◌, ◌*◌, List, [], ◌∷◌, length, map, Option, Some, None, refl, sym, ap, ◌∙◌}
use Rattle.std.specs.Prelude.{slice_get}
use Rattle.std.specs.List.{All}
use Rattle.std.proofs.lemmas.Bool.{eq-eqb}
use Rattle.redn_words.specs.Misfits.{misfit, misfits as misfits_by}
use Rattle.redn_kernel.specs.declared.types.ChainInit.{ChainInit}
use Rattle.redn_image.specs.Rules.{Image}
use Rattle.redn_image.specs.Agreement.{Fits}
use Rattle.redn_image.specs.Faithful.{IsMessageOf, AreMessages}
use Rattle.redn_adapter.specs.declared.opening.OpenFault.{OpenFault}
use Rattle.redn_adapter.specs.declared.opening.OpenFault.TheVariants as fault
use Rattle.redn_adapter.specs.Opening.{misfits}
use Rattle.redn_gen.specs.Generated.{generated_messages}
use Rattle.redn_gen.specs.Runs.{HasTwoWords, MessagesFit}
use Rattle.redn_summary.specs.Summary.{generated_program}

is_message : (c : ChainInit) (m : Option (List ℕ)) → c.args ≡ 2 → HasTwoWords m → IsMessageOf c m
is_message c None two h = tt
is_message c (Some bytes) two h = (let size = h.0 in omega (arith, two, size), h.1)

are_messages : (cs : List ChainInit) (ms : List (Option (List ℕ))) → length cs ≡ length ms → All (λ (c : ChainInit). c.args ≡ 2) cs → All HasTwoWords ms → AreMessages cs ms
are_messages [] [] same two full = tt
are_messages [] (m ∷ ms) same two full = absurd (omega (arith, same))
are_messages (c ∷ cs) [] same two full = absurd (omega (arith, same))
are_messages (c ∷ cs) (m ∷ ms) same two full =
    (is_message c m (two 0 c (omega arith)) (full 0 m (omega arith)), are_messages cs ms (omega (arith, same)) (λ k d lt. two (suc k) d (omega (arith, lt))) (λ k d lt. full (suc k) d (omega (arith, lt))))

one_fits : (c want : ℕ) (m : Option (List ℕ)) → want ≡ 16 → HasTwoWords m → misfit fault.Message c want m ≡ []
one_fits c want None e h = refl
one_fits c want (Some bytes) e h = (let same = eq-eqb (length bytes) want (h.0 ∙ sym e) in rw same refl)

all_fit : (c : ℕ) (cs : List ChainInit) (ms : List (Option (List ℕ))) → All (λ (c : ChainInit). c.args ≡ 2) cs → All HasTwoWords ms → misfits_by fault.Message c (map (λ (c : ChainInit). 8 * c.args) cs) ms ≡ []
all_fit c [] ms two full = refl
all_fit c (x ∷ cs) [] two full = refl
all_fit c (x ∷ cs) (m ∷ ms) two full =
    let this = one_fits c (8 * x.args) m (let t = two 0 x (omega arith) in omega (arith, t)) (full 0 m (omega arith)) in
    rw this (all_fit (c + 1) cs ms (λ k d lt. two (suc k) d (omega (arith, lt))) (λ k d lt. full (suc k) d (omega (arith, lt))))

module _ (n : ℕ) (fit : MessagesFit n) where
  pub messages_are : AreMessages (generated_program n).chains (generated_messages n)
  messages_are = are_messages (generated_program n).chains (generated_messages n) (fit.chains ∙ sym fit.messages) fit.two fit.full

  module _ (i : Image) (fits : Fits (generated_program n) i) where
    none_misfits : misfits 0 i.receives (generated_messages n) ≡ []
    none_misfits = ap (λ wants. misfits_by fault.Message 0 wants (generated_messages n)) fits.messages ∙ all_fit 0 (generated_program n).chains (generated_messages n) fit.two fit.full

    pub no_misfit : (ms : List (Option (List ℕ))) → ms ≡ generated_messages n → (f : OpenFault) → slice_get (misfits 0 i.receives ms) 0 ≡ Some f → ⊥
    no_misfit ms e f h =
        let none : misfits 0 i.receives ms ≡ [] = ap (misfits 0 i.receives) e ∙ none_misfits in
        let same : None ≡ Some f = sym (ap (λ l. slice_get l 0) none) ∙ h in
        absurd (cc)
