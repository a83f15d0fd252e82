use Rattle.std.proofs.Common.{◌≡◌, ◌++◌, ◌∷◌, [], ℕ, List, ap, ◌∙◌}
use Rattle.std.specs.Prelude.{Option}
use Rattle.std.specs.List.{filter}
use Rattle.redn_words.specs.declared.types.Action.{Action}
use Rattle.redn_words.specs.declared.types.Action.TheVariants.{Start, Complete}
use Rattle.redn_words.specs.Steps.{possible}
use Rattle.redn_queue.specs.Telling.{least_unheld, greatest_unheld, oldest_unlanded, newest_unlanded}
use Rattle.redn_sched.specs.MadeSchedules.{land_of, fetch_of}
use Rattle.redn_sched.specs.Shuffles.{another, held_head}
use Rattle.redn_sched.proofs.Drawing.{one_more}
use Rattle.redn_sched.proofs.choices.Choices.offer_queue.Goals as goal

pub returns : goal.returns
returns c =
    let p = possible c.args.a.now.state in
    let q = c.args.queue in
    let u = c.args.u.now in
    let oldest = c.oldest_unlanded-oldest.ensures in
    let least = c.least_unheld-least.ensures in
    let newer = c.another.ensures ∙ ap (λ (o : Option ℕ). another o c.newest_unlanded.result) oldest ∙ ap (another (oldest_unlanded u)) c.newest_unlanded.ensures in
    let greater = c.another-2.ensures ∙ ap (λ (o : Option ℕ). another o c.greatest_unheld.result) least ∙ ap (another (least_unheld u)) c.greatest_unheld.ensures in
    let lands = λ (xs : List Action) (o : Option ℕ). xs ++ filter p (land_of q o) in
    let fetches = λ (xs : List Action) (o : Option ℕ). xs ++ filter p (fetch_of q o) in
    let s0 = c.args.self.now in
    let s1 = c.offer.new.self in
    let s2 = c.offer_land.new.self in
    let s3 = c.offer_land-2.new.self in
    let s4 = c.offer-2.new.self in
    let s5 = c.offer_fetch.new.self in
    let s6 = c.offer_fetch-2.new.self in
    let s7 = c.offer_fetch-3.new.self in
    let e2 : s2 ≡ s1 ++ filter p (land_of q (oldest_unlanded u)) = c.offer_land.ensures.list ∙ ap (lands s1) oldest in
    let e3 : s3 ≡ s2 ++ filter p (land_of q (another (oldest_unlanded u) (newest_unlanded u))) = c.offer_land-2.ensures.list ∙ ap (lands s2) newer in
    let e5 : s5 ≡ s4 ++ filter p (fetch_of q (least_unheld u)) = c.offer_fetch.ensures.list ∙ ap (fetches s4) least in
    let e6 : s6 ≡ s5 ++ filter p (fetch_of q (another (least_unheld u) (greatest_unheld u))) = c.offer_fetch-2.ensures.list ∙ ap (fetches s5) greater in
    let e7 : s7 ≡ s6 ++ filter p (fetch_of q (held_head u)) = c.offer_fetch-3.ensures.list ∙ ap (fetches s6) c.held_head.ensures in
    let f6 = one_more p s5 s6 s7 _ _ e6 e7 in
    let f5 = one_more p s4 s5 s7 _ _ e5 f6 in
    let f4 = one_more p s3 s4 s7 (Start q ∷ []) _ c.offer-2.ensures.list f5 in
    let f3 = one_more p s2 s3 s7 _ _ e3 f4 in
    let f2 = one_more p s1 s2 s7 _ _ e2 f3 in
    one_more p s0 s1 s7 (Complete q ∷ []) _ c.offer.ensures.list f2
