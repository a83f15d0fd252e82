-- The text of a summary, from what was counted.
use Rattle.std.proofs.Common.{arith, ◌≡◌, ℕ, zero, suc, ◌+◌, ◌*◌, ◌<◌, cond, List, [], ◌∷◌, ◌++◌, refl, sym, ap, ◌∙◌, append_assoc, append-nil}
use Rattle.std.specs.Prelude.{codes, decimal}
use Rattle.std.specs.Fmt.{digits}
use Rattle.std.specs.List.{flat_map, filter}
use Rattle.std.proofs.lemmas.List.Concat.{flat_map-append}
use Rattle.redn_words.specs.declared.types.Obs.{Obs}
use Rattle.redn_words.specs.declared.types.Obs.TheVariants as shows
use Rattle.redn_trace.specs.EventText.{event_text, line}
use Rattle.redn_gen.specs.Generated.{below, sought}
use Rattle.redn_gen.specs.Runs.{is_reply_of, reply_event}
use Rattle.redn_summary.specs.declared.run.Counted.{Counted}
use Rattle.redn_summary.specs.Counting.{is_reply, replies_text}
use Rattle.redn_summary.specs.Summary.{counted, reply_line}

-- a chain's replies are among all replies
its_replies : (c : ℕ) (o : Obs) (rest : List Obs) → filter (is_reply_of c) (cond (is_reply o) (o ∷ filter is_reply rest) (filter is_reply rest)) ≡ cond (is_reply_of c o) (o ∷ filter (is_reply_of c) (filter is_reply rest)) (filter (is_reply_of c) (filter is_reply rest))
its_replies c shows.Nothing rest = refl
its_replies c (shows.Set d x w) rest = refl
its_replies c (shows.Load d x t o w) rest = refl
its_replies c (shows.Look d t o w) rest = refl
its_replies c (shows.Store d t o w) rest = refl
its_replies c (shows.Reply d n words) rest = refl
its_replies c (shows.Fault d t o) rest = refl
its_replies c (shows.Stale q i) rest = refl
its_replies c (shows.Undefined q i) rest = refl
its_replies c (shows.Refused q i) rest = refl
its_replies c (shows.Odd q i) rest = refl

pub replies_among : (c : ℕ) (events : List Obs) → filter (is_reply_of c) (filter is_reply events) ≡ filter (is_reply_of c) events
replies_among c [] = refl
replies_among c (o ∷ rest) = its_replies c o rest ∙ ap (λ l. cond (is_reply_of c o) (o ∷ l) l) (replies_among c rest)

thousand : decimal 1000 ≡ codes "1000"
unfolding digits
thousand = refl

fields : (a b d e : List ℕ) → d ≡ e → (a ++ 32 ∷ (b ++ 32 ∷ (d ++ []))) ++ 10 ∷ [] ≡ ((a ++ 32 ∷ []) ++ b) ++ 32 ∷ (e ++ 10 ∷ [])
fields a b d e h =
    append_assoc a (32 ∷ (b ++ 32 ∷ (d ++ []))) (10 ∷ [])
    ∙ ap (λ (l : List ℕ). a ++ 32 ∷ l) (append_assoc b (32 ∷ (d ++ [])) (10 ∷ []) ∙ ap (λ (l : List ℕ). b ++ 32 ∷ (l ++ 10 ∷ [])) (append-nil d ∙ h))
    ∙ sym (append_assoc (a ++ 32 ∷ []) b (32 ∷ (e ++ 10 ∷ [])) ∙ append_assoc a (32 ∷ []) (b ++ 32 ∷ (e ++ 10 ∷ [])))

two_texts : (a b d : List ℕ) → d ≡ codes "1000" → codes "reply" ++ ((codes " " ++ a) ++ ((codes " " ++ b) ++ ((codes " " ++ d) ++ []))) ++ codes "\n" ≡ codes "reply " ++ a ++ codes " " ++ b ++ codes " 1000\n"
two_texts a b d h = ap (λ (l : List ℕ). codes "reply " ++ l) (fields a b d (codes "1000") h)

-- two words after a chain, of which the second is 1,000
two_fields : (c x : ℕ) → line (codes "reply") (c ∷ x ∷ 1000 ∷ []) ≡ codes "reply " ++ decimal c ++ codes " " ++ decimal x ++ codes " 1000\n"
two_fields c x = two_texts (decimal c) (decimal x) (decimal 1000) thousand

pub reply_text : (n c : ℕ) → event_text (reply_event n c) ≡ reply_line n c
unfolding event_text
reply_text n c = two_fields c (1000 * (n + sought n c))

-- the same is made for each number below n
pub same_below : (f g : ℕ → List ℕ) (n : ℕ) → ((c : ℕ) → c < n → f c ≡ g c) → flat_map f (below n) ≡ flat_map g (below n)
unfolding below
same_below f g zero same = refl
same_below f g (suc n) same =
    let before = same_below f g n (λ c l. same c (omega (arith, l))) in
    let this = same n (omega arith) in
    flat_map-append f (below n) (n ∷ []) ∙ ap (λ l. l ++ (f n ++ [])) before ∙ ap (λ l. flat_map g (below n) ++ (l ++ [])) this ∙ sym (flat_map-append g (below n) (n ∷ []))

pub one_reply : (n c : ℕ) (events replies : List Obs) → replies ≡ filter is_reply events → filter (is_reply_of c) events ≡ reply_event n c ∷ [] → replies_text replies c ≡ reply_line n c
one_reply n c events replies e its =
    ap (λ l. flat_map event_text (filter (is_reply_of c) l)) e ∙ ap (flat_map event_text) (replies_among c events ∙ its) ∙ append-nil (event_text (reply_event n c)) ∙ reply_text n c

-- ---- the text as it is written

-- the lines before the replies
abbrev pub head : ℕ → ℕ → Counted → List ℕ
head number chains c = counted (codes "gen ") number ++ counted (codes "chains ") chains ++ counted (codes "events ") c.events ++ counted (codes "steps ") c.steps

-- and those of the chains below k
abbrev pub told_below : ℕ → ℕ → Counted → ℕ → List ℕ
told_below number chains c k = head number chains c ++ flat_map (replies_text c.replies.items) (below k)

pub told_none : (number chains : ℕ) (c : Counted) (n m : ℕ) (none one two three four : List ℕ) → none ≡ [] → n ≡ number → m ≡ chains → one ≡ none ++ counted (codes "gen ") n → two ≡ one ++ counted (codes "chains ") m →
    three ≡ two ++ counted (codes "events ") c.events → four ≡ three ++ counted (codes "steps ") c.steps → four ≡ told_below number chains c 0
unfolding below
told_none number chains c n m none one two three four e en em e1 e2 e3 e4 =
    let first : one ≡ counted (codes "gen ") number = e1 ∙ ap (λ l. l ++ counted (codes "gen ") n) e ∙ ap (counted (codes "gen ")) en in
    let second = e2 ∙ ap (λ l. l ++ counted (codes "chains ") m) first ∙ ap (λ k. counted (codes "gen ") number ++ counted (codes "chains ") k) em in
    let third = e3 ∙ ap (λ l. l ++ counted (codes "events ") c.events) second in
    e4 ∙ ap (λ l. l ++ counted (codes "steps ") c.steps) third ∙ sym (append-nil (head number chains c))

pub told_more : (number chains : ℕ) (c : Counted) (k : ℕ) (text more : List ℕ) → text ≡ told_below number chains c k → more ≡ text ++ replies_text c.replies.items k → more ≡ told_below number chains c (k + 1)
unfolding below
told_more number chains c k text more e f =
    let next : k + 1 ≡ suc k = omega arith in
    let its = replies_text c.replies.items in
    f ∙ ap (λ l. l ++ its k) e ∙ append_assoc (head number chains c) (flat_map its (below k)) (its k)
    ∙ ap (λ l. head number chains c ++ l) (ap (λ l. flat_map its (below k) ++ l) (sym (append-nil (its k))) ∙ sym (flat_map-append its (below k) (k ∷ [])) ∙ ap (λ m. flat_map its (below m)) (sym next))
