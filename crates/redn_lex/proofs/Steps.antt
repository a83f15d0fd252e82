-- One token after another.
use Rattle.std.proofs.Common.{◌≡◌, ◌<◌, ◌≤◌, ◌+◌, ◌-◌, ℕ, ◌⊎◌, inl, inr, Bool, true, false, List, [], ◌∷◌, ◌++◌, length, take, drop, sym, refl, ap, ◌∙◌, subst, arith, append_assoc, length-append}
use Rattle.std.proofs.lemmas.List.{append-nil, append_cancel_left, same_from_push, nil_from_length, take-append-drop, length-take-le, drop_at}
use Rattle.redn_syntax.specs.declared.token.Token.{Token}
use Rattle.redn_syntax.specs.declared.token.TokenKind.{TokenKind}
use Rattle.redn_syntax.specs.declared.token.TokenKind.TheVariants.{Number}
use Rattle.redn_syntax.specs.Tokens.{IsNumber, IsToken, EndsBefore, IsGap, NextToken, TokenizesFrom, Tokenizes}
use Rattle.redn_lex.specs.Fronts.{BeginsSolid, IsFront, IsStuck, IsWide, NoneBehind, GapGoesOn}
use Rattle.redn_lex.specs.declared.fault.LexFault.{LexFault}
use Rattle.redn_lex.specs.declared.fault.LexFault.TheVariants.{BadByte, NumberTooWide, Memory}
use Rattle.redn_lex.specs.Faults.{StopsFrom, IsTooWideFrom, IsBadByteFrom, IsBadByte, IsTooWide, IsFaultFrom}
use Rattle.redn_lex.proofs.Cuts.{Compared, is_same, is_shorter, is_longer, compare, begins_with}
use Rattle.redn_lex.proofs.Lexing.{gap_opens, gap_ends, gap_same, first_solid, ends_restricted, next_same, no_next, tokens_same, stops_same}

-- ---- gaps

-- a gap that goes on with nothing is over, in a comment only where it may stay open
pub closed_here : (bytes : List ℕ) (in_comment : Bool) → in_comment ≡ false → ((open_end : Bool) (more : List ℕ) → GapGoesOn open_end in_comment more → IsGap open_end (bytes ++ more)) → IsGap false bytes
closed_here bytes in_comment out h = subst (IsGap false) (append-nil bytes) (h false [] (subst (λ b. GapGoesOn false b []) (sym out) tt))

pub open_here : (bytes : List ℕ) (in_comment : Bool) → ((open_end : Bool) (more : List ℕ) → GapGoesOn open_end in_comment more → IsGap open_end (bytes ++ more)) → IsGap true bytes
open_here bytes in_comment h = subst (IsGap true) (append-nil bytes) (h true [] (nothing in_comment))
  where
    nothing : (b : Bool) → GapGoesOn true b []
    nothing true = refl
    nothing false = tt

-- ---- the end of two fronts

-- fronts of one length are one
pub same_front : (xs ys us vs : List ℕ) → xs ++ us ≡ ys ++ vs → length xs ≡ length ys → xs ≡ ys
same_front xs ys us vs e size = cases (compare xs ys us vs e)
  where
    cases : Compared xs ys → xs ≡ ys
    cases (is_same s) = s
    cases (is_shorter b more s) = absurd (omega (arith, ap length s, length-append xs (b ∷ more)))
    cases (is_longer b more s) = absurd (omega (arith, ap length s, length-append ys (b ∷ more)))

-- ---- what stands behind a gap

module _ (at : ℕ) (text gap after : List ℕ) (split : text ≡ gap ++ after) (closed : IsGap false gap) (solid : BeginsSolid after) where
  -- a token
  pub front_next : (t : Token) (len value : ℕ) (f : IsFront after t.kind len value) → t.at ≡ at + length gap → t.len ≡ len → t.value ≡ value → NextToken at text t f.rest
  front_next t len value f place size reads =
      record {
        gap = gap;
        bytes = f.bytes;
        split = split ∙ ap (λ l. gap ++ l) f.split;
        blank = closed;
        place = place;
        size = size ∙ f.size;
        means = subst (λ v. IsToken t.kind f.bytes v) (sym reads) f.means;
        ends = f.ends;
      }

  solid_ends : (front others : List ℕ) → after ≡ front ++ others → 0 < length front → IsGap true (gap ++ front) → ⊥
  solid_ends [] others e some h = omega arith
  solid_ends (c ∷ front) others e some h = gap_ends gap c front (subst BeginsSolid e solid) closed h

  -- no token, and so no longer front with tokens
  longest_from : (front : List ℕ) → NoneBehind after front → (longer rest : List ℕ) (found : List Token) → text ≡ longer ++ rest → length (gap ++ front) < length longer → TokenizesFrom at longer found → ⊥
  longest_from front none longer rest found e long tokens =
      let found_front = begins_with longer gap rest after (sym e ∙ split) (omega (arith, length-append gap front)) in
      go found_front.0 found_front.1 found tokens
    where
      go : (part : List ℕ) → longer ≡ gap ++ part → (found : List Token) → TokenizesFrom at longer found → ⊥
      go part is found tokens = cases found tokens
        where
          after_is : after ≡ part ++ rest
          after_is = append_cancel_left gap after (part ++ rest) (sym split ∙ e ∙ ap (λ l. l ++ rest) is ∙ append_assoc gap part rest)

          longer_part : length front < length part
          longer_part = omega (arith, ap length is, length-append gap part, length-append gap front)

          cases : (found : List Token) → TokenizesFrom at longer found → ⊥
          cases [] h = solid_ends part rest after_is (omega (arith, longer_part)) (subst (IsGap true) is h)
          cases (u ∷ us) (left, next, more) = token u left next
            where
              token : (u : Token) (left : List ℕ) → NextToken at longer u left → ⊥
              token u left next = behind_gap part is after_is longer_part
                where
                  behind_gap : (p : List ℕ) → longer ≡ gap ++ p → after ≡ p ++ rest → length front < length p → ⊥
                  behind_gap [] is' after_is' far = omega arith
                  behind_gap (c ∷ p) is' after_is' far =
                      let first = first_solid u.kind next.bytes u.value next.means in
                      let e' : gap ++ c ∷ p ≡ next.gap ++ first.0 ∷ (first.1 ++ left) = sym is' ∙ next.split ∙ ap (λ l. next.gap ++ (l ++ left)) first.2 in
                      let gaps = gap_same gap next.gap c first.0 p (first.1 ++ left) (subst BeginsSolid after_is' solid) first.3 closed next.blank e' in
                      let p_is : c ∷ p ≡ next.bytes ++ left = append_cancel_left gap (c ∷ p) (next.bytes ++ left) (sym is' ∙ next.split ∙ ap (λ l. l ++ (next.bytes ++ left)) (sym gaps)) in
                      none (c ∷ p) rest next.bytes left u.kind u.value after_is' far p_is next.means next.ends

  -- one token alone, or none
  Alone : List ℕ → List Token → Type 0
  Alone front ts = TokenizesFrom at (gap ++ front) ts × ((ts ≡ []) ⊎ ((t : Token) × (ts ≡ t ∷ []) × (t.at ≡ at + length gap) × (t.len ≡ length front)))

  one_alone : (kind : TokenKind) (value : ℕ) (front : List ℕ) → IsToken kind front value → (ts : List Token) × Alone front ts
  unfolding Alone
  one_alone kind value front means =
      let t : Token = record { kind = kind; at = at + length gap; len = length front; value = value } in (
        t ∷ [],
        (
          (
            [],
            record {
              gap = gap;
              bytes = front;
              split = ap (λ l. gap ++ l) (sym (append-nil front));
              blank = closed;
              place = refl;
              size = refl;
              means = means;
              ends = ends_nothing front;
            },
            tt,
          ),
          inr (t, refl, refl, refl),
        ),
      )
    where
      ends_nothing : (bytes : List ℕ) → EndsBefore bytes []
      ends_nothing bytes = record {
        longest = λ more others e shape. nothing more others e;
        whole = λ begins none. none;
      }
        where
          nothing : (more others : List ℕ) → [] ≡ more ++ others → more ≡ []
          nothing [] others e = refl
          nothing (m ∷ more) others e = cc

  none_alone : (ts : List Token) × Alone [] ts
  unfolding Alone
  none_alone = ([], (subst (IsGap true) (sym (append-nil gap)) (gap_opens gap closed), inl refl))

  stops_behind : (front others : List ℕ) (next : ℕ) (ts : List Token) → after ≡ front ++ next ∷ others → NoneBehind after front → TokenizesFrom at (gap ++ front) ts → StopsFrom at text (gap ++ front)
  stops_behind front others next ts e none tokens = record {
    next = next;
    others = others;
    split = split ∙ ap (λ l. gap ++ l) e ∙ sym (append_assoc gap front (next ∷ others));
    tokens = ts;
    tokenized = tokens;
    longest = longest_from front none;
  }

  -- a bad byte
  pub stuck_bad : (n : ℕ) → IsStuck after n → IsBadByteFrom at text (at + length gap + n)
  unfolding Alone stops_behind
  stuck_bad n s = go s.before
    where
      bad : (ts : List Token) → Alone s.front ts → IsBadByteFrom at text (at + length gap + n)
      bad ts (tokens, alone) = record {
        front = gap ++ s.front;
        stops = stops;
        place_is = omega (arith, length-append gap s.front, s.size);
        narrow = λ p w. wide p w alone;
      }
        where
          stops : StopsFrom at text (gap ++ s.front)
          stops = stops_behind s.front s.others s.next ts s.split s.none tokens

          wide : (p : ℕ) → IsTooWideFrom at text p → (ts ≡ []) ⊎ ((t : Token) × (ts ≡ t ∷ []) × (t.at ≡ at + length gap) × (t.len ≡ length s.front)) → ⊥
          wide p w alone' = cases alone'
            where
              fronts : w.before ++ w.digits ≡ gap ++ s.front
              fronts = stops_same at text _ _ w.stops stops

              all : ts ≡ w.earlier ++ w.last ∷ []
              all = tokens_same at (gap ++ s.front) ts (w.earlier ++ w.last ∷ []) tokens (subst (λ l. TokenizesFrom at l (w.earlier ++ w.last ∷ [])) fronts w.ends)

              cases : (ts ≡ []) ⊎ ((t : Token) × (ts ≡ t ∷ []) × (t.at ≡ at + length gap) × (t.len ≡ length s.front)) → ⊥
              cases (inl e) = omega (arith, ap length (sym e ∙ all), length-append w.earlier (w.last ∷ []))
              cases (inr (t, e, place, size)) =
                  let same : t ≡ w.last = (same_from_push [] w.earlier t w.last (sym e ∙ all)).1 in
                  let starts : length w.before ≡ length gap = omega (arith, ap (λ (x : Token). x.at) same, place, w.start, w.place_is) in
                  let befores : w.before ≡ gap = same_front w.before gap w.digits s.front fronts starts in
                  let digits : w.digits ≡ s.front = append_cancel_left gap w.digits s.front (ap (λ l. l ++ w.digits) (sym befores) ∙ fronts) in
                  let tails : w.stops.next ∷ w.stops.others ≡ s.next ∷ s.others =
                  append_cancel_left (gap ++ s.front) _ _ (ap (λ l. l ++ w.stops.next ∷ w.stops.others) (sym fronts) ∙ sym w.stops.split ∙ stops.split) in
                  let next : w.stops.next ≡ s.next = cc in
                  s.narrow w.value (subst (λ l. IsNumber l w.value) (ap (λ l. l ++ w.stops.next ∷ []) digits ∙ ap (λ x. s.front ++ x ∷ []) next) w.wider)

      go : (s.front ≡ []) ⊎ ((kind : TokenKind) × (value : ℕ) × IsToken kind s.front value) → IsBadByteFrom at text (at + length gap + n)
      go (inl e) = bad none_alone.0 (subst (λ l. Alone l none_alone.0) (sym e) none_alone.1)
      go (inr (kind, value, means)) = let one = one_alone kind value s.front means in bad one.0 one.1

  -- a number that is too wide
  pub wide_bad : IsWide after → IsTooWideFrom at text (at + length gap)
  unfolding one_alone Alone stops_behind
  wide_bad w =
      let t : Token = record { kind = Number; at = at + length gap; len = length w.front; value = w.narrower } in
      let one = number_alone w in
      record {
        before = gap;
        digits = w.front;
        stops = stops_behind w.front w.others w.next (t ∷ []) w.split w.none one;
        earlier = [];
        last = t;
        ends = one;
        kind = refl;
        start = refl;
        size = refl;
        place_is = refl;
        value = w.value;
        wider = w.wider;
        wide = w.wide;
      }
    where
      number_alone : (v : IsWide after) → TokenizesFrom at (gap ++ v.front) (record { kind = Number; at = at + length gap; len = length v.front; value = v.narrower } ∷ [])
      number_alone v = (one_alone Number v.narrower v.front v.before).1.0

-- ---- the whole text

-- The front of the text has been read: its tokens are found, it ends with the last of them, and what
-- tokens the text goes on with is a matter of the rest.
pub record HasRead (text front rest : List ℕ) (found : List Token) : Type 0 where
  pub split : text ≡ front ++ rest
  pub onward : (part others : List ℕ) (more : List Token) → rest ≡ part ++ others → TokenizesFrom (length front) part more → Tokenizes (front ++ part) (found ++ more)
  pub backward : (part others : List ℕ) (all : List Token) → rest ≡ part ++ others → Tokenizes (front ++ part) all → (more : List Token) × (all ≡ found ++ more) × TokenizesFrom (length front) part more
  pub ends : (earlier : List Token) (t : Token) → found ≡ earlier ++ t ∷ [] → (before : List ℕ) × (bytes : List ℕ) × (front ≡ before ++ bytes) × (t.at ≡ length before) × (t.len ≡ length bytes) × EndsBefore bytes rest

-- a gap and a token more
pub read_more : (text front rest : List ℕ) (found : List Token) (t : Token) (after : List ℕ) (r : HasRead text front rest found) (next : NextToken (length front) rest t after) → HasRead text ((front ++ next.gap) ++ next.bytes) after (found ++ t ∷ [])
read_more text front rest found t after r next = record {
  split = r.split ∙ ap (λ l. front ++ l) next.split ∙ regroup front next.gap next.bytes after;
  onward = onward;
  backward = backward;
  ends = ends;
}
  where
    regroup : (u v w x : List ℕ) → u ++ (v ++ (w ++ x)) ≡ ((u ++ v) ++ w) ++ x
    regroup u v w x = sym (append_assoc u v (w ++ x)) ∙ sym (append_assoc (u ++ v) w x)

    end_is : length ((front ++ next.gap) ++ next.bytes) ≡ t.at + t.len
    end_is = omega (arith, length-append (front ++ next.gap) next.bytes, length-append front next.gap, next.place, next.size)

    restricted : (part others : List ℕ) → after ≡ part ++ others → NextToken (length front) (next.gap ++ (next.bytes ++ part)) t part
    restricted part others e = record {
      gap = next.gap;
      bytes = next.bytes;
      split = refl;
      blank = next.blank;
      place = next.place;
      size = next.size;
      means = next.means;
      ends = ends_restricted next.bytes part others (subst (EndsBefore next.bytes) e next.ends);
    }

    part_of : (part others : List ℕ) → after ≡ part ++ others → rest ≡ (next.gap ++ (next.bytes ++ part)) ++ others
    part_of part others e =
        next.split ∙ ap (λ l. next.gap ++ (next.bytes ++ l)) e ∙ ap (λ l. next.gap ++ l) (sym (append_assoc next.bytes part others)) ∙ sym (append_assoc next.gap (next.bytes ++ part) others)

    onward : (part others : List ℕ) (more : List Token) → after ≡ part ++ others → TokenizesFrom (length ((front ++ next.gap) ++ next.bytes)) part more → Tokenizes (((front ++ next.gap) ++ next.bytes) ++ part) ((found ++ t ∷ []) ++ more)
    onward part others more e tokens =
        let both : TokenizesFrom (length front) (next.gap ++ (next.bytes ++ part)) (t ∷ more) = (part, restricted part others e, subst (λ n. TokenizesFrom n part more) end_is tokens) in
        let all = r.onward (next.gap ++ (next.bytes ++ part)) others (t ∷ more) (part_of part others e) both in
        subst (λ l. Tokenizes l ((found ++ t ∷ []) ++ more)) (regroup front next.gap next.bytes part)
        (subst (λ l. Tokenizes (front ++ (next.gap ++ (next.bytes ++ part))) l) (sym (append_assoc found (t ∷ []) more)) all)

    backward : (part others : List ℕ) (all : List Token) → after ≡ part ++ others → Tokenizes (((front ++ next.gap) ++ next.bytes) ++ part) all → (more : List Token) × (all ≡ (found ++ t ∷ []) ++ more) × TokenizesFrom (length ((front ++ next.gap) ++ next.bytes)) part more
    backward part others all e tokens =
        let back = r.backward (next.gap ++ (next.bytes ++ part)) others all (part_of part others e) (subst (λ l. Tokenizes l all) (sym (regroup front next.gap next.bytes part)) tokens) in
        go back.0 back.1 back.2
      where
        go : (ts : List Token) → all ≡ found ++ ts → TokenizesFrom (length front) (next.gap ++ (next.bytes ++ part)) ts → (more : List Token) × (all ≡ (found ++ t ∷ []) ++ more) × TokenizesFrom (length ((front ++ next.gap) ++ next.bytes)) part more
        go [] is h = absurd (no_next (length front) (next.gap ++ (next.bytes ++ part)) t part (restricted part others e) h)
        go (u ∷ us) is (left, next', more) =
            let same = next_same (length front) (next.gap ++ (next.bytes ++ part)) t u part left (restricted part others e) next' in
            let here : TokenizesFrom (t.at + t.len) part us = subst (λ n. TokenizesFrom n part us) (ap (λ (x : Token). x.at + x.len) (sym same.0)) (subst (λ l. TokenizesFrom (u.at + u.len) l us) (sym same.1) more) in
            (us, is ∙ ap (λ x. found ++ x ∷ us) (sym same.0) ∙ sym (append_assoc found (t ∷ []) us), subst (λ n. TokenizesFrom n part us) (sym end_is) here)

    ends : (earlier : List Token) (u : Token) → found ++ t ∷ [] ≡ earlier ++ u ∷ [] → (before : List ℕ) × (bytes : List ℕ) × ((front ++ next.gap) ++ next.bytes ≡ before ++ bytes) × (u.at ≡ length before) × (u.len ≡ length bytes) × EndsBefore bytes after
    ends earlier u e =
        let same : t ≡ u = (same_from_push found earlier t u e).1 in
        (front ++ next.gap, next.bytes, refl, ap (λ (x : Token). x.at) (sym same) ∙ next.place ∙ sym (length-append front next.gap), ap (λ (x : Token). x.len) (sym same) ∙ next.size, next.ends)

-- at the end
pub read_all : (text front rest : List ℕ) (found : List Token) → HasRead text front rest found → IsGap true rest → Tokenizes text found
read_all text front rest found r gap =
    subst (λ l. Tokenizes l found) (sym r.split) (subst (λ l. Tokenizes (front ++ rest) l) (append-nil found) (r.onward rest [] [] (sym (append-nil rest)) gap))

-- tokens stand in order
last_place : (at : ℕ) (text : List ℕ) (ts : List Token) (t : Token) → TokenizesFrom at text (ts ++ t ∷ []) → at ≤ t.at
last_place at text [] t (rest, next, more) = omega (arith, next.place)
last_place at text (u ∷ us) t (rest, next, more) = omega (arith, next.place, last_place (u.at + u.len) rest us t more)

-- the last of what was found, where some was found last
last_found : (xs : List Token) (y : Token) (ys es : List Token) (t : Token) → xs ++ y ∷ ys ≡ es ++ t ∷ [] → (zs : List Token) × (y ∷ ys ≡ zs ++ t ∷ [])
last_found [] y ys es t e = (es, e)
last_found (x ∷ xs) y ys [] t e = absurd (omega (arith, ap length e, length-append xs (y ∷ ys)))
last_found (x ∷ xs) y ys (z ∷ es) t e = last_found xs y ys es t cc

-- a stop of the rest is one of the text
module _ (text front rest : List ℕ) (found : List Token) (r : HasRead text front rest found) where
  stops_too : (part : List ℕ) → StopsFrom (length front) rest part → StopsFrom 0 text (front ++ part)
  stops_too part s = record {
    next = s.next;
    others = s.others;
    split = r.split ∙ ap (λ l. front ++ l) s.split ∙ sym (append_assoc front part (s.next ∷ s.others));
    tokens = found ++ s.tokens;
    tokenized = r.onward part (s.next ∷ s.others) s.tokens s.split s.tokenized;
    longest = longest;
  }
    where
      longest : (longer left : List ℕ) (ts : List Token) → text ≡ longer ++ left → length (front ++ part) < length longer → TokenizesFrom 0 longer ts → ⊥
      longest longer left ts e long tokens =
          let more = begins_with longer front left rest (sym e ∙ r.split) (omega (arith, length-append front part)) in
          let rest_is : rest ≡ more.0 ++ left = append_cancel_left front rest (more.0 ++ left) (sym r.split ∙ e ∙ ap (λ l. l ++ left) more.1 ∙ append_assoc front more.0 left) in
          let back = r.backward more.0 left ts rest_is (subst (λ l. Tokenizes l ts) more.1 tokens) in
          s.longest more.0 left back.0 rest_is (omega (arith, ap length more.1, length-append front more.0, length-append front part)) back.2

  pub wide_too : (p : ℕ) → IsTooWideFrom (length front) rest p → IsTooWide text p
  unfolding stops_too
  wide_too p w =
      let grouped : front ++ (w.before ++ w.digits) ≡ (front ++ w.before) ++ w.digits = sym (append_assoc front w.before w.digits) in
      let onward = r.onward (w.before ++ w.digits) (w.stops.next ∷ w.stops.others) (w.earlier ++ w.last ∷ []) w.stops.split w.ends in
      go grouped onward
    where
      go : front ++ (w.before ++ w.digits) ≡ (front ++ w.before) ++ w.digits → Tokenizes (front ++ (w.before ++ w.digits)) (found ++ (w.earlier ++ w.last ∷ [])) → IsTooWide text p
      go grouped onward = record {
        before = front ++ w.before;
        digits = w.digits;
        stops = stops;
        earlier = found ++ w.earlier;
        last = w.last;
        ends = subst (λ l. Tokenizes l ((found ++ w.earlier) ++ w.last ∷ [])) grouped (subst (λ l. Tokenizes (front ++ (w.before ++ w.digits)) l) (sym (append_assoc found w.earlier (w.last ∷ []))) onward);
        kind = w.kind;
        start = w.start;
        size = w.size;
        place_is = omega (arith, w.place_is, length-append front w.before);
        value = w.value;
        wider = w.wider;
        wide = w.wide;
      }
        where
          local : StopsFrom 0 text (front ++ (w.before ++ w.digits))
          local = stops_too (w.before ++ w.digits) w.stops

          stops : StopsFrom 0 text ((front ++ w.before) ++ w.digits)
          stops = record {
            next = w.stops.next;
            others = w.stops.others;
            split = local.split ∙ ap (λ l. l ++ w.stops.next ∷ w.stops.others) grouped;
            tokens = local.tokens;
            tokenized = subst (λ l. Tokenizes l local.tokens) grouped local.tokenized;
            longest = λ longer left ts e long tokens. local.longest longer left ts e (omega (arith, ap length grouped)) tokens;
          }

  pub bad_too : (p : ℕ) → IsBadByteFrom (length front) rest p → IsBadByte text p
  unfolding stops_too
  bad_too p b = record {
    front = front ++ b.front;
    stops = stops;
    place_is = omega (arith, b.place_is, length-append front b.front);
    narrow = narrow;
  }
    where
      stops : StopsFrom 0 text (front ++ b.front)
      stops = stops_too b.front b.stops

      narrow : (q : ℕ) → IsTooWide text q → ⊥
      narrow q w = go back.0 back.1 back.2
        where
          fronts : w.before ++ w.digits ≡ front ++ b.front
          fronts = stops_same 0 text _ _ w.stops stops

          sizes : length w.before + length w.digits ≡ length front + length b.front
          sizes = omega (arith, ap length fronts, length-append w.before w.digits, length-append front b.front)

          next : w.stops.next ≡ b.stops.next
          next =
              let tails : w.stops.next ∷ w.stops.others ≡ b.stops.next ∷ b.stops.others =
              append_cancel_left (front ++ b.front) _ _ (ap (λ l. l ++ w.stops.next ∷ w.stops.others) (sym fronts) ∙ sym w.stops.split ∙ stops.split) in
              cc

          back : (more : List Token) × (w.earlier ++ w.last ∷ [] ≡ found ++ more) × TokenizesFrom (length front) b.front more
          back = r.backward b.front (b.stops.next ∷ b.stops.others) (w.earlier ++ w.last ∷ []) b.stops.split (subst (λ l. Tokenizes l (w.earlier ++ w.last ∷ [])) fronts w.ends)

          go : (more : List Token) → w.earlier ++ w.last ∷ [] ≡ found ++ more → TokenizesFrom (length front) b.front more → ⊥
          go [] all tokens =
              let end = r.ends w.earlier w.last (sym (append-nil found) ∙ sym all) in
              let before = end.0 in
              let bytes = end.1 in
              let size : length front ≡ length before + length bytes = ap length end.2 ∙ length-append before bytes in
              let place : length w.before ≡ length before = omega (arith, w.place_is, w.start, end.3) in
              let none : b.front ≡ [] = nil_from_length b.front (omega (arith, sizes, size, place, w.size, end.4)) in
              let both : before ++ bytes ≡ w.before ++ w.digits = sym end.2 ∙ sym (append-nil front) ∙ ap (λ l. front ++ l) (sym none) ∙ sym fronts in
              let befores : before ≡ w.before = same_front before w.before bytes w.digits both (sym place) in
              let digits : bytes ≡ w.digits = append_cancel_left before bytes w.digits (both ∙ ap (λ l. l ++ w.digits) (sym befores)) in
              let rest_is : rest ≡ (b.stops.next ∷ []) ++ b.stops.others = b.stops.split ∙ ap (λ l. l ++ b.stops.next ∷ b.stops.others) none in
              let wider : IsNumber (bytes ++ b.stops.next ∷ []) w.value = subst (λ l. IsNumber l w.value) (ap (λ l. l ++ w.stops.next ∷ []) (sym digits) ∙ ap (λ x. bytes ++ x ∷ []) next) w.wider in
              cc (end.5.longest (b.stops.next ∷ []) b.stops.others rest_is (inr (inr (w.value, wider))))
          go (y ∷ ys) all tokens =
              let last = last_found found y ys w.earlier w.last (sym all) in
              let tokens' : TokenizesFrom (length front) b.front (last.0 ++ w.last ∷ []) = subst (TokenizesFrom (length front) b.front) last.1 tokens in
              let later = last_place (length front) b.front last.0 w.last tokens' in
              let part = begins_with w.before front w.digits b.front fronts (omega (arith, later, w.start, w.place_is)) in
              let local : part.0 ++ w.digits ≡ b.front = append_cancel_left front (part.0 ++ w.digits) b.front (sym (append_assoc front part.0 w.digits) ∙ ap (λ l. l ++ w.digits) (sym part.1) ∙ fronts) in
              b.narrow q (wide_here part.0 part.1 last.0 local tokens')
            where
              wide_here : (before : List ℕ) → w.before ≡ front ++ before → (earlier : List Token) → before ++ w.digits ≡ b.front → TokenizesFrom (length front) b.front (earlier ++ w.last ∷ []) → IsTooWideFrom (length front) rest q
              wide_here before before_is earlier local tokens' = record {
                before = before;
                digits = w.digits;
                stops = record {
                  next = b.stops.next;
                  others = b.stops.others;
                  split = b.stops.split ∙ ap (λ l. l ++ b.stops.next ∷ b.stops.others) (sym local);
                  tokens = b.stops.tokens;
                  tokenized = subst (λ l. TokenizesFrom (length front) l b.stops.tokens) (sym local) b.stops.tokenized;
                  longest = λ longer left ts e long h. b.stops.longest longer left ts e (omega (arith, ap length local)) h;
                };
                earlier = earlier;
                last = w.last;
                ends = subst (λ l. TokenizesFrom (length front) l (earlier ++ w.last ∷ [])) (sym local) tokens';
                kind = w.kind;
                start = w.start;
                size = w.size;
                place_is = omega (arith, w.place_is, ap length before_is, length-append front before);
                value = w.value;
                wider = subst (λ x. IsNumber (w.digits ++ x ∷ []) w.value) next w.wider;
                wide = w.wide;
              }

-- ---- what the code knows

module _ (at gap : ℕ) (text after : List ℕ) (within : gap ≤ length text) (after_is : after ≡ drop gap text) (closed : IsGap false (take gap text)) (solid : BeginsSolid (drop gap text)) where
  split : text ≡ take gap text ++ after
  split = sym (take-append-drop gap text) ∙ ap (λ l. take gap text ++ l) (sym after_is)

  solid' : BeginsSolid after
  solid' = subst BeginsSolid (sym after_is) solid

  size : length (take gap text) ≡ gap
  size = length-take-le gap text within

  pub next_of : (t : Token) (len value : ℕ) → IsFront after t.kind len value → t.at ≡ at + gap → t.len ≡ len → t.value ≡ value → NextToken at text t (drop (t.at + t.len - at) text)
  next_of t len value f place size_is reads =
      let next = front_next at text (take gap text) after split closed solid' t len value f (place ∙ ap (λ n. at + n) (sym size)) size_is reads in
      let whole : text ≡ (take gap text ++ f.bytes) ++ f.rest = split ∙ ap (λ l. take gap text ++ l) f.split ∙ sym (append_assoc (take gap text) f.bytes f.rest) in
      let count : length (take gap text ++ f.bytes) ≡ t.at + t.len - at = omega (arith, length-append (take gap text) f.bytes, size, f.size) in
      let rest : f.rest ≡ drop (t.at + t.len - at) text = sym (ap (drop (t.at + t.len - at)) whole ∙ drop_at (take gap text ++ f.bytes) f.rest (t.at + t.len - at) count) in
      subst (NextToken at text t) rest next

  pub bad_of : (n : ℕ) → IsStuck after n → IsBadByteFrom at text (at + gap + n)
  bad_of n s = subst (IsBadByteFrom at text) (ap (λ k. at + k + n) size) (stuck_bad at text (take gap text) after split closed solid' n s)

  pub wide_of : IsWide after → IsTooWideFrom at text (at + gap)
  wide_of w = subst (IsTooWideFrom at text) (ap (λ k. at + k) size) (wide_bad at text (take gap text) after split closed solid' w)

-- what the loop over the tokens keeps
pub record Reads (text rest : List ℕ) (place : ℕ) (found : List Token) : Type 0 where
  pub front : List ℕ
  pub place_is : place ≡ length front
  pub read : HasRead text front rest found

pub reads_more : (text rest : List ℕ) (place : ℕ) (found : List Token) (t : Token) (after : List ℕ) → Reads text rest place found → NextToken place rest t after → Reads text after (t.at + t.len) (found ++ t ∷ [])
reads_more text rest place found t after r next =
    let next' = subst (λ n. NextToken n rest t after) r.place_is next in
    record {
      front = (r.front ++ next'.gap) ++ next'.bytes;
      place_is = omega (arith, length-append (r.front ++ next'.gap) next'.bytes, length-append r.front next'.gap, next'.place, next'.size);
      read = read_more text r.front rest found t after r.read next';
    }

pub reads_all : (text rest : List ℕ) (place : ℕ) (found : List Token) → Reads text rest place found → IsGap true rest → Tokenizes text found
reads_all text rest place found r gap = read_all text r.front rest found r.read gap

pub reads_fault : (text rest : List ℕ) (place : ℕ) (found : List Token) (fault : LexFault) → Reads text rest place found → IsFaultFrom place rest fault → IsFaultFrom 0 text fault
reads_fault text rest place found (BadByte at) r b = bad_too text r.front rest found r.read at (subst (λ n. IsBadByteFrom n rest at) r.place_is b)
reads_fault text rest place found (NumberTooWide at) r w = wide_too text r.front rest found r.read at (subst (λ n. IsTooWideFrom n rest at) r.place_is w)
reads_fault text rest place found Memory r m = tt
