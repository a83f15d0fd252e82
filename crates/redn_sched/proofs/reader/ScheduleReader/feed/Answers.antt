use Rattle.std.proofs.Common.{◌≡◌, ◌+◌, ◌++◌, ℕ, List, inl, inr, take, None, refl, sym, ap, ◌∙◌, arith}
use Rattle.std.proofs.lemmas.List.{take_all, length-take-le}
use Rattle.redn_sched.specs.Pieces.{Reader, held_of, IsFed}
use Rattle.redn_sched.specs.declared.reader.Got.TheVariants.{More}
use Rattle.redn_sched.proofs.FedPieces.{good_fed, front_len, no_newline, first_newline, held_takes, fed_reads, fed_begins}
use Rattle.redn_sched.proofs.reader.ScheduleReader.feed.Goals as goal
use Rattle.redn_sched.proofs.reader.ScheduleReader.feed.Goals.{Then-front-piece, After-take_line}

whole : (c : Then-front-piece) → IsFed c.args.self.now c.args.piece.now c.line_len-front.result More c.hold.new.self
whole c =
    let r = c.args.self.now in
    let piece = c.args.piece.now in
    let n = c.line_len-front.result in
    let good : r.bad ≡ None = ap (λ (t : Reader). t.bad) (sym c.self.view_is) ∙ c.in_default.is in
    let all : take n piece ≡ piece = take_all n piece (omega (arith, c.if-front-piece.true)) in
    good_fed r piece n More c.hold.new.self good
    (inl (record {
      one_line = no_newline piece (sym c.line_len-front.ensures.value ∙ c.if-front-piece.true);
      taken_is = c.if-front-piece.true;
      got_is = refl;
      now_is = c.hold.ensures ∙ ap (λ (l : List ℕ). let t : Reader = record r { held = held_of (r.held ++ l) } in t) all;
    }))

pub returns-then-front-piece-clause-fed : goal.returns-then-front-piece-clause-fed
returns-then-front-piece-clause-fed c = whole c

pub returns-then-front-piece-clause-reads : goal.returns-then-front-piece-clause-reads
returns-then-front-piece-clause-reads c =
    λ rest xs bad h. fed_reads c.args.self.now c.args.piece.now c.line_len-front.result More c.hold.new.self rest xs bad (whole c) h

by_line : (c : After-take_line) → IsFed c.args.self.now c.args.piece.now (c.line_len-front.result + 1) c.take_line.result c.take_line.new.self
by_line c =
    let r = c.args.self.now in
    let piece = c.args.piece.now in
    let n = c.line_len-front.result in
    let value = c.line_len-front.ensures.value in
    let good : r.bad ≡ None = ap (λ (t : Reader). t.bad) (sym c.self.view_is) ∙ c.in_default.is in
    let split = first_newline piece (omega (arith, value, c.line_len-front.ensures.within)) (λ e. c.if-front-piece.false (value ∙ e)) in
    let front : take n piece ≡ _ = ap (λ (k : ℕ). take k piece) value in
    good_fed r piece (n + 1) c.take_line.result c.take_line.new.self good
    (inr (record {
      front = _;
      behind = split.0;
      split = split.1;
      taken_is = ap (λ (k : ℕ). k + 1) (value ∙ sym (length-take-le (front_len piece) piece (omega (arith, value, c.line_len-front.ensures.within))));
      takes = held_takes r c.hold.new.self _ c.take_line.result c.take_line.new.self (c.hold.ensures ∙ ap (λ (l : List ℕ). let t : Reader = record r { held = held_of (r.held ++ l) } in t) front) c.take_line.ensures;
    }))

pub returns-clause-fed : goal.returns-clause-fed
returns-clause-fed c = by_line c

pub returns-clause-reads : goal.returns-clause-reads
returns-clause-reads c =
    λ rest xs bad h. fed_reads c.args.self.now c.args.piece.now (c.line_len-front.result + 1) c.take_line.result c.take_line.new.self rest xs bad (by_line c) h

pub returns-then-front-piece-clause-begins : goal.returns-then-front-piece-clause-begins
returns-then-front-piece-clause-begins c =
    λ rest xs h. fed_begins c.args.self.now c.args.piece.now c.line_len-front.result More c.hold.new.self rest xs (whole c) h

pub returns-clause-begins : goal.returns-clause-begins
returns-clause-begins c =
    λ rest xs h. fed_begins c.args.self.now c.args.piece.now (c.line_len-front.result + 1) c.take_line.result c.take_line.new.self rest xs (by_line c) h
