-- Every event fits its line: a reply has at most eight words.
use Rattle.std.proofs.Common.{◌≡◌, ℕ, ◌/◌, ◌%◌, ◌≤◌, Bool, true, false, cond, ◌&&◌, ◌==◌, List, refl, arith}
use Rattle.std.specs.Prelude.{Option, Some, None, Result, Ok, Err, nat_le, slice_get}
use Rattle.std.specs.FinMap as finite
use Rattle.std.proofs.lemmas.Bool.Decides.{nat_tests}
use Rattle.redn_words.specs.declared.types.Action.{Action}
use Rattle.redn_words.specs.declared.types.Action.TheVariants.{Deliver, Fetch, Start, Land, Complete}
use Rattle.redn_words.specs.declared.types.Request.{Request}
use Rattle.redn_words.specs.declared.types.Region.{Region}
use Rattle.redn_words.specs.declared.types.Flight.{Flight}
use Rattle.redn_words.specs.declared.types.Opcode.{Opcode}
use Rattle.redn_words.specs.declared.types.Opcode.TheVariants as op
use Rattle.redn_words.specs.declared.types.Kind.{Kind}
use Rattle.redn_words.specs.declared.types.Kind.TheVariants.{Vars, Table, Code, Control, Message}
use Rattle.redn_words.specs.declared.types.Spot.{Spot}
use Rattle.redn_words.specs.declared.types.Refusal.{Refusal}
use Rattle.redn_words.specs.declared.types.Refusal.TheVariants as no
use Rattle.redn_words.specs.declared.types.Origin.{Origin}
use Rattle.redn_words.specs.declared.types.Obs.{Obs}
use Rattle.redn_words.specs.declared.types.Obs.TheVariants as shows
use Rattle.redn_words.specs.Words.{word, bytes_at}
use Rattle.redn_words.specs.Requests.{decoded}
use Rattle.redn_words.specs.Access.{region_of}
use Rattle.redn_words.specs.Landings.{Landing, lands, two_sides, one_side, odd, write_to, write_shows, read_into_vars, read_hidden, read_shows, is_hidden, add_to, reply_words, send_shows, sum_of, is_move, table_fault, fault_in, remote_refused}
use Rattle.redn_words.specs.States.{State, Queue}
use Rattle.redn_words.specs.Steps.{shown, class_of, start_shows, land_shows, with_queue, is_old, is_undefined, refused_start, flying}
use Rattle.redn_trace.specs.EventText.{IsPrintable}

record Fits (o : Obs) : Type 0 where
  fits : IsPrintable o

one_of : (b : Bool) (x y : Obs) → Fits x → Fits y → Fits (cond b x y)
one_of true x y p q = p
one_of false x y p q = q

where_true : (b : Bool) (x y : Obs) → (b ≡ true → Fits x) → Fits y → Fits (cond b x y)
where_true true x y p q = p refl
where_true false x y p q = q

module _ (o : Origin) (r : Request) where
  write_to_fits : (w : ℕ) (remote : Kind) → Fits (write_to o r w remote)
  write_to_fits w Vars = one_of (r.length == 8 && r.remote % 8 == 0) (shows.Set o.chain (r.remote / 8) w) (odd o) (record { fits = tt }) (record { fits = tt })
  write_to_fits w (Table t) = one_of (r.length == 8) (shows.Store o.chain t r.remote w) (odd o) (record { fits = tt }) (record { fits = tt })
  write_to_fits w Code = record { fits = tt }
  write_to_fits w Control = record { fits = tt }
  write_to_fits w Message = record { fits = tt }

  write_fits : (w : ℕ) (local remote : Kind) → Fits (write_shows o r w local remote)
  write_fits w Vars remote = write_to_fits w remote
  write_fits w (Table t) remote = record { fits = tt }
  write_fits w Code remote = write_to_fits w remote
  write_fits w Control remote = write_to_fits w remote
  write_fits w Message remote = write_to_fits w remote

  into_vars_fits : (w : ℕ) (remote : Kind) → Fits (read_into_vars o r w remote)
  into_vars_fits w Vars = one_of (r.length == 8 && r.local % 8 == 0) (shows.Set o.chain (r.local / 8) w) (odd o) (record { fits = tt }) (record { fits = tt })
  into_vars_fits w (Table t) = one_of (r.length == 8 && r.local % 8 == 0) (shows.Load o.chain (r.local / 8) t r.remote w) (odd o) (record { fits = tt }) (record { fits = tt })
  into_vars_fits w Code = one_of (r.length == 8 && r.local % 8 == 0) (shows.Set o.chain (r.local / 8) w) (odd o) (record { fits = tt }) (record { fits = tt })
  into_vars_fits w Control = one_of (r.length == 8 && r.local % 8 == 0) (shows.Set o.chain (r.local / 8) w) (odd o) (record { fits = tt }) (record { fits = tt })
  into_vars_fits w Message = one_of (r.length == 8 && r.local % 8 == 0) (shows.Set o.chain (r.local / 8) w) (odd o) (record { fits = tt }) (record { fits = tt })

  hidden_fits : (w : ℕ) (remote : Kind) → Fits (read_hidden o r w remote)
  hidden_fits w Vars = record { fits = tt }
  hidden_fits w (Table t) = one_of (r.length == 8) (shows.Look o.chain t r.remote w) (odd o) (record { fits = tt }) (record { fits = tt })
  hidden_fits w Code = record { fits = tt }
  hidden_fits w Control = record { fits = tt }
  hidden_fits w Message = record { fits = tt }

  read_fits : (w : ℕ) (local remote : Kind) → Fits (read_shows o r w local remote)
  read_fits w Vars remote = into_vars_fits w remote
  read_fits w (Table t) remote = record { fits = tt }
  read_fits w Code remote = hidden_fits w remote
  read_fits w Control remote = hidden_fits w remote
  read_fits w Message remote = record { fits = tt }

  add_to_fits : (w : ℕ) (remote : Kind) → Fits (add_to o r w remote)
  add_to_fits w Vars = record { fits = tt }
  add_to_fits w (Table t) = record { fits = tt }
  add_to_fits w Code = record { fits = tt }
  add_to_fits w Control = record { fits = tt }
  add_to_fits w Message = record { fits = tt }

  send_fits : (sent : List ℕ) (kind : Kind) → Fits (send_shows o r sent kind)
  send_fits sent Control =
      where_true (r.length % 8 == 0 && nat_le r.length 64) (shows.Reply o.chain (r.length / 8) (reply_words (r.length / 8) sent)) (odd o) (λ e. let small : r.length ≤ 64 = grind (arith, nat_tests) in record { fits = omega arith }) (record { fits = tt })
  send_fits sent Vars = record { fits = tt }
  send_fits sent (Table t) = record { fits = tt }
  send_fits sent Code = record { fits = tt }
  send_fits sent Message = record { fits = tt }

  fault_fits : (k : Kind) → Fits (table_fault o r k)
  fault_fits Vars = record { fits = tt }
  fault_fits (Table t) = record { fits = tt }
  fault_fits Code = record { fits = tt }
  fault_fits Control = record { fits = tt }
  fault_fits Message = record { fits = tt }

  fault_in_fits : (region : Option Region) → Fits (fault_in o r region)
  fault_in_fits None = record { fits = tt }
  fault_in_fits (Some region) = fault_fits region.kind

  refused_fits : (regions : List Region) (opcode : Opcode) (e : Refusal) → Fits (remote_refused regions o opcode r e)
  refused_fits regions opcode no.Range = one_of (is_move opcode && r.length == 8) (fault_in o r (region_of regions r.rkey)) (shows.Refused o.queue o.index) (fault_in_fits (region_of regions r.rkey)) (record { fits = tt })
  refused_fits regions opcode no.NoKey = record { fits = tt }
  refused_fits regions opcode no.WrongDomain = record { fits = tt }
  refused_fits regions opcode no.Length = record { fits = tt }
  refused_fits regions opcode no.Unaligned = record { fits = tt }
  refused_fits regions opcode no.Rights = record { fits = tt }

  two_fit : (regions : List Region) (opcode : Opcode) (a b : Result Spot Refusal) (go : Spot → Spot → Landing) → ((l d : Spot) → Fits (go l d).shown) → Fits (two_sides regions o opcode r a b go).shown
  two_fit regions opcode (Err e) b go h = record { fits = tt }
  two_fit regions opcode (Ok l) (Err e) go h = refused_fits regions opcode e
  two_fit regions opcode (Ok l) (Ok d) go h = h l d

  one_fits : (a : Result Spot Refusal) (go : Spot → Landing) → ((l : Spot) → Fits (go l).shown) → Fits (one_side o a go).shown
  one_fits (Err e) go h = record { fits = tt }
  one_fits (Ok l) go h = h l

  lands_fit : (regions : List Region) (memory : List ℕ) (opcode : Opcode) → Fits (lands regions o memory r opcode).shown
  unfolding lands
  lands_fit regions memory op.Noop = record { fits = tt }
  lands_fit regions memory op.Write = two_fit regions op.Write _ _ _ (λ l d. write_fits _ l.kind d.kind)
  lands_fit regions memory op.Read = two_fit regions op.Read _ _ _ (λ l d. read_fits _ l.kind d.kind)
  lands_fit regions memory op.Cas = two_fit regions op.Cas _ _ _ (λ l d. one_of (is_hidden l.kind && is_hidden d.kind) shows.Nothing (odd o) (record { fits = tt }) (record { fits = tt }))
  lands_fit regions memory op.Add = two_fit regions op.Add _ _ _ (λ l d. let w = sum_of r (word (bytes_at memory d.at 8) 0) in one_of (is_hidden l.kind) (add_to o r w d.kind) (odd o) (add_to_fits w d.kind) (record { fits = tt }))
  lands_fit regions memory op.Send = one_fits _ _ (λ l. send_fits _ l.kind)
  lands_fit regions memory op.Wait = record { fits = tt }
  lands_fit regions memory op.Enable = record { fits = tt }
  lands_fit regions memory (op.Undefined n) = record { fits = tt }

start_fits : (s : State) (q : ℕ) (u : Queue) (copy : Option (List ℕ)) → Fits (start_shows s q u copy)
start_fits s q u None = record { fits = tt }
start_fits s q u (Some copy) =
    let r = decoded copy in
    let refused = refused_start s u.row.domain r (class_of r) in
    let last = one_of refused (shows.Refused q u.head) shows.Nothing (record { fits = tt }) (record { fits = tt }) in
    one_of (is_old s u copy) (shows.Stale q u.head) (cond (is_undefined (class_of r)) (shows.Undefined q u.head) (cond refused (shows.Refused q u.head) shows.Nothing)) (record { fits = tt })
    (one_of (is_undefined (class_of r)) (shows.Undefined q u.head) (cond refused (shows.Refused q u.head) shows.Nothing) (record { fits = tt }) last)

land_fits : (s : State) (q i : ℕ) (u : Queue) (f : Option Flight) → Fits (land_shows s q i u f)
land_fits s q i u None = record { fits = tt }
land_fits s q i u (Some f) = lands_fit _ _ s.regions s.memory _

with_queue_fits : (u : Option Queue) (go : Queue → Obs) → ((u : Queue) → Fits (go u)) → Fits (with_queue u shows.Nothing go)
with_queue_fits None go h = record { fits = tt }
with_queue_fits (Some u) go h = h u

all_fit : (s : State) (a : Action) → Fits (shown s a)
unfolding shown
all_fit s (Deliver c) = record { fits = tt }
all_fit s (Fetch q i) = record { fits = tt }
all_fit s (Start q) = with_queue_fits (slice_get s.queues q) _ (λ u. start_fits s q u (finite.get u.held u.head))
all_fit s (Land q i) = with_queue_fits (slice_get s.queues q) _ (λ u. land_fits s q i u (flying u i))
all_fit s (Complete q) = record { fits = tt }

pub shown_fits : (s : State) (a : Action) → IsPrintable (shown s a)
shown_fits s a = (all_fit s a).fits
