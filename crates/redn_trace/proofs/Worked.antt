-- A line of each kind of event, typed by hand.
use Rattle.std.proofs.Common.{◌≡◌, [], ◌∷◌, refl}
use Rattle.std.specs.Prelude.{codes}
use Rattle.std.specs.Fmt.{digits}
use Rattle.redn_words.specs.declared.types.Obs.TheVariants as shows
use Rattle.redn_trace.specs.EventText.{event_text}

nothing : event_text shows.Nothing ≡ []
unfolding event_text
nothing = refl

set : event_text (shows.Set 0 0 42) ≡ codes "set 0 0 42\n"
unfolding event_text digits
set = refl

load : event_text (shows.Load 1 2 3 40 5) ≡ codes "load 1 2 3 40 5\n"
unfolding event_text digits
load = refl

look : event_text (shows.Look 1 3 40 5) ≡ codes "look 1 3 40 5\n"
unfolding event_text digits
look = refl

store : event_text (shows.Store 0 0 0 7) ≡ codes "store 0 0 0 7\n"
unfolding event_text digits
store = refl

-- a reply of one word leaves the seven others out
reply : event_text (shows.Reply 0 1 (7 ∷ 6 ∷ 5 ∷ 4 ∷ 3 ∷ 2 ∷ 1 ∷ 0 ∷ [])) ≡ codes "reply 0 7\n"
unfolding event_text digits
reply = refl

long_reply : event_text (shows.Reply 15 8 (10 ∷ 20 ∷ 30 ∷ 40 ∷ 50 ∷ 60 ∷ 70 ∷ 80 ∷ [])) ≡ codes "reply 15 10 20 30 40 50 60 70 80\n"
unfolding event_text digits
long_reply = refl

fault : event_text (shows.Fault 1 0 4096) ≡ codes "fault 1 0 4096\n"
unfolding event_text digits
fault = refl

stale : event_text (shows.Stale 0 1) ≡ codes "stale 0 1\n"
unfolding event_text digits
stale = refl

undefined : event_text (shows.Undefined 0 0) ≡ codes "undefined 0 0\n"
unfolding event_text digits
undefined = refl

refused : event_text (shows.Refused 65534 9) ≡ codes "refused 65534 9\n"
unfolding event_text digits
refused = refl

odd : event_text (shows.Odd 4294967295 3) ≡ codes "odd 4294967295 3\n"
unfolding event_text digits
odd = refl

-- the greatest word has twenty digits
greatest : event_text (shows.Set 65535 4294967295 18446744073709551615) ≡ codes "set 65535 4294967295 18446744073709551615\n"
unfolding event_text digits
greatest = refl
