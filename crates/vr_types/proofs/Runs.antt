-- Three sites that replicate a tally, the post between them and a node that asks: enough of a world to compute runs with the site step.
use Rattle.std.proofs.Common.{ℕ, zero, suc, ◌+◌, ◌-◌, ◌==◌, ◌&&◌, ◌||◌, Bool, true, false, nat_le, List, [], ◌∷◌, ◌++◌, map, fold, length, slice_get, slice_set, Option, Some, None, if◌then◌else◌}
use Rattle.std.specs.List.{list_any, last_or, filter}
use Rattle.vr_types.specs.declared.event.EventOf.{EventOf}
use Rattle.vr_types.specs.declared.event.EventOf.TheVariants as event
use Rattle.vr_types.specs.declared.event.Status.{Status}
use Rattle.vr_types.specs.declared.machine.Machine.{Ghosts}
use Rattle.vr_types.specs.declared.message.EnvelopeOf.{EnvelopeOf}
use Rattle.vr_types.specs.declared.message.MsgOf.{MsgOf}
use Rattle.vr_types.specs.declared.message.MsgOf.TheVariants.{Request, Prepare, PrepareOk, Commit, StartViewChange, DoViewChange, StartView, GetState, NewState, Recovery, RecoveryResponse, Reply, PayOrder}
use Rattle.vr_types.specs.Group.{actor_of, sites}
use Rattle.vr_types.specs.Site.{Site, opening_site}
use Rattle.vr_types.specs.Step.{Step, Ending, Handled}
use Rattle.vr_types.specs.Handling.{site_step, machine_of, envelopes}
use Rattle.vr_types.proofs.Choosing.{choice_of}

-- what a tally is asked
pub data Ask : Type 0 where
  Add : ℕ → Ask
  Total : Ask

abbrev pub same_ask : Ask → Ask → Bool
same_ask (Add a) (Add b) = a == b
same_ask (Add a) Total = false
same_ask Total (Add b) = false
same_ask Total Total = true

-- a sum, and how many commands went into it
pub record Tally : Type 0 where
  pub total : ℕ
  pub asked : ℕ

abbrev pub total_after : Tally → Ask → ℕ
total_after t (Add n) = t.total + n
total_after t Total = t.total

-- a tally starts at a number, answers the total, and has no orders
abbrev pub tally : Ghosts Tally Ask ℕ ℕ ℕ
tally = record {
  admits = λ start. Unit {0};
  start = λ start. record { total = start; asked = 0 };
  count = λ t. t.asked;
  answer = λ t client ask. total_after t ask;
  after = λ t client ask. record { total = total_after t ask; asked = t.asked + 1 };
  orders = λ t. [];
}

abbrev pub Mail : Type 0
Mail = EnvelopeOf Ask ℕ ℕ

abbrev pub Message : Type 0
Message = MsgOf Ask ℕ ℕ

abbrev pub fresh_tally : Tally
fresh_tally = record { total = 0; asked = 0 }

-- the step of site `me`, where the choices are made by loops
abbrev pub step : ℕ → ℕ → Site Ask → EventOf Ask ℕ ℕ → Step Ask ℕ ℕ
step f me x e = site_step (choice_of same_ask f) f me x e

-- the step of a site that a message reaches
abbrev pub takes : ℕ → ℕ → Site Ask → ℕ → Message → Step Ask ℕ ℕ
takes f me x from msg = step f me x (event.Deliver (record { from = from; to = actor_of me; msg = msg }))

-- what site `me` sends
abbrev pub sent : ℕ → Step Ask ℕ ℕ → List Mail
sent me s = envelopes tally fresh_tally me s

-- a site over a new cell
abbrev pub fresh : ℕ → Site Ask
fresh f = opening_site f (record { boots = 0 })

-- one that asks: its requests in order, and how many are answered
pub record Asker : Type 0 where
  pub requests : List Ask
  pub answered : ℕ

pub record World : Type 0 where
  pub sites : List (Site Ask)
  pub asker : Asker
  pub post : List Mail
  pub cursor : ℕ
  pub cut : List ℕ
  pub ending : Ending  -- of the last event at a site

-- what may be done with it; envelopes are numbered from 1
pub data Line : Type 0 where
  PayIn Drain Deliver Beat Timer Crash Restart Cut Heal : ℕ → Line
  To : ℕ → ℕ → ℕ → Line  -- the newest envelope of this kind from a site to a site is delivered
  Asks : ℕ → ℕ → Line  -- a request of this number reaches a site
  BeatAsker : Line

-- the client that asks
abbrev pub asker_number : ℕ
asker_number = 102

abbrev pub opening : ℕ → World
opening f = record {
  sites = map (λ i. fresh f) (sites f);
  asker = record { requests = []; answered = 0 };
  post = [];
  cursor = 0;
  cut = [];
  ending = Handled;
}

-- the requests that are out, at most one, to every site
abbrev pub asks : ℕ → ℕ → Option Ask → List Mail
asks f number None = []
asks f number (Some ask) = map (λ i. record { from = asker_number; to = actor_of i; msg = Request (record { number = number; cmd = ask }) }) (sites f)

-- the kinds of messages, by their numbers on the wire
abbrev pub kind_of : Message → ℕ
kind_of (Request msg) = 1
kind_of (Prepare msg) = 2
kind_of (PrepareOk msg) = 3
kind_of (Commit msg) = 4
kind_of (StartViewChange msg) = 5
kind_of (DoViewChange msg) = 6
kind_of (StartView msg) = 7
kind_of (GetState msg) = 8
kind_of (NewState msg) = 9
kind_of (Recovery msg) = 10
kind_of (RecoveryResponse msg) = 11
kind_of (Reply msg) = 12
kind_of (PayOrder order) = 13

abbrev pub newest_of : ℕ → ℕ → ℕ → List Mail → Option Mail
newest_of kind from to post =
    last_or None (filter (λ e. (kind_of e.msg == kind) && ((e.from == actor_of from) && (e.to == actor_of to))) post)

-- where a site of a number takes its step so
module _ (step_of : ℕ → Site Ask → EventOf Ask ℕ ℕ → Step Ask ℕ ℕ) (f : ℕ) where
  abbrev pub sends : World → List Mail → World
  sends w mails = record w { post = w.post ++ mails }

  abbrev pub asks_on : World → World
  asks_on w = sends w (asks f (w.asker.answered + 1) (slice_get w.asker.requests w.asker.answered))

  abbrev pub pays_in : World → ℕ → World
  pays_in w n =
      let more = record w { asker = record (w.asker) { requests = w.asker.requests ++ Add n ∷ [] } } in
      if length w.asker.requests == w.asker.answered then asks_on more else more

  abbrev pub hears : World → Message → World
  hears w (Reply msg) =
      if msg.number == w.asker.answered + 1 then asks_on (record w { asker = record (w.asker) { answered = msg.number } }) else w
  hears w _ = w

  abbrev pub after_step : World → ℕ → Step Ask ℕ ℕ → World
  after_step w i s =
      sends (record w { sites = slice_set w.sites i s.site; ending = s.ending }) (sent i s)

  abbrev pub acts : World → ℕ → EventOf Ask ℕ ℕ → Option (Site Ask) → World
  acts w i e None = w
  acts w i e (Some x) = after_step w i (step_of i x e)

  abbrev pub at_site : World → ℕ → EventOf Ask ℕ ℕ → World
  at_site w i e = acts w i e (slice_get w.sites i)

  abbrev pub arrives : World → Mail → Bool → World
  arrives w e true = at_site w (e.to - 200) (event.Deliver e)
  arrives w e false = hears w e.msg

  abbrev pub delivers : World → Option Mail → World
  delivers w None = w
  delivers w (Some e) = arrives w e (nat_le 200 e.to)

  abbrev pub is_cut : World → Mail → Bool
  is_cut w e = list_any (λ actor. (actor == e.from) || (actor == e.to)) w.cut

  abbrev pub passes : (ℕ → World → World) → ℕ → World → Mail → Bool → World
  passes rest n w e true = rest (suc n) w
  passes rest n w e false = rest n (delivers w (Some e))

  abbrev pub drains_one : (ℕ → World → World) → ℕ → World → Option Mail → World
  drains_one rest n w None = w
  drains_one rest zero w (Some e) = w
  drains_one rest (suc n) w (Some e) = passes rest n (record w { cursor = w.cursor + 1 }) e (is_cut w e)

  abbrev pub drains : ℕ → ℕ → World → World
  drains zero n w = w
  drains (suc fuel) n w = drains_one (drains fuel) n w (slice_get w.post w.cursor)

  abbrev pub does_line : World → Line → World
  does_line w (PayIn n) = pays_in w n
  does_line w (Drain n) = drains 200 n w
  does_line w (Deliver n) = delivers w (slice_get w.post (n - 1))
  does_line w (Asks n i) = at_site w i (event.Deliver (record { from = asker_number; to = actor_of i; msg = Request (record { number = n; cmd = Add n }) }))
  does_line w (To kind from to) = delivers w (newest_of kind from to w.post)
  does_line w (Beat i) = at_site w i event.Beat
  does_line w (Timer i) = at_site w i event.Timer
  does_line w (Crash i) = at_site w i event.Crash
  does_line w (Restart i) = at_site w i event.Restart
  does_line w (Cut i) = record w { cut = actor_of i ∷ w.cut }
  does_line w (Heal i) = record w { cut = [] }
  does_line w BeatAsker = asks_on w

  abbrev pub run_with : World → List Line → World
  run_with w lines = fold does_line w lines

-- what the lines lead to, where the choices are made by loops
abbrev pub run : ℕ → World → List Line → World
run f w lines = run_with (step f) f w lines

-- what is printed of a site
pub record Shown : Type 0 where
  pub status : Status
  pub view : ℕ
  pub rows : ℕ
  pub done : ℕ
  pub boots : ℕ
  pub known : List ℕ
  pub total : ℕ

abbrev pub shown : Site Ask → Shown
shown x = record {
  status = x.status;
  view = x.view;
  rows = length x.log;
  done = x.done;
  boots = x.cell.boots;
  known = x.known;
  total = (machine_of tally fresh_tally x).total;
}

abbrev pub shows : World → List Shown
shows w = map shown w.sites
