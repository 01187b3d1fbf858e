-- THE VOTES PART, its words: what holds of boots, views, votes and recoveries, whatever logs say. A crash forgets all but the boot number, so what binds a site
-- stands in what others know.
use Rattle.std.proofs.Common.{◌≡◌, ◌⊎◌, inl, inr, ℕ, ◌+◌, ◌*◌, ◌<◌, ◌≤◌, Bool, true, false, List, length, Option, count_by, refl, sym, ap, ◌∙◌, arith}
use Rattle.std.specs.Prelude.{Contains}
use Rattle.vr_types.specs.declared.cell.Boot.{Boot}
use Rattle.vr_types.specs.declared.event.Status.{Status}
use Rattle.vr_types.specs.declared.event.Status.TheVariants.{Change, Recovering}
use Rattle.vr_types.specs.declared.message.DoViewChangeOf.{DoViewChangeOf}
use Rattle.vr_types.specs.declared.message.MsgOf.TheVariants.{StartViewChange, DoViewChange, Recovery, RecoveryResponse}
use Rattle.vr_types.specs.declared.message.RecoveryResponseOf.{RecoveryResponseOf}
use Rattle.vr_types.specs.declared.message.StateOf.{StateOf}
use Rattle.vr_types.specs.declared.row.RowOf.{RowOf}
use Rattle.vr_types.specs.Group.{sites, mail}
use Rattle.vr_types.specs.Site.{Start, Vote, Response, Site, boot_of, is_down}
use Rattle.agreement.proofs.Histories.{History, Regain}
use Rattle.vr_types.proofs.Vectors.{Within}

-- WHAT WAS SAID

-- the RECOVERYRESPONSE to a nonce that gives a response
abbrev pub answer_by : {C : Type 0} → ℕ → Response C → RecoveryResponseOf C
answer_by nonce response = record { view = response.view; nonce = nonce; state = response.state; known = response.known }

-- site j spoke for view w, knowing this
pub data Voted {C R O : Type 0} (g : History C R O) (j w : ℕ) (known : List ℕ) : Type 0 where
  started : (to : ℕ) → Contains g.said (mail j to (StartViewChange (record { view = w; known = known }))) → Voted g j w known
  voted : (to u k : ℕ) (log : List (RowOf C))
      → Contains g.said (mail j to (DoViewChange (record { view = w; last_normal = u; done = k; rows = log; known = known }))) → Voted g j w known

-- site j answered a restart of another site, in view w, knowing this
pub record Answered {C R O : Type 0} (g : History C R O) (j to w nonce : ℕ) (known : List ℕ) : Type 0 where
  pub state : Option (StateOf C)
  pub said : Contains g.said (mail j to (RecoveryResponse (record { view = w; nonce = nonce; state = state; known = known })))

-- it is no boot number of site k, or one with which it has asked
pub data WasBoot {C R O : Type 0} (g : History C R O) (k boot : ℕ) : Type 0 where
  never : boot ≡ 0 → WasBoot g k boot
  asked : (to : ℕ) → Contains g.said (mail k to (Recovery (record { nonce = boot }))) → WasBoot g k boot

-- in the boot in which it knows this, site j has never restarted, or has completed a recovery before, in no view above w, knowing no more
pub data HasLived {C R O : Type 0} (g : History C R O) (j w : ℕ) (known : List ℕ) (before : ℕ) : Type 0 where
  first : boot_of known j ≡ 0 → HasLived g j w known before
  again : (c : Regain) → Contains g.regains c → c.site ≡ j → c.boot ≡ boot_of known j → c.view ≤ w → Within c.known known → c.time < before
      → HasLived g j w known before

-- what is told with boot numbers is of a boot that was, and of boots that were
pub record IsTold {C R O : Type 0} (g : History C R O) (j w : ℕ) (known : List ℕ) : Type 0 where
  pub boots : (k : ℕ) → WasBoot g k (boot_of known k)
  pub lived : HasLived g j w known (length g.regains)

-- votes for one view of f+1 sites, of which none knows a later boot of another than that one's vote is of
pub record IsFresh {C R O : Type 0} (f : ℕ) (g : History C R O) (w : ℕ) : Type 0 where
  pub who : ℕ → Bool
  pub many : f < count_by who (sites f)
  pub known : ℕ → List ℕ
  pub voted : (k : ℕ) → who k ≡ true → Voted g k w (known k)
  pub fresh : (k l : ℕ) → who k ≡ true → who l ≡ true → boot_of (known k) l ≤ boot_of (known l) l

-- site j, in this boot, is among such votes
pub record IsBacked {C R O : Type 0} (f : ℕ) (g : History C R O) (j w boot : ℕ) : Type 0 where
  pub votes : IsFresh f g w
  pub among : votes.who j ≡ true
  pub own : boot_of (votes.known j) j ≡ boot

-- one of the answers by which a recovery was completed
pub record IsAnswer {C R O : Type 0} (g : History C R O) (c : Regain) (k : ℕ) : Type 0 where
  pub view : ℕ
  pub low : view ≤ c.view
  pub said : Answered g k c.site view c.boot (c.heard k)
  pub lived : HasLived g k view (c.heard k) c.time
  pub within : Within (c.heard k) c.known

-- a recovery was completed by the answers of f+1 sites, of which none knows a later boot of another than that one's answer is of
pub record IsRegain {C R O : Type 0} (f : ℕ) (g : History C R O) (c : Regain) : Type 0 where
  pub many : f < count_by c.who (sites f)
  pub answered : (k : ℕ) → c.who k ≡ true → IsAnswer g c k
  pub fresh : (k l : ℕ) → c.who k ≡ true → c.who l ≡ true → boot_of (c.heard k) l ≤ boot_of (c.heard l) l

-- In one boot: what site j has answered it knows in what it tells later; so of an answer and a vote, the vote knows whom was answered, or is of no later view;
-- and of two answers the one knows whom the other answered.
pub record IsOrdered {C R O : Type 0} (g : History C R O) (j : ℕ) : Type 0 where
  pub votes : (to x v w : ℕ) (a b : List ℕ) → Answered g j to v x a → Voted g j w b → boot_of b j ≡ boot_of a j → (x ≤ boot_of b to) ⊎ (w ≤ v)
  pub answers : (to to' x y v v' : ℕ) (a b : List ℕ) → Answered g j to v x a → Answered g j to' v' y b → boot_of a j ≡ boot_of b j
      → (x ≤ boot_of b to) ⊎ (y ≤ boot_of a to')

-- THE SITES

-- what any site knows and has said
pub record IsHeard {C R O : Type 0} (f : ℕ) (g : History C R O) (j : ℕ) (status : Status) (boots : ℕ) (known : List ℕ) : Type 0 where
  pub own : is_down status ≡ false → boot_of known j ≡ boots
  pub long : is_down status ≡ false → 2 * f + 1 ≤ length known
  pub heard : (k : ℕ) → WasBoot g k (boot_of known k)
  pub no_vote : status ≡ Recovering → (w : ℕ) (a : List ℕ) → Voted g j w a → boot_of a j < boots
  pub no_answer : status ≡ Recovering → (to w x : ℕ) (a : List ℕ) → Answered g j to w x a → boot_of a j < boots
  pub ordered : IsOrdered g j

abbrev pub Hears : {C R O : Type 0} → ℕ → History C R O → ℕ → Site C → Type 0
Hears f g j x = IsHeard f g j x.status x.cell.boots x.known

-- a STARTVIEWCHANGE that is kept is of its sender's boot that is known
pub record IsKeptStart {C R O : Type 0} (g : History C R O) (view : ℕ) (known : List ℕ) (a : Start) : Type 0 where
  pub to : ℕ
  pub said : Contains g.said (mail a.from to (StartViewChange (record { view = view; known = a.known })))
  pub within : Within a.known known
  pub current : boot_of known a.from ≤ boot_of a.known a.from

-- A running site: what it said in this boot is of no later view, and what it answered it knows; no vote of it in any boot is of a later view; and its own vote
-- stands among f others.
pub record Takes {C R O : Type 0} (f : ℕ) (g : History C R O) (j : ℕ) (status : Status) (view boots : ℕ) (known : List ℕ) (kept : List Start) (made : Bool)
    : Type 0 where
  pub lived : HasLived g j view known (length g.regains)
  pub votes : (w : ℕ) (a : List ℕ) → Voted g j w a → boot_of a j ≡ boots → w ≤ view
  pub promised : (to : ℕ) (msg : DoViewChangeOf C) → Contains g.said (mail j to (DoViewChange msg)) → msg.view ≤ view
  pub answers : (to w x : ℕ) (a : List ℕ) → Answered g j to w x a → boot_of a j ≡ boots → x ≤ boot_of known to
  pub starts : status ≡ Change → (a : Start) → Contains kept a → IsKeptStart g view known a
  pub backed : status ≡ Change → made ≡ true → IsBacked f g j view boots

abbrev pub IsAtView : {C R O : Type 0} → ℕ → History C R O → ℕ → Site C → Type 0
IsAtView f g j x = Takes f g j x.status x.view x.cell.boots x.known x.collected.starts x.collected.voted

-- a response that is kept is of its sender's boot that is known
pub record IsKeptResponse {C : Type 0} (known : List ℕ) (a : Response C) : Type 0 where
  pub within : Within a.known known
  pub current : boot_of known a.from ≤ boot_of a.known a.from

-- so is a DOVIEWCHANGE
pub record IsKeptVote {C : Type 0} (known : List ℕ) (a : Vote C) : Type 0 where
  pub within : Within a.known known
  pub current : boot_of known a.from ≤ boot_of a.known a.from

-- the site may be normal in this view from now on: it has voted for none above it
abbrev pub MayWork : {C R O : Type 0} → History C R O → ℕ → ℕ → Type 0
MayWork {C} g j view = (to : ℕ) (msg : DoViewChangeOf C) → Contains g.said (mail j to (DoViewChange msg)) → msg.view ≤ view

-- RESTARTS

-- the site has restarted with this nonce by now
abbrev pub HasAsked : {C : Type 0} → Site C → ℕ → Type 0
HasAsked x nonce = nonce ≤ x.cell.boots

-- the site recovers, by this nonce
pub record RecoversBy {C : Type 0} (x : Site C) (nonce : ℕ) : Type 0 where
  pub status : x.status ≡ Recovering
  pub boots : x.cell.boots ≡ nonce

-- the nonce by which the site has asked last
abbrev pub nonce_of : {C : Type 0} → Site C → ℕ
nonce_of x = x.cell.boots

-- y's cell is not behind x's
pub record IsAhead {C : Type 0} (x y : Site C) : Type 0 where
  pub boots : x.cell.boots ≤ y.cell.boots

-- how site x may change into y: its cell never goes back, and it recovers after a restart alone
pub record IsChange {C : Type 0} (x y : Site C) : Type 0 where
  pub ahead : IsAhead x y
  pub recovering : y.status ≡ Recovering → (x.cell.boots < y.cell.boots) ⊎ ((x.status ≡ Recovering) × (x.cell.boots ≡ y.cell.boots))

-- a site that recovers by a nonce did so before the change too, where it had asked with that nonce by then; so a response by that nonce was made after the
-- restart
pub recovers_by : {C : Type 0} (x y : Site C) (nonce : ℕ) → IsChange x y → HasAsked x nonce → RecoversBy y nonce → RecoversBy x nonce
recovers_by x y nonce c old by = by_case (c.recovering by.status)
  where
    by_case : (x.cell.boots < y.cell.boots) ⊎ ((x.status ≡ Recovering) × (x.cell.boots ≡ y.cell.boots)) → RecoversBy x nonce
    by_case (inl h) = absurd (let is = by.boots in omega arith)
    by_case (inr h) = record { status = h.0; boots = h.1 ∙ by.boots }

pub asks_now : {C : Type 0} (x : Site C) → HasAsked x (nonce_of x)
asks_now x = omega arith

pub recovers_now : {C : Type 0} (x : Site C) → x.status ≡ Recovering → RecoversBy x (nonce_of x)
recovers_now x recovering = record { status = recovering; boots = refl }

pub asked_stays : {C : Type 0} (x y : Site C) (nonce : ℕ) → IsAhead x y → HasAsked x nonce → HasAsked y nonce
asked_stays x y nonce ahead h = let more = ahead.boots in omega arith

pub same_cell : {C : Type 0} (x y : Site C) → y.cell ≡ x.cell → IsAhead x y
same_cell x y same = record { boots = (let e = ap (λ (b : Boot). b.boots) same in omega arith) }

-- a site that goes on, or is down, over a cell that is not behind
pub goes_on : {C : Type 0} (x y : Site C) → IsAhead x y → (y.status ≡ Recovering → ⊥) → IsChange x y
goes_on x y ahead other = record { ahead = ahead; recovering = λ e. absurd (other e) }

-- a site that recovers goes on to
pub still_recovers : {C : Type 0} (x y : Site C) → y.cell ≡ x.cell → (y.status ≡ Recovering → x.status ≡ Recovering) → IsChange x y
still_recovers x y same was = record {
  ahead = same_cell x y same;
  recovering = λ e. inr (was e, sym (ap (λ (b : Boot). b.boots) same));
}
