-- The greatest cut of histories that is closed under stamps.
use Rattle.std.specs.Prelude.{◌≡◌, ◌≤◌, ◌==◌, ◌||◌, ℕ, suc, max, nat_le, Bool, true, not, All, List, [], ◌∷◌, length, take, Option, Some, None, if◌then◌else◌}
use Rattle.std.specs.List.{list_all, sum_by}
use Rattle.pvp_wire.specs.declared.stamped.Stamp.{Stamp}
use Rattle.pvp_journal.specs.Spelling.{Entry}
use Rattle.pvp_audit.specs.declared.history.History.{History}
use Rattle.pvp_audit.specs.declared.cut.Reach.{Reach}

-- how far a history goes: its greatest clock
abbrev pub reach_of : List Entry → ℕ
reach_of [] = 0
reach_of (r ∷ more) = max r.clock (reach_of more)

-- Where this is the history of whoever sent what has this stamp, it goes as far as the clock at which that was sent.
abbrev pub Reaches : Option Stamp → History → Type 0
Reaches None history = Unit {0}
Reaches (Some stamp) history = history.actor ≡ stamp.actor → stamp.clock ≤ reach_of history.entries.items

-- An event is covered by histories: what it delivered was sent at a clock that its sender's history comes to. Of an
-- actor who has no history here nothing can be missed.
abbrev pub Covers : List History → Entry → Type 0
Covers histories r = All (Reaches r.stamp) histories

-- each event is
abbrev pub AreClosed : List History → Type 0
AreClosed histories = All (λ history. All (Covers histories) history.entries.items) histories

-- the same actor, and the first so many of its events
pub record IsFront (front whole : History) : Type 0 where
  pub count : ℕ
  pub actor : front.actor ≡ whole.actor
  pub opening : front.opening ≡ whole.opening
  pub entries : front.entries.items ≡ take count whole.entries.items

-- so of each
abbrev pub AreFronts : List History → List History → Type 0
AreFronts [] [] = Unit {0}
AreFronts (front ∷ fronts) (whole ∷ wholes) = IsFront front whole × AreFronts fronts wholes
AreFronts _ _ = ⊥

-- THE GREATEST CUT: of each history a front, all events covered, and every other such cut is one of it
pub record IsGreatestCut (cut histories : List History) : Type 0 where
  pub fronts : AreFronts cut histories
  pub closed : AreClosed cut
  pub greatest : (other : List History) → AreFronts other histories → AreClosed other → AreFronts other cut

-- ---- how it is found

-- who a history is of, and how far it goes
abbrev pub reach_in : History → Reach
reach_in history = record { actor = history.actor; clock = reach_of history.entries.items }

-- so of those of whom this is known
abbrev pub is_reached : List Reach → Option Stamp → Bool
is_reached reaches None = true
is_reached reaches (Some stamp) =
    list_all (λ reach. not (reach.actor == stamp.actor) || nat_le stamp.clock reach.clock) reaches

-- an event is covered by histories that go so far
abbrev pub is_covered : List Reach → Entry → Bool
is_covered reaches r = is_reached reaches r.stamp

-- how many events come before the first that is not
abbrev pub covered_front : List Reach → List Entry → ℕ
covered_front reaches [] = 0
covered_front reaches (r ∷ more) = if is_covered reaches r then suc (covered_front reaches more) else 0

-- one was cut there
pub record IsShortened (reaches : List Reach) (old new : History) : Type 0 where
  pub actor : new.actor ≡ old.actor
  pub opening : new.opening ≡ old.opening
  pub entries : new.entries.items ≡ take (covered_front reaches old.entries.items) old.entries.items

-- so was each
abbrev pub AreShortened : List Reach → List History → List History → Type 0
AreShortened reaches [] [] = Unit {0}
AreShortened reaches (old ∷ olds) (new ∷ news) = IsShortened reaches old new × AreShortened reaches olds news
AreShortened reaches _ _ = ⊥

-- how many events there are
abbrev pub event_count : List History → ℕ
event_count histories = sum_by (λ history. length history.entries.items) histories
