use Rattle.std.proofs.Common.{◌≡◌, ℕ, ◌<◌, ◌≤◌, ◌-◌, length, take, slice_index}
use Rattle.pvp_rooms.specs.Together.{AreUsed, receipts_of}
use Rattle.pvp_rooms.specs.Verdicts.{AreUsedUp, first_places}
use Rattle.pvp_rooms.proofs.receipts.first_unreceipted.Given as goal

abbrev pub invariant-loop-done : goal.invariant-loop-done
invariant-loop-done g l =
    record {
      within : l.done ≤ length l.history;
      seats : length l.at.items ≡ length l.seats;
      used : AreUsed (take l.done l.history) l.seats l.at.items;
      used_up : AreUsedUp l.seats (first_places l.seats) (take l.done l.history) l.at.items;
      few : (k : ℕ) → slice_index l.at.items k ≤ length (receipts_of l.seats k);
    }

abbrev pub decreases-loop-done : goal.decreases-loop-done
decreases-loop-done g l = length l.history - l.done

abbrev pub invariant-loop-k : goal.invariant-loop-k
invariant-loop-k g l = (j : ℕ) → j < l.k → slice_index l.at.items j ≡ length (receipts_of l.seats j)
