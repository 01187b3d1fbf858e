-- A world that goes through the merged list, one event further.
use Rattle.std.proofs.Common.{◌≡◌, ℕ, ◌≤◌, List, [], ◌∷◌, length, slice_get, slice_index, Some, refl, sym, ap, subst}
use Rattle.pvp_types.specs.declared.setup.Setup.{Setup}
use Rattle.vr_types.specs.declared.cell.Boot.{Boot}
use Rattle.vr_types.specs.declared.cell.MemCell.{MemCell}
use Rattle.vr_types.specs.MemoryCell.{held_by}
use Rattle.pvp_world.specs.World.{ShownWorld}
use Rattle.pvp_rooms.specs.declared.cell.Closed.{Closed}
use Rattle.pvp_rooms.specs.declared.message.Recorded.{Recorded}
use Rattle.pvp_rooms.specs.Runs.{history_of, number_in, AreInOrder}
use Rattle.pvp_rooms.specs.Verdicts.{ClocksRise}
use Rattle.pvp_rooms.specs.Merging.{IsNextActor}
use Rattle.pvp_rooms.proofs.Together.{IsStepped}
use Rattle.pvp_rooms.proofs.Grows.{merged_none, merged_next, merged_all}
use Rattle.pvp_parties.specs.declared.party.PartyEvent.{PartyEvent}
use Rattle.pvp_parties.specs.declared.party.PartyOutcome.{PartyOutcome}
use Rattle.pvp_audit.specs.Moves.{move_of}
use Rattle.pvp_audit.specs.Retold.{Names, GoesBy, IsTelling, WentThrough}

module _ {A N : Type 0} (setup : Setup) (cells : List Boot) (closed : List (Closed A N PartyEvent PartyOutcome)) where
  -- a new world, before any event
  abbrev pub telling_none : (at : List ℕ) (world : ShownWorld MemCell) → ((k : ℕ) → slice_index at k ≡ 0) → world.setup ≡ setup → world.opening ≡ cells
      → world.trail ≡ []
      → IsTelling setup cells closed at world
  telling_none at world none made opened trailed = record {
    first = world;
    setup_is = made;
    opening = opened;
    nothing = trailed;
    run = [];
    merged = merged_none closed at none;
    told = refl;
  }

  module _ (order : AreInOrder closed) (clocks : ClocksRise closed) (at : List ℕ) (world : ShownWorld MemCell) (p : IsTelling setup cells closed at world) where
    -- the next event of all
    abbrev pub telling_next : (k : ℕ) (next : IsNextActor closed at k) (now : List ℕ) → IsStepped at now k → (one : Closed A N PartyEvent PartyOutcome)
        → slice_get closed k ≡ Some one
        → (r : Recorded PartyEvent PartyOutcome) → next.what ≡ r → (number : ℕ) (after : ShownWorld MemCell)
        → Names world.post number r.event → GoesBy held_by world after (move_of one.number r number)
        → IsTelling setup cells closed now after
    telling_next k next now stepped one is r what number after named goes = record {
      first = p.first;
      setup_is = p.setup_is;
      opening = p.opening;
      nothing = p.nothing;
      run = record { by = k; what = next.what } ∷ p.run;
      merged = merged_next closed order clocks at p.run p.merged k next now stepped;
      told = (
        world,
        p.told,
        record {
          number = number;
          named = subst (λ (q : Recorded PartyEvent PartyOutcome). Names world.post number q.event) (sym what) named;
          goes = subst (λ (n : ℕ). GoesBy held_by world after (move_of n next.what number)) (sym (ap number_in is))
              (subst (λ (q : Recorded PartyEvent PartyOutcome). GoesBy held_by world after (move_of one.number q number)) (sym what) goes);
        },
      );
    }

    -- no event is left
    pub telling_all : ((k : ℕ) → length (history_of closed k) ≤ slice_index at k) → WentThrough setup cells closed world
    telling_all done = record {
      first = p.first;
      setup_is = p.setup_is;
      opening = p.opening;
      nothing = p.nothing;
      run = p.run;
      sorted = p.merged.sorted;
      each = merged_all closed order clocks at p.run p.merged done;
      told = p.told;
    }
