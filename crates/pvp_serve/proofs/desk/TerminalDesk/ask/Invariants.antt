use Rattle.std.proofs.Common.{◌≡◌, ◌+◌, ◌≤◌, List, length}
use Rattle.pvp_parties.specs.contracts.party.PartyOfActor.TheImpl.{ghosts}
use Rattle.pvp_journal.specs.Rooms.{bank_texts}
use Rattle.pvp_serve.specs.declared.desk.Asked.{Asked}
use Rattle.pvp_serve.specs.Serving.{IsSafeIn}
use Rattle.pvp_serve.specs.Terminals.{AreDone}
use Rattle.pvp_serve.proofs.desk.TerminalDesk.ask.Given as goal

-- the lines so far are done, and no more are left than turns
abbrev pub invariant-loop : goal.invariant-loop
invariant-loop g l = record {
  rest : l.serving ≡ record l.fn.serving { room = l.serving.room; out = l.serving.out };
  fits : length l.self.lines.items + l.counter ≤ l.end;
  done : (lines : List Asked) × AreDone (ghosts g.row.C g.C.BootCell g.C.BootCell-dict g.C.Destruct-dict) bank_texts g.L.Log.seen
      (IsSafeIn g.L.Log.seen g.L.Log.synced l.fn.serving.syncs) l.fn.serving.me lines (record { desk = l.fn.self; room = l.fn.serving.room })
      (record { desk = l.self; room = l.serving.room });
}
