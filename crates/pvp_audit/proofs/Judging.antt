-- What the tests, the pass and the ends say together.
use Rattle.std.proofs.Common.{ℕ, List, sym, subst}
use Rattle.pvp_types.specs.declared.setup.Setup.{Setup}
use Rattle.vr_types.specs.declared.cell.MemCell.{MemCell}
use Rattle.vr_types.specs.MemoryCell.{held_by}
use Rattle.pvp_world.specs.World.{ShownWorld, IsProved}
use Rattle.pvp_rooms.specs.Runs.{AreOpenings}
use Rattle.pvp_rooms.specs.Verdicts.{HoldOfAll, IsAlone, ClocksRise, MeansNo}
use Rattle.pvp_rooms.specs.declared.verdict.AuditTest.{AuditTest}
use Rattle.pvp_parties.specs.Parties.{PartyState, delivers, sent_envelopes, is_for}
use Rattle.pvp_audit.specs.declared.verdict.Verdict.{Verdict}
use Rattle.pvp_audit.specs.declared.verdict.Verdict.TheVariants.{Yes, No}
use Rattle.pvp_audit.specs.Judged.{Left, party, EndsAgree, IsYes, IsYesOfRun, Judges}
use Rattle.pvp_audit.specs.Passed.{HavePassed, EndsSo}

module _ (closed : List Left) where
  module _ (setup : Setup) (world : ShownWorld MemCell) (passed : HavePassed setup closed world) where
    -- all events of histories
    pub passed_run : ClocksRise closed → IsProved held_by world → IsYesOfRun setup closed world
    passed_run clocks headline = record {
      run = λ start opens. record { clocks = clocks; legal = passed.legal start opens };
      of_run = record { went = passed.went; replayed = passed.replayed; headline = headline };
    }

    module _ (alone : HoldOfAll closed (λ _ c. IsAlone c)) where
      passed_all : IsProved held_by world → EndsAgree closed world → IsYes setup closed world
      passed_all headline agree = record {
        sound = λ start opens. record {
          receipts = λ j d is. (alone j d is).receipts;
          run = record { clocks = λ j d is. (alone j d is).clocks; legal = passed.legal start opens };
          ends = λ j d is low. (passed.reads start opens j d is).1 (agree j d is);
        };
        of_run = record { went = passed.went; replayed = passed.replayed; headline = headline };
        ends = agree;
      }

      -- and the ends
      pub ended_means : (verdict : Verdict) → EndsSo closed world verdict → Judges setup closed verdict
      ended_means (Yes by) so = subst (λ (w : ShownWorld MemCell). IsYes setup closed w) (sym so.0) (passed_all so.2 so.1)
      ended_means (No actor event why) so =
          subst (λ (w : AuditTest). (start : ℕ → PartyState) → AreOpenings party closed start
          → MeansNo party delivers sent_envelopes is_for closed start actor event w) (sym so.3)
          (λ start opens. (
          let d = so.4 in (
            so.2,
            record {
              place = so.0;
              number = so.1;
              alone = alone;
              legal = passed.legal start opens;
              unlike = record {
                who = d.who;
                is = d.is;
                before = λ j c is low. (passed.reads start opens j c is).1 (d.before j c is low);
                unlike = λ reads. d.unlike ((passed.reads start opens so.0 d.who d.is).0 reads);
              };
            },
          )))
