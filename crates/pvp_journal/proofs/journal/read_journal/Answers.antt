use Rattle.std.proofs.Common.{arith}
use Rattle.std.proofs.lemmas.Grind.{common_steps}
use Rattle.pvp_journal.proofs.Places.{end-left}
use Rattle.pvp_journal.specs.Journals.{end_of}
use Rattle.pvp_journal.proofs.journal.read_journal.Goals as goal

pub returns-in-Ok-read_records : goal.returns-in-Ok-read_records
returns-in-Ok-read_records c =
    let records = c.in-Ok-read_records.records in
    record {
      end = end_of records;
      reads = record {
        start = record { sum = c.checksum-before.result; bytes = c.in-Ok.found.1.now };
        headed =
            record {
              found = rw c.journal_of.ensures.head c.in-Ok.ensures;
              sum = grind (arith, common_steps, c.checksum-before.ensures, c.saturating_sub.ensures);
            };
        records = rw (c.journal_of.ensures.head, c.journal_of.ensures.history) c.in-Ok-read_records.ensures.0;
      };
      left = end-left c.args.bytes.now (end_of records) records.torn c.journal_of.result.left c.in-Ok-read_records.ensures.1 c.journal_of.ensures.left;
      sum = c.journal_of.ensures.sum;
    }
