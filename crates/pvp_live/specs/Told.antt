-- A verdict in words, and what a live run was judged by.
use Rattle.std.specs.Prelude.{ℕ, List, ◌++◌, codes, decimal}
use Rattle.pvp_types.specs.declared.setup.Setup.{Setup}
use Rattle.vr_types.specs.MemoryCell.{held_by}
use Rattle.pvp_codes.specs.Codes.{code_text}
use Rattle.pvp_codes.specs.declared.code.Code.TheVariants.{Audit}
use Rattle.pvp_play.specs.BooksText.{books_text}
use Rattle.pvp_audit.specs.declared.verdict.Verdict.{Verdict}
use Rattle.pvp_audit.specs.declared.verdict.Verdict.TheVariants.{Yes, No}
use Rattle.pvp_audit.specs.Banked.{IsTheBank}
use Rattle.pvp_audit.specs.Judged.{Left, Judges}
use Rattle.pvp_live.specs.Bank.{BeganNew}

-- the books of a Yes and a line, or the line of a No
abbrev pub verdict_text : Verdict → List ℕ
verdict_text (Yes world) = books_text held_by world ++ codes "audit yes\n"
verdict_text (No actor event why) =
    codes "audit no " ++ decimal actor ++ codes " " ++ decimal event ++ codes " " ++ code_text (Audit why) ++ codes "\n"

-- what all actors of the bank left, whose sites began with new cells, was judged so
pub record WasJudged (setup : Setup) (closed : List Left) (verdict : Verdict) : Type 0 where
  pub bank : IsTheBank setup closed
  pub began : BeganNew setup closed
  pub judged : Judges setup closed verdict
