use Rattle.std.proofs.Common.{append_assoc, codes, string_bytes}
use Rattle.pvp_window.specs.Book.{accounts_json}
use Rattle.pvp_window.proofs.Parts.{ended}
use Rattle.pvp_window.proofs.book.push_accounts.Goals as goal

pub returns : goal.returns
unfolding accounts_json
returns c =
    ended c.push_str-2.result (string_bytes c.push_str-2.new.self) (string_bytes c.push_members.new.text)
    (string_bytes c.args.text.now) (codes "]") (accounts_json c.args.book.now) c.push_str-2.ensures.bytes
    (rw (
      c.in_ok-push_members.ensures,
      c.in_ok-push_str.ensures.bytes,
      c.in_ok-push_currencies.ensures,
      c.in_ok-write.ensures.bytes,
      c.entries.ensures.same,
    )
    (simp append_assoc))
