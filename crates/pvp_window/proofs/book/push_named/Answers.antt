use Rattle.std.proofs.Common.{append_assoc, codes, string_bytes}
use Rattle.pvp_window.specs.Book.{named_member}
use Rattle.pvp_window.proofs.Parts.{ended}
use Rattle.pvp_window.proofs.book.push_named.Goals as goal

pub returns : goal.returns
unfolding named_member
returns c =
    ended c.push_str-4.result (string_bytes c.push_str-4.new.self) (string_bytes c.push_balances.new.text)
    (string_bytes c.args.text.now) (codes "]}") (named_member c.args.book.now c.args.m c.args.member.now) c.push_str-4.ensures.bytes
    (rw (
      c.in_ok-push_balances.ensures,
      c.in_ok-push_str-3.ensures.bytes,
      c.in_ok-write.ensures.bytes,
      c.in_ok-push_value_of.ensures,
      c.in_ok-push_str-2.ensures.bytes,
      c.in_ok-push_quoted.ensures,
      c.in_ok-push_str.ensures.bytes,
      c.as_str.ensures,
    )
    (simp append_assoc))
