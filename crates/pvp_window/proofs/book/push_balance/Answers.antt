use Rattle.std.proofs.Common.{append_assoc, codes, string_bytes}
use Rattle.pvp_window.specs.Book.{balance_item}
use Rattle.pvp_window.proofs.Parts.{ended}
use Rattle.pvp_window.proofs.book.push_balance.Goals as goal

pub returns : goal.returns
unfolding balance_item
returns c =
    ended c.push_str-3.result (string_bytes c.push_str-3.new.self) (string_bytes c.write.new.self)
    (string_bytes c.args.text.now)
    (codes "\"}")
    (balance_item c.args.book.now c.args.m c.args.member.now c.args.c) c.push_str-3.ensures.bytes
    (rw (
      c.in_ok-write.ensures.bytes,
      c.in_ok-push_balance_of.ensures,
      c.in_ok-push_str-2.ensures.bytes,
      c.in_ok-push_code.ensures,
      c.in_ok-push_str.ensures.bytes,
      c.in_ok-push_comma.ensures,
      c.setup.ensures.same,
      c.short_of-short.ensures,
      c.from.ensures,
    )
    (simp append_assoc))
