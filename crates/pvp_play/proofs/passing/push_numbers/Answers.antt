use Rattle.std.proofs.Common.{◌≡◌, List, ℕ, [], ◌++◌, get_or, string_bytes, OnOk, append-nil, sym, subst, arith}
use Rattle.std.specs.Prelude.{codes, decimal}
use Rattle.std.specs.List.{flat_map}
use Rattle.std.proofs.lemmas.List.{take_more}
use Rattle.pvp_trace.proofs.TextLemmas.{one-more, all-written, word-more, last-word}
use Rattle.pvp_play.specs.Passing.{other_text, held_text}
use Rattle.pvp_play.proofs.passing.push_numbers.Goals as goal

pub loop-number-init : goal.loop-number-init
loop-number-init c = sym (append-nil (string_bytes c.write.new.self))

pub loop-number-preserved : goal.loop-number-preserved
loop-number-preserved c =
    let others = c.in-Some.others.now in
    let n = c.loop-number.number-index in
    one-more other_text [] others (string_bytes c.write-in-loop-number.new.self) (string_bytes c.loop-number.text)
    (string_bytes c.write.new.self) n (get_or others n 0)
    (take_more others n 0 (omega (arith, c.loop-number-test.true))) c.in_ok-write-2.ensures.bytes c.loop-number.invariant

pub returns-clause-text : goal.returns-clause-text
returns-clause-text c =
    let others = c.in-Some.others.now in
    let start = string_bytes c.args.text.now in
    let head = codes "held back by a cut: " ++ decimal c.in-Some.first.now in
    let whole = all-written other_text [] others (string_bytes c.loop-number.text) (string_bytes c.write.new.self) c.loop-number.number-index
    (omega (arith, c.loop-number-test.false)) c.loop-number.invariant in
    let words =
    word-more (string_bytes c.loop-number.text) (string_bytes c.write.new.self) start head (flat_map other_text others) whole c.in_ok-write.ensures.bytes in
    subst (λ (numbers : List ℕ). OnOk c.push_str.result (string_bytes c.push_str.new.self ≡ start ++ held_text numbers)) (sym c.in-Some.ensures.cases.0)
    (last-word c.push_str.result (string_bytes c.push_str.new.self) (string_bytes c.loop-number.text) start (head ++ flat_map other_text others)
    (codes "\n") c.push_str.ensures.bytes words)
