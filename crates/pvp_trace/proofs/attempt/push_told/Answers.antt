use Rattle.std.proofs.Common.{◌++◌, string_bytes}
use Rattle.std.specs.Prelude.{codes, decimal}
use Rattle.pvp_trace.specs.Attempts.{step_text, kind_text, came_text, fell_text}
use Rattle.pvp_trace.proofs.TextLemmas.{word-more, last-word}
use Rattle.pvp_trace.proofs.attempt.push_told.Goals as goal

pub returns : goal.returns
returns g c =
    let start = string_bytes c.args.text.now in
    let a = c.args.attempt in
    let numbered = decimal c.args.number ++ codes "  " in
    let asked = numbered ++ step_text c.args.world.now.setup c.args.world.now.post a.step in
    let named = asked ++ kind_text c.args.world.now.post a.step in
    let came = named ++ came_text a.result in
    let step =
    word-more (string_bytes c.push_step.new.text) (string_bytes c.write.new.self) start numbered
    (step_text c.args.world.now.setup c.args.world.now.post a.step)
    c.in_ok-push_step.ensures c.in_ok-write.ensures.bytes in
    let kind =
    word-more (string_bytes c.push_kind.new.text) (string_bytes c.push_step.new.text) start asked
    (kind_text c.args.world.now.post a.step) c.in_ok-push_kind.ensures step in
    let end =
    word-more (string_bytes c.push_came.new.text) (string_bytes c.push_kind.new.text) start named (came_text a.result) c.in_ok-push_came.ensures kind in
    let fall = word-more (string_bytes c.push_fell.new.text) (string_bytes c.push_came.new.text) start came (fell_text a) c.in_ok-push_fell.ensures end in
    last-word c.push_str.result (string_bytes c.push_str.new.self) (string_bytes c.push_fell.new.text) start (came ++ fell_text a)
    (codes "\n") c.push_str.ensures.bytes fall
