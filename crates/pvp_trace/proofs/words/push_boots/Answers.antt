use Rattle.std.proofs.Common.{◌++◌, get_or, string_bytes, ap, ◌∙◌, arith}
use Rattle.std.specs.Prelude.{codes}
use Rattle.std.specs.List.{flat_map}
use Rattle.std.proofs.lemmas.List.{take_more}
use Rattle.pvp_trace.specs.Words.{boot_text}
use Rattle.pvp_trace.proofs.TextLemmas.{one-more, all-written}
use Rattle.pvp_trace.proofs.words.push_boots.Goals as goal

pub loop-boot-preserved : goal.loop-boot-preserved
loop-boot-preserved c =
    let boots = c.as_slice-boot-items.result.now in
    let n = c.loop-boot.boot-index in
    one-more boot_text (codes " boots") boots (string_bytes c.write.new.self) (string_bytes c.loop-boot.text)
    (string_bytes c.args.text.now) n (get_or boots n 0)
    (take_more boots n 0 (omega (arith, c.loop-boot-test.true))) c.in_ok-write.ensures.bytes c.loop-boot.invariant

pub returns : goal.returns
returns c =
    all-written boot_text (codes " boots") c.as_slice-boot-items.result.now (string_bytes c.loop-boot.text)
    (string_bytes c.args.text.now) c.loop-boot.boot-index (omega (arith, c.loop-boot-test.false)) c.loop-boot.invariant
    ∙ ap (λ l. string_bytes c.args.text.now ++ (codes " boots" ++ flat_map boot_text l)) c.as_slice-boot-items.ensures
