use Rattle.std.proofs.Common.{◌≡◌, refl, ap, ◌∙◌}
use Rattle.pvp_command.specs.Fails.{before_colon, after_colon, number_at, keep_at}
use Rattle.pvp_command.proofs.fails.read_fail.Goals as goal

pub returns : goal.returns
returns c =
    let word = c.args.word.now in
    let rest : c.cut.result.1.now ≡ after_colon word = c.cut.ensures.after in
    let site : c.read_number.result ≡ number_at (before_colon word) = c.read_number.ensures ∙ ap number_at c.cut.ensures.before in
    let at : c.read_number-2.result ≡ number_at (before_colon (after_colon word)) =
    c.read_number-2.ensures ∙ ap number_at (c.cut-2.ensures.before ∙ ap before_colon rest) in
    let keep : c.read_keep.result ≡ keep_at (after_colon (after_colon word)) =
    c.read_keep.ensures ∙ ap keep_at (c.cut-2.ensures.after ∙ ap after_colon rest) in
    rw (c.fail_told.ensures, site, at, keep) refl
