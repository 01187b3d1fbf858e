use Rattle.std.proofs.Common.{ℕ, ◌<◌, List, take, length, subst, sym, ap, ◌∙◌, arith}
use Rattle.std.proofs.lemmas.List.{length-take}
use Rattle.pvp_links.specs.declared.hearing.LinkEnd.{LinkEnd}
use Rattle.pvp_links.specs.Hearing.{IsHeardOut, IsHearing}
use Rattle.pvp_links.proofs.HeardOut.{hearing_none, hearing_more, hearing_on, stopped, unread, ended, no_room}
use Rattle.pvp_links.proofs.hearing.hear_all.Goals as goal

pub loop-init : goal.loop-init
loop-init g c = hearing_none g.H.Hearer.got c.args.link.now c.args.held (g.R.Read.remaining c.args.reader.now) c.args.hearer.now

pub returns-in-Some-hear_whole : goal.returns-in-Some-hear_whole
returns-in-Some-hear_whole g c =
    let heard =
    hearing_more g.H.Hearer.got c.args.link.now c.loop.at c.hear_whole.new.link c.args.held c.loop.intake c.hear_whole.new.intake
    (g.R.Read.remaining c.args.reader.now) (g.R.Read.remaining c.loop.reader)
    c.args.hearer.now c.loop.hearer c.hear_whole.new.hearer c.loop.invariant c.in-Some-hear_whole.ensures.0 in
    stopped g.H.Hearer.got c.args.link.now c.hear_whole.new.link c.args.held c.hear_whole.new.intake (g.R.Read.remaining c.args.reader.now)
    (g.R.Read.remaining c.loop.reader) c.args.hearer.now c.hear_whole.new.hearer c.in-Some-hear_whole.end heard c.in-Some-hear_whole.ensures.1

pub returns-in_default-read : goal.returns-in_default-read
returns-in_default-read g c =
    let heard =
    hearing_more g.H.Hearer.got c.args.link.now c.loop.at c.hear_whole.new.link c.args.held c.loop.intake c.hear_whole.new.intake
    (g.R.Read.remaining c.args.reader.now) (g.R.Read.remaining c.loop.reader)
    c.args.hearer.now c.loop.hearer c.hear_whole.new.hearer c.loop.invariant c.in_default.ensures.0 in
    unread g.H.Hearer.got c.args.link.now c.hear_whole.new.link c.args.held c.hear_whole.new.intake
    (g.R.Read.remaining c.args.reader.now) (g.R.Read.remaining c.loop.reader)
    (g.R.Read.remaining c.read.new.self) c.args.hearer.now c.hear_whole.new.hearer heard c.in_default.ensures.1 c.in_default-read.ensures.bytes

pub returns-then-got-eq0 : goal.returns-then-got-eq0
returns-then-got-eq0 g c =
    let heard =
    hearing_more g.H.Hearer.got c.args.link.now c.loop.at c.hear_whole.new.link c.args.held c.loop.intake c.hear_whole.new.intake
    (g.R.Read.remaining c.args.reader.now) (g.R.Read.remaining c.loop.reader)
    c.args.hearer.now c.loop.hearer c.hear_whole.new.hearer c.loop.invariant c.in_default.ensures.0 in
    subst (λ (e : LinkEnd). IsHeardOut g.H.Hearer.got c.args.link.now c.args.held (g.R.Read.remaining c.args.reader.now)
    (g.R.Read.remaining c.read.new.self) c.args.hearer.now c.hear_whole.new.hearer e) (sym c.end_with.ensures)
    (ended g.H.Hearer.got c.args.link.now c.hear_whole.new.link c.args.held c.hear_whole.new.intake
    _ (g.R.Read.remaining c.args.reader.now) (g.R.Read.remaining c.loop.reader)
    (g.R.Read.remaining c.read.new.self) c.args.hearer.now c.hear_whole.new.hearer heard c.in_default.ensures.1 c.in-Ok.ensures.bytes.0
    (ap (λ (n : ℕ). take n c.read.new.buf) c.if-got-eq0.true) (c.in-Ok.ensures.bytes.1 c.if-got-eq0.true (omega arith)))

pub returns-in_default-push : goal.returns-in_default-push
returns-in_default-push g c =
    let heard =
    hearing_more g.H.Hearer.got c.args.link.now c.loop.at c.hear_whole.new.link c.args.held c.loop.intake c.hear_whole.new.intake
    (g.R.Read.remaining c.args.reader.now) (g.R.Read.remaining c.loop.reader)
    c.args.hearer.now c.loop.hearer c.hear_whole.new.hearer c.loop.invariant c.in_default.ensures.0 in
    no_room g.H.Hearer.got c.args.link.now c.hear_whole.new.link c.args.held c.hear_whole.new.intake
    _ (g.R.Read.remaining c.args.reader.now) (g.R.Read.remaining c.loop.reader)
    (g.R.Read.remaining c.read.new.self) c.args.hearer.now c.hear_whole.new.hearer heard c.in-Ok.ensures.bytes.0
    (let long = c.in-Ok.ensures.bound in omega (arith, length-take c.in-Ok.got c.read.new.buf, c.if-got-eq0.false, long))

pub loop-preserved : goal.loop-preserved
loop-preserved g c =
    let heard =
    hearing_more g.H.Hearer.got c.args.link.now c.loop.at c.hear_whole.new.link c.args.held c.loop.intake c.hear_whole.new.intake
    (g.R.Read.remaining c.args.reader.now) (g.R.Read.remaining c.loop.reader)
    c.args.hearer.now c.loop.hearer c.hear_whole.new.hearer c.loop.invariant c.in_default.ensures.0 in
    subst (λ (l : List ℕ). IsHearing g.H.Hearer.got c.args.link.now c.hear_whole.new.link c.args.held (g.R.Read.remaining c.args.reader.now)
    (g.R.Read.remaining c.read.new.self) c.args.hearer.now c.hear_whole.new.hearer l) (sym c.in-Ok-push.ensures.taken)
    (hearing_on g.H.Hearer.got c.args.link.now c.hear_whole.new.link c.args.held c.hear_whole.new.intake
    _ (g.R.Read.remaining c.args.reader.now) (g.R.Read.remaining c.loop.reader)
    (g.R.Read.remaining c.read.new.self) c.args.hearer.now c.hear_whole.new.hearer heard c.in-Ok.ensures.bytes.0)
