use Rattle.std.proofs.Common.{refl, ◌≡◌, ◌∙◌, ap, ◌+◌, ℕ, ◌==◌, if◌then◌else◌, Some}
use Rattle.vr_log.specs.Clients.{reply_in}
use Rattle.vr_log.proofs.KeptLemmas.{IsKept-next}
use Rattle.vr_log.proofs.kept.Kept.execute_next.Goals as goal

pub returns-clause-kept : goal.returns-clause-kept
returns-clause-kept g c = λ start was.
    let m = g.M.Machine in
    let k = c.args.self.now in
    let row = c.args.row in
    let after = c.in_ok-reply.ensures.after in
    let count : m.count c.apply.new.self ≡ k.done + 1 = ap m.count after ∙ g.met.M.Machine.counts k.machine row.client row.cmd ∙ ap (λ n. n + 1) was.count in
    let told : (q : ℕ)
    → reply_in c.answered.new.self q ≡ (if row.client == q then Some (row.number, m.answer k.machine row.client row.cmd) else reply_in k.clients q) =
    λ q. c.in_ok-answered.ensures.ok q ∙ ap (λ reply. if row.client == q then Some (row.number, reply) else reply_in k.clients q)
    c.in_ok-reply.ensures.answer in
    IsKept-next m start k _ row c.requires.row refl refl after count c.answered.ensures.newest told was
