use Rattle.std.proofs.Common.{◌++◌, length, string_bytes, sym, ap, ◌∙◌, arith}
use Rattle.pvp_types.specs.declared.setup.Setup.{Setup}
use Rattle.pvp_play.specs.BooksText.{client_text}
use Rattle.pvp_play.proofs.BooksLemmas.{printed-more, printed-none, printed-all, has_all}
use Rattle.pvp_play.proofs.books.push_clients.Goals.{in-Some+in_ok-push_client, in_default}
use Rattle.pvp_play.proofs.books.push_clients.Goals as goal

pub loop-k-preserved : goal.loop-k-preserved
loop-k-preserved g c =
    let world = c.args.world.now in
    let line = client_text world.setup in
    let k = c.loop-k.k in
    elim c.match-client.branch [
      | in-Some+in_ok-push_client w ↦ printed-more line world.clients _ _ (string_bytes c.args.text.now) k w.in-Some.client.now (sym w.in-Some.ensures)
          (ap string_bytes w.text-is ∙ w.in_ok-push_client.ensures
          ∙ ap (λ (s : Setup). string_bytes c.loop-k.text ++ client_text s (k, w.in-Some.client.now)) w.setup-in-Some.ensures.same) c.loop-k.invariant
      | in_default w ↦ printed-none line world.clients _ (string_bytes c.args.text.now) k (sym w.in_default.ensures)
          (ap string_bytes w.text-is ∙ c.loop-k.invariant)
    ]

pub returns : goal.returns
returns g c =
    let world = c.args.world.now in
    let all = (has_all g.C.BootCell.held world c.is_proved.ensures.is_at).clients in
    let same = ap (λ (s : Setup). length s.members) c.setup.ensures.same in
    let end = c.loop-k-test.false in
    printed-all (client_text world.setup) world.clients _ (string_bytes c.args.text.now) c.loop-k.k
    (omega (arith, c.member_count-clients.ensures.count)) c.loop-k.invariant
