use Rattle.std.proofs.Common.{◌≡◌, ℕ, List, ◌++◌, length, None, rules, subst, refl, ap, ◌∙◌}
use Rattle.std.proofs.lemmas.List.{take_at}
use Rattle.pvp_wire.specs.Feeding.{Fed, IsFed, IsCutShort}
use Rattle.pvp_wire.proofs.Streams.{refused}
use Rattle.pvp_wire.proofs.feeder.Feeder.feed.Goals as goal

pub returns-in-Err : goal.returns-in-Err
returns-in-Err c =
    let fed : Fed = c.args.self.now in
    let is_fed : IsFed fed = search rules in
    let none : fed.fault ≡ None = search rules in
    let bytes : c.as_slice.result.now ≡ fed.held ++ c.args.piece.now = search rules in
    let cut : IsCutShort (fed.held ++ c.args.piece.now) c.take_frames.new.frames =
    subst (λ b. IsCutShort b c.take_frames.new.frames) bytes c.in-Err.ensures.refused in
    let held = c.self.inside.held.items in
    let grown : c.extend_from_slice.new.self.items ≡ held ++ c.args.piece.now = search rules in
    let before : c.len-before.result ≡ length held = search rules in
    let back : c.truncate.new.self.items ≡ held = c.truncate.ensures.items ∙ rw (before, grown) (take_at held c.args.piece.now (length held) refl) in
    let same : record { held = c.truncate.new.self.items; fault = c.self.inside.fault } ≡ fed =
    ap (λ (h : List ℕ). record { held = h; fault = c.self.inside.fault }) back ∙ c.self.view_is in
    refused fed _ c.args.piece.now c.take_frames.new.frames c.into.result is_fed none cut c.into.ensures same
