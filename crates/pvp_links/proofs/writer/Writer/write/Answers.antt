use Rattle.std.proofs.Common.{inl, length, refl, sym, ap, ◌∙◌, subst, ◌==◌}
use Rattle.std.specs.List.{swap_remove}
use Rattle.std.specs.Io.KnownBytes.{Appends}
use Rattle.pvp_wire.specs.Spelling.{spelling}
use Rattle.std.proofs.lemmas.List.{get_or-set_same}
use Rattle.std.proofs.lemmas.List.Quantifiers.{position-Some}
use Rattle.std.proofs.lemmas.Option.{slice_get_read}
use Rattle.pvp_links.specs.Writing.{place_of}
use Rattle.pvp_links.proofs.Written.{closed_after, done_well}
use Rattle.pvp_links.proofs.writer.Writer.write.Goals as goal

pub returns-then-is_err : goal.returns-then-is_err
returns-then-is_err g c =
    let frame = c.args.frame.now.stamped in
    let old = c.args.self.now.streams.items in
    let at = c.in-Some.at in
    let out = c.index_mut.result.now in
    let taken = record out { stream = c.write_frame.new.stream } in
    let place =
    ap (λ f. place_of old f.envelope.to) (sym c.stamped_envelope-stamped.ensures.is) ∙ ap (λ l. place_of l c.stamped_envelope-stamped.result.now.envelope.to)
    (sym c.as_slice.ensures.value) ∙ sym c.place_of.ensures ∙ c.in-Some.is in
    let within = (position-Some (λ o. o.to == frame.envelope.to) old at out place).0 in
    let there = slice_get_read old (length old) at out refl within c.index_mut.ensures.value in
    let is = c.swap_remove.ensures.value ∙ get_or-set_same old at taken c.swap_remove.result within in
    inl (closed_after frame old c.swap_remove.new.self.items at out taken place there (c.swap_remove.ensures.items ∙ ap (swap_remove _ at) is))

pub returns : goal.returns
returns g c =
    let frame = c.args.frame.now.stamped in
    let old = c.args.self.now.streams.items in
    let at = c.in-Some.at in
    let out = c.index_mut.result.now in
    let place =
    ap (λ f. place_of old f.envelope.to) (sym c.stamped_envelope-stamped.ensures.is) ∙ ap (λ l. place_of l c.stamped_envelope-stamped.result.now.envelope.to)
    (sym c.as_slice.ensures.value) ∙ sym c.place_of.ensures ∙ c.in-Some.is in
    let within = (position-Some (λ o. o.to == frame.envelope.to) old at out place).0 in
    record {
      at = at;
      place = place;
      out = out;
      there = slice_get_read old (length old) at out refl within c.index_mut.ensures.value;
      after = c.write_frame.new.stream;
      bytes =
          subst (λ f. Appends (g.W.Write.contents out.stream) (g.W.Write.contents c.write_frame.new.stream) (spelling f)) c.stamped_envelope-stamped.ensures.is
          (done_well c.write_frame.result (sym c.if-is_err.ensures.value) c.write_frame.ensures);
      streams = refl;
    }
