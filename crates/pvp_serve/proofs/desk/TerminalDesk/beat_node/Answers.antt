use Rattle.std.proofs.Common.{ap, ◌∙◌}
use Rattle.std.proofs.lemmas.Result.{err_from_is_err_and}
use Rattle.rtgs_node.specs.declared.event.NodeEvent.TheVariants.{Beats}
use Rattle.pvp_parties.specs.declared.party.PartyEvent.TheVariants.{OfNode}
use Rattle.pvp_serve.specs.Desks.{last_may_say_more}
use Rattle.pvp_serve.proofs.Terminals.{unkept}
use Rattle.pvp_serve.proofs.desk.TerminalDesk.beat_node.Goals as goal

pub returns-clause-beats : goal.returns-clause-beats
returns-clause-beats g c = record {
  between = c.take_event.new.self.room;
  letters = c.in_ok-letters.letters.items;
  takes = c.in_ok-take_event.ensures.takes;
  written = c.in_ok-letters.ensures.written;
  waits = c.has_sent-self.ensures ∙ ap last_may_say_more c.as_slice.ensures.value;
}

pub returns-in_err-letters-clause-refused : goal.returns-in_err-letters-clause-refused
returns-in_err-letters-clause-refused g c =
    let p = err_from_is_err_and c.from_residual-in_err-letters.result c.from_residual-in_err-letters.ensures.1 in
    unkept _ _ _ (OfNode Beats) _ c.take_event.new.self.room _ c.in_err-letters.field-0.0 p.0 _ p.1 p.2
    c.in_ok-take_event.ensures.takes c.in_err-letters.ensures.refused c.in_err-letters.ensures.gone
