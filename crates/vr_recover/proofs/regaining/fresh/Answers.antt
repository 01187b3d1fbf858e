use Rattle.std.proofs.Common.{[], rules, sym, ap, ◌∙◌}
use Rattle.vr_types.specs.Rows.{newest as newest_of}
use Rattle.vr_recover.proofs.regaining.fresh.Goals as goal

pub returns-clause-kept : goal.returns-clause-kept
returns-clause-kept g c = record {
  within = search rules;
  count = ap g.M.Machine.count c.in_ok-fresh.ensures ∙ g.met.M.Machine.starts_at_0 c.args.setup.now c.requires;
  held = c.in_ok-fresh.ensures;
  newest = λ q. c.in_ok-note_rows.ensures.ok [] c.new-clients.ensures.newest q ∙ ap (λ log. newest_of log q) (sym c.log.view_is);
  replies = λ q. c.in_ok-note_rows.ensures.replies q ∙ c.new-clients.ensures.reply q;
}
