use Rattle.std.proofs.Common.{rules, ◌≡◌, [], length, map, not, sym, ap, ◌∙◌, subst}
use Rattle.std.specs.List.{filter}
use Rattle.std.proofs.lemmas.Fn.{filter_same}
use Rattle.vr_types.specs.Choice.{OneEach}
use Rattle.vr_types.specs.Site.{Start, Vote}
use Rattle.vr_types.specs.Step.{is_outdated}
use Rattle.vr_log.specs.declared.running.StartOf.{StartOf}
use Rattle.vr_log.specs.declared.running.VoteOf.{VoteOf}
use Rattle.vr_log.specs.Running.{start_of, vote_of}
use Rattle.vr_change.specs.Ballot.{starts_left, votes_left}
use Rattle.vr_change.proofs.Left.{filter-map, greater_length, one_each-left}
use Rattle.vr_change.proofs.learning.learn.Given.{Over}
use Rattle.vr_change.proofs.learning.learn.Goals as goal

starts : (g : Over) (c : goal.After-retain-2 g)
    → map start_of c.retain.new.self.items ≡ starts_left c.args.running.now.known c.args.told.now (map start_of c.args.running.now.starts.items)
starts g c =
    let kept =
    filter_same _ (λ (start : StartOf). not (is_outdated c.learn.new.self start.from start.known)) _
    (λ x b f' k. search rules) _ _ c.retain.ensures.filtered in
    ap (map start_of) kept
    ∙ filter-map (λ (start : Start). not (is_outdated c.learn.new.self start.from start.known)) start_of c.args.running.now.starts.items
    ∙ ap (λ known. filter (λ (start : Start). not (is_outdated known start.from start.known)) (map start_of c.args.running.now.starts.items)) c.learn.ensures

votes : (g : Over) (c : goal.After-retain-2 g)
    → map vote_of c.retain-2.new.self.items ≡ votes_left c.args.running.now.known c.args.told.now (map vote_of c.args.running.now.votes.items)
votes g c =
    let kept =
    filter_same _ (λ (vote : VoteOf _). not (is_outdated c.learn.new.self vote.from vote.known)) _
    (λ x b f' k. search rules) _ _ c.retain-2.ensures.filtered in
    ap (map vote_of) kept
    ∙ filter-map (λ (vote : Vote _). not (is_outdated c.learn.new.self vote.from vote.known)) vote_of c.args.running.now.votes.items
    ∙ ap (λ known. filter (λ (vote : Vote _). not (is_outdated known vote.from vote.known)) (map vote_of c.args.running.now.votes.items)) c.learn.ensures

pub returns-clause-sound : goal.returns-clause-sound
returns-clause-sound g c = λ f start s.
    let r = c.args.running.now in
    let told = c.args.told.now in
    record {
      kept = s.kept;
      sites = s.sites;
      known = ap length c.learn.ensures ∙ greater_length r.known told c.requires ∙ s.known;
      up = s.up;
      votes = subst (OneEach (λ (vote : Vote _). vote.from)) (sym (votes g c)) (one_each-left r.known told (map vote_of r.votes.items) s.votes);
    }

pub returns-clause-running : goal.returns-clause-running
returns-clause-running g c = λ start f acks h. record { sound = returns-clause-sound g c f start h.sound; summed = h.summed }

pub returns-clause-site : goal.returns-clause-site
returns-clause-site g c = λ acks cell.
    let r = c.args.running.now in
    λ i. record {
      status = r.status;
      view = r.view;
      last_normal = r.last_normal;
      log = r.kept.log;
      done = r.kept.done;
      collected = record { acks = acks; starts = starts g c i; voted = r.voted; votes = votes g c i; responses = [] };
      known = c.learn.ensures i;
      cell = cell;
    }
