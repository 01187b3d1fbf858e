use Rattle.std.proofs.Common.{◌≡◌, ℕ, ◌+◌, ◌*◌, ◌==◌, ◌&&◌, ◌||◌, true, false, not, nat_le, map, count_by, sym, ap, ◌∙◌, arith}
use Rattle.std.specs.List.{range_with_len}
use Rattle.vr_types.specs.Site.{has_start}
use Rattle.vr_log.specs.Running.{start_of}
use Rattle.vr_change.specs.Ballot.{starts_left}
use Rattle.vr_change.proofs.Counts.{count_next, count_others}
use Rattle.vr_change.proofs.ballot.enough_started.Goals as goal
use Rattle.vr_change.proofs.ballot.enough_started.Goals.{then-takes_part, else-takes_part}

none_more : (n : ℕ) → n + 0 ≡ n
none_more n = omega arith

pub loop-site-preserved : goal.loop-site-preserved
loop-site-preserved g c =
    let site = c.loop-site.site in
    let more = c.takes_part.ensures in
    elim c.if-takes_part.branch [
      | then-takes_part w ↦ record {
        counted =
            w.count-is ∙ ap (λ n. n + 1) c.loop-site.invariant.counted ∙ sym
            (count_next (λ j. not (j == c.args.config.me)
            && (has_start (starts_left c.args.running.now.known c.args.told.now (map start_of c.args.running.now.starts.items)) j || (c.args.from == j)))
            site true (sym more ∙ w.if-takes_part.true));
        few = omega arith;
      }
      | else-takes_part w ↦ record {
        counted =
            w.count-is ∙ c.loop-site.invariant.counted ∙ sym
            (count_next (λ j. not (j == c.args.config.me)
            && (has_start (starts_left c.args.running.now.known c.args.told.now (map start_of c.args.running.now.starts.items)) j || (c.args.from == j)))
            site false (sym more ∙ w.if-takes_part.false) ∙ none_more _);
        few = omega arith;
      }
    ]

pub returns : goal.returns
returns g c =
    let all : c.loop-site.site ≡ 2 * c.args.config.f + 1 = omega arith in
    ap (nat_le c.args.config.f)
    (c.loop-site.invariant.counted ∙ ap
    (λ n.
    count_by (λ j. not (j == c.args.config.me)
    && (has_start (starts_left c.args.running.now.known c.args.told.now (map start_of c.args.running.now.starts.items)) j || (c.args.from == j)))
    (range_with_len 0 n)) all ∙ sym (count_others c.args.config.f c.args.config.me
    (λ j. has_start (starts_left c.args.running.now.known c.args.told.now (map start_of c.args.running.now.starts.items)) j || (c.args.from == j))))
