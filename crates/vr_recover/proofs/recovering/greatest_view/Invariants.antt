use Rattle.std.proofs.Common.{ℕ, ◌<◌, ◌≤◌, slice_index_or}
use Rattle.std.specs.Prelude.{All}
use Rattle.vr_recover.specs.declared.recovering.ResponseOf.{ResponseOf}
use Rattle.vr_recover.proofs.recovering.greatest_view.Given as goal

-- of the responses so far
abbrev pub invariant-loop-response : goal.invariant-loop-response
invariant-loop-response g l = record {
  above : (k : ℕ) (d : ResponseOf g.row.C.Denot) → k < l.response-index → (slice_index_or l.kept k d).view ≤ l.view;
  least : (view : ℕ) → All (λ response. response.view ≤ view) l.kept → l.view ≤ view;
}
