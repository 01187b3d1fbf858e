-- What goes out of a notice, and that a step which sends something or notes something takes memory.
use Rattle.std.proofs.Common.{◌≡◌, ℕ, ◌+◌, ◌*◌, ◌<◌, ◌≤◌, true, [], length, Some, None, ap, ◌∙◌, arith, ◌⊎◌, inl, inr}
use Rattle.std.specs.Prelude.{nat_lt, slice_get, slice_index_or, Result, Ok, Err, OnErr}
use Rattle.std.specs.Option.{option_map_or}
use Rattle.std.proofs.lemmas.Bool.{lt-ltb}
use Rattle.std.proofs.lemmas.List.{length-map}
use Rattle.std.proofs.lemmas.List.FromFn.{length-range_with_len}
use Rattle.std.proofs.lemmas.Option.{slice_get_cases}
use Rattle.pvp_types.specs.declared.command.Cmd.{Cmd}
use Rattle.vr_types.specs.declared.message.MsgOf.TheVariants.{Request}
use Rattle.vr_types.specs.Group.{sites, actor_of}
use Rattle.pvp_book.specs.Ledger.{node_of}
use Rattle.rtgs_node.specs.Node.{Node, to_sites, notice_out}

-- a fact of its own is one of an Err
pub on_err : {A E : Type 0} {P : Type 0} (r : Result A E) → P → OnErr r P
on_err (Ok x) p = tt
on_err (Err e) p = p

sent-some : (f client number : ℕ) (cmd : Cmd) → nat_lt 0 (length (to_sites f client number cmd)) ≡ true
sent-some f client number cmd =
    let all : length (to_sites f client number cmd) ≡ 2 * f + 1 =
    length-map (sites f) (λ (j : ℕ). record { from = client; to = actor_of j; msg = Request (record { number = number; cmd = cmd }) })
    ∙ length-range_with_len 0 (2 * f + 1) in
    lt-ltb 0 (length (to_sites f client number cmd)) (omega arith)

-- a notice that is not answered goes out
pub notice-some : (f c : ℕ) (x : Node) → x.answered < length x.notices → nat_lt 0 (length (notice_out f c x)) ≡ true
notice-some f c x more = by (slice_get_cases x.notices x.answered).1
  where
    by : ((cmd : Cmd) × (x.answered < length x.notices) × (slice_get x.notices x.answered ≡ Some cmd) × (slice_index_or x.notices x.answered cmd ≡ cmd))
        ⊎ ((length x.notices ≤ x.answered) × (slice_get x.notices x.answered ≡ None))
        → nat_lt 0 (length (notice_out f c x)) ≡ true
    by (inl there) =
        ap (λ o. nat_lt 0 (length (option_map_or (λ (cmd : Cmd). to_sites f (node_of c) (x.answered + 1) cmd) o []))) there.2
        ∙ sent-some f (node_of c) (x.answered + 1) there.0
    by (inr none) = let past = none.0 in absurd (omega arith)
