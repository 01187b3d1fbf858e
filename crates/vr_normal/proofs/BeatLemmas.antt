-- Beat of a normal site.
use Rattle.std.proofs.Common.{◌≡◌, ℕ, ◌+◌, ◌==◌, List, [], ◌∷◌, ◌++◌, map, take, drop, slice_get, Some, None, append_assoc, true, false, refl, sym, ap, ◌∙◌, append-nil, if◌then◌else◌}
use Rattle.vr_types.specs.declared.cell.Boot.{Boot}
use Rattle.vr_types.specs.declared.event.OutcomeOf.{OutcomeOf}
use Rattle.vr_types.specs.declared.machine.Machine.{Ghosts}
use Rattle.vr_types.specs.Execution.{held_after}
use Rattle.vr_types.specs.Group.{primary, to_all}
use Rattle.vr_types.specs.Handling.{machine_of, order_to}
use Rattle.vr_types.specs.Normal.{beats_normal, news}
use Rattle.vr_types.specs.Site.{Ack, Site}
use Rattle.vr_types.specs.Step.{Step, does}
use Rattle.vr_log.specs.declared.running.Running.{Running}
use Rattle.vr_log.proofs.Rows.{drop_next, drop_end}
use Rattle.vr_log.specs.Outcomes.{ended}
use Rattle.vr_log.specs.Running.{IsRunning, Meets, site_of}

module _ {C R O : Type 0} (f me : ℕ) (x : Site C) where
  pub beats_normal-backup : (primary f x.view == me) ≡ false → ◌≡◌ {A = Step C R O} (beats_normal f me x) (does x [])
  unfolding beats_normal
  beats_normal-backup p = rw p

  pub beats_normal-primary : (primary f x.view == me) ≡ true
      → ◌≡◌ {A = Step C R O} (beats_normal f me x) (record (does x (to_all f me (news x (slice_get x.log x.done)))) { orders = true })
  unfolding beats_normal
  beats_normal-primary p = rw p

-- the backups and the clients with open orders were told
pub beat_meets : {H C R O S : Type 0} (m : Ghosts H C R O S) (start : H) (f me : ℕ) (r : Running H C R O S) (out : OutcomeOf C R O) (acks : List Ack)
    (cell : Boot) → IsRunning m start f r acks → out.dropped ≡ None
    → out.sent.items ≡ to_all f me (news (site_of r acks cell) (slice_get r.kept.log r.kept.done)) ++ map (order_to me) (m.orders r.kept.machine)
    → Meets m start f me r out
    (record (does (site_of r acks cell) (to_all f me (news (site_of r acks cell) (slice_get r.kept.log r.kept.done)))) { orders = true })
beat_meets m start f me r out acks cell h dropped sent =
    let x = site_of r acks cell in
    let told = to_all f me (news x (slice_get r.kept.log r.kept.done)) in
    let held : r.kept.machine ≡ machine_of m start x =
    h.sound.kept.held ∙ ap (λ b. held_after m start (if b then take r.kept.done r.kept.log else [])) (sym h.sound.up) in
    record {
      running = h;
      site = refl;
      sent =
          sent ∙ ap (λ front. front ++ map (order_to me) (m.orders r.kept.machine)) (sym (append-nil told))
          ∙ ap (λ q. (told ++ []) ++ map (order_to me) (m.orders q)) held;
      ending = ap ended (sym dropped);
    }

-- one more order
pub orders_next : {A B : Type 0} (h : A → B) (sent : List B) (orders : List A) (at : ℕ) (due : A) (all : List B) → slice_get orders at ≡ Some due
    → sent ++ map h (drop at orders) ≡ all → (sent ++ h due ∷ []) ++ map h (drop (at + 1) orders) ≡ all
orders_next h sent orders at due all there e =
    append_assoc sent (h due ∷ []) (map h (drop (at + 1) orders)) ∙ ap (λ rest. sent ++ map h rest) (sym (drop_next orders at due there)) ∙ e

-- no more orders
pub orders_end : {A B : Type 0} (h : A → B) (sent : List B) (orders : List A) (at : ℕ) (all : List B) → slice_get orders at ≡ None
    → sent ++ map h (drop at orders) ≡ all → sent ≡ all
orders_end h sent orders at all there e = sym (append-nil sent) ∙ ap (λ rest. sent ++ map h rest) (sym (drop_end orders at there)) ∙ e
