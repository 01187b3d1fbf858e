-- A log is taken, from the primary or in a recovery. A site restarts.
use Rattle.std.proofs.Common.{◌≡◌, ◌≢◌, ◌⊎◌, inl, inr, ℕ, ◌+◌, ◌*◌, ◌<◌, ◌≤◌, Bool, true, false, if◌then◌else◌, nat_lt, List, [], ◌∷◌, ◌++◌, length, take, set, Some, refl, sym, ap, ◌∙◌, subst, arith, true≢false, length-set}
use Rattle.std.specs.Prelude.{Contains}
use Rattle.std.proofs.lemmas.Bool.{cases_lt, cases_eq}
use Rattle.vr_types.specs.declared.event.Status.TheVariants.{Normal, Change, Recovering}
use Rattle.vr_types.specs.declared.message.EnvelopeOf.{EnvelopeOf}
use Rattle.vr_types.specs.declared.message.MsgOf.{MsgOf}
use Rattle.vr_types.specs.declared.message.MsgOf.TheVariants.{Recovery, RecoveryResponse}
use Rattle.vr_types.specs.declared.row.RowOf.{RowOf}
use Rattle.vr_types.specs.Group.{primary, mail, to_all}
use Rattle.vr_types.specs.Site.{Response, Site, over, no_boots, boot_of, is_running, is_down}
use Rattle.vr_types.specs.Choice.{Choice, Regained, IsRegained}
use Rattle.vr_types.specs.Step.{does, executed_to, normal_in, begins_with_executed, acknowledges_all, takes_log}
use Rattle.vr_types.specs.Recovery.{regains, on_restart}
use Rattle.vr_types.proofs.ChoosingPick.{Contains-none, Contains-here, Contains-there}
use Rattle.agreement.specs.Promises.{Begins}
use Rattle.agreement.proofs.Beginnings.{begins-trans, begins_at, take_begins, begins_shorter}
use Rattle.agreement.proofs.Histories.{History, Regain}
use Rattle.agreement.proofs.OneLog.{IsLogOf}
use Rattle.agreement.proofs.PreparedRows.{Prepared, IsUpto}
use Rattle.agreement.proofs.CommittedRows.{none, IsCommittedTo}
use Rattle.vr_types.proofs.Vectors.{set_here, set_there, no_boots_is, no_boots_long}
use Rattle.agreement.proofs.Votes.{Voted, Answered, WasBoot, never, asked, HasLived, again, Hears, MayWork, HasAsked, nonce_of, recovers_now, same_cell}
use Rattle.agreement.proofs.StatesCover.{IsState}
use Rattle.agreement.proofs.Vouched.{IsVouched}
use Rattle.agreement.proofs.Standing.{StandsRunning}
use Rattle.agreement.proofs.Invariant.{Holds}
use Rattle.agreement.proofs.Prior.{committed_opening, upto-trans}
use Rattle.agreement.proofs.Put.{put, put_here}
use Rattle.agreement.proofs.Later.{IsLater}
use Rattle.agreement.proofs.Moves.{Kept, kept_same, kept_then, kept_if, Says, says_one, says_both, says_to_all, say, IsNow, voted_say, answered_say, hears_say, later_say, kept_say}
use Rattle.agreement.proofs.Parts.{upto-view, committed_to, heard_on, lived_higher, kept_runs}
use Rattle.agreement.proofs.Prepares.{kept_acknowledges}
use Rattle.agreement.proofs.Opens.{IsMoved, committed_moves, committed_executed}
use Rattle.agreement.proofs.Regains.{told_by, may_work_again, not_below, candidate, regained_history, regained_holds, kept_after}
use Rattle.agreement.proofs.Tests.{recovering_rests}

-- a site that took this log in view w
abbrev taken : {C : Type 0} → ℕ → ℕ → List (RowOf C) → Site C → Site C
taken w k log x = executed_to k (normal_in w log x)

module _ {C R O : Type 0} (f : ℕ) (g : History C R O) (s : ℕ → Site C) (me : ℕ) (holds : Holds f g s) where
  module _ (w k : ℕ) (log : List (RowOf C)) (o : IsLogOf g w log) (c : IsCommittedTo f g w k) (apart : me ≢ primary f w) where
    module _ (run : is_running (s me).status ≡ true) (up : IsUpto (s me).last_normal (length (s me).log) w (length log)) where
      r : StandsRunning f g me (s me)
      r = (holds.sites me).running run

      -- the log begins with what the site has executed
      begins_with_done : IsUpto (s me).last_normal (length (s me).log) w (length log) → Begins (take (s me).done (s me).log) log
      begins_with_done (inl l) = begins-trans (committed_opening f g s holds (s me).last_normal w _ r.done l o.opened) o.lower
      begins_with_done (inr e) = begins-trans (take_begins _ _) (begins_shorter (begins_at (ap g.logs e.0) r.log_of.upper) o.upper e.1)

      moved : IsMoved f g w (s me).done log
      moved = committed_moves f g (s me).last_normal w (s me).done (s me).log log (upto-view _ _ _ _ up) r.done r.within (begins_with_done up)

      kept_taken : (s me).view ≤ w → Kept f g s me (does (taken w k log (s me)) [])
      kept_taken low =
          kept_runs f g s me holds (taken w k log (s me)) (same_cell (s me) (taken w k log (s me)) refl) refl
          (heard_on f g me (s me).status Normal (s me).cell.boots (s me).known refl run (holds.sites me).hears) (record {
            at_view = record {
              lived = lived_higher g me (s me).view w (s me).known _ low r.at_view.lived;
              votes = λ v a p e. (let h = r.at_view.votes v a p e in omega arith);
              promised = λ to msg in'. (let h = r.at_view.promised to msg in' in omega arith);
              answers = r.at_view.answers;
              starts = λ e. absurd (let e' : Normal ≡ Change = e in cc);
              backed = λ e. absurd (let e' : Normal ≡ Change = e in cc);
            };
            normal = λ _. refl;
            change = λ e. absurd (let e' : Normal ≡ Change = e in cc);
            log_of = o;
            leads = λ _ p. absurd (apart p);
            within = (let h = moved.within in omega arith);
            done = committed_executed f g w (s me).done k log moved.done (committed_to f g s holds w k log o c);
            prepared = λ view n p. upto-trans view n _ _ _ _ (r.prepared view n p) up;
            acks = λ _ a in'. absurd (Contains-none a in');
            votes = λ _ v in'. absurd (Contains-none v in');
            current = λ _ v in'. absurd (Contains-none v in');
          })

      -- it is taken and acknowledged
      kept_taken_told : (s me).view ≤ w
          → (let y = taken w k log (s me) in Kept f g s me (does y (if nat_lt y.done (length y.log) then acknowledges_all f me y else [])))
      kept_taken_told low =
          let y = taken w k log (s me) in
          kept_then f g s me y y [] (if nat_lt y.done (length y.log) then acknowledges_all f me y else []) (kept_taken low)
          (λ h grown later. subst (λ (x : Site C). Kept f h (put s me y) me (does x (if nat_lt y.done (length y.log) then acknowledges_all f me x else [])))
          (put_here s me y)
          (acknowledges_later h (put s me y) (nat_lt y.done (length y.log)) later (ap (λ (x : Site C). x.status) (put_here s me y))))
        where
          acknowledges_later : (h : History C R O) (t : ℕ → Site C) (b : Bool) → Holds f h t → (t me).status ≡ Normal
              → Kept f h t me (does (t me) (if b then acknowledges_all f me (t me) else []))
          acknowledges_later h t true later normal = kept_acknowledges f h t me later normal (primary f (t me).view)
          acknowledges_later h t false later normal = kept_same f h t me later _ refl refl

      pub kept_takes_log : (choose : Choice C) → (s me).view ≤ w → Kept f g s me (takes_log choose f me (s me) w k log)
      kept_takes_log choose low =
          kept_if f g s me (begins_with_executed choose.same (s me) log)
          (λ _. kept_taken_told low)
          (λ _. kept_same f g s me holds _ refl refl)

    -- a recovering site regains the state of view w, where it has completed its recovery
    kept_regained : (s me).status ≡ Recovering → IsState f g s me w (nonce_of (s me)) k log → MayWork g me w → ((v n : ℕ) → Prepared f g me v n → v ≤ w)
        → HasLived g me w (s me).known (length g.regains) → Kept f g s me (does (taken w k log (s me)) [])
    kept_regained recovering a may low lived =
        kept_runs f g s me holds (taken w k log (s me)) (same_cell (s me) (taken w k log (s me)) refl) refl
        (record {
          own = λ _. hears.own up;
          long = λ _. hears.long up;
          heard = hears.heard;
          no_vote = λ e. absurd (let e' : Normal ≡ Recovering = e in cc);
          no_answer = λ e. absurd (let e' : Normal ≡ Recovering = e in cc);
          ordered = hears.ordered;
        }) (record {
          at_view = record {
            lived = lived;
            votes = λ v b p e. absurd (let h = hears.no_vote recovering v b p in omega arith);
            promised = may;
            answers = λ to v x b p e. absurd (let h = hears.no_answer recovering to v x b p in omega arith);
            starts = λ e. absurd (let e' : Normal ≡ Change = e in cc);
            backed = λ e. absurd (let e' : Normal ≡ Change = e in cc);
          };
          normal = λ _. refl;
          change = λ e. absurd (let e' : Normal ≡ Change = e in cc);
          log_of = o;
          leads = λ _ p. absurd (apart p);
          within = (let h = bare.1 in omega arith);
          done = committed_executed f g w (s me).done k log (none (ap (λ (n : ℕ). take n log) bare.1)) (committed_to f g s holds w k log o c);
          prepared = λ view n p. prep view n (cases_lt view w) p;
          acks = λ _ a in'. absurd (Contains-none a in');
          votes = λ _ v in'. absurd (Contains-none v in');
          current = λ _ v in'. absurd (Contains-none v in');
        })
      where
        hears : Hears f g me (s me)
        hears = (holds.sites me).hears

        up : is_down (s me).status ≡ false
        up = ap is_down recovering

        rests : (b : Bool) → is_running (s me).status ≡ b → b ≡ false
        rests false e = refl
        rests true e = absurd (recovering_rests (s me).status recovering e)

        bare : ((s me).log ≡ []) × ((s me).done ≡ 0)
        bare = (holds.sites me).rests (rests (is_running (s me).status) refl)

        prep : (view n : ℕ) → (view < w) ⊎ (w ≤ view) → Prepared f g me view n → IsUpto view n w (length log)
        prep view n (inl h) p = inl h
        prep view n (inr h) p =
            let e : view ≡ w = (let l = low view n p in omega arith) in
            inr (e, a.covers (recovers_now (s me) recovering) n (subst (λ (u : ℕ). Prepared f g me u n) e p))

module _ {C R O : Type 0} (f : ℕ) (g : History C R O) (s : ℕ → Site C) (me : ℕ) (holds : Holds f g s) where
  pub kept_regains : (responses : List (Response C)) (regained : Regained C) → (s me).status ≡ Recovering → (s me).collected.responses ≡ responses
      → IsRegained f responses regained
      → Kept f g s me (regains (s me) (Some regained))
  kept_regains responses regained recovering same right =
      kept_after f g s holds me recovering responses same regained right _
      (regained_then regained_holds' (regained_holds'.said _ _ _ said.1) (λ e. said.0 (sym e)))
    where
      said : (primary f regained.view ≢ me) × Contains g.said
          (mail (primary f regained.view) me
          (RecoveryResponse (record { view = regained.view; nonce = nonce_of (s me); state = Some regained.state; known = right.known })))
      said = (holds.sites me).responses (nonce_of (s me)) (recovers_now (s me) recovering) _
          (subst (λ (l : List (Response C)).
          Contains l (record { from = primary f regained.view; view = regained.view; state = Some regained.state; known = right.known }))
          (sym same) right.answered)

      c : Regain
      c = candidate f g s holds me recovering responses same regained right

      h : History C R O
      h = regained_history f g s holds me recovering responses same regained right

      regained_holds' : Holds f h s
      regained_holds' = regained_holds f g s holds me recovering responses same regained right

      lived : HasLived h me regained.view (s me).known (length h.regains)
      lived = again c (Contains-here c g.regains) refl (sym ((holds.sites me).hears.own (ap is_down recovering))) (omega arith) (λ k. omega arith) (omega arith)

      regained_then : Holds f h s
          → IsVouched f h s (primary f regained.view) me
          (RecoveryResponse (record { view = regained.view; nonce = nonce_of (s me); state = Some regained.state; known = right.known }))
          → me ≢ primary f regained.view
          → Kept f h s me (regains (s me) (Some regained))
      regained_then later vouched apart =
          let a = vouched.1 in
          kept_regained f h s me later regained.view regained.state.done regained.state.rows a.log_of a.done apart recovering a
          (may_work_again f h s later c (later.regains c (Contains-here c g.regains)) recovering refl)
          (not_below f h s later me recovering responses same regained right) lived

  -- a site restarts: it asks with its new boot number, which it alone knows
  pub kept_restart : me < 2 * f + 1 → Kept f g s me (on_restart f me (s me))
  unfolding on_restart
  kept_restart small =
      kept_say f g me msg es tt says s (to_all f me msg) y holds
      (record { ahead = record { boots = omega arith }; recovering = λ _. inl (omega arith) })
      (record {
        running = λ run. absurd (true≢false (sym run));
        rests = λ _. (refl, refl);
        hears = record {
          own = λ _. own;
          long = λ _. (let e = length-set (no_boots f) me boots in let d = no_boots_long f in omega arith);
          heard = λ k. heard k (cases_eq k me);
          no_vote = λ _ w a v. no_vote w a (voted_say f g me msg es says 0 later y (λ to in'. tt) w a v);
          no_answer = λ _ to w n a v. no_answer to w n a (answered_say f g me msg es says 0 later y (λ to' in'. tt) to w n a v);
          ordered = (hears_say f g me msg es tt says (s me) (λ to in'. tt) (λ run. ((holds.sites me).running run).at_view) (holds.sites me).hears).ordered;
        };
        responses = λ _ _ a in'. absurd (Contains-none a in');
        current = λ _ a in'. absurd (Contains-none a in');
      })
      (λ to in'. subst (λ (x : Site C). HasAsked x boots) (sym (put_here s me y)) (omega arith))
      (λ e in'. Contains-there (mail me me msg) e (to_all f me msg) in')
    where
      boots : ℕ
      boots = (s me).cell.boots + 1

      y : Site C
      y = record (over (record { boots = boots }) Recovering) { known = set (no_boots f) me boots }

      msg : MsgOf C R O
      msg = Recovery (record { nonce = boots })

      es : List (EnvelopeOf C R O)
      es = mail me me msg ∷ to_all f me msg

      says : Says me msg es
      says = says_both me msg (mail me me msg ∷ []) (to_all f me msg) (says_one me me msg) (says_to_all f me msg)

      later : IsLater f g (say es g) me 0
      later = later_say f g me msg es tt says 0

      own : boot_of (set (no_boots f) me boots) me ≡ boots
      own = set_here (no_boots f) me boots (let d = no_boots_long f in omega arith)

      heard : (k : ℕ) → (k ≡ me) ⊎ (k ≡ me → ⊥) → WasBoot (say es g) k (boot_of (set (no_boots f) me boots) k)
      heard k (inl e) = subst (λ (i : ℕ). WasBoot (say es g) i (boot_of (set (no_boots f) me boots) i)) (sym e)
          (subst (λ (n : ℕ). WasBoot (say es g) me n) (sym own) (asked me (Contains-here (mail me me msg) (to_all f me msg ++ g.said))))
      heard k (inr apart) = never (set_there (no_boots f) me k boots apart ∙ no_boots_is f k)

      was : (n : ℕ) → WasBoot g me n → n < boots
      was n (never e) = omega arith
      was n (asked to in') = let h : HasAsked (s me) n = holds.said me to _ in' in omega arith

      no_vote : (w : ℕ) (a : List ℕ) → Voted g me w a ⊎ IsNow y w a → boot_of a me < boots
      no_vote w a (inl v) = was _ ((told_by f g s holds me w a v).boots me)
      no_vote w a (inr n) = absurd (true≢false (sym n.running))

      no_answer : (to w n : ℕ) (a : List ℕ) → Answered g me to w n a ⊎ (IsNow y w a × (n ≤ boot_of y.known to)) → boot_of a me < boots
      no_answer to w n a (inl v) =
          let vouched : IsVouched f g s me to (RecoveryResponse (record { view = w; nonce = n; state = v.state; known = a })) = holds.said me to _ v.said in
          was _ (vouched.2.boots me)
      no_answer to w n a (inr is) = absurd (true≢false (sym is.0.running))
