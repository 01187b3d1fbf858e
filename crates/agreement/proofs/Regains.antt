-- A RECOVERY IS COMPLETED, in no view below one in which the site prepared anything or for which it voted: the two facts that the logs rest on.
use Rattle.std.proofs.Common.{◌≡◌, ◌≢◌, ◌⊎◌, inl, inr, ℕ, zero, suc, ◌<◌, ◌≤◌, Bool, true, false, ◌||◌, ◌==◌, if◌then◌else◌, List, [], ◌∷◌, length, refl, sym, ap, ◌∙◌, subst, arith, true≢false}
use Rattle.std.specs.Prelude.{Contains}
use Rattle.std.specs.List.{list_any}
use Rattle.vr_types.specs.declared.event.Status.TheVariants.{Recovering}
use Rattle.vr_types.specs.declared.message.MsgOf.TheVariants.{RecoveryResponse}
use Rattle.vr_types.specs.Group.{mail}
use Rattle.vr_types.specs.Site.{Response, Site, boot_of, has_response}
use Rattle.vr_types.specs.Choice.{Regained, IsRegained}
use Rattle.vr_types.specs.Step.{Step}
use Rattle.vr_types.proofs.ChoosingPick.{Contains-here, Contains-there, Contains-cases}
use Rattle.agreement.proofs.Beginnings.{begins_itself}
use Rattle.agreement.proofs.Quorums.{Both, quorums_meet}
use Rattle.agreement.proofs.Histories.{History, Regain}
use Rattle.agreement.proofs.PreparedRows.{Prepared, acknowledged, led}
use Rattle.vr_types.proofs.Vectors.{Within}
use Rattle.agreement.proofs.Votes.{answer_by, Voted, started, voted, Answered, HasLived, IsTold, IsAnswer, IsRegain, IsKeptResponse, MayWork, nonce_of, recovers_now, still_recovers}
use Rattle.agreement.proofs.Recoveries.{above}
use Rattle.agreement.proofs.VotesCover.{IsVote}
use Rattle.agreement.proofs.Standing.{Stands}
use Rattle.agreement.proofs.Elections.{IsElected}
use Rattle.agreement.proofs.Invariant.{Holds}
use Rattle.agreement.proofs.Prior.{prepared_within}
use Rattle.agreement.proofs.Put.{put_self}
use Rattle.agreement.proofs.Later.{IsLater, regain_later, heard_quiet}
use Rattle.agreement.proofs.Keeps.{keeps}
use Rattle.agreement.proofs.Moves.{Kept, grown_later, grown-trans}
use Rattle.agreement.proofs.Tests.{eq_of, recovering_rests}

-- what the first of a list from a sender knew
abbrev pub known_by : {A : Type 0} → (A → ℕ) → (A → List ℕ) → List A → ℕ → List ℕ
known_by from known [] k = []
known_by from known (a ∷ xs) k = if from a == k then known a else known_by from known xs k

pub record IsFirst {A : Type 0} (from : A → ℕ) (known : A → List ℕ) (xs : List A) (k : ℕ) (heard : List ℕ) : Type 0 where
  pub item : A
  pub among : Contains xs item
  pub sender : from item ≡ k
  pub knew : known item ≡ heard

pub first_known : {A : Type 0} (from : A → ℕ) (known : A → List ℕ) (xs : List A) (k : ℕ) → list_any (λ a. from a == k) xs ≡ true
    → IsFirst from known xs k (known_by from known xs k)
first_known from known [] k e = absurd (true≢false (sym e))
first_known {A} from known (a ∷ xs) k e = by_test (from a == k) refl e (first_known from known xs k)
  where
    by_test : (b : Bool) → (from a == k) ≡ b → (b || list_any (λ c. from c == k) xs) ≡ true
        → (list_any (λ c. from c == k) xs ≡ true → IsFirst from known xs k (known_by from known xs k))
        → IsFirst from known (a ∷ xs) k (if b then known a else known_by from known xs k)
    by_test true is e rest = record { item = a; among = Contains-here a xs; sender = eq_of (from a) k is; knew = refl }
    by_test false is e rest = let r = rest e in record { item = r.item; among = Contains-there a r.item xs r.among; sender = r.sender; knew = r.knew }

module _ {C R O : Type 0} (f : ℕ) (g : History C R O) (s : ℕ → Site C) (holds : Holds f g s) where
  -- what was told by a vote
  pub told_by : (k w : ℕ) (a : List ℕ) → Voted g k w a → IsTold g k w a
  told_by k w a (started to in') = holds.said k to _ in'
  told_by k w a (voted to u n log in') =
      let vote : IsVote f g k (record { view = w; last_normal = u; done = n; rows = log; known = a }) = holds.said k to _ in' in vote.told

  -- THE FIRST FACT: a site that recovers was normal, or will be, in no view below one for which it voted
  pub may_work_again : (c : Regain) → IsRegain f g c → (s c.site).status ≡ Recovering → c.boot ≡ (s c.site).cell.boots → MayWork g c.site c.view
  may_work_again c regain recovering boot to msg in' =
      let vote : IsVote f g c.site msg = holds.said c.site to _ in' in
      let old = (holds.sites c.site).hears.no_vote recovering msg.view msg.known (voted to msg.last_normal msg.done msg.rows in') in
      let own = vote.backed.own in
      above f g (λ j. (holds.sites j).hears.ordered) holds.regains msg.view vote.backed.votes
      (λ l b v. (told_by l msg.view b v).lived) c regain vote.backed.among (omega arith)

  module _ (me : ℕ) (recovering : (s me).status ≡ Recovering) (responses : List (Response C)) (same : (s me).collected.responses ≡ responses)
      (regained : Regained C) (right : IsRegained f responses regained) where
    kept : (a : Response C) → Contains responses a → (a.from ≢ me) × Contains g.said (mail a.from me (RecoveryResponse (answer_by (nonce_of (s me)) a)))
    kept a in' =
        (holds.sites me).responses (nonce_of (s me)) (recovers_now (s me) recovering) a (subst (λ (l : List (Response C)). Contains l a) (sym same) in')

    current : (a : Response C) → Contains responses a → IsKeptResponse (s me).known a
    current a in' = (holds.sites me).current recovering a (subst (λ (l : List (Response C)). Contains l a) (sym same) in')

    -- THE SECOND FACT: nor in one below a view in which it prepared anything
    pub not_below : (v n : ℕ) → Prepared f g me v n → v ≤ regained.view
    not_below zero n p = omega arith
    not_below (suc v) n p =
        let e : IsElected f g (suc v) = holds.elected (suc v) (omega arith) (prepared_within f g s holds me (suc v) n p).opened in
        let b : Both (g.electors (suc v)) (has_response responses) = quorums_meet f (g.electors (suc v)) (has_response responses) e.many right.enough in
        let x = first_known (λ (a : Response C). a.from) (λ (a : Response C). a.known) responses b.site b.second in
        let abreast = (holds.said _ _ _ (kept x.item x.among).1).3 in
        let low = abreast.covers (recovers_now (s me) recovering) (suc v) n p (ap (g.electors (suc v)) x.sender ∙ b.first) in
        let high = right.greatest x.item x.among in
        omega arith

    -- the recovery that is completed now
    abbrev pub candidate : Regain
    candidate = record {
      site = me;
      boot = (s me).cell.boots;
      view = regained.view;
      known = (s me).known;
      who = has_response responses;
      heard = known_by (λ (a : Response C). a.from) (λ (a : Response C). a.known) responses;
      time = length g.regains;
    }

    pub candidate_is : IsRegain f g candidate
    candidate_is = record {
      many = right.enough;
      answered = λ k e. answered k (answer k e);
      fresh = λ k l p q. fresh k l (answer k p) (answer l q);
    }
      where
        heard : ℕ → List ℕ
        heard = known_by (λ (a : Response C). a.from) (λ (a : Response C). a.known) responses

        answer : (k : ℕ) → has_response responses k ≡ true → IsFirst (λ (a : Response C). a.from) (λ (a : Response C). a.known) responses k (heard k)
        answer k e = first_known (λ (a : Response C). a.from) (λ (a : Response C). a.known) responses k e

        answered : (k : ℕ) → IsFirst (λ (a : Response C). a.from) (λ (a : Response C). a.known) responses k (heard k) → IsAnswer g candidate k
        answered k x =
            let said = (kept x.item x.among).1 in
            let told : IsTold g x.item.from x.item.view x.item.known = (holds.said _ _ _ said).2 in
            record {
              view = x.item.view;
              low = right.greatest x.item x.among;
              said = subst (λ (a : List ℕ). Answered g k me x.item.view (s me).cell.boots a) x.knew
                  (subst (λ (i : ℕ). Answered g i me x.item.view (s me).cell.boots x.item.known) x.sender (record { state = x.item.state; said = said }));
              lived = subst (λ (a : List ℕ). HasLived g k x.item.view a (length g.regains)) x.knew
                  (subst (λ (i : ℕ). HasLived g i x.item.view x.item.known (length g.regains)) x.sender told.lived);
              within = subst (λ (a : List ℕ). Within a (s me).known) x.knew (current x.item x.among).within;
            }

        fresh : (k l : ℕ) → IsFirst (λ (a : Response C). a.from) (λ (a : Response C). a.known) responses k (heard k)
            → IsFirst (λ (a : Response C). a.from) (λ (a : Response C). a.known) responses l (heard l)
            → boot_of (heard k) l ≤ boot_of (heard l) l
        fresh k l x y =
            let low = (current x.item x.among).within l in
            let high = subst (λ (i : ℕ). boot_of (s me).known i ≤ boot_of y.item.known i) y.sender (current y.item y.among).current in
            let p = ap (λ (a : List ℕ). boot_of a l) x.knew in
            let q = ap (λ (a : List ℕ). boot_of a l) y.knew in
            omega arith

    -- the history after it
    abbrev pub regained_history : History C R O
    regained_history = record g { regains = candidate ∷ g.regains }

    later : IsLater f g regained_history me 0
    later = record {
      said = λ e in'. in';
      spoken = λ j to m in'. inl in';
      logs = λ v. begins_itself _;
      logs_same = λ v. inl refl;
      opened = λ v o. o;
      opening = λ v o. refl;
      electors = λ v o. refl;
      regains = λ c in'. Contains-there candidate c g.regains in';
      older = omega arith;
      prepared = λ j v n p. inl (as_before j v n p);
    }
      where
        as_before : (j v n : ℕ) → Prepared f regained_history j v n → Prepared f g j v n
        as_before j v n (acknowledged to m low in') = acknowledged to m low in'
        as_before j v n (led o p low) = led o p low

    as_before : (j v n : ℕ) → Prepared f regained_history j v n → Prepared f g j v n
    as_before j v n (acknowledged to m low in') = acknowledged to m low in'
    as_before j v n (led o p low) = led o p low

    stands : Stands f regained_history me (s me)
    stands = record {
      running = λ run. absurd (recovering_rests (s me).status recovering run);
      rests = (holds.sites me).rests;
      hears = heard_quiet f g regained_history me 0 later me (s me).status (s me).cell.boots (s me).known (λ to m in'. in') (holds.sites me).hears;
      responses = (holds.sites me).responses;
      current = (holds.sites me).current;
    }

    pub regained_holds : Holds f regained_history s
    regained_holds = subst (λ (t : ℕ → Site C). Holds f regained_history t) (put_self s me)
        (keeps f g regained_history me 0 later s (s me) (still_recovers (s me) (s me) refl (λ e. e)) (λ _ v n p. as_before me v n p)
        (inl as_before) holds stands
        (λ j to m in'. inl in') (λ v o. inl o) holds.unopened holds.rising (λ c in'. by_place c (Contains-cases candidate c g.regains in')))
      where
        by_place : (c : Regain) → (candidate ≡ c) ⊎ Contains g.regains c
            → Contains g.regains c ⊎ (IsRegain f regained_history c × (c.time < suc (length g.regains)))
        by_place c (inl e) =
            inr (subst (λ (d : Regain). IsRegain f regained_history d × (d.time < suc (length g.regains))) e
            (regain_later f g regained_history me 0 later candidate candidate_is, omega arith))
        by_place c (inr old) = inl old

    -- what is kept from then on is kept
    pub kept_after : (step : Step C R O) → Kept f regained_history s me step → Kept f g s me step
    kept_after step k =
        record {
          history = k.history;
          holds = k.holds;
          grown = grown-trans f g regained_history k.history (grown_later f g regained_history me 0 later) k.grown;
          sent = k.sent;
        }
