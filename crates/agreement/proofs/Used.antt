-- The messages by which a step decides whether a view opens, or a state is regained, are fresh.
use Rattle.std.proofs.Common.{◌≡◌, ◌⊎◌, inl, inr, ℕ, ◌≤◌, ◌==◌, ◌&&◌, Bool, true, false, not, nat_lt, List, [], ◌∷◌, ◌++◌, Some, None, if◌then◌else◌, refl, sym, ◌∙◌, subst, arith}
use Rattle.std.specs.Prelude.{Contains}
use Rattle.std.specs.List.{filter}
use Rattle.std.proofs.lemmas.List.Elements.{Contains-append_cases}
use Rattle.vr_types.specs.declared.event.EventOf.TheVariants.{Deliver}
use Rattle.vr_types.specs.declared.event.SiteFault.TheVariants.{NotUp, NotMine}
use Rattle.vr_types.specs.declared.event.Status.TheVariants.{Change, Recovering}
use Rattle.vr_types.specs.declared.event.Why.{Why}
use Rattle.vr_types.specs.declared.message.EnvelopeOf.{EnvelopeOf}
use Rattle.vr_types.specs.declared.message.MsgOf.{MsgOf}
use Rattle.vr_types.specs.declared.message.MsgOf.TheVariants.{StartViewChange, DoViewChange, RecoveryResponse}
use Rattle.vr_types.specs.Cell.{nonce_of}
use Rattle.vr_types.specs.Change.{Part, starts_view, starts_later_view, with_start, with_vote, with_voted, own_vote, sends_vote, votes_where_due, is_to_vote, after_start, after_vote, on_start_view_change, on_do_view_change}
use Rattle.vr_types.specs.Choice.{Choice, AreFresh}
use Rattle.vr_types.specs.Group.{primary, is_mine, site_of}
use Rattle.vr_types.specs.Handling.{refused_or, on_message, site_step, votes_used, responses_used}
use Rattle.vr_types.specs.Recovery.{after_response, on_recovery_response}
use Rattle.vr_types.specs.Site.{Site, Start, Vote, Response, boot_of, has_start, has_vote, is_normal, is_recovering, is_down}
use Rattle.vr_types.specs.Step.{Step, Handled, drops, greater, is_outdated, learns}
use Rattle.vr_types.proofs.ChoosingPick.{Contains-none, Contains-cases}
use Rattle.vr_types.proofs.Vectors.{Within, greater_left, greater_right, greater_is, within-trans}
use Rattle.agreement.proofs.Members.{filter-has, filter-passes}
use Rattle.agreement.proofs.Tests.{eq_test, ge_of, not_true, not_false, and_false, runs_of, changes_of, recovering_of}
use Rattle.agreement.proofs.Votes.{IsKeptVote, IsKeptResponse}

-- what is of the boot that is known, and knew no more than is known, is fresh together
pub fresh_by : {A : Type 0} (from : A → ℕ) (told : A → List ℕ) (known : List ℕ) (xs : List A) → ((a : A) → Contains xs a → Within (told a) known)
    → ((a : A) → Contains xs a → boot_of known (from a) ≤ boot_of (told a) (from a))
    → AreFresh from told xs
fresh_by from told known xs within current a b in_a in_b = let low = within a in_a (from b) in let high = current b in_b in omega arith

none_fresh : {A : Type 0} (from : A → ℕ) (told : A → List ℕ) → AreFresh from told []
none_fresh from told a b at = absurd (Contains-none a at)

-- each of these DOVIEWCHANGEs is of its sender's boot that is known
abbrev VotesKept : {C : Type 0} → List ℕ → List (Vote C) → Type 0
VotesKept {C} known votes = (vote : Vote C) → Contains votes vote → IsKeptVote known vote

abbrev ResponsesKept : {C : Type 0} → List ℕ → List (Response C) → Type 0
ResponsesKept {C} known responses = (response : Response C) → Contains responses response → IsKeptResponse known response

-- what came is of the boot of its sender that is known once it is learnt
came : (known told : List ℕ) (from : ℕ) → is_outdated known from told ≡ false → boot_of (greater known told) from ≤ boot_of told from
came known told from current = let e = greater_is known told from in let low = ge_of (boot_of told from) (boot_of known from) current in omega arith

-- so is what is left then
left : (known told : List ℕ) (from : ℕ) (sent : List ℕ) → not (is_outdated (greater known told) from sent) ≡ true
    → boot_of (greater known told) from ≤ boot_of sent from
left known told from sent e = ge_of (boot_of sent from) (boot_of (greater known told) from) (not_true _ e)

-- one more DOVIEWCHANGE
vote_more : {C : Type 0} (known : List ℕ) (vote : Vote C) (x : Site C) → IsKeptVote known vote → VotesKept known x.collected.votes
    → VotesKept known (with_vote vote x).collected.votes
vote_more {C} known vote x this all = by_test (has_vote x.collected.votes vote.from)
  where
    of_this : (v : Vote C) → (vote ≡ v) ⊎ Contains [] v → IsKeptVote known v
    of_this v (inl e) = subst (IsKeptVote known) e this
    of_this v (inr none) = absurd (Contains-none v none)

    by_part : (v : Vote C) → Contains x.collected.votes v ⊎ Contains (vote ∷ []) v → IsKeptVote known v
    by_part v (inl in') = all v in'
    by_part v (inr in') = of_this v (Contains-cases vote v [] in')

    by_test : (b : Bool)
        → VotesKept known (if b then x else record x { collected = record (x.collected) { votes = x.collected.votes ++ vote ∷ [] } }).collected.votes
    by_test true = all
    by_test false = λ v in'. by_part v (Contains-append_cases x.collected.votes (vote ∷ []) v in')

-- the site's own vote knows what the site knows
own_more : {C R O : Type 0} (f me : ℕ) (part : Part C R O) (known : List ℕ) → part.site.known ≡ known → VotesKept known part.site.collected.votes
    → VotesKept known (votes_where_due f me part).site.collected.votes
own_more {C} {R} {O} f me part known knows all = by_tests (not (is_to_vote f me part.site)) (primary f part.site.view == me)
  where
    own : IsKeptVote known (own_vote me part.site)
    own = record {
      within = λ k. subst (λ (a : List ℕ). boot_of part.site.known k ≤ boot_of a k) knows (omega arith);
      current = subst (λ (a : List ℕ). boot_of a me ≤ boot_of part.site.known me) knows (omega arith);
    }

    by_tests : (due here : Bool) → VotesKept known (let p : Part C R O = if due then part
        else if here then record { site = with_vote (own_vote me part.site) (with_voted part.site); sent = part.sent }
        else record { site = with_voted part.site; sent = part.sent ++ sends_vote f me part.site } in p.site.collected.votes)
    by_tests true here = all
    by_tests false true = vote_more known (own_vote me part.site) (with_voted part.site) own all
    by_tests false false = all

module _ {C : Type 0} (R O : Type 0) (choose : Choice C) (f me : ℕ) (x : Site C) (votes : x.status ≡ Change → VotesKept x.known x.collected.votes) where
  -- what is kept as the change to a view begins, or goes on
  begun : (w : ℕ) (told : List ℕ) → (nat_lt x.view w ≡ false → x.status ≡ Change)
      → let part : Part C R O = starts_later_view f me w (learns told x) in
      (part.site.known ≡ greater x.known told) × VotesKept (greater x.known told) part.site.collected.votes
  begun w told change = by_test (nat_lt x.view w) refl
    where
      by_test : (b : Bool) → nat_lt x.view w ≡ b → let part : Part C R O =
          if b then starts_view f me w (learns told x) else record { site = learns told x; sent = [] } in
          (part.site.known ≡ greater x.known told) × VotesKept (greater x.known told) part.site.collected.votes
      by_test true e = (refl, λ v in'. absurd (Contains-none v in'))
      by_test false e = (
        refl,
        λ v in'. (
            let old = votes (change e) v (filter-has _ x.collected.votes v in') in
            record {
              within = within-trans v.known x.known (greater x.known told) old.within (greater_left x.known told);
              current = left x.known told v.from v.known (filter-passes _ x.collected.votes v in');
            }),
      )

  -- a test that an event that is handled has passed
  past : (b : Bool) (why : Why) (s : Step C R O) → (if b then drops x why else s).ending ≡ Handled → (b ≡ false) × (s.ending ≡ Handled)
  past true why s e = absurd (cc)
  past false why s e = (refl, e)

  changing : (w : ℕ) → is_down x.status ≡ false → is_recovering x.status ≡ false → nat_lt w x.view ≡ false → (is_normal x.status && (w == x.view)) ≡ false
      → nat_lt x.view w ≡ false → x.status ≡ Change
  changing w up here new other same =
      let a = ge_of w x.view new in
      let b = ge_of x.view w same in
      changes_of x.status (runs_of x.status up here) (and_false (is_normal x.status) (w == x.view) other (eq_test w x.view (omega arith)))

  start_keeps : (w : ℕ) (start : Start) → is_down x.status ≡ false → (on_start_view_change {R = R} {O = O} choose f me x w start).ending ≡ Handled
      → VotesKept (greater x.known start.known) (let part : Part C R O = after_start f me w start x in part.site.collected.votes)
  unfolding on_start_view_change
  start_keeps w start up e =
      let a = past (is_recovering x.status) _ _ e in
      let b = past (nat_lt w x.view) _ _ a.1 in
      let c = past (is_normal x.status && (w == x.view)) _ _ b.1 in
      let part : Part C R O = starts_later_view f me w (learns start.known x) in
      let h = begun w start.known (changing w up a.0 b.0 c.0) in
      let k = with_start_keeps part.site in
      own_more f me (record part { site = with_start start part.site }) (greater x.known start.known) (k.0 ∙ h.0)
      (subst (VotesKept (greater x.known start.known)) (sym k.1) h.1)
    where
      with_start_keeps : (y : Site C) → ((with_start start y).known ≡ y.known) × ((with_start start y).collected.votes ≡ y.collected.votes)
      with_start_keeps y = by_test (has_start y.collected.starts start.from)
        where
          by_test : (b : Bool) → let z = if b then y else record y { collected = record (y.collected) { starts = y.collected.starts ++ start ∷ [] } } in
              (z.known ≡ y.known) × (z.collected.votes ≡ y.collected.votes)
          by_test true = (refl, refl)
          by_test false = (refl, refl)

  vote_keeps : (w : ℕ) (vote : Vote C) → is_down x.status ≡ false → (on_do_view_change {R = R} {O = O} choose f me x w vote).ending ≡ Handled
      → VotesKept (greater x.known vote.known) (let part : Part C R O = after_vote f me w vote x in part.site.collected.votes)
  unfolding on_do_view_change
  vote_keeps w vote up e =
      let a = past (is_recovering x.status) _ _ e in
      let b = past (nat_lt w x.view) _ _ a.1 in
      let c = past (not (primary f w == me)) _ _ b.1 in
      let d = past (is_normal x.status && (w == x.view)) _ _ c.1 in
      let g = past (is_outdated x.known vote.from vote.known) _ _ d.1 in
      let part : Part C R O = starts_later_view f me w (learns vote.known x) in
      let h = begun w vote.known (changing w up a.0 b.0 d.0) in
      vote_more (greater x.known vote.known) vote part.site
      (record { within = greater_right x.known vote.known; current = came x.known vote.known vote.from g.0 }) h.1

  response_keeps : (x.status ≡ Recovering → ResponsesKept x.known x.collected.responses) → (nonce : ℕ) (response : Response C)
      → (on_recovery_response {R = R} {O = O} choose x nonce response).ending ≡ Handled
      → ResponsesKept (greater x.known response.known) (after_response response x).collected.responses
  unfolding on_recovery_response
  response_keeps responses nonce response e =
      let known = greater x.known response.known in
      let a = past (not (is_recovering x.status)) _ _ e in
      let b = past (not (nonce == nonce_of x.cell)) _ _ a.1 in
      let c = past (is_outdated x.known response.from response.known) _ _ b.1 in
      let recovering = recovering_of x.status (not_false _ a.0) in
      let these = (learns response.known x).collected.responses in
      λ r in'. by_part (record { within = greater_right x.known response.known; current = came x.known response.known response.from c.0 })
      (λ q in''. (
      let there = filter-has _ these q in'' in
      let old = responses recovering q (filter-has _ x.collected.responses q there) in
      record {
        within = within-trans q.known x.known known old.within (greater_left x.known response.known);
        current = left x.known response.known q.from q.known (filter-passes _ x.collected.responses q there);
      })) r (Contains-append_cases (filter (λ old. not (old.from == response.from)) these) (response ∷ []) r in')
    where
      these : List (Response C)
      these = filter (λ old. not (old.from == response.from)) (learns response.known x).collected.responses

      of_this : IsKeptResponse (greater x.known response.known) response → (r : Response C) → (response ≡ r) ⊎ Contains [] r
          → IsKeptResponse (greater x.known response.known) r
      of_this this r (inl e) = subst (IsKeptResponse (greater x.known response.known)) e this
      of_this this r (inr none) = absurd (Contains-none r none)

      by_part : IsKeptResponse (greater x.known response.known) response
          → ((q : Response C) → Contains these q → IsKeptResponse (greater x.known response.known) q)
          → (r : Response C) → Contains these r ⊎ Contains (response ∷ []) r → IsKeptResponse (greater x.known response.known) r
      by_part this others r (inl in') = others r in'
      by_part this others r (inr in') = of_this this r (Contains-cases response r [] in')

  -- whatever message it is
  pub used_fresh : (x.status ≡ Recovering → ResponsesKept x.known x.collected.responses) → (actor : ℕ) (msg : MsgOf C R O) → is_down x.status ≡ false
      → (on_message choose f me x actor msg).ending ≡ Handled
      → AreFresh (λ vote. vote.from) (λ vote. vote.known) (votes_used f me x actor msg)
      × AreFresh (λ response. response.from) (λ response. response.known) (responses_used x actor msg)
  used_fresh responses actor (StartViewChange msg) up e =
      let h = start_keeps msg.view (record { from = site_of actor; known = msg.known }) up e in (
        fresh_by (λ vote. vote.from) (λ vote. vote.known) (greater x.known msg.known) _ (λ v in'. (h v in').within) (λ v in'. (h v in').current),
        none_fresh (λ response. response.from) (λ response. response.known),
      )
  used_fresh responses actor (DoViewChange msg) up e =
      let h = vote_keeps msg.view (record { from = site_of actor; last_normal = msg.last_normal; done = msg.done; log = msg.rows; known = msg.known }) up e in (
        fresh_by (λ vote. vote.from) (λ vote. vote.known) (greater x.known msg.known) _ (λ v in'. (h v in').within) (λ v in'. (h v in').current),
        none_fresh (λ response. response.from) (λ response. response.known),
      )
  used_fresh responses actor (RecoveryResponse msg) up e =
      let h = response_keeps responses msg.nonce (record { from = site_of actor; view = msg.view; state = msg.state; known = msg.known }) e in (
        none_fresh (λ vote. vote.from) (λ vote. vote.known),
        fresh_by (λ response. response.from) (λ response. response.known) (greater x.known msg.known) _
            (λ r in'. (h r in').within) (λ r in'. (h r in').current),
      )
  used_fresh responses actor _ up e = (none_fresh (λ vote. vote.from) (λ vote. vote.known), none_fresh (λ response. response.from) (λ response. response.known))

-- a message that is handled is not refused, and its site is up
pub message_taken : {C R O : Type 0} (choose : Choice C) (f me : ℕ) (x : Site C) (e : EnvelopeOf C R O) → (site_step choose f me x (Deliver e)).ending ≡ Handled
    → (is_down x.status ≡ false) × ((on_message choose f me x e.from e.msg).ending ≡ Handled)
message_taken {C} {R} {O} choose f me x e = by_tests (is_down x.status) (not (is_mine f me e))
  where
    by_tests : (a b : Bool)
        → (refused_or x (if a then Some NotUp else if b then Some NotMine else None) (on_message choose f me x e.from e.msg)).ending ≡ Handled
        → (a ≡ false) × ((on_message choose f me x e.from e.msg).ending ≡ Handled)
    by_tests true b h = absurd (cc)
    by_tests false true h = absurd (cc)
    by_tests false false h = (refl, h)
