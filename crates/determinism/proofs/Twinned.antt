-- Two players whose worlds came the same way go on the same way, line by line, where nothing hinders them.
use Rattle.std.proofs.Common.{◌≡◌, ℕ, zero, suc, ◌+◌, ◌-◌, ◌*◌, ◌/◌, ◌%◌, ◌==◌, Bool, true, false, nat_lt, nat_le, min, if◌then◌else◌, List, [], ◌∷◌, ◌++◌, length, take, replicate, slice_get, Option, Some, None, unwrap_or, refl, sym, ap, ◌∙◌, subst}
use Rattle.std.specs.Prelude.{◌&&◌}
use Rattle.std.specs.List.{list_all, range_with_len}
use Rattle.std.specs.Option.{option_map_or}
use Rattle.pvp_types.specs.declared.setup.Setup.{Setup}
use Rattle.pvp_types.specs.declared.command.Cmd.{Cmd}
use Rattle.pvp_types.specs.declared.step.Step.{Step}
use Rattle.pvp_types.specs.declared.step.Step.TheVariants as steps
use Rattle.vr_types.specs.declared.cell.Boot.{Boot}
use Rattle.vr_types.specs.declared.cell.BootCell.{Ghosts as Cell}
use Rattle.vr_types.specs.declared.event.EventOf.TheVariants.{Beat}
use Rattle.vr_types.specs.Site.{Site, is_normal}
use Rattle.vr_site.specs.Replica.{ShownSite}
use Rattle.rtgs_node.specs.Node.{Envelope}
use Rattle.rtgs_node.specs.declared.event.NodeEvent.TheVariants as node_event
use Rattle.headline.specs.declared.step.ClientEvent.TheVariants as client_event
use Rattle.headline.specs.declared.step.Turn.{Turn}
use Rattle.headline.specs.declared.step.Turn.TheVariants.{OfSite, OfNode, OfClient}
use Rattle.headline.specs.Bank.{Bank, turn_of}
use Rattle.headline.proofs.Basics.{none-some}
use Rattle.pvp_world.specs.declared.fault.WorldFault.{WorldFault}
use Rattle.pvp_world.specs.declared.fault.WorldFault.TheVariants.{NoSuchActor}
use Rattle.pvp_world.specs.World.{ShownWorld, IsSite, IsAt}
use Rattle.pvp_world.specs.Steps.{has_actor, has_number}
use Rattle.pvp_trace.specs.declared.attempt.Attempt.{Attempt}
use Rattle.pvp_play.specs.declared.chaos.Act.{Act}
use Rattle.pvp_play.specs.declared.chaos.Act.TheVariants as act
use Rattle.pvp_play.specs.Chaos as chaos
use Rattle.pvp_play.specs.Chaos.{TakesTurn, next_act, act_of, table, are_normal, is_normal_at}
use Rattle.pvp_play.specs.Notes.{with_notes}
use Rattle.pvp_play.specs.Player.{Position, Tries, Drains, open_after, after_skip, cursor_after, refusal_in, cut_off, cut_without, with_cut, unknown_actor}
use Rattle.pvp_play.specs.Turns.{Turns}
use Rattle.rand_pcg.specs.Lcg.{Lcg}
use Rattle.rand_pcg.specs.Pcg.{pcg32}
use Rattle.determinism.specs.Unhindered.{is_hindered, AreFree}
use Rattle.determinism.specs.Twins.{AreTwins, AreTwinPlayers}
use Rattle.determinism.specs.Plays.{ActIsFree, TurnsAreFree}
use Rattle.determinism.proofs.Outcome.{twin-bank, twin-post, attempt-once}
use Rattle.determinism.proofs.Drained.{drain-twins}
use Rattle.pvp_world.proofs.Refused.{within}

module _ {B : Type 0} (c : Cell B) where
  -- WHAT THE TWO WORLDS HAVE ALIKE
  module _ (a b : ShownWorld B) (twins : AreTwins c.held a b) where
    site-count : length a.sites ≡ length b.sites
    site-count = twins.one_at.shows.sites.count ∙ ap (λ (k : Bank). length k.sites) (twin-bank c.held a b twins) ∙ sym twins.other_at.shows.sites.count

    node-count : length a.nodes ≡ length b.nodes
    node-count = twins.one_at.shows.nodes.count ∙ ap (λ (k : Bank). length k.nodes) (twin-bank c.held a b twins) ∙ sym twins.other_at.shows.nodes.count

    client-count : length a.clients ≡ length b.clients
    client-count = twins.one_at.shows.clients.count ∙ ap (λ (k : Bank). length k.clients) (twin-bank c.held a b twins) ∙ sym twins.other_at.shows.clients.count

    actor-too : (t : Turn) → has_actor a t ≡ has_actor b t
    actor-too (OfSite i event) = ap (λ n. nat_lt i n) site-count
    actor-too (OfNode i event) = ap (λ n. nat_lt i n) node-count
    actor-too (OfClient i event) = ap (λ n. nat_lt i n) client-count

    number-too : (actor : ℕ) → has_number a actor ≡ has_number b actor
    number-too actor = actor-too (turn_of actor Beat node_event.Beats client_event.Beats)

  -- whether a site is normal is the bank's
  normal-shown : (w : ShownWorld B) (at : IsAt c.held w) (i : ℕ)
      → is_normal_at w i ≡ option_map_or (λ (x : Site Cmd). is_normal x.status) (slice_get at.list.bank.sites i) false
  normal-shown w at i = by (slice_get w.sites i) (slice_get at.list.bank.sites i) refl refl
    where
      by : (o : Option (ShownSite Cmd Setup B)) (p : Option (Site Cmd)) → slice_get w.sites i ≡ o → slice_get at.list.bank.sites i ≡ p
          → option_map_or (λ v. is_normal v.volatile.status) o false ≡ option_map_or (λ (x : Site Cmd). is_normal x.status) p false
      by None None e d = refl
      by None (Some x) e d = let v = within at.list.bank.sites w.sites i x (sym at.shows.sites.count) d in absurd (none-some v.0 (sym e ∙ v.1))
      by (Some v) None e d = let x = within w.sites at.list.bank.sites i v at.shows.sites.count e in absurd (none-some x.0 (sym d ∙ x.1))
      by (Some v) (Some x) e d = ap (λ (y : Site Cmd). is_normal y.status) (sym (at.shows.sites.each i v x e d).site)

  all-same : (f g : ℕ → Bool) (ns : List ℕ) → ((n : ℕ) → f n ≡ g n) → list_all f ns ≡ list_all g ns
  all-same f g [] same = refl
  all-same f g (n ∷ ns) same = ap (λ (o : Bool). o && list_all f ns) (same n) ∙ ap (λ (o : Bool). g n && o) (all-same f g ns same)

  normal-too : (a b : ShownWorld B) (twins : AreTwins c.held a b) → are_normal a ≡ are_normal b
  normal-too a b twins =
      all-same (is_normal_at a) (is_normal_at b) (range_with_len 0 a.setup.sites)
      (λ i. normal-shown a twins.one_at i ∙ ap (λ (k : Bank). option_map_or (λ (x : Site Cmd). is_normal x.status) (slice_get k.sites i) false)
      (twin-bank c.held a b twins) ∙ sym (normal-shown b twins.other_at i))
      ∙ ap (λ (s : Setup). list_all (is_normal_at b) (range_with_len 0 s.sites)) twins.setup

  -- the table of chaos is of a setup, the length of a post, and whether all sites are normal
  table_with : Setup → ℕ → Bool → ℕ → List Act
  table_with setup sent normal b =
      replicate 16 act.Drains
      ++ replicate 4 (if sent == 0 then act.Rests else act.Tries (steps.Deliver (1 + (b % sent))))
      ++ act.Skips ∷ []
      ++ replicate 3 (act.Tries (steps.Beat (chaos.any_actor setup b)))
      ++ act.Tries (chaos.any_pay_in setup b)
      ∷ act.Tries (chaos.any_pay_out setup b)
      ∷ act.Tries (chaos.any_instruction setup b)
      ∷ act.Tries (chaos.any_rescission setup b)
      ∷ act.Tries (chaos.any_settlement b)
      ∷ chaos.any_timer setup b
      ∷ (if normal then act.Tries (steps.Crash (b % setup.sites)) else act.Rests)
      ∷ act.Tries (steps.Restart (b % setup.sites))
      ∷ []

  act-too : (a b : ShownWorld B) (twins : AreTwins c.held a b) (words : Lcg) → next_act a words ≡ next_act b words
  unfolding table_with
  act-too a b twins words =
      let first = (pcg32 words).0 in
      let second = (pcg32 (pcg32 words).1).0 in
      let of : Setup → ℕ → Bool → Act = λ setup sent normal. unwrap_or (slice_get (table_with setup sent normal second) (first % 32)) act.Rests in
      ap (λ (s : Setup). of s (length a.post) (are_normal a)) twins.setup
      ∙ ap (λ (es : List Envelope). of b.setup (length es) (are_normal a)) (twin-post c.held a b twins)
      ∙ ap (λ (o : Bool). of b.setup (length b.post) o) (normal-too a b twins)

  -- WHAT THE TWO PLAYERS DO

  pub record OneTold (one other : Option WorldFault) (p q : Position B) : Type 0 where
    pub told : one ≡ other
    pub twins : AreTwinPlayers c.held p q

  module _ (p q : Position B) (twins : AreTwinPlayers c.held p q) where
    pub tries-too : (p' q' : Position B) (step : Step) (told other : Option WorldFault) (x : Tries c p p' step told) (y : Tries c q q' step other)
        → is_hindered x.attempt.result ≡ false → is_hindered y.attempt.result ≡ false → OneTold told other p' q'
    tries-too p' q' step told other x y free too =
        let once = attempt-once c.held p.world q.world twins.worlds p'.world q'.world step x.attempt y.attempt x.tried.attempts y.tried.attempts free too in
        record {
          told = x.is_told ∙ ap (λ (t : Attempt). refusal_in t.result) once.0 ∙ sym y.is_told;
          twins = record {
            worlds = once.1;
            cursor = x.cursor ∙ twins.cursor ∙ sym y.cursor;
            cut = x.cut ∙ twins.cut ∙ sym y.cut;
            noted =
                x.noted ∙ ap (λ (t : Attempt). with_notes p.noted (t ∷ [])) once.0 ∙ ap (λ (n : Option (List Attempt)). with_notes n (y.attempt ∷ []))
                twins.noted ∙ sym y.noted;
          };
        }

    pub drains-too : (p' q' : Position B) (turns : ℕ) (x : Drains c turns p p') (y : Drains c turns q q') → AreFree x.attempts → AreFree y.attempts
        → AreTwinPlayers c.held p' q'
    drains-too p' q' turns x y free too =
        let once = drain-twins c turns p.cut p.cursor p.world q.world p'.world q'.world x.delivered y.delivered x.attempts y.attempts twins.worlds x.which
        (y.which ∙ ap (λ (cut : List ℕ). take turns (open_after cut q.cursor q'.world.post)) (sym twins.cut)
        ∙ ap (λ (n : ℕ). take turns (open_after p.cut n q'.world.post)) (sym twins.cursor))
        x.are_delivered y.are_delivered free too in
        record {
          worlds = once.twins;
          cursor = x.cursor ∙ ap (λ (ns : List ℕ). cursor_after turns ns p.cursor (length p'.world.post)) once.which
              ∙ ap (λ (n : ℕ). cursor_after turns y.delivered n (length p'.world.post)) twins.cursor
              ∙ ap (λ (es : List Envelope). cursor_after turns y.delivered q.cursor (length es)) (twin-post c.held p'.world q'.world once.twins) ∙ sym y.cursor;
          cut = x.cut ∙ twins.cut ∙ sym y.cut;
          noted =
              x.noted ∙ ap (λ (ts : List Attempt). with_notes p.noted ts) once.attempts ∙ ap
              (λ (n : Option (List Attempt)). with_notes n y.attempts) twins.noted ∙ sym y.noted;
        }

    pub skips-too : (n : ℕ) → AreTwinPlayers c.held (after_skip p n) (after_skip q n)
    skips-too n = record {
      worlds = twins.worlds;
      cursor =
          ap (λ (k : ℕ). min (k + n) (length p.world.post)) twins.cursor ∙ ap (λ (es : List Envelope). min (q.cursor + n) (length es))
          (twin-post c.held p.world q.world twins.worlds);
      cut = twins.cut;
      noted = twins.noted;
    }

    pub cuts-too : (actor : ℕ) (cut other : List ℕ) → cut ≡ other → AreTwinPlayers c.held (with_cut p actor cut) (with_cut q actor other)
    cuts-too actor cut other same =
        subst (λ (o : Bool). AreTwinPlayers c.held (with_cut p actor cut) (if o then record q { cut = other } else q))
        (number-too p.world q.world twins.worlds actor) (by (has_number p.world actor))
      where
        by : (o : Bool) → AreTwinPlayers c.held (if o then record p { cut = cut } else p) (if o then record q { cut = other } else q)
        by true = record { worlds = twins.worlds; cursor = twins.cursor; cut = same; noted = twins.noted }
        by false = twins

    pub unknown-too : (actor : ℕ) → unknown_actor p actor ≡ unknown_actor q actor
    unknown-too actor = ap (λ (o : Bool). if o then None else Some NoSuchActor) (number-too p.world q.world twins.worlds actor)

    acts-too : (a : Act) (p' q' : Position B) (x : chaos.Does c a p p') (y : chaos.Does c a q q') → ActIsFree c a p p' x → ActIsFree c a q q' y
        → AreTwinPlayers c.held p' q'
    acts-too act.Drains p' q' x y free too = drains-too p' q' 1 x y free too
    acts-too act.Skips p' q' x y free too =
        subst (λ r. AreTwinPlayers c.held r q') (sym x) (subst (λ r. AreTwinPlayers c.held (after_skip p 1) r) (sym y) (skips-too 1))
    acts-too (act.Tries step) p' q' x y free too = (tries-too p' q' step x.0 y.0 x.1 y.1 free too).twins
    acts-too act.Rests p' q' x y free too = subst (λ r. AreTwinPlayers c.held r q') (sym x) (subst (λ r. AreTwinPlayers c.held p r) (sym y) twins)

  -- turns of chaos draw the same words and do the same
  pub turns-too : (n : ℕ) (first other last too : Lcg × Position B) → first.0 ≡ other.0 → AreTwinPlayers c.held first.1 other.1
      → (x : Turns (TakesTurn c) n first last) (y : Turns (TakesTurn c) n other too) → TurnsAreFree c n first last x → TurnsAreFree c n other too y
      → (last.0 ≡ too.0) × AreTwinPlayers c.held last.1 too.1
  turns-too zero first other last too words twins x y free free' = (
    ap (λ (s : Lcg × Position B). s.0) x ∙ words ∙ sym (ap (λ (s : Lcg × Position B). s.0) y),
    subst (λ (s : Lcg × Position B). AreTwinPlayers c.held s.1 too.1) (sym x)
        (subst (λ (s : Lcg × Position B). AreTwinPlayers c.held first.1 s.1) (sym y) twins),
  )
  turns-too (suc n) first other last too words twins x y free free' =
      let before = turns-too n first other x.0 y.0 words twins x.1 y.1 free.0 free'.0 in
      let same : next_act x.0.1.world x.0.0 ≡ next_act y.0.1.world y.0.0 =
      ap (next_act x.0.1.world) before.0 ∙ act-too x.0.1.world y.0.1.world before.1.worlds y.0.0 in (
        x.2.0 ∙ ap (λ (w : Lcg). (pcg32 (pcg32 w).1).1) before.0 ∙ sym y.2.0,
        subst (λ (a : Act). (d : chaos.Does c a y.0.1 too.1) → ActIsFree c a y.0.1 too.1 d → AreTwinPlayers c.held last.1 too.1) same
            (λ d free''. acts-too x.0.1 y.0.1 before.1 (next_act x.0.1.world x.0.0) last.1 too.1 x.2.1 d free.1 free'') y.2.1 free'.1,
      )
