-- Of the same actors no two verdicts of tests are right.
use Rattle.std.proofs.Common.{◌≡◌, ◌⊎◌, inl, inr, ℕ, ◌+◌, Bool, List, Option, slice_get, slice_index, refl, sym, ap, subst, ◌∙◌}
use Rattle.std.proofs.lemmas.Bool.{cases_order}
use Rattle.std.proofs.lemmas.Option.{slice_get_within}
use Rattle.pvp_rooms.specs.declared.message.Recorded.{Recorded}
use Rattle.pvp_rooms.specs.declared.actor.Actor.{Ghosts}
use Rattle.pvp_rooms.specs.declared.cell.Closed.{Closed}
use Rattle.pvp_rooms.specs.declared.verdict.Finding.{Finding}
use Rattle.pvp_rooms.specs.declared.verdict.Finding.TheVariants.{Yes, No}
use Rattle.pvp_rooms.specs.declared.verdict.AuditTest.{AuditTest}
use Rattle.pvp_rooms.specs.declared.verdict.AuditTest.TheVariants.{Stamped, Clock, Answered, End, Receipts, NoMemory}
use Rattle.pvp_rooms.specs.Runs.{Tagged, number_at, AreInOrder, IsLegal, Arrives, CanCome}
use Rattle.pvp_rooms.specs.Verdicts.{HoldOfAll, IsAlone, TestsPass, IsOneRun, HasRisingClocks, ClocksRise, FailsAlone, FailsAt, FailsEnd, CannotArrive, CannotCome, ClockFails, Means, MeansNo, MeansRun, MeansNoRun, IsOfTest, IsTested}
use Rattle.pvp_rooms.specs.Alone.{AloneNo}
use Rattle.pvp_rooms.specs.Merging.{HasFailed}
use Rattle.pvp_rooms.proofs.Order.{same_some}
use Rattle.pvp_rooms.proofs.Receiving.{received_not_fails, one_unreceived, rising_not_fails, one_unrisen}
use Rattle.pvp_rooms.proofs.OneFailing.{one_end, legal_could, earlier_could, past_ends, in_order}

no_is : (a b : ℕ) (e d : ℕ) (why other : AuditTest) → a ≡ b → e ≡ d → why ≡ other → No a e why ≡ No b d other
no_is a b e d why other p q r = λ i. No (p i) (q i) (r i)

-- THE TESTS OF AN ACTOR ALONE

module _ {A N E O : Type 0} (closed : List (Closed A N E O)) (passes : Closed A N E O → Type 0) where
  -- two that fail are one, where who fails does not pass
  one_alone : (a b : ℕ) (F G : Closed A N E O → Type 0) → ((c : Closed A N E O) → passes c → F c → ⊥) → ((c : Closed A N E O) → passes c → G c → ⊥)
      → FailsAlone passes closed a F → FailsAlone passes closed b G → (a ≡ b) × ((c : Closed A N E O) × F c × G c)
  one_alone a b F G not_f not_g f g = elim (cases_order f.place g.place) [
    | inl same ↦ (let who = same_some f.who g.who (sym f.is.is ∙ ap (slice_get closed) same ∙ g.is.is) in
        (sym f.is.number ∙ ap (λ (c : Closed A N E O). c.number) who ∙ g.is.number, (g.who, subst F who f.fails, g.fails)))
    | inr w ↦ elim w [
      | inl less ↦ absurd (not_f f.who (g.before f.place f.who f.is.is less) f.fails)
      | inr more ↦ absurd (not_g g.who (f.before g.place g.who g.is.is more) g.fails)
    ]
  ]

  none_alone : (a : ℕ) (F : Closed A N E O → Type 0) → ((c : Closed A N E O) → passes c → F c → ⊥) → HoldOfAll closed (λ _ c. passes c)
      → FailsAlone passes closed a F → ⊥
  none_alone a F not_f all f = not_f f.who (all f.place f.who f.is.is) f.fails

module _ {A N E O : Type 0} (closed : List (Closed A N E O)) where
  alone_alone : (a b e d : ℕ) (why other : AuditTest) → AloneNo closed a e why → AloneNo closed b d other → No a e why ≡ No b d other
  alone_alone a b e d Receipts Receipts p q =
      let one = one_alone closed IsAlone a b _ _ (λ c r f. received_not_fails c.seats.items c.history.items e r.receipts f)
      (λ c r f. received_not_fails c.seats.items c.history.items d r.receipts f) p q in
      no_is a b e d Receipts Receipts one.0 (one_unreceived one.1.0.seats.items one.1.0.history.items e d one.1.1 one.1.2) refl
  alone_alone a b e d Receipts Clock p q =
      let one = one_alone closed IsAlone a b _ _ (λ c r f. received_not_fails c.seats.items c.history.items e r.receipts f)
      (λ c r f. rising_not_fails c.history.items d r.clocks f.1) p q in
      absurd (received_not_fails one.1.0.seats.items one.1.0.history.items e one.1.2.0 one.1.1)
  alone_alone a b e d Clock Receipts p q =
      let one = one_alone closed IsAlone a b _ _ (λ c r f. rising_not_fails c.history.items e r.clocks f.1)
      (λ c r f. received_not_fails c.seats.items c.history.items d r.receipts f) p q in
      absurd (received_not_fails one.1.0.seats.items one.1.0.history.items d one.1.1.0 one.1.2)
  alone_alone a b e d Clock Clock p q =
      let one = one_alone closed IsAlone a b _ _ (λ c r f. rising_not_fails c.history.items e r.clocks f.1)
      (λ c r f. rising_not_fails c.history.items d r.clocks f.1) p q in
      no_is a b e d Clock Clock one.0 (one_unrisen one.1.0.history.items e d one.1.1.1 one.1.2.1) refl
  alone_alone a b e d Stamped other p q = absurd p
  alone_alone a b e d Answered other p q = absurd p
  alone_alone a b e d End other p q = absurd p
  alone_alone a b e d NoMemory other p q = absurd p
  alone_alone a b e d Receipts Stamped p q = absurd q
  alone_alone a b e d Receipts Answered p q = absurd q
  alone_alone a b e d Receipts End p q = absurd q
  alone_alone a b e d Receipts NoMemory p q = absurd q
  alone_alone a b e d Clock Stamped p q = absurd q
  alone_alone a b e d Clock Answered p q = absurd q
  alone_alone a b e d Clock End p q = absurd q
  alone_alone a b e d Clock NoMemory p q = absurd q

  all_alone : (a e : ℕ) (why : AuditTest) → HoldOfAll closed (λ _ c. IsAlone c) → AloneNo closed a e why → ⊥
  all_alone a e Receipts all p = none_alone closed IsAlone a _ (λ c r f. received_not_fails c.seats.items c.history.items e r.receipts f) all p
  all_alone a e Clock all p = none_alone closed IsAlone a _ (λ c r f. rising_not_fails c.history.items e r.clocks f.1) all p
  all_alone a e Stamped all p = p
  all_alone a e Answered all p = p
  all_alone a e End all p = p
  all_alone a e NoMemory all p = p

  clocks_of : HoldOfAll closed (λ _ c. IsAlone c) → ClocksRise closed
  clocks_of all j c is = (all j c is).clocks

module _ {A N E O L : Type 0} (m : Ghosts A N E O) (delivers : E → Option L) (sent : O → List L) (is_for : A → E → Bool) (closed : List (Closed A N E O))
    (start : ℕ → m.State) (order : AreInOrder closed) where
  -- THE TESTS OF THE MERGED LIST

  module _ (clocks : ClocksRise closed) where
    abbrev Comes : List (Tagged E O) → ℕ → Recorded E O → Type 0
    Comes past place what = CanCome m delivers sent is_for closed start past (record { by = place; what = what })

    abbrev Fails : ℕ → ℕ → (Closed A N E O → List (Tagged E O) → Tagged E O → Type 0) → Type 0
    Fails place event failing = FailsAt m delivers sent is_for closed start place event failing

    module _ (p q e d : ℕ) (F G : Closed A N E O → List (Tagged E O) → Tagged E O → Type 0) (f : Fails p e F) (g : Fails q d G)
        (never_f : Comes f.past p f.what → ⊥) (never_g : Comes g.past q g.what → ⊥) where
      abbrev Together : Type 0
      Together = (p ≡ q) × (e ≡ d) × (f.who ≡ g.who) × (f.past ≡ g.past) × (f.what ≡ g.what)

      one_place : Together
      one_place =
          elim (in_order m delivers sent is_for closed start order clocks p q f.who g.who f.is g.is f.what g.what f.past g.past f.at g.at f.next
          g.next f.reached g.reached) [
            | inl before
                ↦ absurd
                (never_f (earlier_could m delivers sent is_for closed start order clocks p q f.who g.who f.is g.is f.what g.what f.past g.past f.at g.at f.next
                g.next f.reached g.reached before))
            | inr w ↦ elim w [
              | inl after
                  ↦ absurd
                  (never_g (earlier_could m delivers sent is_for closed start order clocks q p g.who f.who g.is f.is g.what f.what
                  g.past f.past g.at f.at g.next
                  f.next g.reached f.reached after))
              | inr same ↦ together same.0 same.1 same.2
            ]
          ]
        where
          together : p ≡ q → f.what ≡ g.what → slice_index f.at p ≡ slice_index g.at q → Together
          together place what index =
              let there =
              past_ends m delivers sent is_for closed start order clocks p q f.who g.who f.is g.is f.what g.what f.past g.past f.at g.at f.next
              g.next f.reached g.reached
              (λ i. record { by = place i; what = what i }) in
              let back =
              past_ends m delivers sent is_for closed start order clocks q p g.who f.who g.is f.is g.what f.what g.past f.past g.at f.at g.next
              f.next g.reached f.reached
              (λ i. record { by = sym place i; what = sym what i }) in (
                place,
                f.count ∙ ap (λ n. n + 1) index ∙ sym g.count,
                same_some f.who g.who (sym f.is ∙ ap (slice_get closed) place ∙ g.is),
                one_end f.past g.past back.0 there.0 back.1 there.1,
                what,
              )

    never_stamped : (p e : ℕ) (f : Fails p e (CannotArrive delivers sent is_for closed)) → Comes f.past p f.what → ⊥
    never_stamped p e f can =
        f.fails (subst (λ (c : Closed A N E O). Arrives delivers sent is_for closed f.past c.end f.what)
        (same_some can.who f.who (sym can.is ∙ f.is)) can.arrives)

    never_answered : (p e : ℕ) (f : Fails p e (CannotCome m delivers sent is_for closed start)) → Comes f.past p f.what → ⊥
    never_answered p e f can = f.fails.1 can.comes

    not_both : (p q e d : ℕ) (f : Fails p e (CannotArrive delivers sent is_for closed)) (g : Fails q d (CannotCome m delivers sent is_for closed start)) → ⊥
    not_both p q e d f g =
        let same = one_place p q e d _ _ f g (never_stamped p e f) (never_answered q d g) in
        f.fails (subst (λ (c : Closed A N E O). Arrives delivers sent is_for closed f.past c.end f.what) (sym same.2)
        (subst (λ (past : List (Tagged E O)). Arrives delivers sent is_for closed past g.who.end f.what) (sym same.3)
        (subst (λ (r : Recorded E O). Arrives delivers sent is_for closed g.past g.who.end r) (sym same.4) g.fails.0)))

    failed_failed : (p q e d : ℕ) (why other : AuditTest) → HasFailed m delivers sent is_for closed start p e why
        → HasFailed m delivers sent is_for closed start q d other
        → No (number_at closed p) e why ≡ No (number_at closed q) d other
    failed_failed p q e d Stamped Stamped f g =
        let same = one_place p q e d _ _ f g (never_stamped p e f) (never_stamped q d g) in
        no_is _ _ e d Stamped Stamped (ap (number_at closed) same.0) same.1 refl
    failed_failed p q e d Answered Answered f g =
        let same = one_place p q e d _ _ f g (never_answered p e f) (never_answered q d g) in
        no_is _ _ e d Answered Answered (ap (number_at closed) same.0) same.1 refl
    failed_failed p q e d Stamped Answered f g = absurd (not_both p q e d f g)
    failed_failed p q e d Answered Stamped f g = absurd (not_both q p d e g f)
    failed_failed p q e d Receipts other f g = absurd f
    failed_failed p q e d Clock other f g = absurd f
    failed_failed p q e d End other f g = absurd f
    failed_failed p q e d NoMemory other f g = absurd f
    failed_failed p q e d Stamped Receipts f g = absurd g
    failed_failed p q e d Stamped Clock f g = absurd g
    failed_failed p q e d Stamped End f g = absurd g
    failed_failed p q e d Stamped NoMemory f g = absurd g
    failed_failed p q e d Answered Receipts f g = absurd g
    failed_failed p q e d Answered Clock f g = absurd g
    failed_failed p q e d Answered End f g = absurd g
    failed_failed p q e d Answered NoMemory f g = absurd g

    legal_failed : (p e : ℕ) (why : AuditTest) → IsLegal m delivers sent is_for closed start → HasFailed m delivers sent is_for closed start p e why → ⊥
    legal_failed p e Stamped legal f =
        never_stamped p e f (legal_could m delivers sent is_for closed start order clocks p f.who f.is f.what f.past f.at f.next f.reached legal)
    legal_failed p e Answered legal f =
        never_answered p e f (legal_could m delivers sent is_for closed start order clocks p f.who f.is f.what f.past f.at f.next f.reached legal)
    legal_failed p e Receipts legal f = f
    legal_failed p e Clock legal f = f
    legal_failed p e End legal f = f
    legal_failed p e NoMemory legal f = f

  -- THE ENDS

  one_end_fails : (a b : ℕ) → FailsEnd m delivers sent is_for closed start a → FailsEnd m delivers sent is_for closed start b → a ≡ b
  one_end_fails a b f g = elim (cases_order f.place g.place) [
    | inl same ↦ sym f.number ∙ ap (number_at closed) same ∙ g.number
    | inr w ↦ elim w [
      | inl less ↦ absurd (f.unlike.unlike (g.unlike.before f.place f.unlike.who f.unlike.is less))
      | inr more ↦ absurd (g.unlike.unlike (f.unlike.before g.place g.unlike.who g.unlike.is more))
    ]
  ]

  -- ALL TESTS

  -- a test of the merged list fails at an event of this actor
  record Merged (passes : Closed A N E O → Type 0) (actor event : ℕ) (why : AuditTest) : Type 0 where
    pub alone : HoldOfAll closed (λ _ c. passes c)
    pub place : ℕ
    pub number : number_at closed place ≡ actor
    pub failed : HasFailed m delivers sent is_for closed start place event why

  abbrev Ended : ℕ → ℕ → AuditTest → Type 0
  Ended actor event why = (why ≡ End) × (event ≡ 0) × FailsEnd m delivers sent is_for closed start actor

  -- a No is of an actor alone, of the merged list or of the ends
  kinds : (a e : ℕ) (why : AuditTest) → IsOfTest why → MeansNo m delivers sent is_for closed start a e why
      → AloneNo closed a e why ⊎ (Merged IsAlone a e why ⊎ Ended a e why)
  kinds a e Receipts is f = inl f
  kinds a e Clock is f = inl f
  kinds a e Stamped is f = inr (inl (record { alone = f.alone; place = f.place; number = f.number; failed = f.fails }))
  kinds a e Answered is f = inr (inl (record { alone = f.alone; place = f.place; number = f.number; failed = f.fails }))
  kinds a e End is f = inr (inr (refl, f.0, f.1))
  kinds a e NoMemory is f = absurd is

  merged_merged : (passes : Closed A N E O → Type 0) → (HoldOfAll closed (λ _ c. passes c) → ClocksRise closed) → (a b e d : ℕ) (why other : AuditTest)
      → Merged passes a e why → Merged passes b d other → No a e why ≡ No b d other
  merged_merged passes clocks a b e d why other f g =
      let same = failed_failed (clocks f.alone) f.place g.place e d why other f.failed g.failed in
      no_is a (number_at closed f.place) e e why why (sym f.number) refl refl ∙ same ∙ no_is (number_at closed g.place) b d d other other g.number refl refl

  no_no : (a b e d : ℕ) (why other : AuditTest) → AloneNo closed a e why ⊎ (Merged IsAlone a e why ⊎ Ended a e why)
      → AloneNo closed b d other ⊎ (Merged IsAlone b d other ⊎ Ended b d other) → No a e why ≡ No b d other
  no_no a b e d why other (inl f) (inl g) = alone_alone closed a b e d why other f g
  no_no a b e d why other (inl f) (inr (inl g)) = absurd (all_alone closed a e why g.alone f)
  no_no a b e d why other (inl f) (inr (inr g)) = absurd (all_alone closed a e why g.2.alone f)
  no_no a b e d why other (inr (inl f)) (inl g) = absurd (all_alone closed b d other f.alone g)
  no_no a b e d why other (inr (inr f)) (inl g) = absurd (all_alone closed b d other f.2.alone g)
  no_no a b e d why other (inr (inl f)) (inr (inl g)) = merged_merged IsAlone (clocks_of closed) a b e d why other f g
  no_no a b e d why other (inr (inl f)) (inr (inr g)) = absurd (legal_failed (clocks_of closed f.alone) f.place e why g.2.legal f.failed)
  no_no a b e d why other (inr (inr f)) (inr (inl g)) = absurd (legal_failed (clocks_of closed g.alone) g.place d other f.2.legal g.failed)
  no_no a b e d why other (inr (inr f)) (inr (inr g)) = no_is a b e d why other (one_end_fails a b f.2 g.2) (f.1 ∙ sym g.1) (f.0 ∙ sym g.0)

  all_of : TestsPass m delivers sent is_for closed start → HoldOfAll closed (λ _ c. IsAlone c)
  all_of sound j c is = record { receipts = sound.receipts j c is; clocks = sound.run.clocks j c is }

  yes_no : (a e : ℕ) (why : AuditTest) → TestsPass m delivers sent is_for closed start → AloneNo closed a e why ⊎ (Merged IsAlone a e why ⊎ Ended a e why) → ⊥
  yes_no a e why sound (inl f) = all_alone closed a e why (all_of sound) f
  yes_no a e why sound (inr (inl f)) = legal_failed sound.run.clocks f.place e why sound.run.legal f.failed
  yes_no a e why sound (inr (inr f)) =
      let u = f.2.unlike in
      u.unlike (sound.ends f.2.place u.who u.is (slice_get_within closed f.2.place u.who u.is))

  pub one_verdict : (a b : Finding) → IsTested a → IsTested b → Means m delivers sent is_for closed start a → Means m delivers sent is_for closed start b
      → a ≡ b
  one_verdict Yes Yes p q f g = refl
  one_verdict Yes (No b d other) p q f g = absurd (yes_no b d other f (kinds b d other q g))
  one_verdict (No a e why) Yes p q f g = absurd (yes_no a e why g (kinds a e why p f))
  one_verdict (No a e why) (No b d other) p q f g = no_no a b e d why other (kinds a e why p f) (kinds b d other q g)

  -- OF HISTORIES ALONE

  run_kinds : (a e : ℕ) (why : AuditTest) → MeansNoRun m delivers sent is_for closed start a e why
      → ((why ≡ Clock) × FailsAlone HasRisingClocks closed a (λ c. ClockFails c.history.items e)) ⊎ Merged HasRisingClocks a e why
  run_kinds a e Clock f = inl (refl, f)
  run_kinds a e Stamped f = inr (record { alone = f.alone; place = f.place; number = f.number; failed = f.fails })
  run_kinds a e Answered f = inr (record { alone = f.alone; place = f.place; number = f.number; failed = f.fails })
  run_kinds a e Receipts f = absurd f
  run_kinds a e End f = absurd f
  run_kinds a e NoMemory f = absurd f

  none_unrisen : (a e : ℕ) → ClocksRise closed → FailsAlone HasRisingClocks closed a (λ c. ClockFails c.history.items e) → ⊥
  none_unrisen a e clocks f = none_alone closed HasRisingClocks a _ (λ c r f. rising_not_fails c.history.items e r f) clocks f

  run_no_no : (a b e d : ℕ) (why other : AuditTest)
      → ((why ≡ Clock) × FailsAlone HasRisingClocks closed a (λ c. ClockFails c.history.items e)) ⊎ Merged HasRisingClocks a e why
      → ((other ≡ Clock) × FailsAlone HasRisingClocks closed b (λ c. ClockFails c.history.items d)) ⊎ Merged HasRisingClocks b d other
      → No a e why ≡ No b d other
  run_no_no a b e d why other (inl f) (inl g) =
      let one =
      one_alone closed HasRisingClocks a b _ _ (λ c r f. rising_not_fails c.history.items e r f)
      (λ c r f. rising_not_fails c.history.items d r f) f.1 g.1 in
      no_is a b e d why other one.0 (one_unrisen one.1.0.history.items e d one.1.1 one.1.2) (f.0 ∙ sym g.0)
  run_no_no a b e d why other (inl f) (inr g) = absurd (none_unrisen a e g.alone f.1)
  run_no_no a b e d why other (inr f) (inl g) = absurd (none_unrisen b d f.alone g.1)
  run_no_no a b e d why other (inr f) (inr g) = merged_merged HasRisingClocks (λ all. all) a b e d why other f g

  run_yes_no : (a e : ℕ) (why : AuditTest) → IsOneRun m delivers sent is_for closed start
      → ((why ≡ Clock) × FailsAlone HasRisingClocks closed a (λ c. ClockFails c.history.items e)) ⊎ Merged HasRisingClocks a e why → ⊥
  run_yes_no a e why run (inl f) = none_unrisen a e run.clocks f.1
  run_yes_no a e why run (inr f) = legal_failed run.clocks f.place e why run.legal f.failed

  pub one_verdict_of_run : (a b : Finding) → MeansRun m delivers sent is_for closed start a → MeansRun m delivers sent is_for closed start b → a ≡ b
  one_verdict_of_run Yes Yes f g = refl
  one_verdict_of_run Yes (No b d other) f g = absurd (run_yes_no b d other f (run_kinds b d other g))
  one_verdict_of_run (No a e why) Yes f g = absurd (run_yes_no a e why g (run_kinds a e why f))
  one_verdict_of_run (No a e why) (No b d other) f g = run_no_no a b e d why other (run_kinds a e why f) (run_kinds b d other g)
