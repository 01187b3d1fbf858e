-- Which case of a rule it is.
use Rattle.std.proofs.Common.{◌≡◌, ◌≢◌, ℕ, ◌+◌, ◌<◌, ◌≤◌, ◌==◌, ◌||◌, [], ◌∷◌, ◌++◌, length, take, Bool, true, false, nat_lt, if◌then◌else◌, refl, ap, ◌∙◌, eq-eqb}
use Rattle.std.proofs.lemmas.Bool.{lt-ltb, le-ltb, ne_eqb}
use Rattle.vr_types.specs.declared.event.Why.TheVariants.{Full, Status, View, NotPrimary}
use Rattle.vr_types.specs.declared.limits.TheConstants.{MAX_ROWS}
use Rattle.vr_types.specs.declared.message.MsgOf.TheVariants.{Prepare}
use Rattle.vr_types.specs.declared.message.PrepareOf.{PrepareOf}
use Rattle.vr_types.specs.declared.message.Commit.{Commit as CommitMsg}
use Rattle.vr_types.specs.declared.message.PrepareOk.{PrepareOk as PrepareOkMsg}
use Rattle.vr_types.specs.declared.row.RowOf.{RowOf}
use Rattle.vr_types.specs.Choice.{Choice}
use Rattle.vr_types.specs.Group.{primary, to_all}
use Rattle.vr_types.specs.Normal.{on_request, appends, answers_again, with_row, with_next, on_prepare, prepares, on_commit, on_prepare_ok, with_ack}
use Rattle.vr_types.specs.Rows.{last_of, newest}
use Rattle.vr_types.specs.Site.{Site, is_normal, is_change, is_recovering}
use Rattle.vr_types.specs.Step.{Step, drops, does, executed_to, asks_state, acknowledges_all, executes_and_answers}

module _ {C R O : Type 0} (f me : ℕ) (x : Site C) where
  pub on_request-status : (row : RowOf C) → is_normal x.status ≡ false → ◌≡◌ {A = Step C R O} (on_request f me x row) (drops x Status)
  unfolding on_request
  on_request-status row e = rw e

  pub on_request-backup : (row : RowOf C) → is_normal x.status ≡ true → (primary f x.view == me) ≡ false
      → ◌≡◌ {A = Step C R O} (on_request f me x row) (drops x NotPrimary)
  unfolding on_request
  on_request-backup row e p = rw (e, p)

  pub on_request-new : (row : RowOf C) → is_normal x.status ≡ true → (primary f x.view == me) ≡ true → newest x.log row.client < row.number
      → ◌≡◌ {A = Step C R O} (on_request f me x row) (appends f me x row)
  unfolding on_request
  on_request-new row e p new = rw (e, p, lt-ltb _ _ new)

  pub on_request-old : (row : RowOf C) → is_normal x.status ≡ true → (primary f x.view == me) ≡ true → row.number ≤ newest x.log row.client
      → ◌≡◌ {A = Step C R O} (on_request f me x row) (answers_again x row.number (newest x.log row.client) (last_of (take x.done x.log) row.client))
  unfolding on_request
  on_request-old row e p old = rw (e, p, le-ltb _ _ old)

  pub appends-full : (row : RowOf C) → length x.log ≡ MAX_ROWS → ◌≡◌ {A = Step C R O} (appends f me x row) (drops x Full)
  appends-full row full = rw (eq-eqb _ _ full)

  pub appends-room : (row : RowOf C) → length x.log ≢ MAX_ROWS
      → ◌≡◌ {A = Step C R O} (appends f me x row)
      (does (with_row row x) (to_all f me (Prepare (record { view = x.view; place = length x.log + 1; done = x.done; row = row }))))
  appends-room row room = rw (ne_eqb _ _ room)

  pub on_prepare-leader : (from : ℕ) (msg : PrepareOf C) → (primary f msg.view == from) ≡ false
      → ◌≡◌ {A = Step C R O} (on_prepare f me x from msg) (drops x NotPrimary)
  unfolding on_prepare
  on_prepare-leader from msg p = rw p

  pub on_prepare-view : (from : ℕ) (msg : PrepareOf C) → (primary f msg.view == from) ≡ true → is_recovering x.status ≡ false → msg.view < x.view
      → ◌≡◌ {A = Step C R O} (on_prepare f me x from msg) (drops x View)
  unfolding on_prepare
  on_prepare-view from msg p e old = rw (p, e, lt-ltb _ _ old)

  pub on_prepare-later : (from : ℕ) (msg : PrepareOf C) → (primary f msg.view == from) ≡ true → is_recovering x.status ≡ false → x.view ≤ msg.view
      → (nat_lt x.view msg.view || is_change x.status) ≡ true
      → ◌≡◌ {A = Step C R O} (on_prepare f me x from msg) (does x (asks_state f me msg.view x.done))
  unfolding on_prepare
  on_prepare-later from msg p e new later = rw (p, e, le-ltb _ _ new, later)

  pub on_prepare-here : (from : ℕ) (msg : PrepareOf C) → (primary f msg.view == from) ≡ true → is_recovering x.status ≡ false → x.view ≤ msg.view
      → (nat_lt x.view msg.view || is_change x.status) ≡ false
      → ◌≡◌ {A = Step C R O} (on_prepare f me x from msg) (prepares f me x msg)
  unfolding on_prepare
  on_prepare-here from msg p e new later = rw (p, e, le-ltb _ _ new, later)

  pub on_commit-leader : (from : ℕ) (msg : CommitMsg) → (primary f msg.view == from) ≡ false
      → ◌≡◌ {A = Step C R O} (on_commit f me x from msg) (drops x NotPrimary)
  unfolding on_commit
  on_commit-leader from msg p = rw p

  pub on_commit-view : (from : ℕ) (msg : CommitMsg) → (primary f msg.view == from) ≡ true → is_recovering x.status ≡ false → msg.view < x.view
      → ◌≡◌ {A = Step C R O} (on_commit f me x from msg) (drops x View)
  unfolding on_commit
  on_commit-view from msg p e old = rw (p, e, lt-ltb _ _ old)

  pub on_commit-later : (from : ℕ) (msg : CommitMsg) → (primary f msg.view == from) ≡ true → is_recovering x.status ≡ false → x.view ≤ msg.view
      → (nat_lt x.view msg.view || is_change x.status) ≡ true
      → ◌≡◌ {A = Step C R O} (on_commit f me x from msg) (does x (asks_state f me msg.view x.done))
  unfolding on_commit
  on_commit-later from msg p e new later = rw (p, e, le-ltb _ _ new, later)

  pub on_commit-here : (from : ℕ) (msg : CommitMsg) → (primary f msg.view == from) ≡ true → is_recovering x.status ≡ false → x.view ≤ msg.view
      → (nat_lt x.view msg.view || is_change x.status) ≡ false
      → ◌≡◌ {A = Step C R O} (on_commit f me x from msg)
      (does (executed_to msg.done x) (if nat_lt (length x.log) msg.done then asks_state f me x.view (length x.log) else []))
  unfolding on_commit
  on_commit-here from msg p e new later = rw (p, e, le-ltb _ _ new, later)

  pub on_prepare_ok-status : (choose : Choice C) (from : ℕ) (msg : PrepareOkMsg) → is_normal x.status ≡ false
      → ◌≡◌ {A = Step C R O} (on_prepare_ok choose f me x from msg) (drops x Status)
  unfolding on_prepare_ok
  on_prepare_ok-status choose from msg e = rw e

  pub on_prepare_ok-view : (choose : Choice C) (from : ℕ) (msg : PrepareOkMsg) → is_normal x.status ≡ true → msg.view ≢ x.view
      → ◌≡◌ {A = Step C R O} (on_prepare_ok choose f me x from msg) (drops x View)
  unfolding on_prepare_ok
  on_prepare_ok-view choose from msg e other = rw (e, ne_eqb _ _ other)

  pub on_prepare_ok-backup : (choose : Choice C) (from : ℕ) (msg : PrepareOkMsg) → is_normal x.status ≡ true → msg.view ≡ x.view
      → (primary f x.view == me) ≡ false → ◌≡◌ {A = Step C R O} (on_prepare_ok choose f me x from msg) (drops x NotPrimary)
  unfolding on_prepare_ok
  on_prepare_ok-backup choose from msg e same p = rw (e, eq-eqb _ _ same, p)

  pub on_prepare_ok-mine : (choose : Choice C) (from : ℕ) (msg : PrepareOkMsg) → is_normal x.status ≡ true → msg.view ≡ x.view → (primary f x.view == me) ≡ true
      → ◌≡◌ {A = Step C R O} (on_prepare_ok choose f me x from msg) (let y = with_ack from msg.place x in
      executes_and_answers (choose.commit_place me y.collected.acks) y)
  unfolding on_prepare_ok
  on_prepare_ok-mine choose from msg e same p = rw (e, eq-eqb _ _ same, p)

-- a row that is taken where it is the next one
pub with_next-is : {C : Type 0} (place : ℕ) (row : RowOf C) (x : Site C)
    → with_next place row x ≡ record x { log = if place == length x.log + 1 then x.log ++ row ∷ [] else x.log }
with_next-is {C} place row x = by_test (place == length x.log + 1)
  where
    by_test : (b : Bool) → (if b then with_row row x else x) ≡ record x { log = if b then x.log ++ row ∷ [] else x.log }
    by_test true = refl
    by_test false = refl

-- rows are missing, or none is
pub missing_rows : {A : Type 0} (a b : ℕ) (p q : A) → a < b → (if nat_lt a b then p else q) ≡ p
missing_rows a b p q h = ap (λ t. if t then p else q) (lt-ltb a b h)

pub enough_rows : {A : Type 0} (a b : ℕ) (p q : A) → b ≤ a → (if nat_lt a b then p else q) ≡ q
enough_rows a b p q h = ap (λ t. if t then p else q) (le-ltb a b h)

-- the site after a PREPARE in its own view
abbrev pub prepared : {C : Type 0} → PrepareOf C → Site C → Site C
prepared msg x = executed_to msg.done (record x { log = if msg.place == length x.log + 1 then x.log ++ msg.row ∷ [] else x.log })

module _ {C R O : Type 0} (f me : ℕ) (x : Site C) (msg : PrepareOf C) where
  prepares-is : ◌≡◌ {A = Step C R O} (prepares f me x msg)
      (does (prepared msg x) (if nat_lt (length x.log + 1) msg.place then asks_state f me x.view (length x.log) else acknowledges_all f me (prepared msg x)))
  prepares-is =
      ap (λ (y : Site C). let s : Step C R O =
      does (executed_to msg.done y) (if nat_lt (length x.log + 1) msg.place then asks_state f me x.view (length x.log)
      else acknowledges_all f me (executed_to msg.done y)) in s) (with_next-is msg.place msg.row x)

  pub prepares-missing : length x.log + 1 < msg.place
      → ◌≡◌ {A = Step C R O} (prepares f me x msg) (does (prepared msg x) (asks_state f me x.view (length x.log)))
  prepares-missing h =
      prepares-is ∙ ap (does (prepared msg x)) (missing_rows (length x.log + 1) msg.place (asks_state f me x.view (length x.log))
      (acknowledges_all f me (prepared msg x)) h)

  pub prepares-enough : msg.place ≤ length x.log + 1
      → ◌≡◌ {A = Step C R O} (prepares f me x msg) (does (prepared msg x) (acknowledges_all f me (prepared msg x)))
  prepares-enough h =
      prepares-is ∙ ap (does (prepared msg x)) (enough_rows (length x.log + 1) msg.place (asks_state f me x.view (length x.log))
      (acknowledges_all f me (prepared msg x)) h)
