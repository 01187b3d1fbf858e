-- How a world opens: lists that are made one element after another, each so of the one in its place; new sites; the whole.
use Rattle.std.proofs.Common.{◌≡◌, ◌⊎◌, inl, inr, ℕ, Bool, true, false, if◌then◌else◌, zero, suc, ◌+◌, ◌*◌, ◌<◌, List, [], ◌∷◌, ◌++◌, length, map, slice_get, get_or, take, option_map, Some, refl, sym, ap, ◌∙◌, subst, zero-add}
use Rattle.std.specs.List.{enumerate_from}
use Rattle.std.proofs.lemmas.List.{length_push, length-map, take_more, map-append}
use Rattle.std.proofs.lemmas.List.FromFn.{length-enumerate_from, get_or-enumerate_from}
use Rattle.std.proofs.lemmas.Option.{slice_get_read, slice_get-map}
use Rattle.pvp_types.specs.declared.command.Cmd.{Cmd}
use Rattle.pvp_types.specs.declared.setup.Setup.{Setup}
use Rattle.pvp_types.specs.declared.setup.Currency.{Currency}
use Rattle.pvp_types.specs.declared.setup.Member.{Member}
use Rattle.pvp_types.specs.Setup.{IsValid, faults}
use Rattle.pvp_types.proofs.SetupLemmas.{valid-sites}
use Rattle.vr_types.specs.declared.cell.Boot.{Boot}
use Rattle.vr_types.specs.declared.event.Status.TheVariants.{Normal, Down}
use Rattle.vr_types.specs.Cell.{is_new}
use Rattle.vr_types.specs.Choice.{Choice, IsRight}
use Rattle.vr_types.specs.Site.{Ack, opening_site, over, no_boots}
use Rattle.vr_log.specs.Running.{SumUp}
use Rattle.vr_site.specs.Replica.{ShownSite, site_shown}
use Rattle.rtgs_node.specs.Node.{Envelope, opening_node}
use Rattle.rtgs_node.specs.Shown.{ShownNode}
use Rattle.headline.specs.declared.step.Move.{Move}
use Rattle.headline.specs.Bank.{opening_bank}
use Rattle.headline.specs.Client.{opening_client}
use Rattle.headline.proofs.Basics.{some-same, none-some, at-push}
use Rattle.pvp_world.specs.Client.{ShownClient}
use Rattle.pvp_world.specs.World.{AreEach, IsSite, IsNode, IsClient, IsAt, world_of}
use Rattle.pvp_world.proofs.Choosing.{any_choice}

-- as many as were made, and each is so
pub record AreSoFar {A B : Type 0} (Is : ℕ → A → B → Type 0) (xs : List A) (ys : List B) (n : ℕ) : Type 0 where
  pub count : length xs ≡ n
  pub each : (i : ℕ) (x : A) (y : B) → slice_get xs i ≡ Some x → slice_get ys i ≡ Some y → Is i x y

pub so_far-none : {A B : Type 0} (Is : ℕ → A → B → Type 0) (xs : List A) (ys : List B) → xs ≡ [] → AreSoFar Is xs ys 0
so_far-none {A} {B} Is xs ys none =
    subst (λ (zs : List A). AreSoFar Is zs ys 0) (sym none) (record { count = refl; each = λ i x y h k. absurd (none-some x h) })

pub so_far-more : {A B : Type 0} (Is : ℕ → A → B → Type 0) (xs : List A) (ys : List B) (n : ℕ) (x : A) (more : List A) → AreSoFar Is xs ys n
    → more ≡ xs ++ x ∷ [] → ((y : B) → slice_get ys n ≡ Some y → Is n x y) → AreSoFar Is more ys (n + 1)
so_far-more {A} {B} Is xs ys n x more are pushed is = subst (λ (zs : List A). AreSoFar Is zs ys (n + 1)) (sym pushed) (record {
  count = length_push xs x ∙ ap (λ k. k + 1) are.count;
  each = λ i a b at there. by i a b (at-push xs x i a at) there;
})
  where
    here : (i : ℕ) (a : A) (b : B) → i ≡ n → x ≡ a → slice_get ys i ≡ Some b → Is i a b
    here i a b at same there =
        let new : Is n x b = is b (subst (λ (k : ℕ). slice_get ys k ≡ Some b) at there) in
        subst (λ (k : ℕ). Is k a b) (sym at) (subst (λ (z : A). Is n z b) same new)

    by : (i : ℕ) (a : A) (b : B) → (slice_get xs i ≡ Some a) ⊎ ((i ≡ length xs) × (x ≡ a)) → slice_get ys i ≡ Some b → Is i a b
    by i a b (inl at) there = are.each i a b at there
    by i a b (inr end) there = here i a b (end.0 ∙ are.count) end.1 there

pub so_far-all : {A B : Type 0} (Is : ℕ → A → B → Type 0) (xs : List A) (ys : List B) (n : ℕ) → AreSoFar Is xs ys n → n ≡ length ys → AreEach Is xs ys
so_far-all Is xs ys n are all = record { count = are.count ∙ all; each = are.each }

-- what stands at a place of a list that has one value
pub same-at : {A B : Type 0} (b : B) (xs : List A) (n : ℕ) (y : B) → slice_get (map (λ (x : A). b) xs) n ≡ Some y → b ≡ y
same-at b [] n y e = absurd (none-some y e)
same-at b (x ∷ xs) zero y e = some-same b y e
same-at b (x ∷ xs) (suc n) y e = same-at b xs n y e

-- and where the value stands once more before
pub same-at_first : {A B : Type 0} (b : B) (xs : List A) (n : ℕ) (y : B) → slice_get (b ∷ map (λ (x : A). b) xs) n ≡ Some y → b ≡ y
same-at_first b xs zero y e = some-same b y e
same-at_first b xs (suc n) y e = same-at b xs n y e

-- and of a list made from another's elements, twice
pub made-at : {A B C : Type 0} (f : B → C) (h : A → B) (xs : List A) (n : ℕ) (x : A) (y : C) → n < length xs → x ≡ get_or xs n x
    → slice_get (map f (map h xs)) n ≡ Some y → f (h x) ≡ y
made-at {A} {B} {C} f h xs n x y within read e =
    some-same (f (h x)) y
    (sym (slice_get-map f (map h xs) n ∙ ap (option_map f) (slice_get-map h xs n ∙ ap (option_map h) (slice_get_read xs (length xs) n x refl within read)))
    ∙ e)

-- what was made of a list's elements in their order, and one more
pub made-more : {A B : Type 0} (f : A → B) (xs : List A) (ys : List B) (n : ℕ) (x : A) (y : B) (more : List A) → map f xs ≡ take n ys
    → more ≡ xs ++ x ∷ [] → f x ≡ y → n < length ys → y ≡ get_or ys n y → map f more ≡ take (n + 1) ys
made-more {A} {B} f xs ys n x y more made pushed is within read =
    ap (map f) pushed ∙ map-append f xs (x ∷ []) ∙ ap (λ (zs : List B). zs ++ f x ∷ []) made
    ∙ ap (λ (z : B). take n ys ++ z ∷ []) (is ∙ read) ∙ sym (take_more ys n y within)

-- an element of a list that is numbered from 0, by its place
pub record IsPlaced {A : Type 0} (xs : List A) (n i : ℕ) (x : A) : Type 0 where
  pub within : n < length xs
  pub number : i ≡ n
  pub read : x ≡ get_or xs n x

pub IsPlaced-numbered : {A : Type 0} (xs : List A) (n i : ℕ) (x : A) → (n < length (enumerate_from 0 xs)) × ((i, x) ≡ get_or (enumerate_from 0 xs) n (i, x))
    → IsPlaced xs n i x
IsPlaced-numbered {A} xs n i x turn =
    let within : n < length xs = subst (λ (k : ℕ). n < k) (length-enumerate_from 0 xs) turn.0 in
    let same = turn.1 ∙ get_or-enumerate_from 0 xs n (i, x) within in
    record { within = within; number = ap (λ (p : ℕ × A). p.0) same ∙ zero-add n; read = ap (λ (p : ℕ × A). p.1) same }

-- A SITE THAT IS NEW

-- no acknowledgement came to it
opening_acks : (f : ℕ) (cell : Boot) → (opening_site {C = Cmd} f cell).collected.acks ≡ []
opening_acks f cell = by (is_new cell)
  where
    by : (b : Bool) → (if b then record (over {C = Cmd} cell Normal) { known = no_boots f } else over cell Down).collected.acks ≡ []
    by true = refl
    by false = refl

-- what a replica over a cell shows
pub IsSite-opening : {B : Type 0} (held : B → Boot) (setup : Setup) (i : ℕ) (v : ShownSite Cmd Setup B) (cell : B)
    → v.f ≡ faults setup → v.me ≡ i → v.setup ≡ setup → SumUp v.volatile.acked [] → site_shown held v [] ≡ opening_site (faults setup) (held cell)
    → IsSite held setup i v (opening_site (faults setup) (held cell))
IsSite-opening held setup i v cell f me made_from acks site =
    let none : [] ≡ (opening_site {C = Cmd} (faults setup) (held cell)).collected.acks = sym (opening_acks (faults setup) (held cell)) in
    record {
      f = f;
      me = me;
      made_from = made_from;
      acks = subst (λ (came : List Ack). SumUp v.volatile.acked came) none acks;
      site = sym site ∙ ap (λ (came : List Ack). site_shown held v came) none;
    }

-- A WORLD THAT IS NEW is where no move leads
pub IsAt-opening : {B : Type 0} (held : B → Boot) (setup : Setup) (cells : List B) (copy : Setup) (first : List Boot) (sites : List (ShownSite Cmd Setup B))
    (nodes : List ShownNode) (clients : List ShownClient) (post : List Envelope) (trail : List Move)
    → IsValid setup → length cells ≡ 2 * faults setup + 1 → copy ≡ setup → first ≡ map held cells
    → AreEach (IsSite held setup) sites (map (opening_site (faults setup)) (map held cells))
    → AreEach (IsNode setup) nodes (map (λ (currency : Currency). opening_node) setup.currencies)
    → AreEach (IsClient setup) clients (opening_client ∷ map (λ (member : Member). opening_client) setup.members)
    → post ≡ [] → trail ≡ [] → IsValid copy × IsAt held (world_of copy first sites nodes clients post trail)
IsAt-opening {B} held setup cells copy first sites nodes clients post trail valid count same opens site_each node_each client_each none_sent none_moved =
    subst (λ (s : Setup). IsValid s × IsAt held (world_of s first sites nodes clients post trail)) (sym same)
    (subst (λ (cs : List Boot). IsValid setup × IsAt held (world_of setup cs sites nodes clients post trail)) (sym opens) (valid, is_at))
  where
    some : (choose : Choice Cmd) × IsRight (faults setup) choose
    some = any_choice (faults setup) (valid-sites setup valid).some

    is_at : IsAt held (world_of setup (map held cells) sites nodes clients post trail)
    is_at = record {
      list = record {
        valid = valid;
        choose = some.0;
        right = some.1;
        cells = map held cells;
        moves = [];
        bank = opening_bank setup (faults setup) (map held cells);
        legal = record { all = length-map cells held ∙ count; run = refl };
      };
      cells = refl;
      moves = sym none_moved;
      shows = record { sites = site_each; nodes = node_each; clients = client_each; post = none_sent };
    }
