-- One client's request, or one node's notice, is answered.
use Rattle.std.proofs.Common.{◌≡◌, ◌≢◌, ◌⊎◌, inl, inr, ℕ, zero, suc, ◌+◌, ◌-◌, ◌<◌, ◌≤◌, Bool, true, false, not, ◌&&◌, ◌||◌, ◌==◌, nat_le, nat_lt, if◌then◌else◌, List, [], ◌∷◌, ◌++◌, length, slice_get, slice_set, Option, Some, None, option_map, refl, sym, ap, ◌∙◌, subst, arith, true≢false}
use Rattle.std.specs.Prelude.{Contains}
use Rattle.std.specs.Option.{option_map_or}
use Rattle.std.proofs.lemmas.Bool.Decides.{nat_tests}
use Rattle.std.proofs.lemmas.Option.{slice_get_within}
use Rattle.std.proofs.lemmas.List.Elements.{All-nil, All-cons, Contains-append_right}
use Rattle.std.proofs.Math.Nat.{mod-lt}
use Rattle.pvp_types.specs.declared.setup.Setup.{Setup}
use Rattle.pvp_types.specs.declared.command.Cmd.{Cmd}
use Rattle.pvp_types.specs.declared.command.Reply.{Reply as Answer}
use Rattle.pvp_types.specs.declared.command.PayOrder.{PayOrder as PaymentOrder}
use Rattle.pvp_types.specs.declared.step.Step.TheVariants.{Deliver as Delivers, Beat as Beats}
use Rattle.pvp_types.proofs.SetupLemmas.{valid-members, valid-currencies}
use Rattle.vr_types.specs.declared.event.EventOf.TheVariants.{Deliver, Beat}
use Rattle.vr_types.specs.declared.limits.TheConstants.{MAX_ROWS}
use Rattle.vr_types.specs.declared.message.MsgOf.{MsgOf}
use Rattle.vr_types.specs.declared.message.MsgOf.TheVariants.{Request}
use Rattle.vr_types.specs.Actors.{is_client}
use Rattle.vr_types.specs.Group.{sites, primary, actor_of}
use Rattle.vr_types.specs.Rows.{newest}
use Rattle.agreement.specs.Promises.{request_of}
use Rattle.agreement.proofs.Counts.{has_site}
use Rattle.pvp_book.specs.Answer.{Row}
use Rattle.pvp_book.specs.Ledger.{node_of}
use Rattle.rtgs_node.specs.declared.event.NodeEvent.TheVariants as node
use Rattle.rtgs_node.specs.Node as nodes
use Rattle.rtgs_node.specs.Node.{Envelope, Node, NodeStep, to_sites, notice_out, node_step}
use Rattle.headline.specs.declared.step.ClientEvent.TheVariants as client
use Rattle.headline.specs.declared.step.Move.TheVariants.{Takes}
use Rattle.headline.specs.declared.step.Turn.{Turn}
use Rattle.headline.specs.declared.step.Turn.TheVariants.{OfNode, OfClient}
use Rattle.headline.specs.Client as clients
use Rattle.headline.specs.Client.{Client, ClientStep, client_step, on_reply, on_beat}
use Rattle.headline.proofs.Turns.{turn_of_client, turn_of_node}
use Rattle.headline.specs.Bank.{Bank, delivery, turn, turn_of, with_client, with_node}
use Rattle.headline.specs.Legal.{Leads, LegalList}
use Rattle.agreement.specs.Progress.{runs_at, AreWorking}
use Rattle.headline.specs.Progress.{IsGentle}
use Rattle.headline.proofs.Basics.{place_of, map-in, set-here}
use Rattle.headline.proofs.Invariant.{Holds}
use Rattle.headline.proofs.Reached.{legal-holds}
use Rattle.headline.proofs.Numbers.{due, node_due, client_due}
use Rattle.headline.proofs.Runs.{longer_list}
use Rattle.headline.proofs.Stages.{Comes, comes_then, IsAnswered, due_here, newest_due, answered}

pub set-other : {A : Type 0} (xs : List A) (i : ℕ) (y : A) (j : ℕ) → j ≢ i → slice_get (slice_set xs i y) j ≡ slice_get xs j
set-other [] i y j apart = refl
set-other (x ∷ xs) zero y zero apart = absurd (apart refl)
set-other (x ∷ xs) zero y (suc j) apart = refl
set-other (x ∷ xs) (suc i) y zero apart = refl
set-other (x ∷ xs) (suc i) y (suc j) apart = set-other xs i y j (λ e. apart (ap (λ n. suc n) e))

pub if_yes : {A : Type 0} (b : Bool) (x y : A) → b ≡ true → (if b then x else y) ≡ x
if_yes true x y e = refl
if_yes false x y e = absurd (true≢false (sym e))

pub if_no : {A : Type 0} (b : Bool) (x y : A) → b ≡ false → (if b then x else y) ≡ y
if_no true x y e = absurd (true≢false e)
if_no false x y e = refl

above : (a b : ℕ) → b < a → nat_le a b ≡ false
above a b h = grind (arith, nat_tests, h)

within : (a b : ℕ) → a ≤ b → nat_le a b ≡ true
within a b h = grind (arith, nat_tests, h)

same_number : (n : ℕ) → (n == n) ≡ true
same_number n = grind (arith)

-- a delivery by its number
pub record HasNumber (bank : Bank) (t : Turn) : Type 0 where
  pub number : ℕ
  pub is : turn bank.post (Delivers number) ≡ Some t

pub numbered : (bank : Bank) (e : Envelope) (t : Turn) → Contains bank.post e → delivery e ≡ t → HasNumber bank t
numbered bank e t posted is =
    let at = place_of bank.post e posted in
    record {
      number = at.0 + 1;
      is =
          if_no (at.0 + 1 == 0) _ _ (not_zero at.0) ∙ (ap (λ (m : ℕ). option_map delivery (slice_get bank.post m))
          (let d : (at.0 + 1) - 1 ≡ at.0 = omega arith in d) ∙ (ap (option_map delivery) at.1 ∙ ap (λ (u : Turn). Some u) is));
    }
  where
    not_zero : (n : ℕ) → (n + 1 == 0) ≡ false
    not_zero n = by (n + 1 == 0) refl
      where
        by : (b : Bool) → (n + 1 == 0) ≡ b → b ≡ false
        by true e = absurd (let d : n + 1 ≡ 0 = grind (arith, e) in omega arith)
        by false e = refl

-- what is sent to all sites is sent to the primary
to_primary : (f c view number : ℕ) (cmd : Cmd)
    → Contains (to_sites f c number cmd) (request_of (actor_of (primary f view)) (record { client = c; number = number; cmd = cmd }))
to_primary f c view number cmd =
    map-in (λ (j : ℕ). record { from = c; to = actor_of j; msg = Request (record { number = number; cmd = cmd }) }) (sites f) (primary f view)
    (has_site f (primary f view) (mod-lt view (omega arith)))

-- A CLIENT

-- it was answered, and nothing else of clients and nodes has changed
pub record IsIdle (f view k : ℕ) (log : List Row) (x : Client) (before after : Bank) : Type 0 where
  pub more : List Row
  pub row : Row
  pub rows : (more ≡ log) ⊎ (more ≡ log ++ row ∷ [])
  pub working : AreWorking f view more after.sites
  pub runs : (i : ℕ) → runs_at before.sites i ≡ true → runs_at after.sites i ≡ true
  pub answer : Answer
  pub here : slice_get after.clients k ≡ Some (record { number = x.number; waiting = None; answer = Some answer })
  pub others : (j : ℕ) → j ≢ k → slice_get after.clients j ≡ slice_get before.clients j
  pub nodes : after.nodes ≡ before.nodes

-- A NODE

-- its next notice was answered, and nothing else of clients and nodes has changed
pub record IsTold (f view c : ℕ) (log : List Row) (x : Node) (before after : Bank) : Type 0 where
  pub more : List Row
  pub notice : Cmd
  pub was_out : slice_get x.notices x.answered ≡ Some notice
  pub rows : ((more ≡ log) × (newest log (node_of c) ≡ x.answered + 1))
      ⊎ (more ≡ log ++ record { client = node_of c; number = x.answered + 1; cmd = notice } ∷ [])
  pub grows : length more ≤ length log + 1
  pub working : AreWorking f view more after.sites
  pub runs : (i : ℕ) → runs_at before.sites i ≡ true → runs_at after.sites i ≡ true
  pub here : slice_get after.nodes c ≡ Some (record x { answered = x.answered + 1 })
  pub others : (d : ℕ) → d ≢ c → slice_get after.nodes d ≡ slice_get before.nodes d
  pub clients : after.clients ≡ before.clients

module _ (setup : Setup) (f : ℕ) (some : 1 ≤ f) (list : LegalList setup f) (view : ℕ) (log : List Row) (are : AreWorking f view log list.bank.sites)
    (room : length log < MAX_ROWS) where
  module _ (k : ℕ) (x : Client) (cmd : Cmd) (at : slice_get list.bank.clients k ≡ Some x) (waiting : x.waiting ≡ Some cmd) where
    abbrev row : Row
    row = record { client = k; number = x.number; cmd = cmd }

    small : k < 65
    small = let a = slice_get_within list.bank.clients k x at in let b = (due_here setup f some list).few in omega arith

    is_a_client : is_client k ≡ true
    is_a_client = by (nat_le k 64) (within k 64 (let s = small in omega arith))
      where
        by : (b : Bool) → b ≡ true → (b || (nat_le 101 k && nat_le k 108)) ≡ true
        by true e = refl
        by false e = absurd (true≢false (sym e))

    abbrev asked : Bank
    asked = with_client list.bank k x (to_sites f k x.number cmd)

    beat_is : client_step f k x client.Beats ≡ clients.does x (to_sites f k x.number cmd)
    beat_is = ap (λ (w : Option Cmd). on_beat f k x w) waiting

    asks : Leads setup list.choose f list.bank (Takes (Beats k)) asked
    asks = record {
      turn_is = OfClient k client.Beats;
      has_turn = ap (λ (u : Turn). Some u) (turn_of_client Beat node.Beats client.Beats k (let s = small in omega arith));
      acts = record {
        before = x;
        is_there = at;
        allowed = ap (λ (s : ClientStep). s.fault) beat_is;
        leads = ap (λ (s : ClientStep). with_client list.bank k s.client s.sent) (sym beat_is);
      };
    }

    abbrev next : LegalList setup f
    next = longer_list list (Takes (Beats k) ∷ []) asked (asked, asks, refl)

    low : newest log k ≤ x.number
    low =
        let h = newest_due setup f some list view log are k in
        let d : due list.bank k ≡ client_due list.bank.clients k = if_no (nat_le 101 k) _ _ (above 101 k (let s = small in omega arith)) in
        let e : client_due list.bank.clients k ≡ x.number = ap (λ (o : Option Client). option_map_or (λ (c : Client). c.number) o 0) at in
        omega arith

    told : Comes next (IsAnswered f view log row asked)
    told =
        answered setup f some next view log (record { many = are.many; leads = are.leads; each = are.each }) row is_a_client
        ((due_here setup f some list).waits k x cmd at waiting) low room
        (Contains-append_right list.bank.post (to_sites f k x.number cmd) _ (to_primary f k view x.number cmd))

    there : slice_get told.after.clients k ≡ Some x
    there = ap (λ (l : List Client). slice_get l k) told.holds.clients ∙ set-here list.bank.clients k x x at

    abbrev y : Client
    y = record { number = x.number; waiting = None; answer = Some told.holds.is.answer }

    take_is : client_step f k x (client.Takes told.holds.reply) ≡ clients.does y []
    take_is =
        ap (λ (m : MsgOf Cmd Answer PaymentOrder). clients.on_message f k x m) told.holds.is.msg
        ∙ (ap (λ (w : Option Cmd). on_reply f k x x.number told.holds.is.answer w) waiting
        ∙ if_yes (x.number == x.number) _ _ (same_number x.number))

    number : HasNumber told.after (OfClient k (client.Takes told.holds.reply))
    number = numbered told.after told.holds.reply (OfClient k (client.Takes told.holds.reply)) told.holds.posted
        (ap (λ (n : ℕ). turn_of n (Deliver told.holds.reply) (node.Takes told.holds.reply) (client.Takes told.holds.reply)) told.holds.is.to
        ∙ turn_of_client (Deliver told.holds.reply) (node.Takes told.holds.reply) (client.Takes told.holds.reply) k (let s = small in omega arith))

    abbrev done : Bank
    done = with_client told.after k y []

    takes : Leads setup list.choose f told.after (Takes (Delivers number.number)) done
    takes = record {
      turn_is = OfClient k (client.Takes told.holds.reply);
      has_turn = number.is;
      acts = record {
        before = x;
        is_there = there;
        allowed = ap (λ (s : ClientStep). s.fault) take_is;
        leads = ap (λ (s : ClientStep). with_client told.after k s.client s.sent) (sym take_is);
      };
    }

    pub client_served : Comes list (IsIdle f view k log x list.bank)
    client_served =
        comes_then list (λ b. b ≡ asked) (IsIdle f view k log x list.bank)
        (record {
          moves = Takes (Beats k) ∷ [];
          after = asked;
          run = (asked, asks, refl);
          gentle = All-cons IsGentle (Takes (Beats k)) [] tt (All-nil IsGentle);
          holds = refl;
        })
        (comes_then next (IsAnswered f view log row asked) (IsIdle f view k log x list.bank) told
        (record {
          moves = Takes (Delivers number.number) ∷ [];
          after = done;
          run = (done, takes, refl);
          gentle = All-cons IsGentle (Takes (Delivers number.number)) [] tt (All-nil IsGentle);
          holds = record {
            more = told.holds.more;
            row = row;
            rows = told_rows told.holds.rows;
            runs = λ i e. told.holds.runs i e;
            working = record { many = told.holds.working.many; leads = told.holds.working.leads; each = told.holds.working.each };
            answer = told.holds.is.answer;
            here = set-here told.after.clients k x y there;
            others =
                λ j apart. set-other told.after.clients k y j apart
                ∙ (ap (λ (l : List Client). slice_get l j) told.holds.clients ∙ set-other list.bank.clients k x j apart);
            nodes = told.holds.nodes;
          };
        }))
      where
        told_rows : {P : Type 0} {more : List Row} → ((more ≡ log) × P) ⊎ (more ≡ log ++ row ∷ []) → (more ≡ log) ⊎ (more ≡ log ++ row ∷ [])
        told_rows (inl old) = inl old.0
        told_rows (inr new) = inr new

  module _ (c : ℕ) (x : Node) (cmd : Cmd) (at : slice_get list.bank.nodes c ≡ Some x) (is_out : slice_get x.notices x.answered ≡ Some cmd) where
    abbrev notice : Row
    notice = record { client = node_of c; number = x.answered + 1; cmd = cmd }

    few : c < 8
    few =
        let h : Holds setup list.choose f list.cells list.moves list.bank =
        legal-holds setup (valid-members setup list.valid).1 list.choose f list.right list.cells list.moves list.bank list.legal.all list.legal.run in
        let a = slice_get_within list.bank.nodes c x at in
        let b = h.count in
        let d = (valid-currencies setup list.valid).1 in
        omega arith

    node_client : is_client (node_of c) ≡ true
    node_client =
        by (nat_le (101 + c) 64) (nat_le 101 (101 + c)) (nat_le (101 + c) 108) (within 101 (101 + c) (omega arith))
        (within (101 + c) 108 (let s = few in omega arith))
      where
        by : (a b d : Bool) → b ≡ true → d ≡ true → (a || (b && d)) ≡ true
        by true b d e h = refl
        by false true d e h = h
        by false false d e h = absurd (true≢false (sym e))

    out_is : notice_out f c x ≡ to_sites f (node_of c) (x.answered + 1) cmd
    out_is = ap (λ (o : Option Cmd). option_map_or (λ (cmd : Cmd). to_sites f (node_of c) (x.answered + 1) cmd) o []) is_out

    abbrev noted : Bank
    noted = with_node list.bank c x (notice_out f c x)

    beats : Leads setup list.choose f list.bank (Takes (Beats (node_of c))) noted
    beats = record {
      turn_is = OfNode c node.Beats;
      has_turn = ap (λ (u : Turn). Some u) (turn_of_node Beat node.Beats client.Beats c (let s = few in omega arith));
      acts = record { before = x; is_there = at; allowed = refl; leads = refl };
    }

    abbrev after_beat : LegalList setup f
    after_beat = longer_list list (Takes (Beats (node_of c)) ∷ []) noted (noted, beats, refl)

    low_notice : newest log (node_of c) ≤ x.answered + 1
    low_notice =
        let h = newest_due setup f some list view log are (node_of c) in
        let d : due list.bank (node_of c) ≡ node_due list.bank.nodes ((101 + c) - 101) =
        if_yes (nat_le 101 (101 + c)) _ _ (within 101 (101 + c) (omega arith)) in
        let s : node_due list.bank.nodes ((101 + c) - 101) ≡ node_due list.bank.nodes c =
        ap (λ (m : ℕ). node_due list.bank.nodes m) (let q : (101 + c) - 101 ≡ c = omega arith in q) in
        let e : node_due list.bank.nodes c ≡ x.answered + 1 = ap (λ (o : Option Node). option_map_or (λ (n : Node). n.answered + 1) o 0) at in
        omega arith

    heard : Comes after_beat (IsAnswered f view log notice noted)
    heard =
        answered setup f some after_beat view log (record { many = are.many; leads = are.leads; each = are.each }) notice node_client
        (omega arith) low_notice room
        (Contains-append_right list.bank.post (notice_out f c x) _
        (subst (λ (es : List Envelope).
        Contains es (request_of (actor_of (primary f view)) (record { client = node_of c; number = x.answered + 1; cmd = cmd }))) (sym out_is)
        (to_primary f (node_of c) view (x.answered + 1) cmd)))

    there_still : slice_get heard.after.nodes c ≡ Some x
    there_still = ap (λ (l : List Node). slice_get l c) heard.holds.nodes ∙ set-here list.bank.nodes c x x at

    abbrev z : Node
    z = record x { answered = x.answered + 1 }

    hears : node_step setup f c x (node.Takes heard.holds.reply) ≡ nodes.does z (notice_out f c z)
    hears =
        if_no (not (heard.holds.reply.to == node_of c)) _ _ (ap (λ (n : ℕ). not (n == node_of c)) heard.holds.is.to ∙ ap not (same_number (node_of c)))
        ∙ (ap (λ (m : MsgOf Cmd Answer PaymentOrder). nodes.on_message setup f c x m) heard.holds.is.msg
        ∙ if_yes ((x.answered + 1 == x.answered + 1) && nat_lt x.answered (length x.notices)) _ _
        (both _ _ (same_number (x.answered + 1)) (less x.answered (length x.notices) (slice_get_within x.notices x.answered cmd is_out))))
      where
        both : (a b : Bool) → a ≡ true → b ≡ true → (a && b) ≡ true
        both true b e h = h
        both false b e h = absurd (true≢false (sym e))

        less : (a b : ℕ) → a < b → nat_lt a b ≡ true
        less a b h = grind (arith, nat_tests, h)

    node_number : HasNumber heard.after (OfNode c (node.Takes heard.holds.reply))
    node_number = numbered heard.after heard.holds.reply (OfNode c (node.Takes heard.holds.reply)) heard.holds.posted
        (ap (λ (n : ℕ). turn_of n (Deliver heard.holds.reply) (node.Takes heard.holds.reply) (client.Takes heard.holds.reply)) heard.holds.is.to
        ∙ turn_of_node (Deliver heard.holds.reply) (node.Takes heard.holds.reply) (client.Takes heard.holds.reply) c (let s = few in omega arith))

    abbrev ended : Bank
    ended = with_node heard.after c z (notice_out f c z)

    node_takes : Leads setup list.choose f heard.after (Takes (Delivers node_number.number)) ended
    node_takes = record {
      turn_is = OfNode c (node.Takes heard.holds.reply);
      has_turn = node_number.is;
      acts = record {
        before = x;
        is_there = there_still;
        allowed = ap (λ (s : NodeStep). s.fault) hears;
        leads = ap (λ (s : NodeStep). with_node heard.after c s.node s.sent) (sym hears);
      };
    }

    pub notice_served : Comes list (IsTold f view c log x list.bank)
    notice_served =
        comes_then list (λ b. b ≡ noted) (IsTold f view c log x list.bank)
        (record {
          moves = Takes (Beats (node_of c)) ∷ [];
          after = noted;
          run = (noted, beats, refl);
          gentle = All-cons IsGentle (Takes (Beats (node_of c))) [] tt (All-nil IsGentle);
          holds = refl;
        })
        (comes_then after_beat (IsAnswered f view log notice noted) (IsTold f view c log x list.bank) heard
        (record {
          moves = Takes (Delivers node_number.number) ∷ [];
          after = ended;
          run = (ended, node_takes, refl);
          gentle = All-cons IsGentle (Takes (Delivers node_number.number)) [] tt (All-nil IsGentle);
          holds = record {
            more = heard.holds.more;
            notice = cmd;
            was_out = is_out;
            rows = heard.holds.rows;
            grows = heard.holds.grows;
            runs = λ i e. heard.holds.runs i e;
            working = record { many = heard.holds.working.many; leads = heard.holds.working.leads; each = heard.holds.working.each };
            here = set-here heard.after.nodes c x z there_still;
            others =
                λ d apart. set-other heard.after.nodes c z d apart
                ∙ (ap (λ (l : List Node). slice_get l d) heard.holds.nodes ∙ set-other list.bank.nodes c x d apart);
            clients = heard.holds.clients;
          };
        }))
