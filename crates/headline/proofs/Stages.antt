-- A REQUEST of the post is answered, whether it is a row already or not.
use Rattle.std.proofs.Common.{◌≡◌, ◌⊎◌, inl, inr, ℕ, ◌+◌, ◌-◌, ◌<◌, ◌≤◌, true, false, List, [], ◌∷◌, ◌++◌, length, slice_get, Option, Some, None, option_map, refl, sym, ap, ◌∙◌, subst, arith, true≢false, length-append}
use Rattle.std.specs.Prelude.{Contains, All}
use Rattle.std.specs.Option.{option_map_or}
use Rattle.std.proofs.lemmas.Bool.{cases_lt}
use Rattle.std.proofs.lemmas.List.Elements.{All-nil, All-cons, All-append, All-contains}
use Rattle.pvp_types.specs.declared.setup.Setup.{Setup}
use Rattle.pvp_types.specs.declared.command.Cmd.{Cmd}
use Rattle.pvp_types.specs.declared.command.Reply.{Reply as Answer}
use Rattle.pvp_types.proofs.SetupLemmas.{valid-members}
use Rattle.vr_types.specs.declared.event.EventOf.TheVariants.{Deliver}
use Rattle.vr_types.specs.declared.limits.TheConstants.{MAX_ROWS}
use Rattle.vr_types.specs.declared.message.MsgOf.TheVariants.{Reply}
use Rattle.vr_types.specs.Actors.{is_client}
use Rattle.vr_types.specs.Execution.{answer_at}
use Rattle.vr_types.specs.Group.{primary, actor_of}
use Rattle.vr_types.specs.Handling.{reply_to}
use Rattle.vr_types.specs.Rows.{newest}
use Rattle.vr_types.specs.Site.{Site, is_running}
use Rattle.agreement.specs.Worlds.{Happens, step_of}
use Rattle.agreement.specs.Promises.{WasAsked, request_of}
use Rattle.agreement.specs.Progress.{runs_at, AreWorking, Repeats}
use Rattle.agreement.proofs.Asked.{legal_rows}
use Rattle.agreement.proofs.Onward as alone
use Rattle.agreement.proofs.Repeating.{has_last}
use Rattle.pvp_book.specs.Answer.{Row}
use Rattle.pvp_book.specs.Ledger.{opening}
use Rattle.rtgs_node.specs.Node.{Envelope}
use Rattle.headline.specs.declared.step.Move.{Move}
use Rattle.headline.specs.Machine.{book}
use Rattle.headline.specs.Bank.{Bank, opening_bank}
use Rattle.headline.specs.Legal.{IsRun, LegalList}
use Rattle.headline.specs.Progress.{IsGentle, Serves}
use Rattle.headline.proofs.Basics.{there}
use Rattle.headline.proofs.Invariant.{Holds, SitesWorld}
use Rattle.headline.proofs.Runs.{run_append, longer_list}
use Rattle.headline.proofs.Reached.{legal-holds}
use Rattle.headline.proofs.Numbers.{IsDue, due, run_due, opening_due}
use Rattle.headline.proofs.Lifts.{Beside, OneLifted, by_delivery}
use Rattle.headline.proofs.Onward as onward

-- from a legal list by gentle moves to a bank in which this holds
pub record Comes {setup : Setup} {f : ℕ} (list : LegalList setup f) (P : Bank → Type 0) : Type 0 where
  pub moves : List Move
  pub after : Bank
  pub run : IsRun setup list.choose f list.bank moves after
  pub gentle : All IsGentle moves
  pub holds : P after

pub stays : {setup : Setup} {f : ℕ} (list : LegalList setup f) (P : Bank → Type 0) → P list.bank → Comes list P
stays list P p = record { moves = []; after = list.bank; run = refl; gentle = All-nil IsGentle; holds = p }

pub comes_then : {setup : Setup} {f : ℕ} (list : LegalList setup f) (P Q : Bank → Type 0) (a : Comes list P) → Comes (longer_list list a.moves a.after a.run) Q
    → Comes list Q
comes_then {setup} {f} list P Q a b = record {
  moves = a.moves ++ b.moves;
  after = b.after;
  run = run_append setup list.choose f a.moves b.moves list.bank a.after b.after a.run b.run;
  gentle = All-append IsGentle a.moves b.moves a.gentle b.gentle;
  holds = b.holds;
}

-- the REPLY to a request
pub record IsReplyTo (row : Row) (e : Envelope) : Type 0 where
  pub to : e.to ≡ row.client
  pub view : ℕ
  pub answer : Answer
  pub msg : e.msg ≡ Reply (record { view = view; number = row.number; reply = answer })

-- it was answered: the log is longer by one row at most, and the REPLY is in the post
pub record IsAnswered (f view : ℕ) (log : List Row) (row : Row) (before after : Bank) : Type 0 where
  pub more : List Row
  pub rows : ((more ≡ log) × (newest log row.client ≡ row.number)) ⊎ (more ≡ log ++ row ∷ [])
  pub grows : length more ≤ length log + 1
  pub working : AreWorking f view more after.sites
  pub runs : (i : ℕ) → runs_at before.sites i ≡ true → runs_at after.sites i ≡ true
  pub reply : Envelope
  pub posted : Contains after.post reply
  pub is : IsReplyTo row reply
  pub nodes : after.nodes ≡ before.nodes
  pub clients : after.clients ≡ before.clients
  pub post : (e : Envelope) → Contains before.post e → Contains after.post e

module _ (setup : Setup) (f : ℕ) (some : 1 ≤ f) (list : LegalList setup f) where
  here : Holds setup list.choose f list.cells list.moves list.bank
  here = legal-holds setup (valid-members setup list.valid).1 list.choose f list.right list.cells list.moves list.bank list.legal.all list.legal.run

  pub due_here : IsDue list.bank
  due_here =
      run_due setup list.choose f list.moves (opening_bank setup f list.cells) list.bank
      (opening_due setup list.choose f list.cells (valid-members setup list.valid).1) list.legal.run

  module _ (view : ℕ) (log : List Row) (are : AreWorking f view log list.bank.sites) where
    -- the log is a site's
    record HasSite : Type 0 where
      site : Site Cmd
      among : Contains list.bank.sites site
      is : site.log ≡ log

    has_site : HasSite
    has_site = by (slice_get list.bank.sites (primary f view)) refl are.leads
      where
        by : (found : Option (Site Cmd)) → slice_get list.bank.sites (primary f view) ≡ found
            → option_map_or (λ (x : Site Cmd). is_running x.status) found false ≡ true → HasSite
        by None at e = absurd (true≢false (sym e))
        by (Some x) at e = let in' = there list.bank.sites (primary f view) x at in record { site = x; among = in'; is = (are.each x in' e).log_is }

    -- each row of it was asked for
    row_due : (row : Row) → Contains log row → row.number ≤ due list.bank row.client
    row_due row in' =
        let kept =
        (legal_rows list.choose f list.right list.cells here.events here.world here.alone).sites has_site.site
        (subst (λ (l : List (Site Cmd)). Contains l has_site.site) (sym here.sites) has_site.among) in
        let was : WasAsked here.events row =
        All-contains (WasAsked here.events) has_site.site.log row kept.log (subst (λ (l : List Row). Contains l row) (sym has_site.is) in') in
        due_here.post (request_of was.to row) (record { number = row.number; cmd = row.cmd }) (here.arrived was.site (request_of was.to row) was.taken) refl

    pub newest_due : (c : ℕ) → newest log c ≤ due list.bank c
    newest_due c = by (cases_lt 0 (newest log c))
      where
        by : (0 < newest log c) ⊎ (newest log c ≤ 0) → newest log c ≤ due list.bank c
        by (inr none) = omega arith
        by (inl some') =
            let l = has_last log c (newest log c) some' refl in
            let h = row_due l.last.1 (there log (l.last.0 - 1) l.last.1 l.there.at) in
            let e = l.number_is in
            let d : due list.bank l.last.1.client ≡ due list.bank c = ap (due list.bank) l.there.of in
            omega arith

    module _ (row : Row) (client : is_client row.client ≡ true) (counted : 0 < row.number) (low : newest log row.client ≤ row.number)
        (room : length log < MAX_ROWS)
        (posted : Contains list.bank.post (request_of (actor_of (primary f view)) row)) where
      beside : Beside setup list.choose f here.world list.bank
      beside = record { sites = here.sites; back = here.back; told = here.told }

      -- a new one is served
      new_one : newest log row.client < row.number → Comes list (IsAnswered f view log row list.bank)
      new_one above =
          let s : Serves list view log row = onward.serves setup f some list view log row are (record { client = client; above = above; room = room }) posted in
          record {
            moves = s.moves;
            after = s.after;
            run = s.run;
            gentle = s.gentle;
            holds = record {
              more = log ++ row ∷ [];
              rows = inr refl;
              grows = let e = length-append log (row ∷ []) in omega arith;
              working = s.working;
              runs = s.runs;
              reply = s.reply;
              posted = s.posted;
              is = record { to = s.to; view = s.in_view; answer = answer_at book (opening setup) (log ++ row ∷ []) (length log + 1) row; msg = s.said };
              nodes = s.nodes;
              clients = s.clients;
              post = s.post;
            };
          }

      -- one that is a row already is answered again
      old_one : newest log row.client ≡ row.number → Comes list (IsAnswered f view log row list.bank)
      old_one same = record {
        moves = first.move ∷ [];
        after = first.after;
        run = (first.after, first.leads, refl);
        gentle = All-cons IsGentle first.move [] first.gentle (All-nil IsGentle);
        holds = record {
          more = log;
          rows = inl (refl, same);
          grows = omega arith;
          working = subst (AreWorking f view log) first.beside.sites repeats.working;
          runs =
              λ i e. subst (λ (l : List (Site Cmd)). runs_at l i ≡ true) first.beside.sites
              (repeats.runs i (subst (λ (l : List (Site Cmd)). runs_at l i ≡ true) (sym here.sites) e));
          reply = reply;
          posted = first.beside.told (record { from = primary f view; sender = repeats.sender; place = repeats.place }) reply repeats.answered is_reply;
          is =
              record {
                to = repeats.client;
                view = repeats.sender.view;
                answer = answer_at book (opening setup) repeats.sender.log repeats.place repeats.old;
                msg = ap (λ (n : ℕ). Reply (record {
                  view = repeats.sender.view;
                  number = n;
                  reply = answer_at book (opening setup) repeats.sender.log repeats.place repeats.old;
                })) repeats.number;
              };
          nodes = first.nodes;
          clients = first.clients;
          post = first.post;
        };
      }
        where
          repeats : Repeats list.choose f here.world view log row
          repeats =
              alone.repeated f (record {
                choose = list.choose;
                right = list.right;
                cells = list.cells;
                events = here.events;
                world = here.world;
                legal = here.alone;
              }) view log row
              (subst (AreWorking f view log) (sym here.sites) are) (record { client = client; some = counted; same = same })

          by_ends : Happens list.choose f here.world (step_of (primary f view) (Deliver (request_of (actor_of (primary f view)) row))) repeats.asks.0
              → OneLifted setup list.choose f list.bank repeats.asked
          by_ends p = subst (λ (w : SitesWorld). OneLifted setup list.choose f list.bank w) (sym (repeats.asks.2 ∙ p.ends.1))
              (by_delivery setup list.choose f here.world list.bank beside (primary f view)
              (request_of (actor_of (primary f view)) row) p.before p.is_there posted p.ends.0)

          first : OneLifted setup list.choose f list.bank repeats.asked
          first = by_ends repeats.asks.1

          answer_to : Row → Envelope
          answer_to r =
              record {
                from = actor_of (primary f view);
                to = r.client;
                msg = Reply (record {
                  view = repeats.sender.view;
                  number = r.number;
                  reply = answer_at book (opening setup) repeats.sender.log repeats.place r;
                });
              }

          reply : Envelope
          reply = answer_to repeats.old

          is_reply : reply_to book (opening setup) (primary f view) repeats.sender repeats.place ≡ Some reply
          is_reply = ap (λ (l : List Row). option_map answer_to (slice_get l (repeats.place - 1))) repeats.log_is ∙ ap (option_map answer_to) repeats.is_there

      pub answered : Comes list (IsAnswered f view log row list.bank)
      answered = by (cases_lt (newest log row.client) row.number)
        where
          by : (newest log row.client < row.number) ⊎ (row.number ≤ newest log row.client) → Comes list (IsAnswered f view log row list.bank)
          by (inl above) = new_one above
          by (inr not_above) = old_one (let l = low in omega arith)
