-- The sites of a bank go on until all work.
use Rattle.std.proofs.Common.{ℕ, ◌<◌, ◌≤◌, List, slice_get, sym, ap, ◌∙◌, subst, ◌-◌, true, [], ◌∷◌, ◌++◌, arith, length, option_map, ◌≡◌, ◌+◌, Some, refl}
use Rattle.std.specs.Prelude.{Contains}
use Rattle.std.proofs.lemmas.List.Elements.{All-cons}
use Rattle.pvp_types.specs.declared.setup.Setup.{Setup}
use Rattle.pvp_types.specs.declared.command.Cmd.{Cmd}
use Rattle.pvp_types.proofs.SetupLemmas.{valid-members}
use Rattle.vr_types.specs.declared.event.EventOf.TheVariants.{Deliver}
use Rattle.vr_types.specs.declared.message.MsgOf.TheVariants.{Reply}
use Rattle.vr_types.specs.declared.limits.TheConstants.{MAX_ROWS}
use Rattle.vr_types.specs.Execution.{answer_at}
use Rattle.vr_types.specs.Handling.{reply_to}
use Rattle.vr_types.specs.Group.{primary, actor_of}
use Rattle.vr_types.specs.Site.{Site}
use Rattle.agreement.specs.Worlds.{Happens, step_of}
use Rattle.agreement.specs.Promises.{request_of}
use Rattle.agreement.specs.Progress.{runs_at, AreWorking, ComeToWork, HadLog}
use Rattle.agreement.specs.Progress as sites_alone
use Rattle.agreement.proofs.Beginnings.{begins-trans}
use Rattle.agreement.proofs.Onward as alone
use Rattle.pvp_book.specs.Answer.{Row}
use Rattle.pvp_book.specs.Ledger.{opening}
use Rattle.rtgs_node.specs.Node.{Envelope}
use Rattle.headline.specs.Machine.{book}
use Rattle.headline.specs.Legal.{LegalList}
use Rattle.headline.specs.Progress.{IsGentle, CanGoOn, KeepsExecuted, SitesProgress, Serves}
use Rattle.headline.proofs.Invariant.{Holds, SitesWorld}
use Rattle.headline.proofs.Runs.{longer_list, moment_longer}
use Rattle.headline.proofs.Reached.{legal-holds}
use Rattle.headline.proofs.Settled.{once_whole}
use Rattle.headline.proofs.Lifts.{Beside, OneLifted, Lifted, by_delivery, lift}

at_end : {A : Type 0} (xs : List A) (x : A) → slice_get (xs ++ x ∷ []) (length xs) ≡ Some x
at_end [] x = refl
at_end (y ∷ xs) x = at_end xs x

module _ (setup : Setup) (f : ℕ) (some : 1 ≤ f) (list : LegalList setup f) where
  here : Holds setup list.choose f list.cells list.moves list.bank
  here = legal-holds setup (valid-members setup list.valid).1 list.choose f list.right list.cells list.moves list.bank list.legal.all list.legal.run

  beside : Beside setup list.choose f here.world list.bank
  beside = record { sites = here.sites; back = here.back; told = here.told }

  module _ (can : CanGoOn setup f list.bank) where
    goes : sites_alone.Progresses (record {
      choose = list.choose;
      right = list.right;
      cells = list.cells;
      events = here.events;
      world = here.world;
      legal = here.alone;
    })
    goes =
        alone.progresses f some (record {
          choose = list.choose;
          right = list.right;
          cells = list.cells;
          events = here.events;
          world = here.world;
          legal = here.alone;
        }) (subst (sites_alone.CanGoOn f) (sym here.sites) can.sites)

    lifted : Lifted setup list.choose f list.bank goes.after
    lifted = lift setup list.choose f here.world goes.after list.bank beside goes.goes

    work : ComeToWork f goes.view goes.log list.bank.sites lifted.end.sites
    work =
        subst (λ (l : List (Site Cmd)). ComeToWork f goes.view goes.log l lifted.end.sites) here.sites
        (subst (λ (l : List (Site Cmd)). ComeToWork f goes.view goes.log here.world.sites l) lifted.beside.sites goes.work)

    had : HadLog goes.log list.bank.sites
    had = subst (HadLog goes.log) here.sites goes.had

    room : length goes.log < MAX_ROWS
    room = let space = can.space had.0 had.1 in let same = ap (length {A = Row}) had.2 in omega (arith, space, same)

    -- the log is all that was ever executed
    kept : KeepsExecuted list goes.log
    kept m x in' =
        begins-trans (before.begins x in') (once_whole setup f some (longer_list list lifted.moves lifted.end lifted.run) goes.view goes.log work.working room
        (moment_longer list lifted.moves lifted.end lifted.run m) before)
      where
        before : Holds setup list.choose f list.cells m.before m.then
        before = legal-holds setup (valid-members setup list.valid).1 list.choose f list.right list.cells m.before m.then m.legal.all m.legal.run

    pub sites_go_on : SitesProgress list
    sites_go_on = record {
      moves = lifted.moves;
      after = lifted.end;
      run = lifted.run;
      gentle = lifted.gentle;
      view = goes.view;
      log = goes.log;
      work = work;
      had = had;
      kept = kept;
      nodes = lifted.nodes;
      clients = lifted.clients;
    }

  module _ (view : ℕ) (log : List Row) (row : Row) (are : AreWorking f view log list.bank.sites) (new : sites_alone.IsNew log row)
      (posted : Contains list.bank.post (request_of (actor_of (primary f view)) row)) where
    serving : sites_alone.Serves list.choose f here.world view log row
    serving =
        alone.served f some (record {
          choose = list.choose;
          right = list.right;
          cells = list.cells;
          events = here.events;
          world = here.world;
          legal = here.alone;
        }) view log row (subst (AreWorking f view log) (sym here.sites) are) new

    -- the REQUEST comes to the primary
    first : OneLifted setup list.choose f list.bank serving.asked
    first = by_ends serving.asks.1
      where
        by_ends : Happens list.choose f here.world (step_of (primary f view) (Deliver (request_of (actor_of (primary f view)) row))) serving.asks.0
            → OneLifted setup list.choose f list.bank serving.asked
        by_ends p = subst (λ (w : SitesWorld). OneLifted setup list.choose f list.bank w) (sym (serving.asks.2 ∙ p.ends.1))
            (by_delivery setup list.choose f here.world list.bank beside (primary f view)
            (request_of (actor_of (primary f view)) row) p.before p.is_there posted p.ends.0)

    rest : Lifted setup list.choose f first.after serving.served
    rest = lift setup list.choose f serving.asked serving.served first.after first.beside serving.goes

    abbrev reply : Envelope
    reply =
        record {
          from = actor_of (primary f view);
          to = row.client;
          msg = Reply (record {
            view = serving.sender.view;
            number = row.number;
            reply = answer_at book (opening setup) serving.sender.log (length log + 1) row;
          });
        }

    is_reply : reply_to book (opening setup) (primary f view) serving.sender (length log + 1) ≡ Some reply
    is_reply =
        ap (λ (n : ℕ). option_map answer_to (slice_get serving.sender.log n)) (let e : (length log + 1) - 1 ≡ length log = omega arith in e)
        ∙ (ap (λ (l : List Row). option_map answer_to (slice_get l (length log))) serving.with_row ∙ ap (option_map answer_to) (at_end log row))
      where
        answer_to : Row → Envelope
        answer_to r =
            record {
              from = actor_of (primary f view);
              to = r.client;
              msg = Reply (record {
                view = serving.sender.view;
                number = r.number;
                reply = answer_at book (opening setup) serving.sender.log (length log + 1) r;
              });
            }

    pub serves : Serves list view log row
    serves = record {
      moves = first.move ∷ rest.moves;
      after = rest.end;
      run = (first.after, first.leads, rest.run);
      gentle = All-cons IsGentle first.move rest.moves first.gentle rest.gentle;
      working = subst (AreWorking f view (log ++ row ∷ [])) rest.beside.sites serving.working;
      runs =
          λ i e. subst (λ (l : List (Site Cmd)). runs_at l i ≡ true) rest.beside.sites
          (serving.runs i (subst (λ (l : List (Site Cmd)). runs_at l i ≡ true) (sym here.sites) e));
      reply = reply;
      posted = rest.beside.told (record { from = primary f view; sender = serving.sender; place = length log + 1 }) reply serving.answered is_reply;
      to = refl;
      in_view = serving.sender.view;
      said =
          ap (λ (l : List Row). Reply (record {
            view = serving.sender.view;
            number = row.number;
            reply = answer_at book (opening setup) l (length log + 1) row;
          })) serving.with_row;
      post = λ e in'. rest.post e (first.post e in');
      nodes = rest.nodes ∙ first.nodes;
      clients = rest.clients ∙ first.clients;
    }
