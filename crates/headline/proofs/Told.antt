-- What clients were told, from the laws of the sites alone.
use Rattle.std.proofs.Common.{◌≡◌, ◌⊎◌, inl, inr, ℕ, ◌-◌, ◌<◌, ◌≤◌, List, length, take, slice_get, Some, refl, sym, ap, ◌∙◌, subst, arith}
use Rattle.std.specs.Prelude.{Contains}
use Rattle.std.proofs.lemmas.Option.{slice_get_within}
use Rattle.pvp_types.specs.declared.setup.Setup.{Setup}
use Rattle.pvp_types.specs.declared.command.Cmd.{Cmd}
use Rattle.pvp_types.specs.declared.command.Reply.{Reply as Answer}
use Rattle.pvp_types.specs.declared.command.PayOrder.{PayOrder as PaymentOrder}
use Rattle.vr_types.specs.declared.cell.Boot.{Boot}
use Rattle.vr_types.specs.declared.event.Status.TheVariants.{Normal}
use Rattle.vr_types.specs.declared.message.MsgOf.{MsgOf}
use Rattle.vr_types.specs.declared.message.MsgOf.TheVariants.{Reply}
use Rattle.vr_types.specs.declared.message.ReplyOf.{ReplyOf}
use Rattle.vr_types.specs.Group.{actor_of}
use Rattle.vr_types.specs.Site.{Site, executed_rows}
use Rattle.vr_types.specs.Choice.{Choice, IsRight}
use Rattle.vr_types.specs.Execution.{answer_at}
use Rattle.agreement.specs.Worlds as worlds
use Rattle.agreement.specs.Worlds.{Replied}
use Rattle.agreement.specs.Promises.{row_at, IsRising, Begins, Tells, IsExecuted, answered_rows}
use Rattle.agreement.proofs.Beginnings.{begins-take, begins_from}
use Rattle.agreement.proofs.Answering.{executed_begins, answer-begins, reply-at}
use Rattle.agreement.proofs.Laws as sites
use Rattle.pvp_book.specs.Ledger.{opening}
use Rattle.pvp_book.specs.Answer.{Row}
use Rattle.headline.specs.Machine.{book}
use Rattle.rtgs_node.specs.Node.{Envelope}
use Rattle.headline.specs.declared.step.Move.{Move}
use Rattle.headline.specs.Bank.{Bank}
use Rattle.headline.specs.Legal.{Moment}
use Rattle.headline.specs.Replies.{IsSiteOf, WasTold, HasAnswered}
use Rattle.headline.proofs.Basics.{some-same, at-append}
use Rattle.headline.proofs.Invariant.{SitesWorld, SitesEvents, IsReply, Holds}

abbrev the_reply : ReplyOf Answer → MsgOf Cmd Answer PaymentOrder
the_reply said = Reply said

-- a REPLY says no other
says : (a b : ReplyOf Answer) → the_reply a ≡ the_reply b → a ≡ b
says a b e = cc

module _ {setup : Setup} {choose : Choice Cmd} {f : ℕ} {cells : List Boot} (right : IsRight f choose) {moves : List Move} {bank : Bank}
    (h : Holds setup choose f cells moves bank) where
  pub rise : (x : Site Cmd) → Contains bank.sites x → IsRising x.log
  rise x in' = sites.rising choose f right cells h.events h.world h.alone x (subst (λ (l : List (Site Cmd)). Contains l x) (sym h.sites) in')

  tells : (e : Envelope) (said : ReplyOf Answer) → WasTold bank e said → (r : IsReply setup choose f cells moves bank h.world e)
      → Tells book (opening setup) r.reply e.to said.number said.reply
  tells e said told r = record { envelope = e; is = r.is; to = refl; view = said.view; msg = told.is }

  pub agree : (d e : Envelope) (a b : ReplyOf Answer) → WasTold bank d a → WasTold bank e b → d.to ≡ e.to → a.number ≡ b.number → a.reply ≡ b.reply
  agree d e a b told too same number =
      let p = h.replies d a told.posted told.is in
      let q = h.replies e b too.posted too.is in
      sites.one_answer choose f right cells h.events h.world h.alone book (opening setup) p.reply q.reply d.to a.number a.reply b.reply p.among
      q.among (tells d a told p)
      (subst (λ c. Tells book (opening setup) q.reply c a.number b.reply) (sym same)
      (subst (λ n. Tells book (opening setup) q.reply e.to n b.reply) (sym number) (tells e b too q)))

  -- each REPLY is for a row that its sender had executed, at the moment at which it was sent
  module _ (e : Envelope) (said : ReplyOf Answer) (told : WasTold bank e said) where
    abbrev pub from : IsReply setup choose f cells moves bank h.world e
    from = h.replies e said told.posted told.is

    abbrev pub r : Replied Cmd
    r = from.reply

    pub done : IsExecuted r
    done = sites.executed choose f right cells h.events h.world h.alone r from.among

    begins : Begins (executed_rows r.sender) r.sender.log
    begins = executed_begins r.sender

    within : r.place ≤ length (executed_rows r.sender)
    within = let low = slice_get_within (executed_rows r.sender) (r.place - 1) done.row done.is_there in let counted = done.counted in omega arith

    pub spoken : record {
      from = actor_of r.from;
      to = done.row.client;
      msg = Reply (record {
        view = r.sender.view;
        number = done.row.number;
        reply = answer_at book (opening setup) (executed_rows r.sender) r.place done.row;
      });
    } ≡ e
    spoken =
        ap (λ (a : Answer). record {
          from = actor_of r.from;
          to = done.row.client;
          msg = Reply (record { view = r.sender.view; number = done.row.number; reply = a });
        })
        (sym (answer-begins book (opening setup) (executed_rows r.sender) r.sender.log r.place done.row begins done.is_there))
        ∙ some-same _ e (sym (reply-at book (opening setup) r.from r.sender r.place done.row at) ∙ from.is)
      where
        at : slice_get r.sender.log (r.place - 1) ≡ Some done.row
        at =
            subst (λ (l : List Row). slice_get l (r.place - 1) ≡ Some done.row) begins.is
            (at-append (executed_rows r.sender) begins.rest (r.place - 1) done.row done.is_there)

    abbrev pub moment : Moment setup choose f cells moves bank
    moment = from.moment

    abbrev answer : Answer
    answer = answer_at book (opening setup) (executed_rows r.sender) r.place done.row

    pub words : record { view = r.sender.view; number = done.row.number; reply = answer } ≡ said
    words = says _ said (ap (λ (d : Envelope). d.msg) spoken ∙ told.is)

    abbrev pub answered : HasAnswered setup moment.then e said
    answered = record {
      sender = r.from;
      site = r.sender;
      is_there = from.is_there;
      from = sym (ap (λ (d : Envelope). d.from) spoken);
      in_view = ap (λ (s : ReplyOf Answer). s.view) words;
      place = r.place;
      row = done.row;
      counted = done.counted;
      executed = done.is_there;
      client = ap (λ (d : Envelope). d.to) spoken;
      named = ap (λ (s : ReplyOf Answer). s.number) words;
      right = sym (ap (λ (s : ReplyOf Answer). s.reply) words);
    }

    pub rows-are : take r.place (executed_rows r.sender) ≡ answered_rows r
    rows-are = begins-take r.place begins within

  module _ (early : Bank) (before : SitesEvents) (first : SitesWorld) (legal : worlds.IsLegal choose f cells before first) (same : first.sites ≡ early.sites)
      (more : SitesEvents) (run : worlds.IsRun choose f first more h.world) where
    either : (x : Site Cmd) → IsSiteOf early bank x → Contains first.sites x ⊎ Contains h.world.sites x
    either x (inl in') = inl (subst (λ (l : List (Site Cmd)). Contains l x) (sym same) in')
    either x (inr in') = inr (subst (λ (l : List (Site Cmd)). Contains l x) (sym h.sites) in')

    pub right_answers : (e : Envelope) (said : ReplyOf Answer) (x : Site Cmd) (place : ℕ) (row : Row) → WasTold bank e said → IsSiteOf early bank x → 1 ≤ place
        → row_at (executed_rows x) place ≡ Some row → row.client ≡ e.to → row.number ≡ said.number
        → said.reply ≡ answer_at book (opening setup) (executed_rows x) place row
    right_answers e said x place row told in' low at client named =
        let r = h.replies e said told.posted told.is in
        sites.right_answer choose f right cells before more first h.world legal run book
        (opening setup) r.reply said.reply x place row r.among (either x in') low at
        (subst (λ c. Tells book (opening setup) r.reply c row.number said.reply) (sym client)
        (subst (λ n. Tells book (opening setup) r.reply e.to n said.reply) (sym named) (tells e said told r)))

    pub begin : (e : Envelope) (said : ReplyOf Answer) (told : WasTold bank e said) (x : Site Cmd) → IsSiteOf early bank x → x.status ≡ Normal
        → said.view < x.view
        → let by = answered e said told in Begins (take by.place (executed_rows by.site)) x.log
    begin e said told x in' normal low =
        let r = h.replies e said told.posted told.is in
        let view_is = ap (λ (s : ReplyOf Answer). s.view) (words e said told) in
        begins_from (sym (rows-are e said told))
        (sites.lasting choose f right cells before more first h.world legal run r.reply x r.among (either x in') normal (omega arith))
