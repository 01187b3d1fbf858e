-- THE COMPLETE HEADLINE at any two moments of any legal list: of deliveries, losses, repeats, reorderings, timers,
-- view changes, crashes and restarts.
use Rattle.std.specs.Prelude.{ℕ}
use Rattle.pvp_types.specs.declared.setup.Setup.{Setup}
use Rattle.headline.specs.Legal.{LegalList, Continued}
use Rattle.headline.specs.Headline.{RowsAgree, BooksAgree, PairsAreWhole, FiguresAreCovered, CreditedOnce, CreditsWerePaidIn, DoneOnce, DoneWereOrdered, PaidAreDone, EndedOnce, ReturnsAreReturned, DoneOrReturned, AccountsMatch, OrdersAreCovered, NeverShort}
use Rattle.headline.specs.Replies.{LogsRise, AnsweredWereExecuted, AnswersAgree, AnswersAreRight, AnsweredRowsStay, AnswersWereTold, RowsWereSubmitted, RequestsAreCounted}

pub record Headline {setup : Setup} {f : ℕ} (early : LegalList setup f) (late : Continued early) : Type 0 where
  -- any two sites that ever executed command n executed the same one and held equal books there
  pub rows : RowsAgree early.bank late.bank
  pub books : BooksAgree setup early.bank late.bank
  -- each pair settled on both legs or neither
  pub legs : PairsAreWhole setup early.bank
  pub figures : FiguresAreCovered setup early.bank
  -- each payment was credited or debited at most once, and what was not is on the way
  pub credited_once : CreditedOnce setup early.bank
  pub paid_in : CreditsWerePaidIn setup early.bank
  pub done_once : DoneOnce early.bank
  pub ordered : DoneWereOrdered early
  pub paid : PaidAreDone setup early.bank
  pub ended_once : EndedOnce setup early.bank
  pub returned : ReturnsAreReturned setup early.bank
  pub not_both : DoneOrReturned early.bank
  -- each account equals each running site's figure adjusted by the payments on the way
  pub accounts : AccountsMatch setup early.bank
  -- no node is ever short
  pub covered : OrdersAreCovered setup early.bank late.bank
  pub never_short : NeverShort setup f early.bank
  -- the answers to clients agree, are right and last, and a client has no other
  pub rise : LogsRise early.bank
  pub executed : AnsweredWereExecuted early
  pub one_answer : AnswersAgree early.bank
  pub right_answer : AnswersAreRight setup early.bank late.bank
  pub stay : AnsweredRowsStay early late
  pub told : AnswersWereTold early.bank
  -- and each row of a client is what it submitted under that number
  pub submitted : RowsWereSubmitted early
  pub counted : RequestsAreCounted early
