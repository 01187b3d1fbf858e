use Rattle.headline.proofs.headline_and_replies.Goals as goal

pub returns : goal.returns
returns c = λ setup f early late. record {
  rows = c.headline.ensures.rows setup f early late;
  books = c.headline.ensures.books setup f early late;
  legs = c.headline.ensures.legs setup f early;
  figures = c.headline.ensures.figures setup f early;
  credited_once = c.headline.ensures.credited_once setup f early;
  paid_in = c.headline.ensures.paid_in setup f early;
  done_once = c.headline.ensures.done_once setup f early;
  ordered = c.headline.ensures.ordered setup f early;
  paid = c.headline.ensures.paid setup f early;
  ended_once = c.headline.ensures.ended_once setup f early;
  returned = c.headline.ensures.returned setup f early;
  not_both = c.headline.ensures.not_both setup f early;
  accounts = c.headline.ensures.accounts setup f early;
  covered = c.headline.ensures.covered setup f early late;
  never_short = c.headline.ensures.never_short setup f early;
  rise = c.replies.ensures.rise setup f early;
  executed = c.replies.ensures.executed setup f early;
  one_answer = c.replies.ensures.one_answer setup f early;
  right_answer = c.replies.ensures.right_answer setup f early late;
  stay = c.replies.ensures.stay setup f early late;
  told = c.replies.ensures.told setup f early;
  submitted = c.replies.ensures.submitted setup f early;
  counted = c.replies.ensures.counted setup f early;
}
