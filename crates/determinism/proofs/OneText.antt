-- Two plays of one setup and the same lines, which nothing hinders, print one text.
use Rattle.std.proofs.Common.{◌≡◌, ℕ, Bool, nat_lt, if◌then◌else◌, List, [], ◌∷◌, ◌++◌, length, Option, codes, refl, sym, ap, ◌∙◌, subst}
use Rattle.std.specs.Prelude.{filter}
use Rattle.pvp_types.specs.declared.setup.Setup.{Setup}
use Rattle.vr_types.specs.declared.cell.BootCell.{Ghosts as Cell}
use Rattle.vr_types.specs.contracts.cell.MemCellBootCell.TheImpl.{ghosts as memory}
use Rattle.rtgs_node.specs.Node.{Envelope}
use Rattle.headline.specs.Bank.{Bank}
use Rattle.pvp_text.specs.declared.script.Line.{Line}
use Rattle.pvp_text.specs.declared.script.Statement.{Statement}
use Rattle.pvp_text.specs.declared.script.Statement.TheVariants.{Do, Print, Drain, Skip, Cut, Heal, Chaos, Rest}
use Rattle.pvp_world.specs.declared.fault.WorldFault.{WorldFault}
use Rattle.pvp_world.specs.World.{ShownWorld}
use Rattle.pvp_trace.specs.declared.attempt.Attempt.{Attempt}
use Rattle.pvp_play.specs.declared.cells.Fail.{Fail}
use Rattle.pvp_play.specs.declared.notes.Telling.{Telling}
use Rattle.pvp_play.specs.declared.notes.Telling.TheVariants.{Books, Steps}
use Rattle.pvp_play.specs.BooksText.{books_text}
use Rattle.pvp_play.specs.Chaos.{words_of}
use Rattle.pvp_play.specs.Lines.{Does, Plays, IsOpening, refused_text, print_text, steps_text, line_text, no_notes}
use Rattle.pvp_play.specs.Notes.{notes, notes_text}
use Rattle.pvp_play.specs.Passing.{passed_numbers, is_held, taken_text, skip_text, held_text, passing_text}
use Rattle.pvp_play.specs.Player.{Position, beginning, after_skip, cut_off, cut_without, with_cut}
use Rattle.determinism.specs.Twins.{AreTwins, AreTwinPlayers}
use Rattle.determinism.specs.Plays.{LineIsFree, PlaysFreely, FreePlay}
use Rattle.determinism.proofs.Outcome.{twin-bank, twin-post}
use Rattle.determinism.proofs.Printed.{bank_words, books-same}
use Rattle.determinism.proofs.Twinned.{OneTold, tries-too, drains-too, skips-too, cuts-too, unknown-too, turns-too}

module _ {B : Type 0} (c : Cell B) where
  -- WHAT A LINE DOES
  module _ (p q : Position B) (twins : AreTwinPlayers c.held p q) (p' q' : Position B) (told other : Option WorldFault) where
    stays-too : (a b : Position B) → AreTwinPlayers c.held a b → (one : Option WorldFault) (too : Option WorldFault) → one ≡ too → p' ≡ a → q' ≡ b → told ≡ one
        → other ≡ too → OneTold c told other p' q'
    stays-too a b are one too same x y is is' = record {
      told = is ∙ same ∙ sym is';
      twins = subst (λ r. AreTwinPlayers c.held r q') (sym x) (subst (λ r. AreTwinPlayers c.held a r) (sym y) are);
    }

    does-too : (s : Statement) (x : Does c s p p' told) (y : Does c s q q' other) → LineIsFree c s p p' told x → LineIsFree c s q q' other y
        → OneTold c told other p' q'
    does-too (Do step) x y free too = tries-too c p q twins p' q' step told other x y free too
    does-too Print x y free too = stays-too p q twins _ _ refl x.0 y.0 x.1 y.1
    does-too (Drain turns) x y free too = record { told = x.1 ∙ sym y.1; twins = drains-too c p q twins p' q' turns x.0 y.0 free too }
    does-too (Skip envelopes) x y free too =
        stays-too (after_skip p envelopes) (after_skip q envelopes) (skips-too c p q twins envelopes) _ _ refl x.0 y.0 x.1 y.1
    does-too (Cut actor) x y free too =
        stays-too (with_cut p actor (cut_off p.cut actor)) (with_cut q actor (cut_off q.cut actor))
        (cuts-too c p q twins actor (cut_off p.cut actor) (cut_off q.cut actor) (ap (λ cut. cut_off cut actor) twins.cut)) _ _
        (unknown-too c p q twins actor) x.0 y.0 x.1 y.1
    does-too (Heal actor) x y free too =
        stays-too (with_cut p actor (cut_without p.cut actor)) (with_cut q actor (cut_without q.cut actor))
        (cuts-too c p q twins actor (cut_without p.cut actor) (cut_without q.cut actor) (ap (λ cut. cut_without cut actor) twins.cut)) _ _
        (unknown-too c p q twins actor) x.0 y.0 x.1 y.1
    does-too (Chaos seed turns) x y free too = record {
      told = x.1 ∙ sym y.1;
      twins = (turns-too c turns (words_of seed, p) (words_of seed, q) (x.0.0, p') (y.0.0, q') refl twins x.0.1 y.0.1 free too).1;
    }
    does-too (Rest milliseconds) x y free too = stays-too p q twins _ _ refl x.0 y.0 x.1 y.1

  -- WHAT IT PRINTS
  books-too : (a b : ShownWorld B) (twins : AreTwins c.held a b) → books_text c.held a ≡ books_text c.held b
  books-too a b twins =
      books-same c.held a twins.one_at.list.bank twins.one_at.shows
      ∙ ap (λ (s : Setup). bank_words s twins.one_at.list.bank) twins.setup
      ∙ ap (λ (k : Bank). bank_words b.setup k) (twin-bank c.held a b twins)
      ∙ sym (books-same c.held b twins.other_at.list.bank twins.other_at.shows)

  print-too : (a b : ShownWorld B) (twins : AreTwins c.held a b) (s : Statement) → print_text c.held s a ≡ print_text c.held s b
  print-too a b twins Print = books-too a b twins
  print-too a b twins _ = refl

  passing-too : (s : Statement) (told : Option WorldFault) (from : ℕ) (p q : Position B) → AreTwinPlayers c.held p q
      → passing_text s told from p ≡ passing_text s told from q
  passing-too (Cut actor) told from p q twins = ap (λ (s : Setup). taken_text s (codes "cut") actor told) twins.worlds.setup
  passing-too (Heal actor) told from p q twins = ap (λ (s : Setup). taken_text s (codes "heal") actor told) twins.worlds.setup
  passing-too (Skip envelopes) told from p q twins = ap (λ (n : ℕ). skip_text from n) twins.cursor
  passing-too (Drain turns) told from p q twins =
      ap (λ (n : ℕ). held_text (filter (is_held p.cut p.world.post) (passed_numbers from n))) twins.cursor
      ∙ ap (λ (cut : List ℕ). held_text (filter (is_held cut p.world.post) (passed_numbers from q.cursor))) twins.cut
      ∙ ap (λ (es : List Envelope). held_text (filter (is_held q.cut es) (passed_numbers from q.cursor))) (twin-post c.held p.world q.world twins.worlds)
  passing-too _ told from p q twins = refl

  text-too : (telling : Telling) (line : Line) (p q p' q' : Position B) (told other : Option WorldFault) → AreTwinPlayers c.held p q
      → OneTold c told other p' q'
      → line_text c.held telling line told p p' ≡ line_text c.held telling line other q q'
  text-too Books line p q p' q' told other before one =
      ap (λ (t : Option WorldFault). refused_text line.number t ++ print_text c.held line.statement p'.world) one.told
      ∙ ap (λ (t : List ℕ). refused_text line.number other ++ t) (print-too p'.world q'.world one.twins.worlds line.statement)
  text-too Steps line p q p' q' told other before one =
      let text : Setup → List Envelope → Option WorldFault → ℕ → List Attempt → List ℕ =
      λ setup post told before noted. if nat_lt before (length noted) then notes_text setup post before noted else refused_text line.number told in
      let after = one.twins in
      let steps = ap (λ (s : Setup). text s p'.world.post told (length (notes p.noted)) (notes p'.noted)) after.worlds.setup
      ∙ ap (λ (es : List Envelope). text q'.world.setup es told (length (notes p.noted)) (notes p'.noted)) (twin-post c.held p'.world q'.world after.worlds)
      ∙ ap (λ (t : Option WorldFault). text q'.world.setup q'.world.post t (length (notes p.noted)) (notes p'.noted)) one.told
      ∙ ap (λ (n : Option (List Attempt)). text q'.world.setup q'.world.post other (length (notes n)) (notes p'.noted)) before.noted
      ∙ ap (λ (n : Option (List Attempt)). text q'.world.setup q'.world.post other (length (notes q.noted)) (notes n)) after.noted in
      let passing = ap (λ (t : Option WorldFault). passing_text line.statement t p.cursor p') one.told
      ∙ ap (λ (n : ℕ). passing_text line.statement other n p') before.cursor ∙ passing-too line.statement other q.cursor p' q' after in
      ap (λ (t : List ℕ). t ++ passing_text line.statement told p.cursor p') steps
      ∙ ap (λ (t : List ℕ). steps_text q'.world line.number other (length (notes q.noted)) (notes q'.noted) ++ t) passing

  -- LINES one after another
  plays-too : (telling : Telling) (lines : List Line) (p q p' q' : Position B) (text other : List ℕ) → AreTwinPlayers c.held p q
      → (x : Plays c telling lines p p' text) (y : Plays c telling lines q q' other) → PlaysFreely c telling lines p p' text x
      → PlaysFreely c telling lines q q' other y
      → (text ≡ other) × AreTwinPlayers c.held p' q'
  plays-too telling [] p q p' q' text other twins x y free too =
      (x.1 ∙ sym y.1, subst (λ r. AreTwinPlayers c.held r q') (sym x.0) (subst (λ r. AreTwinPlayers c.held p r) (sym y.0) twins))
  plays-too telling (line ∷ lines) p q p' q' text other twins x y free too =
      let one = does-too p q twins x.between y.between x.first.told y.first.told line.statement x.first.does y.first.does free.0 too.0 in
      let rest = plays-too telling lines x.between y.between p' q' x.after y.after one.twins x.others y.others free.1 too.1 in
      let here = x.first.prints ∙ text-too telling line p q x.between y.between x.first.told y.first.told twins one ∙ sym y.first.prints in
      (x.whole ∙ ap (λ (t : List ℕ). t ++ x.after) here ∙ ap (λ (t : List ℕ). y.before ++ t) rest.0 ∙ sym y.whole, rest.1)

-- new players of one setup
opening-twins : (setup : Setup) (fails : List Fail) (telling : Telling) (p q : Position _) → IsOpening setup fails telling p → IsOpening setup fails telling q
    → AreTwinPlayers memory.held p q
opening-twins setup fails telling p q x y = record {
  worlds = record {
    setup = x.setup ∙ sym y.setup;
    opening = x.cells ∙ sym y.cells;
    trail = x.trail ∙ sym y.trail;
    one_at = x.headline.is_at;
    other_at = y.headline.is_at;
  };
  cursor = ap (λ (r : Position _). r.cursor) x.begins ∙ sym (ap (λ (r : Position _). r.cursor) y.begins);
  cut = ap (λ (r : Position _). r.cut) x.begins ∙ sym (ap (λ (r : Position _). r.cut) y.begins);
  noted = ap (λ (r : Position _). r.noted) x.begins ∙ sym (ap (λ (r : Position _). r.noted) y.begins);
}

module _ (setup : Setup) (fails : List Fail) (telling : Telling) (lines : List Line) (a b : FreePlay setup fails telling lines) where
  abbrev both : (a.text ≡ b.text) × AreTwinPlayers memory.held a.end b.end
  both =
      plays-too memory telling lines a.first b.first a.end b.end a.text b.text (opening-twins setup fails telling a.first b.first a.opens b.opens)
      a.plays b.plays a.free b.free

  pub one-text : a.text ≡ b.text
  one-text = both.0

  pub one-trail : a.end.world.trail ≡ b.end.world.trail
  one-trail = both.1.worlds.trail
