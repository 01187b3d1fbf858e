-- One line more was played.
use Rattle.std.proofs.Common.{◌≡◌, ◌≢◌, ◌⊎◌, inr, ℕ, ◌+◌, ◌<◌, List, [], ◌∷◌, ◌++◌, length, take, get_or, append_assoc, Option, None, Result, Ok, Err, refl, ap, sym, ◌∙◌, subst}
use Rattle.std.proofs.lemmas.List.{append-nil, take_more}
use Rattle.std.specs.Prelude.{IsErrAnd, IfOk, OnErr}
use Rattle.std.proofs.KnownBytes.{Appends-trans}
use Rattle.std.specs.Io.KnownBytes.{Appends}
use Rattle.vr_types.specs.declared.cell.BootCell.{Ghosts as Cell}
use Rattle.pvp_world.specs.declared.fault.WorldFault.{WorldFault}
use Rattle.pvp_text.specs.declared.book.RunFault.{RunFault}
use Rattle.pvp_text.specs.declared.book.RunFault.TheVariants.{NoMemory}
use Rattle.pvp_text.specs.declared.script.Line.{Line}
use Rattle.pvp_play.specs.declared.notes.Telling.{Telling}
use Rattle.pvp_play.specs.declared.notes.Telling.TheVariants.{Steps}
use Rattle.pvp_play.specs.Notes.{notes}
use Rattle.pvp_play.specs.Passing.{passing_text}
use Rattle.pvp_play.specs.Player.{Position}
use Rattle.pvp_play.specs.Lines.{Does, line_text, Prints, Plays, PlaysLine, LineStops, AreStopped, LinesEnd}
use Rattle.pvp_play.proofs.Reliable.{line-keeps}

module _ {B : Type 0} (c : Cell B) (telling : Telling) where
  Plays-append : (lines : List Line) (line : Line) (old mid new : Position B) (before after : List ℕ)
      → Plays c telling lines old mid before → PlaysLine c telling line mid new after → Plays c telling (lines ++ line ∷ []) old new (before ++ after)
  Plays-append [] line old mid new before after none last =
      record {
        between = new;
        before = after;
        after = [];
        first = subst (λ (p : Position B). PlaysLine c telling line p new after) none.0 last;
        others = (refl, refl);
        whole = ap (λ t. t ++ after) none.1 ∙ sym (append-nil after);
      }
  Plays-append (l ∷ lines) line old mid new before after plays last =
      record {
        between = plays.between;
        before = plays.before;
        after = plays.after ++ after;
        first = plays.first;
        others = Plays-append lines line plays.between mid new plays.after after plays.others last;
        whole = ap (λ t. t ++ after) plays.whole ∙ append_assoc plays.before plays.after after;
      }

  -- the next line was played
  pub Plays-more : (lines : List Line) (i : ℕ) (d : Line) (old mid new : Position B) (before after : List ℕ) → i < length lines
      → Plays c telling (take i lines) old mid before → PlaysLine c telling (get_or lines i d) mid new after
      → Plays c telling (take (i + 1) lines) old new (before ++ after)
  Plays-more lines i d old mid new before after within plays last =
      subst (λ ls. Plays c telling ls old new (before ++ after)) (sym (take_more lines i d within))
      (Plays-append (take i lines) (get_or lines i d) old mid new before after plays last)

-- what was written after what was written
pub written-more : (old mid new : Option (List ℕ)) (before after text : List ℕ) → text ≡ after → Appends old mid before → Appends mid new text
    → Appends old new (before ++ after)
written-more old mid new before after text is first later = Appends-trans old mid new before after first (subst (Appends mid new) is later)

-- where memory is refused for a line, those before it were played
pub end-stopped : {B : Type 0} (c : Cell B) (telling : Telling) (first : Position B) (lines : List Line) (last : Position B)
    (result : Result (Unit {0}) RunFault) (old new : Option (List ℕ))
    → IsErrAnd result (λ fault. fault ≡ NoMemory) → AreStopped c telling first lines last old new → LinesEnd c telling first lines last result old new
end-stopped c telling first lines last (Ok done) old new why stopped = absurd why
end-stopped c telling first lines last (Err fault) old new why stopped =
    subst (λ (e : RunFault). LinesEnd c telling first lines last (Err e) old new) (sym why) stopped

-- a text that is the line's, where there is one, is what the line prints
pub text-played : {B S E : Type 0} (c : Cell B) (telling : Telling) (line : Line) (old new : Position B) (told : Option WorldFault) (bytes : S → List ℕ)
    (result : Result S E) (text : List ℕ)
    → Does c line.statement old new told → text ≡ line_text c.held telling line told old new
    → IfOk result (λ s. bytes s ≡ text) → IfOk result (λ s. PlaysLine c telling line old new (bytes s))
text-played c telling line old new told bytes (Ok s) text does is same =
    record { told = told; does = does; prints = same ∙ is; reliable = line-keeps c line.statement old new told does }
text-played c telling line old new told bytes (Err fault) text does is same = tt

-- memory was refused for what a line prints where steps are told
pub steps-stopped : {B T E : Type 0} (c : Cell B) (telling : Telling) (line : Line) (old new : Position B) (told : Option WorldFault)
    (before from : ℕ) (result : Result T E)
    → telling ≡ Steps → Does c line.statement old new told → before ≡ length (notes old.noted) → from ≡ old.cursor
    → OnErr result ((told ≢ None) ⊎ (before < length (notes new.noted)) ⊎ (passing_text line.statement told from new ≢ []))
    → OnErr result (LineStops c telling line old new)
steps-stopped c telling line old new told before from (Ok done) is does count at stopped = tt
steps-stopped c telling line old new told before from (Err fault) is does count at stopped =
    inr (
      told,
      does,
      subst (λ (t : Telling). Prints t line told old new) (sym is)
          (subst (λ (n : ℕ). (told ≢ None) ⊎ (n < length (notes new.noted)) ⊎ (passing_text line.statement told old.cursor new ≢ [])) count
          (subst (λ (n : ℕ). (told ≢ None) ⊎ (before < length (notes new.noted)) ⊎ (passing_text line.statement told n new ≢ [])) at stopped)),
    )
