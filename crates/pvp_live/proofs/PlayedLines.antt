-- The lines of a script that were played so far.
use Rattle.std.proofs.Common.{◌≡◌, ℕ, ◌+◌, ◌<◌, List, [], ◌∷◌, ◌++◌, length, take, slice_index_or, refl, sym, ap, ◌∙◌, subst, append_assoc, append-nil}
use Rattle.std.proofs.lemmas.List.{take_more}
use Rattle.pvp_rooms.specs.Seats.{Place}
use Rattle.pvp_rooms.proofs.Hearing.{hears_none, hears_more}
use Rattle.pvp_links.specs.Puts.{Put}
use Rattle.pvp_text.specs.declared.script.Line.{Line}
use Rattle.pvp_live.specs.Events.{statement_post}
use Rattle.pvp_live.specs.Playing.{Kept, PostsWhere, Plays, HandsOver, IsPlaying}

-- one line more
plays_more : (cells : List Place) (done : List Line) (line : Line) (old mid new : Kept) (p q : List Put)
    → Plays cells done old mid p → PostsWhere cells line.number (statement_post line.statement) mid new q → Plays cells (done ++ line ∷ []) old new (p ++ q)
plays_more cells [] line old mid new p q idle posts = (
  new,
  q,
  [],
  subst (λ (s : Kept). PostsWhere cells line.number (statement_post line.statement) s new q) idle.kept posts,
  record { kept = refl; none = refl },
  ap (λ (l : List Put). l ++ q) idle.none ∙ sym (append-nil q),
)
plays_more cells (first ∷ done) line old mid new p q plays posts =
    let rest = plays_more cells done line plays.0 mid new plays.2 q plays.4 posts in
    (plays.0, plays.1, plays.2 ++ q, plays.3, rest, ap (λ (l : List Put). l ++ q) plays.5 ∙ append_assoc plays.1 plays.2 q)

module _ {B : Type 0} (got : B → List Put → Type 0) (cells : List Place) where
  pub playing_none : (kept : Kept) (out : B) → IsPlaying cells [] kept kept got out out
  playing_none kept out = record { puts = []; plays = record { kept = refl; none = refl }; handed = hears_none got out }

  pub playing_more : (lines : List Line) (i : ℕ) (d : Line) (other : List Place) (old mid new : Kept) (x y z : B) → i < length lines → other ≡ cells
      → IsPlaying cells (take i lines) old mid got x y
      → HandsOver other (slice_index_or lines i d).number (statement_post (slice_index_or lines i d).statement) mid new got y z
      → IsPlaying cells (take (i + 1) lines) old new got x z
  playing_more lines i d other old mid new x y z within same played hands =
      let here =
      subst (λ (c : List Place). PostsWhere c (slice_index_or lines i d).number (statement_post (slice_index_or lines i d).statement) mid new hands.puts) same
      hands.posts in
      record {
        puts = played.puts ++ hands.puts;
        plays =
            subst (λ (l : List Line). Plays cells l old new (played.puts ++ hands.puts)) (sym (take_more lines i d within))
            (plays_more cells (take i lines) (slice_index_or lines i d) old mid new played.puts hands.puts played.plays here);
        handed = hears_more got x y z played.puts hands.puts played.handed hands.handed;
      }
