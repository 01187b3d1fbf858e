-- What is told where an input is not taken, and what is handed out.
use Rattle.std.proofs.Common.{◌≡◌, ℕ, ◌==◌, true, List, [], ◌∷◌, ◌++◌, length, map, Option, Some, None, IsSome, Result, Err, IfErr, refl, sym, ap, subst, ◌∙◌, inl, inr, append-nil, arith}
use Rattle.std.proofs.lemmas.Bool.{eqb-true}
use Rattle.pvp_rooms.specs.declared.actor.Actor.{Ghosts}
use Rattle.pvp_rooms.specs.declared.message.Recorded.{Recorded}
use Rattle.pvp_rooms.specs.Rooms.{clock_after}
use Rattle.pvp_wire.specs.declared.stamped.Stamp.{Stamp}
use Rattle.pvp_journal.specs.Rooms.{Texts, Held, Past, Keeps, Flushes, letter, all_written}
use Rattle.pvp_journal.specs.declared.fault.WriteFault.{WriteFault}
use Rattle.pvp_journal.specs.declared.fault.WriteFault.TheVariants as write
use Rattle.pvp_places.specs.declared.serving.ServeFault.{ServeFault}
use Rattle.pvp_places.specs.declared.serving.ServeFault.TheVariants as serve
use Rattle.pvp_places.specs.Told.{write_told}
use Rattle.pvp_links.specs.Puts.{Put}
use Rattle.pvp_parties.specs.declared.party.PartyOutcome.{PartyOutcome}
use Rattle.pvp_parties.specs.Parties.{sent_envelopes}
use Rattle.pvp_journal.specs.declared.room.Letter.{Letter}
use Rattle.pvp_serve.specs.Serving.{puts_in, IsRefused}

-- what is left of a room where an input was not taken
module _ {N A O L : Type 0} (stamp : Option Stamp) (old new : Option (Held N A O L)) where
  pub unwritten : (fault : WriteFault) (told : ServeFault) (result : Result (Unit {0}) ServeFault) → result ≡ Err told → told ≡ write_told fault → IsSome old
      → new ≡ None → IfErr result (λ f. IsRefused stamp old new f)
  unwritten write.Unfit told result is means had gone = rw (is, means) gone
  unwritten write.NoMemory told result is means had gone = rw (is, means) (inr (had, gone))

  pub without_clock : (before after : Held N A O L) → old ≡ Some before → new ≡ Some after → (after ≡ before) × (clock_after before.clock stamp ≡ None)
      → IsRefused stamp old new serve.Clock
  without_clock before after had has stays = rw (had, has) (stays.1, ap (λ (room : Held N A O L). let some : Option (Held N A O L) = Some room in some) stays.0)

  pub without_memory : (before after : Held N A O L) → old ≡ Some before → new ≡ Some after → (after ≡ before) × IsSome (clock_after before.clock stamp)
      → IsRefused stamp old new serve.NoMemory
  without_memory before after had has stays =
      rw (had, has) (inl (stays.1, ap (λ (room : Held N A O L). let some : Option (Held N A O L) = Some room in some) stays.0))

pub puts-append : (me : ℕ) (a b : List (Letter PartyOutcome)) → puts_in me (a ++ b) ≡ puts_in me a ++ puts_in me b
puts-append me [] b = refl
puts-append me (letter ∷ a) b =
    ap (λ (l : List Put). let p : Put = record { actor = me; clock = letter.clock; sent = sent_envelopes letter.outcome } in p ∷ l) (puts-append me a b)

-- a list that has no length is empty
pub nothing-in : {A : Type 0} (xs : List A) → (length xs == 0) ≡ true → xs ≡ []
nothing-in [] none = refl
nothing-in (x ∷ xs) none = absurd (omega (arith, eqb-true _ _ none))

-- a history of which nothing is pending is written, all of it
written_all : {E O : Type 0} (past : Past E O) → past.pending ≡ [] → past ≡ all_written past
written_all {E} {O} past none =
    ap (λ (p : List (Recorded E O)). let q : Past E O = record past { pending = p } in q) none
    ∙ ap (λ (w : List (Recorded E O)). let q : Past E O = record past { written = w; pending = [] } in
    q) (sym (ap (λ (p : List (Recorded E O)). past.written ++ p) none ∙ append-nil past.written))

-- where nothing waits, nothing has to be written
module _ {N A E O L : Type 0} (m : Ghosts A N E O) (texts : ℕ → Texts E O) (seen : L → Option (List ℕ)) (room : Held N A O L) where
  nothing_pending : (pending : List (Recorded E O)) → (length room.waiting == 0) ≡ true → room.waiting ≡ map letter pending → pending ≡ []
  nothing_pending [] none waits = refl
  nothing_pending (r ∷ more) none waits =
      let zero : length room.waiting ≡ 0 = eqb-true _ _ none in
      let some : length room.waiting ≡ length (letter r ∷ map letter more) = ap length waits in
      absurd (omega (arith, zero, some))

  pub flushed_already : (length room.waiting == 0) ≡ true → Flushes m texts seen room room []
  flushed_already none = λ past keeps.
      let is = nothing_pending past.pending none keeps.waiting in (
        sym (ap (λ (p : List (Recorded E O)). map letter p) is),
        subst (λ (p : Past E O). Keeps m texts seen room p) (written_all past is) keeps,
      )
