-- Lines that were done one after another.
use Rattle.std.proofs.Common.{◌≡◌, ℕ, List, [], ◌∷◌, ◌++◌, Option, Some, None, Result, Ok, Err, IfErr, inl, inr, refl, sym, ap, subst}
use Rattle.pvp_rooms.specs.declared.actor.Actor.{Ghosts}
use Rattle.pvp_parties.specs.declared.party.PartyOf.{PartyOf}
use Rattle.pvp_parties.specs.declared.party.PartyEvent.{PartyEvent}
use Rattle.pvp_parties.specs.declared.party.PartyOutcome.{PartyOutcome}
use Rattle.pvp_journal.specs.Rooms.{Texts}
use Rattle.pvp_serve.specs.declared.desk.Asked.{Asked}
use Rattle.pvp_text.specs.declared.script.LineCode.{LineCode}
use Rattle.pvp_serve.specs.declared.desk.TerminalDesk.{TerminalDesk}
use Rattle.pvp_places.specs.declared.serving.ServeFault.{ServeFault}
use Rattle.pvp_places.specs.declared.serving.ServeFault.TheVariants.{NoMemory, Output}
use Rattle.pvp_places.specs.declared.fault.TerminalWhy.{TerminalWhy}
use Rattle.pvp_journal.specs.declared.room.Letter.{Letter}
use Rattle.pvp_types.specs.declared.setup.Setup.{Setup}
use Rattle.pvp_serve.specs.Desks.{event_of}
use Rattle.pvp_serve.specs.Serving.{HasFlushed, IsUnwritten, TakesIn, own_input}
use Rattle.pvp_serve.specs.Terminals.{At, AreDone, IsDoneUnless, IsLineDone, IsLineLost, IsNextDone, IsUndone, IsUnserved, RoomOf}

module _ {N B L : Type 0} (m : Ghosts (PartyOf B) N PartyEvent PartyOutcome)
    (texts : ℕ → Texts PartyEvent PartyOutcome) (seen : L → Option (List ℕ)) where
  -- an event was taken, and what waited is not written
  pub unkept : (event : PartyEvent) (old between new : RoomOf N B L) (fault told : ServeFault) (result : Result (Unit {0}) ServeFault)
      → result ≡ Err told → told ≡ fault → TakesIn m texts seen (own_input event) old between → IsUnwritten between fault → new ≡ None
      → IfErr result (λ f. IsUndone m texts seen event old new f)
  unkept event old between new fault told result is means takes unwritten gone =
      rw (is, means) (inr (record { between = between; takes = takes; unwritten = unwritten; gone = gone }))

  pub unserved : (event : PartyEvent) (old new : RoomOf N B L) (result : Result (Unit {0}) ServeFault)
      → IfErr result (λ f. IsUndone m texts seen event old new f) → IfErr result (λ f. IsUnserved m texts seen event old new f)
  unserved event old new (Ok done) undone = tt
  unserved event old new (Err fault) undone = inl undone

  -- a line is not done for a desk that stayed as it was, of the same bank
  pub lost-of : (setup own : Setup) (me : ℕ) (text : List ℕ) (desk after : TerminalDesk) (old new : RoomOf N B L) (fault : ServeFault)
      → setup ≡ own → after ≡ desk → IsLineLost m texts seen me desk (event_of setup me text) old new fault
      → IsLineLost m texts seen me after (event_of own me text) old new fault
  lost-of setup own me text desk after old new fault same stays lost =
      subst (λ (d : TerminalDesk). IsLineLost m texts seen me d (event_of own me text) old new fault) (sym stays)
      (subst (λ (s : Setup). IsLineLost m texts seen me desk (event_of s me text) old new fault) same lost)

  -- an event was taken and written, and could not be told
  pub untold : (event : PartyEvent) (old between new : RoomOf N B L) (letters : List (Letter PartyOutcome)) (fault told : ServeFault)
      (result : Result (Unit {0}) ServeFault) → result ≡ Err told → told ≡ fault → TakesIn m texts seen (own_input event) old between
      → HasFlushed m texts seen between new letters → fault ≡ Output → IfErr result (λ f. IsUnserved m texts seen event old new f)
  untold event old between new letters fault told result is means takes written so =
      rw (is, means) (inr (record { between = between; letters = letters; takes = takes; written = written; told = so }))

  -- memory to read a line was refused
  pub unread : (me : ℕ) (desk : TerminalDesk) (asked : Result (Option PartyEvent) LineCode) (old new : RoomOf N B L) → new ≡ old
      → IsLineLost m texts seen me desk asked old new NoMemory
  unread me desk (Ok (Some event)) old new same = inl (refl, same)
  unread me desk (Ok None) old new same = (refl, same)
  unread me desk (Err code) old new same = (refl, same)

module _ {N B L : Type 0} (m : Ghosts (PartyOf B) N PartyEvent PartyOutcome)
    (texts : ℕ → Texts PartyEvent PartyOutcome) (seen : L → Option (List ℕ))
    (safe : RoomOf N B L → Type 0) where
  -- what is asked for, or refused, leaves the lines behind it where they are
  unless-stays : (why : Option TerminalWhy) (event : PartyEvent) (old new : RoomOf N B L) (desk after : TerminalDesk)
      → IsDoneUnless m texts seen safe why event old new desk after → after.lines.items ≡ desk.lines.items
  unless-stays None event old new desk after done = ap (λ (d : TerminalDesk). d.lines.items) done.left
  unless-stays (Some why) event old new desk after same = ap (λ (d : TerminalDesk). d.lines.items) same.1

  pub lines-stay : (me : ℕ) (asked : Result (Option PartyEvent) LineCode) (old new : RoomOf N B L) (desk after : TerminalDesk)
      → IsLineDone m texts seen safe me asked old new desk after → after.lines.items ≡ desk.lines.items
  lines-stay me (Ok (Some event)) old new desk after done = unless-stays _ event old new desk after done
  lines-stay me (Ok None) old new desk after same = ap (λ (d : TerminalDesk). d.lines.items) same.1
  lines-stay me (Err code) old new desk after same = ap (λ (d : TerminalDesk). d.lines.items) same.1

  -- a line is done for the same actor of the same bank
  pub done-of : (setup own : Setup) (actor me : ℕ) (text : List ℕ) (old new : RoomOf N B L) (desk after : TerminalDesk)
      → setup ≡ own → actor ≡ me → IsLineDone m texts seen safe actor (event_of setup actor text) old new desk after
      → IsLineDone m texts seen safe me (event_of own me text) old new desk after
  done-of setup own actor me text old new desk after same is done =
      subst (λ (s : Setup). IsLineDone m texts seen safe me (event_of s me text) old new desk after) same
      (subst (λ (n : ℕ). IsLineDone m texts seen safe n (event_of setup n text) old new desk after) is done)

  pub one-more : (me : ℕ) (lines : List Asked) (asked : Asked) (from between to : At N B L) → AreDone m texts seen safe me lines from between
      → IsNextDone m texts seen safe me asked between to → AreDone m texts seen safe me (lines ++ asked ∷ []) from to
  one-more me [] asked from between to none next =
      (to, subst (λ (s : At N B L). IsNextDone m texts seen safe me asked s to) none next, refl)
  one-more me (first ∷ lines) asked from between to (second, done, rest) next =
      (second, done, one-more me lines asked second between to rest next)
