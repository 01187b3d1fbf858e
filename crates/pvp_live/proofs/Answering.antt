-- What an answer to the event of a line says of the seats, of the tally and of what is handed on.
use Rattle.std.proofs.Common.{◌≡◌, ℕ, Option, Some, List, slice_get, slice_set, sym, ap, ◌∙◌, subst}
use Rattle.std.proofs.lemmas.Option.{get_or_from_slice_get}
use Rattle.std.proofs.lemmas.List.{set-get_or}
use Rattle.pvp_rooms.specs.declared.message.Answer.{Answer}
use Rattle.pvp_rooms.specs.declared.message.Answer.TheVariants.{Done, NoMemory, ClockSpent}
use Rattle.pvp_rooms.specs.Rooms.{receipts_after}
use Rattle.pvp_rooms.specs.Seats.{Place}
use Rattle.pvp_links.specs.Puts.{Put}
use Rattle.pvp_parties.specs.declared.party.PartyOutcome.{PartyOutcome}
use Rattle.pvp_live.specs.declared.events.Post.{Post}
use Rattle.pvp_live.specs.declared.refusals.Refused.{Refused}
use Rattle.pvp_live.specs.Effects.{line_effect, fault_of}
use Rattle.pvp_live.specs.Refusals.{refused_after}
use Rattle.pvp_live.specs.Seating.{BankSeat}
use Rattle.pvp_live.specs.Playing.{Kept, Answers, Posts, handed_on, input_of, place_of}

-- what is written back as it was read changes nothing
set_back : (seats : List BankSeat) (at : ℕ) (seat : BankSeat) → slice_get seats at ≡ Some seat → slice_set seats at seat ≡ seats
set_back seats at seat there =
    ap (λ (s : BankSeat). slice_set seats at s) (sym (get_or_from_slice_get seats at seat seat there)) ∙ set-get_or seats at seat

-- an actor was asked at its seat, and the seat has the receipts after its answer
pub answered : (cells : List Place) (post : Post) (old new : List BankSeat) (at : ℕ) (seat after : BankSeat) (answer : Answer PartyOutcome)
    → place_of cells post.actor ≡ Some at → slice_get old at ≡ Some seat
    → after ≡ record seat { receipts = receipts_after (input_of post) seat.receipts answer }
    → new ≡ slice_set old at after → Answers cells post old new (Some answer)
answered cells post old new at seat after (Done clock outcome) place there is changed =
    record { at = at; place = place; seat = seat; there = there; seats = changed ∙ ap (slice_set old at) is }
answered cells post old new at seat after NoMemory place there is changed = changed ∙ ap (slice_set old at) is ∙ set_back old at seat there
answered cells post old new at seat after ClockSpent place there is changed = changed ∙ ap (slice_set old at) is ∙ set_back old at seat there

-- what was answered was told and counted, and what that sends is handed on
pub posts : (cells : List Place) (line : ℕ) (post : Post) (old new : Kept) (mid : List BankSeat) (before : Option Refused)
    (answer : Option (Answer PartyOutcome)) (puts : List Put)
    → Answers cells post old.seats mid answer → new.seats ≡ mid → before ≡ old.refused → new.refused ≡ refused_after before line (fault_of (line_effect answer))
    → puts ≡ handed_on post.actor answer → Posts cells line post old new puts
posts cells line post old new mid before answer puts answers seats was tally handed =
    record {
      answer = answer;
      answered = subst (λ (s : List BankSeat). Answers cells post old.seats s answer) (sym seats) answers;
      refused = tally ∙ ap (λ (b : Option Refused). refused_after b line (fault_of (line_effect answer))) was;
      handed = handed;
    }
