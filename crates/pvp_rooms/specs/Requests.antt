-- Room for copies of what is sent.
use Rattle.std.specs.Prelude.{◌≡◌, ℕ, ◌≤◌, [], vec_capacity}
use Rattle.pvp_rooms.specs.declared.requests.SentRoom.{SentRoom}

-- both copies are empty, with room for so many envelopes
pub record HasRoom (count : ℕ) (room : SentRoom) : Type 0 where
  pub no_record : room.recorded.items ≡ []
  pub no_receipt : room.receipted.items ≡ []
  pub for_record : count ≤ vec_capacity room.recorded
  pub for_receipt : count ≤ vec_capacity room.receipted
