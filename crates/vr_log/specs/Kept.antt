-- How the log and the clients' table and the machine of a running site fit together.
use Rattle.std.specs.Prelude.{◌≡◌, ℕ, ◌-◌, ◌≤◌, List, length, take, slice_get, Option, option_map}
use Rattle.vr_types.specs.declared.machine.Machine.{Ghosts}
use Rattle.vr_types.specs.declared.message.EnvelopeOf.{EnvelopeOf}
use Rattle.vr_types.specs.declared.message.MsgOf.TheVariants.{Reply}
use Rattle.vr_types.specs.declared.row.RowOf.{RowOf}
use Rattle.vr_types.specs.Group.{actor_of}
use Rattle.vr_types.specs.Execution.{held_after, answer_at}
use Rattle.vr_types.specs.Rows.{last_of, newest}
use Rattle.vr_log.specs.declared.kept.AnswerOf.{AnswerOf}
use Rattle.vr_log.specs.declared.kept.Kept.{Kept}
use Rattle.vr_log.specs.Clients.{newest_in, reply_in}

-- the answer to the row at a place, counted from 1
abbrev pub answer_to : {H C R O S : Type 0} → Ghosts H C R O S → H → List (RowOf C) → ℕ → Option (AnswerOf R)
answer_to m start log place =
    option_map
    (λ row. record { client = row.client; number = row.number; reply = answer_at m start log place row })
    (slice_get log (place - 1))

-- what a client was last answered: the number of its last executed row, and the answer to it
abbrev pub last_answer : {H C R O S : Type 0} → Ghosts H C R O S → H → List (RowOf C) → ℕ → Option (ℕ × R)
last_answer m start executed client =
    option_map (λ placed. (placed.1.number, answer_at m start executed placed.0 placed.1)) (last_of executed client)

-- no more rows are executed than there are, and the machine counts those that are
pub record IsReady {H C R O S : Type 0} (m : Ghosts H C R O S) (k : Kept H C R O S) : Type 0 where
  pub within : k.done ≤ length k.log
  pub count : m.count k.machine ≡ k.done

-- a log begins with the executed rows
pub record KeepsExecuted {H C R O S : Type 0} (k : Kept H C R O S) (log : List (RowOf C)) : Type 0 where
  pub within : k.done ≤ length log
  pub same : take k.done log ≡ take k.done k.log

-- The machine started from `start` and executed the first `done` rows; the table says of each client what the log and
-- the executed rows say.
pub record IsKept {H C R O S : Type 0} (m : Ghosts H C R O S) (start : H) (k : Kept H C R O S) : Type 0 where
  pub within : k.done ≤ length k.log
  pub count : m.count k.machine ≡ k.done
  pub held : k.machine ≡ held_after m start (take k.done k.log)
  pub newest : (q : ℕ) → newest_in k.clients q ≡ newest k.log q
  pub replies : (q : ℕ) → reply_in k.clients q ≡ last_answer m start (take k.done k.log) q

-- an answer in an envelope
abbrev pub reply_mail : {C R O : Type 0} → ℕ → ℕ → AnswerOf R → EnvelopeOf C R O
reply_mail me view answer =
    record {
      from = actor_of me;
      to = answer.client;
      msg = Reply (record { view = view; number = answer.number; reply = answer.reply });
    }
