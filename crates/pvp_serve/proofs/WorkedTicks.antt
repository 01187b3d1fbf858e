-- What is due at a tick, by rows: of a site that waits 3 ticks of 50 milliseconds at the least.
use Rattle.std.proofs.Common.{◌≡◌, ℕ, Bool, true, false, refl}
use Rattle.vr_types.specs.declared.event.Status.{Status}
use Rattle.vr_types.specs.declared.event.Status.TheVariants.{Normal, Change, Recovering, Down}
use Rattle.pvp_serve.specs.declared.patience.Due.TheVariants.{Nothing, Restart, Beat, Ping, Timer}
use Rattle.pvp_serve.specs.declared.patience.Look.{Look}
use Rattle.pvp_serve.specs.declared.patience.Patience.{Patience}
use Rattle.pvp_serve.specs.Patience.{fresh_patience, due}

-- a site of view 0 with one row, executed, of which nobody waits for anything
abbrev looks : Status → Bool → Look
looks status is_primary =
    record { status = status; view = 0; primary = 200; is_primary = is_primary; log = 1; done = 1; owes = false }

-- it has stood so for so many ticks, and said nothing new for so many
abbrev stood : Status → ℕ → ℕ → Patience
stood status quiet same = record (fresh_patience 3 50) { status = status; quiet = quiet; same = same; done = 1 }

down : due (stood Down 0 0) (looks Down false) ≡ Restart
down = refl

-- a primary beats while it has something new to say, and for five beats more; then it pings
new_row : due (record (stood Normal 0 90) { done = 0 }) (looks Normal true) ≡ Beat
new_row = refl

owing : due (stood Normal 0 90) (record (looks Normal true) { owes = true }) ≡ Beat
owing = refl

fifth : due (stood Normal 0 4) (looks Normal true) ≡ Beat
fifth = refl

sixth : due (stood Normal 0 5) (looks Normal true) ≡ Ping
sixth = refl

-- a backup waits, and then its timer runs out
backup_waits : due (stood Normal 1 0) (looks Normal false) ≡ Nothing
backup_waits = refl

backup_is_out : due (stood Normal 2 0) (looks Normal false) ≡ Timer
backup_is_out = refl

-- a site that recovers asks again once its pause is over, and not before
asks_again : due (record (stood Recovering 0 0) { rest = 1 }) (looks Recovering false) ≡ Beat
asks_again = refl

asks_later : due (record (stood Recovering 0 0) { rest = 2 }) (looks Recovering false) ≡ Nothing
asks_later = refl

-- one in change says again what it said, until its timer runs out; alone it waits on
says_again : due (record (stood Change 0 0) { rest = 1 }) (looks Change false) ≡ Beat
says_again = refl

change_is_out : due (stood Change 2 0) (looks Change false) ≡ Timer
change_is_out = refl

alone : due (record (stood Change 2 0) { heard = false; rest = 2 }) (looks Change false) ≡ Nothing
alone = refl

-- a backup's wait counts whoever else is heard; it counts anew in another view; a number that was drawn makes it longer
unheard_backup_is_out : due (record (stood Normal 2 0) { heard = false }) (looks Normal false) ≡ Timer
unheard_backup_is_out = refl

waits_anew_in_another_view : due (stood Normal 2 0) (record (looks Normal false) { view = 1 }) ≡ Nothing
waits_anew_in_another_view = refl

waits_longer_by_chance : due (record (stood Normal 2 0) { drawn = 255 }) (looks Normal false) ≡ Nothing
waits_longer_by_chance = refl

-- a long log takes longer to come, so a site in change says again and waits on
waits_for_a_long_log : due (stood Change 2 0) (record (looks Change false) { log = 60000 }) ≡ Beat
waits_for_a_long_log = refl

-- rows that are not executed are no news; a site that recovers has no timer; one that is alone in change says again too
no_news_of_rows_that_wait : due (stood Normal 0 5) (record (looks Normal true) { log = 2 }) ≡ Ping
no_news_of_rows_that_wait = refl

recovers_without_a_timer : due (record (stood Recovering 2 0) { rest = 2 }) (looks Recovering false) ≡ Nothing
recovers_without_a_timer = refl

alone_says_again : due (record (stood Change 2 0) { heard = false; rest = 1 }) (looks Change false) ≡ Beat
alone_says_again = refl
