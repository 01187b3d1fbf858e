-- How a play is to be shown, as the words of a command line have it.
use denote.Ref.{Bor}
use Rattle.std.specs.Prelude.{ℕ, ◌+◌, ◌^◌, Bool, true, ◌&&◌, List, position, Option, Some, None, is_none, option_map, nat_le, if◌then◌else◌}
use Rattle.std.specs.Result.{result_ok}
use Rattle.pvp_text.specs.ScriptFields as script
use Rattle.pvp_play.specs.declared.notes.Telling.TheVariants as telling
use Rattle.pvp_types.specs.declared.setup.Setup.{Setup}
use Rattle.pvp_places.specs.Names.{actor_named}
use Rattle.pvp_picture.specs.declared.frame.Frame.{Frame}
use Rattle.pvp_picture.specs.declared.picture.Steps.{Steps}
use Rattle.pvp_command.specs.declared.fault.Fault.{Fault}
use Rattle.pvp_command.specs.declared.fault.Fault.TheVariants.{NoSuchSite, NotToShow, NotToHide}
use Rattle.pvp_command.specs.Fails.{unknown_site}
use Rattle.pvp_play.specs.declared.cells.Fail.{Fail}
use Rattle.pvp_command.specs.declared.shows.Show.{Show}
use Rattle.pvp_command.specs.declared.shows.Show.TheVariants.{Told, Drawn}

-- a number of 32 bits, as scripts spell numbers: without a leading zero
abbrev pub step_at : List ℕ → Option ℕ
step_at word = result_ok (script.number_at (2 ^ 32) word)

-- this one, where there is no word
abbrev pub step_or : ℕ → Option (List ℕ) → Option ℕ
step_or first None = Some first
step_or first (Some word) = step_at word

-- none is named, where there is no word
abbrev pub last_at : Option (List ℕ) → Option (Option ℕ)
last_at None = Some None
last_at (Some word) = option_map (λ last. Some last) (step_at word)

-- the last one does not come before the first
abbrev pub is_after : ℕ → Option ℕ → Bool
is_after first None = true
is_after first (Some last) = nat_le first last

-- steps are counted from 1
abbrev pub are_in_order : Steps → Bool
are_in_order steps = nat_le 1 steps.from && is_after steps.from steps.to

-- steps that are in order
abbrev pub steps_of : Option ℕ → Option (Option ℕ) → Option Steps
steps_of None to = None
steps_of (Some from) None = None
steps_of (Some from) (Some to) = let steps : Steps = record { from = from; to = to } in
    if are_in_order steps then Some steps else None

-- steps are printed where none is named
abbrev pub told_at : Option (List ℕ) → Option (List ℕ) → Option Show
told_at None None = Some (Told telling.Steps)
told_at None (Some to) = None
told_at (Some from) to = None

-- HOW A TRACE IS TO BE SHOWN, where a picture is asked for or not, and where its first and last steps are named so
abbrev pub show_at : Bool → Option (List ℕ) → Option (List ℕ) → Option Show
show_at picture from to =
    if picture then option_map (λ steps. Drawn steps) (steps_of (step_or 1 from) (last_at to)) else told_at from to

-- a name that is no actor's
abbrev pub is_unknown : Setup → List ℕ → Bool
is_unknown setup name = is_none (actor_named setup name)

-- the place of the first of these names that is none's, counted from 1
abbrev pub first_unknown : Setup → List (Bor (List ℕ)) → Option ℕ
first_unknown setup names = option_map (λ k. k + 1) (position (λ name. is_unknown setup name.now) names)

-- of those that alone are to be shown it is told before that of those that are not
abbrev pub unknown_told : Option ℕ → Option ℕ → Option Fault
unknown_told (Some place) hidden = Some (NotToShow place)
unknown_told None hidden = option_map (λ place. NotToHide place) hidden

-- WHICH NAME FOR A PICTURE IS NO ACTOR'S of a setup
abbrev pub unknown_name : Setup → Frame → Option Fault
unknown_name setup frame =
    unknown_told (first_unknown setup frame.only.items) (first_unknown setup frame.hide.items)

-- WHAT A SETUP LACKS of what the words of a play name: a site of which a save is to fail is looked for first
abbrev pub lacking : Option ℕ → Option Fault → Option Fault
lacking (Some site) named = Some (NoSuchSite site)
lacking None named = named

abbrev pub unknown_in : Setup → List Fail → Frame → Option Fault
unknown_in setup fails frame = lacking (unknown_site setup fails) (unknown_name setup frame)
