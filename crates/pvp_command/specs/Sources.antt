-- What a request reads.
use denote.Ref.{Bor}
use Rattle.pvp_places.specs.Orders.{setup_of}
use Rattle.std.specs.Prelude.{ℕ, List, [], map, Option, Some, None, option_map}
use Rattle.pvp_text.specs.declared.script.Kind.{Kind}
use Rattle.pvp_text.specs.declared.script.Kind.TheVariants as kinds
use Rattle.pvp_command.specs.declared.explain.Sources.{Sources}
use Rattle.pvp_command.specs.declared.request.Request.{Request}
use Rattle.pvp_command.specs.declared.request.Request.TheVariants as asked

-- the names of its files, and of what kind its script is
pub record Names : Type 0 where
  pub kind : Kind
  pub setup : List ℕ
  pub script : Option (List ℕ)
  pub journals : List (List ℕ)

-- the journals that are named, where there are some
abbrev pub journals_in : Option (Bor (List (Bor (List ℕ)))) → List (List ℕ)
journals_in None = []
journals_in (Some names) = map (λ name. name.now) names.now

abbrev pub names_of : Sources → Names
names_of sources = record {
  kind = sources.kind;
  setup = sources.setup.now;
  script = option_map (λ name. name.now) sources.script;
  journals = journals_in sources.journals;
}

-- an audit reads journals
abbrev pub journals_of : Request → List (List ℕ)
journals_of (asked.Audit how setup journals) = map (λ name. name.now) journals.items
journals_of _ = []

-- THE SOURCES OF A REQUEST: its setup, its script where it has one, and of what kind that is, and journals; the codes
-- are in no file
abbrev pub sources_of : Request → Option Names
sources_of (asked.Check setup) = Some (record { kind = kinds.Book; setup = setup.now; script = None; journals = [] })
sources_of (asked.Book setup script) =
    Some (record { kind = kinds.Book; setup = setup.now; script = Some script.now; journals = [] })
sources_of (asked.Play show frame setup script fails) =
    Some (record { kind = kinds.Play; setup = setup.now; script = Some script.now; journals = [] })
sources_of (asked.Live told setup script) =
    Some (record { kind = kinds.Live; setup = setup.now; script = Some script.now; journals = [] })
sources_of (asked.Audit how setup journals) =
    Some (record {
      kind = kinds.Book;
      setup = setup.now;
      script = None;
      journals = map (λ name. name.now) journals.items;
    })
sources_of (asked.Keys setup secret folder) =
    Some (record { kind = kinds.Book; setup = setup.now; script = None; journals = [] })
sources_of (asked.Serve task) =
    Some (record { kind = kinds.Live; setup = setup_of task; script = None; journals = [] })
sources_of asked.Codes = None
