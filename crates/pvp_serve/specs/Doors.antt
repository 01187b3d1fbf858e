-- Who may talk over a stream, and by which key.
use Rattle.std.specs.Prelude.{◌≡◌, ◌≢◌, ℕ, true, List, ◌++◌, Option, Some, None, Result, Ok, Err}
use Rattle.pvp_links.specs.declared.link.Link.{Link}
use Rattle.pvp_links.specs.Fronts.{caller_at, nonce_at}
use Rattle.pvp_links.specs.Sealing.{next, over}
use Rattle.pvp_links.specs.Intakes.{TakesHello}
use Rattle.pvp_places.specs.declared.keys.Keys.{Keys}
use Rattle.pvp_places.specs.declared.serving.Paper.TheVariants as papers
use Rattle.pvp_places.specs.declared.serving.ServeFault.{ServeFault}
use Rattle.pvp_places.specs.declared.serving.ServeFault.TheVariants.{Missing}
use Rattle.pvp_places.specs.KeysFile.{key_with}
use Rattle.pvp_serve.specs.declared.listening.Door.{Door}
use Rattle.pvp_places.specs.declared.keys.Shared.{Shared}
use Rattle.pvp_places.specs.Keys.{hex_text}
use Rattle.pvp_window.specs.declared.reader.Token.{Token}
use Rattle.pvp_window.specs.Readers.{token}

-- the key with a peer: none where frames are not tagged; and a peer without a key is reported (Q6)
abbrev pub IsKeyWith : Option Keys → ℕ → Result (Option (List ℕ)) ServeFault → Type 0
IsKeyWith None peer result = result ≡ Ok None
IsKeyWith (Some keys) peer (Ok key) = (key_with keys.shared.items peer ≡ key) × (key ≢ None)
IsKeyWith (Some keys) peer (Err fault) = (key_with keys.shared.items peer ≡ None) × (fault ≡ Missing papers.Keys peer)

-- the key by which a door knows a caller: where frames are tagged it has one
abbrev pub KnownBy : Option Keys → ℕ → Option (List ℕ) → Type 0
KnownBy None caller key = key ≡ None
KnownBy (Some keys) caller key = (key_with keys.shared.items caller ≡ key) × (key ≢ None)

-- a door knows a caller as the other end of this link: it may be, and it is by the key that the two share
pub record IsKnown (door : Door) (caller : ℕ) (link : Link) : Type 0 where
  pub me : link.me ≡ door.me
  pub peer : link.peer ≡ caller
  pub bank : link.bank ≡ door.bank
  pub known : KnownBy door.keys caller link.key

-- the peer's hello came over this link with its tag, and these bytes behind it; and the link is now that behind it
abbrev pub Shows : Link → Link → List ℕ → Type 0
Shows link now rest = (held : List ℕ) × TakesHello link held (Ok true) rest × (now ≡ next link)

-- WHO IS LET IN: who says so in a hello of this bank, and is known; and shows itself by a tag that is over what it
-- drew for this stream and what this end drew for it
pub record IsLetIn (door : Door) (own : List ℕ) (link : Link) (rest : List ℕ) : Type 0 where
  pub held : List ℕ
  pub caller : ℕ
  pub pair : Link
  pub said : caller_at door.bank held ≡ Ok (Some caller)
  pub known : IsKnown door caller pair
  pub shows : Shows (over (nonce_at held ++ own) pair) link rest

-- WHO ANSWERS A CALL: who shows itself by a tag that is over what this end drew for the stream and what it says it drew
abbrev pub IsAnswered : Link → List ℕ → Link → List ℕ → Type 0
IsAnswered pair own link rest = (theirs : List ℕ) × Shows (over (own ++ theirs) pair) link rest

-- A TOKEN OF A WINDOW is a key in digits, of the actor for which it reads
abbrev pub token_in : Shared → Token
token_in key = token key.actor (hex_text key.key)
