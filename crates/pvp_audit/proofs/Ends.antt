-- Ends that read like where the histories lead read like the world's actors.
use Rattle.std.proofs.Common.{◌≡◌, ℕ, sym, ap, subst, ◌∙◌}
use Rattle.vr_types.specs.Site.{Site, boot_of}
use Rattle.pvp_types.specs.declared.setup.Setup.{Setup}
use Rattle.pvp_types.specs.declared.command.Cmd.{Cmd}
use Rattle.vr_types.specs.Choice.{Choice}
use Rattle.rtgs_node.specs.Shown.{ShownNode}
use Rattle.headline.specs.Bank.{Bank}
use Rattle.headline.proofs.Basics.{some-same}
use Rattle.pvp_world.specs.Client.{ShownClient}
use Rattle.vr_types.specs.declared.cell.MemCell.{MemCell}
use Rattle.pvp_world.specs.World.{ShownWorld}
use Rattle.pvp_rooms.specs.Nodes as nodes
use Rattle.pvp_rooms.specs.Clients as clients
use Rattle.pvp_parties.specs.Alike.{Site as Replica, AreAlikeSites}
use Rattle.pvp_parties.specs.declared.party.PartyOf.TheVariants as party_of
use Rattle.pvp_parties.specs.Made.{memory}
use Rattle.pvp_parties.specs.Parties.{Party, PartyState, AtSite, AtNode, AtClient, Reads}
use Rattle.pvp_audit.specs.Coming.{IsThere}
use Rattle.pvp_audit.specs.Judged.{ShowsState, ReadsWorld}

pub reads_world : (world : ShownWorld MemCell) (number : ℕ) (e : Party) (x : PartyState) → ShowsState world number x → Reads memory e x
    → ReadsWorld world number e
reads_world world number (party_of.Site p) (AtSite x) shown reads = (
  shown.0,
  shown.1,
  record {
    status = reads.status ∙ ap (λ (s : Site Cmd). s.status) shown.2.site;
    view = reads.view ∙ ap (λ (s : Site Cmd). s.view) shown.2.site;
    log = reads.log ∙ ap (λ (s : Site Cmd). s.log) shown.2.site;
    done = reads.done ∙ ap (λ (s : Site Cmd). s.done) shown.2.site;
    known = λ i low. reads.known i low ∙ ap (λ (s : Site Cmd). boot_of s.known i) shown.2.site;
    cell = reads.cell ∙ ap (λ (s : Site Cmd). s.cell) shown.2.site;
  },
)
reads_world world number (party_of.Node p) (AtNode x) shown reads = (x, shown, reads)
reads_world world number (party_of.Client p) (AtClient x) shown reads = (x, shown, reads)
reads_world world number (party_of.Site p) (AtNode x) shown reads = absurd reads
reads_world world number (party_of.Site p) (AtClient x) shown reads = absurd reads
reads_world world number (party_of.Node p) (AtSite x) shown reads = absurd reads
reads_world world number (party_of.Node p) (AtClient x) shown reads = absurd reads
reads_world world number (party_of.Client p) (AtSite x) shown reads = absurd reads
reads_world world number (party_of.Client p) (AtNode x) shown reads = absurd reads

-- a state of such an actor
abbrev pub IsOfKind : Party → PartyState → Type 0
IsOfKind (party_of.Site p) (AtSite x) = Unit {0}
IsOfKind (party_of.Node p) (AtNode x) = Unit {0}
IsOfKind (party_of.Client p) (AtClient x) = Unit {0}
IsOfKind _ _ = ⊥

pub there_kind : (setup : Setup) (choose : Choice Cmd) (bank : Bank) (e : Party) (x : PartyState) → IsThere setup choose bank e x → IsOfKind e x
there_kind setup choose bank (party_of.Site p) x at = subst (λ (s : PartyState). IsOfKind (party_of.Site p) s) (sym at.1) tt
there_kind setup choose bank (party_of.Node p) x at = subst (λ (s : PartyState). IsOfKind (party_of.Node p) s) (sym at.1) tt
there_kind setup choose bank (party_of.Client p) x at = subst (λ (s : PartyState). IsOfKind (party_of.Client p) s) (sym at.1) tt

-- and ends that read like the world's actor read like where the histories lead
pub reads_replay : (world : ShownWorld MemCell) (number : ℕ) (e : Party) (x : PartyState) → ShowsState world number x → IsOfKind e x → ReadsWorld world number e
    → Reads memory e x
reads_replay world number (party_of.Site p) (AtSite x) shown kind reads =
    let same : reads.0 ≡ shown.0 = some-same reads.0 shown.0 (sym reads.1 ∙ shown.1) in
    let alike : AreAlikeSites p.now shown.0 = subst (λ (v : Replica). AreAlikeSites p.now v) same reads.2 in
    record {
      status = alike.status ∙ sym (ap (λ (s : Site Cmd). s.status) shown.2.site);
      view = alike.view ∙ sym (ap (λ (s : Site Cmd). s.view) shown.2.site);
      log = alike.log ∙ sym (ap (λ (s : Site Cmd). s.log) shown.2.site);
      done = alike.done ∙ sym (ap (λ (s : Site Cmd). s.done) shown.2.site);
      known = λ i low. alike.known i low ∙ sym (ap (λ (s : Site Cmd). boot_of s.known i) shown.2.site);
      cell = alike.cell ∙ sym (ap (λ (s : Site Cmd). s.cell) shown.2.site);
    }
reads_replay world number (party_of.Node p) (AtNode x) shown kind reads =
    subst (λ (v : ShownNode). nodes.Reads p.now v) (some-same reads.0 x (sym reads.1 ∙ shown)) reads.2
reads_replay world number (party_of.Client p) (AtClient x) shown kind reads =
    subst (λ (v : ShownClient). clients.Reads p.now v) (some-same reads.0 x (sym reads.1 ∙ shown)) reads.2
reads_replay world number (party_of.Site p) (AtNode x) shown kind reads = absurd kind
reads_replay world number (party_of.Site p) (AtClient x) shown kind reads = absurd kind
reads_replay world number (party_of.Node p) (AtSite x) shown kind reads = absurd kind
reads_replay world number (party_of.Node p) (AtClient x) shown kind reads = absurd kind
reads_replay world number (party_of.Client p) (AtSite x) shown kind reads = absurd kind
reads_replay world number (party_of.Client p) (AtNode x) shown kind reads = absurd kind
