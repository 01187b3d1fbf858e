use Rattle.std.proofs.Common.{◌≡◌, ℕ, ◌<◌, ◌≤◌, max, set, length, List, sym, ap, ◌∙◌, arith}
use Rattle.std.proofs.lemmas.List.{length-set}
use Rattle.vr_types.specs.Site.{boot_of}
use Rattle.vr_types.proofs.Vectors.{greater_none, greater_next}
use Rattle.vr_types.proofs.known.Known.learn.Goals as goal

pub loop-site-init : goal.loop-site-init
loop-site-init c = record { learnt = sym (greater_none _); long = search }

pub loop-site-preserved : goal.loop-site-preserved
loop-site-preserved c =
    let old = c.args.self.now in
    let told = c.args.told.now in
    let site = c.loop-site.site in
    let now = c.loop-site.self in
    let count = c.len-site-end.ensures.is in
    let low : site < length told = omega (arith, count, c.loop-site-test.true) in
    let within : site < length old = omega (arith, low, c.requires) in
    let greatest : c.max.result ≡ max (boot_of now site) (boot_of told site) =
    c.max.ensures ∙ ap (λ a. max a c.get-in-loop-site.result) c.get.ensures
    ∙ ap (max (boot_of now site)) c.get-in-loop-site.ensures in
    let next = ap (λ (xs : List ℕ). set xs site (max (boot_of xs site) (boot_of told site)))
    c.loop-site.invariant.learnt in
    record {
      learnt = c.note.ensures ∙ ap (set now site) greatest ∙ next ∙ greater_next old told site low within;
      long = ap length c.note.ensures ∙ length-set now site _ ∙ c.loop-site.invariant.long;
    }
