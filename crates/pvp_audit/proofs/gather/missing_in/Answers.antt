use Rattle.std.proofs.Common.{◌∙◌, ◌+◌, ◌*◌, length, Some, None, refl}
use Rattle.pvp_types.specs.Setup.{faults}
use Rattle.vr_types.specs.declared.actors.TheConstants.{FIRST_NODE, FIRST_SITE}
use Rattle.pvp_audit.specs.Gathered.{missing_of}
use Rattle.pvp_audit.proofs.Gathering.{missing-parts}
use Rattle.pvp_audit.proofs.gather.missing_in.Goals as goal

pub returns-in-Some : goal.returns-in-Some
returns-in-Some c =
    let setup = c.args.setup.now in
    let journals = c.args.journals.now in
    let nodes = missing_of journals FIRST_NODE (length setup.currencies) in
    let sites = missing_of journals FIRST_SITE (2 * faults setup + 1) in
    missing-parts setup journals c.member_count.result (length setup.currencies) (faults setup) (Some c.in-Some.actor) nodes sites
    c.member_count.ensures.count refl refl c.in-Some.ensures refl refl

pub returns-in-Some-missing_of : goal.returns-in-Some-missing_of
returns-in-Some-missing_of c =
    let setup = c.args.setup.now in
    let journals = c.args.journals.now in
    let sites = missing_of journals FIRST_SITE (2 * faults setup + 1) in
    missing-parts setup journals c.member_count.result c.from.result (faults setup) None (Some c.in-Some-missing_of.actor) sites
    c.member_count.ensures.count (c.from.ensures ∙ c.currency_count.ensures.count) refl c.in_default.ensures c.in-Some-missing_of.ensures refl

pub returns : goal.returns
returns c =
    let setup = c.args.setup.now in
    let journals = c.args.journals.now in
    missing-parts setup journals c.member_count.result c.from.result c.faults.result None None c.missing_of-3.result
    c.member_count.ensures.count (c.from.ensures ∙ c.currency_count.ensures.count) c.faults.ensures.faults c.in_default.ensures
    c.in_default-missing_of.ensures c.missing_of-3.ensures
