use Rattle.std.proofs.Common.{Bool, List, subst}
use Rattle.std.proofs.lemmas.List.{take_all}
use Rattle.pvp_journal.specs.Spelling.{Entry}
use Rattle.pvp_journal.specs.Resumed.{ComesAgain, TookEntries}
use Rattle.pvp_journal.proofs.Replaying.{entries_none, entries_one, entries_never, never_rising, again_of}
use Rattle.pvp_journal.proofs.resume.replay.Goals as goal

pub loop-entry-init : goal.loop-entry-init
loop-entry-init g c = entries_none c.args.actor

pub returns-in_default-clause-found : goal.returns-in_default-clause-found
returns-in_default-clause-found g c = never_rising c.args.actor c.args.entries.now c.in_default.ensures.none

pub returns-then-not-branch-clause-found : goal.returns-then-not-branch-clause-found
returns-then-not-branch-clause-found g c =
    let entry = c.entry-item.result in
    let P : Bool → Type 0 = λ can. ComesAgain c.loop-entry.actor entry.event entry.outcome c.comes_again.new.actor can in
    entries_never c.args.actor c.loop-entry.actor c.comes_again.new.actor c.args.entries.now c.loop-entry.entry-index entry c.loop-entry-test.true
    c.entry-item.is c.loop-entry.invariant (subst P c.if-not-branch.true c.in_ok-comes_again.ensures.so)

pub loop-entry-preserved : goal.loop-entry-preserved
loop-entry-preserved g c =
    let entry = c.entry-item.result in
    let P : Bool → Type 0 = λ can. ComesAgain c.loop-entry.actor entry.event entry.outcome c.comes_again.new.actor can in
    entries_one c.args.actor c.loop-entry.actor c.comes_again.new.actor c.args.entries.now c.loop-entry.entry-index entry c.loop-entry-test.true
    c.entry-item.is c.loop-entry.invariant (subst P c.if-not-branch.false c.in_ok-comes_again.ensures.so) c.in_ok-comes_again.ensures.opens

pub returns-clause-found : goal.returns-clause-found
returns-clause-found g c =
    let P : List Entry → Type 0 = λ entries. TookEntries c.args.actor c.loop-entry.actor entries in
    let took = subst P (take_all c.loop-entry.entry-index c.args.entries.now c.loop-entry-test.false) c.loop-entry.invariant in
    (took, c.in-Some.ensures.rising, c.in-Some.ensures.last)

pub returns-clause-again : goal.returns-clause-again
returns-clause-again g c = λ opening opened.
    let P : List Entry → Type 0 = λ entries. TookEntries c.args.actor c.loop-entry.actor entries in
    let took = subst P (take_all c.loop-entry.entry-index c.args.entries.now c.loop-entry-test.false) c.loop-entry.invariant in
    again_of c.args.actor (record { actor = c.loop-entry.actor; clock = c.in-Some.clock }) c.args.entries.now opening opened took
    c.in-Some.ensures.rising c.in-Some.ensures.last
