use Rattle.session_engine.proofs.InsertDone.{broken_there, changed_there, free_there, taken_there, unbroken_there}
use Rattle.session_engine.proofs.inserting.take_in.Goals as goal

pub change-requires-clause-unbroken : goal.change-requires-clause-unbroken
change-requires-clause-unbroken c =
    unbroken_there c.args.tier.now c.args.id c.args.prepared c.args.weighed c.requires.weighed c.in-None.is

pub returns-then-has_row-clause-taken : goal.returns-then-has_row-clause-taken
returns-then-has_row-clause-taken c =
    taken_there c.args.tier.now c.args.id c.args.prepared c.args.weighed c.args.found c.has_row.result c.has_row.ensures
    c.if-has_row.true

pub returns-in-Some-clause-taken : goal.returns-in-Some-clause-taken
returns-in-Some-clause-taken c =
    free_there c.args.tier.now c.args.tier.now c.args.id c.args.prepared c.args.weighed c.args.found _ c.has_row.result
    c.has_row.ensures c.if-has_row.false
    (broken_there c.args.tier.now c.args.id c.args.prepared c.args.weighed.fault c.in-Some.rule c.in-Some.is)

pub returns-in-None-clause-taken : goal.returns-in-None-clause-taken
returns-in-None-clause-taken c =
    free_there c.args.tier.now c.change.new.tier c.args.id c.args.prepared c.args.weighed c.args.found c.change.result
    c.has_row.result c.has_row.ensures c.if-has_row.false
    (changed_there c.args.tier.now c.change.new.tier c.args.id c.args.prepared c.args.weighed.fault c.change.result c.in-None.is
    c.change.ensures.changed)
