use Rattle.stored_tier.specs.Performing.{reply_of}
use Rattle.cache_engine.proofs.ConsoleSteps.{writes_served}
use Rattle.cache_engine.proofs.ServingLaws.{table_served}
use Rattle.cache_engine.proofs.serving.serve_console.Goals as goal

pub returns-in-CreateTable-clause-performs : goal.returns-in-CreateTable-clause-performs
returns-in-CreateTable-clause-performs g c =
    table_served c.args.tier.now c.create_table.new.tier _ _ c.args.request.now c.in-CreateTable.declaration
    (reply_of c.create_table.result) c.in-CreateTable.is c.create_table.ensures.performs

pub returns-in-Writes-clause-performs : goal.returns-in-Writes-clause-performs
returns-in-Writes-clause-performs g c =
    writes_served c.others_shown_law.ensures.entries c.round_shown_law.ensures c.args.tier.now _ _ c.args.request.now
    c.in-Writes.writes c.as_slice.result.now c.write_console.result c.in-Writes.is c.as_slice.ensures
    c.write_console.ensures.serves
