use Rattle.std.proofs.Common.{sym, ◌∙◌}
use Rattle.cache_engine.proofs.ImportingLaws.{rows_read, table_grouped}
use Rattle.cache_engine.proofs.importing.inserts_for.Goals as goal

pub returns-then-is_written_through : goal.returns-then-is_written_through
returns-then-is_written_through c =
    table_grouped c.args.tier.now c.args.word.now c.args.bytes.now c.in-Ok.name c.in-Ok.ensures.name c.in-Ok.ensures.folds c.in-Some.table c.in-Some-get.def.now
    (sym c.find_table.ensures ∙ c.in-Some.is) (sym c.in-Some-get.ensures) (sym c.if-is_written_through.ensures)

pub returns : goal.returns
returns c =
    rows_read c.args.tier.now c.args.word.now c.args.bytes.now c.in-Ok.name c.in-Ok.ensures.name c.in-Ok.ensures.folds c.in-Some.table c.in-Some-get.def.now
    (sym c.find_table.ensures ∙ c.in-Some.is) (sym c.in-Some-get.ensures) (sym c.if-is_written_through.ensures) c.read_inserts.result c.read_inserts.ensures
