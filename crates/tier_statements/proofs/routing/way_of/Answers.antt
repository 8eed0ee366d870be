use Rattle.tier_statements.proofs.RouteLaws.{gives_refused, only_read_refused, through_refused}
use Rattle.tier_statements.proofs.routing.way_of.Goals as goal

pub returns-then-is_written_through : goal.returns-then-is_written_through
returns-then-is_written_through g c = λ t has.
    gives_refused _ _ _ (through_refused c.args.schema.now _ t has c.args.level c.args.table c.if-is_written_through.ensures c.if-level-lt3.false)
    (c.refused_table.ensures t has.definitions)

pub returns-then-is_only_read : goal.returns-then-is_only_read
returns-then-is_only_read g c = λ t has.
    gives_refused _ _ _ (only_read_refused c.args.schema.now _ t has c.args.level c.args.table c.if-is_written_through.ensures c.if-is_only_read.ensures c.if-level-lt2.true)
    (c.refused_table-then-is_only_read.ensures t has.definitions)
