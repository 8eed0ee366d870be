use Rattle.std.proofs.Common.{drop, slice_get, ap, ◌∙◌}
use Rattle.std.specs.FinMap.{values}
use Rattle.table_state.specs.Children.{refers_to}
use Rattle.table_state.specs.Tables.{table_at}
use Rattle.table_state.proofs.ChildLaws.{no_def_child, no_table_child}
use Rattle.table_state.proofs.tables.Tables.child.Goals as goal

-- there is no such table
pub returns-in_default : goal.returns-in_default
returns-in_default c = no_table_child _ c.in_default.ensures' (refers_to c.args.key.now (slice_get c.args.self.now.schema c.args.table.0)) c.args.from

-- it has no definition
pub returns-in_default-2 : goal.returns-in_default-2
returns-in_default-2 c = no_def_child _ (c.in_default.ensures ∙ ap (λ schema. slice_get schema c.args.table.0) c.schema.ensures) c.args.key.now c.args.from (drop c.args.from (values (table_at c.args.self.now c.args.table)))
