use Rattle.std.proofs.Common.{◌∙◌, sym}
use Rattle.table_state.specs.Tables.{table_at}
use Rattle.instances.specs.Views.{selects}
use Rattle.instances.proofs.OnlyLaws.{where_in, where_none, where_out}
use Rattle.instances.proofs.collecting.selected_row.Goals as goal

pub returns-in-None : goal.returns-in-None
returns-in-None c = where_none (selects c.args.root.now.filter) (table_at c.args.tables.now c.args.root.now.table) c.args.key.now c.in-None.ensures

pub returns-then-selects : goal.returns-then-selects
returns-then-selects c = where_in (selects c.args.root.now.filter) (table_at c.args.tables.now c.args.root.now.table) c.args.key.now c.in-Some.row.now c.in-Some.ensures (sym c.selects.ensures ∙ c.if-selects.true)

pub returns-else-selects : goal.returns-else-selects
returns-else-selects c = where_out (selects c.args.root.now.filter) (table_at c.args.tables.now c.args.root.now.table) c.args.key.now c.in-Some.row.now c.in-Some.ensures (sym c.selects.ensures ∙ c.if-selects.false)
