use Rattle.std.proofs.Common.{◌∙◌, ap, is_none, sym}
use Rattle.std.specs.FinMap.{values}
use Rattle.std.specs.List.{list_any}
use Rattle.evaluator.specs.Writes.{selects}
use Rattle.indexed_rows.specs.Rows.{Table}
use Rattle.stored_tier.proofs.GatherLaws.{any_none, table_none}
use Rattle.stored_tier.proofs.gathering.overflows.Goals as goal

pub returns-in-None : goal.returns-in-None
returns-in-None c =
    sym (ap (λ (t : Table). list_any (λ row. is_none (selects c.args.which.now.filter row)) (values t)) (table_none c.args.tables.now.tables c.args.table.0 c.in-None.ensures)
    ∙ any_none (λ row. is_none (selects c.args.which.now.filter row)))
