use Rattle.std.proofs.Common.{arith, rules}
use Rattle.std.proofs.lemmas.Grind.{common_steps}
use Rattle.table_defs.proofs.TypeLaws.{refused_at}
use Rattle.table_defs.proofs.check.resolved_columns.Goals as goal

pub loop-column-preserved : goal.loop-column-preserved
loop-column-preserved c = grind (arith, common_steps)

pub returns-in_err-column-clause-told : goal.returns-in_err-column-clause-told
returns-in_err-column-clause-told c = search (rules, refused_at c.as_slice-declared.result.now c.loop-column.column-index c.column-item.result c.in_err-column.field-0.0 c.loop-column-test.true c.column-item.is c.in_err-column.ensures.told)
