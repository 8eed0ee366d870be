use Rattle.std.proofs.Common.{Option, subst}
use Rattle.row_types.specs.declared.rule.Rule.{Rule}
use Rattle.table_defs.specs.Declarations.{Tells}
use Rattle.cache_engine.proofs.TablingLaws.{table_fault_seen}
use Rattle.cache_engine.proofs.create.check_table.Goals as goal

pub returns-clause-told : goal.returns-clause-told
returns-clause-told c = λ a is.
    subst (λ (fault : Option Rule). Tells c.judge_table.result fault) (table_fault_seen c.args.tier.now a c.args.declaration.now is) c.judge_table.ensures.told
