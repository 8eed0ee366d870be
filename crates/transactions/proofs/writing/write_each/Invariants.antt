-- The writes so far are done, and the log takes them back.
use Rattle.evaluator.specs.tier_base.specs.Limits.{greatest}
use Rattle.evaluator.specs.tier_base.specs.declared.limit.Limit.TheVariants.{Operations}
use Rattle.evaluator.specs.table_state.specs.Changes.{LeadsBack}
use Rattle.evaluator.specs.table_state.specs.Tables.{TableState}
use Rattle.transactions.proofs.TransactionLaws.{DoneBefore}
use Rattle.transactions.proofs.writing.write_each.Given as goal

abbrev pub invariant-loop-write : goal.invariant-loop-write
invariant-loop-write l = record {
  done : DoneBefore (greatest Operations) l.writes l.write-index l.fn.tables (record { ops = l.ops.items; rows = l.rows }) l.tables;
  back : (s : TableState) → LeadsBack l.fn.log l.fn.tables s → LeadsBack l.log l.tables s;
}
