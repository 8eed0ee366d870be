-- The columns get fewer.
use Rattle.std.proofs.Common.{length}
use Rattle.group_catalog.proofs.tables.+same_columns.Given as goal

abbrev pub decreases-same_columns : goal.decreases-same_columns
decreases-same_columns l = length l.declared.now
