use Rattle.std.proofs.Common.{length}
use Rattle.csv_import.proofs.records.+name_columns.Given as goal

abbrev pub decreases-name_columns : goal.decreases-name_columns
decreases-name_columns l = length l.columns.now
