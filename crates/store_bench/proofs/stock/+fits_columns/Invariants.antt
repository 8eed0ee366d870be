use Rattle.std.proofs.Common.{length}
use Rattle.store_bench.proofs.stock.+fits_columns.Given as goal

abbrev pub decreases-fits_columns : goal.decreases-fits_columns
decreases-fits_columns l = length l.columns.now
