-- What was given and what is left to give.
use Rattle.std.proofs.Common.{◌<◌}
use Rattle.csv_import.specs.Inserts.{records_in}
use Rattle.csv_import.proofs.ReadLaws.{Stands}
use Rattle.csv_import.proofs.inserts.read_inserts.Given as goal

abbrev pub invariant-loop-row : goal.invariant-loop-row
invariant-loop-row l = (0 < l.row-iterator.left) × Stands l.table l.def.columns (records_in l.fn.bytes) l.row-iterator.rdr l.number l.inserts.items
