use Rattle.std.proofs.Common.{ap, ◌∙◌}
use Rattle.std.specs.FinMap as fm
use Rattle.indexed_rows.proofs.MapLaws.{no_entries}
use Rattle.indexed_rows.proofs.rows.Rows.new.Goals as goal

pub returns : goal.returns
returns c = ap fm.from_sorted c.new.ensures ∙ no_entries
