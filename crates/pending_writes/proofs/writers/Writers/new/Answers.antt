use Rattle.std.proofs.Common.{ap, ◌∙◌}
use Rattle.std.specs.FinMap as fm
use Rattle.pending_writes.proofs.MapLaws.{no_entries}
use Rattle.pending_writes.proofs.writers.Writers.new.Goals as goal

pub returns : goal.returns
returns c = ap fm.from_sorted c.new.ensures ∙ no_entries
