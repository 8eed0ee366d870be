use Rattle.cache_tier.proofs.PendingRows.{virtual_row, written_row}
use Rattle.cache_tier.proofs.pending.pending_row_law.Goals as goal

pub returns : goal.returns
returns c = record { row = virtual_row; own = written_row }
