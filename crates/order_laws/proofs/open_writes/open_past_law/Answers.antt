use Rattle.order_laws.proofs.OpenLaws.{open_past}
use Rattle.order_laws.proofs.open_writes.open_past_law.Goals as goal

pub returns : goal.returns
returns c = open_past
