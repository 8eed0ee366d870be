use Rattle.order_laws.proofs.OpenLaws.{open_write}
use Rattle.order_laws.proofs.open_writes.open_write_law.Goals as goal

pub returns : goal.returns
returns c s before own more behind x writes = open_write s writes.top before own more behind x writes.leads writes.meets
