use Rattle.order_laws.proofs.OpenLaws.{open_closes, open_opens}
use Rattle.order_laws.proofs.open_writes.open_session_law.Goals as goal

pub returns-clause-opens : goal.returns-clause-opens
returns-clause-opens c = open_opens

pub returns-clause-closes : goal.returns-clause-closes
returns-clause-closes c = open_closes
