use Rattle.order_laws.proofs.ProgressLaws.{last_goes, ticket_goes}
use Rattle.order_laws.proofs.standing.lost_law.Goals as goal

pub returns-clause-transaction : goal.returns-clause-transaction
returns-clause-transaction c = last_goes

pub returns-clause-ticket : goal.returns-clause-ticket
returns-clause-ticket c = ticket_goes
