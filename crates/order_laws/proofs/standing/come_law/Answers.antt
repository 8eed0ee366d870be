use Rattle.order_laws.proofs.BeginLaws.{follows_longer, follows_more}
use Rattle.order_laws.proofs.ProgressLaws.{comes}
use Rattle.order_laws.proofs.standing.come_law.Goals as goal

pub returns-clause-stands : goal.returns-clause-stands
returns-clause-stands c = comes

pub returns-clause-later : goal.returns-clause-later
returns-clause-later c = follows_longer

pub returns-clause-committed : goal.returns-clause-committed
returns-clause-committed c = follows_more
