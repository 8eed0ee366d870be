use Rattle.session_engine.proofs.KeptLaws.{settled_over}
use Rattle.session_engine.proofs.at_once.commit_transaction.Goals as goal

pub returns-clause-performs : goal.returns-clause-performs
returns-clause-performs g c =
    settled_over g.P.Disk.state g.P.Disk.possible c.args.tier.now c.commit_session.new.tier c.args.doubt.now c.args.journal.now c.commit_session.new.journal c.args.site.now c.commit_session.new.site c.args.id c.commit_session.result c.requires.free
    c.commit_session.ensures.performs
