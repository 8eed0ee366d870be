use Rattle.transactions.proofs.writing.apply_noted.Goals as goal

pub returns-in-Ok-clause-back : goal.returns-in-Ok-clause-back
returns-in-Ok-clause-back c s leads = c.in-Ok.ensures.back s c.args.tables.now c.apply_noted.new.self leads c.in_ok-more.ensures.back
