use Rattle.sql_subset.specs.declared.stmt.Stmt.TheVariants as statement
use Rattle.cache_tier.specs.Order.{refusal}
use Rattle.cache_tier.specs.Steps.{DoesStatement}
use Rattle.group_catalog.specs.Kept.{group_seen}
use Rattle.session_engine.proofs.NamedLaws.{flush_known, flush_unknown}
use Rattle.stored_tier.proofs.QuietLaws.{refused_quietly}
use Rattle.session_engine.proofs.resting.flush_group.Goals as goal

pub returns-in-None-clause-performs : goal.returns-in-None-clause-performs
returns-in-None-clause-performs c = λ site s has w at is unshared.
    refused_quietly c.args.tier.now site (refusal w.tier s (statement.Flush c.args.flush.now))
    (DoesStatement s (statement.Flush c.args.flush.now)) w c.refuse_name.result
    (flush_unknown c.args.tier.now w.tier s c.args.flush.now c.refuse_name.result is.stored c.in-None.ensures c.refuse_name.ensures)
    at is

pub returns-in-Some-clause-performs : goal.returns-in-Some-clause-performs
returns-in-Some-clause-performs c = λ site s has w at is unshared.
    refused_quietly c.args.tier.now site (refusal w.tier s (statement.Flush c.args.flush.now))
    (DoesStatement s (statement.Flush c.args.flush.now)) w c.refuse_flush.result
    (flush_known c.args.tier.now w.tier s c.args.flush.now (group_seen c.in-Some.group.now) c.refuse_flush.result is.stored
    c.in-Some.ensures c.refuse_flush.ensures)
    at is
