use Rattle.std.proofs.Common.{subst}
use Rattle.group_catalog.specs.Kept.{group_seen}
use Rattle.stored_tier.specs.Refreshing.{IsMade, choice_of, is_filled}
use Rattle.stored_tier.proofs.RefreshSteps.{if_made, made_at}
use Rattle.stored_tier.proofs.refreshing.make_at.Goals as goal

pub returns-in-Some-hidden_at : goal.returns-in-Some-hidden_at
returns-in-Some-hidden_at c =
    if_made c.make_where.result
    (λ o is. made_at (is_filled (choice_of c.args.chosen) c.args.loads) c.args.tier.now c.args.tables.now c.args.place (group_seen c.in-Some.group.now) c.in-Some-store_at.store.now c.in-Some-hidden_at.hidden.now o
    c.in-Some.ensures c.in-Some-store_at.ensures c.in-Some-hidden_at.ensures
    (subst (λ b. IsMade b c.args.tier.now.schema c.args.tables.now (group_seen c.in-Some.group.now) c.in-Some-store_at.store.now c.in-Some-hidden_at.hidden.now.table o) c.is_filled-filled.ensures is))
    c.make_where.ensures
