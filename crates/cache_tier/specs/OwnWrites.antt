-- What a session's writes become. (TimesTen SQL Reference, "INSERT", "UPDATE", "DELETE".)

use Rattle.tier_base.specs.declared.limit.Limit.TheVariants as limit
use Rattle.std.specs.Prelude.{ℕ, List, length, Option, ◌-◌}
use Rattle.cache_tier.specs.declared.reply.Last.TheVariants.{Done}
use Rattle.cache_tier.specs.Shown.{over, seen_by}
use Rattle.cache_tier.specs.TierStates.{Session, with_session, with_writes}
use Rattle.cache_tier.specs.Worlds.{Answer, World, only}
use Rattle.row_types.specs.declared.rule.Rule.{Rule}
use Rattle.tier_base.specs.Limits.{greatest}
use Rattle.tier_base.specs.declared.number.TableId.{TableId}
use Rattle.table_state.specs.declared.operation.Op.{Op}
use Rattle.table_state.specs.Refusals.{broken_by_all}
use Rattle.transactions.specs.Transactions.{rows_in}
use Rattle.cache_tier.specs.Recency.{after_writes}
use Rattle.cache_tier.specs.Rules.{rule_of_apply}

-- how many operations may still come
abbrev pub room_of : Session → ℕ
room_of s = greatest limit.Operations - length s.own

-- The operations are the session's from now on, and the instances that they change are used. The reply tells how many
-- rows of the named table they write.
abbrev pub written : Session → TableId → List Op → World → Answer
written s table ops w = (
  with_session s.label (with_writes ops) (after_writes over ops (seen_by s w.history w.tier) w.tier),
  only
      (Done (rows_in table ops)),
)

-- 107, 108, 109: op by op, over what the session sees
abbrev pub apply_fault : Session → World → List Op → Option Rule
apply_fault s w ops = rule_of_apply (broken_by_all ops (seen_by s w.history w.tier))
