use Rattle.std.proofs.Common.{◌≡◌, None, deque_len, length, rules}
use Rattle.cache_tier.specs.Rounds.{RoundIfUnsettled}
use Rattle.stored_tier.proofs.OverLaws.{over_here, over_so}
use Rattle.stored_tier.proofs.SettlingLaws.{nothing_unsettled, pending_settled, some_unsettled}
use Rattle.stored_tier.proofs.tier.Tier.settle_pending.Goals as goal

pub returns-then-is_empty-clause-performs : goal.returns-then-is_empty-clause-performs
returns-then-is_empty-clause-performs g c =
    let long : deque_len c.args.self.now.unsettled ≡ length c.args.self.now.unsettled.items = Prim.search rules in
    over_here g.P.Disk.state g.P.Disk.possible c.args.self.now _ c.args.site.now None (λ w w'. RoundIfUnsettled w w' None)
    (nothing_unsettled c.args.self.now (deque_len c.args.self.now.unsettled) c.is_empty.result long c.is_empty.ensures
    c.if-is_empty.true)

pub returns-clause-performs : goal.returns-clause-performs
returns-clause-performs g c =
    let long : deque_len c.args.self.now.unsettled ≡ length c.args.self.now.unsettled.items = Prim.search rules in
    over_so g.P.Disk.state g.P.Disk.possible c.args.self.now _ _ _ c.args.site.now _ _ _ _
    (pending_settled c.args.self.now _
    (some_unsettled c.args.self.now (deque_len c.args.self.now.unsettled) c.is_empty.result long c.is_empty.ensures
    c.if-is_empty.false)) c.settle_all.ensures.performs
