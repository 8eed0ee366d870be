use Rattle.std.proofs.Common.{◌≡◌, deque_len, length, rules}
use Rattle.stored_tier.proofs.TurnLaws.{emptied, short_turns, tried_turns, unsettled_turns, wanting_turns}
use Rattle.stored_tier.proofs.tier.Tier.rotate_if_long.Goals as goal

pub returns-then-not-is_empty-clause-performs : goal.returns-then-not-is_empty-clause-performs
returns-then-not-is_empty-clause-performs g c =
    let long : deque_len c.args.self.now.unsettled ≡ length c.args.self.now.unsettled.items = Prim.search rules in
    unsettled_turns g.P.Disk.state g.P.Disk.possible c.args.self.now _ c.args.site.now (deque_len c.args.self.now.unsettled) c.is_empty.result long c.is_empty.ensures c.if-not-is_empty.true

pub returns-then-not-is_long-clause-performs : goal.returns-then-not-is_long-clause-performs
returns-then-not-is_long-clause-performs g c =
    let long : deque_len c.args.self.now.unsettled ≡ length c.args.self.now.unsettled.items = Prim.search rules in
    short_turns g.P.Disk.state g.P.Disk.possible c.args.self.now _ c.args.site.now c.is_long.result
    (emptied c.args.self.now (deque_len c.args.self.now.unsettled) c.is_empty.result long c.is_empty.ensures c.if-not-is_empty.false) c.is_long.ensures c.if-not-is_long.true

pub returns-in-Err-clause-performs : goal.returns-in-Err-clause-performs
returns-in-Err-clause-performs g c =
    let long : deque_len c.args.self.now.unsettled ≡ length c.args.self.now.unsettled.items = Prim.search rules in
    wanting_turns g.P.Disk.state g.P.Disk.possible c.args.self.now _ _ c.args.site.now c.is_long.result (Prim.search rules)
    (emptied c.args.self.now (deque_len c.args.self.now.unsettled) c.is_empty.result long c.is_empty.ensures c.if-not-is_empty.false) c.is_long.ensures c.if-not-is_long.false

pub returns-in-Ok-clause-performs : goal.returns-in-Ok-clause-performs
returns-in-Ok-clause-performs g c =
    let long : deque_len c.args.self.now.unsettled ≡ length c.args.self.now.unsettled.items = Prim.search rules in
    tried_turns g.P.Disk.state g.P.Disk.possible c.args.self.now _ c.args.journal.now _ c.args.site.now _ c.in-Ok.batch _ c.is_long.result (Prim.search rules)
    (emptied c.args.self.now (deque_len c.args.self.now.unsettled) c.is_empty.result long c.is_empty.ensures c.if-not-is_empty.false) c.is_long.ensures c.if-not-is_long.false
    c.in-Ok.ensures.holds c.rotate_journal.ensures.turns c.rotate_journal.ensures.cause
