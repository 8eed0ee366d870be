use Rattle.std.proofs.Common.{subst, sym}
use Rattle.stored_tier.proofs.AnewLaws.{KeysLeft, keys_begun, keys_end, keys_go_on}
use Rattle.stored_tier.proofs.filling.keys_in_order.Goals as goal

pub loop-init : goal.loop-init
loop-init c =
    subst (λ keys. KeysLeft c.args.store.now keys c.in_ok-next.next) (sym c.new-keys.ensures.items)
    (keys_begun c.args.store.now c.keys_law.ensures c.len-end.ensures.keyed c.in_ok-next.next _ c.in_ok-next.ensures c.oldest.ensures)

pub loop-preserved : goal.loop-preserved
loop-preserved c =
    keys_go_on c.args.store.now c.keys_law.ensures c.len-end.ensures.keyed c.loop.keys.items c.push.new.self.items c.loop.next c.in_ok-next-in-Some.next c.in-Some.key _ c.loop.invariant
    c.in-Some.is c.in_ok-push-in-Some.ensures.items c.in_ok-next-in-Some.ensures c.newer.ensures

pub returns-in-None : goal.returns-in-None
returns-in-None c = keys_end c.args.store.now c.loop.keys.items c.loop.next c.loop.invariant c.in-None.is

pub returns-in-None-next : goal.returns-in-None-next
returns-in-None-next c = keys_end c.args.store.now c.loop.keys.items c.loop.next c.loop.invariant c.in-None-next.is
