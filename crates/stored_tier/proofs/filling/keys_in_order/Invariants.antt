use Rattle.stored_tier.proofs.AnewLaws.{KeysLeft}
use Rattle.stored_tier.proofs.filling.keys_in_order.Given as goal

abbrev pub invariant-loop : goal.invariant-loop
invariant-loop l = KeysLeft l.store l.keys.items l.next
