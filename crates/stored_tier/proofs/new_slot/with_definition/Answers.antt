use Rattle.std.proofs.Common.{◌∙◌, rules}
use Rattle.stored_tier.proofs.NewSlotLaws.{definition_added}
use Rattle.stored_tier.proofs.new_slot.with_definition.Goals as goal

pub returns-clause-adds : goal.returns-clause-adds
returns-clause-adds c = λ g there.
    definition_added g c.as_bytes-bytes.result.now c.args.batch c.in_ok-made.made (Prim.search rules) (c.as_bytes-bytes.ensures ∙ c.in_ok-text.ensures.text g there) c.in_ok-made.ensures
