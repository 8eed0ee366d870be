use Rattle.std.proofs.Common.{◌∙◌, [], arith}
use Rattle.cache_tier.specs.Journals.{Marks}
use Rattle.stored_tier.proofs.NewSlotLaws.{marked}
use Rattle.stored_tier.proofs.new_slot.marked_batch.Goals as goal

pub returns-clause-holds : goal.returns-clause-holds
returns-clause-holds c = λ schema. marked schema c.of_a_slot.result c.in_ok-marked.marked (Marks c.args.next) c.of_a_slot.ensures (c.in_ok-marked.ensures schema) (omega arith)

pub returns-clause-begins : goal.returns-clause-begins
returns-clause-begins c = (c.in_ok-marked.ensures []).begins ∙ c.of_a_slot.ensures.begins
