use Rattle.std.proofs.Common.{false, sym, true, ◌∙◌}
use Rattle.cache_engine.proofs.EarlyLaws.{room_told}
use Rattle.cache_engine.proofs.early.judge_room.Goals as goal

pub returns-then-is_full : goal.returns-then-is_full
returns-then-is_full c = λ a is. rw c.past.ensures (room_told c.args.tier.now true (sym c.if-is_full.true ∙ c.is_full.ensures) a is)

pub returns : goal.returns
returns c = λ a is. room_told c.args.tier.now false (sym c.if-is_full.false ∙ c.is_full.ensures) a is
