-- The place that was counted is the rank of the key.
use Rattle.std.proofs.Common.{sym, ◌∙◌}
use Rattle.own_rows.proofs.StandLaws.{is_gone, is_greater, is_less, is_there}
use Rattle.own_rows.proofs.seeking.side.Goals as goal

pub returns-then-here-place : goal.returns-then-here-place
returns-then-here-place c = λ base at agrees is place_is. is_less c.args.own.now base agrees _ _ at _ is place_is _ c.if-here-place.true

pub returns-then-here-place-2 : goal.returns-then-here-place-2
returns-then-here-place-2 c = λ base at agrees is place_is. is_greater c.args.own.now base agrees _ _ at _ is place_is _ c.if-here-place-2.true

pub returns-then-has_same_key : goal.returns-then-has_same_key
returns-then-has_same_key c = λ base at agrees is place_is. is_gone c.args.own.now base agrees _ _ at _ is place_is _ c.if-here-place.false c.if-here-place-2.false (sym c.has_same_key.ensures ∙ c.if-has_same_key.true)

pub returns-else-has_same_key : goal.returns-else-has_same_key
returns-else-has_same_key c = λ base at agrees is place_is. is_there c.args.own.now base agrees _ _ at _ is place_is _ c.if-here-place.false c.if-here-place-2.false (sym c.has_same_key.ensures ∙ c.if-has_same_key.false)
