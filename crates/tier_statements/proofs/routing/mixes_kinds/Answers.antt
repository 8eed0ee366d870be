use Rattle.tier_statements.proofs.RouteLaws.{mixes_by, mixes_not}
use Rattle.tier_statements.proofs.routing.mixes_kinds.Goals as goal

pub returns-then-not-is_written_through : goal.returns-then-not-is_written_through
returns-then-not-is_written_through g c = λ t s schema has own_is.
    mixes_not schema _ t has s c.args.own.now c.args.table own_is c.if-not-is_written_through.ensures

pub returns : goal.returns
returns g c = λ t s schema has own_is.
    mixes_by schema _ t has s c.args.own.now c.args.table own_is c.if-not-is_written_through.ensures _ c.is_synchronous.ensures _ c.are_of_other_kind.ensures
