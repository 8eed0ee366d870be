use Rattle.std.proofs.Common.{refl, subst, sym}
use Rattle.std.specs.Option.{IsSome}
use Rattle.propagators.proofs.FollowLaws.{leads_follow}
use Rattle.propagators.proofs.laws.follow_law.Goals as goal

pub returns : goal.returns
returns c = λ shared live schema events history later old new s apart leaves l.
    leads_follow shared live schema events history later old new apart (subst IsSome (sym leaves) refl) l
