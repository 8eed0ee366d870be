-- The values so far, and those that are left.
use Rattle.std.proofs.Common.{◌≡◌, ◌++◌, drop}
use Rattle.std.specs.Option.{option_map}
use Rattle.resolution.specs.Placing.{expressions_seen}
use Rattle.cache_tier.specs.Wants.{values_given}
use Rattle.statement_uses.proofs.wanting.values_given.Given as goal

abbrev pub invariant-loop-place : goal.invariant-loop-place
invariant-loop-place l =
    option_map (λ vs. l.given.items ++ vs) (values_given (expressions_seen l.values) (drop l.place-index l.places)) ≡ values_given (expressions_seen l.values) l.places
