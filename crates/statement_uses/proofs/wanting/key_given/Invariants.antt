-- The values so far, and those that are left.
use Rattle.std.proofs.Common.{◌≡◌, ◌++◌, drop}
use Rattle.std.specs.Option.{option_map}
use Rattle.resolution.specs.Placing.{condition_seen}
use Rattle.cache_tier.specs.Wants.{key_given}
use Rattle.statement_uses.proofs.wanting.key_given.Given as goal

abbrev pub invariant-loop-place : goal.invariant-loop-place
invariant-loop-place l =
    option_map (λ vs. l.values.items ++ vs) (key_given (drop l.place-index l.places) (condition_seen l.cond)) ≡ key_given l.places (condition_seen l.cond)
