-- A dynamic load over the stored tier. (TimesTen Cache User's Guide, "Dynamically loading a cache instance".)

use Rattle.std.specs.Prelude.{◌≡◌, ◌⊎◌, ℕ, Some, slice_get, true}
use Rattle.tier_base.specs.declared.code.Code.TheVariants as code
use Rattle.cache_tier.specs.DynamicLoads.{BringsInto, BringsReadOnly, with_found_at}
use Rattle.cache_tier.specs.Groups.{Group, is_read_only}
use Rattle.cache_tier.specs.Reading.{ReadsFirst, as_it_was, backing_at}
use Rattle.cache_tier.specs.Wants.{Want}
use Rattle.cache_tier.specs.Worlds.{Becomes, Stage, faulty}

-- the instance of the root that the row is reached from comes to the group at a place, where it is in its view
abbrev pub ReachesInto : ℕ → Want → Stage
ReachesInto place want = ReadsFirst as_it_was (λ n. Becomes (λ w. with_found_at place (backing_at w n) want w.tier))

-- what is wanted is brought into the group at a place, where there is one
abbrev pub BringsAtPlace : ℕ → Want → Stage
BringsAtPlace place want w w' stop = BringsInto place (slice_get w.tier.groups place) want w w' stop

-- so it is where the group at the place is READONLY
abbrev pub BringsWhole : ℕ → Want → Stage
BringsWhole place want w w' stop =
    (g : Group) → slice_get w.tier.groups place ≡ Some g → is_read_only g ≡ true → BringsReadOnly place g want w w' stop

-- a stage, or want of memory, which comes before it and leaves all as it was
abbrev pub TriesFirst : Stage → Stage
TriesFirst stage w w' stop = stage w w' stop ⊎ ((w' ≡ w) × (stop ≡ Some (faulty code.Memory)))
