use Rattle.std.proofs.Common.{inl, refl, arith}
use Rattle.cache_store.specs.instances.specs.Views.{kept_at}
use Rattle.group_store.specs.Joined.{tables_of}
use Rattle.group_store.proofs.RecentLaws.{spot_within}
use Rattle.group_store.proofs.tree_rows.TreeRows.bare.Goals as goal

pub returns-in-None-clause-same : goal.returns-in-None-clause-same
returns-in-None-clause-same c = record { roots = refl; layers = refl; joined = c.requires.joined; spare = omega arith }

pub returns-in-None-clause-bared : goal.returns-in-None-clause-bared
returns-in-None-clause-bared c = record { bare = inl c.in-None.ensures; cut = refl }

pub bare_at-requires-clause-there : goal.bare_at-requires-clause-there
bare_at-requires-clause-there c = spot_within (kept_at (tables_of c.args.self.now) c.args.top) c.in-Some.at c.args.key.now c.in-Some.ensures

pub returns-in-Some-clause-same : goal.returns-in-Some-clause-same
returns-in-Some-clause-same c = c.bare_at.ensures.same

pub returns-in-Some-clause-bared : goal.returns-in-Some-clause-bared
returns-in-Some-clause-bared c = c.bare_at.ensures.bared c.args.key.now c.in-Some.ensures
