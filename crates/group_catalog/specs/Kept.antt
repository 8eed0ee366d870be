-- The groups of the catalog as the abstract tier's: without the keys of their lists, which are kept with their rows.

use Rattle.std.specs.Prelude.{List, [], map}
use Rattle.std.specs.Option.{option_map}
use Rattle.tier_base.specs.declared.number.Position.{Position}
use Rattle.cache_tier.specs.Groups.{Group}
use Rattle.group_catalog.specs.declared.kept.KeptGroup.{KeptGroup}

-- what is kept of a group here, as a group with no key in its list
abbrev pub group_seen : KeptGroup → Group
group_seen g = record {
  def = g.def;
  first = g.first.0;
  state = g.state;
  loaded = g.loaded;
  keys = [];
  position = option_map (λ (p : Position). p.0) g.position;
  horizon = g.horizon;
  aged = g.aged.0;
}

-- the same of several
abbrev pub groups_seen : List KeptGroup → List Group
groups_seen groups = map group_seen groups
