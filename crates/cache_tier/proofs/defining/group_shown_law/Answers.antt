use Rattle.cache_tier.specs.Definitions.{defined_by, new_group}
use Rattle.cache_tier.proofs.DefineLaws.{group_joins}
use Rattle.cache_tier.proofs.defining.group_shown_law.Goals as goal

pub returns : goal.returns
returns c w d tree x new = group_joins w (new_group w.tier.next w.tier.now d (defined_by w.tier.schema d tree)) x new
