-- UPDATE and DELETE in the cache. (TimesTen SQL Reference, "UPDATE", "DELETE"; TimesTen Cache User's Guide:
-- writethrough cache groups.)

use Rattle.std.specs.Prelude.{List}
use Rattle.cache_tier.specs.TierStates.{Session}
use Rattle.cache_tier.specs.Worlds.{Part, Quiet, unless}
use Rattle.tier_base.specs.declared.number.TableId.{TableId}
use Rattle.table_state.specs.declared.operation.Op.{Op}
use Rattle.cache_tier.specs.OwnWrites.{written, apply_fault}

-- UPDATE and DELETE
abbrev pub Changes : Session → TableId → List Op → Part
Changes s table ops w w' reply = Quiet (unless w.tier (apply_fault s w ops) (written s table ops w)) w w' reply
