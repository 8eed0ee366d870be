use Rattle.std.proofs.Common.{sym}
use Rattle.indexed_rows.proofs.MapLaws.{has_key, no_key}
use Rattle.indexed_rows.proofs.rows.Rows.contains_key.Goals as goal

pub returns-in-Ok : goal.returns-in-Ok
returns-in-Ok c = sym (has_key _ _ c.in-Ok.field-0 c.in-Ok.ensures.found)

pub returns-in-Err : goal.returns-in-Err
returns-in-Err c = sym (no_key _ _ c.in-Err.field-0 c.in-Err.ensures.absent)
