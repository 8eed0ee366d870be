use Rattle.indexed_rows.proofs.MapLaws.{no_key}
use Rattle.indexed_rows.proofs.rows.Rows.position.Goals as goal

pub returns-in-Err : goal.returns-in-Err
returns-in-Err c = no_key _ _ c.in-Err.field-0 c.in-Err.ensures.absent
