use Rattle.std.proofs.Common.{refl}
use Rattle.session_engine.proofs.CopyLaws.{keyed_more}
use Rattle.session_engine.proofs.copied_rows.are_keyed.Goals as goal

pub loop-place-preserved : goal.loop-place-preserved
loop-place-preserved c = keyed_more c.args.tables.now c.loop-place.place (c.if-not-is_keyed.ensures refl) c.loop-place.invariant
