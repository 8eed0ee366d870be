use Rattle.std.proofs.Common.{arith, refl}
use Rattle.session_engine.proofs.CopyLaws.{all_stand, stand_more}
use Rattle.session_engine.proofs.copied_rows.are_under_keys.Goals as goal

pub loop-at-preserved : goal.loop-at-preserved
loop-at-preserved c = stand_more c.args.def.now c.args.rows.now c.loop-at.at (c.if-not-stands_at.ensures refl) c.loop-at.invariant

pub returns : goal.returns
returns c = λ yes.
    all_stand c.args.def.now c.args.rows.now c.loop-at.at
    (let end = c.loop-at-test.false in omega (arith, c.len-at-end.ensures.value)) c.loop-at.invariant
