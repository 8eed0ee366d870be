use Rattle.table_defs.proofs.NumberLaws.{too_great}
use Rattle.table_defs.proofs.types.number_up_to.Goals as goal

pub returns-then-number-gt-VARCHAR2_BYTES : goal.returns-then-number-gt-VARCHAR2_BYTES
returns-then-number-gt-VARCHAR2_BYTES c =
    too_great c.args.digits.now c.loop-digit.digit-index c.loop-digit.number c.loop-digit.invariant.number c.loop-digit-test.true c.if-number-gt-VARCHAR2_BYTES.true
