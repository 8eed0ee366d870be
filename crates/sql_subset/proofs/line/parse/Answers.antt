use Rattle.sql_subset.proofs.Meaning.{spelt_says, spelt_at, spelt_deep}
use Rattle.sql_subset.proofs.line.parse.Goals as goal

pub returns-in-Ok-At : goal.returns-in-Ok-At
returns-in-Ok-At c =
    spelt_at c.args.bytes.now c.good_length-good.result c.in-Ok.tokens.items c.in-Ok-At.i c.place_of.result c.good_length-good.ensures c.if-good-bytes.false c.in-Ok.ensures
    (rw (c.in-Ok-At.field-0-is, c.deref.ensures.value) at c.in-Ok-At.ensures) (rw c.deref-in-Ok-At.ensures.value at c.place_of.ensures)

pub returns-in-Ok-Deep : goal.returns-in-Ok-Deep
returns-in-Ok-Deep c =
    spelt_deep c.args.bytes.now c.good_length-good.result c.in-Ok.tokens.items c.good_length-good.ensures c.if-good-bytes.false c.in-Ok.ensures
    (rw (c.in-Ok-Deep.field-0-is, c.deref.ensures.value) at c.in-Ok-Deep.ensures)

pub returns-in-Ok-read_statement : goal.returns-in-Ok-read_statement
returns-in-Ok-read_statement c =
    spelt_says c.args.bytes.now c.good_length-good.result c.in-Ok.tokens.items c.in-Ok-read_statement.statement c.good_length-good.ensures c.if-good-bytes.false c.in-Ok.ensures
    (rw (c.in-Ok-Fits.field-0-is, c.deref.ensures.value) at c.in-Ok-Fits.ensures) (rw (c.new.ensures, c.deref-2.ensures.value) at c.in-Ok-read_statement.ensures)
