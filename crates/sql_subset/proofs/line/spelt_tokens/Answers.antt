use Rattle.std.proofs.Common.{length, refl}
use Rattle.sql_phrases.specs.sql_tokens.specs.Lexing.{lexed}
use Rattle.sql_subset.proofs.Meaning.{told_says, told_at, told_deep}
use Rattle.sql_subset.proofs.line.spelt_tokens.Goals as goal

pub returns-in-Ok-At : goal.returns-in-Ok-At
returns-in-Ok-At c = λ head.
    told_at c.args.start head c.args.line.now c.in-Ok.tokens.items (lexed c.args.from c.args.line.now) c.in-Ok-At.i c.place_of.result c.in-Ok.ensures
    (rw (c.in-Ok-At.field-0-is, c.deref.ensures.value) at c.in-Ok-At.ensures) (rw c.deref-in-Ok-At.ensures.value at c.place_of.ensures)

pub returns-in-Ok-Deep : goal.returns-in-Ok-Deep
returns-in-Ok-Deep c = λ head.
    told_deep c.args.start head c.args.line.now (length c.args.line.now) c.in-Ok.tokens.items (lexed c.args.from c.args.line.now) c.in-Ok.ensures
    (rw (c.in-Ok-Deep.field-0-is, c.deref.ensures.value) at c.in-Ok-Deep.ensures)

pub returns-in-Ok-Fits : goal.returns-in-Ok-Fits
returns-in-Ok-Fits c = λ head.
    told_says c.args.start head c.args.line.now (length c.args.line.now) c.in-Ok.tokens.items (lexed c.args.from c.args.line.now) _ c.in-Ok.ensures
    (rw (c.in-Ok-Fits.field-0-is, c.deref.ensures.value) at c.in-Ok-Fits.ensures) refl
