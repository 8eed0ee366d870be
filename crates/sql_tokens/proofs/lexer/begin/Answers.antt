use Rattle.std.proofs.Common.{refl, ap}
use Rattle.sql_tokens.specs.Lexing.{InWord}
use Rattle.sql_tokens.proofs.Ranges.{range_one}
use Rattle.sql_tokens.proofs.Bytes.{gives_none, gives_one, begun-word, begun-mark}
use Rattle.sql_tokens.proofs.lexer.begin.Goals as goal

pub returns-then-is_name_byte-clause-scan : goal.returns-then-is_name_byte-clause-scan
returns-then-is_name_byte-clause-scan c =
    gives_none _ _ _ _ (begun-word _ _ c.if-is_blank.ensures c.if-is_name_byte.ensures) (ap (λ bs. InWord c.args.i bs) (range_one c.args.line.now c.args.i c.requires))

pub returns-clause-scan : goal.returns-clause-scan
returns-clause-scan c =
    gives_one _ _ _ _ _ _ (begun-mark _ _ c.if-is_blank.ensures c.if-is_name_byte.ensures c.if-byte-eq39.false c.if-is_open_sign.ensures)
    (rw (c.mark_kind.ensures, range_one c.args.line.now c.args.i c.requires) at c.in_ok-write.ensures) refl
