-- What stands first in the quoted bytes.
use Rattle.std.proofs.Common.{◌≡◌, ◌∙◌, sym, length, arith, take, drop, ◌-◌}
use Rattle.std.proofs.lemmas.List.{take_rest, length-drop}
use Rattle.row_types.proofs.QuoteLemmas.{first_plain, first_pair, first_alone}
use Rattle.row_types.proofs.literal.first_of_text.Goals as goal

pub returns-then-starts_with : goal.returns-then-starts_with
returns-then-starts_with c =
    let quoted = c.args.quoted.now in
    let rest : take (length quoted - 2) (drop 2 quoted) ≡ drop 2 quoted = take_rest quoted 2 in
    rw rest (first_pair quoted (sym c.starts_with.ensures.value ∙ c.if-starts_with.true), simp length-drop (omega (arith, c.requires)))

pub returns-then-quoted-eq39 : goal.returns-then-quoted-eq39
returns-then-quoted-eq39 c =
    first_alone c.args.quoted.now c.if-quoted-eq39.true (sym c.starts_with.ensures.value ∙ c.if-starts_with.false)

pub returns-else-quoted-eq39 : goal.returns-else-quoted-eq39
returns-else-quoted-eq39 c =
    let quoted = c.args.quoted.now in
    let rest : take (length quoted - 1) (drop 1 quoted) ≡ drop 1 quoted = take_rest quoted 1 in
    rw rest (first_plain quoted c.requires c.if-quoted-eq39.false, simp length-drop (omega (arith, c.requires)))
