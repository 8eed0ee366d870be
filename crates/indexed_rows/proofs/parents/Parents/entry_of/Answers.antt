use Rattle.std.proofs.Common.{◌≤◌, ◌++◌, length, ap, ◌∙◌, arith}
use Rattle.std.proofs.lemmas.List.{take_all}
use Rattle.indexed_rows.specs.Rows.{key_of}
use Rattle.indexed_rows.proofs.parents.Parents.entry_of.Goals as goal

pub returns : goal.returns
returns c =
    let long = ap length c.values-value-items.ensures in
    let ended : length c.args.key.now ≤ c.loop-value.value-index = omega arith in
    c.from_vec.ensures ∙ c.loop-value.invariant ∙ ap (λ l. key_of c.args.self.now.columns c.args.row.now ++ l) (take_all c.loop-value.value-index c.args.key.now ended)
