-- No value of the key changes exactly where the keys are the same.
use Rattle.std.proofs.Common.{◌∙◌, ap, is_none}
use Rattle.std.specs.List.{find}
use Rattle.indexed_rows.specs.Rows.{changes}
use Rattle.recalling.proofs.FittingLaws.{key_stays, none_not}
use Rattle.recalling.proofs.fitting.keeps_key.Goals as goal

pub returns : goal.returns
returns c =
    none_not c.is_none.result c.first_change.result c.is_none.ensures
    ∙ ap is_none (c.first_change.ensures ∙ (λ i. find (changes (c.values.ensures i) (c.values-2.ensures i)) (c.as_slice.ensures i)))
    ∙ key_stays c.args.def.now.primary_key c.args.old.now c.args.new.now
