use Rattle.std.proofs.Common.{sym, subst, ◌∙◌}
use Rattle.indexed_rows.specs.Indexes.{IsIndexOf}
use Rattle.indexed_rows.proofs.EntryLaws.{nothing_left}
use Rattle.indexed_rows.proofs.parents.remove_both.Goals as goal

pub returns-in-None-clause-index : goal.returns-in-None-clause-index
returns-in-None-clause-index c =
    subst (IsIndexOf c.args.parents) (sym (c.in-None.ensures.new ∙ nothing_left c.args.rows.now c.args.key.now (sym c.in-None.ensures.old))) c.requires
