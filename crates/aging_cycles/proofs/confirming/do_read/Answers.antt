use Rattle.std.proofs.Common.{ap, subst, sym, ◌∙◌}
use Rattle.group_store.specs.Shown.{shown_by}
use Rattle.table_state.specs.Independence.{IsWhole}
use Rattle.table_state.specs.Keyed.{IsKeyed}
use Rattle.stored_tier.proofs.VerifyLaws.{over_shown, whole_rows}
use Rattle.aging_cycles.proofs.confirming.do_read.Goals as goal

pub do_apply-requires-clause-whole : goal.do_apply-requires-clause-whole
do_apply-requires-clause-whole c =
    subst IsWhole (sym (c.new-shown.ensures ∙ ap (shown_by c.args.tier.now.schema) c.as_slice.ensures.value))
    (whole_rows c.args.tier.now)

pub do_apply-requires-clause-keyed : goal.do_apply-requires-clause-keyed
do_apply-requires-clause-keyed c =
    subst IsKeyed (sym (c.new-shown.ensures ∙ ap (shown_by c.args.tier.now.schema) c.as_slice.ensures.value)) c.requires.keyed

pub returns : goal.returns
returns c = λ yes.
    over_shown c.args.tier.now _ (c.new-shown.ensures ∙ ap (shown_by c.args.tier.now.schema) c.as_slice.ensures.value)
    c.requires.keyed (c.do_apply.ensures.small yes) _ c.as_slice-2.ensures.seen
    (c.do_apply.ensures.apply yes)
