use Rattle.std.proofs.Common.{ap, rules, subst, sym, ◌∙◌}
use Rattle.group_store.specs.Shown.{shown_by}
use Rattle.table_state.specs.Independence.{IsWhole}
use Rattle.table_state.specs.Keyed.{IsKeyed}
use Rattle.stored_tier.proofs.VerifyLaws.{over_shown, whole_rows}
use Rattle.stored_tier.proofs.tier.Tier.is_fit.Goals as goal

pub do_apply-requires-clause-whole : goal.do_apply-requires-clause-whole
do_apply-requires-clause-whole c =
    subst IsWhole (sym (c.new-shown.ensures ∙ ap (shown_by c.args.self.now.schema) c.as_slice.ensures.value))
    (whole_rows c.args.self.now)

pub do_apply-requires-clause-keyed : goal.do_apply-requires-clause-keyed
do_apply-requires-clause-keyed c =
    subst IsKeyed (sym (c.new-shown.ensures ∙ ap (shown_by c.args.self.now.schema) c.as_slice.ensures.value))
    (c.if-not-are_keyed.ensures (search rules))

pub returns : goal.returns
returns c = λ yes.
    over_shown c.args.self.now _ (c.new-shown.ensures ∙ ap (shown_by c.args.self.now.schema) c.as_slice.ensures.value)
    (c.if-not-are_keyed.ensures (search rules)) (c.do_apply.ensures.small yes) _ c.as_slice-2.ensures.seen
    (c.do_apply.ensures.apply yes)
