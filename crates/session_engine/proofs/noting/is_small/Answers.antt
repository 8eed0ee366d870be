use Rattle.std.proofs.Common.{ap, subst, sym, ◌∙◌}
use Rattle.group_store.specs.Shown.{shown_by}
use Rattle.table_state.specs.Independence.{IsWhole}
use Rattle.session_engine.proofs.AppliedLaws.{small_verified}
use Rattle.stored_tier.proofs.VerifyLaws.{whole_rows}
use Rattle.session_engine.proofs.noting.is_small.Goals as goal

pub are_small-requires : goal.are_small-requires
are_small-requires c =
    subst IsWhole (sym (c.new-shown.ensures ∙ ap (shown_by c.args.tier.now.schema) c.as_slice.ensures.value))
    (whole_rows c.args.tier.now)

pub returns : goal.returns
returns c = λ yes.
    small_verified c.args.tier.now _ (c.new-shown.ensures ∙ ap (shown_by c.args.tier.now.schema) c.as_slice.ensures.value)
    c.requires.known (c.are_small.ensures yes)
