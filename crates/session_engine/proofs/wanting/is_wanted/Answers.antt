use Rattle.std.proofs.Common.{ap, ◌∙◌}
use Rattle.group_store.specs.Shown.{shown_by}
use Rattle.session_engine.proofs.WantedLaws.{loaded_at}
use Rattle.session_engine.proofs.wanting.is_wanted.Goals as goal

pub returns : goal.returns
returns c = λ w stands.
    loaded_at c.args.tier.now w c.args.want.now c.loading_place.result _ stands
    (c.new-shown.ensures ∙ ap (shown_by c.args.tier.now.schema) c.as_slice.ensures.value) c.loading_place.ensures
