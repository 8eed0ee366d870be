use Rattle.std.proofs.Common.{◌≡◌, ◌∙◌, Some, ap, slice_get, sym}
use Rattle.group_engine.proofs.TakeLaws.{gathered_there}
use Rattle.group_engine.proofs.loading_written.gather_at.Goals as goal

pub returns-in-Some-store_at : goal.returns-in-Some-store_at
returns-in-Some-store_at c =
    let kept : slice_get c.args.tier.now.stores.items c.args.place ≡ Some c.in-Some-store_at.store.now =
    sym (c.in-Some-store_at.ensures ∙ ap (λ l. slice_get l c.args.place) c.as_slice.ensures.value) in
    gathered_there c.args.tier.now c.args.place c.args.which.now c.args.refreshes c.args.tables.now _ c.in-Some-store_at.store.now c.gather.result
    c.in-Some.ensures kept (sym c.is_read_only.ensures ∙ c.if-is_read_only.false) c.keys_law.ensures c.gather.ensures
