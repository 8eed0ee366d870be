use Rattle.std.proofs.Common.{[], ◌∷◌, cond, filter, nat_eq, is_some, ap, sym, ◌∙◌}
use Rattle.std.specs.List.{list_any}
use Rattle.std.specs.Ordering.{nat_cmp}
use Rattle.std.specs.FinMap as fm
use Rattle.group_store.specs.Recent.{orders_for}
use Rattle.group_store.proofs.recent.RecentRows.new.Goals as goal

pub invariant_of-result : goal.invariant_of-result
invariant_of-result c =
    let is = c.in_ok-rows.ensures in (
      λ s. ap (list_any (nat_eq s)) c.new.ensures ∙ sym (ap (λ m. fm.contains_key m s) is.slots ∙ ap is_some (fm.get-empty nat_cmp s)),
      is.orders ∙ ap (orders_for c.args.foreign) (sym is.places),
      λ s. ap (λ l. filter (nat_eq s) l) c.new.ensures ∙ sym (ap (λ l. cond (list_any (nat_eq s) l) (s ∷ []) []) c.new.ensures),
    )
