use Rattle.std.proofs.Common.{[], ◌∷◌, cond, filter, nat_eq, is_some, ap, sym, ◌∙◌}
use Rattle.std.specs.List.{list_any}
use Rattle.std.specs.Ordering.{nat_cmp}
use Rattle.std.specs.FinMap as fm
use Rattle.group_store.specs.Recent.{keys_of, orders_for}
use Rattle.group_store.proofs.recent.RecentRows.clear.Goals as goal

pub invariant_of-self : goal.invariant_of-self
invariant_of-self c =
    let l = c.self.inside in (
      λ s. ap (list_any (nat_eq s)) c.new.ensures ∙ sym (ap (λ m. fm.contains_key m s) c.clear.ensures.slots ∙ ap is_some (fm.get-empty nat_cmp s)),
      c.clear.ensures.orders ∙ c.self.invariant.1 ∙ ap (orders_for l.foreign) (sym c.clear.ensures.places),
      λ s. ap (λ l. filter (nat_eq s) l) c.new.ensures ∙ sym (ap (λ l. cond (list_any (nat_eq s) l) (s ∷ []) []) c.new.ensures),
    )

pub returns-clause-keys : goal.returns-clause-keys
returns-clause-keys c = ap (keys_of c.clear.new.self.slots) c.new.ensures
