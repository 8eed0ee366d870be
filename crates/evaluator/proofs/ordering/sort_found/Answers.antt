use Rattle.std.proofs.Common.{Bool, rules}
use Rattle.std.specs.Ordering.{is_lt}
use Rattle.std.proofs.lemmas.List.Sorted.{ranks_by}
use Rattle.std.proofs.lemmas.Fn.{always_returns_same}
use Rattle.evaluator.specs.declared.plan.Found.{Found}
use Rattle.evaluator.specs.Queries.{by_order}
use Rattle.evaluator.proofs.QueryOrder.{by_values_total, three}
use Rattle.evaluator.proofs.ordering.sort_found.Goals as goal

pub returns : goal.returns
returns c =
    let lt : Found → Found → Bool = λ a b. is_lt (by_order c.args.descending.now a b) in
    let order = ranks_by (by_values_total c.args.descending.now) (λ (f : Found). f.order) in
    three c.sort_by.result _ _ _ _ c.sort_by.ensures.permutation c.sort_by.ensures.sorted
    (c.sort_by.ensures.stable lt order (always_returns_same _ _ _ (λ a r f k. search rules)))
    (λ p q r. (p, q lt order (always_returns_same _ _ _ (λ a r f k. search rules)), r))
