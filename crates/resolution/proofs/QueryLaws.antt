-- A query of parts that were placed and judged.

use Rattle.std.proofs.Common.{◌≡◌, ℕ, List, Option, Bool, ◌&&◌, map, ap, ◌∙◌, subst}
use Rattle.std.specs.Prelude.{Ok}
use Rattle.evaluator.specs.tier_base.specs.declared.number.TableId.{TableId}
use Rattle.evaluator.specs.expressions.specs.Trees.{Cond, Expr}
use Rattle.evaluator.specs.expressions.specs.Types.{family_of}
use Rattle.sql_query.specs.declared.query.OrderItem.{OrderItem}
use Rattle.sql_query.specs.declared.query.Query.{Query}
use Rattle.resolution.specs.Placing.{PlacedCondition, PlacedExpression, placed_filter}
use Rattle.resolution.specs.Queries.{is_sound_query, placed_order, placed_selected, planned, resolved_in, suits_families, unheld_in_query, written_list}
use Rattle.resolution.specs.Results.{judged}
use Rattle.resolution.specs.Scopes.{SeenColumn, families}
use Rattle.resolution.specs.WrittenTypes.{has_sound_filter, is_sound_filter, written_families}

-- it is judged by its own types and literals
pub resolved_as : (tables : List TableId) (scope : List SeenColumn) (q : Query) (listed : List PlacedExpression) (filter : Option PlacedCondition) (items : List OrderItem) (order : List ℕ) (sound unheld : Bool) → placed_selected scope q.selected ≡ Ok listed → placed_filter scope q.filter ≡ Ok filter → items ≡ q.order → placed_order scope items ≡ Ok order → sound ≡ is_sound_query scope q → unheld ≡ unheld_in_query q → resolved_in tables scope q ≡ judged sound unheld (planned tables q listed filter order)
unfolding resolved_in
resolved_as tables scope q listed filter items order sound unheld of_list of_filter same of_order is_sound is_unheld =
    let ordered : placed_order scope q.order ≡ Ok order = subst (λ xs. placed_order scope xs ≡ Ok order) same of_order in
    rw (of_list, of_filter, ordered, is_sound, is_unheld)

-- its types are sound where those of its parts are
pub sound_as : (scope : List SeenColumn) (q : Query) (slice listed : List Expr) (filter : Option Cond) (sound : Bool) → slice ≡ listed → has_sound_filter filter (families scope) ≡ is_sound_filter scope q.filter → suits_families q.selected (map (λ e. family_of e (families scope)) listed) ≡ suits_families q.selected (written_families scope (written_list q.selected)) → sound ≡ (suits_families q.selected (map (λ e. family_of e (families scope)) slice) && has_sound_filter filter (families scope)) → sound ≡ is_sound_query scope q
sound_as scope q slice listed filter sound same of_filter of_list judged_so =
    judged_so
    ∙ ap (λ xs. suits_families q.selected (map (λ e. family_of e (families scope)) xs) && has_sound_filter filter (families scope)) same
    ∙ ap (λ b. b && has_sound_filter filter (families scope)) of_list
    ∙ ap (λ b. suits_families q.selected (written_families scope (written_list q.selected)) && b) of_filter
