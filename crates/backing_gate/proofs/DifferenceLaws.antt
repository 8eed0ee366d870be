-- Laws of the first operation that doesn't apply.
use Rattle.std.proofs.Common.{◌≡◌, ℕ, ◌+◌, ◌<◌, Option, Some, None, List, [], ◌∷◌, ◌++◌, length, take, drop, get_or, refl, ap, ◌∙◌}
use Rattle.std.specs.Option.{option_and_then, option_map, option_or}
use Rattle.row_types.specs.declared.value.Value.{Value}
use Rattle.tier_base.specs.declared.number.TableId.{TableId}
use Rattle.table_state.specs.declared.operation.Op.{Op}
use Rattle.table_state.specs.declared.refusal.ApplyError.{ApplyError}
use Rattle.table_state.specs.declared.refusal.ApplyError.TheVariants as error
use Rattle.table_state.specs.Tables.{TableState}
use Rattle.table_state.specs.Operations.{applied, applied_all}
use Rattle.table_state.specs.Refusals.{broken_by, broken_by_all}
use Rattle.table_state.proofs.ChangeLaws.{unbroken_where_applied}
use Rattle.table_state.proofs.HistoryLaws.{applied_all-append, split_here}
use Rattle.outside.specs.Differences.{Difference, difference_of, first_difference}

-- behind operations that apply
behind : (xs ys : List Op) (s n : TableState) → applied_all xs s ≡ Some n → first_difference (xs ++ ys) s ≡ first_difference ys n
behind [] ys s n e = let same : s ≡ n = cc in ap (first_difference ys) same
behind (op ∷ xs) ys s n e = by (applied op s) refl e (λ t. behind xs ys t n)
  where
    by : (o : Option TableState) → applied op s ≡ o → option_and_then (applied_all xs) o ≡ Some n → ((t : TableState) → applied_all xs t ≡ Some n → first_difference (xs ++ ys) t ≡ first_difference ys n)
        → option_or (option_map (difference_of op s) (broken_by op s)) (option_and_then (first_difference (xs ++ ys)) (applied op s)) ≡ first_difference ys n
    by None h f rest = cc
    by (Some t) h f rest = rw (unbroken_where_applied op s t h, h) (rest t f)

-- at a place of the list
pub difference_here : (ops : List Op) (i : ℕ) (op : Op) (start now : TableState) → i < length ops → op ≡ get_or ops i op → applied_all (take i ops) start ≡ Some now → (d : Difference)
    → option_map (difference_of op now) (broken_by op now) ≡ Some d → first_difference ops start ≡ Some d
difference_here ops i op start now lt is so_far d told =
    ap (λ l. first_difference l start) (split_here applied applied_all (λ s. refl) (λ x xs s. refl) applied_all-append ops i op start now lt is so_far)
    ∙ behind (take i ops) (op ∷ drop (i + 1) ops) start now so_far
    ∙ ap (λ f. option_or f (option_and_then (first_difference (drop (i + 1) ops)) (applied op now))) told

-- a row that isn't as it should be
pub differing_first : (ops : List Op) (s : TableState) (t : TableId) (key : List Value) (row : Option (List Value)) → broken_by_all ops s ≡ Some (error.Differs t key row) → first_difference ops s ≡ Some (t, key, row)
differing_first [] s t key row e = cc
differing_first (op ∷ ops) s t key row e = by (broken_by op s) (applied op s) e (λ n. differing_first ops n t key row)
  where
    by : (f : Option ApplyError) (o : Option TableState) → option_or f (option_and_then (broken_by_all ops) o) ≡ Some (error.Differs t key row)
        → ((n : TableState) → broken_by_all ops n ≡ Some (error.Differs t key row) → first_difference ops n ≡ Some (t, key, row))
        → option_or (option_map (difference_of op s) f) (option_and_then (first_difference ops) o) ≡ Some (t, key, row)
    by (Some x) o h rest = let same : x ≡ error.Differs t key row = cc in ap (λ y. Some (difference_of op s y)) same
    by None None h rest = cc
    by None (Some n) h rest = rest n h
