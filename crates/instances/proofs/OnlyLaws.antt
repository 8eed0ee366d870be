-- Laws of the row of one key.
use Rattle.std.proofs.Common.{◌≡◌, Bool, true, false, cond, Some, None, Result, Ok, Err, IfOk, is_some, List, refl, sym, ap, ◌∙◌}
use Rattle.std.specs.Ordering.{is_eq}
use Rattle.std.specs.declared.cmp.Ordering.{Ordering}
use Rattle.std.specs.declared.cmp.Ordering.TheVariants.{Less, Equal, Greater}
use Rattle.std.specs.FinMap.{empty, get, insert, get-empty, get-insert, get-retain_keys, same_map}
use Rattle.expressions.specs.row_types.specs.declared.value.Value.{Value}
use Rattle.expressions.specs.row_types.specs.Order.{key_order}
use Rattle.expressions.specs.row_types.proofs.OrderLaws.{key_total, key_exact}
use Rattle.table_state.specs.indexed_rows.specs.Rows.{Table, is_same}
use Rattle.instances.specs.Collecting.{added}
use Rattle.instances.specs.Views.{only, passes, rows_where}
use Rattle.instances.proofs.Gathering.{get_where}

abbrev Row : Type 0
Row = List Value

abbrev nothing : Table
nothing = empty

module _ (k : Row) (m : Table) where
  pub get_only : (q : Row) → get (only k m) q ≡ cond (is_same q k) (get m q) None
  get_only q = get-retain_keys m (λ other. is_same other k) q (λ x tie. ap (λ other. is_same other k) (sym (key_exact q x tie)))

  pub only_none : (out : Table) → out ≡ empty → None ≡ get m k → out ≡ only k m
  only_none out is none = is ∙ same_map key_total key_exact empty (only k m) (λ q. get-empty key_order q ∙ at q (key_order q k) refl ∙ sym (get_only q))
    where
      at : (q : Row) (o : Ordering) → key_order q k ≡ o → None ≡ cond (is_eq o) (get m q) None
      at q Less tie = refl
      at q Equal tie = none ∙ ap (get m) (sym (key_exact q k tie))
      at q Greater tie = refl

  pub only_one : (out : Table) (row : Row) → out ≡ added empty k row → Some row ≡ get m k → out ≡ only k m
  only_one out row is some =
      is ∙ ap (λ o. cond (is_some o) empty (insert empty k row)) (get-empty key_order k)
      ∙ same_map key_total key_exact (insert empty k row) (only k m) (λ q. get-insert key_total empty k row q ∙ at q (key_order q k) refl ∙ sym (get_only q))
    where
      at : (q : Row) (o : Ordering) → key_order q k ≡ o → cond (is_eq o) (Some row) (get nothing q) ≡ cond (is_eq o) (get m q) None
      at q Less tie = get-empty key_order q
      at q Equal tie = some ∙ ap (get m) (sym (key_exact q k tie))
      at q Greater tie = get-empty key_order q

-- the row of a key that passes a test
module _ (test : Row → Bool) (table : Table) (q : Row) where
  pub where_none : None ≡ get table q → None ≡ get (rows_where test table) q
  where_none none = sym (get_where test table q ∙ ap (λ o. cond (passes test o) o None) (sym none))

  pub where_out : (row : Row) → Some row ≡ get table q → test row ≡ false → None ≡ get (rows_where test table) q
  where_out row some bad = sym (get_where test table q ∙ ap (λ o. cond (passes test o) o None) (sym some) ∙ ap (λ b. cond b (Some row) None) bad)

  pub where_in : (row : Row) → Some row ≡ get table q → test row ≡ true → Some row ≡ get (rows_where test table) q
  where_in row some good = sym (get_where test table q ∙ ap (λ o. cond (passes test o) o None) (sym some) ∙ ap (λ b. cond b (Some row) None) good)

pub if_ok : {A E : Type 0} (P Q : A → Type 0) → ((x : A) → P x → Q x) → (r : Result A E) → IfOk r P → IfOk r Q
if_ok P Q f (Ok x) h = f x h
if_ok P Q f (Err e) h = tt
