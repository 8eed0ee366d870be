-- Laws of rows that are kept.
use Rattle.std.proofs.Common.{◌≡◌, Bool, true, false, cond, ◌&&◌, Option, Some, None, is_some, List, refl, sym, ap, ◌∙◌}
use Rattle.std.specs.Ordering.{is_eq}
use Rattle.std.specs.declared.cmp.Ordering.{Ordering}
use Rattle.std.specs.declared.cmp.Ordering.TheVariants.{Less, Equal, Greater}
use Rattle.std.specs.Cmp.{eq_by_cmp_equiv}
use Rattle.std.specs.FinMap.{get, same_map}
use Rattle.row_types.specs.declared.value.Value.{Value}
use Rattle.row_types.specs.Order.{key_order}
use Rattle.row_types.proofs.OrderLaws.{key_total, key_exact}
use Rattle.indexed_rows.specs.Rows.{Table, is_same}
use Rattle.instances.specs.Views.{passes, rows_where}
use Rattle.instances.proofs.Gathering.{get_where}

abbrev Row : Type 0
Row = List Value

pub same_option : {A : Type 0} (a b : Option A) → ((r : A) → a ≡ Some r → b ≡ Some r) → ((r : A) → b ≡ Some r → a ≡ Some r) → a ≡ b
same_option None None f g = refl
same_option None (Some r) f g = g r refl
same_option (Some r) b f g = sym (f r refl)

-- two tables with the same rows
pub same_table : (m n : Table) → ((q r : Row) → get m q ≡ Some r → get n q ≡ Some r) → ((q r : Row) → get n q ≡ Some r → get m q ≡ Some r) → m ≡ n
same_table m n f g = same_map key_total key_exact m n (λ q. same_option (get m q) (get n q) (f q) (g q))

pub left_of_and : (a b : Bool) → (a && b) ≡ true → a ≡ true
left_of_and true b e = refl
left_of_and false b e = e

pub right_of_and : (a b : Bool) → (a && b) ≡ true → b ≡ true
right_of_and true b e = e
right_of_and false b e = cc

pub both_of_and : (a b : Bool) → a ≡ true → b ≡ true → (a && b) ≡ true
both_of_and a b x y = ap (λ c. c && b) x ∙ y

pub some_row : (o : Option Row) → is_some o ≡ true → (r : Row) × (o ≡ Some r)
some_row None e = cc
some_row (Some r) e = (r, refl)

-- a row of those that pass a test
pub record Passed (test : Row → Bool) (table : Table) (q row : Row) : Type 0 where
  pub there : get table q ≡ Some row
  pub good : test row ≡ true

pub passed : (test : Row → Bool) (table : Table) (q row : Row) → get (rows_where test table) q ≡ Some row → Passed test table q row
passed test table q row e = by (get table q) refl (sym (get_where test table q) ∙ e)
  where
    found : (r : Row) → get table q ≡ Some r → (b : Bool) → test r ≡ b → cond b (Some r) None ≡ Some row → Passed test table q row
    found r is true good h = let same : r ≡ row = cc in record { there = is ∙ ap Some same; good = ap test (sym same) ∙ good }
    found r is false bad h = cc

    by : (o : Option Row) → get table q ≡ o → cond (passes test o) o None ≡ Some row → Passed test table q row
    by None is h = cc
    by (Some r) is h = found r is (test r) refl h

pub passing : (test : Row → Bool) (table : Table) (q row : Row) → get table q ≡ Some row → test row ≡ true → get (rows_where test table) q ≡ Some row
passing test table q row there good = get_where test table q ∙ ap (λ o. cond (passes test o) o None) there ∙ ap (λ b. cond b (Some row) None) good

-- keys
pub same_is : (q k : Row) → is_same q k ≡ true → q ≡ k
same_is q k e = by (key_order q k) refl e
  where
    by : (o : Ordering) → key_order q k ≡ o → is_eq o ≡ true → q ≡ k
    by Less tie h = cc
    by Equal tie h = key_exact q k tie
    by Greater tie h = cc

pub is_same_self : (k : Row) → is_same k k ≡ true
is_same_self k = (eq_by_cmp_equiv key_total).refl k
