-- The root keys that leave where WITH ID gives one.
use Rattle.std.proofs.Common.{◌≡◌, ◌<◌, ◌≤◌, Bor, option_copied, ℕ, zero, suc, ◌+◌, Bool, true, false, cond, ◌||◌, Option, Some, None, IfOk, IfSome, Result, Ok, Err, List, [], ◌∷◌, ◌++◌, length, map, take, slice_get, arith, refl, sym, ap, subst, ◌∙◌}
use Rattle.std.specs.FinMap as fm
use Rattle.std.specs.Global.{Vec}
use Rattle.std.specs.Option.{MatchOption}
use Rattle.std.specs.List.{HoldsAt}
use Rattle.std.proofs.lemmas.Option.{slice_get-get_or, slice_get_past}
use Rattle.std.specs.Ordering.{is_eq}
use Rattle.std.specs.declared.cmp.Ordering.{Ordering}
use Rattle.std.specs.declared.cmp.Ordering.TheVariants.{Less, Equal, Greater}
use Rattle.row_types.specs.declared.column.Column.{Column}
use Rattle.row_types.specs.declared.truth.Truth.TheVariants.{Unknown}
use Rattle.row_types.specs.declared.value.Value.{Value}
use Rattle.row_types.specs.Columns.{rescaled_for}
use Rattle.row_types.specs.Order.{key_order, value_order}
use Rattle.row_types.specs.Truths.{truth_of}
use Rattle.row_types.specs.Values.{is_null}
use Rattle.row_types.proofs.OrderLaws.{key_exact, key_total, rescaled_is}
use Rattle.tier_base.specs.declared.number.TableId.{TableId}
use Rattle.indexed_rows.specs.Rows.{Table, is_same, key_of, value_at}
use Rattle.indexed_rows.proofs.EntryLaws.{same_itself, same_values}
use Rattle.table_defs.specs.declared.definition.TableDef.{TableDef}
use Rattle.evaluator.specs.KeyPaths.{IsOfTypes}
use Rattle.evaluator.specs.Writes.{selects}
use Rattle.evaluator.proofs.ConditionLaws.{row_types}
use Rattle.instances.specs.Views.{is_true, kept_at, passes}
use Rattle.order_laws.proofs.TruthLaws.{both_true, never_both}
use Rattle.cache_tier.specs.Conditions.{same_value}
use Rattle.group_catalog.specs.Identified.{are_equal, is_given}
use Rattle.group_catalog.specs.declared.which.ResolvedWhich.{ResolvedWhich}
use Rattle.group_store.specs.Stores.{Kept, SameButSpare}
use Rattle.changed_sets.specs.OfAgingCycles.Running.{cut_all}
use Rattle.stored_tier.specs.Choosing.{chosen, matches_at}
use Rattle.group_engine.specs.Unloading.{IsCutBy, leaving}
use Rattle.group_engine.specs.UnloadNamed.{FitsFor, FitsUnder, NamesKey, NamesValue}
use Rattle.group_engine.proofs.MatchLaws.{get_retained}
use Rattle.group_engine.proofs.MatchedRoots.{leaving_keys}

abbrev Row : Type 0
Row = List Value

-- a value that a column keeps

if_equal : (o : Ordering) → is_true (Some (truth_of (is_eq o))) ≡ true → o ≡ Equal
if_equal Less e = cc
if_equal Equal e = refl
if_equal Greater e = cc

equal_values : (v w : Value) → same_value v (Some w) ≡ true → value_order v w ≡ Equal
equal_values v w e = by (is_null v || is_null w) e
  where
    by : (none : Bool) → is_true (Some (cond none Unknown (truth_of (is_eq (value_order v w))))) ≡ true → value_order v w ≡ Equal
    by true h = cc
    by false h = if_equal (value_order v w) h

names_value : (columns : List Column) (place : ℕ) (column : Column) (given kept : Value) → slice_get columns place ≡ Some column → rescaled_for column.ty given ≡ Some kept → NamesValue columns place (Some given) kept
names_value columns place column given kept at is row types same = rescaled_is column.ty (value_at row place) given kept (types place column at) (equal_values (value_at row place) given same) is

pub value_named : {E : Type 0} (columns : List Column) (place : ℕ) (column : Column) (given : Value) (r : Result (Option Value) E) → slice_get columns place ≡ Some column → IfOk r (λ found. found ≡ rescaled_for column.ty given)
    → IfOk r (λ kept. IfSome kept (λ value. NamesValue columns place (Some given) value))
value_named columns place column given (Ok (Some kept)) at is = names_value columns place column given kept at (sym is)
value_named columns place column given (Ok None) at is = tt
value_named columns place column given (Err e) at is = tt

-- a key gets longer by a value

equal_at : (key values : Row) (n : ℕ) (v : Value) → are_equal key values ≡ true → slice_get key n ≡ Some v → same_value v (slice_get values n) ≡ true
equal_at [] values n v e at = cc
equal_at (x ∷ key) [] n v e at = cc
equal_at (x ∷ key) (y ∷ values) zero v e at =
    let same : x ≡ v = cc in
    ap (λ z. same_value z (Some y)) (sym same) ∙ (both_true (same_value x (Some y)) (are_equal key values) e).0
equal_at (x ∷ key) (y ∷ values) (suc n) v e at = equal_at key values n v (both_true (same_value x (Some y)) (are_equal key values) e).1 at

value_there : (places : List ℕ) (i p : ℕ) (row : Row) → slice_get places i ≡ Some p → slice_get (key_of places row) i ≡ Some (value_at row p)
value_there [] i p row at = cc
value_there (q ∷ places) zero p row at = let same : q ≡ p = cc in ap (λ z. Some (value_at row z)) same
value_there (q ∷ places) (suc i) p row at = value_there places i p row at

take_key : (places : List ℕ) (i p : ℕ) (row : Row) → slice_get places i ≡ Some p → key_of (take (i + 1) places) row ≡ key_of (take i places) row ++ value_at row p ∷ []
take_key [] i p row at = cc
take_key (q ∷ places) zero p row at = let same : q ≡ p = cc in ap (λ z. value_at row z ∷ []) same
take_key (q ∷ places) (suc i) p row at = let next : suc i + 1 ≡ suc (i + 1) = omega arith in rw next (ap (λ k. value_at row q ∷ k) (take_key places i p row at))

-- what a look at a place tells
pub copied_at : (values : Row) (i : ℕ) (o : Option (Bor Value)) → MatchOption o (length values ≤ i) (λ x. (i < length values) × HoldsAt (λ y. x.now ≡ y) values i) → option_copied o ≡ slice_get values i
copied_at values i None past = sym (slice_get_past values i past)
copied_at values i (Some x) there = sym (slice_get-get_or values i x.now there.0 ∙ ap Some (sym (there.1 x.now)))

-- these are the first values of each key that is the one that is given
abbrev pub NamesFirst : List Column → List ℕ → Row → ℕ → Row → Type 0
NamesFirst columns places values n kept = (row : Row) → IsOfTypes columns row → are_equal (key_of places row) values ≡ true → key_of (take n places) row ≡ kept

pub names_more : (columns : List Column) (places : List ℕ) (values : Row) (i p : ℕ) (kept : Row) (v : Value) → slice_get places i ≡ Some p → NamesValue columns p (slice_get values i) v → NamesFirst columns places values i kept → NamesFirst columns places values (i + 1) (kept ++ v ∷ [])
names_more columns places values i p kept v at names so_far row types e =
    take_key places i p row at ∙ ap (λ k. k ++ value_at row p ∷ []) (so_far row types e)
    ∙ ap (λ z. kept ++ z ∷ []) (names row types (equal_at (key_of places row) values i (value_at row p) e (value_there places i p row at)))

-- at most one key leaves

no_entries : (es : List (Row × Row)) → length es ≡ 0 → es ≡ []
no_entries [] e = refl
no_entries (x ∷ es) e = cc

abbrev no_rows : Table
no_rows = fm.empty

none_in : fm.entries no_rows ≡ []
none_in = no_entries (fm.entries no_rows) (sym (fm.len-entries no_rows) ∙ fm.len-empty key_order Row)

no_key : fm.keys no_rows ≡ []
no_key = ap (λ (es : List (Row × Row)). map (λ e. e.0) es) none_in

lone_key : (key row : Row) → fm.keys (fm.insert no_rows key row) ≡ key ∷ []
lone_key key row = ap (λ (es : List (Row × Row)). map (λ e. e.0) es) (fm.entries-insert key_total no_rows key row ∙ ap (fm.put key_order key row) none_in)

module _ (which : ResolvedWhich) (S : Table) (K : Row) (only : (k r : Row) → fm.get S k ≡ Some r → matches_at which k r ≡ true → k ≡ K) where
  chosen_at : (k : Row) → fm.get (chosen (matches_at which) S) k ≡ cond (passes (matches_at which k) (fm.get S k)) (fm.get S k) None
  chosen_at k = get_retained S (λ key. passes (matches_at which key) (fm.get S key)) k

  read : (k : Row) (o : Option Row) → fm.get S k ≡ o → fm.get (chosen (matches_at which) S) k ≡ cond (passes (matches_at which k) o) o None
  read k o e = chosen_at k ∙ ap (λ (x : Option Row). cond (passes (matches_at which k) x) x None) e

  -- what doesn't match isn't chosen
  unmatched : (k r : Row) → fm.get S k ≡ Some r → matches_at which k r ≡ false → fm.get (chosen (matches_at which) S) k ≡ None
  unmatched k r e bad = read k (Some r) e ∙ ap (λ b. cond b (Some r) None) bad

  matches_there : (k r : Row) → fm.get S k ≡ Some r → matches_at which k r ≡ true → passes (matches_at which K) (fm.get S K) ≡ true
  matches_there k r e good = ap (λ q. passes (matches_at which q) (fm.get S q)) (sym (only k r e good)) ∙ ap (passes (matches_at which k)) e ∙ good

  none_at : (k : Row) (o : Option Row) → fm.get S k ≡ o → passes (matches_at which K) (fm.get S K) ≡ false → fm.get (chosen (matches_at which) S) k ≡ None
  none_at k None e bare = read k None e
  none_at k (Some r) e bare = by (matches_at which k r) refl
    where
      by : (b : Bool) → matches_at which k r ≡ b → fm.get (chosen (matches_at which) S) k ≡ None
      by true good = absurd (never_both (passes (matches_at which K) (fm.get S K)) (matches_there k r e good) bare)
      by false bad = unmatched k r e bad

  chosen_none : passes (matches_at which K) (fm.get S K) ≡ false → chosen (matches_at which) S ≡ no_rows
  chosen_none bare = fm.same_map key_total key_exact (chosen (matches_at which) S) no_rows (λ k. none_at k (fm.get S k) refl bare ∙ sym (fm.get-empty key_order k))

  other_at : (k : Row) (o : Option Row) → fm.get S k ≡ o → is_same k K ≡ false → fm.get (chosen (matches_at which) S) k ≡ None
  other_at k None e other = read k None e
  other_at k (Some r) e other = by (matches_at which k r) refl
    where
      by : (b : Bool) → matches_at which k r ≡ b → fm.get (chosen (matches_at which) S) k ≡ None
      by true good = absurd (never_both (is_same k K) (same_itself k K (only k r e good)) other)
      by false bad = unmatched k r e bad

  one_at : (r : Row) → fm.get S K ≡ Some r → matches_at which K r ≡ true → (k : Row) (b : Bool) → is_same k K ≡ b → fm.get (chosen (matches_at which) S) k ≡ cond b (Some r) None
  one_at r e good k true same = ap (fm.get (chosen (matches_at which) S)) (same_values k K same) ∙ read K (Some r) e ∙ ap (λ b. cond b (Some r) None) good
  one_at r e good k false other = other_at k (fm.get S k) refl other

  chosen_one : (r : Row) → fm.get S K ≡ Some r → matches_at which K r ≡ true → chosen (matches_at which) S ≡ fm.insert no_rows K r
  chosen_one r e good = fm.same_map key_total key_exact (chosen (matches_at which) S) (fm.insert no_rows K r) (λ k.
      one_at r e good k (is_same k K) refl
      ∙ sym (fm.get-insert key_total no_rows K r k ∙ ap (λ (o : Option Row). cond (is_same k K) (Some r) o) (fm.get-empty key_order k)))

  keys_chosen : (o : Option Row) → fm.get S K ≡ o → (b : Bool) → passes (matches_at which K) o ≡ b → fm.keys (chosen (matches_at which) S) ≡ cond b (K ∷ []) []
  keys_chosen None e true good = cc
  keys_chosen (Some r) e true good = ap (λ (t : Table). fm.keys t) (chosen_one r e good) ∙ lone_key K r
  keys_chosen o e false bad = ap (λ (t : Table). fm.keys t) (chosen_none (ap (passes (matches_at which K)) e ∙ bad)) ∙ no_key

  leaving_is : (columns : List ℕ) → ((k r : Row) → fm.get S k ≡ Some r → key_of columns r ≡ k) → leaving which columns S ≡ cond (passes (matches_at which K) (fm.get S K)) (K ∷ []) []
  leaving_is columns keyed = leaving_keys which columns S keyed ∙ keys_chosen (fm.get S K) refl (passes (matches_at which K) (fm.get S K)) refl

-- out: of rows that fit the one that is named leaves
named_leaves : (def : TableDef) (which : ResolvedWhich) (rows : Table) (key : Row) → NamesKey def.columns def.primary_key which.id key → FitsUnder def rows → leaving which def.primary_key rows ≡ cond (passes (matches_at which key) (fm.get rows key)) (key ∷ []) []
named_leaves def which rows key names fits = leaving_is which rows key only def.primary_key fits.0
  where
    only : (k r : Row) → fm.get rows k ≡ Some r → matches_at which k r ≡ true → k ≡ key
    only k r e good =
        sym (fits.0 k r e)
        ∙ names r (row_types def.columns r (fits.1 k r e)) (ap (λ q. is_given q which.id) (fits.0 k r e) ∙ (both_true (is_true (selects which.filter r)) (is_given k which.id) good).1)

pub one_leaves : {E : Type 0} (def : TableDef) (which : ResolvedWhich) (rows : Table) (key : Row) (found : Option Row) (b : Bool) (r : Result (Vec Row) E) → NamesKey def.columns def.primary_key which.id key → found ≡ fm.get rows key → b ≡ passes (matches_at which key) found → IfOk r (λ keys. keys.items ≡ cond b (key ∷ []) [])
    → IfOk r (λ keys. FitsUnder def rows → keys.items ≡ leaving which def.primary_key rows)
one_leaves def which rows key found b (Ok keys) names looked tests is = λ fits.
    is ∙ ap (λ c. cond c (key ∷ []) []) (tests ∙ ap (passes (matches_at which key)) looked) ∙ sym (named_leaves def which rows key names fits)
one_leaves def which rows key found b (Err e) names looked tests is = is

pub all_leave : {E : Type 0} (def : TableDef) (which : ResolvedWhich) (columns : List ℕ) (rows : Table) (r : Result (Vec Row) E) → columns ≡ def.primary_key → IfOk r (λ keys. keys.items ≡ leaving which columns rows) → IfOk r (λ keys. FitsUnder def rows → keys.items ≡ leaving which def.primary_key rows)
all_leave def which columns rows (Ok keys) same is = λ fits. is ∙ ap (λ cs. leaving which cs rows) same
all_leave def which columns rows (Err e) same is = is

-- what left, where rows fit

pub record HasCut (which : ResolvedWhich) (columns : List ℕ) (old new : Kept) (n : ℕ) : Type 0 where
  pub count : n ≡ length (leaving which columns (kept_at old.tables 0))
  pub gone : SameButSpare (cut_all (leaving which columns (kept_at old.tables 0)) old) new

pub has_cut : (fits : Table → Type 0) (which : ResolvedWhich) (columns : List ℕ) (old new : Kept) (n : ℕ) → IsCutBy fits which columns old new n → fits (kept_at old.tables 0) → HasCut which columns old new n
has_cut fits which columns old new n cut fit = record {
  count = cut.count ∙ ap length (cut.are fit);
  gone = subst (λ (keys : List Row). SameButSpare (cut_all keys old) new) (cut.are fit) cut.gone;
}

pub cut_widened : (schema : List TableDef) (table : TableId) (def : TableDef) (which : ResolvedWhich) (columns : List ℕ) (old new : Kept) (n : ℕ) → slice_get schema table.0 ≡ Some def → IsCutBy (FitsUnder def) which columns old new n → IsCutBy (FitsFor schema table) which columns old new n
cut_widened schema table def which columns old new n is cut = record {
  keys = cut.keys;
  are = λ fits. cut.are (fits def is);
  count = cut.count;
  gone = cut.gone;
}
