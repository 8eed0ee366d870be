-- What operations that apply leave of the stores.
use Rattle.std.proofs.Common.{◌≡◌, ℕ, zero, suc, ◌+◌, ◌<◌, Bool, true, false, cond, not, ◌&&◌, ◌||◌, nat_eq, Option, Some, None, is_some, List, [], ◌∷◌, length, slice_get, slice_set, unwrap_or, find, position, refl, sym, ap, subst, ◌∙◌, arith}
use Rattle.std.specs.FinMap as fm
use Rattle.std.specs.List.{list_any}
use Rattle.std.specs.Option.{option_and_then, option_map, option_or}
use Rattle.std.proofs.lemmas.Bool.{eqb-true, eq-eqb}
use Rattle.std.proofs.lemmas.List.{length-map}
use Rattle.row_types.specs.declared.value.Value.{Value}
use Rattle.tier_base.specs.declared.number.TableId.{TableId}
use Rattle.table_defs.specs.declared.definition.TableDef.{TableDef}
use Rattle.indexed_rows.specs.Rows.{Table, is_same, key_of, put_in, put_over}
use Rattle.indexed_rows.proofs.EntryLaws.{same_values}
use Rattle.table_state.specs.declared.operation.Op.{Op}
use Rattle.table_state.specs.declared.operation.Op.TheVariants.{Delete, Insert, Update}
use Rattle.table_state.specs.Operations.{applied, applied_all, on_table, only_if, table_of, with_change, with_row, without_row}
use Rattle.table_state.specs.Tables.{TableState, fits_columns, has_child, has_parent, is_found, is_there, table_at}
use Rattle.instances.specs.declared.tree.Child.{Child}
use Rattle.instances.specs.declared.tree.Tree.{Tree}
use Rattle.instances.specs.Trees.{place_of, same_table, table_of as table_in}
use Rattle.instances.specs.Views.{kept_at}
use Rattle.cache_store.specs.Operating.{change_at}
use Rattle.group_store.specs.Keeping.{IsFor, layer_for}
use Rattle.group_store.specs.Shown.{AreHoused, home_from, home_of, homes_from, kept_rows, rows_there, shown_by, stored_rows, tables_by}
use Rattle.group_store.specs.Stores.{Kept, at_place, op_done, place_in, put_store, replace_store, take_store}
use Rattle.group_store.specs.Trees.{key_at}
use Rattle.group_store.specs.declared.directory.Home.{Home}
use Rattle.order_laws.proofs.TruthLaws.{both_true, never_both}
use Rattle.cache_tier.specs.Groups.{Group, covers, is_table_of, is_writethrough}
use Rattle.cache_tier.specs.StandingBetween.{are_written_through}
use Rattle.cache_tier.proofs.GroupTables.{any_found}
use Rattle.cache_tier.proofs.ShownTables.{same_state}
use Rattle.cache_tier.proofs.ShownTrees as trees
use Rattle.session_engine.specs.Committing.{at_home, at_number, home_in, ops_at}
use Rattle.stored_tier.specs.Grouping.{SameTree}
use Rattle.stored_tier.specs.Stored.{AreKept, AreWhole}
use Rattle.stored_tier.proofs.StoreChanges.{form_kept}
use Rattle.stored_tier.proofs.StoreForms.{key_for, primary}
use Rattle.stored_tier.proofs.StoreRows.{no_table_stored, place_same, table_kept, table_stored}
use Rattle.stored_tier.proofs.SoundParts.{housed_exchanged}

abbrev Row : Type 0
Row = List Value

-- what an operation makes of its table, by the columns of the table's key
abbrev pub op_on : List ℕ → Op → Table → Table
op_on columns (Insert t row) m = put_in m (key_of columns row) row
op_on columns (Update t old row) m = put_over m (key_of columns row) row
op_on columns (Delete t row) m = fm.remove m (key_of columns row)

-- one table of a list changes

kept_here : (ts : List Table) (place : ℕ) (f : Table → Table) → place < length ts → kept_at (change_at place f ts) place ≡ f (kept_at ts place)
kept_here [] place f w = absurd (omega (arith, w))
kept_here (t ∷ ts) zero f w = refl
kept_here (t ∷ ts) (suc place) f w = kept_here ts place f (omega (arith, w))

pub kept_else : (ts : List Table) (place : ℕ) (f : Table → Table) (q : ℕ) → (q ≡ place → ⊥) → kept_at (change_at place f ts) q ≡ kept_at ts q
kept_else [] place f q n = refl
kept_else (t ∷ ts) zero f zero n = absurd (n refl)
kept_else (t ∷ ts) zero f (suc q) n = refl
kept_else (t ∷ ts) (suc place) f zero n = refl
kept_else (t ∷ ts) (suc place) f (suc q) n = kept_else ts place f q (λ e. n (ap suc e))

long_change : (ts : List Table) (place : ℕ) (f : Table → Table) → length (change_at place f ts) ≡ length ts
long_change [] place f = refl
long_change (t ∷ ts) zero f = refl
long_change (t ∷ ts) (suc place) f = ap suc (long_change ts place f)

-- of one store

tree_same : (s : Kept) → SameTree s s
tree_same s = record { table = refl; key = refl; foreign = refl; layers = refl }

tree_at : (change : ℕ → Kept → Kept) (s : Kept) → ((n : ℕ) → SameTree s (change n s)) → (o : Option ℕ) → SameTree s (at_place o change s)
tree_at change s same None = tree_same s
tree_at change s same (Some n) = same n

pub op_tree : (op : Op) (s : Kept) → SameTree s (op_done op s)
op_tree (Insert t row) s = tree_at (λ n. put_store n row) s (λ n. record { table = refl; key = refl; foreign = refl; layers = refl }) (place_in s t)
op_tree (Update t old row) s = tree_at (λ n. replace_store n row) s (λ n. record { table = refl; key = refl; foreign = refl; layers = refl }) (place_in s t)
op_tree (Delete t row) s = tree_at (λ n. take_store n row) s (λ n. record { table = refl; key = refl; foreign = refl; layers = refl }) (place_in s t)

pub op_absent : (op : Op) (s : Kept) → place_in s (table_of op) ≡ None → op_done op s ≡ s
op_absent (Insert t row) s e = ap (λ o. at_place o (λ n. put_store n row) s) e
op_absent (Update t old row) s e = ap (λ o. at_place o (λ n. replace_store n row) s) e
op_absent (Delete t row) s e = ap (λ o. at_place o (λ n. take_store n row) s) e

pub op_there : (op : Op) (s : Kept) (p : ℕ) → place_in s (table_of op) ≡ Some p → (op_done op s).tables ≡ change_at p (op_on (key_at s.key s.layers p) op) s.tables
op_there (Insert t row) s p e = ap (λ o. (at_place o (λ n. put_store n row) s).tables) e
op_there (Update t old row) s p e = ap (λ o. (at_place o (λ n. replace_store n row) s).tables) e
op_there (Delete t row) s p e = ap (λ o. (at_place o (λ n. take_store n row) s).tables) e

pub op_long : (op : Op) (s : Kept) → length (op_done op s).tables ≡ length s.tables
op_long op s = by (place_in s (table_of op)) refl
  where
    by : (o : Option ℕ) → place_in s (table_of op) ≡ o → length (op_done op s).tables ≡ length s.tables
    by None e = ap (λ (x : Kept). length x.tables) (op_absent op s e)
    by (Some p) e = ap length (op_there op s p e) ∙ long_change s.tables p (op_on (key_at s.key s.layers p) op)

-- a store of the same tree is found as the old one
same_placed : (s x : Kept) (t : TableId) → SameTree x s → place_in s t ≡ place_in x t
same_placed s x t same =
    ap (λ r. cond (same_table r t) (Some 0) (option_map suc (position (λ l. same_table l.table t) s.layers))) same.table
    ∙ ap (λ ls. cond (same_table x.table t) (Some 0) (option_map suc (position (λ l. same_table l.table t) ls))) same.layers

-- the form of stores stays

kept_number : (schema : List TableDef) (f : Kept → Kept) → ((s : Kept) → SameTree s (f s)) → (n : ℕ) (groups : List Group) (stores : List Kept) → AreKept schema groups stores → AreKept schema groups (at_number n f stores)
kept_number schema f same n groups [] are = are
kept_number schema f same n [] (s ∷ stores) are = absurd are
kept_number schema f same zero (g ∷ groups) (s ∷ stores) are = (form_kept schema g.def.tree s (f s) are.0 (same s), are.1)
kept_number schema f same (suc n) (g ∷ groups) (s ∷ stores) are = (are.0, kept_number schema f same n groups stores are.1)

whole_number : (f : Kept → Kept) → ((s : Kept) → SameTree s (f s)) → ((s : Kept) → length (f s).tables ≡ length s.tables) → (n : ℕ) (stores : List Kept) → AreWhole stores → AreWhole (at_number n f stores)
whole_number f same long n [] whole k s at = cc
whole_number f same long zero (x ∷ stores) whole zero s at =
    let one : f x ≡ s = cc in
    subst (λ (z : Kept). length z.tables ≡ suc (length z.layers)) one (long x ∙ whole 0 x refl ∙ ap (λ ls. suc (length ls)) (sym (same x).layers))
whole_number f same long zero (x ∷ stores) whole (suc k) s at = whole (suc k) s at
whole_number f same long (suc n) (x ∷ stores) whole zero s at = whole zero s at
whole_number f same long (suc n) (x ∷ stores) whole (suc k) s at = whole_number f same long n stores (λ j y there. whole (suc j) y there) k s at

pub kept_home : (schema : List TableDef) (op : Op) (o : Option Home) (groups : List Group) (stores : List Kept) → AreKept schema groups stores → AreKept schema groups (at_home o (op_done op) stores)
kept_home schema op None groups stores are = are
kept_home schema op (Some home) groups stores are = kept_number schema (op_done op) (op_tree op) home.store groups stores are

pub whole_home : (op : Op) (o : Option Home) (stores : List Kept) → AreWhole stores → AreWhole (at_home o (op_done op) stores)
whole_home op None stores whole = whole
whole_home op (Some home) stores whole = whole_number (op_done op) (op_tree op) (op_long op) home.store stores whole

pub kept_ops : (schema : List TableDef) (directory : List (Option Home)) (ops : List Op) (groups : List Group) (stores : List Kept) → AreKept schema groups stores → AreKept schema groups (ops_at directory ops stores)
kept_ops schema directory [] groups stores are = are
kept_ops schema directory (op ∷ ops) groups stores are = kept_ops schema directory ops groups (at_home (home_in directory op) (op_done op) stores) (kept_home schema op (home_in directory op) groups stores are)

pub whole_ops : (directory : List (Option Home)) (ops : List Op) (stores : List Kept) → AreWhole stores → AreWhole (ops_at directory ops stores)
whole_ops directory [] stores whole = whole
whole_ops directory (op ∷ ops) stores whole = whole_ops directory ops (at_home (home_in directory op) (op_done op) stores) (whole_home op (home_in directory op) stores whole)

-- the first store that has the operation's table does it

abbrev pub done_with : Option ℕ → Op → Kept → List Kept → List Kept → List Kept
done_with None op s stores rest = s ∷ rest
done_with (Some p) op s stores rest = op_done op s ∷ stores

abbrev pub done_first : Op → List Kept → List Kept
done_first op [] = []
done_first op (s ∷ stores) = done_with (place_in s (table_of op)) op s stores (done_first op stores)

abbrev bump : Home → Home
bump h = record { store = suc h.store; place = h.place }

bumped : (n : ℕ) (stores : List Kept) (t : TableId) → home_from (suc n) stores t ≡ option_map bump (home_from n stores t)
bumped n [] t = refl
bumped n (s ∷ stores) t = by (place_in s t) (bumped (suc n) stores t)
  where
    by : (o : Option ℕ) → home_from (suc (suc n)) stores t ≡ option_map bump (home_from (suc n) stores t)
        → option_or (option_map (λ place. record { store = suc n; place = place }) o) (home_from (suc (suc n)) stores t) ≡ option_map bump (option_or (option_map (λ place. record { store = n; place = place }) o) (home_from (suc n) stores t))
    by None rest = rest
    by (Some p) rest = refl

further : (o : Option Home) (f : Kept → Kept) (s : Kept) (stores : List Kept) → at_home (option_map bump o) f (s ∷ stores) ≡ s ∷ at_home o f stores
further None f s stores = refl
further (Some h) f s stores = refl

pub first_does : (op : Op) (stores : List Kept) → at_home (home_of stores (table_of op)) (op_done op) stores ≡ done_first op stores
first_does op [] = refl
first_does op (s ∷ stores) = by (place_in s (table_of op)) (first_does op stores)
  where
    by : (o : Option ℕ) → at_home (home_of stores (table_of op)) (op_done op) stores ≡ done_first op stores
        → at_home (option_or (option_map (λ place. record { store = 0; place = place }) o) (home_from 1 stores (table_of op))) (op_done op) (s ∷ stores) ≡ done_with o op s stores (done_first op stores)
    by None rest = ap (λ h. at_home h (op_done op) (s ∷ stores)) (bumped 0 stores (table_of op)) ∙ further (home_from 0 stores (table_of op)) (op_done op) s stores ∙ ap (λ xs. s ∷ xs) rest
    by (Some p) rest = refl

homes_get : (stores : List Kept) (from n i : ℕ) → i < n → slice_get (homes_from stores from n) i ≡ Some (home_of stores (record { 0 = from + i }))
homes_get stores from zero i lt = absurd (omega (arith, lt))
homes_get stores from (suc n) zero lt = let z : from ≡ from + 0 = omega arith in ap (λ m. Some (home_of stores (record { 0 = m }))) z
homes_get stores from (suc n) (suc i) lt =
    let z : suc from + i ≡ from + suc i = omega arith in
    homes_get stores (suc from) n i (omega (arith, lt)) ∙ ap (λ m. Some (home_of stores (record { 0 = m }))) z

got_below : {X : Type 0} (xs : List X) (i : ℕ) (x : X) → slice_get xs i ≡ Some x → i < length xs
got_below [] i x at = cc
got_below (y ∷ xs) zero x at = omega arith
got_below (y ∷ xs) (suc i) x at = let lt = got_below xs i x at in omega (arith, lt)

pub home_is : (schema : List TableDef) (stores : List Kept) (directory : List (Option Home)) (op : Op) (def : TableDef) → AreHoused schema stores directory → slice_get schema (table_of op).0 ≡ Some def → home_in directory op ≡ home_of stores (table_of op)
home_is schema stores directory op def housed there =
    let z : 0 + (table_of op).0 ≡ (table_of op).0 = omega arith in
    ap (λ d. option_and_then (λ (home : Option Home). home) (slice_get d (table_of op).0)) housed.homes
    ∙ ap (option_and_then (λ (home : Option Home). home)) (homes_get stores 0 (length schema) (table_of op).0 (got_below schema (table_of op).0 def there) ∙ ap (λ m. Some (home_of stores (record { 0 = m }))) z)

-- what the first store keeps then

table_same : (t u : TableId) → u.0 ≡ t.0 → u ≡ t
table_same t u e = ap (λ n. record { 0 = n }) e

child_within : (tree : Tree) (p : ℕ) (t : TableId) → table_in tree p ≡ Some t → p < suc (length tree.children)
child_within tree zero t e = omega arith
child_within tree (suc i) t e = by (slice_get tree.children i) refl e
  where
    by : (o : Option Child) → slice_get tree.children i ≡ o → option_map (λ (c : Child). c.table) o ≡ Some t → suc i < suc (length tree.children)
    by None at h = cc
    by (Some c) at h = let lt = got_below tree.children i c at in omega (arith, lt)

module _ (schema : List TableDef) (op : Op) (def : TableDef) (there : slice_get schema (table_of op).0 ≡ Some def) where
  abbrev its : TableId
  its = table_of op

  abbrev becomes : Table → Table
  becomes = op_on def.primary_key op

  module _ (tree : Tree) (s : Kept) (form : IsFor schema tree s) (whole : length s.tables ≡ suc (length s.layers)) (p : ℕ) (at : place_in s its ≡ Some p) where
    place_is : place_of tree its ≡ Some p
    place_is = sym (place_same schema tree s form its) ∙ at

    columns : key_at s.key s.layers p ≡ def.primary_key
    columns =
        let a = trees.at_place tree its p place_is in
        key_for schema tree s form p a.table a.is ∙ primary schema a.table def (ap (slice_get schema) a.same ∙ there)

    within : p < length s.tables
    within =
        let a = trees.at_place tree its p place_is in
        let lt = child_within tree p a.table a.is in
        let layers = ap length form.layers ∙ length-map tree.children (layer_for schema) in
        omega (arith, lt, layers, whole)

    tables_then : (op_done op s).tables ≡ change_at p becomes s.tables
    tables_then = op_there op s p at ∙ ap (λ cs. change_at p (op_on cs op) s.tables) columns

    place_then : (u : TableId) → place_in (op_done op s) u ≡ place_in s u
    place_then u = same_placed (op_done op s) s u (op_tree op s)

    here : rows_there (op_done op s) its ≡ Some (becomes (kept_at s.tables p))
    here =
        ap (option_map (kept_at (op_done op s).tables)) (place_then its ∙ at)
        ∙ ap (λ ts. Some (kept_at ts p)) tables_then ∙ ap Some (kept_here s.tables p becomes within)

    beside : (u : TableId) → (u.0 ≡ its.0 → ⊥) → rows_there (op_done op s) u ≡ rows_there s u
    beside u other = ap (option_map (kept_at (op_done op s).tables)) (place_then u) ∙ by (place_in s u) refl
      where
        apart : (q : ℕ) → place_in s u ≡ Some q → q ≡ p → ⊥
        apart q e same =
            let a = trees.at_place tree its p place_is in
            let b = trees.at_place tree u p (sym (place_same schema tree s form u) ∙ e ∙ ap Some same) in
            let both : Some a.table ≡ Some b.table = sym a.is ∙ b.is in
            let one : a.table ≡ b.table = cc in
            other (sym b.same ∙ ap (λ (x : TableId). x.0) (sym one) ∙ a.same)

        by : (o : Option ℕ) → place_in s u ≡ o → option_map (kept_at (op_done op s).tables) o ≡ option_map (kept_at s.tables) o
        by None e = refl
        by (Some q) e = ap (λ ts. Some (kept_at ts q)) tables_then ∙ ap Some (kept_else s.tables p becomes q (apart q e))

  -- what all stores keep then
  rows_its : (groups : List Group) (stores : List Kept) (m : Table) → AreKept schema groups stores → AreWhole stores → kept_rows stores its ≡ Some m → kept_rows (done_first op stores) its ≡ Some (becomes m)
  rows_its groups [] m are whole e = cc
  rows_its [] (s ∷ stores) m are whole e = absurd are
  rows_its (g ∷ groups) (s ∷ stores) m are whole e = by (place_in s its) refl (rows_its groups stores m are.1 (λ k x at. whole (suc k) x at)) e
    where
      by : (o : Option ℕ) → place_in s its ≡ o → (kept_rows stores its ≡ Some m → kept_rows (done_first op stores) its ≡ Some (becomes m)) → option_or (option_map (kept_at s.tables) o) (kept_rows stores its) ≡ Some m
          → kept_rows (done_with o op s stores (done_first op stores)) its ≡ Some (becomes m)
      by None at rest h = ap (λ o. option_or (option_map (kept_at s.tables) o) (kept_rows (done_first op stores) its)) at ∙ rest h
      by (Some p) at rest h =
          let is : kept_at s.tables p ≡ m = cc in
          ap (λ o. option_or o (kept_rows stores its)) (here g.def.tree s are.0 (whole 0 s refl) p at) ∙ ap (λ x. Some (becomes x)) is

  rows_else : (groups : List Group) (stores : List Kept) (u : TableId) → AreKept schema groups stores → AreWhole stores → (u.0 ≡ its.0 → ⊥) → kept_rows (done_first op stores) u ≡ kept_rows stores u
  rows_else groups [] u are whole other = refl
  rows_else [] (s ∷ stores) u are whole other = absurd are
  rows_else (g ∷ groups) (s ∷ stores) u are whole other = by (place_in s its) refl (rows_else groups stores u are.1 (λ k x at. whole (suc k) x at) other)
    where
      by : (o : Option ℕ) → place_in s its ≡ o → kept_rows (done_first op stores) u ≡ kept_rows stores u → kept_rows (done_with o op s stores (done_first op stores)) u ≡ kept_rows (s ∷ stores) u
      by None at rest = ap (option_or (rows_there s u)) rest
      by (Some p) at rest = ap (λ o. option_or o (kept_rows stores u)) (beside g.def.tree s are.0 (whole 0 s refl) p at u other)

-- what an operation that applies makes of its table

record Made (op : Op) (s n : TableState) : Type 0 where
  def : TableDef
  table : Table
  def_is : slice_get s.schema (table_of op).0 ≡ Some def
  table_is : slice_get s.tables (table_of op).0 ≡ Some table
  made : n ≡ record { schema = s.schema; tables = slice_set s.tables (table_of op).0 (op_on def.primary_key op table) }

record OnTable (s : TableState) (t : TableId) (change : TableDef → Table → Option Table) (n : TableState) : Type 0 where
  def : TableDef
  table : Table
  new : Table
  def_is : slice_get s.schema t.0 ≡ Some def
  table_is : slice_get s.tables t.0 ≡ Some table
  change_is : change def table ≡ Some new
  made : n ≡ record { schema = s.schema; tables = slice_set s.tables t.0 new }

on_table_is : (s : TableState) (t : TableId) (change : TableDef → Table → Option Table) (n : TableState) → on_table s t change ≡ Some n → OnTable s t change n
on_table_is s t change n e = by (slice_get s.schema t.0) (slice_get s.tables t.0) refl refl e
  where
    last : (def : TableDef) (table : Table) → slice_get s.schema t.0 ≡ Some def → slice_get s.tables t.0 ≡ Some table → (o : Option Table) → change def table ≡ o → option_map (λ new. record { schema = s.schema; tables = slice_set s.tables t.0 new }) o ≡ Some n → OnTable s t change n
    last def table d m None c e = cc
    last def table d m (Some new) c e =
        let same : record { schema = s.schema; tables = slice_set s.tables t.0 new } ≡ n = cc in
        record { def = def; table = table; new = new; def_is = d; table_is = m; change_is = c; made = sym same }

    by : (d : Option TableDef) (m : Option Table) → slice_get s.schema t.0 ≡ d → slice_get s.tables t.0 ≡ m
        → option_and_then (λ def. option_and_then (λ table. option_map (λ new. record { schema = s.schema; tables = slice_set s.tables t.0 new }) (change def table)) m) d ≡ Some n → OnTable s t change n
    by None m d_is m_is e = cc
    by (Some def) None d_is m_is e = cc
    by (Some def) (Some table) d_is m_is e = last def table d_is m_is (change def table) refl e

only : (b : Bool) (x y : Table) → only_if b x ≡ Some y → (b ≡ true) × (x ≡ y)
only true x y e = let same : x ≡ y = cc in (refl, same)
only false x y e = cc

found_there : (row : Row) (o : Option Row) → is_found row o ≡ true → is_some o ≡ true
found_there row None e = cc
found_there row (Some r) e = refl

absent : (b : Bool) (x y : Table) → not b ≡ true → cond b x y ≡ y
absent true x y e = cc
absent false x y e = refl

made_at : (op : Op) (s n : TableState) (change : TableDef → Table → Option Table) (o : OnTable s (table_of op) change n) → o.new ≡ op_on o.def.primary_key op o.table → Made op s n
made_at op s n change o is = record {
  def = o.def;
  table = o.table;
  def_is = o.def_is;
  table_is = o.table_is;
  made = o.made ∙ ap (λ m. record { schema = s.schema; tables = slice_set s.tables (table_of op).0 m }) is;
}

made_by : (op : Op) (s n : TableState) → applied op s ≡ Some n → Made op s n
made_by (Insert t row) s n e =
    let o = on_table_is s t (with_row s row) n e in
    let k = key_of o.def.primary_key row in
    let x = only (fits_columns o.def.columns row && not (fm.contains_key o.table k) && has_parent s o.def.foreign_key row) (fm.insert o.table k row) o.new o.change_is in
    let parts = both_true _ _ (both_true _ _ x.0).0 in
    made_at (Insert t row) s n (with_row s row) o (sym x.1 ∙ sym (absent (fm.contains_key o.table k) o.table (fm.insert o.table k row) parts.1))
made_by (Update t old row) s n e =
    let o = on_table_is s t (with_change s old row) n e in
    let k = key_of o.def.primary_key row in
    let x = only (fits_columns o.def.columns row && is_same (key_of o.def.primary_key old) k && is_there o.def old o.table && has_parent s o.def.foreign_key row) (fm.insert o.table k row) o.new o.change_is in
    let front = both_true _ _ (both_true _ _ x.0).0 in
    let keys = same_values (key_of o.def.primary_key old) k (both_true _ _ front.0).1 in
    let there : fm.contains_key o.table k ≡ true = ap (fm.contains_key o.table) (sym keys) ∙ found_there old (fm.get o.table (key_of o.def.primary_key old)) front.1 in
    made_at (Update t old row) s n (with_change s old row) o (sym x.1 ∙ sym (ap (λ b. cond b (fm.insert o.table k row) o.table) there))
made_by (Delete t old) s n e =
    let o = on_table_is s t (without_row s t old) n e in
    let k = key_of o.def.primary_key old in
    let x = only (is_there o.def old o.table && not (has_child s t k)) (fm.remove o.table k) o.new o.change_is in
    made_at (Delete t old) s n (without_row s t old) o (sym x.1)

-- lists of tables

set_here : (xs : List Table) (i : ℕ) (x y : Table) → slice_get xs i ≡ Some x → slice_get (slice_set xs i y) i ≡ Some y
set_here [] i x y at = cc
set_here (z ∷ xs) zero x y at = refl
set_here (z ∷ xs) (suc i) x y at = set_here xs i x y at

set_else : (xs : List Table) (i j : ℕ) (y : Table) → (j ≡ i → ⊥) → slice_get (slice_set xs i y) j ≡ slice_get xs j
set_else [] i j y other = refl
set_else (z ∷ xs) zero zero y other = absurd (other refl)
set_else (z ∷ xs) zero (suc j) y other = refl
set_else (z ∷ xs) (suc i) zero y other = refl
set_else (z ∷ xs) (suc i) (suc j) y other = set_else xs i j y (λ e. other (ap suc e))

set_long : (xs : List Table) (i : ℕ) (y : Table) → length (slice_set xs i y) ≡ length xs
set_long [] i y = refl
set_long (z ∷ xs) zero y = refl
set_long (z ∷ xs) (suc i) y = ap suc (set_long xs i y)

as_long : (rows : TableId → Table) (number : ℕ) (defs : List TableDef) → length (tables_by rows number defs) ≡ length defs
as_long rows number [] = refl
as_long rows number (def ∷ defs) = ap suc (as_long rows (suc number) defs)

-- one operation, where a store has its table
pub op_shown : (schema : List TableDef) (groups : List Group) (stores : List Kept) (directory : List (Option Home)) (op : Op) (n : TableState) (m : Table) → AreHoused schema stores directory → AreKept schema groups stores → AreWhole stores → kept_rows stores (table_of op) ≡ Some m
    → applied op (shown_by schema stores) ≡ Some n → shown_by schema (at_home (home_in directory op) (op_done op) stores) ≡ n
op_shown schema groups stores directory op n m housed are whole kept e =
    ap (shown_by schema) moved ∙ same_state (shown_by schema (done_first op stores)) become refl long at ∙ sym made.made
  where
    made : Made op (shown_by schema stores) n
    made = made_by op (shown_by schema stores) n e

    become : TableState
    become = record { schema = schema; tables = slice_set (shown_by schema stores).tables (table_of op).0 (op_on made.def.primary_key op made.table) }

    moved : at_home (home_in directory op) (op_done op) stores ≡ done_first op stores
    moved = ap (λ h. at_home h (op_done op) stores) (home_is schema stores directory op made.def housed made.def_is) ∙ first_does op stores

    long : length (shown_by schema (done_first op stores)).tables ≡ length become.tables
    long = as_long (stored_rows (done_first op stores)) 0 schema ∙ sym (set_long (shown_by schema stores).tables (table_of op).0 (op_on made.def.primary_key op made.table) ∙ as_long (stored_rows stores) 0 schema)

    was : made.table ≡ m
    was =
        sym (ap (λ o. unwrap_or o fm.empty) made.table_is)
        ∙ table_stored schema stores (table_of op) (ap is_some made.def_is) ∙ ap (λ o. unwrap_or o fm.empty) kept

    own : table_at (shown_by schema (done_first op stores)) (table_of op) ≡ table_at become (table_of op)
    own =
        table_stored schema (done_first op stores) (table_of op) (ap is_some made.def_is)
        ∙ ap (λ o. unwrap_or o fm.empty) (rows_its schema op made.def made.def_is groups stores m are whole kept)
        ∙ ap (op_on made.def.primary_key op) (sym was)
        ∙ sym (ap (λ o. unwrap_or o fm.empty) (set_here (shown_by schema stores).tables (table_of op).0 made.table (op_on made.def.primary_key op made.table) made.table_is))

    others : (u : TableId) → (u.0 ≡ (table_of op).0 → ⊥) → table_at (shown_by schema (done_first op stores)) u ≡ table_at (shown_by schema stores) u
    others u other = by (slice_get schema u.0) refl
      where
        by : (o : Option TableDef) → slice_get schema u.0 ≡ o → table_at (shown_by schema (done_first op stores)) u ≡ table_at (shown_by schema stores) u
        by None none = no_table_stored schema (done_first op stores) u none ∙ sym (no_table_stored schema stores u none)
        by (Some def) there =
            table_stored schema (done_first op stores) u (ap is_some there)
            ∙ ap (λ o. unwrap_or o fm.empty) (rows_else schema op made.def made.def_is groups stores u are whole other)
            ∙ sym (table_stored schema stores u (ap is_some there))

    at : (u : TableId) → table_at (shown_by schema (done_first op stores)) u ≡ table_at become u
    at u = by (nat_eq u.0 (table_of op).0) refl
      where
        by : (b : Bool) → nat_eq u.0 (table_of op).0 ≡ b → table_at (shown_by schema (done_first op stores)) u ≡ table_at become u
        by true same =
            let is = table_same (table_of op) u (eqb-true u.0 (table_of op).0 same) in
            ap (table_at (shown_by schema (done_first op stores))) is ∙ own ∙ sym (ap (table_at become) is)
        by false same =
            let other : u.0 ≡ (table_of op).0 → ⊥ = λ z. never_both (nat_eq u.0 (table_of op).0) (eq-eqb u.0 (table_of op).0 z) same in
            others u other
            ∙ sym (ap (λ o. unwrap_or o fm.empty) (set_else (shown_by schema stores).tables (table_of op).0 u.0 (op_on made.def.primary_key op made.table) other))

-- a table of a writethrough group is kept by a store

some_group : (groups : List Group) (t : TableId) → is_table_of is_writethrough groups t ≡ true → list_any (covers t) groups ≡ true
some_group [] t e = cc
some_group (g ∷ groups) t e = by (is_writethrough g) (covers t g) e (some_group groups t)
  where
    by : (a b : Bool) → ((a && b) || is_table_of is_writethrough groups t) ≡ true → (is_table_of is_writethrough groups t ≡ true → list_any (covers t) groups ≡ true) → (b || list_any (covers t) groups) ≡ true
    by a true h rest = refl
    by true false h rest = rest h
    by false false h rest = rest h

some_kept : (schema : List TableDef) (groups : List Group) (stores : List Kept) (t : TableId) → AreKept schema groups stores → is_table_of is_writethrough groups t ≡ true → (m : Table) × (kept_rows stores t ≡ Some m)
some_kept schema groups stores t are e = by (find (covers t) groups) refl (any_found (covers t) groups ∙ some_group groups t e)
  where
    by : (o : Option Group) → find (covers t) groups ≡ o → is_some (find (covers t) groups) ≡ true → (m : Table) × (kept_rows stores t ≡ Some m)
    by None found there = absurd (never_both (is_some (find (covers t) groups)) there (ap is_some found))
    by (Some g) found there =
        let r = table_kept schema groups stores t g are found in
        (kept_at r.store.tables r.place, r.rows)

-- operations that apply on what stores keep, one after another
pub ops_shown : (schema : List TableDef) (groups : List Group) (directory : List (Option Home)) (ops : List Op) (stores : List Kept) (n : TableState) → AreHoused schema stores directory → AreKept schema groups stores → AreWhole stores → are_written_through groups ops ≡ true
    → applied_all ops (shown_by schema stores) ≡ Some n → shown_by schema (ops_at directory ops stores) ≡ n
ops_shown schema groups directory [] stores n housed are whole through e = cc
ops_shown schema groups directory (op ∷ ops) stores n housed are whole through e =
    by (applied op (shown_by schema stores)) refl e
    (λ here. ops_shown schema groups directory ops next n (housed_exchanged schema groups stores next directory housed are are_then) are_then (whole_home op (home_in directory op) stores whole) parts.1 here)
  where
    parts : (is_table_of is_writethrough groups (table_of op) ≡ true) × (are_written_through groups ops ≡ true)
    parts = both_true (is_table_of is_writethrough groups (table_of op)) (are_written_through groups ops) through

    next : List Kept
    next = at_home (home_in directory op) (op_done op) stores

    are_then : AreKept schema groups next
    are_then = kept_home schema op (home_in directory op) groups stores are

    by : (o : Option TableState) → applied op (shown_by schema stores) ≡ o → option_and_then (applied_all ops) o ≡ Some n → (applied_all ops (shown_by schema next) ≡ Some n → shown_by schema (ops_at directory ops next) ≡ n)
        → shown_by schema (ops_at directory ops next) ≡ n
    by None one h rest = cc
    by (Some mid) one h rest =
        let k = some_kept schema groups stores (table_of op) are parts.0 in
        let here = op_shown schema groups stores directory op mid k.0 housed are whole k.1 one in
        rest (ap (applied_all ops) here ∙ h)
