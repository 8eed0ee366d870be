-- Laws of going from the rows of a parent to those that refer to them.
use Rattle.std.proofs.Common.{◌≡◌, ℕ, zero, suc, ◌+◌, ◌-◌, ◌<◌, ◌≤◌, ◌⊎◌, Bool, true, false, cond, ◌&&◌, Option, Some, None, is_some, List, [], ◌∷◌, length, drop, slice_get, inl, inr, refl, sym, ap, subst, ◌∙◌, arith}
use Rattle.std.specs.FinMap.{contains_key, empty, entries, get, len, len-entries, values, get-empty}
use Rattle.std.proofs.lemmas.Bool.{cases_lt}
use Rattle.std.proofs.lemmas.List.{length-map}
use Rattle.std.proofs.lemmas.Option.{slice_get_within}
use borrow.Author.Count.{below_more}
use Rattle.expressions.specs.row_types.specs.declared.value.Value.{Value}
use Rattle.expressions.specs.row_types.specs.Order.{key_order}
use Rattle.table_state.specs.table_defs.specs.declared.definition.TableDef.{TableDef}
use Rattle.table_state.specs.table_defs.specs.Declarations.{foreign_places}
use Rattle.table_state.specs.indexed_rows.specs.Rows.{Table, first_from, has_key, key_of}
use Rattle.table_state.specs.indexed_rows.proofs.EntryLaws.{at_has, dropped_at, has_at, mapped_at, same_itself, same_values, some_of}
use Rattle.table_state.specs.Children.{refers_to}
use Rattle.table_state.specs.Tables.{TableState, table_at}
use Rattle.instances.specs.declared.tree.Child.{Child}
use Rattle.instances.specs.Collecting.{Adds, AddsFirst, Follows, Gathers, added, is_under}
use Rattle.instances.specs.Views.{child_rows, is_kept, refers_to_one, selects}
use Rattle.instances.proofs.Gathering.{added_all, added_has, added_keeps, gathers_all}

abbrev Row : Type 0
Row = List Value

-- ---- the first element that passes

record Found {X : Type 0} (p : X → Bool) (i : ℕ) (xs : List X) (k : ℕ) : Type 0 where
  j : ℕ
  x : X
  place : k ≡ i + j
  at : slice_get xs j ≡ Some x
  passes : p x ≡ true
  skipped : (m : ℕ) (y : X) → m < j → slice_get xs m ≡ Some y → p y ≡ false

skips : {X : Type 0} (p : X → Bool) (x : X) (xs : List X) (j : ℕ) → p x ≡ false → ((m : ℕ) (y : X) → m < j → slice_get xs m ≡ Some y → p y ≡ false) → (m : ℕ) (y : X) → m < suc j → slice_get (x ∷ xs) m ≡ Some y → p y ≡ false
skips p x xs j fails rest zero y lt at = let same : x ≡ y = cc in ap p (sym same) ∙ fails
skips p x xs j fails rest (suc m) y lt at = rest m y (omega arith) at

found : {X : Type 0} (p : X → Bool) (i : ℕ) (xs : List X) (k : ℕ) → first_from p i xs ≡ Some k → Found p i xs k
found p i [] k e = cc
found {X} p i (x ∷ xs) k e = by (p x) refl (found p (suc i) xs k) e
  where
    by : (b : Bool) → p x ≡ b → (first_from p (suc i) xs ≡ Some k → Found p (suc i) xs k) → cond b (Some i) (first_from p (suc i) xs) ≡ Some k → Found p i (x ∷ xs) k
    by true passes later e = let same : i ≡ k = cc in record { j = 0; x = x; place = sym same ∙ omega arith; at = refl; passes = passes; skipped = λ m y lt at. absurd (omega arith) }
    by false fails later e =
        let rest = later e in
        record { j = suc rest.j; x = rest.x; place = rest.place ∙ omega arith; at = rest.at; passes = rest.passes; skipped = skips p x xs rest.j fails rest.skipped }

none_passes : {X : Type 0} (p : X → Bool) (i : ℕ) (xs : List X) → first_from p i xs ≡ None → (m : ℕ) (y : X) → slice_get xs m ≡ Some y → p y ≡ false
none_passes p i [] e m y at = cc
none_passes {X} p i (x ∷ xs) e m y at = by (p x) refl (none_passes p (suc i) xs) e m at
  where
    by : (b : Bool) → p x ≡ b → (first_from p (suc i) xs ≡ None → (m : ℕ) (y : X) → slice_get xs m ≡ Some y → p y ≡ false) → cond b (Some i) (first_from p (suc i) xs) ≡ None → (m : ℕ) → slice_get (x ∷ xs) m ≡ Some y → p y ≡ false
    by true passes rest e m at = cc
    by false fails rest e zero at = let same : x ≡ y = cc in ap p (sym same) ∙ fails
    by false fails rest e (suc m) at = rest e m y at

-- ---- the same of the rows of a table

value_at : (table : Table) (i : ℕ) (key row : Row) → slice_get (entries table) i ≡ Some (key, row) → slice_get (values table) i ≡ Some row
value_at table i key row at = mapped_at (λ (e : Row × Row). e.1) (entries table) i (key, row) at

-- the next row that passes
pub record Next (p : Row → Bool) (table : Table) (from k : ℕ) : Type 0 where
  pub within : k < len table
  pub behind : from ≤ k
  pub passes : (key row : Row) → slice_get (entries table) k ≡ Some (key, row) → p row ≡ true
  pub skipped : (i : ℕ) (key row : Row) → from ≤ i → i < k → slice_get (entries table) i ≡ Some (key, row) → p row ≡ false

module _ (p : Row → Bool) (table : Table) (from : ℕ) where
  -- a row from there on, in the rest of the list
  rest_at : (i : ℕ) (key row : Row) → from ≤ i → slice_get (entries table) i ≡ Some (key, row) → slice_get (drop from (values table)) (i - from) ≡ Some row
  rest_at i key row le at =
      let place : from + (i - from) ≡ i = omega arith in
      dropped_at (values table) from (i - from) ∙ ap (slice_get (values table)) place ∙ value_at table i key row at

  pub none_behind : None ≡ first_from p from (drop from (values table)) → (i : ℕ) (key row : Row) → from ≤ i → slice_get (entries table) i ≡ Some (key, row) → p row ≡ false
  none_behind none i key row le at = none_passes p from (drop from (values table)) (sym none) (i - from) row (rest_at i key row le at)

  pub next_one : (k : ℕ) → Some k ≡ first_from p from (drop from (values table)) → Next p table from k
  next_one k some =
      let f = found p from (drop from (values table)) k (sym some) in
      let place : k ≡ from + f.j = f.place in
      let there : slice_get (values table) k ≡ Some f.x = ap (slice_get (values table)) place ∙ sym (dropped_at (values table) from f.j) ∙ f.at in
      let inside : k < length (values table) = slice_get_within (values table) k f.x there in
      record {
        within = omega (arith, inside, length-map (entries table) (λ (e : Row × Row). e.1), len-entries table);
        behind = omega arith;
        passes = λ key row at. let same : f.x ≡ row = some_same f.x row (sym there ∙ value_at table k key row at) in ap p (sym same) ∙ f.passes;
        skipped = λ i key row le lt at. f.skipped (i - from) row (omega (arith, le, lt, place)) (rest_at i key row le at);
      }
    where
      some_same : (a b : Row) → Some a ≡ Some b → a ≡ b
      some_same a b e = cc

-- the same rows
pub at_rows : (p : Row → Bool) (from : ℕ) (found : Option ℕ) (rows table : Table) → rows ≡ table → found ≡ first_from p from (drop from (values table)) → found ≡ first_from p from (drop from (values rows))
at_rows p from found rows table same is = is ∙ ap (λ (t : Table). first_from p from (drop from (values t))) (sym same)

-- ---- the rows under one parent

module _ (p test : Row → Bool) (table old : Table) (under : (row : Row) → test row ≡ true → p row ≡ true) where
  pub adds_none : AddsFirst 0 test table old old
  adds_none = record { sound = λ key row e. inl e; kept = λ key has. has; whole = λ i lt key row at good. absurd (omega arith) }

  pub adds_end : (from : ℕ) (new : Table) → AddsFirst from test table old new → len table ≤ from → Adds test table old new
  adds_end from new so_far past = record { sound = so_far.sound; kept = so_far.kept; whole = λ i lt key row at good. so_far.whole i (omega arith) key row at good }

  -- where none refers to it any more
  pub adds_past : (from : ℕ) (new : Table) → AddsFirst from test table old new → None ≡ first_from p from (drop from (values table)) → Adds test table old new
  adds_past from new so_far none = record {
    sound = so_far.sound;
    kept = so_far.kept;
    whole = λ i lt key row at good. elim (cases_lt i from) [
      | inl before ↦ so_far.whole i before key row at good
      | inr behind ↦ let yes : p row ≡ true = under row good in let no : p row ≡ false = none_behind p table from none i key row behind at in cc
    ];
  }

  module _ (from k : ℕ) (mid : Table) (so_far : AddsFirst from test table old mid) (n : Next p table from k) (e : Row × Row) (at : slice_get (entries table) k ≡ Some e) where
    -- a row before the next one came already, or doesn't pass
    before : (i : ℕ) → i < k → (key row : Row) → slice_get (entries table) i ≡ Some (key, row) → test row ≡ true → contains_key mid key ≡ true
    before i lt key row there good = elim (cases_lt i from) [
      | inl earlier ↦ so_far.whole i earlier key row there good
      | inr later ↦ let yes : p row ≡ true = under row good in let no : p row ≡ false = n.skipped i key row later lt there in cc
    ]

    pub adds_one : (new : Table) → test e.1 ≡ true → new ≡ added mid e.0 e.1 → AddsFirst (k + 1) test table old new
    adds_one new good is = subst (AddsFirst (k + 1) test table old) (sym is) (record {
      sound = added_all mid e.0 e.1 (λ q r. (get old q ≡ Some r) ⊎ ((get table q ≡ Some r) × (test r ≡ true))) so_far.sound (inr (at_has table k e at, good));
      kept = λ key has. added_keeps mid e.0 e.1 key (so_far.kept key has);
      whole = below_more Has k (λ i lt key row there passed. added_keeps mid e.0 e.1 key (before i lt key row there passed)) here;
    })
      where
        Has : ℕ → Type 0
        Has i = (key row : Row) → slice_get (entries table) i ≡ Some (key, row) → test row ≡ true → contains_key (added mid e.0 e.1) key ≡ true

        here : Has k
        here key row there passed = let same : e ≡ (key, row) = cc in subst (λ (x : Row × Row). contains_key (added mid e.0 e.1) x.0 ≡ true) same (added_has mid e.0 e.1)

    pub adds_skip : (new : Table) → test e.1 ≡ false → new ≡ mid → AddsFirst (k + 1) test table old new
    adds_skip new bad is = subst (AddsFirst (k + 1) test table old) (sym is) (record {
      sound = so_far.sound;
      kept = so_far.kept;
      whole = below_more (λ i. (key row : Row) → slice_get (entries table) i ≡ Some (key, row) → test row ≡ true → contains_key mid key ≡ true) k before (λ key row there passed.
          let same : e ≡ (key, row) = cc in let failed : test row ≡ false = subst (λ (x : Row × Row). test x.1 ≡ false) same bad in cc);
    })

pub under_parent : (a b : Bool) → (a && b) ≡ true → a ≡ true
under_parent true b e = refl
under_parent false b e = cc

right_of : (a b : Bool) → (a && b) ≡ true → b ≡ true
right_of true b e = e
right_of false b e = cc

both : (a b : Bool) → a ≡ true → b ≡ true → (a && b) ≡ true
both a b x y = ap (λ c. c && b) x ∙ y

-- whether a row that refers to the parent passes is what its WHERE says
pub by_filter : (a b : Bool) → a ≡ true → (a && b) ≡ b
by_filter a b x = ap (λ c. c && b) x

-- ---- the rows under each parent

-- a row that refers to a parent refers to one of them
kept_under : (parents : Table) (parent row : Row) → contains_key parents parent ≡ true → (def : Option TableDef) (selected : Bool) → (refers_to parent def row && selected) ≡ true → (selected && refers_to_one parents def row) ≡ true
kept_under parents parent row has None selected e = cc
kept_under parents parent row has (Some def) selected e =
    let places : List ℕ = foreign_places def.foreign_key in
    let same : key_of places row ≡ parent = same_values (key_of places row) parent (under_parent (has_key places parent row) selected e) in
    both selected (contains_key parents (key_of places row)) (right_of (has_key places parent row) selected e) (ap (contains_key parents) same ∙ has)

module _ (s : TableState) (child : Child) (parents : Table) where
  pub follows_none : (out : Table) → out ≡ empty → Follows s child parents 0 out
  follows_none out is = record {
    sound = λ key row e. let none : get out key ≡ None = ap (λ m. get m key) is ∙ get-empty key_order key in cc;
    whole = λ i lt parent other at key row there under. absurd (omega arith);
  }

  module _ (n : ℕ) (out : Table) (f : Follows s child parents n out) where
    pub follows_more : (e : Row × Row) → slice_get (entries parents) n ≡ Some e → (table new : Table) → table ≡ table_at s child.table → Adds (is_under s child e.0) table out new → Follows s child parents (n + 1) new
    follows_more e at table new is more = record {
      sound = λ key row got. elim (adds.sound key row got) [
        | inl before ↦ f.sound key row before
        | inr came ↦ (came.0, kept_under parents e.0 row has_parent (slice_get s.schema child.table.0) (selects child.filter row) came.1)
      ];
      whole = below_more Has n (λ i lt parent other there key row got under. adds.kept key (f.whole i lt parent other there key row got under)) here;
    }
      where
        adds : Adds (is_under s child e.0) (table_at s child.table) out new
        adds = subst (λ (t : Table). Adds (is_under s child e.0) t out new) is more

        has_parent : contains_key parents e.0 ≡ true
        has_parent = ap is_some (at_has parents n e at)

        Has : ℕ → Type 0
        Has i = (parent other : Row) → slice_get (entries parents) i ≡ Some (parent, other) → (key row : Row) → get (table_at s child.table) key ≡ Some row → is_under s child parent row ≡ true → contains_key new key ≡ true

        here : Has n
        here parent other there key row got under =
            let same : e ≡ (parent, other) = cc in
            let passed : is_under s child e.0 row ≡ true = subst (λ (x : Row × Row). is_under s child x.0 row ≡ true) (sym same) under in
            let place = has_at (table_at s child.table) key row got in
            let inside : place.0 < length (entries (table_at s child.table)) = slice_get_within (entries (table_at s child.table)) place.0 (key, row) place.1 in
            adds.whole place.0 (omega (arith, inside, len-entries (table_at s child.table))) key row place.1 passed

    pub follows_all : (end : ℕ) → end ≡ len parents → end ≤ n → out ≡ child_rows s parents child
    follows_all end is past = gathers_all (is_kept s parents child) (table_at s child.table) (len (table_at s child.table)) out gathers (len (table_at s child.table)) refl (omega arith)
      where
        came : (key row : Row) → get (table_at s child.table) key ≡ Some row → (def : Option TableDef) → slice_get s.schema child.table.0 ≡ def → (selects child.filter row && refers_to_one parents def row) ≡ true → contains_key out key ≡ true
        came key row there None none good = let no : false ≡ true = right_of (selects child.filter row) false good in cc
        came key row there (Some def) some good =
            let places : List ℕ = foreign_places def.foreign_key in
            let parent : Row = key_of places row in
            let selected : selects child.filter row ≡ true = under_parent (selects child.filter row) (contains_key parents parent) good in
            let found_parent = some_of (get parents parent) (right_of (selects child.filter row) (contains_key parents parent) good) in
            let place = has_at parents parent found_parent.0 found_parent.1 in
            let inside : place.0 < length (entries parents) = slice_get_within (entries parents) place.0 (parent, found_parent.0) place.1 in
            let passed : is_under s child parent row ≡ true =
            ap (λ (d : Option TableDef). refers_to parent d row && selects child.filter row) some ∙ both (has_key places parent row) (selects child.filter row) (same_itself parent parent refl) selected in
            f.whole place.0 (omega (arith, inside, len-entries parents, is, past)) parent found_parent.0 place.1 key row there passed

        gathers : Gathers (is_kept s parents child) (table_at s child.table) (len (table_at s child.table)) out
        gathers = record {
          sound = f.sound;
          whole = λ i lt key row at good. came key row (at_has (table_at s child.table) i (key, row) at) (slice_get s.schema child.table.0) refl good;
        }
