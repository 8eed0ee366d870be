-- What each store keeps of its group's tables, and what is shown of them.
use Rattle.std.proofs.Common.{◌≡◌, ℕ, zero, suc, ◌+◌, Bool, true, false, not, cond, nat_lt, ◌||◌, Option, Some, None, is_some, List, [], ◌∷◌, length, map, slice_get, unwrap_or, find, position, refl, sym, ap, subst, ◌∙◌, arith}
use Rattle.std.specs.List.{list_any, prefix_len}
use Rattle.std.specs.Option.{option_map, option_or}
use Rattle.std.specs.FinMap.{empty}
use Rattle.std.proofs.lemmas.List.{length-map}
use Rattle.tier_base.specs.declared.number.TableId.{TableId}
use Rattle.table_defs.specs.declared.definition.TableDef.{TableDef}
use Rattle.table_state.specs.Tables.{TableState, table_at}
use Rattle.indexed_rows.specs.Rows.{Table}
use Rattle.instances.specs.declared.tree.Child.{Child}
use Rattle.instances.specs.declared.tree.Tree.{Tree}
use Rattle.instances.specs.Trees.{place_of, same_table}
use Rattle.instances.specs.Views.{kept_at}
use Rattle.group_store.specs.Keeping.{IsFor, layer_for}
use Rattle.group_store.specs.Shown.{kept_rows, shown_by, stored_rows, tables_by}
use Rattle.group_store.specs.Stores.{Kept, place_in}
use Rattle.order_laws.proofs.TruthLaws.{never_both}
use Rattle.cache_tier.specs.Groups.{Group, covers}
use Rattle.cache_tier.specs.Shown.{shown_state, table_of_group}
use Rattle.cache_tier.specs.TierStates.{Tier}
use Rattle.cache_tier.specs.Worlds.{World}
use Rattle.cache_tier.specs.StandingBetween.{HaveOwnTables, IsCatalogued}
use Rattle.cache_tier.proofs.ChosenGroups.{each_at}
use Rattle.cache_tier.proofs.GroupTables.{IsFound, each_own, over_is_found}
use Rattle.cache_tier.proofs.ShownTables.{no_table_shown, same_state, shown_whole, table_shown}
use Rattle.cache_tier.proofs.TableLaws.{covered_defined}
use Rattle.stored_tier.specs.declared.tier.Tier.{Tier as Stored}
use Rattle.stored_tier.specs.Performing.{StandsFor}
use Rattle.stored_tier.specs.Stored.{AreKept, IsSound, IsStoredAs, ShowsRows, rows_of, without_list}

-- a table's place in a store is that in the tree of its group

first_in : (schema : List TableDef) (t : TableId) (cs : List Child) → prefix_len (λ l. not (same_table l.table t)) (map (layer_for schema) cs) ≡ prefix_len (λ c. not (same_table c.table t)) cs
first_in schema t [] = refl
first_in schema t (c ∷ cs) = ap (λ n. cond (not (same_table c.table t)) (1 + n) 0) (first_in schema t cs)

pub place_same : (schema : List TableDef) (tree : Tree) (k : Kept) → IsFor schema tree k → (t : TableId) → place_in k t ≡ place_of tree t
place_same schema tree k form t =
    ap (λ r. cond (same_table r t) (Some 0) (option_map suc (position (λ l. same_table l.table t) k.layers))) form.table
    ∙ ap (λ ls. cond (same_table tree.root.table t) (Some 0) (option_map suc (position (λ l. same_table l.table t) ls))) form.layers
    ∙ ap (λ o. cond (same_table tree.root.table t) (Some 0) (option_map suc o)) among
  where
    among : position (λ l. same_table l.table t) (map (layer_for schema) tree.children) ≡ position (λ c. same_table c.table t) tree.children
    among =
        let first = first_in schema t tree.children in
        let long = length-map tree.children (layer_for schema) in
        λ i. cond (nat_lt (first i) (long i)) (Some (first i)) None

-- the stores of groups

kept_listed : (schema : List TableDef) (groups : List Group) (stores : List Kept) → AreKept schema (map without_list groups) stores → AreKept schema groups stores
kept_listed schema [] [] are = tt
kept_listed schema [] (s ∷ stores) are = are
kept_listed schema (g ∷ groups) [] are = are
kept_listed schema (g ∷ groups) (s ∷ stores) are = (are.0, kept_listed schema groups stores are.1)

-- the stores are those of the abstract tier's groups
pub are_kept : (t : Stored) (a : Tier) → IsSound t → IsStoredAs t a → AreKept t.schema a.groups t.stores.items
are_kept t a sound is = kept_listed t.schema a.groups t.stores.items (subst (λ gs. AreKept t.schema gs t.stores.items) (sym is.groups) sound.kept)

-- a group and its store
pub record StoreOf (schema : List TableDef) (groups : List Group) (stores : List Kept) (k : ℕ) : Type 0 where
  pub group : Group
  pub store : Kept
  pub there : slice_get groups k ≡ Some group
  pub kept : slice_get stores k ≡ Some store
  pub form : IsFor schema group.def.tree store

pub store_of : (schema : List TableDef) (groups : List Group) (stores : List Kept) (k : ℕ) (g : Group) → AreKept schema groups stores → slice_get groups k ≡ Some g → StoreOf schema groups stores k
store_of schema [] stores k g are at = cc
store_of schema (h ∷ groups) [] k g are at = absurd are
store_of schema (h ∷ groups) (s ∷ stores) zero g are at = record { group = h; store = s; there = refl; kept = refl; form = are.0 }
store_of schema (h ∷ groups) (s ∷ stores) (suc k) g are at =
    let r = store_of schema groups stores k g are.1 at in
    record { group = r.group; store = r.store; there = r.there; kept = r.kept; form = r.form }

pub group_of : (schema : List TableDef) (groups : List Group) (stores : List Kept) (k : ℕ) (s : Kept) → AreKept schema groups stores → slice_get stores k ≡ Some s → StoreOf schema groups stores k
group_of schema groups [] k s are at = cc
group_of schema [] (x ∷ stores) k s are at = absurd are
group_of schema (h ∷ groups) (x ∷ stores) zero s are at = record { group = h; store = x; there = refl; kept = refl; form = are.0 }
group_of schema (h ∷ groups) (x ∷ stores) (suc k) s are at =
    let r = group_of schema groups stores k s are.1 at in
    record { group = r.group; store = r.store; there = r.there; kept = r.kept; form = r.form }

pub form_at : (schema : List TableDef) (groups : List Group) (stores : List Kept) (k : ℕ) (g : Group) (s : Kept) → AreKept schema groups stores → slice_get groups k ≡ Some g → slice_get stores k ≡ Some s → IsFor schema g.def.tree s
form_at schema groups [] k g s are at kept = cc
form_at schema [] (x ∷ stores) k g s are at kept = absurd are
form_at schema (h ∷ groups) (x ∷ stores) zero g s are at kept =
    let one : h ≡ g = cc in
    let other : x ≡ s = cc in
    subst (λ y. IsFor schema g.def.tree y) other (subst (λ y. IsFor schema y.def.tree x) one are.0)
form_at schema (h ∷ groups) (x ∷ stores) (suc k) g s are at kept = form_at schema groups stores k g s are.1 at kept

-- the table that stores keep

table_by : (rows : TableId → Table) (number : ℕ) (defs : List TableDef) (i : ℕ) → is_some (slice_get defs i) ≡ true → slice_get (tables_by rows number defs) i ≡ Some (rows (record { 0 = number + i }))
table_by rows number [] i there = cc
table_by rows number (def ∷ defs) zero there = let z : number ≡ number + 0 = omega arith in ap (λ m. Some (rows (record { 0 = m }))) z
table_by rows number (def ∷ defs) (suc i) there = let z : suc number + i ≡ number + suc i = omega arith in table_by rows (suc number) defs i there ∙ ap (λ m. Some (rows (record { 0 = m }))) z

no_table_by : (rows : TableId → Table) (number : ℕ) (defs : List TableDef) (i : ℕ) → slice_get defs i ≡ None → slice_get (tables_by rows number defs) i ≡ None
no_table_by rows number [] i none = refl
no_table_by rows number (def ∷ defs) zero none = cc
no_table_by rows number (def ∷ defs) (suc i) none = no_table_by rows (suc number) defs i none

by_length : (rows : TableId → Table) (number : ℕ) (defs : List TableDef) → length (tables_by rows number defs) ≡ length defs
by_length rows number [] = refl
by_length rows number (def ∷ defs) = ap suc (by_length rows (suc number) defs)

pub table_stored : (schema : List TableDef) (stores : List Kept) (u : TableId) → is_some (slice_get schema u.0) ≡ true → table_at (shown_by schema stores) u ≡ stored_rows stores u
table_stored schema stores u there =
    let here : 0 + u.0 ≡ u.0 = omega arith in
    ap (λ o. unwrap_or o empty) (table_by (stored_rows stores) 0 schema u.0 there ∙ ap (λ n. Some (stored_rows stores (record { 0 = n }))) here)

pub no_table_stored : (schema : List TableDef) (stores : List Kept) (u : TableId) → slice_get schema u.0 ≡ None → table_at (shown_by schema stores) u ≡ empty
no_table_stored schema stores u none = ap (λ o. unwrap_or o empty) (no_table_by (stored_rows stores) 0 schema u.0 none)

-- a table of a tree is kept by the store of its group

rows_placed : (s : Kept) (stores : List Kept) (u : TableId) (o : Option ℕ) → place_in s u ≡ o → kept_rows (s ∷ stores) u ≡ option_or (option_map (kept_at s.tables) o) (kept_rows stores u)
rows_placed s stores u o is = ap (λ x. option_or (option_map (kept_at s.tables) x) (kept_rows stores u)) is

none_placed : (g : Group) (u : TableId) → covers u g ≡ false → place_of g.def.tree u ≡ None
none_placed g u e = by (place_of g.def.tree u) e
  where
    by : (o : Option ℕ) → is_some o ≡ false → o ≡ None
    by None e = refl
    by (Some p) e = cc

-- no store keeps a table of no group
not_kept : (schema : List TableDef) (groups : List Group) (stores : List Kept) (u : TableId) → AreKept schema groups stores → find (covers u) groups ≡ None → kept_rows stores u ≡ None
not_kept schema groups [] u are e = refl
not_kept schema [] (s ∷ stores) u are e = absurd are
not_kept schema (g ∷ groups) (s ∷ stores) u are e = by (covers u g) refl e (not_kept schema groups stores u are.1)
  where
    by : (b : Bool) → covers u g ≡ b → cond b (Some g) (find (covers u) groups) ≡ None → (find (covers u) groups ≡ None → kept_rows stores u ≡ None) → kept_rows (s ∷ stores) u ≡ None
    by true c e rest = cc
    by false c e rest = rows_placed s stores u None (place_same schema g.def.tree s are.0 u ∙ none_placed g u c) ∙ rest e

-- the group that has a table, and its store
pub record TableKept (groups : List Group) (stores : List Kept) (u : TableId) (g : Group) : Type 0 where
  pub number : ℕ
  pub store : Kept
  pub there : slice_get groups number ≡ Some g
  pub kept : slice_get stores number ≡ Some store
  pub place : ℕ
  pub at : place_of g.def.tree u ≡ Some place
  pub rows : kept_rows stores u ≡ Some (kept_at store.tables place)

some_placed : (g : Group) (u : TableId) → covers u g ≡ true → (p : ℕ) × (place_of g.def.tree u ≡ Some p)
some_placed g u e = by (place_of g.def.tree u) refl e
  where
    by : (o : Option ℕ) → place_of g.def.tree u ≡ o → is_some o ≡ true → (p : ℕ) × (place_of g.def.tree u ≡ Some p)
    by None is e = cc
    by (Some p) is e = (p, is)

pub table_kept : (schema : List TableDef) (groups : List Group) (stores : List Kept) (u : TableId) (g : Group) → AreKept schema groups stores → find (covers u) groups ≡ Some g → TableKept groups stores u g
table_kept schema [] stores u g are e = cc
table_kept schema (h ∷ groups) [] u g are e = absurd are
table_kept schema (h ∷ groups) (s ∷ stores) u g are e = by (covers u h) refl e (table_kept schema groups stores u g are.1)
  where
    by : (b : Bool) → covers u h ≡ b → cond b (Some h) (find (covers u) groups) ≡ Some g → (find (covers u) groups ≡ Some g → TableKept groups stores u g) → TableKept (h ∷ groups) (s ∷ stores) u g
    by true c e rest =
        let same : h ≡ g = cc in
        let place = some_placed h u c in
        record {
          number = 0;
          store = s;
          there = ap Some same;
          kept = refl;
          place = place.0;
          at = subst (λ x. place_of x.def.tree u ≡ Some place.0) same place.1;
          rows = rows_placed s stores u (Some place.0) (place_same schema h.def.tree s are.0 u ∙ place.1);
        }
    by false c e rest =
        let r = rest e in
        record {
          number = suc r.number;
          store = r.store;
          there = r.there;
          kept = r.kept;
          place = r.place;
          at = r.at;
          rows = rows_placed s stores u None (place_same schema h.def.tree s are.0 u ∙ none_placed h u c) ∙ r.rows;
        }

-- groups have their own tables, so that each is the one that has them
found_at : (groups : List Group) (k : ℕ) (g : Group) (u : TableId) → HaveOwnTables groups → slice_get groups k ≡ Some g → covers u g ≡ true → find (covers u) groups ≡ Some g
found_at groups k g u own at c = each_at (IsFound groups) groups k g (each_own groups own) at u c

listed : (groups : List Group) (n : ℕ) (g : Group) (u : TableId) → slice_get groups n ≡ Some g → covers u g ≡ true → list_any (covers u) groups ≡ true
listed [] n g u at c = cc
listed (h ∷ groups) zero g u at c = let one : h ≡ g = cc in ap (λ b. b || list_any (covers u) groups) (ap (covers u) one ∙ c)
listed (h ∷ groups) (suc n) g u at c = by (covers u h) (listed groups n g u at c)
  where
    by : (b : Bool) → list_any (covers u) groups ≡ true → (b || list_any (covers u) groups) ≡ true
    by true r = refl
    by false r = r

pub one_place : (groups : List Group) (i j : ℕ) (g h : Group) (u : TableId) → HaveOwnTables groups → slice_get groups i ≡ Some g → slice_get groups j ≡ Some h → covers u g ≡ true → covers u h ≡ true → i ≡ j
one_place [] i j g h u own at other c d = cc
one_place (x ∷ groups) zero zero g h u own at other c d = refl
one_place (x ∷ groups) zero (suc j) g h u own at other c d =
    let same : x ≡ g = cc in
    absurd (never_both (list_any (covers u) groups) (listed groups j h u other d) (own.0 u (ap (covers u) same ∙ c)))
one_place (x ∷ groups) (suc i) zero g h u own at other c d =
    let same : x ≡ h = cc in
    absurd (never_both (list_any (covers u) groups) (listed groups i g u at c) (own.0 u (ap (covers u) same ∙ d)))
one_place (x ∷ groups) (suc i) (suc j) g h u own at other c d = ap suc (one_place groups i j g h u own.1 at other c d)

-- out: what is shown of a group's tables, its store keeps
module _ (t : Stored) (w : World) (sound : IsSound t) (stands : StandsFor t w) where
  abbrev its_groups : List Group
  its_groups = w.tier.groups

  abbrev shown_now : TableState
  shown_now = shown_state w.history w.tier

  stores_are : AreKept t.schema its_groups t.stores.items
  stores_are = are_kept t w.tier sound stands.stored

  -- the group at a place has a store there
  pub store_here : (k : ℕ) (g : Group) → slice_get its_groups k ≡ Some g → StoreOf t.schema its_groups t.stores.items k
  store_here k g at = store_of t.schema its_groups t.stores.items k g stores_are at

  -- the store at a place has a group there
  pub group_here : (k : ℕ) (s : Kept) → slice_get t.stores.items k ≡ Some s → StoreOf t.schema its_groups t.stores.items k
  group_here k s at = group_of t.schema its_groups t.stores.items k s stores_are at

  pub form_here : (k : ℕ) (g : Group) (s : Kept) → slice_get its_groups k ≡ Some g → slice_get t.stores.items k ≡ Some s → IsFor t.schema g.def.tree s
  form_here k g s at kept = form_at t.schema its_groups t.stores.items k g s stores_are at kept

  -- a table's place in the store is that in the group's tree
  pub place_here : (k : ℕ) (g : Group) (s : Kept) (u : TableId) → slice_get its_groups k ≡ Some g → slice_get t.stores.items k ≡ Some s → place_in s u ≡ place_of g.def.tree u
  place_here k g s u at kept = place_same t.schema g.def.tree s (form_here k g s at kept) u

  -- a table of a group is one of the schema
  defined_here : (k : ℕ) (g : Group) (u : TableId) → slice_get its_groups k ≡ Some g → covers u g ≡ true → is_some (slice_get t.schema u.0) ≡ true
  defined_here k g u at c =
      ap (λ defs. is_some (slice_get defs u.0)) (sym stands.stored.schema)
      ∙ covered_defined w.tier.schema g u (each_at (IsCatalogued w.tier.schema) its_groups k g stands.stands.catalog.each at) c

  -- the store of a group keeps what is shown of the group's tables
  pub kept_is_shown : (k : ℕ) (g : Group) (s : Kept) (u : TableId) (p : ℕ) → slice_get its_groups k ≡ Some g → slice_get t.stores.items k ≡ Some s → place_of g.def.tree u ≡ Some p
      → kept_at s.tables p ≡ table_at shown_now u
  kept_is_shown k g s u p at kept place =
      let c : covers u g ≡ true = ap is_some place in
      let found = found_at its_groups k g u stands.stands.catalog.apart at c in
      let r = table_kept t.schema its_groups t.stores.items u g stores_are found in
      let one : r.number ≡ k = one_place its_groups r.number k g g u stands.stands.catalog.apart r.there at c c in
      let same : Some r.store ≡ Some s = sym r.kept ∙ ap (slice_get t.stores.items) one ∙ kept in
      let is : r.store ≡ s = cc in
      let both : Some r.place ≡ Some p = sym r.at ∙ place in
      let there : r.place ≡ p = cc in
      (λ i. kept_at (sym is i).tables (sym there i))
      ∙ sym (ap (λ o. unwrap_or o empty) r.rows)
      ∙ sym (table_stored t.schema t.stores.items u (defined_here k g u at c))
      ∙ ap (λ z. table_at z u) stands.shows

  -- a table of no group has no rows
  pub none_shown : (u : TableId) → find (covers u) its_groups ≡ None → table_at shown_now u ≡ empty
  none_shown u none = by (slice_get w.tier.schema u.0) refl
    where
      by : (o : Option TableDef) → slice_get w.tier.schema u.0 ≡ o → table_at shown_now u ≡ empty
      by None e = no_table_shown w.history w.tier u e
      by (Some def) e = table_shown w.history w.tier u (ap is_some e) ∙ ap (table_of_group w.history w.tier.log u) (over_is_found its_groups u ∙ none)

-- in: where each store keeps what is shown of its group's tables, all that is stored is shown

-- each store keeps of its group's tables what a state has of them
abbrev pub KeepShown : List Group → List Kept → TableState → Type 0
KeepShown groups stores state =
    (k : ℕ) (g : Group) (s : Kept) (u : TableId) (p : ℕ) → slice_get groups k ≡ Some g → slice_get stores k ≡ Some s → place_of g.def.tree u ≡ Some p → kept_at s.tables p ≡ table_at state u

pub shows_kept : (t : Stored) (w : World) → w.tier.schema ≡ t.schema → AreKept t.schema w.tier.groups t.stores.items → KeepShown w.tier.groups t.stores.items (shown_state w.history w.tier) → ShowsRows t w
shows_kept t w schema are keep =
    same_state (rows_of t) (shown_state w.history w.tier) (sym schema)
    (by_length (stored_rows t.stores.items) 0 t.schema ∙ ap length (sym schema) ∙ sym (shown_whole w.history w.tier)) at
  where
    kept : (u : TableId) (def : TableDef) → slice_get t.schema u.0 ≡ Some def → (o : Option Group) → find (covers u) w.tier.groups ≡ o → table_at (rows_of t) u ≡ table_at (shown_state w.history w.tier) u
    kept u def there None none =
        table_stored t.schema t.stores.items u (ap is_some there)
        ∙ ap (λ o. unwrap_or o empty) (not_kept t.schema w.tier.groups t.stores.items u are none)
        ∙ sym (ap (table_of_group w.history w.tier.log u) (over_is_found w.tier.groups u ∙ none))
        ∙ sym (table_shown w.history w.tier u (ap (λ defs. is_some (slice_get defs u.0)) schema ∙ ap is_some there))
    kept u def there (Some g) found =
        let r = table_kept t.schema w.tier.groups t.stores.items u g are found in
        table_stored t.schema t.stores.items u (ap is_some there)
        ∙ ap (λ o. unwrap_or o empty) r.rows
        ∙ keep r.number g r.store u r.place r.there r.kept r.at

    at : (u : TableId) → table_at (rows_of t) u ≡ table_at (shown_state w.history w.tier) u
    at u = by (slice_get t.schema u.0) refl
      where
        by : (o : Option TableDef) → slice_get t.schema u.0 ≡ o → table_at (rows_of t) u ≡ table_at (shown_state w.history w.tier) u
        by None e = no_table_stored t.schema t.stores.items u e ∙ sym (no_table_shown w.history w.tier u (ap (λ defs. slice_get defs u.0) schema ∙ e))
        by (Some def) e = kept u def e (find (covers u) w.tier.groups) refl
