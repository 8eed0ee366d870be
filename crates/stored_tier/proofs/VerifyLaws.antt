-- Stored rows over which sessions read and write.
use Rattle.std.proofs.Common.{◌≡◌, ℕ, zero, suc, ◌+◌, ◌<◌, ◌≤◌, true, Option, Some, None, is_some, List, [], ◌∷◌, All, length, map, get_or, slice_get, refl, sym, ap, ◌∙◌, subst, arith, ◌⊎◌, inl, inr, unwrap_or}
use Rattle.std.specs.Option.{option_and_then, option_or}
use Rattle.std.proofs.lemmas.Bool.{cases_lt}
use Rattle.std.proofs.lemmas.List.{length-map}
use Rattle.std.proofs.lemmas.List.Elements.{All-weaker}
use Rattle.std.specs.FinMap.{empty, entries, get, get-empty, len, len-entries, values}
use Rattle.row_types.specs.declared.column.Column.{Column}
use Rattle.row_types.specs.declared.value.Value.{Value}
use Rattle.row_types.specs.Order.{key_order}
use Rattle.tier_base.specs.declared.number.TableId.{TableId}
use Rattle.table_defs.specs.declared.definition.TableDef.{TableDef}
use Rattle.indexed_rows.specs.Rows.{Table}
use Rattle.indexed_rows.proofs.EntryLaws.{has_at, mapped_at, read, there}
use Rattle.table_state.specs.declared.operation.Op.{Op}
use Rattle.table_state.specs.declared.refusal.ApplyError.{ApplyError}
use Rattle.table_state.specs.Independence.{IsWhole}
use Rattle.table_state.specs.Operations.{applied, applied_all}
use Rattle.table_state.specs.Refusals.{broken_by, broken_by_all}
use Rattle.table_state.specs.Tables.{TableState, fits_columns, table_at}
use Rattle.table_state.proofs.ChangeLaws.{applies}
use Rattle.table_state.specs.Keyed.{HasFit, IsKeyed, IsUnderKeys}
use Rattle.slot_rows.specs.SlotKeys.{IsKeyedBy}
use Rattle.instances.specs.Views.{kept_at}
use Rattle.own_rows.specs.OwnTables.{AreShown}
use Rattle.session_state.specs.Kept.{seen_of}
use Rattle.session_state.specs.Sessions.{OpenSession}
use Rattle.session_state.specs.declared.session.Session.{Session}
use Rattle.open_sessions.specs.Opening.{seen_all}
use Rattle.group_catalog.specs.Catalogs.{groups_in}
use Rattle.group_store.specs.Keeping.{IsFor}
use Rattle.group_store.specs.Shown.{stored_rows, tables_by}
use Rattle.group_store.specs.Stores.{Kept, key_columns, place_in}
use Rattle.group_store.specs.declared.directory.Home.{Home}
use Rattle.group_store.proofs.FormLaws.{key_for, place_same, primary, stands_there}
use Rattle.group_store.proofs.HomeLaws.{its_home, none_shown, shows_table, store_there}
use Rattle.cache_tier.specs.Groups.{Group}
use Rattle.tier_statements.specs.Judging.{AreSmall}
use Rattle.stored_tier.specs.declared.tier.Tier.{Tier as Stored}
use Rattle.stored_tier.specs.Stored.{AreKept, IsSound, IsVerified, rows_of}

below : (i n : ℕ) → i < n + 1 → (i < n) ⊎ (i ≡ n)
below i n lt = elim (cases_lt i n) [
  | inl less ↦ inl less
  | inr more ↦ inr (omega (arith, lt, more))
]

-- rows that fit, by place in key order

pub fit_all : (columns : List Column) (table : Table) (n : ℕ) → len table ≤ n → ((i : ℕ) (row : List Value) → i < n → slice_get (values table) i ≡ Some row → fits_columns columns row ≡ true) → HasFit columns table
fit_all columns table n long all key row e =
    let at = has_at table key row e in
    let within = (read (entries table) at.0 (key, row) (key, row) at.1).0 in
    all at.0 row (omega (arith, within, len-entries table)) (mapped_at (λ z. z.1) (entries table) at.0 (key, row) at.1)

pub one_more_fits : (columns : List Column) (table : Table) (n : ℕ) (row : List Value) → slice_get (values table) n ≡ Some row → fits_columns columns row ≡ true → ((i : ℕ) (row : List Value) → i < n → slice_get (values table) i ≡ Some row → fits_columns columns row ≡ true) → (i : ℕ) (other : List Value) → i < n + 1 → slice_get (values table) i ≡ Some other → fits_columns columns other ≡ true
one_more_fits columns table n row here fits all i other lt is = by (below i n lt)
  where
    by : (i < n) ⊎ (i ≡ n) → fits_columns columns other ≡ true
    by (inl less) = all i other less is
    by (inr same) =
        let both : Some row ≡ Some other = sym here ∙ ap (slice_get (values table)) (sym same) ∙ is in
        let one : row ≡ other = cc in
        subst (λ r. fits_columns columns r ≡ true) one fits

-- a table without rows

pub nothing_stands : (def : TableDef) (table : Table) → table ≡ empty → IsUnderKeys def.primary_key table × HasFit def.columns table
nothing_stands def table none = (
  λ key row e. absurd (gone key row e),
  λ key row e. absurd (gone key row e),
)
  where
    gone : (key row : List Value) → get table key ≡ Some row → ⊥
    gone key row e = let no : None ≡ Some row = sym (ap (λ t. get t key) none ∙ get-empty key_order key) ∙ e in cc

-- the keys of a store's tables are those of the schema

store_kept : (schema : List TableDef) (groups : List Group) (stores : List Kept) → AreKept schema groups stores → (i : ℕ) (s : Kept) → slice_get stores i ≡ Some s → (g : Group) × IsFor schema g.def.tree s
store_kept schema [] [] kept i s e = cc
store_kept schema [] (k ∷ stores) kept i s e = absurd kept
store_kept schema (g ∷ groups) [] kept i s e = cc
store_kept schema (g ∷ groups) (k ∷ stores) kept zero s e = let same : k ≡ s = cc in (g, subst (IsFor schema g.def.tree) same kept.0)
store_kept schema (g ∷ groups) (k ∷ stores) kept (suc i) s e = store_kept schema groups stores kept.1 i s e

pub key_is : (schema : List TableDef) (groups : List Group) (stores : List Kept) → AreKept schema groups stores → (i : ℕ) (s : Kept) → slice_get stores i ≡ Some s → (t : TableId) (place : ℕ) → place_in s t ≡ Some place → (def : TableDef) → slice_get schema t.0 ≡ Some def → key_columns s place ≡ def.primary_key
key_is schema groups stores kept i s there t place at def is =
    let g = store_kept schema groups stores kept i s there in
    key_for schema g.0.def.tree s g.1 place t (stands_there g.0.def.tree t place (sym (place_same schema g.0.def.tree s g.1 t) ∙ at)) ∙ primary schema t def is

-- all tables

whole_by : (rows : TableId → Table) (n : ℕ) (schema : List TableDef) → length (tables_by rows n schema) ≡ length schema
whole_by rows n [] = refl
whole_by rows n (def ∷ defs) = ap suc (whole_by rows (suc n) defs)

pub whole_rows : (t : Stored) → IsWhole (rows_of t)
whole_rows t = whole_by (stored_rows t.stores.items) 0 t.schema

-- the tables below a number stand so
abbrev pub AreKeyedBelow : Stored → ℕ → Type 0
AreKeyedBelow t n =
    (table : TableId) (def : TableDef) → table.0 < n → slice_get t.schema table.0 ≡ Some def → IsUnderKeys def.primary_key (table_at (rows_of t) table) × HasFit def.columns (table_at (rows_of t) table)

pub keyed_rows : (t : Stored) (n : ℕ) → length t.schema ≤ n → AreKeyedBelow t n → IsKeyed (rows_of t)
keyed_rows t n long all i def table is there =
    let found = all (record { 0 = i }) def (let within = (read t.schema i def def is).0 in omega (arith, within)) is in
    let same : table_at (rows_of t) (record { 0 = i }) ≡ table = ap (λ o. unwrap_or o empty) there in
    subst (λ x. IsUnderKeys def.primary_key x × HasFit def.columns x) same found

-- operations that break no rule apply

pub all_apply : (ops : List Op) (s : TableState) → broken_by_all ops s ≡ None → is_some (applied_all ops s) ≡ true
all_apply [] s none = refl
all_apply (op ∷ ops) s none = by (broken_by op s) refl (applied op s) refl none (λ n. all_apply ops n)
  where
    by : (f : Option ApplyError) → broken_by op s ≡ f → (o : Option TableState) → applied op s ≡ o → option_or f (option_and_then (broken_by_all ops) o) ≡ None
        → ((n : TableState) → broken_by_all ops n ≡ None → is_some (applied_all ops n) ≡ true) → is_some (option_and_then (applied_all ops) o) ≡ true
    by (Some e) f_is o o_is h rest = cc
    by None f_is None o_is h rest = ap is_some (sym o_is) ∙ applies op s f_is
    by None f_is (Some n) o_is h rest = rest n h

pub all_seen : (s : TableState) (xs : List Session) (n : ℕ) → length xs ≤ n → ((k : ℕ) (x : Session) → k < n → slice_get xs k ≡ Some x → is_some (applied_all x.ops.items s) ≡ true) → All (λ x. is_some (applied_all x.ops s) ≡ true) (map seen_of xs)
all_seen s xs n long each k d lt =
    let within : k < length xs = (let e = length-map xs seen_of in omega arith) in
    let x = there xs k within in
    let at = read (map seen_of xs) k (seen_of x.0) d (mapped_at seen_of xs k x.0 x.1) in
    subst (λ (y : OpenSession). is_some (applied_all y.ops s) ≡ true) (sym at.1) (each k x.0 (omega arith) x.1)

pub one_more_applies : (s : TableState) (xs : List Session) (n : ℕ) (here : Session) → n < length xs → here ≡ get_or xs n here → broken_by_all here.ops.items s ≡ None → ((k : ℕ) (x : Session) → k < n → slice_get xs k ≡ Some x → is_some (applied_all x.ops.items s) ≡ true) → (k : ℕ) (x : Session) → k < n + 1 → slice_get xs k ≡ Some x → is_some (applied_all x.ops.items s) ≡ true
one_more_applies s xs n here within is none each k x lt at = by (below k n lt)
  where
    by : (k < n) ⊎ (k ≡ n) → is_some (applied_all x.ops.items s) ≡ true
    by (inl less) = each k x less at
    by (inr same) =
        let got = (read xs n x here (ap (slice_get xs) (sym same) ∙ at)).1 in
        subst (λ (y : Session). is_some (applied_all y.ops.items s) ≡ true) (is ∙ got) (all_apply here.ops.items s none)

-- what makes a tier verified

shown_where : (s : TableState) → IsWhole s → IsKeyed s → AreSmall s → (ops : List Op) → is_some (applied_all ops s) ≡ true → AreShown ops s
shown_where s whole keyed small ops some = record {
  applies = some;
  whole = whole;
  keyed = keyed;
  small = λ t. let few = small t in omega arith;
}

pub verified_by : (t : Stored) → IsKeyed (rows_of t) → AreSmall (rows_of t) → (seen : List OpenSession) → seen ≡ seen_all t.sessions → All (λ s. is_some (applied_all s.ops (rows_of t)) ≡ true) seen → IsVerified t
verified_by t keyed small seen same all = record {
  rows = shown_where (rows_of t) (whole_rows t) keyed small [] refl;
  own = subst (All (λ s. AreShown s.ops (rows_of t))) same
      (All-weaker (λ (s : OpenSession). is_some (applied_all s.ops (rows_of t)) ≡ true) (λ s. AreShown s.ops (rows_of t))
      (λ s some. shown_where (rows_of t) (whole_rows t) keyed small s.ops some) seen all);
}

pub over_shown : (t : Stored) (s : TableState) → s ≡ rows_of t → IsKeyed (rows_of t) → AreSmall s → (seen : List OpenSession) → seen ≡ seen_all t.sessions → All (λ x. is_some (applied_all x.ops s) ≡ true) seen → IsVerified t
over_shown t s same keyed small seen all_of applied =
    verified_by t keyed (subst AreSmall same small) seen all_of (subst (λ r. All (λ (x : OpenSession). is_some (applied_all x.ops r) ≡ true) seen) same applied)

-- what one table's home says

pub table_keyed : (t : Stored) → IsSound t → (table : TableId) (def : TableDef) → slice_get t.schema table.0 ≡ Some def → (home : Home) → Some home ≡ option_and_then (λ home. home) (slice_get t.directory table.0) → (s : Kept) → slice_get t.stores.items home.store ≡ Some s → IsKeyedBy (key_columns s home.place) (kept_at s.tables home.place) → HasFit def.columns (kept_at s.tables home.place) → IsUnderKeys def.primary_key (table_at (rows_of t) table) × HasFit def.columns (table_at (rows_of t) table)
table_keyed t sound table def is home found s there keyed fit =
    let shows = shows_table t.schema t.stores.items t.directory sound.stores table home found s there in
    let housed = its_home t.schema t.stores.items t.directory sound.stores table home found in
    let both : Some housed.store ≡ Some s = sym (store_there t.schema t.stores.items t.directory sound.stores table home found) ∙ there in
    let same : housed.store ≡ s = cc in
    let place = subst (λ x. place_in x table ≡ Some home.place) same housed.place in
    let key = key_is t.schema (groups_in t.catalog) t.stores.items sound.kept home.store s there table home.place place def is in
    subst (λ rows. IsUnderKeys def.primary_key rows × HasFit def.columns rows) (sym shows.rows)
    (subst (λ columns. IsUnderKeys columns (kept_at s.tables home.place)) key keyed, fit)

pub unkept_keyed : (t : Stored) → IsSound t → (table : TableId) (def : TableDef) → None ≡ option_and_then (λ home. home) (slice_get t.directory table.0) → IsUnderKeys def.primary_key (table_at (rows_of t) table) × HasFit def.columns (table_at (rows_of t) table)
unkept_keyed t sound table def none =
    nothing_stands def (table_at (rows_of t) table) (none_shown t.schema t.stores.items t.directory sound.stores table none)

pub home_within : (t : Stored) → IsSound t → (table : TableId) (home : Home) → Some home ≡ option_and_then (λ home. home) (slice_get t.directory table.0) → (s : Kept) → slice_get t.stores.items home.store ≡ Some s → home.place ≤ length s.layers
home_within t sound table home found s there =
    (shows_table t.schema t.stores.items t.directory sound.stores table home found s there).within
