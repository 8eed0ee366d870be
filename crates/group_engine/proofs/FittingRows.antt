-- Stored root rows fit the columns of their table.
use Rattle.std.proofs.Common.{◌≡◌, ℕ, zero, suc, Bool, true, false, cond, ◌&&◌, nat_eq, Option, Some, None, List, [], ◌∷◌, ◌++◌, ◌⊎◌, inl, inr, length, map, take, slice_get, unwrap_or, refl, sym, ap, subst, ◌∙◌, arith, eqb-true}
use Rattle.std.specs.FinMap as fm
use Rattle.std.specs.FinMap.{empty}
use Rattle.row_types.specs.declared.value.Value.{Value}
use Rattle.tier_base.specs.declared.number.TableId.{TableId}
use Rattle.table_defs.specs.declared.definition.TableDef.{TableDef}
use Rattle.indexed_rows.specs.Rows.{Table, is_same, key_of}
use Rattle.table_state.specs.declared.history.Entry.{Entry}
use Rattle.table_state.specs.declared.history.Entry.TheVariants.{Definition, Foreign, Own}
use Rattle.table_state.specs.declared.operation.Op.{Op}
use Rattle.table_state.specs.declared.operation.Op.TheVariants.{Insert, Update, Delete}
use Rattle.table_state.specs.Independence.{IsWhole, with_new}
use Rattle.table_state.specs.Operations.{applied, applied_all, table_of}
use Rattle.table_state.specs.Sound.{HasFittingRows}
use Rattle.table_state.specs.Tables.{TableState, fits_columns, table_at}
use Rattle.table_state.proofs.AppliedLaws.{inserted, updated}
use Rattle.table_state.proofs.IndependenceLaws.{entry_whole}
use Rattle.order_laws.specs.Effects.{row_at, row_left_by}
use Rattle.order_laws.proofs.CountLaws.{rows_later}
use Rattle.order_laws.proofs.StepLaws.{Applies, key_in, parts, row_after, same_schema}
use Rattle.order_laws.proofs.TruthLaws.{both_true}
use Rattle.std.specs.Option.{option_and_then, option_map}
use Rattle.row_types.specs.Order.{key_order}
use Rattle.table_state.specs.Histories.{after_entry, entry_of, state_at, state_from, state_of}
use Rattle.instances.specs.Views.{kept_at, passes, root_rows, selects}
use Rattle.instances.proofs.Gathering.{get_where}
use Rattle.slot_rows.specs.SlotKeys.{RowsHeld}
use Rattle.group_catalog.specs.Catalogs.{groups_in}
use Rattle.group_store.specs.Keeping.{primary_of}
use Rattle.group_store.specs.Stores.{Kept}
use Rattle.order_laws.specs.Commits.{pending, virtual_state}
use Rattle.order_laws.proofs.OrderLaws.{virtual_is}
use Rattle.cache_tier.specs.Groups.{Group, is_read_only}
use Rattle.cache_tier.specs.Shown.{shown_where, shows_root, state_behind}
use Rattle.cache_tier.specs.Worlds.{World}
use Rattle.cache_tier.proofs.HistoryKeeps.{root_covers}
use Rattle.cache_tier.proofs.PartLaws.{between}
use Rattle.cache_tier.proofs.ShownTables.{cond_some}
use Rattle.stored_tier.specs.declared.tier.Tier.{Tier as Stored}
use Rattle.stored_tier.specs.Lists.{hides_keys, view_roots}
use Rattle.stored_tier.specs.Performing.{StandsFor}
use Rattle.stored_tier.specs.Stored.{IsSound, without_list}
use Rattle.stored_tier.proofs.StoreRows.{form_here}
use Rattle.changed_sets.specs.OfAgingCycles.Behind.{behind}
use Rattle.changed_sets.specs.OfAgingCycles.RootRows.{nothing_kept}
use Rattle.changed_sets.specs.OfAgingCycles.Shows.{keyed, roots_are, store_root}
use Rattle.group_engine.specs.UnloadNamed.{FitsFor}

abbrev Row : Type 0
Row = List Value

-- the rows of a state that a history leaves fit

left_fits : (op : Op) (s n : TableState) → applied op s ≡ Some n → (def : TableDef) → slice_get s.schema (table_of op).0 ≡ Some def → (row : Row) → row_left_by op ≡ Some row → fits_columns def.columns row ≡ true
left_fits (Insert t new) s n is def d row e = let same : new ≡ row = cc in ap (fits_columns def.columns) (sym same) ∙ (inserted s n t def new is d).fits def d
left_fits (Update t old new) s n is def d row e = let same : new ≡ row = cc in ap (fits_columns def.columns) (sym same) ∙ (updated s n t def old new is d).fits def d
left_fits (Delete t old) s n is def d row e = cc

keeps_fits : (op : Op) (s n : TableState) → applied op s ≡ Some n → HasFittingRows s → HasFittingRows n
keeps_fits op s n is fits t def key row d e = by (nat_eq (table_of op).0 t.0 && is_same key (key_in x.def op)) refl (sym (row_after op s n x t key) ∙ e)
  where
    x : Applies op s n
    x = parts op s n is

    in_s : slice_get s.schema t.0 ≡ Some def
    in_s = ap (λ l. slice_get l t.0) (sym (same_schema op s n x)) ∙ d

    by : (b : Bool) → (nat_eq (table_of op).0 t.0 && is_same key (key_in x.def op)) ≡ b → cond b (row_left_by op) (row_at s t key) ≡ Some row → fits_columns def.columns row ≡ true
    by true h f =
        let place = (both_true (nat_eq (table_of op).0 t.0) (is_same key (key_in x.def op)) h).0 in
        left_fits op s n is def (ap (slice_get s.schema) (eqb-true (table_of op).0 t.0 place) ∙ in_s) row f
    by false h f = fits t def key row in_s f

all_fit : (ops : List Op) (s n : TableState) → applied_all ops s ≡ Some n → HasFittingRows s → HasFittingRows n
all_fit [] s n is a = let same : s ≡ n = cc in subst HasFittingRows same a
all_fit (op ∷ ops) s n is a = let (x, x_is, x_on) = between (applied_all ops) (applied op s) n is in all_fit ops x n x_on (keeps_fits op s x x_is a)

last_cases : {X : Type 0} (xs : List X) (x : X) (i : ℕ) (y : X) → slice_get (xs ++ x ∷ []) i ≡ Some y → (slice_get xs i ≡ Some y) ⊎ (i ≡ length xs)
last_cases [] x zero y h = inr refl
last_cases [] x (suc i) y h = cc
last_cases (z ∷ xs) x zero y h = inl h
last_cases (z ∷ xs) x (suc i) y h = elim (last_cases xs x i y h) [ inl e ↦ inl e | inr e ↦ inr (ap suc e) ]

past_end : (tables : List Table) (i : ℕ) → i ≡ length tables → unwrap_or (slice_get tables i) empty ≡ empty
past_end [] zero e = refl
past_end [] (suc i) e = refl
past_end (table ∷ tables) zero e = absurd (omega (arith, e))
past_end (table ∷ tables) (suc i) e = past_end tables i (omega (arith, e))

no_row : (def : TableDef) (s : TableState) (t : TableId) (key row : Row) → IsWhole s → t.0 ≡ length s.schema → row_at (with_new def s) t key ≡ Some row → ⊥
no_row def s t key row whole e h =
    let none : None ≡ Some row = sym (fm.get-empty _ key) ∙ ap (λ (m : Table). fm.get m key) (sym (rows_later s.tables t.0 ∙ past_end s.tables t.0 (e ∙ sym whole))) ∙ h in cc

new_fits : (def : TableDef) (s : TableState) → IsWhole s → HasFittingRows s → HasFittingRows (with_new def s)
new_fits def s whole fits t f key row d e = elim (last_cases s.schema def t.0 f d) [
  | inl old ↦ fits t f key row old (ap (λ (m : Table). fm.get m key) (sym (rows_later s.tables t.0)) ∙ e)
  | inr new ↦ absurd (no_row def s t key row whole new e)
]

entry_fits : (entry : Entry) (s n : TableState) → after_entry entry s ≡ Some n → IsWhole s → HasFittingRows s → HasFittingRows n
entry_fits (Definition def) s n is whole a = let same : with_new def s ≡ n = cc in subst HasFittingRows same (new_fits def s whole a)
entry_fits (Foreign ops) s n is whole a = all_fit ops s n is a
entry_fits (Own ticket ops) s n is whole a = all_fit ops s n is a

entries_fit : (entries : List Entry) (s n : TableState) → state_from entries s ≡ Some n → IsWhole s → HasFittingRows s → HasFittingRows n
entries_fit [] s n is whole a = let same : s ≡ n = cc in subst HasFittingRows same a
entries_fit (entry ∷ entries) s n is whole a =
    let (x, x_is, x_on) = between (state_from entries) (after_entry entry s) n is in
    entries_fit entries x n x_on (entry_whole entry s x x_is whole) (entry_fits entry s x x_is whole a)

pub history_fits : (history : List Entry) (s : TableState) → state_of history ≡ Some s → HasFittingRows s
history_fits history s is = entries_fit history (record { schema = []; tables = [] }) s is refl (λ t def key row d e. cc)

-- so do those of the state that a group is a cache of

behind_fits : (w : World) (g : Group) (s : TableState) → state_behind w.history w.tier.log g ≡ Some s → HasFittingRows s
behind_fits w g s is = by (is_read_only g) is
  where
    position : (o : Option ℕ) → option_and_then (state_at w.history) o ≡ Some s → HasFittingRows s
    position None e = cc
    position (Some n) e = history_fits (take n w.history) s e

    by : (b : Bool) → cond b (option_and_then (state_at w.history) g.position) (virtual_state w.history w.tier.log) ≡ Some s → HasFittingRows s
    by true e = position g.position e
    by false e = history_fits (w.history ++ map entry_of (pending w.history w.tier.log)) s (sym (virtual_is w.history w.tier.log) ∙ e)

module _ (t : Stored) (w : World) (stands : StandsFor t w) (place : ℕ) (g : Group) (at : slice_get w.tier.groups place ≡ Some g) where
  -- a root row of it
  root_fits : (s : TableState) → state_behind w.history w.tier.log g ≡ Some s → (k r : Row) → fm.get (root_rows s g.def.tree.root) k ≡ Some r → (def : TableDef) → slice_get t.schema g.def.tree.root.table.0 ≡ Some def → fits_columns def.columns r ≡ true
  root_fits s is k r e def d = by ((behind w stands.stands place g at s is).known g.def.tree.root.table (root_covers g))
    where
      there : fm.get (table_at s g.def.tree.root.table) k ≡ Some r
      there = cond_some (passes (selects g.def.tree.root.filter) (fm.get (table_at s g.def.tree.root.table) k)) (fm.get (table_at s g.def.tree.root.table) k) r
          (sym (get_where (selects g.def.tree.root.filter) (table_at s g.def.tree.root.table) k) ∙ e)

      by : (slice_get s.schema g.def.tree.root.table.0 ≡ slice_get w.tier.schema g.def.tree.root.table.0) ⊎ (table_at s g.def.tree.root.table ≡ empty) → fits_columns def.columns r ≡ true
      by (inl same) = behind_fits w g s is g.def.tree.root.table def k r (same ∙ ap (λ defs. slice_get defs g.def.tree.root.table.0) stands.stored.schema ∙ d) there
      by (inr none) = let wrong : None ≡ Some r = sym (fm.get-empty key_order k) ∙ ap (λ (m : Table). fm.get m k) (sym none) ∙ there in cc

  primary_is : (def : TableDef) → slice_get t.schema g.def.tree.root.table.0 ≡ Some def → primary_of t.schema g.def.tree.root.table ≡ def.primary_key
  primary_is def d = ap (λ o. unwrap_or (option_map (λ (x : TableDef). x.primary_key) o) []) d

  -- out: what a group shows
  pub shown_fits : IsSound t → (store : Kept) → slice_get t.stores.items place ≡ Some store → FitsFor t.schema g.def.tree.root.table (kept_at store.tables 0)
  shown_fits sound store kept def d = (under, fits)
    where
      under : (k r : Row) → fm.get (kept_at store.tables 0) k ≡ Some r → key_of def.primary_key r ≡ k
      under k r e = ap (λ cs. key_of cs r) (sym ((form_here t w sound stands place g store at kept).key ∙ primary_is def d)) ∙ keyed t w sound stands place g at store kept k r e

      fits : (k r : Row) → fm.get (kept_at store.tables 0) k ≡ Some r → fits_columns def.columns r ≡ true
      fits k r e = by (state_behind w.history w.tier.log g) refl
        where
          by : (o : Option TableState) → state_behind w.history w.tier.log g ≡ o → fits_columns def.columns r ≡ true
          by None is =
              let wrong : None ≡ Some r = sym (fm.get-empty key_order k) ∙ ap (λ (m : Table). fm.get m k) (sym (roots_are t w sound stands place g at store kept ∙ ap (λ o. kept_at (shown_where o g) 0) is ∙ nothing_kept 0)) ∙ e in cc
          by (Some s) is =
              root_fits s is k r (cond_some (passes (shows_root s g) (fm.get (root_rows s g.def.tree.root) k)) (fm.get (root_rows s g.def.tree.root) k) r (sym (store_root t w sound stands place g at store kept s is k) ∙ e)) def d

  -- out: and what it hides
  pub hidden_fits : is_read_only g ≡ true → slice_get (groups_in t.catalog) place ≡ Some (without_list g) → hides_keys (without_list g) ≡ true → (held : RowsHeld) → slice_get t.hidden.items place ≡ Some held
      → ((k r : Row) → fm.get held.table k ≡ Some r → key_of (primary_of t.schema g.def.tree.root.table) r ≡ k) → FitsFor t.schema g.def.tree.root.table held.table
  hidden_fits reads seen hides held kept under def d = (λ k r e. ap (λ cs. key_of cs r) (sym (primary_is def d)) ∙ under k r e, fits)
    where
      fits : (k r : Row) → fm.get held.table k ≡ Some r → fits_columns def.columns r ≡ true
      fits k r e = by (option_and_then (state_at w.history) g.position) refl (stands.hides place (without_list g) held seen hides kept k r e)
        where
          by : (o : Option TableState) → option_and_then (state_at w.history) g.position ≡ o → fm.get (view_roots o g.def.tree.root) k ≡ Some r → fits_columns def.columns r ≡ true
          by None is f = let wrong : None ≡ Some r = sym (fm.get-empty key_order k) ∙ f in cc
          by (Some s) is f = root_fits s (ap (λ b. cond b (option_and_then (state_at w.history) g.position) (virtual_state w.history w.tier.log)) reads ∙ is) k r f def d
