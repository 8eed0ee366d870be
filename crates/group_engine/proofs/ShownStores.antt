-- What the stores keep is what is shown, group by group.
use Rattle.std.proofs.Common.{◌≡◌, ℕ, zero, suc, ◌+◌, true, cond, Option, Some, None, is_some, List, [], ◌∷◌, map, slice_get, unwrap_or, refl, sym, ap, ◌∙◌, arith}
use Rattle.std.specs.List.{find, list_any}
use Rattle.std.specs.Option.{option_map, option_or}
use Rattle.std.specs.FinMap.{empty}
use Rattle.tier_base.specs.declared.number.TableId.{TableId}
use Rattle.table_defs.specs.declared.definition.TableDef.{TableDef}
use Rattle.indexed_rows.specs.Rows.{Table}
use Rattle.table_state.specs.declared.history.Entry.{Entry}
use Rattle.table_state.specs.declared.history.Sealed.{Sealed}
use Rattle.table_state.specs.Tables.{TableState, table_at}
use Rattle.instances.specs.Trees.{place_of}
use Rattle.instances.specs.Views.{kept_at}
use Rattle.order_laws.proofs.TruthLaws.{never_both}
use Rattle.group_store.specs.Keeping.{IsFor}
use Rattle.group_store.specs.Shown.{kept_rows, rows_there, shown_by, stored_rows, tables_by}
use Rattle.group_store.specs.Stores.{Kept}
use Rattle.stored_tier.proofs.StoreRows.{place_same}
use Rattle.cache_tier.specs.Groups.{Group, covers}
use Rattle.cache_tier.specs.Shown.{shown, shown_state, shown_table, table_of_group, tables_from}
use Rattle.cache_tier.specs.TierStates.{Tier}
use Rattle.cache_tier.specs.StandingBetween.{HasCatalog, HaveOwnTables}
use Rattle.cache_tier.proofs.GroupTables.{any_found, each_own, over_is_found, IsFound}
use Rattle.cache_tier.proofs.ChosenGroups.{each_at}
use Rattle.cache_tier.proofs.TableLaws.{covered_defined}
use Rattle.cache_tier.specs.StandingBetween.{IsCatalogued}
use Rattle.stored_tier.specs.Stored.{AreKept, without_list}
use Rattle.group_engine.proofs.GroupRows.{shown_of_place}

-- each store keeps what its group shows
abbrev pub EachShows : List Entry → List Sealed → List Group → List Kept → Type 0
EachShows h log groups stores =
    (k : ℕ) (g : Group) (s : Kept) (u : TableId) (p : ℕ) → slice_get groups k ≡ Some g → slice_get stores k ≡ Some s → place_of g.def.tree u ≡ Some p → kept_at s.tables p ≡ kept_at (shown h log g) p

rows_in : (schema : List TableDef) (g : Group) (s : Kept) (u : TableId) (p : ℕ) → IsFor schema g.def.tree s → place_of g.def.tree u ≡ Some p → rows_there s u ≡ Some (kept_at s.tables p)
rows_in schema g s u p form place = ap (option_map (kept_at s.tables)) (place_same schema g.def.tree s form u ∙ place)

rows_out : (schema : List TableDef) (g : Group) (s : Kept) (u : TableId) → IsFor schema g.def.tree s → place_of g.def.tree u ≡ None → rows_there s u ≡ None
rows_out schema g s u form place = ap (option_map (kept_at s.tables)) (place_same schema g.def.tree s form u ∙ place)

-- what the stores keep of a table is what its group shows
stored_shown : (schema : List TableDef) (h : List Entry) (log : List Sealed) (groups : List Group) (stores : List Kept) → AreKept schema (map without_list groups) stores → EachShows h log groups stores → (u : TableId) → stored_rows stores u ≡ table_of_group h log u (find (covers u) groups)
stored_shown schema h log [] [] kept shows u = refl
stored_shown schema h log [] (s ∷ stores) kept shows u = absurd kept
stored_shown schema h log (g ∷ groups) [] kept shows u = absurd kept
stored_shown schema h log (g ∷ groups) (s ∷ stores) kept shows u = by (place_of g.def.tree u) refl (stored_shown schema h log groups stores kept.1 (λ k a b v p at there place. shows (suc k) a b v p at there place) u)
  where
    by : (o : Option ℕ) → place_of g.def.tree u ≡ o → stored_rows stores u ≡ table_of_group h log u (find (covers u) groups) → stored_rows (s ∷ stores) u ≡ table_of_group h log u (find (covers u) (g ∷ groups))
    by None e rest =
        ap (λ o. unwrap_or (option_or o (kept_rows stores u)) empty) (rows_out schema g s u kept.0 e)
        ∙ rest
        ∙ sym (ap (λ (o : Option ℕ). table_of_group h log u (cond (is_some o) (Some g) (find (covers u) groups))) e)
    by (Some p) e rest =
        ap (λ o. unwrap_or (option_or o (kept_rows stores u)) empty) (rows_in schema g s u p kept.0 e)
        ∙ shows 0 g s u p refl refl e
        ∙ sym (ap (λ (o : Option ℕ). kept_at (shown h log g) (unwrap_or o 0)) e)
        ∙ sym (ap (λ (o : Option ℕ). table_of_group h log u (cond (is_some o) (Some g) (find (covers u) groups))) e)

same_tables : (rows others : TableId → Table) (place : ℕ) (defs : List TableDef) → ((u : TableId) → rows u ≡ others u) → tables_by rows place defs ≡ tables_from others place defs
same_tables rows others place [] same = refl
same_tables rows others place (def ∷ defs) same =
    let first = same (record { 0 = place }) in
    let rest = same_tables rows others (suc place) defs same in
    λ i. first i ∷ rest i

-- so all together show what is shown
pub all_shown : (schema : List TableDef) (h : List Entry) (t : Tier) (stores : List Kept) → t.schema ≡ schema → AreKept schema (map without_list t.groups) stores → EachShows h t.log t.groups stores → shown_by schema stores ≡ shown_state h t
all_shown schema h t stores same kept shows =
    let rows : shown_by schema stores ≡ record { schema = schema; tables = tables_from (shown_table h t) 0 schema } = ap (λ (ts : List Table). record { schema = schema; tables = ts })
    (same_tables (stored_rows stores) (shown_table h t) 0 schema (λ u. stored_shown schema h t.log t.groups stores kept shows u ∙ sym (ap (table_of_group h t.log u) (over_is_found t.groups u)))) in
    rows ∙ ap (λ (defs : List TableDef). record { schema = defs; tables = tables_from (shown_table h t) 0 defs }) (sym same)

-- what is kept of a table of the group at a place
kept_there : (schema : List TableDef) (groups : List Group) (stores : List Kept) → AreKept schema (map without_list groups) stores → HaveOwnTables groups → (k : ℕ) (g : Group) (s : Kept) (u : TableId) (p : ℕ)
    → slice_get groups k ≡ Some g → slice_get stores k ≡ Some s → place_of g.def.tree u ≡ Some p → kept_rows stores u ≡ Some (kept_at s.tables p)
kept_there schema [] stores kept own k g s u p at there place = Prim.cc
kept_there schema (h ∷ groups) [] kept own k g s u p at there place = absurd kept
kept_there schema (h ∷ groups) (r ∷ stores) kept own zero g s u p at there place =
    let one : h ≡ g = Prim.cc in
    let other : r ≡ s = Prim.cc in
    ap (λ o. option_or o (kept_rows stores u)) (rows_in schema h r u p kept.0 (ap (λ (x : Group). place_of x.def.tree u) one ∙ place)) ∙ ap (λ (x : Kept). Some (kept_at x.tables p)) other
kept_there schema (h ∷ groups) (r ∷ stores) kept own (suc k) g s u p at there place = by (place_of h.def.tree u) refl (kept_there schema groups stores kept.1 own.1 k g s u p at there place)
  where
    by : (o : Option ℕ) → place_of h.def.tree u ≡ o → kept_rows stores u ≡ Some (kept_at s.tables p) → kept_rows (r ∷ stores) u ≡ Some (kept_at s.tables p)
    by None e rest = ap (λ o. option_or o (kept_rows stores u)) (rows_out schema h r u kept.0 e) ∙ rest
    by (Some q) e rest =
        let found : find (covers u) groups ≡ Some g = each_at (IsFound groups) groups k g (each_own groups own.1) at u (ap is_some place) in
        absurd (never_both (list_any (covers u) groups) (sym (any_found (covers u) groups) ∙ ap (λ (o : Option Group). is_some o) found) (own.0 u (ap is_some e)))

-- a table of the schema
by_there : (rows : TableId → Table) (from i : ℕ) (defs : List TableDef) → is_some (slice_get defs i) ≡ true → unwrap_or (slice_get (tables_by rows from defs) i) empty ≡ rows (record { 0 = from + i })
by_there rows from i [] e = Prim.cc
by_there rows from zero (def ∷ defs) e = let here : from ≡ from + 0 = Prim.omega arith in ap (λ n. rows (record { 0 = n })) here
by_there rows from (suc i) (def ∷ defs) e = let here : suc from + i ≡ from + suc i = Prim.omega arith in by_there rows (suc from) i defs e ∙ ap (λ n. rows (record { 0 = n })) here

-- where all together show what is shown, each store keeps what its group shows
pub each_shows : (schema : List TableDef) (h : List Entry) (t : Tier) (stores : List Kept) → t.schema ≡ schema → HasCatalog t → AreKept schema (map without_list t.groups) stores → shown_by schema stores ≡ shown_state h t → EachShows h t.log t.groups stores
each_shows schema h t stores same catalog kept shows k g s u p at there place =
    let defined = covered_defined t.schema g u (each_at (IsCatalogued t.schema) t.groups k g catalog.each at) (ap is_some place) in
    let here : 0 + u.0 ≡ u.0 = Prim.omega arith in
    sym (ap (λ o. unwrap_or o empty) (kept_there schema t.groups stores kept catalog.apart k g s u p at there place))
    ∙ ap (λ n. stored_rows stores (record { 0 = n })) (sym here)
    ∙ sym (by_there (stored_rows stores) 0 u.0 schema (ap (λ (defs : List TableDef). is_some (slice_get defs u.0)) (sym same) ∙ defined))
    ∙ ap (λ (x : TableState). table_at x u) shows
    ∙ shown_of_place h t k g u p catalog at place
