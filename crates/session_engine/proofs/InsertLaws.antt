-- The key of an INSERT in the virtual state, by the bank's row and what is pending.
use Rattle.std.proofs.Common.{◌≡◌, Bool, true, false, cond, nat_eq, ◌&&◌, ◌||◌, Option, Some, None, is_some, List, [], ◌∷◌, ◌++◌, slice_get, unwrap_or, refl, sym, ap, ◌∙◌, append_assoc, eqb-true}
use Rattle.std.specs.List.{flat_map, list_any}
use Rattle.std.specs.Option.{option_and_then}
use Rattle.std.proofs.lemmas.List.{append-nil}
use Rattle.std.proofs.lemmas.List.Folds.{list_any-append}
use Rattle.tier_base.specs.declared.number.TableId.{TableId}
use Rattle.row_types.specs.declared.value.Value.{Value}
use Rattle.table_defs.specs.declared.definition.TableDef.{TableDef}
use Rattle.indexed_rows.specs.Rows.{is_same, key_of}
use Rattle.table_state.specs.declared.footprint.RowKey.{RowKey}
use Rattle.table_state.specs.declared.history.Entry.{Entry}
use Rattle.table_state.specs.declared.history.Entry.TheVariants.{Definition, Foreign, Own}
use Rattle.table_state.specs.declared.history.Sealed.{Sealed}
use Rattle.table_state.specs.declared.operation.Op.{Op}
use Rattle.table_state.specs.declared.operation.Op.TheVariants.{Delete, Insert, Update}
use Rattle.table_state.specs.Footprints.{footprint_of, is_among, rows_of, same_row_key, written_by, written_key}
use Rattle.table_state.specs.Histories.{no_tables, state_from, state_of}
use Rattle.table_state.specs.Operations.{applied_all, table_of}
use Rattle.table_state.specs.Tables.{TableState}
use Rattle.table_state.proofs.HistoryLaws.{state_of-append}
use Rattle.order_laws.specs.Commits.{is_pending, pending, virtual_state}
use Rattle.order_laws.specs.Effects.{row_at, row_left_by}
use Rattle.outside.specs.Others.{AreOthers, are_on_shared, is_shared}
use Rattle.evaluator.specs.Cascades.{key_in}
use Rattle.cache_tier.specs.Groups.{is_table_of, is_writethrough}
use Rattle.cache_tier.specs.InsertSteps.{has_key_in}
use Rattle.cache_tier.specs.Shown.{all_over, over, shown_state, written_on}
use Rattle.cache_tier.specs.TierStates.{Session, Tier}
use Rattle.cache_tier.specs.Worlds.{World}
use Rattle.cache_tier.specs.Pending.{last_written}
use Rattle.cache_tier.specs.StandingBetween.{Stands}
use Rattle.cache_tier.proofs.GroupTables.{live_table}
use Rattle.cache_tier.proofs.PendingRows.{all_written}
use Rattle.cache_tier.proofs.SessionLaws.{known}
use Rattle.session_engine.specs.Inserting.{writes_key}

abbrev pub at_key : TableId → List Value → RowKey
at_key t key = record { table = t; key = key }

-- what was written last, where nothing writes the key, and where something does

pub or_none : (a b : Bool) → (a || b) ≡ false → (a ≡ false) × (b ≡ false)
or_none true b e = cc
or_none false b e = (refl, e)

pub split_written : (schema : List TableDef) (op : Op) (ops : List Op) (key : RowKey) → is_among (footprint_of schema (op ∷ ops)).written key ≡ (is_among (written_by schema op) key || is_among (footprint_of schema ops).written key)
split_written schema op ops key = list_any-append (same_row_key key) (written_by schema op) (flat_map (written_by schema) ops)

pub none_written : (schema : List TableDef) (t : TableId) (key : List Value) (ops : List Op) (found : Option (List Value)) → writes_key schema ops t key ≡ false → last_written schema t key ops found ≡ found
none_written schema t key [] found none = refl
none_written schema t key (op ∷ ops) found none =
    let parts = or_none (is_among (written_by schema op) (at_key t key)) (writes_key schema ops t key) (sym (split_written schema op ops (at_key t key)) ∙ none) in
    ap (λ b. last_written schema t key ops (cond b (row_left_by op) found)) parts.0 ∙ none_written schema t key ops found parts.1

pub some_written : (schema : List TableDef) (t : TableId) (key : List Value) (ops : List Op) (one other : Option (List Value)) → writes_key schema ops t key ≡ true → last_written schema t key ops one ≡ last_written schema t key ops other
some_written schema t key [] one other some = cc
some_written schema t key (op ∷ ops) one other some = by (is_among (written_by schema op) (at_key t key)) refl (some_written schema t key ops one other)
  where
    by : (b : Bool) → is_among (written_by schema op) (at_key t key) ≡ b → (writes_key schema ops t key ≡ true → last_written schema t key ops one ≡ last_written schema t key ops other) → last_written schema t key (op ∷ ops) one ≡ last_written schema t key (op ∷ ops) other
    by true is more =
        ap (λ b. last_written schema t key ops (cond b (row_left_by op) one)) is ∙ sym (ap (λ b. last_written schema t key ops (cond b (row_left_by op) other)) is)
    by false is more =
        let rest : writes_key schema ops t key ≡ true = sym (split_written schema op ops (at_key t key) ∙ ap (λ b. b || writes_key schema ops t key) is) ∙ some in
        ap (λ b. last_written schema t key ops (cond b (row_left_by op) one)) is ∙ more rest
        ∙ sym (ap (λ b. last_written schema t key ops (cond b (row_left_by op) other)) is)

pub last_behind : (schema : List TableDef) (t : TableId) (key : List Value) (a b : List Op) (found : Option (List Value)) → last_written schema t key (a ++ b) found ≡ last_written schema t key b (last_written schema t key a found)
last_behind schema t key [] b found = refl
last_behind schema t key (op ∷ a) b found = last_behind schema t key a b (cond (is_among (written_by schema op) (at_key t key)) (row_left_by op) found)

-- what is pending writes the key only where something unsettled does

pub of_pending : (history : List Entry) (schema : List TableDef) (t : TableId) (key : List Value) (xs : List Sealed) → list_any (λ x. writes_key schema x.ops t key) xs ≡ false → (found : Option (List Value)) → last_written schema t key (flat_map (λ (x : Sealed). x.ops) (pending history xs)) found ≡ found
of_pending history schema t key [] none found = refl
of_pending history schema t key (x ∷ xs) none found =
    let parts = or_none (writes_key schema x.ops t key) (list_any (λ y. writes_key schema y.ops t key) xs) none in
    by (is_pending history x) parts.0 (of_pending history schema t key xs parts.1)
  where
    by : (b : Bool) → writes_key schema x.ops t key ≡ false → ((found : Option (List Value)) → last_written schema t key (flat_map (λ (y : Sealed). y.ops) (pending history xs)) found ≡ found)
        → last_written schema t key (flat_map (λ (y : Sealed). y.ops) (cond b (x ∷ pending history xs) (pending history xs))) found ≡ found
    by true mine rest =
        last_behind schema t key x.ops (flat_map (λ (y : Sealed). y.ops) (pending history xs)) found
        ∙ ap (last_written schema t key (flat_map (λ (y : Sealed). y.ops) (pending history xs))) (none_written schema t key x.ops found mine)
        ∙ rest found
    by false mine rest = rest found

-- others leave the rows of tables that aren't shared

pub apart_tables : (schema : List TableDef) (op : Op) (t : TableId) (key : List Value) → nat_eq t.0 (table_of op).0 ≡ false → is_among (written_by schema op) (at_key t key) ≡ false
apart_tables schema op t key apart = all_rows (rows_of op)
  where
    one_row : (o : Option TableDef) (row : List Value) (rest : List RowKey) → is_among rest (at_key t key) ≡ false → is_among (written_key (table_of op) o row ++ rest) (at_key t key) ≡ false
    one_row None row rest none = none
    one_row (Some def) row rest none = ap (λ b. (b && is_same key (key_of def.primary_key row)) || is_among rest (at_key t key)) apart ∙ none

    all_rows : (rows : List (List Value)) → is_among (flat_map (written_key (table_of op) (slice_get schema (table_of op).0)) rows) (at_key t key) ≡ false
    all_rows [] = refl
    all_rows (row ∷ rows) = one_row (slice_get schema (table_of op).0) row (flat_map (written_key (table_of op) (slice_get schema (table_of op).0)) rows) (all_rows rows)

unshared_op : (shared : List TableId) (t u : TableId) → is_shared shared t ≡ false → is_shared shared u ≡ true → nat_eq t.0 u.0 ≡ false
unshared_op shared t u off on = by (nat_eq t.0 u.0) refl
  where
    by : (b : Bool) → nat_eq t.0 u.0 ≡ b → nat_eq t.0 u.0 ≡ false
    by false is = is
    by true is =
        let same : t ≡ u = ap (λ n. record { 0 = n }) (eqb-true t.0 u.0 is) in
        let both : false ≡ true = sym off ∙ ap (is_shared shared) same ∙ on in cc

and_both : (a b : Bool) → (a && b) ≡ true → (a ≡ true) × (b ≡ true)
and_both true b e = (refl, e)
and_both false b e = cc

off_ops : (shared : List TableId) (schema : List TableDef) (t : TableId) (key : List Value) (ops : List Op) → is_shared shared t ≡ false → are_on_shared shared ops ≡ true → (found : Option (List Value)) → last_written schema t key ops found ≡ found
off_ops shared schema t key [] off on found = refl
off_ops shared schema t key (op ∷ ops) off on found =
    let parts = and_both (is_shared shared (table_of op)) (are_on_shared shared ops) on in
    ap (λ b. last_written schema t key ops (cond b (row_left_by op) found)) (apart_tables schema op t key (unshared_op shared t (table_of op) off parts.0))
    ∙ off_ops shared schema t key ops off parts.1 found

pub others_keep_row : (shared : List TableId) (t : TableId) (key : List Value) → is_shared shared t ≡ false → (entries h : List Entry) → AreOthers shared h entries → (s n : TableState) → state_of h ≡ Some s → state_of (h ++ entries) ≡ Some n → row_at n t key ≡ row_at s t key
others_keep_row shared t key off [] h others s n before behind =
    let both : Some s ≡ Some n = sym before ∙ ap state_of (sym (append-nil h)) ∙ behind in
    let same : s ≡ n = cc in
    ap (λ x. row_at x t key) (sym same)
others_keep_row shared t key off (Definition def ∷ entries) h others s n before behind = absurd others
others_keep_row shared t key off (Own ticket ops ∷ entries) h others s n before behind = absurd others
others_keep_row shared t key off (Foreign ops ∷ entries) h others s n before behind =
    by (applied_all ops s) refl (λ mid. others_keep_row shared t key off entries (h ++ Foreign ops ∷ []) others.2 mid n)
  where
    step : state_of (h ++ Foreign ops ∷ []) ≡ option_and_then (λ x. Some x) (applied_all ops s)
    step = state_of-append h (Foreign ops ∷ []) ∙ ap (option_and_then (state_from (Foreign ops ∷ []))) before

    rest : state_of ((h ++ Foreign ops ∷ []) ++ entries) ≡ Some n
    rest = ap state_of (append_assoc h (Foreign ops ∷ []) entries) ∙ behind

    by : (o : Option TableState) → applied_all ops s ≡ o → ((mid : TableState) → state_of (h ++ Foreign ops ∷ []) ≡ Some mid → state_of ((h ++ Foreign ops ∷ []) ++ entries) ≡ Some n → row_at n t key ≡ row_at mid t key) → row_at n t key ≡ row_at s t key
    by None is more =
        let none : state_of (h ++ Foreign ops ∷ []) ≡ None = step ∙ ap (option_and_then (λ x. Some x)) is in
        let gone : option_and_then (state_from entries) (state_of (h ++ Foreign ops ∷ [])) ≡ None = ap (option_and_then (state_from entries)) none in
        let no : Some n ≡ None = sym rest ∙ state_of-append (h ++ Foreign ops ∷ []) entries ∙ gone in cc
    by (Some mid) is more =
        more mid (step ∙ ap (option_and_then (λ x. Some x)) is) rest
        ∙ all_written ops s mid t key is ∙ off_ops shared s.schema t key ops off others.0 (row_at s t key)

-- the key in the virtual state with own writes over it

over_schema : (op : Op) (s : TableState) → (over op s).schema ≡ s.schema
over_schema (Insert t row) s = refl
over_schema (Update t old new) s = refl
over_schema (Delete t old) s = refl

all_over_schema : (ops : List Op) (s : TableState) → (all_over ops s).schema ≡ s.schema
all_over_schema [] s = refl
all_over_schema (op ∷ ops) s = all_over_schema ops (over op s) ∙ over_schema op s

pub key_there : (w : World) (s : Session) (t : TableId) (row : List Value) → Stands w → is_table_of is_writethrough w.tier.groups t ≡ true → has_key_in (written_on s w.history w.tier) t row ≡ is_some (row_at (written_on s w.history w.tier) t (key_in (slice_get w.tier.schema t.0) row))
key_there w s t row x through =
    let k = known w x in
    let virtual : unwrap_or (virtual_state w.history w.tier.log) no_tables ≡ x.flow.stand.over.virtual = ap (λ o. unwrap_or o no_tables) k.v_is in
    let schema : (written_on s w.history w.tier).schema ≡ x.flow.stand.over.virtual.schema = all_over_schema s.own _ ∙ ap (λ (z : TableState). z.schema) virtual in
    let def : slice_get (written_on s w.history w.tier).schema t.0 ≡ slice_get w.tier.schema t.0 =
    ap (λ d. slice_get d t.0) schema ∙ sym (k.part.defined t (live_table w.tier.groups t ∙ through)) in
    ap (λ d. is_some (row_at (written_on s w.history w.tier) t (key_in d row))) def

pub seen_schema : (ops : List Op) (history : List Entry) (a : Tier) → (all_over ops (shown_state history a)).schema ≡ a.schema
seen_schema ops history a = all_over_schema ops (shown_state history a)
