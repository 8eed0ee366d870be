-- The row of the virtual state at a key that unsettled transactions wrote: what the last of them leaves there, whether it
-- has come to the history or not.
use Rattle.std.proofs.Common.{◌≡◌, ◌≤◌, Bool, true, false, cond, nat_eq, ◌&&◌, ◌||◌, Option, Some, is_some, List, [], ◌∷◌, ◌++◌, map, filter, find, slice_get, refl, sym, ap, ◌∙◌, append_assoc, eqb-true}
use Rattle.std.specs.FinMap.{get}
use Rattle.std.specs.List.{flat_map, list_any}
use Rattle.std.specs.Option.{option_and_then}
use Rattle.std.proofs.lemmas.Bool.{le-leb}
use Rattle.std.proofs.lemmas.List.{map-append}
use Rattle.tier_base.specs.declared.number.TableId.{TableId}
use Rattle.row_types.specs.declared.value.Value.{Value}
use Rattle.table_defs.specs.declared.definition.TableDef.{TableDef}
use Rattle.table_state.specs.declared.history.Entry.{Entry}
use Rattle.table_state.specs.declared.history.Sealed.{Sealed}
use Rattle.table_state.specs.declared.operation.Op.{Op}
use Rattle.table_state.specs.Copies.{is_one_of}
use Rattle.table_state.specs.Footprints.{is_among, rows_of, written_by, written_key}
use Rattle.table_state.specs.Histories.{entry_of, state_from, state_of}
use Rattle.table_state.specs.Operations.{applied_all, table_of}
use Rattle.table_state.specs.Tables.{TableState}
use Rattle.table_state.proofs.HistoryLaws.{state_of-append}
use Rattle.order_laws.specs.Commits.{LiveGroup, entry_on, in_order, is_of_group, is_op_on, is_other, of_group, ops_on}
use Rattle.order_laws.specs.Effects.{row_at, row_left_by}
use Rattle.order_laws.specs.Sides.{AgreeOn}
use Rattle.order_laws.specs.Standing.{HasGroup}
use Rattle.order_laws.proofs.NextLaws.{all_defined}
use Rattle.order_laws.proofs.ProgressLaws.{virtual_in_groups}
use Rattle.cache_tier.specs.Commits.{live_group}
use Rattle.cache_tier.specs.Groups.{Group, covers, is_writethrough}
use Rattle.cache_tier.specs.Worlds.{World}
use Rattle.cache_tier.specs.Pending.{last_written}
use Rattle.cache_tier.specs.StandingBetween.{Stands, live_groups_of, progress_in}
use Rattle.cache_tier.proofs.GroupTables.{LiveTable, in_tree, live_table, same_found, some_place, through_live}
use Rattle.cache_tier.proofs.PartLaws.{between}
use Rattle.cache_tier.proofs.PendingRows.{all_written}
use Rattle.cache_tier.proofs.SessionLaws.{known}
use Rattle.cache_tier.proofs.ShownTables.{place_covers}
use Rattle.session_engine.specs.Inserting.{writes_key}
use Rattle.session_engine.proofs.InsertLaws.{apart_tables, or_none, some_written, none_written, split_written}

abbrev Row : Type 0
Row = List Value

-- a table among others, and one that isn't, differ
off_table : (on : List TableId) (t u : TableId) → is_one_of on t ≡ true → is_one_of on u ≡ false → nat_eq t.0 u.0 ≡ false
off_table on t u its other = by (nat_eq t.0 u.0) refl
  where
    by : (b : Bool) → nat_eq t.0 u.0 ≡ b → nat_eq t.0 u.0 ≡ false
    by false is = is
    by true is =
        let same : t ≡ u = ap (λ n. record { 0 = n }) (eqb-true t.0 u.0 is) in
        let both : true ≡ false = sym its ∙ ap (is_one_of on) same ∙ other in cc

-- the definitions of these tables are the same in both
abbrev AreDefined : List TableId → List TableDef → List TableDef → Type 0
AreDefined on d defs = (u : TableId) → is_one_of on u ≡ true → slice_get d u.0 ≡ slice_get defs u.0

-- the operations on these tables alone write the same there
on_tables : (on : List TableId) (d defs : List TableDef) (t : TableId) (key : Row) (ops : List Op) (found : Option Row) → AreDefined on d defs → is_one_of on t ≡ true → last_written d t key (ops_on on ops) found ≡ last_written defs t key ops found
on_tables on d defs t key [] found same at = refl
on_tables on d defs t key (op ∷ ops) found same at = by (is_op_on on op) refl (λ f. on_tables on d defs t key ops f same at)
  where
    by : (b : Bool) → is_op_on on op ≡ b → ((f : Option Row) → last_written d t key (ops_on on ops) f ≡ last_written defs t key ops f)
        → last_written d t key (cond b (op ∷ ops_on on ops) (ops_on on ops)) found ≡ last_written defs t key (op ∷ ops) found
    by true is rest =
        ap (λ x. last_written d t key (ops_on on ops) (cond (is_among (flat_map (written_key (table_of op) x) (rows_of op)) (record { table = t; key = key })) (row_left_by op) found)) (same (table_of op) is)
        ∙ rest (cond (is_among (written_by defs op) (record { table = t; key = key })) (row_left_by op) found)
    by false is rest =
        rest found
        ∙ sym (ap (λ b. last_written defs t key ops (cond b (row_left_by op) found)) (apart_tables defs op t key (off_table on t (table_of op) at is)))

-- operations that write a key of one of these tables are on them
writes_on : (on : List TableId) (defs : List TableDef) (t : TableId) (key : Row) (ops : List Op) → is_one_of on t ≡ true → writes_key defs ops t key ≡ true → list_any (is_op_on on) ops ≡ true
writes_on on defs t key [] at writes = cc
writes_on on defs t key (op ∷ ops) at writes = by (is_op_on on op) refl (writes_on on defs t key ops at)
  where
    by : (b : Bool) → is_op_on on op ≡ b → (writes_key defs ops t key ≡ true → list_any (is_op_on on) ops ≡ true) → (is_op_on on op || list_any (is_op_on on) ops) ≡ true
    by true is rest = ap (λ b. b || list_any (is_op_on on) ops) is
    by false is rest =
        ap (λ b. b || list_any (is_op_on on) ops) is
        ∙ rest (sym (ap (λ b. b || writes_key defs ops t key) (apart_tables defs op t key (off_table on t (table_of op) at is)))
        ∙ sym (split_written defs op ops (record { table = t; key = key })) ∙ writes)

-- lists

filter_middle : (p : Sealed → Bool) (front : List Sealed) (u : Sealed) (behind : List Sealed) → p u ≡ true → filter p (front ++ u ∷ behind) ≡ filter p front ++ u ∷ filter p behind
filter_middle p [] u behind is = ap (λ b. cond b (u ∷ filter p behind) (filter p behind)) is
filter_middle p (x ∷ front) u behind is = by (p x) (filter_middle p front u behind is)
  where
    by : (b : Bool) → filter p (front ++ u ∷ behind) ≡ filter p front ++ u ∷ filter p behind → cond b (x ∷ filter p (front ++ u ∷ behind)) (filter p (front ++ u ∷ behind)) ≡ cond b (x ∷ filter p front) (filter p front) ++ u ∷ filter p behind
    by true rest = ap (λ l. x ∷ l) rest
    by false rest = rest

filter_none : (p q : Sealed → Bool) (xs : List Sealed) → list_any q xs ≡ false → list_any q (filter p xs) ≡ false
filter_none p q [] none = refl
filter_none p q (x ∷ xs) none =
    let parts = or_none (q x) (list_any q xs) none in
    by (p x) parts.0 (filter_none p q xs parts.1)
  where
    by : (b : Bool) → q x ≡ false → list_any q (filter p xs) ≡ false → list_any q (cond b (x ∷ filter p xs) (filter p xs)) ≡ false
    by true one rest = ap (λ b. b || list_any q (filter p xs)) one ∙ rest
    by false one rest = rest

-- transactions in order, by their operations on a group's tables

module _ (on : List TableId) (d defs : List TableDef) (t : TableId) (key : Row) (same : AreDefined on d defs) (at : is_one_of on t ≡ true) where
  one_more : (ops : List Op) (z y : TableState) → applied_all (ops_on on ops) z ≡ Some y → z.schema ≡ d → row_at y t key ≡ last_written defs t key ops (row_at z t key)
  one_more ops z y is schema =
      all_written (ops_on on ops) z y t key is
      ∙ ap (λ q. last_written q t key (ops_on on ops) (row_at z t key)) schema
      ∙ on_tables on d defs t key ops (row_at z t key) same at

  schema_along : (xs : List Sealed) (z o : TableState) → state_from (map (entry_on on) (map entry_of xs)) z ≡ Some o → o.schema ≡ z.schema
  schema_along [] z o is = let e : z ≡ o = cc in ap (λ (s : TableState). s.schema) (sym e)
  schema_along (x ∷ xs) z o is =
      let (y, y_is, y_on) = between (state_from (map (entry_on on) (map entry_of xs))) (applied_all (ops_on on x.ops) z) o is in
      schema_along xs y o y_on ∙ all_defined (ops_on on x.ops) z y y_is

  none_later : (xs : List Sealed) (z o : TableState) → state_from (map (entry_on on) (map entry_of xs)) z ≡ Some o → z.schema ≡ d → list_any (λ x. writes_key defs x.ops t key) xs ≡ false → row_at o t key ≡ row_at z t key
  none_later [] z o is schema none = let e : z ≡ o = cc in ap (λ (s : TableState). row_at s t key) (sym e)
  none_later (x ∷ xs) z o is schema none =
      let (y, y_is, y_on) = between (state_from (map (entry_on on) (map entry_of xs))) (applied_all (ops_on on x.ops) z) o is in
      let parts = or_none (writes_key defs x.ops t key) (list_any (λ (x : Sealed). writes_key defs x.ops t key) xs) none in
      none_later xs y o y_on (all_defined (ops_on on x.ops) z y y_is ∙ schema) parts.1
      ∙ one_more x.ops z y y_is schema ∙ none_written defs t key x.ops (row_at z t key) parts.0

-- the last that writes the key
module _ (g : LiveGroup) (h : List Entry) (front : List Sealed) (u : Sealed) (behind : List Sealed) (v o : TableState) (defs : List TableDef) (t : TableId) (key : Row)
    (ordered : in_order g h (front ++ u ∷ behind) ≡ Some o) (agree : AgreeOn g.tables v o) (since : g.first ≤ u.ticket.0) (at : is_one_of g.tables t ≡ true) (same : AreDefined g.tables v.schema defs)
    (writes : writes_key defs u.ops t key ≡ true) (none : list_any (λ x. writes_key defs x.ops t key) behind ≡ false) where
  its : is_of_group g u ≡ true
  its = λ i. le-leb g.first u.ticket.0 since i && writes_on g.tables defs t key u.ops at writes i

  abbrev others : List Entry
  others = filter (is_other (of_group g (front ++ u ∷ behind))) h

  abbrev E : Entry → Entry
  E = entry_on g.tables

  abbrev last : List Entry
  last = E (entry_of u) ∷ map E (map entry_of (of_group g behind))

  abbrev first : List Entry
  first = map E (others ++ map entry_of (of_group g front))

  parted : map E (others ++ map entry_of (of_group g (front ++ u ∷ behind))) ≡ first ++ last
  parted =
      ap (λ l. map E (others ++ map entry_of l)) (filter_middle (is_of_group g) front u behind its)
      ∙ ap (λ l. map E (others ++ l)) (map-append entry_of (of_group g front) (u ∷ of_group g behind))
      ∙ ap (map E) (sym (append_assoc others (map entry_of (of_group g front)) (entry_of u ∷ map entry_of (of_group g behind))))
      ∙ map-append E (others ++ map entry_of (of_group g front)) (entry_of u ∷ map entry_of (of_group g behind))

  pub row_ordered : (found : Option Row) → row_at v t key ≡ last_written defs t key u.ops found
  row_ordered found =
      let leads : option_and_then (state_from last) (state_of first) ≡ Some o = sym (state_of-append first last) ∙ ap state_of (sym parted) ∙ ordered in
      let (z, z_is, z_on) = between (state_from last) (state_of first) o leads in
      let (y, y_is, y_on) = between (state_from (map E (map entry_of (of_group g behind)))) (applied_all (ops_on g.tables u.ops) z) o z_on in
      let y_schema = sym (schema_along g.tables v.schema defs t key same at (of_group g behind) y o y_on) ∙ agree.schema in
      let z_schema = sym (all_defined (ops_on g.tables u.ops) z y y_is) ∙ y_schema in
      ap (λ m. get m key) (sym (agree.rows t at))
      ∙ none_later g.tables v.schema defs t key same at (of_group g behind) y o y_on y_schema (filter_none (is_of_group g) (λ x. writes_key defs x.ops t key) behind none)
      ∙ one_more g.tables v.schema defs t key same at u.ops z y y_is z_schema
      ∙ some_written defs t key u.ops (row_at z t key) found writes

-- in a tier

has_live : (groups : List Group) (t : TableId) (g : Group) → find (covers t) groups ≡ Some g → is_writethrough g ≡ true → HasGroup (live_groups_of groups) (live_group g)
has_live [] t g found through = cc
has_live (x ∷ groups) t g found through = by (covers t x) found (has_live groups t g)
  where
    more : (b : Bool) → HasGroup (live_groups_of groups) (live_group g) → HasGroup (map live_group (cond b (x ∷ filter is_writethrough groups) (filter is_writethrough groups))) (live_group g)
    more true one = record { before = live_group x ∷ one.before; behind = one.behind; is = ap (λ l. live_group x ∷ l) one.is }
    more false one = one

    by : (b : Bool) → cond b (Some x) (find (covers t) groups) ≡ Some g → (find (covers t) groups ≡ Some g → is_writethrough g ≡ true → HasGroup (live_groups_of groups) (live_group g)) → HasGroup (live_groups_of (x ∷ groups)) (live_group g)
    by true is rest =
        let one : x ≡ g = cc in
        let writes : is_writethrough x ≡ true = ap is_writethrough one ∙ through in
        record {
          before = [];
          behind = live_groups_of groups;
          is = ap (λ b. map live_group (cond b (x ∷ filter is_writethrough groups) (filter is_writethrough groups))) writes ∙ ap (λ y. live_group y ∷ live_groups_of groups) one;
        }
    by false is rest = more (is_writethrough x) (rest is through)

-- The row of the virtual state at a key of a live table.
pub row_left : (w : World) (x : Stands w) (front : List Sealed) (u : Sealed) (behind : List Sealed) (t : TableId) (key : Row) → w.tier.log ≡ front ++ u ∷ behind → (l : LiveTable w.tier.groups t) → l.group.first ≤ u.ticket.0
    → writes_key w.tier.schema u.ops t key ≡ true → list_any (λ x. writes_key w.tier.schema x.ops t key) behind ≡ false → (found : Option Row) → row_at x.flow.stand.over.virtual t key ≡ last_written w.tier.schema t key u.ops found
row_left w x front u behind t key log l since writes none found =
    let order = virtual_in_groups (progress_in w) x.flow.stand.over (live_group l.group) (has_live w.tier.groups t l.group l.found l.through) in
    row_ordered (live_group l.group) w.history front u behind x.flow.stand.over.virtual order.ordered w.tier.schema t key
    (ap (in_order (live_group l.group) w.history) (sym log) ∙ order.leaves) order.agree since (in_tree l.group.def.tree t ∙ ap is_some l.at) same writes none found
  where
    same : AreDefined (live_group l.group).tables x.flow.stand.over.virtual.schema w.tier.schema
    same u on =
        let place = some_place _ (sym (in_tree l.group.def.tree u) ∙ on) in
        let there = same_found w.tier.groups t u l.group x.catalog.apart l.found (place_covers l.group u place.0 place.1) in
        sym ((known w x).part.defined u (live_table w.tier.groups u ∙ through_live w.tier.groups u l.group there l.through))
