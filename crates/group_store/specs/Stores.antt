-- What a cache group keeps, and what becomes of it. (TimesTen Cache User's Guide, "Cache groups" and "Implementing
-- aging in a cache group".)
use Rattle.std.specs.Prelude.{◌≡◌, ℕ, suc, List, [], ◌∷◌, ◌++◌, ◌+◌, Option, Some, None, true, filter, length, nat_eq, position, refl, slice_get, if◌then◌else◌}
use Rattle.std.specs.Option.{option_map}
use Rattle.std.specs.Coded.{Coded, code_by, coded×, coded_list, coded_ℕ}
use Rattle.std.specs.FinMap as fm
use Rattle.slot_rows.specs.row_types.specs.declared.value.Value.{Value}
use Rattle.slot_rows.specs.tier_base.specs.declared.number.TableId.{TableId}
use Rattle.slot_rows.specs.tier_base.specs.contracts.number.TableId as id
use Rattle.slot_rows.specs.indexed_rows.specs.Rows.{Table, is_same, key_of, put_in, put_over}
use Rattle.cache_store.specs.table_state.specs.declared.operation.Op.{Op}
use Rattle.cache_store.specs.table_state.specs.declared.operation.Op.TheVariants.{Delete, Insert, Update}
use Rattle.cache_store.specs.instances.specs.Trees.{same_table}
use Rattle.cache_store.specs.instances.specs.Views.{kept_at}
use Rattle.cache_store.specs.recency.specs.Rings.{keys_without, touched}
use Rattle.cache_store.specs.Operating.{change_at}
use Rattle.cache_store.specs.Shown.{is_among}
use Rattle.group_store.specs.Recent.{entered_last, row_code}
use Rattle.group_store.specs.Trees.{Layer, all_empty, cut_from, foreign_at, key_at}

-- The root table, the columns of its key and of its foreign key, where it has one; the child tables; the rows of each
-- table by primary key, the root's first; the root keys, with the one first that was not used for longest; and how many
-- more rows go in without memory.
pub record Kept : Type 0 where
  pub table : TableId
  pub key : List ℕ
  pub foreign : List ℕ
  pub layers : List Layer
  pub tables : List Table
  pub keys : List (List Value)
  pub spare : ℕ

abbrev pub columns_code : Coded (List ℕ)
columns_code = coded_list coded_ℕ

abbrev pub layer_code : Coded Layer
layer_code =
    code_by (TableId × (List ℕ × (List ℕ × ℕ)))
    (coded× id.the_row.coded (coded× columns_code (coded× columns_code coded_ℕ)))
    (λ l. (l.table, (l.key, (l.foreign, l.parent))))
    (λ p. record { table = p.0; key = p.1.0; foreign = p.1.1.0; parent = p.1.1.1 }) (λ _. refl)

-- the tables and the keys of a store
abbrev pub rows_code : Coded (List Table × List (List Value))
rows_code = coded× (coded_list (fm.code row_code row_code)) (coded_list row_code)

abbrev pub kept_code : Coded Kept
kept_code =
    code_by (TableId × (List ℕ × (List ℕ × (List Layer × ((List Table × List (List Value)) × ℕ)))))
    (coded× id.the_row.coded
    (coded× columns_code (coded× columns_code (coded× (coded_list layer_code) (coded× rows_code coded_ℕ)))))
    (λ s. (s.table, (s.key, (s.foreign, (s.layers, ((s.tables, s.keys), s.spare))))))
    (λ p. record {
      table = p.0;
      key = p.1.0;
      foreign = p.1.1.0;
      layers = p.1.1.1.0;
      tables = p.1.1.1.1.0.0;
      keys = p.1.1.1.1.0.1;
      spare = p.1.1.1.1.1;
    }) (λ _. refl)

-- the place of a table in the tree, none where the tree doesn't have it
abbrev pub place_in : Kept → TableId → Option ℕ
place_in s t =
    if same_table s.table t then Some 0 else option_map suc (position (λ l. same_table l.table t) s.layers)

-- the columns of the primary key, and of the foreign key, of the table at a place
abbrev pub key_columns : Kept → ℕ → List ℕ
key_columns s place = key_at s.key s.layers place

abbrev pub foreign_columns : Kept → ℕ → List ℕ
foreign_columns s place = foreign_at s.foreign s.layers place

-- all but the room is the same
pub record SameButSpare (old new : Kept) : Type 0 where
  pub table : new.table ≡ old.table
  pub key : new.key ≡ old.key
  pub foreign : new.foreign ≡ old.foreign
  pub layers : new.layers ≡ old.layers
  pub tables : new.tables ≡ old.tables
  pub keys : new.keys ≡ old.keys

-- the keys in the order of last use are those of the root rows, each once
pub record HasRootKeys (s : Kept) : Type 0 where
  pub are : (key : List Value) → is_among s.keys key ≡ fm.contains_key (kept_at s.tables 0) key
  pub once : (key : List Value) → fm.contains_key (kept_at s.tables 0) key ≡ true
      → filter (is_same key) s.keys ≡ key ∷ []

-- a root table with these columns and without rows
pub record IsNewStore (root : TableId) (primary columns : List ℕ) (s : Kept) : Type 0 where
  pub table : s.table ≡ root
  pub key : s.key ≡ primary
  pub foreign : s.foreign ≡ columns
  pub layers : s.layers ≡ []
  pub tables : s.tables ≡ fm.empty ∷ []
  pub keys : s.keys ≡ []

-- another child table without rows
pub record AddsChild (old new : Kept) (layer : Layer) : Type 0 where
  pub table : new.table ≡ old.table
  pub key : new.key ≡ old.key
  pub foreign : new.foreign ≡ old.foreign
  pub layers : new.layers ≡ old.layers ++ layer ∷ []
  pub tables : new.tables ≡ old.tables ++ fm.empty ∷ []
  pub keys : new.keys ≡ old.keys

-- a key becomes the newest
abbrev pub touched_store : List Value → Kept → Kept
touched_store key s = record s { keys = touched is_same key s.keys }

-- without a row and all that leads to it; a root row's key goes too
abbrev pub cut_store : ℕ → List Value → Kept → Kept
cut_store place key s =
    record s {
      tables = cut_from s.layers s.tables place key;
      keys = (if nat_eq place 0 then keys_without is_same key s.keys else s.keys);
    }

-- with one more row, where its key has none
abbrev pub put_store : ℕ → List Value → Kept → Kept
put_store place row s =
    record s {
      tables = change_at place (λ t. put_in t (key_of (key_at s.key s.layers place) row) row) s.tables;
      keys = (if nat_eq place 0 then entered_last (kept_at s.tables 0) (key_of s.key row) s.keys else s.keys);
    }

-- with more rows, one after another
abbrev pub put_rows : ℕ → List (List Value) → Kept → Kept
put_rows place [] s = s
put_rows place (row ∷ rows) s = put_rows place rows (put_store place row s)

-- with the rows of an instance, those of each table from a place of the tree on
abbrev pub put_tables : ℕ → List (List (List Value)) → Kept → Kept
put_tables place [] s = s
put_tables place (rows ∷ tables) s = put_tables (suc place) tables (put_rows place rows s)

-- the first of the tables is one row of this key, which these columns are
pub record IsInstanceUnder (columns : List ℕ) (root : List Value) (tables : List (List (List Value))) : Type 0 where
  pub row : List Value
  pub first : slice_get tables 0 ≡ Some (row ∷ [])
  pub key : key_of columns row ≡ root

-- with these rows in place of a root's instance; the keys stay in the order of last use
abbrev pub renewed_store : List Value → List (List (List Value)) → Kept → Kept
renewed_store root tables s = record (put_tables 0 tables (cut_store 0 root s)) { keys = s.keys }

-- how many rows they are
abbrev pub count_all : List (List (List Value)) → ℕ
count_all [] = 0
count_all (rows ∷ tables) = length rows + count_all tables

-- without any rows
abbrev pub cleared_store : Kept → Kept
cleared_store s = record s { tables = all_empty s.tables; keys = [] }

-- with a row over the one of its key
abbrev pub replace_store : ℕ → List Value → Kept → Kept
replace_store place row s =
    record s { tables = change_at place (λ t. put_over t (key_of (key_at s.key s.layers place) row) row) s.tables }

-- without the row of a row's key
abbrev pub take_store : ℕ → List Value → Kept → Kept
take_store place row s =
    record s {
      tables = change_at place (λ t. fm.remove t (key_of (key_at s.key s.layers place) row)) s.tables;
      keys = (if nat_eq place 0 then keys_without is_same (key_of s.key row) s.keys else s.keys);
    }

-- at the place of a table, where the tree has it
abbrev pub at_place : Option ℕ → (ℕ → Kept → Kept) → Kept → Kept
at_place None change s = s
at_place (Some place) change s = change place s

-- what one operation makes of it; nothing where the tree doesn't have the table
abbrev pub op_done : Op → Kept → Kept
op_done (Insert t row) s = at_place (place_in s t) (λ place. put_store place row) s
op_done (Update t old row) s = at_place (place_in s t) (λ place. replace_store place row) s
op_done (Delete t row) s = at_place (place_in s t) (λ place. take_store place row) s

-- one after another
abbrev pub ops_done : List Op → Kept → Kept
ops_done [] s = s
ops_done (op ∷ ops) s = ops_done ops (op_done op s)
