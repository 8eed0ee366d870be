-- Steps of the loops that fill a store.
use Rattle.std.proofs.Common.{◌≡◌, ◌≤◌, ◌<◌, ℕ, zero, suc, ◌+◌, Option, Some, None, Result, Ok, Err, OnOk, List, [], ◌∷◌, ◌++◌, length, map, get_or, slice_get, take, drop, unwrap_or, refl, sym, ap, subst, ◌∙◌, arith}
use Rattle.std.specs.Option.{option_map}
use Rattle.std.specs.FinMap as fm
use Rattle.std.specs.FinMap.{empty}
use Rattle.row_types.specs.declared.value.Value.{Value}
use Rattle.table_defs.specs.declared.definition.TableDef.{TableDef}
use Rattle.indexed_rows.specs.Rows.{Table}
use Rattle.instances.specs.declared.tree.Child.{Child}
use Rattle.instances.specs.declared.tree.Tree.{Tree}
use Rattle.instances.specs.Trees.{table_of}
use Rattle.instances.specs.Views.{child_rows, kept_at, with_children}
use Rattle.table_state.specs.Tables.{TableState}
use Rattle.group_store.specs.Keeping.{layer_for, primary_of}
use Rattle.group_store.specs.Stores.{AddsChild, IsNewStore, Kept, SameButSpare, put_rows, put_store, put_tables}
use Rattle.group_store.specs.Shown.{foreign_key_of}
use Rattle.group_store.specs.Trees.{key_at}
use Rattle.stored_tier.proofs.StoreForms.{layers_put, row_more, same_rows, table_more}
use Rattle.stored_tier.specs.Filling.{bare_front, bare_store, parent_key}

-- lists by place

drop_step : {X : Type 0} (xs : List X) (i : ℕ) (x : X) → slice_get xs i ≡ Some x → drop i xs ≡ x ∷ drop (suc i) xs
drop_step [] i x at = cc
drop_step (y ∷ xs) zero x at = let same : y ≡ x = cc in λ i. same i ∷ xs
drop_step (y ∷ xs) (suc i) x at = drop_step xs i x at

pub drop_one : {X : Type 0} (xs : List X) (i : ℕ) (x : X) → slice_get xs i ≡ Some x → drop i xs ≡ x ∷ drop (i + 1) xs
drop_one xs i x at = let z : suc i ≡ i + 1 = omega arith in drop_step xs i x at ∙ ap (λ n. x ∷ drop n xs) z

pub drop_past : {X : Type 0} (xs : List X) (i : ℕ) → length xs ≤ i → drop i xs ≡ []
drop_past [] zero le = refl
drop_past [] (suc i) le = refl
drop_past (x ∷ xs) zero le = absurd (omega (arith, le))
drop_past (x ∷ xs) (suc i) le = drop_past xs i (omega (arith, le))

pub mapped_at : {X Y : Type 0} (f : X → Y) (xs : List X) (i : ℕ) (x : X) → slice_get xs i ≡ Some x → slice_get (map f xs) i ≡ Some (f x)
mapped_at f [] i x at = cc
mapped_at f (y ∷ xs) zero x at = let same : y ≡ x = cc in ap (λ z. Some (f z)) same
mapped_at f (y ∷ xs) (suc i) x at = mapped_at f xs i x at

take_step : {X : Type 0} (xs : List X) (i : ℕ) (x : X) → slice_get xs i ≡ Some x → take (suc i) xs ≡ take i xs ++ x ∷ []
take_step [] i x at = cc
take_step (y ∷ xs) zero x at = let same : y ≡ x = cc in λ i. same i ∷ []
take_step (y ∷ xs) (suc i) x at = ap (λ l. y ∷ l) (take_step xs i x at)

pub take_one : {X : Type 0} (xs : List X) (i : ℕ) (x : X) → slice_get xs i ≡ Some x → take (i + 1) xs ≡ take i xs ++ x ∷ []
take_one xs i x at = let z : i + 1 ≡ suc i = omega arith in ap (λ n. take n xs) z ∙ take_step xs i x at

pub take_past : {X : Type 0} (xs : List X) (i : ℕ) → length xs ≤ i → take i xs ≡ xs
take_past [] zero le = refl
take_past [] (suc i) le = refl
take_past (x ∷ xs) zero le = absurd (omega (arith, le))
take_past (x ∷ xs) (suc i) le = ap (λ l. x ∷ l) (take_past xs i (omega (arith, le)))

map_last : {X Y : Type 0} (f : X → Y) (xs : List X) (x : X) → map f (xs ++ x ∷ []) ≡ map f xs ++ f x ∷ []
map_last f [] x = refl
map_last f (y ∷ xs) x = ap (λ l. f y ∷ l) (map_last f xs x)

-- the rows of one table

pub one_row : (place : ℕ) (rows : List (List Value)) (i : ℕ) (row : List Value) (start now next : Kept) → slice_get rows i ≡ Some row → SameButSpare start (put_rows place (drop i rows) now) → SameButSpare (put_store place row now) next
    → SameButSpare start (put_rows place (drop (i + 1) rows) next)
one_row place rows i row start now next at before one = row_more place (drop i rows) (drop (i + 1) rows) row (drop_one rows i row at) start now next before one

pub all_rows : (place : ℕ) (rows : List (List Value)) (i : ℕ) (start now : Kept) → length rows ≤ i → SameButSpare start (put_rows place (drop i rows) now) → SameButSpare start now
all_rows place rows i start now le same = subst (λ l. SameButSpare start (put_rows place l now)) (drop_past rows i le) same

-- the tables

pub one_table : (rows : List Table) (i : ℕ) (t : Table) (start now next : Kept) → slice_get rows i ≡ Some t → SameButSpare start (put_tables i (map fm.values (drop i rows)) now) → SameButSpare (put_rows i (fm.values t) now) next
    → SameButSpare start (put_tables (i + 1) (map fm.values (drop (i + 1) rows)) next)
one_table rows i t start now next at before one =
    table_more i (map fm.values (drop i rows)) (map fm.values (drop (i + 1) rows)) (fm.values t) (ap (map fm.values) (drop_one rows i t at)) start now next before one

pub all_tables : (rows : List Table) (i : ℕ) (start now : Kept) → length rows ≤ i → SameButSpare start (put_tables i (map fm.values (drop i rows)) now) → SameButSpare start now
all_tables rows i start now le same = subst (λ l. SameButSpare start (put_tables i (map fm.values l) now)) (drop_past rows i le) same

pub layers_kept : (place : ℕ) (rows : List (List Value)) (now next : Kept) → SameButSpare (put_rows place rows now) next → length next.layers ≡ length now.layers
layers_kept place rows now next same = ap length (same.layers ∙ layers_put place rows now)

-- the children

map_at : {X Y : Type 0} (f : X → Y) (n : ℕ) (xs : List X) (i : ℕ) → i < n → slice_get (map f (take n xs)) i ≡ option_map f (slice_get xs i)
map_at f zero xs i lt = absurd (omega (arith, lt))
map_at f (suc n) [] i lt = refl
map_at f (suc n) (x ∷ xs) zero lt = refl
map_at f (suc n) (x ∷ xs) (suc i) lt = map_at f n xs i (omega (arith, lt))

key_there : (schema : List TableDef) (tree : Tree) (place parent : ℕ) → parent ≤ place → key_at (primary_of schema tree.root.table) (map (layer_for schema) (take place tree.children)) parent ≡ parent_key schema (table_of tree parent)
key_there schema tree place zero le = refl
key_there schema tree place (suc i) le = ap (λ o. unwrap_or (option_map (λ l. l.key) o) []) (map_at (layer_for schema) place tree.children i (omega (arith, le))) ∙ by (slice_get tree.children i)
  where
    by : (o : Option Child) → unwrap_or (option_map (λ l. l.key) (option_map (layer_for schema) o)) [] ≡ parent_key schema (option_map (λ c. c.table) o)
    by None = refl
    by (Some c) = refl

pub parent_long : (schema : List TableDef) (tree : Tree) (place parent : ℕ) (s : Kept) → parent ≤ place → SameButSpare (bare_front schema tree (take place tree.children)) s → length (key_at s.key s.layers parent) ≡ length (parent_key schema (table_of tree parent))
parent_long schema tree place parent s le front =
    (λ i. length (key_at (front.key i) (front.layers i) parent)) ∙ ap length (key_there schema tree place parent le)

pub layers_long : (schema : List TableDef) (tree : Tree) (place : ℕ) (s : Kept) → place ≤ length tree.children → SameButSpare (bare_front schema tree (take place tree.children)) s → length s.layers ≡ place
layers_long schema tree place s le front = ap length front.layers ∙ mapped place tree.children le
  where
    mapped : (n : ℕ) (cs : List Child) → n ≤ length cs → length (map (layer_for schema) (take n cs)) ≡ n
    mapped zero cs le = refl
    mapped (suc n) [] le = absurd (omega (arith, le))
    mapped (suc n) (c ∷ cs) le = ap suc (mapped n cs (omega (arith, le)))

pub child_added : (schema : List TableDef) (tree : Tree) (place : ℕ) (c : Child) (old new : Kept) → slice_get tree.children place ≡ Some c → SameButSpare (bare_front schema tree (take place tree.children)) old → AddsChild old new (layer_for schema c)
    → SameButSpare (bare_front schema tree (take (place + 1) tree.children)) new
child_added schema tree place c old new at front adds =
    let more = take_one tree.children place c at in
    record {
      table = adds.table ∙ front.table;
      key = adds.key ∙ front.key;
      foreign = adds.foreign ∙ front.foreign;
      layers = adds.layers ∙ ap (λ l. l ++ layer_for schema c ∷ []) front.layers ∙ sym (map_last (layer_for schema) (take place tree.children) c) ∙ ap (map (layer_for schema)) (sym more);
      tables = adds.tables ∙ ap (λ l. l ++ empty ∷ []) front.tables ∙ ap (λ l. empty ∷ l) (sym (map_last (λ (x : Child). empty) (take place tree.children) c)) ∙ ap (λ l. empty ∷ map (λ (x : Child). empty) l) (sym more);
      keys = adds.keys ∙ front.keys;
    }

pub no_child_yet : (schema : List TableDef) (tree : Tree) (s : Kept) → IsNewStore tree.root.table (primary_of schema tree.root.table) (foreign_key_of schema tree.root.table) s → SameButSpare (bare_front schema tree (take 0 tree.children)) s
no_child_yet schema tree s new = record { table = new.table; key = new.key; foreign = new.foreign; layers = new.layers; tables = new.tables; keys = new.keys }

pub each_child : (schema : List TableDef) (tree : Tree) (place : ℕ) (s : Kept) → length tree.children ≤ place → SameButSpare (bare_front schema tree (take place tree.children)) s → SameButSpare (bare_store schema tree) s
each_child schema tree place s le front = subst (λ l. SameButSpare (bare_front schema tree l) s) (take_past tree.children place le) front

-- small steps

pub begun_rows : (place : ℕ) (rows : List (List Value)) (old now : Kept) → SameButSpare old now → SameButSpare (put_rows place rows old) (put_rows place (drop 0 rows) now)
begun_rows place rows old now same = subst (λ l. SameButSpare (put_rows place rows old) (put_rows place l now)) (sym (drop_none rows)) (same_rows place rows old now same)
  where
    drop_none : (l : List (List Value)) → drop 0 l ≡ l
    drop_none [] = refl
    drop_none (x ∷ l) = refl

pub put_long : (place : ℕ) (row : List Value) (now next : Kept) → SameButSpare (put_store place row now) next → length next.layers ≡ length now.layers
put_long place row now next same = ap length same.layers

mapped_long : {X Y : Type 0} (f : X → Y) (xs : List X) → length (map f xs) ≡ length xs
mapped_long f [] = refl
mapped_long f (x ∷ xs) = ap suc (mapped_long f xs)

pub values_long : (t : Table) → length (fm.values t) ≡ fm.len t
values_long t = mapped_long (λ e. e.1) (fm.entries t) ∙ sym (fm.len-entries t)

pub at_index : {X : Type 0} (xs : List X) (i : ℕ) (x : X) → i < length xs → x ≡ get_or xs i x → slice_get xs i ≡ Some x
at_index {X = X} xs i x lt is = by xs i lt ∙ ap (λ y. Some y) (sym is)
  where
    by : (ys : List X) (k : ℕ) → k < length ys → slice_get ys k ≡ Some (get_or ys k x)
    by [] k lt = absurd (omega (arith, lt))
    by (y ∷ ys) zero lt = refl
    by (y ∷ ys) (suc k) lt = by ys k (omega (arith, lt))

pub if_ok : {T E : Type 0} {P Q : Type 0} (r : Result T E) → (P → Q) → OnOk r P → OnOk r Q
if_ok (Ok x) f p = f p
if_ok (Err e) f p = tt

pub adds_so : (schema : List TableDef) (c : Child) (old new : Kept) (key foreign : List ℕ) → key ≡ primary_of schema c.table → foreign ≡ foreign_key_of schema c.table
    → AddsChild old new (record { table = c.table; key = key; foreign = foreign; parent = c.parent }) → AddsChild old new (layer_for schema c)
adds_so schema c old new key foreign key_is foreign_is adds = record {
  table = adds.table;
  key = adds.key;
  foreign = adds.foreign;
  layers = adds.layers ∙ (λ i. old.layers ++ record { table = c.table; key = key_is i; foreign = foreign_is i; parent = c.parent } ∷ []);
  tables = adds.tables;
  keys = adds.keys;
}

pub children_long : (s : TableState) (children : List Child) (kept : List Table) → length (with_children s children kept) ≡ length kept + length children
children_long s [] kept = let z : length kept ≡ length kept + 0 = omega arith in z
children_long s (c ∷ children) kept =
    let rest = children_long s children (kept ++ child_rows s (kept_at kept c.parent) c ∷ []) in
    let more = longer kept (child_rows s (kept_at kept c.parent) c) in
    omega (arith, rest, more)
  where
    longer : (ts : List Table) (t : Table) → length (ts ++ t ∷ []) ≡ suc (length ts)
    longer [] t = refl
    longer (x ∷ ts) t = ap suc (longer ts t)
