-- A state that has some of another's rows: of a table with a foreign key those whose parent it has.
use Rattle.std.proofs.Common.{◌≡◌, ℕ, zero, suc, ◌<◌, Bool, true, false, cond, not, ◌&&◌, ◌||◌, nat_eq, Option, Some, None, is_some, List, [], ◌∷◌, length, slice_get, unwrap_or, refl, sym, ap, subst, ◌∙◌, arith, eq-eqb, eqb-true}
use Rattle.std.specs.Option.{option_and_then}
use Rattle.std.specs.List.{list_any}
use Rattle.std.specs.FinMap as fm
use Rattle.std.specs.FinMap.{empty}
use Rattle.row_types.specs.declared.value.Value.{Value}
use Rattle.tier_base.specs.declared.number.TableId.{TableId}
use Rattle.table_defs.specs.declared.definition.ForeignKey.{ForeignKey}
use Rattle.table_defs.specs.declared.definition.TableDef.{TableDef}
use Rattle.indexed_rows.specs.Rows.{Table, is_same, key_of}
use Rattle.indexed_rows.proofs.EntryLaws.{read, same_itself, same_values, there}
use Rattle.table_state.specs.declared.operation.Op.{Op}
use Rattle.table_state.specs.declared.operation.Op.TheVariants.{Insert, Update, Delete}
use Rattle.table_state.specs.Independence.{IsWhole}
use Rattle.table_state.specs.Operations.{applied, applied_all, table_of}
use Rattle.table_state.specs.Sound.{IsLinked}
use Rattle.table_state.specs.Tables.{TableState, fits_columns, has_child, has_child_in, has_parent, is_found, is_there, names_parent, table_at}
use Rattle.table_state.specs.Copies.{is_one_of}
use Rattle.table_state.proofs.ChangeLaws.{row_found}
use Rattle.table_state.proofs.IndependenceLaws.{stays_whole}
use Rattle.table_state.proofs.SoundLaws.{keeps_linked}
use Rattle.order_laws.specs.Commits.{is_op_on}
use Rattle.order_laws.specs.Effects.{row_at, row_left_by}
use Rattle.order_laws.specs.Sides.{IsClosed, are_on}
use Rattle.order_laws.proofs.MapLaws.{any_there, passes, there_any}
use Rattle.order_laws.proofs.StepLaws.{Applies, after, asks, key_in, is_none, parts, row_after, same_schema, whole as whole_applies}
use Rattle.order_laws.proofs.TruthLaws.{both_true, never_both, not_both, or_true, same_some, untrue}

abbrev pub Row : Type 0
Row = List Value

-- On these tables the second state has rows of the first: of a table with a foreign key those whose parent row it has.
pub record IsClosedPart (on : List TableId) (v s : TableState) : Type 0 where
  pub defined : (t : TableId) → is_one_of on t ≡ true → slice_get s.schema t.0 ≡ slice_get v.schema t.0
  pub within : (t : TableId) (k row : Row) → is_one_of on t ≡ true → row_at s t k ≡ Some row → row_at v t k ≡ Some row
  pub families : (t : TableId) (def : TableDef) (f : ForeignKey) (k row : Row) → is_one_of on t ≡ true
      → slice_get v.schema t.0 ≡ Some def → def.foreign_key ≡ Some f → row_at v t k ≡ Some row
      → is_some (row_at s t k) ≡ is_some (row_at s f.parent (key_of f.columns row))

-- children by their rows

pub child_there : (schema : List TableDef) (tables : List Table) (t : TableId) (key : Row) (u : ℕ) (def : TableDef) (k row : Row) → slice_get schema u ≡ Some def
    → fm.get (unwrap_or (slice_get tables u) empty) k ≡ Some row → names_parent t key def.foreign_key row ≡ true → has_child_in schema tables t key ≡ true
child_there [] tables t key u def k row d is named = Prim.cc
child_there (f ∷ defs) [] t key u def k row d is named = let none : None ≡ Some row = sym (fm.get-empty _ k) ∙ is in Prim.cc
child_there (f ∷ defs) (m ∷ tables) t key zero def k row d is named =
    let same : f ≡ def = Prim.cc in
    ap (λ b. b || has_child_in defs tables t key) (there_any (names_parent t key f.foreign_key) m k (ap (passes (names_parent t key f.foreign_key)) is ∙ ap (λ (g : TableDef). names_parent t key g.foreign_key row) same ∙ named))
child_there (f ∷ defs) (m ∷ tables) t key (suc u) def k row d is named =
    ap (λ b. list_any (names_parent t key f.foreign_key) (fm.values m) || b) (child_there defs tables t key u def k row d is named) ∙ or_true (list_any (names_parent t key f.foreign_key) (fm.values m))

pub record ChildOf (schema : List TableDef) (tables : List Table) (t : TableId) (key : Row) : Type 0 where
  pub place : ℕ
  pub def : TableDef
  pub k : Row
  pub row : Row
  pub defined : slice_get schema place ≡ Some def
  pub is : fm.get (unwrap_or (slice_get tables place) empty) k ≡ Some row
  pub names : names_parent t key def.foreign_key row ≡ true

passed : (p : Row → Bool) (o : Option Row) → passes p o ≡ true → (row : Row) × (o ≡ Some row) × (p row ≡ true)
passed p None e = Prim.cc
passed p (Some row) e = (row, refl, e)

pub child_found : (schema : List TableDef) (tables : List Table) (t : TableId) (key : Row) → has_child_in schema tables t key ≡ true → ChildOf schema tables t key
child_found [] tables t key e = Prim.cc
child_found (f ∷ defs) [] t key e = Prim.cc
child_found (f ∷ defs) (m ∷ tables) t key e = by (list_any (names_parent t key f.foreign_key) (fm.values m)) refl e (child_found defs tables t key)
  where
    by : (b : Bool) → list_any (names_parent t key f.foreign_key) (fm.values m) ≡ b → (b || has_child_in defs tables t key) ≡ true → (has_child_in defs tables t key ≡ true → ChildOf defs tables t key) → ChildOf (f ∷ defs) (m ∷ tables) t key
    by true is h rest =
        let (k, good) = any_there (names_parent t key f.foreign_key) m is in
        let (row, at, named) = passed (names_parent t key f.foreign_key) (fm.get m k) good in
        record { place = 0; def = f; k = k; row = row; defined = refl; is = at; names = named }
    by false is h rest = let c = rest h in record { place = suc c.place; def = c.def; k = c.k; row = c.row; defined = c.defined; is = c.is; names = c.names }

same_id : (t u : TableId) → t.0 ≡ u.0 → t ≡ u
same_id t u e = λ i. record { 0 = e i }

-- what one operation asks of another state

-- it inserts a row
abbrev inserts : Op → Bool
inserts (Insert t row) = true
inserts (Update t old new) = false
inserts (Delete t old) = false

-- the key that it writes has no row before it where it inserts, and one else
pub found_before : (op : Op) (s : TableState) (def : TableDef) (table : Table) → asks op s def table ≡ true → is_some (fm.get table (key_in def op)) ≡ not (inserts op)
found_before (Insert t new) s def table asked =
    ap is_some (is_none (fm.get table (key_of def.primary_key new)) (both_true (fits_columns def.columns new) _ (both_true _ (has_parent s def.foreign_key new) asked).0).1)
found_before (Update t old new) s def table asked =
    let first = (both_true _ (has_parent s def.foreign_key new) asked).0 in
    let second = both_true (fits_columns def.columns new && is_same (key_of def.primary_key old) (key_of def.primary_key new)) (is_there def old table) first in
    let keys : key_of def.primary_key old ≡ key_of def.primary_key new = same_values _ _ (both_true (fits_columns def.columns new) _ second.0).1 in
    ap (λ k. is_some (fm.get table k)) (sym keys) ∙ ap is_some (row_found old (fm.get table (key_of def.primary_key old)) second.1)
found_before (Delete t old) s def table asked =
    ap is_some (row_found old (fm.get table (key_of def.primary_key old)) (both_true (is_there def old table) _ asked).0)

-- the row that it leaves has its parent
asked_parent : (op : Op) (s : TableState) (def : TableDef) (table : Table) → asks op s def table ≡ true → (row : Row) → row_left_by op ≡ Some row → has_parent s def.foreign_key row ≡ true
asked_parent (Insert t new) s def table asked row e = let same : new ≡ row = Prim.cc in ap (has_parent s def.foreign_key) (sym same) ∙ (both_true _ (has_parent s def.foreign_key new) asked).1
asked_parent (Update t old new) s def table asked row e = let same : new ≡ row = Prim.cc in ap (has_parent s def.foreign_key) (sym same) ∙ (both_true _ (has_parent s def.foreign_key new) asked).1
asked_parent (Delete t old) s def table asked row e = Prim.cc

-- where it leaves no row, no row refers to its key
asked_childless : (op : Op) (s : TableState) (def : TableDef) (table : Table) → asks op s def table ≡ true → row_left_by op ≡ None → has_child s (table_of op) (key_in def op) ≡ false
asked_childless (Insert t new) s def table asked e = Prim.cc
asked_childless (Update t old new) s def table asked e = Prim.cc
asked_childless (Delete t old) s def table asked e = untrue (has_child s t (key_of def.primary_key old)) (both_true (is_there def old table) _ asked).1

-- the row that it writes over, or takes out, is there
abbrev pub AsksFor : Op → TableDef → TableState → Type 0
AsksFor (Insert t row) def s = row_at s t (key_of def.primary_key row) ≡ None
AsksFor (Update t old new) def s = Unit {0}
AsksFor (Delete t old) def s = has_child s t (key_of def.primary_key old) ≡ false

both : (a b : Bool) → a ≡ true → b ≡ true → (a && b) ≡ true
both a b x y = λ i. x i && y i

pub table_is : (s : TableState) (t : TableId) (m : Table) → slice_get s.tables t.0 ≡ Some m → m ≡ table_at s t
table_is s t m e = ap (λ o. unwrap_or o empty) (sym e)

found_there : (old : Row) (o : Option Row) → o ≡ Some old → is_found old o ≡ true
found_there old o e = ap (is_found old) e ∙ same_itself old old refl

-- what one state lets through, another does that has its rows, where what is new there is new here and what has no child there has none here
module _ (on : List TableId) (a b : TableState) (below : (t : TableId) (k row : Row) → is_one_of on t ≡ true → row_at a t k ≡ Some row → row_at b t k ≡ Some row) where
  parent_below : (f : Option ForeignKey) (row : Row) → ((foreign : ForeignKey) → f ≡ Some foreign → is_one_of on foreign.parent ≡ true) → has_parent a f row ≡ true → has_parent b f row ≡ true
  parent_below None row inside e = refl
  parent_below (Some foreign) row inside e = by (row_at a foreign.parent (key_of foreign.columns row)) refl e
    where
      by : (o : Option Row) → row_at a foreign.parent (key_of foreign.columns row) ≡ o → is_some o ≡ true → is_some (row_at b foreign.parent (key_of foreign.columns row)) ≡ true
      by None is h = Prim.cc
      by (Some r) is h = ap is_some (below foreign.parent (key_of foreign.columns row) r (inside foreign refl) is)

  there_below : (t : TableId) (def : TableDef) (old : Row) (m n : Table) → is_one_of on t ≡ true → slice_get a.tables t.0 ≡ Some m → slice_get b.tables t.0 ≡ Some n → is_there def old m ≡ true → is_there def old n ≡ true
  there_below t def old m n in_on x y e =
      let k = key_of def.primary_key old in
      let was : row_at a t k ≡ Some old = ap (λ (z : Table). fm.get z k) (sym (table_is a t m x)) ∙ row_found old (fm.get m k) e in
      found_there old (fm.get n k) (ap (λ (z : Table). fm.get z k) (table_is b t n y) ∙ below t k old in_on was)

  asks_below : (op : Op) (def : TableDef) (m n : Table) → is_op_on on op ≡ true → ((foreign : ForeignKey) → def.foreign_key ≡ Some foreign → is_one_of on foreign.parent ≡ true) → slice_get a.tables (table_of op).0 ≡ Some m → slice_get b.tables (table_of op).0 ≡ Some n
      → AsksFor op def b → asks op a def m ≡ true → asks op b def n ≡ true
  asks_below (Insert t row) def m n mine inside x y new e =
      let outer = both_true (fits_columns def.columns row && not (fm.contains_key m (key_of def.primary_key row))) (has_parent a def.foreign_key row) e in
      let fits = (both_true (fits_columns def.columns row) (not (fm.contains_key m (key_of def.primary_key row))) outer.0).0 in
      both (fits_columns def.columns row && not (fm.contains_key n (key_of def.primary_key row))) (has_parent b def.foreign_key row)
      (both (fits_columns def.columns row) (not (fm.contains_key n (key_of def.primary_key row))) fits (ap (λ o. not (is_some o)) (ap (λ (z : Table). fm.get z (key_of def.primary_key row)) (table_is b t n y) ∙ new)))
      (parent_below def.foreign_key row inside outer.1)
  asks_below (Update t old row) def m n mine inside x y new e =
      let outer = both_true (fits_columns def.columns row && is_same (key_of def.primary_key old) (key_of def.primary_key row) && is_there def old m) (has_parent a def.foreign_key row) e in
      let inner = both_true (fits_columns def.columns row && is_same (key_of def.primary_key old) (key_of def.primary_key row)) (is_there def old m) outer.0 in
      both (fits_columns def.columns row && is_same (key_of def.primary_key old) (key_of def.primary_key row) && is_there def old n) (has_parent b def.foreign_key row)
      (both (fits_columns def.columns row && is_same (key_of def.primary_key old) (key_of def.primary_key row)) (is_there def old n) inner.0 (there_below t def old m n mine x y inner.1))
      (parent_below def.foreign_key row inside outer.1)
  asks_below (Delete t old) def m n mine inside x y new e =
      let outer = both_true (is_there def old m) (not (has_child a t (key_of def.primary_key old))) e in
      both (is_there def old n) (not (has_child b t (key_of def.primary_key old))) (there_below t def old m n mine x y outer.0) (ap not new)

-- so it goes over to the other
pub goes_below : (on : List TableId) (op : Op) (a b a' : TableState) → ((t : TableId) (k row : Row) → is_one_of on t ≡ true → row_at a t k ≡ Some row → row_at b t k ≡ Some row)
    → ((t : TableId) (def : TableDef) (f : ForeignKey) → is_one_of on t ≡ true → slice_get a.schema t.0 ≡ Some def → def.foreign_key ≡ Some f → is_one_of on f.parent ≡ true) → is_op_on on op ≡ true → IsWhole b → slice_get b.schema (table_of op).0 ≡ slice_get a.schema (table_of op).0 → (x : Applies op a a') → AsksFor op x.def b
    → (b' : TableState) × (y : Applies op b b') × (y.def ≡ x.def)
goes_below on op a b a' below closed mine whole same x new =
    let defined : slice_get b.schema (table_of op).0 ≡ Some x.def = same ∙ x.defined in
    let in_schema = read b.schema (table_of op).0 x.def x.def defined in
    let (n, n_is) = there b.tables (table_of op).0 (let l : length b.tables ≡ length b.schema = whole in let lt : (table_of op).0 < length b.schema = in_schema.0 in Prim.omega arith) in (
      after op x.def b,
      record {
        def = x.def;
        table = n;
        defined = defined;
        there = n_is;
        asked = asks_below on a b below op x.def x.table n mine (λ f e. closed (table_of op) x.def f mine x.defined e) x.there n_is new x.asked;
        gives = refl;
      },
      refl,
    )

-- An operation on both keeps that the one is a part of the other.
module _ (on : List TableId) (op : Op) (v v' s s' : TableState) (mine : is_op_on on op ≡ true) (linked : IsLinked v) (part : IsClosedPart on v s) (x : Applies op v v') (y : Applies op s s') where
  same_def : y.def ≡ x.def
  same_def = same_some (sym y.defined ∙ part.defined (table_of op) mine ∙ x.defined)

  abbrev here : TableId → Row → Bool
  here t k = nat_eq (table_of op).0 t.0 && is_same k (key_in x.def op)

  after_v : (t : TableId) (k : Row) → row_at v' t k ≡ cond (here t k) (row_left_by op) (row_at v t k)
  after_v t k = row_after op v v' x t k

  after_s : (t : TableId) (k : Row) → row_at s' t k ≡ cond (here t k) (row_left_by op) (row_at s t k)
  after_s t k = row_after op s s' y t k ∙ ap (λ (d : TableDef). cond (nat_eq (table_of op).0 t.0 && is_same k (key_in d op)) (row_left_by op) (row_at s t k)) same_def

  at_hit : (t : TableId) (k : Row) → here t k ≡ true → ((table_of op).0 ≡ t.0) × (k ≡ key_in x.def op)
  at_hit t k e = let (a, b) = both_true (nat_eq (table_of op).0 t.0) (is_same k (key_in x.def op)) e in (eqb-true (table_of op).0 t.0 a, same_values k (key_in x.def op) b)

  still_within : (t : TableId) (k row : Row) → is_one_of on t ≡ true → row_at s' t k ≡ Some row → row_at v' t k ≡ Some row
  still_within t k row on_t e = by (here t k) refl
    where
      by : (b : Bool) → here t k ≡ b → row_at v' t k ≡ Some row
      by true h = after_v t k ∙ ap (λ b. cond b (row_left_by op) (row_at v t k)) h ∙ sym (after_s t k ∙ ap (λ b. cond b (row_left_by op) (row_at s t k)) h) ∙ e
      by false h = after_v t k ∙ ap (λ b. cond b (row_left_by op) (row_at v t k)) h ∙ part.within t k row on_t (sym (after_s t k ∙ ap (λ b. cond b (row_left_by op) (row_at s t k)) h) ∙ e)

  -- the key that it writes, as it was before
  had : (t : TableId) (k : Row) → here t k ≡ true → is_some (row_at s t k) ≡ not (inserts op)
  had t k h =
      let (place, key) = at_hit t k h in
      ap is_some (ap (λ q. row_at s t q) key ∙ ap (λ i. fm.get (unwrap_or (slice_get s.tables i) empty) (key_in x.def op)) (sym place) ∙ ap (λ (m : Table). fm.get m (key_in x.def op)) (sym (table_is s (table_of op) y.table y.there)))
      ∙ ap (λ (d : TableDef). is_some (fm.get y.table (key_in d op))) (sym same_def) ∙ found_before op s y.def y.table y.asked

  had_v : (t : TableId) (k : Row) → here t k ≡ true → is_some (row_at v t k) ≡ not (inserts op)
  had_v t k h =
      let (place, key) = at_hit t k h in
      ap is_some (ap (λ q. row_at v t q) key ∙ ap (λ i. fm.get (unwrap_or (slice_get v.tables i) empty) (key_in x.def op)) (sym place) ∙ ap (λ (m : Table). fm.get m (key_in x.def op)) (sym (table_is v (table_of op) x.table x.there)))
      ∙ found_before op v x.def x.table x.asked

  still_families : (t : TableId) (def : TableDef) (f : ForeignKey) (k row : Row) → is_one_of on t ≡ true
      → slice_get v'.schema t.0 ≡ Some def → def.foreign_key ≡ Some f → row_at v' t k ≡ Some row
      → is_some (row_at s' t k) ≡ is_some (row_at s' f.parent (key_of f.columns row))
  still_families t def f k row on_t d fk e = ap is_some (after_s t k) ∙ by (here t k) refl (here f.parent pk) refl ∙ sym (ap is_some (after_s f.parent pk))
    where
      pk : Row
      pk = key_of f.columns row

      in_v : slice_get v.schema t.0 ≡ Some def
      in_v = ap (λ l. slice_get l t.0) (sym (same_schema op v v' x)) ∙ d

      -- the operation's own row
      own_parent : here t k ≡ true → is_some (row_at s f.parent pk) ≡ true
      own_parent h =
          let left : row_left_by op ≡ Some row = sym (after_v t k ∙ ap (λ b. cond b (row_left_by op) (row_at v t k)) h) ∙ e in
          let its : x.def ≡ def = same_some (sym x.defined ∙ ap (slice_get v.schema) (at_hit t k h).0 ∙ in_v) in
          ap (λ o. has_parent s o row) (sym (ap (λ (z : TableDef). z.foreign_key) (same_def ∙ its) ∙ fk)) ∙ asked_parent op s y.def y.table y.asked row left

      its_row : here t k ≡ true → is_some (row_left_by op) ≡ true
      its_row h = ap is_some (sym (after_v t k ∙ ap (λ b. cond b (row_left_by op) (row_at v t k)) h) ∙ e)

      -- another row, whose parent the operation writes
      parent_hit : here t k ≡ false → here f.parent pk ≡ true → is_some (row_at s f.parent pk) ≡ is_some (row_left_by op)
      parent_hit miss hit = of (row_left_by op) refl
        where
          was : row_at v t k ≡ Some row
          was = sym (after_v t k ∙ ap (λ b. cond b (row_left_by op) (row_at v t k)) miss) ∙ e

          has : is_some (row_at v f.parent pk) ≡ true
          has = ap (λ o. has_parent v o row) (sym fk) ∙ linked t def k row in_v was

          of : (o : Option Row) → row_left_by op ≡ o → is_some (row_at s f.parent pk) ≡ is_some o
          of (Some r) is = had f.parent pk hit ∙ sym (had_v f.parent pk hit) ∙ has
          of None is =
              let (place, key) = at_hit f.parent pk hit in
              let named : names_parent (table_of op) (key_in x.def op) def.foreign_key row ≡ true = ap (λ o. names_parent (table_of op) (key_in x.def op) o row) fk ∙ both (nat_eq (table_of op).0 f.parent.0) (is_same pk (key_in x.def op)) (eq-eqb (table_of op).0 f.parent.0 place) (same_itself pk (key_in x.def op) key) in
              absurd (never_both (has_child v (table_of op) (key_in x.def op)) (child_there v.schema v.tables (table_of op) (key_in x.def op) t.0 def k row in_v was named) (asked_childless op v x.def x.table x.asked is))

      by : (b : Bool) → here t k ≡ b → (c : Bool) → here f.parent pk ≡ c → is_some (cond (here t k) (row_left_by op) (row_at s t k)) ≡ is_some (cond (here f.parent pk) (row_left_by op) (row_at s f.parent pk))
      by true h true p = ap (λ b. is_some (cond b (row_left_by op) (row_at s t k))) h ∙ sym (ap (λ b. is_some (cond b (row_left_by op) (row_at s f.parent pk))) p)
      by true h false p = ap (λ b. is_some (cond b (row_left_by op) (row_at s t k))) h ∙ its_row h ∙ sym (ap (λ b. is_some (cond b (row_left_by op) (row_at s f.parent pk))) p ∙ own_parent h)
      by false h true p = ap (λ b. is_some (cond b (row_left_by op) (row_at s t k))) h ∙ part.families t def f k row on_t in_v fk (was_there h) ∙ parent_hit h p ∙ sym (ap (λ b. is_some (cond b (row_left_by op) (row_at s f.parent pk))) p)
        where
          was_there : here t k ≡ false → row_at v t k ≡ Some row
          was_there h = sym (after_v t k ∙ ap (λ b. cond b (row_left_by op) (row_at v t k)) h) ∙ e
      by false h false p =
          ap (λ b. is_some (cond b (row_left_by op) (row_at s t k))) h ∙ part.families t def f k row on_t in_v fk (sym (after_v t k ∙ ap (λ b. cond b (row_left_by op) (row_at v t k)) h) ∙ e)
          ∙ sym (ap (λ b. is_some (cond b (row_left_by op) (row_at s f.parent pk))) p)

  pub still_part : IsClosedPart on v' s'
  still_part = record {
    defined = λ t e. ap (λ l. slice_get l t.0) (same_schema op s s' y) ∙ part.defined t e ∙ sym (ap (λ l. slice_get l t.0) (same_schema op v v' x));
    within = still_within;
    families = still_families;
  }

-- lists of operations

pub between : {A B : Type 0} (f : A → Option B) (o : Option A) (y : B) → option_and_then f o ≡ Some y → (x : A) × (o ≡ Some x) × (f x ≡ Some y)
between f None y e = Prim.cc
between f (Some x) y e = (x, refl, e)

pub then_is : {A B : Type 0} (f : A → Option B) (o : Option A) (x : A) (y : B) → o ≡ Some x → f x ≡ Some y → option_and_then f o ≡ Some y
then_is f o x y e h = ap (option_and_then f) e ∙ h

-- as operations that apply to both
pub parts_after : (on : List TableId) (ops : List Op) (v v' s s' : TableState) → are_on on ops ≡ true → IsLinked v → IsClosedPart on v s → applied_all ops v ≡ Some v' → applied_all ops s ≡ Some s' → IsClosedPart on v' s'
parts_after on [] v v' s s' mine linked part e h =
    let one : v ≡ v' = Prim.cc in
    let other : s ≡ s' = Prim.cc in
    subst (λ (x : TableState). IsClosedPart on x s') one (subst (λ (x : TableState). IsClosedPart on v x) other part)
parts_after on (op ∷ ops) v v' s s' mine linked part e h =
    let (x, x_is, x_on) = between (applied_all ops) (applied op v) v' e in
    let (y, y_is, y_on) = between (applied_all ops) (applied op s) s' h in
    let (first, rest) = both_true (is_op_on on op) (are_on on ops) mine in
    parts_after on ops x v' y s' rest (keeps_linked op v x x_is linked) (still_part on op v x s y first linked part (parts op v x x_is) (parts op s y y_is)) x_on y_on

-- the keys that are inserted are new, operation by operation
abbrev pub IsNewKey : Op → TableState → Type 0
IsNewKey (Insert t row) v = (def : TableDef) → slice_get v.schema t.0 ≡ Some def → row_at v t (key_of def.primary_key row) ≡ None
IsNewKey (Update t old new) v = Unit {0}
IsNewKey (Delete t old) v = Unit {0}

abbrev pub AreNewKeys : List Op → TableState → Type 0
AreNewKeys [] v = Unit {0}
AreNewKeys (op ∷ ops) v = IsNewKey op v × ((n : TableState) → applied op v ≡ Some n → AreNewKeys ops n)

-- the parent of a row is on the side
inside_of : (on : List TableId) (v s : TableState) → IsClosed on v.schema → IsClosedPart on v s → (t : TableId) (def : TableDef) (f : ForeignKey) → is_one_of on t ≡ true → slice_get s.schema t.0 ≡ Some def → def.foreign_key ≡ Some f → is_one_of on f.parent ≡ true
inside_of on v s closed part t def f e d fk = closed t def f (sym (part.defined t e) ∙ d) fk ∙ e

-- a child's foreign key
abbrev pub KeyOf : Option ForeignKey → TableId → Row → Row → Type 0
KeyOf o t key row = (f : ForeignKey) × (o ≡ Some f) × (f.parent.0 ≡ t.0) × (key_of f.columns row ≡ key)

pub named_key : (o : Option ForeignKey) (t : TableId) (key row : Row) → names_parent t key o row ≡ true → KeyOf o t key row
named_key None t key row e = Prim.cc
named_key (Some f) t key row e =
    let (a, b) = both_true (nat_eq t.0 f.parent.0) (is_same (key_of f.columns row) key) e in
    (f, refl, sym (eqb-true t.0 f.parent.0 a), same_values (key_of f.columns row) key b)

names_it : (o : Option ForeignKey) (f : ForeignKey) (t : TableId) (key row : Row) → o ≡ Some f → f.parent.0 ≡ t.0 → key_of f.columns row ≡ key → names_parent t key o row ≡ true
names_it o f t key row e p k = ap (λ z. names_parent t key z row) e ∙ both (nat_eq t.0 f.parent.0) (is_same (key_of f.columns row) key) (eq-eqb t.0 f.parent.0 (sym p)) (same_itself (key_of f.columns row) key k)

pub one_place : (s : TableState) (t u : TableId) (k : Row) → t.0 ≡ u.0 → row_at s t k ≡ row_at s u k
one_place s t u k e = ap (λ i. fm.get (unwrap_or (slice_get s.tables i) empty) k) e

pub one_side : (on : List TableId) (t u : TableId) → t.0 ≡ u.0 → is_one_of on t ≡ is_one_of on u
one_side on t u e = ap (is_one_of on) (same_id t u e)

pub some_of : (o : Option Row) → is_some o ≡ true → (r : Row) × (o ≡ Some r)
some_of None e = Prim.cc
some_of (Some r) e = (r, refl)

-- a row that has no child in the part has none in the whole
whole_childless : (on : List TableId) (v s : TableState) (t : TableId) (key : Row) → IsClosed on v.schema → IsClosedPart on v s → is_one_of on t ≡ true → is_some (row_at s t key) ≡ true → has_child s t key ≡ false → has_child v t key ≡ false
whole_childless on v s t key closed part mine shown none = not_both (has_child v t key) (λ e. found (child_found v.schema v.tables t key e))
  where
    found : ChildOf v.schema v.tables t key → ⊥
    found c =
        let u : TableId = record { 0 = c.place } in
        let (f, fk, parent, same) = named_key c.def.foreign_key t key c.row c.names in
        let side : is_one_of on u ≡ true = sym (closed u c.def f c.defined fk) ∙ one_side on f.parent t parent ∙ mine in
        let has : is_some (row_at s u c.k) ≡ true = part.families u c.def f c.k c.row side c.defined fk c.is ∙ ap is_some (ap (λ q. row_at s f.parent q) same ∙ one_place s f.parent t key parent) ∙ shown in
        let (r, r_is) = some_of (row_at s u c.k) has in
        let row_is : r ≡ c.row = same_some (sym (part.within u c.k r side r_is) ∙ c.is) in
        never_both (has_child s t key) (child_there s.schema s.tables t key c.place c.def c.k r (part.defined u side ∙ c.defined) r_is (names_it c.def.foreign_key f t key r fk parent (ap (key_of f.columns) row_is ∙ same))) none

-- what applies to a part applies to the whole, where inserted keys are new
asks_whole : (on : List TableId) (op : Op) (v s s' : TableState) → IsClosed on v.schema → IsClosedPart on v s → is_op_on on op ≡ true → (x : Applies op s s') → IsNewKey op v → AsksFor op x.def v
asks_whole on (Insert t row) v s s' closed part mine x new = new x.def (sym (part.defined t mine) ∙ x.defined)
asks_whole on (Update t old row) v s s' closed part mine x new = tt
asks_whole on (Delete t old) v s s' closed part mine x new =
    whole_childless on v s t (key_of x.def.primary_key old) closed part mine
    (ap (λ (m : Table). is_some (fm.get m (key_of x.def.primary_key old))) (sym (table_is s t x.table x.there)) ∙ found_before (Delete t old) s x.def x.table x.asked)
    (asked_childless (Delete t old) s x.def x.table x.asked refl)

pub applies_to_whole : (on : List TableId) (ops : List Op) (v s s' : TableState) → IsClosed on v.schema → IsWhole v → IsLinked v → IsClosedPart on v s → are_on on ops ≡ true → AreNewKeys ops v → applied_all ops s ≡ Some s' → (v' : TableState) × (applied_all ops v ≡ Some v')
applies_to_whole on [] v s s' closed whole linked part mine new e = (v, refl)
applies_to_whole on (op ∷ ops) v s s' closed whole linked part mine new e =
    let (y, y_is, y_on) = between (applied_all ops) (applied op s) s' e in
    let (first, rest) = both_true (is_op_on on op) (are_on on ops) mine in
    let p = parts op s y y_is in
    let (x, q, same) = goes_below on op s v y part.within (inside_of on v s closed part) first whole (sym (part.defined (table_of op) first)) p (asks_whole on op v s y closed part first p new.0) in
    let x_is = whole_applies op v x q in
    let (v', v_is) = applies_to_whole on ops x y s' (subst (IsClosed on) (sym (same_schema op v x q)) closed) (stays_whole op v x x_is whole) (keeps_linked op v x x_is linked) (still_part on op v x s y first linked part q p) rest (new.1 x x_is) y_on in
    (v', then_is (applied_all ops) (applied op v) x v' x_is v_is)

-- of two parts the greater
abbrev pub IsBelow : List TableId → TableState → TableState → Type 0
IsBelow on a b = (t : TableId) (k row : Row) → is_one_of on t ≡ true → row_at a t k ≡ Some row → row_at b t k ≡ Some row

-- what applies to the lesser part and to the whole applies to the greater one
asks_greater : (on : List TableId) (op : Op) (v v' b : TableState) (def : TableDef) → IsClosed on b.schema → IsClosedPart on v b → is_op_on on op ≡ true → (z : Applies op v v') → z.def ≡ def → AsksFor op def b
asks_greater on (Insert t row) v v' b def closed part mine z same = by (row_at b t (key_of def.primary_key row)) refl
  where
    by : (o : Option Row) → row_at b t (key_of def.primary_key row) ≡ o → o ≡ None
    by None e = refl
    by (Some r) e =
        let had : row_at v t (key_of def.primary_key row) ≡ Some r = part.within t (key_of def.primary_key row) r mine e in
        let none : is_some (row_at v t (key_of def.primary_key row)) ≡ false =
        ap (λ (d : TableDef). is_some (row_at v t (key_of d.primary_key row))) (sym same) ∙ ap (λ (m : Table). is_some (fm.get m (key_of z.def.primary_key row))) (sym (table_is v t z.table z.there)) ∙ found_before (Insert t row) v z.def z.table z.asked
        in
        let wrong : true ≡ false = sym (ap is_some had) ∙ none in Prim.cc
asks_greater on (Update t old row) v v' b def closed part mine z same = tt
asks_greater on (Delete t old) v v' b def closed part mine z same = not_both (has_child b t key) (λ e. found (child_found b.schema b.tables t key e))
  where
    key : Row
    key = key_of def.primary_key old

    found : ChildOf b.schema b.tables t key → ⊥
    found c =
        let u : TableId = record { 0 = c.place } in
        let (f, fk, parent, keys) = named_key c.def.foreign_key t key c.row c.names in
        let side : is_one_of on u ≡ true = sym (closed u c.def f c.defined fk) ∙ one_side on f.parent t parent ∙ mine in
        let in_v = part.within u c.k c.row side c.is in
        never_both (has_child v t key) (child_there v.schema v.tables t key c.place c.def c.k c.row (sym (part.defined u side) ∙ c.defined) in_v c.names)
        (ap (λ (d : TableDef). has_child v t (key_of d.primary_key old)) (sym same) ∙ asked_childless (Delete t old) v z.def z.table z.asked refl)

still_below : (on : List TableId) (op : Op) (a a' b b' : TableState) → IsBelow on a b → (x : Applies op a a') (y : Applies op b b') → y.def ≡ x.def → IsBelow on a' b'
still_below on op a a' b b' below x y same t k row mine e = row_after op b b' y t k ∙ ap (λ (d : TableDef). cond (nat_eq (table_of op).0 t.0 && is_same k (key_in d op)) (row_left_by op) (row_at b t k)) same ∙ by (nat_eq (table_of op).0 t.0 && is_same k (key_in x.def op)) (sym (row_after op a a' x t k) ∙ e)
  where
    by : (h : Bool) → cond h (row_left_by op) (row_at a t k) ≡ Some row → cond h (row_left_by op) (row_at b t k) ≡ Some row
    by true h = h
    by false h = below t k row mine h

-- two parts of one whole, before and behind operations
pub record GreaterApplies (on : List TableId) (ops : List Op) (a' b : TableState) : Type 0 where
  pub state : TableState
  pub leads : applied_all ops b ≡ Some state
  pub below : IsBelow on a' state

pub applies_to_greater : (on : List TableId) (ops : List Op) (v v' a a' b : TableState) → IsClosed on v.schema → IsClosed on b.schema → IsWhole b → IsLinked v → IsClosedPart on v a → IsClosedPart on v b → IsBelow on a b → are_on on ops ≡ true
    → applied_all ops v ≡ Some v' → applied_all ops a ≡ Some a' → GreaterApplies on ops a' b
applies_to_greater on [] v v' a a' b closed closed_b whole linked part greater below mine e h =
    let same : a ≡ a' = Prim.cc in
    record { state = b; leads = refl; below = subst (λ (x : TableState). IsBelow on x b) same below }
applies_to_greater on (op ∷ ops) v v' a a' b closed closed_b whole linked part greater below mine e h =
    let (x, x_is, x_on) = between (applied_all ops) (applied op v) v' e in
    let (y, y_is, y_on) = between (applied_all ops) (applied op a) a' h in
    let (first, rest) = both_true (is_op_on on op) (are_on on ops) mine in
    let z = parts op v x x_is in
    let p = parts op a y y_is in
    let one : z.def ≡ p.def = same_some (sym z.defined ∙ sym (part.defined (table_of op) first) ∙ p.defined) in
    let (w, q, same) = goes_below on op a b y below (inside_of on v a closed part) first whole (greater.defined (table_of op) first ∙ sym (part.defined (table_of op) first)) p (asks_greater on op v x b p.def closed_b greater first z one) in
    let w_is = whole_applies op b w q in
    let more = applies_to_greater on ops x v' y a' w (subst (IsClosed on) (sym (same_schema op v x z)) closed) (subst (IsClosed on) (sym (same_schema op b w q)) closed_b) (stays_whole op b w w_is whole) (keeps_linked op v x x_is linked)
    (still_part on op v x a y first linked part z p) (still_part on op v x b w first linked greater z q) (still_below on op a y b w below p q same) rest x_on y_on
    in
    record { state = more.state; leads = then_is (applied_all ops) (applied op b) w more.state w_is more.leads; below = more.below }
