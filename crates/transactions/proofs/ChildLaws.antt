-- Laws of looking for a row that refers to another.
use Rattle.std.proofs.Common.{◌≡◌, ℕ, zero, suc, ◌+◌, ◌≤◌, Bool, true, false, cond, ◌&&◌, Option, Some, None, List, [], ◌∷◌, drop, find, length, map, slice_get, unwrap_or, refl, sym, ap, ◌∙◌, arith}
use Rattle.std.specs.Option.{option_map, option_or}
use Rattle.std.specs.FinMap as fm
use Rattle.std.proofs.lemmas.List.{drop_all}
use Rattle.evaluator.specs.row_types.specs.declared.rule.Detail.{Detail}
use Rattle.evaluator.specs.row_types.specs.declared.rule.Detail.TheVariants as detail
use Rattle.evaluator.specs.row_types.specs.declared.value.Value.{Value}
use Rattle.evaluator.specs.tier_base.specs.declared.number.TableId.{TableId}
use Rattle.evaluator.specs.table_defs.specs.declared.definition.ForeignKey.{ForeignKey}
use Rattle.evaluator.specs.table_defs.specs.declared.definition.TableDef.{TableDef}
use Rattle.evaluator.specs.table_defs.specs.Declarations.{foreign_places}
use Rattle.evaluator.specs.table_state.specs.Independence.{IsWhole, refers_to as refers}
use Rattle.evaluator.specs.table_state.specs.Refusals.{child_of, first_child}
use Rattle.evaluator.specs.indexed_rows.specs.Rows.{Table, is_same, key_of}
use Rattle.evaluator.specs.table_state.specs.Tables.{TableState, names_parent, table_at}
use Rattle.evaluator.specs.indexed_rows.proofs.FirstLaws.{drop_at}
use Rattle.evaluator.specs.table_state.proofs.ListLaws.{find_none}
use Rattle.evaluator.specs.table_state.specs.ScanChildren.{child_from, first_from, refers_to}
use Rattle.evaluator.specs.table_state.specs.Keyed.{IsUnderKeys, has_key}
use Rattle.evaluator.specs.table_state.proofs.KeyLaws.{entries_under}

abbrev Row : Type 0
Row = List Value

same_some : {X : Type 0} {x y : X} → Some x ≡ Some y → x ≡ y
same_some e = cc

-- the first element that passes, by its place and by itself
record IsFirst {X Y : Type 0} (p : Y → Bool) (f : X → Y) (es : List X) (i k : ℕ) : Type 0 where
  j : ℕ
  e : X
  place : k ≡ i + j
  at : slice_get es j ≡ Some e
  found : find (λ x. p (f x)) es ≡ Some e

first_found : {X Y : Type 0} (p : Y → Bool) (f : X → Y) (es : List X) (i k : ℕ) → first_from p i (map f es) ≡ Some k → IsFirst p f es i k
first_found p f [] i k h = cc
first_found {X} {Y} p f (x ∷ es) i k h = by (p (f x)) refl (first_found p f es (suc i) k) h
  where
    by : (b : Bool) → p (f x) ≡ b → (first_from p (suc i) (map f es) ≡ Some k → IsFirst p f es (suc i) k) → cond b (Some i) (first_from p (suc i) (map f es)) ≡ Some k → IsFirst p f (x ∷ es) i k
    by true passes later h = record { j = 0; e = x; place = sym (same_some h) ∙ omega arith; at = refl; found = ap (λ b. cond b (Some x) (find (λ y. p (f y)) es)) passes }
    by false fails later h =
        let rest = later h in
        let place = rest.place in
        record { j = suc rest.j; e = rest.e; place = omega (arith, place); at = rest.at; found = ap (λ b. cond b (Some x) (find (λ y. p (f y)) es)) fails ∙ rest.found }

none_found : {X Y : Type 0} (p : Y → Bool) (f : X → Y) (es : List X) (i : ℕ) → first_from p i (map f es) ≡ None → find (λ x. p (f x)) es ≡ None
none_found p f [] i h = refl
none_found {X} {Y} p f (x ∷ es) i h = by (p (f x)) refl (none_found p f es (suc i)) h
  where
    by : (b : Bool) → p (f x) ≡ b → (first_from p (suc i) (map f es) ≡ None → find (λ y. p (f y)) es ≡ None) → cond b (Some i) (first_from p (suc i) (map f es)) ≡ None → find (λ y. p (f y)) (x ∷ es) ≡ None
    by true passes later h = cc
    by false fails later h = ap (λ b. cond b (Some x) (find (λ y. p (f y)) es)) fails ∙ later h

find_same : {X : Type 0} (p q : X → Bool) → ((x : X) → p x ≡ q x) → (xs : List X) → find p xs ≡ find q xs
find_same p q same [] = refl
find_same p q same (x ∷ xs) = ap (λ b. cond b (Some x) (find p xs)) (same x) ∙ ap (λ o. cond (q x) (Some x) o) (find_same p q same xs)

-- a table that doesn't refer to this one has no child
pub no_reference : (t : TableId) (key : Row) (def : TableDef) (table : Table) → refers t def.foreign_key ≡ false → None ≡ child_of t key def table
no_reference t key def table h = ap (option_map (λ e. detail.Row def.name e.0)) (find_none (λ e. names_parent t key def.foreign_key e.1) (λ e. never def.foreign_key h e.1) (fm.entries table))
  where
    never : (o : Option ForeignKey) → refers t o ≡ false → (row : Row) → names_parent t key o row ≡ false
    never None h row = refl
    never (Some foreign) h row = ap (λ b. b && is_same (key_of foreign.columns row) key) h

module _ (s : TableState) (t child : TableId) (key : Row) (def : TableDef) (is : slice_get s.schema child.0 ≡ Some def) (refers_back : refers t def.foreign_key ≡ true) where
  -- the row names the key as its parent's
  names : Row → Bool
  names row = refers_to key (slice_get s.schema child.0) row

  names_it : (row : Row) → names row ≡ names_parent t key def.foreign_key row
  unfolding names
  names_it row = ap (λ d. refers_to key d row) is ∙ by def.foreign_key refers_back
    where
      by : (o : Option ForeignKey) → refers t o ≡ true → has_key (foreign_places o) key row ≡ names_parent t key o row
      by None h = cc
      by (Some foreign) h = sym (ap (λ b. b && is_same (key_of foreign.columns row) key) h)

  child_is : child_of t key def (table_at s child) ≡ option_map (λ e. detail.Row def.name e.0) (find (λ e. names e.1) (fm.entries (table_at s child)))
  child_is = ap (option_map (λ e. detail.Row def.name e.0)) (sym (find_same (λ e. names e.1) (λ e. names_parent t key def.foreign_key e.1) (λ e. names_it e.1) (fm.entries (table_at s child))))

  pub no_child : None ≡ child_from s child key 0 → None ≡ child_of t key def (table_at s child)
  unfolding names
  no_child none = ap (option_map (λ e. detail.Row def.name e.0)) (sym (none_found names (λ e. e.1) (fm.entries (table_at s child)) 0 (sym none))) ∙ sym child_is

  module _ (place : ℕ) (found : Some place ≡ child_from s child key 0) where
    first : IsFirst names (λ e. e.1) (fm.entries (table_at s child)) 0 place
    unfolding names
    first = first_found names (λ e. e.1) (fm.entries (table_at s child)) 0 place (sym found)

    mapped : {X Y : Type 0} (f : X → Y) (xs : List X) (j : ℕ) (x : X) → slice_get xs j ≡ Some x → slice_get (map f xs) j ≡ Some (f x)
    mapped f [] j x h = cc
    mapped f (y ∷ xs) zero x h = ap (λ z. Some (f z)) (same_some h)
    mapped f (y ∷ xs) (suc j) x h = mapped f xs j x h

    at_place : slice_get (fm.values (table_at s child)) place ≡ Some first.e.1
    at_place =
        let same : place ≡ first.j = first.place ∙ omega arith in
        ap (slice_get (fm.values (table_at s child))) same ∙ mapped (λ e. e.1) (fm.entries (table_at s child)) first.j first.e first.at

    pub row_is_there : None ≡ slice_get (fm.values (table_at s child)) place → ⊥
    row_is_there none = let e : None ≡ Some first.e.1 = none ∙ at_place in cc

    pub the_child : (under : IsUnderKeys def.primary_key (table_at s child)) (row : Row) → Some row ≡ slice_get (fm.values (table_at s child)) place → Some (detail.Row def.name (key_of def.primary_key row)) ≡ child_of t key def (table_at s child)
    the_child under row row_is =
        let same : row ≡ first.e.1 = same_some (row_is ∙ at_place) in
        let its_key : key_of def.primary_key row ≡ first.e.0 = ap (key_of def.primary_key) same ∙ under first.e.0 first.e.1 (entries_under (table_at s child) first.j first.e first.at) in
        ap (λ k. Some (detail.Row def.name k)) its_key ∙ sym (child_is ∙ ap (option_map (λ e. detail.Row def.name e.0)) first.found)

-- the tables from a place on
pub child_here : (t : TableId) (key : Row) (s : TableState) → IsWhole s → (place : ℕ) (def : TableDef) → slice_get s.schema place ≡ Some def → (c : Option Detail) → c ≡ child_of t key def (unwrap_or (slice_get s.tables place) fm.empty)
    → first_child t key (drop place s.schema) (drop place s.tables) ≡ option_or c (first_child t key (drop (place + 1) s.schema) (drop (place + 1) s.tables))
child_here t key s whole place def d c c_is = by (slice_get s.tables place) refl
  where
    by : (o : Option Table) → slice_get s.tables place ≡ o → first_child t key (drop place s.schema) (drop place s.tables) ≡ option_or c (first_child t key (drop (place + 1) s.schema) (drop (place + 1) s.tables))
    by None m = absurd (missing s.schema s.tables place def whole d m)
      where
        missing : (defs : List TableDef) (tables : List Table) (i : ℕ) (def : TableDef) → length tables ≡ length defs → slice_get defs i ≡ Some def → slice_get tables i ≡ None → ⊥
        missing [] tables i def e d m = cc
        missing (x ∷ defs) [] i def e d m = absurd (omega arith)
        missing (x ∷ defs) (y ∷ tables) zero def e d m = cc
        missing (x ∷ defs) (y ∷ tables) (suc i) def e d m = missing defs tables i def (omega arith) d m
    by (Some table) m =
        let it : c ≡ child_of t key def table = c_is ∙ ap (λ o. child_of t key def (unwrap_or o fm.empty)) m in
        ap (λ l. first_child t key l (drop place s.tables)) (drop_at s.schema place def d) ∙ ap (first_child t key (def ∷ drop (place + 1) s.schema)) (drop_at s.tables place table m)
        ∙ ap (λ o. option_or o (first_child t key (drop (place + 1) s.schema) (drop (place + 1) s.tables))) (sym it)

pub none_left : (t : TableId) (key : Row) (defs : List TableDef) (tables : List Table) (i : ℕ) → length defs ≤ i → None ≡ first_child t key (drop i defs) (drop i tables)
none_left t key defs tables i h = sym (ap (λ l. first_child t key l (drop i tables)) (drop_all i defs h))
