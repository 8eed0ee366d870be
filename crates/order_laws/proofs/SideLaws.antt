-- Laws of tables that no foreign key joins with the others.
use Rattle.std.proofs.Common.{◌≡◌, ℕ, zero, suc, Bool, true, false, cond, not, ◌&&◌, ◌||◌, nat_eq, Option, Some, None, List, [], ◌∷◌, length, slice_get, unwrap_or, refl, sym, ap, subst, ◌∙◌, arith, eqb-true}
use Rattle.std.specs.Option.{option_and_then}
use Rattle.std.specs.List.{flat_map, list_any}
use Rattle.std.proofs.lemmas.List.Folds.{list_any-append}
use Rattle.std.specs.FinMap as fm
use Rattle.std.specs.FinMap.{empty}
use Rattle.table_state.specs.row_types.specs.declared.value.Value.{Value}
use Rattle.table_state.specs.tier_base.specs.declared.number.TableId.{TableId}
use Rattle.table_state.specs.table_defs.specs.declared.definition.ForeignKey.{ForeignKey}
use Rattle.table_state.specs.table_defs.specs.declared.definition.TableDef.{TableDef}
use Rattle.table_state.specs.declared.footprint.RowKey.{RowKey}
use Rattle.table_state.specs.declared.operation.Op.{Op}
use Rattle.table_state.specs.indexed_rows.specs.Rows.{Table, is_same, key_of}
use Rattle.table_state.specs.Copies.{is_one_of}
use Rattle.table_state.specs.Footprints.{footprint_of, is_among, is_in, parent_key, referred_by, referred_key, rows_of, same_row_key, written_by, written_key}
use Rattle.table_state.specs.Tables.{TableState, has_child_in, names_parent, table_at}
use Rattle.table_state.specs.Operations.{applied, applied_all, table_of}
use Rattle.table_state.specs.row_types.proofs.OrderLaws.{key_total, key_exact}
use Rattle.table_state.proofs.IndependenceLaws.{stays_beside, stays_defined}
use Rattle.order_laws.specs.Commits.{is_op_on, ops_on}
use Rattle.order_laws.specs.Effects.{AgreeFor, row_left_by}
use Rattle.order_laws.specs.Sides.{AgreeOn, IsClosed, are_off, are_on}
use Rattle.order_laws.proofs.PairLaws.{Apart}
use Rattle.order_laws.proofs.StepLaws.{Applies, goes_over, key_in, parts, row_after, same_length, same_schema, whole}
use Rattle.order_laws.proofs.TruthLaws.{both_true, first_true, never_both, not_both, same_some, untrue}

abbrev Row : Type 0
Row = List Value

same_one : (tables : List TableId) (a b : TableId) → a.0 ≡ b.0 → is_one_of tables a ≡ is_one_of tables b
same_one tables a b e = λ i. list_any (λ (one : TableId). nat_eq one.0 (e i)) tables

-- each key of an operation's footprint is on the operation's side

pub written_table : (t : TableId) (d : Option TableDef) (rows : List Row) (w : RowKey) → is_among (flat_map (written_key t d) rows) w ≡ true → w.table.0 ≡ t.0
written_table t d [] w e = cc
written_table t None (row ∷ rows) w e = written_table t None rows w e
written_table t (Some def) (row ∷ rows) w e = by (same_row_key w (record { table = t; key = key_of def.primary_key row })) refl e (written_table t (Some def) rows w)
  where
    by : (b : Bool) → same_row_key w (record { table = t; key = key_of def.primary_key row }) ≡ b → (b || is_among (flat_map (written_key t (Some def)) rows) w) ≡ true
        → (is_among (flat_map (written_key t (Some def)) rows) w ≡ true → w.table.0 ≡ t.0) → w.table.0 ≡ t.0
    by true is e rest = eqb-true w.table.0 t.0 (first_true (nat_eq w.table.0 t.0) (is_same w.key (key_of def.primary_key row)) is)
    by false is e rest = rest e

pub referred_table : (f : ForeignKey) (rows : List Row) (w : RowKey) → is_among (flat_map (parent_key (Some f)) rows) w ≡ true → w.table.0 ≡ f.parent.0
referred_table f [] w e = cc
referred_table f (row ∷ rows) w e = by (same_row_key w (record { table = f.parent; key = key_of f.columns row })) refl e (referred_table f rows w)
  where
    by : (b : Bool) → same_row_key w (record { table = f.parent; key = key_of f.columns row }) ≡ b → (b || is_among (flat_map (parent_key (Some f)) rows) w) ≡ true
        → (is_among (flat_map (parent_key (Some f)) rows) w ≡ true → w.table.0 ≡ f.parent.0) → w.table.0 ≡ f.parent.0
    by true is e rest = eqb-true w.table.0 f.parent.0 (first_true (nat_eq w.table.0 f.parent.0) (is_same w.key (key_of f.columns row)) is)
    by false is e rest = rest e

pub no_keys : (rows : List Row) (w : RowKey) → is_among (flat_map (referred_key None) rows) w ≡ false
no_keys [] w = refl
no_keys (row ∷ rows) w = no_keys rows w

pub no_parents : (rows : List Row) (w : RowKey) → is_among (flat_map (parent_key None) rows) w ≡ false
no_parents [] w = refl
no_parents (row ∷ rows) w = no_parents rows w

-- all operations on one side
abbrev pub OnSide : List TableId → Bool → List Op → Type 0
OnSide tables side [] = Unit {0}
OnSide tables side (op ∷ ops) = (is_op_on tables op ≡ side) × OnSide tables side ops

pub side_on : (tables : List TableId) (ops : List Op) → are_on tables ops ≡ true → OnSide tables true ops
side_on tables [] e = tt
side_on tables (op ∷ ops) e = let (first, rest) = both_true (is_op_on tables op) (are_on tables ops) e in (first, side_on tables ops rest)

pub side_off : (tables : List TableId) (ops : List Op) → are_off tables ops ≡ true → OnSide tables false ops
side_off tables [] e = tt
side_off tables (op ∷ ops) e = let (first, rest) = both_true (not (is_op_on tables op)) (are_off tables ops) e in (untrue (is_op_on tables op) first, side_off tables ops rest)

module _ (tables : List TableId) (schema : List TableDef) (closed : IsClosed tables schema) where
  written_side : (op : Op) (w : RowKey) → is_among (written_by schema op) w ≡ true → is_one_of tables w.table ≡ is_op_on tables op
  written_side op w e = same_one tables w.table (table_of op) (written_table (table_of op) (slice_get schema (table_of op).0) (rows_of op) w e)

  referred_side : (op : Op) (w : RowKey) → is_among (referred_by schema op) w ≡ true → is_one_of tables w.table ≡ is_op_on tables op
  referred_side op w e = by (slice_get schema (table_of op).0) refl e
    where
      last : (def : TableDef) → slice_get schema (table_of op).0 ≡ Some def → (f : Option ForeignKey) → def.foreign_key ≡ f → is_among (flat_map (parent_key f) (rows_of op)) w ≡ true → is_one_of tables w.table ≡ is_op_on tables op
      last def d None f_is e = absurd (never_both (is_among (flat_map (parent_key None) (rows_of op)) w) e (no_parents (rows_of op) w))
      last def d (Some f) f_is e = same_one tables w.table f.parent (referred_table f (rows_of op) w e) ∙ closed (table_of op) def f d f_is

      by : (d : Option TableDef) → slice_get schema (table_of op).0 ≡ d → is_among (flat_map (referred_key d) (rows_of op)) w ≡ true → is_one_of tables w.table ≡ is_op_on tables op
      by None d e = absurd (never_both (is_among (flat_map (referred_key None) (rows_of op)) w) e (no_keys (rows_of op) w))
      by (Some def) d e = last def d def.foreign_key refl e

  -- so are those of lists
  among_side : (f : Op → List RowKey) → ((op : Op) (w : RowKey) → is_among (f op) w ≡ true → is_one_of tables w.table ≡ is_op_on tables op) → (side : Bool) (ops : List Op) → OnSide tables side ops
      → (w : RowKey) → is_among (flat_map f ops) w ≡ true → is_one_of tables w.table ≡ side
  among_side f sided side [] on w e = cc
  among_side f sided side (op ∷ ops) on w e = by (is_among (f op) w) refl (sym (list_any-append (same_row_key w) (f op) (flat_map f ops)) ∙ e) (among_side f sided side ops on.1 w)
    where
      by : (b : Bool) → is_among (f op) w ≡ b → (b || is_among (flat_map f ops) w) ≡ true → (is_among (flat_map f ops) w ≡ true → is_one_of tables w.table ≡ side) → is_one_of tables w.table ≡ side
      by true is e rest = sided op w is ∙ on.0
      by false is e rest = rest e

  in_side : (side : Bool) (ops : List Op) → OnSide tables side ops → (w : RowKey) → is_one_of tables w.table ≡ not side → is_in (footprint_of schema ops) w ≡ false
  in_side side ops on w other =
      let a : is_among (flat_map (written_by schema) ops) w ≡ false = not_both (is_among (flat_map (written_by schema) ops) w) (λ e. not_own side (sym (among_side (written_by schema) written_side side ops on w e) ∙ other)) in
      let b : is_among (flat_map (referred_by schema) ops) w ≡ false = not_both (is_among (flat_map (referred_by schema) ops) w) (λ e. not_own side (sym (among_side (referred_by schema) referred_side side ops on w e) ∙ other)) in
      λ i. a i || b i
    where
      not_own : (b : Bool) → b ≡ not b → ⊥
      not_own true e = cc
      not_own false e = cc

  -- operations on both sides have no conflict
  pub sides_apart : (xs ys : List Op) → OnSide tables true xs → OnSide tables false ys → Apart (footprint_of schema xs) (footprint_of schema ys)
  sides_apart xs ys on off = record {
    here = λ w e. in_side false ys off w (among_side (written_by schema) written_side true xs on w e);
    there = λ w e. in_side true xs on w (among_side (written_by schema) written_side false ys off w e);
  }

-- states that agree on the tables of one side

never : {X : Type 0} (p : X → Bool) → ((x : X) → p x ≡ false) → (xs : List X) → list_any p xs ≡ false
never p fails [] = refl
never p fails (x ∷ xs) = ap (λ b. b || list_any p xs) (fails x) ∙ never p fails xs

child_agree : (defs : List TableDef) (ts us : List Table) (t : TableId) (key : Row) → length us ≡ length ts
    → ((i : ℕ) (def : TableDef) (f : ForeignKey) → slice_get defs i ≡ Some def → def.foreign_key ≡ Some f → nat_eq t.0 f.parent.0 ≡ true → unwrap_or (slice_get us i) empty ≡ unwrap_or (slice_get ts i) empty)
    → has_child_in defs us t key ≡ has_child_in defs ts t key
child_agree [] ts us t key size same = refl
child_agree (def ∷ defs) [] [] t key size same = refl
child_agree (def ∷ defs) [] (u ∷ us) t key size same = absurd (omega arith)
child_agree (def ∷ defs) (m ∷ ts) [] t key size same = absurd (omega arith)
child_agree (def ∷ defs) (m ∷ ts) (u ∷ us) t key size same = λ i. first def.foreign_key refl i || child_agree defs ts us t key (omega arith) (λ i. same (suc i)) i
  where
    by : (f : ForeignKey) → def.foreign_key ≡ Some f → (b : Bool) → nat_eq t.0 f.parent.0 ≡ b → list_any (names_parent t key (Some f)) (fm.values u) ≡ list_any (names_parent t key (Some f)) (fm.values m)
    by f f_is true e = let tables : u ≡ m = same zero def f refl f_is e in ap (λ x. list_any (names_parent t key (Some f)) (fm.values x)) tables
    by f f_is false e =
        let none = λ (row : Row). ap (λ b. b && is_same (key_of f.columns row) key) e in
        never (names_parent t key (Some f)) none (fm.values u) ∙ sym (never (names_parent t key (Some f)) none (fm.values m))

    first : (f : Option ForeignKey) → def.foreign_key ≡ f → list_any (names_parent t key def.foreign_key) (fm.values u) ≡ list_any (names_parent t key def.foreign_key) (fm.values m)
    first None f_is =
        ap (λ f. list_any (names_parent t key f) (fm.values u)) f_is
        ∙ never (names_parent t key None) (λ row. refl) (fm.values u) ∙ sym (never (names_parent t key None) (λ row. refl) (fm.values m))
        ∙ sym (ap (λ f. list_any (names_parent t key f) (fm.values m)) f_is)
    first (Some f) f_is =
        ap (λ f. list_any (names_parent t key f) (fm.values u)) f_is
        ∙ by f f_is (nat_eq t.0 f.parent.0) refl
        ∙ sym (ap (λ f. list_any (names_parent t key f) (fm.values m)) f_is)

module _ (tables : List TableId) where
  agree_for : (op : Op) (s n : TableState) → IsClosed tables s.schema → AgreeOn tables s n → is_op_on tables op ≡ true → AgreeFor op s n
  agree_for op s n closed agree on = record {
    schema = agree.schema;
    tables = agree.size;
    written = λ w e. ap (λ m. fm.get m w.key) (agree.rows w.table (written_side tables s.schema closed op w e ∙ on));
    referred = λ w e. ap (λ m. fm.get m w.key) (agree.rows w.table (referred_side tables s.schema closed op w e ∙ on));
    children = λ w e.
        ap (λ l. has_child_in l n.tables w.table w.key) agree.schema
        ∙ child_agree s.schema s.tables n.tables w.table w.key agree.size (λ i def f d f_is parent.
        agree.rows (record { 0 = i }) (sym (closed (record { 0 = i }) def f d f_is) ∙ sym (same_one tables w.table f.parent (eqb-true w.table.0 f.parent.0 parent)) ∙ written_side tables s.schema closed op w e ∙ on));
  }

  on_step : (op : Op) (s t n : TableState) → IsClosed tables s.schema → AgreeOn tables s n → is_op_on tables op ≡ true → applied op s ≡ Some t → (u : TableState) × (applied op n ≡ Some u) × AgreeOn tables t u
  on_step op s t n closed agree on is =
      let p = parts op s t is in
      let (u, q) = goes_over op s n t (agree_for op s n closed agree on) p in (
        u,
        whole op n u q,
        record {
          schema = same_schema op n u q ∙ agree.schema ∙ sym (same_schema op s t p);
          size = same_length op n u q ∙ agree.size ∙ sym (same_length op s t p);
          rows = λ v v_on. rows_alike u p q v (agree.rows v v_on);
        },
      )
    where
      rows_alike : (u : TableState) (p : Applies op s t) (q : Applies op n u) (v : TableId) → table_at n v ≡ table_at s v → table_at u v ≡ table_at t v
      rows_alike u p q v same = fm.same_map key_total key_exact (table_at u v) (table_at t v) (λ k.
          let def_is : q.def ≡ p.def = same_some (sym q.defined ∙ ap (λ l. slice_get l (table_of op).0) agree.schema ∙ p.defined) in
          row_after op n u q v k
          ∙ (λ i. cond (nat_eq (table_of op).0 v.0 && is_same k (key_in (def_is i) op)) (row_left_by op) (fm.get (same i) k))
          ∙ sym (row_after op s t p v k))

  pub off_step : (op : Op) (s t n : TableState) → AgreeOn tables s n → is_op_on tables op ≡ false → applied op s ≡ Some t → AgreeOn tables t n
  off_step op s t n agree off is = record {
    schema = agree.schema ∙ sym (stays_defined op s t is);
    size = agree.size ∙ sym (same_length op s t (parts op s t is));
    rows = λ v v_on. agree.rows v v_on ∙ sym (stays_beside op v s t (not_both (nat_eq (table_of op).0 v.0)
        (λ e. never_both (is_op_on tables op) (same_one tables (table_of op) v (eqb-true (table_of op).0 v.0 e) ∙ v_on) off)) is);
  }

  -- what applies does so on the tables alone, and leaves the same there
  pub restricted : (ops : List Op) (s t n : TableState) → IsClosed tables s.schema → AgreeOn tables s n → applied_all ops s ≡ Some t → (u : TableState) × (applied_all (ops_on tables ops) n ≡ Some u) × AgreeOn tables t u
  restricted [] s t n closed agree is = let same : s ≡ t = cc in (n, refl, subst (λ (x : TableState). AgreeOn tables x n) same agree)
  restricted (op ∷ ops) s t n closed agree is = by (applied op s) refl is (is_op_on tables op) refl (restricted ops)
    where
      by : (o : Option TableState) → applied op s ≡ o → option_and_then (applied_all ops) o ≡ Some t → (b : Bool) → is_op_on tables op ≡ b
          → ((s t n : TableState) → IsClosed tables s.schema → AgreeOn tables s n → applied_all ops s ≡ Some t → (u : TableState) × (applied_all (ops_on tables ops) n ≡ Some u) × AgreeOn tables t u)
          → (u : TableState) × (applied_all (cond b (op ∷ ops_on tables ops) (ops_on tables ops)) n ≡ Some u) × AgreeOn tables t u
      by None e h b b_is rest = cc
      by (Some x) e h true b_is rest =
          let (y, y_is, behind) = on_step op s x n closed agree b_is e in
          let (u, u_is, last) = rest x t y (subst (IsClosed tables) (sym (stays_defined op s x e)) closed) behind h in
          (u, ap (option_and_then (applied_all (ops_on tables ops))) y_is ∙ u_is, last)
      by (Some x) e h false b_is rest = rest x t n (subst (IsClosed tables) (sym (stays_defined op s x e)) closed) (off_step op s x n agree b_is e) h
