-- Rows counted: what a list of operations leaves depends only on which operations it has, not on their order, as long as
-- they apply. Each takes away the row that it finds, and adds the row that it leaves.
use Rattle.std.proofs.Common.{◌≡◌, ℕ, zero, suc, ◌+◌, Bool, true, false, cond, not, ◌&&◌, nat_eq, Option, Some, None, List, [], ◌∷◌, ◌++◌, slice_get, unwrap_or, refl, sym, ap, ◌∙◌, arith, eqb-true, append_assoc, append-nil}
use Rattle.std.specs.Option.{option_and_then}
use Rattle.std.specs.FinMap as fm
use Rattle.std.specs.FinMap.{empty}
use Rattle.table_state.specs.row_types.specs.declared.value.Value.{Value}
use Rattle.table_state.specs.row_types.proofs.OrderLaws.{key_total, key_exact}
use Rattle.table_state.specs.tier_base.specs.declared.number.TableId.{TableId}
use Rattle.table_state.specs.table_defs.specs.declared.definition.TableDef.{TableDef}
use Rattle.table_state.specs.declared.history.Entry.{Entry}
use Rattle.table_state.specs.declared.history.Entry.TheVariants.{Definition, Foreign, Own}
use Rattle.table_state.specs.declared.operation.Op.{Op}
use Rattle.table_state.specs.declared.operation.Op.TheVariants.{Insert, Update, Delete}
use Rattle.table_state.specs.indexed_rows.specs.Rows.{Table, is_same, key_of}
use Rattle.table_state.specs.indexed_rows.proofs.EntryLaws.{same_itself, same_values}
use Rattle.table_state.specs.Histories.{after_entry, no_tables, state_from, state_of}
use Rattle.table_state.specs.Tables.{TableState, fits_columns, has_parent, is_there, table_at}
use Rattle.table_state.specs.Operations.{applied, applied_all, table_of}
use Rattle.table_state.proofs.ChangeLaws.{row_found}
use Rattle.table_state.proofs.IndependenceLaws.{stays_defined}
use Rattle.order_laws.specs.Effects.{row_left_by, row_at}
use Rattle.order_laws.specs.Steps.{ops_in}
use Rattle.order_laws.proofs.NextLaws.{all_defined}
use Rattle.order_laws.proofs.StepLaws.{Applies, asks, is_none, key_in, parts, row_after}
use Rattle.order_laws.proofs.TruthLaws.{both_true}

abbrev Row : Type 0
Row = List Value

-- the row that an operation finds at its key, none where there is none
abbrev pub found_by : Op → Option Row
found_by (Insert t row) = None
found_by (Update t old new) = Some old
found_by (Delete t old) = Some old

found_is : (op : Op) (s : TableState) (def : TableDef) (table : Table) → asks op s def table ≡ true → fm.get table (key_in def op) ≡ found_by op
found_is (Insert t row) s def table asked =
    is_none (fm.get table (key_of def.primary_key row)) (both_true (fits_columns def.columns row) (not (fm.contains_key table (key_of def.primary_key row))) (both_true _ (has_parent s def.foreign_key row) asked).0).1
found_is (Update t old new) s def table asked =
    let first = (both_true _ (has_parent s def.foreign_key new) asked).0 in
    let second = both_true (fits_columns def.columns new && is_same (key_of def.primary_key old) (key_of def.primary_key new)) (is_there def old table) first in
    let keys : key_of def.primary_key old ≡ key_of def.primary_key new = same_values _ _ (both_true (fits_columns def.columns new) _ second.0).1 in
    ap (fm.get table) (sym keys) ∙ row_found old (fm.get table (key_of def.primary_key old)) second.1
found_is (Delete t old) s def table asked = row_found old (fm.get table (key_of def.primary_key old)) (both_true (is_there def old table) _ asked).0

abbrev pub holds : Option Row → Row → Bool
holds None r = false
holds (Some x) r = is_same x r

-- weights of operations

abbrev pub total : (Op → ℕ) → List Op → ℕ
total w [] = 0
total w (op ∷ ops) = w op + total w ops

abbrev pub weigh : (Op → ℕ) → List Entry → ℕ
weigh w [] = 0
weigh w (e ∷ es) = total w (ops_in e) + weigh w es

pub weigh-append : (w : Op → ℕ) (xs ys : List Entry) → weigh w (xs ++ ys) ≡ weigh w xs + weigh w ys
weigh-append w [] ys = omega arith
weigh-append w (x ∷ xs) ys = let rest : weigh w (xs ++ ys) ≡ weigh w xs + weigh w ys = weigh-append w xs ys in omega arith

-- a row at a key, counted
module _ (def : TableDef) (t : TableId) (k r : Row) where
  abbrev pub is_at : Op → Bool
  is_at op = nat_eq (table_of op).0 t.0 && is_same k (key_in def op)

  abbrev pub adds : Op → ℕ
  adds op = cond (is_at op && holds (row_left_by op) r) 1 0

  abbrev pub takes : Op → ℕ
  takes op = cond (is_at op && holds (found_by op) r) 1 0

  abbrev pub count : TableState → ℕ
  count s = cond (holds (row_at s t k) r) 1 0

  -- the table's definition, where it has one
  abbrev Known : TableState → Type 0
  Known s = (d : TableDef) → slice_get s.schema t.0 ≡ Some d → d ≡ def

  one_step : (op : Op) (s n : TableState) → Applies op s n → Known s → count n + takes op ≡ count s + adds op
  one_step op s n a known = by (nat_eq (table_of op).0 t.0) refl (is_same k (key_in def op)) refl
    where
      elsewhere : (b c : Bool) → nat_eq (table_of op).0 t.0 ≡ b → is_same k (key_in def op) ≡ c → (b && c) ≡ false → row_at n t k ≡ row_at s t k → count n + takes op ≡ count s + adds op
      elsewhere b c e f none same =
          let off : is_at op ≡ false = (λ i. e i && f i) ∙ none in
          let n_is : count n ≡ count s = ap (λ o. cond (holds o r) 1 0) same in
          let takes_is : takes op ≡ 0 = ap (λ x. cond (x && holds (found_by op) r) 1 0) off in
          let adds_is : adds op ≡ 0 = ap (λ x. cond (x && holds (row_left_by op) r) 1 0) off in
          omega arith

      def_is : nat_eq (table_of op).0 t.0 ≡ true → a.def ≡ def
      def_is e = known a.def (ap (slice_get s.schema) (sym (eqb-true (table_of op).0 t.0 e)) ∙ a.defined)

      by : (b : Bool) → nat_eq (table_of op).0 t.0 ≡ b → (c : Bool) → is_same k (key_in def op) ≡ c → count n + takes op ≡ count s + adds op
      by false e c f = elsewhere false c e f refl (row_after op s n a t k ∙ ap (λ b. cond (b && is_same k (key_in a.def op)) (row_left_by op) (row_at s t k)) e)
      by true e false f = elsewhere true false e f refl
          (row_after op s n a t k ∙ (λ i. cond (nat_eq (table_of op).0 t.0 && is_same k (key_in (def_is e i) op)) (row_left_by op) (row_at s t k)) ∙ (λ i. cond (e i && f i) (row_left_by op) (row_at s t k)))
      by true e true f =
          let now : row_at n t k ≡ row_left_by op =
          row_after op s n a t k ∙ (λ i. cond (nat_eq (table_of op).0 t.0 && is_same k (key_in (def_is e i) op)) (row_left_by op) (row_at s t k)) ∙ (λ i. cond (e i && f i) (row_left_by op) (row_at s t k))
          in
          let key : key_in a.def op ≡ k = ap (λ d. key_in d op) (def_is e) ∙ sym (same_values k (key_in def op) f) in
          let before : row_at s t k ≡ found_by op =
          ap (λ i. fm.get (unwrap_or (slice_get s.tables i) empty) k) (sym (eqb-true (table_of op).0 t.0 e))
          ∙ ap (λ o. fm.get (unwrap_or o empty) k) a.there
          ∙ ap (fm.get a.table) (sym key)
          ∙ found_is op s a.def a.table a.asked
          in
          let on : is_at op ≡ true = λ i. e i && f i in
          let n_is : count n ≡ cond (holds (row_left_by op) r) 1 0 = ap (λ o. cond (holds o r) 1 0) now in
          let s_is : count s ≡ cond (holds (found_by op) r) 1 0 = ap (λ o. cond (holds o r) 1 0) before in
          let takes_is : takes op ≡ cond (holds (found_by op) r) 1 0 = ap (λ x. cond (x && holds (found_by op) r) 1 0) on in
          let adds_is : adds op ≡ cond (holds (row_left_by op) r) 1 0 = ap (λ x. cond (x && holds (row_left_by op) r) 1 0) on in
          omega arith

  all_steps : (ops : List Op) (s n : TableState) → applied_all ops s ≡ Some n → Known s → count n + total takes ops ≡ count s + total adds ops
  all_steps [] s n is known = let same : count s ≡ count n = ap count (some_is is) in omega arith
    where
      some_is : {X : Type 0} {x y : X} → Some x ≡ Some y → x ≡ y
      some_is e = cc
  all_steps (op ∷ ops) s n is known = by (applied op s) refl is (all_steps ops)
    where
      by : (o : Option TableState) → applied op s ≡ o → option_and_then (applied_all ops) o ≡ Some n
          → ((s n : TableState) → applied_all ops s ≡ Some n → Known s → count n + total takes ops ≡ count s + total adds ops) → count n + (takes op + total takes ops) ≡ count s + (adds op + total adds ops)
      by None e h rest = cc
      by (Some u) e h rest =
          let first : count u + takes op ≡ count s + adds op = one_step op s u (parts op s u e) known in
          let later : count n + total takes ops ≡ count u + total adds ops = rest u n h (λ d d_is. known d (ap (λ l. slice_get l t.0) (sym (stays_defined op s u e)) ∙ d_is)) in
          omega arith

-- the schema that a history leaves

abbrev pub defs_of : List Entry → List TableDef
defs_of [] = []
defs_of (Definition def ∷ es) = def ∷ defs_of es
defs_of (Foreign ops ∷ es) = defs_of es
defs_of (Own ticket ops ∷ es) = defs_of es

pub schema_after : (es : List Entry) (s n : TableState) → state_from es s ≡ Some n → n.schema ≡ s.schema ++ defs_of es
schema_after [] s n is = let same : s ≡ n = cc in ap (λ x. x.schema) (sym same) ∙ sym (append-nil s.schema)
schema_after (Definition def ∷ es) s n is = schema_after es _ n is ∙ append_assoc s.schema (def ∷ []) (defs_of es)
schema_after (Foreign ops ∷ es) s n is = by (applied_all ops s) refl is (schema_after es)
  where
    by : (o : Option TableState) → applied_all ops s ≡ o → option_and_then (state_from es) o ≡ Some n → ((s n : TableState) → state_from es s ≡ Some n → n.schema ≡ s.schema ++ defs_of es) → n.schema ≡ s.schema ++ defs_of es
    by None e h rest = cc
    by (Some u) e h rest = rest u n h ∙ ap (λ l. l ++ defs_of es) (all_defined ops s u e)
schema_after (Own ticket ops ∷ es) s n is = by (applied_all ops s) refl is (schema_after es)
  where
    by : (o : Option TableState) → applied_all ops s ≡ o → option_and_then (state_from es) o ≡ Some n → ((s n : TableState) → state_from es s ≡ Some n → n.schema ≡ s.schema ++ defs_of es) → n.schema ≡ s.schema ++ defs_of es
    by None e h rest = cc
    by (Some u) e h rest = rest u n h ∙ ap (λ l. l ++ defs_of es) (all_defined ops s u e)

pub get_front : {X : Type 0} (xs ys : List X) (i : ℕ) (x : X) → slice_get xs i ≡ Some x → slice_get (xs ++ ys) i ≡ Some x
get_front [] ys i x e = cc
get_front (y ∷ xs) ys zero x e = e
get_front (y ∷ xs) ys (suc i) x e = get_front xs ys i x e

pub stays_known : (es : List Entry) (s n : TableState) (i : ℕ) (d : TableDef) → state_from es s ≡ Some n → slice_get s.schema i ≡ Some d → slice_get n.schema i ≡ Some d
stays_known es s n i d is e = ap (λ l. slice_get l i) (schema_after es s n is) ∙ get_front s.schema (defs_of es) i d e

pub rows_later : (tables : List Table) (i : ℕ) → unwrap_or (slice_get (tables ++ empty ∷ []) i) empty ≡ unwrap_or (slice_get tables i) empty
rows_later [] zero = refl
rows_later [] (suc i) = refl
rows_later (table ∷ tables) zero = refl
rows_later (table ∷ tables) (suc i) = rows_later tables i

module _ (def : TableDef) (t : TableId) (k r : Row) where
  entry_steps : (e : Entry) (s n : TableState) → after_entry e s ≡ Some n → Known def t k r s → count def t k r n + total (takes def t k r) (ops_in e) ≡ count def t k r s + total (adds def t k r) (ops_in e)
  entry_steps (Definition d) s n is known =
      let same : record { schema = s.schema ++ d ∷ []; tables = s.tables ++ empty ∷ [] } ≡ n = cc in
      let counts : count def t k r n ≡ count def t k r s = ap (count def t k r) (sym same) ∙ ap (λ m. cond (holds (fm.get m k) r) 1 0) (rows_later s.tables t.0) in
      omega arith
  entry_steps (Foreign ops) s n is known = all_steps def t k r ops s n is known
  entry_steps (Own ticket ops) s n is known = all_steps def t k r ops s n is known

  pub counted : (es : List Entry) (s n : TableState) → state_from es s ≡ Some n → Known def t k r n → count def t k r n + weigh (takes def t k r) es ≡ count def t k r s + weigh (adds def t k r) es
  counted [] s n is known = let same : s ≡ n = cc in let counts : count def t k r s ≡ count def t k r n = ap (count def t k r) same in omega arith
  counted (e ∷ es) s n is known = by (after_entry e s) refl is (counted es)
    where
      by : (o : Option TableState) → after_entry e s ≡ o → option_and_then (state_from es) o ≡ Some n
          → ((s n : TableState) → state_from es s ≡ Some n → Known def t k r n → count def t k r n + weigh (takes def t k r) es ≡ count def t k r s + weigh (adds def t k r) es)
          → count def t k r n + (total (takes def t k r) (ops_in e) + weigh (takes def t k r) es) ≡ count def t k r s + (total (adds def t k r) (ops_in e) + weigh (adds def t k r) es)
      by None h f rest = cc
      by (Some u) h f rest =
          let later : count def t k r n + weigh (takes def t k r) es ≡ count def t k r u + weigh (adds def t k r) es = rest u n f known in
          let first : count def t k r u + total (takes def t k r) (ops_in e) ≡ count def t k r s + total (adds def t k r) (ops_in e) =
          entry_steps e s u h (λ d d_is. known d (stays_known es u n t.0 d f (stays_known (e ∷ []) s u t.0 d (ap (option_and_then (state_from [])) h) d_is)))
          in
          omega arith

-- rows that are counted alike are the same

abbrev one : Bool → ℕ
one b = cond b 1 0

same_rows : (x y : Option Row) → ((r : Row) → one (holds x r) ≡ one (holds y r)) → x ≡ y
same_rows None None same = refl
same_rows None (Some b) same = let e : 0 ≡ one (is_same b b) = same b in let f : one (is_same b b) ≡ 1 = ap one (same_itself b b refl) in absurd (omega arith)
same_rows (Some a) None same = let e : one (is_same a a) ≡ 0 = same a in let f : one (is_same a a) ≡ 1 = ap one (same_itself a a refl) in absurd (omega arith)
same_rows (Some a) (Some b) same = ap Some (by (is_same a b) refl)
  where
    by : (c : Bool) → is_same a b ≡ c → a ≡ b
    by true e = same_values a b e
    by false e =
        let alike : one (is_same a b) ≡ one (is_same b b) = same b in
        let none : one (is_same a b) ≡ 0 = ap one e in
        let other : one (is_same b b) ≡ 1 = ap one (same_itself b b refl) in
        absurd (omega arith)

-- two histories of the same operations on a table, of which both apply, leave the same rows in it
pub same_table : (xs ys : List Entry) (v o : TableState) (t : TableId) (def : TableDef) → state_of xs ≡ Some v → state_of ys ≡ Some o → slice_get v.schema t.0 ≡ Some def → slice_get o.schema t.0 ≡ Some def
    → ((w : Op → ℕ) → ((op : Op) → nat_eq (table_of op).0 t.0 ≡ false → w op ≡ 0) → weigh w xs ≡ weigh w ys) → table_at o t ≡ table_at v t
same_table xs ys v o t def v_is o_is v_def o_def same = fm.same_map key_total key_exact (table_at o t) (table_at v t) (λ k. same_rows (row_at o t k) (row_at v t k) (λ r.
    let a : count def t k r v + weigh (takes def t k r) xs ≡ count def t k r no_tables + weigh (adds def t k r) xs = counted def t k r xs no_tables v v_is (known v v_def) in
    let b : count def t k r o + weigh (takes def t k r) ys ≡ count def t k r no_tables + weigh (adds def t k r) ys = counted def t k r ys no_tables o o_is (known o o_def) in
    let c : weigh (takes def t k r) xs ≡ weigh (takes def t k r) ys = same (takes def t k r) (λ op off. ap (λ b. cond (b && is_same k (key_in def op) && holds (found_by op) r) 1 0) off) in
    let d : weigh (adds def t k r) xs ≡ weigh (adds def t k r) ys = same (adds def t k r) (λ op off. ap (λ b. cond (b && is_same k (key_in def op) && holds (row_left_by op) r) 1 0) off) in
    omega arith))
  where
    known : (s : TableState) → slice_get s.schema t.0 ≡ Some def → (d : TableDef) → slice_get s.schema t.0 ≡ Some d → d ≡ def
    known s e d d_is = some_is (sym d_is ∙ e)
      where
        some_is : {X : Type 0} {x y : X} → Some x ≡ Some y → x ≡ y
        some_is e = cc
