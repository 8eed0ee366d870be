-- Operations that conflict with none of the entries before them may as well come before these.
use Rattle.std.proofs.Common.{◌≡◌, true, false, not, ◌&&◌, ◌||◌, Option, Some, None, is_some, List, [], ◌∷◌, ◌++◌, length, slice_get, refl, sym, ap, ◌∙◌, arith, append_assoc}
use Rattle.std.specs.List.{list_any}
use Rattle.std.specs.Option.{option_and_then}
use Rattle.std.specs.FinMap as fm
use Rattle.std.specs.FinMap.{empty}
use Rattle.std.proofs.lemmas.List.{length-map, nil_from_length}
use Rattle.table_state.specs.row_types.specs.declared.value.Value.{Value}
use Rattle.table_state.specs.row_types.specs.Order.{key_order}
use Rattle.table_state.specs.tier_base.specs.declared.number.TableId.{TableId}
use Rattle.table_state.specs.table_defs.specs.declared.definition.ForeignKey.{ForeignKey}
use Rattle.table_state.specs.table_defs.specs.declared.definition.TableDef.{TableDef}
use Rattle.table_state.specs.declared.history.Entry.{Entry}
use Rattle.table_state.specs.declared.history.Entry.TheVariants.{Definition, Foreign, Own}
use Rattle.table_state.specs.declared.operation.Op.{Op}
use Rattle.table_state.specs.declared.operation.Op.TheVariants.{Insert, Update, Delete}
use Rattle.table_state.specs.indexed_rows.specs.Rows.{Table, is_same, key_of}
use Rattle.table_state.specs.Footprints.{conflict, footprint_of}
use Rattle.table_state.specs.Histories.{state_from}
use Rattle.table_state.specs.Independence.{IsWhole, with_new}
use Rattle.table_state.specs.Tables.{TableState, fits_columns, has_child_in, has_parent, is_there, names_parent}
use Rattle.table_state.specs.Operations.{applied, applied_all, table_of}
use Rattle.table_state.proofs.IndependenceLaws.{all_whole, applied_later, entry_whole, stays_defined, stays_whole}
use Rattle.order_laws.specs.Standing.{are_on_defined}
use Rattle.order_laws.specs.Steps.{ops_in}
use Rattle.order_laws.proofs.AgreeLaws.{no_element}
use Rattle.order_laws.proofs.CountLaws.{defs_of, get_front, rows_later}
use Rattle.order_laws.proofs.EffectLaws.{all_parted}
use Rattle.order_laws.proofs.NextLaws.{all_defined}
use Rattle.order_laws.proofs.PairLaws.{Parted}
use Rattle.order_laws.proofs.StepLaws.{Applies, after, asks, parts, whole}
use Rattle.order_laws.proofs.TableLaws.{footprint_later, get_same, known_where_applied}
use Rattle.order_laws.proofs.TruthLaws.{both_true, same_some}

abbrev Row : Type 0
Row = List Value

-- an operation on a table that is there asks the same with a table behind the others

no_values : ◌≡◌ {A = List Row} (fm.values {R = key_order} empty) []
no_values = nil_from_length (fm.values empty) (length-map (fm.entries empty) (λ e. e.1) ∙ sym (fm.len-entries empty) ∙ fm.len-empty key_order Row)

child_later : (new : TableDef) (defs : List TableDef) (tables : List Table) (t : TableId) (key : Row) → length tables ≡ length defs → has_child_in (defs ++ new ∷ []) (tables ++ empty ∷ []) t key ≡ has_child_in defs tables t key
child_later new [] [] t key e = ap (λ l. list_any (names_parent t key new.foreign_key) l || false) no_values
child_later new [] (table ∷ tables) t key e = absurd (omega arith)
child_later new (def ∷ defs) [] t key e = absurd (omega arith)
child_later new (def ∷ defs) (table ∷ tables) t key e =
    ap (λ b. list_any (names_parent t key def.foreign_key) (fm.values table) || b) (child_later new defs tables t key (omega arith))

parent_later : (d : TableDef) (s : TableState) (foreign : Option ForeignKey) (row : Row) → has_parent (with_new d s) foreign row ≡ has_parent s foreign row
parent_later d s None row = refl
parent_later d s (Some foreign) row = ap (λ m. fm.contains_key m (key_of foreign.columns row)) (rows_later s.tables foreign.parent.0)

asks_later : (op : Op) (d : TableDef) (s : TableState) → IsWhole s → (def : TableDef) (table : Table) → asks op (with_new d s) def table ≡ asks op s def table
asks_later (Insert t row) d s whole def table = ap (λ b. fits_columns def.columns row && not (fm.contains_key table (key_of def.primary_key row)) && b) (parent_later d s def.foreign_key row)
asks_later (Update t old new) d s whole def table =
    ap (λ b. fits_columns def.columns new && is_same (key_of def.primary_key old) (key_of def.primary_key new) && is_there def old table && b) (parent_later d s def.foreign_key new)
asks_later (Delete t old) d s whole def table = ap (λ b. is_there def old table && not b) (child_later d s.schema s.tables t (key_of def.primary_key old) whole)

op_before : (op : Op) (d : TableDef) (s m : TableState) → IsWhole s → is_some (slice_get s.schema (table_of op).0) ≡ true → applied op (with_new d s) ≡ Some m → (y : TableState) × (applied op s ≡ Some y) × (m ≡ with_new d y)
op_before op d s m is_whole known is =
    let a = parts op (with_new d s) m is in
    let defined : slice_get s.schema (table_of op).0 ≡ Some a.def = sym (get_same s.schema (d ∷ []) (table_of op).0 known) ∙ a.defined in
    let (y, y_is) = by a defined (slice_get s.tables (table_of op).0) refl in
    (y, y_is, same_some (sym is ∙ applied_later op d s y is_whole y_is))
  where
    by : (a : Applies op (with_new d s) m) → slice_get s.schema (table_of op).0 ≡ Some a.def → (o : Option Table) → slice_get s.tables (table_of op).0 ≡ o → (y : TableState) × (applied op s ≡ Some y)
    by a defined None e = let none : slice_get s.schema (table_of op).0 ≡ None = no_element s.tables s.schema (table_of op).0 e (sym is_whole) in cc
    by a defined (Some table) e =
        let same : a.table ≡ table = same_some (sym a.there ∙ get_front s.tables (empty ∷ []) (table_of op).0 table e) in (
          after op a.def s,
          whole op s (after op a.def s) (record {
            def = a.def;
            table = table;
            defined = defined;
            there = e;
            asked = sym (asks_later op d s is_whole a.def table) ∙ ap (asks op (with_new d s) a.def) (sym same) ∙ a.asked;
            gives = refl;
          }),
        )

ops_before : (ops : List Op) (d : TableDef) (s m : TableState) → IsWhole s → are_on_defined s.schema ops ≡ true → applied_all ops (with_new d s) ≡ Some m → (y : TableState) × (applied_all ops s ≡ Some y) × (m ≡ with_new d y)
ops_before [] d s m is_whole known is = let same : with_new d s ≡ m = cc in (s, refl, sym same)
ops_before (op ∷ ops) d s m is_whole known is = by (applied op (with_new d s)) refl is (ops_before ops d)
  where
    first : (is_some (slice_get s.schema (table_of op).0) ≡ true) × (are_on_defined s.schema ops ≡ true)
    first = both_true (is_some (slice_get s.schema (table_of op).0)) (are_on_defined s.schema ops) known

    by : (o : Option TableState) → applied op (with_new d s) ≡ o → option_and_then (applied_all ops) o ≡ Some m
        → ((s m : TableState) → IsWhole s → are_on_defined s.schema ops ≡ true → applied_all ops (with_new d s) ≡ Some m → (y : TableState) × (applied_all ops s ≡ Some y) × (m ≡ with_new d y))
        → (y : TableState) × (option_and_then (applied_all ops) (applied op s) ≡ Some y) × (m ≡ with_new d y)
    by None e h rest = cc
    by (Some t) e h rest =
        let (x, x_is, t_is) = op_before op d s t is_whole first.0 e in
        let (y, y_is, m_is) = rest x m (stays_whole op s x x_is is_whole) (ap (λ l. are_on_defined l ops) (stays_defined op s x x_is) ∙ first.1) (ap (applied_all ops) (sym t_is) ∙ h) in
        (y, ap (option_and_then (applied_all ops)) x_is ∙ y_is, m_is)

-- no entry conflicts with the operations
abbrev pub NoneMeets : List TableDef → List Entry → List Op → Type 0
NoneMeets schema [] ops = Unit {0}
NoneMeets schema (e ∷ es) ops = (conflict (footprint_of schema (ops_in e)) (footprint_of schema ops) ≡ false) × NoneMeets schema es ops

pub known_more : (schema more : List TableDef) (ops : List Op) → are_on_defined schema ops ≡ true → are_on_defined (schema ++ more) ops ≡ true
known_more schema more [] known = refl
known_more schema more (op ∷ ops) known =
    let (first, rest) = both_true (is_some (slice_get schema (table_of op).0)) (are_on_defined schema ops) known in
    λ i. (ap is_some (get_same schema more (table_of op).0 first) ∙ first) i && known_more schema more ops rest i

-- past one transaction
past_one : (whole more : List TableDef) (own ops : List Op) (s t z : TableState) → whole ≡ s.schema ++ more → are_on_defined s.schema ops ≡ true → conflict (footprint_of whole own) (footprint_of whole ops) ≡ false
    → applied_all own s ≡ Some t → applied_all ops t ≡ Some z → (y : TableState) × (applied_all ops s ≡ Some y) × (applied_all own y ≡ Some z)
past_one whole more own ops s t z whole_is known none own_is ops_is =
    let here : conflict (footprint_of s.schema own) (footprint_of s.schema ops) ≡ false =
    sym (λ i. conflict (footprint_later s.schema more own (known_where_applied own s t own_is) i) (footprint_later s.schema more ops known i))
    ∙ ap (λ l. conflict (footprint_of l own) (footprint_of l ops)) (sym whole_is) ∙ none
    in
    by (all_parted own ops s here) (applied_all ops s) refl
  where
    by : Parted (applied_all own) (applied_all ops) s → (o : Option TableState) → applied_all ops s ≡ o → (y : TableState) × (applied_all ops s ≡ Some y) × (applied_all own y ≡ Some z)
    by p None e = let none : applied_all ops t ≡ None = p.first t own_is e in let both : None ≡ Some z = sym none ∙ ops_is in cc
    by p (Some y) e = let (w, behind, own_behind) = p.both t y own_is e in (y, e, own_behind ∙ ap Some (same_some (sym behind ∙ ops_is)))

-- past a list of entries
pub goes_before : (es : List Entry) (ops : List Op) (whole more : List TableDef) (s x z : TableState) → whole ≡ s.schema ++ (defs_of es ++ more) → IsWhole s → are_on_defined s.schema ops ≡ true → NoneMeets whole es ops
    → state_from es s ≡ Some x → applied_all ops x ≡ Some z → (y : TableState) × (applied_all ops s ≡ Some y) × (state_from es y ≡ Some z)
goes_before [] ops whole more s x z whole_is is_whole known none es_is ops_is = let same : s ≡ x = cc in (z, ap (applied_all ops) same ∙ ops_is, refl)
goes_before (Definition d ∷ es) ops whole more s x z whole_is is_whole known none es_is ops_is =
    let (y, y_is, rest) = goes_before es ops whole more (with_new d s) x z (whole_is ∙ ap (λ l. s.schema ++ l) refl ∙ sym (append_assoc s.schema (d ∷ []) (defs_of es ++ more))) (entry_whole (Definition d) s (with_new d s) refl is_whole) (known_more s.schema (d ∷ []) ops known) none.1 es_is ops_is in
    let (w, w_is, y_w) = ops_before ops d s y is_whole known y_is in
    (w, w_is, ap (state_from es) (sym y_w) ∙ rest)
goes_before (Foreign own ∷ es) ops whole more s x z whole_is is_whole known none es_is ops_is = by (applied_all own s) refl es_is (goes_before es ops whole more)
  where
    by : (o : Option TableState) → applied_all own s ≡ o → option_and_then (state_from es) o ≡ Some x
        → ((s x z : TableState) → whole ≡ s.schema ++ (defs_of es ++ more) → IsWhole s → are_on_defined s.schema ops ≡ true → NoneMeets whole es ops → state_from es s ≡ Some x → applied_all ops x ≡ Some z → (y : TableState) × (applied_all ops s ≡ Some y) × (state_from es y ≡ Some z))
        → (y : TableState) × (applied_all ops s ≡ Some y) × (option_and_then (state_from es) (applied_all own y) ≡ Some z)
    by None e h rest = cc
    by (Some t) e h rest =
        let schema : t.schema ≡ s.schema = all_defined own s t e in
        let (u, u_is, last) = rest t x z (whole_is ∙ ap (λ l. l ++ (defs_of es ++ more)) (sym schema)) (all_whole own s t e is_whole) (ap (λ l. are_on_defined l ops) schema ∙ known) none.1 h ops_is in
        let (y, y_is, own_is) = past_one whole (defs_of es ++ more) own ops s t u whole_is known none.0 e u_is in
        (y, y_is, ap (option_and_then (state_from es)) own_is ∙ last)
goes_before (Own ticket own ∷ es) ops whole more s x z whole_is is_whole known none es_is ops_is = by (applied_all own s) refl es_is (goes_before es ops whole more)
  where
    by : (o : Option TableState) → applied_all own s ≡ o → option_and_then (state_from es) o ≡ Some x
        → ((s x z : TableState) → whole ≡ s.schema ++ (defs_of es ++ more) → IsWhole s → are_on_defined s.schema ops ≡ true → NoneMeets whole es ops → state_from es s ≡ Some x → applied_all ops x ≡ Some z → (y : TableState) × (applied_all ops s ≡ Some y) × (state_from es y ≡ Some z))
        → (y : TableState) × (applied_all ops s ≡ Some y) × (option_and_then (state_from es) (applied_all own y) ≡ Some z)
    by None e h rest = cc
    by (Some t) e h rest =
        let schema : t.schema ≡ s.schema = all_defined own s t e in
        let (u, u_is, last) = rest t x z (whole_is ∙ ap (λ l. l ++ (defs_of es ++ more)) (sym schema)) (all_whole own s t e is_whole) (ap (λ l. are_on_defined l ops) schema ∙ known) none.1 h ops_is in
        let (y, y_is, own_is) = past_one whole (defs_of es ++ more) own ops s t u whole_is known none.0 e u_is in
        (y, y_is, ap (option_and_then (state_from es)) own_is ∙ last)
