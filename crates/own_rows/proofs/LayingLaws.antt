-- Laws of what operations make of own rows.
use Rattle.std.proofs.Common.{◌≡◌, ℕ, zero, suc, ◌+◌, ◌-◌, ◌<◌, ◌^◌, Bool, true, false, cond, not, ◌&&◌, Option, Some, None, is_some, List, [], ◌∷◌, length, slice_get, slice_set, unwrap_or, inl, inr, refl, sym, ap, subst, ◌∙◌, arith}
use Rattle.std.specs.Option.{option_and_then, option_map}
use Rattle.std.specs.Ordering.{eq_by_cmp, is_eq}
use Rattle.std.specs.FinMap.{contains_key, empty, get, get-insert, get-remove, insert, len, len-remove, remove, same_map}
use Rattle.std.proofs.lemmas.Cmp.{tied_itself}
use Rattle.std.proofs.lemmas.Bool.{cases_eq}
use Rattle.table_state.specs.row_types.specs.declared.value.Value.{Value}
use Rattle.table_state.specs.row_types.specs.Order.{key_order}
use Rattle.table_state.specs.row_types.proofs.OrderLaws.{key_total, key_exact}
use Rattle.table_state.specs.tier_base.specs.declared.number.TableId.{TableId}
use Rattle.table_state.specs.table_defs.specs.declared.definition.TableDef.{TableDef}
use Rattle.table_state.specs.indexed_rows.specs.Rows.{Table, is_same, key_of, put_in}
use Rattle.table_state.specs.indexed_rows.proofs.EntryLaws.{same_values}
use Rattle.table_state.specs.declared.operation.Op.{Op}
use Rattle.table_state.specs.declared.operation.Op.TheVariants.{Insert, Update, Delete}
use Rattle.table_state.specs.Operations.{applied, on_table, only_if, table_of, with_change, with_row, without_row}
use Rattle.table_state.specs.Tables.{TableState, fits_columns, has_child, has_parent, is_found, is_there, table_at}
use Rattle.own_rows.specs.declared.own.OwnRows.{OwnRows}
use Rattle.own_rows.specs.Over.{Lies}
use Rattle.own_rows.specs.Overlays.{left_over, over_all, overlaid}
use Rattle.own_rows.specs.Laying.{LiesOn, laid_in, with_changed, with_new, without}
use Rattle.own_rows.specs.Knowing.{Knows}
use Rattle.own_rows.proofs.LyingLaws.{back, changed, dropped, new_key, old_key, put_new, taken_out}

abbrev pub Key : Type 0
Key = List Value

both_true : (a b : Bool) → (a && b) ≡ true → (a ≡ true) × (b ≡ true)
both_true true b e = (refl, e)
both_true false b e = cc

untrue : (b : Bool) → not b ≡ true → b ≡ false
untrue true e = cc
untrue false e = refl

same_some : {X : Type 0} (x y : X) → Some x ≡ Some y → x ≡ y
same_some x y e = cc

found_row : (row : Key) (x : Option Key) → is_found row x ≡ true → x ≡ Some row
found_row row None e = cc
found_row row (Some y) e = ap Some (same_values y row e)

-- one table

module _ (own : OwnRows) (base now : Table) (lies : Lies own.live own.fresh own.gone base now) (key row : Key) where
  lies_new : contains_key now key ≡ false → Lies (with_new key row own).live (with_new key row own).fresh (with_new key row own).gone base (insert now key row)
  lies_new none =
      let absent = (new_key key_total key_exact own.live own.fresh own.gone base now lies key none).1 in
      let fresh_is : put_in own.fresh key [] ≡ insert own.fresh key [] = ap (λ b. cond b own.fresh (insert own.fresh key [])) absent in
      elim (contains_key own.gone key) as (λ b. contains_key own.gone key ≡ b → Lies (insert own.live key row) (cond b own.fresh (put_in own.fresh key [])) (cond b (remove own.gone key) own.gone) base (insert now key row)) [
        | true ↦ λ g. back key_total key_exact own.live own.fresh own.gone base now lies key row [] none g
        | false ↦ λ g. subst (λ m. Lies (insert own.live key row) m own.gone base (insert now key row)) (sym fresh_is) (put_new key_total key_exact own.live own.fresh own.gone base now lies key row [] none g)
      ] refl

  lies_changed : contains_key now key ≡ true → Lies (with_changed key row own).live (with_changed key row own).fresh (with_changed key row own).gone base (insert now key row)
  lies_changed some = changed key_total key_exact own.live own.fresh own.gone base now lies key row [] some

  lies_without : contains_key now key ≡ true → Lies (without key own).live (without key own).fresh (without key own).gone base (remove now key)
  lies_without some =
      let absent = (old_key key_total key_exact own.live own.fresh own.gone base now lies key some).0 in
      let gone_is : put_in own.gone key [] ≡ insert own.gone key [] = ap (λ b. cond b own.gone (insert own.gone key [])) absent in
      elim (contains_key own.fresh key) as (λ b. contains_key own.fresh key ≡ b → Lies (remove own.live key) (cond b (remove own.fresh key) own.fresh) (cond b own.gone (put_in own.gone key [])) base (remove now key)) [
        | true ↦ λ f. dropped key_total key_exact own.live own.fresh own.gone base now lies key row [] some f
        | false ↦ λ f. subst (λ m. Lies (remove own.live key) own.fresh m base (remove now key)) (sym gone_is) (taken_out key_total key_exact own.live own.fresh own.gone base now lies key row [] some f)
      ] refl

-- what an operation that applies makes of its table
record Made (op : Op) (s n : TableState) : Type 0 where
  def : TableDef
  table : Table
  new : Table
  def_is : slice_get s.schema (table_of op).0 ≡ Some def
  table_is : slice_get s.tables (table_of op).0 ≡ Some table
  made : n ≡ record { schema = s.schema; tables = slice_set s.tables (table_of op).0 new }
  step : (own : OwnRows) (base : Table) → Lies own.live own.fresh own.gone base table → Lies (laid_in def op own).live (laid_in def op own).fresh (laid_in def op own).gone base new

record OnTable (s : TableState) (t : TableId) (change : TableDef → Table → Option Table) (n : TableState) : Type 0 where
  def : TableDef
  table : Table
  new : Table
  def_is : slice_get s.schema t.0 ≡ Some def
  table_is : slice_get s.tables t.0 ≡ Some table
  change_is : change def table ≡ Some new
  made : n ≡ record { schema = s.schema; tables = slice_set s.tables t.0 new }

on_table_is : (s : TableState) (t : TableId) (change : TableDef → Table → Option Table) (n : TableState) → on_table s t change ≡ Some n → OnTable s t change n
on_table_is s t change n e = by (slice_get s.schema t.0) (slice_get s.tables t.0) refl refl e
  where
    last : (def : TableDef) (table : Table) → slice_get s.schema t.0 ≡ Some def → slice_get s.tables t.0 ≡ Some table → (o : Option Table) → change def table ≡ o → option_map (λ new. record { schema = s.schema; tables = slice_set s.tables t.0 new }) o ≡ Some n → OnTable s t change n
    last def table d m None c e = cc
    last def table d m (Some new) c e = record { def = def; table = table; new = new; def_is = d; table_is = m; change_is = c; made = sym (same_some (record { schema = s.schema; tables = slice_set s.tables t.0 new }) n e) }

    by : (d : Option TableDef) (m : Option Table) → slice_get s.schema t.0 ≡ d → slice_get s.tables t.0 ≡ m
        → option_and_then (λ def. option_and_then (λ table. option_map (λ new. record { schema = s.schema; tables = slice_set s.tables t.0 new }) (change def table)) m) d ≡ Some n → OnTable s t change n
    by None m d_is m_is e = cc
    by (Some def) None d_is m_is e = cc
    by (Some def) (Some table) d_is m_is e = last def table d_is m_is (change def table) refl e

only : (b : Bool) (x y : Table) → only_if b x ≡ Some y → (b ≡ true) × (x ≡ y)
only true x y e = (refl, same_some x y e)
only false x y e = cc

made_by : (op : Op) (s n : TableState) → applied op s ≡ Some n → Made op s n
made_by (Insert t row) s n e =
    let o = on_table_is s t (with_row s row) n e in
    let k = key_of o.def.primary_key row in
    let x = only (fits_columns o.def.columns row && not (contains_key o.table k) && has_parent s o.def.foreign_key row) (insert o.table k row) o.new o.change_is in
    let parts = both_true _ _ (both_true _ _ x.0).0 in
    record {
      def = o.def;
      table = o.table;
      new = o.new;
      def_is = o.def_is;
      table_is = o.table_is;
      made = o.made;
      step = λ own base lies. subst (λ m. Lies (with_new k row own).live (with_new k row own).fresh (with_new k row own).gone base m) x.1 (lies_new own base o.table lies k row (untrue (contains_key o.table k) parts.1));
    }
made_by (Update t old new) s n e =
    let o = on_table_is s t (with_change s old new) n e in
    let k = key_of o.def.primary_key new in
    let x = only (fits_columns o.def.columns new && is_same (key_of o.def.primary_key old) k && is_there o.def old o.table && has_parent s o.def.foreign_key new) (insert o.table k new) o.new o.change_is in
    let first = both_true _ _ (both_true _ _ x.0).0 in
    let same : key_of o.def.primary_key old ≡ k = same_values _ _ (both_true _ _ first.0).1 in
    let there : contains_key o.table k ≡ true = ap (contains_key o.table) (sym same) ∙ ap is_some (found_row old (get o.table (key_of o.def.primary_key old)) first.1) in
    record {
      def = o.def;
      table = o.table;
      new = o.new;
      def_is = o.def_is;
      table_is = o.table_is;
      made = o.made;
      step = λ own base lies. subst (λ m. Lies (with_changed k new own).live (with_changed k new own).fresh (with_changed k new own).gone base m) x.1 (lies_changed own base o.table lies k new there);
    }
made_by (Delete t old) s n e =
    let o = on_table_is s t (without_row s t old) n e in
    let k = key_of o.def.primary_key old in
    let x = only (is_there o.def old o.table && not (has_child s t k)) (remove o.table k) o.new o.change_is in
    let there : contains_key o.table k ≡ true = ap is_some (found_row old (get o.table k) (both_true _ _ x.0).0) in
    record {
      def = o.def;
      table = o.table;
      new = o.new;
      def_is = o.def_is;
      table_is = o.table_is;
      made = o.made;
      step = λ own base lies. subst (λ m. Lies (without k own).live (without k own).fresh (without k own).gone base m) x.1 (lies_without own base o.table lies k old there);
    }

-- lists with one element changed

pub set_here : {X : Type 0} (xs : List X) (i : ℕ) (x y : X) → slice_get xs i ≡ Some x → slice_get (slice_set xs i y) i ≡ Some y
set_here [] i x y e = cc
set_here (z ∷ xs) zero x y e = refl
set_here (z ∷ xs) (suc i) x y e = set_here xs i x y e

pub set_other : {X : Type 0} (xs : List X) (i j : ℕ) (y : X) → (i ≡ j → ⊥) → slice_get (slice_set xs i y) j ≡ slice_get xs j
set_other [] i j y apart = refl
set_other (z ∷ xs) zero zero y apart = absurd (apart refl)
set_other (z ∷ xs) zero (suc j) y apart = refl
set_other (z ∷ xs) (suc i) zero y apart = refl
set_other (z ∷ xs) (suc i) (suc j) y apart = set_other xs i j y (λ e. apart (ap suc e))

pub set_length : {X : Type 0} (xs : List X) (i : ℕ) (y : X) → length (slice_set xs i y) ≡ length xs
set_length [] i y = refl
set_length (z ∷ xs) zero y = refl
set_length (z ∷ xs) (suc i) y = ap suc (set_length xs i y)

-- all tables

pub lies_more : (schema : List TableDef) (op : Op) (owns : List OwnRows) (s now new : TableState) (def : TableDef) (own : OwnRows) → Knows schema now.schema → slice_get schema (table_of op).0 ≡ Some def → slice_get owns (table_of op).0 ≡ Some own
    → LiesOn owns s now → applied op now ≡ Some new → LiesOn (slice_set owns (table_of op).0 (laid_in def op own)) s new
lies_more schema op owns s now new def own knows def_is own_is lies e =
    let m = made_by op now new e in
    let same : m.def ≡ def = same_some m.def def (sym m.def_is ∙ knows (table_of op).0 def def_is) in
    let tables_is : new.tables ≡ slice_set now.tables (table_of op).0 m.new = ap (λ (n : TableState). n.tables) m.made in
    let at_now : table_at now (table_of op) ≡ m.table = ap (λ o. unwrap_or o empty) m.table_is in
    record {
      own = λ t o is. elim (cases_eq (table_of op).0 t.0) as (λ d. Lies o.live o.fresh o.gone (table_at s t) (table_at new t)) [
        | inl here ↦
            let o_is : laid_in def op own ≡ o = same_some (laid_in def op own) o (sym (set_here owns (table_of op).0 own (laid_in def op own) own_is) ∙ ap (slice_get (slice_set owns (table_of op).0 (laid_in def op own))) here ∙ is) in
            let new_is : table_at new t ≡ m.new = ap (λ l. unwrap_or (slice_get l t.0) empty) tables_is ∙ ap (λ i. unwrap_or (slice_get (slice_set now.tables (table_of op).0 m.new) i) empty) (sym here) ∙ ap (λ x. unwrap_or x empty) (set_here now.tables (table_of op).0 m.table m.new m.table_is) in
            let base_is : table_at s (table_of op) ≡ table_at s t = ap (λ i. unwrap_or (slice_get s.tables i) empty) here in
            let before : Lies own.live own.fresh own.gone (table_at s t) m.table = subst (λ b. Lies own.live own.fresh own.gone b m.table) base_is (subst (Lies own.live own.fresh own.gone (table_at s (table_of op))) at_now (lies.own (table_of op) own own_is)) in
            let after = m.step own (table_at s t) before in
            let by_def : Lies (laid_in def op own).live (laid_in def op own).fresh (laid_in def op own).gone (table_at s t) m.new = subst (λ d. Lies (laid_in d op own).live (laid_in d op own).fresh (laid_in d op own).gone (table_at s t) m.new) same after in
            subst (λ z. Lies o.live o.fresh o.gone (table_at s t) z) (sym new_is) (subst (λ (z : OwnRows). Lies z.live z.fresh z.gone (table_at s t) m.new) o_is by_def)
        | inr apart ↦
            let new_is : table_at new t ≡ table_at now t = ap (λ l. unwrap_or (slice_get l t.0) empty) tables_is ∙ ap (λ x. unwrap_or x empty) (set_other now.tables (table_of op).0 t.0 m.new apart) in
            subst (λ z. Lies o.live o.fresh o.gone (table_at s t) z) (sym new_is) (lies.own t o (sym (set_other owns (table_of op).0 t.0 (laid_in def op own) apart) ∙ is))
      ];
      other = λ t none. elim (cases_eq (table_of op).0 t.0) as (λ d. table_at new t ≡ table_at s t) [
        | inl here ↦ absurd (clash (laid_in def op own) (sym (set_here owns (table_of op).0 own (laid_in def op own) own_is) ∙ ap (slice_get (slice_set owns (table_of op).0 (laid_in def op own))) here ∙ none))
        | inr apart ↦
            ap (λ l. unwrap_or (slice_get l t.0) empty) tables_is ∙ ap (λ x. unwrap_or x empty) (set_other now.tables (table_of op).0 t.0 m.new apart)
            ∙ lies.other t (sym (set_other owns (table_of op).0 t.0 (laid_in def op own) apart) ∙ none)
      ];
      schema = ap (λ (n : TableState). n.schema) m.made ∙ lies.schema;
      whole = ap length tables_is ∙ set_length now.tables (table_of op).0 m.new ∙ lies.whole;
    }
  where
    clash : (o : OwnRows) → Some o ≡ None → ⊥
    clash o e = cc

-- what lies on the tables makes what is seen
all_over : (owns : List OwnRows) (ts ns : List Table) → length ns ≡ length ts → ((i : ℕ) (own : OwnRows) → slice_get owns i ≡ Some own → unwrap_or (slice_get ns i) empty ≡ left_over own (unwrap_or (slice_get ts i) empty)) → ((i : ℕ) → slice_get owns i ≡ None → unwrap_or (slice_get ns i) empty ≡ unwrap_or (slice_get ts i) empty)
    → over_all owns ts ≡ ns
all_over owns [] [] long own other = nothing owns
  where
    nothing : (owns : List OwnRows) → over_all owns [] ≡ []
    nothing [] = refl
    nothing (o ∷ owns) = refl
all_over owns [] (n ∷ ns) long own other = absurd (omega arith)
all_over owns (t ∷ ts) [] long own other = absurd (omega arith)
all_over [] (t ∷ ts) (n ∷ ns) long own other =
    let here : n ≡ t = other zero refl in
    let rest = all_over [] ts ns (omega arith) (λ i o is. absurd (clash o is)) (λ i none. other (suc i) refl) in
    λ i. sym here i ∷ rest i
  where
    clash : (o : OwnRows) → None ≡ Some o → ⊥
    clash o e = cc
all_over (o ∷ owns) (t ∷ ts) (n ∷ ns) long own other =
    let here : n ≡ left_over o t = own zero o refl in
    let rest = all_over owns ts ns (omega arith) (λ i p is. own (suc i) p is) (λ i none. other (suc i) none) in
    λ i. sym here i ∷ rest i

pub seen : (owns : List OwnRows) (s now : TableState) → LiesOn owns s now → overlaid owns s ≡ now
seen owns s now lies =
    let tables : over_all owns s.tables ≡ now.tables = all_over owns s.tables now.tables lies.whole (λ i own is. (lies.own (record { 0 = i }) own is).is) (λ i none. lies.other (record { 0 = i }) none) in
    λ i. record { schema = sym lies.schema i; tables = tables i }

-- a row put over what was there
pub over_is : (m left new : Table) (key k row : Key) → k ≡ key → left ≡ remove m k → new ≡ put_in left key row → new ≡ insert m key row
over_is m left new key k row k_is left_is new_is =
    let gone : contains_key (remove m key) key ≡ false = ap is_some (get-remove key_total m key key ∙ ap (λ b. cond b None (get m key)) (tie key)) in
    let left' : left ≡ remove m key = left_is ∙ ap (remove m) k_is in
    new_is ∙ ap (λ l. put_in l key row) left' ∙ ap (λ b. cond b (remove m key) (insert (remove m key) key row)) gone
    ∙ same_map key_total key_exact (insert (remove m key) key row) (insert m key row) (λ q. get-insert key_total (remove m key) key row q ∙ ap (cond (eq_by_cmp key_order q key) (Some row)) (get-remove key_total m key q) ∙ again (eq_by_cmp key_order q key) (get m q) ∙ sym (get-insert key_total m key row q))
  where
    tie : (q : Key) → eq_by_cmp key_order q q ≡ true
    tie q = ap is_eq (tied_itself key_total q)

    again : (b : Bool) (x : Option Key) → cond b (Some row) (cond b None x) ≡ cond b (Some row) x
    again true x = refl
    again false x = refl

pub fewer : (m left : Table) (k : Key) → left ≡ remove m k → len m + 1 < 2 ^ 63 → len left + 1 < 2 ^ 63
fewer m left k is room = let l = len-remove key_total m k in by (contains_key m k) l
  where
    by : (b : Bool) → len (remove m k) ≡ cond b (len m - 1) (len m) → len left + 1 < 2 ^ 63
    by true e = let same : len left ≡ len (remove m k) = ap len is in omega arith
    by false e = let same : len left ≡ len (remove m k) = ap len is in omega arith
