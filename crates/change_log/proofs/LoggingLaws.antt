-- Laws of the log of a history over the definitions behind it.
use Rattle.std.proofs.Common.{◌≡◌, ℕ, zero, suc, ◌+◌, ◌<◌, Bool, true, false, cond, Option, Some, None, List, [], ◌∷◌, ◌++◌, append_assoc, drop, length, get_or, slice_get, take, refl, sym, ap, subst, ◌∙◌}
use Rattle.std.proofs.lemmas.List.{take-append-drop}
use Rattle.std.specs.Option.{option_and_then}
use Rattle.table_state.specs.row_types.specs.declared.value.Value.{Value}
use Rattle.table_state.specs.tier_base.specs.declared.number.TableId.{TableId}
use Rattle.table_state.specs.table_defs.specs.declared.definition.TableDef.{TableDef}
use Rattle.table_state.specs.indexed_rows.specs.Rows.{key_of}
use Rattle.table_state.specs.indexed_rows.proofs.FirstLaws.{drop_at}
use Rattle.table_state.specs.indexed_rows.proofs.MapLaws.{slice_get_read}
use Rattle.table_state.specs.declared.history.Entry.{Entry}
use Rattle.table_state.specs.declared.history.Entry.TheVariants.{Definition, Foreign, Own}
use Rattle.table_state.specs.declared.operation.Op.{Op}
use Rattle.table_state.specs.declared.operation.Op.TheVariants.{Insert, Update, Delete}
use Rattle.table_state.specs.Copies.{is_one_of}
use Rattle.table_state.specs.Histories.{after_entry, state_at, state_from, state_of}
use Rattle.table_state.specs.Operations.{applied, applied_all, table_of, with_change, with_row, without_row}
use Rattle.table_state.specs.Tables.{TableState}
use Rattle.table_state.proofs.HistoryLaws.{state_of-append}
use Rattle.table_state.proofs.IndependenceLaws.{stays_defined}
use Rattle.change_log.specs.declared.log.RowChange.{RowChange}
use Rattle.change_log.specs.Laws.{HistoryNets, LogIsOver}
use Rattle.change_log.specs.Logs.{IsNet}
use Rattle.change_log.specs.Steps.{Leads, change_of, changes_of, entry_changes, key_in, logged_from, logged_over, of_tables}
use Rattle.change_log.proofs.NetLaws.{net_is_changed}
use Rattle.change_log.proofs.StepLaws.{history_leads, is_on}

-- ---- definitions stay

abbrev pub Keeps : List TableDef → List TableDef → Type 0
Keeps old new = (t : ℕ) (def : TableDef) → slice_get old t ≡ Some def → slice_get new t ≡ Some def

kept_behind : (schema : List TableDef) (more : TableDef) → Keeps schema (schema ++ more ∷ [])
kept_behind [] more t def e = cc
kept_behind (d ∷ schema) more zero def e = e
kept_behind (d ∷ schema) more (suc t) def e = kept_behind schema more t def e

all_stay : (ops : List Op) (s n : TableState) → applied_all ops s ≡ Some n → n.schema ≡ s.schema
all_stay [] s n e = let same : s ≡ n = cc in ap (λ (x : TableState). x.schema) (sym same)
all_stay (op ∷ ops) s n e = by (applied op s) refl e (λ m h. all_stay ops m n h)
  where
    by : (o : Option TableState) → applied op s ≡ o → option_and_then (applied_all ops) o ≡ Some n → ((m : TableState) → applied_all ops m ≡ Some n → n.schema ≡ m.schema) → n.schema ≡ s.schema
    by None is h further = cc
    by (Some m) is h further = further m h ∙ stays_defined op s m is

entry_keeps : (entry : Entry) (s n : TableState) → after_entry entry s ≡ Some n → Keeps s.schema n.schema
entry_keeps (Definition more) s n e t def at =
    let same : s.schema ++ more ∷ [] ≡ n.schema = ap schema_of e in
    ap (λ (l : List TableDef). slice_get l t) (sym same) ∙ kept_behind s.schema more t def at
  where
    schema_of : Option TableState → List TableDef
    schema_of None = []
    schema_of (Some x) = x.schema
entry_keeps (Foreign ops) s n e t def at = ap (λ (l : List TableDef). slice_get l t) (all_stay ops s n e) ∙ at
entry_keeps (Own ticket ops) s n e t def at = ap (λ (l : List TableDef). slice_get l t) (all_stay ops s n e) ∙ at

pub history_keeps : (entries : List Entry) (s n : TableState) → state_from entries s ≡ Some n → Keeps s.schema n.schema
history_keeps [] s n e t def at = let same : s ≡ n = cc in ap (λ (x : TableState). slice_get x.schema t) (sym same) ∙ at
history_keeps (entry ∷ entries) s n e t def at = by (after_entry entry s) refl e (λ m h further. history_keeps entries m n h t def further)
  where
    by : (o : Option TableState) → after_entry entry s ≡ o → option_and_then (state_from entries) o ≡ Some n → ((m : TableState) → state_from entries m ≡ Some n → slice_get m.schema t ≡ Some def → slice_get n.schema t ≡ Some def) → slice_get n.schema t ≡ Some def
    by None is h further = cc
    by (Some m) is h further = further m h (entry_keeps entry s m is t def at)

-- ---- so the log is the same over them

-- the key of a row is the same
same_key : (old new : List TableDef) (t : TableId) (def : TableDef) (row : List Value) → Keeps old new → slice_get old t.0 ≡ Some def → key_in (slice_get old t.0) row ≡ key_in (slice_get new t.0) row
same_key old new t def row keeps at = ap (λ (o : Option TableDef). key_in o row) (at ∙ sym (keeps t.0 def at))

abbrev change_with : TableId → List Value → Option (List Value) → Option (List Value) → RowChange
change_with t key old new = record { table = t; key = key; old = old; new = new }

op_same : (op : Op) (s n : TableState) (schema : List TableDef) → applied op s ≡ Some n → Keeps s.schema schema → change_of s.schema op ≡ change_of schema op
op_same (Insert t row) s n schema e keeps =
    let on = is_on s t (with_row s row) n e in
    ap (λ (k : List Value). change_with t k None (Some row)) (same_key s.schema schema t on.def row keeps on.defined)
op_same (Update t old new) s n schema e keeps =
    let on = is_on s t (with_change s old new) n e in
    ap (λ (k : List Value). change_with t k (Some old) (Some new)) (same_key s.schema schema t on.def old keeps on.defined)
op_same (Delete t old) s n schema e keeps =
    let on = is_on s t (without_row s t old) n e in
    ap (λ (k : List Value). change_with t k (Some old) None) (same_key s.schema schema t on.def old keeps on.defined)

ops_same : (ops : List Op) (s n : TableState) (schema : List TableDef) → applied_all ops s ≡ Some n → Keeps s.schema schema → changes_of s.schema ops ≡ changes_of schema ops
ops_same [] s n schema e keeps = refl
ops_same (op ∷ ops) s n schema e keeps = by (applied op s) refl e (λ m h kept. ops_same ops m n schema h kept)
  where
    by : (o : Option TableState) → applied op s ≡ o → option_and_then (applied_all ops) o ≡ Some n → ((m : TableState) → applied_all ops m ≡ Some n → Keeps m.schema schema → changes_of m.schema ops ≡ changes_of schema ops)
        → changes_of s.schema (op ∷ ops) ≡ changes_of schema (op ∷ ops)
    by None is h further = cc
    by (Some m) is h further =
        let same : m.schema ≡ s.schema = stays_defined op s m is in
        let rest : changes_of m.schema ops ≡ changes_of schema ops = further m h (λ t def at. keeps t def (ap (λ (l : List TableDef). slice_get l t) (sym same) ∙ at)) in
        ap (λ c. c ∷ changes_of s.schema ops) (op_same op s m schema is keeps) ∙ ap (λ l. change_of schema op ∷ l) (ap (λ (l : List TableDef). changes_of l ops) (sym same) ∙ rest)

entry_same : (entry : Entry) (s n : TableState) (schema : List TableDef) → after_entry entry s ≡ Some n → Keeps s.schema schema → entry_changes s.schema entry ≡ entry_changes schema entry
entry_same (Definition def) s n schema e keeps = refl
entry_same (Foreign ops) s n schema e keeps = ops_same ops s n schema e keeps
entry_same (Own ticket ops) s n schema e keeps = ops_same ops s n schema e keeps

pub log_is_over : LogIsOver
log_is_over [] from to e = refl
log_is_over (entry ∷ entries) from to e = by (after_entry entry from) refl e (λ m h. log_is_over entries m to h)
  where
    by : (o : Option TableState) → after_entry entry from ≡ o → option_and_then (state_from entries) o ≡ Some to → ((m : TableState) → state_from entries m ≡ Some to → logged_from entries (Some m) ≡ logged_over to.schema entries)
        → entry_changes from.schema entry ++ logged_from entries o ≡ entry_changes to.schema entry ++ logged_over to.schema entries
    by None is h further = cc
    by (Some m) is h further =
        ap (λ l. l ++ logged_from entries (Some m)) (entry_same entry from m to.schema is (history_keeps (entry ∷ entries) from to e)) ∙ ap (λ l. entry_changes to.schema entry ++ l) (further m h)

pub goes_on : (history : List Entry) (n : ℕ) (from to : TableState) → state_at history n ≡ Some from → state_of history ≡ Some to → state_from (drop n history) from ≡ Some to
goes_on history n from to a b =
    ap (option_and_then (state_from (drop n history))) (sym a) ∙ sym (state_of-append (take n history) (drop n history)) ∙ ap state_of (take-append-drop n history) ∙ b

pub history_nets : HistoryNets
history_nets history since tables log from to a b nets =
    let behind : state_from (drop since history) from ≡ Some to = goes_on history since from to a b in
    net_is_changed tables (logged_over to.schema (drop since history)) log from to
    (subst (λ (l : List RowChange). Leads l from to) (log_is_over (drop since history) from to behind) (history_leads (drop since history) from to behind)) nets

-- ---- the log, made operation by operation

of_append : (tables : List TableId) (a b : List RowChange) → of_tables tables (a ++ b) ≡ of_tables tables a ++ of_tables tables b
of_append tables [] b = refl
of_append tables (c ∷ a) b = by (is_one_of tables c.table) (of_append tables a b)
  where
    by : (t : Bool) → of_tables tables (a ++ b) ≡ of_tables tables a ++ of_tables tables b
        → cond t (c ∷ of_tables tables (a ++ b)) (of_tables tables (a ++ b)) ≡ cond t (c ∷ of_tables tables a) (of_tables tables a) ++ of_tables tables b
    by true rest = ap (λ l. c ∷ l) rest
    by false rest = rest

its_table : (schema : List TableDef) (op : Op) → (change_of schema op).table ≡ table_of op
its_table schema (Insert t row) = refl
its_table schema (Update t old new) = refl
its_table schema (Delete t old) = refl

abbrev where_covered : List TableId → List TableDef → Op → List RowChange
where_covered tables schema op = cond (is_one_of tables (table_of op)) (change_of schema op ∷ []) []

op_front : (tables : List TableId) (schema : List TableDef) (op : Op) (rest : List RowChange) → of_tables tables (change_of schema op ∷ rest) ≡ where_covered tables schema op ++ of_tables tables rest
op_front tables schema op rest =
    ap (λ (t : TableId). cond (is_one_of tables t) (change_of schema op ∷ of_tables tables rest) (of_tables tables rest)) (its_table schema op) ∙ split (is_one_of tables (table_of op))
  where
    split : (b : Bool) → cond b (change_of schema op ∷ of_tables tables rest) (of_tables tables rest) ≡ cond b (change_of schema op ∷ []) [] ++ of_tables tables rest
    split true = refl
    split false = refl

pub op_more : (tables : List TableId) (schema : List TableDef) (ops : List Op) (i : ℕ) (op : Op) → i < length ops → op ≡ get_or ops i op → (out new all : List RowChange) → out ++ of_tables tables (changes_of schema (drop i ops)) ≡ all
    → new ≡ out ++ where_covered tables schema op → new ++ of_tables tables (changes_of schema (drop (i + 1) ops)) ≡ all
op_more tables schema ops i op lt is out new all so_far grown =
    let rest : List RowChange = of_tables tables (changes_of schema (drop (i + 1) ops)) in
    ap (λ l. l ++ rest) grown ∙ append_assoc out (where_covered tables schema op) rest
    ∙ ap (λ l. out ++ l) (sym (op_front tables schema op (changes_of schema (drop (i + 1) ops))) ∙ ap (λ (l : List Op). of_tables tables (changes_of schema l)) (sym (drop_at ops i op (slice_get_read ops i op lt is))))
    ∙ so_far

pub entry_more : (tables : List TableId) (schema : List TableDef) (entries : List Entry) (i : ℕ) (entry : Entry) → i < length entries → entry ≡ get_or entries i entry → (out new all : List RowChange)
    → out ++ of_tables tables (logged_over schema (drop i entries)) ≡ all → new ≡ out ++ of_tables tables (entry_changes schema entry) → new ++ of_tables tables (logged_over schema (drop (i + 1) entries)) ≡ all
entry_more tables schema entries i entry lt is out new all so_far grown =
    let rest : List RowChange = of_tables tables (logged_over schema (drop (i + 1) entries)) in
    ap (λ l. l ++ rest) grown ∙ append_assoc out (of_tables tables (entry_changes schema entry)) rest
    ∙ ap (λ l. out ++ l) (sym (of_append tables (entry_changes schema entry) (logged_over schema (drop (i + 1) entries))) ∙ ap (λ (l : List Entry). of_tables tables (logged_over schema l)) (sym (drop_at entries i entry (slice_get_read entries i entry lt is))))
    ∙ so_far
