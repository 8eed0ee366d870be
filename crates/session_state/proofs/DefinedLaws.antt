-- Operations that apply are on tables of the schema.
use Rattle.std.proofs.Common.{◌≡◌, ℕ, true, Option, Some, None, List, [], ◌∷◌, length, slice_get, slice_set, refl, sym, ap, ◌∙◌, arith}
use Rattle.std.specs.Option.{option_and_then, option_map}
use Rattle.std.proofs.lemmas.Bool.{and_from, lt-ltb}
use Rattle.std.proofs.lemmas.Option.{slice_get_within}
use Rattle.own_rows.specs.tier_base.specs.declared.number.TableId.{TableId}
use Rattle.own_rows.specs.table_defs.specs.declared.definition.ForeignKey.{ForeignKey}
use Rattle.own_rows.specs.table_defs.specs.declared.definition.TableDef.{TableDef}
use Rattle.own_rows.specs.indexed_rows.specs.Rows.{Table}
use Rattle.own_rows.specs.table_state.specs.declared.operation.Op.{Op}
use Rattle.own_rows.specs.table_state.specs.declared.operation.Op.TheVariants.{Insert, Update, Delete}
use Rattle.own_rows.specs.table_state.specs.Operations.{applied, applied_all, on_table, table_of, with_change, with_row, without_row}
use Rattle.own_rows.specs.table_state.specs.Sound.{RefersBack}
use Rattle.own_rows.specs.table_state.specs.Tables.{TableState}
use Rattle.session_state.specs.Kept.{are_defined, has_both, has_parent_of}

-- the table is there, and the schema stays
record Applies (s n : TableState) (t : TableId) : Type 0 where
  def : TableDef
  def_is : slice_get s.schema t.0 ≡ Some def
  schema : n.schema ≡ s.schema

on_table_applies : (s n : TableState) (t : TableId) (change : TableDef → Table → Option Table) → on_table s t change ≡ Some n → Applies s n t
on_table_applies s n t change e = by (slice_get s.schema t.0) (slice_get s.tables t.0) refl e
  where
    last : (def : TableDef) → slice_get s.schema t.0 ≡ Some def → (o : Option Table) → option_map (λ new. record { schema = s.schema; tables = slice_set s.tables t.0 new }) o ≡ Some n → Applies s n t
    last def d None e = cc
    last def d (Some new) e =
        let same : record { schema = s.schema; tables = slice_set s.tables t.0 new } ≡ n = cc in
        record { def = def; def_is = d; schema = ap (λ (z : TableState). z.schema) (sym same) }

    by : (d : Option TableDef) (m : Option Table) → slice_get s.schema t.0 ≡ d
        → option_and_then (λ def. option_and_then (λ table. option_map (λ new. record { schema = s.schema; tables = slice_set s.tables t.0 new }) (change def table)) m) d ≡ Some n → Applies s n t
    by None m d_is e = cc
    by (Some def) None d_is e = cc
    by (Some def) (Some table) d_is e = last def d_is (change def table) e

applies : (op : Op) (s n : TableState) → applied op s ≡ Some n → Applies s n (table_of op)
applies (Insert t row) s n e = on_table_applies s n t (with_row s row) e
applies (Update t old new) s n e = on_table_applies s n t (with_change s old new) e
applies (Delete t old) s n e = on_table_applies s n t (without_row s t old) e

module _ (schema : List TableDef) (back : (t : ℕ) (def : TableDef) → slice_get schema t ≡ Some def → RefersBack t def) where
  one : (t : TableId) (def : TableDef) → slice_get schema t.0 ≡ Some def → has_both schema (slice_get schema t.0) ≡ true
  one t def is = ap (has_both schema) is ∙ by def.foreign_key refl
    where
      by : (o : Option ForeignKey) → def.foreign_key ≡ o → has_parent_of schema o ≡ true
      by None e = refl
      by (Some foreign) e =
          let below = back t.0 def is foreign e in
          let within = slice_get_within schema t.0 def is in
          lt-ltb foreign.parent.0 (length schema) (omega arith)

  all : (ops : List Op) (s n : TableState) → s.schema ≡ schema → applied_all ops s ≡ Some n → are_defined schema ops ≡ true
  all [] s n same e = refl
  all (op ∷ ops) s n same e = by (applied op s) refl e (λ m. all ops m n)
    where
      by : (o : Option TableState) → applied op s ≡ o → option_and_then (applied_all ops) o ≡ Some n → ((m : TableState) → m.schema ≡ schema → applied_all ops m ≡ Some n → are_defined schema ops ≡ true) → are_defined schema (op ∷ ops) ≡ true
      by None is e rest = cc
      by (Some m) is e rest =
          let a = applies op s m is in
          and_from (has_both schema (slice_get schema (table_of op).0)) (are_defined schema ops)
          (one (table_of op) a.def (ap (λ l. slice_get l (table_of op).0) (sym same) ∙ a.def_is)) (rest m (a.schema ∙ same) e)

pub applied_defined : (ops : List Op) (s n : TableState) → ((t : ℕ) (def : TableDef) → slice_get s.schema t ≡ Some def → RefersBack t def) → applied_all ops s ≡ Some n → are_defined s.schema ops ≡ true
applied_defined ops s n back e = all s.schema back ops s n refl e
