-- What is kept under a schema is kept under one that knows it.
use Rattle.std.proofs.Common.{◌≡◌, zero, suc, ◌<◌, ◌≤◌, true, Option, Some, None, List, [], ◌∷◌, ◌++◌, length, slice_get, refl, sym, ap, subst, ◌∙◌, arith}
use Rattle.std.specs.List.{flat_map}
use Rattle.std.proofs.lemmas.Bool.{and_from, and_parts, lt-ltb, ltb-true}
use Rattle.std.proofs.lemmas.Option.{slice_get_within}
use Rattle.own_rows.specs.table_defs.specs.declared.definition.ForeignKey.{ForeignKey}
use Rattle.own_rows.specs.table_defs.specs.declared.definition.TableDef.{TableDef}
use Rattle.own_rows.specs.table_state.specs.declared.footprint.Footprint.{Footprint}
use Rattle.own_rows.specs.table_state.specs.declared.footprint.RowKey.{RowKey}
use Rattle.own_rows.specs.table_state.specs.declared.operation.Op.{Op}
use Rattle.own_rows.specs.table_state.specs.Footprints.{conflict, footprint_of, referred_by, referred_key, rows_of, written_by, written_key}
use Rattle.own_rows.specs.table_state.specs.Operations.{table_of}
use Rattle.own_rows.specs.Knowing.{Knows}
use Rattle.own_rows.proofs.RowsLaws.{rows_grown}
use Rattle.own_rows.proofs.StepLaws.{found}
use Rattle.session_state.specs.declared.session.Session.{Session}
use Rattle.session_state.specs.Holding.{AreKeysOf}
use Rattle.session_state.specs.Kept.{IsKept, are_defined, has_both, has_parent_of}
use Rattle.session_state.specs.Locks.{IsApart}

pub knows_more : (schema more : List TableDef) → Knows schema (schema ++ more)
knows_more [] more i def e = cc
knows_more (x ∷ schema) more zero def e = e
knows_more (x ∷ schema) more (suc i) def e = knows_more schema more i def e

module _ (schema more : List TableDef) (grew : Knows schema more) where
  no_fewer : length more < length schema → ⊥
  no_fewer less =
      let last = found schema (length more) less in
      let past = slice_get_within more (length more) last.0 (grew (length more) last.0 last.1) in
      absurd (omega arith)

  longer : length schema ≤ length more
  longer = let no = no_fewer in omega (arith, no)

  same_def : (op : Op) → has_both schema (slice_get schema (table_of op).0) ≡ true → slice_get more (table_of op).0 ≡ slice_get schema (table_of op).0
  same_def op e = by (slice_get schema (table_of op).0) refl e
    where
      by : (o : Option TableDef) → slice_get schema (table_of op).0 ≡ o → has_both schema o ≡ true → slice_get more (table_of op).0 ≡ slice_get schema (table_of op).0
      by None is e = cc
      by (Some def) is e = grew (table_of op).0 def is ∙ sym is

  parent_grown : (o : Option ForeignKey) → has_parent_of schema o ≡ true → has_parent_of more o ≡ true
  parent_grown None e = refl
  parent_grown (Some foreign) e =
      let lt = ltb-true foreign.parent.0 (length schema) e in
      let le = longer in
      lt-ltb foreign.parent.0 (length more) (omega arith)

  both_grown : (o : Option TableDef) → has_both schema o ≡ true → has_both more o ≡ true
  both_grown None e = cc
  both_grown (Some def) e = parent_grown def.foreign_key e

  pub defined_grown : (ops : List Op) → are_defined schema ops ≡ true → are_defined more ops ≡ true
  defined_grown [] e = refl
  defined_grown (op ∷ ops) e =
      let parts = and_parts (has_both schema (slice_get schema (table_of op).0)) (are_defined schema ops) e in
      let here = ap (has_both more) (same_def op parts.0) ∙ both_grown (slice_get schema (table_of op).0) parts.0 in
      and_from (has_both more (slice_get more (table_of op).0)) (are_defined more ops) here (defined_grown ops parts.1)

  all_grown : (f : List TableDef → Op → List RowKey) → ((op : Op) → has_both schema (slice_get schema (table_of op).0) ≡ true → f more op ≡ f schema op) → (ops : List Op) → are_defined schema ops ≡ true → flat_map (f more) ops ≡ flat_map (f schema) ops
  all_grown f one [] e = refl
  all_grown f one (op ∷ ops) e =
      let parts = and_parts (has_both schema (slice_get schema (table_of op).0)) (are_defined schema ops) e in
      ap (λ l. l ++ flat_map (f more) ops) (one op parts.0) ∙ ap (λ l. f schema op ++ l) (all_grown f one ops parts.1)

  pub written_grown : (ops : List Op) → are_defined schema ops ≡ true → (footprint_of more ops).written ≡ (footprint_of schema ops).written
  written_grown = all_grown written_by (λ op e. ap (λ d. flat_map (written_key (table_of op) d) (rows_of op)) (same_def op e))

  pub referred_grown : (ops : List Op) → are_defined schema ops ≡ true → (footprint_of more ops).referred ≡ (footprint_of schema ops).referred
  referred_grown = all_grown referred_by (λ op e. ap (λ d. flat_map (referred_key d) (rows_of op)) (same_def op e))

  pub footprint_grown : (ops : List Op) → are_defined schema ops ≡ true → footprint_of more ops ≡ footprint_of schema ops
  footprint_grown ops e = both (footprint_of more ops) (footprint_of schema ops) (written_grown ops e) (referred_grown ops e)
    where
      both : (f g : Footprint) → f.written ≡ g.written → f.referred ≡ g.referred → f ≡ g
      both f g w r =
          let here : f ≡ record { written = g.written; referred = f.referred } = ap (λ l. record { written = l; referred = f.referred }) w in
          here ∙ ap (λ l. record { written = g.written; referred = l }) r

  pub kept_grown : (s : Session) → IsKept schema s → IsKept more s
  kept_grown s kept =
      let written = written_grown s.ops.items kept.defined in
      let referred = referred_grown s.ops.items kept.defined in
      let wide = longer in
      record {
        rows = rows_grown schema more s.ops.items s.own grew kept.rows;
        written = subst (λ l. AreKeysOf l s.written) (sym written) kept.written;
        referred = subst (λ l. AreKeysOf l s.referred) (sym referred) kept.referred;
        defined = defined_grown s.ops.items kept.defined;
        few = kept.few;
        own_within = (let w = kept.own_within in omega arith);
        written_within = (let w = kept.written_within in omega arith);
        referred_within = (let w = kept.referred_within in omega arith);
        own_room = kept.own_room;
        written_room = λ n le. let long = ap length written in kept.written_room n (omega arith);
        referred_room = λ n le. let long = ap length referred in kept.referred_room n (omega arith);
      }

  pub apart_grown : (ops others : List Op) → are_defined schema ops ≡ true → are_defined schema others ≡ true → IsApart schema ops others → IsApart more ops others
  apart_grown ops others e f apart =
      ap (λ p. conflict p (footprint_of more others)) (footprint_grown ops e)
      ∙ ap (conflict (footprint_of schema ops)) (footprint_grown others f) ∙ apart
