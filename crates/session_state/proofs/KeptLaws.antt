-- Laws of what a session keeps.
use Rattle.std.proofs.Common.{◌≡◌, ℕ, ◌+◌, ◌*◌, ◌<◌, ◌≤◌, ◌^◌, true, Option, Some, None, List, [], ◌∷◌, ◌++◌, length, map, slice_get, refl, sym, ap, subst, ◌∙◌, arith, length-append}
use Rattle.std.specs.List.{All, flat_map}
use Rattle.std.proofs.lemmas.Bool.{and_parts, and_from, ltb-true}
use Rattle.std.proofs.lemmas.List.Elements.{All-cons}
use Rattle.std.proofs.lemmas.List.Folds.{list_all-append}
use Rattle.std.proofs.lemmas.Option.{slice_get_within}
use Rattle.own_rows.specs.tier_base.specs.declared.limit.Limit.TheVariants as limit
use Rattle.own_rows.specs.tier_base.specs.declared.number.TableId.{TableId}
use Rattle.own_rows.specs.tier_base.specs.Limits.{greatest}
use Rattle.own_rows.specs.row_types.specs.declared.value.Value.{Value}
use Rattle.own_rows.specs.indexed_rows.specs.Rows.{Table}
use Rattle.own_rows.specs.table_defs.specs.declared.definition.ForeignKey.{ForeignKey}
use Rattle.own_rows.specs.table_defs.specs.declared.definition.TableDef.{TableDef}
use Rattle.own_rows.specs.table_state.specs.declared.footprint.RowKey.{RowKey}
use Rattle.own_rows.specs.table_state.specs.declared.operation.Op.{Op}
use Rattle.own_rows.specs.table_state.specs.declared.operation.Op.TheVariants.{Insert, Update, Delete}
use Rattle.own_rows.specs.table_state.specs.Footprints.{footprint_of, parent_key, referred_by, referred_key, rows_of, written_by, written_key}
use Rattle.own_rows.specs.table_state.specs.Operations.{table_of}
use Rattle.own_rows.specs.declared.own.OwnRows.{OwnRows}
use Rattle.own_rows.specs.Laying.{HaveRoom}
use Rattle.own_rows.specs.OwnTables.{AreRowsOf}
use Rattle.own_rows.proofs.RowsLaws.{rows_none}
use Rattle.session_state.specs.declared.session.Session.{Session}
use Rattle.std.proofs.lemmas.List.{length-map}
use Rattle.session_state.specs.declared.mark.Mark.{Mark}
use Rattle.session_state.specs.Holding.{AreKeysOf, KeysHaveRoom, KeysWithin, key_of_mark}
use Rattle.session_state.specs.Kept.{IsKept, are_defined, has_both, has_parent_of}
use Rattle.session_state.proofs.HoldingLaws.{footprint_more, no_keys}

no_room : (n : ℕ) → HaveRoom n []
no_room n i own at = absurd (clash own at)
  where
    clash : (o : OwnRows) → None ≡ Some o → ⊥
    clash o e = cc

no_keys_room : (n : ℕ) → KeysHaveRoom n []
no_keys_room n i m at = absurd (clash m at)
  where
    clash : (o : Table) → None ≡ Some o → ⊥
    clash o e = cc

-- a session that holds nothing
pub kept_none : (schema : List TableDef) (s : Session) → s.ops.items ≡ [] → s.own ≡ [] → s.written ≡ [] → s.referred ≡ [] → IsKept schema s
kept_none schema s ops own written referred = record {
  rows = subst (λ o. AreRowsOf schema o s.own) (sym ops) (subst (AreRowsOf schema []) (sym own) (rows_none schema));
  written = subst (λ o. AreKeysOf (footprint_of schema o).written s.written) (sym ops) (subst (AreKeysOf []) (sym written) no_keys);
  referred = subst (λ o. AreKeysOf (footprint_of schema o).referred s.referred) (sym ops) (subst (AreKeysOf []) (sym referred) no_keys);
  defined = ap (are_defined schema) ops;
  few = (let e : length s.ops.items ≡ 0 = ap length ops in omega arith);
  own_within = (let e : length s.own ≡ 0 = ap length own in omega arith);
  written_within = (let e : length s.written ≡ 0 = ap length written in omega arith);
  referred_within = (let e : length s.referred ≡ 0 = ap length referred in omega arith);
  own_room = λ n le. subst (HaveRoom n) (sym own) (no_room n);
  written_room = λ n le. subst (KeysHaveRoom n) (sym written) (no_keys_room n);
  referred_room = λ n le. subst (KeysHaveRoom n) (sym referred) (no_keys_room n);
}

-- the same operations over wider places
pub kept_wider : (schema : List TableDef) (old new : Session) → IsKept schema old → new.ops.items ≡ old.ops.items → AreRowsOf schema old.ops.items new.own → AreKeysOf (footprint_of schema old.ops.items).written new.written → AreKeysOf (footprint_of schema old.ops.items).referred new.referred
    → length new.own ≤ length schema → length new.written ≤ length schema → length new.referred ≤ length schema
    → ((n : ℕ) → n < 2 ^ 63 → HaveRoom n old.own → HaveRoom n new.own) → ((n : ℕ) → n < 2 ^ 63 → KeysHaveRoom n old.written → KeysHaveRoom n new.written) → ((n : ℕ) → n < 2 ^ 63 → KeysHaveRoom n old.referred → KeysHaveRoom n new.referred)
    → IsKept schema new
kept_wider schema old new kept ops rows written referred own_in written_in referred_in own_room written_room referred_room = record {
  rows = subst (λ o. AreRowsOf schema o new.own) (sym ops) rows;
  written = subst (λ o. AreKeysOf (footprint_of schema o).written new.written) (sym ops) written;
  referred = subst (λ o. AreKeysOf (footprint_of schema o).referred new.referred) (sym ops) referred;
  defined = ap (are_defined schema) ops ∙ kept.defined;
  few = (let l : length new.ops.items ≡ length old.ops.items = ap length ops in let w = kept.few in omega arith);
  own_within = own_in;
  written_within = written_in;
  referred_within = referred_in;
  own_room = λ n le. let l : length new.ops.items ≡ length old.ops.items = ap length ops in own_room n (omega arith) (kept.own_room n (omega arith));
  written_room = λ n le. let l : length (footprint_of schema new.ops.items).written ≡ length (footprint_of schema old.ops.items).written = ap (λ o. length (footprint_of schema o).written) ops in written_room n (omega arith) (kept.written_room n (omega arith));
  referred_room = λ n le. let l : length (footprint_of schema new.ops.items).referred ≡ length (footprint_of schema old.ops.items).referred = ap (λ o. length (footprint_of schema o).referred) ops in referred_room n (omega arith) (kept.referred_room n (omega arith));
}

-- more operations
pub kept_more : (schema : List TableDef) (more : List Op) (old new : Session) → IsKept schema old → are_defined schema more ≡ true → length old.ops.items + length more ≤ greatest limit.Operations → new.ops.items ≡ old.ops.items ++ more
    → AreRowsOf schema (old.ops.items ++ more) new.own → AreKeysOf ((footprint_of schema old.ops.items).written ++ (footprint_of schema more).written) new.written → AreKeysOf ((footprint_of schema old.ops.items).referred ++ (footprint_of schema more).referred) new.referred
    → length new.own ≡ length old.own → length new.written ≡ length old.written → length new.referred ≡ length old.referred
    → ((n : ℕ) → HaveRoom (length more + n) old.own → HaveRoom n new.own) → ((n : ℕ) → KeysHaveRoom (length (footprint_of schema more).written + n) old.written → KeysHaveRoom n new.written) → ((n : ℕ) → KeysHaveRoom (length (footprint_of schema more).referred + n) old.referred → KeysHaveRoom n new.referred)
    → IsKept schema new
kept_more schema more old new kept defined few ops rows written referred own_long written_long referred_long own_room written_room referred_room =
    let print = footprint_more schema old.ops.items more in
    let all : length new.ops.items ≡ length old.ops.items + length more = ap length ops ∙ length-append old.ops.items more in
    let all_written : length (footprint_of schema new.ops.items).written ≡ length (footprint_of schema old.ops.items).written + length (footprint_of schema more).written = ap (λ o. length (footprint_of schema o).written) ops ∙ ap length print.0 ∙ length-append (footprint_of schema old.ops.items).written (footprint_of schema more).written in
    let all_referred : length (footprint_of schema new.ops.items).referred ≡ length (footprint_of schema old.ops.items).referred + length (footprint_of schema more).referred = ap (λ o. length (footprint_of schema o).referred) ops ∙ ap length print.1 ∙ length-append (footprint_of schema old.ops.items).referred (footprint_of schema more).referred in
    record {
      rows = subst (λ o. AreRowsOf schema o new.own) (sym ops) rows;
      written = subst (λ o. AreKeysOf (footprint_of schema o).written new.written) (sym ops) (subst (λ k. AreKeysOf k new.written) (sym print.0) written);
      referred = subst (λ o. AreKeysOf (footprint_of schema o).referred new.referred) (sym ops) (subst (λ k. AreKeysOf k new.referred) (sym print.1) referred);
      defined = ap (are_defined schema) ops ∙ list_all-append (λ op. has_both schema (slice_get schema (table_of op).0)) old.ops.items more ∙ and_from (are_defined schema old.ops.items) (are_defined schema more) kept.defined defined;
      few = omega arith;
      own_within = (let w = kept.own_within in omega arith);
      written_within = (let w = kept.written_within in omega arith);
      referred_within = (let w = kept.referred_within in omega arith);
      own_room = λ n le. own_room n (kept.own_room (length more + n) (omega arith));
      written_room = λ n le. written_room n (kept.written_room (length (footprint_of schema more).written + n) (omega arith));
      referred_room = λ n le. referred_room n (kept.referred_room (length (footprint_of schema more).referred + n) (omega arith));
    }

-- operations whose tables are in the schema

within_append : (n : ℕ) (xs ys : List RowKey) → KeysWithin n xs → KeysWithin n ys → KeysWithin n (xs ++ ys)
within_append n [] ys a b = b
within_append n (x ∷ xs) ys a b = (a.0, within_append n xs ys a.1 b)

within_each : {X : Type 0} (n : ℕ) (f : X → List RowKey) (xs : List X) → ((x : X) → KeysWithin n (f x)) → KeysWithin n (flat_map f xs)
within_each n f [] all = tt
within_each n f (x ∷ xs) all = within_append n (f x) (flat_map f xs) (all x) (within_each n f xs all)

module _ (schema : List TableDef) where
  table_in : (op : Op) → has_both schema (slice_get schema (table_of op).0) ≡ true → (table_of op).0 < length schema
  table_in op e = by (slice_get schema (table_of op).0) refl e
    where
      by : (o : Option TableDef) → slice_get schema (table_of op).0 ≡ o → has_both schema o ≡ true → (table_of op).0 < length schema
      by None is e = cc
      by (Some def) is e = slice_get_within schema (table_of op).0 def is

  written_in : (op : Op) → has_both schema (slice_get schema (table_of op).0) ≡ true → KeysWithin (length schema) (written_by schema op)
  written_in op e = let lt = table_in op e in within_each (length schema) (written_key (table_of op) (slice_get schema (table_of op).0)) (rows_of op) (λ row. by row (slice_get schema (table_of op).0) lt)
    where
      by : (row : List Value) (o : Option TableDef) → (table_of op).0 < length schema → KeysWithin (length schema) (written_key (table_of op) o row)
      by row None lt = tt
      by row (Some def) lt = (lt, tt)

  referred_in : (op : Op) → has_both schema (slice_get schema (table_of op).0) ≡ true → KeysWithin (length schema) (referred_by schema op)
  referred_in op e = within_each (length schema) (referred_key (slice_get schema (table_of op).0)) (rows_of op) (λ row. by row (slice_get schema (table_of op).0) e)
    where
      parent : (row : List Value) (foreign : Option ForeignKey) → has_parent_of schema foreign ≡ true → KeysWithin (length schema) (parent_key foreign row)
      parent row None e = tt
      parent row (Some foreign) e = (ltb-true foreign.parent.0 (length schema) e, tt)

      by : (row : List Value) (o : Option TableDef) → has_both schema o ≡ true → KeysWithin (length schema) (referred_key o row)
      by row None e = tt
      by row (Some def) e = parent row def.foreign_key e

  pub tables_in : (ops : List Op) → are_defined schema ops ≡ true → All (λ op. (table_of op).0 < length schema) ops
  tables_in [] e = λ k d within. absurd (omega arith)
  tables_in (op ∷ ops) e =
      let parts = and_parts (has_both schema (slice_get schema (table_of op).0)) (are_defined schema ops) e in
      All-cons (λ op. (table_of op).0 < length schema) op ops (table_in op parts.0) (tables_in ops parts.1)

  pub all_written_in : (ops : List Op) → are_defined schema ops ≡ true → KeysWithin (length schema) (footprint_of schema ops).written
  all_written_in [] e = tt
  all_written_in (op ∷ ops) e =
      let parts = and_parts (has_both schema (slice_get schema (table_of op).0)) (are_defined schema ops) e in
      within_append (length schema) (written_by schema op) (flat_map (written_by schema) ops) (written_in op parts.0) (all_written_in ops parts.1)

  pub all_referred_in : (ops : List Op) → are_defined schema ops ≡ true → KeysWithin (length schema) (footprint_of schema ops).referred
  all_referred_in [] e = tt
  all_referred_in (op ∷ ops) e =
      let parts = and_parts (has_both schema (slice_get schema (table_of op).0)) (are_defined schema ops) e in
      within_append (length schema) (referred_by schema op) (flat_map (referred_by schema) ops) (referred_in op parts.0) (all_referred_in ops parts.1)

-- an operation has two rows at most, and so two keys of a kind

few_each : (f : List Value → List RowKey) (op : Op) → ((row : List Value) → length (f row) ≤ 1) → length (flat_map f (rows_of op)) ≤ 2
few_each f (Insert t row) few = let a = few row in let l = length-append (f row) [] in omega arith
few_each f (Update t old new) few = let a = few old in let b = few new in let l = length-append (f old) (f new ++ []) in let m = length-append (f new) [] in omega arith
few_each f (Delete t row) few = let a = few row in let l = length-append (f row) [] in omega arith

module _ (schema : List TableDef) where
  few_all : (f : Op → List RowKey) → ((op : Op) → length (f op) ≤ 2) → (ops : List Op) → length (flat_map f ops) ≤ 2 * length ops
  few_all f few [] = omega arith
  few_all f few (op ∷ ops) = let a = few op in let r = few_all f few ops in let l = length-append (f op) (flat_map f ops) in omega arith

  pub few_written : (ops : List Op) → length (footprint_of schema ops).written ≤ 2 * length ops
  few_written = few_all (written_by schema) (λ op. few_each (written_key (table_of op) (slice_get schema (table_of op).0)) op (λ row. by (table_of op) (slice_get schema (table_of op).0) row))
    where
      by : (t : TableId) (o : Option TableDef) (row : List Value) → length (written_key t o row) ≤ 1
      by t None row = omega arith
      by t (Some def) row = omega arith

  pub few_referred : (ops : List Op) → length (footprint_of schema ops).referred ≤ 2 * length ops
  few_referred = few_all (referred_by schema) (λ op. few_each (referred_key (slice_get schema (table_of op).0)) op (λ row. by (slice_get schema (table_of op).0) row))
    where
      parent : (foreign : Option ForeignKey) (row : List Value) → length (parent_key foreign row) ≤ 1
      parent None row = omega arith
      parent (Some foreign) row = omega arith

      by : (o : Option TableDef) (row : List Value) → length (referred_key o row) ≤ 1
      by None row = omega arith
      by (Some def) row = parent def.foreign_key row

-- room for more operations

pub own_room_for : (schema : List TableDef) (s : Session) (was more n : ℕ) → IsKept schema s → length s.ops.items ≡ was → n ≡ more → was + more ≤ greatest limit.Operations → HaveRoom n s.own
own_room_for schema s was more n kept ops n_is few = kept.own_room n (omega arith)

pub mark_count : (marks : List Mark) (keys : List RowKey) → map key_of_mark marks ≡ keys → length marks ≡ length keys
mark_count marks keys is = sym (length-map marks key_of_mark) ∙ ap length is

pub written_room_for : (schema : List TableDef) (s : Session) (more : List Op) (was : ℕ) (marks : List Mark) → IsKept schema s → length s.ops.items ≡ was → was + length more ≤ greatest limit.Operations → map key_of_mark marks ≡ (footprint_of schema more).written → KeysHaveRoom (length marks) s.written
written_room_for schema s more was marks kept ops few is =
    let a = few_written schema s.ops.items in let b = few_written schema more in let l = mark_count marks (footprint_of schema more).written is in
    kept.written_room (length marks) (omega arith)

pub referred_room_for : (schema : List TableDef) (s : Session) (more : List Op) (was : ℕ) (marks : List Mark) → IsKept schema s → length s.ops.items ≡ was → was + length more ≤ greatest limit.Operations → map key_of_mark marks ≡ (footprint_of schema more).referred → KeysHaveRoom (length marks) s.referred
referred_room_for schema s more was marks kept ops few is =
    let a = few_referred schema s.ops.items in let b = few_referred schema more in let l = mark_count marks (footprint_of schema more).referred is in
    kept.referred_room (length marks) (omega arith)
