-- Laws of the own rows of all tables.
use Rattle.std.proofs.Common.{◌+◌, ◌≡◌, ℕ, zero, suc, ◌<◌, ◌≤◌, ◌^◌, Option, Some, None, true, is_some, List, [], ◌∷◌, ◌++◌, length, slice_get, slice_set, unwrap_or, ◌⊎◌, inl, inr, refl, sym, ap, subst, ◌∙◌, arith}
use Rattle.std.specs.Option.{option_and_then}
use Rattle.std.specs.FinMap.{empty, len, len-empty}
use Rattle.table_state.specs.row_types.specs.declared.value.Value.{Value}
use Rattle.table_state.specs.row_types.specs.Order.{key_order}
use Rattle.table_state.specs.row_types.proofs.OrderLaws.{key_total, key_exact}
use Rattle.std.proofs.lemmas.Option.{slice_get_within}
use Rattle.table_state.specs.tier_base.specs.declared.number.TableId.{TableId}
use Rattle.table_state.specs.table_defs.specs.declared.definition.TableDef.{TableDef}
use Rattle.table_state.specs.indexed_rows.specs.Rows.{Table}
use Rattle.table_state.specs.declared.operation.Op.{Op}
use Rattle.table_state.specs.Operations.{applied, applied_all, table_of}
use Rattle.table_state.specs.Tables.{TableState, table_at}
use Rattle.table_state.specs.Keyed.{IsUnderKeys}
use Rattle.own_rows.specs.declared.own.OwnRows.{OwnRows}
use Rattle.own_rows.specs.Over.{Lies}
use Rattle.own_rows.specs.Overlays.{FitsOn, overlaid}
use Rattle.own_rows.specs.Knowing.{Knows}
use Rattle.own_rows.specs.Laying.{HaveRoom, LiesOn, laid_in}
use Rattle.own_rows.specs.OwnTables.{AreRowsOf, AreShown}
use Rattle.own_rows.proofs.LyingLaws.{bare}
use Rattle.own_rows.proofs.LayingLaws.{lies_more, seen}

applied_more : (ops : List Op) (op : Op) (s : TableState) → applied_all (ops ++ op ∷ []) s ≡ option_and_then (applied op) (applied_all ops s)
applied_more [] op s = by (applied op s)
  where
    by : (o : Option TableState) → option_and_then (λ n. applied_all [] n) o ≡ o
    by None = refl
    by (Some n) = refl
applied_more (first ∷ ops) op s = by (applied first s) (λ n. applied_more ops op n)
  where
    by : (o : Option TableState) → ((n : TableState) → applied_all (ops ++ op ∷ []) n ≡ option_and_then (applied op) (applied_all ops n)) → option_and_then (applied_all (ops ++ op ∷ [])) o ≡ option_and_then (applied op) (option_and_then (applied_all ops) o)
    by None more = refl
    by (Some n) more = more n

schema_stays : (owns : List OwnRows) (s now : TableState) → LiesOn owns s now → (schema : List TableDef) → Knows schema s.schema → Knows schema now.schema
schema_stays owns s now lies schema knows i def is = ap (λ l. slice_get l i) lies.schema ∙ knows i def is

-- an operation more
pub rows_more : (schema : List TableDef) (ops : List Op) (op : Op) (owns : List OwnRows) (def : TableDef) (own : OwnRows) → slice_get schema (table_of op).0 ≡ Some def → slice_get owns (table_of op).0 ≡ Some own → AreRowsOf schema ops owns
    → AreRowsOf schema (ops ++ op ∷ []) (slice_set owns (table_of op).0 (laid_in def op own))
rows_more schema ops op owns def own def_is own_is rows s now knows applied_is = by (applied_all ops s) refl (sym (applied_more ops op s) ∙ applied_is)
  where
    by : (o : Option TableState) → applied_all ops s ≡ o → option_and_then (applied op) o ≡ Some now → LiesOn (slice_set owns (table_of op).0 (laid_in def op own)) s now
    by None is e = cc
    by (Some between) is e =
        let lies = rows s between knows is in
        lies_more schema op owns s between now def own (schema_stays owns s between lies schema knows) def_is own_is lies e

-- a session that has written nothing
pub rows_none : (schema : List TableDef) → AreRowsOf schema [] []
rows_none schema s now knows is = let same : s ≡ now = cc in
    subst (λ n. LiesOn [] s n) same (record { own = λ t own e. absurd (clash own e); other = λ t e. refl; schema = refl; whole = refl })
  where
    clash : (o : OwnRows) → None ≡ Some o → ⊥
    clash o e = cc

-- Own rows that no operation has touched may stand behind the others.
pub bare_rows : OwnRows → Type 0
bare_rows own = (own.live ≡ empty) × (own.fresh ≡ empty) × (own.gone ≡ empty)

padded : (owns : List OwnRows) (own : OwnRows) (i : ℕ) (o : OwnRows) → slice_get (owns ++ own ∷ []) i ≡ Some o → (slice_get owns i ≡ Some o) ⊎ ((own ≡ o) × (slice_get owns i ≡ None))
padded [] own zero o e = let same : own ≡ o = cc in inr (same, refl)
padded [] own (suc i) o e = cc
padded (x ∷ owns) own zero o e = inl e
padded (x ∷ owns) own (suc i) o e = padded owns own i o e

pub rows_pad : (schema : List TableDef) (ops : List Op) (owns : List OwnRows) (own : OwnRows) → bare_rows own → AreRowsOf schema ops owns → AreRowsOf schema ops (owns ++ own ∷ [])
unfolding bare_rows
rows_pad schema ops owns own none rows s now knows is =
    let lies = rows s now knows is in
    record {
      own = λ t o at. elim (padded owns own t.0 o at) as (λ d. Lies o.live o.fresh o.gone (table_at s t) (table_at now t)) [
        | inl old ↦ lies.own t o old
        | inr new ↦
            let b : Lies empty empty empty (table_at s t) (table_at s t) = bare key_total key_exact (table_at s t) in
            let here : Lies empty empty empty (table_at s t) (table_at now t) = subst (Lies empty empty empty (table_at s t)) (sym (lies.other t new.1)) b in
            let l : Lies own.live empty empty (table_at s t) (table_at now t) = subst (λ z. Lies z empty empty (table_at s t) (table_at now t)) (sym none.0) here in
            let f : Lies own.live own.fresh empty (table_at s t) (table_at now t) = subst (λ z. Lies own.live z empty (table_at s t) (table_at now t)) (sym none.1) l in
            let g : Lies own.live own.fresh own.gone (table_at s t) (table_at now t) = subst (λ z. Lies own.live own.fresh z (table_at s t) (table_at now t)) (sym none.2) f in
            subst (λ (z : OwnRows). Lies z.live z.fresh z.gone (table_at s t) (table_at now t)) new.0 g
      ];
      other = λ t at. lies.other t (before owns own t.0 at);
      schema = lies.schema;
      whole = lies.whole;
    }
  where
    before : (owns : List OwnRows) (own : OwnRows) (i : ℕ) → slice_get (owns ++ own ∷ []) i ≡ None → slice_get owns i ≡ None
    before [] own i e = refl
    before (x ∷ owns) own zero e = cc
    before (x ∷ owns) own (suc i) e = before owns own i e

-- a schema that grew
pub rows_grown : (schema more : List TableDef) (ops : List Op) (owns : List OwnRows) → Knows schema more → AreRowsOf schema ops owns → AreRowsOf more ops owns
rows_grown schema more ops owns grew rows s now knows is = rows s now (λ i def e. knows i def (grew i def e)) is

-- a test that an answer is there gives it
there : {A : Type 0} (o : Option A) → is_some o ≡ true → (x : A) × (o ≡ Some x)
there None e = cc
there (Some x) e = (x, refl)

module _ (ops : List Op) (owns : List OwnRows) (s : TableState) (rows : AreRowsOf s.schema ops owns) (within : length owns ≤ length s.schema) (shown : AreShown ops s) where
  pub fits : FitsOn owns s
  fits =
      let now = there (applied_all ops s) shown.applies in
      let lies = rows s now.0 (λ i def e. e) now.1 in
      record {
        agrees = λ t own is. (lies.own t own is).agrees;
        keyed = λ t def is. keyed_at t def is (slice_get s.tables t.0) refl;
        small = shown.small;
        within = let a = shown.whole in omega arith;
        whole = shown.whole;
      }
    where
      keyed_at : (t : TableId) (def : TableDef) → slice_get s.schema t.0 ≡ Some def → (o : Option Table) → slice_get s.tables t.0 ≡ o → IsUnderKeys def.primary_key (table_at s t)
      keyed_at t def is None none = absurd (past s.tables t.0 none (let w = slice_get_within s.schema t.0 def is in let a = shown.whole in omega arith))
        where
          past : {A : Type 0} (xs : List A) (i : ℕ) → slice_get xs i ≡ None → i < length xs → ⊥
          past [] i e lt = absurd (omega arith)
          past (x ∷ xs) zero e lt = cc
          past (x ∷ xs) (suc i) e lt = past xs i e (omega arith)
      keyed_at t def is (Some table) table_is = subst (IsUnderKeys def.primary_key) (sym (ap (λ o. unwrap_or o empty) table_is)) (shown.keyed t.0 def table is table_is).0

  -- what the overlay shows is what the operations leave
  pub sees : applied_all ops s ≡ Some (overlaid owns s)
  sees = let now = there (applied_all ops s) shown.applies in now.1 ∙ ap Some (sym (seen owns s now.0 (rows s now.0 (λ i def e. e) now.1)))

pub rows_wider : (schema : List TableDef) (ops : List Op) (owns new : List OwnRows) (own : OwnRows) → own.live ≡ empty → own.fresh ≡ empty → own.gone ≡ empty → new ≡ owns ++ own ∷ [] → AreRowsOf schema ops owns → AreRowsOf schema ops new
unfolding bare_rows
rows_wider schema ops owns new own live fresh gone is rows = subst (AreRowsOf schema ops) (sym is) (rows_pad schema ops owns own (live, fresh, gone) rows)

pub one_more : {X : Type 0} (xs ys : List X) (x : X) (n : ℕ) → ys ≡ xs ++ x ∷ [] → length xs ≡ n → length ys ≡ n + 1
one_more {X} xs ys x n is long = ap length is ∙ by xs ∙ ap (λ k. k + 1) long
  where
    by : (xs : List X) → length (xs ++ x ∷ []) ≡ length xs + 1
    by [] = omega arith
    by (y ∷ xs) = let rest = by xs in omega arith

-- room stays where a bare place is added
pub room_wider : (n : ℕ) (owns new : List OwnRows) (own : OwnRows) → own.live ≡ empty → own.fresh ≡ empty → own.gone ≡ empty → new ≡ owns ++ own ∷ [] → n < 2 ^ 63 → HaveRoom n owns → HaveRoom n new
room_wider n owns new own live fresh gone is few room i o at =
    let was : slice_get (owns ++ own ∷ []) i ≡ Some o = ap (λ l. slice_get l i) (sym is) ∙ at in
    elim (padded owns own i o was) as (λ d. (len o.live + n < 2 ^ 63) × (len o.fresh + n < 2 ^ 63) × (len o.gone + n < 2 ^ 63)) [
      | inl old ↦ room i o old
      | inr new ↦
          let a : len o.live ≡ 0 = ap (λ (z : OwnRows). len z.live) (sym new.0) ∙ ap len live ∙ len-empty key_order (List Value) in
          let b : len o.fresh ≡ 0 = ap (λ (z : OwnRows). len z.fresh) (sym new.0) ∙ ap len fresh ∙ len-empty key_order (List Value) in
          let c : len o.gone ≡ 0 = ap (λ (z : OwnRows). len z.gone) (sym new.0) ∙ ap len gone ∙ len-empty key_order (List Value) in
          ((omega arith), (omega arith), (omega arith))
    ]
