-- Laws of the operations of writes: none of them finds another row than it names.
use Rattle.std.proofs.Common.{◌≡◌, ℕ, ◌-◌, Bool, true, false, cond, nat_lt, Option, Some, None, Result, Ok, Err, List, [], ◌∷◌, length, slice_get, refl, sym, ap, subst, ◌∙◌}
use Rattle.std.specs.FinMap as fm
use Rattle.evaluator.specs.row_types.specs.declared.rule.Rule.{Rule}
use Rattle.evaluator.specs.row_types.specs.declared.truth.Truth.{Truth}
use Rattle.evaluator.specs.row_types.specs.declared.truth.Truth.TheVariants.{True, False, Unknown}
use Rattle.evaluator.specs.tier_base.specs.declared.limit.Limit.TheVariants.{Operations, Rows}
use Rattle.evaluator.specs.tier_base.specs.declared.number.TableId.{TableId}
use Rattle.evaluator.specs.table_defs.specs.declared.definition.TableDef.{TableDef}
use Rattle.evaluator.specs.table_state.specs.declared.operation.Op.{Op}
use Rattle.evaluator.specs.table_state.specs.declared.operation.Op.TheVariants as op
use Rattle.evaluator.specs.table_state.specs.declared.refusal.ApplyError.{ApplyError}
use Rattle.evaluator.specs.table_state.specs.declared.refusal.ApplyError.TheVariants as error
use Rattle.evaluator.specs.table_state.specs.Refusals.{broken_by_all}
use Rattle.evaluator.specs.indexed_rows.specs.Rows.{key_of}
use Rattle.evaluator.specs.table_state.specs.Tables.{TableState, table_at}
use Rattle.evaluator.specs.table_state.specs.Keyed.{IsKeyed}
use Rattle.evaluator.specs.table_state.proofs.KeyLaws.{rows_apart, rows_there}
use Rattle.evaluator.specs.table_state.proofs.KeyedLaws.{ops_keyed}
use Rattle.evaluator.specs.table_state.proofs.PairLaws.{Every, Pairs, every_as}
use Rattle.evaluator.specs.expressions.specs.Trees.{Cond, Expr}
use Rattle.evaluator.specs.declared.change.Action.{Action}
use Rattle.evaluator.specs.declared.change.Action.TheVariants.{Insert, Update, Delete}
use Rattle.evaluator.specs.declared.change.Change.{Change}
use Rattle.evaluator.specs.Rules.{each, limit, or_overflow, then_do}
use Rattle.evaluator.specs.Writes.{built, done_by, done_in, done_on, done_to, effects_of, if_true, one_op, passes_rows, selects, within_limits}
use Rattle.evaluator.proofs.WriteLaws.{keyed_at}
use Rattle.transactions.specs.Differing.{RefersBack, is_difference}
use Rattle.transactions.specs.Transactions.{Done, and_then, applied_to, behind, left_by, written_by, written_by_all, written_in}
use Rattle.transactions.proofs.DeletionLaws.{Good, IsRow, Leads, deleted_good, good_each, good_none, good_one, lead_apart, pairs_as, places_apart, row_there, same_ok}
use Rattle.transactions.proofs.StandLaws.{AreApart, Place, Row, Stands, none_differs, place_in}
use Rattle.transactions.proofs.TouchLaws.{all_schema, did_one}

-- operations on different rows that are there
record Fine (s : TableState) (ops : List Op) : Type 0 where
  apart : Pairs (AreApart s.schema) ops
  stand : Every (Stands s.schema s) ops

module _ (s : TableState) (keyed : IsKeyed s) (back : RefersBack s.schema) (t : TableId) (def : TableDef) (is : slice_get s.schema t.0 ≡ Some def) where
  module _ (R : Row → Place → Type 0) (apart : (a b : Row) → (place_in s.schema t a ≡ place_in s.schema t b → ⊥) → (q : Place) → R a q → R b q → ⊥) (f : Row → Result (List Op) Rule)
      (good : (row : Row) → IsRow s keyed back t row → (some : List Op) → f row ≡ Ok some → Good s.schema s (R row) some) where
    each_fine : (ops : List Op) → each f (fm.values (table_at s t)) ≡ Ok ops → Fine s ops
    each_fine ops all =
        let under = keyed_at s t def keyed is in
        let g = good_each s.schema s R f (fm.values (table_at s t)) ops
        (every_as (λ row. fm.get (table_at s t) (key_of def.primary_key row) ≡ Some row) (λ row. (some : List Op) → f row ≡ Ok some → Good s.schema s (R row) some) (λ row h. good row (row_there s keyed back t def row is h)) (fm.values (table_at s t)) (rows_there def.primary_key (table_at s t) under))
        (pairs_as (λ a b. key_of def.primary_key a ≡ key_of def.primary_key b → ⊥) (λ a b. (q : Place) → R a q → R b q → ⊥) (λ a b ne. apart a b (places_apart s keyed back t def a b is ne)) (fm.values (table_at s t)) (rows_apart def.primary_key (table_at s t) under)) all in
        record { apart = g.apart; stand = g.stand }

  -- an update writes the selected row
  abbrev At : Row → Place → Type 0
  At row q = place_in s.schema t row ≡ q

  update_good : (es : List Expr) (filter : Option Cond) (row : Row) → IsRow s keyed back t row → (some : List Op) → done_on s t def (Update es filter) row ≡ Ok some → Good s.schema s (At row) some
  update_good es filter row there some done = by (selects filter row) done
    where
      made : (r : Result Row Rule) → one_op (op.Update t row) r ≡ Ok some → Good s.schema s (At row) some
      made (Err e) h = cc
      made (Ok new) h = subst (λ l. Good s.schema s (At row) l) (same_ok _ refl h) (good_one s.schema s (At row) (op.Update t row new) refl there)

      nothing : (r : Result (List Op) Rule) → r ≡ Ok [] → r ≡ Ok some → Good s.schema s (At row) some
      nothing r none h = subst (λ l. Good s.schema s (At row) l) (same_ok r none h) (good_none s.schema s (At row))

      by : (o : Option Truth) → then_do (λ b. if_true b (done_to s t def (Update es filter) row)) (or_overflow o) ≡ Ok some → Good s.schema s (At row) some
      by None h = cc
      by (Some True) h = made (built def.columns es row) h
      by (Some False) h = nothing (Ok []) refl h
      by (Some Unknown) h = nothing (Ok []) refl h

  delete_good : (filter : Option Cond) (row : Row) → IsRow s keyed back t row → (some : List Op) → done_on s t def (Delete filter) row ≡ Ok some → Good s.schema s (Leads s keyed back (length s.schema) (place_in s.schema t row)) some
  delete_good filter row there some done = by (selects filter row) done
    where
      nothing : (r : Result (List Op) Rule) → r ≡ Ok [] → r ≡ Ok some → Good s.schema s (Leads s keyed back (length s.schema) (place_in s.schema t row)) some
      nothing r none h = subst (λ l. Good s.schema s (Leads s keyed back (length s.schema) (place_in s.schema t row)) l) (same_ok r none h) (good_none s.schema s (Leads s keyed back (length s.schema) (place_in s.schema t row)))

      by : (o : Option Truth) → then_do (λ b. if_true b (done_to s t def (Delete filter) row)) (or_overflow o) ≡ Ok some → Good s.schema s (Leads s keyed back (length s.schema) (place_in s.schema t row)) some
      by None h = cc
      by (Some True) h = subst (λ l. Good s.schema s (Leads s keyed back (length s.schema) (place_in s.schema t row)) l) (same_ok _ refl h) (deleted_good s keyed back (length s.schema) t row there)
      by (Some False) h = nothing (Ok []) refl h
      by (Some Unknown) h = nothing (Ok []) refl h

  insert_fine : (ops : List Op) (r : Result Row Rule) → one_op (op.Insert t) r ≡ Ok ops → Fine s ops
  insert_fine ops (Err e) h = cc
  insert_fine ops (Ok row) h = subst (Fine s) (same_ok _ refl h) (record { apart = (tt, tt); stand = (tt, tt) })

  done_fine : (action : Action) (ops : List Op) → done_in s t def action ≡ Ok ops → Fine s ops
  done_fine (Insert es) ops h = insert_fine ops (built def.columns es []) h
  done_fine (Update es filter) ops h = each_fine At (λ a b ne q here there. ne (here ∙ sym there)) (done_on s t def (Update es filter)) (update_good es filter) ops h
  done_fine (Delete filter) ops h = each_fine (λ row. Leads s keyed back (length s.schema) (place_in s.schema t row)) (λ a b ne. lead_apart s keyed back (length s.schema) t a b ne) (done_on s t def (Delete filter)) (delete_good filter) ops h

effects_fine : (room : ℕ) (change : Change) (s : TableState) (ops : List Op) → IsKeyed s → RefersBack s.schema → effects_of room change s ≡ Ok ops → Fine s ops
effects_fine room change s ops keyed back is = by (slice_get s.schema change.table.0) refl is
  where
    limits : (done : List Op) (e f : Rule) (over rows : Bool) → Fine s done → cond over (Err e) (cond rows (Err f) (Ok done)) ≡ Ok ops → Fine s ops
    limits done e f true rows fine h = cc
    limits done e f false true fine h = cc
    limits done e f false false fine h = subst (Fine s) (same_ok _ refl h) fine

    within : (r : Result (List Op) Rule) → ((done : List Op) → r ≡ Ok done → Fine s done) → then_do (within_limits room s change) r ≡ Ok ops → Fine s ops
    within (Err e) fine h = cc
    within (Ok done) fine h = limits done (limit Operations) (limit Rows) (nat_lt room (length done)) (passes_rows s change.table change.action) (fine done refl) h

    by : (d : Option TableDef) → slice_get s.schema change.table.0 ≡ d → then_do (within_limits room s change) (done_by s change d) ≡ Ok ops → Fine s ops
    by None d h = cc
    by (Some def) d h = within (done_in s change.table def change.action) (done_fine s keyed back change.table def d change.action) h

-- one write
pub one_differs : (room : ℕ) (change : Change) (s : TableState) (ops : List Op) → IsKeyed s → RefersBack s.schema → effects_of room change s ≡ Ok ops → is_difference (broken_by_all ops s) ≡ false
one_differs room change s ops keyed back is =
    let fine = effects_fine room change s ops keyed back is in
    none_differs s.schema ops s refl fine.stand fine.apart

same_error : {A E : Type 0} (r : Result A E) {a b : E} → r ≡ Err a → r ≡ Err b → a ≡ b
same_error (Ok x) e f = cc
same_error (Err x) e f = cc

first_differs : (room : ℕ) (change : Change) (s : TableState) (e : ApplyError) → IsKeyed s → RefersBack s.schema → written_by room change s ≡ Err e → is_difference (Some e) ≡ false
first_differs room change s e keyed back is = by (effects_of room change s) refl is
  where
    left : (ops : List Op) → effects_of room change s ≡ Ok ops → (f : Option ApplyError) → broken_by_all ops s ≡ f → left_by change s ops f ≡ Err e → is_difference (Some e) ≡ false
    left ops ops_is None f_is h = cc
    left ops ops_is (Some broken) f_is h = ap (λ x. is_difference (Some x)) (sym (same_error _ refl h)) ∙ ap is_difference (sym f_is) ∙ one_differs room change s ops keyed back ops_is

    by : (r : Result (List Op) Rule) → effects_of room change s ≡ r → applied_to change s r ≡ Err e → is_difference (Some e) ≡ false
    by (Err rule) r_is h = ap (λ x. is_difference (Some x)) (sym (same_error (Err (error.Rule rule)) refl h))
    by (Ok ops) r_is h = left ops r_is (broken_by_all ops s) refl h

in_differs : (room : ℕ) (changes : List Change) (s : TableState) (e : ApplyError) → IsKeyed s → RefersBack s.schema → written_in room changes s ≡ Err e → is_difference (Some e) ≡ false
in_differs room [] s e keyed back is = cc
in_differs room (change ∷ changes) s e keyed back is =
    by (written_by room change s) refl is (λ first keyed back. in_differs (room - length first.written.ops) changes first.state e keyed back)
  where
    rest : (first : Done) (r : Result Done ApplyError) → behind first.written r ≡ Err e → (r ≡ Err e → is_difference (Some e) ≡ false) → is_difference (Some e) ≡ false
    rest first (Ok more) h later = cc
    rest first (Err x) h later = later h

    by : (r : Result Done ApplyError) → written_by room change s ≡ r → and_then (λ first. behind first.written (written_in (room - length first.written.ops) changes first.state)) r ≡ Err e
        → ((first : Done) → IsKeyed first.state → RefersBack first.state.schema → written_in (room - length first.written.ops) changes first.state ≡ Err e → is_difference (Some e) ≡ false) → is_difference (Some e) ≡ false
    by (Err x) r_is h later = first_differs room change s e keyed back (r_is ∙ h)
    by (Ok first) r_is h later =
        let did = did_one room change s first r_is in
        rest first (written_in (room - length first.written.ops) changes first.state) h
        (later first (ops_keyed first.written.ops s first.state did.applied keyed) (subst RefersBack (sym (all_schema first.written.ops s first.state did.applied)) back))

-- several
pub all_differ : (changes : List Change) (s : TableState) (e : ApplyError) → IsKeyed s → RefersBack s.schema → written_by_all changes s ≡ Err e → is_difference (Some e) ≡ false
all_differ changes s e keyed back is = in_differs _ changes s e keyed back is
