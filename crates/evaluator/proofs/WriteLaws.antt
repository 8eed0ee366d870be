-- Laws of the effects of writes.
use Rattle.std.proofs.Common.{◌≡◌, ℕ, true, false, Option, Some, None, Result, Ok, Err, List, [], ◌∷◌, length, nat_lt, cond, slice_get, unwrap_or, refl, sym, ap, subst, ◌∙◌}
use Rattle.std.specs.List.{filter}
use Rattle.std.specs.Option.{option_to_list}
use Rattle.std.specs.FinMap as fm
use Rattle.expressions.specs.row_types.specs.declared.truth.Truth.{Truth}
use Rattle.expressions.specs.row_types.specs.declared.truth.Truth.TheVariants.{True, False, Unknown}
use Rattle.expressions.specs.row_types.specs.declared.rule.Refused.{Refused}
use Rattle.expressions.specs.row_types.specs.declared.rule.Refused.TheVariants as refused
use Rattle.expressions.specs.row_types.specs.declared.rule.Rule.{Rule}
use Rattle.expressions.specs.row_types.specs.declared.value.Value.{Value}
use Rattle.expressions.specs.tier_base.specs.declared.number.TableId.{TableId}
use Rattle.expressions.specs.tier_base.specs.declared.limit.Limit.TheVariants.{Rows, Operations}
use Rattle.table_state.specs.table_defs.specs.declared.definition.TableDef.{TableDef}
use Rattle.table_state.specs.declared.operation.Op.{Op}
use Rattle.table_state.specs.declared.operation.Op.TheVariants as op
use Rattle.table_state.specs.table_defs.specs.Declarations.{foreign_places}
use Rattle.table_state.specs.indexed_rows.specs.Rows.{Table}
use Rattle.table_state.specs.Tables.{TableState, table_at}
use Rattle.table_state.specs.ScanChildren.{refers_to}
use Rattle.table_state.specs.Tables.{fits_columns}
use Rattle.table_state.specs.Keyed.{HasFit, IsKeyed, IsUnderKeys, has_key}
use Rattle.table_state.proofs.KeyedLaws.{none_has_fit, none_is_under}
use Rattle.table_state.proofs.KeyLaws.{all_fit, found_by_key}
use Rattle.expressions.specs.Trees.{Cond, Expr}
use Rattle.evaluator.specs.declared.capped.Capped.{Capped}
use Rattle.evaluator.specs.declared.change.Action.{Action}
use Rattle.evaluator.specs.declared.change.Action.TheVariants.{Insert, Update}
use Rattle.evaluator.specs.declared.change.Change.{Change}
use Rattle.evaluator.specs.Capping.{extended, put}
use Rattle.evaluator.specs.KeyPaths.{ChangesChildren, Narrows, is_not_true}
use Rattle.evaluator.specs.Rules.{Adds, Gives, each, limit, or_overflow, then_do}
use Rattle.evaluator.specs.Writes.{built, done_by, done_in, done_on, done_to, effects_of, filter_of, if_true, one_op, passes_rows, within_limits}
use Rattle.evaluator.proofs.CapLaws.{kept_over, kept_whole}
use Rattle.evaluator.proofs.ConditionLaws.{row_types}
use Rattle.evaluator.proofs.RuleLaws.{added-nil, each-filter_of, same_taken}
use Rattle.evaluator.proofs.WalkLaws.{known_at}

-- a row was inserted, or changed
pub did_insert : (s : TableState) (t : TableId) (def : TableDef) (action : Action) (es : List Expr) (row : List Value) (start new : Capped Op) → action ≡ Insert es → built def.columns es [] ≡ Ok row → new ≡ put start (op.Insert t row)
    → Adds (done_in s t def action) (Ok tt) start new
did_insert s t def action es row start new is gave step = (op.Insert t row ∷ [], ap (done_in s t def) is ∙ ap (one_op (op.Insert t)) gave, step)

pub did_update : (s : TableState) (t : TableId) (def : TableDef) (action : Action) (es : List Expr) (filter : Option Cond) (old row : List Value) (start new : Capped Op) → action ≡ Update es filter → built def.columns es old ≡ Ok row
    → new ≡ put start (op.Update t old row) → Adds (done_to s t def action old) (Ok tt) start new
did_update s t def action es filter old row start new is gave step = (op.Update t old row ∷ [], ap (λ a. done_to s t def a old) is ∙ ap (one_op (op.Update t old)) gave, step)

-- rows that the condition leaves out give nothing
if_not_true : {A : Type 0} (t : Truth) (r : Result (List A) Rule) → is_not_true t ≡ true → if_true t r ≡ Ok []
if_not_true True r e = cc
if_not_true False r e = refl
if_not_true Unknown r e = refl

module _ (s : TableState) (t : TableId) (def : TableDef) (action : Action) (places : List ℕ) (key : List Value) (narrow : Narrows (filter_of action) [] def.columns places key) (keyed : IsUnderKeys places (table_at s t)) (fit : HasFit def.columns (table_at s t)) where
  left_out : (x : List Value) → fits_columns def.columns x ≡ true → has_key places key x ≡ false → done_on s t def action x ≡ Ok []
  left_out x fits other =
      let (truth, is, fails) = narrow x (row_types def.columns x fits) other in
      ap (λ o. then_do (λ b. if_true b (done_to s t def action x)) (or_overflow o)) is ∙ if_not_true truth (done_to s t def action x) fails

  by_key : each (done_on s t def action) (fm.values (table_at s t)) ≡ each (done_on s t def action) (option_to_list (fm.get (table_at s t) key))
  by_key = each-filter_of (done_on s t def action) (has_key places key) (fits_columns def.columns) left_out (fm.values (table_at s t)) (all_fit def.columns (table_at s t) fit) ∙ ap (each (done_on s t def action)) (sym (found_by_key places key (table_at s t) keyed))

  pub none_found : None ≡ fm.get (table_at s t) key → (out : Capped Op) → Adds (each (done_on s t def action) (fm.values (table_at s t))) (Ok tt) out out
  none_found none out = ([], by_key ∙ ap (λ o. each (done_on s t def action) (option_to_list o)) (sym none), refl)

  pub one_found : (row : List Value) → Some row ≡ fm.get (table_at s t) key → (r : Result (Unit {0}) Refused) (old new : Capped Op) → Adds (done_on s t def action row) r old new
      → Adds (each (done_on s t def action) (fm.values (table_at s t))) r old new
  one_found row found r old new h =
      same_taken put (done_on s t def action row) (each (done_on s t def action) (fm.values (table_at s t))) r old new
      (sym (by_key ∙ ap (λ o. each (done_on s t def action) (option_to_list o)) (sym found) ∙ added-nil (done_on s t def action row))) h

-- rows of other parents aren't changed
pub other_parents : (s : TableState) (t : TableId) (def : TableDef) (action : Action) (key : List Value) → slice_get s.schema t.0 ≡ Some def → HasFit def.columns (table_at s t) → Narrows (filter_of action) [] def.columns (foreign_places def.foreign_key) key → ChangesChildren s t def action key
other_parents s t def action key is fit narrow i row at fails =
    let fits : fits_columns def.columns row ≡ true = known_at (fits_columns def.columns) (fm.values (table_at s t)) i row (all_fit def.columns (table_at s t) fit) at in
    let (truth, e, other) = narrow row (row_types def.columns row fits) (ap (λ d. refers_to key d row) (sym is) ∙ fails) in
    ap (λ o. then_do (λ b. if_true b (done_to s t def action row)) (or_overflow o)) e ∙ if_not_true truth (done_to s t def action row) other

-- the rows of a table stand under their keys, and each fits the columns
pub sound_at : (s : TableState) (t : TableId) (def : TableDef) → IsKeyed s → slice_get s.schema t.0 ≡ Some def → IsUnderKeys def.primary_key (table_at s t) × HasFit def.columns (table_at s t)
sound_at s t def keyed is = by (slice_get s.tables t.0) refl
  where
    by : (o : Option Table) → slice_get s.tables t.0 ≡ o → IsUnderKeys def.primary_key (unwrap_or o fm.empty) × HasFit def.columns (unwrap_or o fm.empty)
    by None e = (none_is_under def.primary_key, none_has_fit def.columns)
    by (Some table) e = keyed t.0 def table is e

pub keyed_at : (s : TableState) (t : TableId) (def : TableDef) → IsKeyed s → slice_get s.schema t.0 ≡ Some def → IsUnderKeys def.primary_key (table_at s t)
keyed_at s t def keyed is = (sound_at s t def keyed is).0

pub fit_at : (s : TableState) (t : TableId) (def : TableDef) → IsKeyed s → slice_get s.schema t.0 ≡ Some def → HasFit def.columns (table_at s t)
fit_at s t def keyed is = (sound_at s t def keyed is).1

-- the limits
module _ (room : ℕ) (change : Change) (s : TableState) (def : TableDef) (is : slice_get s.schema change.table.0 ≡ Some def) where
  done : effects_of room change s ≡ then_do (within_limits room s change) (done_in s change.table def change.action)
  done = ap (λ o. then_do (within_limits room s change) (done_by s change o)) is

  pub refused_first : (e : Rule) → done_in s change.table def change.action ≡ Err e → effects_of room change s ≡ Err e
  refused_first e h = done ∙ ap (then_do (within_limits room s change)) h

  module _ (ops : List Op) (out : Capped Op) (all : done_in s change.table def change.action ≡ Ok ops) (kept : out ≡ extended (record { kept = []; room = room; over = false }) ops) where
    limited : effects_of room change s ≡ within_limits room s change ops
    limited = done ∙ ap (then_do (within_limits room s change)) all

    pub too_many : out.over ≡ true → effects_of room change s ≡ Err (limit Operations)
    too_many over =
        let long : nat_lt room (length ops) ≡ true = kept_over room ops out kept ∙ over in
        limited ∙ ap (λ b. cond b (Err (limit Operations)) (cond (passes_rows s change.table change.action) (Err (limit Rows)) (Ok ops))) long

    module _ (within : out.over ≡ false) where
      short : effects_of room change s ≡ cond (passes_rows s change.table change.action) (Err (limit Rows)) (Ok ops)
      short =
          let fits : nat_lt room (length ops) ≡ false = kept_over room ops out kept ∙ within in
          limited ∙ ap (λ b. cond b (Err (limit Operations)) (cond (passes_rows s change.table change.action) (Err (limit Rows)) (Ok ops))) fits

      pub too_many_rows : passes_rows s change.table change.action ≡ true → effects_of room change s ≡ Err (limit Rows)
      too_many_rows h = short ∙ ap (λ b. cond b (Err (limit Rows)) (Ok ops)) h

      pub all_kept : passes_rows s change.table change.action ≡ false → effects_of room change s ≡ Ok out.kept
      all_kept h = short ∙ ap (λ b. cond b (Err (limit Rows)) (Ok ops)) h ∙ ap Ok (sym (kept_whole room ops out kept within))

  module _ (begun : Capped Op) (new : begun ≡ record { kept = []; room = room; over = false }) where
    from_start : (ops : List Op) (out : Capped Op) → out ≡ extended begun ops → out ≡ extended (record { kept = []; room = room; over = false }) ops
    from_start ops out h = h ∙ ap (λ c. extended c ops) new

    pub refused_effects : (e : Refused) (out : Capped Op) → Adds (done_in s change.table def change.action) (Err e) begun out → Gives (effects_of room change s) (Err e)
    refused_effects (refused.Rule e) out h = refused_first e h
    refused_effects refused.Memory out h = tt

    module _ (u : Unit {0}) (out : Capped Op) (adds : Adds (done_in s change.table def change.action) (Ok u) begun out) where
      pub refused_operations : (e : Refused) → e ≡ refused.Rule (limit Operations) → out.over ≡ true → Gives (effects_of room change s) (Err e)
      refused_operations e is over =
          let (ops, all, kept) = adds in
          subst (λ x. Gives (effects_of room change s) (Err x)) (sym is) (too_many ops out all (from_start ops out kept) over)

      pub refused_rows : (e : Refused) → e ≡ refused.Rule (limit Rows) → out.over ≡ false → passes_rows s change.table change.action ≡ true → Gives (effects_of room change s) (Err e)
      refused_rows e is within passes =
          let (ops, all, kept) = adds in
          subst (λ x. Gives (effects_of room change s) (Err x)) (sym is) (too_many_rows ops out all (from_start ops out kept) within passes)

      pub given : out.over ≡ false → passes_rows s change.table change.action ≡ false → effects_of room change s ≡ Ok out.kept
      given within passes =
          let (ops, all, kept) = adds in
          all_kept ops out all (from_start ops out kept) within passes
