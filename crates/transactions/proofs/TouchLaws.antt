-- Laws of which tables writes touch.
use Rattle.std.proofs.Common.{◌≡◌, ℕ, zero, suc, ◌+◌, ◌-◌, ◌^◌, Bool, true, false, cond, ◌&&◌, ◌||◌, nat_lt, Option, Some, None, is_some, Result, Ok, Err, List, [], ◌∷◌, ◌++◌, length, slice_get, slice_set, unwrap_or, refl, sym, ap, subst, ◌∙◌, arith}
use Rattle.std.specs.List.{flat_map, list_all, list_any}
use Rattle.std.specs.Option.{option_and_then, option_map, option_or, option_to_list}
use Rattle.std.proofs.lemmas.Grind.{flat_map-append}
use Rattle.std.proofs.lemmas.Bool.{eq-eqb}
use Rattle.std.proofs.lemmas.List.Folds.{list_all-append}
use Rattle.evaluator.specs.row_types.specs.declared.rule.Rule.{Rule}
use Rattle.evaluator.specs.row_types.specs.declared.truth.Truth.{Truth}
use Rattle.evaluator.specs.row_types.specs.declared.truth.Truth.TheVariants.{True, False, Unknown}
use Rattle.evaluator.specs.row_types.specs.declared.value.Value.{Value}
use Rattle.evaluator.specs.tier_base.specs.declared.limit.Limit.TheVariants.{Operations, Rows}
use Rattle.evaluator.specs.tier_base.specs.declared.number.TableId.{TableId}
use Rattle.evaluator.specs.table_defs.specs.declared.definition.ForeignKey.{ForeignKey}
use Rattle.evaluator.specs.table_defs.specs.declared.definition.TableDef.{TableDef}
use Rattle.evaluator.specs.table_state.specs.declared.operation.Op.{Op}
use Rattle.evaluator.specs.table_state.specs.declared.operation.Op.TheVariants as op
use Rattle.evaluator.specs.table_state.specs.declared.refusal.ApplyError.{ApplyError}
use Rattle.evaluator.specs.table_state.specs.Operations.{applied, applied_all, on_table, table_of}
use Rattle.evaluator.specs.table_state.specs.Refusals.{broken_by, broken_by_all}
use Rattle.evaluator.specs.indexed_rows.specs.Rows.{Table}
use Rattle.evaluator.specs.table_state.specs.Tables.{TableState}
use Rattle.evaluator.specs.table_state.proofs.ChangeLaws.{applies}
use Rattle.evaluator.specs.table_state.proofs.HistoryLaws.{applied_all-append}
use Rattle.evaluator.specs.declared.change.Action.{Action}
use Rattle.evaluator.specs.declared.change.Action.TheVariants.{Insert, Update, Delete}
use Rattle.evaluator.specs.declared.change.Change.{Change}
use Rattle.evaluator.specs.Cascades.{cascades_from, child_at, children_from, deleted, key_in, referring}
use Rattle.evaluator.specs.Rules.{added, each, limit, or_overflow, then_do}
use Rattle.evaluator.specs.Writes.{built, done_by, done_in, done_on, done_to, effects_of, filter_of, if_true, passes_rows, selects, within_limits}
use Rattle.transactions.specs.Touching.{Touches, is_child, is_touched}
use Rattle.transactions.specs.Transactions.{Done, and_then, applied_to, behind, is_of, left_by, written_by, written_by_all, written_in}

same_ok : {A E : Type 0} (r : Result A E) {a b : A} → r ≡ Ok a → r ≡ Ok b → a ≡ b
same_ok (Ok x) e f = cc
same_ok (Err x) e f = cc

-- all pass a test

module _ (p : Op → Bool) where
  both_lists : (xs ys : List Op) → list_all p xs ≡ true → list_all p ys ≡ true → list_all p (xs ++ ys) ≡ true
  both_lists xs ys a b = list_all-append p xs ys ∙ ap (λ c. c && list_all p ys) a ∙ b

  nil_passes : (r : Result (List Op) Rule) (ops : List Op) → r ≡ Ok [] → r ≡ Ok ops → list_all p ops ≡ true
  nil_passes r ops none is = subst (λ l. list_all p l ≡ true) (same_ok r none is) refl

  one_passes : (x : Op) → p x ≡ true → list_all p (x ∷ []) ≡ true
  one_passes x h = ap (λ b. b && true) h

  rows_pass : (f : List Value → List Op) → ((row : List Value) → list_all p (f row) ≡ true) → (rows : List (List Value)) → list_all p (flat_map f rows) ≡ true
  rows_pass f h [] = refl
  rows_pass f h (row ∷ rows) = both_lists (f row) (flat_map f rows) (h row) (rows_pass f h rows)

  each_pass : {X : Type 0} (f : X → Result (List Op) Rule) → ((x : X) (ops : List Op) → f x ≡ Ok ops → list_all p ops ≡ true) → (xs : List X) (ops : List Op) → each f xs ≡ Ok ops → list_all p ops ≡ true
  each_pass f h [] ops is = let none : [] ≡ ops = cc in subst (λ l. list_all p l ≡ true) none refl
  each_pass f h (x ∷ xs) ops is = by (f x) refl (each f xs) (each_pass f h xs) is
    where
      by : (a : Result (List Op) Rule) → f x ≡ a → (b : Result (List Op) Rule) → ((more : List Op) → b ≡ Ok more → list_all p more ≡ true) → added a b ≡ Ok ops → list_all p ops ≡ true
      by (Err e) a_is b rest both = cc
      by (Ok xs) a_is (Err e) rest both = cc
      by (Ok xs) a_is (Ok ys) rest both = let is : xs ++ ys ≡ ops = cc in subst (λ l. list_all p l ≡ true) is (both_lists xs ys (h x xs a_is) (rest ys refl))

  op_passes : {A : Type 0} (f : A → Op) → ((x : A) → p (f x) ≡ true) → (r : Result A Rule) (ops : List Op) → then_do (λ x. Ok (f x ∷ [])) r ≡ Ok ops → list_all p ops ≡ true
  op_passes f h (Err e) ops is = cc
  op_passes f h (Ok x) ops is = let one : f x ∷ [] ≡ ops = cc in subst (λ l. list_all p l ≡ true) one (one_passes (f x) (h x))

-- a table whose rows leave with others has a foreign key
has_key : (parent : TableId) (key : Option ForeignKey) → cascades_from parent key ≡ true → is_some key ≡ true
has_key parent None h = cc
has_key parent (Some foreign) h = refl

module _ (s : TableState) (p : Op → Bool) (children : (t : TableId) (row : List Value) → is_child (slice_get s.schema t.0) ≡ true → p (op.Delete t row) ≡ true) where
  module _ (f : TableId → List Op) (passes : (t : TableId) → is_child (slice_get s.schema t.0) ≡ true → list_all p (f t) ≡ true) where
    child_passes : (parent : TableId) (place : ℕ) (def : TableDef) → slice_get s.schema place ≡ Some def → list_all p (flat_map f (child_at parent place def)) ≡ true
    child_passes parent place def at = by (cascades_from parent def.foreign_key) refl (nat_lt place (2 ^ 32))
      where
        by : (b : Bool) → cascades_from parent def.foreign_key ≡ b → (c : Bool) → list_all p (flat_map f (cond b (option_to_list (cond c (Some (record { 0 = place })) None)) [])) ≡ true
        by false is c = refl
        by true is false = refl
        by true is true = both_lists p (f (record { 0 = place })) [] (passes (record { 0 = place }) (ap is_child at ∙ has_key parent def.foreign_key is)) refl

    children_pass : (parent : TableId) (place : ℕ) (defs : List TableDef) → ((k : ℕ) → slice_get s.schema (place + k) ≡ slice_get defs k) → list_all p (flat_map f (children_from parent place defs)) ≡ true
    children_pass parent place [] at = refl
    children_pass parent place (def ∷ defs) at =
        let here : slice_get s.schema place ≡ Some def = ap (slice_get s.schema) (omega arith) ∙ at 0 in
        ap (list_all p) (flat_map-append f (child_at parent place def) (children_from parent (suc place) defs))
        ∙ both_lists p (flat_map f (child_at parent place def)) (flat_map f (children_from parent (suc place) defs)) (child_passes parent place def here)
        (children_pass parent (suc place) defs (λ k. (let next : suc place + k ≡ place + suc k = omega arith in ap (slice_get s.schema) next ∙ at (suc k))))

  deleted_pass : (n : ℕ) (t : TableId) (row : List Value) → ((r : List Value) → p (op.Delete t r) ≡ true) → list_all p (deleted n s t row) ≡ true
  deleted_pass zero t row h = refl
  deleted_pass (suc n) t row h =
      both_lists p (flat_map (λ child. flat_map (deleted n s child) (referring s (key_in (slice_get s.schema t.0) row) child)) (children_from t 0 s.schema)) (op.Delete t row ∷ [])
      (children_pass (λ child. flat_map (deleted n s child) (referring s (key_in (slice_get s.schema t.0) row) child))
      (λ child is. rows_pass p (deleted n s child) (λ r. deleted_pass n child r (λ q. children child q is)) (referring s (key_in (slice_get s.schema t.0) row) child))
      t 0 s.schema (λ k. (let same : 0 + k ≡ k = omega arith in ap (slice_get s.schema) same)))
      (one_passes p (op.Delete t row) (h row))

  module _ (t : TableId) (own : (x : Op) → (table_of x).0 ≡ t.0 → p x ≡ true) where
    done_to_passes : (def : TableDef) (action : Action) (row : List Value) (ops : List Op) → done_to s t def action row ≡ Ok ops → list_all p ops ≡ true
    done_to_passes def (Insert es) row ops is = nil_passes p (Ok []) ops refl is
    done_to_passes def (Update es filter) row ops is = op_passes p (op.Update t row) (λ new. own (op.Update t row new) refl) (built def.columns es row) ops is
    done_to_passes def (Delete filter) row ops is =
        subst (λ l. list_all p l ≡ true) (same_ok _ refl is) (deleted_pass (length s.schema) t row (λ r. own (op.Delete t r) refl))

    done_on_passes : (def : TableDef) (action : Action) (row : List Value) (ops : List Op) → done_on s t def action row ≡ Ok ops → list_all p ops ≡ true
    done_on_passes def action row ops is = by (selects (filter_of action) row) is
      where
        by : (o : Option Truth) → then_do (λ b. if_true b (done_to s t def action row)) (or_overflow o) ≡ Ok ops → list_all p ops ≡ true
        by None is = cc
        by (Some True) is = done_to_passes def action row ops is
        by (Some False) is = nil_passes p (Ok []) ops refl is
        by (Some Unknown) is = nil_passes p (Ok []) ops refl is

    done_in_passes : (def : TableDef) (action : Action) (ops : List Op) → done_in s t def action ≡ Ok ops → list_all p ops ≡ true
    done_in_passes def (Insert es) ops is = op_passes p (op.Insert t) (λ row. own (op.Insert t row) refl) (built def.columns es []) ops is
    done_in_passes def (Update es filter) ops is = each_pass p (done_on s t def (Update es filter)) (done_on_passes def (Update es filter)) _ ops is
    done_in_passes def (Delete filter) ops is = each_pass p (done_on s t def (Delete filter)) (done_on_passes def (Delete filter)) _ ops is

  -- the operations of a write
  effects_pass : (room : ℕ) (change : Change) (ops : List Op) → ((x : Op) → (table_of x).0 ≡ change.table.0 → p x ≡ true) → effects_of room change s ≡ Ok ops → list_all p ops ≡ true
  effects_pass room change ops own is = by (slice_get s.schema change.table.0) is
    where
      limits : (done : List Op) (e f : Rule) (over rows : Bool) → list_all p done ≡ true → cond over (Err e) (cond rows (Err f) (Ok done)) ≡ Ok ops → list_all p ops ≡ true
      limits done e f true rows h is = cc
      limits done e f false true h is = cc
      limits done e f false false h is = subst (λ l. list_all p l ≡ true) (same_ok _ refl is) h

      within : (r : Result (List Op) Rule) → ((done : List Op) → r ≡ Ok done → list_all p done ≡ true) → then_do (within_limits room s change) r ≡ Ok ops → list_all p ops ≡ true
      within (Err e) h is = cc
      within (Ok done) h is = limits done (limit Operations) (limit Rows) (nat_lt room (length done)) (passes_rows s change.table change.action) (h done refl) is

      by : (d : Option TableDef) → then_do (within_limits room s change) (done_by s change d) ≡ Ok ops → list_all p ops ≡ true
      by None is = cc
      by (Some def) is = within (done_in s change.table def change.action) (done_in_passes change.table own def change.action) is

-- the definitions stay

op_schema : (s n : TableState) (t : TableId) (change : TableDef → Table → Option Table) → on_table s t change ≡ Some n → n.schema ≡ s.schema
op_schema s n t change is = by (slice_get s.schema t.0) (slice_get s.tables t.0) is
  where
    made : (o : Option Table) → option_map (λ new. record { schema = s.schema; tables = slice_set s.tables t.0 new }) o ≡ Some n → n.schema ≡ s.schema
    made None is = cc
    made (Some new) is = let same : record { schema = s.schema; tables = slice_set s.tables t.0 new } ≡ n = cc in ap (λ (x : TableState). x.schema) (sym same)

    by : (d : Option TableDef) (m : Option Table) → option_and_then (λ def. option_and_then (λ table. option_map (λ new. record { schema = s.schema; tables = slice_set s.tables t.0 new }) (change def table)) m) d ≡ Some n → n.schema ≡ s.schema
    by None m is = cc
    by (Some def) None is = cc
    by (Some def) (Some table) is = made (change def table) is

pub applied_schema : (x : Op) (s n : TableState) → applied x s ≡ Some n → n.schema ≡ s.schema
applied_schema (op.Insert t row) s n is = op_schema s n t _ is
applied_schema (op.Update t old row) s n is = op_schema s n t _ is
applied_schema (op.Delete t old) s n is = op_schema s n t _ is

pub all_schema : (ops : List Op) (s n : TableState) → applied_all ops s ≡ Some n → n.schema ≡ s.schema
all_schema [] s n is = let same : s ≡ n = cc in ap (λ (x : TableState). x.schema) (sym same)
all_schema (x ∷ ops) s n is = by (applied x s) refl is (λ t h. all_schema ops t n h)
  where
    by : (o : Option TableState) → applied x s ≡ o → option_and_then (applied_all ops) o ≡ Some n → ((t : TableState) → applied_all ops t ≡ Some n → n.schema ≡ t.schema) → n.schema ≡ s.schema
    by None e h rest = cc
    by (Some t) e h rest = rest t h ∙ applied_schema x s t e

-- unbroken operations apply

all_there : (ops : List Op) (s : TableState) → broken_by_all ops s ≡ None → is_some (applied_all ops s) ≡ true
all_there [] s h = refl
all_there (x ∷ ops) s h = by (broken_by x s) refl (applied x s) refl h (λ t. all_there ops t)
  where
    by : (f : Option ApplyError) → broken_by x s ≡ f → (o : Option TableState) → applied x s ≡ o → option_or f (option_and_then (broken_by_all ops) o) ≡ None
        → ((t : TableState) → broken_by_all ops t ≡ None → is_some (applied_all ops t) ≡ true) → is_some (option_and_then (applied_all ops) o) ≡ true
    by (Some e) f_is o o_is h rest = cc
    by None f_is None o_is h rest = ap is_some (sym o_is) ∙ applies x s f_is
    by None f_is (Some t) o_is h rest = rest t h

all_apply : (ops : List Op) (s : TableState) → broken_by_all ops s ≡ None → applied_all ops s ≡ Some (unwrap_or (applied_all ops s) s)
all_apply ops s none = there (applied_all ops s) (all_there ops s none)
  where
    there : (o : Option TableState) → is_some o ≡ true → o ≡ Some (unwrap_or o s)
    there None h = cc
    there (Some n) h = refl

-- what a write did

pub record DidOne (room : ℕ) (change : Change) (s : TableState) (done : Done) : Type 0 where
  pub effects : effects_of room change s ≡ Ok done.written.ops
  pub applied : applied_all done.written.ops s ≡ Some done.state

pub did_one : (room : ℕ) (change : Change) (s : TableState) (done : Done) → written_by room change s ≡ Ok done → DidOne room change s done
did_one room change s done is = by (effects_of room change s) refl is
  where
    left : (ops : List Op) → effects_of room change s ≡ Ok ops → (f : Option ApplyError) → broken_by_all ops s ≡ f → left_by change s ops f ≡ Ok done → DidOne room change s done
    left ops ops_is (Some e) f_is is = cc
    left ops ops_is None f_is is =
        subst (λ d. DidOne room change s d) (same_ok _ refl is) (record { effects = ops_is; applied = all_apply ops s f_is })

    by : (r : Result (List Op) Rule) → effects_of room change s ≡ r → applied_to change s r ≡ Ok done → DidOne room change s done
    by (Err e) r_is is = cc
    by (Ok ops) r_is is = left ops r_is (broken_by_all ops s) refl is

-- what several writes did

record DidAll (p : Op → Bool) (s : TableState) (done : Done) : Type 0 where
  passes : list_all p done.written.ops ≡ true
  applied : applied_all done.written.ops s ≡ Some done.state

or_first : (a b : Bool) → a ≡ true → (a || b) ≡ true
or_first true b h = refl
or_first false b h = cc

or_second : (a b : Bool) → b ≡ true → (a || b) ≡ true
or_second true b h = refl
or_second false b h = h

-- the first write, and what the others did behind it
module _ (p : Op → Bool) (room : ℕ) (change : Change) (s : TableState) (children : (t : TableId) (row : List Value) → is_child (slice_get s.schema t.0) ≡ true → p (op.Delete t row) ≡ true) (first : Done) (first_is : written_by room change s ≡ Ok first) where
  did_first : DidOne room change s first
  did_first = did_one room change s first first_is

  children_then : (t : TableId) (row : List Value) → is_child (slice_get first.state.schema t.0) ≡ true → p (op.Delete t row) ≡ true
  children_then t row h = children t row (ap (λ l. is_child (slice_get l t.0)) (sym (all_schema first.written.ops s first.state did_first.applied)) ∙ h)

  module _ (own : (x : Op) → is_of change.table x ≡ true → p x ≡ true) (done : Done) where
    first_passes : list_all p first.written.ops ≡ true
    first_passes = effects_pass s p children room change first.written.ops (λ x same. own x (eq-eqb _ _ same)) did_first.effects

    rest_passes : (more : Done) → DidAll p first.state more → behind first.written (Ok more) ≡ Ok done → DidAll p s done
    rest_passes more h is =
        subst (λ d. DidAll p s d) (same_ok _ refl is) (record {
          passes = both_lists p first.written.ops more.written.ops first_passes h.passes;
          applied = applied_all-append first.written.ops more.written.ops s ∙ ap (option_and_then (applied_all more.written.ops)) did_first.applied ∙ h.applied;
        })

    then_rest : (r : Result Done ApplyError) → ((more : Done) → r ≡ Ok more → DidAll p first.state more) → behind first.written r ≡ Ok done → DidAll p s done
    then_rest (Err e) h is = cc
    then_rest (Ok more) h is = rest_passes more (h more refl) is

all_pass : (p : Op → Bool) (room : ℕ) (changes : List Change) (s : TableState) (done : Done) → ((x : Op) → list_any (λ c. is_of c.table x) changes ≡ true → p x ≡ true)
    → ((t : TableId) (row : List Value) → is_child (slice_get s.schema t.0) ≡ true → p (op.Delete t row) ≡ true) → written_in room changes s ≡ Ok done → DidAll p s done
all_pass p room [] s done own children is =
    subst (λ d. DidAll p s d) (same_ok _ refl is) (record { passes = refl; applied = refl })
all_pass p room (change ∷ changes) s done own children is =
    by (written_by room change s) refl is
    (λ first more own children h. all_pass p (room - length first.written.ops) changes first.state more own children h)
  where
    by : (r : Result Done ApplyError) → written_by room change s ≡ r → and_then (λ first. behind first.written (written_in (room - length first.written.ops) changes first.state)) r ≡ Ok done
        → ((first more : Done) → ((x : Op) → list_any (λ c. is_of c.table x) changes ≡ true → p x ≡ true)
        → ((t : TableId) (row : List Value) → is_child (slice_get first.state.schema t.0) ≡ true → p (op.Delete t row) ≡ true)
        → written_in (room - length first.written.ops) changes first.state ≡ Ok more → DidAll p first.state more) → DidAll p s done
    by (Err e) r_is is rest = cc
    by (Ok first) r_is is rest =
        then_rest p room change s children first r_is (λ x h. own x (or_first (is_of change.table x) (list_any (λ c. is_of c.table x) changes) h)) done
        (written_in (room - length first.written.ops) changes first.state)
        (λ more. rest first more (λ x h. own x (or_second (is_of change.table x) (list_any (λ c. is_of c.table x) changes) h)) (children_then p room change s children first r_is)) is

module _ (changes : List Change) (s : TableState) where
  own_touched : (x : Op) → list_any (λ c. is_of c.table x) changes ≡ true → is_touched changes s x ≡ true
  own_touched x h = or_first _ _ h

  child_touched : (t : TableId) (row : List Value) → is_child (slice_get s.schema t.0) ≡ true → is_touched changes s (op.Delete t row) ≡ true
  child_touched t row h = or_second _ _ h

-- one write, and several

pub one_touches : (room : ℕ) (change : Change) (s : TableState) (ops : List Op) → effects_of room change s ≡ Ok ops → Touches (change ∷ []) s ops
one_touches room change s ops is =
    effects_pass s (is_touched (change ∷ []) s) (child_touched (change ∷ []) s) room change ops
    (λ x same. own_touched (change ∷ []) s x (or_first (is_of change.table x) false (eq-eqb _ _ same))) is

did_all : (changes : List Change) (s : TableState) (done : Done) → written_by_all changes s ≡ Ok done → DidAll (is_touched changes s) s done
did_all changes s done is = all_pass (is_touched changes s) _ changes s done (own_touched changes s) (child_touched changes s) is

pub all_touch : (changes : List Change) (s : TableState) (done : Done) → written_by_all changes s ≡ Ok done → Touches changes s done.written.ops
all_touch changes s done is = (did_all changes s done is).passes

pub done_applies : (changes : List Change) (s : TableState) (done : Done) → written_by_all changes s ≡ Ok done → applied_all done.written.ops s ≡ Some done.state
done_applies changes s done is = (did_all changes s done is).applied

pub schema_stays : (changes : List Change) (s : TableState) (done : Done) → written_by_all changes s ≡ Ok done → done.state.schema ≡ s.schema
schema_stays changes s done is = all_schema done.written.ops s done.state (done_applies changes s done is)
