-- Laws of operations that are judged one after the other.
use Rattle.std.proofs.Common.{◌≡◌, ℕ, ◌+◌, ◌-◌, ◌<◌, ◌≤◌, ◌^◌, Option, Some, None, is_some, true, List, [], ◌∷◌, ◌++◌, length, take, drop, get_or, slice_get, refl, sym, ap, subst, ◌∙◌, arith}
use Rattle.std.specs.Option.{option_and_then, option_or}
use Rattle.std.proofs.lemmas.List.{drop_all, drop_more, take_more}
use Rattle.std.proofs.lemmas.Option.{slice_get_within}
use Rattle.table_state.proofs.ChangeLaws.{applies}
use Rattle.std.specs.FinMap.{len}
use Rattle.tier_base.specs.declared.number.TableId.{TableId}
use Rattle.table_defs.specs.declared.definition.TableDef.{TableDef}
use Rattle.indexed_rows.specs.Rows.{Table}
use Rattle.table_state.specs.declared.operation.Op.{Op}
use Rattle.table_state.specs.declared.operation.Op.TheVariants.{Insert, Update, Delete}
use Rattle.table_state.specs.declared.refusal.ApplyError.{ApplyError}
use Rattle.table_state.specs.declared.refusal.ApplyError.TheVariants as error
use Rattle.table_state.specs.Independence.{IsWhole}
use Rattle.table_state.specs.Operations.{applied, applied_all, table_of}
use Rattle.table_state.specs.Refusals.{IsFault, broken_by, broken_by_all, delete_fault, in_table, insert_fault, update_fault}
use Rattle.table_state.specs.Tables.{TableState, table_at}
use Rattle.table_state.proofs.HistoryLaws.{applied_all-append, one_more}
use Rattle.table_state.specs.Keyed.{IsKeyed}
use Rattle.table_state.proofs.KeyedLaws.{ops_keyed}
use Rattle.own_rows.specs.declared.own.OwnRows.{OwnRows}
use Rattle.own_rows.specs.Laying.{AreReady, AreStepsOf, HaveRoom}
use Rattle.own_rows.specs.Overlays.{FitsOn, overlaid}
use Rattle.own_rows.specs.OwnTables.{AreRowsOf, AreShown}
use Rattle.own_rows.proofs.RowsLaws.{fits, rows_none, sees}
use Rattle.own_rows.specs.declared.steps.Step.{Step}
use Rattle.own_rows.proofs.StepLaws.{as_many, room_less, steps_ready}
use Rattle.table_state.proofs.EmptyTables.{no_len}
use Rattle.std.specs.List.{All}
use Rattle.std.proofs.lemmas.List.Elements.{All-cons}
use Rattle.tier_statements.specs.Judging.{AreSmall}

-- the operations before a place are laid over the state, and the others are judged on what they leave
pub record Laid (s : TableState) (ops : List Op) (i : ℕ) (owns : List OwnRows) : Type 0 where
  pub now : TableState
  pub done : applied_all (take i ops) s ≡ Some now
  pub rest : broken_by_all ops s ≡ broken_by_all (drop i ops) now
  pub rows : AreRowsOf s.schema (take i ops) owns
  pub room : HaveRoom (length ops - i) owns
  pub wide : length owns ≡ length s.schema

-- one operation breaks what the list that it begins breaks first

module _ (op : Op) (s : TableState) where
  first_broken : (x : ApplyError) → broken_by op s ≡ Some x → (ops : List Op) → broken_by_all (op ∷ ops) s ≡ Some x
  first_broken x e ops = ap (λ o. option_or o (option_and_then (broken_by_all ops) (applied op s))) e

  alone : broken_by op s ≡ None → broken_by_all (op ∷ []) s ≡ None
  alone e = ap (λ o. option_or o (option_and_then (broken_by_all []) (applied op s))) e ∙ nothing (applied op s)
    where
      nothing : (o : Option TableState) → option_and_then (broken_by_all []) o ≡ None
      nothing None = refl
      nothing (Some n) = refl

  sound : broken_by_all (op ∷ []) s ≡ None → broken_by op s ≡ None
  sound e = by (broken_by op s) refl
    where
      by : (o : Option ApplyError) → broken_by op s ≡ o → o ≡ None
      by None is = refl
      by (Some x) is = let first = first_broken x is [] in cc

  -- what it leaves
  pub leaves : broken_by_all (op ∷ []) s ≡ None → (n : TableState) × (applied op s ≡ Some n)
  leaves e = by (applied op s) refl (applies op s (sound e))
    where
      by : (o : Option TableState) → applied op s ≡ o → is_some o ≡ true → (n : TableState) × (applied op s ≡ Some n)
      by None is some = cc
      by (Some n) is some = (n, is)

  -- the others are judged on that
  pub behind_it : broken_by_all (op ∷ []) s ≡ None → (n : TableState) → applied op s ≡ Some n → (ops : List Op) → broken_by_all (op ∷ ops) s ≡ broken_by_all ops n
  behind_it e n is ops =
      ap (λ o. option_or o (option_and_then (broken_by_all ops) (applied op s))) (sound e)
      ∙ ap (option_and_then (broken_by_all ops)) is

  pub fault_first : (ops : List Op) (e : ApplyError) → IsFault (broken_by_all (op ∷ []) s) e → IsFault (broken_by_all (op ∷ ops) s) e
  fault_first ops e = by (broken_by op s) refl e
    where
      by : (o : Option ApplyError) → broken_by op s ≡ o → (e : ApplyError) → IsFault (broken_by_all (op ∷ []) s) e → IsFault (broken_by_all (op ∷ ops) s) e
      by (Some x) is e fault = subst (λ f. IsFault f e) (first_broken x is [] ∙ sym (first_broken x is ops)) fault
      by None is (error.Rule rule) fault = let none = alone is in cc
      by None is (error.Differs t key row) fault = let none = alone is in cc
      by None is error.Memory fault = tt

  -- its table is there
  pub its_table : broken_by_all (op ∷ []) s ≡ None → (table_of op).0 < length s.schema
  its_table e = by op (sound e)
    where
      there : (fault : TableDef → Table → Option ApplyError) (t : ℕ) → in_table fault (slice_get s.schema t) (slice_get s.tables t) ≡ None → t < length s.schema
      there fault t e = within (slice_get s.schema t) refl e
        where
          within : (o : Option TableDef) → slice_get s.schema t ≡ o → in_table fault o (slice_get s.tables t) ≡ None → t < length s.schema
          within None is e = cc
          within (Some def) is e = slice_get_within s.schema t def is

      by : (op : Op) → broken_by op s ≡ None → (table_of op).0 < length s.schema
      by (Insert t row) e = there (insert_fault s row) t.0 e
      by (Update t old new) e = there (update_fault s t old new) t.0 e
      by (Delete t old) e = there (delete_fault s t old) t.0 e

module _ (s : TableState) (ops : List Op) (i : ℕ) (owns : List OwnRows) (whole : IsWhole s) (keyed : IsKeyed s) (small : AreSmall s) (laid : Laid s ops i owns) where
  shown : AreShown (take i ops) s
  shown = record {
    applies = ap is_some laid.done;
    whole = whole;
    keyed = keyed;
    small = λ t. let few = small t in omega arith;
  }

  within : length owns ≤ length s.schema
  within = let wide = laid.wide in omega arith

  pub fits_now : FitsOn owns s
  fits_now = fits (take i ops) owns s laid.rows within shown

  pub now_is : overlaid owns s ≡ laid.now
  now_is = let there = sees (take i ops) owns s laid.rows within shown in same (overlaid owns s) laid.now (sym there ∙ laid.done)
    where
      same : (a b : TableState) → Some a ≡ Some b → a ≡ b
      same a b e = cc

  pub keyed_now : IsKeyed (overlaid owns s)
  keyed_now = subst IsKeyed (sym now_is) (ops_keyed (take i ops) s laid.now laid.done keyed)

  pub whole_now : IsWhole (overlaid owns s)
  whole_now =
      let lies = laid.rows s laid.now (λ i def e. e) laid.done in
      subst IsWhole (sym now_is) (lies.whole ∙ whole ∙ ap (length {A = TableDef}) (sym lies.schema))

  module _ (op : Op) (lt : i < length ops) (is : op ≡ get_or ops i op) where
    drop_is : drop i ops ≡ op ∷ drop (i + 1) ops
    drop_is = drop_more ops i op lt ∙ ap (λ y. y ∷ drop (i + 1) ops) (sym is)

    rest_is : broken_by_all ops s ≡ broken_by_all (op ∷ drop (i + 1) ops) (overlaid owns s)
    rest_is = laid.rest ∙ ap (λ l. broken_by_all l laid.now) drop_is ∙ ap (broken_by_all (op ∷ drop (i + 1) ops)) (sym now_is)

    -- the operation breaks a rule, or memory is wanting
    pub stops : (e : ApplyError) → IsFault (broken_by_all (op ∷ []) (overlaid owns s)) e → IsFault (broken_by_all ops s) e
    stops e fault = subst (λ f. IsFault f e) (sym rest_is) (fault_first op (overlaid owns s) (drop (i + 1) ops) e fault)

    module _ (none : broken_by_all (op ∷ []) (overlaid owns s) ≡ None) where
      pub table_there : (table_of op).0 < length s.schema
      table_there = its_table op (overlaid owns s) none

      pub laid_more : (schema : List TableDef) (new : List OwnRows) → schema ≡ s.schema
          → ((before : List Op) → AreRowsOf schema before owns → AreRowsOf schema (before ++ op ∷ []) new)
          → ((n : ℕ) → HaveRoom (1 + n) owns → HaveRoom n new) → length new ≡ length owns
          → Laid s ops (i + 1) new
      laid_more schema new schema_is rows room long =
          let next = leaves op (overlaid owns s) none in
          record {
            now = next.0;
            done = one_more applied applied_all (λ s. refl) (λ x xs s. refl) applied_all-append ops i op s laid.now lt is laid.done next.0 (ap (applied op) (sym now_is) ∙ next.1);
            rest = rest_is ∙ behind_it op (overlaid owns s) none next.0 next.1 (drop (i + 1) ops);
            rows = subst (λ l. AreRowsOf s.schema l new) (sym (take_more ops i op lt ∙ ap (λ y. take i ops ++ y ∷ []) (sym is)))
                (subst (λ d. AreRowsOf d (take i ops ++ op ∷ []) new) schema_is (rows (take i ops) (subst (λ d. AreRowsOf d (take i ops) owns) (sym schema_is) laid.rows)));
            room = room (length ops - (i + 1)) (subst (λ n. HaveRoom n owns) counted laid.room);
            wide = long ∙ laid.wide;
          }
        where
          counted : length ops - i ≡ 1 + (length ops - (i + 1))
          counted = omega (arith, lt)

    pub room_now : HaveRoom 1 owns
    room_now = room_less (length ops - i) 1 owns (omega arith) laid.room

  pub all_laid : length ops ≤ i → broken_by_all ops s ≡ None
  all_laid past = laid.rest ∙ ap (λ l. broken_by_all l laid.now) (drop_all i ops past)

-- nothing is laid yet
pub none_laid : (s : TableState) (ops : List Op) (owns : List OwnRows) → ((known : List TableDef) (before : List Op) → AreRowsOf known before [] → AreRowsOf known before owns)
    → ((n : ℕ) → n < 2 ^ 63 → HaveRoom n [] → HaveRoom n owns) → length owns ≡ length s.schema → length ops < 2 ^ 62 → Laid s ops 0 owns
none_laid s ops owns rows room wide few = record {
  now = s;
  done = refl;
  rest = refl;
  rows = rows s.schema [] (rows_none s.schema);
  room = room (length ops - 0) (omega arith) (λ i own e. nothing own e);
  wide = wide;
}
  where
    nothing : {A : Type 0} (own : OwnRows) → None ≡ Some own → A
    nothing own e = cc

-- a table past the end has no rows
pub small_where : (s : TableState) (n : ℕ) → IsWhole s → length s.schema ≤ n → ((t : TableId) → t.0 < n → len (table_at s t) < 2 ^ 62) → AreSmall s
small_where s n whole le few t = by (slice_get s.tables t.0) refl
  where
    by : (o : Option Table) → slice_get s.tables t.0 ≡ o → len (table_at s t) < 2 ^ 62
    by None is = let none = no_len (slice_get s.tables t.0) (sym is) in omega arith
    by (Some table) is = let within = slice_get_within s.tables t.0 table is in few t (omega arith)

-- one step on own rows
module _ (schema : List TableDef) (op : Op) (owns : List OwnRows) (steps : List (TableId × Step)) (ops : List Op) (ops_is : ops ≡ op ∷ []) (are : AreStepsOf schema ops steps) (wide : length owns ≡ length schema) where
  pub one_ready : AreReady (length owns) steps
  one_ready = steps_ready schema ops steps (length owns) wide are

  pub one_step : length steps ≡ 1
  one_step = as_many schema ops steps are ∙ ap (length {A = Op}) ops_is

  pub step_room : HaveRoom 1 owns → HaveRoom (length steps) owns
  step_room room = subst (λ n. HaveRoom n owns) (sym one_step) room

-- all operations of one are within
pub one_within : (n : ℕ) (op : Op) (ops : List Op) → ops ≡ op ∷ [] → (table_of op).0 < n → All (λ op. (table_of op).0 < n) ops
one_within n op ops is lt = subst (All (λ op. (table_of op).0 < n)) (sym is) (All-cons (λ op. (table_of op).0 < n) op [] lt (λ k d within. absurd (omega arith)))
