-- The virtual state and a group's order agree on the group's tables.
use Rattle.std.proofs.Common.{◌≡◌, ℕ, zero, suc, true, false, not, ◌&&◌, ◌||◌, nat_eq, Option, Some, None, List, [], ◌∷◌, ◌++◌, length, map, slice_get, unwrap_or, refl, sym, ap, ◌∙◌, arith}
use Rattle.std.specs.List.{filter, list_any}
use Rattle.std.specs.FinMap.{empty}
use Rattle.std.proofs.lemmas.List.Folds.{list_any-append}
use Rattle.table_state.specs.tier_base.specs.declared.number.TableId.{TableId}
use Rattle.table_state.specs.table_defs.specs.declared.definition.TableDef.{TableDef}
use Rattle.table_state.specs.declared.history.Entry.{Entry}
use Rattle.table_state.specs.declared.history.Sealed.{Sealed}
use Rattle.table_state.specs.declared.operation.Op.{Op}
use Rattle.table_state.specs.Copies.{is_one_of}
use Rattle.table_state.specs.Histories.{entry_of, no_tables}
use Rattle.table_state.specs.Independence.{IsWhole}
use Rattle.table_state.specs.Tables.{TableState, table_at}
use Rattle.table_state.specs.Operations.{table_of}
use Rattle.table_state.proofs.IndependenceLaws.{history_whole}
use Rattle.order_laws.specs.Commits.{HasOps, LiveGroup, NoneBelow, Once, RiseBetween, entry_on, in_order, is_op_on, is_other, of_group, pending, virtual_state}
use Rattle.order_laws.specs.Sides.{AgreeOn, IsClosed, are_off}
use Rattle.order_laws.specs.Standing.{GroupIsOrdered, GroupsAreOrdered, StandOver, live_tables, progress_of}
use Rattle.order_laws.proofs.OrderLaws.{ordered_schema, virtual_in_order, virtual_is, virtual_schema}
use Rattle.order_laws.proofs.StepLaws.{or_none}
use Rattle.order_laws.proofs.TruthLaws.{both_true, untrue}

pub no_element : {X Y : Type 0} (xs : List X) (ys : List Y) (i : ℕ) → slice_get xs i ≡ None → length ys ≡ length xs → slice_get ys i ≡ None
no_element [] [] i e size = refl
no_element [] (y ∷ ys) i e size = absurd (omega arith)
no_element (x ∷ xs) [] i e size = refl
no_element (x ∷ xs) (y ∷ ys) zero e size = cc
no_element (x ∷ xs) (y ∷ ys) (suc i) e size = no_element xs ys i e (omega arith)

pub virtual_whole : (h : List Entry) (log : List Sealed) (v : TableState) → virtual_state h log ≡ Some v → IsWhole v
virtual_whole h log v is = history_whole (h ++ map entry_of (pending h log)) no_tables v (sym (virtual_is h log) ∙ is) refl

ordered_whole : (g : LiveGroup) (h : List Entry) (log : List Sealed) (o : TableState) → in_order g h log ≡ Some o → IsWhole o
ordered_whole g h log o is = history_whole (map (entry_on g.tables) (filter (is_other (of_group g log)) h ++ map entry_of (of_group g log))) no_tables o is refl

pub same_in_order : (g : LiveGroup) (h : List Entry) (low : ℕ) (log : List Sealed) (high : ℕ) (v o : TableState) → Once h → HasOps log h → RiseBetween low log high → NoneBelow g h log
    → virtual_state h log ≡ Some v → in_order g h log ≡ Some o → AgreeOn g.tables v o
same_in_order g h low log high v o once ops rise none_below v_is o_is = record {
  schema = schemas;
  size = let a : length o.tables ≡ length o.schema = ordered_whole g h log o o_is in let b : length v.tables ≡ length v.schema = virtual_whole h log v v_is in a ∙ ap length schemas ∙ sym b;
  rows = λ t on. by t on (slice_get v.schema t.0) refl;
}
  where
    schemas : o.schema ≡ v.schema
    schemas = ordered_schema g h log o o_is ∙ sym (virtual_schema h log v v_is)

    by : (t : TableId) → is_one_of g.tables t ≡ true → (d : Option TableDef) → slice_get v.schema t.0 ≡ d → table_at o t ≡ table_at v t
    by t on None d =
        let mine : slice_get o.tables t.0 ≡ None = no_element o.schema o.tables t.0 (ap (λ l. slice_get l t.0) schemas ∙ d) (ordered_whole g h log o o_is) in
        let its : slice_get v.tables t.0 ≡ None = no_element v.schema v.tables t.0 d (virtual_whole h log v v_is) in
        ap (λ x. unwrap_or x empty) (mine ∙ sym its)
    by t on (Some def) d = virtual_in_order g h low log high v o once ops rise none_below v_is o_is t def on d

pub same_on_group : (groups : List LiveGroup) (h : List Entry) (log : List Sealed) (next : ℕ) (over : StandOver (progress_of groups h log next)) (g : LiveGroup) → GroupIsOrdered g h log over.backing.schema next
    → (o : TableState) → in_order g h log ≡ Some o → AgreeOn g.tables over.virtual o
same_on_group groups h log next over g ordered o o_is = same_in_order g h 1 log next over.virtual o over.legal.once over.legal.ops over.rise ordered.none_below over.virtual_is o_is

-- the tables of all live groups

pub all_closed : (groups : List LiveGroup) (h : List Entry) (log : List Sealed) (schema : List TableDef) (next : ℕ) → GroupsAreOrdered groups h log schema next → IsClosed (live_tables groups) schema
all_closed [] h log schema next ordered t def f d f_is = refl
all_closed (g ∷ groups) h log schema next ordered t def f d f_is =
    list_any-append (λ (one : TableId). nat_eq one.0 f.parent.0) g.tables (live_tables groups)
    ∙ (λ i. ordered.0.closed t def f d f_is i || all_closed groups h log schema next ordered.1 t def f d f_is i)
    ∙ sym (list_any-append (λ (one : TableId). nat_eq one.0 t.0) g.tables (live_tables groups))

-- what is off all live tables is off each group's
pub off_part : (a b : List TableId) (ops : List Op) → are_off (a ++ b) ops ≡ true → (list_any (is_op_on a) ops ≡ false) × (are_off b ops ≡ true)
off_part a b [] off = (refl, refl)
off_part a b (op ∷ ops) off =
    let (first, rest) = both_true (not (is_op_on (a ++ b) op)) (are_off (a ++ b) ops) off in
    let (here, there) = or_none (is_op_on a op) (is_op_on b op) (sym (list_any-append (λ (one : TableId). nat_eq one.0 (table_of op).0) a b) ∙ untrue (is_op_on (a ++ b) op) first) in
    let (more, last) = off_part a b ops rest in
    ((λ i. (here i || more i)), (λ i. not (there i) && last i))
