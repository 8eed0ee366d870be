-- Root keys of operations that are laid one after another.
use Rattle.std.proofs.Common.{◌≡◌, ℕ, ◌+◌, ◌<◌, ◌≤◌, Option, Some, None, List, [], ◌∷◌, ◌++◌, drop, get_or, length, take, refl, sym, ap, ◌∙◌, append_assoc}
use Rattle.std.specs.Option.{option_and_then, option_or}
use Rattle.std.proofs.lemmas.List.{drop_all, drop_more, take_more}
use Rattle.row_types.specs.declared.value.Value.{Value}
use Rattle.table_state.specs.declared.footprint.RowKey.{RowKey}
use Rattle.table_state.specs.declared.operation.Op.{Op}
use Rattle.table_state.specs.declared.refusal.ApplyError.{ApplyError}
use Rattle.table_state.specs.Independence.{IsWhole}
use Rattle.table_state.specs.Keyed.{IsKeyed}
use Rattle.table_state.specs.Operations.{applied}
use Rattle.table_state.specs.Refusals.{broken_by, broken_by_all}
use Rattle.table_state.specs.Tables.{TableState}
use Rattle.own_rows.specs.Overlays.{overlaid}
use Rattle.own_rows.specs.declared.own.OwnRows.{OwnRows}
use Rattle.instances.specs.declared.tree.Tree.{Tree}
use Rattle.cache_tier.specs.Recency.{op_key}
use Rattle.cache_tier.specs.Shown.{all_over, over}
use Rattle.cache_tier.proofs.OverLaws.{over_is_applied}
use Rattle.tier_statements.specs.Judging.{AreSmall}
use Rattle.tier_statements.proofs.JudgeLaws.{Laid, now_is}
use Rattle.statement_uses.specs.Uses.{roots_of_op, roots_of_ops, roots_of_row}

abbrev Row : Type 0
Row = List Value

-- the next one of a list
pub next_item : {A : Type 0} (xs : List A) (i : ℕ) (x : A) → i < length xs → x ≡ get_or xs i x → drop i xs ≡ x ∷ drop (i + 1) xs
next_item xs i x lt is = drop_more xs i x lt ∙ ap (λ y. y ∷ drop (i + 1) xs) (sym is)

-- the first of operations that break nothing breaks nothing
alone : (op : Op) (s : TableState) → broken_by op s ≡ None → broken_by_all (op ∷ []) s ≡ None
alone op s e = ap (λ o. option_or o (option_and_then (broken_by_all []) (applied op s))) e ∙ nothing (applied op s)
  where
    nothing : (o : Option TableState) → option_and_then (broken_by_all []) o ≡ None
    nothing None = refl
    nothing (Some n) = refl

first_free : (a b : Option ApplyError) → option_or a b ≡ None → a ≡ None
first_free None b e = refl
first_free (Some x) b e = cc

pub first_unbroken : (op : Op) (more : List Op) (s : TableState) → broken_by_all (op ∷ more) s ≡ None → broken_by_all (op ∷ []) s ≡ None
first_unbroken op more s e = alone op s (first_free (broken_by op s) (option_and_then (broken_by_all more) (applied op s)) e)

-- so is the next one behind those that are laid
module _ (s : TableState) (ops : List Op) (i : ℕ) (owns : List OwnRows) (whole : IsWhole s) (keyed : IsKeyed s) (small : AreSmall s) (laid : Laid s ops i owns) where
  pub now_over : overlaid owns s ≡ all_over (take i ops) s
  now_over = now_is s ops i owns whole keyed small laid ∙ sym (over_is_applied (take i ops) s laid.now laid.done)

  pub next_unbroken : (op : Op) → i < length ops → op ≡ get_or ops i op → broken_by_all ops s ≡ None → broken_by_all (op ∷ []) (overlaid owns s) ≡ None
  next_unbroken op lt is none =
      first_unbroken op (drop (i + 1) ops) (overlaid owns s)
      (ap (broken_by_all (op ∷ drop (i + 1) ops)) (now_is s ops i owns whole keyed small laid)
      ∙ ap (λ l. broken_by_all l laid.now) (sym (next_item ops i op lt is)) ∙ sym laid.rest ∙ none)

-- operations over a state, one more

over_append : (xs : List Op) (op : Op) (s : TableState) → all_over (xs ++ op ∷ []) s ≡ over op (all_over xs s)
over_append [] op s = refl
over_append (x ∷ xs) op s = over_append xs op (over x s)

pub over_more : (ops : List Op) (i : ℕ) (op : Op) (s : TableState) → i < length ops → op ≡ get_or ops i op → all_over (take (i + 1) ops) s ≡ over op (all_over (take i ops) s)
over_more ops i op s lt is =
    ap (λ l. all_over l s) (take_more ops i op lt ∙ ap (λ y. take i ops ++ y ∷ []) (sym is))
    ∙ over_append (take i ops) op s

-- what those before a place leave, and the keys of those behind it
abbrev state_at : ℕ → List Op → TableState → TableState
state_at i ops s = all_over (take i ops) s

abbrev left_at : ℕ → List Op → TableState → Tree → List Row
left_at i ops s tree = roots_of_ops (drop (i + 1) ops) (state_at (i + 1) ops s) tree

pub ops_step : (ops : List Op) (i : ℕ) (op : Op) (s before behind : TableState) (tree : Tree) (key : RowKey) (roots : List Row) → i < length ops → op ≡ get_or ops i op → before ≡ all_over (take i ops) s → behind ≡ all_over (take (i + 1) ops) s → key ≡ op_key before op
    → roots ++ roots_of_ops (drop i ops) (all_over (take i ops) s) tree ≡ roots_of_ops ops s tree
    → ((roots ++ roots_of_row before tree key) ++ roots_of_row behind tree key) ++ roots_of_ops (drop (i + 1) ops) (all_over (take (i + 1) ops) s) tree ≡ roots_of_ops ops s tree
ops_step ops i op s before behind tree key roots lt is old new key_is so_far =
    ap (λ k. ((roots ++ roots_of_row before tree k) ++ roots_of_row behind tree k) ++ left_at i ops s tree) key_is
    ∙ ap (λ z. ((roots ++ roots_of_row z tree (op_key z op)) ++ roots_of_row behind tree (op_key z op)) ++ left_at i ops s tree) old
    ∙ ap (λ z. ((roots ++ roots_of_row (state_at i ops s) tree (op_key (state_at i ops s) op)) ++ roots_of_row z tree (op_key (state_at i ops s) op)) ++ left_at i ops s tree) (new ∙ over_more ops i op s lt is)
    ∙ ap (λ l. l ++ left_at i ops s tree) (append_assoc roots (roots_of_row (state_at i ops s) tree (op_key (state_at i ops s) op)) (roots_of_row (over op (state_at i ops s)) tree (op_key (state_at i ops s) op)))
    ∙ append_assoc roots (roots_of_op (state_at i ops s) tree op) (left_at i ops s tree)
    ∙ ap (λ z. roots ++ (roots_of_op (state_at i ops s) tree op ++ roots_of_ops (drop (i + 1) ops) z tree)) (over_more ops i op s lt is)
    ∙ ap (λ l. roots ++ roots_of_ops l (state_at i ops s) tree) (sym (next_item ops i op lt is))
    ∙ so_far

pub ops_start : (ops : List Op) (s : TableState) (tree : Tree) (roots : List Row) → roots ≡ [] → roots ++ roots_of_ops (drop 0 ops) (all_over (take 0 ops) s) tree ≡ roots_of_ops ops s tree
ops_start ops s tree roots none = ap (λ l. l ++ roots_of_ops (drop 0 ops) (all_over (take 0 ops) s) tree) none ∙ by ops
  where
    by : (xs : List Op) → roots_of_ops (drop 0 xs) (all_over (take 0 xs) s) tree ≡ roots_of_ops xs s tree
    by [] = refl
    by (x ∷ xs) = refl

pub ops_end : (ops : List Op) (i : ℕ) (s z : TableState) (tree : Tree) (roots : List Row) → length ops ≤ i → roots ++ roots_of_ops (drop i ops) z tree ≡ roots_of_ops ops s tree → roots ≡ roots_of_ops ops s tree
ops_end ops i s z tree roots past so_far = sym (none_behind roots) ∙ ap (λ l. roots ++ roots_of_ops l z tree) (sym (drop_all i ops past)) ∙ so_far
  where
    none_behind : (xs : List Row) → xs ++ [] ≡ xs
    none_behind [] = refl
    none_behind (x ∷ xs) = ap (λ l. x ∷ l) (none_behind xs)
