-- What is used, as lists of keys.
use Rattle.std.proofs.Common.{◌≡◌, ℕ, zero, suc, slice_get, Bool, true, false, cond, ◌||◌, Option, Some, None, is_some, List, [], ◌∷◌, ◌++◌, map, filter, fold, refl, sym, ap, ◌∙◌}
use Rattle.std.specs.List.{flat_map, list_any}
use Rattle.std.specs.FinMap.{values}
use Rattle.std.specs.Option.{option_and_then, option_to_list}
use Rattle.row_types.specs.declared.value.Value.{Value}
use Rattle.tier_base.specs.declared.number.TableId.{TableId}
use Rattle.table_state.specs.declared.footprint.RowKey.{RowKey}
use Rattle.table_state.specs.declared.operation.Op.{Op}
use Rattle.table_state.specs.declared.operation.Op.TheVariants.{Delete, Insert, Update}
use Rattle.table_state.specs.Operations.{table_of}
use Rattle.table_state.specs.Tables.{TableState, table_at}
use Rattle.evaluator.specs.declared.plan.Plan.{Plan}
use Rattle.instances.specs.Roots.{root_at, root_of}
use Rattle.instances.specs.Trees.{place_of}
use Rattle.cache_tier.specs.Groups.{Group, covers, used}
use Rattle.evaluator.specs.Writes.{selects}
use Rattle.instances.specs.Views.{is_true}
use Rattle.cache_tier.specs.StandingBetween.{Each}
use Rattle.cache_tier.specs.Recency.{Chosen, beside, combinations, op_key, row_key, selected_rows, used_by_ops, used_root, used_row, used_rows}
use Rattle.cache_tier.specs.Shown.{over}
use Rattle.statement_uses.specs.Uses.{HaveUses, keeps_order, keys_at, roots_of_op, roots_of_ops, roots_of_query, roots_of_row, roots_of_rows, used_all}

abbrev Row : Type 0
Row = List Value

abbrev chosen_rows : Plan → TableState → List (List Chosen)
chosen_rows plan s = filter (λ c. is_true (selects plan.filter (beside c))) (combinations s plan.tables)

-- keys used by lists, one behind the other
pub used_append : (xs ys keys : List Row) → used_all (xs ++ ys) keys ≡ used_all ys (used_all xs keys)
used_append [] ys keys = refl
used_append (x ∷ xs) ys keys = used_append xs ys (used x keys)

-- the group with these keys used
abbrev pub with_used : List Row → Group → Group
with_used roots g = record g { keys = used_all roots g.keys }

root_is : (o : Option Row) (g : Group) → used_root o g ≡ with_used (option_to_list o) g
root_is None g = refl
root_is (Some root) g = refl

pub row_is : (s : TableState) (row : RowKey) (g : Group) → used_row s row g ≡ with_used (roots_of_row s g.def.tree row) g
row_is s row g = root_is (root_of s g.def.tree row.table row.key) g

-- a row of another table is of no instance of the tree
none_of : (s : TableState) (row : RowKey) (g : Group) → covers row.table g ≡ false → roots_of_row s g.def.tree row ≡ []
none_of s row g other = by (place_of g.def.tree row.table) other
  where
    by : (o : Option ℕ) → is_some o ≡ false → option_to_list (option_and_then (λ place. root_at s g.def.tree place row.key) o) ≡ []
    by None e = refl
    by (Some place) e = cc

all_used : (s : TableState) (rows : List RowKey) (g : Group) → fold (λ h row. used_row s row h) g rows ≡ with_used (roots_of_rows s g.def.tree rows) g
all_used s [] g = refl
all_used s (row ∷ rows) g =
    ap (λ h. fold (λ x r. used_row s r x) h rows) (row_is s row g)
    ∙ all_used s rows (with_used (roots_of_row s g.def.tree row) g)
    ∙ ap (λ keys. record g { keys = keys }) (sym (used_append (roots_of_row s g.def.tree row) (roots_of_rows s g.def.tree rows) g.keys))

covered : (s : TableState) (g : Group) (rows : List RowKey) → roots_of_rows s g.def.tree (filter (λ row. covers row.table g) rows) ≡ roots_of_rows s g.def.tree rows
covered s g [] = refl
covered s g (row ∷ rows) = by (covers row.table g) refl (covered s g rows)
  where
    by : (b : Bool) → covers row.table g ≡ b → roots_of_rows s g.def.tree (filter (λ r. covers r.table g) rows) ≡ roots_of_rows s g.def.tree rows
        → roots_of_rows s g.def.tree (cond b (row ∷ filter (λ r. covers r.table g) rows) (filter (λ r. covers r.table g) rows)) ≡ roots_of_row s g.def.tree row ++ roots_of_rows s g.def.tree rows
    by true e rest = ap (λ l. roots_of_row s g.def.tree row ++ l) rest
    by false e rest = rest ∙ sym (ap (λ l. l ++ roots_of_rows s g.def.tree rows) (none_of s row g e))

-- by a query
pub rows_are : (s : TableState) (rows : List RowKey) (g : Group) → used_rows s rows g ≡ with_used (roots_of_rows s g.def.tree rows) g
rows_are s rows g =
    all_used s (filter (λ row. covers row.table g) rows) g
    ∙ ap (λ roots. with_used roots g) (covered s g rows)

-- by operations
key_table : (s : TableState) (op : Op) → (op_key s op).table ≡ table_of op
key_table s (Insert t row) = refl
key_table s (Update t old row) = refl
key_table s (Delete t old) = refl

one_op : (s : TableState) (op : Op) (g : Group) → cond (covers (table_of op) g) (used_row (over op s) (op_key s op) (used_row s (op_key s op) g)) g ≡ with_used (roots_of_op s g.def.tree op) g
one_op s op g = by (covers (table_of op) g) refl
  where
    both : used_row (over op s) (op_key s op) (used_row s (op_key s op) g) ≡ with_used (roots_of_op s g.def.tree op) g
    both =
        ap (used_row (over op s) (op_key s op)) (row_is s (op_key s op) g)
        ∙ row_is (over op s) (op_key s op) (with_used (roots_of_row s g.def.tree (op_key s op)) g)
        ∙ ap (λ keys. record g { keys = keys }) (sym (used_append (roots_of_row s g.def.tree (op_key s op)) (roots_of_row (over op s) g.def.tree (op_key s op)) g.keys))

    none : (n : TableState) → covers (table_of op) g ≡ false → roots_of_row n g.def.tree (op_key s op) ≡ []
    none n e = none_of n (op_key s op) g (ap (λ t. covers t g) (key_table s op) ∙ e)

    by : (b : Bool) → covers (table_of op) g ≡ b → cond b (used_row (over op s) (op_key s op) (used_row s (op_key s op) g)) g ≡ with_used (roots_of_op s g.def.tree op) g
    by true e = both
    by false e = sym (ap (λ l. with_used (l ++ roots_of_row (over op s) g.def.tree (op_key s op)) g) (none s e) ∙ ap (λ l. with_used l g) (none (over op s) e))

pub ops_are : (ops : List Op) (s : TableState) (g : Group) → used_by_ops over ops s g ≡ with_used (roots_of_ops ops s g.def.tree) g
ops_are [] s g = refl
ops_are (op ∷ ops) s g =
    ap (used_by_ops over ops (over op s)) (one_op s op g)
    ∙ ops_are ops (over op s) (with_used (roots_of_op s g.def.tree op) g)
    ∙ ap (λ keys. record g { keys = keys }) (sym (used_append (roots_of_op s g.def.tree op) (roots_of_ops ops (over op s) g.def.tree) g.keys))

-- a query over other tables uses nothing of a group

their_rows : (s : TableState) (g : Group) (chosen : List Chosen) → Each (λ (c : Chosen). covers c.table g ≡ false) chosen → roots_of_rows s g.def.tree (map (row_key s) chosen) ≡ []
their_rows s g [] all = refl
their_rows s g (c ∷ chosen) all =
    ap (λ l. l ++ roots_of_rows s g.def.tree (map (row_key s) chosen)) (none_of s (row_key s c) g all.0)
    ∙ their_rows s g chosen all.1

joined : {A : Type 0} (P : A → Type 0) (xs ys : List A) → Each P xs → Each P ys → Each P (xs ++ ys)
joined P [] ys here rest = rest
joined P (x ∷ xs) ys here rest = (here.0, joined P xs ys here.1 rest)

flattened : {A : Type 0} (P : A → Type 0) (xs : List (List A)) → Each (Each P) xs → Each P (flat_map (λ x. x) xs)
flattened P [] all = tt
flattened P (x ∷ xs) all = joined P x (flat_map (λ y. y) xs) all.0 (flattened P xs all.1)

filtered : {A : Type 0} (P : A → Type 0) (p : A → Bool) (xs : List A) → Each P xs → Each P (filter p xs)
filtered P p [] all = tt
filtered P p (x ∷ xs) all = by (p x) (filtered P p xs all.1)
  where
    by : (b : Bool) → Each P (filter p xs) → Each P (cond b (x ∷ filter p xs) (filter p xs))
    by true rest = (all.0, rest)
    by false rest = rest

module _ (g : Group) where
  abbrev IsOther : Chosen → Type 0
  IsOther c = covers c.table g ≡ false

  one_more : (t : TableId) (row : Row) → covers t g ≡ false → (chosen : List (List Chosen)) → Each (Each IsOther) chosen → Each (Each IsOther) (map (λ others. record { table = t; row = row } ∷ others) chosen)
  one_more t row other [] all = tt
  one_more t row other (c ∷ chosen) all = ((other, all.0), one_more t row other chosen all.1)

  more_rows : (t : TableId) → covers t g ≡ false → (chosen : List (List Chosen)) → Each (Each IsOther) chosen → (rows : List Row) → Each (Each IsOther) (flat_map (λ row. map (λ others. record { table = t; row = row } ∷ others) chosen) rows)
  more_rows t other chosen all [] = tt
  more_rows t other chosen all (row ∷ rows) =
      joined (Each IsOther) (map (λ others. record { table = t; row = row } ∷ others) chosen) (flat_map (λ r. map (λ others. record { table = t; row = r } ∷ others) chosen) rows)
      (one_more t row other chosen all) (more_rows t other chosen all rows)

  both_false : (a b : Bool) → (a || b) ≡ false → (a ≡ false) × (b ≡ false)
  both_false true b e = cc
  both_false false b e = (refl, e)

  all_other : (s : TableState) (tables : List TableId) → list_any (λ t. covers t g) tables ≡ false → Each (Each IsOther) (combinations s tables)
  all_other s [] none = (tt, tt)
  all_other s (t ∷ tables) none =
      let parts = both_false (covers t g) (list_any (λ u. covers u g) tables) none in
      more_rows t parts.0 (combinations s tables) (all_other s tables parts.1) (values (table_at s t))

pub other_query : (s : TableState) (plan : Plan) (g : Group) → list_any (λ t. covers t g) plan.tables ≡ false → roots_of_query s plan g ≡ []
other_query s plan g none =
    their_rows s g (selected_rows plan s)
    (flattened (λ (c : Chosen). covers c.table g ≡ false) (chosen_rows plan s)
    (filtered (Each (λ (c : Chosen). covers c.table g ≡ false)) (λ c. is_true (selects plan.filter (beside c))) (combinations s plan.tables) (all_other g s plan.tables none)))

-- so nothing is used where no group of those in which the order of last use counts has a table of the query
pub none_used : (s : TableState) (plan : Plan) (groups : List Group) → ((place : ℕ) (g : Group) → slice_get groups place ≡ Some g → keeps_order g ≡ true → list_any (λ t. covers t g) plan.tables ≡ false) → HaveUses groups (roots_of_query s plan) []
none_used s plan groups none place g at keeps = no_keys place ∙ sym (other_query s plan g (none place g at keeps))
  where
    no_keys : (n : ℕ) → keys_at [] n ≡ []
    no_keys zero = refl
    no_keys (suc n) = refl
