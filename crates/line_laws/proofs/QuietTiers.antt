-- Tiers that change in what no entry tells.
use Rattle.std.proofs.Common.{◌≡◌, ℕ, suc, Bool, true, false, cond, Option, Some, None, List, [], ◌∷◌, map, refl, sym, ap, subst, ◌∙◌, arith}
use Rattle.std.specs.Prelude.{fold}
use Rattle.std.specs.List.{filter}
use Rattle.row_types.specs.declared.value.Value.{Value}
use Rattle.table_state.specs.declared.history.Entry.{Entry}
use Rattle.table_state.specs.declared.footprint.RowKey.{RowKey}
use Rattle.table_state.specs.declared.operation.Op.{Op}
use Rattle.table_state.specs.Operations.{table_of}
use Rattle.table_state.specs.Tables.{TableState}
use Rattle.sql_subset.specs.declared.stmt.RefreshState.{RefreshState}
use Rattle.sql_subset.specs.declared.stmt.RefreshState.TheVariants.{On, Off, Paused}
use Rattle.cache_tier.specs.Aging.{aged, aged_rule, after_aging, expired, is_aging_due, with_horizon}
use Rattle.cache_tier.specs.declared.group.AgingRule.{AgingRule}
use Rattle.cache_tier.specs.declared.group.AgingRule.TheVariants.{ByTime, LastUse}
use Rattle.cache_tier.specs.Groups.{Group, covers, is_read_only, without_keys}
use Rattle.cache_tier.specs.Recency.{after_use, after_writes, op_key, used_by_ops, used_root, used_row, used_rows}
use Rattle.cache_tier.specs.Shown.{instance_key}
use Rattle.cache_tier.specs.Sets.{Choice, at_position, changed_from, refreshed, set_tried}
use Rattle.cache_tier.specs.TierStates.{Tier, refresh_tried}
use Rattle.recovery.specs.Journalled.{AreAlike, IsAlike, IsQuiet}
use Rattle.recovery.proofs.JournalledLaws.{alike_kind, alike_self, alike_trans}

pub alike_one : (g : Group) → IsAlike g g
alike_one g = record { def = refl; state = λ r. refl; loaded = refl }

pub alike_then : (g h k : Group) → IsAlike g h → IsAlike h k → IsAlike g k
alike_then g h k a b = record { def = b.def ∙ a.def; state = λ r. b.state (alike_kind g h a ∙ r) ∙ a.state r; loaded = b.loaded ∙ a.loaded }

pub alike_where : (b : Bool) (g h : Group) → IsAlike g h → IsAlike g (cond b h g)
alike_where true g h a = a
alike_where false g h a = alike_one g

pub alike_map : (change : Group → Group) → ((g : Group) → IsAlike g (change g)) → (gs : List Group) → AreAlike gs (map change gs)
alike_map change so [] = tt
alike_map change so (g ∷ gs) = (so g, alike_map change so gs)

pub alike_changed : (chosen : Choice) (change : Group → Group) → ((g : Group) → IsAlike g (change g)) → (place : ℕ) (gs : List Group) → AreAlike gs (changed_from chosen change place gs)
alike_changed chosen change so place [] = tt
alike_changed chosen change so place (g ∷ gs) = (alike_where (chosen place g) g (change g) (so g), alike_changed chosen change so (suc place) gs)

pub quiet_groups : (t : Tier) (groups : List Group) → AreAlike t.groups groups → IsQuiet t (record t { groups = groups })
quiet_groups t groups are = record { log = refl; next = omega arith; groups = are }

pub quiet_then : (a b c : Tier) → IsQuiet a b → IsQuiet b c → IsQuiet a c
quiet_then a b c p q = record { log = q.log ∙ p.log; next = (let x = p.next in let y = q.next in omega (arith, x, y)); groups = alike_trans a.groups b.groups c.groups p.groups q.groups }

-- ---- refreshes

position_alike : (n : ℕ) (s : TableState) (g : Group) → IsAlike g (at_position n s g)
position_alike n s g = record { def = refl; state = λ r. refl; loaded = refl }

pub refreshed_quiet : (chosen : Choice) (n : ℕ) (s : TableState) (t : Tier) → IsQuiet t (refreshed chosen n s t)
refreshed_quiet chosen n s t = quiet_groups t (changed_from chosen (at_position n s) 0 t.groups) (alike_changed chosen (at_position n s) (position_alike n s) 0 t.groups)

pub tried_quiet : (interval : ℕ) (t : Tier) → IsQuiet t (refresh_tried interval t)
tried_quiet interval t = record { log = refl; next = omega arith; groups = alike_self t.groups }

pub set_tried_quiet : (g : Group) (t : Tier) → IsQuiet t (set_tried g t)
set_tried_quiet g t = by g.state refl
  where
    by : (s : RefreshState) → g.state ≡ s → IsQuiet t (set_tried g t)
    by On e = subst (λ s. IsQuiet t (set_tried (record g { state = s }) t)) (sym e) (tried_quiet g.def.interval t)
    by Paused e = subst (λ s. IsQuiet t (set_tried (record g { state = s }) t)) (sym e) (tried_quiet g.def.interval t)
    by Off e = subst (λ s. IsQuiet t (set_tried (record g { state = s }) t)) (sym e) (record { log = refl; next = omega arith; groups = alike_self t.groups })

pub set_tried_groups : (g : Group) (t : Tier) → (set_tried g t).groups ≡ t.groups
set_tried_groups g t = by g.state refl
  where
    by : (s : RefreshState) → g.state ≡ s → (set_tried g t).groups ≡ t.groups
    by On e = ap (λ s. (set_tried (record g { state = s }) t).groups) e
    by Paused e = ap (λ s. (set_tried (record g { state = s }) t).groups) e
    by Off e = ap (λ s. (set_tried (record g { state = s }) t).groups) e

-- ---- keys that are used

root_alike : (o : Option (List Value)) (g : Group) → IsAlike g (used_root o g)
root_alike None g = alike_one g
root_alike (Some key) g = record { def = refl; state = λ r. refl; loaded = refl }

row_alike : (s : TableState) (key : RowKey) (g : Group) → IsAlike g (used_row s key g)
row_alike s key g = root_alike (instance_key s g key.table key.key) g

rows_alike : (s : TableState) (rows : List RowKey) (g h : Group) → IsAlike g h → IsAlike g (fold (λ k row. used_row s row k) h rows)
rows_alike s [] g h a = a
rows_alike s (row ∷ rows) g h a = rows_alike s rows g (used_row s row h) (alike_then g h (used_row s row h) a (row_alike s row h))

pub use_quiet : (s : TableState) (rows : List RowKey) (t : Tier) → IsQuiet t (after_use s rows t)
use_quiet s rows t = quiet_groups t (map (used_rows s rows) t.groups) (alike_map (used_rows s rows) (λ g. rows_alike s (filter (λ row. covers row.table g) rows) g g (alike_one g)) t.groups)

ops_alike : (step : Op → TableState → TableState) (ops : List Op) (s : TableState) (g h : Group) → IsAlike g h → IsAlike g (used_by_ops step ops s h)
ops_alike step [] s g h a = a
ops_alike step (op ∷ ops) s g h a =
    let one = used_row s (op_key s op) h in
    let both = used_row (step op s) (op_key s op) one in
    let so : IsAlike h both = alike_then h one both (row_alike s (op_key s op) h) (row_alike (step op s) (op_key s op) one) in
    ops_alike step ops (step op s) g (cond (covers (table_of op) h) both h) (alike_then g h (cond (covers (table_of op) h) both h) a (alike_where (covers (table_of op) h) h both so))

pub writes_quiet : (step : Op → TableState → TableState) (ops : List Op) (s : TableState) (t : Tier) → IsQuiet t (after_writes step ops s t)
writes_quiet step ops s t = quiet_groups t (map (used_by_ops step ops s) t.groups) (alike_map (used_by_ops step ops s) (λ g. ops_alike step ops s g g (alike_one g)) t.groups)

-- ---- aging

rule_alike : (h : List Entry) (t : Tier) (o : Option AgingRule) (g : Group) → IsAlike g (aged_rule h t o g)
rule_alike h t None g = alike_one g
rule_alike h t (Some LastUse) g = record { def = refl; state = λ r. refl; loaded = refl }
rule_alike h t (Some (ByTime rule)) g = by (is_read_only g)
  where
    moved : Group
    moved = with_horizon t.now rule g

    by : (b : Bool) → IsAlike g (cond b (with_horizon t.now rule g) (record (with_horizon t.now rule g) { keys = without_keys (expired h t (with_horizon t.now rule g)) g.keys }))
    by true = record { def = refl; state = λ r. refl; loaded = refl }
    by false = record { def = refl; state = λ r. refl; loaded = refl }

pub aging_quiet : (h : List Entry) (t : Tier) → IsQuiet t (after_aging h t)
aging_quiet h t =
    quiet_groups t (map (λ g. cond (is_aging_due t g) (aged h t g) g) t.groups)
    (alike_map (λ g. cond (is_aging_due t g) (aged h t g) g) (λ g. alike_where (is_aging_due t g) g (aged h t g)
    (let r = rule_alike h t g.def.aging g in record { def = r.def; state = r.state; loaded = r.loaded })) t.groups)
