-- What a commit makes of the keys of a store, and of those of its group.
use Rattle.std.proofs.Common.{◌≡◌, Bool, true, false, cond, Option, Some, None, is_some, List, [], ◌∷◌, ◌++◌, fold, refl, sym, ap, ◌∙◌}
use Rattle.std.specs.List.{flat_map}
use Rattle.std.specs.FinMap as fm
use Rattle.row_types.specs.declared.value.Value.{Value}
use Rattle.row_types.proofs.OrderLaws.{key_exact, key_total}
use Rattle.indexed_rows.specs.Rows.{Table, is_same, key_of}
use Rattle.indexed_rows.proofs.EntryLaws.{get_gone, insert_over}
use Rattle.table_state.specs.declared.operation.Op.{Op}
use Rattle.table_state.specs.declared.operation.Op.TheVariants.{Delete, Insert, Update}
use Rattle.table_state.specs.Tables.{TableState}
use Rattle.instances.specs.Trees.{same_table}
use Rattle.group_store.specs.Entering.{Keys, entered_by, keys_of_rows, left_by}
use Rattle.group_store.specs.Stores.{Kept, ops_done}
use Rattle.group_store.proofs.CommitLaws.{committed_keys, touched_all}
use Rattle.group_store.proofs.RootLaws.{no_keys, one_key_less, one_key_more, same_keys}
use Rattle.cache_tier.specs.Groups.{Group}
use Rattle.cache_tier.specs.Recency as abstract
use Rattle.cache_tier.specs.Shown.{root_key}
use Rattle.statement_uses.specs.Touching.{entered_keys}

abbrev Row : Type 0
Row = List Value

-- the same rows, as keys alone

twice : (b : Bool) (o : Option (Unit {0})) → cond b (Some tt) (cond b None o) ≡ cond b (Some tt) o
twice true o = refl
twice false o = refl

again : (ks : Keys) (key : Row) → ◌≡◌ {A = Keys} (fm.insert (fm.remove ks key) key tt) (fm.insert ks key tt)
again ks key = fm.same_map key_total key_exact (fm.insert (fm.remove ks key) key tt) (fm.insert ks key tt) at
  where
    at : (q : Row) → ◌≡◌ {A = Option (Unit {0})} (fm.get (fm.insert (fm.remove ks key) key tt) q) (fm.get (fm.insert ks key tt) q)
    at q =
        fm.get-insert key_total (fm.remove ks key) key tt q
        ∙ ap (cond (is_same q key) (Some tt)) (fm.get-remove key_total ks key q) ∙ twice (is_same q key) (fm.get ks q)
        ∙ sym (fm.get-insert key_total ks key tt q)

rows_more : (m : Table) (key row : Row) → ◌≡◌ {A = Keys} (keys_of_rows (fm.insert m key row)) (fm.insert (keys_of_rows m) key tt)
rows_more m key row =
    ap keys_of_rows (sym (insert_over m key row))
    ∙ one_key_more (fm.remove m key) (fm.insert (fm.remove m key) key row) key row (sym (ap (λ b. cond b (fm.remove m key) (fm.insert (fm.remove m key) key row)) (ap is_some (get_gone m key))))
    ∙ ap (λ ks. fm.insert ks key tt) (one_key_less m (fm.remove m key) key refl)
    ∙ again (keys_of_rows m) key

module _ (state : TableState) (g : Group) (s : Kept) (table : s.table ≡ g.def.tree.root.table) (keyed : (row : Row) → root_key state g row ≡ key_of s.key row) where
  step_same : (op : Op) (m : Table) → ◌≡◌ {A = Keys} (keys_of_rows (abstract.entered_by state g op m)) (entered_by s op (keys_of_rows m))
  step_same (Insert t row) m =
      by (same_table g.def.tree.root.table t)
      ∙ ap (λ key. cond (same_table g.def.tree.root.table t) (fm.insert (keys_of_rows m) key tt) (keys_of_rows m)) (keyed row)
      ∙ ap (λ u. cond (same_table u t) (fm.insert (keys_of_rows m) (key_of s.key row) tt) (keys_of_rows m)) (sym table)
    where
      by : (b : Bool) → ◌≡◌ {A = Keys} (keys_of_rows (cond b (fm.insert m (root_key state g row) row) m)) (cond b (fm.insert (keys_of_rows m) (root_key state g row) tt) (keys_of_rows m))
      by true = rows_more m (root_key state g row) row
      by false = refl
  step_same (Update t old row) m = refl
  step_same (Delete t old) m =
      by (same_table g.def.tree.root.table t)
      ∙ ap (λ key. cond (same_table g.def.tree.root.table t) (fm.remove (keys_of_rows m) key) (keys_of_rows m)) (keyed old)
      ∙ ap (λ u. cond (same_table u t) (fm.remove (keys_of_rows m) (key_of s.key old)) (keys_of_rows m)) (sym table)
    where
      by : (b : Bool) → ◌≡◌ {A = Keys} (keys_of_rows (cond b (fm.remove m (root_key state g old)) m)) (cond b (fm.remove (keys_of_rows m) (root_key state g old)) (keys_of_rows m))
      by true = one_key_less m (fm.remove m (root_key state g old)) (root_key state g old) refl
      by false = refl

  all_same : (ops : List Op) (m : Table) → ◌≡◌ {A = Keys} (keys_of_rows (fold (λ rows op. abstract.entered_by state g op rows) m ops)) (fold (λ roots op. entered_by s op roots) (keys_of_rows m) ops)
  all_same [] m = refl
  all_same (op ∷ ops) m =
      all_same ops (abstract.entered_by state g op m)
      ∙ ap (λ ks. fold (λ roots o. entered_by s o roots) ks ops) (step_same op m)

  pub entered_same : (ops : List Op) → fm.keys (abstract.entered state g ops) ≡ entered_keys s ops
  entered_same ops =
      same_keys (abstract.entered state g ops) ∙ ap fm.keys (all_same ops fm.empty)
      ∙ ap (λ ks. fm.keys (fold (λ roots op. entered_by s op roots) ks ops)) (no_keys fm.empty refl)

  one_left : (op : Op) → abstract.left_by state g op ≡ left_by s op
  one_left (Insert t row) = refl
  one_left (Update t old row) = refl
  one_left (Delete t old) =
      ap (λ key. cond (same_table g.def.tree.root.table t) (key ∷ []) []) (keyed old)
      ∙ ap (λ u. cond (same_table u t) (key_of s.key old ∷ []) []) (sym table)

  pub left_same : (ops : List Op) → flat_map (abstract.left_by state g) ops ≡ flat_map (left_by s) ops
  left_same [] = refl
  left_same (op ∷ ops) =
      ap (λ l. l ++ flat_map (abstract.left_by state g) ops) (one_left op) ∙ ap (λ l. left_by s op ++ l) (left_same ops)

  -- a commit makes the same of both lists
  pub committed_same : (ops : List Op) (keys : List Row) → keys ≡ s.keys
      → abstract.with_entered (fm.keys (abstract.entered state g ops)) (flat_map (abstract.left_by state g) ops) keys ≡ touched_all (entered_keys s ops) (ops_done ops s).keys
  committed_same ops keys same =
      ap (λ l. abstract.with_entered l (flat_map (abstract.left_by state g) ops) keys) (entered_same ops)
      ∙ ap (λ l. abstract.with_entered (entered_keys s ops) l keys) (left_same ops)
      ∙ ap (abstract.with_entered (entered_keys s ops) (flat_map (left_by s) ops)) same
      ∙ sym (committed_keys s ops)
