-- The root keys of a store into which rows are put that it doesn't have yet.
use Rattle.std.proofs.Common.{◌≡◌, ◌<◌, ℕ, suc, Bool, true, false, cond, not, ◌&&◌, nat_eq, Option, Some, None, is_some, Less, List, [], ◌∷◌, ◌++◌, map, slice_get, append_assoc, arith, refl, sym, ap, subst, ◌∙◌}
use Rattle.std.proofs.lemmas.Bool.{eqb-true}
use Rattle.std.proofs.lemmas.List.{append-nil}
use Rattle.std.specs.FinMap as fm
use Rattle.std.specs.Option.{option_or}
use Rattle.std.specs.Ordering.{is_eq, ordering_reverse}
use Rattle.row_types.specs.declared.value.Value.{Value}
use Rattle.row_types.specs.Order.{key_order}
use Rattle.row_types.proofs.OrderLaws.{key_total}
use Rattle.indexed_rows.specs.Rows.{Table, key_of, put_in}
use Rattle.indexed_rows.proofs.EntryLaws.{rises}
use Rattle.table_state.specs.Tables.{TableState}
use Rattle.instances.specs.declared.tree.Child.{Child}
use Rattle.instances.specs.Views.{child_rows, kept_at, passes, with_children}
use Rattle.instances.proofs.Gathering.{entry_found}
use Rattle.cache_store.specs.Operating.{change_at}
use Rattle.cache_store.proofs.JoinLaws.{get_put_in}
use Rattle.slot_rows.specs.SlotKeys.{IsKeyedBy}
use Rattle.group_catalog.specs.declared.which.ResolvedWhich.{ResolvedWhich}
use Rattle.group_store.specs.Recent.{entered_last}
use Rattle.group_store.specs.Stores.{Kept, put_rows, put_store, put_tables}
use Rattle.stored_tier.specs.Choosing.{chosen, comes, matches_at}
use Rattle.stored_tier.proofs.GatherLaws.{get_chosen}

abbrev Row : Type 0
Row = List Value

-- rows that stand under their keys, which rise, and of which a store has none
pub record AreNew (s : Kept) (es : List (Row × Row)) : Type 0 where
  pub keyed : (i : ℕ) (e : Row × Row) → slice_get es i ≡ Some e → key_of s.key e.1 ≡ e.0
  pub absent : (i : ℕ) (e : Row × Row) → slice_get es i ≡ Some e → fm.contains_key (kept_at s.tables 0) e.0 ≡ false
  pub rise : (i j : ℕ) (a b : Row × Row) → i < j → slice_get es i ≡ Some a → slice_get es j ≡ Some b → key_order a.0 b.0 ≡ Less

absent_after : (ts : List Table) (k row q : Row) → fm.contains_key (kept_at ts 0) q ≡ false → key_order k q ≡ Less → fm.contains_key (kept_at (change_at 0 (λ t. put_in t k row) ts) 0) q ≡ false
absent_after [] k row q none less = none
absent_after (t ∷ ts) k row q none less =
    ap is_some (get_put_in t k row q ∙ ap (λ r. option_or (fm.get t q) (cond (is_eq r) (Some row) None)) (key_total.antisymm q k ∙ ap ordering_reverse less))
    ∙ by (fm.get t q) none
  where
    by : (o : Option Row) → is_some o ≡ false → is_some (option_or o None) ≡ false
    by None e = refl
    by (Some r) e = cc

later_new : (e : Row × Row) (es : List (Row × Row)) (s : Kept) → AreNew s (e ∷ es) → AreNew (put_store 0 e.1 s) es
later_new e es s new = record {
  keyed = λ i x at. new.keyed (suc i) x at;
  absent = λ i x at.
      subst (λ k. fm.contains_key (kept_at (change_at 0 (λ t. put_in t k e.1) s.tables) 0) x.0 ≡ false) (sym (new.keyed 0 e refl))
      (absent_after s.tables e.0 e.1 x.0 (new.absent (suc i) x at) (new.rise 0 (suc i) e x (omega arith) refl at));
  rise = λ i j a b lt at_i at_j. new.rise (suc i) (suc j) a b (omega (arith, lt)) at_i at_j;
}

-- root rows come behind the others
rows_keys : (es : List (Row × Row)) (s : Kept) → AreNew s es → (put_rows 0 (map (λ (e : Row × Row). e.1) es) s).keys ≡ s.keys ++ map (λ (e : Row × Row). e.0) es
rows_keys [] s new = sym (append-nil s.keys)
rows_keys (e ∷ es) s new =
    rows_keys es (put_store 0 e.1 s) (later_new e es s new)
    ∙ ap (λ l. l ++ map (λ (x : Row × Row). x.0) es)
    (ap (λ k. entered_last (kept_at s.tables 0) k s.keys) (new.keyed 0 e refl) ∙ ap (λ b. cond b s.keys (s.keys ++ e.0 ∷ [])) (new.absent 0 e refl))
    ∙ append_assoc s.keys (e.0 ∷ []) (map (λ (x : Row × Row). x.0) es)

not_first : (p : ℕ) → nat_eq (suc p) 0 ≡ false
not_first p = by (nat_eq (suc p) 0) refl
  where
    by : (b : Bool) → nat_eq (suc p) 0 ≡ b → b ≡ false
    by true e = absurd (omega (arith, eqb-true (suc p) 0 e))
    by false e = refl

-- rows of other tables leave the keys
others_keys : (p : ℕ) (rows : List Row) (s : Kept) → (put_rows (suc p) rows s).keys ≡ s.keys
others_keys p [] s = refl
others_keys p (row ∷ rows) s = others_keys p rows (put_store (suc p) row s) ∙ ap (λ b. cond b (entered_last (kept_at s.tables 0) (key_of s.key row) s.keys) s.keys) (not_first p)

tables_keys : (p : ℕ) (tables : List (List Row)) (s : Kept) → (put_tables (suc p) tables s).keys ≡ s.keys
tables_keys p [] s = refl
tables_keys p (rows ∷ tables) s = tables_keys (suc p) tables (put_rows (suc p) rows s) ∙ others_keys p rows s

first_kept : (s : TableState) (children : List Child) (t : Table) (kept : List Table) → (rest : List Table) × (with_children s children (t ∷ kept) ≡ t ∷ rest)
first_kept s [] t kept = (kept, refl)
first_kept s (c ∷ children) t kept = first_kept s children t (kept ++ child_rows s (kept_at (t ∷ kept) c.parent) c ∷ [])

pub put_keys : (s : TableState) (children : List Child) (t : Table) (store : Kept) → AreNew store (fm.entries t) → (put_tables 0 (map fm.values (with_children s children (t ∷ []))) store).keys ≡ store.keys ++ fm.keys t
put_keys s children t store new =
    let split = first_kept s children t [] in
    ap (λ ts. (put_tables 0 (map fm.values ts) store).keys) split.1
    ∙ tables_keys 0 (map fm.values split.0) (put_rows 0 (fm.values t) store)
    ∙ rows_keys (fm.entries t) store new

-- those that come are new to the store
pub are_new : (R : Table) (store : Kept) (which : ResolvedWhich) → IsKeyedBy store.key R → AreNew store (fm.entries (chosen (comes which store) R))
are_new R store which keyed = record {
  keyed = λ i e at. keyed e.0 e.1 (there e.0 e.1 (entry_found (chosen (comes which store) R) i e at)).0;
  absent = λ i e at. (there e.0 e.1 (entry_found (chosen (comes which store) R) i e at)).1;
  rise = λ i j a b lt at_i at_j. rises (chosen (comes which store) R) i j a b lt at_i at_j;
}
  where
    there : (k row : Row) → fm.get (chosen (comes which store) R) k ≡ Some row → (fm.get R k ≡ Some row) × (fm.contains_key (kept_at store.tables 0) k ≡ false)
    there k row e = by (fm.get R k) refl (sym (get_chosen (comes which store) R k) ∙ e)
      where
        of : (m c : Bool) (r : Row) → cond (m && not c) (Some r) None ≡ Some row → ◌≡◌ {A = Option Row} (Some r) (Some row) × (c ≡ false)
        of true true r e = cc
        of true false r e = (e, refl)
        of false c r e = cc

        by : (o : Option Row) → fm.get R k ≡ o → cond (passes (comes which store k) o) o None ≡ Some row → (fm.get R k ≡ Some row) × (fm.contains_key (kept_at store.tables 0) k ≡ false)
        by None is e = cc
        by (Some r) is e = let both = of (matches_at which k r) (fm.contains_key (kept_at store.tables 0) k) r e in (is ∙ both.0, both.1)
