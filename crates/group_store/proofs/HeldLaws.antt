-- What it says of the rows of an instance whether one of them is held.
use Rattle.std.proofs.Common.{◌≡◌, ℕ, suc, Bool, true, false, ◌&&◌, ◌||◌, List, [], ◌∷◌, length, slice_get, Some, is_some, refl, sym, ap, ◌∙◌}
use Rattle.std.specs.List.{list_any}
use Rattle.std.specs.FinMap as fm
use Rattle.slot_rows.specs.row_types.specs.declared.value.Value.{Value}
use Rattle.slot_rows.specs.tier_base.specs.declared.number.TableId.{TableId}
use Rattle.slot_rows.specs.indexed_rows.specs.Rows.{Table}
use Rattle.slot_rows.specs.indexed_rows.proofs.EntryLaws.{at_has, unmapped_at}
use Rattle.cache_store.specs.instances.specs.Views.{kept_at}
use Rattle.group_store.specs.Trees.{leads}
use Rattle.group_store.specs.Held.{has_row, held_at, is_instance_held}
use Rattle.group_store.specs.Stores.{Kept}
use Rattle.group_store.proofs.PassingLaws.{has_row_at}

abbrev Row : Type 0
Row = List Value

any_got : (p : Row → Bool) (xs : List Row) → list_any p xs ≡ true → (i : ℕ) × (x : Row) × (slice_get xs i ≡ Some x) × (p x ≡ true)
any_got p [] e = cc
any_got p (y ∷ xs) e = by (p y) refl e (any_got p xs)
  where
    by : (b : Bool) → p y ≡ b → (b || list_any p xs) ≡ true → (list_any p xs ≡ true → (i : ℕ) × (x : Row) × (slice_get xs i ≡ Some x) × (p x ≡ true)) → (i : ℕ) × (x : Row) × (slice_get (y ∷ xs) i ≡ Some x) × (p x ≡ true)
    by true t e ih = (0, y, refl, t)
    by false t e ih = let r = ih e in (suc r.0, r.1, r.2, r.3)

row_got : (test : ℕ → Row → Bool) (ts : List Table) → has_row test ts ≡ true → (p : ℕ) × (k : Row) × (fm.contains_key (kept_at ts p) k ≡ true) × (test p k ≡ true)
row_got test [] e = cc
row_got test (t ∷ ts) e = by (list_any (test 0) (fm.keys t)) refl e (row_got (λ p. test (suc p)) ts)
  where
    by : (b : Bool) → list_any (test 0) (fm.keys t) ≡ b → (b || has_row (λ p. test (suc p)) ts) ≡ true
        → (has_row (λ p. test (suc p)) ts ≡ true → (p : ℕ) × (k : Row) × (fm.contains_key (kept_at ts p) k ≡ true) × (test (suc p) k ≡ true))
        → (p : ℕ) × (k : Row) × (fm.contains_key (kept_at (t ∷ ts) p) k ≡ true) × (test p k ≡ true)
    by true a e ih =
        let r = any_got (test 0) (fm.keys t) a in
        let u = unmapped_at (λ (x : Row × Row). x.0) (fm.entries t) r.0 r.1 r.2 in
        (0, r.1, ap (fm.contains_key t) (sym u.2) ∙ ap is_some (at_has t r.0 u.0 u.1), r.3)
    by false a e ih = let r = ih e in (suc r.0, r.1, r.2, r.3)

both : (a b : Bool) → (a && b) ≡ true → (a ≡ true) × (b ≡ true)
both true true e = (refl, refl)
both true false e = cc
both false b e = cc

-- a row of an instance that is held
pub record IsHeldRow (held : TableId → Row → Bool) (s : Kept) (root : Row) : Type 0 where
  pub place : ℕ
  pub key : Row
  pub there : fm.contains_key (kept_at s.tables place) key ≡ true
  pub led : leads s.layers s.tables 0 root (length s.layers) place key ≡ true
  pub held_there : held_at held s.table s.layers place key ≡ true

module _ (held : TableId → Row → Bool) (s : Kept) (root : Row) where
  -- where an instance is held, there is one
  pub held_row : is_instance_held held s root ≡ true → IsHeldRow held s root
  held_row e =
      let r = row_got (λ place key. leads s.layers s.tables 0 root (length s.layers) place key && held_at held s.table s.layers place key) s.tables e in
      let b = both (leads s.layers s.tables 0 root (length s.layers) r.0 r.1) (held_at held s.table s.layers r.0 r.1) r.3 in
      record { place = r.0; key = r.1; there = r.2; led = b.0; held_there = b.1 }

  -- where none is, no row of it is held
  pub none_held : is_instance_held held s root ≡ false → (place : ℕ) (key : Row) → fm.contains_key (kept_at s.tables place) key ≡ true → leads s.layers s.tables 0 root (length s.layers) place key ≡ true
      → held_at held s.table s.layers place key ≡ false
  none_held no_one place key has led = by (held_at held s.table s.layers place key) refl
    where
      by : (b : Bool) → held_at held s.table s.layers place key ≡ b → held_at held s.table s.layers place key ≡ false
      by true e =
          let there = has_row_at (λ p k. leads s.layers s.tables 0 root (length s.layers) p k && held_at held s.table s.layers p k) s.tables place key has (ap (λ b. b && held_at held s.table s.layers place key) led ∙ e) in
          let z : true ≡ false = sym there ∙ no_one in cc
      by false e = e
