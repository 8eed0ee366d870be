-- Stores that were exchanged for others, with their hidden rows.
use Rattle.std.proofs.Common.{◌≡◌, ℕ, zero, suc, Option, Some, None, List, [], ◌∷◌, length, slice_get, unwrap_or, refl, ap, subst}
use Rattle.std.specs.Option.{option_map}
use Rattle.table_defs.specs.declared.definition.TableDef.{TableDef}
use Rattle.group_store.specs.Keeping.{IsFor}
use Rattle.group_store.specs.Stores.{Kept}
use Rattle.slot_rows.specs.SlotKeys.{RowsHeld}
use Rattle.cache_tier.specs.Groups.{Group}
use Rattle.stored_tier.specs.declared.refreshing.Made.{Made}
use Rattle.stored_tier.specs.Lists.{AreHiding, IsHidingFor}
use Rattle.stored_tier.specs.Refreshing.{exchanged, made_hidden, made_stores}
use Rattle.stored_tier.specs.Stored.{AreKept, AreWhole}

pub kept_exchanged : (schema : List TableDef) (groups : List Group) (stores : List Kept) (made : List (Option Made)) → AreKept schema groups stores → ((k : ℕ) (g : Group) (m : Made) → slice_get groups k ≡ Some g → slice_get made k ≡ Some (Some m) → IsFor schema g.def.tree m.store) → AreKept schema groups (exchanged stores (made_stores made))
kept_exchanged schema [] [] made kept form = kept
kept_exchanged schema [] (s ∷ stores) made kept form = absurd kept
kept_exchanged schema (g ∷ groups) [] made kept form = absurd kept
kept_exchanged schema (g ∷ groups) (s ∷ stores) [] kept form = kept
kept_exchanged schema (g ∷ groups) (s ∷ stores) (None ∷ made) kept form = (kept.0, kept_exchanged schema groups stores made kept.1 (λ k h x at there. form (suc k) h x at there))
kept_exchanged schema (g ∷ groups) (s ∷ stores) (Some y ∷ made) kept form = (form 0 g y refl refl, kept_exchanged schema groups stores made kept.1 (λ k h x at there. form (suc k) h x at there))

pub hiding_exchanged : (schema : List TableDef) (groups : List Group) (stores : List Kept) (hidden : List RowsHeld) (made : List (Option Made)) → AreHiding schema groups stores hidden
    → ((k : ℕ) (g : Group) (m : Made) → slice_get groups k ≡ Some g → slice_get made k ≡ Some (Some m) → IsHidingFor schema g m.store m.hidden) → AreHiding schema groups (exchanged stores (made_stores made)) (exchanged hidden (made_hidden made))
hiding_exchanged schema [] stores [] made are new = tt
hiding_exchanged schema [] stores (x ∷ hidden) made are new = absurd are
hiding_exchanged schema (g ∷ groups) stores [] made are new = absurd are
hiding_exchanged schema (g ∷ groups) [] (x ∷ hidden) made are new = absurd are
hiding_exchanged schema (g ∷ groups) (s ∷ stores) (x ∷ hidden) [] are new = are
hiding_exchanged schema (g ∷ groups) (s ∷ stores) (x ∷ hidden) (None ∷ made) are new = (are.0, hiding_exchanged schema groups stores hidden made are.1 (λ k h m at there. new (suc k) h m at there))
hiding_exchanged schema (g ∷ groups) (s ∷ stores) (x ∷ hidden) (Some y ∷ made) are new = (new 0 g y refl refl, hiding_exchanged schema groups stores hidden made are.1 (λ k h m at there. new (suc k) h m at there))

pub whole_exchanged : (stores : List Kept) (made : List (Option Made)) → AreWhole stores → ((k : ℕ) (m : Made) → slice_get made k ≡ Some (Some m) → length m.store.tables ≡ suc (length m.store.layers)) → AreWhole (exchanged stores (made_stores made))
whole_exchanged [] made whole new k s at = cc
whole_exchanged (x ∷ stores) [] whole new k s at = whole k s at
whole_exchanged (x ∷ stores) (o ∷ made) whole new zero s at = by o at (λ y is. new 0 y (ap (λ (z : Option Made). Some z) is)) refl
  where
    by : (o' : Option Made) → Some (unwrap_or (option_map (λ (m : Made). m.store) o') x) ≡ Some s → ((y : Made) → o ≡ Some y → length y.store.tables ≡ suc (length y.store.layers)) → o ≡ o' → length s.tables ≡ suc (length s.layers)
    by None e new_o is = let same : x ≡ s = cc in whole 0 s (ap (λ z. Some z) same)
    by (Some y) e new_o is = let same : y.store ≡ s = cc in subst (λ (z : Kept). length z.tables ≡ suc (length z.layers)) same (new_o y is)
whole_exchanged (x ∷ stores) (o ∷ made) whole new (suc k) s at = whole_exchanged stores made (λ j y there. whole (suc j) y there) (λ j y there. new (suc j) y there) k s at
