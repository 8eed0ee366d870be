-- What patches leave of the tier.
use Rattle.std.proofs.Common.{◌≡◌, ℕ, zero, suc, Some, List, [], ◌∷◌, length, slice_get, refl, sym, ap, subst, ◌∙◌, arith}
use Rattle.group_catalog.specs.Catalogs.{groups_in}
use Rattle.stored_tier.specs.declared.tier.Tier.{Tier as Stored}
use Rattle.stored_tier.specs.declared.refreshing.Made.{Made}
use Rattle.stored_tier.specs.Lists.{IsHidingFor}
use Rattle.stored_tier.specs.Stored.{IsSound}
use Rattle.stored_tier.proofs.ListLaws.{store_kept}
use Rattle.stored_tier.proofs.StoreRows.{form_at}
use Rattle.changed_sets.specs.Fresh.{AreFormed}
use Rattle.changed_sets.specs.Showing.{AllCame, AreReady}
use Rattle.changed_sets.specs.declared.turns.Patch.{Patch}
use Rattle.changed_sets.proofs.ShowSteps.{came_some, turned_has_form, turned_hides}

module _ (t : Stored) (patches : List (Rattle.std.specs.Prelude.Option Patch)) (sound : IsSound t) (ready : AreReady t patches) (made : List (Rattle.std.specs.Prelude.Option Made)) (came : AllCame patches t.stores.items made) where
  there_too : {A B : Type 0} (xs : List A) (ys : List B) (k : ℕ) (a : A) → length ys ≡ length xs → slice_get xs k ≡ Some a → (b : B) × (slice_get ys k ≡ Some b)
  there_too [] ys k a long at = cc
  there_too (x ∷ xs) [] k a long at = absurd (omega (arith, long))
  there_too (x ∷ xs) (y ∷ ys) zero a long at = (y, refl)
  there_too (x ∷ xs) (y ∷ ys) (suc k) a long at = there_too xs ys k a (omega (arith, long)) at

  pub formed : AreFormed t.schema (groups_in t.catalog) made
  formed = record {
    long = came.long ∙ ready.long;
    form = λ k g m at there.
        let (s, kept) = store_kept t k g sound at in
        let (p, is, turned, hid) = came_some patches t.stores.items made came k s m kept there in
        let f = turned_has_form p s m.store turned in
        let form = form_at t.schema (groups_in t.catalog) t.stores.items k g s sound.kept at kept in
        record { table = f.table ∙ form.table; key = f.key ∙ form.key; foreign = f.foreign ∙ form.foreign; layers = f.layers ∙ form.layers };
    whole = λ k m there.
        let (g, at) = there_too made (groups_in t.catalog) k (Some m) (sym (came.long ∙ ready.long)) there in
        let (s, kept) = store_kept t k g sound at in
        let (p, is, turned, hid) = came_some patches t.stores.items made came k s m kept there in
        let f = turned_has_form p s m.store turned in
        f.long ∙ sound.whole k s kept ∙ ap (λ ls. suc (length ls)) (sym f.layers);
    hiding = λ k g m at there.
        let (s, kept) = store_kept t k g sound at in
        let (p, is, turned, hid) = came_some patches t.stores.items made came k s m kept there in
        subst (IsHidingFor t.schema g m.store) (sym hid) (turned_hides t.schema g p s m.store (ready.hiding k g p s at is kept) turned);
  }
