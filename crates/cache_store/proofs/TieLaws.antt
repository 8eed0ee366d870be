-- Recency over slots is recency over their keys.
use Rattle.std.proofs.Common.{◌≡◌, ℕ, suc, Bool, true, false, not, cond, List, [], ◌∷◌, ◌++◌, Some, map, filter, nat_eq, slice_get, refl, sym, ap, ◌∙◌}
use Rattle.instances.specs.row_types.specs.declared.value.Value.{Value}
use Rattle.instances.specs.indexed_rows.specs.Rows.{is_same}
use Rattle.recency.specs.Rings.{keys_without}
use Rattle.cache_store.specs.Tying.{TiesKeys}

map_filter : {X Y : Type 0} (f : X → Y) (t : Y → Bool) (u : X → Bool) (xs : List X) → ((i : ℕ) (x : X) → slice_get xs i ≡ Some x → t (f x) ≡ u x) → map f (filter u xs) ≡ filter t (map f xs)
map_filter f t u [] h = refl
map_filter f t u (x ∷ xs) h = by (u x) refl (h 0 x refl) (map_filter f t u xs (λ i y e. h (suc i) y e))
  where
    by : (b : Bool) → u x ≡ b → t (f x) ≡ u x → map f (filter u xs) ≡ filter t (map f xs) → map f (cond (u x) (x ∷ filter u xs) (filter u xs)) ≡ cond (t (f x)) (f x ∷ filter t (map f xs)) (filter t (map f xs))
    by true e same rest = ap (λ b. map f (cond b (x ∷ filter u xs) (filter u xs))) e ∙ ap (λ l. f x ∷ l) rest ∙ sym (ap (λ b. cond b (f x ∷ filter t (map f xs)) (filter t (map f xs))) (same ∙ e))
    by false e same rest = ap (λ b. map f (cond b (x ∷ filter u xs) (filter u xs))) e ∙ rest ∙ sym (ap (λ b. cond b (f x ∷ filter t (map f xs)) (filter t (map f xs))) (same ∙ e))

map_append : {X Y : Type 0} (f : X → Y) (xs ys : List X) → map f (xs ++ ys) ≡ map f xs ++ map f ys
map_append f [] ys = refl
map_append f (x ∷ xs) ys = ap (λ l. f x ∷ l) (map_append f xs ys)

pub ties_keys : (key_in : ℕ → List Value) (slots : List ℕ) (slot : ℕ) → TiesKeys key_in slots slot
ties_keys key_in slots slot h =
    let others : map key_in (keys_without nat_eq slot slots) ≡ keys_without is_same (key_in slot) (map key_in slots) = map_filter key_in (λ k. not (is_same (key_in slot) k)) (λ s. not (nat_eq slot s)) slots (λ i x e. ap not (h i x e)) in
    let one : map key_in (filter (nat_eq slot) slots) ≡ filter (is_same (key_in slot)) (map key_in slots) = map_filter key_in (is_same (key_in slot)) (nat_eq slot) slots h in (
      map_append key_in (keys_without nat_eq slot slots) (filter (nat_eq slot) slots) ∙ (λ i. others i ++ one i),
      others,
    )
