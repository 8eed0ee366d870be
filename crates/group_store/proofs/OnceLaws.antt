-- Slots that stand once in a list.
use Rattle.std.proofs.Common.{◌≡◌, ℕ, Bool, true, false, not, cond, ◌&&◌, ◌||◌, List, [], ◌∷◌, ◌++◌, filter, nat_eq, Some, is_some, refl, sym, ap, ◌∙◌, eq-eqb, eqb-true}
use Rattle.std.specs.FinMap as fm
use Rattle.slot_rows.specs.row_types.specs.declared.value.Value.{Value}
use Rattle.slot_rows.specs.indexed_rows.specs.Rows.{is_same}
use Rattle.cache_store.specs.recency.specs.Rings.{keys_without, touched}
use Rattle.slot_rows.specs.SlotKeys.{SlotKeys}
use Rattle.cache_store.proofs.TieLaws.{ties_keys}
use Rattle.group_store.specs.Recent.{AreOnce, AreRecent, key_in, keys_of}
use Rattle.group_store.proofs.RecentLaws.{any, any_append, any_without, in_slot, map_append, own_key}

filter_append : (p : ℕ → Bool) (xs ys : List ℕ) → filter p (xs ++ ys) ≡ filter p xs ++ filter p ys
filter_append p [] ys = refl
filter_append p (x ∷ xs) ys = by (p x) (filter_append p xs ys)
  where
    by : (b : Bool) → filter p (xs ++ ys) ≡ filter p xs ++ filter p ys → cond b (x ∷ filter p (xs ++ ys)) (filter p (xs ++ ys)) ≡ cond b (x ∷ filter p xs) (filter p xs) ++ filter p ys
    by true e = ap (λ l. x ∷ l) e
    by false e = e

none_left : (xs : List ℕ) → xs ++ [] ≡ xs
none_left [] = refl
none_left (x ∷ xs) = ap (λ l. x ∷ l) (none_left xs)

-- one more that wasn't there
pub once_more : (recent : List ℕ) (slot : ℕ) → AreOnce recent → any slot recent ≡ false → AreOnce (recent ++ slot ∷ [])
once_more recent slot once new s =
    filter_append (nat_eq s) recent (slot ∷ []) ∙ by (nat_eq s slot) refl ∙ ap (λ b. cond b (s ∷ []) []) (sym (any_append (nat_eq s) recent (slot ∷ [])))
  where
    or_none : (a : Bool) → (a || (false || false)) ≡ a
    or_none true = refl
    or_none false = refl

    by : (b : Bool) → nat_eq s slot ≡ b → filter (nat_eq s) recent ++ cond b (slot ∷ []) [] ≡ cond (any s recent || (b || false)) (s ∷ []) []
    by true e =
        let same : s ≡ slot = eqb-true s slot e in
        let absent : any s recent ≡ false = ap (λ x. any x recent) same ∙ new in
        ap (λ l. l ++ slot ∷ []) (once s ∙ ap (λ b. cond b (s ∷ []) []) absent) ∙ ap (λ x. x ∷ []) (sym same) ∙ ap (λ b. cond (b || true) (s ∷ []) []) (sym absent)
    by false e = none_left (filter (nat_eq s) recent) ∙ once s ∙ ap (λ b. cond b (s ∷ []) []) (sym (or_none (any s recent)))

gone : (s slot : ℕ) (xs : List ℕ) → s ≡ slot → filter (nat_eq s) (keys_without nat_eq slot xs) ≡ []
gone s slot [] e = refl
gone s slot (x ∷ xs) e = pick (nat_eq slot x) refl (gone s slot xs e)
  where
    pick : (b : Bool) → nat_eq slot x ≡ b → filter (nat_eq s) (keys_without nat_eq slot xs) ≡ [] → filter (nat_eq s) (cond (not b) (x ∷ keys_without nat_eq slot xs) (keys_without nat_eq slot xs)) ≡ []
    pick true f rest = rest
    pick false f rest = ap (λ b. cond b (x ∷ filter (nat_eq s) (keys_without nat_eq slot xs)) (filter (nat_eq s) (keys_without nat_eq slot xs))) (ap (λ y. nat_eq y x) e ∙ f) ∙ rest

stays : (s slot : ℕ) (xs : List ℕ) → nat_eq s slot ≡ false → filter (nat_eq s) (keys_without nat_eq slot xs) ≡ filter (nat_eq s) xs
stays s slot [] e = refl
stays s slot (x ∷ xs) e = pick (nat_eq slot x) refl (stays s slot xs e)
  where
    pick : (b : Bool) → nat_eq slot x ≡ b → filter (nat_eq s) (keys_without nat_eq slot xs) ≡ filter (nat_eq s) xs → filter (nat_eq s) (cond (not b) (x ∷ keys_without nat_eq slot xs) (keys_without nat_eq slot xs)) ≡ cond (nat_eq s x) (x ∷ filter (nat_eq s) xs) (filter (nat_eq s) xs)
    pick true f rest = rest ∙ sym (ap (λ b. cond b (x ∷ filter (nat_eq s) xs) (filter (nat_eq s) xs)) (ap (nat_eq s) (sym (eqb-true slot x f)) ∙ e))
    pick false f rest = ap (λ l. cond (nat_eq s x) (x ∷ l) l) rest

-- one less
pub once_less : (recent : List ℕ) (slot : ℕ) → AreOnce recent → AreOnce (keys_without nat_eq slot recent)
once_less recent slot once s = by (nat_eq s slot) refl
  where
    by : (b : Bool) → nat_eq s slot ≡ b → filter (nat_eq s) (keys_without nat_eq slot recent) ≡ cond (any s (keys_without nat_eq slot recent)) (s ∷ []) []
    by true e = gone s slot recent (eqb-true s slot e) ∙ ap (λ b. cond b (s ∷ []) []) (sym (any_without s slot recent ∙ ap (λ b. any s recent && not b) e ∙ no (any s recent)))
      where
        no : (a : Bool) → (a && false) ≡ false
        no true = refl
        no false = refl
    by false e = stays s slot recent e ∙ once s ∙ ap (λ b. cond b (s ∷ []) []) (sym (any_without s slot recent ∙ ap (λ b. any s recent && not b) e ∙ yes (any s recent)))
      where
        yes : (a : Bool) → (a && true) ≡ a
        yes true = refl
        yes false = refl

gone_from : (recent : List ℕ) (slot : ℕ) → any slot (keys_without nat_eq slot recent) ≡ false
gone_from recent slot = any_without slot slot recent ∙ ap (λ b. any slot recent && not b) (eq-eqb slot slot refl) ∙ no (any slot recent)
  where
    no : (a : Bool) → (a && false) ≡ false
    no true = refl
    no false = refl

pub once_touched : (recent : List ℕ) (slot : ℕ) → AreOnce recent → AreOnce (touched nat_eq slot recent)
once_touched recent slot once s = ap (λ l. filter (nat_eq s) (keys_without nat_eq slot recent ++ l)) (once slot) ∙ by (any slot recent) ∙ sym (ap (λ l. cond (any s (keys_without nat_eq slot recent ++ l)) (s ∷ []) []) (once slot))
  where
    by : (b : Bool) → filter (nat_eq s) (keys_without nat_eq slot recent ++ cond b (slot ∷ []) []) ≡ cond (any s (keys_without nat_eq slot recent ++ cond b (slot ∷ []) [])) (s ∷ []) []
    by true = once_more (keys_without nat_eq slot recent) slot (once_less recent slot once) (gone_from recent slot) s
    by false = ap (filter (nat_eq s)) (none_left (keys_without nat_eq slot recent)) ∙ once_less recent slot once s ∙ sym (ap (λ l. cond (any s l) (s ∷ []) []) (none_left (keys_without nat_eq slot recent)))

-- the key of a slot that is used is the last
pub newest_key : (slots : SlotKeys) (recent : List ℕ) → AreRecent slots recent → AreOnce recent → (key : List Value) (slot : ℕ) → fm.get slots slot ≡ Some key
    → ((other : ℕ) → fm.get slots other ≡ Some key → Some slot ≡ Some other) → keys_of slots (touched nat_eq slot recent) ≡ keys_without is_same key (keys_of slots recent) ++ key ∷ []
newest_key slots recent are once key slot e only =
    let there : any slot recent ≡ true = are slot ∙ ap is_some e in
    let others = (ties_keys (key_in slots) recent slot (own_key slots recent are key slot e only)).1 ∙ ap (λ k. keys_without is_same k (keys_of slots recent)) (in_slot slots slot key e) in
    let own = in_slot slots slot key e in
    ap (λ l. keys_of slots (keys_without nat_eq slot recent ++ l)) (once slot ∙ ap (λ b. cond b (slot ∷ []) []) there) ∙ map_append (key_in slots) (keys_without nat_eq slot recent) (slot ∷ []) ∙ (λ i. others i ++ own i ∷ [])
