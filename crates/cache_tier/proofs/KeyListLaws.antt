-- Key lists: which keys are in them.
use Rattle.std.proofs.Common.{◌≡◌, Bool, true, false, cond, not, ◌&&◌, ◌||◌, Option, Some, None, is_some, List, [], ◌∷◌, ◌++◌, refl, sym, ap, ◌∙◌}
use Rattle.std.specs.List.{filter}
use Rattle.std.proofs.lemmas.List.Folds.{list_any-append}
use Rattle.std.specs.FinMap as fm
use Rattle.row_types.specs.declared.value.Value.{Value}
use Rattle.row_types.specs.Order.{key_order}
use Rattle.row_types.proofs.OrderLaws.{key_total}
use Rattle.indexed_rows.specs.Rows.{is_same}
use Rattle.indexed_rows.proofs.EntryLaws.{same_values}
use Rattle.cache_tier.specs.Groups.{is_key, used, with_keys, without_keys}
use Rattle.cache_tier.specs.Recency.{with_entered}

abbrev Row : Type 0
Row = List Value

pub key_append : (a b : List Row) (k : Row) → is_key (a ++ b) k ≡ (is_key a k || is_key b k)
key_append a b k = list_any-append (is_same k) a b

pub key_left : (p : Row → Bool) (keys : List Row) (k : Row) → is_key (filter p keys) k ≡ (is_key keys k && p k)
key_left p [] k = refl
key_left p (q ∷ keys) k = by (p q) refl (is_same k q) refl (key_left p keys k)
  where
    by : (a : Bool) → p q ≡ a → (b : Bool) → is_same k q ≡ b → is_key (filter p keys) k ≡ (is_key keys k && p k) → is_key (cond (p q) (q ∷ filter p keys) (filter p keys)) k ≡ ((is_same k q || is_key keys k) && p k)
    by true x true y rest = ap (λ c. is_key (cond c (q ∷ filter p keys) (filter p keys)) k) x ∙ ap (λ c. c || is_key (filter p keys) k) y ∙ sym (ap (λ c. (c || is_key keys k) && p k) y ∙ ap p (same_values k q y) ∙ x)
    by true x false y rest = ap (λ c. is_key (cond c (q ∷ filter p keys) (filter p keys)) k) x ∙ ap (λ c. c || is_key (filter p keys) k) y ∙ rest ∙ sym (ap (λ c. (c || is_key keys k) && p k) y)
    by false x true y rest =
        let none : p k ≡ false = ap p (same_values k q y) ∙ x in
        ap (λ c. is_key (cond c (q ∷ filter p keys) (filter p keys)) k) x ∙ rest ∙ ap (λ c. is_key keys k && c) none ∙ and_false (is_key keys k) ∙ sym (ap (λ c. (c || is_key keys k) && p k) y ∙ none)
      where
        and_false : (c : Bool) → (c && false) ≡ false
        and_false true = refl
        and_false false = refl
    by false x false y rest = ap (λ c. is_key (cond c (q ∷ filter p keys) (filter p keys)) k) x ∙ rest ∙ sym (ap (λ c. (c || is_key keys k) && p k) y)

pub key_without : (gone keys : List Row) (k : Row) → is_key (without_keys gone keys) k ≡ (is_key keys k && not (is_key gone k))
key_without gone keys k = key_left (λ key. not (is_key gone key)) keys k

-- keys that come behind, those too that were there
pub key_entered : (new left old : List Row) (k : Row) → is_key (with_entered new left old) k ≡ ((is_key old k && not (is_key left k)) || is_key new k)
key_entered new left old k =
    key_append (without_keys (left ++ new) old) new k ∙ ap (λ b. b || is_key new k) (key_without (left ++ new) old k ∙ ap (λ b. is_key old k && not b) (key_append left new k))
    ∙ by (is_key old k) (is_key left k) (is_key new k)
  where
    by : (o l n : Bool) → ((o && not (l || n)) || n) ≡ ((o && not l) || n)
    by true true n = refl
    by true false true = refl
    by true false false = refl
    by false l n = refl

-- new keys come behind the others
pub key_with : (new old : List Row) (k : Row) → is_key (with_keys new old) k ≡ (is_key old k || is_key new k)
key_with new old k = key_append old (without_keys old new) k ∙ ap (λ b. is_key old k || b) (key_without old new k) ∙ by (is_key old k) (is_key new k)
  where
    by : (o n : Bool) → (o || (n && not o)) ≡ (o || n)
    by true n = refl
    by false true = refl
    by false false = refl

-- a key that is used moves
pub key_used : (key : Row) (keys : List Row) (k : Row) → is_key (used key keys) k ≡ is_key keys k
key_used key keys k = by (is_key keys key) refl
  where
    same : is_same k key ≡ true → is_key keys k ≡ is_key keys key
    same e = ap (is_key keys) (same_values k key e)

    of : (b : Bool) → is_same k key ≡ b → is_key keys key ≡ true → ((is_key keys k && not (b || false)) || (b || false)) ≡ is_key keys k
    of true e h = or_one (is_key keys k && false) ∙ sym (same e ∙ h)
      where
        or_one : (c : Bool) → (c || true) ≡ true
        or_one true = refl
        or_one false = refl
    of false e h = and_or (is_key keys k)
      where
        and_or : (c : Bool) → ((c && true) || false) ≡ c
        and_or true = refl
        and_or false = refl

    by : (b : Bool) → is_key keys key ≡ b → is_key (cond b (without_keys (key ∷ []) keys ++ key ∷ []) keys) k ≡ is_key keys k
    by true e =
        key_append (without_keys (key ∷ []) keys) (key ∷ []) k ∙ ap (λ b. b || (is_same k key || false)) (key_without (key ∷ []) keys k)
        ∙ of (is_same k key) refl e
    by false e = refl

-- the keys of a map or a set
pub key_in_map : {X : Type 0} (m : fm.FinMap key_order X) (k : Row) → is_key (fm.keys m) k ≡ fm.contains_key m k
key_in_map m k = sym (fm.contains_key-keys m k)

pub map_with : {X : Type 0} (m : fm.FinMap key_order X) (key : Row) (x : X) (k : Row) → fm.contains_key (fm.insert m key x) k ≡ (is_same k key || fm.contains_key m k)
map_with m key x k = ap is_some (fm.get-insert key_total m key x k) ∙ by (is_same k key)
  where
    by : (b : Bool) → is_some (cond b (Some x) (fm.get m k)) ≡ (b || fm.contains_key m k)
    by true = refl
    by false = refl

pub map_without : {X : Type 0} (m : fm.FinMap key_order X) (key k : Row) → fm.contains_key (fm.remove m key) k ≡ (not (is_same k key) && fm.contains_key m k)
map_without {X = X} m key k = ap is_some (fm.get-remove key_total m key k) ∙ by (is_same k key)
  where
    by : (b : Bool) → is_some (cond b (let o : Option X = None in o) (fm.get m k)) ≡ (not b && fm.contains_key m k)
    by true = refl
    by false = refl
