-- Which keys leave, and which stay in a list or are hidden.
use Rattle.std.proofs.Common.{◌≡◌, ℕ, zero, suc, Bool, true, false, not, cond, ◌&&◌, ◌||◌, Option, Some, None, is_some, List, [], ◌∷◌, filter, length, map, reverse, refl, sym, ap, ◌∙◌}
use Rattle.std.specs.List.{list_any}
use Rattle.std.proofs.lemmas.List.{reverse-append}
use Rattle.std.proofs.lemmas.List.Folds.{list_any-append}
use Rattle.std.specs.FinMap as fm
use Rattle.row_types.specs.declared.value.Value.{Value}
use Rattle.row_types.proofs.OrderLaws.{key_total}
use Rattle.indexed_rows.specs.Rows.{Table, is_same, put_in}
use Rattle.indexed_rows.proofs.EntryLaws.{same_itself, same_values}
use Rattle.instances.specs.Views.{kept_at}
use Rattle.recency.specs.Rings.{keys_without}
use Rattle.group_store.specs.Hiding.{hidden_with}
use Rattle.group_store.specs.Stores.{Kept, cut_store}
use Rattle.group_store.specs.Trees.{leads}
use Rattle.cache_tier.specs.Groups.{is_key, without_keys}
use Rattle.aging_cycles.specs.Running.{cut_all, hidden_all}
use Rattle.aging_cycles.proofs.RootRows.{get_retained, kept_through}

abbrev Row : Type 0
Row = List Value

pub turned : (a b : Row) → is_same a b ≡ is_same b a
turned a b = by (is_same a b) refl (is_same b a) refl
  where
    by : (p : Bool) → is_same a b ≡ p → (q : Bool) → is_same b a ≡ q → p ≡ q
    by true e true h = refl
    by true e false h = let z : true ≡ false = sym (same_itself b a (sym (same_values a b e))) ∙ h in cc
    by false e true h = let z : true ≡ false = sym (same_itself a b (sym (same_values b a h))) ∙ e in cc
    by false e false h = refl

-- keys that leave one after another

all_stay : (keys : List Row) → keys ≡ without_keys [] keys
all_stay [] = refl
all_stay (k ∷ keys) = ap (λ ks. k ∷ ks) (all_stay keys)

one_by_one : (k : Row) (ks keys : List Row) → without_keys ks (keys_without is_same k keys) ≡ without_keys (k ∷ ks) keys
one_by_one k ks [] = refl
one_by_one k ks (q ∷ keys) = by (is_same k q) refl (one_by_one k ks keys)
  where
    by : (b : Bool) → is_same k q ≡ b → without_keys ks (keys_without is_same k keys) ≡ without_keys (k ∷ ks) keys
        → without_keys ks (cond (not (is_same k q)) (q ∷ keys_without is_same k keys) (keys_without is_same k keys)) ≡ cond (not (is_same q k || is_key ks q)) (q ∷ without_keys (k ∷ ks) keys) (without_keys (k ∷ ks) keys)
    by true e rest =
        ap (λ b. without_keys ks (cond (not b) (q ∷ keys_without is_same k keys) (keys_without is_same k keys))) e ∙ rest
        ∙ sym (ap (λ b. cond (not (b || is_key ks q)) (q ∷ without_keys (k ∷ ks) keys) (without_keys (k ∷ ks) keys)) (turned q k ∙ e))
    by false e rest =
        ap (λ b. without_keys ks (cond (not b) (q ∷ keys_without is_same k keys) (keys_without is_same k keys))) e
        ∙ ap (λ l. cond (not (is_key ks q)) (q ∷ l) l) rest
        ∙ sym (ap (λ b. cond (not (b || is_key ks q)) (q ∷ without_keys (k ∷ ks) keys) (without_keys (k ∷ ks) keys)) (turned q k ∙ e))

pub cut_keys : (ks : List Row) (s : Kept) → (cut_all ks s).keys ≡ without_keys ks s.keys
cut_keys [] s = all_stay s.keys
cut_keys (k ∷ ks) s = cut_keys ks (cut_store 0 k s) ∙ one_by_one k ks s.keys

-- the root rows behind an instance that left

pub not_led : (s : Kept) (k q : Row) → leads s.layers s.tables 0 k (length s.layers) 0 q ≡ (is_same q k && fm.contains_key (kept_at s.tables 0) k)
not_led s k q = by (length s.layers)
  where
    or_false : (b : Bool) → (b || false) ≡ b
    or_false true = refl
    or_false false = refl

    by : (n : ℕ) → leads s.layers s.tables 0 k n 0 q ≡ (is_same q k && fm.contains_key (kept_at s.tables 0) k)
    by zero = refl
    by (suc n) = or_false (is_same q k && fm.contains_key (kept_at s.tables 0) k)

pub root_cut : (k : Row) (s : Kept) (q : Row) → fm.get (kept_at (cut_store 0 k s).tables 0) q ≡ cond (is_same q k) None (fm.get (kept_at s.tables 0) q)
root_cut k s q =
    ap (λ (m : Table). fm.get m q) (kept_through (λ place key. not (leads s.layers s.tables 0 k (length s.layers) place key)) s.tables 0)
    ∙ get_retained (kept_at s.tables 0) (λ key. not (leads s.layers s.tables 0 k (length s.layers) 0 key)) q
    ∙ ap (λ b. cond (not b) (fm.get (kept_at s.tables 0) q) None) (not_led s k q)
    ∙ by (is_same q k) refl (fm.get (kept_at s.tables 0) k) refl
  where
    by : (b : Bool) → is_same q k ≡ b → (o : Option Row) → fm.get (kept_at s.tables 0) k ≡ o → cond (not (is_same q k && is_some (fm.get (kept_at s.tables 0) k))) (fm.get (kept_at s.tables 0) q) None ≡ cond (is_same q k) None (fm.get (kept_at s.tables 0) q)
    by true e (Some r) h = (λ i. cond (not (e i && is_some (h i))) (fm.get (kept_at s.tables 0) q) None) ∙ sym (ap (λ b. cond b None (fm.get (kept_at s.tables 0) q)) e)
    by true e None h =
        (λ i. cond (not (e i && is_some (h i))) (fm.get (kept_at s.tables 0) q) None) ∙ ap (fm.get (kept_at s.tables 0)) (same_values q k e) ∙ h
        ∙ sym (ap (λ b. cond b None (fm.get (kept_at s.tables 0) q)) e)
    by false e o h = ap (λ b. cond (not (b && is_some (fm.get (kept_at s.tables 0) k))) (fm.get (kept_at s.tables 0) q) None) e ∙ sym (ap (λ b. cond b None (fm.get (kept_at s.tables 0) q)) e)

-- the hidden rows

pub has_put : (hid : Table) (k r q : Row) → fm.contains_key (put_in hid k r) q ≡ (fm.contains_key hid q || is_same q k)
has_put hid k r q = by (fm.contains_key hid k) refl
  where
    or_same : (b : Bool) → is_same q k ≡ b → fm.contains_key hid k ≡ true → fm.contains_key hid q ≡ (fm.contains_key hid q || b)
    or_same true e h = let z = ap (fm.contains_key hid) (same_values q k e) ∙ h in z ∙ sym (ap (λ b. b || true) z)
    or_same false e h = or_false (fm.contains_key hid q)
      where
        or_false : (b : Bool) → b ≡ (b || false)
        or_false true = refl
        or_false false = refl

    of : (b : Bool) (o : Option Row) → is_some (cond b (Some r) o) ≡ (is_some o || b)
    of true None = refl
    of true (Some x) = refl
    of false None = refl
    of false (Some x) = refl

    by : (b : Bool) → fm.contains_key hid k ≡ b → fm.contains_key (cond (fm.contains_key hid k) hid (fm.insert hid k r)) q ≡ (fm.contains_key hid q || is_same q k)
    by true h = ap (λ b. fm.contains_key (cond b hid (fm.insert hid k r)) q) h ∙ or_same (is_same q k) refl h
    by false h = ap (λ b. fm.contains_key (cond b hid (fm.insert hid k r)) q) h ∙ ap is_some (fm.get-insert key_total hid k r q) ∙ of (is_same q k) (fm.get hid q)

has_hidden : (o : Option Row) (k : Row) (hid : Table) (q : Row) → fm.contains_key (hidden_with o k hid) q ≡ (fm.contains_key hid q || (is_some o && is_same q k))
has_hidden None k hid q = or_false (fm.contains_key hid q)
  where
    or_false : (b : Bool) → b ≡ (b || false)
    or_false true = refl
    or_false false = refl
has_hidden (Some r) k hid q = has_put hid k r q

pub hidden_has : (ks : List Row) (s : Kept) (hid : Table) (q : Row) → fm.contains_key (hidden_all ks s hid) q ≡ (fm.contains_key hid q || (is_key ks q && fm.contains_key (kept_at s.tables 0) q))
hidden_has [] s hid q = or_false (fm.contains_key hid q)
  where
    or_false : (b : Bool) → b ≡ (b || false)
    or_false true = refl
    or_false false = refl
hidden_has (k ∷ ks) s hid q =
    hidden_has ks (cut_store 0 k s) (hidden_with (fm.get (kept_at s.tables 0) k) k hid) q
    ∙ (λ i. has_hidden (fm.get (kept_at s.tables 0) k) k hid q i || (is_key ks q && is_some (root_cut k s q i)))
    ∙ by (is_same q k) refl
  where
    of_true : (h c d n : Bool) → c ≡ d → ((h || (c && true)) || (n && false)) ≡ (h || ((true || n) && d))
    of_true true c d n e = refl
    of_true false true true true e = refl
    of_true false true true false e = refl
    of_true false true false n e = cc
    of_true false false true n e = cc
    of_true false false false true e = refl
    of_true false false false false e = refl

    of_false : (h c d n : Bool) → ((h || (c && false)) || (n && d)) ≡ (h || ((false || n) && d))
    of_false true c d n = refl
    of_false false true d n = refl
    of_false false false d n = refl

    by : (b : Bool) → is_same q k ≡ b
        → ((fm.contains_key hid q || (is_some (fm.get (kept_at s.tables 0) k) && is_same q k)) || (is_key ks q && is_some (cond (is_same q k) None (fm.get (kept_at s.tables 0) q)))) ≡ (fm.contains_key hid q || ((is_same q k || is_key ks q) && fm.contains_key (kept_at s.tables 0) q))
    by true e =
        ap (λ b. (fm.contains_key hid q || (is_some (fm.get (kept_at s.tables 0) k) && b)) || (is_key ks q && is_some (cond b None (fm.get (kept_at s.tables 0) q)))) e
        ∙ of_true (fm.contains_key hid q) (is_some (fm.get (kept_at s.tables 0) k)) (fm.contains_key (kept_at s.tables 0) q) (is_key ks q) (ap (λ z. is_some (fm.get (kept_at s.tables 0) z)) (sym (same_values q k e)))
        ∙ sym (ap (λ b. fm.contains_key hid q || ((b || is_key ks q) && fm.contains_key (kept_at s.tables 0) q)) e)
    by false e =
        ap (λ b. (fm.contains_key hid q || (is_some (fm.get (kept_at s.tables 0) k) && b)) || (is_key ks q && is_some (cond b None (fm.get (kept_at s.tables 0) q)))) e
        ∙ of_false (fm.contains_key hid q) (is_some (fm.get (kept_at s.tables 0) k)) (fm.contains_key (kept_at s.tables 0) q) (is_key ks q)
        ∙ sym (ap (λ b. fm.contains_key hid q || ((b || is_key ks q) && fm.contains_key (kept_at s.tables 0) q)) e)

-- keys from the last row to the first are the same keys

any_turned : (p : Row → Bool) (xs : List Row) → list_any p (reverse xs) ≡ list_any p xs
any_turned p [] = refl
any_turned p (x ∷ xs) =
    ap (list_any p) (reverse-append (x ∷ []) xs) ∙ list_any-append p (reverse xs) (x ∷ []) ∙ ap (λ b. b || list_any p (x ∷ [])) (any_turned p xs) ∙ by (list_any p xs) (p x)
  where
    by : (a b : Bool) → (a || (b || false)) ≡ (b || a)
    by true true = refl
    by true false = refl
    by false true = refl
    by false false = refl

any_picked : (f : Row → Row) (t : Row → Bool) (k : Row) (xs : List Row) → is_key (map f (filter t xs)) k ≡ list_any (λ x. t x && is_same k (f x)) xs
any_picked f t k [] = refl
any_picked f t k (x ∷ xs) = by (t x) (any_picked f t k xs)
  where
    by : (b : Bool) → is_key (map f (filter t xs)) k ≡ list_any (λ y. t y && is_same k (f y)) xs → is_key (map f (cond b (x ∷ filter t xs) (filter t xs))) k ≡ ((b && is_same k (f x)) || list_any (λ y. t y && is_same k (f y)) xs)
    by true e = ap (λ b. is_same k (f x) || b) e
    by false e = e

pub key_turned : (f : Row → Row) (t : Row → Bool) (xs : List Row) (k : Row) → is_key (map f (filter t (reverse xs))) k ≡ is_key (map f (filter t xs)) k
key_turned f t xs k = any_picked f t k (reverse xs) ∙ any_turned (λ x. t x && is_same k (f x)) xs ∙ sym (any_picked f t k xs)
