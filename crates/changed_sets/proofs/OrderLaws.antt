-- Keys that stay in the order of last use, with new ones behind them.
use Rattle.std.proofs.Common.{◌≡◌, ◌⊎◌, inl, inr, Bool, true, false, not, cond, ◌&&◌, ◌||◌, List, [], ◌∷◌, ◌++◌, filter, append_assoc, refl, sym, ap, ◌∙◌}
use Rattle.std.proofs.lemmas.List.{append-nil}
use Rattle.row_types.specs.declared.value.Value.{Value}
use Rattle.indexed_rows.specs.Rows.{is_same}
use Rattle.indexed_rows.proofs.EntryLaws.{same_values}
use Rattle.outside.proofs.RowLaws.{is_same_self}
use Rattle.order_laws.proofs.TruthLaws.{or_true}
use Rattle.recency.specs.Rings.{keys_without, touched}
use Rattle.cache_tier.specs.Groups.{is_key}
use Rattle.cache_tier.specs.Standing.{AreDistinct}
use Rattle.cache_tier.proofs.KeyListLaws.{key_append, key_left}
use Rattle.changed_sets.specs.Fresh.{keys_touched}

abbrev Row : Type 0
Row = List Value

-- ---- a key that isn't among others

filter_none : (k : Row) (l : List Row) → is_key l k ≡ false → filter (is_same k) l ≡ []
filter_none k [] e = refl
filter_none k (x ∷ l) e = by (is_same k x) refl e (filter_none k l)
  where
    by : (b : Bool) → is_same k x ≡ b → (b || is_key l k) ≡ false → (is_key l k ≡ false → filter (is_same k) l ≡ []) → cond (is_same k x) (x ∷ filter (is_same k) l) (filter (is_same k) l) ≡ []
    by true f g rest = cc
    by false f g rest = ap (λ c. cond c (x ∷ filter (is_same k) l) (filter (is_same k) l)) f ∙ rest g

without_none : (k : Row) (l : List Row) → is_key l k ≡ false → keys_without is_same k l ≡ l
without_none k [] e = refl
without_none k (x ∷ l) e = by (is_same k x) refl e (without_none k l)
  where
    by : (b : Bool) → is_same k x ≡ b → (b || is_key l k) ≡ false → (is_key l k ≡ false → keys_without is_same k l ≡ l) → cond (not (is_same k x)) (x ∷ keys_without is_same k l) (keys_without is_same k l) ≡ x ∷ l
    by true f g rest = cc
    by false f g rest = ap (λ c. cond (not c) (x ∷ keys_without is_same k l) (keys_without is_same k l)) f ∙ ap (λ r. x ∷ r) (rest g)

-- the first comes behind the others
touched_first : (k : Row) (l : List Row) → is_key l k ≡ false → touched is_same k (k ∷ l) ≡ l ++ k ∷ []
touched_first k l e =
    (λ i. cond (not (is_same_self k i)) (k ∷ keys_without is_same k l) (keys_without is_same k l) ++ cond (is_same_self k i) (k ∷ filter (is_same k) l) (filter (is_same k) l))
    ∙ (λ i. without_none k l e i ++ (k ∷ filter_none k l e i))

filter_append : (p : Row → Bool) (xs ys : List Row) → filter p (xs ++ ys) ≡ filter p xs ++ filter p ys
filter_append p [] ys = refl
filter_append p (x ∷ xs) ys = by (p x) (filter_append p xs ys)
  where
    by : (b : Bool) → filter p (xs ++ ys) ≡ filter p xs ++ filter p ys → cond b (x ∷ filter p (xs ++ ys)) (filter p (xs ++ ys)) ≡ cond b (x ∷ filter p xs) (filter p xs) ++ filter p ys
    by true e = ap (λ l. x ∷ l) e
    by false e = e

-- ---- each key once

some_filter : (k : Row) (l : List Row) → is_key l k ≡ true → filter (is_same k) l ≡ [] → ⊥
some_filter k [] e none = cc
some_filter k (x ∷ l) e none = by (is_same k x) e none (some_filter k l)
  where
    by : (b : Bool) → (b || is_key l k) ≡ true → cond b (x ∷ filter (is_same k) l) (filter (is_same k) l) ≡ [] → (is_key l k ≡ true → filter (is_same k) l ≡ [] → ⊥) → ⊥
    by true g f rest = cc
    by false g f rest = rest g f

pub distinct_of : (l : List Row) → ((k : Row) → is_key l k ≡ true → filter (is_same k) l ≡ k ∷ []) → AreDistinct l
distinct_of [] once = tt
distinct_of (x ∷ l) once = (first (is_key l x) refl, distinct_of l (λ k e. later k e (is_same k x) refl))
  where
    own : filter (is_same x) l ≡ []
    own =
        let all : x ∷ filter (is_same x) l ≡ x ∷ [] =
        sym (ap (λ c. cond c (x ∷ filter (is_same x) l) (filter (is_same x) l)) (is_same_self x)) ∙ once x (ap (λ b. b || is_key l x) (is_same_self x)) in
        cc

    first : (b : Bool) → is_key l x ≡ b → is_key l x ≡ false
    first true e = absurd (some_filter x l e own)
    first false e = e

    later : (k : Row) → is_key l k ≡ true → (b : Bool) → is_same k x ≡ b → filter (is_same k) l ≡ k ∷ []
    later k e true f = absurd (some_filter x l (ap (is_key l) (sym (same_values k x f)) ∙ e) own)
    later k e false f =
        sym (ap (λ c. cond c (x ∷ filter (is_same k) l) (filter (is_same k) l)) f)
        ∙ once k (ap (λ b. is_same k x || b) e ∙ or_true (is_same k x))

-- ---- keys of a list that stay, and others, are touched in the order of the list

touched_back : (keys : List Row) → AreDistinct keys → (q : Row → Bool) (new : List Row) → ((k : Row) → is_key keys k ≡ true → is_key new k ≡ false) → (done : List Row) → ((k : Row) → is_key keys k ≡ true → is_key done k ≡ false)
    → keys_touched keys ((filter q keys ++ new) ++ done) ≡ new ++ (done ++ filter q keys)
touched_back [] distinct q new apart done behind = ap (λ l. new ++ l) (sym (append-nil done))
touched_back (x ∷ keys) distinct q new apart done behind =
    by (q x) refl
    (touched_back keys distinct.1 q new (λ k f. apart k (later k f)) (done ++ x ∷ []) (λ k f. more k f (is_same k x) refl))
    (touched_back keys distinct.1 q new (λ k f. apart k (later k f)) done (λ k f. behind k (later k f)))
  where
    here : is_key (x ∷ keys) x ≡ true
    here = ap (λ b. b || is_key keys x) (is_same_self x)

    later : (k : Row) → is_key keys k ≡ true → is_key (x ∷ keys) k ≡ true
    later k f = ap (λ b. is_same k x || b) f ∙ or_true (is_same k x)

    not_old : is_key ((filter q keys ++ new) ++ done) x ≡ false
    not_old =
        key_append (filter q keys ++ new) done x
        ∙ ap (λ b. b || is_key done x) (key_append (filter q keys) new x ∙ ap (λ b. b || is_key new x) (key_left q keys x ∙ ap (λ b. b && q x) distinct.0) ∙ apart x here)
        ∙ behind x here

    more : (k : Row) → is_key keys k ≡ true → (b : Bool) → is_same k x ≡ b → is_key (done ++ x ∷ []) k ≡ false
    more k f true same = let wrong : true ≡ false = sym f ∙ ap (is_key keys) (same_values k x same) ∙ distinct.0 in cc
    more k f false same = key_append done (x ∷ []) k ∙ ap (λ b. b || (is_same k x || false)) (behind k (later k f)) ∙ ap (λ b. b || false) same

    by : (b : Bool) → q x ≡ b
        → keys_touched keys ((filter q keys ++ new) ++ (done ++ x ∷ [])) ≡ new ++ ((done ++ x ∷ []) ++ filter q keys)
        → keys_touched keys ((filter q keys ++ new) ++ done) ≡ new ++ (done ++ filter q keys)
        → keys_touched keys (touched is_same x ((cond (q x) (x ∷ filter q keys) (filter q keys) ++ new) ++ done)) ≡ new ++ (done ++ cond (q x) (x ∷ filter q keys) (filter q keys))
    by true e stays leaves =
        ap (λ c. keys_touched keys (touched is_same x ((cond c (x ∷ filter q keys) (filter q keys) ++ new) ++ done))) e
        ∙ ap (keys_touched keys) (touched_first x ((filter q keys ++ new) ++ done) not_old ∙ append_assoc (filter q keys ++ new) done (x ∷ []))
        ∙ stays
        ∙ ap (λ l. new ++ l) (append_assoc done (x ∷ []) (filter q keys))
        ∙ sym (ap (λ c. new ++ (done ++ cond c (x ∷ filter q keys) (filter q keys))) e)
    by false e stays leaves =
        ap (λ c. keys_touched keys (touched is_same x ((cond c (x ∷ filter q keys) (filter q keys) ++ new) ++ done))) e
        ∙ ap (keys_touched keys) ((λ i. without_none x ((filter q keys ++ new) ++ done) not_old i ++ filter_none x ((filter q keys ++ new) ++ done) not_old i) ∙ append-nil ((filter q keys ++ new) ++ done))
        ∙ leaves
        ∙ sym (ap (λ c. new ++ (done ++ cond c (x ∷ filter q keys) (filter q keys))) e)

-- ---- and those that are gained behind them

none_in : (l : List Row) → ((k : Row) → is_key l k ≡ true → ⊥) → l ≡ []
none_in [] none = refl
none_in (x ∷ l) none = absurd (none x (ap (λ b. b || is_key l x) (is_same_self x)))

all_same : (k : Row) (l : List Row) → ((x : Row) → is_key l x ≡ true → x ≡ k) → filter (is_same k) l ≡ l
all_same k [] same = refl
all_same k (x ∷ l) same =
    ap (λ c. cond c (x ∷ filter (is_same k) l) (filter (is_same k) l)) (ap (is_same k) (same x (ap (λ b. b || is_key l x) (is_same_self x))) ∙ is_same_self k)
    ∙ ap (λ r. x ∷ r) (all_same k l (λ y e. same y (ap (λ b. is_same y x || b) e ∙ or_true (is_same y x))))

one_key : (k x : Row) → is_key (k ∷ []) x ≡ true → x ≡ k
one_key k x e = by (is_same x k) refl e
  where
    by : (b : Bool) → is_same x k ≡ b → (b || false) ≡ true → x ≡ k
    by true f g = same_values x k f
    by false f g = cc

module _ (keys : List Row) (distinct : AreDistinct keys) (q : Row → Bool) (new all more : List Row) (is : all ≡ filter q keys ++ new) (once : (k : Row) → is_key all k ≡ true → filter (is_same k) all ≡ k ∷ [])
    (apart : (k : Row) → is_key keys k ≡ true → is_key new k ≡ false) (gained : (k : Row) → is_key new k ≡ true → is_key more k ≡ true) (comes : (k : Row) → is_key more k ≡ true → is_key all k ≡ true) (unheld : (k : Row) → is_key more k ≡ true → is_key keys k ≡ false) where
  kept_first : keys_touched keys all ≡ new ++ filter q keys
  kept_first = ap (keys_touched keys) (is ∙ sym (append-nil (filter q keys ++ new))) ∙ touched_back keys distinct q new apart [] (λ k e. refl)

  nothing_gained : more ≡ [] → all ≡ keys_touched more (keys_touched keys all)
  nothing_gained e =
      let none : new ≡ [] = none_in new (λ k f. (let wrong : false ≡ true = sym (ap (λ l. is_key l k) e) ∙ gained k f in cc)) in
      is ∙ ap (λ l. filter q keys ++ l) none ∙ append-nil (filter q keys)
      ∙ sym (ap (λ m. keys_touched m (keys_touched keys all)) e ∙ kept_first ∙ ap (λ l. l ++ filter q keys) none)

  one_gained : (k : Row) → more ≡ k ∷ [] → all ≡ keys_touched more (keys_touched keys all)
  one_gained k e =
      let own : is_key more k ≡ true = ap (λ l. is_key l k) e ∙ ap (λ b. b || false) (is_same_self k) in
      let left : is_key (filter q keys) k ≡ false = key_left q keys k ∙ ap (λ b. b && q k) (unheld k own) in
      let split : filter (is_same k) new ≡ k ∷ [] =
      sym (ap (λ l. l ++ filter (is_same k) new) (filter_none k (filter q keys) left)) ∙ sym (filter_append (is_same k) (filter q keys) new) ∙ sym (ap (filter (is_same k)) is) ∙ once k (comes k own) in
      let one : new ≡ k ∷ [] = sym (all_same k new (λ x f. one_key k x (sym (ap (λ l. is_key l x) e) ∙ gained x f))) ∙ split in
      is ∙ ap (λ l. filter q keys ++ l) one ∙ sym (touched_first k (filter q keys) left)
      ∙ sym (ap (λ m. keys_touched m (keys_touched keys all)) e ∙ ap (touched is_same k) (kept_first ∙ ap (λ l. l ++ filter q keys) one))

  pub in_order : (more ≡ []) ⊎ ((k : Row) × (more ≡ k ∷ [])) → all ≡ keys_touched more (keys_touched keys all)
  in_order (inl none) = nothing_gained none
  in_order (inr one) = one_gained one.0 one.1
