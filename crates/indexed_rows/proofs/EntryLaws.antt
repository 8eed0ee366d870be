-- Laws of keys in a map: at which places they stand, and what a change leaves of them.
use Rattle.std.proofs.Common.{◌≡◌, ◌≢◌, ℕ, zero, suc, ◌+◌, ◌-◌, ◌<◌, ◌≤◌, Bool, true, false, cond, T, ◌&&◌, Option, Some, None, is_some, List, [], ◌∷◌, ◌++◌, All, length, map, take, drop, get_or, slice_get, inl, inr, ◌⊎◌, refl, sym, ap, subst, ◌∙◌, arith}
use Rattle.std.specs.Ordering.{eq_by_cmp, is_eq, is_lt, ordering_then}
use Rattle.std.specs.declared.cmp.Ordering.{Ordering}
use Rattle.std.specs.declared.cmp.Ordering.TheVariants.{Less, Equal, Greater}
use Rattle.std.specs.FinMap.{contains_key, entries, entries_sorted, find, get, get-entries, get-insert, get-remove, insert, is_sorted, keys, remove, same_map}
use Rattle.std.specs.FinMap.Entries.{below_all}
use Rattle.std.proofs.lemmas.Cmp.{tied_itself}
use Rattle.row_types.specs.declared.value.Value.{Value}
use Rattle.row_types.specs.Order.{key_order, order_of}
use Rattle.row_types.proofs.OrderLaws.{key_total, key_exact, order_exact, order_total}
use Rattle.indexed_rows.specs.Rows.{put_in, Table, is_same}

abbrev Key : Type 0
Key = List Value

-- lists of values

is_tie : (r : Ordering) → is_eq r ≡ true → r ≡ Equal
is_tie Less e = cc
is_tie Equal e = refl
is_tie Greater e = cc

pub itself : (a : Key) → key_order a a ≡ Equal
itself a = tied_itself key_total a

pub same_itself : (a b : Key) → a ≡ b → is_same a b ≡ true
same_itself a b e = ap (is_same a) (sym e) ∙ ap is_eq (itself a)

pub same_values : (a b : Key) → is_same a b ≡ true → a ≡ b
same_values a b e = key_exact a b (is_tie (key_order a b) e)

-- two keys are the same, or they aren't
pub decided : (a b : Key) → (a ≡ b) ⊎ (a ≡ b → ⊥)
decided a b =
    elim (key_order a b) as (λ r. key_order a b ≡ r → (a ≡ b) ⊎ (a ≡ b → ⊥)) [
      | Less ↦ λ t. inr (λ e. let tie : key_order a b ≡ Equal = ap (key_order a) (sym e) ∙ itself a in cc)
      | Equal ↦ λ t. inl (key_exact a b t)
      | Greater ↦ λ t. inr (λ e. let tie : key_order a b ≡ Equal = ap (key_order a) (sym e) ∙ itself a in cc)
    ] refl

-- with the same front the rest decides
pub behind_front : (front a b : Key) → key_order (front ++ a) (front ++ b) ≡ key_order a b
behind_front [] a b = refl
behind_front (x ∷ front) a b = ap (λ r. ordering_then r (key_order (front ++ a) (front ++ b))) (tied_itself order_total x) ∙ behind_front front a b

-- what isn't below a front and is below it with more behind has that front
pub between : (h front a b c : Key) → length h ≡ length front → (key_order (h ++ a) (front ++ b) ≡ Less → ⊥) → key_order (h ++ a) (front ++ c) ≡ Less → h ≡ front
between [] [] a b c e low high = refl
between [] (y ∷ front) a b c e low high = absurd (omega (arith, e))
between (x ∷ h) [] a b c e low high = absurd (omega (arith, e))
between (x ∷ h) (y ∷ front) a b c e low high =
    elim (order_of x y) as (λ r. order_of x y ≡ r → (ordering_then r (key_order (h ++ a) (front ++ b)) ≡ Less → ⊥) → ordering_then r (key_order (h ++ a) (front ++ c)) ≡ Less → x ∷ h ≡ y ∷ front) [
      | Less ↦ λ t low high. absurd (low refl)
      | Equal ↦ λ t low high. let same : x ≡ y = order_exact x y t in let rest : h ≡ front = between h front a b c (omega (arith, e)) low high in λ i. same i ∷ rest i
      | Greater ↦ λ t low high. cc
    ] refl low high

pub tail_of : (a a' b b' : Key) → length a ≡ length a' → a ++ b ≡ a' ++ b' → b ≡ b'
tail_of a a' b b' long e = sym (rest a b) ∙ ap (drop (length a)) e ∙ ap (λ n. drop n (a' ++ b')) long ∙ rest a' b'
  where
    rest : (a b : Key) → drop (length a) (a ++ b) ≡ b
    rest [] b = refl
    rest (x ∷ a) b = rest a b

-- elements of a list by their places

pub read : {A : Type 0} (xs : List A) (i : ℕ) (x d : A) → slice_get xs i ≡ Some x → (i < length xs) × (get_or xs i d ≡ x)
read [] i x d e = cc
read (y ∷ xs) zero x d e = let same : y ≡ x = cc in (omega arith, same)
read (y ∷ xs) (suc i) x d e = let rest = read xs i x d e in (omega (arith, rest.0), rest.1)

pub all_at : {A : Type 0} (P : A → Type 0) (xs : List A) (i : ℕ) (x : A) → All P xs → slice_get xs i ≡ Some x → P x
all_at P xs i x all e = let r = read xs i x x e in subst P r.1 (all i x r.0)

pub taken_at : {A : Type 0} (xs : List A) (n i : ℕ) (x : A) → i < n → slice_get xs i ≡ Some x → slice_get (take n xs) i ≡ Some x
taken_at [] n i x lt e = cc
taken_at (y ∷ xs) zero i x lt e = absurd (omega arith)
taken_at (y ∷ xs) (suc n) zero x lt e = e
taken_at (y ∷ xs) (suc n) (suc i) x lt e = taken_at xs n i x (omega arith) e

pub dropped_at : {A : Type 0} (xs : List A) (n i : ℕ) → slice_get (drop n xs) i ≡ slice_get xs (n + i)
dropped_at xs zero i = let same : zero + i ≡ i = omega arith in ap (slice_get xs) (sym same)
dropped_at [] (suc n) i = refl
dropped_at (y ∷ xs) (suc n) i = let next : suc n + i ≡ suc (n + i) = omega arith in rw next (dropped_at xs n i)

pub mapped_at : {A B : Type 0} (f : A → B) (xs : List A) (i : ℕ) (x : A) → slice_get xs i ≡ Some x → slice_get (map f xs) i ≡ Some (f x)
mapped_at f [] i x e = cc
mapped_at f (y ∷ xs) zero x e = let same : y ≡ x = cc in ap (λ z. Some (f z)) same
mapped_at f (y ∷ xs) (suc i) x e = mapped_at f xs i x e

-- an element below the end
pub there : {A : Type 0} (xs : List A) (i : ℕ) → i < length xs → (x : A) × (slice_get xs i ≡ Some x)
there [] i lt = absurd (omega arith)
there (x ∷ xs) zero lt = (x, refl)
there (x ∷ xs) (suc i) lt = there xs i (omega arith)

pub unmapped_at : {A B : Type 0} (f : A → B) (xs : List A) (i : ℕ) (y : B) → slice_get (map f xs) i ≡ Some y → (x : A) × (slice_get xs i ≡ Some x) × (f x ≡ y)
unmapped_at f [] i y e = cc
unmapped_at f (x ∷ xs) zero y e = let same : f x ≡ y = cc in (x, refl, same)
unmapped_at f (x ∷ xs) (suc i) y e = unmapped_at f xs i y e

-- entries in order

abbrev Entries : Type 0
Entries = List (Key × Key)

both_first : (a b : Bool) → T (a && b) → T a
both_first true b p = tt
both_first false b p = p

both_second : (a b : Bool) → T (a && b) → T b
both_second true b p = p
both_second false b p = absurd p

is_less : (r : Ordering) → T (is_lt r) → r ≡ Less
is_less Less p = refl
is_less Equal p = absurd p
is_less Greater p = absurd p

below_at : (x : Key) (es : Entries) (i : ℕ) (e : Key × Key) → T (below_all key_order x es) → slice_get es i ≡ Some e → key_order x e.0 ≡ Less
below_at x [] i e h at = cc
below_at x (y ∷ es) zero e h at = let same : y ≡ e = cc in ap (λ z. key_order x z.0) (sym same) ∙ is_less _ (both_first _ _ h)
below_at x (y ∷ es) (suc i) e h at = below_at x es i e (both_second _ _ h) at

rising : (es : Entries) (i j : ℕ) (a b : Key × Key) → T (is_sorted key_order es) → i < j → slice_get es i ≡ Some a → slice_get es j ≡ Some b → key_order a.0 b.0 ≡ Less
rising [] i j a b h lt at_i at_j = cc
rising (e ∷ es) i zero a b h lt at_i at_j = absurd (omega arith)
rising (e ∷ es) zero (suc j) a b h lt at_i at_j = let same : e ≡ a = cc in ap (λ z. key_order z.0 b.0) (sym same) ∙ below_at e.0 es j b (both_first _ _ h) at_j
rising (e ∷ es) (suc i) (suc j) a b h lt at_i at_j = rising es i j a b (both_second _ _ h) (omega arith) at_i at_j

found_entry : (es : Entries) (k row : Key) → find key_order k es ≡ Some row → (i : ℕ) × (slice_get es i ≡ Some (k, row))
found_entry [] k row e = cc
found_entry (x ∷ es) k row e =
    elim (key_order k x.0) as (λ r. key_order k x.0 ≡ r → cond (is_eq r) (Some x.1) (find key_order k es) ≡ Some row → (i : ℕ) × (slice_get (x ∷ es) i ≡ Some (k, row))) [
      | Less ↦ λ t e. let rest = found_entry es k row e in (suc rest.0, rest.1)
      | Equal ↦ λ t e. let key_is : k ≡ x.0 = key_exact k x.0 t in let row_is : x.1 ≡ row = cc in (zero, λ i. Some (sym key_is i, row_is i))
      | Greater ↦ λ t e. let rest = found_entry es k row e in (suc rest.0, rest.1)
    ] refl e

entry_found : (es : Entries) (i : ℕ) (e : Key × Key) → T (is_sorted key_order es) → slice_get es i ≡ Some e → find key_order e.0 es ≡ Some e.1
entry_found [] i e h at = cc
entry_found (x ∷ es) zero e h at = let same : x ≡ e = cc in ap (λ z. cond (is_eq (key_order e.0 z.0)) (Some z.1) (find key_order e.0 es)) same ∙ ap (λ r. cond (is_eq r) (Some e.1) (find key_order e.0 es)) (itself e.0)
entry_found (x ∷ es) (suc i) e h at =
    let less : key_order x.0 e.0 ≡ Less = below_at x.0 es i e (both_first _ _ h) at in
    elim (key_order e.0 x.0) as (λ r. key_order e.0 x.0 ≡ r → cond (is_eq r) (Some x.1) (find key_order e.0 es) ≡ Some e.1) [
      | Less ↦ λ t. entry_found es i e (both_second _ _ h) at
      | Equal ↦ λ t. let tie : key_order x.0 e.0 ≡ Equal = ap (λ z. key_order z e.0) (sym (key_exact e.0 x.0 t)) ∙ itself e.0 in cc
      | Greater ↦ λ t. entry_found es i e (both_second _ _ h) at
    ] refl

module _ (m : Table) where
  pub at_has : (i : ℕ) (e : Key × Key) → slice_get (entries m) i ≡ Some e → get m e.0 ≡ Some e.1
  at_has i e at = get-entries m e.0 ∙ entry_found (entries m) i e (entries_sorted m) at

  pub has_at : (k row : Key) → get m k ≡ Some row → (i : ℕ) × (slice_get (entries m) i ≡ Some (k, row))
  has_at k row e = found_entry (entries m) k row (sym (get-entries m k) ∙ e)

  pub rises : (i j : ℕ) (a b : Key × Key) → i < j → slice_get (entries m) i ≡ Some a → slice_get (entries m) j ≡ Some b → key_order a.0 b.0 ≡ Less
  rises i j a b lt at_i at_j = rising (entries m) i j a b (entries_sorted m) lt at_i at_j

  -- what a split of the keys says of an entry
  pub below_split : (s : Key) (n i : ℕ) (e : Key × Key) → All (λ k. key_order k s ≡ Less) (take n (keys m)) → i < n → slice_get (entries m) i ≡ Some e → key_order e.0 s ≡ Less
  below_split s n i e all lt at = all_at (λ k. key_order k s ≡ Less) (take n (keys m)) i e.0 all (taken_at (keys m) n i e.0 lt (mapped_at (λ z. z.0) (entries m) i e at))

  pub behind_split : (s : Key) (n i : ℕ) (e : Key × Key) → All (λ k. key_order k s ≢ Less) (drop n (keys m)) → n ≤ i → slice_get (entries m) i ≡ Some e → key_order e.0 s ≢ Less
  behind_split s n i e all le at =
      let place : n + (i - n) ≡ i = omega arith in
      all_at (λ k. key_order k s ≢ Less) (drop n (keys m)) (i - n) e.0 all (dropped_at (keys m) n (i - n) ∙ ap (slice_get (keys m)) place ∙ mapped_at (λ z. z.0) (entries m) i e at)

-- what changes leave

pub some_of : {A : Type 0} (o : Option A) → is_some o ≡ true → (x : A) × (o ≡ Some x)
some_of None e = cc
some_of (Some x) e = (x, refl)

apart : (q k : Key) → (q ≡ k → ⊥) → eq_by_cmp key_order q k ≡ false
apart q k other =
    elim (key_order q k) as (λ r. key_order q k ≡ r → is_eq r ≡ false) [
      | Less ↦ λ t. refl
      | Equal ↦ λ t. absurd (other (key_exact q k t))
      | Greater ↦ λ t. refl
    ] refl

pub get_new : (m : Table) (k row : Key) → get (insert m k row) k ≡ Some row
get_new m k row = get-insert key_total m k row k ∙ ap (λ r. cond (is_eq r) (Some row) (get m k)) (itself k)

pub get_other : (m : Table) (k row q : Key) → (q ≡ k → ⊥) → get (insert m k row) q ≡ get m q
get_other m k row q other = get-insert key_total m k row q ∙ ap (λ b. cond b (Some row) (get m q)) (apart q k other)

pub get_gone : (m : Table) (k : Key) → get (remove m k) k ≡ None
get_gone m k = get-remove key_total m k k ∙ ap (λ r. cond (is_eq r) None (get m k)) (itself k)

pub get_left : (m : Table) (k q : Key) → (q ≡ k → ⊥) → get (remove m k) q ≡ get m q
get_left m k q other = get-remove key_total m k q ∙ ap (λ b. cond b None (get m q)) (apart q k other)

pub insert_over : (m : Table) (k row : Key) → insert (remove m k) k row ≡ insert m k row
insert_over m k row = same_map key_total key_exact (insert (remove m k) k row) (insert m k row) (λ q.
    elim (decided q k) as (λ d. get (insert (remove m k) k row) q ≡ get (insert m k row) q) [
      | inl e ↦ rw e (get_new (remove m k) k row ∙ sym (get_new m k row))
      | inr other ↦ get_other (remove m k) k row q other ∙ get_left m k q other ∙ sym (get_other m k row q other)
    ])

module _ (m : Table) (k row : Key) where
  pub put_has : contains_key (put_in m k row) k ≡ true
  put_has = by (contains_key m k) refl
    where
      by : (b : Bool) → contains_key m k ≡ b → contains_key (cond b m (insert m k row)) k ≡ true
      by true e = e
      by false e = ap is_some (get_new m k row)

  pub put_keeps : (q : Key) → contains_key m q ≡ true → contains_key (put_in m k row) q ≡ true
  put_keeps q has = by (contains_key m k)
    where
      by : (b : Bool) → contains_key (cond b m (insert m k row)) q ≡ true
      by true = has
      by false =
          elim (decided q k) as (λ d. contains_key (insert m k row) q ≡ true) [
            | inl e ↦ rw e (ap is_some (get_new m k row))
            | inr other ↦ ap is_some (get_other m k row q other) ∙ has
          ]

  pub put_only : (q : Key) → contains_key (put_in m k row) q ≡ true → (q ≡ k) ⊎ (contains_key m q ≡ true)
  put_only q has = by (contains_key m k) has
    where
      by : (b : Bool) → contains_key (cond b m (insert m k row)) q ≡ true → (q ≡ k) ⊎ (contains_key m q ≡ true)
      by true h = inr h
      by false h =
          elim (decided q k) as (λ d. (q ≡ k) ⊎ (contains_key m q ≡ true)) [
            | inl e ↦ inl e
            | inr other ↦ inr (ap is_some (sym (get_other m k row q other)) ∙ h)
          ]

pub left_keeps : (m : Table) (k q : Key) → (q ≡ k → ⊥) → contains_key m q ≡ true → contains_key (remove m k) q ≡ true
left_keeps m k q other has = ap is_some (get_left m k q other) ∙ has

pub left_only : (m : Table) (k q : Key) → contains_key (remove m k) q ≡ true → (q ≡ k → ⊥) × (contains_key m q ≡ true)
left_only m k q has =
    elim (decided q k) as (λ d. (q ≡ k → ⊥) × (contains_key m q ≡ true)) [
      | inl e ↦ let gone : contains_key (remove m k) q ≡ false = rw e (ap is_some (get_gone m k)) in cc
      | inr other ↦ (other, ap is_some (sym (get_left m k q other)) ∙ has)
    ]

-- a key without a row
pub taken_out : (m : Table) (k row : Key) → get m k ≡ None → remove (insert m k row) k ≡ m
taken_out m k row none = same_map key_total key_exact (remove (insert m k row) k) m (λ q.
    elim (decided q k) as (λ d. get (remove (insert m k row) k) q ≡ get m q) [
      | inl e ↦ rw e (get_gone (insert m k row) k ∙ sym none)
      | inr other ↦ get_left (insert m k row) k q other ∙ get_other m k row q other
    ])

pub nothing_left : (m : Table) (k : Key) → get m k ≡ None → remove m k ≡ m
nothing_left m k none = same_map key_total key_exact (remove m k) m (λ q.
    elim (decided q k) as (λ d. get (remove m k) q ≡ get m q) [
      | inl e ↦ rw e (get_gone m k ∙ sym none)
      | inr other ↦ get_left m k q other
    ])
