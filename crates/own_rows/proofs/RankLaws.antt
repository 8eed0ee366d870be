-- Laws of counting the keys of a map.
use Rattle.std.proofs.Common.{◌≡◌, ℕ, zero, suc, ◌+◌, ◌<◌, ◌≤◌, Bool, true, false, cond, T, ◌&&◌, ◌||◌, Option, Some, None, is_some, List, [], ◌∷◌, length, slice_get, refl, sym, ap, subst, ◌∙◌, arith}
use Rattle.std.specs.Ordering.{eq_by_cmp, is_eq, is_lt, ordering_reverse}
use Rattle.std.specs.declared.cmp.Ordering.{Ordering}
use Rattle.std.specs.declared.cmp.Ordering.TheVariants.{Less, Equal, Greater}
use Rattle.std.specs.Cmp.{IsTotalOrder}
use Rattle.std.specs.FinMap.{FinMap, IsAntisymmetric, contains_key, entries, entries-insert, entries_sorted, find, get, get-entries, get-insert, insert, is_sorted, len, len-entries, put}
use Rattle.std.specs.FinMap.Entries.{below_all, by_order, same_entries}
use Rattle.std.proofs.lemmas.Cmp.{tied_itself, tied_back}
use Rattle.own_rows.specs.Ranks.{count_keys, count_in, rank}

both_first : (a b : Bool) → T (a && b) → T a
both_first true b p = tt
both_first false b p = p

both_second : (a b : Bool) → T (a && b) → T b
both_second true b p = p
both_second false b p = absurd p

is_less : (r : Ordering) → T (is_lt r) → r ≡ Less
is_less Less p = refl
is_less Equal p = absurd p
is_less Greater p = absurd p

is_tie : (r : Ordering) → T (is_eq r) → r ≡ Equal
is_tie Less p = absurd p
is_tie Equal p = refl
is_tie Greater p = absurd p

yes : (b : Bool) → T b → b ≡ true
yes true p = refl
yes false p = absurd p

holds : (b : Bool) → b ≡ true → T b
holds true e = tt
holds false e = cc

-- the same keys without their values
blank : {K X : Type 0} → List (K × X) → List (K × Unit {0})
blank [] = []
blank (e ∷ es) = (e.0, tt) ∷ blank es

bare : {X : Type 0} → Option X → Option (Unit {0})
bare None = None
bare (Some x) = Some tt

module _ {K X : Type 0} (p : K → Bool) where
  count_blank : (es : List (K × X)) → count_keys p (blank es) ≡ count_keys p es
  unfolding blank
  count_blank [] = refl
  count_blank (e ∷ es) = ap (λ n. cond (p e.0) 1 0 + n) (count_blank es)

module _ {K X : Type 0} (R : K → K → Ordering) where
  below_blank : (k : K) (es : List (K × X)) → below_all R k (blank es) ≡ below_all R k es
  unfolding blank
  below_blank k [] = refl
  below_blank k (e ∷ es) = ap (λ b. is_lt (R k e.0) && b) (below_blank k es)

  sorted_blank : (es : List (K × X)) → is_sorted R (blank es) ≡ is_sorted R es
  unfolding blank
  sorted_blank [] = refl
  sorted_blank (e ∷ es) = ap (λ b. b && is_sorted R (blank es)) (below_blank e.0 es) ∙ ap (λ b. below_all R e.0 es && b) (sorted_blank es)

  find_blank : (q : K) (es : List (K × X)) → find R q (blank es) ≡ bare (find R q es)
  unfolding blank bare
  find_blank q [] = refl
  find_blank q (e ∷ es) = by (eq_by_cmp R q e.0) (find_blank q es)
    where
      by : (b : Bool) → find R q (blank es) ≡ bare (find R q es) → cond b (Some tt) (find R q (blank es)) ≡ bare (cond b (Some e.1) (find R q es))
      by true h = refl
      by false h = h

blanked : {X Y : Type 0} (a : Option X) (b : Option Y) → is_some a ≡ is_some b → bare a ≡ bare b
unfolding bare
blanked None None e = refl
blanked None (Some y) e = cc
blanked (Some x) None e = cc
blanked (Some x) (Some y) e = refl

module _ {K : Type 0} (R : K → K → Ordering) (o : IsTotalOrder R) (exact : IsAntisymmetric R) where
  -- entries with the same keys have as many keys that pass
  count_same_keys : {X Y : Type 0} (p : K → Bool) (es : List (K × X)) (fs : List (K × Y)) → T (is_sorted R es) → T (is_sorted R fs) → ((q : K) → is_some (find R q es) ≡ is_some (find R q fs)) → count_keys p es ≡ count_keys p fs
  count_same_keys p es fs g h same =
      sym (count_blank p es)
      ∙ ap (count_keys p) (same_entries R o exact (blank es) (blank fs) (subst T (sym (sorted_blank R es)) g) (subst T (sym (sorted_blank R fs)) h)
      (λ q. find_blank R q es ∙ blanked (find R q es) (find R q fs) (same q) ∙ sym (find_blank R q fs)))
      ∙ count_blank p fs

  module _ {X : Type 0} where
    less_below : (x y : K) (es : List (K × X)) → R x y ≡ Less → T (below_all R y es) → T (below_all R x es)
    less_below x y [] less h = tt
    less_below x y (e ∷ es) less h =
        both (o.trans x y e.0 less (is_less _ (both_first _ _ h))) (less_below x y es less (both_second _ _ h))
      where
        both : R x e.0 ≡ Less → T (below_all R x es) → T (is_lt (R x e.0) && below_all R x es)
        both l t = rw l t

    not_found_below : (q : K) (es : List (K × X)) → T (below_all R q es) → find R q es ≡ None
    not_found_below q [] h = refl
    not_found_below q (e ∷ es) h = ap (λ r. cond (is_eq r) (Some e.1) (find R q es)) (is_less _ (both_first _ _ h)) ∙ not_found_below q es (both_second _ _ h)

    -- an entry more
    count_put : (p : K → Bool) (k : K) (v : X) (es : List (K × X)) → T (is_sorted R es) → count_keys p (put R k v es) ≡ cond (is_some (find R k es)) (count_keys p es) (cond (p k) 1 0 + count_keys p es)
    count_put p k v [] h = refl
    count_put p k v (e ∷ es) h =
        elim (R k e.0) as (λ r. R k e.0 ≡ r → count_keys p (by_order r ((k, v) ∷ e ∷ es) ((e.0, v) ∷ es) (e ∷ put R k v es)) ≡ cond (is_some (cond (is_eq r) (Some e.1) (find R k es))) (cond (p e.0) 1 0 + count_keys p es) (cond (p k) 1 0 + (cond (p e.0) 1 0 + count_keys p es))) [
          | Less ↦ λ less. let none : find R k es ≡ None = not_found_below k es (less_below k e.0 es less (both_first _ _ h)) in rw none refl
          | Equal ↦ λ tie. refl
          | Greater ↦ λ more. later (is_some (find R k es)) (cond (p k) 1 0) (cond (p e.0) 1 0) (count_keys p es) (count_keys p (put R k v es)) (count_put p k v es (both_second _ _ h))
        ] refl
      where
        later : (b : Bool) (a c n m : ℕ) → m ≡ cond b n (a + n) → c + m ≡ cond b (c + n) (a + (c + n))
        later true a c n m is = ap (λ z. c + z) is
        later false a c n m is = omega arith

module _ {K X : Type 0} {R : K → K → Ordering} (o : IsTotalOrder R) (exact : IsAntisymmetric R) where
  pub count_insert : (p : K → Bool) (m : FinMap R X) (k : K) (v : X) → count_in p (insert m k v) ≡ cond (contains_key m k) (count_in p m) (cond (p k) 1 0 + count_in p m)
  count_insert p m k v =
      ap (count_keys p) (entries-insert o m k v) ∙ count_put R o exact p k v (entries m) (entries_sorted m)
      ∙ ap (λ x. cond (is_some x) (count_in p m) (cond (p k) 1 0 + count_in p m)) (sym (get-entries m k))

  pub count_alike : (p : K → Bool) (m n : FinMap R X) → ((q : K) → contains_key m q ≡ contains_key n q) → count_in p m ≡ count_in p n
  count_alike p m n same =
      count_same_keys R o exact p (entries m) (entries n) (entries_sorted m) (entries_sorted n) (λ q. ap is_some (sym (get-entries m q)) ∙ same q ∙ ap is_some (get-entries n q))

  -- all entries put in
  insert_all : List (K × X) → FinMap R X → FinMap R X
  insert_all [] m = m
  insert_all (e ∷ es) m = insert (insert_all es m) e.0 e.1

  has_all : (es : List (K × X)) (m : FinMap R X) (q : K) → contains_key (insert_all es m) q ≡ (is_some (find R q es) || contains_key m q)
  unfolding insert_all
  has_all [] m q = refl
  has_all (e ∷ es) m q = ap is_some (get-insert o (insert_all es m) e.0 e.1 q) ∙ by (eq_by_cmp R q e.0) (has_all es m q)
    where
      by : (b : Bool) → is_some (get (insert_all es m) q) ≡ (is_some (find R q es) || contains_key m q) → is_some (cond b (Some e.1) (get (insert_all es m) q)) ≡ (is_some (cond b (Some e.1) (find R q es)) || contains_key m q)
      by true h = refl
      by false h = h

  count_all : (p : K → Bool) (es : List (K × X)) (m : FinMap R X) → T (is_sorted R es) → ((q : K) → is_some (find R q es) ≡ true → contains_key m q ≡ false) → count_in p (insert_all es m) ≡ count_keys p es + count_in p m
  unfolding insert_all
  count_all p [] m h apart = none_more (count_in p m)
    where
      none_more : (n : ℕ) → n ≡ 0 + n
      none_more n = omega arith
  count_all p (e ∷ es) m h apart =
      let none : find R e.0 es ≡ None = not_found_below R o exact e.0 es (both_first _ _ h) in
      let first : is_some (find R e.0 (e ∷ es)) ≡ true = ap (λ r. is_some (cond (is_eq r) (Some e.1) (find R e.0 es))) (tied_itself o e.0) in
      let absent : contains_key (insert_all es m) e.0 ≡ false = has_all es m e.0 ∙ ap (λ x. is_some x || contains_key m e.0) none ∙ apart e.0 first in
      let rest : count_in p (insert_all es m) ≡ count_keys p es + count_in p m = count_all p es m (both_second _ _ h) (λ q t. apart q (later q t)) in
      count_insert p (insert_all es m) e.0 e.1 ∙ ap (λ b. cond b (count_in p (insert_all es m)) (cond (p e.0) 1 0 + count_in p (insert_all es m))) absent
      ∙ added (cond (p e.0) 1 0) (count_keys p es) (count_in p m) (count_in p (insert_all es m)) rest
    where
      later : (q : K) → is_some (find R q es) ≡ true → is_some (find R q (e ∷ es)) ≡ true
      later q t = by (eq_by_cmp R q e.0)
        where
          by : (b : Bool) → is_some (cond b (Some e.1) (find R q es)) ≡ true
          by true = refl
          by false = t

      added : (a b c n : ℕ) → n ≡ b + c → a + n ≡ (a + b) + c
      added a b c n is = omega arith

  -- the keys of one map are those of two others that have none in common
  pub count_disjoint : (p : K → Bool) (m a f : FinMap R X) → ((q : K) → contains_key m q ≡ (contains_key f q || contains_key a q)) → ((q : K) → contains_key f q ≡ true → contains_key a q ≡ false) → count_in p m ≡ count_in p f + count_in p a
  count_disjoint p m a f joins apart =
      count_alike p m (insert_all (entries f) a) (λ q. joins q ∙ ap (λ x. is_some x || contains_key a q) (get-entries f q) ∙ sym (has_all (entries f) a q))
      ∙ count_all p (entries f) a (entries_sorted f) (λ q t. apart q (ap is_some (get-entries f q) ∙ t))

-- where keys stand

module _ {K X : Type 0} (R : K → K → Ordering) (o : IsTotalOrder R) (exact : IsAntisymmetric R) where
  -- no key of a list is below one that is below all of them
  none_below : (k : K) (es : List (K × X)) → T (below_all R k es) → count_keys (λ x. is_lt (R x k)) es ≡ 0
  none_below k [] h = refl
  none_below k (e ∷ es) h =
      let up : R e.0 k ≡ Greater = o.antisymm e.0 k ∙ ap ordering_reverse (is_less _ (both_first _ _ h)) in
      ap (λ r. cond (is_lt r) 1 0 + count_keys (λ x. is_lt (R x k)) es) up ∙ zero_and (count_keys (λ x. is_lt (R x k)) es) ∙ none_below k es (both_second _ _ h)
    where
      zero_and : (n : ℕ) → 0 + n ≡ n
      zero_and n = omega arith

  -- a key that is there stands at its rank
  at_rank : (k : K) (v : X) (es : List (K × X)) → T (is_sorted R es) → find R k es ≡ Some v → slice_get es (count_keys (λ x. is_lt (R x k)) es) ≡ Some (k, v)
  at_rank k v [] h is = cc
  at_rank k v (e ∷ es) h is =
      elim (R k e.0) as (λ r. R k e.0 ≡ r → cond (is_eq r) (Some e.1) (find R k es) ≡ Some v → slice_get (e ∷ es) (cond (is_lt (R e.0 k)) 1 0 + count_keys (λ x. is_lt (R x k)) es) ≡ Some (k, v)) [
        | Less ↦ λ t is. let none : find R k es ≡ None = not_found_below R o exact k es (less_below R o exact k e.0 es t (both_first _ _ h)) in cc
        | Equal ↦ λ t is.
            let same : k ≡ e.0 = exact k e.0 t in
            let here : R e.0 k ≡ Equal = tied_back o k e.0 t in
            let none : count_keys (λ x. is_lt (R x k)) es ≡ 0 = none_below k es (subst (λ z. T (below_all R z es)) (sym same) (both_first _ _ h)) in
            let value : e.1 ≡ v = cc in
            ap (λ r. slice_get (e ∷ es) (cond (is_lt r) 1 0 + count_keys (λ x. is_lt (R x k)) es)) here ∙ ap (λ n. slice_get (e ∷ es) (0 + n)) none ∙ (λ i. Some (sym same i, value i))
        | Greater ↦ λ t is.
            let below : R e.0 k ≡ Less = o.antisymm e.0 k ∙ ap ordering_reverse t in
            ap (λ r. slice_get (e ∷ es) (cond (is_lt r) 1 0 + count_keys (λ x. is_lt (R x k)) es)) below ∙ ap (slice_get (e ∷ es)) (one_and (count_keys (λ x. is_lt (R x k)) es)) ∙ at_rank k v es (both_second _ _ h) is
      ] refl is
    where
      one_and : (n : ℕ) → 1 + n ≡ suc n
      one_and n = omega arith

  -- the rank of the key at a place is that place
  rank_at : (es : List (K × X)) (i : ℕ) (e : K × X) → T (is_sorted R es) → slice_get es i ≡ Some e → count_keys (λ x. is_lt (R x e.0)) es ≡ i
  rank_at [] i e h at = cc
  rank_at (x ∷ es) zero e h at =
      let same : x ≡ e = cc in
      let here : R x.0 e.0 ≡ Equal = ap (λ z. R z.0 e.0) same ∙ tied_itself o e.0 in
      ap (λ r. cond (is_lt r) 1 0 + count_keys (λ y. is_lt (R y e.0)) es) here ∙ ap (λ n. 0 + n) (none_below e.0 es (subst (λ z. T (below_all R z.0 es)) same (both_first _ _ h)))
  rank_at (x ∷ es) (suc i) e h at =
      let below : R x.0 e.0 ≡ Less = below_at x.0 es i e (both_first _ _ h) at in
      let rest = rank_at es i e (both_second _ _ h) at in
      ap (λ r. cond (is_lt r) 1 0 + count_keys (λ y. is_lt (R y e.0)) es) below ∙ ap (λ n. 1 + n) rest ∙ one_and i
    where
      one_and : (n : ℕ) → 1 + n ≡ suc n
      one_and n = omega arith

      below_at : (x : K) (es : List (K × X)) (i : ℕ) (e : K × X) → T (below_all R x es) → slice_get es i ≡ Some e → R x e.0 ≡ Less
      below_at x [] i e h at = cc
      below_at x (y ∷ es) zero e h at = let same : y ≡ e = cc in ap (λ z. R x z.0) (sym same) ∙ is_less _ (both_first _ _ h)
      below_at x (y ∷ es) (suc i) e h at = below_at x es i e (both_second _ _ h) at

  -- a higher key has no lower rank
  rank_up : (k l : K) (es : List (K × X)) → R k l ≡ Less → count_keys (λ x. is_lt (R x k)) es ≤ count_keys (λ x. is_lt (R x l)) es
  rank_up k l [] less = omega arith
  rank_up k l (e ∷ es) less =
      let rest = rank_up k l es less in
      elim (R e.0 k) as (λ r. R e.0 k ≡ r → cond (is_lt r) 1 0 + count_keys (λ x. is_lt (R x k)) es ≤ cond (is_lt (R e.0 l)) 1 0 + count_keys (λ x. is_lt (R x l)) es) [
        | Less ↦ λ t. let low : R e.0 l ≡ Less = o.trans e.0 k l t less in rw low (omega arith)
        | Equal ↦ λ t. more (cond (is_lt (R e.0 l)) 1 0) rest
        | Greater ↦ λ t. more (cond (is_lt (R e.0 l)) 1 0) rest
      ] refl
    where
      more : (a : ℕ) → count_keys (λ x. is_lt (R x k)) es ≤ count_keys (λ x. is_lt (R x l)) es → 0 + count_keys (λ x. is_lt (R x k)) es ≤ a + count_keys (λ x. is_lt (R x l)) es
      more a h = omega arith

  -- a key that is there counts for a higher one
  rank_past : (k l : K) (es : List (K × X)) → R k l ≡ Less → is_some (find R k es) ≡ true → count_keys (λ x. is_lt (R x k)) es < count_keys (λ x. is_lt (R x l)) es
  rank_past k l [] less is = cc
  rank_past k l (e ∷ es) less is =
      elim (R k e.0) as (λ r. R k e.0 ≡ r → is_some (cond (is_eq r) (Some e.1) (find R k es)) ≡ true → cond (is_lt (R e.0 k)) 1 0 + count_keys (λ x. is_lt (R x k)) es < cond (is_lt (R e.0 l)) 1 0 + count_keys (λ x. is_lt (R x l)) es) [
        | Less ↦ λ t is. let up : R e.0 k ≡ Greater = o.antisymm e.0 k ∙ ap ordering_reverse t in rw up (more 0 (cond (is_lt (R e.0 l)) 1 0) (rank_past k l es less is) (omega arith))
        | Equal ↦ λ t is.
            let same : R e.0 k ≡ Equal = tied_back o k e.0 t in
            let low : R e.0 l ≡ Less = sym (o.congr k e.0 l t) ∙ less in
            let rest = rank_up k l es less in
            rw (same, low) (omega arith)
        | Greater ↦ λ t is.
            let below : R e.0 k ≡ Less = o.antisymm e.0 k ∙ ap ordering_reverse t in
            let low : R e.0 l ≡ Less = o.trans e.0 k l below less in
            rw (below, low) (more 1 1 (rank_past k l es less is) (omega arith))
      ] refl is
    where
      more : (a b : ℕ) → count_keys (λ x. is_lt (R x k)) es < count_keys (λ x. is_lt (R x l)) es → a ≤ b → a + count_keys (λ x. is_lt (R x k)) es < b + count_keys (λ x. is_lt (R x l)) es
      more a b h le = omega arith

count_within : {K X : Type 0} (p : K → Bool) (es : List (K × X)) → count_keys p es ≤ length es
count_within p [] = omega arith
count_within p (e ∷ es) = by (p e.0) (count_within p es)
  where
    by : (b : Bool) → count_keys p es ≤ length es → cond b 1 0 + count_keys p es ≤ suc (length es)
    by true h = omega arith
    by false h = omega arith

all_pass : {K X : Type 0} (es : List (K × X)) → count_keys (λ (x : K). true) es ≡ length es
all_pass [] = refl
all_pass (e ∷ es) = ap (λ n. 1 + n) (all_pass es) ∙ one_and (length es)
  where
    one_and : (n : ℕ) → 1 + n ≡ suc n
    one_and n = omega arith

module _ {K X : Type 0} {R : K → K → Ordering} where
  pub count_all_keys : (m : FinMap R X) → count_in (λ x. true) m ≡ len m
  count_all_keys m = all_pass (entries m) ∙ sym (len-entries m)

  pub rank_within : (m : FinMap R X) (k : K) → rank m k ≤ len m
  rank_within m k = let a = count_within (λ x. is_lt (R x k)) (entries m) in let b = len-entries m in omega arith

module _ {K X : Type 0} {R : K → K → Ordering} (o : IsTotalOrder R) (exact : IsAntisymmetric R) (m : FinMap R X) where
  pub at_its_rank : (k : K) (v : X) → get m k ≡ Some v → slice_get (entries m) (rank m k) ≡ Some (k, v)
  at_its_rank k v is = at_rank R o exact k v (entries m) (entries_sorted m) (sym (get-entries m k) ∙ is)

  pub its_rank : (i : ℕ) (e : K × X) → slice_get (entries m) i ≡ Some e → rank m e.0 ≡ i
  its_rank i e at = rank_at R o exact (entries m) i e (entries_sorted m) at

  pub rank_rises : (k l : K) → R k l ≡ Less → rank m k ≤ rank m l
  rank_rises k l less = rank_up R o exact k l (entries m) less

  pub rank_before : (k l : K) → R k l ≡ Less → contains_key m k ≡ true → rank m k < rank m l
  rank_before k l less is = rank_past R o exact k l (entries m) less (ap is_some (sym (get-entries m k)) ∙ is)

  entry_found : (es : List (K × X)) (i : ℕ) (e : K × X) → T (is_sorted R es) → slice_get es i ≡ Some e → find R e.0 es ≡ Some e.1
  entry_found [] i e h at = cc
  entry_found (x ∷ es) zero e h at = let same : x ≡ e = cc in ap (λ z. cond (is_eq (R e.0 z.0)) (Some z.1) (find R e.0 es)) same ∙ ap (λ r. cond (is_eq r) (Some e.1) (find R e.0 es)) (tied_itself o e.0)
  entry_found (x ∷ es) (suc i) e h at =
      let less : R x.0 e.0 ≡ Less = below x.0 es i (both_first _ _ h) at in
      let up : R e.0 x.0 ≡ Greater = o.antisymm e.0 x.0 ∙ ap ordering_reverse less in
      ap (λ r. cond (is_eq r) (Some x.1) (find R e.0 es)) up ∙ entry_found es i e (both_second _ _ h) at
    where
      below : (x : K) (es : List (K × X)) (i : ℕ) → T (below_all R x es) → slice_get es i ≡ Some e → R x e.0 ≡ Less
      below x [] i h at = cc
      below x (y ∷ es) zero h at = let same : y ≡ e = cc in ap (λ z. R x z.0) (sym same) ∙ is_less _ (both_first _ _ h)
      below x (y ∷ es) (suc i) h at = below x es i (both_second _ _ h) at

  -- the key of an entry is there, with its row
  pub entry_there : (i : ℕ) (e : K × X) → slice_get (entries m) i ≡ Some e → (contains_key m e.0 ≡ true) × (get m e.0 ≡ Some e.1)
  entry_there i e at =
      let found : get m e.0 ≡ Some e.1 = get-entries m e.0 ∙ entry_found (entries m) i e (entries_sorted m) at in
      (ap is_some found, found)

  -- a key past that of an entry, and one that isn't
  pub past_entry : (i : ℕ) (e : K × X) (k : K) → slice_get (entries m) i ≡ Some e → R e.0 k ≡ Less → i + 1 ≤ rank m k
  past_entry i e k at less = let its = its_rank i e at in let r = rank_before e.0 k less (entry_there i e at).0 in omega arith

  pub up_to_entry : (i : ℕ) (e : K × X) (k : K) → slice_get (entries m) i ≡ Some e → (R e.0 k ≡ Less → ⊥) → rank m k ≤ i
  up_to_entry i e k at never =
      let its = its_rank i e at in
      elim (R e.0 k) as (λ r. R e.0 k ≡ r → rank m k ≤ i) [
        | Less ↦ λ t. absurd (never t)
        | Equal ↦ λ t. let same : rank m e.0 ≡ rank m k = ap (rank m) (exact e.0 k t) in omega arith
        | Greater ↦ λ t. let r = rank_rises k e.0 (o.antisymm k e.0 ∙ ap ordering_reverse t) in omega arith
      ] refl
