-- Laws of own rows over a table.
use Rattle.std.proofs.Common.{◌≡◌, ◌+◌, Bool, true, false, cond, not, ◌&&◌, ◌||◌, Option, Some, None, is_some, List, [], ◌∷◌, refl, sym, ap, ◌∙◌, arith}
use Rattle.std.specs.Option.{option_or}
use Rattle.std.specs.List.{list_any}
use Rattle.std.specs.Ordering.{eq_by_cmp, is_lt}
use Rattle.std.specs.declared.cmp.Ordering.{Ordering}
use Rattle.std.specs.Cmp.{IsTotalOrder}
use Rattle.std.specs.FinMap.{FinMap, IsAntisymmetric, contains_key, contains_key-keys, entries, find, get, get-entries, get-insert, get-remove, keys, len}
use Rattle.own_rows.specs.Ranks.{count_in, rank}
use Rattle.own_rows.specs.Over.{Agrees, kept, over, put_all, without_all}
use Rattle.own_rows.proofs.RankLaws.{count_disjoint, count_all_keys}

module _ {K X : Type 0} {R : K → K → Ordering} (o : IsTotalOrder R) (exact : IsAntisymmetric R) where
  get_put_all : (es : List (K × X)) (m : FinMap R X) (q : K) → get (put_all es m) q ≡ option_or (find R q es) (get m q)
  get_put_all [] m q = refl
  get_put_all (e ∷ es) m q = get-insert o (put_all es m) e.0 e.1 q ∙ by (eq_by_cmp R q e.0) (get_put_all es m q)
    where
      by : (b : Bool) → get (put_all es m) q ≡ option_or (find R q es) (get m q) → cond b (Some e.1) (get (put_all es m) q) ≡ option_or (cond b (Some e.1) (find R q es)) (get m q)
      by true h = refl
      by false h = h

  get_without_all : (ks : List K) (m : FinMap R X) (q : K) → get (without_all ks m) q ≡ cond (list_any (eq_by_cmp R q) ks) None (get m q)
  get_without_all [] m q = refl
  get_without_all (k ∷ ks) m q = get-remove o (without_all ks m) k q ∙ by (eq_by_cmp R q k) (list_any (eq_by_cmp R q) ks) (get_without_all ks m q)
    where
      by : (b c : Bool) → get (without_all ks m) q ≡ cond c None (get m q) → cond b None (get (without_all ks m) q) ≡ cond (b || c) None (get m q)
      by true c h = refl
      by false c h = h

  module _ (live gone base : FinMap R X) where
    get_kept : (q : K) → get (without_all (keys gone) base) q ≡ cond (contains_key gone q) None (get base q)
    get_kept q = get_without_all (keys gone) base q ∙ ap (λ b. cond b None (get base q)) (sym (contains_key-keys gone q))

    -- what is found of a key
    pub get_over : (q : K) → get (over live gone base) q ≡ option_or (get live q) (cond (contains_key gone q) None (get base q))
    get_over q = get_put_all (entries live) (without_all (keys gone) base) q ∙ ap (λ x. option_or x (get (without_all (keys gone) base) q)) (sym (get-entries live q)) ∙ ap (option_or (get live q)) (get_kept q)

  module _ (live fresh gone base : FinMap R X) (agrees : Agrees live fresh gone base) where
    has_kept : (q : K) → contains_key (kept gone base) q ≡ (not (contains_key gone q) && contains_key base q)
    has_kept q = ap is_some (get_kept live gone base q) ∙ by (contains_key gone q) (get base q)
      where
        by : (b : Bool) (x : Option X) → is_some (cond b None x) ≡ (not b && is_some x)
        by true x = refl
        by false x = refl

    pub has_over : (q : K) → contains_key (over live gone base) q ≡ (contains_key fresh q || contains_key (kept gone base) q)
    has_over q =
        ap is_some (get_over live gone base q)
        ∙ by (get live q) (contains_key fresh q) (contains_key gone q) (get base q) (agrees.fresh_live q) (agrees.others_there q) (agrees.gone_left q)
        ∙ ap (λ b. contains_key fresh q || b) (sym (has_kept q))
      where
        by : (l : Option X) (f g : Bool) (b : Option X) → (f ≡ true → is_some l ≡ true) → (is_some l ≡ true → f ≡ false → is_some b ≡ true) → (g ≡ true → is_some l ≡ false)
            → is_some (option_or l (cond g None b)) ≡ (f || (not g && is_some b))
        by None true g b a c d = absurd (wrong (a refl))
          where
            wrong : false ≡ true → ⊥
            wrong e = cc
        by None false true b a c d = refl
        by None false false b a c d = refl
        by (Some x) true g b a c d = refl
        by (Some x) false true b a c d = let e = d refl in cc
        by (Some x) false false b a c d = sym (c refl refl)

    apart : (q : K) → contains_key fresh q ≡ true → contains_key (kept gone base) q ≡ false
    apart q f = has_kept q ∙ ap (λ b. not (contains_key gone q) && b) (agrees.fresh_new q f) ∙ by (contains_key gone q)
      where
        by : (b : Bool) → (not b && false) ≡ false
        by true = refl
        by false = refl

    gone_apart : (q : K) → contains_key gone q ≡ true → contains_key (kept gone base) q ≡ false
    gone_apart q g = has_kept q ∙ ap (λ b. not b && contains_key base q) g

    pub has_base : (q : K) → contains_key base q ≡ (contains_key gone q || contains_key (kept gone base) q)
    has_base q = by (contains_key gone q) (contains_key base q) (agrees.gone_there q) ∙ ap (λ b. contains_key gone q || b) (sym (has_kept q))
      where
        by : (g b : Bool) → (g ≡ true → b ≡ true) → b ≡ (g || (not g && b))
        by true b h = h refl
        by false b h = refl

    pub counted_over : (p : K → Bool) → count_in p (over live gone base) ≡ count_in p fresh + count_in p (kept gone base)
    counted_over p = count_disjoint o exact p (over live gone base) (kept gone base) fresh has_over apart

    pub counted_base : (p : K → Bool) → count_in p base ≡ count_in p gone + count_in p (kept gone base)
    counted_base p = count_disjoint o exact p base (kept gone base) gone has_base gone_apart

    pub rank_sum : (k : K) → rank (over live gone base) k + rank gone k ≡ rank base k + rank fresh k
    rank_sum k = let a = counted_over (λ x. is_lt (R x k)) in let b = counted_base (λ x. is_lt (R x k)) in omega arith

    pub len_sum : len (over live gone base) + len gone ≡ len base + len fresh
    len_sum =
        let a = counted_over (λ x. true) in
        let b = counted_base (λ x. true) in
        omega (arith, count_all_keys (over live gone base), count_all_keys gone, count_all_keys base, count_all_keys fresh)

    pub rank_base_sum : (k : K) → rank base k ≡ rank gone k + rank (kept gone base) k
    rank_base_sum k = counted_base (λ x. is_lt (R x k))

    pub len_base_sum : len base ≡ len gone + len (kept gone base)
    len_base_sum = let b = counted_base (λ x. true) in omega (arith, count_all_keys base, count_all_keys gone, count_all_keys (kept gone base))
