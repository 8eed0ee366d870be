-- Laws of what operations change of own rows.
use Rattle.std.proofs.Common.{◌≡◌, Bool, true, false, cond, Option, Some, None, is_some, refl, sym, ap, subst, ◌∙◌}
use Rattle.std.specs.Option.{option_or}
use Rattle.std.specs.Ordering.{eq_by_cmp, is_eq}
use Rattle.std.specs.declared.cmp.Ordering.{Ordering}
use Rattle.std.specs.declared.cmp.Ordering.TheVariants.{Less, Equal, Greater}
use Rattle.std.specs.Cmp.{IsTotalOrder}
use Rattle.std.specs.FinMap.{FinMap, IsAntisymmetric, contains_key, empty, get, get-empty, get-insert, get-remove, insert, remove, same_map}
use Rattle.std.proofs.lemmas.Cmp.{tied_itself}
use Rattle.own_rows.specs.Over.{Lies, over}
use Rattle.own_rows.proofs.OverLaws.{get_over}

module _ {K : Type 0} {R : K → K → Ordering} (o : IsTotalOrder R) (exact : IsAntisymmetric R) where
  -- a key and another one
  by_key : (P : K → Type 0) (k : K) → P k → ((q : K) → eq_by_cmp R q k ≡ false → P q) → (q : K) → P q
  by_key P k here others q =
      elim (R q k) as (λ r. R q k ≡ r → P q) [
        | Less ↦ λ t. others q (ap is_eq t)
        | Equal ↦ λ t. subst P (sym (exact q k t)) here
        | Greater ↦ λ t. others q (ap is_eq t)
      ] refl

  same : (k : K) → eq_by_cmp R k k ≡ true
  same k = ap is_eq (tied_itself o k)

module _ {K X : Type 0} {R : K → K → Ordering} (o : IsTotalOrder R) (exact : IsAntisymmetric R) where
  has_inserted : (m : FinMap R X) (k : K) (v : X) → contains_key (insert m k v) k ≡ true
  has_inserted m k v = ap is_some (get-insert o m k v k ∙ ap (λ b. cond b (Some v) (get m k)) (same o exact k))

  has_insert : (m : FinMap R X) (k : K) (v : X) (q : K) → eq_by_cmp R q k ≡ false → contains_key (insert m k v) q ≡ contains_key m q
  has_insert m k v q other = ap is_some (get-insert o m k v q ∙ ap (λ b. cond b (Some v) (get m q)) other)

  has_removed : (m : FinMap R X) (k : K) → contains_key (remove m k) k ≡ false
  has_removed m k = ap is_some (get-remove o m k k ∙ ap (λ b. cond b None (get m k)) (same o exact k))

  has_remove : (m : FinMap R X) (k : K) (q : K) → eq_by_cmp R q k ≡ false → contains_key (remove m k) q ≡ contains_key m q
  has_remove m k q other = ap is_some (get-remove o m k q ∙ ap (λ b. cond b None (get m q)) other)

  get_inserted : (m : FinMap R X) (k : K) (v : X) → get (insert m k v) k ≡ Some v
  get_inserted m k v = get-insert o m k v k ∙ ap (λ b. cond b (Some v) (get m k)) (same o exact k)

  get_insert : (m : FinMap R X) (k : K) (v : X) (q : K) → eq_by_cmp R q k ≡ false → get (insert m k v) q ≡ get m q
  get_insert m k v q other = get-insert o m k v q ∙ ap (λ b. cond b (Some v) (get m q)) other

  get_removed : (m : FinMap R X) (k : K) → get (remove m k) k ≡ None
  get_removed m k = get-remove o m k k ∙ ap (λ b. cond b None (get m k)) (same o exact k)

  get_remove : (m : FinMap R X) (k : K) (q : K) → eq_by_cmp R q k ≡ false → get (remove m k) q ≡ get m q
  get_remove m k q other = get-remove o m k q ∙ ap (λ b. cond b None (get m q)) other

  -- what is found now
  module _ (live fresh gone base now : FinMap R X) (lies : Lies live fresh gone base now) where
    found : (q : K) → get now q ≡ option_or (get live q) (cond (contains_key gone q) None (get base q))
    found q = ap (λ m. get m q) lies.is ∙ get_over o exact live gone base q

    -- a key that isn't there now
    pub new_key : (k : K) → contains_key now k ≡ false → (contains_key live k ≡ false) × (contains_key fresh k ≡ false) × (contains_key gone k ≡ contains_key base k)
    new_key k none =
        by (get live k) (contains_key fresh k) (contains_key gone k) (get base k) (lies.agrees.fresh_live k) (lies.agrees.gone_there k) (ap is_some (sym (found k)) ∙ none)
      where
        by : (l : Option X) (f g : Bool) (b : Option X) → (f ≡ true → is_some l ≡ true) → (g ≡ true → is_some b ≡ true) → is_some (option_or l (cond g None b)) ≡ false
            → (is_some l ≡ false) × (f ≡ false) × (g ≡ is_some b)
        by (Some x) f g b a c e = cc
        by None true g b a c e = let h = a refl in cc
        by None false true b a c e = (refl, refl, sym (c refl))
        by None false false b a c e = (refl, refl, sym e)

    -- a key that is there now
    pub old_key : (k : K) → contains_key now k ≡ true → (contains_key gone k ≡ false) × (contains_key fresh k ≡ false → contains_key base k ≡ true)
    old_key k here =
        by (get live k) (contains_key fresh k) (contains_key gone k) (get base k) (lies.agrees.gone_left k) (lies.agrees.others_there k) (ap is_some (sym (found k)) ∙ here)
      where
        by : (l : Option X) (f g : Bool) (b : Option X) → (g ≡ true → is_some l ≡ false) → (is_some l ≡ true → f ≡ false → is_some b ≡ true) → is_some (option_or l (cond g None b)) ≡ true
            → (g ≡ false) × (f ≡ false → is_some b ≡ true)
        by (Some x) f true b a c e = let h = a refl in cc
        by (Some x) f false b a c e = (refl, c refl)
        by None f true b a c e = cc
        by None f false b a c e = (refl, λ _. e)

    over_is : (live' gone' now' : FinMap R X) → ((q : K) → get now' q ≡ option_or (get live' q) (cond (contains_key gone' q) None (get base q))) → now' ≡ over live' gone' base
    over_is live' gone' now' h = same_map o exact now' (over live' gone' base) (λ q. h q ∙ sym (get_over o exact live' gone' base q))

    module _ (k : K) (row mark : X) where
      -- a row goes in where its key has none
      module _ (none : contains_key now k ≡ false) where
        -- the key is that of a row that was taken out
        pub back : contains_key gone k ≡ true → Lies (insert live k row) fresh (remove gone k) base (insert now k row)
        back g =
            let key = new_key k none in
            let here : contains_key base k ≡ true = sym key.2 ∙ g in
            let old : contains_key fresh k ≡ false = key.1 in
            record {
              agrees = record {
                fresh_live = by_key o exact (λ q. contains_key fresh q ≡ true → contains_key (insert live k row) q ≡ true) k (λ t. has_inserted live k row) (λ q other t. has_insert live k row q other ∙ lies.agrees.fresh_live q t);
                fresh_new = lies.agrees.fresh_new;
                others_there = by_key o exact (λ q. contains_key (insert live k row) q ≡ true → contains_key fresh q ≡ false → contains_key base q ≡ true) k (λ t f. here) (λ q other t f. lies.agrees.others_there q (sym (has_insert live k row q other) ∙ t) f);
                gone_there = by_key o exact (λ q. contains_key (remove gone k) q ≡ true → contains_key base q ≡ true) k (λ t. here) (λ q other t. lies.agrees.gone_there q (sym (has_remove gone k q other) ∙ t));
                gone_left = by_key o exact (λ q. contains_key (remove gone k) q ≡ true → contains_key (insert live k row) q ≡ false) k (λ t. absurd (clash (sym (has_removed gone k) ∙ t))) (λ q other t. has_insert live k row q other ∙ lies.agrees.gone_left q (sym (has_remove gone k q other) ∙ t));
              };
              is = over_is (insert live k row) (remove gone k) (insert now k row) (by_key o exact (λ q. get (insert now k row) q ≡ option_or (get (insert live k row) q) (cond (contains_key (remove gone k) q) None (get base q))) k
                  (get_inserted now k row ∙ sym (ap (λ x. option_or x (cond (contains_key (remove gone k) k) None (get base k))) (get_inserted live k row)))
                  (λ q other. get_insert now k row q other ∙ found q ∙ sym (ap (λ x. option_or x (cond (contains_key (remove gone k) q) None (get base q))) (get_insert live k row q other) ∙ ap (λ b. option_or (get live q) (cond b None (get base q))) (has_remove gone k q other))));
            }
          where
            clash : false ≡ true → ⊥
            clash e = cc

        -- the key is new
        pub put_new : contains_key gone k ≡ false → Lies (insert live k row) (insert fresh k mark) gone base (insert now k row)
        put_new g =
            let key = new_key k none in
            let nowhere : contains_key base k ≡ false = sym key.2 ∙ g in
            record {
              agrees = record {
                fresh_live = by_key o exact (λ q. contains_key (insert fresh k mark) q ≡ true → contains_key (insert live k row) q ≡ true) k (λ t. has_inserted live k row) (λ q other t. has_insert live k row q other ∙ lies.agrees.fresh_live q (sym (has_insert fresh k mark q other) ∙ t));
                fresh_new = by_key o exact (λ q. contains_key (insert fresh k mark) q ≡ true → contains_key base q ≡ false) k (λ t. nowhere) (λ q other t. lies.agrees.fresh_new q (sym (has_insert fresh k mark q other) ∙ t));
                others_there = by_key o exact (λ q. contains_key (insert live k row) q ≡ true → contains_key (insert fresh k mark) q ≡ false → contains_key base q ≡ true) k (λ t f. absurd (clash (sym f ∙ has_inserted fresh k mark))) (λ q other t f. lies.agrees.others_there q (sym (has_insert live k row q other) ∙ t) (sym (has_insert fresh k mark q other) ∙ f));
                gone_there = lies.agrees.gone_there;
                gone_left = by_key o exact (λ q. contains_key gone q ≡ true → contains_key (insert live k row) q ≡ false) k (λ t. absurd (clash (sym g ∙ t))) (λ q other t. has_insert live k row q other ∙ lies.agrees.gone_left q t);
              };
              is = over_is (insert live k row) gone (insert now k row) (by_key o exact (λ q. get (insert now k row) q ≡ option_or (get (insert live k row) q) (cond (contains_key gone q) None (get base q))) k
                  (get_inserted now k row ∙ sym (ap (λ x. option_or x (cond (contains_key gone k) None (get base k))) (get_inserted live k row)))
                  (λ q other. get_insert now k row q other ∙ found q ∙ sym (ap (λ x. option_or x (cond (contains_key gone q) None (get base q))) (get_insert live k row q other))));
            }
          where
            clash : false ≡ true → ⊥
            clash e = cc

      module _ (some : contains_key now k ≡ true) where
        -- a row gets other values
        pub changed : Lies (insert live k row) fresh gone base (insert now k row)
        changed =
            let key = old_key k some in
            record {
              agrees = record {
                fresh_live = by_key o exact (λ q. contains_key fresh q ≡ true → contains_key (insert live k row) q ≡ true) k (λ t. has_inserted live k row) (λ q other t. has_insert live k row q other ∙ lies.agrees.fresh_live q t);
                fresh_new = lies.agrees.fresh_new;
                others_there = by_key o exact (λ q. contains_key (insert live k row) q ≡ true → contains_key fresh q ≡ false → contains_key base q ≡ true) k (λ t f. key.1 f) (λ q other t f. lies.agrees.others_there q (sym (has_insert live k row q other) ∙ t) f);
                gone_there = lies.agrees.gone_there;
                gone_left = by_key o exact (λ q. contains_key gone q ≡ true → contains_key (insert live k row) q ≡ false) k (λ t. absurd (clash (sym key.0 ∙ t))) (λ q other t. has_insert live k row q other ∙ lies.agrees.gone_left q t);
              };
              is = over_is (insert live k row) gone (insert now k row) (by_key o exact (λ q. get (insert now k row) q ≡ option_or (get (insert live k row) q) (cond (contains_key gone q) None (get base q))) k
                  (get_inserted now k row ∙ sym (ap (λ x. option_or x (cond (contains_key gone k) None (get base k))) (get_inserted live k row)))
                  (λ q other. get_insert now k row q other ∙ found q ∙ sym (ap (λ x. option_or x (cond (contains_key gone q) None (get base q))) (get_insert live k row q other))));
            }
          where
            clash : false ≡ true → ⊥
            clash e = cc

        -- an own row leaves that the table hasn't
        pub dropped : contains_key fresh k ≡ true → Lies (remove live k) (remove fresh k) gone base (remove now k)
        dropped f =
            let key = old_key k some in
            let nowhere : contains_key base k ≡ false = lies.agrees.fresh_new k f in
            record {
              agrees = record {
                fresh_live = by_key o exact (λ q. contains_key (remove fresh k) q ≡ true → contains_key (remove live k) q ≡ true) k (λ t. absurd (clash (sym (has_removed fresh k) ∙ t))) (λ q other t. has_remove live k q other ∙ lies.agrees.fresh_live q (sym (has_remove fresh k q other) ∙ t));
                fresh_new = by_key o exact (λ q. contains_key (remove fresh k) q ≡ true → contains_key base q ≡ false) k (λ t. nowhere) (λ q other t. lies.agrees.fresh_new q (sym (has_remove fresh k q other) ∙ t));
                others_there = by_key o exact (λ q. contains_key (remove live k) q ≡ true → contains_key (remove fresh k) q ≡ false → contains_key base q ≡ true) k (λ t f. absurd (clash (sym (has_removed live k) ∙ t))) (λ q other t f. lies.agrees.others_there q (sym (has_remove live k q other) ∙ t) (sym (has_remove fresh k q other) ∙ f));
                gone_there = lies.agrees.gone_there;
                gone_left = by_key o exact (λ q. contains_key gone q ≡ true → contains_key (remove live k) q ≡ false) k (λ t. has_removed live k) (λ q other t. has_remove live k q other ∙ lies.agrees.gone_left q t);
              };
              is = over_is (remove live k) gone (remove now k) (by_key o exact (λ q. get (remove now k) q ≡ option_or (get (remove live k) q) (cond (contains_key gone q) None (get base q))) k
                  (get_removed now k ∙ sym (ap (λ x. option_or x (cond (contains_key gone k) None (get base k))) (get_removed live k) ∙ ap (λ b. cond b None (get base k)) key.0 ∙ nothing (get base k) nowhere))
                  (λ q other. get_remove now k q other ∙ found q ∙ sym (ap (λ x. option_or x (cond (contains_key gone q) None (get base q))) (get_remove live k q other))));
            }
          where
            clash : false ≡ true → ⊥
            clash e = cc

            nothing : (x : Option X) → is_some x ≡ false → x ≡ None
            nothing None e = refl
            nothing (Some x) e = cc

        -- a row of the table leaves
        pub taken_out : contains_key fresh k ≡ false → Lies (remove live k) fresh (insert gone k mark) base (remove now k)
        taken_out f =
            let key = old_key k some in
            let here : contains_key base k ≡ true = key.1 f in
            record {
              agrees = record {
                fresh_live = by_key o exact (λ q. contains_key fresh q ≡ true → contains_key (remove live k) q ≡ true) k (λ t. absurd (clash (sym f ∙ t))) (λ q other t. has_remove live k q other ∙ lies.agrees.fresh_live q t);
                fresh_new = lies.agrees.fresh_new;
                others_there = by_key o exact (λ q. contains_key (remove live k) q ≡ true → contains_key fresh q ≡ false → contains_key base q ≡ true) k (λ t f. here) (λ q other t f. lies.agrees.others_there q (sym (has_remove live k q other) ∙ t) f);
                gone_there = by_key o exact (λ q. contains_key (insert gone k mark) q ≡ true → contains_key base q ≡ true) k (λ t. here) (λ q other t. lies.agrees.gone_there q (sym (has_insert gone k mark q other) ∙ t));
                gone_left = by_key o exact (λ q. contains_key (insert gone k mark) q ≡ true → contains_key (remove live k) q ≡ false) k (λ t. has_removed live k) (λ q other t. has_remove live k q other ∙ lies.agrees.gone_left q (sym (has_insert gone k mark q other) ∙ t));
              };
              is = over_is (remove live k) (insert gone k mark) (remove now k) (by_key o exact (λ q. get (remove now k) q ≡ option_or (get (remove live k) q) (cond (contains_key (insert gone k mark) q) None (get base q))) k
                  (get_removed now k ∙ sym (ap (λ x. option_or x (cond (contains_key (insert gone k mark) k) None (get base k))) (get_removed live k) ∙ ap (λ b. cond b None (get base k)) (has_inserted gone k mark)))
                  (λ q other. get_remove now k q other ∙ found q ∙ sym (ap (λ x. option_or x (cond (contains_key (insert gone k mark) q) None (get base q))) (get_remove live k q other) ∙ ap (λ b. option_or (get live q) (cond b None (get base q))) (has_insert gone k mark q other))));
            }
          where
            clash : false ≡ true → ⊥
            clash e = cc

  bare_of : (e base : FinMap R X) → ((q : K) → get e q ≡ None) → Lies e e e base base
  bare_of e base none = record {
    agrees = record {
      fresh_live = λ q t. absurd (clash (sym (ap is_some (none q)) ∙ t));
      fresh_new = λ q t. absurd (clash (sym (ap is_some (none q)) ∙ t));
      others_there = λ q t f. absurd (clash (sym (ap is_some (none q)) ∙ t));
      gone_there = λ q t. absurd (clash (sym (ap is_some (none q)) ∙ t));
      gone_left = λ q t. ap is_some (none q);
    };
    is = same_map o exact base (over e e base) (λ q. sym (get_over o exact e e base q ∙ ap (λ x. option_or x (cond (contains_key e q) None (get base q))) (none q) ∙ ap (λ x. cond (is_some x) None (get base q)) (none q)));
  }
    where
      clash : false ≡ true → ⊥
      clash e = cc

  -- without own rows all is as it was
  pub bare : (base : FinMap R X) → Lies empty empty empty base base
  bare base = bare_of empty base (get-empty R)
