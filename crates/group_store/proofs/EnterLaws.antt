-- Root keys that operations enter and leave.
use Rattle.std.proofs.Common.{◌≡◌, ℕ, suc, Bool, true, false, not, cond, ◌&&◌, ◌||◌, List, [], ◌∷◌, ◌++◌, filter, fold, nat_eq, Option, Some, None, is_some, refl, sym, ap, subst, ◌∙◌, arith}
use Rattle.std.specs.List.{flat_map}
use Rattle.std.specs.Option.{option_map}
use Rattle.std.specs.List.{position}
use Rattle.std.specs.FinMap as fm
use Rattle.slot_rows.specs.row_types.specs.declared.value.Value.{Value}
use Rattle.slot_rows.specs.row_types.proofs.OrderLaws.{key_total}
use Rattle.slot_rows.specs.tier_base.specs.declared.number.TableId.{TableId}
use Rattle.slot_rows.specs.indexed_rows.specs.Rows.{Table, is_same, key_of}
use Rattle.slot_rows.specs.indexed_rows.proofs.EntryLaws.{same_itself, same_values}
use Rattle.cache_store.specs.table_state.specs.declared.operation.Op.{Op}
use Rattle.cache_store.specs.table_state.specs.declared.operation.Op.TheVariants.{Delete, Insert, Update}
use Rattle.cache_store.specs.instances.specs.Trees.{same_table}
use Rattle.cache_store.specs.instances.specs.Views.{kept_at}
use Rattle.cache_store.specs.recency.specs.Rings.{keys_without}
use Rattle.cache_store.specs.Shown.{is_among}
use Rattle.cache_store.proofs.InsertLaws.{nat_eq_other}
use Rattle.group_store.specs.Entering.{Keys, entered_by, left_by}
use Rattle.group_store.specs.Recent.{entered_last}
use Rattle.group_store.specs.Stores.{Kept, at_place, op_done, ops_done, place_in, put_store, replace_store, take_store}

abbrev Row : Type 0
Row = List Value

-- lists of keys
pub filter_append : (p : Row → Bool) (xs ys : List Row) → filter p (xs ++ ys) ≡ filter p xs ++ filter p ys
filter_append p [] ys = refl
filter_append p (x ∷ xs) ys = by (p x) (filter_append p xs ys)
  where
    by : (b : Bool) → filter p (xs ++ ys) ≡ filter p xs ++ filter p ys → cond b (x ∷ filter p (xs ++ ys)) (filter p (xs ++ ys)) ≡ cond b (x ∷ filter p xs) (filter p xs) ++ filter p ys
    by true e = ap (λ l. x ∷ l) e
    by false e = e

pub filter_twice : (p q : Row → Bool) (xs : List Row) → filter q (filter p xs) ≡ filter (λ x. p x && q x) xs
filter_twice p q [] = refl
filter_twice p q (x ∷ xs) = by (p x) (filter_twice p q xs)
  where
    by : (b : Bool) → filter q (filter p xs) ≡ filter (λ x. p x && q x) xs → filter q (cond b (x ∷ filter p xs) (filter p xs)) ≡ cond (b && q x) (x ∷ filter (λ x. p x && q x) xs) (filter (λ x. p x && q x) xs)
    by true e = ap (λ l. cond (q x) (x ∷ l) l) e
    by false e = e

pub alike : (p q : Row → Bool) (xs : List Row) → ((x : Row) → p x ≡ q x) → filter p xs ≡ filter q xs
alike p q xs h = ap (λ f. filter f xs) (λ i x. h x i)

pub none_left : (xs : List Row) → xs ++ [] ≡ xs
none_left [] = refl
none_left (x ∷ xs) = ap (λ l. x ∷ l) (none_left xs)

pub append_both : (xs ys zs : List Row) → (xs ++ ys) ++ zs ≡ xs ++ (ys ++ zs)
append_both [] ys zs = refl
append_both (x ∷ xs) ys zs = ap (λ l. x ∷ l) (append_both xs ys zs)

pub among_append : (xs ys : List Row) (k : Row) → is_among (xs ++ ys) k ≡ (is_among xs k || is_among ys k)
among_append [] ys k = refl
among_append (x ∷ xs) ys k = ap (λ b. is_same k x || b) (among_append xs ys k) ∙ assoc (is_same k x) (is_among xs k) (is_among ys k)
  where
    assoc : (a b c : Bool) → (a || (b || c)) ≡ ((a || b) || c)
    assoc true b c = refl
    assoc false b c = refl

pub turned : (a b : Row) → is_same a b ≡ is_same b a
turned a b = by (is_same a b) refl (is_same b a) refl
  where
    by : (x : Bool) → is_same a b ≡ x → (y : Bool) → is_same b a ≡ y → is_same a b ≡ is_same b a
    by true e y f = e ∙ sym (same_itself b a (sym (same_values a b e)))
    by false e true f = let z : true ≡ false = sym (same_itself a b (sym (same_values b a f))) ∙ e in cc
    by false e false f = e ∙ sym f

-- what sets have
pub has_more : (roots : Keys) (key k : Row) → fm.contains_key (fm.insert roots key tt) k ≡ (is_same k key || fm.contains_key roots k)
has_more roots key k = ap is_some (fm.get-insert key_total roots key tt k) ∙ by (is_same k key) (fm.get roots k)
  where
    by : (b : Bool) (o : Option (Unit {0})) → is_some (cond b (Some tt) o) ≡ (b || is_some o)
    by true o = refl
    by false o = refl

pub has_less : (roots : Keys) (key k : Row) → fm.contains_key (fm.remove roots key) k ≡ (not (is_same k key) && fm.contains_key roots k)
has_less roots key k = ap is_some (fm.get-remove key_total roots key k) ∙ by (is_same k key) (fm.get roots k)
  where
    by : (b : Bool) (o : Option (Unit {0})) → is_some (cond b None o) ≡ (not b && is_some o)
    by true o = refl
    by false o = refl

-- the keys of a list are as they were but for those that left and those that entered
module _ (old : List Row) where
  abbrev pub Tracks : Keys → List Row → List Row → Type 0
  Tracks roots left keys = filter (λ k. not (fm.contains_key roots k)) keys ≡ filter (λ k. not (is_among left k || fm.contains_key roots k)) old

  -- the same test more on both sides
  tested : (a b r : Row → Bool) (keys : List Row) → filter a keys ≡ filter b old → filter (λ k. a k && r k) keys ≡ filter (λ k. b k && r k) old
  tested a b r keys e = sym (filter_twice a r keys) ∙ ap (filter r) e ∙ filter_twice b r old

  entering : (roots : Keys) (left keys : List Row) (key : Row) → Tracks roots left keys → Tracks (fm.insert roots key tt) left keys
  entering roots left keys key e =
      alike (λ k. not (fm.contains_key (fm.insert roots key tt) k)) (λ k. not (fm.contains_key roots k) && not (is_same k key)) keys (λ k. ap not (has_more roots key k) ∙ one (is_same k key) (fm.contains_key roots k))
      ∙ tested (λ k. not (fm.contains_key roots k)) (λ k. not (is_among left k || fm.contains_key roots k)) (λ k. not (is_same k key)) keys e
      ∙ alike (λ k. not (is_among left k || fm.contains_key roots k) && not (is_same k key)) (λ k. not (is_among left k || fm.contains_key (fm.insert roots key tt) k)) old (λ k. two (is_same k key) (fm.contains_key roots k) (is_among left k) ∙ ap (λ b. not (is_among left k || b)) (sym (has_more roots key k)))
    where
      one : (s c : Bool) → not (s || c) ≡ (not c && not s)
      one true true = refl
      one true false = refl
      one false true = refl
      one false false = refl

      two : (s c l : Bool) → (not (l || c) && not s) ≡ not (l || (s || c))
      two s c true = refl
      two true true false = refl
      two true false false = refl
      two false true false = refl
      two false false false = refl

  entered_behind : (roots : Keys) (left keys : List Row) (key : Row) → Tracks roots left keys → Tracks (fm.insert roots key tt) left (keys ++ key ∷ [])
  entered_behind roots left keys key e =
      filter_append (λ k. not (fm.contains_key (fm.insert roots key tt) k)) keys (key ∷ [])
      ∙ ap (λ b. filter (λ k. not (fm.contains_key (fm.insert roots key tt) k)) keys ++ cond (not b) (key ∷ []) []) (has_more roots key key ∙ ap (λ b. b || fm.contains_key roots key) (same_itself key key refl))
      ∙ none_left (filter (λ k. not (fm.contains_key (fm.insert roots key tt) k)) keys) ∙ entering roots left keys key e

  entered_there : (t : Table) (roots : Keys) (left keys : List Row) (key : Row) → Tracks roots left keys → Tracks (fm.insert roots key tt) left (entered_last t key keys)
  entered_there t roots left keys key e = by (fm.contains_key t key)
    where
      by : (b : Bool) → Tracks (fm.insert roots key tt) left (cond b keys (keys ++ key ∷ []))
      by true = entering roots left keys key e
      by false = entered_behind roots left keys key e

  leaving : (roots : Keys) (left keys : List Row) (key : Row) → Tracks roots left keys → Tracks (fm.remove roots key) (left ++ key ∷ []) (keys_without is_same key keys)
  leaving roots left keys key e =
      filter_twice (λ k. not (is_same key k)) (λ k. not (fm.contains_key (fm.remove roots key) k)) keys
      ∙ alike (λ k. not (is_same key k) && not (fm.contains_key (fm.remove roots key) k)) (λ k. not (fm.contains_key roots k) && not (is_same k key)) keys (λ k. ap (λ b. not b && not (fm.contains_key (fm.remove roots key) k)) (turned key k) ∙ ap (λ b. not (is_same k key) && not b) (has_less roots key k) ∙ one (is_same k key) (fm.contains_key roots k))
      ∙ tested (λ k. not (fm.contains_key roots k)) (λ k. not (is_among left k || fm.contains_key roots k)) (λ k. not (is_same k key)) keys e
      ∙ alike (λ k. not (is_among left k || fm.contains_key roots k) && not (is_same k key)) (λ k. not (is_among (left ++ key ∷ []) k || fm.contains_key (fm.remove roots key) k)) old (λ k. two (is_same k key) (fm.contains_key roots k) (is_among left k) ∙ (λ i. not (sym (among_append left (key ∷ []) k) i || sym (has_less roots key k) i)))
    where
      one : (s c : Bool) → (not s && not (not s && c)) ≡ (not c && not s)
      one true true = refl
      one true false = refl
      one false true = refl
      one false false = refl

      two : (s c l : Bool) → (not (l || c) && not s) ≡ not ((l || (s || false)) || (not s && c))
      two s c true = refl
      two true true false = refl
      two true false false = refl
      two false true false = refl
      two false false false = refl

-- what an operation does to the root keys, and to the root's table
pub at_root : (s : Kept) (t : TableId) → same_table s.table t ≡ true → place_in s t ≡ Some 0
at_root s t e = ap (λ b. cond b (Some 0) (option_map suc (position (λ l. same_table l.table t) s.layers))) e

pub not_first : (i : ℕ) → nat_eq (suc i) 0 ≡ false
not_first i = nat_eq_other (suc i) 0 (λ z. absurd (omega (arith, z)))

-- a store like another in its root's table id and key
pub record Alike (s base : Kept) : Type 0 where
  pub table : s.table ≡ base.table
  pub key : s.key ≡ base.key

pub op_alike : (op : Op) (s base : Kept) → Alike s base → Alike (op_done op s) base
op_alike (Insert t row) s base like = by (place_in s t)
  where
    by : (o : Option ℕ) → Alike (at_place o (λ place. put_store place row) s) base
    by None = like
    by (Some place) = record { table = like.table; key = like.key }
op_alike (Update t old row) s base like = by (place_in s t)
  where
    by : (o : Option ℕ) → Alike (at_place o (λ place. replace_store place row) s) base
    by None = like
    by (Some place) = record { table = like.table; key = like.key }
op_alike (Delete t old) s base like = by (place_in s t)
  where
    by : (o : Option ℕ) → Alike (at_place o (λ place. take_store place old) s) base
    by None = like
    by (Some place) = record { table = like.table; key = like.key }

module _ (s : Kept) (t : TableId) where
  pub elsewhere : same_table s.table t ≡ false → (P : Option ℕ → Type 0) → P None → ((i : ℕ) → P (Some (suc i))) → P (place_in s t)
  elsewhere e P none some = by (position (λ l. same_table l.table t) s.layers) (ap (λ b. cond b (Some 0) (option_map suc (position (λ l. same_table l.table t) s.layers))) e)
    where
      by : (o : Option ℕ) → place_in s t ≡ option_map suc o → P (place_in s t)
      by None e = subst P (sym e) none
      by (Some i) e = subst P (sym e) (some i)

-- the root keys behind an operation
module _ (base s : Kept) (like : Alike s base) (old : List Row) (roots : Keys) (left : List Row) (tracks : Tracks old roots left s.keys) where
  off : (t : TableId) → same_table base.table t ≡ false → same_table s.table t ≡ false
  off t e = ap (λ x. same_table x t) like.table ∙ e

  tracked : (op : Op) → Tracks old (entered_by base op roots) (left ++ left_by base op) (op_done op s).keys
  tracked (Insert t row) = by (same_table base.table t) refl
    where
      same : Tracks old roots (left ++ []) s.keys
      same = subst (λ l. Tracks old roots l s.keys) (sym (none_left left)) tracks

      apart : same_table s.table t ≡ false → (at_place (place_in s t) (λ place. put_store place row) s).keys ≡ s.keys
      apart e = elsewhere s t e (λ o. (at_place o (λ place. put_store place row) s).keys ≡ s.keys) refl (λ i. ap (λ b. cond b (entered_last (kept_at s.tables 0) (key_of s.key row) s.keys) s.keys) (not_first i))

      by : (b : Bool) → same_table base.table t ≡ b → Tracks old (cond b (fm.insert roots (key_of base.key row) tt) roots) (left ++ []) (at_place (place_in s t) (λ place. put_store place row) s).keys
      by true e =
          let here = at_root s t (ap (λ x. same_table x t) like.table ∙ e) in
          subst (λ o. Tracks old (fm.insert roots (key_of base.key row) tt) (left ++ []) (at_place o (λ place. put_store place row) s).keys) (sym here)
          (subst (λ ps. Tracks old (fm.insert roots (key_of ps row) tt) (left ++ []) (entered_last (kept_at s.tables 0) (key_of s.key row) s.keys)) like.key
          (entered_there old (kept_at s.tables 0) roots (left ++ []) s.keys (key_of s.key row) same))
      by false e = subst (Tracks old roots (left ++ [])) (sym (apart (off t e))) same
  tracked (Update t was row) = subst (Tracks old roots (left ++ [])) (sym (by (place_in s t))) (subst (λ l. Tracks old roots l s.keys) (sym (none_left left)) tracks)
    where
      by : (o : Option ℕ) → (at_place o (λ place. replace_store place row) s).keys ≡ s.keys
      by None = refl
      by (Some place) = refl
  tracked (Delete t row) = by (same_table base.table t) refl
    where
      apart : same_table s.table t ≡ false → (at_place (place_in s t) (λ place. take_store place row) s).keys ≡ s.keys
      apart e = elsewhere s t e (λ o. (at_place o (λ place. take_store place row) s).keys ≡ s.keys) refl (λ i. ap (λ b. cond b (keys_without is_same (key_of s.key row) s.keys) s.keys) (not_first i))

      by : (b : Bool) → same_table base.table t ≡ b → Tracks old (cond b (fm.remove roots (key_of base.key row)) roots) (left ++ cond b (key_of base.key row ∷ []) []) (at_place (place_in s t) (λ place. take_store place row) s).keys
      by true e =
          let here = at_root s t (ap (λ x. same_table x t) like.table ∙ e) in
          subst (λ o. Tracks old (fm.remove roots (key_of base.key row)) (left ++ key_of base.key row ∷ []) (at_place o (λ place. take_store place row) s).keys) (sym here)
          (subst (λ ps. Tracks old (fm.remove roots (key_of ps row)) (left ++ key_of ps row ∷ []) (keys_without is_same (key_of s.key row) s.keys)) like.key
          (leaving old roots left s.keys (key_of s.key row) tracks))
      by false e = subst (Tracks old roots (left ++ [])) (sym (apart (off t e))) (subst (λ l. Tracks old roots l s.keys) (sym (none_left left)) tracks)

-- behind all of them
pub all_tracked : (base : Kept) (old : List Row) (ops : List Op) (s : Kept) → Alike s base → (roots : Keys) (left : List Row) → Tracks old roots left s.keys
    → Tracks old (fold (λ roots op. entered_by base op roots) roots ops) (left ++ flat_map (left_by base) ops) (ops_done ops s).keys
all_tracked base old [] s like roots left e = subst (λ l. Tracks old roots l s.keys) (sym (none_left left)) e
all_tracked base old (op ∷ ops) s like roots left e =
    subst (λ l. Tracks old (fold (λ roots op. entered_by base op roots) (entered_by base op roots) ops) l (ops_done ops (op_done op s)).keys) (append_both left (left_by base op) (flat_map (left_by base) ops))
    (all_tracked base old ops (op_done op s) (op_alike op s base like) (entered_by base op roots) (left ++ left_by base op) (tracked base s like old roots left e op))
