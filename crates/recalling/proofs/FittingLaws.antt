-- Whether transactions fit.
use Rattle.std.proofs.Common.{◌≡◌, ◌∙◌, ℕ, Bool, true, false, cond, not, ◌&&◌, ◌||◌, Some, None, is_some, is_none, Option, List, [], ◌∷◌, slice_get, unwrap_or, refl, sym, ap}
use Rattle.std.specs.List.{find, list_any}
use Rattle.std.specs.Ordering.{is_eq, ordering_then}
use Rattle.std.specs.declared.cmp.Ordering.{Ordering}
use Rattle.std.specs.declared.cmp.Ordering.TheVariants.{Less, Equal, Greater}
use Rattle.tier_base.specs.declared.number.TableId.{TableId}
use Rattle.row_types.specs.declared.value.Value.{Value}
use Rattle.row_types.specs.declared.value.Value.TheVariants.{Null}
use Rattle.row_types.specs.Order.{order_of}
use Rattle.indexed_rows.specs.Rows.{changes, is_same, key_of}
use Rattle.cache_tier.specs.Groups.{Group, covers, is_asynchronous, is_synchronous, is_table_of, is_writethrough}
use Rattle.cache_tier.specs.StandingBetween.{HaveOwnTables}

-- ---- the primary key

key_more : (r q : Ordering) (place : ℕ) (o : Option ℕ) → is_none o ≡ is_eq q → is_none (cond (not (is_eq r)) (Some place) o) ≡ is_eq (ordering_then r q)
key_more Less q place o h = refl
key_more Equal q place o h = h
key_more Greater q place o h = refl

pub key_stays : (places : List ℕ) (old new : List Value) → is_none (find (changes old new) places) ≡ is_same (key_of places old) (key_of places new)
key_stays [] old new = refl
key_stays (place ∷ places) old new =
    key_more (order_of (unwrap_or (slice_get old place) Null) (unwrap_or (slice_get new place) Null)) _ place _ (key_stays places old new)

pub none_not : {X : Type 0} (r : Bool) (o : Option X) → is_some o ≡ not r → r ≡ is_none o
none_not true None e = refl
none_not true (Some x) e = cc
none_not false None e = cc
none_not false (Some x) e = refl

-- ---- a table of an asynchronous group

and_false : (b : Bool) → (b && false) ≡ false
and_false true = refl
and_false false = refl

neither : (a b : Bool) → (a || b) ≡ false → (a ≡ false) × (b ≡ false)
neither true b e = cc
neither false b e = (refl, e)

none_of : (p : Group → Bool) (groups : List Group) (t : TableId) → list_any (covers t) groups ≡ false → is_table_of p groups t ≡ false
none_of p [] t none = refl
none_of p (g ∷ groups) t none =
    let both = neither (covers t g) (list_any (covers t) groups) none in
    let rest = none_of p groups t both.1 in
    (λ i. (p g && both.0 i) || rest i) ∙ ap (λ b. b || false) (and_false (p g))

pub one_kind : (groups : List Group) (t : TableId) → HaveOwnTables groups
    → (is_table_of is_writethrough groups t && not (is_table_of is_synchronous groups t)) ≡ is_table_of is_asynchronous groups t
one_kind [] t own = refl
one_kind (g ∷ groups) t own = by (covers t g) refl (one_kind groups t own.1)
  where
    alone : (w s : Bool) → (((w && true) || false) && not ((s && true) || false)) ≡ (((w && not s) && true) || false)
    alone true true = refl
    alone true false = refl
    alone false s = refl

    others : (w s x y z : Bool) → (x && not y) ≡ z → (((w && false) || x) && not ((s && false) || y)) ≡ (((w && not s) && false) || z)
    others true true x y z e = e
    others true false x y z e = e
    others false true x y z e = e
    others false false x y z e = e

    by : (c : Bool) → covers t g ≡ c → (is_table_of is_writethrough groups t && not (is_table_of is_synchronous groups t)) ≡ is_table_of is_asynchronous groups t
        → (is_table_of is_writethrough (g ∷ groups) t && not (is_table_of is_synchronous (g ∷ groups) t)) ≡ is_table_of is_asynchronous (g ∷ groups) t
    by true here more =
        let w = none_of is_writethrough groups t (own.0 t here) in
        let s = none_of is_synchronous groups t (own.0 t here) in
        let a = none_of is_asynchronous groups t (own.0 t here) in
        (λ i. ((is_writethrough g && here i) || w i) && not ((is_synchronous g && here i) || s i)) ∙ alone (is_writethrough g) (is_synchronous g)
        ∙ sym (λ i. ((is_writethrough g && not (is_synchronous g)) && here i) || a i)
    by false here more =
        (λ i. ((is_writethrough g && here i) || is_table_of is_writethrough groups t) && not ((is_synchronous g && here i) || is_table_of is_synchronous groups t))
        ∙ others (is_writethrough g) (is_synchronous g) _ _ _ more ∙ sym (λ i. ((is_writethrough g && not (is_synchronous g)) && here i) || is_table_of is_asynchronous groups t)
