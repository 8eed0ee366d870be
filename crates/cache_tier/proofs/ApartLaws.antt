-- What keeps the keys of a list apart.
use Rattle.std.proofs.Common.{◌≡◌, Bool, true, false, T, not, cond, ◌||◌, ◌&&◌, Option, Some, None, List, [], ◌∷◌, ◌++◌, map, refl, ap}
use Rattle.std.specs.FinMap.{FinMap, entries, entries_sorted, keys}
use Rattle.std.specs.FinMap.Entries.{below_all, is_sorted}
use Rattle.std.specs.List.{filter, flat_map}
use Rattle.std.specs.Ordering.{is_eq, is_lt}
use Rattle.std.specs.declared.cmp.Ordering.{Ordering}
use Rattle.std.specs.declared.cmp.Ordering.TheVariants.{Less, Equal, Greater}
use Rattle.row_types.specs.declared.value.Value.{Value}
use Rattle.row_types.specs.Order.{key_order}
use Rattle.indexed_rows.specs.Rows.{is_same}
use Rattle.indexed_rows.proofs.EntryLaws.{same_itself}
use Rattle.cache_tier.specs.Aging.{aged_rule, expired, with_horizon}
use Rattle.cache_tier.specs.Distinct.{AgingKeepsApart, CommitKeepsApart, LoadKeepsApart, RefreshKeepsApart, UnloadKeepsApart, UseKeepsApart}
use Rattle.cache_tier.specs.declared.group.AgingRule.{AgingRule}
use Rattle.cache_tier.specs.declared.group.AgingRule.TheVariants.{ByTime, LastUse}
use Rattle.cache_tier.specs.Groups.{Group, is_key, is_read_only, is_writethrough, with_keys, without_keys}
use Rattle.cache_tier.specs.Recency.{entered, left_by, with_entered}
use Rattle.cache_tier.specs.Standing.{AreDistinct}
use Rattle.cache_tier.proofs.KeyLaws.{gone}

abbrev Keys : Type 0
Keys = List (List Value)

or_false : (a b : Bool) → (a || b) ≡ false → (a ≡ false) × (b ≡ false)
or_false false b e = (refl, e)
or_false true b e = cc

or_both : (a b : Bool) → a ≡ false → b ≡ false → (a || b) ≡ false
or_both false b p q = q
or_both true b p q = cc

or_second : (a b : Bool) → b ≡ true → (a || b) ≡ true
or_second true b e = refl
or_second false b e = e

absent_step : (key k : List Value) (new : Keys) → is_same key k ≡ false → is_key new key ≡ false → (b : Bool) → is_key (cond b (k ∷ new) new) key ≡ false
absent_step key k new e rest true = or_both (is_same key k) (is_key new key) e rest
absent_step key k new e rest false = rest

absent : (p : List Value → Bool) (key : List Value) (old : Keys) → is_key old key ≡ false → is_key (filter p old) key ≡ false
absent p key [] e = e
absent p key (k ∷ old) e =
    let two = or_false (is_same key k) (is_key old key) e in
    absent_step key k (filter p old) two.0 (absent p key old two.1) (p k)

apart_step : (k : List Value) (new : Keys) → is_key new k ≡ false → AreDistinct new → (b : Bool) → AreDistinct (cond b (k ∷ new) new)
apart_step k new e d true = (e, d)
apart_step k new e d false = d

filtered : (p : List Value → Bool) (old : Keys) → AreDistinct old → AreDistinct (filter p old)
filtered p [] d = d
filtered p (k ∷ old) d = apart_step k (filter p old) (absent p k old d.0) (filtered p old d.1) (p k)

-- no key of the one list is in the other
abbrev Apart : Keys → Keys → Type 0
Apart [] new = Unit {0}
Apart (k ∷ old) new = (is_key new k ≡ false) × Apart old new

absent_both : (key : List Value) (old new : Keys) → is_key old key ≡ false → is_key new key ≡ false → is_key (old ++ new) key ≡ false
absent_both key [] new p q = q
absent_both key (k ∷ old) new p q = let two = or_false (is_same key k) (is_key old key) p in or_both (is_same key k) (is_key (old ++ new) key) two.0 (absent_both key old new two.1 q)

joined : (old new : Keys) → AreDistinct old → AreDistinct new → Apart old new → AreDistinct (old ++ new)
joined [] new d e a = e
joined (k ∷ old) new d e a = (absent_both k old new d.0 a.0, joined old new d.1 e a.1)

without_step : (taken new : Keys) (k : List Value) → Apart new taken → (b : Bool) → is_key taken k ≡ b → Apart (cond (not b) (k ∷ new) new) taken
without_step taken new k rest true e = rest
without_step taken new k rest false e = (e, rest)

without_apart : (taken old : Keys) → Apart (without_keys taken old) taken
without_apart taken [] = tt
without_apart taken (k ∷ old) = without_step taken (without_keys taken old) k (without_apart taken old) (is_key taken k) refl

absent_behind : (key : List Value) (left new : Keys) → is_key (left ++ new) key ≡ false → is_key new key ≡ false
absent_behind key [] new e = e
absent_behind key (k ∷ left) new e = absent_behind key left new (or_false (is_same key k) (is_key (left ++ new) key) e).1

apart_behind : (old left new : Keys) → Apart old (left ++ new) → Apart old new
apart_behind [] left new a = tt
apart_behind (k ∷ old) left new a = (absent_behind k left new a.0, apart_behind old left new a.1)

apart_without : (old all new : Keys) → ((k : List Value) → is_key old k ≡ true → is_key all k ≡ true) → Apart old (without_keys all new)
apart_without [] all new sub = tt
apart_without (k ∷ old) all new sub =
    (gone all new k (sub k (ap (λ b. b || is_key old k) (same_itself k k refl))), apart_without old all new (λ x e. sub x (or_second (is_same x k) (is_key old x) e)))

both_first : (a b : Bool) → T (a && b) → T a
both_first true b p = tt
both_first false b p = p

both_second : (a b : Bool) → T (a && b) → T b
both_second true b p = p
both_second false b p = absurd p

less : (r : Ordering) → T (is_lt r) → is_eq r ≡ false
less Less p = refl
less Equal p = absurd p
less Greater p = refl

above : {X : Type 0} → (key : List Value) (es : List (List Value × X)) → T (below_all key_order key es) → is_key (map (λ e. e.0) es) key ≡ false
above key [] h = refl
above key (e ∷ es) h = or_both _ _ (less (key_order key e.0) (both_first _ _ h)) (above key es (both_second _ _ h))

rising : {X : Type 0} → (es : List (List Value × X)) → T (is_sorted key_order es) → AreDistinct (map (λ e. e.0) es)
rising [] h = tt
rising (e ∷ es) h = (above e.0 es (both_first _ _ h), rising es (both_second _ _ h))

map_keys : {X : Type 0} → (m : FinMap key_order X) → AreDistinct (keys m)
map_keys m = rising (entries m) (entries_sorted m)

-- new keys that are apart come behind the others
pub with_apart : (new old : Keys) → AreDistinct new → AreDistinct old → AreDistinct (with_keys new old)
with_apart new old n d = joined old (without_keys old new) d (filtered _ new n) (apart_without old old new (λ k e. e))

pub load : LoadKeepsApart
load rows old d = with_apart (keys rows) old (map_keys rows) d

pub use_one : UseKeepsApart
use_one key old d = by (is_key old key)
  where
    by : (b : Bool) → AreDistinct (cond b (without_keys (key ∷ []) old ++ key ∷ []) old)
    by true = joined (without_keys (key ∷ []) old) (key ∷ []) (filtered _ old d) (refl, tt) (without_apart (key ∷ []) old)
    by false = d

pub unload : UnloadKeepsApart
unload taken old d = filtered _ old d

pub refresh : RefreshKeepsApart
refresh n s g d = filtered _ g.keys d

pub commit : CommitKeepsApart
commit s ops g d = by (is_writethrough g)
  where
    new : Keys
    new = keys (entered s g ops)

    left : Keys
    left = flat_map (left_by s g) ops

    by : (b : Bool) → AreDistinct (cond b (record g { keys = with_entered new left g.keys }) g).keys
    by true = joined (without_keys (left ++ new) g.keys) new (filtered _ g.keys d) (map_keys (entered s g ops)) (apart_behind (without_keys (left ++ new) g.keys) left new (without_apart (left ++ new) g.keys))
    by false = d

pub age : AgingKeepsApart
age history t g d = by g.def.aging
  where
    timed : (x : Group) (b : Bool) → AreDistinct x.keys → AreDistinct (cond b x (record x { keys = without_keys (expired history t x) x.keys })).keys
    timed x true e = e
    timed x false e = filtered _ x.keys e

    by : (o : Option AgingRule) → AreDistinct (aged_rule history t o g).keys
    by None = d
    by (Some LastUse) = filtered _ g.keys d
    by (Some (ByTime rule)) = timed (with_horizon t.now rule g) (is_read_only (with_horizon t.now rule g)) d
