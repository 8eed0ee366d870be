-- The lists of keys behind uses.
use Rattle.std.proofs.Common.{◌≡◌, ℕ, zero, suc, Bool, true, false, not, ◌&&◌, ◌||◌, Option, Some, None, List, [], ◌∷◌, filter, map, refl, sym, ap, subst, ◌∙◌}
use Rattle.std.specs.Bool.{MatchBool}
use Rattle.row_types.specs.declared.value.Value.{Value}
use Rattle.indexed_rows.specs.Rows.{Table, is_same}
use Rattle.recency.specs.Rings.{keys_without, touched}
use Rattle.slot_rows.specs.SlotKeys.{RowsHeld}
use Rattle.group_store.specs.Stores.{Kept, touched_store}
use Rattle.cache_tier.specs.declared.group.AgingRule.{AgingRule}
use Rattle.cache_tier.specs.declared.group.AgingRule.TheVariants.{ByTime, LastUse}
use Rattle.cache_tier.specs.Groups.{Group, has_list, is_key, used}
use Rattle.cache_tier.specs.Standing.{AreDistinct}
use Rattle.cache_tier.specs.StandingBetween.{Each}
use Rattle.cache_tier.proofs.KeyListLaws.{key_append, key_left, key_used}
use Rattle.statement_uses.specs.Touching.{roomless, roomless_all, touched_by, touched_stores}
use Rattle.statement_uses.specs.Uses.{HaveUses, keeps_order, leaves_by_use, used_all}
use Rattle.statement_uses.proofs.TouchLaws.{touches_used}
use Rattle.statement_uses.proofs.UseLaws.{with_used}
use Rattle.session_engine.specs.Using.{Uses}
use Rattle.stored_tier.specs.Lists.{AreListed, HasKeysOf, IsListed, is_by_use}
use Rattle.stored_tier.specs.Stored.{without_list}

abbrev Row : Type 0
Row = List Value

-- which keys there are stays

pub used_any : (roots keys : List Row) (k : Row) → is_key (used_all roots keys) k ≡ is_key keys k
used_any [] keys k = refl
used_any (root ∷ roots) keys k = used_any roots (used root keys) k ∙ key_used root keys k

one_touch : (key : Row) (keys : List Row) (k : Row) → is_key (touched is_same key keys) k ≡ is_key keys k
one_touch key keys k =
    key_append (keys_without is_same key keys) (filter (is_same key) keys) k
    ∙ ap (λ b. b || is_key (filter (is_same key) keys) k) (key_left (λ o. not (is_same key o)) keys k)
    ∙ ap (λ b. (is_key keys k && not (is_same key k)) || b) (key_left (is_same key) keys k)
    ∙ by (is_key keys k) (is_same key k)
  where
    by : (a b : Bool) → ((a && not b) || (a && b)) ≡ a
    by true true = refl
    by true false = refl
    by false b = refl

pub touched_any : (roots : List Row) (s : Kept) (k : Row) → is_key (touched_by roots s).keys k ≡ is_key s.keys k
touched_any [] s k = refl
touched_any (root ∷ roots) s k = touched_any roots (touched_store root s) k ∙ one_touch root s.keys k

-- the same words
pub by_use : (o : Option AgingRule) → is_by_use o ≡ leaves_by_use o
by_use None = refl
by_use (Some LastUse) = refl
by_use (Some (ByTime rule)) = refl

-- of one group
one_listed : (g : Group) (s n : Kept) (hidden : Table) (roots own : List Row) → roomless n ≡ touched_by own (roomless s) → (keeps_order g ≡ true → own ≡ roots) → AreDistinct g.keys → IsListed g s hidden → IsListed (with_used roots g) n hidden
one_listed g s n hidden roots own is same apart listed = by (has_list g && is_by_use g.def.aging) refl listed
  where
    keys_then : n.keys ≡ (touched_by own (roomless s)).keys
    keys_then = ap (λ (k : Kept). k.keys) is

    unordered : (d : Bool) → MatchBool d (HasKeysOf g.keys s hidden) (Unit {0}) → MatchBool d (HasKeysOf (used_all roots g.keys) n hidden) (Unit {0})
    unordered true has = λ key.
        used_any roots g.keys key ∙ has key
        ∙ ap (λ b. b || Rattle.std.specs.FinMap.contains_key hidden key) (sym (ap (λ keys. is_key keys key) keys_then ∙ touched_any own (roomless s) key))
    unordered false has = tt

    by : (b : Bool) → (has_list g && is_by_use g.def.aging) ≡ b → MatchBool b (g.keys ≡ s.keys) (MatchBool g.def.dynamic (HasKeysOf g.keys s hidden) (Unit {0}))
        → MatchBool b (used_all roots g.keys ≡ n.keys) (MatchBool g.def.dynamic (HasKeysOf (used_all roots g.keys) n hidden) (Unit {0}))
    by true on is_it =
        let its : own ≡ roots = same (ap (λ b. has_list g && b) (sym (by_use g.def.aging)) ∙ on) in
        ap (used_all roots) is_it ∙ ap (λ l. used_all l s.keys) (sym its) ∙ sym (keys_then ∙ touches_used own (roomless s) (subst AreDistinct is_it apart))
    by false off has = unordered g.def.dynamic has

heads : (a b : Kept) (more rest : List Kept) → a ∷ more ≡ b ∷ rest → (a ≡ b) × (more ≡ rest)
heads a b more rest e = (cc, cc)

-- of all groups
pub lists_touched : (f : Group → Group) (roots : Group → List Row) → ((g : Group) → f g ≡ with_used (roots g) g) → ((g : Group) → roots (without_list g) ≡ roots g)
    → (groups : List Group) (olds news : List Kept) (hidden : List RowsHeld) (uses : Uses) → roomless_all news ≡ touched_stores uses (roomless_all olds) → HaveUses (map without_list groups) roots uses → Each (λ (g : Group). AreDistinct g.keys) groups
    → AreListed groups olds hidden → AreListed (map f groups) news hidden
lists_touched f roots does bare [] olds news hidden uses is have apart listed = tt
lists_touched f roots does bare (g ∷ groups) [] news hidden uses is have apart listed = absurd listed
lists_touched f roots does bare (g ∷ groups) (s ∷ olds) news [] uses is have apart listed = absurd listed
lists_touched f roots does bare (g ∷ groups) (s ∷ olds) [] (h ∷ hidden) [] is have apart listed = cc
lists_touched f roots does bare (g ∷ groups) (s ∷ olds) [] (h ∷ hidden) (own ∷ uses) is have apart listed = cc
lists_touched f roots does bare (g ∷ groups) (s ∷ olds) (n ∷ news) (h ∷ hidden) [] is have apart listed =
    let both = heads (roomless n) (roomless s) (roomless_all news) (roomless_all olds) is in (
      subst (λ x. IsListed x n h.table) (sym (does g)) (one_listed g s n h.table (roots g) [] both.0 (λ keeps. have 0 (without_list g) refl keeps ∙ bare g) apart.0 listed.0),
      lists_touched f roots does bare groups olds news hidden [] both.1 (λ place x at keeps. none place (have (suc place) x at keeps)) apart.1 listed.1,
    )
  where
    none : (place : ℕ) {xs : List Row} → Rattle.statement_uses.specs.Uses.keys_at [] (suc place) ≡ xs → Rattle.statement_uses.specs.Uses.keys_at [] place ≡ xs
    none zero e = e
    none (suc place) e = e
lists_touched f roots does bare (g ∷ groups) (s ∷ olds) (n ∷ news) (h ∷ hidden) (own ∷ uses) is have apart listed =
    let both = heads (roomless n) (touched_by own (roomless s)) (roomless_all news) (touched_stores uses (roomless_all olds)) is in (
      subst (λ x. IsListed x n h.table) (sym (does g)) (one_listed g s n h.table (roots g) own both.0 (λ keeps. have 0 (without_list g) refl keeps ∙ bare g) apart.0 listed.0),
      lists_touched f roots does bare groups olds news hidden uses both.1 (λ place x at keeps. have (suc place) x at keeps) apart.1 listed.1,
    )

-- room plays no part

pub same_list : (g : Group) (s n : Kept) (hidden : Table) → n.keys ≡ s.keys → IsListed g s hidden → IsListed g n hidden
same_list g s n hidden same listed =
    subst (λ keys. MatchBool (has_list g && is_by_use g.def.aging) (g.keys ≡ keys) (MatchBool g.def.dynamic ((key : Row) → is_key g.keys key ≡ (is_key keys key || Rattle.std.specs.FinMap.contains_key hidden key)) (Unit {0}))) (sym same)
    listed

pub lists_roomed : (groups : List Group) (olds news : List Kept) (hidden : List RowsHeld) → roomless_all news ≡ roomless_all olds → AreListed groups olds hidden → AreListed groups news hidden
lists_roomed [] olds news hidden is listed = tt
lists_roomed (g ∷ groups) [] news hidden is listed = absurd listed
lists_roomed (g ∷ groups) (s ∷ olds) news [] is listed = absurd listed
lists_roomed (g ∷ groups) (s ∷ olds) [] (h ∷ hidden) is listed = cc
lists_roomed (g ∷ groups) (s ∷ olds) (n ∷ news) (h ∷ hidden) is listed =
    let both = heads (roomless n) (roomless s) (roomless_all news) (roomless_all olds) is in
    (same_list g s n h.table (ap (λ (k : Kept). k.keys) both.0) listed.0, lists_roomed groups olds news hidden both.1 listed.1)
