-- The list of a group behind a refresh of its store.
use Rattle.std.proofs.Common.{◌≡◌, Bool, true, false, cond, not, ◌&&◌, ◌||◌, List, [], ◌∷◌, ◌++◌, filter, is_some, refl, sym, ap, subst, ◌∙◌}
use Rattle.std.specs.Bool.{MatchBool}
use Rattle.std.specs.FinMap as fm
use Rattle.std.specs.FinMap.{empty}
use Rattle.std.specs.List.{flat_map}
use Rattle.std.proofs.lemmas.List.{append-nil}
use Rattle.std.proofs.lemmas.List.Folds.{list_any-append}
use Rattle.row_types.specs.Order.{key_order}
use Rattle.row_types.specs.declared.value.Value.{Value}
use Rattle.indexed_rows.specs.Rows.{Table, is_same}
use Rattle.indexed_rows.proofs.EntryLaws.{same_itself, same_values}
use Rattle.instances.specs.Views.{kept_at}
use Rattle.recency.specs.Rings.{keys_without, touched}
use Rattle.group_store.specs.Stores.{HasRootKeys, Kept}
use Rattle.cache_tier.specs.Groups.{Group, has_list, is_key, is_read_only, without_keys}
use Rattle.cache_tier.specs.Standing.{AreDistinct}
use Rattle.cache_tier.proofs.ApartLaws.{with_apart}
use Rattle.cache_tier.proofs.KeyListLaws.{key_left}
use Rattle.stored_tier.specs.Lists.{HasKeysOf, IsListed, is_by_use}
use Rattle.group_engine.specs.Fresh.{keys_touched}

abbrev Row : Type 0
Row = List Value

-- an explicit READONLY group has no list
pub explicit_listed : (g : Group) (s : Kept) (hidden : Table) → g.def.dynamic ≡ false → is_read_only g ≡ true → IsListed g s hidden
explicit_listed g s hidden explicit reads =
    subst (λ d. MatchBool ((d || not (is_read_only g)) && is_by_use g.def.aging) (g.keys ≡ s.keys) (MatchBool d (HasKeysOf g.keys s hidden) (Unit {0}))) (sym explicit)
    (subst (λ r. MatchBool (not r && is_by_use g.def.aging) (g.keys ≡ s.keys) (Unit {0})) (sym reads) tt)

-- keys that are touched one after another

filter_append : (p : Row → Bool) (xs ys : List Row) → filter p (xs ++ ys) ≡ filter p xs ++ filter p ys
filter_append p [] ys = refl
filter_append p (x ∷ xs) ys = by (p x) (filter_append p xs ys)
  where
    by : (b : Bool) → filter p (xs ++ ys) ≡ filter p xs ++ filter p ys → cond b (x ∷ filter p (xs ++ ys)) (filter p (xs ++ ys)) ≡ cond b (x ∷ filter p xs) (filter p xs) ++ filter p ys
    by true e = ap (λ l. x ∷ l) e
    by false e = e

-- the same key
pub turned : (a b : Row) → is_same a b ≡ is_same b a
turned a b = by (is_same a b) refl (is_same b a) refl
  where
    by : (x : Bool) → is_same a b ≡ x → (y : Bool) → is_same b a ≡ y → is_same a b ≡ is_same b a
    by true e true f = e ∙ sym f
    by true e false f = let wrong : true ≡ false = sym (same_itself b a (sym (same_values a b e))) ∙ f in cc
    by false e true f = let wrong : true ≡ false = sym (same_itself a b (sym (same_values b a f))) ∙ e in cc
    by false e false f = e ∙ sym f

-- how often a key stands there stays
same_often : (k q : Row) (keys : List Row) → filter (is_same k) (touched is_same q keys) ≡ filter (is_same k) keys
same_often k q keys = filter_append (is_same k) (keys_without is_same q keys) (filter (is_same q) keys) ∙ by (is_same k q) refl
  where
    by : (b : Bool) → is_same k q ≡ b → filter (is_same k) (keys_without is_same q keys) ++ filter (is_same k) (filter (is_same q) keys) ≡ filter (is_same k) keys
    by true e = let same = same_values k q e in
        ap (λ z. filter (is_same k) (keys_without is_same z keys) ++ filter (is_same k) (filter (is_same z) keys)) (sym same)
        ∙ (λ i. gone keys i ++ twice keys i)
      where
        gone : (l : List Row) → filter (is_same k) (keys_without is_same k l) ≡ []
        gone [] = refl
        gone (y ∷ l) = pick (is_same k y) refl (gone l)
          where
            pick : (c : Bool) → is_same k y ≡ c → filter (is_same k) (keys_without is_same k l) ≡ [] → filter (is_same k) (cond (not c) (y ∷ keys_without is_same k l) (keys_without is_same k l)) ≡ []
            pick true f rest = rest
            pick false f rest = ap (λ c. cond c (y ∷ filter (is_same k) (keys_without is_same k l)) (filter (is_same k) (keys_without is_same k l))) f ∙ rest

        twice : (l : List Row) → filter (is_same k) (filter (is_same k) l) ≡ filter (is_same k) l
        twice [] = refl
        twice (y ∷ l) = pick (is_same k y) refl (twice l)
          where
            pick : (c : Bool) → is_same k y ≡ c → filter (is_same k) (filter (is_same k) l) ≡ filter (is_same k) l → filter (is_same k) (cond c (y ∷ filter (is_same k) l) (filter (is_same k) l)) ≡ cond c (y ∷ filter (is_same k) l) (filter (is_same k) l)
            pick true f rest = ap (λ c. cond c (y ∷ filter (is_same k) (filter (is_same k) l)) (filter (is_same k) (filter (is_same k) l))) f ∙ ap (λ r. y ∷ r) rest
            pick false f rest = rest
    by false e = (λ i. stays keys i ++ none keys i) ∙ append-nil (filter (is_same k) keys)
      where
        apart : (y : Row) → is_same q y ≡ true → is_same k y ≡ false
        apart y f = ap (is_same k) (sym (same_values q y f)) ∙ e

        stays : (l : List Row) → filter (is_same k) (keys_without is_same q l) ≡ filter (is_same k) l
        stays [] = refl
        stays (y ∷ l) = pick (is_same q y) refl (stays l)
          where
            pick : (c : Bool) → is_same q y ≡ c → filter (is_same k) (keys_without is_same q l) ≡ filter (is_same k) l → filter (is_same k) (cond (not c) (y ∷ keys_without is_same q l) (keys_without is_same q l)) ≡ cond (is_same k y) (y ∷ filter (is_same k) l) (filter (is_same k) l)
            pick true f rest = rest ∙ sym (ap (λ c. cond c (y ∷ filter (is_same k) l) (filter (is_same k) l)) (apart y f))
            pick false f rest = ap (λ r. cond (is_same k y) (y ∷ r) r) rest

        none : (l : List Row) → filter (is_same k) (filter (is_same q) l) ≡ []
        none [] = refl
        none (y ∷ l) = pick (is_same q y) refl (none l)
          where
            pick : (c : Bool) → is_same q y ≡ c → filter (is_same k) (filter (is_same q) l) ≡ [] → filter (is_same k) (cond c (y ∷ filter (is_same q) l) (filter (is_same q) l)) ≡ []
            pick true f rest = ap (λ c. cond c (y ∷ filter (is_same k) (filter (is_same q) l)) (filter (is_same k) (filter (is_same q) l))) (apart y f) ∙ rest
            pick false f rest = rest

all_often : (k : Row) (used keys : List Row) → filter (is_same k) (keys_touched used keys) ≡ filter (is_same k) keys
all_often k [] keys = refl
all_often k (q ∷ used) keys = all_often k used (touched is_same q keys) ∙ same_often k q keys

-- keys of the first list that aren't used, and then those that are, in their order
abbrev unused : List Row → List Row → List Row
unused used keys = filter (λ key. not (is_key used key)) keys

abbrev in_turn : List Row → List Row → List Row
in_turn used keys = flat_map (λ q. filter (is_same q) keys) used

touched_split : (used keys : List Row) → AreDistinct used → keys_touched used keys ≡ unused used keys ++ in_turn used keys
touched_split [] keys distinct = sym (append-nil (filter (λ key. true) keys) ∙ all keys)
  where
    all : (l : List Row) → filter (λ key. true) l ≡ l
    all [] = refl
    all (y ∷ l) = ap (λ r. y ∷ r) (all l)
touched_split (q ∷ used) keys distinct =
    touched_split used (touched is_same q keys) distinct.1
    ∙ (λ i. front i ++ behind used distinct.0 i)
    ∙ assoc (unused (q ∷ used) keys) (filter (is_same q) keys) (in_turn used keys)
  where
    assoc : (a b c : List Row) → (a ++ b) ++ c ≡ a ++ (b ++ c)
    assoc [] b c = refl
    assoc (x ∷ a) b c = ap (λ l. x ∷ l) (assoc a b c)

    -- the others keep their places
    behind : (more : List Row) → is_key more q ≡ false → in_turn more (touched is_same q keys) ≡ in_turn more keys
    behind [] apart = refl
    behind (p ∷ more) apart = by (is_same q p) apart (behind more)
      where
        by : (b : Bool) → (b || is_key more q) ≡ false → (is_key more q ≡ false → in_turn more (touched is_same q keys) ≡ in_turn more keys) → filter (is_same p) (touched is_same q keys) ++ in_turn more (touched is_same q keys) ≡ filter (is_same p) keys ++ in_turn more keys
        by true e rest = cc
        by false e rest = let others = rest e in λ i. same_often p q keys i ++ others i

    -- the one that is used comes behind those that aren't
    front : unused used (touched is_same q keys) ≡ unused (q ∷ used) keys ++ filter (is_same q) keys
    front =
        filter_append (λ key. not (is_key used key)) (keys_without is_same q keys) (filter (is_same q) keys)
        ∙ (λ i. fewer keys i ++ kept keys i)
      where
        fewer : (l : List Row) → unused used (keys_without is_same q l) ≡ unused (q ∷ used) l
        fewer [] = refl
        fewer (y ∷ l) = pick (is_same q y) refl (fewer l)
          where
            pick : (c : Bool) → is_same q y ≡ c → unused used (keys_without is_same q l) ≡ unused (q ∷ used) l → unused used (cond (not c) (y ∷ keys_without is_same q l) (keys_without is_same q l)) ≡ cond (not (is_same y q || is_key used y)) (y ∷ unused (q ∷ used) l) (unused (q ∷ used) l)
            pick true f rest = rest ∙ sym (ap (λ c. cond (not (c || is_key used y)) (y ∷ unused (q ∷ used) l) (unused (q ∷ used) l)) (turned y q ∙ f))
            pick false f rest = ap (λ r. cond (not (is_key used y)) (y ∷ r) r) rest ∙ sym (ap (λ c. cond (not (c || is_key used y)) (y ∷ unused (q ∷ used) l) (unused (q ∷ used) l)) (turned y q ∙ f))

        kept : (l : List Row) → unused used (filter (is_same q) l) ≡ filter (is_same q) l
        kept [] = refl
        kept (y ∷ l) = pick (is_same q y) refl (kept l)
          where
            pick : (c : Bool) → is_same q y ≡ c → unused used (filter (is_same q) l) ≡ filter (is_same q) l → unused used (cond c (y ∷ filter (is_same q) l) (filter (is_same q) l)) ≡ cond c (y ∷ filter (is_same q) l) (filter (is_same q) l)
            pick true f rest =
                ap (λ c. cond (not c) (y ∷ unused used (filter (is_same q) l)) (unused used (filter (is_same q) l))) (ap (is_key used) (sym (same_values q y f)) ∙ distinct.0)
                ∙ ap (λ r. y ∷ r) rest
            pick false f rest = rest

-- where all that are there are used, they are in the order of use
module _ (used keys final : List Row) (distinct : AreDistinct used) (is : final ≡ keys_touched used keys) (once : (k : Row) → is_key final k ≡ true → filter (is_same k) final ≡ k ∷ []) (all : (k : Row) → is_key final k ≡ true → is_key used k ≡ true) where
  often : (k : Row) → filter (is_same k) keys ≡ filter (is_same k) final
  often k = sym (ap (filter (is_same k)) is ∙ all_often k used keys)

  any_found : (k : Row) (l : List Row) → filter (is_same k) l ≡ [] → is_key l k ≡ false
  any_found k [] e = refl
  any_found k (y ∷ l) e = by (is_same k y) e (any_found k l)
    where
      by : (b : Bool) → cond b (y ∷ filter (is_same k) l) (filter (is_same k) l) ≡ [] → (filter (is_same k) l ≡ [] → is_key l k ≡ false) → (b || is_key l k) ≡ false
      by true e rest = cc
      by false e rest = rest e

  none_found : (k : Row) (l : List Row) → is_key l k ≡ false → filter (is_same k) l ≡ []
  none_found k [] e = refl
  none_found k (y ∷ l) e = by (is_same k y) e (none_found k l)
    where
      by : (b : Bool) → (b || is_key l k) ≡ false → (is_key l k ≡ false → filter (is_same k) l ≡ []) → cond b (y ∷ filter (is_same k) l) (filter (is_same k) l) ≡ []
      by true e rest = cc
      by false e rest = rest e

  turn : (k : Row) → filter (is_same k) keys ≡ cond (is_key final k) (k ∷ []) []
  turn k = often k ∙ by (is_key final k) refl
    where
      by : (b : Bool) → is_key final k ≡ b → filter (is_same k) final ≡ cond b (k ∷ []) []
      by true e = once k e
      by false e = none_found k final e

  in_order : (l : List Row) → in_turn l keys ≡ filter (is_key final) l
  in_order [] = refl
  in_order (k ∷ l) = (λ i. turn k i ++ in_order l i) ∙ by (is_key final k)
    where
      by : (b : Bool) → cond b (k ∷ []) [] ++ filter (is_key final) l ≡ cond b (k ∷ filter (is_key final) l) (filter (is_key final) l)
      by true = refl
      by false = refl

  -- none is left over
  member : (l : List Row) (k : Row) → is_key (k ∷ l) k ≡ true
  member l k = ap (λ b. b || is_key l k) (same_itself k k refl)

  key_there : (k : Row) → is_key keys k ≡ true → is_key final k ≡ true
  key_there k e = by (is_key final k) refl
    where
      by : (b : Bool) → is_key final k ≡ b → b ≡ true
      by true f = refl
      by false f = let wrong : true ≡ false = sym e ∙ any_found k keys (often k ∙ none_found k final f) in cc

  none_over : (l : List Row) → ((k : Row) → is_key l k ≡ true → is_key keys k ≡ true) → unused used l ≡ []
  none_over [] sub = refl
  none_over (k ∷ l) sub =
      ap (λ b. cond (not b) (k ∷ unused used l) (unused used l)) (all k (key_there k (sub k (member l k))))
      ∙ none_over l (λ q e. sub q (ap (λ b. is_same q k || b) e ∙ or_true (is_same q k)))
    where
      or_true : (b : Bool) → (b || true) ≡ true
      or_true true = refl
      or_true false = refl

  pub in_use_order : final ≡ filter (is_key final) used
  in_use_order =
      is ∙ touched_split used keys distinct
      ∙ ap (λ l. l ++ in_turn used keys) (none_over keys (λ k e. e))
      ∙ in_order used

pub filter_same : (p q : Row → Bool) (xs : List Row) → ((k : Row) → is_key xs k ≡ true → p k ≡ q k) → filter p xs ≡ filter q xs
filter_same p q [] same = refl
filter_same p q (x ∷ xs) same =
    ap (λ b. cond b (x ∷ filter p xs) (filter p xs)) (same x (ap (λ b. b || is_key xs x) (same_itself x x refl)))
    ∙ ap (λ l. cond (q x) (x ∷ l) l) (filter_same p q xs (λ k e. same k (ap (λ b. is_same k x || b) e ∙ or_true (is_same k x))))
  where
    or_true : (b : Bool) → (b || true) ≡ true
    or_true true = refl
    or_true false = refl

pub filter_true : (xs : List Row) → filter (λ key. true) xs ≡ xs
filter_true [] = refl
filter_true (x ∷ xs) = ap (λ l. x ∷ l) (filter_true xs)

filter_all : (p : Row → Bool) (xs : List Row) → ((k : Row) → is_key xs k ≡ true → p k ≡ true) → filter p xs ≡ xs
filter_all p xs all = filter_same p (λ key. true) xs all ∙ filter_true xs

-- keys that a list doesn't have come behind its own

abbrev pub more_keys : List Row → List Row → List Row
more_keys keys [] = keys
more_keys keys (key ∷ more) = keys ++ key ∷ more

pub more_is : (keys more : List Row) → more_keys keys more ≡ keys ++ more
more_is keys [] = sym (append-nil keys)
more_is keys (key ∷ more) = refl

pub key_more : (keys more : List Row) (q : Row) → is_key (more_keys keys more) q ≡ (is_key keys q || is_key more q)
key_more keys more q = ap (λ l. is_key l q) (more_is keys more) ∙ list_any-append (is_same q) keys more

-- keys of which a list has none
pub all_new : (keys more : List Row) → ((q : Row) → is_key more q ≡ true → is_key keys q ≡ false) → without_keys keys more ≡ more
all_new keys more new = filter_all (λ key. not (is_key keys key)) more (λ k e. ap not (new k e))

pub more_apart : (keys more : List Row) → AreDistinct keys → AreDistinct more → ((q : Row) → is_key more q ≡ true → is_key keys q ≡ false) → AreDistinct (keys ++ more)
more_apart keys more distinct apart new = subst (λ l. AreDistinct (keys ++ l)) (all_new keys more new) (with_apart more keys apart distinct)

touched_append : (a b keys : List Row) → keys_touched (a ++ b) keys ≡ keys_touched b (keys_touched a keys)
touched_append [] b keys = refl
touched_append (q ∷ a) b keys = touched_append a b (touched is_same q keys)

-- The list of a group that was made anew: of the keys that it had those that pass, and those that it gains behind them.
-- The store has the root keys of these; where instances leave by last use they were touched in this order.
pub gained_listed : (g : Group) (p : Row → Bool) (keys more : List Row) (old new : Kept) (hidden : Table) (before : List Row) → AreDistinct keys → AreDistinct more → ((q : Row) → is_key more q ≡ true → is_key keys q ≡ false) → ((q : Row) → is_key more q ≡ true → p q ≡ true)
    → g.keys ≡ more_keys (filter p keys) more → hidden ≡ empty → HasRootKeys new → ((q : Row) → fm.contains_key (kept_at new.tables 0) q ≡ ((is_key keys q || is_key more q) && p q))
    → (is_by_use g.def.aging ≡ true → new.keys ≡ keys_touched more (keys_touched old.keys before)) → (is_by_use g.def.aging ≡ true → keys ≡ old.keys) → g.def.dynamic ≡ true → IsListed g new hidden
gained_listed g p keys more old new hidden before distinct apart unheld passing are bare has rows order same dynamic = by (has_list g && is_by_use g.def.aging) refl
  where
    second : (a b : Bool) → (a && b) ≡ true → b ≡ true
    second true b e = e
    second false b e = cc

    first : (a b : Bool) → (a && b) ≡ true → a ≡ true
    first true b e = refl
    first false b e = cc

    or_true : (b : Bool) → (b || true) ≡ true
    or_true true = refl
    or_true false = refl

    new_keys : (q : Row) → is_key new.keys q ≡ ((is_key keys q || is_key more q) && p q)
    new_keys q = has.are q ∙ rows q

    had_key : (k : Row) → is_key keys k ≡ true → is_key new.keys k ≡ p k
    had_key k e = new_keys k ∙ ap (λ b. (b || is_key more k) && p k) e

    gained_key : (k : Row) → is_key more k ≡ true → is_key new.keys k ≡ true
    gained_key k e = new_keys k ∙ ap (λ b. (is_key keys k || b) && p k) e ∙ ap (λ b. b && p k) (or_true (is_key keys k)) ∙ passing k e

    in_order : is_by_use g.def.aging ≡ true → g.keys ≡ new.keys
    in_order leaves =
        are ∙ more_is (filter p keys) more
        ∙ (let front = filter_same p (is_key new.keys) keys (λ k e. sym (had_key k e)) in let behind = sym (filter_all (is_key new.keys) more gained_key) in λ i. front i ++ behind i)
        ∙ sym (filter_append (is_key new.keys) keys more)
        ∙ sym (in_use_order (keys ++ more) before new.keys (more_apart keys more distinct apart unheld)
        (order leaves ∙ ap (λ l. keys_touched more (keys_touched l before)) (sym (same leaves)) ∙ sym (touched_append keys more before))
        (λ k e. has.once k (sym (has.are k) ∙ e))
        (λ k e. list_any-append (is_same k) keys more ∙ first (is_key keys k || is_key more k) (p k) (sym (new_keys k) ∙ e)))

    of_both : HasKeysOf g.keys new hidden
    of_both q =
        ap (λ l. is_key l q) are ∙ key_more (filter p keys) more q ∙ ap (λ b. b || is_key more q) (key_left p keys q)
        ∙ swapped (is_key keys q) (p q) (is_key more q) (passing q) ∙ sym (new_keys q)
        ∙ sym (ap (λ b. is_key new.keys q || b) (ap (λ (t : Table). fm.contains_key t q) bare ∙ ap is_some (fm.get-empty key_order q)) ∙ or_false (is_key new.keys q))
      where
        or_false : (b : Bool) → (b || false) ≡ b
        or_false true = refl
        or_false false = refl

        swapped : (a b m : Bool) → (m ≡ true → b ≡ true) → ((a && b) || m) ≡ ((a || m) && b)
        swapped a b false so = or_false (a && b) ∙ sym (ap (λ c. c && b) (or_false a))
        swapped a b true so = or_true (a && b) ∙ sym (ap (λ c. c && b) (or_true a) ∙ so refl)

    by : (b : Bool) → (has_list g && is_by_use g.def.aging) ≡ b → MatchBool b (g.keys ≡ new.keys) (MatchBool g.def.dynamic (HasKeysOf g.keys new hidden) (Unit {0}))
    by true leaves = in_order (second (has_list g) (is_by_use g.def.aging) leaves)
    by false leaves = subst (λ d. MatchBool d (HasKeysOf g.keys new hidden) (Unit {0})) (sym dynamic) of_both
