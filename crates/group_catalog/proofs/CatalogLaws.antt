-- The catalog as a list of groups.
use Rattle.std.proofs.Common.{◌≡◌, ◌∙◌, ℕ, zero, suc, ◌+◌, ◌<◌, List, [], ◌∷◌, ◌++◌, Option, Bool, true, false, nat_eq, ap, refl, sym, map, get_or, set, take, drop, arith, not, nat_lt, length, position, Some, None, if◌then◌else◌}
use Rattle.std.proofs.lemmas.List.{drop-map, length-map, map-append, take-map}
use Rattle.std.proofs.lemmas.Bool.Decides.{nat_tests}
use Rattle.std.specs.List.{list_any, prefix_len, remove}
use Rattle.cache_tier.specs.Sets.{alone, changed_from}
use Rattle.cache_tier.specs.declared.group.GroupDef.{GroupDef}
use Rattle.cache_tier.specs.Groups.{Group, definitions_of}
use Rattle.group_catalog.specs.declared.kept.KeptGroup.{KeptGroup}
use Rattle.group_catalog.specs.Kept.{group_seen, groups_seen}
use Rattle.group_catalog.proofs.ListLaws.{any_map}

-- a test of the groups
pub any_seen : (p : Group → Bool) (gs lent : List KeptGroup) (r : Bool) → lent ≡ gs
    → r ≡ list_any (λ (g : KeptGroup). p (group_seen g)) lent → r ≡ list_any p (groups_seen gs)
any_seen p gs lent r same is =
    is ∙ ap (λ (xs : List KeptGroup). list_any (λ (g : KeptGroup). p (group_seen g)) xs) same ∙ sym (any_map p group_seen gs)

-- a test of their definitions
pub any_defined : (p : GroupDef → Bool) (gs lent : List KeptGroup) (r : Bool) → lent ≡ gs
    → r ≡ list_any (λ (g : KeptGroup). p g.def) lent → r ≡ list_any p (definitions_of (groups_seen gs))
any_defined p gs lent r same is =
    any_seen (λ (g : Group). p g.def) gs lent r same is ∙ sym (any_map p (λ (g : Group). g.def) (groups_seen gs))

pub prefix_map : {A B : Type 0} (p : B → Bool) (f : A → B) (xs : List A) → prefix_len p (map f xs) ≡ prefix_len (λ x. p (f x)) xs
prefix_map p f [] = refl
prefix_map p f (x ∷ xs) = ap (λ (n : ℕ). if p (f x) then 1 + n else 0) (prefix_map p f xs)

pub position_map : {A B : Type 0} (p : B → Bool) (f : A → B) (xs : List A) → position p (map f xs) ≡ position (λ x. p (f x)) xs
position_map p f xs =
    ap (λ (n : ℕ). if nat_lt n (length (map f xs)) then Some n else None) (prefix_map (λ x. not (p x)) f xs)
    ∙ ap (λ (m : ℕ). if nat_lt (prefix_len (λ x. not (p (f x))) xs) m then Some (prefix_len (λ x. not (p (f x))) xs) else None) (length-map xs f)

-- the place of the first group that passes
pub place_seen : (p : Group → Bool) (gs lent : List KeptGroup) (r : Option ℕ) → lent ≡ gs
    → r ≡ position (λ (g : KeptGroup). p (group_seen g)) lent → r ≡ position p (groups_seen gs)
place_seen p gs lent r same is =
    is ∙ ap (λ (xs : List KeptGroup). position (λ (g : KeptGroup). p (group_seen g)) xs) same ∙ sym (position_map p group_seen gs)

-- without the group at a place
pub seen_without : (gs : List KeptGroup) (i : ℕ) → groups_seen (remove gs i) ≡ remove (groups_seen gs) i
seen_without gs i =
    map-append group_seen (take i gs) (drop (suc i) gs)
    ∙ ap (λ (xs : List Group). xs ++ map group_seen (drop (suc i) gs)) (sym (take-map group_seen i gs))
    ∙ ap (λ (xs : List Group). take i (map group_seen gs) ++ xs) (sym (drop-map group_seen (suc i) gs))

-- groups behind the place stay
changed_past : (f : Group → Group) (i k : ℕ) (gs : List Group) → i < k → changed_from (alone i) f k gs ≡ gs
changed_past f i k [] lt = refl
changed_past f i k (g ∷ gs) lt =
    let no : nat_eq k i ≡ false = grind (arith, nat_tests) in
    let rest : changed_from (alone i) f (suc k) gs ≡ gs = changed_past f i (suc k) gs (omega arith) in
    ap (λ (b : Bool). (if b then f g else g) ∷ changed_from (alone i) f (suc k) gs) no ∙ ap (λ (xs : List Group). g ∷ xs) rest

-- the group at a place is changed
pub changed_one : (f : Group → Group) (gs : List KeptGroup) (i k j : ℕ) (was now : KeptGroup) → i ≡ k + j → j < length gs
    → was ≡ get_or gs j was → group_seen now ≡ f (group_seen was) → groups_seen (set gs j now) ≡ changed_from (alone i) f k (groups_seen gs)
changed_one f [] i k j was now eq lt is seen = absurd (omega arith)
changed_one f (g ∷ gs) i k zero was now eq lt is seen =
    let yes : nat_eq k i ≡ true = grind (arith, nat_tests) in
    let rest : changed_from (alone i) f (suc k) (groups_seen gs) ≡ groups_seen gs = changed_past f i (suc k) (groups_seen gs) (omega arith) in
    ap (λ (x : Group). x ∷ groups_seen gs) (seen ∙ ap (λ (w : KeptGroup). f (group_seen w)) is)
    ∙ ap (λ (xs : List Group). f (group_seen g) ∷ xs) (sym rest)
    ∙ ap (λ (b : Bool). (if b then f (group_seen g) else group_seen g) ∷ changed_from (alone i) f (suc k) (groups_seen gs)) (sym yes)
changed_one f (g ∷ gs) i k (suc j) was now eq lt is seen =
    let no : nat_eq k i ≡ false = grind (arith, nat_tests) in
    let rest : groups_seen (set gs j now) ≡ changed_from (alone i) f (suc k) (groups_seen gs) = changed_one f gs i (suc k) j was now (omega arith) (omega arith) is seen in
    ap (λ (xs : List Group). group_seen g ∷ xs) rest
    ∙ ap (λ (b : Bool). (if b then f (group_seen g) else group_seen g) ∷ changed_from (alone i) f (suc k) (groups_seen gs)) (sym no)
