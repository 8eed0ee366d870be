-- What is stored where a group goes with its store, and what is shown then.
use Rattle.std.proofs.Common.{◌≡◌, ◌≢◌, ℕ, zero, suc, ◌<◌, ◌≤◌, Bool, true, false, cond, not, ◌&&◌, ◌||◌, Some, is_some, List, [], ◌∷◌, filter, length, map, remove, slice_get, unwrap_or, refl, sym, ap, subst, ◌∙◌, arith}
use Rattle.std.specs.List.{list_all, list_any}
use Rattle.std.specs.Option.{option_map}
use Rattle.tier_base.specs.declared.number.TableId.{TableId}
use Rattle.table_defs.specs.declared.definition.TableDef.{TableDef}
use Rattle.table_state.specs.Tables.{table_at}
use Rattle.instances.specs.Trees.{place_of}
use Rattle.instances.specs.Views.{kept_at}
use Rattle.group_store.specs.Stores.{Kept}
use Rattle.cache_tier.specs.Groups.{Group, covers, is_called}
use Rattle.cache_tier.specs.Shown.{shown_state}
use Rattle.cache_tier.specs.Worlds.{World}
use Rattle.cache_tier.specs.Dropping.{ShowsWithout}
use Rattle.stored_tier.specs.declared.tier.Tier.{Tier as Stored}
use Rattle.stored_tier.specs.Performing.{StandsFor}
use Rattle.stored_tier.specs.Stored.{AreKept, AreWhole, IsSound, ShowsRows}
use Rattle.group_catalog.specs.Catalogs.{HaveOwnNames, is_plain}
use Rattle.stored_tier.proofs.StoreRows.{are_kept, kept_is_shown, one_place, shows_kept}

-- a list without the element at a place

-- where its elements were
abbrev skip : ℕ → ℕ → ℕ
skip zero k = suc k
skip (suc p) zero = 0
skip (suc p) (suc k) = suc (skip p k)

skips : (p k : ℕ) → skip p k ≢ p
skips zero k e = cc
skips (suc p) zero e = cc
skips (suc p) (suc k) e = skips p k (let z : suc (skip p k) ≡ suc p = e in cc)

skip_same : (p i j : ℕ) → skip p i ≡ skip p j → i ≡ j
skip_same zero i j e = cc
skip_same (suc p) zero zero e = refl
skip_same (suc p) zero (suc j) e = cc
skip_same (suc p) (suc i) zero e = cc
skip_same (suc p) (suc i) (suc j) e = ap suc (skip_same p i j (let z : suc (skip p i) ≡ suc (skip p j) = e in cc))

was_at : {X : Type 0} (xs : List X) (p k : ℕ) (x : X) → slice_get (remove xs p) k ≡ Some x → slice_get xs (skip p k) ≡ Some x
was_at [] zero k x at = cc
was_at [] (suc p) k x at = cc
was_at (y ∷ xs) zero k x at = at
was_at (y ∷ xs) (suc p) zero x at = at
was_at (y ∷ xs) (suc p) (suc k) x at = was_at xs p k x at

pub map_less : {A B : Type 0} (f : A → B) (xs : List A) (p : ℕ) → map f (remove xs p) ≡ remove (map f xs) p
map_less f [] zero = refl
map_less f [] (suc p) = refl
map_less f (x ∷ xs) zero = refl
map_less f (x ∷ xs) (suc p) = ap (λ ys. f x ∷ ys) (map_less f xs p)

pub kept_less : (schema : List TableDef) (groups : List Group) (stores : List Kept) (p : ℕ) → AreKept schema groups stores → AreKept schema (remove groups p) (remove stores p)
kept_less schema [] [] zero are = tt
kept_less schema [] [] (suc p) are = tt
kept_less schema [] (s ∷ stores) p are = absurd are
kept_less schema (g ∷ groups) [] p are = absurd are
kept_less schema (g ∷ groups) (s ∷ stores) zero are = are.1
kept_less schema (g ∷ groups) (s ∷ stores) (suc p) are = (are.0, kept_less schema groups stores p are.1)

pub as_many : (schema : List TableDef) (groups : List Group) (stores : List Kept) → AreKept schema groups stores → length groups ≡ length stores
as_many schema [] [] are = refl
as_many schema [] (s ∷ stores) are = absurd are
as_many schema (g ∷ groups) [] are = absurd are
as_many schema (g ∷ groups) (s ∷ stores) are = ap suc (as_many schema groups stores are.1)

pub plain_less : (groups : List Group) (p : ℕ) → list_all is_plain groups ≡ true → list_all is_plain (remove groups p) ≡ true
plain_less [] zero all = refl
plain_less [] (suc p) all = refl
plain_less (g ∷ groups) zero all = by (is_plain g) all
  where
    by : (b : Bool) → (b && list_all is_plain groups) ≡ true → list_all is_plain groups ≡ true
    by true e = e
    by false e = cc
plain_less (g ∷ groups) (suc p) all = by (is_plain g) all (plain_less groups p)
  where
    by : (b : Bool) → (b && list_all is_plain groups) ≡ true → (list_all is_plain groups ≡ true → list_all is_plain (remove groups p) ≡ true) → (b && list_all is_plain (remove groups p)) ≡ true
    by true e rest = rest e
    by false e rest = cc

pub names_less : (groups : List Group) (p : ℕ) → HaveOwnNames groups → HaveOwnNames (remove groups p)
names_less groups p own i j g h at other same = skip_same p i j (own (skip p i) (skip p j) g h (was_at groups p i g at) (was_at groups p j h other) same)

pub whole_less : (stores : List Kept) (p : ℕ) → AreWhole stores → AreWhole (remove stores p)
whole_less stores p whole k s at = whole (skip p k) s (was_at stores p k s at)

-- by its name

none_called : (name : List ℕ) (groups : List Group) → ((k : ℕ) (h : Group) → slice_get groups k ≡ Some h → is_called name h ≡ false) → filter (λ h. not (is_called name h)) groups ≡ groups
none_called name [] none = refl
none_called name (g ∷ groups) none =
    ap (λ b. cond (not b) (g ∷ filter (λ h. not (is_called name h)) groups) (filter (λ h. not (is_called name h)) groups)) (none 0 g refl)
    ∙ ap (λ gs. g ∷ gs) (none_called name groups (λ k h at. none (suc k) h at))

uncalled : (name : List ℕ) (h : Group) → (is_called name h ≡ true → ⊥) → is_called name h ≡ false
uncalled name h never = by (is_called name h) refl
  where
    by : (b : Bool) → is_called name h ≡ b → b ≡ false
    by true e = absurd (never e)
    by false e = refl

pub filtered : (name : List ℕ) (groups : List Group) (p : ℕ) (g : Group) → slice_get groups p ≡ Some g → is_called name g ≡ true → ((k : ℕ) (h : Group) → slice_get groups k ≡ Some h → is_called name h ≡ true → k ≡ p)
    → filter (λ h. not (is_called name h)) groups ≡ remove groups p
filtered name [] p g at called alone = cc
filtered name (x ∷ groups) zero g at called alone =
    let one : x ≡ g = cc in
    ap (λ b. cond (not b) (x ∷ filter (λ h. not (is_called name h)) groups) (filter (λ h. not (is_called name h)) groups)) (ap (is_called name) one ∙ called)
    ∙ none_called name groups (λ k h there. uncalled name h (λ e. let z : suc k ≡ 0 = alone (suc k) h there e in cc))
filtered name (x ∷ groups) (suc p) g at called alone =
    let first : is_called name x ≡ false = uncalled name x (λ e. let z : 0 ≡ suc p = alone 0 x refl e in cc) in
    ap (λ b. cond (not b) (x ∷ filter (λ h. not (is_called name h)) groups) (filter (λ h. not (is_called name h)) groups)) first
    ∙ ap (λ gs. x ∷ gs) (filtered name groups p g at called (λ k h there e. let z : suc k ≡ suc p = alone (suc k) h there e in cc))

-- whether another group has a table

none_else : (test : Group → Bool) (groups : List Group) (p : ℕ) → ((k : ℕ) → k < length groups → k ≢ p → unwrap_or (option_map test (slice_get groups k)) false ≡ false) → list_any test (remove groups p) ≡ false
none_else test [] zero none = refl
none_else test [] (suc p) none = refl
none_else test (g ∷ groups) zero none = all groups (λ k lt. none (suc k) (omega (arith, lt)) (λ e. cc))
  where
    all : (gs : List Group) → ((k : ℕ) → k < length gs → unwrap_or (option_map test (slice_get gs k)) false ≡ false) → list_any test gs ≡ false
    all [] each = refl
    all (h ∷ gs) each = λ i. each 0 (omega arith) i || all gs (λ k lt. each (suc k) (omega (arith, lt))) i
none_else test (g ∷ groups) (suc p) none =
    λ i. none 0 (omega arith) (λ e. cc) i || none_else test groups p (λ k lt other. none (suc k) (omega (arith, lt)) (λ e. other (let z : suc k ≡ suc p = e in cc))) i

pub one_else : (test : Group → Bool) (groups : List Group) (p k : ℕ) → k ≢ p → unwrap_or (option_map test (slice_get groups k)) false ≡ true → list_any test (remove groups p) ≡ true
one_else test [] p k other is = cc
one_else test (g ∷ groups) zero zero other is = absurd (other refl)
one_else test (g ∷ groups) zero (suc k) other is = here groups k is
  where
    here : (gs : List Group) (n : ℕ) → unwrap_or (option_map test (slice_get gs n)) false ≡ true → list_any test gs ≡ true
    here [] n e = cc
    here (h ∷ gs) zero e = ap (λ b. b || list_any test gs) e
    here (h ∷ gs) (suc n) e = by (test h) (here gs n e)
      where
        by : (b : Bool) → list_any test gs ≡ true → (b || list_any test gs) ≡ true
        by true r = refl
        by false r = r
one_else test (g ∷ groups) (suc p) zero other is = ap (λ b. b || list_any test (remove groups p)) is
one_else test (g ∷ groups) (suc p) (suc k) other is = by (test g) (one_else test groups p k (λ e. other (ap suc e)) is)
  where
    by : (b : Bool) → list_any test (remove groups p) ≡ true → (b || list_any test (remove groups p)) ≡ true
    by true r = refl
    by false r = r

pub none_elsewhere : (test : Group → Bool) (groups : List Group) (p n : ℕ) → length groups ≤ n → ((k : ℕ) → k < n → k ≢ p → unwrap_or (option_map test (slice_get groups k)) false ≡ false) → list_any test (remove groups p) ≡ false
none_elsewhere test groups p n le none = none_else test groups p (λ k lt other. none k (omega (arith, lt, le)) other)

-- what is shown
pub shows_less : (t new : Stored) (w w' : World) (p : ℕ) (g : Group) → IsSound t → StandsFor t w → slice_get w.tier.groups p ≡ Some g → new.schema ≡ t.schema → w'.tier.schema ≡ w.tier.schema
    → w'.tier.groups ≡ remove w.tier.groups p → new.stores.items ≡ remove t.stores.items p → ShowsWithout g w w' → ShowsRows new w'
shows_less t new w w' p g sound stands there schema known groups stores without =
    shows_kept new w' (known ∙ stands.stored.schema ∙ sym schema)
    (subst (λ gs. AreKept new.schema gs new.stores.items) (sym groups) (subst (λ ss. AreKept new.schema (remove w.tier.groups p) ss) (sym stores) (subst (λ defs. AreKept defs (remove w.tier.groups p) (remove t.stores.items p)) (sym schema)
    (kept_less t.schema w.tier.groups t.stores.items p (are_kept t w.tier sound stands.stored)))))
    (λ k h x u q at kept place. keep k h x u q (ap (λ gs. slice_get gs k) (sym groups) ∙ at) (ap (λ ss. slice_get ss k) (sym stores) ∙ kept) place)
  where
    apart : (k : ℕ) (h : Group) (u : TableId) (b : Bool) → covers u g ≡ b → slice_get w.tier.groups (skip p k) ≡ Some h → covers u h ≡ true → covers u g ≡ false
    apart k h u true is at c = absurd (skips p k (one_place w.tier.groups (skip p k) p h g u stands.stands.catalog.apart at there c is))
    apart k h u false is at c = is

    keep : (k : ℕ) (h : Group) (x : Kept) (u : TableId) (q : ℕ) → slice_get (remove w.tier.groups p) k ≡ Some h → slice_get (remove t.stores.items p) k ≡ Some x → place_of h.def.tree u ≡ Some q → kept_at x.tables q ≡ table_at (shown_state w'.history w'.tier) u
    keep k h x u q at kept place =
        let here = was_at w.tier.groups p k h at in
        kept_is_shown t w sound stands (skip p k) h x u q here (was_at t.stores.items p k x kept) place
        ∙ sym (without.others u (apart k h u (covers u g) refl here (ap is_some place)))
