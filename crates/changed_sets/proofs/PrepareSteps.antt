-- Steps of the loops that make a refresh ready.
use Rattle.std.proofs.Common.{◌≡◌, ◌≤◌, ◌<◌, ℕ, zero, suc, ◌+◌, Bool, true, false, cond, Option, Some, None, List, [], ◌∷◌, ◌++◌, length, map, nat_eq, take, slice_get, unwrap_or, refl, sym, ap, subst, ◌∙◌, append_assoc, arith}
use Rattle.std.proofs.lemmas.List.{append-nil}
use Rattle.std.specs.FinMap as fm
use Rattle.row_types.specs.Order.{key_order}
use Rattle.instances.specs.Views.{kept_at, passes}
use Rattle.outside.specs.declared.site.Instance.{Instance}
use Rattle.cache_tier.specs.Shown.{exceeds}
use Rattle.outside.specs.declared.changes.Touched.{Touched}
use Rattle.indexed_rows.specs.Rows.{Table}
use Rattle.group_store.specs.Stores.{Kept}
use Rattle.cache_tier.specs.Groups.{Group}
use Rattle.cache_tier.specs.Sets.{Choice}
use Rattle.group_catalog.specs.Catalogs.{groups_in}
use Rattle.stored_tier.specs.declared.tier.Tier.{Tier as Stored}
use Rattle.stored_tier.specs.Refreshing.{is_chosen_by, is_chosen_in}
use Rattle.stored_tier.proofs.FillSteps.{take_one, take_past}
use Rattle.changed_sets.specs.Preparing.{ArePatches, IsPatchOf, count_before}
use Rattle.changed_sets.specs.Since.{trees_of}
use Rattle.changed_sets.specs.Turning.{AreCuts, AreTurns, AreUnder, FitTurns, FitsTurn, IsCutFor, IsCutUnder, IsTurnFor, bare_of, count_cuts, count_shown, count_turns, cut_of, is_shown_told, turn_of}
use Rattle.changed_sets.specs.declared.turns.Cut.{Cut}
use Rattle.changed_sets.specs.declared.turns.Patch.{Patch}
use Rattle.changed_sets.specs.declared.turns.Turn.{Turn}
use Rattle.changed_sets.proofs.ListSteps.{UpTo}

-- ---- how many rows

count_end : (turns : List Turn) (t : Turn) → count_turns (turns ++ t ∷ []) ≡ count_turns turns + count_shown t.rows
count_end [] t = let z : count_shown t.rows + 0 ≡ 0 + count_shown t.rows = omega arith in z
count_end (x ∷ turns) t = let rest = count_end turns t in omega (arith, rest)

pub count_next : (turns : List Turn) (i : ℕ) (t : Turn) (now next : ℕ) → slice_get turns i ≡ Some t → now ≡ count_turns (take i turns) → next ≡ now + count_shown t.rows → next ≡ count_turns (take (i + 1) turns)
count_next turns i t now next at before is =
    is ∙ ap (λ n. n + count_shown t.rows) before ∙ sym (ap count_turns (take_one turns i t at) ∙ count_end (take i turns) t)

pub count_done : (turns : List Turn) (i now : ℕ) → length turns ≤ i → now ≡ count_turns (take i turns) → now ≡ count_turns turns
count_done turns i now le before = before ∙ ap count_turns (take_past turns i le)

cuts_end : (cuts : List Cut) (c : Cut) → count_cuts (cuts ++ c ∷ []) ≡ count_cuts cuts + count_shown c.bare
cuts_end [] c = let z : count_shown c.bare + 0 ≡ 0 + count_shown c.bare = omega arith in z
cuts_end (x ∷ cuts) c = let rest = cuts_end cuts c in omega (arith, rest)

pub cuts_next : (cuts : List Cut) (i : ℕ) (c : Cut) (now next : ℕ) → slice_get cuts i ≡ Some c → now ≡ count_cuts (take i cuts) → next ≡ now + count_shown c.bare → next ≡ count_cuts (take (i + 1) cuts)
cuts_next cuts i c now next at before is =
    is ∙ ap (λ n. n + count_shown c.bare) before ∙ sym (ap count_cuts (take_one cuts i c at) ∙ cuts_end (take i cuts) c)

pub cuts_done : (cuts : List Cut) (i now : ℕ) → length cuts ≤ i → now ≡ count_cuts (take i cuts) → now ≡ count_cuts cuts
cuts_done cuts i now le before = before ∙ ap count_cuts (take_past cuts i le)

-- ---- turn by turn

map_end : {A B : Type 0} (f : A → B) (xs : List A) (x : A) → map f (xs ++ x ∷ []) ≡ map f xs ++ f x ∷ []
map_end f [] x = refl
map_end f (y ∷ ys) x = ap (λ zs. f y ∷ zs) (map_end f ys x)

module _ (g : Group) (s : Kept) (hidden : Table) (gains : Bool) where
  pub turns_none : AreTurns g s hidden gains [] []
  turns_none = record { are = refl; fit = λ i t at. cc }

  fit_end : (n : ℕ) (turns : List Turn) (t : Turn) → FitTurns n turns → FitsTurn n t → FitTurns n (turns ++ t ∷ [])
  fit_end n [] t fit one zero x at = let same : t ≡ x = cc in subst (FitsTurn n) same one
  fit_end n [] t fit one (suc i) x at = cc
  fit_end n (y ∷ turns) t fit one zero x at = fit 0 x at
  fit_end n (y ∷ turns) t fit one (suc i) x at = fit_end n turns t (λ j z there. fit (suc j) z there) one i x at

  pub turns_more : (told : List Touched) (i : ℕ) (x : Touched) (turns next : List Turn) (t : Turn) → slice_get told i ≡ Some x → AreTurns g s hidden gains (take i told) turns → IsTurnFor g s hidden gains x t → next ≡ turns ++ t ∷ [] → AreTurns g s hidden gains (take (i + 1) told) next
  turns_more told i x turns next t at before one is = record {
    are =
        is ∙ ap (λ l. l ++ t ∷ []) before.are ∙ ap (λ y. map (turn_of (is_shown_told g s hidden gains)) (take i told) ++ y ∷ []) one.is
        ∙ sym (ap (map (turn_of (is_shown_told g s hidden gains))) (take_one told i x at) ∙ map_end (turn_of (is_shown_told g s hidden gains)) (take i told) x);
    fit = subst (FitTurns (length g.def.tree.children + 1)) (sym is) (fit_end (length g.def.tree.children + 1) turns t before.fit one.fits);
  }

  pub turns_all : (told : List Touched) (i : ℕ) (turns : List Turn) → length told ≤ i → AreTurns g s hidden gains (take i told) turns → AreTurns g s hidden gains told turns
  turns_all told i turns le are = subst (λ l. AreTurns g s hidden gains l turns) (take_past told i le) are

  pub cuts_none : AreCuts g s hidden gains [] []
  cuts_none = record { are = refl; under = λ i c at. cc }

  under_end : (cuts : List Cut) (c : Cut) → AreUnder s.key cuts → IsCutUnder s.key c → AreUnder s.key (cuts ++ c ∷ [])
  under_end [] c under one zero x at = let same : c ≡ x = cc in subst (IsCutUnder s.key) same one
  under_end [] c under one (suc i) x at = cc
  under_end (y ∷ cuts) c under one zero x at = under 0 x at
  under_end (y ∷ cuts) c under one (suc i) x at = under_end cuts c (λ j z there. under (suc j) z there) one i x at

  pub cuts_more : (told : List Touched) (i : ℕ) (x : Touched) (cuts next : List Cut) (c : Cut) → slice_get told i ≡ Some x → AreCuts g s hidden gains (take i told) cuts → IsCutFor g s hidden gains x c → next ≡ cuts ++ c ∷ [] → AreCuts g s hidden gains (take (i + 1) told) next
  cuts_more told i x cuts next c at before one is = record {
    are =
        is ∙ ap (λ l. l ++ c ∷ []) before.are ∙ ap (λ y. map (cut_of (is_shown_told g s hidden gains)) (take i told) ++ y ∷ []) one.is
        ∙ sym (ap (map (cut_of (is_shown_told g s hidden gains))) (take_one told i x at) ∙ map_end (cut_of (is_shown_told g s hidden gains)) (take i told) x);
    under = subst (AreUnder s.key) (sym is) (under_end cuts c before.under one.under);
  }

  pub cuts_all : (told : List Touched) (i : ℕ) (cuts : List Cut) → length told ≤ i → AreCuts g s hidden gains (take i told) cuts → AreCuts g s hidden gains told cuts
  cuts_all told i cuts le are = subst (λ l. AreCuts g s hidden gains l cuts) (take_past told i le) are

-- ---- group by group

module _ (filled : Choice) where
  pub trees_end : (n : ℕ) (groups : List Group) (g : Group) → trees_of filled n (groups ++ g ∷ []) ≡ trees_of filled n groups ++ cond (filled (n + length groups) g) (g.def.tree ∷ []) []
  trees_end n [] g = let z : n ≡ n + 0 = omega arith in append-nil (cond (filled n g) (g.def.tree ∷ []) []) ∙ ap (λ m. cond (filled m g) (g.def.tree ∷ []) []) z
  trees_end n (x ∷ groups) g =
      let z : suc n + length groups ≡ n + suc (length groups) = omega arith in
      ap (λ l. cond (filled n x) (x.def.tree ∷ []) [] ++ l) (trees_end (suc n) groups g ∙ ap (λ m. trees_of filled (suc n) groups ++ cond (filled m g) (g.def.tree ∷ []) []) z)
      ∙ sym (append_assoc (cond (filled n x) (x.def.tree ∷ []) []) (trees_of filled (suc n) groups) (cond (filled (n + suc (length groups)) g) (g.def.tree ∷ []) []))

  pub take_long : {X : Type 0} (xs : List X) (i : ℕ) (x : X) → slice_get xs i ≡ Some x → length (take i xs) ≡ i
  take_long [] i x at = cc
  take_long (y ∷ xs) zero x at = refl
  take_long (y ∷ xs) (suc i) x at = ap suc (take_long xs i x at)

  length_both : {X : Type 0} (xs : List X) (b : Bool) (x : X) → length (xs ++ cond b (x ∷ []) []) ≡ length xs + cond b 1 0
  length_both [] true x = let z : 1 ≡ 0 + 1 = omega arith in z
  length_both [] false x = refl
  length_both (y ∷ xs) b x = let rest = length_both xs b x in omega (arith, rest)

  count_group : (groups : List Group) (i : ℕ) (g : Group) → slice_get groups i ≡ Some g → count_before filled (i + 1) groups ≡ count_before filled i groups + cond (filled i g) 1 0
  count_group groups i g at =
      let z : 0 + length (take i groups) ≡ i = (let long = take_long groups i g at in omega (arith, long)) in
      ap (λ l. length (trees_of filled 0 l)) (take_one groups i g at)
      ∙ ap length (trees_end 0 (take i groups) g)
      ∙ length_both (trees_of filled 0 (take i groups)) (filled (0 + length (take i groups)) g) g.def.tree
      ∙ ap (λ m. length (trees_of filled 0 (take i groups)) + cond (filled m g) 1 0) z

  -- the count goes up with each group that keeps rows
  pub counted : (groups : List Group) (i : ℕ) (g : Group) (b : Bool) (now next : ℕ) → slice_get groups i ≡ Some g → b ≡ is_chosen_in filled groups i → now ≡ count_before filled i groups → next ≡ now + cond b 1 0 → next ≡ count_before filled (i + 1) groups
  counted groups i g b now next at is before more =
      more ∙ ap (λ n. n + cond b 1 0) before ∙ ap (λ c. count_before filled i groups + cond c 1 0) (is ∙ ap (is_chosen_by filled i) at) ∙ sym (count_group groups i g at)

  some_there : {X : Type 0} (xs : List X) (i : ℕ) → i < length xs → (x : X) × (slice_get xs i ≡ Some x)
  some_there [] i lt = absurd (omega (arith, lt))
  some_there (x ∷ xs) zero lt = (x, refl)
  some_there (x ∷ xs) (suc i) lt = some_there xs i (omega (arith, lt))

  pub count_least : (groups : List Group) (i : ℕ) → count_before filled i groups ≤ i
  count_least groups i = at 0 groups i
    where
      at : (n : ℕ) (groups : List Group) (i : ℕ) → length (trees_of filled n (take i groups)) ≤ i
      at n [] zero = omega arith
      at n [] (suc i) = omega arith
      at n (x ∷ groups) zero = omega arith
      at n (x ∷ groups) (suc i) = by (filled n x) (at (suc n) groups i)
        where
          by : (b : Bool) → length (trees_of filled (suc n) (take i groups)) ≤ i → length (cond b (x.def.tree ∷ []) [] ++ trees_of filled (suc n) (take i groups)) ≤ suc i
          by true le = omega (arith, le)
          by false le = omega (arith, le)

  module _ (t : Stored) (place : ℕ) (touched : List (List Touched)) where
    -- of the group at a place
    abbrev pub PatchAt : ℕ → Option Patch → Type 0
    PatchAt k o = (g : Group) → slice_get (groups_in t.catalog) k ≡ Some g → IsPatchOf t (filled k g) (nat_eq k place) k (slice_get touched (count_before filled k (groups_in t.catalog))) o

    pub patch_here : (k at : ℕ) (b : Bool) (o : Option Patch) → b ≡ is_chosen_in filled (groups_in t.catalog) k → at ≡ count_before filled k (groups_in t.catalog) → IsPatchOf t b (nat_eq k place) k (slice_get touched at) o → PatchAt k o
    patch_here k at b o is counted one g there =
        subst (λ c. IsPatchOf t c (nat_eq k place) k (slice_get touched (count_before filled k (groups_in t.catalog))) o) (is ∙ ap (is_chosen_by filled k) there)
        (subst (λ n. IsPatchOf t b (nat_eq k place) k (slice_get touched n) o) counted one)

    pub patches_all : (n : ℕ) (patches : List (Option Patch)) → n ≡ length (groups_in t.catalog) → UpTo PatchAt n patches → ArePatches t filled place touched patches
    patches_all n patches long up = record { long = up.long ∙ long; each = λ k g o there at. up.each k o at g there }

    pub group_there : (i : ℕ) → i < length (groups_in t.catalog) → (g : Group) × (slice_get (groups_in t.catalog) i ≡ Some g)
    group_there i lt = some_there (groups_in t.catalog) i lt

-- no table, no root row
pub none_past : (g : Group) (i : Instance) → ◌≡◌ {A = Option Table} None (slice_get i.rows 0) → false ≡ passes (exceeds g) (fm.get (kept_at i.rows 0) i.root)
none_past g i none = sym (ap (λ (o : Option Table). passes (exceeds g) (fm.get (unwrap_or o fm.empty) i.root)) (sym none) ∙ ap (passes (exceeds g)) (fm.get-empty key_order i.root))

pub none_bare : (i : Instance) → ◌≡◌ {A = Option Table} None (slice_get i.rows 0) → None ≡ bare_of (fm.get (kept_at i.rows 0) i.root)
none_bare i none = sym (ap (λ (o : Option Table). bare_of (fm.get (unwrap_or o fm.empty) i.root)) (sym none) ∙ ap bare_of (fm.get-empty key_order i.root))
