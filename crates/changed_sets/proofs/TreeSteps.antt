-- Copies of trees, group by group.
use Rattle.std.proofs.Common.{◌≡◌, ◌≤◌, ℕ, zero, suc, ◌+◌, Bool, true, false, cond, Some, None, List, [], ◌∷◌, ◌++◌, length, take, slice_get, refl, sym, ap, subst, ◌∙◌, arith}
use Rattle.std.proofs.lemmas.List.{append-nil}
use Rattle.instances.specs.declared.tree.Tree.{Tree}
use Rattle.cache_tier.specs.Groups.{Group}
use Rattle.cache_tier.specs.Sets.{Choice}
use Rattle.stored_tier.proofs.FillSteps.{take_one, take_past}
use Rattle.changed_sets.specs.Alike.{AllAlike, IsAlike}
use Rattle.changed_sets.specs.Preparing.{count_before}
use Rattle.changed_sets.specs.Since.{trees_of}
use Rattle.changed_sets.proofs.PrepareSteps.{take_long, trees_end}

all_more : (trees copies : List Tree) (t u : Tree) → AllAlike trees copies → IsAlike t u → AllAlike (trees ++ t ∷ []) (copies ++ u ∷ [])
all_more [] [] t u are one = (one, tt)
all_more [] (y ∷ copies) t u are one = absurd are
all_more (x ∷ trees) [] t u are one = absurd are
all_more (x ∷ trees) (y ∷ copies) t u are one = (are.0, all_more trees copies t u are.1 one)

none_past : {X : Type 0} (xs : List X) (i : ℕ) → slice_get xs i ≡ None → length xs ≤ i
none_past [] i none = omega arith
none_past (x ∷ xs) zero none = cc
none_past (x ∷ xs) (suc i) none = let le = none_past xs i none in omega (arith, le)

module _ (filled : Choice) (groups : List Group) where
  next_trees : (i : ℕ) (g : Group) → slice_get groups i ≡ Some g → trees_of filled 0 (take (i + 1) groups) ≡ trees_of filled 0 (take i groups) ++ cond (filled i g) (g.def.tree ∷ []) []
  next_trees i g at =
      let z : 0 + length (take i groups) ≡ i = (let long = take_long filled groups i g at in omega (arith, long)) in
      ap (trees_of filled 0) (take_one groups i g at) ∙ trees_end filled 0 (take i groups) g ∙ ap (λ m. trees_of filled 0 (take i groups) ++ cond (filled m g) (g.def.tree ∷ []) []) z

  pub tree_more : (i : ℕ) (g : Group) (copies next : List Tree) (u : Tree) → slice_get groups i ≡ Some g → filled i g ≡ true → AllAlike (trees_of filled 0 (take i groups)) copies → next ≡ copies ++ u ∷ [] → IsAlike g.def.tree u → AllAlike (trees_of filled 0 (take (i + 1) groups)) next
  tree_more i g copies next u at f are is one =
      subst (AllAlike (trees_of filled 0 (take (i + 1) groups))) (sym is)
      (subst (λ l. AllAlike l (copies ++ u ∷ [])) (sym (next_trees i g at ∙ ap (λ b. trees_of filled 0 (take i groups) ++ cond b (g.def.tree ∷ []) []) f))
      (all_more (trees_of filled 0 (take i groups)) copies g.def.tree u are one))

  pub tree_passed : (i : ℕ) (g : Group) (copies : List Tree) → slice_get groups i ≡ Some g → filled i g ≡ false → AllAlike (trees_of filled 0 (take i groups)) copies → AllAlike (trees_of filled 0 (take (i + 1) groups)) copies
  tree_passed i g copies at f are =
      subst (λ l. AllAlike l copies) (sym (next_trees i g at ∙ ap (λ b. trees_of filled 0 (take i groups) ++ cond b (g.def.tree ∷ []) []) f ∙ append-nil (trees_of filled 0 (take i groups)))) are

  pub tree_none : (i : ℕ) (copies : List Tree) → slice_get groups i ≡ None → AllAlike (trees_of filled 0 (take i groups)) copies → AllAlike (trees_of filled 0 (take (i + 1) groups)) copies
  tree_none i copies none are =
      let le = none_past groups i none in
      subst (λ l. AllAlike (trees_of filled 0 l) copies) (take_past groups i le ∙ sym (take_past groups (i + 1) (omega (arith, le)))) are

  pub trees_all : (i : ℕ) (copies : List Tree) → length groups ≤ i → AllAlike (trees_of filled 0 (take i groups)) copies → AllAlike (trees_of filled 0 groups) copies
  trees_all i copies le are = subst (λ l. AllAlike (trees_of filled 0 l) copies) (take_past groups i le) are

-- the tree of a group that keeps rows, and its copy

tree_there : (filled : Choice) (n : ℕ) (groups : List Group) (k : ℕ) (g : Group) → slice_get groups k ≡ Some g → filled (n + k) g ≡ true → slice_get (trees_of filled n groups) (length (trees_of filled n (take k groups))) ≡ Some g.def.tree
tree_there filled n [] k g at f = cc
tree_there filled n (x ∷ groups) zero g at f =
    let z : n + 0 ≡ n = omega arith in
    let same : x ≡ g = cc in
    ap (λ b. slice_get (cond b (x.def.tree ∷ []) [] ++ trees_of filled (suc n) groups) 0) (ap (λ m. filled m x) (sym z) ∙ ap (filled (n + 0)) same ∙ f) ∙ ap (λ (y : Group). Some y.def.tree) same
tree_there filled n (x ∷ groups) (suc k) g at f =
    let z : n + suc k ≡ suc n + k = omega arith in
    let rest = tree_there filled (suc n) groups k g at (ap (λ m. filled m g) (sym z) ∙ f) in
    by (filled n x) rest
  where
    by : (b : Bool) → slice_get (trees_of filled (suc n) groups) (length (trees_of filled (suc n) (take k groups))) ≡ Some g.def.tree
        → slice_get (cond b (x.def.tree ∷ []) [] ++ trees_of filled (suc n) groups) (length (cond b (x.def.tree ∷ []) [] ++ trees_of filled (suc n) (take k groups))) ≡ Some g.def.tree
    by true rest = rest
    by false rest = rest

copy_there : (trees copies : List Tree) (i : ℕ) (t : Tree) → AllAlike trees copies → slice_get trees i ≡ Some t → (u : Tree) × (slice_get copies i ≡ Some u) × IsAlike t u
copy_there [] copies i t are at = cc
copy_there (x ∷ trees) [] i t are at = absurd are
copy_there (x ∷ trees) (y ∷ copies) zero t are at = let same : x ≡ t = cc in (y, refl, subst (λ z. IsAlike z y) same are.0)
copy_there (x ∷ trees) (y ∷ copies) (suc i) t are at = copy_there trees copies i t are.1 at

pub copy_of : (filled : Choice) (groups : List Group) (copies : List Tree) (k : ℕ) (g : Group) → AllAlike (trees_of filled 0 groups) copies → slice_get groups k ≡ Some g → filled k g ≡ true
    → (u : Tree) × (slice_get copies (count_before filled k groups) ≡ Some u) × IsAlike g.def.tree u
copy_of filled groups copies k g are at f =
    let z : 0 + k ≡ k = omega arith in
    copy_there (trees_of filled 0 groups) copies (count_before filled k groups) g.def.tree are (tree_there filled 0 groups k g at (ap (λ m. filled m g) z ∙ f))
