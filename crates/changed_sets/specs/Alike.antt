-- Trees that are alike.

use Rattle.std.specs.Prelude.{◌≡◌, List, [], ◌∷◌}
use Rattle.instances.specs.declared.tree.Child.{Child}
use Rattle.instances.specs.declared.tree.Tree.{Tree}
use Rattle.instances.specs.Views.{selects}

-- the same child table, and a condition that selects the same rows
pub record IsAlikeChild (child copy : Child) : Type 0 where
  pub table : copy.table ≡ child.table
  pub parent : copy.parent ≡ child.parent
  pub filter : selects copy.filter ≡ selects child.filter

abbrev pub AreAlike : List Child → List Child → Type 0
AreAlike [] [] = Unit {0}
AreAlike [] (c ∷ copies) = ⊥
AreAlike (c ∷ children) [] = ⊥
AreAlike (c ∷ children) (d ∷ copies) = IsAlikeChild c d × AreAlike children copies

-- the same tables, with conditions that select the same rows
pub record IsAlike (tree copy : Tree) : Type 0 where
  pub table : copy.root.table ≡ tree.root.table
  pub filter : selects copy.root.filter ≡ selects tree.root.filter
  pub children : AreAlike tree.children copy.children

-- so it is of each tree
abbrev pub AllAlike : List Tree → List Tree → Type 0
AllAlike [] [] = Unit {0}
AllAlike [] (t ∷ copies) = ⊥
AllAlike (t ∷ trees) [] = ⊥
AllAlike (t ∷ trees) (u ∷ copies) = IsAlike t u × AllAlike trees copies
