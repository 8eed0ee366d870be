-- A list of which the first elements are kept.

use Rattle.std.specs.Prelude.{List, [], ◌∷◌, ◌++◌, length, nat_lt, true, if◌then◌else◌}
use Rattle.evaluator.specs.declared.capped.Capped.{Capped}

-- an element more
abbrev pub put : {A : Type 0} → Capped A → A → Capped A
put c x = if nat_lt (length c.kept) c.room then record c { kept = c.kept ++ x ∷ [] } else record c { over = true }

-- elements more, one after the other
abbrev pub folded : {S X : Type 0} → (S → X → S) → S → List X → S
folded f s [] = s
folded f s (x ∷ xs) = folded f (f s x) xs

abbrev pub extended : {A : Type 0} → Capped A → List A → Capped A
extended c xs = folded put c xs
