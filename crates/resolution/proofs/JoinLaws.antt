-- A name that begins with a table's.

use Rattle.std.proofs.Common.{◌≡◌, refl, ℕ, List, [], ◌∷◌, ◌++◌, ⊎_elim, true, false, nat_eq, length, take, drop}
use Rattle.std.proofs.lemmas.Bool.{and_cases, and_left, and_parts, and_right, false≢true, true≢false}
use Rattle.std.specs.Cmp.Lexicographic.{pointwise}
use Rattle.evaluator.specs.table_defs.specs.Names.{same_name}

-- what stands behind the table's name decides
pub joined_behind : (name table others : List ℕ) → pointwise nat_eq (take (length table) name) table ≡ true
    → same_name name (table ++ others) ≡ same_name (drop (length table) name) others
joined_behind name [] others e = refl
joined_behind [] (t ∷ table) others e = absurd (false≢true e)
joined_behind (n ∷ name) (t ∷ table) others e =
    let parts = and_parts (nat_eq n t) (pointwise nat_eq (take (length table) name) table) e in
    rw (parts.0) (joined_behind name table others parts.1)

-- a name that begins otherwise is another one
pub not_joined : (name table others : List ℕ) → pointwise nat_eq (take (length table) name) table ≡ false
    → same_name name (table ++ others) ≡ false
not_joined name [] others e = absurd (true≢false e)
not_joined [] (t ∷ table) others e = refl
not_joined (n ∷ name) (t ∷ table) others e =
    ⊎_elim (λ h. and_left (nat_eq n t) (same_name name (table ++ others)) h)
    (λ h. and_right (nat_eq n t) (same_name name (table ++ others)) (not_joined name table others h))
    (and_cases (nat_eq n t) (pointwise nat_eq (take (length table) name) table) e)
