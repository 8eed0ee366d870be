-- Two lists gone through side by side.

use Rattle.std.proofs.Common.{◌≡◌, ◌≢◌, ◌⊎◌, inl, inr, refl, ℕ, suc, List, [], ◌∷◌, Option, false, true, ap, length, map}
use Rattle.std.proofs.lemmas.Bool.{and_right}
use Rattle.std.specs.Prelude.{Result, Ok}
use Rattle.evaluator.specs.tier_base.specs.declared.code.Code.{Code}
use Rattle.evaluator.specs.row_types.specs.declared.column.Column.{Column}
use Rattle.evaluator.specs.expressions.specs.Trees.{Expr}
use Rattle.evaluator.specs.expressions.specs.Types.{agrees, family_of}
use Rattle.evaluator.specs.expressions.specs.declared.typing.Family.{Family}
use Rattle.evaluator.specs.declared.aggregate.Aggregate.{Aggregate}
use Rattle.sql_query.specs.declared.query.Aggregate.{Aggregate as NamedAggregate}
use Rattle.resolution.specs.Assignments.{family_at, suit_columns}
use Rattle.resolution.specs.Queries.{suit_totals, total_of}

-- the families of expressions over the columns
abbrev pub families_of : List Family → List Expr → List (Result (Option Family) Code)
families_of columns es = map (λ e. family_of e columns) es

totals_none : (ts : List Aggregate) → suit_totals ts [] ≡ true
totals_none [] = refl
totals_none (t ∷ ts) = refl

-- no aggregate is left, or no operand
pub totals_end : (aggregates : List NamedAggregate) (es : List Expr) (columns : List Family)
    → (aggregates ≡ []) ⊎ (es ≡ []) → suit_totals (map total_of aggregates) (families_of columns es) ≡ true
totals_end aggregates es columns (inl none) = rw none refl
totals_end aggregates es columns (inr none) = rw none (totals_none (map total_of aggregates))

-- more columns than values, or fewer
pub columns_apart : (columns : List Column) (places : List ℕ) (es : List Expr) (families : List Family)
    → length places ≢ length es → suit_columns columns places (families_of families es) ≡ false
columns_apart columns [] [] families apart = absurd (apart refl)
columns_apart columns [] (e ∷ es) families apart = refl
columns_apart columns (p ∷ places) [] families apart = refl
columns_apart columns (p ∷ places) (e ∷ es) families apart =
    and_right (agrees (Ok (family_at columns p)) (family_of e families))
    (suit_columns columns places (families_of families es))
    (columns_apart columns places es families (λ same. apart (ap suc same)))
