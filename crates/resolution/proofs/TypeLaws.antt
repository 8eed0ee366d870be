-- The rule of types on lists.

use Rattle.std.proofs.Common.{◌≡◌, refl, List, [], ◌∷◌, Option, ◌&&◌, map, ap}
use Rattle.std.specs.Prelude.{Result}
use Rattle.std.specs.List.{list_all}
use Rattle.evaluator.specs.tier_base.specs.declared.code.Code.{Code}
use Rattle.evaluator.specs.expressions.specs.Trees.{Expr}
use Rattle.evaluator.specs.expressions.specs.declared.typing.Family.{Family}
use Rattle.evaluator.specs.expressions.specs.Types.{agrees, all_agree, family_of}

-- all agree where the family of each does
pub all_agree_families : (family : Result (Option Family) Code) (es : List Expr) (columns : List Family) → all_agree family es columns ≡ list_all (agrees family) (map (λ e. family_of e columns) es)
all_agree_families family [] columns = refl
all_agree_families family (e ∷ es) columns = ap (λ b. agrees family (family_of e columns) && b) (all_agree_families family es columns)
