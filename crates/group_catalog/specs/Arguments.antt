-- Arguments of a CALL.

use Rattle.std.specs.Prelude.{ℕ, List, [], ◌∷◌, Bool, true, false, codes}
use Rattle.tier_base.specs.Names.{folded}
use Rattle.tier_base.specs.declared.code.Code.TheVariants as code
use Rattle.row_types.specs.declared.rule.Rule.{Rule}
use Rattle.table_defs.specs.Names.{same_name}
use Rattle.sql_query.specs.declared.literal.Literal.{Literal}
use Rattle.cache_tier.specs.Called.{is_integer}
use Rattle.cache_tier.specs.Rules.{named}

-- nothing, or an integer
abbrev pub is_flag : List Literal → Bool
is_flag [] = true
is_flag (flag ∷ []) = is_integer flag
is_flag (flag ∷ one ∷ more) = false

-- PassThrough, in any case
abbrev pub folds_to_flag : List ℕ → Bool
folds_to_flag text = same_name (folded text) (codes "PASSTHROUGH")

-- 105 of a level that isn't from 0 to 3
abbrev pub out_of_levels : Rule
out_of_levels = named code.OutOfRange (codes "PASSTHROUGH")
