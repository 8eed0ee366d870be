-- Three-valued logic. (TimesTen SQL Reference, "Search conditions".)

use Rattle.std.specs.Prelude.{Bool, true, false}
use Rattle.row_types.specs.declared.truth.Truth.{Truth}
use Rattle.row_types.specs.declared.truth.Truth.TheVariants.{True, False, Unknown}

-- AND
abbrev pub both : Truth → Truth → Truth
both True True = True
both True False = False
both True Unknown = Unknown
both False True = False
both False False = False
both False Unknown = False
both Unknown True = Unknown
both Unknown False = False
both Unknown Unknown = Unknown

-- OR
abbrev pub either : Truth → Truth → Truth
either True True = True
either True False = True
either True Unknown = True
either False True = True
either False False = False
either False Unknown = Unknown
either Unknown True = True
either Unknown False = Unknown
either Unknown Unknown = Unknown

-- NOT
abbrev pub negation : Truth → Truth
negation True = False
negation False = True
negation Unknown = Unknown

-- what a test says
abbrev pub truth_of : Bool → Truth
truth_of true = True
truth_of false = False
