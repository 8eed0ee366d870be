-- The rule of types: comparison of two numbers, two texts, two times, or with NULL; arithmetic of numbers. (TimesTen
-- SQL Reference, "Expressions" and "Comparison predicate"; without conversion, which is this project's rule.)

use Rattle.std.specs.Prelude.{List, [], ◌∷◌, Option, Some, None, Bool, true, false, ◌&&◌, if◌then◌else◌, Result, Ok, Err, slice_get}
use Rattle.std.specs.Result.{is_ok}
use Rattle.row_types.specs.tier_base.specs.declared.code.Code.{Code}
use Rattle.row_types.specs.tier_base.specs.declared.code.Code.TheVariants.{TypeMismatch}
use Rattle.row_types.specs.declared.column.Ty.{Ty}
use Rattle.row_types.specs.declared.column.Ty.TheVariants as ty
use Rattle.row_types.specs.declared.value.Value.{Value}
use Rattle.row_types.specs.declared.value.Value.TheVariants as one
use Rattle.expressions.specs.Trees.{Cond, Expr, Literal, Column, Binary}
use Rattle.expressions.specs.Trees as cond
use Rattle.expressions.specs.declared.typing.Family.{Family}
use Rattle.expressions.specs.declared.typing.Family.TheVariants.{Number, Characters, Datetime}

abbrev pub family_of_type : Ty → Family
family_of_type ty.TtInteger = Number
family_of_type ty.TtBigint = Number
family_of_type (ty.Number precision scale) = Number
family_of_type (ty.Varchar2 greatest) = Characters
family_of_type ty.Timestamp = Datetime

abbrev pub same_family : Family → Family → Bool
same_family Number Number = true
same_family Number Characters = false
same_family Number Datetime = false
same_family Characters Number = false
same_family Characters Characters = true
same_family Characters Datetime = false
same_family Datetime Number = false
same_family Datetime Characters = false
same_family Datetime Datetime = true

-- the same family, or NULL on a side
abbrev pub suits : Option Family → Option Family → Bool
suits (Some a) (Some b) = same_family a b
suits (Some a) None = true
suits None b = true

abbrev pub family_of_value : Value → Option Family
family_of_value one.Null = None
family_of_value (one.Number n) = Some Number
family_of_value (one.Text bytes) = Some Characters
family_of_value (one.Time seconds) = Some Datetime

-- a number or NULL
abbrev pub is_numeric : Option Family → Bool
is_numeric family = suits family (Some Number)

abbrev pub of_numbers : Option Family → Option Family → Result (Option Family) Code
of_numbers a b = if is_numeric a && is_numeric b then Ok (Some Number) else Err TypeMismatch

abbrev pub of_both : Result (Option Family) Code → Result (Option Family) Code → Result (Option Family) Code
of_both (Ok a) (Ok b) = of_numbers a b
of_both (Ok a) (Err e) = Err e
of_both (Err e) b = Err e

-- the family of an expression over columns of these families; none of NULL
abbrev pub family_of : Expr → List Family → Result (Option Family) Code
family_of (Literal value) columns = Ok (family_of_value value)
family_of (Column place) columns = Ok (slice_get columns place)
family_of (Binary o a b) columns = of_both (family_of a columns) (family_of b columns)

abbrev pub agrees : Result (Option Family) Code → Result (Option Family) Code → Bool
agrees (Ok a) (Ok b) = suits a b
agrees (Ok a) (Err e) = false
agrees (Err e) b = false

abbrev pub all_agree : Result (Option Family) Code → List Expr → List Family → Bool
all_agree family [] columns = true
all_agree family (e ∷ es) columns = agrees family (family_of e columns) && all_agree family es columns

-- the condition keeps the rule over columns of these families
abbrev pub has_sound_types : Cond → List Family → Bool
has_sound_types (cond.Compared k a b) columns = agrees (family_of a columns) (family_of b columns)
has_sound_types (cond.IsNull a) columns = is_ok (family_of a columns)
has_sound_types (cond.Between a low high) columns = agrees (family_of a columns) (family_of low columns)
    && agrees (family_of a columns) (family_of high columns)
has_sound_types (cond.In a es) columns = is_ok (family_of a columns) && all_agree (family_of a columns) es columns
has_sound_types (cond.Not x) columns = has_sound_types x columns
has_sound_types (cond.And x y) columns = has_sound_types x columns && has_sound_types y columns
has_sound_types (cond.Or x y) columns = has_sound_types x columns && has_sound_types y columns
