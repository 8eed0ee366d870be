-- What a CALL asks for. (TimesTen Cache User's Guide, "ttCacheAutorefresh"; TimesTen built-in procedures,
-- "ttOptSetFlag"; ttDrain, the codes and their order are this project's.)

use Rattle.std.specs.Prelude.{ℕ, List, [], ◌∷◌, ◌++◌, Bool, true, false, not, nat_eq, int_lt, pos, unsigned_abs, Option, Some, None, Result, Ok, Err, if◌then◌else◌, codes, is_some}
use Rattle.std.specs.Char.{is_ascii_digit}
use Rattle.std.specs.List.{list_all}
use Rattle.std.specs.Option.{option_and_then}
use Rattle.tier_base.specs.Names.{folded, is_name}
use Rattle.tier_base.specs.declared.code.Code.TheVariants as code
use Rattle.row_types.specs.declared.rule.Detail.TheVariants as detail
use Rattle.row_types.specs.declared.rule.Rule.{Rule}
use Rattle.row_types.specs.declared.value.Value.{Value}
use Rattle.row_types.specs.declared.value.Value.TheVariants as value
use Rattle.table_defs.specs.Names.{same_name}
use Rattle.sql_query.specs.declared.literal.Literal.{Literal}
use Rattle.sql_query.specs.declared.literal.Literal.TheVariants.{Null, Number, Text, Time}
use Rattle.sql_query.specs.Literals.{value_of}
use Rattle.cache_tier.specs.declared.called.Called.{Called}
use Rattle.cache_tier.specs.declared.called.Called.TheVariants.{Drain, RefreshSet, SetLevel}
use Rattle.cache_tier.specs.Groups.{Group, group_at, is_on, is_read_only, place_called}
use Rattle.cache_tier.specs.Rules.{named, no_type, plain}

-- the text of an argument, '' being NULL
abbrev pub text_in : Literal → Option (List ℕ)
text_in Null = None
text_in (Number literal) = None
text_in (Text []) = None
text_in (Text (b ∷ bytes)) = Some (b ∷ bytes)
text_in (Time text) = None

abbrev pub is_integer : Literal → Bool
is_integer Null = false
is_integer (Number literal) = list_all is_ascii_digit literal.digits
is_integer (Text bytes) = false
is_integer (Time text) = false

-- a name, an owner and a name, or these and an integer: the group's name, and the literals behind it
abbrev pub with_flag : List ℕ → List Literal → Option (List ℕ)
with_flag name [] = Some name
with_flag name (flag ∷ []) = if is_integer flag then Some name else None
with_flag name (flag ∷ one ∷ more) = None

abbrev pub with_owner : List ℕ → List Literal → Option (List ℕ)
with_owner name [] = Some name
with_owner name (second ∷ more) = option_and_then (λ text. with_flag (name ++ 46 ∷ text) more) (text_in second)

abbrev pub spelt_group : List Literal → Option (List ℕ)
spelt_group [] = None
spelt_group (first ∷ more) = option_and_then (λ text. with_owner text more) (text_in first)

-- each literal has a value
abbrev pub are_held : List Literal → Bool
are_held [] = true
are_held (l ∷ more) = if is_some (value_of l) then are_held more else false

-- 115 unless it is READONLY with STATE ON, then 105 of the integer
abbrev pub refreshed_group : List ℕ → List Literal → Option Group → Result Called Rule
refreshed_group name arguments None = Err (named code.UnknownGroup name)
refreshed_group name arguments (Some g) =
    if not (is_read_only g) then Err (named code.WrongState name)
    else if not (is_on g.state) then Err (named code.WrongState name)
    else if are_held arguments then Ok (RefreshSet g.def.interval) else Err no_type

-- 104, then 112
abbrev pub called_refresh : List Group → List Literal → Option (List ℕ) → Result Called Rule
called_refresh groups arguments None = Err (plain code.TypeMismatch)
called_refresh groups arguments (Some text) =
    if is_name text then refreshed_group (folded text) arguments
    (group_at groups (place_called groups (folded text)))
    else Err (record { code = code.UnknownGroup; detail = detail.NoType })

-- from 0 to 3
abbrev pub level_in : Option Value → Result Called Rule
level_in None = Err no_type
level_in (Some value.Null) = Err (plain code.TypeMismatch)
level_in (Some (value.Number n)) =
    if not (nat_eq n.scale 0)
    then Err (plain code.TypeMismatch)
    else
    (if int_lt n.units (pos 0)
    then Err (named code.OutOfRange (codes "PASSTHROUGH"))
    else
    (if int_lt (pos 3) n.units
    then Err (named code.OutOfRange (codes "PASSTHROUGH"))
    else Ok (SetLevel (unsigned_abs n.units))))
level_in (Some (value.Text bytes)) = Err (plain code.TypeMismatch)
level_in (Some (value.Time seconds)) = Err (plain code.TypeMismatch)

-- 103 of another flag, by its name where it spells one
abbrev pub unknown_flag : List ℕ → Rule
unknown_flag text =
    if is_name text then named code.UnknownColumn (folded text)
    else record { code = code.UnknownColumn; detail = detail.NoType }

-- 104 where the flag is no text, 103 of another flag, 104 and 105 of the level
abbrev pub level_called : Literal → Option (List ℕ) → Result Called Rule
level_called level None = Err (plain code.TypeMismatch)
level_called level (Some text) =
    if not (same_name (folded text) (codes "PASSTHROUGH")) then Err (unknown_flag text)
    else (if is_integer level then level_in (value_of level) else Err (plain code.TypeMismatch))

-- 104 of another number of arguments
abbrev pub called_flag : List Literal → Result Called Rule
called_flag (flag ∷ level ∷ []) = level_called level (text_in flag)
called_flag [] = Err (plain code.TypeMismatch)
called_flag (one ∷ []) = Err (plain code.TypeMismatch)
called_flag (one ∷ two ∷ three ∷ more) = Err (plain code.TypeMismatch)

abbrev pub called_drain : List Literal → Result Called Rule
called_drain [] = Ok Drain
called_drain (one ∷ more) = Err (plain code.TypeMismatch)

-- 103 of a procedure that there isn't
abbrev pub called : List Group → List ℕ → List Literal → Result Called Rule
called groups procedure arguments =
    if same_name procedure (codes "TTDRAIN") then called_drain arguments
    else if same_name procedure (codes "TTCACHEAUTOREFRESH")
    then called_refresh groups arguments (spelt_group arguments)
    else if same_name procedure (codes "TTOPTSETFLAG") then called_flag arguments
    else Err (named code.UnknownColumn procedure)
