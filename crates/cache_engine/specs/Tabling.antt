-- CREATE TABLE over the stored tier: what refuses it. (TimesTen SQL Reference, "CREATE TABLE".)

use Rattle.std.specs.Prelude.{Bool, false, Option, Some, None, if◌then◌else◌}
use Rattle.std.specs.Option.{option_map, option_or}
use Rattle.tier_base.specs.declared.code.Code.TheVariants as code
use Rattle.row_types.specs.declared.declaration.TableDeclaration.{TableDeclaration}
use Rattle.row_types.specs.declared.rule.Rule.{Rule}
use Rattle.table_defs.specs.Declarations.{broken_at, fault_of, limit_of, resolved}
use Rattle.table_defs.specs.declared.definition.ForeignKey.{ForeignKey}
use Rattle.cache_tier.specs.Groups.{is_table_of, is_writethrough}
use Rattle.cache_tier.specs.Rules.{past}
use Rattle.group_catalog.specs.Catalogs.{groups_in}
use Rattle.stored_tier.specs.declared.tier.Tier.{Tier as Stored}

-- the foreign key refers to a table of a writethrough group
abbrev pub has_cached_parent : Stored → Option ForeignKey → Bool
has_cached_parent t None = false
has_cached_parent t (Some foreign) = is_table_of is_writethrough (groups_in t.catalog) foreign.parent

-- 121 of a table with this foreign key
abbrev pub parent_fault : Stored → TableDeclaration → Option ForeignKey → Option Rule
parent_fault t d foreign =
    if has_cached_parent t foreign
    then broken_at code.WritethroughTable (option_map (λ f. f.parent) d.foreign_key)
    else None

-- what the declaration breaks, then 121, then 119
abbrev pub stored_table_fault : Stored → TableDeclaration → Option Rule
stored_table_fault t d =
    option_or (fault_of d t.schema)
    (option_or (parent_fault t d (resolved d t.schema).foreign_key)
    (option_map past (limit_of (resolved d t.schema) t.schema)))
