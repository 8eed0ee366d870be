-- Where a statement is answered: in the cache, or at the backing database. (TimesTen Cache User's Guide, "Setting a
-- passthrough level"; levels 0 to 3 as they are tabled here are this project's rule.)

use Rattle.std.specs.Prelude.{ℕ, suc, List, [], ◌∷◌, Bool, true, ◌&&◌, not, nat_eq, nat_lt, slice_get, Option, Some, None, Result, Ok, Err, if◌then◌else◌}
use Rattle.std.specs.List.{list_all}
use Rattle.tier_base.specs.declared.code.Code.TheVariants as code
use Rattle.tier_base.specs.declared.number.TableId.{TableId}
use Rattle.row_types.specs.declared.rule.Rule.{Rule}
use Rattle.table_defs.specs.declared.definition.TableDef.{TableDef}
use Rattle.cache_tier.specs.Groups.{is_read_only, is_writethrough, is_table_of}
use Rattle.cache_tier.specs.Rules.{named}
use Rattle.cache_tier.specs.TierStates.{Tier}

pub data Route : Type 0 where
  -- in the cache
  Cached : Route
  -- passed on to the backing database, whole
  PassedOn : Route

-- the table is cached, by whichever group
abbrev pub is_cached : Tier → TableId → Bool
is_cached t table = is_table_of (λ g. true) t.groups table

abbrev pub is_written_through : Tier → TableId → Bool
is_written_through t table = is_table_of is_writethrough t.groups table

abbrev pub is_only_read : Tier → TableId → Bool
is_only_read t table = is_table_of is_read_only t.groups table

abbrev pub table_name : Tier → TableId → List ℕ
table_name t table = of_def (slice_get t.schema table.0)
  where
    of_def : Option TableDef → List ℕ
    of_def None = []
    of_def (Some def) = def.name

-- a query whose tables there are: passed on at level 3, and where a table isn't cached
abbrev pub query_route : ℕ → Tier → List TableId → Route
query_route level t tables = if nat_lt level 3 && list_all (is_cached t) tables then Cached else PassedOn

-- A write on a table that there is. 121: a writethrough table at level 3. 110: a read-only one below level 2.
abbrev pub write_route : ℕ → Tier → TableId → Result Route Rule
write_route level t table =
    if is_written_through t table then
    (if nat_lt level 3 then Ok Cached else Err (named code.WritethroughTable (table_name t table)))
    else
    (if is_only_read t table && nat_lt level 2
    then Err (named code.ReadOnly (table_name t table))
    else Ok PassedOn)

-- a definition of which the name can't be spelt
abbrev pub hidden : TableDef → TableDef
hidden def = record def { name = [] }

abbrev pub hidden_where : (TableId → Bool) → ℕ → List TableDef → List TableDef
hidden_where test place [] = []
hidden_where test place (def ∷ defs) =
    (if test (record { 0 = place }) then hidden def else def) ∷ hidden_where test (suc place) defs

-- The tables as a session sees them, at their places: at level 0 one that isn't cached has no name.
abbrev pub visible : ℕ → Tier → List TableDef
visible level t = if nat_eq level 0 then hidden_where (λ table. not (is_cached t table)) 0 t.schema else t.schema
