-- The tables that sessions find by name, and where each is kept, over a schema. (This project's rule: at level 0 a
-- table that isn't cached has no name.)

use Rattle.std.specs.Prelude.{◌≡◌, ℕ, ◌≤◌, ◌<◌, List, Option, None, Bool, true, not, length, slice_get, if◌then◌else◌}
use Rattle.std.specs.Option.{option_and_then}
use Rattle.tier_base.specs.declared.number.TableId.{TableId}
use Rattle.table_defs.specs.declared.definition.TableDef.{TableDef}
use Rattle.group_store.specs.Shown.{homes_of}
use Rattle.group_store.specs.Stores.{Kept}
use Rattle.group_store.specs.declared.directory.Home.{Home}
use Rattle.cache_tier.specs.Groups.{Group, is_table_of}
use Rattle.cache_tier.specs.Routes.{hidden}
use Rattle.stored_tier.specs.Stored.{named_where_cached}

-- the table is of no group
abbrev pub is_uncached : List Group → TableId → Bool
is_uncached groups table = not (is_table_of (λ g. true) groups table)

-- a definition as sessions find it
abbrev pub named_def : List Group → TableId → TableDef → TableDef
named_def groups table def = if is_uncached groups table then hidden def else def

-- these are the definitions that sessions find, and where the tables are kept
pub record AreNamed (groups : List Group) (stores : List Kept) (schema names : List TableDef)
    (homes : List (Option Home)) : Type 0 where
  pub visible : names ≡ named_where_cached groups schema
  pub directory : homes ≡ homes_of stores (length schema)

-- the directory has no home for a table from the first number on, below the second
abbrev pub HasNoHome : List (Option Home) → ℕ → ℕ → Type 0
HasNoHome directory first end =
    (n : ℕ) → first ≤ n → n < end → option_and_then (λ home. home) (slice_get directory n) ≡ None
