-- The normal form of a statement: its tables are in theirs, and defaults stand written out (this project's rule).
use Rattle.std.specs.Prelude.{Bool, true, false, List, [], ◌∷◌, map, Option, Some, None}
use Rattle.sql_subset.specs.declared.stmt.AgingClause.{AgingClause}
use Rattle.sql_subset.specs.declared.stmt.AgingRule.TheVariants.{LastUse}
use Rattle.sql_subset.specs.declared.stmt.CreateGroup as groups
use Rattle.sql_subset.specs.declared.stmt.GroupTable.{GroupTable}
use Rattle.sql_subset.specs.declared.stmt.Stmt.{Stmt}
use Rattle.sql_subset.specs.declared.stmt.Stmt.TheVariants as v
use Rattle.sql_words.specs.NormalTables.{normal_table}

-- A dynamic group's root without an AGING clause ages by last use. (TimesTen SQL Reference, "CREATE CACHE GROUP".)
abbrev pub normal_aging : Bool → Option AgingClause → Option AgingClause
normal_aging dynamic (Some aging) = Some aging
normal_aging true None = Some (record { rule = LastUse; on = true })
normal_aging false None = None

-- a table of a group, which is a dynamic group's root or not
abbrev pub normal_group_table : Bool → GroupTable → GroupTable
normal_group_table dynamic t =
    record {
      table = normal_table t.table;
      attribute = t.attribute;
      filter = t.filter;
      aging =
          normal_aging dynamic t.aging;
    }

-- the first table is the root
abbrev pub normal_group_tables : Bool → List GroupTable → List GroupTable
normal_group_tables dynamic [] = []
normal_group_tables dynamic (t ∷ ts) = normal_group_table dynamic t ∷ map (normal_group_table false) ts

abbrev pub normal_group : groups.CreateGroup → groups.CreateGroup
normal_group group = record group { tables = normal_group_tables group.dynamic group.tables }

-- the normal form
abbrev pub normal : Stmt → Stmt
normal (v.CreateGroup group) = v.CreateGroup (normal_group group)
normal statement = statement
