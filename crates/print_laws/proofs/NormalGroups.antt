-- The normal form of a group that a statement can define is such too.
use Rattle.std.proofs.Common.{Bool, true, false, List, [], ◌∷◌, map, Option, Some, None}
use Rattle.sql_print.specs.sql_subset.specs.declared.stmt.AgingClause.{AgingClause}
use Rattle.sql_print.specs.sql_subset.specs.declared.stmt.CreateGroup as groups
use Rattle.sql_print.specs.sql_subset.specs.declared.stmt.GroupKind.{GroupKind}
use Rattle.sql_print.specs.sql_subset.specs.declared.stmt.GroupTable.{GroupTable}
use Rattle.sql_print.specs.Normal.{normal_aging, normal_group, normal_group_table, normal_group_tables}
use Rattle.print_laws.proofs.GroupTables.{IsAging, IsGroupTable}
use Rattle.print_laws.proofs.Groups.{IsGroup}
use Rattle.print_laws.proofs.Lists.{AllGood, SomeGood}
use Rattle.print_laws.proofs.NormalTables.{table_normal}

aging_normal : (d : Bool) (a : Option AgingClause) → IsAging a → IsAging (normal_aging d a)
aging_normal d (Some a) h = h
aging_normal true None h = tt
aging_normal false None h = tt

group_table_normal : (kind : GroupKind) (d : Bool) (t : GroupTable) → IsGroupTable kind t → IsGroupTable kind (normal_group_table d t)
group_table_normal kind d t h = record { table = table_normal t.table h.table; attribute = h.attribute; filter = h.filter; aging = aging_normal d t.aging h.aging }

others_normal : (kind : GroupKind) (ts : List GroupTable) → AllGood (IsGroupTable kind) ts → AllGood (IsGroupTable kind) (map (normal_group_table false) ts)
others_normal kind [] h = tt
others_normal kind (t ∷ ts) (h, r) = (group_table_normal kind false t h, others_normal kind ts r)

tables_normal : (kind : GroupKind) (d : Bool) (ts : List GroupTable) → SomeGood (IsGroupTable kind) ts → SomeGood (IsGroupTable kind) (normal_group_tables d ts)
tables_normal kind d [] h = h
tables_normal kind d (t ∷ ts) (h, r) = (group_table_normal kind d t h, others_normal kind ts r)

pub group_normal : (g : groups.CreateGroup) → IsGroup g → IsGroup (normal_group g)
group_normal g h = record { name = h.name; way = h.way; refresh = h.refresh; tables = tables_normal g.kind g.dynamic g.tables h.tables }
