-- CREATE CACHE GROUP: the rules that a definition breaks, and the group that it makes. (TimesTen SQL Reference,
-- "CREATE CACHE GROUP"; TimesTen Cache User's Guide, "Cache groups"; the letters and their order are this project's
-- rule.)

use Rattle.std.specs.Prelude.{◌≡◌, ℕ, suc, List, [], ◌∷◌, ◌++◌, ◌==◌, Bool, true, false, ◌&&◌, ◌||◌, not, nat_eq, nat_lt, Option, Some, None, Ok, if◌then◌else◌, is_some, is_none, length, map, position, slice_get, unwrap_or, find}
use Rattle.std.specs.List.{list_any, flat_map}
use Rattle.std.specs.Option.{option_and_then, option_or}
use Rattle.tier_base.specs.declared.code.Code.TheVariants as code
use Rattle.tier_base.specs.declared.limit.Limit.TheVariants as limit
use Rattle.tier_base.specs.declared.number.TableId.{TableId}
use Rattle.row_types.specs.declared.column.Column.{Column}
use Rattle.row_types.specs.declared.column.Ty.{Ty}
use Rattle.row_types.specs.declared.column.Ty.TheVariants as ty
use Rattle.row_types.specs.declared.declaration.ColumnDeclaration.{ColumnDeclaration}
use Rattle.row_types.specs.declared.declaration.ForeignKeyDeclaration.{ForeignKeyDeclaration}
use Rattle.row_types.specs.declared.declaration.TableDeclaration.{TableDeclaration}
use Rattle.row_types.specs.declared.declaration.TypeDeclaration.{TypeDeclaration}
use Rattle.row_types.specs.declared.declaration.TypeDeclaration.TheVariants as written
use Rattle.row_types.specs.declared.rule.Letter.TheVariants as letter
use Rattle.row_types.specs.declared.rule.Rule.{Rule}
use Rattle.table_defs.specs.declared.definition.ForeignKey.{ForeignKey}
use Rattle.table_defs.specs.declared.definition.TableDef.{TableDef}
use Rattle.table_defs.specs.Declarations.{broken_at, has_type, key_count, key_names, type_fault, wrong_name}
use Rattle.table_defs.specs.Names.{place_of_table, same_name}
use Rattle.instances.specs.declared.tree.Child.{Child}
use Rattle.instances.specs.declared.tree.Root.{Root}
use Rattle.instances.specs.declared.tree.Tree.{Tree}
use Rattle.resolution.specs.Assignments.{column_named}
use Rattle.resolution.specs.Literals.{unheld_in_filter}
use Rattle.resolution.specs.Placing.{filter_seen, placed_filter}
use Rattle.resolution.specs.Scopes.{SeenColumn, columns_seen}
use Rattle.resolution.specs.WrittenTypes.{is_sound_filter}
use Rattle.sql_subset.specs.declared.stmt.AgingClause.{AgingClause}
use Rattle.sql_subset.specs.declared.stmt.AgingRule.{AgingRule as AgingWords}
use Rattle.sql_subset.specs.declared.stmt.AgingRule.TheVariants as words
use Rattle.sql_subset.specs.declared.stmt.Autorefresh.{Autorefresh}
use Rattle.sql_subset.specs.declared.stmt.CreateGroup.{CreateGroup}
use Rattle.sql_subset.specs.declared.stmt.GroupKind.{GroupKind}
use Rattle.sql_subset.specs.declared.stmt.GroupKind.TheVariants.{ReadOnly, AsynchronousWritethrough, SynchronousWritethrough, UserManaged}
use Rattle.sql_subset.specs.declared.stmt.GroupTable.{GroupTable}
use Rattle.sql_subset.specs.declared.stmt.RefreshMode.TheVariants as mode
use Rattle.sql_subset.specs.declared.stmt.RefreshState.TheVariants as state
use Rattle.sql_subset.specs.declared.stmt.Stmt.TheVariants as statements
use Rattle.sql_print.specs.Printed.{printed}
use Rattle.cache_tier.specs.declared.group.AgingRule.{AgingRule}
use Rattle.cache_tier.specs.declared.group.AgingRule.TheVariants.{ByTime, LastUse}
use Rattle.cache_tier.specs.declared.group.GroupDef.{GroupDef}
use Rattle.cache_tier.specs.Groups.{Group, defines_name, is_defined_on}
use Rattle.cache_tier.specs.Rules.{at_limit, broken_if, lettered, named, no_type, plain, rule_in}

-- the text of the definition that the journal keeps, which reads back as the definition's normal form
abbrev pub text_of : CreateGroup → List ℕ
text_of d = printed (statements.CreateGroup d)

abbrev pub is_read_only_kind : GroupKind → Bool
is_read_only_kind ReadOnly = true
is_read_only_kind AsynchronousWritethrough = false
is_read_only_kind SynchronousWritethrough = false
is_read_only_kind UserManaged = false

-- a table of the definition with the backing table of its name, and the tables of the definition before it
pub record Placed : Type 0 where
  pub it : GroupTable
  pub id : TableId
  pub def : TableDef
  pub before : List GroupTable

abbrev pub placed_if : List TableDef → List GroupTable → GroupTable → Option TableId → List Placed
placed_if schema before g None = []
placed_if schema before g (Some t) = of_def (slice_get schema t.0)
  where
    of_def : Option TableDef → List Placed
    of_def None = []
    of_def (Some def) = record { it = g; id = t; def = def; before = before } ∷ []

abbrev pub placed_from : List TableDef → List GroupTable → List GroupTable → List Placed
placed_from schema before [] = []
placed_from schema before (g ∷ more) =
    placed_if schema before g (place_of_table schema g.table.name) ++ placed_from schema (before ++ g ∷ []) more

-- the tables of a definition that there are at the bank
abbrev pub placed_tables : List TableDef → CreateGroup → List Placed
placed_tables schema d = placed_from schema [] d.tables

-- the names of tables in the order of the text: each table, and the one behind its REFERENCES
abbrev pub names_in : TableDeclaration → List (List ℕ)
names_in d = d.name ∷ referred d.foreign_key
  where
    referred : Option ForeignKeyDeclaration → List (List ℕ)
    referred None = []
    referred (Some f) = f.parent ∷ []

abbrev pub table_names : CreateGroup → List (List ℕ)
table_names d = flat_map (λ g. names_in g.table) d.tables

-- 102 of the first that there isn't
abbrev pub first_unknown : List TableDef → List (List ℕ) → Option Rule
first_unknown schema [] = None
first_unknown schema (name ∷ names) =
    if is_some (place_of_table schema name) then first_unknown schema names else Some (named code.UnknownTable name)

-- the column of an AGING clause
abbrev pub aging_column : Option AgingClause → Option (List ℕ)
aging_column None = None
aging_column (Some clause) = of_rule clause.rule
  where
    of_rule : AgingWords → Option (List ℕ)
    of_rule words.LastUse = None
    of_rule (words.Time t) = Some t.column

abbrev pub is_known_column : List Column → Option (List ℕ) → Bool
is_known_column columns None = true
is_known_column columns (Some name) = is_some (column_named columns name)

-- a type of the form that is written: a condition is judged by forms, and behind it whether there are such types
abbrev pub form_of : TypeDeclaration → Ty
form_of written.TtInteger = ty.TtInteger
form_of written.TtBigint = ty.TtBigint
form_of (written.Number precision scale) = ty.Number 1 0
form_of (written.Varchar2 digits) = ty.Varchar2 1
form_of written.Timestamp = ty.Timestamp

-- the columns as the definition declares them: a condition and an AGING clause name these
abbrev pub column_declared : ColumnDeclaration → Column
column_declared c = record { name = c.name; ty = form_of c.ty; not_null = c.not_null }

abbrev pub declared_columns : TableDeclaration → List Column
declared_columns d = map column_declared d.columns

abbrev pub scope_of : Placed → List SeenColumn
scope_of p = columns_seen p.def.name (declared_columns p.it.table)

-- 103: a name of the declaration, then the column of AGING, then a name of the condition
abbrev pub column_fault : Placed → Option Rule
column_fault p =
    option_or (broken_at code.UnknownColumn (wrong_name p.it.table))
    (option_or
    (if is_known_column (declared_columns p.it.table) (aging_column p.it.aging)
    then None
    else broken_at code.UnknownColumn (aging_column p.it.aging))
    (rule_in (placed_filter (scope_of p) p.it.filter)))

abbrev pub first_fault : (Placed → Option Rule) → List Placed → Option Rule
first_fault fault [] = None
first_fault fault (p ∷ more) = option_or (fault p) (first_fault fault more)

-- 102, then 103, then 113 where a group has the name
abbrev pub definition_names : List TableDef → List GroupDef → CreateGroup → Option Rule
definition_names schema groups d =
    option_or (first_unknown schema (table_names d))
    (option_or (first_fault column_fault (placed_tables schema d))
    (broken_if (list_any (defines_name d.name) groups) (named code.NameInUse d.name)))

-- 104 of a condition
abbrev pub has_unsound_filter : Placed → Bool
has_unsound_filter p = not (is_sound_filter (scope_of p) p.it.filter)

-- 105 of a literal of a condition, and of the number of a type
abbrev pub has_unheld_filter : Placed → Bool
has_unheld_filter p = unheld_in_filter p.it.filter

abbrev pub column_type_fault : Placed → Option Rule
column_type_fault p = type_fault p.it.table.columns

-- 104, then 105
abbrev pub types_fault : List Placed → Option Rule
types_fault tables =
    option_or (broken_if (list_any has_unsound_filter tables) (plain code.TypeMismatch))
    (option_or (broken_if (list_any has_unheld_filter tables) no_type) (first_fault column_type_fault tables))

abbrev pub definition_types : List TableDef → CreateGroup → Option Rule
definition_types schema d = types_fault (placed_tables schema d)

-- the column is there, and has this name
abbrev pub has_column_name : List ℕ → Option Column → Bool
has_column_name name None = false
has_column_name name (Some column) = same_name column.name name

-- these are the names of the columns at these places, in this order
abbrev pub are_names_of : List Column → List ℕ → List (List ℕ) → Bool
are_names_of columns [] [] = true
are_names_of columns (place ∷ places) (name ∷ names) =
    has_column_name name (slice_get columns place) && are_names_of columns places names
are_names_of columns [] (name ∷ names) = false
are_names_of columns (place ∷ places) [] = false

-- the name of a column, where there is one
abbrev pub own_key : Option ColumnDeclaration → List (List ℕ)
own_key None = []
own_key (Some c) = c.name ∷ []

-- the primary key as it is declared: the names of its clause, else that of the column with PRIMARY KEY behind it
abbrev pub declared_key : TableDeclaration → List (List ℕ)
declared_key d = if length (key_names d) == 0 then own_key (find (λ c. c.primary_key) d.columns) else key_names d

-- a: there is one primary key, and its columns have the names of those of the backing table's, in its order
abbrev pub has_other_key : Placed → Bool
has_other_key p =
    not (key_count p.it.table == 1 && are_names_of p.def.columns p.def.primary_key (declared_key p.it.table))

-- one of these tables has this name
abbrev pub is_name_among : List GroupTable → List ℕ → Bool
is_name_among tables name = list_any (λ g. same_name g.table.name name) tables

-- b: the parent isn't an earlier table of the group, and the first table has none
abbrev pub has_foreign_parent : Placed → Bool
has_foreign_parent p = of_key p.it.table.foreign_key
  where
    of_key : Option ForeignKeyDeclaration → Bool
    of_key None = false
    of_key (Some f) = not (is_name_among p.before f.parent)

-- the first table of the definition
abbrev pub is_root : Placed → Bool
is_root p = length p.before == 0

-- c: a later table without a foreign key
abbrev pub is_apart : Placed → Bool
is_apart p = not (is_root p) && is_none p.it.table.foreign_key

-- d: a table that is in a group already, or twice in this one
abbrev pub is_grouped : List GroupDef → Placed → Bool
is_grouped groups p = list_any (is_defined_on p.id) groups || is_name_among p.before p.def.name

abbrev pub same_columns : List ColumnDeclaration → List Column → Bool
same_columns [] [] = true
same_columns (a ∷ declared) (b ∷ columns) =
    same_name a.name b.name && has_type (Some a) b.ty && same_columns declared columns
same_columns [] (b ∷ columns) = false
same_columns (a ∷ declared) [] = false

abbrev pub same_bool : Bool → Bool → Bool
same_bool true b = b
same_bool false b = not b

-- the table of this name is the one of this number, which is there
abbrev pub is_table_named : List TableDef → List ℕ → TableId → Bool
is_table_named schema name t = of_place (place_of_table schema name)
  where
    of_place : Option TableId → Bool
    of_place None = false
    of_place (Some found) = nat_eq found.0 t.0

-- these are the names of the columns of the table's primary key, in its order
abbrev pub is_key_of : Option TableDef → List (List ℕ) → Bool
is_key_of None names = false
is_key_of (Some def) names = are_names_of def.columns def.primary_key names

-- the foreign key of a table with these columns is declared as it is: its columns, its parent by the columns of that
-- table's primary key, and ON DELETE CASCADE
abbrev pub is_same_foreign : List TableDef → List Column → Option ForeignKeyDeclaration → Option ForeignKey → Bool
is_same_foreign schema columns None None = true
is_same_foreign schema columns (Some f) (Some foreign) =
    are_names_of columns foreign.columns f.columns && is_table_named schema f.parent foreign.parent
    && is_key_of (slice_get schema foreign.parent.0) f.parent_columns && same_bool f.cascade foreign.cascade
is_same_foreign schema columns None (Some foreign) = false
is_same_foreign schema columns (Some f) None = false

-- e: other columns or types, or another foreign key or ON DELETE CASCADE; a root leaves its own out
abbrev pub differs_from_backing : List TableDef → Placed → Bool
differs_from_backing schema p =
    not
    (same_columns p.it.table.columns p.def.columns
    && (is_root p || is_same_foreign schema p.def.columns p.it.table.foreign_key p.def.foreign_key))

-- f: a condition
abbrev pub has_filter : Placed → Bool
has_filter p = is_some p.it.filter

-- h: aging by use, be it ON or OFF
abbrev pub is_by_use : Option AgingClause → Bool
is_by_use None = false
is_by_use (Some clause) = of_rule clause.rule
  where
    of_rule : AgingWords → Bool
    of_rule words.LastUse = true
    of_rule (words.Time t) = false

abbrev pub is_required_time : Option Column → Bool
is_required_time None = false
is_required_time (Some column) = column.not_null && of_type column.ty
  where
    of_type : Ty → Bool
    of_type ty.TtInteger = false
    of_type ty.TtBigint = false
    of_type (ty.Number precision scale) = false
    of_type (ty.Varchar2 n) = false
    of_type ty.Timestamp = true

abbrev pub has_use_aging : Placed → Bool
has_use_aging p = is_by_use p.it.aging

-- i: the aging column isn't a NOT NULL TIMESTAMP, or a child has an aging clause
abbrev pub has_wrong_aging : Placed → Bool
has_wrong_aging p = is_some p.it.aging && not (is_root p) || of_column (aging_column p.it.aging)
  where
    of_column : Option (List ℕ) → Bool
    of_column None = false
    of_column (Some name) =
        not (is_required_time (option_and_then (slice_get p.def.columns) (column_named p.def.columns name)))

-- one of these tables has this number
abbrev pub is_inside : List Placed → TableId → Bool
is_inside all t = list_any (λ p. nat_eq p.id.0 t.0) all

abbrev pub refers_inside : List Placed → Option ForeignKey → Bool
refers_inside all None = false
refers_inside all (Some f) = is_inside all f.parent

-- j: a foreign key to a table outside the group
abbrev pub refers_out : List Placed → Placed → Bool
refers_out all p = is_some p.def.foreign_key && not (refers_inside all p.def.foreign_key)

-- or from one: of these tables, which are the schema's from a place on
abbrev pub is_referred_to : List Placed → ℕ → List TableDef → Bool
is_referred_to all place [] = false
is_referred_to all place (def ∷ defs) =
    refers_inside all def.foreign_key && not (is_inside all (record { 0 = place }))
    || is_referred_to all (suc place) defs

abbrev pub is_joined_outside : List TableDef → List Placed → Bool
is_joined_outside schema all = list_any (refers_out all) all || is_referred_to all 0 schema

-- k: a number past this profile's range
abbrev pub is_outside : ℕ → ℕ → ℕ → Bool
is_outside low high n = nat_lt n low || nat_lt high n

abbrev pub has_wrong_interval : Option Autorefresh → Bool
has_wrong_interval None = false
has_wrong_interval (Some refresh) = is_outside 1 86400000 refresh.interval

abbrev pub has_wrong_time : Option AgingClause → Bool
has_wrong_time None = false
has_wrong_time (Some clause) = of_rule clause.rule
  where
    of_rule : AgingWords → Bool
    of_rule words.LastUse = false
    of_rule (words.Time t) = is_outside 1 1000000000 t.lifetime || is_outside 1 1000000000 t.cycle

abbrev pub has_wrong_times : Placed → Bool
has_wrong_times p = has_wrong_time p.it.aging

-- 114 of tables that don't stand as the backing tables do, or not in one tree: the letters from a to e
abbrev pub tables_fault : List TableDef → List GroupDef → List Placed → Option Rule
tables_fault schema groups tables =
    option_or (broken_if (list_any has_other_key tables) (lettered letter.A))
    (option_or (broken_if (list_any has_foreign_parent tables) (lettered letter.B))
    (option_or (broken_if (list_any is_apart tables) (lettered letter.C))
    (option_or (broken_if (list_any (is_grouped groups) tables) (lettered letter.D))
    (broken_if (list_any (differs_from_backing schema) tables) (lettered letter.E)))))

-- 114 of clauses that don't suit the kind, and of numbers: the letters from f to k
abbrev pub clauses_fault : List TableDef → CreateGroup → List Placed → Option Rule
clauses_fault schema d tables =
    option_or (broken_if (not (is_read_only_kind d.kind) && list_any has_filter tables) (lettered letter.F))
    (option_or (broken_if (not (is_read_only_kind d.kind) && is_some d.autorefresh) (lettered letter.G))
    (option_or
    (broken_if (is_read_only_kind d.kind && not d.dynamic && list_any has_use_aging tables) (lettered letter.H))
    (option_or (broken_if (list_any has_wrong_aging tables) (lettered letter.I))
    (option_or (broken_if (not (is_read_only_kind d.kind) && is_joined_outside schema tables) (lettered letter.J))
    (broken_if (has_wrong_interval d.autorefresh || list_any has_wrong_times tables) (lettered letter.K))))))

-- 114 by its first letter
abbrev pub letter_fault : List TableDef → List GroupDef → CreateGroup → List Placed → Option Rule
letter_fault schema groups d tables = option_or (tables_fault schema groups tables) (clauses_fault schema d tables)

-- 114, and then 119 of the groups, as many as there may be
abbrev pub definition_fault : List TableDef → List GroupDef → CreateGroup → Option Rule
definition_fault schema groups d =
    option_or (letter_fault schema groups d (placed_tables schema d)) (at_limit limit.Groups (length groups))

-- the first rule that the definition breaks: names, 122 where the session has uncommitted writes, types, 114 and 119
abbrev pub definition_broken : List TableDef → List GroupDef → Bool → CreateGroup → Option Rule
definition_broken schema groups has_writes d =
    option_or (definition_names schema groups d)
    (option_or (broken_if has_writes (plain code.TransactionOpen))
    (option_or (definition_types schema d) (definition_fault schema groups d)))

-- AUTOREFRESH without a part: INCREMENTAL, 5 MINUTES, PAUSED
abbrev pub default_refresh : Autorefresh
default_refresh = record { mode = mode.Incremental; interval = 300000; state = state.Paused }

abbrev pub refresh_of : CreateGroup → Autorefresh
refresh_of d = unwrap_or d.autorefresh default_refresh

abbrev pub rule_of : List Column → AgingWords → AgingRule
rule_of columns words.LastUse = LastUse
rule_of columns (words.Time t) =
    ByTime (record { column = unwrap_or (column_named columns t.column) 0; lifetime = t.lifetime; cycle = t.cycle })

-- LRU is ON by default for dynamic groups
abbrev pub aging_of : Bool → List Column → Option AgingClause → Option AgingRule
aging_of dynamic columns None = if dynamic then Some LastUse else None
aging_of dynamic columns (Some clause) = if clause.on then Some (rule_of columns clause.rule) else None

abbrev pub root_aging : CreateGroup → List Placed → Option AgingRule
root_aging d [] = None
root_aging d (p ∷ more) = aging_of d.dynamic p.def.columns p.it.aging

-- the group's tree: each table with the evaluator's condition that stands for the one that is written
pub record IsRootOf (p : Placed) (root : Root) : Type 0 where
  pub table : root.table ≡ p.id
  pub filter : placed_filter (scope_of p) p.it.filter ≡ Ok (filter_seen root.filter)

abbrev pub parent_place : List GroupTable → Option ForeignKeyDeclaration → ℕ
parent_place before None = 0
parent_place before (Some f) = unwrap_or (position (λ g. same_name g.table.name f.parent) before) 0

pub record IsChildOf (p : Placed) (child : Child) : Type 0 where
  pub table : child.table ≡ p.id
  pub parent : child.parent ≡ parent_place p.before p.it.table.foreign_key
  pub filter : placed_filter (scope_of p) p.it.filter ≡ Ok (filter_seen child.filter)

abbrev pub AreChildrenOf : List Placed → List Child → Type 0
AreChildrenOf [] [] = Unit {0}
AreChildrenOf (p ∷ tables) (child ∷ children) = IsChildOf p child × AreChildrenOf tables children
AreChildrenOf [] (child ∷ children) = ⊥
AreChildrenOf (p ∷ tables) [] = ⊥

abbrev pub IsTreeOf : List Placed → Tree → Type 0
IsTreeOf [] tree = ⊥
IsTreeOf (p ∷ tables) tree = IsRootOf p tree.root × AreChildrenOf tables tree.children

-- what the definition says, with this tree
abbrev pub defined_by : List TableDef → CreateGroup → Tree → GroupDef
defined_by schema d tree = record {
  name = d.name;
  kind = d.kind;
  dynamic = d.dynamic;
  tree = tree;
  mode = (refresh_of d).mode;
  interval = (refresh_of d).interval;
  aging = root_aging d (placed_tables schema d);
  declared = d;
}

-- the group as it begins, at this moment, with this first ticket: it shows nothing, and moves no position
abbrev pub new_group : ℕ → ℕ → CreateGroup → GroupDef → Group
new_group first now d def = record {
  def = def;
  first = first;
  state = (refresh_of d).state;
  loaded = false;
  keys = [];
  position = None;
  horizon = None;
  aged = now;
}
