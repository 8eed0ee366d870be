-- The normal form is its own.
use Rattle.std.proofs.Common.{◌≡◌, ℕ, Bool, true, false, ◌||◌, eqb, cond, List, [], ◌∷◌, map, Option, Some, None, refl, ap, ◌∙◌}
use Rattle.std.specs.List.{filter}
use Rattle.sql_subset.specs.row_types.specs.declared.declaration.TypeDeclaration.{TypeDeclaration}
use Rattle.sql_subset.specs.row_types.specs.declared.declaration.TypeDeclaration.TheVariants as types
use Rattle.sql_subset.specs.row_types.specs.declared.declaration.ColumnDeclaration.{ColumnDeclaration}
use Rattle.sql_subset.specs.row_types.specs.declared.declaration.TableDeclaration.{TableDeclaration}
use Rattle.sql_subset.specs.declared.stmt.AgingClause.{AgingClause}
use Rattle.sql_subset.specs.declared.stmt.GroupTable.{GroupTable}
use Rattle.sql_subset.specs.declared.stmt.Stmt.{Stmt}
use Rattle.sql_subset.specs.declared.stmt.Stmt.TheVariants as v
use Rattle.sql_words.specs.NormalTables.{by_value, scale_by_value, normal_type, marked, single_key, is_in, foreign_columns, normal_column, with_key, normal_table}
use Rattle.sql_print.specs.Normal.{normal_aging, normal_group_table, normal_group_tables, normal}

value_again : (ds : List ℕ) → by_value (by_value ds) ≡ by_value ds
value_again [] = refl
value_again (b ∷ []) = refl
value_again (b ∷ c ∷ ds) = by (eqb b 48) refl (value_again (c ∷ ds))
  where
    by : (x : Bool) → eqb b 48 ≡ x → by_value (by_value (c ∷ ds)) ≡ by_value (c ∷ ds) → by_value (cond x (by_value (c ∷ ds)) (b ∷ c ∷ ds)) ≡ cond x (by_value (c ∷ ds)) (b ∷ c ∷ ds)
    by true e h = h
    by false e h = rw e

scale_again : (o : Option (List ℕ)) → by_value (scale_by_value o) ≡ scale_by_value o
scale_again None = refl
scale_again (Some ds) = value_again ds

type_again : (t : TypeDeclaration) → normal_type (normal_type t) ≡ normal_type t
type_again types.TtInteger = refl
type_again types.TtBigint = refl
type_again (types.Varchar2 ds) = ap (λ (x : List ℕ). types.Varchar2 x) (value_again ds)
type_again (types.Number p s) = ap (λ (x : List ℕ). types.Number x (Some (by_value (scale_by_value s)))) (value_again p) ∙ ap (λ (x : List ℕ). types.Number (by_value p) (Some x)) (scale_again s)
type_again types.Timestamp = refl

or_again : (a b c : Bool) → a || b || (a || b || c) ≡ a || b || c
or_again true b c = refl
or_again false true c = refl
or_again false false c = refl

column_again : (key : Option (List (List ℕ))) (foreign : List (List ℕ)) (c : ColumnDeclaration) → normal_column key foreign (normal_column key foreign c) ≡ normal_column key foreign c
column_again (Some names) foreign c =
    ap (λ t. let d : ColumnDeclaration = record { name = c.name; ty = t; not_null = is_in c.name names || is_in c.name foreign || (is_in c.name names || is_in c.name foreign || c.not_null); primary_key = false } in d) (type_again c.ty)
    ∙ ap (λ b. let d : ColumnDeclaration = record { name = c.name; ty = normal_type c.ty; not_null = b; primary_key = false } in d) (or_again (is_in c.name names) (is_in c.name foreign) c.not_null)
column_again None foreign c =
    ap (λ t. let d : ColumnDeclaration = record { name = c.name; ty = t; not_null = is_in c.name foreign || (is_in c.name foreign || c.not_null); primary_key = c.primary_key } in d) (type_again c.ty)
    ∙ ap (λ b. let d : ColumnDeclaration = record { name = c.name; ty = normal_type c.ty; not_null = b; primary_key = c.primary_key } in d) (or_again false (is_in c.name foreign) c.not_null)

columns_again : (key : Option (List (List ℕ))) (foreign : List (List ℕ)) (cs : List ColumnDeclaration) → map (normal_column key foreign) (map (normal_column key foreign) cs) ≡ map (normal_column key foreign) cs
columns_again key foreign [] = refl
columns_again key foreign (c ∷ cs) =
    ap (λ (d : ColumnDeclaration). d ∷ map (normal_column key foreign) (map (normal_column key foreign) cs)) (column_again key foreign c)
    ∙ ap (λ (ds : List ColumnDeclaration). normal_column key foreign c ∷ ds) (columns_again key foreign cs)

marked_some : (names foreign : List (List ℕ)) (cs : List ColumnDeclaration) → marked (map (normal_column (Some names) foreign) cs) ≡ []
marked_some names foreign [] = refl
marked_some names foreign (c ∷ cs) = marked_some names foreign cs

marked_none : (foreign : List (List ℕ)) (cs : List ColumnDeclaration) → marked (map (normal_column None foreign) cs) ≡ marked cs
marked_none foreign [] = refl
marked_none foreign (c ∷ cs) = by c.primary_key (marked_none foreign cs)
  where
    rest : List ColumnDeclaration
    rest = filter (λ d. d.primary_key) (map (normal_column None foreign) cs)

    by : (b : Bool) → marked (map (normal_column None foreign) cs) ≡ marked cs
        → map (λ d. d.name) (cond b (normal_column None foreign c ∷ rest) rest) ≡ map (λ d. d.name) (cond b (c ∷ filter (λ d. d.primary_key) cs) (filter (λ d. d.primary_key) cs))
    by true h = ap (λ (ns : List (List ℕ)). c.name ∷ ns) h
    by false h = h

table_again : (key : Option (List (List ℕ))) (t : TableDeclaration) → single_key t.primary_key (marked t.columns) ≡ key → normal_table (with_key key t) ≡ with_key key t
table_again None t h =
    ap (λ ms. with_key (single_key t.primary_key ms) (with_key None t)) (marked_none (foreign_columns t.foreign_key) t.columns)
    ∙ (ap (λ k. with_key k (with_key None t)) h
    ∙ ap (λ cs. let d : TableDeclaration = record { name = t.name; columns = cs; primary_key = t.primary_key; foreign_key = t.foreign_key } in d) (columns_again None (foreign_columns t.foreign_key) t.columns))
table_again (Some names) t h =
    ap (λ ms. with_key (single_key (Some names) ms) (with_key (Some names) t)) (marked_some names (foreign_columns t.foreign_key) t.columns)
    ∙ ap (λ cs. let d : TableDeclaration = record { name = t.name; columns = cs; primary_key = Some names; foreign_key = t.foreign_key } in d) (columns_again (Some names) (foreign_columns t.foreign_key) t.columns)

aging_again : (b : Bool) (o : Option AgingClause) → normal_aging b (normal_aging b o) ≡ normal_aging b o
aging_again true None = refl
aging_again false None = refl
aging_again b (Some x) = refl

group_table_again : (b : Bool) (t : GroupTable) → normal_group_table b (normal_group_table b t) ≡ normal_group_table b t
group_table_again b t =
    ap (λ x. let u : GroupTable = record { table = x; attribute = t.attribute; filter = t.filter; aging = normal_aging b (normal_aging b t.aging) } in u) (table_again (single_key t.table.primary_key (marked t.table.columns)) t.table refl)
    ∙ ap (λ x. let u : GroupTable = record { table = normal_table t.table; attribute = t.attribute; filter = t.filter; aging = x } in u) (aging_again b t.aging)

children_again : (ts : List GroupTable) → map (normal_group_table false) (map (normal_group_table false) ts) ≡ map (normal_group_table false) ts
children_again [] = refl
children_again (t ∷ ts) =
    ap (λ (u : GroupTable). u ∷ map (normal_group_table false) (map (normal_group_table false) ts)) (group_table_again false t)
    ∙ ap (λ (us : List GroupTable). normal_group_table false t ∷ us) (children_again ts)

group_tables_again : (b : Bool) (ts : List GroupTable) → normal_group_tables b (normal_group_tables b ts) ≡ normal_group_tables b ts
group_tables_again b [] = refl
group_tables_again b (t ∷ ts) =
    ap (λ (u : GroupTable). u ∷ map (normal_group_table false) (map (normal_group_table false) ts)) (group_table_again b t)
    ∙ ap (λ (us : List GroupTable). normal_group_table b t ∷ us) (children_again ts)

pub normal_again : (s : Stmt) → normal (normal s) ≡ normal s
normal_again (v.Select x) = refl
normal_again (v.Write x) = refl
normal_again (v.CreateGroup x) = ap (λ ts. v.CreateGroup (record x { tables = ts })) (group_tables_again x.dynamic x.tables)
normal_again (v.CreateIndex x) = refl
normal_again (v.Load x) = refl
normal_again (v.Refresh x) = refl
normal_again (v.Unload x) = refl
normal_again (v.Flush x) = refl
normal_again (v.Alter x) = refl
normal_again (v.DropGroup x) = refl
normal_again (v.DropIndex x) = refl
normal_again (v.Call x) = refl
normal_again v.Commit = refl
normal_again v.Rollback = refl
