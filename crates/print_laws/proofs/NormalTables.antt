-- The normal form of a table that a line can define is such too.
use Rattle.std.proofs.Common.{ℕ, Bool, true, false, cond, eqb, List, [], ◌∷◌, map, Option, Some, None, refl, arith}
use Rattle.std.specs.List.{filter, list_all}
use Rattle.std.specs.Option.{option_or}
use Rattle.std.specs.Char.{is_ascii_digit}
use Rattle.sql_print.specs.row_types.specs.declared.declaration.TypeDeclaration.{TypeDeclaration}
use Rattle.sql_print.specs.row_types.specs.declared.declaration.TypeDeclaration.TheVariants as types
use Rattle.sql_print.specs.row_types.specs.declared.declaration.ColumnDeclaration.{ColumnDeclaration}
use Rattle.sql_print.specs.row_types.specs.declared.declaration.TableDeclaration.{TableDeclaration}
use Rattle.sql_print.specs.sql_grammar.proofs.Lists.{and_right}
use Rattle.sql_print.specs.sql_words.specs.NormalTables.{by_value, foreign_columns, marked, normal_column, normal_table, normal_type, scale_by_value, single_key, with_key}
use Rattle.print_laws.proofs.Columns.{IsColumn, IsScale, IsType}
use Rattle.print_laws.proofs.Lists.{AllGood, SomeGood}
use Rattle.print_laws.proofs.Literals.{IsDigits}
use Rattle.print_laws.proofs.Names.{IsIdentifier}
use Rattle.print_laws.proofs.Tables.{IsKey, IsTable}

value_digits : (w : List ℕ) → IsDigits w → IsDigits (by_value w)
value_digits [] h = record { digits = refl; some = omega arith }
value_digits (b ∷ []) h = h
value_digits (b ∷ c ∷ w) h = by (eqb b 48) (value_digits (c ∷ w) (record { digits = and_right (is_ascii_digit b) (list_all is_ascii_digit (c ∷ w)) h.digits; some = omega arith }))
  where
    by : (x : Bool) → IsDigits (by_value (c ∷ w)) → IsDigits (cond x (by_value (c ∷ w)) (b ∷ c ∷ w))
    by true g = g
    by false g = h

scale_digits : (o : Option (List ℕ)) → IsScale o → IsDigits (scale_by_value o)
scale_digits None h = record { digits = refl; some = omega arith }
scale_digits (Some w) h = value_digits w h

type_normal : (ty : TypeDeclaration) → IsType ty → IsType (normal_type ty)
type_normal types.TtInteger h = h
type_normal types.TtBigint h = h
type_normal (types.Varchar2 w) h = value_digits w h
type_normal (types.Number w s) (h, t) = (value_digits w h, scale_digits s t)
type_normal types.Timestamp h = h

column_normal : (key : Option (List (List ℕ))) (foreign : List (List ℕ)) (c : ColumnDeclaration) → IsColumn c → IsColumn (normal_column key foreign c)
column_normal key foreign c h = record { name = h.name; ty = type_normal c.ty h.ty }

columns_normal : (key : Option (List (List ℕ))) (foreign : List (List ℕ)) (cs : List ColumnDeclaration) → AllGood IsColumn cs → AllGood IsColumn (map (normal_column key foreign) cs)
columns_normal key foreign [] h = tt
columns_normal key foreign (c ∷ cs) (h, t) = (column_normal key foreign c h, columns_normal key foreign cs t)

some_normal : (key : Option (List (List ℕ))) (foreign : List (List ℕ)) (cs : List ColumnDeclaration) → SomeGood IsColumn cs → SomeGood IsColumn (map (normal_column key foreign) cs)
some_normal key foreign [] h = h
some_normal key foreign (c ∷ cs) (h, t) = (column_normal key foreign c h, columns_normal key foreign cs t)

-- the columns that are marked are columns
marked_are : (cs : List ColumnDeclaration) → AllGood IsColumn cs → AllGood IsIdentifier (marked cs)
marked_are [] h = tt
marked_are (c ∷ cs) (h, t) = by c.primary_key (marked_are cs t)
  where
    by : (b : Bool) → AllGood IsIdentifier (marked cs) → AllGood IsIdentifier (map (λ d. d.name) (cond b (c ∷ filter (λ d. d.primary_key) cs) (filter (λ d. d.primary_key) cs)))
    by true m = (h.name, m)
    by false m = m

all_of : (cs : List ColumnDeclaration) → SomeGood IsColumn cs → AllGood IsColumn cs
all_of [] h = tt
all_of (c ∷ cs) h = h

single_is : (key : Option (List (List ℕ))) (names : List (List ℕ)) → IsKey key → AllGood IsIdentifier names → IsKey (single_key key names)
single_is None [] h t = tt
single_is None (x ∷ []) h t = t
single_is None (x ∷ y ∷ xs) h t = tt
single_is (Some ys) [] h t = h
single_is (Some ys) (x ∷ xs) h t = tt

key_or : (a b : Option (List (List ℕ))) → IsKey a → IsKey b → IsKey (option_or a b)
key_or None b h t = t
key_or (Some x) b h t = h

with_key_is : (key : Option (List (List ℕ))) (t : TableDeclaration) → IsKey key → IsTable t → IsTable (with_key key t)
with_key_is key t k h = record { name = h.name; columns = some_normal key (foreign_columns t.foreign_key) t.columns h.columns; key = key_or key t.primary_key k h.key; foreign = h.foreign }

pub table_normal : (t : TableDeclaration) → IsTable t → IsTable (normal_table t)
table_normal t h = with_key_is (single_key t.primary_key (marked t.columns)) t (single_is t.primary_key (marked t.columns) h.key (marked_are t.columns (all_of t.columns h.columns))) h
