-- What is printed is read back.

use Rattle.std.specs.Prelude.{ℕ, ◌≡◌, List, ◌++◌, codes, Result, Ok, Err}
use Rattle.sql_print.specs.row_types.specs.declared.declaration.TableDeclaration.{TableDeclaration}
use Rattle.sql_print.specs.sql_query.specs.declared.write.Write.{Write}
use Rattle.sql_print.specs.sql_subset.specs.declared.request.ConsoleRequest.TheVariants.{CreateTable, Writes}
use Rattle.sql_print.specs.sql_subset.specs.declared.request.Line.TheVariants.{Console, Session}
use Rattle.sql_print.specs.sql_subset.specs.declared.request.ParseError.{ParseError}
use Rattle.sql_print.specs.sql_subset.specs.declared.request.ParseError.TheVariants as errors
use Rattle.sql_print.specs.sql_subset.specs.declared.request.Request.TheVariants.{Statement}
use Rattle.sql_print.specs.sql_subset.specs.declared.stmt.CreateGroup as groups
use Rattle.sql_print.specs.sql_subset.specs.declared.stmt.Stmt.{Stmt}
use Rattle.sql_print.specs.sql_subset.specs.declared.stmt.Stmt.TheVariants as statements
use Rattle.sql_print.specs.sql_subset.specs.Lines.{Means, Parses, Says, Spells}
use Rattle.sql_print.specs.sql_words.specs.NormalTables.{normal_table}
use Rattle.sql_print.specs.Normal.{normal, normal_group}
use Rattle.sql_print.specs.Printed.{printed, printed_table, printed_writes}

-- A table that some line of the console defines: behind the console's head, what is printed of it is a line that
-- defines the table's normal form.
abbrev pub PrintsTables : Type 0
PrintsTables =
    (bytes : List ℕ) (t : TableDeclaration) → Means bytes (Says (Console (CreateTable t)))
    → Means (codes "backing: " ++ printed_table t) (Says (Console (CreateTable (normal_table t))))

-- A statement that some bytes spell: what is printed of it spells its normal form.
abbrev pub PrintsStatements : Type 0
PrintsStatements = (bytes : List ℕ) (s : Stmt) → Spells bytes s → Spells (printed s) (normal s)

-- The answer to the bytes of a statement is this statement, or want of memory.
abbrev pub IsAnswer : Result Stmt ParseError → Stmt → Type 0
IsAnswer (Ok x) s = x ≡ s
IsAnswer (Err errors.Memory) s = Unit {0}
IsAnswer (Err (errors.At p)) s = ⊥
IsAnswer (Err errors.Depth) s = ⊥

-- Bytes that spell a statement: each answer to them is that statement, or want of memory.
abbrev pub ReadsStatements : Type 0
ReadsStatements =
    (bytes : List ℕ) (s : Stmt) (answer : Result Stmt ParseError) → Spells bytes s → Parses bytes answer
    → IsAnswer answer s

-- A statement that some line of a session asks for: what is printed of it spells its normal form.
abbrev pub PrintsAsked : Type 0
PrintsAsked =
    (bytes label : List ℕ) (s : Stmt) → Means bytes (Says (Session label (Statement s))) → Spells (printed s) (normal s)

-- A cache group whose definition some bytes spell: what is printed of the definition spells that of the group's normal
-- form.
abbrev pub PrintsGroups : Type 0
PrintsGroups =
    (bytes : List ℕ) (g : groups.CreateGroup) → Spells bytes (statements.CreateGroup g)
    → Spells (printed (statements.CreateGroup g)) (statements.CreateGroup (normal_group g))

-- Writes that some line of the console asks for: behind the console's head, what is printed of them is a line that asks
-- for them.
abbrev pub PrintsWrites : Type 0
PrintsWrites =
    (bytes : List ℕ) (ws : List Write) → Means bytes (Says (Console (Writes ws)))
    → Means (codes "backing: " ++ printed_writes ws) (Says (Console (Writes ws)))
