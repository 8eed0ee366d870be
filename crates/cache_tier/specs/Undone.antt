-- What is read but isn't done yet. User-managed groups, GROUP BY and indexes come later. (TimesTen Cache User's Guide,
-- "User managed cache groups"; TimesTen SQL Reference, "SELECT", "CREATE INDEX", "DROP INDEX"; that such a line is 101
-- at byte 0, before all but its own 101 and 119, is this project's rule.)

use Rattle.std.specs.Prelude.{Bool, true, false, length, nat_lt}
use Rattle.sql_query.specs.declared.query.Query.{Query}
use Rattle.sql_subset.specs.declared.stmt.CreateGroup.{CreateGroup}
use Rattle.sql_subset.specs.declared.stmt.GroupKind.{GroupKind}
use Rattle.sql_subset.specs.declared.stmt.GroupKind.TheVariants as kind
use Rattle.sql_subset.specs.declared.stmt.Stmt.{Stmt}
use Rattle.sql_subset.specs.declared.stmt.Stmt.TheVariants as says
use Rattle.sql_subset.specs.declared.request.Request.{Request}
use Rattle.sql_subset.specs.declared.request.Request.TheVariants as asks_for
use Rattle.sql_subset.specs.declared.request.Line.{Line}
use Rattle.sql_subset.specs.declared.request.Line.TheVariants as line

-- USERMANAGED
abbrev pub is_user_managed : GroupKind → Bool
is_user_managed kind.ReadOnly = false
is_user_managed kind.AsynchronousWritethrough = false
is_user_managed kind.SynchronousWritethrough = false
is_user_managed kind.UserManaged = true

-- a definition of a group that isn't done yet
abbrev pub is_undone_group : CreateGroup → Bool
is_undone_group d = is_user_managed d.kind

-- the query groups its rows
abbrev pub is_grouped : Query → Bool
is_grouped q = nat_lt 0 (length q.groups)

abbrev pub is_undone_statement : Stmt → Bool
is_undone_statement (says.Select q) = is_grouped q
is_undone_statement (says.Write w) = false
is_undone_statement (says.CreateGroup d) = is_undone_group d
is_undone_statement (says.CreateIndex i) = true
is_undone_statement (says.Load load) = false
is_undone_statement (says.Refresh load) = false
is_undone_statement (says.Unload u) = false
is_undone_statement (says.Flush u) = false
is_undone_statement (says.Alter a) = false
is_undone_statement (says.DropGroup name) = false
is_undone_statement (says.DropIndex name) = true
is_undone_statement (says.Call c) = false
is_undone_statement says.Commit = false
is_undone_statement says.Rollback = false

abbrev pub is_undone_request : Request → Bool
is_undone_request (asks_for.Open options) = false
is_undone_request asks_for.Close = false
is_undone_request (asks_for.Statement s) = is_undone_statement s

-- the line isn't done yet
abbrev pub is_undone : Line → Bool
is_undone (line.Session label request) = is_undone_request request
is_undone (line.Console request) = false
is_undone (line.Clock ms) = false
