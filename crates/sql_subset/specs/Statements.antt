-- What the tokens say: statements and requests. (TimesTen SQL Reference, "SQL statements"; the lines of sessions, of
-- the console and of the clock are this project's rule.)
use Rattle.std.specs.Prelude.{ℕ, Bool, ◌&&◌, ◌||◌, List, [], length, drop, Option, Some, None, if◌then◌else◌}
use Rattle.sql_phrases.specs.sql_tokens.specs.declared.kind.Kind.{Kind}
use Rattle.sql_phrases.specs.sql_tokens.specs.declared.kind.Kind.TheVariants as k
use Rattle.sql_phrases.specs.sql_tokens.specs.Kinds.{is_kind}
use Rattle.sql_phrases.specs.sql_tokens.specs.Lexing.{Lexeme}
use Rattle.sql_phrases.specs.sql_query.specs.declared.literal.Literal.{Literal}
use Rattle.sql_phrases.specs.sql_query.specs.declared.write.Write.{Write}
use Rattle.sql_phrases.specs.sql_query.specs.Trees.{ConditionTree}
use Rattle.sql_phrases.specs.Reading.{begins, first_kind, first_text, identifier_of, name_of, number_of, identifiers_of, literals_of, chained, with_last, as_list}
use Rattle.sql_phrases.specs.Conditions.{filter_of}
use Rattle.sql_phrases.specs.Queries.{query_of}
use Rattle.sql_phrases.specs.Writes.{write_of}
use Rattle.sql_phrases.specs.Tables.{table_of}
use Rattle.sql_subset.specs.declared.stmt.Alter.{Alter}
use Rattle.sql_subset.specs.declared.stmt.CreateIndex.{CreateIndex}
use Rattle.sql_subset.specs.declared.stmt.Load as loads
use Rattle.sql_subset.specs.declared.stmt.OfGroup.{OfGroup}
use Rattle.sql_subset.specs.declared.stmt.Which.{Which}
use Rattle.sql_subset.specs.declared.stmt.Stmt.{Stmt}
use Rattle.sql_subset.specs.declared.stmt.Stmt.TheVariants as v
use Rattle.sql_subset.specs.declared.request.OpenOptions.{OpenOptions}
use Rattle.sql_subset.specs.declared.request.Request.{Request}
use Rattle.sql_subset.specs.declared.request.Request.TheVariants as requests
use Rattle.sql_subset.specs.declared.request.ConsoleRequest.{ConsoleRequest}
use Rattle.sql_subset.specs.declared.request.ConsoleRequest.TheVariants as consoles
use Rattle.sql_subset.specs.Groups.{group_of, state_of}

-- a write stands behind the `;` in front
abbrev pub goes_on : List Lexeme → Bool
goes_on ls = begins k.Insert (drop 1 ls) || begins k.Update (drop 1 ls) || begins k.Delete (drop 1 ls)

-- write { ";" write }
abbrev pub writes_of : List Lexeme → List Write × List Lexeme
writes_of ls = chained goes_on with_last write_of (length ls) (as_list (write_of ls))

-- CREATE TABLE table | writes
abbrev pub console_of : List Lexeme → ConsoleRequest
console_of ls =
    if begins k.Create ls then consoles.CreateTable (table_of (drop 2 ls)).0.table else consoles.Writes (writes_of ls).0

abbrev pub call_with : List ℕ → List Lexeme → Stmt
call_with name ls =
    if begins k.OpenParen ls then
    (if begins k.CloseParen (drop 1 ls) then v.Call (record { procedure = name; arguments = [] }) else v.Call
    (record { procedure = name; arguments = (literals_of (drop 1 ls)).0 }))
    else v.Call (record { procedure = name; arguments = [] })

abbrev pub call_named : List ℕ × List Lexeme → Stmt
call_named x = call_with x.0 x.1

abbrev pub counted : ℕ → List Lexeme → Option ℕ × List Lexeme
counted n ls = (Some n, ls)

-- [ COMMIT EVERY integer ROWS ]
abbrev pub commit_every_of : List Lexeme → Option ℕ × List Lexeme
commit_every_of ls = if begins k.Commit ls then counted (number_of (first_text (drop 2 ls))) (drop 4 ls) else (None, ls)

-- [ PARALLEL integer ]
abbrev pub parallel_of : List Lexeme → Option ℕ × List Lexeme
parallel_of ls = if begins k.Parallel ls then counted (number_of (first_text (drop 1 ls))) (drop 2 ls) else (None, ls)

abbrev pub as_id : List Literal × List Lexeme → Option (List Literal) × List Lexeme
as_id x = (Some x.0, drop 1 x.1)

-- [ WITH ID "(" literals ")" ]
abbrev pub id_of : List Lexeme → Option (List Literal) × List Lexeme
id_of ls = if begins k.With ls then as_id (literals_of (drop 3 ls)) else (None, ls)

abbrev pub chosen : Option ConditionTree → Option (List Literal) × List Lexeme → Which × List Lexeme
chosen filter x = (record { filter = filter; id = x.0 }, x.1)

abbrev pub chosen_where : Option ConditionTree × List Lexeme → Which × List Lexeme
chosen_where x = chosen x.0 (id_of x.1)

-- [ WHERE cond ] [ WITH ID "(" literals ")" ]
unfoldable pub which_of : List Lexeme → Which × List Lexeme
which_of ls = chosen_where (filter_of ls)

abbrev pub loaded : List ℕ → Which → Option ℕ → Option ℕ × List Lexeme → loads.Load × List Lexeme
loaded group which commit_every x =
    (record { group = group; which = which; commit_every = commit_every; parallel = x.0 }, x.1)

abbrev pub load_counted : List ℕ → Which → Option ℕ × List Lexeme → loads.Load × List Lexeme
load_counted group which x = loaded group which x.0 (parallel_of x.1)

abbrev pub load_chosen : List ℕ → Which × List Lexeme → loads.Load × List Lexeme
load_chosen group x = load_counted group x.0 (commit_every_of x.1)

abbrev pub load_named : List ℕ × List Lexeme → loads.Load × List Lexeme
load_named x = load_chosen x.0 (which_of x.1)

-- CACHE GROUP name which [ COMMIT EVERY integer ROWS ] [ PARALLEL integer ]
unfoldable pub load_of : List Lexeme → loads.Load × List Lexeme
load_of ls = load_named (name_of (drop 2 ls))

abbrev pub of_group : List ℕ → Which × List Lexeme → OfGroup
of_group group x = record { group = group; which = x.0 }

abbrev pub group_named : List ℕ × List Lexeme → OfGroup
group_named x = of_group x.0 (which_of x.1)

-- CACHE GROUP name which
unfoldable pub of_group_of : List Lexeme → OfGroup
of_group_of ls = group_named (name_of (drop 2 ls))

abbrev pub altered : List ℕ × List Lexeme → Alter
altered x = record { group = x.0; state = state_of (first_kind (drop 3 x.1)) }

-- CACHE GROUP name SET AUTOREFRESH STATE state
abbrev pub alter_of : List Lexeme → Alter
alter_of ls = altered (name_of (drop 2 ls))

abbrev pub index_on : List ℕ → List ℕ × List Lexeme → CreateIndex
index_on name x = record { name = name; table = x.0; columns = (identifiers_of (drop 1 x.1)).0 }

abbrev pub index_named : List ℕ × List Lexeme → CreateIndex
index_named x = index_on x.0 (name_of (drop 1 x.1))

-- ident ON name "(" idents ")"
unfoldable pub index_of : List Lexeme → CreateIndex
index_of ls = index_named (identifier_of ls)

-- behind CREATE
unfoldable pub create_of : List Lexeme → Stmt
create_of ls = if begins k.Index ls then v.CreateIndex (index_of (drop 1 ls)) else v.CreateGroup (group_of ls).0

-- behind DROP
unfoldable pub drop_of : List Lexeme → Stmt
drop_of ls =
    if begins k.Index ls then v.DropIndex (identifier_of (drop 1 ls)).0 else v.DropGroup (name_of (drop 2 ls)).0

-- what is done to a group: LOAD, REFRESH, UNLOAD, FLUSH, ALTER
unfoldable pub group_statement_of : List Lexeme → Stmt
group_statement_of ls =
    if begins k.Load ls then v.Load (load_of (drop 1 ls)).0
    else if begins k.Refresh ls then v.Refresh (load_of (drop 1 ls)).0
    else if begins k.Unload ls then v.Unload (of_group_of (drop 1 ls))
    else if begins k.Flush ls then v.Flush (of_group_of (drop 1 ls))
    else v.Alter (alter_of (drop 1 ls))

-- a write stands in front
abbrev pub at_write : List Lexeme → Bool
at_write ls = begins k.Insert ls || begins k.Update ls || begins k.Delete ls

-- a statement of a session
unfoldable pub statement_of : List Lexeme → Stmt
statement_of ls =
    if begins k.Select ls then v.Select (query_of (drop 1 ls)).0
    else if at_write ls then v.Write (write_of ls).0
    else if begins k.Create ls then create_of (drop 1 ls)
    else if begins k.Drop ls then drop_of (drop 1 ls)
    else if begins k.Call ls then call_named (name_of (drop 1 ls))
    else if begins k.Commit ls then v.Commit
    else if begins k.Rollback ls then v.Rollback
    else group_statement_of ls

-- the digit 0, 1, 2 or 3
abbrev pub digit_of : Kind → ℕ
digit_of kind = if is_kind kind k.Zero then 0 else if is_kind kind k.One then 1 else if is_kind kind k.Two then 2 else 3

-- [ PASSTHROUGH digit ]
abbrev pub passthrough_of : List Lexeme → ℕ × List Lexeme
passthrough_of ls = if begins k.Passthrough ls then (digit_of (first_kind (drop 1 ls)), drop 2 ls) else (0, ls)

abbrev pub open_with : ℕ × List Lexeme → OpenOptions
open_with x = record { passthrough = x.0; durable = begins k.Durable x.1 && begins k.One (drop 1 x.1) }

-- OPEN .. | CLOSE | statement
abbrev pub request_of : List Lexeme → Request
request_of ls =
    if begins k.Open ls then requests.Open (open_with (passthrough_of (drop 1 ls)))
    else if begins k.Close ls then requests.Close
    else requests.Statement (statement_of ls)

-- "+" integer
abbrev pub clock_of : List Lexeme → ℕ
clock_of ls = number_of (first_text (drop 1 ls))
