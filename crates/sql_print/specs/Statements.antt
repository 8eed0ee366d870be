-- The words of statements (this project's rule).
use Rattle.std.specs.Prelude.{ℕ, List, [], ◌∷◌, ◌++◌, codes, Option, Some, None}
use Rattle.std.specs.Fmt.{decimal}
use Rattle.sql_subset.specs.sql_query.specs.declared.literal.Literal.{Literal}
use Rattle.sql_subset.specs.declared.stmt.CreateIndex.{CreateIndex}
use Rattle.sql_subset.specs.declared.stmt.Load as loads
use Rattle.sql_subset.specs.declared.stmt.OfGroup.{OfGroup}
use Rattle.sql_subset.specs.declared.stmt.Which.{Which}
use Rattle.sql_subset.specs.declared.stmt.Stmt.{Stmt}
use Rattle.sql_subset.specs.declared.stmt.Stmt.TheVariants as v
use Rattle.sql_words.specs.Words.{Word, enclosed, listed, name_words, identifier_words, literal_words}
use Rattle.sql_words.specs.Trees.{filter_words}
use Rattle.sql_print.specs.Groups.{group_words, state_word}
use Rattle.sql_print.specs.Queries.{query_words, write_rest_words, write_words}

-- [ WITH ID ( literals ) ]
abbrev pub id_words : Option (List Literal) → List Word
id_words None = []
id_words (Some literals) = codes "WITH" ∷ codes "ID" ∷ enclosed (listed literal_words literals)

-- [ WHERE .. ] [ WITH ID .. ]
abbrev pub which_words : Which → List Word
which_words which = filter_words which.filter ++ id_words which.id

-- [ COMMIT EVERY n ROWS ]
abbrev pub commit_words : Option ℕ → List Word
commit_words None = []
commit_words (Some rows) = codes "COMMIT" ∷ codes "EVERY" ∷ decimal rows ∷ codes "ROWS" ∷ []

-- [ PARALLEL n ]
abbrev pub parallel_words : Option ℕ → List Word
parallel_words None = []
parallel_words (Some threads) = codes "PARALLEL" ∷ decimal threads ∷ []

-- name which [ COMMIT EVERY n ROWS ] [ PARALLEL n ]
abbrev pub load_words : loads.Load → List Word
load_words load =
    name_words load.group ++ which_words load.which ++ commit_words load.commit_every ++ parallel_words load.parallel

-- name which
abbrev pub of_group_words : OfGroup → List Word
of_group_words x = name_words x.group ++ which_words x.which

-- name ON table ( columns )
abbrev pub index_words : CreateIndex → List Word
index_words index = index.name ∷ codes "ON" ∷ name_words index.table ++ enclosed (listed identifier_words index.columns)

-- [ ( literals ) ]
abbrev pub argument_words : List Literal → List Word
argument_words [] = []
argument_words (x ∷ xs) = enclosed (listed literal_words (x ∷ xs))

-- what stands behind the first words of a statement
abbrev pub rest_words : Stmt → List Word
rest_words (v.Select query) = query_words query
rest_words (v.Write write) = write_rest_words write
rest_words (v.CreateGroup group) = group_words group
rest_words (v.CreateIndex index) = index_words index
rest_words (v.Load load) = load_words load
rest_words (v.Refresh load) = load_words load
rest_words (v.Unload x) = of_group_words x
rest_words (v.Flush x) = of_group_words x
rest_words (v.Alter alter) =
    name_words alter.group ++ codes "SET" ∷ codes "AUTOREFRESH" ∷ codes "STATE" ∷ state_word alter.state ∷ []
rest_words (v.DropGroup name) = name_words name
rest_words (v.DropIndex name) = name ∷ []
rest_words (v.Call call) = name_words call.procedure ++ argument_words call.arguments
rest_words v.Commit = []
rest_words v.Rollback = []

-- a statement as it stands
abbrev pub statement_words : Stmt → List Word
statement_words (v.Select query) = codes "SELECT" ∷ rest_words (v.Select query)
statement_words (v.Write write) = write_words write
statement_words (v.CreateGroup group) = codes "CREATE" ∷ rest_words (v.CreateGroup group)
statement_words (v.CreateIndex index) = codes "CREATE" ∷ codes "INDEX" ∷ rest_words (v.CreateIndex index)
statement_words (v.Load load) = codes "LOAD" ∷ codes "CACHE" ∷ codes "GROUP" ∷ rest_words (v.Load load)
statement_words (v.Refresh load) = codes "REFRESH" ∷ codes "CACHE" ∷ codes "GROUP" ∷ rest_words (v.Refresh load)
statement_words (v.Unload x) = codes "UNLOAD" ∷ codes "CACHE" ∷ codes "GROUP" ∷ rest_words (v.Unload x)
statement_words (v.Flush x) = codes "FLUSH" ∷ codes "CACHE" ∷ codes "GROUP" ∷ rest_words (v.Flush x)
statement_words (v.Alter alter) = codes "ALTER" ∷ codes "CACHE" ∷ codes "GROUP" ∷ rest_words (v.Alter alter)
statement_words (v.DropGroup name) = codes "DROP" ∷ codes "CACHE" ∷ codes "GROUP" ∷ rest_words (v.DropGroup name)
statement_words (v.DropIndex name) = codes "DROP" ∷ codes "INDEX" ∷ rest_words (v.DropIndex name)
statement_words (v.Call call) = codes "CALL" ∷ rest_words (v.Call call)
statement_words v.Commit = codes "COMMIT" ∷ []
statement_words v.Rollback = codes "ROLLBACK" ∷ []
