-- The words that are written out, and their tokens.
use Rattle.std.proofs.Common.{◌≡◌, ℕ, suc, List, [], ◌∷◌, codes, refl}
use Rattle.sql_print.specs.sql_tokens.specs.declared.kind.Kind.TheVariants as k
use Rattle.sql_print.specs.sql_tokens.specs.Lexing.{lexeme, InSign, Blank, lexed_from}
use Rattle.sql_print.specs.sql_words.specs.Words.{Word, spaced}
use Rattle.print_laws.proofs.Fine.{fine_text}
use Rattle.print_laws.proofs.Lexed.{Lexes, keyword}

pub create_word : Lexes k.Create (codes "CREATE")
create_word = keyword k.Create (codes "CREATE") refl refl

pub table_word : Lexes k.Table (codes "TABLE")
table_word = keyword k.Table (codes "TABLE") refl refl

pub cache_word : Lexes k.Cache (codes "CACHE")
cache_word = keyword k.Cache (codes "CACHE") refl refl

pub group_word : Lexes k.Group (codes "GROUP")
group_word = keyword k.Group (codes "GROUP") refl refl

pub from_word : Lexes k.From (codes "FROM")
from_word = keyword k.From (codes "FROM") refl refl

pub where_word : Lexes k.Where (codes "WHERE")
where_word = keyword k.Where (codes "WHERE") refl refl

pub and_word : Lexes k.And (codes "AND")
and_word = keyword k.And (codes "AND") refl refl

pub or_word : Lexes k.Or (codes "OR")
or_word = keyword k.Or (codes "OR") refl refl

pub not_word : Lexes k.Not (codes "NOT")
not_word = keyword k.Not (codes "NOT") refl refl

pub null_word : Lexes k.Null (codes "NULL")
null_word = keyword k.Null (codes "NULL") refl refl

pub is_word : Lexes k.Is (codes "IS")
is_word = keyword k.Is (codes "IS") refl refl

pub in_word : Lexes k.In (codes "IN")
in_word = keyword k.In (codes "IN") refl refl

pub between_word : Lexes k.Between (codes "BETWEEN")
between_word = keyword k.Between (codes "BETWEEN") refl refl

pub primary_word : Lexes k.Primary (codes "PRIMARY")
primary_word = keyword k.Primary (codes "PRIMARY") refl refl

pub foreign_word : Lexes k.Foreign (codes "FOREIGN")
foreign_word = keyword k.Foreign (codes "FOREIGN") refl refl

pub key_word : Lexes k.Key (codes "KEY")
key_word = keyword k.Key (codes "KEY") refl refl

pub references_word : Lexes k.References (codes "REFERENCES")
references_word = keyword k.References (codes "REFERENCES") refl refl

pub on_word : Lexes k.On (codes "ON")
on_word = keyword k.On (codes "ON") refl refl

pub delete_word : Lexes k.Delete (codes "DELETE")
delete_word = keyword k.Delete (codes "DELETE") refl refl

pub cascade_word : Lexes k.Cascade (codes "CASCADE")
cascade_word = keyword k.Cascade (codes "CASCADE") refl refl

pub timestamp_word : Lexes k.Timestamp (codes "TIMESTAMP")
timestamp_word = keyword k.Timestamp (codes "TIMESTAMP") refl refl

pub aging_word : Lexes k.Aging (codes "AGING")
aging_word = keyword k.Aging (codes "AGING") refl refl

pub readonly_word : Lexes k.Readonly (codes "READONLY")
readonly_word = keyword k.Readonly (codes "READONLY") refl refl

pub propagate_word : Lexes k.Propagate (codes "PROPAGATE")
propagate_word = keyword k.Propagate (codes "PROPAGATE") refl refl

pub tt_integer_word : Lexes k.TtInteger (codes "TT_INTEGER")
tt_integer_word = keyword k.TtInteger (codes "TT_INTEGER") refl refl

pub tt_bigint_word : Lexes k.TtBigint (codes "TT_BIGINT")
tt_bigint_word = keyword k.TtBigint (codes "TT_BIGINT") refl refl

pub varchar2_word : Lexes k.Varchar2 (codes "VARCHAR2")
varchar2_word = keyword k.Varchar2 (codes "VARCHAR2") refl refl

pub number_word : Lexes k.Number (codes "NUMBER")
number_word = keyword k.Number (codes "NUMBER") refl refl

pub asynchronous_word : Lexes k.Asynchronous (codes "ASYNCHRONOUS")
asynchronous_word = keyword k.Asynchronous (codes "ASYNCHRONOUS") refl refl

pub synchronous_word : Lexes k.Synchronous (codes "SYNCHRONOUS")
synchronous_word = keyword k.Synchronous (codes "SYNCHRONOUS") refl refl

pub writethrough_word : Lexes k.Writethrough (codes "WRITETHROUGH")
writethrough_word = keyword k.Writethrough (codes "WRITETHROUGH") refl refl

pub dynamic_word : Lexes k.Dynamic (codes "DYNAMIC")
dynamic_word = keyword k.Dynamic (codes "DYNAMIC") refl refl

pub usermanaged_word : Lexes k.Usermanaged (codes "USERMANAGED")
usermanaged_word = keyword k.Usermanaged (codes "USERMANAGED") refl refl

pub autorefresh_word : Lexes k.Autorefresh (codes "AUTOREFRESH")
autorefresh_word = keyword k.Autorefresh (codes "AUTOREFRESH") refl refl

pub mode_word : Lexes k.Mode (codes "MODE")
mode_word = keyword k.Mode (codes "MODE") refl refl

pub incremental_word : Lexes k.Incremental (codes "INCREMENTAL")
incremental_word = keyword k.Incremental (codes "INCREMENTAL") refl refl

pub full_word : Lexes k.Full (codes "FULL")
full_word = keyword k.Full (codes "FULL") refl refl

pub interval_word : Lexes k.Interval (codes "INTERVAL")
interval_word = keyword k.Interval (codes "INTERVAL") refl refl

pub milliseconds_word : Lexes k.Millisecond (codes "MILLISECONDS")
milliseconds_word = keyword k.Millisecond (codes "MILLISECONDS") refl refl

pub seconds_word : Lexes k.Second (codes "SECONDS")
seconds_word = keyword k.Second (codes "SECONDS") refl refl

pub state_word : Lexes k.State (codes "STATE")
state_word = keyword k.State (codes "STATE") refl refl

pub off_word : Lexes k.Off (codes "OFF")
off_word = keyword k.Off (codes "OFF") refl refl

pub paused_word : Lexes k.Paused (codes "PAUSED")
paused_word = keyword k.Paused (codes "PAUSED") refl refl

pub lru_word : Lexes k.Lru (codes "LRU")
lru_word = keyword k.Lru (codes "LRU") refl refl

pub use_word : Lexes k.Use (codes "USE")
use_word = keyword k.Use (codes "USE") refl refl

pub lifetime_word : Lexes k.Lifetime (codes "LIFETIME")
lifetime_word = keyword k.Lifetime (codes "LIFETIME") refl refl

pub cycle_word : Lexes k.Cycle (codes "CYCLE")
cycle_word = keyword k.Cycle (codes "CYCLE") refl refl

pub select_word : Lexes k.Select (codes "SELECT")
select_word = keyword k.Select (codes "SELECT") refl refl

pub order_word : Lexes k.Order (codes "ORDER")
order_word = keyword k.Order (codes "ORDER") refl refl

pub by_word : Lexes k.By (codes "BY")
by_word = keyword k.By (codes "BY") refl refl

pub asc_word : Lexes k.Asc (codes "ASC")
asc_word = keyword k.Asc (codes "ASC") refl refl

pub desc_word : Lexes k.Desc (codes "DESC")
desc_word = keyword k.Desc (codes "DESC") refl refl

pub insert_word : Lexes k.Insert (codes "INSERT")
insert_word = keyword k.Insert (codes "INSERT") refl refl

pub into_word : Lexes k.Into (codes "INTO")
into_word = keyword k.Into (codes "INTO") refl refl

pub values_word : Lexes k.Values (codes "VALUES")
values_word = keyword k.Values (codes "VALUES") refl refl

pub update_word : Lexes k.Update (codes "UPDATE")
update_word = keyword k.Update (codes "UPDATE") refl refl

pub set_word : Lexes k.Set (codes "SET")
set_word = keyword k.Set (codes "SET") refl refl

pub alter_word : Lexes k.Alter (codes "ALTER")
alter_word = keyword k.Alter (codes "ALTER") refl refl

pub drop_word : Lexes k.Drop (codes "DROP")
drop_word = keyword k.Drop (codes "DROP") refl refl

pub count_word : Lexes k.Count (codes "COUNT")
count_word = keyword k.Count (codes "COUNT") refl refl

pub sum_word : Lexes k.Sum (codes "SUM")
sum_word = keyword k.Sum (codes "SUM") refl refl

pub min_word : Lexes k.Min (codes "MIN")
min_word = keyword k.Min (codes "MIN") refl refl

pub max_word : Lexes k.Max (codes "MAX")
max_word = keyword k.Max (codes "MAX") refl refl

pub call_word : Lexes k.Call (codes "CALL")
call_word = keyword k.Call (codes "CALL") refl refl

pub commit_word : Lexes k.Commit (codes "COMMIT")
commit_word = keyword k.Commit (codes "COMMIT") refl refl

pub rollback_word : Lexes k.Rollback (codes "ROLLBACK")
rollback_word = keyword k.Rollback (codes "ROLLBACK") refl refl

pub load_word : Lexes k.Load (codes "LOAD")
load_word = keyword k.Load (codes "LOAD") refl refl

pub refresh_word : Lexes k.Refresh (codes "REFRESH")
refresh_word = keyword k.Refresh (codes "REFRESH") refl refl

pub unload_word : Lexes k.Unload (codes "UNLOAD")
unload_word = keyword k.Unload (codes "UNLOAD") refl refl

pub flush_word : Lexes k.Flush (codes "FLUSH")
flush_word = keyword k.Flush (codes "FLUSH") refl refl

pub index_word : Lexes k.Index (codes "INDEX")
index_word = keyword k.Index (codes "INDEX") refl refl

pub with_word : Lexes k.With (codes "WITH")
with_word = keyword k.With (codes "WITH") refl refl

pub id_word : Lexes k.Id (codes "ID")
id_word = keyword k.Id (codes "ID") refl refl

pub every_word : Lexes k.Every (codes "EVERY")
every_word = keyword k.Every (codes "EVERY") refl refl

pub rows_word : Lexes k.Rows (codes "ROWS")
rows_word = keyword k.Rows (codes "ROWS") refl refl

pub parallel_word : Lexes k.Parallel (codes "PARALLEL")
parallel_word = keyword k.Parallel (codes "PARALLEL") refl refl

pub open_word : Lexes k.OpenParen (codes "(")
open_word = record { lexes = λ i ws. (suc i, refl); fine = fine_text (codes "(") refl }

pub close_word : Lexes k.CloseParen (codes ")")
close_word = record { lexes = λ i ws. (suc i, refl); fine = fine_text (codes ")") refl }

pub comma_word : Lexes k.Comma (codes ",")
comma_word = record { lexes = λ i ws. (suc i, refl); fine = fine_text (codes ",") refl }

pub dot_word : Lexes k.Dot (codes ".")
dot_word = record { lexes = λ i ws. (suc i, refl); fine = fine_text (codes ".") refl }

pub star_word : Lexes k.Star (codes "*")
star_word = record { lexes = λ i ws. (suc i, refl); fine = fine_text (codes "*") refl }

pub plus_word : Lexes k.Plus (codes "+")
plus_word = record { lexes = λ i ws. (suc i, refl); fine = fine_text (codes "+") refl }

pub minus_word : Lexes k.Minus (codes "-")
minus_word = record { lexes = λ i ws. (suc i, refl); fine = fine_text (codes "-") refl }

pub equals_word : Lexes k.Equals (codes "=")
equals_word = record { lexes = λ i ws. (suc i, refl); fine = fine_text (codes "=") refl }

pub semicolon_word : Lexes k.Semicolon (codes ";")
semicolon_word = record { lexes = λ i ws. (suc i, refl); fine = fine_text (codes ";") refl }

less_ends : (s : ℕ) (ws : List Word) → lexed_from (InSign s 60) (suc s) (spaced ws) ≡ lexeme k.LessThan s (60 ∷ []) ∷ lexed_from Blank (suc s) (spaced ws)
less_ends s [] = refl
less_ends s (w ∷ ws) = refl

pub less_word : Lexes k.LessThan (codes "<")
less_word = record { lexes = λ i ws. (suc i, less_ends i ws); fine = fine_text (codes "<") refl }

greater_ends : (s : ℕ) (ws : List Word) → lexed_from (InSign s 62) (suc s) (spaced ws) ≡ lexeme k.GreaterThan s (62 ∷ []) ∷ lexed_from Blank (suc s) (spaced ws)
greater_ends s [] = refl
greater_ends s (w ∷ ws) = refl

pub greater_word : Lexes k.GreaterThan (codes ">")
greater_word = record { lexes = λ i ws. (suc i, greater_ends i ws); fine = fine_text (codes ">") refl }

pub not_equals_word : Lexes k.NotEquals (codes "<>")
not_equals_word = record { lexes = λ i ws. (suc (suc i), refl); fine = fine_text (codes "<>") refl }

pub at_most_word : Lexes k.AtMost (codes "<=")
at_most_word = record { lexes = λ i ws. (suc (suc i), refl); fine = fine_text (codes "<=") refl }

pub at_least_word : Lexes k.AtLeast (codes ">=")
at_least_word = record { lexes = λ i ws. (suc (suc i), refl); fine = fine_text (codes ">=") refl }
