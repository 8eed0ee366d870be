-- That what the next opening reads can be read behind each line of a run, and at its end.
use Rattle.std.proofs.Common.{◌≡◌, inl, inr, ℕ, Bool, true, false, Option, Some, None, List, [], ◌∷◌, sym, subst}
use Rattle.std.specs.Bool.{MatchBool}
use Rattle.std.specs.List.{AllByRecursion}
use Rattle.table_state.specs.Histories.{no_tables, state_of}
use Rattle.table_state.specs.Tables.{TableState}
use Rattle.order_laws.proofs.CountLaws.{schema_after}
use Rattle.print_laws.proofs.Asking.{statement_asked}
use Rattle.print_laws.proofs.Spelling.{statement_spells}
use Rattle.sql_subset.specs.Lines as line
use Rattle.sql_subset.specs.declared.request.Line.{Line}
use Rattle.sql_subset.specs.declared.request.Line.TheVariants as says
use Rattle.sql_subset.specs.declared.request.Request.{Request}
use Rattle.sql_subset.specs.declared.request.Request.TheVariants as asks_for
use Rattle.sql_subset.specs.declared.stmt.Stmt.{Stmt}
use Rattle.sql_subset.specs.declared.stmt.Stmt.TheVariants as statement
use Rattle.cache_tier.specs.declared.reply.Reply.{Reply}
use Rattle.cache_tier.specs.Steps.{Finishes, Saying, TooLong}
use Rattle.cache_tier.specs.Worlds.{World}
use Rattle.cache_engine.specs.Requests.{Given, IsHeard, IsSaid, LineGoes, LineRun, LineStep, heard, is_long}
use Rattle.reopened_laws.specs.Leaving.{HasText, HaveOwnTableNames}
use Rattle.reopened_laws.proofs.ReadParts.{Readable, flushes_keeps, same}
use Rattle.reopened_laws.proofs.ReadStatements.{RequestPrints, StatementPrints}
use Rattle.reopened_laws.proofs.ReadLines.{LinePrints, SaidPrints, heeds_keeps, step_keeps}

-- no two tables of the bank have one name, and the text of each definition that the journal has flushed reads
pub record IsReadable (w : World) : Type 0 where
  pub named : (s : TableState) → state_of w.history ≡ Some s → HaveOwnTableNames s.schema
  pub texts : AllByRecursion HasText w.journal.flushed

pub readable_told : (w : World) → Readable w → IsReadable w
readable_told w r = record { named = λ s leaves. subst HaveOwnTableNames (sym (schema_after w.history no_tables s leaves)) (r.own s leaves); texts = r.flushed }

-- ---- what is said

statement_prints : (bytes label : List ℕ) (st : Stmt) → line.Means bytes (line.Says (says.Session label (asks_for.Statement st))) → StatementPrints st
statement_prints bytes label (statement.CreateGroup d) m = statement_spells (statement.CreateGroup d) (statement_asked bytes label (statement.CreateGroup d) m)
statement_prints bytes label (statement.Select query) m = tt
statement_prints bytes label (statement.Write write) m = tt
statement_prints bytes label (statement.CreateIndex i) m = tt
statement_prints bytes label (statement.Load load) m = tt
statement_prints bytes label (statement.Refresh load) m = tt
statement_prints bytes label (statement.Unload u) m = tt
statement_prints bytes label (statement.Flush u) m = tt
statement_prints bytes label (statement.Alter a) m = tt
statement_prints bytes label (statement.DropGroup name) m = tt
statement_prints bytes label (statement.DropIndex name) m = tt
statement_prints bytes label (statement.Call c) m = tt
statement_prints bytes label statement.Commit m = tt
statement_prints bytes label statement.Rollback m = tt

request_prints : (bytes label : List ℕ) (request : Request) → line.Means bytes (line.Says (says.Session label request)) → RequestPrints request
request_prints bytes label (asks_for.Statement st) m = statement_prints bytes label st m
request_prints bytes label (asks_for.Open options) m = tt
request_prints bytes label asks_for.Close m = tt

line_prints : (bytes : List ℕ) (l : Line) → line.Means bytes (line.Says l) → LinePrints l
line_prints bytes (says.Session label request) m = request_prints bytes label request m
line_prints bytes (says.Console request) m = tt
line_prints bytes (says.Clock ms) m = tt

heard_prints : (bytes : List ℕ) (saying : line.Saying) → line.Means bytes saying → SaidPrints (heard saying)
heard_prints bytes line.Silent m = tt
heard_prints bytes (line.Says l) m = line_prints bytes l m
heard_prints bytes (line.WrongAt place) m = tt
heard_prints bytes line.TooDeep m = tt

said_prints : (bytes : List ℕ) (said : Saying) → IsSaid bytes said → SaidPrints said
said_prints bytes said is = by (is_long bytes) is
  where
    by : (b : Bool) → MatchBool b (said ≡ TooLong) (IsHeard bytes said) → SaidPrints said
    by true e = subst SaidPrints (sym e) tt
    by false (saying, means, e) = subst SaidPrints (sym e) (heard_prints bytes saying means)

-- ---- lines

pub line_keeps : (base : ℕ) (w : World) (bytes : List ℕ) (w' : World) (reply : Option Reply) → LineStep base w bytes w' reply → Readable w → Readable w'
line_keeps base w bytes w' reply (said, inl is, step) r = step_keeps base w w' said reply (said_prints bytes said is) step r
line_keeps base w bytes w' reply (said, inr unread, step) r = same w w' unread.same r

-- so does a line of which a failed call of the journal's disk may be told
pub goes_keeps : (base : ℕ) (w : World) (bytes : List ℕ) (w' : World) (reply : Option Reply) → LineGoes base w bytes w' reply → Readable w → Readable w'
goes_keeps base w bytes w' None goes r = line_keeps base w bytes w' None goes r
goes_keeps base w bytes w' (Some reply) (said, inl is, counts, heeds) r = heeds_keeps base said (said_prints bytes said is) w w' reply heeds r
goes_keeps base w bytes w' (Some reply) (said, inr unread, counts, heeds) r = same w w' unread.same r

pub run_keeps : (w : World) (lines : List Given) (replies : List (Option Reply)) (w' : World) → LineRun w lines replies w' → Readable w → Readable w'
run_keeps w [] [] w' run r = same w w' run r
run_keeps w [] (reply ∷ replies) w' run r = absurd run
run_keeps w (g ∷ lines) [] w' run r = absurd run
run_keeps w (g ∷ lines) (reply ∷ replies) w' (mid, step, rest) r = run_keeps mid lines replies w' rest (line_keeps g.base w g.bytes mid reply step r)

pub end_keeps : (w w' : World) (stop : Option Reply) → Finishes w w' stop → Readable w → Readable w'
end_keeps w w' stop q r = flushes_keeps [] tt w w' stop q r
