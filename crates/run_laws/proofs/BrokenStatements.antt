-- What a line does behind what is due, where a call of the journal's disk failed: the journal has what may be there.
use Rattle.std.proofs.Common.{◌≡◌, ℕ, true, false, Option, Some, None, Result, Ok, Err, List, refl, sym, ap, ◌∙◌}
use Rattle.tier_base.specs.declared.code.Code.TheVariants as code
use Rattle.row_types.specs.declared.rule.Rule.{Rule}
use Rattle.table_state.specs.declared.history.Sealed.{Sealed}
use Rattle.resolution.specs.Writes.{PlacedChange}
use Rattle.sql_subset.specs.declared.request.ConsoleRequest.{ConsoleRequest}
use Rattle.sql_subset.specs.declared.request.ConsoleRequest.TheVariants as console
use Rattle.sql_subset.specs.declared.request.Line.{Line}
use Rattle.sql_subset.specs.declared.request.Line.TheVariants as says
use Rattle.sql_subset.specs.declared.request.Request.{Request}
use Rattle.sql_subset.specs.declared.request.Request.TheVariants as asks_for
use Rattle.sql_subset.specs.declared.stmt.Stmt.{Stmt}
use Rattle.sql_subset.specs.declared.stmt.Stmt.TheVariants as statement
use Rattle.cache_tier.specs.declared.called.Called.{Called}
use Rattle.cache_tier.specs.declared.called.Called.TheVariants.{Drain, RefreshSet, SetLevel}
use Rattle.cache_tier.specs.declared.reply.Reply.{Reply}
use Rattle.cache_tier.specs.Called.{called}
use Rattle.cache_tier.specs.ConsoleSteps.{Creates, DoesConsole, WritesAll, asks_schema, table_fault, writes_fault}
use Rattle.table_defs.specs.Declarations.{resolved}
use Rattle.cache_tier.specs.Order.{refusal}
use Rattle.cache_tier.specs.Routes.{Cached, PassedOn, Route, write_route}
use Rattle.cache_tier.specs.Steps.{Does, DoesCalled, DoesRequest, DoesStatement, ForSession, tells}
use Rattle.cache_tier.specs.TierStates.{Session, level_of, session_of}
use Rattle.cache_tier.specs.Worlds.{Refuses, Unless, WantsMemory, World}
use Rattle.cache_tier.specs.WriteSteps.{WritesBy, WritesPlaced}
use Rattle.line_laws.specs.Keeping.{IsBrokenOff}
use Rattle.line_laws.proofs.BrokenCommits.{commits_broken, drops_broken, passes_on_broken}
use Rattle.line_laws.proofs.BrokenDue.{clock_broken, closes_broken, console_broken, creates_table_broken, opens_broken, rolls_back_broken, sets_level_broken}
use Rattle.line_laws.proofs.BrokenGroups.{alters_broken, refreshes_called_broken, unloads_broken}
use Rattle.line_laws.proofs.BrokenQueries.{selects_broken, writes_cached_broken}
use Rattle.line_laws.proofs.BrokenRounds.{drains_broken, loads_broken, refreshes_broken}
use Rattle.run_laws.proofs.NewGroups.{creates_line_broken}
use Rattle.run_laws.proofs.ReadyLaws.{Ready}
use Rattle.run_laws.proofs.RefusalLaws.{dropper_rests, its_own}

-- a refusal tells no fault of the journal, and neither does want of memory
pub never_refused : (rule : Rule) (w w' : World) (early : List Sealed) (reply : Reply) → Refuses rule w w' reply → tells code.JournalFault reply.last ≡ true → IsBrokenOff w' early
never_refused rule w w' early reply q broken = let bad : false ≡ true = ap (λ (x : Reply). tells code.JournalFault x.last) (sym q.1) ∙ broken in Prim.cc

pub never_wants : (w w' : World) (early : List Sealed) (reply : Reply) → WantsMemory w w' reply → tells code.JournalFault reply.last ≡ true → IsBrokenOff w' early
never_wants w w' early reply q broken = let bad : false ≡ true = ap (λ (x : Reply). tells code.JournalFault x.last) (sym q.1) ∙ broken in Prim.cc

module _ (w w' : World) (early : List Sealed) (reply : Reply) (r : Ready w early) (broken : tells code.JournalFault reply.last ≡ true) where
  writes_placed : (s : Session) (o : Result PlacedChange Rule) → WritesPlaced s o w w' reply → IsBrokenOff w' early
  writes_placed s (Err rule) q = never_refused rule w w' early reply q broken
  writes_placed s (Ok placed) q = by (write_route (level_of s) w.tier placed.table) q
    where
      by : (o : Result Route Rule) → WritesBy o s placed w w' reply → IsBrokenOff w' early
      by (Err rule) q = never_refused rule w w' early reply q broken
      by (Ok Cached) q = writes_cached_broken s placed w w' early reply r.stands r.journalled r.unshared q broken
      by (Ok PassedOn) q = passes_on_broken s placed w w' early reply r.stands r.journalled r.unshared q broken

  calls : (s : Session) (o : Result Called Rule) → DoesCalled s o w w' reply → IsBrokenOff w' early
  calls s (Err rule) q = never_refused rule w w' early reply q broken
  calls s (Ok Drain) q = drains_broken w w' early reply r.stands r.journalled r.unshared q broken
  calls s (Ok (RefreshSet interval)) q = refreshes_called_broken interval w w' early reply r.stands r.journalled r.unshared q broken
  calls s (Ok (SetLevel level)) q = sets_level_broken s.label level w w' early reply r.stands r.journalled r.unshared q broken

  states : (label : List ℕ) (s : Session) (st : Stmt) → asks_schema w.tier (says.Session label (asks_for.Statement st)) ≡ false → session_of w.tier s.label ≡ Some s → refusal w.tier s st ≡ None → DoesStatement s st w w' reply → IsBrokenOff w' early
  states label s (statement.Select query) asked there free q = selects_broken s query w w' early reply r.stands r.journalled r.unshared q broken
  states label s (statement.Write write) asked there free q = writes_placed s _ q
  states label s (statement.CreateGroup d) asked there free q = creates_line_broken w w' early reply label s d r asked free q broken
  states label s (statement.CreateIndex x) asked there free q = absurd q
  states label s (statement.Load load) asked there free q = loads_broken load w w' early reply r.stands r.journalled r.unshared q broken
  states label s (statement.Refresh load) asked there free q = refreshes_broken load w w' early reply r.stands r.journalled r.unshared q broken
  states label s (statement.Unload u) asked there free q = unloads_broken s u w w' early reply r.stands r.journalled r.unshared q broken
  states label s (statement.Flush u) asked there free q = absurd q
  states label s (statement.Alter a) asked there free q = alters_broken a w w' early reply r.stands r.journalled r.unshared q broken
  states label s (statement.DropGroup name) asked there free q = drops_broken s name (dropper_rests w s name q.place q.group q.there q.is free) w w' early reply r.stands r.journalled r.unshared there q broken
  states label s (statement.DropIndex name) asked there free q = absurd q
  states label s (statement.Call c) asked there free q = calls s (called w.tier.groups c.procedure c.arguments) q
  states label s statement.Commit asked there free q = commits_broken s w w' early reply r.stands r.journalled r.unshared there q broken
  states label s statement.Rollback asked there free q = rolls_back_broken s w w' early reply r.stands r.journalled r.unshared q broken

  requests : (label : List ℕ) (s : Session) (request : Request) → asks_schema w.tier (says.Session label request) ≡ false → session_of w.tier s.label ≡ Some s → DoesRequest label s request w w' reply → IsBrokenOff w' early
  requests label s (asks_for.Open options) asked there q = absurd q
  requests label s asks_for.Close asked there q = closes_broken label w w' early reply r.stands r.journalled r.unshared q broken
  requests label s (asks_for.Statement st) asked there q = by (refusal w.tier s st) refl q
    where
      by : (o : Option Rule) → refusal w.tier s st ≡ o → Unless o (DoesStatement s st) w w' reply → IsBrokenOff w' early
      by (Some rule) e q = never_refused rule w w' early reply q broken
      by None e q = states label s st asked there e q

  for_session : (label : List ℕ) (o : Option Session) (request : Request) → asks_schema w.tier (says.Session label request) ≡ false → session_of w.tier label ≡ o → ForSession label o request w w' reply → IsBrokenOff w' early
  for_session label None (asks_for.Open options) asked e q = opens_broken label options w w' early reply r.stands r.journalled r.unshared q broken
  for_session label None asks_for.Close asked e q = absurd q
  for_session label None (asks_for.Statement st) asked e q = absurd q
  for_session label (Some s) request asked e q = requests label s request asked (its_own w.tier label s e) q

  consoles : (request : ConsoleRequest) → DoesConsole request w w' reply → IsBrokenOff w' early
  consoles (console.CreateTable d) q = by (table_fault w.tier d) q
    where
      by : (o : Option Rule) → Unless o (Creates (resolved d w.tier.schema)) w w' reply → IsBrokenOff w' early
      by (Some rule) q = never_refused rule w w' early reply q broken
      by None q = creates_table_broken (resolved d w.tier.schema) w w' early reply r.stands r.journalled r.unshared q broken
  consoles (console.Writes writes) q = by (writes_fault w.tier writes) q
    where
      by : (o : Option Rule) → Unless o (WritesAll writes) w w' reply → IsBrokenOff w' early
      by (Some rule) q = never_refused rule w w' early reply q broken
      by None q = console_broken writes w w' early reply r.stands r.journalled r.unshared q broken

  pub does_broken : (l : Line) → asks_schema w.tier l ≡ false → Does l w w' reply → IsBrokenOff w' early
  does_broken (says.Session label request) asked q = for_session label (session_of w.tier label) request asked refl q
  does_broken (says.Console request) asked q = consoles request q
  does_broken (says.Clock ms) asked q = clock_broken w w' early reply r.stands r.journalled r.unshared q broken
