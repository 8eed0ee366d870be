-- What a line does behind what is due keeps the journal the tier's.
use Rattle.std.proofs.Common.{◌≡◌, ℕ, false, Option, Some, None, Result, Ok, Err, List, refl}
use Rattle.tier_base.specs.declared.code.Code.TheVariants as code
use Rattle.row_types.specs.declared.rule.Rule.{Rule}
use Rattle.table_state.specs.declared.history.Sealed.{Sealed}
use Rattle.resolution.specs.Writes.{PlacedChange}
use Rattle.sql_subset.specs.declared.request.ConsoleRequest.{ConsoleRequest}
use Rattle.sql_subset.specs.declared.request.ConsoleRequest.TheVariants as console
use Rattle.sql_subset.specs.declared.request.Line.{Line}
use Rattle.sql_subset.specs.declared.request.Line.TheVariants as says
use Rattle.sql_subset.specs.declared.request.Request.{Request}
use Rattle.sql_subset.specs.declared.request.Request.TheVariants as asks_for
use Rattle.sql_subset.specs.declared.stmt.Stmt.{Stmt}
use Rattle.sql_subset.specs.declared.stmt.Stmt.TheVariants as statement
use Rattle.cache_tier.specs.declared.called.Called.{Called}
use Rattle.cache_tier.specs.declared.called.Called.TheVariants.{Drain, RefreshSet, SetLevel}
use Rattle.cache_tier.specs.declared.reply.Reply.{Reply}
use Rattle.cache_tier.specs.Called.{called}
use Rattle.cache_tier.specs.ConsoleSteps.{Creates, DoesConsole, WritesAll, asks_schema, table_fault, writes_fault}
use Rattle.table_defs.specs.Declarations.{resolved}
use Rattle.cache_tier.specs.Order.{refusal}
use Rattle.cache_tier.specs.Routes.{Cached, PassedOn, Route, write_route}
use Rattle.cache_tier.specs.Steps.{Does, DoesCalled, DoesRequest, DoesStatement, ForSession, tells}
use Rattle.cache_tier.specs.TierStates.{Session, level_of, session_of}
use Rattle.cache_tier.specs.Worlds.{Unless, World}
use Rattle.cache_tier.specs.WriteSteps.{WritesBy, WritesPlaced}
use Rattle.recovery.specs.Journalled.{IsJournalledOn}
use Rattle.line_laws.proofs.AtOnceStatements.{commits_kept}
use Rattle.line_laws.proofs.CommitStatements.{drops_kept}
use Rattle.line_laws.proofs.ConsoleStatements.{console_kept}
use Rattle.line_laws.proofs.DueStatements.{creates_table_kept}
use Rattle.line_laws.proofs.GroupStatements.{alters_kept, refreshes_called, unloads_kept}
use Rattle.line_laws.proofs.LoadStatements.{drains_kept, loads_kept, refreshes_kept}
use Rattle.line_laws.proofs.PartWords.{same_on}
use Rattle.line_laws.proofs.PassedStatements.{passes_on_kept}
use Rattle.line_laws.proofs.QueryStatements.{selects_kept, writes_cached_kept}
use Rattle.line_laws.proofs.QuietStatements.{clock_kept, closes_kept, opens_kept, rolls_back_kept, sets_level_kept}
use Rattle.run_laws.proofs.CreateLaws.{IsInOrder, creates_line}
use Rattle.run_laws.proofs.RefusalLaws.{console_off, dropper_rests, its_own, meets, passed, refers_not}
use Rattle.run_laws.proofs.ReadyLaws.{Ready}

module _ (w w' : World) (early : List Sealed) (reply : Reply) (r : Ready w early) (ok : tells code.JournalFault reply.last ≡ false) where
  writes_placed : (s : Session) (o : Result PlacedChange Rule) → WritesPlaced s o w w' reply → IsJournalledOn w' early
  writes_placed s (Err rule) q = same_on w w' early q.0 r.journalled
  writes_placed s (Ok placed) q = by (write_route (level_of s) w.tier placed.table) refl q
    where
      by : (o : Result Route Rule) → write_route (level_of s) w.tier placed.table ≡ o → WritesBy o s placed w w' reply → IsJournalledOn w' early
      by (Err rule) e q = same_on w w' early q.0 r.journalled
      by (Ok Cached) e q = writes_cached_kept s placed w w' early reply r.stands r.journalled r.unshared q ok
      by (Ok PassedOn) e q = passes_on_kept s placed w w' early reply r.stands r.journalled r.unshared (passed w (level_of s) placed r.stands e) q ok

  calls : (s : Session) (o : Result Called Rule) → DoesCalled s o w w' reply → IsJournalledOn w' early
  calls s (Err rule) q = same_on w w' early q.0 r.journalled
  calls s (Ok Drain) q = drains_kept w w' early reply r.stands r.journalled r.unshared q ok
  calls s (Ok (RefreshSet interval)) q = refreshes_called interval w w' early reply r.stands r.journalled r.unshared q ok
  calls s (Ok (SetLevel level)) q = sets_level_kept s.label level w w' early reply r.stands r.journalled r.unshared q ok

  module _ (after : IsInOrder w'.tier) where
    states : (label : List ℕ) (s : Session) (st : Stmt) → asks_schema w.tier (says.Session label (asks_for.Statement st)) ≡ false → session_of w.tier s.label ≡ Some s → refusal w.tier s st ≡ None → DoesStatement s st w w' reply → IsJournalledOn w' early
    states label s (statement.Select query) asked there free q = selects_kept s query w w' early reply r.stands r.journalled r.unshared q ok
    states label s (statement.Write write) asked there free q = writes_placed s _ q
    states label s (statement.CreateGroup d) asked there free q = creates_line w w' early reply label s d r after asked free q ok
    states label s (statement.CreateIndex x) asked there free q = absurd q
    states label s (statement.Load load) asked there free q = loads_kept load w w' early reply r.stands r.journalled r.unshared q ok
    states label s (statement.Refresh load) asked there free q = refreshes_kept load w w' early reply r.stands r.journalled r.unshared q ok
    states label s (statement.Unload u) asked there free q = unloads_kept s u w w' early reply r.stands r.journalled r.unshared q ok
    states label s (statement.Flush u) asked there free q = absurd q
    states label s (statement.Alter a) asked there free q = alters_kept a w w' early reply r.stands r.journalled r.unshared q ok
    states label s (statement.DropGroup name) asked there free q = drops_kept s name w w' early reply r.stands r.journalled r.unshared there (dropper_rests w s name q.place q.group q.there q.is free) q ok
    states label s (statement.DropIndex name) asked there free q = absurd q
    states label s (statement.Call c) asked there free q = calls s (called w.tier.groups c.procedure c.arguments) q
    states label s statement.Commit asked there free q = commits_kept s w w' early reply r.stands r.journalled r.unshared there (meets w early s r there) q ok
    states label s statement.Rollback asked there free q = rolls_back_kept s w w' early reply r.stands r.journalled r.unshared q ok

    requests : (label : List ℕ) (s : Session) (request : Request) → asks_schema w.tier (says.Session label request) ≡ false → session_of w.tier s.label ≡ Some s → DoesRequest label s request w w' reply → IsJournalledOn w' early
    requests label s (asks_for.Open options) asked there q = absurd q
    requests label s asks_for.Close asked there q = closes_kept label w w' early reply r.stands r.journalled r.unshared q ok
    requests label s (asks_for.Statement st) asked there q = by (refusal w.tier s st) refl q
      where
        by : (o : Option Rule) → refusal w.tier s st ≡ o → Unless o (DoesStatement s st) w w' reply → IsJournalledOn w' early
        by (Some rule) e q = same_on w w' early q.0 r.journalled
        by None e q = states label s st asked there e q

    for_session : (label : List ℕ) (o : Option Session) (request : Request) → asks_schema w.tier (says.Session label request) ≡ false → session_of w.tier label ≡ o → ForSession label o request w w' reply → IsJournalledOn w' early
    for_session label None (asks_for.Open options) asked e q = opens_kept label options w w' early reply r.stands r.journalled r.unshared q ok
    for_session label None asks_for.Close asked e q = absurd q
    for_session label None (asks_for.Statement st) asked e q = absurd q
    for_session label (Some s) request asked e q = requests label s request asked (its_own w.tier label s e) q

    consoles : (request : ConsoleRequest) → DoesConsole request w w' reply → IsJournalledOn w' early
    consoles (console.CreateTable d) q = by (table_fault w.tier d) refl q
      where
        by : (o : Option Rule) → table_fault w.tier d ≡ o → Unless o (Creates (resolved d w.tier.schema)) w w' reply → IsJournalledOn w' early
        by (Some rule) e q = same_on w w' early q.0 r.journalled
        by None e q = creates_table_kept (resolved d w.tier.schema) w w' early reply r.stands r.journalled r.unshared (refers_not w.tier d e) q ok
    consoles (console.Writes writes) q = by (writes_fault w.tier writes) refl q
      where
        by : (o : Option Rule) → writes_fault w.tier writes ≡ o → Unless o (WritesAll writes) w w' reply → IsJournalledOn w' early
        by (Some rule) e q = same_on w w' early q.0 r.journalled
        by None e q = console_kept writes w w' early reply r.stands r.journalled r.unshared (console_off w writes r.stands e) q ok

    pub does_kept : (l : Line) → asks_schema w.tier l ≡ false → Does l w w' reply → IsJournalledOn w' early
    does_kept (says.Session label request) asked q = for_session label (session_of w.tier label) request asked refl q
    does_kept (says.Console request) asked q = consoles request q
    does_kept (says.Clock ms) asked q = clock_kept w w' early reply r.stands r.journalled r.unshared q ok
