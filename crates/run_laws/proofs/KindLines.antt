-- What is written is on tables of one kind behind what a line does.
use Rattle.std.proofs.Common.{◌≡◌, ℕ, not, Option, Some, None, Result, Ok, Err, List, refl, ap}
use Rattle.row_types.specs.declared.rule.Rule.{Rule}
use Rattle.table_defs.specs.Declarations.{resolved}
use Rattle.table_state.specs.declared.history.Sealed.{Sealed}
use Rattle.table_defs.specs.declared.definition.TableDef.{TableDef}
use Rattle.outside.specs.declared.fault.BankError.{BankError}
use Rattle.outside.specs.declared.fault.BankError.TheVariants.{Failed, Memory}
use Rattle.sql_subset.specs.declared.request.ConsoleRequest.{ConsoleRequest}
use Rattle.sql_subset.specs.declared.request.ConsoleRequest.TheVariants as console
use Rattle.sql_subset.specs.declared.request.Line.{Line}
use Rattle.sql_subset.specs.declared.request.Line.TheVariants as says
use Rattle.sql_subset.specs.declared.request.Request.{Request}
use Rattle.sql_subset.specs.declared.request.Request.TheVariants as asks_for
use Rattle.sql_subset.specs.declared.stmt.Stmt.{Stmt}
use Rattle.sql_subset.specs.declared.stmt.Stmt.TheVariants as statement
use Rattle.cache_tier.specs.declared.called.Called.{Called}
use Rattle.cache_tier.specs.declared.called.Called.TheVariants.{Drain, RefreshSet, SetLevel}
use Rattle.cache_tier.specs.declared.reply.Reply.{Reply}
use Rattle.cache_tier.specs.Called.{called}
use Rattle.cache_tier.specs.CommitSteps.{ends}
use Rattle.cache_tier.specs.ConsoleSteps.{Creates, DoesConsole, WritesAll, after_define, table_fault, writes_fault}
use Rattle.cache_tier.specs.Order.{refusal}
use Rattle.cache_tier.specs.SessionSteps.{close_answer, flag_answer, new_session, open_answer}
use Rattle.cache_tier.specs.Steps.{Does, DoesCalled, DoesRequest, DoesStatement, ForSession}
use Rattle.cache_tier.specs.TierStates.{Session, is_labelled, session_of}
use Rattle.cache_tier.specs.Worlds.{Unless, World}
use Rattle.run_laws.specs.Lines.{AreOfKinds}
use Rattle.run_laws.proofs.CreateLaws.{IsInOrder}
use Rattle.run_laws.proofs.KindGroups.{creates_kinds, drops_kinds}
use Rattle.run_laws.proofs.KindParts.{kinds_by}
use Rattle.run_laws.proofs.KindStatements.{commits_kinds, each_left, each_more, each_where, kinds_of, kinds_sit}
use Rattle.run_laws.proofs.KindWrites.{writes_kinds}
use Rattle.run_laws.proofs.ReadyLaws.{Ready, each_rested}
use Rattle.run_laws.proofs.RefusalLaws.{dropper_rests, its_own}
use Rattle.run_laws.proofs.SitsStatements.{alters_sits, drains_sits, loads_sits, refreshes_called_sits, refreshes_sits, selects_sits, unloads_sits}

module _ (w w' : World) (early : List Sealed) (reply : Reply) (r : Ready w early) (after : IsInOrder w'.tier) where
  abbrev k : AreOfKinds w.tier
  k = r.kinds

  here : w' ≡ w → AreOfKinds w'.tier
  here e = kinds_of w.tier w'.tier (ap (λ (x : World). x.tier) e) r.kinds

  -- a session's level is set
  flag_kinds : (label : List ℕ) (level : ℕ) → AreOfKinds (flag_answer w.tier label level).0
  flag_kinds label level = kinds_by w.tier (flag_answer w.tier label level).0 refl r.kinds.later (each_where _ (is_labelled label) (λ s. record s { flag = Some level }) w.tier.sessions (λ s one. one) r.kinds.own)

  end_kinds : (s : Session) → AreOfKinds (ends s w.tier)
  end_kinds s = kinds_by w.tier (ends s w.tier) refl r.kinds.later (each_rested w.tier.groups s.label w.tier.sessions r.kinds.own)

  close_kinds : (label : List ℕ) → AreOfKinds (close_answer w.tier label).0
  close_kinds label = kinds_by w.tier (close_answer w.tier label).0 refl r.kinds.later (each_left _ (λ s. not (is_labelled label s)) w.tier.sessions r.kinds.own)

  open_kinds : (label : List ℕ) (options : Rattle.sql_subset.specs.declared.request.OpenOptions.OpenOptions) → AreOfKinds (open_answer w.tier label options).0
  open_kinds label options = kinds_by w.tier (open_answer w.tier label options).0 refl r.kinds.later (each_more _ w.tier.sessions (new_session label options) r.kinds.own (λ e. refl))

  calls : (s : Session) (o : Result Called Rule) → DoesCalled s o w w' reply → AreOfKinds w'.tier
  calls s (Err rule) q = here q.0
  calls s (Ok Drain) q = kinds_sit w.tier w'.tier (drains_sits w w' reply q) r.kinds
  calls s (Ok (RefreshSet interval)) q = kinds_sit w.tier w'.tier (refreshes_called_sits interval w w' reply q) r.kinds
  calls s (Ok (SetLevel level)) q = kinds_of (flag_answer w.tier s.label level).0 w'.tier (ap (λ (x : World). x.tier) q.0) (flag_kinds s.label level)

  states : (s : Session) (st : Stmt) → session_of w.tier s.label ≡ Some s → refusal w.tier s st ≡ None → DoesStatement s st w w' reply → AreOfKinds w'.tier
  states s (statement.Select query) there free q = kinds_sit w.tier w'.tier (selects_sits s _ w w' reply q) r.kinds
  states s (statement.Write write) there free q = writes_kinds w w' early reply r s there write free _ refl q
  states s (statement.CreateGroup d) there free q = creates_kinds w w' early reply d r after q
  states s (statement.CreateIndex x) there free q = absurd q
  states s (statement.Load load) there free q = kinds_sit w.tier w'.tier (loads_sits load w w' reply q) r.kinds
  states s (statement.Refresh load) there free q = kinds_sit w.tier w'.tier (refreshes_sits load w w' reply q) r.kinds
  states s (statement.Unload u) there free q = kinds_sit w.tier w'.tier (unloads_sits s u w w' reply q) r.kinds
  states s (statement.Flush u) there free q = absurd q
  states s (statement.Alter a) there free q = kinds_sit w.tier w'.tier (alters_sits a w w' reply q) r.kinds
  states s (statement.DropGroup name) there free q = drops_kinds s name w w' early reply r there (dropper_rests w s name q.place q.group q.there q.is free) q
  states s (statement.DropIndex name) there free q = absurd q
  states s (statement.Call c) there free q = calls s (called w.tier.groups c.procedure c.arguments) q
  states s statement.Commit there free q = commits_kinds w w' early reply r s there q
  states s statement.Rollback there free q = kinds_of (ends s w.tier) w'.tier (ap (λ (x : World). x.tier) q.0) (end_kinds s)

  requests : (label : List ℕ) (s : Session) (request : Request) → session_of w.tier s.label ≡ Some s → DoesRequest label s request w w' reply → AreOfKinds w'.tier
  requests label s (asks_for.Open options) there q = absurd q
  requests label s asks_for.Close there q = kinds_of (close_answer w.tier label).0 w'.tier (ap (λ (x : World). x.tier) q.0) (close_kinds label)
  requests label s (asks_for.Statement st) there q = by (refusal w.tier s st) refl q
    where
      by : (o : Option Rule) → refusal w.tier s st ≡ o → Unless o (DoesStatement s st) w w' reply → AreOfKinds w'.tier
      by (Some rule) e q = here q.0
      by None e q = states s st there e q

  for_session : (label : List ℕ) (o : Option Session) (request : Request) → session_of w.tier label ≡ o → ForSession label o request w w' reply → AreOfKinds w'.tier
  for_session label None (asks_for.Open options) e q = kinds_of (open_answer w.tier label options).0 w'.tier (ap (λ (x : World). x.tier) q.0) (open_kinds label options)
  for_session label None asks_for.Close e q = absurd q
  for_session label None (asks_for.Statement st) e q = absurd q
  for_session label (Some s) request e q = requests label s request (its_own w.tier label s e) q

  define_kinds : (def : TableDef) (result : Result (Unit {0}) BankError) → AreOfKinds (after_define def result w.tier)
  define_kinds def (Ok done) = record { later = r.kinds.later; own = r.kinds.own }
  define_kinds def (Err Failed) = record { later = r.kinds.later; own = r.kinds.own }
  define_kinds def (Err Memory) = r.kinds

  consoles : (request : ConsoleRequest) → DoesConsole request w w' reply → AreOfKinds w'.tier
  consoles (console.CreateTable d) q = by (table_fault w.tier d) q
    where
      by : (o : Option Rule) → Unless o (Creates (resolved d w.tier.schema)) w w' reply → AreOfKinds w'.tier
      by (Some rule) q = here q.0
      by None q = kinds_of (after_define (resolved d w.tier.schema) q.result w.tier) w'.tier q.tier (define_kinds (resolved d w.tier.schema) q.result)
  consoles (console.Writes writes) q = by (writes_fault w.tier writes) q
    where
      by : (o : Option Rule) → Unless o (WritesAll writes) w w' reply → AreOfKinds w'.tier
      by (Some rule) q = here q.0
      by None q = kinds_of w.tier w'.tier q.tier r.kinds

  pub does_kinds : (l : Line) → Does l w w' reply → AreOfKinds w'.tier
  does_kinds (says.Session label request) q = for_session label (session_of w.tier label) request refl q
  does_kinds (says.Console request) q = consoles request q
  does_kinds (says.Clock ms) q = here q.0
