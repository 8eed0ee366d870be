-- Each statement leads on.
use Rattle.std.proofs.Common.{◌≡◌, inl, inr, ℕ, ◌≤◌, List, [], ◌∷◌, ◌++◌, Bool, true, false, cond, Option, Some, None, Result, Ok, Err, sym, ap, subst, arith}
use Rattle.row_types.specs.declared.rule.Rule.{Rule}
use Rattle.row_types.specs.declared.value.Value.{Value}
use Rattle.tier_base.specs.declared.number.TableId.{TableId}
use Rattle.table_defs.specs.declared.definition.TableDef.{TableDef}
use Rattle.table_state.specs.declared.history.Entry.{Entry}
use Rattle.table_state.specs.declared.history.Sealed.{Sealed}
use Rattle.table_state.specs.declared.operation.Op.{Op}
use Rattle.table_state.specs.declared.operation.Op.TheVariants.{Insert, Update, Delete}
use Rattle.table_state.specs.Tables.{TableState}
use Rattle.evaluator.specs.declared.change.Change.{Change}
use Rattle.evaluator.specs.declared.plan.Plan.{Plan}
use Rattle.outside.specs.Bank.{AppliesOnce, Defines, TellsRecorded, TellsRow, TellsSchema}
use Rattle.outside.specs.Console.{WritesForeign}
use Rattle.outside.specs.declared.fault.BankError.{BankError}
use Rattle.outside.specs.declared.fault.BankError.TheVariants.{Failed, Memory}
use Rattle.outside.specs.declared.site.Applied.{Applied}
use Rattle.outside.specs.declared.site.Applied.TheVariants.{Now, Before, NotReady, Differs}
use Rattle.outside.specs.declared.site.Done.{Done as Wrote}
use Rattle.outside.specs.declared.site.Done.TheVariants.{Rows, Broken}
use Rattle.resolution.specs.Queries.{PlacedQuery}
use Rattle.resolution.specs.Writes.{PlacedChange}
use Rattle.sql_query.specs.declared.write.Write.{Write}
use Rattle.cache_tier.specs.declared.reply.Note.{Note}
use Rattle.cache_tier.specs.declared.reply.Reply.{Reply}
use Rattle.sql_subset.specs.declared.stmt.Alter.{Alter}
use Rattle.sql_subset.specs.declared.request.ConsoleRequest.{ConsoleRequest}
use Rattle.sql_subset.specs.declared.request.ConsoleRequest.TheVariants as console
use Rattle.sql_subset.specs.declared.stmt.CreateGroup.{CreateGroup}
use Rattle.sql_subset.specs.declared.request.Line.{Line}
use Rattle.sql_subset.specs.declared.request.Line.TheVariants as says
use Rattle.sql_subset.specs.declared.stmt.Load.{Load}
use Rattle.sql_subset.specs.declared.stmt.OfGroup.{OfGroup}
use Rattle.sql_subset.specs.declared.stmt.RefreshState.{RefreshState}
use Rattle.sql_subset.specs.declared.stmt.RefreshState.TheVariants.{On, Off, Paused}
use Rattle.sql_subset.specs.declared.request.Request.{Request}
use Rattle.sql_subset.specs.declared.request.Request.TheVariants as asks_for
use Rattle.sql_subset.specs.declared.stmt.Stmt.{Stmt}
use Rattle.sql_subset.specs.declared.stmt.Stmt.TheVariants as statement
use Rattle.sql_subset.specs.declared.stmt.Which.{Which}
use Rattle.cache_tier.specs.AlterSteps.{Alters, AltersTo, SetsStateAlone, SetsStateRefreshed, altered_entries, refreshed_state, state_answer, joins_something}
use Rattle.cache_tier.specs.declared.called.Called.{Called}
use Rattle.cache_tier.specs.declared.called.Called.TheVariants.{Drain, RefreshSet, SetLevel}
use Rattle.cache_tier.specs.ChangeSteps.{Changes}
use Rattle.cache_tier.specs.CommitSteps.{AppliesNow, CommitsLater, CommitsNow, CommitsOwn, after_applied, is_synchronous_own}
use Rattle.cache_tier.specs.Conditions.{asks_all, overflow_fault}
use Rattle.cache_tier.specs.ConsoleSteps.{Asked, AsksSchema, Creates, DoesConsole, WritesAll, after_define, asks_schema, told}
use Rattle.cache_tier.specs.DefineSteps.{CreatesGroup, define_answer}
use Rattle.cache_tier.specs.DoubtSteps.{AsksRecorded, SettlesDoubt, settled}
use Rattle.cache_tier.specs.DropSteps.{DropsAt, DropsGroup, DropsRest, drop_answer}
use Rattle.cache_tier.specs.DueWork.{DueAging, DueDoubt, DueRound, DueSets, DueSetsOf, DueWork, Item, ItemFollows, ThenItem, due_sets, is_round_due}
use Rattle.cache_tier.specs.DynamicLoads.{Brings, BringsAt, BringsInto, BringsReadOnly, BringsWritethrough, LoadsWanted, joined_tier, state_entries}
use Rattle.cache_tier.specs.Heeding.{HeedLeads}
use Rattle.cache_tier.specs.GoesOn.{LeadsTo, RunKeepsJournal, RunLeads, StepKeepsJournal, StepKeepsWay, StepLeads}
use Rattle.outside.specs.Calls.{Lengthens}
use Rattle.cache_tier.specs.Groups.{Group, is_explicit, is_read_only, is_writethrough}
use Rattle.cache_tier.specs.InsertSteps.{Finds, Inserts, insert_answer, insert_fault}
use Rattle.cache_tier.specs.JournalSteps.{Flushes}
use Rattle.cache_tier.specs.Journals.{Drops, JournalEntry, Numbers}
use Rattle.cache_tier.specs.LoadSteps.{Loads, LoadsReadOnly, LoadsWritethrough, added_answer, gained_answer}
use Rattle.cache_tier.specs.Locks.{lock_fault}
use Rattle.cache_tier.specs.PassedSteps.{PassesOn, WritesPassed, after_passed, with_ticket}
use Rattle.outside.specs.Passing.{PassesWrite}
use Rattle.cache_tier.specs.Reading.{backing_at}
use Rattle.cache_tier.specs.RefreshSteps.{Refreshes, RefreshesReadOnly, RefreshesWritethrough, held_answer, judged_roots, refreshed_answer}
use Rattle.cache_tier.specs.Rounds.{Drains, Round}
use Rattle.cache_tier.specs.Routes.{Cached, PassedOn, Route}
use Rattle.cache_tier.specs.SelectSteps.{SelectsBy, SelectsOn, SelectsPlaced, plan_of, query_answer}
use Rattle.cache_tier.specs.Sets.{Choice, RefreshesIfShown, RefreshesSet, set_tried, shows_something}
use Rattle.cache_tier.specs.Steps.{Answered, Does, DoesCalled, DoesRequest, DoesStatement, ForSession, GoesThrough, Heeds, Parts, Saying, Says, Silent, TooDeep, TooLong, WrongAt, at_moment, early_fault}
use Rattle.cache_tier.specs.Targets.{OnTarget, Settles, Target, backing_roots, held_roots, load_entries, view_roots, whole_answer}
use Rattle.cache_tier.specs.TierStates.{ACommit, APassedWrite, Doubt, Doubted, Session, Tier}
use Rattle.cache_tier.specs.UnloadSteps.{Unloads, unload_answer, unload_entries, unload_fault}
use Rattle.cache_tier.specs.Wants.{Want, loaded_want}
use Rattle.cache_tier.specs.WriteSteps.{WritesBy, WritesEffects, WritesOps, WritesPlaced, WritesShown}
use Rattle.cache_tier.specs.Undone.{is_undone}
use Rattle.cache_tier.specs.Worlds.{Answer, Becomes, Part, ThenStage, World, unless}
use Rattle.cache_tier.proofs.WayLaws.{kept_on_way, way_on_way}
use Rattle.cache_tier.proofs.LeadLaws.{PartLeads, StageLeads, answers_leads, bank_leads, becomes_leads, either_leads, flushes_leads, flushes_some_leads, next_of, on, only_where_leads, passes_leads, quiet, reads_first_leads, reads_leads, records_leads, refuses_leads, round_if_unsettled_leads, round_leads, same, same_number, then_leads, then_stage_leads, tiered, tries_leads, unless_leads}

-- what calls of the bank add

none_more : (old new : List Entry) → new ≡ old ++ [] → Lengthens old new
none_more old new e = record { more = []; is = e }

schema_grows : (r : Result (List TableDef) BankError) (old new : List Entry) → TellsSchema r old new → Lengthens old new
schema_grows (Ok schema) old new p = none_more old new p.0
schema_grows (Err e) old new p = none_more old new p

row_grows : (t : TableId) (key : List Value) (r : Result (Option (List Value)) BankError) (old new : List Entry) → TellsRow t key r old new → Lengthens old new
row_grows t key (Ok row) old new p = none_more old new p.0
row_grows t key (Err e) old new p = none_more old new p

defines_grows : (def : TableDef) (r : Result (Unit {0}) BankError) (old new : List Entry) → Defines def r old new → Lengthens old new
defines_grows def (Ok done) old new p = record { more = _; is = p }
defines_grows def (Err Memory) old new p = none_more old new p
defines_grows def (Err Failed) old new (inl p) = none_more old new p
defines_grows def (Err Failed) old new (inr p) = record { more = _; is = p }

foreign_grows : (changes : List Change) (r : Result Wrote BankError) (old new : List Entry) → WritesForeign changes r old new → Lengthens old new
foreign_grows changes (Ok (Rows n)) old new p = record { more = _; is = p.grows }
foreign_grows changes (Ok (Broken rule)) old new p = none_more old new p.0
foreign_grows changes (Err Memory) old new p = none_more old new p
foreign_grows changes (Err Failed) old new (inl p) = none_more old new p
foreign_grows changes (Err Failed) old new (inr p) = record { more = _; is = p.1.grows }

passes_grows : (ticket : ℕ) (change : Change) (ops : List Op) (r : Result Wrote BankError) (old new : List Entry) → PassesWrite ticket change ops r old new → Lengthens old new
passes_grows ticket change ops (Ok (Rows n)) old new p = record { more = _; is = p.grows }
passes_grows ticket change ops (Ok (Broken rule)) old new p = none_more old new p.0
passes_grows ticket change ops (Err Memory) old new p = none_more old new p
passes_grows ticket change ops (Err Failed) old new (inl p) = none_more old new p
passes_grows ticket change ops (Err Failed) old new (inr p) = record { more = _; is = p.1.grows }

recorded_grows : (ticket : ℕ) (r : Result Bool BankError) (old new : List Entry) → TellsRecorded ticket r old new → Lengthens old new
recorded_grows ticket (Ok stands) old new p = none_more old new p.0
recorded_grows ticket (Err e) old new p = none_more old new p

once_grows : (x : Sealed) (r : Result Applied BankError) (old new : List Entry) → AppliesOnce x [] r old new → Lengthens old new
once_grows x (Ok (Now receipt)) old new p = record { more = _; is = p.0.grows }
once_grows x (Ok (Before receipt)) old new p = none_more old new p.1
once_grows x (Ok (NotReady ticket)) old new p = none_more old new p.3
once_grows x (Ok (Differs table key row)) old new p = none_more old new p.3
once_grows x (Err Memory) old new p = none_more old new p
once_grows x (Err Failed) old new (inl p) = none_more old new p
once_grows x (Err Failed) old new (inr p) = record { more = _; is = p.grows }

-- answers that may be refusals

unless_next : (t : Tier) (o : Option Rule) (answer : Answer) → t.next ≤ answer.0.next → t.next ≤ (unless t o answer).0.next
unless_next t None answer le = le
unless_next t (Some rule) answer le = same_number t.next

either_next : (t : Tier) (b : Bool) (one other : Answer) → t.next ≤ one.0.next → t.next ≤ other.0.next → t.next ≤ (cond b one other).0.next
either_next t true one other p q = p
either_next t false one other p q = q

-- sets

tried_next : (g : Group) (t : Tier) → t.next ≤ (set_tried g t).next
tried_next g t = by g.state
  where
    by : (s : RefreshState) → t.next ≤ (set_tried (record g { state = s }) t).next
    by On = same_number t.next
    by Off = same_number t.next
    by Paused = same_number t.next

refreshes_set_leads : (interval : ℕ) → StageLeads (RefreshesSet interval)
refreshes_set_leads interval = reads_first_leads _ _ (λ t. same_number t.next) (λ n. becomes_leads _ (λ w. same_number w.tier.next))

refreshes_if_shown_leads : (interval : ℕ) → StageLeads (RefreshesIfShown interval)
refreshes_if_shown_leads interval w w' stop q = only_where_leads (shows_something interval w.tier.groups) (RefreshesSet interval) (refreshes_set_leads interval) w w' stop q

-- dynamic loads

brings_read_only_leads : (place : ℕ) (g : Group) (want : Want) → StageLeads (BringsReadOnly place g want)
brings_read_only_leads place g want = reads_first_leads _ _ (tried_next g) (λ n. then_stage_leads _ _ (flushes_some_leads (state_entries g)) (becomes_leads (joined_tier place g want n) (λ w. same_number w.tier.next)))

brings_writethrough_leads : (place : ℕ) (want : Want) → StageLeads (BringsWritethrough place want)
brings_writethrough_leads place want = then_stage_leads _ _ round_if_unsettled_leads (reads_first_leads _ _ (λ t. same_number t.next) (λ n. becomes_leads _ (λ w. same_number w.tier.next)))

brings_into_leads : (place : ℕ) (o : Option Group) (want : Want) → StageLeads (BringsInto place o want)
brings_into_leads place None want w w' stop q = same w w' q.0
brings_into_leads place (Some g) want w w' stop q = either_leads (is_read_only g) (brings_read_only_leads place g want w w' stop) (brings_writethrough_leads place want w w' stop) q

brings_leads : (o : Option ℕ) (t : Tier) (want : Want) → StageLeads (BringsAt o t want)
brings_leads None t want = passes_leads
brings_leads (Some place) t want = brings_into_leads place _ want

brings_option_leads : (t : Tier) (o : Option Want) → StageLeads (Brings t o)
brings_option_leads t None = passes_leads
brings_option_leads t (Some want) = brings_leads _ t want

loads_wanted_leads : (o : Option Want) → StageLeads (LoadsWanted o)
loads_wanted_leads o w w' stop q = brings_option_leads w.tier (loaded_want w.history w.tier o) w w' stop q

-- SELECT

query_next : (t after : Tier) (r : Result (List (List Value)) Rule) → t.next ≤ after.next → t.next ≤ (query_answer t after r).0.next
query_next t after (Ok rows) le = le
query_next t after (Err rule) le = same_number t.next

selects_on_leads : (placed : PlacedQuery) (state : World → TableState) (after : Plan → World → Tier) → ((plan : Plan) (w : World) → w.tier.next ≤ (after plan w).next) → PartLeads (SelectsOn placed state after)
selects_on_leads placed state after le w w' reply q = quiet _ w w' reply (query_next w.tier _ q.result (le (plan_of q.resolved) w)) q.quiet

selects_by_leads : (r : Route) (s : Session) (placed : PlacedQuery) → PartLeads (SelectsBy r s placed)
selects_by_leads Cached s placed w w' reply q = then_leads _ _ (loads_wanted_leads _) (tries_leads _ (selects_on_leads placed _ _ (λ plan w. same_number w.tier.next))) w w' reply q
selects_by_leads PassedOn s placed w w' reply q = reads_leads _ _ (λ t. same_number t.next) (λ n. selects_on_leads placed _ _ (λ plan w. same_number w.tier.next)) w w' reply q

selects_placed_leads : (s : Session) (r : Result PlacedQuery Rule) → PartLeads (SelectsPlaced s r)
selects_placed_leads s (Err rule) w w' reply q = refuses_leads rule w w' reply q
selects_placed_leads s (Ok placed) w w' reply q = selects_by_leads _ s placed w w' reply q

-- INSERT, UPDATE, DELETE

insert_next : (s : Session) (w : World) (history : List Entry) (table : TableId) (row : List Value) (r : Result (Option (List Value)) BankError) → w.tier.next ≤ (insert_answer s w history table row r).0.next
insert_next s w history table row (Ok found) = unless_next w.tier (insert_fault s w history table row) _ (same_number w.tier.next)
insert_next s w history table row (Err e) = same_number w.tier.next

finds_leads : (s : Session) (table : TableId) (row : List Value) → PartLeads (Finds s table row)
finds_leads s table row w w' reply q =
    bank_leads w w' _ (row_grows table _ q.result) (next_of w w' _ (ap (λ (x : Answer). x.0) q.answer) (insert_next s w (w.history ++ q.call.history.before) table row q.result)) q.call

inserts_leads : (s : Session) (table : TableId) (row : List Value) → PartLeads (Inserts s table row)
inserts_leads s table row w w' reply q = either_leads _ (refuses_leads _ w w' reply) (finds_leads s table row w w' reply) q

changes_leads : (s : Session) (table : TableId) (ops : List Op) → PartLeads (Changes s table ops)
changes_leads s table ops w w' reply q = quiet _ w w' reply (unless_next w.tier _ _ (same_number w.tier.next)) q

writes_ops_leads : (s : Session) (table : TableId) (ops : List Op) → PartLeads (WritesOps s table ops)
writes_ops_leads s table [] w w' reply q = changes_leads s table [] w w' reply q
writes_ops_leads s table (Insert t row ∷ []) w w' reply q = inserts_leads s t row w w' reply q
writes_ops_leads s table (Insert t row ∷ op ∷ ops) w w' reply q = changes_leads s table (Insert t row ∷ op ∷ ops) w w' reply q
writes_ops_leads s table (Update t old new ∷ ops) w w' reply q = changes_leads s table (Update t old new ∷ ops) w w' reply q
writes_ops_leads s table (Delete t old ∷ ops) w w' reply q = changes_leads s table (Delete t old ∷ ops) w w' reply q

writes_effects_leads : (s : Session) (table : TableId) (r : Result (List Op) Rule) → PartLeads (WritesEffects s table r)
writes_effects_leads s table (Err rule) w w' reply q = refuses_leads rule w w' reply q
writes_effects_leads s table (Ok ops) w w' reply q = unless_leads (lock_fault s.label w.tier ops) _ (writes_ops_leads s table ops) w w' reply q

writes_shown_leads : (s : Session) (placed : PlacedChange) → PartLeads (WritesShown s placed)
writes_shown_leads s placed w w' reply q = writes_effects_leads s placed.table _ w w' reply q.writes

-- passed-on writes

ticket_next : (t : Tier) → t.next ≤ (with_ticket t).next
ticket_next t = omega arith

after_passed_next : (s : Session) (ticket : ℕ) (ops : List Op) (r : Result Wrote BankError) (t : Tier) → t.next ≤ (after_passed s ticket ops r t).next
after_passed_next s ticket ops (Ok (Rows n)) t = same_number t.next
after_passed_next s ticket ops (Ok (Broken rule)) t = same_number t.next
after_passed_next s ticket ops (Err Memory) t = same_number t.next
after_passed_next s ticket ops (Err Failed) t = same_number t.next

writes_passed_leads : (s : Session) (ticket : ℕ) (placed : PlacedChange) → PartLeads (WritesPassed s ticket placed)
writes_passed_leads s ticket placed w w' reply q =
    bank_leads w w' _ (passes_grows ticket q.change q.ops q.result) (next_of w w' _ q.tier (after_passed_next s ticket q.ops q.result w.tier)) q.call

drawn_leads : (entries : List JournalEntry) → StageLeads (ThenStage (Flushes entries) (Becomes (λ mid. with_ticket mid.tier)))
drawn_leads entries = then_stage_leads _ _ (flushes_leads entries) (becomes_leads _ (λ w. ticket_next w.tier))

passes_on_leads : (s : Session) (placed : PlacedChange) → PartLeads (PassesOn s placed)
passes_on_leads s placed w w' reply q =
    unless_leads _ _ (then_leads _ _ (drawn_leads (Numbers w.tier.next ∷ [])) (writes_passed_leads s w.tier.next placed)) w w' reply q

writes_by_leads : (r : Result Route Rule) (s : Session) (placed : PlacedChange) → PartLeads (WritesBy r s placed)
writes_by_leads (Err rule) s placed w w' reply q = refuses_leads rule w w' reply q
writes_by_leads (Ok Cached) s placed w w' reply q = then_leads _ _ (loads_wanted_leads _) (tries_leads _ (writes_shown_leads s placed)) w w' reply q
writes_by_leads (Ok PassedOn) s placed w w' reply q = passes_on_leads s placed w w' reply q

writes_placed_leads : (s : Session) (r : Result PlacedChange Rule) → PartLeads (WritesPlaced s r)
writes_placed_leads s (Err rule) w w' reply q = refuses_leads rule w w' reply q
writes_placed_leads s (Ok placed) w w' reply q = writes_by_leads _ s placed w w' reply q

-- COMMIT

after_applied_next : (x : Sealed) (label : List ℕ) (r : Result Applied BankError) (t : Tier) → t.next ≤ (after_applied x label r t).next
after_applied_next x label (Ok (Now receipt)) t = same_number t.next
after_applied_next x label (Ok (Before receipt)) t = same_number t.next
after_applied_next x label (Ok (NotReady ticket)) t = same_number t.next
after_applied_next x label (Ok (Differs table key row)) t = same_number t.next
after_applied_next x label (Err Memory) t = same_number t.next
after_applied_next x label (Err Failed) t = same_number t.next

applies_now_leads : (x : Sealed) (label : List ℕ) → PartLeads (AppliesNow x label)
applies_now_leads x label w w' reply q = bank_leads w w' _ (once_grows x q.result) (next_of w w' _ q.tier (after_applied_next x label q.result w.tier)) q.call

commits_now_leads : (s : Session) → PartLeads (CommitsNow s)
commits_now_leads s w w' reply q = unless_leads _ _ (then_leads _ _ (drawn_leads _) (applies_now_leads _ s.label)) w w' reply q

commits_later_leads : (s : Session) → PartLeads (CommitsLater s)
commits_later_leads s w w' reply q = unless_leads _ _ (then_leads _ _ (records_leads s.durable _) (answers_leads _ (λ mid. ticket_next mid.tier))) w w' reply q

commits_own_leads : (s : Session) (ops : List Op) → PartLeads (CommitsOwn s ops)
commits_own_leads s [] w w' reply q = quiet _ w w' reply (same_number w.tier.next) q
commits_own_leads s (op ∷ ops) w w' reply q = either_leads (is_synchronous_own w.tier s) (commits_now_leads s w w' reply) (commits_later_leads s w w' reply) q

-- CREATE CACHE GROUP

creates_group_leads : (d : CreateGroup) → PartLeads (CreatesGroup d)
creates_group_leads d w w' reply q = unless_leads _ _ (then_leads _ _ (flushes_leads _) (answers_leads (define_answer d q.tree) (λ mid. same_number mid.tier.next))) w w' reply q.does

-- LOAD and REFRESH

settles_leads : (x : Target) (answer : World → Answer) → ((w : World) → w.tier.next ≤ (answer w).0.next) → PartLeads (Settles x answer)
settles_leads x answer le = then_leads _ _ (flushes_some_leads (load_entries x.group)) (answers_leads answer le)

on_target_leads : (name : List ℕ) (which : Which) (part : Target → Part) → ((x : Target) → PartLeads (part x)) → PartLeads (OnTarget name which part)
on_target_leads name which part p w w' reply q = p q.target w w' reply q.does

loads_read_only_leads : (x : Target) → PartLeads (LoadsReadOnly x)
loads_read_only_leads x =
    reads_leads _ _ (tried_next x.group) (λ n w w' reply q. either_leads (is_explicit x.group) (settles_leads x (whole_answer x n) (λ w. same_number w.tier.next) w w' reply)
    (unless_leads (overflow_fault x.filter (view_roots (backing_at w n) x)) _ (settles_leads x (gained_answer x n) (λ w. same_number w.tier.next)) w w' reply) q)

loads_writethrough_leads : (x : Target) → PartLeads (LoadsWritethrough x)
loads_writethrough_leads x =
    then_leads _ _ round_if_unsettled_leads (reads_leads _ _ (λ t. same_number t.next) (λ n w w' reply q. unless_leads (overflow_fault x.filter (backing_roots (backing_at w n) x)) _ (settles_leads x (added_answer x n) (λ w. same_number w.tier.next)) w w' reply q))

loads_leads : (load : Load) → PartLeads (Loads load)
loads_leads load = on_target_leads load.group load.which _ (λ x w w' reply q. either_leads (is_read_only x.group) (loads_read_only_leads x w w' reply) (loads_writethrough_leads x w w' reply) q)

refreshes_read_only_leads : (x : Target) → PartLeads (RefreshesReadOnly x)
refreshes_read_only_leads x =
    reads_leads _ _ (tried_next x.group) (λ n w w' reply q. either_leads (is_explicit x.group) (settles_leads x (whole_answer x n) (λ w. same_number w.tier.next) w w' reply)
    (unless_leads (overflow_fault x.filter (held_roots x (view_roots (backing_at w n) x))) _ (settles_leads x (held_answer x n) (λ w. same_number w.tier.next)) w w' reply) q)

refreshed_next : (x : Target) (n : ℕ) (w : World) → w.tier.next ≤ (refreshed_answer x n w).0.next
refreshed_next x n w = either_next w.tier (is_explicit x.group) _ _ (same_number w.tier.next) (same_number w.tier.next)

refreshes_writethrough_leads : (x : Target) → PartLeads (RefreshesWritethrough x)
refreshes_writethrough_leads x =
    then_leads _ _ round_if_unsettled_leads (reads_leads _ _ (λ t. same_number t.next) (λ n w w' reply q. unless_leads (overflow_fault x.filter (judged_roots (backing_at w n) x)) _ (settles_leads x (refreshed_answer x n) (refreshed_next x n)) w w' reply q))

refreshes_leads : (load : Load) → PartLeads (Refreshes load)
refreshes_leads load = on_target_leads load.group load.which _ (λ x w w' reply q. either_leads (is_read_only x.group) (refreshes_read_only_leads x w w' reply) (refreshes_writethrough_leads x w w' reply) q)

-- UNLOAD, ALTER, DROP

unloads_leads : (s : Session) (u : OfGroup) → PartLeads (Unloads s u)
unloads_leads s u = on_target_leads u.group u.which _ (λ x w w' reply q. unless_leads (unload_fault s x w) _ (then_leads _ _ (flushes_some_leads (unload_entries (asks_all u.which) x.group)) (answers_leads (unload_answer x (asks_all u.which)) (λ w. same_number w.tier.next))) w w' reply q)

state_alone_leads : (place : ℕ) (g : Group) (state : RefreshState) → PartLeads (SetsStateAlone place g state)
state_alone_leads place g state = then_leads _ _ (flushes_some_leads (altered_entries g state)) (answers_leads (state_answer place state) (λ w. same_number w.tier.next))

state_refreshed_leads : (place : ℕ) (g : Group) (state : RefreshState) (chosen : Choice) (tried : Tier → Tier) → ((t : Tier) → t.next ≤ (tried t).next) → PartLeads (SetsStateRefreshed place g state chosen tried)
state_refreshed_leads place g state chosen tried le = reads_leads _ _ le (λ n. then_leads _ _ (flushes_some_leads (altered_entries g state)) (answers_leads (refreshed_state place state chosen n) (λ w. same_number w.tier.next)))

alters_to_leads : (state : RefreshState) (place : ℕ) (g : Group) → PartLeads (AltersTo state place g)
alters_to_leads On place g w w' reply q = either_leads (joins_something place g w.tier) (state_refreshed_leads place g On _ _ (λ t. same_number t.next) w w' reply) (state_alone_leads place g On w w' reply) q
alters_to_leads Off place g w w' reply q = state_alone_leads place g Off w w' reply q
alters_to_leads Paused place g w w' reply q = either_leads _ (state_refreshed_leads place g Paused _ _ (λ t. same_number t.next) w w' reply) (state_alone_leads place g Paused w w' reply) q

alters_leads : (a : Alter) → PartLeads (Alters a)
alters_leads a w w' reply q = alters_to_leads a.state q.place q.group w w' reply q.does

drops_rest_leads : (s : Session) (g : Group) → PartLeads (DropsRest s g)
drops_rest_leads s g w w' reply q = unless_leads _ _ (then_leads _ _ (flushes_some_leads (Drops g.def.name ∷ [])) (answers_leads (drop_answer g.def.name) (λ w. same_number w.tier.next))) w w' reply q

drops_at_leads : (s : Session) (place : ℕ) (g : Group) → PartLeads (DropsAt s place g)
drops_at_leads s place g w w' reply q = either_leads (is_writethrough g) (then_leads _ _ round_leads (tries_leads _ (drops_rest_leads s g)) w w' reply) (drops_rest_leads s g w w' reply) q

drops_leads : (s : Session) (name : List ℕ) → PartLeads (DropsGroup s name)
drops_leads s name w w' reply q = drops_at_leads s q.place q.group w w' reply q.does

-- CALL

drains_leads : PartLeads Drains
drains_leads w w' reply q = then_leads _ _ round_leads (answers_leads _ (λ mid. same_number mid.tier.next)) w w' reply q

called_leads : (s : Session) (r : Result Called Rule) → PartLeads (DoesCalled s r)
called_leads s (Err rule) w w' reply q = refuses_leads rule w w' reply q
called_leads s (Ok Drain) w w' reply q = drains_leads w w' reply q
called_leads s (Ok (RefreshSet interval)) w w' reply q = then_leads _ _ (refreshes_if_shown_leads interval) (answers_leads _ (λ mid. same_number mid.tier.next)) w w' reply q
called_leads s (Ok (SetLevel level)) w w' reply q = quiet _ w w' reply (same_number w.tier.next) q

-- a statement of a session

statement_leads : (s : Session) (st : Stmt) → PartLeads (DoesStatement s st)
statement_leads s (statement.Select query) w w' reply q = selects_placed_leads s _ w w' reply q
statement_leads s (statement.Write write) w w' reply q = writes_placed_leads s _ w w' reply q
statement_leads s (statement.CreateGroup d) w w' reply q = creates_group_leads d w w' reply q
statement_leads s (statement.CreateIndex i) w w' reply q = absurd q
statement_leads s (statement.Load load) w w' reply q = loads_leads load w w' reply q
statement_leads s (statement.Refresh load) w w' reply q = refreshes_leads load w w' reply q
statement_leads s (statement.Unload u) w w' reply q = unloads_leads s u w w' reply q
statement_leads s (statement.Flush u) w w' reply q = absurd q
statement_leads s (statement.Alter a) w w' reply q = alters_leads a w w' reply q
statement_leads s (statement.DropGroup name) w w' reply q = drops_leads s name w w' reply q
statement_leads s (statement.DropIndex name) w w' reply q = absurd q
statement_leads s (statement.Call c) w w' reply q = called_leads s _ w w' reply q
statement_leads s statement.Commit w w' reply q = commits_own_leads s s.own w w' reply q
statement_leads s statement.Rollback w w' reply q = quiet _ w w' reply (same_number w.tier.next) q

request_leads : (label : List ℕ) (s : Session) (r : Request) → PartLeads (DoesRequest label s r)
request_leads label s (asks_for.Open options) w w' reply q = absurd q
request_leads label s asks_for.Close w w' reply q = quiet _ w w' reply (same_number w.tier.next) q
request_leads label s (asks_for.Statement st) w w' reply q = unless_leads _ _ (statement_leads s st) w w' reply q

session_leads : (label : List ℕ) (o : Option Session) (r : Request) → PartLeads (ForSession label o r)
session_leads label None (asks_for.Open options) w w' reply q = quiet _ w w' reply (same_number w.tier.next) q
session_leads label None asks_for.Close w w' reply q = absurd q
session_leads label None (asks_for.Statement st) w w' reply q = absurd q
session_leads label (Some s) r w w' reply q = request_leads label s r w w' reply q

-- the console

after_define_next : (def : TableDef) (r : Result (Unit {0}) BankError) (t : Tier) → t.next ≤ (after_define def r t).next
after_define_next def (Ok done) t = same_number t.next
after_define_next def (Err Failed) t = same_number t.next
after_define_next def (Err Memory) t = same_number t.next

creates_leads : (def : TableDef) → PartLeads (Creates def)
creates_leads def w w' reply q = bank_leads w w' _ (defines_grows def q.result) (next_of w w' _ q.tier (after_define_next def q.result w.tier)) q.call

writes_all_leads : (writes : List Write) → PartLeads (WritesAll writes)
writes_all_leads writes w w' reply q = bank_leads w w' _ (foreign_grows q.changes q.result) (next_of w w' _ q.tier (same_number w.tier.next)) q.call

console_leads : (c : ConsoleRequest) → PartLeads (DoesConsole c)
console_leads (console.CreateTable d) w w' reply q = unless_leads _ _ (creates_leads _) w w' reply q
console_leads (console.Writes writes) w w' reply q = unless_leads _ _ (writes_all_leads writes) w w' reply q

does_leads : (l : Line) → PartLeads (Does l)
does_leads (says.Session label request) w w' reply q = session_leads label _ request w w' reply q
does_leads (says.Console request) w w' reply q = console_leads request w w' reply q
does_leads (says.Clock ms) w w' reply q = quiet _ w w' reply (same_number w.tier.next) q

told_next : (r : Result (List TableDef) BankError) (t : Tier) → t.next ≤ (told r t).next
told_next (Ok schema) t = same_number t.next
told_next (Err e) t = same_number t.next

asked_leads : StageLeads Asked
asked_leads w w' stop q = bank_leads w w' _ (schema_grows q.result) (next_of w w' _ q.tier (told_next q.result w.tier)) q.call

asks_schema_leads : (l : Line) → StageLeads (AsksSchema l)
asks_schema_leads l w w' stop q = only_where_leads (asks_schema w.tier l) Asked asked_leads w w' stop q

-- due work

abbrev ItemLeads : Item → Type 0
ItemLeads item = (w w' : World) (notes : List Note) (stop : Option Reply) → item w w' notes stop → LeadsTo w w'

settled_next : (d : Doubt) (history : List Entry) (r : Result Bool BankError) (t : Tier) → t.next ≤ (settled d history r t).next
settled_next d history (Ok true) t = by d.of
  where
    by : (o : Doubted) → t.next ≤ (settled (record d { of = o }) history (Ok true) t).next
    by ACommit = same_number t.next
    by APassedWrite = same_number t.next
settled_next d history (Ok false) t = by d.of
  where
    by : (o : Doubted) → t.next ≤ (settled (record d { of = o }) history (Ok false) t).next
    by ACommit = same_number t.next
    by APassedWrite = same_number t.next
settled_next d history (Err e) t = same_number t.next

recorded_leads : (d : Doubt) → ItemLeads (AsksRecorded d)
recorded_leads d w w' notes stop q = bank_leads w w' _ (recorded_grows d.ticket q.result) (next_of w w' _ q.tier (settled_next d w'.history q.result w.tier)) q.call

doubt_leads : (o : Option Doubt) → ItemLeads (SettlesDoubt o)
doubt_leads None w w' notes stop q = same w w' q.0
doubt_leads (Some d) w w' notes stop q = recorded_leads d w w' notes stop q

item_follows_leads : (end : Option Reply) (item : Item) → ItemLeads item → ItemLeads (ItemFollows end item)
item_follows_leads None item p w w' notes stop q = p w w' notes stop q
item_follows_leads (Some end) item p w w' notes stop q = same w w' q.0

then_item_leads : (one other : Item) → ItemLeads one → ItemLeads other → ItemLeads (ThenItem one other)
then_item_leads one other p r w w' notes stop q = on w q.mid w' (p w q.mid q.before q.end q.first) (item_follows_leads q.end other r q.mid w' q.behind stop q.next)

due_round_leads : ItemLeads DueRound
due_round_leads w w' notes stop q = only_where_leads (is_round_due w.tier) Round round_leads w w' q.end q.does

due_sets_of_leads : (intervals : List ℕ) → ItemLeads (DueSetsOf intervals)
due_sets_of_leads [] w w' notes stop q = same w w' q.0
due_sets_of_leads (interval ∷ more) w w' notes stop q =
    then_item_leads _ _ (λ w w' notes stop n. refreshes_if_shown_leads interval w w' n.end n.does) (due_sets_of_leads more) w w' notes stop q

due_sets_leads : ItemLeads DueSets
due_sets_leads w w' notes stop q = due_sets_of_leads (due_sets w.tier) w w' notes stop q

due_aging_leads : ItemLeads DueAging
due_aging_leads w w' notes stop q = subst (λ x. LeadsTo w x) (sym q.0) (tiered w _ (same_number w.tier.next))

due_doubt_leads : ItemLeads DueDoubt
due_doubt_leads w w' notes stop q = doubt_leads w.tier.doubt w w' notes stop q

due_work_leads : ItemLeads DueWork
due_work_leads = then_item_leads _ _ due_doubt_leads (then_item_leads _ _ due_round_leads (then_item_leads _ _ due_sets_leads due_aging_leads))

-- lines

goes_through_leads : (o : Option Reply) (l : Line) → PartLeads (GoesThrough o l)
goes_through_leads None l w w' reply q = tries_leads _ (then_leads _ _ (asks_schema_leads l) (tries_leads _ (does_leads l))) w w' reply q
goes_through_leads (Some stop) l w w' reply q = same w w' q.0

parts_leads : (base : ℕ) (l : Line) → PartLeads (Parts base l)
parts_leads base l w w' reply q =
    on w q.due w' (on w (record w { tier = at_moment base l w.tier }) q.due (tiered w (at_moment base l w.tier) (same_number w.tier.next)) (due_work_leads _ q.due q.notes q.stop q.works)) (goes_through_leads q.stop l q.due w' q.last q.does)

answered_leads : (base : ℕ) (l : Line) → PartLeads (Answered base l)
answered_leads base l w w' reply (inl q) = unless_leads (early_fault base l w.tier) _ (parts_leads base l) w w' reply q
answered_leads base l w w' reply (inr q) = same w w' q.0

heeds_leads : (base : ℕ) (said : Saying) → PartLeads (Heeds base said)
heeds_leads base Silent w w' reply q = absurd q
heeds_leads base (Says l) w w' reply q =
    either_leads (is_undone l) (λ undone. tries_leads _ (refuses_leads _) w w' reply undone) (λ does. answered_leads base l w w' reply does) q
heeds_leads base (WrongAt place) w w' reply q = tries_leads _ (refuses_leads _) w w' reply q
heeds_leads base TooDeep w w' reply q = tries_leads _ (refuses_leads _) w w' reply q
heeds_leads base TooLong w w' reply q = refuses_leads _ w w' reply q

pub heed_leads : HeedLeads
heed_leads base w w' said reply q = heeds_leads base said w w' reply q

pub step_leads : StepLeads
step_leads base w w' said None q = same w w' q.1
step_leads base w w' said (Some reply) q = heeds_leads base said w w' reply q.1

pub run_leads : RunLeads
run_leads w w' [] [] e = same w w' e
run_leads w w' (line ∷ lines) (reply ∷ replies) q = on w q.0 w' (step_leads line.base w q.0 line.said reply q.1) (run_leads q.0 w' lines replies q.2)
run_leads w w' [] (reply ∷ replies) q = absurd q
run_leads w w' (line ∷ lines) [] q = absurd q

keeps_journal : (w w' : World) → LeadsTo w w' → w'.journal.kept ≡ w.journal.kept
keeps_journal w w' l = kept_on_way w.journal w'.journal (l.journal).renewals (l.journal).leads

pub step_keeps_journal : StepKeepsJournal
step_keeps_journal base w w' said reply q = keeps_journal w w' (step_leads base w w' said reply q)

pub step_keeps_way : StepKeepsWay
step_keeps_way base w w' said reply q =
    let l = (step_leads base w w' said reply q).journal in
    way_on_way w.journal w'.journal l.renewals l.leads

pub run_keeps_journal : RunKeepsJournal
run_keeps_journal w w' lines replies q = keeps_journal w w' (run_leads w w' lines replies q)
