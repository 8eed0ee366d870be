-- That what the next opening reads can be read behind each statement.
use Rattle.std.proofs.Common.{inl, inr, ℕ, List, [], ◌∷◌, ◌++◌, Bool, true, false, cond, Option, Some, None, Result, Ok, Err, refl, ap}
use Rattle.row_types.specs.declared.rule.Rule.{Rule}
use Rattle.row_types.specs.declared.value.Value.{Value}
use Rattle.tier_base.specs.declared.number.TableId.{TableId}
use Rattle.table_state.specs.declared.history.Sealed.{Sealed}
use Rattle.table_state.specs.declared.operation.Op.{Op}
use Rattle.table_state.specs.declared.operation.Op.TheVariants.{Insert, Update, Delete}
use Rattle.table_state.specs.Tables.{TableState}
use Rattle.evaluator.specs.declared.change.Change.{Change}
use Rattle.evaluator.specs.declared.plan.Plan.{Plan}
use Rattle.outside.specs.Bank.{AppliesOnce, TellsRecorded, TellsRow}
use Rattle.outside.specs.Console.{WritesForeign}
use Rattle.outside.specs.declared.fault.BankError.{BankError}
use Rattle.outside.specs.declared.fault.BankError.TheVariants.{Failed, Memory}
use Rattle.outside.specs.declared.site.Applied.{Applied}
use Rattle.outside.specs.declared.site.Applied.TheVariants.{Now, Before, NotReady, Differs}
use Rattle.outside.specs.declared.site.Done.{Done as Wrote}
use Rattle.outside.specs.declared.site.Done.TheVariants.{Rows, Broken}
use Rattle.resolution.specs.Queries.{PlacedQuery}
use Rattle.resolution.specs.Writes.{PlacedChange}
use Rattle.sql_query.specs.declared.write.Write.{Write}
use Rattle.sql_subset.specs.declared.stmt.Alter.{Alter}
use Rattle.sql_subset.specs.declared.stmt.CreateGroup.{CreateGroup}
use Rattle.sql_subset.specs.declared.stmt.Load.{Load}
use Rattle.sql_subset.specs.declared.stmt.OfGroup.{OfGroup}
use Rattle.sql_subset.specs.declared.stmt.RefreshState.{RefreshState}
use Rattle.sql_subset.specs.declared.stmt.RefreshState.TheVariants.{On, Off, Paused}
use Rattle.sql_subset.specs.declared.request.Request.{Request}
use Rattle.sql_subset.specs.declared.request.Request.TheVariants as asks_for
use Rattle.sql_subset.specs.declared.stmt.Stmt.{Stmt}
use Rattle.sql_subset.specs.declared.stmt.Stmt.TheVariants as statement
use Rattle.sql_subset.specs.declared.stmt.Which.{Which}
use Rattle.cache_tier.specs.AlterSteps.{same_state, Alters, AltersTo, SetsStateAlone, SetsStateRefreshed, altered_entries, refreshed_state, state_answer, joins_something, with_state}
use Rattle.cache_tier.specs.declared.called.Called.{Called}
use Rattle.cache_tier.specs.declared.called.Called.TheVariants.{Drain, RefreshSet, SetLevel}
use Rattle.cache_tier.specs.ChangeSteps.{Changes}
use Rattle.cache_tier.specs.CommitSteps.{AppliesNow, CommitsLater, CommitsNow, CommitsOwn, is_synchronous_own, sealed_own}
use Rattle.cache_tier.specs.Conditions.{asks_all, overflow_fault}
use Rattle.cache_tier.specs.ConsoleSteps.{WritesAll}
use Rattle.cache_tier.specs.DefineSteps.{CreatesGroup, define_answer, with_new_group}
use Rattle.cache_tier.specs.DropSteps.{DropsAt, DropsGroup, DropsRest, drop_answer, without_group}
use Rattle.cache_tier.specs.DynamicLoads.{Brings, BringsAt, BringsInto, BringsReadOnly, BringsWritethrough, LoadsWanted, joined_tier, state_entries}
use Rattle.cache_tier.specs.Groups.{Group, definitions_of, is_explicit, is_read_only, is_writethrough}
use Rattle.cache_tier.specs.InsertSteps.{Finds, Inserts, has_key_in, taken}
use Rattle.cache_tier.specs.JournalSteps.{Flushes}
use Rattle.cache_tier.specs.Journals.{Drops, JournalEntry, Numbers, SetsState, SetsLoaded, Prepares, Commits, Defines}
use Rattle.cache_tier.specs.LoadSteps.{Loads, LoadsReadOnly, LoadsWritethrough, added_answer, gained_answer}
use Rattle.cache_tier.specs.Locks.{lock_fault}
use Rattle.cache_tier.specs.PassedSteps.{PassesOn, WritesPassed, with_ticket}
use Rattle.outside.specs.Passing.{PassesWrite}
use Rattle.cache_tier.specs.Reading.{Answers, as_it_was, backing_at}
use Rattle.cache_tier.specs.RefreshSteps.{Refreshes, RefreshesReadOnly, RefreshesWritethrough, held_answer, judged_roots, refreshed_answer}
use Rattle.cache_tier.specs.Rounds.{Drains}
use Rattle.cache_tier.specs.Routes.{Cached, PassedOn, Route}
use Rattle.cache_tier.specs.Shown.{seen_by}
use Rattle.cache_tier.specs.SelectSteps.{SelectsBy, SelectsOn, SelectsPlaced, plan_of}
use Rattle.cache_tier.specs.Sets.{has_something, Choice, RefreshesIfShown, RefreshesSet, shows_something, alone, of_set, refreshed}
use Rattle.cache_tier.specs.Steps.{DoesCalled, DoesRequest, DoesStatement, ForSession}
use Rattle.cache_tier.specs.Targets.{OnTarget, Settles, Target, backing_roots, held_roots, load_entries, view_roots, whole_answer, flag_entries}
use Rattle.cache_tier.specs.TierStates.{Session, Tier}
use Rattle.cache_tier.specs.UnloadSteps.{Unloads, unload_answer, unload_entries, unload_fault, unloaded, gone_keys}
use Rattle.cache_tier.specs.Wants.{Want, loaded_want}
use Rattle.cache_tier.specs.WriteSteps.{WritesBy, WritesEffects, WritesOps, WritesPlaced, WritesShown}
use Rattle.cache_tier.specs.Worlds.{Answer, Becomes, Part, ThenStage, World}
use Rattle.std.specs.List.{filter}
use Rattle.std.specs.Prelude.{◌&&◌}
use Rattle.instances.specs.declared.tree.Tree.{Tree}
use Rattle.table_state.specs.declared.history.Entry.TheVariants.{Foreign, Own}
use Rattle.table_state.specs.Histories.{entry_of}
use Rattle.cache_tier.specs.Definitions.{text_of}
use Rattle.cache_tier.specs.OwnWrites.{apply_fault}
use Rattle.reopened_laws.specs.Leaving.{HasText}
use Rattle.reopened_laws.proofs.ReadTiers.{Rests, added_rests, after_applied_rests, after_passed_rests, changed_rests, committed_rests, found_rests, gained_rests, held_rests, insert_rests, joined_rests, query_rests, refreshed_answer_rests, refreshed_rests, rests, rests_on, set_tried_rests, ticket_rests, tried_rests, unless_rests, unloaded_def, used_rests, whole_rests, wrote_answer_rests}
use Rattle.reopened_laws.proofs.ReadParts.{AllPrint, AllRead, DefinesNone, PartKeeps, Prints, Readable, StageKeeps, adds_nothing, all_both, answers_keeps, bank, becomes_keeps, either_keeps, flushes_keeps, flushes_some_keeps, of_tier, only_where_keeps, passes_keeps, quiet, reads_first_keeps, reads_keeps, records_keeps, refuses_keeps, round_if_unsettled_keeps, round_keeps, same, then_keeps, then_stage_keeps, tries_keeps, unless_keeps}

-- ---- what calls of the bank add

row_none : (t : TableId) (key : List Value) (r : Result (Option (List Value)) BankError) → DefinesNone (TellsRow t key r)
row_none t key (Ok row) old new p = adds_nothing old new p.0
row_none t key (Err e) old new p = adds_nothing old new p

pub foreign_none : (changes : List Change) (r : Result Wrote BankError) → DefinesNone (WritesForeign changes r)
foreign_none changes (Ok (Rows n)) old new p = record { more = Foreign p.ops ∷ []; is = p.grows; none = refl }
foreign_none changes (Ok (Broken rule)) old new p = adds_nothing old new p.0
foreign_none changes (Err Memory) old new p = adds_nothing old new p
foreign_none changes (Err Failed) old new (inl p) = adds_nothing old new p
foreign_none changes (Err Failed) old new (inr p) = record { more = Foreign p.1.ops ∷ []; is = p.1.grows; none = refl }

passes_none : (ticket : ℕ) (change : Change) (ops : List Op) (r : Result Wrote BankError) → DefinesNone (PassesWrite ticket change ops r)
passes_none ticket change ops (Ok (Rows n)) old new p = record { more = Own (record { 0 = ticket }) ops ∷ []; is = p.grows; none = refl }
passes_none ticket change ops (Ok (Broken rule)) old new p = adds_nothing old new p.0
passes_none ticket change ops (Err Memory) old new p = adds_nothing old new p
passes_none ticket change ops (Err Failed) old new (inl p) = adds_nothing old new p
passes_none ticket change ops (Err Failed) old new (inr p) = record { more = Own (record { 0 = ticket }) ops ∷ []; is = p.1.grows; none = refl }

pub recorded_none : (ticket : ℕ) (r : Result Bool BankError) → DefinesNone (TellsRecorded ticket r)
recorded_none ticket (Ok stands) old new p = adds_nothing old new p.0
recorded_none ticket (Err e) old new p = adds_nothing old new p

once_none : (x : Sealed) (r : Result Applied BankError) → DefinesNone (AppliesOnce x [] r)
once_none x (Ok (Now receipt)) old new p = record { more = entry_of x ∷ []; is = p.0.grows; none = refl }
once_none x (Ok (Before receipt)) old new p = adds_nothing old new p.1
once_none x (Ok (NotReady ticket)) old new p = adds_nothing old new p.3
once_none x (Ok (Differs table key row)) old new p = adds_nothing old new p.3
once_none x (Err Memory) old new p = adds_nothing old new p
once_none x (Err Failed) old new (inl p) = adds_nothing old new p
once_none x (Err Failed) old new (inr p) = record { more = entry_of x ∷ []; is = p.grows; none = refl }

-- ---- entries that aren't definitions

one_or_none : (b : Bool) (e : JournalEntry) → HasText e → AllRead (cond b (e ∷ []) [])
one_or_none true e a = (a, tt)
one_or_none false e a = tt

none_or_one : (b : Bool) (e : JournalEntry) → HasText e → AllRead (cond b [] (e ∷ []))
none_or_one true e a = tt
none_or_one false e a = (a, tt)

state_read : (g : Group) → AllRead (state_entries g)
state_read g = one_or_none _ (SetsState g.def.name On) tt

flag_read : (flag : Bool) (g : Group) → AllRead (flag_entries flag g)
flag_read flag g = one_or_none _ (SetsLoaded g.def.name flag) tt

load_read : (g : Group) → AllRead (load_entries g)
load_read g = all_both HasText (state_entries g) (flag_entries true g) (state_read g) (flag_read true g)

unload_read : (all : Bool) (g : Group) → AllRead (unload_entries all g)
unload_read true g = flag_read false g
unload_read false g = tt

altered_read : (g : Group) (state : RefreshState) → AllRead (altered_entries g state)
altered_read g state = none_or_one _ (SetsState g.def.name state) tt

-- ---- sets and dynamic loads

refreshes_set_keeps : (interval : ℕ) → StageKeeps (RefreshesSet interval)
refreshes_set_keeps interval = reads_first_keeps _ _ (set_tried_rests interval) (λ n. becomes_keeps _ (λ w. refreshed_rests (of_set interval None) n (backing_at w n) w.tier))

pub refreshes_if_shown_keeps : (interval : ℕ) → StageKeeps (RefreshesIfShown interval)
refreshes_if_shown_keeps interval w w' stop q r = only_where_keeps (shows_something interval w.tier.groups) (RefreshesSet interval) (refreshes_set_keeps interval) w w' stop q r

brings_read_only_keeps : (place : ℕ) (g : Group) (want : Want) → StageKeeps (BringsReadOnly place g want)
brings_read_only_keeps place g want = reads_first_keeps _ _ (tried_rests g) (λ n. then_stage_keeps _ _ (flushes_some_keeps (state_entries g) (state_read g)) (becomes_keeps (joined_tier place g want n) (joined_rests place g want n)))

brings_writethrough_keeps : (place : ℕ) (want : Want) → StageKeeps (BringsWritethrough place want)
brings_writethrough_keeps place want = then_stage_keeps _ _ round_if_unsettled_keeps (reads_first_keeps _ _ (λ t. rests t) (λ n. becomes_keeps _ (λ w. found_rests place (backing_at w n) want w.tier)))

brings_into_keeps : (place : ℕ) (o : Option Group) (want : Want) → StageKeeps (BringsInto place o want)
brings_into_keeps place None want w w' stop q r = same w w' q.0 r
brings_into_keeps place (Some g) want w w' stop q r = either_keeps (is_read_only g) (λ x. brings_read_only_keeps place g want w w' stop x r) (λ x. brings_writethrough_keeps place want w w' stop x r) q

brings_keeps : (o : Option ℕ) (t : Tier) (want : Want) → StageKeeps (BringsAt o t want)
brings_keeps None t want = passes_keeps
brings_keeps (Some place) t want = brings_into_keeps place _ want

brings_option_keeps : (t : Tier) (o : Option Want) → StageKeeps (Brings t o)
brings_option_keeps t None = passes_keeps
brings_option_keeps t (Some want) = brings_keeps _ t want

loads_wanted_keeps : (o : Option Want) → StageKeeps (LoadsWanted o)
loads_wanted_keeps o w w' stop q r = brings_option_keeps w.tier (loaded_want w.history w.tier o) w w' stop q r

-- ---- SELECT

selects_on_keeps : (placed : PlacedQuery) (state : World → TableState) (after : Plan → World → Tier) → ((plan : Plan) (w : World) → Rests w.tier (after plan w)) → PartKeeps (SelectsOn placed state after)
selects_on_keeps placed state after k w w' reply q r = quiet _ w w' reply (query_rests w.tier _ q.result (k (plan_of q.resolved) w)) q.quiet r

selects_by_keeps : (route : Route) (s : Session) (placed : PlacedQuery) → PartKeeps (SelectsBy route s placed)
selects_by_keeps Cached s placed w w' reply q r = then_keeps _ _ (loads_wanted_keeps _) (tries_keeps _ (selects_on_keeps placed _ _ (λ plan w. used_rests _ _ w.tier))) w w' reply q r
selects_by_keeps PassedOn s placed w w' reply q r = reads_keeps _ _ (λ t. rests t) (λ n. selects_on_keeps placed _ _ (λ plan w. rests w.tier)) w w' reply q r

selects_placed_keeps : (s : Session) (result : Result PlacedQuery Rule) → PartKeeps (SelectsPlaced s result)
selects_placed_keeps s (Err rule) w w' reply q r = refuses_keeps rule w w' reply q r
selects_placed_keeps s (Ok placed) w w' reply q r = selects_by_keeps _ s placed w w' reply q r

-- ---- INSERT, UPDATE, DELETE

finds_keeps : (s : Session) (table : TableId) (row : List Value) → PartKeeps (Finds s table row)
finds_keeps s table row w w' reply q r =
    bank w w' _ (row_none table _ q.result) (of_tier w.tier w'.tier _ (ap (λ (x : Answer). x.0) q.answer) (insert_rests s w (w.history ++ q.call.history.before) table row q.result)) q.call r

inserts_keeps : (s : Session) (table : TableId) (row : List Value) → PartKeeps (Inserts s table row)
inserts_keeps s table row w w' reply q r = either_keeps (has_key_in (seen_by s w.history w.tier) table row) (λ x. refuses_keeps (taken w.tier table row) w w' reply x r) (λ x. finds_keeps s table row w w' reply x r) q

changes_keeps : (s : Session) (table : TableId) (ops : List Op) → PartKeeps (Changes s table ops)
changes_keeps s table ops w w' reply q r = quiet _ w w' reply (unless_rests w.tier (apply_fault s w ops) _ (wrote_answer_rests s table ops w)) q r

writes_ops_keeps : (s : Session) (table : TableId) (ops : List Op) → PartKeeps (WritesOps s table ops)
writes_ops_keeps s table [] w w' reply q r = changes_keeps s table [] w w' reply q r
writes_ops_keeps s table (Insert t row ∷ []) w w' reply q r = inserts_keeps s t row w w' reply q r
writes_ops_keeps s table (Insert t row ∷ op ∷ ops) w w' reply q r = changes_keeps s table (Insert t row ∷ op ∷ ops) w w' reply q r
writes_ops_keeps s table (Update t old new ∷ ops) w w' reply q r = changes_keeps s table (Update t old new ∷ ops) w w' reply q r
writes_ops_keeps s table (Delete t old ∷ ops) w w' reply q r = changes_keeps s table (Delete t old ∷ ops) w w' reply q r

writes_effects_keeps : (s : Session) (table : TableId) (result : Result (List Op) Rule) → PartKeeps (WritesEffects s table result)
writes_effects_keeps s table (Err rule) w w' reply q r = refuses_keeps rule w w' reply q r
writes_effects_keeps s table (Ok ops) w w' reply q r = unless_keeps (lock_fault s.label w.tier ops) _ (writes_ops_keeps s table ops) w w' reply q r

writes_shown_keeps : (s : Session) (placed : PlacedChange) → PartKeeps (WritesShown s placed)
writes_shown_keeps s placed w w' reply q r = writes_effects_keeps s placed.table _ w w' reply q.writes r

writes_passed_keeps : (s : Session) (ticket : ℕ) (placed : PlacedChange) → PartKeeps (WritesPassed s ticket placed)
writes_passed_keeps s ticket placed w w' reply q r =
    bank w w' _ (passes_none ticket q.change q.ops q.result) (of_tier w.tier w'.tier _ q.tier (after_passed_rests s ticket q.ops q.result w.tier)) q.call r

drawn_keeps : (entries : List JournalEntry) → AllRead entries → StageKeeps (ThenStage (Flushes entries) (Becomes (λ mid. with_ticket mid.tier)))
drawn_keeps entries a = then_stage_keeps _ _ (flushes_keeps entries a) (becomes_keeps _ (λ w. ticket_rests w.tier))

passes_on_keeps : (s : Session) (placed : PlacedChange) → PartKeeps (PassesOn s placed)
passes_on_keeps s placed w w' reply q r =
    unless_keeps _ _ (then_keeps _ _ (drawn_keeps (Numbers w.tier.next ∷ []) (tt, tt)) (writes_passed_keeps s w.tier.next placed)) w w' reply q r

writes_by_keeps : (route : Result Route Rule) (s : Session) (placed : PlacedChange) → PartKeeps (WritesBy route s placed)
writes_by_keeps (Err rule) s placed w w' reply q r = refuses_keeps rule w w' reply q r
writes_by_keeps (Ok Cached) s placed w w' reply q r = then_keeps _ _ (loads_wanted_keeps _) (tries_keeps _ (writes_shown_keeps s placed)) w w' reply q r
writes_by_keeps (Ok PassedOn) s placed w w' reply q r = passes_on_keeps s placed w w' reply q r

writes_placed_keeps : (s : Session) (result : Result PlacedChange Rule) → PartKeeps (WritesPlaced s result)
writes_placed_keeps s (Err rule) w w' reply q r = refuses_keeps rule w w' reply q r
writes_placed_keeps s (Ok placed) w w' reply q r = writes_by_keeps _ s placed w w' reply q r

-- ---- COMMIT

applies_now_keeps : (x : Sealed) (label : List ℕ) → PartKeeps (AppliesNow x label)
applies_now_keeps x label w w' reply q r = bank w w' _ (once_none x q.result) (of_tier w.tier w'.tier _ q.tier (after_applied_rests x label q.result w.tier)) q.call r

commits_now_keeps : (s : Session) → PartKeeps (CommitsNow s)
commits_now_keeps s w w' reply q r = unless_keeps _ _ (then_keeps _ _ (drawn_keeps (Prepares (sealed_own w.tier s) ∷ []) (tt, tt)) (applies_now_keeps _ s.label)) w w' reply q r

commits_later_keeps : (s : Session) → PartKeeps (CommitsLater s)
commits_later_keeps s w w' reply q r =
    unless_keeps _ _ (then_keeps _ _ (records_keeps s.durable (Commits (sealed_own w.tier s)) tt) (answers_keeps _ (λ mid. (let one = committed_rests (sealed_own w.tier s) s.label (with_ticket mid.tier) in record { defs = one.defs; schema = refl; stale = refl })))) w w' reply q r

commits_own_keeps : (s : Session) (ops : List Op) → PartKeeps (CommitsOwn s ops)
commits_own_keeps s [] w w' reply q r = quiet _ w w' reply (record { defs = refl; schema = refl; stale = refl }) q r
commits_own_keeps s (op ∷ ops) w w' reply q r = either_keeps (is_synchronous_own w.tier s) (λ x. commits_now_keeps s w w' reply x r) (λ x. commits_later_keeps s w w' reply x r) q

-- ---- LOAD and REFRESH

settles_keeps : (x : Target) (answer : World → Answer) → ((w : World) → Rests w.tier (answer w).0) → PartKeeps (Settles x answer)
settles_keeps x answer k = then_keeps _ _ (flushes_some_keeps (load_entries x.group) (load_read x.group)) (answers_keeps answer k)

on_target_keeps : (name : List ℕ) (which : Which) (part : Target → Part) → ((x : Target) → PartKeeps (part x)) → PartKeeps (OnTarget name which part)
on_target_keeps name which part p w w' reply q r = p q.target w w' reply q.does r

loads_read_only_keeps : (x : Target) → PartKeeps (LoadsReadOnly x)
loads_read_only_keeps x =
    reads_keeps _ _ (tried_rests x.group)
    (λ n w w' reply q r. either_keeps (is_explicit x.group) (λ e. settles_keeps x (whole_answer x n) (whole_rests x n) w w' reply e r)
    (λ e. unless_keeps (overflow_fault x.filter (view_roots (backing_at w n) x)) _ (settles_keeps x (gained_answer x n) (gained_rests x n)) w w' reply e r) q)

loads_writethrough_keeps : (x : Target) → PartKeeps (LoadsWritethrough x)
loads_writethrough_keeps x =
    then_keeps _ _ round_if_unsettled_keeps
    (reads_keeps _ _ (λ t. rests t) (λ n w w' reply q r. unless_keeps (overflow_fault x.filter (backing_roots (backing_at w n) x)) _ (settles_keeps x (added_answer x n) (added_rests x n)) w w' reply q r))

loads_keeps : (load : Load) → PartKeeps (Loads load)
loads_keeps load = on_target_keeps load.group load.which _ (λ x w w' reply q r. either_keeps (is_read_only x.group) (λ e. loads_read_only_keeps x w w' reply e r) (λ e. loads_writethrough_keeps x w w' reply e r) q)

refreshes_read_only_keeps : (x : Target) → PartKeeps (RefreshesReadOnly x)
refreshes_read_only_keeps x =
    reads_keeps _ _ (tried_rests x.group)
    (λ n w w' reply q r. either_keeps (is_explicit x.group) (λ e. settles_keeps x (whole_answer x n) (whole_rests x n) w w' reply e r)
    (λ e. unless_keeps (overflow_fault x.filter (held_roots x (view_roots (backing_at w n) x))) _ (settles_keeps x (held_answer x n) (held_rests x n)) w w' reply e r) q)

refreshes_writethrough_keeps : (x : Target) → PartKeeps (RefreshesWritethrough x)
refreshes_writethrough_keeps x =
    then_keeps _ _ round_if_unsettled_keeps
    (reads_keeps _ _ (λ t. rests t)
    (λ n w w' reply q r. unless_keeps (overflow_fault x.filter (judged_roots (backing_at w n) x)) _ (settles_keeps x (refreshed_answer x n) (refreshed_answer_rests x n)) w w' reply q r))

refreshes_keeps : (load : Load) → PartKeeps (Refreshes load)
refreshes_keeps load =
    on_target_keeps load.group load.which _ (λ x w w' reply q r. either_keeps (is_read_only x.group) (λ e. refreshes_read_only_keeps x w w' reply e r) (λ e. refreshes_writethrough_keeps x w w' reply e r) q)

-- ---- UNLOAD, ALTER, DROP

unloads_keeps : (s : Session) (u : OfGroup) → PartKeeps (Unloads s u)
unloads_keeps s u =
    on_target_keeps u.group u.which _
    (λ x w w' reply q r. unless_keeps (unload_fault s x w) _
    (then_keeps _ _ (flushes_some_keeps (unload_entries (asks_all u.which) x.group) (unload_read (asks_all u.which) x.group))
    (answers_keeps (unload_answer x (asks_all u.which)) (λ w. changed_rests (alone x.place) (unloaded (gone_keys w x) (asks_all u.which)) (unloaded_def (gone_keys w x) (asks_all u.which)) w.tier))) w w' reply q r)

state_alone_keeps : (place : ℕ) (g : Group) (state : RefreshState) → PartKeeps (SetsStateAlone place g state)
state_alone_keeps place g state = then_keeps _ _ (flushes_some_keeps (altered_entries g state) (altered_read g state)) (answers_keeps (state_answer place state) (λ w. changed_rests (alone place) (with_state state) (λ g. refl) w.tier))

state_refreshed_keeps : (place : ℕ) (g : Group) (state : RefreshState) (chosen : Choice) (tried : Tier → Tier) → ((t : Tier) → Rests t (tried t)) → PartKeeps (SetsStateRefreshed place g state chosen tried)
state_refreshed_keeps place g state chosen tried k =
    reads_keeps _ _ k
    (λ n. then_keeps _ _ (flushes_some_keeps (altered_entries g state) (altered_read g state))
    (answers_keeps (refreshed_state place state chosen n) (λ w. rests_on w.tier (refreshed chosen n (backing_at w n) w.tier) (refreshed_state place state chosen n w).0 (refreshed_rests chosen n (backing_at w n) w.tier)
    (changed_rests (alone place) (with_state state) (λ g. refl) (refreshed chosen n (backing_at w n) w.tier)))))

alters_to_keeps : (state : RefreshState) (place : ℕ) (g : Group) → PartKeeps (AltersTo state place g)
alters_to_keeps On place g w w' reply q r =
    either_keeps (joins_something place g w.tier) (λ x. state_refreshed_keeps place g On _ _ (set_tried_rests g.def.interval) w w' reply x r) (λ x. state_alone_keeps place g On w w' reply x r) q
alters_to_keeps Off place g w w' reply q r = state_alone_keeps place g Off w w' reply q r
alters_to_keeps Paused place g w w' reply q r = either_keeps (same_state g.state Off && has_something g) (λ x. state_refreshed_keeps place g Paused (alone place) as_it_was (λ t. rests t) w w' reply x r) (λ x. state_alone_keeps place g Paused w w' reply x r) q

alters_keeps : (a : Alter) → PartKeeps (Alters a)
alters_keeps a w w' reply q r = alters_to_keeps a.state q.place q.group w w' reply q.does r

-- fewer groups
pub less_print : (test : Group → Bool) (gs : List Group) → AllPrint (definitions_of gs) → AllPrint (definitions_of (filter test gs))
less_print test [] a = tt
less_print test (g ∷ gs) a = by (test g) (less_print test gs a.1)
  where
    by : (b : Bool) → AllPrint (definitions_of (filter test gs)) → AllPrint (definitions_of (cond b (g ∷ filter test gs) (filter test gs)))
    by true rest = (a.0, rest)
    by false rest = rest

dropped : (name : List ℕ) (w : World) → Readable w → Readable (record w { tier = without_group name w.tier })
dropped name w r = record { flushed = r.flushed; tail = r.tail; way = r.way; groups = less_print _ w.tier.groups r.groups; known = r.known; own = r.own; front = r.front }

drop_answers_keeps : (name : List ℕ) → PartKeeps (Answers (drop_answer name))
drop_answers_keeps name w w' reply q r = same (record w { tier = without_group name w.tier }) w' q.0 (dropped name w r)

drops_rest_keeps : (s : Session) (g : Group) → PartKeeps (DropsRest s g)
drops_rest_keeps s g w w' reply q r = unless_keeps _ _ (then_keeps _ _ (flushes_some_keeps (Drops g.def.name ∷ []) (tt, tt)) (drop_answers_keeps g.def.name)) w w' reply q r

drops_at_keeps : (s : Session) (place : ℕ) (g : Group) → PartKeeps (DropsAt s place g)
drops_at_keeps s place g w w' reply q r = either_keeps (is_writethrough g) (λ x. then_keeps _ _ round_keeps (tries_keeps _ (drops_rest_keeps s g)) w w' reply x r) (λ x. drops_rest_keeps s g w w' reply x r) q

drops_keeps : (s : Session) (name : List ℕ) → PartKeeps (DropsGroup s name)
drops_keeps s name w w' reply q r = drops_at_keeps s q.place q.group w w' reply q.does r

-- ---- CREATE CACHE GROUP

pub more_print : (gs : List Group) (g : Group) → AllPrint (definitions_of gs) → Prints g.def.declared → AllPrint (definitions_of (gs ++ g ∷ []))
more_print [] g a p = (p, tt)
more_print (h ∷ gs) g a p = (a.0, more_print gs g a.1 p)

made : (d : CreateGroup) (tree : Tree) (w : World) → Prints d → Readable w → Readable (record w { tier = with_new_group d tree w.tier })
made d tree w p r = record { flushed = r.flushed; tail = r.tail; way = r.way; groups = more_print w.tier.groups _ r.groups p; known = r.known; own = r.own; front = r.front }

define_keeps : (d : CreateGroup) (tree : Tree) → Prints d → PartKeeps (Answers (define_answer d tree))
define_keeps d tree p w w' reply q r = same (record w { tier = with_new_group d tree w.tier }) w' q.0 (made d tree w p r)

creates_group_keeps : (d : CreateGroup) → Prints d → PartKeeps (CreatesGroup d)
creates_group_keeps d p w w' reply q r =
    unless_keeps _ _ (then_keeps _ _ (flushes_keeps (Defines d (text_of d) ∷ []) (inr p, tt)) (define_keeps d q.tree p)) w w' reply q.does r

-- ---- CALL

drains_keeps : PartKeeps Drains
drains_keeps w w' reply q r = then_keeps _ _ round_keeps (answers_keeps _ (λ mid. rests mid.tier)) w w' reply q r

called_keeps : (s : Session) (result : Result Called Rule) → PartKeeps (DoesCalled s result)
called_keeps s (Err rule) w w' reply q r = refuses_keeps rule w w' reply q r
called_keeps s (Ok Drain) w w' reply q r = drains_keeps w w' reply q r
called_keeps s (Ok (RefreshSet interval)) w w' reply q r = then_keeps _ _ (refreshes_if_shown_keeps interval) (answers_keeps _ (λ mid. rests mid.tier)) w w' reply q r
called_keeps s (Ok (SetLevel level)) w w' reply q r = quiet _ w w' reply (record { defs = refl; schema = refl; stale = refl }) q r

-- ---- a statement of a session

-- the definition of a group prints, where the statement has one
abbrev pub StatementPrints : Stmt → Type 0
StatementPrints (statement.CreateGroup d) = Prints d
StatementPrints (statement.Select query) = Unit {0}
StatementPrints (statement.Write write) = Unit {0}
StatementPrints (statement.CreateIndex i) = Unit {0}
StatementPrints (statement.Load load) = Unit {0}
StatementPrints (statement.Refresh load) = Unit {0}
StatementPrints (statement.Unload u) = Unit {0}
StatementPrints (statement.Flush u) = Unit {0}
StatementPrints (statement.Alter a) = Unit {0}
StatementPrints (statement.DropGroup name) = Unit {0}
StatementPrints (statement.DropIndex name) = Unit {0}
StatementPrints (statement.Call c) = Unit {0}
StatementPrints statement.Commit = Unit {0}
StatementPrints statement.Rollback = Unit {0}

statement_keeps : (s : Session) (st : Stmt) → StatementPrints st → PartKeeps (DoesStatement s st)
statement_keeps s (statement.Select query) p w w' reply q r = selects_placed_keeps s _ w w' reply q r
statement_keeps s (statement.Write write) p w w' reply q r = writes_placed_keeps s _ w w' reply q r
statement_keeps s (statement.CreateGroup d) p w w' reply q r = creates_group_keeps d p w w' reply q r
statement_keeps s (statement.CreateIndex i) p w w' reply q r = absurd q
statement_keeps s (statement.Load load) p w w' reply q r = loads_keeps load w w' reply q r
statement_keeps s (statement.Refresh load) p w w' reply q r = refreshes_keeps load w w' reply q r
statement_keeps s (statement.Unload u) p w w' reply q r = unloads_keeps s u w w' reply q r
statement_keeps s (statement.Flush u) p w w' reply q r = absurd q
statement_keeps s (statement.Alter a) p w w' reply q r = alters_keeps a w w' reply q r
statement_keeps s (statement.DropGroup name) p w w' reply q r = drops_keeps s name w w' reply q r
statement_keeps s (statement.DropIndex name) p w w' reply q r = absurd q
statement_keeps s (statement.Call c) p w w' reply q r = called_keeps s _ w w' reply q r
statement_keeps s statement.Commit p w w' reply q r = commits_own_keeps s s.own w w' reply q r
statement_keeps s statement.Rollback p w w' reply q r = quiet _ w w' reply (record { defs = refl; schema = refl; stale = refl }) q r

abbrev pub RequestPrints : Request → Type 0
RequestPrints (asks_for.Statement st) = StatementPrints st
RequestPrints (asks_for.Open options) = Unit {0}
RequestPrints asks_for.Close = Unit {0}

request_keeps : (label : List ℕ) (s : Session) (request : Request) → RequestPrints request → PartKeeps (DoesRequest label s request)
request_keeps label s (asks_for.Open options) p w w' reply q r = absurd q
request_keeps label s asks_for.Close p w w' reply q r = quiet _ w w' reply (record { defs = refl; schema = refl; stale = refl }) q r
request_keeps label s (asks_for.Statement st) p w w' reply q r = unless_keeps _ _ (statement_keeps s st p) w w' reply q r

pub session_keeps : (label : List ℕ) (o : Option Session) (request : Request) → RequestPrints request → PartKeeps (ForSession label o request)
session_keeps label None (asks_for.Open options) p w w' reply q r = quiet _ w w' reply (record { defs = refl; schema = refl; stale = refl }) q r
session_keeps label None asks_for.Close p w w' reply q r = absurd q
session_keeps label None (asks_for.Statement st) p w w' reply q r = absurd q
session_keeps label (Some s) request p w w' reply q r = request_keeps label s request p w w' reply q r

-- ---- the console's writes

pub writes_all_keeps : (writes : List Write) → PartKeeps (WritesAll writes)
writes_all_keeps writes w w' reply q r = bank w w' _ (foreign_none q.changes q.result) (of_tier w.tier w'.tier _ q.tier (rests w.tier)) q.call r
