-- Each statement keeps the one position of each set.
use Rattle.std.specs.List.{filter}
use Rattle.std.specs.Bool.{MatchBool}
use Rattle.std.specs.FinMap.{keys}
use Rattle.cache_tier.specs.Aging.{aged, after_aging, is_aging_due}
use Rattle.cache_tier.specs.declared.group.GroupDef.{GroupDef}
use Rattle.cache_tier.specs.Definitions.{defined_by, new_group}
use Rattle.cache_tier.specs.OwnWrites.{apply_fault, written}
use Rattle.cache_tier.specs.Shown.{over, seen_by, no_rows}
use Rattle.cache_tier.specs.Recency.{used_rows, used_by_ops, with_commit, row_key, selected_rows}
use Rattle.std.proofs.Common.{◌≡◌, inl, inr, ℕ, List, [], ◌∷◌, ◌++◌, Bool, true, false, cond, Option, Some, None, Result, Ok, Err, sym, ap, refl, ◌∙◌, ◌||◌, slice_get, not, map}
use Rattle.row_types.specs.declared.rule.Rule.{Rule}
use Rattle.row_types.specs.declared.value.Value.{Value}
use Rattle.tier_base.specs.declared.number.TableId.{TableId}
use Rattle.table_defs.specs.declared.definition.TableDef.{TableDef}
use Rattle.table_state.specs.declared.history.Entry.{Entry}
use Rattle.table_state.specs.declared.history.Sealed.{Sealed}
use Rattle.table_state.specs.declared.operation.Op.{Op}
use Rattle.table_state.specs.declared.operation.Op.TheVariants.{Insert, Update, Delete}
use Rattle.table_state.specs.Tables.{TableState}
use Rattle.evaluator.specs.declared.plan.Plan.{Plan}
use Rattle.outside.specs.declared.fault.BankError.{BankError}
use Rattle.outside.specs.declared.fault.BankError.TheVariants.{Failed, Memory}
use Rattle.outside.specs.declared.site.Applied.{Applied}
use Rattle.outside.specs.declared.site.Applied.TheVariants.{Now, Before, NotReady, Differs}
use Rattle.outside.specs.declared.site.Done.{Done as Wrote}
use Rattle.outside.specs.declared.site.Done.TheVariants.{Rows, Broken}
use Rattle.resolution.specs.Queries.{PlacedQuery}
use Rattle.resolution.specs.Writes.{PlacedChange}
use Rattle.sql_query.specs.declared.write.Write.{Write}
use Rattle.cache_tier.specs.declared.reply.Note.{Note}
use Rattle.cache_tier.specs.declared.reply.Reply.{Reply}
use Rattle.sql_subset.specs.declared.stmt.Alter.{Alter}
use Rattle.sql_subset.specs.declared.request.ConsoleRequest.{ConsoleRequest}
use Rattle.sql_subset.specs.declared.request.ConsoleRequest.TheVariants as console
use Rattle.sql_subset.specs.declared.stmt.CreateGroup.{CreateGroup}
use Rattle.sql_subset.specs.declared.request.Line.{Line}
use Rattle.sql_subset.specs.declared.request.Line.TheVariants as says
use Rattle.sql_subset.specs.declared.stmt.Load.{Load}
use Rattle.sql_subset.specs.declared.stmt.OfGroup.{OfGroup}
use Rattle.sql_subset.specs.declared.stmt.RefreshState.{RefreshState}
use Rattle.sql_subset.specs.declared.stmt.RefreshState.TheVariants.{On, Off, Paused}
use Rattle.sql_subset.specs.declared.request.Request.{Request}
use Rattle.sql_subset.specs.declared.request.Request.TheVariants as asks_for
use Rattle.sql_subset.specs.declared.stmt.Stmt.{Stmt}
use Rattle.sql_subset.specs.declared.stmt.Stmt.TheVariants as statement
use Rattle.sql_subset.specs.declared.stmt.Which.{Which}
use Rattle.cache_tier.specs.AlterSteps.{Alters, AltersTo, SetsStateAlone, SetsStateRefreshed, altered_entries, refreshed_state, state_answer, joins_something, with_state}
use Rattle.cache_tier.specs.declared.called.Called.{Called}
use Rattle.cache_tier.specs.declared.called.Called.TheVariants.{Drain, RefreshSet, SetLevel}
use Rattle.cache_tier.specs.ChangeSteps.{Changes}
use Rattle.cache_tier.specs.CommitSteps.{AppliesNow, CommitsLater, CommitsNow, CommitsOwn, after_applied, is_synchronous_own}
use Rattle.cache_tier.specs.Conditions.{asks_all, overflow_fault}
use Rattle.cache_tier.specs.ConsoleSteps.{Asked, AsksSchema, Creates, DoesConsole, WritesAll, after_define, asks_schema, told}
use Rattle.cache_tier.specs.DefineSteps.{CreatesGroup, define_answer}
use Rattle.cache_tier.specs.DoubtSteps.{AsksRecorded, SettlesDoubt, settled, stood}
use Rattle.cache_tier.specs.DropSteps.{DropsAt, DropsGroup, DropsRest, drop_answer}
use Rattle.cache_tier.specs.DueWork.{DueAging, DueDoubt, DueRound, DueSets, DueSetsOf, DueWork, Item, ItemFollows, ThenItem, due_sets, is_round_due}
use Rattle.cache_tier.specs.DynamicLoads.{Brings, BringsAt, BringsInto, BringsReadOnly, BringsWritethrough, LoadsWanted, joined_tier, state_entries, with_found, state_loaded, with_found_at}
use Rattle.cache_tier.specs.Positions.{RunKeepsOnePosition, StepKeepsOnePosition}
use Rattle.cache_tier.specs.Sets.{OnePosition, alone, at_position, changed_from, of_set, has_something, loaded_state, loaded_with}
use Rattle.cache_tier.specs.Groups.{Group, is_explicit, is_read_only, is_writethrough, is_on, is_called, with_keys, covers}
use Rattle.cache_tier.specs.InsertSteps.{Finds, Inserts, insert_answer, insert_fault}
use Rattle.cache_tier.specs.JournalSteps.{Flushes, FlushesSome}
use Rattle.cache_tier.specs.Journals.{Drops, JournalEntry, Numbers}
use Rattle.cache_tier.specs.LoadSteps.{Loads, LoadsReadOnly, LoadsWritethrough, added_answer, gained_answer, gains}
use Rattle.cache_tier.specs.Locks.{lock_fault}
use Rattle.cache_tier.specs.PassedSteps.{PassesOn, WritesPassed, after_passed, with_ticket}
use Rattle.cache_tier.specs.Reading.{backing_at, as_it_was}
use Rattle.cache_tier.specs.RefreshSteps.{Refreshes, RefreshesReadOnly, RefreshesWritethrough, held_answer, judged_roots, refreshed_answer}
use Rattle.cache_tier.specs.Rounds.{Drains, Round, RoundIfUnsettled}
use Rattle.cache_tier.specs.Routes.{Cached, PassedOn, Route}
use Rattle.cache_tier.specs.SelectSteps.{SelectsBy, SelectsOn, SelectsPlaced, plan_of, query_answer}
use Rattle.cache_tier.specs.Sets.{RefreshesIfShown, RefreshesSet, set_tried, shows_something}
use Rattle.cache_tier.specs.Steps.{Answered, Does, DoesCalled, DoesRequest, DoesStatement, ForSession, GoesThrough, Heeds, Parts, Saying, Says, Silent, TooDeep, TooLong, WrongAt, at_moment, early_fault}
use Rattle.cache_tier.specs.Targets.{OnTarget, Settles, Target, backing_roots, held_roots, load_entries, view_roots, whole_answer, with_flag, loaded_tier, matching, matching_past}
use Rattle.cache_tier.specs.TierStates.{ACommit, APassedWrite, Doubt, Doubted, Session, Tier, refresh_tried}
use Rattle.cache_tier.specs.UnloadSteps.{Unloads, unload_answer, unload_entries, unload_fault, unloaded, gone_keys}
use Rattle.cache_tier.specs.Wants.{Want, loaded_want}
use Rattle.cache_tier.specs.WriteSteps.{WritesBy, WritesEffects, WritesOps, WritesPlaced, WritesShown}
use Rattle.cache_tier.specs.Undone.{is_undone}
use Rattle.cache_tier.specs.Worlds.{Answer, Becomes, Part, ThenStage, World, unless}
use Rattle.cache_tier.proofs.PositionLaws.{Hidden, Weaker, aged_weaker, alone_one, alone_twice, commit_lessens, filter_one, flag_interval, flag_kind, flag_position, flag_state, hidden_empty, hidden_kind, hidden_state, join_base, join_one, join_step, map_one, ops_weaker, push_one, rows_weaker, same_group, unloaded_weaker}
use Rattle.cache_tier.proofs.PositionWords.{Keeps, PartAt, PartLeads, StageAt, StageLeads, TierOne, answers_at, answers_leads, becomes_at, becomes_leads, either_leads, flushes_leads, flushes_some_leads, flushes_some_stays, kept, of_tier, on, only_where_leads, quiet, reads_at, reads_first_at, reads_first_leads, reads_leads, records_leads, refuses_leads, round_if_unsettled_stays, round_leads, same, then_at, then_leads, then_stage_at, then_stage_leads, tiered, tries_leads, unless_at, unless_leads}
use Rattle.cache_tier.proofs.SetLaws.{refresh_has_one_position}

-- answers that may be refusals

unless_next : (t : Tier) (o : Option Rule) (answer : Answer) → TierOne t answer.0 → TierOne t (unless t o answer).0
unless_next t None answer le = le
unless_next t (Some rule) answer le = kept t

either_next : (t : Tier) (b : Bool) (one other : Answer) → TierOne t one.0 → TierOne t other.0 → TierOne t (cond b one other).0
either_next t true one other p q = p
either_next t false one other p q = q

-- sets

tried_next : (g : Group) (t : Tier) → TierOne t (set_tried g t)
tried_next g t = by g.state
  where
    by : (s : RefreshState) → TierOne t (set_tried (record g { state = s }) t)
    by On = kept t
    by Off = kept t
    by Paused = kept t

refreshes_set_leads : (interval : ℕ) → StageLeads (RefreshesSet interval)
refreshes_set_leads interval = reads_first_leads _ _ kept (λ n. becomes_leads _ (λ w. refresh_has_one_position interval None n (backing_at w n) w.tier (λ place g e there. cc)))

tried_groups : (g : Group) (t : Tier) → (set_tried g t).groups ≡ t.groups
tried_groups g t = by g.state
  where
    by : (s : RefreshState) → (set_tried (record g { state = s }) t).groups ≡ t.groups
    by On = refl
    by Off = refl
    by Paused = refl

refreshes_if_shown_leads : (interval : ℕ) → StageLeads (RefreshesIfShown interval)
refreshes_if_shown_leads interval w w' stop q = only_where_leads (shows_something interval w.tier.groups) (RefreshesSet interval) (refreshes_set_leads interval) w w' stop q

-- dynamic loads

-- of a group that is at a place
either_is : {P Q R : Type 0} (b : Bool) → (b ≡ true → P → R) → (b ≡ false → Q → R) → MatchBool b P Q → R
either_is true p q x = p refl x
either_is false p q x = q refl x

one_there : (groups : List Group) (place : ℕ) (g h : Group) → slice_get groups place ≡ Some g → slice_get groups place ≡ Some h → g ≡ h
one_there groups place g h p q = let same : Some g ≡ Some h = sym p ∙ q in cc

joins_of : (groups : List Group) (place : ℕ) (g : Group) → slice_get groups place ≡ Some g → (h : Group) → slice_get groups place ≡ Some h → h.def.interval ≡ g.def.interval
joins_of groups place g there h at = ap (λ (x : Group). x.def.interval) (one_there groups place h g at there)

joined_one : (groups : List Group) (place n : ℕ) (g : Group) (want : Want) → slice_get groups place ≡ Some g → (w : World) → w.tier.groups ≡ groups → TierOne w.tier (joined_tier place g want n w)
joined_one groups place n g want there w e =
    let joins = joins_of w.tier.groups place g (ap (λ (x : List Group). slice_get x place) e ∙ there) in
    join_one g.def.interval place n w.tier.groups joins _
    (join_step g.def.interval place n w.tier.groups joins (with_found (backing_at w n) want) (λ x. refl) (λ x. refl) _
    (join_step g.def.interval place n w.tier.groups joins state_loaded (λ x. refl) (λ x. refl) _
    (join_base g.def.interval place n w.tier.groups joins (backing_at w n))))

brings_read_only_leads : (groups : List Group) (place : ℕ) (g : Group) (want : Want) → slice_get groups place ≡ Some g → StageAt groups (BringsReadOnly place g want)
brings_read_only_leads groups place g want there =
    reads_first_at groups (set_tried g) _ (tried_groups g) (λ n. then_stage_at groups (FlushesSome (state_entries g)) _ (flushes_some_stays (state_entries g)) (becomes_at groups (joined_tier place g want n) (joined_one groups place n g want there)))

brings_writethrough_leads : (groups : List Group) (place : ℕ) (g : Group) (want : Want) → slice_get groups place ≡ Some g → is_read_only g ≡ false → StageAt groups (BringsWritethrough place want)
brings_writethrough_leads groups place g want there kind =
    then_stage_at groups RoundIfUnsettled _ round_if_unsettled_stays
    (reads_first_at groups as_it_was _ (λ t. refl) (λ n. becomes_at groups (λ w. with_found_at place (backing_at w n) want w.tier)
    (λ w e. alone_one w.tier.groups place (with_found (backing_at w n) want)
    (λ h at. inr (hidden_kind (with_found (backing_at w n) want h) (ap is_read_only (one_there w.tier.groups place h g at (ap (λ (x : List Group). slice_get x place) e ∙ there)) ∙ kind))))))

brings_into_leads : (groups : List Group) (place : ℕ) (o : Option Group) (want : Want) → slice_get groups place ≡ o → StageAt groups (BringsInto place o want)
brings_into_leads groups place None want there w w' stop e q = same w w' q.0
brings_into_leads groups place (Some g) want there w w' stop e q =
    either_is (is_read_only g) (λ kind. brings_read_only_leads groups place g want there w w' stop e) (λ kind. brings_writethrough_leads groups place g want there kind w w' stop e) q

brings_leads : (o : Option ℕ) (t : Tier) (want : Want) → StageAt t.groups (BringsAt o t want)
brings_leads None t want w w' stop e q = same w w' q.0
brings_leads (Some place) t want w w' stop e q = brings_into_leads t.groups place (slice_get t.groups place) want refl w w' stop e q

brings_option_leads : (t : Tier) (o : Option Want) → StageAt t.groups (Brings t o)
brings_option_leads t None w w' stop e q = same w w' q.0
brings_option_leads t (Some want) w w' stop e q = brings_leads _ t want w w' stop e q

loads_wanted_leads : (o : Option Want) → StageLeads (LoadsWanted o)
loads_wanted_leads o w w' stop q = brings_option_leads w.tier (loaded_want w.history w.tier o) w w' stop refl q

-- SELECT

query_next : (t after : Tier) (r : Result (List (List Value)) Rule) → TierOne t after → TierOne t (query_answer t after r).0
query_next t after (Ok rows) le = le
query_next t after (Err rule) le = kept t

selects_on_leads : (placed : PlacedQuery) (state : World → TableState) (after : Plan → World → Tier) → ((plan : Plan) (w : World) → TierOne w.tier (after plan w)) → PartLeads (SelectsOn placed state after)
selects_on_leads placed state after le w w' reply q = quiet _ w w' reply (query_next w.tier _ q.result (le (plan_of q.resolved) w)) q.quiet

selects_by_leads : (r : Route) (s : Session) (placed : PlacedQuery) → PartLeads (SelectsBy r s placed)
selects_by_leads Cached s placed w w' reply q = then_leads _ _ (loads_wanted_leads _) (tries_leads _ (selects_on_leads placed _ _ (λ plan w. map_one (used_rows (seen_by s w.history w.tier) _) (λ g. inl (rows_weaker (seen_by s w.history w.tier) (filter (λ row. covers row.table g) (map (row_key (seen_by s w.history w.tier)) (selected_rows plan (seen_by s w.history w.tier)))) g g (same_group g))) w.tier.groups))) w w' reply q
selects_by_leads PassedOn s placed w w' reply q = reads_leads _ _ (λ t. kept t) (λ n. selects_on_leads placed _ _ (λ plan w. kept w.tier)) w w' reply q

selects_placed_leads : (s : Session) (r : Result PlacedQuery Rule) → PartLeads (SelectsPlaced s r)
selects_placed_leads s (Err rule) w w' reply q = refuses_leads rule w w' reply q
selects_placed_leads s (Ok placed) w w' reply q = selects_by_leads _ s placed w w' reply q

-- INSERT, UPDATE, DELETE

written_one : (s : Session) (table : TableId) (ops : List Op) (w : World) → TierOne w.tier (written s table ops w).0
written_one s table ops w = map_one (used_by_ops over ops (seen_by s w.history w.tier)) (λ g. inl (ops_weaker over ops (seen_by s w.history w.tier) g g (same_group g))) w.tier.groups

insert_next : (s : Session) (w : World) (history : List Entry) (table : TableId) (row : List Value) (r : Result (Option (List Value)) BankError) → TierOne w.tier (insert_answer s w history table row r).0
insert_next s w history table row (Ok found) = unless_next w.tier (insert_fault s w history table row) (written s table (Insert table row ∷ []) w) (written_one s table (Insert table row ∷ []) w)
insert_next s w history table row (Err e) = kept w.tier

finds_leads : (s : Session) (table : TableId) (row : List Value) → PartLeads (Finds s table row)
finds_leads s table row w w' reply q =
    of_tier w w' _ (ap (λ (x : Answer). x.0) q.answer) (insert_next s w (w.history ++ q.call.history.before) table row q.result)

inserts_leads : (s : Session) (table : TableId) (row : List Value) → PartLeads (Inserts s table row)
inserts_leads s table row w w' reply q = either_leads _ (refuses_leads _ w w' reply) (finds_leads s table row w w' reply) q

changes_leads : (s : Session) (table : TableId) (ops : List Op) → PartLeads (Changes s table ops)
changes_leads s table ops w w' reply q = quiet _ w w' reply (unless_next w.tier (apply_fault s w ops) (written s table ops w) (written_one s table ops w)) q

writes_ops_leads : (s : Session) (table : TableId) (ops : List Op) → PartLeads (WritesOps s table ops)
writes_ops_leads s table [] w w' reply q = changes_leads s table [] w w' reply q
writes_ops_leads s table (Insert t row ∷ []) w w' reply q = inserts_leads s t row w w' reply q
writes_ops_leads s table (Insert t row ∷ op ∷ ops) w w' reply q = changes_leads s table (Insert t row ∷ op ∷ ops) w w' reply q
writes_ops_leads s table (Update t old new ∷ ops) w w' reply q = changes_leads s table (Update t old new ∷ ops) w w' reply q
writes_ops_leads s table (Delete t old ∷ ops) w w' reply q = changes_leads s table (Delete t old ∷ ops) w w' reply q

writes_effects_leads : (s : Session) (table : TableId) (r : Result (List Op) Rule) → PartLeads (WritesEffects s table r)
writes_effects_leads s table (Err rule) w w' reply q = refuses_leads rule w w' reply q
writes_effects_leads s table (Ok ops) w w' reply q = unless_leads (lock_fault s.label w.tier ops) _ (writes_ops_leads s table ops) w w' reply q

writes_shown_leads : (s : Session) (placed : PlacedChange) → PartLeads (WritesShown s placed)
writes_shown_leads s placed w w' reply q = writes_effects_leads s placed.table _ w w' reply q.writes

-- passed-on writes

ticket_next : (t : Tier) → TierOne t (with_ticket t)
ticket_next t one = one

after_passed_next : (s : Session) (ticket : ℕ) (ops : List Op) (r : Result Wrote BankError) (t : Tier) → TierOne t (after_passed s ticket ops r t)
after_passed_next s ticket ops (Ok (Rows n)) t = kept t
after_passed_next s ticket ops (Ok (Broken rule)) t = kept t
after_passed_next s ticket ops (Err Memory) t = kept t
after_passed_next s ticket ops (Err Failed) t = kept t

writes_passed_leads : (s : Session) (ticket : ℕ) (placed : PlacedChange) → PartLeads (WritesPassed s ticket placed)
writes_passed_leads s ticket placed w w' reply q =
    of_tier w w' _ q.tier (after_passed_next s ticket q.ops q.result w.tier)

drawn_leads : (entries : List JournalEntry) → StageLeads (ThenStage (Flushes entries) (Becomes (λ mid. with_ticket mid.tier)))
drawn_leads entries = then_stage_leads _ _ (flushes_leads entries) (becomes_leads _ (λ w. ticket_next w.tier))

passes_on_leads : (s : Session) (placed : PlacedChange) → PartLeads (PassesOn s placed)
passes_on_leads s placed w w' reply q =
    unless_leads _ _ (then_leads _ _ (drawn_leads (Numbers w.tier.next ∷ [])) (writes_passed_leads s w.tier.next placed)) w w' reply q

writes_by_leads : (r : Result Route Rule) (s : Session) (placed : PlacedChange) → PartLeads (WritesBy r s placed)
writes_by_leads (Err rule) s placed w w' reply q = refuses_leads rule w w' reply q
writes_by_leads (Ok Cached) s placed w w' reply q = then_leads _ _ (loads_wanted_leads _) (tries_leads _ (writes_shown_leads s placed)) w w' reply q
writes_by_leads (Ok PassedOn) s placed w w' reply q = passes_on_leads s placed w w' reply q

writes_placed_leads : (s : Session) (r : Result PlacedChange Rule) → PartLeads (WritesPlaced s r)
writes_placed_leads s (Err rule) w w' reply q = refuses_leads rule w w' reply q
writes_placed_leads s (Ok placed) w w' reply q = writes_by_leads _ s placed w w' reply q

-- COMMIT

after_applied_next : (x : Sealed) (label : List ℕ) (r : Result Applied BankError) (t : Tier) → TierOne t (after_applied x label r t)
after_applied_next x label (Ok (Now receipt)) t = map_one (with_commit (no_rows t) x.ops) (commit_lessens (no_rows t) x.ops) t.groups
after_applied_next x label (Ok (Before receipt)) t = map_one (with_commit (no_rows t) x.ops) (commit_lessens (no_rows t) x.ops) t.groups
after_applied_next x label (Ok (NotReady ticket)) t = kept t
after_applied_next x label (Ok (Differs table key row)) t = kept t
after_applied_next x label (Err Memory) t = kept t
after_applied_next x label (Err Failed) t = kept t

applies_now_leads : (x : Sealed) (label : List ℕ) → PartLeads (AppliesNow x label)
applies_now_leads x label w w' reply q = of_tier w w' _ q.tier (after_applied_next x label q.result w.tier)

commits_now_leads : (s : Session) → PartLeads (CommitsNow s)
commits_now_leads s w w' reply q = unless_leads _ _ (then_leads _ _ (drawn_leads _) (applies_now_leads _ s.label)) w w' reply q

commits_later_leads : (s : Session) → PartLeads (CommitsLater s)
commits_later_leads s w w' reply q = unless_leads _ _ (then_leads _ _ (records_leads s.durable _) (answers_leads _ (λ mid. map_one (with_commit (no_rows (with_ticket mid.tier)) s.own) (commit_lessens (no_rows (with_ticket mid.tier)) s.own) mid.tier.groups))) w w' reply q

commits_own_leads : (s : Session) (ops : List Op) → PartLeads (CommitsOwn s ops)
commits_own_leads s [] w w' reply q = quiet _ w w' reply (kept w.tier) q
commits_own_leads s (op ∷ ops) w w' reply q = either_leads (is_synchronous_own w.tier s) (commits_now_leads s w w' reply) (commits_later_leads s w w' reply) q

-- CREATE CACHE GROUP

never : (b : Bool) → cond b false false ≡ false
never true = refl
never false = refl

nothing_yet : (t : Tier) (d : CreateGroup) (def : GroupDef) → Hidden (new_group t.next t.now d def)
nothing_yet t d def = hidden_empty (new_group t.next t.now d def) (never (not def.dynamic))

creates_group_leads : (d : CreateGroup) → PartLeads (CreatesGroup d)
creates_group_leads d w w' reply q = unless_leads _ _ (then_leads _ _ (flushes_leads _) (answers_leads (define_answer d q.tree) (λ mid. push_one mid.tier.groups _ (nothing_yet mid.tier d (defined_by mid.tier.schema d q.tree))))) w w' reply q.does

-- LOAD and REFRESH

settles_at : (groups : List Group) (x : Target) (answer : World → Answer) → ((w : World) → w.tier.groups ≡ groups → TierOne w.tier (answer w).0) → PartAt groups (Settles x answer)
settles_at groups x answer k = then_at groups _ _ (flushes_some_stays (load_entries x.group)) (answers_at groups answer k)

on_target_leads : (name : List ℕ) (which : Which) (part : Target → Part) → ((groups : List Group) (x : Target) → slice_get groups x.place ≡ Some x.group → PartAt groups (part x)) → PartLeads (OnTarget name which part)
on_target_leads name which part p w w' reply q = p w.tier.groups q.target q.group w w' reply refl q.does

-- the group at the place is loaded with its set
module _ (groups : List Group) (x : Target) (there : slice_get groups x.place ≡ Some x.group) where
  loaded_one : (n : ℕ) (change : TableState → Group → Group) → ((s : TableState) (g : Group) → (change s g).position ≡ g.position) → ((s : TableState) (g : Group) → (change s g).def.interval ≡ g.def.interval) → ((s : TableState) (g : Group) → (change s g).state ≡ g.state)
      → (w : World) → w.tier.groups ≡ groups → TierOne w.tier (loaded_tier x n change w)
  loaded_one n change position interval state w e = by x.group.state refl
    where
      s : TableState
      s = backing_at w n

      f : Group → Group
      f g = with_flag true (state_loaded (change (backing_at w n) g))

      here : slice_get w.tier.groups x.place ≡ Some x.group
      here = ap (λ (y : List Group). slice_get y x.place) e ∙ there

      join : OnePosition w.tier.groups → OnePosition (changed_from (alone x.place) (λ g. with_flag true (state_loaded (change (backing_at w n) g))) 0 (changed_from (of_set x.group.def.interval (Some x.place)) (at_position n (backing_at w n)) 0 w.tier.groups))
      join =
          let joins = joins_of w.tier.groups x.place x.group here in
          join_one x.group.def.interval x.place n w.tier.groups joins _
          (join_step x.group.def.interval x.place n w.tier.groups joins (λ g. with_flag true (state_loaded (change (backing_at w n) g)))
          (λ g. flag_position true (state_loaded (change (backing_at w n) g)) ∙ position (backing_at w n) g) (λ g. flag_interval true (state_loaded (change (backing_at w n) g)) ∙ interval (backing_at w n) g) _
          (join_base x.group.def.interval x.place n w.tier.groups joins (backing_at w n)))

      by : (st : RefreshState) → x.group.state ≡ st → OnePosition w.tier.groups → OnePosition (changed_from (alone x.place) (λ g. with_flag true (state_loaded (change (backing_at w n) g))) 0 (changed_from (loaded_with (record (x.group) { state = st }) x.place) (at_position n (backing_at w n)) 0 w.tier.groups))
      by On st = join
      by Paused st = join
      by Off st = alone_twice w.tier.groups x.place (at_position n (backing_at w n)) (λ g. with_flag true (state_loaded (change (backing_at w n) g)))
          (λ g at. hidden_state (with_flag true (state_loaded (change (backing_at w n) (at_position n (backing_at w n) g))))
          (ap is_on (flag_state true (state_loaded (change (backing_at w n) (at_position n (backing_at w n) g))))
          ∙ ap (λ (y : RefreshState). is_on (loaded_state y)) (state (backing_at w n) (at_position n (backing_at w n) g) ∙ ap (λ (y : Group). y.state) (one_there w.tier.groups x.place g x.group at here) ∙ st)))

  -- a writethrough group's keys and flag
  added_one : (f : Group → Group) → ((g : Group) → is_read_only (f g) ≡ is_read_only g) → is_read_only x.group ≡ false → (w : World) → w.tier.groups ≡ groups → OnePosition w.tier.groups → OnePosition (changed_from (alone x.place) f 0 w.tier.groups)
  added_one f kind not_read_only w e =
      alone_one w.tier.groups x.place f (λ g at. inr (hidden_kind (f g) (kind g ∙ ap is_read_only (one_there w.tier.groups x.place g x.group at (ap (λ (y : List Group). slice_get y x.place) e ∙ there)) ∙ not_read_only)))

  whole_one : (n : ℕ) (w : World) → w.tier.groups ≡ groups → TierOne w.tier (loaded_tier x n (λ s g. g) w)
  whole_one n w e = loaded_one n (λ s g. g) (λ s g. refl) (λ s g. refl) (λ s g. refl) w e

  loads_read_only_at : PartAt groups (LoadsReadOnly x)
  loads_read_only_at =
      reads_at groups (set_tried x.group) _ (tried_groups x.group) (λ n w w' reply e q. either_leads (is_explicit x.group) (settles_at groups x (whole_answer x n) (whole_one n) w w' reply e)
      (unless_at groups (overflow_fault x.filter (view_roots (backing_at w n) x)) _ (settles_at groups x (gained_answer x n) (λ w e. loaded_one n (gains (keys (matching_past (backing_at w n) x))) (λ s g. refl) (λ s g. refl) (λ s g. refl) w e)) w w' reply e) q)

  loads_writethrough_at : is_read_only x.group ≡ false → PartAt groups (LoadsWritethrough x)
  loads_writethrough_at kind =
      then_at groups RoundIfUnsettled _ round_if_unsettled_stays (reads_at groups as_it_was _ (λ t. refl) (λ n w w' reply e q. unless_at groups (overflow_fault x.filter (backing_roots (backing_at w n) x)) _
      (settles_at groups x (added_answer x n) (λ w e. added_one (λ g. with_flag true (record g { keys = with_keys (keys (matching (backing_at w n) x)) g.keys })) (λ g. flag_kind true (record g { keys = with_keys (keys (matching (backing_at w n) x)) g.keys })) kind w e)) w w' reply e q))

  loads_at : PartAt groups (λ w w' reply. MatchBool (is_read_only x.group) (LoadsReadOnly x w w' reply) (LoadsWritethrough x w w' reply))
  loads_at w w' reply e q = either_is (is_read_only x.group) (λ kind. loads_read_only_at w w' reply e) (λ kind. loads_writethrough_at kind w w' reply e) q

  refreshes_read_only_at : PartAt groups (RefreshesReadOnly x)
  refreshes_read_only_at =
      reads_at groups (set_tried x.group) _ (tried_groups x.group) (λ n w w' reply e q. either_leads (is_explicit x.group) (settles_at groups x (whole_answer x n) (whole_one n) w w' reply e)
      (unless_at groups (overflow_fault x.filter (held_roots x (view_roots (backing_at w n) x))) _ (settles_at groups x (held_answer x n) (whole_one n)) w w' reply e) q)

  refreshed_one : (n : ℕ) → is_read_only x.group ≡ false → (w : World) → w.tier.groups ≡ groups → TierOne w.tier (refreshed_answer x n w).0
  refreshed_one n kind w e =
      either_next w.tier (is_explicit x.group) _ _
      (added_one (λ g. with_flag true (record g { keys = with_keys (keys (matching (backing_at w n) x)) g.keys })) (λ g. flag_kind true (record g { keys = with_keys (keys (matching (backing_at w n) x)) g.keys })) kind w e)
      (added_one (with_flag true) (flag_kind true) kind w e)

  refreshes_writethrough_at : is_read_only x.group ≡ false → PartAt groups (RefreshesWritethrough x)
  refreshes_writethrough_at kind =
      then_at groups RoundIfUnsettled _ round_if_unsettled_stays (reads_at groups as_it_was _ (λ t. refl) (λ n w w' reply e q. unless_at groups (overflow_fault x.filter (judged_roots (backing_at w n) x)) _
      (settles_at groups x (refreshed_answer x n) (refreshed_one n kind)) w w' reply e q))

  refreshes_at : PartAt groups (λ w w' reply. MatchBool (is_read_only x.group) (RefreshesReadOnly x w w' reply) (RefreshesWritethrough x w w' reply))
  refreshes_at w w' reply e q = either_is (is_read_only x.group) (λ kind. refreshes_read_only_at w w' reply e) (λ kind. refreshes_writethrough_at kind w w' reply e) q

loads_leads : (load : Load) → PartLeads (Loads load)
loads_leads load = on_target_leads load.group load.which _ loads_at

refreshes_leads : (load : Load) → PartLeads (Refreshes load)
refreshes_leads load = on_target_leads load.group load.which _ refreshes_at

-- UNLOAD, ALTER, DROP

unloads_leads : (s : Session) (u : OfGroup) → PartLeads (Unloads s u)
unloads_leads s u =
    on_target_leads u.group u.which _ (λ groups x there w w' reply e q. unless_leads (unload_fault s x w) _ (then_leads _ _ (flushes_some_leads (unload_entries (asks_all u.which) x.group))
    (answers_leads (unload_answer x (asks_all u.which)) (λ w. alone_one w.tier.groups x.place (unloaded (gone_keys w x) (asks_all u.which)) (λ g at. inl (unloaded_weaker (gone_keys w x) (asks_all u.which) g))))) w w' reply q)

-- a STATE other than ON, behind whatever else
state_other : (place : ℕ) (g : Group) (state : RefreshState) → is_on state ≡ false → PartLeads (SetsStateAlone place g state)
state_other place g state off = then_leads _ _ (flushes_some_leads (altered_entries g state)) (answers_leads (state_answer place state) (λ w. alone_one w.tier.groups place (with_state state) (λ h at. inr (hidden_state (with_state state h) off))))

-- ON, where the group has nothing to show
left_out : (a b : Bool) → (a || b) ≡ false → a ≡ false
left_out true b e = cc
left_out false b e = refl

state_on : (groups : List Group) (place : ℕ) (g : Group) → slice_get groups place ≡ Some g → has_something g ≡ false → PartAt groups (SetsStateAlone place g On)
state_on groups place g there nothing =
    then_at groups _ _ (flushes_some_stays (altered_entries g On)) (answers_at groups (state_answer place On) (λ w e. alone_one w.tier.groups place (with_state On)
    (λ h at. inr (hidden_empty (with_state On h) (ap has_something (one_there w.tier.groups place h g at (ap (λ (y : List Group). slice_get y place) e ∙ there)) ∙ nothing)))))

state_joined : (groups : List Group) (place : ℕ) (g : Group) → slice_get groups place ≡ Some g → PartAt groups (SetsStateRefreshed place g On (of_set g.def.interval (Some place)) (refresh_tried g.def.interval))
state_joined groups place g there =
    reads_at groups _ _ (λ t. refl) (λ n. then_at groups _ _ (flushes_some_stays (altered_entries g On)) (answers_at groups (refreshed_state place On (of_set g.def.interval (Some place)) n)
    (λ w e. let joins = joins_of w.tier.groups place g (ap (λ (y : List Group). slice_get y place) e ∙ there) in
    join_one g.def.interval place n w.tier.groups joins _ (join_step g.def.interval place n w.tier.groups joins (with_state On) (λ x. refl) (λ x. refl) _ (join_base g.def.interval place n w.tier.groups joins (backing_at w n))))))

state_paused : (place : ℕ) (g : Group) → PartLeads (SetsStateRefreshed place g Paused (alone place) as_it_was)
state_paused place g =
    reads_leads _ _ kept (λ n. then_leads _ _ (flushes_some_leads (altered_entries g Paused)) (answers_leads (refreshed_state place Paused (alone place) n)
    (λ w. alone_twice w.tier.groups place (at_position n (backing_at w n)) (with_state Paused) (λ h at. hidden_state (with_state Paused (at_position n (backing_at w n) h)) refl))))

alters_to_leads : (state : RefreshState) (groups : List Group) (place : ℕ) (g : Group) → slice_get groups place ≡ Some g → PartAt groups (AltersTo state place g)
alters_to_leads On groups place g there w w' reply e q =
    either_is (joins_something place g w.tier) (λ t. state_joined groups place g there w w' reply e) (λ f. state_on groups place g there (left_out (has_something g) _ f) w w' reply e) q
alters_to_leads Off groups place g there w w' reply e q = state_other place g Off refl w w' reply q
alters_to_leads Paused groups place g there w w' reply e q = either_leads _ (state_paused place g w w' reply) (state_other place g Paused refl w w' reply) q

alters_leads : (a : Alter) → PartLeads (Alters a)
alters_leads a w w' reply q = alters_to_leads a.state w.tier.groups q.place q.group q.is w w' reply refl q.does

drops_rest_leads : (s : Session) (g : Group) → PartLeads (DropsRest s g)
drops_rest_leads s g w w' reply q = unless_leads _ _ (then_leads _ _ (flushes_some_leads (Drops g.def.name ∷ [])) (answers_leads (drop_answer g.def.name) (λ w. filter_one (λ h. not (is_called g.def.name h)) w.tier.groups))) w w' reply q

drops_at_leads : (s : Session) (place : ℕ) (g : Group) → PartLeads (DropsAt s place g)
drops_at_leads s place g w w' reply q = either_leads (is_writethrough g) (then_leads _ _ round_leads (tries_leads _ (drops_rest_leads s g)) w w' reply) (drops_rest_leads s g w w' reply) q

drops_leads : (s : Session) (name : List ℕ) → PartLeads (DropsGroup s name)
drops_leads s name w w' reply q = drops_at_leads s q.place q.group w w' reply q.does

-- CALL

drains_leads : PartLeads Drains
drains_leads w w' reply q = then_leads _ _ round_leads (answers_leads _ (λ mid. kept mid.tier)) w w' reply q

called_leads : (s : Session) (r : Result Called Rule) → PartLeads (DoesCalled s r)
called_leads s (Err rule) w w' reply q = refuses_leads rule w w' reply q
called_leads s (Ok Drain) w w' reply q = drains_leads w w' reply q
called_leads s (Ok (RefreshSet interval)) w w' reply q = then_leads _ _ (refreshes_if_shown_leads interval) (answers_leads _ (λ mid. kept mid.tier)) w w' reply q
called_leads s (Ok (SetLevel level)) w w' reply q = quiet _ w w' reply (kept w.tier) q

-- a statement of a session

statement_leads : (s : Session) (st : Stmt) → PartLeads (DoesStatement s st)
statement_leads s (statement.Select query) w w' reply q = selects_placed_leads s _ w w' reply q
statement_leads s (statement.Write write) w w' reply q = writes_placed_leads s _ w w' reply q
statement_leads s (statement.CreateGroup d) w w' reply q = creates_group_leads d w w' reply q
statement_leads s (statement.CreateIndex i) w w' reply q = absurd q
statement_leads s (statement.Load load) w w' reply q = loads_leads load w w' reply q
statement_leads s (statement.Refresh load) w w' reply q = refreshes_leads load w w' reply q
statement_leads s (statement.Unload u) w w' reply q = unloads_leads s u w w' reply q
statement_leads s (statement.Flush u) w w' reply q = absurd q
statement_leads s (statement.Alter a) w w' reply q = alters_leads a w w' reply q
statement_leads s (statement.DropGroup name) w w' reply q = drops_leads s name w w' reply q
statement_leads s (statement.DropIndex name) w w' reply q = absurd q
statement_leads s (statement.Call c) w w' reply q = called_leads s _ w w' reply q
statement_leads s statement.Commit w w' reply q = commits_own_leads s s.own w w' reply q
statement_leads s statement.Rollback w w' reply q = quiet _ w w' reply (kept w.tier) q

request_leads : (label : List ℕ) (s : Session) (r : Request) → PartLeads (DoesRequest label s r)
request_leads label s (asks_for.Open options) w w' reply q = absurd q
request_leads label s asks_for.Close w w' reply q = quiet _ w w' reply (kept w.tier) q
request_leads label s (asks_for.Statement st) w w' reply q = unless_leads _ _ (statement_leads s st) w w' reply q

session_leads : (label : List ℕ) (o : Option Session) (r : Request) → PartLeads (ForSession label o r)
session_leads label None (asks_for.Open options) w w' reply q = quiet _ w w' reply (kept w.tier) q
session_leads label None asks_for.Close w w' reply q = absurd q
session_leads label None (asks_for.Statement st) w w' reply q = absurd q
session_leads label (Some s) r w w' reply q = request_leads label s r w w' reply q

-- the console

after_define_next : (def : TableDef) (r : Result (Unit {0}) BankError) (t : Tier) → TierOne t (after_define def r t)
after_define_next def (Ok done) t = kept t
after_define_next def (Err Failed) t = kept t
after_define_next def (Err Memory) t = kept t

creates_leads : (def : TableDef) → PartLeads (Creates def)
creates_leads def w w' reply q = of_tier w w' _ q.tier (after_define_next def q.result w.tier)

writes_all_leads : (writes : List Write) → PartLeads (WritesAll writes)
writes_all_leads writes w w' reply q = of_tier w w' _ q.tier (kept w.tier)

console_leads : (c : ConsoleRequest) → PartLeads (DoesConsole c)
console_leads (console.CreateTable d) w w' reply q = unless_leads _ _ (creates_leads _) w w' reply q
console_leads (console.Writes writes) w w' reply q = unless_leads _ _ (writes_all_leads writes) w w' reply q

does_leads : (l : Line) → PartLeads (Does l)
does_leads (says.Session label request) w w' reply q = session_leads label _ request w w' reply q
does_leads (says.Console request) w w' reply q = console_leads request w w' reply q
does_leads (says.Clock ms) w w' reply q = quiet _ w w' reply (kept w.tier) q

told_next : (r : Result (List TableDef) BankError) (t : Tier) → TierOne t (told r t)
told_next (Ok schema) t = kept t
told_next (Err e) t = kept t

asked_leads : StageLeads Asked
asked_leads w w' stop q = of_tier w w' _ q.tier (told_next q.result w.tier)

asks_schema_leads : (l : Line) → StageLeads (AsksSchema l)
asks_schema_leads l w w' stop q = only_where_leads (asks_schema w.tier l) Asked asked_leads w w' stop q

-- due work

abbrev ItemLeads : Item → Type 0
ItemLeads item = (w w' : World) (notes : List Note) (stop : Option Reply) → item w w' notes stop → Keeps w w'

settled_next : (d : Doubt) (history : List Entry) (r : Result Bool BankError) (t : Tier) → TierOne t (settled d history r t)
settled_next d history (Ok true) t = by d.of
  where
    by : (o : Doubted) → TierOne t (settled (record d { of = o }) history (Ok true) t)
    by ACommit = map_one (with_commit (no_rows t) (stood d history).ops) (commit_lessens (no_rows t) (stood d history).ops) t.groups
    by APassedWrite = kept t
settled_next d history (Ok false) t = by d.of
  where
    by : (o : Doubted) → TierOne t (settled (record d { of = o }) history (Ok false) t)
    by ACommit = kept t
    by APassedWrite = kept t
settled_next d history (Err e) t = kept t

recorded_leads : (d : Doubt) → ItemLeads (AsksRecorded d)
recorded_leads d w w' notes stop q = of_tier w w' _ q.tier (settled_next d w'.history q.result w.tier)

doubt_leads : (o : Option Doubt) → ItemLeads (SettlesDoubt o)
doubt_leads None w w' notes stop q = same w w' q.0
doubt_leads (Some d) w w' notes stop q = recorded_leads d w w' notes stop q

item_follows_leads : (end : Option Reply) (item : Item) → ItemLeads item → ItemLeads (ItemFollows end item)
item_follows_leads None item p w w' notes stop q = p w w' notes stop q
item_follows_leads (Some end) item p w w' notes stop q = same w w' q.0

then_item_leads : (one other : Item) → ItemLeads one → ItemLeads other → ItemLeads (ThenItem one other)
then_item_leads one other p r w w' notes stop q = on w q.mid w' (p w q.mid q.before q.end q.first) (item_follows_leads q.end other r q.mid w' q.behind stop q.next)

due_round_leads : ItemLeads DueRound
due_round_leads w w' notes stop q = only_where_leads (is_round_due w.tier) Round round_leads w w' q.end q.does

due_sets_of_leads : (intervals : List ℕ) → ItemLeads (DueSetsOf intervals)
due_sets_of_leads [] w w' notes stop q = same w w' q.0
due_sets_of_leads (interval ∷ more) w w' notes stop q =
    then_item_leads _ _ (λ w w' notes stop n. refreshes_if_shown_leads interval w w' n.end n.does) (due_sets_of_leads more) w w' notes stop q

due_sets_leads : ItemLeads DueSets
due_sets_leads w w' notes stop q = due_sets_of_leads (due_sets w.tier) w w' notes stop q

due_aging_leads : ItemLeads DueAging
due_aging_leads w w' notes stop q = of_tier w w' (after_aging w.history w.tier) (ap (λ (x : World). x.tier) q.0) (map_one (λ g. cond (is_aging_due w.tier g) (aged w.history w.tier g) g) (λ g. inl (by (is_aging_due w.tier g) g)) w.tier.groups)
  where
    by : (b : Bool) (g : Group) → Weaker g (cond b (aged w.history w.tier g) g)
    by true g = aged_weaker w.history w.tier g
    by false g = same_group g

due_doubt_leads : ItemLeads DueDoubt
due_doubt_leads w w' notes stop q = doubt_leads w.tier.doubt w w' notes stop q

due_work_leads : ItemLeads DueWork
due_work_leads = then_item_leads _ _ due_doubt_leads (then_item_leads _ _ due_round_leads (then_item_leads _ _ due_sets_leads due_aging_leads))

-- lines

goes_through_leads : (o : Option Reply) (l : Line) → PartLeads (GoesThrough o l)
goes_through_leads None l w w' reply q = tries_leads _ (then_leads _ _ (asks_schema_leads l) (tries_leads _ (does_leads l))) w w' reply q
goes_through_leads (Some stop) l w w' reply q = same w w' q.0

parts_leads : (base : ℕ) (l : Line) → PartLeads (Parts base l)
parts_leads base l w w' reply q =
    on w q.due w' (on w (record w { tier = at_moment base l w.tier }) q.due (tiered w (at_moment base l w.tier) (kept w.tier)) (due_work_leads _ q.due q.notes q.stop q.works)) (goes_through_leads q.stop l q.due w' q.last q.does)

answered_leads : (base : ℕ) (l : Line) → PartLeads (Answered base l)
answered_leads base l w w' reply (inl q) = unless_leads (early_fault base l w.tier) _ (parts_leads base l) w w' reply q
answered_leads base l w w' reply (inr q) = same w w' q.0

heeds_leads : (base : ℕ) (said : Saying) → PartLeads (Heeds base said)
heeds_leads base Silent w w' reply q = absurd q
heeds_leads base (Says l) w w' reply q =
    either_leads (is_undone l) (λ undone. tries_leads _ (refuses_leads _) w w' reply undone) (λ does. answered_leads base l w w' reply does) q
heeds_leads base (WrongAt place) w w' reply q = tries_leads _ (refuses_leads _) w w' reply q
heeds_leads base TooDeep w w' reply q = tries_leads _ (refuses_leads _) w w' reply q
heeds_leads base TooLong w w' reply q = refuses_leads _ w w' reply q

pub step_keeps_one : StepKeepsOnePosition
step_keeps_one base w w' said None q = same w w' q.1
step_keeps_one base w w' said (Some reply) q = heeds_leads base said w w' reply q.1

pub run_keeps_one : RunKeepsOnePosition
run_keeps_one w w' [] [] e = same w w' e
run_keeps_one w w' (line ∷ lines) (reply ∷ replies) q = on w q.0 w' (step_keeps_one line.base w q.0 line.said reply q.1) (run_keeps_one q.0 w' lines replies q.2)
run_keeps_one w w' [] (reply ∷ replies) q = absurd q
run_keeps_one w w' (line ∷ lines) [] q = absurd q
