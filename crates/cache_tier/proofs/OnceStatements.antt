-- Each statement keeps tickets standing once.
use Rattle.tier_base.specs.declared.limit.Limit.TheVariants as limit
use Rattle.cache_tier.specs.Rules.{at_limit}
use Rattle.std.specs.Option.{option_or}
use Rattle.std.proofs.Common.{◌≡◌, inl, inr, ℕ, List, [], ◌∷◌, ◌++◌, Bool, true, false, cond, Option, Some, None, Result, Ok, Err, sym, ap, subst, arith, refl, ◌∙◌, ◌<◌, ◌+◌, ◌⊎◌, zero, suc, ◌||◌, length}
use Rattle.row_types.specs.declared.rule.Rule.{Rule}
use Rattle.row_types.specs.declared.value.Value.{Value}
use Rattle.tier_base.specs.declared.number.TableId.{TableId}
use Rattle.table_defs.specs.declared.definition.TableDef.{TableDef}
use Rattle.table_state.specs.declared.history.Entry.{Entry}
use Rattle.table_state.specs.declared.history.Sealed.{Sealed}
use Rattle.table_state.specs.declared.operation.Op.{Op}
use Rattle.table_state.specs.declared.operation.Op.TheVariants.{Insert, Update, Delete}
use Rattle.table_state.specs.Tables.{TableState}
use Rattle.evaluator.specs.declared.change.Change.{Change}
use Rattle.evaluator.specs.declared.plan.Plan.{Plan}
use Rattle.outside.specs.Bank.{AppliesOnce, Defines, TellsRecorded, TellsRow, TellsSchema}
use Rattle.outside.specs.Console.{WritesForeign}
use Rattle.outside.specs.declared.fault.BankError.{BankError}
use Rattle.outside.specs.declared.fault.BankError.TheVariants.{Failed, Memory}
use Rattle.outside.specs.declared.site.Applied.{Applied}
use Rattle.outside.specs.declared.site.Applied.TheVariants.{Now, Before, NotReady, Differs}
use Rattle.outside.specs.declared.site.Done.{Done as Wrote}
use Rattle.outside.specs.declared.site.Done.TheVariants.{Rows, Broken}
use Rattle.resolution.specs.Queries.{PlacedQuery}
use Rattle.resolution.specs.Writes.{PlacedChange}
use Rattle.sql_query.specs.declared.write.Write.{Write}
use Rattle.cache_tier.specs.declared.reply.Note.{Note}
use Rattle.cache_tier.specs.declared.reply.Last.TheVariants.{Done}
use Rattle.cache_tier.specs.declared.reply.Reply.{Reply}
use Rattle.sql_subset.specs.declared.stmt.Alter.{Alter}
use Rattle.sql_subset.specs.declared.request.ConsoleRequest.{ConsoleRequest}
use Rattle.sql_subset.specs.declared.request.ConsoleRequest.TheVariants as console
use Rattle.sql_subset.specs.declared.stmt.CreateGroup.{CreateGroup}
use Rattle.sql_subset.specs.declared.request.Line.{Line}
use Rattle.sql_subset.specs.declared.request.Line.TheVariants as says
use Rattle.sql_subset.specs.declared.stmt.Load.{Load}
use Rattle.sql_subset.specs.declared.stmt.OfGroup.{OfGroup}
use Rattle.sql_subset.specs.declared.stmt.RefreshState.{RefreshState}
use Rattle.sql_subset.specs.declared.stmt.RefreshState.TheVariants.{On, Off, Paused}
use Rattle.sql_subset.specs.declared.request.Request.{Request}
use Rattle.sql_subset.specs.declared.request.Request.TheVariants as asks_for
use Rattle.sql_subset.specs.declared.stmt.Stmt.{Stmt}
use Rattle.sql_subset.specs.declared.stmt.Stmt.TheVariants as statement
use Rattle.sql_subset.specs.declared.stmt.Which.{Which}
use Rattle.cache_tier.specs.AlterSteps.{Alters, AltersTo, SetsStateAlone, SetsStateRefreshed, altered_entries, refreshed_state, state_answer, joins_something}
use Rattle.cache_tier.specs.declared.called.Called.{Called}
use Rattle.cache_tier.specs.declared.called.Called.TheVariants.{Drain, RefreshSet, SetLevel}
use Rattle.cache_tier.specs.ChangeSteps.{Changes}
use Rattle.cache_tier.specs.CommitSteps.{AppliesNow, committed_unsettled, sealed_own, CommitsLater, CommitsNow, CommitsOwn, after_applied, is_synchronous_own}
use Rattle.cache_tier.specs.Conditions.{asks_all, overflow_fault}
use Rattle.cache_tier.specs.ConsoleSteps.{Asked, AsksSchema, Creates, DoesConsole, WritesAll, after_define, asks_schema, told}
use Rattle.cache_tier.specs.DefineSteps.{CreatesGroup, define_answer}
use Rattle.cache_tier.specs.DoubtSteps.{AsksRecorded, SettlesDoubt, settled}
use Rattle.cache_tier.specs.DropSteps.{DropsAt, DropsGroup, DropsRest, drop_answer}
use Rattle.cache_tier.specs.DueWork.{DueAging, DueDoubt, DueRound, DueSets, DueSetsOf, DueWork, Item, ItemFollows, ThenItem, due_sets, is_round_due}
use Rattle.cache_tier.specs.DynamicLoads.{Brings, BringsAt, BringsInto, BringsReadOnly, BringsWritethrough, LoadsWanted, joined_tier, state_entries}
use Rattle.cache_tier.specs.Tickets.{AreOnce, RunKeepsOnce, StepKeepsOnce}
use Rattle.cache_tier.specs.Groups.{Group, is_explicit, is_read_only, is_writethrough}
use Rattle.cache_tier.specs.InsertSteps.{Finds, Inserts, insert_answer, insert_fault}
use Rattle.cache_tier.specs.JournalSteps.{Flushes, FlushesKept, NotesKept, Records, journal_fault}
use Rattle.cache_tier.specs.Journals.{Drops, JournalEntry, Numbers, Commits, Prepares}
use Rattle.cache_tier.specs.LoadSteps.{Loads, LoadsReadOnly, LoadsWritethrough, added_answer, gained_answer}
use Rattle.cache_tier.specs.Locks.{lock_fault}
use Rattle.cache_tier.specs.PassedSteps.{PassesOn, WritesPassed, after_passed, with_ticket, ticket_fault}
use Rattle.outside.specs.Passing.{PassesWrite}
use Rattle.cache_tier.specs.Reading.{Answers, backing_at}
use Rattle.cache_tier.specs.RefreshSteps.{Refreshes, RefreshesReadOnly, RefreshesWritethrough, held_answer, judged_roots, refreshed_answer}
use Rattle.cache_tier.specs.Rounds.{Drains, Round}
use Rattle.cache_tier.specs.Routes.{Cached, PassedOn, Route}
use Rattle.cache_tier.specs.SelectSteps.{SelectsBy, SelectsOn, SelectsPlaced, plan_of, query_answer}
use Rattle.cache_tier.specs.Sets.{Choice, RefreshesIfShown, RefreshesSet, set_tried, shows_something}
use Rattle.cache_tier.specs.Steps.{Answered, Does, DoesCalled, DoesRequest, DoesStatement, ForSession, GoesThrough, Heeds, Parts, Saying, Says, Silent, TooDeep, TooLong, WrongAt, at_moment, early_fault}
use Rattle.cache_tier.specs.Targets.{OnTarget, Settles, Target, backing_roots, held_roots, load_entries, view_roots, whole_answer}
use Rattle.cache_tier.specs.TierStates.{ACommit, APassedWrite, Doubt, Doubted, Session, Tier}
use Rattle.cache_tier.specs.UnloadSteps.{Unloads, unload_answer, unload_entries, unload_fault}
use Rattle.cache_tier.specs.Wants.{Want, loaded_want}
use Rattle.cache_tier.specs.WriteSteps.{WritesBy, WritesEffects, WritesOps, WritesPlaced, WritesShown}
use Rattle.cache_tier.specs.Undone.{is_undone}
use Rattle.cache_tier.specs.Worlds.{Answer, Becomes, Follows, OnlyWhere, StageFollows, Part, ThenStage, World, unless, Unless, Then, only}
use Rattle.std.proofs.lemmas.List.Elements.{Contains-append_cases}
use Rattle.std.specs.List.{Contains}
use Rattle.table_state.specs.Histories.{has_ticket}
use Rattle.table_state.proofs.HistoryLaws.{has_ticket-append}
use Rattle.cache_tier.proofs.OnceLaws.{AddsTo, HasNone, Keeps, PartLeads, StageLeads, TierKeeps, adds_none, adds_own, answers_leads, bank_leads, bank_own_leads, becomes_leads, either_leads, flushes_leads, flushes_some_leads, keeps_of, kept, on, only_where_leads, passes_leads, quiet, reads_first_leads, reads_leads, records_leads, refuses_leads, round_if_unsettled_leads, round_leads, same, then_leads, then_stage_leads, tiered, tries_leads, unless_leads}

-- what calls of the bank add

none_more : (next : ℕ) (old new : List Entry) → new ≡ old ++ [] → AddsTo next old new
none_more next old new e = adds_none next old new [] e (λ t. refl)

schema_grows : (r : Result (List TableDef) BankError) (next : ℕ) (old new : List Entry) → TellsSchema r old new → AddsTo next old new
schema_grows (Ok schema) next old new p = none_more next old new p.0
schema_grows (Err e) next old new p = none_more next old new p

row_grows : (t : TableId) (key : List Value) (r : Result (Option (List Value)) BankError) (next : ℕ) (old new : List Entry) → TellsRow t key r old new → AddsTo next old new
row_grows t key (Ok row) next old new p = none_more next old new p.0
row_grows t key (Err e) next old new p = none_more next old new p

defines_grows : (def : TableDef) (r : Result (Unit {0}) BankError) (next : ℕ) (old new : List Entry) → Defines def r old new → AddsTo next old new
defines_grows def (Ok done) next old new p = adds_none next old new _ p (λ t. refl)
defines_grows def (Err Memory) next old new p = none_more next old new p
defines_grows def (Err Failed) next old new (inl p) = none_more next old new p
defines_grows def (Err Failed) next old new (inr p) = adds_none next old new _ p (λ t. refl)

foreign_grows : (changes : List Change) (r : Result Wrote BankError) (next : ℕ) (old new : List Entry) → WritesForeign changes r old new → AddsTo next old new
foreign_grows changes (Ok (Rows n)) next old new p = adds_none next old new _ p.grows (λ t. refl)
foreign_grows changes (Ok (Broken rule)) next old new p = none_more next old new p.0
foreign_grows changes (Err Memory) next old new p = none_more next old new p
foreign_grows changes (Err Failed) next old new (inl p) = none_more next old new p
foreign_grows changes (Err Failed) next old new (inr p) = adds_none next old new _ p.1.grows (λ t. refl)

passes_grows : (ticket : ℕ) (change : Change) (ops : List Op) (r : Result Wrote BankError) (next : ℕ) (old new : List Entry) → has_ticket ticket old ≡ false → ticket < next → PassesWrite ticket change ops r old new → AddsTo next old new
passes_grows ticket change ops (Ok (Rows n)) next old new fresh low p = adds_own next old new (record { 0 = ticket }) ops p.grows fresh low
passes_grows ticket change ops (Ok (Broken rule)) next old new fresh low p = none_more next old new p.0
passes_grows ticket change ops (Err Memory) next old new fresh low p = none_more next old new p
passes_grows ticket change ops (Err Failed) next old new fresh low (inl p) = none_more next old new p
passes_grows ticket change ops (Err Failed) next old new fresh low (inr p) = adds_own next old new (record { 0 = ticket }) ops p.1.grows fresh low

recorded_grows : (ticket : ℕ) (r : Result Bool BankError) (next : ℕ) (old new : List Entry) → TellsRecorded ticket r old new → AddsTo next old new
recorded_grows ticket (Ok stands) next old new p = none_more next old new p.0
recorded_grows ticket (Err e) next old new p = none_more next old new p

once_grows : (x : Sealed) (r : Result Applied BankError) (next : ℕ) (old new : List Entry) → x.ticket.0 < next → AppliesOnce x [] r old new → AddsTo next old new
once_grows x (Ok (Now receipt)) next old new low p = adds_own next old new x.ticket x.ops p.0.grows p.0.can.fresh low
once_grows x (Ok (Before receipt)) next old new low p = none_more next old new p.1
once_grows x (Ok (NotReady ticket)) next old new low p = none_more next old new p.3
once_grows x (Ok (Differs table key row)) next old new low p = none_more next old new p.3
once_grows x (Err Memory) next old new low p = none_more next old new p
once_grows x (Err Failed) next old new low (inl p) = none_more next old new p
once_grows x (Err Failed) next old new low (inr p) = adds_own next old new x.ticket x.ops p.grows p.can.fresh low

-- answers that may be refusals

unless_next : (t : Tier) (o : Option Rule) (answer : Answer) → TierKeeps t answer.0 → TierKeeps t (unless t o answer).0
unless_next t None answer le = le
unless_next t (Some rule) answer le = kept t

either_next : (t : Tier) (b : Bool) (one other : Answer) → TierKeeps t one.0 → TierKeeps t other.0 → TierKeeps t (cond b one other).0
either_next t true one other p q = p
either_next t false one other p q = q

-- sets

tried_next : (g : Group) (t : Tier) → TierKeeps t (set_tried g t)
tried_next g t = by g.state
  where
    by : (s : RefreshState) → TierKeeps t (set_tried (record g { state = s }) t)
    by On = kept t
    by Off = kept t
    by Paused = kept t

refreshes_set_leads : (interval : ℕ) → StageLeads (RefreshesSet interval)
refreshes_set_leads interval = reads_first_leads _ _ (λ t. kept t) (λ n. becomes_leads _ (λ w. kept w.tier))

refreshes_if_shown_leads : (interval : ℕ) → StageLeads (RefreshesIfShown interval)
refreshes_if_shown_leads interval w w' stop q = only_where_leads (shows_something interval w.tier.groups) (RefreshesSet interval) (refreshes_set_leads interval) w w' stop q

-- dynamic loads

brings_read_only_leads : (place : ℕ) (g : Group) (want : Want) → StageLeads (BringsReadOnly place g want)
brings_read_only_leads place g want = reads_first_leads _ _ (tried_next g) (λ n. then_stage_leads _ _ (flushes_some_leads (state_entries g)) (becomes_leads (joined_tier place g want n) (λ w. kept w.tier)))

brings_writethrough_leads : (place : ℕ) (want : Want) → StageLeads (BringsWritethrough place want)
brings_writethrough_leads place want = then_stage_leads _ _ round_if_unsettled_leads (reads_first_leads _ _ (λ t. kept t) (λ n. becomes_leads _ (λ w. kept w.tier)))

brings_into_leads : (place : ℕ) (o : Option Group) (want : Want) → StageLeads (BringsInto place o want)
brings_into_leads place None want w w' stop q = same w w' q.0
brings_into_leads place (Some g) want w w' stop q = either_leads (is_read_only g) (brings_read_only_leads place g want w w' stop) (brings_writethrough_leads place want w w' stop) q

brings_leads : (o : Option ℕ) (t : Tier) (want : Want) → StageLeads (BringsAt o t want)
brings_leads None t want = passes_leads
brings_leads (Some place) t want = brings_into_leads place _ want

brings_option_leads : (t : Tier) (o : Option Want) → StageLeads (Brings t o)
brings_option_leads t None = passes_leads
brings_option_leads t (Some want) = brings_leads _ t want

loads_wanted_leads : (o : Option Want) → StageLeads (LoadsWanted o)
loads_wanted_leads o w w' stop q = brings_option_leads w.tier (loaded_want w.history w.tier o) w w' stop q

-- SELECT

query_next : (t after : Tier) (r : Result (List (List Value)) Rule) → TierKeeps t after → TierKeeps t (query_answer t after r).0
query_next t after (Ok rows) le = le
query_next t after (Err rule) le = kept t

selects_on_leads : (placed : PlacedQuery) (state : World → TableState) (after : Plan → World → Tier) → ((plan : Plan) (w : World) → TierKeeps w.tier (after plan w)) → PartLeads (SelectsOn placed state after)
selects_on_leads placed state after le w w' reply q = quiet _ w w' reply (query_next w.tier _ q.result (le (plan_of q.resolved) w)) q.quiet

selects_by_leads : (r : Route) (s : Session) (placed : PlacedQuery) → PartLeads (SelectsBy r s placed)
selects_by_leads Cached s placed w w' reply q = then_leads _ _ (loads_wanted_leads _) (tries_leads _ (selects_on_leads placed _ _ (λ plan w. kept w.tier))) w w' reply q
selects_by_leads PassedOn s placed w w' reply q = reads_leads _ _ (λ t. kept t) (λ n. selects_on_leads placed _ _ (λ plan w. kept w.tier)) w w' reply q

selects_placed_leads : (s : Session) (r : Result PlacedQuery Rule) → PartLeads (SelectsPlaced s r)
selects_placed_leads s (Err rule) w w' reply q = refuses_leads rule w w' reply q
selects_placed_leads s (Ok placed) w w' reply q = selects_by_leads _ s placed w w' reply q

-- INSERT, UPDATE, DELETE

insert_next : (s : Session) (w : World) (history : List Entry) (table : TableId) (row : List Value) (r : Result (Option (List Value)) BankError) → TierKeeps w.tier (insert_answer s w history table row r).0
insert_next s w history table row (Ok found) = unless_next w.tier (insert_fault s w history table row) _ (kept w.tier)
insert_next s w history table row (Err e) = kept w.tier

finds_leads : (s : Session) (table : TableId) (row : List Value) → PartLeads (Finds s table row)
finds_leads s table row w w' reply q =
    bank_leads w w' _ (row_grows table _ q.result) (keeps_of w w' _ (ap (λ (x : Answer). x.0) q.answer) (insert_next s w (w.history ++ q.call.history.before) table row q.result)) q.call

inserts_leads : (s : Session) (table : TableId) (row : List Value) → PartLeads (Inserts s table row)
inserts_leads s table row w w' reply q = either_leads _ (refuses_leads _ w w' reply) (finds_leads s table row w w' reply) q

changes_leads : (s : Session) (table : TableId) (ops : List Op) → PartLeads (Changes s table ops)
changes_leads s table ops w w' reply q = quiet _ w w' reply (unless_next w.tier _ _ (kept w.tier)) q

writes_ops_leads : (s : Session) (table : TableId) (ops : List Op) → PartLeads (WritesOps s table ops)
writes_ops_leads s table [] w w' reply q = changes_leads s table [] w w' reply q
writes_ops_leads s table (Insert t row ∷ []) w w' reply q = inserts_leads s t row w w' reply q
writes_ops_leads s table (Insert t row ∷ op ∷ ops) w w' reply q = changes_leads s table (Insert t row ∷ op ∷ ops) w w' reply q
writes_ops_leads s table (Update t old new ∷ ops) w w' reply q = changes_leads s table (Update t old new ∷ ops) w w' reply q
writes_ops_leads s table (Delete t old ∷ ops) w w' reply q = changes_leads s table (Delete t old ∷ ops) w w' reply q

writes_effects_leads : (s : Session) (table : TableId) (r : Result (List Op) Rule) → PartLeads (WritesEffects s table r)
writes_effects_leads s table (Err rule) w w' reply q = refuses_leads rule w w' reply q
writes_effects_leads s table (Ok ops) w w' reply q = unless_leads (lock_fault s.label w.tier ops) _ (writes_ops_leads s table ops) w w' reply q

writes_shown_leads : (s : Session) (placed : PlacedChange) → PartLeads (WritesShown s placed)
writes_shown_leads s placed w w' reply q = writes_effects_leads s placed.table _ w w' reply q.writes

-- passed-on writes

ticket_next : (t : Tier) → TierKeeps t (with_ticket t)
ticket_next t = (omega arith, λ s c. inl c)

after_passed_next : (s : Session) (ticket : ℕ) (ops : List Op) (r : Result Wrote BankError) (t : Tier) → TierKeeps t (after_passed s ticket ops r t)
after_passed_next s ticket ops (Ok (Rows n)) t = kept t
after_passed_next s ticket ops (Ok (Broken rule)) t = kept t
after_passed_next s ticket ops (Err Memory) t = kept t
after_passed_next s ticket ops (Err Failed) t = kept t

-- a rule, or the part
unless_here : (o : Option Rule) (part : Part) (w w' : World) (reply : Reply) → Unless o part w w' reply → (part w w' reply → Keeps w w') → Keeps w w'
unless_here None part w w' reply q k = k q
unless_here (Some rule) part w w' reply q k = refuses_leads rule w w' reply q

follow : (o : Option Reply) (part : Part) (mid w' : World) (reply : Reply) → Follows o part mid w' reply → (o ≡ None → part mid w' reply → Keeps mid w') → Keeps mid w'
follow None part mid w' reply f k = k refl f
follow (Some stop) part mid w' reply f k = same mid w' f.0

-- what is done to the journal, where one is kept, leaves the history and the tier
history_stays : (is_kept : Bool) (entries : List JournalEntry) (w w' : World) (stop : Option Reply) → OnlyWhere is_kept (FlushesKept entries) w w' stop → w'.history ≡ w.history
history_stays true entries w w' stop f = f.history
history_stays false entries w w' stop f = ap (λ (x : World). x.history) f.0

flush_stays : (is_kept : Bool) (entries : List JournalEntry) (w w' : World) (stop : Option Reply) → OnlyWhere is_kept (FlushesKept entries) w w' stop → w'.tier ≡ w.tier
flush_stays true entries w w' stop f = f.tier
flush_stays false entries w w' stop f = ap (λ (x : World). x.tier) f.0

note_stays : (is_kept : Bool) (e : JournalEntry) (w w' : World) (stop : Option Reply) → OnlyWhere is_kept (NotesKept e) w w' stop → w'.tier ≡ w.tier
note_stays true e w w' stop n = ap (λ (x : World). x.tier) n.0
note_stays false e w w' stop n = ap (λ (x : World). x.tier) n.0

-- behind a stage that went on the ticket is drawn
drawn : (p o : Option Reply) (m mid : World) → StageFollows p (Becomes (λ x. with_ticket x.tier)) m mid o → o ≡ None → mid ≡ record m { tier = with_ticket m.tier }
drawn None o m mid n e = n.0
drawn (Some stop) o m mid n e = let here : None ≡ Some stop = sym e ∙ n.1 in cc

-- what follows a ticket that was drawn: it is below the next one, and the history is as it was
drawn_then : (entries : List JournalEntry) (part : Part) (w w' : World) (reply : Reply) → ((mid : World) → mid.history ≡ w.history → mid.tier.next ≡ w.tier.next + 1 → part mid w' reply → Keeps mid w')
    → Then (ThenStage (Flushes entries) (Becomes (λ mid. with_ticket mid.tier))) part w w' reply → Keeps w w'
drawn_then entries part w w' reply rest q =
    on w q.mid w' (then_stage_leads _ _ (flushes_leads entries) (becomes_leads _ (λ x. ticket_next x.tier)) w q.mid q.stop q.first)
    (follow q.stop part q.mid w' reply q.next (λ e r.
    let is = drawn q.first.stop q.stop q.first.mid q.mid q.first.next e in
    rest q.mid (ap (λ (x : World). x.history) is ∙ history_stays w.journal.kept entries w q.first.mid q.first.stop q.first.first) (ap (λ (x : World). x.tier.next) is ∙ ap (λ (t : Tier). t.next + 1) (flush_stays w.journal.kept entries w q.first.mid q.first.stop q.first.first)) r))

unstanding : (ticket : ℕ) (history before : List Entry) → has_ticket ticket history ≡ false → HasNone before → has_ticket ticket (history ++ before) ≡ false
unstanding ticket history before fresh none = has_ticket-append ticket history before ∙ ap (λ b. b || has_ticket ticket before) fresh ∙ none ticket

-- the next ticket doesn't stand
unused : (w : World) → AreOnce w → has_ticket w.tier.next w.history ≡ false
unused w h = by (has_ticket w.tier.next w.history) refl
  where
    by : (b : Bool) → has_ticket w.tier.next w.history ≡ b → has_ticket w.tier.next w.history ≡ false
    by false e = e
    by true e = let low = h.stand w.tier.next e in absurd (omega (arith, low))

writes_passed_leads : (s : Session) (ticket : ℕ) (placed : PlacedChange) (w w' : World) (reply : Reply) → has_ticket ticket w.history ≡ false → ticket < w.tier.next → WritesPassed s ticket placed w w' reply → Keeps w w'
writes_passed_leads s ticket placed w w' reply fresh low q =
    let k = keeps_of w w' _ q.tier (after_passed_next s ticket q.ops q.result w.tier) in
    bank_own_leads w w' (PassesWrite ticket q.change q.ops q.result)
    (λ before new none p. passes_grows ticket q.change q.ops q.result w'.tier.next (w.history ++ before) new (unstanding ticket w.history before fresh none) (omega (arith, low, k.0)) p) k q.call

passes_on_leads : (s : Session) (placed : PlacedChange) → PartLeads (PassesOn s placed)
passes_on_leads s placed w w' reply q h =
    unless_here (option_or (ticket_fault w.tier) (journal_fault w (Numbers w.tier.next ∷ []))) (Then (ThenStage (Flushes (Numbers w.tier.next ∷ [])) (Becomes (λ mid. with_ticket mid.tier))) (WritesPassed s w.tier.next placed)) w w' reply q
    (drawn_then (Numbers w.tier.next ∷ []) (WritesPassed s w.tier.next placed) w w' reply
    (λ mid same_history next r. writes_passed_leads s w.tier.next placed mid w' reply (ap (has_ticket w.tier.next) same_history ∙ unused w h) (omega (arith, next)) r)) h

writes_by_leads : (r : Result Route Rule) (s : Session) (placed : PlacedChange) → PartLeads (WritesBy r s placed)
writes_by_leads (Err rule) s placed w w' reply q = refuses_leads rule w w' reply q
writes_by_leads (Ok Cached) s placed w w' reply q = then_leads _ _ (loads_wanted_leads _) (tries_leads _ (writes_shown_leads s placed)) w w' reply q
writes_by_leads (Ok PassedOn) s placed w w' reply q = passes_on_leads s placed w w' reply q

writes_placed_leads : (s : Session) (r : Result PlacedChange Rule) → PartLeads (WritesPlaced s r)
writes_placed_leads s (Err rule) w w' reply q = refuses_leads rule w w' reply q
writes_placed_leads s (Ok placed) w w' reply q = writes_by_leads _ s placed w w' reply q

-- COMMIT

after_applied_next : (x : Sealed) (label : List ℕ) (r : Result Applied BankError) (t : Tier) → TierKeeps t (after_applied x label r t)
after_applied_next x label (Ok (Now receipt)) t = kept t
after_applied_next x label (Ok (Before receipt)) t = kept t
after_applied_next x label (Ok (NotReady ticket)) t = kept t
after_applied_next x label (Ok (Differs table key row)) t = kept t
after_applied_next x label (Err Memory) t = kept t
after_applied_next x label (Err Failed) t = kept t

applies_now_leads : (x : Sealed) (label : List ℕ) (w w' : World) (reply : Reply) → x.ticket.0 < w.tier.next → AppliesNow x label w w' reply → Keeps w w'
applies_now_leads x label w w' reply low q =
    let k = keeps_of w w' _ q.tier (after_applied_next x label q.result w.tier) in
    bank_own_leads w w' (AppliesOnce x [] q.result) (λ before new none p. once_grows x q.result w'.tier.next (w.history ++ before) new (omega (arith, low, k.0)) p) k q.call

commits_now_leads : (s : Session) → PartLeads (CommitsNow s)
commits_now_leads s w w' reply q =
    unless_here (option_or (ticket_fault w.tier) (journal_fault w (Prepares (sealed_own w.tier s) ∷ []))) (Then (ThenStage (Flushes (Prepares (sealed_own w.tier s) ∷ [])) (Becomes (λ mid. with_ticket mid.tier))) (AppliesNow (sealed_own w.tier s) s.label)) w w' reply q
    (drawn_then (Prepares (sealed_own w.tier s) ∷ []) (AppliesNow (sealed_own w.tier s) s.label) w w' reply
    (λ mid same_history next r. applies_now_leads (sealed_own w.tier s) s.label mid w' reply (omega (arith, next)) r))

one_contained : (x s : Sealed) → Contains (x ∷ []) s → x ≡ s
one_contained x s (zero, low, e) = e
one_contained x s (suc k, low, e) = absurd (omega (arith, low))

later_keeps : (x : Sealed) (label : List ℕ) (t : Tier) → x.ticket.0 ≡ t.next → TierKeeps t (committed_unsettled x label t)
later_keeps x label t e = (omega arith, λ s c. by s (Contains-append_cases t.unsettled (x ∷ []) s c))
  where
    by : (s : Sealed) → Contains t.unsettled s ⊎ Contains (x ∷ []) s → Contains t.unsettled s ⊎ (s.ticket.0 < t.next + 1)
    by s (inl p) = inl p
    by s (inr p) = let is = ap (λ (y : Sealed). y.ticket.0) (one_contained x s p) in inr (omega (arith, is, e))

records_tier : (durable : Bool) (e : JournalEntry) (w mid : World) (stop : Option Reply) → Records durable e w mid stop → mid.tier ≡ w.tier
records_tier true e w mid stop q = flush_stays w.journal.kept (e ∷ []) w mid stop q
records_tier false e w mid stop q = note_stays w.journal.kept e w mid stop q

commits_later_on : (s : Session) (w w' : World) (reply : Reply) → Then (Records s.durable (Commits (sealed_own w.tier s))) (Answers (λ mid. (committed_unsettled (sealed_own w.tier s) s.label mid.tier, only (Done w.tier.next)))) w w' reply → Keeps w w'
commits_later_on s w w' reply p =
    on w p.mid w' (records_leads s.durable (Commits (sealed_own w.tier s)) w p.mid p.stop p.first)
    (follow p.stop _ p.mid w' reply p.next (λ e r. quiet _ p.mid w' reply (later_keeps (sealed_own w.tier s) s.label p.mid.tier (sym (ap (λ (t : Tier). t.next) (records_tier s.durable (Commits (sealed_own w.tier s)) w p.mid p.stop p.first)))) r))

commits_later_leads : (s : Session) → PartLeads (CommitsLater s)
commits_later_leads s w w' reply q =
    unless_here (option_or (at_limit limit.Pending (length w.tier.unsettled)) (option_or (ticket_fault w.tier) (journal_fault w (Commits (sealed_own w.tier s) ∷ []))))
    (Then (Records s.durable (Commits (sealed_own w.tier s))) (Answers (λ mid. (committed_unsettled (sealed_own w.tier s) s.label mid.tier, only (Done w.tier.next))))) w w' reply q
    (commits_later_on s w w' reply)

commits_own_leads : (s : Session) (ops : List Op) → PartLeads (CommitsOwn s ops)
commits_own_leads s [] w w' reply q = quiet _ w w' reply (kept w.tier) q
commits_own_leads s (op ∷ ops) w w' reply q = either_leads (is_synchronous_own w.tier s) (commits_now_leads s w w' reply) (commits_later_leads s w w' reply) q

-- CREATE CACHE GROUP

creates_group_leads : (d : CreateGroup) → PartLeads (CreatesGroup d)
creates_group_leads d w w' reply q = unless_leads _ _ (then_leads _ _ (flushes_leads _) (answers_leads (define_answer d q.tree) (λ mid. kept mid.tier))) w w' reply q.does

-- LOAD and REFRESH

settles_leads : (x : Target) (answer : World → Answer) → ((w : World) → TierKeeps w.tier (answer w).0) → PartLeads (Settles x answer)
settles_leads x answer le = then_leads _ _ (flushes_some_leads (load_entries x.group)) (answers_leads answer le)

on_target_leads : (name : List ℕ) (which : Which) (part : Target → Part) → ((x : Target) → PartLeads (part x)) → PartLeads (OnTarget name which part)
on_target_leads name which part p w w' reply q = p q.target w w' reply q.does

loads_read_only_leads : (x : Target) → PartLeads (LoadsReadOnly x)
loads_read_only_leads x =
    reads_leads _ _ (tried_next x.group) (λ n w w' reply q. either_leads (is_explicit x.group) (settles_leads x (whole_answer x n) (λ w. kept w.tier) w w' reply)
    (unless_leads (overflow_fault x.filter (view_roots (backing_at w n) x)) _ (settles_leads x (gained_answer x n) (λ w. kept w.tier)) w w' reply) q)

loads_writethrough_leads : (x : Target) → PartLeads (LoadsWritethrough x)
loads_writethrough_leads x =
    then_leads _ _ round_if_unsettled_leads (reads_leads _ _ (λ t. kept t) (λ n w w' reply q. unless_leads (overflow_fault x.filter (backing_roots (backing_at w n) x)) _ (settles_leads x (added_answer x n) (λ w. kept w.tier)) w w' reply q))

loads_leads : (load : Load) → PartLeads (Loads load)
loads_leads load = on_target_leads load.group load.which _ (λ x w w' reply q. either_leads (is_read_only x.group) (loads_read_only_leads x w w' reply) (loads_writethrough_leads x w w' reply) q)

refreshes_read_only_leads : (x : Target) → PartLeads (RefreshesReadOnly x)
refreshes_read_only_leads x =
    reads_leads _ _ (tried_next x.group) (λ n w w' reply q. either_leads (is_explicit x.group) (settles_leads x (whole_answer x n) (λ w. kept w.tier) w w' reply)
    (unless_leads (overflow_fault x.filter (held_roots x (view_roots (backing_at w n) x))) _ (settles_leads x (held_answer x n) (λ w. kept w.tier)) w w' reply) q)

refreshed_next : (x : Target) (n : ℕ) (w : World) → TierKeeps w.tier (refreshed_answer x n w).0
refreshed_next x n w = either_next w.tier (is_explicit x.group) _ _ (kept w.tier) (kept w.tier)

refreshes_writethrough_leads : (x : Target) → PartLeads (RefreshesWritethrough x)
refreshes_writethrough_leads x =
    then_leads _ _ round_if_unsettled_leads (reads_leads _ _ (λ t. kept t) (λ n w w' reply q. unless_leads (overflow_fault x.filter (judged_roots (backing_at w n) x)) _ (settles_leads x (refreshed_answer x n) (refreshed_next x n)) w w' reply q))

refreshes_leads : (load : Load) → PartLeads (Refreshes load)
refreshes_leads load = on_target_leads load.group load.which _ (λ x w w' reply q. either_leads (is_read_only x.group) (refreshes_read_only_leads x w w' reply) (refreshes_writethrough_leads x w w' reply) q)

-- UNLOAD, ALTER, DROP

unloads_leads : (s : Session) (u : OfGroup) → PartLeads (Unloads s u)
unloads_leads s u = on_target_leads u.group u.which _ (λ x w w' reply q. unless_leads (unload_fault s x w) _ (then_leads _ _ (flushes_some_leads (unload_entries (asks_all u.which) x.group)) (answers_leads (unload_answer x (asks_all u.which)) (λ w. kept w.tier))) w w' reply q)

state_alone_leads : (place : ℕ) (g : Group) (state : RefreshState) → PartLeads (SetsStateAlone place g state)
state_alone_leads place g state = then_leads _ _ (flushes_some_leads (altered_entries g state)) (answers_leads (state_answer place state) (λ w. kept w.tier))

state_refreshed_leads : (place : ℕ) (g : Group) (state : RefreshState) (chosen : Choice) (tried : Tier → Tier) → ((t : Tier) → TierKeeps t (tried t)) → PartLeads (SetsStateRefreshed place g state chosen tried)
state_refreshed_leads place g state chosen tried le = reads_leads _ _ le (λ n. then_leads _ _ (flushes_some_leads (altered_entries g state)) (answers_leads (refreshed_state place state chosen n) (λ w. kept w.tier)))

alters_to_leads : (state : RefreshState) (place : ℕ) (g : Group) → PartLeads (AltersTo state place g)
alters_to_leads On place g w w' reply q = either_leads (joins_something place g w.tier) (state_refreshed_leads place g On _ _ (λ t. kept t) w w' reply) (state_alone_leads place g On w w' reply) q
alters_to_leads Off place g w w' reply q = state_alone_leads place g Off w w' reply q
alters_to_leads Paused place g w w' reply q = either_leads _ (state_refreshed_leads place g Paused _ _ (λ t. kept t) w w' reply) (state_alone_leads place g Paused w w' reply) q

alters_leads : (a : Alter) → PartLeads (Alters a)
alters_leads a w w' reply q = alters_to_leads a.state q.place q.group w w' reply q.does

drops_rest_leads : (s : Session) (g : Group) → PartLeads (DropsRest s g)
drops_rest_leads s g w w' reply q = unless_leads _ _ (then_leads _ _ (flushes_some_leads (Drops g.def.name ∷ [])) (answers_leads (drop_answer g.def.name) (λ w. kept w.tier))) w w' reply q

drops_at_leads : (s : Session) (place : ℕ) (g : Group) → PartLeads (DropsAt s place g)
drops_at_leads s place g w w' reply q = either_leads (is_writethrough g) (then_leads _ _ round_leads (tries_leads _ (drops_rest_leads s g)) w w' reply) (drops_rest_leads s g w w' reply) q

drops_leads : (s : Session) (name : List ℕ) → PartLeads (DropsGroup s name)
drops_leads s name w w' reply q = drops_at_leads s q.place q.group w w' reply q.does

-- CALL

drains_leads : PartLeads Drains
drains_leads w w' reply q = then_leads _ _ round_leads (answers_leads _ (λ mid. kept mid.tier)) w w' reply q

called_leads : (s : Session) (r : Result Called Rule) → PartLeads (DoesCalled s r)
called_leads s (Err rule) w w' reply q = refuses_leads rule w w' reply q
called_leads s (Ok Drain) w w' reply q = drains_leads w w' reply q
called_leads s (Ok (RefreshSet interval)) w w' reply q = then_leads _ _ (refreshes_if_shown_leads interval) (answers_leads _ (λ mid. kept mid.tier)) w w' reply q
called_leads s (Ok (SetLevel level)) w w' reply q = quiet _ w w' reply (kept w.tier) q

-- a statement of a session

statement_leads : (s : Session) (st : Stmt) → PartLeads (DoesStatement s st)
statement_leads s (statement.Select query) w w' reply q = selects_placed_leads s _ w w' reply q
statement_leads s (statement.Write write) w w' reply q = writes_placed_leads s _ w w' reply q
statement_leads s (statement.CreateGroup d) w w' reply q = creates_group_leads d w w' reply q
statement_leads s (statement.CreateIndex i) w w' reply q = absurd q
statement_leads s (statement.Load load) w w' reply q = loads_leads load w w' reply q
statement_leads s (statement.Refresh load) w w' reply q = refreshes_leads load w w' reply q
statement_leads s (statement.Unload u) w w' reply q = unloads_leads s u w w' reply q
statement_leads s (statement.Flush u) w w' reply q = absurd q
statement_leads s (statement.Alter a) w w' reply q = alters_leads a w w' reply q
statement_leads s (statement.DropGroup name) w w' reply q = drops_leads s name w w' reply q
statement_leads s (statement.DropIndex name) w w' reply q = absurd q
statement_leads s (statement.Call c) w w' reply q = called_leads s _ w w' reply q
statement_leads s statement.Commit w w' reply q = commits_own_leads s s.own w w' reply q
statement_leads s statement.Rollback w w' reply q = quiet _ w w' reply (kept w.tier) q

request_leads : (label : List ℕ) (s : Session) (r : Request) → PartLeads (DoesRequest label s r)
request_leads label s (asks_for.Open options) w w' reply q = absurd q
request_leads label s asks_for.Close w w' reply q = quiet _ w w' reply (kept w.tier) q
request_leads label s (asks_for.Statement st) w w' reply q = unless_leads _ _ (statement_leads s st) w w' reply q

session_leads : (label : List ℕ) (o : Option Session) (r : Request) → PartLeads (ForSession label o r)
session_leads label None (asks_for.Open options) w w' reply q = quiet _ w w' reply (kept w.tier) q
session_leads label None asks_for.Close w w' reply q = absurd q
session_leads label None (asks_for.Statement st) w w' reply q = absurd q
session_leads label (Some s) r w w' reply q = request_leads label s r w w' reply q

-- the console

after_define_next : (def : TableDef) (r : Result (Unit {0}) BankError) (t : Tier) → TierKeeps t (after_define def r t)
after_define_next def (Ok done) t = kept t
after_define_next def (Err Failed) t = kept t
after_define_next def (Err Memory) t = kept t

creates_leads : (def : TableDef) → PartLeads (Creates def)
creates_leads def w w' reply q = bank_leads w w' _ (defines_grows def q.result) (keeps_of w w' _ q.tier (after_define_next def q.result w.tier)) q.call

writes_all_leads : (writes : List Write) → PartLeads (WritesAll writes)
writes_all_leads writes w w' reply q = bank_leads w w' _ (foreign_grows q.changes q.result) (keeps_of w w' _ q.tier (kept w.tier)) q.call

console_leads : (c : ConsoleRequest) → PartLeads (DoesConsole c)
console_leads (console.CreateTable d) w w' reply q = unless_leads _ _ (creates_leads _) w w' reply q
console_leads (console.Writes writes) w w' reply q = unless_leads _ _ (writes_all_leads writes) w w' reply q

does_leads : (l : Line) → PartLeads (Does l)
does_leads (says.Session label request) w w' reply q = session_leads label _ request w w' reply q
does_leads (says.Console request) w w' reply q = console_leads request w w' reply q
does_leads (says.Clock ms) w w' reply q = quiet _ w w' reply (kept w.tier) q

told_next : (r : Result (List TableDef) BankError) (t : Tier) → TierKeeps t (told r t)
told_next (Ok schema) t = kept t
told_next (Err e) t = kept t

asked_leads : StageLeads Asked
asked_leads w w' stop q = bank_leads w w' _ (schema_grows q.result) (keeps_of w w' _ q.tier (told_next q.result w.tier)) q.call

asks_schema_leads : (l : Line) → StageLeads (AsksSchema l)
asks_schema_leads l w w' stop q = only_where_leads (asks_schema w.tier l) Asked asked_leads w w' stop q

-- due work

abbrev ItemLeads : Item → Type 0
ItemLeads item = (w w' : World) (notes : List Note) (stop : Option Reply) → item w w' notes stop → Keeps w w'

settled_next : (d : Doubt) (history : List Entry) (r : Result Bool BankError) (t : Tier) → TierKeeps t (settled d history r t)
settled_next d history (Ok true) t = by d.of
  where
    by : (o : Doubted) → TierKeeps t (settled (record d { of = o }) history (Ok true) t)
    by ACommit = kept t
    by APassedWrite = kept t
settled_next d history (Ok false) t = by d.of
  where
    by : (o : Doubted) → TierKeeps t (settled (record d { of = o }) history (Ok false) t)
    by ACommit = kept t
    by APassedWrite = kept t
settled_next d history (Err e) t = kept t

recorded_leads : (d : Doubt) → ItemLeads (AsksRecorded d)
recorded_leads d w w' notes stop q = bank_leads w w' _ (recorded_grows d.ticket q.result) (keeps_of w w' _ q.tier (settled_next d w'.history q.result w.tier)) q.call

doubt_leads : (o : Option Doubt) → ItemLeads (SettlesDoubt o)
doubt_leads None w w' notes stop q = same w w' q.0
doubt_leads (Some d) w w' notes stop q = recorded_leads d w w' notes stop q

item_follows_leads : (end : Option Reply) (item : Item) → ItemLeads item → ItemLeads (ItemFollows end item)
item_follows_leads None item p w w' notes stop q = p w w' notes stop q
item_follows_leads (Some end) item p w w' notes stop q = same w w' q.0

then_item_leads : (one other : Item) → ItemLeads one → ItemLeads other → ItemLeads (ThenItem one other)
then_item_leads one other p r w w' notes stop q = on w q.mid w' (p w q.mid q.before q.end q.first) (item_follows_leads q.end other r q.mid w' q.behind stop q.next)

due_round_leads : ItemLeads DueRound
due_round_leads w w' notes stop q = only_where_leads (is_round_due w.tier) Round round_leads w w' q.end q.does

due_sets_of_leads : (intervals : List ℕ) → ItemLeads (DueSetsOf intervals)
due_sets_of_leads [] w w' notes stop q = same w w' q.0
due_sets_of_leads (interval ∷ more) w w' notes stop q =
    then_item_leads _ _ (λ w w' notes stop n. refreshes_if_shown_leads interval w w' n.end n.does) (due_sets_of_leads more) w w' notes stop q

due_sets_leads : ItemLeads DueSets
due_sets_leads w w' notes stop q = due_sets_of_leads (due_sets w.tier) w w' notes stop q

due_aging_leads : ItemLeads DueAging
due_aging_leads w w' notes stop q = subst (λ x. Keeps w x) (sym q.0) (tiered w _ (kept w.tier))

due_doubt_leads : ItemLeads DueDoubt
due_doubt_leads w w' notes stop q = doubt_leads w.tier.doubt w w' notes stop q

due_work_leads : ItemLeads DueWork
due_work_leads = then_item_leads _ _ due_doubt_leads (then_item_leads _ _ due_round_leads (then_item_leads _ _ due_sets_leads due_aging_leads))

-- lines

goes_through_leads : (o : Option Reply) (l : Line) → PartLeads (GoesThrough o l)
goes_through_leads None l w w' reply q = tries_leads _ (then_leads _ _ (asks_schema_leads l) (tries_leads _ (does_leads l))) w w' reply q
goes_through_leads (Some stop) l w w' reply q = same w w' q.0

parts_leads : (base : ℕ) (l : Line) → PartLeads (Parts base l)
parts_leads base l w w' reply q =
    on w q.due w' (on w (record w { tier = at_moment base l w.tier }) q.due (tiered w (at_moment base l w.tier) (kept w.tier)) (due_work_leads _ q.due q.notes q.stop q.works)) (goes_through_leads q.stop l q.due w' q.last q.does)

answered_leads : (base : ℕ) (l : Line) → PartLeads (Answered base l)
answered_leads base l w w' reply (inl q) = unless_leads (early_fault base l w.tier) _ (parts_leads base l) w w' reply q
answered_leads base l w w' reply (inr q) = same w w' q.0

heeds_leads : (base : ℕ) (said : Saying) → PartLeads (Heeds base said)
heeds_leads base Silent w w' reply q = absurd q
heeds_leads base (Says l) w w' reply q =
    either_leads (is_undone l) (λ undone. tries_leads _ (refuses_leads _) w w' reply undone) (λ does. answered_leads base l w w' reply does) q
heeds_leads base (WrongAt place) w w' reply q = tries_leads _ (refuses_leads _) w w' reply q
heeds_leads base TooDeep w w' reply q = tries_leads _ (refuses_leads _) w w' reply q
heeds_leads base TooLong w w' reply q = refuses_leads _ w w' reply q

pub step_keeps_once : StepKeepsOnce
step_keeps_once base w w' said None q = same w w' q.1
step_keeps_once base w w' said (Some reply) q = heeds_leads base said w w' reply q.1

pub run_keeps_once : RunKeepsOnce
run_keeps_once w w' [] [] e = same w w' e
run_keeps_once w w' (line ∷ lines) (reply ∷ replies) q = on w q.0 w' (step_keeps_once line.base w q.0 line.said reply q.1) (run_keeps_once q.0 w' lines replies q.2)
run_keeps_once w w' [] (reply ∷ replies) q = absurd q
run_keeps_once w w' (line ∷ lines) [] q = absurd q
