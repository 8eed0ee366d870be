-- Statements that leave the definitions of groups, the schema and the sessions as they are.
use Rattle.std.specs.Option.{option_or}
use Rattle.std.proofs.Common.{◌≡◌, ℕ, List, [], ◌∷◌, Bool, true, false, cond, Option, Some, None, Result, Ok, Err, refl, ◌∙◌}
use Rattle.row_types.specs.declared.rule.Rule.{Rule}
use Rattle.row_types.specs.declared.value.Value.{Value}
use Rattle.table_state.specs.declared.operation.Op.{Op}
use Rattle.table_state.specs.Tables.{TableState}
use Rattle.evaluator.specs.declared.plan.Plan.{Plan}
use Rattle.outside.specs.declared.fault.BankError.{BankError}
use Rattle.outside.specs.declared.fault.BankError.TheVariants.{Failed, Memory}
use Rattle.outside.specs.declared.site.Done.{Done as Wrote}
use Rattle.outside.specs.declared.site.Done.TheVariants.{Rows, Broken}
use Rattle.resolution.specs.Queries.{PlacedQuery}
use Rattle.resolution.specs.Writes.{PlacedChange}
use Rattle.sql_subset.specs.declared.stmt.Alter.{Alter}
use Rattle.sql_subset.specs.declared.stmt.Load.{Load}
use Rattle.sql_subset.specs.declared.stmt.OfGroup.{OfGroup}
use Rattle.sql_subset.specs.declared.stmt.RefreshState.{RefreshState}
use Rattle.sql_subset.specs.declared.stmt.RefreshState.TheVariants.{On, Off, Paused}
use Rattle.sql_subset.specs.declared.stmt.Which.{Which}
use Rattle.cache_tier.specs.AlterSteps.{Alters, AltersTo, SetsStateAlone, SetsStateRefreshed, altered_entries, joins_something, refreshed_state, state_answer, with_state}
use Rattle.cache_tier.specs.Conditions.{asks_all, overflow_fault}
use Rattle.cache_tier.specs.DynamicLoads.{Brings, BringsAt, BringsInto, BringsReadOnly, BringsWritethrough, LoadsWanted, joined_tier, state_entries, state_loaded, with_found, with_found_at}
use Rattle.cache_tier.specs.Groups.{Group, is_explicit, is_read_only, with_keys, without_keys}
use Rattle.cache_tier.specs.JournalSteps.{journal_fault}
use Rattle.cache_tier.specs.Journals.{Numbers}
use Rattle.cache_tier.specs.LoadSteps.{Loads, LoadsReadOnly, LoadsWritethrough, added_answer, gained_answer, gains}
use Rattle.cache_tier.specs.PassedSteps.{PassesOn, after_passed, with_ticket, ticket_fault}
use Rattle.cache_tier.specs.Reading.{backing_at}
use Rattle.cache_tier.specs.RefreshSteps.{Refreshes, RefreshesReadOnly, RefreshesWritethrough, held_answer, judged_roots, refreshed_answer}
use Rattle.cache_tier.specs.Rounds.{Drains}
use Rattle.cache_tier.specs.Routes.{Cached, PassedOn, Route}
use Rattle.cache_tier.specs.SelectSteps.{SelectsBy, SelectsOn, SelectsPlaced, plan_of, query_answer}
use Rattle.cache_tier.specs.Sets.{Choice, RefreshesIfShown, RefreshesSet, alone, at_position, changed, loaded_with, of_set, refreshed, set_tried, shows_something}
use Rattle.cache_tier.specs.Steps.{RefreshesCalled}
use Rattle.cache_tier.specs.Targets.{OnTarget, Settles, Target, backing_roots, has_flag, held_roots, load_entries, loaded_tier, matching, matching_past, view_roots, whole_answer, with_flag}
use Rattle.cache_tier.specs.TierStates.{Session, Tier, refresh_tried}
use Rattle.cache_tier.specs.UnloadSteps.{Unloads, gone_keys, unload_answer, unload_entries, unload_fault, unloaded}
use Rattle.cache_tier.specs.Wants.{Want, loaded_want}
use Rattle.cache_tier.specs.Worlds.{Answer, Part, World}
use Rattle.cache_tier.specs.Recency.{after_use}
use Rattle.table_state.specs.declared.footprint.RowKey.{RowKey}
use Rattle.std.specs.FinMap.{keys}
use Rattle.line_laws.proofs.QuietTiers.{use_quiet}
use Rattle.run_laws.proofs.SitsLaws.{PartSits, Sits, StageSits, alike_defs, answers_sits, becomes_sits, changed_sits, either_sits, flushes_sits, flushes_some_sits, kept, of_tier, only_where_sits, passes_sits, quiet, reads_first_sits, reads_sits, refuses_sits, round_if_unsettled_sits, rounds_sit, same, sits_on, then_sits, then_stage_sits, tries_sits, unless_sits}

-- ---- what is changed of groups

flag_def : (flag : Bool) (g : Group) → (with_flag flag g).def ≡ g.def
flag_def flag g = by (has_flag g)
  where
    by : (b : Bool) → (cond b (record g { loaded = flag }) g).def ≡ g.def
    by true = refl
    by false = refl

unloaded_def : (gone : List (List Value)) (all : Bool) (g : Group) → (unloaded gone all g).def ≡ g.def
unloaded_def gone true g = flag_def false (record g { keys = without_keys gone g.keys })
unloaded_def gone false g = refl

pub tried_sits : (g : Group) (t : Tier) → Sits t (set_tried g t)
tried_sits g t = by g.state
  where
    by : (s : RefreshState) → Sits t (set_tried (record g { state = s }) t)
    by On = record { defs = refl; schema = refl; sessions = refl; unsettled = λ p all. all }
    by Off = kept t
    by Paused = record { defs = refl; schema = refl; sessions = refl; unsettled = λ p all. all }

set_tried_sits : (interval : ℕ) (t : Tier) → Sits t (refresh_tried interval t)
set_tried_sits interval t = record { defs = refl; schema = refl; sessions = refl; unsettled = λ p all. all }

refreshed_sits : (chosen : Choice) (n : ℕ) (s : TableState) (t : Tier) → Sits t (refreshed chosen n s t)
refreshed_sits chosen n s t = changed_sits chosen (at_position n s) (λ g. refl) t

loaded_sits : (x : Target) (n : ℕ) (change : TableState → Group → Group) → ((s : TableState) (g : Group) → (change s g).def ≡ g.def) → (w : World) → Sits w.tier (loaded_tier x n change w)
loaded_sits x n change so w =
    let one = refreshed (loaded_with x.group x.place) n (backing_at w n) w.tier in
    sits_on w.tier one (loaded_tier x n change w) (refreshed_sits (loaded_with x.group x.place) n (backing_at w n) w.tier)
    (changed_sits (alone x.place) (λ g. with_flag true (state_loaded (change (backing_at w n) g))) (λ g. flag_def true (state_loaded (change (backing_at w n) g)) ∙ so (backing_at w n) g) one)

found_sits : (place : ℕ) (s : TableState) (want : Want) (t : Tier) → Sits t (with_found_at place s want t)
found_sits place s want t = changed_sits (alone place) (with_found s want) (λ g. refl) t

joined_sits : (place : ℕ) (g : Group) (want : Want) (n : ℕ) (w : World) → Sits w.tier (joined_tier place g want n w)
joined_sits place g want n w =
    let one = refreshed (of_set g.def.interval (Some place)) n (backing_at w n) w.tier in
    let two = changed (alone place) state_loaded one in
    sits_on w.tier one (joined_tier place g want n w) (refreshed_sits (of_set g.def.interval (Some place)) n (backing_at w n) w.tier)
    (sits_on one two (joined_tier place g want n w) (changed_sits (alone place) state_loaded (λ g. refl) one) (found_sits place (backing_at w n) want two))

pub used_sits : (s : TableState) (rows : List RowKey) (t : Tier) → Sits t (after_use s rows t)
used_sits s rows t = record { defs = alike_defs t.groups (after_use s rows t).groups (use_quiet s rows t).groups; schema = refl; sessions = refl; unsettled = λ p all. all }

-- ---- sets and dynamic loads

refreshes_set_sits : (interval : ℕ) → StageSits (RefreshesSet interval)
refreshes_set_sits interval = reads_first_sits _ _ (set_tried_sits interval) (λ n. becomes_sits _ (λ w. refreshed_sits (of_set interval None) n (backing_at w n) w.tier))

pub refreshes_if_shown_sits : (interval : ℕ) → StageSits (RefreshesIfShown interval)
refreshes_if_shown_sits interval w w' stop q = only_where_sits (shows_something interval w.tier.groups) (RefreshesSet interval) (refreshes_set_sits interval) w w' stop q

brings_read_only_sits : (place : ℕ) (g : Group) (want : Want) → StageSits (BringsReadOnly place g want)
brings_read_only_sits place g want = reads_first_sits _ _ (tried_sits g) (λ n. then_stage_sits _ _ (flushes_some_sits (state_entries g)) (becomes_sits (joined_tier place g want n) (joined_sits place g want n)))

brings_writethrough_sits : (place : ℕ) (want : Want) → StageSits (BringsWritethrough place want)
brings_writethrough_sits place want = then_stage_sits _ _ round_if_unsettled_sits (reads_first_sits _ _ (λ t. kept t) (λ n. becomes_sits _ (λ w. found_sits place (backing_at w n) want w.tier)))

brings_into_sits : (place : ℕ) (o : Option Group) (want : Want) → StageSits (BringsInto place o want)
brings_into_sits place None want w w' stop q = same w w' q.0
brings_into_sits place (Some g) want w w' stop q = either_sits (is_read_only g) (brings_read_only_sits place g want w w' stop) (brings_writethrough_sits place want w w' stop) q

brings_sits : (o : Option ℕ) (t : Tier) (want : Want) → StageSits (BringsAt o t want)
brings_sits None t want = passes_sits
brings_sits (Some place) t want = brings_into_sits place _ want

brings_option_sits : (t : Tier) (o : Option Want) → StageSits (Brings t o)
brings_option_sits t None = passes_sits
brings_option_sits t (Some want) = brings_sits _ t want

pub loads_wanted_sits : (o : Option Want) → StageSits (LoadsWanted o)
loads_wanted_sits o w w' stop q = brings_option_sits w.tier (loaded_want w.history w.tier o) w w' stop q

-- ---- SELECT

query_sits : (t after : Tier) (r : Result (List (List Value)) Rule) → Sits t after → Sits t (query_answer t after r).0
query_sits t after (Ok rows) k = k
query_sits t after (Err rule) k = kept t

selects_on_sits : (placed : PlacedQuery) (state : World → TableState) (after : Plan → World → Tier) → ((plan : Plan) (w : World) → Sits w.tier (after plan w)) → PartSits (SelectsOn placed state after)
selects_on_sits placed state after k w w' reply q = quiet _ w w' reply (query_sits w.tier _ q.result (k (plan_of q.resolved) w)) q.quiet

selects_by_sits : (r : Route) (s : Session) (placed : PlacedQuery) → PartSits (SelectsBy r s placed)
selects_by_sits Cached s placed w w' reply q = then_sits _ _ (loads_wanted_sits _) (tries_sits _ (selects_on_sits placed _ _ (λ plan w. used_sits _ _ w.tier))) w w' reply q
selects_by_sits PassedOn s placed w w' reply q = reads_sits _ _ (λ t. kept t) (λ n. selects_on_sits placed _ _ (λ plan w. kept w.tier)) w w' reply q

pub selects_sits : (s : Session) (r : Result PlacedQuery Rule) → PartSits (SelectsPlaced s r)
selects_sits s (Err rule) w w' reply q = refuses_sits rule w w' reply q
selects_sits s (Ok placed) w w' reply q = selects_by_sits _ s placed w w' reply q

-- ---- writes that are passed on

after_passed_sits : (s : Session) (ticket : ℕ) (ops : List Op) (r : Result Wrote BankError) (t : Tier) → Sits t (after_passed s ticket ops r t)
after_passed_sits s ticket ops (Ok (Rows n)) t = record { defs = refl; schema = refl; sessions = refl; unsettled = λ p all. all }
after_passed_sits s ticket ops (Ok (Broken rule)) t = kept t
after_passed_sits s ticket ops (Err Memory) t = kept t
after_passed_sits s ticket ops (Err Failed) t = record { defs = refl; schema = refl; sessions = refl; unsettled = λ p all. all }

pub ticket_sits : (t : Tier) → Sits t (with_ticket t)
ticket_sits t = record { defs = refl; schema = refl; sessions = refl; unsettled = λ p all. all }

pub passes_on_sits : (s : Session) (placed : PlacedChange) → PartSits (PassesOn s placed)
passes_on_sits s placed w w' reply q =
    unless_sits (option_or (ticket_fault w.tier) (journal_fault w (Numbers w.tier.next ∷ []))) _
    (then_sits _ _ (then_stage_sits _ _ (flushes_sits _) (becomes_sits _ (λ x. ticket_sits x.tier)))
    (λ v v' r p. of_tier v.tier v'.tier (after_passed s w.tier.next p.ops p.result v.tier) p.tier (after_passed_sits s w.tier.next p.ops p.result v.tier))) w w' reply q

-- ---- LOAD and REFRESH

settles_sits : (x : Target) (answer : World → Answer) → ((w : World) → Sits w.tier (answer w).0) → PartSits (Settles x answer)
settles_sits x answer k = then_sits _ _ (flushes_some_sits (load_entries x.group)) (answers_sits answer k)

on_target_sits : (name : List ℕ) (which : Which) (part : Target → Part) → ((x : Target) → PartSits (part x)) → PartSits (OnTarget name which part)
on_target_sits name which part p w w' reply q = p q.target w w' reply q.does

whole_sits : (x : Target) (n : ℕ) (w : World) → Sits w.tier (whole_answer x n w).0
whole_sits x n w = loaded_sits x n (λ s g. g) (λ s g. refl) w

gained_sits : (x : Target) (n : ℕ) (w : World) → Sits w.tier (gained_answer x n w).0
gained_sits x n w = loaded_sits x n (gains (keys (matching_past (backing_at w n) x))) (λ s g. refl) w

held_sits : (x : Target) (n : ℕ) (w : World) → Sits w.tier (held_answer x n w).0
held_sits x n w = loaded_sits x n (λ s g. g) (λ s g. refl) w

added_sits : (x : Target) (n : ℕ) (w : World) → Sits w.tier (added_answer x n w).0
added_sits x n w = changed_sits (alone x.place) (λ g. with_flag true (record g { keys = with_keys (keys (matching (backing_at w n) x)) g.keys })) (λ g. flag_def true (record g { keys = with_keys (keys (matching (backing_at w n) x)) g.keys })) w.tier

either_answer : (t : Tier) (b : Bool) (one other : Answer) → Sits t one.0 → Sits t other.0 → Sits t (cond b one other).0
either_answer t true one other p q = p
either_answer t false one other p q = q

refreshed_answer_sits : (x : Target) (n : ℕ) (w : World) → Sits w.tier (refreshed_answer x n w).0
refreshed_answer_sits x n w = either_answer w.tier (is_explicit x.group) _ _ (added_sits x n w) (changed_sits (alone x.place) (with_flag true) (flag_def true) w.tier)

loads_read_only_sits : (x : Target) → PartSits (LoadsReadOnly x)
loads_read_only_sits x =
    reads_sits _ _ (tried_sits x.group) (λ n w w' reply q. either_sits (is_explicit x.group) (settles_sits x (whole_answer x n) (whole_sits x n) w w' reply)
    (unless_sits (overflow_fault x.filter (view_roots (backing_at w n) x)) _ (settles_sits x (gained_answer x n) (gained_sits x n)) w w' reply) q)

loads_writethrough_sits : (x : Target) → PartSits (LoadsWritethrough x)
loads_writethrough_sits x =
    then_sits _ _ round_if_unsettled_sits (reads_sits _ _ (λ t. kept t) (λ n w w' reply q. unless_sits (overflow_fault x.filter (backing_roots (backing_at w n) x)) _ (settles_sits x (added_answer x n) (added_sits x n)) w w' reply q))

pub loads_sits : (load : Load) → PartSits (Loads load)
loads_sits load = on_target_sits load.group load.which _ (λ x w w' reply q. either_sits (is_read_only x.group) (loads_read_only_sits x w w' reply) (loads_writethrough_sits x w w' reply) q)

refreshes_read_only_sits : (x : Target) → PartSits (RefreshesReadOnly x)
refreshes_read_only_sits x =
    reads_sits _ _ (tried_sits x.group) (λ n w w' reply q. either_sits (is_explicit x.group) (settles_sits x (whole_answer x n) (whole_sits x n) w w' reply)
    (unless_sits (overflow_fault x.filter (held_roots x (view_roots (backing_at w n) x))) _ (settles_sits x (held_answer x n) (held_sits x n)) w w' reply) q)

refreshes_writethrough_sits : (x : Target) → PartSits (RefreshesWritethrough x)
refreshes_writethrough_sits x =
    then_sits _ _ round_if_unsettled_sits (reads_sits _ _ (λ t. kept t) (λ n w w' reply q. unless_sits (overflow_fault x.filter (judged_roots (backing_at w n) x)) _ (settles_sits x (refreshed_answer x n) (refreshed_answer_sits x n)) w w' reply q))

pub refreshes_sits : (load : Load) → PartSits (Refreshes load)
refreshes_sits load = on_target_sits load.group load.which _ (λ x w w' reply q. either_sits (is_read_only x.group) (refreshes_read_only_sits x w w' reply) (refreshes_writethrough_sits x w w' reply) q)

-- ---- UNLOAD and ALTER

pub unloads_sits : (s : Session) (u : OfGroup) → PartSits (Unloads s u)
unloads_sits s u = on_target_sits u.group u.which _ (λ x w w' reply q. unless_sits (unload_fault s x w) _ (then_sits _ _ (flushes_some_sits (unload_entries (asks_all u.which) x.group)) (answers_sits (unload_answer x (asks_all u.which)) (λ w. changed_sits (alone x.place) (unloaded (gone_keys w x) (asks_all u.which)) (unloaded_def (gone_keys w x) (asks_all u.which)) w.tier))) w w' reply q)

state_alone_sits : (place : ℕ) (g : Group) (state : RefreshState) → PartSits (SetsStateAlone place g state)
state_alone_sits place g state = then_sits _ _ (flushes_some_sits (altered_entries g state)) (answers_sits (state_answer place state) (λ w. changed_sits (alone place) (with_state state) (λ g. refl) w.tier))

state_refreshed_sits : (place : ℕ) (g : Group) (state : RefreshState) (chosen : Choice) (tried : Tier → Tier) → ((t : Tier) → Sits t (tried t)) → PartSits (SetsStateRefreshed place g state chosen tried)
state_refreshed_sits place g state chosen tried k = reads_sits _ _ k (λ n. then_sits _ _ (flushes_some_sits (altered_entries g state)) (answers_sits (refreshed_state place state chosen n)
    (λ w. sits_on w.tier (refreshed chosen n (backing_at w n) w.tier) (refreshed_state place state chosen n w).0 (refreshed_sits chosen n (backing_at w n) w.tier) (changed_sits (alone place) (with_state state) (λ g. refl) (refreshed chosen n (backing_at w n) w.tier)))))

alters_to_sits : (state : RefreshState) (place : ℕ) (g : Group) → PartSits (AltersTo state place g)
alters_to_sits On place g w w' reply q = either_sits (joins_something place g w.tier) (state_refreshed_sits place g On _ _ (set_tried_sits g.def.interval) w w' reply) (state_alone_sits place g On w w' reply) q
alters_to_sits Off place g w w' reply q = state_alone_sits place g Off w w' reply q
alters_to_sits Paused place g w w' reply q = either_sits _ (state_refreshed_sits place g Paused _ _ (λ t. kept t) w w' reply) (state_alone_sits place g Paused w w' reply) q

pub alters_sits : (a : Alter) → PartSits (Alters a)
alters_sits a w w' reply q = alters_to_sits a.state q.place q.group w w' reply q.does

-- ---- CALL

pub drains_sits : PartSits Drains
drains_sits w w' reply q = then_sits _ _ rounds_sit (answers_sits _ (λ mid. kept mid.tier)) w w' reply q

pub refreshes_called_sits : (interval : ℕ) → PartSits (RefreshesCalled interval)
refreshes_called_sits interval w w' reply q = then_sits _ _ (refreshes_if_shown_sits interval) (answers_sits _ (λ mid. kept mid.tier)) w w' reply q
