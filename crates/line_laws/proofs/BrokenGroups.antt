-- Statements on one group, and the refresh of a set, where a call of the journal's disk failed.
use Rattle.std.proofs.Common.{◌≡◌, ℕ, Bool, ◌&&◌, Some, None, refl}
use Rattle.sql_subset.specs.declared.stmt.Alter.{Alter}
use Rattle.sql_subset.specs.declared.stmt.OfGroup.{OfGroup}
use Rattle.sql_subset.specs.declared.stmt.RefreshState.{RefreshState}
use Rattle.sql_subset.specs.declared.stmt.RefreshState.TheVariants.{On, Off, Paused}
use Rattle.cache_tier.specs.AlterSteps.{Alters, AltersTo, SetsStateAlone, SetsStateRefreshed, altered_entries, joins_something, refreshed_state, same_state, state_answer}
use Rattle.cache_tier.specs.Conditions.{asks_all}
use Rattle.cache_tier.specs.declared.reply.Last.TheVariants.{Done}
use Rattle.cache_tier.specs.Groups.{Group}
use Rattle.cache_tier.specs.JournalSteps.{FlushesSome}
use Rattle.cache_tier.specs.Reading.{Answers, as_it_was, backing_at}
use Rattle.cache_tier.specs.Sets.{Choice, RefreshesIfShown, RefreshesSet, alone, has_something, of_set, refreshed, set_size, shows_something}
use Rattle.cache_tier.specs.Steps.{RefreshesCalled}
use Rattle.cache_tier.specs.Targets.{Target}
use Rattle.cache_tier.specs.TierStates.{Session, Tier, refresh_tried}
use Rattle.cache_tier.specs.UnloadSteps.{Unloads, unload_answer, unload_entries, unload_fault}
use Rattle.cache_tier.specs.Worlds.{Becomes, Then, Unless, only}
use Rattle.recovery.specs.Journalled.{IsQuiet}
use Rattle.line_laws.specs.Keeping.{BreaksJournal}
use Rattle.line_laws.proofs.BrokenParts.{BrokenPart, BrokenStage, becomes_broken, match_broken, only_where_broken, reads_broken, reads_first_broken, settles_broken, then_answers_broken, unless_broken}
use Rattle.line_laws.proofs.GroupStatements.{alone_tells, refreshed_tells, stays_at, unload_tells}
use Rattle.line_laws.proofs.PartWords.{Any, still_quiet}
use Rattle.line_laws.proofs.QuietTiers.{tried_quiet}
use Rattle.line_laws.proofs.TellingLaws.{IsAt, at_of_tier}

-- ---- ALTER

alone_broken : (place : ℕ) (g : Group) (state : RefreshState) → BrokenPart (IsAt place g) (SetsStateAlone place g state)
alone_broken place g state = settles_broken (IsAt place g) (altered_entries g state) (state_answer place state) (at_of_tier place g) (alone_tells place g state) (λ w. refl)

refreshed_broken : (place : ℕ) (g : Group) (state : RefreshState) (chosen : Choice) (tried : Tier → Tier) → ((t : Tier) → IsQuiet t (tried t)) → ((t : Tier) → (tried t).groups ≡ t.groups) → BrokenPart (IsAt place g) (SetsStateRefreshed place g state chosen tried)
refreshed_broken place g state chosen tried quiet same =
    reads_broken (IsAt place g) (IsAt place g) tried
    (λ n. Then (FlushesSome (altered_entries g state)) (Answers (refreshed_state place state chosen n))) quiet (stays_at place g tried same)
    (λ n. settles_broken (IsAt place g) (altered_entries g state) (refreshed_state place state chosen n) (at_of_tier place g) (refreshed_tells place g state chosen n) (λ w. refl))

alters_to_broken : (state : RefreshState) (place : ℕ) (g : Group) → BrokenPart (IsAt place g) (AltersTo state place g)
alters_to_broken On place g w w' early reply j apart at q bad =
    match_broken (IsAt place g) (joins_something place g w.tier) (SetsStateRefreshed place g On (of_set g.def.interval (Some place)) (refresh_tried g.def.interval)) (SetsStateAlone place g On)
    (refreshed_broken place g On (of_set g.def.interval (Some place)) (refresh_tried g.def.interval) (tried_quiet g.def.interval) (λ t. refl)) (alone_broken place g On) w w' early reply j apart at q bad
alters_to_broken Off place g w w' early reply j apart at q bad = alone_broken place g Off w w' early reply j apart at q bad
alters_to_broken Paused place g w w' early reply j apart at q bad =
    match_broken (IsAt place g) (same_state g.state Off && has_something g) (SetsStateRefreshed place g Paused (alone place) as_it_was) (SetsStateAlone place g Paused)
    (refreshed_broken place g Paused (alone place) as_it_was still_quiet (λ t. refl)) (alone_broken place g Paused) w w' early reply j apart at q bad

pub alters_broken : (a : Alter) → BreaksJournal (Alters a)
alters_broken a w w' early reply stands j apart q bad = alters_to_broken a.state q.place q.group w w' early reply j apart q.is q.does bad

-- ---- UNLOAD

unloads_target_broken : (s : Session) (x : Target) (all : Bool) → BrokenPart (IsAt x.place x.group) (λ w w' reply. Unless (unload_fault s x w) (Then (FlushesSome (unload_entries all x.group)) (Answers (unload_answer x all))) w w' reply)
unloads_target_broken s x all w w' early reply j apart at q bad =
    unless_broken (IsAt x.place x.group) (unload_fault s x w) (Then (FlushesSome (unload_entries all x.group)) (Answers (unload_answer x all)))
    (settles_broken (IsAt x.place x.group) (unload_entries all x.group) (unload_answer x all) (at_of_tier x.place x.group) (unload_tells x all) (λ w. refl)) w w' early reply j apart at q bad

pub unloads_broken : (s : Session) (u : OfGroup) → BreaksJournal (Unloads s u)
unloads_broken s u w w' early reply stands j apart q bad = unloads_target_broken s q.target (asks_all u.which) w w' early reply j apart q.group q.does bad

-- ---- a set: nothing is written

refreshes_set_broken : (interval : ℕ) → BrokenStage Any (RefreshesSet interval)
refreshes_set_broken interval =
    reads_first_broken Any Any (refresh_tried interval) (λ n. Becomes (λ w. refreshed (of_set interval None) n (backing_at w n) w.tier)) (tried_quiet interval) (λ w w' p e. tt)
    (λ n. becomes_broken Any (λ w. refreshed (of_set interval None) n (backing_at w n) w.tier))

pub refreshes_if_shown_broken : (interval : ℕ) → BrokenStage Any (RefreshesIfShown interval)
refreshes_if_shown_broken interval w w' early stop j apart p q bad = only_where_broken Any (shows_something interval w.tier.groups) (RefreshesSet interval) (refreshes_set_broken interval) w w' early stop j apart p q bad

pub refreshes_called_broken : (interval : ℕ) → BreaksJournal (RefreshesCalled interval)
refreshes_called_broken interval w w' early reply stands j apart q bad =
    then_answers_broken Any (RefreshesIfShown interval) (λ mid. (mid.tier, only (Done (set_size interval mid.tier)))) (λ x. refl) (refreshes_if_shown_broken interval) w w' early reply j apart tt q bad
