-- Statements on one group: ALTER, UNLOAD; and the refresh of a set.
use Rattle.std.proofs.Common.{◌≡◌, ℕ, Bool, true, false, cond, ◌&&◌, Some, None, List, slice_get, refl, sym, ap, ◌∙◌}
use Rattle.row_types.specs.declared.value.Value.{Value}
use Rattle.sql_subset.specs.declared.stmt.Alter.{Alter}
use Rattle.sql_subset.specs.declared.stmt.OfGroup.{OfGroup}
use Rattle.sql_subset.specs.declared.stmt.RefreshState.{RefreshState}
use Rattle.sql_subset.specs.declared.stmt.RefreshState.TheVariants.{On, Off, Paused}
use Rattle.cache_tier.specs.AlterSteps.{Alters, AltersTo, SetsStateAlone, SetsStateRefreshed, altered_entries, joins_something, refreshed_state, same_state, state_answer}
use Rattle.cache_tier.specs.Conditions.{asks_all}
use Rattle.cache_tier.specs.Groups.{Group}
use Rattle.cache_tier.specs.JournalSteps.{FlushesSome}
use Rattle.cache_tier.specs.Reading.{Answers, as_it_was, backing_at}
use Rattle.cache_tier.specs.Sets.{Choice, RefreshesIfShown, RefreshesSet, alone, changed, has_something, of_set, refreshed, set_size, shows_something}
use Rattle.cache_tier.specs.Steps.{RefreshesCalled}
use Rattle.cache_tier.specs.Targets.{Target, has_flag}
use Rattle.cache_tier.specs.TierStates.{Session, Tier, refresh_tried}
use Rattle.cache_tier.specs.UnloadSteps.{Unloads, gone_keys, unload_answer, unload_entries, unload_fault, unloaded}
use Rattle.cache_tier.specs.Worlds.{Becomes, Then, Unless, World, only}
use Rattle.recovery.specs.Journalled.{IsAlike, IsQuiet}
use Rattle.line_laws.specs.Keeping.{KeepsJournal}
use Rattle.line_laws.proofs.PartWords.{Any, GoesPart, GoesStage, becomes_goes, match_goes, only_where_goes, quiet_goes, reads_first_goes, reads_goes, still_quiet, then_goes, unless_goes}
use Rattle.line_laws.proofs.QuietTiers.{alike_changed, quiet_groups, refreshed_quiet, tried_quiet}
use Rattle.line_laws.proofs.TellingLaws.{IsAt, IsLoadedAs, Tells, at_of_tier, settles_goes, state_told, unload_told}

-- ---- ALTER

pub alone_tells : (place : ℕ) (g : Group) (state : RefreshState) → Tells (IsAt place g) (altered_entries g state) (λ w. (state_answer place state w).0)
alone_tells place g state w at apart = state_told w.tier w.tier place g state at apart (still_quiet w.tier)

alone_goes : (place : ℕ) (g : Group) (state : RefreshState) → GoesPart (IsAt place g) (SetsStateAlone place g state)
alone_goes place g state = settles_goes (IsAt place g) (altered_entries g state) (state_answer place state) (at_of_tier place g) (alone_tells place g state)

pub refreshed_tells : (place : ℕ) (g : Group) (state : RefreshState) (chosen : Choice) (n : ℕ) → Tells (IsAt place g) (altered_entries g state) (λ w. (refreshed_state place state chosen n w).0)
refreshed_tells place g state chosen n w at apart = state_told w.tier (refreshed chosen n (backing_at w n) w.tier) place g state at apart (refreshed_quiet chosen n (backing_at w n) w.tier)

-- the group stays at its place where the call was tried
pub stays_at : (place : ℕ) (g : Group) (tried : Tier → Tier) → ((t : Tier) → (tried t).groups ≡ t.groups) → (w w' : World) → IsAt place g w → w'.tier ≡ tried w.tier → IsAt place g w'
stays_at place g tried same w w' at e = ap (λ (t : Tier). slice_get t.groups place) e ∙ ap (λ l. slice_get l place) (same w.tier) ∙ at

refreshed_goes : (place : ℕ) (g : Group) (state : RefreshState) (chosen : Choice) (tried : Tier → Tier) → ((t : Tier) → IsQuiet t (tried t)) → ((t : Tier) → (tried t).groups ≡ t.groups) → GoesPart (IsAt place g) (SetsStateRefreshed place g state chosen tried)
refreshed_goes place g state chosen tried quiet same =
    reads_goes (IsAt place g) (IsAt place g) tried
    (λ n. Then (FlushesSome (altered_entries g state)) (Answers (refreshed_state place state chosen n))) quiet (stays_at place g tried same)
    (λ n. settles_goes (IsAt place g) (altered_entries g state) (refreshed_state place state chosen n) (at_of_tier place g) (refreshed_tells place g state chosen n))

alters_to : (state : RefreshState) (place : ℕ) (g : Group) → GoesPart (IsAt place g) (AltersTo state place g)
alters_to On place g w w' early reply j apart at q ok =
    match_goes (IsAt place g) (joins_something place g w.tier) (SetsStateRefreshed place g On (of_set g.def.interval (Some place)) (refresh_tried g.def.interval)) (SetsStateAlone place g On)
    (refreshed_goes place g On (of_set g.def.interval (Some place)) (refresh_tried g.def.interval) (tried_quiet g.def.interval) (λ t. refl)) (alone_goes place g On) w w' early reply j apart at q ok
alters_to Off place g w w' early reply j apart at q ok = alone_goes place g Off w w' early reply j apart at q ok
alters_to Paused place g w w' early reply j apart at q ok =
    match_goes (IsAt place g) (same_state g.state Off && has_something g) (SetsStateRefreshed place g Paused (alone place) as_it_was) (SetsStateAlone place g Paused)
    (refreshed_goes place g Paused (alone place) as_it_was still_quiet (λ t. refl)) (alone_goes place g Paused) w w' early reply j apart at q ok

pub alters_kept : (a : Alter) → KeepsJournal (Alters a)
alters_kept a w w' early reply stands j apart q ok = alters_to a.state q.place q.group w w' early reply j apart q.is q.does ok

-- ---- UNLOAD

unloaded_as : (gone : List (List Value)) (g h : Group) → IsAlike g h → IsLoadedAs false false g (unloaded gone true h)
unloaded_as gone g h a = by (has_flag h) refl
  where
    kind : has_flag h ≡ has_flag g
    kind = λ i. has_flag (record h { def = a.def i })

    by : (b : Bool) → has_flag h ≡ b → IsLoadedAs false false g (cond b (record h { keys = Rattle.cache_tier.specs.Groups.without_keys gone h.keys; loaded = false }) (record h { keys = Rattle.cache_tier.specs.Groups.without_keys gone h.keys }))
    by true e = record { def = a.def; state = a.state; loaded = ap (λ b. cond b false g.loaded) (sym (sym kind ∙ e)) }
    by false e = record { def = a.def; state = a.state; loaded = a.loaded ∙ ap (λ b. cond b false g.loaded) (sym (sym kind ∙ e)) }

pub unload_tells : (x : Target) (all : Bool) → Tells (IsAt x.place x.group) (unload_entries all x.group) (λ w. (unload_answer x all w).0)
unload_tells x true w at apart = unload_told w.tier w.tier x.place x.group (unloaded (gone_keys w x) true) at apart (still_quiet w.tier) (unloaded_as (gone_keys w x) x.group)
unload_tells x false w at apart =
    quiet_groups w.tier (changed (alone x.place) (unloaded (gone_keys w x) false) w.tier).groups
    (alike_changed (alone x.place) (unloaded (gone_keys w x) false) (λ g. record { def = refl; state = λ r. refl; loaded = refl }) 0 w.tier.groups)

unloads_target : (s : Session) (x : Target) (all : Bool) → GoesPart (IsAt x.place x.group) (λ w w' reply. Unless (unload_fault s x w) (Then (FlushesSome (unload_entries all x.group)) (Answers (unload_answer x all))) w w' reply)
unloads_target s x all w w' early reply j apart at q ok =
    unless_goes (IsAt x.place x.group) (unload_fault s x w) (Then (FlushesSome (unload_entries all x.group)) (Answers (unload_answer x all)))
    (settles_goes (IsAt x.place x.group) (unload_entries all x.group) (unload_answer x all) (at_of_tier x.place x.group) (unload_tells x all)) w w' early reply j apart at q ok

pub unloads_kept : (s : Session) (u : OfGroup) → KeepsJournal (Unloads s u)
unloads_kept s u w w' early reply stands j apart q ok = unloads_target s q.target (asks_all u.which) w w' early reply j apart q.group q.does ok

-- ---- a set

refreshes_set : (interval : ℕ) → GoesStage Any Any (RefreshesSet interval)
refreshes_set interval =
    reads_first_goes Any Any Any (refresh_tried interval) (λ n. Becomes (λ w. refreshed (of_set interval None) n (backing_at w n) w.tier)) (tried_quiet interval) (λ w w' p e. tt) (λ w p. tt)
    (λ n. becomes_goes Any Any (λ w. refreshed (of_set interval None) n (backing_at w n) w.tier) (λ w p. refreshed_quiet (of_set interval None) n (backing_at w n) w.tier) (λ w p. tt))

pub refreshes_if_shown : (interval : ℕ) → GoesStage Any Any (RefreshesIfShown interval)
refreshes_if_shown interval w w' early stop j apart p q ok = only_where_goes Any (shows_something interval w.tier.groups) (RefreshesSet interval) (refreshes_set interval) w w' early stop j apart p q ok

pub refreshes_called : (interval : ℕ) → KeepsJournal (RefreshesCalled interval)
refreshes_called interval w w' early reply stands j apart q ok =
    then_goes Any Any (RefreshesIfShown interval) (Answers (λ mid. (mid.tier, only (Rattle.cache_tier.specs.declared.reply.Last.TheVariants.Done (set_size interval mid.tier))))) (refreshes_if_shown interval)
    (quiet_goes Any (λ mid. (mid.tier, only (Rattle.cache_tier.specs.declared.reply.Last.TheVariants.Done (set_size interval mid.tier)))) (λ x p. still_quiet x.tier)) w w' early reply j apart tt q ok
