-- Rounds, ttDrain, LOAD and REFRESH, where a call of the journal's disk failed.
use Rattle.std.proofs.Common.{◌≡◌, ℕ, Bool, true, false, cond, length, slice_get, refl, ap, ◌∙◌}
use Rattle.std.specs.Bool.{MatchBool}
use Rattle.std.specs.FinMap.{keys, len}
use Rattle.tier_base.specs.declared.code.Code.TheVariants as code
use Rattle.sql_subset.specs.declared.stmt.Load.{Load}
use Rattle.cache_tier.specs.Conditions.{overflow_fault}
use Rattle.cache_tier.specs.declared.reply.Last.TheVariants.{Done}
use Rattle.cache_tier.specs.Groups.{Group, is_explicit, is_read_only, with_keys}
use Rattle.cache_tier.specs.LoadSteps.{Loads, LoadsReadOnly, LoadsWritethrough, added_answer, gained_answer}
use Rattle.cache_tier.specs.Reading.{Reads, as_it_was, backing_at}
use Rattle.cache_tier.specs.RefreshSteps.{Refreshes, RefreshesReadOnly, RefreshesWritethrough, held_answer, judged_roots, refreshed_answer}
use Rattle.cache_tier.specs.Rounds.{Drains, Round, RoundIfUnsettled, is_unsettled}
use Rattle.cache_tier.specs.Sets.{alone, changed, set_tried}
use Rattle.cache_tier.specs.StandingBetween.{Stands}
use Rattle.cache_tier.specs.Steps.{tells}
use Rattle.cache_tier.specs.Targets.{Settles, Target, backing_roots, held_roots, load_entries, matching, view_roots, whole_answer, with_flag}
use Rattle.cache_tier.specs.TierStates.{Tier}
use Rattle.cache_tier.specs.Worlds.{Answer, Part, Unless, World, only}
use Rattle.line_laws.specs.Keeping.{BreaksJournal, IsBrokenOff}
use Rattle.line_laws.proofs.BrokenParts.{BrokenPart, BrokenStage, TellsNone, match_broken, on_off, only_where_broken, reads_broken, settles_broken, then_answers_broken, then_broken, unless_broken_here}
use Rattle.line_laws.proofs.LoadStatements.{StandsAt, added_keys, added_tells, gained_tells, keys_alike, loaded_tells, refreshed_change, refreshed_is, round_if_at, target_stays}
use Rattle.line_laws.proofs.PartWords.{still_quiet}
use Rattle.line_laws.proofs.QuietTiers.{alike_one, alike_where, set_tried_quiet}
use Rattle.line_laws.proofs.RoundLaws.{round_leaves}
use Rattle.line_laws.proofs.TellingLaws.{IsAt, Tells, at_of_tier}

-- ---- rounds as stages

pub round_broken : BrokenStage Stands Round
round_broken w w' early stop j apart stands q bad = on_off w' early (round_leaves w w' early stop stands j apart q).0.on

pub round_if_broken : (place : ℕ) (g : Group) → BrokenStage (StandsAt place g) RoundIfUnsettled
round_if_broken place g w w' early stop j apart p q bad = only_where_broken Stands (is_unsettled w) Round round_broken w w' early stop j apart p.0 q bad

pub drains_broken : BreaksJournal Drains
drains_broken w w' early reply stands j apart q bad =
    then_answers_broken Stands Round (λ mid. (mid.tier, only (Done (length w.tier.unsettled)))) (λ x. refl) round_broken w w' early reply j apart stands q bad

-- ---- what LOAD and REFRESH share

settles_told : (x : Target) (answer : World → Answer) → Tells (IsAt x.place x.group) (load_entries x.group) (λ w. (answer w).0) → TellsNone answer → BrokenPart (IsAt x.place x.group) (Settles x answer)
settles_told x answer so whole = settles_broken (IsAt x.place x.group) (load_entries x.group) answer (at_of_tier x.place x.group) so whole

reads_target_broken : (x : Target) (next : ℕ → Part) → ((n : ℕ) → BrokenPart (IsAt x.place x.group) (next n)) → BrokenPart (IsAt x.place x.group) (Reads (set_tried x.group) next)
reads_target_broken x next so = reads_broken (IsAt x.place x.group) (IsAt x.place x.group) (set_tried x.group) next (set_tried_quiet x.group) (target_stays x) so

reads_as_it_was_broken : (x : Target) (next : ℕ → Part) → ((n : ℕ) → BrokenPart (IsAt x.place x.group) (next n)) → BrokenPart (IsAt x.place x.group) (Reads as_it_was next)
reads_as_it_was_broken x next so =
    reads_broken (IsAt x.place x.group) (IsAt x.place x.group) as_it_was next still_quiet (λ w w' at e. ap (λ (t : Tier). slice_get t.groups x.place) e ∙ at) so

whole_broken : (x : Target) (n : ℕ) → BrokenPart (IsAt x.place x.group) (Settles x (whole_answer x n))
whole_broken x n = settles_told x (whole_answer x n) (loaded_tells x n (λ s g. g) (whole_answer x n) (λ s g. alike_one g) (λ w. refl)) (λ w. refl)

by_kind_broken : (x : Target) (one other : Part) → BrokenPart (IsAt x.place x.group) one → (is_read_only x.group ≡ false → BrokenPart (StandsAt x.place x.group) other)
    → BrokenPart (StandsAt x.place x.group) (λ w w' reply. MatchBool (is_read_only x.group) (one w w' reply) (other w w' reply))
by_kind_broken x one other a b w w' early reply j apart p q bad = by (is_read_only x.group) refl q
  where
    by : (k : Bool) → is_read_only x.group ≡ k → MatchBool k (one w w' reply) (other w w' reply) → IsBrokenOff w' early
    by true e q = a w w' early reply j apart p.1 q bad
    by false e q = b e w w' early reply j apart p q bad

-- ---- LOAD

loads_read_only_broken : (x : Target) → BrokenPart (IsAt x.place x.group) (LoadsReadOnly x)
loads_read_only_broken x =
    reads_target_broken x _
    (λ n. match_broken (IsAt x.place x.group) (is_explicit x.group) (Settles x (whole_answer x n))
    (λ w w' reply. Unless (overflow_fault x.filter (view_roots (backing_at w n) x)) (Settles x (gained_answer x n)) w w' reply)
    (whole_broken x n)
    (unless_broken_here (IsAt x.place x.group) (λ w. overflow_fault x.filter (view_roots (backing_at w n) x)) (Settles x (gained_answer x n))
    (settles_told x (gained_answer x n) (gained_tells x n) (λ w. refl))))

loads_writethrough_broken : (x : Target) → is_read_only x.group ≡ false → BrokenPart (StandsAt x.place x.group) (LoadsWritethrough x)
loads_writethrough_broken x kind =
    then_broken (StandsAt x.place x.group) (IsAt x.place x.group) RoundIfUnsettled _ (round_if_at x.place x.group) (round_if_broken x.place x.group)
    (reads_as_it_was_broken x _
    (λ n. unless_broken_here (IsAt x.place x.group) (λ w. overflow_fault x.filter (backing_roots (backing_at w n) x)) (Settles x (added_answer x n))
    (settles_told x (added_answer x n)
    (added_tells x (added_answer x n) (λ w g. record g { keys = with_keys (keys (matching (backing_at w n) x)) g.keys }) kind (λ w g. keys_alike _ g) (λ w. refl)) (λ w. refl))))

pub loads_broken : (load : Load) → BreaksJournal (Loads load)
loads_broken load w w' early reply stands j apart q bad =
    by_kind_broken q.target (LoadsReadOnly q.target) (LoadsWritethrough q.target) (loads_read_only_broken q.target) (loads_writethrough_broken q.target) w w' early reply j apart (stands, q.group) q.does bad

-- ---- REFRESH

refreshes_read_only_broken : (x : Target) → BrokenPart (IsAt x.place x.group) (RefreshesReadOnly x)
refreshes_read_only_broken x =
    reads_target_broken x _
    (λ n. match_broken (IsAt x.place x.group) (is_explicit x.group) (Settles x (whole_answer x n))
    (λ w w' reply. Unless (overflow_fault x.filter (held_roots x (view_roots (backing_at w n) x))) (Settles x (held_answer x n)) w w' reply)
    (whole_broken x n)
    (unless_broken_here (IsAt x.place x.group) (λ w. overflow_fault x.filter (held_roots x (view_roots (backing_at w n) x))) (Settles x (held_answer x n))
    (settles_told x (held_answer x n) (loaded_tells x n (λ s g. g) (held_answer x n) (λ s g. alike_one g) (λ w. refl)) (λ w. refl))))

refreshed_tells_none : (x : Target) (n : ℕ) → TellsNone (refreshed_answer x n)
refreshed_tells_none x n w = by (is_explicit x.group)
  where
    by : (b : Bool) → tells code.JournalFault (cond {A = Answer} b (changed (alone x.place) (λ g. with_flag true (added_keys x n w g)) w.tier, only (Done (len (matching (backing_at w n) x)))) (changed (alone x.place) (with_flag true) w.tier, only (Done (len (held_roots x (matching (backing_at w n) x)))))).1.last ≡ false
    by true = refl
    by false = refl

refreshes_writethrough_broken : (x : Target) → is_read_only x.group ≡ false → BrokenPart (StandsAt x.place x.group) (RefreshesWritethrough x)
refreshes_writethrough_broken x kind =
    then_broken (StandsAt x.place x.group) (IsAt x.place x.group) RoundIfUnsettled _ (round_if_at x.place x.group) (round_if_broken x.place x.group)
    (reads_as_it_was_broken x _
    (λ n. unless_broken_here (IsAt x.place x.group) (λ w. overflow_fault x.filter (judged_roots (backing_at w n) x)) (Settles x (refreshed_answer x n))
    (settles_told x (refreshed_answer x n)
    (added_tells x (refreshed_answer x n) (refreshed_change x n) kind (λ w g. alike_where (is_explicit x.group) g _ (keys_alike _ g)) (refreshed_is x n)) (refreshed_tells_none x n))))

pub refreshes_broken : (load : Load) → BreaksJournal (Refreshes load)
refreshes_broken load w w' early reply stands j apart q bad =
    by_kind_broken q.target (RefreshesReadOnly q.target) (RefreshesWritethrough q.target) (refreshes_read_only_broken q.target) (refreshes_writethrough_broken q.target) w w' early reply j apart (stands, q.group) q.does bad
