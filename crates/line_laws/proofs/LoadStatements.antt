-- ttDrain, LOAD and REFRESH.
use Rattle.std.proofs.Common.{◌≡◌, ℕ, Bool, true, false, cond, Option, List, length, slice_get, refl, sym, ap, subst, ◌∙◌}
use Rattle.std.specs.Bool.{MatchBool}
use Rattle.std.specs.FinMap.{keys, len}
use Rattle.row_types.specs.declared.value.Value.{Value}
use Rattle.row_types.specs.declared.rule.Rule.{Rule}
use Rattle.table_state.specs.Tables.{TableState}
use Rattle.table_state.specs.declared.history.Sealed.{Sealed}
use Rattle.sql_subset.specs.declared.stmt.Load.{Load}
use Rattle.cache_tier.specs.Conditions.{overflow_fault}
use Rattle.cache_tier.specs.declared.reply.Last.TheVariants.{Done}
use Rattle.cache_tier.specs.DynamicLoads.{state_loaded}
use Rattle.cache_tier.specs.Groups.{Group, is_explicit, is_read_only, is_table_of, is_writethrough, with_keys}
use Rattle.cache_tier.specs.LoadSteps.{Loads, LoadsReadOnly, LoadsWritethrough, added_answer, gained_answer, gains}
use Rattle.cache_tier.specs.Reading.{Answers, Reads, as_it_was, backing_at}
use Rattle.cache_tier.specs.RefreshSteps.{Refreshes, RefreshesReadOnly, RefreshesWritethrough, held_answer, judged_roots, refreshed_answer}
use Rattle.cache_tier.specs.Rounds.{Drains, Round, RoundIfUnsettled, is_unsettled}
use Rattle.cache_tier.specs.Sets.{alone, changed, loaded_state, loaded_with, refreshed, set_tried}
use Rattle.cache_tier.specs.StandingBetween.{Stands}
use Rattle.cache_tier.specs.Targets.{Settles, Target, backing_roots, has_flag, held_roots, load_entries, loaded_tier, matching, matching_past, view_roots, whole_answer, with_flag}
use Rattle.cache_tier.specs.TierStates.{Tier}
use Rattle.cache_tier.specs.Worlds.{Answer, IsUnshared, OnlyWhere, Part, Unless, World, only}
use Rattle.recovery.specs.Journalled.{IsAlike, IsJournalledOn}
use Rattle.recovery.proofs.JournalledLaws.{alike_kind}
use Rattle.line_laws.specs.Keeping.{KeepsJournal}
use Rattle.line_laws.proofs.PartWords.{Any, Goes, GoesPart, GoesStage, match_goes, quiet_goes, reads_goes, same_goes, still_quiet, then_goes, unless_goes}
use Rattle.line_laws.proofs.QuietTiers.{alike_one, alike_where, refreshed_quiet, set_tried_groups, set_tried_quiet}
use Rattle.line_laws.proofs.RoundLaws.{Rounded, round_goes}
use Rattle.line_laws.proofs.TellingLaws.{IsAt, IsLoadedAs, Tells, Told, at_of_tier, load_told, settles_goes}

-- ---- rounds as stages

-- it stands, with the group at its place
abbrev pub StandsAt : ℕ → Group → World → Type 0
StandsAt place g w = Stands w × IsAt place g w

pub round_unshared : (w w' : World) (early : List Sealed) → IsUnshared w → Rounded w w' early → IsUnshared w'
round_unshared w w' early apart r t e =
    ap (λ (x : Tier). is_table_of is_writethrough x.groups t) r.tier ∙ apart t (ap (λ s. Rattle.outside.specs.Others.is_shared s t) (sym r.shared) ∙ e)

rounds_at : (place : ℕ) (g : Group) → GoesStage (StandsAt place g) (IsAt place g) Round
rounds_at place g w w' early stop j apart p q ok =
    let r = round_goes w w' early stop p.0 j apart q ok in
    record { on = r.0.on; unshared = round_unshared w w' early apart r.0; holds = ap (λ (x : Tier). slice_get x.groups place) r.0.tier ∙ p.1 }

pub round_if_at : (place : ℕ) (g : Group) → GoesStage (StandsAt place g) (IsAt place g) RoundIfUnsettled
round_if_at place g w w' early stop j apart p q ok = by (is_unsettled w) q
  where
    by : (b : Bool) → OnlyWhere b Round w w' stop → Goes (IsAt place g) w' early
    by true q = rounds_at place g w w' early stop j apart p q ok
    by false q = same_goes (IsAt place g) w w' early q.0 j apart p.1

pub drains_kept : KeepsJournal Drains
drains_kept w w' early reply stands j apart q ok =
    then_goes Stands Any Round (Answers (λ mid. (mid.tier, only (Done (length w.tier.unsettled)))))
    (λ v v' early stop j apart p q ok. (let r = round_goes v v' early stop p j apart q ok in record { on = r.0.on; unshared = round_unshared v v' early apart r.0; holds = tt }))
    (quiet_goes Any (λ mid. (mid.tier, only (Done (length w.tier.unsettled)))) (λ x p. still_quiet x.tier)) w w' early reply j apart stands q ok

-- ---- what a load makes of its group

flagged : (g h k : Group) → k.def ≡ g.def → (is_read_only g ≡ true → k.state ≡ loaded_state g.state) → k.loaded ≡ g.loaded → IsLoadedAs true true g (with_flag true k)
flagged g h k def state loaded = by (has_flag k) refl
  where
    kind : has_flag k ≡ has_flag g
    kind = λ i. has_flag (record k { def = def i })

    by : (b : Bool) → has_flag k ≡ b → IsLoadedAs true true g (cond b (record k { loaded = true }) k)
    by true e = record { def = def; state = state; loaded = ap (λ b. cond b true g.loaded) (sym (sym kind ∙ e)) }
    by false e = record { def = def; state = state; loaded = loaded ∙ ap (λ b. cond b true g.loaded) (sym (sym kind ∙ e)) }

-- a READONLY group
pub loaded_tells : (x : Target) (n : ℕ) (change : TableState → Group → Group) (answer : World → Answer) → ((s : TableState) (g : Group) → IsAlike g (change s g)) → ((w : World) → (answer w).0 ≡ loaded_tier x n change w) → Tells (IsAt x.place x.group) (load_entries x.group) (λ w. (answer w).0)
loaded_tells x n change answer same is w at apart =
    subst (Told (load_entries x.group) w.tier) (sym (is w))
    (load_told w.tier (refreshed (loaded_with x.group x.place) n (backing_at w n) w.tier) x.place x.group (λ g. with_flag true (state_loaded (change (backing_at w n) g))) at apart (refreshed_quiet (loaded_with x.group x.place) n (backing_at w n) w.tier)
    (λ h a. (let c = same (backing_at w n) h in flagged x.group h (state_loaded (change (backing_at w n) h)) (c.def ∙ a.def)
    (λ r. ap loaded_state (c.state (alike_kind x.group h a ∙ r) ∙ a.state r)) (c.loaded ∙ a.loaded))))

loaded_goes : (x : Target) (n : ℕ) (change : TableState → Group → Group) (answer : World → Answer) → ((s : TableState) (g : Group) → IsAlike g (change s g)) → ((w : World) → (answer w).0 ≡ loaded_tier x n change w) → GoesPart (IsAt x.place x.group) (Settles x answer)
loaded_goes x n change answer same is = settles_goes (IsAt x.place x.group) (load_entries x.group) answer (at_of_tier x.place x.group) (loaded_tells x n change answer same is)

-- a writethrough one
pub added_tells : (x : Target) (answer : World → Answer) (change : World → Group → Group) → is_read_only x.group ≡ false → ((w : World) (g : Group) → IsAlike g (change w g)) → ((w : World) → (answer w).0 ≡ changed (alone x.place) (λ g. with_flag true (change w g)) w.tier) → Tells (IsAt x.place x.group) (load_entries x.group) (λ w. (answer w).0)
added_tells x answer change kind same is w at apart =
    subst (Told (load_entries x.group) w.tier) (sym (is w))
    (load_told w.tier w.tier x.place x.group (λ g. with_flag true (change w g)) at apart (still_quiet w.tier)
    (λ h a. (let c = same w h in flagged x.group h (change w h) (c.def ∙ a.def) (λ r. (let bad : false ≡ true = sym kind ∙ r in Prim.cc)) (c.loaded ∙ a.loaded))))

added_goes : (x : Target) (answer : World → Answer) (change : World → Group → Group) → is_read_only x.group ≡ false → ((w : World) (g : Group) → IsAlike g (change w g)) → ((w : World) → (answer w).0 ≡ changed (alone x.place) (λ g. with_flag true (change w g)) w.tier) → GoesPart (IsAt x.place x.group) (Settles x answer)
added_goes x answer change kind same is = settles_goes (IsAt x.place x.group) (load_entries x.group) answer (at_of_tier x.place x.group) (added_tells x answer change kind same is)

pub keys_alike : (now : List (List Value)) (g : Group) → IsAlike g (record g { keys = now })
keys_alike now g = record { def = refl; state = λ r. refl; loaded = refl }

-- the group stays at its place where the call was tried
pub target_stays : (x : Target) (w w' : World) → IsAt x.place x.group w → w'.tier ≡ set_tried x.group w.tier → IsAt x.place x.group w'
target_stays x w w' at e = ap (λ (t : Tier). slice_get t.groups x.place) e ∙ ap (λ l. slice_get l x.place) (set_tried_groups x.group w.tier) ∙ at

reads_target : (x : Target) (next : ℕ → Part) → ((n : ℕ) → GoesPart (IsAt x.place x.group) (next n)) → GoesPart (IsAt x.place x.group) (Reads (set_tried x.group) next)
reads_target x next so =
    reads_goes (IsAt x.place x.group) (IsAt x.place x.group) (set_tried x.group) next (set_tried_quiet x.group) (target_stays x) so

reads_as_it_was : (x : Target) (next : ℕ → Part) → ((n : ℕ) → GoesPart (IsAt x.place x.group) (next n)) → GoesPart (IsAt x.place x.group) (Reads as_it_was next)
reads_as_it_was x next so =
    reads_goes (IsAt x.place x.group) (IsAt x.place x.group) as_it_was next still_quiet (λ w w' at e. ap (λ (t : Tier). slice_get t.groups x.place) e ∙ at) so

-- unless a rule is broken there
unless_here : (P : World → Type 0) (fault : World → Option Rule) (part : Part) → GoesPart P part → GoesPart P (λ w w' reply. Unless (fault w) part w w' reply)
unless_here P fault part so w w' early reply j apart p q ok = unless_goes P (fault w) part so w w' early reply j apart p q ok

-- ---- LOAD

pub gained_tells : (x : Target) (n : ℕ) → Tells (IsAt x.place x.group) (load_entries x.group) (λ w. (gained_answer x n w).0)
gained_tells x n w at apart =
    load_told w.tier (refreshed (loaded_with x.group x.place) n (backing_at w n) w.tier) x.place x.group (λ g. with_flag true (state_loaded (gains (keys (matching_past (backing_at w n) x)) (backing_at w n) g))) at apart (refreshed_quiet (loaded_with x.group x.place) n (backing_at w n) w.tier)
    (λ h a. flagged x.group h (state_loaded (gains (keys (matching_past (backing_at w n) x)) (backing_at w n) h)) a.def (λ r. ap loaded_state (a.state r)) a.loaded)

loads_read_only : (x : Target) → GoesPart (IsAt x.place x.group) (LoadsReadOnly x)
loads_read_only x =
    reads_target x _
    (λ n. match_goes (IsAt x.place x.group) (is_explicit x.group) (Settles x (whole_answer x n))
    (λ w w' reply. Unless (overflow_fault x.filter (view_roots (backing_at w n) x)) (Settles x (gained_answer x n)) w w' reply)
    (loaded_goes x n (λ s g. g) (whole_answer x n) (λ s g. alike_one g) (λ w. refl))
    (unless_here (IsAt x.place x.group) (λ w. overflow_fault x.filter (view_roots (backing_at w n) x)) (Settles x (gained_answer x n))
    (settles_goes (IsAt x.place x.group) (load_entries x.group) (gained_answer x n) (at_of_tier x.place x.group) (gained_tells x n))))

loads_writethrough : (x : Target) → is_read_only x.group ≡ false → GoesPart (StandsAt x.place x.group) (LoadsWritethrough x)
loads_writethrough x kind =
    then_goes (StandsAt x.place x.group) (IsAt x.place x.group) RoundIfUnsettled _ (round_if_at x.place x.group)
    (reads_as_it_was x _
    (λ n. unless_here (IsAt x.place x.group) (λ w. overflow_fault x.filter (backing_roots (backing_at w n) x)) (Settles x (added_answer x n))
    (added_goes x (added_answer x n) (λ w g. record g { keys = with_keys (keys (matching (backing_at w n) x)) g.keys }) kind (λ w g. keys_alike _ g) (λ w. refl))))

-- of one kind or the other
by_kind : (x : Target) (one other : Part) → GoesPart (IsAt x.place x.group) one → (is_read_only x.group ≡ false → GoesPart (StandsAt x.place x.group) other)
    → GoesPart (StandsAt x.place x.group) (λ w w' reply. MatchBool (is_read_only x.group) (one w w' reply) (other w w' reply))
by_kind x one other a b w w' early reply j apart p q ok = by (is_read_only x.group) refl q
  where
    by : (k : Bool) → is_read_only x.group ≡ k → MatchBool k (one w w' reply) (other w w' reply) → IsJournalledOn w' early
    by true e q = a w w' early reply j apart p.1 q ok
    by false e q = b e w w' early reply j apart p q ok

pub loads_kept : (load : Load) → KeepsJournal (Loads load)
loads_kept load w w' early reply stands j apart q ok =
    by_kind q.target (LoadsReadOnly q.target) (LoadsWritethrough q.target) (loads_read_only q.target) (loads_writethrough q.target) w w' early reply j apart (stands, q.group) q.does ok

-- ---- REFRESH

refreshes_read_only : (x : Target) → GoesPart (IsAt x.place x.group) (RefreshesReadOnly x)
refreshes_read_only x =
    reads_target x _
    (λ n. match_goes (IsAt x.place x.group) (is_explicit x.group) (Settles x (whole_answer x n))
    (λ w w' reply. Unless (overflow_fault x.filter (held_roots x (view_roots (backing_at w n) x))) (Settles x (held_answer x n)) w w' reply)
    (loaded_goes x n (λ s g. g) (whole_answer x n) (λ s g. alike_one g) (λ w. refl))
    (unless_here (IsAt x.place x.group) (λ w. overflow_fault x.filter (held_roots x (view_roots (backing_at w n) x))) (Settles x (held_answer x n))
    (loaded_goes x n (λ s g. g) (held_answer x n) (λ s g. alike_one g) (λ w. refl))))

abbrev pub refreshed_change : Target → ℕ → World → Group → Group
refreshed_change x n w g = cond (is_explicit x.group) (record g { keys = with_keys (keys (matching (backing_at w n) x)) g.keys }) g

abbrev pub added_keys : Target → ℕ → World → Group → Group
added_keys x n w g = record g { keys = with_keys (keys (matching (backing_at w n) x)) g.keys }

pub refreshed_is : (x : Target) (n : ℕ) (w : World) → (refreshed_answer x n w).0 ≡ changed (alone x.place) (λ g. with_flag true (refreshed_change x n w g)) w.tier
refreshed_is x n w = by (is_explicit x.group) refl
  where
    by : (b : Bool) → is_explicit x.group ≡ b → (refreshed_answer x n w).0 ≡ changed (alone x.place) (λ g. with_flag true (refreshed_change x n w g)) w.tier
    by true e =
        ap (λ b. (cond {A = Answer} b (changed (alone x.place) (λ g. with_flag true (added_keys x n w g)) w.tier, only (Done (len (matching (backing_at w n) x)))) (changed (alone x.place) (with_flag true) w.tier, only (Done (len (held_roots x (matching (backing_at w n) x)))))).0) e
        ∙ sym (ap (λ b. changed (alone x.place) (λ g. with_flag true (cond b (added_keys x n w g) g)) w.tier) e)
    by false e =
        ap (λ b. (cond {A = Answer} b (changed (alone x.place) (λ g. with_flag true (added_keys x n w g)) w.tier, only (Done (len (matching (backing_at w n) x)))) (changed (alone x.place) (with_flag true) w.tier, only (Done (len (held_roots x (matching (backing_at w n) x)))))).0) e
        ∙ sym (ap (λ b. changed (alone x.place) (λ g. with_flag true (cond b (added_keys x n w g) g)) w.tier) e)

refreshes_writethrough : (x : Target) → is_read_only x.group ≡ false → GoesPart (StandsAt x.place x.group) (RefreshesWritethrough x)
refreshes_writethrough x kind =
    then_goes (StandsAt x.place x.group) (IsAt x.place x.group) RoundIfUnsettled _ (round_if_at x.place x.group)
    (reads_as_it_was x _
    (λ n. unless_here (IsAt x.place x.group) (λ w. overflow_fault x.filter (judged_roots (backing_at w n) x)) (Settles x (refreshed_answer x n))
    (added_goes x (refreshed_answer x n) (refreshed_change x n) kind (λ w g. alike_where (is_explicit x.group) g _ (keys_alike _ g)) (refreshed_is x n))))

pub refreshes_kept : (load : Load) → KeepsJournal (Refreshes load)
refreshes_kept load w w' early reply stands j apart q ok =
    by_kind q.target (RefreshesReadOnly q.target) (RefreshesWritethrough q.target) (refreshes_read_only q.target) (refreshes_writethrough q.target) w w' early reply j apart (stands, q.group) q.does ok
