-- SELECT, and writes in the cache, with the dynamic load before them.
use Rattle.std.proofs.Common.{◌≡◌, ℕ, suc, ◌+◌, Bool, true, false, cond, ◌&&◌, ◌||◌, Option, Some, None, Result, Ok, Err, List, [], ◌∷◌, slice_get, refl, sym, ap, subst, ◌∙◌, arith}
use Rattle.std.specs.Bool.{MatchBool}
use Rattle.row_types.specs.declared.value.Value.{Value}
use Rattle.row_types.specs.declared.rule.Rule.{Rule}
use Rattle.tier_base.specs.declared.number.TableId.{TableId}
use Rattle.table_state.specs.declared.operation.Op.{Op}
use Rattle.table_state.specs.declared.operation.Op.TheVariants.{Insert, Update, Delete}
use Rattle.table_state.specs.Tables.{TableState}
use Rattle.evaluator.specs.declared.plan.Plan.{Plan}
use Rattle.outside.specs.Bank.{Grows, TellsRow}
use Rattle.table_state.specs.declared.history.Entry.{Entry}
use Rattle.outside.specs.declared.fault.BankError.{BankError}
use Rattle.resolution.specs.Queries.{PlacedQuery}
use Rattle.resolution.specs.Writes.{PlacedChange}
use Rattle.sql_query.specs.declared.query.Query.{Query}
use Rattle.cache_tier.specs.ChangeSteps.{Changes}
use Rattle.cache_tier.specs.DynamicLoads.{Brings, BringsAt, BringsInto, BringsReadOnly, BringsWritethrough, LoadsWanted, joined_tier, state_entries, state_loaded, with_found, with_found_at}
use Rattle.cache_tier.specs.Groups.{Group, covers, is_read_only, is_table_of, is_writethrough}
use Rattle.cache_tier.specs.InsertSteps.{Finds, Inserts, insert_answer, insert_fault, taken}
use Rattle.cache_tier.specs.JournalSteps.{FlushesSome}
use Rattle.cache_tier.specs.OwnWrites.{written}
use Rattle.cache_tier.specs.Reading.{ReadsFirst, as_it_was, backing_at}
use Rattle.cache_tier.specs.Rounds.{RoundIfUnsettled}
use Rattle.cache_tier.specs.Routes.{Cached, PassedOn, Route}
use Rattle.cache_tier.specs.SelectSteps.{Selects, SelectsBy, SelectsOn, SelectsPlaced, SelectsShown, query_answer}
use Rattle.cache_tier.specs.Sets.{Choice, alone, at_position, changed, changed_from, loaded_state, of_set, refreshed, set_tried}
use Rattle.cache_tier.specs.Shown.{over, seen_by}
use Rattle.cache_tier.specs.StandingBetween.{Stands}
use Rattle.cache_tier.specs.TierStates.{Session, Tier}
use Rattle.cache_tier.specs.Wants.{Want}
use Rattle.cache_tier.specs.Worlds.{Answer, Becomes, Quiet, ThenStage, Tries, World}
use Rattle.cache_tier.specs.WriteSteps.{WritesBy, WritesEffects, WritesOps, WritesShown}
use Rattle.cache_tier.specs.Journals.{Commits, Defines, Drops, JournalEntry, Marks, Numbers, Prepares, SetsLoaded, SetsState}
use Rattle.recovery.specs.Journalled.{IsAlike, IsJournalledOn, IsQuiet}
use Rattle.recovery.proofs.JournalledLaws.{alike_self}
use Rattle.line_laws.specs.Keeping.{KeepsJournal}
use Rattle.line_laws.proofs.LoadStatements.{StandsAt, round_if_at}
use Rattle.line_laws.proofs.PartWords.{Any, Goes, GoesPart, GoesStage, becomes_goes, call_goes, quiet_on, reads_first_goes, reads_goes, same_goes, same_on, still_quiet, then_goes, then_stage_goes, tries_goes}
use Rattle.line_laws.proofs.QuietTiers.{alike_changed, quiet_groups, quiet_then, refreshed_quiet, set_tried_groups, set_tried_quiet, use_quiet, writes_quiet}
use Rattle.line_laws.proofs.TellingLaws.{IsAt, Told, at_of_tier, becomes_told, on_told}

-- ---- what is told, and then what no entry tells

told_then : (entries : List JournalEntry) (t t' t'' : Tier) → Told entries t t' → IsQuiet t' t'' → Told entries t t''
told_then [] t t' t'' told quiet = quiet_then t t' t'' told quiet
told_then (SetsState name state ∷ entries) t t' t'' told quiet = told_then entries _ t' t'' told quiet
told_then (SetsLoaded name flag ∷ entries) t t' t'' told quiet = told_then entries _ t' t'' told quiet
told_then (Commits s ∷ entries) t t' t'' told quiet = absurd told
told_then (Prepares s ∷ entries) t t' t'' told quiet = absurd told
told_then (Numbers n ∷ entries) t t' t'' told quiet = absurd told
told_then (Marks n ∷ entries) t t' t'' told quiet = absurd told
told_then (Defines d text ∷ entries) t t' t'' told quiet = absurd told
told_then (Drops name ∷ entries) t t' t'' told quiet = absurd told

tables_same : (chosen : Choice) (change : Group → Group) → ((g : Group) → (change g).def ≡ g.def) → (k : ℕ) (gs : List Group) (u : TableId) → is_table_of is_writethrough gs u ≡ is_table_of is_writethrough (changed_from chosen change k gs) u
tables_same chosen change same k [] u = refl
tables_same chosen change same k (g ∷ gs) u = λ i. by (chosen k g) i || tables_same chosen change same (suc k) gs u i
  where
    seen : Group → Bool
    seen h = is_writethrough h && covers u h

    by : (b : Bool) → (is_writethrough g && covers u g) ≡ (is_writethrough (cond b (change g) g) && covers u (cond b (change g) g))
    by true = λ i. is_writethrough (record (change g) { def = sym (same g) i }) && covers u (record (change g) { def = sym (same g) i })
    by false = refl

-- ---- a dynamic load

found_alike : (s : TableState) (want : Want) (g : Group) → IsAlike g (with_found s want g)
found_alike s want g = record { def = refl; state = λ r. refl; loaded = refl }

found_quiet : (place : ℕ) (s : TableState) (want : Want) (t : Tier) → IsQuiet t (with_found_at place s want t)
found_quiet place s want t = quiet_groups t (changed_from (alone place) (with_found s want) 0 t.groups) (alike_changed (alone place) (with_found s want) (found_alike s want) 0 t.groups)

pub joined_told : (place : ℕ) (g : Group) (want : Want) (n : ℕ) (w : World) → IsAt place g w → Rattle.recovery.proofs.NewestLaws.NamesApart w.tier.groups → Told (state_entries g) w.tier (joined_tier place g want n w)
joined_told place g want n w at apart =
    told_then (state_entries g) w.tier (changed (alone place) state_loaded (refreshed (of_set g.def.interval (Some place)) n (backing_at w n) w.tier)) (joined_tier place g want n w)
    (on_told w.tier (refreshed (of_set g.def.interval (Some place)) n (backing_at w n) w.tier) place g state_loaded at apart (refreshed_quiet (of_set g.def.interval (Some place)) n (backing_at w n) w.tier)
    (λ h a. record { def = a.def; state = λ r. ap loaded_state (a.state r); loaded = a.loaded }))
    (found_quiet place (backing_at w n) want (changed (alone place) state_loaded (refreshed (of_set g.def.interval (Some place)) n (backing_at w n) w.tier)))

joined_tables : (place : ℕ) (g : Group) (want : Want) (n : ℕ) (w : World) (u : TableId) → is_table_of is_writethrough w.tier.groups u ≡ is_table_of is_writethrough (joined_tier place g want n w).groups u
joined_tables place g want n w u =
    let one = changed_from (of_set g.def.interval (Some place)) (at_position n (backing_at w n)) 0 w.tier.groups in
    let two = changed_from (alone place) state_loaded 0 one in
    tables_same (of_set g.def.interval (Some place)) (at_position n (backing_at w n)) (λ h. refl) 0 w.tier.groups u
    ∙ tables_same (alone place) state_loaded (λ h. refl) 0 one u
    ∙ tables_same (alone place) (with_found (backing_at w n) want) (λ h. refl) 0 two u

-- the group stays at its place where the call was tried
pub set_stays : (place : ℕ) (g : Group) (w w' : World) → IsAt place g w → w'.tier ≡ set_tried g w.tier → IsAt place g w'
set_stays place g w w' at e = ap (λ (t : Tier). slice_get t.groups place) e ∙ ap (λ l. slice_get l place) (set_tried_groups g w.tier) ∙ at

brings_read_only : (place : ℕ) (g : Group) (want : Want) → GoesStage (IsAt place g) Any (BringsReadOnly place g want)
brings_read_only place g want =
    reads_first_goes (IsAt place g) (IsAt place g) Any (set_tried g) (λ n. ThenStage (FlushesSome (state_entries g)) (Becomes (joined_tier place g want n))) (set_tried_quiet g) (set_stays place g) (λ w p. tt)
    (λ n. becomes_told (IsAt place g) (state_entries g) (joined_tier place g want n) (at_of_tier place g) (λ w at apart. joined_told place g want n w at apart) (λ w at same u. joined_tables place g want n w u))

brings_writethrough : (place : ℕ) (g : Group) (want : Want) → GoesStage (StandsAt place g) Any (BringsWritethrough place want)
brings_writethrough place g want =
    then_stage_goes (StandsAt place g) (IsAt place g) Any RoundIfUnsettled (ReadsFirst as_it_was (λ n. Becomes (λ w. with_found_at place (backing_at w n) want w.tier))) (λ w p. tt) (round_if_at place g)
    (reads_first_goes (IsAt place g) Any Any as_it_was (λ n. Becomes (λ w. with_found_at place (backing_at w n) want w.tier)) still_quiet (λ w w' at e. tt) (λ w p. tt)
    (λ n. becomes_goes Any Any (λ w. with_found_at place (backing_at w n) want w.tier) (λ w p. found_quiet place (backing_at w n) want w.tier) (λ w p. tt)))

pub loads_wanted : (want : Option Want) → GoesStage Stands Any (LoadsWanted want)
loads_wanted want w w' early stop j apart stands q ok = brings (Rattle.cache_tier.specs.Wants.loaded_want w.history w.tier want) q
  where
    into : (place : ℕ) (o : Option Group) (x : Want) → slice_get w.tier.groups place ≡ o → BringsInto place o x w w' stop → Goes Any w' early
    into place None x e q = same_goes Any w w' early q.0 j apart tt
    into place (Some g) x e q = by (is_read_only g) q
      where
        by : (b : Bool) → MatchBool b (BringsReadOnly place g x w w' stop) (BringsWritethrough place x w w' stop) → Goes Any w' early
        by true q = brings_read_only place g x w w' early stop j apart e q ok
        by false q = brings_writethrough place g x w w' early stop j apart (stands, e) q ok

    at : (o : Option ℕ) (x : Want) → BringsAt o w.tier x w w' stop → Goes Any w' early
    at None x q = same_goes Any w w' early q.0 j apart tt
    at (Some place) x q = into place (slice_get w.tier.groups place) x refl q

    brings : (o : Option Want) → Brings w.tier o w w' stop → Goes Any w' early
    brings None q = same_goes Any w w' early q.0 j apart tt
    brings (Some x) q = at (Rattle.cache_tier.specs.Groups.place_over w.tier.groups x.table) x q

-- ---- SELECT

selects_on : (placed : PlacedQuery) (state : World → TableState) (after : Plan → World → Tier) → ((plan : Plan) (w : World) → IsQuiet w.tier (after plan w)) → GoesPart Any (SelectsOn placed state after)
selects_on placed state after so w w' early reply j apart p q ok = by q.result q.quiet
  where
    by : (result : Result (List (List Value)) Rule) → Quiet (query_answer w.tier (after (Rattle.cache_tier.specs.SelectSteps.plan_of q.resolved) w) result) w w' reply → IsJournalledOn w' early
    by (Ok rows) quiet = subst (λ x. IsJournalledOn x early) (sym quiet.0) (quiet_on w early (after (Rattle.cache_tier.specs.SelectSteps.plan_of q.resolved) w) j (so (Rattle.cache_tier.specs.SelectSteps.plan_of q.resolved) w))
    by (Err rule) quiet = same_on w w' early quiet.0 j

selects_shown : (s : Session) (placed : PlacedQuery) → GoesPart Any (SelectsShown s placed)
selects_shown s placed = selects_on placed _ _ (λ plan w. use_quiet (seen_by s w.history w.tier) _ w.tier)

selects_by : (route : Route) (s : Session) (placed : PlacedQuery) → GoesPart Stands (SelectsBy route s placed)
selects_by Cached s placed w w' early reply j apart stands q ok =
    then_goes Stands Any (LoadsWanted (Rattle.cache_tier.specs.Wants.wanted_by_query w.tier placed)) (Tries (SelectsShown s placed)) (loads_wanted (Rattle.cache_tier.specs.Wants.wanted_by_query w.tier placed)) (tries_goes Any (SelectsShown s placed) (selects_shown s placed)) w w' early reply j apart stands q ok
selects_by PassedOn s placed w w' early reply j apart stands q ok =
    reads_goes Any Any as_it_was (λ n. SelectsOn placed (λ x. backing_at x n) (λ plan x. x.tier)) still_quiet (λ x x' p e. tt) (λ n. selects_on placed (λ x. backing_at x n) (λ plan x. x.tier) (λ plan x. still_quiet x.tier)) w w' early reply j apart tt q ok

pub selects_kept : (s : Session) (q : Query) → KeepsJournal (Selects s q)
selects_kept s query w w' early reply stands j apart q ok = by _ q
  where
    by : (o : Result PlacedQuery Rule) → SelectsPlaced s o w w' reply → IsJournalledOn w' early
    by (Err rule) q = same_on w w' early q.0 j
    by (Ok placed) q = selects_by _ s placed w w' early reply j apart stands q ok

-- ---- INSERT, UPDATE, DELETE in the cache

written_quiet : (s : Session) (table : TableId) (ops : List Op) (w : World) → IsQuiet w.tier (written s table ops w).0
written_quiet s table ops w =
    let t = Rattle.cache_tier.specs.Recency.after_writes over ops (seen_by s w.history w.tier) w.tier in
    quiet_then w.tier t (written s table ops w).0 (writes_quiet over ops (seen_by s w.history w.tier) w.tier) (record { log = refl; next = omega arith; groups = alike_self t.groups })

unless_quiet : (t : Tier) (o : Option Rule) (answer : Answer) → IsQuiet t answer.0 → IsQuiet t (Rattle.cache_tier.specs.Worlds.unless t o answer).0
unless_quiet t None answer quiet = quiet
unless_quiet t (Some rule) answer quiet = still_quiet t

changes_goes : (s : Session) (table : TableId) (ops : List Op) → GoesPart Any (Changes s table ops)
changes_goes s table ops w w' early reply j apart p q ok =
    subst (λ x. IsJournalledOn x early) (sym q.0) (quiet_on w early (Rattle.cache_tier.specs.Worlds.unless w.tier (Rattle.cache_tier.specs.OwnWrites.apply_fault s w ops) (written s table ops w)).0 j
    (unless_quiet w.tier (Rattle.cache_tier.specs.OwnWrites.apply_fault s w ops) (written s table ops w) (written_quiet s table ops w)))

row_quiet : (table : TableId) (key : List Value) (result : Result (Option (List Value)) BankError) (old new : List Entry) → TellsRow table key result old new → Grows [] old new
row_quiet table key (Ok row) old new t = t.0
row_quiet table key (Err e) old new t = t

finds_goes : (s : Session) (table : TableId) (row : List Value) → GoesPart Any (Finds s table row)
finds_goes s table row w w' early reply j apart p q ok =
    (call_goes Any w w' early _ (row_quiet table _ q.result) j apart q.call (subst (IsQuiet w.tier) (sym (ap (λ (a : Answer). a.0) q.answer)) (by q.result)) tt).on
  where
    by : (result : Result (Option (List Value)) BankError) → IsQuiet w.tier (insert_answer s w (Rattle.std.proofs.Common.◌++◌ w.history q.call.history.before) table row result).0
    by (Ok found) = unless_quiet w.tier (insert_fault s w (Rattle.std.proofs.Common.◌++◌ w.history q.call.history.before) table row) (written s table (Insert table row ∷ []) w) (written_quiet s table (Insert table row ∷ []) w)
    by (Err e) = still_quiet w.tier

inserts_goes : (s : Session) (table : TableId) (row : List Value) → GoesPart Any (Inserts s table row)
inserts_goes s table row w w' early reply j apart p q ok = by _ q
  where
    by : (b : Bool) → MatchBool b (Rattle.cache_tier.specs.Worlds.Refuses (taken w.tier table row) w w' reply) (Finds s table row w w' reply) → IsJournalledOn w' early
    by true q = same_on w w' early q.0 j
    by false q = finds_goes s table row w w' early reply j apart p q ok

writes_ops : (s : Session) (table : TableId) (ops : List Op) → GoesPart Any (WritesOps s table ops)
writes_ops s table (Insert t row ∷ []) w w' early reply j apart p q ok = inserts_goes s t row w w' early reply j apart p q ok
writes_ops s table [] w w' early reply j apart p q ok = changes_goes s table [] w w' early reply j apart p q ok
writes_ops s table (Insert t row ∷ op ∷ ops) w w' early reply j apart p q ok = changes_goes s table (Insert t row ∷ op ∷ ops) w w' early reply j apart p q ok
writes_ops s table (Update t old new ∷ ops) w w' early reply j apart p q ok = changes_goes s table (Update t old new ∷ ops) w w' early reply j apart p q ok
writes_ops s table (Delete t old ∷ ops) w w' early reply j apart p q ok = changes_goes s table (Delete t old ∷ ops) w w' early reply j apart p q ok

writes_effects : (s : Session) (table : TableId) (o : Result (List Op) Rule) → GoesPart Any (WritesEffects s table o)
writes_effects s table (Err rule) w w' early reply j apart p q ok = same_on w w' early q.0 j
writes_effects s table (Ok ops) w w' early reply j apart p q ok = Rattle.line_laws.proofs.PartWords.unless_goes Any (Rattle.cache_tier.specs.Locks.lock_fault s.label w.tier ops) (WritesOps s table ops) (writes_ops s table ops) w w' early reply j apart p q ok

writes_shown : (s : Session) (placed : PlacedChange) → GoesPart Any (WritesShown s placed)
writes_shown s placed w w' early reply j apart p q ok = writes_effects s placed.table _ w w' early reply j apart p q.writes ok

pub writes_cached_kept : (s : Session) (placed : PlacedChange) → KeepsJournal (WritesBy (Ok Cached) s placed)
writes_cached_kept s placed w w' early reply stands j apart q ok =
    then_goes Stands Any (LoadsWanted (Rattle.cache_tier.specs.Wants.wanted_by_write w.tier placed)) (Tries (WritesShown s placed)) (loads_wanted (Rattle.cache_tier.specs.Wants.wanted_by_write w.tier placed)) (tries_goes Any (WritesShown s placed) (writes_shown s placed)) w w' early reply j apart stands q ok
