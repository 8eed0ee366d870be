-- SELECT, and writes in the cache, where a call of the journal's disk failed in the dynamic load before them.
use Rattle.std.proofs.Common.{◌≡◌, ℕ, Bool, true, false, Option, Some, None, Result, Ok, Err, List, [], ◌∷◌, ◌++◌, slice_get, refl, ap}
use Rattle.std.specs.Bool.{MatchBool}
use Rattle.row_types.specs.declared.value.Value.{Value}
use Rattle.row_types.specs.declared.rule.Rule.{Rule}
use Rattle.tier_base.specs.declared.code.Code.TheVariants as code
use Rattle.tier_base.specs.declared.number.TableId.{TableId}
use Rattle.table_state.specs.declared.history.Entry.{Entry}
use Rattle.table_state.specs.declared.operation.Op.{Op}
use Rattle.table_state.specs.declared.operation.Op.TheVariants.{Insert, Update, Delete}
use Rattle.table_state.specs.Tables.{TableState}
use Rattle.evaluator.specs.declared.plan.Plan.{Plan}
use Rattle.outside.specs.declared.fault.BankError.{BankError}
use Rattle.resolution.specs.Queries.{PlacedQuery}
use Rattle.resolution.specs.Writes.{PlacedChange}
use Rattle.sql_query.specs.declared.query.Query.{Query}
use Rattle.cache_tier.specs.ChangeSteps.{Changes}
use Rattle.cache_tier.specs.DynamicLoads.{Brings, BringsAt, BringsInto, BringsReadOnly, BringsWritethrough, LoadsWanted, joined_tier, state_entries, with_found_at}
use Rattle.cache_tier.specs.Groups.{Group, is_read_only}
use Rattle.cache_tier.specs.InsertSteps.{Finds, Inserts, insert_answer, insert_fault, taken}
use Rattle.cache_tier.specs.JournalSteps.{FlushesSome}
use Rattle.cache_tier.specs.OwnWrites.{apply_fault, written}
use Rattle.cache_tier.specs.Reading.{ReadsFirst, as_it_was, backing_at}
use Rattle.cache_tier.specs.Rounds.{RoundIfUnsettled}
use Rattle.cache_tier.specs.Routes.{Cached, PassedOn, Route}
use Rattle.cache_tier.specs.SelectSteps.{Selects, SelectsBy, SelectsOn, SelectsPlaced, SelectsShown, query_answer}
use Rattle.cache_tier.specs.Sets.{set_tried}
use Rattle.cache_tier.specs.StandingBetween.{Stands}
use Rattle.cache_tier.specs.Steps.{tells}
use Rattle.cache_tier.specs.TierStates.{Session, Tier}
use Rattle.cache_tier.specs.Wants.{Want}
use Rattle.cache_tier.specs.Worlds.{Answer, Becomes, Refuses, ThenStage, Tries, World, unless}
use Rattle.cache_tier.specs.WriteSteps.{WritesBy, WritesEffects, WritesOps, WritesShown}
use Rattle.line_laws.specs.Keeping.{BreaksJournal, IsBrokenOff}
use Rattle.line_laws.proofs.BrokenParts.{BrokenPart, BrokenStage, bank_tells, becomes_broken, never, never_stops, reads_broken, reads_first_broken, tells_broken, then_becomes_broken, then_broken, then_stage_broken, tries_broken, unless_broken}
use Rattle.line_laws.proofs.BrokenRounds.{round_if_broken}
use Rattle.line_laws.proofs.LoadStatements.{StandsAt, round_if_at}
use Rattle.line_laws.proofs.PartWords.{Any, still_quiet}
use Rattle.line_laws.proofs.QueryStatements.{joined_told, loads_wanted, set_stays}
use Rattle.line_laws.proofs.QuietTiers.{set_tried_quiet}
use Rattle.line_laws.proofs.TellingLaws.{IsAt, at_of_tier}

-- ---- a dynamic load

brings_read_only_broken : (place : ℕ) (g : Group) (want : Want) → BrokenStage (IsAt place g) (BringsReadOnly place g want)
brings_read_only_broken place g want =
    reads_first_broken (IsAt place g) (IsAt place g) (set_tried g) (λ n. ThenStage (FlushesSome (state_entries g)) (Becomes (joined_tier place g want n))) (set_tried_quiet g) (set_stays place g)
    (λ n. then_becomes_broken (IsAt place g) (FlushesSome (state_entries g)) (joined_tier place g want n)
    (tells_broken (IsAt place g) (state_entries g) (joined_tier place g want n) (at_of_tier place g) (λ w at apart. joined_told place g want n w at apart)))

brings_writethrough_broken : (place : ℕ) (g : Group) (want : Want) → BrokenStage (StandsAt place g) (BringsWritethrough place want)
brings_writethrough_broken place g want =
    then_stage_broken (StandsAt place g) (IsAt place g) RoundIfUnsettled (ReadsFirst as_it_was (λ n. Becomes (λ w. with_found_at place (backing_at w n) want w.tier))) (round_if_at place g) (round_if_broken place g)
    (reads_first_broken (IsAt place g) Any as_it_was (λ n. Becomes (λ w. with_found_at place (backing_at w n) want w.tier)) still_quiet (λ w w' at e. tt)
    (λ n. becomes_broken Any (λ w. with_found_at place (backing_at w n) want w.tier)))

pub loads_wanted_broken : (want : Option Want) → BrokenStage Stands (LoadsWanted want)
loads_wanted_broken want w w' early stop j apart stands q bad = brings (Rattle.cache_tier.specs.Wants.loaded_want w.history w.tier want) q
  where
    into : (place : ℕ) (o : Option Group) (x : Want) → slice_get w.tier.groups place ≡ o → BringsInto place o x w w' stop → IsBrokenOff w' early
    into place None x e q = never_stops w' early stop None q.1 refl bad
    into place (Some g) x e q = by (is_read_only g) q
      where
        by : (b : Bool) → MatchBool b (BringsReadOnly place g x w w' stop) (BringsWritethrough place x w w' stop) → IsBrokenOff w' early
        by true q = brings_read_only_broken place g x w w' early stop j apart e q bad
        by false q = brings_writethrough_broken place g x w w' early stop j apart (stands, e) q bad

    at : (o : Option ℕ) (x : Want) → BringsAt o w.tier x w w' stop → IsBrokenOff w' early
    at None x q = never_stops w' early stop None q.1 refl bad
    at (Some place) x q = into place (slice_get w.tier.groups place) x refl q

    brings : (o : Option Want) → Brings w.tier o w w' stop → IsBrokenOff w' early
    brings None q = never_stops w' early stop None q.1 refl bad
    brings (Some x) q = at (Rattle.cache_tier.specs.Groups.place_over w.tier.groups x.table) x q

-- ---- SELECT

query_tells : (t after : Tier) (result : Result (List (List Value)) Rule) → tells code.JournalFault (query_answer t after result).1.last ≡ false
query_tells t after (Ok rows) = refl
query_tells t after (Err rule) = refl

selects_on_broken : (placed : PlacedQuery) (state : World → TableState) (after : Plan → World → Tier) → BrokenPart Any (SelectsOn placed state after)
selects_on_broken placed state after w w' early reply j apart p q bad =
    never w' early reply _ q.quiet.1 (query_tells w.tier (after (Rattle.cache_tier.specs.SelectSteps.plan_of q.resolved) w) q.result) bad

selects_by_broken : (route : Route) (s : Session) (placed : PlacedQuery) → BrokenPart Stands (SelectsBy route s placed)
selects_by_broken Cached s placed w w' early reply j apart stands q bad =
    then_broken Stands Any (LoadsWanted (Rattle.cache_tier.specs.Wants.wanted_by_query w.tier placed)) (Tries (SelectsShown s placed)) (loads_wanted (Rattle.cache_tier.specs.Wants.wanted_by_query w.tier placed)) (loads_wanted_broken (Rattle.cache_tier.specs.Wants.wanted_by_query w.tier placed))
    (tries_broken Any (SelectsShown s placed) (selects_on_broken placed _ _)) w w' early reply j apart stands q bad
selects_by_broken PassedOn s placed w w' early reply j apart stands q bad =
    reads_broken Any Any as_it_was (λ n. SelectsOn placed (λ x. backing_at x n) (λ plan x. x.tier)) still_quiet (λ x x' p e. tt) (λ n. selects_on_broken placed (λ x. backing_at x n) (λ plan x. x.tier)) w w' early reply j apart tt q bad

pub selects_broken : (s : Session) (q : Query) → BreaksJournal (Selects s q)
selects_broken s query w w' early reply stands j apart q bad = by _ q
  where
    by : (o : Result PlacedQuery Rule) → SelectsPlaced s o w w' reply → IsBrokenOff w' early
    by (Err rule) q = never w' early reply _ q.1 refl bad
    by (Ok placed) q = selects_by_broken _ s placed w w' early reply j apart stands q bad

-- ---- INSERT, UPDATE, DELETE in the cache

unless_tells : (t : Tier) (o : Option Rule) (answer : Answer) → tells code.JournalFault answer.1.last ≡ false → tells code.JournalFault (unless t o answer).1.last ≡ false
unless_tells t None answer whole = whole
unless_tells t (Some rule) answer whole = refl

changes_broken : (s : Session) (table : TableId) (ops : List Op) → BrokenPart Any (Changes s table ops)
changes_broken s table ops w w' early reply j apart p q bad = never w' early reply _ q.1 (unless_tells w.tier (apply_fault s w ops) (written s table ops w) refl) bad

insert_tells : (s : Session) (w : World) (history : List Entry) (table : TableId) (row : List Value) (result : Result (Option (List Value)) BankError) → tells code.JournalFault (insert_answer s w history table row result).1.last ≡ false
insert_tells s w history table row (Ok found) = unless_tells w.tier (insert_fault s w history table row) (written s table (Insert table row ∷ []) w) refl
insert_tells s w history table row (Err e) = bank_tells e

inserts_broken : (s : Session) (table : TableId) (row : List Value) → BrokenPart Any (Inserts s table row)
inserts_broken s table row w w' early reply j apart p q bad = by _ q
  where
    by : (b : Bool) → MatchBool b (Refuses (taken w.tier table row) w w' reply) (Finds s table row w w' reply) → IsBrokenOff w' early
    by true q = never w' early reply _ q.1 refl bad
    by false q = never w' early reply _ (ap (λ (a : Answer). a.1) q.answer) (insert_tells s w (w.history ++ q.call.history.before) table row q.result) bad

writes_ops_broken : (s : Session) (table : TableId) (ops : List Op) → BrokenPart Any (WritesOps s table ops)
writes_ops_broken s table (Insert t row ∷ []) w w' early reply j apart p q bad = inserts_broken s t row w w' early reply j apart p q bad
writes_ops_broken s table [] w w' early reply j apart p q bad = changes_broken s table [] w w' early reply j apart p q bad
writes_ops_broken s table (Insert t row ∷ op ∷ ops) w w' early reply j apart p q bad = changes_broken s table (Insert t row ∷ op ∷ ops) w w' early reply j apart p q bad
writes_ops_broken s table (Update t old new ∷ ops) w w' early reply j apart p q bad = changes_broken s table (Update t old new ∷ ops) w w' early reply j apart p q bad
writes_ops_broken s table (Delete t old ∷ ops) w w' early reply j apart p q bad = changes_broken s table (Delete t old ∷ ops) w w' early reply j apart p q bad

writes_effects_broken : (s : Session) (table : TableId) (o : Result (List Op) Rule) → BrokenPart Any (WritesEffects s table o)
writes_effects_broken s table (Err rule) w w' early reply j apart p q bad = never w' early reply _ q.1 refl bad
writes_effects_broken s table (Ok ops) w w' early reply j apart p q bad = unless_broken Any (Rattle.cache_tier.specs.Locks.lock_fault s.label w.tier ops) (WritesOps s table ops) (writes_ops_broken s table ops) w w' early reply j apart p q bad

writes_shown_broken : (s : Session) (placed : PlacedChange) → BrokenPart Any (WritesShown s placed)
writes_shown_broken s placed w w' early reply j apart p q bad = writes_effects_broken s placed.table _ w w' early reply j apart p q.writes bad

pub writes_cached_broken : (s : Session) (placed : PlacedChange) → BreaksJournal (WritesBy (Ok Cached) s placed)
writes_cached_broken s placed w w' early reply stands j apart q bad =
    then_broken Stands Any (LoadsWanted (Rattle.cache_tier.specs.Wants.wanted_by_write w.tier placed)) (Tries (WritesShown s placed)) (loads_wanted (Rattle.cache_tier.specs.Wants.wanted_by_write w.tier placed)) (loads_wanted_broken (Rattle.cache_tier.specs.Wants.wanted_by_write w.tier placed))
    (tries_broken Any (WritesShown s placed) (writes_shown_broken s placed)) w w' early reply j apart stands q bad
