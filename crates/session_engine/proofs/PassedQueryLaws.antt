-- A query that is answered at the backing database.
use Rattle.std.proofs.Common.{◌≡◌, ◌≤◌, ℕ, ◌*◌, Bool, true, false, cond, ◌||◌, nat_eq, Some, Result, Ok, Err, List, [], ◌∷◌, ◌++◌, length, map, take, inl, inr, refl, sym, ap, subst, ◌∙◌, nat_lt}
use Rattle.std.specs.Result.{IsErrOf}
use Rattle.std.specs.FinMap.{empty, len, values}
use Rattle.std.proofs.lemmas.Bool.{eq-eqb}
use Rattle.std.proofs.lemmas.List.{append-nil}
use Rattle.tier_base.specs.Limits.{greatest}
use Rattle.tier_base.specs.declared.code.Code.TheVariants as code
use Rattle.tier_base.specs.declared.limit.Limit.TheVariants.{From, Product}
use Rattle.tier_base.specs.declared.number.TableId.{TableId}
use Rattle.row_types.specs.declared.rule.Refused.{Refused}
use Rattle.row_types.specs.declared.rule.Refused.TheVariants as refused
use Rattle.row_types.specs.declared.rule.Rule.{Rule}
use Rattle.row_types.specs.declared.value.Value.{Value}
use Rattle.table_state.specs.declared.history.Entry.{Entry}
use Rattle.table_state.specs.Copies.{is_one_of}
use Rattle.table_state.specs.Histories.{state_at, state_of}
use Rattle.table_state.specs.Tables.{TableState, table_at}
use Rattle.evaluator.specs.declared.aggregate.Aggregate.{Aggregate}
use Rattle.evaluator.specs.declared.plan.Found.{Found}
use Rattle.evaluator.specs.declared.plan.Plan.{Plan}
use Rattle.evaluator.specs.Queries.{IsOrdered, combinations, found_in, found_on, product, rows_of, within_answer}
use Rattle.evaluator.specs.Rules.{each, limit, then_do}
use Rattle.evaluator.specs.Summaries.{row_of}
use Rattle.outside.specs.Bank.{Grows}
use Rattle.outside.specs.Calls as site
use Rattle.outside.specs.Console.{IsCopyOf, TakesSnapshot}
use Rattle.outside.specs.Faults.{Rose}
use Rattle.outside.specs.Others.{Around}
use Rattle.outside.specs.Sites.{SiteState}
use Rattle.outside.specs.declared.fault.BankError.{BankError}
use Rattle.outside.specs.declared.fault.BankError.TheVariants.{Failed, Memory}
use Rattle.outside.specs.declared.site.Snapshot.{Snapshot}
use Rattle.resolution.specs.declared.resolved.ResolvedQuery.{ResolvedQuery}
use Rattle.resolution.specs.declared.resolved.ResolvedQuery.TheVariants.{Rows, Totals}
use Rattle.resolution.specs.Queries.{query_seen}
use Rattle.cache_tier.specs.declared.reply.Last.TheVariants.{No}
use Rattle.cache_tier.specs.declared.reply.Reply.{Reply}
use Rattle.cache_tier.specs.Events.{StaysShown, at_history}
use Rattle.cache_tier.specs.Reading.{TellsPosition, backing_at, state_or_none}
use Rattle.cache_tier.specs.SelectSteps.{AnswersQuery, SelectsOn, SelectsPassed, plan_of, rows_reply}
use Rattle.cache_tier.specs.Steps.{tells}
use Rattle.cache_tier.specs.Worlds.{BankCall, IsUnshared, Tries, World, bank_fault, faulty, only}
use Rattle.cache_tier.proofs.HistoryKeeps.{around_goes_on, others_go_on}
use Rattle.tier_statements.specs.Answering.{IsAnswerTo}
use Rattle.stored_tier.specs.declared.tier.Tier.{Tier as Stored}
use Rattle.stored_tier.specs.Performing.{IsCaused, IsPerformed, StandsFor, StaysWritten, reply_of}
use Rattle.stored_tier.specs.Sites.{IsAt}
use Rattle.stored_tier.proofs.BankLaws.{TellsBehind, behind, call_behind, told_behind}
use Rattle.stored_tier.proofs.HiddenRows.{hides_later}
use Rattle.stored_tier.proofs.LongerLaws.{read_longer}
use Rattle.stored_tier.proofs.StandingLaws.{performed_behind, slots_kept}
use Rattle.session_engine.specs.Selecting.{PassesQuery}
use Rattle.stored_tier.proofs.OthersLaws.{only_reads}

-- the tables that were asked for are those of the state, and a query reads no other

or_right : (a b : Bool) → b ≡ true → (a || b) ≡ true
or_right true b e = refl
or_right false b e = e

abbrev AllIn : List TableId → List TableId → Type 0
AllIn asked [] = Unit {0}
AllIn asked (t ∷ ts) = (is_one_of asked t ≡ true) × AllIn asked ts

in_more : (t : TableId) (asked ts : List TableId) → AllIn asked ts → AllIn (t ∷ asked) ts
in_more t asked [] all = tt
in_more t asked (u ∷ ts) all = (or_right (nat_eq t.0 u.0) (is_one_of asked u) all.0, in_more t asked ts all.1)

in_all : (ts : List TableId) → AllIn ts ts
in_all [] = tt
in_all (t ∷ ts) = (ap (λ b. b || is_one_of ts t) (eq-eqb t.0 t.0 refl), in_more t ts ts (in_all ts))

module _ (asked : List TableId) (s copy : TableState) (is : IsCopyOf asked s copy) where
  same_table : (t : TableId) → is_one_of asked t ≡ true → table_at copy t ≡ table_at s t
  same_table t e = is.rows t ∙ ap (λ b. cond b (table_at s t) empty) e

  same_rows : (ts : List TableId) → AllIn asked ts → rows_of copy ts ≡ rows_of s ts
  same_rows [] all = refl
  same_rows (t ∷ ts) all = λ i. values (same_table t all.0 i) ∷ same_rows ts all.1 i

  same_combinations : (ts : List TableId) → AllIn asked ts → combinations copy ts ≡ combinations s ts
  same_combinations [] all = refl
  same_combinations (t ∷ ts) all = λ i. len (same_table t all.0 i) * same_combinations ts all.1 i

same_found : (q : Plan) (s copy : TableState) → IsCopyOf q.tables s copy → found_in q copy ≡ found_in q s
same_found q s copy is =
    let rows = same_rows q.tables s copy is q.tables (in_all q.tables) in
    let many = same_combinations q.tables s copy is q.tables (in_all q.tables) in
    λ i. then_do (λ within. each (found_on q) (product (rows i)))
    (cond (nat_lt (greatest From) (length q.tables)) (Err (limit From)) (cond (nat_lt (greatest Product) (many i)) (Err (limit Product)) (Ok tt)))

-- what is answered of what was found
abbrev FoundRows : Plan → List (List Value) → Result (List Found) Rule → Type 0
FoundRows q answer found_all =
    (found ordered : List Found) × (then_do within_answer found_all ≡ Ok found) × IsOrdered q.descending found ordered × (answer ≡ map (λ f. f.listed) ordered)

abbrev FoundRow : List Aggregate → List (List Value) → Result (List Found) Rule → Type 0
FoundRow totals rows found_all = (row : List Value) × (then_do (row_of totals) found_all ≡ Ok row) × (rows ≡ row ∷ [])

pub same_answers : (query : ResolvedQuery) (s copy : TableState) → IsCopyOf (plan_of query).tables s copy → (r : Result (List (List Value)) Rule) → AnswersQuery query copy r → AnswersQuery query s r
same_answers (Rows plan) s copy is (Ok rows) a = subst (FoundRows plan rows) (same_found plan s copy is) a
same_answers (Rows plan) s copy is (Err rule) a = sym (ap (then_do within_answer) (same_found plan s copy is)) ∙ a
same_answers (Totals totals plan) s copy is (Ok rows) a = subst (FoundRow totals rows) (same_found plan s copy is) a
same_answers (Totals totals plan) s copy is (Err rule) a = sym (ap (then_do (row_of totals)) (same_found plan s copy is)) ∙ a

-- a front of a history

take_front : {X : Type 0} (xs ys : List X) → take (length xs) (xs ++ ys) ≡ xs
take_front [] ys = refl
take_front (x ∷ xs) ys = ap (λ l. x ∷ l) (take_front xs ys)

snapshot_grows : (asked : List TableId) (result : Result Snapshot BankError) (a b : List Entry) → TakesSnapshot asked result a b → Grows [] a b
snapshot_grows asked (Ok snapshot) a b s = s.0
snapshot_grows asked (Err e) a b s = s

-- the call, as it is told
pub record CopiedAt (asked : List TableId) (before after : SiteState) (result : Result Snapshot BankError) : Type 0 where
  pub told : site.Told before.held after.held (site.BankCall before.shared (TakesSnapshot asked result))
  pub later : before.bank_faults ≤ after.bank_faults
  pub moment : before.moment ≤ after.moment
  pub shares : after.shared ≡ before.shared

weaker_around : (shared : List TableId) (one other : List Entry → List Entry → Type 0) (old new : List Entry) → ((a b : List Entry) → one a b → other a b) → Around shared one old new → Around shared other old new
weaker_around shared one other old new weaker a = record {
  before = a.before;
  middle = a.middle;
  behind = a.behind;
  came_before = a.came_before;
  own = weaker (old ++ a.before) a.middle a.own;
  came_behind = a.came_behind;
  is = a.is;
}

weaker_call : (one other : List Entry → List Entry → Type 0) (w w' : World) → ((a b : List Entry) → one a b → other a b) → BankCall one w w' → BankCall other w w'
weaker_call one other w w' weaker c = record {
  history = weaker_around w.shared one other w.history w'.history weaker c.history;
  journal = c.journal;
  faults = c.faults;
  disk = c.disk;
  moment = c.moment;
  shared = c.shared;
}

-- what is said of the worlds
abbrev PassedOver : ResolvedQuery → World → Reply → World → Type 0
PassedOver query w reply w' = Tries (SelectsPassed (query_seen query)) w w' reply × StaysWritten w w'

module _ (t : Stored) (asked : List TableId) (before after : SiteState) (result : Result Snapshot BankError) (called : CopiedAt asked before after result) (w : World) (at : IsAt before w) (stands : StandsFor t w) (apart : IsUnshared w) where
  now : TellsBehind at.there after.held (site.BankCall before.shared (TakesSnapshot asked result))
  now = told_behind at.there before.held after.held (site.BankCall before.shared (TakesSnapshot asked result)) at.told called.told

  abbrev mid : World
  mid = behind w w.tier now.there after

  call : BankCall (TakesSnapshot asked result) w (behind w w.tier now.there after)
  call = call_behind w w.tier before after now.there (TakesSnapshot asked result) at now.is called.later called.moment

  still : StaysShown w (at_history now.there.history w)
  still = around_goes_on w now.there.history stands.stands apart (only_reads w.shared (TakesSnapshot asked result) w.history now.there.history (snapshot_grows asked result) call.history)

  passed : (does : World → Type 0) → does mid → IsPerformed t after does
  passed does is = performed_behind t before after w w.tier now.there does at now.told called.shares stands.waits stands.stored (stands.shows ∙ sym still.same)
      (hides_later t w now.there.history stands (read_longer w (TakesSnapshot asked result) now.there.history (snapshot_grows asked result) call.history)) still.stands is

  -- the position of the copy
  reads : (query : ResolvedQuery) (reply : Reply) (told : Result ℕ BankError) → ((a b : List Entry) → TakesSnapshot asked result a b → TellsPosition told a b)
      → Rattle.cache_tier.specs.Reading.FollowsAt told (λ n. SelectsOn (query_seen query) (λ v. backing_at v n) (λ plan v. v.tier)) mid mid reply → IsPerformed t after (PassedOver query w reply)
  reads query reply told tells goes =
      passed (PassedOver query w reply)
      (inl (record { result = told; mid = mid; call = weaker_call (TakesSnapshot asked result) (TellsPosition told) w mid tells call; tier = refl; goes_on = goes }), record { journal = refl; schema = refl })

pub passed_failed : (t : Stored) (query : ResolvedQuery) (asked : List TableId) (before after : SiteState) (e : BankError) (reply : Reply) → CopiedAt asked before after (Err e) → reply ≡ bank_fault e → PassesQuery t before after query (Ok reply)
passed_failed t query asked before after e reply called is w at stands apart =
    reads t asked before after (Err e) called w at stands apart query reply (Err e) (λ a b s. s) (refl, is)

-- the copy is one of the state at the position
module _ (t : Stored) (query : ResolvedQuery) (before after : SiteState) (snapshot : Snapshot) (called : CopiedAt (plan_of query).tables before after (Ok snapshot)) (w : World) (at : IsAt before w) (stands : StandsFor t w) (apart : IsUnshared w) where
  abbrev asked_for : List TableId
  asked_for = (plan_of query).tables

  abbrev there_now : TellsBehind at.there after.held (site.BankCall before.shared (TakesSnapshot (plan_of query).tables (Ok snapshot)))
  there_now = now t (plan_of query).tables before after (Ok snapshot) called w at stands apart

  abbrev behind_it : World
  behind_it = behind w w.tier there_now.there after

  around : Around w.shared (TakesSnapshot (plan_of query).tables (Ok snapshot)) w.history there_now.there.history
  around = (call t (plan_of query).tables before after (Ok snapshot) called w at stands apart).history

  first : StaysShown w (at_history (w.history ++ around.before) w)
  first = others_go_on w around.before stands.stands apart around.came_before

  abbrev state : TableState
  state = first.stands.flow.stand.over.backing

  there : state_of around.middle ≡ Some state
  there = ap state_of (around.own.0 ∙ append-nil (w.history ++ around.before)) ∙ first.stands.flow.stand.over.leaves

  at_it : state_at there_now.there.history snapshot.position.0 ≡ Some state
  at_it =
      ap (state_at there_now.there.history) around.own.1
      ∙ ap (λ h. state_at h (length around.middle)) around.is
      ∙ ap state_of (take_front around.middle around.behind)
      ∙ there

  copy : IsCopyOf (plan_of query).tables state snapshot.tables
  copy = around.own.2 state there

  backing : backing_at behind_it snapshot.position.0 ≡ state
  backing = ap state_or_none at_it

  answers_there : (r : Result (List (List Value)) Rule) → AnswersQuery query snapshot.tables r → AnswersQuery query (backing_at behind_it snapshot.position.0) r
  answers_there r a = subst (λ s. AnswersQuery query s r) (sym backing) (same_answers query state snapshot.tables copy r a)

  by_answer : (r : Result Reply Refused) → IsAnswerTo query snapshot.tables r → Tries (SelectsOn (query_seen query) (λ v. backing_at v snapshot.position.0) (λ plan v. v.tier)) behind_it behind_it (reply_of r)
  by_answer (Ok reply) a = inl (record { resolved = query; stands_for = refl; result = Ok a.rows; answers = answers_there (Ok a.rows) a.answers; quiet = (refl, a.is) })
  by_answer (Err (refused.Rule rule)) a = inl (record { resolved = query; stands_for = refl; result = Err rule; answers = answers_there (Err rule) a; quiet = (refl, refl) })
  by_answer (Err refused.Memory) a = inr (refl, refl)

  answered_so : (r : Result Reply Refused) → IsAnswerTo query snapshot.tables r → IsPerformed t after (PassedOver query w (reply_of r))
  answered_so r a = reads t (plan_of query).tables before after (Ok snapshot) called w at stands apart query (reply_of r) (Ok snapshot.position.0) (λ o n s. (s.0, s.1)) (by_answer r a)

pub passed_answered : (t : Stored) (query : ResolvedQuery) (before after : SiteState) (snapshot : Snapshot) (r : Result Reply Refused) → CopiedAt (plan_of query).tables before after (Ok snapshot) → IsAnswerTo query snapshot.tables r → PassesQuery t before after query r
passed_answered t query before after snapshot r called a w at stands apart = answered_so t query before after snapshot called w at stands apart r a

-- the tables of a query are those of its plan
pub tables_are : (query : ResolvedQuery) → (query_seen query).tables ≡ (plan_of query).tables
tables_are (Rows plan) = refl
tables_are (Totals totals plan) = refl

pub copied_as : (query : ResolvedQuery) (asked : List TableId) (before after : SiteState) (result : Result Snapshot BankError) → asked ≡ (query_seen query).tables → CopiedAt asked before after result → CopiedAt (plan_of query).tables before after result
copied_as query asked before after result is called = subst (λ ts. CopiedAt ts before after result) (is ∙ tables_are query) called

-- what is told of the call

caused : (asked : List TableId) (before after : SiteState) (result : Result Snapshot BankError) (reply : Reply) → CopiedAt asked before after result → reply.notes ≡ [] → (tells code.BackingFault reply.last ≡ true → Rose before.bank_faults after.bank_faults) → tells code.JournalFault reply.last ≡ false → IsCaused before after reply
caused asked before after result reply called bare bank disk = record {
  later = called.later;
  moment = called.moment;
  shares = called.shares;
  slots = slots_kept before.held after.held (site.BankCall before.shared (TakesSnapshot asked result)) (λ o n step. step.slots) called.told;
  bare = bare;
  bank = bank;
  disk = disk;
}

pub failed_cause : (asked : List TableId) (before after : SiteState) (e : BankError) (result : Result Snapshot BankError) (reply : Reply) → result ≡ Err e → CopiedAt asked before after result → reply ≡ bank_fault e → (IsErrOf result Failed → Rose before.bank_faults after.bank_faults) → IsCaused before after reply
failed_cause asked before after Failed result reply err called is rose =
    subst (IsCaused before after) (sym is) (caused asked before after result (faulty code.BackingFault) called refl (λ told. subst (λ r. IsErrOf r Failed → Rose before.bank_faults after.bank_faults) err rose refl) refl)
failed_cause asked before after Memory result reply err called is rose =
    subst (IsCaused before after) (sym is) (caused asked before after result (faulty code.Memory) called refl (λ told. cc) refl)

-- an answer tells no fault
pub answered_cause : (query : ResolvedQuery) (asked : List TableId) (s : TableState) (before after : SiteState) (result : Result Snapshot BankError) (r : Result Reply Refused) → CopiedAt asked before after result → IsAnswerTo query s r → IsCaused before after (reply_of r)
answered_cause query asked s before after result (Ok reply) called a =
    subst (IsCaused before after) (sym a.is) (caused asked before after result (rows_reply a.rows) called refl (λ told. cc) refl)
answered_cause query asked s before after result (Err (refused.Rule rule)) called a = caused asked before after result (only (No rule)) called refl (λ told. cc) refl
answered_cause query asked s before after result (Err refused.Memory) called a = caused asked before after result (faulty code.Memory) called refl (λ told. cc) refl
