-- The console's writes, and the end of the input.
use Rattle.std.proofs.Common.{◌≡◌, ◌⊎◌, inl, inr, ℕ, Bool, true, false, not, ◌&&◌, ◌||◌, nat_eq, Some, Result, Ok, Err, List, [], ◌∷◌, ◌++◌, refl, sym, ap, subst, ◌∙◌, append-nil, eq-eqb, eqb-true}
use Rattle.std.specs.Option.{IsSome, option_and_then}
use Rattle.tier_base.specs.declared.number.TableId.{TableId}
use Rattle.evaluator.specs.declared.change.Change.{Change}
use Rattle.table_state.specs.Copies.{is_one_of}
use Rattle.table_state.specs.declared.history.Entry.{Entry}
use Rattle.table_state.specs.declared.history.Entry.TheVariants.{Foreign}
use Rattle.table_state.specs.declared.history.Sealed.{Sealed}
use Rattle.table_state.specs.declared.operation.Op.{Op}
use Rattle.table_state.specs.Histories.{state_from, state_of}
use Rattle.table_state.specs.Operations.{applied_all, table_of}
use Rattle.table_state.specs.Tables.{TableState}
use Rattle.table_state.proofs.HistoryLaws.{state_of-append}
use Rattle.outside.specs.Bank.{Grows}
use Rattle.outside.specs.Console.{IsDone, Writes, WritesForeign}
use Rattle.outside.specs.Others.{AreOthers, Around, are_on_shared, is_shared}
use Rattle.outside.specs.declared.site.Done.{Done as Wrote}
use Rattle.outside.specs.declared.site.Done.TheVariants.{Rows, Broken}
use Rattle.outside.specs.declared.fault.BankError.{BankError}
use Rattle.outside.specs.declared.fault.BankError.TheVariants.{Failed, Memory}
use Rattle.order_laws.specs.Commits.{is_op_on}
use Rattle.order_laws.specs.Sides.{are_off}
use Rattle.order_laws.specs.Standing.{live_tables}
use Rattle.order_laws.proofs.TruthLaws.{both_true}
use Rattle.cache_tier.specs.ConsoleSteps.{WritesAll}
use Rattle.cache_tier.specs.Events.{at_history}
use Rattle.cache_tier.specs.StandingBetween.{Stands, live_groups_of}
use Rattle.cache_tier.specs.Steps.{Finishes}
use Rattle.cache_tier.specs.Worlds.{IsUnshared, World}
use Rattle.cache_tier.proofs.GroupTables.{live_table}
use Rattle.cache_tier.proofs.HistoryKeeps.{others_go_on}
use Rattle.sql_query.specs.declared.write.Write.{Write}
use Rattle.recovery.specs.Journalled.{IsJournalled, IsJournalledOn}
use Rattle.recovery.proofs.OthersLaws.{on_then, one_journalled_on, others_kept}
use Rattle.recovery.proofs.SafeLaws.{grow_safe, reshared, safely, wayless, without_shared}
use Rattle.line_laws.specs.Keeping.{AreOffLive, KeepsJournalAt, KeepsJournalWhere}
use Rattle.line_laws.proofs.FlushLaws.{kept_flushes, tail_flushed}
use Rattle.line_laws.proofs.OtherLaws.{others_schema}
use Rattle.line_laws.proofs.PartWords.{still_quiet}

-- ---- the end of the input

pub finishes_kept : KeepsJournalAt Finishes
finishes_kept w w' early stop stands j apart q ok = tail_flushed w w' early j (kept_flushes [] w w' stop j.kept q ok).0

-- ---- one transaction of the console's, as of others that change its tables

abbrev own_tables : List Op → List TableId
own_tables [] = []
own_tables (op ∷ ops) = table_of op ∷ own_tables ops

or_true : (b : Bool) → (b || true) ≡ true
or_true true = refl
or_true false = refl

on_more : (shared : List TableId) (t : TableId) (ops : List Op) → are_on_shared shared ops ≡ true → are_on_shared (t ∷ shared) ops ≡ true
on_more shared t [] e = refl
on_more shared t (op ∷ ops) e =
    let (first, rest) = both_true (is_shared shared (table_of op)) (are_on_shared shared ops) e in
    λ i. (ap (λ b. nat_eq t.0 (table_of op).0 || b) first ∙ or_true (nat_eq t.0 (table_of op).0)) i && on_more shared t ops rest i

on_own : (ops : List Op) → are_on_shared (own_tables ops) ops ≡ true
on_own [] = refl
on_own (op ∷ ops) = λ i. ap (λ b. b || is_one_of (own_tables ops) (table_of op)) (eq-eqb (table_of op).0 (table_of op).0 refl) i && on_more (own_tables ops) (table_of op) ops (on_own ops) i

not_false : (b : Bool) → not b ≡ true → b ≡ false
not_false true e = Prim.cc
not_false false e = refl

same_id : (t u : TableId) → nat_eq t.0 u.0 ≡ true → t ≡ u
same_id t u e = λ i. record { 0 = eqb-true t.0 u.0 e i }

own_off : (live : List TableId) (ops : List Op) (t : TableId) → are_off live ops ≡ true → is_shared (own_tables ops) t ≡ true → is_one_of live t ≡ false
own_off live [] t off e = Prim.cc
own_off live (op ∷ ops) t off e = by (nat_eq (table_of op).0 t.0) refl e (own_off live ops t both.1)
  where
    both : (not (is_op_on live op) ≡ true) × (are_off live ops ≡ true)
    both = both_true (not (is_op_on live op)) (are_off live ops) off

    by : (b : Bool) → nat_eq (table_of op).0 t.0 ≡ b → (b || is_shared (own_tables ops) t) ≡ true → (is_shared (own_tables ops) t ≡ true → is_one_of live t ≡ false) → is_one_of live t ≡ false
    by true f e rest = ap (is_one_of live) (sym (same_id (table_of op) t f)) ∙ not_false (is_op_on live op) both.0
    by false f e rest = rest e

leads_to : (h : List Entry) (ops : List Op) (b n : TableState) → state_of h ≡ Some b → applied_all ops b ≡ Some n → (s : TableState) → state_of h ≡ Some s → IsSome (state_of (h ++ Foreign ops ∷ []))
leads_to h ops b n leaves is s e =
    let now : state_of (h ++ Foreign ops ∷ []) ≡ Some n = state_of-append h (Foreign ops ∷ []) ∙ ap (option_and_then (state_from (Foreign ops ∷ []))) leaves ∙ ap (λ o. option_and_then (state_from []) o) is in
    subst IsSome (sym now) refl

-- what these changes do is on no table of a live writethrough group
abbrev pub DoesOffLive : List Change → World → Type 0
DoesOffLive changes w =
    (ops : List Op) (rows : ℕ) (b s : TableState) → state_of w.history ≡ Some b → s.schema ≡ b.schema → IsDone changes ops rows s → are_off (live_tables (live_groups_of w.tier.groups)) ops ≡ true

-- it comes behind what came before, and the way that was asked for goes on
console_comes : (w : World) (early : List Sealed) (ops : List Op) → IsJournalled w early → are_off (live_tables (live_groups_of w.tier.groups)) ops ≡ true → ((s : TableState) → state_of w.history ≡ Some s → IsSome (state_of (w.history ++ Foreign ops ∷ [])))
    → IsJournalledOn (at_history (w.history ++ Foreign ops ∷ []) w) early
console_comes w early ops j off leads = record {
  now = bare.now;
  is = safely (at_history (w.history ++ Foreign ops ∷ []) w) bare.now back (grow_safe w w.tier (Foreign ops) bare.now j.safe back (λ alone. alone));
  more = bare.more;
  grows = bare.grows;
}
  where
    bare : IsJournalledOn (at_history (w.history ++ Foreign ops ∷ []) (reshared (own_tables ops) w)) early
    bare =
        others_kept (reshared (own_tables ops) w) early (Foreign ops ∷ []) w.tier (without_shared w (own_tables ops) early j)
        (λ t e. sym (live_table w.tier.groups t) ∙ own_off (live_tables (live_groups_of w.tier.groups)) ops t off e) (on_own ops, leads, tt) (still_quiet w.tier)

    back : IsJournalled (wayless (at_history (w.history ++ Foreign ops ∷ []) w)) bare.now
    back = without_shared (at_history (w.history ++ Foreign ops ∷ []) (reshared (own_tables ops) w)) w.shared bare.now bare.is

module _ (w w' : World) (early : List Sealed) (stands : Stands w) (j : IsJournalled w early) (apart : IsUnshared w) (changes : List Change) (off : DoesOffLive changes w) (tier : w'.tier ≡ w.tier) (journal : w'.journal ≡ w.journal) (shared : w'.shared ≡ w.shared) where
  came : (rows : ℕ) (before middle behind : List Entry) → AreOthers w.shared w.history before → Writes changes rows (w.history ++ before) middle → AreOthers w.shared middle behind → w'.history ≡ middle ++ behind → IsJournalledOn w' early
  came rows before middle behind came_before own came_behind history =
      let first = others_kept w early before w.tier j apart came_before (still_quiet w.tier) in
      let st = (others_go_on w before stands apart came_before).stands in
      let over = st.flow.stand.over in
      let done = own.done over.backing over.leaves in
      let beside = off own.ops rows stands.flow.stand.over.backing over.backing stands.flow.stand.over.leaves (others_schema w.shared before w.history stands.flow.stand.over.backing over.backing stands.flow.stand.over.leaves came_before over.leaves) done in
      let second = console_comes (at_history (w.history ++ before) w) first.now own.ops first.is beside (leads_to (w.history ++ before) own.ops over.backing done.left over.leaves done.applies) in
      let next : World = at_history ((w.history ++ before) ++ Foreign own.ops ∷ []) w in
      let third = others_kept next second.now behind w.tier second.is apart
      (subst (λ l. AreOthers w.shared l behind) own.grows came_behind) (still_quiet w.tier) in
      let last : World = at_history (((w.history ++ before) ++ Foreign own.ops ∷ []) ++ behind) w in
      one_journalled_on last w' early (record { tier = tier; history = history ∙ ap (λ l. l ++ behind) own.grows; journal = journal; shared = shared })
      (on_then last early first.now first.more first.grows (on_then last first.now second.now second.more second.grows third))

  without : (before middle behind : List Entry) → AreOthers w.shared w.history before → Grows [] (w.history ++ before) middle → AreOthers w.shared middle behind → w'.history ≡ middle ++ behind → IsJournalledOn w' early
  without before middle behind came_before own came_behind history =
      let first = others_kept w early before w.tier j apart came_before (still_quiet w.tier) in
      let same : middle ≡ w.history ++ before = own ∙ append-nil (w.history ++ before) in
      let second = others_kept (at_history (w.history ++ before) w) first.now behind w.tier first.is apart (subst (λ l. AreOthers w.shared l behind) same came_behind) (still_quiet w.tier) in
      let last : World = at_history ((w.history ++ before) ++ behind) w in
      one_journalled_on last w' early (record { tier = tier; history = history ∙ ap (λ l. l ++ behind) same; journal = journal; shared = shared }) (on_then last early first.now first.more first.grows second)

  pub wrote : (result : Result Wrote BankError) → Around w.shared (WritesForeign changes result) w.history w'.history → IsJournalledOn w' early
  wrote (Ok (Rows n)) a = came n a.before a.middle a.behind a.came_before a.own a.came_behind a.is
  wrote (Ok (Broken rule)) a = without a.before a.middle a.behind a.came_before a.own.0 a.came_behind a.is
  wrote (Err Memory) a = without a.before a.middle a.behind a.came_before a.own a.came_behind a.is
  wrote (Err Failed) a = by a.own
    where
      by : Grows [] (w.history ++ a.before) a.middle ⊎ ((n : ℕ) × Writes changes n (w.history ++ a.before) a.middle) → IsJournalledOn w' early
      by (inl own) = without a.before a.middle a.behind a.came_before own a.came_behind a.is
      by (inr own) = came own.0 a.before a.middle a.behind a.came_before own.1 a.came_behind a.is

pub console_kept : (writes : List Write) → KeepsJournalWhere (AreOffLive writes) (WritesAll writes)
console_kept writes w w' early reply stands j apart off q ok =
    wrote w w' early stands j apart q.changes (λ ops rows b s leaves same done. off q.changes ops rows b s q.stand_for leaves same done) q.tier q.call.journal q.call.shared q.result q.call.history
