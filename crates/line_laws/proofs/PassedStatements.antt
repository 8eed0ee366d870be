-- A write that is passed on.
use Rattle.std.proofs.Common.{◌≡◌, ◌⊎◌, inl, inr, ℕ, false, Option, Some, None, Result, Ok, Err, List, [], ◌∷◌, ◌++◌, refl, sym, ap, subst, ◌∙◌, arith}
use Rattle.row_types.specs.declared.rule.Rule.{Rule}
use Rattle.tier_base.specs.declared.code.Code.TheVariants as code
use Rattle.table_state.specs.declared.history.Entry.{Entry}
use Rattle.table_state.specs.declared.history.Sealed.{Sealed}
use Rattle.table_state.specs.declared.operation.Op.{Op}
use Rattle.table_state.specs.Histories.{entry_of}
use Rattle.evaluator.specs.declared.change.Change.{Change}
use Rattle.outside.specs.declared.site.Done.{Done as Wrote}
use Rattle.outside.specs.declared.site.Done.TheVariants.{Rows, Broken}
use Rattle.outside.specs.Bank.{Grows}
use Rattle.outside.specs.Others.{AreOthers, Around}
use Rattle.outside.specs.declared.fault.BankError.{BankError}
use Rattle.outside.specs.declared.fault.BankError.TheVariants.{Failed, Memory}
use Rattle.resolution.specs.Writes.{PlacedChange, change_seen}
use Rattle.order_laws.specs.Commits.{NoneConflicts, pending}
use Rattle.order_laws.specs.Sides.{IsClosed}
use Rattle.order_laws.specs.Standing.{live_tables}
use Rattle.order_laws.proofs.AtOnceLaws.{applies_behind_pending, sides_conflict_not}
use Rattle.order_laws.proofs.CommittingLaws.{schemas_same}
use Rattle.order_laws.proofs.SideLaws.{side_off}
use Rattle.order_laws.proofs.TruthLaws.{same_some}
use Rattle.cache_tier.specs.declared.reply.Reply.{Reply}
use Rattle.cache_tier.specs.Events.{at_history}
use Rattle.cache_tier.specs.JournalSteps.{Flushes}
use Rattle.cache_tier.specs.Journals.{Numbers}
use Rattle.cache_tier.specs.JournalWays.{given}
use Rattle.cache_tier.specs.PassedSteps.{PassesOn, WritesPassed, after_passed, with_ticket}
use Rattle.outside.specs.Passing.{PassesWrite, WritesOwn}
use Rattle.cache_tier.specs.StandingBetween.{Stands, live_groups_of}
use Rattle.cache_tier.specs.Steps.{tells}
use Rattle.cache_tier.specs.TierStates.{Session, Tier}
use Rattle.cache_tier.specs.Worlds.{BankCall, Becomes, Follows, IsUnshared, StageFollows, Then, ThenStage, Unless, World}
use Rattle.cache_tier.proofs.HistoryKeeps.{others_go_on}
use Rattle.cache_tier.proofs.SessionLaws.{known}
use Rattle.recovery.specs.Journalled.{IsJournalled, IsJournalledOn, IsNumbered, IsQuiet, IsToldAtOnce}
use Rattle.recovery.proofs.AtOnceLaws.{number_kept, passed_kept}
use Rattle.recovery.proofs.JournalledLaws.{alike_self}
use Rattle.recovery.proofs.OthersLaws.{on_then, one_journalled_on, others_kept, reads_kept}
use Rattle.line_laws.specs.Keeping.{IsOffLive, KeepsJournalWhere, is_broken}
use Rattle.line_laws.proofs.FlushLaws.{IsWhole, kept_flushes}
use Rattle.line_laws.proofs.OtherLaws.{others_schema, others_tickets}
use Rattle.line_laws.proofs.PartWords.{IsBeside, same_on, still_quiet, unshared_still}

abbrev numbered : ℕ → List Op → Sealed
numbered ticket ops = record { ticket = record { 0 = ticket }; ops = ops }

-- the number of a write that is passed on is flushed, and the ticket drawn
pub number_flushed : (w m : World) (early : List Sealed) → Stands w → IsJournalled w early → IsWhole (Numbers w.tier.next ∷ []) w m → IsJournalledOn (record w { tier = with_ticket w.tier; journal = m.journal }) early
number_flushed w m early stands j is =
    number_kept w early (with_ticket w.tier) m.journal stands j (record { kept = is.journal.batch.kept ∙ j.kept; flushed = is.journal.batch.flushed; tail = is.journal.batch.tail; way = is.journal.way }) (still_quiet (with_ticket w.tier))

module _ (placed : PlacedChange) (w : World) (early : List Sealed) (stands : Stands w) (j : IsJournalled w early) (apart : IsUnshared w) (off : IsOffLive placed w) (m : World) (is : IsWhole (Numbers w.tier.next ∷ []) w m) where
  on : IsJournalledOn (record w { tier = with_ticket w.tier; journal = m.journal }) early
  on = number_flushed w m early stands j is

  -- nothing came
  without : (w' : World) (t : Tier) (before middle behind : List Entry) → AreOthers w.shared w.history before → Grows [] (w.history ++ before) middle → AreOthers w.shared middle behind → w'.history ≡ middle ++ behind → IsBeside m w' → w'.tier ≡ t → IsQuiet (with_ticket w.tier) t → IsJournalledOn w' early
  without w' t before middle behind came_before own came_behind history beside tier quiet =
      let call : BankCall (Grows []) (record w { tier = with_ticket w.tier; journal = m.journal }) (record w { tier = w'.tier; history = w'.history; journal = m.journal }) =
      record { history = record { before = before; middle = middle; behind = behind; came_before = came_before; own = own; came_behind = came_behind; is = history }; journal = refl; faults = omega arith; disk = refl; moment = omega arith; shared = refl } in
      let r = reads_kept (record w { tier = with_ticket w.tier; journal = m.journal }) (record w { tier = w'.tier; history = w'.history; journal = m.journal }) on.now on.is apart call (subst (IsQuiet (with_ticket w.tier)) (sym tier) quiet) in
      one_journalled_on (record w { tier = w'.tier; history = w'.history; journal = m.journal }) w' early (record { tier = refl; history = refl; journal = beside.journal; shared = beside.shared ∙ is.shared })
      (on_then (record w { tier = w'.tier; history = w'.history; journal = m.journal }) early on.now on.more on.grows r)

  -- it came, whether the tier has been told or not
  came : (w' : World) (t : Tier) (change : Change) (ops : List Op) (rows : ℕ) (before middle behind : List Entry) → change_seen change ≡ placed → AreOthers w.shared w.history before → WritesOwn w.tier.next change ops rows (w.history ++ before) middle
      → AreOthers w.shared middle behind → w'.history ≡ middle ++ behind → IsBeside m w' → w'.tier ≡ t → IsToldAtOnce (numbered w.tier.next ops) (with_ticket w.tier) t → IsJournalledOn w' early
  came w' t change ops rows before middle behind seen came_before own came_behind history still tier told =
      let first = others_kept (record w { tier = with_ticket w.tier; journal = m.journal }) on.now before (with_ticket w.tier) on.is apart came_before (still_quiet (with_ticket w.tier)) in
      let base : World = record w { tier = with_ticket w.tier; journal = m.journal; history = w.history ++ before } in
      let st = (others_go_on w before stands apart came_before).stands in
      let over = st.flow.stand.over in
      let done = own.done over.backing over.leaves in
      let beside = off change ops rows stands.flow.stand.over.backing over.backing seen stands.flow.stand.over.leaves (others_schema w.shared before w.history stands.flow.stand.over.backing over.backing stands.flow.stand.over.leaves came_before over.leaves) done in
      let closed : IsClosed (live_tables (live_groups_of w.tier.groups)) over.backing.schema =
      subst (IsClosed (live_tables (live_groups_of w.tier.groups))) (schemas_same (w.history ++ before) w.tier.log over.backing over.virtual over.leaves over.virtual_is) (known (at_history (w.history ++ before) w) st).closed in
      let meets : NoneConflicts over.backing.schema (pending (w.history ++ before) w.tier.log) (numbered w.tier.next ops) =
      sides_conflict_not (live_tables (live_groups_of w.tier.groups)) over.backing.schema closed (pending (w.history ++ before) w.tier.log) (numbered w.tier.next ops) st.flow.stand.live (side_off (live_tables (live_groups_of w.tier.groups)) ops beside) in
      let leads = applies_behind_pending (live_groups_of w.tier.groups) (w.history ++ before) w.tier.log w.tier.next over (numbered w.tier.next ops) done.left meets done.applies in
      let prep : IsNumbered base (numbered w.tier.next ops) (given w.journal) = record {
        flushed = is.journal.batch.flushed;
        tail = is.journal.batch.tail;
        below = j.next;
        fresh = others_tickets w.shared before w.history w.tier.next came_before ∙ stands.flow.stand.over.below w.tier.next (omega arith);
        meets = λ b e. subst (λ x. NoneConflicts (x.schema) (pending (w.history ++ before) w.tier.log) (numbered w.tier.next ops)) (same_some (sym over.leaves ∙ e)) meets;
        virtual = over.virtual;
        virtual_is = over.virtual_is;
        left = leads.0;
        leads = leads.1;
      } in
      let second = passed_kept base first.now (numbered w.tier.next ops) (given w.journal) t first.is prep told in
      let next : World = at_history ((w.history ++ before) ++ entry_of (numbered w.tier.next ops) ∷ []) (record base { tier = t }) in
      let third = others_kept next second.now behind t second.is (unshared_still w next apart refl told.groups) (subst (λ l. AreOthers w.shared l behind) own.grows came_behind) (still_quiet t) in
      let last : World = at_history (((w.history ++ before) ++ entry_of (numbered w.tier.next ops) ∷ []) ++ behind) (record base { tier = t }) in
      one_journalled_on last w' early (record { tier = tier; history = history ∙ ap (λ l. l ++ behind) own.grows; journal = still.journal; shared = still.shared ∙ is.shared })
      (on_then last early on.now on.more on.grows (on_then last on.now first.now first.more first.grows (on_then last first.now second.now second.more second.grows third)))

  rows_told : (ops : List Op) (t : Tier) → IsToldAtOnce (numbered w.tier.next ops) (with_ticket w.tier) (record (with_ticket w.tier) { log = w.tier.log ++ numbered w.tier.next ops ∷ [] })
  rows_told ops t = record { log = inr refl; next = omega arith; groups = alike_self w.tier.groups }

  passed : (s : Session) (w' : World) (change : Change) (ops : List Op) → change_seen change ≡ placed → (result : Result Wrote BankError) → Around w.shared (PassesWrite w.tier.next change ops result) w.history w'.history → IsBeside m w' → w'.tier ≡ after_passed s w.tier.next ops result (with_ticket w.tier) → IsJournalledOn w' early
  passed s w' change ops seen (Ok (Rows n)) a beside tier = came w' (after_passed s w.tier.next ops (Ok (Rows n)) (with_ticket w.tier)) change ops n a.before a.middle a.behind seen a.came_before a.own a.came_behind a.is beside tier (rows_told ops w.tier)
  passed s w' change ops seen (Ok (Broken rule)) a beside tier = without w' (with_ticket w.tier) a.before a.middle a.behind a.came_before a.own.0 a.came_behind a.is beside tier (still_quiet (with_ticket w.tier))
  passed s w' change ops seen (Err Memory) a beside tier = without w' (with_ticket w.tier) a.before a.middle a.behind a.came_before a.own a.came_behind a.is beside tier (still_quiet (with_ticket w.tier))
  passed s w' change ops seen (Err Failed) a beside tier = by a.own
    where
      by : Grows [] (w.history ++ a.before) a.middle ⊎ ((n : ℕ) × WritesOwn w.tier.next change ops n (w.history ++ a.before) a.middle) → IsJournalledOn w' early
      by (inl own) = without w' (after_passed s w.tier.next ops (Err Failed) (with_ticket w.tier)) a.before a.middle a.behind a.came_before own a.came_behind a.is beside tier
          (record { log = refl; next = omega arith; groups = alike_self w.tier.groups })
      by (inr own) = came w' (after_passed s w.tier.next ops (Err Failed) (with_ticket w.tier)) change ops own.0 a.before a.middle a.behind seen a.came_before own.1 a.came_behind a.is beside tier
          (record { log = inl refl; next = omega arith; groups = alike_self w.tier.groups })

  passed_on : (s : Session) (w' : World) (reply : Reply) → WritesPassed s w.tier.next placed (record m { tier = with_ticket m.tier }) w' reply → IsJournalledOn w' early
  passed_on s w' reply q =
      passed s w' q.change q.ops q.stands_for q.result
      (subst (λ h. Around w.shared (PassesWrite w.tier.next q.change q.ops q.result) h w'.history) is.history
      (subst (λ sh. Around sh (PassesWrite w.tier.next q.change q.ops q.result) m.history w'.history) is.shared q.call.history))
      (record { journal = q.call.journal; shared = q.call.shared }) (q.tier ∙ ap (λ (t : Tier). after_passed s w.tier.next q.ops q.result (with_ticket t)) is.tier)

pub passes_on_kept : (s : Session) (placed : PlacedChange) → KeepsJournalWhere (IsOffLive placed) (PassesOn s placed)
passes_on_kept s placed w w' early reply stands j apart off q ok = by _ q
  where
    by : (o : Option Rule) → Unless o (Then (ThenStage (Flushes (Numbers w.tier.next ∷ [])) (Becomes (λ mid. with_ticket mid.tier))) (WritesPassed s w.tier.next placed)) w w' reply → IsJournalledOn w' early
    by (Some rule) q = same_on w w' early q.0 j
    by None t = go t.stop t.first t.next
      where
        go : (stop : Option Reply) → ThenStage (Flushes (Numbers w.tier.next ∷ [])) (Becomes (λ mid. with_ticket mid.tier)) w t.mid stop → Follows stop (WritesPassed s w.tier.next placed) t.mid w' reply → IsJournalledOn w' early
        go None first next = inner first.stop first.first first.next
          where
            inner : (end : Option Reply) → Flushes (Numbers w.tier.next ∷ []) w first.mid end → StageFollows end (Becomes (λ mid. with_ticket mid.tier)) first.mid t.mid None → IsJournalledOn w' early
            inner None f step =
                let is : IsWhole (Numbers w.tier.next ∷ []) w first.mid = (kept_flushes (Numbers w.tier.next ∷ []) w first.mid None j.kept f refl).0 in
                passed_on placed w early stands j apart off first.mid is s w' reply (subst (λ x. WritesPassed s w.tier.next placed x w' reply) step.0 next)
            inner (Some e) f step = let bad : None ≡ Some e = step.1 in Prim.cc
        go (Some r) first next = inner first.stop first.first first.next
          where
            inner : (end : Option Reply) → Flushes (Numbers w.tier.next ∷ []) w first.mid end → StageFollows end (Becomes (λ mid. with_ticket mid.tier)) first.mid t.mid (Some r) → IsJournalledOn w' early
            inner None f step = let bad : Some r ≡ None = step.1 in Prim.cc
            inner (Some e) f step =
                let broken : is_broken (Some e) ≡ false = ap is_broken (sym step.1) ∙ (ap (λ (x : Reply). tells code.JournalFault x.last) (sym next.1) ∙ ok) in
                let bad : Some e ≡ None = (kept_flushes (Numbers w.tier.next ∷ []) w first.mid (Some e) j.kept f broken).1 in
                Prim.cc
