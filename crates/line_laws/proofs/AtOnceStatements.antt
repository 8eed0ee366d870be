-- COMMIT of synchronous writes.
use Rattle.std.proofs.Common.{◌≡◌, ◌⊎◌, inl, inr, Bool, true, false, Option, Some, None, Result, Ok, Err, List, [], ◌∷◌, ◌++◌, refl, sym, ap, subst, ◌∙◌, arith}
use Rattle.std.specs.Bool.{MatchBool}
use Rattle.row_types.specs.declared.rule.Rule.{Rule}
use Rattle.tier_base.specs.declared.code.Code.TheVariants as code
use Rattle.table_state.specs.declared.history.Entry.{Entry}
use Rattle.table_state.specs.declared.history.Sealed.{Sealed}
use Rattle.table_state.specs.declared.operation.Op.{Op}
use Rattle.table_state.specs.Histories.{entry_of, has_ticket}
use Rattle.outside.specs.Bank.{AppliesOnce, Comes, Grows}
use Rattle.outside.specs.Others.{AreOthers, Around}
use Rattle.outside.specs.declared.site.Applied.{Applied}
use Rattle.outside.specs.declared.site.Applied.TheVariants.{Now, Before, NotReady, Differs}
use Rattle.outside.specs.declared.site.Receipt.{Receipt}
use Rattle.outside.specs.declared.fault.BankError.{BankError}
use Rattle.outside.specs.declared.fault.BankError.TheVariants.{Failed, Memory}
use Rattle.order_laws.specs.Commits.{NoneConflicts, pending}
use Rattle.cache_tier.specs.CommitSteps.{AppliesNow, CommitsAll, CommitsLater, CommitsNow, CommitsOwn, after_applied, committed, ends, is_synchronous_own, sealed_own}
use Rattle.cache_tier.specs.declared.reply.Reply.{Reply}
use Rattle.cache_tier.specs.Events.{at_history}
use Rattle.cache_tier.specs.JournalSteps.{Flushes}
use Rattle.cache_tier.specs.Journals.{Prepares}
use Rattle.cache_tier.specs.JournalWays.{given}
use Rattle.cache_tier.specs.PassedSteps.{with_ticket}
use Rattle.cache_tier.specs.Shown.{no_rows}
use Rattle.cache_tier.specs.StandingBetween.{Stands}
use Rattle.cache_tier.specs.Steps.{tells}
use Rattle.cache_tier.specs.TierStates.{Session, Tier, is_labelled, session_of}
use Rattle.cache_tier.specs.Worlds.{BankCall, Becomes, Follows, IsUnshared, StageFollows, Then, ThenStage, Unless, World}
use Rattle.cache_tier.proofs.HistoryKeeps.{others_go_on}
use Rattle.recovery.specs.Journalled.{IsJournalled, IsJournalledOn, IsPrepared, IsQuiet, IsToldAtOnce}
use Rattle.recovery.proofs.AtOnceLaws.{at_once_kept, prepare_kept}
use Rattle.recovery.proofs.JournalledLaws.{alike_commit, alike_self, found_applies}
use Rattle.recovery.proofs.OthersLaws.{on_then, one_journalled_on, others_kept, reads_kept}
use Rattle.line_laws.specs.Keeping.{KeepsJournalOf, MeetsIfAtOnce, MeetsNone, is_broken}
use Rattle.line_laws.proofs.CommitStatements.{commits_later_kept}
use Rattle.line_laws.proofs.FlushLaws.{IsWhole, kept_flushes}
use Rattle.line_laws.proofs.OtherLaws.{others_pending, others_schema, others_tickets}
use Rattle.line_laws.proofs.PartWords.{IsBeside, quiet_on, same_on, still_quiet, unshared_still}

-- the record of a synchronous commit is flushed, and the ticket drawn
pub prepared : (s : Session) (w m : World) (early : List Sealed) → Stands w → IsJournalled w early → session_of w.tier s.label ≡ Some s → IsWhole (Prepares (sealed_own w.tier s) ∷ []) w m → IsJournalledOn (record w { tier = with_ticket w.tier; journal = m.journal }) early
prepared s w m early stands j there is =
    prepare_kept w early s (with_ticket w.tier) m.journal stands j there (record { kept = is.journal.batch.kept ∙ j.kept; flushed = is.journal.batch.flushed; tail = is.journal.batch.tail; way = is.journal.way }) (still_quiet (with_ticket w.tier))

module _ (s : Session) (w : World) (early : List Sealed) (stands : Stands w) (j : IsJournalled w early) (apart : IsUnshared w) (there : session_of w.tier s.label ≡ Some s) (meets : MeetsNone s w) where
  abbrev x : Sealed
  x = sealed_own w.tier s

  module _ (m : World) (is : IsWhole (Prepares (sealed_own w.tier s) ∷ []) w m) where
    abbrev drawn : World
    drawn = record w { tier = with_ticket w.tier; journal = m.journal }

    on : IsJournalledOn (record w { tier = with_ticket w.tier; journal = m.journal }) early
    on = prepared s w m early stands j there is

    -- nothing of the tier's came
    without : (w' : World) (t : Tier) → Around w.shared (Grows []) w.history w'.history → IsBeside m w' → w'.tier ≡ t → IsQuiet (with_ticket w.tier) t → IsJournalledOn w' early
    without w' t a beside tier quiet =
        let call : BankCall (Grows []) (record w { tier = with_ticket w.tier; journal = m.journal }) (record w { tier = w'.tier; history = w'.history; journal = m.journal }) =
        record { history = a; journal = refl; faults = omega arith; disk = refl; moment = omega arith; shared = refl } in
        let r = reads_kept (record w { tier = with_ticket w.tier; journal = m.journal }) (record w { tier = w'.tier; history = w'.history; journal = m.journal }) on.now on.is apart call (subst (IsQuiet (with_ticket w.tier)) (sym tier) quiet) in
        one_journalled_on (record w { tier = w'.tier; history = w'.history; journal = m.journal }) w' early (record { tier = refl; history = refl; journal = beside.journal; shared = beside.shared ∙ is.shared })
        (on_then (record w { tier = w'.tier; history = w'.history; journal = m.journal }) early on.now on.more on.grows r)

    -- it came, whether the tier has been told or not
    came : (w' : World) (t : Tier) (before middle behind : List Entry) → AreOthers w.shared w.history before → middle ≡ (w.history ++ before) ++ entry_of (sealed_own w.tier s) ∷ [] → AreOthers w.shared middle behind → w'.history ≡ middle ++ behind → IsBeside m w' → w'.tier ≡ t
        → IsToldAtOnce (sealed_own w.tier s) (with_ticket w.tier) t → IsJournalledOn w' early
    came w' t before middle behind came_before own came_behind history beside tier told =
        let first = others_kept (record w { tier = with_ticket w.tier; journal = m.journal }) on.now before (with_ticket w.tier) on.is apart came_before (still_quiet (with_ticket w.tier)) in
        let base : World = record w { tier = with_ticket w.tier; journal = m.journal; history = w.history ++ before } in
        let later = others_go_on w before stands apart came_before in
        let st = later.stands in
        let applies = found_applies st.flow.stand.over.virtual (is_labelled s.label) w.tier.sessions s there st.sessions.virtual in
        let prep : IsPrepared base (sealed_own w.tier s) (given w.journal) = record {
          flushed = is.journal.batch.flushed;
          tail = is.journal.batch.tail;
          below = j.next;
          fresh = others_tickets w.shared before w.history w.tier.next came_before ∙ stands.flow.stand.over.below w.tier.next (omega arith);
          meets = λ b e.
              subst (λ l. NoneConflicts l (pending (w.history ++ before) w.tier.log) (sealed_own w.tier s)) (sym (others_schema w.shared before w.history stands.flow.stand.over.backing b stands.flow.stand.over.leaves came_before e))
              (subst (λ l. NoneConflicts stands.flow.stand.over.backing.schema l (sealed_own w.tier s)) (sym (others_pending w.shared before w.history w.tier.log came_before)) (meets stands.flow.stand.over.backing stands.flow.stand.over.leaves));
          virtual = st.flow.stand.over.virtual;
          virtual_is = st.flow.stand.over.virtual_is;
          left = applies.top;
          leads = applies.leads;
        } in
        let second = at_once_kept base first.now (sealed_own w.tier s) (given w.journal) t first.is prep told in
        let next : World = at_history ((w.history ++ before) ++ entry_of (sealed_own w.tier s) ∷ []) (record base { tier = t }) in
        let third = others_kept next second.now behind t second.is (unshared_still w next apart refl told.groups) (subst (λ l. AreOthers w.shared l behind) own came_behind) (still_quiet t) in
        let last : World = at_history (((w.history ++ before) ++ entry_of (sealed_own w.tier s) ∷ []) ++ behind) (record base { tier = t }) in
        one_journalled_on last w' early (record { tier = tier; history = history ∙ ap (λ l. l ++ behind) own; journal = beside.journal; shared = beside.shared ∙ is.shared })
        (on_then last early on.now on.more on.grows (on_then last on.now first.now first.more first.grows (on_then last first.now second.now second.more second.grows third)))

    committed_told : IsToldAtOnce (sealed_own w.tier s) (with_ticket w.tier) (committed (sealed_own w.tier s) s.label (with_ticket w.tier))
    committed_told = record { log = inr refl; next = omega arith; groups = alike_commit (no_rows (with_ticket w.tier)) s.own w.tier.groups w.tier.groups (alike_self w.tier.groups) }

    never_before : (new : List Entry) (receipt : Receipt) (a : List Entry) → AreOthers w.shared w.history a → AppliesOnce (sealed_own w.tier s) [] (Ok (Before receipt)) (w.history ++ a) new → ⊥
    never_before new receipt a are b =
        let no : has_ticket w.tier.next (w.history ++ a) ≡ false = others_tickets w.shared a w.history w.tier.next are ∙ stands.flow.stand.over.below w.tier.next (omega arith) in
        let bad : true ≡ false = sym b.0 ∙ no in
        Prim.cc

    with_grows : (w' : World) (a : List Entry) (middle behind : List Entry) → AreOthers w.shared w.history a → Grows [] (w.history ++ a) middle → AreOthers w.shared middle behind → w'.history ≡ middle ++ behind → Around w.shared (Grows []) w.history w'.history
    with_grows w' a middle behind before own after is = record { before = a; middle = middle; behind = behind; came_before = before; own = own; came_behind = after; is = is }

    applied_kept : (w' : World) (result : Result Applied BankError) → Around w.shared (AppliesOnce (sealed_own w.tier s) [] result) w.history w'.history → IsBeside m w' → w'.tier ≡ after_applied (sealed_own w.tier s) s.label result (with_ticket w.tier) → IsJournalledOn w' early
    applied_kept w' (Ok (Now receipt)) a beside tier = came w' (committed (sealed_own w.tier s) s.label (with_ticket w.tier)) a.before a.middle a.behind a.came_before a.own.0.grows a.came_behind a.is beside tier committed_told
    applied_kept w' (Ok (Before receipt)) a beside tier = absurd (never_before a.middle receipt a.before a.came_before a.own)
    applied_kept w' (Ok (NotReady ticket)) a beside tier = without w' (with_ticket w.tier) (with_grows w' a.before a.middle a.behind a.came_before a.own.3 a.came_behind a.is) beside tier (still_quiet (with_ticket w.tier))
    applied_kept w' (Ok (Differs table key row)) a beside tier = without w' (with_ticket w.tier) (with_grows w' a.before a.middle a.behind a.came_before a.own.3 a.came_behind a.is) beside tier (still_quiet (with_ticket w.tier))
    applied_kept w' (Err Memory) a beside tier = without w' (with_ticket w.tier) (with_grows w' a.before a.middle a.behind a.came_before a.own a.came_behind a.is) beside tier (still_quiet (with_ticket w.tier))
    applied_kept w' (Err Failed) a beside tier = by a.own
      where
        by : Grows [] (w.history ++ a.before) a.middle ⊎ Comes (sealed_own w.tier s) [] (w.history ++ a.before) a.middle → IsJournalledOn w' early
        by (inl own) = without w' (after_applied (sealed_own w.tier s) s.label (Err Failed) (with_ticket w.tier)) (with_grows w' a.before a.middle a.behind a.came_before own a.came_behind a.is) beside tier
            (record { log = refl; next = omega arith; groups = alike_self w.tier.groups })
        by (inr own) = came w' (after_applied (sealed_own w.tier s) s.label (Err Failed) (with_ticket w.tier)) a.before a.middle a.behind a.came_before own.grows a.came_behind a.is beside tier
            (record { log = inl refl; next = omega arith; groups = alike_self w.tier.groups })

    now_kept : (w' : World) (reply : Reply) → AppliesNow (sealed_own w.tier s) s.label (record m { tier = with_ticket m.tier }) w' reply → IsJournalledOn w' early
    now_kept w' reply q =
        applied_kept w' q.result
        (subst (λ h. Around w.shared (AppliesOnce (sealed_own w.tier s) [] q.result) h w'.history) is.history
        (subst (λ sh. Around sh (AppliesOnce (sealed_own w.tier s) [] q.result) m.history w'.history) is.shared q.call.history))
        (record { journal = q.call.journal; shared = q.call.shared }) (q.tier ∙ ap (λ (t : Tier). after_applied (sealed_own w.tier s) s.label q.result (with_ticket t)) is.tier)

  commits_now : (w' : World) (reply : Reply) → CommitsNow s w w' reply → tells code.JournalFault reply.last ≡ false → IsJournalledOn w' early
  commits_now w' reply q ok = by _ q
    where
      by : (o : Option Rule) → Unless o (Then (ThenStage (Flushes (Prepares (sealed_own w.tier s) ∷ [])) (Becomes (λ mid. with_ticket mid.tier))) (AppliesNow (sealed_own w.tier s) s.label)) w w' reply → IsJournalledOn w' early
      by (Some rule) q = same_on w w' early q.0 j
      by None t = go t.stop t.first t.next
        where
          go : (stop : Option Reply) → ThenStage (Flushes (Prepares (sealed_own w.tier s) ∷ [])) (Becomes (λ mid. with_ticket mid.tier)) w t.mid stop → Follows stop (AppliesNow (sealed_own w.tier s) s.label) t.mid w' reply → IsJournalledOn w' early
          go None first next = inner first.stop first.first first.next
            where
              inner : (end : Option Reply) → Flushes (Prepares (sealed_own w.tier s) ∷ []) w first.mid end → StageFollows end (Becomes (λ mid. with_ticket mid.tier)) first.mid t.mid None → IsJournalledOn w' early
              inner None f step =
                  let is : IsWhole (Prepares (sealed_own w.tier s) ∷ []) w first.mid = (kept_flushes (Prepares (sealed_own w.tier s) ∷ []) w first.mid None j.kept f refl).0 in
                  now_kept first.mid is w' reply (subst (λ x. AppliesNow (sealed_own w.tier s) s.label x w' reply) step.0 next)
              inner (Some e) f step = let bad : None ≡ Some e = step.1 in Prim.cc
          go (Some r) first next = inner first.stop first.first first.next
            where
              inner : (end : Option Reply) → Flushes (Prepares (sealed_own w.tier s) ∷ []) w first.mid end → StageFollows end (Becomes (λ mid. with_ticket mid.tier)) first.mid t.mid (Some r) → IsJournalledOn w' early
              inner None f step = let bad : Some r ≡ None = step.1 in Prim.cc
              inner (Some e) f step =
                  let broken : is_broken (Some e) ≡ false = ap is_broken (sym step.1) ∙ (ap (λ (x : Reply). tells code.JournalFault x.last) (sym next.1) ∙ ok) in
                  let bad : Some e ≡ None = (kept_flushes (Prepares (sealed_own w.tier s) ∷ []) w first.mid (Some e) j.kept f broken).1 in
                  Prim.cc

pub commits_now_kept : (s : Session) → KeepsJournalOf s (MeetsNone s) (CommitsNow s)
commits_now_kept s w w' early reply stands j apart there meets q ok = commits_now s w early stands j apart there meets w' reply q ok

-- COMMIT of either kind
pub commits_kept : (s : Session) → KeepsJournalOf s (MeetsIfAtOnce s) (CommitsAll s)
commits_kept s w w' early reply stands j apart there meets q ok = by s.own q
  where
    by : (own : List Op) → CommitsOwn s own w w' reply → IsJournalledOn w' early
    by [] q = subst (λ x. IsJournalledOn x early) (sym q.0) (quiet_on w early (ends s w.tier) j (record { log = refl; next = omega arith; groups = alike_self w.tier.groups }))
    by (op ∷ ops) q = kind (is_synchronous_own w.tier s) refl q
      where
        kind : (b : Bool) → is_synchronous_own w.tier s ≡ b → MatchBool b (CommitsNow s w w' reply) (CommitsLater s w w' reply) → IsJournalledOn w' early
        kind true e q = commits_now_kept s w w' early reply stands j apart there (meets e) q ok
        kind false e q = commits_later_kept s w w' early reply stands j apart there tt q ok
