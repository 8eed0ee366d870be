-- CREATE TABLE, and what is due before a line.
use Rattle.std.proofs.Common.{◌≡◌, ◌⊎◌, inl, inr, ℕ, ◌≤◌, Bool, true, false, cond, ◌||◌, nat_eq, Option, Some, None, Result, Ok, Err, List, [], ◌∷◌, ◌++◌, refl, sym, ap, subst, ◌∙◌, arith, append-nil, eqb-true}
use Rattle.tier_base.specs.declared.code.Code.{Code}
use Rattle.tier_base.specs.declared.code.Code.TheVariants as code
use Rattle.tier_base.specs.Codes.{number_of}
use Rattle.table_defs.specs.declared.definition.TableDef.{TableDef}
use Rattle.table_state.specs.declared.history.Entry.{Entry}
use Rattle.table_state.specs.declared.history.Entry.TheVariants.{Definition}
use Rattle.table_state.specs.declared.history.Sealed.{Sealed}
use Rattle.table_state.specs.Histories.{has_ticket}
use Rattle.outside.specs.Bank.{Defines, Grows, TellsRecorded}
use Rattle.outside.specs.Others.{AreOthers, Around}
use Rattle.outside.specs.declared.fault.BankError.{BankError}
use Rattle.outside.specs.declared.fault.BankError.TheVariants.{Failed, Memory}
use Rattle.order_laws.specs.Commits.{pending}
use Rattle.order_laws.proofs.PendingLaws.{pending_there}
use Rattle.cache_tier.specs.Aging.{after_aging}
use Rattle.cache_tier.specs.ConsoleSteps.{Creates, after_define}
use Rattle.cache_tier.specs.declared.reply.Last.{Last}
use Rattle.cache_tier.specs.declared.reply.Last.TheVariants.{Done, No, Fault}
use Rattle.cache_tier.specs.declared.reply.Note.{Note}
use Rattle.cache_tier.specs.declared.reply.Reply.{Reply}
use Rattle.cache_tier.specs.DoubtSteps.{AsksRecorded, SettlesDoubt, settled, settled_committed, stood}
use Rattle.cache_tier.specs.DueWork.{DueAging, DueDoubt, DueRound, DueSets, DueSetsOf, ItemFollows, Noted, due_sets, is_noted, is_round_due, noted_code, stopped, stopped_by}
use Rattle.cache_tier.specs.Events.{at_history}
use Rattle.cache_tier.specs.Rounds.{Round}
use Rattle.cache_tier.specs.Sets.{RefreshesIfShown}
use Rattle.cache_tier.specs.Shown.{no_rows}
use Rattle.cache_tier.specs.Steps.{tells}
use Rattle.cache_tier.specs.TierStates.{ACommit, APassedWrite, Doubt, Doubted, Tier}
use Rattle.cache_tier.specs.Worlds.{BankCall, IsUnshared, OnlyWhere, World}
use Rattle.recovery.specs.Journalled.{AreAlike, IsJournalled, IsJournalledOn, IsQuiet}
use Rattle.recovery.proofs.JournalledLaws.{alike_commit, alike_self, alike_trans}
use Rattle.recovery.proofs.OthersLaws.{on_then, one_journalled_on, others_kept}
use Rattle.recovery.proofs.LiveLaws.{unshared_back}
use Rattle.recovery.proofs.SafeLaws.{still_safe}
use Rattle.recovery.proofs.TablesLaws.{table_kept}
use Rattle.line_laws.specs.Keeping.{KeepsJournalDue, KeepsJournalInDoubt, KeepsJournalWhere, KeepsJournalDue, RefersToNone, is_broken}
use Rattle.line_laws.proofs.GroupStatements.{refreshes_if_shown}
use Rattle.line_laws.proofs.OtherLaws.{others_tickets}
use Rattle.line_laws.proofs.PartWords.{Any, Goes, call_goes, quiet_on, same_on, stays_on, still_quiet}
use Rattle.line_laws.proofs.QuietTiers.{aging_quiet}
use Rattle.line_laws.proofs.RoundLaws.{round_goes}

-- ---- CREATE TABLE

module _ (def : TableDef) (w w' : World) (early : List Sealed) (j : IsJournalled w early) (apart : IsUnshared w) (refers : RefersToNone def w) where
  -- the table is there, whether the tier has been told or not
  defined : (before middle behind : List Entry) → AreOthers w.shared w.history before → middle ≡ (w.history ++ before) ++ Definition def ∷ [] → AreOthers w.shared middle behind → w'.history ≡ middle ++ behind → w'.journal ≡ w.journal → w'.shared ≡ w.shared → IsQuiet w.tier w'.tier → IsJournalledOn w' early
  defined before middle behind came_before own came_behind history journal shared quiet =
      let first = others_kept w early before w.tier j apart came_before (still_quiet w.tier) in
      let base : World = at_history (w.history ++ before) w in
      let second = table_kept base first.now def w.tier first.is refers (still_quiet w.tier) in
      let next : World = at_history ((w.history ++ before) ++ Definition def ∷ []) w in
      let third = others_kept next second.now behind w'.tier second.is apart (subst (λ l. AreOthers w.shared l behind) own came_behind) quiet in
      let last : World = at_history (((w.history ++ before) ++ Definition def ∷ []) ++ behind) (record w { tier = w'.tier }) in
      one_journalled_on last w' early (record { tier = refl; history = history ∙ ap (λ l. l ++ behind) own; journal = journal; shared = shared })
      (on_then last early first.now first.more first.grows (on_then last first.now second.now second.more second.grows third))

  undefined : (before middle behind : List Entry) → AreOthers w.shared w.history before → Grows [] (w.history ++ before) middle → AreOthers w.shared middle behind → w'.history ≡ middle ++ behind → w'.journal ≡ w.journal → w'.shared ≡ w.shared → IsQuiet w.tier w'.tier → IsJournalledOn w' early
  undefined before middle behind came_before own came_behind history journal shared quiet =
      let first = others_kept w early before w.tier j apart came_before (still_quiet w.tier) in
      let same : middle ≡ w.history ++ before = own ∙ append-nil (w.history ++ before) in
      let base : World = at_history (w.history ++ before) w in
      let second = others_kept base first.now behind w'.tier first.is apart (subst (λ l. AreOthers w.shared l behind) same came_behind) quiet in
      let last : World = at_history ((w.history ++ before) ++ behind) (record w { tier = w'.tier }) in
      one_journalled_on last w' early (record { tier = refl; history = history ∙ ap (λ l. l ++ behind) same; journal = journal; shared = shared }) (on_then last early first.now first.more first.grows second)

  after_quiet : (result : Result (Unit {0}) BankError) → IsQuiet w.tier (after_define def result w.tier)
  after_quiet (Ok done) = record { log = refl; next = omega arith; groups = alike_self w.tier.groups }
  after_quiet (Err Failed) = record { log = refl; next = omega arith; groups = alike_self w.tier.groups }
  after_quiet (Err Memory) = still_quiet w.tier

  creates_table : (result : Result (Unit {0}) BankError) → BankCall (Defines def result) w w' → w'.tier ≡ after_define def result w.tier → IsJournalledOn w' early
  creates_table (Ok done) c tier = defined c.history.before c.history.middle c.history.behind c.history.came_before c.history.own c.history.came_behind c.history.is c.journal c.shared (subst (IsQuiet w.tier) (sym tier) (after_quiet (Ok done)))
  creates_table (Err Memory) c tier = undefined c.history.before c.history.middle c.history.behind c.history.came_before c.history.own c.history.came_behind c.history.is c.journal c.shared (subst (IsQuiet w.tier) (sym tier) (after_quiet (Err Memory)))
  creates_table (Err Failed) c tier = by c.history.own
    where
      by : Grows [] (w.history ++ c.history.before) c.history.middle ⊎ Grows (Definition def ∷ []) (w.history ++ c.history.before) c.history.middle → IsJournalledOn w' early
      by (inl own) = undefined c.history.before c.history.middle c.history.behind c.history.came_before own c.history.came_behind c.history.is c.journal c.shared (subst (IsQuiet w.tier) (sym tier) (after_quiet (Err Failed)))
      by (inr own) = defined c.history.before c.history.middle c.history.behind c.history.came_before own c.history.came_behind c.history.is c.journal c.shared (subst (IsQuiet w.tier) (sym tier) (after_quiet (Err Failed)))

pub creates_table_kept : (def : TableDef) → KeepsJournalWhere (RefersToNone def) (Creates def)
creates_table_kept def w w' early reply stands j apart refers q ok = creates_table def w w' early j apart refers q.result q.call q.tier

-- ---- the doubt

-- what is pending of the log stays
tie_kept : (w : World) (early : List Sealed) (t : Tier) → IsJournalled w early → pending w.history t.log ≡ pending w.history w.tier.log → w.tier.next ≤ t.next → AreAlike w.tier.groups t.groups → IsJournalled (record w { tier = t }) early
tie_kept w early t j same up alike = record {
  kept = j.kept;
  backing = j.backing;
  leaves = j.leaves;
  late = j.late;
  tail = j.tail;
  stands = j.stands;
  settings = j.settings;
  catalog = j.catalog;
  recalls = j.recalls;
  alike = alike_trans j.catalog.groups w.tier.groups t.groups j.alike alike;
  tie = same ∙ j.tie;
  next = let below = j.next in omega (arith, below, up);
  safe = still_safe w t j.safe (unshared_back w.shared w.tier.groups t.groups alike);
}

there_pending : (h : List Entry) (log : List Sealed) (s : Sealed) → has_ticket s.ticket.0 h ≡ true → pending h (log ++ s ∷ []) ≡ pending h log
there_pending h log s e = pending_there h log s [] e ∙ ap (pending h) (append-nil log)

recorded_quiet : (ticket : ℕ) (result : Result Bool BankError) (old new : List Entry) → TellsRecorded ticket result old new → Grows [] old new
recorded_quiet ticket (Ok stands) old new t = t.0
recorded_quiet ticket (Err e) old new t = t

-- what the answer makes of the tier
record Answered (h : List Entry) (t t' : Tier) : Type 0 where
  same : pending h t'.log ≡ pending h t.log
  next : t.next ≤ t'.next
  groups : AreAlike t.groups t'.groups

stood_answered : (d : Doubt) (h : List Entry) (t : Tier) → has_ticket d.ticket h ≡ true → Answered h t (settled_committed d.of (stood d h) d.session t)
stood_answered d h t e = by d.of
  where
    by : (of : Doubted) → Answered h t (settled_committed of (stood d h) d.session t)
    by ACommit = record { same = there_pending h t.log (stood d h) e; next = omega arith; groups = alike_commit (no_rows t) (stood d h).ops t.groups t.groups (alike_self t.groups) }
    by APassedWrite = record { same = there_pending h t.log (stood d h) e; next = omega arith; groups = alike_self t.groups }

left_answered : (d : Doubt) (h : List Entry) (t : Tier) → Answered h t (Rattle.cache_tier.specs.DoubtSteps.settled_rolled_back d.of d.session t)
left_answered d h t = by d.of
  where
    by : (of : Doubted) → Answered h t (Rattle.cache_tier.specs.DoubtSteps.settled_rolled_back of d.session t)
    by ACommit = record { same = refl; next = omega arith; groups = alike_self t.groups }
    by APassedWrite = record { same = refl; next = omega arith; groups = alike_self t.groups }

asks_goes : (d : Doubt) (w w' : World) (early : List Sealed) (notes : List Note) (stop : Option Reply) → IsJournalled w early → IsUnshared w → AsksRecorded d w w' notes stop → IsJournalledOn w' early
asks_goes d w w' early notes stop j apart q =
    one_journalled_on (record base { tier = w'.tier }) w' early (record { tier = refl; history = refl; journal = refl; shared = refl })
    (on_then (record base { tier = w'.tier }) early r.on.now r.on.more r.on.grows (stays_on (record base { tier = w'.tier }) r.on.now (tie_kept base r.on.now w'.tier r.on.is a.same a.next a.groups)))
  where
    base : World
    base = record w' { tier = w.tier }

    call : BankCall (TellsRecorded d.ticket q.result) w (record w' { tier = w.tier })
    call = record { history = q.call.history; journal = q.call.journal; faults = q.call.faults; disk = q.call.disk; moment = q.call.moment; shared = q.call.shared }

    r : Goes Any (record w' { tier = w.tier }) early
    r = call_goes Any w (record w' { tier = w.tier }) early (TellsRecorded d.ticket q.result) (recorded_quiet d.ticket q.result) j apart call (still_quiet w.tier) tt

    by : (result : Result Bool BankError) → Around w.shared (TellsRecorded d.ticket result) w.history w'.history → Answered w'.history w.tier (settled d w'.history result w.tier)
    by (Ok true) c = stood_answered d w'.history w.tier (ap (has_ticket d.ticket) c.is ∙ others_tickets w.shared c.behind c.middle d.ticket c.came_behind ∙ sym c.own.1)
    by (Ok false) c = left_answered d w'.history w.tier
    by (Err e) c = record { same = refl; next = omega arith; groups = alike_self w.tier.groups }

    a : Answered w'.history w.tier w'.tier
    a = subst (Answered w'.history w.tier) (sym q.tier) (by q.result q.call.history)

pub due_doubt_kept : KeepsJournalInDoubt DueDoubt
due_doubt_kept w w' early notes stop j apart q ok = by w.tier.doubt q
  where
    by : (o : Option Doubt) → SettlesDoubt o w w' notes stop → IsJournalledOn w' early
    by None q = same_on w w' early q.0 j
    by (Some d) q = asks_goes d w w' early notes stop j apart q

-- ---- what is noted

other_number : (n : ℕ) → (nat_eq n 201 || nat_eq n 299) ≡ true → nat_eq n 202 ≡ false
other_number n e = by (nat_eq n 201) refl e
  where
    by : (b : Bool) → nat_eq n 201 ≡ b → (b || nat_eq n 299) ≡ true → nat_eq n 202 ≡ false
    by true f e = ap (λ k. nat_eq k 202) (eqb-true n 201 f)
    by false f e = ap (λ k. nat_eq k 202) (eqb-true n 299 e)

noted_other : (last : Last) (c : Code) → noted_code last ≡ Some c → tells code.JournalFault last ≡ false
noted_other (Done n) c e = refl
noted_other (No rule) c e = refl
noted_other (Fault rule) c e = other_number (number_of rule.code) (by (is_noted rule.code) e)
  where
    by : (b : Bool) → cond b (Some rule.code) None ≡ Some c → b ≡ true
    by true e = refl
    by false e = Prim.cc

-- a fault that is noted isn't the disk's
pub not_broken : (end : Option Reply) → is_broken (stopped end) ≡ false → is_broken end ≡ false
not_broken None e = refl
not_broken (Some reply) e = by (noted_code reply.last) refl e
  where
    by : (o : Option Code) → noted_code reply.last ≡ o → is_broken (stopped_by reply o) ≡ false → tells code.JournalFault reply.last ≡ false
    by None f e = e
    by (Some c) f e = noted_other reply.last c f

-- ---- rounds, sets, aging

pub due_round_kept : KeepsJournalDue DueRound
due_round_kept w w' early notes stop stands j apart q ok = by (is_round_due w.tier) q.does
  where
    by : (b : Bool) → OnlyWhere b Round w w' q.end → IsJournalledOn w' early
    by true r = (round_goes w w' early q.end stands j apart r (not_broken q.end (ap is_broken (sym q.ends) ∙ ok))).0.on
    by false r = same_on w w' early r.0 j

sets_goes : (intervals : List ℕ) (w w' : World) (early : List Sealed) (notes : List Note) (stop : Option Reply) → IsJournalled w early → IsUnshared w → DueSetsOf intervals w w' notes stop → is_broken stop ≡ false → IsJournalledOn w' early
sets_goes [] w w' early notes stop j apart q ok = same_on w w' early q.0 j
sets_goes (interval ∷ more) w w' early notes stop j apart q ok = by q.end q.first q.next (λ v now j apart next. sets_goes more v w' now q.behind stop j apart next ok)
  where
    by : (end : Option Reply) → Noted (λ c. Rattle.cache_tier.specs.declared.reply.Note.TheVariants.Refresh c interval) (RefreshesIfShown interval) w q.mid q.before end → ItemFollows end (DueSetsOf more) q.mid w' q.behind stop
        → ((v : World) (now : List Sealed) → IsJournalled v now → IsUnshared v → DueSetsOf more v w' q.behind stop → IsJournalledOn w' now) → IsJournalledOn w' early
    by None first next rest =
        let g = refreshes_if_shown interval w q.mid early first.end j apart tt first.does (not_broken first.end (ap is_broken (sym first.ends))) in
        on_then w' early g.on.now g.on.more g.on.grows (rest q.mid g.on.now g.on.is g.unshared next)
    by (Some r) first next rest =
        let g = refreshes_if_shown interval w q.mid early first.end j apart tt first.does (not_broken first.end (ap is_broken (sym first.ends) ∙ ap is_broken (sym next.2) ∙ ok)) in
        subst (λ x. IsJournalledOn x early) (sym next.0) g.on

pub due_sets_kept : KeepsJournalDue DueSets
due_sets_kept w w' early notes stop stands j apart q ok = sets_goes (due_sets w.tier) w w' early notes stop j apart q ok

pub due_aging_kept : KeepsJournalDue DueAging
due_aging_kept w w' early notes stop stands j apart q ok = subst (λ x. IsJournalledOn x early) (sym q.0) (quiet_on w early (after_aging w.history w.tier) j (aging_quiet w.history w.tier))
