-- The words for parts, and what goes on with a journal.
use Rattle.std.proofs.Common.{◌≡◌, inl, inr, ℕ, ◌+◌, Bool, true, false, Option, Some, None, Result, Ok, Err, List, [], ◌++◌, refl, sym, ap, subst, ◌∙◌, arith}
use Rattle.std.specs.Bool.{MatchBool}
use Rattle.tier_base.specs.declared.code.Code.TheVariants as code
use Rattle.row_types.specs.declared.rule.Rule.{Rule}
use Rattle.table_state.specs.declared.history.Entry.{Entry}
use Rattle.table_state.specs.declared.history.Sealed.{Sealed}
use Rattle.outside.specs.Bank.{Grows}
use Rattle.outside.specs.declared.fault.BankError.{BankError}
use Rattle.cache_tier.specs.declared.reply.Reply.{Reply}
use Rattle.cache_tier.specs.Groups.{Group}
use Rattle.cache_tier.specs.Reading.{Answers, FollowsAt, Reads, ReadsFirst, StageFollowsAt, TellsPosition}
use Rattle.cache_tier.specs.Steps.{tells}
use Rattle.cache_tier.specs.TierStates.{Tier}
use Rattle.cache_tier.specs.Worlds.{Answer, BankCall, Becomes, Follows, IsUnshared, OnlyWhere, Part, Passes, Refuses, Stage, StageFollows, Then, ThenStage, Tries, Unless, World}
use Rattle.recovery.specs.Journalled.{AreAlike, IsJournalled, IsJournalledOn, IsQuiet}
use Rattle.recovery.proofs.JournalledLaws.{alike_self, quiet_kept}
use Rattle.recovery.proofs.LiveLaws.{alike_table}
use Rattle.recovery.proofs.OthersLaws.{on_then, reads_kept}
use Rattle.line_laws.specs.Keeping.{is_broken}

-- ---- what goes on

-- the journal is the tier's behind it, others change no live table, and this holds
pub record Goes (Q : World → Type 0) (w' : World) (early : List Sealed) : Type 0 where
  pub on : IsJournalledOn w' early
  pub unshared : IsUnshared w'
  pub holds : Q w'

-- the second world has the first one's journal, and others change the same tables
pub record IsBeside (m w' : World) : Type 0 where
  pub journal : w'.journal ≡ m.journal
  pub shared : w'.shared ≡ m.shared

abbrev pub GoesPart : (World → Type 0) → Part → Type 0
GoesPart P part = (w w' : World) (early : List Sealed) (reply : Reply) → IsJournalled w early → IsUnshared w → P w → part w w' reply → tells code.JournalFault reply.last ≡ false → IsJournalledOn w' early

abbrev pub GoesStage : (World → Type 0) → (World → Type 0) → Stage → Type 0
GoesStage P Q stage = (w w' : World) (early : List Sealed) (stop : Option Reply) → IsJournalled w early → IsUnshared w → P w → stage w w' stop → is_broken stop ≡ false → Goes Q w' early

-- nothing more is asked
abbrev pub Any : World → Type 0
Any w = Unit {0}

-- the groups are these
abbrev pub Has : List Group → World → Type 0
Has groups w = w.tier.groups ≡ groups

pub stays_on : (w : World) (early : List Sealed) → IsJournalled w early → IsJournalledOn w early
stays_on w early j = record { now = early; is = j; more = []; grows = sym (Rattle.std.proofs.Common.append-nil early) }

pub same_on : (w w' : World) (early : List Sealed) → w' ≡ w → IsJournalled w early → IsJournalledOn w' early
same_on w w' early e j = subst (λ x. IsJournalledOn x early) (sym e) (stays_on w early j)

pub same_goes : (Q : World → Type 0) (w w' : World) (early : List Sealed) → w' ≡ w → IsJournalled w early → IsUnshared w → Q w → Goes Q w' early
same_goes Q w w' early e j apart q = subst (λ x. Goes Q x early) (sym e) (record { on = stays_on w early j; unshared = apart; holds = q })

pub still_quiet : (t : Tier) → IsQuiet t t
still_quiet t = record { log = refl; next = omega arith; groups = alike_self t.groups }

-- others change no live table where the groups are alike
pub unshared_still : (w w' : World) → IsUnshared w → w'.shared ≡ w.shared → AreAlike w.tier.groups w'.tier.groups → IsUnshared w'
unshared_still w w' apart same alike t e = sym (alike_table w.tier.groups w'.tier.groups t alike) ∙ apart t (ap (λ s. Rattle.outside.specs.Others.is_shared s t) (sym same) ∙ e)

pub quiet_on : (w : World) (early : List Sealed) (t : Tier) → IsJournalled w early → IsQuiet w.tier t → IsJournalledOn (record w { tier = t }) early
quiet_on w early t j quiet = stays_on (record w { tier = t }) early (quiet_kept w early t j quiet)

-- ---- words for parts

pub quiet_goes : (P : World → Type 0) (answer : World → Answer) → ((w : World) → P w → IsQuiet w.tier (answer w).0) → GoesPart P (Answers answer)
quiet_goes P answer so w w' early reply j apart p q ok = subst (λ x. IsJournalledOn x early) (sym q.0) (quiet_on w early (answer w).0 j (so w p))

pub refuses_goes : (P : World → Type 0) (rule : Rule) → GoesPart P (Refuses rule)
refuses_goes P rule w w' early reply j apart p q ok = same_on w w' early q.0 j

pub unless_goes : (P : World → Type 0) (o : Option Rule) (part : Part) → GoesPart P part → GoesPart P (Unless o part)
unless_goes P None part so w w' early reply j apart p q ok = so w w' early reply j apart p q ok
unless_goes P (Some rule) part so w w' early reply j apart p q ok = same_on w w' early q.0 j

pub tries_goes : (P : World → Type 0) (part : Part) → GoesPart P part → GoesPart P (Tries part)
tries_goes P part so w w' early reply j apart p (inl q) ok = so w w' early reply j apart p q ok
tries_goes P part so w w' early reply j apart p (inr q) ok = same_on w w' early q.0 j

pub match_goes : (P : World → Type 0) (b : Bool) (one other : Part) → GoesPart P one → GoesPart P other → GoesPart P (λ w w' reply. MatchBool b (one w w' reply) (other w w' reply))
match_goes P true one other x y w w' early reply j apart p q ok = x w w' early reply j apart p q ok
match_goes P false one other x y w w' early reply j apart p q ok = y w w' early reply j apart p q ok

told_of : (stop : Reply) (reply : Reply) → reply ≡ stop → tells code.JournalFault reply.last ≡ false → tells code.JournalFault stop.last ≡ false
told_of stop reply e ok = ap (λ (r : Reply). tells code.JournalFault r.last) (sym e) ∙ ok

pub then_goes : (P Q : World → Type 0) (stage : Stage) (part : Part) → GoesStage P Q stage → GoesPart Q part → GoesPart P (Then stage part)
then_goes P Q stage part s n w w' early reply j apart p q ok = by q.stop q.first q.next
  where
    by : (stop : Option Reply) → stage w q.mid stop → Follows stop part q.mid w' reply → IsJournalledOn w' early
    by None first next =
        let g = s w q.mid early None j apart p first refl in
        on_then w' early g.on.now g.on.more g.on.grows (n q.mid w' g.on.now reply g.on.is g.unshared g.holds next ok)
    by (Some stop) first next =
        let g = s w q.mid early (Some stop) j apart p first (told_of stop reply next.1 ok) in
        subst (λ x. IsJournalledOn x early) (sym next.0) g.on

pub passes_goes : (P : World → Type 0) → GoesStage P P Passes
passes_goes P w w' early stop j apart p q ok = same_goes P w w' early q.0 j apart p

pub only_where_goes : (P : World → Type 0) (b : Bool) (stage : Stage) → GoesStage P P stage → GoesStage P P (OnlyWhere b stage)
only_where_goes P true stage so w w' early stop j apart p q ok = so w w' early stop j apart p q ok
only_where_goes P false stage so w w' early stop j apart p q ok = same_goes P w w' early q.0 j apart p

told_stop : (stop : Reply) (end : Option Reply) → end ≡ Some stop → is_broken end ≡ false → tells code.JournalFault stop.last ≡ false
told_stop stop end e ok = ap is_broken (sym e) ∙ ok

pub then_stage_goes : (P Q R : World → Type 0) (one other : Stage) → ((w : World) → Q w → R w) → GoesStage P Q one → GoesStage Q R other → GoesStage P R (ThenStage one other)
then_stage_goes P Q R one other both s n w w' early end j apart p q ok = by q.stop q.first q.next
  where
    by : (stop : Option Reply) → one w q.mid stop → StageFollows stop other q.mid w' end → Goes R w' early
    by None first next =
        let g = s w q.mid early None j apart p first refl in
        let h = n q.mid w' g.on.now end g.on.is g.unshared g.holds next ok in
        record { on = on_then w' early g.on.now g.on.more g.on.grows h.on; unshared = h.unshared; holds = h.holds }
    by (Some stop) first next =
        let g = s w q.mid early (Some stop) j apart p first (told_stop stop end next.1 ok) in
        subst (λ x. Goes R x early) (sym next.0) (record { on = g.on; unshared = g.unshared; holds = both q.mid g.holds })

pub becomes_goes : (P Q : World → Type 0) (change : World → Tier) → ((w : World) → P w → IsQuiet w.tier (change w)) → ((w : World) → P w → Q (record w { tier = change w })) → GoesStage P Q (Becomes change)
becomes_goes P Q change so holds w w' early stop j apart p q ok =
    subst (λ x. Goes Q x early) (sym q.0)
    (record { on = quiet_on w early (change w) j (so w p); unshared = unshared_still w (record w { tier = change w }) apart refl (so w p).groups; holds = holds w p })

-- ---- calls of the bank that read

pub quietly : (w w' : World) (step : List Entry → List Entry → Type 0) → ((old new : List Entry) → step old new → Grows [] old new) → BankCall step w w' → BankCall (Grows []) w w'
quietly w w' step so c = record {
  history = record {
    before = c.history.before;
    middle = c.history.middle;
    behind = c.history.behind;
    came_before = c.history.came_before;
    own = so (w.history ++ c.history.before) c.history.middle c.history.own;
    came_behind = c.history.came_behind;
    is = c.history.is;
  };
  journal = c.journal;
  faults = c.faults;
  disk = c.disk;
  moment = c.moment;
  shared = c.shared;
}

pub call_goes : (Q : World → Type 0) (w w' : World) (early : List Sealed) (step : List Entry → List Entry → Type 0) → ((old new : List Entry) → step old new → Grows [] old new) → IsJournalled w early → IsUnshared w → BankCall step w w' → IsQuiet w.tier w'.tier → Q w' → Goes Q w' early
call_goes Q w w' early step so j apart call quiet q = record {
  on = reads_kept w w' early j apart (quietly w w' step so call) quiet;
  unshared = unshared_still w w' apart call.shared quiet.groups;
  holds = q;
}

pub position_quiet : (result : Result ℕ BankError) (old new : List Entry) → TellsPosition result old new → Grows [] old new
position_quiet (Ok n) old new p = p.0
position_quiet (Err e) old new p = p

pub quiet_as : (t t' t'' : Tier) → t' ≡ t'' → IsQuiet t t'' → IsQuiet t t'
quiet_as t t' t'' e quiet = subst (IsQuiet t) (sym e) quiet

pub reads_goes : (P : World → Type 0) (Q : World → Type 0) (tried : Tier → Tier) (next : ℕ → Part) → ((t : Tier) → IsQuiet t (tried t)) → ((w w' : World) → P w → w'.tier ≡ tried w.tier → Q w') → ((n : ℕ) → GoesPart Q (next n)) → GoesPart P (Reads tried next)
reads_goes P Q tried next quiet moves so w w' early reply j apart p q ok =
    let g = call_goes Q w q.mid early (TellsPosition q.result) (position_quiet q.result) j apart q.call (quiet_as w.tier q.mid.tier (tried w.tier) q.tier (quiet w.tier)) (moves w q.mid p q.tier) in
    on_then w' early g.on.now g.on.more g.on.grows (by q.result q.goes_on g)
  where
    by : (result : Result ℕ BankError) → FollowsAt result next q.mid w' reply → (g : Goes Q q.mid early) → IsJournalledOn w' g.on.now
    by (Err e) follows g = same_on q.mid w' g.on.now follows.0 g.on.is
    by (Ok n) follows g = tries_goes Q (next n) (so n) q.mid w' g.on.now reply g.on.is g.unshared g.holds follows ok

pub reads_first_goes : (P Q R : World → Type 0) (tried : Tier → Tier) (next : ℕ → Stage) → ((t : Tier) → IsQuiet t (tried t)) → ((w w' : World) → P w → w'.tier ≡ tried w.tier → Q w') → ((w : World) → Q w → R w) → ((n : ℕ) → GoesStage Q R (next n)) → GoesStage P R (ReadsFirst tried next)
reads_first_goes P Q R tried next quiet moves weaker so w w' early stop j apart p q ok =
    let g = call_goes Q w q.mid early (TellsPosition q.result) (position_quiet q.result) j apart q.call (quiet_as w.tier q.mid.tier (tried w.tier) q.tier (quiet w.tier)) (moves w q.mid p q.tier) in
    let h = by q.result q.goes_on g in
    record { on = on_then w' early g.on.now g.on.more g.on.grows h.on; unshared = h.unshared; holds = h.holds }
  where
    by : (result : Result ℕ BankError) → StageFollowsAt result next q.mid w' stop → (g : Goes Q q.mid early) → Goes R w' g.on.now
    by (Err e) follows g = same_goes R q.mid w' g.on.now follows.0 g.on.is g.unshared (weaker q.mid g.holds)
    by (Ok n) (inl follows) g = so n q.mid w' g.on.now stop g.on.is g.unshared g.holds follows ok
    by (Ok n) (inr follows) g = same_goes R q.mid w' g.on.now follows.0 g.on.is g.unshared (weaker q.mid g.holds)
