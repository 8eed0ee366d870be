-- The words for parts, and what leads from one world to another.
use Rattle.std.proofs.Common.{◌≡◌, inl, inr, ℕ, ◌≤◌, List, [], ◌∷◌, ◌++◌, Bool, true, false, Option, Some, None, Result, Ok, Err, append_assoc, refl, sym, ap, subst, ◌∙◌, arith}
use Rattle.std.specs.Bool.{MatchBool}
use Rattle.row_types.specs.declared.rule.Rule.{Rule}
use Rattle.table_state.specs.declared.history.Entry.{Entry}
use Rattle.outside.specs.declared.fault.BankError.{BankError}
use Rattle.outside.specs.Others.{Around}
use Rattle.cache_tier.specs.declared.reply.Reply.{Reply}
use Rattle.cache_tier.specs.WayFacts.{IsLed}
use Rattle.cache_tier.specs.GoesOn.{LeadsTo}
use Rattle.outside.specs.Calls.{Lengthens}
use Rattle.cache_tier.specs.JournalSteps.{Flushes, FlushesFitting, FlushesKept, FlushesSome, Notes, NotesKept, Records, has_entries, journal_full}
use Rattle.cache_tier.specs.Journals.{Journal, JournalEntry}
use Rattle.cache_tier.specs.Reading.{Answers, FollowsAt, Reads, ReadsFirst, StageFollowsAt, TellsPosition}
use Rattle.cache_tier.specs.Rotations.{Rotates, is_long}
use Rattle.cache_tier.specs.Rounds.{Applies, AppliesAndRotates, Round, RoundIfUnsettled, is_unsettled}
use Rattle.cache_tier.specs.TierStates.{Tier}
use Rattle.cache_tier.specs.Worlds.{Answer, BankCall, Becomes, Follows, OnlyWhere, Part, Passes, Quiet, Refuses, Stage, StageFollows, Then, ThenStage, Tries, Unless, World}
use Rattle.cache_tier.proofs.WayLaws.{kept_flush_leads, kept_note_leads, rotate_leads, stays, ways_go_on}

pub same_number : (n : ℕ) → n ≤ n
same_number n = omega arith

nothing_more : (h : List Entry) → h ≡ h ++ []
nothing_more [] = refl
nothing_more (x ∷ h) = ap (λ ys. x ∷ ys) (nothing_more h)

pub no_longer : (h : List Entry) → Lengthens h h
no_longer h = record { more = []; is = nothing_more h }

pub longer_still : (a b c : List Entry) → Lengthens a b → Lengthens b c → Lengthens a c
longer_still a b c p q = record { more = p.more ++ q.more; is = q.is ∙ ap (λ x. x ++ q.more) p.is ∙ append_assoc a p.more q.more }

as_led : (j : Journal) → IsLed j j
as_led j = record { renewals = []; leads = stays j }

led_on : (a b c : Journal) → IsLed a b → IsLed b c → IsLed a c
led_on a b c p q = record { renewals = p.renewals ++ q.renewals; leads = ways_go_on a b c p.renewals q.renewals p.leads q.leads }

-- here and there
pub here : (w : World) → LeadsTo w w
here w = record { history = no_longer w.history; journal = as_led w.journal; bank = omega arith; disk = omega arith; moment = omega arith; shared = refl; next = omega arith }

pub same : (w w' : World) → w' ≡ w → LeadsTo w w'
same w w' e = subst (λ x. LeadsTo w x) (sym e) (here w)

pub on : (a b c : World) → LeadsTo a b → LeadsTo b c → LeadsTo a c
on a b c p q = record {
  history = longer_still a.history b.history c.history p.history q.history;
  journal = led_on a.journal b.journal c.journal p.journal q.journal;
  bank = omega (arith, p.bank, q.bank);
  disk = omega (arith, p.disk, q.disk);
  moment = omega (arith, p.moment, q.moment);
  shared = q.shared ∙ p.shared;
  next = omega (arith, p.next, q.next);
}

-- the tier alone changes
pub tiered : (w : World) (t : Tier) → w.tier.next ≤ t.next → LeadsTo w (record w { tier = t })
tiered w t le = record { history = no_longer w.history; journal = as_led w.journal; bank = omega arith; disk = omega arith; moment = omega arith; shared = refl; next = le }

abbrev pub PartLeads : Part → Type 0
PartLeads part = (w w' : World) (reply : Reply) → part w w' reply → LeadsTo w w'

abbrev pub StageLeads : Stage → Type 0
StageLeads stage = (w w' : World) (stop : Option Reply) → stage w w' stop → LeadsTo w w'

pub quiet : (answer : Answer) (w w' : World) (reply : Reply) → w.tier.next ≤ answer.0.next → Quiet answer w w' reply → LeadsTo w w'
quiet answer w w' reply le q = subst (λ x. LeadsTo w x) (sym q.0) (tiered w answer.0 le)

pub refuses_leads : (rule : Rule) → PartLeads (Refuses rule)
refuses_leads rule w w' reply q = quiet _ w w' reply (same_number w.tier.next) q

pub unless_leads : (o : Option Rule) (part : Part) → PartLeads part → PartLeads (Unless o part)
unless_leads None part p w w' reply q = p w w' reply q
unless_leads (Some rule) part p w w' reply q = refuses_leads rule w w' reply q

pub tries_leads : (part : Part) → PartLeads part → PartLeads (Tries part)
tries_leads part p w w' reply (inl q) = p w w' reply q
tries_leads part p w w' reply (inr q) = same w w' q.0

pub follows_leads : (stop : Option Reply) (part : Part) → PartLeads part → PartLeads (Follows stop part)
follows_leads None part p w w' reply q = p w w' reply q
follows_leads (Some stop) part p w w' reply q = same w w' q.0

pub then_leads : (stage : Stage) (part : Part) → StageLeads stage → PartLeads part → PartLeads (Then stage part)
then_leads stage part s p w w' reply q = on w q.mid w' (s w q.mid q.stop q.first) (follows_leads q.stop part p q.mid w' reply q.next)

pub stage_follows_leads : (stop : Option Reply) (stage : Stage) → StageLeads stage → StageLeads (StageFollows stop stage)
stage_follows_leads None stage s w w' end q = s w w' end q
stage_follows_leads (Some stop) stage s w w' end q = same w w' q.0

pub then_stage_leads : (one other : Stage) → StageLeads one → StageLeads other → StageLeads (ThenStage one other)
then_stage_leads one other s p w w' end q = on w q.mid w' (s w q.mid q.stop q.first) (stage_follows_leads q.stop other p q.mid w' end q.next)

pub passes_leads : StageLeads Passes
passes_leads w w' stop q = same w w' q.0

pub only_where_leads : (b : Bool) (stage : Stage) → StageLeads stage → StageLeads (OnlyWhere b stage)
only_where_leads true stage s w w' stop q = s w w' stop q
only_where_leads false stage s w w' stop q = same w w' q.0

pub becomes_leads : (change : World → Tier) → ((w : World) → w.tier.next ≤ (change w).next) → StageLeads (Becomes change)
becomes_leads change le w w' stop q = subst (λ x. LeadsTo w x) (sym q.0) (tiered w (change w) (le w))

pub answers_leads : (answer : World → Answer) → ((w : World) → w.tier.next ≤ (answer w).0.next) → PartLeads (Answers answer)
answers_leads answer le w w' reply q = quiet (answer w) w w' reply (le w) q

pub either_leads : {P Q R : Type 0} (b : Bool) → (P → R) → (Q → R) → MatchBool b P Q → R
either_leads true p q x = p x
either_leads false p q x = q x

-- calls of the bank

pub around : (w w' : World) (step : List Entry → List Entry → Type 0) → ((old new : List Entry) → step old new → Lengthens old new) → Around w.shared step w.history w'.history → Lengthens w.history w'.history
around w w' step grows a =
    let own = grows (w.history ++ a.before) a.middle a.own in
    record { more = a.before ++ own.more ++ a.behind; is = a.is ∙ ap (λ x. x ++ a.behind) own.is ∙ ap (λ x. x ++ a.behind) (append_assoc w.history a.before own.more) ∙ append_assoc w.history (a.before ++ own.more) a.behind }

pub bank_leads : (w w' : World) (step : List Entry → List Entry → Type 0) → ((old new : List Entry) → step old new → Lengthens old new) → w.tier.next ≤ w'.tier.next → BankCall step w w' → LeadsTo w w'
bank_leads w w' step grows le c =
    record { history = around w w' step grows c.history; journal = subst (λ j. IsLed w.journal j) (sym c.journal) (as_led w.journal); bank = c.faults; disk = omega (arith, c.disk); moment = c.moment; shared = c.shared; next = le }

pub next_of : (w w' : World) (t : Tier) → w'.tier ≡ t → w.tier.next ≤ t.next → w.tier.next ≤ w'.tier.next
next_of w w' t e le = subst (λ (x : Tier). w.tier.next ≤ x.next) (sym e) le

position_grows : (result : Result ℕ BankError) (old new : List Entry) → TellsPosition result old new → Lengthens old new
position_grows (Ok n) old new p = record { more = []; is = p.0 }
position_grows (Err e) old new p = record { more = []; is = p }

follows_at_leads : (result : Result ℕ BankError) (next : ℕ → Part) → ((n : ℕ) → PartLeads (next n)) → PartLeads (FollowsAt result next)
follows_at_leads (Ok n) next p w w' reply q = tries_leads (next n) (p n) w w' reply q
follows_at_leads (Err e) next p w w' reply q = same w w' q.0

pub reads_leads : (tried : Tier → Tier) (next : ℕ → Part) → ((t : Tier) → t.next ≤ (tried t).next) → ((n : ℕ) → PartLeads (next n)) → PartLeads (Reads tried next)
reads_leads tried next le p w w' reply q =
    on w q.mid w' (bank_leads w q.mid (TellsPosition q.result) (position_grows q.result) (next_of w q.mid (tried w.tier) q.tier (le w.tier)) q.call) (follows_at_leads q.result next p q.mid w' reply q.goes_on)

stage_follows_at_leads : (result : Result ℕ BankError) (next : ℕ → Stage) → ((n : ℕ) → StageLeads (next n)) → StageLeads (StageFollowsAt result next)
stage_follows_at_leads (Ok n) next p w w' stop (inl q) = p n w w' stop q
stage_follows_at_leads (Ok n) next p w w' stop (inr q) = same w w' q.0
stage_follows_at_leads (Err e) next p w w' stop q = same w w' q.0

pub reads_first_leads : (tried : Tier → Tier) (next : ℕ → Stage) → ((t : Tier) → t.next ≤ (tried t).next) → ((n : ℕ) → StageLeads (next n)) → StageLeads (ReadsFirst tried next)
reads_first_leads tried next le p w w' stop q =
    on w q.mid w' (bank_leads w q.mid (TellsPosition q.result) (position_grows q.result) (next_of w q.mid (tried w.tier) q.tier (le w.tier)) q.call) (stage_follows_at_leads q.result next p q.mid w' stop q.goes_on)

-- the journal

kept : (w w' : World) → w'.history ≡ w.history → Lengthens w.history w'.history
kept w w' e = record { more = []; is = e ∙ nothing_more w.history }

kept_flushes_leads : (entries : List JournalEntry) → StageLeads (FlushesKept entries)
kept_flushes_leads entries w w' stop f =
    record { history = kept w w' f.history; journal = kept_flush_leads entries w w' stop f; bank = omega (arith, f.bank); disk = f.disk; moment = f.moment; shared = f.shared; next = next_of w w' w.tier f.tier (same_number w.tier.next) }

pub flushes_leads : (entries : List JournalEntry) → StageLeads (Flushes entries)
flushes_leads entries w w' stop f = only_where_leads w.journal.kept (FlushesKept entries) (kept_flushes_leads entries) w w' stop f

pub flushes_some_leads : (entries : List JournalEntry) → StageLeads (FlushesSome entries)
flushes_some_leads entries = only_where_leads (has_entries entries) (FlushesFitting entries) (λ w w' stop q. either_leads (journal_full w entries) (λ r. same w w' r.0) (λ f. flushes_leads entries w w' stop f) q)

kept_notes_leads : (e : JournalEntry) → StageLeads (NotesKept e)
kept_notes_leads e w w' stop q =
    subst (λ x. LeadsTo w x) (sym q.0)
    (record { history = no_longer w.history; journal = kept_note_leads e w _ None (refl, refl); bank = omega arith; disk = omega arith; moment = omega arith; shared = refl; next = omega arith })

notes_leads : (e : JournalEntry) → StageLeads (Notes e)
notes_leads e w w' stop q = only_where_leads w.journal.kept (NotesKept e) (kept_notes_leads e) w w' stop q

pub records_leads : (durable : Bool) (e : JournalEntry) → StageLeads (Records durable e)
records_leads true e w w' stop q = flushes_leads (e ∷ []) w w' stop q
records_leads false e w w' stop q = notes_leads e w w' stop q

rotates_leads : StageLeads Rotates
rotates_leads w w' stop r =
    record { history = kept w w' r.history; journal = rotate_leads w w' stop r; bank = omega (arith, r.bank); disk = r.disk; moment = r.moment; shared = r.shared; next = next_of w w' w.tier r.tier (same_number w.tier.next) }

-- rounds

pub applies_leads : StageLeads Applies
applies_leads w w' stop a =
    record { history = record { more = a.comes.tail; is = a.comes.is }; journal = subst (λ j. IsLed w.journal j) (sym a.journal) (as_led w.journal); bank = a.bank; disk = omega (arith, a.disk); moment = a.moment; shared = a.shared; next = next_of w w' _ a.tier (same_number w.tier.next) }

applies_and_rotates_leads : StageLeads AppliesAndRotates
applies_and_rotates_leads w w' stop a = on w a.mid w' (applies_leads w a.mid a.applied a.applies) (only_where_leads (is_long a.mid) Rotates rotates_leads a.mid w' a.turned a.rotates)

pub round_leads : StageLeads Round
round_leads = then_stage_leads (Flushes []) AppliesAndRotates (flushes_leads []) applies_and_rotates_leads

pub round_if_unsettled_leads : StageLeads RoundIfUnsettled
round_if_unsettled_leads w w' stop q = only_where_leads (is_unsettled w) Round round_leads w w' stop q
