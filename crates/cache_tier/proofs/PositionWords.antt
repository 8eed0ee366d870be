-- The words for parts, and the one position of each set.
use Rattle.std.proofs.Common.{◌≡◌, inl, inr, ℕ, List, [], ◌∷◌, Bool, true, false, Option, Some, None, Result, Ok, Err, sym, ap, subst, ◌∙◌}
use Rattle.std.specs.Bool.{MatchBool}
use Rattle.row_types.specs.declared.rule.Rule.{Rule}
use Rattle.outside.specs.declared.fault.BankError.{BankError}
use Rattle.cache_tier.specs.declared.reply.Reply.{Reply}
use Rattle.cache_tier.specs.Groups.{Group}
use Rattle.cache_tier.specs.JournalSteps.{Flushes, FlushesFitting, FlushesKept, FlushesSome, NotesKept, Records, has_entries, journal_full}
use Rattle.cache_tier.specs.Journals.{JournalEntry}
use Rattle.cache_tier.specs.Reading.{Answers, FollowsAt, Reads, ReadsFirst, StageFollowsAt}
use Rattle.cache_tier.specs.Rotations.{Rotates, is_long}
use Rattle.cache_tier.specs.Rounds.{AppliesAndRotates, Round, RoundIfUnsettled, is_unsettled}
use Rattle.cache_tier.specs.Sets.{OnePosition}
use Rattle.cache_tier.specs.TierStates.{Tier}
use Rattle.cache_tier.specs.Worlds.{Answer, Becomes, Follows, OnlyWhere, Part, Passes, Quiet, Refuses, Stage, StageFollows, Then, ThenStage, Tries, Unless, World}

abbrev pub Keeps : World → World → Type 0
Keeps w w' = OnePosition w.tier.groups → OnePosition w'.tier.groups

abbrev pub TierOne : Tier → Tier → Type 0
TierOne t t' = OnePosition t.groups → OnePosition t'.groups

pub kept : (t : Tier) → TierOne t t
kept t one = one

pub of_tier : (w w' : World) (t : Tier) → w'.tier ≡ t → TierOne w.tier t → Keeps w w'
of_tier w w' t e k one = subst (λ (x : Tier). OnePosition x.groups) (sym e) (k one)

pub same : (w w' : World) → w' ≡ w → Keeps w w'
same w w' e = of_tier w w' w.tier (ap (λ (x : World). x.tier) e) (kept w.tier)

pub on : (a b c : World) → Keeps a b → Keeps b c → Keeps a c
on a b c p q h = q (p h)

pub tiered : (w : World) (t : Tier) → TierOne w.tier t → Keeps w (record w { tier = t })
tiered w t k = k

abbrev pub PartLeads : Part → Type 0
PartLeads part = (w w' : World) (reply : Reply) → part w w' reply → Keeps w w'

abbrev pub StageLeads : Stage → Type 0
StageLeads stage = (w w' : World) (stop : Option Reply) → stage w w' stop → Keeps w w'

pub quiet : (answer : Answer) (w w' : World) (reply : Reply) → TierOne w.tier answer.0 → Quiet answer w w' reply → Keeps w w'
quiet answer w w' reply le q = subst (λ x. Keeps w x) (sym q.0) (tiered w answer.0 le)

pub refuses_leads : (rule : Rule) → PartLeads (Refuses rule)
refuses_leads rule w w' reply q = quiet _ w w' reply (kept w.tier) q

pub unless_leads : (o : Option Rule) (part : Part) → PartLeads part → PartLeads (Unless o part)
unless_leads None part p w w' reply q = p w w' reply q
unless_leads (Some rule) part p w w' reply q = refuses_leads rule w w' reply q

pub tries_leads : (part : Part) → PartLeads part → PartLeads (Tries part)
tries_leads part p w w' reply (inl q) = p w w' reply q
tries_leads part p w w' reply (inr q) = same w w' q.0

pub follows_leads : (stop : Option Reply) (part : Part) → PartLeads part → PartLeads (Follows stop part)
follows_leads None part p w w' reply q = p w w' reply q
follows_leads (Some stop) part p w w' reply q = same w w' q.0

pub then_leads : (stage : Stage) (part : Part) → StageLeads stage → PartLeads part → PartLeads (Then stage part)
then_leads stage part s p w w' reply q = on w q.mid w' (s w q.mid q.stop q.first) (follows_leads q.stop part p q.mid w' reply q.next)

pub stage_follows_leads : (stop : Option Reply) (stage : Stage) → StageLeads stage → StageLeads (StageFollows stop stage)
stage_follows_leads None stage s w w' end q = s w w' end q
stage_follows_leads (Some stop) stage s w w' end q = same w w' q.0

pub then_stage_leads : (one other : Stage) → StageLeads one → StageLeads other → StageLeads (ThenStage one other)
then_stage_leads one other s p w w' end q = on w q.mid w' (s w q.mid q.stop q.first) (stage_follows_leads q.stop other p q.mid w' end q.next)

pub passes_leads : StageLeads Passes
passes_leads w w' stop q = same w w' q.0

pub only_where_leads : (b : Bool) (stage : Stage) → StageLeads stage → StageLeads (OnlyWhere b stage)
only_where_leads true stage s w w' stop q = s w w' stop q
only_where_leads false stage s w w' stop q = same w w' q.0

pub becomes_leads : (change : World → Tier) → ((w : World) → TierOne w.tier (change w)) → StageLeads (Becomes change)
becomes_leads change le w w' stop q = subst (λ x. Keeps w x) (sym q.0) (tiered w (change w) (le w))

pub answers_leads : (answer : World → Answer) → ((w : World) → TierOne w.tier (answer w).0) → PartLeads (Answers answer)
answers_leads answer le w w' reply q = quiet (answer w) w w' reply (le w) q

pub either_leads : {P Q R : Type 0} (b : Bool) → (P → R) → (Q → R) → MatchBool b P Q → R
either_leads true p q x = p x
either_leads false p q x = q x

follows_at_leads : (result : Result ℕ BankError) (next : ℕ → Part) → ((n : ℕ) → PartLeads (next n)) → PartLeads (FollowsAt result next)
follows_at_leads (Ok n) next p w w' reply q = tries_leads (next n) (p n) w w' reply q
follows_at_leads (Err e) next p w w' reply q = same w w' q.0

pub reads_leads : (tried : Tier → Tier) (next : ℕ → Part) → ((t : Tier) → TierOne t (tried t)) → ((n : ℕ) → PartLeads (next n)) → PartLeads (Reads tried next)
reads_leads tried next le p w w' reply q =
    on w q.mid w' (of_tier w q.mid (tried w.tier) q.tier (le w.tier)) (follows_at_leads q.result next p q.mid w' reply q.goes_on)

stage_follows_at_leads : (result : Result ℕ BankError) (next : ℕ → Stage) → ((n : ℕ) → StageLeads (next n)) → StageLeads (StageFollowsAt result next)
stage_follows_at_leads (Ok n) next p w w' stop (inl q) = p n w w' stop q
stage_follows_at_leads (Ok n) next p w w' stop (inr q) = same w w' q.0
stage_follows_at_leads (Err e) next p w w' stop q = same w w' q.0

pub reads_first_leads : (tried : Tier → Tier) (next : ℕ → Stage) → ((t : Tier) → TierOne t (tried t)) → ((n : ℕ) → StageLeads (next n)) → StageLeads (ReadsFirst tried next)
reads_first_leads tried next le p w w' stop q =
    on w q.mid w' (of_tier w q.mid (tried w.tier) q.tier (le w.tier)) (stage_follows_at_leads q.result next p q.mid w' stop q.goes_on)

-- the journal and rounds: the groups stay

pub flushes_leads : (entries : List JournalEntry) → StageLeads (Flushes entries)
flushes_leads entries w w' stop f = only_where_leads w.journal.kept (FlushesKept entries) (λ x x' end q. of_tier x x' x.tier q.tier (kept x.tier)) w w' stop f

pub flushes_some_leads : (entries : List JournalEntry) → StageLeads (FlushesSome entries)
flushes_some_leads entries = only_where_leads (has_entries entries) (FlushesFitting entries) (λ w w' stop q. either_leads (journal_full w entries) (λ r. same w w' r.0) (λ f. flushes_leads entries w w' stop f) q)

pub records_leads : (durable : Bool) (e : JournalEntry) → StageLeads (Records durable e)
records_leads true e w w' stop q = flushes_leads (e ∷ []) w w' stop q
records_leads false e w w' stop q = only_where_leads w.journal.kept (NotesKept e) (λ x x' end n. of_tier x x' x.tier (ap (λ (y : World). y.tier) n.0) (kept x.tier)) w w' stop q

-- stages that keep the groups
abbrev pub StageStays : Stage → Type 0
StageStays stage = (w w' : World) (stop : Option Reply) → stage w w' stop → w'.tier.groups ≡ w.tier.groups

only_where_stays : (b : Bool) (stage : Stage) → StageStays stage → StageStays (OnlyWhere b stage)
only_where_stays true stage s w w' stop q = s w w' stop q
only_where_stays false stage s w w' stop q = ap (λ (x : World). x.tier.groups) q.0

flushes_stays : (entries : List JournalEntry) → StageStays (Flushes entries)
flushes_stays entries w w' stop f = only_where_stays w.journal.kept (FlushesKept entries) (λ x x' end q. ap (λ (t : Tier). t.groups) q.tier) w w' stop f

pub flushes_some_stays : (entries : List JournalEntry) → StageStays (FlushesSome entries)
flushes_some_stays entries = only_where_stays (has_entries entries) (FlushesFitting entries) (λ w w' stop q. either_leads (journal_full w entries) (λ r. ap (λ (x : World). x.tier.groups) r.0) (λ f. flushes_stays entries w w' stop f) q)

stage_follows_stays : (o : Option Reply) (stage : Stage) → StageStays stage → StageStays (StageFollows o stage)
stage_follows_stays None stage s w w' end q = s w w' end q
stage_follows_stays (Some stop) stage s w w' end q = ap (λ (x : World). x.tier.groups) q.0

then_stage_stays : (one other : Stage) → StageStays one → StageStays other → StageStays (ThenStage one other)
then_stage_stays one other s p w w' end q = stage_follows_stays q.stop other p q.mid w' end q.next ∙ s w q.mid q.stop q.first

applies_stays : StageStays AppliesAndRotates
applies_stays w w' stop a = only_where_stays (is_long a.mid) Rotates (λ x x' end r. ap (λ (t : Tier). t.groups) r.tier) a.mid w' a.turned a.rotates ∙ ap (λ (t : Tier). t.groups) a.applies.tier

pub round_stays : StageStays Round
round_stays = then_stage_stays (Flushes []) AppliesAndRotates (flushes_stays []) applies_stays

pub round_if_unsettled_stays : StageStays RoundIfUnsettled
round_if_unsettled_stays w w' stop q = only_where_stays (is_unsettled w) Round round_stays w w' stop q

pub stays_leads : (stage : Stage) → StageStays stage → StageLeads stage
stays_leads stage s w w' stop q one = subst OnePosition (sym (s w w' stop q)) one

pub round_leads : StageLeads Round
round_leads = stays_leads Round round_stays

pub round_if_unsettled_leads : StageLeads RoundIfUnsettled
round_if_unsettled_leads = stays_leads RoundIfUnsettled round_if_unsettled_stays

-- parts that begin where the groups are these

abbrev pub PartAt : List Group → Part → Type 0
PartAt groups part = (w w' : World) (reply : Reply) → w.tier.groups ≡ groups → part w w' reply → Keeps w w'

abbrev pub StageAt : List Group → Stage → Type 0
StageAt groups stage = (w w' : World) (stop : Option Reply) → w.tier.groups ≡ groups → stage w w' stop → Keeps w w'

follows_at : (groups : List Group) (o : Option Reply) (part : Part) → PartAt groups part → PartAt groups (Follows o part)
follows_at groups None part p w w' reply e q = p w w' reply e q
follows_at groups (Some stop) part p w w' reply e q = same w w' q.0

pub then_at : (groups : List Group) (stage : Stage) (part : Part) → StageStays stage → PartAt groups part → PartAt groups (Then stage part)
then_at groups stage part s p w w' reply e q =
    on w q.mid w' (stays_leads stage s w q.mid q.stop q.first) (follows_at groups q.stop part p q.mid w' reply (s w q.mid q.stop q.first ∙ e) q.next)

stage_follows_at' : (groups : List Group) (o : Option Reply) (stage : Stage) → StageAt groups stage → StageAt groups (StageFollows o stage)
stage_follows_at' groups None stage p w w' end e q = p w w' end e q
stage_follows_at' groups (Some stop) stage p w w' end e q = same w w' q.0

pub then_stage_at : (groups : List Group) (one other : Stage) → StageStays one → StageAt groups other → StageAt groups (ThenStage one other)
then_stage_at groups one other s p w w' end e q =
    on w q.mid w' (stays_leads one s w q.mid q.stop q.first) (stage_follows_at' groups q.stop other p q.mid w' end (s w q.mid q.stop q.first ∙ e) q.next)

pub unless_at : (groups : List Group) (o : Option Rule) (part : Part) → PartAt groups part → PartAt groups (Unless o part)
unless_at groups None part p w w' reply e q = p w w' reply e q
unless_at groups (Some rule) part p w w' reply e q = refuses_leads rule w w' reply q

pub answers_at : (groups : List Group) (answer : World → Answer) → ((w : World) → w.tier.groups ≡ groups → TierOne w.tier (answer w).0) → PartAt groups (Answers answer)
answers_at groups answer k w w' reply e q = quiet (answer w) w w' reply (k w e) q

pub becomes_at : (groups : List Group) (change : World → Tier) → ((w : World) → w.tier.groups ≡ groups → TierOne w.tier (change w)) → StageAt groups (Becomes change)
becomes_at groups change k w w' stop e q = of_tier w w' (change w) (ap (λ (x : World). x.tier) q.0) (k w e)

reads_on : (groups : List Group) (result : Result ℕ BankError) (next : ℕ → Part) → ((n : ℕ) → PartAt groups (next n)) → PartAt groups (FollowsAt result next)
reads_on groups (Ok n) next p w w' reply e (inl q) = p n w w' reply e q
reads_on groups (Ok n) next p w w' reply e (inr q) = same w w' q.0
reads_on groups (Err x) next p w w' reply e q = same w w' q.0

pub reads_at : (groups : List Group) (tried : Tier → Tier) (next : ℕ → Part) → ((t : Tier) → (tried t).groups ≡ t.groups) → ((n : ℕ) → PartAt groups (next n)) → PartAt groups (Reads tried next)
reads_at groups tried next stays p w w' reply e q =
    let here = ap (λ (t : Tier). t.groups) q.tier ∙ stays w.tier in
    on w q.mid w' (λ one. subst OnePosition (sym here) one) (reads_on groups q.result next p q.mid w' reply (here ∙ e) q.goes_on)

reads_first_on : (groups : List Group) (result : Result ℕ BankError) (next : ℕ → Stage) → ((n : ℕ) → StageAt groups (next n)) → StageAt groups (StageFollowsAt result next)
reads_first_on groups (Ok n) next p w w' stop e (inl q) = p n w w' stop e q
reads_first_on groups (Ok n) next p w w' stop e (inr q) = same w w' q.0
reads_first_on groups (Err x) next p w w' stop e q = same w w' q.0

pub reads_first_at : (groups : List Group) (tried : Tier → Tier) (next : ℕ → Stage) → ((t : Tier) → (tried t).groups ≡ t.groups) → ((n : ℕ) → StageAt groups (next n)) → StageAt groups (ReadsFirst tried next)
reads_first_at groups tried next stays p w w' stop e q =
    let here = ap (λ (t : Tier). t.groups) q.tier ∙ stays w.tier in
    on w q.mid w' (λ one. subst OnePosition (sym here) one) (reads_first_on groups q.result next p q.mid w' stop (here ∙ e) q.goes_on)
