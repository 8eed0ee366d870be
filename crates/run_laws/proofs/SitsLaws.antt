-- Parts that leave the definitions of groups, the schema and the sessions as they are, and add nothing unsettled.
use Rattle.std.proofs.Common.{◌≡◌, inl, inr, ℕ, suc, Bool, true, false, cond, Option, Some, None, Result, Ok, Err, List, [], ◌∷◌, refl, sym, ap, subst, ◌∙◌}
use Rattle.std.specs.Bool.{MatchBool}
use Rattle.std.specs.List.{list_all}
use Rattle.row_types.specs.declared.rule.Rule.{Rule}
use Rattle.table_state.specs.declared.history.Sealed.{Sealed}
use Rattle.outside.specs.declared.fault.BankError.{BankError}
use Rattle.cache_tier.specs.declared.reply.Reply.{Reply}
use Rattle.cache_tier.specs.Groups.{Group, definitions_of}
use Rattle.cache_tier.specs.JournalSteps.{Flushes, FlushesFitting, FlushesKept, FlushesSome, NotesKept, Records, has_entries, journal_full}
use Rattle.cache_tier.specs.Journals.{JournalEntry}
use Rattle.cache_tier.specs.Reading.{Answers, FollowsAt, Reads, ReadsFirst, StageFollowsAt}
use Rattle.cache_tier.specs.Rounds.{Round, RoundIfUnsettled, is_unsettled}
use Rattle.cache_tier.specs.Sets.{Choice, changed, changed_from}
use Rattle.cache_tier.specs.TierStates.{Tier}
use Rattle.cache_tier.specs.Worlds.{Answer, Becomes, Follows, OnlyWhere, Part, Passes, Quiet, Refuses, Stage, StageFollows, Then, ThenStage, Tries, Unless, World}
use Rattle.recovery.specs.Journalled.{AreAlike}
use Rattle.run_laws.proofs.DueLaws.{round_all, round_sits}

pub record Sits (t t' : Tier) : Type 0 where
  pub defs : definitions_of t'.groups ≡ definitions_of t.groups
  pub schema : t'.schema ≡ t.schema
  pub sessions : t'.sessions ≡ t.sessions
  pub unsettled : (p : Sealed → Bool) → list_all p t.unsettled ≡ true → list_all p t'.unsettled ≡ true

pub kept : (t : Tier) → Sits t t
kept t = record { defs = refl; schema = refl; sessions = refl; unsettled = λ p all. all }

pub sits_on : (a b c : Tier) → Sits a b → Sits b c → Sits a c
sits_on a b c x y = record { defs = y.defs ∙ x.defs; schema = y.schema ∙ x.schema; sessions = y.sessions ∙ x.sessions; unsettled = λ p all. y.unsettled p (x.unsettled p all) }

-- only the groups are others, with the same definitions
pub regrouped : (t : Tier) (groups : List Group) → definitions_of groups ≡ definitions_of t.groups → Sits t (record t { groups = groups })
regrouped t groups same = record { defs = same; schema = refl; sessions = refl; unsettled = λ p all. all }

pub alike_defs : (gs hs : List Group) → AreAlike gs hs → definitions_of hs ≡ definitions_of gs
alike_defs [] [] are = refl
alike_defs [] (h ∷ hs) are = absurd are
alike_defs (g ∷ gs) [] are = absurd are
alike_defs (g ∷ gs) (h ∷ hs) are = λ i. are.0.def i ∷ alike_defs gs hs are.1 i

changed_defs : (chosen : Choice) (f : Group → Group) → ((g : Group) → (f g).def ≡ g.def) → (place : ℕ) (gs : List Group) → definitions_of (changed_from chosen f place gs) ≡ definitions_of gs
changed_defs chosen f same place [] = refl
changed_defs chosen f same place (g ∷ gs) = λ i. by (chosen place g) i ∷ changed_defs chosen f same (suc place) gs i
  where
    by : (b : Bool) → (cond b (f g) g).def ≡ g.def
    by true = same g
    by false = refl

-- some groups are changed, but not their definitions
pub changed_sits : (chosen : Choice) (f : Group → Group) → ((g : Group) → (f g).def ≡ g.def) → (t : Tier) → Sits t (changed chosen f t)
changed_sits chosen f same t = regrouped t (changed_from chosen f 0 t.groups) (changed_defs chosen f same 0 t.groups)

abbrev pub PartSits : Part → Type 0
PartSits part = (w w' : World) (reply : Reply) → part w w' reply → Sits w.tier w'.tier

abbrev pub StageSits : Stage → Type 0
StageSits stage = (w w' : World) (stop : Option Reply) → stage w w' stop → Sits w.tier w'.tier

pub same : (w w' : World) → w' ≡ w → Sits w.tier w'.tier
same w w' e = subst (λ (x : World). Sits w.tier x.tier) (sym e) (kept w.tier)

pub of_tier : (a b c : Tier) → b ≡ c → Sits a c → Sits a b
of_tier a b c e k = subst (Sits a) (sym e) k

pub quiet : (answer : Answer) (w w' : World) (reply : Reply) → Sits w.tier answer.0 → Quiet answer w w' reply → Sits w.tier w'.tier
quiet answer w w' reply k q = subst (λ (x : World). Sits w.tier x.tier) (sym q.0) k

pub refuses_sits : (rule : Rule) → PartSits (Refuses rule)
refuses_sits rule w w' reply q = same w w' q.0

pub unless_sits : (o : Option Rule) (part : Part) → PartSits part → PartSits (Unless o part)
unless_sits None part p w w' reply q = p w w' reply q
unless_sits (Some rule) part p w w' reply q = same w w' q.0

pub tries_sits : (part : Part) → PartSits part → PartSits (Tries part)
tries_sits part p w w' reply (inl q) = p w w' reply q
tries_sits part p w w' reply (inr q) = same w w' q.0

follows_sits : (stop : Option Reply) (part : Part) → PartSits part → PartSits (Follows stop part)
follows_sits None part p w w' reply q = p w w' reply q
follows_sits (Some stop) part p w w' reply q = same w w' q.0

pub then_sits : (stage : Stage) (part : Part) → StageSits stage → PartSits part → PartSits (Then stage part)
then_sits stage part s p w w' reply q = sits_on w.tier q.mid.tier w'.tier (s w q.mid q.stop q.first) (follows_sits q.stop part p q.mid w' reply q.next)

stage_follows_sits : (stop : Option Reply) (stage : Stage) → StageSits stage → StageSits (StageFollows stop stage)
stage_follows_sits None stage s w w' end q = s w w' end q
stage_follows_sits (Some stop) stage s w w' end q = same w w' q.0

pub then_stage_sits : (one other : Stage) → StageSits one → StageSits other → StageSits (ThenStage one other)
then_stage_sits one other s p w w' end q = sits_on w.tier q.mid.tier w'.tier (s w q.mid q.stop q.first) (stage_follows_sits q.stop other p q.mid w' end q.next)

pub passes_sits : StageSits Passes
passes_sits w w' stop q = same w w' q.0

pub only_where_sits : (b : Bool) (stage : Stage) → StageSits stage → StageSits (OnlyWhere b stage)
only_where_sits true stage s w w' stop q = s w w' stop q
only_where_sits false stage s w w' stop q = same w w' q.0

pub becomes_sits : (change : World → Tier) → ((w : World) → Sits w.tier (change w)) → StageSits (Becomes change)
becomes_sits change k w w' stop q = subst (λ (x : World). Sits w.tier x.tier) (sym q.0) (k w)

pub answers_sits : (answer : World → Answer) → ((w : World) → Sits w.tier (answer w).0) → PartSits (Answers answer)
answers_sits answer k w w' reply q = quiet (answer w) w w' reply (k w) q

pub either_sits : {P Q R : Type 0} (b : Bool) → (P → R) → (Q → R) → MatchBool b P Q → R
either_sits true p q x = p x
either_sits false p q x = q x

follows_at_sits : (result : Result ℕ BankError) (next : ℕ → Part) → ((n : ℕ) → PartSits (next n)) → PartSits (FollowsAt result next)
follows_at_sits (Ok n) next p w w' reply q = tries_sits (next n) (p n) w w' reply q
follows_at_sits (Err e) next p w w' reply q = same w w' q.0

pub reads_sits : (tried : Tier → Tier) (next : ℕ → Part) → ((t : Tier) → Sits t (tried t)) → ((n : ℕ) → PartSits (next n)) → PartSits (Reads tried next)
reads_sits tried next k p w w' reply q =
    sits_on w.tier q.mid.tier w'.tier (of_tier w.tier q.mid.tier (tried w.tier) q.tier (k w.tier)) (follows_at_sits q.result next p q.mid w' reply q.goes_on)

stage_follows_at_sits : (result : Result ℕ BankError) (next : ℕ → Stage) → ((n : ℕ) → StageSits (next n)) → StageSits (StageFollowsAt result next)
stage_follows_at_sits (Ok n) next p w w' stop (inl q) = p n w w' stop q
stage_follows_at_sits (Ok n) next p w w' stop (inr q) = same w w' q.0
stage_follows_at_sits (Err e) next p w w' stop q = same w w' q.0

pub reads_first_sits : (tried : Tier → Tier) (next : ℕ → Stage) → ((t : Tier) → Sits t (tried t)) → ((n : ℕ) → StageSits (next n)) → StageSits (ReadsFirst tried next)
reads_first_sits tried next k p w w' stop q =
    sits_on w.tier q.mid.tier w'.tier (of_tier w.tier q.mid.tier (tried w.tier) q.tier (k w.tier)) (stage_follows_at_sits q.result next p q.mid w' stop q.goes_on)

pub flushes_sits : (entries : List JournalEntry) → StageSits (Flushes entries)
flushes_sits entries w w' stop f = only_where_sits w.journal.kept (FlushesKept entries) (λ x x' end q. of_tier x.tier x'.tier x.tier q.tier (kept x.tier)) w w' stop f

pub flushes_some_sits : (entries : List JournalEntry) → StageSits (FlushesSome entries)
flushes_some_sits entries = only_where_sits (has_entries entries) (FlushesFitting entries) (λ w w' stop q. either_sits (journal_full w entries) (λ r. same w w' r.0) (λ f. flushes_sits entries w w' stop f) q)

pub records_sits : (durable : Bool) (e : JournalEntry) → StageSits (Records durable e)
records_sits true e w w' stop q = flushes_sits (e ∷ []) w w' stop q
records_sits false e w w' stop q = only_where_sits w.journal.kept (NotesKept e) (λ x x' end n. of_tier x.tier x'.tier x.tier (ap (λ (y : World). y.tier) n.0) (kept x.tier)) w w' stop q

pub rounds_sit : StageSits Round
rounds_sit w w' stop q =
    let same = round_sits w w' stop q in
    record {
      defs = ap (λ (t : Tier). definitions_of t.groups) same.1;
      schema = ap (λ (t : Tier). t.schema) same.1;
      sessions = ap (λ (t : Tier). t.sessions) same.1;
      unsettled = λ p all. round_all p w w' stop q all;
    }

pub round_if_unsettled_sits : StageSits RoundIfUnsettled
round_if_unsettled_sits w w' stop q = only_where_sits (is_unsettled w) Round rounds_sit w w' stop q
