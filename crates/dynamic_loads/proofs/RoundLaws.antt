-- A dynamic load behind the round that comes first.
use Rattle.std.proofs.Common.{◌≡◌, ℕ, Bool, true, false, Option, Some, None, [], refl, sym, ap, ◌∙◌}
use Rattle.std.specs.Bool.{MatchBool}
use Rattle.outside.specs.Holding.{Held}
use Rattle.outside.specs.Others.{is_shared}
use Rattle.outside.specs.Sites.{SiteState}
use Rattle.propagators.specs.Certainty.{KeepsCertain}
use Rattle.tier_journal.specs.declared.journal.TierJournal.{TierJournal}
use Rattle.tier_journal.specs.Drafts.{StaysKept}
use Rattle.cache_tier.specs.declared.reply.Reply.{Reply}
use Rattle.cache_tier.specs.DynamicLoads.{BringsWritethrough}
use Rattle.cache_tier.specs.Groups.{is_table_of, is_writethrough}
use Rattle.cache_tier.specs.JournalSteps.{Flushes, FlushesKept}
use Rattle.cache_tier.specs.Rotations.{Rotates, RotatesIfLong, is_long}
use Rattle.cache_tier.specs.Rounds.{AppliesAndRotates, Round, RoundIfUnsettled, is_unsettled}
use Rattle.cache_tier.specs.TierStates.{Tier}
use Rattle.cache_tier.specs.Wants.{Want}
use Rattle.cache_tier.specs.Worlds.{IsUnshared, Passes, StageFollows, World}
use Rattle.stored_tier.specs.declared.tier.Tier.{Tier as Stored}
use Rattle.stored_tier.specs.Performing.{Performs, PerformsOver, StaysWritten}
use Rattle.stored_tier.proofs.OverLaws.{over_quiet}
use Rattle.dynamic_loads.specs.Bringing.{ReachesInto}

-- a round leaves the groups

pub record KeepsGroups (w m : World) : Type 0 where
  pub groups : m.tier.groups ≡ w.tier.groups
  pub shared : m.shared ≡ w.shared

same_groups : (w m : World) → m ≡ w → KeepsGroups w m
same_groups w m e = record { groups = ap (λ (z : World). z.tier.groups) e; shared = ap (λ (z : World). z.shared) e }

then_groups : (w m v : World) → KeepsGroups w m → KeepsGroups m v → KeepsGroups w v
then_groups w m v one two = record { groups = two.groups ∙ one.groups; shared = two.shared ∙ one.shared }

turned_groups : (w m : World) (stop : Option Reply) → RotatesIfLong w m stop → KeepsGroups w m
turned_groups w m stop is = by (is_long w) is
  where
    by : (b : Bool) → MatchBool b (Rotates w m stop) (Passes w m stop) → KeepsGroups w m
    by true r = record { groups = ap (λ (t : Tier). t.groups) r.tier; shared = r.shared }
    by false r = same_groups w m r.0

flushed_groups : (w m : World) (stop : Option Reply) → Flushes [] w m stop → KeepsGroups w m
flushed_groups w m stop is = by w.journal.kept is
  where
    by : (b : Bool) → MatchBool b (FlushesKept [] w m stop) (Passes w m stop) → KeepsGroups w m
    by true f = record { groups = ap (λ (t : Tier). t.groups) f.tier; shared = f.shared }
    by false f = same_groups w m f.0

applied_groups : (w m : World) (end : Option Reply) → AppliesAndRotates w m end → KeepsGroups w m
applied_groups w m end next =
    then_groups w next.mid m (record { groups = ap (λ (t : Tier). t.groups) next.applies.tier; shared = next.applies.shared }) (turned_groups next.mid m next.turned next.rotates)

round_groups : (w m : World) → Round w m None → KeepsGroups w m
round_groups w m r = then_groups w r.mid m (flushed_groups w r.mid r.stop r.first) (by r.stop r.next)
  where
    by : (stop : Option Reply) → StageFollows stop AppliesAndRotates r.mid m None → KeepsGroups r.mid m
    by None next = applied_groups r.mid m None next
    by (Some reply) next = same_groups r.mid m next.0

pub round_keeps : (w m : World) → RoundIfUnsettled w m None → KeepsGroups w m
round_keeps w m r = by (is_unsettled w) r
  where
    by : (b : Bool) → MatchBool b (Round w m None) (Passes w m None) → KeepsGroups w m
    by true r = round_groups w m r
    by false r = same_groups w m r.0

-- nothing came to a journal
pub stays_kept : (k : Option TierJournal) → StaysKept k k
stays_kept None = tt
stays_kept (Some t) = record { keeps = λ schema slots j keeps. keeps; same = record { tail = refl; slot = refl; generation = refl; version = refl; standing = refl } }

module _ {D : Type 0} (state : D → SiteState) (possible : D → ℕ → Held → Type 0) where
  -- behind the round
  pub behind_round : (old settled new : Stored) (k k' : Option TierJournal) (d dm d' : D) (place : ℕ) (want : Want) (stop : Option Reply) → PerformsOver state possible old settled k k' d dm None (λ w w'. RoundIfUnsettled w w' None) → KeepsCertain state possible dm d'
      → Performs settled new (state dm) (state d') (λ w w'. ReachesInto place want w w' stop × StaysWritten w w') → PerformsOver state possible old new k k' d d' stop (λ w w'. BringsWritethrough place want w w' stop)
  behind_round old settled new k k' d dm d' place want stop rounds certain reaches w at stands apart keeps =
      let first = rounds w at stands apart keeps in
      let m : World = first.world in
      let same = round_keeps w m first.is in
      let apart_then : IsUnshared m = (λ t e. ap (λ gs. is_table_of is_writethrough gs t) same.groups ∙ apart t (ap (λ l. is_shared l t) (sym same.shared) ∙ e)) in
      let second = over_quiet state possible settled new k' k' dm d' stop (λ w w'. ReachesInto place want w w' stop × StaysWritten w w') (stays_kept k') certain (λ v v' is. is.1) reaches m first.at (first.stands refl) apart_then (first.keeps.over refl) in
      record { world = second.world; at = second.at; is = record { mid = m; stop = None; first = first.is; next = second.is.0 }; stands = second.stands; keeps = second.keeps }

  -- the round ended the line
  pub round_ended : (old new : Stored) (k k' : Option TierJournal) (d d' : D) (place : ℕ) (want : Want) (reply : Reply) → PerformsOver state possible old new k k' d d' (Some reply) (λ w w'. RoundIfUnsettled w w' (Some reply))
      → PerformsOver state possible old new k k' d d' (Some reply) (λ w w'. BringsWritethrough place want w w' (Some reply))
  round_ended old new k k' d d' place want reply rounds w at stands apart keeps =
      let first = rounds w at stands apart keeps in
      record { world = first.world; at = first.at; is = record { mid = first.world; stop = Some reply; first = first.is; next = (refl, refl) }; stands = first.stands; keeps = first.keeps }
