-- A site of which all that is known stayed.
use Rattle.std.proofs.Common.{◌≡◌, ◌≤◌, ℕ, Option, inl, sym, subst, ap, refl, ◌∙◌}
use Rattle.outside.specs.Calls.{Certain, OnlyLooks}
use Rattle.outside.specs.Holding.{Held}
use Rattle.outside.specs.Sites.{SiteState}
use Rattle.propagators.specs.Certainty.{KeepsCertain}
use Rattle.propagators.proofs.CertainLaws.{certain_then, no_longer}
use Rattle.tier_journal.specs.declared.journal.TierJournal.{TierJournal}
use Rattle.cache_tier.specs.Wants.{Want}
use Rattle.cache_tier.specs.Worlds.{World}
use Rattle.cache_tier.specs.declared.reply.Reply.{Reply}
use Rattle.stored_tier.specs.declared.tier.Tier.{Tier as Stored}
use Rattle.stored_tier.specs.Performing.{Performs}
use Rattle.stored_tier.specs.Sites.{IsAt}
use Rattle.stored_tier.proofs.OverLaws.{keeps_called}
use Rattle.group_engine.specs.Bringing.{BringsJoined}

pub performs_from : (old new : Stored) (before mid behind : SiteState) (does : World → World → Type 0) → mid ≡ before → Performs old new mid behind does → Performs old new before behind does
performs_from old new before mid behind does same performs = subst (λ s. Performs old new s behind does) same performs

module _ {D : Type 0} (state : D → SiteState) (possible : D → ℕ → Held → Type 0) (d mid : D) (looks : OnlyLooks state possible d mid) where
  certain_mid : (o : Held) → Certain state possible d o → Certain state possible mid o
  certain_mid o c = record {
    told = ap (λ (s : SiteState). s.held) looks.same ∙ c.told;
    only = λ p there. c.only p (looks.past (state d).moment p (subst (λ (s : SiteState). possible mid s.moment p) looks.same there));
  }

  pub keeps_same : KeepsCertain state possible d mid
  keeps_same o c = record {
    now = o;
    certain = certain_mid o c;
    slots = refl;
    grows = no_longer o.history;
    leaves = λ k p within there. inl (subst (λ (s : SiteState). k ≤ s.moment) looks.same within, looks.past k p there);
  }

  pub certain_from : (d' : D) → KeepsCertain state possible mid d' → KeepsCertain state possible d d'
  certain_from d' keeps = certain_then state possible d mid d' keeps_same keeps

  pub joined_from : (old new : Stored) (k k' : Option TierJournal) (d' : D) (place interval : ℕ) (want : Want) (stop : Option Reply) → BringsJoined state possible old new k k' mid d' place interval want stop → BringsJoined state possible old new k k' d d' place interval want stop
  joined_from old new k k' d' place interval want stop brings = λ g reads interval_is w at stands apart keeps there.
      brings g reads interval_is w (subst (λ s. IsAt s w) (sym looks.same) at) stands apart (keeps_called state possible k d mid w w keeps keeps_same refl refl (subst (λ s. IsAt s w) (sym looks.same) at)) there
