-- The round with which a tier is opened again: it is the abstract tier's, behind which that stands.
use Rattle.std.proofs.Common.{◌≡◌, ◌≤◌, ℕ, ◌+◌, ◌-◌, ◌^◌, min, not, List, length, filter, refl, sym, ap, subst, inl, inr}
use Rattle.std.specs.Prelude.{Option, Result, Some, None, Err}
use Rattle.std.specs.Option.{IsSome}
use Rattle.row_types.specs.declared.value.Value.{Value}
use Rattle.tier_base.specs.declared.number.TableId.{TableId}
use Rattle.table_state.specs.declared.history.Sealed.{Sealed}
use Rattle.order_laws.specs.Commits.{RiseBetween}
use Rattle.order_laws.specs.Standing.{live_tables}
use Rattle.outside.specs.Calls as site
use Rattle.outside.specs.Holding.{Held}
use Rattle.outside.specs.Sites.{SiteState}
use Rattle.propagators.specs.Rounds.{DifferedAt, HoldsRound, IsRestOf, Round as BankRound, doubts_at}
use Rattle.propagators.specs.declared.rounds.RoundFault.{RoundFault}
use Rattle.propagators.specs.declared.rounds.RoundFault.TheVariants as stop
use Rattle.cache_tier.specs.Rounds.{AllLeft, Differing, Failing, RoundEnd, Wanting}
use Rattle.cache_tier.specs.StandingBetween.{Stands, live_groups_of}
use Rattle.cache_tier.specs.Worlds.{IsUnshared, World}
use Rattle.stored_tier.specs.Sites.{IsAt}
use Rattle.stored_tier.proofs.BankLaws.{behind, behind_at, told_behind}
use Rattle.stored_tier.proofs.RoundLaws.{is_left, round_seen, unsure_at}
use Rattle.stored_tier.proofs.SettlingLaws.{AreLaws, RoundAt, unshared_live}
use Rattle.stored_tier.proofs.StandingLaws.{stands_behind}
use Rattle.reopening.specs.Building.{IsSettled, SettlesCommits, settled_tier}
use Rattle.reopening.specs.declared.start.ReopenError.{ReopenError}
use Rattle.reopening.specs.Starting.{DiffersAs, HasDiffered, TellsFault}

-- the round as the world has it
round_of : (w : World) (old left : List Sealed) (before : SiteState) (few : ℕ) (was now : Held) → w.shared ≡ before.shared → w.history ≡ was.history → w.tier.unsettled ≡ old → HoldsRound before.shared few old left was now → BankRound w.shared few w.tier.unsettled w.history left now.history
round_of w old left before few was now shared history unsettled held =
    subst (λ s. BankRound s few w.tier.unsettled w.history left now.history) (sym shared)
    (subst (λ u. BankRound before.shared few u w.history left now.history) (sym unsettled)
    (subst (λ h. BankRound before.shared few old h left now.history) (sym history) held.round))

-- the world behind a round with this end
pub settled_with : AreLaws → (old left : List Sealed) (before after : SiteState) (few : ℕ) (end : RoundEnd) → RoundAt old left before after few → AllLeft end left
    → (w : World) → IsAt before w → Stands w → IsUnshared w → w.tier.unsettled ≡ old → RiseBetween 1 w.tier.unsettled w.tier.next → IsSettled left after w end
settled_with laws old left before after few end round all w at x apart same rise =
    let now = told_behind at.there before.held after.held (HoldsRound before.shared few old left) at.told round.told in
    let bank = round_of w old left before few at.there now.there at.shared at.history same now.is in
    let seen = round_seen laws.left w left now.there few 1 w.tier.next rise bank in
    let stays = laws.shown w x bank.events now.there.history left w.tier.now
    (laws.follow w.shared (live_tables (live_groups_of w.tier.groups)) x.flow.stand.over.backing.schema bank.events
    w.history now.there.history w.tier.unsettled left x.flow.stand.over.backing (unshared_live w apart)
    x.flow.stand.over.leaves bank.leads) in
    record {
      world = behind w (settled_tier left w.tier) now.there after;
      at = behind_at w (settled_tier left w.tier) before after now.there at now.told round.shares;
      stands = stands_behind w (settled_tier left w.tier) now.there after stays.stands;
      apart = apart;
      tier = refl;
      does = record {
        result = end;
        came = seen.came;
        left = is_left left;
        comes = seen.comes;
        tier = ap (λ l. settled_tier l w.tier) (sym seen.kept);
        settled = seen.settled;
        bank = subst (λ n. n ≤ after.bank_faults) (sym at.faults) round.faults;
        unsure = subst (λ n. min (n + length (filter (λ s. not (is_left left s)) seen.came)) (2 ^ 64 - 1) ≤ after.bank_faults) (sym at.faults)
            (unsure_at before.bank_faults after.bank_faults (length (filter (λ s. not (is_left left s)) seen.came)) few (2 ^ 64 - 1) seen.unsure round.faults round.one round.rose);
        all = all;
        journal = refl;
        disk = refl;
        moment = subst (λ n. n ≤ after.moment) (sym at.moment) round.moment;
        shared = refl;
        end = refl;
      };
    }

-- it ended early
pub settled_told : AreLaws → (old left : List Sealed) (before after : SiteState) (fault : RoundFault) (e : ReopenError) → RoundAt old left before after (doubts_at fault) → TellsFault fault e
    → SettlesCommits old left before after (let r : Result (Unit {0}) ReopenError = Err e in r)
settled_told laws old left before after stop.Failed e round told =
    subst (λ x. SettlesCommits old left before after (let r : Result (Unit {0}) ReopenError = Err x in r)) (sym told) (settled_with laws old left before after 1 Failing round tt)
settled_told laws old left before after stop.Memory e round told =
    subst (λ x. SettlesCommits old left before after (let r : Result (Unit {0}) ReopenError = Err x in r)) (sym told) (settled_with laws old left before after 0 Wanting round tt)
settled_told laws old left before after (stop.Differs table key) e round told = elim told [
  | inl one ↦ subst (λ x. SettlesCommits old left before after (let r : Result (Unit {0}) ReopenError = Err x in r)) (sym one) (settled_with laws old left before after 0 (Differing table key) round tt)
  | inr other ↦ subst (λ x. SettlesCommits old left before after (let r : Result (Unit {0}) ReopenError = Err x in r)) (sym other) (settled_with laws old left before after 0 Wanting round tt)
]

-- what the site still tells
told_still : (was new : Option Held) (step : Held → Held → Type 0) → IsSome was → site.Told was new step → (held : Held) × (new ≡ Some held)
told_still None new step some told = cc
told_still (Some old) None step some told = absurd told
told_still (Some old) (Some held) step some told = (held, refl)

-- a row that differs is told as the round found it
pub differs_told : (commits left : List Sealed) (before after : SiteState) (few : ℕ) (fault : RoundFault) (e : ReopenError) → RoundAt commits left before after few → IsRestOf commits left
    → ((table : TableId) (key : List Value) → (let r : Result ℕ RoundFault = Err fault in r) ≡ Err (stop.Differs table key) → IsSome before.held → (held : Held) → after.held ≡ Some held → DifferedAt before.shared table key left held.history)
    → TellsFault fault e → DiffersAs commits before after e
differs_told commits left before after few stop.Failed e round rest differs told = subst (DiffersAs commits before after) (sym told) tt
differs_told commits left before after few stop.Memory e round rest differs told = subst (DiffersAs commits before after) (sym told) tt
differs_told commits left before after few (stop.Differs table key) e round rest differs told = elim told [
  | inl one ↦ subst (DiffersAs commits before after) (sym one) found
  | inr other ↦ subst (DiffersAs commits before after) (sym other) tt
]
  where
    found : IsSome before.held → HasDiffered before.shared table key commits after
    found some =
        let still = told_still before.held after.held (HoldsRound before.shared few commits left) some round.told in
        record { held = still.0; told = still.1; left = left; rest = rest; differed = differs table key refl some still.0 still.1 }
