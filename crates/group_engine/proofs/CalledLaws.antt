-- A set that is refreshed, and CALL.
use Rattle.std.proofs.Common.{◌≡◌, ℕ, suc, Bool, true, false, cond, ◌&&◌, ◌||◌, nat_eq, Option, Some, None, List, [], ◌∷◌, refl, sym, subst, ◌∙◌, inl}
use Rattle.std.specs.Prelude.{Ok, Err}
use Rattle.outside.specs.declared.fault.BankError.{BankError}
use Rattle.stored_tier.specs.declared.refreshing.Made.{Made}
use Rattle.order_laws.proofs.TruthLaws.{both_true}
use Rattle.cache_tier.specs.Groups.{Group, is_on, is_read_only}
use Rattle.cache_tier.specs.Reading.{TellsPosition, backing_at}
use Rattle.cache_tier.specs.Sets.{Choice, OnePosition, RefreshesSet, alone, at_position, changed_from, is_in_set, of_set, refreshed}
use Rattle.cache_tier.specs.TierStates.{Tier, refresh_tried}
use Rattle.cache_tier.specs.Worlds.{BankCall, IsUnshared, World, bank_fault}
use Rattle.cache_tier.proofs.SetLaws.{refresh_has_one_position}
use Rattle.stored_tier.specs.declared.tier.Tier.{Tier as Stored}
use Rattle.group_engine.specs.Fresh.{AreFresh, IsRead}
use Rattle.group_engine.specs.Noted.{IsNoted}
use Rattle.stored_tier.specs.Performing.{Performs, StandsFor}
use Rattle.stored_tier.specs.Refreshing.{is_filled, positioned}
use Rattle.stored_tier.specs.Sites.{IsAt}
use Rattle.outside.specs.Sites.{SiteState}
use Rattle.group_engine.proofs.FreshGroup.{Changes}
use Rattle.group_engine.proofs.FreshLaws.{IsRefreshed, stands_behind}

same_kept : (c : Choice) (from : ℕ) (groups : List Group) → changed_from c (λ g. g) from groups ≡ groups
same_kept c from [] = refl
same_kept c from (g ∷ groups) =
    let first : cond (c from g) g g ≡ g = by (c from g) in
    let rest = same_kept c (suc from) groups in
    λ i. first i ∷ rest i
  where
    by : (b : Bool) → cond b g g ≡ g
    by true = refl
    by false = refl

plain_or : (b : Bool) → b ≡ (b || false)
plain_or true = refl
plain_or false = refl

set_changes : (interval : ℕ) → Changes false 0 (of_set interval None) None (λ g. g)
set_changes interval = record {
  flagged = λ g e. record { is = λ i. record g { loaded = plain_or g.loaded i } };
  loads_is = refl;
  chosen_is = λ g e. cc;
  unlisted = λ k g. refl;
}

set_reads : (interval k : ℕ) (g : Group) → of_set interval None k g ≡ true → is_read_only g ≡ true
set_reads interval k g e =
    let inside : is_in_set interval g ≡ true = plain_or (is_in_set interval g) ∙ e in
    (both_true (is_read_only g) (nat_eq g.def.interval interval) (both_true (is_read_only g && nat_eq g.def.interval interval) (is_on g.state) inside).0).0

-- the groups of a set have its position alone
pub set_groups : (interval n : ℕ) (groups : List Group) → changed_from (of_set interval None) (positioned n) 0 groups ≡ changed_from (alone 0) (λ g. g) 0 (changed_from (of_set interval None) (positioned n) 0 groups)
set_groups interval n groups = sym (same_kept (alone 0) 0 (changed_from (of_set interval None) (positioned n) 0 groups))

set_stands : (t new : Stored) (mid : World) (interval n : ℕ) (made : List (Option Made)) → StandsFor t mid → AreFresh t mid (is_filled (of_set interval None) None) n made → IsRefreshed t new (of_set interval None) 0 (λ g. g) n made
    → StandsFor new (record mid { tier = refreshed (of_set interval None) n (backing_at mid n) mid.tier })
set_stands t new mid interval n made x fresh is =
    subst (λ (gs : List Group). StandsFor new (record mid { tier = record mid.tier { groups = gs } })) (same_kept (alone 0) 0 (changed_from (of_set interval None) (at_position n (backing_at mid n)) 0 mid.tier.groups))
    (stands_behind t new mid false 0 (of_set interval None) None (λ g. g) (set_changes interval) n made x fresh is (λ k g at c. set_reads interval k g c) (λ g. refl)
    (λ s. subst OnePosition (sym (same_kept (alone 0) 0 (changed_from (of_set interval None) (at_position n s) 0 mid.tier.groups))) (refresh_has_one_position interval None n s mid.tier (λ place g e there. cc) x.stands.read.one)))

one_call : (step : List Rattle.table_state.specs.declared.history.Entry.Entry → List Rattle.table_state.specs.declared.history.Entry.Entry → Type 0) (w mid : World) (a : Tier) → BankCall step (record w { tier = a }) mid → BankCall step w mid
one_call step w mid a c = record { history = c.history; journal = c.journal; faults = c.faults; disk = c.disk; moment = c.moment; shared = c.shared }

moved_at : (site : SiteState) (w : World) (a : Tier) → IsAt site w → IsAt site (record w { tier = a })
moved_at site w a at = record { there = at.there; told = at.told; history = at.history; faults = at.faults; moment = at.moment; shared = at.shared }

-- the refresh of a set that was noted, where but for room the tier behind the call is the noted one
pub set_refreshed : (t noted mid new : Stored) (before behind : SiteState) (interval n : ℕ) (made : List (Option Made)) → IsNoted interval t noted
    → ((w : World) → IsAt before w → StandsFor noted w → IsUnshared w → (r : IsRead mid behind (Ok n) w) × AreFresh mid r.world (is_filled (of_set interval None) None) n made)
    → IsRefreshed mid new (of_set interval None) 0 (λ g. g) n made → Performs t new before behind (λ w w'. RefreshesSet interval w w' None)
set_refreshed t noted mid new before behind interval n made notes reads is = λ w at stands apart.
    let r = reads (record w { tier = refresh_tried interval w.tier }) (moved_at before w (refresh_tried interval w.tier) at) (notes w stands) apart in
    record {
      world = record r.0.world { tier = refreshed (of_set interval None) n (backing_at r.0.world n) r.0.world.tier };
      at = moved_at behind r.0.world (refreshed (of_set interval None) n (backing_at r.0.world n) r.0.world.tier) r.0.at;
      stands = set_stands mid new r.0.world interval n made r.0.stands r.1 is;
      is = record {
        result = Ok n;
        mid = r.0.world;
        call = one_call (TellsPosition (Ok n)) w r.0.world (refresh_tried interval w.tier) r.0.call;
        tier = r.0.tier;
        goes_on = inl (refl, refl);
      };
    }

pub set_failed : (t noted mid : Stored) (before behind : SiteState) (interval : ℕ) (e : BankError) → IsNoted interval t noted
    → ((w : World) → IsAt before w → StandsFor noted w → IsUnshared w → IsRead mid behind (Err e) w) → Performs t mid before behind (λ w w'. RefreshesSet interval w w' (Some (bank_fault e)))
set_failed t noted mid before behind interval e notes reads = λ w at stands apart.
    let r = reads (record w { tier = refresh_tried interval w.tier }) (moved_at before w (refresh_tried interval w.tier) at) (notes w stands) apart in
    record {
      world = r.world;
      at = r.at;
      stands = r.stands;
      is = record {
        result = Err e;
        mid = r.world;
        call = one_call (TellsPosition (Err e)) w r.world (refresh_tried interval w.tier) r.call;
        tier = r.tier;
        goes_on = (refl, refl);
      };
    }
