-- Worlds behind a call of the bank in which the tier stands, and what a call keeps of a site.
use Rattle.std.proofs.Common.{◌≡◌, ℕ, Bool, true, false, ◌||◌, Option, Some, None, List, [], ◌∷◌, ◌++◌, append_assoc, inl, inr, refl, sym, subst, ap, ◌∙◌}
use Rattle.std.specs.List.{list_any}
use Rattle.table_state.specs.declared.history.Sealed.{Sealed}
use Rattle.outside.specs.Calls as site
use Rattle.outside.specs.Holding.{Held}
use Rattle.cache_tier.specs.Shown.{shown_state}
use Rattle.cache_tier.specs.TierStates.{Tier}
use Rattle.cache_tier.specs.Worlds.{World}
use Rattle.cache_tier.specs.Events.{at_history, with_tier}
use Rattle.cache_tier.specs.StandingBetween.{Stands}
use Rattle.stored_tier.specs.declared.tier.Tier.{Tier as Stored}
use Rattle.stored_tier.specs.Performing.{AreLast, IsPerformed, KeepsSlots, StandsFor, Waits, meets}
use Rattle.stored_tier.specs.Sites.{IsAt}
use Rattle.outside.specs.Sites.{SiteState}
use Rattle.stored_tier.specs.Stored.{HidesRows, IsStoredAs, rows_of}
use Rattle.stored_tier.proofs.BankLaws.{behind, behind_at}

-- the transactions that are unsettled are the last ones: behind a commit, and where some have left

waits_more : (earlier behind us : List Sealed) (x : Sealed) → Waits earlier behind us → Waits earlier (behind ++ x ∷ []) (us ++ x ∷ [])
waits_more earlier [] us x none = inl ([], ap (λ l. l ++ x ∷ []) none, refl)
waits_more earlier (y ∷ behind) us x (inl one) = inl (one.0 ++ x ∷ [], ap (λ l. l ++ x ∷ []) one.1, waits_more (y ∷ earlier) behind one.0 x one.2)
waits_more earlier (y ∷ behind) us x (inr one) = inr (one.0, waits_more earlier behind us x one.1)

pub last_more : (log unsettled : List Sealed) (x : Sealed) → AreLast log unsettled → AreLast (log ++ x ∷ []) (unsettled ++ x ∷ [])
last_more log unsettled x last = record {
  settled = last.settled;
  behind = last.behind ++ x ∷ [];
  is = ap (λ xs. xs ++ x ∷ []) last.is ∙ append_assoc last.settled last.behind (x ∷ []);
  waits = waits_more [] last.behind unsettled x last.waits;
}

neither : (a b : Bool) → (a || b) ≡ false → (a ≡ false) × (b ≡ false)
neither true b e = cc
neither false b e = (refl, e)

waits_once : (earlier behind us : List Sealed) (x : Sealed) → list_any (λ u. meets x.ops u.ops) earlier ≡ false → list_any (λ u. meets x.ops u.ops) us ≡ false → Waits earlier behind us → Waits earlier (behind ++ x ∷ []) us
waits_once earlier [] us x apart free none = inr (apart, none)
waits_once earlier (y ∷ behind) us x apart free (inl one) =
    let both = neither (meets x.ops y.ops) (list_any (λ u. meets x.ops u.ops) one.0) (sym (ap (list_any (λ u. meets x.ops u.ops)) one.1) ∙ free) in
    inl (one.0, one.1, waits_once (y ∷ earlier) behind one.0 x (λ i. both.0 i || apart i) both.1 one.2)
waits_once earlier (y ∷ behind) us x apart free (inr one) = inr (one.0, waits_once earlier behind us x apart free one.1)

-- and behind one that is settled at once
pub last_at_once : (log unsettled : List Sealed) (x : Sealed) → list_any (λ u. meets x.ops u.ops) unsettled ≡ false → AreLast log unsettled → AreLast (log ++ x ∷ []) unsettled
last_at_once log unsettled x free last = record {
  settled = last.settled;
  behind = last.behind ++ x ∷ [];
  is = ap (λ xs. xs ++ x ∷ []) last.is ∙ append_assoc last.settled last.behind (x ∷ []);
  waits = waits_once [] last.behind unsettled x refl free last.waits;
}

or_false : (a b c : Bool) → (a || b) ≡ false → (b ≡ false → c ≡ false) → (a || c) ≡ false
or_false true b c e f = cc
or_false false b c e f = f e

waits_fewer : (earlier fewer behind us : List Sealed) → ((p : Sealed → Bool) → list_any p earlier ≡ false → list_any p fewer ≡ false) → Waits earlier behind us → Waits fewer behind us
waits_fewer earlier fewer [] us less none = none
waits_fewer earlier fewer (x ∷ behind) us less (inl one) =
    inl (one.0, one.1, waits_fewer (x ∷ earlier) (x ∷ fewer) behind one.0 (λ p none. or_false (p x) (list_any p earlier) (list_any p fewer) none (less p)) one.2)
waits_fewer earlier fewer (x ∷ behind) us less (inr one) =
    inr (less (λ u. meets x.ops u.ops) one.0, waits_fewer earlier fewer behind us less one.1)

record WaitsFrom (behind us : List Sealed) : Type 0 where
  front : List Sealed
  later : List Sealed
  is : behind ≡ front ++ later
  waits : Waits [] later us

waits_first : (earlier behind : List Sealed) (u : Sealed) (us : List Sealed) → Waits earlier behind (u ∷ us) → WaitsFrom behind us
waits_first earlier [] u us none = cc
waits_first earlier (x ∷ behind) u us (inl one) =
    let is : u ∷ us ≡ x ∷ one.0 = one.1 in
    let rest : one.0 ≡ us = cc in
    record {
      front = x ∷ [];
      later = behind;
      is = refl;
      waits = waits_fewer (x ∷ earlier) [] behind us (λ p none. refl) (subst (Waits (x ∷ earlier) behind) rest one.2);
    }
waits_first earlier (x ∷ behind) u us (inr one) =
    let r = waits_first earlier behind u us one.1 in
    record { front = x ∷ r.front; later = r.later; is = ap (λ l. x ∷ l) r.is; waits = r.waits }

pub last_rest : (log unsettled gone rest : List Sealed) → unsettled ≡ gone ++ rest → AreLast log unsettled → AreLast log rest
last_rest log unsettled [] rest is last = subst (AreLast log) is last
last_rest log unsettled (g ∷ gone) rest is last =
    let from = waits_first [] last.behind g (gone ++ rest) (subst (Waits [] last.behind) is last.waits) in
    last_rest log (gone ++ rest) gone rest refl
    (record {
      settled = last.settled ++ from.front;
      behind = from.later;
      is = last.is ∙ ap (λ l. last.settled ++ l) from.is ∙ sym (append_assoc last.settled from.front from.later);
      waits = from.waits;
    })

-- that a tier stands asks for no count and no moment
pub stands_counted : (w : World) (faults moment : ℕ) → Stands w → Stands (record w { bank_faults = faults; moment = moment })
stands_counted w faults moment x = record {
  flow = x.flow;
  schema = record { front = x.schema.front; whole = x.schema.whole };
  catalog = x.catalog;
  keys = x.keys;
  read = x.read;
  sessions = x.sessions;
}

-- behind a call
pub stands_behind : (w : World) (a : Tier) (held : Held) (seen : SiteState) → Stands (with_tier a (at_history held.history w)) → Stands (behind w a held seen)
stands_behind w a held seen x = stands_counted (with_tier a (at_history held.history w)) seen.bank_faults seen.moment x

-- the world behind a call, with this tier
pub performed_behind : (new : Stored) (before after : SiteState) (w : World) (a : Tier) (held : Held) (does : World → Type 0) → IsAt before w → after.held ≡ Some held → after.shared ≡ before.shared → AreLast a.log a.unsettled
    → IsStoredAs new a → rows_of new ≡ shown_state held.history a → HidesRows new held.history → Stands (with_tier a (at_history held.history w)) → does (behind w a held after) → IsPerformed new after does
performed_behind new before after w a held does at told shares waits stored shows hides stands is = record {
  world = behind w a held after;
  at = behind_at w a before after held at told shares;
  stands = record { stored = stored; shows = shows; hides = hides; stands = stands_behind w a held after stands; waits = waits };
  is = is;
}

-- the tier stands for the world as it was, where nothing was called
pub performed_here : (new : Stored) (seen : SiteState) (w : World) (does : World → Type 0) → IsAt seen w → StandsFor new w → does w → IsPerformed new seen does
performed_here new seen w does at stands is = record { world = w; at = at; stands = stands; is = is }

-- a step that keeps the slots
pub slots_kept : (was now : Option Held) (step : Held → Held → Type 0) → ((o n : Held) → step o n → n.slots ≡ o.slots) → site.Told was now step → KeepsSlots was now
slots_kept None now step keeps told = tt
slots_kept (Some o) None step keeps told = absurd told
slots_kept (Some o) (Some n) step keeps told = keeps o n told
