-- What a new moment, and a refresh that was tried, leave of what is stored.
use Rattle.std.proofs.Common.{◌≡◌, ℕ, Bool, true, false, cond, not, ◌||◌, nat_eq, find, filter, Option, Some, None, List, [], ◌∷◌, ◌++◌, map, unwrap_or, refl, sym, ap, subst, ◌∙◌, arith}
use Rattle.std.specs.Prelude.{Err}
use Rattle.std.specs.Bool.{MatchBool}
use Rattle.std.specs.Option.{option_map}
use Rattle.std.proofs.lemmas.Bool.{eqb-true}
use Rattle.std.proofs.lemmas.List.{append-nil}
use Rattle.tier_base.specs.declared.code.Code.TheVariants as code
use Rattle.outside.specs.declared.fault.BankError.{BankError}
use Rattle.outside.specs.declared.fault.BankError.TheVariants as bank
use Rattle.cache_tier.specs.Sets.{RefreshesIfShown, RefreshesSet, shows_something}
use Rattle.cache_tier.specs.TierStates.{SetState, Tier, is_of_interval, refresh_tried}
use Rattle.cache_tier.specs.Worlds.{Passes, World, bank_fault, faulty}
use Rattle.cache_tier.specs.declared.reply.Reply.{Reply}
use Rattle.cache_tier.specs.Events.{with_tier}
use Rattle.cache_tier.specs.StandingBetween.{Stands}
use Rattle.stored_tier.specs.declared.moments.SetMoment.{SetMoment}
use Rattle.stored_tier.specs.declared.clock.TierClock.{TierClock}
use Rattle.stored_tier.specs.declared.tier.Tier.{Tier as Stored}
use Rattle.stored_tier.specs.Performing.{Performs}
use Rattle.stored_tier.specs.Refreshing.{has_moment, is_noted, moment_in, moments_with}
use Rattle.outside.specs.Sites.{SiteState}
use Rattle.stored_tier.specs.Stored.{IsSound, IsStoredAs, KeepsTime}
use Rattle.stored_tier.specs.Moments.{refreshed_in, set_seen}
use Rattle.stored_tier.proofs.QuietLaws.{at_still}

-- another clock

pub sound_clocked : (t : Stored) (clock : TierClock) → IsSound t → IsSound (record t { clock = clock })
sound_clocked t clock sound = record {
  sessions = sound.sessions;
  stores = sound.stores;
  kept = sound.kept;
  whole = sound.whole;
  hiding = sound.hiding;
  plain = sound.plain;
  named = sound.named;
  visible = sound.visible;
  numbered = sound.numbered;
  later = sound.later;
  writers = sound.writers;
  verified = λ is. let v = sound.verified is in record { rows = v.rows; own = v.own };
}

pub stored_clocked : (t : Stored) (clock : TierClock) (a : Tier) (now added : ℕ) (sets : List SetState) → IsStoredAs t a → KeepsTime clock now added a.round sets a.settings
    → IsStoredAs (record t { clock = clock }) (record a { now = now; added = added; sets = sets })
stored_clocked t clock a now added sets is time = record {
  schema = is.schema;
  stale = is.stale;
  groups = is.groups;
  lists = is.lists;
  sessions = is.sessions;
  unsettled = is.unsettled;
  next = is.next;
  doubt = is.doubt;
  time = time;
}

pub stands_clocked : (w : World) (now added : ℕ) (sets : List SetState) → Stands w → Stands (with_tier (record (w.tier) { now = now; added = added; sets = sets }) w)
stands_clocked w now added sets x = record {
  flow = x.flow;
  schema = record { front = x.schema.front; whole = x.schema.whole };
  catalog = record { each = x.catalog.each; apart = x.catalog.apart };
  keys = x.keys;
  read = x.read;
  sessions = x.sessions;
}

-- the moments of refreshes

pub others_kept : (interval i : ℕ) (sets : List SetState) → nat_eq interval i ≡ false → refreshed_in (filter (λ s. not (is_of_interval interval s)) sets) i ≡ refreshed_in sets i
others_kept interval i [] other = refl
others_kept interval i (s ∷ sets) other = by (nat_eq s.interval interval) refl (others_kept interval i sets other)
  where
    by : (b : Bool) → nat_eq s.interval interval ≡ b → refreshed_in (filter (λ x. not (is_of_interval interval x)) sets) i ≡ refreshed_in sets i
        → refreshed_in (cond (not b) (s ∷ filter (λ x. not (is_of_interval interval x)) sets) (filter (λ x. not (is_of_interval interval x)) sets)) i ≡ refreshed_in (s ∷ sets) i
    by true e rest =
        let same : s.interval ≡ interval = eqb-true s.interval interval e in
        rest ∙ sym (ap (λ b. unwrap_or (option_map (λ (x : SetState). x.refreshed) (cond b (Some s) (find (is_of_interval i) sets))) 0) (ap (λ n. nat_eq n i) same ∙ other))
    by false e rest = of (nat_eq s.interval i)
      where
        of : (b : Bool) → unwrap_or (option_map (λ (x : SetState). x.refreshed) (cond b (Some s) (find (is_of_interval i) (filter (λ x. not (is_of_interval interval x)) sets)))) 0
            ≡ unwrap_or (option_map (λ (x : SetState). x.refreshed) (cond b (Some s) (find (is_of_interval i) sets))) 0
        of true = refl
        of false = rest

pub noted_elsewhere : (interval now i : ℕ) (sets : List SetMoment) → nat_eq interval i ≡ false → moment_in (moments_with interval now sets) i ≡ moment_in sets i
noted_elsewhere interval now i [] other = refl
noted_elsewhere interval now i (s ∷ sets) other = by (nat_eq s.interval interval) refl (noted_elsewhere interval now i sets other)
  where
    first : (x : SetMoment) (l : List SetMoment) → moment_in (x ∷ l) i ≡ cond (nat_eq x.interval i) x.refreshed (moment_in l i)
    first x l = of (nat_eq x.interval i)
      where
        of : (b : Bool) → unwrap_or (option_map (λ (y : SetState). y.refreshed) (cond b (Some (set_seen x)) (find (is_of_interval i) (map set_seen l)))) 0 ≡ cond b x.refreshed (moment_in l i)
        of true = refl
        of false = refl

    by : (b : Bool) → nat_eq s.interval interval ≡ b → moment_in (moments_with interval now sets) i ≡ moment_in sets i
        → moment_in (cond b (record s { refreshed = now }) s ∷ moments_with interval now sets) i ≡ moment_in (s ∷ sets) i
    by true e rest =
        let same : s.interval ≡ interval = eqb-true s.interval interval e in
        let not_so : nat_eq s.interval i ≡ false = ap (λ n. nat_eq n i) same ∙ other in
        first (record s { refreshed = now }) (moments_with interval now sets)
        ∙ ap (λ b. cond b now (moment_in (moments_with interval now sets) i)) not_so ∙ rest
        ∙ sym (ap (λ b. cond b s.refreshed (moment_in sets i)) not_so) ∙ sym (first s sets)
    by false e rest = first s (moments_with interval now sets) ∙ ap (λ n. cond (nat_eq s.interval i) s.refreshed n) rest ∙ sym (first s sets)

pub noted_there : (interval now : ℕ) (sets : List SetMoment) → has_moment sets interval ≡ true → moment_in (moments_with interval now sets) interval ≡ now
noted_there interval now [] has = cc
noted_there interval now (s ∷ sets) has = by (nat_eq s.interval interval) refl has (noted_there interval now sets)
  where
    by : (b : Bool) → nat_eq s.interval interval ≡ b → (b || has_moment sets interval) ≡ true → (has_moment sets interval ≡ true → moment_in (moments_with interval now sets) interval ≡ now)
        → moment_in (cond b (record s { refreshed = now }) s ∷ moments_with interval now sets) interval ≡ now
    by true e has_it rest = ap (λ b. unwrap_or (option_map (λ (y : SetState). y.refreshed) (cond b (Some (set_seen (record s { refreshed = now }))) (find (is_of_interval interval) (map set_seen (moments_with interval now sets))))) 0) e
    by false e has_it rest = ap (λ b. unwrap_or (option_map (λ (y : SetState). y.refreshed) (cond b (Some (set_seen s)) (find (is_of_interval interval) (map set_seen (moments_with interval now sets))))) 0) e ∙ rest has_it

pub entries_noted : (interval now i : ℕ) (sets : List SetMoment) → has_moment (moments_with interval now sets) i ≡ has_moment sets i
entries_noted interval now i [] = refl
entries_noted interval now i (s ∷ sets) = λ j. nat_eq (first j) i || entries_noted interval now i sets j
  where
    by : (b : Bool) → (cond b (record s { refreshed = now }) s).interval ≡ s.interval
    by true = refl
    by false = refl

    first : (cond (is_noted interval s) (record s { refreshed = now }) s).interval ≡ s.interval
    first = by (is_noted interval s)

pub tried_in : (interval now i : ℕ) (sets : List SetState) (kept : List SetMoment) → has_moment kept interval ≡ true → refreshed_in sets i ≡ moment_in kept i
    → refreshed_in (record { interval = interval; refreshed = now } ∷ filter (λ s. not (is_of_interval interval s)) sets) i ≡ moment_in (moments_with interval now kept) i
tried_in interval now i sets kept has same = by (nat_eq interval i) refl
  where
    by : (b : Bool) → nat_eq interval i ≡ b → unwrap_or (option_map (λ (x : SetState). x.refreshed) (cond b (Some (record { interval = interval; refreshed = now })) (find (is_of_interval i) (filter (λ s. not (is_of_interval interval s)) sets)))) 0
        ≡ moment_in (moments_with interval now kept) i
    by true e = sym (ap (moment_in (moments_with interval now kept)) (sym (eqb-true interval i e)) ∙ noted_there interval now kept has)
    by false e = others_kept interval i sets e ∙ same ∙ sym (noted_elsewhere interval now i kept e)

-- a refresh for which memory was wanting

-- whether something is shown in the set of an interval, as each tier that is stored has it
abbrev pub TellsShown : Stored → ℕ → Bool → Type 0
TellsShown t interval shows = (a : Tier) → IsStoredAs t a → shows ≡ shows_something interval a.groups

pub refresh_passes : (t : Stored) (b : SiteState) (interval : ℕ) (shows : Bool) → TellsShown t interval shows → shows ≡ false → Performs t t b b (λ w w'. RefreshesIfShown interval w w' None)
refresh_passes t b interval shows tells not_so w at stands apart = record {
  world = w;
  at = at;
  stands = stands;
  is = subst (λ x. MatchBool x (RefreshesSet interval w w None) (Passes w w None)) (sym (sym (tells w.tier stands.stored) ∙ not_so)) (refl, refl);
}

pub refresh_wanting : (t : Stored) (clock : TierClock) (b : SiteState) (interval : ℕ) (shows : Bool) → TellsShown t interval shows → has_moment t.clock.sets.items interval ≡ true → shows ≡ true
    → clock ≡ record (t.clock) { sets = clock.sets } → clock.sets.items ≡ moments_with interval t.clock.now t.clock.sets.items
    → Performs t (record t { clock = clock }) b b (λ w w'. RefreshesIfShown interval w w' (Some (faulty code.Memory)))
refresh_wanting t clock b interval shows tells has shown same moments w at stands apart =
    let a = w.tier in
    let w' = with_tier (refresh_tried interval a) w in
    let was = stands.stored.time in
    let time : KeepsTime clock a.now a.added a.round (refresh_tried interval a).sets a.settings = record {
      moment = was.moment ∙ sym (ap (λ c. c.now) same);
      additions = was.additions ∙ sym (ap (λ c. c.added) same);
      tried = was.tried ∙ sym (ap (λ c. c.round) same);
      refreshes = λ i.
          tried_in interval a.now i a.sets t.clock.sets.items has (was.refreshes i)
          ∙ ap (λ n. moment_in (moments_with interval n t.clock.sets.items) i) was.moment
          ∙ ap (λ l. moment_in l i) (sym moments);
      due = was.due ∙ sym (ap (λ c. c.pace) same);
    } in
    let again = append-nil w.history in
    record {
      world = w';
      at = at_still b w (refresh_tried interval a) at;
      stands = record {
        stored = stored_clocked t clock a a.now a.added (refresh_tried interval a).sets stands.stored time;
        shows = stands.shows;
        hides = stands.hides;
        stands = stands_clocked w a.now a.added (refresh_tried interval a).sets stands.stands;
        waits = stands.waits;
      };
      is = subst (λ x. MatchBool x (RefreshesSet interval w w' (Some (faulty code.Memory))) (Passes w w' (Some (faulty code.Memory)))) (sym (sym (tells w.tier stands.stored) ∙ shown))
          (record {
            result = Err bank.Memory;
            mid = w';
            call = record {
              history = record {
                before = [];
                middle = w.history;
                behind = [];
                came_before = tt;
                own = sym (append-nil (w.history ++ []) ∙ again);
                came_behind = tt;
                is = sym again;
              };
              journal = refl;
              faults = omega arith;
              disk = refl;
              moment = omega arith;
              shared = refl;
            };
            tier = refl;
            goes_on = (refl, refl);
          });
    }

pub refresh_told : (t : Stored) (clock : TierClock) (b : SiteState) (interval : ℕ) (shows : Bool) (reply : Reply) → TellsShown t interval shows → has_moment t.clock.sets.items interval ≡ true → shows ≡ true
    → clock ≡ record (t.clock) { sets = clock.sets } → clock.sets.items ≡ moments_with interval t.clock.now t.clock.sets.items → reply ≡ faulty code.Memory
    → Performs t (record t { clock = clock }) b b (λ w w'. RefreshesIfShown interval w w' (Some reply))
refresh_told t clock b interval shows reply tells has shown same moments told =
    subst (λ r. Performs t (record t { clock = clock }) b b (λ w w'. RefreshesIfShown interval w w' (Some r))) (sym told)
    (refresh_wanting t clock b interval shows tells has shown same moments)

-- a set that shows something is refreshed
pub refresh_does : (t new : Stored) (b b' : SiteState) (interval : ℕ) (shows : Bool) (stop : Option Reply) → TellsShown t interval shows → shows ≡ true
    → Performs t new b b' (λ w w'. RefreshesSet interval w w' stop) → Performs t new b b' (λ w w'. RefreshesIfShown interval w w' stop)
refresh_does t new b b' interval shows stop tells shown does w at stands apart =
    let x = does w at stands apart in
    record {
      world = x.world;
      at = x.at;
      stands = x.stands;
      is = subst (λ y. MatchBool y (RefreshesSet interval w x.world stop) (Passes w x.world stop)) (sym (sym (tells w.tier stands.stored) ∙ shown)) x.is;
    }

-- the same with the reply that tells the fault of its call
pub refresh_failed : (t new : Stored) (b b' : SiteState) (interval : ℕ) (shows : Bool) (e : BankError) (reply : Reply) → TellsShown t interval shows → shows ≡ true
    → Performs t new b b' (λ w w'. RefreshesSet interval w w' (Some (bank_fault e))) → reply ≡ bank_fault e
    → Performs t new b b' (λ w w'. RefreshesIfShown interval w w' (Some reply))
refresh_failed t new b b' interval shows e reply tells shown does told =
    subst (λ r. Performs t new b b' (λ w w'. RefreshesIfShown interval w w' (Some r))) (sym told)
    (refresh_does t new b b' interval shows (Some (bank_fault e)) tells shown does)
