-- That a refresh was tried is noted.
use Rattle.std.proofs.Common.{◌≡◌, ℕ, Bool, true, false, cond, not, ◌||◌, nat_eq, Some, List, [], ◌∷◌, map, filter, find, unwrap_or, refl, sym, ap, ◌∙◌}
use Rattle.std.proofs.lemmas.Bool.{eq-eqb, eqb-true}
use Rattle.std.specs.Option.{option_map}
use Rattle.cache_tier.specs.TierStates.{SetState, Tier, is_of_interval, refresh_tried}
use Rattle.cache_tier.specs.Worlds.{World}
use Rattle.cache_tier.specs.StandingBetween.{Stands}
use Rattle.stored_tier.specs.declared.moments.SetMoment.{SetMoment}
use Rattle.stored_tier.specs.declared.clock.TierClock.{TierClock}
use Rattle.stored_tier.specs.declared.tier.Tier.{Tier as Stored}
use Rattle.stored_tier.specs.Performing.{StandsFor}
use Rattle.stored_tier.specs.Refreshing.{has_moment, moment_in, moments_with}
use Rattle.stored_tier.specs.Stored.{IsSound, IsStoredAs, KeepsTime}
use Rattle.stored_tier.specs.Moments.{refreshed_in, set_seen}

-- the set that was tried

noted_there : (interval now : ℕ) (sets : List SetMoment) → has_moment sets interval ≡ true → moment_in (moments_with interval now sets) interval ≡ now
noted_there interval now [] e = cc
noted_there interval now (s ∷ sets) e = by (nat_eq s.interval interval) refl e (noted_there interval now sets)
  where
    by : (b : Bool) → nat_eq s.interval interval ≡ b → (b || has_moment sets interval) ≡ true → (has_moment sets interval ≡ true → moment_in (moments_with interval now sets) interval ≡ now)
        → unwrap_or (option_map (λ (x : SetState). x.refreshed) (find (is_of_interval interval) (set_seen (cond (nat_eq s.interval interval) (record s { refreshed = now }) s) ∷ map set_seen (moments_with interval now sets)))) 0 ≡ now
    by true is h rest =
        ap (λ b. unwrap_or (option_map (λ (x : SetState). x.refreshed) (find (is_of_interval interval) (set_seen (cond b (record s { refreshed = now }) s) ∷ map set_seen (moments_with interval now sets)))) 0) is
        ∙ ap (λ b. unwrap_or (option_map (λ (x : SetState). x.refreshed) (cond b (Some (set_seen (record s { refreshed = now }))) (find (is_of_interval interval) (map set_seen (moments_with interval now sets))))) 0) is
    by false is h rest =
        ap (λ b. unwrap_or (option_map (λ (x : SetState). x.refreshed) (find (is_of_interval interval) (set_seen (cond b (record s { refreshed = now }) s) ∷ map set_seen (moments_with interval now sets)))) 0) is
        ∙ ap (λ b. unwrap_or (option_map (λ (x : SetState). x.refreshed) (cond b (Some (set_seen s)) (find (is_of_interval interval) (map set_seen (moments_with interval now sets))))) 0) is
        ∙ rest h

-- another

differs : (a b i : ℕ) → nat_eq a b ≡ false → nat_eq i b ≡ true → nat_eq i a ≡ false
differs a b i other e = by (nat_eq i a) refl
  where
    by : (t : Bool) → nat_eq i a ≡ t → t ≡ false
    by false h = refl
    by true h =
        let one : i ≡ a = eqb-true i a h in
        let two : i ≡ b = eqb-true i b e in
        let wrong : true ≡ false = sym (eq-eqb a b (sym one ∙ two)) ∙ other in cc

noted_else : (interval now i : ℕ) (sets : List SetMoment) → nat_eq interval i ≡ false → moment_in (moments_with interval now sets) i ≡ moment_in sets i
noted_else interval now i [] other = refl
noted_else interval now i (s ∷ sets) other = by (nat_eq s.interval i) refl (noted_else interval now i sets other)
  where
    kept : (b : Bool) → (cond b (record s { refreshed = now }) s).interval ≡ s.interval
    kept true = refl
    kept false = refl

    by : (b : Bool) → nat_eq s.interval i ≡ b → moment_in (moments_with interval now sets) i ≡ moment_in sets i
        → unwrap_or (option_map (λ (x : SetState). x.refreshed) (cond (nat_eq (cond (nat_eq s.interval interval) (record s { refreshed = now }) s).interval i) (Some (set_seen (cond (nat_eq s.interval interval) (record s { refreshed = now }) s))) (find (is_of_interval i) (map set_seen (moments_with interval now sets))))) 0
        ≡ unwrap_or (option_map (λ (x : SetState). x.refreshed) (cond (nat_eq s.interval i) (Some (set_seen s)) (find (is_of_interval i) (map set_seen sets)))) 0
    by true is rest =
        ap (λ b. unwrap_or (option_map (λ (x : SetState). x.refreshed) (cond (nat_eq (cond b (record s { refreshed = now }) s).interval i) (Some (set_seen (cond b (record s { refreshed = now }) s))) (find (is_of_interval i) (map set_seen (moments_with interval now sets))))) 0)
        (differs interval i s.interval other is)
        ∙ ap (λ b. unwrap_or (option_map (λ (x : SetState). x.refreshed) (cond b (Some (set_seen s)) (find (is_of_interval i) (map set_seen (moments_with interval now sets))))) 0) is
        ∙ sym (ap (λ b. unwrap_or (option_map (λ (x : SetState). x.refreshed) (cond b (Some (set_seen s)) (find (is_of_interval i) (map set_seen sets)))) 0) is)
    by false is rest =
        ap (λ b. unwrap_or (option_map (λ (x : SetState). x.refreshed) (cond b (Some (set_seen (cond (nat_eq s.interval interval) (record s { refreshed = now }) s))) (find (is_of_interval i) (map set_seen (moments_with interval now sets))))) 0)
        (ap (λ m. nat_eq m i) (kept (nat_eq s.interval interval)) ∙ is)
        ∙ rest
        ∙ sym (ap (λ b. unwrap_or (option_map (λ (x : SetState). x.refreshed) (cond b (Some (set_seen s)) (find (is_of_interval i) (map set_seen sets)))) 0) is)

-- the abstract tier's sets

tried_else : (interval i : ℕ) (sets : List SetState) → nat_eq interval i ≡ false → find (is_of_interval i) (filter (λ s. not (is_of_interval interval s)) sets) ≡ find (is_of_interval i) sets
tried_else interval i [] other = refl
tried_else interval i (s ∷ sets) other = by (nat_eq s.interval i) refl (tried_else interval i sets other)
  where
    by : (b : Bool) → nat_eq s.interval i ≡ b → find (is_of_interval i) (filter (λ x. not (is_of_interval interval x)) sets) ≡ find (is_of_interval i) sets
        → find (is_of_interval i) (cond (not (nat_eq s.interval interval)) (s ∷ filter (λ x. not (is_of_interval interval x)) sets) (filter (λ x. not (is_of_interval interval x)) sets)) ≡ cond (nat_eq s.interval i) (Some s) (find (is_of_interval i) sets)
    by true is rest =
        ap (λ b. find (is_of_interval i) (cond (not b) (s ∷ filter (λ x. not (is_of_interval interval x)) sets) (filter (λ x. not (is_of_interval interval x)) sets))) (differs interval i s.interval other is)
        ∙ ap (λ b. cond b (Some s) (find (is_of_interval i) (filter (λ x. not (is_of_interval interval x)) sets))) is
        ∙ sym (ap (λ b. cond b (Some s) (find (is_of_interval i) sets)) is)
    by false is rest = of (nat_eq s.interval interval) ∙ rest ∙ sym (ap (λ b. cond b (Some s) (find (is_of_interval i) sets)) is)
      where
        of : (c : Bool) → find (is_of_interval i) (cond (not c) (s ∷ filter (λ x. not (is_of_interval interval x)) sets) (filter (λ x. not (is_of_interval interval x)) sets)) ≡ find (is_of_interval i) (filter (λ x. not (is_of_interval interval x)) sets)
        of true = refl
        of false = ap (λ b. cond b (Some s) (find (is_of_interval i) (filter (λ x. not (is_of_interval interval x)) sets))) is

pub tried_moments : (interval now i : ℕ) (sets : List SetState) (kept : List SetMoment) → has_moment kept interval ≡ true → ((j : ℕ) → refreshed_in sets j ≡ moment_in kept j)
    → refreshed_in (record { interval = interval; refreshed = now } ∷ filter (λ s. not (is_of_interval interval s)) sets) i ≡ moment_in (moments_with interval now kept) i
tried_moments interval now i sets kept has same = by (nat_eq interval i) refl
  where
    by : (b : Bool) → nat_eq interval i ≡ b → unwrap_or (option_map (λ (s : SetState). s.refreshed) (cond (nat_eq interval i) (Some (record { interval = interval; refreshed = now })) (find (is_of_interval i) (filter (λ s. not (is_of_interval interval s)) sets)))) 0 ≡ moment_in (moments_with interval now kept) i
    by true is =
        ap (λ b. unwrap_or (option_map (λ (s : SetState). s.refreshed) (cond b (Some (record { interval = interval; refreshed = now })) (find (is_of_interval i) (filter (λ s. not (is_of_interval interval s)) sets)))) 0) is
        ∙ sym (noted_there interval now kept has)
        ∙ ap (moment_in (moments_with interval now kept)) (eqb-true interval i is)
    by false is =
        ap (λ b. unwrap_or (option_map (λ (s : SetState). s.refreshed) (cond b (Some (record { interval = interval; refreshed = now })) (find (is_of_interval i) (filter (λ s. not (is_of_interval interval s)) sets)))) 0) is
        ∙ ap (λ o. unwrap_or (option_map (λ (s : SetState). s.refreshed) o) 0) (tried_else interval i sets is)
        ∙ same i ∙ sym (noted_else interval now i kept is)

-- when sets were refreshed plays no part in what stands
pub stands_tried : (w : World) (sets : List SetState) → Stands w → Stands (record w { tier = record w.tier { sets = sets } })
stands_tried w sets x = record {
  flow = x.flow;
  schema = record { front = x.schema.front; whole = x.schema.whole };
  catalog = record { each = x.catalog.each; apart = x.catalog.apart };
  keys = x.keys;
  read = x.read;
  sessions = x.sessions;
}

-- another note of moments
abbrev pub with_sets : Stored → TierClock → Stored
with_sets t c = record t { clock = c }

pub sound_noted : (t : Stored) (c : TierClock) → IsSound t → IsSound (with_sets t c)
sound_noted t c s = record {
  sessions = s.sessions;
  stores = s.stores;
  kept = s.kept;
  whole = s.whole;
  hiding = s.hiding;
  plain = s.plain;
  named = s.named;
  visible = s.visible;
  numbered = s.numbered;
  later = s.later;
  writers = s.writers;
  verified = λ e. record { rows = (s.verified e).rows; own = (s.verified e).own };
}

-- the clock's other parts
pub record SameClock (c d : TierClock) : Type 0 where
  pub now : d.now ≡ c.now
  pub added : d.added ≡ c.added
  pub round : d.round ≡ c.round
  pub due : d.pace ≡ c.pace

stored_with : (t : Stored) (c : TierClock) (a : Tier) (sets : List SetState) → IsStoredAs t a → KeepsTime c a.now a.added a.round sets a.settings → IsStoredAs (with_sets t c) (record a { sets = sets })
stored_with t c a sets is time = record {
  schema = is.schema;
  stale = is.stale;
  groups = is.groups;
  lists = is.lists;
  sessions = is.sessions;
  unsettled = is.unsettled;
  next = is.next;
  doubt = is.doubt;
  time = time;
}

-- an entry without a moment, or none: the same
pub stands_entered : (t : Stored) (c : TierClock) (w : World) → SameClock t.clock c → ((i : ℕ) → moment_in c.sets.items i ≡ moment_in t.clock.sets.items i) → StandsFor t w → StandsFor (with_sets t c) w
stands_entered t c w same moments x = record {
  stored = record {
    schema = x.stored.schema;
    stale = x.stored.stale;
    groups = x.stored.groups;
    lists = x.stored.lists;
    sessions = x.stored.sessions;
    unsettled = x.stored.unsettled;
    next = x.stored.next;
    doubt = x.stored.doubt;
    time = record {
      moment = x.stored.time.moment ∙ sym same.now;
      additions = x.stored.time.additions ∙ sym same.added;
      tried = x.stored.time.tried ∙ sym same.round;
      refreshes = λ i. x.stored.time.refreshes i ∙ sym (moments i);
      due = x.stored.time.due ∙ sym same.due;
    };
  };
  shows = x.shows;
  hides = x.hides;
  stands = x.stands;
  waits = x.waits;
}

-- a refresh that is tried
pub stands_noted : (t : Stored) (c : TierClock) (w : World) (interval : ℕ) → SameClock t.clock c → c.sets.items ≡ moments_with interval t.clock.now t.clock.sets.items → has_moment t.clock.sets.items interval ≡ true → StandsFor t w
    → StandsFor (with_sets t c) (record w { tier = refresh_tried interval w.tier })
stands_noted t c w interval same sets has x = record {
  stored = stored_with t c w.tier (refresh_tried interval w.tier).sets x.stored (record {
    moment = x.stored.time.moment ∙ sym same.now;
    additions = x.stored.time.additions ∙ sym same.added;
    tried = x.stored.time.tried ∙ sym same.round;
    refreshes = λ i.
        ap (λ n. refreshed_in (record { interval = interval; refreshed = n } ∷ filter (λ s. not (is_of_interval interval s)) w.tier.sets) i) x.stored.time.moment
        ∙ tried_moments interval t.clock.now i w.tier.sets t.clock.sets.items has x.stored.time.refreshes
        ∙ ap (λ l. moment_in l i) (sym sets);
    due = x.stored.time.due ∙ sym same.due;
  });
  shows = x.shows;
  hides = x.hides;
  stands = stands_tried w (refresh_tried interval w.tier).sets x.stands;
  waits = x.waits;
}

-- an entry was made, and then the refresh that was tried noted
pub stands_made : (t : Stored) (c d : TierClock) (w : World) (interval : ℕ) → SameClock t.clock c → SameClock c d → ((i : ℕ) → moment_in c.sets.items i ≡ moment_in t.clock.sets.items i) → has_moment c.sets.items interval ≡ true
    → d.sets.items ≡ moments_with interval c.now c.sets.items → StandsFor t w → StandsFor (with_sets t d) (record w { tier = refresh_tried interval w.tier })
stands_made t c d w interval first second moments has sets x = stands_noted (with_sets t c) d w interval second sets has (stands_entered t c w first moments x)
