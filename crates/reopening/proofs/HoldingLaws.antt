-- A writethrough group that holds all its instances again, and one such group after the other.
use Rattle.std.proofs.Common.{◌≡◌, ◌≤◌, ◌<◌, inl, inr, ℕ, zero, suc, ◌+◌, Bool, true, false, cond, ◌&&◌, ◌||◌, nat_eq, Option, Some, None, List, [], ◌∷◌, drop, length, map, slice_get, refl, sym, ap, subst, ◌∙◌, arith}
use Rattle.std.specs.Prelude.{Ok, Err}
use Rattle.std.specs.Bool.{MatchBool}
use Rattle.std.specs.FinMap as fm
use Rattle.std.proofs.lemmas.Bool.{eqb-true}
use Rattle.row_types.specs.declared.rule.Refused.{Refused}
use Rattle.row_types.specs.declared.rule.Refused.TheVariants as refused
use Rattle.tier_base.specs.declared.number.TableId.{TableId}
use Rattle.indexed_rows.specs.Rows.{Table}
use Rattle.table_state.specs.Tables.{TableState}
use Rattle.outside.specs.Calls as site
use Rattle.outside.specs.Console.{TakesSnapshot}
use Rattle.outside.specs.Holding.{Held}
use Rattle.outside.specs.Sites.{SiteState}
use Rattle.outside.specs.declared.fault.BankError.{BankError}
use Rattle.outside.specs.declared.fault.BankError.TheVariants.{Memory}
use Rattle.outside.specs.declared.site.Snapshot.{Snapshot}
use Rattle.order_laws.proofs.TruthLaws.{both_true, same_some}
use Rattle.propagators.specs.Certainty.{KeepsCertain}
use Rattle.group_catalog.specs.Catalogs.{groups_in}
use Rattle.cache_tier.specs.declared.reply.Reply.{Reply}
use Rattle.cache_tier.specs.Groups.{Group, is_explicit, is_writethrough, with_keys}
use Rattle.cache_tier.specs.Journals.{no_journal}
use Rattle.cache_tier.specs.Reading.{TellsPosition, backing_at}
use Rattle.cache_tier.specs.Sets.{alone, changed, changed_from}
use Rattle.cache_tier.specs.Targets.{Target, matching, with_flag}
use Rattle.cache_tier.specs.TierStates.{Tier}
use Rattle.cache_tier.specs.Worlds.{BankCall, IsUnshared, Passes, World, bank_fault}
use Rattle.cache_tier.specs.Events.{with_tier}
use Rattle.recovery.specs.Reopening.{HoldAgain, HoldsAgainAt, all_roots, holding, is_held_again}
use Rattle.stored_tier.specs.declared.tier.Tier.{Tier as Stored}
use Rattle.stored_tier.specs.Performing.{IsPerformed, Performs, StandsFor}
use Rattle.stored_tier.specs.Sites.{IsAt}
use Rattle.stored_tier.specs.Stored.{IsSound, without_list}
use Rattle.stored_tier.proofs.FillSteps.{drop_one, drop_past}
use Rattle.stored_tier.proofs.HiddenRows.{hides_still}
use Rattle.stored_tier.proofs.OverLaws.{stands_written}
use Rattle.group_engine.specs.Fresh.{IsRead as IsCallRead}
use Rattle.group_engine.specs.Loaded.{whole_target}
use Rattle.group_engine.specs.Taking.{AsksTree, IsOfTarget, IsSameButRoom, IsSettledAt, MayTake, TakesIn, TakesMatching}
use Rattle.group_engine.proofs.ReadLaws.{not_called, read_failed, snapshot_grows, unmapped, was_read}
use Rattle.group_engine.proofs.TakenLaws as taken
use Rattle.group_engine.proofs.TakenParts.{hidden_room, rows_room, stored_room}
use Rattle.reopening.specs.Reloading.{HoldsIfWanted, IsHeldTo, IsQuiet, IsStillHeld, all_instances, held_again, is_held_at}
use Rattle.reopening.proofs.ViewingLaws.{IsSameBut, still_held, still_passed}

-- one group of several is changed

same_changed : (place : ℕ) (f h : Group → Group) (from : ℕ) (gs : List Group) → ((k : ℕ) (y : Group) → slice_get gs k ≡ Some y → from + k ≡ place → f y ≡ h y) → changed_from (alone place) f from gs ≡ changed_from (alone place) h from gs
same_changed place f h from [] same = refl
same_changed place f h from (y ∷ gs) same =
    let first : cond (nat_eq from place) (f y) y ≡ cond (nat_eq from place) (h y) y = by (nat_eq from place) refl in
    let rest = same_changed place f h (suc from) gs (λ k z at e. same (suc k) z at (omega (arith, e))) in
    λ i. first i ∷ rest i
  where
    by : (b : Bool) → nat_eq from place ≡ b → cond b (f y) y ≡ cond b (h y) y
    by true e = let is : from ≡ place = eqb-true from place e in same 0 y refl (omega (arith, is))
    by false e = refl

-- all instances are those that match where there is no condition
all_matching : (s : TableState) (place : ℕ) (g : Group) → matching s (whole_target place g) ≡ all_roots s g
all_matching s place g = refl

-- where the flag is set it stays
held_so : (m : Table) (g : Group) → is_writethrough g ≡ true → g.loaded ≡ true → with_flag true (record g { keys = with_keys (fm.keys m) g.keys }) ≡ record g { keys = with_keys (fm.keys m) g.keys }
held_so m g writes loaded =
    ap (λ b. cond (b || is_explicit g) (record g { keys = with_keys (fm.keys m) g.keys; loaded = true }) (record g { keys = with_keys (fm.keys m) g.keys })) writes
    ∙ ap (λ b. let x : Group = record g { keys = with_keys (fm.keys m) g.keys; loaded = b } in x) (sym loaded)

-- the group of the world
record IsWanted (w : World) (place : ℕ) : Type 0 where
  group : Group
  there : slice_get w.tier.groups place ≡ Some group
  writes : is_writethrough group ≡ true
  loaded : group.loaded ≡ true

wanted_at : (t : Stored) (w : World) (place : ℕ) (seen : Group) → StandsFor t w → slice_get (groups_in t.catalog) place ≡ Some seen → is_held_again seen ≡ true → IsWanted w place
wanted_at t w place seen stands there wanted =
    let (g, at, same) = unmapped w.tier.groups place seen (ap (λ l. slice_get l place) stands.stored.groups ∙ there) in
    let parts = both_true (is_writethrough g) (is_explicit g && g.loaded) (ap is_held_again same ∙ wanted) in
    record { group = g; there = at; writes = parts.0; loaded = (both_true (is_explicit g) g.loaded parts.1).1 }

-- the snapshot came, and the instances were taken in
module _ {D : Type 0} (state : D → SiteState) (possible : D → ℕ → Held → Type 0) (old : Stored) (d d' : D) (place : ℕ) (sound : IsSound old) (settled : old.unsettled.items ≡ []) (asked : List TableId) (asks : AsksTree old place asked) (snapshot : Snapshot)
    (told : site.Told (state d).held (state d').held (site.BankCall (state d).shared (TakesSnapshot asked (Ok snapshot)))) (faults : (state d).bank_faults ≤ (state d').bank_faults) (moment : (state d).moment ≤ (state d').moment) (shares : (state d').shared ≡ (state d).shared)
    (certain : KeepsCertain state possible d d') (seen : Group) (there : slice_get (groups_in old.catalog) place ≡ Some seen) (wanted : is_held_again seen ≡ true) where
  module _ (new : Stored) (said : Reply) (took : TakesIn old new place all_instances false snapshot.tables said) (sound_new : IsSound new) (w : World) (at : IsAt (state d) w) (stands : StandsFor old w) (apart : IsUnshared w) where
    -- the bank's calls don't look at the journal
    abbrev bare : World
    bare = record w { journal = no_journal }

    at_bare : IsAt (state d) (record w { journal = no_journal })
    at_bare = record { there = at.there; told = at.told; history = at.history; faults = at.faults; moment = at.moment; shared = at.shared }

    stands_bare : StandsFor old (record w { journal = no_journal })
    stands_bare = stands_written old w no_journal w.disk_faults w.moment stands

    its : IsWanted w place
    its = wanted_at old w place seen stands there wanted

    abbrev x : Target
    x = whole_target place its.group

    of : IsOfTarget (whole_target place its.group) place all_instances
    of = record { place = refl; filter = refl; id = λ key. refl }

    may : MayTake old place false
    may g spot = refl

    here : IsSettledAt place its.group (record w { journal = no_journal })
    here = record { there = its.there; settled = stands.stored.unsettled ∙ settled }

    abbrev mid : World
    mid = taken.mid state possible old None d d' place all_instances false x of its.writes sound asked asks may snapshot told faults moment shares certain bare at_bare stands_bare apart refl here

    abbrev n : ℕ
    n = snapshot.position.0

    abbrev M : Table
    M = taken.M state possible old None d d' place all_instances false x of its.writes sound asked asks may snapshot told faults moment shares certain bare at_bare stands_bare apart refl here

    matched : matching (backing_at mid n) x ≡ M
    matched = taken.matched_n state possible old None d d' place all_instances false x of its.writes sound asked asks may snapshot told faults moment shares certain bare at_bare stands_bare apart refl here new said took sound_new

    -- with the journal again
    abbrev mid_kept : World
    mid_kept = record mid { journal = w.journal }

    abbrev held_tier : Tier
    held_tier = changed (alone place) (holding (backing_at mid n)) mid.tier

    tier_is : changed (alone place) (λ g. with_flag true (record g { keys = with_keys (fm.keys M) g.keys })) w.tier ≡ held_tier
    tier_is =
        ap (λ gs. let a : Tier = record w.tier { groups = gs } in a)
        (same_changed place (λ g. with_flag true (record g { keys = with_keys (fm.keys M) g.keys })) (holding (backing_at mid n)) 0 w.tier.groups
        (λ k y spot e.
        let is : k ≡ place = omega (arith, e) in
        let same : y ≡ its.group = same_some (sym spot ∙ ap (slice_get w.tier.groups) is ∙ its.there) in
        held_so M y (ap is_writethrough same ∙ its.writes) (ap (λ (g : Group). g.loaded) same ∙ its.loaded)
        ∙ ap (λ m. let g : Group = record y { keys = with_keys (fm.keys m) y.keys } in g)
        (sym matched ∙ all_matching (backing_at mid n) place its.group ∙ ap (all_roots (backing_at mid n)) (sym same))))

    stands_held : StandsFor new (record mid_kept { tier = held_tier })
    stands_held =
        stands_written new (with_tier held_tier mid) w.journal mid.disk_faults mid.moment
        (subst (λ a. StandsFor new (with_tier a mid)) tier_is
        (taken.stands_done state possible old None d d' place all_instances false x of its.writes sound asked asks may snapshot told faults moment shares certain bare at_bare stands_bare apart refl here new said took sound_new))

    call : BankCall (TellsPosition (Ok n)) w mid_kept
    call =
        let c = taken.reads_call state possible old None d d' place all_instances false x of its.writes sound asked asks may snapshot told faults moment shares certain bare at_bare stands_bare apart refl here in
        record { history = c.history; journal = refl; faults = c.faults; disk = c.disk; moment = c.moment; shared = c.shared }

    pub held_all : IsPerformed new (state d') (λ w'. HoldsAgainAt place w w' None)
    held_all =
        let spot = taken.at_mid state possible old None d d' place all_instances false x of its.writes sound asked asks may snapshot told faults moment shares certain bare at_bare stands_bare apart refl here in
        record {
          world = record mid_kept { tier = held_tier };
          at = record { there = spot.there; told = spot.told; history = spot.history; faults = spot.faults; moment = spot.moment; shared = spot.shared };
          stands = stands_held;
          is = record { result = Ok n; mid = mid_kept; call = call; tier = refl; goes_on = inl (refl, refl) };
        }

-- nothing was taken in
room_of : (old new : Stored) (place : ℕ) (s : TableState) (e : Refused) → TakesMatching old new place all_instances false s (Err e) → IsSameButRoom old new
room_of old new place s (refused.Rule rule) took = took.0
room_of old new place s refused.Memory took = took

pub held_none : (old new : Stored) (before after : SiteState) (place : ℕ) (asked : List TableId) (snapshot : Snapshot) (e : Refused) → site.Told before.held after.held (site.BankCall before.shared (TakesSnapshot asked (Ok snapshot))) → before.bank_faults ≤ after.bank_faults → before.moment ≤ after.moment → after.shared ≡ before.shared
    → TakesMatching old new place all_instances false snapshot.tables (Err e) → Performs old new before after (λ w w'. HoldsAgainAt place w w' (Some (bank_fault Memory)))
held_none old new before after place asked snapshot e told faults moment shares took w at stands apart =
    let same = room_of old new place snapshot.tables e took in
    let r = was_read old before after (TakesSnapshot asked (Ok snapshot)) (snapshot_grows asked (Ok snapshot)) told faults moment shares w at stands apart (Ok snapshot.position.0) (λ a b s. (s.0, s.1)) in
    record {
      world = r.world;
      at = r.at;
      stands = record {
        stored = stored_room old new same r.world.tier r.stands.stored;
        shows = rows_room old new same ∙ r.stands.shows;
        hides = hides_still old new r.world.history (hidden_room old new same) r.stands.hides;
        stands = r.stands.stands;
        waits = r.stands.waits;
      };
      is = record { result = Ok snapshot.position.0; mid = r.world; call = r.call; tier = r.tier; goes_on = inr (refl, refl) };
    }

-- the call failed, or there was none
after_error : (t : Stored) (behind : SiteState) (place : ℕ) (e : BankError) (w : World) → IsCallRead t behind (Err e) w → IsPerformed t behind (λ w'. HoldsAgainAt place w w' (Some (bank_fault e)))
after_error t behind place e w r = record {
  world = r.world;
  at = r.at;
  stands = r.stands;
  is = record { result = Err e; mid = r.world; call = r.call; tier = r.tier; goes_on = (refl, refl) };
}

pub held_failed : (t : Stored) (before after : SiteState) (place : ℕ) (asked : List TableId) (e : BankError) → site.Told before.held after.held (site.BankCall before.shared (TakesSnapshot asked (Err e))) → before.bank_faults ≤ after.bank_faults → before.moment ≤ after.moment → after.shared ≡ before.shared
    → Performs t t before after (λ w w'. HoldsAgainAt place w w' (Some (bank_fault e)))
held_failed t before after place asked e told faults moment shares w at stands apart =
    after_error t after place e w (read_failed t before after asked e (Err e) told faults moment shares w at stands apart)

pub held_wanting : (t : Stored) (seen : SiteState) (place : ℕ) → Performs t t seen seen (λ w w'. HoldsAgainAt place w w' (Some (bank_fault Memory)))
held_wanting t seen place w at stands apart = after_error t seen place Memory w (not_called t seen w at stands)

-- what is left of the parts
pub quiet_taken : (old new : Stored) (place : ℕ) (s : TableState) (said : Reply) → old.unsettled.items ≡ [] → TakesIn old new place all_instances false s said → IsQuiet old new
quiet_taken old new place s said settled took = record {
  unsettled = ap (λ u. u.items) took.rest.unsettled ∙ settled;
  groups = ap length took.groups ∙ Rattle.group_engine.proofs.ChangedLists.changed_long (alone place) (λ g. record g { loaded = true }) 0 (groups_in old.catalog);
}

pub quiet_room : (old new : Stored) (place : ℕ) (s : TableState) (e : Refused) → old.unsettled.items ≡ [] → TakesMatching old new place all_instances false s (Err e) → IsQuiet old new
quiet_room old new place s e settled took =
    let same = room_of old new place s e took in
    record { unsettled = ap (λ u. u.items) same.rest.unsettled ∙ settled; groups = ap (λ c. length (groups_in c)) same.catalog }

-- where it is wanted

seen_there : (t : Stored) (w : World) (place : ℕ) (g : Group) → StandsFor t w → slice_get w.tier.groups place ≡ Some g → slice_get (groups_in t.catalog) place ≡ Some (without_list g)
seen_there t w place g stands at = ap (λ l. slice_get l place) (sym stands.stored.groups) ∙ Rattle.group_engine.proofs.ChangedLists.mapped_there w.tier.groups place g at

-- the group at the place, as the catalog has it, isn't to hold its instances
pub unwanted : (t : Stored) (seen : SiteState) (place : ℕ) → is_held_at (slice_get (groups_in t.catalog) place) ≡ false → Performs t t seen seen (λ w w'. HoldsIfWanted place w w' None)
unwanted t seen place not_so w at stands apart = record {
  world = w;
  at = at;
  stands = stands;
  is = λ g there. subst (λ b. MatchBool b (HoldsAgainAt place w w None) (Passes w w None)) (sym (ap is_held_at (sym (seen_there t w place g stands there)) ∙ not_so)) (refl, refl);
}

some_held : (o : Option Group) → is_held_at o ≡ true → (seen : Group) × (o ≡ Some seen) × (is_held_again seen ≡ true)
some_held None e = cc
some_held (Some g) e = (g, refl, e)

wanted_with : (old new : Stored) (before after : SiteState) (place : ℕ) (seen : Group) (stop : Option Reply) → slice_get (groups_in old.catalog) place ≡ Some seen → is_held_again seen ≡ true
    → Performs old new before after (λ w w'. HoldsAgainAt place w w' stop) → Performs old new before after (λ w w'. HoldsIfWanted place w w' stop)
wanted_with old new before after place seen stop there wanted does w at stands apart =
    let r = does w at stands apart in
    record {
      world = r.world;
      at = r.at;
      stands = r.stands;
      is = λ g spot.
          let same : without_list g ≡ seen = same_some (sym (seen_there old w place g stands spot) ∙ there) in
          subst (λ b. MatchBool b (HoldsAgainAt place w r.world stop) (Passes w r.world stop)) (sym (ap is_held_again same ∙ wanted)) r.is;
    }

pub wanted_so : (old new : Stored) (before after : SiteState) (place : ℕ) (stop : Option Reply) → is_held_at (slice_get (groups_in old.catalog) place) ≡ true
    → ((seen : Group) → slice_get (groups_in old.catalog) place ≡ Some seen → is_held_again seen ≡ true → Performs old new before after (λ w w'. HoldsAgainAt place w w' stop)) → Performs old new before after (λ w w'. HoldsIfWanted place w w' stop)
wanted_so old new before after place stop wanted does =
    let (seen, there, held) = some_held (slice_get (groups_in old.catalog) place) wanted in
    wanted_with old new before after place seen stop there held (does seen there held)

-- one after the other

same_holding : (n : ℕ) (s : TableState) → IsSameBut (holding s)
same_holding n s = record { held = λ g. refl; through = λ t g. refl }

still_at : (place : ℕ) (b : Bool) (w w' : World) (stop : Option Reply) → IsUnshared w → MatchBool b (HoldsAgainAt place w w' stop) (Passes w w' stop) → IsStillHeld w w'
still_at place true w w' stop apart does = still_held (alone place) (λ n s. holding s) same_holding w w' stop apart does
still_at place false w w' stop apart does = still_passed w w' apart does.0

mapped_len : (gs : List Group) → length (held_again gs) ≡ length gs
mapped_len [] = refl
mapped_len (g ∷ gs) = ap suc (mapped_len gs)

-- the group at a place of another list of as many
record IsAlsoAt (groups others : List Group) (i : ℕ) (g : Group) : Type 0 where
  group : Group
  there : slice_get others i ≡ Some group
  same : is_held_again group ≡ is_held_again g

also_at : (groups others : List Group) (i : ℕ) (g : Group) → held_again others ≡ held_again groups → slice_get groups i ≡ Some g → IsAlsoAt groups others i g
also_at [] others i g same at = cc
also_at (x ∷ groups) [] i g same at = cc
also_at (x ∷ groups) (y ∷ others) zero g same at =
    let one : x ≡ g = cc in
    let first : is_held_again y ≡ is_held_again x = cc in
    record { group = y; there = refl; same = first ∙ ap is_held_again one }
also_at (x ∷ groups) (y ∷ others) (suc i) g same at =
    let rest : held_again others ≡ held_again groups = cc in
    let r = also_at groups others i g rest at in
    record { group = r.group; there = r.there; same = r.same }

group_at : (groups : List Group) (i : ℕ) → suc i ≤ length groups → (g : Group) × (slice_get groups i ≡ Some g)
group_at [] i le = absurd (omega (arith, le))
group_at (g ∷ groups) zero le = (g, refl)
group_at (g ∷ groups) (suc i) le = group_at groups i (omega (arith, le))

pub held_begun : (w : World) → IsUnshared w → IsHeldTo 0 w w
held_begun w apart = record { still = record { held = refl; apart = apart }; goes_on = λ w' stop does. subst (λ gs. HoldAgain 0 gs w w' stop) (none w.tier.groups) does }
  where
    none : (gs : List Group) → drop 0 gs ≡ gs
    none [] = refl
    none (g ∷ gs) = refl

-- the group at the place, and then those behind it
step : (place : ℕ) (w mid w' : World) (stop : Option Reply) → IsHeldTo place w mid → suc place ≤ length w.tier.groups → HoldsIfWanted place mid w' stop
    → (g : Group) × (drop place w.tier.groups ≡ g ∷ drop (place + 1) w.tier.groups) × MatchBool (is_held_again g) (HoldsAgainAt place mid w' stop) (Passes mid w' stop)
step place w mid w' stop so le does =
    let (g, at) = group_at w.tier.groups place le in
    let other = also_at w.tier.groups mid.tier.groups place g so.still.held at in
    (g, drop_one w.tier.groups place g at, subst (λ b. MatchBool b (HoldsAgainAt place mid w' stop) (Passes mid w' stop)) other.same (does other.group other.there))

pub held_next : (place : ℕ) (w mid new : World) → IsHeldTo place w mid → suc place ≤ length w.tier.groups → HoldsIfWanted place mid new None → IsHeldTo (place + 1) w new
held_next place w mid new so le does =
    let (g, is, one) = step place w mid new None so le does in
    let after = still_at place (is_held_again g) mid new None so.still.apart one in
    let same : suc place ≡ place + 1 = omega arith in
    record {
      still = record { held = after.held ∙ so.still.held; apart = after.apart };
      goes_on = λ w' stop rest. so.goes_on w' stop
          (subst (λ gs. HoldAgain place gs mid w' stop) (sym is)
          (record { mid = new; stop = None; first = one; next = subst (λ p. HoldAgain p (drop (place + 1) w.tier.groups) new w' stop) (sym same) rest }));
    }

pub held_stopped : (place : ℕ) (w mid new : World) (stop : Reply) → IsHeldTo place w mid → suc place ≤ length w.tier.groups → HoldsIfWanted place mid new (Some stop) → HoldAgain 0 w.tier.groups w new (Some stop)
held_stopped place w mid new stop so le does =
    let (g, is, one) = step place w mid new (Some stop) so le does in
    so.goes_on new (Some stop)
    (subst (λ gs. HoldAgain place gs mid new (Some stop)) (sym is)
    (record { mid = new; stop = Some stop; first = one; next = (refl, refl) }))

pub held_ended : (place : ℕ) (w mid : World) → IsHeldTo place w mid → length w.tier.groups ≤ place → HoldAgain 0 w.tier.groups w mid None
held_ended place w mid so le =
    so.goes_on mid None (subst (λ gs. HoldAgain place gs mid mid None) (sym (drop_past w.tier.groups place le)) (refl, refl))

-- the loop over the groups

as_many : (t : Stored) (w : World) → StandsFor t w → length w.tier.groups ≡ length (groups_in t.catalog)
as_many t w stands = sym (unlisted_long w.tier.groups) ∙ ap length stands.stored.groups
  where
    unlisted_long : (gs : List Group) → length (map without_list gs) ≡ length gs
    unlisted_long gs = Rattle.std.proofs.lemmas.List.length-map gs without_list

pub loop_begun : (t : Stored) (site : SiteState) → Performs t t site site (λ w mid. IsHeldTo 0 w mid)
loop_begun t site w at stands apart = record { world = w; at = at; stands = stands; is = held_begun w apart }

pub loop_next : (old mid new : Stored) (a b c : SiteState) (place : ℕ) → place < length (groups_in old.catalog) → Performs old mid a b (λ w v. IsHeldTo place w v) → Performs mid new b c (λ w w'. HoldsIfWanted place w w' None)
    → Performs old new a c (λ w v. IsHeldTo (place + 1) w v)
loop_next old mid new a b c place lt so does w at stands apart =
    let m = so w at stands apart in
    let n = does m.world m.at m.stands m.is.still.apart in
    let long = as_many old w stands in
    record { world = n.world; at = n.at; stands = n.stands; is = held_next place w m.world n.world m.is (omega (arith, lt, long)) n.is }

pub loop_stopped : (old mid new : Stored) (a b c : SiteState) (place : ℕ) (stop : Reply) → place < length (groups_in old.catalog) → Performs old mid a b (λ w v. IsHeldTo place w v) → Performs mid new b c (λ w w'. HoldsIfWanted place w w' (Some stop))
    → Performs old new a c (λ w w'. HoldAgain 0 w.tier.groups w w' (Some stop))
loop_stopped old mid new a b c place stop lt so does w at stands apart =
    let m = so w at stands apart in
    let n = does m.world m.at m.stands m.is.still.apart in
    let long = as_many old w stands in
    record { world = n.world; at = n.at; stands = n.stands; is = held_stopped place w m.world n.world stop m.is (omega (arith, lt, long)) n.is }

pub loop_ended : (old new : Stored) (a b : SiteState) (place : ℕ) → length (groups_in old.catalog) ≤ place → Performs old new a b (λ w v. IsHeldTo place w v) → Performs old new a b (λ w w'. HoldAgain 0 w.tier.groups w w' None)
loop_ended old new a b place le so w at stands apart =
    let m = so w at stands apart in
    let long = as_many old w stands in
    record { world = m.world; at = m.at; stands = m.stands; is = held_ended place w m.world m.is (omega (arith, le, long)) }
