-- What is due, by the stored clock.
use Rattle.std.proofs.Common.{◌≡◌, ℕ, ◌+◌, max, true, false, cond, ◌&&◌, filter, Option, Some, None, List, [], ◌∷◌, ◌++◌, map, refl, sym, ap, subst, ◌∙◌}
use Rattle.std.proofs.lemmas.List.{append-nil}
use Rattle.tier_base.specs.declared.code.Code.TheVariants as code
use Rattle.std.specs.Prelude.{Err}
use Rattle.std.specs.Bool.{MatchBool}
use Rattle.outside.specs.declared.fault.BankError.TheVariants.{Failed}
use Rattle.sql_subset.specs.declared.request.Line.{Line}
use Rattle.sql_subset.specs.declared.request.Line.TheVariants as says
use Rattle.table_state.specs.declared.history.Sealed.{Sealed}
use Rattle.cache_tier.specs.CommitSteps.{after_applied, sealed_own}
use Rattle.cache_tier.specs.PassedSteps.{after_passed, with_ticket}
use Rattle.cache_tier.specs.Aging.{after_aging, is_over}
use Rattle.cache_tier.specs.DueWork.{DueAging, DueRound, DueSets, DueSetsOf, DueWork, Noted, ThenItem, due_sets, intervals, is_round_due, noted, stopped, with_number}
use Rattle.cache_tier.specs.Groups.{Group, definitions_of, is_on, is_read_only}
use Rattle.cache_tier.specs.Rounds.{Round}
use Rattle.cache_tier.specs.Steps.{added_by, at_moment, with_moment}
use Rattle.cache_tier.specs.TierStates.{Session, Tier, cut}
use Rattle.cache_tier.specs.Worlds.{OnlyWhere, Passes, World}
use Rattle.cache_tier.specs.declared.reply.Note.{Note}
use Rattle.cache_tier.specs.declared.reply.Reply.{Reply}
use Rattle.group_catalog.specs.Catalogs.{groups_in}
use Rattle.cache_tier.specs.Events.{with_tier}
use Rattle.stored_tier.specs.declared.clock.TierClock.{TierClock}
use Rattle.stored_tier.specs.declared.tier.Tier.{Tier as Stored}
use Rattle.cache_engine.specs.Due.{IsDueCaused}
use Rattle.cache_engine.specs.DueItems.{DoesItem, DueRest, Footing, KeepsSets, RunsCycles, due_at, due_of, is_due_at, note_of, round_is_due}
use Rattle.outside.specs.Holding.{Held}
use Rattle.tier_journal.specs.declared.journal.TierJournal.{TierJournal}
use Rattle.tier_journal.proofs.WayLaws.{kept_unless}
use Rattle.stored_tier.specs.Performing.{IsStopCausedOver, PerformsOver, StandsFor}
use Rattle.stored_tier.specs.Refreshing.{has_moment, moment_in}
use Rattle.outside.specs.Sites.{SiteState}
use Rattle.stored_tier.specs.Stored.{IsStoredAs, KeepsTime, without_list}
use Rattle.cache_engine.proofs.DueItemLaws.{as_item, idle_caused, idle_item, noted_item, since_self, stopped_item, then_items}
use Rattle.stored_tier.proofs.OverLaws.{keeps_tier}
use Rattle.stored_tier.proofs.QuietLaws.{at_still}
use Rattle.dynamic_loads.specs.OfGroupEngine.RefreshedSets.{stands_clocked, stored_clocked}
use Rattle.session_engine.specs.Doubting.{CommitIsInDoubt, IsInDoubt, IsLeft, LeadsOver, WriteIsInDoubt}
use Rattle.session_engine.specs.declared.doubt.Doubt.{Doubt}
use Rattle.session_engine.specs.declared.doubt.Doubted.{Doubted}
use Rattle.session_engine.specs.declared.doubt.Doubted.TheVariants.{Commit, PassedWrite}
use Rattle.table_state.specs.declared.operation.Op.{Op}

-- which sets are due

intervals_bare : (gs : List Group) → intervals (map without_list gs) ≡ intervals gs
intervals_bare [] = refl
intervals_bare (g ∷ gs) = ap (λ l. cond (is_read_only g && is_on g.state) (with_number g.def.interval l) l) (intervals_bare gs)

due_stored : (t : Stored) (a : Tier) → IsStoredAs t a → due_sets a ≡ due_at t.clock.now t.clock.sets.items (groups_in t.catalog)
due_stored t a is =
    (λ j. filter (λ i. is_over (is.time.moment j) (is.time.refreshes i j) i) (intervals a.groups))
    ∙ ap (filter (is_due_at t.clock.now t.clock.sets.items)) (sym (intervals_bare a.groups) ∙ ap intervals is.groups)

pub round_stored : (t : Stored) (a : Tier) → IsStoredAs t a → is_round_due a ≡ round_is_due t.clock.now t.clock.round t.clock.pace.propagate_ms
round_stored t a is = λ j. round_is_due (is.time.moment j) (is.time.tried j) ((is.time.due j).propagate_ms)

-- all that is due

module _ {D : Type 0} (state : D → SiteState) (possible : D → ℕ → Held → Type 0) where
  sets_item : (intervals : List ℕ) (old new : Stored) (b a : Footing D) (earlier notes : List Note) (stop : Option Reply) → intervals ≡ due_at old.clock.now old.clock.sets.items (groups_in old.catalog) → DoesItem state possible (DueSetsOf intervals) old new b a earlier notes stop → DoesItem state possible DueSets old new b a earlier notes stop
  sets_item intervals old new b a earlier notes stop due does =
      as_item state possible (DueSetsOf intervals) DueSets old new b a earlier notes stop
      (λ w w' stands is. subst (λ l. DueSetsOf l w w' (Rattle.cache_engine.specs.DueItems.notes_since earlier notes) stop) (due ∙ sym (due_stored old w.tier stands.stored)) is) does

  -- the cycles of aging have run
  aged_item : (old new : Stored) (b : Footing D) (notes : List Note) → RunsCycles old new → DoesItem state possible DueAging old new b b notes notes None
  aged_item old new b notes runs = record {
    performs = λ w at stands apart keeps.
        let aged = after_aging w.history w.tier in
        record {
          world = with_tier aged w;
          at = at_still (state b.disk) w aged at;
          is = subst (λ l. DueAging w (with_tier aged w) l None) (sym (since_self notes)) (refl, refl, refl);
          stands = λ whole. runs.ages w stands;
          keeps = kept_unless (keeps_tier state possible b.disk b.journal w aged refl keeps);
        };
    order = sym (append-nil notes) ∙ ap (λ l. notes ++ l) (sym (since_self notes));
    cause = subst (λ l. IsDueCaused b.journal (state b.disk) (state b.disk) (due_of l None)) (sym (since_self notes)) (idle_caused b.journal (state b.disk));
    none = λ none. none;
    groups = runs.groups;
    entries = λ i there. subst (λ (c : TierClock). has_moment c.sets.items i ≡ true) (sym runs.clock) there;
  }

  pub due_stopped : (old new : Stored) (b a : Footing D) (earlier notes : List Note) (end : Reply) → DoesItem state possible DueRound old new b a earlier notes (Some end) → DoesItem state possible DueRest old new b a earlier notes (Some end)
  due_stopped old new b a earlier notes end does = stopped_item state possible DueRound (ThenItem DueSets DueAging) old new b a earlier notes end does

  due_kept : (old mid : Stored) → KeepsSets old mid → due_at old.clock.now old.clock.sets.items (groups_in old.catalog) ≡ due_at mid.clock.now mid.clock.sets.items (groups_in mid.catalog)
  due_kept old mid keeps = sym (λ j. due_at (keeps.now j) ((keeps.sets j).items) (groups_in (keeps.catalog j)))

  pub due_ended : (intervals : List ℕ) (old mid new : Stored) (b m a : Footing D) (earlier between notes : List Note) (end : Reply) → KeepsSets old mid → intervals ≡ due_at old.clock.now old.clock.sets.items (groups_in old.catalog)
      → DoesItem state possible DueRound old mid b m earlier between None → DoesItem state possible (DueSetsOf intervals) mid new m a between notes (Some end) → DoesItem state possible DueRest old new b a earlier notes (Some end)
  due_ended intervals old mid new b m a earlier between notes end keeps due first second =
      then_items state possible DueRound (ThenItem DueSets DueAging) old mid new b m a earlier between notes (Some end) first
      (stopped_item state possible DueSets DueAging mid new m a between notes end (sets_item intervals mid new m a between notes (Some end) (due ∙ due_kept old mid keeps) second))

  pub due_done : (intervals : List ℕ) (old mid fresh new : Stored) (b m a : Footing D) (earlier between notes : List Note) → KeepsSets old mid → intervals ≡ due_at old.clock.now old.clock.sets.items (groups_in old.catalog)
      → DoesItem state possible DueRound old mid b m earlier between None → DoesItem state possible (DueSetsOf intervals) mid fresh m a between notes None → RunsCycles fresh new → DoesItem state possible DueRest old new b a earlier notes None
  due_done intervals old mid fresh new b m a earlier between notes keeps due first second third =
      then_items state possible DueRound (ThenItem DueSets DueAging) old mid new b m a earlier between notes None first
      (then_items state possible DueSets DueAging mid fresh new m a a between notes notes None
      (sets_item intervals mid fresh m a between notes None (due ∙ due_kept old mid keeps) second) (aged_item fresh new a notes third))

  -- a round that isn't due

  pub round_passes : (t : Stored) (b : Footing D) (notes : List Note) → round_is_due t.clock.now t.clock.round t.clock.pace.propagate_ms ≡ false → DoesItem state possible DueRound t t b b notes notes None
  round_passes t b notes not_so = idle_item state possible DueRound t b notes (λ w is. record {
    end = None;
    does = subst (λ x. MatchBool x (Round w w None) (Passes w w None)) (sym (round_stored t w.tier is.stored ∙ not_so)) (refl, refl);
    told = refl;
    ends = refl;
  })

  pub round_wanted : (t new : Stored) (b a : Footing D) (end : Option Reply) → round_is_due t.clock.now t.clock.round t.clock.pace.propagate_ms ≡ true → PerformsOver state possible t new b.journal a.journal b.disk a.disk end (λ w w'. Round w w' end)
      → PerformsOver state possible t new b.journal a.journal b.disk a.disk end (λ w w'. OnlyWhere (is_round_due w.tier) Round w w' end)
  round_wanted t new b a end so performs w at stands apart keeps =
      let p = performs w at stands apart keeps in
      record {
        world = p.world;
        at = p.at;
        is = subst (λ x. MatchBool x (Round w p.world end) (Passes w p.world end)) (sym (round_stored t w.tier stands.stored ∙ so)) p.is;
        stands = p.stands;
        keeps = p.keeps;
      }

  -- nothing but the unsettled transactions and the moment of the last round is changed
  pub sets_kept : (old new : Stored) → new ≡ record old { unsettled = new.unsettled; clock = new.clock } → new.clock ≡ record (old.clock) { round = old.clock.now } → KeepsSets old new
  sets_kept old new same clock = record { catalog = ap (λ (t : Stored). t.catalog) same; now = ap (λ (c : TierClock). c.now) clock; sets = ap (λ (c : TierClock). c.sets) clock }

  pub round_item : (old new : Stored) (b a : Footing D) (earlier notes : List Note) (end stop : Option Reply) → round_is_due old.clock.now old.clock.round old.clock.pace.propagate_ms ≡ true → PerformsOver state possible old new b.journal a.journal b.disk a.disk end (λ w w'. Round w w' end) → IsStopCausedOver b.journal (state b.disk) (state a.disk) end → (b.journal ≡ None → a.journal ≡ None)
      → new ≡ record old { unsettled = new.unsettled; clock = new.clock } → new.clock ≡ record (old.clock) { round = old.clock.now } → notes ≡ earlier ++ noted (note_of None) end → stop ≡ stopped end → DoesItem state possible DueRound old new b a earlier notes stop
  round_item old new b a earlier notes end stop so performs caused none same clock told ends =
      as_item state possible (Noted (note_of None) (λ w w' s. OnlyWhere (is_round_due w.tier) Round w w' s)) DueRound old new b a earlier notes stop
      (λ w w' stands done. record { end = done.end; does = done.does; told = done.told; ends = done.ends })
      (noted_item state possible None (λ w w' s. OnlyWhere (is_round_due w.tier) Round w w' s) old new b a earlier notes end stop
      (round_wanted old new b a end so performs) caused none
      (ap (λ (t : Stored). definitions_of (groups_in t.catalog)) same)
      (λ i there. subst (λ (c : TierClock). has_moment c.sets.items i ≡ true) (sym clock) there)
      told ends)

-- the tier stands at the new moment
timed : (t : Stored) (clock : TierClock) (base : ℕ) (line : Line) (w : World) → StandsFor t w → KeepsTime clock (at_moment base line w.tier).now (added_by line w.tier) w.tier.round w.tier.sets w.tier.settings → StandsFor (record t { clock = clock }) (with_moment base line w)
timed t clock base line w is time = record {
  stored = stored_clocked t clock w.tier (at_moment base line w.tier).now (added_by line w.tier) w.tier.sets is.stored time;
  shows = is.shows;
  hides = is.hides;
  stands = stands_clocked w (at_moment base line w.tier).now (added_by line w.tier) w.tier.sets is.stands;
  waits = is.waits;
}

-- a commit is in doubt at the new moment

added_same : (line : Line) (a b : Tier) → a.added ≡ b.added → added_by line a ≡ added_by line b
added_same (says.Session label request) a b e = e
added_same (says.Console request) a b e = e
added_same (says.Clock ms) a b e = ap (λ n. n + ms) e

abbrev Moved : ℕ → Line → Tier → ℕ → Tier
Moved base line a n = record a { added = n; now = cut (max a.now (base + n)) }

moved_same : (base : ℕ) (line : Line) (a b : Tier) (x : Sealed) (label : List ℕ) → a ≡ after_applied x label (Err Failed) (with_ticket b) → at_moment base line a ≡ after_applied x label (Err Failed) (with_ticket (at_moment base line b))
moved_same base line a b x label e =
    ap (at_moment base line) e
    ∙ ap (Moved base line (after_applied x label (Err Failed) (with_ticket b))) (added_same line (after_applied x label (Err Failed) (with_ticket b)) b refl)

abbrev TimedAt : Stored → TierClock → ℕ → Line → World → Type 0
TimedAt t clock base line w = KeepsTime clock (at_moment base line w.tier).now (added_by line w.tier) w.tier.round w.tier.sets w.tier.settings

in_doubt_timed : (t : Stored) (clock : TierClock) (base : ℕ) (line : Line) (d : Doubt) (w : World) (x : CommitIsInDoubt t d w) → TimedAt t clock base line x.was → CommitIsInDoubt (record t { clock = clock }) d (with_moment base line w)
in_doubt_timed t clock base line d w x time = record {
  was = with_moment base line x.was;
  stands = timed (record t { next = d.ticket }) clock base line x.was x.stands time;
  unshared = x.unshared;
  session = x.session;
  has = record { seen = x.has.seen; found = x.has.found; number = x.has.number; is = x.has.is };
  on = x.on;
  next = x.next;
  room = x.room;
  call = record {
    history = x.call.history;
    journal = x.call.journal;
    faults = x.call.faults;
    disk = x.call.disk;
    moment = x.call.moment;
    shared = x.call.shared;
  };
  tier = moved_same base line w.tier x.was.tier (sealed_own x.was.tier x.session) x.session.label x.tier;
  legal = x.legal;
  read = x.read;
}

-- and so is a write that was passed on

passed_same : (base : ℕ) (line : Line) (a b : Tier) (s : Session) (n : ℕ) (ops : List Op) → a ≡ after_passed s n ops (Err Failed) (with_ticket b) → at_moment base line a ≡ after_passed s n ops (Err Failed) (with_ticket (at_moment base line b))
passed_same base line a b s n ops e =
    ap (at_moment base line) e
    ∙ ap (Moved base line (after_passed s n ops (Err Failed) (with_ticket b))) (added_same line (after_passed s n ops (Err Failed) (with_ticket b)) b refl)

write_timed : (t : Stored) (clock : TierClock) (base : ℕ) (line : Line) (d : Doubt) (w : World) (x : WriteIsInDoubt t d w) → TimedAt t clock base line x.was → WriteIsInDoubt (record t { clock = clock }) d (with_moment base line w)
write_timed t clock base line d w x time = record {
  was = with_moment base line x.was;
  stands = timed (record t { next = d.ticket }) clock base line x.was x.stands time;
  unshared = x.unshared;
  session = x.session;
  has = record { seen = x.has.seen; found = x.has.found; number = x.has.number; is = x.has.is };
  next = x.next;
  room = x.room;
  change = x.change;
  off = x.off;
  ops = x.ops;
  call = record {
    history = x.call.history;
    journal = x.call.journal;
    faults = x.call.faults;
    disk = x.call.disk;
    moment = x.call.moment;
    shared = x.call.shared;
  };
  tier = passed_same base line w.tier x.was.tier x.session x.was.tier.next x.ops x.tier;
  legal = x.legal;
  read = x.read;
}

-- the moment comes, and then what is due is done
module _ (t : Stored) (clock : TierClock) (base now added : ℕ) (line : Line) (adds : (x : Tier) → x.added ≡ t.clock.added → added_by line x ≡ added) (moment : now ≡ cut (max t.clock.now (base + added)))
    (same : clock ≡ record (t.clock) { now = now; added = added; sets = clock.sets }) (sets_is : (i : ℕ) → moment_in clock.sets.items i ≡ moment_in t.clock.sets.items i) where
  time_at : (a : Tier) → KeepsTime t.clock a.now a.added a.round a.sets a.settings → KeepsTime clock (at_moment base line a).now (added_by line a) a.round a.sets a.settings
  time_at a was =
      let more = adds a was.additions in
      record {
        moment = (λ j. cut (max (was.moment j) (base + more j))) ∙ sym moment ∙ sym (ap (λ (c : TierClock). c.now) same);
        additions = more ∙ sym (ap (λ (c : TierClock). c.added) same);
        tried = was.tried ∙ sym (ap (λ (c : TierClock). c.round) same);
        refreshes = λ i. was.refreshes i ∙ sym (sets_is i);
        due = was.due ∙ sym (ap (λ (c : TierClock). c.pace) same);
      }

  pub left_timed : (doubt : Option Doubt) (w : World) → IsLeft t doubt w → IsLeft (record t { clock = clock }) doubt (with_moment base line w)
  left_timed None w is = timed t clock base line w is (time_at w.tier is.stored.time)
  left_timed (Some d) w x = by d.of x
    where
      by : (o : Doubted) → IsInDoubt o t d w → IsInDoubt o (record t { clock = clock }) d (with_moment base line w)
      by (Commit ops) x = in_doubt_timed t clock base line d w x (time_at x.was.tier x.stands.stored.time)
      by PassedWrite x = write_timed t clock base line d w x (time_at x.was.tier x.stands.stored.time)

module _ {D : Type 0} (state : D → SiteState) (possible : D → ℕ → Held → Type 0) where
  pub line_done : (t mid new : Stored) (was doubt : Option Doubt) (clock : TierClock) (base now added : ℕ) (line : Line) (k k' : Option TierJournal) (b a : D) (notes told : List Note) (stop : Option Reply) → ((x : Tier) → x.added ≡ t.clock.added → added_by line x ≡ added) → now ≡ cut (max t.clock.now (base + added))
      → clock ≡ record (t.clock) { now = now; added = added; sets = clock.sets } → ((i : ℕ) → moment_in clock.sets.items i ≡ moment_in t.clock.sets.items i)
      → mid ≡ record t { clock = clock } → told ≡ notes → LeadsOver state possible mid was new doubt k k' b a stop (λ w w'. DueWork w w' notes stop) → LeadsOver state possible t was new doubt k k' b a stop (λ w w'. DueWork (with_moment base line w) w' told stop)
  line_done t mid new was doubt clock base now added line k k' b a notes told stop adds moment same sets_is mid_is told_is leads w at left apart keeps =
      let there = left_timed t clock base now added line adds moment same sets_is was w left in
      let p = leads (with_moment base line w) (at_still (state b) w (at_moment base line w.tier) at) (subst (λ (z : Stored). IsLeft z was (with_moment base line w)) (sym mid_is) there) apart (keeps_tier state possible b k w (at_moment base line w.tier) refl keeps) in
      record { world = p.world; at = p.at; is = subst (λ l. DueWork (with_moment base line w) p.world l stop) (sym told_is) p.is; left = p.left; keeps = p.keeps }
