-- The note that a refresh of its set was tried, before the instance that a statement wants comes.
use Rattle.std.proofs.Common.{◌≡◌, ℕ, Bool, true, false, not, is_some, Option, Some, None, slice_get, refl, sym, ap, subst, ◌∙◌, inl, inr}
use Rattle.tier_base.specs.declared.code.Code.TheVariants as code
use Rattle.sql_subset.specs.declared.stmt.RefreshState.TheVariants.{Off}
use Rattle.outside.specs.Holding.{Held}
use Rattle.outside.specs.Sites.{SiteState}
use Rattle.tier_journal.specs.Drafts.{StaysKept}
use Rattle.tier_journal.specs.declared.journal.TierJournal.{TierJournal}
use Rattle.group_catalog.specs.Catalogs.{groups_in}
use Rattle.cache_tier.specs.declared.reply.Last.TheVariants.{Done}
use Rattle.cache_tier.specs.declared.reply.Reply.{Reply}
use Rattle.cache_tier.specs.DynamicLoads.{BringsReadOnly}
use Rattle.cache_tier.specs.Groups.{Group, is_read_only}
use Rattle.cache_tier.specs.JournalSteps.{FlushesSome}
use Rattle.cache_tier.specs.Reading.{TellsPosition}
use Rattle.cache_tier.specs.TierStates.{refresh_tried}
use Rattle.cache_tier.specs.Wants.{Want}
use Rattle.cache_tier.specs.Worlds.{World, faulty, only}
use Rattle.tier_journal.specs.KeptOver.{DiskIsCaused, KeepsOver}
use Rattle.tier_journal.proofs.FlushLaws.{still_over}
use Rattle.tier_journal.proofs.WayLaws.{kept_unless}
use Rattle.stored_tier.specs.declared.tier.Tier.{Tier as Stored}
use Rattle.stored_tier.specs.Performing.{IsCalm, IsCausedOver, IsStopCausedOver, PerformsOver, StandsFor}
use Rattle.stored_tier.specs.Refreshing.{is_off}
use Rattle.stored_tier.specs.Stored.{without_list}
use Rattle.stored_tier.proofs.QuietLaws.{calm_refused}
use Rattle.stored_tier.proofs.OverLaws.{caused_stopped, keeps_stays, keeps_tier}
use Rattle.row_types.specs.declared.rule.Refused.TheVariants as refused
use Rattle.group_engine.specs.declared.ready.Ready.{Ready}
use Rattle.group_engine.specs.Ready.{WritesReady}
use Rattle.group_engine.specs.Bringing.{BringsJoined, BringsWhole, TriesFirst}
use Rattle.group_engine.proofs.GroupRows.{same_there}
use Rattle.group_engine.proofs.ReadLaws.{unmapped}
use Rattle.group_engine.proofs.ReadyLaws.{answered_cause, flushes_none, moved_cause}
use Rattle.group_engine.proofs.WholeLaws.{one_call, tried_alone, tried_set}

-- of the group that is there
brings_there : (place : ℕ) (g : Group) (want : Want) (w w' : World) (stop : Option Reply) → slice_get w.tier.groups place ≡ Some g → BringsReadOnly place g want w w' stop → BringsWhole place want w w' stop
brings_there place g want w w' stop there is h at reads = subst (λ y. BringsReadOnly place y want w w' stop) (same_there w.tier.groups place g h there at) is

module _ {D : Type 0} (state : D → SiteState) (possible : D → ℕ → Held → Type 0) (old new : Stored) (k k' : Option TierJournal) (d d' : D) (place : ℕ) (want : Want) (stop : Option Reply) (seen : Group) (at : slice_get (groups_in old.catalog) place ≡ Some seen) (reads : is_read_only seen ≡ true) where
  -- it is in no set
  pub brought_off : seen.state ≡ Off → BringsJoined state possible old new k k' d d' place seen.def.interval want stop → PerformsOver state possible old new k k' d d' stop (λ w w'. TriesFirst (BringsWhole place want) w w' stop)
  brought_off off brings w at_w stands apart keeps =
      let u = unmapped w.tier.groups place seen (ap (λ l. slice_get l place) stands.stored.groups ∙ at) in
      let is : without_list u.0 ≡ seen = u.2 in
      let off_there : u.0.state ≡ Off = ap (λ (y : Group). y.state) is ∙ off in
      let p = brings u.0 (ap is_read_only is ∙ reads) (ap (λ (y : Group). y.def.interval) is) w at_w stands apart keeps u.1 in
      let r = p.is in
      record {
        world = p.world;
        at = p.at;
        is = inl (brings_there place u.0 want w p.world stop u.1 (record { result = r.result; mid = r.mid; call = r.call; tier = r.tier ∙ tried_alone u.0 w.tier off_there; goes_on = r.goes_on }));
        stands = p.stands;
        keeps = p.keeps;
      }

  -- or the note comes first
  pub brought_on : (noted : Stored) → is_off seen.state ≡ false → ((w : World) → StandsFor old w → StandsFor noted (record w { tier = refresh_tried seen.def.interval w.tier }))
      → BringsJoined state possible noted new k k' d d' place seen.def.interval want stop → PerformsOver state possible old new k k' d d' stop (λ w w'. TriesFirst (BringsWhole place want) w w' stop)
  brought_on noted on notes brings w at_w stands apart keeps =
      let u = unmapped w.tier.groups place seen (ap (λ l. slice_get l place) stands.stored.groups ∙ at) in
      let is : without_list u.0 ≡ seen = u.2 in
      let on_there : is_off u.0.state ≡ false = ap (λ (y : Group). is_off y.state) is ∙ on in
      let interval : u.0.def.interval ≡ seen.def.interval = ap (λ (y : Group). y.def.interval) is in
      let p = brings u.0 (ap is_read_only is ∙ reads) interval (record w { tier = refresh_tried seen.def.interval w.tier })
      (record { there = at_w.there; told = at_w.told; history = at_w.history; faults = at_w.faults; moment = at_w.moment; shared = at_w.shared }) (notes w stands) apart (keeps_tier state possible d k w (refresh_tried seen.def.interval w.tier) refl keeps) u.1 in
      let r = p.is in
      record {
        world = p.world;
        at = p.at;
        is = inl (brings_there place u.0 want w p.world stop u.1 (record { result = r.result; mid = r.mid; call = one_call (TellsPosition r.result) w r.mid (refresh_tried seen.def.interval w.tier) r.call; tier = r.tier ∙ ap (λ i. refresh_tried i w.tier) (sym interval) ∙ tried_set u.0 w.tier on_there; goes_on = r.goes_on }));
        stands = p.stands;
        keeps = p.keeps;
      }

module _ {D : Type 0} (state : D → SiteState) (possible : D → ℕ → Held → Type 0) (old new : Stored) (k : Option TierJournal) (place : ℕ) (want : Want) where
  -- memory was wanting
  pub brought_wanting : (k' : Option TierJournal) (d : D) (reply : Reply) → StaysKept k k' → ((w : World) → StandsFor old w → StandsFor new w) → reply ≡ faulty code.Memory → PerformsOver state possible old new k k' d d (Some reply) (λ w w'. TriesFirst (BringsWhole place want) w w' (Some reply))
  brought_wanting k' d reply stays still is w at stands apart keeps = record {
    world = w;
    at = at;
    is = inr (refl, ap (λ y. Some y) is);
    stands = λ whole. still w stands;
    keeps = kept_unless (keeps_stays state possible d k k' w stays keeps);
  }

  -- with what was made ready
  pub brought_moved : (mid k' : Option TierJournal) (d d' : D) (stop : Option Reply) (does : World → World → Type 0) → StaysKept k mid → PerformsOver state possible old new mid k' d d' stop does → PerformsOver state possible old new k k' d d' stop does
  brought_moved mid k' d d' stop does stays performs w at stands apart keeps = performs w at stands apart (keeps_stays state possible d k mid w stays keeps)

-- where no journal is kept, nothing is flushed
module _ {D : Type 0} (state : D → SiteState) (possible : D → ℕ → Held → Type 0) where
  pub none_written : (k : Option TierJournal) (d : D) (ready : Ready) → k ≡ None → WritesReady state possible k k d d ready None
  none_written k d ready is = λ w entries now over of. still_over state possible k d w None (FlushesSome entries) now over (flushes_none entries w (subst (λ x. KeepsOver state possible d x w) is over))

pub none_is : (k : Option TierJournal) (none : Bool) → is_some k ≡ not none → none ≡ true → k ≡ None
none_is None none e is = refl
none_is (Some t) none e is = absurd (never (e ∙ ap not is))
  where
    never : (true ≡ false) → ⊥
    never f = cc

pub some_is : {P : Type 0} (k : Option TierJournal) (none : Bool) → is_some k ≡ not none → none ≡ false → k ≡ None → P
some_is None none e unlike is = absurd (never (e ∙ ap not unlike))
  where
    never : (false ≡ true) → ⊥
    never f = cc
some_is (Some t) none e unlike is = absurd (never is)
  where
    never : (Some t ≡ None) → ⊥
    never f = cc

-- causes

pub wanting_calm : (reply : Reply) → reply ≡ faulty code.Memory → IsCalm reply
wanting_calm reply is = subst IsCalm (sym is) (calm_refused refused.Memory)

pub moved_stop : (k mid : Option TierJournal) (before behind : SiteState) (stop : Option Reply) → StaysKept k mid → IsStopCausedOver mid before behind stop → IsStopCausedOver k before behind stop
moved_stop k mid before behind None stays x = moved_cause k mid before behind (only (Done 0)) stays x
moved_stop k mid before behind (Some reply) stays x = moved_cause k mid before behind reply stays x

pub flushed_stop : (k : Option TierJournal) (before mid behind : SiteState) (stop : Option Reply) → IsCalm (only (Done 0)) → DiskIsCaused k mid behind stop → ((reply : Reply) → IsCausedOver k mid behind reply → IsCausedOver k before behind reply) → IsStopCausedOver k before behind stop
flushed_stop k before mid behind None calm cause so = so (only (Done 0)) (answered_cause k mid behind (only (Done 0)) cause calm)
flushed_stop k before mid behind (Some reply) calm cause so = so reply (caused_stopped k mid behind reply cause)
