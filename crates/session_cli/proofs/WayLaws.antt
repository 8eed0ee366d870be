-- A way of the journal begins between two lines.
use Rattle.std.proofs.Common.{◌≡◌, ℕ, List, true, false, Option, Some, None, length, sym, ap, ◌∙◌}
use Rattle.outside.specs.Holding.{Held}
use Rattle.outside.specs.Sites.{SiteState}
use Rattle.cache_tier.specs.Journals.{Journal}
use Rattle.cache_tier.specs.WayPoints.{with_way}
use Rattle.cache_tier.specs.Groups.{is_table_of, is_writethrough}
use Rattle.cache_tier.specs.TierStates.{Tier}
use Rattle.cache_tier.specs.Worlds.{IsUnshared, World}
use Rattle.cache_engine.specs.declared.engine.Engine.{Engine}
use Rattle.cache_engine.proofs.WritingLaws.{written_seen}
use Rattle.outside.specs.Others.{is_shared}
use Rattle.tier_journal.specs.declared.journal.TierJournal.{TierJournal}
use Rattle.tier_journal.specs.Beginning.{begun_here}
use Rattle.tier_journal.specs.KeptOver.{IsLeftOver, KeepsOver, LeavesOver}
use Rattle.tier_journal.proofs.WayLaws.{ways_begin}
use Rattle.stored_tier.specs.declared.tier.Tier.{Tier as Stored}
use Rattle.stored_tier.specs.Performing.{StandsFor}
use Rattle.stored_tier.specs.Sites.{IsAt}
use Rattle.stored_tier.proofs.OverLaws.{stands_written}
use Rattle.session_engine.specs.declared.doubt.Doubt.{Doubt}
use Rattle.session_engine.specs.declared.doubt.Doubted.{Doubted}
use Rattle.session_engine.specs.declared.doubt.Doubted.TheVariants.{Commit, PassedWrite}
use Rattle.session_engine.specs.Doubting.{CommitIsInDoubt, IsInDoubt, IsLeft, WriteIsInDoubt}
use Rattle.session_cli.specs.Outside.{WasKept, seen}
use Rattle.session_cli.specs.Serving.{StandsHere}
use Rattle.session_cli.specs.Timing.{Coming}
use Rattle.session_cli.proofs.SlotLaws.{in_slots}

pub at_begun : (site : SiteState) (w : World) → IsAt site w → IsAt site (begun_here w)
at_begun site w at = record { there = at.there; told = at.told; history = at.history; faults = at.faults; moment = at.moment; shared = at.shared }

pub keeps_begun : {D : Type 0} (state : D → SiteState) (possible : D → ℕ → Held → Type 0) (d : D) (k : Option TierJournal) (w : World) → IsAt (state d) w → KeepsOver state possible d k w → KeepsOver state possible d k (begun_here w)
keeps_begun state possible d k w at keeps = ways_begin state possible d k w at.moment (record { there = at.there; told = at.told; same = sym at.history }) keeps

stands_begun : (t : Stored) (w : World) → StandsFor t w → StandsFor t (begun_here w)
stands_begun t w stands = stands_written t w (begun_here w).journal w.disk_faults w.moment stands

-- the world of before with the way of this one
abbrev with_same_way : World → World → World
with_same_way w was = record was { journal = with_way w.moment (length w.history) was.journal }

commit_begun : (t : Stored) (d : Doubt) (w : World) → CommitIsInDoubt t d w → CommitIsInDoubt t d (begun_here w)
commit_begun t d w x = record {
  was = with_same_way w x.was;
  stands = stands_written (record t { next = d.ticket }) x.was (with_same_way w x.was).journal x.was.disk_faults x.was.moment x.stands;
  unshared = x.unshared;
  session = x.session;
  has = x.has;
  on = x.on;
  next = x.next;
  room = x.room;
  call = record {
    history = x.call.history;
    journal = ap (λ (j : Journal). with_way w.moment (length w.history) j) x.call.journal;
    faults = x.call.faults;
    disk = x.call.disk;
    moment = x.call.moment;
    shared = x.call.shared;
  };
  tier = x.tier;
  legal = x.legal;
  read = x.read;
}

write_begun : (t : Stored) (d : Doubt) (w : World) → WriteIsInDoubt t d w → WriteIsInDoubt t d (begun_here w)
write_begun t d w x = record {
  was = with_same_way w x.was;
  stands = stands_written (record t { next = d.ticket }) x.was (with_same_way w x.was).journal x.was.disk_faults x.was.moment x.stands;
  unshared = x.unshared;
  session = x.session;
  has = x.has;
  next = x.next;
  room = x.room;
  change = x.change;
  off = x.off;
  ops = x.ops;
  call = record {
    history = x.call.history;
    journal = ap (λ (j : Journal). with_way w.moment (length w.history) j) x.call.journal;
    faults = x.call.faults;
    disk = x.call.disk;
    moment = x.call.moment;
    shared = x.call.shared;
  };
  tier = x.tier;
  legal = x.legal;
  read = x.read;
}

in_doubt_begun : (of : Doubted) (t : Stored) (d : Doubt) (w : World) → IsInDoubt of t d w → IsInDoubt of t d (begun_here w)
in_doubt_begun (Commit ops) t d w x = commit_begun t d w x
in_doubt_begun PassedWrite t d w x = write_begun t d w x

pub left_begun : (t : Stored) (doubt : Option Doubt) (w : World) → IsLeft t doubt w → IsLeft t doubt (begun_here w)
left_begun t None w x = stands_begun t w x
left_begun t (Some d) w x = in_doubt_begun d.of t d w x

-- ---- where the engine is left so at a site

module _ {D : Type 0} (state : D → SiteState) (possible : D → ℕ → Held → Type 0) where
  -- a way may begin there
  pub stands_begun_at : (written : Option (List ℕ)) (coming : Coming) (d : D) (e : Engine) (w : World) → StandsHere (seen written coming state possible d) e w → StandsHere (seen written coming state possible d) e (begun_here w)
  stands_begun_at written coming d e w x =
      let keeps = keeps_begun state possible d e.journal w x.at x.stands.keeps in
      record {
        at = at_begun (state d) w x.at;
        stands = record {
          left = left_begun e.tier e.doubt w x.stands.left;
          keeps = keeps;
          kept = x.stands.kept;
          slots = in_slots state possible d e.journal (begun_here w) x.stands.kept keeps;
        };
      }

  -- a journal was kept over the disk
  pub kept_once : (d : D) (k : Option TierJournal) (w : World) → IsAt (state d) w → KeepsOver state possible d k w → w.journal.kept ≡ true → WasKept state possible w
  kept_once d k w at keeps kept = record { site = d; is = record { at = at; kept = kept; journal = k; keeps = keeps } }

-- a crash leaves a point of the way of a journal that is kept
pub leaves_kept : {D : Type 0} (state : D → SiteState) (possible : D → ℕ → Held → Type 0) (d : D) (k : Option TierJournal) (w : World) → w.journal.kept ≡ true → LeavesOver state possible d k w → IsLeftOver state possible d w
leaves_kept state possible d None w kept none = let never : true ≡ false = sym kept ∙ none in Prim.cc
leaves_kept state possible d (Some t) w kept x = x

-- In all worlds at one site in which a tier is left so, others change no table of a writethrough group where they change
-- none in one of them.
apart_in_doubt : (of : Doubted) (t : Stored) (d : Doubt) (w : World) → IsInDoubt of t d w → IsUnshared w
apart_in_doubt (Commit ops) t d w x table e =
    ap (λ (a : Tier). is_table_of is_writethrough a.groups table) x.tier ∙ x.unshared table (sym (ap (λ s. is_shared s table) x.call.shared) ∙ e)
apart_in_doubt PassedWrite t d w x table e =
    ap (λ (a : Tier). is_table_of is_writethrough a.groups table) x.tier ∙ x.unshared table (sym (ap (λ s. is_shared s table) x.call.shared) ∙ e)

pub unshared_too : (t : Stored) (doubt : Option Doubt) (w v : World) → IsLeft t doubt w → IsLeft t doubt v → v.shared ≡ w.shared → IsUnshared w → IsUnshared v
unshared_too t None w v x y same apart table e =
    sym (written_seen v.tier.groups table) ∙ ap (λ gs. is_table_of is_writethrough gs table) (y.stored.groups ∙ sym x.stored.groups) ∙ written_seen w.tier.groups table ∙ apart table (sym (ap (λ s. is_shared s table) same) ∙ e)
unshared_too t (Some d) w v x y same apart table e = apart_in_doubt d.of t d v y table e
