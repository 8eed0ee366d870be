-- The tier that the entries leave, as it begins.
use Rattle.std.proofs.Common.{◌≡◌, ◌∙◌, ℕ, List, [], ◌∷◌, refl, sym, ap, subst}
use Rattle.table_defs.specs.declared.definition.TableDef.{TableDef}
use Rattle.table_state.specs.declared.history.Entry.{Entry}
use Rattle.order_laws.specs.Commits.{RiseBetween}
use Rattle.recovery_laws.specs.Notes.{commits_in}
use Rattle.cache_tier.specs.Events.{with_tier}
use Rattle.cache_tier.specs.Groups.{Group}
use Rattle.cache_tier.specs.Journals.{Commits, Defines, Drops, JournalEntry, Marks, Numbers, Prepares, SetsLoaded, SetsState, next_behind}
use Rattle.cache_tier.specs.StandingBetween.{Each, Stands}
use Rattle.cache_tier.specs.TierStates.{Settings, Tier, opened}
use Rattle.cache_tier.specs.Worlds.{World}
use Rattle.group_catalog.specs.Catalogs.{groups_in}
use Rattle.recovery.specs.Recalling.{AreMatched, Recalls, RecallsAll, notes_of, recalled}
use Rattle.recovery.specs.Reopening.{with_sets_begun}
use Rattle.recalling.specs.Recalled.{IsBare}
use Rattle.reopening.specs.Starting.{BeginsAs, IsUnread}
use Rattle.reopening.specs.declared.start.Start.{Start}
use Rattle.tier_opening.specs.Opening.{begun_tier}
use Rattle.stored_tier.specs.Stored.{pace_of}

-- what no entry changes of a tier
pub record IsStill (t t' : Tier) : Type 0 where
  pub schema : t'.schema ≡ t.schema
  pub stale : t'.stale ≡ t.stale
  pub sessions : t'.sessions ≡ t.sessions
  pub doubt : t'.doubt ≡ t.doubt
  pub now : t'.now ≡ t.now
  pub added : t'.added ≡ t.added
  pub round : t'.round ≡ t.round
  pub settings : t'.settings ≡ t.settings

still : (t t' u : Tier) → t' ≡ u → IsStill t u → IsStill t t'
still t t' u e s = subst (IsStill t) (sym e) s

same : (t : Tier) → IsStill t t
same t = record { schema = refl; stale = refl; sessions = refl; doubt = refl; now = refl; added = refl; round = refl; settings = refl }

one_still : (e : JournalEntry) (t t' : Tier) → Recalls e t t' → IsStill t t'
one_still (Commits s) t t' r = still t t' _ r (record { schema = refl; stale = refl; sessions = refl; doubt = refl; now = refl; added = refl; round = refl; settings = refl })
one_still (Prepares s) t t' r = still t t' _ r (record { schema = refl; stale = refl; sessions = refl; doubt = refl; now = refl; added = refl; round = refl; settings = refl })
one_still (Numbers n) t t' r = still t t' _ r (record { schema = refl; stale = refl; sessions = refl; doubt = refl; now = refl; added = refl; round = refl; settings = refl })
one_still (Marks n) t t' r = still t t' _ r (same t)
one_still (Defines d text) t t' r = still t t' _ r.left (record { schema = refl; stale = refl; sessions = refl; doubt = refl; now = refl; added = refl; round = refl; settings = refl })
one_still (Drops name) t t' r = still t t' _ r (record { schema = refl; stale = refl; sessions = refl; doubt = refl; now = refl; added = refl; round = refl; settings = refl })
one_still (SetsState name state) t t' r = still t t' _ r (record { schema = refl; stale = refl; sessions = refl; doubt = refl; now = refl; added = refl; round = refl; settings = refl })
one_still (SetsLoaded name flag) t t' r = still t t' _ r (record { schema = refl; stale = refl; sessions = refl; doubt = refl; now = refl; added = refl; round = refl; settings = refl })

then_still : (t u v : Tier) → IsStill t u → IsStill u v → IsStill t v
then_still t u v a b = record {
  schema = b.schema ∙ a.schema;
  stale = b.stale ∙ a.stale;
  sessions = b.sessions ∙ a.sessions;
  doubt = b.doubt ∙ a.doubt;
  now = b.now ∙ a.now;
  added = b.added ∙ a.added;
  round = b.round ∙ a.round;
  settings = b.settings ∙ a.settings;
}

pub all_still : (entries : List JournalEntry) (t t' : Tier) → RecallsAll entries t t' → IsStill t t'
all_still [] t t' r = still t t' t r (same t)
all_still (e ∷ entries) t t' r = then_still t r.0 t' (one_still e t r.0 r.1) (all_still entries r.0 t' r.2)

unread : (groups : List Group) → Each IsBare groups → Each IsUnread groups
unread [] b = tt
unread (g ∷ groups) b = (b.0.position, unread groups b.1)

pub begins_as : (start : Start) (settings : Settings) (entries : List JournalEntry) (history : List Entry) (catalog : Tier)
    → pace_of settings ≡ start.pace → RecallsAll entries (opened settings start.now.0 start.schema) catalog
    → groups_in start.catalog ≡ catalog.groups → Each IsBare (groups_in start.catalog)
    → start.commits.items ≡ commits_in (notes_of start.schema entries) → start.next ≡ next_behind entries
    → RiseBetween 1 start.commits.items start.next → BeginsAs start (begun_tier start.schema entries history catalog)
begins_as start settings entries history catalog due recalls groups bare commits next rise =
    let s = all_still entries (opened settings start.now.0 start.schema) catalog recalls in
    record {
      schema = s.schema;
      told = s.stale;
      groups = sym groups;
      unread = subst (Each IsUnread) groups (unread (groups_in start.catalog) bare);
      sets = refl;
      unsettled = sym commits;
      rise = subst (λ xs. RiseBetween 1 xs (next_behind entries)) commits (subst (RiseBetween 1 start.commits.items) next rise);
      sessions = s.sessions;
      doubt = s.doubt;
      next = sym next;
      now = s.now;
      added = s.added;
      round = s.round;
      due = ap pace_of s.settings ∙ due;
    }

-- where sets count from plays no part in what stands
with_sets : (w : World) (t : Tier) → Stands (with_tier t w) → Stands (with_tier (with_sets_begun t) w)
with_sets w t x = record { flow = x.flow; schema = record { front = x.schema.front; whole = x.schema.whole }; catalog = record { each = x.catalog.each; apart = x.catalog.apart }; keys = x.keys; read = x.read; sessions = x.sessions }

-- the law of the tier that entries leave
abbrev pub RecalledLaw : Type 0
RecalledLaw =
    (w : World) (entries : List JournalEntry) (settings : Settings) (moment : ℕ) (t : Tier)
    (m : AreMatched entries w.history) → RecallsAll entries (opened settings moment m.backing.schema) t
    → Stands (with_tier (recalled m.backing.schema entries w.history t) w)

pub begun_stands : RecalledLaw → (w : World) (entries : List JournalEntry) (settings : Settings) (moment : ℕ) (schema : List TableDef) (catalog : Tier)
    (m : AreMatched entries w.history) → m.backing.schema ≡ schema → RecallsAll entries (opened settings moment schema) catalog
    → Stands (with_tier (begun_tier schema entries w.history catalog) w)
begun_stands law w entries settings moment schema catalog m same recalls =
    with_sets w (recalled schema entries w.history catalog)
    (subst (λ s. Stands (with_tier (recalled s entries w.history catalog) w)) same
    (law w entries settings moment catalog m (subst (λ s. RecallsAll entries (opened settings moment s) catalog) (sym same) recalls)))
