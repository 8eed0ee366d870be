-- What a tier stands on: its schema, groups, transactions, sessions and next ticket, and the history.
use Rattle.std.proofs.Common.{◌≡◌, refl, sym, subst}
use Rattle.cache_tier.specs.StandingBetween.{Stands}
use Rattle.cache_tier.specs.TierStates.{Tier}
use Rattle.cache_tier.specs.Worlds.{World}

-- the second tier has what the first one stands on
pub record IsSeenAs (a b : Tier) : Type 0 where
  pub schema : b.schema ≡ a.schema
  pub stale : b.stale ≡ a.stale
  pub groups : b.groups ≡ a.groups
  pub log : b.log ≡ a.log
  pub unsettled : b.unsettled ≡ a.unsettled
  pub sessions : b.sessions ≡ a.sessions
  pub next : b.next ≡ a.next

pub seen_as : (a b c : Tier) → b ≡ c → IsSeenAs a c → IsSeenAs a b
seen_as a b c e seen = subst (IsSeenAs a) (sym e) seen

pub seen_self : (a : Tier) → IsSeenAs a a
seen_self a = record { schema = refl; stale = refl; groups = refl; log = refl; unsettled = refl; sessions = refl; next = refl }

-- the tier of the second world, with what the first one's stands on
abbrev mended : World → World → World
mended w w' =
    record w' {
      tier =
          record (w'.tier) {
            schema = w.tier.schema;
            stale = w.tier.stale;
            groups = w.tier.groups;
            log = w.tier.log;
            unsettled = w.tier.unsettled;
            sessions = w.tier.sessions;
            next = w.tier.next;
          };
      history = w.history;
    }

stands_mended : (w w' : World) → Stands w → Stands (mended w w')
stands_mended w w' x = record {
  flow = x.flow;
  schema = record { front = x.schema.front; whole = x.schema.whole };
  catalog = record { each = x.catalog.each; apart = x.catalog.apart };
  keys = x.keys;
  read = x.read;
  sessions = x.sessions;
}

mended_is : (w w' : World) → IsSeenAs w.tier w'.tier → w'.history ≡ w.history → w' ≡ mended w w'
mended_is w w' s h =
    λ i.
    record w' {
      tier =
          record (w'.tier) {
            schema = s.schema i;
            stale = s.stale i;
            groups = s.groups i;
            log = s.log i;
            unsettled = s.unsettled i;
            sessions = s.sessions i;
            next = s.next i;
          };
      history = h i;
    }

pub stands_seen : (w w' : World) → IsSeenAs w.tier w'.tier → w'.history ≡ w.history → Stands w → Stands w'
stands_seen w w' seen history x = subst Stands (sym (mended_is w w' seen history)) (stands_mended w w' x)
