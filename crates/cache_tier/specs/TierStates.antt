-- The abstract tier: what it is to a reader. (TimesTen Cache User's Guide; sessions, tickets, doubts and settings are
-- this project's.)

use Rattle.std.specs.Prelude.{ℕ, min, nat_eq, List, [], ◌∷◌, ◌++◌, Option, None, Bool, false, unwrap_or, map, filter, not, find, if◌then◌else◌}
use Rattle.table_defs.specs.Names.{same_name}
use Rattle.table_defs.specs.declared.definition.TableDef.{TableDef}
use Rattle.table_state.specs.declared.history.Sealed.{Sealed}
use Rattle.table_state.specs.declared.operation.Op.{Op}
use Rattle.tier_base.specs.Limits.{greatest}
use Rattle.tier_base.specs.declared.limit.Limit.TheVariants as limit
use Rattle.cache_tier.specs.Groups.{Group, is_called}

-- the settings that act on the tier; those of the clock act on the program
pub record Settings : Type 0 where
  pub workers : ℕ
  pub propagate_ms : ℕ
  pub lru_high : ℕ
  pub lru_low : ℕ
  pub lru_cycle_ms : ℕ
  pub rotate_bytes : ℕ

-- An open session: its label, the passthrough level of its OPEN and that of ttOptSetFlag for this transaction,
-- whether its commits are durable, and its uncommitted writes in the order in which statements made them. The keys
-- that it holds are the footprint of these.
pub record Session : Type 0 where
  pub label : List ℕ
  pub level : ℕ
  pub flag : Option ℕ
  pub durable : Bool
  pub own : List Op

-- what a ticket in doubt is of: a synchronous commit of the session, or a passed-on write. A pushed commit and a FLUSH
-- will be here, too.
pub data Doubted : Type 0 where
  ACommit : Doubted
  APassedWrite : Doubted

-- a ticket of which the bank call failed, so that it may stand in the history or not
pub record Doubt : Type 0 where
  pub ticket : ℕ
  pub session : List ℕ
  pub of : Doubted

-- when the set of an interval was refreshed last, tried or done
pub record SetState : Type 0 where
  pub interval : ℕ
  pub refreshed : ℕ

-- The tier.
--   schema     the definitions of the backing tables, as the bank told them last; a front of those that there are
--   stale      a definition failed since, so the bank is asked before they count
--   groups     the catalog, in the order of the definitions
--   sets       the last refresh of each set of READONLY groups
--   log        the committed transactions in ticket order: an asynchronous one from its commit on, another where it
--              stands in the history
--   unsettled  the asynchronous ones among them whose receipt the tier hasn't seen
--   sessions   in the order in which they were opened
--   doubt      at most one
--   next       the next ticket
--   now        the tier's moment
--   added      the sum of the console's clock additions
--   round      the moment of the last round tried, or of the opening
--   settings   those of the program
-- A phase of resident propagators, and indexes, will be fields, too.
pub record Tier : Type 0 where
  pub schema : List TableDef
  pub stale : Bool
  pub groups : List Group
  pub sets : List SetState
  pub log : List Sealed
  pub unsettled : List Sealed
  pub sessions : List Session
  pub doubt : Option Doubt
  pub next : ℕ
  pub now : ℕ
  pub added : ℕ
  pub round : ℕ
  pub settings : Settings

-- the moment is cut at the end of the year 9999
abbrev pub cut : ℕ → ℕ
cut moment = min moment (greatest limit.Clock)

-- the tier over a backing database with this schema, before its first line
abbrev pub opened : Settings → ℕ → List TableDef → Tier
opened settings moment schema = record {
  schema = schema;
  stale = false;
  groups = [];
  sets = [];
  log = [];
  unsettled = [];
  sessions = [];
  doubt = None;
  next = 1;
  now = cut moment;
  added = 0;
  round = cut moment;
  settings = settings;
}

-- the session of this label
abbrev pub is_labelled : List ℕ → Session → Bool
is_labelled label s = same_name s.label label

abbrev pub session_of : Tier → List ℕ → Option Session
session_of t label = find (is_labelled label) t.sessions

-- the other sessions, the one opened earliest first
abbrev pub others : List ℕ → Tier → List Session
others label t = filter (λ s. not (is_labelled label s)) t.sessions

-- the passthrough level that counts
abbrev pub level_of : Session → ℕ
level_of s = unwrap_or s.flag s.level

-- the session of this label is changed
abbrev pub with_session : List ℕ → (Session → Session) → Tier → Tier
with_session label change t = record t { sessions = map (λ s. if is_labelled label s then change s else s) t.sessions }

-- with these writes behind its own
abbrev pub with_writes : List Op → Session → Session
with_writes ops s = record s { own = s.own ++ ops }

-- its transaction has ended
abbrev pub at_rest : Session → Session
at_rest s = record s { own = []; flag = None }

-- all groups of a name are changed; there is one at most
abbrev pub with_group : List ℕ → (Group → Group) → Tier → Tier
with_group name change t = record t { groups = map (λ g. if is_called name g then change g else g) t.groups }

-- when the set of an interval was refreshed last; before that, when the tier was opened
abbrev pub is_of_interval : ℕ → SetState → Bool
is_of_interval interval s = nat_eq s.interval interval

abbrev pub refresh_tried : ℕ → Tier → Tier
refresh_tried interval t =
    record t {
      sets = record { interval = interval; refreshed = t.now } ∷ filter (λ s. not (is_of_interval interval s)) t.sets;
    }
