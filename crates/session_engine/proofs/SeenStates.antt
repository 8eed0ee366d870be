-- The state that a session sees.
use Rattle.std.proofs.Common.{◌≡◌, Option, Some, None, is_some, true, refl}
use Rattle.tier_base.specs.declared.number.SessionId.{SessionId}
use Rattle.table_state.specs.Operations.{applied_all}
use Rattle.table_state.specs.Tables.{TableState}
use Rattle.open_sessions.specs.Lookups.{open_ops}
use Rattle.open_sessions.specs.Opening.{seen_all}
use Rattle.cache_tier.specs.Facts.{OverIsApplied}
use Rattle.cache_tier.specs.Shown.{seen_by}
use Rattle.cache_tier.specs.TierStates.{Session}
use Rattle.cache_tier.specs.Worlds.{World}
use Rattle.stored_tier.specs.declared.tier.Tier.{Tier as Stored}
use Rattle.stored_tier.specs.Stored.{HasSession, IsSound, IsVerified, ShowsRows, rows_of}
use Rattle.stored_tier.proofs.OwnSeen.{NumberLaw, own_lies, seen_is}

-- a state that the session sees
pub record Sees (t : Stored) (id : SessionId) (s : Session) (w : World) : Type 0 where
  pub state : TableState
  pub applied : applied_all (open_ops id (seen_all t.sessions)) (rows_of t) ≡ Some state
  pub is : state ≡ seen_by s w.history w.tier

pub sees : OverIsApplied → NumberLaw → (t : Stored) (id : SessionId) (s : Session) (w : World) → IsSound t → IsVerified t → ShowsRows t w → HasSession t id s → Sees t id s w
sees over law t id s w sound verified shows has = by (applied_all (open_ops id (seen_all t.sessions)) (rows_of t)) refl (own_lies t id verified).applies
  where
    by : (o : Option TableState) → applied_all (open_ops id (seen_all t.sessions)) (rows_of t) ≡ o → is_some o ≡ true → Sees t id s w
    by None is some = cc
    by (Some st) is some = record { state = st; applied = is; is = seen_is over law t id s w st sound shows has is }
