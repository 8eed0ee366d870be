-- INSERT, UPDATE and DELETE: in the cache, or passed on. (TimesTen SQL Reference, "INSERT", "UPDATE", "DELETE";
-- TimesTen Cache User's Guide, "Setting a passthrough level"; locks are this project's rule.)

use Rattle.std.specs.Prelude.{◌≡◌, List, [], ◌∷◌, Result, Ok, Err}
use Rattle.cache_tier.specs.declared.reply.Reply.{Reply}
use Rattle.cache_tier.specs.DynamicLoads.{LoadsWanted}
use Rattle.cache_tier.specs.Shown.{seen_by}
use Rattle.cache_tier.specs.TierStates.{Session, level_of}
use Rattle.cache_tier.specs.Worlds.{Part, Then, Unless, World, Tries, Refuses}
use Rattle.row_types.specs.declared.rule.Rule.{Rule}
use Rattle.cache_tier.specs.Locks.{lock_fault}
use Rattle.tier_base.specs.declared.number.TableId.{TableId}
use Rattle.table_state.specs.declared.operation.Op.{Op}
use Rattle.table_state.specs.declared.operation.Op.TheVariants.{Insert, Update, Delete}
use Rattle.evaluator.specs.declared.change.Change.{Change}
use Rattle.evaluator.specs.Writes.{effects_of}
use Rattle.resolution.specs.Writes.{PlacedChange, change_seen, resolved_write}
use Rattle.sql_query.specs.declared.write.Write.{Write}
use Rattle.cache_tier.specs.PassedSteps.{PassesOn}
use Rattle.cache_tier.specs.Routes.{Route, Cached, PassedOn, visible, write_route}
use Rattle.cache_tier.specs.Wants.{wanted_by_write}
use Rattle.cache_tier.specs.OwnWrites.{room_of}
use Rattle.cache_tier.specs.InsertSteps.{Inserts}
use Rattle.cache_tier.specs.ChangeSteps.{Changes}

-- the operations of a statement; an INSERT has one
abbrev pub WritesOps : Session → TableId → List Op → Part
WritesOps s table (Insert t row ∷ []) w w' reply = Inserts s t row w w' reply
WritesOps s table [] w w' reply = Changes s table [] w w' reply
WritesOps s table (Insert t row ∷ op ∷ ops) w w' reply = Changes s table (Insert t row ∷ op ∷ ops) w w' reply
WritesOps s table (Update t old new ∷ ops) w w' reply = Changes s table (Update t old new ∷ ops) w w' reply
WritesOps s table (Delete t old ∷ ops) w w' reply = Changes s table (Delete t old ∷ ops) w w' reply

-- 111 of all of them comes before
abbrev pub WritesEffects : Session → TableId → Result (List Op) Rule → Part
WritesEffects s table (Err rule) w w' reply = Refuses rule w w' reply
WritesEffects s table (Ok ops) w w' reply = Unless (lock_fault s.label w.tier ops) (WritesOps s table ops) w w' reply

-- a write with places in place of names, over what the session sees
pub record WritesShown (s : Session) (placed : PlacedChange) (w w' : World) (reply : Reply) : Type 0 where
  pub change : Change
  pub stands_for : change_seen change ≡ placed
  pub writes : WritesEffects s placed.table (effects_of (room_of s) change (seen_by s w.history w.tier)) w w' reply

abbrev pub WritesBy : Result Route Rule → Session → PlacedChange → Part
WritesBy (Err rule) s placed w w' reply = Refuses rule w w' reply
WritesBy (Ok Cached) s placed w w' reply =
    Then (LoadsWanted (wanted_by_write w.tier placed)) (Tries (WritesShown s placed)) w w' reply
WritesBy (Ok PassedOn) s placed w w' reply = PassesOn s placed w w' reply

abbrev pub WritesPlaced : Session → Result PlacedChange Rule → Part
WritesPlaced s (Err rule) w w' reply = Refuses rule w w' reply
WritesPlaced s (Ok placed) w w' reply = WritesBy (write_route (level_of s) w.tier placed.table) s placed w w' reply

-- INSERT, UPDATE, DELETE
abbrev pub Writes : Session → Write → Part
Writes s write w w' reply = WritesPlaced s (resolved_write (visible (level_of s) w.tier) write) w w' reply
