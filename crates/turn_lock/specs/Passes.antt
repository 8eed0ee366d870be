-- What clauses say of a lock, of its passes and of a value that is held. This project's words.
use Rattle.std.specs.Prelude.{ℕ, List}
use Rattle.atomic_table.specs.Seated.{TableId}
use Rattle.turn_lock.specs.Places.{occurrences, total}
use Rattle.turn_lock.specs.Turns.{found_of}
use Rattle.turn_lock.specs.declared.view.Grows.{Ghosts}
use Rattle.turn_lock.specs.declared.held.Pass.{Pass}
use Rattle.turn_lock.specs.declared.held.Held.{Held}
use Rattle.turn_lock.specs.declared.held.Seen.{Seen}
use Rattle.turn_lock.specs.declared.lock.TurnLock.{TurnLock}

-- what tells one lock from every other
abbrev pub LockId : Type 0
LockId = TableId

module _ {V E : Type 0} where
  -- which lock it is
  abbrev pub lock_id : TurnLock V E → LockId
  lock_id l = l.table.shared.table_id

  -- the value that the lock was made with
  abbrev pub lock_opening : TurnLock V E → V
  lock_opening l = l.table.shared.key.value.value

  -- how many passes the lock was made with, and so how many parts it has
  abbrev pub lock_seats : TurnLock V E → ℕ
  lock_seats l = l.table.shared.key.seats

module _ {V E : Type 0} {g : Ghosts V E} where
  -- the lock of a pass
  abbrev pub pass_lock : Pass V E g → LockId
  pass_lock p = p.seat.table_id

  -- for how many parts of the lock a pass stands
  abbrev pub pass_parts : Pass V E g → ℕ
  pass_parts p = p.seat.me.0.parts

  -- for how many these passes stand, all together
  abbrev pub total_parts : List (Pass V E g) → ℕ
  total_parts ps = total pass_parts ps

  -- the list that a pass has seen: the one that it gave last, or else the one that it began with
  abbrev pub pass_seen : Pass V E g → List E
  pass_seen p = p.seat.me.0.seen

  -- what it was told that other passes had seen
  abbrev pub pass_told : Pass V E g → List (List E)
  pass_told p = p.seat.me.0.told

  -- the places of the list that it gave
  abbrev pub pass_given : Pass V E g → List ℕ
  pass_given p = p.seat.me.0.given

  -- how often these passes, all together, gave the place k
  abbrev pub times_given : ℕ → List (Pass V E g) → ℕ
  times_given k ps = total (λ p. occurrences k (pass_given p)) ps

  -- the lock of a value that is held
  abbrev pub held_lock : Held V E g → LockId
  held_lock h = h.seat.table_id

  -- for how many parts the holder's pass stands
  abbrev pub held_parts : Held V E g → ℕ
  held_parts h = h.seat.me.0.parts

  -- the list that the value stored when its turn came
  abbrev pub held_found : Held V E g → List E
  held_found h = found_of h.seat.me.0.stage

  -- what the holder's pass was told that other passes had seen
  abbrev pub held_told : Held V E g → List (List E)
  held_told h = h.seat.me.0.told

  -- the places that the holder's pass gave in earlier turns
  abbrev pub held_given : Held V E g → List ℕ
  held_given h = h.seat.me.0.given

  -- the lock of what was split off a pass
  abbrev pub seen_lock : Seen V E g → LockId
  seen_lock s = s.seat.table_id

  -- the list that the pass had seen
  abbrev pub seen_list : Seen V E g → List E
  seen_list s = s.seat.me.0.seen

  -- what the pass was told that others had seen
  abbrev pub seen_told : Seen V E g → List (List E)
  seen_told s = s.seat.me.0.told
