use Rattle.std.proofs.Common.{◌≡◌, ◌+◌, ℕ, List, All, vec_len}
use mathlib.Core.List.{IsPrefix}
use Rattle.turn_lock.specs.Places.{AllBegin, occurrences}
use Rattle.turn_lock.specs.Passes.{lock_id, pass_lock, pass_parts, total_parts, pass_seen, pass_told, pass_given, times_given}
use Rattle.turn_lock.proofs.lock.TurnLock.join_all.Given as goal

abbrev pub invariant-loop-other : goal.invariant-loop-other
invariant-loop-other g l = record {
  same : pass_lock l.pass ≡ pass_lock l.initial.pass;
  seen : pass_seen l.pass ≡ pass_seen l.initial.pass;
  parts : pass_parts l.pass + total_parts l.others.items ≡ pass_parts l.initial.pass + total_parts l.initial.others.items;
  lock : All (λ p. pass_lock p ≡ lock_id l.self) l.others.items;
  told : (x : List g.row.V-Item.Denot) → AllBegin (pass_told l.pass) x → All (λ p. IsPrefix (pass_seen p) x × AllBegin (pass_told p) x) l.others.items
      → AllBegin (pass_told l.initial.pass) x × All (λ p. IsPrefix (pass_seen p) x × AllBegin (pass_told p) x) l.initial.others.items;
  given : (k : ℕ) → occurrences k (pass_given l.pass) + times_given k l.others.items ≡ occurrences k (pass_given l.initial.pass) + times_given k l.initial.others.items;
}

abbrev pub decreases-loop-other : goal.decreases-loop-other
decreases-loop-other g l = vec_len l.others
