use Rattle.std.proofs.Common.{◌≡◌, [], ◌+◌, ◌≤◌, vec_capacity, All, vec_len}
use Rattle.turn_lock.specs.Passes.{lock_id, pass_lock, pass_parts, pass_seen, pass_told, pass_given}
use Rattle.turn_lock.proofs.lock.TurnLock.deal.Given as goal

abbrev pub invariant-loop : goal.invariant-loop
invariant-loop g l = record {
  lock : pass_lock l.pass ≡ lock_id l.self;
  seen : pass_seen l.pass ≡ pass_seen l.fn.pass;
  told : pass_told l.pass ≡ [];
  given : pass_given l.pass ≡ [];
  parts : pass_parts l.pass + l.counter ≡ l.seats + 1;
  len : vec_len l.passes + 1 ≡ l.counter;
  room : l.seats ≤ vec_capacity l.passes;
  lock_passes : All (λ p. pass_lock p ≡ lock_id l.self) l.passes.items;
  parts_passes : All (λ p. pass_parts p ≡ 1) l.passes.items;
  seen_passes : All (λ p. (pass_seen p ≡ pass_seen l.fn.pass) × (pass_told p ≡ [])) l.passes.items;
  given_passes : All (λ p. pass_given p ≡ []) l.passes.items;
}
