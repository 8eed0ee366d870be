use Rattle.std.proofs.Common.{◌≡◌, ◌<◌, ℕ, true, nat_eq}
use Rattle.std.specs.List.{list_any}
use Rattle.open_sessions.proofs.sessions.Sessions.free_number.Given as goal

abbrev pub invariant-loop-number : goal.invariant-loop-number
invariant-loop-number l = (k : ℕ) → k < l.number → list_any (λ x. nat_eq x.id.0 k) l.self.open.items ≡ true
