-- Laws of calls that fail after their effect.
use Rattle.std.proofs.Common.{◌≡◌, ℕ, zero, suc, ◌<◌, true, false, Option, Some, None, Ok, Err, List, [], ◌∷◌, ◌++◌, length, get_or, inl, subst, refl, sym, ap, ◌∙◌, arith}
use Rattle.std.specs.Option.{IsSome}
use Rattle.tier_base.specs.declared.number.Ticket.{Ticket}
use Rattle.table_state.specs.declared.history.Entry.{Entry}
use Rattle.table_state.specs.declared.history.Sealed.{Sealed}
use Rattle.table_state.specs.Histories.{entry_of, has_ticket}
use Rattle.table_state.specs.Tables.{TableState}
use Rattle.outside.specs.Bank.{AppliesOnce, CanFollow, HasAll}
use Rattle.outside.specs.declared.fault.BankError.TheVariants.{Failed}
use Rattle.outside.specs.declared.site.Applied.{Applied}
use Rattle.outside.specs.declared.site.Applied.TheVariants.{Now, Before, NotReady, Differs}
use Rattle.backing_gate.specs.declared.plan.Outcome.{Outcome}
use Rattle.backing_gate.specs.declared.plan.Outcome.TheVariants as outcome
use Rattle.backing_gate.specs.declared.plan.When.TheVariants as when
use Rattle.backing_gate.specs.Heeding.{BankState, Heeds}
use Rattle.backing_gate.specs.Plans.{one_more}

has_at : (tickets : List Ticket) (h : List Entry) (i : ℕ) (ticket : Ticket) → HasAll tickets h → i < length tickets → get_or tickets i ticket ≡ ticket → has_ticket ticket.0 h ≡ true
has_at [] h i ticket all lt is = absurd (omega arith)
has_at (t ∷ tickets) h zero ticket all lt is = ap (λ (x : Ticket). has_ticket x.0 h) (sym is) ∙ all.0
has_at (t ∷ tickets) h (suc i) ticket all lt is = has_at tickets h i ticket all.1 (omega arith) is

-- where a transaction can come next, the call that answers lets it come
pub comes : (s : Sealed) (after : List Ticket) (old new : List Entry) (applied : Applied) → AppliesOnce s after (Ok applied) old new → CanFollow s after old → new ≡ old ++ entry_of s ∷ []
comes s after old new (Now receipt) h can = h.0.grows
comes s after old new (Before receipt) h can = let no : has_ticket s.ticket.0 old ≡ false = can.fresh in let yes : has_ticket s.ticket.0 old ≡ true = h.0 in cc
comes s after old new (NotReady ticket) h can =
    let no : has_ticket ticket.0 old ≡ false = h.2 in
    let yes : has_ticket ticket.0 old ≡ true = has_at after old h.1.0 ticket can.waited h.1.1 h.1.2 in
    cc
comes s after old new (Differs table key row) h can = absurd (none (subst (λ (o : Option TableState). IsSome o) h.2 can.applies))
  where
    none : IsSome {T = TableState} None → ⊥
    none e = cc

pub fails_after : (plan : Option Outcome) (old new : BankState) (effect : Type 0) → plan ≡ Some (outcome.Failed when.After) → effect → new.faults ≡ one_more old.faults
    → Heeds {T = Applied} plan old new (Err Failed) effect
fails_after plan old new effect is done counted = subst (λ (p : Option Outcome). Heeds {T = Applied} p old new (Err Failed) effect) (sym is) (inl (refl, done, counted))
