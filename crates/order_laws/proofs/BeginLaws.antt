-- Where it begins; what may come may come later; a session's writes over a changed state.
use Rattle.std.proofs.Common.{◌≡◌, ℕ, ◌≤◌, ◌<◌, Bool, true, false, cond, ◌||◌, Option, Some, None, List, [], ◌∷◌, ◌++◌, refl, sym, ap, ◌∙◌, arith}
use Rattle.std.specs.Option.{option_and_then}
use Rattle.table_state.specs.tier_base.specs.declared.number.TableId.{TableId}
use Rattle.table_state.specs.declared.history.Entry.{Entry}
use Rattle.table_state.specs.declared.history.Entry.TheVariants.{Definition, Foreign, Own}
use Rattle.table_state.specs.declared.history.Sealed.{Sealed}
use Rattle.table_state.specs.declared.operation.Op.{Op}
use Rattle.table_state.specs.Histories.{has_ticket, state_of}
use Rattle.table_state.specs.Tables.{TableState}
use Rattle.table_state.specs.Operations.{applied_all}
use Rattle.table_state.proofs.HistoryLaws.{has_ticket-append}
use Rattle.order_laws.specs.Commits.{FollowsLower, HasOps, KeepsOrder, Once, conflicting, is_op_on, ops_on}
use Rattle.order_laws.specs.Sides.{AgreeOn, IsClosed, are_on}
use Rattle.order_laws.specs.Standing.{StandOver, progress_of}
use Rattle.order_laws.proofs.SideLaws.{restricted}
use Rattle.order_laws.proofs.TruthLaws.{both_true}

-- with no transactions yet

no_ops : (h : List Entry) → HasOps [] h
no_ops [] = tt
no_ops (Definition def ∷ h) = no_ops h
no_ops (Foreign ops ∷ h) = no_ops h
no_ops (Own ticket ops ∷ h) = (tt, no_ops h)

no_order : (conflict : Sealed → Sealed → Bool) (front h : List Entry) → KeepsOrder conflict [] front h
no_order conflict front [] = tt
no_order conflict front (Definition def ∷ h) = no_order conflict (front ++ Definition def ∷ []) h
no_order conflict front (Foreign ops ∷ h) = no_order conflict (front ++ Foreign ops ∷ []) h
no_order conflict front (Own ticket ops ∷ h) = (λ stands. tt, no_order conflict (front ++ Own ticket ops ∷ []) h)

pub begins : (h : List Entry) (next : ℕ) (b : TableState) → state_of h ≡ Some b → Once h → 1 ≤ next → ((t : ℕ) → next ≤ t → has_ticket t h ≡ false) → StandOver (progress_of [] h [] next)
begins h next b leaves once le below = record {
  backing = b;
  leaves = leaves;
  virtual = b;
  virtual_is = none_pending (state_of h) ∙ leaves;
  rise = le;
  below = below;
  legal = record { once = once; ops = no_ops h; order = no_order (conflicting b.schema) [] h };
  ordered = tt;
}
  where
    none_pending : (o : Option TableState) → option_and_then (λ s. Some s) o ≡ o
    none_pending None = refl
    none_pending (Some s) = refl

-- what may come may come later

pub follows_longer : (conflict : Sealed → Sealed → Bool) (log : List Sealed) (s : Sealed) (h more : List Entry) → FollowsLower conflict log s h → FollowsLower conflict log s (h ++ more)
follows_longer conflict [] s h more follows = tt
follows_longer conflict (x ∷ log) s h more follows =
    (λ lower conflicts. has_ticket-append x.ticket.0 h more ∙ ap (λ b. b || has_ticket x.ticket.0 more) (follows.0 lower conflicts), follows_longer conflict log s h more follows.1)

pub follows_more : (conflict : Sealed → Sealed → Bool) (log : List Sealed) (later s : Sealed) (h : List Entry) → s.ticket.0 ≤ later.ticket.0 → FollowsLower conflict log s h → FollowsLower conflict (log ++ later ∷ []) s h
follows_more conflict [] later s h le follows = (λ lower. absurd (never lower), tt)
  where
    never : later.ticket.0 < s.ticket.0 → ⊥
    never lower = let a : s.ticket.0 ≤ later.ticket.0 = le in omega (arith, lower)
follows_more conflict (x ∷ log) later s h le follows = (follows.0, follows_more conflict log later s h le follows.1)

-- a session's writes

all_kept : (tables : List TableId) (ops : List Op) → are_on tables ops ≡ true → ops_on tables ops ≡ ops
all_kept tables [] on = refl
all_kept tables (op ∷ ops) on =
    let (first, rest) = both_true (is_op_on tables op) (are_on tables ops) on in
    ap (λ b. cond b (op ∷ ops_on tables ops) (ops_on tables ops)) first ∙ ap (λ l. op ∷ l) (all_kept tables ops rest)

-- they apply over each state that agrees on their tables, and leave the same there
pub applies_over : (tables : List TableId) (ops : List Op) (s t n : TableState) → IsClosed tables s.schema → AgreeOn tables s n → are_on tables ops ≡ true → applied_all ops s ≡ Some t → (u : TableState) × (applied_all ops n ≡ Some u) × AgreeOn tables t u
applies_over tables ops s t n closed agree on is =
    let (u, u_is, behind) = restricted tables ops s t n closed agree is in
    (u, ap (λ l. applied_all l n) (sym (all_kept tables ops on)) ∙ u_is, behind)
