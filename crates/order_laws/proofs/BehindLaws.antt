-- What may stand behind a transaction that leaves the log.
use Rattle.std.proofs.Common.{◌≡◌, ◌⊎◌, inl, inr, ◌<◌, Bool, true, false, List, [], ◌∷◌, ◌++◌, refl, sym, ap, subst, ◌∙◌, append_assoc}
use Rattle.std.specs.List.{list_any}
use Rattle.table_state.specs.tier_base.specs.declared.number.Ticket.{Ticket}
use Rattle.table_state.specs.table_defs.specs.declared.definition.TableDef.{TableDef}
use Rattle.table_state.specs.declared.history.Entry.{Entry}
use Rattle.table_state.specs.declared.history.Entry.TheVariants.{Own}
use Rattle.table_state.specs.declared.history.Sealed.{Sealed}
use Rattle.table_state.specs.declared.operation.Op.{Op}
use Rattle.table_state.specs.Footprints.{conflict, footprint_of}
use Rattle.table_state.specs.Histories.{entry_of, has_ticket}
use Rattle.table_state.proofs.HistoryLaws.{has_ticket-append}
use Rattle.order_laws.proofs.StepLaws.{or_none}
use Rattle.order_laws.specs.Commits.{FollowsLower, IsInLog, IsLegal, KeepsOrder, LiveGroup, Once, is_op_on, ops_on}
use Rattle.order_laws.specs.Steps.{ops_in}
use Rattle.order_laws.proofs.AtOnceLaws.{conflict_none}
use Rattle.order_laws.proofs.ComingLaws.{none_on}
use Rattle.order_laws.proofs.LeavingLaws.{conflict_on}
use Rattle.order_laws.proofs.RoundLaws.{follows_at, in_log, once_before}
use Rattle.order_laws.proofs.TruthLaws.{never_both, not_both}

-- nothing conflicts with no operations
empty_apart : (schema : List TableDef) (ops : List Op) → conflict (footprint_of schema []) (footprint_of schema ops) ≡ false
empty_apart schema ops = conflict_none (footprint_of schema []) (footprint_of schema ops) (record {
  here = λ w e. absurd (never w e);
  there = λ w e. refl;
})
  where
    never : {X : Type 0} (x : X) → false ≡ true → ⊥
    never x e = cc

-- an entry is off the group's tables, or has no conflict
pub behind_by : (g : LiveGroup) (schema : List TableDef) (s : Sealed) (e : Entry) → (list_any (is_op_on g.tables) (ops_in e) ≡ false) ⊎ (conflict (footprint_of schema (ops_in e)) (footprint_of schema s.ops) ≡ false)
    → conflict (footprint_of schema (ops_on g.tables (ops_in e))) (footprint_of schema (ops_on g.tables s.ops)) ≡ false
behind_by g schema s e (inl off) = ap (λ l. conflict (footprint_of schema l) (footprint_of schema (ops_on g.tables s.ops))) (none_on g.tables (ops_in e) off) ∙ empty_apart schema (ops_on g.tables s.ops)
behind_by g schema s e (inr none) = conflict_on g.tables schema (ops_in e) s.ops none

-- of a legal history a lower transaction that stands behind a higher one doesn't conflict with it

follows_one : (conflict : Sealed → Sealed → Bool) (log : List Sealed) (s x : Sealed) (front : List Entry) → IsInLog log x → FollowsLower conflict log s front → x.ticket.0 < s.ticket.0 → conflict x s ≡ true → has_ticket x.ticket.0 front ≡ true
follows_one conflict log s x front one follows = at one.before (subst (λ (l : List Sealed). FollowsLower conflict l s front) one.is follows)
  where
    at : (before : List Sealed) → FollowsLower conflict (before ++ x ∷ one.behind) s front → x.ticket.0 < s.ticket.0 → conflict x s ≡ true → has_ticket x.ticket.0 front ≡ true
    at [] follows = follows.0
    at (b ∷ before) follows = at before follows.1

once_front : (front : List Entry) (e : Entry) (mid : List Entry) (ticket : Ticket) (ops : List Op) (end : List Entry) → Once (front ++ e ∷ (mid ++ Own ticket ops ∷ end)) → has_ticket ticket.0 front ≡ false
once_front front e mid ticket ops end once =
    let whole : Once ((front ++ e ∷ mid) ++ Own ticket ops ∷ end) = subst (λ (l : List Entry). Once l) (sym (append_assoc front (e ∷ mid) (Own ticket ops ∷ end))) once in
    first_part front (e ∷ mid) ticket (once_before (front ++ e ∷ mid) ticket ops end whole)
  where
    first_part : (xs ys : List Entry) (t : Ticket) → has_ticket t.0 (xs ++ ys) ≡ false → has_ticket t.0 xs ≡ false
    first_part xs ys t none = (or_none (has_ticket t.0 xs) (has_ticket t.0 ys) (sym (has_ticket-append t.0 xs ys) ∙ none)).0

pub lower_behind : (conflict : Sealed → Sealed → Bool) (h : List Entry) (log : List Sealed) (front mid end : List Entry) (s x : Sealed) → IsLegal conflict h log → h ≡ front ++ entry_of s ∷ (mid ++ entry_of x ∷ end) → IsInLog log s → IsInLog log x
    → x.ticket.0 < s.ticket.0 → conflict x s ≡ false
lower_behind conflict h log front mid end s x legal is s_in x_in less = not_both (conflict x s) (λ meets.
    let once : Once (front ++ entry_of s ∷ (mid ++ entry_of x ∷ end)) = subst (λ (l : List Entry). Once l) is legal.once in
    let order : KeepsOrder conflict log [] (front ++ entry_of s ∷ (mid ++ entry_of x ∷ end)) = subst (λ (l : List Entry). KeepsOrder conflict log [] l) is legal.order in
    let stands : has_ticket x.ticket.0 front ≡ true =
    follows_one conflict log s x front x_in (follows_at conflict log [] front s.ticket s.ops (mid ++ entry_of x ∷ end) (in_log log s s_in) order) less meets
    in
    never_both (has_ticket x.ticket.0 front) stands (once_front front (entry_of s) mid x.ticket x.ops end once))
