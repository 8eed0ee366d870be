-- A transaction is committed and comes at once: a synchronous one, or one that is passed on.
use Rattle.std.proofs.Common.{◌≡◌, ℕ, ◌+◌, ◌≤◌, ◌<◌, Bool, true, false, cond, not, ◌||◌, Some, List, [], ◌∷◌, ◌++◌, refl, sym, ap, subst, ◌∙◌, arith}
use Rattle.std.specs.List.{list_any}
use Rattle.std.specs.Option.{option_and_then}
use Rattle.table_state.specs.tier_base.specs.declared.number.TableId.{TableId}
use Rattle.table_state.specs.table_defs.specs.declared.definition.TableDef.{TableDef}
use Rattle.table_state.specs.declared.footprint.Footprint.{Footprint}
use Rattle.table_state.specs.declared.footprint.RowKey.{RowKey}
use Rattle.table_state.specs.declared.history.Entry.{Entry}
use Rattle.table_state.specs.declared.history.Sealed.{Sealed}
use Rattle.table_state.specs.Footprints.{conflict, footprint_of, is_among, is_in, same_row_key}
use Rattle.table_state.specs.Histories.{entry_of, has_ticket}
use Rattle.table_state.specs.Tables.{TableState}
use Rattle.table_state.specs.Operations.{applied_all}
use Rattle.order_laws.specs.Commits.{FollowsLower, LiveGroup, MayCome, NoneConflicts, applied_sealed, conflicting, pending}
use Rattle.order_laws.specs.Sides.{IsClosed, all_on, are_on}
use Rattle.order_laws.specs.Standing.{StandOver, progress_of}
use Rattle.order_laws.proofs.ComingLaws.{comes_leaving}
use Rattle.order_laws.proofs.CommittingLaws.{commits}
use Rattle.order_laws.proofs.NextLaws.{sealed_parted}
use Rattle.order_laws.proofs.PairLaws.{Apart}
use Rattle.order_laws.proofs.SideLaws.{OnSide, side_on, sides_apart}
use Rattle.order_laws.proofs.StepLaws.{same_key}
use Rattle.order_laws.proofs.TruthLaws.{both_true, or_true}

-- where no key is in both, the test says so

none_met : (q : RowKey → Bool) (xs : List RowKey) → ((w : RowKey) → is_among xs w ≡ true → q w ≡ false) → list_any q xs ≡ false
none_met q [] h = refl
none_met q (x ∷ xs) h = λ i. h x (ap (λ b. b || is_among xs x) (same_key x.table x.key x.key refl)) i || none_met q xs (λ w e. h w (ap (λ b. same_row_key w x || b) e ∙ or_true (same_row_key w x))) i

pub conflict_none : (f g : Footprint) → Apart f g → conflict f g ≡ false
conflict_none f g apart = λ i. none_met (is_in g) f.written apart.here i || none_met (is_in f) g.written apart.there i

-- transactions on one side conflict with none on the other
pub sides_conflict_not : (tables : List TableId) (schema : List TableDef) (closed : IsClosed tables schema) (xs : List Sealed) (s : Sealed) → all_on tables xs ≡ true → OnSide tables false s.ops → NoneConflicts schema xs s
sides_conflict_not tables schema closed [] s on off = tt
sides_conflict_not tables schema closed (x ∷ xs) s on off =
    let (first, rest) = both_true (are_on tables x.ops) (all_on tables xs) on in
    (conflict_none (footprint_of schema x.ops) (footprint_of schema s.ops) (sides_apart tables schema closed x.ops s.ops (side_on tables x.ops first) off), sides_conflict_not tables schema closed xs s rest off)

follows_none : (schema : List TableDef) (h : List Entry) (log : List Sealed) (s : Sealed) → NoneConflicts schema (pending h log) s → FollowsLower (conflicting schema) (log ++ s ∷ []) s h
follows_none schema h [] s none = (λ lower. absurd (never lower), tt)
  where
    never : s.ticket.0 < s.ticket.0 → ⊥
    never lower = omega (arith, lower)
follows_none schema h (x ∷ log) s none = by (has_ticket x.ticket.0 h) refl none (follows_none schema h log s)
  where
    by : (b : Bool) → has_ticket x.ticket.0 h ≡ b → NoneConflicts schema (cond (not b) (x ∷ pending h log) (pending h log)) s → (NoneConflicts schema (pending h log) s → FollowsLower (conflicting schema) (log ++ s ∷ []) s h)
        → (x.ticket.0 < s.ticket.0 → conflicting schema x s ≡ true → has_ticket x.ticket.0 h ≡ true) × FollowsLower (conflicting schema) (log ++ s ∷ []) s h
    by true e none rest = (λ lower conflicts. e, rest none)
    by false e none rest = (λ lower conflicts. absurd (never (conflicting schema x s) conflicts none.0), rest none.1)
      where
        never : (c : Bool) → c ≡ true → c ≡ false → ⊥
        never true e f = cc
        never false e f = cc

-- what applies to the backing state applies behind what is pending, where it conflicts with none of that; and the other way
pub applies_behind_pending : (groups : List LiveGroup) (h : List Entry) (log : List Sealed) (next : ℕ) (over : StandOver (progress_of groups h log next)) (s : Sealed) (b : TableState) → NoneConflicts over.backing.schema (pending h log) s
    → applied_all s.ops over.backing ≡ Some b → (v : TableState) × (applied_all s.ops over.virtual ≡ Some v) × (applied_sealed (pending h log) b ≡ Some v)
applies_behind_pending groups h log next over s b none is =
    let pends : applied_sealed (pending h log) over.backing ≡ Some over.virtual = sym (ap (option_and_then (applied_sealed (pending h log))) over.leaves) ∙ over.virtual_is in
    (sealed_parted (pending h log) s over.backing none).both over.virtual b pends is

pub at_once : (groups : List LiveGroup) (h : List Entry) (log : List Sealed) (next : ℕ) (over : StandOver (progress_of groups h log next)) (s : Sealed) (v : TableState) → next ≤ s.ticket.0 → NoneConflicts over.backing.schema (pending h log) s
    → applied_all s.ops over.virtual ≡ Some v → (now : StandOver (progress_of groups (h ++ entry_of s ∷ []) (log ++ s ∷ []) (s.ticket.0 + 1))) × (now.virtual ≡ v)
at_once groups h log next over s v le none is =
    let (first, first_v, first_b) = commits groups h log next over s v le is in
    let may : MayCome (conflicting first.backing.schema) h (log ++ s ∷ []) s = record {
      one = record { before = log; behind = []; is = refl };
      fresh = over.below s.ticket.0 le;
      follows = subst (λ (x : TableState). FollowsLower (conflicting x.schema) (log ++ s ∷ []) s h) (sym first_b) (follows_none over.backing.schema h log s none);
    } in
    let (now, now_v) = comes_leaving groups h (log ++ s ∷ []) (s.ticket.0 + 1) s first may in
    (now, now_v ∙ first_v)
