-- A writethrough group is defined, and a table.
use Rattle.std.proofs.Common.{◌≡◌, ℕ, ◌+◌, ◌≤◌, Bool, true, false, cond, not, ◌&&◌, ◌||◌, nat_le, Option, Some, None, List, [], ◌∷◌, ◌++◌, map, length, length-append, refl, sym, ap, subst, ◌∙◌, arith, append-nil, leb-true}
use Rattle.std.specs.List.{filter, list_any}
use Rattle.std.specs.Option.{option_and_then}
use Rattle.std.specs.FinMap.{empty}
use Rattle.table_state.specs.tier_base.specs.declared.number.TableId.{TableId}
use Rattle.table_state.specs.declared.history.Entry.{Entry}
use Rattle.table_state.specs.declared.history.Entry.TheVariants.{Definition, Foreign, Own}
use Rattle.table_state.specs.declared.history.Sealed.{Sealed}
use Rattle.table_state.specs.declared.operation.Op.{Op}
use Rattle.table_state.specs.Histories.{after_entry, entry_of, no_tables, state_from, state_of}
use Rattle.table_state.specs.Tables.{TableState}
use Rattle.order_laws.specs.Commits.{LiveGroup, NoneBelow, RiseBetween, entry_on, is_op_on, is_other, is_pending, of_group, pending}
use Rattle.order_laws.specs.Sides.{AgreeOn, IsClosed, are_off}
use Rattle.order_laws.specs.Standing.{StandOver, all_off, progress_of}
use Rattle.order_laws.proofs.CountLaws.{rows_later, stays_known}
use Rattle.order_laws.proofs.SideLaws.{restricted}
use Rattle.order_laws.proofs.TruthLaws.{both_true, never_both, not_both, untrue}

module _ (tables : List TableId) where
  entry_restricted : (e : Entry) (s t m : TableState) → IsClosed tables s.schema → AgreeOn tables s m → after_entry e s ≡ Some t → (u : TableState) × (after_entry (entry_on tables e) m ≡ Some u) × AgreeOn tables t u
  entry_restricted (Definition def) s t m closed agree is =
      let same : record { schema = s.schema ++ def ∷ []; tables = s.tables ++ empty ∷ [] } ≡ t = cc in (
        record { schema = m.schema ++ def ∷ []; tables = m.tables ++ empty ∷ [] },
        refl,
        subst (λ (x : TableState). AgreeOn tables x (record { schema = m.schema ++ def ∷ []; tables = m.tables ++ empty ∷ [] })) same (record {
          schema = ap (λ l. l ++ def ∷ []) agree.schema;
          size = let size : length m.tables ≡ length s.tables = agree.size in length-append m.tables (empty ∷ []) ∙ ap (λ n. n + 1) size ∙ sym (length-append s.tables (empty ∷ []));
          rows = λ v on. rows_later m.tables v.0 ∙ agree.rows v on ∙ sym (rows_later s.tables v.0);
        }),
      )
  entry_restricted (Foreign ops) s t m closed agree is = restricted tables ops s t m closed agree is
  entry_restricted (Own ticket ops) s t m closed agree is = restricted tables ops s t m closed agree is

  -- what a history leaves it leaves on the tables alone
  pub entries_restricted : (es : List Entry) (s n m : TableState) → IsClosed tables n.schema → AgreeOn tables s m → state_from es s ≡ Some n → (u : TableState) × (state_from (map (entry_on tables) es) m ≡ Some u) × AgreeOn tables n u
  entries_restricted [] s n m closed agree is = let same : s ≡ n = cc in (m, refl, subst (λ (x : TableState). AgreeOn tables x m) same agree)
  entries_restricted (e ∷ es) s n m closed agree is = by (after_entry e s) refl is (entries_restricted es)
    where
      by : (o : Option TableState) → after_entry e s ≡ o → option_and_then (state_from es) o ≡ Some n
          → ((s n m : TableState) → IsClosed tables n.schema → AgreeOn tables s m → state_from es s ≡ Some n → (u : TableState) × (state_from (map (entry_on tables) es) m ≡ Some u) × AgreeOn tables n u)
          → (u : TableState) × (option_and_then (state_from (map (entry_on tables) es)) (after_entry (entry_on tables e) m) ≡ Some u) × AgreeOn tables n u
      by None f h rest = cc
      by (Some t) f h rest =
          let before : IsClosed tables s.schema = λ v def foreign d f_is. closed v def foreign (stays_known (e ∷ es) s n v.0 def is d) f_is in
          let (x, x_is, agree_x) = entry_restricted e s t m before agree f in
          let (u, u_is, agree_u) = rest t n x closed agree_x h in
          (u, ap (option_and_then (state_from (map (entry_on tables) es))) x_is ∙ u_is, agree_u)

-- a new group has no transactions yet

no_group : (g : LiveGroup) (low : ℕ) (log : List Sealed) → RiseBetween low log g.first → of_group g log ≡ []
no_group g low [] rise = refl
no_group g low (s ∷ log) rise =
    let high : s.ticket.0 + 1 ≤ g.first = most (s.ticket.0 + 1) log g.first rise.1 in
    let late : nat_le g.first s.ticket.0 ≡ false = not_both (nat_le g.first s.ticket.0) (λ e. let le : g.first ≤ s.ticket.0 = leb-true g.first s.ticket.0 e in omega arith) in
    ap (λ b. cond (b && list_any (is_op_on g.tables) s.ops) (s ∷ of_group g log) (of_group g log)) late ∙ no_group g (s.ticket.0 + 1) log rise.1
  where
    most : (low : ℕ) (ss : List Sealed) (high : ℕ) → RiseBetween low ss high → low ≤ high
    most low [] high rise = rise
    most low (s ∷ ss) high rise = let first : low ≤ s.ticket.0 = rise.0 in let more : s.ticket.0 + 1 ≤ high = most (s.ticket.0 + 1) ss high rise.1 in omega arith

all_other : (h : List Entry) → filter (is_other []) h ≡ h
all_other [] = refl
all_other (Definition def ∷ h) = ap (λ l. Definition def ∷ l) (all_other h)
all_other (Foreign ops ∷ h) = ap (λ l. Foreign ops ∷ l) (all_other h)
all_other (Own ticket ops ∷ h) = ap (λ l. Own ticket ops ∷ l) (all_other h)

off_none : (tables : List TableId) (ops : List Op) → are_off tables ops ≡ true → list_any (is_op_on tables) ops ≡ false
off_none tables [] off = refl
off_none tables (op ∷ ops) off =
    let (first, rest) = both_true (not (is_op_on tables op)) (are_off tables ops) off in
    λ i. untrue (is_op_on tables op) first i || off_none tables ops rest i

none_writes : (g : LiveGroup) (h : List Entry) (log : List Sealed) → all_off g.tables (pending h log) ≡ true → NoneBelow g h log
none_writes g h [] off = tt
none_writes g h (s ∷ log) off = by (is_pending h s) refl off (none_writes g h log)
  where
    by : (b : Bool) → is_pending h s ≡ b → all_off g.tables (cond b (s ∷ pending h log) (pending h log)) ≡ true → (all_off g.tables (pending h log) ≡ true → NoneBelow g h log)
        → (is_pending h s ≡ true → list_any (is_op_on g.tables) s.ops ≡ true → g.first ≤ s.ticket.0) × NoneBelow g h log
    by true e off rest =
        let (first, more) = both_true (are_off g.tables s.ops) (all_off g.tables (pending h log)) off in
        (λ p on. absurd (never_both (list_any (is_op_on g.tables) s.ops) on (off_none g.tables s.ops first)), rest more)
    by false e off rest = (λ p. absurd (never_both (is_pending h s) p e), rest off)

pub group_defined : (groups : List LiveGroup) (h : List Entry) (log : List Sealed) (next : ℕ) (over : StandOver (progress_of groups h log next)) (g : LiveGroup) → IsClosed g.tables over.backing.schema → g.first ≡ next
    → all_off g.tables (pending h log) ≡ true → StandOver (progress_of (g ∷ groups) h log next)
group_defined groups h log next over g closed first off =
    let (u, u_is, agree) = entries_restricted g.tables h no_tables over.backing no_tables closed (record { schema = refl; size = refl; rows = λ t on. refl }) over.leaves in
    let none : of_group g log ≡ [] = no_group g 1 log (subst (λ n. RiseBetween 1 log n) (sym first) over.rise) in
    record {
      backing = over.backing;
      leaves = over.leaves;
      virtual = over.virtual;
      virtual_is = over.virtual_is;
      rise = over.rise;
      below = over.below;
      legal = over.legal;
      ordered = (
        record {
          closed = closed;
          first = let same : g.first ≡ next = first in omega arith;
          none_below = none_writes g h log off;
          state = u;
          ordered =
              ap (λ l. state_of (map (entry_on g.tables) (filter (is_other l) h ++ map entry_of l))) none
              ∙ ap (λ l. state_of (map (entry_on g.tables) l)) (append-nil (filter (is_other []) h) ∙ all_other h)
              ∙ u_is;
        },
        over.ordered,
      );
    }
