-- On a writethrough group's tables the virtual state is the one in ticket order.
use Rattle.std.proofs.Common.{◌≡◌, ℕ, ◌+◌, ◌≤◌, Bool, true, false, cond, not, ◌&&◌, ◌||◌, nat_eq, nat_le, Some, List, [], ◌∷◌, ◌++◌, map, slice_get, refl, sym, ap, ◌∙◌, arith, eq-eqb, eqb-true, append-nil, le-leb}
use Rattle.std.specs.List.{filter, list_any}
use Rattle.table_state.specs.tier_base.specs.declared.number.TableId.{TableId}
use Rattle.table_state.specs.tier_base.specs.declared.number.Ticket.{Ticket}
use Rattle.table_state.specs.table_defs.specs.declared.definition.TableDef.{TableDef}
use Rattle.table_state.specs.declared.history.Entry.{Entry}
use Rattle.table_state.specs.declared.history.Entry.TheVariants.{Definition, Foreign, Own}
use Rattle.table_state.specs.declared.history.Sealed.{Sealed}
use Rattle.table_state.specs.declared.operation.Op.{Op}
use Rattle.table_state.specs.Copies.{is_one_of}
use Rattle.table_state.specs.Histories.{entry_of, has_ticket, no_tables, state_from, state_of}
use Rattle.table_state.specs.Tables.{TableState, table_at}
use Rattle.table_state.specs.Operations.{applied_all, table_of}
use Rattle.table_state.proofs.HistoryLaws.{state_of-append}
use Rattle.order_laws.specs.Commits.{AreOps, HasOps, LiveGroup, NoneBelow, Once, RiseBetween, applied_sealed, entry_on, in_order, is_of_group, is_op_on, is_other, is_pending, of_group, ops_on, pending, virtual_state}
use Rattle.order_laws.proofs.CountLaws.{defs_of, same_table, schema_after, total, weigh, weigh-append}
use Rattle.order_laws.proofs.NextLaws.{HasNot, above_has_not, by_option, nat_eq_other}
use Rattle.order_laws.proofs.TruthLaws.{never_both, not_both}

-- the virtual state is what a longer history leaves

sealed_entries : (log : List Sealed) (s : TableState) → applied_sealed log s ≡ state_from (map entry_of log) s
sealed_entries [] s = refl
sealed_entries (x ∷ log) s = by_option (applied_sealed log) (state_from (map entry_of log)) (sealed_entries log) (applied_all x.ops s)

pub virtual_is : (h : List Entry) (log : List Sealed) → virtual_state h log ≡ state_of (h ++ map entry_of (pending h log))
virtual_is h log = by_option (applied_sealed (pending h log)) (state_from (map entry_of (pending h log))) (sealed_entries (pending h log)) (state_of h) ∙ sym (state_of-append h (map entry_of (pending h log)))

-- sums over transactions

abbrev sums : (Sealed → ℕ) → List Sealed → ℕ
sums f [] = 0
sums f (s ∷ ss) = f s + sums f ss

sums_kept : (p : Sealed → Bool) (f : Sealed → ℕ) (ss : List Sealed) → sums f (filter p ss) ≡ sums (λ s. cond (p s) (f s) 0) ss
sums_kept p f [] = refl
sums_kept p f (s ∷ ss) =
    let rest = sums_kept p f ss in
    elim (p s) as (λ b. sums f (cond b (s ∷ filter p ss) (filter p ss)) ≡ cond b (f s) 0 + sums (λ s. cond (p s) (f s) 0) ss) [
      | true ↦ ap (λ n. f s + n) rest
      | false ↦ let r : sums f (filter p ss) ≡ sums (λ s. cond (p s) (f s) 0) ss = rest in omega arith
    ]

weigh_sums : (w : Op → ℕ) (ss : List Sealed) → weigh w (map entry_of ss) ≡ sums (λ s. total w s.ops) ss
weigh_sums w [] = refl
weigh_sums w (s ∷ ss) = ap (λ n. total w s.ops + n) (weigh_sums w ss)

-- a filter keeps that tickets rise

lower : (low m : ℕ) (ss : List Sealed) (high : ℕ) → low ≤ m → RiseBetween m ss high → RiseBetween low ss high
lower low m [] high le rise = let r : m ≤ high = rise in omega arith
lower low m (s ∷ ss) high le rise = (let first : m ≤ s.ticket.0 = rise.0 in omega arith, rise.1)

pub rise_kept : (p : Sealed → Bool) (low : ℕ) (ss : List Sealed) (high : ℕ) → RiseBetween low ss high → RiseBetween low (filter p ss) high
rise_kept p low [] high rise = rise
rise_kept p low (s ∷ ss) high rise =
    let rest = rise_kept p (s.ticket.0 + 1) ss high rise.1 in
    let first : low ≤ s.ticket.0 = rise.0 in
    elim (p s) as (λ b. RiseBetween low (cond b (s ∷ filter p ss) (filter p ss)) high) [
      | true ↦ (rise.0, rest)
      | false ↦ lower low (s.ticket.0 + 1) (filter p ss) high (omega arith) rest
    ]

pub ops_kept : (p : Sealed → Bool) (log : List Sealed) (ticket : Ticket) (ops : List Op) → AreOps log ticket ops → AreOps (filter p log) ticket ops
ops_kept p [] ticket ops are = tt
ops_kept p (s ∷ log) ticket ops are =
    let rest = ops_kept p log ticket ops are.1 in
    elim (p s) as (λ b. AreOps (cond b (s ∷ filter p log) (filter p log)) ticket ops) [
      | true ↦ (are.0, rest)
      | false ↦ rest
    ]

module _ (w : Op → ℕ) where
  abbrev weight : Sealed → ℕ
  weight s = total w s.ops

  -- the one with a ticket
  none_with : (t : ℕ) (ss : List Sealed) → HasNot t ss → sums (λ s. cond (nat_eq t s.ticket.0) (weight s) 0) ss ≡ 0
  none_with t [] not = refl
  none_with t (s ∷ ss) not =
      let rest : sums (λ s. cond (nat_eq t s.ticket.0) (weight s) 0) ss ≡ 0 = none_with t ss not.1 in
      let first : cond (nat_eq t s.ticket.0) (weight s) 0 ≡ 0 = ap (λ b. cond b (weight s) 0) (nat_eq_other t s.ticket.0 not.0) in
      omega arith

  absent : (t : ℕ) (ss : List Sealed) → HasNot t ss → has_ticket t (map entry_of ss) ≡ false
  absent t [] not = refl
  absent t (s ∷ ss) not = λ i. nat_eq_other s.ticket.0 t (λ e. not.0 (sym e)) i || absent t ss not.1 i

  one_with : (low : ℕ) (ss : List Sealed) (high : ℕ) (t : Ticket) (ops : List Op) → RiseBetween low ss high → AreOps ss t ops
      → sums (λ s. cond (nat_eq t.0 s.ticket.0) (weight s) 0) ss ≡ cond (has_ticket t.0 (map entry_of ss)) (total w ops) 0
  one_with low [] high t ops rise are = refl
  one_with low (s ∷ ss) high t ops rise are = by (nat_eq s.ticket.0 t.0) refl (one_with (s.ticket.0 + 1) ss high t ops rise.1 are.1)
    where
      by : (b : Bool) → nat_eq s.ticket.0 t.0 ≡ b → sums (λ s. cond (nat_eq t.0 s.ticket.0) (weight s) 0) ss ≡ cond (has_ticket t.0 (map entry_of ss)) (total w ops) 0
          → cond (nat_eq t.0 s.ticket.0) (weight s) 0 + sums (λ s. cond (nat_eq t.0 s.ticket.0) (weight s) 0) ss ≡ cond (nat_eq s.ticket.0 t.0 || has_ticket t.0 (map entry_of ss)) (total w ops) 0
      by true e rest =
          let same : s.ticket.0 ≡ t.0 = eqb-true s.ticket.0 t.0 e in
          let gone : HasNot t.0 ss = above_has_not (s.ticket.0 + 1) ss high t.0 rise.1 (omega arith) in
          let none : sums (λ s. cond (nat_eq t.0 s.ticket.0) (weight s) 0) ss ≡ 0 = none_with t.0 ss gone in
          let first : cond (nat_eq t.0 s.ticket.0) (weight s) 0 ≡ total w ops = ap (λ b. cond b (weight s) 0) (eq-eqb t.0 s.ticket.0 (sym same)) ∙ ap (total w) (sym (are.0 same)) in
          let last : cond (nat_eq s.ticket.0 t.0 || has_ticket t.0 (map entry_of ss)) (total w ops) 0 ≡ total w ops = ap (λ b. cond (b || has_ticket t.0 (map entry_of ss)) (total w ops) 0) e in
          omega arith
      by false e rest =
          let first : cond (nat_eq t.0 s.ticket.0) (weight s) 0 ≡ 0 = ap (λ b. cond b (weight s) 0) (nat_eq_other t.0 s.ticket.0 (λ same. never_both (nat_eq s.ticket.0 t.0) (eq-eqb s.ticket.0 t.0 (sym same)) e)) in
          let last : cond (nat_eq s.ticket.0 t.0 || has_ticket t.0 (map entry_of ss)) (total w ops) 0 ≡ cond (has_ticket t.0 (map entry_of ss)) (total w ops) 0 =
          ap (λ b. cond (b || has_ticket t.0 (map entry_of ss)) (total w ops) 0) e
          in
          let more : sums (λ s. cond (nat_eq t.0 s.ticket.0) (weight s) 0) ss ≡ cond (has_ticket t.0 (map entry_of ss)) (total w ops) 0 = rest in
          omega arith

  -- one entry more
  one_more : (t : ℕ) (h : List Entry) (ss : List Sealed) → has_ticket t h ≡ false
      → sums (λ s. cond (nat_eq t s.ticket.0 || has_ticket s.ticket.0 h) (weight s) 0) ss ≡ sums (λ s. cond (nat_eq t s.ticket.0) (weight s) 0) ss + sums (λ s. cond (has_ticket s.ticket.0 h) (weight s) 0) ss
  one_more t h [] once = refl
  one_more t h (s ∷ ss) once =
      let rest : sums (λ s. cond (nat_eq t s.ticket.0 || has_ticket s.ticket.0 h) (weight s) 0) ss ≡ sums (λ s. cond (nat_eq t s.ticket.0) (weight s) 0) ss + sums (λ s. cond (has_ticket s.ticket.0 h) (weight s) 0) ss = one_more t h ss once in
      let first : cond (nat_eq t s.ticket.0 || has_ticket s.ticket.0 h) (weight s) 0 ≡ cond (nat_eq t s.ticket.0) (weight s) 0 + cond (has_ticket s.ticket.0 h) (weight s) 0 = by (nat_eq t s.ticket.0) refl in
      omega arith
    where
      by : (b : Bool) → nat_eq t s.ticket.0 ≡ b → cond (b || has_ticket s.ticket.0 h) (weight s) 0 ≡ cond b (weight s) 0 + cond (has_ticket s.ticket.0 h) (weight s) 0
      by true e =
          let place : t ≡ s.ticket.0 = eqb-true t s.ticket.0 e in
          let none : cond (has_ticket s.ticket.0 h) (weight s) 0 ≡ 0 = ap (λ b. cond b (weight s) 0) (ap (λ u. has_ticket u h) (sym place) ∙ once) in
          omega arith
      by false e = omega arith

  -- what a history weighs: the others', and those of the log that stand there
  parted : (h : List Entry) (low : ℕ) (log : List Sealed) (high : ℕ) → Once h → HasOps log h → RiseBetween low log high
      → weigh w h ≡ weigh w (filter (is_other log) h) + sums (λ s. cond (has_ticket s.ticket.0 h) (weight s) 0) log
  parted [] low log high once has rise = let none : sums (λ s. cond false (weight s) 0) log ≡ 0 = no_sum log in omega arith
    where
      no_sum : (ss : List Sealed) → sums (λ s. cond false (weight s) 0) ss ≡ 0
      no_sum [] = refl
      no_sum (s ∷ ss) = let rest : sums (λ s. cond false (weight s) 0) ss ≡ 0 = no_sum ss in omega arith
  parted (Definition def ∷ h) low log high once has rise =
      let rest : weigh w h ≡ weigh w (filter (is_other log) h) + sums (λ s. cond (has_ticket s.ticket.0 h) (weight s) 0) log = parted h low log high once has rise in
      omega arith
  parted (Foreign ops ∷ h) low log high once has rise =
      let rest : weigh w h ≡ weigh w (filter (is_other log) h) + sums (λ s. cond (has_ticket s.ticket.0 h) (weight s) 0) log = parted h low log high once has rise in
      omega arith
  parted (Own ticket ops ∷ h) low log high once has rise =
      let rest : weigh w h ≡ weigh w (filter (is_other log) h) + sums (λ s. cond (has_ticket s.ticket.0 h) (weight s) 0) log = parted h low log high once.1 has.1 rise in
      let more : sums (λ s. cond (nat_eq ticket.0 s.ticket.0 || has_ticket s.ticket.0 h) (weight s) 0) log ≡ sums (λ s. cond (nat_eq ticket.0 s.ticket.0) (weight s) 0) log + sums (λ s. cond (has_ticket s.ticket.0 h) (weight s) 0) log =
      one_more ticket.0 h log once.0
      in
      let one : sums (λ s. cond (nat_eq ticket.0 s.ticket.0) (weight s) 0) log ≡ cond (has_ticket ticket.0 (map entry_of log)) (total w ops) 0 = one_with low log high ticket ops rise has.0 in
      let kept : weigh w (cond (not (has_ticket ticket.0 (map entry_of log))) (Own ticket ops ∷ filter (is_other log) h) (filter (is_other log) h)) + cond (has_ticket ticket.0 (map entry_of log)) (total w ops) 0
      ≡ total w ops + weigh w (filter (is_other log) h) = by (has_ticket ticket.0 (map entry_of log))
      in
      omega arith
    where
      by : (b : Bool) → weigh w (cond (not b) (Own ticket ops ∷ filter (is_other log) h) (filter (is_other log) h)) + cond b (total w ops) 0 ≡ total w ops + weigh w (filter (is_other log) h)
      by true = omega arith
      by false = omega arith

-- weights that see the operations on some tables alone
module _ (w : Op → ℕ) (tables : List TableId) (off : (op : Op) → is_op_on tables op ≡ false → w op ≡ 0) where
  total_on : (ops : List Op) → total w (ops_on tables ops) ≡ total w ops
  total_on [] = refl
  total_on (op ∷ ops) = by (is_op_on tables op) refl (total_on ops)
    where
      by : (b : Bool) → is_op_on tables op ≡ b → total w (ops_on tables ops) ≡ total w ops → total w (cond b (op ∷ ops_on tables ops) (ops_on tables ops)) ≡ w op + total w ops
      by true e rest = ap (λ n. w op + n) rest
      by false e rest = let none : w op ≡ 0 = off op e in let r : total w (ops_on tables ops) ≡ total w ops = rest in omega arith

  weigh_on : (es : List Entry) → weigh w (map (entry_on tables) es) ≡ weigh w es
  weigh_on [] = refl
  weigh_on (Definition def ∷ es) = ap (λ n. 0 + n) (weigh_on es)
  weigh_on (Foreign ops ∷ es) = λ i. total_on ops i + weigh_on es i
  weigh_on (Own ticket ops ∷ es) = λ i. total_on ops i + weigh_on es i

  total_off : (ops : List Op) → list_any (is_op_on tables) ops ≡ false → total w ops ≡ 0
  total_off [] e = refl
  total_off (op ∷ ops) e = by (is_op_on tables op) refl e (total_off ops)
    where
      by : (b : Bool) → is_op_on tables op ≡ b → (b || list_any (is_op_on tables) ops) ≡ false → (list_any (is_op_on tables) ops ≡ false → total w ops ≡ 0) → w op + total w ops ≡ 0
      by true is e rest = cc
      by false is e rest = let none : w op ≡ 0 = off op is in let r : total w ops ≡ 0 = rest e in omega arith

-- what is pending, and what of the group stands, are together what the group's transactions weigh
group_weighs : (w : Op → ℕ) (g : LiveGroup) (off : (op : Op) → is_op_on g.tables op ≡ false → w op ≡ 0) (h : List Entry) (log : List Sealed) → NoneBelow g h log
    → sums (λ s. cond (is_pending h s) (total w s.ops) 0) log + sums (λ s. cond (is_of_group g s) (cond (has_ticket s.ticket.0 h) (total w s.ops) 0) 0) log ≡ sums (λ s. cond (is_of_group g s) (total w s.ops) 0) log
group_weighs w g off h [] none = refl
group_weighs w g off h (s ∷ log) none =
    let rest : sums (λ s. cond (is_pending h s) (total w s.ops) 0) log + sums (λ s. cond (is_of_group g s) (cond (has_ticket s.ticket.0 h) (total w s.ops) 0) 0) log ≡ sums (λ s. cond (is_of_group g s) (total w s.ops) 0) log =
    group_weighs w g off h log none.1
    in
    let first : cond (is_pending h s) (total w s.ops) 0 + cond (is_of_group g s) (cond (has_ticket s.ticket.0 h) (total w s.ops) 0) 0 ≡ cond (is_of_group g s) (total w s.ops) 0 =
    by (has_ticket s.ticket.0 h) refl (list_any (is_op_on g.tables) s.ops) refl (nat_le g.first s.ticket.0) refl
    in
    omega arith
  where
    by : (b : Bool) → has_ticket s.ticket.0 h ≡ b → (c : Bool) → list_any (is_op_on g.tables) s.ops ≡ c → (d : Bool) → nat_le g.first s.ticket.0 ≡ d
        → cond (not b) (total w s.ops) 0 + cond (d && list_any (is_op_on g.tables) s.ops) (cond b (total w s.ops) 0) 0 ≡ cond (d && list_any (is_op_on g.tables) s.ops) (total w s.ops) 0
    by true b_is c c_is d d_is = omega arith
    by false b_is true c_is true d_is =
        let on : (true && list_any (is_op_on g.tables) s.ops) ≡ true = c_is in
        let x : cond (true && list_any (is_op_on g.tables) s.ops) (cond false (total w s.ops) 0) 0 ≡ 0 = ap (λ b. cond b (cond false (total w s.ops) 0) 0) on in
        let y : cond (true && list_any (is_op_on g.tables) s.ops) (total w s.ops) 0 ≡ total w s.ops = ap (λ b. cond b (total w s.ops) 0) on in
        omega arith
    by false b_is true c_is false d_is =
        let le : g.first ≤ s.ticket.0 = none.0 (ap not b_is) c_is in
        absurd (never_both (nat_le g.first s.ticket.0) (le-leb g.first s.ticket.0 le) d_is)
    by false b_is false c_is true d_is =
        let off_is : total w s.ops ≡ 0 = total_off w g.tables off s.ops c_is in
        let x : cond (true && list_any (is_op_on g.tables) s.ops) (cond false (total w s.ops) 0) 0 ≡ 0 = ap (λ b. cond b (cond false (total w s.ops) 0) 0) c_is in
        let y : cond (true && list_any (is_op_on g.tables) s.ops) (total w s.ops) 0 ≡ 0 = ap (λ b. cond b (total w s.ops) 0) c_is in
        omega arith
    by false b_is false c_is false d_is = let off_is : total w s.ops ≡ 0 = total_off w g.tables off s.ops c_is in omega arith

-- tables and schema

one_of_same : (tables : List TableId) (t u : TableId) → is_one_of tables t ≡ true → is_one_of tables u ≡ false → nat_eq u.0 t.0 ≡ false
one_of_same tables t u on off = not_both (nat_eq u.0 t.0) (λ e. never_both (is_one_of tables u) ((λ i. list_any (λ (one : TableId). nat_eq one.0 (eqb-true u.0 t.0 e i)) tables) ∙ on) off)

pub defs-append : (xs ys : List Entry) → defs_of (xs ++ ys) ≡ defs_of xs ++ defs_of ys
defs-append [] ys = refl
defs-append (Definition def ∷ xs) ys = ap (λ l. def ∷ l) (defs-append xs ys)
defs-append (Foreign ops ∷ xs) ys = defs-append xs ys
defs-append (Own ticket ops ∷ xs) ys = defs-append xs ys

pub defs_sealed : (ss : List Sealed) → defs_of (map entry_of ss) ≡ []
defs_sealed [] = refl
defs_sealed (s ∷ ss) = defs_sealed ss

pub defs_on : (tables : List TableId) (es : List Entry) → defs_of (map (entry_on tables) es) ≡ defs_of es
defs_on tables [] = refl
defs_on tables (Definition def ∷ es) = ap (λ l. def ∷ l) (defs_on tables es)
defs_on tables (Foreign ops ∷ es) = defs_on tables es
defs_on tables (Own ticket ops ∷ es) = defs_on tables es

pub defs_other : (log : List Sealed) (es : List Entry) → defs_of (filter (is_other log) es) ≡ defs_of es
defs_other log [] = refl
defs_other log (Definition def ∷ es) = ap (λ l. def ∷ l) (defs_other log es)
defs_other log (Foreign ops ∷ es) = defs_other log es
defs_other log (Own ticket ops ∷ es) =
    elim (has_ticket ticket.0 (map entry_of log)) as (λ b. defs_of (cond (not b) (Own ticket ops ∷ filter (is_other log) es) (filter (is_other log) es)) ≡ defs_of es) [
      | true ↦ defs_other log es
      | false ↦ defs_other log es
    ]

pub virtual_schema : (h : List Entry) (log : List Sealed) (v : TableState) → virtual_state h log ≡ Some v → v.schema ≡ defs_of h
virtual_schema h log v is =
    schema_after (h ++ map entry_of (pending h log)) no_tables v (sym (virtual_is h log) ∙ is)
    ∙ defs-append h (map entry_of (pending h log)) ∙ ap (λ l. defs_of h ++ l) (defs_sealed (pending h log)) ∙ append-nil (defs_of h)

pub ordered_schema : (g : LiveGroup) (h : List Entry) (log : List Sealed) (o : TableState) → in_order g h log ≡ Some o → o.schema ≡ defs_of h
ordered_schema g h log o is =
    schema_after (map (entry_on g.tables) (filter (is_other (of_group g log)) h ++ map entry_of (of_group g log))) no_tables o is
    ∙ defs_on g.tables (filter (is_other (of_group g log)) h ++ map entry_of (of_group g log))
    ∙ defs-append (filter (is_other (of_group g log)) h) (map entry_of (of_group g log))
    ∙ ap (λ l. defs_of (filter (is_other (of_group g log)) h) ++ l) (defs_sealed (of_group g log))
    ∙ append-nil (defs_of (filter (is_other (of_group g log)) h))
    ∙ defs_other (of_group g log) h

has_kept : (p : Sealed → Bool) (log : List Sealed) (h : List Entry) → HasOps log h → HasOps (filter p log) h
has_kept p log [] has = tt
has_kept p log (Definition def ∷ h) has = has_kept p log h has
has_kept p log (Foreign ops ∷ h) has = has_kept p log h has
has_kept p log (Own ticket ops ∷ h) has = (ops_kept p log ticket ops has.0, has_kept p log h has.1)

same_weight : (w : Op → ℕ) (g : LiveGroup) (off : (op : Op) → is_op_on g.tables op ≡ false → w op ≡ 0) (h : List Entry) (low : ℕ) (log : List Sealed) (high : ℕ) → Once h → HasOps log h → RiseBetween low log high → NoneBelow g h log
    → weigh w (h ++ map entry_of (pending h log)) ≡ weigh w (map (entry_on g.tables) (filter (is_other (of_group g log)) h ++ map entry_of (of_group g log)))
same_weight w g off h low log high once has rise none =
    let group = of_group g log in
    let a : weigh w (h ++ map entry_of (pending h log)) ≡ weigh w h + sums (λ s. cond (is_pending h s) (total w s.ops) 0) log =
    weigh-append w h (map entry_of (pending h log)) ∙ ap (λ n. weigh w h + n) (weigh_sums w (pending h log) ∙ sums_kept (is_pending h) (λ s. total w s.ops) log)
    in
    let b : weigh w h ≡ weigh w (filter (is_other group) h) + sums (λ s. cond (is_of_group g s) (cond (has_ticket s.ticket.0 h) (total w s.ops) 0) 0) log =
    parted w h low group high once (has_kept (is_of_group g) log h has) (rise_kept (is_of_group g) low log high rise)
    ∙ ap (λ n. weigh w (filter (is_other group) h) + n) (sums_kept (is_of_group g) (λ s. cond (has_ticket s.ticket.0 h) (total w s.ops) 0) log)
    in
    let c : weigh w (map (entry_on g.tables) (filter (is_other group) h ++ map entry_of group)) ≡ weigh w (filter (is_other group) h) + sums (λ s. cond (is_of_group g s) (total w s.ops) 0) log =
    weigh_on w g.tables off (filter (is_other group) h ++ map entry_of group)
    ∙ weigh-append w (filter (is_other group) h) (map entry_of group)
    ∙ ap (λ n. weigh w (filter (is_other group) h) + n) (weigh_sums w group ∙ sums_kept (is_of_group g) (λ s. total w s.ops) log)
    in
    let d : sums (λ s. cond (is_pending h s) (total w s.ops) 0) log + sums (λ s. cond (is_of_group g s) (cond (has_ticket s.ticket.0 h) (total w s.ops) 0) 0) log ≡ sums (λ s. cond (is_of_group g s) (total w s.ops) 0) log =
    group_weighs w g off h log none
    in
    omega arith

pub virtual_in_order : (g : LiveGroup) (h : List Entry) (low : ℕ) (log : List Sealed) (high : ℕ) (v o : TableState) → Once h → HasOps log h → RiseBetween low log high → NoneBelow g h log
    → virtual_state h log ≡ Some v → in_order g h log ≡ Some o → (t : TableId) (def : TableDef) → is_one_of g.tables t ≡ true → slice_get v.schema t.0 ≡ Some def → table_at o t ≡ table_at v t
virtual_in_order g h low log high v o once has rise none v_is o_is t def on defined =
    same_table (h ++ map entry_of (pending h log)) (map (entry_on g.tables) (filter (is_other (of_group g log)) h ++ map entry_of (of_group g log))) v o t def (sym (virtual_is h log) ∙ v_is) o_is defined
    (ap (λ l. slice_get l t.0) (ordered_schema g h log o o_is ∙ sym (virtual_schema h log v v_is)) ∙ defined)
    (λ w elsewhere. same_weight w g (λ op off. elsewhere op (one_of_same g.tables t (table_of op) on off)) h low log high once has rise none)
