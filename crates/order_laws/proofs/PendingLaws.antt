-- What is pending, behind one entry more and with one transaction less.
use Rattle.std.proofs.Common.{◌≡◌, ℕ, ◌+◌, ◌≤◌, List, [], ◌∷◌, ◌++◌, Bool, true, false, ◌||◌, ◌&&◌, not, nat_eq, cond, refl, sym, ◌∙◌, ap, subst, arith, append-nil, eq-eqb}
use Rattle.std.specs.List.{filter}
use Rattle.std.proofs.lemmas.List.Elements.{filter-append}
use Rattle.table_state.specs.tier_base.specs.declared.number.Ticket.{Ticket}
use Rattle.table_state.specs.table_defs.specs.declared.definition.TableDef.{TableDef}
use Rattle.table_state.specs.declared.operation.Op.{Op}
use Rattle.table_state.specs.declared.history.Entry.{Entry}
use Rattle.table_state.specs.declared.history.Entry.TheVariants.{Definition, Foreign, Own}
use Rattle.table_state.specs.declared.history.Sealed.{Sealed}
use Rattle.table_state.specs.Histories.{entry_of, has_ticket}
use Rattle.table_state.proofs.HistoryLaws.{has_ticket-append}
use Rattle.order_laws.specs.Commits.{FollowsLower, MayCome, NoneConflicts, RiseBetween, conflicting, is_pending, pending}
use Rattle.order_laws.proofs.TruthLaws.{or_false}

-- filters

filter_both : {X : Type 0} (p q : X → Bool) (xs : List X) → filter (λ x. p x && q x) xs ≡ filter q (filter p xs)
filter_both p q [] = refl
filter_both p q (x ∷ xs) = by (filter_both p q xs) (p x)
  where
    by : filter (λ x. p x && q x) xs ≡ filter q (filter p xs) → (a : Bool) → cond (a && q x) (x ∷ filter (λ y. p y && q y) xs) (filter (λ y. p y && q y) xs) ≡ filter q (cond a (x ∷ filter p xs) (filter p xs))
    by more true = ap (λ l. cond (q x) (x ∷ l) l) more
    by more false = more

filter_as : {X : Type 0} (p q : X → Bool) (xs : List X) → ((x : X) → p x ≡ q x) → filter p xs ≡ filter q xs
filter_as p q xs same = ap (λ (f : _ → Bool). filter f xs) (λ i x. same x i)

-- where a filter kept something: what stood before it and behind it
record Split {X : Type 0} (p : X → Bool) (xs pre : List X) (s : X) : Type 0 where
  pub before : List X
  pub after : List X
  pub is : xs ≡ before ++ s ∷ after
  pub kept : filter p before ≡ pre

split_filter : {X : Type 0} (p : X → Bool) (xs pre : List X) (s : X) (post : List X) → filter p xs ≡ pre ++ s ∷ post → Split p xs pre s
split_filter p [] [] s post e = Prim.cc
split_filter p [] (x ∷ pre) s post e = Prim.cc
split_filter p (x ∷ xs) pre s post e = by (p x) refl e (λ rest. split_filter p xs rest s post)
  where
    by : (b : Bool) → p x ≡ b → cond b (x ∷ filter p xs) (filter p xs) ≡ pre ++ s ∷ post → ((rest : List _) → filter p xs ≡ rest ++ s ∷ post → Split p xs rest s) → Split p (x ∷ xs) pre s
    by false fails_it e more =
        let r = more pre e in
        record { before = x ∷ r.before; after = r.after; is = ap (λ l. x ∷ l) r.is; kept = ap (λ b. cond b (x ∷ filter p r.before) (filter p r.before)) fails_it ∙ r.kept }
    by true holds_it e more = first pre e
      where
        first : (pre : List _) → x ∷ filter p xs ≡ pre ++ s ∷ post → Split p (x ∷ xs) pre s
        first [] e = let same : x ≡ s = Prim.cc in record { before = []; after = xs; is = ap (λ y. y ∷ xs) same; kept = refl }
        first (q ∷ rest) e =
            let same : x ≡ q = Prim.cc in
            let r = more rest Prim.cc in
            record {
              before = x ∷ r.before;
              after = r.after;
              is = ap (λ l. x ∷ l) r.is;
              kept = ap (λ b. cond b (x ∷ filter p r.before) (filter p r.before)) holds_it ∙ (λ i. same i ∷ r.kept i);
            }

-- entries

pub is_not : ℕ → Sealed → Bool
is_not t s = not (nat_eq t s.ticket.0)

neither : (a b : Bool) → not (a || (b || false)) ≡ (not a && not b)
neither true b = refl
neither false true = refl
neither false false = refl

pub pending_came : (h : List Entry) (t : Ticket) (ops : List Op) (log : List Sealed) → pending (h ++ Own t ops ∷ []) log ≡ filter (is_not t.0) (pending h log)
unfolding is_not
pending_came h t ops log =
    filter_as (is_pending (h ++ Own t ops ∷ [])) (λ s. is_pending h s && is_not t.0 s) log
    (λ s. ap not (has_ticket-append s.ticket.0 h (Own t ops ∷ [])) ∙ neither (has_ticket s.ticket.0 h) (nat_eq t.0 s.ticket.0))
    ∙ filter_both (is_pending h) (is_not t.0) log

pub pending_foreign : (h : List Entry) (ops : List Op) (log : List Sealed) → pending (h ++ Foreign ops ∷ []) log ≡ pending h log
pending_foreign h ops log =
    filter_as (is_pending (h ++ Foreign ops ∷ [])) (is_pending h) log (λ s. ap not (has_ticket-append s.ticket.0 h (Foreign ops ∷ []) ∙ or_false (has_ticket s.ticket.0 h)))

pub pending_defined : (h : List Entry) (def : TableDef) (log : List Sealed) → pending (h ++ Definition def ∷ []) log ≡ pending h log
pending_defined h def log =
    filter_as (is_pending (h ++ Definition def ∷ [])) (is_pending h) log (λ s. ap not (has_ticket-append s.ticket.0 h (Definition def ∷ []) ∙ or_false (has_ticket s.ticket.0 h)))

pub pending_push : (h : List Entry) (log : List Sealed) (s : Sealed) → has_ticket s.ticket.0 h ≡ false → pending h (log ++ s ∷ []) ≡ pending h log ++ s ∷ []
pending_push h log s new = filter-append (is_pending h) log (s ∷ []) ∙ ap (λ b. pending h log ++ cond (not b) (s ∷ []) []) new

pub pending_there : (h : List Entry) (pre : List Sealed) (s : Sealed) (post : List Sealed) → has_ticket s.ticket.0 h ≡ true → pending h (pre ++ s ∷ post) ≡ pending h (pre ++ post)
pending_there h pre s post there =
    filter-append (is_pending h) pre (s ∷ post)
    ∙ ap (λ b. pending h pre ++ cond (not b) (s ∷ pending h post) (pending h post)) there
    ∙ sym (filter-append (is_pending h) pre post)

-- a transaction that commits and comes at once
pub pending_at_once : (h : List Entry) (log us : List Sealed) (s : Sealed) → has_ticket s.ticket.0 h ≡ false → pending h log ≡ pending h us → pending (h ++ entry_of s ∷ []) (log ++ s ∷ []) ≡ pending (h ++ entry_of s ∷ []) us
unfolding is_not
pending_at_once h log us s new rest =
    pending_came h s.ticket s.ops (log ++ s ∷ [])
    ∙ ap (filter (is_not s.ticket.0)) (pending_push h log s new)
    ∙ filter-append (is_not s.ticket.0) (pending h log) (s ∷ [])
    ∙ ap (λ b. filter (is_not s.ticket.0) (pending h log) ++ cond (not b) (s ∷ []) []) (eq-eqb s.ticket.0 s.ticket.0 refl)
    ∙ append-nil (filter (is_not s.ticket.0) (pending h log))
    ∙ ap (filter (is_not s.ticket.0)) rest
    ∙ sym (pending_came h s.ticket s.ops us)

-- a pending transaction may come that conflicts with none that is pending before it

follows_above : (c : Sealed → Sealed → Bool) (low : ℕ) (log : List Sealed) (high : ℕ) (s : Sealed) (h : List Entry) → RiseBetween low log high → s.ticket.0 ≤ low → FollowsLower c log s h
follows_above c low [] high s h rise above = tt
follows_above c low (x ∷ log) high s h rise above =
    let first : low ≤ x.ticket.0 = rise.0 in
    let higher : s.ticket.0 ≤ x.ticket.0 + 1 = Prim.omega arith in
    (λ lower. absurd (Prim.omega arith), follows_above c (x.ticket.0 + 1) log high s h rise.1 higher)

follows_free : (schema : List TableDef) (low : ℕ) (before : List Sealed) (s : Sealed) (ss : List Sealed) (high : ℕ) (h : List Entry)
    → RiseBetween low (before ++ s ∷ ss) high → NoneConflicts schema (pending h before) s → FollowsLower (conflicting schema) (before ++ s ∷ ss) s h
follows_free schema low [] s ss high h rise free = (λ lower. absurd (Prim.omega arith), follows_above (conflicting schema) (s.ticket.0 + 1) ss high s h rise.1 (Prim.omega arith))
follows_free schema low (b ∷ before) s ss high h rise free = by (has_ticket b.ticket.0 h) refl free (follows_free schema (b.ticket.0 + 1) before s ss high h rise.1)
  where
    by : (r : Bool) → has_ticket b.ticket.0 h ≡ r → NoneConflicts schema (cond (not r) (b ∷ pending h before) (pending h before)) s
        → (NoneConflicts schema (pending h before) s → FollowsLower (conflicting schema) (before ++ s ∷ ss) s h) → FollowsLower (conflicting schema) (b ∷ (before ++ s ∷ ss)) s h
    by true there e more = (λ lower conflicts. there, more e)
    by false there e more = (λ lower conflicts. (let none = e.0 in Prim.cc), more e.1)

pub may_come : (schema : List TableDef) (h : List Entry) (log : List Sealed) (high : ℕ) (pre : List Sealed) (s : Sealed) (post : List Sealed) → RiseBetween 1 log high → pending h log ≡ pre ++ s ∷ post → has_ticket s.ticket.0 h ≡ false
    → NoneConflicts schema pre s → MayCome (conflicting schema) h log s
may_come schema h log high pre s post rise e fresh free =
    let x = split_filter (is_pending h) log pre s post e in
    record {
      one = record { before = x.before; behind = x.after; is = x.is };
      fresh = fresh;
      follows = subst (λ (l : List Sealed). FollowsLower (conflicting schema) l s h) (sym x.is)
          (follows_free schema 1 x.before s x.after high h (subst (λ (l : List Sealed). RiseBetween 1 l high) x.is rise) (subst (λ (l : List Sealed). NoneConflicts schema l s) (sym x.kept) free));
    }
