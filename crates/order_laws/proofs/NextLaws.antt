-- A pending transaction that conflicts with no lower pending one comes.
use Rattle.std.proofs.Common.{◌≡◌, ℕ, ◌+◌, ◌≤◌, ◌<◌, List, [], ◌∷◌, ◌++◌, Bool, true, false, ◌||◌, not, cond, nat_eq, Option, Some, None, refl, sym, ◌∙◌, ap, subst, arith, append_assoc, append-nil, eqb-true, eq-eqb}
use Rattle.std.specs.Option.{option_and_then}
use Rattle.std.proofs.lemmas.List.Elements.{filter-append}
use Rattle.table_state.specs.table_defs.specs.declared.definition.TableDef.{TableDef}
use Rattle.table_state.specs.declared.history.Entry.{Entry}
use Rattle.table_state.specs.declared.history.Entry.TheVariants.{Definition, Foreign, Own}
use Rattle.table_state.specs.declared.history.Sealed.{Sealed}
use Rattle.table_state.specs.declared.operation.Op.{Op}
use Rattle.table_state.specs.tier_base.specs.declared.number.Ticket.{Ticket}
use Rattle.table_state.specs.Footprints.{conflict, footprint_of}
use Rattle.table_state.specs.Tables.{TableState}
use Rattle.table_state.specs.Operations.{applied, applied_all}
use Rattle.table_state.specs.Histories.{has_ticket, entry_of, state_from, state_of}
use Rattle.table_state.proofs.HistoryLaws.{has_ticket-append, state_of-append}
use Rattle.table_state.proofs.IndependenceLaws.{stays_defined}
use Rattle.order_laws.specs.Commits.{AreOps, FollowsLower, HasOps, IsLegal, KeepsOrder, MayCome, NoneConflicts, Once, RiseBetween, applied_sealed, conflicting, is_pending, pending, virtual_state}
use Rattle.order_laws.proofs.ChainLaws.{commutes, lists_parted, nothing_parted, then_parted, turn}
use Rattle.order_laws.proofs.PairLaws.{Parted, apart_of}
use Rattle.order_laws.proofs.TruthLaws.{never_both, not_both, once_more, or_false, or_true}

-- a transaction past others

pub all_defined : (ops : List Op) (s n : TableState) → applied_all ops s ≡ Some n → n.schema ≡ s.schema
all_defined [] s n is = let same : s ≡ n = cc in ap (λ x. x.schema) (sym same)
all_defined (op ∷ ops) s n is = by (applied op s) refl is (λ t. all_defined ops t n)
  where
    by : (o : Option TableState) → applied op s ≡ o → option_and_then (applied_all ops) o ≡ Some n → ((t : TableState) → applied_all ops t ≡ Some n → n.schema ≡ t.schema) → n.schema ≡ s.schema
    by None e h rest = cc
    by (Some t) e h rest = rest t h ∙ stays_defined op s t e

pub sealed_parted : (xs : List Sealed) (j : Sealed) (s : TableState) → NoneConflicts s.schema xs j → Parted (applied_sealed xs) (applied_all j.ops) s
sealed_parted [] j s none = nothing_parted (applied_all j.ops) s
sealed_parted (x ∷ xs) j s none =
    then_parted (applied_all x.ops) (applied_sealed xs) (applied_all j.ops) s
    (turn (applied_all j.ops) (applied_all x.ops) s (lists_parted x.ops j.ops s (apart_of (footprint_of s.schema x.ops) (footprint_of s.schema j.ops) none.0)))
    (λ t is. sealed_parted xs j t (subst (λ (l : List TableDef). NoneConflicts l xs j) (sym (all_defined x.ops s t is)) none.1))

pub by_option : {A B : Type 0} (f g : A → Option B) → ((x : A) → f x ≡ g x) → (o : Option A) → option_and_then f o ≡ option_and_then g o
by_option f g same None = refl
by_option f g same (Some x) = same x

nested : {A B C : Type 0} (f : A → Option B) (g : B → Option C) (o : Option A) → option_and_then (λ x. option_and_then g (f x)) o ≡ option_and_then g (option_and_then f o)
nested f g None = refl
nested f g (Some x) = refl

pub sealed-append : (xs ys : List Sealed) (s : TableState) → applied_sealed (xs ++ ys) s ≡ option_and_then (applied_sealed ys) (applied_sealed xs s)
sealed-append [] ys s = refl
sealed-append (x ∷ xs) ys s =
    by_option (applied_sealed (xs ++ ys)) (λ t. option_and_then (applied_sealed ys) (applied_sealed xs t)) (sealed-append xs ys) (applied_all x.ops s)
    ∙ nested (applied_sealed xs) (applied_sealed ys) (applied_all x.ops s)

-- it may as well be the first
pub goes_first : (xs : List Sealed) (j : Sealed) (ys : List Sealed) (s : TableState) → NoneConflicts s.schema xs j → applied_sealed (xs ++ j ∷ ys) s ≡ option_and_then (applied_sealed (xs ++ ys)) (applied_all j.ops s)
goes_first xs j ys s none =
    sealed-append xs (j ∷ ys) s
    ∙ nested (applied_all j.ops) (applied_sealed ys) (applied_sealed xs s)
    ∙ ap (option_and_then (applied_sealed ys)) (commutes (applied_sealed xs) (applied_all j.ops) s (sealed_parted xs j s none))
    ∙ sym (nested (applied_sealed xs) (applied_sealed ys) (applied_all j.ops s))
    ∙ sym (by_option (applied_sealed (xs ++ ys)) (λ t. option_and_then (applied_sealed ys) (applied_sealed xs t)) (sealed-append xs ys) (applied_all j.ops s))

-- which are pending

pub nat_eq_other : (a b : ℕ) → (a ≡ b → ⊥) → nat_eq a b ≡ false
nat_eq_other a b differ = not_both (nat_eq a b) (λ e. differ (eqb-true a b e))

-- with the entry of a transaction behind, another ticket stands as before
pub ticket_behind : (h : List Entry) (j : Sealed) (t : ℕ) → (j.ticket.0 ≡ t → ⊥) → has_ticket t (h ++ entry_of j ∷ []) ≡ has_ticket t h
ticket_behind h j t differ =
    has_ticket-append t h (entry_of j ∷ [])
    ∙ ap (λ b. has_ticket t h || (b || false)) (nat_eq_other j.ticket.0 t differ)
    ∙ or_false (has_ticket t h)

-- no transaction of the list has the ticket
abbrev pub HasNot : ℕ → List Sealed → Type 0
HasNot t [] = Unit {0}
HasNot t (x ∷ xs) = (t ≡ x.ticket.0 → ⊥) × HasNot t xs

pub same_pending : (h : List Entry) (j : Sealed) (xs : List Sealed) → HasNot j.ticket.0 xs → pending (h ++ entry_of j ∷ []) xs ≡ pending h xs
same_pending h j [] none = refl
same_pending h j (x ∷ xs) none = λ i. cond (not (ticket_behind h j x.ticket.0 none.0 i)) (x ∷ same_pending h j xs none.1 i) (same_pending h j xs none.1 i)

-- tickets before and behind one in a rising list

pub above_has_not : (low : ℕ) (xs : List Sealed) (high t : ℕ) → RiseBetween low xs high → t < low → HasNot t xs
above_has_not low [] high t rise lt = tt
above_has_not low (x ∷ xs) high t rise lt =
    let first : low ≤ x.ticket.0 = rise.0 in
    let higher : t < x.ticket.0 + 1 = omega arith in
    (λ e. absurd (omega arith), above_has_not (x.ticket.0 + 1) xs high t rise.1 higher)

pub least : (low : ℕ) (before : List Sealed) (s : Sealed) (ss : List Sealed) (high : ℕ) → RiseBetween low (before ++ s ∷ ss) high → low ≤ s.ticket.0
least low [] s ss high rise = rise.0
least low (b ∷ before) s ss high rise =
    let first : low ≤ b.ticket.0 = rise.0 in
    let more : b.ticket.0 + 1 ≤ s.ticket.0 = least (b.ticket.0 + 1) before s ss high rise.1 in
    omega arith

pub before_has_not : (low : ℕ) (xs : List Sealed) (j : Sealed) (ys : List Sealed) (high : ℕ) → RiseBetween low (xs ++ j ∷ ys) high → HasNot j.ticket.0 xs
before_has_not low [] j ys high rise = tt
before_has_not low (x ∷ xs) j ys high rise =
    let more : x.ticket.0 + 1 ≤ j.ticket.0 = least (x.ticket.0 + 1) xs j ys high rise.1 in
    (λ e. absurd (omega arith), before_has_not (x.ticket.0 + 1) xs j ys high rise.1)

pub behind_has_not : (low : ℕ) (xs : List Sealed) (j : Sealed) (ys : List Sealed) (high : ℕ) → RiseBetween low (xs ++ j ∷ ys) high → HasNot j.ticket.0 ys
behind_has_not low [] j ys high rise = above_has_not (j.ticket.0 + 1) ys high j.ticket.0 rise.1 (omega arith)
behind_has_not low (x ∷ xs) j ys high rise = behind_has_not (x.ticket.0 + 1) xs j ys high rise.1

-- the pending ones before it don't conflict with it
pub none_before : (schema : List TableDef) (h : List Entry) (low : ℕ) (xs : List Sealed) (j : Sealed) (ys : List Sealed) (high : ℕ) → RiseBetween low (xs ++ j ∷ ys) high
    → FollowsLower (conflicting schema) (xs ++ j ∷ ys) j h → NoneConflicts schema (pending h xs) j
none_before schema h low [] j ys high rise follows = tt
none_before schema h low (x ∷ xs) j ys high rise follows = by (has_ticket x.ticket.0 h) refl (none_before schema h (x.ticket.0 + 1) xs j ys high rise.1 follows.1)
  where
    by : (b : Bool) → has_ticket x.ticket.0 h ≡ b → NoneConflicts schema (pending h xs) j → NoneConflicts schema (cond (not b) (x ∷ pending h xs) (pending h xs)) j
    by true e rest = rest
    by false e rest = (
      not_both (conflicting schema x j) (λ c.
          let lower : x.ticket.0 + 1 ≤ j.ticket.0 = least (x.ticket.0 + 1) xs j ys high rise.1 in
          let stands : has_ticket x.ticket.0 h ≡ true = follows.0 (omega arith) c in
          cc),
      rest,
    )

-- the virtual state stays
pub virtual_stays : (h : List Entry) (s : TableState) (low : ℕ) (log : List Sealed) (high : ℕ) (j : Sealed) → state_of h ≡ Some s → RiseBetween low log high → MayCome (conflicting s.schema) h log j
    → virtual_state (h ++ entry_of j ∷ []) log ≡ virtual_state h log
virtual_stays h s low log high j is rise may =
    let xs = may.one.before in
    let ys = may.one.behind in
    let whole : log ≡ xs ++ j ∷ ys = may.one.is in
    let rising : RiseBetween low (xs ++ j ∷ ys) high = subst (λ (l : List Sealed). RiseBetween low l high) whole rise in
    let follows : FollowsLower (conflicting s.schema) (xs ++ j ∷ ys) j h = subst (λ (l : List Sealed). FollowsLower (conflicting s.schema) l j h) whole may.follows in
    let none = none_before s.schema h low xs j ys high rising follows in
    let now : pending h log ≡ pending h xs ++ j ∷ pending h ys =
    ap (pending h) whole ∙ filter-append (is_pending h) xs (j ∷ ys) ∙ ap (λ b. pending h xs ++ cond (not b) (j ∷ pending h ys) (pending h ys)) may.fresh
    in
    let here : has_ticket j.ticket.0 (h ++ entry_of j ∷ []) ≡ true =
    has_ticket-append j.ticket.0 h (entry_of j ∷ []) ∙ ap (λ b. has_ticket j.ticket.0 h || (b || false)) (eq-eqb j.ticket.0 j.ticket.0 refl) ∙ or_true (has_ticket j.ticket.0 h)
    in
    let new : pending (h ++ entry_of j ∷ []) log ≡ pending h xs ++ pending h ys =
    ap (pending (h ++ entry_of j ∷ [])) whole ∙ filter-append (is_pending (h ++ entry_of j ∷ [])) xs (j ∷ ys)
    ∙ (λ i. same_pending h j xs (before_has_not low xs j ys high rising) i ++ cond (not (here i)) (j ∷ same_pending h j ys (behind_has_not low xs j ys high rising) i) (same_pending h j ys (behind_has_not low xs j ys high rising) i))
    in
    let state : state_of (h ++ entry_of j ∷ []) ≡ applied_all j.ops s =
    state_of-append h (entry_of j ∷ []) ∙ ap (option_and_then (state_from (entry_of j ∷ []))) is ∙ once_more (applied_all j.ops s)
    in
    (λ i. option_and_then (applied_sealed (new i)) (state i))
    ∙ sym (goes_first (pending h xs) j (pending h ys) s none)
    ∙ sym (λ i. option_and_then (applied_sealed (now i)) (is i))

-- and the history stays legal

pub once_behind : (h : List Entry) (j : Sealed) → Once h → has_ticket j.ticket.0 h ≡ false → Once (h ++ entry_of j ∷ [])
once_behind [] j once fresh = (refl, tt)
once_behind (Definition def ∷ h) j once fresh = once_behind h j once fresh
once_behind (Foreign ops ∷ h) j once fresh = once_behind h j once fresh
once_behind (Own ticket ops ∷ h) j once fresh =
    let (other, rest) = or_none (nat_eq ticket.0 j.ticket.0) (has_ticket j.ticket.0 h) fresh in
    (ticket_behind h j ticket.0 (λ e. differ ticket.0 j.ticket.0 other (sym e)) ∙ once.0, once_behind h j once.1 rest)
  where
    or_none : (a b : Bool) → (a || b) ≡ false → (a ≡ false) × (b ≡ false)
    or_none true b e = cc
    or_none false b e = (refl, e)

    differ : (a b : ℕ) → nat_eq a b ≡ false → a ≡ b → ⊥
    differ a b other e = never_both (nat_eq a b) (eq-eqb a b e) other

pub are_ops : (low : ℕ) (before : List Sealed) (s : Sealed) (ss : List Sealed) (high : ℕ) → RiseBetween low (before ++ s ∷ ss) high → AreOps (before ++ s ∷ ss) s.ticket s.ops
are_ops low [] s ss high rise = (λ e. refl, ops_above (s.ticket.0 + 1) ss high s.ticket s.ops rise.1 (omega arith))
  where
    ops_above : (low : ℕ) (log : List Sealed) (high : ℕ) (ticket : Ticket) (ops : List Op) → RiseBetween low log high → ticket.0 < low → AreOps log ticket ops
    ops_above low [] high ticket ops rise above = tt
    ops_above low (s ∷ log) high ticket ops rise above =
        let first : low ≤ s.ticket.0 = rise.0 in
        let higher : ticket.0 < s.ticket.0 + 1 = omega arith in
        (λ e. absurd (omega arith), ops_above (s.ticket.0 + 1) log high ticket ops rise.1 higher)
are_ops low (b ∷ before) s ss high rise =
    let more : b.ticket.0 + 1 ≤ s.ticket.0 = least (b.ticket.0 + 1) before s ss high rise.1 in
    (λ e. absurd (omega arith), are_ops (b.ticket.0 + 1) before s ss high rise.1)

pub has_ops_behind : (log : List Sealed) (h : List Entry) (j : Sealed) → HasOps log h → AreOps log j.ticket j.ops → HasOps log (h ++ entry_of j ∷ [])
has_ops_behind log [] j has are = (are, tt)
has_ops_behind log (Definition def ∷ h) j has are = has_ops_behind log h j has are
has_ops_behind log (Foreign ops ∷ h) j has are = has_ops_behind log h j has are
has_ops_behind log (Own ticket ops ∷ h) j has are = (has.0, has_ops_behind log h j has.1 are)

pub order_behind : (conflict : Sealed → Sealed → Bool) (log : List Sealed) (front h : List Entry) (j : Sealed) → KeepsOrder conflict log front h → FollowsLower conflict log j (front ++ h)
    → KeepsOrder conflict log front (h ++ entry_of j ∷ [])
order_behind conflict log front [] j keeps follows = (λ e. subst (λ (l : List Entry). FollowsLower conflict log j l) (append-nil front) follows, tt)
order_behind conflict log front (Definition def ∷ h) j keeps follows =
    order_behind conflict log (front ++ Definition def ∷ []) h j keeps (subst (λ (l : List Entry). FollowsLower conflict log j l) (sym (append_assoc front (Definition def ∷ []) h)) follows)
order_behind conflict log front (Foreign ops ∷ h) j keeps follows =
    order_behind conflict log (front ++ Foreign ops ∷ []) h j keeps (subst (λ (l : List Entry). FollowsLower conflict log j l) (sym (append_assoc front (Foreign ops ∷ []) h)) follows)
order_behind conflict log front (Own ticket ops ∷ h) j keeps follows =
    (keeps.0, order_behind conflict log (front ++ Own ticket ops ∷ []) h j keeps.1 (subst (λ (l : List Entry). FollowsLower conflict log j l) (sym (append_assoc front (Own ticket ops ∷ []) h)) follows))

pub legal_behind : (conflict : Sealed → Sealed → Bool) (h : List Entry) (low : ℕ) (log : List Sealed) (high : ℕ) (j : Sealed) → RiseBetween low log high → IsLegal conflict h log → MayCome conflict h log j
    → IsLegal conflict (h ++ entry_of j ∷ []) log
legal_behind conflict h low log high j rise legal may = record {
  once = once_behind h j legal.once may.fresh;
  ops = has_ops_behind log h j legal.ops (subst (λ (l : List Sealed). AreOps l j.ticket j.ops) (sym may.one.is)
      (are_ops low may.one.before j may.one.behind high (subst (λ (l : List Sealed). RiseBetween low l high) may.one.is rise)));
  order = order_behind conflict log [] h j legal.order may.follows;
}
