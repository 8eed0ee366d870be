-- Laws of tickets in histories.
use Rattle.std.proofs.Common.{◌≡◌, ℕ, zero, suc, ◌+◌, ◌-◌, Bool, true, false, cond, nat_eq, Option, Some, None, is_some, List, [], ◌∷◌, ◌++◌, length, get_or, set, refl, sym, ap, ◌∙◌, eq-eqb, eqb-true, arith, length-append}
use Rattle.std.specs.Option.{option_map, option_or}
use Rattle.std.specs.Ordering.{is_eq, nat_cmp}
use Rattle.std.specs.Cmp.{nat_cmp_is}
use Rattle.std.specs.FinMap.{nat_cmp-IsAntisymmetric}
use Rattle.std.specs.declared.cmp.Ordering.{Ordering}
use Rattle.std.specs.declared.cmp.Ordering.TheVariants.{Less, Equal, Greater}
use Rattle.tier_base.specs.declared.number.Ticket.{Ticket}
use Rattle.table_state.specs.declared.operation.Op.{Op}
use Rattle.table_state.specs.declared.history.Entry.{Entry}
use Rattle.table_state.specs.declared.history.Entry.TheVariants.{Own}
use Rattle.table_state.specs.declared.history.Sealed.{Sealed}
use Rattle.table_state.specs.Histories.{entry_of, has_ticket, is_of, position_of}
use Rattle.table_state.proofs.PositionLaws.{has_position, position_of-append}
use Rattle.outside.specs.Bank.{HasAll}

-- one entry more, by whether it or an earlier one has the ticket
or_last : (f : Option ℕ) (b : Bool) (n m : ℕ) → m ≡ n + 1 → option_or f (option_map (λ k. n + k) (cond b (Some 1) None)) ≡ option_or f (cond b (Some m) None)
or_last f true n m e = ap (λ k. option_or f (Some k)) (sym e)
or_last f false n m e = refl

pub position_push : (ticket : ℕ) (h : List Entry) (e : Entry) → position_of ticket (h ++ e ∷ []) ≡ option_or (position_of ticket h) (cond (is_of ticket e) (Some (length h + 1)) None)
position_push ticket h e = position_of-append ticket h (e ∷ []) ∙ or_last (position_of ticket h) (is_of ticket e) (length h) (length h + 1) refl

pub no_position : (ticket : ℕ) (h : List Entry) → has_ticket ticket h ≡ false → position_of ticket h ≡ None
no_position ticket h e = none (position_of ticket h) (sym (has_position ticket h) ∙ e)
  where
    none : (o : Option ℕ) → is_some o ≡ false → o ≡ None
    none None e = refl
    none (Some n) e = cc

-- a new transaction came behind the history
pub came_at : (h : List Entry) (s : Sealed) → has_ticket s.ticket.0 h ≡ false → position_of s.ticket.0 (h ++ entry_of s ∷ []) ≡ Some (length h + 1)
came_at h s fresh =
    position_push s.ticket.0 h (entry_of s) ∙ ap (λ b. option_or (position_of s.ticket.0 h) (cond b (Some (length h + 1)) None)) (eq-eqb s.ticket.0 s.ticket.0 refl)
    ∙ ap (λ o. option_or o (Some (length h + 1))) (no_position s.ticket.0 h fresh)

or_none : (o : Option ℕ) → option_or o None ≡ o
or_none None = refl
or_none (Some n) = refl

pub position_same : (q : ℕ) (h : List Entry) (e : Entry) → is_of q e ≡ false → position_of q (h ++ e ∷ []) ≡ position_of q h
position_same q h e other = position_push q h e ∙ ap (λ b. option_or (position_of q h) (cond b (Some (length h + 1)) None)) other ∙ or_none (position_of q h)

-- the positions stay where the last entry has the ticket of another
pub position_like : (q : ℕ) (h : List Entry) (a b : Entry) → is_of q a ≡ is_of q b → position_of q (h ++ a ∷ []) ≡ position_of q (h ++ b ∷ [])
position_like q h a b like = position_push q h a ∙ ap (λ b. option_or (position_of q h) (cond b (Some (length h + 1)) None)) like ∙ sym (position_push q h b)

-- the tests of keys and of tickets
same_test : (k q : ℕ) → is_eq (nat_cmp k q) ≡ nat_eq k q
same_test k q = by (nat_eq k q) refl
  where
    apart : nat_eq k q ≡ false → (r : Ordering) → nat_cmp k q ≡ r → is_eq r ≡ false
    apart e Less c = refl
    apart e Equal c = let same : nat_eq k q ≡ true = eq-eqb k q (nat_cmp-IsAntisymmetric k q c) in cc
    apart e Greater c = refl

    by : (b : Bool) → nat_eq k q ≡ b → is_eq (nat_cmp k q) ≡ nat_eq k q
    by true e = ap is_eq (sym (nat_cmp_is k q Equal (eqb-true k q e))) ∙ sym e
    by false e = apart e (nat_cmp k q) refl ∙ sym e

-- a transaction came behind the history, and its ticket into the index
pub own_came : (h : List Entry) (ticket : Ticket) (ops : List Op) (n : ℕ) (before after : ℕ → Option ℕ) → ((q : ℕ) → before q ≡ position_of q h) → has_ticket ticket.0 h ≡ false
    → ((q : ℕ) → after q ≡ cond (is_eq (nat_cmp ticket.0 q)) (Some n) (before q)) → n ≡ length h + 1 → (q : ℕ) → after q ≡ position_of q (h ++ Own ticket ops ∷ [])
own_came h ticket ops n before after old fresh new is q =
    new q ∙ ap (λ b. cond b (Some n) (before q)) (same_test ticket.0 q) ∙ ap (λ o. cond (nat_eq ticket.0 q) (Some n) o) (old q) ∙ by (nat_eq ticket.0 q) refl ∙ sym (position_push q h (Own ticket ops))
  where
    by : (b : Bool) → nat_eq ticket.0 q ≡ b → cond b (Some n) (position_of q h) ≡ option_or (position_of q h) (cond b (Some (length h + 1)) None)
    by true e =
        let same : ticket.0 ≡ q = eqb-true _ _ e in
        let none : position_of q h ≡ None = ap (λ k. position_of k h) (sym same) ∙ no_position ticket.0 h fresh in
        ap Some is ∙ ap (λ o. option_or o (Some (length h + 1))) (sym none)
    by false e = sym (or_none (position_of q h))

-- the last transaction left, and its ticket the index
pub own_left : (h : List Entry) (ticket : Ticket) (ops : List Op) (before after : ℕ → Option ℕ) → ((q : ℕ) → before q ≡ position_of q (h ++ Own ticket ops ∷ [])) → has_ticket ticket.0 h ≡ false
    → ((q : ℕ) → after q ≡ cond (is_eq (nat_cmp ticket.0 q)) None (before q)) → (q : ℕ) → after q ≡ position_of q h
own_left h ticket ops before after old fresh new q =
    new q ∙ ap (λ b. cond b None (before q)) (same_test ticket.0 q) ∙ ap (λ o. cond (nat_eq ticket.0 q) None o) (old q ∙ position_push q h (Own ticket ops)) ∙ by (nat_eq ticket.0 q) refl
  where
    by : (b : Bool) → nat_eq ticket.0 q ≡ b → cond b None (option_or (position_of q h) (cond b (Some (length h + 1)) None)) ≡ position_of q h
    by true e =
        let same : ticket.0 ≡ q = eqb-true _ _ e in
        sym (ap (λ k. position_of k h) (sym same) ∙ no_position ticket.0 h fresh)
    by false e = or_none (position_of q h)

pub has_all_push : (tickets : List Ticket) (ticket : Ticket) (h : List Entry) → HasAll tickets h → has_ticket ticket.0 h ≡ true → HasAll (tickets ++ ticket ∷ []) h
has_all_push [] ticket h all has = (has, tt)
has_all_push (t ∷ tickets) ticket h all has = (all.0, has_all_push tickets ticket h all.1 has)

pub same_place : (xs : List Ticket) (i : ℕ) (d : Ticket) → get_or xs i (get_or xs i d) ≡ get_or xs i d
same_place [] i d = refl
same_place (x ∷ xs) zero d = refl
same_place (x ∷ xs) (suc i) d = same_place xs i d

-- nothing came
pub same : (h : List Entry) → h ≡ h ++ []
same [] = refl
same (x ∷ h) = ap (λ l. x ∷ l) (same h)

-- no ticket is both in the history and not
pub known_fresh : (ticket : ℕ) (h : List Entry) → has_ticket ticket h ≡ true → has_ticket ticket h ≡ false → ⊥
known_fresh ticket h is_there is_new = cc

-- the last entry is replaced
set_last : (front : List Entry) (before entry : Entry) → set (front ++ before ∷ []) (length front) entry ≡ front ++ entry ∷ []
set_last [] before entry = refl
set_last (x ∷ front) before entry = ap (λ l. x ∷ l) (set_last front before entry)

pub replaced : (old items new : List Entry) (long : ℕ) (entry : Entry) → items ≡ old → long ≡ length items → new ≡ set items (long - 1) entry → (front : List Entry) (last : Entry) → old ≡ front ++ last ∷ [] → new ≡ front ++ entry ∷ []
replaced old items new long entry same count made front last is =
    let all : items ≡ front ++ last ∷ [] = same ∙ is in
    let whole : long ≡ length front + 1 = count ∙ ap length all ∙ length-append front (last ∷ []) in
    let place : long - 1 ≡ length front = omega arith in
    made ∙ ap (λ (l : List Entry). set l (long - 1) entry) all ∙ ap (λ (n : ℕ). set (front ++ last ∷ []) n entry) place ∙ set_last front last entry
