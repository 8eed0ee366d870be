-- Sessions found by number and by label.
use Rattle.std.proofs.Common.{◌≡◌, ℕ, zero, suc, Bool, true, false, not, cond, get_or, nat_eq, Option, Some, None, List, [], ◌∷◌, All, map, slice_get, unwrap_or, refl, sym, ap, subst, ◌∙◌, eq-eqb, filter, find, rules}
use Rattle.std.specs.Bool.{Decides}
use Rattle.std.specs.List.{AllPairs}
use Rattle.std.specs.Str.{bytes_eq}
use Rattle.std.specs.Option.{option_and_then, option_map}
use Rattle.std.proofs.lemmas.Bool.{eqb-true, ne_eqb}
use Rattle.std.proofs.lemmas.List.Elements.{All-cons, All-head, All-tail}
use Rattle.std.proofs.lemmas.Slice.Eq.{bytes_eq-Decides}
use Rattle.session_state.specs.tier_base.specs.declared.number.SessionId.{SessionId}
use Rattle.session_state.specs.table_defs.specs.declared.definition.TableDef.{TableDef}
use Rattle.session_state.specs.table_state.specs.declared.operation.Op.{Op}
use Rattle.session_state.specs.declared.session.Session.{Session}
use Rattle.session_state.specs.Kept.{seen_of}
use Rattle.session_state.specs.Locks.{holder_of}
use Rattle.session_state.specs.Meeting.{blocker_of}
use Rattle.session_state.specs.Sessions.{OpenSession, has_id}
use Rattle.session_state.proofs.ListLaws.{find_view, pairs_head, pairs_tail}
use Rattle.session_state.proofs.MeetingLaws.{IsIn, blocker_in, filter_in, find_in, holder_is}
use Rattle.open_sessions.specs.Lookups.{has_label, of_label, of_number, open_ops}
use Rattle.open_sessions.specs.Opening.{DifferInLabel, DifferInNumber, closed, on_session}
use Rattle.open_sessions.proofs.SessionLaws.{all_at, seen_got}

-- tests of one session

id_true : (a b : OpenSession) → a ≡ b → has_id a.id b ≡ true
id_true a b e = eq-eqb b.id.0 a.id.0 (ap (λ s. s.id.0) (sym e))

id_false : (a b : OpenSession) → (b.id.0 ≡ a.id.0 → ⊥) → has_id a.id b ≡ false
id_false a b differ = ne_eqb b.id.0 a.id.0 differ

label_true : (a b : OpenSession) → a ≡ b → has_label a.label b ≡ true
label_true a b e = (bytes_eq-Decides b.label a.label).1 (ap (λ s. s.label) (sym e))

label_false : (a b : OpenSession) → (b.label ≡ a.label → ⊥) → has_label a.label b ≡ false
label_false a b differ = by (has_label a.label b) refl
  where
    by : (r : Bool) → has_label a.label b ≡ r → has_label a.label b ≡ false
    by true e = absurd (differ ((bytes_eq-Decides b.label a.label).0 e))
    by false e = e

-- where no two have one number, the first of a number is the one that has it
pub number_found : (xs : List OpenSession) (i : ℕ) (x : OpenSession) → slice_get xs i ≡ Some x → AllPairs DifferInNumber xs → of_number x.id xs ≡ Some x
number_found [] i x at pairs = cc
number_found (y ∷ xs) zero x at pairs =
    let same : y ≡ x = cc in
    ap (λ b. cond b (Some y) (of_number x.id xs)) (id_true x y (sym same)) ∙ ap Some same
number_found (y ∷ xs) (suc i) x at pairs =
    let differ = all_at (DifferInNumber y) xs (pairs_head DifferInNumber y xs pairs) i x at in
    ap (λ b. cond b (Some y) (of_number x.id xs)) (id_false x y differ) ∙ number_found xs i x at (pairs_tail DifferInNumber y xs pairs)

-- the open operations of the session at a place
pub ops_found : (id : SessionId) (xs : List Session) (i : ℕ) (s : Session) → slice_get xs i ≡ Some s → has_id id (seen_of s) ≡ true → AllPairs DifferInNumber (map seen_of xs) → open_ops id (map seen_of xs) ≡ s.ops.items
ops_found id xs i s at has pairs =
    let found = number_found (map seen_of xs) i (seen_of s) (seen_got xs i s at) pairs in
    let same : of_number id (map seen_of xs) ≡ of_number s.id (map seen_of xs) = ap (λ (n : ℕ). find (λ x. nat_eq x.id.0 n) (map seen_of xs)) (sym (eqb-true s.id.0 id.0 has)) in
    ap (λ o. unwrap_or (option_map (λ z. z.ops) o) []) (same ∙ found)

-- among the stored sessions and among what a reader sees of them the same is found
pub number_seen : (id : SessionId) (xs : List Session) (o : Option Session) → o ≡ find (λ s. has_id id (seen_of s)) xs → option_map seen_of o ≡ of_number id (map seen_of xs)
number_seen id xs o is = ap (option_map seen_of) is ∙ find_view seen_of (λ s. has_id id (seen_of s)) (has_id id) xs (λ k d within. refl)

pub label_found : (label : List ℕ) (xs : List Session) (o : Option Session) → o ≡ find (λ s. has_label label (seen_of s)) xs → option_map seen_of o ≡ of_label label (map seen_of xs)
label_found label xs o is = ap (option_map seen_of) is ∙ find_view seen_of (λ s. has_label label (seen_of s)) (has_label label) xs (λ k d within. refl)

pub ops_seen : (id : SessionId) (xs : List Session) (o : Option Session) → o ≡ find (λ s. has_id id (seen_of s)) xs → unwrap_or (option_map (λ s. s.ops) (option_map seen_of o)) [] ≡ open_ops id (map seen_of xs)
ops_seen id xs o is = ap (λ o. unwrap_or (option_map (λ s. s.ops) o) []) (number_seen id xs o is)

pub found_all : (P : Session → Type 0) (p : Session → Bool) (xs : List Session) (s : Session) → All P xs → Some s ≡ find p xs → P s
found_all P p xs s all is = let at = find_in p xs s (sym is) in all_at P xs all at.0 s at.1

pub tested : (xs ys : List ℕ) (r : Bool) → Decides r (xs ≡ ys) → r ≡ bytes_eq xs ys
tested xs ys r h = search (rules, bytes_eq-Decides)

other_tests : (x : OpenSession) (zs : List OpenSession) → All (DifferInNumber x) zs → All (DifferInLabel x) zs → All (λ z. has_id x.id z ≡ has_label x.label z) zs
other_tests x zs numbers labels k d within =
    id_false x (get_or zs k d) (λ e. numbers k d within (sym e)) ∙ sym (label_false x (get_or zs k d) (λ e. labels k d within (sym e)))

-- of one session number and label tell the same
pub same_tests : (xs : List OpenSession) (i : ℕ) (x : OpenSession) → slice_get xs i ≡ Some x → AllPairs DifferInNumber xs → AllPairs DifferInLabel xs → All (λ y. has_id x.id y ≡ has_label x.label y) xs
same_tests [] i x at numbers labels = cc
same_tests (y ∷ xs) zero x at numbers labels =
    let same : y ≡ x = cc in
    let here = id_true x y (sym same) ∙ sym (label_true x y (sym same)) in
    All-cons (λ z. has_id x.id z ≡ has_label x.label z) y xs here (other_tests x xs
    (subst (λ s. All (DifferInNumber s) xs) same (pairs_head DifferInNumber y xs numbers)) (subst (λ s. All (DifferInLabel s) xs) same (pairs_head DifferInLabel y xs labels)))
same_tests (y ∷ xs) (suc i) x at numbers labels =
    let number = all_at (DifferInNumber y) xs (pairs_head DifferInNumber y xs numbers) i x at in
    let label = all_at (DifferInLabel y) xs (pairs_head DifferInLabel y xs labels) i x at in
    All-cons (λ z. has_id x.id z ≡ has_label x.label z) y xs (id_false x y number ∙ sym (label_false x y label))
    (same_tests xs i x at (pairs_tail DifferInNumber y xs numbers) (pairs_tail DifferInLabel y xs labels))

module _ {A : Type 0} (p q : A → Bool) where
  filter_same : (xs : List A) → All (λ x. p x ≡ q x) xs → filter (λ x. not (p x)) xs ≡ filter (λ x. not (q x)) xs
  filter_same [] all = refl
  filter_same (x ∷ xs) all =
      ap (λ b. cond (not b) (x ∷ filter (λ x. not (p x)) xs) (filter (λ x. not (p x)) xs)) (All-head (λ x. p x ≡ q x) x xs all)
      ∙ ap (λ l. cond (not (q x)) (x ∷ l) l) (filter_same xs (All-tail (λ x. p x ≡ q x) x xs all))

  change_same : (f : A → A) (xs : List A) → All (λ x. p x ≡ q x) xs → map (λ x. cond (p x) (f x) x) xs ≡ map (λ x. cond (q x) (f x) x) xs
  change_same f [] all = refl
  change_same f (x ∷ xs) all =
      ap (λ b. cond b (f x) x ∷ map (λ x. cond (p x) (f x) x) xs) (All-head (λ x. p x ≡ q x) x xs all)
      ∙ ap (λ l. cond (q x) (f x) x ∷ l) (change_same f xs (All-tail (λ x. p x ≡ q x) x xs all))

-- a session that was found by its label
module _ (xs : List OpenSession) (numbers : AllPairs DifferInNumber xs) (labels : AllPairs DifferInLabel xs) (label : List ℕ) (x : OpenSession) (is : of_label label xs ≡ Some x) where
  place : IsIn xs x
  place = find_in (has_label label) xs x is

  named : x.label ≡ label
  named = (bytes_eq-Decides x.label label).0 (passes xs is)
    where
      passes : (ys : List OpenSession) → of_label label ys ≡ Some x → has_label label x ≡ true
      passes [] e = cc
      passes (y ∷ ys) e = by (has_label label y) refl e (passes ys)
        where
          by : (b : Bool) → has_label label y ≡ b → cond b (Some y) (of_label label ys) ≡ Some x → (of_label label ys ≡ Some x → has_label label x ≡ true) → has_label label x ≡ true
          by true has e rest = let same : y ≡ x = cc in ap (has_label label) (sym same) ∙ has
          by false has e rest = rest e

  tests : All (λ y. has_id x.id y ≡ has_label label y) xs
  tests = subst (λ l. All (λ y. has_id x.id y ≡ has_label l y) xs) named (same_tests xs place.0 x place.1 numbers labels)

  pub number_is : of_number x.id xs ≡ Some x
  number_is = number_found xs place.0 x place.1 numbers

  pub change_is : (f : OpenSession → OpenSession) → on_session x.id f xs ≡ map (λ y. cond (has_label label y) (f y) y) xs
  change_is f = change_same (has_id x.id) (has_label label) f xs tests

  pub others_are : closed x.id xs ≡ filter (λ y. not (has_label label y)) xs
  others_are = filter_same (has_id x.id) (has_label label) xs tests

  pub met_is : (schema : List TableDef) (ops : List Op) → option_and_then (λ id. of_number id xs) (holder_of (Some x.id) schema xs ops) ≡ blocker_of schema (filter (λ y. not (has_label label y)) xs) ops
  met_is schema ops =
      ap (option_and_then (λ id. of_number id xs)) (holder_is (Some x.id) schema xs ops ∙ ap (λ l. option_map (λ s. s.id) (blocker_of schema l ops)) others_are)
      ∙ by (blocker_of schema (filter (λ y. not (has_label label y)) xs) ops) refl
    where
      by : (o : Option OpenSession) → blocker_of schema (filter (λ y. not (has_label label y)) xs) ops ≡ o → option_and_then (λ id. of_number id xs) (option_map (λ s. s.id) o) ≡ o
      by None e = refl
      by (Some s) e =
          let at = filter_in (λ y. not (has_label label y)) xs s (blocker_in schema (filter (λ y. not (has_label label y)) xs) ops s e) in
          number_found xs at.0 s at.1 numbers
