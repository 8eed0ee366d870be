-- One session of a list changes.
use Rattle.std.proofs.Common.{◌≡◌, ◌≢◌, ℕ, zero, suc, ◌+◌, ◌<◌, ◌≤◌, Bool, true, false, not, cond, ◌||◌, nat_eq, List, [], ◌∷◌, ◌++◌, All, length, map, get_or, set, slice_get, Some, None, Result, Ok, Err, OnOk, OnErr, refl, sym, ap, subst, ◌∙◌, eq-eqb, arith}
use Rattle.std.specs.List.{AllPairs, list_any, position, prefix_len, remove}
use Rattle.std.proofs.lemmas.Bool.{eqb-true, lt-ltb, or_parts}
use Rattle.std.proofs.lemmas.List.{length-map}
use Rattle.std.proofs.lemmas.Slice.Eq.{bytes_eq-Decides}
use Rattle.std.proofs.lemmas.List.Elements.{All-cons, All-head, All-push, All-tail}
use Rattle.std.proofs.lemmas.List.Quantifiers.{all_pairs_push, all_pairs_remove, position-Some}
use Rattle.std.proofs.lemmas.Option.{get_or_from_slice_get, slice_get-get_or, slice_get_within}
use Rattle.session_state.specs.tier_base.specs.declared.number.SessionId.{SessionId}
use Rattle.session_state.specs.table_defs.specs.declared.definition.TableDef.{TableDef}
use Rattle.session_state.specs.table_state.specs.declared.operation.Op.{Op}
use Rattle.session_state.specs.declared.session.Session.{Session}
use Rattle.session_state.specs.Kept.{IsKept, seen_of}
use Rattle.session_state.specs.Locks.{AreApart, IsApart, is_other}
use Rattle.session_state.specs.Sessions.{OpenSession, at_rest, begun, has_id, with_ops}
use Rattle.session_state.proofs.ApartLaws.{apart_more, apart_none, apart_turned}
use Rattle.session_state.proofs.ListLaws.{any_view, pairs_head, pairs_set, pairs_tail}
use Rattle.open_sessions.specs.Opening.{AreApartPair, AreSessions, DifferInLabel, DifferInNumber, Opens, closed, on_session, seen_all}
use Rattle.open_sessions.specs.declared.sessions.Sessions.{Sessions}
use Rattle.open_sessions.specs.Lookups.{has_label, is_label_used}

not_true : (b : Bool) → not b ≡ true → b ≡ false
not_true true e = cc
not_true false e = refl

module _ {X : Type 0} where
  front : (q : X → Bool) (xs : List X) (i : ℕ) (x : X) → slice_get xs i ≡ Some x → i < prefix_len q xs → q x ≡ true
  front q [] i x at lt = cc
  front q (y ∷ xs) i x at lt = by (q y) refl i at lt (λ j h w. front q xs j x h w)
    where
      by : (b : Bool) → q y ≡ b → (i : ℕ) → slice_get (y ∷ xs) i ≡ Some x → i < cond b (1 + prefix_len q xs) 0 → ((j : ℕ) → slice_get xs j ≡ Some x → j < prefix_len q xs → q x ≡ true) → q x ≡ true
      by true e zero at lt ih = let z : y ≡ x = cc in ap q (sym z) ∙ e
      by true e (suc i) at lt ih = ih i at (omega (arith, lt))
      by false e i at lt ih = absurd (omega (arith, lt))

  -- where none is found, none passes
  pub none_has : (p : X → Bool) (xs : List X) → None ≡ position p xs → (i : ℕ) (x : X) → slice_get xs i ≡ Some x → p x ≡ false
  none_has p xs none i x at =
      let n = prefix_len (λ y. not (p y)) xs in
      let le : length xs ≤ n = (let not_less : n < length xs → ⊥ = λ lt. (let z : None ≡ Some n = none ∙ ap (λ b. cond b (Some n) None) (lt-ltb n (length xs) lt) in cc) in omega (arith, not_less)) in
      let lt = slice_get_within xs i x at in
      not_true (p x) (front (λ y. not (p y)) xs i x at (omega (arith, lt, le)))

  pub all_at : (P : X → Type 0) (ys : List X) → All P ys → (j : ℕ) (y : X) → slice_get ys j ≡ Some y → P y
  all_at P ys all j y at = subst P (get_or_from_slice_get ys j y y at) (all j y (slice_get_within ys j y at))

-- what a reader sees of a list with one session changed
pub seen_set : (xs : List Session) (i : ℕ) (t : Session) → map seen_of (set xs i t) ≡ set (map seen_of xs) i (seen_of t)
seen_set [] i t = refl
seen_set (x ∷ xs) zero t = refl
seen_set (x ∷ xs) (suc i) t = ap (λ l. seen_of x ∷ l) (seen_set xs i t)

pub seen_got : (xs : List Session) (i : ℕ) (s : Session) → slice_get xs i ≡ Some s → slice_get (map seen_of xs) i ≡ Some (seen_of s)
seen_got [] i s at = cc
seen_got (x ∷ xs) zero s at = let z : x ≡ s = cc in ap (λ y. Some (seen_of y)) z
seen_got (x ∷ xs) (suc i) s at = seen_got xs i s at

pub seen_same : (xs : List Session) (i : ℕ) (s t : Session) → slice_get xs i ≡ Some s → seen_of t ≡ seen_of s → map seen_of (set xs i t) ≡ map seen_of xs
seen_same [] i s t at same = cc
seen_same (x ∷ xs) zero s t at same = let z : x ≡ s = cc in ap (λ y. y ∷ map seen_of xs) (same ∙ ap seen_of (sym z))
seen_same (x ∷ xs) (suc i) s t at same = ap (λ l. seen_of x ∷ l) (seen_same xs i s t at same)

seen_remove : (xs : List Session) (i : ℕ) → map seen_of (remove xs i) ≡ remove (map seen_of xs) i
seen_remove [] zero = refl
seen_remove [] (suc i) = refl
seen_remove (x ∷ xs) zero = refl
seen_remove (x ∷ xs) (suc i) = ap (λ l. seen_of x ∷ l) (seen_remove xs i)

module _ (id : SessionId) where
  abbrev is : Session → Bool
  is s = has_id id (seen_of s)

  other : (s y : OpenSession) → has_id id s ≡ true → DifferInNumber s y → has_id id y ≡ false
  other s y has differ = by (has_id id y) refl
    where
      by : (b : Bool) → has_id id y ≡ b → has_id id y ≡ false
      by true e = absurd (differ (eqb-true s.id.0 id.0 has ∙ sym (eqb-true y.id.0 id.0 e)))
      by false e = e

  back : (s y : OpenSession) → has_id id s ≡ true → DifferInNumber y s → has_id id y ≡ false
  back s y has differ = other s y has (λ e. differ (sym e))

  none_behind : (x : Session) (xs : List Session) → is x ≡ true → AllPairs DifferInNumber (map seen_of (x ∷ xs)) → (i : ℕ) (y : Session) → slice_get xs i ≡ Some y → is y ≡ false
  none_behind x xs has pairs i y at = other (seen_of x) (seen_of y) has (all_at (DifferInNumber (seen_of x)) (map seen_of xs) (pairs_head DifferInNumber (seen_of x) (map seen_of xs) pairs) i (seen_of y) (seen_got xs i y at))

  not_before : (x : Session) (xs : List Session) (i : ℕ) (s : Session) → slice_get xs i ≡ Some s → is s ≡ true → AllPairs DifferInNumber (map seen_of (x ∷ xs)) → is x ≡ false
  not_before x xs i s at has pairs = back (seen_of s) (seen_of x) has (all_at (DifferInNumber (seen_of x)) (map seen_of xs) (pairs_head DifferInNumber (seen_of x) (map seen_of xs) pairs) i (seen_of s) (seen_got xs i s at))

  module _ (f : OpenSession → OpenSession) where
    pub on_none : (xs : List Session) → ((i : ℕ) (x : Session) → slice_get xs i ≡ Some x → is x ≡ false) → map seen_of xs ≡ on_session id f (map seen_of xs)
    on_none [] h = refl
    on_none (x ∷ xs) h =
        let first = sym (ap (λ b. cond b (f (seen_of x)) (seen_of x)) (h 0 x refl)) in
        let rest = on_none xs (λ i y at. h (suc i) y at) in
        λ j. first j ∷ rest j

    pub on_one : (xs : List Session) (i : ℕ) (s t : Session) → slice_get xs i ≡ Some s → is s ≡ true → seen_of t ≡ f (seen_of s) → AllPairs DifferInNumber (map seen_of xs) → map seen_of (set xs i t) ≡ on_session id f (map seen_of xs)
    on_one [] i s t at has now pairs = cc
    on_one (x ∷ xs) zero s t at has now pairs =
        let z : x ≡ s = cc in
        let here : is x ≡ true = ap is z ∙ has in
        let first = now ∙ ap (λ y. f (seen_of y)) (sym z) ∙ sym (ap (λ b. cond b (f (seen_of x)) (seen_of x)) here) in
        let rest = on_none xs (none_behind x xs here pairs) in
        λ j. first j ∷ rest j
    on_one (x ∷ xs) (suc i) s t at has now pairs =
        let first = sym (ap (λ b. cond b (f (seen_of x)) (seen_of x)) (not_before x xs i s at has pairs)) in
        let rest = on_one xs i s t at has now (pairs_tail DifferInNumber (seen_of x) (map seen_of xs) pairs) in
        λ j. first j ∷ rest j

  pub closed_none : (xs : List Session) → ((i : ℕ) (x : Session) → slice_get xs i ≡ Some x → is x ≡ false) → map seen_of xs ≡ closed id (map seen_of xs)
  closed_none [] h = refl
  closed_none (x ∷ xs) h =
      ap (λ l. seen_of x ∷ l) (closed_none xs (λ i y at. h (suc i) y at))
      ∙ sym (ap (λ b. cond (not b) (seen_of x ∷ closed id (map seen_of xs)) (closed id (map seen_of xs))) (h 0 x refl))

  pub closed_one : (xs : List Session) (i : ℕ) (s : Session) → slice_get xs i ≡ Some s → is s ≡ true → AllPairs DifferInNumber (map seen_of xs) → map seen_of (remove xs i) ≡ closed id (map seen_of xs)
  closed_one [] i s at has pairs = cc
  closed_one (x ∷ xs) zero s at has pairs =
      let z : x ≡ s = cc in
      let here : is x ≡ true = ap is z ∙ has in
      closed_none xs (none_behind x xs here pairs) ∙ sym (ap (λ b. cond (not b) (seen_of x ∷ closed id (map seen_of xs)) (closed id (map seen_of xs))) here)
  closed_one (x ∷ xs) (suc i) s at has pairs =
      ap (λ l. seen_of x ∷ l) (closed_one xs i s at has (pairs_tail DifferInNumber (seen_of x) (map seen_of xs) pairs))
      ∙ sym (ap (λ b. cond (not b) (seen_of x ∷ closed id (map seen_of xs)) (closed id (map seen_of xs))) (not_before x xs i s at has pairs))

-- a session that was found
pub record IsFound (id : SessionId) (xs : List Session) (place : ℕ) (s : Session) : Type 0 where
  pub at : slice_get xs place ≡ Some s
  pub has : has_id id (seen_of s) ≡ true
  pub within : place < length xs

pub found : (id : SessionId) (xs : List Session) (place : ℕ) (s : Session) → Some place ≡ position (λ x. has_id id (seen_of x)) xs → s ≡ get_or xs place s → IsFound id xs place s
found id xs place s e is =
    let p = position-Some (λ x. has_id id (seen_of x)) xs place s (sym e) in
    record { at = slice_get-get_or xs place s p.0 ∙ ap Some (sym is); has = ap (λ x. has_id id (seen_of x)) is ∙ p.1; within = p.0 }

module _ (schema : List TableDef) where
  -- a transaction that ended conflicts with none
  pub apart_rest : (xs : List Session) (i : ℕ) (s t : Session) → slice_get xs i ≡ Some s → seen_of t ≡ at_rest (seen_of s) → AllPairs (AreApartPair schema) (map seen_of xs) → AllPairs (AreApartPair schema) (map seen_of (set xs i t))
  apart_rest xs i s t at now pairs =
      subst (AllPairs (AreApartPair schema)) (sym (seen_set xs i t))
      (subst (λ y. AllPairs (AreApartPair schema) (set (map seen_of xs) i y)) (sym now)
      (pairs_set (AreApartPair schema) (map seen_of xs) i (seen_of s) (at_rest (seen_of s)) (seen_got xs i s at)
      (λ y _. apart_none schema y.ops) (λ y _. apart_turned schema [] y.ops (apart_none schema y.ops)) pairs))

  pub numbers_set : (xs : List Session) (i : ℕ) (s t : Session) → slice_get xs i ≡ Some s → t.id ≡ s.id → AllPairs DifferInNumber (map seen_of xs) → AllPairs DifferInNumber (map seen_of (set xs i t))
  numbers_set xs i s t at same pairs =
      subst (AllPairs DifferInNumber) (sym (seen_set xs i t))
      (pairs_set DifferInNumber (map seen_of xs) i (seen_of s) (seen_of t) (seen_got xs i s at)
      (λ y n e. n (ap (λ d. d.0) (sym same) ∙ e)) (λ y n e. n (e ∙ ap (λ d. d.0) same)) pairs)

  pub labels_set : (xs : List Session) (i : ℕ) (s t : Session) → slice_get xs i ≡ Some s → t.label ≡ s.label → AllPairs DifferInLabel (map seen_of xs) → AllPairs DifferInLabel (map seen_of (set xs i t))
  labels_set xs i s t at same pairs =
      subst (AllPairs DifferInLabel) (sym (seen_set xs i t))
      (pairs_set DifferInLabel (map seen_of xs) i (seen_of s) (seen_of t) (seen_got xs i s at)
      (λ y n e. n (sym same ∙ e)) (λ y n e. n (e ∙ same)) pairs)

  -- the same operations
  pub apart_same : (xs : List Session) (i : ℕ) (s t : Session) → slice_get xs i ≡ Some s → (seen_of t).ops ≡ (seen_of s).ops → AllPairs (AreApartPair schema) (map seen_of xs) → AllPairs (AreApartPair schema) (map seen_of (set xs i t))
  apart_same xs i s t at same pairs =
      subst (AllPairs (AreApartPair schema)) (sym (seen_set xs i t))
      (pairs_set (AreApartPair schema) (map seen_of xs) i (seen_of s) (seen_of t) (seen_got xs i s at)
      (λ y r. subst (λ o. IsApart schema o y.ops) (sym same) r) (λ y r. subst (IsApart schema y.ops) (sym same) r) pairs)

  -- operations that meet no other session
  module _ (id : SessionId) (ops : List Op) where
    record Apart (a b : OpenSession) : Type 0 where
      conflict : IsApart schema a.ops b.ops
      number : DifferInNumber a b
      first : is_other (Some id) a ≡ true → IsApart schema ops a.ops
      second : is_other (Some id) b ≡ true → IsApart schema ops b.ops

    all_apart : (ys : List OpenSession) → AllPairs (AreApartPair schema) ys → AllPairs DifferInNumber ys → AreApart (Some id) schema ys ops → AllPairs Apart ys
    all_apart ys conflicts numbers free i j d lt within = record {
      conflict = conflicts i j d lt within;
      number = numbers i j d lt within;
      first = free i d (omega (arith, lt, within));
      second = free j d within;
    }

    pub apart_write : (xs : List Session) (i : ℕ) (s t : Session) → slice_get xs i ≡ Some s → has_id id (seen_of s) ≡ true → seen_of t ≡ with_ops ops (seen_of s) → AllPairs (AreApartPair schema) (map seen_of xs) → AllPairs DifferInNumber (map seen_of xs)
        → AreApart (Some id) schema (map seen_of xs) ops → AllPairs (AreApartPair schema) (map seen_of (set xs i t))
    apart_write xs i s t at has now conflicts numbers free =
        let new = with_ops ops (seen_of s) in
        let mine : is_other (Some id) new ≡ true → ⊥ = λ e. (let z : false ≡ true = ap not (sym has) ∙ e in cc) in
        let all = pairs_set Apart (map seen_of xs) i (seen_of s) new (seen_got xs i s at)
        (λ y r. record { conflict = apart_more schema (seen_of s).ops ops y.ops r.conflict (r.second (ap not (other id (seen_of s) y has r.number))); number = r.number; first = λ e. absurd (mine e); second = r.second })
        (λ y r. record {
          conflict = apart_turned schema ((seen_of s).ops ++ ops) y.ops (apart_more schema (seen_of s).ops ops y.ops (apart_turned schema y.ops (seen_of s).ops r.conflict) (r.first (ap not (back id (seen_of s) y has r.number))));
          number = r.number;
          first = r.first;
          second = λ e. absurd (mine e);
        })
        (all_apart (map seen_of xs) conflicts numbers free) in
        subst (AllPairs (AreApartPair schema)) (sym (seen_set xs i t)) (subst (λ y. AllPairs (AreApartPair schema) (set (map seen_of xs) i y)) (sym now) (λ a b d lt w. (all a b d lt w).conflict))

  pub pairs_removed : (R : OpenSession → OpenSession → Type 0) (xs : List Session) (i : ℕ) → i < length (map seen_of xs) → AllPairs R (map seen_of xs) → AllPairs R (map seen_of (remove xs i))
  pairs_removed R xs i lt pairs = subst (AllPairs R) (sym (seen_remove xs i)) (all_pairs_remove R (map seen_of xs) i lt pairs)

-- by what a call returned
pub on_ok_by : {A E P Q : Type 0} (r : Result A E) → OnOk r P → (P → Q) → OnOk r Q
on_ok_by (Ok x) h f = f h
on_ok_by (Err e) h f = h

pub on_err_by : {A E P Q : Type 0} (r : Result A E) → OnErr r P → (P → Q) → OnErr r Q
on_err_by (Ok x) h f = h
on_err_by (Err e) h f = f h

pub either_way : {A E P Q R : Type 0} (r : Result A E) → OnOk r P → OnErr r Q → (P → R) → (Q → R) → R
either_way (Ok x) p q f g = f p
either_way (Err e) p q f g = g q

-- a number that no session has
pub no_number : (n : ℕ) (xs : List Session) → list_any (λ x. nat_eq x.id.0 n) xs ≡ false → (i : ℕ) (x : Session) → slice_get xs i ≡ Some x → x.id.0 ≢ n
no_number n [] none i x at same = cc
no_number n (y ∷ xs) none zero x at same = let z : y ≡ x = cc in by (nat_eq y.id.0 n) refl none (eq-eqb y.id.0 n (ap (λ s. s.id.0) z ∙ same))
  where
    by : (b : Bool) → nat_eq y.id.0 n ≡ b → (b || list_any (λ x. nat_eq x.id.0 n) xs) ≡ false → nat_eq y.id.0 n ≡ true → ⊥
    by true e none is = let w : true ≡ false = none in cc
    by false e none is = let w : true ≡ false = sym is ∙ e in cc
no_number n (y ∷ xs) none (suc i) x at same = no_number n xs (by (nat_eq y.id.0 n) none) i x at same
  where
    by : (b : Bool) → (b || list_any (λ x. nat_eq x.id.0 n) xs) ≡ false → list_any (λ x. nat_eq x.id.0 n) xs ≡ false
    by true none = let w : true ≡ false = none in cc
    by false none = none

-- a label that no session has
pub no_label : (l : List ℕ) (xs : List Session) → list_any (λ x. has_label l (seen_of x)) xs ≡ false → (i : ℕ) (x : Session) → slice_get xs i ≡ Some x → x.label ≢ l
no_label l [] none i x at same = cc
no_label l (y ∷ xs) none zero x at same =
    let z : y ≡ x = cc in
    let has : has_label l (seen_of y) ≡ true = (bytes_eq-Decides y.label l).1 (ap (λ s. s.label) z ∙ same) in
    let w : true ≡ false = sym (ap (λ b. b || list_any (λ x. has_label l (seen_of x)) xs) has) ∙ none in
    cc
no_label l (y ∷ xs) none (suc i) x at same = no_label l xs (or_parts (has_label l (seen_of y)) (list_any (λ x. has_label l (seen_of x)) xs) none).1 i x at same

pub all_removed : {X : Type 0} (P : X → Type 0) (xs : List X) (i : ℕ) → All P xs → All P (remove xs i)
all_removed P [] zero all = all
all_removed P [] (suc i) all = all
all_removed P (x ∷ xs) zero all = All-tail P x xs all
all_removed P (x ∷ xs) (suc i) all = All-cons P x (remove xs i) (All-head P x xs all) (all_removed P xs i (All-tail P x xs all))

seen_push : (xs : List Session) (s : Session) → map seen_of (xs ++ s ∷ []) ≡ map seen_of xs ++ seen_of s ∷ []
seen_push [] s = refl
seen_push (x ∷ xs) s = ap (λ l. seen_of x ∷ l) (seen_push xs s)

-- a session that has written nothing, and has a number of its own
pub sound_push : (schema : List TableDef) (old new : Sessions) (s : Session) → new.open.items ≡ old.open.items ++ s ∷ [] → IsKept schema s → (seen_of s).ops ≡ [] → list_any (λ x. nat_eq x.id.0 s.id.0) old.open.items ≡ false → list_any (λ x. has_label s.label (seen_of x)) old.open.items ≡ false → AreSessions schema old → AreSessions schema new
sound_push schema old new s items kept none number free sound =
    let xs = old.open.items in
    let seen = ap (map seen_of) items ∙ seen_push xs s in
    record {
      kept = subst (All (IsKept schema)) (sym items) (All-push (IsKept schema) xs s sound.kept kept);
      apart = subst (AllPairs (AreApartPair schema)) (sym seen) (all_pairs_push (AreApartPair schema) (map seen_of xs) (seen_of s) sound.apart
          (λ k d lt. let y = get_or (map seen_of xs) k d in subst (IsApart schema y.ops) (sym none) (apart_turned schema [] y.ops (apart_none schema y.ops))));
      numbered = subst (AllPairs DifferInNumber) (sym seen) (all_pairs_push DifferInNumber (map seen_of xs) (seen_of s) sound.numbered
          (λ k d lt. let w = unseen xs k (get_or (map seen_of xs) k d) (slice_get-get_or (map seen_of xs) k d lt) in λ same. no_number s.id.0 xs number k w.0 w.1 (ap (λ y. y.id.0) w.2 ∙ same)));
      labelled = subst (AllPairs DifferInLabel) (sym seen) (all_pairs_push DifferInLabel (map seen_of xs) (seen_of s) sound.labelled
          (λ k d lt. let w = unseen xs k (get_or (map seen_of xs) k d) (slice_get-get_or (map seen_of xs) k d lt) in λ same. no_label s.label xs free k w.0 w.1 (ap (λ y. y.label) w.2 ∙ same)));
    }
  where
    unseen : (xs : List Session) (k : ℕ) (y : OpenSession) → slice_get (map seen_of xs) k ≡ Some y → (x : Session) × (slice_get xs k ≡ Some x) × (seen_of x ≡ y)
    unseen [] k y at = cc
    unseen (x ∷ xs) zero y at = (x, refl, (let z : seen_of x ≡ y = cc in z))
    unseen (x ∷ xs) (suc k) y at = unseen xs k y at

-- what a reader sees of the labels and numbers in use
pub label_seen : (label : List ℕ) (xs : List Session) → list_any (λ s. has_label label (seen_of s)) xs ≡ is_label_used label (map seen_of xs)
label_seen label xs = any_view seen_of (λ s. has_label label (seen_of s)) (has_label label) xs (λ x. refl)

pub opened : (old new : Sessions) (s : Session) (id : SessionId) (label : List ℕ) (level : ℕ) (durable : Bool) → new.open.items ≡ old.open.items ++ s ∷ [] → seen_of s ≡ begun id label level durable
    → list_any (λ x. nat_eq x.id.0 id.0) old.open.items ≡ false → list_any (λ x. has_label label (seen_of x)) old.open.items ≡ false → length old.open.items < 64
    → Opens (seen_all old) (seen_all new) id label level durable
opened old new s id label level durable items begins number free few = record {
  seen = ap (map seen_of) items ∙ seen_push old.open.items s ∙ ap (λ y. map seen_of old.open.items ++ y ∷ []) begins;
  number = sym (any_view seen_of (λ x. nat_eq x.id.0 id.0) (has_id id) old.open.items (λ x. refl)) ∙ number;
  free = sym (label_seen label old.open.items) ∙ free;
  few = (let long = length-map old.open.items seen_of in omega (arith, long, few));
}

pub limit_seen : (label : List ℕ) (xs : List Session) → 64 ≤ length xs → list_any (λ s. has_label label (seen_of s)) xs ≡ false → (64 ≤ length (map seen_of xs)) × (is_label_used label (map seen_of xs) ≡ false)
limit_seen label xs many free = (let long = length-map xs seen_of in omega (arith, long, many), sym (label_seen label xs) ∙ free)
