-- Laws of lists that are kept up to a limit.
use Rattle.std.proofs.Common.{◌≡◌, ℕ, zero, suc, ◌+◌, ◌<◌, ◌≤◌, min, nat_lt, cond, Bool, true, false, Some, Result, Ok, Err, OnOk, List, [], ◌∷◌, ◌++◌, length, take, slice_get, refl, sym, ap, subst, ◌∙◌, arith, append_assoc}
use Rattle.std.specs.List.{filter, flat_map}
use Rattle.std.proofs.lemmas.Bool.{ltb-true, ltb-false, le-ltb, lt-ltb}
use Rattle.std.proofs.lemmas.Grind.{flat_map-append}
use Rattle.std.proofs.lemmas.List.{length-append, length-take, take_all, take-append-le}
use Rattle.std.proofs.lemmas.List.Elements.{filter-append}
use Rattle.table_state.specs.indexed_rows.proofs.CopyLaws.{take_at}
use Rattle.evaluator.specs.declared.capped.Capped.{Capped}
use Rattle.evaluator.specs.Capping.{extended, folded, put}

pub folded-append : {S X : Type 0} (f : S → X → S) (s : S) (xs ys : List X) → folded f s (xs ++ ys) ≡ folded f (folded f s xs) ys
folded-append f s [] ys = refl
folded-append f s (x ∷ xs) ys = folded-append f (f s x) xs ys

pub extended-append : {A : Type 0} (c : Capped A) (xs ys : List A) → extended c (xs ++ ys) ≡ extended (extended c xs) ys
extended-append c xs ys = folded-append put c xs ys

pub append-none : {A : Type 0} (xs : List A) → xs ++ [] ≡ xs
append-none [] = refl
append-none (x ∷ xs) = ap (λ l. x ∷ l) (append-none xs)

module _ {X Y : Type 0} (f : X → List Y) where
  pub one_more : (xs : List X) (i : ℕ) (x : X) → slice_get xs i ≡ Some x → flat_map f (take (i + 1) xs) ≡ flat_map f (take i xs) ++ f x
  one_more xs i x at = ap (flat_map f) (take_at xs i x at) ∙ flat_map-append f (take i xs) (x ∷ []) ∙ ap (λ l. flat_map f (take i xs) ++ l) (append-none (f x))

  -- what an element adds
  pub extended_more : (xs : List X) (i : ℕ) (x : X) (start old new : Capped Y) → slice_get xs i ≡ Some x → old ≡ extended start (flat_map f (take i xs)) → new ≡ extended old (f x) → new ≡ extended start (flat_map f (take (i + 1) xs))
  extended_more xs i x start old new at so_far step =
      step ∙ ap (λ c. extended c (f x)) so_far ∙ sym (extended-append start (flat_map f (take i xs)) (f x)) ∙ ap (extended start) (sym (one_more xs i x at))

  module _ (p : X → Bool) (xs : List X) (i : ℕ) (x : X) (at : slice_get xs i ≡ Some x) where
    passed : filter p (take (i + 1) xs) ≡ filter p (take i xs) ++ filter p (x ∷ [])
    passed = ap (filter p) (take_at xs i x at) ∙ filter-append p (take i xs) (x ∷ [])

    -- what an element that passes the test adds
    pub taken : (start old new : Capped Y) → p x ≡ true → old ≡ extended start (flat_map f (filter p (take i xs))) → new ≡ extended old (f x) → new ≡ extended start (flat_map f (filter p (take (i + 1) xs)))
    taken start old new passes so_far step =
        let kept : filter p (x ∷ []) ≡ x ∷ [] = rw passes refl in
        let more : flat_map f (filter p (take (i + 1) xs)) ≡ flat_map f (filter p (take i xs)) ++ f x =
        ap (flat_map f) (passed ∙ ap (λ l. filter p (take i xs) ++ l) kept) ∙ flat_map-append f (filter p (take i xs)) (x ∷ []) ∙ ap (λ l. flat_map f (filter p (take i xs)) ++ l) (append-none (f x)) in
        step ∙ ap (λ c. extended c (f x)) so_far ∙ sym (extended-append start (flat_map f (filter p (take i xs))) (f x)) ∙ ap (extended start) (sym more)

    -- another adds nothing
    pub skipped : (start old new : Capped Y) → p x ≡ false → old ≡ extended start (flat_map f (filter p (take i xs))) → new ≡ old → new ≡ extended start (flat_map f (filter p (take (i + 1) xs)))
    skipped start old new fails so_far same =
        let kept : filter p (x ∷ []) ≡ [] = rw fails refl in
        same ∙ so_far ∙ ap (λ l. extended start (flat_map f l)) (sym (passed ∙ ap (λ l. filter p (take i xs) ++ l) kept ∙ append-none (filter p (take i xs))))

-- what follows in the good case
pub on_ok : {T E : Type 0} (r : Result T E) (P Q : Type 0) → (P → Q) → OnOk r P → OnOk r Q
on_ok (Ok x) P Q f p = f p
on_ok (Err e) P Q f p = p

-- a list that was kept from its beginning
pub record Keeps {A : Type 0} (c : Capped A) (room : ℕ) (xs : List A) : Type 0 where
  pub room_is : c.room ≡ room
  pub kept_is : c.kept ≡ take room xs
  pub over_is : c.over ≡ nat_lt room (length xs)

module _ {A : Type 0} (c : Capped A) (room : ℕ) (xs : List A) (x : A) (k : Keeps c room xs) where
  size : length c.kept ≡ min room (length xs)
  size = ap length k.kept_is ∙ length-take room xs

  longer : length (xs ++ x ∷ []) ≡ length xs + 1
  longer = length-append xs (x ∷ [])

  with_room : nat_lt (length c.kept) c.room ≡ true → Keeps (record c { kept = c.kept ++ x ∷ [] }) room (xs ++ x ∷ [])
  with_room e =
      let below : length c.kept < c.room = ltb-true _ _ e in
      let fits : length xs < room = omega (arith, below, size, k.room_is) in
      let fits_more : length (xs ++ x ∷ []) ≤ room = omega (arith, fits, longer) in
      let fits_now : length xs ≤ room = omega (arith, fits) in
      record {
        room_is = k.room_is;
        kept_is = ap (λ l. l ++ x ∷ []) (k.kept_is ∙ take_all room xs fits_now) ∙ sym (take_all room (xs ++ x ∷ []) fits_more);
        over_is = k.over_is ∙ le-ltb _ _ fits_now ∙ sym (le-ltb _ _ fits_more);
      }

  without_room : nat_lt (length c.kept) c.room ≡ false → Keeps (record c { over = true }) room (xs ++ x ∷ [])
  without_room e =
      let above : c.room ≤ length c.kept = ltb-false _ _ e in
      let full : room ≤ length xs = omega (arith, above, size, k.room_is) in
      let fuller : room < length (xs ++ x ∷ []) = omega (arith, full, longer) in
      record { room_is = k.room_is; kept_is = k.kept_is ∙ sym (take-append-le room xs (x ∷ []) full); over_is = sym (lt-ltb _ _ fuller) }

  keeps_one : Keeps (put c x) room (xs ++ x ∷ [])
  keeps_one =
      elim (nat_lt (length c.kept) c.room) as (λ b. nat_lt (length c.kept) c.room ≡ b → Keeps (cond b (record c { kept = c.kept ++ x ∷ [] }) (record c { over = true })) room (xs ++ x ∷ [])) [
        | true ↦ with_room
        | false ↦ without_room
      ] refl

keeps_all : {A : Type 0} (room : ℕ) (c : Capped A) (xs ys : List A) → Keeps c room xs → Keeps (extended c ys) room (xs ++ ys)
keeps_all room c xs [] k = subst (Keeps c room) (sym (append-none xs)) k
keeps_all room c xs (y ∷ ys) k = subst (Keeps (extended (put c y) ys) room) (append_assoc xs (y ∷ []) ys) (keeps_all room (put c y) (xs ++ y ∷ []) ys (keeps_one c room xs y k))

-- the first elements of the list, and whether there are more
pub keeps : {A : Type 0} (room : ℕ) (xs : List A) → Keeps (extended (record { kept = []; room = room; over = false }) xs) room xs
keeps room xs = keeps_all room (record { kept = []; room = room; over = false }) [] xs (record { room_is = refl; kept_is = sym (nothing room); over_is = sym (le-ltb room 0 (omega arith)) })
  where
    nothing : {A : Type 0} (n : ℕ) → take {A = A} n [] ≡ []
    nothing zero = refl
    nothing (suc n) = refl

-- all of a list that is not too long
pub kept_whole : {A : Type 0} (room : ℕ) (xs : List A) (out : Capped A) → out ≡ extended (record { kept = []; room = room; over = false }) xs → out.over ≡ false → out.kept ≡ xs
kept_whole room xs out is within =
    let k = keeps room xs in
    let over : nat_lt room (length xs) ≡ false = sym k.over_is ∙ ap (λ c. c.over) (sym is) ∙ within in
    ap (λ c. c.kept) is ∙ k.kept_is ∙ take_all room xs (ltb-false _ _ over)

pub kept_over : {A : Type 0} (room : ℕ) (xs : List A) (out : Capped A) → out ≡ extended (record { kept = []; room = room; over = false }) xs → nat_lt room (length xs) ≡ out.over
kept_over room xs out is = sym (keeps room xs).over_is ∙ ap (λ c. c.over) (sym is)
