-- Operations that meet no session conflict with none.
use Rattle.std.proofs.Common.{◌≡◌, ℕ, zero, suc, Bool, true, false, cond, ◌||◌, ◌&&◌, Option, Some, None, List, [], ◌∷◌, ◌++◌, nat_eq, slice_get, get_or, refl, sym, ap, ◌∙◌, eq-eqb}
use Rattle.std.specs.List.{flat_map, list_any}
use Rattle.std.specs.Option.{option_or}
use Rattle.std.proofs.lemmas.Bool.{eqb-true, or_from, or_parts}
use Rattle.own_rows.specs.tier_base.specs.declared.number.SessionId.{SessionId}
use Rattle.own_rows.specs.table_defs.specs.declared.definition.TableDef.{TableDef}
use Rattle.own_rows.specs.indexed_rows.specs.Rows.{is_same}
use Rattle.own_rows.specs.indexed_rows.proofs.EntryLaws.{same_itself, same_values}
use Rattle.own_rows.specs.table_state.specs.declared.operation.Op.{Op}
use Rattle.own_rows.specs.table_state.specs.declared.footprint.RowKey.{RowKey}
use Rattle.own_rows.specs.table_state.specs.Footprints.{footprint_of, is_among, is_in, referred_by, same_row_key, written_by}
use Rattle.std.specs.List.{find}
use Rattle.std.specs.Option.{option_map}
use Rattle.std.proofs.lemmas.Option.{slice_get-get_or}
use Rattle.session_state.specs.Locks.{AreApart, IsApart, first_some, holder_by, holder_of, holds, is_other, keeper, met, writer, writes}
use Rattle.session_state.specs.Sessions.{OpenSession}
use Rattle.session_state.proofs.HoldingLaws.{among_append, footprint_more}

-- tests

same_answer : (x y : Bool) → (x ≡ true → y ≡ true) → (y ≡ true → x ≡ true) → x ≡ y
same_answer true y f g = sym (f refl)
same_answer false true f g = g refl
same_answer false false f g = refl

both_true : (a b : Bool) → (a && b) ≡ true → (a ≡ true) × (b ≡ true)
both_true true b e = (refl, e)
both_true false b e = cc

turned : (a b : RowKey) → same_row_key a b ≡ same_row_key b a
turned a b = same_answer (same_row_key a b) (same_row_key b a) (way a b) (way b a)
  where
    way : (a b : RowKey) → same_row_key a b ≡ true → same_row_key b a ≡ true
    way a b e =
        let parts = both_true (nat_eq a.table.0 b.table.0) (is_same a.key b.key) e in
        let table : nat_eq b.table.0 a.table.0 ≡ true = eq-eqb b.table.0 a.table.0 (sym (eqb-true a.table.0 b.table.0 parts.0)) in
        let key : is_same b.key a.key ≡ true = same_itself b.key a.key (sym (same_values a.key b.key parts.1)) in
        ap (λ x. x && is_same b.key a.key) table ∙ key

-- lists

module _ {A : Type 0} where
  pub any_false : (p : A → Bool) (xs : List A) → ((x : A) → p x ≡ false) → list_any p xs ≡ false
  any_false p [] h = refl
  any_false p (x ∷ xs) h = or_from (p x) (list_any p xs) (h x) (any_false p xs h)

  pub any_same : (p q : A → Bool) (xs : List A) → ((x : A) → p x ≡ q x) → list_any p xs ≡ list_any q xs
  any_same p q [] h = refl
  any_same p q (x ∷ xs) h = ap (λ b. b || list_any p xs) (h x) ∙ ap (λ b. q x || b) (any_same p q xs h)

  pub any_or : (p q : A → Bool) (xs : List A) → list_any (λ x. p x || q x) xs ≡ (list_any p xs || list_any q xs)
  any_or p q [] = refl
  any_or p q (x ∷ xs) = ap (λ b. (p x || q x) || b) (any_or p q xs) ∙ four (p x) (q x) (list_any p xs) (list_any q xs)
    where
      four : (a b c d : Bool) → ((a || b) || (c || d)) ≡ ((a || c) || (b || d))
      four true b c d = refl
      four false true true d = refl
      four false true false d = refl
      four false false c d = refl

  pub any_append : (p : A → Bool) (xs ys : List A) → list_any p xs ≡ false → list_any p ys ≡ false → list_any p (xs ++ ys) ≡ false
  any_append p [] ys e f = f
  any_append p (x ∷ xs) ys e f = let parts = or_parts (p x) (list_any p xs) e in or_from (p x) (list_any p (xs ++ ys)) parts.0 (any_append p xs ys parts.1 f)

  none_any : {B : Type 0} (f : A → Option B) (p : A → Bool) (xs : List A) → ((x : A) → f x ≡ None → p x ≡ false) → first_some f xs ≡ None → list_any p xs ≡ false
  none_any f p [] h e = refl
  none_any f p (x ∷ xs) h e = by (f x) refl e (none_any f p xs h)
    where
      by : (o : Option _) → f x ≡ o → option_or o (first_some f xs) ≡ None → (first_some f xs ≡ None → list_any p xs ≡ false) → list_any p (x ∷ xs) ≡ false
      by (Some y) is e rest = cc
      by None is e rest = or_from (p x) (list_any p xs) (h x is) (rest e)

swap : (xs ys : List RowKey) → list_any (is_among xs) ys ≡ list_any (is_among ys) xs
swap xs [] = sym (any_false (is_among []) xs (λ x. refl))
swap xs (y ∷ ys) =
    ap (λ b. b || list_any (is_among xs) ys) (any_same (same_row_key y) (λ x. same_row_key x y) xs (λ x. turned y x))
    ∙ ap (λ b. list_any (λ x. same_row_key x y) xs || b) (swap xs ys) ∙ sym (any_or (λ x. same_row_key x y) (is_among ys) xs)

-- sessions

none_found : {A : Type 0} (p : A → Bool) (xs : List A) (i : ℕ) (s : A) → slice_get xs i ≡ Some s → find p xs ≡ None → p s ≡ false
none_found p [] i s at e = cc
none_found p (x ∷ xs) i s at e = by (p x) refl e i at (λ j. none_found p xs j s)
  where
    by : (b : Bool) → p x ≡ b → cond b (Some x) (find p xs) ≡ None → (i : ℕ) → slice_get (x ∷ xs) i ≡ Some s → ((j : ℕ) → slice_get xs j ≡ Some s → find p xs ≡ None → p s ≡ false) → p s ≡ false
    by true is e i at rest = cc
    by false is e zero at rest = let same : x ≡ s = cc in ap p (sym same) ∙ is
    by false is e (suc i) at rest = rest i at e

no_number : {A B : Type 0} (f : A → B) (o : Option A) → option_map f o ≡ None → o ≡ None
no_number f None e = refl
no_number f (Some x) e = cc

off : (a b : Bool) → a ≡ true → (a && b) ≡ false → b ≡ false
off true b e f = f
off false b e f = cc

module _ (but : Option SessionId) (schema : List TableDef) (key : RowKey) where
  writer_none : (sessions : List OpenSession) (i : ℕ) (s : OpenSession) → slice_get sessions i ≡ Some s → is_other but s ≡ true → writer but schema sessions key ≡ None → writes schema key s ≡ false
  writer_none sessions i s at other e =
      off (is_other but s) (writes schema key s) other (none_found (λ s. is_other but s && writes schema key s) sessions i s at (no_number (λ s. s.id) (find (λ s. is_other but s && writes schema key s) sessions) e))

  keeper_none : (sessions : List OpenSession) (i : ℕ) (s : OpenSession) → slice_get sessions i ≡ Some s → is_other but s ≡ true → keeper but schema sessions key ≡ None → holds schema key s ≡ false
  keeper_none sessions i s at other e =
      off (is_other but s) (holds schema key s) other (none_found (λ s. is_other but s && holds schema key s) sessions i s at (no_number (λ s. s.id) (find (λ s. is_other but s && holds schema key s) sessions) e))

neither : {B : Type 0} (a b : Option B) → option_or a b ≡ None → (a ≡ None) × (b ≡ None)
neither (Some x) b e = cc
neither None b e = (refl, e)

apart_at : (but : Option SessionId) (schema : List TableDef) (sessions : List OpenSession) (ops : List Op) → holder_of but schema sessions ops ≡ None → (i : ℕ) (s : OpenSession) → slice_get sessions i ≡ Some s → is_other but s ≡ true → IsApart schema ops s.ops
apart_at but schema sessions ops free i s at other =
    let kept = all_written ops free in
    let named = all_named ops free in
    let half = or_parts_any (footprint_of schema ops).written kept in
    or_from (list_any (is_in (footprint_of schema s.ops)) (footprint_of schema ops).written) (list_any (is_in (footprint_of schema ops)) (footprint_of schema s.ops).written) kept
    (any_or (is_among (footprint_of schema ops).written) (is_among (footprint_of schema ops).referred) (footprint_of schema s.ops).written
    ∙ or_from (list_any (is_among (footprint_of schema ops).written) (footprint_of schema s.ops).written) (list_any (is_among (footprint_of schema ops).referred) (footprint_of schema s.ops).written)
    (swap (footprint_of schema ops).written (footprint_of schema s.ops).written ∙ half)
    (swap (footprint_of schema ops).referred (footprint_of schema s.ops).written ∙ named))
  where
    or_parts_any : (keys : List RowKey) → list_any (is_in (footprint_of schema s.ops)) keys ≡ false → list_any (is_among (footprint_of schema s.ops).written) keys ≡ false
    or_parts_any keys e = (or_parts (list_any (is_among (footprint_of schema s.ops).written) keys) (list_any (is_among (footprint_of schema s.ops).referred) keys) (sym (any_or (is_among (footprint_of schema s.ops).written) (is_among (footprint_of schema s.ops).referred) keys) ∙ e)).0

    all_written : (ops : List Op) → first_some (holder_by but schema sessions) ops ≡ None → list_any (is_in (footprint_of schema s.ops)) (flat_map (written_by schema) ops) ≡ false
    all_written [] e = refl
    all_written (op ∷ ops) e =
        let parts = neither (holder_by but schema sessions op) (first_some (holder_by but schema sessions) ops) e in
        let here = neither (first_some (met but schema sessions) (written_by schema op)) (first_some (writer but schema sessions) (referred_by schema op)) parts.0 in
        any_append (is_in (footprint_of schema s.ops)) (written_by schema op) (flat_map (written_by schema) ops)
        (none_any (met but schema sessions) (is_in (footprint_of schema s.ops)) (written_by schema op) (λ key none. keeper_none but schema key sessions i s at other (neither (writer but schema sessions key) (keeper but schema sessions key) none).1) here.0)
        (all_written ops parts.1)

    all_named : (ops : List Op) → first_some (holder_by but schema sessions) ops ≡ None → list_any (is_among (footprint_of schema s.ops).written) (flat_map (referred_by schema) ops) ≡ false
    all_named [] e = refl
    all_named (op ∷ ops) e =
        let parts = neither (holder_by but schema sessions op) (first_some (holder_by but schema sessions) ops) e in
        let here = neither (first_some (met but schema sessions) (written_by schema op)) (first_some (writer but schema sessions) (referred_by schema op)) parts.0 in
        any_append (is_among (footprint_of schema s.ops).written) (referred_by schema op) (flat_map (referred_by schema) ops)
        (none_any (writer but schema sessions) (is_among (footprint_of schema s.ops).written) (referred_by schema op) (λ key none. writer_none but schema key sessions i s at other none) here.1)
        (all_named ops parts.1)

-- where no session is met, the operations conflict with those of none
pub apart : (but : Option SessionId) (schema : List TableDef) (sessions : List OpenSession) (ops : List Op) → holder_of but schema sessions ops ≡ None → AreApart but schema sessions ops
apart but schema sessions ops free = λ k d within. apart_at but schema sessions ops free k (get_or sessions k d) (slice_get-get_or sessions k d within)

-- conflicts

or_turned : (a b : Bool) → (a || b) ≡ (b || a)
or_turned true true = refl
or_turned true false = refl
or_turned false true = refl
or_turned false false = refl

module _ (schema : List TableDef) where
  pub apart_turned : (ops others : List Op) → IsApart schema ops others → IsApart schema others ops
  apart_turned ops others e =
      or_turned (list_any (is_in (footprint_of schema ops)) (footprint_of schema others).written) (list_any (is_in (footprint_of schema others)) (footprint_of schema ops).written) ∙ e

  pub apart_none : (others : List Op) → IsApart schema [] others
  apart_none others = any_false (is_in (footprint_of schema [])) (footprint_of schema others).written (λ key. refl)

  pub apart_more : (ops more others : List Op) → IsApart schema ops others → IsApart schema more others → IsApart schema (ops ++ more) others
  apart_more ops more others e f =
      let first = or_parts (list_any (is_in (footprint_of schema others)) (footprint_of schema ops).written) (list_any (is_in (footprint_of schema ops)) (footprint_of schema others).written) e in
      let second = or_parts (list_any (is_in (footprint_of schema others)) (footprint_of schema more).written) (list_any (is_in (footprint_of schema more)) (footprint_of schema others).written) f in
      let print = footprint_more schema ops more in
      or_from (list_any (is_in (footprint_of schema others)) (footprint_of schema (ops ++ more)).written) (list_any (is_in (footprint_of schema (ops ++ more))) (footprint_of schema others).written)
      (ap (list_any (is_in (footprint_of schema others))) print.0 ∙ any_append (is_in (footprint_of schema others)) (footprint_of schema ops).written (footprint_of schema more).written first.0 second.0)
      (any_same (is_in (footprint_of schema (ops ++ more))) (λ key. is_in (footprint_of schema ops) key || is_in (footprint_of schema more) key) (footprint_of schema others).written both
      ∙ any_or (is_in (footprint_of schema ops)) (is_in (footprint_of schema more)) (footprint_of schema others).written
      ∙ or_from (list_any (is_in (footprint_of schema ops)) (footprint_of schema others).written) (list_any (is_in (footprint_of schema more)) (footprint_of schema others).written) first.1 second.1)
    where
      four : (a b c d : Bool) → ((a || b) || (c || d)) ≡ ((a || c) || (b || d))
      four true b c d = refl
      four false true true d = refl
      four false true false d = refl
      four false false c d = refl

      both : (key : RowKey) → is_in (footprint_of schema (ops ++ more)) key ≡ (is_in (footprint_of schema ops) key || is_in (footprint_of schema more) key)
      both key =
          let print = footprint_more schema ops more in
          ap (λ l. is_among l key || is_among (footprint_of schema (ops ++ more)).referred key) print.0
          ∙ ap (λ l. is_among ((footprint_of schema ops).written ++ (footprint_of schema more).written) key || is_among l key) print.1
          ∙ ap (λ b. b || is_among ((footprint_of schema ops).referred ++ (footprint_of schema more).referred) key) (among_append (footprint_of schema ops).written (footprint_of schema more).written key)
          ∙ ap (λ b. (is_among (footprint_of schema ops).written key || is_among (footprint_of schema more).written key) || b) (among_append (footprint_of schema ops).referred (footprint_of schema more).referred key)
          ∙ four (is_among (footprint_of schema ops).written key) (is_among (footprint_of schema more).written key) (is_among (footprint_of schema ops).referred key) (is_among (footprint_of schema more).referred key)
