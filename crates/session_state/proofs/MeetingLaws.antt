-- The session that operations meet, as one of the others.
use Rattle.std.proofs.Common.{◌≡◌, ℕ, zero, suc, Bool, true, false, cond, ◌&&◌, Option, Some, None, List, [], ◌∷◌, slice_get, refl, sym, ap, ◌∙◌}
use Rattle.std.specs.List.{filter, find}
use Rattle.std.specs.Option.{option_map, option_or}
use Rattle.own_rows.specs.tier_base.specs.declared.number.SessionId.{SessionId}
use Rattle.own_rows.specs.table_defs.specs.declared.definition.TableDef.{TableDef}
use Rattle.own_rows.specs.table_state.specs.declared.footprint.RowKey.{RowKey}
use Rattle.own_rows.specs.table_state.specs.declared.operation.Op.{Op}
use Rattle.own_rows.specs.table_state.specs.Footprints.{referred_by, written_by}
use Rattle.session_state.specs.Locks.{first_some, holder_by, holder_of, holds, is_other, keeper, met, writer, writes}
use Rattle.session_state.specs.Meeting.{blocker_of, blocker_at, blocker_by}
use Rattle.session_state.specs.Sessions.{OpenSession}

find_filter : {A : Type 0} (p q : A → Bool) (xs : List A) → find (λ x. p x && q x) xs ≡ find q (filter p xs)
find_filter p q [] = refl
find_filter p q (x ∷ xs) = by (p x) (find_filter p q xs)
  where
    by : (b : Bool) → find (λ y. p y && q y) xs ≡ find q (filter p xs) → cond (b && q x) (Some x) (find (λ y. p y && q y) xs) ≡ find q (cond b (x ∷ filter p xs) (filter p xs))
    by true rest = ap (cond (q x) (Some x)) rest
    by false rest = rest

map_or : {A B : Type 0} (f : A → B) (a b : Option A) → option_map f (option_or a b) ≡ option_or (option_map f a) (option_map f b)
map_or f None b = refl
map_or f (Some x) b = refl

first_map : {A B C : Type 0} (f : B → C) (g : A → Option B) (h : A → Option C) → ((x : A) → h x ≡ option_map f (g x)) → (xs : List A) → first_some h xs ≡ option_map f (first_some g xs)
first_map f g h same [] = refl
first_map f g h same (x ∷ xs) =
    ap (λ o. option_or o (first_some h xs)) (same x) ∙ ap (option_or (option_map f (g x))) (first_map f g h same xs)
    ∙ sym (map_or f (g x) (first_some g xs))

module _ (but : Option SessionId) (schema : List TableDef) (sessions : List OpenSession) where
  writer_one : (key : RowKey) → writer but schema sessions key ≡ option_map (λ s. s.id) (find (writes schema key) (filter (is_other but) sessions))
  writer_one key = ap (option_map (λ s. s.id)) (find_filter (is_other but) (writes schema key) sessions)

  keeper_one : (key : RowKey) → keeper but schema sessions key ≡ option_map (λ s. s.id) (find (holds schema key) (filter (is_other but) sessions))
  keeper_one key = ap (option_map (λ s. s.id)) (find_filter (is_other but) (holds schema key) sessions)

  met_one : (key : RowKey) → met but schema sessions key ≡ option_map (λ s. s.id) (blocker_at schema (filter (is_other but) sessions) key)
  met_one key =
      ap (λ o. option_or o (keeper but schema sessions key)) (writer_one key)
      ∙ ap (option_or (option_map (λ s. s.id) (find (writes schema key) (filter (is_other but) sessions)))) (keeper_one key)
      ∙ sym (map_or (λ (s : OpenSession). s.id) (find (writes schema key) (filter (is_other but) sessions)) (find (holds schema key) (filter (is_other but) sessions)))

  op_one : (op : Op) → holder_by but schema sessions op ≡ option_map (λ s. s.id) (blocker_by schema (filter (is_other but) sessions) op)
  op_one op =
      let os = filter (is_other but) sessions in
      let w = first_map (λ (s : OpenSession). s.id) (blocker_at schema os) (met but schema sessions) met_one (written_by schema op) in
      let r = first_map (λ (s : OpenSession). s.id) (λ key. find (writes schema key) os) (writer but schema sessions) writer_one (referred_by schema op) in
      ap (λ o. option_or o (first_some (writer but schema sessions) (referred_by schema op))) w
      ∙ ap (option_or (option_map (λ s. s.id) (first_some (blocker_at schema os) (written_by schema op)))) r
      ∙ sym (map_or (λ (s : OpenSession). s.id) (first_some (blocker_at schema os) (written_by schema op)) (first_some (λ key. find (writes schema key) os) (referred_by schema op)))

  pub holder_is : (ops : List Op) → holder_of but schema sessions ops ≡ option_map (λ s. s.id) (blocker_of schema (filter (is_other but) sessions) ops)
  holder_is ops = first_map (λ (s : OpenSession). s.id) (blocker_by schema (filter (is_other but) sessions)) (holder_by but schema sessions) op_one ops

-- who is met is one of those that may stop them

abbrev pub IsIn : {A : Type 0} → List A → A → Type 0
IsIn xs x = (i : ℕ) × (slice_get xs i ≡ Some x)

pub find_in : {A : Type 0} (p : A → Bool) (xs : List A) (x : A) → find p xs ≡ Some x → IsIn xs x
find_in p [] x e = cc
find_in p (y ∷ xs) x e = by (p y) e (find_in p xs x)
  where
    by : (b : Bool) → cond b (Some y) (find p xs) ≡ Some x → (find p xs ≡ Some x → IsIn xs x) → IsIn (y ∷ xs) x
    by true e rest = (0, e)
    by false e rest = let r = rest e in (suc r.0, r.1)

pub filter_in : {A : Type 0} (p : A → Bool) (xs : List A) (x : A) → IsIn (filter p xs) x → IsIn xs x
filter_in p [] x e = e
filter_in p (y ∷ xs) x e = by (p y) e (filter_in p xs x)
  where
    by : (b : Bool) → IsIn (cond b (y ∷ filter p xs) (filter p xs)) x → (IsIn (filter p xs) x → IsIn xs x) → IsIn (y ∷ xs) x
    by true (zero, e) rest = (0, e)
    by true (suc i, e) rest = let r = rest (i, e) in (suc r.0, r.1)
    by false e rest = let r = rest e in (suc r.0, r.1)

or_from_one : {A : Type 0} (P : A → Type 0) (a b : Option A) (x : A) → option_or a b ≡ Some x → (a ≡ Some x → P x) → (b ≡ Some x → P x) → P x
or_from_one P (Some y) b x e left right = left e
or_from_one P None b x e left right = right e

first_from_one : {A B : Type 0} (P : B → Type 0) (f : A → Option B) (xs : List A) (y : B) → ((x : A) → f x ≡ Some y → P y) → first_some f xs ≡ Some y → P y
first_from_one P f [] y one e = cc
first_from_one P f (x ∷ xs) y one e = or_from_one P (f x) (first_some f xs) y e (one x) (first_from_one P f xs y one)

pub blocker_in : (schema : List TableDef) (others : List OpenSession) (ops : List Op) (s : OpenSession) → blocker_of schema others ops ≡ Some s → IsIn others s
blocker_in schema others ops s e =
    first_from_one (IsIn others) (blocker_by schema others) ops s
    (λ op f. or_from_one (IsIn others) (first_some (blocker_at schema others) (written_by schema op)) (first_some (λ key. find (writes schema key) others) (referred_by schema op)) s f
    (first_from_one (IsIn others) (blocker_at schema others) (written_by schema op) s
    (λ key g. or_from_one (IsIn others) (find (writes schema key) others) (find (holds schema key) others) s g (find_in (writes schema key) others s) (find_in (holds schema key) others s)))
    (first_from_one (IsIn others) (λ key. find (writes schema key) others) (referred_by schema op) s (λ key. find_in (writes schema key) others s)))
    e
