-- Laws of the row locks.
use Rattle.std.proofs.Common.{◌≡◌, ℕ, ◌+◌, ◌<◌, Bool, false, ◌&&◌, ◌||◌, drop, get_or, length, map, Option, Some, None, is_some, List, [], ◌∷◌, ◌++◌, slice_get, unwrap_or, refl, sym, ap, ◌∙◌}
use Rattle.std.specs.Option.{option_map, option_or}
use Rattle.std.specs.List.{All, find, flat_map}
use Rattle.std.proofs.lemmas.List.{at_drop_more}
use Rattle.std.proofs.lemmas.List.Elements.{All-weaker}
use Rattle.own_rows.specs.table_state.specs.declared.footprint.RowKey.{RowKey}
use Rattle.std.specs.FinMap.{contains_key, empty, get-empty}
use Rattle.own_rows.specs.row_types.specs.declared.value.Value.{Value}
use Rattle.own_rows.specs.row_types.specs.Order.{key_order}
use Rattle.own_rows.specs.tier_base.specs.declared.number.TableId.{TableId}
use Rattle.own_rows.specs.tier_base.specs.declared.number.SessionId.{SessionId}
use Rattle.own_rows.specs.table_defs.specs.declared.definition.TableDef.{TableDef}
use Rattle.own_rows.specs.table_state.specs.declared.operation.Op.{Op}
use Rattle.own_rows.specs.table_state.specs.declared.operation.Op.TheVariants.{Insert, Update, Delete}
use Rattle.own_rows.specs.table_state.specs.Operations.{table_of}
use Rattle.own_rows.specs.table_state.specs.Footprints.{referred_key, written_key}
use Rattle.own_rows.specs.indexed_rows.specs.Rows.{Table}
use Rattle.session_state.specs.declared.session.Session.{Session}
use Rattle.session_state.specs.Holding.{is_held}
use Rattle.session_state.specs.Kept.{IsKept, seen_of}
use Rattle.session_state.specs.Locks.{first_some, holder_by, holds, is_other, keeper, met, writer, writes}
use Rattle.session_state.proofs.ListLaws.{find_view}
use Rattle.session_state.specs.Sessions.{OpenSession}

pub no_keys : (o : Option Table) (key : List Value) → None ≡ o → false ≡ contains_key (unwrap_or o empty) key
no_keys o key e = ap is_some (sym (get-empty key_order key)) ∙ ap (λ z. contains_key (unwrap_or z empty) key) e

pub some_keys : (o : Option Table) (m : Table) (key : List Value) (b : Bool) → Some m ≡ o → b ≡ contains_key m key → b ≡ contains_key (unwrap_or o empty) key
some_keys o m key b e is = is ∙ ap (λ z. contains_key (unwrap_or z empty) key) e

pub or_none : {B : Type 0} (x : Option B) → option_or x None ≡ x
or_none None = refl
or_none (Some x) = refl

or_assoc : {B : Type 0} (x y z : Option B) → option_or (option_or x y) z ≡ option_or x (option_or y z)
or_assoc None y z = refl
or_assoc (Some x) y z = refl

first_append : {A B : Type 0} (f : A → Option B) (xs ys : List A) → first_some f (xs ++ ys) ≡ option_or (first_some f xs) (first_some f ys)
first_append f [] ys = refl
first_append f (x ∷ xs) ys = ap (option_or (f x)) (first_append f xs ys) ∙ sym (or_assoc (f x) (first_some f xs) (first_some f ys))

first_one : {A B X : Type 0} (f : A → Option B) (g : X → List A) (x : X) → first_some f (flat_map g (x ∷ [])) ≡ first_some f (g x)
first_one f g x = first_append f (g x) (flat_map g []) ∙ or_none (first_some f (g x))

first_two : {A B X : Type 0} (f : A → Option B) (g : X → List A) (x y : X) → first_some f (flat_map g (x ∷ y ∷ [])) ≡ option_or (first_some f (g x)) (first_some f (g y))
first_two f g x y = first_append f (g x) (flat_map g (y ∷ [])) ∙ ap (option_or (first_some f (g x))) (first_one f g y)

module _ (but : Option SessionId) (schema : List TableDef) (sessions : List OpenSession) (op : Op) (table : TableId) (def : Option TableDef) (table_is : table ≡ table_of op) (def_is : def ≡ slice_get schema table.0) where
  here : slice_get schema (table_of op).0 ≡ def
  here = ap (λ (t : TableId). slice_get schema t.0) (sym table_is) ∙ sym def_is

  -- an operation with one row
  one : (row : List Value) (a b e : Option SessionId) → a ≡ first_some (met but schema sessions) (written_key table def row) → b ≡ first_some (writer but schema sessions) (referred_key def row) → e ≡ option_or a b
      → e ≡ option_or (first_some (met but schema sessions) (flat_map (written_key (table_of op) (slice_get schema (table_of op).0)) (row ∷ []))) (first_some (writer but schema sessions) (flat_map (referred_key (slice_get schema (table_of op).0)) (row ∷ [])))
  one row a b e a_is b_is e_is =
      let w : first_some (met but schema sessions) (flat_map (written_key (table_of op) (slice_get schema (table_of op).0)) (row ∷ [])) ≡ a =
      first_one (met but schema sessions) (written_key (table_of op) (slice_get schema (table_of op).0)) row ∙ ap (λ d. first_some (met but schema sessions) (written_key (table_of op) d row)) here ∙ ap (λ t. first_some (met but schema sessions) (written_key t def row)) (sym table_is) ∙ sym a_is in
      let r : first_some (writer but schema sessions) (flat_map (referred_key (slice_get schema (table_of op).0)) (row ∷ [])) ≡ b =
      first_one (writer but schema sessions) (referred_key (slice_get schema (table_of op).0)) row ∙ ap (λ d. first_some (writer but schema sessions) (referred_key d row)) here ∙ sym b_is in
      e_is ∙ ap (λ z. option_or z b) (sym w) ∙ ap (option_or (first_some (met but schema sessions) (flat_map (written_key (table_of op) (slice_get schema (table_of op).0)) (row ∷ [])))) (sym r)

  two : (old new : List Value) (a b c d p q e : Option SessionId) → a ≡ first_some (met but schema sessions) (written_key table def old) → b ≡ first_some (met but schema sessions) (written_key table def new) → p ≡ option_or a b
      → c ≡ first_some (writer but schema sessions) (referred_key def old) → d ≡ first_some (writer but schema sessions) (referred_key def new) → q ≡ option_or c d → e ≡ option_or p q
      → e ≡ option_or (first_some (met but schema sessions) (flat_map (written_key (table_of op) (slice_get schema (table_of op).0)) (old ∷ new ∷ []))) (first_some (writer but schema sessions) (flat_map (referred_key (slice_get schema (table_of op).0)) (old ∷ new ∷ [])))
  two old new a b c d p q e a_is b_is p_is c_is d_is q_is e_is =
      let wf = λ (row : List Value). ap (λ z. first_some (met but schema sessions) (written_key (table_of op) z row)) here ∙ ap (λ t. first_some (met but schema sessions) (written_key t def row)) (sym table_is) in
      let rf = λ (row : List Value). ap (λ z. first_some (writer but schema sessions) (referred_key z row)) here in
      let w : first_some (met but schema sessions) (flat_map (written_key (table_of op) (slice_get schema (table_of op).0)) (old ∷ new ∷ [])) ≡ p =
      first_two (met but schema sessions) (written_key (table_of op) (slice_get schema (table_of op).0)) old new
      ∙ ap (λ z. option_or z (first_some (met but schema sessions) (written_key (table_of op) (slice_get schema (table_of op).0) new))) (wf old ∙ sym a_is) ∙ ap (option_or a) (wf new ∙ sym b_is) ∙ sym p_is in
      let r : first_some (writer but schema sessions) (flat_map (referred_key (slice_get schema (table_of op).0)) (old ∷ new ∷ [])) ≡ q =
      first_two (writer but schema sessions) (referred_key (slice_get schema (table_of op).0)) old new
      ∙ ap (λ z. option_or z (first_some (writer but schema sessions) (referred_key (slice_get schema (table_of op).0) new))) (rf old ∙ sym c_is) ∙ ap (option_or c) (rf new ∙ sym d_is) ∙ sym q_is in
      e_is ∙ ap (λ z. option_or z q) (sym w) ∙ ap (option_or (first_some (met but schema sessions) (flat_map (written_key (table_of op) (slice_get schema (table_of op).0)) (old ∷ new ∷ [])))) (sym r)

  pub of_insert : (t : TableId) (row : List Value) (a b e : Option SessionId) → op ≡ Insert t row → a ≡ first_some (met but schema sessions) (written_key table def row) → b ≡ first_some (writer but schema sessions) (referred_key def row) → e ≡ option_or a b → e ≡ holder_by but schema sessions op
  of_insert t row a b e is a_is b_is e_is = one row a b e a_is b_is e_is ∙ turn op is
    where
      turn : (o : Op) → o ≡ Insert t row → option_or (first_some (met but schema sessions) (flat_map (written_key (table_of o) (slice_get schema (table_of o).0)) (row ∷ []))) (first_some (writer but schema sessions) (flat_map (referred_key (slice_get schema (table_of o).0)) (row ∷ []))) ≡ holder_by but schema sessions o
      turn (Insert u r) h = let same : r ≡ row = cc in ap (λ z. option_or (first_some (met but schema sessions) (flat_map (written_key u (slice_get schema u.0)) (z ∷ []))) (first_some (writer but schema sessions) (flat_map (referred_key (slice_get schema u.0)) (z ∷ [])))) (sym same)
      turn (Update u o n) h = cc
      turn (Delete u r) h = cc

  pub of_delete : (t : TableId) (row : List Value) (a b e : Option SessionId) → op ≡ Delete t row → a ≡ first_some (met but schema sessions) (written_key table def row) → b ≡ first_some (writer but schema sessions) (referred_key def row) → e ≡ option_or a b → e ≡ holder_by but schema sessions op
  of_delete t row a b e is a_is b_is e_is = one row a b e a_is b_is e_is ∙ turn op is
    where
      turn : (o : Op) → o ≡ Delete t row → option_or (first_some (met but schema sessions) (flat_map (written_key (table_of o) (slice_get schema (table_of o).0)) (row ∷ []))) (first_some (writer but schema sessions) (flat_map (referred_key (slice_get schema (table_of o).0)) (row ∷ []))) ≡ holder_by but schema sessions o
      turn (Delete u r) h = let same : r ≡ row = cc in ap (λ z. option_or (first_some (met but schema sessions) (flat_map (written_key u (slice_get schema u.0)) (z ∷ []))) (first_some (writer but schema sessions) (flat_map (referred_key (slice_get schema u.0)) (z ∷ [])))) (sym same)
      turn (Update u o n) h = cc
      turn (Insert u r) h = cc

  pub of_update : (t : TableId) (old new : List Value) (a b c d p q e : Option SessionId) → op ≡ Update t old new → a ≡ first_some (met but schema sessions) (written_key table def old) → b ≡ first_some (met but schema sessions) (written_key table def new) → p ≡ option_or a b
      → c ≡ first_some (writer but schema sessions) (referred_key def old) → d ≡ first_some (writer but schema sessions) (referred_key def new) → q ≡ option_or c d → e ≡ option_or p q → e ≡ holder_by but schema sessions op
  of_update t old new a b c d p q e is a_is b_is p_is c_is d_is q_is e_is = two old new a b c d p q e a_is b_is p_is c_is d_is q_is e_is ∙ turn op is
    where
      turn : (o : Op) → o ≡ Update t old new → option_or (first_some (met but schema sessions) (flat_map (written_key (table_of o) (slice_get schema (table_of o).0)) (old ∷ new ∷ []))) (first_some (writer but schema sessions) (flat_map (referred_key (slice_get schema (table_of o).0)) (old ∷ new ∷ []))) ≡ holder_by but schema sessions o
      turn (Update u x y) h =
          let first : x ≡ old = cc in let second : y ≡ new = cc in
          ap (λ z. option_or (first_some (met but schema sessions) (flat_map (written_key u (slice_get schema u.0)) (z ∷ new ∷ []))) (first_some (writer but schema sessions) (flat_map (referred_key (slice_get schema u.0)) (z ∷ new ∷ [])))) (sym first)
          ∙ ap (λ z. option_or (first_some (met but schema sessions) (flat_map (written_key u (slice_get schema u.0)) (x ∷ z ∷ []))) (first_some (writer but schema sessions) (flat_map (referred_key (slice_get schema u.0)) (x ∷ z ∷ [])))) (sym second)
      turn (Insert u r) h = cc
      turn (Delete u r) h = cc

-- who is found among the stored sessions is who is found among what a reader sees of them

module _ (schema : List TableDef) (but : Option SessionId) (key : RowKey) (sessions : List Session) (kept : All (IsKept schema) sessions) where
  numbered : (o : Option Session) → option_map (λ s. s.id) o ≡ option_map (λ s. s.id) (option_map seen_of o)
  numbered None = refl
  numbered (Some s) = refl

  pub writer_is : (o : Option Session) → o ≡ find (λ s. is_other but (seen_of s) && is_held s.written key) sessions → option_map (λ s. s.id) o ≡ writer but schema (map seen_of sessions) key
  writer_is o is =
      numbered o
      ∙ ap (λ x. option_map (λ s. s.id) (option_map seen_of x)) is
      ∙ ap (option_map (λ s. s.id)) (find_view seen_of (λ s. is_other but (seen_of s) && is_held s.written key) (λ s. is_other but s && writes schema key s) sessions
      (All-weaker (IsKept schema) (λ s. (is_other but (seen_of s) && is_held s.written key) ≡ (is_other but (seen_of s) && writes schema key (seen_of s))) (λ s k. ap (λ b. is_other but (seen_of s) && b) (k.written key.table key.key)) sessions kept))

  pub keeper_is : (o : Option Session) → o ≡ find (λ s. is_other but (seen_of s) && (is_held s.written key || is_held s.referred key)) sessions → option_map (λ s. s.id) o ≡ keeper but schema (map seen_of sessions) key
  keeper_is o is =
      numbered o
      ∙ ap (λ x. option_map (λ s. s.id) (option_map seen_of x)) is
      ∙ ap (option_map (λ s. s.id)) (find_view seen_of (λ s. is_other but (seen_of s) && (is_held s.written key || is_held s.referred key)) (λ s. is_other but s && holds schema key s) sessions
      (All-weaker (IsKept schema) (λ s. (is_other but (seen_of s) && (is_held s.written key || is_held s.referred key)) ≡ (is_other but (seen_of s) && holds schema key (seen_of s)))
      (λ s k. ap (λ b. is_other but (seen_of s) && (b || is_held s.referred key)) (k.written key.table key.key) ∙ ap (λ b. is_other but (seen_of s) && (writes schema key (seen_of s) || b)) (k.referred key.table key.key)) sessions kept))

-- what the first of the operations that are left gives

module _ {A B : Type 0} (f : A → Option B) where
  pub first_left : (xs : List A) (i : ℕ) (x : A) → i < length xs → x ≡ get_or xs i x → None ≡ f x → first_some f (drop i xs) ≡ first_some f xs → first_some f (drop (i + 1) xs) ≡ first_some f xs
  first_left xs i x lt item none so =
      let step : first_some f (drop i xs) ≡ option_or (f (get_or xs i x)) (first_some f (drop (i + 1) xs)) = at_drop_more (first_some f) xs i x lt in
      ap (λ o. option_or o (first_some f (drop (i + 1) xs))) (none ∙ ap f item) ∙ sym step ∙ so

  pub first_here : (xs : List A) (i : ℕ) (x : A) (y : B) → i < length xs → x ≡ get_or xs i x → Some y ≡ f x → first_some f (drop i xs) ≡ first_some f xs → Some y ≡ first_some f xs
  first_here xs i x y lt item some so =
      let step : first_some f (drop i xs) ≡ option_or (f (get_or xs i x)) (first_some f (drop (i + 1) xs)) = at_drop_more (first_some f) xs i x lt in
      ap (λ o. option_or o (first_some f (drop (i + 1) xs))) (some ∙ ap f item) ∙ sym step ∙ so
