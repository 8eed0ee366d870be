-- What a commit leaves of that each session's operations apply over the stored rows: no two sessions' conflict.
use Rattle.std.proofs.Common.{◌≡◌, ℕ, ◌<◌, ◌⊎◌, inl, inr, Bool, true, false, cond, Option, Some, None, is_some, List, [], ◌∷◌, All, length, map, get_or, slice_get, unwrap_or, refl, sym, ap, subst, ◌∙◌, arith}
use Rattle.std.specs.List.{AllPairs}
use Rattle.std.specs.Option.{option_and_then, option_map}
use Rattle.std.proofs.lemmas.Bool.{cases_lt}
use Rattle.std.proofs.lemmas.List.{length-map}
use Rattle.tier_base.specs.declared.number.SessionId.{SessionId}
use Rattle.table_defs.specs.declared.definition.TableDef.{TableDef}
use Rattle.indexed_rows.specs.Rows.{Table}
use Rattle.indexed_rows.proofs.EntryLaws.{all_at, mapped_at, read, there}
use Rattle.table_state.specs.declared.operation.Op.{Op}
use Rattle.table_state.specs.Footprints.{footprint_of}
use Rattle.table_state.specs.Operations.{applied, applied_all, table_of}
use Rattle.table_state.specs.Tables.{TableState}
use Rattle.table_state.specs.Keyed.{IsKeyed}
use Rattle.table_state.proofs.KeyedLaws.{ops_keyed}
use Rattle.instances.specs.Views.{kept_at}
use Rattle.own_rows.specs.OwnTables.{AreShown}
use Rattle.session_state.specs.Locks.{IsApart}
use Rattle.session_state.specs.Sessions.{OpenSession, at_rest as rested, has_id}
use Rattle.session_state.proofs.MeetingLaws.{find_in}
use Rattle.open_sessions.specs.Lookups.{of_number, open_ops}
use Rattle.open_sessions.specs.Opening.{AreApartPair, on_session, seen_all}
use Rattle.order_laws.proofs.ChainLaws.{applies_as_before, lists_parted, turn}
use Rattle.order_laws.proofs.PairLaws.{apart_of}
use Rattle.order_laws.proofs.TruthLaws.{both_true, never_both}
use Rattle.group_catalog.specs.Catalogs.{groups_in}
use Rattle.group_store.specs.Shown.{AreHoused, kept_rows, shown_by}
use Rattle.group_store.specs.Stores.{Kept, op_done}
use Rattle.group_store.specs.declared.directory.Home.{Home}
use Rattle.group_store.proofs.HomeLaws.{its_home}
use Rattle.cache_tier.specs.Groups.{Group}
use Rattle.tier_statements.specs.Judging.{AreSmall}
use Rattle.stored_tier.specs.declared.tier.Tier.{Tier as Stored}
use Rattle.session_engine.specs.Committing.{StoresCommit, are_housed, at_home, bare_all, home_in, ops_at}
use Rattle.stored_tier.specs.Stored.{AreApplied, AreKept, AreWhole, IsSound, IsVerified, rows_of}
use Rattle.session_engine.proofs.CommitPerformed.{commit_shown, kept_bare, shown_bare, whole_bare}
use Rattle.session_engine.proofs.OpStores.{kept_home, op_shown, whole_home}
use Rattle.stored_tier.proofs.SoundParts.{housed_exchanged}
use Rattle.stored_tier.proofs.VerifyLaws.{verified_by}

-- operations that apply, on tables that stores keep

some_home : (o : Option Home) → is_some o ≡ true → (home : Home) × (Some home ≡ o)
some_home None e = cc
some_home (Some home) e = (home, refl)

kept_there : (schema : List TableDef) (stores : List Kept) (directory : List (Option Home)) (op : Op) → AreHoused schema stores directory → is_some (home_in directory op) ≡ true → (m : Table) × (kept_rows stores (table_of op) ≡ Some m)
kept_there schema stores directory op housed some =
    let home = some_home (home_in directory op) some in
    let at = its_home schema stores directory housed (table_of op) home.0 home.1 in
    (kept_at at.store.tables home.0.place, at.rows)

pub ops_housed : (schema : List TableDef) (groups : List Group) (directory : List (Option Home)) (ops : List Op) (stores : List Kept) (n : TableState) → AreHoused schema stores directory → AreKept schema groups stores → AreWhole stores → are_housed directory ops ≡ true
    → applied_all ops (shown_by schema stores) ≡ Some n → shown_by schema (ops_at directory ops stores) ≡ n
ops_housed schema groups directory [] stores n housed are whole homes e = cc
ops_housed schema groups directory (op ∷ ops) stores n housed are whole homes e =
    by (applied op (shown_by schema stores)) refl e
    (λ here. ops_housed schema groups directory ops next n (housed_exchanged schema groups stores next directory housed are are_then) are_then (whole_home op (home_in directory op) stores whole) parts.1 here)
  where
    parts : (is_some (home_in directory op) ≡ true) × (are_housed directory ops ≡ true)
    parts = both_true (is_some (home_in directory op)) (are_housed directory ops) homes

    next : List Kept
    next = at_home (home_in directory op) (op_done op) stores

    are_then : AreKept schema groups next
    are_then = kept_home schema op (home_in directory op) groups stores are

    by : (o : Option TableState) → applied op (shown_by schema stores) ≡ o → option_and_then (applied_all ops) o ≡ Some n → (applied_all ops (shown_by schema next) ≡ Some n → shown_by schema (ops_at directory ops next) ≡ n)
        → shown_by schema (ops_at directory ops next) ≡ n
    by None one h rest = cc
    by (Some mid) one h rest =
        let k = kept_there schema stores directory op housed parts.0 in
        let here = op_shown schema groups stores directory op mid k.0 housed are whole k.1 one in
        rest (ap (applied_all ops) here ∙ h)

-- two sessions' operations

pair_at : (schema : List TableDef) (xs : List OpenSession) (i k : ℕ) (x y : OpenSession) → AllPairs (AreApartPair schema) xs → slice_get xs i ≡ Some x → slice_get xs k ≡ Some y → i < k → IsApart schema x.ops y.ops
pair_at schema xs i k x y pairs at there_k lt =
    let a = read xs i x x at in
    let b = read xs k y x there_k in
    subst (λ (z : OpenSession). IsApart schema z.ops y.ops) a.1 (subst (λ (z : OpenSession). IsApart schema (get_or xs i x).ops z.ops) b.1 (pairs i k x lt b.0))

applies_then : (own other : List Op) (s n : TableState) → (IsApart s.schema own other) ⊎ (IsApart s.schema other own) → applied_all own s ≡ Some n → is_some (applied_all other s) ≡ true → is_some (applied_all other n) ≡ true
applies_then own other s n (inl apart) is some =
    applies_as_before (applied_all own) (applied_all other) s n
    (turn (applied_all other) (applied_all own) s (lists_parted own other s (apart_of (footprint_of s.schema own) (footprint_of s.schema other) apart))) is
    ∙ some
applies_then own other s n (inr apart) is some =
    applies_as_before (applied_all own) (applied_all other) s n
    (lists_parted other own s (apart_of (footprint_of s.schema other) (footprint_of s.schema own) apart)) is
    ∙ some

-- the session of a number has it
has_it : (id : SessionId) (xs : List OpenSession) (x : OpenSession) → of_number id xs ≡ Some x → has_id id x ≡ true
has_it id [] x e = cc
has_it id (y ∷ xs) x e = by (has_id id y) refl e (has_it id xs x)
  where
    by : (b : Bool) → has_id id y ≡ b → cond b (Some y) (of_number id xs) ≡ Some x → (of_number id xs ≡ Some x → has_id id x ≡ true) → has_id id x ≡ true
    by true has h rest = let same : y ≡ x = cc in ap (has_id id) (sym same) ∙ has
    by false has h rest = rest h

-- what a state becomes by the operations of a session
pub record Taken (own : List Op) (s : TableState) : Type 0 where
  pub then_ : TableState
  pub leads : applied_all own s ≡ Some then_

some_state : (own : List Op) (s : TableState) (o : Option TableState) → applied_all own s ≡ o → is_some o ≡ true → Taken own s
some_state own s None e some = cc
some_state own s (Some n) e some = record { then_ = n; leads = e }

abbrev Lies : TableState → OpenSession → Type 0
Lies s x = AreShown x.ops s

abbrev Applies : TableState → OpenSession → Type 0
Applies n x = is_some (applied_all x.ops n) ≡ true

abbrev ends : SessionId → OpenSession → OpenSession
ends id x = cond (has_id id x) (rested x) x

module _ (xs : List OpenSession) (id : SessionId) (s : TableState) (all : All (Lies s) xs) (pairs : AllPairs (AreApartPair s.schema) xs) where
  pub taken : Taken (open_ops id xs) s
  taken = by (of_number id xs) refl
    where
      by : (o : Option OpenSession) → of_number id xs ≡ o → Taken (unwrap_or (option_map (λ (x : OpenSession). x.ops) o) []) s
      by None e = record { then_ = s; leads = refl }
      by (Some x) e =
          let at = find_in (has_id id) xs x e in
          some_state x.ops s (applied_all x.ops s) refl (all_at (Lies s) xs at.0 x all at.1).applies

  one : (n : TableState) → applied_all (open_ops id xs) s ≡ Some n → (k : ℕ) (y : OpenSession) → slice_get xs k ≡ Some y → (b : Bool) → has_id id y ≡ b → Applies n (cond b (rested y) y)
  one n leads k y at true has = refl
  one n leads k y at false has = by (of_number id xs) refl leads
    where
      lies : is_some (applied_all y.ops s) ≡ true
      lies = (all_at (Lies s) xs k y all at).applies

      apart : (i : ℕ) (x : OpenSession) → slice_get xs i ≡ Some x → has_id id x ≡ true → (IsApart s.schema x.ops y.ops) ⊎ (IsApart s.schema y.ops x.ops)
      apart i x there_i its = elim (cases_lt i k) [
        | inl less ↦ inl (pair_at s.schema xs i k x y pairs there_i at less)
        | inr more ↦ elim (cases_lt k i) [
          | inl less ↦ inr (pair_at s.schema xs k i y x pairs at there_i less)
          | inr other ↦ absurd (clash (omega (arith, more, other)))
        ]
      ]
        where
          clash : i ≡ k → ⊥
          clash same =
              let both : Some x ≡ Some y = sym there_i ∙ ap (slice_get xs) same ∙ at in
              let it : x ≡ y = cc in
              never_both (has_id id y) (ap (has_id id) (sym it) ∙ its) has

      by : (o : Option OpenSession) → of_number id xs ≡ o → applied_all (unwrap_or (option_map (λ (x : OpenSession). x.ops) o) []) s ≡ Some n → Applies n y
      by None e is = let same : s ≡ n = cc in ap (λ z. is_some (applied_all y.ops z)) (sym same) ∙ lies
      by (Some x) e is =
          let i = find_in (has_id id) xs x e in
          applies_then x.ops y.ops s n (apart i.0 x i.1 (has_it id xs x e)) is lies

  pub all_then : (n : TableState) → applied_all (open_ops id xs) s ≡ Some n → All (Applies n) (on_session id rested xs)
  all_then n leads k d lt =
      let within : k < length xs = (let e = length-map xs (ends id) in omega arith) in
      let x = there xs k within in
      let at = read (map (ends id) xs) k (ends id x.0) d (mapped_at (ends id) xs k x.0 x.1) in
      subst (Applies n) (sym at.1) (one n leads k x.0 x.1 (has_id id x.0) refl)

-- behind a commit

pub applied_behind : (t new : Stored) (id : SessionId) → IsSound t → t.verified ≡ true → are_housed t.directory (open_ops id (seen_all t.sessions)) ≡ true → new.schema ≡ t.schema
    → StoresCommit t (open_ops id (seen_all t.sessions)) new.stores.items → seen_all new.sessions ≡ on_session id rested (seen_all t.sessions) → AreApplied new
applied_behind t new id sound noted homes schema commit seen = record {
  keyed = subst IsKeyed (sym rows) (ops_keyed own (rows_of t) become.then_ become.leads is.rows.keyed);
  own = subst (All (Applies (rows_of new))) (sym seen) (subst (λ z. All (Applies z) (on_session id rested (seen_all t.sessions))) (sym rows)
      (all_then (seen_all t.sessions) id (rows_of t) is.own sound.sessions.apart become.then_ become.leads));
}
  where
    own : List Op
    own = open_ops id (seen_all t.sessions)

    is : IsVerified t
    is = sound.verified noted

    become : Taken own (rows_of t)
    become = taken (seen_all t.sessions) id (rows_of t) is.own sound.sessions.apart

    bare_are : AreKept t.schema (groups_in t.catalog) (bare_all t.stores.items)
    bare_are = kept_bare t.schema (groups_in t.catalog) t.stores.items sound.kept

    rows : rows_of new ≡ become.then_
    rows =
        ap (λ defs. shown_by defs new.stores.items) schema ∙ commit_shown t.schema t own new.stores.items commit
        ∙ ops_housed t.schema (groups_in t.catalog) t.directory own (bare_all t.stores.items) become.then_
        (housed_exchanged t.schema (groups_in t.catalog) t.stores.items (bare_all t.stores.items) t.directory sound.stores sound.kept bare_are)
        bare_are (whole_bare t.stores.items sound.whole) homes (ap (applied_all own) (shown_bare t.schema t.stores.items) ∙ become.leads)

-- and where the tables are small
pub small_verified : (t : Stored) (s : TableState) → s ≡ rows_of t → AreApplied t → AreSmall s → IsVerified t
small_verified t s same is small = verified_by t is.keyed (subst AreSmall same small) (seen_all t.sessions) refl is.own
