-- The session whose lock is met, as the tier's reader sees it.
use Rattle.std.proofs.Common.{◌≡◌, ℕ, zero, suc, Bool, true, false, not, Option, Some, None, List, [], ◌∷◌, map, cond, nat_eq, refl, sym, ap, subst, ◌∙◌, arith}
use Rattle.std.specs.List.{AllPairs, filter, find}
use Rattle.std.specs.Option.{option_map, option_or}
use Rattle.std.proofs.lemmas.Bool.{ne_eqb}
use Rattle.std.proofs.lemmas.List.Elements.{All-head, All-tail}
use Rattle.std.proofs.lemmas.Option.{get_or_from_slice_get, slice_get_within}
use Rattle.tier_base.specs.declared.number.SessionId.{SessionId}
use Rattle.table_defs.specs.declared.definition.TableDef.{TableDef}
use Rattle.table_state.specs.declared.footprint.RowKey.{RowKey}
use Rattle.table_state.specs.declared.operation.Op.{Op}
use Rattle.table_state.specs.Footprints.{referred_by, written_by}
use Rattle.session_state.specs.declared.session.Session.{Session as StoredSession}
use Rattle.session_state.specs.Kept.{seen_of}
use Rattle.session_state.specs.Locks.{first_some, holder_of, holds, is_other, writes}
use Rattle.session_state.specs.Meeting.{blocker_at, blocker_by, blocker_of}
use Rattle.session_state.specs.Sessions.{OpenSession, has_id}
use Rattle.session_state.proofs.ListLaws.{find_view, pairs_head, pairs_tail}
use Rattle.session_state.proofs.MeetingLaws.{IsIn, blocker_in, filter_in, holder_is}
use Rattle.cache_tier.specs.Locks as lock
use Rattle.cache_tier.specs.Locks.{first_of_all, has_written, lock_fault, locked_by, op_lock, parent_lock, written_lock}
use Rattle.cache_tier.specs.TierStates.{Tier, is_labelled}
use Rattle.tier_statements.specs.Seen.{DifferInNumber, HasSessions, IsNumberOf, session_seen}

or_map : {A B : Type 0} (f : A → B) (a b : Option A) → option_or (option_map f a) (option_map f b) ≡ option_map f (option_or a b)
or_map f None b = refl
or_map f (Some x) b = refl

first_all : {A B C : Type 0} (f : B → C) (g : A → Option B) (h : A → Option C) → ((x : A) → h x ≡ option_map f (g x)) → (xs : List A) → first_of_all h xs ≡ option_map f (first_some g xs)
first_all f g h same [] = refl
first_all f g h same (x ∷ xs) =
    ap (λ o. option_or o (first_of_all h xs)) (same x) ∙ ap (option_or (option_map f (g x))) (first_all f g h same xs)
    ∙ or_map f (g x) (first_some g xs)

module _ (schema : List TableDef) (xs : List OpenSession) where
  one_written : (key : RowKey) → find (has_written schema key) (map session_seen xs) ≡ option_map session_seen (find (writes schema key) xs)
  one_written key = sym (find_view session_seen (writes schema key) (has_written schema key) xs (λ k d within. refl))

  one_holds : (key : RowKey) → find (lock.holds schema key) (map session_seen xs) ≡ option_map session_seen (find (holds schema key) xs)
  one_holds key = sym (find_view session_seen (holds schema key) (lock.holds schema key) xs (λ k d within. refl))

  at_key : (key : RowKey) → written_lock schema (map session_seen xs) key ≡ option_map session_seen (blocker_at schema xs key)
  at_key key =
      ap (λ o. option_or o (find (lock.holds schema key) (map session_seen xs))) (one_written key)
      ∙ ap (option_or (option_map session_seen (find (writes schema key) xs))) (one_holds key)
      ∙ or_map session_seen (find (writes schema key) xs) (find (holds schema key) xs)

  by_op : (op : Op) → op_lock schema (map session_seen xs) op ≡ option_map session_seen (blocker_by schema xs op)
  by_op op =
      ap (λ o. option_or o (first_of_all (parent_lock schema (map session_seen xs)) (referred_by schema op)))
      (first_all session_seen (blocker_at schema xs) (written_lock schema (map session_seen xs)) at_key (written_by schema op))
      ∙ ap (option_or (option_map session_seen (first_some (blocker_at schema xs) (written_by schema op))))
      (first_all session_seen (λ key. find (writes schema key) xs) (parent_lock schema (map session_seen xs)) one_written (referred_by schema op))
      ∙ or_map session_seen (first_some (blocker_at schema xs) (written_by schema op)) (first_some (λ key. find (writes schema key) xs) (referred_by schema op))

  by_ops : (ops : List Op) → first_of_all (op_lock schema (map session_seen xs)) ops ≡ option_map session_seen (blocker_of schema xs ops)
  by_ops ops = first_all session_seen (blocker_by schema xs) (op_lock schema (map session_seen xs)) by_op ops

-- the others by label are the others by number
others_are : (id : SessionId) (label : List ℕ) (xs : List OpenSession) → IsNumberOf id label xs
    → filter (λ s. not (is_labelled label s)) (map session_seen xs) ≡ map session_seen (filter (is_other (Some id)) xs)
others_are id label [] are = refl
others_are id label (x ∷ xs) are =
    by (has_id id x) (is_labelled label (session_seen x)) (All-head (λ s. has_id id s ≡ is_labelled label (session_seen s)) x xs are)
    (others_are id label xs (All-tail (λ s. has_id id s ≡ is_labelled label (session_seen s)) x xs are))
  where
    Rest : Type 0
    Rest = filter (λ s. not (is_labelled label s)) (map session_seen xs) ≡ map session_seen (filter (is_other (Some id)) xs)

    by : (a b : Bool) → a ≡ b → filter (λ s. not (is_labelled label s)) (map session_seen xs) ≡ map session_seen (filter (is_other (Some id)) xs)
        → cond (not b) (session_seen x ∷ filter (λ s. not (is_labelled label s)) (map session_seen xs)) (filter (λ s. not (is_labelled label s)) (map session_seen xs))
        ≡ map session_seen (cond (not a) (x ∷ filter (is_other (Some id)) xs) (filter (is_other (Some id)) xs))
    by true true e rest = rest
    by false false e rest = ap (λ l. session_seen x ∷ l) rest
    by true false e rest = cc
    by false true e rest = cc

-- 111 tells the label of the session that is met
pub lock_is : (t : Tier) (label : List ℕ) (id : SessionId) (schema : List TableDef) (xs : List OpenSession) (ops : List Op) → HasSessions schema xs t → IsNumberOf id label xs
    → lock_fault label t ops ≡ option_map (λ s. locked_by (session_seen s)) (blocker_of schema (filter (is_other (Some id)) xs) ops)
lock_is t label id schema xs ops has are =
    ap (λ l. option_map locked_by (first_of_all (op_lock t.schema (filter (λ s. not (is_labelled label s)) l)) ops)) has.open_sessions
    ∙ ap (λ l. option_map locked_by (first_of_all (op_lock l (filter (λ s. not (is_labelled label s)) (map session_seen xs))) ops)) has.definitions
    ∙ ap (λ l. option_map locked_by (first_of_all (op_lock schema l) ops)) (others_are id label xs are)
    ∙ ap (option_map locked_by) (by_ops schema (filter (is_other (Some id)) xs) ops)
    ∙ twice (blocker_of schema (filter (is_other (Some id)) xs) ops)
  where
    twice : (o : Option OpenSession) → option_map locked_by (option_map session_seen o) ≡ option_map (λ s. locked_by (session_seen s)) o
    twice None = refl
    twice (Some s) = refl

-- a session is found by its number
found_by : (xs : List OpenSession) (s : OpenSession) → AllPairs DifferInNumber xs → IsIn xs s → find (has_id s.id) xs ≡ Some s
found_by [] s pairs there = cc
found_by (x ∷ xs) s pairs (zero, e) = let same : x ≡ s = cc in ap (λ b. cond b (Some x) (find (has_id s.id) xs)) (is_it x s same) ∙ ap Some same
  where
    is_it : (x s : OpenSession) → x ≡ s → nat_eq x.id.0 s.id.0 ≡ true
    is_it x s e = grind (arith, e)
found_by (x ∷ xs) s pairs (suc i, e) =
    let within = slice_get_within xs i s e in
    let differ : DifferInNumber x s = subst (DifferInNumber x) (get_or_from_slice_get xs i s s e) (pairs_head DifferInNumber x xs pairs i s within) in
    ap (λ b. cond b (Some x) (find (has_id s.id) xs)) (ne_eqb x.id.0 s.id.0 differ)
    ∙ found_by xs s (pairs_tail DifferInNumber x xs pairs) (i, e)

-- what is found by the number that is met
module _ (id found : SessionId) (schema : List TableDef) (sessions : List StoredSession) (ops : List Op) (numbered : AllPairs DifferInNumber (map seen_of sessions))
    (is : Some found ≡ holder_of (Some id) schema (map seen_of sessions) ops) where
  xs : List OpenSession
  xs = map seen_of sessions

  met : (s : OpenSession) × (blocker_of schema (filter (is_other (Some id)) (map seen_of sessions)) ops ≡ Some s) × (s.id ≡ found)
  met = by (blocker_of schema (filter (is_other (Some id)) (map seen_of sessions)) ops) (is ∙ holder_is (Some id) schema (map seen_of sessions) ops)
    where
      by : (o : Option OpenSession) → Some found ≡ option_map (λ s. s.id) o → (s : OpenSession) × (o ≡ Some s) × (s.id ≡ found)
      by None e = cc
      by (Some s) e = let same : s.id ≡ found = cc in (s, refl, same)

  is_found : find (has_id found) (map seen_of sessions) ≡ Some met.0
  is_found =
      ap (λ n. find (has_id n) (map seen_of sessions)) (sym met.2)
      ∙ found_by (map seen_of sessions) met.0 numbered
      (filter_in (is_other (Some id)) (map seen_of sessions) met.0 (blocker_in schema (filter (is_other (Some id)) (map seen_of sessions)) ops met.0 met.1))

  stored : option_map seen_of (find (λ s. has_id found (seen_of s)) sessions) ≡ Some met.0
  stored = find_view seen_of (λ s. has_id found (seen_of s)) (has_id found) sessions (λ k d within. refl) ∙ is_found

  pub not_missing : None ≡ find (λ s. has_id found (seen_of s)) sessions → ⊥
  not_missing none = let e = stored in let f = ap (option_map seen_of) none in cc

  pub told : (session : StoredSession) → Some session ≡ find (λ s. has_id found (seen_of s)) sessions → (t : Tier) (label : List ℕ) → HasSessions schema (map seen_of sessions) t
      → IsNumberOf id label (map seen_of sessions) → lock_fault label t ops ≡ Some (locked_by (session_seen (seen_of session)))
  told session at t label has are =
      let same : Some (seen_of session) ≡ Some met.0 = ap (option_map seen_of) at ∙ stored in
      lock_is t label id schema (map seen_of sessions) ops has are
      ∙ ap (option_map (λ s. locked_by (session_seen s))) (met.1 ∙ sym same)

-- no session is met
pub none_met : (id : SessionId) (schema : List TableDef) (xs : List OpenSession) (ops : List Op) → None ≡ holder_of (Some id) schema xs ops → (t : Tier) (label : List ℕ) → HasSessions schema xs t
    → IsNumberOf id label xs → lock_fault label t ops ≡ None
none_met id schema xs ops none t label has are =
    lock_is t label id schema xs ops has are ∙ by (blocker_of schema (filter (is_other (Some id)) xs) ops) (none ∙ holder_is (Some id) schema xs ops)
  where
    by : (o : Option OpenSession) → None ≡ option_map (λ s. s.id) o → option_map (λ s. locked_by (session_seen s)) o ≡ None
    by None e = refl
    by (Some s) e = cc
