-- Operations that go behind a session's own, over the stored rows.
use Rattle.std.proofs.Common.{◌≡◌, ◌<◌, ℕ, Bool, true, false, cond, Option, Some, None, is_some, List, [], ◌++◌, All, length, map, slice_get, unwrap_or, refl, sym, ap, subst, ◌∙◌, arith, eqb-true}
use Rattle.std.specs.List.{AllPairs}
use Rattle.std.specs.Option.{option_and_then, option_map}
use Rattle.std.proofs.lemmas.List.{length-map}
use Rattle.tier_base.specs.declared.number.SessionId.{SessionId}
use Rattle.indexed_rows.proofs.EntryLaws.{all_at, mapped_at, read, there}
use Rattle.table_state.specs.declared.operation.Op.{Op}
use Rattle.table_state.specs.Operations.{applied_all}
use Rattle.table_state.specs.Refusals.{broken_by_all}
use Rattle.table_state.specs.Tables.{TableState}
use Rattle.table_state.proofs.HistoryLaws.{applied_all-append}
use Rattle.own_rows.specs.OwnTables.{AreShown}
use Rattle.session_state.specs.Sessions.{OpenSession, has_id, with_ops}
use Rattle.open_sessions.specs.declared.sessions.Sessions.{Sessions}
use Rattle.open_sessions.specs.Lookups.{open_ops}
use Rattle.open_sessions.specs.Opening.{DifferInNumber, on_session, seen_all}
use Rattle.open_sessions.proofs.LookupLaws.{number_found as at_number}
use Rattle.stored_tier.specs.declared.tier.Tier.{Tier as Stored}
use Rattle.session_engine.specs.Changing.{IsUnbroken}
use Rattle.stored_tier.specs.Stored.{IsSound, IsVerified, rows_of}
use Rattle.stored_tier.proofs.SessionLaws.{OwnLies}
use Rattle.stored_tier.proofs.VerifyLaws.{all_apply}

-- with more behind those that apply
more_lies : (own ops : List Op) (rows : TableState) → AreShown own rows → ((st : TableState) → applied_all own rows ≡ Some st → broken_by_all ops st ≡ None) → AreShown (own ++ ops) rows
more_lies own ops rows lies unbroken = record {
  applies = by (applied_all own rows) refl lies.applies;
  whole = lies.whole;
  keyed = lies.keyed;
  small = lies.small;
}
  where
    by : (o : Option TableState) → applied_all own rows ≡ o → is_some o ≡ true → is_some (applied_all (own ++ ops) rows) ≡ true
    by None is some = cc
    by (Some st) is some =
        ap is_some (applied_all-append own ops rows ∙ ap (option_and_then (applied_all ops)) is) ∙ all_apply ops st (unbroken st is)

-- the session of a number
its_ops : (xs : List OpenSession) (id : SessionId) (i : ℕ) (x : OpenSession) → AllPairs DifferInNumber xs → slice_get xs i ≡ Some x → has_id id x ≡ true → open_ops id xs ≡ x.ops
its_ops xs id i x apart at has =
    let same : x.id ≡ id = ap (λ n. record { 0 = n }) (eqb-true x.id.0 id.0 has) in
    ap (λ n. open_ops n xs) (sym same) ∙ ap (λ o. unwrap_or (option_map (λ (s : OpenSession). s.ops) o) []) (at_number xs i x at apart)

abbrev held : SessionId → List Op → OpenSession → OpenSession
held id ops s = cond (has_id id s) (with_ops ops s) s

pub own_held : (t : Stored) (new : Sessions) (id : SessionId) (ops : List Op) → IsSound t → IsUnbroken t id ops → seen_all new ≡ on_session id (with_ops ops) (seen_all t.sessions) → IsVerified t → All (OwnLies t) (seen_all new)
own_held t new id ops sound unbroken seen is = subst (All (OwnLies t)) (sym seen) each
  where
    one : (i : ℕ) (x : OpenSession) → slice_get (seen_all t.sessions) i ≡ Some x → (b : Bool) → has_id id x ≡ b → AreShown x.ops (rows_of t) → OwnLies t (cond b (with_ops ops x) x)
    one i x at false has lies = lies
    one i x at true has lies =
        more_lies x.ops ops (rows_of t) lies
        (λ st applied. unbroken st (ap (λ own. applied_all own (rows_of t)) (its_ops (seen_all t.sessions) id i x sound.sessions.numbered at has) ∙ applied))

    each : All (OwnLies t) (map (held id ops) (seen_all t.sessions))
    each k d lt =
        let within : k < length (seen_all t.sessions) = (let e = length-map (seen_all t.sessions) (held id ops) in omega arith) in
        let x = there (seen_all t.sessions) k within in
        let at = read (map (held id ops) (seen_all t.sessions)) k (held id ops x.0) d (mapped_at (held id ops) (seen_all t.sessions) k x.0 x.1) in
        subst (OwnLies t) (sym at.1)
        (one k x.0 x.1 (has_id id x.0) refl (all_at (OwnLies t) (seen_all t.sessions) k x.0 is.own x.1))
