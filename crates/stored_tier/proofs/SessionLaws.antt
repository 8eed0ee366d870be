-- What is stored behind a change of the open sessions alone.
use Rattle.std.proofs.Common.{◌≡◌, ◌≤◌, ℕ, Bool, true, false, not, cond, Option, Some, None, Ok, Err, List, [], ◌∷◌, ◌++◌, All, length, map, filter, find, refl, sym, ap, ◌∙◌, subst}
use Rattle.std.specs.List.{list_any}
use Rattle.std.specs.Option.{option_map, option_or}
use Rattle.std.proofs.lemmas.Bool.{le-leb, lt-leb}
use Rattle.std.proofs.lemmas.List.{length-map, map-append}
use Rattle.std.proofs.lemmas.List.Elements.{All-filter, All-push}
use Rattle.tier_base.specs.declared.code.Code.TheVariants as code
use Rattle.tier_base.specs.declared.limit.Limit.TheVariants as limit
use Rattle.tier_base.specs.declared.number.SessionId.{SessionId}
use Rattle.row_types.specs.declared.rule.Rule.{Rule}
use Rattle.row_types.specs.declared.rule.Refused.TheVariants as refused
use Rattle.cache_tier.specs.Worlds.{Answer}
use Rattle.sql_subset.specs.declared.request.OpenOptions.{OpenOptions}
use Rattle.table_defs.specs.declared.definition.TableDef.{TableDef}
use Rattle.own_rows.specs.OwnTables.{AreShown}
use Rattle.session_state.specs.Sessions.{OpenSession, at_rest as rested, begun, has_id, with_flag}
use Rattle.open_sessions.specs.declared.sessions.Sessions.{Sessions}
use Rattle.open_sessions.specs.Lookups.{has_label, of_label}
use Rattle.open_sessions.specs.Opening.{AreSessions, Opens, closed, on_session, seen_all}
use Rattle.cache_tier.specs.Rules.{at_limit, broken_if, labelled, past}
use Rattle.cache_tier.specs.SessionSteps.{new_session, open_fault}
use Rattle.cache_tier.specs.TierStates.{Session, Tier, is_labelled}
use Rattle.stored_tier.specs.declared.tier.Tier.{Tier as Stored}
use Rattle.stored_tier.specs.Answering.{FindsSession, Replies}
use Rattle.stored_tier.specs.Stored.{HasSession, IsSound, IsStoredAs, IsVerified, rows_of}
use Rattle.tier_statements.specs.Seen.{session_seen}
use Rattle.stored_tier.proofs.SeenLaws.{all_changed, any_seen, changed_seen, find_seen, found_label, left_seen}

pub stored_behind : (t : Stored) (s : Sessions) (a : Tier) (ss : List Session) → IsStoredAs t a → ss ≡ map session_seen (seen_all s) → IsStoredAs (record t { sessions = s }) (record a { sessions = ss })
stored_behind t s a ss is same = record {
  schema = is.schema;
  stale = is.stale;
  groups = is.groups;
  lists = is.lists;
  sessions = same;
  unsettled = is.unsettled;
  next = is.next;
  doubt = is.doubt;
  time = is.time;
}

pub sound_behind : (t : Stored) (s : Sessions) → IsSound t → AreSessions t.schema s → (IsVerified t → All (λ x. AreShown x.ops (rows_of t)) (seen_all s)) → IsSound (record t { sessions = s })
sound_behind t s is sessions own = record {
  sessions = sessions;
  stores = is.stores;
  kept = is.kept;
  whole = is.whole;
  hiding = is.hiding;
  plain = is.plain;
  named = is.named;
  visible = is.visible;
  numbered = is.numbered;
  later = is.later;
  writers = is.writers;
  verified = λ noted. record { rows = (is.verified noted).rows; own = own (is.verified noted) };
}

-- OPEN

abbrev open_rule : List ℕ → Bool → ℕ → Option Rule
open_rule label any n = option_or (broken_if any (labelled code.NameInUse label)) (at_limit limit.Sessions n)

rule_seen : (t : Stored) (a : Tier) (label : List ℕ) → IsStoredAs t a → open_fault a label ≡ open_rule label (list_any (has_label label) (seen_all t.sessions)) (length (seen_all t.sessions))
rule_seen t a label is =
    ap (λ ss. open_rule label (list_any (is_labelled label) ss) (length ss)) is.sessions
    ∙ ap (λ b. open_rule label b (length (map session_seen (seen_all t.sessions)))) (any_seen label (seen_all t.sessions))
    ∙ ap (λ n. open_rule label (list_any (has_label label) (seen_all t.sessions)) n) (length-map (seen_all t.sessions) session_seen)

-- none of both is broken
pub none_broken : (t : Stored) (s : Sessions) (a : Tier) (id : SessionId) (label : List ℕ) (options : OpenOptions) → IsStoredAs t a → Opens (seen_all t.sessions) (seen_all s) id label options.passthrough options.durable → open_fault a label ≡ None
none_broken t s a id label options is opens =
    rule_seen t a label is
    ∙ ap (λ b. open_rule label b (length (seen_all t.sessions))) opens.free
    ∙ ap (λ b. broken_if b (past limit.Sessions)) (lt-leb 64 (length (seen_all t.sessions)) opens.few)

pub opened : (t : Stored) (s : Sessions) (a : Tier) (id : SessionId) (label : List ℕ) (options : OpenOptions) → IsStoredAs t a → Opens (seen_all t.sessions) (seen_all s) id label options.passthrough options.durable → IsStoredAs (record t { sessions = s }) (record a { sessions = a.sessions ++ new_session label options ∷ [] })
opened t s a id label options is opens =
    stored_behind t s a (a.sessions ++ new_session label options ∷ []) is
    (ap (λ ss. ss ++ new_session label options ∷ []) is.sessions
    ∙ sym (ap (map session_seen) opens.seen ∙ map-append session_seen (seen_all t.sessions) (begun id label options.passthrough options.durable ∷ [])))

-- 113 and 119
pub name_refused : (t : Stored) (s : Sessions) (a : Tier) (label : List ℕ) (answer : Answer) → IsStoredAs t a → seen_all s ≡ seen_all t.sessions → list_any (has_label label) (seen_all t.sessions) ≡ true → Replies (record t { sessions = s }) a (open_fault a label) answer (Err (refused.Rule (labelled code.NameInUse label)))
name_refused t s a label answer is same used = (
  rule_seen t a label is ∙ ap (λ b. open_rule label b (length (seen_all t.sessions))) used,
  stored_behind t s a a.sessions is (is.sessions ∙ ap (map session_seen) (sym same)),
)

pub full_refused : (t : Stored) (s : Sessions) (a : Tier) (label : List ℕ) (answer : Answer) → IsStoredAs t a → seen_all s ≡ seen_all t.sessions → 64 ≤ length (seen_all t.sessions) → list_any (has_label label) (seen_all t.sessions) ≡ false → Replies (record t { sessions = s }) a (open_fault a label) answer (Err (refused.Rule (past limit.Sessions)))
full_refused t s a label answer is same full free = (
  rule_seen t a label is ∙ ap (λ b. open_rule label b (length (seen_all t.sessions))) free
      ∙ ap (λ b. broken_if b (past limit.Sessions)) (le-leb 64 (length (seen_all t.sessions)) full),
  stored_behind t s a a.sessions is (is.sessions ∙ ap (map session_seen) (sym same)),
)

pub open_unheld : (t : Stored) (s : Sessions) (a : Tier) → IsStoredAs t a → seen_all s ≡ seen_all t.sessions → IsStoredAs (record t { sessions = s }) a
open_unheld t s a is same = stored_behind t s a a.sessions is (is.sessions ∙ ap (map session_seen) (sym same))

-- the session of a label
pub session_found : (t : Stored) (label : List ℕ) (x : OpenSession) (id : SessionId) → of_label label (seen_all t.sessions) ≡ Some x → x.id ≡ id → FindsSession t label (Ok id)
session_found t label x id is number = λ a stored. record {
  session = session_seen x;
  is = ap (find (is_labelled label)) stored.sessions ∙ find_seen label (seen_all t.sessions) ∙ ap (option_map session_seen) is;
  named = found_label label (seen_all t.sessions) x is;
  has = record {
    seen = x;
    found = ap (λ l. of_label l (seen_all t.sessions)) (found_label label (seen_all t.sessions) x is) ∙ is;
    number = number;
    is = refl;
  };
}

pub session_unknown : (t : Stored) (label : List ℕ) → of_label label (seen_all t.sessions) ≡ None → FindsSession t label (Err (refused.Rule (labelled code.UnknownSession label)))
session_unknown t label none = λ a stored.
    (ap (find (is_labelled label)) stored.sessions ∙ find_seen label (seen_all t.sessions) ∙ ap (option_map session_seen) none, refl)

-- number and label tell the same session
abbrev pub ChangeLaw : Type 0
ChangeLaw =
    (schema : List TableDef) (s : Sessions) (label : List ℕ) (x : OpenSession) → AreSessions schema s
    → of_label label (seen_all s) ≡ Some x → (f : OpenSession → OpenSession)
    → on_session x.id f (seen_all s) ≡ map (λ y. cond (has_label label y) (f y) y) (seen_all s)

abbrev pub ClosedLaw : Type 0
ClosedLaw =
    (schema : List TableDef) (s : Sessions) (label : List ℕ) (x : OpenSession) → AreSessions schema s
    → of_label label (seen_all s) ≡ Some x
    → closed x.id (seen_all s) ≡ filter (λ y. not (has_label label y)) (seen_all s)

-- a session changes, or leaves
pub session_changed : ChangeLaw → (t : Stored) (new : Sessions) (a : Tier) (s : Session) (id : SessionId) (f : OpenSession → OpenSession) (change : Session → Session) → ((x : OpenSession) → session_seen (f x) ≡ change (session_seen x)) → IsSound t → IsStoredAs t a → HasSession t id s → seen_all new ≡ on_session id f (seen_all t.sessions) → IsStoredAs (record t { sessions = new }) (record a { sessions = map (λ y. cond (is_labelled s.label y) (change y) y) a.sessions })
session_changed law t new a s id f change same sound is has seen =
    stored_behind t new a (map (λ y. cond (is_labelled s.label y) (change y) y) a.sessions) is
    (ap (map (λ y. cond (is_labelled s.label y) (change y) y)) is.sessions
    ∙ sym (ap (map session_seen) (seen ∙ ap (λ n. on_session n f (seen_all t.sessions)) (sym has.number)
    ∙ law t.schema t.sessions s.label has.seen sound.sessions has.found f) ∙ changed_seen s.label f change (seen_all t.sessions) same))

pub session_left : ClosedLaw → (t : Stored) (new : Sessions) (a : Tier) (s : Session) (id : SessionId) → IsSound t → IsStoredAs t a → HasSession t id s → seen_all new ≡ closed id (seen_all t.sessions) → IsStoredAs (record t { sessions = new }) (record a { sessions = filter (λ y. not (is_labelled s.label y)) a.sessions })
session_left law t new a s id sound is has seen =
    stored_behind t new a (filter (λ y. not (is_labelled s.label y)) a.sessions) is
    (ap (filter (λ y. not (is_labelled s.label y))) is.sessions
    ∙ sym (ap (map session_seen) (seen ∙ ap (λ n. closed n (seen_all t.sessions)) (sym has.number)
    ∙ law t.schema t.sessions s.label has.seen sound.sessions has.found) ∙ left_seen s.label (seen_all t.sessions)))

-- what the parts ask of one another stays
abbrev pub OwnLies : Stored → OpenSession → Type 0
OwnLies t s = AreShown s.ops (rows_of t)

pub own_pushed : (t : Stored) (new : Sessions) (x : OpenSession) → IsVerified t → seen_all new ≡ seen_all t.sessions ++ x ∷ [] → x.ops ≡ [] → All (OwnLies t) (seen_all new)
own_pushed t new x is seen none =
    subst (All (OwnLies t)) (sym seen) (All-push (OwnLies t) (seen_all t.sessions) x is.own (subst (λ ops. AreShown ops (rows_of t)) (sym none) is.rows))

pub own_rested : (t : Stored) (new : Sessions) (id : SessionId) → IsVerified t → seen_all new ≡ on_session id rested (seen_all t.sessions) → All (OwnLies t) (seen_all new)
own_rested t new id is seen =
    subst (All (OwnLies t)) (sym seen) (all_changed (OwnLies t) (has_id id) rested (seen_all t.sessions) (λ x lies. is.rows) is.own)

pub own_flagged : (t : Stored) (new : Sessions) (id : SessionId) (level : ℕ) → IsVerified t → seen_all new ≡ on_session id (with_flag level) (seen_all t.sessions) → All (OwnLies t) (seen_all new)
own_flagged t new id level is seen =
    subst (All (OwnLies t)) (sym seen) (all_changed (OwnLies t) (has_id id) (with_flag level) (seen_all t.sessions) (λ x lies. lies) is.own)

pub own_left : (t : Stored) (new : Sessions) (id : SessionId) → IsVerified t → seen_all new ≡ closed id (seen_all t.sessions) → All (OwnLies t) (seen_all new)
own_left t new id is seen =
    subst (All (OwnLies t)) (sym seen) (All-filter (λ x. not (has_id id x)) (OwnLies t) (seen_all t.sessions) is.own)

pub own_same : (t : Stored) (new : Sessions) → IsVerified t → seen_all new ≡ seen_all t.sessions → All (OwnLies t) (seen_all new)
own_same t new is seen = subst (All (OwnLies t)) (sym seen) is.own
