-- What refuses DROP CACHE GROUP, over what is stored.
use Rattle.std.proofs.Common.{◌≡◌, ◌<◌, ◌+◌, ℕ, zero, suc, Bool, true, false, cond, not, ◌&&◌, nat_lt, Option, Some, None, List, [], ◌∷◌, filter, find, length, map, position, slice_get, unwrap_or, refl, sym, ap, subst, ◌∙◌, arith}
use Rattle.std.specs.List.{prefix_len}
use Rattle.std.specs.Option.{option_and_then, option_map, option_or}
use Rattle.std.proofs.lemmas.Bool.{eqb-false, eqb-true, ltb-true}
use Rattle.std.proofs.lemmas.List.{length-map}
use Rattle.std.specs.Bool.{◌==◌}
use Rattle.row_types.specs.declared.rule.Rule.{Rule}
use Rattle.tier_base.specs.declared.code.Code.TheVariants as code
use Rattle.tier_base.specs.declared.number.SessionId.{SessionId}
use Rattle.table_defs.specs.declared.definition.TableDef.{TableDef}
use Rattle.open_sessions.specs.declared.sessions.Sessions.{Sessions}
use Rattle.open_sessions.specs.Lookups.{has_label, of_label}
use Rattle.open_sessions.specs.Opening.{AreSessions, closed, seen_all}
use Rattle.session_state.specs.Sessions.{OpenSession, has_id}
use Rattle.session_state.specs.Kept.{seen_of}
use Rattle.session_state.specs.declared.session.Session.{Session as Kept}
use Rattle.sql_subset.specs.declared.stmt.Stmt.TheVariants as statement
use Rattle.table_state.specs.declared.operation.Op.{Op}
use Rattle.group_catalog.specs.Catalogs.{groups_in}
use Rattle.tier_statements.specs.Seen.{session_seen}
use Rattle.cache_tier.specs.Groups.{Group, group_at, is_called, is_writethrough, place_called}
use Rattle.cache_tier.specs.Locks.{group_lock, locked_by, writes_on}
use Rattle.cache_tier.specs.Order.{Broken, broken_by_name, drop_broken, first_broken, of_group, refusal}
use Rattle.cache_tier.specs.Rules.{named, open_writes, plain}
use Rattle.cache_tier.specs.TierStates.{Session, Tier, is_labelled, others}
use Rattle.stored_tier.specs.declared.tier.Tier.{Tier as Stored}
use Rattle.group_engine.specs.Dropping.{is_written_at, writer_beside}
use Rattle.stored_tier.specs.Stored.{HasSession, IsSound, IsStoredAs, without_list}
use Rattle.stored_tier.proofs.SeenLaws.{left_seen}

-- lists that are seen

pub find_map : {A B : Type 0} (p : B → Bool) (f : A → B) (xs : List A) → find p (map f xs) ≡ option_map f (find (λ x. p (f x)) xs)
find_map p f [] = refl
find_map p f (x ∷ xs) = by (p (f x)) (find_map p f xs)
  where
    by : (b : Bool) → find p (map f xs) ≡ option_map f (find (λ y. p (f y)) xs) → cond b (Some (f x)) (find p (map f xs)) ≡ option_map f (cond b (Some x) (find (λ y. p (f y)) xs))
    by true rest = refl
    by false rest = rest

pub find_left : {A : Type 0} (q p : A → Bool) (xs : List A) → find p (filter q xs) ≡ find (λ x. q x && p x) xs
find_left q p [] = refl
find_left q p (x ∷ xs) = by (q x) (find_left q p xs)
  where
    by : (b : Bool) → find p (filter q xs) ≡ find (λ y. q y && p y) xs → find p (cond b (x ∷ filter q xs) (filter q xs)) ≡ cond (b && p x) (Some x) (find (λ y. q y && p y) xs)
    by true rest = ap (cond (p x) (Some x)) rest
    by false rest = rest

front_same : {A B : Type 0} (p : B → Bool) (f : A → B) (xs : List A) → prefix_len p (map f xs) ≡ prefix_len (λ x. p (f x)) xs
front_same p f [] = refl
front_same p f (x ∷ xs) = ap (λ n. cond (p (f x)) (1 + n) 0) (front_same p f xs)

pub position_map : {A B : Type 0} (p : B → Bool) (f : A → B) (xs : List A) → position p (map f xs) ≡ position (λ x. p (f x)) xs
position_map p f xs = λ i. cond (nat_lt (front_same (λ y. not (p y)) f xs i) (length-map xs f i)) (Some (front_same (λ y. not (p y)) f xs i)) None

pub get_map : {A B : Type 0} (f : A → B) (xs : List A) (i : ℕ) → slice_get (map f xs) i ≡ option_map f (slice_get xs i)
get_map f [] i = refl
get_map f (x ∷ xs) zero = refl
get_map f (x ∷ xs) (suc i) = get_map f xs i

some_at : {A : Type 0} (xs : List A) (i : ℕ) → i < length xs → (x : A) × (slice_get xs i ≡ Some x)
some_at [] i lt = absurd (omega (arith, lt))
some_at (x ∷ xs) zero lt = (x, refl)
some_at (x ∷ xs) (suc i) lt = some_at xs i (omega (arith, lt))

-- the group of a name

pub place_stored : (t : Stored) (a : Tier) (name : List ℕ) → IsStoredAs t a → place_called a.groups name ≡ place_called (groups_in t.catalog) name
place_stored t a name is = sym (position_map (is_called name) without_list a.groups) ∙ ap (λ gs. place_called gs name) is.groups

-- the group at a place
pub group_stored : (t : Stored) (a : Tier) (place : ℕ) (g : Group) → IsStoredAs t a → slice_get a.groups place ≡ Some g → slice_get (groups_in t.catalog) place ≡ Some (without_list g)
group_stored t a place g is at = ap (λ gs. slice_get gs place) (sym is.groups) ∙ get_map without_list a.groups place ∙ ap (option_map without_list) at

pub group_within : (t : Stored) (a : Tier) (place : ℕ) → IsStoredAs t a → place < length (groups_in t.catalog) → (g : Group) × (slice_get a.groups place ≡ Some g)
group_within t a place is lt =
    let long = ap length is.groups in
    let same = length-map a.groups without_list in
    some_at a.groups place (omega (arith, lt, long, same))

of_none : (a : Tier) (name : List ℕ) (broken : Group → Broken) → group_at a.groups (place_called a.groups name) ≡ None → of_group a name broken ≡ broken_by_name (Some (named code.UnknownGroup name))
of_none a name broken e = rw e refl

of_some : (a : Tier) (name : List ℕ) (broken : Group → Broken) (g : Group) → group_at a.groups (place_called a.groups name) ≡ Some g → of_group a name broken ≡ broken g
of_some a name broken g e = rw e refl

pub drop_unknown : (t : Stored) (a : Tier) (s : Session) (name : List ℕ) → IsStoredAs t a → place_called (groups_in t.catalog) name ≡ None → refusal a s (statement.DropGroup name) ≡ Some (named code.UnknownGroup name)
drop_unknown t a s name is none =
    ap first_broken (of_none a name (drop_broken s) (ap (λ (o : Option ℕ). option_and_then (slice_get a.groups) o) (place_stored t a name is ∙ none)))

pub drop_known : (t : Stored) (a : Tier) (s : Session) (name : List ℕ) (place : ℕ) → IsStoredAs t a → place_called (groups_in t.catalog) name ≡ Some place → place < length (groups_in t.catalog) → refusal a s (statement.DropGroup name) ≡ open_writes s.own
drop_known t a s name place is some lt =
    let g = group_within t a place is lt in
    ap first_broken (of_some a name (drop_broken s) g.0 (ap (λ (o : Option ℕ). option_and_then (slice_get a.groups) o) (place_stored t a name is ∙ some) ∙ g.1))
    ∙ by (open_writes s.own)
  where
    by : (o : Option Rule) → option_or o None ≡ o
    by None = refl
    by (Some r) = refl

pub written_stored : (t : Stored) (a : Tier) (place : ℕ) → IsStoredAs t a → is_written_at a.groups place ≡ is_written_at (groups_in t.catalog) place
written_stored t a place is =
    by (slice_get a.groups place)
    ∙ ap (λ o. unwrap_or (option_map is_writethrough o) false) (sym (get_map without_list a.groups place))
    ∙ ap (λ gs. is_written_at gs place) is.groups
  where
    by : (o : Option Group) → unwrap_or (option_map is_writethrough o) false ≡ unwrap_or (option_map is_writethrough (option_map without_list o)) false
    by None = refl
    by (Some g) = refl

-- 111

abbrev pub ClosedLaw : Type 0
ClosedLaw =
    (schema : List TableDef) (s : Sessions) (label : List ℕ) (x : OpenSession) → AreSessions schema s
    → of_label label (seen_all s) ≡ Some x → closed x.id (seen_all s) ≡ filter (λ y. not (has_label label y)) (seen_all s)

pub others_seen : ClosedLaw → (t : Stored) (a : Tier) (s : Session) (id : SessionId) → IsSound t → IsStoredAs t a → HasSession t id s → others s.label a ≡ map session_seen (closed id (seen_all t.sessions))
others_seen law t a s id sound is has =
    ap (filter (λ y. not (is_labelled s.label y))) is.sessions
    ∙ sym (left_seen s.label (seen_all t.sessions))
    ∙ ap (map session_seen) (sym (law t.schema t.sessions s.label has.seen sound.sessions has.found))
    ∙ ap (λ n. map session_seen (closed n (seen_all t.sessions))) has.number

pub lock_seen : ClosedLaw → (t : Stored) (a : Tier) (s : Session) (id : SessionId) (g : Group) → IsSound t → IsStoredAs t a → HasSession t id s → group_lock s.label a g ≡ option_map locked_by (option_map session_seen (writer_beside id g (seen_all t.sessions)))
lock_seen law t a s id g sound is has =
    ap (λ ss. option_map locked_by (find (λ (x : Session). writes_on g x.own) ss)) (others_seen law t a s id sound is has)
    ∙ ap (option_map locked_by) (find_map (λ (x : Session). writes_on g x.own) session_seen (closed id (seen_all t.sessions)))
    ∙ ap (λ o. option_map locked_by (option_map session_seen o)) (find_left (λ x. not (has_id id x)) (λ (x : OpenSession). writes_on g x.ops) (seen_all t.sessions))

-- the first among the kept ones is the first among those that are seen
pub writer_seen : (id : SessionId) (g : Group) (sessions : List Kept) (all : List OpenSession) (found : Option Kept) → map seen_of sessions ≡ all → found ≡ find (λ (s : Kept). not (has_id id (seen_of s)) && writes_on g s.ops.items) sessions → writer_beside id g all ≡ option_map seen_of found
writer_seen id g sessions all found same is =
    ap (writer_beside id g) (sym same)
    ∙ find_map (λ (x : OpenSession). not (has_id id x) && writes_on g x.ops) seen_of sessions
    ∙ ap (option_map seen_of) (sym is)

-- 122

pub open_none : (own : List Op) → (length own == 0) ≡ true → open_writes own ≡ None
open_none [] e = refl
open_none (op ∷ own) e = let z : suc (length own) ≡ 0 = eqb-true (suc (length own)) 0 e in cc

pub open_some : (own : List Op) → (length own == 0) ≡ false → open_writes own ≡ Some (plain code.TransactionOpen)
open_some [] e = absurd (eqb-false 0 0 e refl)
open_some (op ∷ own) e = refl

-- the group of a name is one of the list
pub place_within : (groups : List Group) (name : List ℕ) (place : ℕ) → place_called groups name ≡ Some place → place < length groups
place_within groups name place e = by (nat_lt (prefix_len (λ g. not (is_called name g)) groups) (length groups)) refl e
  where
    by : (b : Bool) → nat_lt (prefix_len (λ g. not (is_called name g)) groups) (length groups) ≡ b → cond b (Some (prefix_len (λ g. not (is_called name g)) groups)) None ≡ Some place → place < length groups
    by true lt e =
        let one : prefix_len (λ g. not (is_called name g)) groups ≡ place = cc in
        subst (λ n. n < length groups) one (ltb-true (prefix_len (λ g. not (is_called name g)) groups) (length groups) lt)
    by false lt e = cc
