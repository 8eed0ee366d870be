-- What a commit leaves of the stores, and of what is stored.
use Rattle.std.proofs.Common.{◌≡◌, ◌+◌, ◌<◌, ◌≤◌, ℕ, zero, suc, Bool, true, false, not, cond, nat_le, Option, Some, None, Err, List, [], ◌∷◌, ◌++◌, length, map, set, get_or, slice_get, arith, refl, sym, ap, ◌∙◌, subst, Result}
use Rattle.std.specs.Option.{option_and_then, option_or}
use Rattle.std.proofs.lemmas.Bool.{le-leb, lt-leb}
use Rattle.row_types.specs.declared.rule.Rule.{Rule}
use Rattle.tier_base.specs.declared.limit.Limit.TheVariants as limit
use Rattle.tier_base.specs.declared.number.SessionId.{SessionId}
use Rattle.tier_base.specs.declared.number.TableId.{TableId}
use Rattle.table_state.specs.declared.history.Sealed.{Sealed}
use Rattle.table_state.specs.declared.operation.Op.{Op}
use Rattle.table_state.specs.declared.operation.Op.TheVariants.{Delete, Insert, Update}
use Rattle.table_state.specs.Operations.{table_of}
use Rattle.group_store.specs.Stores.{Kept, SameButSpare, at_place, op_done, place_in, put_store, replace_store, take_store}
use Rattle.group_store.specs.declared.directory.Home.{Home}
use Rattle.row_types.specs.declared.rule.Refused.{Refused}
use Rattle.row_types.specs.declared.rule.Refused.TheVariants as refused
use Rattle.table_defs.specs.Declarations.{Tells}
use Rattle.cache_tier.specs.Worlds.{Answer, World}
use Rattle.cache_tier.specs.declared.reply.Reply.{Reply}
use Rattle.stored_tier.specs.Answering.{Replies}
use Rattle.cache_tier.specs.Groups.{Group, is_writethrough}
use Rattle.cache_tier.specs.CommitSteps.{committed_unsettled, sealed_own}
use Rattle.cache_tier.specs.PassedSteps.{ticket_fault, with_ticket}
use Rattle.cache_tier.specs.Recency.{entered, left_by, with_commit, with_entered}
use Rattle.cache_tier.specs.Rules.{at_limit, broken_if, past}
use Rattle.cache_tier.specs.TierStates.{Session, Tier, at_rest, is_labelled}
use Rattle.cache_tier.specs.Shown.{no_rows}
use Rattle.table_state.specs.Tables.{TableState}
use Rattle.stored_tier.specs.declared.tier.Tier.{Tier as Stored}
use Rattle.stored_tier.proofs.StoreLists.{got}
use Rattle.session_engine.specs.Committing.{AnswersInWorlds, HaveRoomFor, StoresCommit, at_home, at_number, bare, bare_all, commit_answer, commit_fault, home_in, ops_at}
use Rattle.session_engine.proofs.CommitPerformed.{own_through}
use Rattle.session_engine.proofs.CommittedLists.{lists_committed}
use Rattle.session_engine.proofs.UsedLists.{lists_roomed}
use Rattle.tier_statements.specs.Seen.{session_seen}
use Rattle.stored_tier.specs.Lists.{AreListed}
use Rattle.stored_tier.specs.Performing.{StandsFor}
use Rattle.stored_tier.specs.Stored.{HasSession, IsSound, IsStoredAs, KeepsTime, without_list}
use Rattle.stored_tier.proofs.OwnSeen.{NumberLaw, own_found}
use Rattle.stored_tier.proofs.QuietLaws.{its_session}
use Rattle.stored_tier.proofs.SessionLaws.{ChangeLaw, session_changed}
use Rattle.group_catalog.specs.Catalogs.{groups_in}
use Rattle.open_sessions.specs.Lookups.{open_ops}
use Rattle.open_sessions.specs.Opening.{on_session, seen_all}
use Rattle.session_state.specs.Sessions.{at_rest as rested}
use Rattle.std.specs.FinMap.{keys}
use Rattle.std.specs.List.{flat_map}
use Rattle.tier_base.specs.declared.number.Ticket.{Ticket}

-- stores without their room

pub bare_same : (old new : Kept) → SameButSpare old new → bare new ≡ bare old
bare_same old new same =
    let table = same.table in
    let key = same.key in
    let foreign = same.foreign in
    let layers = same.layers in
    let tables = same.tables in
    let keys = same.keys in
    cc

-- an operation leaves the room out of account
bare_place : (o : Option ℕ) (change : ℕ → Kept → Kept) (s : Kept) → ((n : ℕ) → bare (change n s) ≡ change n (bare s)) → bare (at_place o change s) ≡ at_place o change (bare s)
bare_place None change s same = refl
bare_place (Some n) change s same = same n

bare_op : (op : Op) (s : Kept) → bare (op_done op s) ≡ op_done op (bare s)
bare_op (Insert t row) s = bare_place (place_in s t) (λ n. put_store n row) s (λ n. refl)
bare_op (Update t old row) s = bare_place (place_in s t) (λ n. replace_store n row) s (λ n. refl)
bare_op (Delete t row) s = bare_place (place_in s t) (λ n. take_store n row) s (λ n. refl)

bare_set : (f : Kept → Kept) (xs : List Kept) (i : ℕ) (x y : Kept) → slice_get xs i ≡ Some x → bare y ≡ f (bare x) → bare_all (set xs i y) ≡ at_number i f (bare_all xs)
bare_set f [] i x y at same = cc
bare_set f (z ∷ xs) zero x y at same =
    let is : z ≡ x = cc in
    ap (λ k. k ∷ bare_all xs) (same ∙ ap (λ k. f (bare k)) (sym is))
bare_set f (z ∷ xs) (suc i) x y at same = ap (λ ks. bare z ∷ ks) (bare_set f xs i x y at same)

past_end : (f : Kept → Kept) (xs : List Kept) (i : ℕ) → length xs ≤ i → at_number i f (bare_all xs) ≡ bare_all xs
past_end f [] i le = refl
past_end f (x ∷ xs) zero le = absurd (omega arith)
past_end f (x ∷ xs) (suc i) le = ap (λ ks. bare x ∷ ks) (past_end f xs i (omega arith))

got_within : (xs : List Kept) (i : ℕ) (x : Kept) → slice_get xs i ≡ Some x → i < length xs
got_within [] i x at = cc
got_within (y ∷ xs) zero x at = omega arith
got_within (y ∷ xs) (suc i) x at = let lt = got_within xs i x at in omega arith

-- one store does an operation
pub store_does : (op : Op) (xs : List Kept) (i : ℕ) (x y : Kept) → i < length xs → x ≡ get_or xs i x → SameButSpare (op_done op x) y → bare_all (set xs i y) ≡ at_number i (op_done op) (bare_all xs)
store_does op xs i x y lt is same = bare_set (op_done op) xs i x y (got xs i x lt is) (bare_same (op_done op x) y same ∙ bare_op op x)

pub store_keeps : (xs : List Kept) (i : ℕ) (x y : Kept) → i < length xs → x ≡ get_or xs i x → SameButSpare x y → bare_all (set xs i y) ≡ bare_all xs
store_keeps xs i x y lt is same = bare_set (λ s. s) xs i x y (got xs i x lt is) (bare_same x y same) ∙ none xs i
  where
    none : (ks : List Kept) (n : ℕ) → at_number n (λ s. s) (bare_all ks) ≡ bare_all ks
    none [] n = refl
    none (k ∷ ks) zero = refl
    none (k ∷ ks) (suc n) = ap (λ s. bare k ∷ s) (none ks n)

-- room

pub room_more : (n at : ℕ) (xs : List Kept) (y : Kept) → n ≤ y.spare → ((k : ℕ) (s : Kept) → k < at → slice_get xs k ≡ Some s → n ≤ s.spare) → (k : ℕ) (s : Kept) → k < at + 1 → slice_get (set xs at y) k ≡ Some s → n ≤ s.spare
room_more n at [] y room below k s lt is = cc
room_more n zero (x ∷ xs) y room below zero s lt is = let same : y ≡ s = cc in subst (λ z. n ≤ z.spare) same room
room_more n zero (x ∷ xs) y room below (suc k) s lt is = absurd (omega arith)
room_more n (suc at) (x ∷ xs) y room below zero s lt is = below zero s (omega arith) is
room_more n (suc at) (x ∷ xs) y room below (suc k) s lt is = room_more n at xs y room (λ j z less there. below (suc j) z (omega arith) there) k s (omega arith) is

pub room_all : (n at : ℕ) (xs : List Kept) → length xs ≤ at → ((k : ℕ) (s : Kept) → k < at → slice_get xs k ≡ Some s → n ≤ s.spare) → HaveRoomFor n xs
room_all n at xs end below k s is = let lt = got_within xs k s is in below k s (omega arith) is

pub room_less : (n : ℕ) (xs : List Kept) (i : ℕ) (x y : Kept) → i < length xs → x ≡ get_or xs i x → x.spare ≤ y.spare + 1 → HaveRoomFor (suc n) xs → HaveRoomFor n (set xs i y)
room_less n xs i x y lt is spare room = by xs i (got xs i x lt is) room
  where
    by : (ks : List Kept) (j : ℕ) → slice_get ks j ≡ Some x → HaveRoomFor (suc n) ks → HaveRoomFor n (set ks j y)
    by [] j there all k s at = cc
    by (z ∷ ks) zero there all zero s at =
        let more : suc n ≤ x.spare = all zero x there in
        let same : y ≡ s = cc in
        subst (λ q. n ≤ q.spare) same (omega (arith, more, spare))
    by (z ∷ ks) zero there all (suc k) s at = let more = all (suc k) s at in omega (arith, more)
    by (z ∷ ks) (suc j) there all zero s at = let more = all zero s at in omega (arith, more)
    by (z ∷ ks) (suc j) there all (suc k) s at = by ks j there (λ m q is. all (suc m) q is) k s at

pub room_same : (n : ℕ) (xs : List Kept) → HaveRoomFor (suc n) xs → HaveRoomFor n xs
room_same n xs room k s is = let more = room k s is in omega (arith, more)

-- what is stored behind a commit

abbrev sealed_of : Ticket → List Op → Sealed
sealed_of ticket ops = record { ticket = ticket; ops = ops }

commit_kept : (rows : TableState) (ops : List Op) (g : Group) → without_list (with_commit rows ops g) ≡ without_list g
commit_kept rows ops g = by (is_writethrough g)
  where
    by : (b : Bool) → without_list (cond b (record g { keys = with_entered (keys (entered rows g ops)) (flat_map (left_by rows g) ops) g.keys }) g) ≡ without_list g
    by true = refl
    by false = refl

pub groups_kept : (rows : TableState) (ops : List Op) (gs : List Group) → map without_list (map (with_commit rows ops) gs) ≡ map without_list gs
groups_kept rows ops [] = refl
groups_kept rows ops (g ∷ gs) =
    ap (λ h. h ∷ map without_list (map (with_commit rows ops) gs)) (commit_kept rows ops g)
    ∙ ap (λ hs. without_list g ∷ hs) (groups_kept rows ops gs)

pub sealed_same : NumberLaw → (t : Stored) (a : Tier) (id : SessionId) (s : Session) → IsSound t → IsStoredAs t a → HasSession t id s → sealed_of (record { 0 = t.next }) (open_ops id (seen_all t.sessions)) ≡ sealed_own a s
sealed_same law t a id s sound is has =
    ap (λ n. sealed_of (record { 0 = n }) (open_ops id (seen_all t.sessions))) (sym is.next)
    ∙ ap (sealed_of (record { 0 = a.next })) (own_found law t id s sound has)

pub stored_behind_commit : NumberLaw → ChangeLaw → (t new : Stored) (w : World) (id : SessionId) (s : Session) → IsSound t → StandsFor t w → HasSession t id s → StoresCommit t (open_ops id (seen_all t.sessions)) new.stores.items → new.hidden ≡ t.hidden → new.schema ≡ t.schema → new.stale ≡ t.stale → new.catalog ≡ t.catalog → seen_all new.sessions ≡ on_session id rested (seen_all t.sessions) → new.unsettled.items ≡ t.unsettled.items ++ sealed_of (record { 0 = t.next }) (open_ops id (seen_all t.sessions)) ∷ [] → new.next ≡ t.next + 1 → new.clock ≡ t.clock → IsStoredAs new (committed_unsettled (sealed_own w.tier s) s.label w.tier)
stored_behind_commit numbers changes t new w id s sound stands has commit hidden schema stale catalog sessions unsettled next clock =
    let a = w.tier in
    let is = stands.stored in
    let there = its_session t a id s is has in
    let rest : IsStoredAs (record t { sessions = new.sessions }) (record a { sessions = map (λ y. cond (is_labelled s.label y) (at_rest y) y) a.sessions }) =
    session_changed changes t new.sessions a s id rested at_rest (λ x. refl) sound is has sessions in
    record {
      schema = is.schema ∙ sym schema;
      stale = is.stale ∙ sym stale;
      groups = groups_kept (no_rows (with_ticket a)) s.own a.groups ∙ is.groups ∙ ap groups_in (sym catalog);
      lists = subst (λ h. AreListed (map (with_commit (no_rows (with_ticket a)) s.own) a.groups) new.stores.items h.items) (sym hidden) (lists_committed t a new.stores.items s.own sound is stands.stands.catalog (own_through w s stands.stands there) (subst (λ ops. StoresCommit t ops new.stores.items) (own_found numbers t id s sound has) commit));
      sessions = rest.sessions;
      unsettled = ap (λ xs. xs ++ sealed_own a s ∷ []) is.unsettled
          ∙ ap (λ x. t.unsettled.items ++ x ∷ []) (sym (sealed_same numbers t a id s sound is has)) ∙ sym unsettled;
      next = ap (λ n. n + 1) is.next ∙ sym next;
      doubt = is.doubt;
      time = subst (λ c. KeepsTime c a.now a.added a.round a.sets a.settings) (sym clock) is.time;
    }

-- where no more changed than the room of the stores
pub stored_roomed : (t new : Stored) (a : Tier) → IsStoredAs t a → new.schema ≡ t.schema → new.stale ≡ t.stale → new.catalog ≡ t.catalog → new.hidden ≡ t.hidden → new.sessions ≡ t.sessions → new.unsettled.items ≡ t.unsettled.items → new.next ≡ t.next → new.clock ≡ t.clock → bare_all new.stores.items ≡ bare_all t.stores.items → IsStoredAs new a
stored_roomed t new a is schema stale catalog hidden sessions unsettled next clock bares = record {
  schema = is.schema ∙ sym schema;
  stale = is.stale ∙ sym stale;
  groups = is.groups ∙ ap groups_in (sym catalog);
  lists = subst (λ h. AreListed a.groups new.stores.items h.items) (sym hidden) (lists_roomed a.groups t.stores.items new.stores.items t.hidden.items bares is.lists);
  sessions = is.sessions ∙ ap (λ ss. map session_seen (seen_all ss)) (sym sessions);
  unsettled = is.unsettled ∙ sym unsettled;
  next = is.next ∙ sym next;
  doubt = is.doubt;
  time = subst (λ c. KeepsTime c a.now a.added a.round a.sets a.settings) (sym clock) is.time;
}

-- memory was wanting
pub wanting_answers : (t new : Stored) (id : SessionId) (r : Result Reply Refused) → r ≡ Err refused.Memory → ((w : World) → StandsFor t w → IsStoredAs new w.tier) → AnswersInWorlds t new id commit_fault commit_answer r
wanting_answers t new id r is stored = λ w s stands has. subst (Replies new w.tier (commit_fault s w.tier) (commit_answer s w.tier)) (sym is) (stored w stands)

-- 119

pub waiting_full : (t : Stored) (a : Tier) (s : Session) → IsStoredAs t a → 4096 ≤ length t.unsettled.items → commit_fault s a ≡ Some (past limit.Pending)
waiting_full t a s is full =
    ap (λ (xs : List Sealed). option_or (at_limit limit.Pending (length xs)) (ticket_fault a)) is.unsettled
    ∙ ap (λ b. option_or (broken_if b (past limit.Pending)) (ticket_fault a)) (le-leb 4096 (length t.unsettled.items) full)

waiting_few : (t : Stored) (a : Tier) (s : Session) → IsStoredAs t a → length t.unsettled.items < 4096 → commit_fault s a ≡ ticket_fault a
waiting_few t a s is few =
    ap (λ (xs : List Sealed). option_or (at_limit limit.Pending (length xs)) (ticket_fault a)) is.unsettled
    ∙ ap (λ b. option_or (broken_if b (past limit.Pending)) (ticket_fault a)) (lt-leb 4096 (length t.unsettled.items) few)

pub tickets_out : (t : Stored) (a : Tier) (s : Session) → IsStoredAs t a → length t.unsettled.items < 4096 → 9223372036854775807 < t.next → commit_fault s a ≡ Some (past limit.Tickets)
tickets_out t a s is few out =
    waiting_few t a s is few
    ∙ ap (λ n. broken_if (not (nat_le n 9223372036854775807)) (past limit.Tickets)) is.next
    ∙ ap (λ b. broken_if (not b) (past limit.Tickets)) (lt-leb t.next 9223372036854775807 out)

pub commit_free : (t : Stored) (a : Tier) (s : Session) → IsStoredAs t a → length t.unsettled.items < 4096 → t.next ≤ 9223372036854775807 → commit_fault s a ≡ None
commit_free t a s is few fits =
    waiting_few t a s is few
    ∙ ap (λ n. broken_if (not (nat_le n 9223372036854775807)) (past limit.Tickets)) is.next
    ∙ ap (λ b. broken_if (not b) (past limit.Tickets)) (le-leb t.next 9223372036854775807 fits)

-- steps of the loops

pub set_long : (xs : List Kept) (i : ℕ) (y : Kept) → length (set xs i y) ≡ length xs
set_long [] i y = refl
set_long (x ∷ xs) zero y = refl
set_long (x ∷ xs) (suc i) y = ap (λ n. suc n) (set_long xs i y)

pub step_done : (directory : List (Option Home)) (rest later : List Op) (op : Op) (old new goal : List Kept) → rest ≡ op ∷ later → at_home (home_in directory op) (op_done op) old ≡ new → ops_at directory rest old ≡ goal → ops_at directory later new ≡ goal
step_done directory rest later op old new goal is there done =
    ap (ops_at directory later) (sym there) ∙ ap (λ ops. ops_at directory ops old) (sym is) ∙ done

pub home_found : (directory : List (Option Home)) (op : Op) (table : TableId) (home : Home) (f : Kept → Kept) (stores : List Kept) → table ≡ table_of op → Some home ≡ option_and_then (λ h. h) (slice_get directory table.0) → at_home (home_in directory op) f stores ≡ at_number home.store f stores
home_found directory op table home f stores same is =
    ap (λ h. at_home h f stores) (sym (is ∙ ap (λ (t : TableId). option_and_then (λ h. h) (slice_get directory t.0)) same))

pub end_passed : (f : Kept → Kept) (xs : List Kept) (i : ℕ) → length xs ≤ i → at_number i f (bare_all xs) ≡ bare_all xs
end_passed f xs i le = past_end f xs i le

pub refused_stays : (t : Stored) (a : Tier) (fault : Option Rule) (answer : Answer) (e : Refused) → IsStoredAs t a → Tells {X = Unit {0}} (Err e) fault → Replies t a fault answer (Err e)
refused_stays t a fault answer (refused.Rule rule) is told = (told, is)
refused_stays t a fault answer refused.Memory is told = is
