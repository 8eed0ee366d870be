-- COMMIT by the stored tier: the tier stands for the abstract one behind it.
use Rattle.std.proofs.Common.{◌≡◌, ◌≤◌, ◌^◌, ◌+◌, ℕ, zero, suc, Bool, true, false, cond, not, nat_le, Option, Some, None, List, [], ◌∷◌, ◌++◌, length, find, unwrap_or, inl, inr, refl, sym, ap, subst, ◌∙◌, arith}
use Rattle.std.specs.Bool.{MatchBool}
use Rattle.std.specs.FinMap.{empty}
use Rattle.std.specs.List.{list_all}
use Rattle.std.specs.Option.{option_or}
use Rattle.std.proofs.lemmas.Bool.{leb-true}
use Rattle.tier_base.specs.declared.limit.Limit.TheVariants as limit
use Rattle.tier_base.specs.declared.number.SessionId.{SessionId}
use Rattle.tier_base.specs.declared.number.TableId.{TableId}
use Rattle.row_types.specs.declared.rule.Rule.{Rule}
use Rattle.table_defs.specs.declared.definition.TableDef.{TableDef}
use Rattle.table_state.specs.declared.history.Sealed.{Sealed}
use Rattle.table_state.specs.declared.operation.Op.{Op}
use Rattle.table_state.specs.Operations.{applied_all}
use Rattle.table_state.specs.Tables.{TableState}
use Rattle.instances.specs.declared.tree.Tree.{Tree}
use Rattle.sql_subset.specs.declared.stmt.Stmt.TheVariants as statement
use Rattle.open_sessions.specs.Lookups.{open_ops}
use Rattle.open_sessions.specs.Opening.{AreSessions, seen_all}
use Rattle.group_catalog.specs.Catalogs.{groups_in}
use Rattle.group_store.specs.Keeping.{IsFor}
use Rattle.group_store.specs.Shown.{AreHoused, kept_rows, rows_there, shown_by, tables_by}
use Rattle.group_store.specs.Stores.{Kept}
use Rattle.order_laws.specs.Commits.{RiseBetween}
use Rattle.order_laws.proofs.CommittingLaws.{rise_last}
use Rattle.order_laws.proofs.TruthLaws.{both_true}
use Rattle.cache_tier.specs.CommitSteps.{CommitsLater, CommitsNow, CommitsOwn, committed_unsettled, is_synchronous_own, sealed_own}
use Rattle.cache_tier.specs.Groups.{Group}
use Rattle.cache_tier.specs.JournalSteps.{Records, journal_fault}
use Rattle.cache_tier.specs.Journals.{Commits}
use Rattle.cache_tier.specs.PassedSteps.{ticket_fault}
use Rattle.cache_tier.specs.Reading.{Answers as Quietly}
use Rattle.cache_tier.specs.Rules.{at_limit, broken_if, past}
use Rattle.cache_tier.specs.Shown.{shown_state}
use Rattle.cache_tier.specs.TierStates.{Session, Tier, is_labelled, session_of}
use Rattle.cache_tier.specs.Worlds.{Answer, Part, Then, Unless, World, only}
use Rattle.cache_tier.specs.declared.reply.Last.TheVariants.{Done, No}
use Rattle.cache_tier.specs.declared.reply.Reply.{Reply}
use Rattle.cache_tier.specs.Events.{TakesOwn, with_tier}
use Rattle.cache_tier.specs.StandingBetween.{Stands, are_written_through, own_writes}
use Rattle.stored_tier.specs.declared.tier.Tier.{Tier as Stored}
use Rattle.session_engine.specs.Committing.{SparesHidden, StoresCommit, are_deferred, bare, bare_all, commit_answer, commit_fault, ops_at}
use Rattle.stored_tier.specs.Lists.{AreHiding}
use Rattle.stored_tier.specs.Performing.{Executes, StandsFor}
use Rattle.stored_tier.specs.Stored.{AreKept, AreWhole, HasSession, IsSound, IsStoredAs, IsVerified, KeepsHidden, are_later, named_where_cached, rows_of}
use Rattle.group_catalog.specs.Catalogs.{is_plain}
use Rattle.session_engine.proofs.KindLaws.{bare_deferred, deferred_not}
use Rattle.session_engine.proofs.CommittedStores.{bare_like, committed_like, hiding_ops, like_bare}
use Rattle.session_engine.proofs.OpStores.{kept_ops, ops_shown, whole_ops}
use Rattle.session_engine.proofs.TouchedLaws.{AreLike, all_like, hiding_like, kept_like, shown_like, whole_like}
use Rattle.pending_writes.specs.Noting.{TellsWriters}
use Rattle.stored_tier.specs.Stored.{first_unsettled}
use Rattle.stored_tier.proofs.WriterLaws.{writers_told}
use Rattle.stored_tier.proofs.QuietLaws.{its_session, stands_still}
use Rattle.stored_tier.proofs.HiddenRows.{hides_still}
use Rattle.stored_tier.proofs.OwnSeen.{NumberLaw, own_found}
use Rattle.stored_tier.proofs.SoundParts.{housed_exchanged}
use Rattle.stored_tier.proofs.StandingLaws.{last_more}
use Rattle.stored_tier.proofs.StoreRows.{are_kept}

-- stores, but for their room

for_bare : (schema : List TableDef) (tree : Tree) (s : Kept) → IsFor schema tree s → IsFor schema tree (bare s)
for_bare schema tree s form = record { table = form.table; key = form.key; foreign = form.foreign; layers = form.layers }

bare_for : (schema : List TableDef) (tree : Tree) (s : Kept) → IsFor schema tree (bare s) → IsFor schema tree s
bare_for schema tree s form = record { table = form.table; key = form.key; foreign = form.foreign; layers = form.layers }

pub kept_bare : (schema : List TableDef) (groups : List Group) (stores : List Kept) → AreKept schema groups stores → AreKept schema groups (bare_all stores)
kept_bare schema [] [] are = tt
kept_bare schema [] (s ∷ stores) are = absurd are
kept_bare schema (g ∷ groups) [] are = absurd are
kept_bare schema (g ∷ groups) (s ∷ stores) are = (for_bare schema g.def.tree s are.0, kept_bare schema groups stores are.1)

bare_kept : (schema : List TableDef) (groups : List Group) (stores : List Kept) → AreKept schema groups (bare_all stores) → AreKept schema groups stores
bare_kept schema [] [] are = tt
bare_kept schema [] (s ∷ stores) are = absurd are
bare_kept schema (g ∷ groups) [] are = absurd are
bare_kept schema (g ∷ groups) (s ∷ stores) are = (bare_for schema g.def.tree s are.0, bare_kept schema groups stores are.1)

abbrev HasRows : Kept → Type 0
HasRows s = length s.tables ≡ suc (length s.layers)

pub whole_bare : (stores : List Kept) → AreWhole stores → AreWhole (bare_all stores)
whole_bare [] whole k s at = cc
whole_bare (x ∷ stores) whole zero s at = let one : bare x ≡ s = cc in subst HasRows one (whole 0 x refl)
whole_bare (x ∷ stores) whole (suc k) s at = whole_bare stores (λ j y there. whole (suc j) y there) k s at

bare_whole : (stores : List Kept) → AreWhole (bare_all stores) → AreWhole stores
bare_whole [] whole k s at = cc
bare_whole (x ∷ stores) whole zero s at = let one : x ≡ s = cc in subst HasRows one (whole 0 (bare x) refl)
bare_whole (x ∷ stores) whole (suc k) s at = bare_whole stores (λ j y there. whole (suc j) y there) k s at

rows_bare : (stores : List Kept) (t : TableId) → kept_rows (bare_all stores) t ≡ kept_rows stores t
rows_bare [] t = refl
rows_bare (s ∷ stores) t = ap (option_or (rows_there s t)) (rows_bare stores t)

pub shown_bare : (schema : List TableDef) (stores : List Kept) → shown_by schema (bare_all stores) ≡ shown_by schema stores
shown_bare schema stores = λ i. record { schema = schema; tables = tables_by (λ t. unwrap_or (rows_bare stores t i) empty) 0 schema }

-- the same but for room shows the same
pub same_shown : (schema : List TableDef) (stores others : List Kept) → bare_all others ≡ bare_all stores → shown_by schema others ≡ shown_by schema stores
same_shown schema stores others same = sym (shown_bare schema others) ∙ ap (shown_by schema) same ∙ shown_bare schema stores

-- what the parts ask of one another

pub record KeepsParts (t new : Stored) : Type 0 where
  pub schema : new.schema ≡ t.schema
  pub catalog : new.catalog ≡ t.catalog
  pub hidden : new.hidden ≡ t.hidden
  pub directory : new.directory ≡ t.directory
  pub visible : new.visible ≡ t.visible

sound_parts : (t new : Stored) → IsSound t → KeepsParts t new → AreSessions t.schema new.sessions → AreKept t.schema (groups_in t.catalog) new.stores.items → AreWhole new.stores.items → AreHiding t.schema (groups_in t.catalog) new.stores.items t.hidden.items → RiseBetween 1 new.unsettled.items new.next → are_later (groups_in t.catalog) new.unsettled.items ≡ true → TellsWriters new.schema (first_unsettled new.unsettled.items new.next) new.unsettled.items new.writers → (new.verified ≡ true → IsVerified new) → IsSound new
sound_parts t new sound same sessions kept whole hiding numbered later writers verified =
    let housed = housed_exchanged t.schema (groups_in t.catalog) t.stores.items new.stores.items t.directory sound.stores sound.kept kept in
    let groups = ap groups_in same.catalog in
    record {
      sessions = subst (λ defs. AreSessions defs new.sessions) (sym same.schema) sessions;
      stores = subst (AreHoused new.schema new.stores.items) (sym same.directory) (subst (λ defs. AreHoused defs new.stores.items t.directory) (sym same.schema) housed);
      kept = subst (λ gs. AreKept new.schema gs new.stores.items) (sym groups) (subst (λ defs. AreKept defs (groups_in t.catalog) new.stores.items) (sym same.schema) kept);
      whole = whole;
      hiding = subst (λ h. AreHiding new.schema (groups_in new.catalog) new.stores.items h.items) (sym same.hidden) (subst (λ gs. AreHiding new.schema gs new.stores.items t.hidden.items) (sym groups) (subst (λ defs. AreHiding defs (groups_in t.catalog) new.stores.items t.hidden.items) (sym same.schema) hiding));
      plain = ap (list_all is_plain) groups ∙ sound.plain;
      named = subst Rattle.group_catalog.specs.Catalogs.HaveOwnNames (sym groups) sound.named;
      visible = same.visible ∙ sound.visible ∙ sym (λ i. named_where_cached (groups i) (same.schema i));
      numbered = numbered;
      later = ap (λ gs. are_later gs new.unsettled.items) groups ∙ later;
      writers = writers;
      verified = verified;
    }

-- the stores have other room
pub sound_roomed : (t new : Stored) → IsSound t → KeepsParts t new → bare_all new.stores.items ≡ bare_all t.stores.items → new.sessions ≡ t.sessions → new.unsettled.items ≡ t.unsettled.items → new.next ≡ t.next → TellsWriters t.schema (first_unsettled t.unsettled.items t.next) t.unsettled.items new.writers → new.verified ≡ t.verified → IsSound new
sound_roomed t new sound same bares sessions unsettled next told noted =
    sound_parts t new sound same (subst (AreSessions t.schema) (sym sessions) sound.sessions)
    (bare_kept t.schema (groups_in t.catalog) new.stores.items (subst (AreKept t.schema (groups_in t.catalog)) (sym bares) (kept_bare t.schema (groups_in t.catalog) t.stores.items sound.kept)))
    (bare_whole new.stores.items (subst AreWhole (sym bares) (whole_bare t.stores.items sound.whole)))
    (hiding_like t.schema (groups_in t.catalog) t.stores.items new.stores.items t.hidden.items (all_like [] t.stores.items new.stores.items bares) sound.hiding)
    (subst (RiseBetween 1 new.unsettled.items) (sym next) (subst (λ xs. RiseBetween 1 xs t.next) (sym unsettled) sound.numbered))
    (ap (are_later (groups_in t.catalog)) unsettled ∙ sound.later)
    (writers_told t new same.schema unsettled next told)
    (λ is. verified (sound.verified (sym noted ∙ is)))
  where
    rows : rows_of new ≡ rows_of t
    rows = ap (λ defs. shown_by defs new.stores.items) same.schema ∙ same_shown t.schema t.stores.items new.stores.items bares

    verified : IsVerified t → IsVerified new
    verified v = record {
      rows = subst (Rattle.own_rows.specs.OwnTables.AreShown []) (sym rows) v.rows;
      own = subst (λ z. Rattle.std.specs.Prelude.All (λ s. Rattle.own_rows.specs.OwnTables.AreShown s.ops z) (seen_all new.sessions)) (sym rows) (subst (λ ss. Rattle.std.specs.Prelude.All (λ s. Rattle.own_rows.specs.OwnTables.AreShown s.ops (rows_of t)) (seen_all ss)) (sym sessions) v.own);
    }

-- the stores have committed operations
pub sound_written : (t new : Stored) (ops : List Op) → IsSound t → KeepsParts t new → SparesHidden (groups_in t.catalog) ops → StoresCommit t ops new.stores.items → AreSessions t.schema new.sessions → RiseBetween 1 new.unsettled.items new.next → are_later (groups_in t.catalog) new.unsettled.items ≡ true → TellsWriters new.schema (first_unsettled new.unsettled.items new.next) new.unsettled.items new.writers → new.verified ≡ false → IsSound new
sound_written t new ops sound same spares commit sessions numbered later writers noted =
    sound_parts t new sound same sessions (bare_kept t.schema groups new.stores.items (kept_like t.schema groups made (bare_all new.stores.items) like made_kept))
    (bare_whole new.stores.items (whole_like made (bare_all new.stores.items) like (whole_ops t.directory ops (bare_all t.stores.items) (whole_bare t.stores.items sound.whole))))
    (hiding_like t.schema groups (bare_all new.stores.items) new.stores.items t.hidden.items (like_bare new.stores.items) (hiding_like t.schema groups made (bare_all new.stores.items) t.hidden.items like made_hiding))
    numbered later writers (λ is. absurd (Rattle.order_laws.proofs.TruthLaws.never_both new.verified is noted))
  where
    groups : List Group
    groups = groups_in t.catalog

    made : List Kept
    made = ops_at t.directory ops (bare_all t.stores.items)

    like : AreLike made (bare_all new.stores.items)
    like = committed_like t ops new.stores.items commit

    bare_are : AreKept t.schema groups (bare_all t.stores.items)
    bare_are = kept_bare t.schema groups t.stores.items sound.kept

    made_kept : AreKept t.schema groups made
    made_kept = kept_ops t.schema t.directory ops groups (bare_all t.stores.items) bare_are

    made_hiding : AreHiding t.schema groups made t.hidden.items
    made_hiding = hiding_ops t.schema t.directory ops groups (bare_all t.stores.items) t.hidden.items bare_are spares (hiding_like t.schema groups t.stores.items (bare_all t.stores.items) t.hidden.items (bare_like t.stores.items) sound.hiding)

-- what the stores show behind a commit is what its operations make
pub commit_shown : (schema : List TableDef) (t : Stored) (ops : List Op) (stores : List Kept) → StoresCommit t ops stores → shown_by schema stores ≡ shown_by schema (ops_at t.directory ops (bare_all t.stores.items))
commit_shown schema t ops stores commit =
    sym (shown_bare schema stores)
    ∙ shown_like schema (ops_at t.directory ops (bare_all t.stores.items)) (bare_all stores) (committed_like t ops stores commit)

-- the new ticket is the next one
pub rise_sealed : (old new : List Sealed) (x : Sealed) (next : ℕ) (ops : List Op) → RiseBetween 1 old next → new ≡ old ++ x ∷ [] → x ≡ record { ticket = record { 0 = next }; ops = ops } → RiseBetween 1 new (next + 1)
rise_sealed old new x next ops rise is sealed =
    let ticket : x.ticket.0 ≡ next = ap (λ (s : Sealed). s.ticket.0) sealed in
    let le : next ≤ x.ticket.0 = omega (arith, ticket) in
    subst (λ xs. RiseBetween 1 xs (next + 1)) (sym is) (subst (λ n. RiseBetween 1 (old ++ x ∷ []) (n + 1)) ticket (rise_last 1 old next x rise le))

-- the writes of a session are on tables of writethrough groups

own_passes : (q : List Op → Bool) (p : Session → Bool) (xs : List Session) (x : Session) → find p xs ≡ Some x → list_all q (own_writes xs) ≡ true → q x.own ≡ true
own_passes q p [] x found all = cc
own_passes q p (y ∷ xs) x found all = by (p y) found (own_passes q p xs x)
  where
    both : (q y.own ≡ true) × (list_all q (own_writes xs) ≡ true)
    both = both_true (q y.own) (list_all q (own_writes xs)) all

    by : (b : Bool) → cond b (Some y) (find p xs) ≡ Some x → (find p xs ≡ Some x → list_all q (own_writes xs) ≡ true → q x.own ≡ true) → q x.own ≡ true
    by true e rest = let one : y ≡ x = cc in ap (λ (z : Session). q z.own) (sym one) ∙ both.0
    by false e rest = rest e both.1

-- they are on tables of writethrough groups
pub own_through : (w : World) (s : Session) → Stands w → session_of w.tier s.label ≡ Some s → are_written_through w.tier.groups s.own ≡ true
own_through w s stands there = own_passes (are_written_through w.tier.groups) (is_labelled s.label) w.tier.sessions s there stands.sessions.through

-- what the tier of a world does

-- what an asynchronous commit may be refused with
abbrev pub later_fault : Session → World → Option Rule
later_fault s w = option_or (at_limit limit.Pending (length w.tier.unsettled)) (option_or (ticket_fault w.tier) (journal_fault w (Commits (sealed_own w.tier s) ∷ [])))

broken_more : (a b c : Option Rule) (r : Rule) → option_or a b ≡ Some r → option_or a (option_or b c) ≡ Some r
broken_more None None c r e = cc
broken_more None (Some x) c r e = e
broken_more (Some x) b c r e = e

none_more : (a b c : Option Rule) → option_or a b ≡ None → option_or a (option_or b c) ≡ c
none_more None None c e = refl
none_more None (Some x) c e = cc
none_more (Some x) b c e = cc

-- the journal comes last
pub broken_later : (s : Session) (w : World) (rule : Rule) → commit_fault s w.tier ≡ Some rule → later_fault s w ≡ Some rule
broken_later s w rule e = broken_more (at_limit limit.Pending (length w.tier.unsettled)) (ticket_fault w.tier) (journal_fault w (Commits (sealed_own w.tier s) ∷ [])) rule e

pub journal_later : (s : Session) (w : World) → commit_fault s w.tier ≡ None → later_fault s w ≡ journal_fault w (Commits (sealed_own w.tier s) ∷ [])
journal_later s w e = none_more (at_limit limit.Pending (length w.tier.unsettled)) (ticket_fault w.tier) (journal_fault w (Commits (sealed_own w.tier s) ∷ [])) e

own_commits : (s : Session) (own : List Op) (w w' : World) (reply : Reply) → (own ≡ [] → ⊥) → is_synchronous_own w.tier s ≡ false → CommitsLater s w w' reply → CommitsOwn s own w w' reply
own_commits s [] w w' reply some apart later = absurd (some refl)
own_commits s (op ∷ ops) w w' reply some apart later = subst (λ b. MatchBool b (CommitsNow s w w' reply) (CommitsLater s w w' reply)) (sym apart) later

-- what follows where nothing is broken
abbrev pub later_answer : Session → World → World → Answer
later_answer s w mid = (committed_unsettled (sealed_own w.tier s) s.label mid.tier, only (Done w.tier.next))

abbrev pub Behind : Session → World → Part
Behind s w = Then (Records s.durable (Commits (sealed_own w.tier s))) (Quietly (later_answer s w))

refuses_later : (s : Session) (w : World) (rule : Rule) → later_fault s w ≡ Some rule → CommitsLater s w w (only (No rule))
refuses_later s w rule broken = subst (λ f. Unless f (Behind s w) w w (only (No rule))) (sym broken) (refl, refl)

commits_later : (s : Session) (w w' : World) (reply : Reply) → later_fault s w ≡ None → Behind s w w w' reply → CommitsLater s w w' reply
commits_later s w w' reply none behind = subst (λ f. Unless f (Behind s w) w w' reply) (sym none) behind

-- there is a ticket

last_none : (x y : Option Rule) → option_or x y ≡ None → y ≡ None
last_none None y e = e
last_none (Some r) y e = cc

not_broken : (b : Bool) (r : Rule) → broken_if (not b) r ≡ None → b ≡ true
not_broken true r e = refl
not_broken false r e = cc

ticket_left : (s : Session) (a : Tier) → commit_fault s a ≡ None → a.next + 1 ≤ 2 ^ 63
ticket_left s a none =
    let free : ticket_fault a ≡ None = last_none (at_limit limit.Pending (length a.unsettled)) (ticket_fault a) none in
    let le : a.next ≤ 9223372036854775807 = leb-true a.next 9223372036854775807 (not_broken (nat_le a.next 9223372036854775807) (past limit.Tickets) free) in
    omega (arith, le)

-- the law of a commit
abbrev pub CommitLaw : Type 0
CommitLaw =
    (w : World) (s : Session) → Stands w → session_of w.tier s.label ≡ Some s → w.tier.next + 1 ≤ 2 ^ 63
    → TakesOwn s.own w (with_tier (committed_unsettled (sealed_own w.tier s) s.label w.tier) w)

-- what is shown then
module _ (law : CommitLaw) (numbers : NumberLaw) (t new : Stored) (w : World) (id : SessionId) (s : Session) (sound : IsSound t) (is : StandsFor t w) (has : HasSession t id s) where
  own_is : open_ops id (seen_all t.sessions) ≡ s.own
  own_is = own_found numbers t id s sound has

  there : session_of w.tier s.label ≡ Some s
  there = its_session t w.tier id s is.stored has

  through : are_written_through w.tier.groups s.own ≡ true
  through = own_through w s is.stands there

  are : AreKept t.schema w.tier.groups t.stores.items
  are = are_kept t w.tier sound is.stored

  bare_are : AreKept t.schema w.tier.groups (bare_all t.stores.items)
  bare_are = kept_bare t.schema w.tier.groups t.stores.items are

  bare_housed : AreHoused t.schema (bare_all t.stores.items) t.directory
  bare_housed = housed_exchanged t.schema w.tier.groups t.stores.items (bare_all t.stores.items) t.directory sound.stores are bare_are

  takes : commit_fault s w.tier ≡ None → TakesOwn s.own w (with_tier (commit_answer s w.tier).0 w)
  takes none = law w s is.stands there (ticket_left s w.tier none)

  pub rows_then : (n : TableState) → new.schema ≡ t.schema → StoresCommit t (open_ops id (seen_all t.sessions)) new.stores.items → applied_all s.own (shown_state w.history w.tier) ≡ Some n → rows_of new ≡ n
  rows_then n schema commit leads =
      ap (λ defs. shown_by defs new.stores.items) schema ∙ commit_shown t.schema t (open_ops id (seen_all t.sessions)) new.stores.items commit
      ∙ ap (λ ops. shown_by t.schema (ops_at t.directory ops (bare_all t.stores.items))) own_is
      ∙ ops_shown t.schema w.tier.groups t.directory s.own (bare_all t.stores.items) n bare_housed bare_are (whole_bare t.stores.items sound.whole) through
      (ap (applied_all s.own) (shown_bare t.schema t.stores.items ∙ is.shows) ∙ leads)

  pub stands_then : commit_fault s w.tier ≡ None → IsStoredAs new (commit_answer s w.tier).0 → StoresCommit t (open_ops id (seen_all t.sessions)) new.stores.items → KeepsHidden t new → StandsFor new (with_tier (commit_answer s w.tier).0 w)
  stands_then none stored commit hidden =
      let own = takes none in
      record {
        stored = stored;
        shows = rows_then (shown_state w.history (commit_answer s w.tier).0) (sym stored.schema ∙ is.stored.schema) commit own.leads;
        hides = hides_still t new w.history hidden is.hides;
        stands = own.stands;
        waits = last_more w.tier.log w.tier.unsettled (sealed_own w.tier s) is.waits;
      }

  pub stays : IsStoredAs new w.tier → bare_all new.stores.items ≡ bare_all t.stores.items → KeepsHidden t new → StandsFor new w
  stays stored bares hidden =
      stands_still t new w is stored
      (ap (λ defs. shown_by defs new.stores.items) (sym stored.schema ∙ is.stored.schema) ∙ same_shown t.schema t.stores.items new.stores.items bares)
      hidden

  some_own : (open_ops id (seen_all t.sessions) ≡ [] → ⊥) → s.own ≡ [] → ⊥
  some_own some e = some (own_is ∙ e)

  apart : are_deferred (groups_in t.catalog) (open_ops id (seen_all t.sessions)) ≡ true → is_synchronous_own w.tier s ≡ false
  apart deferred =
      deferred_not w.tier.groups s.own
      (sym (bare_deferred w.tier.groups s.own) ∙ ap (λ gs. are_deferred gs s.own) is.stored.groups ∙ ap (are_deferred (groups_in t.catalog)) (sym own_is) ∙ deferred)

  -- the abstract tier refuses it
  pub refused_by : (open_ops id (seen_all t.sessions) ≡ [] → ⊥) → are_deferred (groups_in t.catalog) (open_ops id (seen_all t.sessions)) ≡ true → (rule : Rule) → later_fault s w ≡ Some rule → Executes statement.Commit s w w (only (No rule))
  refused_by some deferred rule broken = inl (own_commits s s.own w w (only (No rule)) (some_own some) (apart deferred) (refuses_later s w rule broken))

  -- it does it
  pub done_so : (open_ops id (seen_all t.sessions) ≡ [] → ⊥) → are_deferred (groups_in t.catalog) (open_ops id (seen_all t.sessions)) ≡ true → (w' : World) (reply : Reply) → later_fault s w ≡ None → Behind s w w w' reply → Executes statement.Commit s w w' reply
  done_so some deferred w' reply none behind = inl (own_commits s s.own w w' reply (some_own some) (apart deferred) (commits_later s w w' reply none behind))

-- and without writes
ends_own : (s : Session) (own : List Op) (w w' : World) (reply : Reply) → own ≡ [] → Rattle.cache_tier.specs.CommitSteps.RollsBack s w w' reply → CommitsOwn s own w w' reply
ends_own s [] w w' reply none does = does
ends_own s (op ∷ ops) w w' reply none does = cc

pub ends_commit : (s : Session) (reply : Reply) → s.own ≡ [] → (w w' : World) → Executes statement.Rollback s w w' reply → Executes statement.Commit s w w' reply
ends_commit s reply bare_own w w' (inl does) = inl (ends_own s s.own w w' reply bare_own does)
ends_commit s reply bare_own w w' (inr wants) = inr wants

pub none_long : (ops : List Op) → length ops ≡ 0 → ops ≡ []
none_long [] e = refl
none_long (op ∷ ops) e = cc
