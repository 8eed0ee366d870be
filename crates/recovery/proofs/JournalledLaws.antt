-- What keeps the journal the tier's.
use Rattle.std.proofs.Common.{◌≡◌, ℕ, ◌+◌, ◌≤◌, Bool, true, false, cond, ◌&&◌, ◌||◌, Some, List, [], ◌∷◌, ◌++◌, length, map, refl, sym, ap, subst, ◌∙◌, arith, append_assoc, append-nil}
use Rattle.std.specs.List.{find, list_all}
use Rattle.std.specs.Option.{option_and_then}
use Rattle.std.proofs.Math.Nat.{max-le}
use Rattle.std.proofs.lemmas.List.{map-append}
use Rattle.std.proofs.lemmas.List.Sums.{fold-append}
use Rattle.tier_base.specs.declared.number.TableId.{TableId}
use Rattle.table_defs.specs.declared.definition.TableDef.{TableDef}
use Rattle.table_state.specs.declared.history.Sealed.{Sealed}
use Rattle.table_state.specs.declared.operation.Op.{Op}
use Rattle.table_state.specs.Copies.{is_one_of}
use Rattle.table_state.specs.Histories.{has_ticket, state_of}
use Rattle.table_state.specs.Operations.{table_of}
use Rattle.table_state.specs.Tables.{TableState}
use Rattle.order_laws.specs.Commits.{applied_sealed, pending, virtual_state}
use Rattle.order_laws.specs.OpenWrites.{AllApply, Applies}
use Rattle.order_laws.specs.Sides.{are_on}
use Rattle.order_laws.specs.Standing.{live_tables}
use Rattle.order_laws.proofs.TruthLaws.{both_true, same_some}
use Rattle.recovery_laws.specs.Crashes.{Over, Stands, StandsOn, commits, flags, flushes, with_commit as with_seen_commit, with_flushed}
use Rattle.recovery_laws.specs.Crashes as crash
use Rattle.recovery_laws.specs.Matching.{IsMatched}
use Rattle.recovery_laws.specs.Notes.{Commit, Flag, Note, catalog_of, groups_of, log_in, next_of, told}
use Rattle.recovery_laws.proofs.CrashLaws.{event_keeps}
use Rattle.recovery_laws.proofs.TieLaws.{tied_commit, tied_quiet}
use Rattle.cache_tier.specs.CommitSteps.{committed_unsettled, sealed_own}
use Rattle.cache_tier.specs.AlterSteps.{with_state}
use Rattle.cache_tier.specs.Groups.{Group, covers, defines_name, is_called, is_read_only, is_table_of, is_writethrough}
use Rattle.sql_subset.specs.declared.stmt.RefreshState.{RefreshState}
use Rattle.cache_tier.specs.Journals.{Commits, Journal, JournalEntry, SetsLoaded, SetsState, next_behind, next_with, with_noted}
use Rattle.cache_tier.specs.JournalWays.{given}
use Rattle.cache_tier.specs.PassedSteps.{with_ticket}
use Rattle.cache_tier.specs.Recency.{with_commit}
use Rattle.cache_tier.specs.Shown.{no_rows}
use Rattle.cache_tier.specs.StandingBetween.{are_written_through, live_groups_of, own_writes}
use Rattle.cache_tier.specs.StandingBetween as between
use Rattle.cache_tier.specs.TierStates.{Session, Tier, is_labelled, opened, session_of, with_group}
use Rattle.cache_tier.specs.Worlds.{World}
use Rattle.cache_tier.proofs.GroupTables.{through_on}
use Rattle.recovery.specs.Journalled.{AreAlike, IsAlike, IsFlushed, IsFlushedWith, IsJournalled, IsJournalledOn, IsQuiet, seen_as, with_commit_noted, with_flushed_entry}
use Rattle.recovery.specs.Recalling.{Recalls, RecallsAll, note_of, notes_of, state_number, with_loaded}
use Rattle.recovery.proofs.FoldLaws.{IsFolded}
use Rattle.recovery.proofs.LiveLaws as now
use Rattle.recovery.proofs.LiveLaws.{unshared_back}
use Rattle.recovery.proofs.PointLaws.{StaysUnshared}
use Rattle.recovery.proofs.RecalledLaws.{next_is}
use Rattle.recovery.proofs.SafeLaws.{flush_safe, safely, still_safe, wayless}

-- ---- entries

recalls_push : (entries : List JournalEntry) (e : JournalEntry) (t mid t' : Tier) → RecallsAll entries t mid → Recalls e mid t' → RecallsAll (entries ++ e ∷ []) t t'
recalls_push [] e t mid t' all one = (t', subst (λ x. Recalls e x t') all one, refl)
recalls_push (x ∷ entries) e t mid t' (next, first, rest) one = (next, first, recalls_push entries e next mid t' rest one)

-- ---- sessions

pub found_applies : (v : TableState) (test : Session → Bool) (ss : List Session) (s : Session) → find test ss ≡ Some s → AllApply v (own_writes ss) → Applies v s.own
found_applies v test [] s e all = Prim.cc
found_applies v test (r ∷ ss) s e all = by (test r) e (λ h. found_applies v test ss s h all.1)
  where
    by : (b : Bool) → cond b (Some r) (find test ss) ≡ Some s → (find test ss ≡ Some s → Applies v s.own) → Applies v s.own
    by true e rest = subst (λ (x : Session). Applies v x.own) (same_some e) all.0
    by false e rest = rest e

found_through : (groups : List Group) (test : Session → Bool) (ss : List Session) (s : Session) → find test ss ≡ Some s → list_all (are_written_through groups) (own_writes ss) ≡ true → are_written_through groups s.own ≡ true
found_through groups test [] s e all = Prim.cc
found_through groups test (r ∷ ss) s e all = by (test r) e (both_true (are_written_through groups r.own) (list_all (are_written_through groups) (own_writes ss)) all)
    (λ h rest. found_through groups test ss s h rest)
  where
    by : (b : Bool) → cond b (Some r) (find test ss) ≡ Some s → (are_written_through groups r.own ≡ true) × (list_all (are_written_through groups) (own_writes ss) ≡ true)
        → (find test ss ≡ Some s → list_all (are_written_through groups) (own_writes ss) ≡ true → are_written_through groups s.own ≡ true) → are_written_through groups s.own ≡ true
    by true e both rest = subst (λ (x : Session). are_written_through groups x.own ≡ true) (same_some e) both.0
    by false e both rest = rest e both.1

-- ---- the groups of the catalog

-- groups that are alike have one kind
pub alike_kind : (g h : Group) → IsAlike g h → is_read_only h ≡ is_read_only g
alike_kind g h a = λ i. is_read_only (record h { def = a.def i })

pub alike_commit : (schema : TableState) (ops : List Op) (gs hs : List Group) → AreAlike gs hs → AreAlike gs (map (with_commit schema ops) hs)
alike_commit schema ops [] [] are = tt
alike_commit schema ops (g ∷ gs) (h ∷ hs) are = (by (is_writethrough h), alike_commit schema ops gs hs are.1)
  where
    by : (b : Bool) → IsAlike g (cond b (record h { keys = Rattle.cache_tier.specs.Recency.with_entered (Rattle.std.specs.FinMap.keys (Rattle.cache_tier.specs.Recency.entered schema h ops)) (Rattle.std.specs.List.flat_map (Rattle.cache_tier.specs.Recency.left_by schema h) ops) h.keys }) h)
    by true = record { def = are.0.def; state = are.0.state; loaded = are.0.loaded }
    by false = are.0
alike_commit schema ops [] (h ∷ hs) are = absurd are
alike_commit schema ops (g ∷ gs) [] are = absurd are

ops_same : (a b : List TableId) → ((t : TableId) → is_one_of a t ≡ is_one_of b t) → (ops : List Op) → are_on a ops ≡ are_on b ops
ops_same a b same [] = refl
ops_same a b same (op ∷ ops) = λ i. same (table_of op) i && ops_same a b same ops i

pub alike_trans : (gs hs ks : List Group) → AreAlike gs hs → AreAlike hs ks → AreAlike gs ks
alike_trans [] [] [] a b = tt
alike_trans (g ∷ gs) (h ∷ hs) (k ∷ ks) a b =
    (record { def = b.0.def ∙ a.0.def; state = λ r. b.0.state (alike_kind g h a.0 ∙ r) ∙ a.0.state r; loaded = b.0.loaded ∙ a.0.loaded }, alike_trans gs hs ks a.1 b.1)
alike_trans [] [] (k ∷ ks) a b = absurd b
alike_trans [] (h ∷ hs) ks a b = absurd a
alike_trans (g ∷ gs) [] ks a b = absurd a
alike_trans (g ∷ gs) (h ∷ hs) [] a b = absurd b

pub alike_self : (gs : List Group) → AreAlike gs gs
alike_self [] = tt
alike_self (g ∷ gs) = (record { def = refl; state = λ r. refl; loaded = refl }, alike_self gs)

-- a group of this name is changed
abbrev pub turned : List ℕ → (Group → Group) → Group → Group
turned name change g = cond (is_called name g) (change g) g

-- the change does the same to groups that are alike, and keeps their names
pub record TurnsAlike (change : Group → Group) : Type 0 where
  pub alike : (g h : Group) → IsAlike g h → IsAlike (change g) (change h)

pub state_steady : (state : RefreshState) → TurnsAlike (with_state state)
state_steady state = record { alike = λ g h a. record { def = a.def; state = λ r. refl; loaded = a.loaded } }

pub loaded_steady : (flag : Bool) → TurnsAlike (with_loaded flag)
loaded_steady flag = record { alike = λ g h a. record { def = a.def; state = a.state; loaded = refl } }

pub alike_turned : (name : List ℕ) (change : Group → Group) → TurnsAlike change → (gs hs : List Group) → AreAlike gs hs → AreAlike (map (turned name change) gs) (map (turned name change) hs)
alike_turned name change steady [] [] a = tt
alike_turned name change steady (g ∷ gs) (h ∷ hs) a = (
  subst (λ b. IsAlike (cond b (change g) g) (turned name change h)) (λ i. defines_name name (a.0.def i)) (by (is_called name h)),
  alike_turned name change steady gs hs a.1,
)
  where
    by : (b : Bool) → IsAlike (cond b (change g) g) (cond b (change h) h)
    by true = steady.alike g h a.0
    by false = a.0
alike_turned name change steady [] (h ∷ hs) a = absurd a
alike_turned name change steady (g ∷ gs) [] a = absurd a

-- a change that keeps definitions keeps the tables that are written through
turned_tables : (name : List ℕ) (change : Group → Group) → ((g : Group) → (change g).def ≡ g.def) → (gs : List Group) (u : TableId) → is_table_of is_writethrough (map (turned name change) gs) u ≡ is_table_of is_writethrough gs u
turned_tables name change same [] u = refl
turned_tables name change same (g ∷ gs) u = λ i. by (is_called name g) i || turned_tables name change same gs u i
  where
    by : (b : Bool) → (is_writethrough (cond b (change g) g) && covers u (cond b (change g) g)) ≡ (is_writethrough g && covers u g)
    by true = λ i. is_writethrough (record g { def = same g i }) && covers u (record g { def = same g i })
    by false = refl

pub turned_back : (shared : List TableId) (name : List ℕ) (change : Group → Group) → ((g : Group) → (change g).def ≡ g.def) → (gs hs : List Group) → AreAlike (map (turned name change) gs) hs → StaysUnshared shared gs hs
turned_back shared name change same gs hs are alone u e =
    sym (turned_tables name change same gs u) ∙ unshared_back shared (map (turned name change) gs) hs are alone u e

module _ (w : World) (early : List Sealed) (j : IsJournalled w early) where
  abbrev pub schema : List TableDef
  schema = j.backing.schema

  abbrev pub notes : List Note
  notes = notes_of schema (given w.journal)

  abbrev pub seen : crash.World
  seen = seen_as schema w early j.late

  pub given_is : crash.given seen ≡ notes
  given_is = now.given_is w early j

  pub matched : IsMatched notes w.history
  matched = now.matched w early j

  pub folded : IsFolded schema j.catalog (catalog_of notes)
  folded = now.folded w early j

  -- the tables of live groups are the tier's
  pub live : (u : TableId) → is_one_of (live_tables (groups_of notes)) u ≡ is_table_of is_writethrough w.tier.groups u
  live = now.live w early j

  -- a session's transaction commits
  module _ (s : Session) (stands : between.Stands w) (there : session_of w.tier s.label ≡ Some s) where
    abbrev pub x : Sealed
    x = sealed_own w.tier s

    abbrev entry : JournalEntry
    entry = Commits x

    abbrev v : TableState
    v = stands.flow.stand.over.virtual

    over : Over seen j.backing v
    over = record {
      leaves = j.leaves;
      is = ap (λ l. virtual_state w.history (log_in w.history l)) given_is ∙ ap (λ p. option_and_then (applied_sealed p) (state_of w.history)) (sym j.tie) ∙ stands.flow.stand.over.virtual_is;
    }

    pub le : next_of (crash.given seen) ≤ w.tier.next
    le = subst (λ n. n ≤ w.tier.next) (next_is schema w.history (given w.journal) matched ∙ ap next_of (sym given_is)) j.next

    pub applies : Applies v s.own
    applies = found_applies v (is_labelled s.label) w.tier.sessions s there stands.sessions.virtual

    pub on : are_on (live_tables (crash.live_of seen)) s.own ≡ true
    on = ap (λ l. are_on (live_tables (groups_of l)) s.own) given_is
        ∙ ops_same (live_tables (groups_of notes)) (live_tables (live_groups_of w.tier.groups)) (λ u. live u ∙ sym (Rattle.cache_tier.proofs.GroupTables.live_table w.tier.groups u)) s.own
        ∙ through_on w.tier.groups s.own
        ∙ found_through w.tier.groups (is_labelled s.label) w.tier.sessions s there stands.sessions.through

    kept : StandsOn (with_seen_commit x seen) early
    kept = event_keeps seen (with_seen_commit x seen) early (commits x j.backing v applies.top over le applies.leads on) j.stands

    pub fresh : has_ticket x.ticket.0 w.history ≡ false
    fresh = stands.flow.stand.over.below w.tier.next (omega arith)

    given_then : given (with_noted entry w.journal) ≡ given w.journal ++ entry ∷ []
    given_then = sym (append_assoc w.journal.flushed w.journal.tail (entry ∷ []))

    notes_then : notes_of schema (given (with_noted entry w.journal)) ≡ notes ++ Commit x ∷ []
    notes_then = ap (notes_of schema) given_then ∙ map-append (note_of schema) (given w.journal) (entry ∷ [])

    higher : next_behind (given w.journal ++ entry ∷ []) ≤ w.tier.next + 1
    higher =
        subst (λ n. n ≤ w.tier.next + 1) (sym (fold-append next_with 1 (given w.journal) (entry ∷ [])))
        (max-le {a = next_behind (given w.journal)} {b = w.tier.next + 1} {k = w.tier.next + 1} (let below = j.next in omega (arith, below)) (omega arith))

    abbrev catalog_then : Tier
    catalog_then = record (j.catalog) { next = next_with j.catalog.next entry }

    pub commit_journalled : IsJournalledOn (with_commit_noted s w) early
    commit_journalled = record {
      now = kept.now;
      is = record {
        kept = j.kept;
        backing = j.backing;
        leaves = j.leaves;
        late = j.late ++ x ∷ [];
        tail = ap (λ l. l ++ entry ∷ []) j.tail ∙ sym (map-append Commits j.late (x ∷ []));
        stands = subst (λ l. Stands (record { flushed = notes_of schema w.journal.flushed; late = j.late ++ x ∷ []; history = w.history; commits = l }) kept.now) kept.stands.are kept.stands;
        settings = j.settings;
        catalog = catalog_then;
        recalls = subst (λ l. RecallsAll l (opened j.settings 0 schema) catalog_then) (sym given_then) (recalls_push (given w.journal) entry (opened j.settings 0 schema) j.catalog catalog_then j.recalls refl);
        alike = alike_commit (no_rows (with_ticket w.tier)) s.own j.catalog.groups w.tier.groups j.alike;
        tie = tied_commit w.history w.tier.log notes x fresh j.tie ∙ sym (ap (λ l. pending w.history (log_in w.history l)) notes_then);
        next = subst (λ l. next_behind l ≤ w.tier.next + 1) (sym given_then) higher;
        safe = still_safe w (committed_unsettled x s.label w.tier) j.safe (unshared_back w.shared w.tier.groups _ (alike_commit (no_rows (with_ticket w.tier)) s.own w.tier.groups w.tier.groups (alike_self w.tier.groups)));
      };
      more = kept.more;
      grows = kept.grows;
    }

  -- the tail is flushed
  module _ (new : Journal) (is : IsFlushed (length w.history) w.journal new) where
    flushed_on : StandsOn (with_flushed (crash.given seen) seen) early
    flushed_on = event_keeps seen (with_flushed (crash.given seen) seen) early flushes j.stands

    given_same : given new ≡ given w.journal
    given_same = (λ i. is.flushed i ++ is.tail i) ∙ append-nil (given w.journal)

    flushed_seen : crash.given seen ≡ notes_of schema new.flushed
    flushed_seen = given_is ∙ ap (notes_of schema) (sym is.flushed)

    flush_bare : IsJournalled (wayless (record w { journal = new })) flushed_on.now
    flush_bare = record {
      kept = is.kept;
      backing = j.backing;
      leaves = j.leaves;
      late = [];
      tail = is.tail;
      stands = subst (λ l. Stands (record { flushed = l; late = []; history = w.history; commits = flushed_on.now ++ [] }) flushed_on.now) flushed_seen
          (subst (λ l. Stands (record { flushed = crash.given seen; late = []; history = w.history; commits = l }) flushed_on.now) flushed_on.stands.are flushed_on.stands);
      settings = j.settings;
      catalog = j.catalog;
      recalls = subst (λ l. RecallsAll l (opened j.settings 0 schema) j.catalog) (sym given_same) j.recalls;
      alike = j.alike;
      tie = j.tie ∙ sym (ap (λ l. pending w.history (log_in w.history (notes_of schema l))) given_same);
      next = subst (λ l. next_behind l ≤ w.tier.next) (sym given_same) j.next;
      safe = tt;
    }

    pub flush_journalled : IsJournalledOn (record w { journal = new }) early
    flush_journalled = record {
      now = flushed_on.now;
      is = safely (record w { journal = new }) flushed_on.now flush_bare
          (flush_safe w w.tier new flushed_on.now [] j.safe flush_bare (λ alone. alone) (is.flushed ∙ sym (append-nil (given w.journal))) is.way);
      more = flushed_on.more;
      grows = flushed_on.grows;
    }

  -- an entry is flushed behind the tail
  module _ (e : JournalEntry) (new : Journal) (is : IsFlushedWith e (length w.history) w.journal new) (kept_on : StandsOn (with_flushed (crash.given seen ++ note_of schema e ∷ []) seen) early) where
    given_with : given new ≡ given w.journal ++ e ∷ []
    given_with = (λ i. is.flushed i ++ is.tail i) ∙ append-nil (given w.journal ++ e ∷ [])

    notes_with : notes_of schema (given w.journal ++ e ∷ []) ≡ notes ++ note_of schema e ∷ []
    notes_with = map-append (note_of schema) (given w.journal) (e ∷ [])

    seen_with : crash.given seen ++ note_of schema e ∷ [] ≡ notes_of schema new.flushed
    seen_with = ap (λ l. l ++ note_of schema e ∷ []) given_is ∙ sym notes_with ∙ ap (notes_of schema) (sym is.flushed)

    module _ (t catalog' : Tier) (one : Recalls e j.catalog catalog') (alike : AreAlike catalog'.groups t.groups) (log : t.log ≡ w.tier.log) (silent : told w.history (note_of schema e) ≡ []) (below : next_behind (given w.journal ++ e ∷ []) ≤ t.next) (up : w.tier.next ≤ t.next) (back : StaysUnshared w.shared w.tier.groups t.groups) where
      entry_bare : IsJournalled (wayless (with_flushed_entry t new w)) kept_on.now
      entry_bare = record {
        kept = is.kept;
        backing = j.backing;
        leaves = j.leaves;
        late = [];
        tail = is.tail;
        stands = subst (λ l. Stands (record { flushed = l; late = []; history = w.history; commits = kept_on.now ++ [] }) kept_on.now) seen_with
            (subst (λ l. Stands (record { flushed = crash.given seen ++ note_of schema e ∷ []; late = []; history = w.history; commits = l }) kept_on.now) kept_on.stands.are kept_on.stands);
        settings = j.settings;
        catalog = catalog';
        recalls = subst (λ l. RecallsAll l (opened j.settings 0 schema) catalog') (sym given_with) (recalls_push (given w.journal) e (opened j.settings 0 schema) j.catalog catalog' j.recalls one);
        alike = alike;
        tie = ap (pending w.history) log ∙ tied_quiet w.history w.tier.log notes (note_of schema e) silent j.tie ∙ sym (ap (λ l. pending w.history (log_in w.history l)) (ap (notes_of schema) given_with ∙ notes_with));
        next = subst (λ l. next_behind l ≤ t.next) (sym given_with) below;
        safe = tt;
      }

      pub entry_journalled : IsJournalledOn (with_flushed_entry t new w) early
      entry_journalled = record {
        now = kept_on.now;
        is = safely (with_flushed_entry t new w) kept_on.now entry_bare (flush_safe w t new kept_on.now (e ∷ []) j.safe entry_bare back is.flushed is.way);
        more = kept_on.more;
        grows = kept_on.grows;
      }

  pub below_same : (e : JournalEntry) (next : ℕ) → ((n : ℕ) → next_with n e ≡ n) → w.tier.next ≤ next → next_behind (given w.journal ++ e ∷ []) ≤ next
  below_same e next same le =
      subst (λ n. n ≤ next) (sym (fold-append next_with 1 (given w.journal) (e ∷ []) ∙ same (next_behind (given w.journal)))) (let below = j.next in omega (arith, below, le))

  -- a STATE, a flag
  pub state_journalled : (name : List ℕ) (state : RefreshState) (t : Tier) (new : Journal) → IsFlushedWith (SetsState name state) (length w.history) w.journal new → IsQuiet (with_group name (with_state state) w.tier) t → IsJournalledOn (with_flushed_entry t new w) early
  state_journalled name state t new is quiet =
      entry_journalled (SetsState name state) new is (event_keeps seen (with_flushed (crash.given seen ++ Flag name (state_number state) ∷ []) seen) early (flags name (state_number state)) j.stands)
      t (with_group name (with_state state) j.catalog) refl (alike_trans (map (turned name (with_state state)) j.catalog.groups) (map (turned name (with_state state)) w.tier.groups) t.groups (alike_turned name (with_state state) (state_steady state) j.catalog.groups w.tier.groups j.alike) quiet.groups)
      quiet.log refl (below_same (SetsState name state) t.next (λ n. refl) quiet.next) quiet.next
      (turned_back w.shared name (with_state state) (λ g. refl) w.tier.groups t.groups quiet.groups)

  pub loaded_journalled : (name : List ℕ) (flag : Bool) (t : Tier) (new : Journal) → IsFlushedWith (SetsLoaded name flag) (length w.history) w.journal new → IsQuiet (with_group name (with_loaded flag) w.tier) t → IsJournalledOn (with_flushed_entry t new w) early
  loaded_journalled name flag t new is quiet =
      entry_journalled (SetsLoaded name flag) new is (event_keeps seen (with_flushed (crash.given seen ++ Flag name (cond flag 4 0) ∷ []) seen) early (flags name (cond flag 4 0)) j.stands)
      t (with_group name (with_loaded flag) j.catalog) refl (alike_trans (map (turned name (with_loaded flag)) j.catalog.groups) (map (turned name (with_loaded flag)) w.tier.groups) t.groups (alike_turned name (with_loaded flag) (loaded_steady flag) j.catalog.groups w.tier.groups j.alike) quiet.groups)
      quiet.log refl (below_same (SetsLoaded name flag) t.next (λ n. refl) quiet.next) quiet.next
      (turned_back w.shared name (with_loaded flag) (λ g. refl) w.tier.groups t.groups quiet.groups)

  -- nothing that an entry tells changes
  pub quiet_journalled : (t : Tier) → IsQuiet w.tier t → IsJournalled (record w { tier = t }) early
  quiet_journalled t quiet = record {
    kept = j.kept;
    backing = j.backing;
    leaves = j.leaves;
    late = j.late;
    tail = j.tail;
    stands = j.stands;
    settings = j.settings;
    catalog = j.catalog;
    recalls = j.recalls;
    alike = alike_trans j.catalog.groups w.tier.groups t.groups j.alike quiet.groups;
    tie = ap (pending w.history) quiet.log ∙ j.tie;
    next = let below = j.next in let up = quiet.next in omega (arith, below, up);
    safe = still_safe w t j.safe (unshared_back w.shared w.tier.groups t.groups quiet.groups);
  }

pub quiet_kept : (w : World) (early : List Sealed) (t : Tier) → IsJournalled w early → IsQuiet w.tier t → IsJournalled (record w { tier = t }) early
quiet_kept w early t j quiet = quiet_journalled w early j t quiet

pub state_kept : (w : World) (early : List Sealed) (name : List ℕ) (state : RefreshState) (t : Tier) (new : Journal) → IsJournalled w early → IsFlushedWith (SetsState name state) (length w.history) w.journal new → IsQuiet (with_group name (with_state state) w.tier) t → IsJournalledOn (with_flushed_entry t new w) early
state_kept w early name state t new j is quiet = state_journalled w early j name state t new is quiet

pub loaded_kept : (w : World) (early : List Sealed) (name : List ℕ) (flag : Bool) (t : Tier) (new : Journal) → IsJournalled w early → IsFlushedWith (SetsLoaded name flag) (length w.history) w.journal new → IsQuiet (with_group name (with_loaded flag) w.tier) t → IsJournalledOn (with_flushed_entry t new w) early
loaded_kept w early name flag t new j is quiet = loaded_journalled w early j name flag t new is quiet

pub commits_kept : (w : World) (early : List Sealed) (s : Session) → between.Stands w → IsJournalled w early → session_of w.tier s.label ≡ Some s → IsJournalledOn (with_commit_noted s w) early
commits_kept w early s stands j there = commit_journalled w early j s stands there

pub flushes_kept : (w : World) (early : List Sealed) (new : Journal) → IsJournalled w early → IsFlushed (length w.history) w.journal new → IsJournalledOn (record w { journal = new }) early
flushes_kept w early new j is = flush_journalled w early j new is
