-- What keeps the journal the tier's where a slot is begun anew.
use Rattle.std.proofs.Common.{◌≡◌, ℕ, ◌≤◌, Bool, true, false, cond, max, Some, List, [], ◌∷◌, ◌++◌, inl, inr, ◌⊎◌, length, map, refl, sym, ap, subst, ◌∙◌, arith, append_assoc, append-nil}
use Rattle.std.specs.Prelude.{fold}
use Rattle.std.specs.List.{filter}
use Rattle.std.proofs.Math.Nat.{max-eq_right}
use Rattle.std.proofs.lemmas.List.{map-append}
use Rattle.std.proofs.lemmas.List.Sums.{fold-append}
use Rattle.table_defs.specs.declared.definition.TableDef.{TableDef}
use Rattle.table_state.specs.declared.history.Entry.{Entry}
use Rattle.table_state.specs.declared.history.Sealed.{Sealed}
use Rattle.table_state.specs.Histories.{has_ticket, state_of}
use Rattle.table_state.specs.Tables.{TableState}
use Rattle.order_laws.specs.Commits.{LiveGroup, Once, pending}
use Rattle.order_laws.specs.Standing.{AreClosed, GroupsAreOrdered, Stand, progress_of}
use Rattle.order_laws.proofs.TruthLaws.{same_some}
use Rattle.order_laws.proofs.WholeLaws.{stand_begins, stand_group}
use Rattle.recovery_laws.specs.Crashes.{Among, Event, Stands, StandsOn, with_flushed}
use Rattle.recovery_laws.specs.Crashes as crash
use Rattle.recovery_laws.specs.Notes.{Commit, Define, Flag, Named, Note, catalog_of, commits_in, found, groups_of, log_in, next_of}
use Rattle.recovery_laws.specs.Rotations.{AllLater, definitions, flags_of, rotated}
use Rattle.recovery_laws.proofs.CrashLaws.{event_keeps, more_commits, rotation_holds}
use Rattle.recovery_laws.proofs.MatchLaws.{matched_stands}
use Rattle.recovery_laws.proofs.RenewLaws.{rotation_event}
use Rattle.recovery_laws.proofs.TieLaws.{tied_rotation}
use Rattle.cache_tier.specs.Commits.{tables_of}
use Rattle.cache_tier.specs.Groups.{Group, is_read_only}
use Rattle.cache_tier.specs.Journals.{Commits, Journal, JournalEntry, Marks, next_behind, next_with}
use Rattle.cache_tier.specs.JournalWays.{given}
use Rattle.cache_tier.specs.Rotations.{definition_entry}
use Rattle.cache_tier.specs.StandingBetween.{Each}
use Rattle.cache_tier.specs.StandingBetween as between
use Rattle.cache_tier.specs.TierStates.{Tier, opened}
use Rattle.cache_tier.specs.Worlds.{World}
use Rattle.recovery.specs.Journalled.{AreAlike, IsJournalled, IsJournalledOn, IsRenewed}
use Rattle.recovery.specs.Recalling.{RecallsAll, note_of, notes_of, state_number}
use Rattle.recovery.proofs.FoldLaws.{IsFolded, written}
use Rattle.recovery.proofs.JournalledLaws.{alike_kind, alike_trans, folded, given_is, matched, notes, seen}
use Rattle.recovery.proofs.LiveLaws.{commits_seen}
use Rattle.recovery.proofs.NewestLaws.{Pair, newest, pair, plain, tie}
use Rattle.recovery.proofs.RecalledLaws.{next_is}
use Rattle.recovery.specs.SafeWays.{IsHeldIn}
use Rattle.recovery.proofs.PointLaws.{commits_same}
use Rattle.recovery.proofs.RoundedLaws.{no_late}
use Rattle.recovery.proofs.SafeLaws.{safely, turn_safe, wayless}
use Rattle.recovery.proofs.SlotLaws.{IsMade, all_made, begun, flag_entry, is_loaded, renewed, renewed_alike, slot_of, slot_recalled, state_entry}

-- ---- where nothing is unsettled, no transaction stands over the history as all do

abbrev at_next : ℕ → List LiveGroup → List LiveGroup
at_next next [] = []
at_next next (g ∷ gs) = record { tables = g.tables; first = next } ∷ at_next next gs

bare : (gs : List LiveGroup) (h : List Entry) (next : ℕ) (b : TableState) → state_of h ≡ Some b → Once h → 1 ≤ next → ((t : ℕ) → next ≤ t → has_ticket t h ≡ false) → AreClosed gs b.schema → Stand (progress_of (at_next next gs) h [] next)
bare [] h next b leaves once le below closed = stand_begins h next b leaves once le below
bare (g ∷ gs) h next b leaves once le below closed =
    let rest = bare gs h next b leaves once le below closed.1 in
    let same : b.schema ≡ rest.over.backing.schema = ap (λ (x : TableState). x.schema) (same_some (sym leaves ∙ rest.over.leaves)) in
    stand_group (at_next next gs) h [] next rest (record { tables = g.tables; first = next }) (subst (Rattle.order_laws.specs.Sides.IsClosed g.tables) same closed.0) refl refl

ordered_bare : (gs : List LiveGroup) (h : List Entry) (log : List Sealed) (schema other : List TableDef) (low next : ℕ) → low ≤ next → GroupsAreOrdered gs h log other low → GroupsAreOrdered (at_next next gs) h [] schema next → GroupsAreOrdered gs h [] schema next
ordered_bare [] h log schema other low next le old all = tt
ordered_bare (g ∷ gs) h log schema other low next le old all = (
  record { closed = all.0.closed; first = (let f = old.0.first in omega (arith, f, le)); none_below = tt; state = all.0.state; ordered = all.0.ordered },
  ordered_bare gs h log schema other low next le old.1 all.1,
)

closed_of : (gs : List LiveGroup) (h : List Entry) (log : List Sealed) (schema : List TableDef) (next : ℕ) → GroupsAreOrdered gs h log schema next → AreClosed gs schema
closed_of [] h log schema next all = tt
closed_of (g ∷ gs) h log schema next all = (all.0.closed, closed_of gs h log schema next all.1)

stands_bare : (gs : List LiveGroup) (h : List Entry) (log : List Sealed) (low next : ℕ) → Stand (progress_of gs h log low) → low ≤ next → 1 ≤ next → ((t : ℕ) → next ≤ t → has_ticket t h ≡ false) → Stand (progress_of gs h [] next)
stands_bare gs h log low next stand le least below =
    let all = bare gs h next stand.over.backing stand.over.leaves stand.over.legal.once least below (closed_of gs h log stand.over.backing.schema low stand.over.ordered) in
    record {
      over = record {
        backing = all.over.backing;
        leaves = all.over.leaves;
        virtual = all.over.virtual;
        virtual_is = all.over.virtual_is;
        rise = all.over.rise;
        below = all.over.below;
        legal = all.over.legal;
        ordered = ordered_bare gs h log all.over.backing.schema stand.over.backing.schema low next le stand.over.ordered all.over.ordered;
      };
      live = refl;
      known = refl;
    }

none_later : (gs : List LiveGroup) → AllLater gs []
none_later [] = tt
none_later (g ∷ gs) = (tt, none_later gs)

-- ---- the entries of groups that are alike

definitions_alike : (gs hs : List Group) → AreAlike gs hs → map definition_entry gs ≡ map definition_entry hs
definitions_alike [] [] are = refl
definitions_alike (g ∷ gs) (h ∷ hs) are = λ i. definition_entry (record g { def = sym are.0.def i }) ∷ definitions_alike gs hs are.1 i
definitions_alike [] (h ∷ hs) are = absurd are
definitions_alike (g ∷ gs) [] are = absurd are

states_alike : (gs hs : List Group) → AreAlike gs hs → map state_entry (filter is_read_only gs) ≡ map state_entry (filter is_read_only hs)
states_alike [] [] are = refl
states_alike (g ∷ gs) (h ∷ hs) are = by (is_read_only g) refl (states_alike gs hs are.1) ∙ ap (λ b. map state_entry (cond b (h ∷ filter is_read_only hs) (filter is_read_only hs))) (sym (alike_kind g h are.0))
  where
    by : (b : Bool) → is_read_only g ≡ b → map state_entry (filter is_read_only gs) ≡ map state_entry (filter is_read_only hs)
        → map state_entry (cond (is_read_only g) (g ∷ filter is_read_only gs) (filter is_read_only gs)) ≡ map state_entry (cond (is_read_only g) (h ∷ filter is_read_only hs) (filter is_read_only hs))
    by true e rest =
        ap (λ b. map state_entry (cond b (g ∷ filter is_read_only gs) (filter is_read_only gs))) e
        ∙ (λ i. state_entry (record g { def = sym are.0.def i; state = sym (are.0.state e) i }) ∷ rest i)
        ∙ ap (λ b. map state_entry (cond b (h ∷ filter is_read_only hs) (filter is_read_only hs))) (sym e)
    by false e rest =
        ap (λ b. map state_entry (cond b (g ∷ filter is_read_only gs) (filter is_read_only gs))) e ∙ rest
        ∙ ap (λ b. map state_entry (cond b (h ∷ filter is_read_only hs) (filter is_read_only hs))) (sym e)
states_alike [] (h ∷ hs) are = absurd are
states_alike (g ∷ gs) [] are = absurd are

flags_alike : (gs hs : List Group) → AreAlike gs hs → map flag_entry (filter is_loaded gs) ≡ map flag_entry (filter is_loaded hs)
flags_alike [] [] are = refl
flags_alike (g ∷ gs) (h ∷ hs) are = by g.loaded (flags_alike gs hs are.1) ∙ ap (λ b. map flag_entry (cond b (h ∷ filter is_loaded hs) (filter is_loaded hs))) (sym are.0.loaded)
  where
    by : (b : Bool) → map flag_entry (filter is_loaded gs) ≡ map flag_entry (filter is_loaded hs) → map flag_entry (cond b (g ∷ filter is_loaded gs) (filter is_loaded gs)) ≡ map flag_entry (cond b (h ∷ filter is_loaded hs) (filter is_loaded hs))
    by true rest = λ i. flag_entry (record g { def = sym are.0.def i }) ∷ rest i
    by false rest = rest
flags_alike [] (h ∷ hs) are = absurd are
flags_alike (g ∷ gs) [] are = absurd are

slot_alike : (next : ℕ) (gs hs : List Group) (us : List Sealed) → AreAlike gs hs → slot_of next gs us ≡ slot_of next hs us
slot_alike next gs hs us are = λ i. Marks next ∷ (definitions_alike gs hs are i ++ (states_alike gs hs are i ++ (flags_alike gs hs are i ++ map Commits us)))

-- ---- as the laws of recovery see them

abbrev defines_of : List Pair → List Note
defines_of [] = []
defines_of (x ∷ xs) = defines_of xs ++ Define x.0 x.1.tables ∷ []

definitions_plain : (ns : List Named) → definitions ns ≡ defines_of (plain ns)
definitions_plain [] = refl
definitions_plain (n ∷ ns) = ap (λ l. l ++ Define n.name n.group.tables ∷ []) (definitions_plain ns)

defines_last : (xs : List Pair) (x : Pair) → defines_of (xs ++ x ∷ []) ≡ Define x.0 x.1.tables ∷ defines_of xs
defines_last [] x = refl
defines_last (y ∷ xs) x = ap (λ l. l ++ Define y.0 y.1.tables ∷ []) (defines_last xs x)

abbrev defined_note : Group → Note
defined_note g = Define g.def.name (tie g).tables

defines_newest : (gs : List Group) → defines_of (newest gs) ≡ map defined_note gs
defines_newest [] = refl
defines_newest (g ∷ gs) = defines_last (newest gs) (pair g) ∙ ap (λ l. defined_note g ∷ l) (defines_newest gs)

note_made : (t : Tier) (g : Group) → IsMade t.schema g → note_of t.schema (definition_entry g) ≡ defined_note g
note_made t g made =
    ap (λ l. Define g.def.declared.name l) (written t g.def.declared g.def.tree made.is)
    ∙ (λ i. Define (sym made.def i).name (cond (is_read_only (record (begun t g) { def = sym made.def i })) [] (tables_of g.def.tree)))

notes_made : (t : Tier) (gs : List Group) → Each (IsMade t.schema) gs → notes_of t.schema (map definition_entry gs) ≡ map defined_note gs
notes_made t [] made = refl
notes_made t (g ∷ gs) made = λ i. note_made t g made.0 i ∷ notes_made t gs made.1 i

abbrev state_flag : Group → List ℕ × ℕ
state_flag g = (g.def.name, state_number g.state)

abbrev loaded_flag : Group → List ℕ × ℕ
loaded_flag g = (g.def.name, 4)

state_notes : (schema : List TableDef) (xs : List Group) → notes_of schema (map state_entry xs) ≡ flags_of (map state_flag xs)
state_notes schema [] = refl
state_notes schema (x ∷ xs) = ap (λ l. Flag x.def.name (state_number x.state) ∷ l) (state_notes schema xs)

loaded_notes : (schema : List TableDef) (xs : List Group) → notes_of schema (map flag_entry xs) ≡ flags_of (map loaded_flag xs)
loaded_notes schema [] = refl
loaded_notes schema (x ∷ xs) = ap (λ l. Flag x.def.name 4 ∷ l) (loaded_notes schema xs)

flags_append : (xs ys : List (List ℕ × ℕ)) → flags_of (xs ++ ys) ≡ flags_of xs ++ flags_of ys
flags_append [] ys = refl
flags_append (x ∷ xs) ys = ap (λ l. Flag x.0 x.1 ∷ l) (flags_append xs ys)

abbrev all_flags : List Group → List (List ℕ × ℕ)
all_flags gs = map state_flag (filter is_read_only gs) ++ map loaded_flag (filter is_loaded gs)

slot_notes : (t : Tier) (next : ℕ) (gs : List Group) (us : List Sealed) (ns : List Named) → plain ns ≡ newest gs → Each (IsMade t.schema) gs → notes_of t.schema (slot_of next gs us) ≡ rotated next ns (all_flags gs) us
slot_notes t next gs us ns pairs made =
    let first : notes_of t.schema (map definition_entry gs) ≡ definitions ns = notes_made t gs made ∙ sym (definitions_plain ns ∙ ap defines_of pairs ∙ defines_newest gs) in
    let second : notes_of t.schema (map state_entry (filter is_read_only gs)) ≡ flags_of (map state_flag (filter is_read_only gs)) = state_notes t.schema (filter is_read_only gs) in
    let third : notes_of t.schema (map flag_entry (filter is_loaded gs)) ≡ flags_of (map loaded_flag (filter is_loaded gs)) = loaded_notes t.schema (filter is_loaded gs) in
    ap (λ l. Rattle.recovery_laws.specs.Notes.Mark next ∷ l)
    (map-append (note_of t.schema) (map definition_entry gs) _
    ∙ (λ i. first i ++ (map-append (note_of t.schema) (map state_entry (filter is_read_only gs)) (map flag_entry (filter is_loaded gs) ++ map Commits us)
    ∙ (λ k. second k ++ (map-append (note_of t.schema) (map flag_entry (filter is_loaded gs)) (map Commits us) ∙ (λ m. third m ++ commits_seen t.schema us m)) k)
    ∙ sym (append_assoc (flags_of (map state_flag (filter is_read_only gs))) (flags_of (map loaded_flag (filter is_loaded gs))) (map Commit us))
    ∙ ap (λ l. l ++ map Commit us) (sym (flags_append (map state_flag (filter is_read_only gs)) (map loaded_flag (filter is_loaded gs))))) i))

-- ---- the next ticket

quiet_next : (entry : Group → JournalEntry) → ((g : Group) (n : ℕ) → next_with n (entry g) ≡ n) → (gs : List Group) (n : ℕ) → fold next_with n (map entry gs) ≡ n
quiet_next entry so [] n = refl
quiet_next entry so (g ∷ gs) n = ap (λ k. fold next_with k (map entry gs)) (so g n) ∙ quiet_next entry so gs n

slot_next : (next : ℕ) (gs : List Group) → 1 ≤ next → next_behind (slot_of next gs []) ≡ next
slot_next next gs le =
    let begin : max 1 next ≡ next = max-eq_right {n = 1} {m = next} le in
    ap (λ n. fold next_with n (map definition_entry gs ++ (map state_entry (filter is_read_only gs) ++ (map flag_entry (filter is_loaded gs) ++ [])))) begin
    ∙ fold-append next_with next (map definition_entry gs) _
    ∙ ap (λ n. fold next_with n (map state_entry (filter is_read_only gs) ++ (map flag_entry (filter is_loaded gs) ++ []))) (quiet_next definition_entry (λ g n. refl) gs next)
    ∙ fold-append next_with next (map state_entry (filter is_read_only gs)) _
    ∙ ap (λ n. fold next_with n (map flag_entry (filter is_loaded gs) ++ [])) (quiet_next state_entry (λ g n. refl) (filter is_read_only gs) next)
    ∙ fold-append next_with next (map flag_entry (filter is_loaded gs)) []
    ∙ quiet_next flag_entry (λ g n. refl) (filter is_loaded gs) next

-- ---- the tier

module _ (w : World) (early : List Sealed) (j : IsJournalled w early) (stands : between.Stands w) (none : w.journal.tail ≡ []) (drained : w.tier.unsettled ≡ []) (new : Journal) (is : IsRenewed w.tier (length w.history) w.journal new) where
  abbrev schema : List TableDef
  schema = j.backing.schema

  abbrev begin : Tier
  begin = opened j.settings 0 j.backing.schema

  abbrev gs : List Group
  gs = j.catalog.groups

  abbrev all : List Note
  all = crash.given (seen w early j)

  f : IsFolded j.backing.schema j.catalog (catalog_of (notes w early j))
  f = folded w early j

  made : Each (IsMade j.backing.schema) j.catalog.groups
  made = all_made (given w.journal) (opened j.settings 0 j.backing.schema) j.catalog j.recalls tt

  pairs : plain (catalog_of (crash.given (seen w early j))).groups ≡ newest j.catalog.groups
  pairs = ap (λ l. plain (catalog_of l).groups) (given_is w early j) ∙ f.pairs

  under : next_of (crash.given (seen w early j)) ≤ w.tier.next
  under = subst (λ n. n ≤ w.tier.next) (next_is j.backing.schema w.history (given w.journal) (matched w early j) ∙ ap next_of (sym (given_is w early j))) j.next

  least : 1 ≤ w.tier.next
  least = let low : 1 ≤ w.tier.next = Rattle.recovery_laws.proofs.RotateLaws.rise_low 1 w.tier.log w.tier.next stands.flow.stand.over.rise in low

  settled : pending w.history w.tier.log ≡ pending w.history []
  settled = stands.flow.rest ∙ ap (pending w.history) drained

  -- nothing is pending of what the entries tell
  gone : pending w.history (log_in w.history (crash.given (seen w early j))) ≡ []
  gone = ap (λ l. pending w.history (log_in w.history l)) (given_is w early j) ∙ sym j.tie ∙ settled

  event : Event (seen w early j) (with_flushed (rotated w.tier.next (catalog_of (crash.given (seen w early j))).groups (all_flags j.catalog.groups) []) (seen w early j))
  event =
      let st = matched_stands (crash.given (seen w early j)) w.history j.stands.matched in
      rotation_event (seen w early j) early (all_flags j.catalog.groups) [] w.tier.next j.stands (no_late j.late (sym j.tail ∙ none)) under (none_later (groups_of (crash.given (seen w early j)))) refl
      (stands_bare (groups_of (crash.given (seen w early j))) w.history (log_in w.history (crash.given (seen w early j))) (next_of (crash.given (seen w early j))) w.tier.next st under least stands.flow.stand.over.below)
      (λ s a. subst (Among s) gone a)

  kept_on : StandsOn (with_flushed (rotated w.tier.next (catalog_of (crash.given (seen w early j))).groups (all_flags j.catalog.groups) []) (seen w early j)) early
  kept_on = event_keeps (seen w early j) _ early event j.stands

  entries_are : new.flushed ≡ slot_of w.tier.next j.catalog.groups []
  entries_are = is.flushed ∙ ap (slot_of w.tier.next w.tier.groups) drained ∙ sym (slot_alike w.tier.next j.catalog.groups w.tier.groups [] j.alike)

  given_new : given new ≡ slot_of w.tier.next j.catalog.groups []
  given_new = (λ i. new.flushed ++ is.tail i) ∙ append-nil new.flushed ∙ entries_are

  notes_new : notes_of j.backing.schema (slot_of w.tier.next j.catalog.groups []) ≡ rotated w.tier.next (catalog_of (crash.given (seen w early j))).groups (all_flags j.catalog.groups) []
  notes_new = slot_notes (opened j.settings 0 j.backing.schema) w.tier.next j.catalog.groups [] (catalog_of (crash.given (seen w early j))).groups pairs made

  -- what one held, the other holds
  holds : (s : Sealed) → IsHeldIn w.journal.flushed w.history s → IsHeldIn new.flushed w.history s
  holds s x = back (rotation_holds (crash.given (seen w early j)) w.history w.tier.next (catalog_of (crash.given (seen w early j))).groups (all_flags j.catalog.groups) [] (s ∷ []) j.stands.matched (λ y a. subst (Among y) gone a) (here x, tt)).0
    where
      here : IsHeldIn w.journal.flushed w.history s → Among s (commits_in (crash.given (seen w early j))) ⊎ (found s.ticket.0 w.history ≡ Some s)
      here (inl a) = inl (more_commits (notes_of j.backing.schema w.journal.flushed) (map Commit j.late) s (subst (Among s) (sym (commits_same j.backing.schema w.journal.flushed)) a))
      here (inr e) = inr e

      back : Among s (commits_in (rotated w.tier.next (catalog_of (crash.given (seen w early j))).groups (all_flags j.catalog.groups) [])) ⊎ (found s.ticket.0 w.history ≡ Some s) → IsHeldIn new.flushed w.history s
      back (inl a) = inl (subst (Among s) (ap commits_in (sym (ap (notes_of j.backing.schema) entries_are ∙ notes_new)) ∙ commits_same j.backing.schema new.flushed) a)
      back (inr e) = inr e

  rotation_bare : IsJournalled (wayless (record w { journal = new })) kept_on.now
  rotation_bare = record {
    kept = is.kept;
    backing = j.backing;
    leaves = j.leaves;
    late = [];
    tail = is.tail;
    stands = subst (λ l. Stands (record { flushed = l; late = []; history = w.history; commits = kept_on.now ++ [] }) kept_on.now) (sym (ap (notes_of j.backing.schema) entries_are ∙ notes_new))
        (subst (λ l. Stands (record { flushed = rotated w.tier.next (catalog_of (crash.given (seen w early j))).groups (all_flags j.catalog.groups) []; late = []; history = w.history; commits = l }) kept_on.now) kept_on.stands.are kept_on.stands);
    settings = j.settings;
    catalog = record (opened j.settings 0 j.backing.schema) { groups = renewed (opened j.settings 0 j.backing.schema) j.catalog.groups };
    recalls = subst (λ l. RecallsAll l (opened j.settings 0 j.backing.schema) (record (opened j.settings 0 j.backing.schema) { groups = renewed (opened j.settings 0 j.backing.schema) j.catalog.groups })) (sym given_new)
        (slot_recalled (opened j.settings 0 j.backing.schema) w.tier.next j.catalog.groups [] refl made f.each f.apart f.names);
    alike = alike_trans (renewed (opened j.settings 0 j.backing.schema) j.catalog.groups) j.catalog.groups w.tier.groups (renewed_alike (opened j.settings 0 j.backing.schema) j.catalog.groups made) j.alike;
    tie = tied_rotation w.history w.tier.log [] w.tier.next (catalog_of (crash.given (seen w early j))).groups (all_flags j.catalog.groups) settled
        ∙ sym (ap (λ l. pending w.history (log_in w.history l)) (ap (notes_of j.backing.schema) given_new ∙ notes_new));
    next = subst (λ l. next_behind l ≤ w.tier.next) (sym given_new) (let same = slot_next w.tier.next j.catalog.groups least in omega (arith, same));
    safe = tt;
  }

  pub rotation_journalled : IsJournalledOn (record w { journal = new }) early
  rotation_journalled = record {
    now = kept_on.now;
    is = safely (record w { journal = new }) kept_on.now rotation_bare (turn_safe w w.tier new kept_on.now j.safe rotation_bare (λ alone. alone) holds is.way);
    more = kept_on.more;
    grows = kept_on.grows;
  }

pub rotation_kept : (w : World) (early : List Sealed) (new : Journal) → between.Stands w → IsJournalled w early → w.journal.tail ≡ [] → w.tier.unsettled ≡ [] → IsRenewed w.tier (length w.history) w.journal new → IsJournalledOn (record w { journal = new }) early
rotation_kept w early new stands j none drained is = rotation_journalled w early j stands none drained new is
