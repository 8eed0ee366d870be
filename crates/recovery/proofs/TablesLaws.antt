-- What keeps the journal the tier's where a table is defined at the backing database.
use Rattle.std.proofs.Common.{◌≡◌, ◌⊎◌, inl, inr, ℕ, zero, suc, ◌+◌, Bool, true, false, ◌&&◌, ◌||◌, Some, is_some, List, [], ◌∷◌, ◌++◌, slice_get, refl, sym, ap, subst, ◌∙◌, arith}
use Rattle.std.specs.Option.{option_and_then}
use Rattle.std.proofs.lemmas.List.Folds.{list_any-append}
use Rattle.tier_base.specs.declared.number.TableId.{TableId}
use Rattle.table_defs.specs.declared.definition.ForeignKey.{ForeignKey}
use Rattle.table_defs.specs.declared.definition.TableDef.{TableDef}
use Rattle.table_state.specs.declared.history.Entry.{Entry}
use Rattle.table_state.specs.declared.history.Entry.TheVariants.{Definition}
use Rattle.table_state.specs.declared.history.Sealed.{Sealed}
use Rattle.table_state.specs.Copies.{is_one_of}
use Rattle.table_state.specs.Histories.{state_from, state_of}
use Rattle.table_state.specs.Independence.{with_new}
use Rattle.table_state.specs.Tables.{TableState}
use Rattle.table_state.proofs.HistoryLaws.{state_of-append}
use Rattle.order_laws.specs.Commits.{LiveGroup, pending}
use Rattle.order_laws.specs.Sides.{IsClosed}
use Rattle.order_laws.specs.Standing.{AreClosed, live_tables}
use Rattle.order_laws.proofs.PendingLaws.{pending_defined}
use Rattle.order_laws.proofs.TruthLaws.{never_both, not_both, same_some}
use Rattle.recovery_laws.specs.Crashes.{Stands, StandsOn, tables, with_entry}
use Rattle.recovery_laws.specs.Crashes as crash
use Rattle.recovery_laws.specs.Notes.{groups_of, log_in}
use Rattle.recovery_laws.proofs.CrashLaws.{event_keeps}
use Rattle.recovery_laws.proofs.PushLaws.{steady_quiet}
use Rattle.cache_tier.specs.ConsoleSteps.{refers_to_writethrough}
use Rattle.cache_tier.specs.Events.{at_history}
use Rattle.cache_tier.specs.Groups.{Group, covers, is_table_of, is_writethrough}
use Rattle.cache_tier.specs.Journals.{JournalEntry}
use Rattle.cache_tier.specs.JournalWays.{given}
use Rattle.cache_tier.specs.StandingBetween.{Each, IsCatalogued}
use Rattle.cache_tier.specs.TierStates.{Tier, opened}
use Rattle.cache_tier.specs.Worlds.{World}
use Rattle.cache_tier.proofs.TableLaws.{covered_defined}
use Rattle.recovery.specs.Journalled.{IsJournalled, IsJournalledOn, IsQuiet}
use Rattle.recovery.specs.Recalling.{RecallsAll, notes_of}
use Rattle.recovery.proofs.FoldLaws.{IsFolded}
use Rattle.recovery.proofs.JournalledLaws.{alike_trans, folded, given_is, live, notes, seen}
use Rattle.recovery.proofs.LiveLaws.{alike_table, unshared_back}
use Rattle.recovery.proofs.LongerLaws.{all_later, longer, notes_later}
use Rattle.recovery.proofs.SafeLaws.{grow_safe, safely, wayless}

-- ---- a table more joins no live group's with others

last_cases : {X : Type 0} (xs : List X) (x : X) (i : ℕ) (y : X) → slice_get (xs ++ x ∷ []) i ≡ Some y → (slice_get xs i ≡ Some y) ⊎ ((is_some (slice_get xs i) ≡ false) × (x ≡ y))
last_cases [] x zero y h = inr (refl, Prim.cc)
last_cases [] x (suc i) y h = Prim.cc
last_cases (z ∷ xs) x zero y h = inl h
last_cases (z ∷ xs) x (suc i) y h = last_cases xs x i y h

one_closed : (schema : List TableDef) (def : TableDef) (its : List TableId) → IsClosed its schema → ((u : TableId) → is_one_of its u ≡ true → is_some (slice_get schema u.0) ≡ true)
    → ((f : ForeignKey) → def.foreign_key ≡ Some f → is_one_of its f.parent ≡ false) → IsClosed its (schema ++ def ∷ [])
one_closed schema def its closed there apart u d f at fk = elim (last_cases schema def u.0 d at) [
  | inl old ↦ closed u d f old fk
  | inr new ↦
      let own : is_one_of its u ≡ false = not_both (is_one_of its u) (λ e. never_both (is_some (slice_get schema u.0)) (there u e) new.0) in
      apart f (ap (λ (z : TableDef). z.foreign_key) new.1 ∙ fk) ∙ sym own
]

or_both : (a b : Bool) → (a || b) ≡ false → (a ≡ false) × (b ≡ false)
or_both true b e = Prim.cc
or_both false b e = (refl, e)

first_true : (a b : Bool) → a ≡ true → (a || b) ≡ true
first_true true b e = refl
first_true false b e = Prim.cc

last_true : (a b : Bool) → b ≡ true → (a || b) ≡ true
last_true true b e = refl
last_true false b e = e

in_tables : (g : LiveGroup) (groups : List LiveGroup) (u : TableId) → is_one_of (live_tables (g ∷ groups)) u ≡ (is_one_of g.tables u || is_one_of (live_tables groups) u)
in_tables g groups u = list_any-append (λ (one : TableId). Rattle.std.proofs.Common.nat_eq one.0 u.0) g.tables (live_tables groups)

all_closed : (schema : List TableDef) (def : TableDef) (groups : List LiveGroup) → AreClosed groups schema → ((u : TableId) → is_one_of (live_tables groups) u ≡ true → is_some (slice_get schema u.0) ≡ true)
    → ((f : ForeignKey) → def.foreign_key ≡ Some f → is_one_of (live_tables groups) f.parent ≡ false) → AreClosed groups (schema ++ def ∷ [])
all_closed schema def [] closed there apart = tt
all_closed schema def (g ∷ groups) closed there apart = (
  one_closed schema def g.tables closed.0 (λ u e. there u (in_tables g groups u ∙ first_true (is_one_of g.tables u) (is_one_of (live_tables groups) u) e))
      (λ f fk. (or_both (is_one_of g.tables f.parent) (is_one_of (live_tables groups) f.parent) (sym (in_tables g groups f.parent) ∙ apart f fk)).0),
  all_closed schema def groups closed.1 (λ u e. there u (in_tables g groups u ∙ last_true (is_one_of g.tables u) (is_one_of (live_tables groups) u) e))
      (λ f fk. (or_both (is_one_of g.tables f.parent) (is_one_of (live_tables groups) f.parent) (sym (in_tables g groups f.parent) ∙ apart f fk)).1),
)

pub written_defined : (schema : List TableDef) (gs : List Group) (u : TableId) → Each (IsCatalogued schema) gs → is_table_of is_writethrough gs u ≡ true → is_some (slice_get schema u.0) ≡ true
written_defined schema [] u all e = Prim.cc
written_defined schema (g ∷ gs) u all e = by (is_writethrough g) (covers u g) refl e (written_defined schema gs u all.1)
  where
    by : (a b : Bool) → covers u g ≡ b → ((a && b) || is_table_of is_writethrough gs u) ≡ true → (is_table_of is_writethrough gs u ≡ true → is_some (slice_get schema u.0) ≡ true) → is_some (slice_get schema u.0) ≡ true
    by true true c e rest = covered_defined schema g u all.0 c
    by true false c e rest = rest e
    by false b c e rest = rest e

-- ---- the tier

module _ (w : World) (early : List Sealed) (j : IsJournalled w early) (def : TableDef) (apart : refers_to_writethrough w.tier def.foreign_key ≡ false) where
  abbrev schema : List TableDef
  schema = j.backing.schema

  abbrev later : List Entry
  later = w.history ++ Definition def ∷ []

  abbrev whole : List TableDef
  whole = j.backing.schema ++ def ∷ []

  f : IsFolded j.backing.schema j.catalog (Rattle.recovery_laws.specs.Notes.catalog_of (notes w early j))
  f = folded w early j

  known : j.stands.matched.backing.schema ≡ j.backing.schema
  known = ap (λ (x : TableState). x.schema) (same_some (sym j.stands.matched.leaves ∙ j.leaves))

  live_is : (u : TableId) → is_one_of (live_tables (crash.live_of (seen w early j))) u ≡ is_table_of is_writethrough w.tier.groups u
  live_is u = ap (λ l. is_one_of (live_tables (groups_of l)) u) (given_is w early j) ∙ live w early j u

  closed : AreClosed (crash.live_of (seen w early j)) (j.backing.schema ++ def ∷ [])
  closed =
      all_closed j.backing.schema def (crash.live_of (seen w early j)) (subst (AreClosed (crash.live_of (seen w early j))) known j.stands.matched.closed)
      (λ u e. written_defined j.backing.schema j.catalog.groups u f.each (alike_table j.catalog.groups w.tier.groups u j.alike ∙ sym (live_is u) ∙ e))
      (λ p fk. live_is p.parent ∙ ap (refers_to_writethrough w.tier) (sym fk) ∙ apart)

  kept : StandsOn (with_entry (Definition def) (seen w early j)) early
  kept = event_keeps (seen w early j) (with_entry (Definition def) (seen w early j)) early (tables def j.backing j.stands.matched.virtual (record { leaves = j.leaves; is = j.stands.matched.virtual_is }) closed) j.stands

  leaves : state_of (w.history ++ Definition def ∷ []) ≡ Some (with_new def j.backing)
  leaves = state_of-append w.history (Definition def ∷ []) ∙ ap (option_and_then (state_from (Definition def ∷ []))) j.leaves

  -- the notes of flushed entries stay, too
  flushed_notes : notes_of (j.backing.schema ++ def ∷ []) w.journal.flushed ≡ notes_of j.backing.schema w.journal.flushed
  flushed_notes = by w.journal.flushed w.journal.tail (opened j.settings 0 j.backing.schema) j.catalog j.recalls
    where
      by : (xs ys : List JournalEntry) (t t' : Tier) → RecallsAll (xs ++ ys) t t' → notes_of (t.schema ++ def ∷ []) xs ≡ notes_of t.schema xs
      by xs ys t t' all = let front = Rattle.recovery.proofs.LongerLaws.front_recalls xs ys t t' all in notes_later (def ∷ []) xs t front.0 front.1

  all_notes : notes_of (j.backing.schema ++ def ∷ []) (given w.journal) ≡ notes w early j
  all_notes = notes_later (def ∷ []) (given w.journal) (opened j.settings 0 j.backing.schema) j.catalog j.recalls

  module _ (t : Tier) (quiet : IsQuiet w.tier t) where
    table_bare : IsJournalled (wayless (at_history (w.history ++ Definition def ∷ []) (record w { tier = t }))) kept.now
    table_bare = record {
      kept = j.kept;
      backing = with_new def j.backing;
      leaves = leaves;
      late = j.late;
      tail = j.tail;
      stands = subst (λ l. Stands (record { flushed = l; late = j.late; history = w.history ++ Definition def ∷ []; commits = kept.now ++ j.late }) kept.now) (sym flushed_notes)
          (subst (λ l. Stands (record { flushed = notes_of j.backing.schema w.journal.flushed; late = j.late; history = w.history ++ Definition def ∷ []; commits = l }) kept.now) kept.stands.are kept.stands);
      settings = j.settings;
      catalog = longer (def ∷ []) j.catalog;
      recalls = all_later (def ∷ []) (given w.journal) (opened j.settings 0 j.backing.schema) j.catalog j.recalls;
      alike = alike_trans j.catalog.groups w.tier.groups t.groups j.alike quiet.groups;
      tie = ap (pending (w.history ++ Definition def ∷ [])) quiet.log ∙ pending_defined w.history def w.tier.log ∙ j.tie
          ∙ sym (pending_defined w.history def (log_in w.history (notes w early j)))
          ∙ ap (pending (w.history ++ Definition def ∷ [])) (sym (steady_quiet w.history (Definition def) (notes w early j) tt))
          ∙ ap (λ l. pending (w.history ++ Definition def ∷ []) (log_in (w.history ++ Definition def ∷ []) l)) (sym all_notes);
      next = let below = j.next in let up = quiet.next in omega (arith, below, up);
      safe = tt;
    }

    pub table_journalled : IsJournalledOn (at_history (w.history ++ Definition def ∷ []) (record w { tier = t })) early
    table_journalled = record {
      now = kept.now;
      is = safely (at_history (w.history ++ Definition def ∷ []) (record w { tier = t })) kept.now table_bare (grow_safe w t (Definition def) kept.now j.safe table_bare (unshared_back w.shared w.tier.groups t.groups quiet.groups));
      more = kept.more;
      grows = kept.grows;
    }

pub table_kept : (w : World) (early : List Sealed) (def : TableDef) (t : Tier) → IsJournalled w early → refers_to_writethrough w.tier def.foreign_key ≡ false → IsQuiet w.tier t → IsJournalledOn (at_history (w.history ++ Definition def ∷ []) (record w { tier = t })) early
table_kept w early def t j apart quiet = table_journalled w early j def apart t quiet
