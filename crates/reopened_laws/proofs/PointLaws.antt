-- What a crash has left on the way of a journal may be opened again.
use Rattle.std.proofs.Common.{◌≡◌, ℕ, zero, suc, ◌≤◌, ◌^◌, true, false, Some, List, [], ◌∷◌, ◌++◌, slice_get, take, drop, refl, sym, ap, subst, ◌∙◌, take-append-drop}
use Rattle.std.specs.List.{AllByRecursion}
use Rattle.tier_base.specs.declared.number.TableId.{TableId}
use Rattle.table_defs.specs.declared.definition.TableDef.{TableDef}
use Rattle.table_state.specs.Copies.{is_one_of}
use Rattle.table_state.specs.declared.history.Entry.{Entry}
use Rattle.table_state.specs.Histories.{no_tables, state_of}
use Rattle.table_state.specs.Tables.{TableState}
use Rattle.order_laws.specs.Standing.{live_tables}
use Rattle.order_laws.proofs.CountLaws.{defs_of, schema_after}
use Rattle.order_laws.proofs.OrderLaws.{defs-append}
use Rattle.recovery_laws.specs.Matching.{IsMatched}
use Rattle.recovery_laws.specs.Notes.{Note, catalog_of, groups_of}
use Rattle.outside.specs.Holding.{Held}
use Rattle.outside.specs.Others.{AreOthers, is_shared}
use Rattle.cache_tier.specs.Events.{at_history}
use Rattle.cache_tier.specs.Groups.{is_table_of, is_writethrough}
use Rattle.cache_tier.specs.Journals.{JournalEntry}
use Rattle.cache_tier.specs.TierStates.{Settings, Tier, opened}
use Rattle.cache_tier.specs.Worlds.{IsUnshared, World}
use Rattle.recovery.specs.Journalled.{CrashLeaves, IsJournalled, IsJournalledOn}
use Rattle.recovery.specs.Recalling.{AreMatched, RecallsAll, notes_of}
use Rattle.recovery.specs.SafeWays.{LeaveUnshared}
use Rattle.recovery.proofs.FoldLaws.{IsFolded}
use Rattle.recovery.proofs.LeftLaws.{crash_leaves}
use Rattle.recovery.proofs.NewestLaws.{live_plain, newest_has, seconds}
use Rattle.recovery.proofs.OthersLaws.{others_kept}
use Rattle.recovery.proofs.RecalledLaws.{folded}
use Rattle.line_laws.proofs.OtherLaws.{others_schema}
use Rattle.line_laws.proofs.PartWords.{still_quiet}
use Rattle.run_laws.proofs.ReopenLaws.{begun_journalled}
use Rattle.tier_journal.specs.declared.journal.TierJournal.{TierJournal}
use Rattle.tier_journal.specs.Leaving.{GivesEntries}
use Rattle.tier_journal.specs.Opening.{opened_journal}
use Rattle.tier_journal.specs.Writing.{HasTables}
use Rattle.tier_journal.specs.Ways.{HasBecome}
use Rattle.tier_opening.specs.Opening.{BeginsIn, MayOpen, Say, begun_tier}
use Rattle.tier_opening.proofs.NewLaws.{left_by}
use Rattle.reopened_laws.specs.Ending.{MayOpenAgain}
use Rattle.reopened_laws.specs.Leaving.{HasText, HaveOwnTableNames, ReadBack}
use Rattle.reopened_laws.proofs.SaidLaws.{behind_same, notes_same}
use Rattle.reopened_laws.proofs.SlotLaws.{point_says}

-- ---- histories

-- the schema of a front has become that of the whole
pub front_becomes : (h : List Entry) (count : ℕ) (s whole : TableState) → state_of (take count h) ≡ Some s → state_of h ≡ Some whole → HasBecome s.schema whole.schema
front_becomes h count s whole front leaves = record {
  more = defs_of (drop count h);
  is =
      schema_after h no_tables whole leaves ∙ ap defs_of (sym (take-append-drop count h)) ∙ defs-append (take count h) (drop count h)
      ∙ ap (λ l. l ++ defs_of (drop count h)) (sym (schema_after (take count h) no_tables s front));
}

got_more : {X : Type 0} (xs ys : List X) (i : ℕ) (x : X) → slice_get xs i ≡ Some x → slice_get (xs ++ ys) i ≡ Some x
got_more [] ys i x e = Prim.cc
got_more (y ∷ xs) ys zero x e = e
got_more (y ∷ xs) ys (suc i) x e = got_more xs ys i x e

front_own : (early whole : List TableDef) → HasBecome early whole → HaveOwnTableNames whole → HaveOwnTableNames early
front_own early whole b own i j x y there here same =
    own i j x y (subst (λ l. slice_get l i ≡ Some x) (sym b.is) (got_more early b.more i x there)) (subst (λ l. slice_get l j ≡ Some y) (sym b.is) (got_more early b.more j y here)) same

-- ---- the opening

-- These entries belong together with what the site holds, its slots say nothing else, and others change no table of a
-- writethrough group that they leave.
module _ (shared : List TableId) (p : Held) (entries : List JournalEntry) (m : AreMatched entries p.history) (alone : LeaveUnshared shared entries p.history) (says : (said : List JournalEntry) → Say m.backing.schema p.slots said → ReadBack entries said) where
  module _ (settings : Settings) (moment : ℕ) (k : TierJournal) (v : World) (b : BeginsIn settings moment p k v) (same : v.shared ≡ shared) where
    came : AreOthers shared p.history b.others
    came = subst (λ s. AreOthers s p.history b.others) same b.came

    later : (n : TableState) × (state_of (p.history ++ b.others) ≡ Some n)
    later = left_by shared b.others p.history m.backing m.leaves came

    first : m.backing.schema ≡ b.schema
    first = sym (others_schema shared b.others p.history m.backing later.0 m.leaves came later.1) ∙ b.known later.0 (ap state_of b.history ∙ later.1)

    said : ReadBack entries b.entries
    said = says b.entries (subst (λ s. Say s p.slots b.entries) (sym first) b.say)

    notes : notes_of m.backing.schema b.entries ≡ notes_of m.backing.schema entries
    notes = notes_same m.backing.schema entries b.entries said

    told : AreMatched b.entries p.history
    told = record {
      backing = m.backing;
      leaves = m.leaves;
      matched = subst (λ (n : List Note). IsMatched n p.history) (sym notes) m.matched;
      last = subst (λ n. n ≤ 2 ^ 63) (sym (behind_same 1 entries b.entries said)) m.last;
    }

    recalls : RecallsAll b.entries (opened settings moment m.backing.schema) b.catalog
    recalls = subst (λ s. RecallsAll b.entries (opened settings moment s) b.catalog) (sym first) b.recalls

    ours : IsFolded m.backing.schema b.catalog (catalog_of (notes_of m.backing.schema b.entries))
    unfolding told
    ours = folded b.entries p.history settings moment b.catalog told recalls

    -- the tables that the tier of these entries writes through
    free : (t : TableId) → is_shared shared t ≡ true → is_table_of is_writethrough b.catalog.groups t ≡ false
    free t e =
        sym (newest_has b.catalog.groups t)
        ∙ ap (λ l. is_one_of (live_tables l) t) (sym (live_plain (catalog_of (notes_of m.backing.schema b.entries)).groups ∙ ap seconds ours.pairs))
        ∙ ap (λ (n : List Note). is_one_of (live_tables (groups_of n)) t) notes
        ∙ alone m.backing m.leaves t e

    -- the world in which that tier would begin if no others came
    abbrev begun : World
    begun = record {
      tier = begun_tier m.backing.schema b.entries p.history b.catalog;
      history = p.history;
      journal = opened_journal k b.entries;
      bank_faults = 0;
      disk_faults = 0;
      moment = 0;
      shared = shared;
    }

    journalled : IsJournalled begun []
    unfolding told
    journalled = begun_journalled settings moment b.entries begun [] told b.catalog recalls refl (record { kept = refl; flushed = refl; tail = refl; way = tt }) tt

    on : IsJournalledOn (at_history (p.history ++ b.others) begun) []
    on = others_kept begun [] b.others begun.tier journalled free came (still_quiet begun.tier)

    left : CrashLeaves (at_history (p.history ++ b.others) begun) on.now settings moment
    unfolding told
    left = crash_leaves (at_history (p.history ++ b.others) begun) on.now settings moment told.last on.is

    matched : AreMatched b.entries v.history
    matched = subst (AreMatched b.entries) (sym b.history) left.matched

    unshared : IsUnshared v
    unshared t e = ap (λ (x : Tier). is_table_of is_writethrough x.groups t) b.tier ∙ free t (ap (λ s. is_shared s t) (sym same) ∙ e)

  pub point_opens : MayOpen shared p
  point_opens settings moment k v b same = (matched settings moment k v b same, unshared settings moment k v b same)

-- What is left gives entries under a schema that has become another one, as has the schema of what it holds.
pub point_opens_again : (shared : List TableId) (p : Held) (entries : List JournalEntry) (early whole : List TableDef) (m : AreMatched entries p.history) → LeaveUnshared shared entries p.history → HasBecome early whole → HasBecome m.backing.schema whole → HaveOwnTableNames whole
    → AllByRecursion (HasTables early) entries → AllByRecursion HasText entries → GivesEntries early p.slots entries → MayOpenAgain shared p
point_opens_again shared p entries early whole m alone one two own tables texts gives = record {
  may = point_opens shared p entries m alone (λ said say. point_says p.slots entries said early m.backing.schema whole one two own tables texts gives.gives say);
  bytes = gives.bytes;
  named = λ s leaves. subst (λ (x : TableState). HaveOwnTableNames x.schema) (one_state s (sym m.leaves ∙ leaves)) (front_own m.backing.schema whole two own);
}
  where
    one_state : (s : TableState) → Some m.backing ≡ Some s → m.backing ≡ s
    one_state s e = Prim.cc
