-- What is noted and flushed, in the worlds whose journal is kept over the disk.
use Rattle.std.proofs.Common.{◌≡◌, ℕ, ◌+◌, ◌≤◌, Bool, true, false, Option, Some, None, List, [], ◌∷◌, ◌++◌, refl, sym, ap, subst, ◌∙◌, arith, append-nil}
use Rattle.std.specs.Bool.{MatchBool}
use Rattle.std.specs.Option.{IsSome}
use Rattle.std.specs.List.{AllByRecursion}
use Rattle.std.proofs.lemmas.Option.{same_Some}
use Rattle.tier_base.specs.declared.code.Code.TheVariants as code
use Rattle.table_defs.specs.declared.definition.TableDef.{TableDef}
use Rattle.table_state.specs.declared.operation.Op.{Op}
use Rattle.outside.specs.Calls.{Certain, Leaves}
use Rattle.outside.specs.Holding.{Held, Slots}
use Rattle.outside.specs.Sites.{SiteState}
use Rattle.cache_tier.specs.declared.reply.Reply.{Reply}
use Rattle.cache_tier.specs.Journals.{Journal, JournalEntry, flushed_batch, flushed_with, with_noted}
use Rattle.cache_tier.specs.JournalSteps.{Failing, Flushes, FlushesFitting, FlushesKept, Notes, NotesKept, Records, Whole, journal_behind, journal_full, journal_with, name_size}
use Rattle.cache_tier.specs.Rules.{past}
use Rattle.cache_tier.specs.Worlds.{Passes, Stage, World, faulty, only}
use Rattle.cache_tier.specs.declared.reply.Last.TheVariants.{No}
use Rattle.tier_base.specs.declared.limit.Limit.TheVariants as limit
use Rattle.tier_journal.specs.declared.journal.TierJournal.{TierJournal}
use Rattle.tier_journal.specs.Keeping.{Keeps, KeepsOn, version_in}
use Rattle.tier_journal.specs.Leaving.{GivesEither, LeftByFlush}
use Rattle.tier_journal.specs.Writing.{HasTables}
use Rattle.tier_journal.specs.declared.batch.Batch.{Batch}
use Rattle.tier_journal.specs.Batches.{Holds}
use Rattle.tier_journal.specs.Keeping.{with_tail}
use Rattle.tier_journal.specs.declared.draft.Draft.{Draft}
use Rattle.tier_journal.specs.declared.draft.Draft.TheVariants.{Fits, Full, Unkept}
use Rattle.tier_journal.specs.Drafts.{FitsBehind, IsDraftOf, is_full_draft}
use Rattle.tier_journal.proofs.DraftLaws.{full_so}
use Rattle.tier_journal.proofs.WayLaws.{flushed_tables, kept_unless, leaves_as, on_way, turned_leaves, with_batch}
use Rattle.tier_journal.specs.KeptOver.{IsOver, IsWrittenOver, KeepsOver, is_broken, over_disk}

abbrev world_of : World → Journal → ℕ → World
world_of w j moment = over_disk j w.disk_faults moment w

abbrev pub IsRead : {D : Type 0} → (D → SiteState) → (D → ℕ → Held → Type 0) → Type 0
IsRead {D = D} state possible = (d : D) (o : Held) → (state d).held ≡ Some o → possible d (state d).moment o

pub still_some : (o : Option Held) → IsSome o → (n : Held) × (o ≡ Some n)
still_some None some = cc
still_some (Some n) some = (n, refl)

pub is_some : (o : Option Held) (n : Held) → o ≡ Some n → IsSome o
is_some o n e = rw e refl

-- what is flushed, also where it is nothing
pub flushed_all : (size : Op → ℕ) (entries : List JournalEntry) (j : Journal) → (flushed_with size entries j).flushed ≡ j.flushed ++ (j.tail ++ entries)
flushed_all size entries j = by (j.tail ++ entries)
  where
    by : (batch : List JournalEntry) → (flushed_batch size batch j).flushed ≡ j.flushed ++ batch
    by [] = sym (append-nil j.flushed)
    by (e ∷ batch) = refl

module _ {D : Type 0} (state : D → SiteState) (possible : D → ℕ → Held → Type 0) where
  -- nothing is called
  pub still_over : (k : Option TierJournal) (d : D) (w : World) (stop : Option Reply) (stage : Stage) → w.moment ≡ (state d).moment → KeepsOver state possible d k w → stage w w stop → IsWrittenOver state possible k d d stop stage w
  still_over k d w stop stage now over is =
      let same : over_disk w.journal w.disk_faults (state d).moment w ≡ w = ap (λ (m : ℕ). world_of w w.journal m) (sym now) in
      record {
        journal = w.journal;
        faults = w.disk_faults;
        later = omega arith;
        told = λ o told. record { there = o; told = told; same = refl };
        is = subst (λ (x : World). stage w x stop) (sym same) is;
        keeps = kept_unless (subst (λ (x : World). KeepsOver state possible d k x) (sym same) over);
      }

  -- where no journal is kept, nothing is flushed or noted
  pub flushes_nothing : (w : World) (entries : List JournalEntry) → w.journal.kept ≡ false → Flushes entries w w None
  flushes_nothing w entries unkept = subst (λ b. MatchBool b (FlushesKept entries w w None) (Passes w w None)) (sym unkept) (refl, refl)

  pub notes_nothing : (w : World) (e : JournalEntry) → w.journal.kept ≡ false → Notes e w w None
  notes_nothing w e unkept = subst (λ b. MatchBool b (NotesKept e w w None) (Passes w w None)) (sym unkept) (refl, refl)

  pub records_nothing : (w : World) (durable : Bool) (e : JournalEntry) → w.journal.kept ≡ false → Records durable e w w None
  records_nothing w true e unkept = flushes_nothing w (e ∷ []) unkept
  records_nothing w false e unkept = notes_nothing w e unkept

  kept_so : (d : D) (t : TierJournal) (w : World) (A B : Type 0) → IsOver state possible d t w → A → MatchBool w.journal.kept A B
  kept_so d t w A B over a = subst (λ b. MatchBool b A B) (sym over.keeps.kept) a

  -- the tail and the entries are on the disk
  pub flushed_over : (t t' : TierJournal) (d d' : D) (w : World) (entries : List JournalEntry) → w.moment ≡ (state d).moment → (over : IsOver state possible d t w) → (state d).moment ≤ (state d').moment
      → KeepsOn state possible d' w.tier.schema t' over.there (flushed_with (name_size w.tier.schema) entries w.journal) → version_in t' ≡ version_in t → Leaves state possible d d' (LeftByFlush w.tier.schema over.there w.journal entries) → IsWrittenOver state possible (Some t') d d' None (Flushes entries) w
  flushed_over t t' d d' w entries now over later on version left =
      let j : Journal = journal_behind w entries in
      let w' : World = world_of w j (state d').moment in
      record {
        journal = j;
        faults = w.disk_faults;
        later = later;
        told = λ o told.
            let same : over.there ≡ o = same_Some over.there o (sym over.certain.told ∙ told) in
            record { there = on.now; told = on.certain.told; same = on.beside ∙ ap (λ (x : Held). x.history) same };
        is = kept_so d t w (FlushesKept entries w w' None) (Passes w w' None) over (record {
          result = Whole;
          tier = refl;
          history = refl;
          journal = refl;
          bank = refl;
          disk = omega arith;
          moment = subst (λ (m : ℕ). m ≤ (state d').moment) (sym now) later;
          shared = refl;
          end = refl;
        });
        keeps = kept_unless (record {
          there = on.now;
          certain = on.certain;
          keeps = on_way w.tier.schema t' on.now.slots (journal_with w entries) j.way on.keeps;
          version = version ∙ over.version;
          leaves =
              turned_leaves state possible d d' over.there on.now w w' over.certain on.beside refl refl (flushed_tables w.tier.schema t over.there.slots w.journal over.keeps)
              (flushed_tables w.tier.schema t' on.now.slots (flushed_with (name_size w.tier.schema) entries w.journal) on.keeps)
              (subst (λ (l : List JournalEntry). Leaves state possible d d' (GivesEither w.tier.schema over.there w.journal.flushed l)) (sym (flushed_all (name_size w.tier.schema) entries w.journal)) left)
              w.journal.way over.leaves;
        });
      }

  -- A call of the disk failed. The entries' tables are the schema's, so what may be there is a point of the way, too.
  pub failed_over : IsRead state possible → (t t' : TierJournal) (d d' : D) (w : World) (entries : List JournalEntry) (reply : Reply) → w.moment ≡ (state d).moment → (over : IsOver state possible d t w)
      → AllByRecursion (HasTables w.tier.schema) entries → (IsSome (state d).held → IsSome (state d').held) → Leaves state possible d d' (LeftByFlush w.tier.schema over.there w.journal entries) → reply ≡ faulty code.JournalFault → IsWrittenOver state possible (Some t') d d' (Some reply) (Flushes entries) w
  failed_over read t t' d d' w entries reply now over tables tells leaves is =
      let j : Journal = journal_behind w entries in
      let w' : World = over_disk j (w.disk_faults + 1) (state d').moment w in
      let later : (state d).moment ≤ (state d').moment = leaves.later in
      let n = still_some (state d').held (tells (is_some (state d).held over.there over.certain.told)) in
      let last = leaves.each (state d').moment n.0 later (omega arith) (read d' n.0 n.1) in
      record {
        journal = j;
        faults = w.disk_faults + 1;
        later = later;
        told = λ o told.
            let same : over.there ≡ o = same_Some over.there o (sym over.certain.told ∙ told) in
            record { there = n.0; told = n.1; same = last.beside ∙ ap (λ (x : Held). x.history) same };
        is = kept_so d t w (FlushesKept entries w w' (Some reply)) (Passes w w' (Some reply)) over (record {
          result = Failing;
          tier = refl;
          history = refl;
          journal = refl;
          bank = refl;
          disk = omega arith;
          moment = subst (λ (m : ℕ). m ≤ (state d').moment) (sym now) later;
          shared = refl;
          end = ap Some is;
        });
        keeps = record {
          leaves = record {
            there = n.0;
            told = n.1;
            leaves =
                turned_leaves state possible d d' over.there n.0 w w' over.certain last.beside refl refl (flushed_tables w.tier.schema t over.there.slots w.journal over.keeps)
                (subst (AllByRecursion (HasTables w.tier.schema)) (sym (flushed_all (name_size w.tier.schema) entries w.journal)) (with_batch w.tier.schema t over.there.slots w.journal entries over.keeps tables))
                (subst (λ (l : List JournalEntry). Leaves state possible d d' (GivesEither w.tier.schema over.there w.journal.flushed l)) (sym (flushed_all (name_size w.tier.schema) entries w.journal)) leaves)
                w.journal.way over.leaves;
          };
          over = λ whole. absurd (never (ap (λ (r : Reply). is_broken (Some r)) (sym is) ∙ whole));
        };
      }
    where
      never : true ≡ false → ⊥
      never e = cc

  -- the entry is in the tail
  pub noted_over : (t t' : TierJournal) (d : D) (w : World) (e : JournalEntry) → w.moment ≡ (state d).moment → (over : IsOver state possible d t w)
      → Keeps w.tier.schema t' over.there.slots (with_noted e w.journal) → version_in t' ≡ version_in t → IsWrittenOver state possible (Some t') d d None (Notes e) w
  noted_over t t' d w e now over keeps version =
      let j : Journal = with_noted e w.journal in
      let w' : World = world_of w j (state d).moment in
      let same : w' ≡ record w { journal = j } = ap (λ (m : ℕ). world_of w j m) (sym now) in
      record {
        journal = j;
        faults = w.disk_faults;
        later = omega arith;
        told = λ o told. record { there = o; told = told; same = refl };
        is = kept_so d t w (NotesKept e w w' None) (Passes w w' None) over (same, refl);
        keeps = kept_unless (record {
          there = over.there;
          certain = over.certain;
          keeps = keeps;
          version = version ∙ over.version;
          leaves = leaves_as state possible d over.there w w' w.journal.way refl refl refl over.leaves;
        });
      }

  -- a flush of entries that fit
  pub fitting_over : (k : Option TierJournal) (d d' : D) (w : World) (entries : List JournalEntry) (stop : Option Reply) → journal_full w entries ≡ false → IsWrittenOver state possible k d d' stop (Flushes entries) w → IsWrittenOver state possible k d d' stop (FlushesFitting entries) w
  fitting_over k d d' w entries stop fits x = record {
    journal = x.journal;
    faults = x.faults;
    later = x.later;
    told = x.told;
    is = let w' : World = over_disk x.journal x.faults (state d').moment w in
        subst (λ b. MatchBool b ((w' ≡ w) × (stop ≡ Some (only (No (past limit.JournalSlot))))) (Flushes entries w w' stop)) (sym fits) x.is;
    keeps = x.keeps;
  }

  -- entries that don't fit are refused
  pub full_over : (k : Option TierJournal) (d : D) (w : World) (entries : List JournalEntry) (reply : Reply) → w.moment ≡ (state d).moment → KeepsOver state possible d k w → journal_full w entries ≡ true → reply ≡ only (No (past limit.JournalSlot)) → IsWrittenOver state possible k d d (Some reply) (FlushesFitting entries) w
  full_over k d w entries reply now over full is =
      still_over k d w (Some reply) (FlushesFitting entries) now over
      (subst (λ b. MatchBool b ((w ≡ w) × (Some reply ≡ Some (only (No (past limit.JournalSlot))))) (Flushes entries w w (Some reply))) (sym full) (refl, ap Some is))

  -- what was made ready where no journal is kept
  unkept_draft : (k : Option TierJournal) (d : D) (w : World) (draft : Draft) (e : JournalEntry) → draft ≡ Unkept → KeepsOver state possible d k w → IsDraftOf w.tier.schema k draft e → w.journal.kept ≡ false
  unkept_draft None d w draft e is over of = over
  unkept_draft (Some t) d w draft e is over of = absurd (subst (λ x. IsDraftOf w.tier.schema (Some t) x e) is of)

  pub unkept_flushed : (k : Option TierJournal) (d : D) (w : World) (draft : Draft) (e : JournalEntry) → draft ≡ Unkept → w.moment ≡ (state d).moment → KeepsOver state possible d k w → IsDraftOf w.tier.schema k draft e → IsWrittenOver state possible k d d None (FlushesFitting (e ∷ [])) w
  unkept_flushed k d w draft e is now over of =
      fitting_over k d d w (e ∷ []) None (full_so state possible d k w draft e over of ∙ ap is_full_draft is)
      (still_over k d w None (Flushes (e ∷ [])) now over (flushes_nothing w (e ∷ []) (unkept_draft k d w draft e is over of)))

  pub unkept_recorded : (k : Option TierJournal) (d : D) (w : World) (draft : Draft) (e : JournalEntry) (durable : Bool) → draft ≡ Unkept → w.moment ≡ (state d).moment → KeepsOver state possible d k w → IsDraftOf w.tier.schema k draft e → IsWrittenOver state possible k d d None (Records durable e) w
  unkept_recorded k d w draft e durable is now over of =
      still_over k d w None (Records durable e) now over (records_nothing w durable e (unkept_draft k d w draft e is over of))

  pub full_refused : (k : Option TierJournal) (d : D) (w : World) (draft : Draft) (e : JournalEntry) (reply : Reply) → draft ≡ Full → w.moment ≡ (state d).moment → KeepsOver state possible d k w → IsDraftOf w.tier.schema k draft e → reply ≡ only (No (past limit.JournalSlot)) → IsWrittenOver state possible k d d (Some reply) (FlushesFitting (e ∷ [])) w
  full_refused k d w draft e reply is now over of said =
      full_over k d w (e ∷ []) reply now over (full_so state possible d k w draft e over of ∙ ap is_full_draft is) said

  -- a batch that fits, and the journal that it is for
  module _ (k : Option TierJournal) (t : TierJournal) (d : D) (w : World) (draft : Draft) (b : Batch) (e : JournalEntry) (there : k ≡ Some t) (fits : draft ≡ Fits b)
      (over : KeepsOver state possible d k w) (of : IsDraftOf w.tier.schema k draft e) where
    over_it : IsOver state possible d t w
    over_it = subst (λ x. KeepsOver state possible d x w) there over

    behind_it : FitsBehind w.tier.schema t b e
    behind_it = subst (λ x. IsDraftOf w.tier.schema (Some t) x e) fits (subst (λ x. IsDraftOf w.tier.schema x draft e) there of)

    holds_it : Holds (version_in t) w.tier.schema b (e ∷ [])
    holds_it = subst (λ (v : ℕ). Holds v w.tier.schema b (e ∷ [])) (sym over_it.version) behind_it.holds

    pub not_full : journal_full w (e ∷ []) ≡ false
    not_full = full_so state possible d k w draft e over of ∙ ap is_full_draft fits

    pub fits_flushed : (t' : TierJournal) (d' : D) → w.moment ≡ (state d).moment → (state d).moment ≤ (state d').moment
        → ((schema : List TableDef) (o : Held) (j : Journal) (entries : List JournalEntry) → Certain state possible d o → Keeps schema t o.slots j → Holds (version_in t) schema b entries → KeepsOn state possible d' schema t' o (flushed_with (name_size schema) entries j))
        → version_in t' ≡ version_in t
        → ((schema : List TableDef) (o : Held) (j : Journal) (entries : List JournalEntry) → Certain state possible d o → Keeps schema t o.slots j → Holds (version_in t) schema b entries → Leaves state possible d d' (LeftByFlush schema o j entries))
        → IsWrittenOver state possible (Some t') d d' None (Flushes (e ∷ [])) w
    fits_flushed t' d' now later flushed version crash =
        flushed_over t t' d d' w (e ∷ []) now over_it later (flushed w.tier.schema over_it.there w.journal (e ∷ []) over_it.certain over_it.keeps holds_it) version
        (crash w.tier.schema over_it.there w.journal (e ∷ []) over_it.certain over_it.keeps holds_it)

    pub fits_failed : IsRead state possible → (t' : TierJournal) (d' : D) (reply : Reply) → w.moment ≡ (state d).moment → (IsSome (state d).held → IsSome (state d').held)
        → ((schema : List TableDef) (o : Held) (j : Journal) (entries : List JournalEntry) → Certain state possible d o → Keeps schema t o.slots j → Holds (version_in t) schema b entries → Leaves state possible d d' (LeftByFlush schema o j entries))
        → reply ≡ faulty code.JournalFault → IsWrittenOver state possible (Some t') d d' (Some reply) (Flushes (e ∷ [])) w
    fits_failed read t' d' reply now tells crash is =
        failed_over read t t' d d' w (e ∷ []) reply now over_it holds_it.tables tells (crash w.tier.schema over_it.there w.journal (e ∷ []) over_it.certain over_it.keeps holds_it) is

    pub fits_noted : (t' : TierJournal) → w.moment ≡ (state d).moment
        → ((schema : List TableDef) (slots : Slots) (j : Journal) (entries : List JournalEntry) → Keeps schema t slots j → Holds (version_in t) schema b entries → Keeps schema t' slots (with_tail entries j))
        → version_in t' ≡ version_in t → IsWrittenOver state possible (Some t') d d None (Notes e) w
    fits_noted t' now noted version =
        noted_over t t' d w e now over_it (noted w.tier.schema over_it.there.slots w.journal (e ∷ []) over_it.keeps holds_it) version
