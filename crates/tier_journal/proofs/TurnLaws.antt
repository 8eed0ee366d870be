-- The other slot that is begun anew, in the worlds whose journal is kept over the disk.
use Rattle.std.proofs.Common.{◌≡◌, ℕ, ◌+◌, ◌≤◌, true, false, Option, Some, None, refl, sym, ap, subst, ◌∙◌, arith}
use Rattle.std.specs.List.{AllByRecursion}
use Rattle.std.specs.Option.{IsSome}
use Rattle.std.proofs.lemmas.Option.{same_Some}
use Rattle.tier_base.specs.declared.code.Code.TheVariants as code
use Rattle.outside.specs.Calls.{Leaves}
use Rattle.outside.specs.Holding.{Held}
use Rattle.outside.specs.Sites.{SiteState}
use Rattle.cache_tier.specs.declared.reply.Reply.{Reply}
use Rattle.cache_tier.specs.Journals.{Journal, rotated}
use Rattle.cache_tier.specs.JournalSteps.{name_size}
use Rattle.cache_tier.specs.Rotations.{Broken, Kept, Renewed, Rotates, renewed, slot_entries}
use Rattle.cache_tier.specs.Worlds.{World, faulty}
use Rattle.tier_journal.specs.declared.journal.TierJournal.{TierJournal}
use Rattle.tier_journal.specs.Keeping.{KeepsOn, version_in}
use Rattle.tier_journal.specs.Leaving.{LeftByRotation}
use Rattle.tier_journal.specs.Writing.{HasTables}
use Rattle.tier_journal.specs.KeptOver.{IsOver, IsWrittenOver, KeepsOver, is_broken, over_disk}
use Rattle.tier_journal.proofs.FlushLaws.{IsRead, is_some, still_over, still_some}
use Rattle.tier_journal.proofs.WayLaws.{flushed_tables, kept_unless, on_way, turned_leaves}

-- the journal stays
stays_kept : (w : World) → Rotates w w None
stays_kept w = record {
  result = Kept;
  tier = refl;
  history = refl;
  journal = refl;
  bank = refl;
  disk = omega arith;
  moment = omega arith;
  shared = refl;
  end = refl;
}

module _ {D : Type 0} (state : D → SiteState) (possible : D → ℕ → Held → Type 0) where
  -- nothing is called
  pub unturned_over : (k : Option TierJournal) (d : D) (w : World) → w.moment ≡ (state d).moment → KeepsOver state possible d k w → IsWrittenOver state possible k d d None Rotates w
  unturned_over k d w now over = still_over state possible k d w None Rotates now over (stays_kept w)

  -- where nothing was called, journal and disk are as they were
  pub same_over : (t t' : TierJournal) (d d' : D) (w : World) → (t' ≡ t) × (d' ≡ d) → w.moment ≡ (state d).moment → KeepsOver state possible d (Some t) w → IsWrittenOver state possible (Some t') d d' None Rotates w
  same_over t t' d d' w same now over =
      subst (λ (x : TierJournal). IsWrittenOver state possible (Some x) d d' None Rotates w) (sym same.0)
      (subst (λ (x : D). IsWrittenOver state possible (Some t) d x None Rotates w) (sym same.1) (unturned_over (Some t) d w now over))

  -- the other slot has the entries
  pub turned_over : (t t' : TierJournal) (d d' : D) (w : World) → w.moment ≡ (state d).moment → (over : IsOver state possible d t w) → (state d).moment ≤ (state d').moment
      → KeepsOn state possible d' w.tier.schema t' over.there (rotated (name_size w.tier.schema) (slot_entries w.tier) w.journal) → version_in t' ≡ 2 → Leaves state possible d d' (LeftByRotation w.tier.schema over.there w.journal (slot_entries w.tier))
      → IsWrittenOver state possible (Some t') d d' None Rotates w
  turned_over t t' d d' w now over later on version left =
      let j : Journal = renewed w in
      let w' : World = over_disk j w.disk_faults (state d').moment w in
      record {
        journal = j;
        faults = w.disk_faults;
        later = later;
        told = λ o told.
            let same : over.there ≡ o = same_Some over.there o (sym over.certain.told ∙ told) in
            record { there = on.now; told = on.certain.told; same = on.beside ∙ ap (λ (x : Held). x.history) same };
        is = record {
          result = Renewed;
          tier = refl;
          history = refl;
          journal = refl;
          bank = refl;
          disk = omega arith;
          moment = subst (λ (m : ℕ). m ≤ (state d').moment) (sym now) later;
          shared = refl;
          end = refl;
        };
        keeps = kept_unless (record {
          there = on.now;
          certain = on.certain;
          keeps = on_way w.tier.schema t' on.now.slots (rotated (name_size w.tier.schema) (slot_entries w.tier) w.journal) j.way on.keeps;
          version = version;
          leaves = turned_leaves state possible d d' over.there on.now w w' over.certain on.beside refl refl (flushed_tables w.tier.schema t over.there.slots w.journal over.keeps)
              (flushed_tables w.tier.schema t' on.now.slots (rotated (name_size w.tier.schema) (slot_entries w.tier) w.journal) on.keeps) left w.journal.way over.leaves;
        });
      }

  -- A call of the disk failed. The tables of the entries are the schema's, so what may be there is a point of the way,
  -- too.
  pub broken_over : IsRead state possible → (t t' : TierJournal) (d d' : D) (w : World) (reply : Reply) → w.moment ≡ (state d).moment → (over : IsOver state possible d t w)
      → AllByRecursion (HasTables w.tier.schema) (slot_entries w.tier) → (IsSome (state d).held → IsSome (state d').held) → Leaves state possible d d' (LeftByRotation w.tier.schema over.there w.journal (slot_entries w.tier)) → reply ≡ faulty code.JournalFault
      → IsWrittenOver state possible (Some t') d d' (Some reply) Rotates w
  broken_over read t t' d d' w reply now over tables tells leaves is =
      let later : (state d).moment ≤ (state d').moment = leaves.later in
      let n = still_some (state d').held (tells (is_some (state d).held over.there over.certain.told)) in
      let last = leaves.each (state d').moment n.0 later (omega arith) (read d' n.0 n.1) in
      let w' : World = over_disk (renewed w) (w.disk_faults + 1) (state d').moment w in
      record {
        journal = renewed w;
        faults = w.disk_faults + 1;
        later = later;
        told = λ o told.
            let same : over.there ≡ o = same_Some over.there o (sym over.certain.told ∙ told) in
            record { there = n.0; told = n.1; same = last.beside ∙ ap (λ (x : Held). x.history) same };
        is = record {
          result = Broken;
          tier = refl;
          history = refl;
          journal = refl;
          bank = refl;
          disk = omega arith;
          moment = subst (λ (m : ℕ). m ≤ (state d').moment) (sym now) later;
          shared = refl;
          end = ap Some is;
        };
        keeps = record {
          leaves = record {
            there = n.0;
            told = n.1;
            leaves = turned_leaves state possible d d' over.there n.0 w w' over.certain last.beside refl refl (flushed_tables w.tier.schema t over.there.slots w.journal over.keeps) tables leaves w.journal.way over.leaves;
          };
          over = λ whole. absurd (never (ap (λ (r : Reply). is_broken (Some r)) (sym is) ∙ whole));
        };
      }
    where
      never : true ≡ false → ⊥
      never e = cc
