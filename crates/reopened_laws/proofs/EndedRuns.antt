-- A run of the program leaves a site that may be opened again.
use Rattle.std.proofs.Common.{◌≡◌, ℕ, Option, Some, None, List, [], ◌++◌, refl, sym, ap, subst, ◌∙◌}
use Rattle.table_defs.specs.declared.definition.TableDef.{TableDef}
use Rattle.table_state.specs.Histories.{state_of}
use Rattle.table_state.specs.Tables.{TableState}
use Rattle.outside.specs.Holding.{Held}
use Rattle.commit_journal.specs.Layout.{HaveBytes}
use Rattle.outside.specs.Others.{is_shared}
use Rattle.outside.specs.Sites.{SiteState}
use Rattle.tier_journal.specs.Keeping.{Keeps}
use Rattle.cache_tier.specs.Groups.{is_table_of, is_writethrough}
use Rattle.cache_tier.specs.declared.reply.Reply.{Reply}
use Rattle.cache_tier.specs.TierStates.{Settings, Tier}
use Rattle.cache_tier.specs.Worlds.{IsUnshared, World}
use Rattle.cache_engine.specs.Opening.{Opens}
use Rattle.cache_engine.specs.Requests.{Given, LineRun}
use Rattle.cache_tier.specs.Steps.{Finishes}
use Rattle.line_laws.proofs.FlushLaws.{IsWhole, kept_flushes}
use Rattle.run_laws.specs.Lines.{MayGoOn}
use Rattle.stored_tier.specs.Sites.{IsAt}
use Rattle.tier_opening.specs.Opening.{MayOpen}
use Rattle.session_cli.specs.Cutting.{all_lines}
use Rattle.session_cli.specs.Opening.{begins}
use Rattle.session_cli.specs.Outside.{IsInSlots, WasKept}
use Rattle.session_cli.specs.Serving.{GoesOn, HasFlushed, Origin, Rests, WasLeft}
use Rattle.reopened_laws.specs.Ending.{LeavesSite, MayOpenAgain, RunsLeaveSites}
use Rattle.reopened_laws.specs.Leaving.{HaveOwnTableNames, IsKeptAt}
use Rattle.reopened_laws.proofs.ReadParts.{Readable}
use Rattle.reopened_laws.proofs.HandedOn.{goes_first, goes_through, left_last, may_go_on}
use Rattle.reopened_laws.proofs.ReadOpenings.{opened_readable}
use Rattle.reopened_laws.proofs.ReadRuns.{IsReadable, end_keeps, readable_told, run_keeps}
use Rattle.reopened_laws.proofs.RunEnds.{rests_leave, run_leaves}
use Rattle.reopened_laws.proofs.SchemaLaws.{front_told}
use Rattle.commit_journal.proofs.TailLaws.{rest_bytes}
use Rattle.reopened_laws.proofs.SlotLaws.{left_at}

-- ---- the journal is kept at the site

same_held : (told : Option Held) (a b : Held) → told ≡ Some a → told ≡ Some b → a ≡ b
same_held told a b x y = one (sym x ∙ y)
  where
    one : Some a ≡ Some b → a ≡ b
    one e = cc

-- the tier's schema is a front of the bank's
abbrev pub KnowsFront : World → Type 0
KnowsFront w = (s : TableState) → state_of w.history ≡ Some s → (more : List TableDef) × (s.schema ≡ w.tier.schema ++ more)

pub kept_at : (site : SiteState) (w : World) (left : Held) → IsAt site w → IsInSlots site w → KnowsFront w → IsReadable w → site.held ≡ Some left → IsKeptAt left w
kept_at site w left at slots front reads told = record {
  history = ap (λ (h : Held). h.history) (same_held site.held left at.there told at.told) ∙ sym at.history;
  journal = slots.journal;
  keeps = subst (λ (h : Held). Keeps w.tier.schema slots.journal h.slots w.journal) (same_held site.held slots.there left slots.told told) slots.keeps;
  texts = reads.texts;
  front = front;
  named = reads.named;
}

-- no slot of it is without bytes
pub bytes_at : (site : SiteState) (w : World) (left : Held) → IsInSlots site w → site.held ≡ Some left → HaveBytes left.slots
bytes_at site w left slots told = subst (λ (h : Held). HaveBytes h.slots) (same_held site.held slots.there left slots.told told) (rest_bytes slots.journal.journal slots.there.slots _ _ slots.keeps.rests)

-- the site of a world that may be opened has its names
pub named_at : (site : SiteState) (w : World) (left : Held) → IsAt site w → IsReadable w → site.held ≡ Some left → (s : TableState) → state_of left.history ≡ Some s → HaveOwnTableNames s.schema
named_at site w left at reads told s leaves = reads.named s (ap state_of (at.history ∙ ap (λ (h : Held). h.history) (same_held site.held at.there left at.told told)) ∙ leaves)

-- ---- how it is known

module _ (settings : Settings) (moment : ℕ) (there left : Held) (o : Origin) (lines : List (List ℕ)) (replies : List (Option Reply)) (site : SiteState) (once : World → Type 0) (x : Opens settings moment there o.world) (may : MayOpenAgain o.world.shared there) where
  -- in the world behind the lines
  module _ (given : List Given) (ran : World) (run : LineRun o.world given replies ran) (goes : GoesOn once o.world given replies ran run) (apart : IsUnshared ran) where
    was : WasLeft once ran
    was = left_last once o.world given replies ran run goes

    here : MayGoOn ran
    here = may_go_on once ran was apart

    reads : Readable ran
    reads = run_keeps o.world given replies ran run (opened_readable settings moment there o.world x may.named)

    flushed_leaves : (last : World) → Finishes ran last None → IsUnshared last → IsAt site last → IsInSlots site last → site.held ≡ Some left → MayOpenAgain site.shared left
    flushed_leaves last finishes apart_last at slots told = record {
      may = subst (λ s. MayOpen s left) at.shared
          (run_leaves settings moment there left o.world ran given replies x may.may (goes_first once o.world given replies ran run goes apart) run (goes_through once o.world given replies ran run goes apart) last finishes
          (left_at left last (kept_at site last left at slots front read told)));
      bytes = bytes_at site last left slots told;
      named = named_at site last left at read told;
    }
      where
        whole : IsWhole [] ran last
        whole = (kept_flushes [] ran last None was.kept finishes refl).0

        read : IsReadable last
        read = readable_told last (end_keeps ran last None finishes reads)

        front : KnowsFront last
        front s leaves =
            let f = front_told ran here.left s (ap state_of (sym whole.history) ∙ leaves) in
            (f.0, f.1 ∙ ap (λ (v : Tier). v.schema ++ f.0) (sym whole.tier))

    rest_leaves : IsAt site ran → IsInSlots site ran → site.held ≡ Some left → MayOpenAgain site.shared left
    rest_leaves at slots told = record {
      may = subst (λ s. MayOpen s left) at.shared
          (rests_leave settings moment there left o.world ran given replies x may.may (goes_first once o.world given replies ran run goes apart) run (goes_through once o.world given replies ran run goes apart) apart
          (left_at left ran (kept_at site ran left at slots (front_told ran here.left) (readable_told ran reads) told)));
      bytes = bytes_at site ran left slots told;
      named = named_at site ran left at (readable_told ran reads) told;
    }

  -- the flush leaves the groups
  apart_before : (ran last : World) → WasLeft once ran → Finishes ran last None → IsUnshared last → IsUnshared ran
  apart_before ran last was finishes apart t e = sym (ap (λ (v : Tier). is_table_of is_writethrough v.groups t) whole.tier) ∙ apart t (ap (λ s. is_shared s t) whole.shared ∙ e)
    where
      whole : IsWhole [] ran last
      whole = (kept_flushes [] ran last None was.kept finishes refl).0

pub flushed_leave_sites : {D : Type 0} (state : D → SiteState) (possible : D → ℕ → Held → Type 0) → LeavesSite state possible HasFlushed
flushed_leave_sites state possible settings moment there left o lines replies d x may a apart told =
    let once : World → Type 0 = WasKept state possible in
    let was = left_last once o.world a.comes.given replies a.ran a.comes.run a.goes in
    flushed_leaves settings moment there left o lines replies (state d) once x may a.comes.given a.ran a.comes.run a.goes
    (apart_before settings moment there left o lines replies (state d) once x may a.ran a.last was a.ended.flushed apart) a.last a.ended.flushed apart a.at a.slots told

pub rests_leave_sites : {D : Type 0} (state : D → SiteState) (possible : D → ℕ → Held → Type 0) → LeavesSite state possible Rests
rests_leave_sites state possible settings moment there left o lines replies d x may a apart told =
    rest_leaves settings moment there left o lines replies (state d) (WasKept state possible) x may a.comes.given a.ran a.comes.run a.goes (subst IsUnshared a.ended apart) (subst (IsAt (state d)) a.ended a.at) (subst (IsInSlots (state d)) a.ended a.slots) told

pub runs_leave_sites : {D : Type 0} (state : D → SiteState) (possible : D → ℕ → Held → Type 0) → RunsLeaveSites state possible
runs_leave_sites state possible onset settings there left start input written written' coming coming' d d' source x alone may apart told =
    let run = x.ended alone in
    flushed_leave_sites state possible settings x.first there left (begins x.world start coming) (all_lines run.taken.given) run.outcome.replies d' x.opens
    (record { may = subst (λ s. MayOpen s there) (sym x.shares) may.may; bytes = may.bytes; named = may.named }) run.outcome.answered apart told
