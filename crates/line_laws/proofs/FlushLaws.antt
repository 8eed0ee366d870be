-- Entries that are flushed, and notes.
use Rattle.std.proofs.Common.{◌≡◌, ℕ, true, false, Option, None, List, [], ◌∷◌, ◌++◌, length, refl, sym, ap, subst, ◌∙◌, append_assoc, append-nil}
use Rattle.std.specs.Bool.{MatchBool}
use Rattle.table_state.specs.declared.history.Sealed.{Sealed}
use Rattle.table_state.specs.declared.operation.Op.{Op}
use Rattle.cache_tier.specs.declared.reply.Reply.{Reply}
use Rattle.cache_tier.specs.JournalSteps.{Failing, Flushed, Flushes, FlushesKept, Whole, flush_stop, name_sizes}
use Rattle.cache_tier.specs.Journals.{Journal, JournalEntry, flushed_with, passed_by}
use Rattle.cache_tier.specs.JournalWays.{given}
use Rattle.cache_tier.specs.Worlds.{Passes, World}
use Rattle.recovery.specs.Journalled.{IsJournalled, IsJournalledOn}
use Rattle.recovery.proofs.JournalledLaws.{flushes_kept}
use Rattle.recovery.proofs.OthersLaws.{one_journalled_on}
use Rattle.line_laws.specs.Keeping.{is_broken}

-- the tail, and these entries behind it, are flushed, whatever becomes of the way
pub record HasBatch (entries : List JournalEntry) (old new : Journal) : Type 0 where
  pub kept : new.kept ≡ old.kept
  pub flushed : new.flushed ≡ given old ++ entries
  pub tail : new.tail ≡ []

-- the same while the history is so long
pub record HasFlushed (entries : List JournalEntry) (until : ℕ) (old new : Journal) : Type 0 where
  pub batch : HasBatch entries old new
  pub way : new.way ≡ passed_by old.flushed until old.way

whole_flushed : (size : Op → ℕ) (entries : List JournalEntry) (j : Journal) → HasBatch entries j (flushed_with size entries j)
whole_flushed size entries j = by j.tail refl entries refl
  where
    by : (tail : List JournalEntry) → j.tail ≡ tail → (es : List JournalEntry) → entries ≡ es → HasBatch entries j (flushed_with size entries j)
    by [] e [] f = subst (λ es. HasBatch es j (flushed_with size es j)) (sym f) (subst (λ t. HasBatch [] (record j { tail = t }) (flushed_with size [] (record j { tail = t }))) (sym e)
        (record { kept = refl; flushed = sym (append-nil (j.flushed ++ []) ∙ append-nil j.flushed); tail = refl }))
    by [] e (x ∷ es) f = subst (λ es. HasBatch es j (flushed_with size es j)) (sym f) (subst (λ t. HasBatch (x ∷ es) (record j { tail = t }) (flushed_with size (x ∷ es) (record j { tail = t }))) (sym e)
        (record { kept = refl; flushed = ap (λ l. l ++ x ∷ es) (sym (append-nil j.flushed)); tail = refl }))
    by (y ∷ tail) e es f = subst (λ t. HasBatch entries (record j { tail = t }) (flushed_with size entries (record j { tail = t }))) (sym e)
        (record { kept = refl; flushed = sym (append_assoc j.flushed (y ∷ tail) entries); tail = refl })

-- what a flush leaves, be it done or failed: tier and history stay, and the entries are there
pub record IsWhole (entries : List JournalEntry) (w w' : World) : Type 0 where
  pub tier : w'.tier ≡ w.tier
  pub history : w'.history ≡ w.history
  pub journal : HasFlushed entries (length w.history) w.journal w'.journal
  pub shared : w'.shared ≡ w.shared

-- where a journal is kept, the flush is one of it
flushes_it : (entries : List JournalEntry) (w w' : World) (stop : Option Reply) → w.journal.kept ≡ true → Flushes entries w w' stop → FlushesKept entries w w' stop
flushes_it entries w w' stop kept f = subst (λ b. MatchBool b (FlushesKept entries w w' stop) (Passes w w' stop)) kept f

pub flushes_whole : (entries : List JournalEntry) (w w' : World) (stop : Option Reply) → w.journal.kept ≡ true → Flushes entries w w' stop → IsWhole entries w w'
flushes_whole entries w w' stop kept f =
    let k = flushes_it entries w w' stop kept f in
    let h = whole_flushed (name_sizes w) entries w.journal in record {
      tier = k.tier;
      history = k.history;
      journal = subst (HasFlushed entries (length w.history) w.journal) (sym k.journal) (record { batch = record { kept = h.kept; flushed = h.flushed; tail = h.tail }; way = refl });
      shared = k.shared;
    }

pub kept_flushes : (entries : List JournalEntry) (w w' : World) (stop : Option Reply) → w.journal.kept ≡ true → Flushes entries w w' stop → is_broken stop ≡ false → IsWhole entries w w' × (stop ≡ None)
kept_flushes entries w w' stop kept f ok = (flushes_whole entries w w' stop kept f, let k = flushes_it entries w w' stop kept f in by k.result k.end)
  where
    by : (result : Flushed) → stop ≡ flush_stop result → stop ≡ None
    by Whole s = s
    by Failing s = let bad : true ≡ false = ap is_broken (sym s) ∙ ok in Prim.cc

-- the tail alone
pub tail_flushed : (w w' : World) (early : List Sealed) → IsJournalled w early → IsWhole [] w w' → IsJournalledOn w' early
tail_flushed w w' early j is =
    one_journalled_on (record w { journal = w'.journal }) w' early (record { tier = is.tier; history = is.history; journal = refl; shared = is.shared })
    (flushes_kept w early w'.journal j (record { kept = is.journal.batch.kept ∙ j.kept; flushed = is.journal.batch.flushed ∙ append-nil (given w.journal); tail = is.journal.batch.tail; way = is.journal.way }))
