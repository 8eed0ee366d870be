use Rattle.std.proofs.Common.{◌≡◌, true, ap, subst, sym, ◌∙◌, ◌++◌, List, ℕ}
use Rattle.journal_entries.specs.declared.entry.Entry.{Entry}
use Rattle.journal_entries.specs.Bodies.{behind, follows}
use Rattle.journal_entries.specs.Spelling.{entry_bytes}
use Rattle.tier_journal.proofs.BatchLaws.{added}
use Rattle.tier_journal.proofs.batch.Batch.with_entry.Goals as goal
use Rattle.std.proofs.Common.{refl}

pub returns : goal.returns
returns c = λ schema e tables is.
    added schema c.args.self _ e tables (subst (λ (x : Entry). follows c.args.self.standing x ≡ true) (sym is) c.requires.order) refl
    (c.behind-batch.ensures ∙ ap (λ (x : Entry). behind c.args.self.standing x) (sym is))
    (c.put_entry.ensures.items ∙ ap (λ (l : List ℕ). l ++ entry_bytes c.args.entry.now) c.in_ok-reserve.ensures.items ∙ ap (λ (x : Entry). c.args.self.bytes.items ++ entry_bytes x) (sym is))
