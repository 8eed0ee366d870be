use Rattle.std.proofs.Common.{ap, sym, List, ℕ, ◌∙◌}
use Rattle.journal_entries.specs.declared.entry.Entry.TheVariants.{Turned}
use Rattle.journal_entries.specs.declared.entry.GroupState.{GroupState}
use Rattle.cache_tier.specs.Journals.{SetsState}
use Rattle.tier_journal.specs.Writing.{written_state}
use Rattle.tier_journal.proofs.batch.Batch.with_state.Goals as goal

pub returns : goal.returns
returns c = λ schema. c.in_ok-batch.ensures schema (SetsState c.args.name.now c.args.state) tt
    (ap (λ (l : List ℕ). Turned l (written_state c.args.state)) (sym c.in_ok-name.ensures) ∙ ap (λ (s : GroupState). Turned c.in_ok-name.name s) (sym c.written_state.ensures))
