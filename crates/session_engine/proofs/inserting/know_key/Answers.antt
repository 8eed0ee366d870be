use Rattle.std.proofs.Common.{refl, sym, subst, ◌∙◌}
use Rattle.pending_writes.specs.Noting.{TellsWriters}
use Rattle.session_engine.proofs.WriterLaws.{is_left, none_writes_key}
use Rattle.session_engine.proofs.inserting.know_key.Goals as goal

pub returns-in-None : goal.returns-in-None
returns-in-None c =
    let t = c.args.tier.now in
    let tells = subst (λ n. TellsWriters t.schema n t.unsettled.items t.writers) (sym c.first_unsettled.ensures) c.requires.sound.writers in (
      sym (c.writes.ensures t.schema c.requires.sound.sessions) ∙ c.if-writes.false,
      none_writes_key t.schema c.args.table c.args.key.now t.unsettled.items (sym (c.last.ensures t.schema t.unsettled.items tells) ∙ c.in-None.is),
    )

pub returns-else-not-is_since : goal.returns-else-not-is_since
returns-else-not-is_since c =
    let t = c.args.tier.now in
    let tells = subst (λ n. TellsWriters t.schema n t.unsettled.items t.writers) (sym c.first_unsettled.ensures) c.requires.sound.writers in (
      sym (c.writes.ensures t.schema c.requires.sound.sessions) ∙ c.if-writes.false,
      is_left t c.args.table c.args.key.now c.in-Some.writer (sym (c.last.ensures t.schema t.unsettled.items tells) ∙ c.in-Some.is) (c.if-not-is_since.ensures refl),
    )
