use Rattle.std.proofs.Common.{◌≡◌, ◌≤◌, ◌∙◌, ◌++◌, ◌∷◌, [], Err, ap, refl, rules, subst, sym}
use Rattle.cache_tier.specs.declared.reply.Last.TheVariants.{Done}
use Rattle.cache_tier.specs.Worlds.{only}
use Rattle.stored_tier.specs.Answering.{Replies}
use Rattle.table_state.specs.declared.history.Sealed.{Sealed}
use Rattle.group_catalog.specs.Catalogs.{groups_in}
use Rattle.open_sessions.specs.Lookups.{open_ops}
use Rattle.open_sessions.specs.Opening.{seen_all}
use Rattle.stored_tier.specs.declared.tier.Tier.{Tier as Stored}
use Rattle.statement_uses.specs.Touching.{HaveEntered}
use Rattle.session_engine.specs.Committing.{SparesHidden, StoresCommit, are_deferred, are_housed, commit_answer, commit_fault}
use Rattle.session_engine.proofs.KindLaws.{later_sealed}
use Rattle.session_engine.proofs.AppliedLaws.{applied_behind}
use Rattle.session_engine.proofs.CommittedStores.{commit_made}
use Rattle.session_engine.proofs.CommitPerformed.{rise_sealed, sound_roomed, sound_written}
use Rattle.stored_tier.proofs.QuietLaws.{calm_done}
use Rattle.session_engine.proofs.CommitLaws.{refused_stays, stored_behind_commit, stored_roomed, wanting_answers}
use Rattle.pending_writes.specs.Noting.{TellsWriters}
use Rattle.stored_tier.proofs.WriterLaws.{first_sealed, writers_more}
use Rattle.session_engine.proofs.commit.commit_writes.Goals as goal

pub returns-in_err-judge_commit-clause-answers : goal.returns-in_err-judge_commit-clause-answers
returns-in_err-judge_commit-clause-answers c = λ w s is has.
    let told : Err c.in_err-judge_commit.field-0.0 ≡ c.from_residual.result = Prim.search rules in
    subst (Replies c.args.tier.now w.tier (commit_fault s w.tier) (commit_answer s w.tier)) told
    (refused_stays c.args.tier.now w.tier (commit_fault s w.tier) (commit_answer s w.tier) c.in_err-judge_commit.field-0.0 is.stored
    (c.in_err-judge_commit.ensures.told w.tier s is.stored))

pub returns-then-not-spares_hidden-clause-answers : goal.returns-then-not-spares_hidden-clause-answers
returns-then-not-spares_hidden-clause-answers c = λ w s is has. is.stored

pub returns-in_err-reserve_all-clause-answers : goal.returns-in_err-reserve_all-clause-answers
returns-in_err-reserve_all-clause-answers c =
    wanting_answers c.args.tier.now _ c.args.id c.from_residual-in_err-reserve_all.result (Prim.search rules)
    (λ w is. stored_roomed c.args.tier.now _ w.tier is.stored refl refl refl refl refl refl refl refl c.in_err-reserve_all.ensures.same)

pub returns-in_err-let_wait-clause-answers : goal.returns-in_err-let_wait-clause-answers
returns-in_err-let_wait-clause-answers c =
    wanting_answers c.args.tier.now _ c.args.id c.from_residual-in_err-let_wait.result (Prim.search rules)
    (λ w is. stored_roomed c.args.tier.now _ w.tier is.stored refl refl refl refl refl c.in_err-let_wait.ensures.err refl refl c.in_ok-reserve_all.ensures.same)

pub returns-clause-answers : goal.returns-clause-answers
returns-clause-answers c =
    let same = c.note_verified.ensures.same in
    let own = open_ops c.args.id (seen_all c.args.tier.now.sessions) in
    λ w s is has. (
      c.in_ok-judge_commit.ensures.told w.tier s is.stored,
      stored_behind_commit c.label_law.ensures.number c.label_law.ensures.change c.args.tier.now c.note_verified.new.tier w
          c.args.id s c.requires.sound is has (subst (λ (z : Stored). StoresCommit c.args.tier.now own z.stores.items) (sym same) (commit_made c.args.tier.now own c.in_ok-ops.ops c.in_ok-entered.entered c.as_slice-3.result.now c.reserve_all.new.stores.items c.commit_ops.new.stores.items (c.in_ok-ops.ensures ∙ c.ops-2.ensures) c.as_slice-3.ensures c.in_ok-reserve_all.ensures.same
          (subst (λ stores. HaveEntered (groups_in c.args.tier.now.catalog) stores c.in_ok-ops.ops c.in_ok-entered.entered) c.as_slice.ensures.value c.in_ok-entered.ensures) c.commit_ops.ensures))
          (ap (λ (t : Stored). t.hidden) same) (ap (λ (t : Stored). t.schema) same) (ap (λ (t : Stored). t.stale) same)
          (ap (λ (t : Stored). t.catalog) same)
          (ap (λ (t : Stored). seen_all t.sessions) same ∙ c.rest.ensures.seen c.args.tier.now.schema c.requires.sound.sessions)
          (ap (λ (t : Stored). t.unsettled.items) same ∙ c.in_ok-let_wait.ensures.ok
          ∙ ap (λ x. c.args.tier.now.unsettled.items ++ x ∷ []) c.in_ok-sealed.ensures)
          (ap (λ (t : Stored). t.next) same) (ap (λ (t : Stored). t.clock) same),
      c.done.ensures ∙ ap (λ n. only (Done n)) (sym is.stored.next),
    )

pub returns-clause-stores : goal.returns-clause-stores
returns-clause-stores c =
    let own = open_ops c.args.id (seen_all c.args.tier.now.sessions) in
    subst (λ (z : Stored). StoresCommit c.args.tier.now own z.stores.items) (sym c.note_verified.ensures.same) (commit_made c.args.tier.now own c.in_ok-ops.ops c.in_ok-entered.entered c.as_slice-3.result.now c.reserve_all.new.stores.items c.commit_ops.new.stores.items (c.in_ok-ops.ensures ∙ c.ops-2.ensures) c.as_slice-3.ensures c.in_ok-reserve_all.ensures.same
    (subst (λ stores. HaveEntered (groups_in c.args.tier.now.catalog) stores c.in_ok-ops.ops c.in_ok-entered.entered) c.as_slice.ensures.value c.in_ok-entered.ensures) c.commit_ops.ensures)

pub returns-clause-hidden : goal.returns-clause-hidden
returns-clause-hidden c =
    let same = c.note_verified.ensures.same in
    record { groups = ap (λ (t : Stored). groups_in t.catalog) same; hidden = ap (λ (t : Stored). t.hidden.items) same }

pub returns-clause-calm : goal.returns-clause-calm
returns-clause-calm c = calm_done c.args.tier.now.next c.done.result c.done.ensures

pub returns-in_err-reserve_all-clause-sound : goal.returns-in_err-reserve_all-clause-sound
returns-in_err-reserve_all-clause-sound c =
    sound_roomed c.args.tier.now _ c.requires.sound (record { schema = refl; catalog = refl; hidden = refl; directory = refl; visible = refl })
    c.in_err-reserve_all.ensures.same refl refl refl c.requires.sound.writers refl

pub returns-in_err-let_wait-clause-sound : goal.returns-in_err-let_wait-clause-sound
returns-in_err-let_wait-clause-sound c =
    sound_roomed c.args.tier.now _ c.requires.sound (record { schema = refl; catalog = refl; hidden = refl; directory = refl; visible = refl })
    c.in_ok-reserve_all.ensures.same refl c.in_err-let_wait.ensures.err refl
    (subst (λ n. TellsWriters c.args.tier.now.schema n c.args.tier.now.unsettled.items c.let_wait.new.writers) c.first_unsettled-first.ensures
    (c.in_err-let_wait.ensures.kept (subst (λ n. TellsWriters c.args.tier.now.schema n c.args.tier.now.unsettled.items c.args.tier.now.writers) (sym c.first_unsettled-first.ensures) c.requires.sound.writers))) refl

pub note_verified-requires-clause-sound : goal.note_verified-requires-clause-sound
note_verified-requires-clause-sound c =
    let own = open_ops c.args.id (seen_all c.args.tier.now.sessions) in
    sound_written c.args.tier.now _ own c.requires.sound (record { schema = refl; catalog = refl; hidden = refl; directory = refl; visible = refl })
    (subst (SparesHidden (groups_in c.args.tier.now.catalog)) c.ops.ensures (c.spares_hidden.ensures c.if-not-spares_hidden.false)) (commit_made c.args.tier.now own c.in_ok-ops.ops c.in_ok-entered.entered c.as_slice-3.result.now c.reserve_all.new.stores.items c.commit_ops.new.stores.items (c.in_ok-ops.ensures ∙ c.ops-2.ensures) c.as_slice-3.ensures c.in_ok-reserve_all.ensures.same
    (subst (λ stores. HaveEntered (groups_in c.args.tier.now.catalog) stores c.in_ok-ops.ops c.in_ok-entered.entered) c.as_slice.ensures.value c.in_ok-entered.ensures) c.commit_ops.ensures)
    (c.rest.ensures.sound c.args.tier.now.schema c.requires.sound.sessions)
    (rise_sealed c.args.tier.now.unsettled.items _ _ c.args.tier.now.next own c.requires.sound.numbered c.in_ok-let_wait.ensures.ok
    c.in_ok-sealed.ensures)
    (later_sealed (groups_in c.args.tier.now.catalog) c.args.tier.now.unsettled.items _ _ c.requires.sound.later c.in_ok-let_wait.ensures.ok
    (ap (λ (x : Sealed). are_deferred (groups_in c.args.tier.now.catalog) x.ops) c.in_ok-sealed.ensures
    ∙ c.requires.deferred))
    (writers_more c.args.tier.now c.let_wait.new.unsettled.items c.let_wait.new.writers c.in_ok-sealed.sealed (ap (λ (x : Sealed). x.ticket.0) c.in_ok-sealed.ensures) c.in_ok-let_wait.ensures.ok
    (subst (λ n. TellsWriters c.args.tier.now.schema n (c.args.tier.now.unsettled.items ++ c.in_ok-sealed.sealed ∷ []) c.let_wait.new.writers) c.first_unsettled-first.ensures
    (c.in_ok-let_wait.ensures.noted
    (subst (λ n. n ≤ c.in_ok-sealed.sealed.ticket.0) (sym c.first_unsettled-first.ensures) (first_sealed c.args.tier.now _ _ c.requires.sound c.in_ok-sealed.ensures))
    (subst (λ n. TellsWriters c.args.tier.now.schema n c.args.tier.now.unsettled.items c.args.tier.now.writers) (sym c.first_unsettled-first.ensures) c.requires.sound.writers))))
    refl

pub note_verified-requires-clause-known : goal.note_verified-requires-clause-known
note_verified-requires-clause-known c = λ yes.
    let own = open_ops c.args.id (seen_all c.args.tier.now.sessions) in
    let slice = c.as_slice-2.ensures ∙ c.in_ok-ops.ensures ∙ c.ops-2.ensures in
    applied_behind c.args.tier.now _ c.args.id c.requires.sound (c.is_verified_for-known.ensures.verified yes)
    (sym (ap (are_housed c.args.tier.now.directory) slice) ∙ c.is_verified_for-known.ensures.housed yes) refl
    (commit_made c.args.tier.now own c.in_ok-ops.ops c.in_ok-entered.entered c.as_slice-3.result.now c.reserve_all.new.stores.items c.commit_ops.new.stores.items (c.in_ok-ops.ensures ∙ c.ops-2.ensures) c.as_slice-3.ensures c.in_ok-reserve_all.ensures.same
    (subst (λ stores. HaveEntered (groups_in c.args.tier.now.catalog) stores c.in_ok-ops.ops c.in_ok-entered.entered) c.as_slice.ensures.value c.in_ok-entered.ensures) c.commit_ops.ensures)
    (c.rest.ensures.seen c.args.tier.now.schema c.requires.sound.sessions)
