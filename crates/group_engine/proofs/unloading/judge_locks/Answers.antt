use Rattle.std.proofs.Common.{All, Some, ap, slice_get, subst, sym, ◌∙◌}
use Rattle.std.proofs.lemmas.Option.{slice_get-get_or}
use Rattle.table_defs.specs.Declarations.{Tells}
use Rattle.table_state.specs.Tables.{TableState}
use Rattle.own_rows.specs.OwnTables.{AreShown}
use Rattle.session_state.specs.Kept.{IsKept, seen_of}
use Rattle.session_state.specs.Sessions.{OpenSession}
use Rattle.session_state.proofs.ListLaws.{All-unmap}
use Rattle.group_catalog.specs.Kept.{group_seen}
use Rattle.group_store.specs.Shown.{shown_by}
use Rattle.group_engine.proofs.UnloadHeld.{writer_told}
use Rattle.group_engine.proofs.unloading.judge_locks.Goals as goal

pub writer_within-requires-clause-kept : goal.writer_within-requires-clause-kept
writer_within-requires-clause-kept c =
    subst (λ (s : TableState). All (IsKept s.schema) c.as_slice-sessions.result.now)
    (sym (c.new-shown.ensures ∙ ap (shown_by c.args.tier.now.schema) c.as_slice.ensures.value))
    (c.as_slice-sessions.ensures.kept c.args.tier.now.schema c.requires.sound.sessions)

pub writer_within-requires-clause-shown : goal.writer_within-requires-clause-shown
writer_within-requires-clause-shown c =
    subst (λ (s : TableState). All (λ x. AreShown (seen_of x).ops s) c.as_slice-sessions.result.now)
    (sym (c.new-shown.ensures ∙ ap (shown_by c.args.tier.now.schema) c.as_slice.ensures.value))
    (All-unmap seen_of (λ (x : OpenSession). AreShown x.ops (shown_by c.args.tier.now.schema c.args.tier.now.stores.items)) c.as_slice-sessions.result.now
    (subst (All (λ (x : OpenSession). AreShown x.ops (shown_by c.args.tier.now.schema c.args.tier.now.stores.items))) (sym c.as_slice-sessions.ensures.seen)
    (c.requires.sound.verified c.requires.verified).own))

pub returns : goal.returns
returns c = λ g store at kept. (
    let place = c.args.aim.now.place in
    let got = c.in-Some-get.ensures.lookup.3 in
    let there =
    ap (λ l. slice_get l place) (sym c.deref.ensures.value)
    ∙ slice_get-get_or c.deref.result.now place c.in-Some-get.store.now got.0
    ∙ ap Some (sym (got.1 c.in-Some-get.store.now)) in
    subst (Tells c.refuse_writer.result)
    (sym (writer_told c.args.tier.now c.args.id c.args.aim.now (group_seen c.in-Some.group.now) c.in-Some-get.store.now _ c.as_slice-sessions.result.now _
    (c.new-shown.ensures ∙ ap (shown_by c.args.tier.now.schema) c.as_slice.ensures.value) c.as_slice-sessions.ensures.seen
    (sym c.in-Some.ensures) there c.in-Ok.ensures g store at kept))
    c.refuse_writer.ensures)
