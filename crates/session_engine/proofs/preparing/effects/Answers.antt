use Rattle.std.proofs.Common.{◌∙◌, ap, subst, sym}
use Rattle.table_state.specs.Keyed.{IsKeyed}
use Rattle.table_state.specs.Independence.{IsWhole}
use Rattle.table_state.specs.Tables.{TableState}
use Rattle.table_state.proofs.IndependenceLaws.{all_whole}
use Rattle.order_laws.proofs.NextLaws.{all_defined}
use Rattle.own_rows.specs.OwnTables.{AreShown}
use Rattle.session_state.specs.Kept.{seen_of}
use Rattle.open_sessions.specs.Lookups.{open_ops}
use Rattle.open_sessions.specs.Opening.{AreSessions, seen_all}
use Rattle.group_store.specs.Shown.{shown_by}
use Rattle.stored_tier.proofs.OwnSeen.{own_lies}
use Rattle.stored_tier.proofs.VerifyLaws.{whole_rows}
use Rattle.session_engine.proofs.WriteLaws.{one_state, prepared_over, unbroken_over}
use Rattle.session_engine.proofs.preparing.effects.Goals as goal

pub overlay-seen-requires-clause-shown : goal.overlay-seen-requires-clause-shown
overlay-seen-requires-clause-shown c =
    subst (AreShown (open_ops c.args.id (seen_all c.args.tier.now.sessions)))
    (sym (c.new-shown.ensures ∙ ap (shown_by c.args.tier.now.schema) c.as_slice.ensures.value))
    (own_lies c.args.tier.now c.args.id (c.requires.sound.verified c.requires.verified))

pub prepare_write-requires-clause-whole : goal.prepare_write-requires-clause-whole
prepare_write-requires-clause-whole c =
    all_whole (open_ops c.args.id (seen_all c.args.tier.now.sessions)) _ _ c.overlay-seen.ensures
    (subst IsWhole (sym (c.new-shown.ensures ∙ ap (shown_by c.args.tier.now.schema) c.as_slice.ensures.value))
    (whole_rows c.args.tier.now))

pub prepare_write-requires-clause-keyed : goal.prepare_write-requires-clause-keyed
prepare_write-requires-clause-keyed c =
    c.keyed_law.ensures.all (open_ops c.args.id (seen_all c.args.tier.now.sessions)) _ _ c.overlay-seen.ensures
    (subst IsKeyed (sym (c.new-shown.ensures ∙ ap (shown_by c.args.tier.now.schema) c.as_slice.ensures.value))
    (c.requires.sound.verified c.requires.verified).rows.keyed)

pub prepare_write-requires-clause-kept : goal.prepare_write-requires-clause-kept
prepare_write-requires-clause-kept c =
    c.as_slice-in-Some.ensures.kept _
    (subst (λ schema. AreSessions schema c.args.tier.now.sessions)
    (sym (all_defined (open_ops c.args.id (seen_all c.args.tier.now.sessions)) _ _ c.overlay-seen.ensures
    ∙ ap (λ (s : TableState). s.schema) (c.new-shown.ensures ∙ ap (shown_by c.args.tier.now.schema) c.as_slice.ensures.value)))
    c.requires.sound.sessions)

pub returns-in-Some-clause-prepared : goal.returns-in-Some-clause-prepared
returns-in-Some-clause-prepared c = λ a s seen is has applied.
    prepared_over c.label_law.ensures.change c.label_law.ensures.number c.args.tier.now a c.args.id s
    (seen_of c.in-Some.session.now) _ c.args.change.now _ seen c.prepare_write.result c.requires.sound is has c.in-Some.ensures
    c.as_slice-in-Some.ensures.seen
    (one_state (open_ops c.args.id (seen_all c.args.tier.now.sessions)) _ _ _ _
    (c.new-shown.ensures ∙ ap (shown_by c.args.tier.now.schema) c.as_slice.ensures.value) c.overlay-seen.ensures applied)
    (all_defined (open_ops c.args.id (seen_all c.args.tier.now.sessions)) _ _ c.overlay-seen.ensures
    ∙ ap (λ (s : TableState). s.schema) (c.new-shown.ensures ∙ ap (shown_by c.args.tier.now.schema) c.as_slice.ensures.value))
    c.prepare_write.ensures.prepared

pub returns-in-Some-clause-unbroken : goal.returns-in-Some-clause-unbroken
returns-in-Some-clause-unbroken c =
    unbroken_over (open_ops c.args.id (seen_all c.args.tier.now.sessions)) _ _ _ c.prepare_write.result
    (c.new-shown.ensures ∙ ap (shown_by c.args.tier.now.schema) c.as_slice.ensures.value) c.overlay-seen.ensures
    c.prepare_write.ensures.applies
