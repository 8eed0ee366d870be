use Rattle.std.proofs.Common.{ap, subst, sym, ◌∙◌}
use Rattle.own_rows.specs.OwnTables.{AreShown}
use Rattle.open_sessions.specs.Lookups.{open_ops}
use Rattle.open_sessions.specs.Opening.{seen_all}
use Rattle.group_store.specs.Shown.{shown_by}
use Rattle.session_engine.proofs.QueryLaws.{calm_answer}
use Rattle.session_engine.proofs.SelectLaws.{answered_over}
use Rattle.stored_tier.proofs.OwnSeen.{own_lies}
use Rattle.session_engine.proofs.query.answer.Goals as goal

pub overlay-seen-requires-clause-shown : goal.overlay-seen-requires-clause-shown
overlay-seen-requires-clause-shown c =
    subst (AreShown (open_ops c.args.id (seen_all c.args.tier.now.sessions)))
    (sym (c.new-shown.ensures ∙ ap (shown_by c.args.tier.now.schema) c.as_slice.ensures.value))
    (own_lies c.args.tier.now c.args.id (c.requires.sound.verified c.requires.verified))

pub returns-clause-answers : goal.returns-clause-answers
returns-clause-answers c = λ w s shows has.
    answered_over c.tier_law.ensures.over_is_applied c.label_law.ensures.number c.args.tier.now c.args.id
    c.args.query.now c.answer_query.result _ _ c.requires.sound
    (c.new-shown.ensures ∙ ap (shown_by c.args.tier.now.schema) c.as_slice.ensures.value)
    c.overlay-seen.ensures c.answer_query.ensures w s shows has

pub returns-clause-calm : goal.returns-clause-calm
returns-clause-calm c = calm_answer c.args.query.now _ c.answer_query.result c.answer_query.ensures
