use Rattle.std.proofs.Common.{ap, subst, sym, ◌∙◌}
use Rattle.table_state.specs.Keyed.{IsKeyed}
use Rattle.own_rows.specs.OwnTables.{AreShown}
use Rattle.open_sessions.specs.Lookups.{open_ops}
use Rattle.open_sessions.specs.Opening.{seen_all}
use Rattle.group_store.specs.Shown.{shown_by}
use Rattle.stored_tier.proofs.OwnSeen.{own_lies}
use Rattle.session_engine.proofs.using.query_uses.Goals as goal

pub overlay-seen-requires-clause-shown : goal.overlay-seen-requires-clause-shown
overlay-seen-requires-clause-shown c =
    subst (AreShown (open_ops c.args.id (seen_all c.args.tier.now.sessions)))
    (sym (c.new-shown.ensures ∙ ap (shown_by c.args.tier.now.schema) c.as_slice.ensures.value))
    (own_lies c.args.tier.now c.args.id (c.requires.sound.verified c.requires.verified))

pub used_by_query-requires : goal.used_by_query-requires
used_by_query-requires c =
    c.keyed_law.ensures.all (open_ops c.args.id (seen_all c.args.tier.now.sessions)) _ _ c.overlay-seen.ensures
    (subst IsKeyed (sym (c.new-shown.ensures ∙ ap (shown_by c.args.tier.now.schema) c.as_slice.ensures.value))
    (c.requires.sound.verified c.requires.verified).rows.keyed)
