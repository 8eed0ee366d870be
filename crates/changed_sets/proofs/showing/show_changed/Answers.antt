use Rattle.stored_tier.specs.Refreshing.{choice_of}
use Rattle.changed_sets.proofs.KeptLaws.{rows_patched, shows_noted}
use Rattle.changed_sets.proofs.showing.show_changed.Goals as goal

pub confirm-requires-clause-keyed : goal.confirm-requires-clause-keyed
confirm-requires-clause-keyed c =
    c.kept_rows_law.ensures.keyed c.args.tier.now c.patch_tier.new.tier c.requires.sound (c.is_known-known.ensures.verified c.if-known.true)
    (rows_patched c.args.tier.now c.patch_tier.new.tier (choice_of c.args.chosen) c.args.changed.position.0 c.args.changed.patches.items c.requires.sound
    (c.requires.fits (c.is_known-known.ensures.fit c.if-known.true)) c.patch_tier.ensures.shown c.patch_tier.ensures.patched)

pub returns-then-known-clause-shown : goal.returns-then-known-clause-shown
returns-then-known-clause-shown c =
    shows_noted c.args.tier.now c.patch_tier.new.tier c.confirm.new.tier (choice_of c.args.chosen) c.args.changed.position.0 c.args.changed.patches.items c.patch_tier.ensures.shown c.confirm.ensures.same
