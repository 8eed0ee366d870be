use Rattle.std.proofs.Common.{refl, subst, sym, ◌∙◌}
use Rattle.group_catalog.specs.Catalogs.{groups_in}
use Rattle.statement_uses.specs.Touching.{HaveEntered}
use Rattle.session_engine.specs.Committing.{SparesHidden}
use Rattle.session_engine.proofs.CommitPerformed.{sound_roomed}
use Rattle.session_engine.proofs.CommittedStores.{have_roomless}
use Rattle.session_engine.proofs.at_once.make_ready.Goals as goal

pub returns-in_err-reserve_all-clause-sound : goal.returns-in_err-reserve_all-clause-sound
returns-in_err-reserve_all-clause-sound c =
    sound_roomed c.args.tier.now _ c.requires (record { schema = refl; catalog = refl; hidden = refl; directory = refl; visible = refl })
    c.in_err-reserve_all.ensures.same refl refl refl c.requires.writers refl

pub returns-clause-sound : goal.returns-clause-sound
returns-clause-sound c =
    sound_roomed c.args.tier.now _ c.requires (record { schema = refl; catalog = refl; hidden = refl; directory = refl; visible = refl })
    c.in_ok-reserve_all.ensures.same refl refl refl c.requires.writers refl

pub returns-clause-entered : goal.returns-clause-entered
returns-clause-entered c =
    have_roomless (groups_in c.args.tier.now.catalog) c.args.tier.now.stores.items c.in_ok-ops.ops c.in_ok-entered.entered
    (subst (λ stores. HaveEntered (groups_in c.args.tier.now.catalog) stores c.in_ok-ops.ops c.in_ok-entered.entered) c.as_slice.ensures.value c.in_ok-entered.ensures)

pub returns-clause-spared : goal.returns-clause-spared
returns-clause-spared c =
    subst (SparesHidden (groups_in c.args.tier.now.catalog)) (c.ops.ensures ∙ sym (c.in_ok-ops.ensures ∙ c.ops-2.ensures))
    (c.spares_hidden.ensures c.if-not-spares_hidden.false)
