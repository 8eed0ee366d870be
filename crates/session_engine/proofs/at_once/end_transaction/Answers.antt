use Rattle.std.proofs.Common.{ap, false, refl, subst, sym, ◌∙◌}
use Rattle.group_catalog.specs.Catalogs.{groups_in}
use Rattle.open_sessions.specs.Lookups.{open_ops}
use Rattle.open_sessions.specs.Opening.{seen_all}
use Rattle.stored_tier.specs.declared.tier.Tier.{Tier as Stored}
use Rattle.session_engine.specs.Committing.{SparesHidden, StoresCommit, are_housed}
use Rattle.session_engine.proofs.AppliedLaws.{applied_behind}
use Rattle.session_engine.proofs.AtOnceDone.{finished_rest}
use Rattle.session_engine.proofs.CommitPerformed.{sound_written}
use Rattle.session_engine.proofs.CommittedStores.{commit_ready}
use Rattle.session_engine.proofs.at_once.end_transaction.Goals as goal

pub note_verified-requires-clause-sound : goal.note_verified-requires-clause-sound
note_verified-requires-clause-sound c =
    sound_written c.args.tier.now _ (open_ops c.args.id (seen_all c.args.tier.now.sessions)) c.requires.sound (record { schema = refl; catalog = refl; hidden = refl; directory = refl; visible = refl })
    (subst (SparesHidden (groups_in c.args.tier.now.catalog)) c.requires.ready.own c.requires.ready.spared)
    (commit_ready c.args.tier.now c.args.ops c.args.entered.now c.args.id c.requires.ready c.commit_ops.new.stores.items c.commit_ops.ensures)
    (c.rest.ensures.sound c.args.tier.now.schema c.requires.sound.sessions) c.requires.sound.numbered c.requires.sound.later c.requires.sound.writers refl

pub note_verified-requires-clause-known : goal.note_verified-requires-clause-known
note_verified-requires-clause-known c = λ yes.
    applied_behind c.args.tier.now _ c.args.id c.requires.sound (c.is_verified_for-known.ensures.verified yes)
    (sym (ap (are_housed c.args.tier.now.directory) (c.as_slice.ensures ∙ c.requires.ready.own)) ∙ c.is_verified_for-known.ensures.housed yes) refl
    (commit_ready c.args.tier.now c.args.ops c.args.entered.now c.args.id c.requires.ready c.commit_ops.new.stores.items c.commit_ops.ensures)
    (c.rest.ensures.seen c.args.tier.now.schema c.requires.sound.sessions)

pub returns-clause-finishes : goal.returns-clause-finishes
returns-clause-finishes c =
    let same = c.note_verified.ensures.same in
    record {
      rest = finished_rest c.args.tier.now (record (c.args.tier.now) { stores = c.commit_ops.new.stores; sessions = c.rest.new.self; verified = false })
          c.note_verified.new.tier refl same;
      seen = ap (λ (t : Stored). seen_all t.sessions) same ∙ c.rest.ensures.seen c.args.tier.now.schema c.requires.sound.sessions;
      stores = subst (λ (z : Stored). StoresCommit c.args.tier.now (open_ops c.args.id (seen_all c.args.tier.now.sessions)) z.stores.items) (sym same)
          (commit_ready c.args.tier.now c.args.ops c.args.entered.now c.args.id c.requires.ready c.commit_ops.new.stores.items c.commit_ops.ensures);
    }
