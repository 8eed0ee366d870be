use Rattle.std.proofs.Common.{ap, sym, ◌∙◌}
use Rattle.std.specs.List.{list_all}
use Rattle.session_engine.specs.Changing.{is_change}
use Rattle.session_engine.proofs.ChangedLaws.{changed_done, no_insert, refused_before, wanting_still}
use Rattle.stored_tier.proofs.QuietLaws.{session_over, stands_over}
use Rattle.session_engine.proofs.writing.write_cached.Goals as goal

pub returns-in-Err-prepare-clause-unwritten : goal.returns-in-Err-prepare-clause-unwritten
returns-in-Err-prepare-clause-unwritten g c = λ w s has at is unshared.
    let there = stands_over c.args.tier.now c.verify.new.self w c.in-Ok.ensures.same is in
    refused_before c.verify.new.self _ w s c.args.named.now c.in-Err-prepare.refused at there
    (c.in-Err-prepare.ensures.prepared w s there.stored there.shows
    (session_over c.args.tier.now c.verify.new.self c.args.id s c.in-Ok.ensures.same has))

pub returns-then-are_changes-clause-unwritten : goal.returns-then-are_changes-clause-unwritten
returns-then-are_changes-clause-unwritten g c = λ w s has at is unshared.
    let there = stands_over c.args.tier.now c.verify.new.self w c.in-Ok.ensures.same is in
    let known = session_over c.args.tier.now c.verify.new.self c.args.id s c.in-Ok.ensures.same has in
    let changes = sym (c.are_changes.ensures ∙ ap (list_all is_change) c.as_slice.ensures) ∙ c.if-are_changes.true in
    changed_done c.tier_law.ensures.over_is_applied c.label_law.ensures.number c.label_law.ensures.change
    c.use_shown_law.ensures.written c.verify.new.self c.change.new.tier _ w s c.args.id c.args.named.now
    c.in-Ok-prepare.prepared c.change.result c.in-Ok.ensures.sound
    (c.in-Ok.ensures.sound.verified c.in-Ok.ensures.ok) at there known changes
    (c.in-Ok-prepare.ensures.unbroken (no_insert c.in-Ok-prepare.prepared.ops changes))
    (c.in-Ok-prepare.ensures.prepared w s there.stored there.shows known) c.change.ensures.changed

pub returns-else-are_changes-clause-unwritten : goal.returns-else-are_changes-clause-unwritten
returns-else-are_changes-clause-unwritten g c = λ w s has at is unshared.
    let there = stands_over c.args.tier.now c.verify.new.self w c.in-Ok.ensures.same is in
    let known = session_over c.args.tier.now c.verify.new.self c.args.id s c.in-Ok.ensures.same has in
    c.insert_rows.ensures.performs w s c.args.named.now known at there unshared
    (c.in-Ok-prepare.ensures.prepared w s there.stored there.shows known)

pub returns-in-Err-clause-unwritten : goal.returns-in-Err-clause-unwritten
returns-in-Err-clause-unwritten g c = λ w s has at is unshared.
    wanting_still c.verify.new.self (g.P.Disk.state c.args.site.now) c.args.named.now s w at (stands_over c.args.tier.now c.verify.new.self w c.in-Err.ensures.same is)
