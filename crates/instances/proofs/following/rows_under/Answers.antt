use Rattle.instances.proofs.FollowLaws.{follows_all, follows_more, follows_none}
use Rattle.instances.proofs.following.rows_under.Goals as goal

pub loop-place-init : goal.loop-place-init
loop-place-init c = follows_none c.args.tables.now c.args.child.now c.args.parents.now c.new-out.result c.new-out.ensures

pub loop-place-preserved : goal.loop-place-preserved
loop-place-preserved c =
    follows_more c.args.tables.now c.args.child.now c.args.parents.now c.loop-place.place c.loop-place.out c.loop-place.invariant c.entry_at-entry.result.now c.entry_at-entry.ensures
    c.args.rows.now c.add_under.new.out c.requires c.in_ok-add_under.ensures

pub returns : goal.returns
returns c =
    follows_all c.args.tables.now c.args.child.now c.args.parents.now c.loop-place.place c.loop-place.out c.loop-place.invariant c.len-place-end.result c.len-place-end.ensures.value c.loop-place-test.false
