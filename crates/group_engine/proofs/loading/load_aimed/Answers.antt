use Rattle.std.proofs.Common.{◌∙◌, ap, not}
use Rattle.stored_tier.specs.Performing.{reply_of}
use Rattle.group_engine.proofs.LoadingLaws.{aimed_behind, aimed_whole}
use Rattle.group_engine.proofs.loading.load_aimed.Goals as goal

pub returns-then-aim-clause-loads : goal.returns-then-aim-clause-loads
returns-then-aim-clause-loads g c = λ x of kind.
    let reads = kind ∙ c.if-aim.true in
    aimed_whole g.P.Disk.state g.P.Disk.possible c.args.tier.now c.load_whole.new.tier c.args.journal.now c.load_whole.new.journal c.args.site.now c.load_whole.new.site c.args.aim.now.place x c.args.refreshes (reply_of c.load_whole.result) reads
    (c.load_whole.ensures.reads x of reads)

pub returns-else-aim-clause-loads : goal.returns-else-aim-clause-loads
returns-else-aim-clause-loads g c = λ x of kind.
    let writes = kind ∙ c.if-aim.false in
    aimed_behind g.P.Disk.state g.P.Disk.possible c.args.tier.now c.load_behind.new.tier c.args.journal.now c.load_behind.new.journal c.args.site.now c.load_behind.new.site c.args.aim.now.place x c.args.refreshes (reply_of c.load_behind.result) writes
    (c.load_behind.ensures.reads x of (ap not writes))
