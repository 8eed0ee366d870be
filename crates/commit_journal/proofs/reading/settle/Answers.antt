use Rattle.std.proofs.Common.{◌≡◌, Option, Some, Ok, ap, subst, inr, ◌∙◌}
use Rattle.outside.specs.Calls.{Durable, Same}
use Rattle.outside.specs.Holding.{Held, slot_of}
use Rattle.outside.specs.declared.disk.Slot.TheVariants.{First, Second}
use Rattle.outside.specs.declared.fault.DiskFault.{DiskFault}
use Rattle.outside.proofs.Moments.{sync_certain, told_then}
use Rattle.commit_journal.proofs.reading.settle.Goals as goal

pub returns-clause-certain : goal.returns-clause-certain
returns-clause-certain g c = λ o told.
    let a = c.args.d.now in
    let b = c.sync.new.self in
    let n = told_then (g.D.Disk.state a).held (g.D.Disk.state b).held Same o told c.sync.ensures.told in
    let told_b : (g.D.Disk.state b).held ≡ Some o = n.1 ∙ ap (λ (x : Held). Some x) n.2 in
    let first : (p : Held) → g.D.Disk.possible b (g.D.Disk.state b).moment p → slot_of First p.slots ≡ slot_of First o.slots =
    subst (λ (x : Option Held). Durable {T = Unit {0}} {E = DiskFault} x First (Ok tt) (g.D.Disk.possible b (g.D.Disk.state b).moment)) told c.in_ok-sync.ensures.durable in
    sync_certain g.D.Disk.state g.D.Disk.possible (Unit {0}) DiskFault b c.sync-2.new.self Second tt o told_b
    (λ p h. inr (first p h, g.met.D.Disk.certain b o p told_b h))
    c.sync-2.ensures.crash c.sync-2.ensures.told c.in_ok-sync-2.ensures.durable
