use Rattle.propagators.proofs.CertainLaws.{bank_certain}
use Rattle.propagators.proofs.rounds.settle.Goals as goal

pub returns-in-Ok-Now-clause-certain : goal.returns-in-Ok-Now-clause-certain
returns-in-Ok-Now-clause-certain g c = bank_certain g.P.Disk.state g.P.Disk.possible g.met.P.Disk.certain c.args.site.now c.apply_once.new.self _ c.apply_once.ensures.told c.apply_once.ensures.crash

pub returns-in-Ok-Before-clause-certain : goal.returns-in-Ok-Before-clause-certain
returns-in-Ok-Before-clause-certain g c = bank_certain g.P.Disk.state g.P.Disk.possible g.met.P.Disk.certain c.args.site.now c.apply_once.new.self _ c.apply_once.ensures.told c.apply_once.ensures.crash

pub returns-in-Ok-Differs-clause-certain : goal.returns-in-Ok-Differs-clause-certain
returns-in-Ok-Differs-clause-certain g c = bank_certain g.P.Disk.state g.P.Disk.possible g.met.P.Disk.certain c.args.site.now c.apply_once.new.self _ c.apply_once.ensures.told c.apply_once.ensures.crash

pub returns-in-Err-Failed-clause-certain : goal.returns-in-Err-Failed-clause-certain
returns-in-Err-Failed-clause-certain g c = bank_certain g.P.Disk.state g.P.Disk.possible g.met.P.Disk.certain c.args.site.now c.apply_once.new.self _ c.apply_once.ensures.told c.apply_once.ensures.crash

pub returns-clause-certain : goal.returns-clause-certain
returns-clause-certain g c = bank_certain g.P.Disk.state g.P.Disk.possible g.met.P.Disk.certain c.args.site.now c.apply_once.new.self _ c.apply_once.ensures.told c.apply_once.ensures.crash
