use Rattle.instances.proofs.InstanceLaws.{is_apart, is_covered, is_part}
use Rattle.instances.proofs.laws.instance_law.Goals as goal

pub returns : goal.returns
returns c = record { part = is_part; covered = is_covered; apart = is_apart }
