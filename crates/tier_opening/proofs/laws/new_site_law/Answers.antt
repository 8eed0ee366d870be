use Rattle.tier_opening.proofs.NewLaws.{new_site}
use Rattle.tier_opening.proofs.laws.new_site_law.Goals as goal

pub returns : goal.returns
returns c = λ shared o new. new_site shared o new
