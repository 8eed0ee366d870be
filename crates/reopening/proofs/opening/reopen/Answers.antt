use Rattle.std.proofs.Common.{ap, subst}
use Rattle.std.specs.Prelude.{Ok, Result}
use Rattle.propagators.proofs.CertainLaws.{certain_then}
use Rattle.group_catalog.specs.Catalogs.{groups_in}
use Rattle.reopening.specs.Building.{IsBuilt, SettlesCommits}
use Rattle.reopening.specs.Starting.{DiffersAs}
use Rattle.reopening.specs.declared.start.ReopenError.{ReopenError}
use Rattle.reopening.proofs.OpeningLaws.{differs_not, not_built, opened_with}
use Rattle.reopening.proofs.opening.reopen.Goals as goal

pub returns-in-Err-built_tier-clause-reopens : goal.returns-in-Err-built_tier-clause-reopens
returns-in-Err-built_tier-clause-reopens g c =
    not_built c.args.start c.settle_commits.new.commits.items _ _
    (subst (λ l. SettlesCommits l c.settle_commits.new.commits.items (g.P.Disk.state c.args.site.now) (g.P.Disk.state c.settle_commits.new.site) (let r : Result (Unit {0}) ReopenError = Ok tt in r)) (ap (λ x. x.items) c.into_parts-schema.ensures.commits) c.in-Ok.ensures.settles)

pub returns-clause-reopens : goal.returns-clause-reopens
returns-clause-reopens g c =
    opened_with c.args.start c.settle_commits.new.commits.items _ _ _ c.in-Ok-built_tier.tier c.refill.result
    (subst (λ l. SettlesCommits l c.settle_commits.new.commits.items (g.P.Disk.state c.args.site.now) (g.P.Disk.state c.settle_commits.new.site) (let r : Result (Unit {0}) ReopenError = Ok tt in r)) (ap (λ x. x.items) c.into_parts-schema.ensures.commits) c.in-Ok.ensures.settles)
    c.in-Ok.ensures.all
    (subst (λ s. IsBuilt c.in-Ok-built_tier.tier s (groups_in c.args.start.catalog) c.args.start.next c.args.start.now.0 c.args.start.pace) c.into_parts-schema.ensures.schema
    (subst (λ k. IsBuilt c.in-Ok-built_tier.tier c.into_parts-schema.result.0 (groups_in k) c.args.start.next c.args.start.now.0 c.args.start.pace) c.into_parts-schema.ensures.catalog c.in-Ok-built_tier.ensures.built))
    c.in-Ok-built_tier.ensures.sound c.refill.ensures.refills

pub returns-clause-certain : goal.returns-clause-certain
returns-clause-certain g c = certain_then g.P.Disk.state g.P.Disk.possible c.args.site.now c.settle_commits.new.site c.refill.new.site c.in-Ok.ensures.certain c.refill.ensures.certain

pub returns-in-Err-clause-differs : goal.returns-in-Err-clause-differs
returns-in-Err-clause-differs g c =
    subst (λ l. DiffersAs l (g.P.Disk.state c.args.site.now) (g.P.Disk.state c.settle_commits.new.site) c.in-Err.error) (ap (λ x. x.items) c.into_parts-schema.ensures.commits) c.in-Err.ensures.differs

pub returns-clause-differs : goal.returns-clause-differs
returns-clause-differs g c = differs_not c.args.start.commits.items (g.P.Disk.state c.args.site.now) (g.P.Disk.state c.refill.new.site) c.refill.result c.refill.ensures.call
