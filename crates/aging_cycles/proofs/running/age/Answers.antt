use Rattle.std.proofs.Common.{◌∙◌, ap}
use Rattle.group_catalog.specs.Catalogs.{groups_in}
use Rattle.cache_tier.specs.Aging.{after_aging}
use Rattle.cache_tier.specs.Events.{with_tier}
use Rattle.cache_tier.specs.Groups.{definitions_of}
use Rattle.stored_tier.specs.declared.tier.Tier.{Tier as Stored}
use Rattle.stored_tier.proofs.QuietLaws.{stands_over}
use Rattle.aging_cycles.proofs.AgesRun.{ages_run}
use Rattle.aging_cycles.proofs.LeftRows.{rows_left}
use Rattle.aging_cycles.proofs.SoundRun.{defs, sound_run}
use Rattle.aging_cycles.proofs.running.age.Goals as goal

pub confirm_left-requires-clause-sound : goal.confirm_left-requires-clause-sound
confirm_left-requires-clause-sound c = sound_run c.args.tier.now c.run_each.new.tier c.requires c.run_each.ensures

pub confirm_left-requires-clause-keyed : goal.confirm_left-requires-clause-keyed
confirm_left-requires-clause-keyed c = λ yes.
    c.kept_rows_law.ensures.keyed c.args.tier.now c.run_each.new.tier c.requires (c.requires.verified yes) (rows_left c.args.tier.now c.run_each.new.tier c.requires c.run_each.ensures)

pub returns-clause-ages : goal.returns-clause-ages
returns-clause-ages c = λ w stands.
    stands_over c.run_each.new.tier c.confirm_left.new.tier (with_tier (after_aging w.history w.tier) w) c.confirm_left.ensures.same
    (ages_run c.drop_instance_law.ensures c.args.tier.now c.run_each.new.tier c.requires c.run_each.ensures w stands)

pub returns-clause-groups : goal.returns-clause-groups
returns-clause-groups c =
    ap (λ (t : Stored). definitions_of (groups_in t.catalog)) c.confirm_left.ensures.same ∙ defs c.args.tier.now c.run_each.new.tier c.requires c.run_each.ensures

pub returns-clause-clock : goal.returns-clause-clock
returns-clause-clock c = ap (λ (t : Stored). t.clock) c.confirm_left.ensures.same ∙ c.run_each.ensures.form.beside.clock
