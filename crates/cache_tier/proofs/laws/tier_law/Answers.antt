use Rattle.cache_tier.proofs.ApartLaws.{age, commit, load, refresh, unload, use_one}
use Rattle.cache_tier.proofs.PositionStatements.{run_keeps_one, step_keeps_one}
use Rattle.cache_tier.proofs.OnceStatements.{run_keeps_once, step_keeps_once}
use Rattle.cache_tier.proofs.StatementLaws.{run_keeps_journal, run_leads, step_keeps_journal, step_keeps_way, step_leads}
use Rattle.cache_tier.proofs.WayLaws.{earlier_on_the_way, flush_leads, later_on_the_way, note_leads, rotate_leads, ways_go_on}
use Rattle.cache_tier.proofs.FirstRunLaws.{first_run}
use Rattle.cache_tier.proofs.KeyLaws.{taken_is_gone}
use Rattle.cache_tier.proofs.MoreLaws.{alone_is_free, load_shows_view, run_is_caused, start_stands}
use Rattle.cache_tier.proofs.OverLaws.{over_is_applied}
use Rattle.cache_tier.proofs.RunLaws.{runs_go_on}
use Rattle.cache_tier.proofs.SetLaws.{join_has_one_position, refresh_has_one_position}
use Rattle.cache_tier.proofs.laws.tier_law.Goals as goal

pub returns-clause-refresh_has_one_position : goal.returns-clause-refresh_has_one_position
returns-clause-refresh_has_one_position c = refresh_has_one_position

pub returns-clause-join_has_one_position : goal.returns-clause-join_has_one_position
returns-clause-join_has_one_position c = join_has_one_position

pub returns-clause-taken_is_gone : goal.returns-clause-taken_is_gone
returns-clause-taken_is_gone c = taken_is_gone

pub returns-clause-over_is_applied : goal.returns-clause-over_is_applied
returns-clause-over_is_applied c = over_is_applied

pub returns-clause-runs_go_on : goal.returns-clause-runs_go_on
returns-clause-runs_go_on c = runs_go_on

pub returns-clause-first_run : goal.returns-clause-first_run
returns-clause-first_run c = first_run

pub returns-clause-run_is_caused : goal.returns-clause-run_is_caused
returns-clause-run_is_caused c = run_is_caused

pub returns-clause-load_shows_view : goal.returns-clause-load_shows_view
returns-clause-load_shows_view c = load_shows_view

pub returns-clause-alone_is_free : goal.returns-clause-alone_is_free
returns-clause-alone_is_free c = alone_is_free

pub returns-clause-start_stands : goal.returns-clause-start_stands
returns-clause-start_stands c = start_stands

pub returns-clause-ways_go_on : goal.returns-clause-ways_go_on
returns-clause-ways_go_on c = ways_go_on

pub returns-clause-earlier_on_the_way : goal.returns-clause-earlier_on_the_way
returns-clause-earlier_on_the_way c = earlier_on_the_way

pub returns-clause-later_on_the_way : goal.returns-clause-later_on_the_way
returns-clause-later_on_the_way c = later_on_the_way

pub returns-clause-flush_leads : goal.returns-clause-flush_leads
returns-clause-flush_leads c = flush_leads

pub returns-clause-note_leads : goal.returns-clause-note_leads
returns-clause-note_leads c = note_leads

pub returns-clause-rotate_leads : goal.returns-clause-rotate_leads
returns-clause-rotate_leads c = rotate_leads

pub returns-clause-step_leads : goal.returns-clause-step_leads
returns-clause-step_leads c = step_leads

pub returns-clause-run_leads : goal.returns-clause-run_leads
returns-clause-run_leads c = run_leads

pub returns-clause-step_keeps_way : goal.returns-clause-step_keeps_way
returns-clause-step_keeps_way c = step_keeps_way

pub returns-clause-step_keeps_journal : goal.returns-clause-step_keeps_journal
returns-clause-step_keeps_journal c = step_keeps_journal

pub returns-clause-run_keeps_journal : goal.returns-clause-run_keeps_journal
returns-clause-run_keeps_journal c = run_keeps_journal

pub returns-clause-step_keeps_once : goal.returns-clause-step_keeps_once
returns-clause-step_keeps_once c = step_keeps_once

pub returns-clause-run_keeps_once : goal.returns-clause-run_keeps_once
returns-clause-run_keeps_once c = run_keeps_once

pub returns-clause-step_keeps_one_position : goal.returns-clause-step_keeps_one_position
returns-clause-step_keeps_one_position c = step_keeps_one

pub returns-clause-run_keeps_one_position : goal.returns-clause-run_keeps_one_position
returns-clause-run_keeps_one_position c = run_keeps_one

pub returns-clause-load_keeps_apart : goal.returns-clause-load_keeps_apart
returns-clause-load_keeps_apart c = load

pub returns-clause-use_keeps_apart : goal.returns-clause-use_keeps_apart
returns-clause-use_keeps_apart c = use_one

pub returns-clause-unload_keeps_apart : goal.returns-clause-unload_keeps_apart
returns-clause-unload_keeps_apart c = unload

pub returns-clause-refresh_keeps_apart : goal.returns-clause-refresh_keeps_apart
returns-clause-refresh_keeps_apart c = refresh

pub returns-clause-commit_keeps_apart : goal.returns-clause-commit_keeps_apart
returns-clause-commit_keeps_apart c = commit

pub returns-clause-aging_keeps_apart : goal.returns-clause-aging_keeps_apart
returns-clause-aging_keeps_apart c = age
