use Rattle.std.proofs.Common.{◌∙◌, ◌++◌, ◌+◌, ap, arith, drop, sym}
use Rattle.group_catalog.specs.Catalogs.{groups_in}
use Rattle.group_catalog.specs.Kept.{group_seen}
use Rattle.stored_tier.specs.Refreshing.{choice_of, tables_read}
use Rattle.stored_tier.proofs.RefreshSteps.{tables_end, tables_none, tables_passed, tables_taken}
use Rattle.stored_tier.proofs.refreshing.tables_read.Goals as goal
use Rattle.stored_tier.proofs.refreshing.tables_read.Goals.{in-None, in-Some+then-is_chosen+in_ok-push_tables-in-Some, in-Some+else-is_chosen}

pub loop-place-preserved : goal.loop-place-preserved
loop-place-preserved c =
    let choice = choice_of c.args.chosen in
    let groups = groups_in c.args.catalog.now in
    let i = c.loop-place.place in
    let rest = tables_read choice (i + 1) (drop (i + 1) groups) in
    elim c.match-get.branch [
      | in-None w ↦ ap (λ v. v.items ++ rest) w.tables-is ∙ tables_none choice groups i c.loop-place.tables.items (tables_read choice 0 groups) (sym w.in-None.ensures) c.loop-place.invariant
      | in-Some+then-is_chosen+in_ok-push_tables-in-Some w ↦
          tables_taken choice groups i (group_seen w.in-Some.group.now) c.loop-place.tables.items c.match-get.tables.items (tables_read choice 0 groups) (sym w.in-Some.ensures) (sym w.if-is_chosen.ensures)
          (ap (λ v. v.items) w.tables-is ∙ w.in_ok-push_tables-in-Some.ensures) c.loop-place.invariant
      | in-Some+else-is_chosen w ↦
          ap (λ v. v.items ++ rest) w.tables-is ∙ tables_passed choice groups i (group_seen w.in-Some.group.now) c.loop-place.tables.items (tables_read choice 0 groups) (sym w.in-Some.ensures) (sym w.if-is_chosen.ensures) c.loop-place.invariant
    ]

pub returns : goal.returns
returns c =
    let past = c.loop-place-test.false in
    let long = c.len-place-end.ensures in
    tables_end (choice_of c.args.chosen) (groups_in c.args.catalog.now) c.loop-place.place c.loop-place.tables.items (tables_read (choice_of c.args.chosen) 0 (groups_in c.args.catalog.now)) (omega (arith, past, long)) c.loop-place.invariant
