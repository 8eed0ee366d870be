use Rattle.session_engine.proofs.DoubtLaws.{ready_none}
use Rattle.std.proofs.Common.{◌≡◌, ◌∙◌, arith, subst, sym, true}
use Rattle.std.specs.List.{list_all}
use Rattle.group_catalog.specs.Catalogs.{groups_in}
use Rattle.stored_tier.specs.declared.clock.TierClock.{TierClock}
use Rattle.stored_tier.specs.Refreshing.{has_moment}
use Rattle.cache_engine.specs.DueItems.{due_at, over}
use Rattle.cache_engine.proofs.EngineLaws.{doubt_led, failed_caused, rest_caused, rest_done}
use Rattle.cache_engine.proofs.due_work.settle_and_do.Goals as goal

pub do_due-requires-clause-entries : goal.do_due-requires-clause-entries
do_due-requires-clause-entries g c =
    subst (λ (clock : TierClock). list_all (has_moment clock.sets.items) c.args.intervals.now ≡ true) (sym c.in-Ok.ensures.keeps.clock) c.requires.entries

pub do_due-requires-clause-due : goal.do_due-requires-clause-due
do_due-requires-clause-due g c =
    let keeps = c.in-Ok.ensures.keeps in
    c.requires.due ∙ sym (λ i. due_at (keeps.clock i).now (keeps.clock i).sets.items (groups_in (keeps.catalog i)))

pub do_due-requires-clause-room : goal.do_due-requires-clause-room
do_due-requires-clause-room g c =
    let room = c.requires.room in
    let few = c.tell.ensures.few in
    let capacity = c.tell.ensures.capacity in
    omega (arith, room, few, capacity)

pub returns-in-Err-clause-performs : goal.returns-in-Err-clause-performs
returns-in-Err-clause-performs g c =
    doubt_led g.P.Disk.state g.P.Disk.possible c.args.tier.now c.settle_doubt.new.tier c.args.doubt.now c.settle_doubt.new.doubt c.args.journal.now
    c.args.site.now c.settle_doubt.new.site c.in-Err.error c.args.notes.now.items c.bank_fault.result c.requires.none
    c.bank_fault.ensures c.in-Err.ensures.certain c.in-Err.ensures.performs

pub returns-in-Err-clause-cause : goal.returns-in-Err-clause-cause
returns-in-Err-clause-cause g c =
    failed_caused c.args.journal.now (g.P.Disk.state c.args.site.now) (g.P.Disk.state c.settle_doubt.new.site) c.in-Err.error c.args.notes.now.items c.bank_fault.result c.requires.none c.bank_fault.ensures
    c.in-Err.ensures.cause

pub returns-in-Ok-clause-performs : goal.returns-in-Ok-clause-performs
returns-in-Ok-clause-performs g c =
    rest_done g.P.Disk.state g.P.Disk.possible c.args.tier.now c.settle_doubt.new.tier c.do_due.new.tier c.args.doubt.now c.settle_doubt.new.doubt (over c.args.journal.now c.args.site.now)
    c.settle_doubt.new.site (over c.do_due.new.journal c.do_due.new.site) c.in-Ok.told c.args.notes.now.items
    c.tell.new.notes.items c.do_due.new.notes.items c.do_due.result c.in-Ok.ensures.settled c.requires.none
    c.tell.ensures.notes c.in-Ok.ensures.certain c.in-Ok.ensures.performs c.do_due.ensures.does

pub returns-in-Ok-clause-none : goal.returns-in-Ok-clause-none
returns-in-Ok-clause-none g c = c.do_due.ensures.does.none

pub returns-in-Ok-clause-cause : goal.returns-in-Ok-clause-cause
returns-in-Ok-clause-cause g c =
    rest_caused g.P.Disk.state g.P.Disk.possible c.settle_doubt.new.tier c.do_due.new.tier (over c.args.journal.now c.args.site.now) c.settle_doubt.new.site
    (over c.do_due.new.journal c.do_due.new.site) c.in-Ok.told c.args.notes.now.items c.tell.new.notes.items
    c.do_due.new.notes.items c.do_due.result c.requires.none c.tell.ensures.notes c.in-Ok.ensures.cause c.do_due.ensures.does

pub returns-in-Ok-clause-ready : goal.returns-in-Ok-clause-ready
returns-in-Ok-clause-ready g c =
    ready_none c.do_due.new.tier c.settle_doubt.new.doubt c.in-Ok.ensures.settled
