use Rattle.std.proofs.Common.{arith, sym}
use Rattle.std.proofs.lemmas.Option.{slice_get_within}
use Rattle.std.specs.FinMap.{entries, values}
use Rattle.instances.specs.Views.{kept_at}
use Rattle.stored_tier.proofs.GatherLaws.{values_long}
use Rattle.aging_cycles.specs.Busy.{is_busy_at}
use Rattle.aging_cycles.proofs.ByTimeLaws.{key_at_place, looks_gone}
use Rattle.aging_cycles.proofs.by_time.look_at.Goals as goal

pub leave-requires-clause-there : goal.leave-requires-clause-there
leave-requires-clause-there c =
    let lt = slice_get_within (values (kept_at c.args.store.now.tables 0)) c.args.at c.in-Some.row.now (sym c.in-Some.ensures) in
    let long = values_long (kept_at c.args.store.now.tables 0) in
    omega (arith, lt, long)

pub returns : goal.returns
returns c = λ root row here.
    let key = key_at_place (entries (kept_at c.args.store.now.tables 0)) c.args.at root row here in
    looks_gone c.args.by.hides c.args.by.horizon c.args.by.column c.args.at (is_busy_at c.args.sessions.now c.args.store.now) root row c.in-Some.row.now c.is_past.result c.is_busy.result c.args.store.now c.leave.new.store
    c.args.hidden.now c.leave.new.hidden here c.in-Some.ensures c.is_past.ensures c.if-is_past.false (c.is_busy.ensures root key) c.if-is_busy.false (c.leave.ensures root key)
