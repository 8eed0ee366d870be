use Rattle.std.proofs.Common.{ap}
use Rattle.std.proofs.lemmas.List.Elements.{All-set}
use Rattle.session_state.specs.Kept.{IsKept}
use Rattle.session_state.specs.Sessions.{with_flag}
use Rattle.open_sessions.proofs.SessionLaws.{all_at, apart_same, found, labels_set, none_has, numbers_set, on_none, on_one}
use Rattle.open_sessions.proofs.sessions.Sessions.set_flag.Goals as goal

pub returns-in-None-clause-seen : goal.returns-in-None-clause-seen
returns-in-None-clause-seen c = λ schema sound. on_none c.args.id (with_flag c.args.level) c.args.self.now.open.items (none_has _ c.args.self.now.open.items c.in-None.ensures)

pub returns-in-Some-clause-seen : goal.returns-in-Some-clause-seen
returns-in-Some-clause-seen c = λ schema sound.
    let xs = c.args.self.now.open.items in
    let s = c.index_mut.result.now in
    let f = found c.args.id xs c.in-Some.place s c.in-Some.ensures c.index_mut.ensures.value in
    on_one c.args.id (with_flag c.args.level) xs c.in-Some.place s c.set_flag.new.self f.at f.has c.set_flag.ensures.seen sound.numbered

pub returns-in-Some-clause-sound : goal.returns-in-Some-clause-sound
returns-in-Some-clause-sound c = λ schema sound.
    let xs = c.args.self.now.open.items in
    let s = c.index_mut.result.now in
    let t = c.set_flag.new.self in
    let f = found c.args.id xs c.in-Some.place s c.in-Some.ensures c.index_mut.ensures.value in
    record {
      kept = All-set (IsKept schema) xs c.in-Some.place t (c.set_flag.ensures.kept schema (all_at (IsKept schema) xs sound.kept c.in-Some.place s f.at)) sound.kept;
      apart = apart_same schema xs c.in-Some.place s t f.at (ap (λ x. x.ops) c.set_flag.ensures.seen) sound.apart;
      numbered = numbers_set schema xs c.in-Some.place s t f.at (ap (λ x. x.id) c.set_flag.ensures.seen) sound.numbered;
      labelled = labels_set schema xs c.in-Some.place s t f.at (ap (λ x. x.label) c.set_flag.ensures.seen) sound.labelled;
    }
