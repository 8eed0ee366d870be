use Rattle.std.proofs.Common.{arith, length, map, Some, ap, subst, sym}
use Rattle.std.specs.List.{AllPairs}
use Rattle.std.proofs.lemmas.List.Elements.{All-set}
use Rattle.session_state.specs.Kept.{IsKept, seen_of}
use Rattle.session_state.specs.Sessions.{with_ops}
use Rattle.session_state.proofs.ApartLaws.{apart}
use Rattle.open_sessions.specs.Opening.{AreApartPair}
use Rattle.open_sessions.proofs.SessionLaws.{all_at, apart_write, either_way, found, labels_set, none_has, numbers_set, on_err_by, on_none, on_ok_by, on_one, seen_same}
use Rattle.open_sessions.proofs.LookupLaws.{ops_found}
use Rattle.open_sessions.proofs.sessions.Sessions.write.Goals as goal

pub write-requires-clause-few : goal.write-requires-clause-few
write-requires-clause-few c =
    let xs = c.args.self.now.open.items in
    let s = c.index_mut.result.now in
    let f = found c.args.id xs c.in-Some.place s c.in-Some.ensures c.index_mut.ensures.value in
    let few = (all_at (IsKept c.args.schema.now) xs c.requires.sound.kept c.in-Some.place s f.at).few in
    let same = ap length (ops_found c.args.id xs c.in-Some.place s f.at f.has c.requires.sound.numbered) in
    let room = c.requires.few in
    omega (arith, few, same, room)

pub returns-in-None-clause-ok : goal.returns-in-None-clause-ok
returns-in-None-clause-ok c = on_none c.args.id (with_ops c.args.ops) c.args.self.now.open.items (none_has _ c.args.self.now.open.items c.in-None.ensures)

pub returns-in-Some-clause-ok : goal.returns-in-Some-clause-ok
returns-in-Some-clause-ok c =
    let xs = c.args.self.now.open.items in
    let s = c.index_mut.result.now in
    let f = found c.args.id xs c.in-Some.place s c.in-Some.ensures c.index_mut.ensures.value in
    on_ok_by c.write.result c.write.ensures.ok (λ now. on_one c.args.id (with_ops c.args.ops) xs c.in-Some.place s c.write.new.self f.at f.has now c.requires.sound.numbered)

pub returns-in-Some-clause-err : goal.returns-in-Some-clause-err
returns-in-Some-clause-err c =
    let xs = c.args.self.now.open.items in
    let s = c.index_mut.result.now in
    let f = found c.args.id xs c.in-Some.place s c.in-Some.ensures c.index_mut.ensures.value in
    on_err_by c.write.result c.write.ensures.err (λ same. seen_same xs c.in-Some.place s c.write.new.self f.at same)

pub returns-in-Some-clause-sound : goal.returns-in-Some-clause-sound
returns-in-Some-clause-sound c =
    let xs = c.args.self.now.open.items in
    let s = c.index_mut.result.now in
    let t = c.write.new.self in
    let schema = c.args.schema.now in
    let f = found c.args.id xs c.in-Some.place s c.in-Some.ensures c.index_mut.ensures.value in
    let kept = All-set (IsKept schema) xs c.in-Some.place t c.write.ensures.kept c.requires.sound.kept in
    let free = apart (Some c.args.id) schema (map seen_of xs) c.args.ops c.requires.free in
    record {
      kept = kept;
      apart = either_way c.write.result c.write.ensures.ok c.write.ensures.err
          (λ now. apart_write schema c.args.id c.args.ops xs c.in-Some.place s t f.at f.has now c.requires.sound.apart c.requires.sound.numbered free)
          (λ same. subst (AllPairs (AreApartPair schema)) (sym (seen_same xs c.in-Some.place s t f.at same)) c.requires.sound.apart);
      numbered = numbers_set schema xs c.in-Some.place s t f.at (either_way c.write.result c.write.ensures.ok c.write.ensures.err (λ now. ap (λ x. x.id) now) (λ same. ap (λ x. x.id) same)) c.requires.sound.numbered;
      labelled = labels_set schema xs c.in-Some.place s t f.at (either_way c.write.result c.write.ensures.ok c.write.ensures.err (λ now. ap (λ x. x.label) now) (λ same. ap (λ x. x.label) same)) c.requires.sound.labelled;
    }
