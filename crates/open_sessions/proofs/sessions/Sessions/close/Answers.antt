use Rattle.std.proofs.Common.{◌<◌, All, length, map, sym, ap, subst, ◌∙◌, arith}
use Rattle.std.proofs.lemmas.List.{length-map}
use Rattle.std.specs.List.{AllPairs}
use Rattle.session_state.specs.Kept.{IsKept, seen_of}
use Rattle.open_sessions.specs.Opening.{AreApartPair, DifferInLabel, DifferInNumber}
use Rattle.open_sessions.proofs.SessionLaws.{all_removed, closed_none, closed_one, found, none_has, pairs_removed}
use Rattle.open_sessions.proofs.sessions.Sessions.close.Goals as goal

pub returns-in-None-clause-seen : goal.returns-in-None-clause-seen
returns-in-None-clause-seen c = λ schema sound. closed_none c.args.id c.args.self.now.open.items (none_has _ c.args.self.now.open.items c.in-None.ensures)

pub returns-in-Some-clause-seen : goal.returns-in-Some-clause-seen
returns-in-Some-clause-seen c = λ schema sound.
    let xs = c.args.self.now.open.items in
    let f = found c.args.id xs c.in-Some.place c.remove.result c.in-Some.ensures c.remove.ensures.value in
    ap (map seen_of) c.remove.ensures.items ∙ closed_one c.args.id xs c.in-Some.place c.remove.result f.at f.has sound.numbered

pub returns-in-Some-clause-sound : goal.returns-in-Some-clause-sound
returns-in-Some-clause-sound c = λ schema sound.
    let xs = c.args.self.now.open.items in
    let i = c.in-Some.place in
    let f = found c.args.id xs i c.remove.result c.in-Some.ensures c.remove.ensures.value in
    let lt : i < length (map seen_of xs) = (let w = f.within in let long = length-map xs seen_of in omega (arith, w, long)) in
    record {
      kept = subst (All (IsKept schema)) (sym c.remove.ensures.items) (all_removed (IsKept schema) xs i sound.kept);
      apart = subst (λ ys. AllPairs (AreApartPair schema) (map seen_of ys)) (sym c.remove.ensures.items) (pairs_removed schema (AreApartPair schema) xs i lt sound.apart);
      numbered = subst (λ ys. AllPairs DifferInNumber (map seen_of ys)) (sym c.remove.ensures.items) (pairs_removed schema DifferInNumber xs i lt sound.numbered);
      labelled = subst (λ ys. AllPairs DifferInLabel (map seen_of ys)) (sym c.remove.ensures.items) (pairs_removed schema DifferInLabel xs i lt sound.labelled);
    }
