-- What holds of the sessions under a schema holds under one that knows it.
use Rattle.std.proofs.Common.{◌≡◌, List, true, All, arith, get_or}
use Rattle.std.proofs.lemmas.List.Elements.{All-map, All-weaker}
use Rattle.session_state.specs.table_defs.specs.declared.definition.TableDef.{TableDef}
use Rattle.session_state.specs.own_rows.specs.Knowing.{Knows}
use Rattle.session_state.specs.Kept.{IsKept, are_defined, seen_of}
use Rattle.session_state.specs.Sessions.{OpenSession}
use Rattle.session_state.proofs.GrownLaws.{apart_grown, kept_grown}
use Rattle.open_sessions.specs.declared.sessions.Sessions.{Sessions}
use Rattle.open_sessions.specs.Opening.{AreSessions, seen_all}

pub sessions_grown : (schema more : List TableDef) (s : Sessions) → Knows schema more → AreSessions schema s → AreSessions more s
sessions_grown schema more s grew sound =
    let defined : All (λ (x : OpenSession). are_defined schema x.ops ≡ true) (seen_all s) =
    All-map (λ (x : OpenSession). are_defined schema x.ops ≡ true) seen_of s.open.items
    (All-weaker (IsKept schema) (λ x. are_defined schema x.ops.items ≡ true) (λ x kept. kept.defined) s.open.items sound.kept) in
    record {
      kept = All-weaker (IsKept schema) (IsKept more) (λ x kept. kept_grown schema more grew x kept) s.open.items sound.kept;
      apart = λ i j d lt within.
          apart_grown schema more grew (get_or (seen_all s) i d).ops (get_or (seen_all s) j d).ops (defined i d (omega (arith, lt, within))) (defined j d within) (sound.apart i j d lt within);
      numbered = sound.numbered;
      labelled = sound.labelled;
    }
