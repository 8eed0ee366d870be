use Rattle.std.proofs.Common.{◌<◌, ℕ, List, Some, [], ◌∷◌, true, length, rules, subst}
use Rattle.table_defs.specs.declared.definition.TableDef.{TableDef}
use Rattle.sql_subset.specs.declared.stmt.RefreshState.TheVariants.{On}
use Rattle.cache_tier.specs.Journals.{SetsLoaded, SetsState}
use Rattle.group_engine.specs.Ready.{IsReadyFor}
use Rattle.group_engine.proofs.ReadyLaws.{both_ready, ready_ok}
use Rattle.group_engine.proofs.readying.both.Goals as goal

pub returns-in_ok-batch-in-Some-clause-ready : goal.returns-in_ok-batch-in-Some-clause-ready
returns-in_ok-batch-in-Some-clause-ready c =
    let small : length c.as_bytes-bytes.result.now < 256 = search rules in
    ready_ok c.room_made.result _ _
    (λ ready fills. subst (λ (n : List ℕ). (schema : List TableDef) → IsReadyFor schema (Some c.room_made.new.journal) ready (SetsState n On ∷ SetsLoaded n true ∷ [])) c.as_bytes-bytes.ensures
    (both_ready c.in-Some.journal c.room_made.new.journal _ _ _ c.as_bytes-bytes.result.now ready fills c.behind-empty.ensures c.in_ok-first-in-Some.ensures c.in_ok-batch-in-Some.ensures small)) c.room_made.ensures.ready
