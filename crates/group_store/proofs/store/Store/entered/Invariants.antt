use Rattle.std.proofs.Common.{◌≡◌, drop, fold}
use Rattle.group_store.specs.Entering.{entered, entered_by, keys_of_rows}
use Rattle.group_store.proofs.store.Store.entered.Given as goal

abbrev pub invariant-loop-op : goal.invariant-loop-op
invariant-loop-op l = fold (λ roots op. entered_by l.fn.self op roots) (keys_of_rows l.roots) (drop l.op-index l.op-items) ≡ entered l.fn.self l.op-items
