-- Each place more is bare.
use Rattle.std.proofs.Common.{◌≡◌, ℕ, ◌+◌, ◌<◌, ◌^◌, List, length}
use Rattle.table_state.specs.table_defs.specs.declared.definition.TableDef.{TableDef as Def}
use Rattle.table_state.specs.declared.operation.Op.{Op}
use Rattle.own_rows.specs.Laying.{HaveRoom}
use Rattle.own_rows.specs.OwnTables.{AreRowsOf}
use Rattle.own_rows.proofs.widening.widen_rows.Given as goal

abbrev pub invariant-loop-def : goal.invariant-loop-def
invariant-loop-def l = record {
  rows : (known : List Def) (ops : List Op) → AreRowsOf known ops l.fn.own.items → AreRowsOf known ops l.own.items;
  room : (n : ℕ) → n < 2 ^ 63 → HaveRoom n l.fn.own.items → HaveRoom n l.own.items;
  place : length l.own.items ≡ length l.fn.own.items + l.def-index;
}
