-- Each place more has no keys.
use Rattle.std.proofs.Common.{◌≡◌, ℕ, ◌<◌, ◌≤◌, ◌^◌, List, length}
use Rattle.own_rows.specs.table_state.specs.declared.footprint.RowKey.{RowKey}
use Rattle.session_state.specs.Holding.{AreKeysOf, KeysHaveRoom}
use Rattle.session_state.proofs.putting.widen_keys.Given as goal

abbrev pub invariant-loop-place : goal.invariant-loop-place
invariant-loop-place l = record {
  keys : (held : List RowKey) → AreKeysOf held l.fn.keys.items → AreKeysOf held l.keys.items;
  room : (n : ℕ) → n < 2 ^ 63 → KeysHaveRoom n l.fn.keys.items → KeysHaveRoom n l.keys.items;
  place : length l.keys.items ≡ l._place;
  within : l._place ≤ l.fn.count;
}
