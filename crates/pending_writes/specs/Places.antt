-- Where a key stands among entries in key order (this project's rule).
use Rattle.std.specs.Prelude.{ℕ, ◌≡◌, List, Option, map, slice_get, Some, None, insert}
use Rattle.std.specs.FinMap.{find, put}
use Rattle.table_state.specs.row_types.specs.declared.value.Value.{Value}
use Rattle.table_state.specs.row_types.specs.Order.{key_order}
use Rattle.pending_writes.specs.declared.writers.Writer.{Writer}

-- keys, each with its writer
abbrev pub Entries : Type 0
Entries = List (List Value × Option Writer)

-- the entry at place i has the key
abbrev pub IsKeyAt : Entries → List Value → ℕ → Type 0
IsKeyAt es key i = slice_get (map (λ e. e.0) es) i ≡ Some key

-- no entry has the key, and a new entry with it belongs at place i
pub record IsGapFor (es : Entries) (key : List Value) (i : ℕ) : Type 0 where
  pub absent : find key_order key es ≡ None
  pub goes : (writer : Option Writer) → insert es i (key, writer) ≡ put key_order key writer es
