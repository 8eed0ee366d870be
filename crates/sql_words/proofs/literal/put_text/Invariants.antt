-- The bytes so far stand quoted behind what was there, but for the last quote.
use Rattle.std.proofs.Common.{◌≡◌, ◌++◌, ◌∷◌, take}
use Rattle.std.specs.List.{flat_map}
use Rattle.sql_phrases.specs.row_types.specs.Printing.{doubled_quote}
use Rattle.sql_words.proofs.literal.put_text.Given as goal

abbrev pub invariant-loop-byte : goal.invariant-loop-byte
invariant-loop-byte l = l.out.items ≡ l.fn.out.items ++ (32 ∷ 39 ∷ flat_map doubled_quote (take l.byte-index l.text))
