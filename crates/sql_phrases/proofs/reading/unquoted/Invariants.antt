use Rattle.std.proofs.Common.{◌≡◌, ◌++◌, drop}
use Rattle.sql_phrases.specs.Reading.{halved, unquoted}
use Rattle.sql_phrases.proofs.reading.unquoted.Given as goal

-- the text so far, and what the rest gives, are the whole
abbrev pub invariant-loop-byte : goal.invariant-loop-byte
invariant-loop-byte l = l.text.items ++ halved l.behind (drop l.byte-index l.byte-items) ≡ unquoted l.fn.bytes
