use Rattle.std.proofs.Common.{◌≡◌, drop}
use Rattle.sql_phrases.specs.Reading.{number_with}
use Rattle.sql_phrases.proofs.reading.number_of.Given as goal

-- the number so far, with the digits that are left behind it, is the whole
abbrev pub invariant-loop-digit : goal.invariant-loop-digit
invariant-loop-digit l = number_with l.number (drop l.digit-index l.digits) ≡ number_with 0 l.fn.digits
