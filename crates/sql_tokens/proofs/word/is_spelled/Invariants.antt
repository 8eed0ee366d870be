-- The letters so far are the same, and as many are left on both sides. They get fewer.
use Rattle.std.proofs.Common.{◌≡◌, length}
use Rattle.tier_base.specs.Names.{spells}
use Rattle.sql_tokens.proofs.word.is_spelled.Given as goal

abbrev pub invariant-loop-byte : goal.invariant-loop-byte
invariant-loop-byte l = record {
  same : spells l.word l.keyword ≡ spells l.bytes l.letters;
  long : length l.bytes ≡ length l.letters;
}

abbrev pub decreases-loop-byte : goal.decreases-loop-byte
decreases-loop-byte l = length l.bytes
