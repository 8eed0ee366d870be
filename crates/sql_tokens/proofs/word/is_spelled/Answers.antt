use Rattle.std.proofs.Common.{sym}
use Rattle.sql_tokens.proofs.Spelling.{unlike_lengths}
use Rattle.sql_tokens.proofs.word.is_spelled.Goals as goal

pub returns-then-word-keyword : goal.returns-then-word-keyword
returns-then-word-keyword c = sym (unlike_lengths c.args.word.now c.args.keyword.now c.if-word-keyword.true)
