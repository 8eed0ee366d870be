use Rattle.sql_phrases.proofs.reader.Reader.skip.Goals as goal
use Rattle.std.proofs.lemmas.List.{drop-map}
use Rattle.std.proofs.Common.{sym}

pub returns : goal.returns
returns c = rw (← c.self.view_is, c.behind-tokens.ensures) (sym (drop-map _ c.args.n c.self.inside.tokens.now))
