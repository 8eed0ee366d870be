-- The grammar passes the test: it is decided by its next token, and each rule can end.
use Rattle.std.proofs.Common.{◌≡◌, true, refl}
use Rattle.sql_grammar.specs.declared.rule.Rule.{Rule}
use Rattle.sql_grammar.specs.declared.rule.Rule.TheVariants as rules
use Rattle.sql_grammar.specs.declared.start.Start.{Start}
use Rattle.sql_grammar.specs.declared.start.Start.TheVariants as starts
use Rattle.sql_grammar.specs.Decided.{is_known, is_decided}
use Rattle.sql_grammar.specs.Sql.{rule, grammar_of, known}
use Rattle.sql_grammar.proofs.Alive.{Alive, alive_rules}

pub decided : (m : Rule) → is_known known m (rule m) ≡ true
decided rules.Named = refl
decided rules.Idents = refl
decided rules.Literal = refl
decided rules.Expr = refl
decided rules.Pred = refl
decided rules.Cond = refl
decided rules.After = refl
decided rules.Exprs = refl
decided rules.Aggs = refl
decided rules.Mixed = refl
decided rules.Select = refl
decided rules.Insert = refl
decided rules.Update = refl
decided rules.Delete = refl
decided rules.Writes = refl
decided rules.Columns = refl
decided rules.CachedColumns = refl
decided rules.CachedTable = refl
decided rules.Aging = refl
decided rules.Group = refl
decided rules.Create = refl
decided rules.Chosen = refl
decided rules.Called = refl
decided rules.Statement = refl

pub start_decided : (s : Start) → is_decided known (grammar_of s) ≡ true
start_decided starts.Statement = refl
start_decided starts.Session = refl
start_decided starts.Console = refl
start_decided starts.Clock = refl

pub lives : (m : Rule) → Alive rule (rule m)
lives rules.Named = alive_rules rule 9 rules.Named refl
lives rules.Idents = alive_rules rule 9 rules.Idents refl
lives rules.Literal = alive_rules rule 9 rules.Literal refl
lives rules.Expr = alive_rules rule 9 rules.Expr refl
lives rules.Pred = alive_rules rule 9 rules.Pred refl
lives rules.Cond = alive_rules rule 9 rules.Cond refl
lives rules.After = alive_rules rule 9 rules.After refl
lives rules.Exprs = alive_rules rule 9 rules.Exprs refl
lives rules.Aggs = alive_rules rule 9 rules.Aggs refl
lives rules.Mixed = alive_rules rule 9 rules.Mixed refl
lives rules.Select = alive_rules rule 9 rules.Select refl
lives rules.Insert = alive_rules rule 9 rules.Insert refl
lives rules.Update = alive_rules rule 9 rules.Update refl
lives rules.Delete = alive_rules rule 9 rules.Delete refl
lives rules.Writes = alive_rules rule 9 rules.Writes refl
lives rules.Columns = alive_rules rule 9 rules.Columns refl
lives rules.CachedColumns = alive_rules rule 9 rules.CachedColumns refl
lives rules.CachedTable = alive_rules rule 9 rules.CachedTable refl
lives rules.Aging = alive_rules rule 9 rules.Aging refl
lives rules.Group = alive_rules rule 9 rules.Group refl
lives rules.Create = alive_rules rule 9 rules.Create refl
lives rules.Chosen = alive_rules rule 9 rules.Chosen refl
lives rules.Called = alive_rules rule 9 rules.Called refl
lives rules.Statement = alive_rules rule 9 rules.Statement refl
