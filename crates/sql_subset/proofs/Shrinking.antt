-- What is read is no longer there: the tables of a group.
use Rattle.std.proofs.Common.{◌≤◌, true, List, length, drop, None, arith}
use Rattle.sql_phrases.specs.sql_tokens.specs.declared.kind.Kind.TheVariants as k
use Rattle.sql_phrases.specs.sql_tokens.specs.Lexing.{Lexeme}
use Rattle.sql_phrases.specs.declared.tables.CacheTable.{CacheTable}
use Rattle.sql_phrases.specs.Reading.{begins}
use Rattle.sql_phrases.specs.Conditions.{filter_of}
use Rattle.sql_phrases.specs.Tables.{table_of}
use Rattle.sql_phrases.proofs.Shrinking.{drop_shrinks, choice_shrinks, filter_shrinks, table_shrinks}
use Rattle.sql_subset.specs.declared.stmt.AgingRule.{AgingRule}
use Rattle.sql_subset.specs.declared.stmt.GroupKind.{GroupKind}
use Rattle.sql_subset.specs.Groups.{cycle_of, long_of, time_rule_of, aging_rule_of, switched, as_aging, aging_of, aged, filtered, claused, group_table_of}

long_shrinks : (ls : List Lexeme) → length (long_of ls).1 ≤ length ls
unfolding long_of
long_shrinks ls = drop_shrinks 2 ls

cycle_shrinks : (ls : List Lexeme) → length (cycle_of ls).1 ≤ length ls
unfolding cycle_of
cycle_shrinks ls = let a = long_shrinks (drop 1 ls) in let b = drop_shrinks 1 ls in choice_shrinks (begins k.Cycle ls) (long_of (drop 1 ls)) (300, ls) ls (omega (arith, a, b)) (omega arith)

time_rule_shrinks : (ls : List Lexeme) → length (time_rule_of ls).1 ≤ length ls
time_rule_shrinks ls =
    let a = cycle_shrinks (long_of (drop 1 (drop 1 ls))).1 in
    let b = long_shrinks (drop 1 (drop 1 ls)) in
    let c = drop_shrinks 1 (drop 1 ls) in
    let d = drop_shrinks 1 ls in
    omega (arith, a, b, c, d)

aging_rule_shrinks : (ls : List Lexeme) → length (aging_rule_of ls).1 ≤ length ls
aging_rule_shrinks ls =
    let a = time_rule_shrinks (drop 1 ls) in
    let b = drop_shrinks 1 ls in
    choice_shrinks (begins k.Lru ls) _ (time_rule_of (drop 1 ls)) ls b (omega (arith, a, b))

switched_shrinks : (x : AgingRule × List Lexeme) → length (switched x).1 ≤ length x.1
switched_shrinks x =
    choice_shrinks (begins k.On x.1) _ _ x.1 (drop_shrinks 1 x.1) (choice_shrinks (begins k.Off x.1) _ (record { rule = x.0; on = true }, x.1) x.1 (drop_shrinks 1 x.1) (omega arith))

aging_shrinks : (ls : List Lexeme) → length (aging_of ls).1 ≤ length ls
unfolding aging_of
aging_shrinks ls =
    let a = switched_shrinks (aging_rule_of (drop 1 ls)) in
    let b = aging_rule_shrinks (drop 1 ls) in
    let c = drop_shrinks 1 ls in
    choice_shrinks (begins k.Aging ls) (as_aging (switched (aging_rule_of (drop 1 ls)))) (None, ls) ls (omega (arith, a, b, c)) (omega arith)

claused_shrinks : (kind : GroupKind) (x : CacheTable × List Lexeme) → length (claused kind x).1 ≤ length x.1
unfolding claused
claused_shrinks kind x =
    let a = aging_shrinks x.1 in
    let b = filter_shrinks (aging_of x.1).1 in
    let c = filter_shrinks x.1 in
    let d = aging_shrinks (filter_of x.1).1 in
    choice_shrinks (begins k.Aging x.1) (aged kind x.0 (aging_of x.1)) (filtered kind x.0 (filter_of x.1)) x.1 (omega (arith, a, b)) (omega (arith, c, d))

pub group_table_shrinks : (kind : GroupKind) (ls : List Lexeme) → length (group_table_of kind ls).1 ≤ length ls
group_table_shrinks kind ls = let a = claused_shrinks kind (table_of ls) in let b = table_shrinks ls in omega (arith, a, b)
