-- Tables of cache groups that are put are read back.
use Rattle.std.proofs.Common.{◌≡◌, ◌≤◌, List, [], ◌∷◌, ◌++◌, codes, Option, Some, None, refl, sym, ap, ◌∙◌, append_assoc}
use Rattle.sql_print.specs.sql_query.specs.Trees.{ConditionTree}
use Rattle.sql_print.specs.sql_tokens.specs.declared.kind.Kind.TheVariants as k
use Rattle.sql_print.specs.sql_tokens.specs.Lexing.{Lexeme}
use Rattle.sql_print.specs.sql_grammar.specs.declared.rule.Rule.TheVariants as rules
use Rattle.sql_print.specs.sql_grammar.specs.Grammar.{Grammar, Named, both, this, that, empty}
use Rattle.sql_print.specs.sql_grammar.specs.Notation.{choice, optional, repeated, ◌▸◌}
use Rattle.sql_print.specs.sql_grammar.specs.Queries.{filtered as filter_part}
use Rattle.sql_print.specs.sql_grammar.specs.Groups.{group_table as table_part}
use Rattle.sql_print.specs.sql_subset.specs.declared.stmt.AgingClause.{AgingClause}
use Rattle.sql_print.specs.sql_subset.specs.declared.stmt.GroupKind.{GroupKind}
use Rattle.sql_print.specs.sql_subset.specs.declared.stmt.GroupTable.{GroupTable}
use Rattle.sql_print.specs.sql_subset.specs.Groups.{aged, aged_filtered, aging_of, aging_rule_of, as_aging, attribute_of, claused, filtered, group_table_of, group_tables_of, switched}
use Rattle.sql_print.specs.sql_subset.proofs.Shrinking.{group_table_shrinks}
use Rattle.sql_print.specs.sql_phrases.specs.declared.tables.CacheTable.{CacheTable}
use Rattle.sql_print.specs.sql_phrases.specs.declared.tables.TableAttribute.{TableAttribute}
use Rattle.sql_print.specs.sql_phrases.specs.Conditions.{as_filter, condition_of, filter_of}
use Rattle.sql_print.specs.sql_phrases.specs.Tables.{table_of}
use Rattle.sql_print.specs.sql_words.specs.declared.condition.Strength.TheVariants.{Loose}
use Rattle.sql_print.specs.sql_words.specs.Words.{Word, listed}
use Rattle.sql_print.specs.sql_words.specs.Trees.{condition_words, filter_words}
use Rattle.sql_print.specs.sql_words.specs.Tables.{table_words}
use Rattle.sql_print.specs.Groups.{aging_words, group_table_words, rule_words, switch_word}
use Rattle.print_laws.proofs.Aging.{IsRule, put_aging}
use Rattle.print_laws.proofs.Conditions.{Closes, IsCondition, levels, put_condition}
use Rattle.print_laws.proofs.Expressions.{stops_word}
use Rattle.print_laws.proofs.Keywords.{aging_word, comma_word, where_word}
use Rattle.print_laws.proofs.Lexed.{tokens}
use Rattle.print_laws.proofs.Lists.{SomeGood, put_list}
use Rattle.print_laws.proofs.Put.{Never, Put, never_word, put_both, put_map, put_none, put_word, put_words}
use Rattle.print_laws.proofs.Tables.{IsTable, put_cached_table}

-- a condition of at most 32 levels, or none
abbrev pub IsFilter : Option ConditionTree → Type 0
IsFilter None = Unit {0}
IsFilter (Some c) = IsCondition c × (levels Loose c ≤ 32)

abbrev pub IsAging : Option AgingClause → Type 0
IsAging None = Unit {0}
IsAging (Some a) = IsRule a.rule

-- a table of a group of this kind
pub record IsGroupTable (kind : GroupKind) (t : GroupTable) : Type 0 where
  pub table : IsTable t.table
  pub attribute : attribute_of kind t.attribute ≡ t.attribute
  pub filter : IsFilter t.filter
  pub aging : IsAging t.aging

-- no table of a group goes on with these words
pub record Follows (us : List Word) : Type 0 where
  pub closes : Closes us
  pub filter : Never k.Where us
  pub aging : Never k.Aging us

pub put_filter : (f : Option ConditionTree) → IsFilter f → (us : List Word) → Closes us → Never k.Where us → Put filter_of 0 filter_part f (filter_words f ++ us) us
unfolding filter_of
put_filter None h us s v = put_none filter_of 0 filter_part None us (λ ps r d. that (empty d)) (λ i. rw (v i) refl)
put_filter (Some c) (h, l) us s v =
    put_word filter_of (λ ls. as_filter (condition_of ls)) 0 filter_part (Named rules.Cond) (Some c) k.Where (codes "WHERE") (condition_words Loose c ++ us) us where_word (λ ps r d. this refl d) (λ p ls. refl)
    (put_map condition_of (λ x. as_filter x) 0 (Named rules.Cond) c (Some c) (condition_words Loose c ++ us) us (λ ls. refl) (put_condition c h l us s))

abbrev clauses_part : Grammar
clauses_part = choice k.Aging (Named rules.Aging ▸ filter_part) (optional k.Where (Named rules.Cond ▸ optional k.Aging (Named rules.Aging)))

abbrev given : GroupTable → CacheTable
given t = record { table = t.table; attribute = t.attribute }

same_table : (kind : GroupKind) (t : GroupTable) → IsGroupTable kind t → (f : Option ConditionTree) (a : Option AgingClause) → t.filter ≡ f → t.aging ≡ a → (ls : List Lexeme)
    → ◌≡◌ {A = GroupTable × List Lexeme} (record { table = t.table; attribute = attribute_of kind t.attribute; filter = f; aging = a }, ls) (t, ls)
same_table kind t h f a e d ls =
    ap (λ (x : Option TableAttribute). let y : GroupTable × List Lexeme = (record { table = t.table; attribute = x; filter = f; aging = a }, ls) in y) h.attribute
    ∙ (ap (λ (x : Option ConditionTree). let y : GroupTable × List Lexeme = (record { table = t.table; attribute = t.attribute; filter = x; aging = a }, ls) in y) (sym e)
    ∙ ap (λ (x : Option AgingClause). let y : GroupTable × List Lexeme = (record { table = t.table; attribute = t.attribute; filter = t.filter; aging = x }, ls) in y) (sym d))

put_aged : (kind : GroupKind) (t : GroupTable) → IsGroupTable kind t → (a : AgingClause) → IsRule a.rule → t.aging ≡ Some a → (us : List Word) → Follows us
    → Put (λ ls. claused kind (given t, ls)) 0 clauses_part t (aging_words (Some a) ++ (filter_words t.filter ++ us)) us
unfolding claused aging_of
put_aged kind t h a g e us s =
    let ws : List Word = filter_words t.filter ++ us in
    let vs : List Word = (rule_words a.rule ++ switch_word a.on ∷ []) ++ ws in
    put_word (λ ls. claused kind (given t, ls)) (λ ls. aged kind (given t) (as_aging (switched (aging_rule_of ls)))) 0 clauses_part (Named rules.Aging ▸ filter_part) t k.Aging (codes "AGING") vs us aging_word (λ ps r d. this refl d) (λ p ls. refl)
    (put_both (λ ls. switched (aging_rule_of ls)) (λ y. aged kind (given t) (as_aging y)) 0 (Named rules.Aging) filter_part (Named rules.Aging ▸ filter_part) a t vs ws us (λ ps r d. both d) (put_aging a g ws)
    (put_map filter_of (λ x. aged_filtered kind (given t) (Some a) x) 0 filter_part t.filter t ws us (λ ls. same_table kind t h t.filter (Some a) refl e ls) (put_filter t.filter h.filter us s.closes s.filter)))

put_ageless : (kind : GroupKind) (t : GroupTable) → IsGroupTable kind t → (f : Option ConditionTree) → IsFilter f → t.filter ≡ f → t.aging ≡ None → (us : List Word) → Follows us
    → Put (λ ls. claused kind (given t, ls)) 0 clauses_part t (filter_words f ++ us) us
unfolding claused aging_of filter_of
put_ageless kind t h (Some c) (g, l) e d us s =
    put_word (λ ls. claused kind (given t, ls)) (λ ls. filtered kind (given t) (as_filter (condition_of ls))) 0 clauses_part (Named rules.Cond ▸ optional k.Aging (Named rules.Aging)) t k.Where (codes "WHERE") (condition_words Loose c ++ us) us where_word (λ ps r x. that (this refl x)) (λ p ls. refl)
    (put_both condition_of (λ y. filtered kind (given t) (as_filter y)) 0 (Named rules.Cond) (optional k.Aging (Named rules.Aging)) (Named rules.Cond ▸ optional k.Aging (Named rules.Aging)) c t (condition_words Loose c ++ us) us us (λ ps r x. both x) (put_condition c g l us s.closes)
    (put_none (λ ls. filtered kind (given t) (as_filter (c, ls))) 0 (optional k.Aging (Named rules.Aging)) t us (λ ps r x. that (empty x)) (λ i. rw (s.aging i) (same_table kind t h (Some c) None e d (tokens i us)))))
put_ageless kind t h None g e d us s =
    put_none (λ ls. claused kind (given t, ls)) 0 clauses_part t us (λ ps r x. that (that (empty x))) (λ i. rw (s.aging i, s.filter i) (rw (s.aging i) (same_table kind t h None None e d (tokens i us))))

three : (a b c us : List Word) → a ++ (b ++ (c ++ us)) ≡ ((a ++ b) ++ c) ++ us
three a b c us = simp append_assoc

put_clauses : (kind : GroupKind) (t : GroupTable) → IsGroupTable kind t → (a : Option AgingClause) → IsAging a → t.aging ≡ a → (us : List Word) → Follows us → Put (λ ls. claused kind (given t, ls)) 0 clauses_part t (aging_words a ++ (filter_words t.filter ++ us)) us
put_clauses kind t h (Some a) g e us s = put_aged kind t h a g e us s
put_clauses kind t h None g e us s = put_ageless kind t h t.filter h.filter refl e us s

-- a table of a group is read
put_group_table : (kind : GroupKind) (t : GroupTable) → IsGroupTable kind t → (us : List Word) → Follows us → Put (group_table_of kind) 0 table_part t (group_table_words t ++ us) us
put_group_table kind t h us s =
    let ws : List Word = aging_words t.aging ++ (filter_words t.filter ++ us) in
    put_words (group_table_of kind) 0 table_part t (table_words t.table t.attribute ++ ws) (group_table_words t ++ us) us (three (table_words t.table t.attribute) (aging_words t.aging) (filter_words t.filter) us)
    (put_both table_of (λ x. claused kind x) 0 (Named rules.CachedTable) clauses_part table_part (given t) t (table_words t.table t.attribute ++ ws) ws us (λ ps r d. both d) (put_cached_table t.table h.table t.attribute ws) (put_clauses kind t h t.aging h.aging refl us s))

comma_follows : (us : List Word) → Follows (codes "," ∷ us)
comma_follows us = record {
  closes = record { stops = stops_word k.Comma (codes ",") us comma_word refl refl refl; conjunction = never_word k.And k.Comma (codes ",") us comma_word refl; disjunction = never_word k.Or k.Comma (codes ",") us comma_word refl };
  filter = never_word k.Where k.Comma (codes ",") us comma_word refl;
  aging = never_word k.Aging k.Comma (codes ",") us comma_word refl;
}

-- the tables of a group are read
pub put_group_tables : (kind : GroupKind) (ts : List GroupTable) → SomeGood (IsGroupTable kind) ts → (us : List Word) → Follows us → Never k.Comma us → Put (group_tables_of kind) 0 (table_part ▸ repeated k.Comma table_part) ts (listed group_table_words ts ++ us) us
put_group_tables kind ts h us s v =
    put_list GroupTable group_table_words (group_table_of kind) 0 table_part (IsGroupTable kind) Follows (group_table_shrinks kind) comma_follows (λ t g vs f. put_group_table kind t g vs f) ts h us s v
