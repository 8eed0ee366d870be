-- Queries that are put are read back.
use Rattle.std.proofs.Common.{◌≡◌, ℕ, Bool, true, false, ◌||◌, List, [], ◌∷◌, ◌++◌, map, drop, codes, Option, Some, None, refl, sym, ap, ◌∙◌, subst, append_assoc, append-nil}
use Rattle.std.specs.List.{list_all, filter_map}
use Rattle.sql_print.specs.sql_query.specs.declared.query.Aggregate.{Aggregate}
use Rattle.sql_print.specs.sql_query.specs.declared.query.FromTable.{FromTable}
use Rattle.sql_print.specs.sql_query.specs.declared.query.OrderItem.{OrderItem}
use Rattle.sql_print.specs.sql_query.specs.declared.query.Query.{Query}
use Rattle.sql_print.specs.sql_query.specs.declared.query.SelectItem.{SelectItem}
use Rattle.sql_print.specs.sql_query.specs.declared.query.SelectItem.TheVariants as items
use Rattle.sql_print.specs.sql_query.specs.declared.query.SelectList.{SelectList}
use Rattle.sql_print.specs.sql_query.specs.declared.query.SelectList.TheVariants as lists
use Rattle.sql_print.specs.sql_query.specs.Items.{aggregate_in, expression_in}
use Rattle.sql_print.specs.sql_query.specs.Trees.{ConditionTree, ExpressionTree}
use Rattle.sql_print.specs.sql_tokens.specs.declared.kind.Kind.{Kind}
use Rattle.sql_print.specs.sql_tokens.specs.declared.kind.Kind.TheVariants as k
use Rattle.sql_print.specs.sql_tokens.specs.Kinds.{is_kind}
use Rattle.sql_print.specs.sql_tokens.specs.Words.{word_kind}
use Rattle.sql_print.specs.sql_tokens.specs.Lexing.{Lexeme, lexeme}
use Rattle.sql_print.specs.sql_grammar.specs.declared.rule.Rule.TheVariants as rules
use Rattle.sql_print.specs.sql_grammar.specs.declared.test.Test.TheVariants.{Direction, Name}
use Rattle.sql_print.specs.sql_grammar.specs.Tests.{passes}
use Rattle.sql_print.specs.sql_grammar.specs.Grammar.{Grammar, Either, Empty, Named, Parts, Part, Reads, token, both, this, that, empty, named, again, enough}
use Rattle.sql_print.specs.sql_grammar.specs.Notation.{optional, repeated, the, ◌▸◌}
use Rattle.sql_print.specs.sql_grammar.specs.Sql.{rule}
use Rattle.sql_print.specs.sql_grammar.specs.Queries.{colref, filtered as filter_part, groups as groups_part, ordered as order_part, select, source as source_part, sources as sources_part}
use Rattle.sql_print.specs.sql_phrases.specs.Reading.{column_of, columns_of, first_kind, name_from, name_of}
use Rattle.sql_print.specs.sql_phrases.specs.Conditions.{filter_of}
use Rattle.sql_print.specs.sql_phrases.specs.Queries.{aliased, groups_of, is_aggregate, is_expression, list_of, order_item_of, order_items_of, order_of, ordered, query_filtered, query_from, query_grouped, query_listed, query_of, query_ordered, selected_of, source_of, sources_of}
use Rattle.sql_print.specs.sql_phrases.proofs.Shrinking.{column_name_shrinks, order_item_shrinks, source_shrinks}
use Rattle.sql_print.specs.sql_words.specs.Words.{Word, column_name_words, listed, more, name_words}
use Rattle.sql_print.specs.sql_words.specs.Trees.{expression_words, filter_words}
use Rattle.sql_print.specs.Queries.{aggregate_words, alias_words, direction_word, grouping_words, item_words, order_item_words, order_words, query_words, selected_words, source_words}
use Rattle.print_laws.proofs.Conditions.{Closes}
use Rattle.print_laws.proofs.Expressions.{IsSum, Stops, stops_word}
use Rattle.print_laws.proofs.GroupTables.{IsFilter, put_filter}
use Rattle.print_laws.proofs.Items.{Aggs, Exprs, In, IsAggregate, IsItem, IsSelected, Mixed, Mode, Selecting, first_mode, last_mode, put_listed}
use Rattle.print_laws.proofs.Keywords.{asc_word, by_word, comma_word, desc_word, from_word, group_word, order_word, star_word, where_word}
use Rattle.print_laws.proofs.Lexed.{Lexes, begun_by, tokens}
use Rattle.print_laws.proofs.Lists.{AllGood, SomeGood, put_list}
use Rattle.print_laws.proofs.Loading.{end_closes, ends_never, nothing, word_closes}
use Rattle.print_laws.proofs.Names.{IsColumnName, IsIdentifier, IsName, identifier_lexes, name_is, put_column_name, put_name}
use Rattle.print_laws.proofs.Put.{Never, Put, never_word, put_both, put_last, put_none, put_words}
use Rattle.print_laws.proofs.Tails.{Adds, Around, PutTo, Turns, put_of, to_both, to_list, to_map, to_none, to_put, to_word, to_words}
use Rattle.print_laws.proofs.WordKinds.{identifier_word, other_kind}

-- lists of one kind
expressions_all : (es : List ExpressionTree) → list_all is_expression (map (λ e. items.Expression e) es) ≡ true
expressions_all [] = refl
expressions_all (e ∷ es) = expressions_all es

aggregates_all : (aggs : List Aggregate) → list_all is_aggregate (map (λ a. items.Aggregate a) aggs) ≡ true
aggregates_all [] = refl
aggregates_all (a ∷ aggs) = aggregates_all aggs

expressions_back : (es : List ExpressionTree) → filter_map expression_in (map (λ e. items.Expression e) es) ≡ es
expressions_back [] = refl
expressions_back (e ∷ es) = ap (λ (xs : List ExpressionTree). e ∷ xs) (expressions_back es)

aggregates_back : (aggs : List Aggregate) → filter_map aggregate_in (map (λ a. items.Aggregate a) aggs) ≡ aggs
aggregates_back [] = refl
aggregates_back (a ∷ aggs) = ap (λ (xs : List Aggregate). a ∷ xs) (aggregates_back aggs)

expressions_mode : (es : List ExpressionTree) → last_mode Exprs (map (λ e. items.Expression e) es) ≡ Exprs
expressions_mode [] = refl
expressions_mode (e ∷ es) = expressions_mode es

aggregates_mode : (aggs : List Aggregate) → last_mode Aggs (map (λ a. items.Aggregate a) aggs) ≡ Aggs
aggregates_mode [] = refl
aggregates_mode (a ∷ aggs) = aggregates_mode aggs

mixed_mode : (xs : List SelectItem) → last_mode Mixed xs ≡ Mixed
mixed_mode [] = refl
mixed_mode (x ∷ xs) = mixed_mode xs

exprs_mode : (xs : List SelectItem) → list_all is_expression xs ≡ false → last_mode Exprs xs ≡ Mixed
exprs_mode [] h = absurd (cc)
exprs_mode (items.Expression e ∷ xs) h = exprs_mode xs h
exprs_mode (items.Aggregate a ∷ xs) h = mixed_mode xs

aggs_mode : (xs : List SelectItem) → list_all is_aggregate xs ≡ false → last_mode Aggs xs ≡ Mixed
aggs_mode [] h = absurd (cc)
aggs_mode (items.Expression e ∷ xs) h = mixed_mode xs
aggs_mode (items.Aggregate a ∷ xs) h = aggs_mode xs h

pub both_mode : (x : SelectItem) (xs : List SelectItem) → list_all is_expression (x ∷ xs) ≡ false → list_all is_aggregate (x ∷ xs) ≡ false → last_mode (first_mode x) xs ≡ Mixed
both_mode (items.Expression e) xs h t = exprs_mode xs h
both_mode (items.Aggregate a) xs h t = aggs_mode xs t

more_expressions : (es : List ExpressionTree) → more item_words (map (λ e. items.Expression e) es) ≡ more expression_words es
more_expressions [] = refl
more_expressions (e ∷ es) = ap (λ (ws : List Word). (codes "," ∷ expression_words e) ++ ws) (more_expressions es)

more_aggregates : (aggs : List Aggregate) → more item_words (map (λ a. items.Aggregate a) aggs) ≡ more aggregate_words aggs
more_aggregates [] = refl
more_aggregates (a ∷ aggs) = ap (λ (ws : List Word). (codes "," ∷ aggregate_words a) ++ ws) (more_aggregates aggs)

expression_items : (es : List ExpressionTree) → AllGood IsSum es → AllGood IsItem (map (λ e. items.Expression e) es)
expression_items [] h = tt
expression_items (e ∷ es) (h, t) = (h, expression_items es t)

aggregate_items : (aggs : List Aggregate) → AllGood IsAggregate aggs → AllGood IsItem (map (λ a. items.Aggregate a) aggs)
aggregate_items [] h = tt
aggregate_items (a ∷ aggs) (h, t) = (h, aggregate_items aggs t)

-- what stands behind the tables of a query with this list
abbrev pub rest_part : SelectList → Grammar
rest_part lists.Everything = optional k.Group groups_part ▸ order_part
rest_part (lists.Expressions es) = optional k.Group groups_part ▸ order_part
rest_part (lists.Aggregates aggs) = optional k.Group groups_part ▸ order_part
rest_part (lists.Mixed xs) = the k.Group ▸ groups_part ▸ order_part

abbrev pub tail_part : SelectList → Grammar
tail_part l = sources_part ▸ rest_part l

star_is : (p : ℕ) (ls : List Lexeme) → selected_of (lexeme k.Star p (codes "*") ∷ ls) ≡ (lists.Everything, ls)
unfolding selected_of
star_is p ls = refl

turned : {V : Type 0} (read : List Lexeme → V × List Lexeme) (h m g : Around) (x : V) (ws us : List Word) → Turns h m → PutTo read m g x ws us → PutTo read h g x ws us
turned read h m g x ws us f q = record {
  says = λ i. let s = q.says i in record { at = s.at; reads = s.reads; spells = λ ps d. s.spells ps (f ps _ d) };
  fine = q.fine;
}

put_selected : (l : SelectList) → IsSelected l → (us : List Word) → Stops us → Never k.Comma us → PutTo selected_of (λ ps. Part 0 (tail_part l) ps) Selecting l (selected_words l ++ us) us
put_selected lists.Everything h us s v =
    to_put selected_of 0 (the k.Star) (λ ps. Part 0 (tail_part lists.Everything) ps) (λ ps. Part 0 (tail_part lists.Everything) ps) Selecting lists.Everything (codes "*" ∷ us) us (λ ps r d. d) (λ ps r d. all_reads d)
    (put_last selected_of 0 (the k.Star) lists.Everything k.Star (codes "*") us star_word (λ ps r d. token refl d) star_is)
  where
    all_reads : {ps : Parts} {r : List Kind} → Reads rule 32 (Part 0 (the k.Star) (Part 0 (tail_part lists.Everything) ps)) r → Reads rule 32 (Part 0 select ps) r
    all_reads (token p d) = this p (named d)
put_selected (lists.Expressions []) h us s v = absurd h
put_selected (lists.Expressions (e ∷ es)) (h, t) us s v =
    let l : SelectList = lists.Expressions (e ∷ es) in
    let xs : List SelectItem = map (λ x. items.Expression x) es in
    let p = put_listed (items.Expression e) xs h (expression_items es t) us s v in
    let modes = subst (λ (m : Mode). PutTo selected_of (In m) Selecting (list_of (items.Expression e ∷ xs)) (listed item_words (items.Expression e ∷ xs) ++ us) us) (expressions_mode es) p in
    let list = subst (λ (x : SelectList). PutTo selected_of (In Exprs) Selecting x (listed item_words (items.Expression e ∷ xs) ++ us) us) (all_expressions e es) modes in
    turned selected_of (λ ps. Part 0 (tail_part l) ps) (In Exprs) Selecting l (selected_words l ++ us) us (λ ps r d. named (that (named d)))
    (to_words selected_of (In Exprs) Selecting l (listed item_words (items.Expression e ∷ xs) ++ us) (selected_words l ++ us) us (ap (λ (ws : List Word). (expression_words e ++ ws) ++ us) (more_expressions es)) list)
  where
    all_expressions : (f : ExpressionTree) (fs : List ExpressionTree) → list_of (items.Expression f ∷ map (λ x. items.Expression x) fs) ≡ lists.Expressions (f ∷ fs)
    all_expressions f fs = rw (expressions_all fs) (ap (λ (x : List ExpressionTree). lists.Expressions (f ∷ x)) (expressions_back fs))
put_selected (lists.Aggregates []) h us s v = absurd h
put_selected (lists.Aggregates (a ∷ aggs)) (h, t) us s v =
    let l : SelectList = lists.Aggregates (a ∷ aggs) in
    let xs : List SelectItem = map (λ x. items.Aggregate x) aggs in
    let p = put_listed (items.Aggregate a) xs h (aggregate_items aggs t) us s v in
    let modes = subst (λ (m : Mode). PutTo selected_of (In m) Selecting (list_of (items.Aggregate a ∷ xs)) (listed item_words (items.Aggregate a ∷ xs) ++ us) us) (aggregates_mode aggs) p in
    let list = subst (λ (x : SelectList). PutTo selected_of (In Aggs) Selecting x (listed item_words (items.Aggregate a ∷ xs) ++ us) us) (all_aggregates a aggs) modes in
    turned selected_of (λ ps. Part 0 (tail_part l) ps) (In Aggs) Selecting l (selected_words l ++ us) us (λ ps r d. named (that (named d)))
    (to_words selected_of (In Aggs) Selecting l (listed item_words (items.Aggregate a ∷ xs) ++ us) (selected_words l ++ us) us (ap (λ (ws : List Word). (aggregate_words a ++ ws) ++ us) (more_aggregates aggs)) list)
  where
    all_aggregates : (b : Aggregate) (bs : List Aggregate) → list_of (items.Aggregate b ∷ map (λ x. items.Aggregate x) bs) ≡ lists.Aggregates (b ∷ bs)
    all_aggregates b bs = rw (aggregates_all bs) (ap (λ (x : List Aggregate). lists.Aggregates (b ∷ x)) (aggregates_back bs))
put_selected (lists.Mixed []) (h, e, a) us s v = absurd h
put_selected (lists.Mixed (x ∷ xs)) ((h, t), e, a) us s v =
    let l : SelectList = lists.Mixed (x ∷ xs) in
    let p = put_listed x xs h t us s v in
    let modes = subst (λ (m : Mode). PutTo selected_of (In m) Selecting (list_of (x ∷ xs)) (listed item_words (x ∷ xs) ++ us) us) (both_mode x xs e a) p in
    let list = subst (λ (y : SelectList). PutTo selected_of (In Mixed) Selecting y (listed item_words (x ∷ xs) ++ us) us) (mixed_list (x ∷ xs) e a) modes in
    turned selected_of (λ ps. Part 0 (tail_part l) ps) (In Mixed) Selecting l (selected_words l ++ us) us (λ ps r d. named (that d)) list
  where
    mixed_list : (ys : List SelectItem) → list_all is_expression ys ≡ false → list_all is_aggregate ys ≡ false → list_of ys ≡ lists.Mixed ys
    mixed_list ys f b = rw (f, b) refl

-- behind a table's name
record SourceEnds (us : List Word) : Type 0 where
  dot : Never k.Dot us
  name : (i : ℕ) → passes Name (first_kind (tokens i us)) ≡ false

name_word : (j : Kind) (w : Word) (us : List Word) → Lexes j w → passes Name j ≡ false → (i : ℕ) → passes Name (first_kind (tokens i (w ∷ us))) ≡ false
name_word j w us l h i = ap (λ (ls : List Lexeme). passes Name (first_kind ls)) (begun_by j w l i us).1 ∙ h

word_ends : (j : Kind) (w : Word) (us : List Word) → Lexes j w → is_kind j k.Dot ≡ false → passes Name j ≡ false → SourceEnds (w ∷ us)
word_ends j w us l a b = record { dot = never_word k.Dot j w us l a; name = name_word j w us l b }

-- a table of a query
abbrev pub IsAlias : Option (List ℕ) → Type 0
IsAlias None = Unit {0}
IsAlias (Some n) = IsIdentifier n

pub record IsSource (s : FromTable) : Type 0 where
  pub table : IsName s.table
  pub alias : IsAlias s.alias

abbrev Sourced : Type 0
Sourced = FromTable × List Lexeme

abbrev alias_part : Grammar
alias_part = Either Name Empty Empty

alias_is : (n a : List ℕ) (j : Kind) (p : ℕ) (ls : List Lexeme) → passes Name j ≡ true → name_from a ≡ a → aliased (n, lexeme j p a ∷ ls) ≡ (record { table = n; alias = Some a }, ls)
alias_is n a j p ls h e = rw h (ap (λ (x : List ℕ). let y : Sourced = (record { table = n; alias = Some x }, ls) in y) e)

no_alias : (n : List ℕ) (ls : List Lexeme) → passes Name (first_kind ls) ≡ false → aliased (n, ls) ≡ (record { table = n; alias = None }, ls)
no_alias n ls h = rw h refl

put_source_by : (n : List ℕ) → IsName n → (a : Option (List ℕ)) → IsAlias a → (us : List Word) → SourceEnds us → Put source_of 0 source_part (record { table = n; alias = a }) (name_words n ++ (alias_words a ++ us)) us
put_source_by n h None t us s =
    put_both name_of (λ x. aliased x) 0 (Named rules.Named) alias_part source_part n (record { table = n; alias = None }) (name_words n ++ us) us us (λ ps r d. both d) (put_name 0 n h us s.dot)
    (put_none (λ ls. aliased (n, ls)) 0 alias_part (record { table = n; alias = None }) us (λ ps r d. that (empty d)) (λ i. no_alias n (tokens i us) (s.name i)))
put_source_by n h (Some a) t us s =
    let w = identifier_word a t.word in
    put_both name_of (λ x. aliased x) 0 (Named rules.Named) alias_part source_part n (record { table = n; alias = Some a }) (name_words n ++ a ∷ us) (a ∷ us) us (λ ps r d. both d) (put_name 0 n h (a ∷ us) (never_word k.Dot (word_kind a) a us (identifier_lexes a t.word) (other_kind Name (word_kind a) k.Dot w.passes refl)))
    (put_last (λ ls. aliased (n, ls)) 0 alias_part (record { table = n; alias = Some a }) (word_kind a) a us (identifier_lexes a t.word) (λ ps r d. this w.passes (empty d)) (λ p ls. alias_is n a (word_kind a) p ls w.passes (name_is a t.name)))

put_source : (s : FromTable) → IsSource s → (us : List Word) → SourceEnds us → Put source_of 0 source_part s (source_words s ++ us) us
put_source s h us e = put_words source_of 0 source_part s (name_words s.table ++ (alias_words s.alias ++ us)) (source_words s ++ us) us (sym (append_assoc (name_words s.table) (alias_words s.alias) us)) (put_source_by s.table h.table s.alias h.alias us e)

-- what may stand behind a part of a query
record Later (us : List Word) : Type 0 where
  closes : Closes us
  filter : Never k.Where us
  comma : Never k.Comma us
  name : (i : ℕ) → passes Name (first_kind (tokens i us)) ≡ false

later_word : (j : Kind) (w : Word) (us : List Word) → Lexes j w → is_kind j k.Dot ≡ false → is_kind j k.Star ≡ false → is_kind j k.Plus || is_kind j k.Minus ≡ false → is_kind j k.And ≡ false → is_kind j k.Or ≡ false → is_kind j k.Where ≡ false → is_kind j k.Comma ≡ false
    → passes Name j ≡ false → Later (w ∷ us)
later_word j w us l a b c d e f g h = record { closes = word_closes j w us l a b c d e; filter = never_word k.Where j w us l f; comma = never_word k.Comma j w us l g; name = name_word j w us l h }

later_end : Later []
later_end = record { closes = end_closes; filter = ends_never k.Where refl; comma = ends_never k.Comma refl; name = λ i. rw (nothing i) refl }

order_later : (o : List OrderItem) → Later (order_words o ++ [])
order_later [] = later_end
order_later (x ∷ xs) = later_word k.Order (codes "ORDER") _ order_word refl refl refl refl refl refl refl refl

group_later : (g : List (List ℕ)) (us : List Word) → Later us → Later (grouping_words g ++ us)
group_later [] us s = s
group_later (n ∷ ns) us s = later_word k.Group (codes "GROUP") _ group_word refl refl refl refl refl refl refl refl

filter_ends : (f : Option ConditionTree) (us : List Word) → Later us → SourceEnds (filter_words f ++ us)
filter_ends None us s = record { dot = s.closes.stops.dot; name = s.name }
filter_ends (Some c) us s = word_ends k.Where (codes "WHERE") _ where_word refl refl

filter_comma : (f : Option ConditionTree) (us : List Word) → Later us → Never k.Comma (filter_words f ++ us)
filter_comma None us s = s.comma
filter_comma (Some c) us s = never_word k.Comma k.Where (codes "WHERE") _ where_word refl

-- ORDER BY
pub record IsOrder (x : OrderItem) : Type 0 where
  pub column : IsColumnName x.column

abbrev direction_part : Grammar
direction_part = Either Direction Empty Empty

abbrev item_grammar : Grammar
item_grammar = colref ▸ direction_part

abbrev items_part : Grammar
items_part = colref ▸ direction_part ▸ repeated k.Comma item_grammar

abbrev Ordered : Type 0
Ordered = OrderItem × List Lexeme

abbrev ordering : Around
ordering ps = Part 0 (repeated k.Comma item_grammar) ps

put_direction : (m : Around) (x : OrderItem) (b : Bool) → x.descending ≡ b → Adds k.Asc ordering m → Adds k.Desc ordering m → (us : List Word) → PutTo (λ ls. ordered (x.column, ls)) ordering m x (direction_word b ∷ us) us
put_direction m x true e f g us =
    to_word (λ ls. ordered (x.column, ls)) (λ ls. (record { column = x.column; descending = true }, ls)) ordering ordering m x k.Desc (codes "DESC") us us desc_word g (λ p ls. refl)
    (to_none (λ ls. (record { column = x.column; descending = true }, ls)) ordering ordering x us (λ ps r d. d) (λ i. ap (λ (b : Bool). let y : Ordered = (record { column = x.column; descending = b }, tokens i us) in y) (sym e)))
put_direction m x false e f g us =
    to_word (λ ls. ordered (x.column, ls)) (λ ls. (record { column = x.column; descending = false }, ls)) ordering ordering m x k.Asc (codes "ASC") us us asc_word f (λ p ls. refl)
    (to_none (λ ls. (record { column = x.column; descending = false }, ls)) ordering ordering x us (λ ps r d. d) (λ i. ap (λ (b : Bool). let y : Ordered = (record { column = x.column; descending = b }, tokens i us) in y) (sym e)))

direction_dot : (b : Bool) (us : List Word) → Never k.Dot (direction_word b ∷ us)
direction_dot true us = never_word k.Dot k.Desc (codes "DESC") us desc_word refl
direction_dot false us = never_word k.Dot k.Asc (codes "ASC") us asc_word refl

put_order_item : (m g : Around) → Turns (λ ps. Part 0 colref (m ps)) g → Adds k.Asc ordering m → Adds k.Desc ordering m → (x : OrderItem) → IsOrder x → (us : List Word) → PutTo order_item_of ordering g x (order_item_words x ++ us) us
put_order_item m g t f d x h us =
    let ws : List Word = direction_word x.descending ∷ us in
    to_words order_item_of ordering g x (column_name_words x.column ++ ws) (order_item_words x ++ us) us (sym (append_assoc (column_name_words x.column) (direction_word x.descending ∷ []) us))
    (to_both column_of (λ y. ordered y) ordering m g x.column x (column_name_words x.column ++ ws) ws us
    (to_put column_of 0 colref m m g x.column (column_name_words x.column ++ ws) ws (λ ps r e. e) t (put_column_name 0 colref ws (λ j p ps r e. both (token p e)) x.column h.column (direction_dot x.descending us)))
    (put_direction m x x.descending refl f d us))

abbrev Anything : List Word → Type 0
Anything us = Unit {0}

put_order_items : (xs : List OrderItem) → SomeGood IsOrder xs → (us : List Word) → Never k.Comma us → PutTo order_items_of (λ ps. ps) (λ ps. Part 0 items_part ps) xs (listed order_item_words xs ++ us) us
put_order_items xs h us v =
    to_list OrderItem order_item_words order_item_of (λ ps. ps) ordering (λ ps. Part 0 item_grammar (ordering ps)) (λ ps. Part 0 items_part ps) IsOrder Anything order_item_shrinks (λ vs. tt)
    (λ x g vs t. put_order_item (λ ps. Part 0 (direction_part ▸ repeated k.Comma item_grammar) ps) (λ ps. Part 0 items_part ps) (λ ps r d. both d) (λ ps r d. both (this refl (empty d))) (λ ps r d. both (this refl (empty d))) x g vs)
    (λ x g vs t. put_order_item (λ ps. Part 0 direction_part (ordering ps)) (λ ps. Part 0 item_grammar (ordering ps)) (λ ps r d. both d) (λ ps r d. this refl (empty d)) (λ ps r d. this refl (empty d)) x g vs)
    (λ ps r d. again refl d) (λ ps r d. enough d) xs h us tt v

put_order : (xs : List OrderItem) → AllGood IsOrder xs → PutTo order_of (λ ps. ps) (λ ps. Part 0 order_part ps) xs (order_words xs ++ []) []
unfolding order_of
put_order [] h = to_none order_of (λ ps. ps) (λ ps. Part 0 order_part ps) [] [] (λ ps r d. that (empty d)) (λ i. rw (nothing i) refl)
put_order (x ∷ xs) h =
    let ws : List Word = listed order_item_words (x ∷ xs) ++ [] in
    to_word order_of (λ ls. order_items_of (drop 1 ls)) (λ ps. ps) (λ ps. Part 0 (the k.By ▸ items_part) ps) (λ ps. Part 0 order_part ps) (x ∷ xs) k.Order (codes "ORDER") (codes "BY" ∷ ws) [] order_word (λ ps r d. this refl d) (λ p ls. refl)
    (to_word (λ ls. order_items_of (drop 1 ls)) order_items_of (λ ps. ps) (λ ps. Part 0 items_part ps) (λ ps. Part 0 (the k.By ▸ items_part) ps) (x ∷ xs) k.By (codes "BY") ws [] by_word (λ ps r d. both (token refl d)) (λ p ls. refl)
    (put_order_items (x ∷ xs) h [] (ends_never k.Comma refl)))

-- GROUP BY
abbrev pub IsGrouped : SelectList → List (List ℕ) → Type 0
IsGrouped (lists.Mixed xs) [] = ⊥
IsGrouped l names = Unit {0}

abbrev columns_part : Grammar
columns_part = colref ▸ repeated k.Comma colref

put_columns : (ns : List (List ℕ)) → SomeGood IsColumnName ns → (us : List Word) → Never k.Dot us → Never k.Comma us → Put columns_of 0 columns_part ns (listed column_name_words ns ++ us) us
put_columns ns h us d v =
    put_list (List ℕ) column_name_words column_of 0 colref IsColumnName (λ vs. Never k.Dot vs) column_name_shrinks (λ vs. never_word k.Dot k.Comma (codes ",") vs comma_word refl) (λ n g vs t. put_column_name 0 colref vs (λ j p ps r e. both (token p e)) n g t) ns h us d v

abbrev then_order : Around
then_order ps = Part 0 order_part ps

put_some_groups : (g : Around) (n : List ℕ) (ns : List (List ℕ)) → SomeGood IsColumnName (n ∷ ns) → Adds k.Group (λ ps. Part 0 groups_part (Part 0 order_part ps)) g → (us : List Word) → Later us → PutTo groups_of then_order g (n ∷ ns) (grouping_words (n ∷ ns) ++ us) us
unfolding groups_of
put_some_groups g n ns h f us s =
    let ws : List Word = listed column_name_words (n ∷ ns) ++ us in
    to_word groups_of (λ ls. columns_of (drop 1 ls)) then_order (λ ps. Part 0 groups_part (Part 0 order_part ps)) g (n ∷ ns) k.Group (codes "GROUP") (codes "BY" ∷ ws) us group_word f (λ p ls. refl)
    (to_word (λ ls. columns_of (drop 1 ls)) columns_of then_order (λ ps. Part 0 columns_part (Part 0 order_part ps)) (λ ps. Part 0 groups_part (Part 0 order_part ps)) (n ∷ ns) k.By (codes "BY") ws us by_word (λ ps r d. both (token refl d)) (λ p ls. refl)
    (to_put columns_of 0 columns_part then_order then_order (λ ps. Part 0 columns_part (Part 0 order_part ps)) (n ∷ ns) ws us (λ ps r d. d) (λ ps r d. d) (put_columns (n ∷ ns) h us s.closes.stops.dot s.comma)))

put_no_groups : (us : List Word) → Never k.Group us → PutTo groups_of then_order (λ ps. Part 0 (optional k.Group groups_part ▸ order_part) ps) [] us us
unfolding groups_of
put_no_groups us v = to_none groups_of then_order (λ ps. Part 0 (optional k.Group groups_part ▸ order_part) ps) [] us (λ ps r d. both (that (empty d))) (λ i. rw (v i) refl)

put_may_groups : (ns : List (List ℕ)) → AllGood IsColumnName ns → (us : List Word) → Later us → Never k.Group us → PutTo groups_of then_order (λ ps. Part 0 (optional k.Group groups_part ▸ order_part) ps) ns (grouping_words ns ++ us) us
put_may_groups [] h us s v = put_no_groups us v
put_may_groups (n ∷ ns) h us s v = put_some_groups (λ ps. Part 0 (optional k.Group groups_part ▸ order_part) ps) n ns h (λ ps r d. both (this refl d)) us s

put_groups : (l : SelectList) (ns : List (List ℕ)) → IsGrouped l ns → AllGood IsColumnName ns → (us : List Word) → Later us → Never k.Group us → PutTo groups_of then_order (λ ps. Part 0 (rest_part l) ps) ns (grouping_words ns ++ us) us
put_groups lists.Everything ns g h us s v = put_may_groups ns h us s v
put_groups (lists.Expressions es) ns g h us s v = put_may_groups ns h us s v
put_groups (lists.Aggregates aggs) ns g h us s v = put_may_groups ns h us s v
put_groups (lists.Mixed xs) [] g h us s v = absurd g
put_groups (lists.Mixed xs) (n ∷ ns) g h us s v = put_some_groups (λ ps. Part 0 (the k.Group ▸ groups_part ▸ order_part) ps) n ns h (λ ps r d. both (token refl (both d))) us s

order_group : (o : List OrderItem) → Never k.Group (order_words o ++ [])
order_group [] = ends_never k.Group refl
order_group (x ∷ xs) = never_word k.Group k.Order (codes "ORDER") _ order_word refl

-- a query such as a statement can have
pub record IsQuery (q : Query) : Type 0 where
  pub selected : IsSelected q.selected
  pub tables : SomeGood IsSource q.tables
  pub filter : IsFilter q.filter
  pub groups : AllGood IsColumnName q.groups
  pub grouped : IsGrouped q.selected q.groups
  pub order : AllGood IsOrder q.order

abbrev tables_part : Grammar
tables_part = source_part ▸ repeated k.Comma source_part ▸ filter_part

query_words_are : (a b c d e : List Word) (w : Word) → a ++ w ∷ (b ++ (c ++ (d ++ (e ++ [])))) ≡ (((a ++ w ∷ b) ++ c) ++ d) ++ e
query_words_are a b c d e w = simp (append_assoc, append-nil)

pub put_query : (q : Query) → IsQuery q → Put query_of 0 select q (query_words q) []
unfolding query_of
put_query q h =
    let l : SelectList = q.selected in
    let w5 : List Word = order_words q.order ++ [] in
    let w4 : List Word = grouping_words q.groups ++ w5 in
    let w3 : List Word = filter_words q.filter ++ w4 in
    let w2 : List Word = listed source_words q.tables ++ w3 in
    let rest : Around = λ ps. Part 0 (rest_part l) ps in
    let filtering : Around = λ ps. Part 0 filter_part (rest ps) in
    let listing : Around = λ ps. Part 0 (repeated k.Comma source_part) (filtering ps) in
    let sourcing : Around = λ ps. Part 0 tables_part (rest ps) in
    let s5 = order_later q.order in
    let s4 = group_later q.groups w5 s5 in
    let ordered_so : PutTo (λ ls. query_grouped l q.tables q.filter (q.groups, ls)) (λ ps. ps) then_order q w5 [] = to_map order_of (λ y. query_ordered l q.tables q.filter q.groups y) (λ ps. ps) then_order q.order q w5 [] (λ ls. refl) (put_order q.order h.order) in
    let grouped_so : PutTo (λ ls. query_filtered l q.tables (q.filter, ls)) (λ ps. ps) rest q w4 [] =
    to_both groups_of (λ y. query_grouped l q.tables q.filter y) (λ ps. ps) then_order rest q.groups q w4 w5 [] (put_groups l q.groups h.grouped h.groups w5 s5 (order_group q.order)) ordered_so in
    let filtered_so : PutTo (λ ls. query_from l (q.tables, ls)) (λ ps. ps) filtering q w3 [] =
    to_both filter_of (λ y. query_filtered l q.tables y) (λ ps. ps) rest filtering q.filter q w3 w4 [] (to_put filter_of 0 filter_part rest rest filtering q.filter w3 w4 (λ ps r d. d) (λ ps r d. d) (put_filter q.filter h.filter w4 s4.closes s4.filter)) grouped_so in
    let tables : PutTo sources_of filtering sourcing q.tables w2 w3 =
    to_list FromTable source_words source_of filtering listing (λ ps. Part 0 source_part (listing ps)) sourcing IsSource SourceEnds source_shrinks (λ vs. word_ends k.Comma (codes ",") vs comma_word refl refl)
    (λ x g vs t. to_put source_of 0 source_part listing (λ ps. Part 0 (repeated k.Comma source_part ▸ filter_part) (rest ps)) sourcing x (source_words x ++ vs) vs (λ ps r d. both d) (λ ps r d. both d) (put_source x g vs t))
    (λ x g vs t. to_put source_of 0 source_part listing listing (λ ps. Part 0 source_part (listing ps)) x (source_words x ++ vs) vs (λ ps r d. d) (λ ps r d. d) (put_source x g vs t))
    (λ ps r d. again refl d) (λ ps r d. enough d) q.tables h.tables w3 (filter_ends q.filter w4 s4) (filter_comma q.filter w4 s4) in
    let from : PutTo (λ ls. query_listed (l, ls)) (λ ps. ps) (λ ps. Part 0 (tail_part l) ps) q (codes "FROM" ∷ w2) [] =
    to_word (λ ls. query_listed (l, ls)) (λ ls. query_from l (sources_of ls)) (λ ps. ps) sourcing (λ ps. Part 0 (tail_part l) ps) q k.From (codes "FROM") w2 [] from_word (λ ps r d. both (both (token refl d))) (λ p ls. refl)
    (to_both sources_of (λ y. query_from l y) (λ ps. ps) filtering sourcing q.tables q w2 w3 [] tables filtered_so) in
    put_words query_of 0 select q (selected_words l ++ codes "FROM" ∷ w2) (query_words q) [] (query_words_are (selected_words l) (listed source_words q.tables) (filter_words q.filter) (grouping_words q.groups) (order_words q.order) (codes "FROM"))
    (put_of query_of 0 select q (selected_words l ++ codes "FROM" ∷ w2) []
    (to_both selected_of (λ y. query_listed y) (λ ps. ps) (λ ps. Part 0 (tail_part l) ps) Selecting l q (selected_words l ++ codes "FROM" ∷ w2) (codes "FROM" ∷ w2) []
    (put_selected l h.selected (codes "FROM" ∷ w2) (stops_word k.From (codes "FROM") w2 from_word refl refl refl) (never_word k.Comma k.From (codes "FROM") w2 from_word refl)) from))
