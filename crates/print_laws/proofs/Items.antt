-- Select lists that are put are read back.
use Rattle.std.proofs.Common.{◌≡◌, Bool, true, false, cond, List, [], ◌∷◌, ◌++◌, drop, codes, refl, sym, ap, subst, append_assoc, append-nil, arith}
use Rattle.std.proofs.lemmas.Bool.Decides.{nat_tests}
use Rattle.std.specs.List.{list_all}
use Rattle.sql_print.specs.sql_query.specs.declared.query.Aggregate.{Aggregate}
use Rattle.sql_print.specs.sql_query.specs.declared.query.Aggregate.TheVariants as aggregates
use Rattle.sql_print.specs.sql_query.specs.declared.query.SelectItem.{SelectItem}
use Rattle.sql_print.specs.sql_query.specs.declared.query.SelectItem.TheVariants as items
use Rattle.sql_print.specs.sql_query.specs.declared.query.SelectList.{SelectList}
use Rattle.sql_print.specs.sql_query.specs.declared.query.SelectList.TheVariants as lists
use Rattle.sql_print.specs.sql_query.specs.Trees.{ExpressionTree}
use Rattle.sql_print.specs.sql_tokens.specs.declared.kind.Kind.{Kind}
use Rattle.sql_print.specs.sql_tokens.specs.declared.kind.Kind.TheVariants as k
use Rattle.sql_print.specs.sql_tokens.specs.Kinds.{is_kind}
use Rattle.sql_print.specs.sql_tokens.specs.Lexing.{Lexeme, lexeme}
use Rattle.sql_print.specs.sql_grammar.specs.declared.rule.Rule.{Rule}
use Rattle.sql_print.specs.sql_grammar.specs.declared.rule.Rule.TheVariants as rules
use Rattle.sql_print.specs.sql_grammar.specs.declared.test.Test.TheVariants.{Fold}
use Rattle.sql_print.specs.sql_grammar.specs.Tests.{passes}
use Rattle.sql_print.specs.sql_grammar.specs.Grammar.{Grammar, Either, Empty, Named, Parts, Part, Reads, Token, token, both, this, that, empty, named}
use Rattle.sql_print.specs.sql_grammar.specs.Notation.{choice, the, ◌▸◌}
use Rattle.sql_print.specs.sql_grammar.specs.Queries.{counted as counted_part, folded as folded_part, select}
use Rattle.sql_print.specs.sql_grammar.specs.Sql.{rule}
use Rattle.sql_print.specs.sql_phrases.specs.Reading.{as_list, at_comma, begins, first_kind, with_last}
use Rattle.sql_print.specs.sql_phrases.specs.Expressions.{expression_of}
use Rattle.sql_print.specs.sql_phrases.specs.Queries.{as_item, as_select_list, count_of, counted, folded, is_aggregate, is_expression, item_of, items_of, list_of, selected_of}
use Rattle.sql_print.specs.sql_phrases.proofs.Shrinking.{item_shrinks}
use Rattle.sql_print.specs.sql_words.specs.Words.{Word, listed, more}
use Rattle.sql_print.specs.sql_words.specs.Trees.{expression_words}
use Rattle.sql_print.specs.Queries.{aggregate_words, item_words}
use Rattle.print_laws.proofs.Expressions.{IsSum, NoStart, Stops, expression_never, put_expression, stops_word}
use Rattle.print_laws.proofs.Keywords.{close_word, comma_word, count_word, max_word, min_word, open_word, star_word, sum_word}
use Rattle.print_laws.proofs.Lexed.{Lexes, tokens}
use Rattle.print_laws.proofs.Lists.{AllGood, SomeGood}
use Rattle.print_laws.proofs.Put.{Never, Put, never_word, put_as, put_both, put_last, put_map, put_word, put_words}
use Rattle.print_laws.proofs.Tails.{Adds, LeadsTo, PutTo, Turns, to_as, to_end, to_first, to_map, to_more, to_put, to_words}

abbrev pub IsAggregate : Aggregate → Type 0
IsAggregate aggregates.Rows = Unit {0}
IsAggregate (aggregates.Count e) = IsSum e
IsAggregate (aggregates.Sum e) = IsSum e
IsAggregate (aggregates.Least e) = IsSum e
IsAggregate (aggregates.Greatest e) = IsSum e

abbrev pub IsItem : SelectItem → Type 0
IsItem (items.Expression e) = IsSum e
IsItem (items.Aggregate a) = IsAggregate a

abbrev aggregate_part : Aggregate → Grammar
aggregate_part aggregates.Rows = the k.Count ▸ counted_part
aggregate_part (aggregates.Count e) = the k.Count ▸ counted_part
aggregate_part (aggregates.Sum e) = Token Fold ▸ folded_part
aggregate_part (aggregates.Least e) = Token Fold ▸ folded_part
aggregate_part (aggregates.Greatest e) = Token Fold ▸ folded_part

abbrev item_part : SelectItem → Grammar
item_part (items.Expression e) = Named rules.Expr
item_part (items.Aggregate a) = aggregate_part a

abbrev Item : Type 0
Item = SelectItem × List Lexeme

-- an expression begins with no aggregate
count_starts_none : NoStart k.Count
count_starts_none = record { name = refl; digits = refl; text = refl; null = refl; time = refl; minus = refl }

star_starts_none : NoStart k.Star
star_starts_none = record { name = refl; digits = refl; text = refl; null = refl; time = refl; minus = refl }

sum_starts_none : NoStart k.Sum
sum_starts_none = record { name = refl; digits = refl; text = refl; null = refl; time = refl; minus = refl }

min_starts_none : NoStart k.Min
min_starts_none = record { name = refl; digits = refl; text = refl; null = refl; time = refl; minus = refl }

max_starts_none : NoStart k.Max
max_starts_none = record { name = refl; digits = refl; text = refl; null = refl; time = refl; minus = refl }

no_fold : (n : Kind) → is_kind n k.Sum ≡ false → is_kind n k.Min ≡ false → is_kind n k.Max ≡ false → passes Fold n ≡ false
no_fold n a b c = by (passes Fold n) refl
  where
    none : passes Fold n ≡ true → ⊥
    none h = absurd (grind (arith, nat_tests))

    by : (x : Bool) → passes Fold n ≡ x → x ≡ false
    by true h = absurd (none h)
    by false h = refl

closed_stops : (us : List Word) → Stops (codes ")" ∷ us)
closed_stops us = stops_word k.CloseParen (codes ")") us close_word refl refl refl

-- ( expression ) behind COUNT
put_count : (e : ExpressionTree) → IsSum e → (us : List Word) → Put item_of 0 (the k.Count ▸ counted_part) (items.Aggregate (aggregates.Count e)) (codes "COUNT" ∷ codes "(" ∷ (expression_words e ++ codes ")" ∷ us)) us
put_count e h us =
    let x : SelectItem = items.Aggregate (aggregates.Count e) in
    let ws : List Word = expression_words e ++ codes ")" ∷ us in
    let g2 : Grammar = choice k.Star Empty (Named rules.Expr) ▸ the k.CloseParen in
    let inner : List Lexeme → Item = λ ls. cond (begins k.Star ls) (items.Aggregate aggregates.Rows, drop 2 ls) (counted (expression_of ls)) in
    put_word item_of count_of 0 (the k.Count ▸ counted_part) counted_part x k.Count (codes "COUNT") (codes "(" ∷ ws) us count_word (λ ps r d. both (token refl d)) (λ p ls. refl)
    (put_word count_of inner 0 counted_part g2 x k.OpenParen (codes "(") ws us open_word (λ ps r d. both (token refl d)) (λ p ls. refl)
    (put_as inner (λ ls. counted (expression_of ls)) 0 g2 (Named rules.Expr ▸ the k.CloseParen) x ws us (λ ps r d. star_apart d) (λ i. rw (expression_never k.Star star_starts_none e h (codes ")" ∷ us) i) refl)
    (put_both expression_of (λ y. counted y) 0 (Named rules.Expr) (the k.CloseParen) (Named rules.Expr ▸ the k.CloseParen) e x ws (codes ")" ∷ us) us (λ ps r d. both d) (put_expression 0 e h (codes ")" ∷ us) (closed_stops us))
    (put_last (λ ls. counted (e, ls)) 0 (the k.CloseParen) x k.CloseParen (codes ")") us close_word (λ ps r d. token refl d) (λ p ls. refl)))))
  where
    star_apart : {ps : Parts} {r : List Kind} → Reads rule 32 (Part 0 (Named rules.Expr ▸ the k.CloseParen) ps) r → Reads rule 32 (Part 0 (choice k.Star Empty (Named rules.Expr) ▸ the k.CloseParen) ps) r
    star_apart (both d) = both (that d)

put_rows : (us : List Word) → Put item_of 0 (the k.Count ▸ counted_part) (items.Aggregate aggregates.Rows) (codes "COUNT" ∷ codes "(" ∷ codes "*" ∷ codes ")" ∷ us) us
put_rows us =
    let x : SelectItem = items.Aggregate aggregates.Rows in
    let g2 : Grammar = choice k.Star Empty (Named rules.Expr) ▸ the k.CloseParen in
    let inner : List Lexeme → Item = λ ls. cond (begins k.Star ls) (items.Aggregate aggregates.Rows, drop 2 ls) (counted (expression_of ls)) in
    put_word item_of count_of 0 (the k.Count ▸ counted_part) counted_part x k.Count (codes "COUNT") (codes "(" ∷ codes "*" ∷ codes ")" ∷ us) us count_word (λ ps r d. both (token refl d)) (λ p ls. refl)
    (put_word count_of inner 0 counted_part g2 x k.OpenParen (codes "(") (codes "*" ∷ codes ")" ∷ us) us open_word (λ ps r d. both (token refl d)) (λ p ls. refl)
    (put_word inner (λ ls. (items.Aggregate aggregates.Rows, drop 1 ls)) 0 g2 (the k.CloseParen) x k.Star (codes "*") (codes ")" ∷ us) us star_word (λ ps r d. both (this refl (empty d))) (λ p ls. refl)
    (put_last (λ ls. (items.Aggregate aggregates.Rows, drop 1 ls)) 0 (the k.CloseParen) x k.CloseParen (codes ")") us close_word (λ ps r d. token refl d) (λ p ls. refl))))

-- ( expression ) behind SUM, MIN or MAX
put_fold : (j : Kind) (w : Word) (x : SelectItem) (e : ExpressionTree) → IsSum e → Lexes j w → passes Fold j ≡ true → is_kind j k.Count ≡ false → ((ls : List Lexeme) → folded j (e, ls) ≡ (x, drop 1 ls)) → (us : List Word)
    → Put item_of 0 (Token Fold ▸ folded_part) x (w ∷ codes "(" ∷ (expression_words e ++ codes ")" ∷ us)) us
put_fold j w x e h l p c z us =
    let ws : List Word = expression_words e ++ codes ")" ∷ us in
    put_word item_of (λ ls. folded j (expression_of (drop 1 ls))) 0 (Token Fold ▸ folded_part) folded_part x j w (codes "(" ∷ ws) us l (λ ps r d. both (token p d)) (λ m ls. rw (c, p) refl)
    (put_word (λ ls. folded j (expression_of (drop 1 ls))) (λ ls. folded j (expression_of ls)) 0 folded_part (Named rules.Expr ▸ the k.CloseParen) x k.OpenParen (codes "(") ws us open_word (λ ps r d. both (token refl d)) (λ m ls. refl)
    (put_both expression_of (λ y. folded j y) 0 (Named rules.Expr) (the k.CloseParen) (Named rules.Expr ▸ the k.CloseParen) e x ws (codes ")" ∷ us) us (λ ps r d. both d) (put_expression 0 e h (codes ")" ∷ us) (closed_stops us))
    (put_last (λ ls. folded j (e, ls)) 0 (the k.CloseParen) x k.CloseParen (codes ")") us close_word (λ ps r d. token refl d) (λ m ls. z (lexeme k.CloseParen m (codes ")") ∷ ls)))))

one_closed : (e us : List Word) (w : Word) → codes "(" ∷ (e ++ codes ")" ∷ us) ≡ (codes "(" ∷ (e ++ codes ")" ∷ [])) ++ us
one_closed e us w = ap (λ (ws : List Word). codes "(" ∷ ws) (sym (append_assoc e (codes ")" ∷ []) us))

put_aggregate : (a : Aggregate) → IsAggregate a → (us : List Word) → Put item_of 0 (aggregate_part a) (items.Aggregate a) (aggregate_words a ++ us) us
put_aggregate aggregates.Rows h us = put_rows us
put_aggregate (aggregates.Count e) h us =
    put_words item_of 0 (the k.Count ▸ counted_part) (items.Aggregate (aggregates.Count e)) (codes "COUNT" ∷ codes "(" ∷ (expression_words e ++ codes ")" ∷ us)) (aggregate_words (aggregates.Count e) ++ us) us (ap (λ (ws : List Word). codes "COUNT" ∷ ws) (one_closed (expression_words e) us [])) (put_count e h us)
put_aggregate (aggregates.Sum e) h us =
    put_words item_of 0 (Token Fold ▸ folded_part) (items.Aggregate (aggregates.Sum e)) (codes "SUM" ∷ codes "(" ∷ (expression_words e ++ codes ")" ∷ us)) (aggregate_words (aggregates.Sum e) ++ us) us (ap (λ (ws : List Word). codes "SUM" ∷ ws) (one_closed (expression_words e) us []))
    (put_fold k.Sum (codes "SUM") (items.Aggregate (aggregates.Sum e)) e h sum_word refl refl (λ ls. refl) us)
put_aggregate (aggregates.Least e) h us =
    put_words item_of 0 (Token Fold ▸ folded_part) (items.Aggregate (aggregates.Least e)) (codes "MIN" ∷ codes "(" ∷ (expression_words e ++ codes ")" ∷ us)) (aggregate_words (aggregates.Least e) ++ us) us (ap (λ (ws : List Word). codes "MIN" ∷ ws) (one_closed (expression_words e) us []))
    (put_fold k.Min (codes "MIN") (items.Aggregate (aggregates.Least e)) e h min_word refl refl (λ ls. refl) us)
put_aggregate (aggregates.Greatest e) h us =
    put_words item_of 0 (Token Fold ▸ folded_part) (items.Aggregate (aggregates.Greatest e)) (codes "MAX" ∷ codes "(" ∷ (expression_words e ++ codes ")" ∷ us)) (aggregate_words (aggregates.Greatest e) ++ us) us (ap (λ (ws : List Word). codes "MAX" ∷ ws) (one_closed (expression_words e) us []))
    (put_fold k.Max (codes "MAX") (items.Aggregate (aggregates.Greatest e)) e h max_word refl refl (λ ls. refl) us)

put_item : (x : SelectItem) → IsItem x → (us : List Word) → Stops us → Put item_of 0 (item_part x) x (item_words x ++ us) us
put_item (items.Expression e) h us s =
    put_as item_of (λ ls. as_item (expression_of ls)) 0 (Named rules.Expr) (Named rules.Expr) (items.Expression e) (expression_words e ++ us) us (λ ps r d. d)
    (λ i. rw (expression_never k.Count count_starts_none e h us i, no_fold (first_kind (tokens i (expression_words e ++ us))) (expression_never k.Sum sum_starts_none e h us i) (expression_never k.Min min_starts_none e h us i) (expression_never k.Max max_starts_none e h us i)) refl)
    (put_map expression_of (λ y. as_item y) 0 (Named rules.Expr) e (items.Expression e) (expression_words e ++ us) us (λ ls. refl) (put_expression 0 e h us s))
put_item (items.Aggregate a) h us s = put_aggregate a h us

-- what a list has so far: expressions, aggregates, or both
pub data Mode : Type 0 where
  Exprs : Mode
  Aggs : Mode
  Mixed : Mode

abbrev pub mode_rule : Mode → Rule
mode_rule Exprs = rules.Exprs
mode_rule Aggs = rules.Aggs
mode_rule Mixed = rules.Mixed

abbrev pub first_mode : SelectItem → Mode
first_mode (items.Expression e) = Exprs
first_mode (items.Aggregate a) = Aggs

abbrev pub next_mode : Mode → SelectItem → Mode
next_mode Exprs (items.Expression e) = Exprs
next_mode Exprs (items.Aggregate a) = Mixed
next_mode Aggs (items.Expression e) = Mixed
next_mode Aggs (items.Aggregate a) = Aggs
next_mode Mixed x = Mixed

abbrev pub last_mode : Mode → List SelectItem → Mode
last_mode m [] = m
last_mode m (x ∷ xs) = last_mode (next_mode m x) xs

-- an item in front, and then what is read behind an expression, or behind an aggregate
abbrev pub item_front : Grammar → Grammar → Grammar
item_front e a = choice k.Count (counted_part ▸ a) (Either Fold (folded_part ▸ a) (Named rules.Expr ▸ e))

abbrev pub behind_item : Grammar → Grammar → SelectItem → Grammar
behind_item e a (items.Expression x) = e
behind_item e a (items.Aggregate x) = a

item_reads : (e a : Grammar) (x : SelectItem) {ps : Parts} {r : List Kind} → Reads rule 32 (Part 0 (item_part x) (Part 0 (behind_item e a x) ps)) r → Reads rule 32 (Part 0 (item_front e a) ps) r
item_reads e a (items.Expression x) d = that (that (both d))
item_reads e a (items.Aggregate aggregates.Rows) (both (token p d)) = this p (both d)
item_reads e a (items.Aggregate (aggregates.Count x)) (both (token p d)) = this p (both d)
item_reads e a (items.Aggregate (aggregates.Sum x)) (both (token p d)) = that (this p (both d))
item_reads e a (items.Aggregate (aggregates.Least x)) (both (token p d)) = that (this p (both d))
item_reads e a (items.Aggregate (aggregates.Greatest x)) (both (token p d)) = that (this p (both d))

abbrev pub In : Mode → Parts → Parts
In m ps = Part 0 (Named (mode_rule m)) ps

abbrev pub Selecting : Parts → Parts
Selecting ps = Part 0 select ps

first_reads : (x : SelectItem) → Turns (λ ps. Part 0 (item_part x) (In (first_mode x) ps)) Selecting
first_reads (items.Expression e) ps r d = that (item_reads (Named rules.Exprs) (Named rules.Aggs) (items.Expression e) d)
first_reads (items.Aggregate a) ps r d = that (item_reads (Named rules.Exprs) (Named rules.Aggs) (items.Aggregate a) d)

next_reads : (m : Mode) (x : SelectItem) → Adds k.Comma (λ ps. Part 0 (item_part x) (In (next_mode m x) ps)) (In m)
next_reads Exprs (items.Expression e) ps r d = named (this refl (item_reads (Named rules.Exprs) (Named rules.Mixed) (items.Expression e) d))
next_reads Exprs (items.Aggregate a) ps r d = named (this refl (item_reads (Named rules.Exprs) (Named rules.Mixed) (items.Aggregate a) d))
next_reads Aggs (items.Expression e) ps r d = named (this refl (item_reads (Named rules.Mixed) (Named rules.Aggs) (items.Expression e) d))
next_reads Aggs (items.Aggregate a) ps r d = named (this refl (item_reads (Named rules.Mixed) (Named rules.Aggs) (items.Aggregate a) d))
next_reads Mixed (items.Expression e) ps r d = named (this refl (item_reads (Named rules.Mixed) (Named rules.Mixed) (items.Expression e) d))
next_reads Mixed (items.Aggregate a) ps r d = named (this refl (item_reads (Named rules.Mixed) (Named rules.Mixed) (items.Aggregate a) d))

comma_stops : (us : List Word) → Stops (codes "," ∷ us)
comma_stops us = stops_word k.Comma (codes ",") us comma_word refl refl refl

more_stops : (xs : List SelectItem) (us : List Word) → Stops us → Stops (more item_words xs ++ us)
more_stops [] us s = s
more_stops (x ∷ xs) us s = comma_stops _

abbrev ItemLeads : Mode → List SelectItem → List Word → List Word → Type 0
ItemLeads m xs ws us = LeadsTo (List SelectItem) SelectItem at_comma with_last item_of as_list (In m) Selecting xs ws us

items_go : (ws us : List Word) → Stops us → (m : Mode) (done xs : List SelectItem) → AllGood IsItem xs → ItemLeads m done ws (more item_words xs ++ us) → ItemLeads (last_mode m xs) (done ++ xs) ws us
items_go ws us s m done [] h a = subst (λ (ys : List SelectItem). ItemLeads m ys ws us) (sym (append-nil done)) a
items_go ws us s m done (x ∷ xs) (g, h) a =
    let n : Mode = next_mode m x in
    let rest : List Word = more item_words xs ++ us in
    let one : PutTo item_of (In n) (λ ps. Part 0 (item_part x) (In n ps)) x ((item_words x ++ more item_words xs) ++ us) rest =
    to_words item_of (In n) (λ ps. Part 0 (item_part x) (In n ps)) x (item_words x ++ rest) ((item_words x ++ more item_words xs) ++ us) rest (sym (append_assoc (item_words x) (more item_words xs) us))
    (to_put item_of 0 (item_part x) (In n) (In n) (λ ps. Part 0 (item_part x) (In n ps)) x (item_words x ++ rest) rest (λ ps r d. d) (λ ps r d. d) (put_item x g rest (more_stops xs us s))) in
    let longer : ItemLeads n (done ++ x ∷ []) ws rest =
    to_more (List SelectItem) SelectItem at_comma with_last item_of as_list item_shrinks refl (In n) (In m) (λ ps. Part 0 (item_part x) (In n ps)) Selecting k.Comma (codes ",") x done (done ++ x ∷ []) ws ((item_words x ++ more item_words xs) ++ us) rest comma_word (next_reads m x) (λ i j. refl) refl a one in
    subst (λ (ys : List SelectItem). ItemLeads (last_mode n xs) ys ws us) (append_assoc done (x ∷ []) xs) (items_go ws us s n (done ++ x ∷ []) xs h longer)

put_items : (x : SelectItem) (xs : List SelectItem) → IsItem x → AllGood IsItem xs → (us : List Word) → Stops us → Never k.Comma us → PutTo items_of (In (last_mode (first_mode x) xs)) Selecting (x ∷ xs) (listed item_words (x ∷ xs) ++ us) us
put_items x xs g h us s v =
    let rest : List Word = more item_words xs ++ us in
    let m : Mode = first_mode x in
    let begun : ItemLeads m (x ∷ []) (item_words x ++ rest) rest =
    to_first (List SelectItem) SelectItem at_comma with_last item_of as_list item_shrinks refl (In m) Selecting x (x ∷ []) (item_words x ++ rest) rest (λ ls. refl)
    (to_put item_of 0 (item_part x) (In m) (In m) Selecting x (item_words x ++ rest) rest (λ ps r d. d) (first_reads x) (put_item x g rest (more_stops xs us s))) in
    to_words items_of (In (last_mode m xs)) Selecting (x ∷ xs) (item_words x ++ rest) (listed item_words (x ∷ xs) ++ us) us (sym (append_assoc (item_words x) (more item_words xs) us))
    (to_end (List SelectItem) SelectItem at_comma with_last item_of as_list item_shrinks refl (In (last_mode m xs)) Selecting (x ∷ xs) (item_words x ++ rest) us v (items_go (item_words x ++ rest) us s m (x ∷ []) xs h begun))

-- a list begins with no `*`
item_never : (x : SelectItem) → IsItem x → (us : List Word) → Never k.Star (item_words x ++ us)
item_never (items.Expression e) h us = expression_never k.Star star_starts_none e h us
item_never (items.Aggregate aggregates.Rows) h us = never_word k.Star k.Count (codes "COUNT") _ count_word refl
item_never (items.Aggregate (aggregates.Count e)) h us = never_word k.Star k.Count (codes "COUNT") _ count_word refl
item_never (items.Aggregate (aggregates.Sum e)) h us = never_word k.Star k.Sum (codes "SUM") _ sum_word refl
item_never (items.Aggregate (aggregates.Least e)) h us = never_word k.Star k.Min (codes "MIN") _ min_word refl
item_never (items.Aggregate (aggregates.Greatest e)) h us = never_word k.Star k.Max (codes "MAX") _ max_word refl

items_never : (x : SelectItem) (xs : List SelectItem) → IsItem x → (us : List Word) → Never k.Star (listed item_words (x ∷ xs) ++ us)
items_never x xs h us = subst (λ (ws : List Word). Never k.Star ws) (sym (append_assoc (item_words x) (more item_words xs) us)) (item_never x h (more item_words xs ++ us))

items_first : (ls : List Lexeme) → begins k.Star ls ≡ false → selected_of ls ≡ as_select_list (items_of ls)
unfolding selected_of
items_first ls h = rw h refl

pub put_listed : (x : SelectItem) (xs : List SelectItem) → IsItem x → AllGood IsItem xs → (us : List Word) → Stops us → Never k.Comma us → PutTo selected_of (In (last_mode (first_mode x) xs)) Selecting (list_of (x ∷ xs)) (listed item_words (x ∷ xs) ++ us) us
put_listed x xs g h us s v =
    let ws : List Word = listed item_words (x ∷ xs) ++ us in
    to_as selected_of (λ ls. as_select_list (items_of ls)) (In (last_mode (first_mode x) xs)) Selecting Selecting (list_of (x ∷ xs)) ws us (λ ps r d. d) (λ i. items_first (tokens i ws) (items_never x xs g us i))
    (to_map items_of (λ y. as_select_list y) (In (last_mode (first_mode x) xs)) Selecting (x ∷ xs) (list_of (x ∷ xs)) ws us (λ ls. refl) (put_items x xs g h us s v))

-- a select list such as a query can have
abbrev pub IsSelected : SelectList → Type 0
IsSelected lists.Everything = Unit {0}
IsSelected (lists.Expressions es) = SomeGood IsSum es
IsSelected (lists.Aggregates aggs) = SomeGood IsAggregate aggs
IsSelected (lists.Mixed xs) = SomeGood IsItem xs × (list_all is_expression xs ≡ false) × (list_all is_aggregate xs ≡ false)
