-- What is read off the tokens of bytes without a bad one: queries and writes.
use Rattle.std.proofs.Common.{◌≡◌, ℕ, zero, suc, ◌≤◌, Bool, true, false, cond, List, [], ◌∷◌, ◌++◌, length, drop, refl, sym, ◌∙◌, subst, arith, length-drop, append_assoc, append-nil}
use Rattle.std.proofs.lemmas.Bool.Decides.{nat_tests}
use Rattle.std.specs.List.{list_all, filter_map}
use Rattle.sql_print.specs.sql_query.specs.declared.query.Aggregate.TheVariants as aggregates
use Rattle.sql_print.specs.sql_query.specs.declared.query.FromTable.{FromTable}
use Rattle.sql_print.specs.sql_query.specs.declared.query.OrderItem.{OrderItem}
use Rattle.sql_print.specs.sql_query.specs.declared.query.SelectItem.{SelectItem}
use Rattle.sql_print.specs.sql_query.specs.declared.query.SelectItem.TheVariants as items
use Rattle.sql_print.specs.sql_query.specs.declared.query.SelectList.{SelectList}
use Rattle.sql_print.specs.sql_query.specs.declared.query.SelectList.TheVariants as lists
use Rattle.sql_print.specs.sql_query.specs.declared.write.Assignment.{Assignment}
use Rattle.sql_print.specs.sql_query.specs.Items.{aggregate_in, expression_in}
use Rattle.sql_print.specs.sql_query.specs.Trees.{ExpressionTree}
use Rattle.sql_print.specs.sql_tokens.specs.declared.kind.Kind.{Kind}
use Rattle.sql_print.specs.sql_tokens.specs.declared.kind.Kind.TheVariants as k
use Rattle.sql_print.specs.sql_tokens.specs.Kinds.{is_kind}
use Rattle.sql_print.specs.sql_tokens.specs.Lexing.{Lexeme}
use Rattle.sql_print.specs.sql_grammar.specs.declared.rule.Rule.TheVariants as rules
use Rattle.sql_print.specs.sql_grammar.specs.declared.test.Test.TheVariants.{Direction, Fold, Name, Only}
use Rattle.sql_print.specs.sql_grammar.specs.Tests.{passes}
use Rattle.sql_print.specs.sql_grammar.specs.Grammar.{Grammar, Either, Empty, Named, Parts, Part}
use Rattle.sql_print.specs.sql_grammar.specs.Notation.{optional, repeated, the, ◌▸◌}
use Rattle.sql_print.specs.sql_grammar.specs.Queries.{after, colref, filtered as filter_part, grouped as grouped_part, groups as groups_part, ordered as order_part, select, source as source_part}
use Rattle.sql_print.specs.sql_grammar.specs.Writes.{assign as assign_part}
use Rattle.sql_print.specs.sql_phrases.specs.Reading.{at_comma, begins, chained, column_of, columns_of, first_kind, identifiers_of, name_of, with_last}
use Rattle.sql_print.specs.sql_phrases.specs.Expressions.{expression_of, expressions_of}
use Rattle.sql_print.specs.sql_phrases.specs.Conditions.{filter_of}
use Rattle.sql_print.specs.sql_phrases.specs.Queries.{as_item, as_select_list, count_of, folded, folded_by, groups_of, is_aggregate, is_expression, item_of, items_of, list_of, order_item_of, order_items_of, order_of, ordered, query_of, selected_of, source_of, sources_of}
use Rattle.sql_print.specs.sql_phrases.specs.Writes.{as_delete, as_insert, as_update, assignment_of, assignments_of, delete_of, insert_columns_of, insert_of, update_of, write_of}
use Rattle.sql_print.specs.sql_phrases.proofs.Shrinking.{assignment_shrinks, column_name_shrinks, item_shrinks, order_item_shrinks, source_shrinks}
use Rattle.print_laws.proofs.Expressions.{IsSum}
use Rattle.print_laws.proofs.Items.{Aggs, Exprs, IsAggregate, IsItem, IsSelected, Mixed, Mode, behind_item, first_mode, item_front, last_mode, mode_rule, next_mode}
use Rattle.print_laws.proofs.Lists.{AllGood, SomeGood}
use Rattle.print_laws.proofs.Names.{IsColumnName}
use Rattle.print_laws.proofs.Queries.{IsGrouped, IsOrder, IsQuery, IsSource, both_mode, rest_part, tail_part}
use Rattle.print_laws.proofs.Reading.{comma_is, identifier_good, name_got, names_got, some_more}
use Rattle.print_laws.proofs.State.{Got, State, at_empty, at_named, at_that, at_then, at_this, at_token, chain_got, got_if, only_passed, only_that, only_this}
use Rattle.print_laws.proofs.TreeReading.{column_got, expression_got, expressions_got, filter_got, got_as}
use Rattle.print_laws.proofs.Writes.{AreColumns, IsAssignment, IsDelete, IsInsert, IsUpdate, IsWrite}

tells_apart : (b : Bool) → b ≡ true → b ≡ false → ⊥
tells_apart b p q = absurd (cc)

-- an item was read, and then what is read behind it
record ItemGot (e a : Grammar) (ps : Parts) (x : SelectItem × List Lexeme) : Type 0 where
  good : IsItem x.0
  state : State (Part 0 (behind_item e a x.0) ps) x.1

item_as : {e a : Grammar} {ps : Parts} (x y : SelectItem × List Lexeme) → x ≡ y → ItemGot e a ps y → ItemGot e a ps x
item_as {e} {a} {ps} x y q g = subst (λ z. ItemGot e a ps z) (sym q) g

count_first : (us : List Lexeme) → begins k.Count us ≡ true → item_of us ≡ count_of (drop 1 us)
count_first us h = rw h refl

rows_first : (us : List Lexeme) → begins k.Star (drop 1 us) ≡ true → count_of us ≡ (items.Aggregate aggregates.Rows, drop 3 us)
rows_first us h = rw h refl

counted_first : (us : List Lexeme) → begins k.Star (drop 1 us) ≡ false → count_of us ≡ (items.Aggregate (aggregates.Count (expression_of (drop 1 us)).0), drop 1 (expression_of (drop 1 us)).1)
counted_first us h = rw h refl

fold_first : (us : List Lexeme) → begins k.Count us ≡ false → passes Fold (first_kind us) ≡ true → item_of us ≡ folded (first_kind us) (expression_of (drop 2 us))
fold_first us h p = rw (h, p) refl

plain_first : (us : List Lexeme) → begins k.Count us ≡ false → passes Fold (first_kind us) ≡ false → item_of us ≡ as_item (expression_of us)
plain_first us h p = rw (h, p) refl

fold_good : (w : Kind) (e : ExpressionTree) → IsSum e → IsAggregate (folded_by w e)
fold_good w e h = by (is_kind w k.Sum) (is_kind w k.Min)
  where
    by : (a b : Bool) → IsAggregate (cond a (aggregates.Sum e) (cond b (aggregates.Least e) (aggregates.Greatest e)))
    by true b = h
    by false true = h
    by false false = h

item_got : (e a : Grammar) (ps : Parts) (us : List Lexeme) → State (Part 0 (item_front e a) ps) us → ItemGot e a ps (item_of us)
item_got e a ps us s = by (begins k.Count us) (passes Fold (first_kind us)) (begins k.Star (drop 1 vs)) refl refl refl
  where
    vs : List Lexeme
    vs = drop 1 us

    by : (x y z : Bool) → begins k.Count us ≡ x → passes Fold (first_kind us) ≡ y → begins k.Star (drop 1 vs) ≡ z → ItemGot e a ps (item_of us)
    by true y true p q r =
        let s1 = at_then (at_token 0 vs (at_then (at_then (only_this 0 us refl p s)))) in
        item_as (item_of us) (items.Aggregate aggregates.Rows, drop 3 vs) (count_first us p ∙ rows_first vs r) (record { good = tt; state = at_token 2 vs (at_empty (only_this 1 vs refl r s1)) })
    by true y false p q r =
        let s1 = at_then (at_token 0 vs (at_then (at_then (only_this 0 us refl p s)))) in
        let x = expression_got 0 _ (drop 1 vs) (only_that (drop 1 vs) r s1) in
        item_as (item_of us) (items.Aggregate (aggregates.Count (expression_of (drop 1 vs)).0), drop 1 (expression_of (drop 1 vs)).1) (count_first us p ∙ counted_first vs r) (record { good = x.good; state = at_token 0 (expression_of (drop 1 vs)).1 x.state })
    by false true z p q r =
        let s1 = at_this 0 us refl q (only_that us p s) in
        let x = expression_got 0 _ (drop 2 us) (at_then (at_token 1 us (at_then (at_then s1)))) in
        item_as (item_of us) (folded (first_kind us) (expression_of (drop 2 us))) (fold_first us p q) (record { good = fold_good (first_kind us) (expression_of (drop 2 us)).0 x.good; state = at_token 0 (expression_of (drop 2 us)).1 x.state })
    by false false z p q r =
        let x = expression_got 0 _ us (at_then (at_that us q (only_that us p s))) in
        item_as (item_of us) (as_item (expression_of us)) (plain_first us p q) (record { good = x.good; state = x.state })

-- what stands behind a list
abbrev mode_tail : Mode → Grammar
mode_tail Exprs = after
mode_tail Aggs = after
mode_tail Mixed = grouped_part

record ItemsGot (ps : Parts) (m : Mode) (done : List SelectItem) (x : List SelectItem × List Lexeme) : Type 0 where
  xs : List SelectItem
  is : x.0 ≡ done ++ xs
  good : AllGood IsItem xs
  state : State (Part 0 (mode_tail (last_mode m xs)) ps) x.1

-- the rest of a list: a comma and an item, or what stands behind the list
abbrev front_of : Mode → Grammar
front_of Exprs = item_front (Named rules.Exprs) (Named rules.Mixed)
front_of Aggs = item_front (Named rules.Mixed) (Named rules.Aggs)
front_of Mixed = item_front (Named rules.Mixed) (Named rules.Mixed)

list_ends : (m : Mode) (ps : Parts) (us : List Lexeme) → begins k.Comma us ≡ false → State (Part 0 (Named (mode_rule m)) ps) us → State (Part 0 (mode_tail m) ps) us
list_ends Exprs ps us h s = at_named (only_that us h (at_named s))
list_ends Aggs ps us h s = at_named (only_that us h (at_named s))
list_ends Mixed ps us h s = only_that us h (at_named s)

list_next : (m : Mode) (ps : Parts) (us : List Lexeme) → begins k.Comma us ≡ true → State (Part 0 (Named (mode_rule m)) ps) us → State (Part 0 (front_of m) ps) (drop 1 us)
list_next Exprs ps us h s = only_this 0 us refl h (at_named s)
list_next Aggs ps us h s = only_this 0 us refl h (at_named s)
list_next Mixed ps us h s = only_this 0 us refl h (at_named s)

record NextGot (ps : Parts) (m : Mode) (x : SelectItem × List Lexeme) : Type 0 where
  good : IsItem x.0
  state : State (Part 0 (Named (mode_rule (next_mode m x.0))) ps) x.1

next_got : (m : Mode) (ps : Parts) (us : List Lexeme) → State (Part 0 (front_of m) ps) us → NextGot ps m (item_of us)
next_got Exprs ps us s = let g = item_got (Named rules.Exprs) (Named rules.Mixed) ps us s in record { good = g.good; state = by (item_of us).0 g.state }
  where
    by : (x : SelectItem) → State (Part 0 (behind_item (Named rules.Exprs) (Named rules.Mixed) x) ps) (item_of us).1 → State (Part 0 (Named (mode_rule (next_mode Exprs x))) ps) (item_of us).1
    by (items.Expression e) t = t
    by (items.Aggregate a) t = t
next_got Aggs ps us s = let g = item_got (Named rules.Mixed) (Named rules.Aggs) ps us s in record { good = g.good; state = by (item_of us).0 g.state }
  where
    by : (x : SelectItem) → State (Part 0 (behind_item (Named rules.Mixed) (Named rules.Aggs) x) ps) (item_of us).1 → State (Part 0 (Named (mode_rule (next_mode Aggs x))) ps) (item_of us).1
    by (items.Expression e) t = t
    by (items.Aggregate a) t = t
next_got Mixed ps us s = let g = item_got (Named rules.Mixed) (Named rules.Mixed) ps us s in record { good = g.good; state = by (item_of us).0 g.state }
  where
    by : (x : SelectItem) → State (Part 0 (behind_item (Named rules.Mixed) (Named rules.Mixed) x) ps) (item_of us).1 → State (Part 0 (Named (mode_rule (next_mode Mixed x))) ps) (item_of us).1
    by (items.Expression e) t = t
    by (items.Aggregate a) t = t

list_stops : (n : ℕ) (done : List SelectItem) (us : List Lexeme) → begins k.Comma us ≡ false → chained at_comma with_last item_of n (done, us) ≡ (done, us)
list_stops zero done us h = refl
list_stops (suc n) done us h = rw h refl

list_goes : (n : ℕ) (done : List SelectItem) (us : List Lexeme) → begins k.Comma us ≡ true → chained at_comma with_last item_of (suc n) (done, us) ≡ chained at_comma with_last item_of n (done ++ (item_of (drop 1 us)).0 ∷ [], (item_of (drop 1 us)).1)
list_goes n done us h = rw h refl

no_comma : (us : List Lexeme) → length us ≤ 0 → begins k.Comma us ≡ false
no_comma [] l = refl
no_comma (x ∷ us) l = absurd (omega arith)

items_got : (n : ℕ) (m : Mode) (ps : Parts) (done : List SelectItem) (us : List Lexeme) → length us ≤ n → State (Part 0 (Named (mode_rule m)) ps) us → ItemsGot ps m done (chained at_comma with_last item_of n (done, us))
items_got zero m ps done us l s = record { xs = []; is = sym (append-nil done); good = tt; state = list_ends m ps us (no_comma us l) s }
items_got (suc n) m ps done us l s = by (begins k.Comma us) refl (λ d vs e t. items_got n (next_mode m (item_of (drop 1 us)).0) ps d vs e t)
  where
    by : (b : Bool) → begins k.Comma us ≡ b
        → ((d : List SelectItem) (vs : List Lexeme) → length vs ≤ n → State (Part 0 (Named (mode_rule (next_mode m (item_of (drop 1 us)).0))) ps) vs → ItemsGot ps (next_mode m (item_of (drop 1 us)).0) d (chained at_comma with_last item_of n (d, vs)))
        → ItemsGot ps m done (chained at_comma with_last item_of (suc n) (done, us))
    by false h next = subst (λ z. ItemsGot ps m done z) (sym (list_stops (suc n) done us h)) (record { xs = []; is = sym (append-nil done); good = tt; state = list_ends m ps us h s })
    by true h next =
        let g = next_got m ps (drop 1 us) (list_next m ps us h s) in
        let x : SelectItem = (item_of (drop 1 us)).0 in
        let rest : List Lexeme = (item_of (drop 1 us)).1 in
        let k1 = item_shrinks (drop 1 us) in
        let enough : length rest ≤ n = omega (arith, length-drop 1 us, k1, l, some us h) in
        let r = next (done ++ x ∷ []) rest enough g.state in
        subst (λ z. ItemsGot ps m done z) (sym (list_goes n done us h)) (record { xs = x ∷ r.xs; is = r.is ∙ append_assoc done (x ∷ []) r.xs; good = (g.good, r.good); state = r.state })
      where
        some : (vs : List Lexeme) → begins k.Comma vs ≡ true → suc (length (drop 1 vs)) ≤ length vs
        some [] e = absurd (tells_apart (begins k.Comma []) e refl)
        some (v ∷ vs) e = omega arith

-- lists of one kind
expressions_mode : (xs : List SelectItem) → list_all is_expression xs ≡ true → last_mode Exprs xs ≡ Exprs
expressions_mode [] h = refl
expressions_mode (items.Expression e ∷ xs) h = expressions_mode xs h
expressions_mode (items.Aggregate a ∷ xs) h = absurd (cc)

aggregates_mode : (xs : List SelectItem) → list_all is_aggregate xs ≡ true → last_mode Aggs xs ≡ Aggs
aggregates_mode [] h = refl
aggregates_mode (items.Aggregate a ∷ xs) h = aggregates_mode xs h
aggregates_mode (items.Expression e ∷ xs) h = absurd (cc)

expressions_good : (xs : List SelectItem) → AllGood IsItem xs → AllGood IsSum (filter_map expression_in xs)
expressions_good [] h = tt
expressions_good (items.Expression e ∷ xs) (h, t) = (h, expressions_good xs t)
expressions_good (items.Aggregate a ∷ xs) (h, t) = expressions_good xs t

aggregates_good : (xs : List SelectItem) → AllGood IsItem xs → AllGood IsAggregate (filter_map aggregate_in xs)
aggregates_good [] h = tt
aggregates_good (items.Aggregate a ∷ xs) (h, t) = (h, aggregates_good xs t)
aggregates_good (items.Expression e ∷ xs) (h, t) = aggregates_good xs t

-- a select list was read, and then what stands behind it
record SelectedGot (ps : Parts) (l : SelectList) (us : List Lexeme) : Type 0 where
  good : IsSelected l
  state : State (Part 0 (tail_part l) ps) us

listed_got : (ps : Parts) (x : SelectItem) (xs : List SelectItem) (us : List Lexeme) → IsItem x → AllGood IsItem xs → State (Part 0 (mode_tail (last_mode (first_mode x) xs)) ps) us → SelectedGot ps (list_of (x ∷ xs)) us
listed_got ps x xs us h t s = by x (list_all is_expression (x ∷ xs)) (list_all is_aggregate (x ∷ xs)) refl refl h s
  where
    by : (y : SelectItem) (a b : Bool) → list_all is_expression (y ∷ xs) ≡ a → list_all is_aggregate (y ∷ xs) ≡ b → IsItem y → State (Part 0 (mode_tail (last_mode (first_mode y) xs)) ps) us
        → SelectedGot ps (cond a (lists.Expressions (filter_map expression_in (y ∷ xs))) (cond b (lists.Aggregates (filter_map aggregate_in (y ∷ xs))) (lists.Mixed (y ∷ xs)))) us
    by (items.Expression e) true b p q g z = record { good = (g, expressions_good xs t); state = subst (λ m. State (Part 0 (mode_tail m) ps) us) (expressions_mode xs p) z }
    by (items.Aggregate a) true b p q g z = absurd (cc)
    by (items.Aggregate a) false true p q g z = record { good = (g, aggregates_good xs t); state = subst (λ m. State (Part 0 (mode_tail m) ps) us) (aggregates_mode xs q) z }
    by (items.Expression e) false true p q g z = absurd (cc)
    by y false false p q g z = record { good = ((g, t), p, q); state = subst (λ m. State (Part 0 (mode_tail m) ps) us) (both_mode y xs p q) z }

everything_first : (us : List Lexeme) → begins k.Star us ≡ true → selected_of us ≡ (lists.Everything, drop 1 us)
unfolding selected_of
everything_first us h = rw h refl

items_first : (us : List Lexeme) → begins k.Star us ≡ false → selected_of us ≡ as_select_list (items_of us)
unfolding selected_of
items_first us h = rw h refl

selected_got : (ps : Parts) (us : List Lexeme) → State (Part 0 select ps) us → SelectedGot ps (selected_of us).0 (selected_of us).1
selected_got ps us s = by (begins k.Star us) refl
  where
    list_got : State (Part 0 (item_front (Named rules.Exprs) (Named rules.Aggs)) ps) us → SelectedGot ps (as_select_list (items_of us)).0 (as_select_list (items_of us)).1
    list_got z =
        let g = item_got (Named rules.Exprs) (Named rules.Aggs) ps us z in
        let x : SelectItem = (item_of us).0 in
        let r = items_got (length us) (first_mode x) ps (x ∷ []) (item_of us).1 (item_shrinks us) (first x g.state) in
        subst (λ (ys : List SelectItem). SelectedGot ps (list_of ys) (items_of us).1) (sym r.is) (listed_got ps x r.xs (items_of us).1 g.good r.good r.state)
      where
        first : (y : SelectItem) → State (Part 0 (behind_item (Named rules.Exprs) (Named rules.Aggs) y) ps) (item_of us).1 → State (Part 0 (Named (mode_rule (first_mode y))) ps) (item_of us).1
        first (items.Expression e) t = t
        first (items.Aggregate a) t = t

    by : (b : Bool) → begins k.Star us ≡ b → SelectedGot ps (selected_of us).0 (selected_of us).1
    by true h = subst (λ (y : SelectList × List Lexeme). SelectedGot ps y.0 y.1) (sym (everything_first us h)) (record { good = tt; state = at_named (only_this 0 us refl h s) })
    by false h = subst (λ (y : SelectList × List Lexeme). SelectedGot ps y.0 y.1) (sym (items_first us h)) (list_got (only_that us h s))

-- FROM
source_got : (ps : Parts) (us : List Lexeme) → State (Part 0 source_part ps) us → Got IsSource ps (source_of us)
source_got ps us s =
    let n = name_got 0 _ us (at_then s) in
    let r : List Lexeme = (name_of us).1 in
    got_if (passes Name (first_kind r)) _ _ (λ h. record { good = record { table = n.good; alias = identifier_good r n.state.fit }; state = at_empty (at_this 0 r refl h n.state) }) (λ h. record { good = record { table = n.good; alias = tt }; state = at_empty (at_that r h n.state) })

sources_got : (ps : Parts) (us : List Lexeme) → State (Part 0 (source_part ▸ repeated k.Comma source_part ▸ filter_part) ps) us → Got (SomeGood IsSource) (Part 0 filter_part ps) (sources_of us)
sources_got ps us s =
    let f = source_got _ us (at_then s) in
    chain_got (List FromTable) FromTable at_comma with_last source_of 0 (Only k.Comma) source_part (Part 0 filter_part ps) (SomeGood IsSource) IsSource refl comma_is source_shrinks (λ w xs x g t. some_more IsSource xs x g t) (λ vs t. source_got _ vs t) (length us) ((source_of us).0 ∷ []) (source_of us).1 (source_shrinks us)
    (f.good, tt) (at_then f.state)

-- GROUP BY
colref_got : (ps : Parts) (us : List Lexeme) → State (Part 0 colref ps) us → Got IsColumnName ps (column_of us)
colref_got ps us s = column_got 0 ps us s.fit (at_token 0 us (at_then s))

columns_got : (ps : Parts) (us : List Lexeme) → State (Part 0 (colref ▸ repeated k.Comma colref) ps) us → Got (SomeGood IsColumnName) ps (columns_of us)
columns_got ps us s =
    let f = colref_got _ us (at_then s) in
    chain_got (List (List ℕ)) (List ℕ) at_comma with_last column_of 0 (Only k.Comma) colref ps (SomeGood IsColumnName) IsColumnName refl comma_is column_name_shrinks (λ w xs x g t. some_more IsColumnName xs x g t) (λ vs t. colref_got _ vs t) (length us) ((column_of us).0 ∷ []) (column_of us).1 (column_name_shrinks us) (f.good, tt) f.state

some_all : (ns : List (List ℕ)) → SomeGood IsColumnName ns → AllGood IsColumnName ns
some_all [] h = absurd h
some_all (n ∷ ns) h = h

some_grouped : (l : SelectList) (ns : List (List ℕ)) → SomeGood IsColumnName ns → IsGrouped l ns
some_grouped l [] h = absurd h
some_grouped lists.Everything (n ∷ ns) h = tt
some_grouped (lists.Expressions es) (n ∷ ns) h = tt
some_grouped (lists.Aggregates aggs) (n ∷ ns) h = tt
some_grouped (lists.Mixed xs) (n ∷ ns) h = tt

abbrev Grouping : SelectList → List (List ℕ) → Type 0
Grouping l ns = AllGood IsColumnName ns × IsGrouped l ns

some_groups : (l : SelectList) (ps : Parts) (us : List Lexeme) → State (Part 0 groups_part ps) (drop 1 us) → Got (Grouping l) ps (columns_of (drop 2 us))
some_groups l ps us s = let c = columns_got ps (drop 2 us) (at_token 1 us (at_then s)) in record { good = (some_all (columns_of (drop 2 us)).0 c.good, some_grouped l (columns_of (drop 2 us)).0 c.good); state = c.state }

may_group : (l : SelectList) → IsGrouped l [] → (ps : Parts) (us : List Lexeme) → State (Part 0 (optional k.Group groups_part ▸ order_part) ps) us → Got (Grouping l) (Part 0 order_part ps) (groups_of us)
unfolding groups_of
may_group l e ps us s =
    let s1 = at_then s in
    got_if (begins k.Group us) _ _ (λ h. some_groups l _ us (only_this 0 us refl h s1)) (λ h. record { good = (tt, e); state = at_empty (only_that us h s1) })

group_first : (us : List Lexeme) → begins k.Group us ≡ true → groups_of us ≡ columns_of (drop 2 us)
unfolding groups_of
group_first us h = rw h refl

must_group : (l : SelectList) (ps : Parts) (us : List Lexeme) → State (Part 0 (the k.Group ▸ groups_part ▸ order_part) ps) us → Got (Grouping l) (Part 0 order_part ps) (groups_of us)
must_group l ps us s = let s1 = at_then s in got_as (groups_of us) (columns_of (drop 2 us)) (group_first us (only_passed s1)) (some_groups l _ us (at_then (at_token 0 us s1)))

groups_got : (l : SelectList) (ps : Parts) (us : List Lexeme) → State (Part 0 (rest_part l) ps) us → Got (Grouping l) (Part 0 order_part ps) (groups_of us)
groups_got lists.Everything ps us s = may_group lists.Everything tt ps us s
groups_got (lists.Expressions es) ps us s = may_group (lists.Expressions es) tt ps us s
groups_got (lists.Aggregates aggs) ps us s = may_group (lists.Aggregates aggs) tt ps us s
groups_got (lists.Mixed xs) ps us s = must_group (lists.Mixed xs) ps us s

-- ORDER BY
abbrev direction_part : Grammar
direction_part = Either Direction Empty Empty

asc_passes : (us : List Lexeme) → begins k.Asc us ≡ true → passes Direction (first_kind us) ≡ true
asc_passes us h = grind (arith, nat_tests)

desc_passes : (us : List Lexeme) → begins k.Desc us ≡ true → passes Direction (first_kind us) ≡ true
desc_passes us h = grind (arith, nat_tests)

no_direction : (us : List Lexeme) → begins k.Asc us ≡ false → begins k.Desc us ≡ false → passes Direction (first_kind us) ≡ false
no_direction us a b = by (passes Direction (first_kind us)) refl
  where
    none : passes Direction (first_kind us) ≡ true → ⊥
    none h = absurd (grind (arith, nat_tests))

    by : (x : Bool) → passes Direction (first_kind us) ≡ x → x ≡ false
    by true h = absurd (none h)
    by false h = refl

ordered_got : (ps : Parts) (n : List ℕ) (us : List Lexeme) → IsColumnName n → State (Part 0 direction_part ps) us → Got IsOrder ps (ordered (n, us))
ordered_got ps n us g s =
    got_if (begins k.Asc us) _ _ (λ h. record { good = record { column = g }; state = at_empty (at_this 0 us refl (asc_passes us h) s) })
    (λ h. got_if (begins k.Desc us) _ _ (λ i. record { good = record { column = g }; state = at_empty (at_this 0 us refl (desc_passes us i) s) }) (λ i. record { good = record { column = g }; state = at_empty (at_that us (no_direction us h i) s) }))

order_item_got : (ps : Parts) (us : List Lexeme) → State (Part 0 (colref ▸ direction_part) ps) us → Got IsOrder ps (order_item_of us)
order_item_got ps us s = let c = colref_got _ us (at_then s) in ordered_got ps (column_of us).0 (column_of us).1 c.good c.state

order_items_got : (ps : Parts) (us : List Lexeme) → State (Part 0 (colref ▸ direction_part ▸ repeated k.Comma (colref ▸ direction_part)) ps) us → Got (SomeGood IsOrder) ps (order_items_of us)
order_items_got ps us s =
    let c = colref_got _ us (at_then s) in
    let f = ordered_got _ (column_of us).0 (column_of us).1 c.good (at_then c.state) in
    chain_got (List OrderItem) OrderItem at_comma with_last order_item_of 0 (Only k.Comma) (colref ▸ direction_part) ps (SomeGood IsOrder) IsOrder refl comma_is order_item_shrinks (λ w xs x g t. some_more IsOrder xs x g t) (λ vs t. order_item_got _ vs t) (length us) ((order_item_of us).0 ∷ []) (order_item_of us).1 (order_item_shrinks us)
    (f.good, tt) f.state

some_orders : (xs : List OrderItem) → SomeGood IsOrder xs → AllGood IsOrder xs
some_orders [] h = absurd h
some_orders (x ∷ xs) h = h

order_got : (ps : Parts) (us : List Lexeme) → State (Part 0 order_part ps) us → Got (AllGood IsOrder) ps (order_of us)
unfolding order_of
order_got ps us s =
    got_if (begins k.Order us) _ _ (λ h. let x = order_items_got ps (drop 2 us) (at_token 1 us (at_then (only_this 0 us refl h s))) in record { good = some_orders (order_items_of (drop 2 us)).0 x.good; state = x.state }) (λ h. record { good = tt; state = at_empty (only_that us h s) })

-- a query is read
pub query_got : (ps : Parts) (us : List Lexeme) → State (Part 0 select ps) us → Got IsQuery ps (query_of us)
unfolding query_of
query_got ps us s =
    let l = selected_got ps us s in
    let r : List Lexeme = (selected_of us).1 in
    let t = sources_got _ (drop 1 r) (at_token 0 r (at_then (at_then l.state))) in
    let f = filter_got _ (sources_of (drop 1 r)).1 t.state in
    let g = groups_got (selected_of us).0 ps (filter_of (sources_of (drop 1 r)).1).1 f.state in
    let o = order_got ps (groups_of (filter_of (sources_of (drop 1 r)).1).1).1 g.state in
    record { good = record { selected = l.good; tables = t.good; filter = f.good; groups = g.good.0; grouped = g.good.1; order = o.good }; state = o.state }

-- writes
insert_columns_got : (ps : Parts) (us : List Lexeme) → State (Part 0 (optional k.OpenParen (Named rules.Idents ▸ the k.CloseParen)) ps) us → Got AreColumns ps (insert_columns_of us)
insert_columns_got ps us s =
    got_if (begins k.OpenParen us) _ _ (λ h. let n = names_got 0 _ (drop 1 us) (at_then (only_this 0 us refl h s)) in record { good = n.good; state = at_token 0 (identifiers_of (drop 1 us)).1 n.state }) (λ h. record { good = tt; state = at_empty (only_that us h s) })

insert_got : (ps : Parts) (us : List Lexeme) → State (Part 0 (Named rules.Insert) ps) us → Got IsInsert ps (insert_of us)
unfolding insert_of
insert_got ps us s =
    let n = name_got 0 _ (drop 1 us) (at_then (at_token 0 us (at_then (at_named s)))) in
    let r : List Lexeme = (name_of (drop 1 us)).1 in
    let c = insert_columns_got _ r (at_then n.state) in
    let t : List Lexeme = (insert_columns_of r).1 in
    let v = expressions_got 0 _ (drop 2 t) (at_then (at_token 1 t (at_then (at_token 0 t (at_then c.state))))) in
    record { good = record { table = n.good; columns = c.good; values = v.good }; state = at_token 0 (expressions_of (drop 2 t)).1 v.state }

assignment_got : (ps : Parts) (us : List Lexeme) → State (Part 0 assign_part ps) us → Got IsAssignment ps (assignment_of us)
assignment_got ps us s =
    let x = expression_got 0 ps (drop 2 us) (at_token 1 us (at_then (at_token 0 us (at_then s)))) in
    record { good = record { column = identifier_good us s.fit; value = x.good }; state = x.state }

update_got : (ps : Parts) (us : List Lexeme) → State (Part 0 (Named rules.Update) ps) us → Got IsUpdate ps (update_of us)
unfolding update_of
update_got ps us s =
    let n = name_got 0 _ us (at_then (at_named s)) in
    let r : List Lexeme = drop 1 (name_of us).1 in
    let f = assignment_got _ r (at_then (at_token 0 (name_of us).1 (at_then n.state))) in
    let c =
    chain_got (List Assignment) Assignment at_comma with_last assignment_of 0 (Only k.Comma) assign_part (Part 0 filter_part ps) (SomeGood IsAssignment) IsAssignment refl comma_is assignment_shrinks (λ w xs x g t. some_more IsAssignment xs x g t) (λ vs t. assignment_got _ vs t) (length r) ((assignment_of r).0 ∷ []) (assignment_of r).1
    (assignment_shrinks r) (f.good, tt) (at_then f.state) in
    let x = filter_got ps (assignments_of r).1 c.state in
    record { good = record { table = n.good; assignments = c.good; filter = x.good }; state = x.state }

delete_got : (ps : Parts) (us : List Lexeme) → State (Part 0 (Named rules.Delete) ps) us → Got IsDelete ps (delete_of us)
unfolding delete_of
delete_got ps us s =
    let n = name_got 0 _ (drop 1 us) (at_then (at_token 0 us (at_then (at_named s)))) in
    let x = filter_got ps (name_of (drop 1 us)).1 n.state in
    record { good = record { table = n.good; filter = x.good }; state = x.state }

-- a write is read, by its first token
pub insert_first : (ps : Parts) (us : List Lexeme) → begins k.Insert us ≡ true → State (Part 0 (Named rules.Insert) ps) (drop 1 us) → Got IsWrite ps (write_of us)
unfolding write_of
insert_first ps us h s = let x = insert_got ps (drop 1 us) s in got_as (write_of us) (as_insert (insert_of (drop 1 us))) (is us h) (record { good = x.good; state = x.state })
  where
    is : (vs : List Lexeme) → begins k.Insert vs ≡ true → write_of vs ≡ as_insert (insert_of (drop 1 vs))
    is vs e = rw e refl

pub update_first : (ps : Parts) (us : List Lexeme) → begins k.Insert us ≡ false → begins k.Update us ≡ true → State (Part 0 (Named rules.Update) ps) (drop 1 us) → Got IsWrite ps (write_of us)
unfolding write_of
update_first ps us g h s = let x = update_got ps (drop 1 us) s in got_as (write_of us) (as_update (update_of (drop 1 us))) (is us g h) (record { good = x.good; state = x.state })
  where
    is : (vs : List Lexeme) → begins k.Insert vs ≡ false → begins k.Update vs ≡ true → write_of vs ≡ as_update (update_of (drop 1 vs))
    is vs d e = rw (d, e) refl

pub delete_first : (ps : Parts) (us : List Lexeme) → begins k.Insert us ≡ false → begins k.Update us ≡ false → State (Part 0 (Named rules.Delete) ps) (drop 1 us) → Got IsWrite ps (write_of us)
unfolding write_of
delete_first ps us g h s = let x = delete_got ps (drop 1 us) s in got_as (write_of us) (as_delete (delete_of (drop 1 us))) (is us g h) (record { good = x.good; state = x.state })
  where
    is : (vs : List Lexeme) → begins k.Insert vs ≡ false → begins k.Update vs ≡ false → write_of vs ≡ as_delete (delete_of (drop 1 vs))
    is vs d e = rw (d, e) refl
