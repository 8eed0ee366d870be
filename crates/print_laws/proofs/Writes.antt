-- Writes that are put are read back.
use Rattle.std.proofs.Common.{◌≡◌, ℕ, false, List, [], ◌∷◌, ◌++◌, drop, codes, Option, Some, None, refl, sym, ap, append_assoc}
use Rattle.sql_print.specs.sql_query.specs.declared.write.Assignment.{Assignment}
use Rattle.sql_print.specs.sql_query.specs.declared.write.Delete.{Delete}
use Rattle.sql_print.specs.sql_query.specs.declared.write.Insert.{Insert}
use Rattle.sql_print.specs.sql_query.specs.declared.write.Update.{Update}
use Rattle.sql_print.specs.sql_query.specs.declared.write.Write.{Write}
use Rattle.sql_print.specs.sql_query.specs.declared.write.Write.TheVariants as writes
use Rattle.sql_print.specs.sql_query.specs.Trees.{ConditionTree}
use Rattle.sql_print.specs.sql_tokens.specs.declared.kind.Kind.{Kind}
use Rattle.sql_print.specs.sql_tokens.specs.declared.kind.Kind.TheVariants as k
use Rattle.sql_print.specs.sql_tokens.specs.Kinds.{is_kind}
use Rattle.sql_print.specs.sql_tokens.specs.Words.{word_kind}
use Rattle.sql_print.specs.sql_tokens.specs.Lexing.{Lexeme}
use Rattle.sql_print.specs.sql_grammar.specs.declared.rule.Rule.TheVariants as rules
use Rattle.sql_print.specs.sql_grammar.specs.Grammar.{Grammar, Named, Part, token, both, this, that, empty, named, again, enough}
use Rattle.sql_print.specs.sql_grammar.specs.Notation.{optional, repeated, the, ◌▸◌}
use Rattle.sql_print.specs.sql_grammar.specs.Queries.{exprs, filtered as filter_part}
use Rattle.sql_print.specs.sql_grammar.specs.Writes.{assign as assign_part}
use Rattle.sql_print.specs.sql_phrases.specs.Reading.{identifiers_of, name_from, name_of}
use Rattle.sql_print.specs.sql_phrases.specs.Expressions.{expression_of, expressions_of}
use Rattle.sql_print.specs.sql_phrases.specs.Conditions.{filter_of}
use Rattle.sql_print.specs.sql_phrases.specs.Writes.{as_columns, as_delete, as_insert, as_update, assigned, assignment_of, assignments_of, delete_named, delete_of, deleted, insert_columned, insert_columns_of, insert_named, insert_of, inserted, update_named, update_of, update_set, updated, write_of}
use Rattle.sql_print.specs.sql_phrases.proofs.Shrinking.{assignment_shrinks}
use Rattle.sql_print.specs.sql_words.specs.Words.{Word, identifier_words, listed, name_words}
use Rattle.sql_print.specs.sql_words.specs.Trees.{expression_words, filter_words}
use Rattle.sql_print.specs.Queries.{assignment_words, insert_column_words, write_rest_words, write_words}
use Rattle.print_laws.proofs.Conditions.{Closes}
use Rattle.print_laws.proofs.Expressions.{IsSum, Stops, put_expression, put_expressions, stops_word}
use Rattle.print_laws.proofs.GroupTables.{IsFilter, put_filter}
use Rattle.print_laws.proofs.Keys.{AreNames, put_names}
use Rattle.print_laws.proofs.Keywords.{close_word, comma_word, delete_word, equals_word, from_word, insert_word, into_word, open_word, set_word, update_word, values_word, where_word}
use Rattle.print_laws.proofs.Lists.{SomeGood}
use Rattle.print_laws.proofs.Names.{IsIdentifier, IsName, identifier_lexes, name_is, put_name}
use Rattle.print_laws.proofs.Put.{Never, Put, never_word, put_both, put_last, put_map, put_none, put_word, put_words}
use Rattle.print_laws.proofs.Tails.{Around, PutTo, put_of, to_both, to_list, to_map, to_put}
use Rattle.print_laws.proofs.WordKinds.{identifier_word}

-- no write goes on with these words
pub record WriteEnds (us : List Word) : Type 0 where
  pub closes : Closes us
  pub filter : Never k.Where us
  pub dot : Never k.Dot us
  pub comma : Never k.Comma us

-- INSERT
abbrev pub AreColumns : Option (List (List ℕ)) → Type 0
AreColumns None = Unit {0}
AreColumns (Some names) = AreNames names

pub record IsInsert (x : Insert) : Type 0 where
  pub table : IsName x.table
  pub columns : AreColumns x.columns
  pub values : SomeGood IsSum x.values

abbrev columns_part : Grammar
columns_part = optional k.OpenParen (Named rules.Idents ▸ the k.CloseParen)

abbrev values_part : Grammar
values_part = the k.Values ▸ the k.OpenParen ▸ exprs ▸ the k.CloseParen

put_insert_columns : (o : Option (List (List ℕ))) → AreColumns o → (us : List Word) → Never k.OpenParen us → Put insert_columns_of 0 columns_part o (insert_column_words o ++ us) us
put_insert_columns None h us v = put_none insert_columns_of 0 columns_part None us (λ ps r d. that (empty d)) (λ i. rw (v i) refl)
put_insert_columns (Some names) h us v =
    let ws : List Word = codes ")" ∷ us in
    let g : Grammar = Named rules.Idents ▸ the k.CloseParen in
    put_words insert_columns_of 0 columns_part (Some names) (codes "(" ∷ (listed identifier_words names ++ ws)) (insert_column_words (Some names) ++ us) us (ap (λ (vs : List Word). codes "(" ∷ vs) (sym (append_assoc (listed identifier_words names) (codes ")" ∷ []) us)))
    (put_word insert_columns_of (λ ls. as_columns (identifiers_of ls)) 0 columns_part g (Some names) k.OpenParen (codes "(") (listed identifier_words names ++ ws) us open_word (λ ps r d. this refl d) (λ p ls. refl)
    (put_both identifiers_of (λ y. as_columns y) 0 (Named rules.Idents) (the k.CloseParen) g names (Some names) (listed identifier_words names ++ ws) ws us (λ ps r d. both d) (put_names 0 names h ws (never_word k.Comma k.CloseParen (codes ")") us close_word refl))
    (put_last (λ ls. as_columns (names, ls)) 0 (the k.CloseParen) (Some names) k.CloseParen (codes ")") us close_word (λ ps r d. token refl d) (λ p ls. refl))))

columns_never : (j : Kind) (o : Option (List (List ℕ))) (us : List Word) → is_kind k.OpenParen j ≡ false → Never j us → Never j (insert_column_words o ++ us)
columns_never j None us a v = v
columns_never j (Some names) us a v = never_word j k.OpenParen (codes "(") _ open_word a

insert_words_are : (a b c us : List Word) (w opening close : Word) → a ++ (b ++ w ∷ opening ∷ (c ++ close ∷ us)) ≡ ((a ++ b) ++ w ∷ opening ∷ (c ++ close ∷ [])) ++ us
insert_words_are a b c us w opening close = simp append_assoc

pub put_insert : (x : Insert) → IsInsert x → (us : List Word) → Put insert_of 0 (Named rules.Insert) x (codes "INTO" ∷ (write_rest_words (writes.Insert x) ++ us)) us
unfolding insert_of
put_insert x h us =
    let w5 : List Word = codes ")" ∷ us in
    let w4 : List Word = listed expression_words x.values ++ w5 in
    let w3 : List Word = codes "VALUES" ∷ codes "(" ∷ w4 in
    let w2 : List Word = insert_column_words x.columns ++ w3 in
    let g4 : Grammar = exprs ▸ the k.CloseParen in
    let g2 : Grammar = columns_part ▸ values_part in
    let g1 : Grammar = Named rules.Named ▸ g2 in
    let valued : Put (λ ls. insert_columned x.table (x.columns, ls)) 0 values_part x w3 us =
    put_word (λ ls. insert_columned x.table (x.columns, ls)) (λ ls. inserted x.table x.columns (expressions_of (drop 1 ls))) 0 values_part (the k.OpenParen ▸ g4) x k.Values (codes "VALUES") (codes "(" ∷ w4) us values_word (λ ps r d. both (token refl d)) (λ p ls. refl)
    (put_word (λ ls. inserted x.table x.columns (expressions_of (drop 1 ls))) (λ ls. inserted x.table x.columns (expressions_of ls)) 0 (the k.OpenParen ▸ g4) g4 x k.OpenParen (codes "(") w4 us open_word (λ ps r d. both (token refl d)) (λ p ls. refl)
    (put_both expressions_of (λ y. inserted x.table x.columns y) 0 exprs (the k.CloseParen) g4 x.values x w4 w5 us (λ ps r d. both d) (put_expressions 0 x.values h.values w5 (stops_word k.CloseParen (codes ")") us close_word refl refl refl) (never_word k.Comma k.CloseParen (codes ")") us close_word refl))
    (put_last (λ ls. inserted x.table x.columns (x.values, ls)) 0 (the k.CloseParen) x k.CloseParen (codes ")") us close_word (λ ps r d. token refl d) (λ p ls. refl)))) in
    let columned : Put (λ ls. insert_named (x.table, ls)) 0 g2 x w2 us =
    put_both insert_columns_of (λ y. insert_columned x.table y) 0 columns_part values_part g2 x.columns x w2 w3 us (λ ps r d. both d) (put_insert_columns x.columns h.columns w3 (never_word k.OpenParen k.Values (codes "VALUES") (codes "(" ∷ w4) values_word refl)) valued in
    put_words insert_of 0 (Named rules.Insert) x (codes "INTO" ∷ (name_words x.table ++ w2)) (codes "INTO" ∷ (write_rest_words (writes.Insert x) ++ us)) us (ap (λ (ws : List Word). codes "INTO" ∷ ws) (insert_words_are (name_words x.table) (insert_column_words x.columns) (listed expression_words x.values) us (codes "VALUES") (codes "(") (codes ")")))
    (put_word insert_of (λ ls. insert_named (name_of ls)) 0 (Named rules.Insert) g1 x k.Into (codes "INTO") (name_words x.table ++ w2) us into_word (λ ps r d. named (both (token refl d))) (λ p ls. refl)
    (put_both name_of (λ y. insert_named y) 0 (Named rules.Named) g2 g1 x.table x (name_words x.table ++ w2) w2 us (λ ps r d. both d) (put_name 0 x.table h.table w2 (columns_never k.Dot x.columns w3 refl (never_word k.Dot k.Values (codes "VALUES") (codes "(" ∷ w4) values_word refl))) columned))

-- UPDATE
pub record IsAssignment (x : Assignment) : Type 0 where
  pub column : IsIdentifier x.column
  pub value : IsSum x.value

abbrev Assigned : Type 0
Assigned = Assignment × List Lexeme

put_assignment : (x : Assignment) → IsAssignment x → (us : List Word) → Stops us → Put assignment_of 0 assign_part x (assignment_words x ++ us) us
put_assignment x h us s =
    let ws : List Word = codes "=" ∷ (expression_words x.value ++ us) in
    put_word assignment_of (λ ls. assigned (name_from x.column) (expression_of (drop 1 ls))) 0 assign_part (the k.Equals ▸ Named rules.Expr) x (word_kind x.column) x.column ws us (identifier_lexes x.column h.column.word) (λ ps r d. both (token (identifier_word x.column h.column.word).passes d)) (λ p ls. refl)
    (put_word (λ ls. assigned (name_from x.column) (expression_of (drop 1 ls))) (λ ls. assigned (name_from x.column) (expression_of ls)) 0 (the k.Equals ▸ Named rules.Expr) (Named rules.Expr) x k.Equals (codes "=") (expression_words x.value ++ us) us equals_word (λ ps r d. both (token refl d)) (λ p ls. refl)
    (put_map expression_of (λ y. assigned (name_from x.column) y) 0 (Named rules.Expr) x.value x (expression_words x.value ++ us) us (λ ls. ap (λ (n : List ℕ). let y : Assigned = (record { column = n; value = x.value }, ls) in y) (name_is x.column h.column.name)) (put_expression 0 x.value h.value us s)))

pub record IsUpdate (x : Update) : Type 0 where
  pub table : IsName x.table
  pub assignments : SomeGood IsAssignment x.assignments
  pub filter : IsFilter x.filter

abbrev assigns_part : Grammar
assigns_part = assign_part ▸ repeated k.Comma assign_part ▸ filter_part

abbrev filtering : Around
filtering ps = Part 0 filter_part ps

abbrev assigning : Around
assigning ps = Part 0 (repeated k.Comma assign_part) (Part 0 filter_part ps)

filter_stops : (f : Option ConditionTree) (us : List Word) → Stops us → Stops (filter_words f ++ us)
filter_stops None us s = s
filter_stops (Some c) us s = stops_word k.Where (codes "WHERE") _ where_word refl refl refl

filter_never : (j : Kind) (f : Option ConditionTree) (us : List Word) → is_kind k.Where j ≡ false → Never j us → Never j (filter_words f ++ us)
filter_never j None us a v = v
filter_never j (Some c) us a v = never_word j k.Where (codes "WHERE") _ where_word a

put_assignments : (xs : List Assignment) → SomeGood IsAssignment xs → (us : List Word) → Stops us → Never k.Comma us → PutTo assignments_of filtering (λ ps. Part 0 assigns_part ps) xs (listed assignment_words xs ++ us) us
put_assignments xs h us s v =
    to_list Assignment assignment_words assignment_of filtering assigning (λ ps. Part 0 assign_part (assigning ps)) (λ ps. Part 0 assigns_part ps) IsAssignment Stops assignment_shrinks (λ vs. stops_word k.Comma (codes ",") vs comma_word refl refl refl)
    (λ x g vs t. to_put assignment_of 0 assign_part assigning (λ ps. Part 0 (repeated k.Comma assign_part ▸ filter_part) ps) (λ ps. Part 0 assigns_part ps) x (assignment_words x ++ vs) vs (λ ps r d. both d) (λ ps r d. both d) (put_assignment x g vs t))
    (λ x g vs t. to_put assignment_of 0 assign_part assigning assigning (λ ps. Part 0 assign_part (assigning ps)) x (assignment_words x ++ vs) vs (λ ps r d. d) (λ ps r d. d) (put_assignment x g vs t))
    (λ ps r d. again refl d) (λ ps r d. enough d) xs h us s v

update_words_are : (a b c us : List Word) (w : Word) → a ++ w ∷ (b ++ (c ++ us)) ≡ ((a ++ w ∷ b) ++ c) ++ us
update_words_are a b c us w = simp append_assoc

pub put_update : (x : Update) → IsUpdate x → (us : List Word) → WriteEnds us → Put update_of 0 (Named rules.Update) x (write_rest_words (writes.Update x) ++ us) us
unfolding update_of
put_update x h us s =
    let w3 : List Word = filter_words x.filter ++ us in
    let w2 : List Word = listed assignment_words x.assignments ++ w3 in
    let filtered : PutTo (λ ls. update_set x.table (x.assignments, ls)) (λ ps. ps) filtering x w3 us =
    to_map filter_of (λ y. updated x.table x.assignments y) (λ ps. ps) filtering x.filter x w3 us (λ ls. refl) (to_put filter_of 0 filter_part (λ ps. ps) (λ ps. ps) filtering x.filter w3 us (λ ps r d. d) (λ ps r d. d) (put_filter x.filter h.filter us s.closes s.filter)) in
    let set : Put (λ ls. update_set x.table (assignments_of ls)) 0 assigns_part x w2 us =
    put_of (λ ls. update_set x.table (assignments_of ls)) 0 assigns_part x w2 us
    (to_both assignments_of (λ y. update_set x.table y) (λ ps. ps) filtering (λ ps. Part 0 assigns_part ps) x.assignments x w2 w3 us (put_assignments x.assignments h.assignments w3 (filter_stops x.filter us s.closes.stops) (filter_never k.Comma x.filter us refl s.comma)) filtered) in
    put_words update_of 0 (Named rules.Update) x (name_words x.table ++ codes "SET" ∷ w2) (write_rest_words (writes.Update x) ++ us) us (update_words_are (name_words x.table) (listed assignment_words x.assignments) (filter_words x.filter) us (codes "SET"))
    (put_both name_of (λ y. update_named y) 0 (Named rules.Named) (the k.Set ▸ assigns_part) (Named rules.Update) x.table x (name_words x.table ++ codes "SET" ∷ w2) (codes "SET" ∷ w2) us (λ ps r d. named (both d)) (put_name 0 x.table h.table (codes "SET" ∷ w2) (never_word k.Dot k.Set (codes "SET") w2 set_word refl))
    (put_word (λ ls. update_named (x.table, ls)) (λ ls. update_set x.table (assignments_of ls)) 0 (the k.Set ▸ assigns_part) assigns_part x k.Set (codes "SET") w2 us set_word (λ ps r d. both (token refl d)) (λ p ls. refl) set))

-- DELETE
pub record IsDelete (x : Delete) : Type 0 where
  pub table : IsName x.table
  pub filter : IsFilter x.filter

pub put_delete : (x : Delete) → IsDelete x → (us : List Word) → WriteEnds us → Put delete_of 0 (Named rules.Delete) x (codes "FROM" ∷ (write_rest_words (writes.Delete x) ++ us)) us
unfolding delete_of
put_delete x h us s =
    let w2 : List Word = filter_words x.filter ++ us in
    let g1 : Grammar = Named rules.Named ▸ filter_part in
    put_words delete_of 0 (Named rules.Delete) x (codes "FROM" ∷ (name_words x.table ++ w2)) (codes "FROM" ∷ (write_rest_words (writes.Delete x) ++ us)) us (ap (λ (ws : List Word). codes "FROM" ∷ ws) (sym (append_assoc (name_words x.table) (filter_words x.filter) us)))
    (put_word delete_of (λ ls. delete_named (name_of ls)) 0 (Named rules.Delete) g1 x k.From (codes "FROM") (name_words x.table ++ w2) us from_word (λ ps r d. named (both (token refl d))) (λ p ls. refl)
    (put_both name_of (λ y. delete_named y) 0 (Named rules.Named) filter_part g1 x.table x (name_words x.table ++ w2) w2 us (λ ps r d. both d) (put_name 0 x.table h.table w2 (filter_never k.Dot x.filter us refl s.dot))
    (put_map filter_of (λ y. deleted x.table y) 0 filter_part x.filter x w2 us (λ ls. refl) (put_filter x.filter h.filter us s.closes s.filter))))

-- a write
abbrev pub IsWrite : Write → Type 0
IsWrite (writes.Insert x) = IsInsert x
IsWrite (writes.Update x) = IsUpdate x
IsWrite (writes.Delete x) = IsDelete x

abbrev pub write_part : Write → Grammar
write_part (writes.Insert x) = the k.Insert ▸ Named rules.Insert
write_part (writes.Update x) = the k.Update ▸ Named rules.Update
write_part (writes.Delete x) = the k.Delete ▸ Named rules.Delete

pub put_write : (w : Write) → IsWrite w → (us : List Word) → WriteEnds us → Put write_of 0 (write_part w) w (write_words w ++ us) us
unfolding write_of
put_write (writes.Insert x) h us s =
    put_word write_of (λ ls. as_insert (insert_of ls)) 0 (the k.Insert ▸ Named rules.Insert) (Named rules.Insert) (writes.Insert x) k.Insert (codes "INSERT") (codes "INTO" ∷ (write_rest_words (writes.Insert x) ++ us)) us insert_word (λ ps r d. both (token refl d)) (λ p ls. refl)
    (put_map insert_of (λ y. as_insert y) 0 (Named rules.Insert) x (writes.Insert x) (codes "INTO" ∷ (write_rest_words (writes.Insert x) ++ us)) us (λ ls. refl) (put_insert x h us))
put_write (writes.Update x) h us s =
    put_word write_of (λ ls. as_update (update_of ls)) 0 (the k.Update ▸ Named rules.Update) (Named rules.Update) (writes.Update x) k.Update (codes "UPDATE") (write_rest_words (writes.Update x) ++ us) us update_word (λ ps r d. both (token refl d)) (λ p ls. refl)
    (put_map update_of (λ y. as_update y) 0 (Named rules.Update) x (writes.Update x) (write_rest_words (writes.Update x) ++ us) us (λ ls. refl) (put_update x h us s))
put_write (writes.Delete x) h us s =
    put_word write_of (λ ls. as_delete (delete_of ls)) 0 (the k.Delete ▸ Named rules.Delete) (Named rules.Delete) (writes.Delete x) k.Delete (codes "DELETE") (codes "FROM" ∷ (write_rest_words (writes.Delete x) ++ us)) us delete_word (λ ps r d. both (token refl d)) (λ p ls. refl)
    (put_map delete_of (λ y. as_delete y) 0 (Named rules.Delete) x (writes.Delete x) (codes "FROM" ∷ (write_rest_words (writes.Delete x) ++ us)) us (λ ls. refl) (put_delete x h us s))
