-- What is put of statements on cache groups, of indexes and of calls is read back.
use Rattle.std.proofs.Common.{◌≡◌, ℕ, suc, false, ◌||◌, List, [], ◌∷◌, ◌++◌, drop, codes, Option, Some, None, refl, sym, ap, subst, append_assoc, append-nil}
use Rattle.std.specs.Fmt.{decimal}
use Rattle.sql_print.specs.sql_query.specs.declared.literal.Literal.{Literal}
use Rattle.sql_print.specs.sql_query.specs.Trees.{ConditionTree}
use Rattle.sql_print.specs.sql_tokens.specs.declared.kind.Kind.{Kind}
use Rattle.sql_print.specs.sql_tokens.specs.declared.kind.Kind.TheVariants as k
use Rattle.sql_print.specs.sql_tokens.specs.Kinds.{is_kind}
use Rattle.sql_print.specs.sql_tokens.specs.Words.{word_kind}
use Rattle.sql_print.specs.sql_tokens.specs.Lexing.{Lexeme}
use Rattle.sql_print.specs.sql_grammar.specs.declared.rule.Rule.TheVariants as rules
use Rattle.sql_print.specs.sql_grammar.specs.declared.test.Test.TheVariants.{Name, Whole}
use Rattle.sql_print.specs.sql_grammar.specs.Grammar.{Grammar, Named, Part, Token, token, both, this, that, empty, named, again, enough}
use Rattle.sql_print.specs.sql_grammar.specs.Notation.{optional, repeated, the, ◌▸◌}
use Rattle.sql_print.specs.sql_grammar.specs.Loading.{altered as altered_part, loaded as loaded_part, unloaded as unloaded_part}
use Rattle.sql_print.specs.sql_grammar.specs.Groups.{state as state_part}
use Rattle.sql_print.specs.sql_grammar.specs.Queries.{filtered as filter_part}
use Rattle.sql_print.specs.sql_grammar.specs.Tables.{index as index_part}
use Rattle.sql_print.specs.sql_subset.specs.declared.stmt.Alter.{Alter}
use Rattle.sql_print.specs.sql_subset.specs.declared.stmt.CreateIndex.{CreateIndex}
use Rattle.sql_print.specs.sql_subset.specs.declared.stmt.Load as loads
use Rattle.sql_print.specs.sql_subset.specs.declared.stmt.OfGroup.{OfGroup}
use Rattle.sql_print.specs.sql_subset.specs.declared.stmt.Which.{Which}
use Rattle.sql_print.specs.sql_subset.specs.declared.stmt.RefreshState.{RefreshState}
use Rattle.sql_print.specs.sql_subset.specs.Groups.{state_of}
use Rattle.sql_print.specs.sql_subset.specs.Statements.{chosen, chosen_where, commit_every_of, counted, id_of, load_chosen, load_counted, load_named, load_of, loaded, parallel_of, which_of}
use Rattle.sql_print.specs.sql_phrases.specs.Reading.{first_kind, first_text, identifier_of, identifiers_of, literal_of, literals_of, name_of, number_of}
use Rattle.sql_print.specs.sql_phrases.specs.Conditions.{filter_of}
use Rattle.sql_print.specs.sql_phrases.proofs.Shrinking.{literal_shrinks}
use Rattle.sql_print.specs.sql_words.specs.Words.{Word, identifier_words, listed, literal_words, name_words}
use Rattle.sql_print.specs.sql_words.specs.Trees.{filter_words}
use Rattle.sql_print.specs.Groups.{state_word}
use Rattle.sql_print.specs.Statements.{commit_words, id_words, index_words, load_words, of_group_words, parallel_words, which_words}
use Rattle.print_laws.proofs.Conditions.{Closes}
use Rattle.print_laws.proofs.Expressions.{Stops, stops_word}
use Rattle.print_laws.proofs.GroupTables.{IsFilter, put_filter}
use Rattle.print_laws.proofs.Groups.{rest_kind, rest_lexes, rest_passes, rest_says}
use Rattle.print_laws.proofs.Keys.{AreNames, put_names}
use Rattle.print_laws.proofs.Keywords.{autorefresh_word, cache_word, close_word, commit_word, every_word, group_word, id_word, on_word, open_word, parallel_word, rows_word, set_word, state_word as state_lexes, where_word, with_word}
use Rattle.print_laws.proofs.Lexed.{Lexes, tokens}
use Rattle.print_laws.proofs.Lists.{SomeGood, listed_by}
use Rattle.print_laws.proofs.Literals.{IsLiteral, digits_lexes, digits_whole, put_literal}
use Rattle.print_laws.proofs.Names.{IsIdentifier, IsName, put_identifier, put_name}
use Rattle.print_laws.proofs.NumberLaws.{IsCapped, decimal_digits, number_back}
use Rattle.print_laws.proofs.Put.{Never, Put, never_word, put_both, put_last, put_map, put_none, put_word, put_words}
use Rattle.print_laws.proofs.Tails.{Around, PutTo, put_of, to_both, to_list, to_put}

-- literal { "," literal } ")"
abbrev pub literals_part : Grammar
literals_part = Named rules.Literal ▸ repeated k.Comma (Named rules.Literal) ▸ the k.CloseParen

abbrev closing : Around
closing ps = Part 0 (the k.CloseParen) ps

abbrev going_on : Around
going_on ps = Part 0 (repeated k.Comma (Named rules.Literal)) (Part 0 (the k.CloseParen) ps)

abbrev Anything : List Word → Type 0
Anything us = Unit {0}

abbrev pub closed_literals : {V : Type 0} → (List Literal → V) → List Lexeme → V × List Lexeme
closed_literals then ls = (then (literals_of ls).0, drop 1 (literals_of ls).1)

-- literals before a `)` are read
pub put_literals : {V : Type 0} (then : List Literal → V) (xs : List Literal) → SomeGood IsLiteral xs → (us : List Word) → Put (closed_literals then) 0 literals_part (then xs) (listed literal_words xs ++ codes ")" ∷ us) us
put_literals {V} then xs h us =
    let all : PutTo (listed_by literal_of) closing (λ ps. Part 0 literals_part ps) xs (listed literal_words xs ++ codes ")" ∷ us) (codes ")" ∷ us) =
    to_list Literal literal_words literal_of closing going_on (λ ps. Part 0 (Named rules.Literal) (going_on ps)) (λ ps. Part 0 literals_part ps) IsLiteral Anything literal_shrinks (λ vs. tt)
    (λ x g vs t. to_put literal_of 0 (Named rules.Literal) going_on (λ ps. Part 0 (repeated k.Comma (Named rules.Literal) ▸ the k.CloseParen) ps) (λ ps. Part 0 literals_part ps) x (literal_words x ++ vs) vs (λ ps r d. both d) (λ ps r d. both d) (put_literal 0 x g vs))
    (λ x g vs t. to_put literal_of 0 (Named rules.Literal) going_on going_on (λ ps. Part 0 (Named rules.Literal) (going_on ps)) x (literal_words x ++ vs) vs (λ ps r d. d) (λ ps r d. d) (put_literal 0 x g vs))
    (λ ps r d. again refl d) (λ ps r d. enough d) xs h (codes ")" ∷ us) tt (never_word k.Comma k.CloseParen (codes ")") us close_word refl) in
    let last : PutTo (λ ls. (then xs, drop 1 ls)) (λ ps. ps) closing (then xs) (codes ")" ∷ us) us =
    to_put (λ ls. (then xs, drop 1 ls)) 0 (the k.CloseParen) (λ ps. ps) (λ ps. ps) closing (then xs) (codes ")" ∷ us) us (λ ps r d. d) (λ ps r d. d) (put_last (λ ls. (then xs, drop 1 ls)) 0 (the k.CloseParen) (then xs) k.CloseParen (codes ")") us close_word (λ ps r d. token refl d) (λ p ls. refl)) in
    put_of (closed_literals then) 0 literals_part (then xs) (listed literal_words xs ++ codes ")" ∷ us) us
    (to_both (listed_by literal_of) (λ y. (then y.0, drop 1 y.1)) (λ ps. ps) closing (λ ps. Part 0 literals_part ps) xs (then xs) (listed literal_words xs ++ codes ")" ∷ us) (codes ")" ∷ us) us all last)

-- WITH ID
abbrev pub IsId : Option (List Literal) → Type 0
IsId None = Unit {0}
IsId (Some xs) = SomeGood IsLiteral xs

abbrev pub id_part : Grammar
id_part = optional k.With (the k.Id ▸ the k.OpenParen ▸ literals_part)

id_words_are : (xs : List Literal) (us : List Word) → codes "WITH" ∷ codes "ID" ∷ codes "(" ∷ (listed literal_words xs ++ codes ")" ∷ us) ≡ id_words (Some xs) ++ us
id_words_are xs us = ap (λ (ws : List Word). codes "WITH" ∷ codes "ID" ∷ codes "(" ∷ ws) (sym (append_assoc (listed literal_words xs) (codes ")" ∷ []) us))

put_id : (o : Option (List Literal)) → IsId o → (us : List Word) → Never k.With us → Put id_of 0 id_part o (id_words o ++ us) us
put_id None h us v = put_none id_of 0 id_part None us (λ ps r d. that (empty d)) (λ i. rw (v i) refl)
put_id (Some xs) h us v =
    let ws : List Word = listed literal_words xs ++ codes ")" ∷ us in
    let named_id : List Literal → Option (List Literal) = λ ys. Some ys in
    put_words id_of 0 id_part (Some xs) (codes "WITH" ∷ codes "ID" ∷ codes "(" ∷ ws) (id_words (Some xs) ++ us) us (id_words_are xs us)
    (put_word id_of (λ ls. closed_literals named_id (drop 2 ls)) 0 id_part (the k.Id ▸ the k.OpenParen ▸ literals_part) (Some xs) k.With (codes "WITH") (codes "ID" ∷ codes "(" ∷ ws) us with_word (λ ps r d. this refl d) (λ p ls. refl)
    (put_word (λ ls. closed_literals named_id (drop 2 ls)) (λ ls. closed_literals named_id (drop 1 ls)) 0 (the k.Id ▸ the k.OpenParen ▸ literals_part) (the k.OpenParen ▸ literals_part) (Some xs) k.Id (codes "ID") (codes "(" ∷ ws) us id_word (λ ps r d. both (token refl d)) (λ p ls. refl)
    (put_word (λ ls. closed_literals named_id (drop 1 ls)) (closed_literals named_id) 0 (the k.OpenParen ▸ literals_part) literals_part (Some xs) k.OpenParen (codes "(") ws us open_word (λ ps r d. both (token refl d)) (λ p ls. refl)
    (put_literals named_id xs h us))))

-- which instances
pub record IsWhich (w : Which) : Type 0 where
  pub filter : IsFilter w.filter
  pub id : IsId w.id

-- no choice goes on with these words
pub record Chosen (us : List Word) : Type 0 where
  pub closes : Closes us
  pub filter : Never k.Where us
  pub id : Never k.With us

pub word_closes : (j : Kind) (w : Word) (us : List Word) → Lexes j w → is_kind j k.Dot ≡ false → is_kind j k.Star ≡ false → is_kind j k.Plus || is_kind j k.Minus ≡ false → is_kind j k.And ≡ false → is_kind j k.Or ≡ false → Closes (w ∷ us)
word_closes j w us l a b c d e = record { stops = stops_word j w us l a b c; conjunction = never_word k.And j w us l d; disjunction = never_word k.Or j w us l e }

id_closes : (o : Option (List Literal)) (us : List Word) → Chosen us → Closes (id_words o ++ us)
id_closes None us s = s.closes
id_closes (Some xs) us s = word_closes k.With (codes "WITH") _ with_word refl refl refl refl refl

id_where : (o : Option (List Literal)) (us : List Word) → Chosen us → Never k.Where (id_words o ++ us)
id_where None us s = s.filter
id_where (Some xs) us s = never_word k.Where k.With (codes "WITH") _ with_word refl

pub put_which : (w : Which) → IsWhich w → (us : List Word) → Chosen us → Put which_of 0 (Named rules.Chosen) w (which_words w ++ us) us
unfolding which_of
put_which w h us s =
    let ws : List Word = id_words w.id ++ us in
    put_words which_of 0 (Named rules.Chosen) w (filter_words w.filter ++ ws) (which_words w ++ us) us (sym (append_assoc (filter_words w.filter) (id_words w.id) us))
    (put_both filter_of (λ x. chosen_where x) 0 filter_part id_part (Named rules.Chosen) w.filter w (filter_words w.filter ++ ws) ws us (λ ps r d. named (both d)) (put_filter w.filter h.filter ws (id_closes w.id us s) (id_where w.id us s))
    (put_map id_of (λ y. chosen w.filter y) 0 id_part w.id w ws us (λ ls. refl) (put_id w.id h.id us s.id)))

-- a count of 64 bits, or none
abbrev pub IsCount : Option ℕ → Type 0
IsCount None = Unit {0}
IsCount (Some n) = IsCapped n

abbrev Count : Type 0
Count = Option ℕ × List Lexeme

abbrev commit_part : Grammar
commit_part = optional k.Commit (the k.Every ▸ Token Whole ▸ the k.Rows)

abbrev parallel_part : Grammar
parallel_part = optional k.Parallel (Token Whole)

put_commit : (o : Option ℕ) → IsCount o → (us : List Word) → Never k.Commit us → Put commit_every_of 0 commit_part o (commit_words o ++ us) us
put_commit None h us v = put_none commit_every_of 0 commit_part None us (λ ps r d. that (empty d)) (λ i. rw (v i) refl)
put_commit (Some n) h us v =
    let d = decimal_digits n h in
    let ws : List Word = codes "ROWS" ∷ us in
    put_word commit_every_of (λ ls. counted (number_of (first_text (drop 1 ls))) (drop 3 ls)) 0 commit_part (the k.Every ▸ Token Whole ▸ the k.Rows) (Some n) k.Commit (codes "COMMIT") (codes "EVERY" ∷ decimal n ∷ ws) us commit_word (λ ps r e. this refl e) (λ p ls. refl)
    (put_word (λ ls. counted (number_of (first_text (drop 1 ls))) (drop 3 ls)) (λ ls. counted (number_of (first_text ls)) (drop 2 ls)) 0 (the k.Every ▸ Token Whole ▸ the k.Rows) (Token Whole ▸ the k.Rows) (Some n) k.Every (codes "EVERY") (decimal n ∷ ws) us every_word (λ ps r e. both (token refl e)) (λ p ls. refl)
    (put_word (λ ls. counted (number_of (first_text ls)) (drop 2 ls)) (λ ls. counted (number_of (decimal n)) (drop 1 ls)) 0 (Token Whole ▸ the k.Rows) (the k.Rows) (Some n) (word_kind (decimal n)) (decimal n) ws us (digits_lexes (decimal n) d) (λ ps r e. both (token (digits_whole (decimal n) d) e)) (λ p ls. refl)
    (put_last (λ ls. counted (number_of (decimal n)) (drop 1 ls)) 0 (the k.Rows) (Some n) k.Rows (codes "ROWS") us rows_word (λ ps r e. token refl e) (λ p ls. ap (λ (m : ℕ). let y : Count = (Some m, ls) in y) (number_back n h)))))

put_parallel : (o : Option ℕ) → IsCount o → (us : List Word) → Never k.Parallel us → Put parallel_of 0 parallel_part o (parallel_words o ++ us) us
put_parallel None h us v = put_none parallel_of 0 parallel_part None us (λ ps r d. that (empty d)) (λ i. rw (v i) refl)
put_parallel (Some n) h us v =
    let d = decimal_digits n h in
    put_word parallel_of (λ ls. counted (number_of (first_text ls)) (drop 1 ls)) 0 parallel_part (Token Whole) (Some n) k.Parallel (codes "PARALLEL") (decimal n ∷ us) us parallel_word (λ ps r e. this refl e) (λ p ls. refl)
    (put_last (λ ls. counted (number_of (first_text ls)) (drop 1 ls)) 0 (Token Whole) (Some n) (word_kind (decimal n)) (decimal n) us (digits_lexes (decimal n) d) (λ ps r e. token (digits_whole (decimal n) d) e) (λ p ls. ap (λ (m : ℕ). let y : Count = (Some m, ls) in y) (number_back n h)))

-- CACHE GROUP name, and then others
put_group_name : {V : Type 0} (then : List ℕ × List Lexeme → V × List Lexeme) (h : Grammar) (n : List ℕ) (x : V) (ws us : List Word) → IsName n → Never k.Dot ws → Put (λ ls. then (n, ls)) 0 h x ws us
    → Put (λ ls. then (name_of (drop 2 ls))) 0 (the k.Cache ▸ the k.Group ▸ Named rules.Named ▸ h) x (codes "CACHE" ∷ codes "GROUP" ∷ (name_words n ++ ws)) us
put_group_name then h n x ws us i v q =
    let vs : List Word = name_words n ++ ws in
    put_word (λ ls. then (name_of (drop 2 ls))) (λ ls. then (name_of (drop 1 ls))) 0 (the k.Cache ▸ the k.Group ▸ Named rules.Named ▸ h) (the k.Group ▸ Named rules.Named ▸ h) x k.Cache (codes "CACHE") (codes "GROUP" ∷ vs) us cache_word (λ ps r d. both (token refl d)) (λ p ls. refl)
    (put_word (λ ls. then (name_of (drop 1 ls))) (λ ls. then (name_of ls)) 0 (the k.Group ▸ Named rules.Named ▸ h) (Named rules.Named ▸ h) x k.Group (codes "GROUP") vs us group_word (λ ps r d. both (token refl d)) (λ p ls. refl)
    (put_both name_of then 0 (Named rules.Named) h (Named rules.Named ▸ h) n x vs ws us (λ ps r d. both d) (put_name 0 n i ws v) q))

-- LOAD and REFRESH
pub record IsLoad (l : loads.Load) : Type 0 where
  pub group : IsName l.group
  pub which : IsWhich l.which
  pub commit : IsCount l.commit_every
  pub parallel : IsCount l.parallel

-- the words of a choice begin with WHERE or with WITH
which_never : (j : Kind) (f : Option ConditionTree) (o : Option (List Literal)) (us : List Word) → is_kind k.Where j ≡ false → is_kind k.With j ≡ false → Never j us → Never j (filter_words f ++ (id_words o ++ us))
which_never j None None us a b v = v
which_never j None (Some xs) us a b v = never_word j k.With (codes "WITH") _ with_word b
which_never j (Some c) o us a b v = never_word j k.Where (codes "WHERE") _ where_word a

choice_never : (j : Kind) (w : Which) (us : List Word) → is_kind k.Where j ≡ false → is_kind k.With j ≡ false → Never j us → Never j (which_words w ++ us)
choice_never j w us a b v = subst (λ (ws : List Word). Never j ws) (sym (append_assoc (filter_words w.filter) (id_words w.id) us)) (which_never j w.filter w.id us a b v)

commit_never : (j : Kind) (o : Option ℕ) (us : List Word) → is_kind k.Commit j ≡ false → Never j us → Never j (commit_words o ++ us)
commit_never j None us a v = v
commit_never j (Some n) us a v = never_word j k.Commit (codes "COMMIT") _ commit_word a

parallel_never : (j : Kind) (o : Option ℕ) (us : List Word) → is_kind k.Parallel j ≡ false → Never j us → Never j (parallel_words o ++ us)
parallel_never j None us a v = v
parallel_never j (Some n) us a v = never_word j k.Parallel (codes "PARALLEL") _ parallel_word a

-- nothing stands behind
pub nothing : (i : ℕ) → tokens i [] ≡ []
unfolding tokens
nothing i = refl

pub ends_never : (j : Kind) → is_kind k.Bad j ≡ false → Never j []
ends_never j h i = rw (nothing i) h

pub end_stops : Stops []
end_stops = record { dot = ends_never k.Dot refl; star = ends_never k.Star refl; sign = λ i. rw (nothing i) refl }

pub end_closes : Closes []
end_closes = record { stops = end_stops; conjunction = ends_never k.And refl; disjunction = ends_never k.Or refl }

pub end_chosen : Chosen []
end_chosen = record { closes = end_closes; filter = ends_never k.Where refl; id = ends_never k.With refl }

load_rest : (c p : Option ℕ) → Chosen (commit_words c ++ (parallel_words p ++ []))
load_rest None None = end_chosen
load_rest None (Some n) = record { closes = word_closes k.Parallel (codes "PARALLEL") _ parallel_word refl refl refl refl refl; filter = never_word k.Where k.Parallel (codes "PARALLEL") _ parallel_word refl; id = never_word k.With k.Parallel (codes "PARALLEL") _ parallel_word refl }
load_rest (Some m) p = record { closes = word_closes k.Commit (codes "COMMIT") _ commit_word refl refl refl refl refl; filter = never_word k.Where k.Commit (codes "COMMIT") _ commit_word refl; id = never_word k.With k.Commit (codes "COMMIT") _ commit_word refl }

load_words_are : (a b c d : List Word) → a ++ (b ++ (c ++ (d ++ []))) ≡ ((a ++ b) ++ c) ++ d
load_words_are a b c d = simp (append_assoc, append-nil)

pub put_load : (l : loads.Load) → IsLoad l → Put load_of 0 loaded_part l (codes "CACHE" ∷ codes "GROUP" ∷ load_words l) []
unfolding load_of
put_load l h =
    let w4 : List Word = parallel_words l.parallel ++ [] in
    let w3 : List Word = commit_words l.commit_every ++ w4 in
    let w2 : List Word = which_words l.which ++ w3 in
    let g3 : Grammar = commit_part ▸ parallel_part in
    let g2 : Grammar = Named rules.Chosen ▸ g3 in
    let paralleled : Put (λ ls. load_counted l.group l.which (l.commit_every, ls)) 0 parallel_part l w4 [] = put_map parallel_of (λ y. loaded l.group l.which l.commit_every y) 0 parallel_part l.parallel l w4 [] (λ ls. refl) (put_parallel l.parallel h.parallel [] (ends_never k.Parallel refl)) in
    let committed : Put (λ ls. load_chosen l.group (l.which, ls)) 0 g3 l w3 [] =
    put_both commit_every_of (λ y. load_counted l.group l.which y) 0 commit_part parallel_part g3 l.commit_every l w3 w4 [] (λ ps r d. both d) (put_commit l.commit_every h.commit w4 (parallel_never k.Commit l.parallel [] refl (ends_never k.Commit refl))) paralleled in
    let chosen_so : Put (λ ls. load_named (l.group, ls)) 0 g2 l w2 [] = put_both which_of (λ y. load_chosen l.group y) 0 (Named rules.Chosen) g3 g2 l.which l w2 w3 [] (λ ps r d. both d) (put_which l.which h.which w3 (load_rest l.commit_every l.parallel)) committed in
    put_words load_of 0 loaded_part l (codes "CACHE" ∷ codes "GROUP" ∷ (name_words l.group ++ w2)) (codes "CACHE" ∷ codes "GROUP" ∷ load_words l) [] (ap (λ (ws : List Word). codes "CACHE" ∷ codes "GROUP" ∷ ws) (load_words_are (name_words l.group) (which_words l.which) (commit_words l.commit_every) (parallel_words l.parallel)))
    (put_group_name (λ x. load_named x) g2 l.group l w2 [] h.group (choice_never k.Dot l.which w3 refl refl (commit_never k.Dot l.commit_every w4 refl (parallel_never k.Dot l.parallel [] refl (ends_never k.Dot refl)))) chosen_so)

-- UNLOAD and FLUSH
pub record IsOfGroup (x : OfGroup) : Type 0 where
  pub group : IsName x.group
  pub which : IsWhich x.which

abbrev pub of_group_by : List ℕ × List Lexeme → OfGroup × List Lexeme
of_group_by x = (record { group = x.0; which = (which_of x.1).0 }, (which_of x.1).1)

two_words_are : (a b : List Word) → a ++ (b ++ []) ≡ a ++ b
two_words_are a b = simp append-nil

pub put_of_group : (x : OfGroup) → IsOfGroup x → Put (λ ls. of_group_by (name_of (drop 2 ls))) 0 unloaded_part x (codes "CACHE" ∷ codes "GROUP" ∷ of_group_words x) []
put_of_group x h =
    let ws : List Word = which_words x.which ++ [] in
    put_words (λ ls. of_group_by (name_of (drop 2 ls))) 0 unloaded_part x (codes "CACHE" ∷ codes "GROUP" ∷ (name_words x.group ++ ws)) (codes "CACHE" ∷ codes "GROUP" ∷ of_group_words x) [] (ap (λ (vs : List Word). codes "CACHE" ∷ codes "GROUP" ∷ vs) (two_words_are (name_words x.group) (which_words x.which)))
    (put_group_name (λ y. of_group_by y) (Named rules.Chosen) x.group x ws [] h.group (choice_never k.Dot x.which [] refl refl (ends_never k.Dot refl))
    (put_map which_of (λ y. (record { group = x.group; which = y.0 }, y.1)) 0 (Named rules.Chosen) x.which x ws [] (λ ls. refl) (put_which x.which h.which [] end_chosen)))

-- ALTER
abbrev pub alter_by : List ℕ × List Lexeme → Alter × List Lexeme
alter_by x = (record { group = x.0; state = state_of (first_kind (drop 3 x.1)) }, drop 4 x.1)

abbrev Altered : Type 0
Altered = Alter × List Lexeme

pub put_alter : (x : Alter) → IsName x.group → Put (λ ls. alter_by (name_of (drop 2 ls))) 0 altered_part x (codes "CACHE" ∷ codes "GROUP" ∷ (name_words x.group ++ codes "SET" ∷ codes "AUTOREFRESH" ∷ codes "STATE" ∷ state_word x.state ∷ [])) []
put_alter x h =
    let g3 : Grammar = the k.State ▸ state_part in
    let g2 : Grammar = the k.Autorefresh ▸ g3 in
    let g1 : Grammar = the k.Set ▸ g2 in
    let from : ℕ → List Lexeme → Altered = λ n ls. (record { group = x.group; state = state_of (first_kind (drop n ls)) }, drop (suc n) ls) in
    put_group_name (λ y. alter_by y) g1 x.group x (codes "SET" ∷ codes "AUTOREFRESH" ∷ codes "STATE" ∷ state_word x.state ∷ []) [] h (never_word k.Dot k.Set (codes "SET") _ set_word refl)
    (put_word (from 3) (from 2) 0 g1 g2 x k.Set (codes "SET") (codes "AUTOREFRESH" ∷ codes "STATE" ∷ state_word x.state ∷ []) [] set_word (λ ps r d. both (token refl d)) (λ p ls. refl)
    (put_word (from 2) (from 1) 0 g2 g3 x k.Autorefresh (codes "AUTOREFRESH") (codes "STATE" ∷ state_word x.state ∷ []) [] autorefresh_word (λ ps r d. both (token refl d)) (λ p ls. refl)
    (put_word (from 1) (from 0) 0 g3 state_part x k.State (codes "STATE") (state_word x.state ∷ []) [] state_lexes (λ ps r d. both (token refl d)) (λ p ls. refl)
    (put_last (from 0) 0 state_part x (rest_kind x.state) (state_word x.state) [] (rest_lexes x.state) (λ ps r d. rest_passes x.state 0 ps r d) (λ p ls. ap (λ (s : RefreshState). let y : Altered = (record { group = x.group; state = s }, ls) in y) (rest_says x.state))))))

pub put_drop : (n : List ℕ) → IsName n → Put (λ ls. name_of (drop 2 ls)) 0 (the k.Cache ▸ the k.Group ▸ Named rules.Named) n (codes "CACHE" ∷ codes "GROUP" ∷ name_words n) []
put_drop n h =
    let named_group : Put name_of 0 (Named rules.Named) n (name_words n) [] = put_words name_of 0 (Named rules.Named) n (name_words n ++ []) (name_words n) [] (append-nil (name_words n)) (put_name 0 n h [] (ends_never k.Dot refl)) in
    put_word (λ ls. name_of (drop 2 ls)) (λ ls. name_of (drop 1 ls)) 0 (the k.Cache ▸ the k.Group ▸ Named rules.Named) (the k.Group ▸ Named rules.Named) n k.Cache (codes "CACHE") (codes "GROUP" ∷ name_words n) [] cache_word (λ ps r d. both (token refl d)) (λ p ls. refl)
    (put_word (λ ls. name_of (drop 1 ls)) name_of 0 (the k.Group ▸ Named rules.Named) (Named rules.Named) n k.Group (codes "GROUP") (name_words n) [] group_word (λ ps r d. both (token refl d)) (λ p ls. refl) named_group)

-- CREATE INDEX
pub record IsIndex (x : CreateIndex) : Type 0 where
  pub name : IsIdentifier x.name
  pub table : IsName x.table
  pub columns : AreNames x.columns

abbrev Indexed : Type 0
Indexed = CreateIndex × List Lexeme

abbrev index_columns : List ℕ → List ℕ → List (List ℕ) × List Lexeme → Indexed
index_columns name table y = (record { name = name; table = table; columns = y.0 }, drop 1 y.1)

abbrev index_table : List ℕ → List ℕ × List Lexeme → Indexed
index_table name y = index_columns name y.0 (identifiers_of (drop 1 y.1))

abbrev index_name : List ℕ × List Lexeme → Indexed
index_name y = index_table y.0 (name_of (drop 1 y.1))

abbrev pub index_by : List Lexeme → Indexed
index_by ls = index_name (identifier_of ls)

pub put_index : (x : CreateIndex) → IsIndex x → Put index_by 0 index_part x (index_words x) []
put_index x h =
    let w4 : List Word = codes ")" ∷ [] in
    let w3 : List Word = listed identifier_words x.columns ++ w4 in
    let w2 : List Word = name_words x.table ++ codes "(" ∷ w3 in
    let g4 : Grammar = Named rules.Idents ▸ the k.CloseParen in
    let g3 : Grammar = the k.OpenParen ▸ g4 in
    let g2 : Grammar = Named rules.Named ▸ g3 in
    let columned : Put (λ ls. index_table x.name (x.table, ls)) 0 g3 x (codes "(" ∷ w3) [] =
    put_word (λ ls. index_table x.name (x.table, ls)) (λ ls. index_columns x.name x.table (identifiers_of ls)) 0 g3 g4 x k.OpenParen (codes "(") w3 [] open_word (λ ps r d. both (token refl d)) (λ p ls. refl)
    (put_both identifiers_of (λ y. index_columns x.name x.table y) 0 (Named rules.Idents) (the k.CloseParen) g4 x.columns x w3 w4 [] (λ ps r d. both d) (put_names 0 x.columns h.columns w4 (never_word k.Comma k.CloseParen (codes ")") [] close_word refl))
    (put_last (λ ls. index_columns x.name x.table (x.columns, ls)) 0 (the k.CloseParen) x k.CloseParen (codes ")") [] close_word (λ ps r d. token refl d) (λ p ls. refl))) in
    let tabled : Put (λ ls. index_name (x.name, ls)) 0 (the k.On ▸ g2) x (codes "ON" ∷ w2) [] =
    put_word (λ ls. index_name (x.name, ls)) (λ ls. index_table x.name (name_of ls)) 0 (the k.On ▸ g2) g2 x k.On (codes "ON") w2 [] on_word (λ ps r d. both (token refl d)) (λ p ls. refl)
    (put_both name_of (λ y. index_table x.name y) 0 (Named rules.Named) g3 g2 x.table x w2 (codes "(" ∷ w3) [] (λ ps r d. both d) (put_name 0 x.table h.table (codes "(" ∷ w3) (never_word k.Dot k.OpenParen (codes "(") w3 open_word refl)) columned) in
    put_both identifier_of (λ y. index_name y) 0 (Token Name) (the k.On ▸ g2) index_part x.name x (x.name ∷ codes "ON" ∷ w2) (codes "ON" ∷ w2) [] (λ ps r d. both d) (put_identifier 0 x.name h.name (codes "ON" ∷ w2)) tabled
