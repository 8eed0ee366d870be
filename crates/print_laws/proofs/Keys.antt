-- Keys that are put are read back.
use Rattle.std.proofs.Common.{◌≡◌, ℕ, Bool, true, false, cond, List, ◌∷◌, ◌++◌, drop, codes, refl, sym, ap}
use Rattle.sql_print.specs.row_types.specs.declared.declaration.ForeignKeyDeclaration.{ForeignKeyDeclaration}
use Rattle.sql_print.specs.sql_tokens.specs.declared.kind.Kind.TheVariants as k
use Rattle.sql_print.specs.sql_tokens.specs.Lexing.{Lexeme}
use Rattle.sql_print.specs.sql_grammar.specs.declared.rule.Rule.TheVariants as rules
use Rattle.sql_print.specs.sql_grammar.specs.declared.test.Test.TheVariants.{Name}
use Rattle.sql_print.specs.sql_grammar.specs.Grammar.{Grammar, Named, Token, token, both, this, that, empty, named}
use Rattle.sql_print.specs.sql_grammar.specs.Notation.{optional, repeated, the, ◌▸◌}
use Rattle.sql_print.specs.sql_grammar.specs.Tables.{foreign_rest, key_rest}
use Rattle.sql_print.specs.sql_phrases.specs.declared.tables.Element.{Element}
use Rattle.sql_print.specs.sql_phrases.specs.declared.tables.Element.TheVariants as elements
use Rattle.sql_print.specs.sql_phrases.specs.Reading.{begins, identifier_of, identifiers_of, name_of}
use Rattle.sql_print.specs.sql_phrases.specs.Tables.{as_foreign_key, as_key, element_of, foreign_columned, foreign_key_of, foreign_named, foreign_referred}
use Rattle.sql_print.specs.sql_phrases.proofs.Shrinking.{identifier_shrinks}
use Rattle.sql_print.specs.sql_words.specs.Words.{Word, identifier_words, listed, name_words}
use Rattle.sql_print.specs.sql_words.specs.Tables.{cascade_words}
use Rattle.print_laws.proofs.Keywords.{cascade_word, close_word, delete_word, foreign_word, key_word, on_word, open_word, primary_word, references_word}
use Rattle.print_laws.proofs.Lexed.{tokens}
use Rattle.print_laws.proofs.Lists.{SomeGood, listed_by, put_list}
use Rattle.print_laws.proofs.Names.{IsIdentifier, IsName, put_identifier, put_name}
use Rattle.print_laws.proofs.Put.{Never, Put, never_word, put_as, put_both, put_last, put_none, put_word}

-- one column or more
abbrev pub AreNames : List (List ℕ) → Type 0
AreNames names = SomeGood IsIdentifier names

pub record IsForeignKey (key : ForeignKeyDeclaration) : Type 0 where
  pub columns : AreNames key.columns
  pub parent : IsName key.parent
  pub parent_columns : AreNames key.parent_columns

abbrev Anything : List Word → Type 0
Anything us = Unit {0}

pub put_names : (u : ℕ) (names : List (List ℕ)) → AreNames names → (us : List Word) → Never k.Comma us → Put identifiers_of u (Named rules.Idents) names (listed identifier_words names ++ us) us
put_names u names h us v =
    put_as identifiers_of (listed_by identifier_of) u (Named rules.Idents) (Token Name ▸ repeated k.Comma (Token Name)) names (listed identifier_words names ++ us) us (λ ps r d. named d) (λ i. refl)
    (put_list (List ℕ) identifier_words identifier_of u (Token Name) IsIdentifier Anything identifier_shrinks (λ vs. tt) (λ n g vs t. put_identifier u n g vs) names h us tt v)

no_comma : (us : List Word) → Never k.Comma (codes ")" ∷ us)
no_comma us = never_word k.Comma k.CloseParen (codes ")") us close_word refl

abbrev Found : Type 0
Found = Element × List Lexeme

-- PRIMARY KEY ( names )
pub put_key : (u : ℕ) (names : List (List ℕ)) → AreNames names → (us : List Word) → Put element_of u (the k.Primary ▸ key_rest) (elements.Key names) (codes "PRIMARY" ∷ codes "KEY" ∷ codes "(" ∷ (listed identifier_words names ++ codes ")" ∷ us)) us
unfolding element_of
put_key u names h us =
    let x : Element = elements.Key names in
    let g1 : Grammar = the k.OpenParen ▸ Named rules.Idents ▸ the k.CloseParen in
    let g2 : Grammar = Named rules.Idents ▸ the k.CloseParen in
    let ws : List Word = listed identifier_words names ++ codes ")" ∷ us in
    let closed : Put (λ ls. as_key (names, ls)) u (the k.CloseParen) x (codes ")" ∷ us) us = put_last (λ ls. as_key (names, ls)) u (the k.CloseParen) x k.CloseParen (codes ")") us close_word (λ ps r d. token refl d) (λ p ls. refl) in
    put_word element_of (λ ls. as_key (identifiers_of (drop 2 ls))) u (the k.Primary ▸ key_rest) key_rest x k.Primary (codes "PRIMARY") (codes "KEY" ∷ codes "(" ∷ ws) us primary_word (λ ps r d. both (token refl d)) (λ p ls. refl)
    (put_word (λ ls. as_key (identifiers_of (drop 2 ls))) (λ ls. as_key (identifiers_of (drop 1 ls))) u key_rest g1 x k.Key (codes "KEY") (codes "(" ∷ ws) us key_word (λ ps r d. both (token refl d)) (λ p ls. refl)
    (put_word (λ ls. as_key (identifiers_of (drop 1 ls))) (λ ls. as_key (identifiers_of ls)) u g1 g2 x k.OpenParen (codes "(") ws us open_word (λ ps r d. both (token refl d)) (λ p ls. refl)
    (put_both identifiers_of (λ y. as_key y) u (Named rules.Idents) (the k.CloseParen) g2 names x ws (codes ")" ∷ us) us (λ ps r d. both d) (put_names u names h (codes ")" ∷ us) (no_comma us)) closed)))

-- the parts of FOREIGN KEY
abbrev cascade_part : Grammar
cascade_part = optional k.On (the k.Delete ▸ the k.Cascade)

abbrev parent_part : Grammar
parent_part = the k.OpenParen ▸ Named rules.Idents ▸ the k.CloseParen ▸ cascade_part

abbrev reference_part : Grammar
reference_part = the k.CloseParen ▸ the k.References ▸ Named rules.Named ▸ parent_part

abbrev referred : ForeignKeyDeclaration → Bool → List Lexeme → Found
referred key cascade ls = (elements.ForeignKey (record { columns = key.columns; parent = key.parent; parent_columns = key.parent_columns; cascade = cascade }), ls)

-- what is read behind the columns of the parent
abbrev behind_parent : ForeignKeyDeclaration → List Lexeme → Found
behind_parent key ls = cond (begins k.On ls) (referred key (begins k.On ls) (drop 3 ls)) (referred key (begins k.On ls) ls)

same_key : (b : Bool) (x y : ForeignKeyDeclaration × List Lexeme) → as_foreign_key (cond b x y) ≡ cond b (as_foreign_key x) (as_foreign_key y)
same_key true x y = refl
same_key false x y = refl

put_cascade : (u : ℕ) (key : ForeignKeyDeclaration) (b : Bool) → key.cascade ≡ b → (us : List Word) → Never k.On us → Put (behind_parent key) u cascade_part (elements.ForeignKey key) (cascade_words b ++ us) us
put_cascade u key true e us v =
    let x : Element = elements.ForeignKey key in
    put_word (behind_parent key) (λ ls. referred key true (drop 2 ls)) u cascade_part (the k.Delete ▸ the k.Cascade) x k.On (codes "ON") (codes "DELETE" ∷ codes "CASCADE" ∷ us) us on_word (λ ps r d. this refl d) (λ p ls. refl)
    (put_word (λ ls. referred key true (drop 2 ls)) (λ ls. referred key true (drop 1 ls)) u (the k.Delete ▸ the k.Cascade) (the k.Cascade) x k.Delete (codes "DELETE") (codes "CASCADE" ∷ us) us delete_word (λ ps r d. both (token refl d)) (λ p ls. refl)
    (put_last (λ ls. referred key true (drop 1 ls)) u (the k.Cascade) x k.Cascade (codes "CASCADE") us cascade_word (λ ps r d. token refl d) (λ p ls. ap (λ (b : Bool). referred key b ls) (sym e))))
put_cascade u key false e us v = put_none (behind_parent key) u cascade_part (elements.ForeignKey key) us (λ ps r d. that (empty d)) (λ i. rw (v i) (ap (λ (b : Bool). referred key b (tokens i us)) (sym e)))

put_parent : (u : ℕ) (key : ForeignKeyDeclaration) → IsForeignKey key → (us : List Word) → Never k.On us
    → Put (λ ls. as_foreign_key (foreign_named key.columns (key.parent, ls))) u parent_part (elements.ForeignKey key) (codes "(" ∷ (listed identifier_words key.parent_columns ++ codes ")" ∷ (cascade_words key.cascade ++ us))) us
put_parent u key h us v =
    let x : Element = elements.ForeignKey key in
    let end : List Word = codes ")" ∷ (cascade_words key.cascade ++ us) in
    let g : Grammar = Named rules.Idents ▸ the k.CloseParen ▸ cascade_part in
    let reader : ForeignKeyDeclaration × List Lexeme → Found = λ y. as_foreign_key y in
    let last : Put (λ ls. as_foreign_key (foreign_referred key.columns key.parent (key.parent_columns, ls))) u (the k.CloseParen ▸ cascade_part) x end us =
    put_word (λ ls. as_foreign_key (foreign_referred key.columns key.parent (key.parent_columns, ls))) (behind_parent key) u (the k.CloseParen ▸ cascade_part) cascade_part x k.CloseParen (codes ")") (cascade_words key.cascade ++ us) us close_word (λ ps r d. both (token refl d)) (λ p ls. same_key (begins k.On ls) _ _)
    (put_cascade u key key.cascade refl us v) in
    put_word (λ ls. as_foreign_key (foreign_named key.columns (key.parent, ls))) (λ ls. as_foreign_key (foreign_referred key.columns key.parent (identifiers_of ls))) u parent_part g x k.OpenParen (codes "(") (listed identifier_words key.parent_columns ++ end) us open_word (λ ps r d. both (token refl d)) (λ p ls. refl)
    (put_both identifiers_of (λ y. as_foreign_key (foreign_referred key.columns key.parent y)) u (Named rules.Idents) (the k.CloseParen ▸ cascade_part) g key.parent_columns x (listed identifier_words key.parent_columns ++ end) end us (λ ps r d. both d)
    (put_names u key.parent_columns h.parent_columns end (no_comma (cascade_words key.cascade ++ us))) last)

-- the words of a foreign key
abbrev pub foreign_key_words : ForeignKeyDeclaration → List Word → List Word
foreign_key_words key us =
    codes "FOREIGN" ∷ codes "KEY" ∷ codes "(" ∷ (listed identifier_words key.columns ++ codes ")" ∷ codes "REFERENCES" ∷ (name_words key.parent ++ codes "(" ∷ (listed identifier_words key.parent_columns ++ codes ")" ∷ (cascade_words key.cascade ++ us))))

-- FOREIGN KEY ( names ) REFERENCES name ( names ) [ ON DELETE CASCADE ]
pub put_foreign : (u : ℕ) (key : ForeignKeyDeclaration) → IsForeignKey key → (us : List Word) → Never k.On us → Put element_of u (the k.Foreign ▸ foreign_rest) (elements.ForeignKey key) (foreign_key_words key us) us
unfolding element_of foreign_key_of
put_foreign u key h us v =
    let x : Element = elements.ForeignKey key in
    let g1 : Grammar = the k.OpenParen ▸ Named rules.Idents ▸ reference_part in
    let g2 : Grammar = Named rules.Idents ▸ reference_part in
    let g4 : Grammar = the k.References ▸ Named rules.Named ▸ parent_part in
    let g5 : Grammar = Named rules.Named ▸ parent_part in
    let w6 : List Word = codes "(" ∷ (listed identifier_words key.parent_columns ++ codes ")" ∷ (cascade_words key.cascade ++ us)) in
    let w5 : List Word = name_words key.parent ++ w6 in
    let w3 : List Word = codes ")" ∷ codes "REFERENCES" ∷ w5 in
    let w2 : List Word = listed identifier_words key.columns ++ w3 in
    let named_parent : Put (λ ls. as_foreign_key (foreign_named key.columns (name_of ls))) u g5 x w5 us =
    put_both name_of (λ y. as_foreign_key (foreign_named key.columns y)) u (Named rules.Named) parent_part g5 key.parent x w5 w6 us (λ ps r d. both d)
    (put_name u key.parent h.parent w6 (never_word k.Dot k.OpenParen (codes "(") (drop 1 w6) open_word refl)) (put_parent u key h us v) in
    let behind_columns : Put (λ ls. as_foreign_key (foreign_columned (key.columns, ls))) u reference_part x w3 us =
    put_word (λ ls. as_foreign_key (foreign_columned (key.columns, ls))) (λ ls. as_foreign_key (foreign_named key.columns (name_of (drop 1 ls)))) u reference_part g4 x k.CloseParen (codes ")") (codes "REFERENCES" ∷ w5) us close_word (λ ps r d. both (token refl d)) (λ p ls. refl)
    (put_word (λ ls. as_foreign_key (foreign_named key.columns (name_of (drop 1 ls)))) (λ ls. as_foreign_key (foreign_named key.columns (name_of ls))) u g4 g5 x k.References (codes "REFERENCES") w5 us references_word (λ ps r d. both (token refl d)) (λ p ls. refl) named_parent) in
    put_word element_of (λ ls. as_foreign_key (foreign_columned (identifiers_of (drop 2 ls)))) u (the k.Foreign ▸ foreign_rest) foreign_rest x k.Foreign (codes "FOREIGN") (codes "KEY" ∷ codes "(" ∷ w2) us foreign_word (λ ps r d. both (token refl d)) (λ p ls. refl)
    (put_word (λ ls. as_foreign_key (foreign_columned (identifiers_of (drop 2 ls)))) (λ ls. as_foreign_key (foreign_columned (identifiers_of (drop 1 ls)))) u foreign_rest g1 x k.Key (codes "KEY") (codes "(" ∷ w2) us key_word (λ ps r d. both (token refl d)) (λ p ls. refl)
    (put_word (λ ls. as_foreign_key (foreign_columned (identifiers_of (drop 1 ls)))) (λ ls. as_foreign_key (foreign_columned (identifiers_of ls))) u g1 g2 x k.OpenParen (codes "(") w2 us open_word (λ ps r d. both (token refl d)) (λ p ls. refl)
    (put_both identifiers_of (λ y. as_foreign_key (foreign_columned y)) u (Named rules.Idents) reference_part g2 key.columns x w2 w3 us (λ ps r d. both d) (put_names u key.columns h.columns w3 (no_comma (codes "REFERENCES" ∷ w5))) behind_columns)))
