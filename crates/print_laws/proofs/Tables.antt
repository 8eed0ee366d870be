-- Tables that are put are read back.
use Rattle.std.proofs.Common.{◌≡◌, ℕ, zero, suc, ◌≤◌, Bool, true, false, ◌&&◌, List, [], ◌∷◌, ◌++◌, length, drop, codes, Option, Some, None, refl, sym, ap, ◌∙◌, subst, arith, append_assoc, append-nil, ◌⊎◌, inl, inr}
use Rattle.std.proofs.lemmas.Bool.Decides.{nat_tests}
use Rattle.sql_print.specs.row_types.specs.declared.declaration.ColumnDeclaration.{ColumnDeclaration}
use Rattle.sql_print.specs.row_types.specs.declared.declaration.ForeignKeyDeclaration.{ForeignKeyDeclaration}
use Rattle.sql_print.specs.row_types.specs.declared.declaration.TableDeclaration.{TableDeclaration}
use Rattle.sql_print.specs.sql_tokens.specs.declared.kind.Kind.{Kind}
use Rattle.sql_print.specs.sql_tokens.specs.declared.kind.Kind.TheVariants as k
use Rattle.sql_print.specs.sql_tokens.specs.Kinds.{is_kind}
use Rattle.sql_print.specs.sql_tokens.specs.Words.{word_kind}
use Rattle.sql_print.specs.sql_tokens.specs.Lexing.{Lexeme, lexeme}
use Rattle.sql_print.specs.sql_grammar.specs.declared.rule.Rule.TheVariants as rules
use Rattle.sql_print.specs.sql_grammar.specs.declared.test.Test.TheVariants.{Only, Name, Column}
use Rattle.sql_print.specs.sql_grammar.specs.Tests.{passes}
use Rattle.sql_print.specs.sql_grammar.specs.Grammar.{Grammar, Parts, Part, Reads, Named, Token, token, both, this, that, empty, named}
use Rattle.sql_print.specs.sql_grammar.specs.Notation.{the, ◌▸◌}
use Rattle.sql_print.specs.sql_grammar.specs.Sql.{rule}
use Rattle.sql_print.specs.sql_grammar.specs.Tables.{after_key, attribute, cached_after_foreign, cached_after_key, cached_table, column_rest, foreign_rest, key_rest, table}
use Rattle.sql_print.specs.sql_subset.specs.Lines.{kinds_in}
use Rattle.sql_print.specs.sql_phrases.specs.declared.tables.CacheTable.{CacheTable}
use Rattle.sql_print.specs.sql_phrases.specs.declared.tables.Element.{Element}
use Rattle.sql_print.specs.sql_phrases.specs.declared.tables.Element.TheVariants as elements
use Rattle.sql_print.specs.sql_phrases.specs.declared.tables.TableAttribute.{TableAttribute}
use Rattle.sql_print.specs.sql_phrases.specs.declared.tables.TableAttribute.TheVariants as attributes
use Rattle.sql_print.specs.sql_phrases.specs.Reading.{at_comma, begins, chained, name_of, past_one}
use Rattle.sql_print.specs.sql_phrases.specs.Tables.{as_column, closes, column_of, element_of, elements_of, table_named, table_of, with_element}
use Rattle.sql_print.specs.sql_phrases.proofs.Shrinking.{element_shrinks}
use Rattle.sql_print.specs.sql_words.specs.Words.{Word, identifier_words, listed, more, name_words}
use Rattle.sql_print.specs.sql_words.specs.Tables.{attribute_words, cascade_words, column_words, foreign_words, key_words, mark_words, table_words, type_words}
use Rattle.print_laws.proofs.Columns.{Behind, IsColumn, no_close, put_column}
use Rattle.print_laws.proofs.Fine.{IsFine, fine_more}
use Rattle.print_laws.proofs.Keys.{AreNames, IsForeignKey, foreign_key_words, put_foreign, put_key}
use Rattle.print_laws.proofs.Keywords.{close_word, comma_word, not_word, open_word, propagate_word, readonly_word}
use Rattle.print_laws.proofs.Lexed.{begun_by, tokens}
use Rattle.print_laws.proofs.Lists.{AllGood, SomeGood}
use Rattle.print_laws.proofs.Names.{IsName, identifier_lexes, put_name}
use Rattle.print_laws.proofs.Put.{Never, Put, never_word, put_as, put_both, put_last, put_map, put_word, put_words}
use Rattle.print_laws.proofs.WordKinds.{identifier_word, other_kind}

-- a key of one column or more, or none
abbrev pub IsKey : Option (List (List ℕ)) → Type 0
IsKey None = Unit {0}
IsKey (Some names) = AreNames names

abbrev pub IsForeign : Option ForeignKeyDeclaration → Type 0
IsForeign None = Unit {0}
IsForeign (Some key) = IsForeignKey key

-- a table such as a line can define
pub record IsTable (t : TableDeclaration) : Type 0 where
  pub name : IsName t.name
  pub columns : SomeGood IsColumn t.columns
  pub key : IsKey t.primary_key
  pub foreign : IsForeign t.foreign_key

-- behind a table so far, the tokens are read as this table, its `)` behind it, and the grammar reads them on this level
pub record RestSaid (u : ℕ) (g : Grammar) (t s : CacheTable) (ls : List Lexeme) (us : List Word) : Type 0 where
  pub at : ℕ
  pub reads : (n : ℕ) → length ls ≤ n → past_one (chained at_comma with_element element_of n (t, ls)) ≡ (s, tokens at us)
  pub spells : (ps : Parts) → Reads rule 32 ps (kinds_in (tokens at us)) → Reads rule 32 (Part u g ps) (kinds_in ls)

pub record Rests (u : ℕ) (g : Grammar) (t s : CacheTable) (ws us : List Word) : Type 0 where
  pub says : (i : ℕ) → RestSaid u g t s (tokens i ws) us
  pub fine : IsFine us → IsFine ws

table_stops : (n : ℕ) (t : CacheTable) (ls : List Lexeme) → at_comma ls ≡ false → chained at_comma with_element element_of n (t, ls) ≡ (t, ls)
table_stops zero t ls h = refl
table_stops (suc n) t ls h = rw h

-- the `)` of a table
rests_close : (u : ℕ) (g : Grammar) (t : CacheTable) (us : List Word) → ((ps : Parts) (r : List Kind) → Reads rule 32 ps r → Reads rule 32 (Part u g ps) (k.CloseParen ∷ r)) → Rests u g t t (codes ")" ∷ us) us
rests_close u g t us f = record {
  says = λ i. let (j, e) = begun_by k.CloseParen (codes ")") close_word i us in
      record {
        at = j;
        reads = λ n l. ap (λ (x : CacheTable × List Lexeme). past_one x) (table_stops n t (tokens i (codes ")" ∷ us)) (never_word k.Comma k.CloseParen (codes ")") us close_word refl i)) ∙ ap (λ (ls : List Lexeme). let y : CacheTable × List Lexeme = (t, drop 1 ls) in y) e;
        spells = λ ps d. subst (λ (ls : List Lexeme). Reads rule 32 (Part u g ps) (kinds_in ls)) (sym e) (f ps (kinds_in (tokens j us)) d);
      };
  fine = λ h. fine_more (codes ")") us close_word.fine h;
}

table_goes : (x : Element) (t s : CacheTable) (ls ls1 ls2 : List Lexeme) (end : CacheTable × List Lexeme) (p : ℕ) → ls ≡ lexeme k.Comma p (codes ",") ∷ ls1 → element_of ls1 ≡ (x, ls2)
    → ((n : ℕ) → length ls2 ≤ n → past_one (chained at_comma with_element element_of n (with_element k.Comma t x, ls2)) ≡ end)
    → (n : ℕ) → length ls ≤ n → past_one (chained at_comma with_element element_of n (t, ls)) ≡ end
table_goes x t s ls ls1 ls2 end p e d c zero h = let l : suc (length ls1) ≤ 0 = rw e at h in absurd (omega arith)
table_goes x t s ls ls1 ls2 end p e d c (suc n) h =
    let l : suc (length ls1) ≤ suc n = rw e at h in
    let m : length ls2 ≤ length ls1 = rw d at (element_shrinks ls1) in
    rw e (ap (λ (y : Element × List Lexeme). past_one (chained at_comma with_element element_of n (with_element k.Comma t y.0, y.1))) d ∙ c n (omega arith))

-- one element more
rests_more : (u : ℕ) (g h e : Grammar) (x : Element) (t s : CacheTable) (ws vs us : List Word) → ((ps : Parts) (r : List Kind) → Reads rule 32 (Part u e (Part u h ps)) r → Reads rule 32 (Part u g ps) (k.Comma ∷ r))
    → Put element_of u e x ws vs → Rests u h (with_element k.Comma t x) s vs us → Rests u g t s (codes "," ∷ ws) us
rests_more u g h e x t s ws vs us f p q = record {
  says = λ i. let (j, b) = begun_by k.Comma (codes ",") comma_word i ws in
      let a = p.says j in
      let c = q.says a.at in
      record {
        at = c.at;
        reads = table_goes x t s (tokens i (codes "," ∷ ws)) (tokens j ws) (tokens a.at vs) (s, tokens c.at us) (suc i) b a.reads c.reads;
        spells = λ ps d. subst (λ (ls : List Lexeme). Reads rule 32 (Part u g ps) (kinds_in ls)) (sym b) (f ps (kinds_in (tokens j ws)) (a.spells (Part u h ps) (c.spells ps d)));
      };
  fine = λ z. fine_more (codes ",") ws comma_word.fine (p.fine (q.fine z));
}

rests_words : (u : ℕ) (g : Grammar) (t s : CacheTable) (ws vs us : List Word) → ws ≡ vs → Rests u g t s ws us → Rests u g t s vs us
rests_words u g t s ws vs us e q = subst (λ (xs : List Word). Rests u g t s xs us) e q

-- a column among the elements
and_false : (b : Bool) → b && false ≡ false
and_false true = refl
and_false false = refl

closes_not : (w : Kind) (l : Lexeme) (ls : List Lexeme) → begins k.CloseParen ls ≡ false → closes w (l ∷ ls) ≡ false
closes_not w l ls h = ap (λ (b : Bool). is_kind l.kind w && b) h ∙ and_false (is_kind l.kind w)

is_column : (l : Lexeme) (ls : List Lexeme) → passes Name l.kind ≡ true → begins k.CloseParen ls ≡ false → element_of (l ∷ ls) ≡ as_column (column_of (l ∷ ls))
unfolding element_of
is_column l ls p h =
    rw (other_kind Name l.kind k.Primary p refl, other_kind Name l.kind k.Foreign p refl, closes_not k.Readonly l ls h, closes_not k.Propagate l ls h, other_kind Name l.kind k.Not p refl) refl

column_goes : (c : ColumnDeclaration) → IsColumn c → (ws : List Word) → Never k.CloseParen ws → (i : ℕ) → element_of (tokens i (c.name ∷ ws)) ≡ as_column (column_of (tokens i (c.name ∷ ws)))
column_goes c h ws v i =
    let (j, e) = begun_by (word_kind c.name) c.name (identifier_lexes c.name h.name.word) i ws in
    ap (λ (ls : List Lexeme). element_of ls) e ∙ (is_column (lexeme (word_kind c.name) (suc i) c.name) (tokens j ws) (identifier_word c.name h.name.word).passes (v j) ∙ ap (λ (ls : List Lexeme). as_column (column_of ls)) (sym e))

put_column_element : (u : ℕ) (c : ColumnDeclaration) → IsColumn c → (us : List Word) → Behind us → Put element_of u (Token Name ▸ column_rest) (elements.Column c) (column_words c ++ us) us
put_column_element u c h us b =
    put_as element_of (λ ls. as_column (column_of ls)) u (Token Name ▸ column_rest) (Token Name ▸ column_rest) (elements.Column c) (column_words c ++ us) us (λ ps r d. d) (column_goes c h ((type_words c.ty ++ mark_words c.not_null c.primary_key) ++ us) (no_close c.ty (mark_words c.not_null c.primary_key) us))
    (put_map column_of (λ x. as_column x) u (Token Name ▸ column_rest) c (elements.Column c) (column_words c ++ us) us (λ ls. refl) (put_column u c h us b))

-- where a table goes on with a comma, or ends
goes_on : (us : List Word) → Behind (codes "," ∷ us)
goes_on us = record { opening = never_word k.OpenParen k.Comma (codes ",") us comma_word refl; not = never_word k.Not k.Comma (codes ",") us comma_word refl; primary = never_word k.Primary k.Comma (codes ",") us comma_word refl }

ends : (us : List Word) → Behind (codes ")" ∷ us)
ends us = record { opening = never_word k.OpenParen k.CloseParen (codes ")") us close_word refl; not = never_word k.Not k.CloseParen (codes ")") us close_word refl; primary = never_word k.Primary k.CloseParen (codes ")") us close_word refl }

-- the words behind the columns
abbrev behind_foreign : Option TableAttribute → List Word → List Word
behind_foreign a us = attribute_words a ++ codes ")" ∷ us

abbrev behind_key : Option ForeignKeyDeclaration → Option TableAttribute → List Word → List Word
behind_key f a us = foreign_words f ++ behind_foreign a us

abbrev behind_columns : Option (List (List ℕ)) → Option ForeignKeyDeclaration → Option TableAttribute → List Word → List Word
behind_columns key f a us = key_words key ++ behind_key f a us

foreign_goes : (a : Option TableAttribute) (us : List Word) → Behind (behind_foreign a us)
foreign_goes None us = ends us
foreign_goes (Some attributes.ReadOnly) us = goes_on _
foreign_goes (Some attributes.Propagate) us = goes_on _
foreign_goes (Some attributes.NotPropagate) us = goes_on _

key_goes : (f : Option ForeignKeyDeclaration) (a : Option TableAttribute) (us : List Word) → Behind (behind_key f a us)
key_goes None a us = foreign_goes a us
key_goes (Some f) a us = goes_on _

columns_go : (key : Option (List (List ℕ))) (f : Option ForeignKeyDeclaration) (a : Option TableAttribute) (us : List Word) → Behind (behind_columns key f a us)
columns_go None f a us = key_goes f a us
columns_go (Some names) f a us = goes_on _

more_go : (cs : List ColumnDeclaration) (key : Option (List (List ℕ))) (f : Option ForeignKeyDeclaration) (a : Option TableAttribute) (us : List Word) → Behind (more column_words cs ++ behind_columns key f a us)
more_go [] key f a us = columns_go key f a us
more_go (c ∷ cs) key f a us = goes_on _

no_on : (a : Option TableAttribute) (us : List Word) → Never k.On (behind_foreign a us)
no_on None us = never_word k.On k.CloseParen (codes ")") us close_word refl
no_on (Some attributes.ReadOnly) us = never_word k.On k.Comma (codes ",") _ comma_word refl
no_on (Some attributes.Propagate) us = never_word k.On k.Comma (codes ",") _ comma_word refl
no_on (Some attributes.NotPropagate) us = never_word k.On k.Comma (codes ",") _ comma_word refl

-- the same words, associated otherwise
key_words_are : (names : List (List ℕ)) (us : List Word) → codes "," ∷ codes "PRIMARY" ∷ codes "KEY" ∷ codes "(" ∷ (listed identifier_words names ++ codes ")" ∷ us) ≡ key_words (Some names) ++ us
key_words_are names us = ap (λ (ws : List Word). codes "," ∷ codes "PRIMARY" ∷ codes "KEY" ∷ codes "(" ∷ ws) (sym (append_assoc (listed identifier_words names) (codes ")" ∷ []) us))

regrouped : (a b c d us : List Word) (close references opening : Word) → a ++ close ∷ references ∷ (b ++ opening ∷ (c ++ close ∷ (d ++ us))) ≡ ((a ++ close ∷ []) ++ (references ∷ ((b ++ opening ∷ (c ++ close ∷ [])) ++ d))) ++ us
regrouped a b c d us close references opening = simp append_assoc

foreign_words_are : (key : ForeignKeyDeclaration) (us : List Word) → codes "," ∷ foreign_key_words key us ≡ foreign_words (Some key) ++ us
foreign_words_are key us =
    ap (λ (ws : List Word). codes "," ∷ codes "FOREIGN" ∷ codes "KEY" ∷ codes "(" ∷ ws) (regrouped (listed identifier_words key.columns) (name_words key.parent) (listed identifier_words key.parent_columns) (cascade_words key.cascade) us (codes ")") (codes "REFERENCES") (codes "("))

-- the attribute of a table
abbrev attribute_part : TableAttribute → Grammar
attribute_part attributes.ReadOnly = the k.Readonly
attribute_part attributes.Propagate = the k.Propagate
attribute_part attributes.NotPropagate = the k.Not ▸ the k.Propagate

closed_by : (i : ℕ) (us : List Word) → begins k.CloseParen (tokens i (codes ")" ∷ us)) ≡ true
closed_by i us = ap (λ (ls : List Lexeme). begins k.CloseParen ls) (begun_by k.CloseParen (codes ")") close_word i us).1

readonly_is : (p : ℕ) (ls : List Lexeme) → begins k.CloseParen ls ≡ true → element_of (lexeme k.Readonly p (codes "READONLY") ∷ ls) ≡ (elements.Attribute attributes.ReadOnly, ls)
unfolding element_of
readonly_is p ls h = rw h refl

propagate_is : (p : ℕ) (ls : List Lexeme) → begins k.CloseParen ls ≡ true → element_of (lexeme k.Propagate p (codes "PROPAGATE") ∷ ls) ≡ (elements.Attribute attributes.Propagate, ls)
unfolding element_of
propagate_is p ls h = rw h refl

put_attribute : (a : TableAttribute) (us : List Word) → Put element_of 0 (attribute_part a) (elements.Attribute a) (drop 1 (attribute_words (Some a)) ++ codes ")" ∷ us) (codes ")" ∷ us)
unfolding element_of
put_attribute attributes.ReadOnly us = record {
  says = λ i. let (j, e) = begun_by k.Readonly (codes "READONLY") readonly_word i (codes ")" ∷ us) in
      record {
        at = j;
        reads = ap (λ (ls : List Lexeme). element_of ls) e ∙ readonly_is (suc i) (tokens j (codes ")" ∷ us)) (closed_by j us);
        spells = λ ps d. subst (λ (ls : List Lexeme). Reads rule 32 (Part 0 (the k.Readonly) ps) (kinds_in ls)) (sym e) (token refl d);
      };
  fine = λ h. fine_more (codes "READONLY") (codes ")" ∷ us) readonly_word.fine h;
}
put_attribute attributes.Propagate us = record {
  says = λ i. let (j, e) = begun_by k.Propagate (codes "PROPAGATE") propagate_word i (codes ")" ∷ us) in
      record {
        at = j;
        reads = ap (λ (ls : List Lexeme). element_of ls) e ∙ propagate_is (suc i) (tokens j (codes ")" ∷ us)) (closed_by j us);
        spells = λ ps d. subst (λ (ls : List Lexeme). Reads rule 32 (Part 0 (the k.Propagate) ps) (kinds_in ls)) (sym e) (token refl d);
      };
  fine = λ h. fine_more (codes "PROPAGATE") (codes ")" ∷ us) propagate_word.fine h;
}
put_attribute attributes.NotPropagate us =
    put_word element_of (λ ls. (elements.Attribute attributes.NotPropagate, drop 1 ls)) 0 (the k.Not ▸ the k.Propagate) (the k.Propagate) (elements.Attribute attributes.NotPropagate) k.Not (codes "NOT") (codes "PROPAGATE" ∷ codes ")" ∷ us) (codes ")" ∷ us) not_word (λ ps r d. both (token refl d)) (λ p ls. refl)
    (put_last (λ ls. (elements.Attribute attributes.NotPropagate, drop 1 ls)) 0 (the k.Propagate) (elements.Attribute attributes.NotPropagate) k.Propagate (codes "PROPAGATE") (codes ")" ∷ us) propagate_word (λ ps r d. token refl d) (λ p ls. refl))

-- how a table ends, and what attributes it may have
record Ending (Allowed : TableAttribute → Type 0) (g : Grammar) : Type 0 where
  close : (ps : Parts) (r : List Kind) → Reads rule 32 ps r → Reads rule 32 (Part 0 g ps) (k.CloseParen ∷ r)
  attribute : (a : TableAttribute) → Allowed a → (ps : Parts) (r : List Kind) → Reads rule 32 (Part 0 (attribute_part a) (Part 0 (the k.CloseParen) ps)) r → Reads rule 32 (Part 0 g ps) (k.Comma ∷ r)

-- how a foreign key stands
abbrev Foreigns : Grammar → Grammar → Type 0
Foreigns g gf = (ps : Parts) (r : List Kind) → Reads rule 32 (Part 0 (the k.Foreign ▸ foreign_rest) (Part 0 gf ps)) r → Reads rule 32 (Part 0 g ps) (k.Comma ∷ r)

-- how the rest of a table is read: behind a column, behind a key, behind a foreign key
record Tabled (Allowed : TableAttribute → Type 0) (g gk gf : Grammar) : Type 0 where
  columns_end : Ending Allowed g
  key_end : Ending Allowed gk
  foreign_end : Ending Allowed gf
  column : (ps : Parts) (r : List Kind) → Reads rule 32 (Part 0 (Token Name ▸ column_rest) (Part 0 g ps)) r → Reads rule 32 (Part 0 g ps) (k.Comma ∷ r)
  key : (ps : Parts) (r : List Kind) → Reads rule 32 (Part 0 (the k.Primary ▸ key_rest) (Part 0 gk ps)) r → Reads rule 32 (Part 0 g ps) (k.Comma ∷ r)
  foreign : Foreigns g gf
  key_foreign : Foreigns gk gf

abbrev AllowedIn : (TableAttribute → Type 0) → Option TableAttribute → Type 0
AllowedIn Allowed None = Unit {0}
AllowedIn Allowed (Some a) = Allowed a

abbrev with_attribute : Option TableAttribute → CacheTable → CacheTable
with_attribute None t = t
with_attribute (Some a) t = with_element k.Comma t (elements.Attribute a)

abbrev with_foreign : Option ForeignKeyDeclaration → CacheTable → CacheTable
with_foreign None t = t
with_foreign (Some key) t = with_element k.Comma t (elements.ForeignKey key)

abbrev with_names : Option (List (List ℕ)) → CacheTable → CacheTable
with_names None t = t
with_names (Some names) t = with_element k.Comma t (elements.Key names)

abbrev with_columns : List ColumnDeclaration → CacheTable → CacheTable
with_columns cs t = record t { table = record t.table { columns = t.table.columns ++ cs } }

put_end : (Allowed : TableAttribute → Type 0) (g : Grammar) → Ending Allowed g → (a : Option TableAttribute) → AllowedIn Allowed a → (t : CacheTable) (us : List Word) → Rests 0 g t (with_attribute a t) (behind_foreign a us) us
put_end Allowed g e None h t us = rests_close 0 g t us e.close
put_end Allowed g e (Some attributes.ReadOnly) h t us =
    rests_more 0 g (the k.CloseParen) (attribute_part attributes.ReadOnly) (elements.Attribute attributes.ReadOnly) t (with_attribute (Some attributes.ReadOnly) t) (codes "READONLY" ∷ codes ")" ∷ us) (codes ")" ∷ us) us (e.attribute attributes.ReadOnly h) (put_attribute attributes.ReadOnly us) (rests_close 0 (the k.CloseParen) _ us (λ ps r d. token refl d))
put_end Allowed g e (Some attributes.Propagate) h t us =
    rests_more 0 g (the k.CloseParen) (attribute_part attributes.Propagate) (elements.Attribute attributes.Propagate) t (with_attribute (Some attributes.Propagate) t) (codes "PROPAGATE" ∷ codes ")" ∷ us) (codes ")" ∷ us) us (e.attribute attributes.Propagate h) (put_attribute attributes.Propagate us) (rests_close 0 (the k.CloseParen) _ us (λ ps r d. token refl d))
put_end Allowed g e (Some attributes.NotPropagate) h t us =
    rests_more 0 g (the k.CloseParen) (attribute_part attributes.NotPropagate) (elements.Attribute attributes.NotPropagate) t (with_attribute (Some attributes.NotPropagate) t) (codes "NOT" ∷ codes "PROPAGATE" ∷ codes ")" ∷ us) (codes ")" ∷ us) us (e.attribute attributes.NotPropagate h) (put_attribute attributes.NotPropagate us) (rests_close 0 (the k.CloseParen) _ us (λ ps r d. token refl d))

module _ (Allowed : TableAttribute → Type 0) (g gk gf : Grammar) (s : Tabled Allowed g gk gf) (a : Option TableAttribute) (allowed : AllowedIn Allowed a) where
  put_foreign_rest : (h : Grammar) → Ending Allowed h → Foreigns h gf → (f : Option ForeignKeyDeclaration) → IsForeign f → (t : CacheTable) (us : List Word) → Rests 0 h t (with_attribute a (with_foreign f t)) (behind_key f a us) us
  put_foreign_rest h e d None i t us = put_end Allowed h e a allowed t us
  put_foreign_rest h e d (Some f) i t us =
      rests_words 0 h t (with_attribute a (with_foreign (Some f) t)) (codes "," ∷ foreign_key_words f (behind_foreign a us)) (behind_key (Some f) a us) us (foreign_words_are f (behind_foreign a us))
      (rests_more 0 h gf (the k.Foreign ▸ foreign_rest) (elements.ForeignKey f) t (with_attribute a (with_foreign (Some f) t)) (foreign_key_words f (behind_foreign a us)) (behind_foreign a us) us d (put_foreign 0 f i (behind_foreign a us) (no_on a us)) (put_end Allowed gf s.foreign_end a allowed (with_foreign (Some f) t) us))

  put_key_rest : (key : Option (List (List ℕ))) → IsKey key → (f : Option ForeignKeyDeclaration) → IsForeign f → (t : CacheTable) (us : List Word) → Rests 0 g t (with_attribute a (with_foreign f (with_names key t))) (behind_columns key f a us) us
  put_key_rest None h f i t us = put_foreign_rest g s.columns_end s.foreign f i t us
  put_key_rest (Some names) h f i t us =
      rests_words 0 g t (with_attribute a (with_foreign f (with_names (Some names) t))) (codes "," ∷ codes "PRIMARY" ∷ codes "KEY" ∷ codes "(" ∷ (listed identifier_words names ++ codes ")" ∷ behind_key f a us)) (behind_columns (Some names) f a us) us (key_words_are names (behind_key f a us))
      (rests_more 0 g gk (the k.Primary ▸ key_rest) (elements.Key names) t (with_attribute a (with_foreign f (with_names (Some names) t))) _ (behind_key f a us) us s.key (put_key 0 names h (behind_key f a us)) (put_foreign_rest gk s.key_end s.key_foreign f i (with_names (Some names) t) us))

  put_columns_rest : (cs : List ColumnDeclaration) → AllGood IsColumn cs → (key : Option (List (List ℕ))) → IsKey key → (f : Option ForeignKeyDeclaration) → IsForeign f → (t : CacheTable) (us : List Word)
      → Rests 0 g t (with_attribute a (with_foreign f (with_names key (with_columns cs t)))) (more column_words cs ++ behind_columns key f a us) us
  put_columns_rest [] c key h f i t us =
      subst (λ (ds : List ColumnDeclaration). Rests 0 g t (with_attribute a (with_foreign f (with_names key (record t { table = record t.table { columns = ds } })))) (behind_columns key f a us) us) (sym (append-nil t.table.columns)) (put_key_rest key h f i t us)
  put_columns_rest (d ∷ cs) (c, r) key h f i t us =
      let rest : List Word = more column_words cs ++ behind_columns key f a us in
      let next : CacheTable = with_element k.Comma t (elements.Column d) in
      let final : List ColumnDeclaration → CacheTable = λ ds. with_attribute a (with_foreign f (with_names key (record t { table = record t.table { columns = ds } }))) in
      rests_words 0 g t (final (t.table.columns ++ d ∷ cs)) (codes "," ∷ (column_words d ++ rest)) (more column_words (d ∷ cs) ++ behind_columns key f a us) us (ap (λ (ws : List Word). codes "," ∷ ws) (sym (append_assoc (column_words d) (more column_words cs) (behind_columns key f a us))))
      (subst (λ (ds : List ColumnDeclaration). Rests 0 g t (final ds) (codes "," ∷ (column_words d ++ rest)) us) (append_assoc t.table.columns (d ∷ []) cs)
      (rests_more 0 g g (Token Name ▸ column_rest) (elements.Column d) t (final ((t.table.columns ++ d ∷ []) ++ cs)) (column_words d ++ rest) rest us s.column (put_column_element 0 d c rest (more_go cs key f a us)) (put_columns_rest cs r key h f i next us)))

  -- behind the name of a table
  abbrev table_rest : Grammar
  table_rest = the k.OpenParen ▸ Token Name ▸ column_rest ▸ g

  abbrev ended : List ℕ → ColumnDeclaration → List ColumnDeclaration → Option (List (List ℕ)) → Option ForeignKeyDeclaration → CacheTable
  ended name c cs key f = with_attribute a (with_foreign f (with_names key (with_columns cs (record { table = record { name = name; columns = c ∷ []; primary_key = None; foreign_key = None }; attribute = None }))))

  abbrev started : List ℕ → ColumnDeclaration → CacheTable
  started name c = record { table = record { name = name; columns = c ∷ []; primary_key = None; foreign_key = None }; attribute = None }

  column_first : {ps : Parts} {r : List Kind} → Reads rule 32 (Part 0 (Token Name ▸ column_rest) (Part 0 g ps)) r → Reads rule 32 (Part 0 (Token Name ▸ column_rest ▸ g) ps) r
  column_first (both (token p d)) = both (token p (both d))

  put_elements : (name : List ℕ) (c : ColumnDeclaration) (cs : List ColumnDeclaration) → IsColumn c → AllGood IsColumn cs → (key : Option (List (List ℕ))) → IsKey key → (f : Option ForeignKeyDeclaration) → IsForeign f → (us : List Word)
      → Put (λ ls. table_named (name, ls)) 0 table_rest (ended name c cs key f) (codes "(" ∷ (column_words c ++ (more column_words cs ++ behind_columns key f a us))) us
  put_elements name c cs h r key k2 f i us =
      let rest : List Word = more column_words cs ++ behind_columns key f a us in
      let p = put_column 0 c h rest (more_go cs key f a us) in
      let q = put_columns_rest cs r key k2 f i (started name c) us in
      let both_read : Put (λ ls. past_one (elements_of name (column_of ls))) 0 (Token Name ▸ column_rest ▸ g) (ended name c cs key f) (column_words c ++ rest) us = record {
        says = λ n. let x = p.says n in
            let y = q.says x.at in
            record { at = y.at; reads = ap (λ (z : ColumnDeclaration × List Lexeme). past_one (elements_of name z)) x.reads ∙ y.reads (length (tokens x.at rest)) (omega arith); spells = λ ps d. column_first (x.spells (Part 0 g ps) (y.spells ps d)) };
        fine = λ z. p.fine (q.fine z);
      } in
      put_word (λ ls. table_named (name, ls)) (λ ls. past_one (elements_of name (column_of ls))) 0 table_rest (Token Name ▸ column_rest ▸ g) (ended name c cs key f) k.OpenParen (codes "(") (column_words c ++ rest) us open_word (λ ps r d. both (token refl d)) (λ m ls. refl) both_read

-- the words of a table, associated otherwise
table_words_are : (n f m k2 g a us : List Word) (opening close : Word) → n ++ opening ∷ (f ++ (m ++ (k2 ++ (g ++ (a ++ close ∷ us))))) ≡ (n ++ opening ∷ (((((f ++ m) ++ k2) ++ g) ++ a) ++ close ∷ [])) ++ us
table_words_are n f m k2 g a us opening close = simp append_assoc

ended_is : (n : List ℕ) (cs : List ColumnDeclaration) (key : Option (List (List ℕ))) (f : Option ForeignKeyDeclaration) (a : Option TableAttribute)
    → ◌≡◌ {A = CacheTable} (with_attribute a (with_foreign f (with_names key (record { table = record { name = n; columns = cs; primary_key = None; foreign_key = None }; attribute = None })))) (record { table = record { name = n; columns = cs; primary_key = key; foreign_key = f }; attribute = a })
ended_is n cs None None None = refl
ended_is n cs None None (Some a) = refl
ended_is n cs None (Some f) None = refl
ended_is n cs None (Some f) (Some a) = refl
ended_is n cs (Some key) None None = refl
ended_is n cs (Some key) None (Some a) = refl
ended_is n cs (Some key) (Some f) None = refl
ended_is n cs (Some key) (Some f) (Some a) = refl

put_tabled : (Allowed : TableAttribute → Type 0) (g gk gf : Grammar) → Tabled Allowed g gk gf → (a : Option TableAttribute) → AllowedIn Allowed a → (t : TableDeclaration) → IsName t.name → (cs : List ColumnDeclaration) → cs ≡ t.columns → SomeGood IsColumn cs → IsKey t.primary_key → IsForeign t.foreign_key → (us : List Word)
    → Put table_of 0 (Named rules.Named ▸ the k.OpenParen ▸ Token Name ▸ column_rest ▸ g) (record { table = t; attribute = a }) (table_words t a ++ us) us
unfolding table_of
put_tabled Allowed g gk gf s a l t h [] e c key f us = absurd c
put_tabled Allowed g gk gf s a l t h (c ∷ cs) e (d, r) key f us =
    let ws : List Word = codes "(" ∷ (column_words c ++ (more column_words cs ++ behind_columns t.primary_key t.foreign_key a us)) in
    let x : CacheTable = record { table = record { name = t.name; columns = c ∷ cs; primary_key = t.primary_key; foreign_key = t.foreign_key }; attribute = a } in
    let inner = subst (λ (y : CacheTable). Put (λ ls. table_named (t.name, ls)) 0 (the k.OpenParen ▸ Token Name ▸ column_rest ▸ g) y ws us) (ended_is t.name (c ∷ cs) t.primary_key t.foreign_key a) (put_elements Allowed g gk gf s a l t.name c cs d r t.primary_key key t.foreign_key f us) in
    let whole : Put table_of 0 (Named rules.Named ▸ the k.OpenParen ▸ Token Name ▸ column_rest ▸ g) x (name_words t.name ++ ws) us =
    put_both name_of (λ y. table_named y) 0 (Named rules.Named) (the k.OpenParen ▸ Token Name ▸ column_rest ▸ g) (Named rules.Named ▸ the k.OpenParen ▸ Token Name ▸ column_rest ▸ g) t.name x (name_words t.name ++ ws) ws us (λ ps r d. both d)
    (put_name 0 t.name h ws (never_word k.Dot k.OpenParen (codes "(") _ open_word refl)) inner in
    let regroup = put_words table_of 0 (Named rules.Named ▸ the k.OpenParen ▸ Token Name ▸ column_rest ▸ g) x (name_words t.name ++ ws) (table_words x.table a ++ us) us
    (table_words_are (name_words t.name) (column_words c) (more column_words cs) (key_words t.primary_key) (foreign_words t.foreign_key) (attribute_words a) us (codes "(") (codes ")")) whole in
    subst (λ (ds : List ColumnDeclaration). let y : TableDeclaration = record t { columns = ds } in Put table_of 0 (Named rules.Named ▸ the k.OpenParen ▸ Token Name ▸ column_rest ▸ g) (record { table = y; attribute = a }) (table_words y a ++ us) us) e regroup

abbrev None_allowed : TableAttribute → Type 0
None_allowed a = ⊥

abbrev All_allowed : TableAttribute → Type 0
All_allowed a = Unit {0}

-- the console's tables
console_column : {ps : Parts} {r : List Kind} → Reads rule 32 (Part 0 (Token Name ▸ column_rest) (Part 0 (Named rules.Columns) ps)) r → Reads rule 32 (Part 0 (Named rules.Columns) ps) (k.Comma ∷ r)
console_column (both (token p d)) = named (that (both (token refl (that (that (both (token p (both d))))))))

console_key : {ps : Parts} {r : List Kind} → Reads rule 32 (Part 0 (the k.Primary ▸ key_rest) (Part 0 after_key ps)) r → Reads rule 32 (Part 0 (Named rules.Columns) ps) (k.Comma ∷ r)
console_key (both (token p d)) = named (that (both (token refl (this p (both d)))))

console_foreign : {ps : Parts} {r : List Kind} → Reads rule 32 (Part 0 (the k.Foreign ▸ foreign_rest) (Part 0 (the k.CloseParen) ps)) r → Reads rule 32 (Part 0 (Named rules.Columns) ps) (k.Comma ∷ r)
console_foreign (both (token p d)) = named (that (both (token refl (that (this p (both d))))))

key_foreign_is : {ps : Parts} {r : List Kind} → Reads rule 32 (Part 0 (the k.Foreign ▸ foreign_rest) (Part 0 (the k.CloseParen) ps)) r → Reads rule 32 (Part 0 after_key ps) (k.Comma ∷ r)
key_foreign_is (both (token p d)) = that (both (token refl (both (token p (both d)))))

console_tables : Tabled None_allowed (Named rules.Columns) after_key (the k.CloseParen)
console_tables = record {
  columns_end = record { close = λ ps r d. named (this refl (empty d)); attribute = λ a h. absurd h };
  key_end = record { close = λ ps r d. this refl (empty d); attribute = λ a h. absurd h };
  foreign_end = record { close = λ ps r d. token refl d; attribute = λ a h. absurd h };
  column = λ ps r d. console_column d;
  key = λ ps r d. console_key d;
  foreign = λ ps r d. console_foreign d;
  key_foreign = λ ps r d. key_foreign_is d;
}

-- a table of the console is read
pub put_table : (t : TableDeclaration) → IsTable t → (us : List Word) → Put table_of 0 table (record { table = t; attribute = None }) (table_words t None ++ us) us
put_table t h us = put_tabled None_allowed (Named rules.Columns) after_key (the k.CloseParen) console_tables None tt t h.name t.columns refl h.columns h.key h.foreign us

-- the tables of a cache group
cached_attribute : (a : TableAttribute) {ps : Parts} {r : List Kind} → Reads rule 32 (Part 0 (attribute_part a) (Part 0 (the k.CloseParen) ps)) r → Reads rule 32 (Part 0 attribute ps) r
cached_attribute attributes.ReadOnly (token p d) = this p d
cached_attribute attributes.Propagate (token p d) = that (this p d)
cached_attribute attributes.NotPropagate (both (token p d)) = that (that (both (token p (both d))))

columns_attribute : (a : TableAttribute) {ps : Parts} {r : List Kind} → Reads rule 32 (Part 0 (attribute_part a) (Part 0 (the k.CloseParen) ps)) r → Reads rule 32 (Part 0 (Named rules.CachedColumns) ps) (k.Comma ∷ r)
columns_attribute attributes.ReadOnly (token p (token q d)) = named (that (both (token refl (that (that (that (this p (this q (empty d)))))))))
columns_attribute attributes.Propagate (token p (token q d)) = named (that (both (token refl (that (that (that (that (this p (this q (empty d))))))))))
columns_attribute attributes.NotPropagate (both (token p d)) = named (that (both (token refl (that (that (this p (both d)))))))

-- a name is READONLY, PROPAGATE or another one
name_cases : (n : Kind) → passes Name n ≡ true → (passes (Only k.Readonly) n ≡ true) ⊎ ((passes (Only k.Propagate) n ≡ true) ⊎ (passes Column n ≡ true))
name_cases n p = by (passes (Only k.Readonly) n) (passes (Only k.Propagate) n) (passes Column n) refl refl refl
  where
    none : passes (Only k.Readonly) n ≡ false → passes (Only k.Propagate) n ≡ false → passes Column n ≡ false → ⊥
    none a b c = absurd (grind (arith, nat_tests))

    by : (a b c : Bool) → passes (Only k.Readonly) n ≡ a → passes (Only k.Propagate) n ≡ b → passes Column n ≡ c → (passes (Only k.Readonly) n ≡ true) ⊎ ((passes (Only k.Propagate) n ≡ true) ⊎ (passes Column n ≡ true))
    by true b c e f g = inl e
    by false true c e f g = inr (inl f)
    by false false true e f g = inr (inr g)
    by false false false e f g = absurd (none e f g)

cached_column : {ps : Parts} {r : List Kind} → Reads rule 32 (Part 0 (Token Name ▸ column_rest) (Part 0 (Named rules.CachedColumns) ps)) r → Reads rule 32 (Part 0 (Named rules.CachedColumns) ps) (k.Comma ∷ r)
cached_column (both (token {k = n} p d)) =
    elim (name_cases n p) [
      | inl q ↦ named (that (both (token refl (that (that (that (this q (that (both d)))))))))
      | inr z ↦ elim z [
        | inl q ↦ named (that (both (token refl (that (that (that (that (this q (that (both d))))))))))
        | inr q ↦ named (that (both (token refl (that (that (that (that (that (both (token q (both d)))))))))))
      ]
    ]

cached_key : {ps : Parts} {r : List Kind} → Reads rule 32 (Part 0 (the k.Primary ▸ key_rest) (Part 0 cached_after_key ps)) r → Reads rule 32 (Part 0 (Named rules.CachedColumns) ps) (k.Comma ∷ r)
cached_key (both (token p d)) = named (that (both (token refl (this p (both d)))))

cached_foreign : {ps : Parts} {r : List Kind} → Reads rule 32 (Part 0 (the k.Foreign ▸ foreign_rest) (Part 0 cached_after_foreign ps)) r → Reads rule 32 (Part 0 (Named rules.CachedColumns) ps) (k.Comma ∷ r)
cached_foreign (both (token p d)) = named (that (both (token refl (that (this p (both d))))))

cached_key_foreign : {ps : Parts} {r : List Kind} → Reads rule 32 (Part 0 (the k.Foreign ▸ foreign_rest) (Part 0 cached_after_foreign ps)) r → Reads rule 32 (Part 0 cached_after_key ps) (k.Comma ∷ r)
cached_key_foreign (both (token p d)) = that (both (token refl (this p (both d))))

cached_tables : Tabled All_allowed (Named rules.CachedColumns) cached_after_key cached_after_foreign
cached_tables = record {
  columns_end = record { close = λ ps r d. named (this refl (empty d)); attribute = λ a h ps r d. columns_attribute a d };
  key_end = record { close = λ ps r d. this refl (empty d); attribute = λ a h ps r d. that (both (token refl (that (cached_attribute a d)))) };
  foreign_end = record { close = λ ps r d. this refl (empty d); attribute = λ a h ps r d. that (both (token refl (cached_attribute a d))) };
  column = λ ps r d. cached_column d;
  key = λ ps r d. cached_key d;
  foreign = λ ps r d. cached_foreign d;
  key_foreign = λ ps r d. cached_key_foreign d;
}

allowed : (a : Option TableAttribute) → AllowedIn All_allowed a
allowed None = tt
allowed (Some a) = tt

-- a table of a cache group is read
pub put_cached_table : (t : TableDeclaration) → IsTable t → (a : Option TableAttribute) (us : List Word) → Put table_of 0 (Named rules.CachedTable) (record { table = t; attribute = a }) (table_words t a ++ us) us
put_cached_table t h a us =
    put_as table_of table_of 0 (Named rules.CachedTable) cached_table (record { table = t; attribute = a }) (table_words t a ++ us) us (λ ps r d. named d) (λ i. refl)
    (put_tabled All_allowed (Named rules.CachedColumns) cached_after_key cached_after_foreign cached_tables a (allowed a) t h.name t.columns refl h.columns h.key h.foreign us)
