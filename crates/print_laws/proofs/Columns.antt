-- Columns that are put are read back.
use Rattle.std.proofs.Common.{◌≡◌, ℕ, Bool, true, false, cond, List, [], ◌∷◌, ◌++◌, drop, codes, Option, Some, None, refl, sym, ap, append_assoc}
use Rattle.sql_print.specs.row_types.specs.declared.declaration.TypeDeclaration.{TypeDeclaration}
use Rattle.sql_print.specs.row_types.specs.declared.declaration.TypeDeclaration.TheVariants as types
use Rattle.sql_print.specs.row_types.specs.declared.declaration.ColumnDeclaration.{ColumnDeclaration}
use Rattle.sql_print.specs.sql_tokens.specs.declared.kind.Kind.TheVariants as k
use Rattle.sql_print.specs.sql_tokens.specs.Words.{word_kind}
use Rattle.sql_print.specs.sql_tokens.specs.Lexing.{Lexeme}
use Rattle.sql_print.specs.sql_grammar.specs.declared.test.Test.TheVariants.{Name, Whole}
use Rattle.sql_print.specs.sql_grammar.specs.Grammar.{Grammar, Empty, Token, token, both, this, that, empty}
use Rattle.sql_print.specs.sql_grammar.specs.Notation.{optional, the, ◌▸◌}
use Rattle.sql_print.specs.sql_grammar.specs.Tables.{column_rest, column_type}
use Rattle.sql_print.specs.sql_phrases.specs.Reading.{begins, first_text, identifier_of}
use Rattle.sql_print.specs.sql_phrases.specs.Tables.{column_named, column_of, column_typed, number_type, past_two, past_word, text_type, time_type, type_of}
use Rattle.sql_print.specs.sql_words.specs.Words.{Word, where_so}
use Rattle.sql_print.specs.sql_words.specs.Tables.{column_words, mark_words, type_words}
use Rattle.print_laws.proofs.Keywords.{close_word, comma_word, key_word, not_word, null_word, number_word, open_word, primary_word, timestamp_word, tt_bigint_word, tt_integer_word, varchar2_word}
use Rattle.print_laws.proofs.Literals.{IsDigits, digits_lexes, digits_whole}
use Rattle.print_laws.proofs.Names.{IsIdentifier, put_identifier}
use Rattle.print_laws.proofs.Put.{Never, Put, never_word, parted, put_as, put_both, put_last, put_map, put_none, put_word, put_words}

-- a scale that may be left out
abbrev pub IsScale : Option (List ℕ) → Type 0
IsScale None = Unit {0}
IsScale (Some digits) = IsDigits digits

-- the numbers of a type are digits
abbrev pub IsType : TypeDeclaration → Type 0
IsType types.TtInteger = Unit {0}
IsType types.TtBigint = Unit {0}
IsType (types.Varchar2 digits) = IsDigits digits
IsType (types.Number precision scale) = IsDigits precision × IsScale scale
IsType types.Timestamp = Unit {0}

pub record IsColumn (c : ColumnDeclaration) : Type 0 where
  pub name : IsIdentifier c.name
  pub ty : IsType c.ty

-- what may stand behind a column
pub record Behind (us : List Word) : Type 0 where
  pub opening : Never k.OpenParen us
  pub not : Never k.Not us
  pub primary : Never k.Primary us

abbrev Typed : Type 0
Typed = TypeDeclaration × List Lexeme

put_varchar2 : (u : ℕ) (n : List ℕ) → IsDigits n → (us : List Word) → Put type_of u column_type (types.Varchar2 n) (codes "VARCHAR2" ∷ codes "(" ∷ n ∷ codes ")" ∷ us) us
unfolding type_of
put_varchar2 u n h us =
    let x : TypeDeclaration = types.Varchar2 n in
    let end : Grammar = optional k.Byte Empty ▸ the k.CloseParen in
    let opened : List Lexeme → Typed = λ ls. (types.Varchar2 (first_text ls), drop 1 (past_word k.Byte (drop 1 ls))) in
    let sized : List Lexeme → Typed = λ ls. (types.Varchar2 n, drop 1 (past_word k.Byte ls)) in
    put_word type_of text_type u column_type (the k.OpenParen ▸ Token Whole ▸ end) x k.Varchar2 (codes "VARCHAR2") (codes "(" ∷ n ∷ codes ")" ∷ us) us varchar2_word (λ ps r d. that (that (this refl d))) (λ p ls. refl)
    (put_word text_type opened u (the k.OpenParen ▸ Token Whole ▸ end) (Token Whole ▸ end) x k.OpenParen (codes "(") (n ∷ codes ")" ∷ us) us open_word (λ ps r d. both (token refl d)) (λ p ls. refl)
    (put_word opened sized u (Token Whole ▸ end) end x (word_kind n) n (codes ")" ∷ us) us (digits_lexes n h) (λ ps r d. both (token (digits_whole n h) d)) (λ p ls. refl)
    (put_last sized u end x k.CloseParen (codes ")") us close_word (λ ps r d. both (that (empty (token refl d)))) (λ p ls. refl))))

abbrev precise : List ℕ → List Lexeme → Typed
precise n ls = cond (begins k.Comma ls) (types.Number n (Some (first_text (drop 1 ls))), drop 3 ls) (types.Number n None, drop 1 ls)

abbrev scale_rest : Grammar
scale_rest = optional k.Comma (Token Whole) ▸ the k.CloseParen

put_scale : (u : ℕ) (n : List ℕ) (scale : Option (List ℕ)) → IsScale scale → (us ws : List Word) → ws ≡ type_words (types.Number n scale) ++ us → Put (precise n) u scale_rest (types.Number n scale) (drop 3 ws) us
put_scale u n None h us ws e =
    put_words (precise n) u scale_rest (types.Number n None) (codes ")" ∷ us) (drop 3 ws) us (ap (λ (vs : List Word). drop 3 vs) (sym e))
    (put_last (precise n) u scale_rest (types.Number n None) k.CloseParen (codes ")") us close_word (λ ps r d. both (that (empty (token refl d)))) (λ p ls. refl))
put_scale u n (Some m) h us ws e =
    let x : TypeDeclaration = types.Number n (Some m) in
    let scaled : List Lexeme → Typed = λ ls. (types.Number n (Some (first_text ls)), drop 2 ls) in
    let over : List Lexeme → Typed = λ ls. (types.Number n (Some m), drop 1 ls) in
    put_words (precise n) u scale_rest x (codes "," ∷ m ∷ codes ")" ∷ us) (drop 3 ws) us (ap (λ (vs : List Word). drop 3 vs) (sym e))
    (put_word (precise n) scaled u scale_rest (Token Whole ▸ the k.CloseParen) x k.Comma (codes ",") (m ∷ codes ")" ∷ us) us comma_word (λ ps r d. both (this refl (parted d))) (λ p ls. refl)
    (put_word scaled over u (Token Whole ▸ the k.CloseParen) (the k.CloseParen) x (word_kind m) m (codes ")" ∷ us) us (digits_lexes m h) (λ ps r d. both (token (digits_whole m h) d)) (λ p ls. refl)
    (put_last over u (the k.CloseParen) x k.CloseParen (codes ")") us close_word (λ ps r d. token refl d) (λ p ls. refl))))

put_number : (u : ℕ) (n : List ℕ) (scale : Option (List ℕ)) → IsDigits n → IsScale scale → (us ws : List Word) → ws ≡ type_words (types.Number n scale) ++ us → Put type_of u column_type (types.Number n scale) (codes "NUMBER" ∷ codes "(" ∷ n ∷ drop 3 ws) us
unfolding type_of
put_number u n scale h m us ws e =
    let x : TypeDeclaration = types.Number n scale in
    let opened : List Lexeme → Typed = λ ls. cond (begins k.Comma (drop 1 ls)) (types.Number (first_text ls) (Some (first_text (drop 2 ls))), drop 4 ls) (types.Number (first_text ls) None, drop 2 ls) in
    put_word type_of number_type u column_type (the k.OpenParen ▸ Token Whole ▸ scale_rest) x k.Number (codes "NUMBER") (codes "(" ∷ n ∷ drop 3 ws) us number_word (λ ps r d. that (that (that (this refl d)))) (λ p ls. refl)
    (put_word number_type opened u (the k.OpenParen ▸ Token Whole ▸ scale_rest) (Token Whole ▸ scale_rest) x k.OpenParen (codes "(") (n ∷ drop 3 ws) us open_word (λ ps r d. both (token refl d)) (λ p ls. refl)
    (put_word opened (precise n) u (Token Whole ▸ scale_rest) scale_rest x (word_kind n) n (drop 3 ws) us (digits_lexes n h) (λ ps r d. both (token (digits_whole n h) d)) (λ p ls. refl)
    (put_scale u n scale m us ws e)))

pub put_type : (u : ℕ) (ty : TypeDeclaration) → IsType ty → (us : List Word) → Never k.OpenParen us → Put type_of u column_type ty (type_words ty ++ us) us
unfolding type_of
put_type u types.TtInteger h us v = put_last type_of u column_type types.TtInteger k.TtInteger (codes "TT_INTEGER") us tt_integer_word (λ ps r d. this refl (empty d)) (λ p ls. refl)
put_type u types.TtBigint h us v = put_last type_of u column_type types.TtBigint k.TtBigint (codes "TT_BIGINT") us tt_bigint_word (λ ps r d. that (this refl (empty d))) (λ p ls. refl)
put_type u (types.Varchar2 n) h us v = put_varchar2 u n h us
put_type u (types.Number n scale) (h, m) us v = put_number u n scale h m us (type_words (types.Number n scale) ++ us) refl
put_type u types.Timestamp h us v =
    put_word type_of time_type u column_type (optional k.OpenParen (the k.Zero ▸ the k.CloseParen)) types.Timestamp k.Timestamp (codes "TIMESTAMP") us us timestamp_word (λ ps r d. that (that (that (that (both (token refl d)))))) (λ p ls. refl)
    (put_none time_type u (optional k.OpenParen (the k.Zero ▸ the k.CloseParen)) types.Timestamp us (λ ps r d. that (empty d)) (λ i. rw (v i) refl))

-- what is read behind a type: NOT NULL and PRIMARY KEY
abbrev Marked : Type 0
Marked = (Bool × Bool) × List Lexeme

abbrev marks_of : List Lexeme → Marked
marks_of ls = ((begins k.Not ls, begins k.Primary (past_two k.Not ls)), past_two k.Primary (past_two k.Not ls))

abbrev key_mark_of : Bool → List Lexeme → Marked
key_mark_of n ls = ((n, begins k.Primary ls), past_two k.Primary ls)

abbrev key_mark : Grammar
key_mark = optional k.Primary (the k.Key)

abbrev marks : Grammar
marks = optional k.Not (the k.Null) ▸ key_mark

abbrev key_mark_words : Bool → List Word
key_mark_words p = where_so p (codes "PRIMARY" ∷ codes "KEY" ∷ [])

put_key_mark : (u : ℕ) (n p : Bool) (us : List Word) → Behind us → Put (key_mark_of n) u key_mark (n, p) (key_mark_words p ++ us) us
put_key_mark u n true us h =
    let then : List Lexeme → Marked = λ ls. ((n, true), drop 1 ls) in
    put_word (key_mark_of n) then u key_mark (the k.Key) (n, true) k.Primary (codes "PRIMARY") (codes "KEY" ∷ us) us primary_word (λ ps r d. this refl d) (λ p ls. refl)
    (put_last then u (the k.Key) (n, true) k.Key (codes "KEY") us key_word (λ ps r d. token refl d) (λ p ls. refl))
put_key_mark u n false us h = put_none (key_mark_of n) u key_mark (n, false) us (λ ps r d. that (empty d)) (λ i. rw (h.primary i) refl)

no_not : (p : Bool) (us : List Word) → Behind us → Never k.Not (key_mark_words p ++ us)
no_not true us h = never_word k.Not k.Primary (codes "PRIMARY") (codes "KEY" ∷ us) primary_word refl
no_not false us h = h.not

put_marks : (u : ℕ) (n p : Bool) (us : List Word) → Behind us → Put marks_of u marks (n, p) (mark_words n p ++ us) us
put_marks u true p us h =
    let noted : List Lexeme → Marked = λ ls. ((true, begins k.Primary (drop 1 ls)), past_two k.Primary (drop 1 ls)) in
    put_word marks_of noted u marks (the k.Null ▸ key_mark) (true, p) k.Not (codes "NOT") (codes "NULL" ∷ (key_mark_words p ++ us)) us not_word (λ ps r d. both (this refl (parted d))) (λ q ls. refl)
    (put_word noted (key_mark_of true) u (the k.Null ▸ key_mark) key_mark (true, p) k.Null (codes "NULL") (key_mark_words p ++ us) us null_word (λ ps r d. both (token refl d)) (λ q ls. refl)
    (put_key_mark u true p us h))
put_marks u false p us h =
    put_as marks_of (key_mark_of false) u marks key_mark (false, p) (key_mark_words p ++ us) us (λ ps r d. both (that (empty d))) (λ i. rw (no_not p us h i) refl) (put_key_mark u false p us h)

no_open : (n p : Bool) (us : List Word) → Behind us → Never k.OpenParen (mark_words n p ++ us)
no_open true p us h = never_word k.OpenParen k.Not (codes "NOT") (codes "NULL" ∷ (key_mark_words p ++ us)) not_word refl
no_open false true us h = never_word k.OpenParen k.Primary (codes "PRIMARY") (codes "KEY" ∷ us) primary_word refl
no_open false false us h = h.opening

abbrev Declared : Type 0
Declared = ColumnDeclaration × List Lexeme

abbrev with_marks : List ℕ → TypeDeclaration → Marked → Declared
with_marks name ty x = (record { name = name; ty = ty; not_null = x.0.0; primary_key = x.0.1 }, x.1)

pub put_column : (u : ℕ) (c : ColumnDeclaration) → IsColumn c → (us : List Word) → Behind us → Put column_of u (Token Name ▸ column_rest) c (column_words c ++ us) us
unfolding column_of
put_column u c h us b =
    let rest : List Word = mark_words c.not_null c.primary_key ++ us in
    let marked : Put (λ ls. column_typed c.name (c.ty, ls)) u marks c rest us = put_map marks_of (with_marks c.name c.ty) u marks (c.not_null, c.primary_key) c rest us (λ ls. refl) (put_marks u c.not_null c.primary_key us b) in
    let typed : Put (λ ls. column_named (c.name, ls)) u column_rest c (type_words c.ty ++ rest) us =
    put_both type_of (λ x. column_typed c.name x) u column_type marks column_rest c.ty c (type_words c.ty ++ rest) rest us (λ ps r d. both d) (put_type u c.ty h.ty rest (no_open c.not_null c.primary_key us b)) marked in
    put_words column_of u (Token Name ▸ column_rest) c (c.name ∷ (type_words c.ty ++ rest)) (column_words c ++ us) us (ap (λ (ws : List Word). c.name ∷ ws) (sym (append_assoc (type_words c.ty) (mark_words c.not_null c.primary_key) us)))
    (put_both identifier_of (λ x. column_named x) u (Token Name) column_rest (Token Name ▸ column_rest) c.name c (c.name ∷ (type_words c.ty ++ rest)) (type_words c.ty ++ rest) us (λ ps r d. both d) (put_identifier u c.name h.name (type_words c.ty ++ rest)) typed)

-- a type follows the name of a column, and no `)`
pub no_close : (ty : TypeDeclaration) (vs us : List Word) → Never k.CloseParen ((type_words ty ++ vs) ++ us)
no_close types.TtInteger vs us = never_word k.CloseParen k.TtInteger (codes "TT_INTEGER") (vs ++ us) tt_integer_word refl
no_close types.TtBigint vs us = never_word k.CloseParen k.TtBigint (codes "TT_BIGINT") (vs ++ us) tt_bigint_word refl
no_close (types.Varchar2 n) vs us = never_word k.CloseParen k.Varchar2 (codes "VARCHAR2") _ varchar2_word refl
no_close (types.Number n scale) vs us = never_word k.CloseParen k.Number (codes "NUMBER") _ number_word refl
no_close types.Timestamp vs us = never_word k.CloseParen k.Timestamp (codes "TIMESTAMP") (vs ++ us) timestamp_word refl
