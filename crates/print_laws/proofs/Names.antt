-- Names that are put are read back.
use Rattle.std.proofs.Common.{◌≡◌, ℕ, suc, ◌+◌, ◌<◌, Bool, true, false, cond, eqb, ltb, List, [], ◌∷◌, ◌++◌, length, take, drop, get_or, codes, Option, Some, None, refl, sym, ap, ◌∙◌, subst, arith, add-one, append_assoc, drop-cons}
use Rattle.std.proofs.lemmas.Bool.Decides.{nat_tests}
use Rattle.std.proofs.lemmas.List.{length-append, take-append-drop}
use Rattle.std.proofs.lemmas.List.Sums.{passes_at_first}
use Rattle.std.proofs.Math.Seq.{take-append_seam}
use Rattle.std.specs.List.{list_all, position, position_or_len}
use Rattle.sql_print.specs.tier_base.specs.Names.{folded, is_identifier, is_name, is_name_at, is_word_byte}
use Rattle.sql_print.specs.sql_tokens.specs.declared.kind.Kind.{Kind}
use Rattle.sql_print.specs.sql_tokens.specs.declared.kind.Kind.TheVariants.{Dot}
use Rattle.sql_print.specs.sql_tokens.specs.Words.{word_kind}
use Rattle.sql_print.specs.sql_tokens.specs.Lexing.{Lexeme}
use Rattle.sql_print.specs.sql_grammar.specs.declared.rule.Rule.TheVariants as rules
use Rattle.sql_print.specs.sql_grammar.specs.declared.test.Test.TheVariants.{Name}
use Rattle.sql_print.specs.sql_grammar.specs.Tests.{passes}
use Rattle.sql_print.specs.sql_grammar.specs.Grammar.{Grammar, Named, Token, token, both, this, that, empty, named}
use Rattle.sql_print.specs.sql_grammar.specs.Notation.{optional, ◌▸◌}
use Rattle.sql_print.specs.sql_grammar.proofs.Lists.{and_left, and_right}
use Rattle.sql_print.specs.sql_phrases.specs.Reading.{begins, column_of, first_kind, first_text, identifier_of, name_from, name_of, past_column}
use Rattle.sql_print.specs.sql_words.specs.Words.{Word, column_name_words, column_name_words_at, name_words, name_words_at}
use Rattle.print_laws.proofs.Keywords.{dot_word}
use Rattle.print_laws.proofs.Lexed.{Lexes, begun_by, lexes_word, tokens}
use Rattle.print_laws.proofs.Put.{Never, Put, Takes, put_last, put_none, put_word, put_words}
use Rattle.print_laws.proofs.WordKinds.{identifier_word}

-- a name in upper case
pub record IsName (n : List ℕ) : Type 0 where
  pub is : is_name n ≡ true
  pub upper : folded n ≡ n

-- a name of one identifier
pub record IsIdentifier (n : List ℕ) : Type 0 where
  pub word : is_identifier n ≡ true
  pub name : IsName n

pub name_is : (n : List ℕ) → IsName n → name_from n ≡ n
name_is n h = rw h.is h.upper

abbrev Named1 : Type 0
Named1 = List ℕ × List Lexeme

named_is : (n : List ℕ) → IsName n → (ls : List Lexeme) → ◌≡◌ {A = Named1} (name_from n, ls) (n, ls)
named_is n h ls = ap (λ (x : List ℕ). let y : Named1 = (x, ls) in y) (name_is n h)

pub identifier_lexes : (n : List ℕ) → is_identifier n ≡ true → Lexes (word_kind n) n
identifier_lexes n h = let w = identifier_word n h in lexes_word n w.bytes w.some

-- an identifier is read
pub put_identifier : (u : ℕ) (n : List ℕ) → IsIdentifier n → (us : List Word) → Put identifier_of u (Token Name) n (n ∷ us) us
put_identifier u n h us =
    let w = identifier_word n h.word in
    put_last identifier_of u (Token Name) n (word_kind n) n us (identifier_lexes n h.word) (λ ps r d. token w.passes d) (λ p ls. named_is n h.name ls)

-- where a name has its first dot
dot_splits_at : (n : List ℕ) (i : ℕ) (b : Bool) → position_or_len (λ c. eqb c 46) n ≡ i → ltb i (length n) ≡ b → (dot : ℕ) → cond b (Some i) None ≡ Some dot → take dot n ++ 46 ∷ drop (dot + 1) n ≡ n
dot_splits_at n i false e l dot h = absurd (cc)
dot_splits_at n i true e l dot h =
    let same : i ≡ dot = cc in
    let within : position_or_len (λ c. eqb c 46) n < length n = grind (arith, nat_tests) in
    let at : eqb (get_or n (position_or_len (λ c. eqb c 46) n) 0) 46 ≡ true = passes_at_first (λ c. eqb c 46) n 0 within in
    let byte : get_or n dot 0 ≡ 46 = grind (arith, nat_tests) in
    let inside : dot < length n = omega arith in
    let d : drop dot n ≡ 46 ∷ drop (dot + 1) n = rw add-one (drop-cons n dot 0 inside ∙ ap (λ (c : ℕ). c ∷ drop (suc dot) n) byte) in
    ap (λ (x : List ℕ). take dot n ++ x) (sym d) ∙ take-append-drop dot n

pub dot_splits : (n : List ℕ) (dot : ℕ) → position (λ b. eqb b 46) n ≡ Some dot → take dot n ++ 46 ∷ drop (dot + 1) n ≡ n
dot_splits n dot h = dot_splits_at n (position_or_len (λ c. eqb c 46) n) (ltb (position_or_len (λ c. eqb c 46) n) (length n)) refl refl dot h

-- what is read behind the first identifier
abbrev behind_first : List ℕ → List Lexeme → Named1
behind_first n ls = cond (begins Dot ls) (name_from (n ++ 46 ∷ first_text (drop 1 ls)), drop 2 ls) (name_from n, ls)

abbrev dotted : Grammar
dotted = optional Dot (Token Name)

put_name_at : (u : ℕ) (n : List ℕ) → IsName n → (o : Option ℕ) → position (λ b. eqb b 46) n ≡ o → is_name_at n o ≡ true → (us : List Word) → Never Dot us → Put name_of u (Named rules.Named) n (name_words_at n o ++ us) us
put_name_at u n h None e is us v =
    let w = identifier_word n is in
    put_word name_of (behind_first n) u (Named rules.Named) dotted n (word_kind n) n us us (identifier_lexes n is) (λ ps r d. named (both (token w.passes d))) (λ p ls. refl)
    (put_none (behind_first n) u dotted n us (λ ps r d. that (empty d)) (λ i. rw (v i) (named_is n h (tokens i us))))
put_name_at u n h (Some dot) e is us v =
    let owner : List ℕ = take dot n in
    let ident : List ℕ = drop (dot + 1) n in
    let a : is_identifier owner ≡ true = and_left (is_identifier owner) (is_identifier ident) is in
    let b : is_identifier ident ≡ true = and_right (is_identifier owner) (is_identifier ident) is in
    let whole : owner ++ 46 ∷ ident ≡ n = dot_splits n dot e in
    put_word name_of (behind_first owner) u (Named rules.Named) dotted n (word_kind owner) owner (codes "." ∷ ident ∷ us) us (identifier_lexes owner a) (λ ps r d. named (both (token (identifier_word owner a).passes d))) (λ p ls. refl)
    (put_word (behind_first owner) (λ ls. (name_from (owner ++ 46 ∷ first_text ls), drop 1 ls)) u dotted (Token Name) n Dot (codes ".") (ident ∷ us) us dot_word (λ ps r d. this refl d) (λ p ls. refl)
    (put_last (λ ls. (name_from (owner ++ 46 ∷ first_text ls), drop 1 ls)) u (Token Name) n (word_kind ident) ident us (identifier_lexes ident b) (λ ps r d. token (identifier_word ident b).passes d) (λ p ls. ap (λ (x : List ℕ). let y : Named1 = (name_from x, ls) in y) whole ∙ named_is n h ls)))

-- a name is read, where no dot follows
pub put_name : (u : ℕ) (n : List ℕ) → IsName n → (us : List Word) → Never Dot us → Put name_of u (Named rules.Named) n (name_words n ++ us) us
put_name u n h us v = put_name_at u n h (position (λ b. eqb b 46) n) refl h.is us v

not_dot : (b : ℕ) → is_word_byte b ≡ true → eqb b 46 ≡ false
not_dot b h = grind (arith, nat_tests)

first_dot : (a b : List ℕ) → list_all is_word_byte a ≡ true → position_or_len (λ c. eqb c 46) (a ++ 46 ∷ b) ≡ length a
first_dot [] b h = refl
first_dot (c ∷ a) b h = rw (not_dot c (and_left (is_word_byte c) (list_all is_word_byte a) h)) (omega (arith, first_dot a b (and_right (is_word_byte c) (list_all is_word_byte a) h)))

short : (a b : List ℕ) → ltb (length a) (length (a ++ 46 ∷ b)) ≡ true
short a b = let l = length-append a (46 ∷ b) in grind (arith, nat_tests)

-- the first dot of what begins with an identifier
pub dot_behind : (a b : List ℕ) → is_identifier a ≡ true → position (λ c. eqb c 46) (a ++ 46 ∷ b) ≡ Some (length a)
dot_behind a b h = rw (first_dot a b (identifier_word a h).bytes, short a b) refl

pub taken : (a b : List ℕ) → take (length a) (a ++ 46 ∷ b) ≡ a
taken a b = take-append_seam a (46 ∷ b)

pub dropped : (a b : List ℕ) → drop (length a + 1) (a ++ 46 ∷ b) ≡ b
dropped [] b = refl
dropped (c ∷ a) b = rw add-one (rw add-one at (dropped a b))

abbrev colref_rest : Grammar
colref_rest = optional Dot (Token Name ▸ optional Dot (Token Name))

-- what is read behind the first identifier of a column's name
abbrev behind_column : List ℕ → List Lexeme → Named1
behind_column n ls = past_column (behind_first n ls)

no_dot : (bs : List ℕ) → list_all is_word_byte bs ≡ true → position_or_len (λ b. eqb b 46) bs ≡ length bs
no_dot [] h = refl
no_dot (b ∷ bs) h = rw (not_dot b (and_left (is_word_byte b) (list_all is_word_byte bs) h)) (omega (arith, no_dot bs (and_right (is_word_byte b) (list_all is_word_byte bs) h)))

not_below : (n : ℕ) → ltb n n ≡ false
not_below n = grind (arith, nat_tests)

-- letters, digits and the like have no dot
pub dotless : (n : List ℕ) → list_all is_word_byte n ≡ true → position (λ b. eqb b 46) n ≡ None
dotless n h = rw (no_dot n h, not_below (length n)) refl

alone : (n : List ℕ) → is_identifier n ≡ true → position (λ b. eqb b 46) n ≡ None
alone n h = dotless n (identifier_word n h).bytes

name_one : (n : List ℕ) → is_identifier n ≡ true → name_words n ≡ n ∷ []
name_one n h = ap (λ (o : Option ℕ). name_words_at n o) (alone n h)

name_dotted : (o i : List ℕ) → is_identifier o ≡ true → name_words (o ++ 46 ∷ i) ≡ o ∷ codes "." ∷ i ∷ []
name_dotted o i h = ap (λ (p : Option ℕ). name_words_at (o ++ 46 ∷ i) p) (dot_behind o i h) ∙ rw (taken o i, dropped o i) refl

column_one : (n : List ℕ) → is_identifier n ≡ true → column_name_words n ≡ n ∷ []
column_one n h = ap (λ (o : Option ℕ). column_name_words_at n o) (alone n h)

column_dotted : (o r : List ℕ) → is_identifier o ≡ true → column_name_words (o ++ 46 ∷ r) ≡ o ∷ codes "." ∷ name_words r
column_dotted o r h = ap (λ (p : Option ℕ). column_name_words_at (o ++ 46 ∷ r) p) (dot_behind o r h) ∙ rw (taken o r, dropped o r) refl

-- one identifier, or two with a dot between
pub data Shape : List ℕ → Type 0 where
  one : {n : List ℕ} → is_identifier n ≡ true → Shape n
  two : (o i : List ℕ) → is_identifier o ≡ true → is_identifier i ≡ true → Shape (o ++ 46 ∷ i)

pub shape_of : (n : List ℕ) → IsName n → Shape n
shape_of n h = by (position (λ b. eqb b 46) n) refl h.is
  where
    by : (o : Option ℕ) → position (λ b. eqb b 46) n ≡ o → is_name_at n o ≡ true → Shape n
    by None e is = one is
    by (Some dot) e is =
        subst (λ (m : List ℕ). Shape m) (dot_splits n dot e)
        (two (take dot n) (drop (dot + 1) n) (and_left (is_identifier (take dot n)) (is_identifier (drop (dot + 1) n)) is) (and_right (is_identifier (take dot n)) (is_identifier (drop (dot + 1) n)) is))

-- the name of a column: a name, or a name of two identifiers and an identifier
pub data IsColumnName : List ℕ → Type 0 where
  plain : {n : List ℕ} → IsName n → IsColumnName n
  longer : (o i l : List ℕ) → is_identifier o ≡ true → is_identifier i ≡ true → IsName (o ++ 46 ∷ i) → IsIdentifier l → IsColumnName ((o ++ 46 ∷ i) ++ 46 ∷ l)

column_ends : (n : List ℕ) → IsName n → (us : List Word) → Never Dot us → (i : ℕ) → past_column (name_from n, tokens i us) ≡ (n, tokens i us)
column_ends n h us v i = rw (v i) (named_is n h (tokens i us))

module _ (u : ℕ) (g : Grammar) (us : List Word) (f : (k : Kind) → passes Name k ≡ true → Takes u k colref_rest g) where
  put_one : (n : List ℕ) → is_identifier n ≡ true → IsName n → Never Dot us → Put column_of u g n (n ∷ us) us
  put_one n a h v =
      put_word column_of (behind_column n) u g colref_rest n (word_kind n) n us us (identifier_lexes n a) (f (word_kind n) (identifier_word n a).passes) (λ p ls. refl)
      (put_none (behind_column n) u colref_rest n us (λ ps r d. that (empty d)) (λ i. rw (v i) (column_ends n h us v i)))

  put_two : (o i : List ℕ) → is_identifier o ≡ true → is_identifier i ≡ true → IsName (o ++ 46 ∷ i) → Never Dot us → Put column_of u g (o ++ 46 ∷ i) (o ∷ codes "." ∷ i ∷ us) us
  put_two o i a b h v =
      let n : List ℕ = o ++ 46 ∷ i in
      put_word column_of (behind_column o) u g colref_rest n (word_kind o) o (codes "." ∷ i ∷ us) us (identifier_lexes o a) (f (word_kind o) (identifier_word o a).passes) (λ p ls. refl)
      (put_word (behind_column o) (λ ls. past_column (name_from (o ++ 46 ∷ first_text ls), drop 1 ls)) u colref_rest (Token Name ▸ dotted) n Dot (codes ".") (i ∷ us) us dot_word (λ ps r d. this refl d) (λ p ls. refl)
      (put_word (λ ls. past_column (name_from (o ++ 46 ∷ first_text ls), drop 1 ls)) (λ ls. past_column (name_from n, ls)) u (Token Name ▸ dotted) dotted n (word_kind i) i us us (identifier_lexes i b) (λ ps r d. both (token (identifier_word i b).passes d)) (λ p ls. refl)
      (put_none (λ ls. past_column (name_from n, ls)) u dotted n us (λ ps r d. that (empty d)) (column_ends n h us v))))

  put_three : (o i l : List ℕ) → is_identifier o ≡ true → is_identifier i ≡ true → IsName (o ++ 46 ∷ i) → IsIdentifier l → Put column_of u g ((o ++ 46 ∷ i) ++ 46 ∷ l) (o ∷ codes "." ∷ i ∷ codes "." ∷ l ∷ us) us
  put_three o i l a b h t =
      let n : List ℕ = o ++ 46 ∷ i in
      let m : List ℕ = n ++ 46 ∷ l in
      let last : List Lexeme → Named1 = λ ls. (name_from n ++ 46 ∷ name_from (first_text ls), drop 1 ls) in
      put_word column_of (behind_column o) u g colref_rest m (word_kind o) o (codes "." ∷ i ∷ codes "." ∷ l ∷ us) us (identifier_lexes o a) (f (word_kind o) (identifier_word o a).passes) (λ p ls. refl)
      (put_word (behind_column o) (λ ls. past_column (name_from (o ++ 46 ∷ first_text ls), drop 1 ls)) u colref_rest (Token Name ▸ dotted) m Dot (codes ".") (i ∷ codes "." ∷ l ∷ us) us dot_word (λ ps r d. this refl d) (λ p ls. refl)
      (put_word (λ ls. past_column (name_from (o ++ 46 ∷ first_text ls), drop 1 ls)) (λ ls. past_column (name_from n, ls)) u (Token Name ▸ dotted) dotted m (word_kind i) i (codes "." ∷ l ∷ us) us (identifier_lexes i b) (λ ps r d. both (token (identifier_word i b).passes d)) (λ p ls. refl)
      (put_word (λ ls. past_column (name_from n, ls)) last u dotted (Token Name) m Dot (codes ".") (l ∷ us) us dot_word (λ ps r d. this refl d) (λ p ls. refl)
      (put_last last u (Token Name) m (word_kind l) l us (identifier_lexes l t.word) (λ ps r d. token (identifier_word l t.word).passes d) (λ p ls. rw (name_is n h, name_is l t.name) refl)))))

  put_shape : (n : List ℕ) → Shape n → IsName n → Never Dot us → Put column_of u g n (column_name_words n ++ us) us
  put_shape n (one a) h v = put_words column_of u g n (n ∷ us) (column_name_words n ++ us) us (ap (λ (ws : List Word). ws ++ us) (sym (column_one n a))) (put_one n a h v)
  put_shape n (two o i a b) h v =
      put_words column_of u g n (o ∷ codes "." ∷ i ∷ us) (column_name_words n ++ us) us (ap (λ (ws : List Word). ws ++ us) (sym (column_dotted o i a ∙ ap (λ (ws : List Word). o ∷ codes "." ∷ ws) (name_one i b)))) (put_two o i a b h v)

  pub put_column_name : (n : List ℕ) → IsColumnName n → Never Dot us → Put column_of u g n (column_name_words n ++ us) us
  put_column_name n (plain h) v = put_shape n (shape_of n h) h v
  put_column_name n (longer o i l a b h t) v =
      let same : column_name_words ((o ++ 46 ∷ i) ++ 46 ∷ l) ≡ o ∷ codes "." ∷ i ∷ codes "." ∷ l ∷ [] =
      ap (λ (m : List ℕ). column_name_words m) (append_assoc o (46 ∷ i) (46 ∷ l)) ∙ (column_dotted o (i ++ 46 ∷ l) a ∙ ap (λ (ws : List Word). o ∷ codes "." ∷ ws) (name_dotted i l b)) in
      put_words column_of u g ((o ++ 46 ∷ i) ++ 46 ∷ l) (o ∷ codes "." ∷ i ∷ codes "." ∷ l ∷ us) (column_name_words ((o ++ 46 ∷ i) ++ 46 ∷ l) ++ us) us (ap (λ (ws : List Word). ws ++ us) (sym same)) (put_three o i l a b h t)

first_name : (w : List ℕ) (ws : List Word) → is_identifier w ≡ true → (i : ℕ) → passes Name (first_kind (tokens i (w ∷ ws))) ≡ true
first_name w ws h i = ap (λ (ls : List Lexeme). passes Name (first_kind ls)) (begun_by (word_kind w) w (identifier_lexes w h) i ws).1 ∙ (identifier_word w h).passes

first_of : (n w : List ℕ) (ws us : List Word) → is_identifier w ≡ true → column_name_words n ≡ w ∷ ws → (i : ℕ) → passes Name (first_kind (tokens i (column_name_words n ++ us))) ≡ true
first_of n w ws us h e i = ap (λ (vs : List Word). passes Name (first_kind (tokens i (vs ++ us)))) e ∙ first_name w (ws ++ us) h i

shape_first : (n : List ℕ) → Shape n → (us : List Word) (i : ℕ) → passes Name (first_kind (tokens i (column_name_words n ++ us))) ≡ true
shape_first n (one a) us i = first_of n n [] us a (column_one n a) i
shape_first n (two o l a b) us i = first_of n o (codes "." ∷ name_words l) us a (column_dotted o l a) i

-- the name of a column begins with a name
pub column_begins : (n : List ℕ) → IsColumnName n → (us : List Word) (i : ℕ) → passes Name (first_kind (tokens i (column_name_words n ++ us))) ≡ true
column_begins n (plain h) us i = shape_first n (shape_of n h) us i
column_begins n (longer o m l a b h t) us i = first_of n o (codes "." ∷ name_words (m ++ 46 ∷ l)) us a (ap (λ (x : List ℕ). column_name_words x) (append_assoc o (46 ∷ m) (46 ∷ l)) ∙ column_dotted o (m ++ 46 ∷ l) a) i
