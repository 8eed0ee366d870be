-- What is read off the tokens of bytes without a bad one: names, columns and tables.
use Rattle.std.proofs.Common.{◌≡◌, ℕ, zero, suc, ◌≤◌, Bool, true, false, cond, ◌&&◌, eqb, List, [], ◌∷◌, ◌++◌, length, drop, refl, sym, ap, ◌∙◌, subst, arith}
use Rattle.std.proofs.lemmas.Bool.Decides.{nat_tests}
use Rattle.sql_print.specs.sql_tokens.specs.declared.kind.Kind.{Kind}
use Rattle.sql_print.specs.sql_tokens.specs.declared.kind.Kind.TheVariants as k
use Rattle.sql_print.specs.sql_tokens.specs.Kinds.{code, is_kind}
use Rattle.sql_print.specs.sql_tokens.specs.Lexing.{Lexeme}
use Rattle.sql_print.specs.sql_grammar.specs.declared.rule.Rule.TheVariants as rules
use Rattle.sql_print.specs.sql_grammar.specs.declared.test.Test.TheVariants.{Only, Name, Whole}
use Rattle.sql_print.specs.sql_grammar.specs.Tests.{passes}
use Rattle.sql_print.specs.sql_grammar.specs.Grammar.{Grammar, Parts, Part, Empty, Named, Token}
use Rattle.sql_print.specs.sql_grammar.specs.Notation.{choice, optional, the, ◌▸◌}
use Rattle.sql_print.specs.sql_grammar.specs.Tables.{after_key, column_rest, column_type, foreign_rest, key_rest, table}
use Rattle.sql_print.specs.sql_phrases.specs.declared.tables.CacheTable.{CacheTable}
use Rattle.sql_print.specs.sql_phrases.specs.declared.tables.Element.{Element}
use Rattle.sql_print.specs.sql_phrases.specs.declared.tables.Element.TheVariants as elements
use Rattle.sql_print.specs.sql_phrases.specs.Reading.{at_comma, begins, chained, first_kind, first_text, identifier_of, identifiers_of, name_from, name_of, past_one, with_last}
use Rattle.sql_print.specs.sql_phrases.specs.Tables.{as_column, as_foreign_key, as_key, closes, column_of, element_of, foreign_key_of, number_type, past_two, past_word, table_of, table_with, text_type, time_type, type_of, with_element}
use Rattle.sql_print.specs.sql_phrases.proofs.Shrinking.{element_shrinks, identifier_shrinks}
use Rattle.print_laws.proofs.Columns.{IsColumn, IsType}
use Rattle.print_laws.proofs.Fits.{Fits}
use Rattle.print_laws.proofs.Folded.{identifier_read, name_read}
use Rattle.print_laws.proofs.Keys.{AreNames, IsForeignKey}
use Rattle.print_laws.proofs.Lists.{AllGood, SomeGood}
use Rattle.print_laws.proofs.Literals.{IsDigits}
use Rattle.print_laws.proofs.Names.{IsName, IsIdentifier}
use Rattle.print_laws.proofs.State.{Got, State, at_empty, at_named, at_then, at_token, chain_got, got_if, only_is, only_passed, only_that, only_this, passed}
use Rattle.print_laws.proofs.Tables.{IsTable}
use Rattle.print_laws.proofs.WordKinds.{other_kind}

tells_apart : (b : Bool) → b ≡ true → b ≡ false → ⊥
tells_apart b p q = absurd (cc)

same_code : (a b c : ℕ) → eqb a b ≡ true → eqb b c ≡ false → eqb a c ≡ false
same_code a b c h e = let s : a ≡ b = grind (arith, nat_tests) in rw s e

-- one kind is no other
pub one_kind : (i j n : Kind) → is_kind n i ≡ true → is_kind i j ≡ false → is_kind n j ≡ false
one_kind i j n h e = same_code (code n) (code i) (code j) h e

pub first_digits : (us : List Lexeme) → AllGood Fits us → passes Whole (first_kind us) ≡ true → IsDigits (first_text us)
first_digits [] h p = absurd (tells_apart (passes Whole k.Bad) p refl)
first_digits (l ∷ us) (h, t) p = h.digits p

-- names
pub identifier_good : (us : List Lexeme) → AllGood Fits us → IsIdentifier (name_from (first_text us))
identifier_good [] h = identifier_read [] (λ e. refl)
identifier_good (l ∷ us) (h, t) = identifier_read l.text h.word

pub name_got : (u : ℕ) (ps : Parts) (us : List Lexeme) → State (Part u (Named rules.Named) ps) us → Got IsName ps (name_of us)
name_got u ps us s =
    let s1 = at_token 0 us (at_then (at_named s)) in
    got_if (begins k.Dot (drop 1 us)) _ _ (λ e. record { good = name_read (first_text us ++ 46 ∷ first_text (drop 2 us)); state = at_token 2 us (only_this 1 us refl e s1) }) (λ e. record { good = name_read (first_text us); state = at_empty (only_that (drop 1 us) e s1) })

one_more : {A : Type 0} (Good : A → Type 0) (xs : List A) (x : A) → AllGood Good xs → Good x → AllGood Good (xs ++ x ∷ [])
one_more Good [] x h t = (t, tt)
one_more Good (y ∷ ys) x (h, r) t = (h, one_more Good ys x r t)

pub some_more : {A : Type 0} (Good : A → Type 0) (xs : List A) (x : A) → SomeGood Good xs → Good x → SomeGood Good (xs ++ x ∷ [])
some_more Good [] x h t = absurd h
some_more Good (y ∷ ys) x (h, r) t = (h, one_more Good ys x r t)

pub comma_is : (us : List Lexeme) → at_comma us ≡ passes (Only k.Comma) (first_kind us)
comma_is us = sym (only_is k.Comma (first_kind us))

pub names_got : (u : ℕ) (ps : Parts) (us : List Lexeme) → State (Part u (Named rules.Idents) ps) us → Got AreNames ps (identifiers_of us)
names_got u ps us s =
    let s1 = at_then (at_named s) in
    let a : IsIdentifier (name_from (first_text us)) = identifier_good us s.fit in
    chain_got (List (List ℕ)) (List ℕ) at_comma with_last identifier_of u (Only k.Comma) (Token Name) ps AreNames IsIdentifier refl comma_is identifier_shrinks (λ w xs x g t. some_more IsIdentifier xs x g t)
    (λ vs t. record { good = identifier_good vs t.fit; state = at_token 0 vs t }) (length us) (name_from (first_text us) ∷ []) (drop 1 us) (identifier_shrinks us) (a, tt) (at_token 0 us s1)

-- words that may stand there
past_word_got : (u : ℕ) (j : Kind) (ps : Parts) (us : List Lexeme) → is_kind k.Bad j ≡ false → State (Part u (optional j Empty) ps) us → State ps (past_word j us)
past_word_got u j ps us z s = by (begins j us) refl
  where
    by : (b : Bool) → begins j us ≡ b → State ps (cond b (drop 1 us) us)
    by true e = at_empty (only_this 0 us z e s)
    by false e = at_empty (only_that us e s)

past_two_got : (u : ℕ) (j i : Kind) (ps : Parts) (us : List Lexeme) → is_kind k.Bad j ≡ false → State (Part u (optional j (the i)) ps) us → State ps (past_two j us)
past_two_got u j i ps us z s = by (begins j us) refl
  where
    by : (b : Bool) → begins j us ≡ b → State ps (cond b (drop 2 us) us)
    by true e = at_token 1 us (only_this 0 us z e s)
    by false e = at_empty (only_that us e s)

-- types
text_got : (ps : Parts) (us : List Lexeme) → State (Part 0 (the k.OpenParen ▸ Token Whole ▸ optional k.Byte Empty ▸ the k.CloseParen) ps) us → Got IsType ps (text_type us)
text_got ps us s =
    let s1 = at_then (at_token 0 us (at_then s)) in
    let s2 = past_word_got 0 k.Byte (Part 0 (the k.CloseParen) ps) (drop 2 us) refl (at_then (at_token 1 us s1)) in
    record { good = first_digits (drop 1 us) s1.fit (passed s1); state = at_token 0 (past_word k.Byte (drop 2 us)) s2 }

number_got : (ps : Parts) (us : List Lexeme) → State (Part 0 (the k.OpenParen ▸ Token Whole ▸ optional k.Comma (Token Whole) ▸ the k.CloseParen) ps) us → Got IsType ps (number_type us)
number_got ps us s =
    let s1 = at_then (at_token 0 us (at_then s)) in
    let a = first_digits (drop 1 us) s1.fit (passed s1) in
    let s2 = at_then (at_token 1 us s1) in
    got_if (begins k.Comma (drop 2 us)) _ _
    (λ e. let s3 = only_this 2 us refl e s2 in record { good = (a, first_digits (drop 3 us) s3.fit (passed s3)); state = at_token 4 us (at_token 3 us s3) })
    (λ e. record { good = (a, tt); state = at_token 2 us (at_empty (only_that (drop 2 us) e s2)) })

time_got : (ps : Parts) (us : List Lexeme) → State (Part 0 (optional k.OpenParen (the k.Zero ▸ the k.CloseParen)) ps) us → Got IsType ps (time_type us)
time_got ps us s =
    got_if (begins k.OpenParen us) _ _ (λ e. record { good = tt; state = at_token 2 us (at_token 1 us (at_then (only_this 0 us refl e s))) }) (λ e. record { good = tt; state = at_empty (only_that us e s) })

type_got : (ps : Parts) (us : List Lexeme) → State (Part 0 column_type ps) us → Got IsType ps (type_of us)
unfolding type_of
type_got ps us s =
    got_if (begins k.TtInteger us) _ _ (λ e. record { good = tt; state = at_empty (only_this 0 us refl e s) })
    (λ e. let s1 = only_that us e s in
    got_if (begins k.TtBigint us) _ _ (λ f. record { good = tt; state = at_empty (only_this 0 us refl f s1) })
    (λ f. let s2 = only_that us f s1 in
    got_if (begins k.Varchar2 us) _ _ (λ g. text_got ps (drop 1 us) (only_this 0 us refl g s2))
    (λ g. let s3 = only_that us g s2 in
    got_if (begins k.Number us) _ _ (λ h. number_got ps (drop 1 us) (only_this 0 us refl h s3))
    (λ h. time_got ps (drop 1 us) (at_token 0 us (at_then (only_that us h s3)))))))

-- no type begins with a `)`
type_no_close : (ps : Parts) (us : List Lexeme) → State (Part 0 column_type ps) us → begins k.CloseParen us ≡ false
type_no_close ps us s = by (begins k.TtInteger us) (begins k.TtBigint us) (begins k.Varchar2 us) (begins k.Number us) refl refl refl refl
  where
    by : (a b c d : Bool) → begins k.TtInteger us ≡ a → begins k.TtBigint us ≡ b → begins k.Varchar2 us ≡ c → begins k.Number us ≡ d → begins k.CloseParen us ≡ false
    by true b c d e f g h = one_kind k.TtInteger k.CloseParen (first_kind us) e refl
    by false true c d e f g h = one_kind k.TtBigint k.CloseParen (first_kind us) f refl
    by false false true d e f g h = one_kind k.Varchar2 k.CloseParen (first_kind us) g refl
    by false false false true e f g h = one_kind k.Number k.CloseParen (first_kind us) h refl
    by false false false false e f g h = one_kind k.Timestamp k.CloseParen (first_kind us) (only_passed (at_then (only_that us h (only_that us g (only_that us f (only_that us e s)))))) refl

-- columns
pub column_got : (ps : Parts) (us : List Lexeme) → AllGood Fits us → State (Part 0 column_rest ps) (drop 1 us) → Got IsColumn ps (column_of us)
unfolding column_of
column_got ps us f s =
    let t = type_got (Part 0 (optional k.Not (the k.Null) ▸ optional k.Primary (the k.Key)) ps) (drop 1 us) (at_then s) in
    let rest : List Lexeme = (type_of (drop 1 us)).1 in
    let s1 = past_two_got 0 k.Not k.Null (Part 0 (optional k.Primary (the k.Key)) ps) rest refl (at_then t.state) in
    record { good = record { name = identifier_good us f; ty = t.good }; state = past_two_got 0 k.Primary k.Key ps (past_two k.Not rest) refl s1 }

-- what stands between the commas of a table
abbrev pub IsElement : Element → Type 0
IsElement (elements.Column c) = IsColumn c
IsElement (elements.Key names) = AreNames names
IsElement (elements.ForeignKey key) = IsForeignKey key
IsElement (elements.Attribute a) = Unit {0}

key_got : (ps : Parts) (us : List Lexeme) → State (Part 0 key_rest ps) (drop 1 us) → Got IsElement ps (as_key (identifiers_of (drop 3 us)))
key_got ps us s =
    let s1 = at_then (at_token 2 us (at_then (at_token 1 us (at_then s)))) in
    let n = names_got 0 (Part 0 (the k.CloseParen) ps) (drop 3 us) s1 in
    record { good = n.good; state = at_token 0 (identifiers_of (drop 3 us)).1 n.state }

foreign_key_got : (ps : Parts) (us : List Lexeme) → State (Part 0 foreign_rest ps) (drop 1 us) → Got IsForeignKey ps (foreign_key_of us)
unfolding foreign_key_of
foreign_key_got ps us s =
    let n1 = names_got 0 _ (drop 3 us) (at_then (at_token 2 us (at_then (at_token 1 us (at_then s))))) in
    let r1 : List Lexeme = (identifiers_of (drop 3 us)).1 in
    let n2 = name_got 0 _ (drop 2 r1) (at_then (at_token 1 r1 (at_then (at_token 0 r1 (at_then n1.state))))) in
    let r2 : List Lexeme = (name_of (drop 2 r1)).1 in
    let n3 = names_got 0 _ (drop 1 r2) (at_then (at_token 0 r2 (at_then n2.state))) in
    let r3 : List Lexeme = (identifiers_of (drop 1 r2)).1 in
    let s3 = at_token 0 r3 (at_then n3.state) in
    let good : (b : Bool) → IsForeignKey (record { columns = (identifiers_of (drop 3 us)).0; parent = (name_of (drop 2 r1)).0; parent_columns = (identifiers_of (drop 1 r2)).0; cascade = b }) = λ b. record { columns = n1.good; parent = n2.good; parent_columns = n3.good } in
    got_if (begins k.On (drop 1 r3)) _ _ (λ e. record { good = good (begins k.On (drop 1 r3)); state = at_token 3 r3 (at_token 2 r3 (at_then (only_this 1 r3 refl e s3))) }) (λ e. record { good = good (begins k.On (drop 1 r3)); state = at_empty (only_that (drop 1 r3) e s3) })

foreign_got : (ps : Parts) (us : List Lexeme) → State (Part 0 foreign_rest ps) (drop 1 us) → Got IsElement ps (as_foreign_key (foreign_key_of us))
foreign_got ps us s = let f = foreign_key_got ps us s in record { good = f.good; state = f.state }

-- what an element is, by its first tokens
key_first : (us : List Lexeme) → begins k.Primary us ≡ true → element_of us ≡ as_key (identifiers_of (drop 3 us))
unfolding element_of
key_first us e = rw e refl

foreign_first : (us : List Lexeme) → begins k.Foreign us ≡ true → element_of us ≡ as_foreign_key (foreign_key_of us)
unfolding element_of
foreign_first us e = rw (one_kind k.Foreign k.Primary (first_kind us) e refl, e) refl

and_false : (b : Bool) → b && false ≡ false
and_false true = refl
and_false false = refl

other_name : (n j : Kind) → passes Name n ≡ true → passes Name j ≡ false → is_kind n j ≡ false
other_name n j p q = other_kind Name n j p q

closes_not : (w : Kind) (us : List Lexeme) → begins k.CloseParen (drop 1 us) ≡ false → closes w us ≡ false
closes_not w us h = ap (λ (b : Bool). begins w us && b) h ∙ and_false (begins w us)

column_first : (us : List Lexeme) → passes Name (first_kind us) ≡ true → begins k.CloseParen (drop 1 us) ≡ false → element_of us ≡ as_column (column_of us)
unfolding element_of
column_first us p h =
    rw (other_name (first_kind us) k.Primary p refl, other_name (first_kind us) k.Foreign p refl, closes_not k.Readonly us h, closes_not k.Propagate us h, other_name (first_kind us) k.Not p refl) refl

got_as : {V : Type 0} {Good : V → Type 0} {ps : Parts} (x y : V × List Lexeme) → x ≡ y → Got Good ps y → Got Good ps x
got_as {V} {Good} {ps} x y e g = subst (λ z. Got Good ps z) (sym e) g

-- the table so far
with_good : (w : Kind) (t : CacheTable) (x : Element) → IsTable t.table → IsElement x → IsTable (with_element w t x).table
with_good w t (elements.Column c) h g = record { name = h.name; columns = some_more IsColumn t.table.columns c h.columns g; key = h.key; foreign = h.foreign }
with_good w t (elements.Key names) h g = record { name = h.name; columns = h.columns; key = g; foreign = h.foreign }
with_good w t (elements.ForeignKey key) h g = record { name = h.name; columns = h.columns; key = h.key; foreign = g }
with_good w t (elements.Attribute a) h g = record { name = h.name; columns = h.columns; key = h.key; foreign = h.foreign }

abbrev pub Tabled : CacheTable → Type 0
Tabled t = IsTable t.table

-- the table ends here
table_stops : (n : ℕ) (t : CacheTable) (us : List Lexeme) → at_comma us ≡ false → chained at_comma with_element element_of n (t, us) ≡ (t, us)
table_stops zero t us h = refl
table_stops (suc n) t us h = rw h

pub close_got : (ps : Parts) (n : ℕ) (t : CacheTable) (us : List Lexeme) → Tabled t → begins k.CloseParen us ≡ true → State ps (drop 1 us) → Got Tabled ps (past_one (chained at_comma with_element element_of n (t, us)))
close_got ps n t us h e s =
    got_as (past_one (chained at_comma with_element element_of n (t, us))) (t, drop 1 us) (ap (λ (x : CacheTable × List Lexeme). past_one x) (table_stops n t us (one_kind k.CloseParen k.Comma (first_kind us) e refl))) (record { good = h; state = s })

-- one element more
abbrev pub Goes : Parts → ℕ → CacheTable → List Lexeme → Type 0
Goes ps n t us = Got Tabled ps (past_one (chained at_comma with_element element_of n (t, us)))

pub more_got : (ps qs : Parts) (n : ℕ) (t : CacheTable) (us : List Lexeme) → length us ≤ suc n → Tabled t → begins k.Comma us ≡ true → Got IsElement qs (element_of (drop 1 us))
    → ((s : CacheTable) (vs : List Lexeme) → length vs ≤ n → Tabled s → State qs vs → Goes ps n s vs) → Goes ps (suc n) t us
more_got ps qs n t [] l h e g next = absurd (tells_apart (begins k.Comma []) e refl)
more_got ps qs n t (x ∷ us) l h e g next =
    let m = element_shrinks us in
    let after = next (with_element x.kind t (element_of us).0) (element_of us).1 (omega (arith, m, l)) (with_good x.kind t (element_of us).0 h g.good) g.state in
    got_as (past_one (chained at_comma with_element element_of (suc n) (t, x ∷ us))) (past_one (chained at_comma with_element element_of n (with_element x.kind t (element_of us).0, (element_of us).1))) (rw e refl) after

pub no_tokens : (us : List Lexeme) → length us ≤ 0 → begins k.Comma us ≡ true → ⊥
no_tokens [] l e = tells_apart (begins k.Comma []) e refl
no_tokens (x ∷ us) l e = absurd (omega arith)

pub column_element : (ps : Parts) (us : List Lexeme) → AllGood Fits us → passes Name (first_kind us) ≡ true → State (Part 0 column_rest ps) (drop 1 us) → Got IsElement ps (element_of us)
column_element ps us f p s =
    let c = column_got ps us f s in
    got_as (element_of us) (as_column (column_of us)) (column_first us p (type_no_close _ (drop 1 us) (at_then s))) (record { good = c.good; state = c.state })

-- a column, and then others
behind_column : (b : Grammar) (ps : Parts) (us : List Lexeme) → State (Part 0 (Token Name ▸ column_rest ▸ b) ps) us → Got IsElement (Part 0 b ps) (element_of us)
behind_column b ps us s = let s1 = at_then s in column_element (Part 0 b ps) us s.fit (passed s1) (at_then (at_token 0 us s1))

pub key_element : (a b : Grammar) (ps : Parts) (us : List Lexeme) → begins k.Primary us ≡ true → State (Part 0 (choice k.Primary (key_rest ▸ a) b) ps) us → Got IsElement (Part 0 a ps) (element_of us)
key_element a b ps us e s = got_as (element_of us) (as_key (identifiers_of (drop 3 us))) (key_first us e) (key_got (Part 0 a ps) us (at_then (only_this 0 us refl e s)))

pub foreign_element : (a b : Grammar) (ps : Parts) (us : List Lexeme) → begins k.Foreign us ≡ true → State (Part 0 (choice k.Foreign (foreign_rest ▸ a) b) ps) us → Got IsElement (Part 0 a ps) (element_of us)
foreign_element a b ps us e s = got_as (element_of us) (as_foreign_key (foreign_key_of us)) (foreign_first us e) (foreign_got (Part 0 a ps) us (at_then (only_this 0 us refl e s)))

-- the console's tables
close_rest : (ps : Parts) (n : ℕ) (t : CacheTable) (us : List Lexeme) → Tabled t → State (Part 0 (the k.CloseParen) ps) us → Goes ps n t us
close_rest ps n t us h s = close_got ps n t us h (only_passed s) (at_token 0 us s)

key_rest_got : (ps : Parts) (n : ℕ) (t : CacheTable) (us : List Lexeme) → length us ≤ n → Tabled t → State (Part 0 after_key ps) us → Goes ps n t us
key_rest_got ps n t us l h s = by n l (begins k.CloseParen us) refl
  where
    by : (m : ℕ) → length us ≤ m → (b : Bool) → begins k.CloseParen us ≡ b → Goes ps m t us
    by m i true e = close_got ps m t us h e (at_empty (only_this 0 us refl e s))
    by zero i false e = absurd (no_tokens us i (only_passed (at_then (only_that us e s))))
    by (suc m) i false e =
        let s1 = at_then (only_that us e s) in
        let vs : List Lexeme = drop 1 us in
        let s2 = at_then (at_token 0 us s1) in
        more_got ps (Part 0 (the k.CloseParen) ps) m t us i h (only_passed s1) (got_as (element_of vs) (as_foreign_key (foreign_key_of vs)) (foreign_first vs (only_passed s2)) (foreign_got (Part 0 (the k.CloseParen) ps) vs (at_then (at_token 0 vs s2))))
        (λ x ws j g q. close_rest ps m x ws g q)

-- behind a comma
abbrev console_element : Grammar
console_element = choice k.Primary (key_rest ▸ after_key) (choice k.Foreign (foreign_rest ▸ the k.CloseParen) (Token Name ▸ column_rest ▸ Named rules.Columns))

columns_got : (ps : Parts) (n : ℕ) (t : CacheTable) (us : List Lexeme) → length us ≤ n → Tabled t → State (Part 0 (Named rules.Columns) ps) us → Goes ps n t us
columns_got ps zero t us l h s = by (begins k.CloseParen us) refl
  where
    by : (b : Bool) → begins k.CloseParen us ≡ b → Goes ps zero t us
    by true e = close_got ps zero t us h e (at_empty (only_this 0 us refl e (at_named s)))
    by false e = absurd (no_tokens us l (only_passed (at_then (only_that us e (at_named s)))))
columns_got ps (suc n) t us l h s = by (begins k.CloseParen us) (begins k.Primary vs) (begins k.Foreign vs) refl refl refl (λ x ws i g y. columns_got ps n x ws i g y)
  where
    vs : List Lexeme
    vs = drop 1 us

    begun : begins k.CloseParen us ≡ false → State (Part 0 console_element ps) vs
    begun e = at_token 0 us (at_then (only_that us e (at_named s)))

    comma : begins k.CloseParen us ≡ false → begins k.Comma us ≡ true
    comma e = only_passed (at_then (only_that us e (at_named s)))

    by : (b c d : Bool) → begins k.CloseParen us ≡ b → begins k.Primary vs ≡ c → begins k.Foreign vs ≡ d
        → ((x : CacheTable) (ws : List Lexeme) → length ws ≤ n → Tabled x → State (Part 0 (Named rules.Columns) ps) ws → Goes ps n x ws) → Goes ps (suc n) t us
    by true c d e p q next = close_got ps (suc n) t us h e (at_empty (only_this 0 us refl e (at_named s)))
    by false true d e p q next = more_got ps (Part 0 after_key ps) n t us l h (comma e) (key_element after_key _ ps vs p (begun e)) (λ x ws i g y. key_rest_got ps n x ws i g y)
    by false false true e p q next = more_got ps (Part 0 (the k.CloseParen) ps) n t us l h (comma e) (foreign_element (the k.CloseParen) _ ps vs q (only_that vs p (begun e))) (λ x ws i g y. close_rest ps n x ws g y)
    by false false false e p q next = more_got ps (Part 0 (Named rules.Columns) ps) n t us l h (comma e) (behind_column (Named rules.Columns) ps vs (only_that vs q (only_that vs p (begun e)))) next

-- a table is read
pub table_got : (ps : Parts) (us : List Lexeme) → State (Part 0 table ps) us → Got Tabled ps (table_of us)
unfolding table_of
table_got ps us s =
    let n = name_got 0 _ us (at_then s) in
    let vs : List Lexeme = drop 1 (name_of us).1 in
    let s1 = at_then (at_token 0 (name_of us).1 (at_then n.state)) in
    let s2 : State (Part 0 column_rest (Part 0 (Named rules.Columns) ps)) (drop 1 vs) = at_then (at_token 0 vs s1) in
    let c = column_got (Part 0 (Named rules.Columns) ps) vs s1.fit s2 in
    columns_got ps (length (column_of vs).1) (table_with (name_of us).0 (column_of vs)).0 (column_of vs).1 (omega arith) (record { name = n.good; columns = (c.good, tt); key = tt; foreign = tt }) c.state
