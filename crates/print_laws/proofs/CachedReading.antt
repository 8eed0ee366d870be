-- What is read off the tokens of bytes without a bad one: tables of cache groups.
use Rattle.std.proofs.Common.{◌≡◌, ℕ, zero, suc, ◌≤◌, Bool, true, false, List, [], ◌∷◌, length, drop, refl, sym, ap, ◌∙◌, subst, arith}
use Rattle.std.proofs.lemmas.Bool.Decides.{nat_tests}
use Rattle.sql_print.specs.sql_tokens.specs.declared.kind.Kind.{Kind}
use Rattle.sql_print.specs.sql_tokens.specs.declared.kind.Kind.TheVariants as k
use Rattle.sql_print.specs.sql_tokens.specs.Kinds.{is_kind}
use Rattle.sql_print.specs.sql_tokens.specs.Lexing.{Lexeme}
use Rattle.sql_print.specs.sql_grammar.specs.declared.rule.Rule.TheVariants as rules
use Rattle.sql_print.specs.sql_grammar.specs.declared.test.Test.TheVariants.{Name, Column}
use Rattle.sql_print.specs.sql_grammar.specs.Tests.{passes}
use Rattle.sql_print.specs.sql_grammar.specs.Grammar.{Grammar, Parts, Part, Empty, Named, Token}
use Rattle.sql_print.specs.sql_grammar.specs.Notation.{choice, the, ◌▸◌}
use Rattle.sql_print.specs.sql_grammar.specs.Tables.{attribute, cached_after_foreign, cached_after_key, column_rest, foreign_rest, key_rest, more_cached_columns}
use Rattle.sql_print.specs.sql_phrases.specs.declared.tables.CacheTable.{CacheTable}
use Rattle.sql_print.specs.sql_phrases.specs.declared.tables.TableAttribute.{TableAttribute}
use Rattle.sql_print.specs.sql_phrases.specs.declared.tables.TableAttribute.TheVariants as attributes
use Rattle.sql_print.specs.sql_phrases.specs.declared.tables.Element.{Element}
use Rattle.sql_print.specs.sql_phrases.specs.declared.tables.Element.TheVariants as elements
use Rattle.sql_print.specs.sql_phrases.specs.Reading.{at_comma, begins, chained, first_kind, name_of, past_one}
use Rattle.sql_print.specs.sql_phrases.specs.Tables.{column_of, element_of, table_of, table_with, with_element}
use Rattle.print_laws.proofs.Fits.{Fits}
use Rattle.print_laws.proofs.Lists.{AllGood}
use Rattle.print_laws.proofs.Reading.{Goes, Tabled, close_got, column_element, column_got, foreign_element, key_element, more_got, name_got, no_tokens, one_kind}
use Rattle.print_laws.proofs.State.{Got, State, at_empty, at_named, at_then, at_token, only_passed, only_that, only_this, passed}

readonly_name : (n : Kind) → is_kind n k.Readonly ≡ true → passes Name n ≡ true
readonly_name n h = grind (arith, nat_tests)

propagate_name : (n : Kind) → is_kind n k.Propagate ≡ true → passes Name n ≡ true
propagate_name n h = grind (arith, nat_tests)

column_name : (n : Kind) → passes Column n ≡ true → passes Name n ≡ true
column_name n h = grind (arith, nat_tests)

-- attributes
readonly_first : (us : List Lexeme) → begins k.Readonly us ≡ true → begins k.CloseParen (drop 1 us) ≡ true → element_of us ≡ (elements.Attribute attributes.ReadOnly, drop 1 us)
unfolding element_of
readonly_first us e h = rw (one_kind k.Readonly k.Primary (first_kind us) e refl, one_kind k.Readonly k.Foreign (first_kind us) e refl, e, h) refl

propagate_first : (us : List Lexeme) → begins k.Propagate us ≡ true → begins k.CloseParen (drop 1 us) ≡ true → element_of us ≡ (elements.Attribute attributes.Propagate, drop 1 us)
unfolding element_of
propagate_first us e h =
    rw (one_kind k.Propagate k.Primary (first_kind us) e refl, one_kind k.Propagate k.Foreign (first_kind us) e refl, one_kind k.Propagate k.Readonly (first_kind us) e refl, e, h) refl

not_first : (us : List Lexeme) → begins k.Not us ≡ true → element_of us ≡ (elements.Attribute attributes.NotPropagate, drop 2 us)
unfolding element_of
not_first us e =
    rw (one_kind k.Not k.Primary (first_kind us) e refl, one_kind k.Not k.Foreign (first_kind us) e refl, one_kind k.Not k.Readonly (first_kind us) e refl, one_kind k.Not k.Propagate (first_kind us) e refl, e) refl

-- an attribute was read, and behind it the `)` of the table
record Attributed (ps : Parts) (us : List Lexeme) : Type 0 where
  a : TableAttribute
  rest : List Lexeme
  is : element_of us ≡ (elements.Attribute a, rest)
  close : begins k.CloseParen rest ≡ true
  state : State ps (drop 1 rest)

readonly_got : (ps : Parts) (us : List Lexeme) → begins k.Readonly us ≡ true → begins k.CloseParen (drop 1 us) ≡ true → State ps (drop 2 us) → Attributed ps us
readonly_got ps us e h s = record { a = attributes.ReadOnly; rest = drop 1 us; is = readonly_first us e h; close = h; state = subst (λ x. State ps x) (sym (dropped us)) s }
  where
    dropped : (vs : List Lexeme) → drop 1 (drop 1 vs) ≡ drop 2 vs
    dropped [] = refl
    dropped (v ∷ vs) = refl

propagate_got : (ps : Parts) (us : List Lexeme) → begins k.Propagate us ≡ true → begins k.CloseParen (drop 1 us) ≡ true → State ps (drop 2 us) → Attributed ps us
propagate_got ps us e h s = record { a = attributes.Propagate; rest = drop 1 us; is = propagate_first us e h; close = h; state = subst (λ x. State ps x) (sym (dropped us)) s }
  where
    dropped : (vs : List Lexeme) → drop 1 (drop 1 vs) ≡ drop 2 vs
    dropped [] = refl
    dropped (v ∷ vs) = refl

not_got : (ps : Parts) (us : List Lexeme) → begins k.Not us ≡ true → State (Part 0 (the k.Propagate ▸ the k.CloseParen) ps) (drop 1 us) → Attributed ps us
not_got ps us e s =
    let s1 = at_token 1 us (at_then s) in
    record { a = attributes.NotPropagate; rest = drop 2 us; is = not_first us e; close = only_passed s1; state = at_token 0 (drop 2 us) s1 }

attribute_got : (ps : Parts) (us : List Lexeme) → State (Part 0 attribute ps) us → Attributed ps us
attribute_got ps us s = by (begins k.Readonly us) (begins k.Propagate us) refl refl
  where
    by : (a b : Bool) → begins k.Readonly us ≡ a → begins k.Propagate us ≡ b → Attributed ps us
    by true b p q = let s1 = only_this 0 us refl p s in readonly_got ps us p (only_passed s1) (at_token 1 us s1)
    by false true p q = let s1 = only_this 0 us refl q (only_that us p s) in propagate_got ps us q (only_passed s1) (at_token 1 us s1)
    by false false p q = let s1 = at_then (only_that us q (only_that us p s)) in not_got ps us (only_passed s1) (at_token 0 us s1)

tells_apart : (b : Bool) → b ≡ true → b ≡ false → ⊥
tells_apart b p q = absurd (cc)

goes_is : (n : ℕ) (t : CacheTable) (x : Lexeme) (us : List Lexeme) → begins k.Comma (x ∷ us) ≡ true → past_one (chained at_comma with_element element_of (suc n) (t, x ∷ us)) ≡ past_one (chained at_comma with_element element_of n (with_element x.kind t (element_of us).0, (element_of us).1))
goes_is n t x us e = rw e refl

attribute_goes : (ps : Parts) (n : ℕ) (t : CacheTable) (us : List Lexeme) → length us ≤ suc n → Tabled t → begins k.Comma us ≡ true → Attributed ps (drop 1 us) → Goes ps (suc n) t us
attribute_goes ps n t [] l h e a = absurd (tells_apart (begins k.Comma []) e refl)
attribute_goes ps n t (x ∷ us) l h e a =
    let next : CacheTable = with_element x.kind t (elements.Attribute a.a) in
    let good : Tabled next = record { name = h.name; columns = h.columns; key = h.key; foreign = h.foreign } in
    let stops : Goes ps n next a.rest = close_got ps n next a.rest good a.close a.state in
    subst (λ (y : CacheTable × List Lexeme). Got Tabled ps y)
    (sym (goes_is n t x us e ∙ ap (λ (y : Element × List Lexeme). past_one (chained at_comma with_element element_of n (with_element x.kind t y.0, y.1))) a.is)) stops

-- behind a foreign key
foreign_rest_got : (ps : Parts) (n : ℕ) (t : CacheTable) (us : List Lexeme) → length us ≤ n → Tabled t → State (Part 0 cached_after_foreign ps) us → Goes ps n t us
foreign_rest_got ps n t us l h s = by n l (begins k.CloseParen us) refl
  where
    by : (m : ℕ) → length us ≤ m → (b : Bool) → begins k.CloseParen us ≡ b → Goes ps m t us
    by m i true e = close_got ps m t us h e (at_empty (only_this 0 us refl e s))
    by zero i false e = absurd (no_tokens us i (only_passed (at_then (only_that us e s))))
    by (suc m) i false e = let s1 = at_then (only_that us e s) in attribute_goes ps m t us i h (only_passed s1) (attribute_got ps (drop 1 us) (at_token 0 us s1))

-- behind a key
key_rest_got : (ps : Parts) (n : ℕ) (t : CacheTable) (us : List Lexeme) → length us ≤ n → Tabled t → State (Part 0 cached_after_key ps) us → Goes ps n t us
key_rest_got ps n t us l h s = by n l (begins k.CloseParen us) (begins k.Foreign (drop 1 us)) refl refl
  where
    by : (m : ℕ) → length us ≤ m → (b c : Bool) → begins k.CloseParen us ≡ b → begins k.Foreign (drop 1 us) ≡ c → Goes ps m t us
    by m i true c e f = close_got ps m t us h e (at_empty (only_this 0 us refl e s))
    by zero i false c e f = absurd (no_tokens us i (only_passed (at_then (only_that us e s))))
    by (suc m) i false true e f =
        let s1 = at_then (only_that us e s) in
        more_got ps (Part 0 cached_after_foreign ps) m t us i h (only_passed s1) (foreign_element cached_after_foreign attribute ps (drop 1 us) f (at_token 0 us s1)) (λ x ws j g y. foreign_rest_got ps m x ws j g y)
    by (suc m) i false false e f = let s1 = at_then (only_that us e s) in attribute_goes ps m t us i h (only_passed s1) (attribute_got ps (drop 1 us) (only_that (drop 1 us) f (at_token 0 us s1)))

-- behind a comma
abbrev named_part : Grammar
named_part = choice k.Readonly (choice k.CloseParen Empty more_cached_columns) (choice k.Propagate (choice k.CloseParen Empty more_cached_columns) (Token Column ▸ more_cached_columns))

abbrev element_part : Grammar
element_part = choice k.Primary (key_rest ▸ cached_after_key) (choice k.Foreign (foreign_rest ▸ cached_after_foreign) (choice k.Not (the k.Propagate ▸ the k.CloseParen) named_part))

-- how the rest is read
abbrev Next : Parts → ℕ → Type 0
Next ps n = (x : CacheTable) (ws : List Lexeme) → length ws ≤ n → Tabled x → State (Part 0 (Named rules.CachedColumns) ps) ws → Goes ps n x ws

columns_got : (ps : Parts) (n : ℕ) (t : CacheTable) (us : List Lexeme) → length us ≤ n → Tabled t → State (Part 0 (Named rules.CachedColumns) ps) us → Goes ps n t us
columns_got ps zero t us l h s = by (begins k.CloseParen us) refl
  where
    by : (b : Bool) → begins k.CloseParen us ≡ b → Goes ps zero t us
    by true e = close_got ps zero t us h e (at_empty (only_this 0 us refl e (at_named s)))
    by false e = absurd (no_tokens us l (only_passed (at_then (only_that us e (at_named s)))))
columns_got ps (suc n) t us l h s = by (begins k.CloseParen us) refl (λ x ws i g y. columns_got ps n x ws i g y)
  where
    vs : List Lexeme
    vs = drop 1 us

    column : begins k.Comma us ≡ true → passes Name (first_kind vs) ≡ true → AllGood Fits vs → State (Part 0 more_cached_columns ps) (drop 1 vs) → Next ps n → Goes ps (suc n) t us
    column e p f y next = more_got ps (Part 0 (Named rules.CachedColumns) ps) n t us l h e (column_element (Part 0 (Named rules.CachedColumns) ps) vs f p (at_then y)) next

    either : begins k.Comma us ≡ true → passes Name (first_kind vs) ≡ true → AllGood Fits vs → (begins k.CloseParen (drop 1 vs) ≡ true → State ps (drop 2 vs) → Attributed ps vs) → State (Part 0 (choice k.CloseParen Empty more_cached_columns) ps) (drop 1 vs) → Next ps n → Goes ps (suc n) t us
    either e p f make y next = by_close (begins k.CloseParen (drop 1 vs)) refl
      where
        by_close : (b : Bool) → begins k.CloseParen (drop 1 vs) ≡ b → Goes ps (suc n) t us
        by_close true q = attribute_goes ps n t us l h e (make q (at_empty (only_this 1 vs refl q y)))
        by_close false q = column e p f (only_that (drop 1 vs) q y) next

    named_one : begins k.Comma us ≡ true → State (Part 0 named_part ps) vs → Next ps n → Goes ps (suc n) t us
    named_one e z next = by_name (begins k.Readonly vs) (begins k.Propagate vs) refl refl
      where
        by_name : (a b : Bool) → begins k.Readonly vs ≡ a → begins k.Propagate vs ≡ b → Goes ps (suc n) t us
        by_name true b p q = either e (readonly_name (first_kind vs) p) z.fit (λ c y. readonly_got ps vs p c y) (only_this 0 vs refl p z) next
        by_name false true p q = either e (propagate_name (first_kind vs) q) z.fit (λ c y. propagate_got ps vs q c y) (only_this 0 vs refl q (only_that vs p z)) next
        by_name false false p q = let s1 = at_then (only_that vs q (only_that vs p z)) in column e (column_name (first_kind vs) (passed s1)) s1.fit (at_token 0 vs s1) next

    element : begins k.Comma us ≡ true → State (Part 0 element_part ps) vs → Next ps n → Goes ps (suc n) t us
    element e z next = by_first (begins k.Primary vs) (begins k.Foreign vs) (begins k.Not vs) refl refl refl
      where
        by_first : (a b c : Bool) → begins k.Primary vs ≡ a → begins k.Foreign vs ≡ b → begins k.Not vs ≡ c → Goes ps (suc n) t us
        by_first true b c p q r = more_got ps (Part 0 cached_after_key ps) n t us l h e (key_element cached_after_key _ ps vs p z) (λ x ws i g y. key_rest_got ps n x ws i g y)
        by_first false true c p q r = more_got ps (Part 0 cached_after_foreign ps) n t us l h e (foreign_element cached_after_foreign _ ps vs q (only_that vs p z)) (λ x ws i g y. foreign_rest_got ps n x ws i g y)
        by_first false false true p q r = attribute_goes ps n t us l h e (not_got ps vs r (only_this 0 vs refl r (only_that vs q (only_that vs p z))))
        by_first false false false p q r = named_one e (only_that vs r (only_that vs q (only_that vs p z))) next

    by : (b : Bool) → begins k.CloseParen us ≡ b → Next ps n → Goes ps (suc n) t us
    by true e next = close_got ps (suc n) t us h e (at_empty (only_this 0 us refl e (at_named s)))
    by false e next = let s1 = at_then (only_that us e (at_named s)) in element (only_passed s1) (at_token 0 us s1) next

-- a table of a group is read
pub cached_table_got : (ps : Parts) (us : List Lexeme) → State (Part 0 (Named rules.CachedTable) ps) us → Got Tabled ps (table_of us)
unfolding table_of
cached_table_got ps us s =
    let n = name_got 0 _ us (at_then (at_named s)) in
    let vs : List Lexeme = drop 1 (name_of us).1 in
    let s1 = at_then (at_token 0 (name_of us).1 (at_then n.state)) in
    let s2 : State (Part 0 column_rest (Part 0 (Named rules.CachedColumns) ps)) (drop 1 vs) = at_then (at_token 0 vs s1) in
    let c = column_got (Part 0 (Named rules.CachedColumns) ps) vs s1.fit s2 in
    columns_got ps (length (column_of vs).1) (table_with (name_of us).0 (column_of vs)).0 (column_of vs).1 (omega arith) (record { name = n.good; columns = (c.good, tt); key = tt; foreign = tt }) c.state
