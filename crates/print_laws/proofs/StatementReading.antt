-- What is read off the tokens of a statement's bytes.
use Rattle.std.proofs.Common.{◌≡◌, ℕ, Bool, true, false, cond, ◌||◌, List, [], ◌∷◌, drop, refl, sym, subst}
use Rattle.sql_print.specs.sql_query.specs.declared.literal.Literal.{Literal}
use Rattle.sql_print.specs.sql_tokens.specs.declared.kind.Kind.{Kind}
use Rattle.sql_print.specs.sql_tokens.specs.declared.kind.Kind.TheVariants as k
use Rattle.sql_print.specs.sql_tokens.specs.Kinds.{is_kind}
use Rattle.sql_print.specs.sql_tokens.specs.Lexing.{Lexeme, lexed}
use Rattle.sql_print.specs.sql_grammar.specs.declared.rule.Rule.TheVariants as rules
use Rattle.sql_print.specs.sql_grammar.specs.declared.start.Start.TheVariants as starts
use Rattle.sql_print.specs.sql_grammar.specs.Grammar.{Empty, Named, Part, Parts}
use Rattle.sql_print.specs.sql_grammar.specs.Notation.{choice, optional}
use Rattle.sql_print.specs.sql_subset.specs.declared.stmt.Stmt.{Stmt}
use Rattle.sql_print.specs.sql_subset.specs.Lines.{Spells}
use Rattle.sql_print.specs.sql_subset.specs.Statements.{at_write, call_with, create_of, drop_of, group_statement_of, statement_of}
use Rattle.sql_print.specs.sql_phrases.specs.Reading.{begins, first_kind, literals_of, name_of}
use Rattle.sql_print.specs.sql_phrases.specs.Writes.{write_of}
use Rattle.print_laws.proofs.Fits.{Fits, all_fit}
use Rattle.print_laws.proofs.GroupReading.{group_got}
use Rattle.print_laws.proofs.Lists.{AllGood, SomeGood}
use Rattle.print_laws.proofs.Literals.{IsLiteral}
use Rattle.print_laws.proofs.LoadReading.{index_is, literals_got, load_got, name_good, of_group_is}
use Rattle.print_laws.proofs.Loading.{literals_part}
use Rattle.print_laws.proofs.Names.{IsName}
use Rattle.print_laws.proofs.QueryReading.{delete_first, insert_first, query_got, update_first}
use Rattle.print_laws.proofs.Reading.{identifier_good, name_got, one_kind}
use Rattle.print_laws.proofs.Spelling.{AreArguments, IsStatement}
use Rattle.print_laws.proofs.Spoilt.{fine_bytes}
use Rattle.print_laws.proofs.Starts.{begun}
use Rattle.print_laws.proofs.State.{State, at_named, at_then, only_that, only_this}
use Rattle.print_laws.proofs.Writes.{IsWrite}

cond_is : (b : Bool) (x y : Stmt) → (b ≡ true → IsStatement x) → (b ≡ false → IsStatement y) → IsStatement (cond b x y)
cond_is true x y f g = f refl
cond_is false x y f g = g refl

-- a token of another kind comes first
no : (i : Kind) (us : List Lexeme) → begins i us ≡ true → (j : Kind) → is_kind i j ≡ false → begins j us ≡ false
no i us h j e = one_kind i j (first_kind us) h e

fit_behind : (us : List Lexeme) → AllGood Fits us → AllGood Fits (drop 1 us)
fit_behind [] h = tt
fit_behind (l ∷ us) h = h.1

-- behind DROP
drop_is : (us : List Lexeme) → AllGood Fits us → IsStatement (drop_of us)
unfolding drop_of
drop_is us h = cond_is (begins k.Index us) _ _ (λ e. identifier_good (drop 1 us) (fit_behind us h)) (λ e. name_good (drop 2 us))

-- behind CREATE
create_is : (ps : Parts) (us : List Lexeme) → State (Part 0 (Named rules.Create) ps) us → IsStatement (create_of us)
unfolding create_of
create_is ps us s = cond_is (begins k.Index us) _ _ (λ e. index_is ps (drop 1 us) (only_this 0 us refl e (at_named s))) (λ e. (group_got ps us (only_that us e (at_named s))).good)

-- behind CALL
some_arguments : (xs : List Literal) → SomeGood IsLiteral xs → AreArguments xs
some_arguments [] h = absurd h
some_arguments (x ∷ xs) h = h

call_is : (ps : Parts) (n : List ℕ) (us : List Lexeme) → IsName n → State (Part 0 (optional k.OpenParen (choice k.CloseParen Empty literals_part)) ps) us → IsStatement (call_with n us)
call_is ps n us h s =
    cond_is (begins k.OpenParen us) _ _
    (λ e. let s1 = only_this 0 us refl e s in
    cond_is (begins k.CloseParen (drop 1 us)) _ _ (λ f. (h, tt)) (λ f. (h, some_arguments (literals_of (drop 1 us)).0 (literals_got ps (drop 1 us) (only_that (drop 1 us) f s1)).good)))
    (λ e. (h, tt))

-- a write
write_is : (ps : Parts) (us : List Lexeme) → at_write us ≡ true → State (Part 0 (Named rules.Statement) ps) us → IsWrite (write_of us).0
write_is ps us h s = by (begins k.Insert us) (begins k.Update us) (begins k.Delete us) refl refl refl h
  where
    by : (a b c : Bool) → begins k.Insert us ≡ a → begins k.Update us ≡ b → begins k.Delete us ≡ c → a || b || c ≡ true → IsWrite (write_of us).0
    by true b c p q r e = (insert_first ps us p (only_this 0 us refl p (only_that us (no k.Insert us p k.Select refl) (at_named s)))).good
    by false true c p q r e = (update_first ps us p q (only_this 0 us refl q (only_that us p (only_that us (no k.Update us q k.Select refl) (at_named s))))).good
    by false false true p q r e = (delete_first ps us p q (only_this 0 us refl r (only_that us q (only_that us p (only_that us (no k.Delete us r k.Select refl) (at_named s)))))).good
    by false false false p q r e = absurd (cc)

-- what is done to a group
group_statement_is : (ps : Parts) (us : List Lexeme) → State (Part 0 (Named rules.Statement) ps) us → IsStatement (group_statement_of us)
unfolding group_statement_of
group_statement_is ps us s =
    cond_is (begins k.Load us) _ _
    (λ e. let n = no k.Load us e in
    (load_got ps (drop 1 us) (only_this 0 us refl e (only_that us (n k.Create refl) (only_that us (n k.Delete refl) (only_that us (n k.Update refl) (only_that us (n k.Insert refl) (only_that us (n k.Select refl) (at_named s)))))))).good)
    (λ a. cond_is (begins k.Refresh us) _ _
    (λ e. let n = no k.Refresh us e in
    (load_got ps (drop 1 us) (only_this 0 us refl e (only_that us a (only_that us (n k.Create refl) (only_that us (n k.Delete refl) (only_that us (n k.Update refl) (only_that us (n k.Insert refl) (only_that us (n k.Select refl) (at_named s))))))))).good)
    (λ b. cond_is (begins k.Unload us) _ _
    (λ e. let n = no k.Unload us e in
    of_group_is ps (drop 1 us) (only_this 0 us refl e (only_that us b (only_that us a (only_that us (n k.Create refl) (only_that us (n k.Delete refl) (only_that us (n k.Update refl) (only_that us (n k.Insert refl) (only_that us (n k.Select refl) (at_named s))))))))))
    (λ c. cond_is (begins k.Flush us) _ _
    (λ e. let n = no k.Flush us e in
    of_group_is ps (drop 1 us) (only_this 0 us refl e (only_that us c (only_that us b (only_that us a (only_that us (n k.Create refl) (only_that us (n k.Delete refl) (only_that us (n k.Update refl) (only_that us (n k.Insert refl) (only_that us (n k.Select refl) (at_named s)))))))))))
    (λ d. name_good (drop 2 (drop 1 us))))))

-- a statement
pub statement_is : (ps : Parts) (us : List Lexeme) → State (Part 0 (Named rules.Statement) ps) us → IsStatement (statement_of us)
unfolding statement_of
statement_is ps us s =
    cond_is (begins k.Select us) _ _ (λ e. (query_got ps (drop 1 us) (at_named (only_this 0 us refl e (at_named s)))).good)
    (λ a. cond_is (at_write us) _ _ (λ e. write_is ps us e s)
    (λ b. cond_is (begins k.Create us) _ _
    (λ e. let n = no k.Create us e in
    create_is ps (drop 1 us) (only_this 0 us refl e (only_that us (n k.Delete refl) (only_that us (n k.Update refl) (only_that us (n k.Insert refl) (only_that us a (at_named s)))))))
    (λ c. cond_is (begins k.Drop us) _ _ (λ e. drop_is (drop 1 us) (fit_behind us s.fit))
    (λ d. cond_is (begins k.Call us) _ _
    (λ e. let n = no k.Call us e in
    let s1 = only_that us (n k.Flush refl) (only_that us (n k.Unload refl) (only_that us (n k.Refresh refl) (only_that us (n k.Load refl) (only_that us c (only_that us (n k.Delete refl) (only_that us (n k.Update refl) (only_that us (n k.Insert refl) (only_that us a (at_named s))))))))) in
    let s2 = only_this 0 us refl e (only_that us (n k.Alter refl) (only_that us d s1)) in
    let x = name_got 0 _ (drop 1 us) (at_then (at_named s2)) in
    call_is ps (name_of (drop 1 us)).0 (name_of (drop 1 us)).1 x.good x.state)
    (λ f. cond_is (begins k.Commit us) _ _ (λ e. tt) (λ g. cond_is (begins k.Rollback us) _ _ (λ e. tt) (λ h. group_statement_is ps us s)))))))

-- a statement that bytes spell
pub statement_spelt : (bytes : List ℕ) (s : Stmt) → Spells bytes s → IsStatement s
statement_spelt bytes s (h, d, e) = subst (λ x. IsStatement x) (sym e) (statement_is _ (lexed 0 bytes) (at_then (begun starts.Statement (lexed 0 bytes) (all_fit 0 bytes (fine_bytes bytes h)) d)))
