-- Each statement that is printed spells its normal form.
use Rattle.std.proofs.Common.{◌≡◌, ℕ, Bool, true, false, cond, List, [], ◌∷◌, ◌++◌, drop, codes, refl, sym, ap, ◌∙◌, subst, append_assoc, append-nil}
use Rattle.sql_print.specs.sql_query.specs.declared.literal.Literal.{Literal}
use Rattle.sql_print.specs.sql_query.specs.declared.query.Query.{Query}
use Rattle.sql_print.specs.sql_query.specs.declared.write.Delete.{Delete}
use Rattle.sql_print.specs.sql_query.specs.declared.write.Insert.{Insert}
use Rattle.sql_print.specs.sql_query.specs.declared.write.Update.{Update}
use Rattle.sql_print.specs.sql_query.specs.declared.write.Write.{Write}
use Rattle.sql_print.specs.sql_query.specs.declared.write.Write.TheVariants as writes
use Rattle.sql_print.specs.sql_tokens.specs.declared.kind.Kind.{Kind}
use Rattle.sql_print.specs.sql_tokens.specs.declared.kind.Kind.TheVariants as k
use Rattle.sql_print.specs.sql_tokens.specs.Lexing.{Lexeme, lexeme}
use Rattle.sql_print.specs.sql_grammar.specs.declared.rule.Rule.TheVariants as rules
use Rattle.sql_print.specs.sql_grammar.specs.Grammar.{Empty, Grammar, Named, Over, Part, Parts, Reads, Token, both, empty, named, that, this, token}
use Rattle.sql_print.specs.sql_grammar.specs.Notation.{choice, optional, the, ◌▸◌}
use Rattle.sql_print.specs.sql_grammar.specs.declared.test.Test.TheVariants.{Name}
use Rattle.sql_print.specs.sql_grammar.specs.Groups.{create as create_part}
use Rattle.sql_print.specs.sql_grammar.specs.Loading.{altered as altered_part, dropped as dropped_part, loaded as loaded_part, unloaded as unloaded_part}
use Rattle.sql_print.specs.sql_grammar.specs.Tables.{index as index_part}
use Rattle.sql_print.specs.sql_grammar.specs.Queries.{select}
use Rattle.sql_print.specs.sql_grammar.specs.Sql.{rule}
use Rattle.sql_print.specs.sql_grammar.specs.Statements.{statement as statement_part}
use Rattle.sql_print.specs.sql_subset.specs.declared.stmt.Alter.{Alter}
use Rattle.sql_print.specs.sql_subset.specs.declared.stmt.Call as calls
use Rattle.sql_print.specs.sql_subset.specs.declared.stmt.CreateIndex.{CreateIndex}
use Rattle.sql_print.specs.sql_subset.specs.declared.stmt.Load as loads
use Rattle.sql_print.specs.sql_subset.specs.declared.stmt.OfGroup.{OfGroup}
use Rattle.sql_print.specs.sql_subset.specs.declared.stmt.Stmt.{Stmt}
use Rattle.sql_print.specs.sql_subset.specs.declared.stmt.Stmt.TheVariants as v
use Rattle.sql_print.specs.sql_subset.specs.Lines.{Spells, kinds_in}
use Rattle.sql_print.specs.sql_subset.specs.Statements.{call_named, call_with, create_of, drop_of, group_statement_of, index_of, load_of, of_group_of, statement_of}
use Rattle.sql_print.specs.sql_phrases.specs.Reading.{begins, identifier_of, literals_of, name_of}
use Rattle.sql_print.specs.sql_phrases.specs.Queries.{query_of}
use Rattle.sql_print.specs.sql_phrases.specs.Writes.{delete_of, insert_of, update_of, write_of}
use Rattle.sql_print.specs.sql_words.specs.Words.{Word, listed, literal_words, more, name_words}
use Rattle.sql_print.specs.Groups.{state_word}
use Rattle.sql_print.specs.Normal.{normal}
use Rattle.sql_print.specs.Printed.{printed}
use Rattle.sql_print.specs.Queries.{query_words, write_rest_words}
use Rattle.sql_print.specs.Statements.{argument_words, index_words, load_words, of_group_words}
use Rattle.print_laws.proofs.Expressions.{NoStart, literal_never}
use Rattle.print_laws.proofs.Fine.{fine_none}
use Rattle.print_laws.proofs.Groups.{IsGroup}
use Rattle.print_laws.proofs.Keywords.{alter_word, cache_word, call_word, commit_word, create_word, delete_word, drop_word, flush_word, index_word, insert_word, load_word, open_word, refresh_word, rollback_word, select_word, unload_word, update_word}
use Rattle.print_laws.proofs.Lexed.{begun_by, tokens}
use Rattle.print_laws.proofs.Lists.{SomeGood}
use Rattle.print_laws.proofs.Literals.{IsLiteral}
use Rattle.print_laws.proofs.Loading.{IsIndex, IsLoad, IsOfGroup, alter_by, closed_literals, end_closes, ends_never, index_by, literals_part, of_group_by, put_alter, put_drop, put_index, put_literals, put_load, put_of_group}
use Rattle.print_laws.proofs.Names.{IsIdentifier, IsName, put_identifier, put_name}
use Rattle.print_laws.proofs.Put.{Never, Put, never_word, put_as, put_both, put_map, put_none, put_word, put_words}
use Rattle.print_laws.proofs.Queries.{IsQuery, put_query}
use Rattle.print_laws.proofs.Statements.{Begun, at_end, group_spells, spells}
use Rattle.print_laws.proofs.Writes.{IsDelete, IsInsert, IsUpdate, IsWrite, WriteEnds, put_delete, put_insert, put_update}

-- the arguments of a call
abbrev pub AreArguments : List Literal → Type 0
AreArguments [] = Unit {0}
AreArguments (x ∷ xs) = SomeGood IsLiteral (x ∷ xs)

-- a statement such as bytes can spell
abbrev pub IsStatement : Stmt → Type 0
IsStatement (v.Select q) = IsQuery q
IsStatement (v.Write w) = IsWrite w
IsStatement (v.CreateGroup g) = IsGroup g
IsStatement (v.CreateIndex x) = IsIndex x
IsStatement (v.Load l) = IsLoad l
IsStatement (v.Refresh l) = IsLoad l
IsStatement (v.Unload x) = IsOfGroup x
IsStatement (v.Flush x) = IsOfGroup x
IsStatement (v.Alter x) = IsName x.group
IsStatement (v.DropGroup n) = IsName n
IsStatement (v.DropIndex n) = IsIdentifier n
IsStatement (v.Call c) = IsName c.procedure × AreArguments c.arguments
IsStatement v.Commit = Unit {0}
IsStatement v.Rollback = Unit {0}

abbrev end : Parts
end = Part 0 (optional k.Semicolon Empty) Over

-- a keyword and a phrase
begun : {V : Type 0} (s : Stmt) (j : Kind) (read : List Lexeme → V × List Lexeme) (g : Grammar) (x : V) (ws : List Word) → Put read 0 g x ws [] → ((r : List Kind) → Reads rule 32 (Part 0 g end) r → Reads rule 32 (Part 0 statement_part end) (j ∷ r))
    → ((i p : ℕ) (w : Word) (y : V × List Lexeme) → y.0 ≡ x → read (tokens i ws) ≡ y → s ≡ statement_of (lexeme j p w ∷ tokens i ws)) → Begun s j ws
begun s j read g x ws q f e = record {
  fine = q.fine fine_none;
  reads = λ i. let t = q.says i in f (kinds_in (tokens i ws)) (t.spells end (at_end t.at));
  says = λ i p w. let t = q.says i in e i p w (x, tokens t.at []) refl t.reads;
}

-- what a statement is, by its first token
abbrev Behind : Type 0
Behind = List Lexeme

select_says : (p : ℕ) (w : Word) (ls : Behind) → statement_of (lexeme k.Select p w ∷ ls) ≡ v.Select (query_of ls).0
unfolding statement_of
select_says p w ls = refl

load_says : (p : ℕ) (w : Word) (ls : Behind) → statement_of (lexeme k.Load p w ∷ ls) ≡ v.Load (load_of ls).0
unfolding statement_of group_statement_of
load_says p w ls = refl

refresh_says : (p : ℕ) (w : Word) (ls : Behind) → statement_of (lexeme k.Refresh p w ∷ ls) ≡ v.Refresh (load_of ls).0
unfolding statement_of group_statement_of
refresh_says p w ls = refl

unload_says : (p : ℕ) (w : Word) (ls : Behind) → statement_of (lexeme k.Unload p w ∷ ls) ≡ v.Unload (of_group_by (name_of (drop 2 ls))).0
unfolding statement_of group_statement_of of_group_of
unload_says p w ls = refl

flush_says : (p : ℕ) (w : Word) (ls : Behind) → statement_of (lexeme k.Flush p w ∷ ls) ≡ v.Flush (of_group_by (name_of (drop 2 ls))).0
unfolding statement_of group_statement_of of_group_of
flush_says p w ls = refl

alter_says : (p : ℕ) (w : Word) (ls : Behind) → statement_of (lexeme k.Alter p w ∷ ls) ≡ v.Alter (alter_by (name_of (drop 2 ls))).0
unfolding statement_of group_statement_of
alter_says p w ls = refl

drop_group_says : (p : ℕ) (w : Word) (ls : Behind) → begins k.Index ls ≡ false → statement_of (lexeme k.Drop p w ∷ ls) ≡ v.DropGroup (name_of (drop 2 ls)).0
unfolding statement_of drop_of
drop_group_says p w ls h = rw h refl

drop_index_says : (p : ℕ) (w : Word) (ls : Behind) → begins k.Index ls ≡ true → statement_of (lexeme k.Drop p w ∷ ls) ≡ v.DropIndex (identifier_of (drop 1 ls)).0
unfolding statement_of drop_of
drop_index_says p w ls h = rw h refl

index_says : (p : ℕ) (w : Word) (ls : Behind) → begins k.Index ls ≡ true → statement_of (lexeme k.Create p w ∷ ls) ≡ v.CreateIndex (index_by (drop 1 ls)).0
unfolding statement_of create_of index_of
index_says p w ls h = rw h refl

call_says : (p : ℕ) (w : Word) (ls : Behind) → statement_of (lexeme k.Call p w ∷ ls) ≡ call_named (name_of ls)
unfolding statement_of
call_says p w ls = refl

commit_says : (p : ℕ) (w : Word) (ls : Behind) → statement_of (lexeme k.Commit p w ∷ ls) ≡ v.Commit
unfolding statement_of
commit_says p w ls = refl

rollback_says : (p : ℕ) (w : Word) (ls : Behind) → statement_of (lexeme k.Rollback p w ∷ ls) ≡ v.Rollback
unfolding statement_of
rollback_says p w ls = refl

insert_says : (p : ℕ) (w : Word) (ls : Behind) → statement_of (lexeme k.Insert p w ∷ ls) ≡ v.Write (writes.Insert (insert_of ls).0)
unfolding statement_of write_of
insert_says p w ls = refl

update_says : (p : ℕ) (w : Word) (ls : Behind) → statement_of (lexeme k.Update p w ∷ ls) ≡ v.Write (writes.Update (update_of ls).0)
unfolding statement_of write_of
update_says p w ls = refl

delete_says : (p : ℕ) (w : Word) (ls : Behind) → statement_of (lexeme k.Delete p w ∷ ls) ≡ v.Write (writes.Delete (delete_of ls).0)
unfolding statement_of write_of
delete_says p w ls = refl

index_turn : {r : List Kind} → Reads rule 32 (Part 0 (the k.Index ▸ Token Name) end) r → Reads rule 32 (Part 0 dropped_part end) r
index_turn (both (token p d)) = this p d

create_turn : {r : List Kind} → Reads rule 32 (Part 0 (the k.Index ▸ index_part) end) r → Reads rule 32 (Part 0 create_part end) r
create_turn (both (token p d)) = this p d

select_begun : (q : Query) → IsQuery q → Begun (v.Select q) k.Select (query_words q)
select_begun q h =
    begun (v.Select q) k.Select query_of select q (query_words q) (put_query q h) (λ r d. this refl (named d)) (λ i p w y e f. sym (select_says p w (tokens i (query_words q)) ∙ (ap (λ z. v.Select z.0) f ∙ ap (λ z. v.Select z) e)))

load_begun : (l : loads.Load) → IsLoad l → Begun (v.Load l) k.Load (codes "CACHE" ∷ codes "GROUP" ∷ load_words l)
load_begun l h =
    let ws : List Word = codes "CACHE" ∷ codes "GROUP" ∷ load_words l in
    begun (v.Load l) k.Load load_of loaded_part l ws (put_load l h) (λ r d. that (that (that (that (that (this refl d)))))) (λ i p w y e f. sym (load_says p w (tokens i ws) ∙ (ap (λ z. v.Load z.0) f ∙ ap (λ z. v.Load z) e)))

refresh_begun : (l : loads.Load) → IsLoad l → Begun (v.Refresh l) k.Refresh (codes "CACHE" ∷ codes "GROUP" ∷ load_words l)
refresh_begun l h =
    let ws : List Word = codes "CACHE" ∷ codes "GROUP" ∷ load_words l in
    begun (v.Refresh l) k.Refresh load_of loaded_part l ws (put_load l h) (λ r d. that (that (that (that (that (that (this refl d))))))) (λ i p w y e f. sym (refresh_says p w (tokens i ws) ∙ (ap (λ z. v.Refresh z.0) f ∙ ap (λ z. v.Refresh z) e)))

unload_begun : (x : OfGroup) → IsOfGroup x → Begun (v.Unload x) k.Unload (codes "CACHE" ∷ codes "GROUP" ∷ of_group_words x)
unload_begun x h =
    let ws : List Word = codes "CACHE" ∷ codes "GROUP" ∷ of_group_words x in
    begun (v.Unload x) k.Unload (λ ls. of_group_by (name_of (drop 2 ls))) unloaded_part x ws (put_of_group x h) (λ r d. that (that (that (that (that (that (that (this refl d)))))))) (λ i p w y e f. sym (unload_says p w (tokens i ws) ∙ (ap (λ z. v.Unload z.0) f ∙ ap (λ z. v.Unload z) e)))

flush_begun : (x : OfGroup) → IsOfGroup x → Begun (v.Flush x) k.Flush (codes "CACHE" ∷ codes "GROUP" ∷ of_group_words x)
flush_begun x h =
    let ws : List Word = codes "CACHE" ∷ codes "GROUP" ∷ of_group_words x in
    begun (v.Flush x) k.Flush (λ ls. of_group_by (name_of (drop 2 ls))) unloaded_part x ws (put_of_group x h) (λ r d. that (that (that (that (that (that (that (that (this refl d))))))))) (λ i p w y e f. sym (flush_says p w (tokens i ws) ∙ (ap (λ z. v.Flush z.0) f ∙ ap (λ z. v.Flush z) e)))

alter_begun : (x : Alter) → IsName x.group → Begun (v.Alter x) k.Alter (codes "CACHE" ∷ codes "GROUP" ∷ (name_words x.group ++ codes "SET" ∷ codes "AUTOREFRESH" ∷ codes "STATE" ∷ state_word x.state ∷ []))
alter_begun x h =
    let ws : List Word = codes "CACHE" ∷ codes "GROUP" ∷ (name_words x.group ++ codes "SET" ∷ codes "AUTOREFRESH" ∷ codes "STATE" ∷ state_word x.state ∷ []) in
    begun (v.Alter x) k.Alter (λ ls. alter_by (name_of (drop 2 ls))) altered_part x ws (put_alter x h) (λ r d. that (that (that (that (that (that (that (that (that (that (this refl d)))))))))))
    (λ i p w y e f. sym (alter_says p w (tokens i ws) ∙ (ap (λ z. v.Alter z.0) f ∙ ap (λ z. v.Alter z) e)))

drop_group_begun : (n : List ℕ) → IsName n → Begun (v.DropGroup n) k.Drop (codes "CACHE" ∷ codes "GROUP" ∷ name_words n)
drop_group_begun n h =
    let ws : List Word = codes "CACHE" ∷ codes "GROUP" ∷ name_words n in
    begun (v.DropGroup n) k.Drop (λ ls. name_of (drop 2 ls)) (the k.Cache ▸ the k.Group ▸ Named rules.Named) n ws (put_drop n h) (λ r d. that (that (that (that (that (that (that (that (that (this refl (that d)))))))))))
    (λ i p w y e f. sym (drop_group_says p w (tokens i ws) (never_word k.Index k.Cache (codes "CACHE") (codes "GROUP" ∷ name_words n) cache_word refl i) ∙ (ap (λ z. v.DropGroup z.0) f ∙ ap (λ z. v.DropGroup z) e)))

index_at : (ws : List Word) (i : ℕ) → begins k.Index (tokens i (codes "INDEX" ∷ ws)) ≡ true
index_at ws i = ap (λ (ls : List Lexeme). begins k.Index ls) (begun_by k.Index (codes "INDEX") index_word i ws).1

drop_index_begun : (n : List ℕ) → IsIdentifier n → Begun (v.DropIndex n) k.Drop (codes "INDEX" ∷ n ∷ [])
drop_index_begun n h =
    begun (v.DropIndex n) k.Drop (λ ls. identifier_of (drop 1 ls)) (the k.Index ▸ Token Name) n (codes "INDEX" ∷ n ∷ [])
    (put_word (λ ls. identifier_of (drop 1 ls)) identifier_of 0 (the k.Index ▸ Token Name) (Token Name) n k.Index (codes "INDEX") (n ∷ []) [] index_word (λ ps r d. both (token refl d)) (λ p ls. refl) (put_identifier 0 n h []))
    (λ r d. that (that (that (that (that (that (that (that (that (this refl (index_turn d)))))))))))
    (λ i p w y e f. sym (drop_index_says p w (tokens i (codes "INDEX" ∷ n ∷ [])) (index_at (n ∷ []) i) ∙ (ap (λ z. v.DropIndex z.0) f ∙ ap (λ z. v.DropIndex z) e)))

index_begun : (x : CreateIndex) → IsIndex x → Begun (v.CreateIndex x) k.Create (codes "INDEX" ∷ index_words x)
index_begun x h =
    begun (v.CreateIndex x) k.Create (λ ls. index_by (drop 1 ls)) (the k.Index ▸ index_part) x (codes "INDEX" ∷ index_words x)
    (put_word (λ ls. index_by (drop 1 ls)) index_by 0 (the k.Index ▸ index_part) index_part x k.Index (codes "INDEX") (index_words x) [] index_word (λ ps r d. both (token refl d)) (λ p ls. refl) (put_index x h))
    (λ r d. that (that (that (that (this refl (named (create_turn d)))))))
    (λ i p w y e f. sym (index_says p w (tokens i (codes "INDEX" ∷ index_words x)) (index_at (index_words x) i) ∙ (ap (λ z. v.CreateIndex z.0) f ∙ ap (λ z. v.CreateIndex z) e)))

-- nothing stands behind a write
write_ends : WriteEnds []
write_ends = record { closes = end_closes; filter = ends_never k.Where refl; dot = ends_never k.Dot refl; comma = ends_never k.Comma refl }

insert_begun : (x : Insert) → IsInsert x → Begun (v.Write (writes.Insert x)) k.Insert (codes "INTO" ∷ write_rest_words (writes.Insert x))
insert_begun x h =
    let ws : List Word = codes "INTO" ∷ write_rest_words (writes.Insert x) in
    begun (v.Write (writes.Insert x)) k.Insert insert_of (Named rules.Insert) x ws (put_words insert_of 0 (Named rules.Insert) x (codes "INTO" ∷ (write_rest_words (writes.Insert x) ++ [])) ws [] (ap (λ (us : List Word). codes "INTO" ∷ us) (append-nil (write_rest_words (writes.Insert x)))) (put_insert x h []))
    (λ r d. that (this refl d)) (λ i p w y e f. sym (insert_says p w (tokens i ws) ∙ (ap (λ z. v.Write (writes.Insert z.0)) f ∙ ap (λ z. v.Write (writes.Insert z)) e)))

update_begun : (x : Update) → IsUpdate x → Begun (v.Write (writes.Update x)) k.Update (write_rest_words (writes.Update x))
update_begun x h =
    let ws : List Word = write_rest_words (writes.Update x) in
    begun (v.Write (writes.Update x)) k.Update update_of (Named rules.Update) x ws (put_words update_of 0 (Named rules.Update) x (ws ++ []) ws [] (append-nil ws) (put_update x h [] write_ends))
    (λ r d. that (that (this refl d))) (λ i p w y e f. sym (update_says p w (tokens i ws) ∙ (ap (λ z. v.Write (writes.Update z.0)) f ∙ ap (λ z. v.Write (writes.Update z)) e)))

delete_begun : (x : Delete) → IsDelete x → Begun (v.Write (writes.Delete x)) k.Delete (codes "FROM" ∷ write_rest_words (writes.Delete x))
delete_begun x h =
    let ws : List Word = codes "FROM" ∷ write_rest_words (writes.Delete x) in
    begun (v.Write (writes.Delete x)) k.Delete delete_of (Named rules.Delete) x ws (put_words delete_of 0 (Named rules.Delete) x (codes "FROM" ∷ (write_rest_words (writes.Delete x) ++ [])) ws [] (ap (λ (us : List Word). codes "FROM" ∷ us) (append-nil (write_rest_words (writes.Delete x)))) (put_delete x h [] write_ends))
    (λ r d. that (that (that (this refl d)))) (λ i p w y e f. sym (delete_says p w (tokens i ws) ∙ (ap (λ z. v.Write (writes.Delete z.0)) f ∙ ap (λ z. v.Write (writes.Delete z)) e)))

-- CALL
abbrev Listed : Type 0
Listed = List Literal × List Lexeme

abbrev inside_by : List Lexeme → Listed
inside_by ls = cond (begins k.CloseParen ls) ([], drop 1 ls) (closed_literals (λ xs. xs) ls)

abbrev arguments_by : List Lexeme → Listed
arguments_by ls = cond (begins k.OpenParen ls) (inside_by (drop 1 ls)) ([], ls)

abbrev call_by : List ℕ × List Lexeme → calls.Call × List Lexeme
call_by x = (record { procedure = x.0; arguments = (arguments_by x.1).0 }, (arguments_by x.1).1)

call_same : (n : List ℕ) (ls : List Lexeme) → call_with n ls ≡ v.Call (call_by (n, ls)).0
call_same n ls = by (begins k.OpenParen ls) (begins k.CloseParen (drop 1 ls))
  where
    by : (a b : Bool) → cond a (cond b (v.Call (record { procedure = n; arguments = [] })) (v.Call (record { procedure = n; arguments = (literals_of (drop 1 ls)).0 }))) (v.Call (record { procedure = n; arguments = [] }))
        ≡ v.Call (record { procedure = n; arguments = (cond {A = Listed} a (cond b ([], drop 1 (drop 1 ls)) (closed_literals (λ xs. xs) (drop 1 ls))) ([], ls)).0 })
    by true true = refl
    by true false = refl
    by false b = refl

close_starts_none : NoStart k.CloseParen
close_starts_none = record { name = refl; digits = refl; text = refl; null = refl; time = refl; minus = refl }

abbrev arguments_part : Grammar
arguments_part = optional k.OpenParen (choice k.CloseParen Empty literals_part)

put_arguments : (xs : List Literal) → AreArguments xs → Put arguments_by 0 arguments_part xs (argument_words xs) []
put_arguments [] h = put_none arguments_by 0 arguments_part [] [] (λ ps r d. that (empty d)) (λ i. rw (ends_never k.OpenParen refl i) refl)
put_arguments (x ∷ xs) (h, t) =
    let ws : List Word = listed literal_words (x ∷ xs) ++ codes ")" ∷ [] in
    let rest : List Word = more literal_words xs ++ codes ")" ∷ [] in
    let first : Never k.CloseParen ws = subst (λ (us : List Word). Never k.CloseParen us) (sym (append_assoc (literal_words x) (more literal_words xs) (codes ")" ∷ []))) (literal_never k.CloseParen close_starts_none x h rest) in
    put_word arguments_by inside_by 0 arguments_part (choice k.CloseParen Empty literals_part) (x ∷ xs) k.OpenParen (codes "(") ws [] open_word (λ ps r d. this refl d) (λ p ls. refl)
    (put_as inside_by (closed_literals (λ ys. ys)) 0 (choice k.CloseParen Empty literals_part) literals_part (x ∷ xs) ws [] (λ ps r d. that d) (λ i. rw (first i) refl) (put_literals (λ ys. ys) (x ∷ xs) (h, t) []))

arguments_dot : (xs : List Literal) → Never k.Dot (argument_words xs)
arguments_dot [] = ends_never k.Dot refl
arguments_dot (x ∷ xs) = never_word k.Dot k.OpenParen (codes "(") _ open_word refl

put_call : (c : calls.Call) → IsName c.procedure → AreArguments c.arguments → Put (λ ls. call_by (name_of ls)) 0 (Named rules.Called) c (name_words c.procedure ++ argument_words c.arguments) []
put_call c h t =
    put_both name_of (λ y. call_by y) 0 (Named rules.Named) arguments_part (Named rules.Called) c.procedure c (name_words c.procedure ++ argument_words c.arguments) (argument_words c.arguments) [] (λ ps r d. named (both d)) (put_name 0 c.procedure h (argument_words c.arguments) (arguments_dot c.arguments))
    (put_map arguments_by (λ y. (record { procedure = c.procedure; arguments = y.0 }, y.1)) 0 arguments_part c.arguments c (argument_words c.arguments) [] (λ ls. refl) (put_arguments c.arguments t))

call_begun : (c : calls.Call) → IsName c.procedure → AreArguments c.arguments → Begun (v.Call c) k.Call (name_words c.procedure ++ argument_words c.arguments)
call_begun c h t =
    let ws : List Word = name_words c.procedure ++ argument_words c.arguments in
    begun (v.Call c) k.Call (λ ls. call_by (name_of ls)) (Named rules.Called) c ws (put_call c h t) (λ r d. that (that (that (that (that (that (that (that (that (that (that (this refl d))))))))))))
    (λ i p w y e f. sym (call_says p w (tokens i ws) ∙ (call_same (name_of (tokens i ws)).0 (name_of (tokens i ws)).1 ∙ (ap (λ z. v.Call z.0) f ∙ ap (λ z. v.Call z) e))))

-- COMMIT and ROLLBACK
commit_begun : Begun v.Commit k.Commit []
commit_begun = record {
  fine = fine_none;
  reads = λ i. that (that (that (that (that (that (that (that (that (that (that (that (this refl (empty (at_end i))))))))))))));
  says = λ i p w. sym (commit_says p w (tokens i []));
}

rollback_begun : Begun v.Rollback k.Rollback []
rollback_begun = record {
  fine = fine_none;
  reads = λ i. that (that (that (that (that (that (that (that (that (that (that (that (that (token refl (at_end i))))))))))))));
  says = λ i p w. sym (rollback_says p w (tokens i []));
}

write_spells : (w : Write) → IsWrite w → Spells (printed (v.Write w)) (v.Write w)
write_spells (writes.Insert x) h = spells (v.Write (writes.Insert x)) k.Insert (codes "INSERT") (codes "INTO" ∷ write_rest_words (writes.Insert x)) insert_word (insert_begun x h)
write_spells (writes.Update x) h = spells (v.Write (writes.Update x)) k.Update (codes "UPDATE") (write_rest_words (writes.Update x)) update_word (update_begun x h)
write_spells (writes.Delete x) h = spells (v.Write (writes.Delete x)) k.Delete (codes "DELETE") (codes "FROM" ∷ write_rest_words (writes.Delete x)) delete_word (delete_begun x h)

pub statement_spells : (s : Stmt) → IsStatement s → Spells (printed s) (normal s)
statement_spells (v.Select q) h = spells (v.Select q) k.Select (codes "SELECT") (query_words q) select_word (select_begun q h)
statement_spells (v.Write w) h = write_spells w h
statement_spells (v.CreateGroup g) h = group_spells g h
statement_spells (v.CreateIndex x) h = spells (v.CreateIndex x) k.Create (codes "CREATE") (codes "INDEX" ∷ index_words x) create_word (index_begun x h)
statement_spells (v.Load l) h = spells (v.Load l) k.Load (codes "LOAD") (codes "CACHE" ∷ codes "GROUP" ∷ load_words l) load_word (load_begun l h)
statement_spells (v.Refresh l) h = spells (v.Refresh l) k.Refresh (codes "REFRESH") (codes "CACHE" ∷ codes "GROUP" ∷ load_words l) refresh_word (refresh_begun l h)
statement_spells (v.Unload x) h = spells (v.Unload x) k.Unload (codes "UNLOAD") (codes "CACHE" ∷ codes "GROUP" ∷ of_group_words x) unload_word (unload_begun x h)
statement_spells (v.Flush x) h = spells (v.Flush x) k.Flush (codes "FLUSH") (codes "CACHE" ∷ codes "GROUP" ∷ of_group_words x) flush_word (flush_begun x h)
statement_spells (v.Alter x) h =
    spells (v.Alter x) k.Alter (codes "ALTER") (codes "CACHE" ∷ codes "GROUP" ∷ (name_words x.group ++ codes "SET" ∷ codes "AUTOREFRESH" ∷ codes "STATE" ∷ state_word x.state ∷ [])) alter_word (alter_begun x h)
statement_spells (v.DropGroup n) h = spells (v.DropGroup n) k.Drop (codes "DROP") (codes "CACHE" ∷ codes "GROUP" ∷ name_words n) drop_word (drop_group_begun n h)
statement_spells (v.DropIndex n) h = spells (v.DropIndex n) k.Drop (codes "DROP") (codes "INDEX" ∷ n ∷ []) drop_word (drop_index_begun n h)
statement_spells (v.Call c) (h, t) = spells (v.Call c) k.Call (codes "CALL") (name_words c.procedure ++ argument_words c.arguments) call_word (call_begun c h t)
statement_spells v.Commit h = spells v.Commit k.Commit (codes "COMMIT") [] commit_word commit_begun
statement_spells v.Rollback h = spells v.Rollback k.Rollback (codes "ROLLBACK") [] rollback_word rollback_begun
