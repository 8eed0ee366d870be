-- Writes of the console are printed and read back.
use Rattle.std.proofs.Common.{◌≡◌, ℕ, zero, suc, ◌≤◌, Bool, true, false, cond, ◌||◌, List, [], ◌∷◌, ◌++◌, length, drop, codes, Option, Some, None, refl, sym, ap, subst, arith, append_assoc, append-nil}
use Rattle.sql_print.specs.sql_query.specs.declared.write.Write.{Write}
use Rattle.sql_print.specs.sql_query.specs.declared.write.Write.TheVariants as writes
use Rattle.sql_print.specs.sql_tokens.specs.declared.kind.Kind.TheVariants as k
use Rattle.sql_print.specs.sql_tokens.specs.Lexing.{Lexeme, lexed, lexeme}
use Rattle.sql_print.specs.sql_tokens.specs.Heads.{head_end, head_of}
use Rattle.sql_print.specs.sql_grammar.specs.declared.rule.Rule.TheVariants as rules
use Rattle.sql_print.specs.sql_grammar.specs.declared.start.Start.{Start}
use Rattle.sql_print.specs.sql_grammar.specs.declared.start.Start.TheVariants as starts
use Rattle.sql_print.specs.sql_grammar.specs.Grammar.{Grammar, Named, Over, Part, Parts, Reads, both, empty, named, over, that, this, token}
use Rattle.sql_print.specs.sql_grammar.specs.Notation.{choice, optional, ◌▸◌}
use Rattle.sql_print.specs.sql_grammar.specs.Sql.{rule}
use Rattle.sql_print.specs.sql_grammar.specs.Writes.{write as write_rule}
use Rattle.sql_print.specs.sql_subset.specs.declared.request.ConsoleRequest.{ConsoleRequest}
use Rattle.sql_print.specs.sql_subset.specs.declared.request.ConsoleRequest.TheVariants.{CreateTable, Writes}
use Rattle.sql_print.specs.sql_subset.specs.declared.request.Line.TheVariants.{Console}
use Rattle.sql_print.specs.sql_subset.specs.Lines.{Checked, Headed, Heard, Means, Says, Spoken, is_silent, is_spoilt, kinds_in, start_of}
use Rattle.sql_print.specs.sql_subset.specs.Statements.{console_of, goes_on, writes_of}
use Rattle.sql_print.specs.sql_phrases.specs.Reading.{as_list, begins, chained, with_last}
use Rattle.sql_print.specs.sql_phrases.specs.Tables.{table_of}
use Rattle.sql_print.specs.sql_phrases.specs.Writes.{write_of}
use Rattle.sql_print.specs.sql_phrases.proofs.Shrinking.{write_shrinks}
use Rattle.sql_print.specs.sql_words.specs.Words.{Word, joined, spaced}
use Rattle.sql_print.specs.Printed.{more_write_words, printed_writes}
use Rattle.sql_print.specs.Queries.{write_words}
use Rattle.print_laws.proofs.Definitions.{console_line, line_says, requested}
use Rattle.print_laws.proofs.Fine.{fine_both, fine_none, fine_text}
use Rattle.print_laws.proofs.Fits.{Fits, all_fit}
use Rattle.print_laws.proofs.Keywords.{delete_word, insert_word, semicolon_word, update_word}
use Rattle.print_laws.proofs.Lexed.{begun_by, tokens}
use Rattle.print_laws.proofs.Lists.{AllGood, SomeGood}
use Rattle.print_laws.proofs.Loading.{end_closes, ends_never, nothing, word_closes}
use Rattle.print_laws.proofs.Put.{Never, never_word}
use Rattle.print_laws.proofs.QueryReading.{delete_first, insert_first, update_first}
use Rattle.print_laws.proofs.Reading.{some_more}
use Rattle.print_laws.proofs.Spoilt.{fine_bytes}
use Rattle.print_laws.proofs.Starts.{begun}
use Rattle.print_laws.proofs.State.{Got, State, at_empty, at_named, at_then, at_token, only_that, only_this}
use Rattle.print_laws.proofs.Tails.{LeadsTo, PutTo, Turns, to_end, to_first, to_more, to_put, to_words}
use Rattle.print_laws.proofs.Writes.{IsWrite, WriteEnds, put_write, write_part}

tells_apart : (b : Bool) → b ≡ true → b ≡ false → ⊥
tells_apart b p q = absurd (cc)

-- what a line of the console asks, off its tokens
record Asked (x : ConsoleRequest) : Type 0 where
  us : List Lexeme
  state : State (Part 0 requested Over) us
  is : x ≡ console_of us

spoken : (s : Start) (head : List ℕ) (end : ℕ) (us : List Lexeme) → AllGood Fits us → (x : ConsoleRequest) → Spoken s head end us (Says (Console x)) → Asked x
spoken starts.Console head end us h x (d, e) = let f : x ≡ console_of (drop 1 us) = cc in record { us = drop 1 us; state = at_token 0 us (at_then (begun starts.Console us h d)); is = f }
spoken starts.Session head end us h x (d, e) = absurd (cc)
spoken starts.Clock head end us h x (d, e) = absurd (cc)
spoken starts.Statement head end us h x (d, e) = absurd (cc)

checked : (b : Bool) (s : Start) (bytes : List ℕ) → is_spoilt bytes ≡ b → (x : ConsoleRequest) → Checked b s bytes (Says (Console x)) → Asked x
checked true s bytes h x e = absurd (cc)
checked false s bytes h x e = spoken s (head_of bytes) (length bytes) (lexed (head_end bytes) bytes) (all_fit (head_end bytes) bytes (fine_bytes bytes h)) x e

headed : (o : Option Start) (bytes : List ℕ) (x : ConsoleRequest) → Headed o bytes (Says (Console x)) → Asked x
headed None bytes x e = absurd (cc)
headed (Some s) bytes x e = checked (is_spoilt bytes) s bytes refl x e

heard : (b : Bool) (bytes : List ℕ) (x : ConsoleRequest) → Heard b bytes (Says (Console x)) → Asked x
heard true bytes x e = absurd (cc)
heard false bytes x e = headed (start_of (head_of bytes)) bytes x e

meant : (bytes : List ℕ) (x : ConsoleRequest) → Means bytes (Says (Console x)) → Asked x
meant bytes x e = heard (is_silent bytes) bytes x e

-- what is read of writes
abbrev behind : Parts
behind = Part 0 (Named rules.Writes) Over

abbrev next_part : Grammar
next_part = choice k.Insert (Named rules.Insert ▸ Named rules.Writes) (choice k.Update (Named rules.Update ▸ Named rules.Writes) (optional k.Delete (Named rules.Delete ▸ Named rules.Writes)))

first_got : (us : List Lexeme) → State (Part 0 write_rule Over) us → Got IsWrite behind (write_of us)
first_got us s = by (begins k.Insert us) (begins k.Update us) refl refl
  where
    by : (a b : Bool) → begins k.Insert us ≡ a → begins k.Update us ≡ b → Got IsWrite behind (write_of us)
    by true b p q = insert_first behind us p (at_then (only_this 0 us refl p s))
    by false true p q = update_first behind us p q (at_then (only_this 0 us refl q (only_that us p s)))
    by false false p q = delete_first behind us p q (at_then (at_token 0 us (at_then (only_that us q (only_that us p s)))))

next_got : (us : List Lexeme) → begins k.Insert us || begins k.Update us || begins k.Delete us ≡ true → State (Part 0 next_part Over) us → Got IsWrite behind (write_of us)
next_got us h s = by (begins k.Insert us) (begins k.Update us) (begins k.Delete us) refl refl refl h
  where
    by : (a b c : Bool) → begins k.Insert us ≡ a → begins k.Update us ≡ b → begins k.Delete us ≡ c → a || b || c ≡ true → Got IsWrite behind (write_of us)
    by true b c p q r e = insert_first behind us p (at_then (only_this 0 us refl p s))
    by false true c p q r e = update_first behind us p q (at_then (only_this 0 us refl q (only_that us p s)))
    by false false true p q r e = delete_first behind us p q (at_then (only_this 0 us refl r (only_that us q (only_that us p s))))
    by false false false p q r e = absurd (cc)

none_left : (us : List Lexeme) → Reads rule 32 Over (kinds_in us) → goes_on us ≡ false
none_left [] d = refl
none_left (l ∷ us) d = elim d [ ]

-- a write follows a `;`
semicolon : (us : List Lexeme) → goes_on us ≡ true → State behind us → State (Part 0 next_part Over) (drop 1 us)
semicolon us h s = by (begins k.Semicolon us) refl
  where
    by : (b : Bool) → begins k.Semicolon us ≡ b → State (Part 0 next_part Over) (drop 1 us)
    by true e = only_this 0 us refl e (at_named s)
    by false e = absurd (tells_apart (goes_on us) h (none_left us (at_empty (only_that us e (at_named s))).reads))

some : (us : List Lexeme) → goes_on us ≡ true → suc (length (drop 1 us)) ≤ length us
some [] h = absurd (tells_apart (goes_on []) h refl)
some (l ∷ us) h = omega arith

writes_good : (n : ℕ) (done : List Write) (us : List Lexeme) → SomeGood IsWrite done → State behind us → SomeGood IsWrite (chained goes_on with_last write_of n (done, us)).0
writes_good zero done us g s = g
writes_good (suc n) done us g s = by (goes_on us) refl (λ x t. writes_good n (done ++ (write_of (drop 1 us)).0 ∷ []) (write_of (drop 1 us)).1 x t)
  where
    by : (b : Bool) → goes_on us ≡ b → (SomeGood IsWrite (done ++ (write_of (drop 1 us)).0 ∷ []) → State behind (write_of (drop 1 us)).1 → SomeGood IsWrite (chained goes_on with_last write_of n (done ++ (write_of (drop 1 us)).0 ∷ [], (write_of (drop 1 us)).1)).0)
        → SomeGood IsWrite (cond b (chained goes_on with_last write_of n (done ++ (write_of (drop 1 us)).0 ∷ [], (write_of (drop 1 us)).1)) (done, us)).0
    by true h next = let x = next_got (drop 1 us) h (semicolon us h s) in next (some_more IsWrite done (write_of (drop 1 us)).0 g x.good) x.state
    by false h next = g

writes_asked : (us : List Lexeme) → State (Part 0 requested Over) us → (ws : List Write) → Writes ws ≡ console_of us → SomeGood IsWrite ws
writes_asked us s ws e = by (begins k.Create us) refl e
  where
    by : (b : Bool) → begins k.Create us ≡ b → Writes ws ≡ cond b (CreateTable (table_of (drop 2 us)).0.table) (Writes (writes_of us).0) → SomeGood IsWrite ws
    by true h f = absurd (cc)
    by false h f =
        let same : ws ≡ (writes_of us).0 = cc in
        let x = first_got us (only_that us h s) in
        subst (λ y. SomeGood IsWrite y) (sym same) (writes_good (length us) ((write_of us).0 ∷ []) (write_of us).1 (x.good, tt) x.state)

-- what is put of writes
abbrev after_write : Parts → Parts
after_write ps = Part 0 (Named rules.Writes) ps

first_turns : (w : Write) → Turns (λ ps. Part 0 (write_part w) (after_write ps)) (λ ps. Part 0 write_rule ps)
first_turns (writes.Insert x) ps r (both (token p d)) = this p (both d)
first_turns (writes.Update x) ps r (both (token p d)) = that (this p (both d))
first_turns (writes.Delete x) ps r (both (token p d)) = that (that (both (token p (both d))))

next_turns : (w : Write) → Turns (λ ps. Part 0 (write_part w) (after_write ps)) (λ ps. Part 0 next_part ps)
next_turns (writes.Insert x) ps r (both (token p d)) = this p (both d)
next_turns (writes.Update x) ps r (both (token p d)) = that (this p (both d))
next_turns (writes.Delete x) ps r (both (token p d)) = that (that (this p (both d)))

-- a write begins as a write does
begins_so : (w : Write) (us : List Word) (i j : ℕ) → goes_on (lexeme k.Semicolon i (codes ";") ∷ tokens j (write_words w ++ us)) ≡ true
begins_so (writes.Insert x) us i j = ap (λ (ls : List Lexeme). begins k.Insert ls || begins k.Update ls || begins k.Delete ls) (begun_by k.Insert (codes "INSERT") insert_word j _).1
begins_so (writes.Update x) us i j = ap (λ (ls : List Lexeme). begins k.Insert ls || begins k.Update ls || begins k.Delete ls) (begun_by k.Update (codes "UPDATE") update_word j _).1
begins_so (writes.Delete x) us i j = ap (λ (ls : List Lexeme). begins k.Insert ls || begins k.Update ls || begins k.Delete ls) (begun_by k.Delete (codes "DELETE") delete_word j _).1

more_ends : (ws : List Write) → WriteEnds (more_write_words ws ++ [])
more_ends [] = record { closes = end_closes; filter = ends_never k.Where refl; dot = ends_never k.Dot refl; comma = ends_never k.Comma refl }
more_ends (w ∷ ws) = record {
  closes = word_closes k.Semicolon (codes ";") _ semicolon_word refl refl refl refl refl;
  filter = never_word k.Where k.Semicolon (codes ";") _ semicolon_word refl;
  dot = never_word k.Dot k.Semicolon (codes ";") _ semicolon_word refl;
  comma = never_word k.Comma k.Semicolon (codes ";") _ semicolon_word refl;
}

abbrev WriteLeads : List Write → List Word → List Word → Type 0
WriteLeads done ws us = LeadsTo (List Write) Write goes_on with_last write_of as_list after_write (λ ps. Part 0 write_rule ps) done ws us

writes_go : (vs : List Word) (done ws : List Write) → AllGood IsWrite ws → WriteLeads done vs (more_write_words ws ++ []) → WriteLeads (done ++ ws) vs []
writes_go vs done [] h a = subst (λ (ys : List Write). WriteLeads ys vs []) (sym (append-nil done)) a
writes_go vs done (w ∷ ws) (g, h) a =
    let rest : List Word = more_write_words ws ++ [] in
    let one : PutTo write_of after_write (λ ps. Part 0 next_part ps) w ((write_words w ++ more_write_words ws) ++ []) rest =
    to_words write_of after_write (λ ps. Part 0 next_part ps) w (write_words w ++ rest) ((write_words w ++ more_write_words ws) ++ []) rest (sym (append_assoc (write_words w) (more_write_words ws) []))
    (to_put write_of 0 (write_part w) after_write after_write (λ ps. Part 0 next_part ps) w (write_words w ++ rest) rest (λ ps r d. d) (next_turns w) (put_write w g rest (more_ends ws))) in
    let begins_write : (i j : ℕ) → goes_on (lexeme k.Semicolon i (codes ";") ∷ tokens j ((write_words w ++ more_write_words ws) ++ [])) ≡ true =
    subst (λ (us : List Word). (i j : ℕ) → goes_on (lexeme k.Semicolon i (codes ";") ∷ tokens j us) ≡ true) (sym (append_assoc (write_words w) (more_write_words ws) [])) (begins_so w rest) in
    let longer : WriteLeads (done ++ w ∷ []) vs rest =
    to_more (List Write) Write goes_on with_last write_of as_list write_shrinks refl after_write after_write (λ ps. Part 0 next_part ps) (λ ps. Part 0 write_rule ps) k.Semicolon (codes ";") w done (done ++ w ∷ []) vs ((write_words w ++ more_write_words ws) ++ []) rest semicolon_word (λ ps r d. named (this refl d)) begins_write refl a one in
    subst (λ (ys : List Write). WriteLeads ys vs []) (append_assoc done (w ∷ []) ws) (writes_go vs (done ++ w ∷ []) ws h longer)

put_writes : (w : Write) (ws : List Write) → IsWrite w → AllGood IsWrite ws → PutTo writes_of after_write (λ ps. Part 0 write_rule ps) (w ∷ ws) (write_words w ++ more_write_words ws) []
put_writes w ws g h =
    let rest : List Word = more_write_words ws ++ [] in
    let vs : List Word = write_words w ++ rest in
    let first : WriteLeads (w ∷ []) vs rest =
    to_first (List Write) Write goes_on with_last write_of as_list write_shrinks refl after_write (λ ps. Part 0 write_rule ps) w (w ∷ []) vs rest (λ ls. refl) (to_put write_of 0 (write_part w) after_write after_write (λ ps. Part 0 write_rule ps) w vs rest (λ ps r d. d) (first_turns w) (put_write w g rest (more_ends ws))) in
    to_words writes_of after_write (λ ps. Part 0 write_rule ps) (w ∷ ws) vs (write_words w ++ more_write_words ws) [] (ap (λ (us : List Word). write_words w ++ us) (append-nil (more_write_words ws)))
    (to_end (List Write) Write goes_on with_last write_of as_list write_shrinks refl after_write (λ ps. Part 0 write_rule ps) (w ∷ ws) vs [] (λ i. rw (nothing i) refl) (writes_go vs (w ∷ []) ws h first))

-- no write begins with CREATE
no_create : (w : Write) (us : List Word) → Never k.Create (write_words w ++ us)
no_create (writes.Insert x) us = never_word k.Create k.Insert (codes "INSERT") _ insert_word refl
no_create (writes.Update x) us = never_word k.Create k.Update (codes "UPDATE") _ update_word refl
no_create (writes.Delete x) us = never_word k.Create k.Delete (codes "DELETE") _ delete_word refl

same_line : (w : Write) (us : List Word) → console_line (spaced (write_words w ++ us)) ≡ codes "backing: " ++ joined (write_words w ++ us)
same_line (writes.Insert x) us = refl
same_line (writes.Update x) us = refl
same_line (writes.Delete x) us = refl

asks : (ws : List Write) (us : List Lexeme) → begins k.Create us ≡ false → (writes_of us).0 ≡ ws → Writes ws ≡ console_of us
asks ws us h e = rw h (sym (ap Writes e))

some_mean : (ws : List Write) → SomeGood IsWrite ws → Means (codes "backing: " ++ printed_writes ws) (Says (Console (Writes ws)))
some_mean [] h = absurd h
some_mean (w ∷ ws) (g, h) =
    let words : List Word = write_words w ++ more_write_words ws in
    let p = put_writes w ws g h in
    let s = p.says 8 in
    let d : Reads rule 32 (after_write Over) (kinds_in (tokens s.at [])) = rw (nothing s.at) (named (that (empty over))) in
    subst (λ (line : List ℕ). Means line (Says (Console (Writes (w ∷ ws))))) (same_line w (more_write_words ws))
    (line_says words (Writes (w ∷ ws)) (fine_both (codes "backing:") (spaced words) (fine_text (codes "backing:") refl) (p.fine fine_none).text) (that (s.spells Over d)) (asks (w ∷ ws) (tokens 8 words) (no_create w (more_write_words ws) 8) (ap (λ y. y.0) s.reads)))

pub writes_mean : (bytes : List ℕ) (ws : List Write) → Means bytes (Says (Console (Writes ws))) → Means (codes "backing: " ++ printed_writes ws) (Says (Console (Writes ws)))
writes_mean bytes ws m = let a = meant bytes (Writes ws) m in some_mean ws (writes_asked a.us a.state ws a.is)
