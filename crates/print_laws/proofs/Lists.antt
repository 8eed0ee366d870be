-- Lists with commas between that are put are read back.
use Rattle.std.proofs.Common.{ℕ, ◌≤◌, List, [], ◌∷◌, ◌++◌, length, codes, refl, sym, subst, append_assoc, append-nil}
use Rattle.sql_print.specs.sql_tokens.specs.declared.kind.Kind.TheVariants.{Comma}
use Rattle.sql_print.specs.sql_tokens.specs.Lexing.{Lexeme}
use Rattle.sql_print.specs.sql_grammar.specs.declared.test.Test.TheVariants.{Only}
use Rattle.sql_print.specs.sql_grammar.specs.Grammar.{Grammar}
use Rattle.sql_print.specs.sql_grammar.specs.Notation.{repeated, ◌▸◌}
use Rattle.sql_print.specs.sql_phrases.specs.Reading.{as_list, at_comma, chained, with_last}
use Rattle.sql_print.specs.sql_words.specs.Words.{Word, listed, more}
use Rattle.print_laws.proofs.Keywords.{comma_word}
use Rattle.print_laws.proofs.Put.{Leads, Never, Put, leads_end, leads_first, leads_more, put_words}

-- each is good
abbrev pub AllGood : {A : Type 0} → (A → Type 0) → List A → Type 0
AllGood good [] = Unit {0}
AllGood good (x ∷ xs) = good x × AllGood good xs

-- one or more, each of them good
abbrev pub SomeGood : {A : Type 0} → (A → Type 0) → List A → Type 0
SomeGood good [] = ⊥
SomeGood good (x ∷ xs) = good x × AllGood good xs

-- what is read as a list
abbrev pub listed_by : {A : Type 0} → (List Lexeme → A × List Lexeme) → List Lexeme → List A × List Lexeme
listed_by p ls = chained at_comma with_last p (length ls) (as_list (p ls))

module _ (A : Type 0) (f : A → List Word) (p : List Lexeme → A × List Lexeme) (u : ℕ) (e : Grammar) (Good : A → Type 0) (Follows : List Word → Type 0)
    (shrinks : (ls : List Lexeme) → length (p ls).1 ≤ length ls) (comma_follows : (us : List Word) → Follows (codes "," ∷ us)) (put : (x : A) → Good x → (us : List Word) → Follows us → Put p u e x (f x ++ us) us) where
  more_follow : (xs : List A) (us : List Word) → Follows us → Follows (more f xs ++ us)
  more_follow [] us h = h
  more_follow (x ∷ xs) us h = comma_follows ((f x ++ more f xs) ++ us)

  go : (ws us : List Word) → Follows us → (done xs : List A) → AllGood Good xs → Leads (List A) A at_comma with_last p as_list u (Only Comma) e done ws (more f xs ++ us) → Leads (List A) A at_comma with_last p as_list u (Only Comma) e (done ++ xs) ws us
  go ws us h done [] t a = subst (λ (ys : List A). Leads (List A) A at_comma with_last p as_list u (Only Comma) e ys ws us) (sym (append-nil done)) a
  go ws us h done (x ∷ xs) (g, t) a =
      let one : Put p u e x ((f x ++ more f xs) ++ us) (more f xs ++ us) = put_words p u e x (f x ++ (more f xs ++ us)) ((f x ++ more f xs) ++ us) (more f xs ++ us) (sym (append_assoc (f x) (more f xs) us)) (put x g (more f xs ++ us) (more_follow xs us h)) in
      let next : Leads (List A) A at_comma with_last p as_list u (Only Comma) e (done ++ x ∷ []) ws (more f xs ++ us) =
      leads_more (List A) A at_comma with_last p as_list shrinks refl u (Only Comma) e Comma (codes ",") x done (done ++ x ∷ []) ws ((f x ++ more f xs) ++ us) (more f xs ++ us) comma_word refl (λ m ls. refl) refl a one in
      subst (λ (ys : List A). Leads (List A) A at_comma with_last p as_list u (Only Comma) e ys ws us) (append_assoc done (x ∷ []) xs) (go ws us h (done ++ x ∷ []) xs t next)

  pub put_list : (xs : List A) → SomeGood Good xs → (us : List Word) → Follows us → Never Comma us → Put (listed_by p) u (e ▸ repeated Comma e) xs (listed f xs ++ us) us
  put_list [] t us h v = absurd t
  put_list (x ∷ xs) (g, t) us h v =
      let first : Leads (List A) A at_comma with_last p as_list u (Only Comma) e (x ∷ []) (f x ++ (more f xs ++ us)) (more f xs ++ us) =
      leads_first (List A) A at_comma with_last p as_list shrinks refl u (Only Comma) e x (x ∷ []) (f x ++ (more f xs ++ us)) (more f xs ++ us) (λ ls. refl) (put x g (more f xs ++ us) (more_follow xs us h)) in
      put_words (listed_by p) u (e ▸ repeated Comma e) (x ∷ xs) (f x ++ (more f xs ++ us)) ((f x ++ more f xs) ++ us) us (sym (append_assoc (f x) (more f xs) us))
      (leads_end (List A) A at_comma with_last p as_list shrinks refl u (Only Comma) e (x ∷ xs) (f x ++ (more f xs ++ us)) us v (go (f x ++ (more f xs ++ us)) us h (x ∷ []) xs t first))
