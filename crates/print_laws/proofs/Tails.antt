-- Words that a grammar reads together with what is behind them, and what is read of them.
use Rattle.std.proofs.Common.{◌≡◌, ℕ, suc, ◌≤◌, Bool, true, false, List, [], ◌∷◌, ◌++◌, length, codes, refl, sym, ap, ◌∙◌, subst, append_assoc, append-nil}
use Rattle.sql_print.specs.sql_tokens.specs.declared.kind.Kind.{Kind}
use Rattle.sql_print.specs.sql_tokens.specs.declared.kind.Kind.TheVariants.{Comma}
use Rattle.sql_print.specs.sql_tokens.specs.Lexing.{Lexeme, lexeme}
use Rattle.sql_print.specs.sql_grammar.specs.Grammar.{Grammar, Parts, Part, Reads}
use Rattle.sql_print.specs.sql_grammar.specs.Sql.{rule}
use Rattle.sql_print.specs.sql_subset.specs.Lines.{kinds_in}
use Rattle.sql_print.specs.sql_phrases.specs.Reading.{as_list, at_comma, chained, with_last}
use Rattle.sql_print.specs.sql_phrases.proofs.Chains.{Chaining, chain_ends, chain_more}
use Rattle.sql_print.specs.sql_words.specs.Words.{Word, listed, more}
use Rattle.print_laws.proofs.Fine.{IsFine, fine_more}
use Rattle.print_laws.proofs.Keywords.{comma_word}
use Rattle.print_laws.proofs.Lexed.{Lexes, begun_by, tokens}
use Rattle.print_laws.proofs.Lists.{AllGood, SomeGood, listed_by}
use Rattle.print_laws.proofs.Put.{Put}

-- the parts that are read behind some words, or with them, by those behind all
abbrev pub Around : Type 0
Around = Parts → Parts

-- whatever the first parts read, the second ones read
abbrev pub Turns : Around → Around → Type 0
Turns h g = (ps : Parts) (r : List Kind) → Reads rule 32 (h ps) r → Reads rule 32 (g ps) r

-- the second parts read a token more
abbrev pub Adds : Kind → Around → Around → Type 0
Adds k h g = (ps : Parts) (r : List Kind) → Reads rule 32 (h ps) r → Reads rule 32 (g ps) (k ∷ r)

pub record Sayings {V : Type 0} (read : List Lexeme → V × List Lexeme) (h g : Around) (x : V) (ls : List Lexeme) (us : List Word) : Type 0 where
  pub at : ℕ
  pub reads : read ls ≡ (x, tokens at us)
  pub spells : (ps : Parts) → Reads rule 32 (h ps) (kinds_in (tokens at us)) → Reads rule 32 (g ps) (kinds_in ls)

-- the tokens are read as this value, behind which the words stand; where the first parts read those, the second ones read all
pub record PutTo {V : Type 0} (read : List Lexeme → V × List Lexeme) (h g : Around) (x : V) (ws us : List Word) : Type 0 where
  pub says : (i : ℕ) → Sayings read h g x (tokens i ws) us
  pub fine : IsFine us → IsFine ws

-- a phrase with a grammar of its own
pub to_put : {V : Type 0} (read : List Lexeme → V × List Lexeme) (u : ℕ) (e : Grammar) (h t g : Around) (x : V) (ws us : List Word) → Turns h t → Turns (λ ps. Part u e (t ps)) g → Put read u e x ws us → PutTo read h g x ws us
to_put read u e h t g x ws us a b q = record {
  says = λ i. let s = q.says i in record { at = s.at; reads = s.reads; spells = λ ps d. b ps (kinds_in (tokens i ws)) (s.spells (t ps) (a ps (kinds_in (tokens s.at us)) d)) };
  fine = q.fine;
}

-- and the other way
pub put_of : {V : Type 0} (read : List Lexeme → V × List Lexeme) (u : ℕ) (e : Grammar) (x : V) (ws us : List Word) → PutTo read (λ ps. ps) (λ ps. Part u e ps) x ws us → Put read u e x ws us
put_of read u e x ws us q = record {
  says = λ i. let s = q.says i in record { at = s.at; reads = s.reads; spells = λ ps d. s.spells ps d };
  fine = q.fine;
}

pub to_none : {V : Type 0} (read : List Lexeme → V × List Lexeme) (h g : Around) (x : V) (us : List Word) → Turns h g → ((i : ℕ) → read (tokens i us) ≡ (x, tokens i us)) → PutTo read h g x us us
to_none read h g x us f e = record { says = λ i. record { at = i; reads = e i; spells = λ ps d. f ps (kinds_in (tokens i us)) d }; fine = λ z. z }

pub to_word : {V : Type 0} (read then : List Lexeme → V × List Lexeme) (h m g : Around) (x : V) (k : Kind) (w : Word) (ws us : List Word) → Lexes k w → Adds k m g → ((p : ℕ) (ls : List Lexeme) → read (lexeme k p w ∷ ls) ≡ then ls) → PutTo then h m x ws us
    → PutTo read h g x (w ∷ ws) us
to_word read then h m g x k w ws us l f e q = record {
  says = λ i. let (j, b) = begun_by k w l i ws in
      let s = q.says j in
      record { at = s.at; reads = ap read b ∙ (e (suc i) (tokens j ws) ∙ s.reads); spells = λ ps d. subst (λ (ls : List Lexeme). Reads rule 32 (g ps) (kinds_in ls)) (sym b) (f ps (kinds_in (tokens j ws)) (s.spells ps d)) };
  fine = λ t. fine_more w ws l.fine (q.fine t);
}

pub to_both : {A V : Type 0} (first : List Lexeme → A × List Lexeme) (then : A × List Lexeme → V × List Lexeme) (h m g : Around) (y : A) (x : V) (ws vs us : List Word) → PutTo first m g y ws vs → PutTo (λ ls. then (y, ls)) h m x vs us → PutTo (λ ls. then (first ls)) h g x ws us
to_both first then h m g y x ws vs us p q = record {
  says = λ i. let s = p.says i in
      let t = q.says s.at in
      record { at = t.at; reads = ap then s.reads ∙ t.reads; spells = λ ps d. s.spells ps (t.spells ps d) };
  fine = λ t. p.fine (q.fine t);
}

pub to_map : {A V : Type 0} (first : List Lexeme → A × List Lexeme) (then : A × List Lexeme → V × List Lexeme) (h g : Around) (y : A) (x : V) (ws us : List Word) → ((ls : List Lexeme) → then (y, ls) ≡ (x, ls)) → PutTo first h g y ws us → PutTo (λ ls. then (first ls)) h g x ws us
to_map first then h g y x ws us e p = record {
  says = λ i. let s = p.says i in record { at = s.at; reads = ap then s.reads ∙ e (tokens s.at us); spells = s.spells };
  fine = p.fine;
}

pub to_as : {V : Type 0} (read then : List Lexeme → V × List Lexeme) (h m g : Around) (x : V) (ws us : List Word) → Turns m g → ((i : ℕ) → read (tokens i ws) ≡ then (tokens i ws)) → PutTo then h m x ws us → PutTo read h g x ws us
to_as read then h m g x ws us f e q = record {
  says = λ i. let s = q.says i in record { at = s.at; reads = e i ∙ s.reads; spells = λ ps d. f ps (kinds_in (tokens i ws)) (s.spells ps d) };
  fine = q.fine;
}

pub to_words : {V : Type 0} (read : List Lexeme → V × List Lexeme) (h g : Around) (x : V) (ws vs us : List Word) → ws ≡ vs → PutTo read h g x ws us → PutTo read h g x vs us
to_words read h g x ws vs us e q = subst (λ (xs : List Word). PutTo read h g x xs us) e q

-- lists that are read part by part
module _ (A B : Type 0) (c : List Lexeme → Bool) (f : Kind → A → B → A) (p : List Lexeme → B × List Lexeme) (start : B × List Lexeme → A × List Lexeme) where
  abbrev whole : List Lexeme → A × List Lexeme
  whole ls = chained c f p (length ls) (start (p ls))

  pub record LedTo (h g : Around) (b : A) (ls : List Lexeme) (us : List Word) : Type 0 where
    pub at : ℕ
    pub chain : Chaining c f p (whole ls) b (tokens at us)
    pub spells : (ps : Parts) → Reads rule 32 (h ps) (kinds_in (tokens at us)) → Reads rule 32 (g ps) (kinds_in ls)

  pub record LeadsTo (h g : Around) (b : A) (ws us : List Word) : Type 0 where
    pub says : (i : ℕ) → LedTo h g b (tokens i ws) us
    pub fine : IsFine us → IsFine ws

  module _ (shrinks : (ls : List Lexeme) → length (p ls).1 ≤ length ls) (closed : c [] ≡ false) where
    begin_chain : (ls : List Lexeme) (y : B) (b : A) (rest : List Lexeme) → p ls ≡ (y, rest) → start (y, rest) ≡ (b, rest) → Chaining c f p (whole ls) b rest
    begin_chain ls y b rest e d =
        let s : length rest ≤ length ls = subst (λ (x : B × List Lexeme). length x.1 ≤ length ls) e (shrinks ls) in
        record { n = length ls; enough = s; is = ap (λ (x : B × List Lexeme). chained c f p (length ls) (start x)) e ∙ ap (λ (x : A × List Lexeme). chained c f p (length ls) x) d }

    pub to_first : (h g : Around) (y : B) (b : A) (ws us : List Word) → ((ls : List Lexeme) → start (y, ls) ≡ (b, ls)) → PutTo p h g y ws us → LeadsTo h g b ws us
    to_first h g y b ws us d q = record {
      says = λ i. let s = q.says i in record { at = s.at; chain = begin_chain (tokens i ws) y b (tokens s.at us) s.reads (d (tokens s.at us)); spells = s.spells };
      fine = q.fine;
    }

    pub to_more : (h m n g : Around) (k : Kind) (w : Word) (y : B) (b d : A) (ws vs us : List Word) → Lexes k w → Adds k n m → ((i j : ℕ) → c (lexeme k i w ∷ tokens j vs) ≡ true) → d ≡ f k b y → LeadsTo m g b ws (w ∷ vs) → PutTo p h n y vs us → LeadsTo h g d ws us
    to_more h m n g k w y b d ws vs us l a z e q r = record {
      says = λ i. let s = q.says i in
          let (j, x) = begun_by k w l s.at vs in
          let t = r.says j in
          let first : Chaining c f p (whole (tokens i ws)) b (lexeme k (suc s.at) w ∷ tokens j vs) = subst (λ (ls : List Lexeme). Chaining c f p (whole (tokens i ws)) b ls) x s.chain in
          record {
            at = t.at;
            chain = chain_more A B c f p (whole (tokens i ws)) shrinks closed b d y (lexeme k (suc s.at) w ∷ tokens j vs) (tokens j vs) (tokens t.at us) first (sym (z (suc s.at) j)) refl t.reads e;
            spells = λ ps o. s.spells ps (subst (λ (ls : List Lexeme). Reads rule 32 (m ps) (kinds_in ls)) (sym x) (a ps (kinds_in (tokens j vs)) (t.spells ps o)));
          };
      fine = λ o. q.fine (fine_more w vs l.fine (r.fine o));
    }

    pub to_end : (h g : Around) (b : A) (ws us : List Word) → ((i : ℕ) → c (tokens i us) ≡ false) → LeadsTo h g b ws us → PutTo whole h g b ws us
    to_end h g b ws us z a = record {
      says = λ i. let s = a.says i in record { at = s.at; reads = chain_ends A B c f p (whole (tokens i ws)) b (tokens s.at us) s.chain (z s.at); spells = s.spells };
      fine = a.fine;
    }

-- lists with commas between, each part with what is behind it
module _ (A : Type 0) (f : A → List Word) (p : List Lexeme → A × List Lexeme) (h m n g : Around) (Good : A → Type 0) (Follows : List Word → Type 0)
    (shrinks : (ls : List Lexeme) → length (p ls).1 ≤ length ls) (comma_follows : (us : List Word) → Follows (codes "," ∷ us)) (first : (x : A) → Good x → (us : List Word) → Follows us → PutTo p m g x (f x ++ us) us)
    (next : (x : A) → Good x → (us : List Word) → Follows us → PutTo p m n x (f x ++ us) us) (adds : Adds Comma n m) (ends : Turns h m) where
  more_follow : (xs : List A) (us : List Word) → Follows us → Follows (more f xs ++ us)
  more_follow [] us t = t
  more_follow (x ∷ xs) us t = comma_follows ((f x ++ more f xs) ++ us)

  go : (ws us : List Word) → Follows us → (done xs : List A) → AllGood Good xs → LeadsTo (List A) A at_comma with_last p as_list m g done ws (more f xs ++ us) → LeadsTo (List A) A at_comma with_last p as_list m g (done ++ xs) ws us
  go ws us t done [] z a = subst (λ (ys : List A). LeadsTo (List A) A at_comma with_last p as_list m g ys ws us) (sym (append-nil done)) a
  go ws us t done (x ∷ xs) (y, z) a =
      let one : PutTo p m n x ((f x ++ more f xs) ++ us) (more f xs ++ us) = to_words p m n x (f x ++ (more f xs ++ us)) ((f x ++ more f xs) ++ us) (more f xs ++ us) (sym (append_assoc (f x) (more f xs) us)) (next x y (more f xs ++ us) (more_follow xs us t)) in
      let longer : LeadsTo (List A) A at_comma with_last p as_list m g (done ++ x ∷ []) ws (more f xs ++ us) =
      to_more (List A) A at_comma with_last p as_list shrinks refl m m n g Comma (codes ",") x done (done ++ x ∷ []) ws ((f x ++ more f xs) ++ us) (more f xs ++ us) comma_word adds (λ i j. refl) refl a one in
      subst (λ (ys : List A). LeadsTo (List A) A at_comma with_last p as_list m g ys ws us) (append_assoc done (x ∷ []) xs) (go ws us t (done ++ x ∷ []) xs z longer)

  pub to_list : (xs : List A) → SomeGood Good xs → (us : List Word) → Follows us → ((i : ℕ) → at_comma (tokens i us) ≡ false) → PutTo (listed_by p) h g xs (listed f xs ++ us) us
  to_list [] z us t v = absurd z
  to_list (x ∷ xs) (y, z) us t v =
      let begun : LeadsTo (List A) A at_comma with_last p as_list m g (x ∷ []) (f x ++ (more f xs ++ us)) (more f xs ++ us) =
      to_first (List A) A at_comma with_last p as_list shrinks refl m g x (x ∷ []) (f x ++ (more f xs ++ us)) (more f xs ++ us) (λ ls. refl) (first x y (more f xs ++ us) (more_follow xs us t)) in
      let all : PutTo (listed_by p) m g (x ∷ xs) (f x ++ (more f xs ++ us)) us = to_end (List A) A at_comma with_last p as_list shrinks refl m g (x ∷ xs) (f x ++ (more f xs ++ us)) us v (go (f x ++ (more f xs ++ us)) us t (x ∷ []) xs z begun) in
      to_words (listed_by p) h g (x ∷ xs) (f x ++ (more f xs ++ us)) ((f x ++ more f xs) ++ us) us (sym (append_assoc (f x) (more f xs) us))
      (record { says = λ i. let s = all.says i in record { at = s.at; reads = s.reads; spells = λ ps d. s.spells ps (ends ps (kinds_in (tokens s.at us)) d) }; fine = all.fine })
