-- Words that a grammar reads, and what is read of them.
use Rattle.std.proofs.Common.{◌≡◌, ℕ, suc, ◌≤◌, Bool, true, false, List, [], ◌∷◌, length, refl, sym, ap, ◌∙◌, subst}
use Rattle.sql_print.specs.sql_tokens.specs.declared.kind.Kind.{Kind}
use Rattle.sql_print.specs.sql_tokens.specs.Kinds.{is_kind}
use Rattle.sql_print.specs.sql_tokens.specs.Lexing.{Lexeme, lexeme}
use Rattle.sql_print.specs.sql_grammar.specs.declared.test.Test.{Test}
use Rattle.sql_print.specs.sql_grammar.specs.Grammar.{Grammar, Parts, Part, Reads, Many, Then, both, again, enough}
use Rattle.sql_print.specs.sql_grammar.specs.Sql.{rule}
use Rattle.sql_print.specs.sql_grammar.specs.Tests.{passes}
use Rattle.sql_print.specs.sql_subset.specs.Lines.{kinds_in}
use Rattle.sql_print.specs.sql_phrases.specs.Reading.{begins, chained}
use Rattle.sql_print.specs.sql_phrases.proofs.Chains.{Chaining, chain_ends, chain_more}
use Rattle.sql_print.specs.sql_words.specs.Words.{Word}
use Rattle.print_laws.proofs.Fine.{IsFine, fine_more}
use Rattle.print_laws.proofs.Lexed.{Lexes, begun_by, tokens}

-- the tokens are read as this value, behind which the words stand, and the grammar reads them on this level
pub record Said {V : Type 0} (read : List Lexeme → V × List Lexeme) (u : ℕ) (g : Grammar) (x : V) (ls : List Lexeme) (us : List Word) : Type 0 where
  pub at : ℕ
  pub reads : read ls ≡ (x, tokens at us)
  pub spells : (ps : Parts) → Reads rule 32 ps (kinds_in (tokens at us)) → Reads rule 32 (Part u g ps) (kinds_in ls)

-- the words are so, wherever they stand, and those behind them are the second ones
pub record Put {V : Type 0} (read : List Lexeme → V × List Lexeme) (u : ℕ) (g : Grammar) (x : V) (ws us : List Word) : Type 0 where
  pub says : (i : ℕ) → Said read u g x (tokens i ws) us
  pub fine : IsFine us → IsFine ws

-- from one part to another without a token
abbrev pub Moves : ℕ → Grammar → Grammar → Type 0
Moves u h g = (ps : Parts) (r : List Kind) → Reads rule 32 (Part u h ps) r → Reads rule 32 (Part u g ps) r

-- from one part to another by a token
abbrev pub Takes : ℕ → Kind → Grammar → Grammar → Type 0
Takes u k h g = (ps : Parts) (r : List Kind) → Reads rule 32 (Part u h ps) r → Reads rule 32 (Part u g ps) (k ∷ r)

-- from two parts to one
abbrev pub Joins : ℕ → Grammar → Grammar → Grammar → Type 0
Joins u a b g = (ps : Parts) (r : List Kind) → Reads rule 32 (Part u a (Part u b ps)) r → Reads rule 32 (Part u g ps) r

-- nothing is read
pub put_none : {V : Type 0} (read : List Lexeme → V × List Lexeme) (u : ℕ) (g : Grammar) (x : V) (us : List Word) → ((ps : Parts) (r : List Kind) → Reads rule 32 ps r → Reads rule 32 (Part u g ps) r) → ((i : ℕ) → read (tokens i us) ≡ (x, tokens i us)) → Put read u g x us us
put_none read u g x us f e = record { says = λ i. record { at = i; reads = e i; spells = λ ps d. f ps (kinds_in (tokens i us)) d }; fine = λ h. h }

-- the last word
pub put_last : {V : Type 0} (read : List Lexeme → V × List Lexeme) (u : ℕ) (g : Grammar) (x : V) (k : Kind) (w : Word) (us : List Word) → Lexes k w → ((ps : Parts) (r : List Kind) → Reads rule 32 ps r → Reads rule 32 (Part u g ps) (k ∷ r))
    → ((p : ℕ) (ls : List Lexeme) → read (lexeme k p w ∷ ls) ≡ (x, ls)) → Put read u g x (w ∷ us) us
put_last read u g x k w us l f e = record {
  says = λ i. let (j, b) = begun_by k w l i us in
      record { at = j; reads = ap read b ∙ e (suc i) (tokens j us); spells = λ ps d. subst (λ ls. Reads rule 32 (Part u g ps) (kinds_in ls)) (sym b) (f ps (kinds_in (tokens j us)) d) };
  fine = λ h. fine_more w us l.fine h;
}

-- one word, and then others
pub put_word : {V : Type 0} (read then : List Lexeme → V × List Lexeme) (u : ℕ) (g h : Grammar) (x : V) (k : Kind) (w : Word) (ws us : List Word) → Lexes k w → Takes u k h g
    → ((p : ℕ) (ls : List Lexeme) → read (lexeme k p w ∷ ls) ≡ then ls) → Put then u h x ws us → Put read u g x (w ∷ ws) us
put_word read then u g h x k w ws us l f e q = record {
  says = λ i. let (j, b) = begun_by k w l i ws in
      let s = q.says j in
      record { at = s.at; reads = ap read b ∙ (e (suc i) (tokens j ws) ∙ s.reads); spells = λ ps d. subst (λ ls. Reads rule 32 (Part u g ps) (kinds_in ls)) (sym b) (f ps (kinds_in (tokens j ws)) (s.spells ps d)) };
  fine = λ t. fine_more w ws l.fine (q.fine t);
}

-- the same is read otherwise
pub put_as : {V : Type 0} (read then : List Lexeme → V × List Lexeme) (u : ℕ) (g h : Grammar) (x : V) (ws us : List Word) → Moves u h g → ((i : ℕ) → read (tokens i ws) ≡ then (tokens i ws)) → Put then u h x ws us → Put read u g x ws us
put_as read then u g h x ws us f e q = record {
  says = λ i. let s = q.says i in record { at = s.at; reads = e i ∙ s.reads; spells = λ ps d. f ps (kinds_in (tokens i ws)) (s.spells ps d) };
  fine = q.fine;
}

-- one phrase, and then another
pub put_both : {A V : Type 0} (first : List Lexeme → A × List Lexeme) (then : A × List Lexeme → V × List Lexeme) (u : ℕ) (a b g : Grammar) (y : A) (x : V) (ws vs us : List Word) → Joins u a b g
    → Put first u a y ws vs → Put (λ ls. then (y, ls)) u b x vs us → Put (λ ls. then (first ls)) u g x ws us
put_both first then u a b g y x ws vs us f p q = record {
  says = λ i. let s = p.says i in
      let t = q.says s.at in
      record { at = t.at; reads = ap then s.reads ∙ t.reads; spells = λ ps d. f ps (kinds_in (tokens i ws)) (s.spells (Part u b ps) (t.spells ps d)) };
  fine = λ t. p.fine (q.fine t);
}

-- one phrase, of which something is made
pub put_map : {A V : Type 0} (first : List Lexeme → A × List Lexeme) (then : A × List Lexeme → V × List Lexeme) (u : ℕ) (g : Grammar) (y : A) (x : V) (ws us : List Word) → ((ls : List Lexeme) → then (y, ls) ≡ (x, ls))
    → Put first u g y ws us → Put (λ ls. then (first ls)) u g x ws us
put_map first then u g y x ws us e p = record {
  says = λ i. let s = p.says i in record { at = s.at; reads = ap then s.reads ∙ e (tokens s.at us); spells = s.spells };
  fine = p.fine;
}

-- the words, associated otherwise
pub put_words : {V : Type 0} (read : List Lexeme → V × List Lexeme) (u : ℕ) (g : Grammar) (x : V) (ws vs us : List Word) → ws ≡ vs → Put read u g x ws us → Put read u g x vs us
put_words read u g x ws vs us e q = subst (λ (xs : List Word). Put read u g x xs us) e q

-- no token of this kind comes first
abbrev pub Never : Kind → List Word → Type 0
Never k ws = (i : ℕ) → begins k (tokens i ws) ≡ false

pub never_word : (j k : Kind) (w : Word) (ws : List Word) → Lexes k w → is_kind k j ≡ false → Never j (w ∷ ws)
never_word j k w ws l h i = ap (λ (ls : List Lexeme). begins j ls) (begun_by k w l i ws).1 ∙ h

-- lists that are read part by part
module _ (A B : Type 0) (g : List Lexeme → Bool) (f : Kind → A → B → A) (p : List Lexeme → B × List Lexeme) (start : B × List Lexeme → A × List Lexeme) where
  abbrev pub whole : List Lexeme → A × List Lexeme
  whole ls = chained g f p (length ls) (start (p ls))

  pub record LedBy (u : ℕ) (t : Test) (e : Grammar) (b : A) (ls : List Lexeme) (us : List Word) : Type 0 where
    pub at : ℕ
    pub chain : Chaining g f p (whole ls) b (tokens at us)
    pub spells : (ps : Parts) → Reads rule 32 (Part u (Many t e) ps) (kinds_in (tokens at us)) → Reads rule 32 (Part u e (Part u (Many t e) ps)) (kinds_in ls)

  -- so far these words are read as this value
  pub record Leads (u : ℕ) (t : Test) (e : Grammar) (b : A) (ws us : List Word) : Type 0 where
    pub says : (i : ℕ) → LedBy u t e b (tokens i ws) us
    pub fine : IsFine us → IsFine ws

  module _ (shrinks : (ls : List Lexeme) → length (p ls).1 ≤ length ls) (closed : g [] ≡ false) where
    begin_chain : (ls : List Lexeme) (y : B) (b : A) (rest : List Lexeme) → p ls ≡ (y, rest) → start (y, rest) ≡ (b, rest) → Chaining g f p (whole ls) b rest
    begin_chain ls y b rest e d =
        let s : length rest ≤ length ls = subst (λ (x : B × List Lexeme). length x.1 ≤ length ls) e (shrinks ls) in
        record { n = length ls; enough = s; is = ap (λ (x : B × List Lexeme). chained g f p (length ls) (start x)) e ∙ ap (λ (x : A × List Lexeme). chained g f p (length ls) x) d }

    pub leads_first : (u : ℕ) (t : Test) (e : Grammar) (y : B) (b : A) (ws us : List Word) → ((ls : List Lexeme) → start (y, ls) ≡ (b, ls)) → Put p u e y ws us → Leads u t e b ws us
    leads_first u t e y b ws us d q = record {
      says = λ i. let s = q.says i in
          record { at = s.at; chain = begin_chain (tokens i ws) y b (tokens s.at us) s.reads (d (tokens s.at us)); spells = λ ps r. s.spells (Part u (Many t e) ps) r };
      fine = q.fine;
    }

    pub leads_more : (u : ℕ) (t : Test) (e : Grammar) (k : Kind) (w : Word) (y : B) (b c : A) (ws vs us : List Word) → Lexes k w → passes t k ≡ true → ((m : ℕ) (ls : List Lexeme) → g (lexeme k m w ∷ ls) ≡ true) → c ≡ f k b y
        → Leads u t e b ws (w ∷ vs) → Put p u e y vs us → Leads u t e c ws us
    leads_more u t e k w y b c ws vs us l h m d a q = record {
      says = λ i. let s = a.says i in
          let (j, z) = begun_by k w l s.at vs in
          let r = q.says j in
          let first : Chaining g f p (whole (tokens i ws)) b (lexeme k (suc s.at) w ∷ tokens j vs) = subst (λ (ls : List Lexeme). Chaining g f p (whole (tokens i ws)) b ls) z s.chain in
          record {
            at = r.at;
            chain = chain_more A B g f p (whole (tokens i ws)) shrinks closed b c y (lexeme k (suc s.at) w ∷ tokens j vs) (tokens j vs) (tokens r.at us) first (sym (m (suc s.at) (tokens j vs))) refl r.reads d;
            spells = λ ps x. s.spells ps (subst (λ (ls : List Lexeme). Reads rule 32 (Part u (Many t e) ps) (kinds_in ls)) (sym z) (again h (r.spells (Part u (Many t e) ps) x)));
          };
      fine = λ x. a.fine (fine_more w vs l.fine (q.fine x));
    }

    pub leads_end : (u : ℕ) (t : Test) (e : Grammar) (b : A) (ws us : List Word) → ((i : ℕ) → g (tokens i us) ≡ false) → Leads u t e b ws us → Put whole u (Then e (Many t e)) b ws us
    leads_end u t e b ws us h a = record {
      says = λ i. let s = a.says i in
          record { at = s.at; reads = chain_ends A B g f p (whole (tokens i ws)) b (tokens s.at us) s.chain (h s.at); spells = λ ps d. both (s.spells ps (enough d)) };
      fine = a.fine;
    }

    pub leads_words : (u : ℕ) (t : Test) (e : Grammar) (b : A) (ws vs us : List Word) → ws ≡ vs → Leads u t e b ws us → Leads u t e b vs us
    leads_words u t e b ws vs us h a = subst (λ (xs : List Word). Leads u t e b xs us) h a

-- what was read by two parts
pub parted : {u : ℕ} {a b : Grammar} {ps : Parts} {r : List Kind} → Reads rule 32 (Part u (Then a b) ps) r → Reads rule 32 (Part u a (Part u b ps)) r
parted (both d) = d
