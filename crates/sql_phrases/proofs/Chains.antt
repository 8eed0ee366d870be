-- Lists that are read part by part.
use Rattle.std.proofs.Common.{◌≡◌, ℕ, zero, suc, ◌<◌, ◌≤◌, Bool, true, false, cond, List, [], ◌∷◌, length, drop, refl, sym, ◌∙◌, arith, length-drop}
use Rattle.std.proofs.lemmas.List.{nil_from_length}
use Rattle.sql_grammar.specs.sql_tokens.specs.declared.kind.Kind.{Kind}
use Rattle.sql_grammar.specs.sql_tokens.specs.Lexing.{Lexeme}
use Rattle.sql_phrases.specs.Reading.{chained, first_kind, as_list, with_last}

-- What is read so far, and what is still to be read, make the whole.
pub record Chaining {A B : Type 0} (g : List Lexeme → Bool) (f : Kind → A → B → A) (p : List Lexeme → B × List Lexeme) (whole : A × List Lexeme) (a : A) (rest : List Lexeme) : Type 0 where
  pub n : ℕ
  pub enough : length rest ≤ n
  pub is : whole ≡ chained g f p n (a, rest)

module _ (A B : Type 0) (g : List Lexeme → Bool) (f : Kind → A → B → A) (p : List Lexeme → B × List Lexeme) (whole : A × List Lexeme) where
  pub chain_begins : (x : A × List Lexeme) (n : ℕ) → length x.1 ≤ n → whole ≡ chained g f p n x → Chaining g f p whole x.0 x.1
  chain_begins x n h e = record { n = n; enough = h; is = e }

  stops : (n : ℕ) (x : A × List Lexeme) → g x.1 ≡ false → chained g f p n x ≡ x
  stops zero x h = refl
  stops (suc n) x h = rw h

  pub chain_ends : (a : A) (rest : List Lexeme) → Chaining g f p whole a rest → g rest ≡ false → whole ≡ (a, rest)
  chain_ends a rest c h = c.is ∙ stops c.n (a, rest) h

  -- the list never grows by a part
  module _ (shrinks : (ls : List Lexeme) → length (p ls).1 ≤ length ls) (closed : g [] ≡ false) where
    goes : (n : ℕ) (a : A) (rest : List Lexeme) → length rest ≤ n → g rest ≡ true → whole ≡ chained g f p n (a, rest) → Chaining g f p whole (f (first_kind rest) a (p (drop 1 rest)).0) (p (drop 1 rest)).1
    goes zero a rest l h e = absurd (empty_goes rest l h)
      where
        differs : (b : Bool) → b ≡ true → b ≡ false → ⊥
        differs b u v = absurd (cc)

        empty_goes : (ls : List Lexeme) → length ls ≤ 0 → g ls ≡ true → ⊥
        empty_goes ls m u = let z : length ls ≡ 0 = omega arith in differs (g ls) u (rw (nil_from_length ls z) closed)
    goes (suc n) a rest l h e =
        record {
          n = n;
          enough = (let s = shrinks (drop 1 rest) in omega (arith, length-drop 1 rest, s));
          is = rw h at e;
        }

    pub chain_goes_on : (a : A) (rest : List Lexeme) → Chaining g f p whole a rest → g rest ≡ true → Chaining g f p whole (f (first_kind rest) a (p (drop 1 rest)).0) (p (drop 1 rest)).1
    chain_goes_on a rest c h = goes c.n a rest c.enough h c.is

    pub chained_shrinks : (n : ℕ) (x : A × List Lexeme) → length (chained g f p n x).1 ≤ length x.1
    chained_shrinks zero x = omega arith
    chained_shrinks (suc n) x =
        let s = shrinks (drop 1 x.1) in
        let t = chained_shrinks n (f (first_kind x.1) x.0 (p (drop 1 x.1)).0, (p (drop 1 x.1)).1) in
        elim (g x.1) as (λ b. length (cond b (chained g f p n (f (first_kind x.1) x.0 (p (drop 1 x.1)).0, (p (drop 1 x.1)).1)) x).1 ≤ length x.1)
        [ true ↦ omega (arith, length-drop 1 x.1, s, t) | false ↦ omega arith ]

    pub chain_within : (n : ℕ) (x : A × List Lexeme) (ls : List Lexeme) → length x.1 ≤ length ls → length (chained g f p n x).1 ≤ length ls
    chain_within n x ls h = let t = chained_shrinks n x in omega (arith, h, t)

    pub chain_more : (a b : A) (x : B) (rest middle behind : List Lexeme) → Chaining g f p whole a rest → true ≡ g rest → middle ≡ drop 1 rest → p middle ≡ (x, behind) → b ≡ f (first_kind rest) a x → Chaining g f p whole b behind
    chain_more a b x rest middle behind c h m e s =
        let d : p (drop 1 rest) ≡ (x, behind) = rw (← m) e in
        rw s (rw d at (chain_goes_on a rest c (sym h)))

    -- behind a part fewer tokens are left
    pub chain_shorter : (x : B) (rest middle behind : List Lexeme) → true ≡ g rest → middle ≡ drop 1 rest → p middle ≡ (x, behind) → length behind < length rest
    chain_shorter x rest middle behind h m e =
        let d : p (drop 1 rest) ≡ (x, behind) = rw (← m) e in
        let s : length behind ≤ length (drop 1 rest) = rw d at (shrinks (drop 1 rest)) in
        nonempty rest h s
      where
        differs : (b : Bool) → true ≡ b → b ≡ false → ⊥
        differs b u v = absurd (cc)

        nonempty : (ls : List Lexeme) → true ≡ g ls → length behind ≤ length (drop 1 ls) → length behind < length ls
        nonempty [] u s = absurd (differs (g []) u closed)
        nonempty (l ∷ ls) u s = omega arith

-- the first part
module _ (A : Type 0) (g : List Lexeme → Bool) (f : Kind → List A → A → List A) (p : List Lexeme → A × List Lexeme) where
  pub chain_first : (ls : List Lexeme) (x : A) (xs : List A) (rest : List Lexeme) → xs ≡ x ∷ [] → p ls ≡ (x, rest) → length rest ≤ length ls → Chaining g f p (chained g f p (length ls) ((p ls).0 ∷ [], (p ls).1)) xs rest
  chain_first ls x xs rest e h l = record { n = length ls; enough = l; is = rw (e, h) }

-- the first part, where it is not put into a list
module _ (A : Type 0) (g : List Lexeme → Bool) (f : Kind → A → A → A) (p : List Lexeme → A × List Lexeme) where
  pub chain_start : (ls : List Lexeme) (x : A) (rest : List Lexeme) → p ls ≡ (x, rest) → length rest ≤ length ls → Chaining g f p (chained g f p (length ls) (p ls)) x rest
  chain_start ls x rest h l = record { n = length ls; enough = l; is = rw h }
