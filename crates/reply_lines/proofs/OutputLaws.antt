-- Laws of bytes that pass through a buffer.
use Rattle.std.proofs.Common.{◌≡◌, ℕ, zero, suc, List, [], ◌∷◌, ◌++◌, take, drop, Option, Result, Ok, Err, refl, sym, ◌∙◌, ap, append_assoc, append-nil, subst, length}
use Rattle.std.specs.Io.KnownBytes.{Appends}
use Rattle.std.specs.Result.{IsErr}
use Rattle.std.proofs.KnownBytes.{Appends-nil, Appends-trans}
use Rattle.outside.specs.Writing.{Writes}
use Rattle.reply_lines.specs.Output.{Splits, Breaks, Passes}

-- a front, and a front of what is behind it with more bytes
record Joins (a b : ℕ) (xs ys : List ℕ) : Type 0 where
  count : ℕ
  front : take a xs ++ take b (drop a xs ++ ys) ≡ take count (xs ++ ys)
  rest : drop b (drop a xs ++ ys) ≡ drop count (xs ++ ys)

joins : (a b : ℕ) (xs ys : List ℕ) → Joins a b xs ys
joins zero b xs ys = record { count = b; front = refl; rest = refl }
joins (suc a) b [] ys = record { count = b; front = refl; rest = refl }
joins (suc a) b (x ∷ xs) ys = let j = joins a b xs ys in record { count = suc j.count; front = ap (λ l. x ∷ l) j.front; rest = j.rest }

record Longer (a : ℕ) (xs ys : List ℕ) : Type 0 where
  count : ℕ
  front : take a xs ≡ take count (xs ++ ys)

longer : (a : ℕ) (xs ys : List ℕ) → Longer a xs ys
longer zero xs ys = record { count = zero; front = refl }
longer (suc a) [] ys = record { count = zero; front = refl }
longer (suc a) (x ∷ xs) ys = let j = longer a xs ys in record { count = suc j.count; front = ap (λ l. x ∷ l) j.front }

pub splits_then : (a b c : Option (List ℕ)) (xs w ys w' : List ℕ) → Splits a b xs w → Splits b c (w ++ ys) w' → Splits a c (xs ++ ys) w'
splits_then a b c xs w ys w' p q =
    let j = joins p.count q.count xs ys in
    let e : take q.count (w ++ ys) ≡ take q.count (drop p.count xs ++ ys) = ap (λ l. take q.count (l ++ ys)) p.waits in
    record {
      count = j.count;
      written = subst (λ (l : List ℕ). Appends a c l) (ap (λ l. take p.count xs ++ l) e ∙ j.front) (Appends-trans a b c (take p.count xs) (take q.count (w ++ ys)) p.written q.written);
      waits = q.waits ∙ ap (λ l. drop q.count (l ++ ys)) p.waits ∙ j.rest;
    }

pub breaks_then : (a b c : Option (List ℕ)) (xs w ys : List ℕ) → Splits a b xs w → Breaks b c (w ++ ys) → Breaks a c (xs ++ ys)
breaks_then a b c xs w ys p q =
    let j = joins p.count q.count xs ys in
    let e : take q.count (w ++ ys) ≡ take q.count (drop p.count xs ++ ys) = ap (λ l. take q.count (l ++ ys)) p.waits in
    record {
      count = j.count;
      written = subst (λ (l : List ℕ). Appends a c l) (ap (λ l. take p.count xs ++ l) e ∙ j.front) (Appends-trans a b c (take p.count xs) (take q.count (w ++ ys)) p.written q.written);
    }

pub breaks_more : (a b : Option (List ℕ)) (xs ys : List ℕ) → Breaks a b xs → Breaks a b (xs ++ ys)
breaks_more a b xs ys p = let j = longer p.count xs ys in record { count = j.count; written = subst (λ (l : List ℕ). Appends a b l) j.front p.written }

-- some bytes pass, and then others
pub splits_both : (a b c : Option (List ℕ)) (w w' w'' xs ys : List ℕ) → Splits a b (w ++ xs) w' → Splits b c (w' ++ ys) w'' → Splits a c (w ++ (xs ++ ys)) w''
splits_both a b c w w' w'' xs ys p q = subst (λ (l : List ℕ). Splits a c l w'') (append_assoc w xs ys) (splits_then a b c (w ++ xs) w' ys w'' p q)

pub breaks_behind : (a b c : Option (List ℕ)) (w w' xs ys : List ℕ) → Splits a b (w ++ xs) w' → Breaks b c (w' ++ ys) → Breaks a c (w ++ (xs ++ ys))
breaks_behind a b c w w' xs ys p q = subst (λ (l : List ℕ). Breaks a c l) (append_assoc w xs ys) (breaks_then a b c (w ++ xs) w' ys p q)

pub passes_then : {E : Type 0} (r : Result (Unit {0}) E) (a b c : Option (List ℕ)) (w w' w'' xs ys : List ℕ) → Splits a b (w ++ xs) w' → Passes r b c w' w'' ys → Passes r a c w w'' (xs ++ ys)
passes_then (Ok done) a b c w w' w'' xs ys p q = splits_both a b c w w' w'' xs ys p q
passes_then (Err e) a b c w w' w'' xs ys p q = breaks_behind a b c w w' xs ys p q

-- the first of them don't pass whole
pub passes_failed : {E : Type 0} (r : Result (Unit {0}) E) (a b : Option (List ℕ)) (w w' xs ys : List ℕ) → IsErr r → Breaks a b (w ++ xs) → Passes r a b w w' (xs ++ ys)
passes_failed (Ok done) a b w w' xs ys e p = cc
passes_failed (Err e) a b w w' xs ys is p = subst (λ (l : List ℕ). Breaks a b l) (append_assoc w xs ys) (breaks_more a b (w ++ xs) ys p)

-- the bytes wait, and nothing is written
pub splits_waits : (a : Option (List ℕ)) (w w' xs : List ℕ) → w' ≡ w ++ xs → Splits a a (w ++ xs) w'
splits_waits a w w' xs e = record { count = 0; written = Appends-nil a; waits = e }

take_length : (xs : List ℕ) → take (length xs) xs ≡ xs
take_length [] = refl
take_length (x ∷ xs) = ap (λ l. x ∷ l) (take_length xs)

drop_length : (xs : List ℕ) → drop (length xs) xs ≡ []
drop_length [] = refl
drop_length (x ∷ xs) = drop_length xs

-- nothing waits, and the bytes are written at once
pub passes_written : {E : Type 0} (r : Result (Unit {0}) E) (a b : Option (List ℕ)) (w w' xs : List ℕ) → w ≡ [] → w' ≡ [] → Writes r a b xs → Passes r a b w w' xs
passes_written (Ok done) a b w w' xs e e' p = rw (e, e') (record { count = length xs; written = rw (take_length xs) p; waits = sym (drop_length xs) })
passes_written (Err e) a b w w' xs e1 e' p = rw e1 (record { count = p.0; written = p.1 })

-- no bytes pass
pub splits_none : (a : Option (List ℕ)) (w : List ℕ) → Splits a a (w ++ []) w
splits_none a w = record { count = 0; written = Appends-nil a; waits = sym (append-nil w) }

-- behind them all that waits is written, or a front of it
pub splits_flushed : (a b c : Option (List ℕ)) (w w' w'' xs : List ℕ) → Splits a b (w ++ xs) w' → Splits b c (w' ++ []) w'' → w'' ≡ [] → Splits a c (w ++ xs) []
splits_flushed a b c w w' w'' xs p q none =
    subst (λ (l : List ℕ). Splits a c (w ++ xs) l) none
    (subst (λ (l : List ℕ). Splits a c (w ++ l) w'') (append-nil xs) (splits_both a b c w w' w'' xs [] p q))

pub breaks_flushed : (a b c : Option (List ℕ)) (w w' xs : List ℕ) → Splits a b (w ++ xs) w' → Breaks b c (w' ++ []) → Breaks a c (w ++ xs)
breaks_flushed a b c w w' xs p q = subst (λ (l : List ℕ). Breaks a c (w ++ l)) (append-nil xs) (breaks_behind a b c w w' xs [] p q)
