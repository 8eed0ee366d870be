-- A front of some bytes is written.
use Rattle.std.proofs.Common.{◌≡◌, ℕ, zero, suc, List, [], ◌∷◌, ◌++◌, Bool, Option, length, take, refl, sym, ◌∙◌, ap, append_assoc, append-nil, subst}
use Rattle.std.specs.Io.KnownBytes.{Appends}
use Rattle.std.proofs.KnownBytes.{Appends-nil, Appends-trans}
use Rattle.script_maker.specs.Making.{Splits}
use Rattle.script_maker.specs.Script.{bytes_of_lines}

pub record Made (sink sink' : Option (List ℕ)) (bytes rest : List ℕ) : Type 0 where
  pub front : List ℕ
  pub written : Appends sink sink' front
  pub parts : bytes ≡ front ++ rest

pub made_none : (sink : Option (List ℕ)) (bytes : List ℕ) → Made sink sink bytes bytes
made_none sink bytes = record { front = []; written = Appends-nil sink; parts = refl }

-- the same rest, told otherwise
pub made_as : (a b : Option (List ℕ)) (bytes rest rest' : List ℕ) → rest ≡ rest' → Made a b bytes rest → Made a b bytes rest'
made_as a b bytes rest rest' is m = subst (λ (l : List ℕ). Made a b bytes l) is m

-- more is written of what waits
pub made_more : (a b c : Option (List ℕ)) (bytes old new left : List ℕ) (more : Bool) → Made a b bytes (old ++ left) → Splits b c old new more → Made a c bytes (new ++ left)
made_more a b c bytes old new left more m s = record {
  front = m.front ++ s.front;
  written = Appends-trans a b c m.front s.front m.written s.written;
  parts = m.parts ∙ ap (λ l. m.front ++ (l ++ left)) s.parts ∙ ap (λ l. m.front ++ l) (append_assoc s.front new left) ∙ sym (append_assoc m.front s.front (new ++ left));
}

take_front : (front rest : List ℕ) → take (length front) (front ++ rest) ≡ front
take_front [] rest = refl
take_front (x ∷ front) rest = ap (λ l. x ∷ l) (take_front front rest)

-- all is written
pub made_all : (a b : Option (List ℕ)) (bytes waiting : List ℕ) (left : List (List ℕ)) → waiting ≡ [] → left ≡ [] → Made a b bytes (waiting ++ bytes_of_lines left) → Appends a b bytes
made_all a b bytes waiting left none over m =
    let nothing : waiting ++ bytes_of_lines left ≡ [] = rw (none, over) refl in
    subst (λ (l : List ℕ). Appends a b l) (sym (m.parts ∙ ap (λ l. m.front ++ l) nothing ∙ append-nil m.front)) m.written

-- a front is written
pub made_front : (a b : Option (List ℕ)) (bytes rest : List ℕ) → Made a b bytes rest → (n : ℕ) × Appends a b (take n bytes)
made_front a b bytes rest m =
    (length m.front, subst (λ (l : List ℕ). Appends a b l) (sym (ap (take (length m.front)) m.parts ∙ take_front m.front rest)) m.written)

record Longer (n : ℕ) (front old left : List ℕ) : Type 0 where
  count : ℕ
  same : front ++ take n old ≡ take count (front ++ (old ++ left))

longer : (n : ℕ) (front old left : List ℕ) → Longer n front old left
longer zero [] old left = record { count = zero; same = refl }
longer (suc n) [] [] left = record { count = zero; same = refl }
longer (suc n) [] (x ∷ old) left = let j = longer n [] old left in record { count = suc j.count; same = ap (λ l. x ∷ l) j.same }
longer n (x ∷ front) old left = let j = longer n front old left in record { count = suc j.count; same = ap (λ l. x ∷ l) j.same }

-- and a front of what waits
pub made_less : (a b c : Option (List ℕ)) (bytes old left : List ℕ) (n : ℕ) → Made a b bytes (old ++ left) → Appends b c (take n old) → (k : ℕ) × Appends a c (take k bytes)
made_less a b c bytes old left n m w =
    let j = longer n m.front old left in
    (j.count, subst (λ (l : List ℕ). Appends a c l) (j.same ∙ ap (take j.count) (sym m.parts)) (Appends-trans a b c m.front (take n old) m.written w))
