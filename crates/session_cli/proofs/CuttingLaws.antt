-- Laws of cutting the input into lines.
use Rattle.std.proofs.Common.{◌≡◌, ◌≢◌, ℕ, zero, suc, ◌+◌, ◌≤◌, ◌<◌, ◌==◌, List, [], ◌∷◌, ◌++◌, length, take, map, Bool, true, false, if◌then◌else◌, refl, sym, ◌∙◌, ap, arith, min, get_or, append-nil, lit≤}
use Rattle.std.proofs.lemmas.List.{take_all, take-append-le, length-take}
use Rattle.std.proofs.lemmas.Bool.Decides.{nat_tests}
use Rattle.cache_engine.specs.Requests.{is_long}
use Rattle.session_cli.specs.Cutting.{in_front, cut, without_return, front_of, text_of, ended_lines, last_line, all_lines}

pub take_push : (n : ℕ) (xs : List ℕ) (b : ℕ) → take n (take n xs ++ b ∷ []) ≡ take n (xs ++ b ∷ [])
take_push zero xs b = refl
take_push (suc n) [] b = refl
take_push (suc n) (x ∷ xs) b = ap (λ l. x ∷ l) (take_push n xs b)

pub front_push : (xs : List ℕ) (b : ℕ) → front_of (front_of xs ++ b ∷ []) ≡ front_of (xs ++ b ∷ [])
unfolding front_of
front_push xs b = take_push 65537 xs b

pub front_short : (line : List ℕ) → length line ≤ 65537 → front_of line ≡ line
unfolding front_of
front_short line le = take_all 65537 line le

pub front_full : (line : List ℕ) (b : ℕ) → length line ≤ 65537 → 65537 ≤ length line → front_of (line ++ b ∷ []) ≡ line
unfolding front_of
front_full line b le ge = take-append-le 65537 line (b ∷ []) ge ∙ take_all 65537 line le

front_length : (line : List ℕ) → length (front_of line) ≡ min 65537 (length line)
unfolding front_of
front_length line = length-take 65537 line

pub front_twice : (line : List ℕ) → front_of (front_of line) ≡ front_of line
front_twice line = front_short (front_of line) (omega (arith, front_length line))

not_long : (line : List ℕ) → length line ≤ 65536 → is_long line ≡ false
not_long line le = grind (arith, nat_tests)

is_long_when : (line : List ℕ) → 65536 < length line → is_long line ≡ true
is_long_when line gt = grind (arith, nat_tests)

pub text_long : (line : List ℕ) → 65536 < length line → text_of line ≡ front_of line
text_long line gt = rw (is_long_when line gt) refl

pub text_short : (line : List ℕ) → length line ≤ 65536 → text_of line ≡ without_return line
text_short line le = rw (not_long line le) refl

-- the front is enough to tell what the tier is given
pub text_front : (line : List ℕ) → text_of (front_of line) ≡ text_of line
text_front line = by_length (is_long line) refl
  where
    by_length : (long : Bool) → is_long line ≡ long → text_of (front_of line) ≡ text_of line
    by_length true is =
        let gt : 65536 < length line = grind (arith, nat_tests) in
        text_long (front_of line) (omega (arith, front_length line)) ∙ front_twice line ∙ sym (text_long line gt)
    by_length false is =
        let le : length line ≤ 65536 = grind (arith, nat_tests) in
        ap text_of (front_short line (omega arith))

return_dropped : (front : List ℕ) → without_return (front ++ 13 ∷ []) ≡ front
return_dropped [] = refl
return_dropped (x ∷ []) = refl
return_dropped (x ∷ y ∷ ys) = ap (λ l. x ∷ l) (return_dropped (y ∷ ys))

other_kept : (front : List ℕ) (b : ℕ) → (b == 13) ≡ false → without_return (front ++ b ∷ []) ≡ front ++ b ∷ []
other_kept [] b differs = rw differs refl
other_kept (x ∷ []) b differs = ap (λ l. x ∷ l) (other_kept [] b differs)
other_kept (x ∷ y ∷ ys) b differs = ap (λ l. x ∷ l) (other_kept (y ∷ ys) b differs)

pub return_at_end : (line front : List ℕ) (b : ℕ) → line ≡ front ++ b ∷ [] → b ≡ 13 → without_return line ≡ front
return_at_end line front b is e = rw (is, e) (return_dropped front)

pub other_at_end : (line front : List ℕ) (b : ℕ) → line ≡ front ++ b ∷ [] → b ≢ 13 → without_return line ≡ line
other_at_end line front b is differs =
    let tested : (b == 13) ≡ false = grind (arith, nat_tests) in
    rw is (other_kept front b tested)

-- the line ends
abbrev pub end_here : List (List ℕ) × List ℕ → List (List ℕ) × List ℕ
end_here (lines, rest) = (lines ++ rest ∷ [], [])

-- the line goes on
abbrev pub go_on : ℕ → List (List ℕ) × List ℕ → List (List ℕ) × List ℕ
go_on b (lines, rest) = (lines, rest ++ b ∷ [])

in_front_end : (b : ℕ) (c : List (List ℕ) × List ℕ) → in_front b (end_here c) ≡ end_here (in_front b c)
in_front_end b ([], rest) = refl
in_front_end b (line ∷ lines, rest) = refl

in_front_on : (b d : ℕ) (c : List (List ℕ) × List ℕ) → in_front b (go_on d c) ≡ go_on d (in_front b c)
in_front_on b d ([], rest) = refl
in_front_on b d (line ∷ lines, rest) = refl

one_end : (x : ℕ) (a : List (List ℕ) × List ℕ) (b : List (List ℕ) × List ℕ) (t : Bool) → a ≡ end_here b
    → (if t then ([] ∷ a.0, a.1) else in_front x a) ≡ end_here (if t then ([] ∷ b.0, b.1) else in_front x b)
one_end x a b true e = rw e refl
one_end x a b false e = rw e (in_front_end x b)

one_on : (x d : ℕ) (a : List (List ℕ) × List ℕ) (b : List (List ℕ) × List ℕ) (t : Bool) → a ≡ go_on d b
    → (if t then ([] ∷ a.0, a.1) else in_front x a) ≡ go_on d (if t then ([] ∷ b.0, b.1) else in_front x b)
one_on x d a b true e = rw e refl
one_on x d a b false e = rw e (in_front_on x d b)

-- a line feed behind some bytes
pub cut_end : (xs : List ℕ) → cut (xs ++ 10 ∷ []) ≡ end_here (cut xs)
cut_end [] = refl
cut_end (x ∷ xs) = one_end x (cut (xs ++ 10 ∷ [])) (cut xs) (x == 10) (cut_end xs)

-- another byte behind them
pub cut_on : (b : ℕ) (xs : List ℕ) → (b == 10) ≡ false → cut (xs ++ b ∷ []) ≡ go_on b (cut xs)
cut_on b [] differs = rw differs refl
cut_on b (x ∷ xs) differs = one_on x b (cut (xs ++ b ∷ [])) (cut xs) (x == 10) (cut_on b xs differs)

map_push : (f : List ℕ → List ℕ) (xs : List (List ℕ)) (x : List ℕ) → map f (xs ++ x ∷ []) ≡ map f xs ++ f x ∷ []
map_push f [] x = refl
map_push f (y ∷ ys) x = ap (λ l. f y ∷ l) (map_push f ys x)

-- a line feed ends a line
pub ended_push : (given : List ℕ) → ended_lines (given ++ 10 ∷ []) ≡ ended_lines given ++ text_of (cut given).1 ∷ []
ended_push given = ap (λ p. map text_of p.0) (cut_end given) ∙ map_push text_of (cut given).0 (cut given).1

pub rest_ended : (given : List ℕ) → (cut (given ++ 10 ∷ [])).1 ≡ []
rest_ended given = ap (λ p. p.1) (cut_end given)

-- another byte doesn't
pub ended_same : (given : List ℕ) (b : ℕ) → b ≢ 10 → ended_lines (given ++ b ∷ []) ≡ ended_lines given
ended_same given b differs =
    let tested : (b == 10) ≡ false = grind (arith, nat_tests) in
    ap (λ p. map text_of p.0) (cut_on b given tested)

pub rest_push : (given : List ℕ) (b : ℕ) → b ≢ 10 → (cut (given ++ b ∷ [])).1 ≡ (cut given).1 ++ b ∷ []
rest_push given b differs =
    let tested : (b == 10) ≡ false = grind (arith, nat_tests) in
    ap (λ p. p.1) (cut_on b given tested)

-- a byte more of a piece
pub take_one : (xs : List ℕ) (i : ℕ) → i < length xs → take i xs ++ get_or xs i 0 ∷ [] ≡ take (i + 1) xs
take_one [] i lt = absurd (omega arith)
take_one (x ∷ xs) zero lt = refl
take_one (x ∷ xs) (suc i) lt = let e : suc i + 1 ≡ suc (i + 1) = omega arith in rw e (ap (λ l. x ∷ l) (take_one xs i (omega arith)))

-- a byte or none more
pub take_within : (xs : List ℕ) (i n : ℕ) → i < length xs → (m : ℕ) × (take i xs ++ take n (get_or xs i 0 ∷ []) ≡ take m xs)
take_within xs i zero lt = (i, append-nil (take i xs))
take_within xs i (suc zero) lt = (i + 1, take_one xs i lt)
take_within xs i (suc (suc n)) lt = (i + 1, take_one xs i lt)

take_none : (n b : ℕ) (rest : List ℕ) → take (suc n) (b ∷ rest) ≡ [] → ⊥
take_none n b rest none = cc

front_none : (rest : List ℕ) → front_of rest ≡ [] → rest ≡ []
unfolding front_of
front_none [] none = refl
front_none (b ∷ rest) none = absurd (take_none 65536 b rest none)

last_none : (rest : List ℕ) → rest ≡ [] → last_line rest ≡ []
last_none [] none = refl
last_none (b ∷ rest) none = cc

last_some : (rest : List ℕ) → rest ≢ [] → last_line rest ≡ front_of rest ∷ []
last_some [] some = absurd (some refl)
last_some (b ∷ rest) some = refl

-- nothing stands behind the last line feed
pub all_ended : (given : List ℕ) → front_of (cut given).1 ≡ [] → all_lines given ≡ ended_lines given
all_ended given none = ap (λ l. ended_lines given ++ l) (last_none (cut given).1 (front_none (cut given).1 none)) ∙ append-nil (ended_lines given)

-- a line stands there
pub all_more : (given line : List ℕ) → line ≡ front_of (cut given).1 → line ≢ [] → all_lines given ≡ ended_lines given ++ line ∷ []
all_more given line is some =
    let rest_some : (cut given).1 ≢ [] = λ none. some (is ∙ ap front_of none ∙ front_short [] (lit≤ tt)) in
    ap (λ l. ended_lines given ++ l) (last_some (cut given).1 rest_some ∙ ap (λ l. l ∷ []) (sym is))

pub empty_when : (r : Bool) (line : List ℕ) → r ≡ (length line == 0) → r ≡ true → line ≡ []
empty_when r [] is e = refl
empty_when r (x ∷ xs) is e = absurd (none_there (sym is ∙ e))
  where
    none_there : (length (x ∷ xs) == 0) ≡ true → ⊥
    none_there h = grind (arith, nat_tests)

pub some_when : (r : Bool) (line : List ℕ) → r ≡ (length line == 0) → r ≡ false → line ≢ []
some_when r [] is e none = cc
some_when r (x ∷ xs) is e none = cc
