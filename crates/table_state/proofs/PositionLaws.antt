-- Laws of the positions of tickets.
use Rattle.std.proofs.Common.{◌≡◌, ℕ, suc, ◌+◌, ◌≤◌, Bool, true, false, cond, ◌||◌, Option, Some, None, is_some, List, [], ◌∷◌, ◌++◌, length, slice_get, refl, sym, ap, ◌∙◌, arith}
use Rattle.std.specs.Option.{option_map, option_or}
use Rattle.table_state.specs.declared.history.Entry.{Entry}
use Rattle.table_state.specs.Histories.{has_ticket, is_of, position_of}

abbrev more : Option ℕ → Option ℕ
more o = option_map (λ n. n + 1) o

-- a ticket has a position where it stands
pub has_position : (ticket : ℕ) (h : List Entry) → has_ticket ticket h ≡ is_some (position_of ticket h)
has_position ticket [] = refl
has_position ticket (x ∷ h) = by (is_of ticket x) (position_of ticket h) (has_position ticket h)
  where
    by : (b : Bool) (f : Option ℕ) → has_ticket ticket h ≡ is_some f → (b || has_ticket ticket h) ≡ is_some (cond b (Some 1) (more f))
    by true f e = refl
    by false None e = e
    by false (Some n) e = e

-- a position further on
shifted : (f g : Option ℕ) (k m : ℕ) → m ≡ k + 1 → more (option_or f (option_map (λ n. k + n) g)) ≡ option_or (more f) (option_map (λ n. m + n) g)
shifted None None k m e = refl
shifted None (Some n) k m e = let same : k + n + 1 ≡ m + n = omega arith in ap Some same
shifted (Some x) g k m e = refl

from_begin : (g : Option ℕ) → g ≡ option_map (λ n. 0 + n) g
from_begin None = refl
from_begin (Some n) = let same : n ≡ 0 + n = omega arith in ap Some same

pub position_of-append : (ticket : ℕ) (xs ys : List Entry) → position_of ticket (xs ++ ys) ≡ option_or (position_of ticket xs) (option_map (λ n. length xs + n) (position_of ticket ys))
position_of-append ticket [] ys = from_begin (position_of ticket ys)
position_of-append ticket (x ∷ xs) ys = by (is_of ticket x) (position_of-append ticket xs ys)
  where
    by : (b : Bool) → position_of ticket (xs ++ ys) ≡ option_or (position_of ticket xs) (option_map (λ n. length xs + n) (position_of ticket ys))
        → cond b (Some 1) (more (position_of ticket (xs ++ ys))) ≡ option_or (cond b (Some 1) (more (position_of ticket xs))) (option_map (λ n. length (x ∷ xs) + n) (position_of ticket ys))
    by true e = refl
    by false e = ap more e ∙ shifted (position_of ticket xs) (position_of ticket ys) (length xs) (length (x ∷ xs)) (omega arith)

-- the entry before the position has the ticket
pub position_is : (ticket : ℕ) (h : List Entry) (n : ℕ) → position_of ticket h ≡ Some n → (k : ℕ) × (entry : Entry) × (n ≡ k + 1) × (slice_get h k ≡ Some entry) × (is_of ticket entry ≡ true)
position_is ticket [] n e = cc
position_is ticket (x ∷ h) n e = by (is_of ticket x) refl (position_of ticket h) e (position_is ticket h)
  where
    by : (b : Bool) → is_of ticket x ≡ b → (f : Option ℕ) → cond b (Some 1) (more f) ≡ Some n
        → ((m : ℕ) → f ≡ Some m → (k : ℕ) × (entry : Entry) × (m ≡ k + 1) × (slice_get h k ≡ Some entry) × (is_of ticket entry ≡ true))
        → (k : ℕ) × (entry : Entry) × (n ≡ k + 1) × (slice_get (x ∷ h) k ≡ Some entry) × (is_of ticket entry ≡ true)
    by true is f e rest = let one : 1 ≡ n = cc in (0, x, sym one, refl, is)
    by false is None e rest = cc
    by false is (Some m) e rest =
        let next : m + 1 ≡ n = cc in
        let at = rest m refl in
        let same : m ≡ at.0 + 1 = at.2 in
        (suc at.0, at.1, omega arith, at.3, at.4)

-- a position is one of the history
pub position_within : (ticket : ℕ) (h : List Entry) (n : ℕ) → position_of ticket h ≡ Some n → n ≤ length h
position_within ticket [] n e = cc
position_within ticket (x ∷ h) n e = by (is_of ticket x) (position_of ticket h) (position_within ticket h) e
  where
    by : (b : Bool) (f : Option ℕ) → ((m : ℕ) → f ≡ Some m → m ≤ length h) → cond b (Some 1) (more f) ≡ Some n → n ≤ length (x ∷ h)
    by true f within e = let one : 1 ≡ n = cc in omega arith
    by false None within e = cc
    by false (Some m) within e =
        let next : m + 1 ≡ n = cc in
        let least : m ≤ length h = within m refl in
        omega arith
