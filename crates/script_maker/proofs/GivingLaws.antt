-- What a line more leaves.
use Rattle.std.proofs.Common.{◌≡◌, ℕ, zero, suc, ◌+◌, ◌-◌, ◌<◌, ◌≤◌, List, [], ◌∷◌, ◌++◌, true, false, refl, drop, arith}
use Rattle.script_maker.specs.Giving.{Gives, lines_left}
use Rattle.script_maker.specs.Script.{closing, drawn, drawn_lines, line_drawn, opening}

-- a line of the opening
pub gives_opening : (opened coming number state closed : ℕ) (line new old : List ℕ) → drop opened opening ≡ line ∷ drop (opened + 1) opening → new ≡ old ++ line
    → Gives (lines_left opened coming number state closed) (lines_left (opened + 1) coming number state closed) old new true
unfolding lines_left
gives_opening opened coming number state closed line new old is put = rw is (refl, refl, put)

drop_none : (n : ℕ) → drop {A = List ℕ} n [] ≡ []
drop_none zero = refl
drop_none (suc n) = refl

past_opening : (opened : ℕ) → 6 ≤ opened → drop opened opening ≡ []
past_opening opened le = let e : opened ≡ suc (suc (suc (suc (suc (suc (opened - 6)))))) = omega arith in rw e (drop_none _)

-- a drawn line
pub gives_drawn : (opened coming number state closed next : ℕ) (new old : List ℕ) → 6 ≤ opened → 0 < coming → next ≡ drawn (drawn state) → new ≡ old ++ line_drawn number state
    → Gives (lines_left opened coming number state closed) (lines_left opened (coming - 1) (number + 1) next closed) old new true
unfolding lines_left drawn_lines
gives_drawn opened zero number state closed next new old le lt is put = absurd (omega arith)
gives_drawn opened (suc n) number state closed next new old le lt is put =
    let e : suc n - 1 ≡ n = omega arith in
    rw (e, is, past_opening opened le) (refl, refl, put)

-- a line of the closing
pub gives_closing : (opened coming number state closed : ℕ) (line new old : List ℕ) → 6 ≤ opened → coming ≤ 0 → drop closed closing ≡ line ∷ drop (closed + 1) closing → new ≡ old ++ line
    → Gives (lines_left opened coming number state closed) (lines_left opened coming number state (closed + 1)) old new true
unfolding lines_left drawn_lines
gives_closing opened (suc n) number state closed line new old le none is put = absurd (omega arith)
gives_closing opened zero number state closed line new old le none is put = rw (past_opening opened le, is) (refl, refl, put)

past_closing : (closed : ℕ) → 2 ≤ closed → drop closed closing ≡ []
past_closing closed le = let e : closed ≡ suc (suc (closed - 2)) = omega arith in rw e (drop_none _)

-- none is left
pub gives_none : (opened coming number state closed : ℕ) (old : List ℕ) → 6 ≤ opened → coming ≤ 0 → 2 ≤ closed
    → Gives (lines_left opened coming number state closed) (lines_left opened coming number state closed) old old false
unfolding lines_left drawn_lines
gives_none opened (suc n) number state closed old le none past = absurd (omega arith)
gives_none opened zero number state closed old le none past = rw (past_opening opened le, past_closing closed past) (refl, refl, refl)
