use Rattle.std.proofs.Common.{◌≡◌, ◌<◌, ◌≤◌, ℕ, false, nat_eq, codes, refl, arith}
use Rattle.std.proofs.lemmas.Bool.{ne_eqb}
use Rattle.script_maker.specs.Script.{drawn_line}
use Rattle.script_maker.proofs.wording.put_drawn.Goals as goal

pub returns-in-0 : goal.returns-in-0
unfolding drawn_line
returns-in-0 c = rw c.in-0.is c.put_two.ensures

pub returns-in-1 : goal.returns-in-1
unfolding drawn_line
returns-in-1 c = rw c.in-1.is c.put_pair.ensures

pub returns-in-2 : goal.returns-in-2
unfolding drawn_line
returns-in-2 c = rw c.in-2.is c.put_one.ensures

pub returns-in-3 : goal.returns-in-3
unfolding drawn_line
returns-in-3 c = rw c.in-3.is c.put_one-in-3.ensures

pub returns-in-4 : goal.returns-in-4
unfolding drawn_line
returns-in-4 c = rw c.in-4.is c.put.ensures

pub returns-in-5 : goal.returns-in-5
unfolding drawn_line
returns-in-5 c = rw c.in-5.is c.put_two-in-5.ensures

pub returns-in-6 : goal.returns-in-6
unfolding drawn_line
returns-in-6 c = rw c.in-6.is c.put-in-6.ensures

last_kind : (kind key number : ℕ) → 7 ≤ kind → codes "s1: CALL ttDrain" ≡ drawn_line kind key number
unfolding drawn_line
last_kind kind key number le =
    rw (other 0 (omega arith), other 1 (omega arith), other 2 (omega arith), other 3 (omega arith), other 4 (omega arith), other 5 (omega arith), other 6 (omega arith)) refl
  where
    other : (n : ℕ) → n < 7 → nat_eq kind n ≡ false
    other n lt = ne_eqb kind n (λ is. absurd (omega (arith, is)))

pub returns-in_default : goal.returns-in_default
returns-in_default c =
    let le : 7 ≤ c.args.kind = omega arith in
    rw (← last_kind c.args.kind c.args.key c.args.number le) c.put-in_default.ensures
