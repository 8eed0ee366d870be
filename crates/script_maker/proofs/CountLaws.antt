-- How many lines a script has.
use Rattle.std.proofs.Common.{◌≡◌, ℕ, zero, suc, ◌+◌, ◌^◌, ◌<◌, ◌≤◌, length, refl, ap, arith, length-append}
use Rattle.script_maker.specs.Script.{drawn, drawn_lines, script_lines}

length_drawn : (count number x : ℕ) → length (drawn_lines count number x) ≡ count
unfolding drawn_lines
length_drawn zero number x = refl
length_drawn (suc count) number x = ap suc (length_drawn count (number + 1) (drawn (drawn x)))

pub length_script : (n : ℕ) → n < 2 ^ 32 → length (script_lines n) ≤ 2 ^ 33
unfolding script_lines
length_script n lt = simp (length-append, length_drawn) (omega arith)
