-- Bytes of a slot that is written or cut.
use Rattle.std.proofs.Common.{◌≡◌, ℕ, ◌+◌, ◌-◌, ◌≤◌, List, ◌++◌, length, take, drop, sym, ap, ◌∙◌, append_assoc, arith}
use Rattle.std.proofs.lemmas.List.{take_at, drop_at, length-append, length-take, length-drop}
use Rattle.outside.specs.Calls.{Cut, Torn, patched}

pub torn_within : (at : ℕ) (bytes old : List ℕ) → at ≤ length old → Torn at (length bytes) old (patched at bytes old)
torn_within at bytes old le =
    let front : length (take at old) ≡ at = omega (arith, length-take at old) in
    let both : length (take at old ++ bytes) ≡ at + length bytes = length-append (take at old) bytes ∙ ap (λ n. n + length bytes) front in
    let whole : length (patched at bytes old) ≡ at + (length bytes + length (drop (at + length bytes) old)) =
    length-append (take at old) (bytes ++ drop (at + length bytes) old) ∙ ap (λ n. n + length (bytes ++ drop (at + length bytes) old)) front ∙ ap (λ n. at + n) (length-append bytes (drop (at + length bytes) old)) in
    let tail : length (drop (at + length bytes) old) ≡ length old - (at + length bytes) = length-drop (at + length bytes) old in
    record {
      before = take_at (take at old) (bytes ++ drop (at + length bytes) old) at front;
      after = ap (λ l. drop (at + length bytes) l) (sym (append_assoc (take at old) bytes (drop (at + length bytes) old))) ∙ drop_at (take at old ++ bytes) (drop (at + length bytes) old) (at + length bytes) both;
      no_shorter = omega arith;
      no_longer = omega arith;
    }

pub cut_within : (n : ℕ) (old : List ℕ) → n ≤ length old → Cut n old (take n old)
cut_within n old le =
    let size : length (take n old) ≡ n = omega (arith, length-take n old) in
    record { no_shorter = omega arith; front = ap (λ k. take k old) size }
