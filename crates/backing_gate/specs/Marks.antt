-- How far a site in memory was at its moments. (This project's rule for sites in memory.)

use Rattle.std.specs.Prelude.{ℕ, min, List, [], ◌∷◌, drop}
use Rattle.backing_gate.specs.declared.mark.Mark.{Mark}

-- not further than either of them
abbrev pub lesser : Mark → Mark → Mark
lesser a b = record { calls = min a.calls b.calls; entries = min a.entries b.entries }

-- not further than any of these, nor than now
abbrev pub least : List Mark → Mark → Mark
least [] now = now
least (mark ∷ marks) now = lesser mark (least marks now)

-- How far it was at a moment: as its mark says. Neither the disk nor the history ever goes back, so that is not further
-- than any mark behind it.
abbrev pub mark_at : List Mark → Mark → ℕ → Mark
mark_at past now moment = least (drop moment past) now
