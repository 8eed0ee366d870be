-- Laws of a site in memory.

use Rattle.std.specs.Prelude.{◌≡◌, Some, List, [], ◌∷◌, drop, length, take, unwrap_or, refl}
use Rattle.std.proofs.Common.{sym, ap, subst, ◌∙◌}
use Rattle.outside.specs.Holding.{Held}
use Rattle.memory_disk.specs.DiskLaws.{possible_law as disk_possible_law, take_all}
use Rattle.memory_disk.specs.Possible.{held_of as disk_held, possible_of as disk_possible}
use Rattle.backing_gate.specs.Marks.{least, mark_at}
use Rattle.backing_gate.specs.Memory.{MemoryState, alone, held_of, now_of, possible_of, then_of}
use Rattle.backing_gate.specs.declared.mark.Mark.{Mark}

drop_length : (past : List Mark) → drop (length past) past ≡ []
drop_length [] = refl
drop_length (mark ∷ past) = drop_length past

-- at the present moment it is as far as it is now
pub at_present : (past : List Mark) (now : Mark) → mark_at past now (length past) ≡ now
at_present past now = ap (λ (marks : List Mark). least marks now) (drop_length past)

same_held : (a b : Held) → Some a ≡ Some b → a ≡ b
same_held a b e = ap (λ o. unwrap_or o a) e

pub all_now : (d : MemoryState) → take (then_of d (length d.past)).entries d.history ≡ d.history
all_now d = ap (λ (mark : Mark). take mark.entries d.history) (at_present d.past (now_of d)) ∙ take_all d.history

-- what is kept beside the slots is certain now
pub certain_law : (d : MemoryState) (o p : Held) → Some (held_of d) ≡ Some o → possible_of d (length d.past) p
    → p.history ≡ o.history
certain_law d o p e h = h.history ∙ all_now d ∙ ap (λ x. x.history) (same_held (held_of d) o e)

-- what is held is possible now
pub possible_now : (d : MemoryState) → possible_of d (length d.past) (held_of d)
possible_now d = record {
  slots =
      subst (λ (mark : Mark). disk_possible d.disk mark.calls (alone (held_of d))) (sym (at_present d.past (now_of d)))
      (disk_possible_law d.disk (disk_held d.disk) refl);
  history = sym (all_now d);
}

pub possible_law : (d : MemoryState) (o : Held) → Some (held_of d) ≡ Some o → possible_of d (length d.past) o
possible_law d o e = subst (λ (x : Held). possible_of d (length d.past) x) (same_held (held_of d) o e) (possible_now d)
