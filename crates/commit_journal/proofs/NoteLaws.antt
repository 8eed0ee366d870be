-- Noting entries that bytes spell.
use Rattle.std.proofs.Common.{◌≡◌, ℕ, ◌+◌, ◌-◌, ◌≤◌, ◌^◌, List, [], ◌∷◌, ◌++◌, length, drop, refl, sym, ap, subst, ◌∙◌, append_assoc, arith}
use Rattle.std.specs.List.{AllByRecursion, flat_map}
use Rattle.std.proofs.lemmas.Grind.{flat_map-append}
use Rattle.std.proofs.lemmas.List.{append-nil, drop-append-le, length-append, length-drop, map_push}
use Rattle.outside.specs.Holding.{Slots}
use Rattle.journal_entries.specs.declared.entry.Entry.{Entry}
use Rattle.journal_entries.specs.declared.standing.Standing.{Standing}
use Rattle.journal_entries.specs.declared.standing.Ending.TheVariants.{Whole}
use Rattle.journal_entries.specs.Spelling.{entry_bytes, IsEntry}
use Rattle.journal_entries.specs.Bodies.{AllFollow, Body, behind, behind_all}
use Rattle.commit_journal.specs.declared.journal.Journal.{Journal}
use Rattle.commit_journal.specs.Layout.{Placed, entries_of}
use Rattle.commit_journal.specs.Resting.{AtRest, HasRoom, Spells}
use Rattle.commit_journal.proofs.TailLaws.{body_push}

-- several entries more at the end of a body
pub record Longer (version : ℕ) (s : Standing) (place : ℕ) (bytes : List ℕ) (placed : List Placed) (t : Standing) (entries : List Entry) : Type 0 where
  pub all : List Placed
  pub reads : Body version s place (bytes ++ flat_map entry_bytes entries) all (Whole (behind_all t entries))
  pub are : entries_of all ≡ entries_of placed ++ entries

body_more : (version : ℕ) (s : Standing) (place : ℕ) (bytes : List ℕ) (placed : List Placed) (t : Standing) (entries : List Entry) → Body version s place bytes placed (Whole t) → AllByRecursion (IsEntry version) entries → AllFollow t entries
    → Longer version s place bytes placed t entries
body_more version s place bytes placed t [] b are follow = record {
  all = placed;
  reads = subst (λ (l : List ℕ). Body version s place l placed (Whole t)) (sym (append-nil bytes)) b;
  are = sym (append-nil (entries_of placed));
}
body_more version s place bytes placed t (e ∷ entries) b are follow =
    let x = place + length bytes in
    let one = body_push version t e b refl are.0 follow.0 in
    let more = body_more version s place (bytes ++ entry_bytes e) (placed ++ (x, e) ∷ []) (behind t e) entries one are.1 follow.1 in
    record {
      all = more.all;
      reads = subst (λ (l : List ℕ). Body version s place l more.all (Whole (behind_all t (e ∷ entries)))) (append_assoc bytes (entry_bytes e) (flat_map entry_bytes entries)) more.reads;
      are = more.are ∙ ap (λ (l : List Entry). l ++ entries) (map_push (λ (p : Placed). p.1) placed (x, e)) ∙ append_assoc (entries_of placed) (e ∷ []) entries;
    }

pub noted_all : (j j' : Journal) (slots : Slots) (flushed tail entries : List Entry) (bytes : List ℕ) (t : Standing) → AtRest j slots flushed tail → Spells j.version j.standing bytes t entries → HasRoom j (length bytes)
    → j'.slot ≡ j.slot → j'.version ≡ j.version → j'.generation ≡ j.generation → j'.gate ≡ j.gate → j'.standing ≡ t → j'.staged.items ≡ j.staged.items ++ bytes → 4 ≤ length j.staged.items → AtRest j' slots flushed (tail ++ entries)
noted_all j j' slots flushed tail entries bytes t r h room slot version generation gate standing staged least =
    let body : flat_map entry_bytes (tail ++ entries) ≡ flat_map entry_bytes tail ++ flat_map entry_bytes entries = flat_map-append entry_bytes tail entries in
    let body' : flat_map entry_bytes (tail ++ entries) ≡ flat_map entry_bytes tail ++ bytes = body ∙ ap (λ (l : List ℕ). flat_map entry_bytes tail ++ l) (sym h.are) in
    let size : length (flat_map entry_bytes (tail ++ entries)) ≡ length (flat_map entry_bytes tail) + length bytes = ap length body' ∙ length-append (flat_map entry_bytes tail) bytes in
    let had : length (flat_map entry_bytes tail) ≡ length j.staged.items - 4 = sym (ap length r.staged) ∙ length-drop 4 j.staged.items in
    let batch : length j.staged.items + length bytes ≤ 2 ^ 24 + 4 = room.batch in
    let more = body_more j.version r.before (j.gate + 5) (flat_map entry_bytes tail) r.tail_placed j.standing entries r.tail_reads h.each h.order in
    record {
      front = r.front;
      gate = r.gate;
      junk = r.junk;
      placed = r.placed;
      before = r.before;
      tail_placed = more.all;
      bytes = rw slot r.bytes;
      shut = r.shut;
      place = gate ∙ r.place;
      is_front = rw (version, generation) r.is_front;
      flushed_are = r.flushed_are;
      other_dead = rw slot r.other_dead;
      other_some = rw slot r.other_some;
      staged = ap (λ (l : List ℕ). drop 4 l) staged ∙ drop-append-le 4 j.staged.items bytes least ∙ ap (λ (l : List ℕ). l ++ bytes) r.staged ∙ sym body';
      small = omega arith;
      tail_reads = rw (version, gate, standing, h.behind, body) more.reads;
      tail_are = more.are ∙ ap (λ (l : List Entry). l ++ entries) r.tail_are;
    }
