-- A body that is put behind the entries as one batch.
use Rattle.std.proofs.Common.{◌≡◌, ℕ, ◌+◌, ◌≤◌, ◌^◌, List, [], ◌++◌, length, drop, refl, ap, subst, ◌∙◌, inl}
use Rattle.std.specs.List.{flat_map}
use Rattle.std.proofs.lemmas.List.{drop-append-le}
use Rattle.outside.specs.Calls.{Certain, Leaves}
use Rattle.outside.specs.Sites.{SiteState}
use Rattle.outside.specs.Holding.{Held, Slots}
use Rattle.outside.proofs.Moments.{at_once}
use Rattle.journal_entries.specs.declared.entry.Entry.{Entry}
use Rattle.journal_entries.specs.declared.standing.Standing.{Standing}
use Rattle.journal_entries.specs.declared.standing.Ending.{Ending}
use Rattle.journal_entries.specs.declared.standing.Ending.TheVariants.{Whole}
use Rattle.journal_entries.specs.Spelling.{entry_bytes}
use Rattle.journal_entries.specs.Bodies.{Body, ends, stops, goes}
use Rattle.commit_journal.specs.declared.journal.Journal.{Journal}
use Rattle.commit_journal.specs.Layout.{Placed, entries_of}
use Rattle.commit_journal.specs.Resting.{AtRest, MidFlush}
use Rattle.commit_journal.proofs.OneReading.{one_standing}
use Rattle.commit_journal.proofs.TailLaws.{rest_bytes, rest_gives}

-- a body that reads is its entries' spelling
pub body_spells : {version : ℕ} {s : Standing} {place : ℕ} {bytes : List ℕ} {placed : List Placed} {ending : Ending} (t : Standing) → Body version s place bytes placed ending → ending ≡ Whole t → bytes ≡ flat_map entry_bytes (entries_of placed)
body_spells t ends e = refl
body_spells t (stops some none) e = absurd cc
body_spells t (goes x rest is allowed same more) e = same ∙ ap (λ (l : List ℕ). entry_bytes x ++ l) (body_spells t more e)

module _ (j j' : Journal) (slots : Slots) (flushed : List Entry) (r : AtRest j slots flushed []) (body : List ℕ) (placed : List Placed) (t : Standing) (reads : Body j.version j.standing (j.gate + 5) body placed (Whole t)) where
  same_standing : j.standing ≡ r.before
  same_standing = one_standing j.version r.before r.before (j.gate + 5) [] r.tail_placed [] (Whole j.standing) j.standing r.before refl r.tail_reads refl ends

  spells : body ≡ flat_map entry_bytes (entries_of placed)
  spells = body_spells t reads refl

  pub staged_rest : j'.slot ≡ j.slot → j'.version ≡ j.version → j'.generation ≡ j.generation → j'.gate ≡ j.gate → j'.standing ≡ t → j'.staged.items ≡ j.staged.items ++ body → 4 ≤ length j.staged.items → length body ≤ 2 ^ 24
      → AtRest j' slots flushed (entries_of placed)
  staged_rest slot version generation gate standing staged least small =
      let reads' : Body j.version r.before (j.gate + 5) (flat_map entry_bytes (entries_of placed)) placed (Whole t) =
      subst (λ (s : Standing). Body j.version s (j.gate + 5) (flat_map entry_bytes (entries_of placed)) placed (Whole t)) same_standing (subst (λ (l : List ℕ). Body j.version j.standing (j.gate + 5) l placed (Whole t)) spells reads) in
      record {
        front = r.front;
        gate = r.gate;
        junk = r.junk;
        placed = r.placed;
        before = r.before;
        tail_placed = placed;
        bytes = rw slot r.bytes;
        shut = r.shut;
        place = gate ∙ r.place;
        is_front = rw (version, generation) r.is_front;
        flushed_are = r.flushed_are;
        other_dead = rw slot r.other_dead;
        other_some = rw slot r.other_some;
        staged = ap (λ (l : List ℕ). drop 4 l) staged ∙ drop-append-le 4 j.staged.items body least ∙ ap (λ (l : List ℕ). l ++ body) r.staged ∙ spells;
        small = subst (λ (l : List ℕ). length l ≤ 2 ^ 24) spells small;
        tail_reads = rw (version, gate, standing) reads';
        tail_are = refl;
      }

-- nothing was done yet
pub quiet_append : {D : Type 0} (state : D → SiteState) (possible : D → ℕ → Held → Type 0) (a : D) (j : Journal) (o : Held) (flushed others : List Entry) → Certain state possible a o → AtRest j o.slots flushed [] → Leaves state possible a a (MidFlush o flushed others)
quiet_append state possible a j o flushed others h r = at_once state possible a (MidFlush o flushed others) (λ p here.
    let same : p ≡ o = h.only p here in
    record { beside = ap (λ (x : Held). x.history) same; bytes = rw same (rest_bytes j o.slots flushed [] r); gives = inl (rw same (rest_gives j o.slots flushed [] r)) })
