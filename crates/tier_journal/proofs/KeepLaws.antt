-- What a journal keeps.
use Rattle.std.proofs.Common.{◌≡◌, ◌⊎◌, ℕ, ◌+◌, ◌-◌, ◌^◌, ◌<◌, ◌≤◌, Bool, true, false, ◌&&◌, ◌||◌, ltb, List, [], ◌∷◌, ◌++◌, length, refl, sym, ap, subst, ◌∙◌, append_assoc, arith, inl, inr}
use Rattle.std.specs.List.{AllByRecursion, flat_map}
use Rattle.std.proofs.lemmas.Bool.{lt-ltb, ltb-true, ne_eqb}
use Rattle.std.proofs.lemmas.Grind.{flat_map-append}
use Rattle.std.proofs.lemmas.List.{append-nil, length-append, length-drop, map-append}
use Rattle.table_defs.specs.declared.definition.TableDef.{TableDef}
use Rattle.outside.specs.Holding.{Held, Slots}
use Rattle.outside.specs.Sites.{SiteState}
use Rattle.journal_entries.specs.declared.entry.Entry.{Entry}
use Rattle.journal_entries.specs.declared.standing.Standing.{Standing}
use Rattle.journal_entries.specs.Bodies.{beginning, behind_all, rises}
use Rattle.journal_entries.specs.Spelling.{entry_bytes}
use Rattle.journal_entries.proofs.BodyLaws.{some_bytes}
use Rattle.commit_journal.specs.declared.journal.Journal as commit
use Rattle.commit_journal.specs.Layout.{Gives}
use Rattle.commit_journal.specs.Resting.{AtRest, HasFlushed, MidFlush, Rested, gate_behind}
use Rattle.commit_journal.specs.Turning.{HasRenewed, MidRotation}
use Rattle.commit_journal.proofs.StandingLaws.{rest_standing}
use Rattle.cache_tier.specs.Journals.{Journal, JournalEntry, body_size, flushed_batch, flushed_with, is_full, next_behind, rotated}
use Rattle.cache_tier.specs.JournalSteps.{name_size}
use Rattle.tier_journal.specs.declared.batch.Batch.{Batch}
use Rattle.tier_journal.specs.declared.journal.TierJournal.{TierJournal}
use Rattle.tier_journal.specs.Batches.{Holds, batch_size}
use Rattle.tier_journal.specs.Keeping.{IsTooMuch, Keeps, KeepsOn, with_tail}
use Rattle.tier_journal.specs.Leaving.{GivesEntries, LeftByFlush, LeftByRotation}
use Rattle.tier_journal.specs.Writing.{HasTables, written, written_all}
use Rattle.tier_journal.proofs.Lists.{all_append, all_back, all_front}
use Rattle.tier_journal.proofs.SizeLaws.{body_is}
use Rattle.tier_journal.proofs.WrittenLaws.{all_grown, all_stay, last_next}

or_is : (a b : Bool) → (a || b) ≡ true → (a ≡ true) ⊎ (b ≡ true)
or_is true b h = inl refl
or_is false b h = inr h

or_left : (a b : Bool) → a ≡ true → (a || b) ≡ true
or_left a b h = rw h refl

or_right : (a b : Bool) → b ≡ true → (a || b) ≡ true
or_right true b h = refl
or_right false b h = h

-- ---- room

-- the bytes of the tail and of a batch behind it
bodies_are : (schema : List TableDef) (tail entries : List JournalEntry) → body_size (name_size schema) (tail ++ entries) ≡ length (flat_map entry_bytes (written_all schema tail)) + length (flat_map entry_bytes (written_all schema entries))
bodies_are schema tail entries =
    body_is schema (tail ++ entries)
    ∙ ap (λ (l : List Entry). length (flat_map entry_bytes l)) (map-append (written schema) tail entries)
    ∙ ap length (flat_map-append entry_bytes (written_all schema tail) (written_all schema entries))
    ∙ length-append (flat_map entry_bytes (written_all schema tail)) (flat_map entry_bytes (written_all schema entries))

tail_is : (j : commit.Journal) (slots : Slots) (flushed tail : List Entry) → AtRest j slots flushed tail → length (flat_map entry_bytes tail) ≡ length j.staged.items - 4
tail_is j slots flushed tail r = sym (ap length r.staged) ∙ length-drop 4 j.staged.items

module _ (schema : List TableDef) (t : TierJournal) (slots : Slots) (j : Journal) (version : ℕ) (b : Batch) (entries : List JournalEntry) (least : 4 ≤ length t.journal.staged.items) (k : Keeps schema t slots j) (h : Holds version schema b entries) where
  size_is : body_size (name_size schema) (j.tail ++ entries) ≡ (length t.journal.staged.items - 4) + batch_size b
  size_is =
      bodies_are schema j.tail entries
      ∙ ap (λ n. n + length (flat_map entry_bytes (written_all schema entries))) (tail_is t.journal slots (written_all schema j.flushed) (written_all schema j.tail) k.rests)
      ∙ ap (λ (l : List ℕ). (length t.journal.staged.items - 4) + length l) (sym h.spells.are)

  abbrev size : ℕ
  size = body_size (name_size schema) (j.tail ++ entries)

  abbrev length_with : ℕ
  length_with = j.written + 5 + size

  long_body : (2 ^ 24 + 4 < length t.journal.staged.items + batch_size b) → 2 ^ 24 < size
  long_body long = omega (arith, size_is, least, long)

  long_slot : (2 ^ 30 < t.journal.gate + (length t.journal.staged.items + batch_size b) + 2) → 2 ^ 30 < length_with
  long_slot long = omega (arith, size_is, least, long, k.written)

  body_long : 2 ^ 24 < size → (2 ^ 24 + 4 < length t.journal.staged.items + batch_size b)
  body_long long = omega (arith, size_is, least, long)

  slot_long : 2 ^ 30 < length_with → (2 ^ 30 < t.journal.gate + (length t.journal.staged.items + batch_size b) + 2)
  slot_long long = omega (arith, size_is, least, long, k.written)

  pub past_full : IsTooMuch t b → is_full (name_size schema) j entries ≡ true
  past_full (inl long) = or_left (ltb (2 ^ 24) size) (ltb (2 ^ 30) length_with) (lt-ltb (2 ^ 24) size (long_body long))
  past_full (inr long) = or_right (ltb (2 ^ 24) size) (ltb (2 ^ 30) length_with) (lt-ltb (2 ^ 30) length_with (long_slot long))

  pub full_past : is_full (name_size schema) j entries ≡ true → IsTooMuch t b
  full_past full = elim (or_is (ltb (2 ^ 24) size) (ltb (2 ^ 30) length_with) full) [
    | inl e ↦ inl (body_long (ltb-true (2 ^ 24) size e))
    | inr e ↦ inr (slot_long (ltb-true (2 ^ 30) length_with e))
  ]

-- ---- the tail

module _ (schema : List TableDef) (t t' : TierJournal) (slots : Slots) (j : Journal) (k : Keeps schema t slots j) where
  pub noted : (entries : List JournalEntry) → AllByRecursion (HasTables schema) entries → AtRest t'.journal slots (written_all schema j.flushed) (written_all schema j.tail ++ written_all schema entries)
      → t'.journal.gate ≡ t.journal.gate → t'.journal.generation ≡ t.journal.generation → Keeps schema t' slots (with_tail entries j)
  noted entries tables rests gate generation = record {
    kept = k.kept;
    rests = subst (λ (l : List Entry). AtRest t'.journal slots (written_all schema j.flushed) l) (sym (map-append (written schema) j.tail entries)) rests;
    written = k.written ∙ ap (λ n. n + 1) (sym gate);
    generation = k.generation ∙ sym generation;
    tables = subst (λ (l : List JournalEntry). AllByRecursion (HasTables schema) l) (append_assoc j.flushed j.tail entries) (all_append (HasTables schema) (j.flushed ++ j.tail) entries k.tables tables);
  }

  pub kept_still : AtRest t'.journal slots (written_all schema j.flushed) (written_all schema j.tail) → t'.journal.gate ≡ t.journal.gate → t'.journal.generation ≡ t.journal.generation → Keeps schema t' slots j
  kept_still rests gate generation = record {
    kept = k.kept;
    rests = rests;
    written = k.written ∙ ap (λ n. n + 1) (sym gate);
    generation = k.generation ∙ sym generation;
    tables = k.tables;
  }

-- ---- flushing

no_entries : (schema : List TableDef) (entries : List JournalEntry) → entries ≡ [] → length (flat_map entry_bytes (written_all schema entries)) ≡ 0
no_entries schema entries e = ap (λ (l : List JournalEntry). length (flat_map entry_bytes (written_all schema l))) e

some_entries : (schema : List TableDef) (e : JournalEntry) (entries : List JournalEntry) → 1 ≤ length (flat_map entry_bytes (written_all schema (e ∷ entries)))
some_entries schema e entries = omega (arith, some_bytes (written schema e), length-append (entry_bytes (written schema e)) (flat_map entry_bytes (written_all schema entries)))

gate_same : (j : commit.Journal) → length j.staged.items ≡ 4 → gate_behind j ≡ j.gate
gate_same j four = rw four refl

gate_later : (j : commit.Journal) → 4 < length j.staged.items → gate_behind j ≡ j.gate + length j.staged.items + 1
gate_later j more = rw (ne_eqb (length j.staged.items) 4 (λ (e : length j.staged.items ≡ 4). omega (arith, more, e))) refl

module _ {D : Type 0} (state : D → SiteState) (possible : D → ℕ → Held → Type 0) (d : D) (schema : List TableDef) (o : Held) (t t' : TierJournal) (j : Journal) (least : 4 ≤ length t.journal.staged.items)
    (k : Keeps schema t o.slots j) (r : Rested state possible d t'.journal o (written_all schema j.flushed ++ written_all schema j.tail) []) (f : HasFlushed t.journal t'.journal) where
  flush_batch : (batch : List JournalEntry) → j.tail ≡ batch → KeepsOn state possible d schema t' o (flushed_batch (name_size schema) batch j)
  flush_batch [] none =
      let size = tail_is t.journal o.slots (written_all schema j.flushed) (written_all schema j.tail) k.rests in
      let four : length t.journal.staged.items ≡ 4 = omega (arith, size, no_entries schema j.tail none, least) in
      let all : written_all schema j.flushed ++ written_all schema j.tail ≡ written_all schema j.flushed = ap (λ (l : List JournalEntry). written_all schema j.flushed ++ written_all schema l) none ∙ append-nil (written_all schema j.flushed) in
      let rests : AtRest t'.journal r.now.slots (written_all schema j.flushed) (written_all schema j.tail) =
      subst (λ (l : List JournalEntry). AtRest t'.journal r.now.slots (written_all schema j.flushed) (written_all schema l)) (sym none) (subst (λ (l : List Entry). AtRest t'.journal r.now.slots l []) all r.rest) in
      record {
        now = r.now;
        certain = r.certain;
        beside = r.beside;
        keeps = record { kept = k.kept; rests = rests; written = k.written ∙ ap (λ n. n + 1) (sym (f.gate ∙ gate_same t.journal four)); generation = k.generation ∙ sym f.generation; tables = k.tables };
      }
  flush_batch (e ∷ batch) are =
      let size = tail_is t.journal o.slots (written_all schema j.flushed) (written_all schema j.tail) k.rests in
      let body : body_size (name_size schema) (e ∷ batch) ≡ length t.journal.staged.items - 4 = body_is schema (e ∷ batch) ∙ ap (λ (l : List JournalEntry). length (flat_map entry_bytes (written_all schema l))) (sym are) ∙ size in
      let some : 1 ≤ length t.journal.staged.items - 4 = subst (λ n. 1 ≤ n) (sym (body_is schema (e ∷ batch)) ∙ body) (some_entries schema e batch) in
      let gate : t'.journal.gate ≡ t.journal.gate + length t.journal.staged.items + 1 = f.gate ∙ gate_later t.journal (omega (arith, some)) in
      let all : written_all schema j.flushed ++ written_all schema j.tail ≡ written_all schema (j.flushed ++ e ∷ batch) = ap (λ (l : List JournalEntry). written_all schema j.flushed ++ written_all schema l) are ∙ sym (map-append (written schema) j.flushed (e ∷ batch)) in
      record {
        now = r.now;
        certain = r.certain;
        beside = r.beside;
        keeps = record {
          kept = k.kept;
          rests = subst (λ (l : List Entry). AtRest t'.journal r.now.slots l []) all r.rest;
          written = omega (arith, body, gate, k.written, least, some);
          generation = k.generation ∙ sym f.generation;
          tables = subst (λ (l : List JournalEntry). AllByRecursion (HasTables schema) l) (ap (λ (l : List JournalEntry). j.flushed ++ l) are ∙ sym (append-nil (j.flushed ++ e ∷ batch))) k.tables;
        };
      }

  pub flush_kept : KeepsOn state possible d schema t' o (flushed_with (name_size schema) [] j)
  flush_kept = flush_batch (j.tail ++ []) (sym (append-nil j.tail))

-- what is noted and then flushed is flushed at once
empty_front : {X : Type 0} (xs ys : List X) → xs ++ ys ≡ [] → xs ≡ []
empty_front [] ys e = refl
empty_front (x ∷ xs) ys e = absurd cc

flush_all : (name : _) (j : Journal) (entries batch : List JournalEntry) → j.tail ++ entries ≡ batch → flushed_batch name batch (with_tail entries j) ≡ flushed_batch name batch j
flush_all name j entries [] e = ap (λ (l : List JournalEntry). record j { tail = l }) (e ∙ sym (empty_front j.tail entries e))
flush_all name j entries (x ∷ batch) e = refl

pub flush_noted : (schema : List TableDef) (j : Journal) (entries : List JournalEntry) → flushed_with (name_size schema) [] (with_tail entries j) ≡ flushed_with (name_size schema) entries j
flush_noted schema j entries =
    ap (λ (l : List JournalEntry). flushed_batch (name_size schema) l (with_tail entries j)) (append-nil (j.tail ++ entries))
    ∙ flush_all (name_size schema) j entries (j.tail ++ entries) refl

pub mid_flush : (schema : List TableDef) (o : Held) (j : Journal) (p : Held) → MidFlush o (written_all schema j.flushed) (written_all schema j.tail) p → LeftByFlush schema o j [] p
mid_flush schema o j p m =
    let all : written_all schema j.flushed ++ written_all schema j.tail ≡ written_all schema (j.flushed ++ (j.tail ++ [])) =
    sym (map-append (written schema) j.flushed j.tail) ∙ ap (λ (l : List JournalEntry). written_all schema (j.flushed ++ l)) (sym (append-nil j.tail)) in
    record { beside = m.beside; gives = elim m.gives [ inl g ↦ inl (record { gives = g; bytes = m.bytes }) | inr g ↦ inr (record { gives = subst (λ (l : List Entry). Gives p.slots l) all g; bytes = m.bytes }) ] }

pub mid_noted : (schema : List TableDef) (o : Held) (j : Journal) (entries : List JournalEntry) (p : Held) → LeftByFlush schema o (with_tail entries j) [] p → LeftByFlush schema o j entries p
mid_noted schema o j entries p m = record { beside = m.beside; gives = elim m.gives [ inl g ↦ inl g | inr g ↦ inr (subst (λ (l : List JournalEntry). GivesEntries schema p.slots (j.flushed ++ l)) (append-nil (j.tail ++ entries)) g) ] }

-- ---- rotations

pub mid_rotation : (schema : List TableDef) (o : Held) (j : Journal) (entries : List JournalEntry) (p : Held) → MidRotation o (written_all schema j.flushed) (written_all schema entries) p → LeftByRotation schema o j entries p
mid_rotation schema o j entries p m = record { beside = m.beside; gives = elim m.gives [ inl g ↦ inl (record { gives = g; bytes = m.bytes }) | inr g ↦ inr (record { gives = g; bytes = m.bytes }) ] }

pub rotate_kept : {D : Type 0} (state : D → SiteState) (possible : D → ℕ → Held → Type 0) (d : D) (schema : List TableDef) (o : Held) (t t' : TierJournal) (j : Journal) (b : Batch) (entries : List JournalEntry) → Keeps schema t o.slots j → Holds 2 schema b entries
    → Rested state possible d t'.journal o (written_all schema entries) [] → HasRenewed t.journal t'.journal (batch_size b) → KeepsOn state possible d schema t' o (rotated (name_size schema) entries j)
rotate_kept state possible d schema o t t' j b entries k h r n =
    let body : body_size (name_size schema) entries ≡ batch_size b = body_is schema entries ∙ ap length (sym h.spells.are) in
    record {
      now = r.now;
      certain = r.certain;
      beside = r.beside;
      keeps = record {
        kept = k.kept;
        rests = r.rest;
        written = omega (arith, body, n.gate);
        generation = ap (λ n. n + 1) k.generation ∙ sym n.generation;
        tables = all_append (HasTables schema) entries [] h.tables tt;
      };
    }

-- ---- a schema that has grown

pub kept_grown : (schema more : List TableDef) (t : TierJournal) (slots : Slots) (j : Journal) → Keeps schema t slots j → Keeps (schema ++ more) t slots j
kept_grown schema more t slots j k =
    let flushed = all_grown schema more j.flushed (all_front (HasTables schema) j.flushed j.tail k.tables) in
    let tail = all_grown schema more j.tail (all_back (HasTables schema) j.flushed j.tail k.tables) in
    record {
      kept = k.kept;
      rests = subst (λ (l : List Entry). AtRest t.journal slots (written_all (schema ++ more) j.flushed) l) (sym tail) (subst (λ (l : List Entry). AtRest t.journal slots l (written_all schema j.tail)) (sym flushed) k.rests);
      written = k.written;
      generation = k.generation;
      tables = all_stay schema more (j.flushed ++ j.tail) k.tables;
    }

-- ---- the next ticket

pub may_follow : (schema : List TableDef) (t : TierJournal) (slots : Slots) (j : Journal) (ticket : ℕ) → Keeps schema t slots j → next_behind (j.flushed ++ j.tail) ≤ ticket → ticket < 2 ^ 63 → rises t.journal.standing (record { 0 = ticket }) ≡ true
may_follow schema t slots j ticket k least small =
    let is : t.journal.standing ≡ behind_all beginning (written_all schema (j.flushed ++ j.tail)) =
    rest_standing t.journal slots (written_all schema j.flushed) (written_all schema j.tail) k.rests ∙ ap (λ (l : List Entry). behind_all beginning l) (sym (map-append (written schema) j.flushed j.tail)) in
    let last = last_next schema beginning 1 (j.flushed ++ j.tail) (omega arith) in
    let below : t.journal.standing.last < ticket = subst (λ (s : Standing). s.last < ticket) (sym is) (omega (arith, last, least)) in
    both (ltb t.journal.standing.last ticket) (ltb ticket (2 ^ 63)) (lt-ltb t.journal.standing.last ticket below) (lt-ltb ticket (2 ^ 63) small)
  where
    both : (a b : Bool) → a ≡ true → b ≡ true → (a && b) ≡ true
    both a b x y = rw (x, y) refl
