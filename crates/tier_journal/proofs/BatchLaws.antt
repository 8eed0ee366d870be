-- An entry behind those of a batch.
use Rattle.std.proofs.Common.{◌≡◌, ℕ, true, List, [], ◌∷◌, ◌++◌, sym, ap, subst, ◌∙◌, append_assoc}
use Rattle.std.specs.List.{flat_map}
use Rattle.std.proofs.lemmas.Grind.{flat_map-append}
use Rattle.std.proofs.lemmas.List.{append-nil, map-append}
use Rattle.table_defs.specs.declared.definition.TableDef.{TableDef}
use Rattle.journal_entries.specs.declared.entry.Entry.{Entry}
use Rattle.journal_entries.specs.declared.standing.Standing.{Standing}
use Rattle.journal_entries.specs.Bodies.{AllFollow, behind, behind_all, follows}
use Rattle.journal_entries.specs.Spelling.{entry_bytes, IsEntry}
use Rattle.journal_entries.proofs.BodyLaws.{behind_append}
use Rattle.commit_journal.specs.Resting.{Spells}
use Rattle.cache_tier.specs.Journals.{JournalEntry}
use Rattle.tier_journal.specs.declared.batch.Batch.{Batch}
use Rattle.tier_journal.specs.Batches.{Adds, Holds}
use Rattle.tier_journal.specs.Writing.{HasTables, written, written_all}
use Rattle.tier_journal.proofs.Lists.{all_append}

follow_push : (s : Standing) (entries : List Entry) (e : Entry) → AllFollow s entries → follows (behind_all s entries) e ≡ true → AllFollow s (entries ++ e ∷ [])
follow_push s [] e h f = (f, tt)
follow_push s (x ∷ entries) e h f = (h.0, follow_push (behind s x) entries e h.1 f)

spells_push : (version : ℕ) (s : Standing) (bytes : List ℕ) (t : Standing) (entries : List Entry) (e : Entry) → Spells version s bytes t entries → IsEntry version e → follows t e ≡ true
    → Spells version s (bytes ++ entry_bytes e) (behind t e) (entries ++ e ∷ [])
spells_push version s bytes t entries e h is f = record {
  are = ap (λ l. l ++ entry_bytes e) h.are ∙ ap (λ l. flat_map entry_bytes entries ++ l) (sym (append-nil (entry_bytes e))) ∙ sym (flat_map-append entry_bytes entries (e ∷ []));
  each = all_append (IsEntry version) entries (e ∷ []) h.each (is, tt);
  order = follow_push s entries e h.order (subst (λ (x : Standing). follows x e ≡ true) h.behind f);
  behind = ap (λ (x : Standing). behind x e) h.behind ∙ sym (behind_append s entries (e ∷ []));
}

-- four parts, one behind the other
pub four_parts : (x a b c d t n f : List ℕ) (tag : ℕ) → a ≡ x ++ tag ∷ [] → b ≡ a ++ t → c ≡ b ++ n → d ≡ c ++ f → d ≡ x ++ tag ∷ (t ++ (n ++ f))
four_parts x a b c d t n f tag one two three four =
    four ∙ ap (λ l. l ++ f) (three ∙ ap (λ l. l ++ n) (two ∙ ap (λ l. l ++ t) one))
    ∙ append_assoc ((x ++ tag ∷ []) ++ t) n f ∙ append_assoc (x ++ tag ∷ []) t (n ++ f) ∙ append_assoc x (tag ∷ []) (t ++ (n ++ f))

pub added : (schema : List TableDef) (old new : Batch) (e : JournalEntry) → HasTables schema e → follows old.standing (written schema e) ≡ true → new.begins ≡ old.begins → new.standing ≡ behind old.standing (written schema e)
    → new.bytes.items ≡ old.bytes.items ++ entry_bytes (written schema e) → Adds schema old new e
added schema old new e tables f begins standing bytes = record {
  begins = begins;
  standing = standing;
  holds = λ version entries is h.
      let one = spells_push version old.begins old.bytes.items old.standing (written_all schema entries) (written schema e) h.spells is f in
      let two : Spells version old.begins (old.bytes.items ++ entry_bytes (written schema e)) (behind old.standing (written schema e)) (written_all schema (entries ++ e ∷ [])) =
      subst (λ (l : List Entry). Spells version old.begins (old.bytes.items ++ entry_bytes (written schema e)) (behind old.standing (written schema e)) l) (sym (map-append (written schema) entries (e ∷ []))) one in
      record { spells = rw (begins, standing, bytes) two; tables = all_append (HasTables schema) entries (e ∷ []) h.tables (tables, tt) };
}

-- the batch's bytes, behind this standing
pub spells_as : (version : ℕ) (schema : List TableDef) (b : Batch) (entries : List JournalEntry) → Holds version schema b entries → (s : Standing) → b.begins ≡ s → (bytes : List ℕ) → bytes ≡ b.bytes.items
    → Spells version s bytes b.standing (written_all schema entries)
spells_as version schema b entries h s begins bytes is =
    subst (λ (x : Standing). Spells version x bytes b.standing (written_all schema entries)) begins
    (subst (λ (l : List ℕ). Spells version b.begins l b.standing (written_all schema entries)) (sym is) h.spells)
