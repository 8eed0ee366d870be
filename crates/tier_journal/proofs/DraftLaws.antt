-- Entries that are made ready, and the worlds whose journal they are for.
use Rattle.std.proofs.Common.{◌≡◌, ℕ, Bool, true, false, ◌&&◌, Option, Some, None, List, [], ◌∷◌, refl, sym, ap, ◌∙◌, inl, inr, arith}
use Rattle.std.specs.Prelude.{Result, Ok, Err}
use Rattle.std.specs.Result.{IfOk}
use Rattle.table_defs.specs.declared.definition.TableDef.{TableDef}
use Rattle.outside.specs.Holding.{Held}
use Rattle.outside.specs.Sites.{SiteState}
use Rattle.journal_entries.specs.Spelling.{IsEntry}
use Rattle.cache_tier.specs.Journals.{JournalEntry, is_full}
use Rattle.cache_tier.specs.JournalSteps.{journal_full, name_sizes}
use Rattle.cache_tier.specs.Worlds.{World}
use Rattle.tier_journal.specs.declared.batch.Batch.{Batch}
use Rattle.tier_journal.specs.declared.journal.TierJournal.{TierJournal}
use Rattle.tier_journal.specs.Batches.{Adds, Holds, IsEmpty}
use Rattle.tier_journal.specs.Keeping.{HasRoomFor, HasSame, IsBehind, IsTooMuch, standing_in}
use Rattle.tier_journal.specs.Writing.{written}
use Rattle.tier_journal.proofs.KeepLaws.{full_past, past_full}
use Rattle.tier_journal.specs.declared.draft.Draft.{Draft}
use Rattle.tier_journal.specs.declared.draft.Draft.TheVariants.{Fits, Full, Unkept}
use Rattle.tier_journal.specs.Drafts.{FillsIn, IsDraftOf, IsPlaced, StaysKept, is_full_draft}
use Rattle.tier_journal.specs.KeptOver.{IsOver, KeepsOver}

-- a batch without entries has none
holds_none : (schema : List TableDef) (b : Batch) (t : TierJournal) → IsEmpty b (standing_in t) → Holds 2 schema b []
holds_none schema b t e = record {
  spells = record { are = e.bytes; each = tt; order = tt; behind = e.standing ∙ sym e.begins };
  tables = tt;
}

-- and the one that is put into it
pub one_entry : (schema : List TableDef) (t : TierJournal) (b new : Batch) (x : JournalEntry) → IsEmpty b (standing_in t) → Adds schema b new x → IsEntry 2 (written schema x) → Holds 2 schema new (x ∷ [])
one_entry schema t b new x e adds is = adds.holds 2 [] is (holds_none schema b t e)

pub one_place : (schema : List TableDef) (t : TierJournal) (b new : Batch) (x : JournalEntry) → IsEmpty b (standing_in t) → Adds schema b new x → IsBehind t new
one_place schema t b new x e adds = adds.begins ∙ e.begins

-- only room came: what was too much still is
pub much_still : (old new : TierJournal) (b : Batch) → HasSame old new → IsTooMuch old b → IsTooMuch new b
much_still old new b same (inl long) =
    let tail = same.tail in
    let one = old.journal.least in
    let two = new.journal.least in
    inl (omega (arith, tail, one, two, long))
much_still old new b same (inr long) =
    let tail = same.tail in
    let slot = same.slot in
    let one = old.journal.least in
    let two = new.journal.least in
    inr (omega (arith, tail, slot, one, two, long))

-- what was made ready for a journal is ready for one to which only room came
pub draft_still : (schema : List TableDef) (old new : Option TierJournal) (draft : Draft) (e : JournalEntry) → StaysKept old new → ((b : Batch) → draft ≡ Fits b → ⊥) → IsDraftOf schema old draft e → IsDraftOf schema new draft e
draft_still schema None None draft e kept none is = is
draft_still schema None (Some t) draft e kept none is = absurd kept
draft_still schema (Some t) None draft e kept none is = absurd kept
draft_still schema (Some t) (Some new) Unkept e kept none is = absurd is
draft_still schema (Some t) (Some new) (Fits b) e kept none is = absurd (none b refl)
draft_still schema (Some t) (Some new) Full e kept none is = record { batch = is.batch; holds = is.holds; much = much_still t new is.batch kept.same is.much }

-- an entry that was made ready has its place
pub placed_so : (schema : List TableDef) (k : Option TierJournal) (draft : Draft) (e : JournalEntry) → IsDraftOf schema k draft e → IsPlaced k draft
placed_so schema None Unkept e is = tt
placed_so schema None (Fits b) e is = is
placed_so schema None Full e is = is
placed_so schema (Some t) Unkept e is = is
placed_so schema (Some t) (Fits b) e is = (is.room, is.place)
placed_so schema (Some t) Full e is = tt

-- of a journal over a disk: whether it is full for the entry
not_much : (t : TierJournal) (b : Batch) → HasRoomFor t b → IsTooMuch t b → ⊥
not_much t b room (inl long) = let most = room.batch in omega (arith, most, long)
not_much t b room (inr long) = let most = room.slot in omega (arith, most, long)

not_true : (b : Bool) → (b ≡ true → ⊥) → b ≡ false
not_true true never = absurd (never refl)
not_true false never = refl

full_when : {D : Type 0} (state : D → SiteState) (possible : D → ℕ → Held → Type 0) (d : D) (t : TierJournal) (w : World) (draft : Draft) (e : JournalEntry) → IsOver state possible d t w → IsDraftOf w.tier.schema (Some t) draft e → is_full (name_sizes w) w.journal (e ∷ []) ≡ is_full_draft draft
full_when state possible d t w Unkept e over is = absurd is
full_when state possible d t w (Fits b) e over is =
    not_true (is_full (name_sizes w) w.journal (e ∷ []))
    (λ full. not_much t b is.room (full_past w.tier.schema t over.there.slots w.journal 2 b (e ∷ []) t.journal.least over.keeps is.holds full))
full_when state possible d t w Full e over is =
    past_full w.tier.schema t over.there.slots w.journal 2 is.batch (e ∷ []) t.journal.least over.keeps is.holds is.much

pub full_so : {D : Type 0} (state : D → SiteState) (possible : D → ℕ → Held → Type 0) (d : D) (k : Option TierJournal) (w : World) (draft : Draft) (e : JournalEntry) → KeepsOver state possible d k w → IsDraftOf w.tier.schema k draft e → journal_full w (e ∷ []) ≡ is_full_draft draft
full_so state possible d None w Unkept e over is = ap (λ b. b && is_full (name_sizes w) w.journal (e ∷ [])) over
full_so state possible d None w (Fits b) e over is = absurd is
full_so state possible d None w Full e over is = absurd is
full_so state possible d (Some t) w draft e over is = ap (λ b. b && is_full (name_sizes w) w.journal (e ∷ [])) over.keeps.kept ∙ full_when state possible d t w draft e over is

-- what is made ready of a batch
pub drafts : (schema : List TableDef) (t new : TierJournal) (b batch : Batch) (draft : Draft) (e : JournalEntry) → FillsIn t new batch draft → IsEmpty b (standing_in t) → Adds schema b batch e → IsEntry 2 (written schema e) → IsDraftOf schema (Some new) draft e
drafts schema t new b batch draft e fills empty adds is = fills schema e (one_place schema t b batch e empty adds) (one_entry schema t b batch e empty adds is)

pub if_ok : {E : Type 0} (r : Result Draft E) (P Q : Draft → Type 0) → ((x : Draft) → P x → Q x) → IfOk r P → IfOk r Q
if_ok (Ok x) P Q so is = so x is
if_ok (Err e) P Q so is = tt
