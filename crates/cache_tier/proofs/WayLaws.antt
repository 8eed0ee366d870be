-- What a crash may leave of a line whose parts come one after the other.
use Rattle.std.proofs.Common.{◌≡◌, inl, inr, ℕ, zero, suc, ◌≤◌, Bool, true, false, Option, Some, None, List, [], ◌∷◌, ◌++◌, length, take, length-append, append_assoc, refl, sym, ap, subst, ◌∙◌, arith}
use Rattle.table_state.specs.declared.operation.Op.{Op}
use Rattle.cache_tier.specs.declared.reply.Reply.{Reply}
use Rattle.cache_tier.specs.WayFacts.{EarlierOnTheWay, FlushLeads, IsLed, LaterOnTheWay, NoteLeads, RotateLeads, WaysGoOn}
use Rattle.cache_tier.specs.JournalWays.{Beginning, GoesOn, IsFront, IsOnTheWay, Leads, Renewal, beginning_in, beginning_of, first_of, given}
use Rattle.cache_tier.specs.JournalSteps.{FlushesKept, NotesKept, name_sizes}
use Rattle.cache_tier.specs.Journals.{Journal, JournalEntry, Stretch, Way, flushed_batch, on_the_way, passed_by}
use Rattle.cache_tier.specs.Rotations.{Broken, Kept, Renewed, Rotation, journal_after, renewed, slot_entries}
use Rattle.cache_tier.specs.Worlds.{OnlyWhere, Stage, World}

nil_behind : (xs : List JournalEntry) → xs ≡ xs ++ []
nil_behind [] = refl
nil_behind (x ∷ xs) = ap (λ ys. x ∷ ys) (nil_behind xs)

on_and_on : (a b c : Journal) → GoesOn a b → GoesOn b c → GoesOn a c
on_and_on a b c p q = record {
  kept = q.kept ∙ p.kept;
  slot = q.slot ∙ p.slot;
  more = p.more ++ q.more;
  grows = q.grows ∙ ap (λ x. x ++ q.more) p.grows ∙ append_assoc (given a) p.more q.more;
  flushed = omega (arith, p.flushed, q.flushed);
  way = q.way ∙ p.way;
}

pub stays : (a : Journal) → GoesOn a a
stays a = record { kept = refl; slot = refl; more = []; grows = nil_behind (given a); flushed = omega arith; way = refl }

-- a way that goes on began where it began
first_push : (flushed new : List JournalEntry) (until : ℕ) (past : List Stretch) → first_of (past ++ record { entries = flushed; until = until } ∷ []) new ≡ first_of past flushed
first_push flushed new until [] = refl
first_push flushed new until (s ∷ past) = refl

abbrev begun_with : Way → List JournalEntry → Beginning
begun_with way entries = record { since = way.since; from = way.from; entries = entries }

began : (flushed new : List JournalEntry) (until : ℕ) (way : Option Way) → beginning_in new (passed_by flushed until way) ≡ beginning_in flushed way
began flushed new until None = refl
began flushed new until (Some way) = ap (λ (e : List JournalEntry). Some (begun_with way e)) (first_push flushed new until way.past)

behind : (a b c : Journal) (other : List Renewal) → GoesOn a b → Leads b other c → Leads a other c
behind a b c [] p q = on_and_on a b c p q
behind a b c (r ∷ other) p q = (on_and_on a b r.before p q.0, q.1, q.2, q.3, q.4, q.5)

pub ways_go_on : WaysGoOn
ways_go_on a b c [] other p q = behind a b c other p q
ways_go_on a b c (r ∷ one) other p q = (p.0, p.1, p.2, p.3, p.4, ways_go_on r.begun b c one other p.5 q)

front_same : (n : ℕ) (xs ys : List JournalEntry) → take n xs ≡ take (length (take n xs)) (xs ++ ys)
front_same zero xs ys = refl
front_same (suc n) [] ys = refl
front_same (suc n) (x ∷ xs) ys = ap (λ zs. x ∷ zs) (front_same n xs ys)

-- a front of what was given is one of what is given later
front_later : (least all more entries : List JournalEntry) (later : List JournalEntry) → later ≡ all ++ more → IsFront least all entries → IsFront least later entries
front_later least all more entries later e f = record { count = length (take f.count all); is = f.is ∙ front_same f.count all more ∙ ap (take (length (take f.count all))) (sym e); flushed = f.flushed }

-- with all that the first had flushed
front_of_less : (least less all entries : List JournalEntry) → length less ≤ length least → IsFront least all entries → IsFront less all entries
front_of_less least less all entries e f = record { count = f.count; is = f.is; flushed = omega (arith, e, f.flushed) }

earlier_of : (a b c : Journal) (other : List Renewal) (entries : List JournalEntry) → GoesOn a b → Leads b other c → IsFront a.flushed (given b) entries → IsOnTheWay a other c entries
earlier_of a b c [] entries p q f = front_later a.flushed (given b) q.more entries (given c) q.grows f
earlier_of a b c (r ∷ other) entries p q f = inl (front_later a.flushed (given b) (q.0).more entries (given r.before) (q.0).grows f)

pub earlier_on_the_way : EarlierOnTheWay
earlier_on_the_way a b c [] other entries p q f = earlier_of a b c other entries p q f
earlier_on_the_way a b c (r ∷ one) other entries p q (inl f) = inl f
earlier_on_the_way a b c (r ∷ one) other entries p q (inr f) = inr (earlier_on_the_way r.begun b c one other entries p.5 q f)

later_of : (a b c : Journal) (other : List Renewal) (entries : List JournalEntry) → GoesOn a b → IsOnTheWay b other c entries → IsOnTheWay a other c entries
later_of a b c [] entries p f = front_of_less b.flushed a.flushed (given c) entries p.flushed f
later_of a b c (r ∷ other) entries p (inl f) = inl (front_of_less b.flushed a.flushed (given r.before) entries p.flushed f)
later_of a b c (r ∷ other) entries p (inr f) = inr f

pub later_on_the_way : LaterOnTheWay
later_on_the_way a b c [] other entries p q f = later_of a b c other entries p f
later_on_the_way a b c (r ∷ one) other entries p q f = inr (later_on_the_way r.begun b c one other entries p.5 q f)

-- a batch that is flushed, also an empty one
batch : (name : Op → ℕ) (until : ℕ) (j : Journal) (entries : List JournalEntry) → GoesOn j (on_the_way until j (flushed_batch name (j.tail ++ entries) j))
batch name until j entries = by (j.tail ++ entries) refl
  where
    by : (b : List JournalEntry) → j.tail ++ entries ≡ b → GoesOn j (on_the_way until j (flushed_batch name b j))
    by [] e = record { kept = refl; slot = refl; more = []; grows = nil_behind (given j); flushed = omega arith; way = began j.flushed j.flushed until j.way }
    by (x ∷ xs) e = record {
      kept = refl;
      slot = refl;
      more = entries;
      grows = sym (nil_behind (j.flushed ++ x ∷ xs)) ∙ ap (λ b. j.flushed ++ b) (sym e) ∙ sym (append_assoc j.flushed j.tail entries);
      flushed = omega (arith, length-append j.flushed (x ∷ xs));
      way = began j.flushed (j.flushed ++ x ∷ xs) until j.way;
    }

pub kept_flush_leads : (entries : List JournalEntry) (w w' : World) (stop : Option Reply) → FlushesKept entries w w' stop → IsLed w.journal w'.journal
kept_flush_leads entries w w' stop f = record { renewals = []; leads = subst (λ j. GoesOn w.journal j) (sym f.journal) (batch (name_sizes w) (length w.history) w.journal entries) }

-- a stage that is done where a journal is kept
where_kept : (kept : Bool) (stage : Stage) (w w' : World) (stop : Option Reply) → (stage w w' stop → IsLed w.journal w'.journal) → OnlyWhere kept stage w w' stop → IsLed w.journal w'.journal
where_kept true stage w w' stop leads f = leads f
where_kept false stage w w' stop leads f = record { renewals = []; leads = subst (λ (x : World). GoesOn w.journal x.journal) (sym f.0) (stays w.journal) }

pub flush_leads : FlushLeads
flush_leads entries w w' stop f = where_kept w.journal.kept (FlushesKept entries) w w' stop (kept_flush_leads entries w w' stop) f

pub kept_note_leads : (e : JournalEntry) (w w' : World) (stop : Option Reply) → NotesKept e w w' stop → IsLed w.journal w'.journal
kept_note_leads e w w' stop n = record { renewals = []; leads = subst (λ j. GoesOn w.journal j) (sym (ap (λ (x : World). x.journal) n.0)) (record { kept = refl; slot = refl; more = e ∷ []; grows = sym (append_assoc w.journal.flushed w.journal.tail (e ∷ [])); flushed = omega arith; way = refl }) }

pub note_leads : NoteLeads
note_leads e w w' stop n = where_kept w.journal.kept (NotesKept e) w w' stop (kept_note_leads e w w' stop) n

-- a slot that is begun anew
renewed_leads : (w : World) → IsLed w.journal (renewed w)
renewed_leads w = record { renewals = record { before = w.journal; begun = renewed w } ∷ []; leads = (stays w.journal, refl, refl, refl, began w.journal.flushed (slot_entries w.tier) (length w.history) w.journal.way, stays (renewed w)) }

pub rotate_leads : RotateLeads
rotate_leads w w' stop r = by r.result r.journal
  where
    by : (x : Rotation) → w'.journal ≡ journal_after x w → IsLed w.journal w'.journal
    by Renewed e = subst (λ j. IsLed w.journal j) (sym e) (renewed_leads w)
    by Kept e = subst (λ j. IsLed w.journal j) (sym e) (record { renewals = []; leads = stays w.journal })
    by Broken e = subst (λ j. IsLed w.journal j) (sym e) (renewed_leads w)

-- whether a journal is kept stays on each way
pub kept_on_way : (a b : Journal) (renewals : List Renewal) → Leads a renewals b → b.kept ≡ a.kept
kept_on_way a b [] p = p.kept
kept_on_way a b (r ∷ renewals) p = kept_on_way r.begun b renewals p.5 ∙ p.1 ∙ (p.0).kept

-- and where its way began
pub way_on_way : (a b : Journal) (renewals : List Renewal) → Leads a renewals b → beginning_of b ≡ beginning_of a
way_on_way a b [] p = p.way
way_on_way a b (r ∷ renewals) p = way_on_way r.begun b renewals p.5 ∙ p.4 ∙ (p.0).way
