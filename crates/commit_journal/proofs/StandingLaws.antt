-- The standing behind what a slot has.
use Rattle.std.proofs.Common.{◌≡◌, ℕ, List, [], ◌∷◌, ◌++◌, length, refl, sym, ap, ◌∙◌}
use Rattle.std.proofs.lemmas.List.{append-nil, map-append}
use Rattle.outside.specs.Holding.{Slots}
use Rattle.journal_entries.specs.declared.entry.Entry.{Entry}
use Rattle.journal_entries.specs.declared.standing.Standing.{Standing}
use Rattle.journal_entries.specs.Bodies.{beginning, behind_all}
use Rattle.journal_entries.proofs.BodyLaws.{behind_append, body_standing}
use Rattle.commit_journal.specs.declared.journal.Journal.{Journal}
use Rattle.commit_journal.specs.Layout.{Batches, closed, cut, broken, opened, Outcome, Closed, Placed, entries_of}
use Rattle.commit_journal.specs.Resting.{AtRest}

closed_same : {p q : ℕ} {s t : Standing} → Closed p s ≡ Closed q t → t ≡ s
closed_same e = cc

batches_standing : {version : ℕ} {s : Standing} {place : ℕ} {bytes : List ℕ} {placed : List Placed} {outcome : Outcome} (last : ℕ) (t : Standing) → Batches version s place bytes placed outcome → outcome ≡ Closed last t → t ≡ behind_all s (entries_of placed)
batches_standing last t (closed gate junk is shut) e = closed_same e
batches_standing last t (cut rest is none) e = absurd cc
batches_standing last t (broken rest body more at is batch reads) e = absurd cc
batches_standing {s = s} last t (opened rest body more u entries others is batch reads next) e =
    batches_standing last t next e ∙ ap (λ (x : Standing). behind_all x (entries_of others)) (body_standing reads refl)
    ∙ sym (behind_append s (entries_of entries) (entries_of others)) ∙ ap (λ (l : List Entry). behind_all s l) (sym (map-append (λ p. p.1) entries others))

pub rest_standing : (j : Journal) (slots : Slots) (flushed tail : List Entry) → AtRest j slots flushed tail → j.standing ≡ behind_all beginning (flushed ++ tail)
rest_standing j slots flushed tail r =
    let front = batches_standing (length r.front) r.before (r.is_front.onward (r.gate ∷ r.junk) [] (Closed (length r.front) r.before) (closed r.gate r.junk refl r.shut)) refl in
    let before : r.before ≡ behind_all beginning flushed = front ∙ ap (λ (l : List Placed). behind_all beginning (entries_of l)) (append-nil r.placed) ∙ ap (λ (l : List Entry). behind_all beginning l) r.flushed_are in
    body_standing r.tail_reads refl ∙ ap (λ (l : List Entry). behind_all r.before l) r.tail_are ∙ ap (λ (s : Standing). behind_all s tail) before ∙ sym (behind_append beginning flushed tail)
