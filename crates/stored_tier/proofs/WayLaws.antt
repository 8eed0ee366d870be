-- Points on the way of a journal, over calls of the bank.
use Rattle.std.proofs.Common.{◌≡◌, ◌≤◌, ◌+◌, ℕ, inl, inr, Option, Some, None, List, ◌++◌, length, take, sym, ap, subst, ◌∙◌, arith, append_assoc, length-append}
use Rattle.std.proofs.lemmas.List.{take-append-le}
use Rattle.std.proofs.lemmas.Option.{same_Some}
use Rattle.table_defs.specs.declared.definition.TableDef.{TableDef}
use Rattle.table_state.specs.declared.history.Entry.{Entry}
use Rattle.outside.specs.Calls.{Lengthens}
use Rattle.outside.specs.Holding.{Held, Slots}
use Rattle.outside.specs.Sites.{SiteState}
use Rattle.propagators.specs.Certainty.{StaysCertain}
use Rattle.cache_tier.specs.Journals.{Journal, JournalEntry, Way}
use Rattle.cache_tier.specs.Worlds.{World}
use Rattle.tier_journal.specs.declared.journal.TierJournal.{TierJournal}
use Rattle.tier_journal.specs.Keeping.{Keeps}
use Rattle.tier_journal.specs.Leaving.{GivesEntries}
use Rattle.tier_journal.specs.Ways.{HasBecome, IsOnWay, LeavesOnWay, LeavesPoints}
use Rattle.tier_journal.proofs.WayLaws.{flushed_gives, flushed_tables, point_later, point_now, take_whole}
use Rattle.stored_tier.specs.Sites.{IsAt}

-- a history that is longer
longer_length : (a b : List Entry) → Lengthens a b → length a ≤ length b
longer_length a b g = let sum : length b ≡ length a + length g.more = ap length g.is ∙ length-append a g.more in omega arith

le_then : {a b c : ℕ} → a ≤ b → b ≤ c → a ≤ c
le_then one two = omega arith

-- its fronts
longer_front : (a b : List Entry) (count : ℕ) → Lengthens a b → count ≤ length a → take count a ≡ take count b
longer_front a b count g le = sym (ap (take count) g.is ∙ take-append-le count a g.more le)

-- the world's history is what the site tells
pub at_history_of : (site : SiteState) (w : World) (o : Held) → IsAt site w → site.held ≡ Some o → w.history ≡ o.history
at_history_of site w o at told = at.history ∙ ap (λ (x : Held). x.history) (same_Some at.there o (sym at.told ∙ told))

become_more : (early schema longer : List TableDef) → HasBecome early schema → HasBecome schema longer → HasBecome early longer
become_more early schema longer one two = record {
  more = one.more ++ two.more;
  is = two.is ∙ ap (λ (l : List TableDef). l ++ two.more) one.is ∙ append_assoc early one.more two.more;
}

module _ {D : Type 0} (state : D → SiteState) (possible : D → ℕ → Held → Type 0) (d d' : D) (t : TierJournal) (w w' : World) (o : Held) (keeps : Keeps w.tier.schema t o.slots w.journal) (c : StaysCertain state possible d d' o)
    (same : w'.history ≡ c.now.history) (journal : w'.journal ≡ w.journal) (grows : HasBecome w.tier.schema w'.tier.schema) where
  flushed : w'.journal.flushed ≡ w.journal.flushed
  flushed = ap (λ (j : Journal). j.flushed) journal

  longer : length o.history ≤ length c.now.history
  longer = longer_length o.history c.now.history c.grows

  gives : (p : Held) → p.slots ≡ o.slots → GivesEntries w.tier.schema p.slots w.journal.flushed
  gives p is =
      subst (λ (s : Slots). GivesEntries w.tier.schema s w.journal.flushed) (sym is) (flushed_gives w.tier.schema t o.slots w.journal keeps)

  points : (way : Way) → LeavesPoints state possible d o w way → LeavesPoints state possible d' c.now w' way
  points way leaves = record {
    same = same;
    turned = le_then leaves.turned longer;
    leaves = λ k p lo hi h. subst (λ (f : List JournalEntry). IsOnWay w'.tier.schema way f c.now.history p) (sym flushed) (elim (c.leaves k p hi h) [
      | inl before ↦
          let q = leaves.leaves k p lo before.0 before.1 in
          record {
            entries = q.entries;
            count = q.count;
            point = point_later way.from way.past w.journal.flushed (length o.history) (length c.now.history) q.entries q.count longer q.point;
            within = le_then q.within longer;
            front = q.front ∙ longer_front o.history c.now.history q.count c.grows q.within;
            early = q.early;
            becomes = become_more q.early w.tier.schema w'.tier.schema q.becomes grows;
            tables = q.tables;
            gives = q.gives;
          }
      | inr way_there ↦
          let came : length o.history ≤ length p.history = longer_length o.history p.history way_there.1.came in
          let comes : length p.history ≤ length c.now.history = longer_length p.history c.now.history way_there.1.comes in
          record {
            entries = w.journal.flushed;
            count = length p.history;
            point = point_now way.from way.past w.journal.flushed (length c.now.history) (length p.history) (le_then leaves.turned came) comes;
            within = comes;
            front = sym (take_whole p.history) ∙ longer_front p.history c.now.history (length p.history) way_there.1.comes (omega arith);
            early = w.tier.schema;
            becomes = grows;
            tables = flushed_tables w.tier.schema t o.slots w.journal keeps;
            gives = gives p way_there.0;
          }
    ]);
  }

  by : (way : Option Way) → LeavesOnWay state possible d o w way → LeavesOnWay state possible d' c.now w' way
  by None leaves = tt
  by (Some way) leaves = points way leaves

  pub grown_leaves : LeavesOnWay state possible d o w w.journal.way → LeavesOnWay state possible d' c.now w' w'.journal.way
  grown_leaves leaves = subst (λ (j : Journal). LeavesOnWay state possible d' c.now w' j.way) (sym journal) (by w.journal.way leaves)
