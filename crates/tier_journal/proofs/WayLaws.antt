-- Points on the way of a journal, over what writes to it.
use Rattle.std.proofs.Common.{◌≡◌, ℕ, ◌≤◌, false, inl, inr, Option, Some, None, List, [], ◌∷◌, ◌++◌, length, take, refl, sym, ap, subst, ◌∙◌, arith, append-nil, append_assoc}
use Rattle.std.specs.List.{AllByRecursion}
use Rattle.std.proofs.lemmas.Bool.{cases_lt}
use Rattle.std.proofs.lemmas.Option.{same_Some}
use Rattle.table_defs.specs.declared.definition.TableDef.{TableDef}
use Rattle.table_state.specs.declared.history.Entry.{Entry}
use Rattle.outside.specs.Calls.{Certain, Leaves}
use Rattle.outside.specs.Holding.{Held, Slots}
use Rattle.outside.specs.Sites.{SiteState}
use Rattle.cache_tier.specs.Journals.{Journal, JournalEntry, Stretch, Way, passed_by}
use Rattle.cache_tier.specs.WayPoints.{IsPoint, turned_at}
use Rattle.cache_tier.specs.Worlds.{World}
use Rattle.commit_journal.proofs.TailLaws.{rest_bytes, rest_gives}
use Rattle.cache_tier.specs.declared.reply.Reply.{Reply}
use Rattle.tier_journal.proofs.Lists.{all_append}
use Rattle.tier_journal.specs.declared.journal.TierJournal.{TierJournal}
use Rattle.tier_journal.specs.Keeping.{Keeps}
use Rattle.tier_journal.specs.Leaving.{GivesEither, GivesEntries}
use Rattle.tier_journal.specs.Writing.{HasTables, written_all}
use Rattle.tier_journal.specs.Beginning.{WaysMayBegin, begun_here}
use Rattle.tier_journal.specs.KeptOver.{IsOver, KeepsOver, KeepsUnlessBroken, LeavesOver, TellsSame, is_broken}
use Rattle.tier_journal.specs.Ways.{HasBecome, IsOnWay, LeavesOnWay, LeavesPoints}

abbrev pub stretch_of : List JournalEntry → ℕ → Stretch
stretch_of entries until = record { entries = entries; until = until }

-- the history may get longer
pub point_later : (from : ℕ) (past : List Stretch) (flushed : List JournalEntry) (end later : ℕ) (entries : List JournalEntry) (count : ℕ) → end ≤ later → IsPoint from past flushed end entries count → IsPoint from past flushed later entries count
point_later from [] flushed end later entries count le p = let hi : count ≤ end = p.1 in (p.0, omega arith, p.2)
point_later from (s ∷ past) flushed end later entries count le (inl p) = inl p
point_later from (s ∷ past) flushed end later entries count le (inr p) = inr (point_later s.until past flushed end later entries count le p)

-- what is flushed now
pub point_now : (from : ℕ) (past : List Stretch) (flushed : List JournalEntry) (end count : ℕ) → turned_at from past ≤ count → count ≤ end → IsPoint from past flushed end flushed count
point_now from [] flushed end count lo hi = (lo, hi, refl)
point_now from (s ∷ past) flushed end count lo hi = inr (point_now s.until past flushed end count lo hi)

-- once something else is flushed
pub point_turned : (from : ℕ) (past : List Stretch) (flushed new : List JournalEntry) (until end : ℕ) (entries : List JournalEntry) (count : ℕ) → IsPoint from past flushed until entries count → IsPoint from (past ++ stretch_of flushed until ∷ []) new end entries count
point_turned from [] flushed new until end entries count p = inl p
point_turned from (s ∷ past) flushed new until end entries count (inl p) = inl p
point_turned from (s ∷ past) flushed new until end entries count (inr p) = inr (point_turned s.until past flushed new until end entries count p)

pub turned_push : (from : ℕ) (past : List Stretch) (s : Stretch) → turned_at from (past ++ s ∷ []) ≡ s.until
turned_push from [] s = refl
turned_push from (x ∷ past) s = turned_push x.until past s

pub take_whole : {X : Type 0} (xs : List X) → take (length xs) xs ≡ xs
take_whole [] = refl
take_whole (x ∷ xs) = ap (λ l. x ∷ l) (take_whole xs)

-- what is kept is given
pub flushed_gives : (schema : List TableDef) (t : TierJournal) (slots : Slots) (j : Journal) → Keeps schema t slots j → GivesEntries schema slots j.flushed
flushed_gives schema t slots j k = record {
  gives = rest_gives t.journal slots (written_all schema j.flushed) (written_all schema j.tail) k.rests;
  bytes = rest_bytes t.journal slots (written_all schema j.flushed) (written_all schema j.tail) k.rests;
}

front_tables : (schema : List TableDef) (xs ys : List JournalEntry) → AllByRecursion (HasTables schema) (xs ++ ys) → AllByRecursion (HasTables schema) xs
front_tables schema [] ys all = tt
front_tables schema (x ∷ xs) ys all = (all.0, front_tables schema xs ys all.1)

-- and its tables are the schema's
pub flushed_tables : (schema : List TableDef) (t : TierJournal) (slots : Slots) (j : Journal) → Keeps schema t slots j → AllByRecursion (HasTables schema) j.flushed
flushed_tables schema t slots j k = front_tables schema j.flushed j.tail k.tables

-- so are those of the tail, and of entries behind it
pub with_batch : (schema : List TableDef) (t : TierJournal) (slots : Slots) (j : Journal) (entries : List JournalEntry) → Keeps schema t slots j → AllByRecursion (HasTables schema) entries → AllByRecursion (HasTables schema) (j.flushed ++ (j.tail ++ entries))
with_batch schema t slots j entries k tables =
    subst (AllByRecursion (HasTables schema)) (append_assoc j.flushed j.tail entries) (all_append (HasTables schema) (j.flushed ++ j.tail) entries k.tables tables)

-- the way says nothing of what is kept
pub on_way : (schema : List TableDef) (t : TierJournal) (slots : Slots) (j : Journal) (way : Option Way) → Keeps schema t slots j → Keeps schema t slots (record j { way = way })
on_way schema t slots j way k = record { kept = k.kept; rests = k.rests; written = k.written; generation = k.generation; tables = k.tables }

pub no_more : (schema : List TableDef) → HasBecome schema schema
no_more schema = record { more = []; is = sym (append-nil schema) }

module _ {D : Type 0} (state : D → SiteState) (possible : D → ℕ → Held → Type 0) where
  -- where the journal is kept
  pub leaves_at : (d : D) (k : Option TierJournal) (w : World) → KeepsOver state possible d k w → LeavesOver state possible d k w
  leaves_at d None w over = over
  leaves_at d (Some t) w over = record { there = over.there; told = over.certain.told; leaves = over.leaves }

  -- a world of the same tables, entries and history
  pub leaves_as : (d : D) (o : Held) (w w' : World) (way : Option Way) → w'.tier.schema ≡ w.tier.schema → w'.history ≡ w.history → w'.journal.flushed ≡ w.journal.flushed → LeavesOnWay state possible d o w way → LeavesOnWay state possible d o w' way
  leaves_as d o w w' None schema history flushed leaves = tt
  leaves_as d o w w' (Some way) schema history flushed leaves = record {
    same = history ∙ leaves.same;
    turned = leaves.turned;
    leaves = λ k p lo hi h.
        subst (λ (s : List TableDef). IsOnWay s way w'.journal.flushed o.history p) (sym schema)
        (subst (λ (f : List JournalEntry). IsOnWay w.tier.schema way f o.history p) (sym flushed) (leaves.leaves k p lo hi h));
  }

  -- The slots turn from some entries to others, and nothing beside them changes.
  module _ (d d' : D) (o now : Held) (w w' : World) (certain : Certain state possible d o) (beside : now.history ≡ o.history) (schema : w'.tier.schema ≡ w.tier.schema) (history : w'.history ≡ w.history)
      (old_tables : AllByRecursion (HasTables w.tier.schema) w.journal.flushed) (new_tables : AllByRecursion (HasTables w.tier.schema) w'.journal.flushed)
      (left : Leaves state possible d d' (GivesEither w.tier.schema o w.journal.flushed w'.journal.flushed)) (way : Way) (leaves : LeavesPoints state possible d o w way) where
    abbrev len : ℕ
    len = length w.history

    abbrev past : List Stretch
    past = way.past ++ stretch_of w.journal.flushed len ∷ []

    now_len : length now.history ≡ len
    now_len = ap (λ (h : List Entry). length h) (beside ∙ sym leaves.same)

    old_len : length o.history ≡ len
    old_len = ap (λ (h : List Entry). length h) (sym leaves.same)

    begun : turned_at way.from way.past ≤ len
    begun = subst (λ (n : ℕ). turned_at way.from way.past ≤ n) old_len leaves.turned

    whole : (p : Held) → p.history ≡ o.history → p.history ≡ take len now.history
    whole p is = is ∙ sym beside ∙ sym (take_whole now.history) ∙ ap (λ (n : ℕ). take n now.history) now_len

    within_now : len ≤ length now.history
    within_now = subst (λ (n : ℕ). len ≤ n) (sym now_len) (omega arith)

    old_point : IsPoint way.from past w'.journal.flushed (length now.history) w.journal.flushed len
    old_point = point_turned way.from way.past w.journal.flushed w'.journal.flushed len (length now.history) w.journal.flushed len (point_now way.from way.past w.journal.flushed len len begun (omega arith))

    new_point : IsPoint way.from past w'.journal.flushed (length now.history) w'.journal.flushed len
    new_point =
        point_now way.from past w'.journal.flushed (length now.history) len
        (subst (λ (n : ℕ). n ≤ len) (sym (turned_push way.from way.past (stretch_of w.journal.flushed len))) (omega arith)) within_now

    abbrev way_then : Way
    way_then = record { since = way.since; from = way.from; past = past }

    here : (entries : List JournalEntry) (p : Held) → p.history ≡ o.history → AllByRecursion (HasTables w.tier.schema) entries → GivesEntries w.tier.schema p.slots entries → IsPoint way.from past w'.journal.flushed (length now.history) entries len → IsOnWay w'.tier.schema way_then w'.journal.flushed now.history p
    here entries p is tables gives point = record {
      entries = entries;
      count = len;
      point = point;
      within = within_now;
      front = whole p is;
      early = w.tier.schema;
      becomes = subst (HasBecome w.tier.schema) (sym schema) (no_more w.tier.schema);
      tables = tables;
      gives = gives;
    }

    before : (p : Held) → IsOnWay w.tier.schema way w.journal.flushed o.history p → IsOnWay w'.tier.schema way_then w'.journal.flushed now.history p
    before p q = record {
      entries = q.entries;
      count = q.count;
      point =
          point_turned way.from way.past w.journal.flushed w'.journal.flushed len (length now.history) q.entries q.count
          (subst (λ (n : ℕ). IsPoint way.from way.past w.journal.flushed n q.entries q.count) old_len q.point);
      within = subst (λ (n : ℕ). q.count ≤ n) (old_len ∙ sym now_len) q.within;
      front = q.front ∙ ap (λ (h : List Entry). take q.count h) (sym beside);
      early = q.early;
      becomes = subst (HasBecome q.early) (sym schema) q.becomes;
      tables = q.tables;
      gives = q.gives;
    }

    pub turned_points : LeavesPoints state possible d' now w' way_then
    turned_points = record {
      same = history ∙ leaves.same ∙ sym beside;
      turned = subst (λ (n : ℕ). n ≤ length now.history) (sym (turned_push way.from way.past (stretch_of w.journal.flushed len))) within_now;
      leaves = λ k p lo hi h. elim (cases_lt (state d).moment k) [
        | inl later ↦
            let g = left.each k p (omega arith) hi h in
            elim g.gives [ inl old ↦ here w.journal.flushed p g.beside old_tables old old_point | inr new ↦ here w'.journal.flushed p g.beside new_tables new new_point ]
        | inr early ↦ before p (leaves.leaves k p lo early (left.past k p early h))
      ];
    }

  pub turned_leaves : (d d' : D) (o now : Held) (w w' : World) → Certain state possible d o → now.history ≡ o.history → w'.tier.schema ≡ w.tier.schema → w'.history ≡ w.history
      → AllByRecursion (HasTables w.tier.schema) w.journal.flushed → AllByRecursion (HasTables w.tier.schema) w'.journal.flushed → Leaves state possible d d' (GivesEither w.tier.schema o w.journal.flushed w'.journal.flushed) → (way : Option Way) → LeavesOnWay state possible d o w way → LeavesOnWay state possible d' now w' (passed_by w.journal.flushed (length w.history) way)
  turned_leaves d d' o now w w' certain beside schema history old_tables new_tables left None leaves = tt
  turned_leaves d d' o now w w' certain beside schema history old_tables new_tables left (Some way) leaves = turned_points d d' o now w w' certain beside schema history old_tables new_tables left way leaves

  -- a way begins
  begun_points : (d : D) (t : TierJournal) (w : World) → w.moment ≡ (state d).moment → TellsSame (state d).held w.history → (over : IsOver state possible d t w) → LeavesPoints state possible d over.there (begun_here w) (record { since = w.moment; from = length w.history; past = [] })
  begun_points d t w now tells over =
      let same : over.there ≡ tells.there = same_Some over.there tells.there (sym over.certain.told ∙ tells.told) in
      let history : w.history ≡ over.there.history = sym tells.same ∙ ap (λ (x : Held). x.history) (sym same) in
      let long : length w.history ≡ length over.there.history = ap (λ (h : List Entry). length h) history in
      record {
        same = history;
        turned = omega arith;
        leaves = λ k p lo hi h.
            let here : k ≡ (state d).moment = omega (arith, now) in
            let is : p ≡ over.there = over.certain.only p (subst (λ (m : ℕ). possible d m p) here h) in
            record {
              entries = w.journal.flushed;
              count = length w.history;
              point = point_now (length w.history) [] w.journal.flushed (length over.there.history) (length w.history) (omega arith) (omega arith);
              within = omega arith;
              front = ap (λ (x : Held). x.history) is ∙ sym (take_whole over.there.history) ∙ ap (λ (n : ℕ). take n over.there.history) (sym long);
              early = w.tier.schema;
              becomes = no_more w.tier.schema;
              tables = flushed_tables w.tier.schema t over.there.slots w.journal over.keeps;
              gives = subst (λ (x : Held). GivesEntries w.tier.schema x.slots w.journal.flushed) (sym is) (flushed_gives w.tier.schema t over.there.slots w.journal over.keeps);
            };
      }

  pub ways_begin : WaysMayBegin state possible
  ways_begin d None w now tells over = over
  ways_begin d (Some t) w now tells over = record {
    there = over.there;
    certain = over.certain;
    keeps = on_way w.tier.schema t over.there.slots w.journal (Some (record { since = w.moment; from = length w.history; past = [] })) over.keeps;
    version = over.version;
    leaves = begun_points d t w now tells over;
  }

-- the journal is kept, whether the run goes on or not
pub kept_unless : {D : Type 0} {state : D → SiteState} {possible : D → ℕ → Held → Type 0} {d : D} {stop : Option Reply} {k : Option TierJournal} {w : World} → KeepsOver state possible d k w → KeepsUnlessBroken state possible d stop k w
kept_unless {state = state} {possible = possible} {d = d} {k = k} {w = w} over = record { leaves = leaves_at state possible d k w over; over = λ whole. over }

-- what doesn't break may be answered otherwise
pub kept_unless_told : {D : Type 0} {state : D → SiteState} {possible : D → ℕ → Held → Type 0} {d : D} {stop told : Option Reply} {k : Option TierJournal} {w : World} → (is_broken told ≡ false → is_broken stop ≡ false) → KeepsUnlessBroken state possible d stop k w → KeepsUnlessBroken state possible d told k w
kept_unless_told so x = record { leaves = x.leaves; over = λ whole. x.over (so whole) }
