-- That what the next opening reads of a world can be read, through the words for parts.
use Rattle.std.proofs.Common.{◌≡◌, inl, inr, ℕ, Bool, true, false, Option, Some, None, Result, Ok, Err, List, [], ◌∷◌, ◌++◌, length, map, append_assoc, append-nil, refl, sym, ap, subst, ◌∙◌}
use Rattle.std.specs.Bool.{MatchBool}
use Rattle.std.specs.Option.{option_and_then}
use Rattle.std.specs.List.{AllByRecursion, filter}
use Rattle.row_types.specs.declared.rule.Rule.{Rule}
use Rattle.tier_base.specs.declared.number.TableId.{TableId}
use Rattle.table_state.specs.declared.history.Entry.{Entry}
use Rattle.table_state.specs.declared.history.Entry.TheVariants.{Definition, Foreign, Own}
use Rattle.table_state.specs.declared.history.Sealed.{Sealed}
use Rattle.table_state.specs.declared.operation.Op.{Op}
use Rattle.table_state.specs.Histories.{after_entry, no_tables, state_from, state_of}
use Rattle.table_state.specs.Tables.{TableState}
use Rattle.table_defs.specs.declared.definition.TableDef.{TableDef}
use Rattle.order_laws.proofs.CountLaws.{defs_of}
use Rattle.order_laws.proofs.OrderLaws.{defs-append}
use Rattle.outside.specs.declared.fault.BankError.{BankError}
use Rattle.outside.specs.Others.{AreOthers, Around}
use Rattle.sql_print.specs.Normal.{normal_group}
use Rattle.sql_subset.specs.Lines.{Spells}
use Rattle.sql_subset.specs.declared.stmt.CreateGroup.{CreateGroup}
use Rattle.sql_subset.specs.declared.stmt.Stmt.TheVariants as statement
use Rattle.cache_tier.specs.declared.reply.Reply.{Reply}
use Rattle.cache_tier.specs.Definitions.{text_of}
use Rattle.cache_tier.specs.declared.group.GroupDef.{GroupDef}
use Rattle.cache_tier.specs.Groups.{Group, definitions_of, is_read_only}
use Rattle.cache_tier.specs.JournalSteps.{Flushes, FlushesFitting, FlushesKept, FlushesSome, NotesKept, Records, has_entries, journal_behind, journal_full, name_sizes}
use Rattle.cache_tier.specs.Journals.{Commits, Journal, JournalEntry, SetsLoaded, SetsState, Stretch, Way, flushed_batch, passed_by, with_noted}
use Rattle.cache_tier.specs.Reading.{Answers, FollowsAt, Reads, ReadsFirst, StageFollowsAt, TellsPosition}
use Rattle.cache_tier.specs.Rotations.{Broken, Kept, Renewed, Rotates, Rotation, definition_entry, is_long, journal_after, renewed, slot_entries}
use Rattle.cache_tier.specs.Rounds.{Applies, AppliesAndRotates, Mixes, Round, RoundIfUnsettled, is_unsettled}
use Rattle.cache_tier.specs.TierStates.{Tier}
use Rattle.cache_tier.specs.WayPoints.{IsPoint}
use Rattle.cache_tier.specs.Worlds.{Answer, BankCall, Becomes, Follows, OnlyWhere, Part, Passes, Quiet, Refuses, Stage, StageFollows, Then, ThenStage, Tries, Unless, World}
use Rattle.reopened_laws.specs.Leaving.{HasText, HaveOwnTableNames}
use Rattle.reopened_laws.proofs.ReadTiers.{Rests, rests}

-- ---- what is kept

-- the printed text of a definition spells its normal form
abbrev pub Prints : CreateGroup → Type 0
Prints d = Spells (text_of d) (statement.CreateGroup (normal_group d))

abbrev pub AllPrint : List GroupDef → Type 0
AllPrint defs = AllByRecursion (λ (d : GroupDef). Prints d.declared) defs

abbrev pub AllRead : List JournalEntry → Type 0
AllRead entries = AllByRecursion HasText entries

-- so it is of what the slots gave on a way
abbrev pub WayReads : Option Way → Type 0
WayReads None = Unit {0}
WayReads (Some way) = AllByRecursion (λ (s : Stretch). AllRead s.entries) way.past

-- the schema is a front of what the history defines
pub record IsFront (schema : List TableDef) (h : List Entry) : Type 0 where
  pub more : List TableDef
  pub is : defs_of h ≡ schema ++ more

-- it is one still, where nothing is defined
pub front_then : (schema schema' : List TableDef) (h h' : List Entry) → schema' ≡ schema → defs_of h' ≡ defs_of h → IsFront schema h → IsFront schema' h'
front_then schema schema' h h' same defs x = record { more = x.more; is = defs ∙ x.is ∙ ap (λ l. l ++ x.more) (sym same) }

pub whole_front : (schema : List TableDef) (h : List Entry) → schema ≡ defs_of h → IsFront schema h
whole_front schema h is = record { more = []; is = sym is ∙ sym (append-nil schema) }

-- Each definition's text reads, on the way too; what is printed of a group does. The schema is a front of the bank's, in
-- which no two tables have one name, and all of it where it isn't stale.
pub record Readable (w : World) : Type 0 where
  pub flushed : AllRead w.journal.flushed
  pub tail : AllRead w.journal.tail
  pub way : WayReads w.journal.way
  pub groups : AllPrint (definitions_of w.tier.groups)
  pub known : (s : TableState) → state_of w.history ≡ Some s → w.tier.stale ≡ false → w.tier.schema ≡ defs_of w.history
  pub own : (s : TableState) → state_of w.history ≡ Some s → HaveOwnTableNames (defs_of w.history)
  pub front : (s : TableState) → state_of w.history ≡ Some s → IsFront w.tier.schema w.history

-- ---- histories

-- entries come behind it, and none defines a table
pub record Adds (old new : List Entry) : Type 0 where
  pub more : List Entry
  pub is : new ≡ old ++ more
  pub none : defs_of more ≡ []

pub adds_none : (h : List Entry) → Adds h h
adds_none h = record { more = []; is = sym (append-nil h); none = refl }

pub defs_both : (xs ys : List Entry) → defs_of xs ≡ [] → defs_of ys ≡ [] → defs_of (xs ++ ys) ≡ []
defs_both xs ys e f = defs-append xs ys ∙ ap (λ l. l ++ defs_of ys) e ∙ f

pub defs_same : (old new : List Entry) → Adds old new → defs_of new ≡ defs_of old
defs_same old new x = ap defs_of x.is ∙ defs-append old x.more ∙ ap (λ l. defs_of old ++ l) x.none ∙ append-nil (defs_of old)

pub defs_others : (shared : List TableId) (h entries : List Entry) → AreOthers shared h entries → defs_of entries ≡ []
defs_others shared h [] came = refl
defs_others shared h (Foreign ops ∷ entries) came = defs_others shared (h ++ Foreign ops ∷ []) entries came.2
defs_others shared h (Definition def ∷ entries) came = absurd came
defs_others shared h (Own ticket ops ∷ entries) came = absurd came

-- a front of a history that leaves a state leaves one
pub state_front : (xs ys : List Entry) (s n : TableState) → state_from (xs ++ ys) s ≡ Some n → (m : TableState) × (state_from xs s ≡ Some m)
state_front [] ys s n is = (s, refl)
state_front (x ∷ xs) ys s n is = by (after_entry x s) refl is (λ u h. state_front xs ys u n h)
  where
    by : (o : Option TableState) → after_entry x s ≡ o → option_and_then (state_from (xs ++ ys)) o ≡ Some n
        → ((u : TableState) → state_from (xs ++ ys) u ≡ Some n → (m : TableState) × (state_from xs u ≡ Some m)) → (m : TableState) × (option_and_then (state_from xs) (after_entry x s) ≡ Some m)
    by None e h rest = cc
    by (Some u) e h rest = let r = rest u h in (r.0, ap (option_and_then (state_from xs)) e ∙ r.1)

pub state_before : (old new more : List Entry) (n : TableState) → new ≡ old ++ more → state_of new ≡ Some n → (m : TableState) × (state_of old ≡ Some m)
state_before old new more n is leaves = state_front old more no_tables n (ap state_of (sym is) ∙ leaves)

-- ---- how it is kept

pub record HasReadable (j : Journal) : Type 0 where
  pub flushed : AllRead j.flushed
  pub tail : AllRead j.tail
  pub way : WayReads j.way

pub journal_of : (w : World) → Readable w → HasReadable w.journal
journal_of w r = record { flushed = r.flushed; tail = r.tail; way = r.way }

pub kept_by : (w w' : World) → Rests w.tier w'.tier → HasReadable w'.journal → Adds w.history w'.history → Readable w → Readable w'
kept_by w w' k j x r = record {
  flushed = j.flushed;
  tail = j.tail;
  way = j.way;
  groups = subst AllPrint (sym k.defs) r.groups;
  known = λ s leaves fresh. (let m = state_before w.history w'.history x.more s x.is leaves in k.schema ∙ r.known m.0 m.1 (sym k.stale ∙ fresh) ∙ sym (defs_same w.history w'.history x));
  own = λ s leaves. (let m = state_before w.history w'.history x.more s x.is leaves in subst HaveOwnTableNames (sym (defs_same w.history w'.history x)) (r.own m.0 m.1));
  front = λ s leaves. (let m = state_before w.history w'.history x.more s x.is leaves in front_then w.tier.schema w'.tier.schema w.history w'.history k.schema (defs_same w.history w'.history x) (r.front m.0 m.1));
}

pub same : (w w' : World) → w' ≡ w → Readable w → Readable w'
same w w' e r = subst Readable (sym e) r

pub tiered : (w : World) (t : Tier) → Rests w.tier t → Readable w → Readable (record w { tier = t })
tiered w t k r = kept_by w (record w { tier = t }) k (journal_of w r) (adds_none w.history) r

abbrev pub PartKeeps : Part → Type 0
PartKeeps part = (w w' : World) (reply : Reply) → part w w' reply → Readable w → Readable w'

abbrev pub StageKeeps : Stage → Type 0
StageKeeps stage = (w w' : World) (stop : Option Reply) → stage w w' stop → Readable w → Readable w'

pub quiet : (answer : Answer) (w w' : World) (reply : Reply) → Rests w.tier answer.0 → Quiet answer w w' reply → Readable w → Readable w'
quiet answer w w' reply k q r = same (record w { tier = answer.0 }) w' q.0 (tiered w answer.0 k r)

pub refuses_keeps : (rule : Rule) → PartKeeps (Refuses rule)
refuses_keeps rule w w' reply q r = same w w' q.0 r

pub unless_keeps : (o : Option Rule) (part : Part) → PartKeeps part → PartKeeps (Unless o part)
unless_keeps None part p w w' reply q r = p w w' reply q r
unless_keeps (Some rule) part p w w' reply q r = same w w' q.0 r

pub tries_keeps : (part : Part) → PartKeeps part → PartKeeps (Tries part)
tries_keeps part p w w' reply (inl q) r = p w w' reply q r
tries_keeps part p w w' reply (inr q) r = same w w' q.0 r

pub follows_keeps : (stop : Option Reply) (part : Part) → PartKeeps part → PartKeeps (Follows stop part)
follows_keeps None part p w w' reply q r = p w w' reply q r
follows_keeps (Some stop) part p w w' reply q r = same w w' q.0 r

pub then_keeps : (stage : Stage) (part : Part) → StageKeeps stage → PartKeeps part → PartKeeps (Then stage part)
then_keeps stage part s p w w' reply q r = follows_keeps q.stop part p q.mid w' reply q.next (s w q.mid q.stop q.first r)

pub stage_follows_keeps : (stop : Option Reply) (stage : Stage) → StageKeeps stage → StageKeeps (StageFollows stop stage)
stage_follows_keeps None stage s w w' end q r = s w w' end q r
stage_follows_keeps (Some stop) stage s w w' end q r = same w w' q.0 r

pub then_stage_keeps : (one other : Stage) → StageKeeps one → StageKeeps other → StageKeeps (ThenStage one other)
then_stage_keeps one other s p w w' end q r = stage_follows_keeps q.stop other p q.mid w' end q.next (s w q.mid q.stop q.first r)

pub passes_keeps : StageKeeps Passes
passes_keeps w w' stop q r = same w w' q.0 r

pub only_where_keeps : (b : Bool) (stage : Stage) → StageKeeps stage → StageKeeps (OnlyWhere b stage)
only_where_keeps true stage s w w' stop q r = s w w' stop q r
only_where_keeps false stage s w w' stop q r = same w w' q.0 r

pub becomes_keeps : (change : World → Tier) → ((w : World) → Rests w.tier (change w)) → StageKeeps (Becomes change)
becomes_keeps change k w w' stop q r = same (record w { tier = change w }) w' q.0 (tiered w (change w) (k w) r)

pub answers_keeps : (answer : World → Answer) → ((w : World) → Rests w.tier (answer w).0) → PartKeeps (Answers answer)
answers_keeps answer k w w' reply q r = quiet (answer w) w w' reply (k w) q r

pub either_keeps : {P Q R : Type 0} (b : Bool) → (P → R) → (Q → R) → MatchBool b P Q → R
either_keeps true p q x = p x
either_keeps false p q x = q x

-- ---- calls of the bank

abbrev pub DefinesNone : (List Entry → List Entry → Type 0) → Type 0
DefinesNone step = (old new : List Entry) → step old new → Adds old new

pub around : (w w' : World) (step : List Entry → List Entry → Type 0) → DefinesNone step → Around w.shared step w.history w'.history → Adds w.history w'.history
around w w' step so a =
    let own = so (w.history ++ a.before) a.middle a.own in
    record {
      more = a.before ++ (own.more ++ a.behind);
      is = a.is ∙ ap (λ x. x ++ a.behind) own.is ∙ append_assoc (w.history ++ a.before) own.more a.behind ∙ append_assoc w.history a.before (own.more ++ a.behind);
      none = defs_both a.before (own.more ++ a.behind) (defs_others w.shared w.history a.before a.came_before) (defs_both own.more a.behind own.none (defs_others w.shared a.middle a.behind a.came_behind));
    }

pub bank : (w w' : World) (step : List Entry → List Entry → Type 0) → DefinesNone step → Rests w.tier w'.tier → BankCall step w w' → Readable w → Readable w'
bank w w' step so k c r = kept_by w w' k (subst HasReadable (sym c.journal) (journal_of w r)) (around w w' step so c.history) r

pub of_tier : (a b c : Tier) → b ≡ c → Rests a c → Rests a b
of_tier a b c e k = subst (Rests a) (sym e) k

pub adds_nothing : (old new : List Entry) → new ≡ old ++ [] → Adds old new
adds_nothing old new e = record { more = []; is = e; none = refl }

position_none : (result : Result ℕ BankError) → DefinesNone (TellsPosition result)
position_none (Ok n) old new p = adds_nothing old new p.0
position_none (Err e) old new p = adds_nothing old new p

follows_at_keeps : (result : Result ℕ BankError) (next : ℕ → Part) → ((n : ℕ) → PartKeeps (next n)) → PartKeeps (FollowsAt result next)
follows_at_keeps (Ok n) next p w w' reply q r = tries_keeps (next n) (p n) w w' reply q r
follows_at_keeps (Err e) next p w w' reply q r = same w w' q.0 r

pub reads_keeps : (tried : Tier → Tier) (next : ℕ → Part) → ((t : Tier) → Rests t (tried t)) → ((n : ℕ) → PartKeeps (next n)) → PartKeeps (Reads tried next)
reads_keeps tried next k p w w' reply q r =
    follows_at_keeps q.result next p q.mid w' reply q.goes_on
    (bank w q.mid (TellsPosition q.result) (position_none q.result) (of_tier w.tier q.mid.tier (tried w.tier) q.tier (k w.tier)) q.call r)

stage_follows_at_keeps : (result : Result ℕ BankError) (next : ℕ → Stage) → ((n : ℕ) → StageKeeps (next n)) → StageKeeps (StageFollowsAt result next)
stage_follows_at_keeps (Ok n) next p w w' stop (inl q) r = p n w w' stop q r
stage_follows_at_keeps (Ok n) next p w w' stop (inr q) r = same w w' q.0 r
stage_follows_at_keeps (Err e) next p w w' stop q r = same w w' q.0 r

pub reads_first_keeps : (tried : Tier → Tier) (next : ℕ → Stage) → ((t : Tier) → Rests t (tried t)) → ((n : ℕ) → StageKeeps (next n)) → StageKeeps (ReadsFirst tried next)
reads_first_keeps tried next k p w w' stop q r =
    stage_follows_at_keeps q.result next p q.mid w' stop q.goes_on
    (bank w q.mid (TellsPosition q.result) (position_none q.result) (of_tier w.tier q.mid.tier (tried w.tier) q.tier (k w.tier)) q.call r)

-- ---- the journal

pub all_both : {X : Type 0} (P : X → Type 0) (xs ys : List X) → AllByRecursion P xs → AllByRecursion P ys → AllByRecursion P (xs ++ ys)
all_both P [] ys a b = b
all_both P (x ∷ xs) ys a b = (a.0, all_both P xs ys a.1 b)

batch_reads : (name : Op → ℕ) (batch : List JournalEntry) (j : Journal) → HasReadable j → AllRead batch → HasReadable (flushed_batch name batch j)
batch_reads name [] j r a = r
batch_reads name (e ∷ batch) j r a = record { flushed = all_both HasText j.flushed (e ∷ batch) r.flushed a; tail = tt; way = r.way }

-- what the slots gave before is on the way
passed_reads : (flushed : List JournalEntry) (until : ℕ) (way : Option Way) → AllRead flushed → WayReads way → WayReads (passed_by flushed until way)
passed_reads flushed until None a r = tt
passed_reads flushed until (Some way) a r = all_both (λ (s : Stretch). AllRead s.entries) way.past (record { entries = flushed; until = until } ∷ []) r (a, tt)

-- and what they gave at a point of it
pub point_reads : (from : ℕ) (past : List Stretch) (flushed : List JournalEntry) (end : ℕ) (entries : List JournalEntry) (count : ℕ) → AllByRecursion (λ (s : Stretch). AllRead s.entries) past → AllRead flushed → IsPoint from past flushed end entries count → AllRead entries
point_reads from [] flushed end entries count a f p = subst AllRead (sym p.2) f
point_reads from (s ∷ past) flushed end entries count a f (inl p) = subst AllRead (sym p.2) a.0
point_reads from (s ∷ past) flushed end entries count a f (inr p) = point_reads s.until past flushed end entries count a.1 f p

behind_reads : (w : World) (entries : List JournalEntry) → AllRead entries → HasReadable w.journal → HasReadable (journal_behind w entries)
behind_reads w entries a r =
    let h = batch_reads (name_sizes w) (w.journal.tail ++ entries) w.journal r (all_both HasText w.journal.tail entries r.tail a) in
    record { flushed = h.flushed; tail = h.tail; way = passed_reads w.journal.flushed (length w.history) w.journal.way r.flushed r.way }

as_it_is : (w w' : World) → w'.history ≡ w.history → Adds w.history w'.history
as_it_is w w' e = record { more = []; is = e ∙ sym (append-nil w.history); none = refl }

kept_flushes_keeps : (entries : List JournalEntry) → AllRead entries → StageKeeps (FlushesKept entries)
kept_flushes_keeps entries a w w' stop f r =
    kept_by w w' (of_tier w.tier w'.tier w.tier f.tier (rests w.tier)) (subst HasReadable (sym f.journal) (behind_reads w entries a (journal_of w r))) (as_it_is w w' f.history) r

pub flushes_keeps : (entries : List JournalEntry) → AllRead entries → StageKeeps (Flushes entries)
flushes_keeps entries a w w' stop f r = only_where_keeps w.journal.kept (FlushesKept entries) (kept_flushes_keeps entries a) w w' stop f r

pub flushes_some_keeps : (entries : List JournalEntry) → AllRead entries → StageKeeps (FlushesSome entries)
flushes_some_keeps entries a w w' stop q r =
    only_where_keeps (has_entries entries) (FlushesFitting entries)
    (λ v v' end f x. either_keeps (journal_full v entries) (λ full. same v v' full.0 x) (λ fits. flushes_keeps entries a v v' end fits x) f) w w' stop q r

kept_notes_keeps : (e : JournalEntry) → HasText e → StageKeeps (NotesKept e)
kept_notes_keeps e a w w' stop q r =
    let v : World = record w { journal = with_noted e w.journal } in
    same v w' q.0 (kept_by w v (rests w.tier) (record { flushed = r.flushed; tail = all_both HasText w.journal.tail (e ∷ []) r.tail (a, tt); way = r.way }) (adds_none w.history) r)

pub records_keeps : (durable : Bool) (e : JournalEntry) → HasText e → StageKeeps (Records durable e)
records_keeps true e a w w' stop q r = flushes_keeps (e ∷ []) (a, tt) w w' stop q r
records_keeps false e a w w' stop q r = only_where_keeps w.journal.kept (NotesKept e) (kept_notes_keeps e a) w w' stop q r

-- ---- a slot that is begun anew

defined_read : (gs : List Group) → AllPrint (definitions_of gs) → AllRead (map definition_entry gs)
defined_read [] a = tt
defined_read (g ∷ gs) a = (inr a.0, defined_read gs a.1)

mapped_read : {X : Type 0} (f : X → JournalEntry) → ((x : X) → HasText (f x)) → (xs : List X) → AllRead (map f xs)
mapped_read f so [] = tt
mapped_read f so (x ∷ xs) = (so x, mapped_read f so xs)

slot_reads : (t : Tier) → AllPrint (definitions_of t.groups) → AllRead (slot_entries t)
slot_reads t a = (
  tt,
  all_both HasText (map definition_entry t.groups) _ (defined_read t.groups a)
      (all_both HasText (map (λ (g : Group). SetsState g.def.name g.state) (filter is_read_only t.groups)) _ (mapped_read (λ (g : Group). SetsState g.def.name g.state) (λ g. tt) (filter is_read_only t.groups))
      (all_both HasText (map (λ (g : Group). SetsLoaded g.def.name true) (filter (λ (g : Group). g.loaded) t.groups)) _ (mapped_read (λ (g : Group). SetsLoaded g.def.name true) (λ g. tt) (filter (λ (g : Group). g.loaded) t.groups))
      (mapped_read Commits (λ (s : Sealed). tt) t.unsettled))),
)

renewed_reads : (w : World) → Readable w → HasReadable (renewed w)
renewed_reads w r = record { flushed = slot_reads w.tier r.groups; tail = tt; way = passed_reads w.journal.flushed (length w.history) w.journal.way r.flushed r.way }

rotated_reads : (result : Rotation) (w : World) → Readable w → HasReadable (journal_after result w)
rotated_reads Renewed w r = renewed_reads w r
rotated_reads Kept w r = journal_of w r
rotated_reads Broken w r = renewed_reads w r

rotates_keeps : StageKeeps Rotates
rotates_keeps w w' stop q r =
    kept_by w w' (of_tier w.tier w'.tier w.tier q.tier (rests w.tier)) (subst HasReadable (sym q.journal) (rotated_reads q.result w r)) (as_it_is w w' q.history) r

-- ---- rounds

mixed_none : (shared : List TableId) (own : List Sealed) (front tail : List Entry) → Mixes shared own front tail → defs_of tail ≡ []
mixed_none shared own front [] m = refl
mixed_none shared own front (Definition def ∷ tail) m = absurd m
mixed_none shared own front (Foreign ops ∷ tail) (came, m) = mixed_none shared own (front ++ Foreign ops ∷ []) tail m
mixed_none shared own front (Own ticket ops ∷ tail) (first, more, is, same, m) = mixed_none shared more (front ++ Own ticket ops ∷ []) tail m

pub applies_keeps : StageKeeps Applies
applies_keeps w w' stop a r =
    kept_by w w' (of_tier w.tier w'.tier _ a.tier (record { defs = refl; schema = refl; stale = refl })) (subst HasReadable (sym a.journal) (journal_of w r))
    (record { more = a.comes.tail; is = a.comes.is; none = mixed_none w.shared a.came w.history a.comes.tail a.comes.mixes }) r

applies_and_rotates_keeps : StageKeeps AppliesAndRotates
applies_and_rotates_keeps w w' stop a r = only_where_keeps (is_long a.mid) Rotates rotates_keeps a.mid w' a.turned a.rotates (applies_keeps w a.mid a.applied a.applies r)

pub round_keeps : StageKeeps Round
round_keeps = then_stage_keeps (Flushes []) AppliesAndRotates (flushes_keeps [] tt) applies_and_rotates_keeps

pub round_if_unsettled_keeps : StageKeeps RoundIfUnsettled
round_if_unsettled_keeps w w' stop q r = only_where_keeps (is_unsettled w) Round round_keeps w w' stop q r
