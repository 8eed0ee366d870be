-- That what the next opening reads can be read where a tier was opened.
use Rattle.std.proofs.Common.{◌≡◌, inl, ℕ, suc, cond, Option, Some, None, List, [], ◌∷◌, map, refl, sym, ap, subst, ◌∙◌}
use Rattle.std.specs.List.{list_any}
use Rattle.table_defs.specs.declared.definition.TableDef.{TableDef}
use Rattle.table_state.specs.Histories.{no_tables, state_of}
use Rattle.table_state.specs.Tables.{TableState}
use Rattle.order_laws.proofs.CountLaws.{defs_of, schema_after}
use Rattle.outside.specs.Holding.{Held}
use Rattle.commit_journal.specs.Layout.{Placed}
use Rattle.print_laws.proofs.Statements.{group_spells}
use Rattle.print_laws.proofs.StatementReading.{statement_spelt}
use Rattle.sql_subset.specs.Lines.{Spells}
use Rattle.sql_subset.specs.declared.stmt.CreateGroup.{CreateGroup}
use Rattle.sql_subset.specs.declared.stmt.Stmt.TheVariants as statement
use Rattle.cache_tier.specs.declared.reply.Reply.{Reply}
use Rattle.cache_tier.specs.Groups.{Group, definitions_of, is_called}
use Rattle.cache_tier.specs.Journals.{Commits, Defines, Drops, Journal, JournalEntry, Marks, Numbers, Prepares, SetsLoaded, SetsState}
use Rattle.cache_tier.specs.Reading.{as_it_was, backing_at}
use Rattle.cache_tier.specs.Rounds.{Applies}
use Rattle.cache_tier.specs.Sets.{alone, changed, refreshed}
use Rattle.cache_tier.specs.TierStates.{Settings, Tier, opened}
use Rattle.cache_tier.specs.Worlds.{OnlyWhere, World}
use Rattle.recovery.specs.Recalling.{Recalls, RecallsAll}
use Rattle.recovery.specs.Reopening.{HoldAgain, HoldsAgainAt, Reloads, Reopens, ViewsAgain, holding, is_held_again, is_viewed_again}
use Rattle.recovery.proofs.LongerLaws.{schema_stays}
use Rattle.tier_journal.specs.Opening.{IsSpelt, StandForAll}
use Rattle.tier_journal.specs.declared.journal.TierJournal.{TierJournal}
use Rattle.tier_opening.specs.Opening.{BeginsIn}
use Rattle.cache_engine.specs.Opening.{Opens}
use Rattle.reopened_laws.specs.Leaving.{HasText, HaveOwnTableNames}
use Rattle.reopened_laws.proofs.ReadTiers.{changed_rests, cond_def, mapped_defs, refreshed_rests, rests}
use Rattle.reopened_laws.proofs.ReadParts.{AllPrint, AllRead, Prints, Readable, StageKeeps, WayReads, applies_keeps, becomes_keeps, defs_others, defs_same, only_where_keeps, reads_first_keeps, same, state_before, then_stage_keeps, whole_front}
use Rattle.reopened_laws.proofs.ReadStatements.{less_print, more_print}

-- ---- the entries

read_of : (e : JournalEntry) → IsSpelt e → HasText e
read_of (Defines d text) spelt = inl spelt
read_of (Commits s) spelt = tt
read_of (Prepares s) spelt = tt
read_of (Numbers n) spelt = tt
read_of (Marks n) spelt = tt
read_of (Drops name) spelt = tt
read_of (SetsState name state) spelt = tt
read_of (SetsLoaded name flag) spelt = tt

all_read : (schema : List TableDef) (entries : List JournalEntry) (placed : List Placed) → StandForAll schema entries placed → AllRead entries
all_read schema [] [] stand = tt
all_read schema [] (p ∷ placed) stand = absurd stand
all_read schema (e ∷ entries) [] stand = absurd stand
all_read schema (e ∷ entries) (p ∷ placed) stand = (read_of e stand.0.spelt, all_read schema entries placed stand.1)

-- ---- the groups that they leave

prints_of : (d : CreateGroup) (text : List ℕ) → Spells text (statement.CreateGroup d) → Prints d
prints_of d text spelt = group_spells d (statement_spelt text (statement.CreateGroup d) spelt)

regrouped_print : (name : List ℕ) (change : Group → Group) → ((g : Group) → (change g).def ≡ g.def) → (gs : List Group) → AllPrint (definitions_of gs) → AllPrint (definitions_of (map (λ (g : Group). cond (is_called name g) (change g) g) gs))
regrouped_print name change so gs a = subst AllPrint (sym (mapped_defs (λ (g : Group). cond (is_called name g) (change g) g) (λ g. cond_def (is_called name g) g (change g) (so g)) gs)) a

recalled_print : (e : JournalEntry) (t t' : Tier) → IsSpelt e → Recalls e t t' → AllPrint (definitions_of t.groups) → AllPrint (definitions_of t'.groups)
recalled_print (Commits s) t t' spelt is a = subst (λ (x : Tier). AllPrint (definitions_of x.groups)) (sym is) a
recalled_print (Prepares s) t t' spelt is a = subst (λ (x : Tier). AllPrint (definitions_of x.groups)) (sym is) a
recalled_print (Numbers n) t t' spelt is a = subst (λ (x : Tier). AllPrint (definitions_of x.groups)) (sym is) a
recalled_print (Marks n) t t' spelt is a = subst (λ (x : Tier). AllPrint (definitions_of x.groups)) (sym is) a
recalled_print (Defines d text) t t' spelt is a = subst (λ (x : Tier). AllPrint (definitions_of x.groups)) (sym is.left) (more_print t.groups _ a (prints_of d text spelt))
recalled_print (Drops name) t t' spelt is a = subst (λ (x : Tier). AllPrint (definitions_of x.groups)) (sym is) (less_print _ t.groups a)
recalled_print (SetsState name state) t t' spelt is a = subst (λ (x : Tier). AllPrint (definitions_of x.groups)) (sym is) (regrouped_print name _ (λ g. refl) t.groups a)
recalled_print (SetsLoaded name flag) t t' spelt is a = subst (λ (x : Tier). AllPrint (definitions_of x.groups)) (sym is) (regrouped_print name _ (λ g. refl) t.groups a)

all_print : (schema : List TableDef) (entries : List JournalEntry) (placed : List Placed) (t t' : Tier) → StandForAll schema entries placed → RecallsAll entries t t' → AllPrint (definitions_of t.groups) → AllPrint (definitions_of t'.groups)
all_print schema [] [] t t' stand is a = subst (λ (x : Tier). AllPrint (definitions_of x.groups)) (sym is) a
all_print schema [] (p ∷ placed) t t' stand is a = absurd stand
all_print schema (e ∷ entries) [] t t' stand is a = absurd stand
all_print schema (e ∷ entries) (p ∷ placed) t t' stand (mid, first, rest) a = all_print schema entries placed mid t' stand.1 rest (recalled_print e t mid stand.0.spelt first a)

all_stays : (entries : List JournalEntry) (t t' : Tier) → RecallsAll entries t t' → t'.schema ≡ t.schema
all_stays [] t t' is = ap (λ (x : Tier). x.schema) is
all_stays (e ∷ entries) t t' (mid, first, rest) = all_stays entries mid t' rest ∙ schema_stays e t mid first

-- ---- the rows that come back

views_keeps : StageKeeps ViewsAgain
views_keeps w w' stop q r =
    only_where_keeps (list_any (is_viewed_again 0) w.tier.groups) _
    (reads_first_keeps as_it_was _ (λ t. rests t) (λ n. becomes_keeps (λ v. refreshed is_viewed_again n (backing_at v n) v.tier) (λ v. refreshed_rests is_viewed_again n (backing_at v n) v.tier))) w w' stop q r

holds_keeps : (place : ℕ) → StageKeeps (HoldsAgainAt place)
holds_keeps place =
    reads_first_keeps as_it_was _ (λ t. rests t) (λ n. becomes_keeps (λ v. changed (alone place) (holding (backing_at v n)) v.tier) (λ v. changed_rests (alone place) (holding (backing_at v n)) (λ g. refl) v.tier))

hold_keeps : (place : ℕ) (groups : List Group) → StageKeeps (HoldAgain place groups)
hold_keeps place [] w w' stop q r = same w w' q.0 r
hold_keeps place (g ∷ groups) w w' stop q r =
    then_stage_keeps (OnlyWhere (is_held_again g) (HoldsAgainAt place)) (HoldAgain (suc place) groups) (only_where_keeps (is_held_again g) (HoldsAgainAt place) (holds_keeps place)) (hold_keeps (suc place) groups) w w' stop q r

reloads_keeps : StageKeeps Reloads
reloads_keeps w w' stop q r = then_stage_keeps ViewsAgain (HoldAgain 0 w.tier.groups) views_keeps (hold_keeps 0 w.tier.groups) w w' stop q r

reopens_keeps : StageKeeps Reopens
reopens_keeps = then_stage_keeps Applies Reloads applies_keeps reloads_keeps

-- ---- where a tier was opened

module _ (settings : Settings) (moment : ℕ) (there : Held) (k : TierJournal) (begun : World) (b : BeginsIn settings moment there k begun) (named : (s : TableState) → state_of there.history ≡ Some s → HaveOwnTableNames s.schema) where
  said : AllRead b.entries
  said = all_read b.schema b.entries b.say.placed b.say.stand

  groups : AllPrint (definitions_of b.catalog.groups)
  groups = all_print b.schema b.entries b.say.placed (opened settings moment b.schema) b.catalog b.say.stand b.recalls tt

  schema : begun.tier.schema ≡ b.schema
  schema = ap (λ (t : Tier). t.schema) b.tier ∙ all_stays b.entries (opened settings moment b.schema) b.catalog b.recalls

  others : defs_of begun.history ≡ defs_of there.history
  others = defs_same there.history begun.history (record { more = b.others; is = b.history; none = defs_others begun.shared there.history b.others b.came })

  began : Readable begun
  began = record {
    flushed = subst AllRead (sym (ap (λ (j : Journal). j.flushed) b.journal)) said;
    tail = subst AllRead (sym (ap (λ (j : Journal). j.tail) b.journal)) tt;
    way = subst WayReads (sym (ap (λ (j : Journal). j.way) b.journal)) tt;
    groups = subst AllPrint (sym (ap (λ (t : Tier). definitions_of t.groups) b.tier)) groups;
    known = λ s leaves fresh. schema ∙ sym (b.known s leaves) ∙ schema_after begun.history no_tables s leaves;
    own = λ s leaves.
        (let m = state_before there.history begun.history b.others s b.history leaves in
        subst HaveOwnTableNames (schema_after there.history no_tables m.0 m.1 ∙ sym others) (named m.0 m.1));
    front = λ s leaves. whole_front begun.tier.schema begun.history (schema ∙ sym (b.known s leaves) ∙ schema_after begun.history no_tables s leaves);
  }

  -- whatever end the opening comes to
  pub reopened_readable : (w : World) (stop : Option Reply) → Reopens begun w stop → Readable w
  reopened_readable w stop does = reopens_keeps begun w stop does began

pub opened_readable : (settings : Settings) (moment : ℕ) (there : Held) (w : World) (x : Opens settings moment there w) → ((s : TableState) → state_of there.history ≡ Some s → HaveOwnTableNames s.schema) → Readable w
opened_readable settings moment there w x named = reopened_readable settings moment there x.journal x.begun x.begins named w None x.reopens
