-- Slots in which a journal is kept say its entries alone.
use Rattle.std.proofs.Common.{◌≡◌, inl, inr, ℕ, zero, suc, ◌<◌, false, Some, None, List, [], ◌∷◌, ◌++◌, length, slice_get, refl, sym, ap, subst, ◌∙◌, arith}
use Rattle.std.specs.List.{AllByRecursion}
use Rattle.tier_base.specs.declared.number.TableId.{TableId}
use Rattle.row_types.specs.declared.value.Value.{Value}
use Rattle.table_defs.specs.declared.definition.TableDef.{TableDef}
use Rattle.table_state.specs.declared.operation.Op.{Op}
use Rattle.table_state.specs.declared.operation.Op.TheVariants.{Insert, Update, Delete}
use Rattle.table_state.specs.Histories.{state_of}
use Rattle.table_state.specs.Tables.{TableState}
use Rattle.sql_subset.specs.Lines.{Spells}
use Rattle.sql_subset.specs.declared.stmt.CreateGroup.{CreateGroup}
use Rattle.sql_subset.specs.declared.stmt.GroupKind.TheVariants.{ReadOnly}
use Rattle.sql_subset.specs.declared.stmt.RefreshState.{RefreshState}
use Rattle.sql_subset.specs.declared.stmt.RefreshState.TheVariants as refresh
use Rattle.sql_subset.specs.declared.stmt.Stmt.{Stmt}
use Rattle.sql_subset.specs.declared.stmt.Stmt.TheVariants as statement
use Rattle.sql_print.specs.Normal.{normal_group}
use Rattle.outside.specs.Holding.{Held, Slots, other}
use Rattle.journal_entries.specs.declared.entry.Entry.{Entry}
use Rattle.journal_entries.specs.declared.entry.Entry.TheVariants.{Commit, Prepare, Passed, Mark, Defined, Dropped, Turned, Loaded}
use Rattle.journal_entries.specs.declared.entry.Op as by_name
use Rattle.journal_entries.specs.declared.entry.Op.TheVariants as named
use Rattle.commit_journal.specs.Layout.{entries_of, Gives, Placed}
use Rattle.commit_journal.proofs.OneJournal.{one_journal}
use Rattle.cache_tier.specs.Journals.{Commits, Defines, Drops, JournalEntry, Marks, Numbers, Prepares, SetsLoaded, SetsState}
use Rattle.cache_tier.specs.Worlds.{World}
use Rattle.tier_journal.specs.Opening.{StandForAll, StandsFor}
use Rattle.tier_journal.specs.Reading.{name_in_op, read_state}
use Rattle.tier_journal.specs.Writing.{HasTables, IsOfSchema, name_in, name_of, written, written_all, written_op, written_ops, written_state}
use Rattle.tier_journal.proofs.WrittenLaws.{all_grown, all_stay}
use Rattle.tier_journal.specs.Ways.{HasBecome}
use Rattle.tier_journal.proofs.WayLaws.{flushed_gives, flushed_tables, no_more}
use Rattle.tier_opening.specs.Opening.{Say}
use Rattle.reopened_laws.specs.Leaving.{HasText, HaveOwnTableNames, IsKeptAt, IsLeftAt, ReadBack, ReadsBack}

-- ---- operations

within : (schema : List TableDef) (i : ℕ) → i < length schema → (def : TableDef) × (slice_get schema i ≡ Some def)
within [] i lt = absurd (omega (arith, lt))
within (def ∷ schema) zero lt = (def, refl)
within (def ∷ schema) (suc i) lt = within schema i (omega (arith, lt))

table_same : (schema : List TableDef) (t u : TableId) → HaveOwnTableNames schema → t.0 < length schema → u.0 < length schema → name_in schema t ≡ name_in schema u → t ≡ u
table_same schema t u own below under same =
    let a = within schema t.0 below in
    let b = within schema u.0 under in
    let name : a.0.name ≡ b.0.name = sym (ap name_of a.1) ∙ same ∙ ap name_of b.1 in
    λ i. record { 0 = own t.0 u.0 a.0 b.0 a.1 b.1 name i }

-- the rows of an operation by name
abbrev new_row : by_name.Op → List Value
new_row (named.Insert name row) = row
new_row (named.Update name old new) = new
new_row (named.Delete name row) = row

abbrev old_row : by_name.Op → List Value
old_row (named.Insert name row) = row
old_row (named.Update name old new) = old
old_row (named.Delete name row) = row

op_same : (schema : List TableDef) (a b : Op) → HaveOwnTableNames schema → IsOfSchema schema a → IsOfSchema schema b → written_op schema a ≡ written_op schema b → a ≡ b
op_same schema (Insert t row) (Insert u other) own below under e = let same = table_same schema t u own below under (ap name_in_op e) in λ i. Insert (same i) (new_row (e i))
op_same schema (Insert t row) (Update u old new) own below under e = Prim.cc
op_same schema (Insert t row) (Delete u other) own below under e = Prim.cc
op_same schema (Update t old new) (Insert u other) own below under e = Prim.cc
op_same schema (Update t old new) (Update u older newer) own below under e = let same = table_same schema t u own below under (ap name_in_op e) in λ i. Update (same i) (old_row (e i)) (new_row (e i))
op_same schema (Update t old new) (Delete u other) own below under e = Prim.cc
op_same schema (Delete t row) (Insert u other) own below under e = Prim.cc
op_same schema (Delete t row) (Update u old new) own below under e = Prim.cc
op_same schema (Delete t row) (Delete u other) own below under e = let same = table_same schema t u own below under (ap name_in_op e) in λ i. Delete (same i) (new_row (e i))

abbrev first_or : {X : Type 0} → X → List X → X
first_or d [] = d
first_or d (x ∷ xs) = x

abbrev rest_of : {X : Type 0} → List X → List X
rest_of [] = []
rest_of (x ∷ xs) = xs

ops_same : (schema : List TableDef) (xs ys : List Op) → HaveOwnTableNames schema → AllByRecursion (IsOfSchema schema) xs → AllByRecursion (IsOfSchema schema) ys → written_ops schema xs ≡ written_ops schema ys → xs ≡ ys
ops_same schema [] [] own below under e = refl
ops_same schema [] (y ∷ ys) own below under e = Prim.cc
ops_same schema (x ∷ xs) [] own below under e = Prim.cc
ops_same schema (x ∷ xs) (y ∷ ys) own below under e =
    let one = op_same schema x y own below.0 under.0 (ap (first_or (written_op schema x)) e) in
    let more = ops_same schema xs ys own below.1 under.1 (ap rest_of e) in
    λ i. one i ∷ more i

-- ---- entries, by what is written of them

abbrev ops_in : JournalEntry → List Op
ops_in (Commits s) = s.ops
ops_in (Prepares s) = s.ops
ops_in (Numbers ticket) = []
ops_in (Marks next) = []
ops_in (Defines d text) = []
ops_in (Drops name) = []
ops_in (SetsState name state) = []
ops_in (SetsLoaded name flag) = []

-- the definition, where there is one
abbrev no_definition : CreateGroup
no_definition = record { name = []; kind = ReadOnly; dynamic = false; autorefresh = None; tables = [] }

abbrev definition_in : JournalEntry → CreateGroup
definition_in (Defines c text) = c
definition_in (Commits s) = no_definition
definition_in (Prepares s) = no_definition
definition_in (Numbers ticket) = no_definition
definition_in (Marks next) = no_definition
definition_in (Drops name) = no_definition
definition_in (SetsState name state) = no_definition
definition_in (SetsLoaded name flag) = no_definition

abbrev ops_by_name : Entry → List by_name.Op
ops_by_name (Commit ticket ops) = ops
ops_by_name (Prepare ticket ops) = ops
ops_by_name (Passed ticket) = []
ops_by_name (Mark ticket) = []
ops_by_name (Defined text) = []
ops_by_name (Dropped name) = []
ops_by_name (Turned name state) = []
ops_by_name (Loaded name flag) = []

abbrev made_of : List Op → CreateGroup → Entry → JournalEntry
made_of ops d (Commit ticket named) = Commits (record { ticket = ticket; ops = ops })
made_of ops d (Prepare ticket named) = Prepares (record { ticket = ticket; ops = ops })
made_of ops d (Passed ticket) = Numbers ticket.0
made_of ops d (Mark ticket) = Marks ticket.0
made_of ops d (Defined text) = Defines d text
made_of ops d (Dropped name) = Drops name
made_of ops d (Turned name state) = SetsState name (read_state state)
made_of ops d (Loaded name flag) = SetsLoaded name flag

same_state : (state : RefreshState) → read_state (written_state state) ≡ state
same_state refresh.Off = refl
same_state refresh.Paused = refl
same_state refresh.On = refl

made_again : (schema : List TableDef) (e : JournalEntry) → made_of (ops_in e) (definition_in e) (written schema e) ≡ e
made_again schema (Commits s) = refl
made_again schema (Prepares s) = refl
made_again schema (Numbers ticket) = refl
made_again schema (Marks next) = refl
made_again schema (Defines c text) = refl
made_again schema (Drops name) = refl
made_again schema (SetsState name state) = ap (SetsState name) (same_state state)
made_again schema (SetsLoaded name flag) = refl

named_again : (schema : List TableDef) (e : JournalEntry) → ops_by_name (written schema e) ≡ written_ops schema (ops_in e)
named_again schema (Commits s) = refl
named_again schema (Prepares s) = refl
named_again schema (Numbers ticket) = refl
named_again schema (Marks next) = refl
named_again schema (Defines c text) = refl
named_again schema (Drops name) = refl
named_again schema (SetsState name state) = refl
named_again schema (SetsLoaded name flag) = refl

tables_in : (schema : List TableDef) (e : JournalEntry) → HasTables schema e → AllByRecursion (IsOfSchema schema) (ops_in e)
tables_in schema (Commits s) h = h
tables_in schema (Prepares s) h = h
tables_in schema (Numbers ticket) h = tt
tables_in schema (Marks next) h = tt
tables_in schema (Defines c text) h = tt
tables_in schema (Drops name) h = tt
tables_in schema (SetsState name state) h = tt
tables_in schema (SetsLoaded name flag) h = tt

-- the second is written as the first
remade : (schema : List TableDef) (e f : JournalEntry) → HaveOwnTableNames schema → HasTables schema e → HasTables schema f → written schema f ≡ written schema e → f ≡ made_of (ops_in e) (definition_in f) (written schema e)
remade schema e f own below under same =
    let ops = ops_same schema (ops_in f) (ops_in e) own (tables_in schema f under) (tables_in schema e below) (sym (named_again schema f) ∙ ap ops_by_name same ∙ named_again schema e) in
    sym (made_again schema f) ∙ (λ i. made_of (ops i) (definition_in f) (same i))

-- ---- definitions

abbrev group_in : CreateGroup → Stmt → CreateGroup
group_in d (statement.CreateGroup c) = c
group_in d s = d

one_group : (text : List ℕ) (c d : CreateGroup) → Spells text (statement.CreateGroup c) → Spells text (statement.CreateGroup d) → c ≡ d
one_group text c d x y = ap (group_in c) (x.2 ∙ sym y.2)

reads_back : (schema : List TableDef) (e f : JournalEntry) (entry : Entry) → HaveOwnTableNames schema → HasTables schema e → HasText e → StandsFor schema f entry → entry ≡ written schema e → ReadsBack e f
reads_back schema (Defines d text) f entry own below reads stands same = by reads
  where
    c : CreateGroup
    c = definition_in f

    is : f ≡ Defines c text
    is = remade schema (Defines d text) f own below stands.tables (stands.is ∙ same)

    spelt : Spells text (statement.CreateGroup c)
    spelt = subst Rattle.tier_journal.specs.Opening.IsSpelt is stands.spelt

    by : HasText (Defines d text) → ReadsBack (Defines d text) f
    by (inl x) = inl (is ∙ ap (λ g. Defines g text) (one_group text c d spelt x))
    by (inr x) = inr (is ∙ ap (λ g. Defines g text) (one_group text c (normal_group d) spelt x))
reads_back schema (Commits s) f entry own below reads stands same = remade schema (Commits s) f own below stands.tables (stands.is ∙ same)
reads_back schema (Prepares s) f entry own below reads stands same = remade schema (Prepares s) f own below stands.tables (stands.is ∙ same)
reads_back schema (Numbers ticket) f entry own below reads stands same = remade schema (Numbers ticket) f own below stands.tables (stands.is ∙ same)
reads_back schema (Marks next) f entry own below reads stands same = remade schema (Marks next) f own below stands.tables (stands.is ∙ same)
reads_back schema (Drops name) f entry own below reads stands same = remade schema (Drops name) f own below stands.tables (stands.is ∙ same)
reads_back schema (SetsState name state) f entry own below reads stands same = remade schema (SetsState name state) f own below stands.tables (stands.is ∙ same) ∙ ap (SetsState name) (same_state state)
reads_back schema (SetsLoaded name flag) f entry own below reads stands same = remade schema (SetsLoaded name flag) f own below stands.tables (stands.is ∙ same)

all_back : (schema : List TableDef) (entries said : List JournalEntry) (placed : List Placed) → HaveOwnTableNames schema → AllByRecursion (HasTables schema) entries → AllByRecursion HasText entries → StandForAll schema said placed → entries_of placed ≡ written_all schema entries → ReadBack entries said
all_back schema [] [] placed own below reads stand are = tt
all_back schema [] (f ∷ said) [] own below reads stand are = absurd stand
all_back schema [] (f ∷ said) (p ∷ placed) own below reads stand are = Prim.cc
all_back schema (e ∷ entries) [] [] own below reads stand are = Prim.cc
all_back schema (e ∷ entries) [] (p ∷ placed) own below reads stand are = absurd stand
all_back schema (e ∷ entries) (f ∷ said) [] own below reads stand are = absurd stand
all_back schema (e ∷ entries) (f ∷ said) (p ∷ placed) own below reads stand are = (
  reads_back schema e f p.1 own below.0 reads.0 stand.0 (ap (first_or p.1) are),
  all_back schema entries said placed own below.1 reads.1 stand.1 (ap rest_of are),
)

-- ---- under a schema that has grown

stands_grown : (schema more : List TableDef) (f : JournalEntry) (entry : Entry) → StandsFor schema f entry → StandsFor (schema ++ more) f entry
stands_grown schema more f entry s = record {
  is = ap (first_or (written schema f)) (all_grown schema more (f ∷ []) (s.tables, tt)) ∙ s.is;
  tables = (all_stay schema more (f ∷ []) (s.tables, tt)).0;
  spelt = s.spelt;
}

stand_grown : (schema more : List TableDef) (said : List JournalEntry) (placed : List Placed) → StandForAll schema said placed → StandForAll (schema ++ more) said placed
stand_grown schema more [] [] s = tt
stand_grown schema more [] (p ∷ placed) s = absurd s
stand_grown schema more (f ∷ said) [] s = absurd s
stand_grown schema more (f ∷ said) (p ∷ placed) s = (stands_grown schema more f p.1 s.0, stand_grown schema more said placed s.1)

-- ---- the slots

-- Slots that give entries under one schema say these alone under another, where both have become a third one, in which no
-- two tables have one name.
pub point_says : (slots : Slots) (entries said : List JournalEntry) (early schema whole : List TableDef) → HasBecome early whole → HasBecome schema whole → HaveOwnTableNames whole → AllByRecursion (HasTables early) entries → AllByRecursion HasText entries
    → Gives slots (written_all early entries) → Say schema slots said → ReadBack entries said
point_says slots entries said early schema whole one two own tables texts gives say =
    all_back whole entries said say.placed own
    (subst (λ l. AllByRecursion (HasTables l) entries) (sym one.is) (all_stay early one.more entries tables)) texts
    (subst (λ l. StandForAll l said say.placed) (sym two.is) (stand_grown schema two.more said say.placed say.stand))
    (ap entries_of (one_journal say.reads gives.reads).entries_same ∙ gives.are ∙ sym (ap (λ l. written_all l entries) one.is ∙ all_grown early one.more entries tables))

slots_say : (o : Held) (w : World) → IsKeptAt o w → (s : TableState) (said : List JournalEntry) → state_of w.history ≡ Some s → Say s.schema o.slots said → ReadBack w.journal.flushed said
slots_say o w k s said leaves say =
    let grown = k.front s leaves in
    point_says o.slots w.journal.flushed said w.tier.schema s.schema s.schema (record { more = grown.0; is = grown.1 }) (no_more s.schema) (k.named s leaves) (flushed_tables w.tier.schema k.journal o.slots w.journal k.keeps) k.texts
    (flushed_gives w.tier.schema k.journal o.slots w.journal k.keeps).gives say

pub left_at : (o : Held) (w : World) → IsKeptAt o w → IsLeftAt o w
left_at o w k = record { history = k.history; says = slots_say o w k }
