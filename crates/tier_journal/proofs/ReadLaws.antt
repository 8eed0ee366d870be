-- Reading entries in the tier's words.
use Rattle.std.proofs.Common.{◌≡◌, ℕ, zero, suc, ◌+◌, ◌<◌, Option, Some, None, List, [], ◌∷◌, ◌++◌, length, get_or, map, take, drop, refl, sym, ap, subst, ◌∙◌, arith, inl, inr}
use Rattle.std.specs.List.{AllByRecursion}
use Rattle.std.proofs.lemmas.Bool.{cases_lt}
use Rattle.std.proofs.lemmas.List.{drop_more, map_push, take-append-drop, take_more}
use Rattle.std.proofs.lemmas.Option.{slice_get-get_or}
use Rattle.tier_base.specs.declared.number.TableId.{TableId}
use Rattle.tier_base.specs.declared.number.Ticket.{Ticket}
use Rattle.table_defs.specs.declared.definition.TableDef.{TableDef}
use Rattle.table_state.specs.declared.operation.Op.TheVariants.{Insert, Update, Delete}
use Rattle.sql_subset.specs.Lines as lines
use Rattle.sql_subset.specs.declared.stmt.Stmt.TheVariants as statements
use Rattle.journal_entries.specs.declared.entry.Entry.{Entry}
use Rattle.journal_entries.specs.declared.entry.Entry.TheVariants.{Commit, Prepare, Defined}
use Rattle.journal_entries.specs.declared.entry.Op as by_name
use Rattle.journal_entries.specs.declared.entry.Op.TheVariants as named
use Rattle.cache_tier.specs.Journals.{JournalEntry, Commits, Prepares, Numbers, Marks, Defines, Drops, SetsState, SetsLoaded}
use Rattle.outside.specs.declared.disk.Slot.{Slot}
use Rattle.outside.specs.Holding.{Slots}
use Rattle.commit_journal.specs.declared.journal.Journal as commit
use Rattle.commit_journal.specs.Layout.{Placed, Reads, entries_of, new}
use Rattle.commit_journal.specs.Opening.{IsBlank, IsNew}
use Rattle.commit_journal.specs.Resting.{AtRest}
use Rattle.commit_journal.proofs.OneJournal.{one_journal}
use Rattle.tier_journal.specs.declared.journal.TierJournal.{TierJournal}
use Rattle.tier_journal.specs.declared.opening.Found.{Found}
use Rattle.tier_journal.specs.declared.opening.Found.TheVariants.{Damaged, Whole}
use Rattle.tier_journal.specs.declared.record.Record.{Record}
use Rattle.tier_journal.specs.Keeping.{Keeps}
use Rattle.tier_journal.specs.Opening.{Counts, IsFirstUnfit, IsNewFound, IsOfJournal, ShowsFound, StandForAll, StandsFor, StandsForNone, meaning, meanings, opened_journal, places_of}
use Rattle.tier_journal.specs.Reading.{IsReadOp, IsReadOps, IsReadText, name_in_op, on_table}
use Rattle.tier_journal.specs.Writing.{HasTables, IsOfSchema, name_in, name_of, written, written_all, written_op, written_ops}
use Rattle.tier_journal.proofs.Lists.{all_append}

-- ---- tables

name_at : (schema : List TableDef) (i : ℕ) (d : TableDef) → i < length schema → name_in schema (record { 0 = i }) ≡ (get_or schema i d).name
name_at schema i d lt = ap (λ (o : Option TableDef). name_of o) (slice_get-get_or schema i d lt)

pub table_found : (schema : List TableDef) (name bytes : List ℕ) (i : ℕ) (d : TableDef) → i < length schema → bytes ≡ (get_or schema i d).name → bytes ≡ name → name_in schema (record { 0 = i }) ≡ name
table_found schema name bytes i d lt is same = name_at schema i d lt ∙ sym is ∙ same

-- no table before this place has the name
abbrev pub NoneBefore : List TableDef → List ℕ → ℕ → Type 0
NoneBefore schema name i = (t : TableId) → t.0 < i → name_in schema t ≡ name → ⊥

pub none_more : (schema : List TableDef) (name bytes : List ℕ) (i : ℕ) (d : TableDef) → i < length schema → bytes ≡ (get_or schema i d).name → (bytes ≡ name → ⊥) → NoneBefore schema name i → NoneBefore schema name (i + 1)
none_more schema name bytes i d lt is other none t h same = elim (cases_lt t.0 i) [
  | inl before ↦ none t before same
  | inr past ↦
      let here : t.0 ≡ i = omega (arith, past, h) in
      let one : name_in schema (record { 0 = i }) ≡ name = ap (λ (n : ℕ). name_in schema (record { 0 = n })) (sym here) ∙ same in
      other (is ∙ sym (name_at schema i d lt) ∙ one)
]

-- ---- operations

pub no_op : (schema : List TableDef) (e : by_name.Op) → ((t : TableId) → t.0 < length schema → name_in schema t ≡ name_in_op e → ⊥) → IsReadOp schema e None
no_op schema e none (Insert t row) h is = none t h (ap name_in_op is)
no_op schema e none (Update t old next) h is = none t h (ap name_in_op is)
no_op schema e none (Delete t row) h is = none t h (ap name_in_op is)

pub some_op : (schema : List TableDef) (e : by_name.Op) (t : TableId) → t.0 < length schema → name_in schema t ≡ name_in_op e → IsReadOp schema e (Some (on_table t e))
some_op schema (named.Insert name row) t h is = (h, ap (λ (n : List ℕ). named.Insert n row) is)
some_op schema (named.Update name old next) t h is = (h, ap (λ (n : List ℕ). named.Update n old next) is)
some_op schema (named.Delete name row) t h is = (h, ap (λ (n : List ℕ). named.Delete n row) is)

-- an element that none is mapped to
none_mapped : {X Y : Type 0} (P : X → Type 0) (f : X → Y) (ys : List Y) (i : ℕ) (d : Y) → i < length ys → ((x : X) → P x → f x ≡ get_or ys i d → ⊥) → (xs : List X) → AllByRecursion P xs → map f xs ≡ ys → ⊥
none_mapped P f [] i d lt none xs h is = absurd (omega arith)
none_mapped P f (y ∷ ys) i d lt none [] h is = absurd cc
none_mapped P f (y ∷ ys) zero d lt none (x ∷ xs) h is = none x h.0 (ap (λ l. get_or l 0 y) is)
none_mapped P f (y ∷ ys) (suc i) d lt none (x ∷ xs) h is = none_mapped P f ys i d (omega arith) none xs h.1 (ap (λ l. drop 1 l) is)

pub no_ops : (schema : List TableDef) (es : List by_name.Op) (i : ℕ) (d : by_name.Op) → i < length es → IsReadOp schema (get_or es i d) None → IsReadOps schema es None
no_ops schema es i d lt none ops h is = none_mapped (IsOfSchema schema) (written_op schema) es i d lt none ops h is

-- ---- entries

commit_ops : (t u : Ticket) (a b : List by_name.Op) → Commit t a ≡ Commit u b → a ≡ b
commit_ops t u a b e = cc

prepare_ops : (t u : Ticket) (a b : List by_name.Op) → Prepare t a ≡ Prepare u b → a ≡ b
prepare_ops t u a b e = cc

defined_text : (a b : List ℕ) → Defined a ≡ Defined b → a ≡ b
defined_text a b e = cc

pub no_commit : (schema : List TableDef) (t : Ticket) (es : List by_name.Op) → IsReadOps schema es None → StandsForNone schema (Commit t es)
no_commit schema t es none (Commits s) h = none s.ops h.tables (commit_ops s.ticket t (written_ops schema s.ops) es h.is)
no_commit schema t es none (Prepares s) h = let e = h.is in absurd cc
no_commit schema t es none (Numbers n) h = let e = h.is in absurd cc
no_commit schema t es none (Marks n) h = let e = h.is in absurd cc
no_commit schema t es none (Defines d text) h = let e = h.is in absurd cc
no_commit schema t es none (Drops g) h = let e = h.is in absurd cc
no_commit schema t es none (SetsState g state) h = let e = h.is in absurd cc
no_commit schema t es none (SetsLoaded g flag) h = let e = h.is in absurd cc

pub no_prepare : (schema : List TableDef) (t : Ticket) (es : List by_name.Op) → IsReadOps schema es None → StandsForNone schema (Prepare t es)
no_prepare schema t es none (Commits s) h = let e = h.is in absurd cc
no_prepare schema t es none (Prepares s) h = none s.ops h.tables (prepare_ops s.ticket t (written_ops schema s.ops) es h.is)
no_prepare schema t es none (Numbers n) h = let e = h.is in absurd cc
no_prepare schema t es none (Marks n) h = let e = h.is in absurd cc
no_prepare schema t es none (Defines d text) h = let e = h.is in absurd cc
no_prepare schema t es none (Drops g) h = let e = h.is in absurd cc
no_prepare schema t es none (SetsState g state) h = let e = h.is in absurd cc
no_prepare schema t es none (SetsLoaded g flag) h = let e = h.is in absurd cc

pub no_definition : (schema : List TableDef) (text : List ℕ) → IsReadText text None → StandsForNone schema (Defined text)
no_definition schema text none (Commits s) h = let e = h.is in absurd cc
no_definition schema text none (Prepares s) h = let e = h.is in absurd cc
no_definition schema text none (Numbers n) h = let e = h.is in absurd cc
no_definition schema text none (Marks n) h = let e = h.is in absurd cc
no_definition schema text none (Defines d other) h = none d (subst (λ (l : List ℕ). lines.Spells l (statements.CreateGroup d)) (defined_text other text h.is) h.spelt)
no_definition schema text none (Drops g) h = let e = h.is in absurd cc
no_definition schema text none (SetsState g state) h = let e = h.is in absurd cc
no_definition schema text none (SetsLoaded g flag) h = let e = h.is in absurd cc

-- ---- lists of entries

pub stand_push : (schema : List TableDef) (entries : List JournalEntry) (placed : List Placed) (x : JournalEntry) (p : Placed) → StandForAll schema entries placed → StandsFor schema x p.1 → StandForAll schema (entries ++ x ∷ []) (placed ++ p ∷ [])
stand_push schema [] [] x p h s = (s, tt)
stand_push schema [] (q ∷ placed) x p h s = absurd h
stand_push schema (y ∷ entries) [] x p h s = absurd h
stand_push schema (y ∷ entries) (q ∷ placed) x p h s = (h.0, stand_push schema entries placed x p h.1 s)

stands_as : (schema : List TableDef) (x : JournalEntry) (p q : Placed) → p ≡ q → StandsFor schema x p.1 → StandsFor schema x q.1
stands_as schema x p q e s = subst (λ (r : Placed). StandsFor schema x r.1) e s

pub stand_more : (schema : List TableDef) (records : List (ℕ × Record)) (record' : ℕ × Record) (placed : List Placed) (i : ℕ) (p : Placed) → i < length placed → p ≡ get_or placed i p → StandForAll schema (meanings records) (take i placed) → StandsFor schema (meaning record'.1) p.1
    → StandForAll schema (meanings (records ++ record' ∷ [])) (take (i + 1) placed)
stand_more schema records record' placed i p lt is h s =
    let one = stand_push schema (meanings records) (take i placed) (meaning record'.1) (get_or placed i p) h (stands_as schema (meaning record'.1) p (get_or placed i p) is s) in
    subst (λ (l : List JournalEntry). StandForAll schema l (take (i + 1) placed)) (sym (map_push (λ (r : ℕ × Record). meaning r.1) records record'))
    (subst (λ (l : List Placed). StandForAll schema (meanings records ++ meaning record'.1 ∷ []) l) (sym (take_more placed i p lt)) one)

pub places_more : (records : List (ℕ × Record)) (record' : Record) (placed : List Placed) (i : ℕ) (p : Placed) → i < length placed → p ≡ get_or placed i p → places_of records ≡ places_of (take i placed)
    → places_of (records ++ (p.0, record') ∷ []) ≡ places_of (take (i + 1) placed)
places_more records record' placed i p lt is h =
    map_push (λ (r : ℕ × Record). r.0) records (p.0, record')
    ∙ ap (λ (l : List ℕ). l ++ p.0 ∷ []) h
    ∙ ap (λ (q : Placed). places_of (take i placed) ++ q.0 ∷ []) is
    ∙ sym (map_push (λ (q : Placed). q.0) (take i placed) (get_or placed i p))
    ∙ ap (λ (l : List Placed). places_of l) (sym (take_more placed i p lt))

pub first_unfit : (schema : List TableDef) (placed : List Placed) (i : ℕ) (p : Placed) (entries : List JournalEntry) → i < length placed → p ≡ get_or placed i p → StandForAll schema entries (take i placed) → StandsForNone schema p.1 → IsFirstUnfit schema placed p.0
first_unfit schema placed i p entries lt is fit unfit = record {
  before = take i placed;
  entry = p.1;
  behind = drop (i + 1) placed;
  are = sym (take-append-drop i placed) ∙ ap (λ (l : List Placed). take i placed ++ l) (drop_more placed i p lt) ∙ ap (λ (q : Placed). take i placed ++ q ∷ drop (i + 1) placed) (sym is);
  entries = entries;
  fit = fit;
  unfit = unfit;
}

stand_written : (schema : List TableDef) (entries : List JournalEntry) (placed : List Placed) → StandForAll schema entries placed → entries_of placed ≡ written_all schema entries
stand_written schema [] [] h = refl
stand_written schema [] (p ∷ placed) h = absurd h
stand_written schema (x ∷ entries) [] h = absurd h
stand_written schema (x ∷ entries) (p ∷ placed) h = ap (λ (e : Entry). e ∷ entries_of placed) (sym h.0.is) ∙ ap (λ (l : List Entry). written schema x ∷ l) (stand_written schema entries placed h.1)

stand_tables : (schema : List TableDef) (entries : List JournalEntry) (placed : List Placed) → StandForAll schema entries placed → AllByRecursion (HasTables schema) entries
stand_tables schema [] [] h = tt
stand_tables schema [] (p ∷ placed) h = absurd h
stand_tables schema (x ∷ entries) [] h = absurd h
stand_tables schema (x ∷ entries) (p ∷ placed) h = (h.0.tables, stand_tables schema entries placed h.1)

-- ---- what was opened

pub opened_keeps : (schema : List TableDef) (t : TierJournal) (now : Slots) (entries : List JournalEntry) (placed : List Placed) → StandForAll schema entries placed → AtRest t.journal now (entries_of placed) [] → Keeps schema t now (opened_journal t entries)
opened_keeps schema t now entries placed h r = record {
  kept = refl;
  rests = subst (λ (l : List Entry). AtRest t.journal now l []) (stand_written schema entries placed h) r;
  written = refl;
  generation = refl;
  tables = all_append (HasTables schema) entries [] (stand_tables schema entries placed h) tt;
}

pub counts_of : (j : commit.Journal) (now : Slots) (placed : List Placed) (damaged : Option (Slot × ℕ)) (slot : Slot) → (damaged ≡ None → AtRest j now (entries_of placed) []) → (damaged ≡ None → slot ≡ j.slot) → ((s : Slot) (place : ℕ) → damaged ≡ Some (s, place) → slot ≡ s)
    → Counts now placed damaged slot
counts_of j now placed None slot rests none some = (j, rests refl, sym (none refl))
counts_of j now placed (Some d) slot rests none some = some d.0 d.1 refl

no_placed : (slots : Slots) (placed : List Placed) (damaged : Option (Slot × ℕ)) → IsBlank slots → Reads slots placed damaged → (placed ≡ []) × (damaged ≡ None)
no_placed slots placed damaged blank reads = let x = one_journal reads (new blank.first blank.second) in (x.entries_same, x.damaged_same)

no_records : (schema : List TableDef) (records : List (ℕ × Record)) (placed : List Placed) → placed ≡ [] → StandForAll schema (meanings records) placed → records ≡ []
no_records schema [] placed e h = refl
no_records schema (x ∷ records) [] e h = absurd h
no_records schema (x ∷ records) (p ∷ placed) e h = absurd cc

unfit_none : (schema : List TableDef) (placed : List Placed) (place : ℕ) → placed ≡ [] → IsFirstUnfit schema placed place → ⊥
unfit_none schema placed place e u = no_middle u.before (place, u.entry) u.behind (sym u.are ∙ e)
  where
    no_middle : (xs : List Placed) (x : Placed) (ys : List Placed) → xs ++ x ∷ ys ≡ [] → ⊥
    no_middle [] x ys e = absurd cc
    no_middle (y ∷ xs) x ys e = absurd cc

pub new_found : (schema : List TableDef) (slots now : Slots) (j : commit.Journal) (found : Found) → IsBlank slots → IsNew j → IsOfJournal j found → ShowsFound schema slots now found → IsNewFound found
new_found schema slots now j (Whole t records) blank is same shows =
    let e = no_placed slots shows.0 None blank shows.1 in
    let gate : t.journal.gate + 1 ≡ 11 = omega (arith, ap (λ (k : commit.Journal). k.gate) same, is.gate) in
    let generation : t.journal.generation ≡ 1 = ap (λ (k : commit.Journal). k.generation) same ∙ is.generation in
    (no_records schema records.items shows.0 e.0 shows.2, rw (gate, generation) refl)
new_found schema slots now j (Damaged slot place) blank is same shows =
    let e = no_placed slots shows.placed shows.damaged blank shows.reads in
    elim shows.there [
      | inl u ↦ unfit_none schema shows.placed place e.0 u.0
      | inr d ↦ let z = sym e.1 ∙ d.2 in absurd cc
    ]
