-- Entries under a schema that has grown, and the order of what is written.
use Rattle.std.proofs.Common.{◌≡◌, ℕ, ◌<◌, Option, List, [], ◌∷◌, ◌++◌, length, refl, ap, arith}
use Rattle.std.specs.Prelude.{fold}
use Rattle.std.specs.List.{AllByRecursion}
use Rattle.std.proofs.lemmas.List.{length-append}
use Rattle.tier_base.specs.declared.number.TableId.{TableId}
use Rattle.table_defs.specs.declared.definition.TableDef.{TableDef}
use Rattle.table_state.specs.declared.operation.Op.{Op}
use Rattle.table_state.specs.declared.operation.Op.TheVariants.{Insert, Update, Delete}
use Rattle.journal_entries.specs.declared.entry.Entry.TheVariants.{Commit, Prepare}
use Rattle.journal_entries.specs.declared.entry.Op.TheVariants as named
use Rattle.journal_entries.specs.declared.standing.Standing.{Standing}
use Rattle.journal_entries.specs.Bodies.{behind, behind_all}
use Rattle.cache_tier.specs.Journals.{JournalEntry, Commits, Prepares, Numbers, Marks, Defines, Drops, SetsState, SetsLoaded, next_with}
use Rattle.tier_journal.specs.Writing.{HasTables, IsOfSchema, name_in, name_of, written, written_all, written_op, written_ops}
use Rattle.tier_journal.proofs.Lists.{all_weaker, map_same, slice_get_grown}

name_grown : (schema more : List TableDef) (t : TableId) → t.0 < length schema → name_in (schema ++ more) t ≡ name_in schema t
name_grown schema more t h = ap (λ (d : Option TableDef). name_of d) (slice_get_grown schema more t.0 h)

op_grown : (schema more : List TableDef) (op : Op) → IsOfSchema schema op → written_op (schema ++ more) op ≡ written_op schema op
op_grown schema more (Insert t row) h = ap (λ n. named.Insert n row) (name_grown schema more t h)
op_grown schema more (Update t old new) h = ap (λ n. named.Update n old new) (name_grown schema more t h)
op_grown schema more (Delete t row) h = ap (λ n. named.Delete n row) (name_grown schema more t h)

ops_grown : (schema more : List TableDef) (ops : List Op) → AllByRecursion (IsOfSchema schema) ops → written_ops (schema ++ more) ops ≡ written_ops schema ops
ops_grown schema more ops h = map_same (IsOfSchema schema) (written_op (schema ++ more)) (written_op schema) (op_grown schema more) ops h

entry_grown : (schema more : List TableDef) (e : JournalEntry) → HasTables schema e → written (schema ++ more) e ≡ written schema e
entry_grown schema more (Commits s) h = ap (λ ops. Commit s.ticket ops) (ops_grown schema more s.ops h)
entry_grown schema more (Prepares s) h = ap (λ ops. Prepare s.ticket ops) (ops_grown schema more s.ops h)
entry_grown schema more (Numbers t) h = refl
entry_grown schema more (Marks t) h = refl
entry_grown schema more (Defines d text) h = refl
entry_grown schema more (Drops g) h = refl
entry_grown schema more (SetsState g state) h = refl
entry_grown schema more (SetsLoaded g flag) h = refl

pub all_grown : (schema more : List TableDef) (entries : List JournalEntry) → AllByRecursion (HasTables schema) entries → written_all (schema ++ more) entries ≡ written_all schema entries
all_grown schema more entries h = map_same (HasTables schema) (written (schema ++ more)) (written schema) (entry_grown schema more) entries h

op_stays : (schema more : List TableDef) (op : Op) → IsOfSchema schema op → IsOfSchema (schema ++ more) op
op_stays schema more op h = omega (arith, h, length-append schema more)

tables_stay : (schema more : List TableDef) (e : JournalEntry) → HasTables schema e → HasTables (schema ++ more) e
tables_stay schema more (Commits s) h = all_weaker (IsOfSchema schema) (IsOfSchema (schema ++ more)) (op_stays schema more) s.ops h
tables_stay schema more (Prepares s) h = all_weaker (IsOfSchema schema) (IsOfSchema (schema ++ more)) (op_stays schema more) s.ops h
tables_stay schema more (Numbers t) h = tt
tables_stay schema more (Marks t) h = tt
tables_stay schema more (Defines d text) h = tt
tables_stay schema more (Drops g) h = tt
tables_stay schema more (SetsState g state) h = tt
tables_stay schema more (SetsLoaded g flag) h = tt

pub all_stay : (schema more : List TableDef) (entries : List JournalEntry) → AllByRecursion (HasTables schema) entries → AllByRecursion (HasTables (schema ++ more)) entries
all_stay schema more entries h = all_weaker (HasTables schema) (HasTables (schema ++ more)) (tables_stay schema more) entries h

-- ---- the next ticket

step_next : (schema : List TableDef) (s : Standing) (n : ℕ) (e : JournalEntry) → s.last < n → (behind s (written schema e)).last < next_with n e
step_next schema s n (Commits t) h = omega arith
step_next schema s n (Prepares t) h = omega arith
step_next schema s n (Numbers t) h = omega arith
step_next schema s n (Marks t) h = omega arith
step_next schema s n (Defines d text) h = h
step_next schema s n (Drops g) h = h
step_next schema s n (SetsState g state) h = h
step_next schema s n (SetsLoaded g flag) h = h

pub last_next : (schema : List TableDef) (s : Standing) (n : ℕ) (entries : List JournalEntry) → s.last < n → (behind_all s (written_all schema entries)).last < fold next_with n entries
last_next schema s n [] h = h
last_next schema s n (e ∷ entries) h = last_next schema (behind s (written schema e)) (next_with n e) entries (step_next schema s n e h)
