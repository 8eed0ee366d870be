-- Entries as slots say them: what the laws of recovery see of them is the same.
use Rattle.std.proofs.Common.{◌≡◌, inl, inr, ℕ, Bool, false, cond, Option, Some, None, List, [], ◌∷◌, ◌++◌, map, slice_get, refl, sym, ap, ◌∙◌}
use Rattle.std.specs.Prelude.{fold}
use Rattle.std.proofs.lemmas.List.{map-append}
use Rattle.tier_base.specs.declared.number.TableId.{TableId}
use Rattle.table_defs.specs.Names.{place_of_table}
use Rattle.table_defs.specs.declared.definition.TableDef.{TableDef}
use Rattle.sql_subset.specs.declared.stmt.CreateGroup.{CreateGroup}
use Rattle.sql_subset.specs.declared.stmt.GroupTable.{GroupTable}
use Rattle.sql_print.specs.Normal.{normal_group, normal_group_table, normal_group_tables}
use Rattle.cache_tier.specs.Definitions.{Placed, is_read_only_kind, placed_from, placed_if}
use Rattle.cache_tier.specs.Journals.{Commits, Defines, Drops, JournalEntry, Marks, Numbers, Prepares, SetsLoaded, SetsState, next_with}
use Rattle.recovery_laws.specs.Notes.{Define}
use Rattle.recovery.specs.Recalling.{note_of, notes_of, written_tables}
use Rattle.reopened_laws.specs.Leaving.{ReadBack, ReadsBack}

-- ---- the tables of a definition

abbrev id_of : Placed → TableId
id_of p = p.id

ids_at : (schema : List TableDef) (one other : List GroupTable) (g h : GroupTable) (t : TableId) → map id_of (placed_if schema one g (Some t)) ≡ map id_of (placed_if schema other h (Some t))
ids_at schema one other g h t = by (slice_get schema t.0) refl
  where
    by : (o : Option TableDef) → slice_get schema t.0 ≡ o → map id_of (placed_if schema one g (Some t)) ≡ map id_of (placed_if schema other h (Some t))
    by None e = rw e refl
    by (Some def) e = rw e refl

ids_if : (schema : List TableDef) (one other : List GroupTable) (g h : GroupTable) (o : Option TableId) → map id_of (placed_if schema one g o) ≡ map id_of (placed_if schema other h o)
ids_if schema one other g h None = refl
ids_if schema one other g h (Some t) = ids_at schema one other g h t

-- tables of the same names are at the same places
ids_first : (schema : List TableDef) (one other : List GroupTable) (g h : GroupTable) (gs hs : List GroupTable) → h.table.name ≡ g.table.name
    → map id_of (placed_from schema (other ++ h ∷ []) hs) ≡ map id_of (placed_from schema (one ++ g ∷ []) gs)
    → map id_of (placed_from schema other (h ∷ hs)) ≡ map id_of (placed_from schema one (g ∷ gs))
ids_first schema one other g h gs hs name rest =
    map-append id_of (placed_if schema other h (place_of_table schema h.table.name)) (placed_from schema (other ++ h ∷ []) hs)
    ∙ (λ i. first i ++ rest i)
    ∙ sym (map-append id_of (placed_if schema one g (place_of_table schema g.table.name)) (placed_from schema (one ++ g ∷ []) gs))
  where
    first : map id_of (placed_if schema other h (place_of_table schema h.table.name)) ≡ map id_of (placed_if schema one g (place_of_table schema g.table.name))
    first = ap (λ n. map id_of (placed_if schema other h (place_of_table schema n))) name ∙ ids_if schema other one h g (place_of_table schema g.table.name)

ids_rest : (schema : List TableDef) (one other gs : List GroupTable) → map id_of (placed_from schema other (map (normal_group_table false) gs)) ≡ map id_of (placed_from schema one gs)
ids_rest schema one other [] = refl
ids_rest schema one other (g ∷ gs) =
    ids_first schema one other g (normal_group_table false g) gs (map (normal_group_table false) gs) refl
    (ids_rest schema (one ++ g ∷ []) (other ++ normal_group_table false g ∷ []) gs)

ids_same : (schema : List TableDef) (dynamic : Bool) (gs : List GroupTable) → map id_of (placed_from schema [] (normal_group_tables dynamic gs)) ≡ map id_of (placed_from schema [] gs)
ids_same schema dynamic [] = refl
ids_same schema dynamic (g ∷ gs) =
    ids_first schema [] [] g (normal_group_table dynamic g) gs (map (normal_group_table false) gs) refl
    (ids_rest schema (g ∷ []) (normal_group_table dynamic g ∷ []) gs)

tables_same : (schema : List TableDef) (d : CreateGroup) → written_tables schema (normal_group d) ≡ written_tables schema d
tables_same schema d = ap (λ l. cond (is_read_only_kind d.kind) [] l) (ids_same schema d.dynamic d.tables)

-- ---- entries

note_same : (schema : List TableDef) (e f : JournalEntry) → ReadsBack e f → note_of schema f ≡ note_of schema e
note_same schema (Defines d text) f (inl is) = ap (note_of schema) is
note_same schema (Defines d text) f (inr is) = ap (note_of schema) is ∙ ap (λ ts. Define d.name ts) (tables_same schema d)
note_same schema (Commits s) f is = ap (note_of schema) is
note_same schema (Prepares s) f is = ap (note_of schema) is
note_same schema (Numbers ticket) f is = ap (note_of schema) is
note_same schema (Marks next) f is = ap (note_of schema) is
note_same schema (Drops name) f is = ap (note_of schema) is
note_same schema (SetsState name state) f is = ap (note_of schema) is
note_same schema (SetsLoaded name flag) f is = ap (note_of schema) is

pub notes_same : (schema : List TableDef) (entries said : List JournalEntry) → ReadBack entries said → notes_of schema said ≡ notes_of schema entries
notes_same schema [] [] is = refl
notes_same schema [] (f ∷ said) is = absurd is
notes_same schema (e ∷ entries) [] is = absurd is
notes_same schema (e ∷ entries) (f ∷ said) is = λ i. note_same schema e f is.0 i ∷ notes_same schema entries said is.1 i

next_same : (n : ℕ) (e f : JournalEntry) → ReadsBack e f → next_with n f ≡ next_with n e
next_same n (Defines d text) f (inl is) = ap (next_with n) is
next_same n (Defines d text) f (inr is) = ap (next_with n) is
next_same n (Commits s) f is = ap (next_with n) is
next_same n (Prepares s) f is = ap (next_with n) is
next_same n (Numbers ticket) f is = ap (next_with n) is
next_same n (Marks next) f is = ap (next_with n) is
next_same n (Drops name) f is = ap (next_with n) is
next_same n (SetsState name state) f is = ap (next_with n) is
next_same n (SetsLoaded name flag) f is = ap (next_with n) is

pub behind_same : (n : ℕ) (entries said : List JournalEntry) → ReadBack entries said → fold next_with n said ≡ fold next_with n entries
behind_same n [] [] is = refl
behind_same n [] (f ∷ said) is = absurd is
behind_same n (e ∷ entries) [] is = absurd is
behind_same n (e ∷ entries) (f ∷ said) is = ap (λ k. fold next_with k said) (next_same n e f is.0) ∙ behind_same (next_with n e) entries said is.1
