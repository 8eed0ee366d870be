-- What a new slot begins with: entries that come to a batch one by one, and those that a tier has.
use Rattle.std.proofs.Common.{◌≡◌, ◌≤◌, ◌<◌, ◌+◌, ℕ, zero, suc, Bool, true, false, cond, Some, List, [], ◌∷◌, ◌++◌, ◌^◌, filter, length, map, slice_get, take, refl, sym, ap, ◌∙◌, subst, append_assoc, arith}
use Rattle.std.proofs.lemmas.List.{append-nil, map-append}
use Rattle.table_defs.specs.declared.definition.TableDef.{TableDef}
use Rattle.table_state.specs.declared.history.Sealed.{Sealed}
use Rattle.group_catalog.specs.Catalogs.{groups_in}
use Rattle.journal_entries.specs.Bodies.{beginning}
use Rattle.journal_entries.specs.Spelling.{IsEntry}
use Rattle.cache_tier.specs.Definitions.{text_of}
use Rattle.cache_tier.specs.Groups.{Group, is_read_only}
use Rattle.sql_subset.specs.declared.stmt.CreateGroup.{CreateGroup}
use Rattle.cache_tier.specs.Journals.{Commits, Defines, JournalEntry, Marks}
use Rattle.cache_tier.specs.Rotations.{definition_entry, slot_entries}
use Rattle.cache_tier.specs.TierStates.{Tier}
use Rattle.tier_journal.specs.declared.batch.Batch.{Batch}
use Rattle.tier_journal.specs.Batches.{Adds, Holds, IsEmpty}
use Rattle.tier_journal.specs.Writing.{written}
use Rattle.stored_tier.specs.declared.tier.Tier.{Tier as Stored}
use Rattle.stored_tier.specs.NewSlots.{AddsAll, begun_entries, definition_entries, flag_entries, flag_entry, state_entries, state_entry}
use Rattle.stored_tier.specs.Stored.{IsStoredAs, without_list}
use Rattle.stored_tier.proofs.FillSteps.{take_one, take_past}

-- ---- batches

holds_none : (schema : List TableDef) (b : Batch) → IsEmpty b beginning → Holds 2 schema b []
holds_none schema b e = record {
  spells = record { are = e.bytes; each = tt; order = tt; behind = e.standing ∙ sym e.begins };
  tables = tt;
}

pub marked : (schema : List TableDef) (b new : Batch) (e : JournalEntry) → IsEmpty b beginning → Adds schema b new e → IsEntry 2 (written schema e) → Holds 2 schema new (e ∷ [])
marked schema b new e empty adds is = adds.holds 2 [] is (holds_none schema b empty)

pub adds_none : (b : Batch) → AddsAll [] b b
adds_none b = record { begins = refl; holds = λ schema before holds. subst (Holds 2 schema b) (sym (append-nil before)) holds }

pub adds_more : (xs ys : List JournalEntry) (a b c : Batch) → AddsAll xs a b → AddsAll ys b c → AddsAll (xs ++ ys) a c
adds_more xs ys a b c one two = record {
  begins = two.begins ∙ one.begins;
  holds = λ schema before holds. subst (Holds 2 schema c) (append_assoc before xs ys) (two.holds schema (before ++ xs) (one.holds schema before holds));
}

pub adds_one : (e : JournalEntry) (a b : Batch) → ((schema : List TableDef) → IsEntry 2 (written schema e)) → ((schema : List TableDef) → Adds schema a b e) → AddsAll (e ∷ []) a b
adds_one e a b is adds = record {
  begins = (adds []).begins;
  holds = λ schema before holds. (adds schema).holds 2 before (is schema) holds;
}

pub definition_added : (g : Group) (text : List ℕ) (a b : Batch) → length text < 2 ^ 32 → text ≡ text_of g.def.declared → ((schema : List TableDef) (def : CreateGroup) → Adds schema a b (Defines def text)) → AddsAll (definition_entry g ∷ []) a b
definition_added g text a b small is adds =
    subst (λ t. AddsAll (Defines g.def.declared t ∷ []) a b) is
    (adds_one (Defines g.def.declared text) a b (λ schema. small) (λ schema. adds schema g.def.declared))

-- ---- of a list of groups, one by one

map_last : {X Y : Type 0} (f : X → Y) (xs : List X) (x : X) → map f (xs ++ x ∷ []) ≡ map f xs ++ f x ∷ []
map_last f xs x = map-append f xs (x ∷ [])

filter_last : {X : Type 0} (p : X → Bool) (xs : List X) (x : X) → filter p (xs ++ x ∷ []) ≡ filter p xs ++ filter p (x ∷ [])
filter_last p [] x = refl
filter_last p (y ∷ xs) x = by (filter_last p xs x) (p y)
  where
    by : filter p (xs ++ x ∷ []) ≡ filter p xs ++ filter p (x ∷ []) → (b : Bool) → cond b (y ∷ filter p (xs ++ x ∷ [])) (filter p (xs ++ x ∷ [])) ≡ cond b (y ∷ filter p xs) (filter p xs) ++ filter p (x ∷ [])
    by e true = ap (λ l. y ∷ l) e
    by e false = e

pub definitions_next : (groups : List Group) (i : ℕ) (g : Group) (a b c : Batch) → slice_get groups i ≡ Some g → AddsAll (definition_entries (take i groups)) a b → AddsAll (definition_entry g ∷ []) b c → AddsAll (definition_entries (take (i + 1) groups)) a c
definitions_next groups i g a b c at before one =
    subst (λ es. AddsAll es a c) (sym (ap definition_entries (take_one groups i g at) ∙ map_last definition_entry (take i groups) g))
    (adds_more (definition_entries (take i groups)) (definition_entry g ∷ []) a b c before one)

there_is : (groups : List Group) (i : ℕ) → i < length groups → (g : Group) × (slice_get groups i ≡ Some g)
there_is [] i lt = absurd (omega (arith, lt))
there_is (g ∷ groups) zero lt = (g, refl)
there_is (g ∷ groups) (suc i) lt = there_is groups i (omega (arith, lt))

pub definitions_step : (groups now : List Group) (i : ℕ) (a b c : Batch) → now ≡ groups → i < length groups → AddsAll (definition_entries (take i groups)) a b → ((g : Group) → slice_get now i ≡ Some g → AddsAll (definition_entry g ∷ []) b c) → AddsAll (definition_entries (take (i + 1) groups)) a c
definitions_step groups now i a b c same lt before one =
    let it = there_is groups i lt in
    definitions_next groups i it.0 a b c it.1 before (one it.0 (ap (λ gs. slice_get gs i) same ∙ it.1))

states_last : (xs : List Group) (x : Group) → state_entries (xs ++ x ∷ []) ≡ state_entries xs ++ state_entries (x ∷ [])
states_last xs x = ap (map state_entry) (filter_last is_read_only xs x) ∙ map-append state_entry (filter is_read_only xs) (filter is_read_only (x ∷ []))

pub states_next : (groups : List Group) (i : ℕ) (g : Group) (a b c : Batch) → slice_get groups i ≡ Some g → AddsAll (state_entries (take i groups)) a b → AddsAll (state_entries (g ∷ [])) b c → AddsAll (state_entries (take (i + 1) groups)) a c
states_next groups i g a b c at before one =
    subst (λ es. AddsAll es a c) (sym (ap state_entries (take_one groups i g at) ∙ states_last (take i groups) g))
    (adds_more (state_entries (take i groups)) (state_entries (g ∷ [])) a b c before one)

flags_last : (xs : List Group) (x : Group) → flag_entries (xs ++ x ∷ []) ≡ flag_entries xs ++ flag_entries (x ∷ [])
flags_last xs x = ap (map flag_entry) (filter_last (λ g. g.loaded) xs x) ∙ map-append flag_entry (filter (λ g. g.loaded) xs) (filter (λ g. g.loaded) (x ∷ []))

pub flags_next : (groups : List Group) (i : ℕ) (g : Group) (a b c : Batch) → slice_get groups i ≡ Some g → AddsAll (flag_entries (take i groups)) a b → AddsAll (flag_entries (g ∷ [])) b c → AddsAll (flag_entries (take (i + 1) groups)) a c
flags_next groups i g a b c at before one =
    subst (λ es. AddsAll es a c) (sym (ap flag_entries (take_one groups i g at) ∙ flags_last (take i groups) g))
    (adds_more (flag_entries (take i groups)) (flag_entries (g ∷ [])) a b c before one)

pub all_taken : (entries : List Group → List JournalEntry) (groups : List Group) (i : ℕ) (a b : Batch) → length groups ≤ i → AddsAll (entries (take i groups)) a b → AddsAll (entries groups) a b
all_taken entries groups i a b le adds = subst (λ gs. AddsAll (entries gs) a b) (take_past groups i le) adds

-- what one group adds
pub state_added : (g : Group) (a b : Batch) → is_read_only g ≡ true → AddsAll (state_entry g ∷ []) a b → AddsAll (state_entries (g ∷ [])) a b
state_added g a b is adds = subst (λ x. AddsAll (map state_entry (cond x (g ∷ []) [])) a b) (sym is) adds

pub state_none : (g : Group) (b : Batch) → is_read_only g ≡ false → AddsAll (state_entries (g ∷ [])) b b
state_none g b is = subst (λ x. AddsAll (map state_entry (cond x (g ∷ []) [])) b b) (sym is) (adds_none b)

pub flag_added : (g : Group) (a b : Batch) → g.loaded ≡ true → AddsAll (flag_entry g ∷ []) a b → AddsAll (flag_entries (g ∷ [])) a b
flag_added g a b is adds = subst (λ x. AddsAll (map flag_entry (cond x (g ∷ []) [])) a b) (sym is) adds

pub flag_none : (g : Group) (b : Batch) → g.loaded ≡ false → AddsAll (flag_entries (g ∷ [])) b b
flag_none g b is = subst (λ x. AddsAll (map flag_entry (cond x (g ∷ []) [])) b b) (sym is) (adds_none b)

-- all of them
pub slot_holds : (next : ℕ) (groups : List Group) (b0 b1 b2 b3 : Batch) → ((schema : List TableDef) → Holds 2 schema b0 (Marks next ∷ [])) → AddsAll (definition_entries groups) b0 b1 → AddsAll (state_entries groups) b1 b2 → AddsAll (flag_entries groups) b2 b3
    → (schema : List TableDef) → Holds 2 schema b3 (begun_entries next groups)
slot_holds next groups b0 b1 b2 b3 mark defined turned flagged schema =
    let rest = adds_more (state_entries groups) (flag_entries groups) b1 b2 b3 turned flagged in
    (adds_more (definition_entries groups) (state_entries groups ++ flag_entries groups) b0 b1 b3 defined rest).holds schema (Marks next ∷ []) (mark schema)

-- ---- what a tier has

definitions_kept : (groups : List Group) → definition_entries (map without_list groups) ≡ definition_entries groups
definitions_kept [] = refl
definitions_kept (g ∷ groups) = ap (λ l. definition_entry g ∷ l) (definitions_kept groups)

states_kept : (groups : List Group) → state_entries (map without_list groups) ≡ state_entries groups
states_kept [] = refl
states_kept (g ∷ groups) = by (states_kept groups) (is_read_only g)
  where
    by : state_entries (map without_list groups) ≡ state_entries groups → (b : Bool) → map state_entry (cond b (without_list g ∷ filter is_read_only (map without_list groups)) (filter is_read_only (map without_list groups))) ≡ map state_entry (cond b (g ∷ filter is_read_only groups) (filter is_read_only groups))
    by e true = ap (λ l. state_entry g ∷ l) e
    by e false = e

flags_kept : (groups : List Group) → flag_entries (map without_list groups) ≡ flag_entries groups
flags_kept [] = refl
flags_kept (g ∷ groups) = by (flags_kept groups) g.loaded
  where
    by : flag_entries (map without_list groups) ≡ flag_entries groups → (b : Bool) → map flag_entry (cond b (without_list g ∷ filter (λ g. g.loaded) (map without_list groups)) (filter (λ g. g.loaded) (map without_list groups))) ≡ map flag_entry (cond b (g ∷ filter (λ g. g.loaded) groups) (filter (λ g. g.loaded) groups))
    by e true = ap (λ l. flag_entry g ∷ l) e
    by e false = e

begun_kept : (next : ℕ) (groups : List Group) → begun_entries next (map without_list groups) ≡ begun_entries next groups
begun_kept next groups =
    ap (λ l. Marks next ∷ (l ++ (state_entries (map without_list groups) ++ flag_entries (map without_list groups)))) (definitions_kept groups)
    ∙ ap (λ l. Marks next ∷ (definition_entries groups ++ (l ++ flag_entries (map without_list groups)))) (states_kept groups)
    ∙ ap (λ l. Marks next ∷ (definition_entries groups ++ (state_entries groups ++ l))) (flags_kept groups)

pub slot_so : (t : Stored) (a : Tier) → IsStoredAs t a → a.unsettled ≡ [] → slot_entries a ≡ begun_entries t.next (groups_in t.catalog)
slot_so t a is settled =
    ap (λ (us : List Sealed). Marks a.next ∷ (definition_entries a.groups ++ (state_entries a.groups ++ (flag_entries a.groups ++ map Commits us)))) settled
    ∙ ap (λ l. Marks a.next ∷ (definition_entries a.groups ++ (state_entries a.groups ++ l))) (append-nil (flag_entries a.groups))
    ∙ sym (begun_kept a.next a.groups)
    ∙ ap (λ gs. begun_entries a.next gs) is.groups
    ∙ ap (λ n. begun_entries n (groups_in t.catalog)) is.next
