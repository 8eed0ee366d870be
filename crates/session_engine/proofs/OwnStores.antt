-- Operations on the stores of groups of which no two have one table.
use Rattle.std.proofs.Common.{◌≡◌, ℕ, Bool, true, false, ◌&&◌, ◌||◌, Option, Some, None, is_some, List, [], ◌∷◌, find, map, slice_get, refl, sym, ap, ◌∙◌}
use Rattle.std.specs.List.{list_any}
use Rattle.tier_base.specs.declared.number.TableId.{TableId}
use Rattle.table_defs.specs.declared.definition.TableDef.{TableDef}
use Rattle.table_state.specs.declared.operation.Op.{Op}
use Rattle.table_state.specs.Operations.{table_of}
use Rattle.instances.specs.Trees.{place_of}
use Rattle.group_store.specs.Shown.{AreHoused}
use Rattle.group_store.specs.Stores.{Kept, op_done, ops_done, place_in}
use Rattle.group_store.specs.declared.directory.Home.{Home}
use Rattle.order_laws.proofs.TruthLaws.{both_true, never_both}
use Rattle.cache_tier.specs.Groups.{Group, covers, is_table_of, is_writethrough}
use Rattle.cache_tier.specs.StandingBetween.{Each, HaveOwnTables, IsCatalogued, are_written_through}
use Rattle.cache_tier.proofs.GroupTables.{any_found, each_found, find_passes}
use Rattle.cache_tier.proofs.TableLaws.{covered_defined}
use Rattle.stored_tier.specs.Stored.{AreKept}
use Rattle.stored_tier.proofs.SoundParts.{housed_exchanged}
use Rattle.stored_tier.proofs.StoreRows.{place_same}
use Rattle.session_engine.specs.Committing.{at_home, home_in, ops_at}
use Rattle.session_engine.proofs.OpStores.{done_first, done_with, first_does, home_is, kept_home, op_absent}

either : (a b : Bool) → (a || b) ≡ false → (a ≡ false) × (b ≡ false)
either true b e = cc
either false b e = (refl, e)

no_place : (o : Option ℕ) → is_some o ≡ false → o ≡ None
no_place None e = refl
no_place (Some p) e = cc

-- where no group has the table no store does anything
none_do : (schema : List TableDef) (op : Op) (groups : List Group) (stores : List Kept) → AreKept schema groups stores → list_any (covers (table_of op)) groups ≡ false → map (op_done op) stores ≡ stores
none_do schema op [] [] are none = refl
none_do schema op [] (s ∷ stores) are none = absurd are
none_do schema op (g ∷ groups) [] are none = absurd are
none_do schema op (g ∷ groups) (s ∷ stores) are none =
    let parts = either (covers (table_of op) g) (list_any (covers (table_of op)) groups) none in
    ap (λ x. x ∷ map (op_done op) stores) (op_absent op s (place_same schema g.def.tree s are.0 (table_of op) ∙ no_place (place_of g.def.tree (table_of op)) parts.0))
    ∙ ap (λ xs. s ∷ xs) (none_do schema op groups stores are.1 parts.1)

-- the first store that has the table is the only one
first_alone : (schema : List TableDef) (op : Op) (groups : List Group) (stores : List Kept) → AreKept schema groups stores → HaveOwnTables groups → done_first op stores ≡ map (op_done op) stores
first_alone schema op [] [] are own = refl
first_alone schema op [] (s ∷ stores) are own = absurd are
first_alone schema op (g ∷ groups) [] are own = absurd are
first_alone schema op (g ∷ groups) (s ∷ stores) are own = by (place_in s (table_of op)) refl (first_alone schema op groups stores are.1 own.1)
  where
    by : (o : Option ℕ) → place_in s (table_of op) ≡ o → done_first op stores ≡ map (op_done op) stores → done_with o op s stores (done_first op stores) ≡ op_done op s ∷ map (op_done op) stores
    by None e rest = ap (λ xs. s ∷ xs) rest ∙ sym (ap (λ x. x ∷ map (op_done op) stores) (op_absent op s e))
    by (Some p) e rest =
        let its : covers (table_of op) g ≡ true = ap is_some (sym (place_same schema g.def.tree s are.0 (table_of op)) ∙ e) in
        ap (λ xs. op_done op s ∷ xs) (sym (none_do schema op groups stores are.1 (own.0 (table_of op) its)))

-- a table of a writethrough group is there
some_table : (groups : List Group) (t : TableId) → is_table_of is_writethrough groups t ≡ true → list_any (covers t) groups ≡ true
some_table [] t e = cc
some_table (g ∷ groups) t e = by (is_writethrough g) (covers t g) e (some_table groups t)
  where
    by : (a b : Bool) → ((a && b) || is_table_of is_writethrough groups t) ≡ true → (is_table_of is_writethrough groups t ≡ true → list_any (covers t) groups ≡ true) → (b || list_any (covers t) groups) ≡ true
    by a true h rest = refl
    by true false h rest = rest h
    by false false h rest = rest h

pub table_there : (schema : List TableDef) (groups : List Group) (t : TableId) → Each (IsCatalogued schema) groups → is_table_of is_writethrough groups t ≡ true → (def : TableDef) × (slice_get schema t.0 ≡ Some def)
table_there schema groups t each through = of (find (covers t) groups) refl (any_found (covers t) groups ∙ some_table groups t through)
  where
    there : (o : Option TableDef) → slice_get schema t.0 ≡ o → is_some o ≡ true → (def : TableDef) × (slice_get schema t.0 ≡ Some def)
    there None is e = cc
    there (Some def) is e = (def, is)

    of : (o : Option Group) → find (covers t) groups ≡ o → is_some (find (covers t) groups) ≡ true → (def : TableDef) × (slice_get schema t.0 ≡ Some def)
    of None is e = absurd (never_both (is_some (find (covers t) groups)) e (ap is_some is))
    of (Some g) is e =
        there (slice_get schema t.0) refl
        (covered_defined schema g t (each_found (IsCatalogued schema) (covers t) groups g each is) (find_passes (covers t) groups g is))

-- so each store does all operations on its tables
maps : (op : Op) (ops : List Op) (stores : List Kept) → map (ops_done ops) (map (op_done op) stores) ≡ map (ops_done (op ∷ ops)) stores
maps op ops [] = refl
maps op ops (s ∷ stores) = ap (λ xs. ops_done ops (op_done op s) ∷ xs) (maps op ops stores)

all_none : (stores : List Kept) → map (ops_done []) stores ≡ stores
all_none [] = refl
all_none (s ∷ stores) = ap (λ xs. s ∷ xs) (all_none stores)

pub own_stores : (schema : List TableDef) (groups : List Group) (directory : List (Option Home)) (ops : List Op) (stores : List Kept) → AreHoused schema stores directory → AreKept schema groups stores → HaveOwnTables groups → Each (IsCatalogued schema) groups → are_written_through groups ops ≡ true
    → ops_at directory ops stores ≡ map (ops_done ops) stores
own_stores schema groups directory [] stores housed are own each through = sym (all_none stores)
own_stores schema groups directory (op ∷ ops) stores housed are own each through =
    own_stores schema groups directory ops (at_home (home_in directory op) (op_done op) stores) (housed_exchanged schema groups stores (at_home (home_in directory op) (op_done op) stores) directory housed are are_then) are_then own each parts.1
    ∙ ap (map (ops_done ops)) one ∙ maps op ops stores
  where
    parts : (is_table_of is_writethrough groups (table_of op) ≡ true) × (are_written_through groups ops ≡ true)
    parts = both_true (is_table_of is_writethrough groups (table_of op)) (are_written_through groups ops) through

    are_then : AreKept schema groups (at_home (home_in directory op) (op_done op) stores)
    are_then = kept_home schema op (home_in directory op) groups stores are

    one : at_home (home_in directory op) (op_done op) stores ≡ map (op_done op) stores
    one =
        let def = table_there schema groups (table_of op) each parts.0 in
        ap (λ h. at_home h (op_done op) stores) (home_is schema stores directory op def.0 housed def.1)
        ∙ first_does op stores ∙ first_alone schema op groups stores are own
