-- What UNLOAD leaves was stored before, and it may be noted anew that sessions may read over it.
use Rattle.std.proofs.Common.{◌≡◌, ◌∙◌, ℕ, Bool, true, Some, set, slice_get, sym, ap, subst}
use Rattle.table_state.specs.Keyed.{IsKeyed}
use Rattle.group_catalog.specs.Catalogs.{groups_in}
use Rattle.group_store.specs.Keeping.{primary_of}
use Rattle.group_store.specs.Stores.{Kept, cleared_store}
use Rattle.cache_tier.specs.Groups.{Group}
use Rattle.stored_tier.specs.declared.tier.Tier.{Tier as Stored}
use Rattle.stored_tier.specs.Stored.{IsSound, IsVerified, rows_of}
use Rattle.changed_sets.specs.OfAgingCycles.Coming.{HasRowsOf, HaveRowsOf, StayKeyed, StoresRowsOf}
use Rattle.changed_sets.specs.OfAgingCycles.RowsOf.{all_set, rows_alike, rows_cleared, rows_through}
use Rattle.changed_sets.specs.OfAgingCycles.LeftRows.{rows_gone}
use Rattle.group_engine.specs.declared.aiming.Aim.{Aim}
use Rattle.group_engine.specs.Unloading.{IsClearedGroup, IsCutGroup, LeavesGroup}
use Rattle.group_engine.specs.UnloadHidden.{AreCutAt, IsCutHiding}
use Rattle.group_engine.specs.UnloadNamed.{FitsFor}

-- what is noted of a sound tier is another
pub sound_confirmed : (t new : Stored) → IsSound t → new ≡ record t { verified = new.verified } → (new.verified ≡ true → IsVerified new) → IsSound new
sound_confirmed t new sound same known = subst IsSound (sym same) (record {
  sessions = sound.sessions;
  stores = sound.stores;
  kept = sound.kept;
  whole = sound.whole;
  hiding = sound.hiding;
  plain = sound.plain;
  named = sound.named;
  visible = sound.visible;
  numbered = sound.numbered;
  later = sound.later;
  writers = sound.writers;
  verified = λ noted. subst IsVerified same (known noted);
})

-- what is stored was stored before

set_rows : (t new : Stored) (place : ℕ) (s left : Kept) → new.schema ≡ t.schema → slice_get t.stores.items place ≡ Some s → new.stores.items ≡ set t.stores.items place left → HasRowsOf t.schema s left → StoresRowsOf t new
set_rows t new place s left schema kept is has = record {
  schema = schema;
  stores = subst (HaveRowsOf t.schema t.stores.items) (sym is) (all_set t.schema t.stores.items place s left kept has);
}

cut_rows : (t new : Stored) (aim : Aim) (all : Bool) (n : ℕ) → IsCutGroup t new aim all n → StoresRowsOf t new
cut_rows t new aim all n c = set_rows t new aim.place c.store c.left c.beside.schema c.kept c.stores
    (rows_gone t.schema c.did.keys c.store c.left c.did.gone)

cleared_rows : (t new : Stored) (place n : ℕ) → IsClearedGroup t new place n → StoresRowsOf t new
cleared_rows t new place n c = set_rows t new place c.store c.left c.beside.schema c.kept c.stores
    (rows_through t.schema c.store (cleared_store c.store) c.left (rows_cleared t.schema c.store) (rows_alike t.schema (cleared_store c.store) c.left c.did.0.gone))

hiding_rows : (t new : Stored) (aim : Aim) (n : ℕ) → IsCutHiding t new aim n → StoresRowsOf t new
hiding_rows t new aim n c = set_rows t new aim.place c.cut.store c.cut.left (ap (λ (y : Stored). y.schema) c.is) c.cut.kept c.cut.stores
    (rows_gone t.schema c.cut.cut.cut.keys c.cut.store c.cut.left c.cut.cut.cut.gone)

-- so it stands under its keys, where sessions might read over it

pub cut_keyed : StayKeyed → (t new : Stored) (aim : Aim) (all : Bool) (n : ℕ) → IsSound t → t.verified ≡ true → IsCutGroup t new aim all n → IsKeyed (rows_of new)
cut_keyed law t new aim all n sound noted c = law t new sound (sound.verified noted) (cut_rows t new aim all n c)

pub cleared_keyed : StayKeyed → (t new : Stored) (place n : ℕ) → IsSound t → t.verified ≡ true → IsClearedGroup t new place n → IsKeyed (rows_of new)
cleared_keyed law t new place n sound noted c = law t new sound (sound.verified noted) (cleared_rows t new place n c)

pub hiding_keyed : StayKeyed → (t new : Stored) (aim : Aim) (n : ℕ) → IsSound t → t.verified ≡ true → IsCutHiding t new aim n → IsKeyed (rows_of new)
hiding_keyed law t new aim n sound noted c = law t new sound (sound.verified noted) (hiding_rows t new aim n c)

-- and it may be noted anew

pub leaves_noted : (t mid new : Stored) (place : ℕ) (all : Bool) (does : Group → Kept → Kept → Type 0) → LeavesGroup t mid place all does → new ≡ record mid { verified = new.verified } → IsSound new → LeavesGroup t new place all does
leaves_noted t mid new place all does c same sound = record {
  group = c.group;
  store = c.store;
  left = c.left;
  there = c.there;
  kept = c.kept;
  hides = c.hides;
  did = c.did;
  stores = ap (λ (y : Stored). y.stores.items) same ∙ c.stores;
  groups = ap (λ (y : Stored). groups_in y.catalog) same ∙ c.groups;
  beside = record {
    schema = ap (λ (y : Stored). y.schema) same ∙ c.beside.schema;
    stale = ap (λ (y : Stored). y.stale) same ∙ c.beside.stale;
    sessions = ap (λ (y : Stored). y.sessions) same ∙ c.beside.sessions;
    unsettled = ap (λ (y : Stored). y.unsettled) same ∙ c.beside.unsettled;
    writers = ap (λ (y : Stored). y.writers) same ∙ c.beside.writers;
    next = ap (λ (y : Stored). y.next) same ∙ c.beside.next;
    clock = ap (λ (y : Stored). y.clock) same ∙ c.beside.clock;
  };
  visible = ap (λ (y : Stored). y.visible) same ∙ c.visible;
  directory = ap (λ (y : Stored). y.directory) same ∙ c.directory;
  hidden = ap (λ (y : Stored). y.hidden) same ∙ c.hidden;
  known = sound.verified;
}

pub hiding_noted : (t mid new : Stored) (aim : Aim) (n : ℕ) → IsCutHiding t mid aim n → new ≡ record mid { verified = new.verified } → IsSound new → IsCutHiding t new aim n
hiding_noted t mid new aim n c same sound = record {
  group = c.group;
  there = c.there;
  cut = subst (λ (y : Stored). AreCutAt (FitsFor t.schema c.group.def.tree.root.table) aim.place (primary_of t.schema c.group.def.tree.root.table) aim.which t.stores.items t.hidden.items y.stores.items y.hidden.items n) (sym same) c.cut;
  is = same ∙ (λ i. record (c.is i) { verified = new.verified }) ∙ (λ i. record t { stores = sym (stores_are same) i; hidden = sym (hidden_are same) i; verified = new.verified });
  known = sound.verified;
}
  where
    stores_are : new ≡ record mid { verified = new.verified } → new.stores ≡ mid.stores
    stores_are e = ap (λ (y : Stored). y.stores) e

    hidden_are : new ≡ record mid { verified = new.verified } → new.hidden ≡ mid.hidden
    hidden_are e = ap (λ (y : Stored). y.hidden) e
