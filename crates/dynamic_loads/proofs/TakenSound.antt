-- The tier stays sound where the store at a place becomes another of the same tree.
use Rattle.std.proofs.Common.{◌≡◌, ◌≤◌, ℕ, suc, Bool, true, false, nat_eq, Option, Some, None, Result, Ok, Err, List, length, map, set, slice_get, refl, sym, ap, subst, ◌∙◌, inl, inr}
use Rattle.std.proofs.lemmas.Bool.{eq-eqb, eqb-true}
use Rattle.std.specs.FinMap as fm
use Rattle.std.specs.declared.alloc.AllocError.{AllocError}
use Rattle.row_types.specs.declared.value.Value.{Value}
use Rattle.instances.specs.Views.{kept_at}
use Rattle.outside.specs.declared.site.Instance.{Instance}
use Rattle.slot_rows.specs.SlotKeys.{RowsHeld}
use Rattle.group_catalog.specs.Catalogs.{groups_in}
use Rattle.group_store.specs.Shown.{AreHoused}
use Rattle.group_store.specs.Stores.{Kept, SameButSpare, put_tables}
use Rattle.cache_tier.specs.Groups.{Group, is_read_only}
use Rattle.stored_tier.specs.declared.tier.Tier.{Tier as Stored}
use Rattle.stored_tier.specs.Grouping.{SameTree}
use Rattle.stored_tier.specs.Lists.{AreHiding, IsHidingFor}
use Rattle.stored_tier.specs.Stored.{AreKept, AreWhole, IsSound, IsVerified}
use Rattle.stored_tier.proofs.ListLaws.{hiding_long, kept_long}
use Rattle.stored_tier.proofs.PutLaws.{form_tables, long_tables}
use Rattle.stored_tier.proofs.StoreChanges.{form_kept, get_here, get_there, housed_set, kept_set}
use Rattle.stored_tier.proofs.StoreRows.{StoreOf, form_at, group_of}
use Rattle.dynamic_loads.specs.Taking.{GainsRoom, StoreBecomes, TakesInstance, TakesReached}
use Rattle.dynamic_loads.proofs.ListsSet.{hides_none, hiding_set, same_there}

-- rows for each table
whole_set : (stores : List Kept) (place : ℕ) (store left : Kept) → slice_get stores place ≡ Some store → length left.tables ≡ suc (length left.layers) → AreWhole stores → AreWhole (set stores place left)
whole_set stores place store left kept long whole k s at = by (nat_eq k place) refl
  where
    by : (b : Bool) → nat_eq k place ≡ b → length s.tables ≡ suc (length s.layers)
    by true e =
        let here : slice_get (set stores place left) place ≡ Some s = ap (slice_get (set stores place left)) (sym (eqb-true k place e)) ∙ at in
        let same : left ≡ s = same_there (set stores place left) place left s (get_here stores place store left kept) here in
        subst (λ (x : Kept). length x.tables ≡ suc (length x.layers)) same long
    by false e = whole k s (sym (get_there stores place k left (λ same. let wrong : true ≡ false = sym (eq-eqb k place same) ∙ e in Prim.cc)) ∙ at)

module _ (old new : Stored) (place : ℕ) (store left : Kept) (sound : IsSound old) (becomes : StoreBecomes old new place store left) (tree : SameTree store left) (long : length left.tables ≡ length store.tables)
    (hides : (g : Group) (x : RowsHeld) → slice_get (groups_in old.catalog) place ≡ Some g → IsHidingFor old.schema g store x → IsHidingFor old.schema g left x) where
  its_group : StoreOf old.schema (groups_in old.catalog) old.stores.items place
  its_group = group_of old.schema (groups_in old.catalog) old.stores.items place store sound.kept becomes.kept

  abbrev changed : Stored
  changed = record old { stores = new.stores; verified = new.verified }

  kept_then : AreKept old.schema (groups_in old.catalog) (set old.stores.items place left)
  kept_then = kept_set old.schema (groups_in old.catalog) old.stores.items place its_group.group left sound.kept its_group.there
      (form_kept old.schema its_group.group.def.tree store left (form_at old.schema (groups_in old.catalog) old.stores.items place its_group.group store sound.kept its_group.there becomes.kept) tree)

  housed_then : AreHoused old.schema (set old.stores.items place left) old.directory
  housed_then = housed_set old.schema (groups_in old.catalog) old.stores.items old.directory place store left its_group.group sound.stores sound.kept its_group.there becomes.kept
      (form_at old.schema (groups_in old.catalog) old.stores.items place its_group.group store sound.kept its_group.there becomes.kept) tree

  hiding_then : AreHiding old.schema (groups_in old.catalog) (set old.stores.items place left) old.hidden.items
  hiding_then = hiding_set place (groups_in old.catalog) old.stores.items store left becomes.kept (kept_long old.schema (groups_in old.catalog) old.stores.items sound.kept)
      old.schema old.hidden.items (hiding_long old.schema (groups_in old.catalog) old.stores.items old.hidden.items sound.hiding) (λ g x at held is. hides g x at is) sound.hiding

  whole_then : AreWhole (set old.stores.items place left)
  whole_then = whole_set old.stores.items place store left becomes.kept (long ∙ sound.whole place store becomes.kept ∙ ap suc (sym (ap length tree.layers))) sound.whole

  changed_sound : IsSound (record old { stores = new.stores; verified = new.verified })
  changed_sound = record {
    sessions = sound.sessions;
    stores = subst (λ ss. AreHoused old.schema ss old.directory) (sym becomes.stores) housed_then;
    kept = subst (AreKept old.schema (groups_in old.catalog)) (sym becomes.stores) kept_then;
    whole = subst AreWhole (sym becomes.stores) whole_then;
    hiding = subst (λ ss. AreHiding old.schema (groups_in old.catalog) ss old.hidden.items) (sym becomes.stores) hiding_then;
    plain = sound.plain;
    named = sound.named;
    visible = sound.visible;
    numbered = sound.numbered;
    later = sound.later;
    writers = sound.writers;
    verified = λ noted. let v = becomes.known noted in subst IsVerified becomes.rest v;
  }

  pub becomes_sound : IsSound new
  becomes_sound = subst IsSound (sym becomes.rest) changed_sound

-- the room alone is another

pub same_tree : (a b : Kept) → SameButSpare a b → SameTree a b
same_tree a b same = record { table = same.table; key = same.key; foreign = same.foreign; layers = same.layers }

pub room_sound : (old new : Stored) (place : ℕ) → IsSound old → GainsRoom old new place → IsSound new
room_sound old new place sound gains =
    becomes_sound old new place gains.store gains.left sound gains.becomes (same_tree gains.store gains.left gains.same) (ap length gains.same.tables)
    (λ g x at is. record { key = is.key; room = λ hides. subst (λ ts. fm.len (kept_at ts 0) ≤ x.spare) (sym gains.same.tables) (is.room hides); none = is.none })

-- the instance was taken in

pub filled_tree : (tables : List (List (List Value))) (a b : Kept) → SameButSpare (put_tables 0 tables a) b → SameTree a b
filled_tree tables a b same =
    let f = form_tables 0 tables a in
    record { table = same.table ∙ f.table; key = same.key ∙ f.key; foreign = same.foreign ∙ f.foreign; layers = same.layers ∙ f.layers }

pub taken_sound : (old new : Stored) (place : ℕ) (instance : Instance) → IsSound old → TakesInstance old new place instance → IsSound new
taken_sound old new place instance sound took =
    becomes_sound old new place took.store took.filled sound took.becomes (filled_tree (map fm.values instance.rows) took.store took.filled took.rows)
    (ap length took.rows.tables ∙ long_tables 0 (map fm.values instance.rows) took.store)
    (λ g x at is. hides_none old.schema g took.store took.filled x (ap is_read_only (same_there (groups_in old.catalog) place g took.group at took.there) ∙ took.writes) is)

-- so it is, whatever was reached
pub reached_sound : (old new : Stored) (place : ℕ) (o : Option Instance) (result : Result (Unit {0}) AllocError) → IsSound old → TakesReached old new place o result → IsSound new
reached_sound old new place None result sound same = subst IsSound (sym same) sound
reached_sound old new place (Some instance) (Ok done) sound (inl took) = taken_sound old new place instance sound took
reached_sound old new place (Some instance) (Ok done) sound (inr left) = subst IsSound (sym left.same) sound
reached_sound old new place (Some instance) (Err e) sound (inl same) = subst IsSound (sym same) sound
reached_sound old new place (Some instance) (Err e) sound (inr gains) = room_sound old new place sound gains
