-- A tier in whose stores there is more room.
use Rattle.std.proofs.Common.{◌≡◌, ◌≤◌, ℕ, List, [], ◌∷◌, All, refl, sym, ap, subst, ◌∙◌}
use Rattle.std.specs.FinMap.{len}
use Rattle.indexed_rows.specs.Rows.{Table}
use Rattle.instances.specs.Views.{kept_at}
use Rattle.table_defs.specs.declared.definition.TableDef.{TableDef}
use Rattle.group_catalog.specs.Catalogs.{groups_in}
use Rattle.group_store.specs.Stores.{Kept, SameButSpare}
use Rattle.own_rows.specs.OwnTables.{AreShown}
use Rattle.open_sessions.specs.Opening.{seen_all}
use Rattle.slot_rows.specs.SlotKeys.{RowsHeld}
use Rattle.cache_tier.specs.Groups.{Group}
use Rattle.cache_tier.specs.Worlds.{World}
use Rattle.stored_tier.specs.declared.tier.Tier.{Tier as Stored}
use Rattle.stored_tier.specs.Lists.{AreHiding, AreListed, IsHidingFor, IsListed}
use Rattle.stored_tier.specs.Performing.{StandsFor}
use Rattle.stored_tier.specs.Stored.{IsSound, rows_of}
use Rattle.changed_sets.specs.Fresh.{IsRead}
use Rattle.changed_sets.specs.Showing.{IsRoomier, Pairs}
use Rattle.changed_sets.proofs.StorePairs.{housed_still, kept_still, room_forms, room_self, rows_still, whole_still}
use Rattle.changed_sets.proofs.TurnSteps.{same_both}

listed_spare : (g : Group) (s n : Kept) (hidden : Table) → SameButSpare s n → IsListed g s hidden → IsListed g n hidden
listed_spare g s n hidden same is = subst (λ ks. IsListed g (record s { keys = ks }) hidden) (sym same.keys) is

listed_pairs : (gs : List Group) (old new : List Kept) (hidden : List RowsHeld) → Pairs SameButSpare old new → AreListed gs old hidden → AreListed gs new hidden
listed_pairs [] old new hidden same are = tt
listed_pairs (g ∷ gs) [] new hidden same are = absurd are
listed_pairs (g ∷ gs) (s ∷ old) [] hidden same are = absurd same
listed_pairs (g ∷ gs) (s ∷ old) (n ∷ new) [] same are = absurd are
listed_pairs (g ∷ gs) (s ∷ old) (n ∷ new) (x ∷ hidden) same are = (listed_spare g s n x.table same.0 are.0, listed_pairs gs old new hidden same.1 are.1)

hiding_spare : (schema : List TableDef) (g : Group) (s n : Kept) (x : RowsHeld) → SameButSpare s n → IsHidingFor schema g s x → IsHidingFor schema g n x
hiding_spare schema g s n x same is = record { key = is.key; room = λ hides. subst (λ ts. len (kept_at ts 0) ≤ x.spare) (sym same.tables) (is.room hides); none = is.none }

hiding_pairs : (schema : List TableDef) (gs : List Group) (old new : List Kept) (hidden : List RowsHeld) → Pairs SameButSpare old new → AreHiding schema gs old hidden → AreHiding schema gs new hidden
hiding_pairs schema [] old new [] same are = tt
hiding_pairs schema [] old new (x ∷ hidden) same are = absurd are
hiding_pairs schema (g ∷ gs) old new [] same are = absurd are
hiding_pairs schema (g ∷ gs) [] new (x ∷ hidden) same are = absurd are
hiding_pairs schema (g ∷ gs) (s ∷ old) [] (x ∷ hidden) same are = absurd same
hiding_pairs schema (g ∷ gs) (s ∷ old) (n ∷ new) (x ∷ hidden) same are = (hiding_spare schema g s n x same.0 are.0, hiding_pairs schema gs old new hidden same.1 are.1)

-- pairs of pairs
pub pairs_both : (xs ys zs : List Kept) → Pairs SameButSpare xs ys → Pairs SameButSpare ys zs → Pairs SameButSpare xs zs
pairs_both [] [] zs p q = q
pairs_both [] (y ∷ ys) zs p q = absurd p
pairs_both (x ∷ xs) [] zs p q = absurd p
pairs_both (x ∷ xs) (y ∷ ys) [] p q = absurd q
pairs_both (x ∷ xs) (y ∷ ys) (z ∷ zs) p q = (same_both x y z p.0 q.0, pairs_both xs ys zs p.1 q.1)

pub roomier_rows : (old new : Stored) → IsRoomier old new → rows_of new ≡ rows_of old
roomier_rows old new is = ap rows_of is.rest ∙ rows_still old.schema old.stores.items new.stores.items is.stores

pub roomier_sound : (old new : Stored) → IsRoomier old new → IsSound old → IsSound new
roomier_sound old new is sound =
    let forms = room_forms old.stores.items new.stores.items is.stores in
    let same : rows_of (record old { stores = new.stores }) ≡ rows_of old = rows_still old.schema old.stores.items new.stores.items is.stores in
    subst IsSound (sym is.rest) (record {
      sessions = sound.sessions;
      stores = housed_still old.schema old.stores.items new.stores.items old.directory forms sound.stores;
      kept = kept_still old.schema (groups_in old.catalog) old.stores.items new.stores.items forms sound.kept;
      whole = whole_still old.stores.items new.stores.items forms sound.whole;
      hiding = hiding_pairs old.schema (groups_in old.catalog) old.stores.items new.stores.items old.hidden.items is.stores sound.hiding;
      plain = sound.plain;
      named = sound.named;
      visible = sound.visible;
      numbered = sound.numbered;
      later = sound.later;
      writers = sound.writers;
      verified = λ noted. let v = sound.verified noted in record {
        rows = subst (AreShown []) (sym same) v.rows;
        own = subst (λ r. All (λ x. AreShown x.ops r) (seen_all old.sessions)) (sym same) v.own;
      };
    })

pub roomier_stands : (old new : Stored) → IsRoomier old new → (w : World) → StandsFor old w → StandsFor new w
roomier_stands old new is w x =
    subst (λ t. StandsFor t w) (sym is.rest) (record {
      stored = record {
        schema = x.stored.schema;
        stale = x.stored.stale;
        groups = x.stored.groups;
        lists = listed_pairs w.tier.groups old.stores.items new.stores.items old.hidden.items is.stores x.stored.lists;
        sessions = x.stored.sessions;
        unsettled = x.stored.unsettled;
        next = x.stored.next;
        doubt = x.stored.doubt;
        time = x.stored.time;
      };
      shows = rows_still old.schema old.stores.items new.stores.items is.stores ∙ x.shows;
      hides = x.hides;
      stands = x.stands;
      waits = x.waits;
    })

pub roomier_read : (old new : Stored) → IsRoomier old new → (seen : Rattle.outside.specs.Sites.SiteState) (told : Rattle.std.specs.Prelude.Result ℕ Rattle.outside.specs.declared.fault.BankError.BankError) (w : World) → IsRead old seen told w → IsRead new seen told w
roomier_read old new is seen told w r = record { world = r.world; at = r.at; stands = roomier_stands old new is r.world r.stands; call = r.call; tier = r.tier }

-- the same tier
pub roomier_itself : (t : Stored) → IsRoomier t t
roomier_itself t = record { rest = refl; stores = room_self t.stores.items }
