-- The form of stores that were made where one group gains instances.
use Rattle.std.proofs.Common.{◌≡◌, ℕ, Bool, true, false, cond, nat_eq, Option, Some, List, [], slice_get, refl, sym, ap, subst, ◌∙◌}
use Rattle.std.specs.FinMap as fm
use Rattle.std.specs.Global.{Vec}
use Rattle.outside.specs.Holding.{Held}
use Rattle.outside.specs.Sites.{SiteState}
use Rattle.tier_journal.specs.declared.journal.TierJournal.{TierJournal}
use Rattle.cache_tier.specs.declared.reply.Reply.{Reply}
use Rattle.row_types.specs.declared.value.Value.{Value}
use Rattle.table_defs.specs.declared.definition.TableDef.{TableDef}
use Rattle.indexed_rows.specs.Rows.{Table}
use Rattle.table_state.specs.Tables.{TableState}
use Rattle.slot_rows.specs.SlotKeys.{RowsHeld}
use Rattle.group_catalog.specs.Catalogs.{groups_in}
use Rattle.group_store.specs.Stores.{Kept}
use Rattle.cache_tier.specs.Groups.{Group, is_read_only}
use Rattle.cache_tier.specs.Sets.{Choice}
use Rattle.cache_tier.specs.Worlds.{World}
use Rattle.stored_tier.specs.declared.refreshing.Made.{Made}
use Rattle.stored_tier.specs.declared.tier.Tier.{Tier as Stored}
use Rattle.stored_tier.specs.Lists.{AreHiding, AreListed}
use Rattle.stored_tier.specs.Performing.{IsPerformedOver, StandsFor}
use Rattle.stored_tier.specs.Stored.{IsSound, without_list}
use Rattle.stored_tier.proofs.HiddenRows.{hides_still}
use Rattle.stored_tier.proofs.ListLaws.{group_kept, hidden_kept, store_kept}
use Rattle.group_engine.specs.Fresh.{AreFormed}
use Rattle.group_engine.specs.Gaining.{AreMadeGaining, IsMadeFor, IsMadeWith, IsSameTier, widened}
use Rattle.group_engine.proofs.FillLaws.{form_with, hiding_with, long_with}
use Rattle.group_engine.proofs.GroupRows.{same_there, there_too}

-- what was made of the group at a place
record IsMadeSo (t : Stored) (state : TableState) (g : Group) (m : Made) : Type 0 where
  old : Kept
  hidden : Table
  more : List (List Value)
  made : IsMadeWith t.schema state g old hidden more m

made_for : (b : Bool) (schema : List TableDef) (state : TableState) (g : Group) (s : Kept) (hidden : Table) (more : List (List Value)) (m : Made) → IsMadeFor b schema state g s hidden more (Some m) → IsMadeWith schema state g s hidden more m
made_for true schema state g s hidden more m is = is
made_for false schema state g s hidden more m is = cc

made_so : (filled : Choice) (t : Stored) (place : ℕ) (gained : Table) (state : TableState) (made : List (Option Made)) → IsSound t → AreMadeGaining filled t place gained state made → (k : ℕ) (g : Group) (m : Made) → slice_get (groups_in t.catalog) k ≡ Some g → slice_get made k ≡ Some (Some m) → IsMadeSo t state g m
made_so filled t place gained state made sound are k g m at there =
    let s = store_kept t k g sound at in
    let x = hidden_kept t k g sound at in
    record {
      old = s.0;
      hidden = cond (nat_eq k place) (widened x.0 gained) x.0.table;
      more = cond (nat_eq k place) (fm.keys gained) [];
      made = made_for (filled k g) t.schema state g s.0 (cond (nat_eq k place) (widened x.0 gained) x.0.table) (cond (nat_eq k place) (fm.keys gained) []) m (are.each k g s.0 x.0 (Some m) (record { there = at; kept = s.1; held = x.1 }) there);
    }

pub formed_gained : (filled : Choice) (t : Stored) (place : ℕ) (gained : Table) (state : TableState) (made : List (Option Made)) → IsSound t → AreMadeGaining filled t place gained state made → AreFormed t.schema (groups_in t.catalog) made
formed_gained filled t place gained state made sound are = record {
  long = are.long;
  form = λ k g m at there. let one = made_so filled t place gained state made sound are k g m at there in form_with state t.schema g one.old one.hidden one.more m one.made;
  whole = λ k m there.
      let (g, at) = there_too made (groups_in t.catalog) k (Some m) (sym are.long) there in
      let one = made_so filled t place gained state made sound are k g m at there in long_with state t.schema g one.old one.hidden one.more m one.made;
  hiding = λ k g m at there. let one = made_so filled t place gained state made sound are k g m at there in hiding_with state t.schema g one.old one.hidden one.more m one.made;
}

-- the group as it is stored is READONLY
pub same_read_only : (t : Stored) (w : World) (place : ℕ) (g : Group) → StandsFor t w → slice_get w.tier.groups place ≡ Some g → is_read_only g ≡ true → (h : Group) → slice_get (groups_in t.catalog) place ≡ Some h → is_read_only h ≡ true
same_read_only t w place g stands there reads h at = ap is_read_only (sym (same_there (groups_in t.catalog) place (without_list g) h (group_kept t w.tier place g stands.stored there) at)) ∙ reads

-- the tier is as it was

sound_swapped : (t : Stored) (hidden : Vec RowsHeld) → hidden.items ≡ t.hidden.items → IsSound t → IsSound (record t { hidden = hidden })
sound_swapped t hidden same sound = record {
  sessions = sound.sessions;
  stores = sound.stores;
  kept = sound.kept;
  whole = sound.whole;
  hiding = subst (AreHiding t.schema (groups_in t.catalog) t.stores.items) (sym same) sound.hiding;
  plain = sound.plain;
  named = sound.named;
  visible = sound.visible;
  numbered = sound.numbered;
  later = sound.later;
  writers = sound.writers;
  verified = λ e. let v = sound.verified e in record { rows = v.rows; own = v.own };
}

pub sound_same : (t new : Stored) → IsSameTier t new → IsSound t → IsSound new
sound_same t new same sound = subst IsSound (sym same.elsewhere) (sound_swapped t new.hidden same.hidden sound)

stands_swapped : (t : Stored) (hidden : Vec RowsHeld) (w : World) → hidden.items ≡ t.hidden.items → StandsFor t w → StandsFor (record t { hidden = hidden }) w
stands_swapped t hidden w same x = record {
  stored = record {
    schema = x.stored.schema;
    stale = x.stored.stale;
    groups = x.stored.groups;
    lists = subst (AreListed w.tier.groups t.stores.items) (sym same) x.stored.lists;
    sessions = x.stored.sessions;
    unsettled = x.stored.unsettled;
    next = x.stored.next;
    doubt = x.stored.doubt;
    time = x.stored.time;
  };
  shows = x.shows;
  hides = hides_still t (record t { hidden = hidden }) w.history (record { groups = refl; hidden = same }) x.hides;
  stands = x.stands;
  waits = x.waits;
}

pub stands_same : (t new : Stored) (w : World) → IsSameTier t new → StandsFor t w → StandsFor new w
stands_same t new w same x = subst (λ y. StandsFor y w) (sym same.elsewhere) (stands_swapped t new.hidden w same.hidden x)

pub performed_same : {D : Type 0} (state : D → SiteState) (possible : D → ℕ → Held → Type 0) (t new : Stored) (k : Option TierJournal) (d : D) (stop : Option Reply) (does : World → Type 0) → IsSameTier t new → IsPerformedOver state possible t k d stop does → IsPerformedOver state possible new k d stop does
performed_same state possible t new k d stop does same p = record { world = p.world; at = p.at; is = p.is; stands = λ whole. stands_same t new p.world same (p.stands whole); keeps = p.keeps }
