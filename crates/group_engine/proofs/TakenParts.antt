-- What a load leaves of the parts of the tier: it stays sound.
use Rattle.std.proofs.Common.{◌≡◌, ℕ, Bool, true, false, Result, Ok, Err, [], All, map, slice_set, refl, sym, ap, subst, ◌∙◌}
use Rattle.std.specs.List.{list_all}
use Rattle.std.specs.FinMap as fm
use Rattle.row_types.specs.declared.rule.Refused.{Refused}
use Rattle.row_types.specs.declared.rule.Refused.TheVariants as refused
use Rattle.table_state.specs.Tables.{TableState}
use Rattle.open_sessions.specs.Opening.{AreSessions, seen_all}
use Rattle.order_laws.specs.Commits.{RiseBetween}
use Rattle.own_rows.specs.OwnTables.{AreShown}
use Rattle.group_catalog.specs.Catalogs.{groups_in}
use Rattle.group_catalog.specs.declared.which.ResolvedWhich.{ResolvedWhich}
use Rattle.group_store.specs.Shown.{AreHoused, shown_by}
use Rattle.tier_statements.specs.Seen.{session_seen}
use Rattle.cache_tier.specs.declared.reply.Reply.{Reply}
use Rattle.cache_tier.specs.Groups.{Group, definitions_of, is_read_only}
use Rattle.cache_tier.specs.Sets.{alone, changed_from}
use Rattle.cache_tier.specs.TierStates.{Tier}
use Rattle.stored_tier.proofs.WriterLaws.{writers_same}
use Rattle.stored_tier.specs.declared.clock.TierClock.{TierClock}
use Rattle.stored_tier.specs.declared.tier.Tier.{Tier as Stored}
use Rattle.stored_tier.specs.Gathering.{gathered_in}
use Rattle.stored_tier.specs.Stored.{AreKept, IsSound, IsStoredAs, KeepsHidden, KeepsTime, are_later, named_where_cached, rows_of}
use Rattle.group_catalog.specs.Catalogs.{HaveOwnNames, is_plain}
use Rattle.group_engine.specs.Taking.{Pairs, IsSameButRoom, TakesIn, TakesMatching}
use Rattle.slot_rows.specs.SlotKeys.{RowsHeld}
use Rattle.stored_tier.specs.Lists.{AreHiding, AreListed, IsHidingFor}
use Rattle.stored_tier.proofs.ListLaws.{hiding_long, hiding_same, kept_long}
use Rattle.group_engine.proofs.GroupRows.{same_there}
use Rattle.group_engine.proofs.ListsKept.{hides_none, hiding_pairs, hiding_set, listed_pairs, writes_hides}
use Rattle.group_engine.proofs.FlagLaws.{as_loaded, kept_loaded, names_loaded, plain_loaded, visible_loaded}
use Rattle.stored_tier.proofs.LaterLaws.{later_by}
use Rattle.stored_tier.proofs.SoundParts.{changed_defs}
use Rattle.group_engine.proofs.StorePairs.{SameForm, filled_form, form_set, housed_still, kept_still, room_forms, rows_still, whole_still}

-- room alone is another

module _ (old new : Stored) (same : IsSameButRoom old new) where
  pub rows_room : rows_of new ≡ rows_of old
  rows_room = ap (λ d. shown_by d new.stores.items) same.rest.schema ∙ rows_still old.schema old.stores.items new.stores.items same.stores

  pub hidden_room : KeepsHidden old new
  hidden_room = record { groups = ap groups_in same.catalog; hidden = λ i. (same.rest.hidden i).items }

  pub stored_room : (a : Tier) → IsStoredAs old a → IsStoredAs new a
  stored_room a is = record {
    schema = is.schema ∙ sym same.rest.schema;
    stale = is.stale ∙ sym same.rest.stale;
    groups = is.groups ∙ ap groups_in (sym same.catalog);
    lists =
        subst (AreListed a.groups new.stores.items) (sym (λ i. (same.rest.hidden i).items))
        (listed_pairs a.groups old.stores.items new.stores.items old.hidden.items same.stores is.lists);
    sessions = is.sessions ∙ ap (λ s. map session_seen (seen_all s)) (sym same.rest.sessions);
    unsettled = is.unsettled ∙ sym (λ i. (same.rest.unsettled i).items);
    next = is.next ∙ sym same.rest.next;
    doubt = is.doubt;
    time = subst (λ (c : TierClock). KeepsTime c a.now a.added a.round a.sets a.settings) (sym same.rest.clock) is.time;
  }

  pub sound_room : IsSound old → IsSound new
  sound_room sound = record {
    sessions = subst (λ s. AreSessions new.schema s) (sym same.rest.sessions) (subst (λ d. AreSessions d old.sessions) (sym same.rest.schema) sound.sessions);
    stores =
        subst (λ h. AreHoused new.schema new.stores.items h) (sym (λ i. same.rest.directory i))
        (subst (λ d. AreHoused d new.stores.items old.directory) (sym same.rest.schema) (housed_still old.schema old.stores.items new.stores.items old.directory (room_forms old.stores.items new.stores.items same.stores) sound.stores));
    kept =
        subst (λ c. AreKept new.schema (groups_in c) new.stores.items) (sym same.catalog)
        (subst (λ d. AreKept d (groups_in old.catalog) new.stores.items) (sym same.rest.schema)
        (kept_still old.schema (groups_in old.catalog) old.stores.items new.stores.items (room_forms old.stores.items new.stores.items same.stores) sound.kept));
    whole = whole_still old.stores.items new.stores.items (room_forms old.stores.items new.stores.items same.stores) sound.whole;
    hiding =
        subst (AreHiding new.schema (groups_in new.catalog) new.stores.items) (sym (λ i. (same.rest.hidden i).items))
        (subst (λ c. AreHiding new.schema (groups_in c) new.stores.items old.hidden.items) (sym same.catalog)
        (subst (λ d. AreHiding d (groups_in old.catalog) new.stores.items old.hidden.items) (sym same.rest.schema)
        (hiding_pairs old.schema (groups_in old.catalog) old.stores.items new.stores.items old.hidden.items same.stores sound.hiding)));
    plain = ap (λ c. list_all is_plain (groups_in c)) same.catalog ∙ sound.plain;
    named = subst (λ c. HaveOwnNames (groups_in c)) (sym same.catalog) sound.named;
    visible = same.rest.visible ∙ sound.visible ∙ (λ i. named_where_cached (groups_in (sym same.catalog i)) (sym same.rest.schema i));
    numbered = subst (λ u. RiseBetween 1 u.items new.next) (sym same.rest.unsettled) (subst (λ m. RiseBetween 1 old.unsettled.items m) (sym same.rest.next) sound.numbered);
    later = ap (λ c. are_later (groups_in c) new.unsettled.items) same.catalog ∙ ap (λ u. are_later (groups_in old.catalog) u.items) same.rest.unsettled ∙ sound.later;
    writers = writers_same old new same.rest.schema (ap (λ u. u.items) same.rest.unsettled) same.rest.next same.rest.writers sound;
    verified = λ noted. let v = sound.verified (sym same.verified ∙ noted) in record {
      rows = subst (AreShown []) (sym rows_room) v.rows;
      own = subst (λ s. All (λ x. AreShown x.ops (rows_of new)) (seen_all s)) (sym same.rest.sessions) (subst (λ r. All (λ x. AreShown x.ops r) (seen_all old.sessions)) (sym rows_room) v.own);
    };
  }

-- what is taken in leaves the tier sound
pub taken_sound : (old new : Stored) (place : ℕ) (which : ResolvedWhich) (refreshes : Bool) (s : TableState) (reply : Reply) → IsSound old → TakesIn old new place which refreshes s reply → IsSound new
taken_sound old new place which refreshes s reply sound k =
    let forms : Pairs SameForm old.stores.items (slice_set old.stores.items place k.filled) =
    form_set old.stores.items place k.store k.filled k.kept (filled_form (map fm.values (gathered_in s k.group.def.tree k.store which)) k.store k.filled k.rows) in
    let items : slice_set old.stores.items place k.filled ≡ new.stores.items = sym k.stores in
    let same : Pairs SameForm old.stores.items new.stores.items = subst (Pairs SameForm old.stores.items) items forms in
    record {
      sessions = subst (λ z. AreSessions new.schema z) (sym k.rest.sessions) (subst (λ d. AreSessions d old.sessions) (sym k.rest.schema) sound.sessions);
      stores =
          subst (λ h. AreHoused new.schema new.stores.items h) (sym (λ i. k.rest.directory i))
          (subst (λ d. AreHoused d new.stores.items old.directory) (sym k.rest.schema) (housed_still old.schema old.stores.items new.stores.items old.directory same sound.stores));
      kept =
          subst (λ gs. AreKept new.schema gs new.stores.items) (sym k.groups)
          (kept_loaded (alone place) new.schema 0 (groups_in old.catalog) new.stores.items
          (subst (λ d. AreKept d (groups_in old.catalog) new.stores.items) (sym k.rest.schema) (kept_still old.schema (groups_in old.catalog) old.stores.items new.stores.items same sound.kept)));
      whole = whole_still old.stores.items new.stores.items same sound.whole;
      hiding =
          subst (AreHiding new.schema (groups_in new.catalog) new.stores.items) (sym (λ i. (k.rest.hidden i).items))
          (subst (λ gs. AreHiding new.schema gs new.stores.items old.hidden.items) (sym k.groups)
          (subst (λ ss. AreHiding new.schema (changed_from (alone place) as_loaded 0 (groups_in old.catalog)) ss old.hidden.items) (sym k.stores)
          (subst (λ d. AreHiding d (changed_from (alone place) as_loaded 0 (groups_in old.catalog)) (slice_set old.stores.items place k.filled) old.hidden.items) (sym k.rest.schema)
          (hiding_set place as_loaded (groups_in old.catalog) old.stores.items k.store k.filled k.kept (kept_long old.schema (groups_in old.catalog) old.stores.items sound.kept)
          old.schema old.hidden.items (hiding_long old.schema (groups_in old.catalog) old.stores.items old.hidden.items sound.hiding)
          (λ g x at held is. loaded_hides g (same_there (groups_in old.catalog) place g k.group at k.there) x is) sound.hiding))));
      plain = ap (list_all is_plain) k.groups ∙ plain_loaded (alone place) 0 (groups_in old.catalog) ∙ sound.plain;
      named = subst HaveOwnNames (sym k.groups) (names_loaded (alone place) 0 (groups_in old.catalog) sound.named);
      visible =
          k.rest.visible ∙ sound.visible ∙ ap (named_where_cached (groups_in old.catalog)) (sym k.rest.schema)
          ∙ sym (ap (λ gs. named_where_cached gs new.schema) k.groups ∙ visible_loaded (alone place) 0 (groups_in old.catalog) new.schema);
      numbered = subst (λ u. RiseBetween 1 u.items new.next) (sym k.rest.unsettled) (subst (λ m. RiseBetween 1 old.unsettled.items m) (sym k.rest.next) sound.numbered);
      later =
          ap (λ u. are_later (groups_in new.catalog) u.items) k.rest.unsettled
          ∙ later_by (groups_in old.catalog) (groups_in new.catalog) old.unsettled.items (ap definitions_of k.groups ∙ changed_defs (alone place) as_loaded 0 (groups_in old.catalog) (λ g. refl)) sound.later;
      writers = writers_same old new k.rest.schema (ap (λ u. u.items) k.rest.unsettled) k.rest.next k.rest.writers sound;
      verified = λ noted. let no : false ≡ true = sym k.unverified ∙ noted in cc;
    }
  where
    loaded_hides : (g : Group) → g ≡ k.group → (x : RowsHeld) → IsHidingFor old.schema g k.store x → IsHidingFor old.schema (as_loaded g) k.filled x
    loaded_hides g same x is = hiding_same old.schema g (as_loaded g) k.filled x refl (hides_none old.schema g k.store k.filled x (writes_hides g (ap is_read_only same ∙ k.writes)) is)

pub matching_sound : (old new : Stored) (place : ℕ) (which : ResolvedWhich) (refreshes : Bool) (s : TableState) (result : Result Reply Refused) → IsSound old → TakesMatching old new place which refreshes s result → IsSound new
matching_sound old new place which refreshes s (Ok reply) sound k = taken_sound old new place which refreshes s reply sound k
matching_sound old new place which refreshes s (Err (refused.Rule rule)) sound k = sound_room old new k.0 sound
matching_sound old new place which refreshes s (Err refused.Memory) sound k = sound_room old new k sound
