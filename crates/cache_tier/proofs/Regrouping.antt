-- Groups whose keys, positions or flags change.
use Rattle.std.proofs.Common.{◌≡◌, Bool, true, false, cond, ◌&&◌, Option, Some, None, List, [], ◌∷◌, length, unwrap_or, map, inl, refl, sym, ap, subst, ◌∙◌}
use Rattle.std.specs.Option.{option_and_then}
use Rattle.std.specs.List.{filter, find, fold}
use Rattle.tier_base.specs.declared.number.TableId.{TableId}
use Rattle.row_types.specs.declared.value.Value.{Value}
use Rattle.table_state.specs.declared.footprint.RowKey.{RowKey}
use Rattle.table_state.specs.declared.history.Entry.{Entry}
use Rattle.table_state.specs.declared.history.Sealed.{Sealed}
use Rattle.table_state.specs.declared.operation.Op.{Op}
use Rattle.table_state.specs.Histories.{state_at}
use Rattle.table_state.specs.Operations.{table_of}
use Rattle.table_state.specs.Tables.{TableState}
use Rattle.instances.specs.Trees.{place_of}
use Rattle.instances.specs.Views.{kept_at, root_rows, rows_where, with_children}
use Rattle.order_laws.specs.Commits.{virtual_state}
use Rattle.order_laws.specs.Standing.{progress_of}
use Rattle.order_laws.specs.OpenWrites.{OpenWrites}
use Rattle.order_laws.specs.Pipelines.{FlowsAs}
use Rattle.cache_tier.specs.declared.group.GroupDef.{GroupDef}
use Rattle.cache_tier.specs.Groups.{Group, covers, group_over, is_explicit, is_key, is_read_only}
use Rattle.cache_tier.specs.Recency.{after_use, after_writes, op_key, used_by_ops, used_root, used_row, used_rows}
use Rattle.cache_tier.specs.OwnWrites.{written}
use Rattle.cache_tier.specs.Shown.{exceeds, instance_key, root_key, shown, shown_in, shown_state, shown_where, table_of_group, over, seen_by}
use Rattle.cache_tier.specs.Standing.{AreDistinct}
use Rattle.cache_tier.specs.TierStates.{Session, with_session, with_writes}
use Rattle.cache_tier.specs.Worlds.{World}
use Rattle.cache_tier.proofs.ApartLaws.{use_one}
use Rattle.cache_tier.proofs.PositionLaws.{Weaker, map_one, ops_weaker, rows_weaker, same_group}
use Rattle.cache_tier.specs.StandingBetween.{AreReadAt, Each, HasKeys, IsCatalogued, IsReadWithin, Stands, own_writes}
use Rattle.cache_tier.specs.Events.{MayWriteMore, StaysShown, with_tier}
use Rattle.cache_tier.proofs.CommitLaws.{stands_by}
use Rattle.cache_tier.proofs.GroupPairs.{FoundBoth, IsKept, NoGroup, OneGroup, Pairs, all_same_through, catalogued_kept, found_both, own_tables_kept, pairs_each, pairs_mapped, pairs_weaker, same_kind, same_live}
use Rattle.cache_tier.proofs.GroupTables.{each_changed, over_is_found}
use Rattle.cache_tier.proofs.HistoryKeeps.{same_shown}
use Rattle.cache_tier.proofs.SessionLaws.{session_writes}
use Rattle.cache_tier.proofs.KeyListLaws.{key_used}

-- what holds with other groups, over the same virtual state
pub regrouped : (w : World) (x : Stands w) (groups : List Group) → Pairs IsKept w.tier.groups groups → Each (HasKeys x.flow.stand.over.virtual) groups → AreReadAt (length w.history) groups
    → OpenWrites (shown_state w.history (record w.tier { groups = groups })) (own_writes w.tier.sessions) → Stands (with_tier (record w.tier { groups = groups }) w)
regrouped w x groups kept keys read shown = stands_by (with_tier (record w.tier { groups = groups }) w) x.flow.stand.over.virtual
    (subst (λ gs. FlowsAs (progress_of gs w.history w.tier.log w.tier.next) w.tier.unsettled x.flow.stand.over.virtual) (sym (same_live w.tier.groups groups kept)) (record { flow = x.flow; same = refl }))
    (record { front = x.schema.front; whole = x.schema.whole })
    (record {
      each = pairs_each IsKept (IsCatalogued w.tier.schema) (IsCatalogued w.tier.schema) (λ g h r c. catalogued_kept w.tier.schema g h r c) w.tier.groups groups kept x.catalog.each;
      apart = own_tables_kept w.tier.groups groups kept x.catalog.apart;
    })
    keys read
    (record {
      labels = x.sessions.labels;
      through = all_same_through w.tier.groups groups kept (own_writes w.tier.sessions) ∙ x.sessions.through;
      shown = shown;
      virtual = x.sessions.virtual;
    })

-- keys in another order

pub record IsReordered (g h : Group) : Type 0 where
  pub is : h ≡ record g { keys = h.keys }
  pub same : (k : List Value) → is_key h.keys k ≡ is_key g.keys k
  pub distinct : AreDistinct g.keys → AreDistinct h.keys

pub reordered_kept : (g h : Group) → IsReordered g h → IsKept g h
reordered_kept g h r = record { def = ap (λ (x : Group). x.def) r.is; first = ap (λ (x : Group). x.first) r.is }

reordered_still : (a b c : Group) → IsReordered a b → IsReordered b c → IsReordered a c
reordered_still a b c p q = record {
  is = q.is ∙ ap (λ (x : Group). record x { keys = c.keys }) p.is;
  same = λ k. q.same k ∙ p.same k;
  distinct = λ d. q.distinct (p.distinct d);
}

nothing_reordered : (g : Group) → IsReordered g g
nothing_reordered g = record { is = refl; same = λ k. refl; distinct = λ d. d }

row_reordered : (s : TableState) (key : RowKey) (g : Group) → IsReordered g (used_row s key g)
row_reordered s key g = by (instance_key s g key.table key.key)
  where
    by : (o : Option (List Value)) → IsReordered g (used_root o g)
    by None = nothing_reordered g
    by (Some root) = record { is = refl; same = λ k. key_used root g.keys k; distinct = λ d. use_one root g.keys d }

rows_reordered : (s : TableState) (rows : List RowKey) (a g : Group) → IsReordered a g → IsReordered a (fold (λ h row. used_row s row h) g rows)
rows_reordered s [] a g r = r
rows_reordered s (row ∷ rows) a g r = rows_reordered s rows a (used_row s row g) (reordered_still a g (used_row s row g) r (row_reordered s row g))

ops_reordered : (step : Op → TableState → TableState) (ops : List Op) (s : TableState) (a g : Group) → IsReordered a g → IsReordered a (used_by_ops step ops s g)
ops_reordered step [] s a g r = r
ops_reordered step (op ∷ ops) s a g r = ops_reordered step ops (step op s) a (cond (covers (table_of op) g) (used_row (step op s) (op_key s op) (used_row s (op_key s op) g)) g) (by (covers (table_of op) g))
  where
    by : (b : Bool) → IsReordered a (cond b (used_row (step op s) (op_key s op) (used_row s (op_key s op) g)) g)
    by true = reordered_still a (used_row s (op_key s op) g) (used_row (step op s) (op_key s op) (used_row s (op_key s op) g)) (reordered_still a g (used_row s (op_key s op) g) r (row_reordered s (op_key s op) g)) (row_reordered (step op s) (op_key s op) (used_row s (op_key s op) g))
    by false = r

-- it shows the same of each state
reordered_in : (s : TableState) (g : Group) (keys : List (List Value)) → ((k : List Value) → is_key keys k ≡ is_key g.keys k) → shown_in s (record g { keys = keys }) ≡ shown_in s g
reordered_in s g keys same = λ i. with_children s g.def.tree.children (rows_where (λ row. cond (is_read_only g) (cond (is_explicit g) g.loaded (same (root_key s g row) i) && exceeds g row) (same (root_key s g row) i)) (root_rows s g.def.tree.root) ∷ [])

reordered_where : (o : Option TableState) (g : Group) (keys : List (List Value)) → ((k : List Value) → is_key keys k ≡ is_key g.keys k) → shown_where o (record g { keys = keys }) ≡ shown_where o g
reordered_where None g keys same = refl
reordered_where (Some s) g keys same = reordered_in s g keys same

pub reordered_shown : (h : List Entry) (log : List Sealed) (g g' : Group) → IsReordered g g' → shown h log g' ≡ shown h log g
reordered_shown h log g g' r =
    ap (shown h log) r.is ∙ reordered_where (cond (is_read_only g) (option_and_then (state_at h) g.position) (virtual_state h log)) g g'.keys r.same

-- a table shows the same where its group does
pub table_same : (R : Group → Group → Type 0) (h : List Entry) (log : List Sealed) → ((g g' : Group) → R g g' → shown h log g' ≡ shown h log g) → ((g g' : Group) → R g g' → IsKept g g') → (u : TableId) (gs hs : List Group) → Pairs R gs hs
    → table_of_group h log u (group_over hs u) ≡ table_of_group h log u (group_over gs u)
table_same R h log shows kept u gs hs pairs = ap (table_of_group h log u) (over_is_found hs u) ∙ by (found_both R kept u gs hs pairs) ∙ sym (ap (table_of_group h log u) (over_is_found gs u))
  where
    by : FoundBoth R u gs hs → table_of_group h log u (find (covers u) hs) ≡ table_of_group h log u (find (covers u) gs)
    by (NoGroup a b) = ap (table_of_group h log u) b ∙ sym (ap (table_of_group h log u) a)
    by (OneGroup g g' a b r) =
        ap (table_of_group h log u) b
        ∙ (λ i. kept_at (shows g g' r i) (unwrap_or (place_of (((kept g g' r).def i).tree) u) 0))
        ∙ sym (ap (table_of_group h log u) a)

-- Keys are used.
pub keys_used : (w : World) (x : Stands w) (f : Group → Group) → ((g : Group) → IsReordered g (f g)) → ((g : Group) → Weaker g (f g)) → StaysShown w (with_tier (record w.tier { groups = map f w.tier.groups }) w)
keys_used w x f reorders lessens = record {
  stands = regrouped w x (map f w.tier.groups) (pairs_weaker IsReordered IsKept reordered_kept w.tier.groups (map f w.tier.groups) pairs)
      (each_changed (HasKeys x.flow.stand.over.virtual) (HasKeys x.flow.stand.over.virtual) f keys_one w.tier.groups x.keys)
      (record {
        within = each_changed (IsReadWithin (length w.history)) (IsReadWithin (length w.history)) f (λ g inside i e. inside i (sym (ap (λ (z : Group). z.position) (reorders g).is) ∙ e)) w.tier.groups x.read.within;
        one = map_one f (λ g. inl (lessens g)) w.tier.groups x.read.one;
      })
      (subst (λ s. OpenWrites s (own_writes w.tier.sessions)) (sym same) x.sessions.shown);
  same = same;
}
  where
    pairs : Pairs IsReordered w.tier.groups (map f w.tier.groups)
    pairs = pairs_mapped IsReordered f reorders w.tier.groups

    same : shown_state w.history (record w.tier { groups = map f w.tier.groups }) ≡ shown_state w.history w.tier
    same = same_shown w.history w.history w.tier (record w.tier { groups = map f w.tier.groups }) refl (λ u. table_same IsReordered w.history w.tier.log (reordered_shown w.history w.tier.log) reordered_kept u w.tier.groups (map f w.tier.groups) pairs)

    keys_one : (g : Group) → HasKeys x.flow.stand.over.virtual g → HasKeys x.flow.stand.over.virtual (f g)
    keys_one g k = record {
      distinct = (reorders g).distinct k.distinct;
      rooted = λ writes key e. ap (λ (d : GroupDef). Rattle.std.specs.FinMap.contains_key (Rattle.table_state.specs.Tables.table_at x.flow.stand.over.virtual d.tree.root.table) key) (reordered_kept g (f g) (reorders g)).def
          ∙ k.rooted (sym (same_kind g (f g) (reordered_kept g (f g) (reorders g))) ∙ writes) key (sym ((reorders g).same key) ∙ e);
    }

pub rows_used : (w : World) (s : TableState) (rows : List RowKey) → Stands w → StaysShown w (with_tier (after_use s rows w.tier) w)
rows_used w s rows x = keys_used w x (used_rows s rows) (λ g. rows_reordered s (filter (λ row. covers row.table g) rows) g g (nothing_reordered g)) (λ g. rows_weaker s (filter (λ row. covers row.table g) rows) g g (same_group g))

pub writes_used : (w : World) (step : Op → TableState → TableState) (ops : List Op) (s : TableState) → Stands w → StaysShown w (with_tier (after_writes step ops s w.tier) w)
writes_used w step ops s x = keys_used w x (used_by_ops step ops s) (λ g. ops_reordered step ops s g g (nothing_reordered g)) (λ g. ops_weaker step ops s g g (same_group g))

-- A session's write, with the instances that it uses.
pub write_stays : (w : World) (s : Session) (table : TableId) (ops : List Op) → Stands w → MayWriteMore w s ops → StaysShown w (with_tier (written s table ops w).0 w)
write_stays w s table ops x may =
    let one = session_writes w s ops x may in
    let two = writes_used (with_tier (with_session s.label (with_writes ops) w.tier) w) over ops (seen_by s w.history w.tier) one.stands in
    record { stands = two.stands; same = two.same ∙ one.same }
