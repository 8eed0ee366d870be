-- A transaction that is passed on comes to the history and to the log, on no live table: what is shown stays.
use Rattle.std.proofs.Common.{◌≡◌, ℕ, ◌+◌, ◌≤◌, ◌^◌, Bool, true, false, cond, not, Option, Some, None, is_some, List, [], ◌∷◌, ◌++◌, length, slice_get, unwrap_or, refl, sym, ap, subst, ◌∙◌, arith}
use Rattle.std.proofs.lemmas.List.{length-append, take-append-le}
use Rattle.std.specs.Option.{option_and_then}
use Rattle.std.specs.List.{find}
use Rattle.tier_base.specs.declared.number.TableId.{TableId}
use Rattle.table_state.specs.declared.history.Entry.{Entry}
use Rattle.table_state.specs.declared.history.Sealed.{Sealed}
use Rattle.table_state.specs.declared.operation.Op.{Op}
use Rattle.table_state.specs.Histories.{entry_of, state_at, state_of}
use Rattle.table_state.specs.Operations.{applied_all}
use Rattle.table_state.specs.Tables.{TableState, table_at}
use Rattle.instances.specs.Trees.{place_of}
use Rattle.instances.specs.Views.{kept_at}
use Rattle.order_laws.specs.Commits.{NoneConflicts, pending, virtual_state}
use Rattle.order_laws.specs.Pipelines.{FlowsAs, FlowsWithLive}
use Rattle.order_laws.specs.Sides.{AgreeOn, IsClosed, are_off}
use Rattle.order_laws.specs.Standing.{progress_of}
use Rattle.order_laws.specs.Steps.{after_coming}
use Rattle.order_laws.specs.OpenWrites.{OpenWrites}
use Rattle.order_laws.proofs.AtOnceLaws.{applies_behind_pending, sides_conflict_not}
use Rattle.order_laws.proofs.CommittingLaws.{schemas_same}
use Rattle.order_laws.proofs.FlowLaws.{flow_at_once}
use Rattle.order_laws.proofs.OthersLaws.{agree_turned, beside}
use Rattle.order_laws.proofs.SideLaws.{side_off}
use Rattle.order_laws.proofs.TruthLaws.{same_some}
use Rattle.cache_tier.specs.Groups.{Group, covers, is_read_only, is_writethrough}
use Rattle.cache_tier.specs.PassedSteps.{with_ticket}
use Rattle.cache_tier.specs.Shown.{shown, shown_state, shown_where, table_of_group}
use Rattle.cache_tier.specs.TierStates.{Tier}
use Rattle.cache_tier.specs.Worlds.{World}
use Rattle.cache_tier.specs.StandingBetween.{IsCatalogued, IsReadWithin, Stands, live_groups_of, own_writes, progress_in}
use Rattle.cache_tier.specs.Events.{StaysShown, at_history, with_tier}
use Rattle.cache_tier.proofs.GroupTables.{each_found, each_map, live_table, over_is_found, same_found, through_live}
use Rattle.cache_tier.proofs.HistoryKeeps.{AreAlike, all_through_on, applies_stay, keys_stay, root_covers, same_shown, shown_alike}
use Rattle.cache_tier.proofs.SessionLaws.{Known, known}
use Rattle.cache_tier.proofs.ShownTables.{live_of}
use Rattle.cache_tier.proofs.ShownTrees.{sound_child}

abbrev pub numbered : ℕ → List Op → Sealed
numbered ticket ops = record { ticket = record { 0 = ticket }; ops = ops }

-- The history goes on, the log has more, and the virtual state keeps the rows of the live tables.
module _ (w : World) (x : Stands w) (tail : List Entry) (more : List Sealed) (next : ℕ) (f : FlowsWithLive (progress_of (live_groups_of w.tier.groups) (w.history ++ tail) more next) w.tier.unsettled x.flow.stand.over.virtual) where
  abbrev longer : List Entry
  longer = w.history ++ tail

  abbrev v : TableState
  v = x.flow.stand.over.virtual

  abbrev n : TableState
  n = f.flow.stand.over.virtual

  abbrev told : Tier
  told = record w.tier { log = more; next = next }

  k : Known w v
  k = known w x

  alike : (u : TableId) (g : Group) → find (covers u) w.tier.groups ≡ Some g → is_writethrough g ≡ true → AreAlike g.def.tree v n
  alike u g found through = record {
    root = rows g.def.tree.root.table (root_covers g);
    def = ap (λ s. slice_get s g.def.tree.root.table.0) f.same.schema;
    children = λ i c at.
        let sc = sound_child w.tier.schema g.def.tree i c (each_found (IsCatalogued w.tier.schema) (covers u) w.tier.groups g x.catalog.each found).sound at in
        (rows c.table (ap is_some sc.place), ap (λ s. slice_get s c.table.0) f.same.schema);
  }
    where
      rows : (t : TableId) → covers t g ≡ true → table_at n t ≡ table_at v t
      rows t e = f.same.rows t (live_table w.tier.groups t ∙ through_live w.tier.groups t g (same_found w.tier.groups u t g x.catalog.apart found e) through)

  one_group : (u : TableId) (g : Group) → find (covers u) w.tier.groups ≡ Some g → shown longer more g ≡ shown w.history w.tier.log g
  one_group u g found = by (is_read_only g) refl
    where
      by : (b : Bool) → is_read_only g ≡ b → shown longer more g ≡ shown w.history w.tier.log g
      by true e =
          ap (λ b. shown_where (cond b (option_and_then (state_at longer) g.position) (virtual_state longer more)) g) e
          ∙ ap (λ o. shown_where o g) (read g.position refl)
          ∙ sym (ap (λ b. shown_where (cond b (option_and_then (state_at w.history) g.position) (virtual_state w.history w.tier.log)) g) e)
        where
          read : (o : Option ℕ) → g.position ≡ o → option_and_then (state_at longer) g.position ≡ option_and_then (state_at w.history) g.position
          read None e = ap (option_and_then (state_at longer)) e ∙ sym (ap (option_and_then (state_at w.history)) e)
          read (Some i) e =
              ap (option_and_then (state_at longer)) e
              ∙ ap state_of (take-append-le i w.history tail (each_found (IsReadWithin (length w.history)) (covers u) w.tier.groups g x.read.within found i e))
              ∙ sym (ap (option_and_then (state_at w.history)) e)
      by false e =
          ap (λ b. shown_where (cond b (option_and_then (state_at longer) g.position) (virtual_state longer more)) g) e
          ∙ ap (λ o. shown_where o g) f.flow.stand.over.virtual_is
          ∙ shown_alike v n g (alike u g found (ap not e))
          ∙ sym (ap (λ o. shown_where o g) k.v_is)
          ∙ sym (ap (λ b. shown_where (cond b (option_and_then (state_at w.history) g.position) (virtual_state w.history w.tier.log)) g) e)

  still_shown : shown_state longer told ≡ shown_state w.history w.tier
  still_shown = same_shown w.history longer w.tier told refl (λ u. ap (table_of_group longer more u) (over_is_found w.tier.groups u) ∙ by u (find (covers u) w.tier.groups) refl ∙ sym (ap (table_of_group w.history w.tier.log u) (over_is_found w.tier.groups u)))
    where
      by : (u : TableId) (o : Option Group) → find (covers u) w.tier.groups ≡ o → table_of_group longer more u (find (covers u) w.tier.groups) ≡ table_of_group w.history w.tier.log u (find (covers u) w.tier.groups)
      by u None e = ap (table_of_group longer more u) e ∙ sym (ap (table_of_group w.history w.tier.log u) e)
      by u (Some g) e = ap (table_of_group longer more u) e ∙ ap (λ m. kept_at m (unwrap_or (place_of g.def.tree u) 0)) (one_group u g e) ∙ sym (ap (table_of_group w.history w.tier.log u) e)

  schema_of : (s : TableState) → state_of longer ≡ Some s → s.schema ≡ x.flow.stand.over.backing.schema
  schema_of s e =
      ap (λ (b : TableState). b.schema) (same_some (sym e ∙ f.flow.stand.over.leaves))
      ∙ sym (schemas_same longer more f.flow.stand.over.backing n f.flow.stand.over.leaves f.flow.stand.over.virtual_is)
      ∙ f.same.schema
      ∙ schemas_same w.history w.tier.log x.flow.stand.over.backing v x.flow.stand.over.leaves x.flow.stand.over.virtual_is

  pub goes_on : StaysShown w (at_history (w.history ++ tail) (with_tier (record w.tier { log = more; next = next }) w))
  goes_on = record {
    stands = record {
      flow = f.flow;
      schema = record {
        front = λ s e. let m = x.schema.front x.flow.stand.over.backing x.flow.stand.over.leaves in (m.0, schema_of s e ∙ m.1);
        whole = λ s stale e. schema_of s e ∙ x.schema.whole x.flow.stand.over.backing stale x.flow.stand.over.leaves;
      };
      catalog = record { each = x.catalog.each; apart = x.catalog.apart };
      keys = keys_stay v n w.tier.groups f.same x.keys;
      read = record {
        within = each_map (IsReadWithin (length w.history)) (IsReadWithin (length longer)) (λ g inside i e. let le = inside i e in let size : length (w.history ++ tail) ≡ length w.history + length tail = length-append w.history tail in omega (arith, le, size)) w.tier.groups x.read.within;
        one = x.read.one;
      };
      sessions = record {
        labels = x.sessions.labels;
        through = x.sessions.through;
        shown = subst (λ s. OpenWrites s (own_writes w.tier.sessions)) (sym still_shown) x.sessions.shown;
        virtual = applies_stay (live_of w.tier) v n (own_writes w.tier.sessions) k.closed f.same (all_through_on w.tier.groups (own_writes w.tier.sessions) ∙ x.sessions.through) x.sessions.virtual;
      };
    };
    same = still_shown;
  }

-- the tier that has been told of it
abbrev pub passed_tier : Tier → List Op → Tier
passed_tier a ops = record (with_ticket a) { log = a.log ++ numbered a.next ops ∷ [] }

-- the world in which it came
abbrev pub passed_to : World → List Op → List Entry → World
passed_to w ops later = at_history later (with_tier (passed_tier w.tier ops) w)

-- operations that apply at the backing database, on no live table
pub passed_comes : (w : World) → Stands w → (ops : List Op) (b left : TableState) → state_of w.history ≡ Some b → are_off (live_of w.tier) ops ≡ true → applied_all ops b ≡ Some left → w.tier.next + 1 ≤ 2 ^ 63 → StaysShown w (passed_to w ops (w.history ++ entry_of (numbered w.tier.next ops) ∷ []))
passed_comes w x ops b left is off done room =
    goes_on w x (entry_of (numbered w.tier.next ops) ∷ []) (w.tier.log ++ numbered w.tier.next ops ∷ []) (w.tier.next + 1) (record {
      flow = f.flow;
      same = subst (AgreeOn (live_of w.tier) x.flow.stand.over.virtual) (sym f.same) (agree_turned (live_of w.tier) leads.0 x.flow.stand.over.virtual (beside (live_of w.tier) ops x.flow.stand.over.virtual leads.0 x.flow.stand.over.virtual side leads.1 (record { schema = refl; size = refl; rows = λ t e. refl })));
    })
  where
    same : b ≡ x.flow.stand.over.backing
    same = same_some (sym is ∙ x.flow.stand.over.leaves)

    side : Rattle.order_laws.proofs.SideLaws.OnSide (live_of w.tier) false ops
    side = side_off (live_of w.tier) ops off

    closed : IsClosed (live_of w.tier) x.flow.stand.over.backing.schema
    closed = subst (IsClosed (live_of w.tier)) (schemas_same w.history w.tier.log x.flow.stand.over.backing x.flow.stand.over.virtual x.flow.stand.over.leaves x.flow.stand.over.virtual_is) (known w x).closed

    meets : NoneConflicts x.flow.stand.over.backing.schema (pending w.history w.tier.log) (numbered w.tier.next ops)
    meets = sides_conflict_not (live_of w.tier) x.flow.stand.over.backing.schema closed (pending w.history w.tier.log) (numbered w.tier.next ops) x.flow.stand.live side

    leads : (t : TableState) × (applied_all ops x.flow.stand.over.virtual ≡ Some t)
    leads =
        let a = applies_behind_pending (live_groups_of w.tier.groups) w.history w.tier.log w.tier.next x.flow.stand.over (numbered w.tier.next ops) left meets (ap (applied_all ops) (sym same) ∙ done) in
        (a.0, a.1)

    f : FlowsAs (after_coming (progress_in w) (numbered w.tier.next ops)) w.tier.unsettled leads.0
    f = flow_at_once (progress_in w) w.tier.unsettled x.flow (numbered w.tier.next ops) leads.0 (record { ticket = omega arith; leads = leads.1; meets = meets }) room
