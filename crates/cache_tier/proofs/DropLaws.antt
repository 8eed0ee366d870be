-- A group is dropped; and the tier as it is opened.
use Rattle.std.proofs.Common.{◌≡◌, ℕ, zero, suc, ◌+◌, ◌≤◌, Bool, true, false, cond, not, ◌&&◌, ◌||◌, inl, Option, Some, None, is_some, List, [], ◌∷◌, ◌++◌, length, slice_get, map, refl, sym, ap, subst, ◌∙◌}
use Rattle.std.proofs.lemmas.List.{append-nil, map-append}
use Rattle.std.proofs.lemmas.List.Elements.{filter-append}
use Rattle.std.specs.List.{filter, find, list_all, list_any}
use Rattle.std.specs.FinMap.{empty}
use Rattle.tier_base.specs.declared.number.TableId.{TableId}
use Rattle.table_defs.specs.declared.definition.TableDef.{TableDef}
use Rattle.table_state.specs.declared.operation.Op.{Op}
use Rattle.table_state.specs.Histories.{state_of}
use Rattle.table_state.specs.Operations.{table_of}
use Rattle.table_state.specs.Tables.{TableState, table_at}
use Rattle.order_laws.specs.Commits.{pending, is_op_on}
use Rattle.order_laws.specs.Sides.{AgreeOn, IsClosed, all_on, are_off}
use Rattle.order_laws.specs.Standing.{HasGroup, live_tables, progress_of}
use Rattle.order_laws.specs.Steps.{MayBegin}
use Rattle.order_laws.proofs.AgreeLaws.{all_closed}
use Rattle.order_laws.proofs.CountLaws.{get_front}
use Rattle.order_laws.proofs.TruthLaws.{both_true, never_both, not_both, or_true, same_some}
use Rattle.order_laws.specs.Pipelines.{FlowsAs}
use Rattle.order_laws.proofs.FlowLaws.{flow_begins, flow_dropped}
use Rattle.cache_tier.specs.Commits.{live_group, tables_of}
use Rattle.cache_tier.specs.DropSteps.{without_group}
use Rattle.cache_tier.specs.Groups.{Group, covers, group_over, is_table_of, is_writethrough}
use Rattle.cache_tier.specs.Sets.{OnePosition}
use Rattle.cache_tier.specs.Shown.{shown_state, shown_table, table_of_group}
use Rattle.cache_tier.specs.TierStates.{Settings, Tier, opened}
use Rattle.cache_tier.specs.Worlds.{World}
use Rattle.cache_tier.proofs.PositionLaws.{same_group, weaker_one}
use Rattle.cache_tier.specs.StandingBetween.{Each, HasKeys, HaveOwnTables, IsCatalogued, IsReadWithin, Stands, are_written_through, live_groups_of, own_writes, progress_in}
use Rattle.cache_tier.specs.Dropping.{MayDrop, ShowsWithout}
use Rattle.cache_tier.specs.Events.{with_tier}
use Rattle.cache_tier.proofs.CommitLaws.{stands_by}
use Rattle.cache_tier.proofs.GroupTables.{any_found, live_at, live_table, over_is_found, in_tree, not_true}
use Rattle.cache_tier.proofs.HistoryKeeps.{all_through_on, applies_stay}
use Rattle.cache_tier.proofs.ShownTables.{from_length, no_table_shown, table_shown}

-- a list without one element

each_without : {X : Type 0} (P : X → Type 0) (xs : List X) (x : X) (ys : List X) → Each P (xs ++ x ∷ ys) → Each P (xs ++ ys)
each_without P [] x ys all = all.1
each_without P (z ∷ xs) x ys all = (all.0, each_without P xs x ys all.1)

any_without : (p : Group → Bool) (xs : List Group) (x : Group) (ys : List Group) → list_any p (xs ++ x ∷ ys) ≡ false → list_any p (xs ++ ys) ≡ false
any_without p [] x ys e = of (p x) e
  where
    of : (b : Bool) → (b || list_any p ys) ≡ false → list_any p ys ≡ false
    of true h = Prim.cc
    of false h = h
any_without p (z ∷ xs) x ys e = of (p z) e (any_without p xs x ys)
  where
    of : (b : Bool) → (b || list_any p (xs ++ x ∷ ys)) ≡ false → (list_any p (xs ++ x ∷ ys) ≡ false → list_any p (xs ++ ys) ≡ false) → (b || list_any p (xs ++ ys)) ≡ false
    of true h rest = Prim.cc
    of false h rest = rest h

any_middle : (p : Group → Bool) (xs : List Group) (x : Group) (ys : List Group) → p x ≡ true → list_any p (xs ++ x ∷ ys) ≡ true
any_middle p [] x ys e = ap (λ b. b || list_any p ys) e
any_middle p (z ∷ xs) x ys e = ap (λ b. p z || b) (any_middle p xs x ys e) ∙ or_true (p z)

own_without : (before : List Group) (g : Group) (behind : List Group) → HaveOwnTables (before ++ g ∷ behind) → HaveOwnTables (before ++ behind)
own_without [] g behind own = own.1
own_without (h ∷ before) g behind own = (λ u e. any_without (covers u) before g behind (own.0 u e), own_without before g behind own.1)

-- no other group has its tables
others_none : (before : List Group) (g : Group) (behind : List Group) (u : TableId) → HaveOwnTables (before ++ g ∷ behind) → covers u g ≡ true → list_any (covers u) (before ++ behind) ≡ false
others_none [] g behind u own e = own.0 u e
others_none (h ∷ before) g behind u own e =
    let off : covers u h ≡ false = not_both (covers u h) (λ c. never_both (list_any (covers u) (before ++ g ∷ behind)) (any_middle (covers u) before g behind e) (own.0 u c)) in
    λ i. off i || others_none before g behind u own.1 e i

find_without : (p : Group → Bool) (xs : List Group) (x : Group) (ys : List Group) → p x ≡ false → find p (xs ++ x ∷ ys) ≡ find p (xs ++ ys)
find_without p [] x ys e = ap (λ b. cond b (Some x) (find p ys)) e
find_without p (z ∷ xs) x ys e = ap (λ o. cond (p z) (Some z) o) (find_without p xs x ys e)

at_without : (xs : List Group) (x : Group) (ys : List Group) (i : ℕ) (h : Group) → slice_get (xs ++ ys) i ≡ Some h → (j : ℕ) × (slice_get (xs ++ x ∷ ys) j ≡ Some h)
at_without [] x ys i h e = (suc i, e)
at_without (z ∷ xs) x ys zero h e = (0, e)
at_without (z ∷ xs) x ys (suc i) h e = let (j, at) = at_without xs x ys i h e in (suc j, at)

one_without : (before : List Group) (g : Group) (behind : List Group) → OnePosition (before ++ g ∷ behind) → OnePosition (before ++ behind)
one_without before g behind = weaker_one (before ++ g ∷ behind) (before ++ behind) (λ i h e. let (j, at) = at_without before g behind i h e in record { g = h; place = j; there = at; fate = inl (same_group h) })

through_fewer : (before : List Group) (g : Group) (behind : List Group) (u : TableId) → is_writethrough g ≡ false → is_table_of is_writethrough (before ++ g ∷ behind) u ≡ is_table_of is_writethrough (before ++ behind) u
through_fewer [] g behind u e = ap (λ b. (b && covers u g) || is_table_of is_writethrough behind u) e
through_fewer (h ∷ before) g behind u e = ap (λ b. (is_writethrough h && covers u h) || b) (through_fewer before g behind u e)

ops_fewer : (before : List Group) (g : Group) (behind : List Group) → is_writethrough g ≡ false → (ops : List Op) → are_written_through (before ++ g ∷ behind) ops ≡ are_written_through (before ++ behind) ops
ops_fewer before g behind e [] = refl
ops_fewer before g behind e (op ∷ ops) = λ i. through_fewer before g behind (table_of op) e i && ops_fewer before g behind e ops i

all_fewer : (before : List Group) (g : Group) (behind : List Group) → is_writethrough g ≡ false → (owns : List (List Op)) → list_all (are_written_through (before ++ g ∷ behind)) owns ≡ list_all (are_written_through (before ++ behind)) owns
all_fewer before g behind e [] = refl
all_fewer before g behind e (own ∷ owns) = λ i. ops_fewer before g behind e own i && all_fewer before g behind e owns i

groups_append : (xs ys : List Group) → live_groups_of (xs ++ ys) ≡ live_groups_of xs ++ live_groups_of ys
groups_append xs ys = ap (map live_group) (filter-append is_writethrough xs ys) ∙ map-append live_group (filter is_writethrough xs) (filter is_writethrough ys)

module _ (w : World) (x : Stands w) (g : Group) (before behind : List Group) (is : w.tier.groups ≡ before ++ g ∷ behind) (settled : is_writethrough g ≡ true → w.tier.unsettled ≡ []) (unwritten : is_writethrough g ≡ true → list_all (are_written_through (before ++ behind)) (own_writes w.tier.sessions) ≡ true) where
  abbrev v : TableState
  v = x.flow.stand.over.virtual

  abbrev after : Tier
  after = record w.tier { groups = before ++ behind }

  own : HaveOwnTables (before ++ g ∷ behind)
  own = subst HaveOwnTables is x.catalog.apart

  flow : (b : Bool) → is_writethrough g ≡ b → FlowsAs (progress_of (live_groups_of (before ++ behind)) w.history w.tier.log w.tier.next) w.tier.unsettled v
  flow true e =
      let there : live_groups_of w.tier.groups ≡ live_groups_of before ++ live_group g ∷ live_groups_of behind =
      ap live_groups_of is ∙ groups_append before (g ∷ behind) ∙ ap (λ b. live_groups_of before ++ map live_group (cond b (g ∷ filter is_writethrough behind) (filter is_writethrough behind))) e
      in
      let one : HasGroup (live_groups_of w.tier.groups) (live_group g) = record { before = live_groups_of before; behind = live_groups_of behind; is = there } in
      let none : pending w.history w.tier.log ≡ [] = x.flow.rest ∙ ap (pending w.history) (settled e) in
      let p = flow_dropped (progress_in w) w.tier.unsettled (live_group g) one x.flow (ap (all_on (live_tables (live_groups_of before ++ live_groups_of behind))) none) in
      subst (λ gs. FlowsAs (progress_of gs w.history w.tier.log w.tier.next) w.tier.unsettled v) (sym (groups_append before behind))
      (record { flow = p; same = same_some (sym p.stand.over.virtual_is ∙ x.flow.stand.over.virtual_is) })
  flow false e =
      let same : live_groups_of w.tier.groups ≡ live_groups_of (before ++ behind) =
      ap live_groups_of is ∙ groups_append before (g ∷ behind) ∙ ap (λ b. live_groups_of before ++ map live_group (cond b (g ∷ filter is_writethrough behind) (filter is_writethrough behind))) e ∙ sym (groups_append before behind)
      in
      subst (λ gs. FlowsAs (progress_of gs w.history w.tier.log w.tier.next) w.tier.unsettled v) same (record { flow = x.flow; same = refl })

  now : FlowsAs (progress_of (live_groups_of (before ++ behind)) w.history w.tier.log w.tier.next) w.tier.unsettled v
  now = flow (is_writethrough g) refl

  abbrev live : List TableId
  live = live_tables (live_groups_of (before ++ behind))

  closed : IsClosed live w.tier.schema
  closed t def foreign d fk =
      let backing : now.flow.stand.over.backing ≡ x.flow.stand.over.backing = same_some (sym now.flow.stand.over.leaves ∙ x.flow.stand.over.leaves) in
      let f = x.schema.front x.flow.stand.over.backing x.flow.stand.over.leaves in
      all_closed (live_groups_of (before ++ behind)) w.history w.tier.log now.flow.stand.over.backing.schema w.tier.next now.flow.stand.over.ordered t def foreign
      (ap (λ (s : TableState). slice_get s.schema t.0) backing ∙ ap (λ l. slice_get l t.0) f.1 ∙ get_front w.tier.schema f.0 t.0 def d) fk

  one_table : (u : TableId) → table_of_group w.history w.tier.log u (group_over (before ++ behind) u) ≡ table_of_group w.history w.tier.log u (group_over w.tier.groups u) → table_at (shown_state w.history after) u ≡ table_at (shown_state w.history w.tier) u
  one_table u e = by (slice_get w.tier.schema u.0) refl
    where
      by : (o : Option TableDef) → slice_get w.tier.schema u.0 ≡ o → table_at (shown_state w.history after) u ≡ table_at (shown_state w.history w.tier) u
      by None d = no_table_shown w.history after u d ∙ sym (no_table_shown w.history w.tier u d)
      by (Some def) d = table_shown w.history after u (ap is_some d) ∙ e ∙ sym (table_shown w.history w.tier u (ap is_some d))

  tables_stay : (u : TableId) → covers u g ≡ false → table_at (shown_state w.history after) u ≡ table_at (shown_state w.history w.tier) u
  tables_stay u off = one_table u (ap (table_of_group w.history w.tier.log u) (over_is_found (before ++ behind) u ∙ sym (find_without (covers u) before g behind off) ∙ ap (find (covers u)) (sym is) ∙ sym (over_is_found w.tier.groups u)))

  tables_gone : (u : TableId) → covers u g ≡ true → table_at (shown_state w.history after) u ≡ empty
  tables_gone u on = by (slice_get w.tier.schema u.0) refl
    where
      none : (o : Option Group) → is_some o ≡ false → o ≡ None
      none None e = refl
      none (Some h) e = Prim.cc

      by : (o : Option TableDef) → slice_get w.tier.schema u.0 ≡ o → table_at (shown_state w.history after) u ≡ empty
      by None d = no_table_shown w.history after u d
      by (Some def) d = table_shown w.history after u (ap is_some d) ∙ ap (table_of_group w.history w.tier.log u) (over_is_found (before ++ behind) u ∙ none (find (covers u) (before ++ behind)) (any_found (covers u) (before ++ behind) ∙ others_none before g behind u own on))

  agree : AgreeOn live (shown_state w.history w.tier) (shown_state w.history after)
  agree = record {
    schema = refl;
    size = from_length (shown_table w.history after) 0 w.tier.schema ∙ sym (from_length (shown_table w.history w.tier) 0 w.tier.schema);
    rows = λ u on. tables_stay u (not_both (covers u g) (λ c.
        let l = live_at (before ++ behind) u (own_without before g behind own) (sym (live_table (before ++ behind) u) ∙ on) in
        never_both (list_any (covers u) (before ++ behind)) (sym (any_found (covers u) (before ++ behind)) ∙ ap (λ (o : Option Group). is_some o) l.found) (others_none before g behind u own c)));
  }

  through : list_all (are_written_through (before ++ behind)) (own_writes w.tier.sessions) ≡ true
  through = by (is_writethrough g) refl
    where
      by : (b : Bool) → is_writethrough g ≡ b → list_all (are_written_through (before ++ behind)) (own_writes w.tier.sessions) ≡ true
      by true e = unwritten e
      by false e = sym (all_fewer before g behind e (own_writes w.tier.sessions)) ∙ ap (λ gs. list_all (are_written_through gs) (own_writes w.tier.sessions)) (sym is) ∙ x.sessions.through

  pub drops : ShowsWithout g w (with_tier (record w.tier { groups = before ++ behind }) w)
  drops = record {
    stands = stands_by (with_tier (record w.tier { groups = before ++ behind }) w) v now
        (record { front = x.schema.front; whole = x.schema.whole })
        (record { each = each_without (IsCatalogued w.tier.schema) before g behind (subst (Each (IsCatalogued w.tier.schema)) is x.catalog.each); apart = own_without before g behind own })
        (each_without (HasKeys v) before g behind (subst (Each (HasKeys v)) is x.keys))
        (record {
          within = each_without (IsReadWithin (length w.history)) before g behind (subst (Each (IsReadWithin (length w.history))) is x.read.within);
          one = one_without before g behind (subst OnePosition is x.read.one);
        })
        (record {
          labels = x.sessions.labels;
          through = through;
          shown = record {
            apply = applies_stay live (shown_state w.history w.tier) (shown_state w.history after) (own_writes w.tier.sessions) closed agree (all_through_on (before ++ behind) (own_writes w.tier.sessions) ∙ through) x.sessions.shown.apply;
            apart = x.sessions.shown.apart;
          };
          virtual = x.sessions.virtual;
        });
    its = tables_gone;
    others = tables_stay;
  }

-- what is on none of its tables is on those of the others

table_rest : (before : List Group) (g : Group) (behind : List Group) (u : TableId) → covers u g ≡ false → is_table_of is_writethrough (before ++ g ∷ behind) u ≡ is_table_of is_writethrough (before ++ behind) u
table_rest [] g behind u e = ap (λ b. (is_writethrough g && b) || is_table_of is_writethrough behind u) e ∙ ap (λ b. b || is_table_of is_writethrough behind u) (and_none (is_writethrough g))
  where
    and_none : (b : Bool) → (b && false) ≡ false
    and_none true = refl
    and_none false = refl
table_rest (h ∷ before) g behind u e = ap (λ b. (is_writethrough h && covers u h) || b) (table_rest before g behind u e)

ops_rest : (before : List Group) (g : Group) (behind : List Group) (ops : List Op) → are_off (tables_of g.def.tree) ops ≡ true → are_written_through (before ++ g ∷ behind) ops ≡ true → are_written_through (before ++ behind) ops ≡ true
ops_rest before g behind [] off on = refl
ops_rest before g behind (op ∷ ops) off on =
    let (off_first, off_rest) = both_true (not (is_op_on (tables_of g.def.tree) op)) (are_off (tables_of g.def.tree) ops) off in
    let (first, rest) = both_true (is_table_of is_writethrough (before ++ g ∷ behind) (table_of op)) (are_written_through (before ++ g ∷ behind) ops) on in
    let apart : covers (table_of op) g ≡ false = sym (in_tree g.def.tree (table_of op)) ∙ not_true (is_op_on (tables_of g.def.tree) op) off_first in
    λ i. (sym (table_rest before g behind (table_of op) apart) ∙ first) i && ops_rest before g behind ops off_rest rest i

all_rest : (before : List Group) (g : Group) (behind : List Group) (owns : List (List Op)) → list_all (are_off (tables_of g.def.tree)) owns ≡ true → list_all (are_written_through (before ++ g ∷ behind)) owns ≡ true → list_all (are_written_through (before ++ behind)) owns ≡ true
all_rest before g behind [] off on = refl
all_rest before g behind (own ∷ owns) off on =
    let (off_first, off_rest) = both_true (are_off (tables_of g.def.tree) own) (list_all (are_off (tables_of g.def.tree)) owns) off in
    let (first, rest) = both_true (are_written_through (before ++ g ∷ behind) own) (list_all (are_written_through (before ++ g ∷ behind)) owns) on in
    λ i. ops_rest before g behind own off_first first i && all_rest before g behind owns off_rest rest i

pub group_drops : (w : World) (name : List ℕ) (g : Group) → Stands w → MayDrop w name g → ShowsWithout g w (with_tier (without_group name w.tier) w)
group_drops w name g x may = subst (λ gs. ShowsWithout g w (with_tier (record w.tier { groups = gs }) w)) (sym may.rest) (drops w x g may.before may.behind may.is may.settled
    (λ e. all_rest may.before g may.behind (own_writes w.tier.sessions) (may.unwritten e) (ap (λ gs. list_all (are_written_through gs) (own_writes w.tier.sessions)) (sym may.is) ∙ x.sessions.through)))

-- A tier as it is opened.
pub tier_opens : (w : World) (settings : Settings) (moment : ℕ) (s : TableState) → state_of w.history ≡ Some s → MayBegin w.history 1 → Stands (with_tier (opened settings moment s.schema) w)
tier_opens w settings moment s leaves may = record {
  flow = flow_begins w.history 1 may (Rattle.std.proofs.Common.lit≤ tt);
  schema = record {
    front = λ n e. ([], ap (λ (z : TableState). z.schema) (same_some (sym e ∙ leaves)) ∙ sym (append-nil s.schema));
    whole = λ n stale e. ap (λ (z : TableState). z.schema) (same_some (sym e ∙ leaves));
  };
  catalog = record { each = tt; apart = tt };
  keys = tt;
  read = record { within = tt; one = λ interval i j g h e. Prim.cc };
  sessions = record { labels = tt; through = refl; shown = record { apply = tt; apart = tt }; virtual = tt };
}
