-- A group is defined.
use Rattle.std.proofs.Common.{◌≡◌, ℕ, zero, suc, ◌+◌, Bool, true, false, cond, not, ◌&&◌, ◌||◌, ◌⊎◌, inl, inr, Option, Some, None, is_some, List, [], ◌∷◌, ◌++◌, length, slice_get, unwrap_or, map, refl, sym, ap, subst, ◌∙◌}
use Rattle.std.proofs.lemmas.List.{append-nil, map-append}
use Rattle.std.proofs.lemmas.List.Elements.{filter-append}
use Rattle.std.proofs.lemmas.List.Folds.{list_any-append}
use Rattle.std.specs.Option.{option_and_then}
use Rattle.std.specs.List.{filter, find, list_all, list_any}
use Rattle.std.specs.FinMap as fm
use Rattle.std.specs.FinMap.{empty}
use Rattle.row_types.specs.Order.{key_order}
use Rattle.row_types.proofs.OrderLaws.{key_exact, key_total}
use Rattle.tier_base.specs.declared.number.TableId.{TableId}
use Rattle.table_defs.specs.declared.definition.TableDef.{TableDef}
use Rattle.table_defs.specs.Declarations.{foreign_places}
use Rattle.indexed_rows.specs.Rows.{Table, key_of}
use Rattle.table_state.specs.declared.history.Entry.{Entry}
use Rattle.table_state.specs.declared.history.Sealed.{Sealed}
use Rattle.table_state.specs.declared.operation.Op.{Op}
use Rattle.table_state.specs.Copies.{is_one_of}
use Rattle.table_state.specs.Histories.{state_at}
use Rattle.table_state.specs.Operations.{table_of}
use Rattle.table_state.specs.Tables.{TableState, table_at}
use Rattle.instances.specs.declared.tree.Child.{Child}
use Rattle.instances.specs.Trees.{place_of}
use Rattle.instances.specs.Views.{child_rows, is_kept, kept_at, passes, refers_to_one, root_rows, rows_where, selects, with_children}
use Rattle.instances.proofs.Gathering.{get_where}
use Rattle.order_laws.specs.Commits.{LiveGroup, is_op_on, pending, virtual_state}
use Rattle.order_laws.specs.Sides.{IsClosed, all_on, are_off, are_on}
use Rattle.order_laws.specs.Standing.{GroupsAreOrdered, all_off, live_tables, progress_of}
use Rattle.order_laws.proofs.TruthLaws.{both_true, never_both, not_both, same_some}
use Rattle.order_laws.specs.OpenWrites.{OpenWrites}
use Rattle.order_laws.specs.Pipelines.{FlowsAs, Pipeline}
use Rattle.order_laws.proofs.FlowLaws.{flow_group}
use Rattle.cache_tier.specs.Commits.{live_group, tables_of}
use Rattle.cache_tier.specs.Groups.{Group, covers, is_explicit, is_key, is_read_only, is_table_of, is_writethrough}
use Rattle.cache_tier.specs.Shown.{shown, shown_in, shown_state, shown_where, shows_root, table_of_group}
use Rattle.cache_tier.specs.TierStates.{Tier}
use Rattle.cache_tier.specs.Worlds.{World}
use Rattle.cache_tier.proofs.PositionLaws.{hidden_empty, push_one}
use Rattle.cache_tier.specs.StandingBetween.{HasKeys, HasNoTableOf, HaveOwnTables, IsCatalogued, IsReadWithin, Stands, are_written_through, live_groups_of, own_writes, progress_in}
use Rattle.cache_tier.specs.Defining.{IsNewGroup}
use Rattle.cache_tier.specs.Events.{StaysShown, with_tier}
use Rattle.cache_tier.proofs.CommitLaws.{stands_by}
use Rattle.cache_tier.proofs.GroupTables.{each_last, in_tree, live_table, over_is_found}
use Rattle.cache_tier.proofs.HistoryKeeps.{same_shown}
use Rattle.cache_tier.proofs.PartLaws.{Row}

-- a group that shows nothing

nothing_passes : (test : Row → Bool) (m : Table) → ((row : Row) → test row ≡ false) → rows_where test m ≡ empty
nothing_passes test m fails = fm.same_map key_total key_exact (rows_where test m) empty (λ q. get_where test m q ∙ by (fm.get m q) ∙ sym (fm.get-empty key_order q))
  where
    by : (o : Option Row) → cond (passes test o) o None ≡ None
    by None = refl
    by (Some r) = ap (λ b. cond b (Some r) None) (fails r)

no_child_rows : (s : TableState) (parents : Table) (c : Child) → parents ≡ empty → child_rows s parents c ≡ empty
no_child_rows s parents c e = nothing_passes (is_kept s parents c) (table_at s c.table) (λ row. and_none (selects c.filter row) (refers_to_one parents (slice_get s.schema c.table.0) row) (refers row (slice_get s.schema c.table.0)))
  where
    and_none : (a b : Bool) → b ≡ false → (a && b) ≡ false
    and_none true b h = h
    and_none false b h = refl

    refers : (row : Row) (o : Option TableDef) → refers_to_one parents o row ≡ false
    refers row None = refl
    refers row (Some def) = ap (λ (m : Table). is_some (fm.get m (key_of (foreign_places def.foreign_key) row))) e ∙ ap is_some (fm.get-empty key_order (key_of (foreign_places def.foreign_key) row))

all_empty : (s : TableState) (children : List Child) (kept : List Table) → ((p : ℕ) → kept_at kept p ≡ empty) → (p : ℕ) → kept_at (with_children s children kept) p ≡ empty
all_empty s [] kept none p = none p
all_empty s (c ∷ children) kept none p = all_empty s children (kept ++ child_rows s (kept_at kept c.parent) c ∷ []) (λ q. more kept q none) p
  where
    more : (ts : List Table) (q : ℕ) → ((p : ℕ) → kept_at ts p ≡ empty) → kept_at (ts ++ child_rows s (kept_at kept c.parent) c ∷ []) q ≡ empty
    more [] zero h = no_child_rows s (kept_at kept c.parent) c (none c.parent)
    more [] (suc q) h = refl
    more (t ∷ ts) zero h = h 0
    more (t ∷ ts) (suc q) h = more ts q (λ p. h (suc p))

pub shows_nothing : (s : TableState) (g : Group) → is_read_only g ≡ false → g.keys ≡ [] → (p : ℕ) → kept_at (shown_in s g) p ≡ empty
shows_nothing s g writes none p = all_empty s g.def.tree.children (rows_where (shows_root s g) (root_rows s g.def.tree.root) ∷ []) front p
  where
    roots : rows_where (shows_root s g) (root_rows s g.def.tree.root) ≡ empty
    roots = nothing_passes (shows_root s g) (root_rows s g.def.tree.root) (λ row.
        ap (λ b. cond b (cond (is_explicit g) g.loaded (is_key g.keys (Rattle.cache_tier.specs.Shown.root_key s g row)) && Rattle.cache_tier.specs.Shown.exceeds g row) (is_key g.keys (Rattle.cache_tier.specs.Shown.root_key s g row))) writes
        ∙ ap (λ ks. is_key ks (Rattle.cache_tier.specs.Shown.root_key s g row)) none)

    front : (q : ℕ) → kept_at (rows_where (shows_root s g) (root_rows s g.def.tree.root) ∷ []) q ≡ empty
    front zero = roots
    front (suc q) = refl

-- groups with one behind

find_last : {X : Type 0} (p : X → Bool) (xs : List X) (x : X) → (find p (xs ++ x ∷ []) ≡ find p xs) ⊎ ((find p xs ≡ None) × (find p (xs ++ x ∷ []) ≡ Some x))
find_last {X = X} p [] x = by (p x) refl
  where
    by : (b : Bool) → p x ≡ b → (cond (p x) (Some x) (find p []) ≡ find p []) ⊎ ((find p [] ≡ None) × (cond (p x) (Some x) (find p []) ≡ Some x))
    by true e = inr (refl, ap (λ b. cond b (Some x) (find p [])) e)
    by false e = inl (ap (λ b. cond b (Some x) (find p [])) e)
find_last {X = X} p (y ∷ xs) x = by (p y) (find_last p xs x)
  where
    by : (b : Bool) → (find p (xs ++ x ∷ []) ≡ find p xs) ⊎ ((find p xs ≡ None) × (find p (xs ++ x ∷ []) ≡ Some x)) → (cond b (Some y) (find p (xs ++ x ∷ [])) ≡ cond b (Some y) (find p xs)) ⊎ ((cond b (Some y) (find p xs) ≡ None) × (cond b (Some y) (find p (xs ++ x ∷ [])) ≡ Some x))
    by true rest = inl refl
    by false rest = rest

own_last : (groups : List Group) (g : Group) → HaveOwnTables groups → HasNoTableOf groups g → HaveOwnTables (groups ++ g ∷ [])
own_last [] g own apart = (λ u e. refl, tt)
own_last (h ∷ groups) g own apart = (λ u e. list_any-append (covers u) groups (g ∷ []) ∙ (λ i. own.0 u e i || (not_new u e i || false)), own_last groups g own.1 rest)
  where
    not_new : (u : TableId) → covers u h ≡ true → covers u g ≡ false
    not_new u e = not_both (covers u g) (λ c. never_both (covers u h || list_any (covers u) groups) (ap (λ b. b || list_any (covers u) groups) e) (apart u c))

    rest : HasNoTableOf groups g
    rest u c = or_right (covers u h) (list_any (covers u) groups) (apart u c)
      where
        or_right : (a b : Bool) → (a || b) ≡ false → b ≡ false
        or_right true b e = Prim.cc
        or_right false b e = e

-- live groups with one behind, and with one in front

live_behind : (groups : List LiveGroup) (g : LiveGroup) (t : TableId) → is_one_of (live_tables (groups ++ g ∷ [])) t ≡ is_one_of (g.tables ++ live_tables groups) t
live_behind [] g t = refl
live_behind (h ∷ groups) g t =
    list_any-append same h.tables (live_tables (groups ++ g ∷ [])) ∙ ap (λ b. is_one_of h.tables t || b) (live_behind groups g t ∙ list_any-append same g.tables (live_tables groups))
    ∙ swap (is_one_of h.tables t) (is_one_of g.tables t) (is_one_of (live_tables groups) t)
    ∙ sym (list_any-append same g.tables (h.tables ++ live_tables groups) ∙ ap (λ b. is_one_of g.tables t || b) (list_any-append same h.tables (live_tables groups)))
  where
    same : TableId → Bool
    same one = Rattle.std.proofs.Common.nat_eq one.0 t.0

    swap : (a b c : Bool) → (a || (b || c)) ≡ (b || (a || c))
    swap true true c = refl
    swap true false c = refl
    swap false b c = refl

ops_turned : (a b : List TableId) → ((t : TableId) → is_one_of a t ≡ is_one_of b t) → (ops : List Op) → are_on a ops ≡ are_on b ops
ops_turned a b same [] = refl
ops_turned a b same (op ∷ ops) = λ i. same (table_of op) i && ops_turned a b same ops i

all_turned : (a b : List TableId) → ((t : TableId) → is_one_of a t ≡ is_one_of b t) → (xs : List Sealed) → all_on a xs ≡ all_on b xs
all_turned a b same [] = refl
all_turned a b same (x ∷ xs) = λ i. ops_turned a b same x.ops i && all_turned a b same xs i

ordered_last : (groups : List LiveGroup) (g : LiveGroup) (h : List Entry) (log : List Sealed) (schema : List TableDef) (next : ℕ) → GroupsAreOrdered (g ∷ groups) h log schema next → GroupsAreOrdered (groups ++ g ∷ []) h log schema next
ordered_last [] g h log schema next o = (o.0, tt)
ordered_last (f ∷ groups) g h log schema next o = (o.1.0, ordered_last groups g h log schema next (o.0, o.1.1))

-- the last of the groups may as well be the first
flow_last : (groups : List LiveGroup) (g : LiveGroup) (h : List Entry) (log us : List Sealed) (next : ℕ) → Pipeline (progress_of (g ∷ groups) h log next) us → Pipeline (progress_of (groups ++ g ∷ []) h log next) us
flow_last groups g h log us next x = record {
  stand = record {
    over = record {
      backing = x.stand.over.backing;
      leaves = x.stand.over.leaves;
      virtual = x.stand.over.virtual;
      virtual_is = x.stand.over.virtual_is;
      rise = x.stand.over.rise;
      below = x.stand.over.below;
      legal = x.stand.over.legal;
      ordered = ordered_last groups g h log x.stand.over.backing.schema next x.stand.over.ordered;
    };
    live = all_turned (live_tables (groups ++ g ∷ [])) (g.tables ++ live_tables groups) (live_behind groups g) (pending h log) ∙ x.stand.live;
    known = x.stand.known;
  };
  rest = x.rest;
  last = x.last;
}

-- nothing pending is on tables that no group has
ops_off : (groups : List Group) (g : Group) (ops : List Op) → HasNoTableOf groups g → are_on (live_tables (live_groups_of groups)) ops ≡ true → are_off (tables_of g.def.tree) ops ≡ true
ops_off groups g [] apart e = refl
ops_off groups g (op ∷ ops) apart e =
    let (first, rest) = both_true (is_op_on (live_tables (live_groups_of groups)) op) (are_on (live_tables (live_groups_of groups)) ops) e in
    λ i. not (off first i) && ops_off groups g ops apart rest i
  where
    has : (gs : List Group) (u : TableId) → is_table_of is_writethrough gs u ≡ true → list_any (covers u) gs ≡ true
    has [] u h = Prim.cc
    has (k ∷ gs) u h = of (is_writethrough k) (covers u k) h (has gs u)
      where
        of : (a b : Bool) → ((a && b) || is_table_of is_writethrough gs u) ≡ true → (is_table_of is_writethrough gs u ≡ true → list_any (covers u) gs ≡ true) → (b || list_any (covers u) gs) ≡ true
        of a true z r = refl
        of true false z r = r z
        of false false z r = r z

    off : is_op_on (live_tables (live_groups_of groups)) op ≡ true → is_op_on (tables_of g.def.tree) op ≡ false
    off first = in_tree g.def.tree (table_of op) ∙ not_both (covers (table_of op) g) (λ c. never_both (list_any (covers (table_of op)) groups) (has groups (table_of op) (sym (live_table groups (table_of op)) ∙ first)) (apart (table_of op) c))

all_ops_off : (groups : List Group) (g : Group) (xs : List Sealed) → HasNoTableOf groups g → all_on (live_tables (live_groups_of groups)) xs ≡ true → all_off (tables_of g.def.tree) xs ≡ true
all_ops_off groups g [] apart e = refl
all_ops_off groups g (x ∷ xs) apart e =
    let (first, rest) = both_true (are_on (live_tables (live_groups_of groups)) x.ops) (all_on (live_tables (live_groups_of groups)) xs) e in
    λ i. ops_off groups g x.ops apart first i && all_ops_off groups g xs apart rest i

through_more : (groups : List Group) (g : Group) (ops : List Op) → are_written_through groups ops ≡ true → are_written_through (groups ++ g ∷ []) ops ≡ true
through_more groups g [] e = refl
through_more groups g (op ∷ ops) e =
    let (first, rest) = both_true (is_table_of is_writethrough groups (table_of op)) (are_written_through groups ops) e in
    λ i. (list_any-append (λ h. is_writethrough h && covers (table_of op) h) groups (g ∷ []) ∙ ap (λ b. b || list_any (λ h. is_writethrough h && covers (table_of op) h) (g ∷ [])) first) i && through_more groups g ops rest i

all_through_more : (groups : List Group) (g : Group) (owns : List (List Op)) → list_all (are_written_through groups) owns ≡ true → list_all (are_written_through (groups ++ g ∷ [])) owns ≡ true
all_through_more groups g [] e = refl
all_through_more groups g (own ∷ owns) e =
    let (first, rest) = both_true (are_written_through groups own) (list_all (are_written_through groups) owns) e in
    λ i. through_more groups g own first i && all_through_more groups g owns rest i

-- A group is defined.
pub group_joins : (w : World) (g : Group) → Stands w → IsNewGroup w g → StaysShown w (with_tier (record w.tier { groups = w.tier.groups ++ g ∷ [] }) w)
group_joins w g x new = record {
  stands = stands_by (with_tier (record w.tier { groups = w.tier.groups ++ g ∷ [] }) w) v (flow (is_writethrough g) refl)
      (record { front = x.schema.front; whole = x.schema.whole })
      (record { each = each_last (IsCatalogued w.tier.schema) w.tier.groups g x.catalog.each new.sound; apart = own_last w.tier.groups g x.catalog.apart new.apart })
      (each_last (HasKeys v) w.tier.groups g x.keys (record { distinct = subst Rattle.cache_tier.specs.Standing.AreDistinct (sym new.keys) tt; rooted = λ writes key e. let wrong : false ≡ true = sym (ap (λ ks. is_key ks key) new.keys) ∙ e in Prim.cc }))
      (record {
        within = each_last (IsReadWithin (length w.history)) w.tier.groups g x.read.within (λ n e. let wrong : None ≡ Some n = sym new.position ∙ e in Prim.cc);
        one = push_one w.tier.groups g (hidden_empty g (nothing (is_explicit g))) x.read.one;
      })
      (record {
        labels = x.sessions.labels;
        through = all_through_more w.tier.groups g (own_writes w.tier.sessions) x.sessions.through;
        shown = subst (λ s. OpenWrites s (own_writes w.tier.sessions)) (sym same) x.sessions.shown;
        virtual = x.sessions.virtual;
      });
  same = same;
}
  where
    v : TableState
    v = x.flow.stand.over.virtual

    after : Tier
    after = record w.tier { groups = w.tier.groups ++ g ∷ [] }

    nothing : (b : Bool) → cond b g.loaded (Rattle.cache_tier.specs.Sets.holds_some g.keys) ≡ false
    nothing true = new.unloaded
    nothing false = ap Rattle.cache_tier.specs.Sets.holds_some new.keys

    groups_then : live_groups_of (w.tier.groups ++ g ∷ []) ≡ live_groups_of w.tier.groups ++ map live_group (filter is_writethrough (g ∷ []))
    groups_then = ap (map live_group) (filter-append is_writethrough w.tier.groups (g ∷ [])) ∙ map-append live_group (filter is_writethrough w.tier.groups) (filter is_writethrough (g ∷ []))

    flow : (b : Bool) → is_writethrough g ≡ b → FlowsAs (progress_of (live_groups_of (w.tier.groups ++ g ∷ [])) w.history w.tier.log w.tier.next) w.tier.unsettled v
    flow true e =
        let joined = flow_group (progress_in w) w.tier.unsettled x.flow (live_group g) (record {
          closed = subst (IsClosed (tables_of g.def.tree)) (sym (x.schema.whole x.flow.stand.over.backing new.told x.flow.stand.over.leaves)) (new.closed e);
          first = new.first;
          untouched = all_ops_off w.tier.groups g (pending w.history w.tier.log) new.apart x.flow.stand.live;
        }) in
        let last = flow_last (live_groups_of w.tier.groups) (live_group g) w.history w.tier.log w.tier.unsettled w.tier.next joined in
        subst (λ gs. FlowsAs (progress_of gs w.history w.tier.log w.tier.next) w.tier.unsettled v) (sym (groups_then ∙ ap (λ b. live_groups_of w.tier.groups ++ map live_group (cond b (g ∷ []) [])) e))
        (record { flow = last; same = same_some (sym last.stand.over.virtual_is ∙ x.flow.stand.over.virtual_is) })
    flow false e =
        subst (λ gs. FlowsAs (progress_of gs w.history w.tier.log w.tier.next) w.tier.unsettled v) (sym (groups_then ∙ ap (λ b. live_groups_of w.tier.groups ++ map live_group (cond b (g ∷ []) [])) e ∙ append-nil (live_groups_of w.tier.groups)))
        (record { flow = x.flow; same = refl })

    none_of_it : (u : TableId) → table_of_group w.history w.tier.log u (Some g) ≡ empty
    none_of_it u = by (is_read_only g) refl
      where
        at : (p : ℕ) → kept_at [] p ≡ empty
        at zero = refl
        at (suc p) = refl

        by : (b : Bool) → is_read_only g ≡ b → kept_at (shown w.history w.tier.log g) (unwrap_or (place_of g.def.tree u) 0) ≡ empty
        by true e =
            ap (λ b. kept_at (shown_where (cond b (option_and_then (state_at w.history) g.position) (virtual_state w.history w.tier.log)) g) (unwrap_or (place_of g.def.tree u) 0)) e
            ∙ ap (λ o. kept_at (shown_where (option_and_then (state_at w.history) o) g) (unwrap_or (place_of g.def.tree u) 0)) new.position
            ∙ at (unwrap_or (place_of g.def.tree u) 0)
        by false e =
            ap (λ b. kept_at (shown_where (cond b (option_and_then (state_at w.history) g.position) (virtual_state w.history w.tier.log)) g) (unwrap_or (place_of g.def.tree u) 0)) e
            ∙ ap (λ o. kept_at (shown_where o g) (unwrap_or (place_of g.def.tree u) 0)) x.flow.stand.over.virtual_is
            ∙ shows_nothing v g e new.keys (unwrap_or (place_of g.def.tree u) 0)

    same : shown_state w.history after ≡ shown_state w.history w.tier
    same = same_shown w.history w.history w.tier after refl (λ u. ap (table_of_group w.history w.tier.log u) (over_is_found (w.tier.groups ++ g ∷ []) u) ∙ by u (find_last (covers u) w.tier.groups g) ∙ sym (ap (table_of_group w.history w.tier.log u) (over_is_found w.tier.groups u)))
      where
        by : (u : TableId) → (find (covers u) (w.tier.groups ++ g ∷ []) ≡ find (covers u) w.tier.groups) ⊎ ((find (covers u) w.tier.groups ≡ None) × (find (covers u) (w.tier.groups ++ g ∷ []) ≡ Some g))
            → table_of_group w.history w.tier.log u (find (covers u) (w.tier.groups ++ g ∷ [])) ≡ table_of_group w.history w.tier.log u (find (covers u) w.tier.groups)
        by u (inl e) = ap (table_of_group w.history w.tier.log u) e
        by u (inr e) = ap (table_of_group w.history w.tier.log u) e.1 ∙ none_of_it u ∙ sym (ap (table_of_group w.history w.tier.log u) e.0)
