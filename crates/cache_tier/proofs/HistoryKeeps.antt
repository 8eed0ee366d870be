-- What comes to the history leaves what is shown.
use Rattle.std.proofs.Common.{◌≡◌, ℕ, suc, ◌+◌, Bool, true, false, cond, not, ◌&&◌, ◌||◌, Option, Some, None, is_some, List, [], ◌∷◌, ◌++◌, length, slice_get, unwrap_or, refl, sym, ap, subst, ◌∙◌, arith, append_assoc}
use Rattle.std.proofs.lemmas.List.{append-nil, length-append, take-append-le}
use Rattle.std.specs.Option.{option_and_then}
use Rattle.std.specs.List.{find, list_all}
use Rattle.std.specs.FinMap as fm
use Rattle.tier_base.specs.declared.number.TableId.{TableId}
use Rattle.table_defs.specs.declared.definition.TableDef.{TableDef}
use Rattle.indexed_rows.specs.Rows.{Table}
use Rattle.table_state.specs.declared.history.Entry.{Entry}
use Rattle.table_state.specs.declared.history.Entry.TheVariants.{Definition, Foreign, Own}
use Rattle.table_state.specs.declared.history.Sealed.{Sealed}
use Rattle.table_state.specs.declared.operation.Op.{Op}
use Rattle.table_state.specs.Histories.{entry_of, state_at, state_of}
use Rattle.table_state.specs.Operations.{table_of}
use Rattle.table_state.specs.Tables.{TableState, table_at}
use Rattle.instances.specs.declared.tree.Child.{Child}
use Rattle.instances.specs.declared.tree.Tree.{Tree}
use Rattle.instances.specs.Trees.{place_of}
use Rattle.instances.specs.Views.{child_rows, kept_at, refers_to_one, root_rows, rows_where, selects, with_children}
use Rattle.order_laws.specs.Commits.{virtual_state}
use Rattle.order_laws.specs.Sides.{AgreeOn, IsClosed, are_off, are_on}
use Rattle.order_laws.specs.Standing.{live_tables}
use Rattle.order_laws.proofs.CommittingLaws.{schemas_same}
use Rattle.order_laws.proofs.EffectLaws.{leads_over}
use Rattle.order_laws.proofs.TruthLaws.{both_true, or_true, same_some}
use Rattle.order_laws.specs.Events.{Came, Event, Follows, Left, Others}
use Rattle.order_laws.specs.OpenWrites.{AllApply, OpenWrites}
use Rattle.order_laws.specs.Pipelines.{FlowsWithLive, with_history}
use Rattle.order_laws.proofs.FlowLaws.{flow_round}
use Rattle.outside.specs.Bank.{Grows}
use Rattle.outside.specs.Others.{AreOthers, Around, are_on_shared, is_shared}
use Rattle.cache_tier.specs.Groups.{Group, covers, group_over, is_explicit, is_key, is_read_only, is_table_of, is_writethrough}
use Rattle.cache_tier.specs.Shown.{exceeds, shown, shown_in, shown_state, shown_table, shown_where, shows_root, table_of_group}
use Rattle.cache_tier.specs.TierStates.{Tier}
use Rattle.cache_tier.specs.Worlds.{IsUnshared, World}
use Rattle.cache_tier.specs.StandingBetween.{Each, HasKeys, IsReadWithin, Stands, are_written_through, live_groups_of, own_writes, progress_in}
use Rattle.cache_tier.specs.Events.{StaysShown, at_history, settled_to}
use Rattle.cache_tier.proofs.GroupTables.{each_found, each_map, live_table, over_is_found, same_found, through_live, through_on}
use Rattle.cache_tier.proofs.SessionLaws.{Known, known}
use Rattle.cache_tier.proofs.ShownTables.{from_length, live_of, no_table_shown, same_state, table_shown}
use Rattle.cache_tier.proofs.ShownTrees.{root_place, sound_child}

-- what is shown of two states that are alike in the tables of a tree

pub record AreAlike (tree : Tree) (s n : TableState) : Type 0 where
  pub root : table_at n tree.root.table ≡ table_at s tree.root.table
  pub def : slice_get n.schema tree.root.table.0 ≡ slice_get s.schema tree.root.table.0
  pub children : (i : ℕ) (c : Child) → slice_get tree.children i ≡ Some c → (table_at n c.table ≡ table_at s c.table) × (slice_get n.schema c.table.0 ≡ slice_get s.schema c.table.0)

child_alike : (s n : TableState) (parents : Table) (c : Child) → table_at n c.table ≡ table_at s c.table → slice_get n.schema c.table.0 ≡ slice_get s.schema c.table.0 → child_rows n parents c ≡ child_rows s parents c
child_alike s n parents c rows def = λ i. rows_where (λ row. selects c.filter row && refers_to_one parents (def i) row) (rows i)

children_alike : (s n : TableState) (children : List Child) (kept : List Table) → ((i : ℕ) (c : Child) → slice_get children i ≡ Some c → (table_at n c.table ≡ table_at s c.table) × (slice_get n.schema c.table.0 ≡ slice_get s.schema c.table.0))
    → with_children n children kept ≡ with_children s children kept
children_alike s n [] kept same = refl
children_alike s n (c ∷ children) kept same =
    let here = same 0 c refl in
    ap (λ m. with_children n children (kept ++ m ∷ [])) (child_alike s n (kept_at kept c.parent) c here.0 here.1)
    ∙ children_alike s n children (kept ++ child_rows s (kept_at kept c.parent) c ∷ []) (λ i d at. same (suc i) d at)

pub shown_alike : (s n : TableState) (g : Group) → AreAlike g.def.tree s n → shown_in n g ≡ shown_in s g
shown_alike s n g a =
    ap (λ m. with_children n g.def.tree.children (m ∷ [])) roots ∙ children_alike s n g.def.tree.children (rows_where (shows_root s g) (root_rows s g.def.tree.root) ∷ []) a.children
  where
    roots : rows_where (shows_root n g) (root_rows n g.def.tree.root) ≡ rows_where (shows_root s g) (root_rows s g.def.tree.root)
    roots = λ i. rows_where (λ row. cond (is_read_only g) (cond (is_explicit g) g.loaded (is_key g.keys (Rattle.evaluator.specs.Cascades.key_in (a.def i) row)) && exceeds g row) (is_key g.keys (Rattle.evaluator.specs.Cascades.key_in (a.def i) row)))
        (rows_where (selects g.def.tree.root.filter) (a.root i))

-- what the groups show is what is shown
pub same_shown : (h later : List Entry) (t n : Tier) → n.schema ≡ t.schema → ((u : TableId) → table_of_group later n.log u (group_over n.groups u) ≡ table_of_group h t.log u (group_over t.groups u)) → shown_state later n ≡ shown_state h t
same_shown h later t n schema same = same_state (shown_state later n) (shown_state h t) schema (from_length (shown_table later n) 0 n.schema ∙ ap length schema ∙ sym (from_length (shown_table h t) 0 t.schema)) (λ u. by u (slice_get t.schema u.0) refl)
  where
    by : (u : TableId) (o : Option TableDef) → slice_get t.schema u.0 ≡ o → table_at (shown_state later n) u ≡ table_at (shown_state h t) u
    by u None e = no_table_shown later n u (ap (λ l. slice_get l u.0) schema ∙ e) ∙ sym (no_table_shown h t u e)
    by u (Some d) e = table_shown later n u (ap (λ l. is_some (slice_get l u.0)) schema ∙ ap is_some e) ∙ same u ∙ sym (table_shown h t u (ap is_some e))

-- each group's tables, group by group
abbrev pub IsAmong : List Group → Group → Type 0
IsAmong groups g = is_writethrough g ≡ true → (u : TableId) → covers u g ≡ true → is_table_of is_writethrough groups u ≡ true

pub each_among : (groups : List Group) → Each (IsAmong groups) groups
each_among [] = tt
each_among (g ∷ groups) = (
  λ through u e. (λ i. (through i && e i) || is_table_of is_writethrough groups u),
  each_map (IsAmong groups) (IsAmong (g ∷ groups)) (λ h among through u e. ap (λ b. (is_writethrough g && covers u g) || b) (among through u e) ∙ or_true (is_writethrough g && covers u g)) groups (each_among groups),
)

pub each_both : {X : Type 0} (P Q R : X → Type 0) → ((x : X) → P x → Q x → R x) → (xs : List X) → Each P xs → Each Q xs → Each R xs
each_both P Q R f [] p q = tt
each_both P Q R f (x ∷ xs) p q = (f x p.0 q.0, each_both P Q R f xs p.1 q.1)

pub root_covers : (g : Group) → covers g.def.tree.root.table g ≡ true
root_covers g = ap is_some (root_place g.def.tree)

-- the root of each live group has the same rows
pub keys_stay : (v n : TableState) (groups : List Group) → AgreeOn (live_tables (live_groups_of groups)) v n → Each (HasKeys v) groups → Each (HasKeys n) groups
keys_stay v n groups agree all = each_both (HasKeys v) (IsAmong groups) (HasKeys n) (λ g k among. record {
  distinct = k.distinct;
  rooted = λ through key e. ap (λ (m : Table). fm.contains_key m key) (agree.rows g.def.tree.root.table (live_table groups g.def.tree.root.table ∙ among through g.def.tree.root.table (root_covers g))) ∙ k.rooted through key e;
}) groups all (each_among groups)

-- operations on live tables apply over the other state, too
pub applies_stay : (on : List TableId) (v n : TableState) (owns : List (List Op)) → IsClosed on v.schema → AgreeOn on v n → list_all (are_on on) owns ≡ true → AllApply v owns → AllApply n owns
applies_stay on v n [] closed agree mine all = tt
applies_stay on v n (own ∷ owns) closed agree mine all =
    let (first, rest) = both_true (are_on on own) (list_all (are_on on) owns) mine in
    let alike = leads_over on own v all.0.top n (record { closed = closed; agree = agree; leads = all.0.leads }) first in
    (record { top = alike.state; leads = alike.leads }, applies_stay on v n owns closed agree rest all.1)

pub all_through_on : (groups : List Group) (owns : List (List Op)) → list_all (are_on (live_tables (live_groups_of groups))) owns ≡ list_all (are_written_through groups) owns
all_through_on groups [] = refl
all_through_on groups (own ∷ owns) = λ i. through_on groups own i && all_through_on groups owns i

-- The history goes on, and the virtual state keeps the rows of the live tables.
module _ (w : World) (x : Stands w) (tail : List Entry) (left : List Sealed) (round : ℕ) (f : FlowsWithLive (with_history (progress_in w) (w.history ++ tail)) left x.flow.stand.over.virtual) where
  abbrev longer : List Entry
  longer = w.history ++ tail

  abbrev v : TableState
  v = x.flow.stand.over.virtual

  abbrev n : TableState
  n = f.flow.stand.over.virtual

  k : Known w v
  k = known w x

  alike : (u : TableId) (g : Group) → find (covers u) w.tier.groups ≡ Some g → is_writethrough g ≡ true → AreAlike g.def.tree v n
  alike u g found through = record {
    root = rows g.def.tree.root.table (root_covers g);
    def = ap (λ s. slice_get s g.def.tree.root.table.0) f.same.schema;
    children = λ i c at.
        let sc = sound_child w.tier.schema g.def.tree i c (each_found (Rattle.cache_tier.specs.StandingBetween.IsCatalogued w.tier.schema) (covers u) w.tier.groups g x.catalog.each found).sound at in
        (rows c.table (ap is_some sc.place), ap (λ s. slice_get s c.table.0) f.same.schema);
  }
    where
      rows : (t : TableId) → covers t g ≡ true → table_at n t ≡ table_at v t
      rows t e = f.same.rows t (live_table w.tier.groups t ∙ through_live w.tier.groups t g (same_found w.tier.groups u t g x.catalog.apart found e) through)

  one_group : (u : TableId) (g : Group) → find (covers u) w.tier.groups ≡ Some g → shown longer w.tier.log g ≡ shown w.history w.tier.log g
  one_group u g found = by (is_read_only g) refl
    where
      by : (b : Bool) → is_read_only g ≡ b → shown longer w.tier.log g ≡ shown w.history w.tier.log g
      by true e =
          ap (λ b. shown_where (cond b (option_and_then (state_at longer) g.position) (virtual_state longer w.tier.log)) g) e
          ∙ ap (λ o. shown_where o g) (read g.position refl)
          ∙ sym (ap (λ b. shown_where (cond b (option_and_then (state_at w.history) g.position) (virtual_state w.history w.tier.log)) g) e)
        where
          read : (o : Option ℕ) → g.position ≡ o → option_and_then (state_at longer) g.position ≡ option_and_then (state_at w.history) g.position
          read None e = ap (option_and_then (state_at longer)) e ∙ sym (ap (option_and_then (state_at w.history)) e)
          read (Some i) e =
              ap (option_and_then (state_at longer)) e
              ∙ ap state_of (take-append-le i w.history tail (each_found (IsReadWithin (length w.history)) (covers u) w.tier.groups g x.read.within found i e))
              ∙ sym (ap (option_and_then (state_at w.history)) e)
      by false e =
          ap (λ b. shown_where (cond b (option_and_then (state_at longer) g.position) (virtual_state longer w.tier.log)) g) e
          ∙ ap (λ o. shown_where o g) f.flow.stand.over.virtual_is
          ∙ shown_alike v n g (alike u g found (ap not e))
          ∙ sym (ap (λ o. shown_where o g) k.v_is)
          ∙ sym (ap (λ b. shown_where (cond b (option_and_then (state_at w.history) g.position) (virtual_state w.history w.tier.log)) g) e)

  pub still_shown : shown_state longer w.tier ≡ shown_state w.history w.tier
  still_shown = same_shown w.history longer w.tier w.tier refl (λ u. ap (table_of_group longer w.tier.log u) (over_is_found w.tier.groups u) ∙ by u (find (covers u) w.tier.groups) refl ∙ sym (ap (table_of_group w.history w.tier.log u) (over_is_found w.tier.groups u)))
    where
      by : (u : TableId) (o : Option Group) → find (covers u) w.tier.groups ≡ o → table_of_group longer w.tier.log u (find (covers u) w.tier.groups) ≡ table_of_group w.history w.tier.log u (find (covers u) w.tier.groups)
      by u None e = ap (table_of_group longer w.tier.log u) e ∙ sym (ap (table_of_group w.history w.tier.log u) e)
      by u (Some g) e = ap (table_of_group longer w.tier.log u) e ∙ ap (λ m. kept_at m (unwrap_or (place_of g.def.tree u) 0)) (one_group u g e) ∙ sym (ap (table_of_group w.history w.tier.log u) e)

  schema_of : (s : TableState) → state_of longer ≡ Some s → s.schema ≡ x.flow.stand.over.backing.schema
  schema_of s e =
      ap (λ (b : TableState). b.schema) (same_some (sym e ∙ f.flow.stand.over.leaves))
      ∙ sym (schemas_same longer w.tier.log f.flow.stand.over.backing n f.flow.stand.over.leaves f.flow.stand.over.virtual_is)
      ∙ f.same.schema
      ∙ schemas_same w.history w.tier.log x.flow.stand.over.backing v x.flow.stand.over.leaves x.flow.stand.over.virtual_is

  pub goes_on : StaysShown w (settled_to left round (at_history longer w))
  goes_on = record {
    stands = record {
      flow = f.flow;
      schema = record {
        front = λ s e. let more = x.schema.front x.flow.stand.over.backing x.flow.stand.over.leaves in (more.0, schema_of s e ∙ more.1);
        whole = λ s stale e. schema_of s e ∙ x.schema.whole x.flow.stand.over.backing stale x.flow.stand.over.leaves;
      };
      catalog = record { each = x.catalog.each; apart = x.catalog.apart };
      keys = keys_stay v n w.tier.groups f.same x.keys;
      read = record {
        within = each_map (IsReadWithin (length w.history)) (IsReadWithin (length longer)) (λ g inside i e. let le = inside i e in let size : length (w.history ++ tail) ≡ length w.history + length tail = length-append w.history tail in Prim.omega arith) w.tier.groups x.read.within;
        one = x.read.one;
      };
      sessions = record {
        labels = x.sessions.labels;
        through = x.sessions.through;
        shown = subst (λ s. OpenWrites s (own_writes w.tier.sessions)) (sym still_shown) x.sessions.shown;
        virtual = applies_stay (live_of w.tier) v n (own_writes w.tier.sessions) k.closed f.same (all_through_on w.tier.groups (own_writes w.tier.sessions) ∙ x.sessions.through) x.sessions.virtual;
      };
    };
    same = still_shown;
  }

-- events lead to a longer history
pub follows_longer : (schema : List TableDef) (live : List TableId) (events : List Event) (h : List Entry) (us : List Sealed) (later : List Entry) (left : List Sealed) → Follows schema live events h us later left → (tail : List Entry) × (later ≡ h ++ tail)
follows_longer schema live [] h us later left f = ([], f.0 ∙ sym (append-nil h))
follows_longer schema live (Others ops ∷ events) h us later left f =
    let (tail, is) = follows_longer schema live events (h ++ Foreign ops ∷ []) us later left f.1 in (Foreign ops ∷ tail, is ∙ append_assoc h (Foreign ops ∷ []) tail)
follows_longer schema live (Came s ∷ events) h us later left f =
    let (tail, is) = follows_longer schema live events (h ++ entry_of s ∷ []) us later left f.1 in (entry_of s ∷ tail, is ∙ append_assoc h (entry_of s ∷ []) tail)
follows_longer schema live (Left s ∷ events) h us later left f = follows_longer schema live events h (f.0.before ++ f.0.behind) later left f.1

-- A round's events.
pub round_goes_on : (w : World) (x : Stands w) (events : List Event) (later : List Entry) (left : List Sealed) (round : ℕ)
    → Follows x.flow.stand.over.backing.schema (live_of w.tier) events w.history w.tier.unsettled later left → StaysShown w (settled_to left round (at_history later w))
round_goes_on w x events later left round f =
    let (tail, is) = follows_longer x.flow.stand.over.backing.schema (live_of w.tier) events w.history w.tier.unsettled later left f in
    subst (λ l. StaysShown w (settled_to left round (at_history l w))) (sym is)
    (goes_on w x tail left round (subst (λ l. FlowsWithLive (with_history (progress_in w) l) left x.flow.stand.over.virtual) is (flow_round (progress_in w) w.tier.unsettled left x.flow events later f)))

some_state : (o : Option TableState) → is_some o ≡ true → (s : TableState) × (o ≡ Some s)
some_state None e = Prim.cc
some_state (Some s) e = (s, refl)

off_live : (shared : List TableId) (groups : List Group) (ops : List Op) → ((t : TableId) → is_shared shared t ≡ true → is_table_of is_writethrough groups t ≡ false) → are_on_shared shared ops ≡ true → are_off (live_tables (live_groups_of groups)) ops ≡ true
off_live shared groups [] apart e = refl
off_live shared groups (op ∷ ops) apart e =
    let (first, rest) = both_true (is_shared shared (table_of op)) (are_on_shared shared ops) e in
    λ i. not ((live_table groups (table_of op) ∙ apart (table_of op) first) i) && off_live shared groups ops apart rest i

-- transactions of others are events of a round
others_follow : (schema : List TableDef) (shared : List TableId) (groups : List Group) (us : List Sealed) (front entries : List Entry) (s : TableState) → ((t : TableId) → is_shared shared t ≡ true → is_table_of is_writethrough groups t ≡ false)
    → state_of front ≡ Some s → AreOthers shared front entries → (events : List Event) × Follows schema (live_tables (live_groups_of groups)) events front us (front ++ entries) us
others_follow schema shared groups us front [] s apart leaves others = ([], (append-nil front, refl))
others_follow schema shared groups us front (Definition def ∷ entries) s apart leaves others = absurd others
others_follow schema shared groups us front (Own ticket ops ∷ entries) s apart leaves others = absurd others
others_follow schema shared groups us front (Foreign ops ∷ entries) s apart leaves others =
    let (n, n_is) = some_state (state_of (front ++ Foreign ops ∷ [])) (others.1 s leaves) in
    let (events, f) = others_follow schema shared groups us (front ++ Foreign ops ∷ []) entries n apart n_is others.2 in (
      Others ops ∷ events,
      (record { off = off_live shared groups ops apart others.0; state = n; leaves = n_is }, subst (λ l. Follows schema (live_tables (live_groups_of groups)) events (front ++ Foreign ops ∷ []) us l us) (append_assoc front (Foreign ops ∷ []) entries) f),
    )

-- Transactions of others.
pub others_go_on : (w : World) (entries : List Entry) → Stands w → IsUnshared w → AreOthers w.shared w.history entries → StaysShown w (at_history (w.history ++ entries) w)
others_go_on w entries x apart others =
    let (events, f) = others_follow x.flow.stand.over.backing.schema w.shared w.tier.groups w.tier.unsettled w.history entries x.flow.stand.over.backing apart x.flow.stand.over.leaves others in
    round_goes_on w x events (w.history ++ entries) w.tier.unsettled w.tier.round f

-- They come before and behind a call that leaves the history.
pub around_goes_on : (w : World) (later : List Entry) → Stands w → IsUnshared w → Around w.shared (Grows []) w.history later → StaysShown w (at_history later w)
around_goes_on w later x apart a =
    let one = others_go_on w a.before x apart a.came_before in
    let middle : a.middle ≡ w.history ++ a.before = a.own ∙ append-nil (w.history ++ a.before) in
    let two = others_go_on (at_history (w.history ++ a.before) w) a.behind one.stands apart (subst (λ l. AreOthers w.shared l a.behind) middle a.came_behind) in
    subst (λ l. StaysShown w (at_history l w)) (sym (a.is ∙ ap (λ l. l ++ a.behind) middle)) (record { stands = two.stands; same = two.same ∙ one.same })
