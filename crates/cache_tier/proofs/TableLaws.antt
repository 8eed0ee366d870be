-- A table is defined.
use Rattle.std.proofs.Common.{◌≡◌, ℕ, zero, suc, ◌+◌, ◌≤◌, Bool, true, false, cond, ◌&&◌, ◌||◌, ◌⊎◌, inl, inr, Option, Some, None, is_some, List, [], ◌∷◌, ◌++◌, length, slice_get, unwrap_or, map, refl, sym, ap, subst, ◌∙◌, arith, append_assoc}
use Rattle.std.proofs.lemmas.List.{append-nil, length-append, take-append-le}
use Rattle.std.specs.Option.{option_and_then}
use Rattle.std.specs.List.{filter, find}
use Rattle.std.specs.FinMap as fm
use Rattle.std.specs.FinMap.{empty}
use Rattle.tier_base.specs.declared.number.TableId.{TableId}
use Rattle.table_defs.specs.declared.definition.ForeignKey.{ForeignKey}
use Rattle.table_defs.specs.declared.definition.TableDef.{TableDef}
use Rattle.indexed_rows.specs.Rows.{Table}
use Rattle.table_state.specs.declared.history.Entry.{Entry}
use Rattle.table_state.specs.declared.history.Entry.TheVariants.{Definition}
use Rattle.table_state.specs.declared.history.Sealed.{Sealed}
use Rattle.table_state.specs.declared.operation.Op.{Op}
use Rattle.table_state.specs.Copies.{is_one_of}
use Rattle.table_state.specs.Histories.{state_at, state_from, state_of}
use Rattle.table_state.specs.Independence.{IsWhole, with_new}
use Rattle.table_state.specs.Tables.{TableState, table_at}
use Rattle.table_state.proofs.HistoryLaws.{state_of-append}
use Rattle.table_state.proofs.IndependenceLaws.{all_later}
use Rattle.instances.specs.Trees.{place_of}
use Rattle.instances.specs.Views.{kept_at}
use Rattle.order_laws.specs.Commits.{virtual_state}
use Rattle.order_laws.specs.Sides.{IsClosed}
use Rattle.order_laws.specs.Standing.{AreClosed, GroupsAreOrdered, progress_of}
use Rattle.order_laws.proofs.CountLaws.{rows_later}
use Rattle.order_laws.proofs.TableLaws.{get_same}
use Rattle.order_laws.proofs.TruthLaws.{never_both, not_both, same_some}
use Rattle.order_laws.specs.OpenWrites.{AllApply, OpenWrites}
use Rattle.order_laws.specs.Pipelines.{FlowsAs}
use Rattle.order_laws.proofs.FlowLaws.{flow_table}
use Rattle.cache_tier.specs.Commits.{live_group, tables_of}
use Rattle.cache_tier.specs.Groups.{Group, covers, group_over, is_read_only, is_table_of, is_writethrough}
use Rattle.cache_tier.specs.Shown.{shown, shown_state, shown_table, shown_where, table_of_group}
use Rattle.cache_tier.specs.TierStates.{Tier}
use Rattle.cache_tier.specs.Worlds.{World}
use Rattle.cache_tier.specs.StandingBetween.{Each, HasKeys, IsCatalogued, IsReadWithin, Stands, live_groups_of, own_writes, progress_in}
use Rattle.cache_tier.specs.ConsoleSteps.{refers_to_writethrough}
use Rattle.cache_tier.specs.Defining.{ShowsSchema, ShowsTable, with_tables}
use Rattle.cache_tier.specs.Events.{StaysShown, at_history, with_tier}
use Rattle.cache_tier.proofs.CommitLaws.{all_known, none_meet_later, stands_by}
use Rattle.cache_tier.proofs.GroupTables.{each_found, each_map, in_tree, over_is_found}
use Rattle.cache_tier.proofs.HistoryKeeps.{AreAlike, root_covers, same_shown, shown_alike}
use Rattle.cache_tier.proofs.SessionLaws.{Known, known}
use Rattle.cache_tier.proofs.ShownTables.{defined_in, from_length, no_table_shown, same_state, table_shown}
use Rattle.cache_tier.proofs.ShownTrees.{at_place, sound_child}

-- A table is defined.

last_cases : {X : Type 0} (xs : List X) (x : X) (i : ℕ) (y : X) → slice_get (xs ++ x ∷ []) i ≡ Some y → (slice_get xs i ≡ Some y) ⊎ ((i ≡ length xs) × (x ≡ y))
last_cases [] x zero y h = inr (refl, Prim.cc)
last_cases [] x (suc i) y h = Prim.cc
last_cases (z ∷ xs) x zero y h = inl h
last_cases (z ∷ xs) x (suc i) y h = elim (last_cases xs x i y h) [ inl e ↦ inl e | inr e ↦ inr (ap suc e.0, e.1) ]

at_past : {X : Type 0} (xs : List X) (i : ℕ) → length xs ≤ i → is_some (slice_get xs i) ≡ false
at_past [] i le = refl
at_past (x ∷ xs) zero le = absurd (Prim.omega arith)
at_past (x ∷ xs) (suc i) le = at_past xs i (Prim.omega arith)

-- a table that a group has is defined
pub covered_defined : (schema : List TableDef) (g : Group) (u : TableId) → IsCatalogued schema g → covers u g ≡ true → is_some (slice_get schema u.0) ≡ true
covered_defined schema g u c e = by (place_of g.def.tree u) refl e
  where
    by : (o : Option ℕ) → place_of g.def.tree u ≡ o → is_some o ≡ true → is_some (slice_get schema u.0) ≡ true
    by None is h = Prim.cc
    by (Some p) is h = let a = at_place g.def.tree u p is in ap (λ n. is_some (slice_get schema n)) (sym a.same) ∙ defined_in schema g.def.tree p a.table c.sound a.is

-- the new table joins no group with others
closed_later : (schema more : List TableDef) (def : TableDef) (g : Group) → IsCatalogued schema g → IsClosed (tables_of g.def.tree) (schema ++ more) → ((f : ForeignKey) → def.foreign_key ≡ Some f → covers f.parent g ≡ false) → IsClosed (tables_of g.def.tree) ((schema ++ more) ++ def ∷ [])
closed_later schema more def g c closed apart u d f at fk = elim (last_cases (schema ++ more) def u.0 d at) [
  | inl old ↦ closed u d f old fk
  | inr new ↦
      let outer : is_one_of (tables_of g.def.tree) f.parent ≡ false = in_tree g.def.tree f.parent ∙ apart f (ap (λ (z : TableDef). z.foreign_key) new.1 ∙ fk) in
      let past : length schema ≤ u.0 = (let size : length (schema ++ more) ≡ length schema + length more = length-append schema more in let n : u.0 ≡ length (schema ++ more) = new.0 in Prim.omega arith) in
      let own : is_one_of (tables_of g.def.tree) u ≡ false = in_tree g.def.tree u ∙ not_both (covers u g) (λ e. never_both (is_some (slice_get schema u.0)) (covered_defined schema g u c e) (at_past schema u.0 past)) in
      outer ∙ sym own
]

all_closed_later : (schema more : List TableDef) (def : TableDef) (groups : List Group) (h : List Entry) (log : List Sealed) (next : ℕ) → Each (IsCatalogued schema) groups → GroupsAreOrdered (live_groups_of groups) h log (schema ++ more) next
    → ((f : ForeignKey) → def.foreign_key ≡ Some f → is_table_of is_writethrough groups f.parent ≡ false) → AreClosed (live_groups_of groups) ((schema ++ more) ++ def ∷ [])
all_closed_later schema more def [] h log next all ordered apart = tt
all_closed_later schema more def (g ∷ groups) h log next all ordered apart = by (is_writethrough g) refl ordered (all_closed_later schema more def groups h log next all.1)
  where
    or_both : (a b : Bool) → (a || b) ≡ false → (a ≡ false) × (b ≡ false)
    or_both true b e = Prim.cc
    or_both false b e = (refl, e)

    by : (b : Bool) → is_writethrough g ≡ b → GroupsAreOrdered (map live_group (cond b (g ∷ filter is_writethrough groups) (filter is_writethrough groups))) h log (schema ++ more) next
        → (GroupsAreOrdered (live_groups_of groups) h log (schema ++ more) next → ((f : ForeignKey) → def.foreign_key ≡ Some f → is_table_of is_writethrough groups f.parent ≡ false) → AreClosed (live_groups_of groups) ((schema ++ more) ++ def ∷ []))
        → AreClosed (live_groups_of (g ∷ groups)) ((schema ++ more) ++ def ∷ [])
    by true e o rest =
        subst (λ gs. AreClosed gs ((schema ++ more) ++ def ∷ [])) (ap (λ b. map live_group (cond b (g ∷ filter is_writethrough groups) (filter is_writethrough groups))) (sym e)) (
          closed_later schema more def g all.0 o.0.closed (λ f fk. sym (ap (λ b. b && covers f.parent g) e) ∙ (or_both (is_writethrough g && covers f.parent g) (is_table_of is_writethrough groups f.parent) (apart f fk)).0),
          rest o.1 (λ f fk. (or_both (is_writethrough g && covers f.parent g) (is_table_of is_writethrough groups f.parent) (apart f fk)).1),
        )
    by false e o rest =
        subst (λ gs. AreClosed gs ((schema ++ more) ++ def ∷ [])) (ap (λ b. map live_group (cond b (g ∷ filter is_writethrough groups) (filter is_writethrough groups))) (sym e))
        (rest o (λ f fk. (or_both (is_writethrough g && covers f.parent g) (is_table_of is_writethrough groups f.parent) (apart f fk)).1))

apply_new : (def : TableDef) (s : TableState) (owns : List (List Op)) → IsWhole s → AllApply s owns → AllApply (with_new def s) owns
apply_new def s [] whole all = tt
apply_new def s (own ∷ owns) whole all = (record { top = with_new def all.0.top; leads = all_later own def s all.0.top whole all.0.leads }, apply_new def s owns whole all.1)

-- The history gets a definition.
module _ (w : World) (def : TableDef) (x : Stands w) (apart : refers_to_writethrough w.tier def.foreign_key ≡ false) where
  abbrev v : TableState
  v = x.flow.stand.over.virtual

  abbrev n : TableState
  n = with_new def x.flow.stand.over.virtual

  abbrev longer : List Entry
  longer = w.history ++ Definition def ∷ []

  k : Known w v
  k = known w x

  front : (more : List TableDef) × (x.flow.stand.over.backing.schema ≡ w.tier.schema ++ more)
  front = x.schema.front x.flow.stand.over.backing x.flow.stand.over.leaves

  joins : AreClosed (live_groups_of w.tier.groups) (x.flow.stand.over.backing.schema ++ def ∷ [])
  joins =
      subst (λ d. AreClosed (live_groups_of w.tier.groups) (d ++ def ∷ [])) (sym front.1)
      (all_closed_later w.tier.schema front.0 def w.tier.groups w.history w.tier.log w.tier.next x.catalog.each
      (subst (λ d. GroupsAreOrdered (live_groups_of w.tier.groups) w.history w.tier.log d w.tier.next) front.1 x.flow.stand.over.ordered) (λ f e. ap (refers_to_writethrough w.tier) (sym e) ∙ apart))

  flow : FlowsAs (progress_of (live_groups_of w.tier.groups) longer w.tier.log w.tier.next) w.tier.unsettled n
  flow = flow_table (progress_in w) w.tier.unsettled x.flow def joins

  schema_of : (s : TableState) → state_of longer ≡ Some s → s.schema ≡ x.flow.stand.over.backing.schema ++ def ∷ []
  schema_of s e =
      let is : Some (with_new def x.flow.stand.over.backing) ≡ Some s = sym (state_of-append w.history (Definition def ∷ []) ∙ ap (option_and_then (state_from (Definition def ∷ []))) x.flow.stand.over.leaves) ∙ e in
      ap (λ (z : TableState). z.schema) (sym (same_some is))

  alike : (g : Group) → IsCatalogued w.tier.schema g → AreAlike g.def.tree v n
  alike g c = record {
    root = rows_later v.tables g.def.tree.root.table.0;
    def = defined g.def.tree.root.table (root_covers g);
    children = λ i d at. (rows_later v.tables d.table.0, defined d.table (ap is_some (sound_child w.tier.schema g.def.tree i d c.sound at).place));
  }
    where
      defined : (u : TableId) → covers u g ≡ true → slice_get (v.schema ++ def ∷ []) u.0 ≡ slice_get v.schema u.0
      defined u e = get_same v.schema (def ∷ []) u.0 (ap (λ s. is_some (slice_get s u.0)) k.front ∙ ap is_some (get_same w.tier.schema k.more u.0 (covered_defined w.tier.schema g u c e)) ∙ covered_defined w.tier.schema g u c e)

  one_group : (u : TableId) (g : Group) → find (covers u) w.tier.groups ≡ Some g → shown longer w.tier.log g ≡ shown w.history w.tier.log g
  one_group u g found = by (is_read_only g) refl
    where
      by : (b : Bool) → is_read_only g ≡ b → shown longer w.tier.log g ≡ shown w.history w.tier.log g
      by true e =
          ap (λ b. shown_where (cond b (option_and_then (state_at longer) g.position) (virtual_state longer w.tier.log)) g) e
          ∙ ap (λ o. shown_where o g) (read g.position refl)
          ∙ sym (ap (λ b. shown_where (cond b (option_and_then (state_at w.history) g.position) (virtual_state w.history w.tier.log)) g) e)
        where
          read : (o : Option ℕ) → g.position ≡ o → option_and_then (state_at longer) g.position ≡ option_and_then (state_at w.history) g.position
          read None e = ap (option_and_then (state_at longer)) e ∙ sym (ap (option_and_then (state_at w.history)) e)
          read (Some i) e =
              ap (option_and_then (state_at longer)) e
              ∙ ap state_of (take-append-le i w.history (Definition def ∷ []) (each_found (IsReadWithin (length w.history)) (covers u) w.tier.groups g x.read.within found i e))
              ∙ sym (ap (option_and_then (state_at w.history)) e)
      by false e =
          ap (λ b. shown_where (cond b (option_and_then (state_at longer) g.position) (virtual_state longer w.tier.log)) g) e
          ∙ ap (λ o. shown_where o g) (flow.flow.stand.over.virtual_is ∙ ap Some flow.same)
          ∙ shown_alike v n g (alike g (each_found (IsCatalogued w.tier.schema) (covers u) w.tier.groups g x.catalog.each found))
          ∙ sym (ap (λ o. shown_where o g) k.v_is)
          ∙ sym (ap (λ b. shown_where (cond b (option_and_then (state_at w.history) g.position) (virtual_state w.history w.tier.log)) g) e)

  one_table : (u : TableId) → table_of_group longer w.tier.log u (group_over w.tier.groups u) ≡ table_of_group w.history w.tier.log u (group_over w.tier.groups u)
  one_table u = ap (table_of_group longer w.tier.log u) (over_is_found w.tier.groups u) ∙ by (find (covers u) w.tier.groups) refl ∙ sym (ap (table_of_group w.history w.tier.log u) (over_is_found w.tier.groups u))
    where
      by : (o : Option Group) → find (covers u) w.tier.groups ≡ o → table_of_group longer w.tier.log u (find (covers u) w.tier.groups) ≡ table_of_group w.history w.tier.log u (find (covers u) w.tier.groups)
      by None e = ap (table_of_group longer w.tier.log u) e ∙ sym (ap (table_of_group w.history w.tier.log u) e)
      by (Some g) e = ap (table_of_group longer w.tier.log u) e ∙ ap (λ m. kept_at m (unwrap_or (place_of g.def.tree u) 0)) (one_group u g e) ∙ sym (ap (table_of_group w.history w.tier.log u) e)

  same : shown_state longer (record w.tier { stale = true }) ≡ shown_state w.history w.tier
  same = same_shown w.history longer w.tier (record w.tier { stale = true }) refl one_table

  -- the tier isn't told
  pub comes_untold : StaysShown w (with_tier (record w.tier { stale = true }) (at_history longer w))
  comes_untold = record {
    stands = stands_by (with_tier (record w.tier { stale = true }) (at_history longer w)) n flow
        (record {
          front = λ s e. (front.0 ++ def ∷ [], schema_of s e ∙ ap (λ d. d ++ def ∷ []) front.1 ∙ append_assoc w.tier.schema front.0 (def ∷ []));
          whole = λ s stale e. Prim.cc;
        })
        (record { each = x.catalog.each; apart = x.catalog.apart })
        (each_map (HasKeys v) (HasKeys n) (λ g keys. record { distinct = keys.distinct; rooted = λ writes key e. ap (λ (m : Table). fm.contains_key m key) (rows_later v.tables g.def.tree.root.table.0) ∙ keys.rooted writes key e }) w.tier.groups x.keys)
        (record {
          within = each_map (IsReadWithin (length w.history)) (IsReadWithin (length longer)) (λ g inside i e. let le = inside i e in let size : length (w.history ++ Definition def ∷ []) ≡ length w.history + 1 = length-append w.history (Definition def ∷ []) in Prim.omega arith) w.tier.groups x.read.within;
          one = x.read.one;
        })
        (record {
          labels = x.sessions.labels;
          through = x.sessions.through;
          shown = subst (λ s. OpenWrites s (own_writes w.tier.sessions)) (sym same) x.sessions.shown;
          virtual = apply_new def v (own_writes w.tier.sessions) k.sound.whole x.sessions.virtual;
        });
    same = same;
  }

pub table_comes : (w : World) (def : TableDef) → Stands w → refers_to_writethrough w.tier def.foreign_key ≡ false → StaysShown w (with_tier (record w.tier { stale = true }) (at_history (w.history ++ Definition def ∷ []) w))
table_comes w def x apart = comes_untold w def x apart

-- The tier is told of one table more.
module _ (w : World) (d : TableDef) (rest : List TableDef) (stale : Bool) (x : Stands w) (more : x.flow.stand.over.backing.schema ≡ (w.tier.schema ++ d ∷ []) ++ rest) (all : stale ≡ false → rest ≡ []) where
  abbrev shown_before : TableState
  shown_before = shown_state w.history w.tier

  abbrev after : Tier
  after = record w.tier { schema = w.tier.schema ++ d ∷ []; stale = stale }

  later_sound : (g : Group) → IsCatalogued w.tier.schema g → IsCatalogued (w.tier.schema ++ d ∷ []) g
  later_sound g c = record {
    sound = Rattle.cache_tier.proofs.ShownTrees.sound_later w.tier.schema (d ∷ []) g.def.tree c.sound;
    plain = c.plain;
    free = λ writes. ap (option_and_then (λ (z : TableDef). z.foreign_key)) (get_same w.tier.schema (d ∷ []) g.def.tree.root.table.0 (covered_defined w.tier.schema g g.def.tree.root.table c (root_covers g))) ∙ c.free writes;
  }

  uncovered : (u : TableId) → slice_get w.tier.schema u.0 ≡ None → table_of_group w.history w.tier.log u (group_over w.tier.groups u) ≡ empty
  uncovered u none = ap (table_of_group w.history w.tier.log u) (over_is_found w.tier.groups u) ∙ of (find (covers u) w.tier.groups) refl
    where
      of : (o : Option Group) → find (covers u) w.tier.groups ≡ o → table_of_group w.history w.tier.log u (find (covers u) w.tier.groups) ≡ empty
      of None e = ap (table_of_group w.history w.tier.log u) e
      of (Some g) e = absurd (never_both (is_some (slice_get w.tier.schema u.0)) (covered_defined w.tier.schema g u (each_found (IsCatalogued w.tier.schema) (covers u) w.tier.groups g x.catalog.each e) (Rattle.cache_tier.proofs.GroupTables.find_passes (covers u) w.tier.groups g e)) (ap is_some none))

  told_same : shown_state w.history after ≡ with_new d shown_before
  told_same = same_state (shown_state w.history after) (with_new d shown_before) refl
      (from_length (shown_table w.history after) 0 (w.tier.schema ++ d ∷ []) ∙ length-append w.tier.schema (d ∷ []) ∙ ap (λ m. m + 1) (sym (from_length (shown_table w.history w.tier) 0 w.tier.schema)) ∙ sym (length-append shown_before.tables (empty ∷ [])))
      (λ u. by u (slice_get w.tier.schema u.0) refl (slice_get (w.tier.schema ++ d ∷ []) u.0) refl ∙ sym (rows_later shown_before.tables u.0))
    where
      by : (u : TableId) (o : Option TableDef) → slice_get w.tier.schema u.0 ≡ o → (p : Option TableDef) → slice_get (w.tier.schema ++ d ∷ []) u.0 ≡ p → table_at (shown_state w.history after) u ≡ table_at shown_before u
      by u (Some z) e p f = table_shown w.history after u (ap is_some (get_same w.tier.schema (d ∷ []) u.0 (ap is_some e) ∙ e)) ∙ sym (table_shown w.history w.tier u (ap is_some e))
      by u None e None f = no_table_shown w.history after u f ∙ sym (no_table_shown w.history w.tier u e)
      by u None e (Some z) f = table_shown w.history after u (ap is_some f) ∙ uncovered u e ∙ sym (no_table_shown w.history w.tier u e)

  pub told_one : ShowsTable d w (with_tier after w)
  told_one = record {
    stands = stands_by (with_tier after w) x.flow.stand.over.virtual (record { flow = x.flow; same = refl })
        (record {
          front = λ s e. (rest, ap (λ (z : TableState). z.schema) (same_some (sym e ∙ x.flow.stand.over.leaves)) ∙ more);
          whole = λ s now e. ap (λ (z : TableState). z.schema) (same_some (sym e ∙ x.flow.stand.over.leaves)) ∙ more ∙ ap (λ l. (w.tier.schema ++ d ∷ []) ++ l) (all now) ∙ append-nil (w.tier.schema ++ d ∷ []);
        })
        (record { each = each_map (IsCatalogued w.tier.schema) (IsCatalogued (w.tier.schema ++ d ∷ [])) later_sound w.tier.groups x.catalog.each; apart = x.catalog.apart })
        x.keys x.read
        (record {
          labels = x.sessions.labels;
          through = x.sessions.through;
          shown = subst (λ s. OpenWrites s (own_writes w.tier.sessions)) (sym told_same) (record {
            apply = apply_new d shown_before (own_writes w.tier.sessions) (Rattle.cache_tier.proofs.ShownTables.shown_whole w.history w.tier) x.sessions.shown.apply;
            apart = none_meet_later w.tier.schema (d ∷ []) (own_writes w.tier.sessions) (all_known shown_before (own_writes w.tier.sessions) x.sessions.shown.apply) x.sessions.shown.apart;
          });
          virtual = x.sessions.virtual;
        });
    same = told_same;
  }

-- A table is defined, and the tier is told.
pub table_joins : (w : World) (def : TableDef) → Stands w → w.tier.stale ≡ false → refers_to_writethrough w.tier def.foreign_key ≡ false → ShowsTable def w (with_tier (record w.tier { schema = w.tier.schema ++ def ∷ [] }) (at_history (w.history ++ Definition def ∷ []) w))
table_joins w def x told apart =
    let one = comes_untold w def x apart in
    let over = one.stands.flow.stand.over in
    let knows = x.schema.whole x.flow.stand.over.backing told x.flow.stand.over.leaves in
    let two = told_one (with_tier (record w.tier { stale = true }) (at_history (w.history ++ Definition def ∷ []) w)) def [] false one.stands
    (schema_of w def x apart over.backing over.leaves ∙ ap (λ l. l ++ def ∷ []) knows ∙ sym (append-nil (w.tier.schema ++ def ∷ []))) (λ e. refl)
    in
    subst (λ b. ShowsTable def w (with_tier (record w.tier { schema = w.tier.schema ++ def ∷ []; stale = b }) (at_history (w.history ++ Definition def ∷ []) w))) (sym told)
    (record { stands = two.stands; same = two.same ∙ ap (with_new def) one.same })

-- The tier is told of all tables.
told_all : (w : World) (more : List TableDef) (x : Stands w) → x.flow.stand.over.backing.schema ≡ w.tier.schema ++ more → ShowsSchema more w (with_tier (record w.tier { schema = w.tier.schema ++ more; stale = false }) w)
told_all w [] x is = subst (λ l. ShowsSchema [] w (with_tier (record w.tier { schema = l; stale = false }) w)) (sym (append-nil w.tier.schema)) (record {
  stands = record {
    flow = x.flow;
    schema = record { front = x.schema.front; whole = λ s stale e. ap (λ (z : TableState). z.schema) (same_some (sym e ∙ x.flow.stand.over.leaves)) ∙ is ∙ append-nil w.tier.schema };
    catalog = record { each = x.catalog.each; apart = x.catalog.apart };
    keys = x.keys;
    read = x.read;
    sessions = x.sessions;
  };
  same = refl;
})
told_all w (d ∷ more) x is =
    let one = told_one w d more true x (is ∙ sym (append_assoc w.tier.schema (d ∷ []) more)) (λ e. Prim.cc) in
    let next = with_tier (record w.tier { schema = w.tier.schema ++ d ∷ []; stale = true }) w in
    let same : one.stands.flow.stand.over.backing ≡ x.flow.stand.over.backing = same_some (sym one.stands.flow.stand.over.leaves ∙ x.flow.stand.over.leaves) in
    let rest = told_all next more one.stands (ap (λ (z : TableState). z.schema) same ∙ is ∙ sym (append_assoc w.tier.schema (d ∷ []) more)) in
    subst (λ l. ShowsSchema (d ∷ more) w (with_tier (record w.tier { schema = l; stale = false }) w)) (append_assoc w.tier.schema (d ∷ []) more)
    (record { stands = rest.stands; same = rest.same ∙ ap (with_tables more) one.same })

pub schema_is_told : (w : World) (more : List TableDef) (s : TableState) → Stands w → state_of w.history ≡ Some s → s.schema ≡ w.tier.schema ++ more → ShowsSchema more w (with_tier (record w.tier { schema = s.schema; stale = false }) w)
schema_is_told w more s x leaves is =
    subst (λ l. ShowsSchema more w (with_tier (record w.tier { schema = l; stale = false }) w)) (sym is)
    (told_all w more x (ap (λ (z : TableState). z.schema) (same_some (sym x.flow.stand.over.leaves ∙ leaves)) ∙ is))
