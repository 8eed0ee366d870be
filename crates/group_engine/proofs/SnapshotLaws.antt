-- What a snapshot reads of a writethrough group's tables, where nothing is unsettled, is what stands behind the call.
use Rattle.std.proofs.Common.{◌≡◌, ℕ, zero, suc, nat_eq, ◌≤◌, Bool, true, false, not, cond, ◌&&◌, ◌||◌, Option, Some, None, Ok, is_some, List, [], ◌∷◌, ◌++◌, length, map, take, slice_get, refl, sym, ap, subst, ◌∙◌, arith, append_assoc}
use Rattle.std.proofs.lemmas.Bool.{eq-eqb}
use Rattle.std.proofs.lemmas.List.{append-nil, take-append-le, take_all}
use Rattle.std.specs.FinMap.{empty}
use Rattle.std.specs.List.{find}
use Rattle.std.specs.Option.{option_and_then}
use Rattle.tier_base.specs.declared.number.TableId.{TableId}
use Rattle.table_state.specs.declared.history.Entry.{Entry}
use Rattle.table_state.specs.declared.history.Entry.TheVariants.{Definition, Foreign, Own}
use Rattle.table_state.specs.declared.operation.Op.{Op}
use Rattle.table_state.specs.Copies.{is_one_of}
use Rattle.table_state.specs.Histories.{state_at, state_from, state_of}
use Rattle.table_state.specs.Operations.{applied_all, table_of}
use Rattle.table_state.specs.Tables.{TableState, table_at}
use Rattle.table_state.proofs.HistoryLaws.{state_of-append}
use Rattle.instances.specs.declared.tree.Child.{Child}
use Rattle.instances.specs.declared.tree.Tree.{Tree}
use Rattle.instances.specs.Trees.{place_of}
use Rattle.order_laws.specs.Commits.{applied_sealed, pending}
use Rattle.order_laws.specs.Sides.{AgreeOn, are_off}
use Rattle.order_laws.proofs.OthersLaws.{beside}
use Rattle.order_laws.proofs.SideLaws.{side_off}
use Rattle.order_laws.proofs.TruthLaws.{both_true, same_some}
use Rattle.outside.specs.Console.{IsCopyOf, TakesSnapshot}
use Rattle.outside.specs.Others.{AreOthers, Around, are_on_shared, is_shared}
use Rattle.outside.specs.declared.site.Snapshot.{Snapshot}
use Rattle.cache_tier.specs.Groups.{Group, covers, is_table_of, is_writethrough}
use Rattle.cache_tier.specs.Shown.{shown_state}
use Rattle.cache_tier.specs.Worlds.{IsUnshared, World}
use Rattle.cache_tier.specs.Events.{at_history}
use Rattle.cache_tier.specs.StandingBetween.{HaveOwnTables, Stands}
use Rattle.cache_tier.proofs.ChosenGroups.{each_at}
use Rattle.cache_tier.proofs.GroupTables.{IsFound, each_own, live_table, through_live}
use Rattle.cache_tier.proofs.HistoryKeeps.{others_go_on}
use Rattle.cache_tier.proofs.SessionLaws.{Known, known}
use Rattle.cache_tier.proofs.ShownTables.{InTree, in_tree_at, live_of}
use Rattle.cache_tier.proofs.ShownTables.InTree.{AtRoot, AtChild}

-- transactions of others leave the rows of live tables

some_state : (o : Option TableState) → is_some o ≡ true → (s : TableState) × (o ≡ Some s)
some_state None e = cc
some_state (Some s) e = (s, refl)

then_same : (o : Option TableState) (s : TableState) → option_and_then (state_from []) o ≡ Some s → o ≡ Some s
then_same None s e = e
then_same (Some x) s e = e

off_live : (shared : List TableId) (t : List Group) (live : List TableId) (ops : List Op) → ((u : TableId) → is_one_of live u ≡ is_table_of is_writethrough t u) → ((u : TableId) → is_shared shared u ≡ true → is_table_of is_writethrough t u ≡ false) → are_on_shared shared ops ≡ true → are_off live ops ≡ true
off_live shared t live [] same apart e = refl
off_live shared t live (op ∷ ops) same apart e =
    let (first, rest) = both_true (is_shared shared (table_of op)) (are_on_shared shared ops) e in
    λ i. not ((same (table_of op) ∙ apart (table_of op) first) i) && off_live shared t live ops same apart rest i

others_agree : (tables shared : List TableId) (front entries : List Entry) (s b n : TableState) → ((ops : List Op) → are_on_shared shared ops ≡ true → are_off tables ops ≡ true)
    → state_of front ≡ Some s → AreOthers shared front entries → state_of (front ++ entries) ≡ Some b → AgreeOn tables s n → AgreeOn tables b n
others_agree tables shared front [] s b n off leaves others end agree =
    let same : s ≡ b = same_some (sym leaves ∙ sym (ap state_of (append-nil front)) ∙ end) in
    subst (λ z. AgreeOn tables z n) same agree
others_agree tables shared front (Definition def ∷ entries) s b n off leaves others end agree = absurd others
others_agree tables shared front (Own ticket ops ∷ entries) s b n off leaves others end agree = absurd others
others_agree tables shared front (Foreign ops ∷ entries) s b n off leaves others end agree =
    let (m, m_is) = some_state (state_of (front ++ Foreign ops ∷ [])) (others.1 s leaves) in
    let step : option_and_then (state_from []) (applied_all ops s) ≡ Some m = sym (state_of-append front (Foreign ops ∷ []) ∙ ap (option_and_then (state_from (Foreign ops ∷ []))) leaves) ∙ m_is in
    let applied : applied_all ops s ≡ Some m = then_same (applied_all ops s) m step in
    others_agree tables shared (front ++ Foreign ops ∷ []) entries m b n off m_is others.2 (ap state_of (append_assoc front (Foreign ops ∷ []) entries) ∙ end)
    (beside tables ops s m n (side_off tables ops (off ops others.0)) applied agree)

-- the tables of a tree are asked for

among : (children : List Child) (i : ℕ) (c : Child) → slice_get children i ≡ Some c → is_one_of (map (λ (d : Child). d.table) children) c.table ≡ true
among [] i c at = cc
among (d ∷ children) zero c at = let same : d ≡ c = cc in ap (λ b. b || is_one_of (map (λ (e : Child). e.table) children) c.table) (eq-eqb d.table.0 c.table.0 (ap (λ (e : Child). e.table.0) same))
among (d ∷ children) (suc i) c at = by (nat_eq d.table.0 c.table.0) (among children i c at)
  where
    by : (b : Bool) → is_one_of (map (λ (e : Child). e.table) children) c.table ≡ true → (b || is_one_of (map (λ (e : Child). e.table) children) c.table) ≡ true
    by true r = refl
    by false r = r

pub tree_asked : (tree : Tree) (u : TableId) (p : ℕ) → place_of tree u ≡ Some p → is_one_of (tree.root.table ∷ map (λ (c : Child). c.table) tree.children) u ≡ true
tree_asked tree u p e = by (in_tree_at tree u p e)
  where
    rest : List TableId
    rest = map (λ (c : Child). c.table) tree.children

    or_so : (b : Bool) → is_one_of rest u ≡ true → (b || is_one_of rest u) ≡ true
    or_so true r = refl
    or_so false r = r

    by : InTree tree u p → is_one_of (tree.root.table ∷ rest) u ≡ true
    by (AtRoot first same) = ap (λ b. b || is_one_of rest u) (eq-eqb tree.root.table.0 u.0 (ap (λ (t : TableId). t.0) same))
    by (AtChild i c at there same) = or_so (nat_eq tree.root.table.0 u.0) (ap (is_one_of rest) (sym same) ∙ among tree.children i c there)

-- the world behind, and the rows that were read

pub record IsRead (w : World) (later : List Entry) (g : Group) (n : ℕ) (c : TableState) : Type 0 where
  pub stands : Stands (at_history later w)
  pub shown : shown_state later w.tier ≡ shown_state w.history w.tier
  pub v : TableState
  pub known : Known (at_history later w) v
  pub end : state_of later ≡ Some v
  pub read : TableState
  pub read_is : state_at later n ≡ Some read
  pub schema : read.schema ≡ v.schema
  pub rows : (u : TableId) → covers u g ≡ true → table_at read u ≡ table_at v u
  pub copied : (u : TableId) → covers u g ≡ true → table_at c u ≡ table_at v u
  pub copy_schema : c.schema ≡ v.schema

found_at : (groups : List Group) (k : ℕ) (g : Group) (u : TableId) → HaveOwnTables groups → slice_get groups k ≡ Some g → covers u g ≡ true → find (covers u) groups ≡ Some g
found_at groups k g u own at c = each_at (IsFound groups) groups k g (each_own groups own) at u c

module _ (w : World) (x : Stands w) (apart : IsUnshared w) (settled : w.tier.unsettled ≡ []) (place : ℕ) (g : Group) (at : slice_get w.tier.groups place ≡ Some g) (writes : is_writethrough g ≡ true) (asked : List TableId) (asks : (u : TableId) → covers u g ≡ true → is_one_of asked u ≡ true) (snapshot : Snapshot) (later : List Entry) (a : Around w.shared (TakesSnapshot asked (Ok snapshot)) w.history later) where
  pub is_read : IsRead w later g snapshot.position.0 snapshot.tables
  is_read =
      let one = others_go_on w a.before x apart a.came_before in
      let middle : a.middle ≡ w.history ++ a.before = a.own.0 ∙ append-nil (w.history ++ a.before) in
      let came : AreOthers w.shared (w.history ++ a.before) a.behind = subst (λ l. AreOthers w.shared l a.behind) middle a.came_behind in
      let two = others_go_on (at_history (w.history ++ a.before) w) a.behind one.stands apart came in
      let is : later ≡ (w.history ++ a.before) ++ a.behind = a.is ∙ ap (λ l. l ++ a.behind) middle in
      let stands : Stands (at_history later w) = subst (λ l. Stands (at_history l w)) (sym is) two.stands in
      let over = stands.flow.stand.over in
      let b : TableState = over.backing in
      let leaves : state_of later ≡ Some b = over.leaves in
      let first : TableState = one.stands.flow.stand.over.backing in
      let first_leaves : state_of (w.history ++ a.before) ≡ Some first = one.stands.flow.stand.over.leaves in
      let none : pending later w.tier.log ≡ [] = stands.flow.rest ∙ ap (pending later) settled in
      let drained : over.virtual ≡ b = same_some (sym over.virtual_is ∙ ap (λ xs. option_and_then (applied_sealed xs) (state_of later)) none ∙ ap (option_and_then (applied_sealed [])) leaves) in
      let agree : AgreeOn (live_of w.tier) b first =
      others_agree (live_of w.tier) w.shared (w.history ++ a.before) a.behind first b first
      (λ ops on. off_live w.shared w.tier.groups (live_of w.tier) ops (live_table w.tier.groups) apart on)
      first_leaves came (ap state_of (sym is) ∙ leaves) (record { schema = refl; size = refl; rows = λ t on. refl }) in
      let live : (u : TableId) → covers u g ≡ true → is_one_of (live_of w.tier) u ≡ true =
      (λ u c. live_table w.tier.groups u ∙ through_live w.tier.groups u g (found_at w.tier.groups place g u x.catalog.apart at c) writes) in
      let long : snapshot.position.0 ≡ length a.middle = a.own.1 in
      let within : snapshot.position.0 ≤ length a.middle = omega (arith, long) in
      let past : length a.middle ≤ snapshot.position.0 = omega (arith, long) in
      let front_is : take snapshot.position.0 later ≡ w.history ++ a.before =
      ap (take snapshot.position.0) a.is ∙ take-append-le snapshot.position.0 a.middle a.behind within ∙ take_all snapshot.position.0 a.middle past ∙ middle in
      let copy : IsCopyOf asked first snapshot.tables = a.own.2 first (ap state_of middle ∙ first_leaves) in
      record {
        stands = stands;
        shown = ap (λ l. shown_state l w.tier) is ∙ two.same ∙ one.same;
        v = over.virtual;
        known = known (at_history later w) stands;
        end = leaves ∙ ap Some (sym drained);
        read = first;
        read_is = ap state_of front_is ∙ first_leaves;
        schema = agree.schema ∙ ap (λ (z : TableState). z.schema) (sym drained);
        rows = λ u c. agree.rows u (live u c) ∙ ap (λ (z : TableState). table_at z u) (sym drained);
        copied = λ u c. copy.rows u ∙ ap (λ o. cond o (table_at first u) empty) (asks u c) ∙ agree.rows u (live u c) ∙ ap (λ (z : TableState). table_at z u) (sym drained);
        copy_schema = copy.schema ∙ agree.schema ∙ ap (λ (z : TableState). z.schema) (sym drained);
      }
