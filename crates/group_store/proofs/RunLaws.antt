-- What operations leave of what a group shows.
use Rattle.std.proofs.Common.{◌≡◌, ℕ, zero, suc, Bool, true, false, not, cond, ◌||◌, nat_eq, List, [], ◌∷◌, ◌++◌, length, slice_get, slice_set, Option, Some, None, is_some, refl, sym, ap, subst, ◌∙◌, arith}
use Rattle.std.specs.Option.{option_and_then, option_map}
use Rattle.std.specs.FinMap.{contains_key, remove}
use Rattle.slot_rows.specs.row_types.specs.declared.value.Value.{Value}
use Rattle.slot_rows.specs.tier_base.specs.declared.number.TableId.{TableId}
use Rattle.cache_store.specs.table_defs.specs.declared.definition.TableDef.{TableDef}
use Rattle.slot_rows.specs.indexed_rows.specs.Rows.{Table, is_same, key_of, put_in, put_over}
use Rattle.slot_rows.specs.indexed_rows.proofs.EntryLaws.{get_gone, same_values}
use Rattle.cache_store.specs.table_state.specs.declared.operation.Op.{Op}
use Rattle.cache_store.specs.table_state.specs.declared.operation.Op.TheVariants.{Delete, Insert, Update}
use Rattle.cache_store.specs.table_state.specs.Operations.{applied, on_table, table_of as op_table, with_change, with_row, without_row}
use Rattle.cache_store.specs.table_state.specs.Sound.{IsTableState}
use Rattle.cache_store.specs.table_state.specs.Tables.{TableState, table_at}
use Rattle.cache_store.specs.table_state.proofs.SoundLaws.{op_sound}
use Rattle.cache_store.specs.instances.specs.declared.tree.Child.{Child}
use Rattle.cache_store.specs.instances.specs.declared.tree.Tree.{Tree}
use Rattle.cache_store.specs.instances.specs.Roots.{parent_key, root_within}
use Rattle.cache_store.specs.instances.specs.Trees.{is_sound, place_of, table_of}
use Rattle.cache_store.specs.instances.specs.Views.{kept_at}
use Rattle.cache_store.specs.recency.specs.Rings.{keys_without}
use Rattle.cache_store.specs.Growing.{Agree}
use Rattle.cache_store.specs.Operating.{AppliesAt, IsChosen, change_at}
use Rattle.cache_store.specs.Shown.{is_among, shown_of}
use Rattle.cache_store.proofs.DeleteLaws.{deleted, shows_delete}
use Rattle.cache_store.proofs.InsertLaws.{inserted, nat_eq_other, shows_insert}
use Rattle.cache_store.proofs.UpdateLaws.{shows_update, updated}
use Rattle.group_store.specs.Keeping.{HasNoFilter, IsFor, KeepsShown, KeepsPace, StepsOn, primary_of}
use Rattle.group_store.specs.Recent.{entered_last}
use Rattle.group_store.specs.Stores.{Kept, at_place, op_done, place_in, put_store, replace_store, take_store}
use Rattle.group_store.specs.Trees.{key_at}
use Rattle.group_store.proofs.FormLaws.{covers, first_place, key_for, primary, parents_first, place_same, same_id, shown_same, stands, stands_there}

abbrev Row : Type 0
Row = List Value

-- keys in a list
among_more : (keys : List Row) (key r : Row) → is_same r key ≡ false → is_among (keys ++ key ∷ []) r ≡ is_among keys r
among_more [] key r other = ap (λ b. b || false) other
among_more (k ∷ keys) key r other = ap (λ b. is_same r k || b) (among_more keys key r other)

among_less : (keys : List Row) (key r : Row) → is_same r key ≡ false → is_among (keys_without is_same key keys) r ≡ is_among keys r
among_less [] key r other = refl
among_less (k ∷ keys) key r other = by (is_same key k) refl (among_less keys key r other)
  where
    by : (b : Bool) → is_same key k ≡ b → is_among (keys_without is_same key keys) r ≡ is_among keys r → is_among (cond (not b) (k ∷ keys_without is_same key keys) (keys_without is_same key keys)) r ≡ (is_same r k || is_among keys r)
    by true e rest = rest ∙ ap (λ b. b || is_among keys r) (sym (ap (is_same r) (sym (same_values key k e)) ∙ other))
    by false e rest = ap (λ b. is_same r k || b) rest

-- roots of rows are there
root_there : (s : TableState) (tree : Tree) (n place : ℕ) (key r : Row) → root_within n s tree place key ≡ Some r → contains_key (table_at s tree.root.table) r ≡ true
root_there s tree n zero key r e = by (contains_key (table_at s tree.root.table) key) refl e
  where
    by : (b : Bool) → contains_key (table_at s tree.root.table) key ≡ b → cond b (Some key) None ≡ Some r → contains_key (table_at s tree.root.table) r ≡ true
    by true f e = let z : key ≡ r = cc in ap (contains_key (table_at s tree.root.table)) (sym z) ∙ f
    by false f e = cc
root_there s tree zero (suc place) key r e = cc
root_there s tree (suc n) (suc place) key r e = by (slice_get tree.children place) e (λ c k. root_there s tree n c.parent k r)
  where
    up : (c : Child) (o : Option Row) → option_and_then (root_within n s tree c.parent) o ≡ Some r → ((k : Row) → root_within n s tree c.parent k ≡ Some r → contains_key (table_at s tree.root.table) r ≡ true) → contains_key (table_at s tree.root.table) r ≡ true
    up c None e rest = cc
    up c (Some k) e rest = rest k e

    by : (o : Option Child) → option_and_then (λ child. option_and_then (root_within n s tree child.parent) (parent_key s child key)) o ≡ Some r → ((c : Child) (k : Row) → root_within n s tree c.parent k ≡ Some r → contains_key (table_at s tree.root.table) r ≡ true) → contains_key (table_at s tree.root.table) r ≡ true
    by None e rest = cc
    by (Some c) e rest = up c (parent_key s c key) e (rest c)

other_key : (t : Table) (r key : Row) → contains_key t r ≡ true → contains_key t key ≡ false → is_same r key ≡ false
other_key t r key has none = by (is_same r key) refl
  where
    by : (b : Bool) → is_same r key ≡ b → is_same r key ≡ false
    by true e = let z : true ≡ false = sym has ∙ ap (contains_key t) (same_values r key e) ∙ none in cc
    by false e = e

-- an operation that applies is of a table with a definition
on_defined : (s new : TableState) (t : TableId) (change : TableDef → Table → Option Table) → on_table s t change ≡ Some new → (def : TableDef) × (slice_get s.schema t.0 ≡ Some def)
on_defined s new t change e = by (slice_get s.schema t.0) refl e
  where
    by : (o : Option TableDef) → slice_get s.schema t.0 ≡ o → option_and_then (λ def. option_and_then (λ table. option_map (λ new. record { schema = s.schema; tables = slice_set s.tables t.0 new }) (change def table)) (slice_get s.tables t.0)) o ≡ Some new → (def : TableDef) × (slice_get s.schema t.0 ≡ Some def)
    by None f e = cc
    by (Some def) f e = (def, f)

op_defined : (op : Op) (s new : TableState) → applied op s ≡ Some new → (def : TableDef) × (slice_get s.schema (op_table op).0 ≡ Some def)
op_defined (Insert t row) s new e = on_defined s new t (with_row s row) e
op_defined (Update t old row) s new e = on_defined s new t (with_change s old row) e
op_defined (Delete t old) s new e = on_defined s new t (without_row s t old) e

-- other tables stay, and the schema
record Stays (s new : TableState) (t : TableId) : Type 0 where
  schema : new.schema ≡ s.schema
  others : (u : TableId) → (u.0 ≡ t.0 → ⊥) → table_at new u ≡ table_at s u

stays : (op : Op) (s new : TableState) → applied op s ≡ Some new → Stays s new (op_table op)
stays (Insert t row) s new e = let d = op_defined (Insert t row) s new e in let i = inserted s new t d.0 row e d.1 in record { schema = i.schema; others = i.others }
stays (Update t old row) s new e = let d = op_defined (Update t old row) s new e in let i = updated s new t d.0 old row e d.1 in record { schema = i.schema; others = i.others }
stays (Delete t old) s new e = let d = op_defined (Delete t old) s new e in let i = deleted s new t d.0 old e d.1 in record { schema = i.schema; others = i.others }

not_first : (i : ℕ) → nat_eq (suc i) 0 ≡ false
not_first i = nat_eq_other (suc i) 0 (λ z. absurd (omega (arith, z)))

-- one operation
module _ (s new : TableState) (tree : Tree) (k : Kept) (is : IsTableState s) (sound : is_sound s.schema tree ≡ true) (plain : HasNoFilter tree) (keeps : KeepsShown s tree (is_among k.keys) k) where
  module _ (op : Op) (applies : applied op s ≡ Some new) where
    sound_new : is_sound new.schema tree ≡ true
    sound_new = ap (λ defs. is_sound defs tree) (stays op s new applies).schema ∙ sound

    at_op : (at : ℕ) (def : TableDef) → place_of tree (op_table op) ≡ Some at → slice_get s.schema (op_table op).0 ≡ Some def → AppliesAt op s new tree (op_table op) def at
    at_op at def e d = record {
      applies = applies;
      defined = d;
      stands = stands s.schema tree sound (op_table op) at e;
      before = covers s tree sound plain is;
      after = covers new tree sound_new plain (op_sound op s new applies is);
    }

    -- a table that the tree hasn't
    outside : place_of tree (op_table op) ≡ None → (p : Row → Bool) → shown_of new tree p ≡ shown_of s tree p
    outside none p =
        let st = stays op s new applies in
        shown_same s new tree p st.schema (λ place t there. st.others t (λ same. let z : None ≡ Some place = sym none ∙ ap (place_of tree) (sym (same_id t (op_table op) same)) ∙ first_place s.schema tree sound place t there in cc))

    form_new : IsFor new.schema tree k
    form_new = subst (λ defs. IsFor defs tree k) (sym (stays op s new applies).schema) keeps.form

  -- what the root's key list becomes agrees with what it was
  enters_apart : (at : ℕ) (t : TableId) (def : TableDef) (row : Row) → table_of tree at ≡ Some t → slice_get s.schema t.0 ≡ Some def → applied (Insert t row) s ≡ Some new → Agree s tree (is_among k.keys) (is_among (put_store at row k).keys)
  enters_apart (suc i) t def row there d e place other root found a b = ap (λ b. is_among (cond b (entered_last (kept_at k.tables 0) (key_of k.key row) k.keys) k.keys) root) (not_first i)
  enters_apart zero t def row there d e place other root found a b =
      let z : tree.root.table ≡ t = cc in
      let key : key_of k.key row ≡ key_of def.primary_key row = ap (λ ps. key_of ps row) (key_for s.schema tree k keeps.form 0 t there ∙ primary s.schema t def d) in
      let has = root_there s tree (length tree.children) place other root b in
      let gone = ap is_some (inserted s new t def row e d).absent in
      let none : contains_key (table_at s tree.root.table) (key_of k.key row) ≡ false = ap (λ u. contains_key (table_at s u) (key_of k.key row)) z ∙ ap (contains_key (table_at s t)) key ∙ gone in
      by (contains_key (kept_at k.tables 0) (key_of k.key row)) (other_key (table_at s tree.root.table) root (key_of k.key row) has none)
    where
      by : (b : Bool) → is_same root (key_of k.key row) ≡ false → is_among (cond b k.keys (k.keys ++ key_of k.key row ∷ [])) root ≡ is_among k.keys root
      by true other = refl
      by false other = among_more k.keys (key_of k.key row) root other

  leaves_apart : (at : ℕ) (t : TableId) (def : TableDef) (old : Row) → table_of tree at ≡ Some t → slice_get s.schema t.0 ≡ Some def → applied (Delete t old) s ≡ Some new → Agree new tree (is_among (take_store at old k).keys) (is_among k.keys)
  leaves_apart (suc i) t def old there d e place other root found a b = sym (ap (λ b. is_among (cond b (keys_without is_same (key_of k.key old) k.keys) k.keys) root) (not_first i))
  leaves_apart zero t def old there d e place other root found a b =
      let z : tree.root.table ≡ t = cc in
      let key : key_of k.key old ≡ key_of def.primary_key old = ap (λ ps. key_of ps old) (key_for s.schema tree k keeps.form 0 t there ∙ primary s.schema t def d) in
      let has = root_there new tree (length tree.children) place other root b in
      let del = deleted s new t def old e d in
      let none : contains_key (table_at new tree.root.table) (key_of k.key old) ≡ false = ap (λ u. contains_key (table_at new u) (key_of k.key old)) z ∙ ap (contains_key (table_at new t)) key ∙ ap (λ m. contains_key m (key_of def.primary_key old)) del.here ∙ ap is_some (get_gone (table_at s t) (key_of def.primary_key old)) in
      sym (among_less k.keys (key_of k.key old) root (other_key (table_at new tree.root.table) root (key_of k.key old) has none))

  -- the store behind an operation on a table of the tree
  module _ (at : ℕ) (t : TableId) (e : place_of tree t ≡ Some at) where
    here : table_of tree at ≡ Some t
    here = stands_there tree t at e

    placed : place_in k t ≡ Some at
    placed = place_same s.schema tree k keeps.form t ∙ e

    keyed : (def : TableDef) (row : Row) → slice_get s.schema t.0 ≡ Some def → key_of (key_at k.key k.layers at) row ≡ key_of def.primary_key row
    keyed def row d = ap (λ ps. key_of ps row) (key_for s.schema tree k keeps.form at t here ∙ primary s.schema t def d)

    same_form : (m : Kept) → m.table ≡ k.table → m.key ≡ k.key → m.foreign ≡ k.foreign → m.layers ≡ k.layers → (op : Op) → applied op s ≡ Some new → IsFor new.schema tree m
    same_form m a b c d op applies = let f = form_new op applies in record { table = a ∙ f.table; key = b ∙ f.key; foreign = c ∙ f.foreign; layers = d ∙ f.layers }

    inserts : (def : TableDef) (row : Row) → slice_get s.schema t.0 ≡ Some def → StepsOn (Insert t row) s new tree k → KeepsShown new tree (is_among (put_store at row k).keys) (put_store at row k)
    inserts def row d step =
        let q = is_among (put_store at row k).keys in
        let done : op_done (Insert t row) k ≡ put_store at row k = ap (λ o. at_place o (λ place. put_store place row) k) placed in
        let chosen : IsChosen new tree q at (key_of def.primary_key row) = subst (λ ps. IsChosen new tree q at (key_of ps row)) (primary s.schema t def d) (subst (λ m. IsChosen new tree (is_among m.keys) at (key_of (primary_of s.schema t) row)) done (step.chosen at e)) in
        let shows = shows_insert s new tree t def row at (is_among k.keys) q (at_op (Insert t row) step.applies at def e d) (enters_apart at t def row here d step.applies) chosen in
        record {
          form = same_form (put_store at row k) refl refl refl refl (Insert t row) step.applies;
          tables = ap (λ key. change_at at (λ m. put_in m key row) k.tables) (keyed def row d) ∙ ap (change_at at (λ m. put_in m (key_of def.primary_key row) row)) keeps.tables ∙ sym shows;
        }

    updates : (def : TableDef) (old row : Row) → slice_get s.schema t.0 ≡ Some def → StepsOn (Update t old row) s new tree k → KeepsShown new tree (is_among (replace_store at row k).keys) (replace_store at row k)
    updates def old row d step =
        let p = is_among k.keys in
        let both = step.chosen at e in
        let was : IsChosen s tree p at (key_of def.primary_key row) = subst (λ ps. IsChosen s tree p at (key_of ps row)) (primary s.schema t def d) both.0 in
        let now : IsChosen new tree p at (key_of def.primary_key row) = subst (λ ps. IsChosen new tree p at (key_of ps row)) (primary s.schema t def d) both.1 in
        let shows = shows_update s new tree t def old row at p (at_op (Update t old row) step.applies at def e d) (parents_first s.schema tree sound) was now in
        record {
          form = same_form (replace_store at row k) refl refl refl refl (Update t old row) step.applies;
          tables = ap (λ key. change_at at (λ m. put_over m key row) k.tables) (keyed def row d) ∙ ap (change_at at (λ m. put_over m (key_of def.primary_key row) row)) keeps.tables ∙ sym shows;
        }

    deletes : (def : TableDef) (old : Row) → slice_get s.schema t.0 ≡ Some def → StepsOn (Delete t old) s new tree k → KeepsShown new tree (is_among (take_store at old k).keys) (take_store at old k)
    deletes def old d step =
        let q = is_among (take_store at old k).keys in
        let was : IsChosen s tree (is_among k.keys) at (key_of def.primary_key old) = subst (λ ps. IsChosen s tree (is_among k.keys) at (key_of ps old)) (primary s.schema t def d) (step.chosen at e) in
        let shows = shows_delete s new tree t def old at (is_among k.keys) q (at_op (Delete t old) step.applies at def e d) (leaves_apart at t def old here d step.applies) was in
        record {
          form = same_form (take_store at old k) refl refl refl refl (Delete t old) step.applies;
          tables = ap (λ key. change_at at (λ m. remove m key) k.tables) (keyed def old d) ∙ ap (change_at at (λ m. remove m (key_of def.primary_key old))) keeps.tables ∙ sym shows;
        }

  abbrev Done : Kept → Type 0
  Done m = KeepsShown new tree (is_among m.keys) m

  not_there : (op : Op) → StepsOn op s new tree k → place_of tree (op_table op) ≡ None → Done k
  not_there op step none = record { form = form_new op step.applies; tables = keeps.tables ∙ sym (outside op step.applies none (is_among k.keys)) }

  pub one_step : (op : Op) → StepsOn op s new tree k → Done (op_done op k)
  one_step (Insert t row) step = by (place_of tree t) refl
    where
      by : (o : Option ℕ) → place_of tree t ≡ o → Done (op_done (Insert t row) k)
      by None e = subst Done (sym (ap (λ o. at_place o (λ place. put_store place row) k) (place_same s.schema tree k keeps.form t ∙ e))) (not_there (Insert t row) step e)
      by (Some at) e = let d = op_defined (Insert t row) s new step.applies in subst Done (sym (ap (λ o. at_place o (λ place. put_store place row) k) (placed at t e))) (inserts at t e d.0 row d.1 step)
  one_step (Update t old row) step = by (place_of tree t) refl
    where
      by : (o : Option ℕ) → place_of tree t ≡ o → Done (op_done (Update t old row) k)
      by None e = subst Done (sym (ap (λ o. at_place o (λ place. replace_store place row) k) (place_same s.schema tree k keeps.form t ∙ e))) (not_there (Update t old row) step e)
      by (Some at) e = let d = op_defined (Update t old row) s new step.applies in subst Done (sym (ap (λ o. at_place o (λ place. replace_store place row) k) (placed at t e))) (updates at t e d.0 old row d.1 step)
  one_step (Delete t old) step = by (place_of tree t) refl
    where
      by : (o : Option ℕ) → place_of tree t ≡ o → Done (op_done (Delete t old) k)
      by None e = subst Done (sym (ap (λ o. at_place o (λ place. take_store place old) k) (place_same s.schema tree k keeps.form t ∙ e))) (not_there (Delete t old) step e)
      by (Some at) e = let d = op_defined (Delete t old) s new step.applies in subst Done (sym (ap (λ o. at_place o (λ place. take_store place old) k) (placed at t e))) (deletes at t e d.0 old d.1 step)

-- one after another
pub keeps_pace : (s new : TableState) (tree : Tree) → KeepsPace s new tree
keeps_pace s new tree [] k is sound plain keeps run = subst (λ x. KeepsShown x tree (is_among k.keys) k) (sym run) keeps
keeps_pace s new tree (op ∷ ops) k is sound plain keeps run =
    let mid = run.0 in
    let step = run.1 in
    keeps_pace mid new tree ops (op_done op k) (op_sound op s mid step.applies is) (ap (λ defs. is_sound defs tree) (stays op s mid step.applies).schema ∙ sound) plain (one_step s mid tree k is sound plain keeps op step) run.2
