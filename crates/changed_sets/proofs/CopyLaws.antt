-- Copies are alike.
use Rattle.std.proofs.Common.{◌≡◌, ◌&&◌, Bool, not, cond, nat_lt, nat_le, is_some, position, ℕ, zero, suc, ◌+◌, ◌≤◌, Option, Some, None, List, [], ◌∷◌, ◌++◌, length, take, slice_get, refl, sym, ap, subst, ◌∙◌}
use Rattle.std.specs.List.{prefix_len}
use Rattle.std.specs.Option.{option_and_then, option_map}
use Rattle.std.specs.FinMap.{contains_key, get}
use Rattle.row_types.specs.declared.value.Value.{Value}
use Rattle.tier_base.specs.declared.number.TableId.{TableId}
use Rattle.table_defs.specs.declared.definition.TableDef.{TableDef}
use Rattle.instances.specs.Trees.{are_sound, is_parent, is_place, is_sound, is_sound_child, place_of, same_table, table_of}
use Rattle.instances.specs.declared.tree.Child.{Child}
use Rattle.instances.specs.declared.tree.Tree.{Tree}
use Rattle.indexed_rows.specs.Rows.{Table, key_of}
use Rattle.table_defs.specs.Declarations.{foreign_places}
use Rattle.instances.specs.Roots.{parent_key, root_of, root_within}
use Rattle.instances.specs.Views.{child_rows, instance_of, kept_at, only, refers_to_one, root_rows, rows_where, with_children}
use Rattle.table_state.specs.Tables.{TableState, table_at}
use Rattle.stored_tier.proofs.FillSteps.{take_one, take_past}
use Rattle.changed_sets.specs.Alike.{AreAlike, IsAlike, IsAlikeChild}

-- one child more
pub alike_more : (children copies : List Child) (c d : Child) → AreAlike children copies → IsAlikeChild c d → AreAlike (children ++ c ∷ []) (copies ++ d ∷ [])
alike_more [] [] c d are one = (one, tt)
alike_more [] (y ∷ copies) c d are one = absurd are
alike_more (x ∷ children) [] c d are one = absurd are
alike_more (x ∷ children) (y ∷ copies) c d are one = (are.0, alike_more children copies c d are.1 one)

pub alike_next : (children copies next : List Child) (i : ℕ) (c d : Child) → AreAlike (take i children) copies → slice_get children i ≡ Some c → next ≡ copies ++ d ∷ [] → IsAlikeChild c d → AreAlike (take (i + 1) children) next
alike_next children copies next i c d are at is one =
    subst (AreAlike (take (i + 1) children)) (sym is)
    (subst (λ l. AreAlike l (copies ++ d ∷ [])) (sym (take_one children i c at)) (alike_more (take i children) copies c d are one))

pub alike_all : (children copies : List Child) (i : ℕ) → length children ≤ i → AreAlike (take i children) copies → AreAlike children copies
alike_all children copies i le are = subst (λ l. AreAlike l copies) (take_past children i le) are

-- alike trees have the same instances

alike_rows : (s : TableState) (children copies : List Child) (kept : List Table) → AreAlike children copies → with_children s copies kept ≡ with_children s children kept
alike_rows s [] [] kept are = refl
alike_rows s [] (d ∷ copies) kept are = absurd are
alike_rows s (c ∷ children) [] kept are = absurd are
alike_rows s (c ∷ children) (d ∷ copies) kept are =
    alike_rows s children copies (kept ++ child_rows s (kept_at kept d.parent) d ∷ []) are.1
    ∙ ap (λ t. with_children s children (kept ++ t ∷ [])) (one are.0)
  where
    one : IsAlikeChild c d → child_rows s (kept_at kept d.parent) d ≡ child_rows s (kept_at kept c.parent) c
    one a = λ i. rows_where (λ row. a.filter i row && refers_to_one (kept_at kept (a.parent i)) (slice_get s.schema (a.table i).0) row) (table_at s (a.table i))

pub alike_instance : (s : TableState) (tree copy : Tree) (root : List Value) → IsAlike tree copy → instance_of s copy root ≡ instance_of s tree root
alike_instance s tree copy root a =
    alike_rows s tree.children copy.children (only root (root_rows s copy.root) ∷ []) a.children
    ∙ (λ i. with_children s tree.children (only root (rows_where (a.filter i) (table_at s (a.table i))) ∷ []))

-- alike trees are sound over the same definitions

alike_prefix : (p : TableId → Bool) (children copies : List Child) → AreAlike children copies → prefix_len (λ (c : Child). not (p c.table)) copies ≡ prefix_len (λ (c : Child). not (p c.table)) children
alike_prefix p [] [] are = refl
alike_prefix p [] (d ∷ copies) are = absurd are
alike_prefix p (c ∷ children) [] are = absurd are
alike_prefix p (c ∷ children) (d ∷ copies) are =
    let rest = alike_prefix p children copies are.1 in
    let table = are.0.table in
    λ i. cond (not (p (table i))) (1 + rest i) 0

alike_long : (children copies : List Child) → AreAlike children copies → length copies ≡ length children
alike_long [] [] are = refl
alike_long [] (d ∷ copies) are = absurd are
alike_long (c ∷ children) [] are = absurd are
alike_long (c ∷ children) (d ∷ copies) are = ap suc (alike_long children copies are.1)

alike_position : (t : TableId) (children copies : List Child) → AreAlike children copies → position (λ (c : Child). same_table c.table t) copies ≡ position (λ (c : Child). same_table c.table t) children
alike_position t children copies are =
    let first = alike_prefix (λ x. same_table x t) children copies are in
    let long = alike_long children copies are in
    λ i. cond (nat_lt (first i) (long i)) (Some (first i)) None

alike_place : (tree copy : Tree) (t : TableId) → IsAlike tree copy → place_of copy t ≡ place_of tree t
alike_place tree copy t a =
    let among = alike_position t tree.children copy.children a.children in
    let table = a.table in
    λ i. cond (same_table (table i) t) (Some 0) (option_map suc (among i))

alike_table : (tree copy : Tree) (place : ℕ) → IsAlike tree copy → table_of copy place ≡ table_of tree place
alike_table tree copy zero a = ap Some a.table
alike_table tree copy (suc place) a = among tree.children copy.children place a.children
  where
    among : (children copies : List Child) (n : ℕ) → AreAlike children copies → option_map (λ (c : Child). c.table) (slice_get copies n) ≡ option_map (λ (c : Child). c.table) (slice_get children n)
    among [] [] n are = refl
    among [] (d ∷ copies) n are = absurd are
    among (c ∷ children) [] n are = absurd are
    among (c ∷ children) (d ∷ copies) zero are = ap Some are.0.table
    among (c ∷ children) (d ∷ copies) (suc n) are = among children copies n are.1

alike_child : (schema : List TableDef) (tree copy : Tree) (n : ℕ) (c d : Child) → IsAlike tree copy → IsAlikeChild c d → is_sound_child schema copy n d ≡ is_sound_child schema tree n c
alike_child schema tree copy n c d a one =
    let parent = alike_table tree copy c.parent a in
    let place = alike_place tree copy c.table a in
    (λ i. is_place (suc n) (place_of copy (one.table i)) && nat_le (one.parent i) n && is_parent (table_of copy (one.parent i)) (option_and_then (λ (def : TableDef). def.foreign_key) (slice_get schema (one.table i).0)))
    ∙ (λ i. is_place (suc n) (place i) && nat_le c.parent n && is_parent (parent i) (option_and_then (λ (def : TableDef). def.foreign_key) (slice_get schema c.table.0)))

alike_children : (schema : List TableDef) (tree copy : Tree) (n : ℕ) (children copies : List Child) → IsAlike tree copy → AreAlike children copies → are_sound schema copy n copies ≡ are_sound schema tree n children
alike_children schema tree copy n [] [] a are = refl
alike_children schema tree copy n [] (d ∷ copies) a are = absurd are
alike_children schema tree copy n (c ∷ children) [] a are = absurd are
alike_children schema tree copy n (c ∷ children) (d ∷ copies) a are =
    let one = alike_child schema tree copy n c d a are.0 in
    let rest = alike_children schema tree copy (suc n) children copies a are.1 in
    λ i. one i && rest i

pub alike_sound : (schema : List TableDef) (tree copy : Tree) → IsAlike tree copy → is_sound schema copy ≡ is_sound schema tree
alike_sound schema tree copy a =
    let rest = alike_children schema tree copy 0 tree.children copy.children a a.children in
    let table = a.table in
    λ i. is_some (slice_get schema (table i).0) && rest i

-- they lead to the same roots

alike_within : (s : TableState) (tree copy : Tree) → IsAlike tree copy → (n place : ℕ) (key : List Value) → root_within n s copy place key ≡ root_within n s tree place key
alike_within s tree copy a n zero key = at_root n
  where
    at_root : (m : ℕ) → root_within m s copy zero key ≡ root_within m s tree zero key
    at_root zero = ap (λ (t : TableId). cond (contains_key (table_at s t) key) (Some key) None) a.table
    at_root (suc m) = ap (λ (t : TableId). cond (contains_key (table_at s t) key) (Some key) None) a.table
alike_within s tree copy a zero (suc place) key = refl
alike_within s tree copy a (suc n) (suc place) key = by tree.children copy.children place a.children (λ p q. alike_within s tree copy a n p q)
  where
    above : ((p : ℕ) (q : List Value) → root_within n s copy p q ≡ root_within n s tree p q) → (o : Option (List Value)) (parent : ℕ) → option_and_then (root_within n s copy parent) o ≡ option_and_then (root_within n s tree parent) o
    above rest None parent = refl
    above rest (Some q) parent = rest parent q

    by : (children copies : List Child) (i : ℕ) → AreAlike children copies → ((p : ℕ) (q : List Value) → root_within n s copy p q ≡ root_within n s tree p q)
        → option_and_then (λ (c : Child). option_and_then (root_within n s copy c.parent) (parent_key s c key)) (slice_get copies i)
        ≡ option_and_then (λ (c : Child). option_and_then (root_within n s tree c.parent) (parent_key s c key)) (slice_get children i)
    by [] [] i are rest = refl
    by [] (d ∷ copies) i are rest = absurd are
    by (c ∷ children) [] i are rest = absurd are
    by (c ∷ children) (d ∷ copies) zero are rest =
        (λ i. option_and_then (root_within n s copy (are.0.parent i)) (option_and_then (λ row. option_map (λ (def : TableDef). key_of (foreign_places def.foreign_key) row) (slice_get s.schema (are.0.table i).0)) (get (table_at s (are.0.table i)) key)))
        ∙ above rest (parent_key s c key) c.parent
    by (c ∷ children) (d ∷ copies) (suc i) are rest = by children copies i are.1 rest

pub alike_root : (s : TableState) (tree copy : Tree) → IsAlike tree copy → (t : TableId) (key : List Value) → root_of s copy t key ≡ root_of s tree t key
alike_root s tree copy a t key =
    ap (option_and_then (λ place. root_within (length copy.children) s copy place key)) (alike_place tree copy t a)
    ∙ ap (λ n. option_and_then (λ place. root_within n s copy place key) (place_of tree t)) (alike_long tree.children copy.children a.children)
    ∙ by (place_of tree t)
  where
    by : (o : Option ℕ) → option_and_then (λ place. root_within (length tree.children) s copy place key) o ≡ option_and_then (λ place. root_within (length tree.children) s tree place key) o
    by None = refl
    by (Some place) = alike_within s tree copy a (length tree.children) place key
