-- What a cache group shows of a state: the instances of the roots that pass a test. (TimesTen Cache User's Guide,
-- "Cache instances": loading, unloading and aging act on whole instances.)
use Rattle.std.specs.Prelude.{◌≡◌, ℕ, List, [], ◌∷◌, Option, Some, None, Bool, false, ◌&&◌, ◌||◌, not, if◌then◌else◌}
use Rattle.std.specs.List.{list_any}
use Rattle.std.specs.FinMap.{contains_key, entries, get, retain_keys}
use Rattle.instances.specs.row_types.specs.declared.value.Value.{Value}
use Rattle.instances.specs.indexed_rows.specs.Rows.{Table, is_same, put_in}
use Rattle.instances.specs.table_state.specs.Tables.{TableState}
use Rattle.instances.specs.declared.tree.Tree.{Tree}
use Rattle.instances.specs.Roots.{root_at}
use Rattle.instances.specs.Views.{instance_of, kept_at, root_rows, view_of, with_children}

-- the instances of the view of a state whose root key passes a test: for each table of the tree its rows by primary key
abbrev pub shown_of : TableState → Tree → (List Value → Bool) → List Table
shown_of s tree p = with_children s tree.children (retain_keys (root_rows s tree.root) p ∷ [])

-- the key is one of these
abbrev pub is_among : List (List Value) → List Value → Bool
is_among keys key = list_any (is_same key) keys

-- a root was found, and it passes
abbrev pub has_root : (List Value → Bool) → Option (List Value) → Bool
has_root p None = false
has_root p (Some root) = p root

-- what is shown is what the view has, of the roots that pass
abbrev pub GetsChosen : TableState → Tree → Type 0
GetsChosen s tree =
    (p : List Value → Bool) (place : ℕ) (key : List Value) →
    get (kept_at (shown_of s tree p) place) key
    ≡ (if has_root p (root_at s tree place key) then get (kept_at (view_of s tree) place) key else None)

-- rows and other rows, where their keys have none yet
abbrev pub with_rows : Table → List (List Value × List Value) → Table
with_rows table [] = table
with_rows table (e ∷ es) = with_rows (put_in table e.0 e.1) es

-- table by table, the rows of the first and those of the second
abbrev pub tables_with : List Table → List Table → List Table
tables_with [] bs = bs
tables_with (a ∷ rest) [] = a ∷ rest
tables_with (a ∷ rest) (b ∷ bs) = with_rows a (entries b) ∷ tables_with rest bs

-- table by table, the rows of the first whose keys the second doesn't have
abbrev pub tables_without : List Table → List Table → List Table
tables_without [] bs = []
tables_without (a ∷ rest) [] = a ∷ rest
tables_without (a ∷ rest) (b ∷ bs) = retain_keys a (λ key. not (contains_key b key)) ∷ tables_without rest bs

-- the instance of a root beside what is shown gives what is shown of one root more
abbrev pub ShowsOneMore : TableState → Tree → Type 0
ShowsOneMore s tree =
    (p : List Value → Bool) (root : List Value) →
    tables_with (shown_of s tree p) (instance_of s tree root) ≡ shown_of s tree (λ k. p k || is_same k root)

-- without the instance of a root there is what is shown of one root less
abbrev pub ShowsOneLess : TableState → Tree → Type 0
ShowsOneLess s tree =
    (p : List Value → Bool) (root : List Value) →
    tables_without (shown_of s tree p) (instance_of s tree root) ≡ shown_of s tree (λ k. p k && not (is_same k root))
