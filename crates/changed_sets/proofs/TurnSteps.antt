-- Turn by turn, whatever the room.
use Rattle.std.proofs.Common.{◌≡◌, ◌+◌, ℕ, suc, Bool, true, false, cond, Option, Some, None, List, [], ◌∷◌, slice_get, refl, sym, ap, subst, ◌∙◌}
use Rattle.std.specs.FinMap.{contains_key}
use Rattle.row_types.specs.declared.value.Value.{Value}
use Rattle.instances.specs.Views.{kept_at}
use Rattle.group_store.specs.Stores.{IsInstanceUnder, Kept, SameButSpare, cut_store, put_rows, put_store, put_tables, renewed_store}
use Rattle.stored_tier.proofs.PutLaws.{Form, form_tables}
use Rattle.changed_sets.specs.Turning.{AreUnder, FitTurns, FitsTurn, IsCutUnder, IsOneUnder, count_cuts, count_shown, count_turns, cut_all, cut_by, put_back, put_shown, turned}
use Rattle.changed_sets.specs.declared.turns.Cut.{Cut}
use Rattle.changed_sets.specs.declared.turns.Turn.{Turn}

pub same_both : (a b c : Kept) → SameButSpare a b → SameButSpare b c → SameButSpare a c
same_both a b c x y = record { table = y.table ∙ x.table; key = y.key ∙ x.key; foreign = y.foreign ∙ x.foreign; layers = y.layers ∙ x.layers; tables = y.tables ∙ x.tables; keys = y.keys ∙ x.keys }

pub same_itself : (a : Kept) → SameButSpare a a
same_itself a = record { table = refl; key = refl; foreign = refl; layers = refl; tables = refl; keys = refl }

pub whole : (a b : Kept) → SameButSpare a b → record a { spare = b.spare } ≡ b
whole a b same =
    let table = sym same.table in
    let key = sym same.key in
    let foreign = sym same.foreign in
    let layers = sym same.layers in
    let tables = sym same.tables in
    let keys = sym same.keys in
    λ i. record { table = table i; key = key i; foreign = foreign i; layers = layers i; tables = tables i; keys = keys i; spare = b.spare }

same_cut : (root : List Value) (a b : Kept) → SameButSpare a b → SameButSpare (cut_store 0 root a) (cut_store 0 root b)
same_cut root a b same = subst (λ x. SameButSpare (cut_store 0 root a) (cut_store 0 root x)) (whole a b same) (record { table = refl; key = refl; foreign = refl; layers = refl; tables = refl; keys = refl })

same_put : (place : ℕ) (row : List Value) (a b : Kept) → SameButSpare a b → SameButSpare (put_store place row a) (put_store place row b)
same_put place row a b same = subst (λ x. SameButSpare (put_store place row a) (put_store place row x)) (whole a b same) (record { table = refl; key = refl; foreign = refl; layers = refl; tables = refl; keys = refl })

same_rows : (place : ℕ) (rows : List (List Value)) (a b : Kept) → SameButSpare a b → SameButSpare (put_rows place rows a) (put_rows place rows b)
same_rows place [] a b same = same
same_rows place (row ∷ rows) a b same = same_rows place rows (put_store place row a) (put_store place row b) (same_put place row a b same)

same_tables : (place : ℕ) (tables : List (List (List Value))) (a b : Kept) → SameButSpare a b → SameButSpare (put_tables place tables a) (put_tables place tables b)
same_tables place [] a b same = same
same_tables place (rows ∷ tables) a b same = same_tables (suc place) tables (put_rows place rows a) (put_rows place rows b) (same_rows place rows a b same)

same_shown : (rows : Option (List (List (List Value)))) (a b : Kept) → SameButSpare a b → SameButSpare (put_shown rows a) (put_shown rows b)
same_shown None a b same = same
same_shown (Some rows) a b same = same_tables 0 rows a b same

same_renewed : (root : List Value) (rows : List (List (List Value))) (a : Kept) (n : ℕ) → SameButSpare (renewed_store root rows a) (renewed_store root rows (record a { spare = n }))
same_renewed root rows a n =
    let t = same_tables 0 rows (cut_store 0 root a) (cut_store 0 root (record a { spare = n })) (record { table = refl; key = refl; foreign = refl; layers = refl; tables = refl; keys = refl }) in
    record { table = t.table; key = t.key; foreign = t.foreign; layers = t.layers; tables = t.tables; keys = refl }

same_cut_by : (bare : Option (List (List (List Value)))) (root : List Value) (a b : Kept) → SameButSpare a b → SameButSpare (cut_by bare root a) (cut_by bare root b)
same_cut_by None root a b same = same_cut root a b same
same_cut_by (Some rows) root a b same = subst (λ x. SameButSpare (cut_by (Some rows) root a) (cut_by (Some rows) root x)) (whole a b same) (by (contains_key (kept_at a.tables 0) root))
  where
    by : (c : Bool) → SameButSpare (cond c (renewed_store root rows a) (cut_store 0 root a)) (cond c (renewed_store root rows (record a { spare = b.spare })) (cut_store 0 root (record a { spare = b.spare })))
    by true = same_renewed root rows a b.spare
    by false = record { table = refl; key = refl; foreign = refl; layers = refl; tables = refl; keys = refl }

same_cuts : (cuts : List Cut) (a b : Kept) → SameButSpare a b → SameButSpare (cut_all cuts a) (cut_all cuts b)
same_cuts [] a b same = same
same_cuts (c ∷ cuts) a b same = same_cuts cuts (cut_by c.bare c.root a) (cut_by c.bare c.root b) (same_cut_by c.bare c.root a b same)

same_back : (turns : List Turn) (a b : Kept) → SameButSpare a b → SameButSpare (put_back turns a) (put_back turns b)
same_back [] a b same = same
same_back (t ∷ turns) a b same = same_back turns (put_shown t.rows a) (put_shown t.rows b) (same_shown t.rows a b same)

-- ---- the tables and keys of the tree stay

same_form : (a : Kept) → Form a a
same_form a = record { table = refl; key = refl; foreign = refl; layers = refl }

both_forms : (a b c : Kept) → Form a b → Form b c → Form a c
both_forms a b c f g = record { table = g.table ∙ f.table; key = g.key ∙ f.key; foreign = g.foreign ∙ f.foreign; layers = g.layers ∙ f.layers }

pub one_form : (bare : Option (List (List (List Value)))) (root : List Value) (s : Kept) → Form s (cut_by bare root s)
one_form None root s = record { table = refl; key = refl; foreign = refl; layers = refl }
one_form (Some rows) root s = by (contains_key (kept_at s.tables 0) root)
  where
    by : (c : Bool) → Form s (cond c (renewed_store root rows s) (cut_store 0 root s))
    by true = let f = form_tables 0 rows (cut_store 0 root s) in record { table = f.table; key = f.key; foreign = f.foreign; layers = f.layers }
    by false = record { table = refl; key = refl; foreign = refl; layers = refl }

pub cut_form : (cuts : List Cut) (s : Kept) → Form s (cut_all cuts s)
cut_form [] s = same_form s
cut_form (c ∷ cuts) s = both_forms s (cut_by c.bare c.root s) (cut_all cuts (cut_by c.bare c.root s)) (one_form c.bare c.root s) (cut_form cuts (cut_by c.bare c.root s))

pub shown_form : (rows : Option (List (List (List Value)))) (s : Kept) → Form s (put_shown rows s)
shown_form None s = same_form s
shown_form (Some rows) s = form_tables 0 rows s

back_form : (turns : List Turn) (s : Kept) → Form s (put_back turns s)
back_form [] s = same_form s
back_form (t ∷ turns) s = both_forms s (put_shown t.rows s) (put_back turns (put_shown t.rows s)) (shown_form t.rows s) (back_form turns (put_shown t.rows s))

pub turned_form : (cuts : List Cut) (turns : List Turn) (s : Kept) → Form s (turned cuts turns s)
turned_form cuts turns s = both_forms s (cut_all cuts s) (turned cuts turns s) (cut_form cuts s) (back_form turns (cut_all cuts s))

-- ---- cut down, one after another

module _ (rest later : List Cut) (c : Cut) (is : rest ≡ c ∷ later) where
  pub cut_more : (start now next : Kept) → SameButSpare start (cut_all rest now) → SameButSpare (cut_by c.bare c.root now) next → SameButSpare start (cut_all later next)
  cut_more start now next before one = same_both start (cut_all later (cut_by c.bare c.root now)) (cut_all later next) (subst (λ l. SameButSpare start (cut_all l now)) is before) (same_cuts later (cut_by c.bare c.root now) next one)

  pub cut_count : count_cuts rest ≡ count_shown c.bare + count_cuts later
  cut_count = ap count_cuts is

  pub under_first : (columns : List ℕ) → AreUnder columns rest → IsCutUnder columns c
  under_first columns under = under 0 c (ap (λ l. slice_get l 0) is)

  pub under_later : (columns : List ℕ) → AreUnder columns rest → AreUnder columns later
  under_later columns under i x at = under (suc i) x (ap (λ l. slice_get l (suc i)) is ∙ at)

-- the rows are those of an instance, in one table
pub one_instance : (columns : List ℕ) (root : List Value) (bare : List (List (List Value))) → IsOneUnder columns root bare → IsInstanceUnder columns root bare
one_instance columns root bare one = record { row = one.row; first = ap (λ l. slice_get l 0) one.is; key = one.key }

-- ---- put back, one after another

module _ (rest later : List Turn) (t : Turn) (is : rest ≡ t ∷ later) where
  pub back_more : (start now next : Kept) → SameButSpare start (put_back rest now) → SameButSpare (put_shown t.rows now) next → SameButSpare start (put_back later next)
  back_more start now next before one = same_both start (put_back later (put_shown t.rows now)) (put_back later next) (subst (λ l. SameButSpare start (put_back l now)) is before) (same_back later (put_shown t.rows now) next one)

  pub back_count : count_turns rest ≡ count_shown t.rows + count_turns later
  back_count = ap count_turns is

  pub fits_first : (n : ℕ) → FitTurns n rest → FitsTurn n t
  fits_first n fits = fits 0 t (ap (λ l. slice_get l 0) is)

  pub fits_later : (n : ℕ) → FitTurns n rest → FitTurns n later
  fits_later n fits i x at = fits (suc i) x (ap (λ l. slice_get l (suc i)) is ∙ at)

-- both, one behind the other
pub turned_same : (cuts : List Cut) (turns : List Turn) (s mid now : Kept) → SameButSpare (cut_all cuts s) mid → SameButSpare (put_back turns mid) now → SameButSpare (turned cuts turns s) now
turned_same cuts turns s mid now cut back = same_both (turned cuts turns s) (put_back turns mid) now (same_back turns (cut_all cuts s) mid cut) back

pub shown_layers : (rows : Option (List (List (List Value)))) (a : Kept) → (put_shown rows a).layers ≡ a.layers
shown_layers rows a = (shown_form rows a).layers

pub same_turned : (cuts : List Cut) (turns : List Turn) (a b : Kept) → SameButSpare a b → SameButSpare (turned cuts turns a) (turned cuts turns b)
same_turned cuts turns a b same = same_back turns (cut_all cuts a) (cut_all cuts b) (same_cuts cuts a b same)
