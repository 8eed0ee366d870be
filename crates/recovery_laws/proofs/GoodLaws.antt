-- Along the entries what is pending is on live groups' tables, and none of it is below the group's first ticket.
use Rattle.std.proofs.Common.{◌≡◌, ◌⊎◌, inl, inr, ℕ, ◌+◌, ◌≤◌, List, [], ◌∷◌, ◌++◌, Bool, true, false, ◌||◌, ◌&&◌, not, cond, nat_eq, Option, Some, None, refl, sym, ◌∙◌, ap, subst, arith, append_assoc, append-nil, eqb-true}
use Rattle.std.specs.List.{list_any}
use Rattle.std.proofs.lemmas.List.Elements.{filter-append}
use Rattle.std.proofs.lemmas.List.Folds.{list_all-append, list_any-append}
use Rattle.order_laws.specs.tier_base.specs.declared.number.TableId.{TableId}
use Rattle.order_laws.specs.table_defs.specs.Names.{same_name}
use Rattle.order_laws.specs.table_state.specs.declared.history.Entry.{Entry}
use Rattle.order_laws.specs.table_state.specs.declared.history.Sealed.{Sealed}
use Rattle.order_laws.specs.table_state.specs.declared.operation.Op.{Op}
use Rattle.order_laws.specs.table_state.specs.Copies.{is_one_of}
use Rattle.order_laws.specs.table_state.specs.Histories.{has_ticket}
use Rattle.order_laws.specs.table_state.specs.Operations.{table_of}
use Rattle.order_laws.specs.Commits.{LiveGroup, NoneBelow, is_op_on, is_pending, pending}
use Rattle.order_laws.specs.Sides.{all_on, are_off, are_on}
use Rattle.order_laws.specs.Standing.{PendingIsLive, all_off, live_tables}
use Rattle.order_laws.proofs.TruthLaws.{both_true}
use Rattle.recovery_laws.specs.Notes.{Catalog, Commit, Define, Drop, FitAll, Fits, Flag, Mark, Named, Note, Number, Prepare, are_apart, found, if_stands, live_groups, log_in, only_found, recall, recall_all, told, with_flag, without}
use Rattle.recovery_laws.proofs.FoldLaws.{found_there}

-- tests on lists of tables

differ : {P : Type 0} (b : Bool) → b ≡ true → b ≡ false → P
differ b x y = cc

-- what is on the one tables and not on the second is on the third
abbrev Turns : List TableId → List TableId → List TableId → Type 0
Turns a g b = (op : Op) → is_op_on a op ≡ true → is_op_on g op ≡ false → is_op_on b op ≡ true

ops_turn : (a g b : List TableId) (ops : List Op) → Turns a g b → are_on a ops ≡ true → are_off g ops ≡ true → are_on b ops ≡ true
ops_turn a g b [] turns on off = refl
ops_turn a g b (op ∷ ops) turns on off =
    let (first, rest) = both_true (is_op_on a op) (are_on a ops) on in
    let (none, others) = both_true (not (is_op_on g op)) (are_off g ops) off in
    let here : is_op_on b op ≡ true = turns op first (not_so (is_op_on g op) none) in
    λ i. here i && ops_turn a g b ops turns rest others i
  where
    not_so : (c : Bool) → not c ≡ true → c ≡ false
    not_so true e = cc
    not_so false e = refl

all_turn : (a g b : List TableId) (xs : List Sealed) → Turns a g b → all_on a xs ≡ true → all_off g xs ≡ true → all_on b xs ≡ true
all_turn a g b [] turns on off = refl
all_turn a g b (x ∷ xs) turns on off =
    let (first, rest) = both_true (are_on a x.ops) (all_on a xs) on in
    let (none, others) = both_true (are_off g x.ops) (all_off g xs) off in
    λ i. ops_turn a g b x.ops turns first none i && all_turn a g b xs turns rest others i

none_off : (xs : List Sealed) → all_off [] xs ≡ true
none_off [] = refl
none_off (x ∷ xs) = λ i. ops x.ops i && none_off xs i
  where
    ops : (o : List Op) → are_off [] o ≡ true
    ops [] = refl
    ops (op ∷ o) = ops o

or_true : (b : Bool) → (b || true) ≡ true
or_true true = refl
or_true false = refl

-- more tables
more_on : (a b : List TableId) (xs : List Sealed) → all_on b xs ≡ true → all_on (a ++ b) xs ≡ true
more_on a b xs on = all_turn b [] (a ++ b) xs (λ op e f. list_any-append (λ (one : TableId). nat_eq one.0 (table_of op).0) a b ∙ ap (λ c. is_op_on a op || c) e ∙ or_true (is_op_on a op)) on (none_off xs)

-- without the tables of one group
without_on : (a g b : List TableId) (xs : List Sealed) → all_on (a ++ (g ++ b)) xs ≡ true → all_off g xs ≡ true → all_on (a ++ b) xs ≡ true
without_on a g b xs on off = all_turn (a ++ (g ++ b)) g (a ++ b) xs turns on off
  where
    out : (x y z : Bool) → y ≡ false → (x || (y || z)) ≡ true → (x || z) ≡ true
    out true y z e f = refl
    out false true z e f = cc
    out false false z e f = f

    turns : Turns (a ++ (g ++ b)) g (a ++ b)
    turns op e f =
        let test = λ (one : TableId). nat_eq one.0 (table_of op).0 in
        list_any-append test a b ∙ out (is_op_on a op) (is_op_on g op) (is_op_on b op) f (ap (λ c. is_op_on a op || c) (sym (list_any-append test g b)) ∙ sym (list_any-append test a (g ++ b)) ∙ e)

-- what is on the one tables is on none of a list apart
apart_one : (a g : List TableId) (t : TableId) → is_one_of a t ≡ true → are_apart a g ≡ true → is_one_of g t ≡ false
apart_one [] g t on apart = cc
apart_one (u ∷ a) g t on apart =
    let (mine, rest) = both_true (not (is_one_of g u)) (are_apart a g) apart in
    by (nat_eq u.0 t.0) refl on mine (λ e. apart_one a g t e rest)
  where
    not_so : (c : Bool) → not c ≡ true → c ≡ false
    not_so true e = cc
    not_so false e = refl

    by : (b : Bool) → nat_eq u.0 t.0 ≡ b → (b || is_one_of a t) ≡ true → not (is_one_of g u) ≡ true → (is_one_of a t ≡ true → is_one_of g t ≡ false) → is_one_of g t ≡ false
    by true e o mine more = let x : u.0 ≡ t.0 = eqb-true u.0 t.0 e in ap (λ (n : ℕ). is_one_of g (record { 0 = n })) (sym x) ∙ not_so (is_one_of g u) mine
    by false e o mine more = more o

apart_ops : (a g : List TableId) (ops : List Op) → are_on a ops ≡ true → are_apart a g ≡ true → list_any (is_op_on g) ops ≡ false
apart_ops a g [] on apart = refl
apart_ops a g (op ∷ ops) on apart =
    let (first, rest) = both_true (is_op_on a op) (are_on a ops) on in
    let none : is_op_on g op ≡ false = apart_one a g (table_of op) first apart in
    λ i. none i || apart_ops a g ops rest apart i

none_below_apart : (a g : List TableId) (first : ℕ) (h : List Entry) (log : List Sealed) → all_on a (pending h log) ≡ true → are_apart a g ≡ true → NoneBelow (record { tables = g; first = first }) h log
none_below_apart a g first h [] on apart = tt
none_below_apart a g first h (s ∷ log) on apart = by (is_pending h s) on (λ e. none_below_apart a g first h log e apart)
  where
    by : (b : Bool) → all_on a (cond b (s ∷ pending h log) (pending h log)) ≡ true → (all_on a (pending h log) ≡ true → NoneBelow (record { tables = g; first = first }) h log) → (b ≡ true → list_any (is_op_on g) s.ops ≡ true → first ≤ s.ticket.0) × NoneBelow (record { tables = g; first = first }) h log
    by true e more =
        let (mine, rest) = both_true (are_on a s.ops) (all_on a (pending h log)) e in
        (λ p some. differ (list_any (is_op_on g) s.ops) some (apart_ops a g s.ops mine apart), more rest)
    by false e more = (λ p some. differ true refl (sym p), more e)

-- one transaction more

below_push : (g : LiveGroup) (h : List Entry) (log : List Sealed) (s : Sealed) → NoneBelow g h log → g.first ≤ s.ticket.0 → NoneBelow g h (log ++ s ∷ [])
below_push g h [] s none le = (λ p some. le, tt)
below_push g h (x ∷ log) s none le = (none.0, below_push g h log s none.1 le)

pub live_push : (tables : List TableId) (h : List Entry) (log : List Sealed) (s : Sealed) → all_on tables (pending h log) ≡ true → (has_ticket s.ticket.0 h ≡ true) ⊎ (are_on tables s.ops ≡ true) → all_on tables (pending h (log ++ s ∷ [])) ≡ true
live_push tables h log s live on =
    ap (all_on tables) (filter-append (is_pending h) log (s ∷ []))
    ∙ list_all-append (λ (x : Sealed). are_on tables x.ops) (pending h log) (pending h (s ∷ []))
    ∙ (λ i. live i && by (has_ticket s.ticket.0 h) on i)
  where
    by : (b : Bool) → (b ≡ true) ⊎ (are_on tables s.ops ≡ true) → all_on tables (cond (not b) (s ∷ []) []) ≡ true
    by true o = refl
    by false (inl e) = cc
    by false (inr e) = λ i. e i && true

-- the groups

abbrev pub AllBelow : List LiveGroup → List Entry → List Sealed → ℕ → Type 0
AllBelow [] h log next = Unit {0}
AllBelow (g ∷ groups) h log next = (g.first ≤ next) × NoneBelow g h log × AllBelow groups h log next

all_push : (groups : List LiveGroup) (h : List Entry) (log : List Sealed) (s : Sealed) (next later : ℕ) → next ≤ s.ticket.0 → next ≤ later → AllBelow groups h log next → AllBelow groups h (log ++ s ∷ []) later
all_push [] h log s next later le more all = tt
all_push (g ∷ groups) h log s next later le more all =
    let first : g.first ≤ next = all.0 in
    (omega (arith, more), below_push g h log s all.1 (omega (arith, le)), all_push groups h log s next later le more all.2)

all_later : (groups : List LiveGroup) (h : List Entry) (log : List Sealed) (next later : ℕ) → next ≤ later → AllBelow groups h log next → AllBelow groups h log later
all_later [] h log next later more all = tt
all_later (g ∷ groups) h log next later more all = let first : g.first ≤ next = all.0 in (omega (arith, more), all.1, all_later groups h log next later more all.2)

pub groups_append : (a b : List Named) → live_groups (a ++ b) ≡ live_groups a ++ live_groups b
groups_append [] b = refl
groups_append (g ∷ a) b = ap (λ l. g.group ∷ l) (groups_append a b)

tables_append : (a b : List LiveGroup) → live_tables (a ++ b) ≡ live_tables a ++ live_tables b
tables_append [] b = refl
tables_append (g ∷ a) b = ap (λ l. g.tables ++ l) (tables_append a b) ∙ sym (append_assoc g.tables (live_tables a) (live_tables b))

all_without : (a : List LiveGroup) (g : LiveGroup) (b : List LiveGroup) (h : List Entry) (log : List Sealed) (next : ℕ) → AllBelow (a ++ g ∷ b) h log next → AllBelow (a ++ b) h log next
all_without [] g b h log next all = all.2
all_without (x ∷ a) g b h log next all = (all.0, all.1, all_without a g b h log next all.2)

pub flags_keep : (name : List ℕ) (flag : ℕ) (groups : List Named) → live_groups (with_flag name flag groups) ≡ live_groups groups
flags_keep name flag [] = refl
flags_keep name flag (g ∷ groups) = by (same_name g.name name) (flags_keep name flag groups)
  where
    by : (b : Bool) → live_groups (with_flag name flag groups) ≡ live_groups groups → live_groups ((cond b (record g { flag = flag }) g) ∷ with_flag name flag groups) ≡ g.group ∷ live_groups groups
    by true more = ap (λ l. g.group ∷ l) more
    by false more = ap (λ l. g.group ∷ l) more

-- what holds along the entries
pub record Good (h : List Entry) (c : Catalog) (log : List Sealed) : Type 0 where
  pub live : PendingIsLive (live_groups c.groups) h log
  pub below : AllBelow (live_groups c.groups) h log c.next

pushed : (h : List Entry) (c : Catalog) (log : List Sealed) (s : Sealed) (top : ℕ) → Good h c log → c.next ≤ s.ticket.0 → c.next ≤ top → (has_ticket s.ticket.0 h ≡ true) ⊎ (are_on (live_tables (live_groups c.groups)) s.ops ≡ true)
    → Good h (record { groups = c.groups; next = top }) (log ++ s ∷ [])
pushed h c log s top good le more on = record { live = live_push (live_tables (live_groups c.groups)) h log s good.live on; below = all_push (live_groups c.groups) h log s c.next top le more good.below }

passed : (h : List Entry) (c : Catalog) (log : List Sealed) (top : ℕ) → Good h c log → c.next ≤ top → Good h (record { groups = c.groups; next = top }) (log ++ [])
passed h c log top good more = subst (λ (l : List Sealed). Good h (record { groups = c.groups; next = top }) l) (sym (append-nil log)) (record { live = good.live; below = all_later (live_groups c.groups) h log c.next top more good.below })

pub good_step : (h : List Entry) (c : Catalog) (log : List Sealed) (n : Note) → Good h c log → Fits h c log n → Good h (recall n c) (log ++ told h n)
good_step h c log (Commit s) good fits = pushed h c log s (s.ticket.0 + 1) good fits.0 (let a : c.next ≤ s.ticket.0 = fits.0 in omega arith) (inr fits.1)
good_step h c log (Prepare s) good fits = by (has_ticket s.ticket.0 h) refl
  where
    more : c.next ≤ s.ticket.0 + 1
    more = let a : c.next ≤ s.ticket.0 = fits.0 in omega arith

    by : (b : Bool) → has_ticket s.ticket.0 h ≡ b → Good h (recall (Prepare s) c) (log ++ if_stands b s)
    by true e = pushed h c log s (s.ticket.0 + 1) good fits.0 more (inl e)
    by false e = passed h c log (s.ticket.0 + 1) good more
good_step h c log (Number t) good fits = by (found t h) refl
  where
    more : c.next ≤ t + 1
    more = omega (arith, fits)

    by : (o : Option Sealed) → found t h ≡ o → Good h (recall (Number t) c) (log ++ only_found o)
    by None e = passed h c log (t + 1) good more
    by (Some x) e = let r = found_there t h x e in pushed h c log x (t + 1) good (subst (λ (n : ℕ). c.next ≤ n) (sym r.0) fits) more (inl (ap (λ n. has_ticket n h) r.0 ∙ r.1))
good_step h c log (Mark n) good fits = passed h c log c.next good (omega arith)
good_step h c log (Define name tables) good fits = subst (λ (l : List Sealed). Good h (recall (Define name tables) c) l) (sym (append-nil log)) (record {
  live = more_on tables (live_tables (live_groups c.groups)) (pending h log) good.live;
  below = (omega arith, none_below_apart (live_tables (live_groups c.groups)) tables c.next h log good.live fits, good.below);
})
good_step h c log (Drop name) good fits =
    let g = fits.0 in
    let was : live_groups c.groups ≡ live_groups g.before ++ g.one.group ∷ live_groups g.behind = ap live_groups g.is ∙ groups_append g.before (g.one ∷ g.behind) in
    let now : live_groups (without name c.groups) ≡ live_groups g.before ++ live_groups g.behind = ap live_groups g.left ∙ groups_append g.before g.behind in
    let all : all_on (live_tables (live_groups g.before) ++ (g.one.group.tables ++ live_tables (live_groups g.behind))) (pending h log) ≡ true =
    ap (λ t. all_on t (pending h log)) (sym (ap live_tables was ∙ tables_append (live_groups g.before) (g.one.group ∷ live_groups g.behind))) ∙ good.live
    in
    let rest : all_on (live_tables (live_groups g.before ++ live_groups g.behind)) (pending h log) ≡ true =
    ap (λ t. all_on t (pending h log)) (tables_append (live_groups g.before) (live_groups g.behind)) ∙ without_on (live_tables (live_groups g.before)) g.one.group.tables (live_tables (live_groups g.behind)) (pending h log) all fits.1
    in
    subst (λ (l : List Sealed). Good h (recall (Drop name) c) l) (sym (append-nil log)) (record {
      live = subst (λ (gs : List LiveGroup). PendingIsLive gs h log) (sym now) rest;
      below = subst (λ (gs : List LiveGroup). AllBelow gs h log c.next) (sym now) (all_without (live_groups g.before) g.one.group (live_groups g.behind) h log c.next (subst (λ (gs : List LiveGroup). AllBelow gs h log c.next) was good.below));
    })
good_step h c log (Flag name flag) good fits = subst (λ (l : List Sealed). Good h (recall (Flag name flag) c) l) (sym (append-nil log)) (record {
  live = subst (λ (gs : List LiveGroup). PendingIsLive gs h log) (sym (flags_keep name flag c.groups)) good.live;
  below = subst (λ (gs : List LiveGroup). AllBelow gs h log c.next) (sym (flags_keep name flag c.groups)) good.below;
})

pub good_all : (h : List Entry) (c : Catalog) (log : List Sealed) (notes : List Note) → Good h c log → FitAll h c log notes → Good h (recall_all notes c) (log ++ log_in h notes)
good_all h c log [] good fits = subst (λ (l : List Sealed). Good h c l) (sym (append-nil log)) good
good_all h c log (n ∷ notes) good fits = subst (λ (l : List Sealed). Good h (recall_all notes (recall n c)) l) (append_assoc log (told h n) (log_in h notes)) (good_all h (recall n c) (log ++ told h n) notes (good_step h c log n good fits.0) fits.1)
