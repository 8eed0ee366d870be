-- Tables of synchronous groups, and of asynchronous ones: what is on these doesn't meet what is on those.
use Rattle.std.proofs.Common.{◌≡◌, ℕ, Bool, true, false, cond, not, ◌&&◌, ◌||◌, nat_eq, List, [], ◌∷◌, ◌++◌, map, refl, sym, ap, ◌∙◌}
use Rattle.std.specs.List.{filter, list_all, list_any}
use Rattle.std.proofs.lemmas.List.Folds.{list_any-append}
use Rattle.tier_base.specs.declared.number.TableId.{TableId}
use Rattle.table_defs.specs.declared.definition.TableDef.{TableDef}
use Rattle.table_state.specs.declared.history.Entry.{Entry}
use Rattle.table_state.specs.declared.history.Sealed.{Sealed}
use Rattle.table_state.specs.declared.operation.Op.{Op}
use Rattle.table_state.specs.Copies.{is_one_of}
use Rattle.table_state.specs.Operations.{table_of}
use Rattle.order_laws.specs.Commits.{NoneConflicts, is_pending, pending}
use Rattle.order_laws.specs.Sides.{IsClosed, all_on, are_on as on_tables}
use Rattle.order_laws.specs.Standing.{GroupsAreOrdered, live_tables}
use Rattle.order_laws.proofs.AtOnceLaws.{sides_conflict_not}
use Rattle.order_laws.proofs.SideLaws.{OnSide}
use Rattle.order_laws.proofs.TruthLaws.{both_true, never_both}
use Rattle.cache_tier.specs.Commits.{live_group, tables_of}
use Rattle.cache_tier.specs.Groups.{Group, covers, is_asynchronous, is_synchronous, is_table_of, is_writethrough}
use Rattle.cache_tier.specs.StandingBetween.{HaveOwnTables}
use Rattle.cache_tier.proofs.GroupTables.{in_tree}
use Rattle.run_laws.specs.Lines.{are_later, are_on_kind}

-- a table is of one kind

and_false : (b : Bool) → (b && false) ≡ false
and_false true = refl
and_false false = refl

pub neither : (a b : Bool) → (a || b) ≡ false → (a ≡ false) × (b ≡ false)
neither true b e = cc
neither false b e = (refl, e)

pub none_of : (p : Group → Bool) (groups : List Group) (t : TableId) → list_any (covers t) groups ≡ false → is_table_of p groups t ≡ false
none_of p [] t none = refl
none_of p (g ∷ groups) t none =
    let both = neither (covers t g) (list_any (covers t) groups) none in
    let rest = none_of p groups t both.1 in
    (λ i. (p g && both.0 i) || rest i) ∙ ap (λ b. b || false) (and_false (p g))

pub one_kind : (groups : List Group) (t : TableId) → HaveOwnTables groups → is_table_of is_synchronous groups t ≡ true → is_table_of is_asynchronous groups t ≡ false
one_kind [] t own on = refl
one_kind (g ∷ groups) t own on = by (covers t g) refl (is_synchronous g) refl (one_kind groups t own.1)
  where
    by : (c : Bool) → covers t g ≡ c → (s : Bool) → is_synchronous g ≡ s → (is_table_of is_synchronous groups t ≡ true → is_table_of is_asynchronous groups t ≡ false) → is_table_of is_asynchronous (g ∷ groups) t ≡ false
    by true here true kind more =
        let rest = none_of is_asynchronous groups t (own.0 t here) in
        (λ i. ((is_writethrough g && not (kind i)) && here i) || rest i) ∙ ap (λ b. (b && true) || false) (and_false (is_writethrough g))
    by true here false kind more =
        let rest = none_of is_synchronous groups t (own.0 t here) in
        let no : is_table_of is_synchronous (g ∷ groups) t ≡ false = λ i. (kind i && here i) || rest i in
        absurd (never_both (is_table_of is_synchronous (g ∷ groups) t) on no)
    by false here s kind more =
        let off : (is_synchronous g && covers t g) ≡ false = ap (λ b. is_synchronous g && b) here ∙ and_false (is_synchronous g) in
        let there : is_table_of is_synchronous groups t ≡ true = sym (ap (λ b. b || is_table_of is_synchronous groups t) off) ∙ on in
        let rest = more there in
        (λ i. (is_asynchronous g && here i) || rest i) ∙ ap (λ b. b || false) (and_false (is_asynchronous g))

-- the tables of the groups of a kind

abbrev pub kind_tables : (Group → Bool) → List Group → List TableId
kind_tables p groups = live_tables (map live_group (filter p groups))

kind_table : (p : Group → Bool) (groups : List Group) (t : TableId) → is_one_of (kind_tables p groups) t ≡ is_table_of p groups t
kind_table p [] t = refl
kind_table p (g ∷ groups) t = by (p g) (kind_table p groups t)
  where
    by : (b : Bool) → is_one_of (kind_tables p groups) t ≡ is_table_of p groups t → is_one_of (live_tables (map live_group (cond b (g ∷ filter p groups) (filter p groups)))) t ≡ ((b && covers t g) || is_table_of p groups t)
    by true rest =
        list_any-append (λ (one : TableId). nat_eq one.0 t.0) (tables_of g.def.tree) (kind_tables p groups)
        ∙ (λ i. in_tree g.def.tree t i || rest i)
    by false rest = rest

on_kind : (p : Group → Bool) (groups : List Group) (ops : List Op) → on_tables (kind_tables p groups) ops ≡ are_on_kind p groups ops
on_kind p groups [] = refl
on_kind p groups (op ∷ ops) = let here = kind_table p groups (table_of op) in let rest = on_kind p groups ops in λ i. here i && rest i

all_on_kind : (p : Group → Bool) (groups : List Group) (us : List Sealed) → all_on (kind_tables p groups) us ≡ list_all (λ x. are_on_kind p groups x.ops) us
all_on_kind p groups [] = refl
all_on_kind p groups (u ∷ us) = let here = on_kind p groups u.ops in let rest = all_on_kind p groups us in λ i. here i && rest i

closed_both : (a b : List TableId) (schema : List TableDef) → IsClosed a schema → IsClosed b schema → IsClosed (a ++ b) schema
closed_both a b schema one other t def foreign at key =
    let first = one t def foreign at key in
    let second = other t def foreign at key in
    list_any-append (λ (x : TableId). nat_eq x.0 foreign.parent.0) a b ∙ (λ i. first i || second i) ∙ sym (list_any-append (λ (x : TableId). nat_eq x.0 t.0) a b)

closed_kind : (groups : List Group) (h : List Entry) (log : List Sealed) (schema : List TableDef) (next : ℕ) → GroupsAreOrdered (map live_group (filter is_writethrough groups)) h log schema next → IsClosed (kind_tables is_asynchronous groups) schema
closed_kind [] h log schema next ordered = λ t def foreign at key. refl
closed_kind (g ∷ groups) h log schema next ordered = by (is_writethrough g) (is_synchronous g) ordered (closed_kind groups h log schema next)
  where
    by : (a s : Bool) → GroupsAreOrdered (map live_group (cond a (g ∷ filter is_writethrough groups) (filter is_writethrough groups))) h log schema next
        → (GroupsAreOrdered (map live_group (filter is_writethrough groups)) h log schema next → IsClosed (kind_tables is_asynchronous groups) schema)
        → IsClosed (live_tables (map live_group (cond (a && not s) (g ∷ filter is_asynchronous groups) (filter is_asynchronous groups)))) schema
    by true true are rest = rest are.1
    by true false are rest = closed_both (tables_of g.def.tree) (kind_tables is_asynchronous groups) schema are.0.closed (rest are.1)
    by false s are rest = rest are

off_side : (groups : List Group) (ops : List Op) → HaveOwnTables groups → are_on_kind is_synchronous groups ops ≡ true → OnSide (kind_tables is_asynchronous groups) false ops
off_side groups [] own on = tt
off_side groups (op ∷ ops) own on =
    let both = both_true (is_table_of is_synchronous groups (table_of op)) (are_on_kind is_synchronous groups ops) on in (
      kind_table is_asynchronous groups (table_of op) ∙ one_kind groups (table_of op) own both.0,
      off_side groups ops own both.1,
    )

all_left : {X : Type 0} (p q : X → Bool) (xs : List X) → list_all p xs ≡ true → list_all p (filter q xs) ≡ true
all_left p q [] all = refl
all_left {X = X} p q (x ∷ xs) all =
    let both = both_true (p x) (list_all p xs) all in
    by (q x) both.0 (all_left p q xs both.1)
  where
    by : (b : Bool) → p x ≡ true → list_all p (filter q xs) ≡ true → list_all p (cond b (x ∷ filter q xs) (filter q xs)) ≡ true
    by true first rest = λ i. first i && rest i
    by false first rest = rest

-- what is pending of such as are unsettled doesn't conflict with operations on tables of synchronous groups
pub none_conflicts : (groups : List Group) (h : List Entry) (log us : List Sealed) (schema : List TableDef) (next : ℕ) (x : Sealed) → HaveOwnTables groups → GroupsAreOrdered (map live_group (filter is_writethrough groups)) h log schema next
    → are_later groups us ≡ true → are_on_kind is_synchronous groups x.ops ≡ true → NoneConflicts schema (pending h us) x
none_conflicts groups h log us schema next x own ordered later on =
    sides_conflict_not (kind_tables is_asynchronous groups) schema (closed_kind groups h log schema next ordered) (pending h us) x
    (all_left (λ (u : Sealed). on_tables (kind_tables is_asynchronous groups) u.ops) (is_pending h) us (all_on_kind is_asynchronous groups us ∙ later))
    (off_side groups x.ops own on)
