-- Tables of synchronous groups, and of asynchronous ones: what is on these doesn't meet what is on those.
use Rattle.std.proofs.Common.{◌≡◌, ℕ, Bool, true, false, cond, not, ◌&&◌, ◌||◌, nat_eq, List, [], ◌∷◌, ◌++◌, map, refl, sym, ap, ◌∙◌, eqb-true}
use Rattle.std.specs.List.{filter, list_all, list_any}
use Rattle.std.proofs.lemmas.List.Folds.{list_any-append}
use Rattle.tier_base.specs.declared.number.TableId.{TableId}
use Rattle.table_defs.specs.declared.definition.TableDef.{TableDef}
use Rattle.table_state.specs.declared.history.Entry.{Entry}
use Rattle.table_state.specs.declared.history.Sealed.{Sealed}
use Rattle.table_state.specs.declared.operation.Op.{Op}
use Rattle.table_state.specs.Copies.{is_one_of}
use Rattle.table_state.specs.Operations.{table_of}
use Rattle.order_laws.specs.Commits.{NoneConflicts, is_pending, pending}
use Rattle.order_laws.specs.Sides.{IsClosed, all_on, are_on as on_tables}
use Rattle.order_laws.specs.Standing.{GroupsAreOrdered, live_tables}
use Rattle.order_laws.proofs.AtOnceLaws.{sides_conflict_not}
use Rattle.order_laws.proofs.SideLaws.{OnSide}
use Rattle.order_laws.proofs.TruthLaws.{both_true, never_both, untrue}
use Rattle.cache_tier.specs.Commits.{live_group, tables_of}
use Rattle.cache_tier.specs.Groups.{Group, covers, is_asynchronous, is_synchronous, is_table_of, is_writethrough}
use Rattle.cache_tier.specs.StandingBetween.{HaveOwnTables}
use Rattle.cache_tier.proofs.GroupTables.{in_tree}
use Rattle.stored_tier.specs.Performing.{is_written, meets}
use Rattle.stored_tier.specs.Stored.{are_later, are_on, without_list}
use Rattle.stored_tier.proofs.LaterLaws.{all_same, all_weaker, later_last}
use Rattle.session_engine.specs.Committing.{are_deferred, is_deferred}

-- a table is of one kind

and_false : (b : Bool) → (b && false) ≡ false
and_false true = refl
and_false false = refl

neither : (a b : Bool) → (a || b) ≡ false → (a ≡ false) × (b ≡ false)
neither true b e = cc
neither false b e = (refl, e)

none_of : (p : Group → Bool) (groups : List Group) (t : TableId) → list_any (covers t) groups ≡ false → is_table_of p groups t ≡ false
none_of p [] t none = refl
none_of p (g ∷ groups) t none =
    let both = neither (covers t g) (list_any (covers t) groups) none in
    let rest = none_of p groups t both.1 in
    (λ i. (p g && both.0 i) || rest i) ∙ ap (λ b. b || false) (and_false (p g))

pub one_kind : (groups : List Group) (t : TableId) → HaveOwnTables groups → is_table_of is_synchronous groups t ≡ true → is_table_of is_asynchronous groups t ≡ false
one_kind [] t own on = refl
one_kind (g ∷ groups) t own on = by (covers t g) refl (is_synchronous g) refl (one_kind groups t own.1)
  where
    by : (c : Bool) → covers t g ≡ c → (s : Bool) → is_synchronous g ≡ s → (is_table_of is_synchronous groups t ≡ true → is_table_of is_asynchronous groups t ≡ false) → is_table_of is_asynchronous (g ∷ groups) t ≡ false
    by true here true kind more =
        let rest = none_of is_asynchronous groups t (own.0 t here) in
        (λ i. ((is_writethrough g && not (kind i)) && here i) || rest i) ∙ ap (λ b. (b && true) || false) (and_false (is_writethrough g))
    by true here false kind more =
        let rest = none_of is_synchronous groups t (own.0 t here) in
        let no : is_table_of is_synchronous (g ∷ groups) t ≡ false = λ i. (kind i && here i) || rest i in
        absurd (never_both (is_table_of is_synchronous (g ∷ groups) t) on no)
    by false here s kind more =
        let off : (is_synchronous g && covers t g) ≡ false = ap (λ b. is_synchronous g && b) here ∙ and_false (is_synchronous g) in
        let there : is_table_of is_synchronous groups t ≡ true = sym (ap (λ b. b || is_table_of is_synchronous groups t) off) ∙ on in
        let rest = more there in
        (λ i. (is_asynchronous g && here i) || rest i) ∙ ap (λ b. b || false) (and_false (is_asynchronous g))

-- the tables of the groups of a kind

abbrev pub kind_tables : (Group → Bool) → List Group → List TableId
kind_tables p groups = live_tables (map live_group (filter p groups))

kind_table : (p : Group → Bool) (groups : List Group) (t : TableId) → is_one_of (kind_tables p groups) t ≡ is_table_of p groups t
kind_table p [] t = refl
kind_table p (g ∷ groups) t = by (p g) (kind_table p groups t)
  where
    by : (b : Bool) → is_one_of (kind_tables p groups) t ≡ is_table_of p groups t → is_one_of (live_tables (map live_group (cond b (g ∷ filter p groups) (filter p groups)))) t ≡ ((b && covers t g) || is_table_of p groups t)
    by true rest =
        list_any-append (λ (one : TableId). nat_eq one.0 t.0) (tables_of g.def.tree) (kind_tables p groups)
        ∙ (λ i. in_tree g.def.tree t i || rest i)
    by false rest = rest

on_kind : (p : Group → Bool) (groups : List Group) (ops : List Op) → on_tables (kind_tables p groups) ops ≡ are_on p groups ops
on_kind p groups [] = refl
on_kind p groups (op ∷ ops) = let here = kind_table p groups (table_of op) in let rest = on_kind p groups ops in λ i. here i && rest i

all_on_kind : (p : Group → Bool) (groups : List Group) (us : List Sealed) → all_on (kind_tables p groups) us ≡ list_all (λ x. are_on p groups x.ops) us
all_on_kind p groups [] = refl
all_on_kind p groups (u ∷ us) = let here = on_kind p groups u.ops in let rest = all_on_kind p groups us in λ i. here i && rest i

closed_both : (a b : List TableId) (schema : List TableDef) → IsClosed a schema → IsClosed b schema → IsClosed (a ++ b) schema
closed_both a b schema one other t def foreign at key =
    let first = one t def foreign at key in
    let second = other t def foreign at key in
    list_any-append (λ (x : TableId). nat_eq x.0 foreign.parent.0) a b ∙ (λ i. first i || second i) ∙ sym (list_any-append (λ (x : TableId). nat_eq x.0 t.0) a b)

closed_kind : (groups : List Group) (h : List Entry) (log : List Sealed) (schema : List TableDef) (next : ℕ) → GroupsAreOrdered (map live_group (filter is_writethrough groups)) h log schema next → IsClosed (kind_tables is_asynchronous groups) schema
closed_kind [] h log schema next ordered = λ t def foreign at key. refl
closed_kind (g ∷ groups) h log schema next ordered = by (is_writethrough g) (is_synchronous g) ordered (closed_kind groups h log schema next)
  where
    by : (a s : Bool) → GroupsAreOrdered (map live_group (cond a (g ∷ filter is_writethrough groups) (filter is_writethrough groups))) h log schema next
        → (GroupsAreOrdered (map live_group (filter is_writethrough groups)) h log schema next → IsClosed (kind_tables is_asynchronous groups) schema)
        → IsClosed (live_tables (map live_group (cond (a && not s) (g ∷ filter is_asynchronous groups) (filter is_asynchronous groups)))) schema
    by true true are rest = rest are.1
    by true false are rest = closed_both (tables_of g.def.tree) (kind_tables is_asynchronous groups) schema are.0.closed (rest are.1)
    by false s are rest = rest are

off_side : (groups : List Group) (ops : List Op) → HaveOwnTables groups → are_on is_synchronous groups ops ≡ true → OnSide (kind_tables is_asynchronous groups) false ops
off_side groups [] own on = tt
off_side groups (op ∷ ops) own on =
    let both = both_true (is_table_of is_synchronous groups (table_of op)) (are_on is_synchronous groups ops) on in (
      kind_table is_asynchronous groups (table_of op) ∙ one_kind groups (table_of op) own both.0,
      off_side groups ops own both.1,
    )

all_left : {X : Type 0} (p q : X → Bool) (xs : List X) → list_all p xs ≡ true → list_all p (filter q xs) ≡ true
all_left p q [] all = refl
all_left {X = X} p q (x ∷ xs) all =
    let both = both_true (p x) (list_all p xs) all in
    by (q x) both.0 (all_left p q xs both.1)
  where
    by : (b : Bool) → p x ≡ true → list_all p (filter q xs) ≡ true → list_all p (cond b (x ∷ filter q xs) (filter q xs)) ≡ true
    by true first rest = λ i. first i && rest i
    by false first rest = rest

-- what is pending of such as are unsettled doesn't conflict with operations on tables of synchronous groups
pub none_conflicts : (groups : List Group) (h : List Entry) (log us : List Sealed) (schema : List TableDef) (next : ℕ) (x : Sealed) → HaveOwnTables groups → GroupsAreOrdered (map live_group (filter is_writethrough groups)) h log schema next
    → are_later groups us ≡ true → are_on is_synchronous groups x.ops ≡ true → NoneConflicts schema (pending h us) x
none_conflicts groups h log us schema next x own ordered later on =
    sides_conflict_not (kind_tables is_asynchronous groups) schema (closed_kind groups h log schema next ordered) (pending h us) x
    (all_left (λ (u : Sealed). on_tables (kind_tables is_asynchronous groups) u.ops) (is_pending h) us (all_on_kind is_asynchronous groups us ∙ later))
    (off_side groups x.ops own on)

-- nor do they write a table of an unsettled one

apart_tables : (groups : List Group) (t u : TableId) → HaveOwnTables groups → is_table_of is_synchronous groups t ≡ true → is_table_of is_asynchronous groups u ≡ true → nat_eq t.0 u.0 ≡ false
apart_tables groups t u own one other = by (nat_eq t.0 u.0) refl
  where
    by : (b : Bool) → nat_eq t.0 u.0 ≡ b → nat_eq t.0 u.0 ≡ false
    by false e = e
    by true e =
        let same : is_table_of is_asynchronous groups t ≡ is_table_of is_asynchronous groups u = ap (λ n. is_table_of is_asynchronous groups (record { 0 = n })) (eqb-true t.0 u.0 e) in
        absurd (never_both (is_table_of is_asynchronous groups t) (same ∙ other) (one_kind groups t own one))

not_written : (groups : List Group) (t : TableId) (ops : List Op) → HaveOwnTables groups → is_table_of is_synchronous groups t ≡ true → are_on is_asynchronous groups ops ≡ true → is_written ops t ≡ false
not_written groups t [] own one on = refl
not_written groups t (op ∷ ops) own one on =
    let both = both_true (is_table_of is_asynchronous groups (table_of op)) (are_on is_asynchronous groups ops) on in
    let here = apart_tables groups t (table_of op) own one both.0 in
    let rest = not_written groups t ops own one both.1 in
    λ i. here i || rest i

not_met : (groups : List Group) (xs ops : List Op) → HaveOwnTables groups → are_on is_synchronous groups xs ≡ true → are_on is_asynchronous groups ops ≡ true → meets xs ops ≡ false
not_met groups [] ops own on other = refl
not_met groups (x ∷ xs) ops own on other =
    let both = both_true (is_table_of is_synchronous groups (table_of x)) (are_on is_synchronous groups xs) on in
    let here = not_written groups (table_of x) ops own both.0 other in
    let rest = not_met groups xs ops own both.1 other in
    λ i. here i || rest i

pub none_met : (groups : List Group) (xs : List Op) (us : List Sealed) → HaveOwnTables groups → are_on is_synchronous groups xs ≡ true → are_later groups us ≡ true → list_any (λ u. meets xs u.ops) us ≡ false
none_met groups xs [] own on later = refl
none_met groups xs (u ∷ us) own on later =
    let both = both_true (are_on is_asynchronous groups u.ops) (are_later groups us) later in
    let here = not_met groups xs u.ops own on both.0 in
    let rest = none_met groups xs us own on both.1 in
    λ i. here i || rest i

-- groups without the keys of their lists

bare_table : (test : Group → Bool) → ((g : Group) → test (without_list g) ≡ test g) → (groups : List Group) (t : TableId) → is_table_of test (map without_list groups) t ≡ is_table_of test groups t
bare_table test same [] t = refl
bare_table test same (g ∷ groups) t = let here = same g in let rest = bare_table test same groups t in λ i. (here i && covers t g) || rest i

pub bare_on : (test : Group → Bool) → ((g : Group) → test (without_list g) ≡ test g) → (groups : List Group) (ops : List Op) → are_on test (map without_list groups) ops ≡ are_on test groups ops
bare_on test same groups ops =
    all_same (λ op. is_table_of test (map without_list groups) (table_of op)) (λ op. is_table_of test groups (table_of op)) ops (λ op. bare_table test same groups (table_of op))

pub bare_later : (groups : List Group) (us : List Sealed) → are_later (map without_list groups) us ≡ are_later groups us
bare_later groups us =
    all_same (λ x. are_on is_asynchronous (map without_list groups) x.ops) (λ x. are_on is_asynchronous groups x.ops) us (λ x. bare_on is_asynchronous (λ g. refl) groups x.ops)

-- operations that may wait

deferred_table : (groups : List Group) (t : TableId) → is_deferred groups t ≡ true → is_table_of is_asynchronous groups t ≡ true
deferred_table groups t e =
    let both = both_true (is_table_of is_writethrough groups t) (not (is_table_of is_synchronous groups t)) e in
    found groups both.0 (untrue (is_table_of is_synchronous groups t) both.1)
  where
    one : (a s c r m n : Bool) → ((a && c) || r) ≡ true → ((s && c) || m) ≡ false → (r ≡ true → m ≡ false → n ≡ true) → (((a && not s) && c) || n) ≡ true
    one true true true r m n on off rest = cc
    one true true false r m n on off rest = rest on off
    one true false true r m n on off rest = refl
    one true false false r m n on off rest = rest on off
    one false true c r m n on off rest = rest on (neither (true && c) m off).1
    one false false c r m n on off rest = rest on off

    found : (gs : List Group) → is_table_of is_writethrough gs t ≡ true → is_table_of is_synchronous gs t ≡ false → is_table_of is_asynchronous gs t ≡ true
    found [] on off = on
    found (g ∷ gs) on off = one (is_writethrough g) (is_synchronous g) (covers t g) (is_table_of is_writethrough gs t) (is_table_of is_synchronous gs t) (is_table_of is_asynchronous gs t) on off (found gs)

pub deferred_on : (groups : List Group) (ops : List Op) → are_deferred groups ops ≡ true → are_on is_asynchronous groups ops ≡ true
deferred_on groups ops on =
    all_weaker (λ op. is_deferred groups (table_of op)) (λ op. is_table_of is_asynchronous groups (table_of op)) ops (λ op. deferred_table groups (table_of op)) on

-- one more waits
pub later_sealed : (groups : List Group) (old new : List Sealed) (x : Sealed) → are_later groups old ≡ true → new ≡ old ++ x ∷ [] → are_deferred groups x.ops ≡ true → are_later groups new ≡ true
later_sealed groups old new x later is on = ap (are_later groups) is ∙ later_last groups old x later (deferred_on groups x.ops on)

deferred_not_on : (groups : List Group) (t : TableId) → is_deferred groups t ≡ true → is_table_of is_synchronous groups t ≡ false
deferred_not_on groups t e = untrue (is_table_of is_synchronous groups t) (both_true (is_table_of is_writethrough groups t) (not (is_table_of is_synchronous groups t)) e).1

pub deferred_not : (groups : List Group) (ops : List Op) → are_deferred groups ops ≡ true → list_any (λ op. is_table_of is_synchronous groups (table_of op)) ops ≡ false
deferred_not groups [] on = refl
deferred_not groups (op ∷ ops) on =
    let both = both_true (is_deferred groups (table_of op)) (are_deferred groups ops) on in
    let here = deferred_not_on groups (table_of op) both.0 in
    let rest = deferred_not groups ops both.1 in
    λ i. here i || rest i

pub bare_deferred : (groups : List Group) (ops : List Op) → are_deferred (map without_list groups) ops ≡ are_deferred groups ops
bare_deferred groups ops =
    all_same (λ op. is_deferred (map without_list groups) (table_of op)) (λ op. is_deferred groups (table_of op)) ops
    (λ op. let one = bare_table is_writethrough (λ g. refl) groups (table_of op) in let other = bare_table is_synchronous (λ g. refl) groups (table_of op) in λ i. one i && not (other i))
