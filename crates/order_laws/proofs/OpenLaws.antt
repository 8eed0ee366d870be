-- The writes of open sessions: what keeps that they apply over the virtual state, and that none conflict.
use Rattle.std.proofs.Common.{◌≡◌, List, [], ◌∷◌, ◌++◌, Bool, true, false, ◌||◌, ◌&&◌, not, Some, refl, sym, ◌∙◌, ap, subst}
use Rattle.std.specs.List.{list_all, list_any}
use Rattle.std.proofs.lemmas.Grind.{flat_map-append}
use Rattle.std.proofs.lemmas.List.Folds.{list_any-append}
use Rattle.table_state.specs.table_defs.specs.declared.definition.TableDef.{TableDef}
use Rattle.table_state.specs.declared.footprint.Footprint.{Footprint}
use Rattle.table_state.specs.declared.footprint.RowKey.{RowKey}
use Rattle.table_state.specs.declared.operation.Op.{Op}
use Rattle.table_state.specs.Tables.{TableState}
use Rattle.table_state.specs.Operations.{applied_all}
use Rattle.table_state.specs.Footprints.{conflict, footprint_of, is_among, is_in, referred_by, written_by}
use Rattle.order_laws.specs.Commits.{ops_conflict}
use Rattle.order_laws.proofs.ChainLaws.{lists_parted}
use Rattle.order_laws.proofs.NextLaws.{all_defined}
use Rattle.order_laws.proofs.PairLaws.{apart_of}
use Rattle.order_laws.proofs.TruthLaws.{both_true, untrue}
use Rattle.order_laws.specs.OpenWrites.{AllApply, Applies, NoneMeet, OpenWrites, have_no_conflict, meet_none}

and_left : (a b : Bool) → (a && b) ≡ true → a ≡ true
and_left a b e = (both_true a b e).0

and_right : (a b : Bool) → (a && b) ≡ true → b ≡ true
and_right a b e = (both_true a b e).1

both : (a b : Bool) → a ≡ true → b ≡ true → (a && b) ≡ true
both a b x y = λ i. x i && y i

-- conflicts of footprints

or_comm : (a b : Bool) → (a || b) ≡ (b || a)
or_comm true true = refl
or_comm true false = refl
or_comm false true = refl
or_comm false false = refl

apart_turned : (schema : List TableDef) (a b : List Op) → have_no_conflict schema a b ≡ have_no_conflict schema b a
apart_turned schema a b = ap not (or_comm (list_any (is_in (footprint_of schema b)) (footprint_of schema a).written) (list_any (is_in (footprint_of schema a)) (footprint_of schema b).written))

none_any : {X : Type 0} (xs : List X) → list_any (λ x. false) xs ≡ false
none_any [] = refl
none_any (x ∷ xs) = none_any xs

-- nothing written is apart from all
apart_nothing : (schema : List TableDef) (b : List Op) → have_no_conflict schema b [] ≡ true
apart_nothing schema b = ap (λ x. not (x || false)) (none_any (footprint_of schema b).written)

swap : (a b c d : Bool) → ((a || b) || (c || d)) ≡ ((a || c) || (b || d))
swap true b c d = refl
swap false true true d = refl
swap false true false d = refl
swap false false c d = refl

any_or : {X : Type 0} (p q : X → Bool) (xs : List X) → list_any (λ x. p x || q x) xs ≡ (list_any p xs || list_any q xs)
any_or p q [] = refl
any_or p q (x ∷ xs) = ap (λ b. (p x || q x) || b) (any_or p q xs) ∙ swap (p x) (q x) (list_any p xs) (list_any q xs)

any_as : {X : Type 0} (p q : X → Bool) (xs : List X) → ((x : X) → p x ≡ q x) → list_any p xs ≡ list_any q xs
any_as p q xs same = ap (λ (f : _ → Bool). list_any f xs) (λ i x. same x i)

-- a conflict of two lists with another is one of either
conflict_append : (schema : List TableDef) (a b c : List Op) → conflict (footprint_of schema (a ++ b)) (footprint_of schema c) ≡ (conflict (footprint_of schema a) (footprint_of schema c) || conflict (footprint_of schema b) (footprint_of schema c))
conflict_append schema a b c =
    (λ j. one j || other j) ∙ swap (list_any (is_in fc) fa.written) (list_any (is_in fc) fb.written) (list_any (is_in fa) fc.written) (list_any (is_in fb) fc.written)
  where
    fa : Footprint
    fa = footprint_of schema a

    fb : Footprint
    fb = footprint_of schema b

    fc : Footprint
    fc = footprint_of schema c

    one : list_any (is_in fc) (footprint_of schema (a ++ b)).written ≡ (list_any (is_in fc) fa.written || list_any (is_in fc) fb.written)
    one = ap (list_any (is_in fc)) (flat_map-append (written_by schema) a b) ∙ list_any-append (is_in fc) fa.written fb.written

    in_both : (key : RowKey) → is_in (footprint_of schema (a ++ b)) key ≡ (is_in fa key || is_in fb key)
    in_both key =
        (λ j. (ap (λ l. is_among l key) (flat_map-append (written_by schema) a b) ∙ list_any-append (Rattle.table_state.specs.Footprints.same_row_key key) fa.written fb.written) j
        || (ap (λ l. is_among l key) (flat_map-append (referred_by schema) a b) ∙ list_any-append (Rattle.table_state.specs.Footprints.same_row_key key) fa.referred fb.referred) j)
        ∙ swap (is_among fa.written key) (is_among fb.written key) (is_among fa.referred key) (is_among fb.referred key)

    other : list_any (is_in (footprint_of schema (a ++ b))) fc.written ≡ (list_any (is_in fa) fc.written || list_any (is_in fb) fc.written)
    other = any_as (is_in (footprint_of schema (a ++ b))) (λ key. is_in fa key || is_in fb key) fc.written in_both ∙ any_or (is_in fa) (is_in fb) fc.written

-- the virtual state changes

-- two lists without conflict that both apply meet again
meets_again : (a b : List Op) (s x y : TableState) → ops_conflict s.schema a b ≡ false → applied_all a s ≡ Some x → applied_all b s ≡ Some y → (end : TableState) × (applied_all b x ≡ Some end) × (applied_all a y ≡ Some end)
meets_again a b s x y free left right =
    let z = (lists_parted a b s (apart_of (footprint_of s.schema a) (footprint_of s.schema b) free)).both y x right left in
    (z.0, z.2, z.1)

apply_past : (s n : TableState) (owns : List (List Op)) (ops : List Op) → AllApply s owns → list_all (have_no_conflict s.schema ops) owns ≡ true → applied_all ops s ≡ Some n → AllApply n owns
apply_past s n [] ops all apart is = tt
apply_past s n (own ∷ owns) ops all apart is =
    let m = meets_again ops own s n all.0.top (untrue (conflict (footprint_of s.schema ops) (footprint_of s.schema own)) (and_left (have_no_conflict s.schema ops own) (list_all (have_no_conflict s.schema ops) owns) apart)) is all.0.leads in
    (record { top = m.0; leads = m.1 }, apply_past s n owns ops all.1 (and_right (have_no_conflict s.schema ops own) (list_all (have_no_conflict s.schema ops) owns) apart) is)

-- The virtual state takes operations that are apart from all sessions' writes.
pub open_past : (s n : TableState) (owns : List (List Op)) (ops : List Op) → OpenWrites s owns → list_all (have_no_conflict s.schema ops) owns ≡ true → applied_all ops s ≡ Some n → OpenWrites n owns
open_past s n owns ops x apart is = record {
  apply = apply_past s n owns ops x.apply apart is;
  apart = subst (λ (d : List TableDef). NoneMeet d owns) (sym (all_defined ops s n is)) x.apart;
}

-- one session among the others

all_middle : {X : Type 0} (p : X → Bool) (xs : List X) (x : X) (ys : List X) → list_all p (xs ++ x ∷ ys) ≡ (list_all p xs && (p x && list_all p ys))
all_middle p [] x ys = refl
all_middle p (y ∷ xs) x ys = ap (λ b. p y && b) (all_middle p xs x ys) ∙ and_assoc (p y) (list_all p xs) (p x && list_all p ys)
  where
    and_assoc : (a b c : Bool) → (a && (b && c)) ≡ ((a && b) && c)
    and_assoc true b c = refl
    and_assoc false b c = refl

-- the session's writes are apart from those of the others
apart_others : (schema : List TableDef) (before : List (List Op)) (own : List Op) (after : List (List Op)) → NoneMeet schema (before ++ own ∷ after) → list_all (have_no_conflict schema own) (before ++ after) ≡ true
apart_others schema [] own after x = x.0
apart_others schema (b ∷ before) own after x =
    let all = sym (all_middle (have_no_conflict schema b) before own after) ∙ x.0 in
    let mine = and_left (have_no_conflict schema b own) (list_all (have_no_conflict schema b) after) (and_right (list_all (have_no_conflict schema b) before) (have_no_conflict schema b own && list_all (have_no_conflict schema b) after) all) in
    both (have_no_conflict schema own b) (list_all (have_no_conflict schema own) (before ++ after)) (apart_turned schema own b ∙ mine) (apart_others schema before own after x.1)

-- its writes become others, which are apart from those of the others, too
apart_with : (schema : List TableDef) (before : List (List Op)) (own new : List Op) (after : List (List Op)) → NoneMeet schema (before ++ own ∷ after) → list_all (have_no_conflict schema new) (before ++ after) ≡ true → NoneMeet schema (before ++ new ∷ after)
apart_with schema [] own new after x apart = (apart, x.1)
apart_with schema (b ∷ before) own new after x apart =
    let all = sym (all_middle (have_no_conflict schema b) before own after) ∙ x.0 in
    let first = and_left (list_all (have_no_conflict schema b) before) (have_no_conflict schema b own && list_all (have_no_conflict schema b) after) all in
    let last = and_right (have_no_conflict schema b own) (list_all (have_no_conflict schema b) after) (and_right (list_all (have_no_conflict schema b) before) (have_no_conflict schema b own && list_all (have_no_conflict schema b) after) all) in
    let mine = apart_turned schema b new ∙ and_left (have_no_conflict schema new b) (list_all (have_no_conflict schema new) (before ++ after)) apart in (
      all_middle (have_no_conflict schema b) before new after ∙ both (list_all (have_no_conflict schema b) before) (have_no_conflict schema b new && list_all (have_no_conflict schema b) after) first (both (have_no_conflict schema b new) (list_all (have_no_conflict schema b) after) mine last),
      apart_with schema before own new after x.1 (and_right (have_no_conflict schema new b) (list_all (have_no_conflict schema new) (before ++ after)) apart),
    )

applies_at : (s : TableState) (before : List (List Op)) (own : List Op) (after : List (List Op)) → AllApply s (before ++ own ∷ after) → Applies s own
applies_at s [] own after all = all.0
applies_at s (b ∷ before) own after all = applies_at s before own after all.1

apply_with : (s : TableState) (before : List (List Op)) (own new : List Op) (after : List (List Op)) → AllApply s (before ++ own ∷ after) → Applies s new → AllApply s (before ++ new ∷ after)
apply_with s [] own new after all one = (one, all.1)
apply_with s (b ∷ before) own new after all one = (all.0, apply_with s before own new after all.1 one)

apply_without : (s : TableState) (before : List (List Op)) (own : List Op) (after : List (List Op)) → AllApply s (before ++ own ∷ after) → AllApply s (before ++ after)
apply_without s [] own after all = all.1
apply_without s (b ∷ before) own after all = (all.0, apply_without s before own after all.1)

apply_among : (s : TableState) (before : List (List Op)) (own : List Op) (after : List (List Op)) → Applies s own → AllApply s (before ++ after) → AllApply s (before ++ own ∷ after)
apply_among s [] own after one all = (one, all)
apply_among s (b ∷ before) own after one all = (all.0, apply_among s before own after one all.1)

nothing_apart : (schema : List TableDef) (owns : List (List Op)) → list_all (have_no_conflict schema []) owns ≡ true
nothing_apart schema [] = refl
nothing_apart schema (b ∷ owns) = both (have_no_conflict schema [] b) (list_all (have_no_conflict schema []) owns) (apart_turned schema [] b ∙ apart_nothing schema b) (nothing_apart schema owns)

-- A session writes more, apart from what the others wrote.
pub open_write : (s top : TableState) (before : List (List Op)) (own more : List Op) (after : List (List Op)) → OpenWrites s (before ++ own ∷ after)
    → applied_all (own ++ more) s ≡ Some top → list_all (have_no_conflict s.schema more) (before ++ after) ≡ true → OpenWrites s (before ++ (own ++ more) ∷ after)
open_write s top before own more after x is apart = record {
  apply = apply_with s before own (own ++ more) after x.apply (record { top = top; leads = is });
  apart = apart_with s.schema before own (own ++ more) after x.apart (longer (before ++ after) (apart_others s.schema before own after x.apart) apart);
}
  where
    neither : (a b : Bool) → not a ≡ true → not b ≡ true → not (a || b) ≡ true
    neither true b e f = e
    neither false b e f = f

    longer : (owns : List (List Op)) → list_all (have_no_conflict s.schema own) owns ≡ true → list_all (have_no_conflict s.schema more) owns ≡ true → list_all (have_no_conflict s.schema (own ++ more)) owns ≡ true
    longer [] e f = refl
    longer (b ∷ owns) e f =
        both (have_no_conflict s.schema (own ++ more) b) (list_all (have_no_conflict s.schema (own ++ more)) owns)
        (ap not (conflict_append s.schema own more b)
        ∙ neither (conflict (footprint_of s.schema own) (footprint_of s.schema b)) (conflict (footprint_of s.schema more) (footprint_of s.schema b))
        (and_left (have_no_conflict s.schema own b) (list_all (have_no_conflict s.schema own) owns) e) (and_left (have_no_conflict s.schema more b) (list_all (have_no_conflict s.schema more) owns) f))
        (longer owns (and_right (have_no_conflict s.schema own b) (list_all (have_no_conflict s.schema own) owns) e) (and_right (have_no_conflict s.schema more b) (list_all (have_no_conflict s.schema more) owns) f))

-- A session commits: the virtual state takes its writes, and it has none.
pub open_commit : (s n : TableState) (before : List (List Op)) (own : List Op) (after : List (List Op)) → OpenWrites s (before ++ own ∷ after) → applied_all own s ≡ Some n → OpenWrites n (before ++ [] ∷ after)
open_commit s n before own after x is = record {
  apply = apply_among n before [] after (record { top = n; leads = refl }) (apply_past s n (before ++ after) own (apply_without s before own after x.apply) (apart_others s.schema before own after x.apart) is);
  apart = subst (λ (d : List TableDef). NoneMeet d (before ++ [] ∷ after)) (sym (all_defined own s n is)) (apart_with s.schema before own [] after x.apart (nothing_apart s.schema (before ++ after)));
}

-- A session takes its writes back.
pub open_rollback : (s : TableState) (before : List (List Op)) (own : List Op) (after : List (List Op)) → OpenWrites s (before ++ own ∷ after) → OpenWrites s (before ++ [] ∷ after)
open_rollback s before own after x = record {
  apply = apply_with s before own [] after x.apply (record { top = s; leads = refl });
  apart = apart_with s.schema before own [] after x.apart (nothing_apart s.schema (before ++ after));
}

-- A session opens.
pub open_opens : (s : TableState) (owns : List (List Op)) → OpenWrites s owns → OpenWrites s (owns ++ [] ∷ [])
open_opens s owns x = record { apply = apply_last owns x.apply; apart = apart_last owns x.apart }
  where
    apply_last : (owns : List (List Op)) → AllApply s owns → AllApply s (owns ++ [] ∷ [])
    apply_last [] all = (record { top = s; leads = refl }, tt)
    apply_last (b ∷ owns) all = (all.0, apply_last owns all.1)

    meets_last : (own : List Op) (owns : List (List Op)) → meet_none s.schema own owns ≡ true → meet_none s.schema own (owns ++ [] ∷ []) ≡ true
    meets_last own owns e =
        all_middle (have_no_conflict s.schema own) owns [] []
        ∙ both (list_all (have_no_conflict s.schema own) owns) (have_no_conflict s.schema own [] && true) (e ∙ refl) (both (have_no_conflict s.schema own []) true (apart_nothing s.schema own) refl)

    apart_last : (owns : List (List Op)) → NoneMeet s.schema owns → NoneMeet s.schema (owns ++ [] ∷ [])
    apart_last [] all = (refl, tt)
    apart_last (b ∷ owns) all = (meets_last b owns all.0, apart_last owns all.1)

-- A session closes.
pub open_closes : (s : TableState) (before : List (List Op)) (own : List Op) (after : List (List Op)) → OpenWrites s (before ++ own ∷ after) → OpenWrites s (before ++ after)
open_closes s before own after x = record { apply = apply_without s before own after x.apply; apart = less before x.apart }
  where
    meets_less : (b : List Op) (before : List (List Op)) → meet_none s.schema b (before ++ own ∷ after) ≡ true → meet_none s.schema b (before ++ after) ≡ true
    meets_less b [] e = and_right (have_no_conflict s.schema b own) (meet_none s.schema b after) e
    meets_less b (c ∷ before) e =
        both (have_no_conflict s.schema b c) (meet_none s.schema b (before ++ after)) (and_left (have_no_conflict s.schema b c) (meet_none s.schema b (before ++ own ∷ after)) e)
        (meets_less b before (and_right (have_no_conflict s.schema b c) (meet_none s.schema b (before ++ own ∷ after)) e))

    less : (before : List (List Op)) → NoneMeet s.schema (before ++ own ∷ after) → NoneMeet s.schema (before ++ after)
    less [] all = all.1
    less (b ∷ before) all = (meets_less b before all.0, less before all.1)
