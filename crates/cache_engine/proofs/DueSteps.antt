-- Steps of the loops that find which sets are due.
use Rattle.std.proofs.Common.{◌≡◌, ◌<◌, ℕ, zero, suc, ◌+◌, Bool, true, false, cond, ◌&&◌, Some, List, [], ◌∷◌, ◌++◌, length, get_or, slice_get, take, drop, refl, sym, ap, ◌∙◌, arith}
use Rattle.std.specs.List.{list_all}
use Rattle.order_laws.proofs.TruthLaws.{both_true}
use Rattle.cache_tier.specs.DueWork.{intervals, with_number}
use Rattle.cache_tier.specs.Groups.{Group, is_on, is_read_only}
use Rattle.stored_tier.specs.declared.moments.SetMoment.{SetMoment}
use Rattle.stored_tier.specs.Refreshing.{has_moment}
use Rattle.stored_tier.proofs.FillSteps.{drop_one, take_one}

-- the intervals of the groups from a place on

pub intervals_end : (groups : List Group) → intervals (drop (length groups) groups) ≡ []
intervals_end [] = refl
intervals_end (g ∷ groups) = intervals_end groups

pub interval_put : (groups : List Group) (i : ℕ) (g : Group) → slice_get groups i ≡ Some g → (is_read_only g && is_on g.state) ≡ true → with_number g.def.interval (intervals (drop (i + 1) groups)) ≡ intervals (drop i groups)
interval_put groups i g at is =
    sym (ap intervals (drop_one groups i g at)
    ∙ ap (λ b. cond b (with_number g.def.interval (intervals (drop (i + 1) groups))) (intervals (drop (i + 1) groups))) is)

pub interval_passed : (groups : List Group) (i : ℕ) (g : Group) → slice_get groups i ≡ Some g → (is_read_only g && is_on g.state) ≡ false → intervals (drop (i + 1) groups) ≡ intervals (drop i groups)
interval_passed groups i g at not_so =
    sym (ap intervals (drop_one groups i g at)
    ∙ ap (λ b. cond b (with_number g.def.interval (intervals (drop (i + 1) groups))) (intervals (drop (i + 1) groups))) not_so)

-- entries for sets

pub entries_more : (old new : List SetMoment) (xs : List ℕ) → ((i : ℕ) → has_moment old i ≡ true → has_moment new i ≡ true) → list_all (has_moment old) xs ≡ true → list_all (has_moment new) xs ≡ true
entries_more old new [] more all = refl
entries_more old new (x ∷ xs) more all =
    let both = both_true (has_moment old x) (list_all (has_moment old) xs) all in
    let first = more x both.0 in
    let rest = entries_more old new xs more both.1 in
    λ i. first i && rest i

all_both : (p : ℕ → Bool) (xs : List ℕ) (x : ℕ) → list_all p xs ≡ true → p x ≡ true → list_all p (xs ++ x ∷ []) ≡ true
all_both p [] x all one = λ i. one i && true
all_both p (y ∷ xs) x all one =
    let both = both_true (p y) (list_all p xs) all in
    let rest = all_both p xs x both.1 one in
    λ i. both.0 i && rest i

pub entry_made : (old new : List SetMoment) (xs : List ℕ) (i x : ℕ) → slice_get xs i ≡ Some x → ((j : ℕ) → has_moment old j ≡ true → has_moment new j ≡ true) → has_moment new x ≡ true → list_all (has_moment old) (take i xs) ≡ true → list_all (has_moment new) (take (i + 1) xs) ≡ true
entry_made old new xs i x at more one before =
    ap (list_all (has_moment new)) (take_one xs i x at)
    ∙ all_both (has_moment new) (take i xs) x (entries_more old new (take i xs) more before) one

pub at_number : (xs : List ℕ) (i : ℕ) → i < length xs → slice_get xs i ≡ Some (get_or xs i 0)
at_number [] i lt = absurd (omega (arith, lt))
at_number (x ∷ xs) zero lt = refl
at_number (x ∷ xs) (suc i) lt = at_number xs i (omega (arith, lt))

-- the one at a place, and those behind it

pub entry_here : (sets : List SetMoment) (all : List ℕ) (i x : ℕ) → slice_get all i ≡ Some x → list_all (has_moment sets) (drop i all) ≡ true → has_moment sets x ≡ true
entry_here sets all i x at has = (both_true (has_moment sets x) (list_all (has_moment sets) (drop (i + 1) all)) (ap (list_all (has_moment sets)) (sym (drop_one all i x at)) ∙ has)).0

pub entries_behind : (old new : List SetMoment) (all : List ℕ) (i x : ℕ) → slice_get all i ≡ Some x → ((j : ℕ) → has_moment old j ≡ true → has_moment new j ≡ true) → list_all (has_moment old) (drop i all) ≡ true → list_all (has_moment new) (drop (i + 1) all) ≡ true
entries_behind old new all i x at stay has =
    entries_more old new (drop (i + 1) all) stay (both_true (has_moment old x) (list_all (has_moment old) (drop (i + 1) all)) (ap (list_all (has_moment old)) (sym (drop_one all i x at)) ∙ has)).1

pub entries_begun : (sets : List SetMoment) (all : List ℕ) → list_all (has_moment sets) all ≡ true → list_all (has_moment sets) (drop 0 all) ≡ true
entries_begun sets [] has = has
entries_begun sets (x ∷ all) has = has
