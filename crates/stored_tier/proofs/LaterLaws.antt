-- Which tables the unsettled transactions write.
use Rattle.std.proofs.Common.{◌≡◌, ℕ, zero, suc, Bool, true, false, ◌&&◌, ◌||◌, Some, List, [], ◌∷◌, ◌++◌, remove, slice_get, unwrap_or, refl, sym, ap, ◌∙◌}
use Rattle.std.specs.List.{list_all, list_any}
use Rattle.std.specs.Option.{option_map}
use Rattle.tier_base.specs.declared.number.TableId.{TableId}
use Rattle.table_state.specs.declared.history.Sealed.{Sealed}
use Rattle.table_state.specs.declared.operation.Op.{Op}
use Rattle.table_state.specs.Operations.{table_of}
use Rattle.order_laws.proofs.TruthLaws.{both_true}
use Rattle.cache_tier.specs.Groups.{Group, covers, definitions_of, is_asynchronous, is_defined_on, is_table_of, is_writethrough}
use Rattle.stored_tier.specs.Stored.{are_later, are_on}

-- lists of which each element passes a test

pub all_same : {X : Type 0} (p q : X → Bool) (xs : List X) → ((x : X) → p x ≡ q x) → list_all p xs ≡ list_all q xs
all_same p q [] same = refl
all_same p q (x ∷ xs) same = let first = same x in let rest = all_same p q xs same in λ i. first i && rest i

pub all_weaker : {X : Type 0} (p q : X → Bool) (xs : List X) → ((x : X) → p x ≡ true → q x ≡ true) → list_all p xs ≡ true → list_all q xs ≡ true
all_weaker p q [] weaker all = refl
all_weaker p q (x ∷ xs) weaker all =
    let both = both_true (p x) (list_all p xs) all in
    let first : q x ≡ true = weaker x both.0 in
    let rest : list_all q xs ≡ true = all_weaker p q xs weaker both.1 in
    λ i. first i && rest i

all_last : {X : Type 0} (p : X → Bool) (xs : List X) (x : X) → list_all p xs ≡ true → p x ≡ true → list_all p (xs ++ x ∷ []) ≡ true
all_last p [] x all one = ap (λ b. b && true) one
all_last p (y ∷ xs) x all one =
    let both = both_true (p y) (list_all p xs) all in
    let first : p y ≡ true = both.0 in
    let rest : list_all p (xs ++ x ∷ []) ≡ true = all_last p xs x both.1 one in
    λ i. first i && rest i

all_behind : {X : Type 0} (p : X → Bool) (front xs : List X) → list_all p (front ++ xs) ≡ true → list_all p xs ≡ true
all_behind p [] xs all = all
all_behind p (y ∷ front) xs all = all_behind p front xs (both_true (p y) (list_all p (front ++ xs)) all).1

-- a table of a group stays one

same_kind : (h g : Group) → h.def ≡ g.def → is_asynchronous h ≡ is_asynchronous g
same_kind h g same = ap (λ d. is_asynchronous (record h { def = d })) same ∙ moved h g
  where
    moved : (a b : Group) → is_asynchronous (record a { def = b.def }) ≡ is_asynchronous b
    moved a b = refl

asynchronous_by : (gs hs : List Group) (u : TableId) → definitions_of hs ≡ definitions_of gs → is_table_of is_asynchronous hs u ≡ is_table_of is_asynchronous gs u
asynchronous_by [] [] u same = refl
asynchronous_by [] (h ∷ hs) u same = cc
asynchronous_by (g ∷ gs) [] u same = cc
asynchronous_by (g ∷ gs) (h ∷ hs) u same =
    let first : h.def ≡ g.def = cc in
    let rest : definitions_of hs ≡ definitions_of gs = cc in
    let kind = same_kind h g first in
    let others = asynchronous_by gs hs u rest in
    λ i. (kind i && is_defined_on u (first i)) || others i

or_true : (a b c : Bool) → (a || b) ≡ true → (b ≡ true → c ≡ true) → (a || c) ≡ true
or_true true b c e f = refl
or_true false b c e f = f e

any_more : {X : Type 0} (p : X → Bool) (xs : List X) (x : X) → list_any p xs ≡ true → list_any p (xs ++ x ∷ []) ≡ true
any_more p [] x any = cc
any_more p (y ∷ xs) x any = or_true (p y) (list_any p xs) (list_any p (xs ++ x ∷ [])) any (any_more p xs x)

any_less : {X : Type 0} (p : X → Bool) (xs : List X) (place : ℕ) → ((x : X) → slice_get xs place ≡ Some x → p x ≡ false) → list_any p xs ≡ true → list_any p (remove xs place) ≡ true
any_less p [] zero gone any = cc
any_less p [] (suc place) gone any = cc
any_less p (y ∷ xs) zero gone any = ap (λ b. b || list_any p xs) (sym (gone y refl)) ∙ any
any_less p (y ∷ xs) (suc place) gone any =
    or_true (p y) (list_any p xs) (list_any p (remove xs place)) any (any_less p xs place (λ x at. gone x at))

-- the groups keep their definitions; there is one more; one that isn't a writethrough group is gone

pub later_by : (gs hs : List Group) (us : List Sealed) → definitions_of hs ≡ definitions_of gs → are_later gs us ≡ true → are_later hs us ≡ true
later_by gs hs us same later =
    all_same (λ x. are_on is_asynchronous hs x.ops) (λ x. are_on is_asynchronous gs x.ops) us
    (λ x. all_same (λ op. is_table_of is_asynchronous hs (table_of op)) (λ op. is_table_of is_asynchronous gs (table_of op)) x.ops
    (λ op. asynchronous_by gs hs (table_of op) same))
    ∙ later

pub later_more : (gs : List Group) (g : Group) (us : List Sealed) → are_later gs us ≡ true → are_later (gs ++ g ∷ []) us ≡ true
later_more gs g us later =
    all_weaker (λ x. are_on is_asynchronous gs x.ops) (λ x. are_on is_asynchronous (gs ++ g ∷ []) x.ops) us
    (λ x on. all_weaker (λ op. is_table_of is_asynchronous gs (table_of op)) (λ op. is_table_of is_asynchronous (gs ++ g ∷ []) (table_of op)) x.ops
    (λ op. any_more (λ h. is_asynchronous h && covers (table_of op) h) gs g) on)
    later

pub later_less : (gs : List Group) (place : ℕ) (us : List Sealed) → unwrap_or (option_map is_writethrough (slice_get gs place)) false ≡ false → are_later gs us ≡ true → are_later (remove gs place) us ≡ true
later_less gs place us reads later =
    all_weaker (λ x. are_on is_asynchronous gs x.ops) (λ x. are_on is_asynchronous (remove gs place) x.ops) us
    (λ x on. all_weaker (λ op. is_table_of is_asynchronous gs (table_of op)) (λ op. is_table_of is_asynchronous (remove gs place) (table_of op)) x.ops
    (λ op. any_less (λ h. is_asynchronous h && covers (table_of op) h) gs place (λ g at. not_here op g at)) on)
    later
  where
    reads_it : (g : Group) → slice_get gs place ≡ Some g → is_writethrough g ≡ false
    reads_it g at = sym (ap (λ o. unwrap_or (option_map is_writethrough o) false) at) ∙ reads

    not_here : (op : Op) (g : Group) → slice_get gs place ≡ Some g → (is_asynchronous g && covers (table_of op) g) ≡ false
    not_here op g at = no_kind (is_writethrough g) (Rattle.std.specs.Prelude.not (Rattle.cache_tier.specs.Groups.is_synchronous g)) (covers (table_of op) g) (reads_it g at)
      where
        no_kind : (a b c : Bool) → a ≡ false → ((a && b) && c) ≡ false
        no_kind true b c e = cc
        no_kind false b c e = refl

-- some have left; one comes

pub later_rest : (gs : List Group) (gone us : List Sealed) → are_later gs (gone ++ us) ≡ true → are_later gs us ≡ true
later_rest gs gone us later = all_behind (λ x. are_on is_asynchronous gs x.ops) gone us later

pub later_last : (gs : List Group) (us : List Sealed) (x : Sealed) → are_later gs us ≡ true → are_on is_asynchronous gs x.ops ≡ true → are_later gs (us ++ x ∷ []) ≡ true
later_last gs us x later on = all_last (λ y. are_on is_asynchronous gs y.ops) us x later on
