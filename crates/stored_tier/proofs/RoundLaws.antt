-- A round at the bank as the abstract tier has it.
use Rattle.std.proofs.Common.{◌≡◌, ◌≤◌, ◌<◌, ℕ, zero, suc, ◌+◌, Bool, true, false, cond, not, nat_lt, min, List, [], ◌∷◌, ◌++◌, All, length, filter, refl, sym, ap, ◌∙◌, subst, arith}
use Rattle.std.specs.List.{Contains}
use Rattle.std.proofs.lemmas.Bool.{le-ltb, lt-ltb}
use Rattle.std.proofs.lemmas.List.Elements.{All-contains, All-cons, All-head, All-nil, All-tail, All-weaker, All-contains_itself}
use Rattle.tier_base.specs.declared.number.TableId.{TableId}
use Rattle.table_state.specs.declared.history.Entry.{Entry}
use Rattle.table_state.specs.declared.history.Sealed.{Sealed}
use Rattle.order_laws.specs.Commits.{RiseBetween, conflicting, pending}
use Rattle.outside.specs.Holding.{Held}
use Rattle.propagators.specs.Rounds.{Round, came_in, left_in}
use Rattle.cache_tier.specs.Rounds.{Comes}
use Rattle.cache_tier.specs.Worlds.{World}
use Rattle.stored_tier.proofs.DrainLaws.{keeps_order, later_is, left_stand, mixes, none_pending, once_later, tail_in, were_pending}

-- those that left come before the first that is left
abbrev pub is_left : List Sealed → Sealed → Bool
is_left [] s = true
is_left (x ∷ left) s = nat_lt s.ticket.0 x.ticket.0

all_kept : (xs : List Sealed) → filter (λ (s : Sealed). true) (xs ++ []) ≡ xs
all_kept [] = refl
all_kept (x ∷ xs) = ap (λ l. x ∷ l) (all_kept xs)

none_kept : (xs : List Sealed) → filter (λ (s : Sealed). false) (xs ++ []) ≡ []
none_kept [] = refl
none_kept (x ∷ xs) = none_kept xs

all_so : (xs : List Sealed) → All (λ s. is_left [] s ≡ true) xs
all_so [] = All-nil (λ s. is_left [] s ≡ true)
all_so (x ∷ xs) = All-cons (λ s. is_left [] s ≡ true) x xs refl (all_so xs)

low_below : (ys : List Sealed) (x : Sealed) (xs : List Sealed) (low high : ℕ) → RiseBetween low (ys ++ x ∷ xs) high → low ≤ x.ticket.0
low_below [] x xs low high rise = rise.0
low_below (y ∷ ys) x xs low high rise =
    let from = rise.0 in
    let rest = low_below ys x xs (y.ticket.0 + 1) high rise.1 in
    omega (arith, from, rest)

none_below : (zs : List Sealed) (low high bound : ℕ) → bound ≤ low → RiseBetween low zs high → filter (λ (s : Sealed). nat_lt s.ticket.0 bound) zs ≡ []
none_below [] low high bound le rise = refl
none_below (z ∷ zs) low high bound le rise =
    let from = rise.0 in
    let here : bound ≤ z.ticket.0 = omega (arith, from) in
    ap (λ b. cond b (z ∷ filter (λ (s : Sealed). nat_lt s.ticket.0 bound) zs) (filter (λ (s : Sealed). nat_lt s.ticket.0 bound) zs)) (le-ltb z.ticket.0 bound here)
    ∙ none_below zs (z.ticket.0 + 1) high bound (omega arith) rise.1

all_above : (zs : List Sealed) (low high bound : ℕ) → bound ≤ low → RiseBetween low zs high → filter (λ (s : Sealed). not (nat_lt s.ticket.0 bound)) zs ≡ zs
all_above [] low high bound le rise = refl
all_above (z ∷ zs) low high bound le rise =
    let from = rise.0 in
    let here : bound ≤ z.ticket.0 = omega (arith, from) in
    ap (λ b. cond (not b) (z ∷ filter (λ (s : Sealed). not (nat_lt s.ticket.0 bound)) zs) (filter (λ (s : Sealed). not (nat_lt s.ticket.0 bound)) zs)) (le-ltb z.ticket.0 bound here)
    ∙ ap (λ l. z ∷ l) (all_above zs (z.ticket.0 + 1) high bound (omega arith) rise.1)

front_kept : (ys : List Sealed) (x : Sealed) (xs : List Sealed) (low high : ℕ) → RiseBetween low (ys ++ x ∷ xs) high → filter (λ (s : Sealed). nat_lt s.ticket.0 x.ticket.0) (ys ++ x ∷ xs) ≡ ys
front_kept [] x xs low high rise = none_below (x ∷ xs) x.ticket.0 high x.ticket.0 (omega arith) (let le : x.ticket.0 ≤ x.ticket.0 = omega arith in (le, rise.1))
front_kept (y ∷ ys) x xs low high rise =
    let rest = low_below ys x xs (y.ticket.0 + 1) high rise.1 in
    let here : y.ticket.0 < x.ticket.0 = omega (arith, rest) in
    ap (λ b. cond b (y ∷ filter (λ (s : Sealed). nat_lt s.ticket.0 x.ticket.0) (ys ++ x ∷ xs)) (filter (λ (s : Sealed). nat_lt s.ticket.0 x.ticket.0) (ys ++ x ∷ xs))) (lt-ltb y.ticket.0 x.ticket.0 here)
    ∙ ap (λ l. y ∷ l) (front_kept ys x xs (y.ticket.0 + 1) high rise.1)

rear_kept : (ys : List Sealed) (x : Sealed) (xs : List Sealed) (low high : ℕ) → RiseBetween low (ys ++ x ∷ xs) high → filter (λ (s : Sealed). not (nat_lt s.ticket.0 x.ticket.0)) (ys ++ x ∷ xs) ≡ x ∷ xs
rear_kept [] x xs low high rise = all_above (x ∷ xs) x.ticket.0 high x.ticket.0 (omega arith) (let le : x.ticket.0 ≤ x.ticket.0 = omega arith in (le, rise.1))
rear_kept (y ∷ ys) x xs low high rise =
    let rest = low_below ys x xs (y.ticket.0 + 1) high rise.1 in
    let here : y.ticket.0 < x.ticket.0 = omega (arith, rest) in
    ap (λ b. cond (not b) (y ∷ filter (λ (s : Sealed). not (nat_lt s.ticket.0 x.ticket.0)) (ys ++ x ∷ xs)) (filter (λ (s : Sealed). not (nat_lt s.ticket.0 x.ticket.0)) (ys ++ x ∷ xs))) (lt-ltb y.ticket.0 x.ticket.0 here)
    ∙ rear_kept ys x xs (y.ticket.0 + 1) high rise.1

all_before : (ys : List Sealed) (x : Sealed) (xs : List Sealed) (low high : ℕ) → RiseBetween low (ys ++ x ∷ xs) high → All (λ s. is_left (x ∷ xs) s ≡ true) ys
all_before [] x xs low high rise = All-nil (λ s. is_left (x ∷ xs) s ≡ true)
all_before (y ∷ ys) x xs low high rise =
    let rest = low_below ys x xs (y.ticket.0 + 1) high rise.1 in
    All-cons (λ s. is_left (x ∷ xs) s ≡ true) y ys (lt-ltb y.ticket.0 x.ticket.0 (omega (arith, rest))) (all_before ys x xs (y.ticket.0 + 1) high rise.1)

-- those that left, and the others
record AreSplit (us gone left : List Sealed) : Type 0 where
  gone_kept : filter (is_left left) us ≡ gone
  left_kept : filter (λ s. not (is_left left s)) us ≡ left
  all : All (λ s. is_left left s ≡ true) gone

split_at : (gone left : List Sealed) (low high : ℕ) → RiseBetween low (gone ++ left) high → AreSplit (gone ++ left) gone left
split_at gone [] low high rise = record { gone_kept = all_kept gone; left_kept = none_kept gone; all = all_so gone }
split_at gone (x ∷ left) low high rise =
    record { gone_kept = front_kept gone x left low high rise; left_kept = rear_kept gone x left low high rise; all = all_before gone x left low high rise }

split_so : (us gone left : List Sealed) (low high : ℕ) → us ≡ gone ++ left → RiseBetween low us high → AreSplit us gone left
split_so us gone left low high is rise =
    subst (λ l. AreSplit l gone left) (sym is) (split_at gone left low high (subst (λ l. RiseBetween low l high) is rise))

-- of those that came few haven't left

few_left : (p : Sealed → Bool) (xs : List Sealed) → length (filter p xs) ≤ length xs
few_left p [] = omega arith
few_left p (x ∷ xs) = by (p x) (few_left p xs)
  where
    by : (b : Bool) → length (filter p xs) ≤ length xs → length (cond b (x ∷ filter p xs) (filter p xs)) ≤ length (x ∷ xs)
    by true le = omega arith
    by false le = omega arith

certain_gone : (p : Sealed → Bool) (certain doubtful : List Sealed) → All (λ s. p s ≡ true) certain → filter (λ s. not (p s)) (certain ++ doubtful) ≡ filter (λ s. not (p s)) doubtful
certain_gone p [] doubtful all = refl
certain_gone p (x ∷ certain) doubtful all =
    ap (λ b. cond (not b) (x ∷ filter (λ s. not (p s)) (certain ++ doubtful)) (filter (λ s. not (p s)) (certain ++ doubtful))) (All-head (λ s. p s ≡ true) x certain all)
    ∙ certain_gone p certain doubtful (All-tail (λ s. p s ≡ true) x certain all)

pub unsure_at : (old new n few cap : ℕ) → n ≤ few → old ≤ new → few ≤ 1 → (few ≡ 1 → min (old + 1) cap ≤ new) → min (old + n) cap ≤ new
unsure_at old new zero few cap le later one rose = omega arith
unsure_at old new (suc n) few cap le later one rose =
    let is : few ≡ 1 = omega arith in
    let rises = rose is in
    omega (arith, rises)

-- a round, as the worlds have it

pub record RoundSeen (w : World) (left : List Sealed) (held : Held) (few : ℕ) : Type 0 where
  pub came : List Sealed
  pub comes : Comes w.shared w.tier.schema w.tier.unsettled came w.history held.history
  pub kept : filter (λ s. not (is_left left s)) w.tier.unsettled ≡ left
  pub settled : pending held.history (filter (is_left left) w.tier.unsettled) ≡ []
  pub unsure : length (filter (λ s. not (is_left left s)) came) ≤ few

abbrev pub LeftLaw : Type 0
LeftLaw =
    (shared : List TableId) (few : ℕ) (old new : List Sealed) (history later : List Entry) (round : Round shared few old history new later)
    → old ≡ left_in round.events ++ new

pub round_seen : LeftLaw → (w : World) (left : List Sealed) (held : Held) (few low high : ℕ) → RiseBetween low w.tier.unsettled high → Round w.shared few w.tier.unsettled w.history left held.history → RoundSeen w left held few
round_seen law w left held few low high rise r =
    let parts = split_so w.tier.unsettled (left_in r.events) left low high (law w.shared few w.tier.unsettled left w.history held.history r) rise in
    let stand = left_stand w.shared r.events w.history held.history w.tier.unsettled left r.leads in
    let certain : All (λ s. is_left left s ≡ true) r.certain =
    All-weaker (Contains r.certain) (λ s. is_left left s ≡ true) (λ s there. All-contains (λ x. is_left left x ≡ true) (left_in r.events) s parts.all (r.settled s there)) r.certain (All-contains_itself r.certain) in
    let few_of : filter (λ s. not (is_left left s)) (came_in r.events) ≡ filter (λ s. not (is_left left s)) r.doubtful =
    ap (filter (λ s. not (is_left left s))) r.came ∙ certain_gone (is_left left) r.certain r.doubtful certain in
    let one = few_left (λ s. not (is_left left s)) r.doubtful in
    let at_most = r.at_most in
    record {
      came = came_in r.events;
      comes = record {
        tail = tail_in r.events;
        is = later_is w.shared r.events w.history held.history w.tier.unsettled left r.leads;
        mixes = mixes w.shared r.events w.history held.history w.tier.unsettled left r.leads;
        were_pending = λ s there. All-contains (Contains (pending w.history w.tier.unsettled)) (came_in r.events) s (were_pending w.shared r.events w.history held.history w.tier.unsettled left r.leads) there;
        once = once_later w.shared r.events w.history held.history w.tier.unsettled left r.leads;
        order = keeps_order w.shared (conflicting w.tier.schema) low high [] r.events w.history held.history w.tier.unsettled left tt rise r.leads;
      };
      kept = parts.left_kept;
      settled = ap (pending held.history) parts.gone_kept ∙ none_pending (left_in r.events) held.history stand;
      unsure = subst (λ l. length l ≤ few) (sym few_of) (omega (arith, one, at_most));
    }
