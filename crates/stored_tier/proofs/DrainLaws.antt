-- A round at the bank: what comes to the history, and in which order.
use Rattle.std.proofs.Common.{◌≡◌, ◌≤◌, ℕ, ◌+◌, Bool, true, false, cond, not, ◌||◌, nat_eq, List, [], ◌∷◌, ◌++◌, All, refl, sym, ap, ◌∙◌, subst, arith, append_assoc}
use Rattle.std.specs.List.{Contains}
use Rattle.std.proofs.lemmas.Bool.{eq-eqb, eqb-true}
use Rattle.std.proofs.lemmas.List.{append-nil}
use Rattle.std.proofs.lemmas.List.Elements.{All-contains, All-cons, All-nil, All-weaker, Contains-append_right}
use Rattle.tier_base.specs.declared.number.TableId.{TableId}
use Rattle.table_state.specs.declared.history.Entry.{Entry}
use Rattle.table_state.specs.declared.history.Entry.TheVariants.{Definition, Foreign, Own}
use Rattle.table_state.specs.declared.history.Sealed.{Sealed}
use Rattle.table_state.specs.declared.operation.Op.{Op}
use Rattle.table_state.specs.Histories.{entry_of, has_ticket, is_of}
use Rattle.order_laws.specs.Commits.{FollowsLower, KeepsOrder, Once, RiseBetween, pending}
use Rattle.order_laws.specs.Events.{Event, Came, Left, Others}
use Rattle.propagators.specs.Rounds.{Leads, came_in, left_in}
use Rattle.cache_tier.specs.Rounds.{Mixes}

-- what comes behind the history

abbrev pub tail_in : List Event → List Entry
tail_in [] = []
tail_in (Others ops ∷ events) = Foreign ops ∷ tail_in events
tail_in (Came s ∷ events) = entry_of s ∷ tail_in events
tail_in (Left s ∷ events) = tail_in events

pub later_is : (shared : List TableId) (events : List Event) (h later : List Entry) (us left : List Sealed) → Leads shared events h us later left → later ≡ h ++ tail_in events
later_is shared [] h later us left l = l.0 ∙ sym (append-nil h)
later_is shared (Others ops ∷ events) h later us left l = later_is shared events (h ++ Foreign ops ∷ []) later us left l.1 ∙ append_assoc h (Foreign ops ∷ []) (tail_in events)
later_is shared (Came s ∷ events) h later us left l = later_is shared events (h ++ entry_of s ∷ []) later us left l.2 ∙ append_assoc h (entry_of s ∷ []) (tail_in events)
later_is shared (Left s ∷ events) h later us left l = later_is shared events h later l.0 left l.3

pub mixes : (shared : List TableId) (events : List Event) (h later : List Entry) (us left : List Sealed) → Leads shared events h us later left → Mixes shared (came_in events) h (tail_in events)
mixes shared [] h later us left l = refl
mixes shared (Others ops ∷ events) h later us left l = (l.0, mixes shared events (h ++ Foreign ops ∷ []) later us left l.1)
mixes shared (Came s ∷ events) h later us left l = (s, came_in events, refl, refl, mixes shared events (h ++ entry_of s ∷ []) later us left l.2)
mixes shared (Left s ∷ events) h later us left l = mixes shared events h later l.0 left l.3

-- tickets that stand there stay

or_left : (a b : Bool) → a ≡ true → (a || b) ≡ true
or_left true b e = refl
or_left false b e = cc

pub still_there : (ticket : ℕ) (h more : List Entry) → has_ticket ticket h ≡ true → has_ticket ticket (h ++ more) ≡ true
still_there ticket [] more there = cc
still_there ticket (e ∷ h) more there = by (is_of ticket e) there (still_there ticket h more)
  where
    by : (b : Bool) → (b || has_ticket ticket h) ≡ true → (has_ticket ticket h ≡ true → has_ticket ticket (h ++ more) ≡ true) → (b || has_ticket ticket (h ++ more)) ≡ true
    by true there rest = refl
    by false there rest = rest there

-- each of these stands in the history
abbrev pub Stand : List Sealed → List Entry → Type 0
Stand [] h = Unit {0}
Stand (s ∷ ss) h = (has_ticket s.ticket.0 h ≡ true) × Stand ss h

pub stand_on : (ss : List Sealed) (h more : List Entry) → Stand ss h → Stand ss (h ++ more)
stand_on [] h more stand = tt
stand_on (s ∷ ss) h more stand = (still_there s.ticket.0 h more stand.0, stand_on ss h more stand.1)

stand_push : (ss : List Sealed) (s : Sealed) (h : List Entry) → Stand ss h → has_ticket s.ticket.0 h ≡ true → Stand (ss ++ s ∷ []) h
stand_push [] s h stand there = (there, tt)
stand_push (x ∷ ss) s h stand there = (stand.0, stand_push ss s h stand.1 there)

pub none_pending : (ss : List Sealed) (h : List Entry) → Stand ss h → pending h ss ≡ []
none_pending [] h stand = refl
none_pending (s ∷ ss) h stand = ap (λ b. cond (not b) (s ∷ pending h ss) (pending h ss)) stand.0 ∙ none_pending ss h stand.1

pub left_stand : (shared : List TableId) (events : List Event) (h later : List Entry) (us left : List Sealed) → Leads shared events h us later left → Stand (left_in events) later
left_stand shared [] h later us left l = tt
left_stand shared (Others ops ∷ events) h later us left l = left_stand shared events (h ++ Foreign ops ∷ []) later us left l.1
left_stand shared (Came s ∷ events) h later us left l = left_stand shared events (h ++ entry_of s ∷ []) later us left l.2
left_stand shared (Left s ∷ events) h later us left l =
    (subst (λ x. has_ticket s.ticket.0 x ≡ true) (sym (later_is shared events h later l.0 left l.3)) (still_there s.ticket.0 h (tail_in events) l.2), left_stand shared events h later l.0 left l.3)

-- what came was pending

behind_one : (y x : Sealed) (xs : List Sealed) → Contains xs x → Contains (y ∷ xs) x
behind_one y x xs there = Contains-append_right (y ∷ []) xs x there

head_there : (x : Sealed) (xs : List Sealed) → Contains (x ∷ xs) x
head_there x xs = (0, omega arith, refl)

pending_before : (us : List Sealed) (h more : List Entry) → All (Contains (pending h us)) (pending (h ++ more) us)
pending_before [] h more = All-nil (Contains (pending h []))
pending_before (u ∷ us) h more = by (has_ticket u.ticket.0 h) (has_ticket u.ticket.0 (h ++ more)) (still_there u.ticket.0 h more) (pending_before us h more)
  where
    by : (b c : Bool) → (b ≡ true → c ≡ true) → All (Contains (pending h us)) (pending (h ++ more) us) → All (Contains (cond (not b) (u ∷ pending h us) (pending h us))) (cond (not c) (u ∷ pending (h ++ more) us) (pending (h ++ more) us))
    by true true keeps all = all
    by true false keeps all = let no : false ≡ true = keeps refl in cc
    by false true keeps all = All-weaker (Contains (pending h us)) (Contains (u ∷ pending h us)) (λ x. behind_one u x (pending h us)) (pending (h ++ more) us) all
    by false false keeps all =
        All-cons (Contains (u ∷ pending h us)) u (pending (h ++ more) us) (head_there u (pending h us))
        (All-weaker (Contains (pending h us)) (Contains (u ∷ pending h us)) (λ x. behind_one u x (pending h us)) (pending (h ++ more) us) all)

came_on : (us : List Sealed) (h more : List Entry) (xs : List Sealed) → All (Contains (pending (h ++ more) us)) xs → All (Contains (pending h us)) xs
came_on us h more xs all =
    All-weaker (Contains (pending (h ++ more) us)) (Contains (pending h us))
    (λ x there. All-contains (Contains (pending h us)) (pending (h ++ more) us) x (pending_before us h more) there) xs all

fresh_there : (s : Sealed) (us rest : List Sealed) (h : List Entry) → us ≡ s ∷ rest → has_ticket s.ticket.0 h ≡ false → Contains (pending h us) s
fresh_there s us rest h is fresh =
    subst (λ x. Contains (pending h x) s) (sym is)
    (subst (λ b. Contains (cond (not b) (s ∷ pending h rest) (pending h rest)) s) (sym fresh) (head_there s (pending h rest)))

behind_left : (s x : Sealed) (rest : List Sealed) (h : List Entry) → Contains (pending h rest) x → Contains (pending h (s ∷ rest)) x
behind_left s x rest h there = by (has_ticket s.ticket.0 h)
  where
    by : (b : Bool) → Contains (cond (not b) (s ∷ pending h rest) (pending h rest)) x
    by true = there
    by false = behind_one s x (pending h rest) there

pub were_pending : (shared : List TableId) (events : List Event) (h later : List Entry) (us left : List Sealed) → Leads shared events h us later left → All (Contains (pending h us)) (came_in events)
were_pending shared [] h later us left l = All-nil (Contains (pending h us))
were_pending shared (Others ops ∷ events) h later us left l = came_on us h (Foreign ops ∷ []) (came_in events) (were_pending shared events (h ++ Foreign ops ∷ []) later us left l.1)
were_pending shared (Came s ∷ events) h later us left l =
    All-cons (Contains (pending h us)) s (came_in events) (fresh_there s us l.0.0 h l.0.1 l.1.fresh)
    (came_on us h (entry_of s ∷ []) (came_in events) (were_pending shared events (h ++ entry_of s ∷ []) later us left l.2))
were_pending shared (Left s ∷ events) h later us left l =
    subst (λ x. All (Contains (pending h x)) (came_in events)) (sym l.1)
    (All-weaker (Contains (pending h l.0)) (Contains (pending h (s ∷ l.0))) (λ x. behind_left s x l.0 h) (came_in events) (were_pending shared events h later l.0 left l.3))

-- each ticket stands there once

not_there : (ticket : ℕ) (h more : List Entry) → has_ticket ticket h ≡ false → has_ticket ticket more ≡ false → has_ticket ticket (h ++ more) ≡ false
not_there ticket [] more one other = other
not_there ticket (e ∷ h) more one other = by (is_of ticket e) one (not_there ticket h more)
  where
    by : (b : Bool) → (b || has_ticket ticket h) ≡ false → (has_ticket ticket h ≡ false → has_ticket ticket more ≡ false → has_ticket ticket (h ++ more) ≡ false) → (b || has_ticket ticket (h ++ more)) ≡ false
    by true one rest = cc
    by false one rest = rest one other

apart : (a b : ℕ) → nat_eq a b ≡ false → nat_eq b a ≡ false
apart a b differ = by (nat_eq b a) refl
  where
    by : (c : Bool) → nat_eq b a ≡ c → c ≡ false
    by true same =
        let eq : b ≡ a = eqb-true b a same in
        let no : true ≡ false = sym (eq-eqb a b (sym eq)) ∙ differ in cc
    by false same = refl

both_false : (a b : Bool) → (a || b) ≡ false → (a ≡ false) × (b ≡ false)
both_false true b e = cc
both_false false b e = (refl, e)

once_push : (h : List Entry) (s : Sealed) → Once h → has_ticket s.ticket.0 h ≡ false → Once (h ++ entry_of s ∷ [])
once_push [] s once fresh = (refl, tt)
once_push (Definition def ∷ h) s once fresh = once_push h s once fresh
once_push (Foreign ops ∷ h) s once fresh = once_push h s once fresh
once_push (Own ticket ops ∷ h) s once fresh =
    let both = both_false (nat_eq ticket.0 s.ticket.0) (has_ticket s.ticket.0 h) fresh in (
      not_there ticket.0 h (entry_of s ∷ []) once.0 (ap (λ b. b || false) (apart ticket.0 s.ticket.0 both.0)),
      once_push h s once.1 both.1,
    )

once_foreign : (h : List Entry) (ops : List Op) → Once h → Once (h ++ Foreign ops ∷ [])
once_foreign [] ops once = tt
once_foreign (Definition def ∷ h) ops once = once_foreign h ops once
once_foreign (Foreign others ∷ h) ops once = once_foreign h ops once
once_foreign (Own ticket own ∷ h) ops once = (not_there ticket.0 h (Foreign ops ∷ []) once.0 refl, once_foreign h ops once.1)

pub once_later : (shared : List TableId) (events : List Event) (h later : List Entry) (us left : List Sealed) → Leads shared events h us later left → Once h → Once later
once_later shared [] h later us left l once = subst Once (sym l.0) once
once_later shared (Others ops ∷ events) h later us left l once = once_later shared events (h ++ Foreign ops ∷ []) later us left l.1 (once_foreign h ops once)
once_later shared (Came s ∷ events) h later us left l once = once_later shared events (h ++ entry_of s ∷ []) later us left l.2 (once_push h s once l.1.fresh)
once_later shared (Left s ∷ events) h later us left l once = once_later shared events h later l.0 left l.3 once

-- they come in commit order

follow_rest : (conflict : Sealed → Sealed → Bool) (low high : ℕ) (rest : List Sealed) (s : Sealed) (h : List Entry) → s.ticket.0 ≤ low → RiseBetween low rest high → FollowsLower conflict rest s h
follow_rest conflict low high [] s h le rise = tt
follow_rest conflict low high (x ∷ rest) s h le rise = (
  λ lt meets. let from = rise.0 in absurd (omega (arith, from)),
  follow_rest conflict (x.ticket.0 + 1) high rest s h (let from = rise.0 in omega (arith, from)) rise.1,
)

follow_lower : (conflict : Sealed → Sealed → Bool) (low high : ℕ) (gone us rest : List Sealed) (s : Sealed) (h : List Entry) → Stand gone h → us ≡ s ∷ rest → RiseBetween low us high → FollowsLower conflict (gone ++ us) s h
follow_lower conflict low high [] us rest s h stand is rise =
    let here : RiseBetween low (s ∷ rest) high = subst (λ x. RiseBetween low x high) is rise in
    subst (λ x. FollowsLower conflict x s h) (sym is)
    (λ lt meets. absurd (omega arith), follow_rest conflict (s.ticket.0 + 1) high rest s h (omega arith) here.1)
follow_lower conflict low high (x ∷ gone) us rest s h stand is rise = (λ lt meets. stand.0, follow_lower conflict low high gone us rest s h stand.1 is rise)

pub keeps_order : (shared : List TableId) (conflict : Sealed → Sealed → Bool) (low high : ℕ) (gone : List Sealed) (events : List Event) (h later : List Entry) (us left : List Sealed) → Stand gone h → RiseBetween low us high → Leads shared events h us later left → KeepsOrder conflict (gone ++ us) h (tail_in events)
keeps_order shared conflict low high gone [] h later us left stand rise l = tt
keeps_order shared conflict low high gone (Others ops ∷ events) h later us left stand rise l =
    keeps_order shared conflict low high gone events (h ++ Foreign ops ∷ []) later us left (stand_on gone h (Foreign ops ∷ []) stand) rise l.1
keeps_order shared conflict low high gone (Came s ∷ events) h later us left stand rise l = (
  λ known. follow_lower conflict low high gone us l.0.0 s h stand l.0.1 rise,
  keeps_order shared conflict low high gone events (h ++ entry_of s ∷ []) later us left (stand_on gone h (entry_of s ∷ []) stand) rise l.2,
)
keeps_order shared conflict low high gone (Left s ∷ events) h later us left stand rise l =
    let here : RiseBetween low (s ∷ l.0) high = subst (λ x. RiseBetween low x high) l.1 rise in
    let rest : KeepsOrder conflict ((gone ++ s ∷ []) ++ l.0) h (tail_in events) =
    keeps_order shared conflict (s.ticket.0 + 1) high (gone ++ s ∷ []) events h later l.0 left (stand_push gone s h stand l.2) here.1 l.3 in
    subst (λ x. KeepsOrder conflict x h (tail_in events)) (append_assoc gone (s ∷ []) l.0 ∙ ap (λ x. gone ++ x) (sym l.1)) rest
