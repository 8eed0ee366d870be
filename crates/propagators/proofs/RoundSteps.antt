-- What one call of the bank does for a round of propagation.
use Rattle.std.proofs.Common.{◌≡◌, ℕ, ◌≤◌, ◌<◌, ◌⊎◌, List, [], ◌∷◌, ◌++◌, Bool, true, false, ◌||◌, drop, length, Option, Some, None, refl, sym, ◌∙◌, ap, subst, arith, inl, inr, get_or, unwrap_or, append_assoc}
use Rattle.std.specs.Prelude.{Ok, Err}
use Rattle.std.specs.List.{Contains}
use Rattle.std.specs.Option.{IsSome}
use Rattle.std.proofs.lemmas.Bool.{eq-eqb}
use Rattle.std.proofs.lemmas.List.{append-nil}
use Rattle.std.proofs.lemmas.List.Elements.{Contains-append_cases, Contains-append_left, Contains-append_right}
use Rattle.row_types.specs.declared.value.Value.{Value}
use Rattle.tier_base.specs.declared.number.TableId.{TableId}
use Rattle.table_state.specs.declared.history.Entry.{Entry}
use Rattle.table_state.specs.declared.history.Entry.TheVariants.{Definition, Foreign, Own}
use Rattle.table_state.specs.declared.history.Sealed.{Sealed}
use Rattle.table_state.specs.Histories.{entry_of, has_ticket, is_of}
use Rattle.outside.specs.Bank.{Comes}
use Rattle.outside.specs.Calls.{BankCall, Told}
use Rattle.outside.specs.Holding.{Held}
use Rattle.outside.specs.Others.{AreOthers}
use Rattle.order_laws.specs.Events.{Event, Came, Left, Others}
use Rattle.propagators.specs.declared.rounds.RoundFault.{RoundFault}
use Rattle.propagators.specs.declared.rounds.RoundFault.TheVariants as stop
use Rattle.propagators.specs.Rounds.{DifferedAt, FirstDiffers, HoldsRound, Leads, Round, Settles, TellsRound, came_in, doubts_at, left_in}

-- events, and then others
pub leads_on : (shared : List TableId) (one other : List Event) (h mid later : List Entry) (us usm left : List Sealed) → Leads shared one h us mid usm → Leads shared other mid usm later left → Leads shared (one ++ other) h us later left
leads_on shared [] other h mid later us usm left a b =
    subst (λ (l : List Entry). Leads shared other l us later left) a.0 (subst (λ (x : List Sealed). Leads shared other mid x later left) a.1 b)
leads_on shared (Others ops ∷ one) other h mid later us usm left a b = (a.0, leads_on shared one other (h ++ Foreign ops ∷ []) mid later us usm left a.1 b)
leads_on shared (Came s ∷ one) other h mid later us usm left a b = (a.0, a.1, leads_on shared one other (h ++ entry_of s ∷ []) mid later us usm left a.2 b)
leads_on shared (Left s ∷ one) other h mid later us usm left a b = (a.0, a.1, a.2, leads_on shared one other h mid later a.0 usm left a.3 b)

came_both : (one other : List Event) → came_in (one ++ other) ≡ came_in one ++ came_in other
came_both [] other = refl
came_both (Others ops ∷ one) other = came_both one other
came_both (Came s ∷ one) other = ap (λ l. s ∷ l) (came_both one other)
came_both (Left s ∷ one) other = came_both one other

left_both : (one other : List Event) → left_in (one ++ other) ≡ left_in one ++ left_in other
left_both [] other = refl
left_both (Others ops ∷ one) other = left_both one other
left_both (Came s ∷ one) other = left_both one other
left_both (Left s ∷ one) other = ap (λ l. s ∷ l) (left_both one other)

none_of : (xs : List Sealed) → length xs ≤ 0 → xs ≡ []
none_of [] few = refl
none_of (x ∷ xs) few = absurd (Prim.omega arith)

-- a round without doubts, and then another
pub round_on : (shared : List TableId) (few : ℕ) (us usm left : List Sealed) (h mid later : List Entry) → Round shared 0 us h usm mid → Round shared few usm mid left later → Round shared few us h left later
round_on shared few us usm left h mid later a b =
    let none : a.doubtful ≡ [] = none_of a.doubtful a.at_most in
    let came : came_in a.events ≡ a.certain = a.came ∙ ap (λ l. a.certain ++ l) none ∙ append-nil a.certain in
    record {
      events = a.events ++ b.events;
      leads = leads_on shared a.events b.events h mid later us usm left a.leads b.leads;
      certain = a.certain ++ b.certain;
      doubtful = b.doubtful;
      came = came_both a.events b.events ∙ ap (λ l. l ++ came_in b.events) came ∙ ap (λ l. a.certain ++ l) b.came ∙ sym (append_assoc a.certain b.certain b.doubtful);
      settled = λ s c. subst (λ (l : List Sealed). Contains l s) (sym (left_both a.events b.events)) (either s (Contains-append_cases a.certain b.certain s c));
      at_most = b.at_most;
    }
  where
    either : (s : Sealed) → Contains a.certain s ⊎ Contains b.certain s → Contains (left_in a.events ++ left_in b.events) s
    either s (inl p) = Contains-append_left (left_in a.events) (left_in b.events) s (a.settled s p)
    either s (inr p) = Contains-append_right (left_in a.events) (left_in b.events) s (b.settled s p)

nobody : (x : Sealed) → Contains [] x → ⊥
nobody x there = let lt : there.0 < 0 = there.1 in Prim.omega arith

-- nothing happens
pub round_here : (shared : List TableId) (us : List Sealed) (h : List Entry) → Round shared 0 us h us h
round_here shared us h = record { events = []; leads = (refl, refl); certain = []; doubtful = []; came = refl; settled = λ s c. absurd (nobody s c); at_most = Prim.omega arith }

-- transactions of others come
record Coming (shared : List TableId) (us : List Sealed) (h later : List Entry) : Type 0 where
  events : List Event
  leads : Leads shared events h us later us
  none : came_in events ≡ []

others_come : (shared : List TableId) (us : List Sealed) (h more : List Entry) → AreOthers shared h more → Coming shared us h (h ++ more)
others_come shared us h [] o = record { events = []; leads = (append-nil h, refl); none = refl }
others_come shared us h (Foreign ops ∷ more) o =
    let rest = others_come shared us (h ++ Foreign ops ∷ []) more o.2 in
    record {
      events = Others ops ∷ rest.events;
      leads = ((o.0, o.1, tt), subst (λ (l : List Entry). Leads shared rest.events (h ++ Foreign ops ∷ []) us l us) (append_assoc h (Foreign ops ∷ []) more) rest.leads);
      none = rest.none;
    }
others_come shared us h (Definition def ∷ more) o = absurd o
others_come shared us h (Own ticket ops ∷ more) o = absurd o

round_others : (shared : List TableId) (us : List Sealed) (h more : List Entry) → AreOthers shared h more → Round shared 0 us h us (h ++ more)
round_others shared us h more o =
    let c = others_come shared us h more o in
    record { events = c.events; leads = c.leads; certain = []; doubtful = []; came = c.none; settled = λ s x. absurd (nobody s x); at_most = Prim.omega arith }

-- the entry of a transaction has its ticket
own_there : (s : Sealed) (h : List Entry) → has_ticket s.ticket.0 (h ++ entry_of s ∷ []) ≡ true
own_there s [] = ap (λ b. b || false) (eq-eqb s.ticket.0 s.ticket.0 refl)
own_there s (e ∷ h) = ap (λ b. is_of s.ticket.0 e || b) (own_there s h) ∙ or_true (is_of s.ticket.0 e)
  where
    or_true : (b : Bool) → (b || true) ≡ true
    or_true true = refl
    or_true false = refl

-- the first one comes, and stays among the unsettled ones
round_came : (shared : List TableId) (s : Sealed) (rest : List Sealed) (h later : List Entry) → Comes s [] h later → Round shared 1 (s ∷ rest) h (s ∷ rest) later
round_came shared s rest h later c =
    subst (λ (l : List Entry). Round shared 1 (s ∷ rest) h (s ∷ rest) l) (sym c.grows)
    (record { events = Came s ∷ []; leads = ((rest, refl), c.can, (refl, refl)); certain = []; doubtful = s ∷ []; came = refl; settled = λ x there. absurd (nobody x there); at_most = Prim.omega arith })

-- it comes and leaves
round_settled : (shared : List TableId) (s : Sealed) (rest : List Sealed) (h later : List Entry) → Comes s [] h later → Round shared 0 (s ∷ rest) h rest later
round_settled shared s rest h later c =
    subst (λ (l : List Entry). Round shared 0 (s ∷ rest) h rest l) (sym c.grows)
    (record { events = Came s ∷ Left s ∷ []; leads = ((rest, refl), c.can, (rest, refl, own_there s h, (refl, refl))); certain = s ∷ []; doubtful = []; came = refl; settled = λ x there. there; at_most = Prim.omega arith })

-- it came before, and leaves
round_left : (shared : List TableId) (s : Sealed) (rest : List Sealed) (h later : List Entry) → has_ticket s.ticket.0 h ≡ true → later ≡ h ++ [] → Round shared 0 (s ∷ rest) h rest later
round_left shared s rest h later there grows =
    subst (λ (l : List Entry). Round shared 0 (s ∷ rest) h rest l) (sym (grows ∙ append-nil h))
    (record { events = Left s ∷ []; leads = (rest, refl, there, (refl, refl)); certain = []; doubtful = []; came = refl; settled = λ x c. absurd (nobody x c); at_most = Prim.omega arith })

-- nothing of the tier's comes
round_stays : (shared : List TableId) (few : ℕ) (us : List Sealed) (h later : List Entry) → later ≡ h ++ [] → Round shared few us h us later
round_stays shared few us h later grows =
    subst (λ (l : List Entry). Round shared few us h us l) (sym (grows ∙ append-nil h))
    (record { events = []; leads = (refl, refl); certain = []; doubtful = []; came = refl; settled = λ x c. absurd (nobody x c); at_most = Prim.omega arith })

-- a round that may have a doubt, and transactions of others behind it
round_behind : (shared : List TableId) (few : ℕ) (us left : List Sealed) (h mid more : List Entry) → Round shared few us h left mid → AreOthers shared mid more → Round shared few us h left (mid ++ more)
round_behind shared few us left h mid more a o =
    let b = others_come shared left mid more o in
    record {
      events = a.events ++ b.events;
      leads = leads_on shared a.events b.events h mid (mid ++ more) us left left a.leads b.leads;
      certain = a.certain;
      doubtful = a.doubtful;
      came = came_both a.events b.events ∙ ap (λ l. came_in a.events ++ l) b.none ∙ append-nil (came_in a.events) ∙ a.came;
      settled = λ s c. subst (λ (l : List Sealed). Contains l s) (sym (left_both a.events b.events)) (Contains-append_left (left_in a.events) (left_in b.events) s (a.settled s c));
      at_most = a.at_most;
    }

-- a call of the bank, with transactions of others before and behind its own step
called : (shared : List TableId) (few : ℕ) (us left : List Sealed) (step : List Entry → List Entry → Type 0) (before after : Held)
    → ((h h' : List Entry) → step h h' → Round shared few us h left h') → BankCall shared step before after → HoldsRound shared few us left before after
called shared few us left step before after own call =
    let a = call.history in
    let front = round_others shared us before.history a.before a.came_before in
    let middle = own (before.history ++ a.before) a.middle a.own in
    let behind = round_behind shared few us left (before.history ++ a.before) a.middle a.behind middle a.came_behind in
    record {
      slots = call.slots;
      round = subst (λ (l : List Entry). Round shared few us before.history left l) (sym a.is)
          (round_on shared few us us left before.history (before.history ++ a.before) (a.middle ++ a.behind) front behind);
    }

told_call : (shared : List TableId) (few : ℕ) (us left : List Sealed) (step : List Entry → List Entry → Type 0) (told told' : Option Held)
    → ((h h' : List Entry) → step h h' → Round shared few us h left h') → Told told told' (BankCall shared step) → TellsRound shared told told' few us left
told_call shared few us left step None told' own call = tt
told_call shared few us left step (Some before) None own call = absurd call
told_call shared few us left step (Some before) (Some after) own call = called shared few us left step before after own call

-- one that got its receipt leaves
pub settled_goes : (shared : List TableId) (told told' : Option Held) (old rest : List Sealed) (s : Sealed) (done : Unit {0}) → old ≡ s ∷ rest → Told told told' (BankCall shared (Settles s (Ok done))) → TellsRound shared told told' 0 old rest
settled_goes shared told told' old rest s done e call =
    subst (λ (l : List Sealed). TellsRound shared told told' 0 l rest) (sym e)
    (told_call shared 0 (s ∷ rest) rest (Settles s (Ok done)) told told' own call)
  where
    own : (h h' : List Entry) → Settles s (Ok done) h h' → Round shared 0 (s ∷ rest) h rest h'
    own h h' (inl c) = round_settled shared s rest h h' c
    own h h' (inr p) = round_left shared s rest h h' p.0 p.1

-- at a fault nothing leaves
pub stopped_goes : (shared : List TableId) (told told' : Option Held) (old rest : List Sealed) (s : Sealed) (fault : RoundFault) → old ≡ s ∷ rest → Told told told' (BankCall shared (Settles s (Err fault))) → TellsRound shared told told' (doubts_at fault) old old
stopped_goes shared told told' old rest s stop.Failed e call =
    subst (λ (l : List Sealed). TellsRound shared told told' 1 l l) (sym e)
    (told_call shared 1 (s ∷ rest) (s ∷ rest) (Settles s (Err stop.Failed)) told told' own call)
  where
    own : (h h' : List Entry) → Settles s (Err stop.Failed) h h' → Round shared 1 (s ∷ rest) h (s ∷ rest) h'
    own h h' (inl grows) = round_stays shared 1 (s ∷ rest) h h' grows
    own h h' (inr c) = round_came shared s rest h h' c
stopped_goes shared told told' old rest s stop.Memory e call =
    told_call shared 0 old old (Settles s (Err stop.Memory)) told told' (λ h h' grows. round_stays shared 0 old h h' grows) call
stopped_goes shared told told' old rest s (stop.Differs table key) e call =
    told_call shared 0 old old (Settles s (Err (stop.Differs table key))) told told' (λ h h' step. round_stays shared 0 old h h' step.1) call

-- a round is told behind another
pub goes_on : (shared : List TableId) (few : ℕ) (a b c : Option Held) (us usm left : List Sealed) → TellsRound shared a b 0 us usm → TellsRound shared b c few usm left → TellsRound shared a c few us left
goes_on shared few None b c us usm left x y = tt
goes_on shared few (Some a) None c us usm left x y = absurd x
goes_on shared few (Some a) (Some b) None us usm left x y = absurd y
goes_on shared few (Some a) (Some b) (Some c) us usm left x y =
    record { slots = y.slots ∙ x.slots; round = round_on shared few us usm left a.history b.history c.history x.round y.round }

-- nothing was called
pub goes_same : (shared : List TableId) (told : Option Held) (us : List Sealed) → TellsRound shared told told 0 us us
goes_same shared None us = tt
goes_same shared (Some held) us = record { slots = refl; round = round_here shared us held.history }

-- what others change is the same
pub shared_call : (x y : List TableId) (told told' : Option Held) (step : List Entry → List Entry → Type 0) → x ≡ y → Told told told' (BankCall x step) → Told told told' (BankCall y step)
shared_call x y told told' step e call = subst (λ (l : List TableId). Told told told' (BankCall l step)) e call

pub first_leaves : (xs : List Sealed) (s : Sealed) → 0 < length xs → s ≡ get_or xs 0 s → xs ≡ s ∷ drop 1 xs
first_leaves [] s some e = absurd (Prim.omega arith)
first_leaves (x ∷ xs) s some e = ap (λ y. y ∷ xs) (sym e)

pub told_stays : (told told' : Option Held) (step : Held → Held → Type 0) → Told told told' step → IsSome told → IsSome told'
told_stays None told' step t some = Prim.cc
told_stays (Some held) None step t some = absurd t
told_stays (Some held) (Some held') step t some = refl

-- where a row differs, the first one left is the one that differs
pub first_differs : (shared : List TableId) (told told' : Option Held) (old rest : List Sealed) (s : Sealed) (fault : RoundFault) (table : TableId) (key : List Value) → old ≡ s ∷ rest → Told told told' (BankCall shared (Settles s (Err fault))) → fault ≡ stop.Differs table key → IsSome told
    → (held : Held) → told' ≡ Some held → DifferedAt shared table key old held.history
first_differs shared None told' old rest s fault table key e call is some held tells = Prim.cc
first_differs shared (Some before) None old rest s fault table key e call is some held tells = absurd call
first_differs shared (Some before) (Some after) old rest s fault table key e call is some held tells =
    let done : BankCall shared (Settles s (Err (stop.Differs table key))) before after = subst (λ (f : RoundFault). BankCall shared (Settles s (Err f)) before after) is call in
    let a = done.history in
    let h = before.history ++ a.before in
    let tried : h ≡ a.middle = sym (append-nil h) ∙ sym a.own.1 in
    record {
      front = a.middle;
      behind = a.behind;
      is = ap (λ (o : Option Held). (unwrap_or o after).history) (sym tells) ∙ a.is;
      others = a.came_behind;
      one = s;
      there = (rest, e);
      first = subst (λ (l : List Entry). FirstDiffers table key s l) tried a.own.0;
    }
