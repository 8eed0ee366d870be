-- The words for parts, and tickets that stand once.
use Rattle.std.proofs.Common.{◌≡◌, ◌⊎◌, inl, inr, ℕ, zero, ◌<◌, ◌≤◌, List, [], ◌∷◌, ◌++◌, Bool, true, false, cond, ◌||◌, not, nat_eq, Option, Some, None, Result, Ok, Err, append_assoc, refl, sym, ap, subst, ◌∙◌, arith}
use Rattle.std.proofs.lemmas.Bool.{eqb-true, eq-eqb}
use Rattle.std.proofs.lemmas.List.Elements.{Contains-append_cases, Contains-append_left, Contains-append_right}
use Rattle.std.specs.Bool.{MatchBool}
use Rattle.std.specs.List.{Contains, filter}
use Rattle.row_types.specs.declared.rule.Rule.{Rule}
use Rattle.tier_base.specs.declared.number.TableId.{TableId}
use Rattle.tier_base.specs.declared.number.Ticket.{Ticket}
use Rattle.table_state.specs.declared.history.Entry.{Entry}
use Rattle.table_state.specs.declared.history.Entry.TheVariants.{Definition, Foreign, Own}
use Rattle.table_state.specs.declared.history.Sealed.{Sealed}
use Rattle.table_state.specs.declared.operation.Op.{Op}
use Rattle.table_state.specs.Histories.{entry_of, has_ticket}
use Rattle.table_state.proofs.HistoryLaws.{has_ticket-append}
use Rattle.outside.specs.declared.fault.BankError.{BankError}
use Rattle.outside.specs.Others.{AreOthers}
use Rattle.cache_tier.specs.declared.reply.Reply.{Reply}
use Rattle.order_laws.specs.Commits.{Once}
use Rattle.cache_tier.specs.JournalSteps.{Flushes, FlushesFitting, FlushesKept, FlushesSome, Notes, NotesKept, Records, has_entries, journal_full}
use Rattle.cache_tier.specs.Journals.{JournalEntry}
use Rattle.cache_tier.specs.Reading.{Answers, FollowsAt, Reads, ReadsFirst, StageFollowsAt, TellsPosition}
use Rattle.cache_tier.specs.Rotations.{Rotates, is_long}
use Rattle.cache_tier.specs.Rounds.{Applies, AppliesAndRotates, Mixes, Round, RoundIfUnsettled, is_unsettled}
use Rattle.cache_tier.specs.Tickets.{AreOnce}
use Rattle.cache_tier.specs.TierStates.{Tier}
use Rattle.cache_tier.specs.Worlds.{Answer, BankCall, Becomes, Follows, OnlyWhere, Part, Passes, Quiet, Refuses, Stage, StageFollows, Then, ThenStage, Tries, Unless, World}

abbrev pub Keeps : World → World → Type 0
Keeps w w' = AreOnce w → AreOnce w'

-- the next ticket doesn't fall, and what is unsettled was so or is below it
abbrev pub TierKeeps : Tier → Tier → Type 0
TierKeeps t t' = (t.next ≤ t'.next) × ((s : Sealed) → Contains t'.unsettled s → Contains t.unsettled s ⊎ (s.ticket.0 < t'.next))

pub kept : (t : Tier) → TierKeeps t t
kept t = (omega arith, λ s c. inl c)

-- in a bound
below_either : {P : Type 0} (s : Sealed) (n m : ℕ) → (P → s.ticket.0 < n) → n ≤ m → P ⊎ (s.ticket.0 < m) → s.ticket.0 < m
below_either s n m f le (inl p) = let h = f p in omega (arith, h, le)
below_either s n m f le (inr q) = q

pub same : (w w' : World) → w' ≡ w → Keeps w w'
same w w' e = subst (λ x. Keeps w x) (sym e) (λ a. a)

pub on : (a b c : World) → Keeps a b → Keeps b c → Keeps a c
on a b c p q h = q (p h)

-- the tier changes, and the history stays
pub standing : (w w' : World) → w'.history ≡ w.history → TierKeeps w.tier w'.tier → Keeps w w'
standing w w' e k a = record {
  once = subst Once (sym e) a.once;
  stand = λ ticket there. let h = a.stand ticket (ap (has_ticket ticket) (sym e) ∙ there) in omega (arith, h, k.0);
  wait = λ s c. below_either s w.tier.next w'.tier.next (a.wait s) k.0 (k.1 s c);
}

pub tiered : (w : World) (t : Tier) → TierKeeps w.tier t → Keeps w (record w { tier = t })
tiered w t k = standing w (record w { tier = t }) refl k

abbrev pub PartLeads : Part → Type 0
PartLeads part = (w w' : World) (reply : Reply) → part w w' reply → Keeps w w'

abbrev pub StageLeads : Stage → Type 0
StageLeads stage = (w w' : World) (stop : Option Reply) → stage w w' stop → Keeps w w'

pub quiet : (answer : Answer) (w w' : World) (reply : Reply) → TierKeeps w.tier answer.0 → Quiet answer w w' reply → Keeps w w'
quiet answer w w' reply le q = subst (λ x. Keeps w x) (sym q.0) (tiered w answer.0 le)

pub refuses_leads : (rule : Rule) → PartLeads (Refuses rule)
refuses_leads rule w w' reply q = quiet _ w w' reply (kept w.tier) q

pub unless_leads : (o : Option Rule) (part : Part) → PartLeads part → PartLeads (Unless o part)
unless_leads None part p w w' reply q = p w w' reply q
unless_leads (Some rule) part p w w' reply q = refuses_leads rule w w' reply q

pub tries_leads : (part : Part) → PartLeads part → PartLeads (Tries part)
tries_leads part p w w' reply (inl q) = p w w' reply q
tries_leads part p w w' reply (inr q) = same w w' q.0

pub follows_leads : (stop : Option Reply) (part : Part) → PartLeads part → PartLeads (Follows stop part)
follows_leads None part p w w' reply q = p w w' reply q
follows_leads (Some stop) part p w w' reply q = same w w' q.0

pub then_leads : (stage : Stage) (part : Part) → StageLeads stage → PartLeads part → PartLeads (Then stage part)
then_leads stage part s p w w' reply q = on w q.mid w' (s w q.mid q.stop q.first) (follows_leads q.stop part p q.mid w' reply q.next)

pub stage_follows_leads : (stop : Option Reply) (stage : Stage) → StageLeads stage → StageLeads (StageFollows stop stage)
stage_follows_leads None stage s w w' end q = s w w' end q
stage_follows_leads (Some stop) stage s w w' end q = same w w' q.0

pub then_stage_leads : (one other : Stage) → StageLeads one → StageLeads other → StageLeads (ThenStage one other)
then_stage_leads one other s p w w' end q = on w q.mid w' (s w q.mid q.stop q.first) (stage_follows_leads q.stop other p q.mid w' end q.next)

pub passes_leads : StageLeads Passes
passes_leads w w' stop q = same w w' q.0

pub only_where_leads : (b : Bool) (stage : Stage) → StageLeads stage → StageLeads (OnlyWhere b stage)
only_where_leads true stage s w w' stop q = s w w' stop q
only_where_leads false stage s w w' stop q = same w w' q.0

pub becomes_leads : (change : World → Tier) → ((w : World) → TierKeeps w.tier (change w)) → StageLeads (Becomes change)
becomes_leads change le w w' stop q = subst (λ x. Keeps w x) (sym q.0) (tiered w (change w) (le w))

pub answers_leads : (answer : World → Answer) → ((w : World) → TierKeeps w.tier (answer w).0) → PartLeads (Answers answer)
answers_leads answer le w w' reply q = quiet (answer w) w w' reply (le w) q

pub either_leads : {P Q R : Type 0} (b : Bool) → (P → R) → (Q → R) → MatchBool b P Q → R
either_leads true p q x = p x
either_leads false p q x = q x

-- entries that come behind

abbrev pub HasNone : List Entry → Type 0
HasNone entries = (ticket : ℕ) → has_ticket ticket entries ≡ false

-- each ticket among them is new and below a bound, and stands there once
pub record Adds (next : ℕ) (old more : List Entry) : Type 0 where
  pub once : Once more
  pub fresh : (ticket : ℕ) → has_ticket ticket more ≡ true → (has_ticket ticket old ≡ false) × (ticket < next)

clash : {P : Type 0} (b : Bool) → b ≡ false → b ≡ true → P
clash b no_one one = cc

neither : (a b : Bool) → a ≡ false → b ≡ false → (a || b) ≡ false
neither false b p q = q
neither true b p q = cc

one_of : (a b : Bool) → (a || b) ≡ true → (a ≡ true) ⊎ (b ≡ true)
one_of true b e = inl refl
one_of false b e = inr e

left_out : (a b : Bool) → (a || b) ≡ false → a ≡ false
left_out true b e = cc
left_out false b e = refl

right_out : (a b : Bool) → (a || b) ≡ false → b ≡ false
right_out true b e = cc
right_out false b e = e

once_of_none : (entries : List Entry) → HasNone entries → Once entries
once_of_none [] none = tt
once_of_none (Definition def ∷ entries) none = once_of_none entries (λ t. right_out false (has_ticket t entries) (none t))
once_of_none (Foreign ops ∷ entries) none = once_of_none entries (λ t. right_out false (has_ticket t entries) (none t))
once_of_none (Own own ops ∷ entries) none = clash _ (left_out _ (has_ticket own.0 entries) (none own.0)) (eq-eqb own.0 own.0 refl)

-- a ticket that stands in front doesn't come again
not_again : (ticket : ℕ) (xs ys : List Entry) → ((t : ℕ) → has_ticket t ys ≡ true → has_ticket t xs ≡ false) → has_ticket ticket xs ≡ true → has_ticket ticket ys ≡ false
not_again ticket xs ys apart here = by (has_ticket ticket ys) refl
  where
    by : (b : Bool) → has_ticket ticket ys ≡ b → has_ticket ticket ys ≡ false
    by false e = e
    by true e = clash (has_ticket ticket xs) (apart ticket e) here

once_joined : (xs ys : List Entry) → Once xs → Once ys → ((t : ℕ) → has_ticket t ys ≡ true → has_ticket t xs ≡ false) → Once (xs ++ ys)
once_joined [] ys p q apart = q
once_joined (Definition def ∷ xs) ys p q apart = once_joined xs ys p q apart
once_joined (Foreign ops ∷ xs) ys p q apart = once_joined xs ys p q apart
once_joined (Own own ops ∷ xs) ys p q apart = (
  has_ticket-append own.0 xs ys ∙ neither _ _ p.0 (not_again own.0 (Own own ops ∷ xs) ys apart (ap (λ b. b || has_ticket own.0 xs) (eq-eqb own.0 own.0 refl))),
  once_joined xs ys p.1 q (λ t e. right_out _ (has_ticket t xs) (apart t e)),
)

others_none : (shared : List TableId) (front entries : List Entry) → AreOthers shared front entries → HasNone entries
others_none shared front [] a t = refl
others_none shared front (Foreign ops ∷ entries) a t = others_none shared (front ++ Foreign ops ∷ []) entries a.2 t
others_none shared front (Definition def ∷ entries) a t = absurd a
others_none shared front (Own own ops ∷ entries) a t = absurd a

-- what stands once and is below goes on so
pub behind : (w w' : World) (more : List Entry) → w'.history ≡ w.history ++ more → Adds w'.tier.next w.history more → TierKeeps w.tier w'.tier → Keeps w w'
behind w w' more e adds k a = record {
  once = subst Once (sym e) (once_joined w.history more a.once adds.once (λ t there. (adds.fresh t there).0));
  stand = λ ticket there. by ticket (one_of (has_ticket ticket w.history) (has_ticket ticket more) (sym (has_ticket-append ticket w.history more) ∙ ap (has_ticket ticket) (sym e) ∙ there));
  wait = λ s c. below_either s w.tier.next w'.tier.next (a.wait s) k.0 (k.1 s c);
}
  where
    by : (ticket : ℕ) → (has_ticket ticket w.history ≡ true) ⊎ (has_ticket ticket more ≡ true) → ticket < w'.tier.next
    by ticket (inl p) = let h = a.stand ticket p in omega (arith, h, k.0)
    by ticket (inr p) = (adds.fresh ticket p).1

-- what a call's own step adds
pub record AddsTo (next : ℕ) (old new : List Entry) : Type 0 where
  pub more : List Entry
  pub is : new ≡ old ++ more
  pub adds : Adds next old more

no_more_than : (next : ℕ) (old more : List Entry) → HasNone more → Adds next old more
no_more_than next old more none = record { once = once_of_none more none; fresh = λ t there. clash (has_ticket t more) (none t) there }

pub adds_none : (next : ℕ) (old new more : List Entry) → new ≡ old ++ more → HasNone more → AddsTo next old new
adds_none next old new more e none = record { more = more; is = e; adds = no_more_than next old more none }

same_ticket : (ticket : Ticket) (ops : List Op) (t : ℕ) → has_ticket t (Own ticket ops ∷ []) ≡ true → ticket.0 ≡ t
same_ticket ticket ops t there = by (one_of _ false there)
  where
    by : (nat_eq ticket.0 t ≡ true) ⊎ (false ≡ true) → ticket.0 ≡ t
    by (inl e) = eqb-true ticket.0 t e
    by (inr e) = cc

pub adds_own : (next : ℕ) (old new : List Entry) (ticket : Ticket) (ops : List Op) → new ≡ old ++ Own ticket ops ∷ [] → has_ticket ticket.0 old ≡ false → ticket.0 < next → AddsTo next old new
adds_own next old new ticket ops e fresh low = record {
  more = Own ticket ops ∷ [];
  is = e;
  adds = record {
    once = (refl, tt);
    fresh = λ t there. let here = same_ticket ticket ops t there in (ap (λ n. has_ticket n old) (sym here) ∙ fresh, omega (arith, here, low));
  };
}

-- what comes around an own step
around : (next : ℕ) (old before own after : List Entry) → HasNone before → HasNone after → Adds next (old ++ before) own → Adds next old (before ++ (own ++ after))
around next old before own after none_before none_after a = record {
  once = once_joined before (own ++ after) (once_of_none before none_before) (once_joined own after a.once (once_of_none after none_after) (λ t there. clash _ (none_after t) there)) (λ t there. none_before t);
  fresh = λ t there. first t (one_of _ _ (sym (has_ticket-append t before (own ++ after)) ∙ there));
}
  where
    second : (t : ℕ) → (has_ticket t own ≡ true) ⊎ (has_ticket t after ≡ true) → (has_ticket t old ≡ false) × (t < next)
    second t (inl p) = (left_out _ (has_ticket t before) (sym (has_ticket-append t old before) ∙ (a.fresh t p).0), (a.fresh t p).1)
    second t (inr p) = clash _ (none_after t) p

    first : (t : ℕ) → (has_ticket t before ≡ true) ⊎ (has_ticket t (own ++ after) ≡ true) → (has_ticket t old ≡ false) × (t < next)
    first t (inl p) = clash _ (none_before t) p
    first t (inr p) = second t (one_of _ _ (sym (has_ticket-append t own after) ∙ p))

pub bank_own_leads : (w w' : World) (step : List Entry → List Entry → Type 0) → ((before new : List Entry) → HasNone before → step (w.history ++ before) new → AddsTo w'.tier.next (w.history ++ before) new) → TierKeeps w.tier w'.tier → BankCall step w w' → Keeps w w'
bank_own_leads w w' step adds k c =
    let a = c.history in
    let none_before = others_none w.shared w.history a.before a.came_before in
    let none_after = others_none w.shared a.middle a.behind a.came_behind in
    let own = adds a.before a.middle none_before a.own in
    behind w w' (a.before ++ (own.more ++ a.behind))
    (a.is ∙ ap (λ x. x ++ a.behind) own.is ∙ append_assoc (w.history ++ a.before) own.more a.behind ∙ append_assoc w.history a.before (own.more ++ a.behind))
    (around w'.tier.next w.history a.before own.more a.behind none_before none_after own.adds) k

-- a call whose own step adds the same whatever it follows
pub bank_leads : (w w' : World) (step : List Entry → List Entry → Type 0) → ((next : ℕ) (old new : List Entry) → step old new → AddsTo next old new) → TierKeeps w.tier w'.tier → BankCall step w w' → Keeps w w'
bank_leads w w' step adds k c = bank_own_leads w w' step (λ before new none p. adds w'.tier.next (w.history ++ before) new p) k c

pub keeps_of : (w w' : World) (t : Tier) → w'.tier ≡ t → TierKeeps w.tier t → TierKeeps w.tier w'.tier
keeps_of w w' t e k = subst (λ (x : Tier). TierKeeps w.tier x) (sym e) k

position_adds : (result : Result ℕ BankError) (next : ℕ) (old new : List Entry) → TellsPosition result old new → AddsTo next old new
position_adds (Ok n) next old new p = adds_none next old new [] p.0 (λ t. refl)
position_adds (Err e) next old new p = adds_none next old new [] p (λ t. refl)

follows_at_leads : (result : Result ℕ BankError) (next : ℕ → Part) → ((n : ℕ) → PartLeads (next n)) → PartLeads (FollowsAt result next)
follows_at_leads (Ok n) next p w w' reply q = tries_leads (next n) (p n) w w' reply q
follows_at_leads (Err e) next p w w' reply q = same w w' q.0

pub reads_leads : (tried : Tier → Tier) (next : ℕ → Part) → ((t : Tier) → TierKeeps t (tried t)) → ((n : ℕ) → PartLeads (next n)) → PartLeads (Reads tried next)
reads_leads tried next le p w w' reply q =
    on w q.mid w' (bank_leads w q.mid (TellsPosition q.result) (position_adds q.result) (keeps_of w q.mid (tried w.tier) q.tier (le w.tier)) q.call) (follows_at_leads q.result next p q.mid w' reply q.goes_on)

stage_follows_at_leads : (result : Result ℕ BankError) (next : ℕ → Stage) → ((n : ℕ) → StageLeads (next n)) → StageLeads (StageFollowsAt result next)
stage_follows_at_leads (Ok n) next p w w' stop (inl q) = p n w w' stop q
stage_follows_at_leads (Ok n) next p w w' stop (inr q) = same w w' q.0
stage_follows_at_leads (Err e) next p w w' stop q = same w w' q.0

pub reads_first_leads : (tried : Tier → Tier) (next : ℕ → Stage) → ((t : Tier) → TierKeeps t (tried t)) → ((n : ℕ) → StageLeads (next n)) → StageLeads (ReadsFirst tried next)
reads_first_leads tried next le p w w' stop q =
    on w q.mid w' (bank_leads w q.mid (TellsPosition q.result) (position_adds q.result) (keeps_of w q.mid (tried w.tier) q.tier (le w.tier)) q.call) (stage_follows_at_leads q.result next p q.mid w' stop q.goes_on)

-- the journal

pub flushes_leads : (entries : List JournalEntry) → StageLeads (Flushes entries)
flushes_leads entries w w' stop f = only_where_leads w.journal.kept (FlushesKept entries) (λ x x' end q. standing x x' q.history (keeps_of x x' x.tier q.tier (kept x.tier))) w w' stop f

pub flushes_some_leads : (entries : List JournalEntry) → StageLeads (FlushesSome entries)
flushes_some_leads entries = only_where_leads (has_entries entries) (FlushesFitting entries) (λ w w' stop q. either_leads (journal_full w entries) (λ r. same w w' r.0) (λ f. flushes_leads entries w w' stop f) q)

notes_leads : (e : JournalEntry) → StageLeads (Notes e)
notes_leads e w w' stop q = only_where_leads w.journal.kept (NotesKept e) (λ x x' end n. standing x x' (ap (λ (y : World). y.history) n.0) (keeps_of x x' x.tier (ap (λ (y : World). y.tier) n.0) (kept x.tier))) w w' stop q

pub records_leads : (durable : Bool) (e : JournalEntry) → StageLeads (Records durable e)
records_leads true e w w' stop q = flushes_leads (e ∷ []) w w' stop q
records_leads false e w w' stop q = notes_leads e w w' stop q

rotates_leads : StageLeads Rotates
rotates_leads w w' stop r = standing w w' r.history (keeps_of w w' w.tier r.tier (kept w.tier))

-- rounds

filter_step : (x : Sealed) (xs rest : List Sealed) (s : Sealed) → (Contains rest s → Contains xs s) → (b : Bool) → Contains (cond b (x ∷ rest) rest) s → Contains (x ∷ xs) s
filter_step x xs rest s f false c = Contains-append_right (x ∷ []) xs s (f c)
filter_step x xs rest s f true c = by (Contains-append_cases (x ∷ []) rest s c)
  where
    by : Contains (x ∷ []) s ⊎ Contains rest s → Contains (x ∷ xs) s
    by (inl p) = Contains-append_left (x ∷ []) xs s p
    by (inr p) = Contains-append_right (x ∷ []) xs s (f p)

of_filter : (p : Sealed → Bool) (xs : List Sealed) (s : Sealed) → Contains (filter p xs) s → Contains xs s
of_filter p [] s c = c
of_filter p (x ∷ xs) s c = filter_step x xs (filter p xs) s (of_filter p xs s) (p x) c

abbrev ticket_of_entry : Entry → ℕ
ticket_of_entry (Definition def) = 0
ticket_of_entry (Foreign ops) = 0
ticket_of_entry (Own ticket ops) = ticket.0

-- a ticket that came is one of the transactions'
record IsOf (own : List Sealed) (ticket : ℕ) : Type 0 where
  s : Sealed
  there : Contains own s
  is : s.ticket.0 ≡ ticket

mixed_step : (own : List Sealed) (first : Sealed) (rest : List Sealed) (t : Ticket) (ops : List Op) (tail : List Entry) (ticket : ℕ) → own ≡ first ∷ rest → Own t ops ≡ entry_of first → (has_ticket ticket tail ≡ true → IsOf rest ticket) → (nat_eq t.0 ticket ≡ true) ⊎ (has_ticket ticket tail ≡ true) → IsOf own ticket
mixed_step own first rest t ops tail ticket e same f (inl p) = record { s = first; there = subst (λ xs. Contains xs first) (sym e) (zero, omega arith, refl); is = sym (ap ticket_of_entry same) ∙ eqb-true t.0 ticket p }
mixed_step own first rest t ops tail ticket e same f (inr p) =
    let later = f p in
    record { s = later.s; there = subst (λ xs. Contains xs later.s) (sym e) (Contains-append_right (first ∷ []) rest later.s later.there); is = later.is }

mixed : (shared : List TableId) (own : List Sealed) (front tail : List Entry) (ticket : ℕ) → Mixes shared own front tail → has_ticket ticket tail ≡ true → IsOf own ticket
mixed shared own front [] ticket m there = cc
mixed shared own front (Definition def ∷ tail) ticket m there = absurd m
mixed shared own front (Foreign ops ∷ tail) ticket m there = mixed shared own (front ++ Foreign ops ∷ []) tail ticket m.1 there
mixed shared own front (Own t ops ∷ tail) ticket m there = mixed_step own m.0 m.1 t ops tail ticket m.2 m.3 (λ e. mixed shared m.1 (front ++ Own t ops ∷ []) tail ticket m.4 e) (one_of _ (has_ticket ticket tail) there)

pub applies_leads : StageLeads Applies
applies_leads w w' stop a h = record {
  once = a.comes.once h.once;
  stand = λ ticket there. by ticket (one_of _ _ (sym (has_ticket-append ticket w.history a.comes.tail) ∙ ap (has_ticket ticket) (sym a.comes.is) ∙ there));
  wait = λ s c. let old = h.wait s (of_filter (λ x. not (a.left x)) w.tier.unsettled s (subst (λ (t : Tier). Contains t.unsettled s) a.tier c)) in omega (arith, old, next_same);
}
  where
    next_same : w'.tier.next ≡ w.tier.next
    next_same = ap (λ (t : Tier). t.next) a.tier

    by : (ticket : ℕ) → (has_ticket ticket w.history ≡ true) ⊎ (has_ticket ticket a.comes.tail ≡ true) → ticket < w'.tier.next
    by ticket (inl p) = let old = h.stand ticket p in omega (arith, old, next_same)
    by ticket (inr p) =
        let came = mixed w.shared a.came w.history a.comes.tail ticket a.comes.mixes p in
        let old = h.wait came.s (of_filter _ w.tier.unsettled came.s (a.comes.were_pending came.s came.there)) in
        omega (arith, old, came.is, next_same)

applies_and_rotates_leads : StageLeads AppliesAndRotates
applies_and_rotates_leads w w' stop a = on w a.mid w' (applies_leads w a.mid a.applied a.applies) (only_where_leads (is_long a.mid) Rotates rotates_leads a.mid w' a.turned a.rotates)

pub round_leads : StageLeads Round
round_leads = then_stage_leads (Flushes []) AppliesAndRotates (flushes_leads []) applies_and_rotates_leads

pub round_if_unsettled_leads : StageLeads RoundIfUnsettled
round_if_unsettled_leads w w' stop q = only_where_leads (is_unsettled w) Round round_leads w w' stop q
