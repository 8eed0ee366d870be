-- Points on the way of a journal, and what keeps each of them safe.
use Rattle.std.proofs.Common.{◌≡◌, ◌⊎◌, inl, inr, ℕ, ◌+◌, ◌≤◌, ◌<◌, ◌^◌, Bool, true, false, cond, nat_eq, Option, Some, None, List, [], ◌∷◌, ◌++◌, length, take, refl, sym, ap, subst, ◌∙◌, arith}
use Rattle.std.proofs.lemmas.Bool.{cases_lt}
use Rattle.std.proofs.lemmas.List.{length-append, take-append-le}
use Rattle.std.proofs.lemmas.Option.{same_Some}
use Rattle.tier_base.specs.declared.number.TableId.{TableId}
use Rattle.table_defs.specs.declared.definition.TableDef.{TableDef}
use Rattle.table_state.specs.declared.history.Entry.{Entry}
use Rattle.table_state.specs.declared.history.Entry.TheVariants.{Definition, Foreign, Own}
use Rattle.table_state.specs.declared.history.Sealed.{Sealed}
use Rattle.table_state.specs.Copies.{is_one_of}
use Rattle.table_state.specs.Histories.{state_of}
use Rattle.table_state.specs.Tables.{TableState}
use Rattle.order_laws.specs.Standing.{live_tables}
use Rattle.outside.specs.Others.{is_shared}
use Rattle.recovery_laws.specs.Crashes.{Among}
use Rattle.recovery_laws.specs.Matching.{IsMatched}
use Rattle.recovery_laws.specs.Notes.{commits_in, found, groups_of}
use Rattle.cache_tier.specs.Journals.{Commits, Defines, Drops, JournalEntry, Marks, Numbers, Prepares, SetsLoaded, SetsState, Stretch, Way, next_behind, passed_by}
use Rattle.cache_tier.specs.WayPoints.{IsPoint, turned_at}
use Rattle.recovery.specs.Recalling.{AreMatched, notes_of}
use Rattle.cache_tier.specs.JournalWays.{first_of}
use Rattle.cache_tier.specs.Groups.{Group}
use Rattle.recovery.specs.SafeWays.{AreUnshared, EachPoint, EndBy, IsHeldIn, IsSafeOn, IsSafeOnceRead, IsSafeWay, LeaveUnshared, commits_of}

-- ---- points

abbrev pub stretch_of : List JournalEntry → ℕ → Stretch
stretch_of entries until = record { entries = entries; until = until }

-- what is flushed now
point_now : (from : ℕ) (past : List Stretch) (flushed : List JournalEntry) (end count : ℕ) → turned_at from past ≤ count → count ≤ end → IsPoint from past flushed end flushed count
point_now from [] flushed end count lo hi = (lo, hi, refl)
point_now from (s ∷ past) flushed end count lo hi = inr (point_now s.until past flushed end count lo hi)

turned_push : (from : ℕ) (past : List Stretch) (s : Stretch) → turned_at from (past ++ s ∷ []) ≡ s.until
turned_push from [] s = refl
turned_push from (x ∷ past) s = turned_push x.until past s

-- once something else is flushed: a point from before, or that
point_split : (from : ℕ) (past : List Stretch) (flushed new : List JournalEntry) (until end : ℕ) (entries : List JournalEntry) (count : ℕ) → IsPoint from (past ++ stretch_of flushed until ∷ []) new end entries count
    → IsPoint from past flushed until entries count ⊎ ((until ≤ count) × (count ≤ end) × (entries ≡ new))
point_split from [] flushed new until end entries count p = p
point_split from (s ∷ past) flushed new until end entries count (inl p) = inl (inl p)
point_split from (s ∷ past) flushed new until end entries count (inr p) = elim (point_split s.until past flushed new until end entries count p) [ inl q ↦ inl (inr q) | inr q ↦ inr q ]

-- over a longer history: a point from before, or what is flushed
point_early : (from : ℕ) (past : List Stretch) (flushed : List JournalEntry) (end later : ℕ) (entries : List JournalEntry) (count : ℕ) → IsPoint from past flushed later entries count
    → IsPoint from past flushed end entries count ⊎ ((end < count) × (count ≤ later) × (entries ≡ flushed))
point_early from [] flushed end later entries count p = elim (cases_lt end count) [ inl lt ↦ inr (lt, p.1, p.2) | inr le ↦ inl (p.0, le, p.2) ]
point_early from (s ∷ past) flushed end later entries count (inl p) = inl (inl p)
point_early from (s ∷ past) flushed end later entries count (inr p) = elim (point_early s.until past flushed end later entries count p) [ inl q ↦ inl (inr q) | inr q ↦ inr q ]

point_within : (from : ℕ) (past : List Stretch) (flushed : List JournalEntry) (end : ℕ) (entries : List JournalEntry) (count : ℕ) → EndBy end past → IsPoint from past flushed end entries count → count ≤ end
point_within from [] flushed end entries count all p = p.1
point_within from (s ∷ past) flushed end entries count all (inl p) = let low : count ≤ s.until = p.1 in let high : s.until ≤ end = all.0 in omega (arith, low, high)
point_within from (s ∷ past) flushed end entries count all (inr p) = point_within s.until past flushed end entries count all.1 p

end_later : (end later : ℕ) (past : List Stretch) → end ≤ later → EndBy end past → EndBy later past
end_later end later [] le all = tt
end_later end later (s ∷ past) le all = (let high : s.until ≤ end = all.0 in omega (arith, high, le), end_later end later past le all.1)

end_push : (end : ℕ) (past : List Stretch) (s : Stretch) → s.until ≤ end → EndBy end past → EndBy end (past ++ s ∷ [])
end_push end [] s le all = (le, tt)
end_push end (x ∷ past) s le all = (all.0, end_push end past s le all.1)

first_push : (past : List Stretch) (flushed new : List JournalEntry) (until : ℕ) → first_of (past ++ stretch_of flushed until ∷ []) new ≡ first_of past flushed
first_push [] flushed new until = refl
first_push (s ∷ past) flushed new until = refl

take_whole : {X : Type 0} (xs : List X) → take (length xs) xs ≡ xs
take_whole [] = refl
take_whole (x ∷ xs) = ap (λ l. x ∷ l) (take_whole xs)

-- ---- what is held

more_commits : (xs ys : List JournalEntry) (s : Sealed) → Among s (commits_of xs) → Among s (commits_of (xs ++ ys))
more_commits [] ys s a = absurd a
more_commits (Commits x ∷ xs) ys s (inl e) = inl e
more_commits (Commits x ∷ xs) ys s (inr a) = inr (more_commits xs ys s a)
more_commits (Prepares x ∷ xs) ys s a = more_commits xs ys s a
more_commits (Numbers t ∷ xs) ys s a = more_commits xs ys s a
more_commits (Marks t ∷ xs) ys s a = more_commits xs ys s a
more_commits (Defines d text ∷ xs) ys s a = more_commits xs ys s a
more_commits (Drops name ∷ xs) ys s a = more_commits xs ys s a
more_commits (SetsState name state ∷ xs) ys s a = more_commits xs ys s a
more_commits (SetsLoaded name flag ∷ xs) ys s a = more_commits xs ys s a

pub found_longer : (t : ℕ) (h more : List Entry) (s : Sealed) → found t h ≡ Some s → found t (h ++ more) ≡ Some s
found_longer t [] more s e = Prim.cc
found_longer t (Definition def ∷ h) more s e = found_longer t h more s e
found_longer t (Foreign ops ∷ h) more s e = found_longer t h more s e
found_longer t (Own own ops ∷ h) more s e = by (nat_eq own.0 t) e (found_longer t h more s)
  where
    by : (b : Bool) → cond b (Some (record { ticket = own; ops = ops })) (found t h) ≡ Some s → (found t h ≡ Some s → found t (h ++ more) ≡ Some s) → cond b (Some (record { ticket = own; ops = ops })) (found t (h ++ more)) ≡ Some s
    by true f rest = f
    by false f rest = rest f

-- in more entries
pub held_behind : (xs ys : List JournalEntry) (h : List Entry) (s : Sealed) → IsHeldIn xs h s → IsHeldIn (xs ++ ys) h s
held_behind xs ys h s (inl a) = inl (more_commits xs ys s a)
held_behind xs ys h s (inr e) = inr e

-- in a longer history
held_longer : (xs : List JournalEntry) (h more : List Entry) (s : Sealed) → IsHeldIn xs h s → IsHeldIn xs (h ++ more) s
held_longer xs h more s (inl a) = inl a
held_longer xs h more s (inr e) = inr (found_longer s.ticket.0 h more s e)

-- as the laws of crashes see them
pub commits_same : (schema : List TableDef) (xs : List JournalEntry) → commits_in (notes_of schema xs) ≡ commits_of xs
commits_same schema [] = refl
commits_same schema (Commits s ∷ xs) = ap (λ l. s ∷ l) (commits_same schema xs)
commits_same schema (Prepares s ∷ xs) = commits_same schema xs
commits_same schema (Numbers t ∷ xs) = commits_same schema xs
commits_same schema (Marks t ∷ xs) = commits_same schema xs
commits_same schema (Defines d text ∷ xs) = commits_same schema xs
commits_same schema (Drops name ∷ xs) = commits_same schema xs
commits_same schema (SetsState name state ∷ xs) = commits_same schema xs
commits_same schema (SetsLoaded name flag ∷ xs) = commits_same schema xs

-- ---- what holds at each point

-- once something else is flushed
turn_points : (holds : List JournalEntry → List Entry → Type 0) (way : Way) (flushed new : List JournalEntry) (h : List Entry) → EachPoint holds way flushed h → holds new h
    → EachPoint holds (record { since = way.since; from = way.from; past = way.past ++ stretch_of flushed (length h) ∷ [] }) new h
turn_points holds way flushed new h each now entries count p le =
    elim (point_split way.from way.past flushed new (length h) (length h) entries count p) [
      | inl old ↦ each entries count old le
      | inr last ↦ at_end last
    ]
  where
    at_end : (length h ≤ count) × (count ≤ length h) × (entries ≡ new) → holds entries (take count h)
    at_end (low, high, is) =
        let same : count ≡ length h = omega (arith, low, high) in
        subst (λ n. holds entries n) (sym (ap (λ n. take n h) same ∙ take_whole h)) (subst (λ l. holds l h) (sym is) now)

-- over a history with an entry more
longer_points : (holds : List JournalEntry → List Entry → Type 0) (way : Way) (flushed : List JournalEntry) (h : List Entry) (e : Entry) → EndBy (length h) way.past → EachPoint holds way flushed h → holds flushed (h ++ e ∷ []) → EachPoint holds way flushed (h ++ e ∷ [])
longer_points holds way flushed h e ended each now entries count p le =
    elim (point_early way.from way.past flushed (length h) (length (h ++ e ∷ [])) entries count p) [
      | inl old ↦ before old
      | inr last ↦ at_last last
    ]
  where
    size : length (h ++ e ∷ []) ≡ length h + 1
    size = length-append h (e ∷ [])

    before : IsPoint way.from way.past flushed (length h) entries count → holds entries (take count (h ++ e ∷ []))
    before old =
        let low : count ≤ length h = point_within way.from way.past flushed (length h) entries count ended old in
        subst (λ n. holds entries n) (sym (take-append-le count h (e ∷ []) low)) (each entries count old low)

    at_last : (length h < count) × (count ≤ length (h ++ e ∷ [])) × (entries ≡ flushed) → holds entries (take count (h ++ e ∷ []))
    at_last (low, high, is) =
        let one : length (h ++ e ∷ []) ≡ length h + 1 = size in
        let same : count ≡ length (h ++ e ∷ []) = omega (arith, low, high, one) in
        subst (λ n. holds entries n) (sym (ap (λ n. take n (h ++ e ∷ [])) same ∙ take_whole (h ++ e ∷ []))) (subst (λ l. holds l (h ++ e ∷ [])) (sym is) now)

-- where the way begins
begun_points : (holds : List JournalEntry → List Entry → Type 0) (moment : ℕ) (flushed : List JournalEntry) (h : List Entry) → holds flushed h → EachPoint holds (record { since = moment; from = length h; past = [] }) flushed h
begun_points holds moment flushed h now entries count (low, high, is) le =
    let same : count ≡ length h = omega (arith, low, le) in
    subst (λ n. holds entries n) (sym (ap (λ n. take n h) same ∙ take_whole h)) (subst (λ l. holds l h) (sym is) now)

-- ---- safe ways

-- what is unshared of the second groups is so of the first
abbrev pub StaysUnshared : List TableId → List Group → List Group → Type 0
StaysUnshared shared gs hs = AreUnshared shared hs → AreUnshared shared gs

module _ (gs hs : List Group) (shared : List TableId) (flushed : List JournalEntry) (h : List Entry) (back : StaysUnshared shared gs hs) where
  -- the last point is what is flushed now
  held_now : (way : Way) → IsSafeWay gs shared flushed h way → (s : Sealed) → IsHeldIn (first_of way.past flushed) (take way.from h) s → IsHeldIn flushed h s
  held_now way y s x =
      subst (λ l. IsHeldIn flushed l s) (take_whole h)
      ((y.each flushed (length h) (point_now way.from way.past flushed (length h) (length h) y.turned (omega arith)) (omega arith)).held s x)

  still_way : (way : Way) → IsSafeWay gs shared flushed h way → IsSafeWay hs shared flushed h way
  still_way way y = record {
    begun = y.begun;
    ended = y.ended;
    turned = y.turned;
    each = y.each;
    apart = λ alone. y.apart (back alone);
  }

  -- something else is flushed
  module _ (new : List JournalEntry) (match : next_behind new ≤ 2 ^ 63 → AreMatched new h) (free : AreUnshared shared hs → LeaveUnshared shared new h) (step : (s : Sealed) → IsHeldIn flushed h s → IsHeldIn new h s) (way : Way) (y : IsSafeWay gs shared flushed h way) where
    abbrev behind : Way
    behind = record { since = way.since; from = way.from; past = way.past ++ stretch_of flushed (length h) ∷ [] }

    turned_way : IsSafeWay hs shared new h (record { since = way.since; from = way.from; past = way.past ++ stretch_of flushed (length h) ∷ [] })
    turned_way = record {
      begun = y.begun;
      ended = end_push (length h) way.past (stretch_of flushed (length h)) (omega arith) y.ended;
      turned = subst (λ n. n ≤ length h) (sym (turned_push way.from way.past (stretch_of flushed (length h)))) (omega arith);
      each =
          subst (λ f. EachPoint (IsSafeOnceRead f (take way.from h)) behind new h) (sym (first_push way.past flushed new (length h)))
          (turn_points (IsSafeOnceRead (first_of way.past flushed) (take way.from h)) way flushed new h y.each
          (record { matched = match; held = λ s x. step s (held_now way y s x) }));
      apart = λ alone. turn_points (LeaveUnshared shared) way flushed new h (y.apart (back alone)) (free alone);
    }

  -- the history has an entry more
  module _ (e : Entry) (match : next_behind flushed ≤ 2 ^ 63 → AreMatched flushed (h ++ e ∷ [])) (free : AreUnshared shared hs → LeaveUnshared shared flushed (h ++ e ∷ [])) (way : Way) (y : IsSafeWay gs shared flushed h way) where
    size : length (h ++ e ∷ []) ≡ length h + 1
    size = length-append h (e ∷ [])

    within : length h ≤ length (h ++ e ∷ [])
    within = let one : length (h ++ e ∷ []) ≡ length h + 1 = size in omega (arith, one)

    early_same : take way.from (h ++ e ∷ []) ≡ take way.from h
    early_same = take-append-le way.from h (e ∷ []) y.begun

    longer_way : IsSafeWay hs shared flushed (h ++ e ∷ []) way
    longer_way = record {
      begun = let low = y.begun in let more = within in omega (arith, low, more);
      ended = end_later (length h) (length (h ++ e ∷ [])) way.past within y.ended;
      turned = let low = y.turned in let more = within in omega (arith, low, more);
      each =
          longer_points (IsSafeOnceRead (first_of way.past flushed) (take way.from (h ++ e ∷ []))) way flushed h e y.ended
          (subst (λ b. EachPoint (IsSafeOnceRead (first_of way.past flushed) b) way flushed h) (sym early_same) y.each)
          (subst (λ b. IsSafeOnceRead (first_of way.past flushed) b flushed (h ++ e ∷ [])) (sym early_same) (record { matched = match; held = λ s x. held_longer flushed h (e ∷ []) s (held_now way y s x) }));
      apart = λ alone. longer_points (LeaveUnshared shared) way flushed h e y.ended (y.apart (back alone)) (free alone);
    }

  -- ---- where a way is asked for

  pub safe_still : (way : Option Way) → IsSafeOn gs shared flushed h way → IsSafeOn hs shared flushed h way
  safe_still None y = tt
  safe_still (Some way) y = still_way way y

  pub safe_turned : (new : List JournalEntry) → (next_behind new ≤ 2 ^ 63 → AreMatched new h) → (AreUnshared shared hs → LeaveUnshared shared new h) → ((s : Sealed) → IsHeldIn flushed h s → IsHeldIn new h s) → (way : Option Way) → IsSafeOn gs shared flushed h way
      → IsSafeOn hs shared new h (passed_by flushed (length h) way)
  safe_turned new match free step None y = tt
  safe_turned new match free step (Some way) y = turned_way new match free step way y

  pub safe_longer : (e : Entry) → (next_behind flushed ≤ 2 ^ 63 → AreMatched flushed (h ++ e ∷ [])) → (AreUnshared shared hs → LeaveUnshared shared flushed (h ++ e ∷ [])) → (way : Option Way) → IsSafeOn gs shared flushed h way → IsSafeOn hs shared flushed (h ++ e ∷ []) way
  safe_longer e match free None y = tt
  safe_longer e match free (Some way) y = longer_way e match free way y

-- an entry more that the same notes match
pub safe_step : (gs : List Group) (shared : List TableId) (flushed : List JournalEntry) (schema : List TableDef) (way : Option Way)
    → (AreUnshared shared gs → (u : TableId) → is_shared shared u ≡ true → is_one_of (live_tables (groups_of (notes_of schema flushed))) u ≡ false)
    → (h : List Entry) (e : Entry) (b : TableState) → IsSafeOn gs shared flushed h way → state_of (h ++ e ∷ []) ≡ Some b → b.schema ≡ schema
    → IsMatched (notes_of schema flushed) (h ++ e ∷ []) → IsSafeOn gs shared flushed (h ++ e ∷ []) way
safe_step gs shared flushed schema way free h e b y leaves known m =
    safe_longer gs gs shared flushed h (λ alone. alone) e
    (λ cap. record { backing = b; leaves = leaves; matched = subst (λ z. IsMatched (notes_of z flushed) (h ++ e ∷ [])) (sym known) m; last = cap })
    (λ alone s told u there. ap (λ (z : List TableDef). is_one_of (live_tables (groups_of (notes_of z flushed))) u) (ap (λ (x : TableState). x.schema) (same_Some s b (sym told ∙ leaves)) ∙ known) ∙ free alone u there) way y

-- a way that begins now
pub safe_begun : (gs : List Group) (shared : List TableId) (moment : ℕ) (flushed : List JournalEntry) (h : List Entry) → (next_behind flushed ≤ 2 ^ 63 → AreMatched flushed h) → (AreUnshared shared gs → LeaveUnshared shared flushed h)
    → IsSafeWay gs shared flushed h (record { since = moment; from = length h; past = [] })
safe_begun gs shared moment flushed h match free = record {
  begun = omega arith;
  ended = tt;
  turned = omega arith;
  each = begun_points (IsSafeOnceRead flushed (take (length h) h)) moment flushed h (record { matched = match; held = λ s x. subst (λ b. IsHeldIn flushed b s) (take_whole h) x });
  apart = λ alone. begun_points (LeaveUnshared shared) moment flushed h (free alone);
}
