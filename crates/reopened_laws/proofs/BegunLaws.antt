-- The way of an opened journal is safe: a tier may be opened over what was held, whatever others do in the opening, so
-- over each history up to where the journal was found.
use Rattle.std.proofs.Common.{◌≡◌, inl, inr, ℕ, suc, ◌≤◌, ◌+◌, ◌-◌, Some, List, [], ◌∷◌, ◌++◌, length, take, drop, refl, sym, ap, subst, ◌∙◌, arith, take-append-drop, append_assoc, append-nil}
use Rattle.std.proofs.lemmas.List.{length-take}
use Rattle.tier_base.specs.declared.number.TableId.{TableId}
use Rattle.table_state.specs.declared.history.Entry.{Entry}
use Rattle.table_state.specs.declared.history.Entry.TheVariants.{Definition, Foreign, Own}
use Rattle.table_state.specs.declared.history.Sealed.{Sealed}
use Rattle.table_state.specs.Histories.{state_of}
use Rattle.table_state.specs.Tables.{TableState}
use Rattle.outside.specs.Holding.{Held}
use Rattle.outside.specs.Others.{AreOthers}
use Rattle.cache_tier.specs.Journals.{Journal, JournalEntry, Way}
use Rattle.cache_tier.specs.TierStates.{Settings}
use Rattle.cache_tier.specs.WayPoints.{with_way}
use Rattle.cache_tier.specs.Worlds.{IsUnshared, World}
use Rattle.recovery.specs.Journalled.{IsJournalled}
use Rattle.recovery.specs.Recalling.{AreMatched, RecallsAll}
use Rattle.recovery.specs.SafeWays.{EachPoint, HasSafeWay, IsHeldIn, IsSafeOn, IsSafeOnceRead, IsSafeWay, LeaveUnshared}
use Rattle.recovery.proofs.LiveLaws.{leaves_unshared}
use Rattle.recovery.proofs.PointLaws.{found_longer}
use Rattle.line_laws.proofs.OtherLaws.{others_schema}
use Rattle.run_laws.proofs.ReopenLaws.{begun_journalled}
use Rattle.tier_journal.specs.declared.journal.TierJournal.{TierJournal}
use Rattle.tier_journal.specs.Opening.{opened_journal}
use Rattle.tier_opening.specs.Opening.{BeginsIn, MayOpen, begun_tier}
use Rattle.tier_opening.proofs.LeftLaws.{others_front}
use Rattle.tier_opening.proofs.NewLaws.{left_by}
use Rattle.cache_tier.specs.TierStates.{opened}

-- ---- lists

pub take_past : {X : Type 0} (xs ys : List X) (n : ℕ) → take (length xs + n) (xs ++ ys) ≡ xs ++ take n ys
take_past [] ys n = ap (λ k. take k ys) (omega arith)
take_past (x ∷ xs) ys n =
    let one : length (x ∷ xs) + n ≡ suc (length xs + n) = omega arith in
    ap (λ k. take k (x ∷ (xs ++ ys))) one ∙ ap (λ l. x ∷ l) (take_past xs ys n)

pub front_long : {X : Type 0} (n : ℕ) (xs : List X) → n ≤ length xs → length (take n xs) ≡ n
front_long n xs le = length-take n xs ∙ omega (arith, le)

-- a shorter front is a front of a longer one
shorter_front : {X : Type 0} (n m : ℕ) (xs : List X) → n ≤ m → m ≤ length xs → take m xs ≡ take n xs ++ take (m - n) (drop n xs)
shorter_front n m xs le within =
    let long : length (take n xs) ≡ n = front_long n xs (omega (arith, le, within)) in
    let sum : m ≡ length (take n xs) + (m - n) = omega (arith, long, le) in
    ap (λ k. take k xs) sum ∙ ap (take (length (take n xs) + (m - n))) (sym (take-append-drop n xs)) ∙ take_past (take n xs) (drop n xs) (m - n)

-- ---- others

others_behind : (shared : List TableId) (h xs ys : List Entry) → AreOthers shared h (xs ++ ys) → AreOthers shared (h ++ xs) ys
others_behind shared h [] ys a = subst (λ l. AreOthers shared l ys) (sym (append-nil h)) a
others_behind shared h (Definition def ∷ xs) ys a = absurd a
others_behind shared h (Own ticket ops ∷ xs) ys a = absurd a
others_behind shared h (Foreign ops ∷ xs) ys a = subst (λ l. AreOthers shared l ys) (append_assoc h (Foreign ops ∷ []) xs) (others_behind shared (h ++ Foreign ops ∷ []) xs ys a.2)

module _ (settings : Settings) (moment : ℕ) (there : Held) (k : TierJournal) (w : World) (b : BeginsIn settings moment there k w) (may : MayOpen w.shared there) where
  -- with so many entries in the history
  module _ (count : ℕ) (lo : length there.history ≤ count) (hi : count ≤ length w.history) where
    abbrev few : List Entry
    few = take (count - length there.history) b.others

    abbrev rest : List Entry
    rest = drop (count - length there.history) b.others

    split : few ++ rest ≡ b.others
    split = take-append-drop (count - length there.history) b.others

    history_few : take count w.history ≡ there.history ++ few
    history_few =
        let sum : count ≡ length there.history + (count - length there.history) = omega (arith, lo) in
        ap (λ n. take n w.history) sum ∙ ap (take (length there.history + (count - length there.history))) b.history ∙ take_past there.history b.others (count - length there.history)

    came_few : AreOthers w.shared there.history few
    came_few = others_front w.shared there.history few rest (subst (AreOthers w.shared there.history) (sym split) b.came)

    came_rest : AreOthers w.shared (take count w.history) rest
    came_rest = subst (λ h. AreOthers w.shared h rest) (sym history_few) (others_behind w.shared there.history few rest (subst (AreOthers w.shared there.history) (sym split) b.came))

    whole : w.history ≡ take count w.history ++ rest
    whole = b.history ∙ ap (λ l. there.history ++ l) (sym split) ∙ sym (append_assoc there.history few rest) ∙ ap (λ h. h ++ rest) (sym history_few)

    known_few : (s : TableState) → state_of (take count w.history) ≡ Some s → s.schema ≡ b.schema
    known_few s leaves =
        let later = left_by w.shared rest (take count w.history) s leaves came_rest in
        sym (others_schema w.shared rest (take count w.history) s later.0 leaves came_rest later.1) ∙ b.known later.0 (ap state_of whole ∙ later.1)

    abbrev v : World
    v = record w {
      tier = begun_tier b.schema b.entries (take count w.history) b.catalog;
      history = take count w.history;
      journal = with_way 0 (length (take count w.history)) (opened_journal k b.entries);
    }

    begins_few : BeginsIn settings moment there k v
    begins_few = record {
      others = few;
      came = came_few;
      history = history_few;
      schema = b.schema;
      known = known_few;
      entries = b.entries;
      say = b.say;
      since = 0;
      from = length (take count w.history);
      least = let e = front_long count w.history hi in omega (arith, e, lo);
      most = omega arith;
      journal = refl;
      catalog = b.catalog;
      recalls = b.recalls;
      tier = refl;
    }

    both : AreMatched b.entries (take count w.history) × IsUnshared v
    unfolding begins_few
    both = may settings moment k v begins_few refl

    -- the same without a way
    abbrev bare : World
    bare = record v { tier = begun_tier both.0.backing.schema b.entries (take count w.history) b.catalog; journal = opened_journal k b.entries }

    schema_few : both.0.backing.schema ≡ b.schema
    schema_few = known_few both.0.backing both.0.leaves

    journalled : IsJournalled bare []
    journalled = begun_journalled settings moment b.entries bare [] both.0 b.catalog (subst (λ s. RecallsAll b.entries (opened settings moment s) b.catalog) (sym schema_few) b.recalls) refl
        (record { kept = refl; flushed = refl; tail = refl; way = tt }) tt

    alone_few : IsUnshared bare
    alone_few t e = both.1 t e

    unshared_few : LeaveUnshared w.shared b.entries (take count w.history)
    unshared_few = leaves_unshared bare [] journalled alone_few

  longer_held : (entries : List JournalEntry) (n m : ℕ) (s : Sealed) → n ≤ m → m ≤ length w.history → IsHeldIn entries (take n w.history) s → IsHeldIn entries (take m w.history) s
  longer_held entries n m s le within (inl among) = inl among
  longer_held entries n m s le within (inr found) = inr (ap (λ h. Rattle.recovery_laws.specs.Notes.found s.ticket.0 h) (shorter_front n m w.history le within) ∙ found_longer s.ticket.0 (take n w.history) (take (m - n) (drop n w.history)) s found)

  abbrev way : Way
  way = record { since = b.since; from = b.from; past = [] }

  each_point : EachPoint (IsSafeOnceRead b.entries (take b.from w.history)) way b.entries w.history
  each_point entries count point within =
      let lo : length there.history ≤ count = (let one = b.least in let two = point.0 in omega (arith, one, two)) in
      subst (λ es. IsSafeOnceRead b.entries (take b.from w.history) es (take count w.history)) (sym point.2)
      (record { matched = λ small. (both count lo within).0; held = λ s held. longer_held b.entries b.from count s point.0 within held })

  each_apart : EachPoint (LeaveUnshared w.shared) way b.entries w.history
  each_apart entries count point within =
      let lo : length there.history ≤ count = (let one = b.least in let two = point.0 in omega (arith, one, two)) in
      subst (λ es. LeaveUnshared w.shared es (take count w.history)) (sym point.2) (unshared_few count lo within)

  safe : IsSafeWay w.tier.groups w.shared b.entries w.history way
  safe = record { begun = b.most; ended = tt; turned = b.most; each = each_point; apart = λ alone. each_apart }

  pub safe_way : HasSafeWay w w.journal.way
  safe_way = subst (λ (j : Journal). IsSafeOn w.tier.groups w.shared j.flushed w.history j.way) (sym b.journal) safe
