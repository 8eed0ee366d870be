-- The words for parts, where a call of the journal's disk failed.
use Rattle.std.proofs.Common.{◌≡◌, inl, inr, ℕ, Bool, true, false, Option, Some, None, Result, Ok, Err, List, [], ◌∷◌, ◌++◌, length, refl, sym, ap, subst, ◌∙◌, arith}
use Rattle.std.specs.Bool.{MatchBool}
use Rattle.std.proofs.lemmas.Bool.{lt-ltb}
use Rattle.tier_base.specs.declared.code.Code.TheVariants as code
use Rattle.row_types.specs.declared.rule.Rule.{Rule}
use Rattle.table_state.specs.declared.history.Sealed.{Sealed}
use Rattle.outside.specs.declared.fault.BankError.{BankError}
use Rattle.outside.specs.declared.fault.BankError.TheVariants.{Failed, Memory}
use Rattle.cache_tier.specs.declared.reply.Last.TheVariants.{No}
use Rattle.cache_tier.specs.declared.reply.Reply.{Reply}
use Rattle.cache_tier.specs.Events.{with_tier}
use Rattle.cache_tier.specs.JournalSteps.{Flushes, FlushesFitting, FlushesSome, journal_full}
use Rattle.cache_tier.specs.Journals.{JournalEntry}
use Rattle.cache_tier.specs.Reading.{Answers, FollowsAt, Reads, ReadsFirst, StageFollowsAt, TellsPosition}
use Rattle.cache_tier.specs.Steps.{tells}
use Rattle.cache_tier.specs.TierStates.{Tier}
use Rattle.cache_tier.specs.Worlds.{Answer, Becomes, Follows, IsUnshared, OnlyWhere, Part, Stage, StageFollows, Then, ThenStage, Tries, Unless, World, bank_fault}
use Rattle.recovery.specs.Journalled.{IsJournalled, IsJournalledOn, IsQuiet}
use Rattle.recovery.proofs.OthersLaws.{on_then}
use Rattle.line_laws.specs.Keeping.{IsBrokenOff, is_broken}
use Rattle.line_laws.proofs.FlushLaws.{IsWhole, flushes_whole}
use Rattle.line_laws.proofs.PartWords.{Goes, GoesStage, call_goes, position_quiet, quiet_as}
use Rattle.line_laws.proofs.TellingLaws.{IsOfTier, Tells, whole_told}

-- ---- what is left

abbrev pub BrokenPart : (World → Type 0) → Part → Type 0
BrokenPart P part = (w w' : World) (early : List Sealed) (reply : Reply) → IsJournalled w early → IsUnshared w → P w → part w w' reply → tells code.JournalFault reply.last ≡ true → IsBrokenOff w' early

abbrev pub BrokenStage : (World → Type 0) → Stage → Type 0
BrokenStage P stage = (w w' : World) (early : List Sealed) (stop : Option Reply) → IsJournalled w early → IsUnshared w → P w → stage w w' stop → is_broken stop ≡ true → IsBrokenOff w' early

-- the journal is that of the world's own tier
pub on_off : (w : World) (early : List Sealed) → IsJournalledOn w early → IsBrokenOff w early
on_off w early on = record { tier = w.tier; on = on }

-- from one to the next
pub off_then : (w : World) (early mid more : List Sealed) → mid ≡ early ++ more → IsBrokenOff w mid → IsBrokenOff w early
off_then w early mid more e b = record { tier = b.tier; on = on_then (with_tier b.tier w) early mid more e b.on }

pub off_same : (w w' : World) (early : List Sealed) → w' ≡ w → IsBrokenOff w early → IsBrokenOff w' early
off_same w w' early e b = subst (λ x. IsBrokenOff x early) (sym e) b

-- ---- what is told

-- the reply is another one that tells no failed call of the disk
pub never : (w' : World) (early : List Sealed) (reply other : Reply) → reply ≡ other → tells code.JournalFault other.last ≡ false → tells code.JournalFault reply.last ≡ true → IsBrokenOff w' early
never w' early reply other e whole bad = let so : true ≡ false = sym bad ∙ ap (λ (r : Reply). tells code.JournalFault r.last) e ∙ whole in Prim.cc

pub never_stops : (w' : World) (early : List Sealed) (stop other : Option Reply) → stop ≡ other → is_broken other ≡ false → is_broken stop ≡ true → IsBrokenOff w' early
never_stops w' early stop other e whole bad = let so : true ≡ false = sym bad ∙ ap is_broken e ∙ whole in Prim.cc

pub bank_tells : (e : BankError) → tells code.JournalFault (bank_fault e).last ≡ false
bank_tells Failed = refl
bank_tells Memory = refl

-- the answer tells none
abbrev pub TellsNone : (World → Answer) → Type 0
TellsNone answer = (w : World) → tells code.JournalFault (answer w).1.last ≡ false

-- so it is of each reply of this part
abbrev pub TellsNever : Part → Type 0
TellsNever part = (w w' : World) (reply : Reply) → part w w' reply → tells code.JournalFault reply.last ≡ false

pub answers_never : (answer : World → Answer) → TellsNone answer → TellsNever (Answers answer)
answers_never answer whole w w' reply q = ap (λ (r : Reply). tells code.JournalFault r.last) q.1 ∙ whole w

-- ---- words for parts, from one world

pub unless_breaks : (o : Option Rule) (part : Part) (w w' : World) (early : List Sealed) (reply : Reply) → (part w w' reply → IsBrokenOff w' early) → Unless o part w w' reply → tells code.JournalFault reply.last ≡ true → IsBrokenOff w' early
unless_breaks None part w w' early reply so q bad = so q
unless_breaks (Some rule) part w w' early reply so q bad = never w' early reply _ q.1 refl bad

told_broken : (stop reply : Reply) → reply ≡ stop → tells code.JournalFault reply.last ≡ true → tells code.JournalFault stop.last ≡ true
told_broken stop reply e bad = ap (λ (r : Reply). tells code.JournalFault r.last) (sym e) ∙ bad

-- this stage failed, and nothing more is done
pub then_breaks : (stage : Stage) (part : Part) (w w' : World) (early : List Sealed) (reply : Reply) → TellsNever part → ((mid : World) (stop : Option Reply) → stage w mid stop → is_broken stop ≡ true → IsBrokenOff mid early) → Then stage part w w' reply → tells code.JournalFault reply.last ≡ true → IsBrokenOff w' early
then_breaks stage part w w' early reply whole b q bad = by q.stop q.first q.next
  where
    by : (stop : Option Reply) → stage w q.mid stop → Follows stop part q.mid w' reply → IsBrokenOff w' early
    by None first next = let so : true ≡ false = sym bad ∙ whole q.mid w' reply next in Prim.cc
    by (Some stop) first next = off_same q.mid w' early next.0 (b q.mid (Some stop) first (told_broken stop reply next.1 bad))

pub becomes_breaks : (stage : Stage) (change : World → Tier) (w w' : World) (early : List Sealed) (end : Option Reply) → ((mid : World) (stop : Option Reply) → stage w mid stop → is_broken stop ≡ true → IsBrokenOff mid early) → ThenStage stage (Becomes change) w w' end → is_broken end ≡ true → IsBrokenOff w' early
becomes_breaks stage change w w' early end b q bad = by q.stop q.first q.next
  where
    by : (stop : Option Reply) → stage w q.mid stop → StageFollows stop (Becomes change) q.mid w' end → IsBrokenOff w' early
    by None first next = never_stops w' early end None next.1 refl bad
    by (Some stop) first next = off_same q.mid w' early next.0 (b q.mid (Some stop) first (ap is_broken (sym next.1) ∙ bad))

-- ---- words for parts

pub answers_broken : (P : World → Type 0) (answer : World → Answer) → TellsNone answer → BrokenPart P (Answers answer)
answers_broken P answer whole w w' early reply j apart p q bad = never w' early reply (answer w).1 q.1 (whole w) bad

pub unless_broken : (P : World → Type 0) (o : Option Rule) (part : Part) → BrokenPart P part → BrokenPart P (Unless o part)
unless_broken P o part so w w' early reply j apart p q bad = unless_breaks o part w w' early reply (λ q. so w w' early reply j apart p q bad) q bad

-- unless a rule is broken there
pub unless_broken_here : (P : World → Type 0) (fault : World → Option Rule) (part : Part) → BrokenPart P part → BrokenPart P (λ w w' reply. Unless (fault w) part w w' reply)
unless_broken_here P fault part so w w' early reply j apart p q bad = unless_broken P (fault w) part so w w' early reply j apart p q bad

pub tries_broken : (P : World → Type 0) (part : Part) → BrokenPart P part → BrokenPart P (Tries part)
tries_broken P part so w w' early reply j apart p (inl q) bad = so w w' early reply j apart p q bad
tries_broken P part so w w' early reply j apart p (inr q) bad = never w' early reply _ q.1 refl bad

pub match_broken : (P : World → Type 0) (b : Bool) (one other : Part) → BrokenPart P one → BrokenPart P other → BrokenPart P (λ w w' reply. MatchBool b (one w w' reply) (other w w' reply))
match_broken P true one other x y w w' early reply j apart p q bad = x w w' early reply j apart p q bad
match_broken P false one other x y w w' early reply j apart p q bad = y w w' early reply j apart p q bad

pub then_broken : (P Q : World → Type 0) (stage : Stage) (part : Part) → GoesStage P Q stage → BrokenStage P stage → BrokenPart Q part → BrokenPart P (Then stage part)
then_broken P Q stage part s b n w w' early reply j apart p q bad = by q.stop q.first q.next
  where
    by : (stop : Option Reply) → stage w q.mid stop → Follows stop part q.mid w' reply → IsBrokenOff w' early
    by None first next =
        let g = s w q.mid early None j apart p first refl in
        off_then w' early g.on.now g.on.more g.on.grows (n q.mid w' g.on.now reply g.on.is g.unshared g.holds next bad)
    by (Some stop) first next = off_same q.mid w' early next.0 (b w q.mid early (Some stop) j apart p first (told_broken stop reply next.1 bad))

-- where the part behind it tells none
pub then_answers_broken : (P : World → Type 0) (stage : Stage) (answer : World → Answer) → TellsNone answer → BrokenStage P stage → BrokenPart P (Then stage (Answers answer))
then_answers_broken P stage answer whole b w w' early reply j apart p q bad =
    then_breaks stage (Answers answer) w w' early reply (answers_never answer whole) (λ mid stop first broken. b w mid early stop j apart p first broken) q bad

pub only_where_broken : (P : World → Type 0) (b : Bool) (stage : Stage) → BrokenStage P stage → BrokenStage P (OnlyWhere b stage)
only_where_broken P true stage so w w' early stop j apart p q bad = so w w' early stop j apart p q bad
only_where_broken P false stage so w w' early stop j apart p q bad = never_stops w' early stop None q.1 refl bad

pub becomes_broken : (P : World → Type 0) (change : World → Tier) → BrokenStage P (Becomes change)
becomes_broken P change w w' early stop j apart p q bad = never_stops w' early stop None q.1 refl bad

pub then_stage_broken : (P Q : World → Type 0) (one other : Stage) → GoesStage P Q one → BrokenStage P one → BrokenStage Q other → BrokenStage P (ThenStage one other)
then_stage_broken P Q one other s b n w w' early end j apart p q bad = by q.stop q.first q.next
  where
    by : (stop : Option Reply) → one w q.mid stop → StageFollows stop other q.mid w' end → IsBrokenOff w' early
    by None first next =
        let g = s w q.mid early None j apart p first refl in
        off_then w' early g.on.now g.on.more g.on.grows (n q.mid w' g.on.now end g.on.is g.unshared g.holds next bad)
    by (Some stop) first next = off_same q.mid w' early next.0 (b w q.mid early (Some stop) j apart p first (ap is_broken (sym next.1) ∙ bad))

-- where the tier alone changes behind it
pub then_becomes_broken : (P : World → Type 0) (stage : Stage) (change : World → Tier) → BrokenStage P stage → BrokenStage P (ThenStage stage (Becomes change))
then_becomes_broken P stage change b w w' early end j apart p q bad =
    becomes_breaks stage change w w' early end (λ mid stop first broken. b w mid early stop j apart p first broken) q bad

-- ---- calls of the bank that read

pub reads_broken : (P Q : World → Type 0) (tried : Tier → Tier) (next : ℕ → Part) → ((t : Tier) → IsQuiet t (tried t)) → ((w w' : World) → P w → w'.tier ≡ tried w.tier → Q w') → ((n : ℕ) → BrokenPart Q (next n)) → BrokenPart P (Reads tried next)
reads_broken P Q tried next quiet moves so w w' early reply j apart p q bad =
    let g = call_goes Q w q.mid early (TellsPosition q.result) (position_quiet q.result) j apart q.call (quiet_as w.tier q.mid.tier (tried w.tier) q.tier (quiet w.tier)) (moves w q.mid p q.tier) in
    off_then w' early g.on.now g.on.more g.on.grows (by q.result q.goes_on g)
  where
    by : (result : Result ℕ BankError) → FollowsAt result next q.mid w' reply → (g : Goes Q q.mid early) → IsBrokenOff w' g.on.now
    by (Err e) follows g = never w' g.on.now reply (bank_fault e) follows.1 (bank_tells e) bad
    by (Ok n) follows g = tries_broken Q (next n) (so n) q.mid w' g.on.now reply g.on.is g.unshared g.holds follows bad

pub reads_first_broken : (P Q : World → Type 0) (tried : Tier → Tier) (next : ℕ → Stage) → ((t : Tier) → IsQuiet t (tried t)) → ((w w' : World) → P w → w'.tier ≡ tried w.tier → Q w') → ((n : ℕ) → BrokenStage Q (next n)) → BrokenStage P (ReadsFirst tried next)
reads_first_broken P Q tried next quiet moves so w w' early stop j apart p q bad =
    let g = call_goes Q w q.mid early (TellsPosition q.result) (position_quiet q.result) j apart q.call (quiet_as w.tier q.mid.tier (tried w.tier) q.tier (quiet w.tier)) (moves w q.mid p q.tier) in
    off_then w' early g.on.now g.on.more g.on.grows (by q.result q.goes_on g)
  where
    by : (result : Result ℕ BankError) → StageFollowsAt result next q.mid w' stop → (g : Goes Q q.mid early) → IsBrokenOff w' g.on.now
    by (Err e) follows g = never_stops w' g.on.now stop (Some (bank_fault e)) follows.1 (bank_tells e) bad
    by (Ok n) (inl follows) g = so n q.mid w' g.on.now stop g.on.is g.unshared g.holds follows bad
    by (Ok n) (inr follows) g = never_stops w' g.on.now stop _ follows.1 refl bad

-- ---- flushes

-- a flush that failed: its entries may be there
pub some_broken : (entries : List JournalEntry) (w w' : World) (stop : Option Reply) → w.journal.kept ≡ true → FlushesSome entries w w' stop → is_broken stop ≡ true → IsWhole entries w w'
some_broken [] w w' stop kept f bad = let so : true ≡ false = sym bad ∙ ap is_broken f.1 in Prim.cc
some_broken (e ∷ entries) w w' stop kept f bad = by (journal_full w (e ∷ entries)) (subst (λ b. OnlyWhere b (FlushesFitting (e ∷ entries)) w w' stop) (lt-ltb 0 (length (e ∷ entries)) (omega arith)) f)
  where
    by : (b : Bool) → MatchBool b ((w' ≡ w) × (stop ≡ Some (Rattle.cache_tier.specs.Worlds.only (No (Rattle.cache_tier.specs.Rules.past Rattle.tier_base.specs.declared.limit.Limit.TheVariants.JournalSlot))))) (Flushes (e ∷ entries) w w' stop) → IsWhole (e ∷ entries) w w'
    by true f = let so : true ≡ false = sym bad ∙ ap is_broken f.1 in Prim.cc
    by false f = flushes_whole (e ∷ entries) w w' stop kept f

-- the tier is taken for the one that these entries tell
pub tells_broken : (P : World → Type 0) (entries : List JournalEntry) (change : World → Tier) → IsOfTier P → Tells P entries change → BrokenStage P (FlushesSome entries)
tells_broken P entries change of so w w' early stop j apart p q bad =
    record { tier = change w'; on = whole_told P entries change w w' early of so j p (some_broken entries w w' stop j.kept q bad) }

pub settles_broken : (P : World → Type 0) (entries : List JournalEntry) (answer : World → Answer) → IsOfTier P → Tells P entries (λ w. (answer w).0) → TellsNone answer → BrokenPart P (Then (FlushesSome entries) (Answers answer))
settles_broken P entries answer of so whole = then_answers_broken P (FlushesSome entries) answer whole (tells_broken P entries (λ w. (answer w).0) of so)
