-- What a crash leaves of an opening up to where its journal was found: the slots say what they said, and only
-- transactions of others have come.
use Rattle.std.proofs.Common.{◌≡◌, ◌∙◌, ◌≤◌, ◌+◌, ℕ, List, [], ◌∷◌, ◌++◌, refl, sym, ap, subst, arith, inl, inr, append_assoc, append-nil}
use Rattle.std.proofs.lemmas.Bool.{cases_lt}
use Rattle.std.proofs.lemmas.List.{append_cancel_left}
use Rattle.std.proofs.lemmas.Option.{same_Some}
use Rattle.tier_base.specs.declared.number.TableId.{TableId}
use Rattle.table_state.specs.declared.history.Entry.{Entry}
use Rattle.table_state.specs.declared.history.Entry.TheVariants.{Definition, Foreign, Own}
use Rattle.outside.specs.Bank.{Grows}
use Rattle.outside.specs.Calls as site
use Rattle.outside.specs.Calls.{BankGoesOn, BankTold, Certain, IsBetween, Leaves, Lengthens}
use Rattle.outside.specs.Holding.{Held, Slots}
use Rattle.outside.specs.Others.{AreOthers}
use Rattle.outside.specs.Sites.{SiteState}
use Rattle.outside.proofs.Moments.{at_once}
use Rattle.commit_journal.specs.Layout.{HaveBytes, Reads}
use Rattle.commit_journal.specs.Opening.{Keeps}
use Rattle.propagators.specs.Certainty.{StaysCertain}
use Rattle.propagators.proofs.CertainLaws.{HistoryIsCertain, bank_certain}
use Rattle.stored_tier.proofs.BankLaws.{TellsBehind, told_behind}
use Rattle.stored_tier.proofs.OthersLaws.{CameBy, came_by}
use Rattle.tier_opening.specs.Leaving.{IsAsFound, LeftSince}

-- ---- histories

pub others_front : (shared : List TableId) (h xs ys : List Entry) → AreOthers shared h (xs ++ ys) → AreOthers shared h xs
others_front shared h [] ys a = tt
others_front shared h (Definition def ∷ xs) ys a = absurd a
others_front shared h (Own ticket ops ∷ xs) ys a = absurd a
others_front shared h (Foreign ops ∷ xs) ys a = (a.0, a.1, others_front shared (h ++ Foreign ops ∷ []) xs ys a.2)

-- between two histories, of which transactions of others lead to the second
others_between : (shared : List TableId) (old new h : List Entry) (c : CameBy shared old new) (b : IsBetween old new h) → AreOthers shared old b.came.more
others_between shared old new h c b =
    let whole : old ++ (b.came.more ++ b.comes.more) ≡ old ++ c.entries = sym (append_assoc old b.came.more b.comes.more) ∙ ap (λ l. l ++ b.comes.more) (sym b.came.is) ∙ sym b.comes.is ∙ c.is in
    others_front shared old b.came.more b.comes.more (subst (AreOthers shared old) (sym (append_cancel_left old (b.came.more ++ b.comes.more) c.entries whole)) c.others)

-- ---- the site

-- nothing was done on the disk
pub disk_rests : {D : Type 0} (state : D → SiteState) (possible : D → ℕ → Held → Type 0) (d : D) (o : Held) → Certain state possible d o → HaveBytes o.slots → Leaves state possible d d (Keeps o)
disk_rests state possible d o certain bytes = at_once state possible d (Keeps o) (λ p may. subst (Keeps o) (sym (certain.only p may)) (record { beside = refl; bytes = bytes; reads = λ placed damaged r. r; says = λ placed damaged r. r }))

-- so a crash leaves the site as it was found
pub found_here : {D : Type 0} (state : D → SiteState) (possible : D → ℕ → Held → Type 0) (d : D) (shared : List TableId) (o : Held) → Certain state possible d o → HaveBytes o.slots → LeftSince state possible d (state d).moment (IsAsFound shared o)
found_here state possible d shared o certain bytes k p lo hi may =
    let same : p ≡ o = certain.only p (subst (λ (m : ℕ). possible d m p) (omega (arith, lo, hi)) may) in
    subst (IsAsFound shared o) (sym same) (record { bytes = bytes; reads = λ placed damaged r. r; says = λ placed damaged r. r; others = []; came = tt; history = sym (append-nil o.history) })

-- as it was found, and its history is a front of another one
pub record IsFoundBefore (shared : List TableId) (o : Held) (history : List Entry) (p : Held) : Type 0 where
  pub found : IsAsFound shared o p
  pub comes : Lengthens p.history history

-- the slots are the same
with_slots : (shared : List TableId) (o p : Held) (history : List Entry) → HaveBytes o.slots → p.slots ≡ o.slots → (came : Lengthens o.history p.history) → AreOthers shared o.history came.more → Lengthens p.history history → IsFoundBefore shared o history p
with_slots shared o p history bytes same came others comes = record {
  found = record {
    bytes = subst HaveBytes (sym same) bytes;
    reads = λ placed damaged r. subst (λ (s : Slots). Reads s placed damaged) (sym same) r;
    says = λ placed damaged r. subst (λ (s : Slots). Reads s placed damaged) same r;
    others = came.more;
    came = others;
    history = came.is;
  };
  comes = comes;
}

-- A call of the bank that reads, and then calls of the disk alone.
module _ {D : Type 0} (state : D → SiteState) (possible : D → ℕ → Held → Type 0) (d d1 d2 : D) (step : List Entry → List Entry → Type 0) (reads : (a b : List Entry) → step a b → Grows [] a b) (told : BankTold (state d) (state d1) step) (goes : BankGoesOn state possible d d1) (law : HistoryIsCertain state possible)
    (crash : (o : Held) → Certain state possible d1 o → HaveBytes o.slots → Leaves state possible d1 d2 (Keeps o)) (o : Held) (certain : Certain state possible d o) (bytes : HaveBytes o.slots) where
  pub called : StaysCertain state possible d d1 o
  called = bank_certain state possible law d d1 step told goes o certain

  pub came : CameBy (state d).shared o.history called.now.history
  came =
      let n : TellsBehind o (state d1).held (site.BankCall (state d).shared step) = told_behind o (state d).held (state d1).held (site.BankCall (state d).shared step) certain.told told in
      let same : n.there ≡ called.now = same_Some n.there called.now (sym n.told ∙ called.certain.told) in
      subst (λ (x : Held). CameBy (state d).shared o.history x.history) same (came_by (state d).shared step o.history n.there.history reads n.is.history)

  left : Leaves state possible d1 d2 (Keeps called.now)
  left = crash called.now called.certain (subst HaveBytes (sym called.slots) bytes)

  -- behind the bank's call
  behind : (p : Held) → Keeps called.now p → IsFoundBefore (state d).shared o called.now.history p
  behind p k = record {
    found = record {
      bytes = k.bytes;
      reads = λ placed damaged r. k.reads placed damaged (subst (λ (s : Slots). Reads s placed damaged) (sym called.slots) r);
      says = λ placed damaged r. subst (λ (s : Slots). Reads s placed damaged) called.slots (k.says placed damaged r);
      others = came.entries;
      came = came.others;
      history = k.beside ∙ came.is;
    };
    comes = record { more = []; is = sym k.beside ∙ sym (append-nil p.history) };
  }

  before : (k : ℕ) (p : Held) → (state d).moment ≤ k → k ≤ (state d1).moment → possible d1 k p → IsFoundBefore (state d).shared o called.now.history p
  before k p lo hi may = elim (called.leaves k p hi may) [
    | inl early ↦
        let here : k ≡ (state d).moment = let le = early.0 in omega (arith, lo, le) in
        let same : p ≡ o = certain.only p (subst (λ (m : ℕ). possible d m p) here early.1) in
        with_slots (state d).shared o p called.now.history bytes (ap (λ (x : Held). x.slots) same) (record { more = []; is = ap (λ (x : Held). x.history) same ∙ sym (append-nil o.history) }) tt
        (record { more = came.entries; is = came.is ∙ ap (λ (x : Held). x.history ++ came.entries) (sym same) })
    | inr way ↦ with_slots (state d).shared o p called.now.history bytes way.0 way.1.came (others_between (state d).shared o.history called.now.history p.history came way.1) way.1.comes
  ]

  pub found_before : (k : ℕ) (p : Held) → (state d).moment ≤ k → k ≤ (state d2).moment → possible d2 k p → IsFoundBefore (state d).shared o called.now.history p
  found_before k p lo hi may = elim (cases_lt (state d1).moment k) [
    | inl lt ↦ behind p (left.each k p (omega (arith, lt)) hi may)
    | inr le ↦ before k p lo le (left.past k p le may)
  ]

  pub found_left : LeftSince state possible d2 (state d).moment (IsAsFound (state d).shared o)
  found_left k p lo hi may = (found_before k p lo hi may).found
