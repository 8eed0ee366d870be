-- Calls of the backing database keep a disk certain.
use Rattle.std.proofs.Common.{◌≡◌, ℕ, Option, Some, List, [], ◌++◌, refl, sym, ap, subst, ◌∙◌, inl, inr, append_assoc}
use Rattle.std.proofs.lemmas.Bool.{cases_lt}
use Rattle.std.proofs.lemmas.List.{append-nil}
use Rattle.table_state.specs.declared.history.Entry.{Entry}
use Rattle.outside.specs.Calls.{BankCall, BankGoesOn, BankTold, IsBetween, Lengthens, MayGrow}
use Rattle.outside.specs.Holding.{Held}
use Rattle.outside.specs.Sites.{SiteState}
use Rattle.outside.proofs.Moments.{now_came, same_held, told_then}
use Rattle.propagators.specs.Certainty.{KeepsCertain}

abbrev pub HistoryIsCertain : {D : Type 0} → (D → SiteState) → (D → ℕ → Held → Type 0) → Type 0
HistoryIsCertain {D = D} state possible = (d : D) (o p : Held) → (state d).held ≡ Some o → possible d (state d).moment p → p.history ≡ o.history

-- histories that get longer
pub no_longer : (h : List Entry) → Lengthens h h
no_longer h = record { more = []; is = sym (append-nil h) }

pub longer_then : (a b c : List Entry) → Lengthens a b → Lengthens b c → Lengthens a c
longer_then a b c one two = record {
  more = one.more ++ two.more;
  is = two.is ∙ ap (λ (h : List Entry). h ++ two.more) one.is ∙ append_assoc a one.more two.more;
}

-- one call
pub bank_certain : {D : Type 0} (state : D → SiteState) (possible : D → ℕ → Held → Type 0) → HistoryIsCertain state possible → (old new : D) (step : List Entry → List Entry → Type 0)
    → BankTold (state old) (state new) step → BankGoesOn state possible old new → KeepsCertain state possible old new
bank_certain state possible law old new step told goes o c =
    let n = told_then (state old).held (state new).held (BankCall (state old).shared step) o c.told told in
    let grown : (q p : Held) → MayGrow (state new).held q p → MayGrow (Some n.0) q p = λ q p s. subst (λ (x : Option Held). MayGrow x q p) n.1 s in
    let same : (p : Held) → possible new (state new).moment p → p.slots ≡ n.0.slots = λ p h. elim (now_came state possible old new (MayGrow (state new).held) p goes h) [
      | inl before ↦ ap (λ (x : Held). x.slots) (c.only p before) ∙ sym n.2.slots
      | inr s ↦ (grown s.0 p s.2).0 ∙ ap (λ (x : Held). x.slots) (c.only s.0 s.1) ∙ sym n.2.slots
    ] in
    record {
      now = n.0;
      certain = record { told = n.1; only = λ p h. same_held p n.0 (same p h) (law new n.0 p n.1 h) };
      slots = n.2.slots;
      grows = n.2.grows;
      leaves = λ k p within h. elim (cases_lt (state old).moment k) [
        | inl later ↦
            let s = goes.since k p later within h in
            let from : s.0 ≡ o = c.only s.0 s.1 in
            let to : MayGrow (Some n.0) s.0 p = grown s.0 p s.2 in
            inr (to.0 ∙ ap (λ (x : Held). x.slots) from, subst (λ (x : Held). IsBetween x.history n.0.history p.history) from to.1)
        | inr before ↦ inl (before, goes.past k p before h)
      ];
    }

-- no call
pub same_certain : {D : Type 0} (state : D → SiteState) (possible : D → ℕ → Held → Type 0) (d : D) → KeepsCertain state possible d d
same_certain state possible d o c = record {
  now = o;
  certain = c;
  slots = refl;
  grows = no_longer o.history;
  leaves = λ k p within h. inl (within, h);
}

-- and then others
pub certain_then : {D : Type 0} (state : D → SiteState) (possible : D → ℕ → Held → Type 0) (a b c : D) → KeepsCertain state possible a b → KeepsCertain state possible b c → KeepsCertain state possible a c
certain_then state possible a b c one two o is =
    let first = one o is in
    let then = two first.now first.certain in
    record {
      now = then.now;
      certain = then.certain;
      slots = then.slots ∙ first.slots;
      grows = longer_then o.history first.now.history then.now.history first.grows then.grows;
      leaves = λ k p within h. elim (then.leaves k p within h) [
        | inl before ↦ elim (first.leaves k p before.0 before.1) [
          | inl earlier ↦ inl earlier
          | inr way ↦ inr (
            way.0,
            record { came = way.1.came; comes = longer_then p.history first.now.history then.now.history way.1.comes then.grows },
          )
        ]
        | inr way ↦ inr (
          way.0 ∙ first.slots,
          record { came = longer_then o.history first.now.history p.history first.grows way.1.came; comes = way.1.comes },
        )
      ];
    }
