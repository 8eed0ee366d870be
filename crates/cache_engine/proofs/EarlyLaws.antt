-- What refuses OPEN, by the sessions that are stored.
use Rattle.std.proofs.Common.{◌≡◌, ◌∙◌, ◌||◌, ℕ, Bool, true, false, cond, nat_le, Some, None, List, [], ◌∷◌, length, refl, sym, ap}
use Rattle.std.specs.List.{list_any}
use Rattle.std.specs.Option.{option_or}
use Rattle.std.proofs.lemmas.List.{length-map}
use Rattle.tier_base.specs.declared.code.Code.TheVariants as code
use Rattle.tier_base.specs.declared.limit.Limit.TheVariants as limit
use Rattle.session_state.specs.Sessions.{OpenSession}
use Rattle.open_sessions.specs.Lookups.{has_label, of_label}
use Rattle.open_sessions.specs.Opening.{seen_all}
use Rattle.cache_tier.specs.Rules.{at_limit, broken_if, labelled, past}
use Rattle.cache_tier.specs.SessionSteps.{open_fault}
use Rattle.cache_tier.specs.TierStates.{Tier, is_labelled}
use Rattle.stored_tier.specs.declared.tier.Tier.{Tier as Stored}
use Rattle.stored_tier.specs.Stored.{IsStoredAs}
use Rattle.stored_tier.proofs.SeenLaws.{any_seen}
use Rattle.tier_statements.specs.Seen.{session_seen}

-- one of the list has the label, or none
used_any : (label : List ℕ) (xs : List OpenSession) (x : OpenSession) → of_label label xs ≡ Some x → list_any (has_label label) xs ≡ true
used_any label [] x e = absurd (Prim.cc e)
used_any label (y ∷ xs) x e = by (has_label label y) refl (used_any label xs x)
  where
    by : (b : Bool) → has_label label y ≡ b → (of_label label xs ≡ Some x → list_any (has_label label) xs ≡ true) → list_any (has_label label) (y ∷ xs) ≡ true
    by true is rest = ap (λ b. b || list_any (has_label label) xs) is
    by false is rest = ap (λ b. b || list_any (has_label label) xs) is ∙ rest (sym (ap (λ b. cond b (Some y) (of_label label xs)) is) ∙ e)

unused_any : (label : List ℕ) (xs : List OpenSession) → of_label label xs ≡ None → list_any (has_label label) xs ≡ false
unused_any label [] e = refl
unused_any label (y ∷ xs) e = by (has_label label y) refl (unused_any label xs)
  where
    by : (b : Bool) → has_label label y ≡ b → (of_label label xs ≡ None → list_any (has_label label) xs ≡ false) → list_any (has_label label) (y ∷ xs) ≡ false
    by true is rest = let some : Some y ≡ None = sym (ap (λ b. cond b (Some y) (of_label label xs)) is) ∙ e in absurd (Prim.cc some)
    by false is rest = ap (λ b. b || list_any (has_label label) xs) is ∙ rest (sym (ap (λ b. cond b (Some y) (of_label label xs)) is) ∙ e)

used : (t : Stored) (a : Tier) (label : List ℕ) (b : Bool) → IsStoredAs t a → list_any (has_label label) (seen_all t.sessions) ≡ b → list_any (is_labelled label) a.sessions ≡ b
used t a label b is e = ap (list_any (is_labelled label)) is.sessions ∙ any_seen label (seen_all t.sessions) ∙ e

pub label_taken : (t : Stored) (label : List ℕ) (x : OpenSession) → of_label label (seen_all t.sessions) ≡ Some x → (a : Tier) → IsStoredAs t a → open_fault a label ≡ Some (labelled code.NameInUse label)
label_taken t label x e a is =
    ap (λ b. option_or (broken_if b (labelled code.NameInUse label)) (at_limit limit.Sessions (length a.sessions)))
    (used t a label true is (used_any label (seen_all t.sessions) x e))

pub label_free : (t : Stored) (label : List ℕ) → of_label label (seen_all t.sessions) ≡ None → (a : Tier) → IsStoredAs t a → open_fault a label ≡ at_limit limit.Sessions (length a.sessions)
label_free t label e a is =
    ap (λ b. option_or (broken_if b (labelled code.NameInUse label)) (at_limit limit.Sessions (length a.sessions)))
    (used t a label false is (unused_any label (seen_all t.sessions) e))

-- 119
pub room_told : (t : Stored) (b : Bool) → b ≡ nat_le 64 (length (seen_all t.sessions)) → (a : Tier) → IsStoredAs t a → at_limit limit.Sessions (length a.sessions) ≡ broken_if b (past limit.Sessions)
room_told t b e a is =
    ap (λ n. broken_if (nat_le 64 n) (past limit.Sessions)) (ap length is.sessions ∙ length-map (seen_all t.sessions) session_seen)
    ∙ ap (λ c. broken_if c (past limit.Sessions)) (sym e)
