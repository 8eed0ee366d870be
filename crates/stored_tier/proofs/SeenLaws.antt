-- Open sessions as the abstract tier has them.
use Rattle.std.proofs.Common.{◌≡◌, ℕ, Bool, true, false, not, cond, ◌||◌, Some, List, [], ◌∷◌, All, map, filter, find, refl, sym, ap, ◌∙◌}
use Rattle.std.specs.List.{list_any}
use Rattle.std.specs.Option.{option_map}
use Rattle.std.proofs.lemmas.List.Elements.{All-map, All-weaker}
use Rattle.std.proofs.lemmas.Slice.Eq.{bytes_eq-Decides}
use Rattle.session_state.specs.Sessions.{OpenSession}
use Rattle.open_sessions.specs.Lookups.{has_label, of_label}
use Rattle.cache_tier.specs.TierStates.{Session, is_labelled}
use Rattle.tier_statements.specs.Seen.{session_seen}

-- a session has the label
pub any_seen : (label : List ℕ) (xs : List OpenSession) → list_any (is_labelled label) (map session_seen xs) ≡ list_any (has_label label) xs
any_seen label [] = refl
any_seen label (x ∷ xs) = ap (λ b. has_label label x || b) (any_seen label xs)

-- the session of a label
pub find_seen : (label : List ℕ) (xs : List OpenSession) → find (is_labelled label) (map session_seen xs) ≡ option_map session_seen (of_label label xs)
find_seen label [] = refl
find_seen label (x ∷ xs) = by (has_label label x) (find_seen label xs)
  where
    by : (b : Bool) → find (is_labelled label) (map session_seen xs) ≡ option_map session_seen (of_label label xs) → cond b (Some (session_seen x)) (find (is_labelled label) (map session_seen xs)) ≡ option_map session_seen (cond b (Some x) (of_label label xs))
    by true rest = refl
    by false rest = rest

-- it has the label
pub found_label : (label : List ℕ) (xs : List OpenSession) (x : OpenSession) → of_label label xs ≡ Some x → x.label ≡ label
found_label label [] x e = cc
found_label label (y ∷ xs) x e = by (has_label label y) refl (found_label label xs x)
  where
    by : (b : Bool) → has_label label y ≡ b → (of_label label xs ≡ Some x → x.label ≡ label) → x.label ≡ label
    by true is rest =
        let same : Some y ≡ Some x = sym (ap (λ b. cond b (Some y) (of_label label xs)) is) ∙ e in
        let one : y ≡ x = cc in
        ap (λ (s : OpenSession). s.label) (sym one) ∙ (bytes_eq-Decides y.label label).0 is
    by false is rest = rest (sym (ap (λ b. cond b (Some y) (of_label label xs)) is) ∙ e)

-- one session changes
pub changed_seen : (label : List ℕ) (f : OpenSession → OpenSession) (change : Session → Session) (xs : List OpenSession) → ((x : OpenSession) → session_seen (f x) ≡ change (session_seen x)) → map session_seen (map (λ x. cond (has_label label x) (f x) x) xs) ≡ map (λ s. cond (is_labelled label s) (change s) s) (map session_seen xs)
changed_seen label f change [] same = refl
changed_seen label f change (x ∷ xs) same = ap (λ s. s ∷ map session_seen (map (λ y. cond (has_label label y) (f y) y) xs)) (by (has_label label x)) ∙ ap (λ ss. cond (has_label label x) (change (session_seen x)) (session_seen x) ∷ ss) (changed_seen label f change xs same)
  where
    by : (b : Bool) → session_seen (cond b (f x) x) ≡ cond b (change (session_seen x)) (session_seen x)
    by true = same x
    by false = refl

-- one session leaves
pub left_seen : (label : List ℕ) (xs : List OpenSession) → map session_seen (filter (λ x. not (has_label label x)) xs) ≡ filter (λ s. not (is_labelled label s)) (map session_seen xs)
left_seen label [] = refl
left_seen label (x ∷ xs) = by (not (has_label label x)) (left_seen label xs)
  where
    by : (b : Bool) → map session_seen (filter (λ y. not (has_label label y)) xs) ≡ filter (λ s. not (is_labelled label s)) (map session_seen xs) → map session_seen (cond b (x ∷ filter (λ y. not (has_label label y)) xs) (filter (λ y. not (has_label label y)) xs)) ≡ cond b (session_seen x ∷ filter (λ s. not (is_labelled label s)) (map session_seen xs)) (filter (λ s. not (is_labelled label s)) (map session_seen xs))
    by true rest = ap (λ ss. session_seen x ∷ ss) rest
    by false rest = rest

-- what holds of each session holds of each behind a change of one that keeps it
pub all_changed : (P : OpenSession → Type 0) (test : OpenSession → Bool) (f : OpenSession → OpenSession) (xs : List OpenSession) → ((x : OpenSession) → P x → P (f x)) → All P xs → All P (map (λ x. cond (test x) (f x) x) xs)
all_changed P test f xs keeps all = All-map P (λ x. cond (test x) (f x) x) xs (All-weaker P (λ x. P (cond (test x) (f x) x)) (λ x p. by x (test x) p) xs all)
  where
    by : (x : OpenSession) (b : Bool) → P x → P (cond b (f x) x)
    by x true p = keeps x p
    by x false p = p
