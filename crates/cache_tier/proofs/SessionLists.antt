-- Lists of sessions, and of their writes.
use Rattle.std.proofs.Common.{◌≡◌, ℕ, Bool, true, false, cond, not, ◌&&◌, ◌||◌, Option, Some, None, is_some, List, [], ◌∷◌, ◌++◌, map, refl, sym, ap, ◌∙◌}
use Rattle.std.specs.List.{filter, find, list_all, list_any}
use Rattle.std.proofs.lemmas.Cmp.{nat_list_eq_equiv}
use Rattle.std.proofs.lemmas.List.Folds.{list_any-append}
use Rattle.table_state.specs.declared.operation.Op.{Op}
use Rattle.table_state.specs.Tables.{TableState}
use Rattle.order_laws.proofs.StepLaws.{or_none}
use Rattle.order_laws.proofs.TruthLaws.{both_true}
use Rattle.order_laws.specs.OpenWrites.{AllApply, Applies}
use Rattle.cache_tier.specs.TierStates.{Session, is_labelled}
use Rattle.cache_tier.specs.StandingBetween.{HaveOwnLabels, own_writes}
use Rattle.cache_tier.proofs.GroupTables.{any_found}

-- one session among all

pub record AmongSessions (sessions : List Session) (s : Session) : Type 0 where
  pub before : List Session
  pub behind : List Session
  pub is : sessions ≡ before ++ s ∷ behind
  pub early : list_any (is_labelled s.label) before ≡ false
  pub late : list_any (is_labelled s.label) behind ≡ false
  pub here : is_labelled s.label s ≡ true

pub among_sessions : (sessions : List Session) (s : Session) → HaveOwnLabels sessions → find (is_labelled s.label) sessions ≡ Some s → AmongSessions sessions s
among_sessions [] s own e = Prim.cc
among_sessions (r ∷ sessions) s own e = by (is_labelled s.label r) refl e (among_sessions sessions s own.1)
  where
    by : (b : Bool) → is_labelled s.label r ≡ b → cond b (Some r) (find (is_labelled s.label) sessions) ≡ Some s → (find (is_labelled s.label) sessions ≡ Some s → AmongSessions sessions s) → AmongSessions (r ∷ sessions) s
    by true is h rest =
        let same : r ≡ s = Prim.cc in
        record {
          before = [];
          behind = sessions;
          is = ap (λ x. x ∷ sessions) same;
          early = refl;
          late = ap (λ (x : Session). list_any (is_labelled x.label) sessions) (sym same) ∙ own.0;
          here = ap (is_labelled s.label) (sym same) ∙ is;
        }
    by false is h rest =
        let a = rest h in
        record { before = r ∷ a.before; behind = a.behind; is = ap (λ l. r ∷ l) a.is; early = ap (λ b. b || list_any (is_labelled s.label) a.before) is ∙ a.early; late = a.late; here = a.here }

none_changed : (p : Session → Bool) (change : Session → Session) (xs : List Session) → list_any p xs ≡ false → map (λ x. cond (p x) (change x) x) xs ≡ xs
none_changed p change [] e = refl
none_changed p change (x ∷ xs) e = by (p x) refl e (none_changed p change xs)
  where
    by : (b : Bool) → p x ≡ b → (b || list_any p xs) ≡ false → (list_any p xs ≡ false → map (λ x. cond (p x) (change x) x) xs ≡ xs) → cond (p x) (change x) x ∷ map (λ x. cond (p x) (change x) x) xs ≡ x ∷ xs
    by true is h rest = Prim.cc
    by false is h rest = (λ i. cond (is i) (change x) x ∷ rest h i)

none_gone : (p : Session → Bool) (xs : List Session) → list_any p xs ≡ false → filter (λ x. not (p x)) xs ≡ xs
none_gone p [] e = refl
none_gone p (x ∷ xs) e = by (p x) refl e (none_gone p xs)
  where
    by : (b : Bool) → p x ≡ b → (b || list_any p xs) ≡ false → (list_any p xs ≡ false → filter (λ x. not (p x)) xs ≡ xs) → cond (not (p x)) (x ∷ filter (λ x. not (p x)) xs) (filter (λ x. not (p x)) xs) ≡ x ∷ xs
    by true is h rest = Prim.cc
    by false is h rest = ap (λ b. cond (not b) (x ∷ filter (λ x. not (p x)) xs) (filter (λ x. not (p x)) xs)) is ∙ ap (λ l. x ∷ l) (rest h)

map_middle : (f : Session → Session) (xs : List Session) (x : Session) (ys : List Session) → map f (xs ++ x ∷ ys) ≡ map f xs ++ f x ∷ map f ys
map_middle f [] x ys = refl
map_middle f (z ∷ xs) x ys = ap (λ l. f z ∷ l) (map_middle f xs x ys)

filter_middle : (p : Session → Bool) (xs : List Session) (x : Session) (ys : List Session) → p x ≡ false → filter p (xs ++ x ∷ ys) ≡ filter p xs ++ filter p ys
filter_middle p [] x ys e = ap (λ b. cond b (x ∷ filter p ys) (filter p ys)) e
filter_middle p (z ∷ xs) x ys e = by (p z) (filter_middle p xs x ys e)
  where
    by : (b : Bool) → filter p (xs ++ x ∷ ys) ≡ filter p xs ++ filter p ys → cond b (z ∷ filter p (xs ++ x ∷ ys)) (filter p (xs ++ x ∷ ys)) ≡ cond b (z ∷ filter p xs) (filter p xs) ++ filter p ys
    by true rest = ap (λ l. z ∷ l) rest
    by false rest = rest

-- it is changed, the others stay
pub changed_session : (sessions : List Session) (s : Session) (a : AmongSessions sessions s) (change : Session → Session) → map (λ x. cond (is_labelled s.label x) (change x) x) sessions ≡ a.before ++ change s ∷ a.behind
changed_session sessions s a change =
    let f : Session → Session = λ x. cond (is_labelled s.label x) (change x) x in
    ap (map f) a.is ∙ map_middle f a.before s a.behind
    ∙ (λ i. none_changed (is_labelled s.label) change a.before a.early i ++ cond (a.here i) (change s) s ∷ none_changed (is_labelled s.label) change a.behind a.late i)

pub other_sessions : (sessions : List Session) (s : Session) (a : AmongSessions sessions s) → filter (λ x. not (is_labelled s.label x)) sessions ≡ a.before ++ a.behind
other_sessions sessions s a =
    ap (filter (λ x. not (is_labelled s.label x))) a.is
    ∙ filter_middle (λ x. not (is_labelled s.label x)) a.before s a.behind (ap not a.here)
    ∙ (λ i. none_gone (is_labelled s.label) a.before a.early i ++ none_gone (is_labelled s.label) a.behind a.late i)

pub own_middle : (before : List Session) (s : Session) (behind : List Session) → own_writes (before ++ s ∷ behind) ≡ own_writes before ++ s.own ∷ own_writes behind
own_middle [] s behind = refl
own_middle (r ∷ before) s behind = ap (λ l. r.own ∷ l) (own_middle before s behind)

pub own_append : (before behind : List Session) → own_writes (before ++ behind) ≡ own_writes before ++ own_writes behind
own_append [] behind = refl
own_append (r ∷ before) behind = ap (λ l. r.own ∷ l) (own_append before behind)

-- labels

any_middle : (p q : Session → Bool) (before : List Session) (s n : Session) (behind : List Session) → p s ≡ p n → list_any p (before ++ s ∷ behind) ≡ list_any p (before ++ n ∷ behind)
any_middle p q [] s n behind e = ap (λ b. b || list_any p behind) e
any_middle p q (r ∷ before) s n behind e = ap (λ b. p r || b) (any_middle p q before s n behind e)

pub labels_changed : (before : List Session) (s n : Session) (behind : List Session) → n.label ≡ s.label → HaveOwnLabels (before ++ s ∷ behind) → HaveOwnLabels (before ++ n ∷ behind)
labels_changed [] s n behind e own = (ap (λ l. list_any (is_labelled l) behind) e ∙ own.0, own.1)
labels_changed (r ∷ before) s n behind e own =
    (any_middle (is_labelled r.label) (is_labelled r.label) before n s behind (ap (λ l. Rattle.table_defs.specs.Names.same_name l r.label) e) ∙ own.0, labels_changed before s n behind e own.1)

any_left : (p : Session → Bool) (before : List Session) (s : Session) (behind : List Session) → list_any p (before ++ s ∷ behind) ≡ false → list_any p (before ++ behind) ≡ false
any_left p [] s behind e = of (p s) e
  where
    of : (b : Bool) → (b || list_any p behind) ≡ false → list_any p behind ≡ false
    of true h = Prim.cc
    of false h = h
any_left p (r ∷ before) s behind e = of (p r) e (any_left p before s behind)
  where
    of : (b : Bool) → (b || list_any p (before ++ s ∷ behind)) ≡ false → (list_any p (before ++ s ∷ behind) ≡ false → list_any p (before ++ behind) ≡ false) → (b || list_any p (before ++ behind)) ≡ false
    of true h rest = Prim.cc
    of false h rest = rest h

pub labels_left : (before : List Session) (s : Session) (behind : List Session) → HaveOwnLabels (before ++ s ∷ behind) → HaveOwnLabels (before ++ behind)
labels_left [] s behind own = own.1
labels_left (r ∷ before) s behind own = (any_left (is_labelled r.label) before s behind own.0, labels_left before s behind own.1)

any_last : (p : Session → Bool) (xs : List Session) (x : Session) → list_any p xs ≡ false → p x ≡ false → list_any p (xs ++ x ∷ []) ≡ false
any_last p [] x e f = λ i. f i || false
any_last p (y ∷ xs) x e f = of (p y) e (any_last p xs x)
  where
    of : (b : Bool) → (b || list_any p xs) ≡ false → (list_any p xs ≡ false → p x ≡ false → list_any p (xs ++ x ∷ []) ≡ false) → (b || list_any p (xs ++ x ∷ [])) ≡ false
    of true h rest = Prim.cc
    of false h rest = rest h f

-- a name is the same both ways
name_turned : (a b : List ℕ) → Rattle.table_defs.specs.Names.same_name a b ≡ Rattle.table_defs.specs.Names.same_name b a
name_turned a b = nat_list_eq_equiv.symm a b

pub labels_last : (sessions : List Session) (n : Session) → HaveOwnLabels sessions → list_any (is_labelled n.label) sessions ≡ false → HaveOwnLabels (sessions ++ n ∷ [])
labels_last [] n own e = (refl, tt)
labels_last (r ∷ sessions) n own e = of (is_labelled n.label r) refl e (labels_last sessions n own.1)
  where
    of : (b : Bool) → is_labelled n.label r ≡ b → (b || list_any (is_labelled n.label) sessions) ≡ false → (list_any (is_labelled n.label) sessions ≡ false → HaveOwnLabels (sessions ++ n ∷ [])) → HaveOwnLabels (r ∷ (sessions ++ n ∷ []))
    of true is h rest = Prim.cc
    of false is h rest = (any_last (is_labelled r.label) sessions n own.0 (name_turned n.label r.label ∙ is), rest h)

-- what applies over a state, session by session

pub applies_at : (s : TableState) (before : List (List Op)) (own : List Op) (behind : List (List Op)) → AllApply s (before ++ own ∷ behind) → Applies s own
applies_at s [] own behind all = all.0
applies_at s (b ∷ before) own behind all = applies_at s before own behind all.1

pub apply_with : (s : TableState) (before : List (List Op)) (own new : List Op) (behind : List (List Op)) → AllApply s (before ++ own ∷ behind) → Applies s new → AllApply s (before ++ new ∷ behind)
apply_with s [] own new behind all one = (one, all.1)
apply_with s (b ∷ before) own new behind all one = (all.0, apply_with s before own new behind all.1 one)

pub apply_without : (s : TableState) (before : List (List Op)) (own : List Op) (behind : List (List Op)) → AllApply s (before ++ own ∷ behind) → AllApply s (before ++ behind)
apply_without s [] own behind all = all.1
apply_without s (b ∷ before) own behind all = (all.0, apply_without s before own behind all.1)

pub apply_last : (s : TableState) (owns : List (List Op)) → AllApply s owns → AllApply s (owns ++ [] ∷ [])
apply_last s [] all = (record { top = s; leads = refl }, tt)
apply_last s (b ∷ owns) all = (all.0, apply_last s owns all.1)

pub all_with : (p : List Op → Bool) (before : List (List Op)) (own new : List Op) (behind : List (List Op)) → list_all p (before ++ own ∷ behind) ≡ true → p new ≡ true → list_all p (before ++ new ∷ behind) ≡ true
all_with p [] own new behind all one = (λ i. one i && (both_true (p own) (list_all p behind) all).1 i)
all_with p (b ∷ before) own new behind all one =
    let (first, rest) = both_true (p b) (list_all p (before ++ own ∷ behind)) all in
    (λ i. first i && all_with p before own new behind rest one i)

pub all_at : (p : List Op → Bool) (before : List (List Op)) (own : List Op) (behind : List (List Op)) → list_all p (before ++ own ∷ behind) ≡ true → p own ≡ true
all_at p [] own behind all = (both_true (p own) (list_all p behind) all).0
all_at p (b ∷ before) own behind all = all_at p before own behind (both_true (p b) (list_all p (before ++ own ∷ behind)) all).1

pub all_without : (p : List Op → Bool) (before : List (List Op)) (own : List Op) (behind : List (List Op)) → list_all p (before ++ own ∷ behind) ≡ true → list_all p (before ++ behind) ≡ true
all_without p [] own behind all = (both_true (p own) (list_all p behind) all).1
all_without p (b ∷ before) own behind all =
    let (first, rest) = both_true (p b) (list_all p (before ++ own ∷ behind)) all in
    (λ i. first i && all_without p before own behind rest i)

-- where the first test finds none of the other sessions, and this one doesn't pass, none of all passes
pub none_passes : (sessions : List Session) (s : Session) (p : Session → Bool) → HaveOwnLabels sessions → find (is_labelled s.label) sessions ≡ Some s → p s ≡ false → find p (filter (λ r. not (is_labelled s.label r)) sessions) ≡ None → list_any p sessions ≡ false
none_passes sessions s p own there off free =
    let a = among_sessions sessions s own there in
    let none : list_any p (filter (λ r. not (is_labelled s.label r)) sessions) ≡ false = sym (any_found p (filter (λ r. not (is_labelled s.label r)) sessions)) ∙ ap (λ (o : Option Session). is_some o) free in
    let apart : (list_any p a.before || list_any p a.behind) ≡ false = sym (list_any-append p a.before a.behind) ∙ ap (list_any p) (sym (other_sessions sessions s a)) ∙ none in
    let (before, behind) = or_none (list_any p a.before) (list_any p a.behind) apart in
    ap (list_any p) a.is ∙ list_any-append p a.before (s ∷ a.behind) ∙ (λ i. before i || (off i || behind i))
