-- Each step keeps the rule.
use Rattle.std.proofs.Common.{◌≡◌, ◌≢◌, ℕ, zero, suc, ◌+◌, ◌%◌, ◌^◌, ◌<◌, eqb, Bool, true, false, true≢false, List, [], ◌∷◌, ◌++◌, get_or, set, slice_index, Option, Some, None, sym, refl, ap, ◌∙◌, subst, inl, inr, ⊎_elim, arith}
use mathlib.Core.Option.{some, none, some-injective, some-ne-none}
use mathlib.Core.Option as maybe
use mathlib.Core.Logic.{dite}
use mathlib.Core.List.{IsPrefix}
use native.Mathlib.Decide.{ℕ_discrete}
use lib.ListN.{get_elem?}
use lib.Seq.{set-get_or}
use prog.Atomic.{either}
use Rattle.atomic_table.specs.Table.{State, Me, step, keeps, takes, gives, put_back, Allows, Splits, Joins, opening, Final, Seen, rest}
use Rattle.atomic_table.proofs.Lists.{at_set, set_here, set_else, set_again, at_snoc, at_longer, exchanged}
use Rattle.turn_lock.specs.declared.view.View.{View}
use Rattle.turn_lock.specs.declared.view.Stage.{Stage}
use Rattle.turn_lock.specs.declared.view.Stage.TheVariants.{Idle, Waits, Holds}
use Rattle.turn_lock.specs.Places.{occurrences, total, new_places, AllBegin}
use Rattle.turn_lock.specs.Turns.{turn_of, found_of, number_of, Fits, opening_view, spent_view, keeping, portion, joined, waiting, holding, after_giving, IsHomeOrHeld, KeepsTurns, Draws, Looks, Advances}
use Rattle.turn_lock.proofs.Counts.{total_set, total_snoc, total_one, total_other, at_inside, at_once, occurrences-append, begins_same, begins_more, all_more, all_append, new_places-more, new_places-none}

-- a turn is read off
same_turn : (t u : ℕ) → Some t ≡ Some u → t ≡ u
same_turn t u e = cc

-- a value is read off
pub same_value : {V : Type 0} → (x y : V) → Some x ≡ Some y → x ≡ y
same_value x y e = cc

module _ {E : Type 0} where
  -- whether a seat holds the value
  abbrev is_held : Stage E → Bool
  is_held (Holds t l) = true
  is_held _ = false

  -- an idle seat has no turn
  idle_no_turn : (s : Stage E) (t : ℕ) → s ≡ Idle → turn_of s ≡ Some t → ⊥
  idle_no_turn s t i e = absurd (let n : turn_of s ≡ None = ap turn_of i in cc)

  -- nor the value
  idle_not_held : (s : Stage E) (t : ℕ) (l : List E) → s ≡ Idle → s ≡ Holds t l → ⊥
  idle_not_held s t l i e = true≢false (sym (ap is_held e) ∙ ap is_held i)

  -- who waits has no value
  waits_not_held : (s : Stage E) (u t : ℕ) (l : List E) → s ≡ Waits u → s ≡ Holds t l → ⊥
  waits_not_held s u t l i e = true≢false (sym (ap is_held e) ∙ ap is_held i)

  -- who waits isn't idle
  waits_not_idle : (s : Stage E) (u : ℕ) → s ≡ Waits u → s ≡ Idle → ⊥
  waits_not_idle s u i e = idle_no_turn s u e (ap turn_of i)

  -- who holds the value isn't idle
  held_not_idle : (s : Stage E) (t : ℕ) (l : List E) → s ≡ Holds t l → s ≡ Idle → ⊥
  held_not_idle s t l i e = idle_not_held s t l e i

  -- a fact of each view, after one view changes
  views_set : (K : ℕ → View E → Type 0) (vs : List (View E)) (id : ℕ) (w : View E) → K id w → ((j : ℕ) (u : View E) → j ≢ id → get_elem? vs j ≡ some u → K j u)
      → (j : ℕ) (u : View E) → get_elem? (set vs id w) j ≡ some u → K j u
  views_set K vs id w mine others j u e = ⊎_elim (λ (t : (j ≡ id) × (w ≡ u)). subst (λ (x : ℕ × View E). K x.0 x.1) (λ i. (sym t.0 i, t.1 i)) mine)
      (λ (t : (j ≢ id) × (get_elem? vs j ≡ some u)). others j u t.0 t.1) (at_set vs id j w u e)

  -- no two seats have one turn
  abbrev Apart : List (View E) → Type 0
  Apart vs = (i j : ℕ) (v w : View E) (t : ℕ) → get_elem? vs i ≡ some v → get_elem? vs j ≡ some w → turn_of v.stage ≡ Some t → turn_of w.stage ≡ Some t → i ≡ j

  -- turns stay apart, where the changed view has a turn of its own
  apart_set : (vs : List (View E)) (id : ℕ) (w : View E) → Apart vs → ((t j : ℕ) (u : View E) → turn_of w.stage ≡ Some t → j ≢ id → get_elem? vs j ≡ some u → turn_of u.stage ≡ Some t → ⊥) → Apart (set vs id w)
  apart_set vs id w old new i j a b t ai bj ta tb =
      ⊎_elim
      (λ (x : (i ≡ id) × (w ≡ a)). ⊎_elim
      (λ (y : (j ≡ id) × (w ≡ b)). x.0 ∙ sym y.0)
      (λ (y : (j ≢ id) × (get_elem? vs j ≡ some b)). absurd (new t j b (ap (λ (v : View E). turn_of v.stage) x.1 ∙ ta) y.0 y.1 tb))
      (at_set vs id j w b bj))
      (λ (x : (i ≢ id) × (get_elem? vs i ≡ some a)). ⊎_elim
      (λ (y : (j ≡ id) × (w ≡ b)). absurd (new t i a (ap (λ (v : View E). turn_of v.stage) y.1 ∙ tb) x.0 x.1 ta))
      (λ (y : (j ≢ id) × (get_elem? vs j ≡ some b)). old i j a b t x.1 y.1 ta tb)
      (at_set vs id j w b bj))
      (at_set vs id i w a ai)

  -- a fact of the one view
  only_one : (K : ℕ → View E → Type 0) (v : View E) → K 0 v → (j : ℕ) (u : View E) → get_elem? (v ∷ []) j ≡ some u → K j u
  only_one K v k zero u e = subst (K 0) (some-injective _ _ e) k
  only_one K v k (suc j) u e = absurd (some-ne-none u (sym e))

  -- the changed view stands in its place
  set_at : (vs : List (View E)) (id : ℕ) (v w : View E) → get_elem? vs id ≡ some v → get_elem? (set vs id w) id ≡ some w
  set_at vs id v w at = set_here vs id w (at_inside vs id v at)

-- the value that is carried first
abbrev first_value : {V : Type 0} → V → List (ℕ × Option V) → V
first_value d [] = d
first_value d ((k, None) ∷ xs) = d
first_value d ((k, Some x) ∷ xs) = x

module _ {V E : Type 0} (list : V → List E) where
  abbrev Homes : Type 0
  Homes = List (maybe.Option (Option V))

  -- the value is where it was, where its holder stays one
  home_or_held-set : (log : List E) (served : ℕ) (homes : Homes) (vs : List (View E)) (id : ℕ) (v w : View E) → get_elem? vs id ≡ some v → (v.stage ≡ Holds served log → w.stage ≡ Holds served log)
      → IsHomeOrHeld list log served homes vs → IsHomeOrHeld list log served homes (set vs id w)
  home_or_held-set log served homes vs id v w at keep h = ⊎_elim
      (λ (x : (x : V) × (homes ≡ some (Some x) ∷ []) × (list x ≡ log)). inl x)
      (λ (x : (h : ℕ) × (u : View E) × (homes ≡ none ∷ []) × (get_elem? vs h ≡ some u) × (u.stage ≡ Holds served log)).
      dite (ℕ_discrete x.0 id)
      (λ here. inr (id, w, x.2, set_at vs id v w at, keep (ap (λ (z : View E). z.stage) (at_once vs id v x.1 at (ap (get_elem? vs) (sym here) ∙ x.3)) ∙ x.4)))
      (λ else. inr (x.0, x.1, x.2, set_else vs id x.0 w else ∙ x.3, x.4)))
      h

  -- and with a new seat
  home_or_held-snoc : (log : List E) (served : ℕ) (homes : Homes) (vs : List (View E)) (w : View E) → IsHomeOrHeld list log served homes vs → IsHomeOrHeld list log served homes (vs ++ w ∷ [])
  home_or_held-snoc log served homes vs w h = ⊎_elim
      (λ (x : (x : V) × (homes ≡ some (Some x) ∷ []) × (list x ≡ log)). inl x)
      (λ (x : (h : ℕ) × (u : View E) × (homes ≡ none ∷ []) × (get_elem? vs h ≡ some u) × (u.stage ≡ Holds served log)).
      inr (x.0, x.1, x.2, at_longer vs (w ∷ []) x.0 x.1 x.3, x.4))
      h

module _ {V E : Type 0} (list : V → List E) (o : List E) (seats : ℕ) where
  abbrev St : Type 0
  St = State (Option V) (View E)

  abbrev M : Type 0
  M = Me (Option V) (View E)

  abbrev Rule : St → Type 0
  Rule = KeepsTurns list o seats

  -- the rule does not see a step that changes nothing
  unmoved : (s : St) (i id : ℕ) (v : View E) → get_elem? s.views id ≡ some v → Rule s → Rule record { words = set s.words i (get_or s.words i 0); homes = s.homes; views = set s.views id v }
  unmoved s i id v at r = subst (λ (x : List ℕ × List (View E)). Rule record { words = x.0; homes = s.homes; views = x.1 }) (λ k. (sym (set-get_or s.words i 0) k, sym (set_again s.views id v at) k)) r

  -- the sum of places stays, where a view gave nothing
  same_given : (s : St) (r : Rule s) (id : ℕ) (v w : View E) (k : ℕ) → get_elem? s.views id ≡ some v → w.given ≡ v.given → total (λ (u : View E). occurrences k u.given) (set s.views id w) ≡ occurrences k (new_places o r.log)
  same_given s r id v w k at same =
      let a = total_set (λ (u : View E). occurrences k u.given) s.views id v w at in
      let b : occurrences k w.given ≡ occurrences k v.given = ap (occurrences k) same in
      let c = r.given_once k in omega arith

  -- the sum of parts stays, where a view keeps its own
  same_parts : (s : St) (r : Rule s) (id : ℕ) (v w : View E) → get_elem? s.views id ≡ some v → w.parts ≡ v.parts → total (λ (u : View E). u.parts) (set s.views id w) ≡ seats
  same_parts s r id v w at same =
      let a = total_set (λ (u : View E). u.parts) s.views id v w at in
      let c = r.parts in omega arith

  -- the next turn is drawn
  drawn : (s : St) (r : Rule s) (id : ℕ) (v : View E) → get_elem? s.views id ≡ some v → r.next + 1 < 18446744073709551616 → v.stage ≡ Idle → v.parts ≢ 0
      → Rule record { words = set s.words 0 (r.next + 1); homes = s.homes; views = set s.views id (waiting v r.next) }
  drawn s r id v at small idle some_part = let w : View E = waiting v r.next in let f = r.fits id v at in let order = r.order in record {
    next = r.next + 1;
    served = r.served;
    log = r.log;
    words = ap (λ ws. set ws 0 (r.next + 1)) r.words;
    in_range = small;
    order = omega arith;
    begins = r.begins;
    home_or_held = home_or_held-set list r.log r.served s.homes s.views id v w at (λ e. absurd (idle_not_held v.stage _ _ idle e)) r.home_or_held;
    fits = views_set (λ _ u. Fits r.log r.served (r.next + 1) u) s.views id w
        record {
          turn = λ t e. let x : r.next ≡ t = same_turn _ _ e in (omega arith, omega arith);
          holds = λ t l e. absurd (waits_not_held w.stage r.next t l refl e);
          seen = f.seen;
          told = f.told;
          empty = λ z. absurd (some_part z);
        }
        (λ j u _ e. let g = r.fits j u e in record { turn = λ t x. let y = g.turn t x in let y₀ = y.0 in let y₁ = y.1 in (omega arith, omega arith); holds = g.holds; seen = g.seen; told = g.told; empty = g.empty });
    apart = apart_set s.views id w r.apart (λ t j u e _ at_u f'. let x : r.next ≡ t = same_turn _ _ e in let y = ((r.fits j u at_u).turn t f').1 in omega arith);
    given_once = λ k. same_given s r id v w k at refl;
    parts = same_parts s r id v w at refl;
  }

  -- drawing keeps the rule
  pub allows_draw : (slots id : ℕ) (m : M) (old : ℕ) → old + 1 < 18446744073709551616 → m.0.stage ≡ Idle → m.0.parts ≢ 0
      → Allows Rule slots id m 0 (λ n. either (eqb n old) (old + 1) n) (Draws (step slots 0 old (old + 1) none) m)
  allows_draw slots id m old small idle some_part s r len at fits =
      let n : ℕ = slice_index s.words 0 in
      let is_next : n ≡ r.next = ap (λ ws. slice_index ws 0) r.words in
      let v : View E = m.0 in
      dite (ℕ_discrete n old)
      (λ hit. let next_is : r.next ≡ old = sym is_next ∙ hit in (
        waiting v n,
        keeps,
        tt,
        subst (λ (x : ℕ × ℕ). Rule record { words = set s.words 0 x.0; homes = s.homes; views = set s.views id (waiting v x.1) })
            (λ i. (hit_value n old hit next_is i, sym is_next i))
            (drawn s r id v at (subst (λ (k : ℕ). k + 1 < 18446744073709551616) (sym next_is) small) idle some_part),
        (refl, (λ _. refl), (λ no. absurd (no hit))),
      ))
      (λ miss. (
        v,
        keeps,
        tt,
        subst (λ (x : ℕ). Rule record { words = set s.words 0 x; homes = s.homes; views = set s.views id v }) (sym (missed n old miss)) (unmoved s 0 id v at r),
        (refl, (λ yes. absurd (miss yes)), (λ _. refl)),
      ))
    where
      hit_value : (n old : ℕ) → n ≡ old → r.next ≡ old → r.next + 1 ≡ either (eqb n old) (old + 1) n
      hit_value n old hit next_is = exchanged n old (old + 1) (λ x. r.next + 1 ≡ x) (λ _. ap (λ (k : ℕ). k + 1) next_is) (λ no. absurd (no hit))

      missed : (n old : ℕ) → n ≢ old → either (eqb n old) (old + 1) n ≡ n
      missed n old miss = exchanged n old (old + 1) (λ x. x ≡ n) (λ yes. absurd (miss yes)) (λ _. refl)

  -- the slot is at home where the seat's turn is served
  taken : (s : St) (r : Rule s) (id t : ℕ) (v : View E) (x : V) → get_elem? s.views id ≡ some v → v.stage ≡ Waits t → t ≡ r.served → s.homes ≡ some (Some x) ∷ [] → list x ≡ r.log
      → Rule record { words = set s.words 1 (get_or s.words 1 0); homes = set s.homes 0 none; views = set s.views id (holding v t (list x)) }
  taken s r id t v x at waits is_served home is = let w : View E = holding v t (list x) in let f = r.fits id v at in record {
    next = r.next;
    served = r.served;
    log = r.log;
    words = set-get_or s.words 1 0 ∙ r.words;
    in_range = r.in_range;
    order = r.order;
    begins = r.begins;
    home_or_held = inr (id, w, ap (λ hs. set hs 0 none) home, set_at s.views id v w at, λ i. Holds (is_served i) (is i));
    fits = views_set (λ _ u. Fits r.log r.served r.next u) s.views id w
        record {
          turn = λ u e. f.turn u (ap turn_of waits ∙ e);
          holds = λ u l e. (sym (ap number_of e) ∙ is_served, sym (ap found_of e) ∙ is);
          seen = f.seen;
          told = f.told;
          empty = λ z. absurd (waits_not_idle v.stage t waits (f.empty z).1);
        }
        (λ j u _ e. r.fits j u e);
    apart = apart_set s.views id w r.apart (λ u j a e other at_a f'. other (sym (r.apart id j v a u at at_a (ap turn_of waits ∙ e) f')));
    given_once = λ k. same_given s r id v w k at refl;
    parts = same_parts s r id v w at refl;
  }

  -- looking keeps the rule
  pub allows_look : (slots id : ℕ) (m : M) (t : ℕ) → m.0.stage ≡ Waits t → Allows Rule slots id m 1 (λ n. n) (Looks list (step slots 1 0 0 none) m)
  allows_look slots id m t waits s r len at fits =
      let n : ℕ = slice_index s.words 1 in
      let is_served : n ≡ r.served = ap (λ ws. slice_index ws 1) r.words in
      let v : View E = m.0 in
      dite (ℕ_discrete n t)
      (λ hit. ⊎_elim
      (λ (x : (x : V) × (s.homes ≡ some (Some x) ∷ []) × (list x ≡ r.log)). (
        holding v t (list x.0),
        takes 0 (Some x.0),
        ap (λ hs. get_elem? hs 0) x.1,
        taken s r id t v x.0 at waits (sym hit ∙ is_served) x.1 x.2,
        (λ u e. let same : u ≡ t = sym (ap number_of e) ∙ ap number_of waits in (
          (λ _. (x.0, ap (λ (k : ℕ). holding v k (list x.0)) (sym same), refl, subst (IsPrefix v.seen) (sym x.2) (r.fits id v at).seen, subst (AllBegin v.told) (sym x.2) (r.fits id v at).told)),
          (λ no. absurd (no (hit ∙ sym same))),
        )),
      ))
      (λ (x : (h : ℕ) × (u : View E) × (s.homes ≡ none ∷ []) × (get_elem? s.views h ≡ some u) × (u.stage ≡ Holds r.served r.log)).
      let same : x.0 ≡ id = r.apart x.0 id x.1 v r.served x.3 at (ap turn_of x.4) (ap turn_of waits ∙ ap Some (sym hit ∙ is_served)) in
      absurd (waits_not_held v.stage t r.served r.log waits (ap (λ (z : View E). z.stage) (at_once s.views id v x.1 at (ap (get_elem? s.views) (sym same) ∙ x.3)) ∙ x.4)))
      r.home_or_held)
      (λ miss. (
        v,
        keeps,
        tt,
        unmoved s 1 id v at r,
        (λ u e. let same : u ≡ t = sym (ap number_of e) ∙ ap number_of waits in ((λ yes. absurd (miss (yes ∙ same))), (λ _. refl))),
      ))

  -- the value comes back, with a longer list
  returned : (s : St) (r : Rule s) (id t : ℕ) (v : View E) (l : List E) (y : V) (homes' : Homes list) (n : ℕ) → get_elem? s.views id ≡ some v → v.stage ≡ Holds t l → IsPrefix l (list y) → homes' ≡ some (Some y) ∷ [] → n ≡ r.served + 1
      → Rule record { words = set s.words 1 n; homes = homes'; views = set s.views id (after_giving v l (list y)) }
  returned s r id t v l y homes' n at held grows home is_next =
      let w : View E = after_giving v l (list y) in
      let f = r.fits id v at in
      let mine = f.holds t l held in
      let turn = f.turn t (ap turn_of held) in
      let turn₀ = turn.0 in let turn₁ = turn.1 in let mine₀ = mine.0 in
      let longer : IsPrefix r.log (list y) = subst (λ a. IsPrefix a (list y)) mine.1 grows in record {
        next = r.next;
        served = r.served + 1;
        log = list y;
        words = ap (λ ws. set ws 1 n) r.words ∙ ap (λ (k : ℕ). r.next ∷ k ∷ []) is_next;
        in_range = r.in_range;
        order = omega arith;
        begins = begins_more o r.log (list y) r.begins longer;
        home_or_held = inl (y, home, refl);
        fits = views_set (λ _ u. Fits (list y) (r.served + 1) r.next u) s.views id w
            record {
              turn = λ u e. absurd (idle_no_turn w.stage u refl e);
              holds = λ u k e. absurd (idle_not_held w.stage u k refl e);
              seen = begins_same (list y);
              told = all_more v.told r.log (list y) longer f.told;
              empty = λ z. absurd (held_not_idle v.stage t l held (f.empty z).1);
            }
            (λ j u other e. let g = r.fits j u e in record {
              turn = λ k x. let b = g.turn k x in let b₀ = b.0 in let b₁ = b.1 in
                  let not_mine : k ≢ t = λ same. other (sym (r.apart id j v u t at e (ap turn_of held) (x ∙ ap Some same))) in (omega arith, omega arith);
              holds = λ k a x. absurd (other (sym (r.apart id j v u t at e (ap turn_of held) (ap turn_of x ∙ ap Some ((g.holds k a x).0 ∙ sym mine.0)))));
              seen = begins_more u.seen r.log (list y) g.seen longer;
              told = all_more u.told r.log (list y) longer g.told;
              empty = g.empty;
            });
        apart = apart_set s.views id w r.apart (λ k j u e _ _ _. idle_no_turn w.stage k refl e);
        given_once = λ k.
            let a = total_set (λ (u : View E). occurrences k u.given) s.views id v w at in
            let b : occurrences k w.given ≡ occurrences k v.given + occurrences k (new_places l (list y)) = occurrences-append k v.given (new_places l (list y)) in
            let c = r.given_once k in
            let d : occurrences k (new_places o (list y)) ≡ occurrences k (new_places o r.log) + occurrences k (new_places r.log (list y)) = new_places-more o r.log (list y) k r.begins longer in
            let e : occurrences k (new_places r.log (list y)) ≡ occurrences k (new_places l (list y)) = ap (λ z. occurrences k (new_places z (list y))) (sym mine.1) in
            omega arith;
        parts = same_parts s r id v w at refl;
      }

  -- advancing keeps the rule
  pub allows_advance : (slots id : ℕ) (m : M) (t : ℕ) (l : List E) (y : V) → m.0.stage ≡ Holds t l → m.1 ≡ (0, Some y) ∷ [] → IsPrefix l (list y)
      → Allows Rule slots id m 1 (λ n. (n + 1) % 2 ^ 64) (Advances list (step slots 1 1 0 none) m)
  allows_advance slots id m t l y held carried grows s r len at fits =
      let v : View E = m.0 in
      let n : ℕ = slice_index s.words 1 in
      let is_served : n ≡ r.served = ap (λ ws. slice_index ws 1) r.words in
      let f = r.fits id v at in
      let turn = f.turn t (ap turn_of held) in
      let turn₀ = turn.0 in let turn₁ = turn.1 in
      let small = r.in_range in
      let served : t ≡ r.served = (f.holds t l held).0 in
      let next : (n + 1) % 18446744073709551616 ≡ r.served + 1 = omega arith in (
        after_giving v l (list y),
        gives,
        tt,
        returned s r id t v l y (put_back s.homes m.1) ((n + 1) % 2 ^ 64) at held grows (ap (put_back s.homes) carried ∙ filled s.homes r.home_or_held) next,
        (λ u k x h c. (ap rest carried, λ i. after_giving v (found_same u k h i) (list (value_same x c i)))),
      )
    where
      filled : (homes : Homes list) → IsHomeOrHeld list r.log r.served homes s.views → set homes 0 (some (Some y)) ≡ some (Some y) ∷ []
      filled homes h = ⊎_elim
          (λ (x : (x : V) × (homes ≡ some (Some x) ∷ []) × (list x ≡ r.log)). ap (λ hs. set hs 0 (some (Some y))) x.1)
          (λ (x : (h : ℕ) × (u : View E) × (homes ≡ none ∷ []) × (get_elem? s.views h ≡ some u) × (u.stage ≡ Holds r.served r.log)). ap (λ hs. set hs 0 (some (Some y))) x.2)
          h

      found_same : (u : ℕ) (k : List E) → m.0.stage ≡ Holds u k → l ≡ k
      found_same u k h = sym (ap found_of held) ∙ ap found_of h

      value_same : (x : V) → m.1 ≡ (0, Some x) ∷ [] → y ≡ x
      value_same x c = sym (ap (first_value y) carried) ∙ ap (first_value y) c

  -- splitting parts off keeps the rule
  pub allows_split : (id : ℕ) (v : View E) (n : ℕ) → n < v.parts → Splits Rule id v (keeping v n) (portion v n)
  allows_split id v k less s r at = let w : View E = keeping v k in let n : View E = portion v k in let f = r.fits id v at in record {
    next = r.next;
    served = r.served;
    log = r.log;
    words = r.words;
    in_range = r.in_range;
    order = r.order;
    begins = r.begins;
    home_or_held = home_or_held-snoc list r.log r.served s.homes (set s.views id w) n (home_or_held-set list r.log r.served s.homes s.views id v w at (λ e. e) r.home_or_held);
    fits = λ j u e. ⊎_elim
        (views_set (λ _ u. Fits r.log r.served r.next u) s.views id w
        record { turn = f.turn; holds = f.holds; seen = f.seen; told = f.told; empty = λ z. absurd (omega arith) }
        (λ j u _ e. r.fits j u e) j u)
        (λ (t : n ≡ u). subst (λ (z : View E). Fits r.log r.served r.next z) t record {
          turn = λ t e. absurd (idle_no_turn n.stage t refl e);
          holds = λ t l e. absurd (idle_not_held n.stage t l refl e);
          seen = f.seen;
          told = f.told;
          empty = λ _. (refl, refl);
        })
        (at_snoc (set s.views id w) n u j e);
    apart = λ i j a b t ai bj ta tb. ⊎_elim
        (λ (x : get_elem? (set s.views id w) i ≡ some a). ⊎_elim
        (λ (y : get_elem? (set s.views id w) j ≡ some b).
        apart_set s.views id w r.apart (λ t j u e other at_u f'. other (sym (r.apart id j v u t at at_u e f'))) i j a b t x y ta tb)
        (λ (y : n ≡ b). absurd (idle_no_turn b.stage t (ap (λ (z : View E). z.stage) (sym y)) tb))
        (at_snoc (set s.views id w) n b j bj))
        (λ (x : n ≡ a). absurd (idle_no_turn a.stage t (ap (λ (z : View E). z.stage) (sym x)) ta))
        (at_snoc (set s.views id w) n a i ai);
    given_once = λ k.
        let a = total_snoc (λ (u : View E). occurrences k u.given) (set s.views id w) n in
        let b = same_given s r id v w k at refl in omega arith;
    parts =
        let a = total_snoc (λ (u : View E). u.parts) (set s.views id w) n in
        let b = total_set (λ (u : View E). u.parts) s.views id v w at in
        let c = r.parts in omega arith;
  }

  -- joining keeps the rule
  pub allows_join : (id : ℕ) (v : View E) (other : ℕ) (u : View E) → u.stage ≡ Idle → Joins Rule id v other u (joined v u) spent_view
  allows_join id v other u idle s r at apart there =
      let w : View E = joined v u in
      let vs : List (View E) = set s.views id w in
      let f = r.fits id v at in
      let was : get_elem? s.views other ≡ some u = sym (set_else s.views id other w apart) ∙ there in
      let g = r.fits other u was in record {
        next = r.next;
        served = r.served;
        log = r.log;
        words = r.words;
        in_range = r.in_range;
        order = r.order;
        begins = r.begins;
        home_or_held = home_or_held-set list r.log r.served s.homes vs other u spent_view there (λ e. absurd (idle_not_held u.stage _ _ idle e)) (home_or_held-set list r.log r.served s.homes s.views id v w at (λ e. e) r.home_or_held);
        fits = views_set (λ _ z. Fits r.log r.served r.next z) vs other spent_view
            record {
              turn = λ t e. absurd (idle_no_turn {E = E} Idle t refl e);
              holds = λ t l e. absurd (idle_not_held {E = E} Idle t l refl e);
              seen = (r.log, refl);
              told = tt;
              empty = λ _. (refl, refl);
            }
            (λ j x _ e. views_set (λ _ z. Fits r.log r.served r.next z) s.views id w
            record {
              turn = f.turn;
              holds = f.holds;
              seen = f.seen;
              told = all_append v.told (u.seen ∷ u.told) r.log f.told (g.seen, g.told);
              empty = λ z. let a = f.empty (omega arith) in let b = g.empty (omega arith) in ((λ i. a.0 i ++ b.0 i), a.1);
            }
            (λ i y _ e'. r.fits i y e') j x e);
        apart = apart_set vs other spent_view
            (apart_set s.views id w r.apart (λ t j x e else at_x f'. else (sym (r.apart id j v x t at at_x e f'))))
            (λ t j x e _ _ _. idle_no_turn {E = E} Idle t refl e);
        given_once = λ k.
            let a = total_set (λ (z : View E). occurrences k z.given) s.views id v w at in
            let b = total_set (λ (z : View E). occurrences k z.given) vs other u spent_view there in
            let c : occurrences k w.given ≡ occurrences k v.given + occurrences k u.given = occurrences-append k v.given u.given in
            let d = r.given_once k in omega arith;
        parts =
            let a = total_set (λ (z : View E). z.parts) s.views id v w at in
            let b = total_set (λ (z : View E). z.parts) vs other u spent_view there in
            let d = r.parts in omega arith;
      }

  -- the table keeps the rule as it is made
  pub starts : (x : V) → list x ≡ o → Rule (opening (0 ∷ 0 ∷ []) (Some x ∷ []) (opening_view seats o))
  starts x is = let v : View E = opening_view seats o in record {
    next = 0;
    served = 0;
    log = o;
    words = refl;
    in_range = omega arith;
    order = omega arith;
    begins = begins_same o;
    home_or_held = inl (x, refl, is);
    fits = λ j u e. only_one (λ _ z. Fits o 0 0 z) v record {
      turn = λ t e. absurd (idle_no_turn v.stage t refl e);
      holds = λ t l e. absurd (idle_not_held v.stage t l refl e);
      seen = begins_same o;
      told = tt;
      empty = λ _. (refl, refl);
    } j u e;
    apart = λ i j a b t ai bj ta tb. absurd (idle_no_turn a.stage t (only_one (λ _ (z : View E). z.stage ≡ Idle) v refl i a ai) ta);
    given_once = λ k. sym (ap (occurrences k) (new_places-none o));
    parts = omega arith;
  }

  -- the value at the end, for a seat with all parts
  pub closes : (id : ℕ) (v : View E) (ws : List ℕ) (xs : List (Option V)) → Final (Seen Rule id v) ws xs → v.parts ≡ seats → v.stage ≡ Idle
      → (y : V) × (get_elem? xs 0 ≡ some (Some y)) × AllBegin (v.seen ∷ v.told) (list y) × IsPrefix o (list y) × ((k : ℕ) → occurrences k v.given ≡ occurrences k (new_places o (list y)))
  closes id v ws xs h whole idle =
      let s = h.0 in
      let r = h.1.0 in
      let at = h.1.1 in
      let all : total (λ (u : View E). u.parts) s.views ≡ v.parts = r.parts ∙ sym whole in
      let f = r.fits id v at in
      ⊎_elim
      (λ (x : (x : V) × (s.homes ≡ some (Some x) ∷ []) × (list x ≡ r.log)).
      let is = sym x.2 in (
        x.0,
        h.4 0 (Some x.0) (ap (λ hs. get_elem? hs 0) x.1),
        subst (λ l. IsPrefix v.seen l × AllBegin v.told l) is (f.seen, f.told),
        subst (IsPrefix o) is r.begins,
        λ k. sym (total_one (λ (u : View E). u.parts) (λ (u : View E). occurrences k u.given) s.views id v (λ j u e z. ap (occurrences k) ((r.fits j u e).empty z).0) at all) ∙ r.given_once k ∙ ap (λ l. occurrences k (new_places o l)) is,
      ))
      (λ (x : (h : ℕ) × (u : View E) × (s.homes ≡ none ∷ []) × (get_elem? s.views h ≡ some u) × (u.stage ≡ Holds r.served r.log)). absurd (dite (ℕ_discrete x.0 id)
      (λ here. idle_not_held v.stage r.served r.log idle (ap (λ (z : View E). z.stage) (at_once s.views id v x.1 at (ap (get_elem? s.views) (sym here) ∙ x.3)) ∙ x.4))
      (λ else. held_not_idle x.1.stage r.served r.log x.4 ((r.fits x.0 x.1 x.3).empty (total_other (λ (u : View E). u.parts) s.views id x.0 v x.1 at x.3 else all)).1)))
      r.home_or_held
