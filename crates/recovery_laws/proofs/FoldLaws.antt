-- What the entries fold to, and that a matching pair stands.
use Rattle.std.proofs.Common.{◌≡◌, ◌⊎◌, inl, inr, ℕ, ◌+◌, ◌≤◌, ◌<◌, List, [], ◌∷◌, ◌++◌, Bool, true, false, ◌||◌, cond, nat_eq, Option, Some, None, refl, sym, ◌∙◌, ap, subst, arith, eqb-true}
use Rattle.order_laws.specs.table_state.specs.declared.history.Entry.{Entry}
use Rattle.order_laws.specs.table_state.specs.declared.history.Entry.TheVariants.{Definition, Foreign, Own}
use Rattle.order_laws.specs.table_state.specs.declared.history.Sealed.{Sealed}
use Rattle.order_laws.specs.table_state.specs.Histories.{has_ticket}
use Rattle.order_laws.specs.Commits.{RiseBetween}
use Rattle.recovery_laws.specs.Notes.{Catalog, Commit, Define, Drop, FitAll, Flag, Mark, Note, Number, Prepare, found, if_stands, is_noted, log_in, only_found, recall, recall_all, told}

-- tickets rise

pub rise_higher : (low : ℕ) (log : List Sealed) (high later : ℕ) → high ≤ later → RiseBetween low log high → RiseBetween low log later
rise_higher low [] high later le rise = let a : low ≤ high = rise in omega (arith, le)
rise_higher low (s ∷ log) high later le rise = (rise.0, rise_higher (s.ticket.0 + 1) log high later le rise.1)

pub rise_lower : (low other : ℕ) (log : List Sealed) (high : ℕ) → low ≤ other → RiseBetween other log high → RiseBetween low log high
rise_lower low other [] high le rise = let a : other ≤ high = rise in omega (arith, le)
rise_lower low other (s ∷ log) high le rise = (let a : other ≤ s.ticket.0 = rise.0 in omega (arith, le), rise.1)

-- what is found stands in the history
pub found_there : (t : ℕ) (h : List Entry) (s : Sealed) → found t h ≡ Some s → (s.ticket.0 ≡ t) × (has_ticket t h ≡ true)
found_there t [] s e = cc
found_there t (Definition def ∷ h) s e = found_there t h s e
found_there t (Foreign os ∷ h) s e = found_there t h s e
found_there t (Own u os ∷ h) s e = by (nat_eq u.0 t) refl e (found_there t h s)
  where
    by : (b : Bool) → nat_eq u.0 t ≡ b → cond b (Some (record { ticket = u; ops = os })) (found t h) ≡ Some s → (found t h ≡ Some s → (s.ticket.0 ≡ t) × (has_ticket t h ≡ true)) → (s.ticket.0 ≡ t) × ((nat_eq u.0 t || has_ticket t h) ≡ true)
    by true x e more = let same : ◌≡◌ {A = Sealed} (record { ticket = u; ops = os }) s = cc in (ap (λ (y : Sealed). y.ticket.0) (sym same) ∙ eqb-true u.0 t x, ap (λ b. b || has_ticket t h) x)
    by false x e more = let r = more e in (r.0, ap (λ b. b || has_ticket t h) x ∙ r.1)

-- what is told of an entry rises
told_rise : (h : List Entry) (low t : ℕ) (told_of : List Sealed) (rest : List Sealed) (high : ℕ) → low ≤ t → RiseBetween (t + 1) rest high → ((told_of ≡ []) ⊎ ((s : Sealed) × (told_of ≡ s ∷ []) × (s.ticket.0 ≡ t))) → RiseBetween low (told_of ++ rest) high
told_rise h low t told_of rest high le rise (inl none) = subst (λ (l : List Sealed). RiseBetween low (l ++ rest) high) (sym none) (rise_lower low (t + 1) rest high (omega (arith, le)) rise)
told_rise h low t told_of rest high le rise (inr one) =
    subst (λ (l : List Sealed). RiseBetween low (l ++ rest) high) (sym one.1) (subst (λ (n : ℕ). low ≤ n) (sym one.2) le, subst (λ (n : ℕ). RiseBetween (n + 1) rest high) (sym one.2) rise)

-- at most one transaction, of this ticket
pub if_stands_one : (b : Bool) (s : Sealed) → (if_stands b s ≡ []) ⊎ ((x : Sealed) × (if_stands b s ≡ x ∷ []) × (x.ticket.0 ≡ s.ticket.0))
if_stands_one true s = inr (s, refl, refl)
if_stands_one false s = inl refl

pub found_one : (t : ℕ) (h : List Entry) → (only_found (found t h) ≡ []) ⊎ ((x : Sealed) × (only_found (found t h) ≡ x ∷ []) × (x.ticket.0 ≡ t))
found_one t h = by (found t h) refl
  where
    by : (o : Option Sealed) → found t h ≡ o → (only_found o ≡ []) ⊎ ((x : Sealed) × (only_found o ≡ x ∷ []) × (x.ticket.0 ≡ t))
    by None e = inl refl
    by (Some x) e = inr (x, refl, (found_there t h x e).0)

pub fold_rise : (h : List Entry) (c : Catalog) (log : List Sealed) (notes : List Note) → FitAll h c log notes → RiseBetween c.next (log_in h notes) (recall_all notes c).next
fold_rise h c log [] fits = omega arith
fold_rise h c log (Commit s ∷ notes) fits = ((fits.0).0, fold_rise h (recall (Commit s) c) (log ++ s ∷ []) notes fits.1)
fold_rise h c log (Prepare s ∷ notes) fits =
    told_rise h c.next s.ticket.0 (told h (Prepare s)) (log_in h notes) (recall_all notes (recall (Prepare s) c)).next (fits.0).0 (fold_rise h (recall (Prepare s) c) (log ++ told h (Prepare s)) notes fits.1) (if_stands_one (has_ticket s.ticket.0 h) s)
fold_rise h c log (Number t ∷ notes) fits =
    told_rise h c.next t (told h (Number t)) (log_in h notes) (recall_all notes (recall (Number t) c)).next fits.0 (fold_rise h (recall (Number t) c) (log ++ told h (Number t)) notes fits.1) (found_one t h)
fold_rise h c log (Mark n ∷ notes) fits = fold_rise h c (log ++ []) notes fits.1
fold_rise h c log (Define name tables ∷ notes) fits = fold_rise h (recall (Define name tables) c) (log ++ []) notes fits.1
fold_rise h c log (Drop name ∷ notes) fits = fold_rise h (recall (Drop name) c) (log ++ []) notes fits.1
fold_rise h c log (Flag name flag ∷ notes) fits = fold_rise h (recall (Flag name flag) c) (log ++ []) notes fits.1

-- the next ticket only rises, and is above those of the entries

pub next_grows : (h : List Entry) (c : Catalog) (log : List Sealed) (notes : List Note) → FitAll h c log notes → c.next ≤ (recall_all notes c).next
next_grows h c log [] fits = omega arith
next_grows h c log (Commit s ∷ notes) fits = let a : c.next ≤ s.ticket.0 = (fits.0).0 in let b : s.ticket.0 + 1 ≤ (recall_all notes (recall (Commit s) c)).next = next_grows h (recall (Commit s) c) (log ++ s ∷ []) notes fits.1 in omega arith
next_grows h c log (Prepare s ∷ notes) fits = let a : c.next ≤ s.ticket.0 = (fits.0).0 in let b : s.ticket.0 + 1 ≤ (recall_all notes (recall (Prepare s) c)).next = next_grows h (recall (Prepare s) c) (log ++ told h (Prepare s)) notes fits.1 in omega arith
next_grows h c log (Number t ∷ notes) fits = let a : c.next ≤ t = fits.0 in let b : t + 1 ≤ (recall_all notes (recall (Number t) c)).next = next_grows h (recall (Number t) c) (log ++ told h (Number t)) notes fits.1 in omega arith
next_grows h c log (Mark n ∷ notes) fits = next_grows h c (log ++ []) notes fits.1
next_grows h c log (Define name tables ∷ notes) fits = next_grows h (recall (Define name tables) c) (log ++ []) notes fits.1
next_grows h c log (Drop name ∷ notes) fits = next_grows h (recall (Drop name) c) (log ++ []) notes fits.1
next_grows h c log (Flag name flag ∷ notes) fits = next_grows h (recall (Flag name flag) c) (log ++ []) notes fits.1

or_case : (a b : Bool) → (a || b) ≡ true → (a ≡ true) ⊎ (b ≡ true)
or_case true b e = inl refl
or_case false b e = inr e

noted_first : (t u : ℕ) (more : Bool) (top : ℕ) → (nat_eq u t || more) ≡ true → u + 1 ≤ top → (more ≡ true → t < top) → t < top
noted_first t u more top e le rest = by (or_case (nat_eq u t) more e)
  where
    by : (nat_eq u t ≡ true) ⊎ (more ≡ true) → t < top
    by (inl same) = let x : u ≡ t = eqb-true u t same in omega (arith, le)
    by (inr there) = rest there

pub noted_below : (h : List Entry) (c : Catalog) (log : List Sealed) (notes : List Note) (t : ℕ) → FitAll h c log notes → is_noted t notes ≡ true → t < (recall_all notes c).next
noted_below h c log [] t fits e = cc
noted_below h c log (Commit s ∷ notes) t fits e = noted_first t s.ticket.0 (is_noted t notes) (recall_all notes (recall (Commit s) c)).next e (next_grows h (recall (Commit s) c) (log ++ s ∷ []) notes fits.1) (noted_below h (recall (Commit s) c) (log ++ s ∷ []) notes t fits.1)
noted_below h c log (Prepare s ∷ notes) t fits e = noted_first t s.ticket.0 (is_noted t notes) (recall_all notes (recall (Prepare s) c)).next e (next_grows h (recall (Prepare s) c) (log ++ told h (Prepare s)) notes fits.1) (noted_below h (recall (Prepare s) c) (log ++ told h (Prepare s)) notes t fits.1)
noted_below h c log (Number u ∷ notes) t fits e = noted_first t u (is_noted t notes) (recall_all notes (recall (Number u) c)).next e (next_grows h (recall (Number u) c) (log ++ told h (Number u)) notes fits.1) (noted_below h (recall (Number u) c) (log ++ told h (Number u)) notes t fits.1)
noted_below h c log (Mark n ∷ notes) t fits e = noted_below h c (log ++ []) notes t fits.1 e
noted_below h c log (Define name tables ∷ notes) t fits e = noted_below h (recall (Define name tables) c) (log ++ []) notes t fits.1 e
noted_below h c log (Drop name ∷ notes) t fits e = noted_below h (recall (Drop name) c) (log ++ []) notes t fits.1 e
noted_below h c log (Flag name flag ∷ notes) t fits e = noted_below h (recall (Flag name flag) c) (log ++ []) notes t fits.1 e
