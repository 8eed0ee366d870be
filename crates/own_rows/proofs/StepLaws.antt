-- Laws of making steps.
use Rattle.std.proofs.Common.{◌≡◌, ℕ, zero, suc, ◌+◌, ◌-◌, ◌<◌, ◌≤◌, ◌^◌, Bool, true, false, cond, Option, Some, None, List, [], ◌∷◌, ◌++◌, get_or, length, take, slice_get, slice_set, inl, inr, refl, sym, ap, subst, ◌∙◌, arith}
use Rattle.std.specs.FinMap.{contains_key, insert, len, len-insert, len-remove, remove}
use Rattle.std.proofs.lemmas.Bool.{cases_eq}
use Rattle.table_state.specs.row_types.specs.declared.value.Value.{Value}
use Rattle.table_state.specs.row_types.proofs.OrderLaws.{key_total}
use Rattle.table_state.specs.tier_base.specs.declared.number.TableId.{TableId}
use Rattle.table_state.specs.indexed_rows.specs.Rows.{Table, put_in}
use Rattle.table_state.specs.table_defs.specs.declared.definition.TableDef.{TableDef}
use Rattle.table_state.specs.declared.operation.Op.{Op}
use Rattle.table_state.specs.Operations.{table_of}
use Rattle.own_rows.specs.declared.own.OwnRows.{OwnRows}
use Rattle.own_rows.specs.declared.steps.Step.{Step}
use Rattle.own_rows.specs.declared.steps.Step.TheVariants.{New, Changed, Out}
use Rattle.own_rows.specs.Laying.{AreReady, AreStepsOf, HasRoom, HaveRoom, IsReady, IsStepIn, laid_in, stepped, stepped_all, stepped_with}
use Rattle.own_rows.specs.OwnTables.{AreRowsOf}
use Rattle.own_rows.proofs.LayingLaws.{set_here, set_length, set_other}
use Rattle.own_rows.proofs.RowsLaws.{rows_more}

same_some : {X : Type 0} (x y : X) → Some x ≡ Some y → x ≡ y
same_some x y e = cc

more_after : (m : Table) (k v : List Value) → len (put_in m k v) ≤ len m + 1
more_after m k v = by (contains_key m k) (len-insert key_total m k v)
  where
    by : (b : Bool) → len (insert m k v) ≡ cond (contains_key m k) (len m) (len m + 1) → len (cond b m (insert m k v)) ≤ len m + 1
    by true e = omega arith
    by false e = up (contains_key m k) e
      where
        up : (c : Bool) → len (insert m k v) ≡ cond c (len m) (len m + 1) → len (insert m k v) ≤ len m + 1
        up true e = omega arith
        up false e = omega arith

inserted_after : (m : Table) (k v : List Value) → len (insert m k v) ≤ len m + 1
inserted_after m k v = up (contains_key m k) (len-insert key_total m k v)
  where
    up : (c : Bool) → len (insert m k v) ≡ cond c (len m) (len m + 1) → len (insert m k v) ≤ len m + 1
    up true e = omega arith
    up false e = omega arith

removed_after : (m : Table) (k : List Value) → len (remove m k) ≤ len m
removed_after m k = up (contains_key m k) (len-remove key_total m k)
  where
    up : (c : Bool) → len (remove m k) ≡ cond c (len m - 1) (len m) → len (remove m k) ≤ len m
    up true e = omega arith
    up false e = omega arith

either_after : (b : Bool) (x y : Table) (n : ℕ) → len x ≤ n → len y ≤ n → len (cond b x y) ≤ n
either_after true x y n h i = h
either_after false x y n h i = i

-- steps

grown : (step : Step) (own : OwnRows) → (len (stepped step own).live ≤ len own.live + 1) × (len (stepped step own).fresh ≤ len own.fresh + 1) × (len (stepped step own).gone ≤ len own.gone + 1)
grown (New row mark) own = (
  inserted_after own.live row.0 row.1,
  either_after (contains_key own.gone row.0) own.fresh (put_in own.fresh row.0 []) (len own.fresh + 1) (omega arith) (more_after own.fresh row.0 []),
  either_after (contains_key own.gone row.0) (remove own.gone row.0) own.gone (len own.gone + 1) (let r = removed_after own.gone row.0 in omega arith) (omega arith),
)
grown (Changed row) own = (inserted_after own.live row.0 row.1, omega arith, omega arith)
grown (Out mark) own = (
  (let r = removed_after own.live mark.0 in omega arith),
  either_after (contains_key own.fresh mark.0) (remove own.fresh mark.0) own.fresh (len own.fresh + 1) (let r = removed_after own.fresh mark.0 in omega arith) (omega arith),
  either_after (contains_key own.fresh mark.0) own.gone (put_in own.gone mark.0 []) (len own.gone + 1) (omega arith) (more_after own.gone mark.0 []),
)

pub found : {A : Type 0} (xs : List A) (i : ℕ) → i < length xs → (x : A) × (slice_get xs i ≡ Some x)
found [] i lt = absurd (omega arith)
found (x ∷ xs) zero lt = (x, refl)
found (x ∷ xs) (suc i) lt = found xs i (omega arith)

pub room_less : (m n : ℕ) (owns : List OwnRows) → n ≤ m → HaveRoom m owns → HaveRoom n owns
room_less m n owns le room i own at = let r = room i own at in ((let a = r.0 in omega arith), (let a = r.1 in omega arith), (let a = r.2 in omega arith))

-- a step takes the room of one row
room_step : (n : ℕ) (owns : List OwnRows) (t : TableId) (step : Step) (f : OwnRows) → slice_get owns t.0 ≡ Some f → HaveRoom (suc n) owns → HaveRoom n (slice_set owns t.0 (stepped step f))
room_step n owns t step f f_is room i own at =
    elim (cases_eq t.0 i) as (λ d. (len own.live + n < 2 ^ 63) × (len own.fresh + n < 2 ^ 63) × (len own.gone + n < 2 ^ 63)) [
      | inl here ↦
          let own_is : stepped step f ≡ own = same_some (stepped step f) own (sym (set_here owns t.0 f (stepped step f) f_is) ∙ ap (slice_get (slice_set owns t.0 (stepped step f))) here ∙ at) in
          let g = grown step f in let r = room t.0 f f_is in
          let a : len (stepped step f).live ≡ len own.live = ap (λ (o : OwnRows). len o.live) own_is in
          let b : len (stepped step f).fresh ≡ len own.fresh = ap (λ (o : OwnRows). len o.fresh) own_is in
          let c : len (stepped step f).gone ≡ len own.gone = ap (λ (o : OwnRows). len o.gone) own_is in
          ((let x = g.0 in let y = r.0 in omega arith), (let x = g.1 in let y = r.1 in omega arith), (let x = g.2 in let y = r.2 in omega arith))
      | inr apart ↦
          let r = room i own (sym (set_other owns t.0 i (stepped step f) apart) ∙ at) in
          ((let y = r.0 in omega arith), (let y = r.1 in omega arith), (let y = r.2 in omega arith))
    ]

module _ (rest later : List (TableId × Step)) (t : TableId) (step : Step) (is : rest ≡ (t, step) ∷ later) where
  pub step_within : (n : ℕ) → AreReady n rest → (t.0 < n) × IsReady step × AreReady n later
  step_within n ready = subst (AreReady n) is ready

  pub step_room : (owns : List OwnRows) → HaveRoom (length rest) owns → (own : OwnRows) → slice_get owns t.0 ≡ Some own → HasRoom own
  step_room owns room own at =
      let r = room t.0 own at in let l : length rest ≡ suc (length later) = ap length is in
      record { live = (let a = r.0 in omega arith); fresh = (let a = r.1 in omega arith); gone = (let a = r.2 in omega arith) }

  module _ (owns new : List OwnRows) (made : (own : OwnRows) → slice_get owns t.0 ≡ Some own → new ≡ slice_set owns t.0 (stepped step own)) (lt : t.0 < length owns) where
    pub new_is : new ≡ stepped_with (slice_get owns t.0) t step owns
    new_is = let f = found owns t.0 lt in made f.0 f.1 ∙ ap (λ o. stepped_with o t step owns) (sym f.1)

    pub steps_done : (end : List OwnRows) → stepped_all rest owns ≡ end → stepped_all later new ≡ end
    steps_done end e = ap (stepped_all later) new_is ∙ ap (λ l. stepped_all l owns) (sym is) ∙ e

    pub still_long : length new ≡ length owns
    still_long = let f = found owns t.0 lt in ap length (made f.0 f.1) ∙ set_length owns t.0 (stepped step f.0)

    pub steps_room : HaveRoom (length rest) owns → HaveRoom (length later) new
    steps_room room =
        let f = found owns t.0 lt in
        let l : length rest ≡ suc (length later) = ap length is in
        subst (HaveRoom (length later)) (sym (made f.0 f.1)) (room_step (length later) owns t step f.0 f.1 (subst (λ n. HaveRoom n owns) l room))

pub steps_end : (rest : List (TableId × Step)) (owns end : List OwnRows) → length rest ≡ 0 → stepped_all rest owns ≡ end → owns ≡ end
steps_end [] owns end e h = h
steps_end (x ∷ rest) owns end e h = absurd (omega arith)

-- a step more
pub steps_push : (schema : List TableDef) (ops : List Op) (op : Op) (steps : List (TableId × Step)) (one : TableId × Step) → AreStepsOf schema ops steps → one.0 ≡ table_of op → IsStepIn (slice_get schema (table_of op).0) op one.1 → AreStepsOf schema (ops ++ op ∷ []) (steps ++ one ∷ [])
steps_push schema [] op [] one are table step = (table, step, tt)
steps_push schema [] op (x ∷ steps) one are table step = absurd are
steps_push schema (o ∷ ops) op [] one are table step = absurd are
steps_push schema (o ∷ ops) op (x ∷ steps) one are table step = (are.0, are.1, steps_push schema ops op steps one are.2 table step)

take_item : {A : Type 0} (xs : List A) (i : ℕ) (x : A) → i < length xs → x ≡ get_or xs i x → take (i + 1) xs ≡ take i xs ++ x ∷ []
take_item [] i x lt e = absurd (omega arith)
take_item (y ∷ xs) zero x lt e = ap (λ z. z ∷ []) (sym e)
take_item (y ∷ xs) (suc i) x lt e = let next : suc i + 1 ≡ suc (i + 1) = omega arith in rw next (ap (λ l. y ∷ l) (take_item xs i x (omega arith) e))

pub steps_next : (schema : List TableDef) (ops : List Op) (i : ℕ) (op : Op) (steps new : List (TableId × Step)) (one : TableId × Step) → i < length ops → op ≡ get_or ops i op → new ≡ steps ++ one ∷ [] → AreStepsOf schema (take i ops) steps → one.0 ≡ table_of op → IsStepIn (slice_get schema (table_of op).0) op one.1 → AreStepsOf schema (take (i + 1) ops) new
steps_next schema ops i op steps new one lt item is are table step =
    subst (AreStepsOf schema (take (i + 1) ops)) (sym is) (subst (λ l. AreStepsOf schema l (steps ++ one ∷ [])) (sym (take_item ops i op lt item)) (steps_push schema (take i ops) op steps one are table step))

-- the steps are ready
pub steps_ready : (schema : List TableDef) (ops : List Op) (steps : List (TableId × Step)) (n : ℕ) → n ≡ length schema → AreStepsOf schema ops steps → AreReady n steps
steps_ready schema [] [] n wide are = tt
steps_ready schema [] (x ∷ steps) n wide are = absurd are
steps_ready schema (op ∷ ops) [] n wide are = absurd are
steps_ready schema (op ∷ ops) (x ∷ steps) n wide are = (within (slice_get schema (table_of op).0) refl are.1, ready (slice_get schema (table_of op).0) are.1, steps_ready schema ops steps n wide are.2)
  where
    past : {A : Type 0} (xs : List A) (i : ℕ) (y : A) → slice_get xs i ≡ Some y → i < length xs
    past [] i y e = cc
    past (z ∷ xs) zero y e = omega arith
    past (z ∷ xs) (suc i) y e = let r = past xs i y e in omega arith

    within : (o : Option TableDef) → slice_get schema (table_of op).0 ≡ o → IsStepIn o op x.1 → x.0.0 < n
    within None is step = absurd step
    within (Some def) is step = let p = past schema (table_of op).0 def is in let same : x.0.0 ≡ (table_of op).0 = ap (λ (t : TableId). t.0) are.0 in omega arith

    ready : (o : Option TableDef) → IsStepIn o op x.1 → IsReady x.1
    ready None step = absurd step
    ready (Some def) step = step.ready

pub as_many : (schema : List TableDef) (ops : List Op) (steps : List (TableId × Step)) → AreStepsOf schema ops steps → length steps ≡ length ops
as_many schema [] [] are = refl
as_many schema [] (x ∷ steps) are = absurd are
as_many schema (op ∷ ops) [] are = absurd are
as_many schema (op ∷ ops) (x ∷ steps) are = ap suc (as_many schema ops steps are.2)

-- what the steps make are the rows of all operations
pub rows_all : (schema : List TableDef) (more : List Op) (steps : List (TableId × Step)) (ops : List Op) (owns : List OwnRows) → length owns ≡ length schema → AreStepsOf schema more steps → AreRowsOf schema ops owns → AreRowsOf schema (ops ++ more) (stepped_all steps owns)
rows_all schema [] [] ops owns wide are rows = subst (λ l. AreRowsOf schema l owns) (sym (nothing ops)) rows
  where
    nothing : (xs : List Op) → xs ++ [] ≡ xs
    nothing [] = refl
    nothing (x ∷ xs) = ap (λ l. x ∷ l) (nothing xs)
rows_all schema [] (x ∷ steps) ops owns wide are rows = absurd are
rows_all schema (op ∷ more) [] ops owns wide are rows = absurd are
rows_all schema (op ∷ more) (x ∷ steps) ops owns wide are rows =
    by (slice_get schema (table_of op).0) refl are.1 (λ next. rows_all schema more steps (ops ++ op ∷ []) next)
  where
    joined : (xs : List Op) (y : Op) (ys : List Op) → (xs ++ y ∷ []) ++ ys ≡ xs ++ y ∷ ys
    joined [] y ys = refl
    joined (z ∷ xs) y ys = ap (λ l. z ∷ l) (joined xs y ys)

    past : {A : Type 0} (xs : List A) (i : ℕ) (y : A) → slice_get xs i ≡ Some y → i < length xs
    past [] i y e = cc
    past (z ∷ xs) zero y e = omega arith
    past (z ∷ xs) (suc i) y e = let r = past xs i y e in omega arith

    by : (o : Option TableDef) → slice_get schema (table_of op).0 ≡ o → IsStepIn o op x.1 → ((next : List OwnRows) → length next ≡ length schema → AreStepsOf schema more steps → AreRowsOf schema (ops ++ op ∷ []) next → AreRowsOf schema ((ops ++ op ∷ []) ++ more) (stepped_all steps next))
        → AreRowsOf schema (ops ++ op ∷ more) (stepped_all (x ∷ steps) owns)
    by None is step later = absurd step
    by (Some def) is step later =
        let p = past schema (table_of op).0 def is in
        let own = found owns (table_of op).0 (omega arith) in
        let first = rows_more schema ops op owns def own.0 is own.1 rows in
        let set_is : stepped_with (slice_get owns x.0.0) x.0 x.1 owns ≡ slice_set owns (table_of op).0 (laid_in def op own.0) =
        ap (λ (t : TableId). stepped_with (slice_get owns t.0) t x.1 owns) are.0 ∙ ap (λ o. stepped_with o (table_of op) x.1 owns) own.1 ∙ ap (slice_set owns (table_of op).0) (step.makes own.0) in
        let rest = later (slice_set owns (table_of op).0 (laid_in def op own.0)) (set_length owns (table_of op).0 (laid_in def op own.0) ∙ wide) are.2 first in
        subst (λ l. AreRowsOf schema l (stepped_all (x ∷ steps) owns)) (joined ops op more) (subst (λ l. AreRowsOf schema ((ops ++ op ∷ []) ++ more) (stepped_all steps l)) (sym set_is) rest)

pub stays_long : (steps : List (TableId × Step)) (owns : List OwnRows) → length (stepped_all steps owns) ≡ length owns
stays_long [] owns = refl
stays_long (x ∷ steps) owns = stays_long steps (stepped_with (slice_get owns x.0.0) x.0 x.1 owns) ∙ one (slice_get owns x.0.0)
  where
    one : (o : Option OwnRows) → length (stepped_with o x.0 x.1 owns) ≡ length owns
    one None = refl
    one (Some own) = set_length owns x.0.0 (stepped x.1 own)

-- steps take the room of as many rows
pub room_laid : (steps : List (TableId × Step)) (owns : List OwnRows) (n : ℕ) → AreReady (length owns) steps → HaveRoom (length steps + n) owns → HaveRoom n (stepped_all steps owns)
room_laid [] owns n ready room = room_less (0 + n) n owns (omega arith) room
room_laid (x ∷ steps) owns n ready room =
    let f = found owns x.0.0 ready.0 in
    let less : HaveRoom (suc (length steps + n)) owns = room_less (suc (length steps) + n) (suc (length steps + n)) owns (omega arith) room in
    let long : length owns ≡ length (slice_set owns x.0.0 (stepped x.1 f.0)) = sym (set_length owns x.0.0 (stepped x.1 f.0)) in
    let rest = room_laid steps (slice_set owns x.0.0 (stepped x.1 f.0)) n (subst (λ m. AreReady m steps) long ready.2) (room_step (length steps + n) owns x.0 x.1 f.0 f.1 less) in
    subst (λ o. HaveRoom n (stepped_all steps (stepped_with o x.0 x.1 owns))) (sym f.1) rest
