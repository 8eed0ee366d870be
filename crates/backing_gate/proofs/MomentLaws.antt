-- Laws of moments, and of transactions of others around a call.
use Rattle.std.proofs.Common.{◌≡◌, inl, inr, ℕ, ◌+◌, ◌≤◌, min, Option, Some, None, List, [], ◌∷◌, ◌++◌, length, take, drop, refl, sym, ap, subst, ◌∙◌, arith, append_assoc, length-append}
use Rattle.std.proofs.lemmas.List.{append-nil, drop-append-le, take-append-le}
use Rattle.std.specs.Option.{IsSome}
use Rattle.tier_base.specs.declared.number.TableId.{TableId}
use Rattle.table_state.specs.declared.history.Entry.{Entry}
use Rattle.table_state.specs.declared.history.Entry.TheVariants.{Foreign}
use Rattle.table_state.specs.Tables.{TableState}
use Rattle.evaluator.specs.declared.change.Change.{Change}
use Rattle.outside.specs.Calls.{GoesOn, MayGrow}
use Rattle.outside.specs.Holding.{Held}
use Rattle.outside.specs.Others.{AreOthers, Around}
use Rattle.memory_disk.specs.declared.memory_disk.MemoryDisk.{MemoryDisk}
use Rattle.memory_disk.specs.Possible.{moment_of as disk_moment, possible_of as disk_possible}
use Rattle.backing_gate.specs.Heeding.{IsMoment, MayVisit, Visits}
use Rattle.backing_gate.specs.Marks.{least, lesser, mark_at}
use Rattle.backing_gate.specs.Memory.{MemoryState, alone, held_of, now_of, possible_of, site_state, then_of}
use Rattle.backing_gate.specs.SiteLaws.{all_now, at_present}
use Rattle.backing_gate.specs.declared.mark.Mark.{Mark}
use Rattle.backing_gate.proofs.BankLaws.{came as entry_came}

-- the history has entries behind it
abbrev pub Extends : List Entry → List Entry → Type 0
Extends old new = (tail : List Entry) × (new ≡ old ++ tail)

abbrev mark_of : ℕ → ℕ → Mark
mark_of calls entries = record { calls = calls; entries = entries }

same_mark : (a b : Mark) → a.calls ≡ b.calls → a.entries ≡ b.entries → a ≡ b
same_mark a b calls entries = ap (λ (n : ℕ). mark_of n a.entries) calls ∙ ap (λ (n : ℕ). mark_of b.calls n) entries

-- a mark behind the others, and further ones behind it, is the present of before
least_push : (marks : List Mark) (now later : Mark) → now.calls ≤ later.calls → now.entries ≤ later.entries → least (marks ++ now ∷ []) later ≡ least marks now
least_push [] now later calls entries =
    let c : min now.calls later.calls ≡ now.calls = omega arith in
    let e : min now.entries later.entries ≡ now.entries = omega arith in
    same_mark (lesser now later) now c e
least_push (mark ∷ marks) now later calls entries = ap (lesser mark) (least_push marks now later calls entries)

pub least_calls : (marks : List Mark) (now : Mark) → (least marks now).calls ≤ now.calls
least_calls [] now = omega arith
least_calls (mark ∷ marks) now = let le : (least marks now).calls ≤ now.calls = least_calls marks now in omega arith

pub least_entries : (marks : List Mark) (now : Mark) → (least marks now).entries ≤ now.entries
least_entries [] now = omega arith
least_entries (mark ∷ marks) now = let le : (least marks now).entries ≤ now.entries = least_entries marks now in omega arith

-- what was up to the marked moment stays
pub before_mark : (past : List Mark) (now later : Mark) (k : ℕ) → now.calls ≤ later.calls → now.entries ≤ later.entries → k ≤ length past → mark_at (past ++ now ∷ []) later k ≡ mark_at past now k
before_mark past now later k calls entries le =
    ap (λ (marks : List Mark). least marks later) (drop-append-le k past (now ∷ []) le) ∙ least_push (drop k past) now later calls entries

-- a moment that is as far as before
module _ (a d : MemoryState) (k : ℕ) (as_far : then_of d k ≡ then_of a k) (extends : Extends a.history d.history) where
  within : (then_of a k).entries ≤ length a.history
  within = least_entries (drop k a.past) (now_of a)

  front : take (then_of d k).entries d.history ≡ take (then_of a k).entries a.history
  front =
      ap (λ (m : Mark). take m.entries d.history) as_far ∙ ap (take (then_of a k).entries) extends.1
      ∙ take-append-le (then_of a k).entries a.history extends.0 within

  pub was : (p : Held) → ((m : ℕ) (q : Held) → m ≤ disk_moment a.disk → disk_possible d.disk m q → disk_possible a.disk m q) → possible_of d k p → possible_of a k p
  was p disk h = record {
    slots =
        disk (then_of a k).calls (alone p) (least_calls (drop k a.past) (now_of a))
        (subst (λ (m : Mark). disk_possible d.disk m.calls (alone p)) as_far h.slots);
    history = h.history ∙ front;
  }

  pub is : (p : Held) → ((m : ℕ) (q : Held) → m ≤ disk_moment a.disk → disk_possible a.disk m q → disk_possible d.disk m q) → possible_of a k p → possible_of d k p
  is p disk h = record {
    slots =
        subst (λ (m : Mark). disk_possible d.disk m.calls (alone p)) (sym as_far)
        (disk (then_of a k).calls (alone p) (least_calls (drop k a.past) (now_of a)) h.slots);
    history = h.history ∙ sym front;
  }

-- A call that marked its moment: what was possible before it stays, and what is possible behind it came by a step.
module _ (a d : MemoryState) (step : Held → Held → Type 0) (marked : d.past ≡ a.past ++ now_of a ∷ []) (extends : Extends a.history d.history) (later : disk_moment a.disk ≤ disk_moment d.disk)
    (disk_past : (m : ℕ) (q : Held) → m ≤ disk_moment a.disk → disk_possible d.disk m q → disk_possible a.disk m q)
    (disk_kept : (m : ℕ) (q : Held) → m ≤ disk_moment a.disk → disk_possible a.disk m q → disk_possible d.disk m q)
    (came : (p : Held) → p.history ≡ d.history → disk_possible d.disk (disk_moment d.disk) (alone p) → (q : Held) × (q.history ≡ a.history) × disk_possible a.disk (disk_moment a.disk) (alone q) × step q p) where
  longer : length a.history ≤ length d.history
  longer = let sum : length d.history ≡ length a.history + length extends.0 = ap length extends.1 ∙ length-append a.history extends.0 in omega arith

  more : length d.past ≡ length a.past + 1
  more = ap length marked ∙ length-append a.past (now_of a ∷ [])

  as_far : (k : ℕ) → k ≤ length a.past → then_of d k ≡ then_of a k
  as_far k le = ap (λ (l : List Mark). mark_at l (now_of d) k) marked ∙ before_mark a.past (now_of a) (now_of d) k later longer le

  behind : (p : Held) → possible_of d (length d.past) p → (q : Held) × possible_of a (length a.past) q × step q p
  behind p h =
      let slots : disk_possible d.disk (disk_moment d.disk) (alone p) = subst (λ (m : Mark). disk_possible d.disk m.calls (alone p)) (at_present d.past (now_of d)) h.slots in
      let from = came p (h.history ∙ all_now d) slots in (
        from.0,
        record {
          slots = subst (λ (m : Mark). disk_possible a.disk m.calls (alone from.0)) (sym (at_present a.past (now_of a))) from.2;
          history = from.1 ∙ sym (all_now a);
        },
        from.3,
      )

  pub marked_goes : GoesOn site_state possible_of a d step
  marked_goes = record {
    later = omega (arith, more);
    past = λ k p le h. was a d k (as_far k le) extends p disk_past h;
    kept = λ k p le h. is a d k (as_far k le) extends p disk_kept h;
    since = λ k p lt le h.
        let last : k ≡ length d.past = omega (arith, more) in
        behind p (subst (λ (n : ℕ). possible_of d n p) last h);
  }

-- A call that changed nothing: what was possible before it stays.
module _ (a d : MemoryState) (step : Held → Held → Type 0) (past : d.past ≡ a.past) (history : d.history ≡ a.history) (same : disk_moment d.disk ≡ disk_moment a.disk)
    (disk_past : (m : ℕ) (q : Held) → m ≤ disk_moment a.disk → disk_possible d.disk m q → disk_possible a.disk m q)
    (disk_kept : (m : ℕ) (q : Held) → m ≤ disk_moment a.disk → disk_possible a.disk m q → disk_possible d.disk m q) where
  now_same : now_of d ≡ now_of a
  now_same = same_mark (now_of d) (now_of a) same (ap length history)

  still_far : (k : ℕ) → then_of d k ≡ then_of a k
  still_far k = ap (λ (l : List Mark). mark_at l (now_of d) k) past ∙ ap (λ (m : Mark). mark_at a.past m k) now_same

  none_more : Extends a.history d.history
  none_more = ([], history ∙ sym (append-nil a.history))

  pub still_goes : GoesOn site_state possible_of a d step
  still_goes =
      let long : length d.past ≡ length a.past = ap length past in
      record {
        later = omega arith;
        past = λ k p le h. was a d k (still_far k) none_more p disk_past h;
        kept = λ k p le h. is a d k (still_far k) none_more p disk_kept h;
        since = λ k p lt le h. absurd (omega arith);
      }

-- a call of the bank
module _ (a d : MemoryState) (disk : d.disk ≡ a.disk) (extends : Extends a.history d.history) (moment : IsMoment a d) where
  same_past : (m : ℕ) (q : Held) → m ≤ disk_moment a.disk → disk_possible d.disk m q → disk_possible a.disk m q
  same_past m q le h = subst (λ (x : MemoryDisk). disk_possible x m q) disk h

  same_kept : (m : ℕ) (q : Held) → m ≤ disk_moment a.disk → disk_possible a.disk m q → disk_possible d.disk m q
  same_kept m q le h = subst (λ (x : MemoryDisk). disk_possible x m q) (sym disk) h

  same_moment : disk_moment d.disk ≡ disk_moment a.disk
  same_moment = ap disk_moment disk

  bank_came : (p : Held) → p.history ≡ d.history → disk_possible d.disk (disk_moment d.disk) (alone p) → (q : Held) × (q.history ≡ a.history) × disk_possible a.disk (disk_moment a.disk) (alone q) × MayGrow (Some (held_of d)) q p
  bank_came p here slots = (
    record { slots = p.slots; history = a.history },
    refl,
    subst (λ (x : MemoryDisk). disk_possible x (disk_moment x) (alone p)) disk slots,
    (refl, record { came = record { more = extends.0; is = here ∙ extends.1 }; comes = record { more = []; is = sym here ∙ sym (append-nil p.history) } }),
  )

  -- what a crash may leave behind it came by a step
  pub goes_on : GoesOn site_state possible_of a d (MayGrow (Some (held_of d)))
  goes_on = elim moment [
    | inl none ↦ still_goes a d (MayGrow (Some (held_of d))) none.past none.same same_moment same_past same_kept
    | inr marks ↦ marked_goes a d (MayGrow (Some (held_of d))) marks.past extends (omega (arith, same_moment)) same_past same_kept bank_came
  ]

-- what others did in a call is transactions of others
pub entries_of : (shared : List TableId) (planned : Option (List Change)) (old new : List Entry) → MayVisit shared planned old new → (entries : List Entry) × AreOthers shared old entries × (new ≡ old ++ entries)
entries_of shared None old new e = ([], tt, e ∙ nothing old)
  where
    nothing : (h : List Entry) → h ≡ h ++ []
    nothing [] = refl
    nothing (x ∷ h) = ap (λ l. x ∷ l) (nothing h)
entries_of shared (Some changes) old new may = elim may [ inl e ↦ ([], tt, e ∙ nothing old) | inr visit ↦ ones visit ]
  where
    nothing : (h : List Entry) → h ≡ h ++ []
    nothing [] = refl
    nothing (x ∷ h) = ap (λ l. x ∷ l) (nothing h)

    ones : Visits shared changes old new → (entries : List Entry) × AreOthers shared old entries × (new ≡ old ++ entries)
    ones visit = (
      Foreign visit.writes.ops ∷ [],
      (
        visit.shares,
        λ s is.
            let done = visit.writes.done s is in
            subst (λ (o : Option TableState). IsSome o) (sym (entry_came old (Foreign visit.writes.ops) s done.left is done.applies)) refl,
        tt,
      ),
      visit.writes.grows,
    )

-- a call's own step with what others did
module _ (shared : List TableId) (before behind : Option (List Change)) (step : List Entry → List Entry → Type 0) (h0 h1 h2 h3 : List Entry) (came_before : MayVisit shared before h0 h1) (own : step h1 h2) (came_behind : MayVisit shared behind h2 h3) where
  pub around : Around shared step h0 h3
  around =
      let front = entries_of shared before h0 h1 came_before in
      let back = entries_of shared behind h2 h3 came_behind in
      record {
        before = front.0;
        middle = h2;
        behind = back.0;
        came_before = front.1;
        own = subst (λ (h : List Entry). step h h2) front.2 own;
        came_behind = back.1;
        is = back.2;
      }

  pub extends_all : Extends h1 h2 → Extends h0 h3
  extends_all e =
      let front = entries_of shared before h0 h1 came_before in
      let back = entries_of shared behind h2 h3 came_behind in (
        front.0 ++ (e.0 ++ back.0),
        back.2 ∙ ap (λ (h : List Entry). h ++ back.0) (e.1 ∙ ap (λ (h : List Entry). h ++ e.0) front.2)
            ∙ append_assoc (h0 ++ front.0) e.0 back.0 ∙ append_assoc h0 front.0 (e.0 ++ back.0),
      )
