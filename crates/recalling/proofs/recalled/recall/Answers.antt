-- An entry more, the first that doesn't fit, and all of them.
use Rattle.std.proofs.Common.{◌≡◌, ◌∙◌, ◌++◌, ◌∷◌, [], ℕ, ap, min, subst, sym}
use Rattle.std.proofs.lemmas.List.{append-nil, append_assoc, map-append}
use Rattle.order_laws.specs.Commits.{RiseBetween}
use Rattle.cache_tier.specs.TierStates.{cut, opened}
use Rattle.group_catalog.specs.Catalogs.{groups_in}
use Rattle.tier_journal.specs.declared.record.Record.{Record}
use Rattle.tier_journal.specs.Opening.{meaning, meanings}
use Rattle.recalling.specs.declared.recalled.Recalled.{Recalled}
use Rattle.recalling.specs.Recalled.{AreInOrder, IsRecalled}
use Rattle.recalling.specs.Steps.{IsTaken}
use Rattle.recalling.proofs.FoldLaws.{IsFolded, fits_there, folded_more, none_left, recalled_by, recalls_all, risen_next}
use Rattle.recalling.proofs.OrderLaws.{in_order}
use Rattle.recalling.proofs.recalled.recall.Goals as goal

pub returns-then-not-branch-clause-unfit : goal.returns-then-not-branch-clause-unfit
returns-then-not-branch-clause-unfit c = λ settings.
    let front = c.loop-place.yielded in
    let fold = c.loop-place.fold in
    let l = c.loop-place.invariant.folded.leaves settings in
    record {
      front = front;
      one = c.in-Some.entry;
      behind = c.next.new.self.rest.items;
      are = sym c.loop-place.invariant.are ∙ ap (λ rs. front ++ rs) c.in-Some.ensures.steps.0;
      tier = l.tier;
      recalls = recalls_all (meanings front) (opened settings c.args.now.0 c.args.schema.now) l.tier l.fit;
      fit = l.fit;
      unfit = fits_there settings c.args.now.0 c.args.schema.now (meanings front) (groups_in fold.catalog) fold.above l (meaning c.in-Some.entry)
          ∙ c.in_ok-take.ensures.unfit c.if-not-branch.true;
    }

pub loop-place-preserved : goal.loop-place-preserved
loop-place-preserved c =
    let front = c.loop-place.yielded in
    let one : ℕ × Record = (c.in-Some.place, c.in-Some.entry) in
    let e = meaning c.in-Some.entry in
    let old = c.loop-place.fold in
    let new = c.take.new.self in
    let at : c.min.result ≡ cut c.args.now.0 = c.min.ensures ∙ ap (λ n. min c.args.now.0 n) c.number.ensures in
    let taken = subst (λ m. IsTaken c.args.schema.now m e old new) at (c.in_ok-take.ensures.taken c.if-not-branch.false) in
    record {
      are = append_assoc front (one ∷ []) c.next.new.self.rest.items ∙ ap (λ rs. front ++ rs) (sym c.in-Some.ensures.steps.0) ∙ c.loop-place.invariant.are;
      folded = subst (λ es. IsFolded c.args.schema.now c.args.now.0 es new) (sym (map-append (λ (r : ℕ × Record). meaning r.1) front (one ∷ [])))
          (folded_more c.read_back_law.ensures c.args.schema.now c.args.now.0 (meanings front) e old new c.loop-place.invariant.folded taken);
    }

pub returns-clause-recalls : goal.returns-clause-recalls
returns-clause-recalls c = λ settings.
    let front = c.loop-place.yielded in
    let none : c.loop-place.place-iterator.rest.items ≡ [] = none_left c.loop-place.place-iterator.rest.items (sym c.loop-place.place-iterator.rest.ok.0 ∙ c.in-None.ensures.steps.0) in
    let all : front ≡ c.args.records.items = sym (append-nil front) ∙ ap (λ rs. front ++ rs) (sym none) ∙ c.loop-place.invariant.are in
    subst (λ (r : Recalled). IsRecalled settings c.args.now.0 c.args.schema.now (meanings c.args.records.items) (groups_in r.catalog)) (sym c.into_recalled.ensures)
    (subst (λ rs. IsRecalled settings c.args.now.0 c.args.schema.now (meanings rs) (groups_in c.loop-place.fold.catalog)) all
    (recalled_by settings c.args.schema.now c.args.now.0 (meanings front) c.loop-place.fold c.loop-place.invariant.folded))

pub returns-clause-order : goal.returns-clause-order
returns-clause-order c =
    subst (λ (r : Recalled). AreInOrder c.args.schema.now (groups_in r.catalog)) (sym c.into_recalled.ensures)
    (in_order c.args.schema.now (groups_in c.loop-place.fold.catalog) c.loop-place.invariant.folded.order)

pub returns-clause-rise : goal.returns-clause-rise
returns-clause-rise c =
    subst (λ (r : Recalled). RiseBetween 1 r.commits.items r.next) (sym c.into_recalled.ensures)
    (risen_next c.args.schema.now c.args.now.0 (meanings c.loop-place.yielded) c.loop-place.fold c.loop-place.invariant.folded)
