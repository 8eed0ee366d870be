-- A tier begins over a new site.
use Rattle.std.proofs.Common.{◌≡◌, ◌||◌, ℕ, Bool, true, false, List, [], ◌∷◌, ◌++◌, Option, Some, None, refl, sym, ◌∙◌, ap, subst, append-nil, append_assoc, lit≤}
use Rattle.std.specs.Option.{IsSome}
use Rattle.tier_base.specs.declared.number.TableId.{TableId}
use Rattle.table_state.specs.declared.history.Entry.{Entry}
use Rattle.table_state.specs.declared.history.Entry.TheVariants.{Definition, Foreign, Own}
use Rattle.table_state.specs.Histories.{has_ticket, is_of, state_of}
use Rattle.table_state.specs.Tables.{TableState}
use Rattle.table_state.proofs.HistoryLaws.{has_ticket-append}
use Rattle.outside.specs.Others.{AreOthers}
use Rattle.order_laws.specs.Commits.{Once}
use Rattle.order_laws.specs.Steps.{MayBegin}

-- transactions of others leave a state, and are no tickets
others_leave : (shared : List TableId) (h others : List Entry) → AreOthers shared h others → (s : TableState) → state_of h ≡ Some s → ((t : ℕ) → has_ticket t h ≡ false) → Once h → MayBegin (h ++ others) 1
others_leave shared h [] o s leaves none once = subst (λ (x : List Entry). MayBegin x 1) (sym (append-nil h)) (record {
  state = s;
  leaves = leaves;
  once = once;
  first = lit≤ tt;
  below = λ t le. none t;
})
others_leave shared h (Definition def ∷ others) o s leaves none once = absurd o
others_leave shared h (Own ticket ops ∷ others) o s leaves none once = absurd o
others_leave shared h (Foreign ops ∷ others) o s leaves none once =
    subst (λ (x : List Entry). MayBegin x 1) (append_assoc h (Foreign ops ∷ []) others)
    (with_one (λ state is. others_leave shared (h ++ Foreign ops ∷ []) others o.2 state is without (none_twice (h ++ Foreign ops ∷ []) without)) (state_of (h ++ Foreign ops ∷ [])) refl (o.1 s leaves))
  where
    without : (t : ℕ) → has_ticket t (h ++ Foreign ops ∷ []) ≡ false
    without t = has_ticket-append t h (Foreign ops ∷ []) ∙ ap (λ b. b || has_ticket t (Foreign ops ∷ [])) (none t)

    none_twice : (x : List Entry) → ((t : ℕ) → has_ticket t x ≡ false) → Once x
    none_twice [] free = tt
    none_twice (Definition def ∷ x) free = none_twice x free
    none_twice (Foreign ops ∷ x) free = none_twice x free
    none_twice (Own ticket ops ∷ x) free = (behind ticket.0, none_twice x behind)
      where
        or_none : (a b : Bool) → (a || b) ≡ false → b ≡ false
        or_none true b is = cc
        or_none false b is = is

        behind : (t : ℕ) → has_ticket t x ≡ false
        behind t = or_none (is_of t (Own ticket ops)) (has_ticket t x) (free t)

    with_one : ((state : TableState) → state_of (h ++ Foreign ops ∷ []) ≡ Some state → MayBegin ((h ++ Foreign ops ∷ []) ++ others) 1)
        → (x : Option TableState) → state_of (h ++ Foreign ops ∷ []) ≡ x → IsSome x → MayBegin ((h ++ Foreign ops ∷ []) ++ others) 1
    with_one rest None is some = cc
    with_one rest (Some state) is some = rest state is

-- a new site's history is of others alone
pub may_begin : (shared : List TableId) (others : List Entry) → AreOthers shared [] others → MayBegin others 1
may_begin shared others o = others_leave shared [] others o _ refl (λ t. refl) tt
