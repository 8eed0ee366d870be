-- Between two lines the tier's schema is a front of the bank's.
use Rattle.std.proofs.Common.{◌≡◌, ◌⊎◌, inl, inr, ℕ, Option, Some, None, List, [], ◌++◌, refl, sym, ap, ◌∙◌, append-nil}
use Rattle.table_defs.specs.declared.definition.TableDef.{TableDef}
use Rattle.tier_base.specs.declared.number.TableId.{TableId}
use Rattle.table_state.specs.declared.history.Entry.{Entry}
use Rattle.table_state.specs.Histories.{no_tables, state_of}
use Rattle.table_state.specs.Tables.{TableState}
use Rattle.order_laws.proofs.CountLaws.{defs_of, schema_after}
use Rattle.order_laws.proofs.OrderLaws.{defs-append}
use Rattle.outside.specs.Bank.{Comes, Grows}
use Rattle.outside.specs.Others.{Around}
use Rattle.outside.specs.Passing.{WritesOwn}
use Rattle.cache_tier.specs.CommitSteps.{sealed_own}
use Rattle.cache_tier.specs.StandingBetween.{Stands}
use Rattle.cache_tier.specs.TierStates.{ACommit, APassedWrite, Doubt, Doubted, Tier}
use Rattle.cache_tier.specs.Worlds.{World}
use Rattle.reopened_laws.proofs.ReadParts.{IsFront, defs_others, front_then}
use Rattle.run_laws.specs.Lines.{CommitIsInDoubt, IsInDoubt, IsLeft, IsLeftBy, WriteIsInDoubt}

defs_behind : (h entries : List Entry) → defs_of entries ≡ [] → defs_of (h ++ entries) ≡ defs_of h
defs_behind h entries none = defs-append h entries ∙ ap (λ l. defs_of h ++ l) none ∙ append-nil (defs_of h)

-- a call that defines nothing
pub defs_around : (shared : List TableId) (step : List Entry → List Entry → Type 0) (old new : List Entry) → ((a b : List Entry) → step a b → defs_of b ≡ defs_of a) → Around shared step old new → defs_of new ≡ defs_of old
defs_around shared step old new so x =
    ap defs_of x.is ∙ defs_behind x.middle x.behind (defs_others shared x.middle x.behind x.came_behind) ∙ so (old ++ x.before) x.middle x.own ∙ defs_behind old x.before (defs_others shared old x.before x.came_before)

front_in : (w : World) → Stands w → IsFront w.tier.schema w.history
front_in w x =
    let over = x.flow.stand.over in
    let f = x.schema.front over.backing over.leaves in
    record { more = f.0; is = sym (schema_after w.history no_tables over.backing over.leaves) ∙ f.1 }

-- what is in doubt defines nothing

front_of_commit : (w : World) → CommitIsInDoubt w → IsFront w.tier.schema w.history
front_of_commit w x =
    front_then x.was.tier.schema w.tier.schema x.was.history w.history (ap (λ (t : Tier). t.schema) x.tier)
    (defs_around x.was.shared _ x.was.history w.history by x.call.history) (front_in x.was x.stands)
  where
    by : (a b : List Entry) → Grows [] a b ⊎ Comes (sealed_own x.was.tier x.session) [] a b → defs_of b ≡ defs_of a
    by a b (inl grows) = ap defs_of grows ∙ defs_behind a [] refl
    by a b (inr comes) = ap defs_of comes.grows ∙ defs_behind a _ refl

front_of_write : (w : World) → WriteIsInDoubt w → IsFront w.tier.schema w.history
front_of_write w x =
    front_then x.was.tier.schema w.tier.schema x.was.history w.history (ap (λ (t : Tier). t.schema) x.tier)
    (defs_around x.was.shared _ x.was.history w.history by x.call.history) (front_in x.was x.stands)
  where
    by : (a b : List Entry) → Grows [] a b ⊎ ((n : ℕ) × WritesOwn x.was.tier.next x.change x.ops n a b) → defs_of b ≡ defs_of a
    by a b (inl grows) = ap defs_of grows ∙ defs_behind a [] refl
    by a b (inr came) = ap defs_of came.1.grows ∙ defs_behind a _ refl

front_left : (w : World) → IsLeft w → IsFront w.tier.schema w.history
front_left w x = by w.tier.doubt x
  where
    of : (k : Doubted) → IsInDoubt k w → IsFront w.tier.schema w.history
    of ACommit x = front_of_commit w x
    of APassedWrite x = front_of_write w x

    by : (o : Option Doubt) → IsLeftBy o w → IsFront w.tier.schema w.history
    by None x = front_in w x
    by (Some d) x = of d.of x

-- what is so of the state that the history leaves
pub front_told : (w : World) → IsLeft w → (s : TableState) → state_of w.history ≡ Some s → (more : List TableDef) × (s.schema ≡ w.tier.schema ++ more)
front_told w x s leaves = let f = front_left w x in (f.more, schema_after w.history no_tables s leaves ∙ f.is)

-- so it is of another world with the same schema, where nothing was defined since
pub front_same : (w w' : World) → IsLeft w → w'.tier.schema ≡ w.tier.schema → defs_of w'.history ≡ defs_of w.history → (s : TableState) → state_of w'.history ≡ Some s → (more : List TableDef) × (s.schema ≡ w'.tier.schema ++ more)
front_same w w' x schema defs s leaves =
    let f = front_then w.tier.schema w'.tier.schema w.history w'.history schema defs (front_left w x) in
    (f.more, schema_after w'.history no_tables s leaves ∙ f.is)
