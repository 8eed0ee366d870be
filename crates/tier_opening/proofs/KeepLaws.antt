-- A tier that is opened again leaves the world's journal and the tier's schema.
use Rattle.std.proofs.Common.{◌≡◌, ◌∙◌, ℕ, suc, Option, Some, None, List, [], ◌∷◌, Bool, true, false, Ok, Err, refl, ap, inl, inr}
use Rattle.cache_tier.specs.declared.reply.Reply.{Reply}
use Rattle.cache_tier.specs.Groups.{Group}
use Rattle.cache_tier.specs.Reading.{ReadsFirst, as_it_was, backing_at}
use Rattle.cache_tier.specs.Rounds.{Applies}
use Rattle.cache_tier.specs.Sets.{alone, changed, refreshed}
use Rattle.cache_tier.specs.TierStates.{Tier}
use Rattle.cache_tier.specs.Worlds.{Becomes, OnlyWhere, Passes, Stage, StageFollows, ThenStage, World}
use Rattle.recovery.specs.Reopening.{HoldAgain, HoldsAgainAt, Reloads, Reopens, ViewsAgain, holding, is_held_again, is_viewed_again}
use Rattle.std.specs.List.{list_any}

pub record IsLeftAs (w w' : World) : Type 0 where
  pub journal : w'.journal ≡ w.journal
  pub schema : w'.tier.schema ≡ w.tier.schema

-- so it is of whatever the stage does
abbrev pub Leaves : Stage → Type 0
Leaves stage = (w w' : World) (stop : Option Reply) → stage w w' stop → IsLeftAs w w'

left_same : (w w' : World) → w' ≡ w → IsLeftAs w w'
left_same w w' e = record { journal = ap (λ (x : World). x.journal) e; schema = ap (λ (x : World). x.tier.schema) e }

left_then : (u v w : World) → IsLeftAs u v → IsLeftAs v w → IsLeftAs u w
left_then u v w a b = record { journal = b.journal ∙ a.journal; schema = b.schema ∙ a.schema }

passes_leave : Leaves Passes
passes_leave w w' stop p = left_same w w' p.0

then_leaves : (one other : Stage) → Leaves one → Leaves other → Leaves (ThenStage one other)
then_leaves one other a b w w' stop p = left_then w p.mid w' (a w p.mid p.stop p.first) (next p.stop p.next)
  where
    next : (o : Option Reply) → StageFollows o other p.mid w' stop → IsLeftAs p.mid w'
    next None n = b p.mid w' stop n
    next (Some reply) n = left_same p.mid w' n.0

where_leaves : (wanted : Bool) (stage : Stage) → Leaves stage → Leaves (OnlyWhere wanted stage)
where_leaves true stage a w w' stop p = a w w' stop p
where_leaves false stage a w w' stop p = passes_leave w w' stop p

-- a call that reads, and then the groups change
read_leaves : (change : ℕ → World → Tier) → ((n : ℕ) (w : World) → (change n w).schema ≡ w.tier.schema)
    → Leaves (ReadsFirst as_it_was (λ n. Becomes (change n)))
read_leaves change keeps w w' stop p = left_then w p.mid w' called (goes p.result p.goes_on)
  where
    called : IsLeftAs w p.mid
    called = record { journal = p.call.journal; schema = ap (λ (t : Tier). t.schema) p.tier }

    goes : (r : _) → Rattle.cache_tier.specs.Reading.StageFollowsAt r (λ n. Becomes (change n)) p.mid w' stop → IsLeftAs p.mid w'
    goes (Err e) g = left_same p.mid w' g.0
    goes (Ok n) g = elim g [
      | inl b ↦ record { journal = ap (λ (x : World). x.journal) b.0; schema = ap (λ (x : World). x.tier.schema) b.0 ∙ keeps n p.mid }
      | inr b ↦ left_same p.mid w' b.0
    ]

views_leave : Leaves ViewsAgain
views_leave w w' stop p =
    where_leaves (list_any (is_viewed_again 0) w.tier.groups) (ReadsFirst as_it_was (λ n. Becomes (λ v. refreshed is_viewed_again n (backing_at v n) v.tier)))
    (read_leaves (λ n v. refreshed is_viewed_again n (backing_at v n) v.tier) (λ n v. refl)) w w' stop p

holds_leave : (place : ℕ) → Leaves (HoldsAgainAt place)
holds_leave place = read_leaves (λ n v. changed (alone place) (holding (backing_at v n)) v.tier) (λ n v. refl)

hold_leaves : (place : ℕ) (groups : List Group) → Leaves (HoldAgain place groups)
hold_leaves place [] = passes_leave
hold_leaves place (g ∷ groups) =
    then_leaves (OnlyWhere (is_held_again g) (HoldsAgainAt place)) (HoldAgain (suc place) groups)
    (where_leaves (is_held_again g) (HoldsAgainAt place) (holds_leave place)) (hold_leaves (suc place) groups)

reloads_leave : Leaves Reloads
reloads_leave w w' stop p = then_leaves ViewsAgain (HoldAgain 0 w.tier.groups) views_leave (hold_leaves 0 w.tier.groups) w w' stop p

applies_leave : Leaves Applies
applies_leave w w' stop p = record { journal = p.journal; schema = ap (λ (t : Tier). t.schema) p.tier }

pub reopens_leave : Leaves Reopens
reopens_leave = then_leaves Applies Reloads applies_leave reloads_leave
