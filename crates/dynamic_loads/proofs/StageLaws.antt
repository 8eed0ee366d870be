-- A dynamic load keeps the definitions of groups, and the tables that others change.
use Rattle.std.proofs.Common.{◌≡◌, ℕ, Bool, true, false, ◌&&◌, ◌||◌, Option, Some, None, Result, Ok, Err, List, [], ◌∷◌, slice_get, inl, inr, refl, sym, ap, ◌∙◌}
use Rattle.std.specs.Bool.{MatchBool}
use Rattle.tier_base.specs.declared.limit.Limit.TheVariants as limit
use Rattle.tier_base.specs.declared.number.TableId.{TableId}
use Rattle.table_state.specs.Tables.{TableState}
use Rattle.outside.specs.Others.{is_shared}
use Rattle.outside.specs.declared.fault.BankError.{BankError}
use Rattle.sql_subset.specs.declared.stmt.RefreshState.{RefreshState}
use Rattle.sql_subset.specs.declared.stmt.RefreshState.TheVariants.{On, Off, Paused}
use Rattle.cache_tier.specs.declared.group.GroupDef.{GroupDef}
use Rattle.cache_tier.specs.declared.reply.Last.TheVariants.{No}
use Rattle.cache_tier.specs.declared.reply.Reply.{Reply}
use Rattle.cache_tier.specs.DynamicLoads.{Brings, BringsAt, BringsInto, BringsReadOnly, BringsWritethrough, LoadsWanted, joined_tier, state_entries, state_loaded, with_found, with_found_at}
use Rattle.cache_tier.specs.Groups.{Group, definitions_of, is_defined_on, is_read_only, is_table_of, is_writethrough, place_over}
use Rattle.cache_tier.specs.JournalSteps.{Flushes, FlushesFitting, FlushesKept, FlushesSome, has_entries, journal_full}
use Rattle.cache_tier.specs.Journals.{JournalEntry}
use Rattle.cache_tier.specs.Reading.{ReadsFirst, StageFollowsAt, as_it_was, backing_at}
use Rattle.cache_tier.specs.Rounds.{RoundIfUnsettled}
use Rattle.cache_tier.specs.Rules.{past}
use Rattle.cache_tier.specs.Sets.{alone, at_position, changed, changed_from, of_set, refreshed, set_tried}
use Rattle.cache_tier.specs.TierStates.{Tier}
use Rattle.cache_tier.specs.Wants.{Want, loaded_want}
use Rattle.cache_tier.specs.Worlds.{Becomes, IsUnshared, Passes, Stage, StageFollows, ThenStage, World, only}
use Rattle.stored_tier.proofs.SoundParts.{changed_defs}
use Rattle.dynamic_loads.specs.Bringing.{ReachesInto, TriesFirst}
use Rattle.dynamic_loads.proofs.RoundLaws.{round_keeps}

pub record KeepsDefinitions (w m : World) : Type 0 where
  pub groups : definitions_of m.tier.groups ≡ definitions_of w.tier.groups
  pub shared : m.shared ≡ w.shared

same_keeps : (w m : World) → m ≡ w → KeepsDefinitions w m
same_keeps w m e = record { groups = ap (λ (z : World). definitions_of z.tier.groups) e; shared = ap (λ (z : World). z.shared) e }

then_keeps : (w m v : World) → KeepsDefinitions w m → KeepsDefinitions m v → KeepsDefinitions w v
then_keeps w m v one two = record { groups = two.groups ∙ one.groups; shared = two.shared ∙ one.shared }

becomes_keeps : (w m : World) (t : Tier) → m ≡ record w { tier = t } → definitions_of t.groups ≡ definitions_of w.tier.groups → KeepsDefinitions w m
becomes_keeps w m t e same = record { groups = ap (λ (z : World). definitions_of z.tier.groups) e ∙ same; shared = ap (λ (z : World). z.shared) e }

no_stop : {A : Type 0} (x : A) → ◌≡◌ {A = Option A} None (Some x) → ⊥
no_stop x e = Prim.cc

-- a call that reads, and what comes of it
read_keeps : (tried : Tier → Tier) (next : ℕ → Stage) (w m : World) → definitions_of (tried w.tier).groups ≡ definitions_of w.tier.groups → ((n : ℕ) (v : World) → next n v m None → KeepsDefinitions v m) → ReadsFirst tried next w m None → KeepsDefinitions w m
read_keeps tried next w m still so r = then_keeps w r.mid m read (by r.result r.goes_on)
  where
    read : KeepsDefinitions w r.mid
    read = record { groups = ap (λ (t : Tier). definitions_of t.groups) r.tier ∙ still; shared = r.call.shared }

    by : (result : Result ℕ BankError) → StageFollowsAt result next r.mid m None → KeepsDefinitions r.mid m
    by (Err e) goes = same_keeps r.mid m goes.0
    by (Ok n) (inl goes) = so n r.mid goes
    by (Ok n) (inr goes) = same_keeps r.mid m goes.0

-- of a writethrough group

found_defs : (place : ℕ) (s : TableState) (want : Want) (groups : List Group) → definitions_of (changed_from (alone place) (with_found s want) 0 groups) ≡ definitions_of groups
found_defs place s want groups = changed_defs (alone place) (with_found s want) 0 groups (λ g. refl)

reaches_keeps : (place : ℕ) (want : Want) (w m : World) → ReachesInto place want w m None → KeepsDefinitions w m
reaches_keeps place want w m r = read_keeps as_it_was (λ n. Becomes (λ v. with_found_at place (backing_at v n) want v.tier)) w m refl
    (λ n v goes. becomes_keeps v m (with_found_at place (backing_at v n) want v.tier) goes.0 (found_defs place (backing_at v n) want v.tier.groups)) r

written_keeps : (place : ℕ) (want : Want) (w m : World) → BringsWritethrough place want w m None → KeepsDefinitions w m
written_keeps place want w m x = by x.stop x.first x.next
  where
    by : (stop : Option Reply) → RoundIfUnsettled w x.mid stop → StageFollows stop (ReachesInto place want) x.mid m None → KeepsDefinitions w m
    by None first next =
        let same = round_keeps w x.mid first in
        then_keeps w x.mid m (record { groups = ap definitions_of same.groups; shared = same.shared }) (reaches_keeps place want x.mid m next)
    by (Some reply) first next = absurd (no_stop reply next.1)

-- of a READONLY group

tried_groups : (g : Group) (t : Tier) → (set_tried g t).groups ≡ t.groups
tried_groups g t = by g.state refl
  where
    by : (s : RefreshState) → g.state ≡ s → (set_tried g t).groups ≡ t.groups
    by On e = Prim.cc
    by Paused e = Prim.cc
    by Off e = Prim.cc

flushed_keeps : (entries : List JournalEntry) (w m : World) (stop : Option Reply) → Flushes entries w m stop → KeepsDefinitions w m
flushed_keeps entries w m stop is = by w.journal.kept is
  where
    by : (b : Bool) → MatchBool b (FlushesKept entries w m stop) (Passes w m stop) → KeepsDefinitions w m
    by true f = record { groups = ap (λ (t : Tier). definitions_of t.groups) f.tier; shared = f.shared }
    by false f = same_keeps w m f.0

some_keeps : (entries : List JournalEntry) (w m : World) → FlushesSome entries w m None → KeepsDefinitions w m
some_keeps entries w m is = by (has_entries entries) is
  where
    fitting : (b : Bool) → MatchBool b ((m ≡ w) × (None ≡ Some (only (No (past limit.JournalSlot))))) (Flushes entries w m None) → KeepsDefinitions w m
    fitting true f = same_keeps w m f.0
    fitting false f = flushed_keeps entries w m None f

    by : (b : Bool) → MatchBool b (FlushesFitting entries w m None) (Passes w m None) → KeepsDefinitions w m
    by true f = fitting (journal_full w entries) f
    by false f = same_keeps w m f.0

joined_defs : (place : ℕ) (g : Group) (want : Want) (n : ℕ) (v : World) → definitions_of (joined_tier place g want n v).groups ≡ definitions_of v.tier.groups
joined_defs place g want n v =
    found_defs place (backing_at v n) want (changed (alone place) state_loaded (refreshed (of_set g.def.interval (Some place)) n (backing_at v n) v.tier)).groups
    ∙ changed_defs (alone place) state_loaded 0 (refreshed (of_set g.def.interval (Some place)) n (backing_at v n) v.tier).groups (λ h. refl)
    ∙ changed_defs (of_set g.def.interval (Some place)) (at_position n (backing_at v n)) 0 v.tier.groups (λ h. refl)

whole_keeps : (place : ℕ) (g : Group) (want : Want) (w m : World) → BringsReadOnly place g want w m None → KeepsDefinitions w m
whole_keeps place g want w m r = read_keeps (set_tried g) (λ n. ThenStage (FlushesSome (state_entries g)) (Becomes (joined_tier place g want n))) w m (ap definitions_of (tried_groups g w.tier)) so r
  where
    so : (n : ℕ) (v : World) → ThenStage (FlushesSome (state_entries g)) (Becomes (joined_tier place g want n)) v m None → KeepsDefinitions v m
    so n v x = by x.stop x.first x.next
      where
        by : (stop : Option Reply) → FlushesSome (state_entries g) v x.mid stop → StageFollows stop (Becomes (joined_tier place g want n)) x.mid m None → KeepsDefinitions v m
        by None first next = then_keeps v x.mid m (some_keeps (state_entries g) v x.mid first) (becomes_keeps x.mid m (joined_tier place g want n x.mid) next.0 (joined_defs place g want n x.mid))
        by (Some reply) first next = absurd (no_stop reply next.1)

-- of what is wanted

into_keeps : (place : ℕ) (o : Option Group) (want : Want) (w m : World) → BringsInto place o want w m None → KeepsDefinitions w m
into_keeps place None want w m x = same_keeps w m x.0
into_keeps place (Some g) want w m x = by (is_read_only g) x
  where
    by : (b : Bool) → MatchBool b (BringsReadOnly place g want w m None) (BringsWritethrough place want w m None) → KeepsDefinitions w m
    by true x = whole_keeps place g want w m x
    by false x = written_keeps place want w m x

at_keeps : (o : Option ℕ) (t : Tier) (want : Want) (w m : World) → BringsAt o t want w m None → KeepsDefinitions w m
at_keeps None t want w m x = same_keeps w m x.0
at_keeps (Some place) t want w m x = into_keeps place (slice_get t.groups place) want w m x

brings_keeps : (t : Tier) (o : Option Want) (w m : World) → Brings t o w m None → KeepsDefinitions w m
brings_keeps t None w m x = same_keeps w m x.0
brings_keeps t (Some want) w m x = at_keeps (place_over t.groups want.table) t want w m x

pub loads_keeps : (want : Option Want) (w m : World) → LoadsWanted want w m None → KeepsDefinitions w m
loads_keeps want w m x = brings_keeps w.tier (loaded_want w.history w.tier want) w m x

-- the tables of writethrough groups are told by the definitions
tables_by : (gs hs : List Group) (u : TableId) → definitions_of hs ≡ definitions_of gs → is_table_of is_writethrough hs u ≡ is_table_of is_writethrough gs u
tables_by [] [] u same = refl
tables_by [] (h ∷ hs) u same = Prim.cc
tables_by (g ∷ gs) [] u same = Prim.cc
tables_by (g ∷ gs) (h ∷ hs) u same =
    let first : h.def ≡ g.def = Prim.cc in
    let rest : definitions_of hs ≡ definitions_of gs = Prim.cc in
    let kind : is_writethrough h ≡ is_writethrough g = ap (λ (d : GroupDef). is_writethrough (record h { def = d })) first ∙ moved h g in
    λ i. (kind i && is_defined_on u (first i)) || tables_by gs hs u rest i
  where
    moved : (a b : Group) → is_writethrough (record a { def = b.def }) ≡ is_writethrough b
    moved a b = refl

pub unshared_then : (w m : World) → KeepsDefinitions w m → IsUnshared w → IsUnshared m
unshared_then w m keeps apart t e = tables_by w.tier.groups m.tier.groups t keeps.groups ∙ apart t (ap (λ l. is_shared l t) (sym keeps.shared) ∙ e)

-- memory wasn't wanting before
pub first_done : (stage : Stage) (w m : World) → TriesFirst stage w m None → stage w m None
first_done stage w m (inl does) = does
first_done stage w m (inr wants) = absurd (no_stop _ wants.1)
