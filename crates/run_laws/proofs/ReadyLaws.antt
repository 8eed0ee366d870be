-- What holds of a world where the next part of a line begins, and what a part moves.
use Rattle.std.proofs.Common.{◌≡◌, Bool, true, false, cond, ◌&&◌, ◌||◌, List, [], ◌∷◌, ◌++◌, map, refl, sym, ap, subst, ◌∙◌}
use Rattle.std.specs.List.{list_any}
use Rattle.tier_base.specs.declared.number.TableId.{TableId}
use Rattle.table_state.specs.declared.history.Sealed.{Sealed}
use Rattle.table_state.specs.declared.operation.Op.{Op}
use Rattle.table_state.specs.Operations.{table_of}
use Rattle.cache_tier.specs.Groups.{Group, covers, is_asynchronous, is_synchronous, is_table_of}
use Rattle.cache_tier.specs.StandingBetween.{Each, Stands}
use Rattle.cache_tier.specs.TierStates.{Session, at_rest, is_labelled}
use Rattle.cache_tier.specs.Worlds.{IsUnshared, World}
use Rattle.recovery.specs.Journalled.{AreAlike, IsAlike, IsJournalled, IsJournalledOn}
use Rattle.line_laws.proofs.PartWords.{unshared_still}
use Rattle.run_laws.specs.Lines.{AreOfKinds, IsOfOneKind, are_later, are_on_kind}

-- ---- groups that are alike

-- a test of a group's definition
abbrev pub IsOfDef : (Group → Bool) → Type 0
IsOfDef test = (g h : Group) → IsAlike g h → test h ≡ test g

pub synchronous_def : IsOfDef is_synchronous
synchronous_def g h a = λ i. is_synchronous (record h { def = a.def i })

pub asynchronous_def : IsOfDef is_asynchronous
asynchronous_def g h a = λ i. is_asynchronous (record h { def = a.def i })

table_alike : (test : Group → Bool) → IsOfDef test → (gs hs : List Group) (u : TableId) → AreAlike gs hs → is_table_of test hs u ≡ is_table_of test gs u
table_alike test of [] [] u are = refl
table_alike test of [] (h ∷ hs) u are = absurd are
table_alike test of (g ∷ gs) [] u are = absurd are
table_alike test of (g ∷ gs) (h ∷ hs) u are =
    let rest = table_alike test of gs hs u are.1 in
    let one = of g h are.0 in
    let cover : covers u h ≡ covers u g = λ i. covers u (record h { def = are.0.def i }) in
    λ i. (one i && cover i) || rest i

on_alike : (test : Group → Bool) → IsOfDef test → (gs hs : List Group) (ops : List Op) → AreAlike gs hs → are_on_kind test hs ops ≡ are_on_kind test gs ops
on_alike test of gs hs [] are = refl
on_alike test of gs hs (op ∷ ops) are = let one = table_alike test of gs hs (table_of op) are in let rest = on_alike test of gs hs ops are in λ i. one i && rest i

any_alike : (gs hs : List Group) (ops : List Op) → AreAlike gs hs → list_any (λ op. is_table_of is_synchronous hs (table_of op)) ops ≡ list_any (λ op. is_table_of is_synchronous gs (table_of op)) ops
any_alike gs hs [] are = refl
any_alike gs hs (op ∷ ops) are = let one = table_alike is_synchronous synchronous_def gs hs (table_of op) are in let rest = any_alike gs hs ops are in λ i. one i || rest i

later_alike : (gs hs : List Group) (us : List Sealed) → AreAlike gs hs → are_later hs us ≡ are_later gs us
later_alike gs hs [] are = refl
later_alike gs hs (u ∷ us) are = let one = on_alike is_asynchronous asynchronous_def gs hs u.ops are in let rest = later_alike gs hs us are in λ i. one i && rest i

kind_alike : (gs hs : List Group) (ops : List Op) → AreAlike gs hs → IsOfOneKind gs ops → IsOfOneKind hs ops
kind_alike gs hs ops are one e = on_alike is_synchronous synchronous_def gs hs ops are ∙ one (sym (any_alike gs hs ops are) ∙ e)

each_kind : (gs hs : List Group) (ss : List Session) → AreAlike gs hs → Each (λ (s : Session). IsOfOneKind gs s.own) ss → Each (λ (s : Session). IsOfOneKind hs s.own) ss
each_kind gs hs [] are each = tt
each_kind gs hs (s ∷ ss) are each = (kind_alike gs hs s.own are each.0, each_kind gs hs ss are each.1)

-- a session's transaction ends
pub each_rested : (gs : List Group) (label : List Rattle.std.proofs.Common.ℕ) (ss : List Session) → Each (λ (s : Session). IsOfOneKind gs s.own) ss → Each (λ (s : Session). IsOfOneKind gs s.own) (map (λ s. cond (is_labelled label s) (at_rest s) s) ss)
each_rested gs label [] each = tt
each_rested gs label (s ∷ ss) each = (by (is_labelled label s), each_rested gs label ss each.1)
  where
    by : (b : Bool) → IsOfOneKind gs (cond b (at_rest s) s).own
    by true = λ e. refl
    by false = each.0

-- ---- what holds

-- where a part begins: the tier stands, its journal is its own, others change no live table, and what is written is of
-- one kind
pub record Ready (w : World) (early : List Sealed) : Type 0 where
  pub journalled : IsJournalled w early
  pub stands : Stands w
  pub unshared : IsUnshared w
  pub kinds : AreOfKinds w.tier

-- so it is, and what was held is held
pub record ReadyOn (w : World) (early : List Sealed) : Type 0 where
  pub now : List Sealed
  pub is : Ready w now
  pub more : List Sealed
  pub grows : now ≡ early ++ more

-- what a part moves of groups, unsettled transactions and sessions keeps kinds
pub record Moves (w w' : World) : Type 0 where
  pub shared : w'.shared ≡ w.shared
  pub alike : AreAlike w.tier.groups w'.tier.groups
  pub later : are_later w.tier.groups w'.tier.unsettled ≡ true
  pub own : Each (λ (s : Session). IsOfOneKind w.tier.groups s.own) w'.tier.sessions

pub kinds_moved : (w w' : World) → Moves w w' → AreOfKinds w'.tier
kinds_moved w w' m = record {
  later = later_alike w.tier.groups w'.tier.groups w'.tier.unsettled m.alike ∙ m.later;
  own = each_kind w.tier.groups w'.tier.groups w'.tier.sessions m.alike m.own;
}

pub ready_moved : (w w' : World) (early : List Sealed) → IsUnshared w → Moves w w' → Stands w' → IsJournalledOn w' early → ReadyOn w' early
ready_moved w w' early apart m stands on = record {
  now = on.now;
  is =
      record {
        journalled = on.is;
        stands = stands;
        unshared = unshared_still w w' apart m.shared m.alike;
        kinds = kinds_moved w w' m;
      };
  more = on.more;
  grows = on.grows;
}

pub ready_then : (w : World) (early mid more : List Sealed) → mid ≡ early ++ more → ReadyOn w mid → ReadyOn w early
ready_then w early mid more e r = record {
  now = r.now;
  is = r.is;
  more = more ++ r.more;
  grows = r.grows ∙ ap (λ l. l ++ r.more) e ∙ Rattle.std.proofs.Common.append_assoc early more r.more;
}

pub ready_stays : (w : World) (early : List Sealed) → Ready w early → ReadyOn w early
ready_stays w early r = record { now = early; is = r; more = []; grows = sym (Rattle.std.proofs.Common.append-nil early) }

pub ready_same : (w w' : World) (early : List Sealed) → w' ≡ w → Ready w early → ReadyOn w' early
ready_same w w' early e r = subst (λ x. ReadyOn x early) (sym e) (ready_stays w early r)
