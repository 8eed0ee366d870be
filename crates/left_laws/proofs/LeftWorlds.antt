-- A stored tier that is left so in a world.
use Rattle.std.proofs.Common.{◌≡◌, true, Option, Some, None, map, sym, ap, subst, ◌∙◌, arith}
use Rattle.cache_tier.specs.TierStates.{Tier}
use Rattle.cache_tier.specs.Worlds.{IsUnshared, World}
use Rattle.group_catalog.specs.Catalogs.{groups_in}
use Rattle.session_engine.specs.Doubting.{CommitIsInDoubt, IsInDoubt, IsLeft, WriteIsInDoubt}
use Rattle.session_engine.specs.declared.doubt.Doubt.{Doubt}
use Rattle.session_engine.specs.declared.doubt.Doubted.{Doubted}
use Rattle.session_engine.specs.declared.doubt.Doubted.TheVariants.{Commit, PassedWrite}
use Rattle.session_engine.proofs.KindLaws.{bare_later}
use Rattle.stored_tier.specs.declared.tier.Tier.{Tier as Stored}
use Rattle.stored_tier.specs.Stored.{IsSound, without_list}
use Rattle.stored_tier.proofs.QuietLaws.{its_session}
use Rattle.run_laws.specs.Lines.{IsLeftBy, MayGoOn, are_later}
use Rattle.run_laws.specs.Lines as lines

-- what is unsettled waits for the bank
later_in : (t : Stored) (a : Tier) → IsSound t → map without_list a.groups ≡ groups_in t.catalog → a.unsettled ≡ t.unsettled.items → are_later a.groups a.unsettled ≡ true
later_in t a sound groups unsettled =
    sym (bare_later a.groups a.unsettled) ∙ ap (λ gs. are_later gs a.unsettled) groups ∙ ap (are_later (groups_in t.catalog)) unsettled ∙ sound.later

-- what is told of the world
record IsHeld (w : World) : Type 0 where
  left : lines.IsLeft w
  later : are_later w.tier.groups w.tier.unsettled ≡ true

-- a commit is in doubt
module _ (t : Stored) (d : Doubt) (w : World) (sound : IsSound t) (x : CommitIsInDoubt t d w) where
  was_later : are_later x.was.tier.groups x.was.tier.unsettled ≡ true
  was_later = later_in t x.was.tier sound x.stands.stored.groups x.stands.stored.unsettled

  in_doubt : lines.CommitIsInDoubt w
  in_doubt = record {
    was = x.was;
    stands = x.stands.stands;
    unshared = x.unshared;
    later = was_later;
    session = x.session;
    there =
        its_session (record t { next = d.ticket }) x.was.tier d.session x.session x.stands.stored
        (record { seen = x.has.seen; found = x.has.found; number = x.has.number; is = x.has.is });
    on = x.on;
    room = let le = x.room in let same = x.stands.stored.next in omega (arith, le, same);
    call = x.call;
    tier = x.tier;
  }

  commit_left : IsHeld w
  commit_left = record {
    left = subst (λ o. IsLeftBy o w) (sym (ap (λ (a : Tier). a.doubt) x.tier)) in_doubt;
    later = ap (λ (a : Tier). are_later a.groups a.unsettled) x.tier ∙ was_later;
  }

-- a write that was passed on is
module _ (t : Stored) (d : Doubt) (w : World) (sound : IsSound t) (x : WriteIsInDoubt t d w) where
  write_in_doubt : lines.WriteIsInDoubt w
  write_in_doubt = record {
    was = x.was;
    stands = x.stands.stands;
    unshared = x.unshared;
    session = x.session;
    there =
        its_session (record t { next = d.ticket }) x.was.tier d.session x.session x.stands.stored
        (record { seen = x.has.seen; found = x.has.found; number = x.has.number; is = x.has.is });
    room = let le = x.room in let same = x.stands.stored.next in omega (arith, le, same);
    change = x.change;
    off = x.off;
    ops = x.ops;
    call = x.call;
    tier = x.tier;
  }

  write_left : IsHeld w
  write_left = record {
    left = subst (λ o. IsLeftBy o w) (sym (ap (λ (a : Tier). a.doubt) x.tier)) write_in_doubt;
    later = ap (λ (a : Tier). are_later a.groups a.unsettled) x.tier ∙ later_in t x.was.tier sound x.stands.stored.groups x.stands.stored.unsettled;
  }

held : (t : Stored) (doubt : Option Doubt) (w : World) → IsSound t → IsLeft t doubt w → IsHeld w
held t None w sound x = record {
  left = subst (λ o. IsLeftBy o w) (sym x.stored.doubt) x.stands;
  later = later_in t w.tier sound x.stored.groups x.stored.unsettled;
}
held t (Some d) w sound x = by d.of x
  where
    by : (k : Doubted) → IsInDoubt k t d w → IsHeld w
    by (Commit ops) x = commit_left t d w sound x
    by PassedWrite x = write_left t d w sound x

pub is_left : (t : Stored) (doubt : Option Doubt) (w : World) → IsSound t → IsLeft t doubt w → IsLeftBy w.tier.doubt w
is_left t doubt w sound x = (held t doubt w sound x).left

pub goes_on : (t : Stored) (doubt : Option Doubt) (w : World) → IsSound t → IsLeft t doubt w → IsUnshared w → MayGoOn w
goes_on t doubt w sound x apart = let h = held t doubt w sound x in record { left = h.left; unshared = apart }

pub waits : (t : Stored) (doubt : Option Doubt) (w : World) → IsSound t → IsLeft t doubt w → are_later w.tier.groups w.tier.unsettled ≡ true
waits t doubt w sound x = (held t doubt w sound x).later
