-- The causes of the replies with which a dynamic load ends a line.
use Rattle.std.proofs.Common.{◌≡◌, ◌≤◌, ℕ, ◌+◌, ◌^◌, ◌-◌, min, Option, Some, None, ◌∙◌, arith}
use Rattle.outside.specs.Holding.{Held}
use Rattle.outside.specs.Sites.{SiteState}
use Rattle.tier_journal.specs.declared.journal.TierJournal.{TierJournal}
use Rattle.cache_tier.specs.declared.reply.Last.TheVariants.{Done}
use Rattle.cache_tier.specs.declared.reply.Reply.{Reply}
use Rattle.cache_tier.specs.Worlds.{only}
use Rattle.stored_tier.specs.Performing.{IsCausedOver, IsStopCaused, IsStopCausedOver, KeepsSlots}
use Rattle.stored_tier.proofs.OverLaws.{caused_quiet}

rose_still : (a b c cap : ℕ) → min (a + 1) cap ≤ b → b ≤ c → min (a + 1) cap ≤ c
rose_still a b c cap rose le = Prim.omega (arith, rose, le)

rose_before : (a b c cap : ℕ) → a ≤ b → min (b + 1) cap ≤ c → min (a + 1) cap ≤ c
rose_before a b c cap le rose = Prim.omega (arith, rose, le)

-- ---- behind a round

slots_then : (a b c : Option Held) → KeepsSlots a b → KeepsSlots b c → KeepsSlots a c
slots_then None b c one two = tt
slots_then (Some a) None c one two = absurd one
slots_then (Some a) (Some b) None one two = absurd two
slots_then (Some a) (Some b) (Some c) one two = two ∙ one

caused_both : (k mid : Option TierJournal) (before between behind : SiteState) (reply : Reply) → IsCausedOver k before between (only (Done 0)) → (k ≡ None → mid ≡ None) → IsCausedOver mid between behind reply → IsCausedOver k before behind reply
caused_both k mid before between behind reply one none two =
    let a = one.later in
    let b = two.later in
    let c = one.moment in
    let d = two.moment in
    let e = one.disk_later in
    let f = two.disk_later in
    record {
      later = Prim.omega (arith, a, b);
      moment = Prim.omega (arith, c, d);
      shares = two.shares ∙ one.shares;
      slots = λ is. slots_then before.held between.held behind.held (one.slots is) (two.slots (none is));
      bare = two.bare;
      bank = λ told. rose_before before.bank_faults between.bank_faults behind.bank_faults (2 ^ 64 - 1) a (two.bank told);
      disk_later = Prim.omega (arith, e, f);
      disk = λ told. rose_before before.disk_faults between.disk_faults behind.disk_faults (2 ^ 64 - 1) e (two.disk told);
      whole = λ is. two.whole (none is);
    }

same_least : (a b : ℕ) → b ≡ a → a ≤ b
same_least a b same = Prim.omega (arith, same)

pub stop_behind : (k mid : Option TierJournal) (before between behind : SiteState) (stop : Option Reply) → IsCausedOver k before between (only (Done 0)) → (k ≡ None → mid ≡ None) → behind.disk_faults ≡ between.disk_faults → IsStopCaused between behind stop → IsStopCausedOver k before behind stop
stop_behind k mid before between behind None one none disk two = caused_both k mid before between behind (only (Done 0)) one none (caused_quiet mid between behind (only (Done 0)) (same_least between.disk_faults behind.disk_faults disk) two)
stop_behind k mid before between behind (Some reply) one none disk two = caused_both k mid before between behind reply one none (caused_quiet mid between behind reply (same_least between.disk_faults behind.disk_faults disk) two)
