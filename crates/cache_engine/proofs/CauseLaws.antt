-- That the faults that a line tells have their causes, over its parts.
use Rattle.std.proofs.Common.{◌≡◌, ◌∙◌, ◌≤◌, ◌+◌, ℕ, Bool, true, false, cond, Option, Some, None, Err, refl, sym, ap, subst, arith, le_refl, count_by}
use Rattle.tier_base.specs.declared.code.Code.TheVariants as code
use Rattle.row_types.specs.declared.rule.Refused.{Refused}
use Rattle.row_types.specs.declared.rule.Refused.TheVariants as refused
use Rattle.outside.specs.Faults.{Rose as RoseOnce}
use Rattle.outside.specs.Holding.{Held}
use Rattle.cache_tier.specs.Heeding.{HeedLeads}
use Rattle.cache_tier.specs.declared.reply.Last.TheVariants.{Done}
use Rattle.cache_tier.specs.declared.reply.Reply.{Reply}
use Rattle.cache_tier.specs.Steps.{Counts, Heeds, Rose, Saying, faults_in, note_tells, tells, with_notes}
use Rattle.cache_tier.specs.Worlds.{World, only}
use Rattle.tier_statements.specs.Replies.{reply_to}
use Rattle.cache_engine.specs.declared.due.Due.{Due}
use Rattle.cache_engine.specs.Due.{IsDueCaused, stop_faults}
use Rattle.tier_journal.specs.declared.journal.TierJournal.{TierJournal}
use Rattle.stored_tier.specs.Performing.{IsCaused, IsCausedOver, IsStopCaused, IsStopCausedOver, KeepsSlots, reply_of}
use Rattle.stored_tier.proofs.OverLaws.{caused_quiet}
use Rattle.cache_engine.specs.Requests.{IsLineCaused}
use Rattle.stored_tier.specs.Sites.{IsAt}
use Rattle.outside.specs.Sites.{SiteState}
use Rattle.cache_engine.proofs.WantLaws.{slots_stay, told_as}

slots_on : (a b c : Option Held) → KeepsSlots a b → KeepsSlots b c → KeepsSlots a c
slots_on None b c p q = tt
slots_on (Some x) None c p q = absurd p
slots_on (Some x) (Some y) None p q = absurd q
slots_on (Some x) (Some y) (Some z) p q = q ∙ p

-- a call of the bank, and then another part of a line
pub caused_on : (k : Option TierJournal) (a b c : SiteState) (one other : Reply) → b.disk_faults ≡ a.disk_faults → IsCaused a b one → IsCausedOver k b c other → IsCausedOver k a c other
caused_on k a b c one other disk p q = record {
  later = omega (arith, p.later, q.later);
  moment = omega (arith, p.moment, q.moment);
  shares = q.shares ∙ p.shares;
  slots = λ none. slots_on a.held b.held c.held p.slots (q.slots none);
  bare = q.bare;
  bank = λ told. omega (arith, p.later, q.bank told);
  disk_later = omega (arith, disk, q.disk_later);
  disk = λ told. subst (λ n. RoseOnce n c.disk_faults) disk (q.disk told);
  whole = q.whole;
}

pub refused_on : (k : Option TierJournal) (a b c : SiteState) (one : Reply) (r : Refused) (reply : Reply) → reply ≡ reply_to r → b.disk_faults ≡ a.disk_faults → IsCaused a b one → IsCausedOver k b c (reply_of (Err r)) → IsCausedOver k a c reply
refused_on k a b c one r reply e disk p q = subst (IsCausedOver k a c) (told_as r ∙ sym e) (caused_on k a b c one (reply_of (Err r)) disk p q)

-- calls of the bank alone
pub caused_bank : (k : Option TierJournal) (a b : SiteState) (reply : Reply) → b.disk_faults ≡ a.disk_faults → IsCaused a b reply → IsCausedOver k a b reply
caused_bank k a b reply disk p = caused_quiet k a b reply (omega (arith, disk)) p

pub stop_caused_bank : (k : Option TierJournal) (a b : SiteState) (stop : Option Reply) → b.disk_faults ≡ a.disk_faults → IsStopCaused a b stop → IsStopCausedOver k a b stop
stop_caused_bank k a b None disk p = caused_bank k a b (only (Done 0)) disk p
stop_caused_bank k a b (Some reply) disk p = caused_bank k a b reply disk p

pub done_caused : (k : Option TierJournal) (site : SiteState) (n : ℕ) (reply : Reply) → reply ≡ only (Done n) → IsCausedOver k site site reply
done_caused k site n reply e =
    subst (IsCausedOver k site site) (sym e)
    (caused_bank k site site (only (Done n)) refl
    (record {
      later = le_refl site.bank_faults;
      moment = le_refl site.moment;
      shares = refl;
      slots = slots_stay site.held;
      bare = refl;
      bank = λ told. absurd (Prim.cc told);
      disk = refl;
    }))

-- a line that is refused, and all stays
none_told : (r : Refused) → faults_in code.BackingFault (reply_to r) ≡ 0
none_told (refused.Rule rule) = refl
none_told refused.Memory = refl

none_lost : (r : Refused) → faults_in code.JournalFault (reply_to r) ≡ 0
none_lost (refused.Rule rule) = refl
none_lost refused.Memory = refl

no_notes : (r : Refused) → count_by (note_tells code.JournalFault) (reply_to r).notes ≡ 0
no_notes (refused.Rule rule) = refl
no_notes refused.Memory = refl

rose_none : (n told : ℕ) → told ≡ 0 → Rose n told n
rose_none n told e = (le_refl n, omega (arith, e))

pub refusal_caused : (k : Option TierJournal) (site : SiteState) (r : Refused) (reply : Reply) → reply ≡ reply_to r → IsLineCaused k site site (Some reply)
refusal_caused k site r reply e = record {
  later = le_refl site.bank_faults;
  moment = le_refl site.moment;
  shares = refl;
  slots = λ none. slots_stay site.held;
  bank = λ x is. let same : x ≡ reply_to r = Prim.cc (is, e) in rose_none site.bank_faults _ (ap (faults_in code.BackingFault) same ∙ none_told r);
  disk = λ x is. let same : x ≡ reply_to r = Prim.cc (is, e) in rose_none site.disk_faults _ (ap (faults_in code.JournalFault) same ∙ none_lost r);
  quiet = λ x is. let same : x ≡ reply_to r = Prim.cc (is, e) in ap (λ y. count_by (note_tells code.JournalFault) y.notes) same ∙ no_notes r;
  whole = λ none x is. let same : x ≡ reply_to r = Prim.cc (is, e) in ap (faults_in code.JournalFault) same ∙ none_lost r;
}

pub silence_caused : (k : Option TierJournal) (site : SiteState) → IsLineCaused k site site None
silence_caused k site = record {
  later = le_refl site.bank_faults;
  moment = le_refl site.moment;
  shares = refl;
  slots = λ none. slots_stay site.held;
  bank = λ x is. absurd (Prim.cc is);
  disk = λ x is. absurd (Prim.cc is);
  quiet = λ x is. absurd (Prim.cc is);
  whole = λ none x is. absurd (Prim.cc is);
}

-- THE WORK THAT IS DUE, AND THE LINE

rose_on : (a b c n : ℕ) (told : Bool) → Rose a n b → b ≤ c → (told ≡ true → RoseOnce b c) → Rose a (n + cond told 1 0) c
rose_on a b c n true p later once = let o = once refl in (omega (arith, p.0, later), omega (arith, p.1, o))
rose_on a b c n false p later once = (omega (arith, p.0, later), omega (arith, p.1, later))

rose_known : (a b n f : ℕ) → f ≡ 0 → Rose a (n + f) b → Rose a n b
rose_known a b n f e p = (p.0, omega (arith, e, p.1))

-- a reply with no notes of its own, behind the work
pub worked_caused : (k n : Option TierJournal) (a b c : SiteState) (due : Due) (last reply : Reply) → (k ≡ None → n ≡ None) → due.stop ≡ None → reply ≡ with_notes due.notes last → IsDueCaused k a b due → IsCausedOver n b c last → IsLineCaused k a c (Some reply)
worked_caused k n a b c due last reply so goes e p q = record {
  later = omega (arith, p.later, q.later);
  moment = omega (arith, p.moment, q.moment);
  shares = q.shares ∙ p.shares;
  slots = λ none. slots_on a.held b.held c.held (p.slots none) (q.slots (so none));
  bank = λ x is.
      let same : x ≡ with_notes due.notes last = Prim.cc (is, e) in
      subst (λ r. Rose a.bank_faults (faults_in code.BackingFault r) c.bank_faults) (sym same)
      (rose_on a.bank_faults b.bank_faults c.bank_faults (count_by (note_tells code.BackingFault) due.notes)
      (tells code.BackingFault last.last)
      (rose_known a.bank_faults b.bank_faults (count_by (note_tells code.BackingFault) due.notes) (stop_faults code.BackingFault due.stop) (ap (stop_faults code.BackingFault) goes) p.bank) q.later q.bank);
  disk = λ x is.
      let same : x ≡ with_notes due.notes last = Prim.cc (is, e) in
      subst (λ r. Rose a.disk_faults (faults_in code.JournalFault r) c.disk_faults) (sym same)
      (rose_on a.disk_faults b.disk_faults c.disk_faults (count_by (note_tells code.JournalFault) due.notes)
      (tells code.JournalFault last.last)
      (subst (λ m. Rose a.disk_faults m b.disk_faults) (ap (stop_faults code.JournalFault) goes ∙ sym p.disk) p.stop) q.disk_later q.disk);
  quiet = λ x is.
      let same : x ≡ with_notes due.notes last = Prim.cc (is, e) in
      ap (λ y. count_by (note_tells code.JournalFault) y.notes) same ∙ p.disk;
  whole = λ none x is.
      let same : x ≡ with_notes due.notes last = Prim.cc (is, e) in
      ap (faults_in code.JournalFault) same ∙ ap (λ m. m + cond (tells code.JournalFault last.last) 1 0) p.disk
      ∙ ap (λ told. 0 + cond told 1 0) (q.whole (so none));
}

-- a line that the work ended
pub no_more : (own more : ℕ) → own + more ≡ 0 → more ≡ 0
no_more own more e = omega (arith, e)

rose_fewer : (a b n own last : ℕ) → Rose a (n + (own + last)) b → Rose a (n + last) b
rose_fewer a b n own last p = (p.0, omega (arith, p.1))

rose_last : (a b own last : ℕ) → Rose a (own + last) b → Rose a last b
rose_last a b own last p = (p.0, omega (arith, p.1))

rose_zero : (a b last : ℕ) → Rose a last b → Rose a (0 + last) b
rose_zero a b last p = (p.0, omega (arith, p.1))

pub stopped_caused : (k : Option TierJournal) (a b : SiteState) (due : Due) (stop reply : Reply) → due.stop ≡ Some stop → reply ≡ with_notes due.notes stop → IsDueCaused k a b due → IsLineCaused k a b (Some reply)
stopped_caused k a b due stop reply ends e p = record {
  later = p.later;
  moment = p.moment;
  shares = p.shares;
  slots = p.slots;
  bank = λ x is.
      let same : x ≡ with_notes due.notes stop = Prim.cc (is, e) in
      subst (λ r. Rose a.bank_faults (faults_in code.BackingFault r) b.bank_faults) (sym same)
      (rose_fewer a.bank_faults b.bank_faults (count_by (note_tells code.BackingFault) due.notes) (count_by (note_tells code.BackingFault) stop.notes) (cond (tells code.BackingFault stop.last) 1 0)
      (subst (λ o. Rose a.bank_faults (count_by (note_tells code.BackingFault) due.notes + stop_faults code.BackingFault o) b.bank_faults) ends p.bank));
  disk = λ x is.
      let same : x ≡ with_notes due.notes stop = Prim.cc (is, e) in
      subst (λ r. Rose a.disk_faults (faults_in code.JournalFault r) b.disk_faults) (sym same)
      (subst (λ m. Rose a.disk_faults (m + cond (tells code.JournalFault stop.last) 1 0) b.disk_faults) (sym p.disk)
      (rose_zero a.disk_faults b.disk_faults (cond (tells code.JournalFault stop.last) 1 0)
      (rose_last a.disk_faults b.disk_faults (count_by (note_tells code.JournalFault) stop.notes) (cond (tells code.JournalFault stop.last) 1 0)
      (subst (λ o. Rose a.disk_faults (stop_faults code.JournalFault o) b.disk_faults) ends p.stop))));
  quiet = λ x is.
      let same : x ≡ with_notes due.notes stop = Prim.cc (is, e) in
      ap (λ y. count_by (note_tells code.JournalFault) y.notes) same ∙ p.disk;
  whole = λ nobody x is.
      let same : x ≡ with_notes due.notes stop = Prim.cc (is, e) in
      let none = no_more (count_by (note_tells code.JournalFault) stop.notes) (cond (tells code.JournalFault stop.last) 1 0) (ap (stop_faults code.JournalFault) (sym ends) ∙ p.whole nobody) in
      ap (faults_in code.JournalFault) same ∙ ap (λ n. n + cond (tells code.JournalFault stop.last) 1 0) p.disk ∙ ap (λ n. 0 + n) none;
}

-- EACH FAULT IS COUNTED

pub counted : HeedLeads → (base : ℕ) (said : Saying) (w w' : World) (reply : Reply) (k : Option TierJournal) (before behind : SiteState) → IsAt before w → IsAt behind w' → tells code.JournalFault reply.last ≡ false → IsLineCaused k before behind (Some reply) → Heeds base said w w' reply → Counts w w' reply
counted law base said w w' reply k before behind at there whole caused heeds = record {
  bank =
      subst (λ n. Rose n (faults_in code.BackingFault reply) w'.bank_faults) (sym at.faults)
      (subst (λ n. Rose before.bank_faults (faults_in code.BackingFault reply) n) (sym there.faults) (caused.bank reply refl));
  disk =
      let leads = law base w w' said reply heeds in
      let none : faults_in code.JournalFault reply ≡ 0 = ap (λ n. n + cond (tells code.JournalFault reply.last) 1 0) (caused.quiet reply refl) ∙ ap (λ told. 0 + cond told 1 0) whole in
      subst (λ n. Rose w.disk_faults n w'.disk_faults) (sym none) (leads.disk, omega (arith, leads.disk));
}
