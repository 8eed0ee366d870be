-- What calls of the bank leave of a site, one behind the other.
use Rattle.std.proofs.Common.{◌≤◌, ℕ, Option, Some, None, refl, ◌∙◌, arith}
use Rattle.std.specs.Prelude.{Result, Ok, Err}
use Rattle.std.specs.Result.{IsErrOf}
use Rattle.outside.specs.Faults.{Rose}
use Rattle.outside.specs.Holding.{Held}
use Rattle.outside.specs.Sites.{SiteState}
use Rattle.outside.specs.declared.fault.BankError.{BankError}
use Rattle.outside.specs.declared.fault.BankError.TheVariants as bank
use Rattle.group_engine.specs.Fresh.{IsCalled}
use Rattle.stored_tier.specs.Performing.{KeepsSlots}
use Rattle.reopening.specs.Starting.{IsReopenCaused, fault_of}
use Rattle.reopening.specs.declared.start.ReopenError.{ReopenError}
use Rattle.reopening.specs.declared.start.ReopenError.TheVariants as error

pub slots_same : (o : Option Held) → KeepsSlots o o
slots_same None = tt
slots_same (Some held) = refl

pub slots_then : (a b c : Option Held) → KeepsSlots a b → KeepsSlots b c → KeepsSlots a c
slots_then None b c one two = tt
slots_then (Some x) None c one two = absurd one
slots_then (Some x) (Some y) None one two = absurd two
slots_then (Some x) (Some y) (Some z) one two = two ∙ one

-- nothing was called
pub uncalled : (s : SiteState) → IsCalled s s (let r : Result (Unit {0}) BankError = Ok tt in r)
uncalled s = record {
  later = omega arith;
  moment = omega arith;
  shares = refl;
  slots = slots_same s.held;
  disk = refl;
  failed = λ e. cc;
}

rose_then : (a b c : ℕ) → a ≤ b → Rose b c → Rose a c
rose_then a b c le rose = omega (arith, le, rose)

-- calls behind one that didn't fail
pub called_then : {T U : Type 0} (a b c : SiteState) (one : Result T BankError) (two : Result U BankError) → IsCalled a b one → IsCalled b c two → IsCalled a c two
called_then a b c one two x y = record {
  later = let p = x.later in let q = y.later in omega (arith, p, q);
  moment = let p = x.moment in let q = y.moment in omega (arith, p, q);
  shares = y.shares ∙ x.shares;
  slots = slots_then a.held b.held c.held x.slots y.slots;
  disk = y.disk ∙ x.disk;
  failed = λ e. rose_then a.bank_faults b.bank_faults c.bank_faults x.later (y.failed e);
}

failed_so : {T U : Type 0} (before behind : SiteState) (e : BankError) → IsCalled before behind (let r : Result T BankError = Err e in r) → IsErrOf (let r : Result U ReopenError = Err (fault_of e) in r) error.Failed → Rose before.bank_faults behind.bank_faults
failed_so before behind bank.Failed x e = x.failed refl
failed_so before behind bank.Memory x e = cc

-- calls behind a round
pub caused_then : {T U V : Type 0} (a b c : SiteState) (one : Result T ReopenError) (two : Result U BankError) (last : Result V ReopenError) → IsReopenCaused a b one → IsCalled b c two
    → (IsErrOf last error.Failed → Rose b.bank_faults c.bank_faults) → IsReopenCaused a c last
caused_then a b c one two last x y failed = record {
  later = let p = x.later in let q = y.later in omega (arith, p, q);
  moment = let p = x.moment in let q = y.moment in omega (arith, p, q);
  shares = y.shares ∙ x.shares;
  slots = slots_then a.held b.held c.held x.slots y.slots;
  disk = y.disk ∙ x.disk;
  failed = λ e. rose_then a.bank_faults b.bank_faults c.bank_faults x.later (failed e);
}
