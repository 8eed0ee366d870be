-- What a test of each element of a list tells.
use Rattle.std.proofs.Common.{◌≡◌, ℕ, ◌+◌, ◌<◌, ◌≤◌, List, [], ◌∷◌, length, get_or, map, take, refl, sym, subst, true, Bool, ◌&&◌, ltb, ◌^◌, arith}
use Rattle.std.specs.List.{AllByRecursion}
use Rattle.std.proofs.lemmas.List.{take_more}
use Rattle.std.proofs.lemmas.Bool.{lt-ltb}
use Rattle.std.proofs.lemmas.List.{length-map}
use Rattle.table_defs.specs.declared.definition.TableDef.{TableDef}
use Rattle.table_state.specs.declared.history.Sealed.{Sealed}
use Rattle.table_state.specs.declared.operation.Op.{Op}
use Rattle.journal_entries.specs.Bodies.{rises}
use Rattle.journal_entries.specs.Spelling.{IsOp, IsTransaction}
use Rattle.cache_tier.specs.Journals.{Commits, Prepares}
use Rattle.tier_journal.specs.declared.batch.Batch.{Batch}
use Rattle.tier_journal.specs.Batches.{CanFollow}
use Rattle.tier_journal.specs.Writing.{CanBeWritten, IsOfSchema, written_op, written_ops}
use Rattle.tier_journal.proofs.Lists.{all_append, all_weaker}

pub all_more : {X : Type 0} (P : X → Type 0) (xs : List X) (i : ℕ) (x : X) → i < length xs → x ≡ get_or xs i x → AllByRecursion P (take i xs) → P x → AllByRecursion P (take (i + 1) xs)
all_more P xs i x lt is h p =
    subst (λ l. AllByRecursion P l) (sym (take_more xs i x lt))
    (all_append P (take i xs) (get_or xs i x ∷ []) h (subst (λ y. P y) is p, tt))

to_mapped : {X Y : Type 0} (P : Y → Type 0) (f : X → Y) (xs : List X) → AllByRecursion (λ x. P (f x)) xs → AllByRecursion P (map f xs)
to_mapped P f [] h = tt
to_mapped P f (x ∷ xs) h = (h.0, to_mapped P f xs h.1)

both : (a b : Bool) → a ≡ true → b ≡ true → (a && b) ≡ true
both a b x y = rw (x, y) refl

module _ (schema : List TableDef) (b : Batch) (s : Sealed) (last : b.standing.last < s.ticket.0) (small : s.ticket.0 < 2 ^ 63) (some : 1 ≤ length s.ops) (count : length s.ops ≤ 10000) (ops : AllByRecursion (CanBeWritten schema) s.ops) where
  tables_are : AllByRecursion (IsOfSchema schema) s.ops
  tables_are = all_weaker (CanBeWritten schema) (IsOfSchema schema) (λ op h. h.0) s.ops ops

  has_bytes : IsTransaction 2 s.ticket (written_ops schema s.ops)
  has_bytes = record {
    number = omega (arith, small);
    some = subst (λ n. 1 ≤ n) (sym (length-map s.ops (written_op schema))) some;
    count = subst (λ n. n ≤ 10000) (sym (length-map s.ops (written_op schema))) count;
    each = to_mapped (IsOp 2) (written_op schema) s.ops (all_weaker (CanBeWritten schema) (λ (op : Op). IsOp 2 (written_op schema op)) (λ op h. h.1) s.ops ops);
  }

  may_rise : rises b.standing s.ticket ≡ true
  may_rise = both (ltb b.standing.last s.ticket.0) (ltb s.ticket.0 (2 ^ 63)) (lt-ltb b.standing.last s.ticket.0 last) (lt-ltb s.ticket.0 (2 ^ 63) small)

  pub commit_follows : CanFollow schema b (Commits s)
  commit_follows = record { tables = tables_are; bytes = has_bytes; order = may_rise }

  pub prepare_follows : CanFollow schema b (Prepares s)
  prepare_follows = record { tables = tables_are; bytes = has_bytes; order = may_rise }
