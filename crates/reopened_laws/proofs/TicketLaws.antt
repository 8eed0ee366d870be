-- The tickets of what slots give are below 2^63.
use Rattle.std.proofs.Common.{◌≡◌, ℕ, ◌≤◌, ◌<◌, ◌^◌, Bool, true, false, ◌&&◌, List, [], ◌∷◌, ◌++◌, refl, sym, subst, arith}
use Rattle.std.specs.Prelude.{fold}
use Rattle.std.proofs.lemmas.Bool.{leb-true, ltb-true}
use Rattle.std.proofs.lemmas.List.{map-append}
use Rattle.table_defs.specs.declared.definition.TableDef.{TableDef}
use Rattle.outside.specs.Holding.{Slots}
use Rattle.cache_tier.specs.Journals.{Commits, Defines, Drops, JournalEntry, Marks, Numbers, Prepares, SetsLoaded, SetsState, next_behind, next_with}
use Rattle.tier_base.specs.declared.number.Ticket.{Ticket}
use Rattle.journal_entries.specs.declared.entry.Entry.{Entry}
use Rattle.journal_entries.specs.declared.standing.Standing.{Standing}
use Rattle.journal_entries.specs.declared.standing.Ending.{Ending}
use Rattle.journal_entries.specs.Bodies.{AllFollow, Body, beginning, behind, behind_all, ends, follows, goes, rises, stops}
use Rattle.journal_entries.proofs.BodyLaws.{body_standing}
use Rattle.commit_journal.specs.Layout.{Batches, Gives, Outcome, Placed, Reads, broken, closed, counts, cut, entries_of, faulty, new, opened}
use Rattle.tier_journal.specs.Writing.{written, written_all}

-- ---- what slots give follows one another

follow_both : (s : Standing) (xs ys : List Entry) → AllFollow s xs → AllFollow (behind_all s xs) ys → AllFollow s (xs ++ ys)
follow_both s [] ys one two = two
follow_both s (x ∷ xs) ys one two = (one.0, follow_both (behind s x) xs ys one.1 two)

body_follows : {version : ℕ} {s : Standing} {place : ℕ} {bytes : List ℕ} {placed : List Placed} {ending : Ending} → Body version s place bytes placed ending → AllFollow s (entries_of placed)
body_follows ends = tt
body_follows (stops some none) = tt
body_follows (goes x rest is allowed same more) = (allowed, body_follows more)

batches_follow : {version : ℕ} {s : Standing} {place : ℕ} {bytes : List ℕ} {placed : List Placed} {outcome : Outcome} → Batches version s place bytes placed outcome → AllFollow s (entries_of placed)
batches_follow (closed gate junk is shut) = tt
batches_follow (cut rest is none) = tt
batches_follow (broken rest body more at is batch reads) = body_follows reads
batches_follow {s = s} (opened rest body more u entries others is batch reads next) =
    subst (AllFollow s) (sym (map-append (λ p. p.1) entries others))
    (follow_both s (entries_of entries) (entries_of others) (body_follows reads) (subst (λ (x : Standing). AllFollow x (entries_of others)) (body_standing reads refl) (batches_follow next)))

reads_follow : {slots : Slots} {placed : List Placed} {place : _} → Reads slots placed place → AllFollow beginning (entries_of placed)
reads_follow (new first second) = tt
reads_follow (faulty slot place head first) = tt
reads_follow (counts slot version generation outcome head beats batches) = batches_follow batches

gives_follow : (slots : Slots) (entries : List Entry) → Gives slots entries → AllFollow beginning entries
gives_follow slots entries g = subst (AllFollow beginning) g.are (reads_follow g.reads)

-- ---- their tickets

and_second : (a b : Bool) → (a && b) ≡ true → b ≡ true
and_second true b e = e
and_second false b e = Prim.cc

risen : (s : Standing) (ticket : Ticket) → rises s ticket ≡ true → ticket.0 < 2 ^ 63
risen s ticket e = ltb-true ticket.0 (2 ^ 63) (and_second _ _ e)

one_small : (schema : List TableDef) (s : Standing) (n : ℕ) (e : JournalEntry) → n ≤ 2 ^ 63 → follows s (written schema e) ≡ true → next_with n e ≤ 2 ^ 63
one_small schema s n (Commits x) small e = (let low = risen s x.ticket e in omega (arith, small, low))
one_small schema s n (Prepares x) small e = (let low = risen s x.ticket e in omega (arith, small, low))
one_small schema s n (Numbers t) small e = (let low : t < 2 ^ 63 = risen s (record { 0 = t }) e in omega (arith, small, low))
one_small schema s n (Marks t) small e = (let low : t ≤ 2 ^ 63 = leb-true t (2 ^ 63) (and_second s.first _ e) in omega (arith, small, low))
one_small schema s n (Defines d text) small e = small
one_small schema s n (Drops name) small e = small
one_small schema s n (SetsState name state) small e = small
one_small schema s n (SetsLoaded name flag) small e = small

all_small : (schema : List TableDef) (s : Standing) (n : ℕ) (entries : List JournalEntry) → n ≤ 2 ^ 63 → AllFollow s (written_all schema entries) → fold next_with n entries ≤ 2 ^ 63
all_small schema s n [] small follow = small
all_small schema s n (e ∷ entries) small follow = all_small schema (behind s (written schema e)) (next_with n e) entries (one_small schema s n e small follow.0) follow.1

-- the next ticket behind what slots give
pub given_small : (schema : List TableDef) (slots : Slots) (entries : List JournalEntry) → Gives slots (written_all schema entries) → next_behind entries ≤ 2 ^ 63
given_small schema slots entries g = all_small schema beginning 1 entries (omega arith) (gives_follow slots (written_all schema entries) g)
