-- One reply more is counted.
use Rattle.std.proofs.Common.{◌≡◌, ◌+◌, ◌^◌, ◌≤◌, ℕ, List, [], ◌∷◌, ◌++◌, Bool, cond, Option, Some, None, refl, ◌∙◌, ap, arith, is_some}
use Rattle.std.specs.List.{count_by}
use Rattle.std.proofs.lemmas.List.Sums.{sum_by-append}
use Rattle.cache_tier.specs.declared.reply.Last.{Last}
use Rattle.cache_tier.specs.declared.reply.Last.TheVariants.{Done, No, Fault}
use Rattle.cache_tier.specs.declared.reply.Reply.{Reply}
use Rattle.session_cli.specs.declared.counts.Counts.{Counts}
use Rattle.session_cli.specs.Summaries.{AreCounts, HasRoom, counted, counted_last, ends_in, is_done, is_fault, is_no}

count_push : (p : Option Reply → Bool) (rs : List (Option Reply)) (r : Option Reply) (n m : ℕ) → n ≡ count_by p rs → cond (p r) 1 0 ≡ m → n + m ≡ count_by p (rs ++ r ∷ [])
count_push p rs r n m is one =
    let both = sum_by-append (λ x. cond (p x) 1 0) rs (r ∷ []) in
    omega (arith, both, is, one)

same : (n m : ℕ) → n + 0 ≡ m → n ≡ m
same n m is = omega (arith, is)

abbrev as_one : (Last → Bool) → Last → ℕ
as_one kind l = cond (kind l) 1 0

pub counts_push : (rs : List (Option Reply)) (r : Option Reply) (c c' : Counts) → c' ≡ counted r c → AreCounts rs c → AreCounts (rs ++ r ∷ []) c'
counts_push rs None c c' is a = rw is (record {
  requests = same _ _ (count_push is_some rs None c.requests 0 a.requests refl);
  done = same _ _ (count_push (ends_in is_done) rs None c.done 0 a.done refl);
  refused = same _ _ (count_push (ends_in is_no) rs None c.refused 0 a.refused refl);
  faults = same _ _ (count_push (ends_in is_fault) rs None c.faults 0 a.faults refl);
})
counts_push rs (Some reply) c c' is a = by reply.last refl
  where
    one : (kind : Last → Bool) (l : Last) → reply.last ≡ l → as_one kind reply.last ≡ as_one kind l
    one kind l last = ap (as_one kind) last

    so : (l : Last) → reply.last ≡ l → c' ≡ counted_last l c
    so l last = is ∙ ap (λ (x : Last). counted_last x c) last

    by : (l : Last) → reply.last ≡ l → AreCounts (rs ++ Some reply ∷ []) c'
    by (Done n) last = rw (so (Done n) last) (record {
      requests = count_push is_some rs (Some reply) c.requests 1 a.requests refl;
      done = count_push (ends_in is_done) rs (Some reply) c.done 1 a.done (one is_done (Done n) last);
      refused = same _ _ (count_push (ends_in is_no) rs (Some reply) c.refused 0 a.refused (one is_no (Done n) last));
      faults = same _ _ (count_push (ends_in is_fault) rs (Some reply) c.faults 0 a.faults (one is_fault (Done n) last));
    })
    by (No rule) last = rw (so (No rule) last) (record {
      requests = count_push is_some rs (Some reply) c.requests 1 a.requests refl;
      done = same _ _ (count_push (ends_in is_done) rs (Some reply) c.done 0 a.done (one is_done (No rule) last));
      refused = count_push (ends_in is_no) rs (Some reply) c.refused 1 a.refused (one is_no (No rule) last);
      faults = same _ _ (count_push (ends_in is_fault) rs (Some reply) c.faults 0 a.faults (one is_fault (No rule) last));
    })
    by (Fault rule) last = rw (so (Fault rule) last) (record {
      requests = count_push is_some rs (Some reply) c.requests 1 a.requests refl;
      done = same _ _ (count_push (ends_in is_done) rs (Some reply) c.done 0 a.done (one is_done (Fault rule) last));
      refused = same _ _ (count_push (ends_in is_no) rs (Some reply) c.refused 0 a.refused (one is_no (Fault rule) last));
      faults = count_push (ends_in is_fault) rs (Some reply) c.faults 1 a.faults (one is_fault (Fault rule) last);
    })

pub room_none : (c : Counts) (n : ℕ) → n ≤ 2 ^ 33 → c ≡ record { requests = 0; done = 0; refused = 0; faults = 0 } → HasRoom c n
room_none c n le is = rw is (record { room = omega arith; done = omega arith; refused = omega arith; faults = omega arith })
