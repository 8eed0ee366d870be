-- A rotation by the stored tier: whether the journal is long, and what is done where it is.
use Rattle.std.proofs.Common.{◌≡◌, ℕ, suc, Bool, true, false, ◌&&◌, nat_eq, nat_lt, Option, Some, None, List, [], ◌∷◌, length, refl, sym, ap, ◌∙◌, subst, arith}
use Rattle.std.proofs.lemmas.Bool.{eqb-true}
use Rattle.std.specs.Bool.{MatchBool}
use Rattle.table_state.specs.declared.history.Sealed.{Sealed}
use Rattle.outside.specs.Holding.{Held}
use Rattle.outside.specs.Sites.{SiteState}
use Rattle.group_catalog.specs.Catalogs.{groups_in}
use Rattle.cache_tier.specs.declared.reply.Reply.{Reply}
use Rattle.cache_tier.specs.Rotations.{Kept, Rotates, RotatesIfLong, is_long}
use Rattle.cache_tier.specs.Worlds.{Passes, World}
use Rattle.tier_journal.specs.declared.batch.Batch.{Batch}
use Rattle.tier_journal.specs.declared.journal.TierJournal.{TierJournal}
use Rattle.tier_journal.specs.Batches.{Holds}
use Rattle.table_defs.specs.declared.definition.TableDef.{TableDef}
use Rattle.tier_journal.specs.KeptOver.{DiskIsCaused, KeepsOver, over_disk}
use Rattle.tier_journal.specs.Turning.{TurnsOver, is_long_kept}
use Rattle.tier_journal.proofs.WayLaws.{kept_unless}
use Rattle.stored_tier.specs.declared.clock.Pace.{Pace}
use Rattle.stored_tier.specs.declared.tier.Tier.{Tier as Stored}
use Rattle.stored_tier.specs.NewSlots.{begun_entries}
use Rattle.stored_tier.specs.Performing.{PerformsOver, StandsFor}
use Rattle.stored_tier.proofs.NewSlotLaws.{slot_so}
use Rattle.stored_tier.proofs.OverLaws.{at_written, over_here, stands_written}

-- ---- whether it is long

-- how long a slot may get
bytes_so : (t : Stored) (w : World) → StandsFor t w → w.tier.settings.rotate_bytes ≡ t.clock.pace.rotate_bytes
bytes_so t w stands = ap (λ (p : Pace). p.rotate_bytes) stands.stored.time.due

module _ {D : Type 0} (state : D → SiteState) (possible : D → ℕ → Held → Type 0) where
  kept_so : (k : Option TierJournal) (d : D) (w : World) (bytes : ℕ) → KeepsOver state possible d k w → (w.journal.kept && nat_lt bytes w.journal.written) ≡ is_long_kept k bytes
  kept_so None d w bytes over = ap (λ b. b && nat_lt bytes w.journal.written) over
  kept_so (Some t) d w bytes over = ap (λ b. b && nat_lt bytes w.journal.written) over.keeps.kept ∙ ap (λ n. nat_lt bytes n) over.keeps.written

and_false : (a b : Bool) → (a && (b && false)) ≡ false
and_false true true = refl
and_false true false = refl
and_false false b = refl

and_true : (a b : Bool) → (a && (b && true)) ≡ (a && b)
and_true true true = refl
and_true true false = refl
and_true false b = refl

-- nothing is unsettled, or something is
none_left : (xs : List Sealed) (n : ℕ) → n ≡ length xs → nat_eq n 0 ≡ true → xs ≡ []
none_left [] n long none = refl
none_left (x ∷ xs) n long none =
    let z : n ≡ 0 = eqb-true n 0 none in
    let e : n ≡ suc (length xs) = long in absurd (omega (arith, z, e))

some_left : (xs : List Sealed) (n : ℕ) → n ≡ length xs → nat_eq n 0 ≡ false → nat_eq (length xs) 0 ≡ false
some_left xs n long some = ap (λ k. nat_eq k 0) (sym long) ∙ some

pub emptied : (t : Stored) (n : ℕ) (b : Bool) → n ≡ length t.unsettled.items → b ≡ nat_eq n 0 → b ≡ true → t.unsettled.items ≡ []
emptied t n b long is none = none_left t.unsettled.items n long (sym is ∙ none)

module _ {D : Type 0} (state : D → SiteState) (possible : D → ℕ → Held → Type 0) where
  -- something is unsettled
  pub unsettled_turns : (t : Stored) (k : Option TierJournal) (d : D) (n : ℕ) (b : Bool) → n ≡ length t.unsettled.items → b ≡ nat_eq n 0 → b ≡ false → PerformsOver state possible t t k k d d None (λ w w'. RotatesIfLong w w' None)
  unsettled_turns t k d n b long is some =
      over_here state possible t k d None (λ w w'. RotatesIfLong w w' None) (λ w stands.
      let left : nat_eq (length w.tier.unsettled) 0 ≡ false = ap (λ (xs : List Sealed). nat_eq (length xs) 0) stands.stored.unsettled ∙ some_left t.unsettled.items n long (sym is ∙ some) in
      let short : is_long w ≡ false = ap (λ c. w.journal.kept && (nat_lt w.tier.settings.rotate_bytes w.journal.written && c)) left ∙ and_false w.journal.kept (nat_lt w.tier.settings.rotate_bytes w.journal.written) in
      subst (λ b. MatchBool b (Rotates w w None) (Passes w w None)) (sym short) (refl, refl))

  -- whether it is long, where nothing is unsettled
  pub long_so : (t : Stored) (k : Option TierJournal) (d : D) (w : World) → t.unsettled.items ≡ [] → StandsFor t w → KeepsOver state possible d k w → is_long w ≡ is_long_kept k t.clock.pace.rotate_bytes
  long_so t k d w settled stands over =
      ap (λ (xs : List Sealed). w.journal.kept && (nat_lt w.tier.settings.rotate_bytes w.journal.written && nat_eq (length xs) 0)) (stands.stored.unsettled ∙ settled)
      ∙ and_true w.journal.kept (nat_lt w.tier.settings.rotate_bytes w.journal.written)
      ∙ ap (λ n. w.journal.kept && nat_lt n w.journal.written) (bytes_so t w stands)
      ∙ kept_so state possible k d w t.clock.pace.rotate_bytes over

  -- the slot isn't long
  pub short_turns : (t : Stored) (k : Option TierJournal) (d : D) (long : Bool) → t.unsettled.items ≡ [] → long ≡ is_long_kept k t.clock.pace.rotate_bytes → long ≡ false → PerformsOver state possible t t k k d d None (λ w w'. RotatesIfLong w w' None)
  short_turns t k d long settled is short w at stands apart over =
      let so : is_long w ≡ false = long_so t k d w settled stands over ∙ sym is ∙ short in
      record {
        world = w;
        at = at;
        is = subst (λ b. MatchBool b (Rotates w w None) (Passes w w None)) (sym so) (refl, refl);
        stands = λ whole. stands;
        keeps = kept_unless over;
      }

  -- memory was wanting for the entries
  pub wanting_turns : (t new : Stored) (k : Option TierJournal) (d : D) (long : Bool) → new ≡ t → t.unsettled.items ≡ [] → long ≡ is_long_kept k t.clock.pace.rotate_bytes → long ≡ true → PerformsOver state possible t new k k d d None (λ w w'. RotatesIfLong w w' None)
  wanting_turns t new k d long same settled is long_is w at stands apart over =
      let so : is_long w ≡ true = long_so t k d w settled stands over ∙ sym is ∙ long_is in
      record {
        world = w;
        at = at;
        is = subst (λ b. MatchBool b (Rotates w w None) (Passes w w None)) (sym so) (record {
          result = Kept;
          tier = refl;
          history = refl;
          journal = refl;
          bank = refl;
          disk = omega arith;
          moment = omega arith;
          shared = refl;
          end = refl;
        });
        stands = λ whole. subst (λ (x : Stored). StandsFor x w) (sym same) stands;
        keeps = kept_unless over;
      }

  -- the rotation is tried
  pub tried_turns : (t new : Stored) (k k' : Option TierJournal) (d d' : D) (batch : Batch) (stop : Option Reply) (long : Bool) → new ≡ t → t.unsettled.items ≡ [] → long ≡ is_long_kept k t.clock.pace.rotate_bytes → long ≡ true
      → ((schema : List TableDef) → Holds 2 schema batch (begun_entries t.next (groups_in t.catalog))) → TurnsOver state possible k k' d d' batch stop → DiskIsCaused k (state d) (state d') stop
      → PerformsOver state possible t new k k' d d' stop (λ w w'. RotatesIfLong w w' stop)
  tried_turns t new k k' d d' batch stop long same settled is long_is holds turns cause w at stands apart over =
      let so : is_long w ≡ true = long_so t k d w settled stands over ∙ sym is ∙ long_is in
      let entries = slot_so t w.tier stands.stored (stands.stored.unsettled ∙ settled) in
      let x = turns w at.moment over (subst (Holds 2 w.tier.schema batch) (sym entries) (holds w.tier.schema)) in
      let w' : World = over_disk x.journal x.faults (state d').moment w in
      record {
        world = w';
        at = at_written state possible k' d d' w stop Rotates at x cause.bank cause.shared;
        is = subst (λ b. MatchBool b (Rotates w w' stop) (Passes w w' stop)) (sym so) x.is;
        stands = λ whole. subst (λ (y : Stored). StandsFor y w') (sym same) (stands_written t w x.journal x.faults (state d').moment stands);
        keeps = x.keeps;
      }
