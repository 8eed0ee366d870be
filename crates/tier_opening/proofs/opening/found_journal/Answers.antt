use Rattle.std.proofs.Common.{◌∙◌, inr, refl, subst}
use Rattle.tier_journal.specs.declared.opening.Found.{Found}
use Rattle.tier_journal.specs.Opening.{Finds}
use Rattle.tier_opening.proofs.LeftLaws.{disk_rests}
use Rattle.tier_opening.proofs.opening.found_journal.Goals as goal

pub returns-then-schema-clause-crash : goal.returns-then-schema-clause-crash
returns-then-schema-clause-crash g c = disk_rests g.P.Disk.state g.P.Disk.possible c.args.site.now

pub returns-then-version-ne2-clause-cause : goal.returns-then-version-ne2-clause-cause
returns-then-version-ne2-clause-cause g c = record {
  later = c.open.ensures.cause.later;
  bank = c.open.ensures.cause.bank;
  shared = c.open.ensures.cause.shared;
  failed = λ o told bytes.
      let f = subst (λ (x : Found). Finds g.P.Disk.state g.P.Disk.possible c.open.new.d c.args.schema.now o x) c.in-Ok-into_whole.ensures.whole (c.in-Ok.ensures.found o told bytes) in (
        f.now.slots,
        inr (record {
          journal = c.in-Ok-into_whole.journal;
          records = c.in-Ok-into_whole.records;
          shows = f.shows;
          version = λ two. c.if-version-ne2.true (c.version.ensures ∙ two);
          slot_is = c.slot.ensures;
          place_is = refl;
        }),
      );
}

pub returns-then-version-ne2-clause-crash : goal.returns-then-version-ne2-clause-crash
returns-then-version-ne2-clause-crash g c = c.open.ensures.crash

pub returns-in-Err-Disk-clause-crash : goal.returns-in-Err-Disk-clause-crash
returns-in-Err-Disk-clause-crash g c = c.open.ensures.crash

pub returns-in-Err-Memory-clause-crash : goal.returns-in-Err-Memory-clause-crash
returns-in-Err-Memory-clause-crash g c = c.open.ensures.crash

pub returns-in-Err-clause-crash : goal.returns-in-Err-clause-crash
returns-in-Err-clause-crash g c = c.open.ensures.crash

pub returns-else-version-ne2-clause-crash : goal.returns-else-version-ne2-clause-crash
returns-else-version-ne2-clause-crash g c = c.open.ensures.crash
