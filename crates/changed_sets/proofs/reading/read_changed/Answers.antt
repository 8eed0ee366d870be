use Rattle.std.proofs.Common.{◌≡◌, ◌∙◌, None, refl, rules, subst, sym}
use Rattle.std.specs.Option.{option_copied, option_map}
use Rattle.std.specs.Prelude.{Ok, Err}
use Rattle.outside.specs.declared.fault.BankError.TheVariants.{Memory}
use Rattle.propagators.proofs.CertainLaws.{bank_certain}
use Rattle.statement_uses.specs.Wanting.{want_seen}
use Rattle.group_catalog.specs.Catalogs.{groups_in}
use Rattle.stored_tier.specs.Refreshing.{choice_of, is_filled}
use Rattle.changed_sets.specs.Alike.{AllAlike}
use Rattle.changed_sets.specs.Preparing.{ArePatches}
use Rattle.changed_sets.specs.Reading.{ReadsChangedIn}
use Rattle.changed_sets.specs.Since.{trees_of}
use Rattle.changed_sets.proofs.ReadLaws.{not_called, read_failed, read_here, reads_state}
use Rattle.changed_sets.proofs.ReadingLaws.{all_fresh, all_ready}
use Rattle.changed_sets.proofs.RoomLaws.{roomier_itself, roomier_read, roomier_sound, roomier_stands}
use Rattle.changed_sets.proofs.reading.read_changed.Goals as goal

pub returns-in_default-clause-same : goal.returns-in_default-clause-same
returns-in_default-clause-same g c = roomier_itself c.args.tier.now

pub returns-in_default-clause-reads : goal.returns-in_default-clause-reads
returns-in_default-clause-reads g c = λ w at stands apart. not_called c.args.tier.now _ w at stands

pub returns-in_default-rows_wanted-clause-same : goal.returns-in_default-rows_wanted-clause-same
returns-in_default-rows_wanted-clause-same g c = roomier_itself c.args.tier.now

pub returns-in_default-rows_wanted-clause-reads : goal.returns-in_default-rows_wanted-clause-reads
returns-in_default-rows_wanted-clause-reads g c = λ w at stands apart. not_called c.args.tier.now _ w at stands

pub returns-in_err-changes-clause-same : goal.returns-in_err-changes-clause-same
returns-in_err-changes-clause-same g c = roomier_itself c.args.tier.now

pub returns-in_err-changes-clause-reads : goal.returns-in_err-changes-clause-reads
returns-in_err-changes-clause-reads g c = λ w at stands apart.
    let told : Err c.in_err-changes.field-0.0 ≡ c.from_residual.result = Prim.search rules in
    subst (ReadsChangedIn c.args.tier.now _ (is_filled (choice_of c.args.chosen) None) c.args.place (option_map want_seen (option_copied c.args.want)) w) told
    (read_failed c.args.tier.now _ _ c.args.since c.as_slice.result.now c.as_slice-2.result.now c.in_err-changes.field-0.0 (Err c.in_err-changes.field-0.0) c.in_err-changes.ensures.told c.in_err-changes.ensures.cause.later c.in_err-changes.ensures.crash.later c.in_err-changes.ensures.cause.shared w at stands apart)

pub returns-in_err-changes-clause-certain : goal.returns-in_err-changes-clause-certain
returns-in_err-changes-clause-certain g c = bank_certain g.P.Disk.state g.P.Disk.possible g.met.P.Disk.certain c.args.site.now c.changes.new.self _ c.in_err-changes.ensures.told c.in_err-changes.ensures.crash

pub returns-in-Err-clause-same : goal.returns-in-Err-clause-same
returns-in-Err-clause-same g c = roomier_itself c.args.tier.now

pub returns-in-Err-clause-reads : goal.returns-in-Err-clause-reads
returns-in-Err-clause-reads g c = λ w at stands apart.
    read_failed c.args.tier.now _ _ c.args.since c.as_slice.result.now _ _ (Ok c.in_ok-changes.changes) c.in_ok-changes.ensures.told c.in_ok-changes.ensures.cause.later c.in_ok-changes.ensures.crash.later c.in_ok-changes.ensures.cause.shared w at stands apart

pub returns-in-Err-clause-certain : goal.returns-in-Err-clause-certain
returns-in-Err-clause-certain g c = bank_certain g.P.Disk.state g.P.Disk.possible g.met.P.Disk.certain c.args.site.now c.changes.new.self _ c.in_ok-changes.ensures.told c.in_ok-changes.ensures.crash

pub returns-in-Err-make_room-clause-sound : goal.returns-in-Err-make_room-clause-sound
returns-in-Err-make_room-clause-sound g c =
    roomier_sound c.args.tier.now (record c.args.tier.now { stores = c.make_room.new.stores }) (record { rest = refl; stores = c.make_room.ensures.same }) c.requires.sound

pub returns-in-Err-make_room-clause-reads : goal.returns-in-Err-make_room-clause-reads
returns-in-Err-make_room-clause-reads g c = λ w at stands apart.
    roomier_read c.args.tier.now (record c.args.tier.now { stores = c.make_room.new.stores }) (record { rest = refl; stores = c.make_room.ensures.same }) _ (Err Memory) w
    (read_failed c.args.tier.now _ _ c.args.since c.as_slice.result.now _ Memory (Ok c.in_ok-changes.changes) c.in_ok-changes.ensures.told c.in_ok-changes.ensures.cause.later c.in_ok-changes.ensures.crash.later c.in_ok-changes.ensures.cause.shared w at stands apart)

pub returns-in-Err-make_room-clause-certain : goal.returns-in-Err-make_room-clause-certain
returns-in-Err-make_room-clause-certain g c = bank_certain g.P.Disk.state g.P.Disk.possible g.met.P.Disk.certain c.args.site.now c.changes.new.self _ c.in_ok-changes.ensures.told c.in_ok-changes.ensures.crash

pub returns-clause-sound : goal.returns-clause-sound
returns-clause-sound g c =
    roomier_sound c.args.tier.now (record c.args.tier.now { stores = c.make_room.new.stores }) (record { rest = refl; stores = c.make_room.ensures.same }) c.requires.sound

pub returns-clause-ready : goal.returns-clause-ready
returns-clause-ready g c =
    all_ready c.args.tier.now (record c.args.tier.now { stores = c.make_room.new.stores }) c.requires.sound (is_filled (choice_of c.args.chosen) None) c.args.place c.as_slice-3.result.now c.in-Ok-prepare.patches.items c.in-Ok-prepare.ensures
    (record { rest = refl; stores = c.make_room.ensures.same })
    (subst (λ ps. Rattle.changed_sets.specs.Reading.HaveRoom ps c.make_room.new.stores.items) c.as_slice-in-Ok-prepare.ensures.value c.in-Ok-make_room.ensures.room)

pub returns-clause-reads : goal.returns-clause-reads
returns-clause-reads g c = λ w at stands apart.
    let ok = c.in_ok-changes.ensures in
    let r = read_here c.args.tier.now _ _ c.args.since c.as_slice.result.now _ c.in_ok-changes.changes ok.told ok.cause.later ok.crash.later ok.cause.shared w at stands apart in
    let alike : AllAlike (trees_of (is_filled (choice_of c.args.chosen) None) 0 (groups_in c.args.tier.now.catalog)) c.as_slice.result.now =
    subst (AllAlike (trees_of (is_filled (choice_of c.args.chosen) None) 0 (groups_in c.args.tier.now.catalog))) (sym c.as_slice.ensures.value) c.in-Ok.ensures in
    let are : ArePatches c.args.tier.now (is_filled (choice_of c.args.chosen) None) c.args.place c.in_ok-changes.changes.touched c.in-Ok-prepare.patches.items =
    subst (λ l. ArePatches c.args.tier.now (is_filled (choice_of c.args.chosen) None) c.args.place l c.in-Ok-prepare.patches.items) c.as_slice-3.ensures c.in-Ok-prepare.ensures in (
      record {
        world = r.world;
        at = r.at;
        stands = roomier_stands c.args.tier.now (record c.args.tier.now { stores = c.make_room.new.stores }) (record { rest = refl; stores = c.make_room.ensures.same }) r.world r.stands;
        call = r.call;
        tier = r.tier;
      },
      λ made came. all_fresh c.drop_instance_law.ensures c.args.tier.now (record c.args.tier.now { stores = c.make_room.new.stores }) w _ c.requires.sound stands c.args.since c.as_slice.result.now _ c.in_ok-changes.changes
          (reads_state c.args.tier.now _ _ c.args.since c.as_slice.result.now _ c.in_ok-changes.changes ok.told ok.cause.later ok.crash.later ok.cause.shared w at stands apart)
          (choice_of c.args.chosen) c.requires.since alike c.in-Ok-prepare.patches.items c.args.place (option_map want_seen (option_copied c.args.want)) (c.as_slice-2.ensures.value ∙ c.in-Ok-rows_wanted.ensures) are (record { rest = refl; stores = c.make_room.ensures.same }) made came,
    )

pub returns-clause-certain : goal.returns-clause-certain
returns-clause-certain g c = bank_certain g.P.Disk.state g.P.Disk.possible g.met.P.Disk.certain c.args.site.now c.changes.new.self _ c.in_ok-changes.ensures.told c.in_ok-changes.ensures.crash
