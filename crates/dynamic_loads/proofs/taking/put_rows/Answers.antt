use Rattle.dynamic_loads.proofs.TakenParts.{filled_keyed, filled_sound, put_known, put_unknown, put_wanting}
use Rattle.dynamic_loads.proofs.taking.put_rows.Goals as goal

pub fill_at-requires : goal.fill_at-requires
fill_at-requires c = c.requires.may.room

pub confirm-requires-clause-sound : goal.confirm-requires-clause-sound
confirm-requires-clause-sound c = filled_sound c.args.tier.now c.fill_at.new.stores c.args.place c.args.rows c.args.known c.requires.sound c.requires.may c.in-Ok.ensures

pub confirm-requires-clause-keyed : goal.confirm-requires-clause-keyed
confirm-requires-clause-keyed c = filled_keyed c.args.tier.now c.fill_at.new.stores c.args.place c.args.rows c.args.known c.requires.sound c.requires.may c.in-Ok.ensures c.kept_rows_law.ensures.keyed c.if-known.true

pub returns-in-Err : goal.returns-in-Err
returns-in-Err c = put_wanting c.args.tier.now c.fill_at.new.stores c.args.place c.args.rows c.args.known c.requires.sound c.requires.may c.in-Err.error c.in-Err.ensures

pub returns-then-known : goal.returns-then-known
returns-then-known c = put_known c.args.tier.now c.fill_at.new.stores c.args.place c.args.rows c.args.known c.requires.sound c.requires.may c.in-Ok.ensures c.confirm.new.tier c.confirm.ensures.same c.confirm.ensures.sound

pub returns-else-known : goal.returns-else-known
returns-else-known c = put_unknown c.args.tier.now c.fill_at.new.stores c.args.place c.args.rows c.args.known c.requires.sound c.requires.may c.in-Ok.ensures
