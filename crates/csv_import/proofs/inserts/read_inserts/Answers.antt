-- Each record goes on with what stands, or stops it.
use Rattle.std.proofs.Common.{Global, ◌≡◌, ◌∙◌, [], Err, inl, inr, refl, rules, vec_items}
use Rattle.csv.specs.Records.{fields_of}
use Rattle.csv_import.specs.Inserts.{records_in}
use Rattle.csv_import.proofs.ReadLaws.{behind_header, ends, goes_on, starts, stops, without_header}
use Rattle.csv_import.proofs.inserts.read_inserts.Goals as goal

pub loop-row-init : goal.loop-row-init
loop-row-init c =
    let made = c.from_reader-reader.ensures in
    let e = c.has_headers.ensures in
    let f = c.flexible.ensures in
    let start = c.into_iter-row-iterator.ensures.into_iter_gives ∙ refl in
    let reader = c.into_byte_records-row-items.ensures.rdr in
    let left = c.into_byte_records-row-items.ensures.left in
    rw (start, reader) (
      left,
      starts c.args.table c.args.def.now.columns c.args.bytes.now c.from_reader-reader.result c.new-inserts.result.items
          (rw (f, e) at made.trim ∙ c.new.ensures.trim)
          (inr (inr (rw (f, e) at made.has_headers, made.headers)))
          (rw (f, e) at made.config ∙ c.new.ensures.config)
          made.source made.state c.new-inserts.ensures.items,
    )

pub loop-row-preserved : goal.loop-row-preserved
loop-row-preserved c =
    let inv = c.loop-row.invariant in
    let here = inv.1 in
    let step = rw (c.in-Some.is, c.in-Ok.is) at ((c.next.ensures.steps inv.0 here.untrimmed).0 here.ready) in
    let (more, given, is) = rw c.in_ok-take_record.was at c.take_record.ensures in
    (step.2, goes_on c.args.table c.args.def.now.columns (records_in c.args.bytes.now) c.loop-row.row-iterator.rdr c.loop-row.number c.loop-row.inserts.items here c.next.new.self.rdr (fields_of c.in-Ok.raw) step.0 (inl step.1) more (rw c.as_slice.ensures at given) c.take_record.new.inserts.items is)

pub returns-in_err-take_record : goal.returns-in_err-take_record
returns-in_err-take_record c =
    let inv = c.loop-row.invariant in
    let here = inv.1 in
    let step = rw (c.in-Some.is, c.in-Ok.is) at ((c.next.ensures.steps inv.0 here.untrimmed).0 here.ready) in
    let told : Err c.in_err-take_record.field-0.0 ≡ c.from_residual.result = Prim.search rules in
    rw⁻¹ told (stops c.args.table c.args.def.now.columns (records_in c.args.bytes.now) c.loop-row.row-iterator.rdr c.loop-row.number c.loop-row.inserts.items here c.next.new.self.rdr (fields_of c.in-Ok.raw) step.0 c.in_err-take_record.field-0.0 c.loop-row.inserts.items c.take_record.new.inserts.items c.as_slice.result.now c.as_slice.ensures c.in_err-take_record.ensures (vec_items {Z = Global}))

pub returns-then-number-eq0 : goal.returns-then-number-eq0
returns-then-number-eq0 c =
    let inv = c.loop-row.invariant in
    let here = inv.1 in
    let step = rw c.in-None.is at ((c.next.ensures.steps inv.0 here.untrimmed).0 here.ready) in
    rw c.wrong_record.ensures (ends c.args.table c.args.def.now.columns (records_in c.args.bytes.now) c.loop-row.row-iterator.rdr c.loop-row.number c.loop-row.inserts.items here c.next.new.self.rdr [] step ∙ without_header c.args.table c.args.def.now.columns c.loop-row.number c.loop-row.inserts.items c.if-number-eq0.true)

pub returns : goal.returns
returns c =
    let inv = c.loop-row.invariant in
    let here = inv.1 in
    let step = rw c.in-None.is at ((c.next.ensures.steps inv.0 here.untrimmed).0 here.ready) in
    ends c.args.table c.args.def.now.columns (records_in c.args.bytes.now) c.loop-row.row-iterator.rdr c.loop-row.number c.loop-row.inserts.items here c.next.new.self.rdr [] step ∙ behind_header c.args.table c.args.def.now.columns c.loop-row.number c.loop-row.inserts.items c.if-number-eq0.false
