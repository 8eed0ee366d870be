use Rattle.std.proofs.Common.{arith, ◌≡◌, ◌≤◌, ◌<◌, ◌∙◌, ap, drop, take, length, min}
use Rattle.std.proofs.lemmas.List.{length-take-le}
use Rattle.outside.proofs.Bytes.{gave, ended}
use Rattle.outside.proofs.memory_source.MemorySourceSource.take.Goals as goal

pub returns-clause-bytes : goal.returns-clause-bytes
returns-clause-bytes c =
    let s = c.args.self.now in
    let n = c.min-count.result in
    let bound : n ≤ length c.args.buf.now = omega (arith, c.min-count.ensures) in
    let len : length c.copy_from_slice.new.self ≡ n = c.copy_from_slice.ensures.len ∙ length-take-le n c.args.buf.now bound in
    let least : n ≡ min (min (length (drop s.at s.bytes.items)) s.piece) (length c.args.buf.now) =
    c.min-count.ensures ∙ ap (λ m. min m (length c.args.buf.now)) (c.min.ensures ∙ ap (λ l. min (length l) s.piece) c.rest-rest.ensures)
    in
    let some : 0 < s.piece = s.some in
    (gave s.bytes.items c.copy_from_slice.new.self _ s.at n (c.copy_from_slice.ensures.after ∙ ap (λ l. take n l) c.rest-rest.ensures) len, ended s.bytes.items c.copy_from_slice.new.self c.args.buf.now s.at n s.piece least some len)
