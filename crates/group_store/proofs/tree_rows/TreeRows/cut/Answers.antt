use Rattle.std.proofs.Common.{◌<◌, length, nat_eq, cond, ap, sym, ◌∙◌, arith}
use Rattle.std.proofs.lemmas.List.{length-map}
use Rattle.std.specs.FinMap as fm
use Rattle.slot_rows.specs.indexed_rows.specs.Rows.{is_same}
use Rattle.cache_store.specs.recency.specs.Rings.{keys_without}
use Rattle.group_store.specs.Joined.{layer_of, layers_of, tables_of}
use Rattle.group_store.proofs.JoinedLaws.{long_tables}
use Rattle.group_store.proofs.TreeLaws.{cut_done}
use Rattle.group_store.proofs.tree_rows.TreeRows.cut.Goals as goal

pub take_key-requires : goal.take_key-requires
take_key-requires c =
    let t = c.bare.new.self in
    let same = ap length c.bare.ensures.same.layers in
    let long = length-map t.children.items layer_of in
    let before = length-map c.args.self.now.children.items layer_of in
    let w = c.requires.within in omega (arith, w, same, long, before)

pub returns-clause-row : goal.returns-clause-row
returns-clause-row c = λ e. c.take_key.ensures.row e ∙ ap (λ r. fm.get r.table c.args.key.now) c.bare.ensures.same.roots

pub returns-clause-tables : goal.returns-clause-tables
returns-clause-tables c =
    let t = c.bare.new.self in
    let same = ap length c.bare.ensures.same.layers in
    let long = length-map t.children.items layer_of in
    let before = length-map c.args.self.now.children.items layer_of in
    let many = long_tables t in
    let inside : c.args.top < length (tables_of t) = (let w = c.requires.within in omega (arith, w, same, long, before, many)) in
    c.take_key.ensures.tables ∙ sym (cut_done (layers_of t) (tables_of t) c.args.top c.args.key.now inside c.bare.ensures.bared.bare) ∙ c.bare.ensures.bared.cut

pub returns-clause-same : goal.returns-clause-same
returns-clause-same c =
    let same = c.take_key.ensures.same in
    let roots = c.bare.ensures.same.roots in
    record {
      places = same.places ∙ ap (λ r. r.places) roots;
      foreign = same.foreign ∙ ap (λ r. r.foreign) roots;
      layers = same.layers ∙ c.bare.ensures.same.layers;
      joined = λ _. same.joined c.bare.ensures.same.joined;
    }

pub returns-clause-keys : goal.returns-clause-keys
returns-clause-keys c = c.take_key.ensures.keys ∙ ap (λ r. cond (nat_eq c.args.top 0) (keys_without is_same c.args.key.now r.keys) r.keys) c.bare.ensures.same.roots

pub returns-clause-spare : goal.returns-clause-spare
returns-clause-spare c = let a = c.take_key.ensures.spare in let b = c.bare.ensures.same.spare in omega (arith, a, b)
