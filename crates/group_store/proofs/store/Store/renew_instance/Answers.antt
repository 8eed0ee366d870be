use Rattle.std.proofs.Common.{◌≡◌, [], ◌∷◌, List, length, remove, get_or, ap, subst, ◌∙◌, arith}
use Rattle.slot_rows.specs.row_types.specs.declared.value.Value.{Value}
use Rattle.slot_rows.specs.indexed_rows.specs.Rows.{key_of}
use Rattle.group_store.specs.Stores.{SameButSpare, count_all, put_tables, renewed_store}
use Rattle.group_store.proofs.RenewLaws.{count_first, length_first, renewed_all, some_tables, split_first}
use Rattle.group_store.proofs.store.Store.renew_instance.Goals as goal

-- the first element of a list that is one row
one_row : (rows all : List (List Value)) (row got : List Value) → rows ≡ all → all ≡ row ∷ [] → got ≡ get_or rows 0 got → got ≡ row
one_row rows all row got e f is = is ∙ ap (λ r. get_or r 0 got) (e ∙ f)

-- the first of some tables
one_table : (items tables : List (List (List Value))) (row : List Value) (got : List (List Value)) → items ≡ tables → tables ≡ (row ∷ []) ∷ remove tables 0 → got ≡ get_or items 0 got → got ≡ row ∷ []
one_table items tables row got e f is = is ∙ ap (λ r. get_or r 0 got) (e ∙ f)

pub remove-rows-requires : goal.remove-rows-requires
remove-rows-requires c =
    let some = some_tables c.args.self.now.key c.args.root.now c.args.tables c.requires.under in
    let all = ap length c.into_vec-tables.ensures in omega (arith, some, all)

pub remove-row-requires : goal.remove-row-requires
remove-row-requires c =
    let split = split_first c.args.self.now.key c.args.root.now c.args.tables c.requires.under in
    let one = one_table c.into_vec-tables.result.items c.args.tables c.requires.under.row c.remove-rows.result c.into_vec-tables.ensures split c.remove-rows.ensures.value in
    let long = ap length (c.into_vec-rows.ensures ∙ one) in omega (arith, long)

pub renew_root-requires-clause-room : goal.renew_root-requires-clause-room
renew_root-requires-clause-room c =
    let count = count_first c.args.self.now.key c.args.root.now c.args.tables c.requires.under in
    let room = c.requires.room in omega (arith, count, room)

pub renew_root-requires-clause-under : goal.renew_root-requires-clause-under
renew_root-requires-clause-under c =
    let split = split_first c.args.self.now.key c.args.root.now c.args.tables c.requires.under in
    let one = one_table c.into_vec-tables.result.items c.args.tables c.requires.under.row c.remove-rows.result c.into_vec-tables.ensures split c.remove-rows.ensures.value in
    ap (key_of c.args.self.now.key) (one_row c.into_vec-rows.result.items c.remove-rows.result c.requires.under.row c.remove-row.result c.into_vec-rows.ensures one c.remove-row.ensures.value) ∙ c.requires.under.key

pub put_from-requires-clause-within : goal.put_from-requires-clause-within
put_from-requires-clause-within c =
    let rest = ap length (c.remove-rows.ensures.items ∙ ap (λ ts. remove ts 0) c.into_vec-tables.ensures) in
    let long = length_first c.args.self.now.key c.args.root.now c.args.tables c.requires.under in
    let layers = ap length c.renew_root.ensures.renewed.layers in
    let within = c.requires.within in omega (arith, rest, long, layers, within)

pub put_from-requires-clause-room : goal.put_from-requires-clause-room
put_from-requires-clause-room c =
    let rest = ap count_all (c.remove-rows.ensures.items ∙ ap (λ ts. remove ts 0) c.into_vec-tables.ensures) in
    let count = count_first c.args.self.now.key c.args.root.now c.args.tables c.requires.under in
    let spare = c.renew_root.ensures.spare in
    let room = c.requires.room in omega (arith, rest, count, spare, room)

pub returns-clause-renewed : goal.returns-clause-renewed
returns-clause-renewed c =
    let old = c.args.self.now in
    let root = c.args.root.now in
    let under = c.requires.under in
    let now = c.renew_root.new.self in
    let new = c.put_from.new.self in
    let rest : c.remove-rows.new.self.items ≡ remove c.args.tables 0 = c.remove-rows.ensures.items ∙ ap (λ ts. remove ts 0) c.into_vec-tables.ensures in
    let split = split_first old.key root c.args.tables under in
    let one = one_table c.into_vec-tables.result.items c.args.tables under.row c.remove-rows.result c.into_vec-tables.ensures split c.remove-rows.ensures.value in
    let row = one_row c.into_vec-rows.result.items c.remove-rows.result under.row c.remove-row.result c.into_vec-rows.ensures one c.remove-row.ensures.value in
    renewed_all old.key root c.args.tables under old now new (subst (λ r. SameButSpare (renewed_store root ((r ∷ []) ∷ []) old) now) row c.renew_root.ensures.renewed)
    (subst (λ ts. SameButSpare (put_tables 1 ts now) new) rest c.put_from.ensures.put)

pub returns-clause-spare : goal.returns-clause-spare
returns-clause-spare c =
    let rest = ap count_all (c.remove-rows.ensures.items ∙ ap (λ ts. remove ts 0) c.into_vec-tables.ensures) in
    let count = count_first c.args.self.now.key c.args.root.now c.args.tables c.requires.under in
    let one = c.renew_root.ensures.spare in
    let two = c.put_from.ensures.spare in omega (arith, rest, count, one, two)
