use Rattle.std.proofs.Common.{◌≡◌, [], ◌∷◌, ◌++◌, length, rules, sym, ap, ◌∙◌}
use Rattle.table_state.specs.Histories.{position_of}
use Rattle.backing_gate.proofs.TicketLaws.{position_like, replaced}
use Rattle.backing_gate.proofs.ledger.Ledger.replace_last.Goals as goal

pub invariant_of-self : goal.invariant_of-self
invariant_of-self c = λ q.
    let was : c.self.inside.entries ≡ c.requires.front ++ c.requires.last ∷ [] = c.self.view_is ∙ c.requires.is in
    let items : c.into_vec-entries.result.items ≡ c.self.inside.entries = c.into_vec-entries.ensures ∙ c.replace.ensures.value in
    let long : c.len-last.result ≡ length c.into_vec-entries.result.items = search rules in
    let now : c.from_vec.result ≡ c.requires.front ++ c.args.entry ∷ [] = replaced c.self.inside.entries c.into_vec-entries.result.items c.from_vec.result c.len-last.result c.args.entry items long c.from_vec.ensures c.requires.front c.requires.last was in
    c.self.invariant q ∙ ap (position_of q) was ∙ position_like q c.requires.front c.requires.last c.args.entry (c.requires.same q)
    ∙ sym (ap (position_of q) now)

pub returns : goal.returns
returns c = λ front last is.
    let items : c.into_vec-entries.result.items ≡ c.self.inside.entries = c.into_vec-entries.ensures ∙ c.replace.ensures.value in
    let long : c.len-last.result ≡ length c.into_vec-entries.result.items = search rules in
    replaced c.self.inside.entries c.into_vec-entries.result.items c.from_vec.result c.len-last.result c.args.entry items long c.from_vec.ensures front last (c.self.view_is ∙ is)
