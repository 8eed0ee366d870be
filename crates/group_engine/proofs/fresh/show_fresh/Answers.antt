use Rattle.std.proofs.Common.{◌≡◌, ◌∙◌, ap, refl, subst, sym}
use Rattle.cache_tier.specs.Groups.{definitions_of}
use Rattle.group_catalog.specs.Catalogs.{groups_in}
use Rattle.stored_tier.specs.Lists.{AreHiding}
use Rattle.stored_tier.specs.Refreshing.{choice_of, exchanged, made_hidden, made_stores, positioned}
use Rattle.stored_tier.proofs.ListLaws.{hiding_defined}
use Rattle.stored_tier.specs.Stored.{AreKept, AreWhole}
use Rattle.stored_tier.proofs.LaterLaws.{later_by}
use Rattle.stored_tier.proofs.SoundParts.{all_plain, changed_defs, housed_exchanged, named_by, visible_by}
use Rattle.group_engine.proofs.Exchanged.{hiding_exchanged, kept_exchanged, whole_exchanged}
use Rattle.stored_tier.proofs.StoreChanges.{kept_defined}
use Rattle.group_engine.proofs.fresh.show_fresh.Goals as goal

pub returns-clause-sound : goal.returns-clause-sound
returns-clause-sound c =
    let sound = c.requires.sound in
    let schema = c.args.tier.now.schema in
    let stores = c.args.tier.now.stores.items in
    let hidden = c.args.tier.now.hidden.items in
    let was = groups_in c.args.tier.now.catalog in
    let then = groups_in c.give_position.new.catalog in
    let made = c.args.fresh.made.items in
    let defs : definitions_of (groups_in c.give_position.new.catalog) ≡ definitions_of (groups_in c.args.tier.now.catalog) =
    ap definitions_of c.give_position.ensures ∙ changed_defs (choice_of c.args.chosen) (positioned c.into_parts-made.result.0.0) 0 was (λ g. refl) in
    let is : c.exchange.new.stores.items ≡ exchanged c.args.tier.now.stores.items (made_stores c.args.fresh.made.items) = c.exchange.ensures.stores ∙ ap (λ parts. exchanged c.args.tier.now.stores.items (made_stores parts.1.items)) c.into_parts-made.ensures in
    let also : c.exchange.new.hidden.items ≡ exchanged c.args.tier.now.hidden.items (made_hidden c.args.fresh.made.items) = c.exchange.ensures.hidden ∙ ap (λ parts. exchanged c.args.tier.now.hidden.items (made_hidden parts.1.items)) c.into_parts-made.ensures in
    let hiding = hiding_exchanged schema was stores hidden made sound.hiding c.requires.formed.hiding in
    let kept = kept_exchanged schema was stores made sound.kept c.requires.formed.form in
    record {
      sessions = sound.sessions;
      stores = subst (λ ss. Rattle.group_store.specs.Shown.AreHoused schema ss c.args.tier.now.directory) (sym is) (housed_exchanged schema was stores (exchanged stores (made_stores made)) c.args.tier.now.directory sound.stores sound.kept kept);
      kept = subst (AreKept schema then) (sym is) (kept_defined schema was then (exchanged stores (made_stores made)) defs kept);
      hiding = subst (λ ss. AreHiding schema then ss c.exchange.new.hidden.items) (sym is) (subst (λ hs. AreHiding schema then (exchanged stores (made_stores made)) hs) (sym also) (hiding_defined schema was then (exchanged stores (made_stores made)) (exchanged hidden (made_hidden made)) defs hiding));
      whole = subst AreWhole (sym is) (whole_exchanged stores made sound.whole c.requires.formed.whole);
      plain = all_plain was then defs sound.plain;
      named = named_by was then defs sound.named;
      visible = sound.visible ∙ sym (visible_by was then schema defs);
      numbered = sound.numbered;
      later = later_by was then c.args.tier.now.unsettled.items defs sound.later;
      writers = sound.writers;
      verified = λ e. absurd (Rattle.std.proofs.lemmas.Bool.false≢true e);
    }
