use Rattle.std.proofs.Common.{◌≡◌, ◌∙◌, ap, refl, subst, sym}
use Rattle.cache_tier.specs.Groups.{definitions_of}
use Rattle.group_catalog.specs.Catalogs.{groups_in}
use Rattle.stored_tier.specs.Lists.{AreHiding}
use Rattle.stored_tier.specs.Refreshing.{choice_of, exchanged, made_hidden, made_stores, positioned}
use Rattle.stored_tier.proofs.ListLaws.{hiding_defined, hiding_long, kept_long}
use Rattle.stored_tier.specs.Stored.{AreKept, AreWhole}
use Rattle.stored_tier.proofs.LaterLaws.{later_by}
use Rattle.stored_tier.proofs.SoundParts.{all_plain, changed_defs, housed_exchanged, named_by, visible_by}
use Rattle.stored_tier.proofs.StoreChanges.{kept_defined}
use Rattle.changed_sets.specs.Showing.{HiddenBy, Patched, TurnedBy}
use Rattle.changed_sets.proofs.Exchanged.{hiding_exchanged, kept_exchanged, whole_exchanged}
use Rattle.changed_sets.proofs.ShowLaws.{formed}
use Rattle.changed_sets.proofs.ShowSteps.{all_came, hidden_exchanged, made_from, stores_exchanged}
use Rattle.changed_sets.proofs.showing.patch_tier.Goals as goal

pub patch_all-requires : goal.patch_all-requires
patch_all-requires c = λ k p s at there. c.requires.ready.ready k p s (ap (λ parts. Rattle.std.proofs.Common.slice_get parts.1.items k) (sym c.into_parts-patches.ensures) ∙ at) there

pub returns-clause-shown : goal.returns-clause-shown
returns-clause-shown c =
    let patches = c.args.changed.patches.items in
    let stores = c.args.tier.now.stores.items in
    let hidden = c.args.tier.now.hidden.items in
    let now = c.patch_all.new.stores.items in
    let parts = c.into_parts-patches.ensures in
    let are : Patched TurnedBy c.args.changed.patches.items c.args.tier.now.stores.items c.patch_all.new.stores.items = subst (λ l. Patched TurnedBy l c.args.tier.now.stores.items c.patch_all.new.stores.items) (ap (λ parts. parts.1.items) parts) c.patch_all.ensures.stores in
    let hid : Patched HiddenBy c.args.changed.patches.items c.args.tier.now.hidden.items c.patch_all.new.hidden.items = subst (λ l. Patched HiddenBy l c.args.tier.now.hidden.items c.patch_all.new.hidden.items) (ap (λ parts. parts.1.items) parts) c.patch_all.ensures.hidden in
    let came = all_came c.args.changed.patches.items c.args.tier.now.stores.items c.patch_all.new.stores.items are in
    record {
      made = made_from patches now;
      came = came;
      exchanged = record {
        schema = refl;
        visible = refl;
        stale = refl;
        groups = c.give_position.ensures ∙ ap (λ parts. Rattle.cache_tier.specs.Sets.changed_from (choice_of c.args.chosen) (positioned parts.0.0) 0 (groups_in c.args.tier.now.catalog)) parts;
        stores = sym (stores_exchanged patches stores now are);
        hidden = sym (hidden_exchanged patches now hidden c.patch_all.new.hidden.items (Rattle.changed_sets.proofs.ShowSteps.patched_long TurnedBy patches stores now are ∙ kept_long c.args.tier.now.schema (groups_in c.args.tier.now.catalog) stores c.requires.sound.kept ∙ sym (hiding_long c.args.tier.now.schema (groups_in c.args.tier.now.catalog) stores hidden c.requires.sound.hiding)) hid);
        directory = refl;
        sessions = refl;
        unsettled = refl;
        writers = refl;
        next = refl;
        clock = refl;
      };
      formed = formed c.args.tier.now patches c.requires.sound c.requires.ready (made_from patches now) came;
    }

pub returns-clause-sound : goal.returns-clause-sound
returns-clause-sound c =
    let sound = c.requires.sound in
    let schema = c.args.tier.now.schema in
    let stores = c.args.tier.now.stores.items in
    let hidden = c.args.tier.now.hidden.items in
    let was = groups_in c.args.tier.now.catalog in
    let then = groups_in c.give_position.new.catalog in
    let patches = c.args.changed.patches.items in
    let parts = c.into_parts-patches.ensures in
    let are : Patched TurnedBy c.args.changed.patches.items c.args.tier.now.stores.items c.patch_all.new.stores.items = subst (λ l. Patched TurnedBy l c.args.tier.now.stores.items c.patch_all.new.stores.items) (ap (λ parts. parts.1.items) parts) c.patch_all.ensures.stores in
    let hid : Patched HiddenBy c.args.changed.patches.items c.args.tier.now.hidden.items c.patch_all.new.hidden.items = subst (λ l. Patched HiddenBy l c.args.tier.now.hidden.items c.patch_all.new.hidden.items) (ap (λ parts. parts.1.items) parts) c.patch_all.ensures.hidden in
    let made = made_from patches c.patch_all.new.stores.items in
    let came = all_came c.args.changed.patches.items c.args.tier.now.stores.items c.patch_all.new.stores.items are in
    let forms = formed c.args.tier.now patches c.requires.sound c.requires.ready (made_from patches c.patch_all.new.stores.items) came in
    let defs : definitions_of (groups_in c.give_position.new.catalog) ≡ definitions_of (groups_in c.args.tier.now.catalog) =
    ap definitions_of c.give_position.ensures ∙ changed_defs (choice_of c.args.chosen) (positioned c.into_parts-patches.result.0.0) 0 was (λ g. refl) in
    let is : c.patch_all.new.stores.items ≡ exchanged c.args.tier.now.stores.items (made_stores (made_from c.args.changed.patches.items c.patch_all.new.stores.items)) = sym (stores_exchanged patches stores c.patch_all.new.stores.items are) in
    let also : c.patch_all.new.hidden.items ≡ exchanged c.args.tier.now.hidden.items (made_hidden (made_from c.args.changed.patches.items c.patch_all.new.stores.items)) =
    sym (hidden_exchanged patches c.patch_all.new.stores.items hidden c.patch_all.new.hidden.items (Rattle.changed_sets.proofs.ShowSteps.patched_long TurnedBy patches stores c.patch_all.new.stores.items are ∙ kept_long schema was stores sound.kept ∙ sym (hiding_long schema was stores hidden sound.hiding)) hid) in
    let hiding = hiding_exchanged schema was stores hidden made sound.hiding forms.hiding in
    let kept = kept_exchanged schema was stores made sound.kept forms.form in
    record {
      sessions = sound.sessions;
      stores = subst (λ ss. Rattle.group_store.specs.Shown.AreHoused schema ss c.args.tier.now.directory) (sym is) (housed_exchanged schema was stores (exchanged stores (made_stores made)) c.args.tier.now.directory sound.stores sound.kept kept);
      kept = subst (AreKept schema then) (sym is) (kept_defined schema was then (exchanged stores (made_stores made)) defs kept);
      hiding = subst (λ ss. AreHiding schema then ss c.patch_all.new.hidden.items) (sym is) (subst (λ hs. AreHiding schema then (exchanged stores (made_stores made)) hs) (sym also) (hiding_defined schema was then (exchanged stores (made_stores made)) (exchanged hidden (made_hidden made)) defs hiding));
      whole = subst AreWhole (sym is) (whole_exchanged stores made sound.whole forms.whole);
      plain = all_plain was then defs sound.plain;
      named = named_by was then defs sound.named;
      visible = sound.visible ∙ sym (visible_by was then schema defs);
      numbered = sound.numbered;
      later = later_by was then c.args.tier.now.unsettled.items defs sound.later;
      writers = sound.writers;
      verified = λ e. absurd (Rattle.std.proofs.lemmas.Bool.false≢true e);
    }

pub returns-clause-patched : goal.returns-clause-patched
returns-clause-patched c = subst (λ l. Patched TurnedBy l c.args.tier.now.stores.items c.patch_all.new.stores.items) (ap (λ parts. parts.1.items) c.into_parts-patches.ensures) c.patch_all.ensures.stores
