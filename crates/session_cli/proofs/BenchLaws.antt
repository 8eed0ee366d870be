-- What a run over a new site comes to.
use Rattle.std.proofs.Common.{◌≡◌, ◌∙◌, ℕ, List, [], Option, Some, Ok, length, option_map, refl, sym, ap, subst}
use Rattle.tier_base.specs.declared.number.Moment.{Moment}
use Rattle.tier_base.specs.declared.number.TableId.{TableId}
use Rattle.table_state.specs.declared.history.Entry.{Entry}
use Rattle.table_state.specs.Histories.{state_of}
use Rattle.order_laws.specs.Steps.{MayBegin}
use Rattle.outside.specs.Holding.{Held}
use Rattle.outside.specs.Others.{AreOthers}
use Rattle.outside.specs.Sites.{SiteState}
use Rattle.memory_disk.specs.Possible.{unused}
use Rattle.cache_tier.specs.Worlds.{World}
use Rattle.cache_engine.specs.declared.engine.Engine.{Engine}
use Rattle.cache_engine.specs.Engines.{IsBegunWith, IsLeftIn}
use Rattle.cache_engine.proofs.EngineLaws.{left_in}
use Rattle.stored_tier.specs.Performing.{StandsFor}
use Rattle.stored_tier.specs.Sites.{IsAt}
use Rattle.stored_tier.specs.Stored.{pace_of}
use Rattle.cache_engine.specs.Beginning.{BeginsAt, opened_world}
use Rattle.script_maker.specs.Script.{script_lines}
use Rattle.session_cli.specs.declared.counts.Counts.{Counts}
use Rattle.session_cli.specs.Running.{Ends, IsSummaryOf, default_settings}
use Rattle.session_cli.specs.Summaries.{greatest_ticket}
use Rattle.session_cli.proofs.BeginLaws.{may_begin}

history_of : (held : Option Held) (there : Held) (history : List Entry) → held ≡ Some there → option_map (λ (h : Held). h.history) held ≡ Some history → there.history ≡ history
history_of held there history told is = let same : Some there.history ≡ Some history = sym (ap (option_map (λ (h : Held). h.history)) told) ∙ is in cc

pub summarised : (number : ℕ) (start : Moment) (before behind last : SiteState) (engine : Engine) (counts : Counts) (ticket entries : ℕ) (history : List Entry) → start.0 ≡ 0 → before.held ≡ Some unused → before.shared ≡ []
    → IsBegunWith start (pace_of default_settings) before behind (Ok engine) → BeginsAt before behind → ((w : World) → IsAt behind w → IsLeftIn engine w → Ends w (script_lines number) counts last)
    → option_map (λ (h : Held). h.history) last.held ≡ Some history → ticket ≡ greatest_ticket history → entries ≡ length history
    → IsSummaryOf number (record { counts = counts; ticket = ticket; entries = entries })
summarised number start before behind last engine counts ticket entries history zero told unshared begins later runs held greatest long =
    let b = begins.0 unused told in
    let none : AreOthers [] [] b.others = subst (λ (l : List TableId). AreOthers l [] b.others) unshared b.came in
    let is : b.held.history ≡ b.others = b.is in
    let m = may_begin [] b.others none in
    let leaves : state_of b.held.history ≡ Some m.state = ap state_of is ∙ m.leaves in
    let may : MayBegin b.held.history 1 = subst (λ (h : List Entry). MayBegin h 1) (sym is) m in
    let w : World = opened_world default_settings 0 m.state b.held.history behind in
    let stood : StandsFor engine.tier w = subst (λ (n : ℕ). StandsFor engine.tier (opened_world default_settings n m.state b.held.history behind)) zero (b.opened default_settings m.state refl leaves may) in
    let stands : IsLeftIn engine w = left_in engine w begins.1 begins.2 refl stood in
    let at : IsAt behind w = record { there = b.held; told = b.told; history = refl; faults = refl; moment = refl; shared = refl } in
    let e = runs w at stands in
    let same : e.last.history ≡ history = e.at.history ∙ history_of last.held e.at.there history e.at.told held in
    record {
      site = behind;
      history = b.held.history;
      state = m.state;
      opened = record {
        held = b.held;
        told = b.told;
        is = refl;
        shared = later.shares ∙ unshared;
        others = subst (λ (h : List Entry). AreOthers [] [] h) (sym is) none;
        leaves = leaves;
      };
      last = e.last;
      ran = e.ran;
      ticket = greatest ∙ ap greatest_ticket (sym same);
      entries = long ∙ ap length (sym same);
    }
