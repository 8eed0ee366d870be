use Rattle.std.proofs.Common.{◌≡◌, ◌∙◌, ap, not, subst, sym}
use Rattle.sql_subset.specs.declared.stmt.Stmt.TheVariants as statement
use Rattle.table_defs.specs.Declarations.{IsRefusedBy}
use Rattle.group_catalog.specs.Catalogs.{groups_in}
use Rattle.cache_tier.specs.Definitions.{definition_broken}
use Rattle.cache_tier.specs.Groups.{definitions_of}
use Rattle.cache_tier.specs.Order.{refusal}
use Rattle.cache_tier.specs.TierStates.{Session as OneSession, Tier as AbstractTier}
use Rattle.stored_tier.specs.Stored.{HasSession, IsStoredAs}
use Rattle.group_engine.proofs.CalmLaws.{own_here}
use Rattle.group_engine.proofs.DefiningLaws.{create_refusal}
use Rattle.group_engine.proofs.defining.judge_definition.Goals as goal

pub returns-in-Err-clause-told : goal.returns-in-Err-clause-told
returns-in-Err-clause-told c = λ a s is has. subst (λ o. IsRefusedBy o c.in-Err.refused) (sym (rule a s is has)) c.in-Err.ensures.told
  where
    rule : (a : AbstractTier) (s : OneSession) → IsStoredAs c.args.tier.now a → HasSession c.args.tier.now c.args.id s
        → refusal a s (statement.CreateGroup c.args.declared) ≡ definition_broken c.args.tier.now.schema (definitions_of (groups_in c.args.tier.now.catalog)) (not c.is_empty-has_writes.result) c.args.declared
    rule a s is has =
        create_refusal c.args.tier.now a s c.args.declared c.ops.result.now is (c.ops.ensures ∙ own_here c.label_law.ensures.number c.args.tier.now c.args.id s c.requires has)
        ∙ ap (λ b. definition_broken c.args.tier.now.schema (definitions_of (groups_in c.args.tier.now.catalog)) (not b) c.args.declared) (sym c.is_empty-has_writes.ensures)

pub returns-else-not-is_free-clause-told : goal.returns-else-not-is_free-clause-told
returns-else-not-is_free-clause-told c = λ a s is has. (
    create_refusal c.args.tier.now a s c.args.declared c.ops.result.now is (c.ops.ensures ∙ own_here c.label_law.ensures.number c.args.tier.now c.args.id s c.requires has)
    ∙ ap (λ b. definition_broken c.args.tier.now.schema (definitions_of (groups_in c.args.tier.now.catalog)) (not b) c.args.declared) (sym c.is_empty-has_writes.ensures)
    ∙ c.in-Ok.ensures.told)
