-- What refuses CREATE TABLE over what is stored.
use Rattle.std.proofs.Common.{◌≡◌, Option, Some, None, refl, sym, ap, ◌∙◌, cond}
use Rattle.std.specs.Option.{option_map, option_or}
use Rattle.tier_base.specs.declared.code.Code.TheVariants as code
use Rattle.row_types.specs.declared.declaration.TableDeclaration.{TableDeclaration}
use Rattle.table_defs.specs.Declarations.{broken_at, fault_of, limit_of, resolved}
use Rattle.table_defs.specs.declared.definition.ForeignKey.{ForeignKey}
use Rattle.cache_tier.specs.ConsoleSteps.{refers_to_writethrough, table_fault}
use Rattle.cache_tier.specs.Groups.{is_table_of, is_writethrough}
use Rattle.cache_tier.specs.Rules.{past}
use Rattle.cache_tier.specs.TierStates.{Tier}
use Rattle.stored_tier.specs.declared.tier.Tier.{Tier as Stored}
use Rattle.stored_tier.specs.Stored.{IsStoredAs}
use Rattle.cache_engine.specs.Tabling.{has_cached_parent, stored_table_fault}
use Rattle.cache_engine.proofs.WritingLaws.{written_seen}

parent_seen : (t : Stored) (a : Tier) (foreign : Option ForeignKey) → IsStoredAs t a → has_cached_parent t foreign ≡ refers_to_writethrough a foreign
parent_seen t a None is = refl
parent_seen t a (Some foreign) is = ap (λ gs. is_table_of is_writethrough gs foreign.parent) (sym is.groups) ∙ written_seen a.groups foreign.parent

pub table_fault_seen : (t : Stored) (a : Tier) (d : TableDeclaration) → IsStoredAs t a → stored_table_fault t d ≡ table_fault a d
table_fault_seen t a d is =
    ap (λ b. option_or (fault_of d t.schema) (option_or (cond b (broken_at code.WritethroughTable (option_map (λ f. f.parent) d.foreign_key)) None) (option_map past (limit_of (resolved d t.schema) t.schema))))
    (parent_seen t a (resolved d t.schema).foreign_key is)
    ∙ ap (λ schema. option_or (fault_of d schema) (option_or (cond (refers_to_writethrough a (resolved d schema).foreign_key) (broken_at code.WritethroughTable (option_map (λ f. f.parent) d.foreign_key)) None) (option_map past (limit_of (resolved d schema) schema))))
    (sym is.schema)
