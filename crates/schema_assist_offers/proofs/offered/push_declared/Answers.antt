use Rattle.schema_assist_places.specs.declared.role.Role.TheVariants.{TypePath, EntityPath, ContextPath, ActionRef}
use Rattle.schema_assist_offers.specs.Homes.{question}
use Rattle.schema_assist_offers.specs.Spellings.{spelled_in}
use Rattle.schema_assist_offers.proofs.Arms.{in_role}
use Rattle.schema_assist_offers.proofs.offered.push_declared.Goals as goal

pub returns-in-TypePath : goal.returns-in-TypePath
returns-in-TypePath c = λ before h.
    in_role c.push_types.result c.args.names.now.items c.push_types.new.names.items
    (λ r. spelled_in (question c.args.asked.now) r before c.args.definition.now) c.args.role TypePath c.in-TypePath.is
    (c.push_types.ensures before h)

pub returns-in-EntityPath : goal.returns-in-EntityPath
returns-in-EntityPath c = λ before h.
    in_role c.push_entities.result c.args.names.now.items c.push_entities.new.names.items
    (λ r. spelled_in (question c.args.asked.now) r before c.args.definition.now) c.args.role EntityPath
    c.in-EntityPath.is (c.push_entities.ensures before h)

pub returns-in-ContextPath : goal.returns-in-ContextPath
returns-in-ContextPath c = λ before h.
    in_role c.push_commons.result c.args.names.now.items c.push_commons.new.names.items
    (λ r. spelled_in (question c.args.asked.now) r before c.args.definition.now) c.args.role ContextPath
    c.in-ContextPath.is (c.push_commons.ensures before h)

pub returns-in-ActionRef : goal.returns-in-ActionRef
returns-in-ActionRef c = λ before h.
    in_role c.push_actions.result c.args.names.now.items c.push_actions.new.names.items
    (λ r. spelled_in (question c.args.asked.now) r before c.args.definition.now) c.args.role ActionRef c.in-ActionRef.is
    (c.push_actions.ensures before h)
