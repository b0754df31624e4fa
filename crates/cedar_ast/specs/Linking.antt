-- Linking a template: its slots replaced by uids (Cedar language reference, policy templates; cedar-spec, Lean:
-- Template.link?).
use Rattle.std.specs.Prelude.{◌≡◌, ◌⊎◌, ℕ, Bool, true, false, List, Option, Some, option_map, option_and_then, IsSome, IsNone, IsTrue, Contains}
use Rattle.cedar_value.specs.declared.uid.Uid.{Uid}
use Rattle.cedar_ast.specs.declared.scope.EntityScope.{EntityScope}
use Rattle.cedar_ast.specs.declared.scope.EntityScope.TheVariants as entity
use Rattle.cedar_ast.specs.declared.scope.Scope.{Scope}
use Rattle.cedar_ast.specs.declared.entity_reference.EntityReference.{EntityReference}
use Rattle.cedar_ast.specs.declared.entity_reference.EntityReference.TheVariants.{Entity, Slot}
use Rattle.cedar_ast.specs.declared.slots.Slots.{Slots}
use Rattle.cedar_ast.specs.declared.statement.Statement.TheVariants as statement
use Rattle.cedar_ast.specs.PolicyTree.{PolicyTree, TemplateTree}
use Rattle.cedar_ast.specs.PolicySetTree.{PolicySetTree, entered}

-- The entity that a reference denotes: the one that it names, or for a slot the uid that is given for it, if one is (Cedar
-- language reference, policy templates; cedar-spec, Lean: EntityUIDOrSlot.link?).
abbrev pub entity_of : EntityReference → Option Uid → Option Uid
entity_of (Entity u) given = Some u
entity_of Slot given = given

-- What a template's scope requires of the principal or the resource once its slot is replaced by what is given, if it has none
-- or something is given (Cedar language reference, policy templates; cedar-spec, Lean: ScopeTemplate.link?).
abbrev pub entity_scope_linked : EntityScope EntityReference → Option Uid → Option (EntityScope Uid)
entity_scope_linked entity.Any given = Some entity.Any
entity_scope_linked (entity.Equal r) given = option_map entity.Equal (entity_of r given)
entity_scope_linked (entity.In r) given = option_map entity.In (entity_of r given)
entity_scope_linked (entity.Is ty) given = Some (entity.Is ty)
entity_scope_linked (entity.IsIn ty r) given = option_map (entity.IsIn ty) (entity_of r given)

-- A template's scope with both its slots replaced, if a uid is given for each slot that it has (Cedar language reference,
-- policy templates; cedar-spec, Lean: PrincipalScopeTemplate.link?, ResourceScopeTemplate.link?).
abbrev pub scope_linked : Scope EntityReference Uid → Slots → Option (Scope Uid Uid)
scope_linked t slots =
    option_and_then (λ p. option_map (λ r. record { principal = p; action = t.action; resource = r })
    (entity_scope_linked t.resource slots.resource))
    (entity_scope_linked t.principal slots.principal)

-- The link of a template: the policy with the link's id that is the template with each slot replaced by its uid, if a uid is
-- given for each (Cedar language reference, policy templates; cedar-spec, Lean: Template.link?).
abbrev pub link_of : TemplateTree → List ℕ → Slots → Option PolicyTree
link_of t id slots =
    option_map (λ s. record { id = id; annotations = t.annotations; effect = t.effect; scope = s; conditions = t.conditions })
    (scope_linked t.scope slots)

-- A template of a set has this id (Cedar language reference, policy templates).
pub record IsTemplate (set : PolicySetTree) (id : List ℕ) (t : TemplateTree) : Type 0 where
  pub stands : Contains set.templates t
  pub id_is : t.id ≡ id

-- Whether a template's scope has a slot for the principal or the resource (Cedar language reference, policy templates).
abbrev pub has_slot : EntityScope EntityReference → Bool
has_slot (entity.Equal Slot) = true
has_slot (entity.In Slot) = true
has_slot (entity.IsIn ty Slot) = true
has_slot _ = false

-- Nothing is given for the slot that a scope has (Cedar language reference, policy templates).
abbrev pub IsMissing : EntityScope EntityReference → Option Uid → Type 0
IsMissing scope given = IsTrue (has_slot scope) × IsNone given

-- A uid is given for a slot that a scope does not have (Cedar language reference, policy templates).
abbrev pub IsExtra : EntityScope EntityReference → Option Uid → Type 0
IsExtra scope given = (has_slot scope ≡ false) × IsSome given

-- Nothing is given for a slot of the template (Cedar language reference, policy templates).
abbrev pub HasMissingSlot : TemplateTree → Slots → Type 0
HasMissingSlot t slots = IsMissing t.scope.principal slots.principal ⊎ IsMissing t.scope.resource slots.resource

-- A uid is given for a slot that the template does not have (Cedar language reference, policy templates).
abbrev pub HasExtraSlot : TemplateTree → Slots → Type 0
HasExtraSlot t slots = IsExtra t.scope.principal slots.principal ⊎ IsExtra t.scope.resource slots.resource

-- A policy is the link of a template of a set, in which each slot has its uid and no other uid is given (Cedar language
-- reference, policy templates).
pub record IsLinkIn (set : PolicySetTree) (template id : List ℕ) (slots : Slots) (p : PolicyTree) : Type 0 where
  pub source : TemplateTree
  pub found : IsTemplate set template source
  pub linked : link_of source id slots ≡ Some p
  pub exact : HasExtraSlot source slots → ⊥

-- A set is another with the link of one of its templates entered last (Cedar language reference, policy templates).
pub record IsLinked (old new : PolicySetTree) (template id : List ℕ) (slots : Slots) : Type 0 where
  pub policy : PolicyTree
  pub link : IsLinkIn old template id slots policy
  pub last : new ≡ entered old (statement.Policy policy)
