-- What a search among environments has found so far.
use Rattle.std.specs.Prelude.{◌≡◌, ◌≤◌, ℕ, List, length}
use Rattle.std.specs.List.{AllWithin}
use Rattle.std.specs.Ordering.{ordering_then}
use Rattle.std.specs.declared.cmp.Ordering.{Ordering}
use Rattle.std.specs.declared.cmp.Ordering.TheVariants.{Less, Greater}
use Rattle.cedar_value.specs.Order.{text_cmp, uid_cmp}
use Rattle.cedar_value.specs.declared.uid.Uid.{Uid}
use Rattle.cedar_schema_spec.specs.declared.environment.Environment.{Environment}

-- the order of an environment and of one with this action and these types
abbrev pub order_to : Uid → List ℕ → List ℕ → Environment → Ordering
order_to u p r env = ordering_then (uid_cmp env.action u) (ordering_then (text_cmp env.principal p) (text_cmp env.resource r))

-- the environments before the one place are below, and those from the other on are above
pub record AreNarrowed (environments : List Environment) (u : Uid) (p r : List ℕ) (low high : ℕ) : Type 0 where
  pub order : low ≤ high
  pub within : high ≤ length environments
  pub below : AllWithin (λ env. order_to u p r env ≡ Less) environments 0 low
  pub above : AllWithin (λ env. order_to u p r env ≡ Greater) environments high (length environments)
