-- The results of the parts of reading an entry.
use Rattle.std.specs.Prelude.{◌≡◌, ◌≢◌, ◌++◌, ℕ, codes, List, Contains, MatchOption}
use Rattle.serde_json.specs.Data.{Data}
use Rattle.serde_json.specs.Find.{as_array}
use Rattle.cedar_conform_values.specs.declared.conform_fault.ConformFault.{ConformFault}
use Rattle.cedar_conform_values.specs.declared.conform_fault.ConformFault.TheVariants.{OutOfMemory, DuplicateEntity, Cycle, Shape, UnknownType, BadAncestor}
use Rattle.cedar_conform_entities.specs.Denotes.{DenotesEntity, RepeatsAction}
use Rattle.cedar_conform_entities.specs.Entries.{AreUids, Writes, parents_in}
use Rattle.cedar_conform_entities.specs.Faults.{HasEntryFault}
use Rattle.cedar_conform_entities.specs.declared.entry.Entry.{Entry}
use Rattle.cedar_conform_entities.specs.declared.entry.Entry.TheVariants.{Entity, Action}
use Rattle.cedar_schema_spec.specs.Declarations.{IsEntityType}
use Rattle.cedar_schema_spec.specs.Descents.{TypeDescends}
use Rattle.cedar_schema_spec.specs.SchemaTree.{SchemaTree}
use Rattle.cedar_store.specs.Entities.{StandsTwice}
use Rattle.cedar_value.specs.World.{World, Below}
use Rattle.cedar_value.specs.declared.uid.Uid.{Uid}

-- refused when out of memory, or with 502 where there is nothing of the kind
abbrev pub Refuses : {A : Type 0} → (A → Type 0) → ConformFault → Type 0
Refuses {A} P f = f ≢ OutOfMemory → (f ≡ Shape) × ((x : A) → ¬ P x)

-- the parents that an entry writes
abbrev pub AreParentsOf : Data → List Uid → Type 0
AreParentsOf d us = MatchOption (as_array (parents_in d)) ⊥ (λ ds. AreUids ds us)

-- it writes a uid and parents
abbrev pub IsNoEntry : Data → ConformFault → Type 0
IsNoEntry d f = f ≢ OutOfMemory → (f ≡ Shape) × ((u : Uid) (parents : List Uid) → ¬ Writes d u parents)

-- a parent of a declared type from which the type descends
abbrev pub IsGoodParent : SchemaTree → Uid → Uid → Type 0
IsGoodParent s u p = IsEntityType s p.ty × TypeDescends s u.ty p.ty

-- what the schema has against a parent
pub data HasParentsFault (s : SchemaTree) (u : Uid) (parents : List Uid) : ConformFault → Type 0 where
  undeclared_parent : {p : Uid} → Contains parents p → ¬ IsEntityType s p.ty → HasParentsFault s u parents UnknownType
  no_descent : {p : Uid} → Contains parents p → ¬ TypeDescends s u.ty p.ty → HasParentsFault s u parents BadAncestor

-- what an entry that has been read denotes
abbrev pub IsEntry : SchemaTree → Data → Entry → Type 0
IsEntry s d (Entity e) = DenotesEntity s d e
IsEntry s d (Action u) = (parents : List Uid) × RepeatsAction s d u parents

-- a refusal of an entry
abbrev pub RefusesEntry : SchemaTree → Data → ConformFault → Type 0
RefusesEntry s d f = f ≢ OutOfMemory → HasEntryFault s d f

-- a refusal of a store
abbrev pub HasStoreFault : World → ConformFault → Type 0
HasStoreFault w OutOfMemory = Unit {0}
HasStoreFault w (DuplicateEntity u) = StandsTwice w u
HasStoreFault w (Cycle u) = Below w u u
HasStoreFault w _ = ⊥

-- the text is that of a name in a namespace whose last part is `Action`
abbrev pub EndsInAction : List ℕ → Type 0
EndsInAction n = (front : List ℕ) × (n ≡ front ++ codes "::Action")
