-- From what has been read to the world of the bytes.
use Rattle.std.proofs.Common.{◌≡◌, inl, inr, ⊎_elim, List, ℕ, Option, Some, None, option_map, option_and_then, Result, Ok, Err, MatchResult, IfOk, IfErr, OnOk, refl, sym, ap, subst, ◌∙◌}
use Rattle.std.specs.List.Sorted.{IsStrictlySortedBy}
use Rattle.std.specs.Map.{keys_of}
use Rattle.serde_json.specs.Data.{Data, Items, array}
use Rattle.serde_json.specs.Find.{as_array}
use Rattle.cedar_conform_values.specs.declared.conform_fault.ConformFault.{ConformFault}
use Rattle.cedar_conform_values.specs.declared.conform_fault.ConformFault.TheVariants.{OutOfMemory, DuplicateEntity, Cycle, Shape}
use Rattle.cedar_conform_entities.specs.Bytes.{BytesDenote, BytesHaveFault}
use Rattle.cedar_conform_entities.specs.Denotes.{DenotedWorldsConform}
use Rattle.cedar_conform_entities.specs.Faults.{HasFault}
use Rattle.cedar_conform_entities.specs.Faults as fault
use Rattle.cedar_conform_entities.specs.Private.Coming.{IsComingRead, RefusesComing}
use Rattle.cedar_conform_entities.specs.Private.Parts.{HasStoreFault}
use Rattle.cedar_conform_entities.specs.Private.Progress.{AreRead, IsRead, HasListFault, of_entry, written_twice}
use Rattle.cedar_conform_entities.proofs.Repeats.{plain, distinct_entries, repeated_entries}
use Rattle.base_json.specs.JsonTree.{json_of}
use Rattle.cedar_schema_spec.specs.Conformance.{Conforms}
use Rattle.cedar_schema_spec.specs.Declarations.{action_entities}
use Rattle.cedar_schema_spec.specs.SchemaTree.{SchemaTree}
use Rattle.cedar_schema_spec.specs.WellFormed.{AreTypesApart, IsHierarchy}
use Rattle.cedar_store.specs.Entities.{AreUidsDistinct, IsAcyclic, StandsTwice}
use Rattle.cedar_value.specs.Order.{uid_cmp}
use Rattle.cedar_value.specs.World.{World, Below}

list_fault : (s : SchemaTree) (d : Data) (ds : Items) (f : ConformFault) → as_array d ≡ Some ds → HasListFault s ds f → HasFault s d f
list_fault s d ds f list (of_entry m h) = fault.of_entry list m h
list_fault s d ds f list (written_twice h) = fault.written_twice list h

module _ (s : SchemaTree) (bytes : List ℕ) (all : Option Items) (is : json_of bytes ≡ option_map array all) where
  pub coming_fault : (f : ConformFault) → RefusesComing s all f → (f ≡ OutOfMemory → ⊥) → BytesHaveFault s bytes f
  coming_fault f h other =
      ⊎_elim (λ a. inl (a.0, is ∙ ap (option_map array) a.1)) (λ b. inr (array b.0, is ∙ ap (option_map array) b.1, list_fault s (array b.0) b.0 f refl b.2)) (h other)

  pub coming_read : (first w : World) → first ≡ action_entities s → IsComingRead s first all w → AreRead s bytes w
  coming_read first w actions h = record {
    json = array h.0;
    is_json = is ∙ ap (option_map array) h.1;
    entries = h.0;
    list = refl;
    read = subst (λ (v : World). IsRead s v h.0 w) actions h.2;
  }

module _ (s : SchemaTree) (bytes : List ℕ) (w : World) (apart : AreTypesApart s) (read : AreRead s bytes w) where
  pub bytes_denote : AreUidsDistinct w → IsAcyclic w → BytesDenote s bytes w
  bytes_denote distinct acyclic =
      let r = read.read in (
        read.json,
        read.is_json,
        record {
          entries = read.entries;
          list = read.list;
          entities = r.entities;
          denoted = plain r.denoted;
          distinct = distinct_entries s apart r.denoted r.once (subst AreUidsDistinct r.is distinct);
          acyclic = acyclic;
          is = r.is;
        },
      )

  pub store_refused : IsStrictlySortedBy uid_cmp (keys_of s.actions) → (f : ConformFault) → HasStoreFault w f → (f ≡ OutOfMemory → ⊥) → BytesHaveFault s bytes f
  store_refused up OutOfMemory h other = absurd (other refl)
  store_refused up (DuplicateEntity u) h other = let r = read.read in inr (read.json, read.is_json, fault.written_twice read.list (repeated_entries s apart up r.denoted u (subst (λ (v : World). StandsTwice v u) r.is h)))
  store_refused up (Cycle u) h other = let r = read.read in inr (read.json, read.is_json, fault.below_itself read.list (plain r.denoted) (subst (λ (v : World). Below v u u) r.is h))
  store_refused up _ h other = absurd h

pub bytes_conform : (s : SchemaTree) (bytes : List ℕ) (w : World) → DenotedWorldsConform → AreTypesApart s → IsHierarchy s → BytesDenote s bytes w → Conforms s w
bytes_conform s bytes w law apart hierarchy h = law s h.0 w apart hierarchy h.2

-- ---- the answers of the code

none_of : (o : Option Data) (d : Data) → option_and_then as_array o ≡ None → o ≡ Some d → as_array d ≡ None
none_of o d h e = sym (ap (option_and_then as_array) e) ∙ h

pub no_list_refused : (s : SchemaTree) (bytes : List ℕ) (d : Data) → Some d ≡ json_of bytes → option_and_then as_array (json_of bytes) ≡ None → BytesHaveFault s bytes Shape
no_list_refused s bytes d is h = inr (d, sym is, fault.no_list (none_of (json_of bytes) d h (sym is)))

module _ (s : SchemaTree) (bytes : List ℕ) where
  pub list_answers : {V : Type 0} (items : V → World) (first : World) (all : Option Items) (result : Result V ConformFault) → json_of bytes ≡ option_map array all → first ≡ action_entities s
      → MatchResult result (λ v. IsComingRead s first all (items v)) (RefusesComing s all) → MatchResult result (λ v. AreRead s bytes (items v)) (λ f. (f ≡ OutOfMemory → ⊥) → BytesHaveFault s bytes f)
  list_answers items first all (Ok v) is actions h = coming_read s bytes all is first (items v) actions h
  list_answers items first all (Err f) is actions h = coming_fault s bytes all is f h

  module _ (w : World) (apart : AreTypesApart s) (read : AreRead s bytes w) where
    pub store_denoted : (result : Result World ConformFault) → IfOk result (λ v. v ≡ w) → OnOk result (AreUidsDistinct w) → OnOk result (IsAcyclic w) → IfOk result (BytesDenote s bytes)
    store_denoted (Ok v) is distinct acyclic = subst (BytesDenote s bytes) (sym is) (bytes_denote s bytes w apart read distinct acyclic)
    store_denoted (Err f) is distinct acyclic = tt

    pub store_conforms : DenotedWorldsConform → IsHierarchy s → (result : Result World ConformFault) → IfOk result (BytesDenote s bytes) → IfOk result (Conforms s)
    store_conforms law hierarchy (Ok v) h = bytes_conform s bytes v law apart hierarchy h
    store_conforms law hierarchy (Err f) h = tt

    pub store_answers : IsStrictlySortedBy uid_cmp (keys_of s.actions) → (result : Result World ConformFault) → IfErr result (HasStoreFault w) → IfErr result (λ f. (f ≡ OutOfMemory → ⊥) → BytesHaveFault s bytes f)
    store_answers up (Ok v) h = tt
    store_answers up (Err f) h = store_refused s bytes w apart read up f h
