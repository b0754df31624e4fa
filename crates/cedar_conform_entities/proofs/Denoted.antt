-- A world that a JSON denotes conforms.
use Rattle.std.proofs.Common.{⊎_elim, Contains, sym, subst}
use Rattle.serde_json.specs.Data.{Data, Items}
use Rattle.base_reach.proofs.Listed.{first_or_later, nowhere}
use Rattle.cedar_conform_values.specs.Belonging.{ReadValuesBelong}
use Rattle.cedar_conform_entities.specs.Denotes.{DenotesEntity, DenoteEntities, no_entries, an_entity, an_action, DenotedWorldsConform}
use Rattle.cedar_conform_entities.specs.Entries.{attributes_in}
use Rattle.cedar_conform_entities.specs.Worlds.{IsSound, SoundEntitiesConform}
use Rattle.cedar_schema_spec.specs.Conformance.{Conforms}
use Rattle.cedar_schema_spec.specs.SchemaTree.{SchemaTree}
use Rattle.cedar_schema_types.specs.Membership.{Member}
use Rattle.cedar_value.specs.World.{World, EntityTree}

module _ (belong : ReadValuesBelong) where
  sound_entity : (s : SchemaTree) (d : Data) (e : EntityTree) → DenotesEntity s d e → IsSound s e
  sound_entity s d e h = record {
    shape = h.read.shape;
    declared = h.read.declared;
    attributes = subst (Member h.read.shape) (sym h.read.attributes) (belong h.read.shape (attributes_in d) h.read.fine);
    parents = h.read.parents;
    listed = h.listed;
  }

  -- what a list of entries denotes is sound
  pub all_sound : (s : SchemaTree) {ds : Items} {es : World} → DenoteEntities s ds es → (e : EntityTree) → Contains es e → IsSound s e
  all_sound s no_entries e m = absurd (nowhere e m)
  all_sound s (an_entity {d = d} {e = x} {es = es} h more) e m = ⊎_elim (λ same. subst (IsSound s) same (sound_entity s d x h)) (λ r. all_sound s more e r) (first_or_later x es e m)
  all_sound s (an_action h more) e m = all_sound s more e m

  pub denoted_worlds_conform : SoundEntitiesConform → DenotedWorldsConform
  denoted_worlds_conform sound s d w apart hierarchy h = subst (Conforms s) (sym h.is) (sound s h.entities apart hierarchy (all_sound s h.denoted))
