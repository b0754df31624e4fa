-- How the reading of a list goes on whose items are still to come.
use Rattle.std.proofs.Common.{◌≡◌, inl, inr, ⊎_elim, Option, Some, None, option_map, refl, sym, ap, subst, ◌∙◌}
use Rattle.std.specs.BTreeSet.{BTreeSet, IsEmpty}
use Rattle.serde_json.specs.Data.{Data, Items, no_items, item}
use Rattle.cedar_conform_values.specs.declared.conform_fault.ConformFault.{ConformFault}
use Rattle.cedar_conform_values.specs.declared.conform_fault.ConformFault.TheVariants.{OutOfMemory}
use Rattle.cedar_conform_entities.specs.Private.Coming.{ComesFirst, IsToldAfter, RefusesComing, IsComingRead, ComingProgress}
use Rattle.cedar_conform_entities.specs.Private.Parts.{RefusesEntry}
use Rattle.cedar_conform_entities.specs.Private.Progress.{HasListFault, of_entry, written_twice, Entered, RefusesTwice}
use Rattle.cedar_conform_entities.specs.declared.entry.Entry.{Entry}
use Rattle.cedar_conform_entities.proofs.ListLemmas.{start, end, entered, twice_refused}
use Rattle.cedar_schema_spec.specs.SchemaTree.{SchemaTree}
use Rattle.cedar_value.specs.World.{World}
use Rattle.cedar_value.specs.declared.uid.Uid.{Uid}

mapped_same : (o : Option Items) → o ≡ option_map (λ ds. ds) o
mapped_same None = refl
mapped_same (Some ds) = refl

mapped_twice : (f g : Items → Items) (o : Option Items) → option_map f (option_map g o) ≡ option_map (λ ds. f (g ds)) o
mapped_twice f g None = refl
mapped_twice f g (Some ds) = refl

-- ---- an entry

pub first_refused : (s : SchemaTree) (d : Data) (all rest : Option Items) (f told : ConformFault) → all ≡ option_map (item d) rest → RefusesEntry s d f → IsToldAfter rest f told → RefusesComing s all told
first_refused s d all rest f told is h after other =
    ⊎_elim (λ a. inl (a.0, is ∙ ap (option_map (item d)) a.1))
    (λ b. inr (item d b.1, is ∙ ap (option_map (item d)) b.2, subst (HasListFault s (item d b.1)) (sym b.0) (of_entry (0, refl) (h (subst (λ (g : ConformFault). g ≡ OutOfMemory → ⊥) b.0 other)))))
    (after other)

-- ---- the list

module _ (s : SchemaTree) (first : World) (all : Option Items) where
  pub coming_start : (told : BTreeSet Uid) → IsEmpty told → ComingProgress s first all all first told
  coming_start told e = record { behind_read = λ ds. ds; is_all = mapped_same all; progress = λ ds. start s first ds told e }

  pub coming_as : (rest more : Option Items) (w : World) (told : BTreeSet Uid) → rest ≡ more → ComingProgress s first all rest w told → ComingProgress s first all more w told
  coming_as rest more w told e p = subst (λ (o : Option Items). ComingProgress s first all o w told) e p

  module _ (rest : Option Items) (w : World) (told : BTreeSet Uid) (p : ComingProgress s first all rest w told) where
    pub coming_end : rest ≡ Some no_items → IsComingRead s first all w
    coming_end e = (p.behind_read no_items, p.is_all ∙ ap (option_map p.behind_read) e, end s first (p.behind_read no_items) w told (p.progress no_items))

    fault_among : (ds : Items) (f : ConformFault) → HasListFault s ds f → HasListFault s (p.behind_read ds) f
    fault_among ds f (of_entry m h) = of_entry ((p.progress ds).among _ m) h
    fault_among ds f (written_twice h) = written_twice ((p.progress ds).later _ h)

    pub coming_refused : (f : ConformFault) → RefusesComing s rest f → RefusesComing s all f
    coming_refused f h other =
        ⊎_elim (λ a. inl (a.0, p.is_all ∙ ap (option_map p.behind_read) a.1)) (λ b. inr (p.behind_read b.0, p.is_all ∙ ap (option_map p.behind_read) b.1, fault_among b.0 f b.2)) (h other)

    module _ (more : Option Items) (entry : Entry) (one : ComesFirst s rest more entry) where
      pub coming_entered : (w' : World) (told' : BTreeSet Uid) → Entered entry w w' told told' → ComingProgress s first all more w' told'
      coming_entered w' told' h = record {
        behind_read = λ ds. p.behind_read (item one.0 ds);
        is_all = p.is_all ∙ ap (option_map p.behind_read) one.2 ∙ mapped_twice p.behind_read (item one.0) more;
        progress = λ ds. entered s first (p.behind_read (item one.0 ds)) one.0 ds w w' told told' (p.progress (item one.0 ds)) entry one.1 h;
      }

      at_more : (ds : Items) → more ≡ Some ds → all ≡ Some (p.behind_read (item one.0 ds))
      at_more ds e = p.is_all ∙ ap (option_map p.behind_read) (one.2 ∙ ap (option_map (item one.0)) e)

      pub coming_twice_refused : (f g : ConformFault) → RefusesTwice entry told f → IsToldAfter more f g → RefusesComing s all g
      coming_twice_refused f g h after other =
          ⊎_elim (λ a. inl (a.0, p.is_all ∙ ap (option_map p.behind_read) (one.2 ∙ ap (option_map (item one.0)) a.1)))
          (λ b. inr (
            p.behind_read (item one.0 b.1),
            at_more b.1 b.2,
            subst (HasListFault s (p.behind_read (item one.0 b.1))) (sym b.0) (twice_refused s first (p.behind_read (item one.0 b.1)) one.0 b.1 w told (p.progress (item one.0 b.1)) f entry one.1 h (subst (λ (x : ConformFault). x ≡ OutOfMemory → ⊥) b.0 other)),
          ))
          (after other)
