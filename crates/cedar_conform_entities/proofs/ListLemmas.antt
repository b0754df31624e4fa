-- How the reading of a list goes on.
use Rattle.std.proofs.Common.{◌≡◌, ◌↔◌, suc, IsTrue, Bool, true, false, cond, inl, inr, ⊎_elim, List, [], ◌∷◌, ◌++◌, Contains, refl, sym, ap, subst, ◌∙◌, append_assoc, append-nil}
use Rattle.std.specs.BTreeMap.{is_at}
use Rattle.std.specs.BTreeSet.{BTreeSet, contains, IsEmpty, Updates}
use Rattle.std.specs.List.{list_any}
use Rattle.serde_json.specs.Data.{Data, Items, no_items, item}
use Rattle.base_reach.proofs.Listed.{here, nowhere}
use Rattle.cedar_conform_values.specs.declared.conform_fault.ConformFault.{ConformFault}
use Rattle.cedar_conform_entities.specs.Denotes.{DenotesEntity, RepeatsAction}
use Rattle.cedar_conform_entities.specs.Entries.{IsUidOf, SomeWrites, TwoWrite}
use Rattle.cedar_conform_entities.specs.Private.Parts.{IsEntry}
use Rattle.cedar_conform_entities.specs.Private.Progress.{DenoteAll, nothing, entity_first, action_first, Twice, IsItem, Progress, IsRead, HasListFault, written_twice, RefusesList, Entered, IsToldTwice, RefusesTwice}
use Rattle.cedar_conform_entities.specs.declared.entry.Entry.{Entry}
use Rattle.cedar_conform_entities.specs.declared.entry.Entry.TheVariants.{Entity, Action}
use Rattle.cedar_conform_entities.proofs.TwiceLemmas.{either_of, left_of, right_of, only, twice_split, uid_tie}
use Rattle.cedar_schema_spec.specs.SchemaTree.{SchemaTree}
use Rattle.cedar_value.specs.Order.{uid_cmp}
use Rattle.cedar_value.specs.World.{World, EntityTree}
use Rattle.cedar_value.specs.declared.uid.Uid.{Uid}

none_in : (told : BTreeSet Uid) → IsEmpty told → (u : Uid) → contains uid_cmp told u ≡ false
none_in told e u = ap (list_any (is_at (uid_cmp u))) e

module _ (s : SchemaTree) (first : World) (all : Items) where
  pub start : (told : BTreeSet Uid) → IsEmpty told → Progress s first all all first told
  start told e = record {
    entities = [];
    is = sym (append-nil first);
    actions = [];
    denoted = λ fs vs h. h;
    among = λ d h. h;
    later = λ u h. h;
    again = λ u m h. absurd (nowhere u m);
    once = λ u t. t;
    are_told = λ u. ((λ h. let no_more : true ≡ false = sym h ∙ none_in told e u in absurd (cc)), (λ m. absurd (nowhere u m)));
  }

  pub end : (w : World) (told : BTreeSet Uid) → Progress s first all no_items w told → IsRead s first all w
  end w told p = record {
    entities = p.entities;
    is = p.is;
    actions = p.actions;
    denoted = subst (λ us. DenoteAll s all p.entities us) (append-nil p.actions) (subst (λ es. DenoteAll s all es (p.actions ++ [])) (append-nil p.entities) (p.denoted [] [] nothing));
    once = p.once;
  }

  module _ (d : Data) (rest : Items) (w w' : World) (told told' : BTreeSet Uid) (p : Progress s first all (item d rest) w told) where
    among_rest : (x : Data) → IsItem rest x → IsItem all x
    among_rest x h = p.among x (suc h.0, h.1)

    entity_more : (e : EntityTree) → DenotesEntity s d e → w' ≡ w ++ e ∷ [] → told' ≡ told → Progress s first all rest w' told'
    entity_more e one new same = record {
      entities = p.entities ++ e ∷ [];
      is = new ∙ ap (λ xs. xs ++ e ∷ []) p.is ∙ append_assoc first p.entities (e ∷ []);
      actions = p.actions;
      denoted = λ fs vs h. subst (λ xs. DenoteAll s all xs (p.actions ++ vs)) (sym (append_assoc p.entities (e ∷ []) fs)) (p.denoted (e ∷ fs) vs (entity_first one h));
      among = among_rest;
      later = λ u t. p.later u (inr t);
      again = λ u m h. p.again u m (inr h);
      once = p.once;
      are_told = subst (λ (t : BTreeSet Uid). (u : Uid) → IsTrue (contains uid_cmp t u) ↔ Contains p.actions u) (sym same) p.are_told;
    }

    module _ (u : Uid) (parents : List Uid) (one : RepeatsAction s d u parents) where
      pub told_twice : contains uid_cmp told u ≡ true → TwoWrite all u
      told_twice h = p.again u ((p.are_told u).0 h) (inl one.written.uid)

      again_more : (v : Uid) → Contains (p.actions ++ u ∷ []) v → SomeWrites rest v → TwoWrite all v
      again_more v m h = ⊎_elim (λ l. p.again v l (inr h)) (λ r. p.later v (inl (subst (IsUidOf d) (only u v r) one.written.uid, h))) (either_of p.actions (u ∷ []) v m)

      module _ (new : contains uid_cmp told u ≡ false) where
        not_there : (v : Uid) → Contains p.actions v → u ≡ v → ⊥
        not_there v m e = let there_is : contains uid_cmp told u ≡ true = (p.are_told u).1 (subst (Contains p.actions) (sym e) m) in let no_more : true ≡ false = sym there_is ∙ new in cc

        once_more : (v : Uid) → Twice (p.actions ++ u ∷ []) v → ⊥
        once_more v t =
            ⊎_elim (λ a. p.once v a) (λ more. ⊎_elim (λ both. not_there v both.0 (only u v both.1)) (λ b. ⊎_elim (λ x. nowhere v x.1) (λ x. x) b) more) (twice_split p.actions (u ∷ []) v t)

        told_case : (v : Uid) (b : Bool) → is_at (uid_cmp u) v ≡ b → contains uid_cmp told' v ≡ cond b true (contains uid_cmp told v) → IsTrue (contains uid_cmp told' v) ↔ Contains (p.actions ++ u ∷ []) v
        told_case v true tie now = ((λ h. right_of p.actions (u ∷ []) v (subst (Contains (u ∷ [])) ((uid_tie u v).0 tie) (here u []))), (λ m. now))
        told_case v false tie now = (
          (λ h. left_of p.actions (u ∷ []) v ((p.are_told v).0 (sym now ∙ h))),
          (λ m. ⊎_elim (λ l. now ∙ (p.are_told v).1 l) (λ r. let no_more : true ≡ false = sym ((uid_tie u v).1 (only u v r)) ∙ tie in cc) (either_of p.actions (u ∷ []) v m)),
        )

        action_more : w' ≡ w → Updates uid_cmp told told' u true → Progress s first all rest w' told'
        action_more same updates = record {
          entities = p.entities;
          is = same ∙ p.is;
          actions = p.actions ++ u ∷ [];
          denoted = λ fs vs h. subst (λ us. DenoteAll s all (p.entities ++ fs) us) (sym (append_assoc p.actions (u ∷ []) vs)) (p.denoted fs (u ∷ vs) (action_first one h));
          among = among_rest;
          later = λ v t. p.later v (inr t);
          again = again_more;
          once = once_more;
          are_told = λ v. told_case v (is_at (uid_cmp u) v) refl (updates.0 v);
        }

    pub entered : (entry : Entry) → IsEntry s d entry → Entered entry w w' told told' → Progress s first all rest w' told'
    entered (Entity e) one h = entity_more e one h.0 h.1
    entered (Action u) one h = action_more u one.0 one.1 h.1 h.0 h.2

  module _ (d : Data) (rest : Items) (w : World) (told : BTreeSet Uid) (p : Progress s first all (item d rest) w told) where
    twice_fault : (f : ConformFault) (entry : Entry) → IsEntry s d entry → IsToldTwice entry told f → HasListFault s all f
    twice_fault f (Entity e) one h = absurd h
    twice_fault f (Action u) one h = subst (HasListFault s all) (sym h.0) (written_twice (told_twice d rest w w told told p u one.0 one.1 h.1))

    pub twice_refused : (f : ConformFault) (entry : Entry) → IsEntry s d entry → RefusesTwice entry told f → RefusesList s all f
    twice_refused f entry one h other = twice_fault f entry one (h other)
