-- What a store keeps of no changes.
use Rattle.std.proofs.Common.{◌≡◌, inr, ⊎_elim, ℕ, true, false, List, [], Option, Some, None, refl, sym, ap, subst, ◌∙◌, IsTrue}
use Rattle.base_reach.proofs.Chains.{first_link}
use Rattle.base_reach.proofs.Listed.{nowhere}
use Rattle.base_search.specs.Numbered.{bit_told}
use Rattle.base_search.proofs.Finding.{no_bit}
use Rattle.cedar_value.specs.World.{World, parents_of}
use Rattle.cedar_value.specs.declared.uid.Uid.{Uid}
use Rattle.cedar_store.specs.Entities.{IsAcyclic}
use Rattle.cedar_store.specs.Faults.{IsThere}
use Rattle.cedar_store.specs.Private.Based.{BaseTree}
use Rattle.cedar_store.specs.Private.Changing.{ChangeTree}
use Rattle.cedar_store.specs.Private.Kept.{in_row, number_in}
use Rattle.cedar_store.specs.Private.Overlaid.{IsNoted, IsOverlaid, IsSettled}
use Rattle.cedar_store.specs.declared.store_fault.StoreFault.{StoreFault}
use Rattle.cedar_store.specs.declared.store_fault.StoreFault.TheVariants.{OutOfMemory, DuplicateEntity, Cycle}
use Rattle.cedar_store.proofs.Overlaid.{world_over-none}

told_nothing : (o : Option ℕ) → bit_told [] o ≡ false
told_nothing None = refl
told_nothing (Some n) = no_bit n

no_mark : (keys : List Uid) (u : Uid) → IsTrue (in_row keys [] u) → ⊥
no_mark keys u there = let none = told_nothing (number_in keys u) in let both : true ≡ false = sym there ∙ none in cc

no_entity : (u : Uid) → IsSettled [] u → ⊥
no_entity u there = cc

no_note : (p : Uid) → IsNoted [] p → ⊥
no_note p note = cc

overlaid_empty : (b : BaseTree) → IsAcyclic b.world → IsOverlaid b [] [] [] []
overlaid_empty b acyclic = record {
  acyclic = subst IsAcyclic (sym (world_over-none b.world [] refl)) acyclic;
  marked = λ u number. inr (ap (λ w. parents_of w u) (world_over-none b.world [] refl));
  settled = λ u v there. absurd (no_entity u there);
  parents = λ u p e there m. absurd (cc);
  noted = λ p note. absurd (no_note p note);
  below_marked = λ p number marked. absurd (⊎_elim (λ m. no_mark b.keys p m) (λ h. no_mark b.keys h.0 h.1) marked);
}

pub overlaid_none : (b : BaseTree) (cs : List ChangeTree) (marks : List ℕ) (part : World) (notes : List ChangeTree) → cs ≡ [] → marks ≡ [] → part ≡ [] → notes ≡ [] → IsAcyclic b.world → IsOverlaid b cs marks part notes
overlaid_none b cs marks part notes no_changes no_marks no_part no_notes acyclic = rw (no_changes, no_marks, no_part, no_notes) (overlaid_empty b acyclic)

-- ---- faults of no entities

no_fault_there : (w : World) (f : StoreFault) → IsThere [] f → IsThere w f
no_fault_there w OutOfMemory there = there
no_fault_there w (DuplicateEntity u) there = absurd (let at = there.3 in cc)
no_fault_there w (Cycle u) there = absurd (nowhere (first_link there).0 (first_link there).1)

pub no_fault : (es w : World) → es ≡ [] → (f : StoreFault) → IsThere es f → IsThere w f
no_fault es w none f there = no_fault_there w f (subst (λ (x : World). IsThere x f) none there)
