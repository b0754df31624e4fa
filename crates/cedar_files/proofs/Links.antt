-- Lemmas on links.
use Rattle.std.proofs.Common.{◌≡◌, ◌≢◌, ℕ, List, ◌∷◌, Result, Ok, Err, inl, inr, refl, sym, subst}
use Rattle.std.specs.Prelude.{Contains, IfErr}
use Rattle.cedar_ast.specs.LinkFault.{number_of}
use Rattle.cedar_ast.specs.Linking.{HasExtraSlot, HasMissingSlot, IsTemplate}
use Rattle.cedar_ast.specs.PolicySetTree.{PolicySetTree, ids_in}
use Rattle.cedar_ast.specs.PolicyTree.{TemplateTree}
use Rattle.cedar_ast.specs.declared.link.Link.{Link}
use Rattle.cedar_ast.specs.declared.link_fault.LinkFault.{LinkFault}
use Rattle.cedar_ast.specs.declared.link_fault.LinkFault.TheVariants.{OutOfMemory, DuplicateId, NoSuchTemplate, MissingSlot, ExtraSlot}
use Rattle.cedar_files.specs.LinksFile.{AreLinked, HasEntered, HasLinkFault, HaveLinkFault}

-- ---- one link

by_number : (set : PolicySetTree) (l : Link) (template id : List ℕ) (f : LinkFault) → template ≡ l.template → id ≡ l.id
    → (number_of f ≡ 204 → Contains (ids_in set) id)
    → (number_of f ≡ 210 → (t : TemplateTree) → IsTemplate set template t → ⊥)
    → (number_of f ≡ 211 → (t : TemplateTree) × IsTemplate set template t × HasMissingSlot t l.slots)
    → (number_of f ≡ 212 → (t : TemplateTree) × IsTemplate set template t × HasExtraSlot t l.slots)
    → number_of f ≢ 1 → HasLinkFault set l (number_of f)
by_number set l template id OutOfMemory e d duplicate none missing extra other = absurd (other refl)
by_number set l template id DuplicateId e d duplicate none missing extra other =
    inl (refl, subst (λ (x : List ℕ). Contains (ids_in set) x) d (duplicate refl))
by_number set l template id NoSuchTemplate e d duplicate none missing extra other =
    inr (inl (refl, λ t is. none refl t (subst (λ (x : List ℕ). IsTemplate set x t) (sym e) is)))
by_number set l template id MissingSlot e d duplicate none missing extra other =
    let m = missing refl in
    inr (inr (inl (refl, m.0, subst (λ (x : List ℕ). IsTemplate set x m.0) e m.1, m.2)))
by_number set l template id ExtraSlot e d duplicate none missing extra other =
    let m = extra refl in
    inr (inr (inr (refl, m.0, subst (λ (x : List ℕ). IsTemplate set x m.0) e m.1, m.2)))

-- why a link is refused, by the clauses of the call that links
pub link-refused : (set : PolicySetTree) (l : Link) (template id : List ℕ) (r : Result (Unit {0}) LinkFault) → template ≡ l.template → id ≡ l.id
    → IfErr r (λ f. number_of f ≡ 204 → Contains (ids_in set) id)
    → IfErr r (λ f. number_of f ≡ 210 → (t : TemplateTree) → IsTemplate set template t → ⊥)
    → IfErr r (λ f. number_of f ≡ 211 → (t : TemplateTree) × IsTemplate set template t × HasMissingSlot t l.slots)
    → IfErr r (λ f. number_of f ≡ 212 → (t : TemplateTree) × IsTemplate set template t × HasExtraSlot t l.slots)
    → IfErr r (λ f. number_of f ≢ 1 → HasLinkFault set l (number_of f))
link-refused set l template id (Ok u) e d duplicate none missing extra = tt
link-refused set l template id (Err f) e d duplicate none missing extra = by_number set l template id f e d duplicate none missing extra

-- ---- links in order

-- what the links that are left make of the set is what all make of it, when one more is entered
pub linked-next : (start now next : PolicySetTree) (all rest others : List Link) (l : Link) → rest ≡ l ∷ others → HasEntered now l next
    → ((new : PolicySetTree) → AreLinked now rest new → AreLinked start all new)
    → (new : PolicySetTree) → AreLinked next others new → AreLinked start all new
linked-next start now next all rest others l cut linked before new h =
    before new (subst (λ (ls : List Link). AreLinked now ls new) (sym cut) (next, linked, h))

pub fault-next : (start now next : PolicySetTree) (all rest others : List Link) (l : Link) → rest ≡ l ∷ others → HasEntered now l next
    → ((n : ℕ) → HaveLinkFault now rest n → HaveLinkFault start all n)
    → (n : ℕ) → HaveLinkFault next others n → HaveLinkFault start all n
fault-next start now next all rest others l cut linked before n h =
    before n (subst (λ (ls : List Link). HaveLinkFault now ls n) (sym cut) (inr (next, linked, h)))

-- a link that is refused
pub fault-here : (start now : PolicySetTree) (all rest others : List Link) (l : Link) (f : LinkFault) → rest ≡ l ∷ others
    → (number_of f ≢ 1 → HasLinkFault now l (number_of f))
    → ((n : ℕ) → HaveLinkFault now rest n → HaveLinkFault start all n)
    → number_of f ≢ 1 → HaveLinkFault start all (number_of f)
fault-here start now all rest others l f cut has before other =
    before (number_of f) (subst (λ (ls : List Link). HaveLinkFault now ls (number_of f)) (sym cut) (inl (has other)))
