-- What a links file makes of the policies of the policy file, and why it is refused.
use Rattle.std.specs.Prelude.{◌≡◌, ◌≢◌, ◌⊎◌, ℕ, List, [], ◌∷◌, Option, None, MatchOption, Contains}
use Rattle.cedar_ast.specs.Linking.{HasExtraSlot, HasMissingSlot, IsLinked, IsTemplate}
use Rattle.cedar_ast.specs.PolicySetTree.{PolicySetTree, ids_in}
use Rattle.cedar_ast.specs.PolicyTree.{TemplateTree}
use Rattle.cedar_ast.specs.declared.link.Link.{Link}
use Rattle.cedar_conform.specs.Links.{BytesDenoteLinks, LinksAreRefused}
use Rattle.cedar_conform_values.specs.Numbers.{number_of}
use Rattle.cedar_conform_values.specs.declared.conform_fault.ConformFault.{ConformFault}
use Rattle.cedar_conform_values.specs.declared.conform_fault.ConformFault.TheVariants.{OutOfMemory}
use Rattle.cedar_files.specs.declared.refusal.FileRefusal.{FileRefusal}

-- A set is another with this link entered last, under an id that no policy and no template has before (Cedar language reference,
-- policy templates).
abbrev pub HasEntered : PolicySetTree → Link → PolicySetTree → Type 0
HasEntered old l new = ¬ Contains (ids_in old) l.id × IsLinked old new l.template l.id l.slots

-- A set is another with these links entered, one after another in their order (Cedar language reference, policy templates).
abbrev pub AreLinked : PolicySetTree → List Link → PolicySetTree → Type 0
AreLinked old [] new = new ≡ old
AreLinked old (l ∷ ls) new = (next : PolicySetTree) × HasEntered old l next × AreLinked next ls new

-- Why a set takes no such link, as a number: 204, a policy or a template has the link's id; 210, no template has the id that it
-- names; 211, it gives nothing for a slot of that template; 212, it gives a uid for a slot that the template does not have
-- (Cedar language reference, policy templates; the numbers are this project's).
abbrev pub HasLinkFault : PolicySetTree → Link → ℕ → Type 0
HasLinkFault set l n =
    ((n ≡ 204) × Contains (ids_in set) l.id)
    ⊎ ((n ≡ 210) × ((t : TemplateTree) → IsTemplate set l.template t → ⊥))
    ⊎ ((n ≡ 211) × (t : TemplateTree) × IsTemplate set l.template t × HasMissingSlot t l.slots)
    ⊎ ((n ≡ 212) × (t : TemplateTree) × IsTemplate set l.template t × HasExtraSlot t l.slots)

-- One of the links is refused with this number, after those before it were entered (own).
abbrev pub HaveLinkFault : PolicySetTree → List Link → ℕ → Type 0
HaveLinkFault set [] n = ⊥
HaveLinkFault set (l ∷ ls) n =
    HasLinkFault set l n ⊎ ((next : PolicySetTree) × HasEntered set l next × HaveLinkFault next ls n)

-- What the policies are with the links of the links file. Where the command line names no links file, they are those of the
-- policy file (own).
abbrev pub HoldsLinked : Option (List ℕ) → PolicySetTree → PolicySetTree → Type 0
HoldsLinked held text set = MatchOption held (set ≡ text) (λ bytes. (ls : List Link) × BytesDenoteLinks bytes ls × AreLinked text ls set)

-- The command line names a links file, and this is why its links are not entered after the policies: the number, without a
-- place, of a fault of its bytes, or of a link that is refused. It is never 1, since out of memory is not a fault of bytes
-- (own).
abbrev pub HoldsNoLinks : Option (List ℕ) → PolicySetTree → FileRefusal → Type 0
HoldsNoLinks held text refusal =
    MatchOption held ⊥ (λ bytes. ((fault : ConformFault) × LinksAreRefused bytes fault × (fault ≢ OutOfMemory) × (refusal ≡ record { number = number_of fault; offset = None }))
    ⊎ ((ls : List Link) × (n : ℕ) × BytesDenoteLinks bytes ls × HaveLinkFault text ls n × (refusal ≡ record { number = n; offset = None })))
