use Rattle.std.proofs.Common.{◌≡◌, ℕ, List, [], ◌∷◌, Contains, refl, sym, ap, subst, ◌∙◌}
use Rattle.std.proofs.lemmas.List.Elements.{Contains-push}
use Rattle.serde_json.specs.Data.{string}
use Rattle.cedar_schema_types.specs.Types.{TypeTree, Attributes, record_of}
use Rattle.cedar_conform_values.specs.Values.{value_read}
use Rattle.cedar_conform_values.specs.declared.conform_fault.ConformFault.{ConformFault}
use Rattle.cedar_conform_values.specs.declared.conform_fault.ConformFault.TheVariants.{WrongType}
use Rattle.cedar_conform.specs.Private.Fields.{context_in}
use Rattle.cedar_conform.proofs.request.read_context.Goals as goal

string_is_no_record : (a : Attributes) (s : List ℕ) → (value_read (record_of a) (string s)).faults ≡ WrongType ∷ []
unfolding value_read
string_is_no_record a s = refl

pub returns-in-String : goal.returns-in-String
returns-in-String c = λ other.
    let s = c.in-String.field-0.now in
    let field : context_in c.args.field ≡ string s = rw (c.in-Some.is, c.in-String.is) refl in
    let faults : (value_read c.args.ty.now (context_in c.args.field)).faults ≡ WrongType ∷ [] =
    ap (λ d. (value_read c.args.ty.now d).faults) field ∙ ap (λ (t : TypeTree). (value_read t (string s)).faults) (sym c.record_type-attributes.ensures)
    ∙ string_is_no_record c.record_type-attributes.result.now s in
    subst (λ (fs : List ConformFault). Contains fs WrongType) (sym faults) (Contains-push [] WrongType)

pub returns-in-Quoted : goal.returns-in-Quoted
returns-in-Quoted c = λ other.
    let s = c.in-Quoted.field-0 in
    let field : context_in c.args.field ≡ string s = rw (c.in-Some.is, c.in-Quoted.is) refl in
    let faults : (value_read c.args.ty.now (context_in c.args.field)).faults ≡ WrongType ∷ [] =
    ap (λ d. (value_read c.args.ty.now d).faults) field ∙ ap (λ (t : TypeTree). (value_read t (string s)).faults) (sym c.record_type-attributes.ensures)
    ∙ string_is_no_record c.record_type-attributes.result.now s in
    subst (λ (fs : List ConformFault). Contains fs WrongType) (sym faults) (Contains-push [] WrongType)
