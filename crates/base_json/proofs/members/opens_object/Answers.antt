use Rattle.std.proofs.Common.{◌≡◌, ◌∷◌, [], sym, ap, ◌∙◌, arith}
use Rattle.json.specs.Token.{Token}
use Rattle.json.specs.Reads.{token_of}
use Rattle.base_json.proofs.ComingMembers.{object_opened, no_object_opened, other_first}
use Rattle.base_json.specs.Private.Trees.{tree_of_tokens}
use Rattle.base_json.proofs.members.opens_object.Goals as goal

pub returns-in_default : goal.returns-in_default
returns-in_default c =
    let empty : c.args.reader.now ≡ [] = grind arith in
    no_object_opened c.args.reader.now (λ r e. let never : [] ≡ Token.begin_object ∷ r = sym empty ∙ e in absurd (cc))

pub returns-in-BeginObject : goal.returns-in-BeginObject
returns-in-BeginObject c =
    let first : c.args.reader.now ≡ token_of c.in-Some.token ∷ c.next.new.self = grind arith in
    ap tree_of_tokens (first ∙ ap (λ k. token_of k ∷ c.next.new.self) c.in-BeginObject.is) ∙ object_opened c.next.new.self

pub returns-in_default-token : goal.returns-in_default-token
returns-in_default-token c =
    let first : c.args.reader.now ≡ token_of c.in-Some.token ∷ c.next.new.self = grind arith in
    no_object_opened c.args.reader.now (λ r e. other_first c.in-Some.token c.next.new.self r c.in_default-token.not-BeginObject (sym first ∙ e))
