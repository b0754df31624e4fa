use Rattle.std.proofs.Common.{true, false, ap, sym, ◌∙◌, ◌≡◌, Ok, is_some}
use Rattle.std.proofs.lemmas.Bool.{cond-true, cond-false}
use Rattle.serde_json.specs.Find.{get_member}
use Rattle.serde_json.specs.View.{members_view}
use Rattle.cedar_schema_text.proofs.Members.{contains}
use Rattle.cedar_schema_text.specs.Objects as spec
use Rattle.cedar_schema_text.proofs.object.put_once.Goals as goal

pub returns-then-contains_key : goal.returns-then-contains_key
unfolding spec.put_once
returns-then-contains_key c =
    let there : is_some (get_member c.args.key.now (members_view c.args.found.now.entries)) ≡ true = sym (contains c.args.key.now c.args.found.now.entries) ∙ sym c.contains_key.ensures ∙ c.if-contains_key.true in
    cond-true _ _ _ there

pub returns : goal.returns
unfolding spec.put_once
returns c =
    let absent : is_some (get_member c.args.key.now (members_view c.args.found.now.entries)) ≡ false = sym (contains c.args.key.now c.args.found.now.entries) ∙ sym c.contains_key.ensures ∙ c.if-contains_key.false in
    cond-false _ _ _ absent ∙ ap (λ ms. Ok ms) (sym c.in_ok-put.ensures)
