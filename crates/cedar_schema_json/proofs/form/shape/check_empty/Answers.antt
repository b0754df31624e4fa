use Rattle.std.proofs.Common.{◌≡◌, true, false, sym, ◌∙◌, ap, option_map}
use Rattle.serde_json.specs.View.{view}
use Rattle.cedar_schema_json.proofs.ShapeLemmas.{empty_told}
use Rattle.cedar_schema_json.proofs.form.shape.check_empty.Goals as goal

pub returns-in_default-as_object : goal.returns-in_default-as_object
returns-in_default-as_object c =
    empty_told _ (view c.in-Some.json.now) c.in-Some-as_object.members.now.entries (ap (option_map (λ v. view v.now)) c.in-Some.is) c.in-Some-as_object.ensures (λ none. let full : true ≡ false = sym (c.is_empty.ensures.1 none) ∙ c.if-is_empty.false in cc)
