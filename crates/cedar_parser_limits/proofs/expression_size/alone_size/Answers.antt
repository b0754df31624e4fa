use Rattle.std.proofs.Common.{◌≡◌, sym, ap, ◌∙◌, length, arith}
use Rattle.cedar_parser_limits.specs.Limits.{size_of}
use Rattle.cedar_parser_limits.specs.Private.Capped.{capped}
use Rattle.cedar_parser_limits.proofs.PartLemmas.{applied_some, applied_alone}
use Rattle.cedar_parser_limits.proofs.expression_size.alone_size.Goals as goal

pub returns-in_default-clause-is_empty : goal.returns-in_default-clause-is_empty
returns-in_default-clause-is_empty c = λ a e.
    let some : length c.args.arguments.now ≡ 0 → ⊥ = λ (n : length c.args.arguments.now ≡ 0). omega arith in
    e ∙ ap (λ x. capped (size_of x)) (sym (applied_some a c.args.arguments.now some))

pub returns-in_default-clause-method : goal.returns-in_default-clause-method
returns-in_default-clause-method c = λ m a e.
    let some : length c.args.arguments.now ≡ 0 → ⊥ = λ (n : length c.args.arguments.now ≡ 0). omega arith in
    e ∙ ap (λ x. capped (size_of x)) (sym (applied_alone m a c.args.arguments.now some))
