use Rattle.std.proofs.Common.{◌≡◌, ℕ, ◌++◌, ◌∷◌, [], List, length, ap, ap₂, ◌∙◌, arith}
use Rattle.base_search.specs.Private.Spans.{lists_of}
use Rattle.base_search.specs.declared.lists.Span.{Span}
use Rattle.base_search.proofs.Spans.{lists_more}
use Rattle.base_search.proofs.lists.Lists.push.Goals as goal

pub returns : goal.returns
returns c =
    let numbers = c.self.inside.numbers.items in
    let spans = c.self.inside.spans.items in
    let list = c.args.list.now in
    let whole : c.extend_from_slice.new.self.items ≡ numbers ++ list = c.in_ok-extend_from_slice.ensures.items in
    let sized = c.self.inside.numbers.ok.0 in
    let grown = c.extend_from_slice.new.self.ok.0 in
    let start : c.len-start.result ≡ length numbers = omega (arith, c.len-start.ensures) in
    let end : c.len-end.result ≡ length (numbers ++ list) = omega (arith, c.len-end.ensures, ap length whole) in
    let span : ℕ → ℕ → Span = λ s e. record { start = s; end = e } in
    ap₂ lists_of whole (c.in_ok-push.ensures.items ∙ ap (λ (last : Span). spans ++ last ∷ []) (ap₂ span start end))
    ∙ lists_more numbers list spans c.self.invariant ∙ ap (λ (ls : List (List ℕ)). ls ++ list ∷ []) c.self.view_is
