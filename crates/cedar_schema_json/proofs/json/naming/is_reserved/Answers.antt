use Rattle.std.proofs.Common.{◌∙◌, bytes_eq, codes, sym}
use Rattle.cedar_value.proofs.Paths.{found_cut, no_cut}
use Rattle.cedar_schema_json.specs.Naming.{is_reserved}
use Rattle.cedar_schema_json.proofs.Words.{cut_any, uncut_any, or_true_first, or_false_first}
use Rattle.cedar_schema_json.proofs.json.naming.is_reserved.Goals as goal

pub returns-then-eq : goal.returns-then-eq
unfolding is_reserved
returns-then-eq c =
    let f = c.in-Some.ensures.cases in
    let cut = found_cut c.walk.rest.now c.in-Some.word.now c.in-Some.others.now f.0 f.1 f.2.0 f.2.1 f.3 f.4 f.6 in
    sym (c.walk.invariant.same ∙ cut_any (λ word. bytes_eq word (codes "__cedar")) _ _ _ cut ∙ or_true_first _ _ (sym c.eq.ensures ∙ c.if-eq.true))

pub walk-preserved : goal.walk-preserved
walk-preserved c =
    let f = c.in-Some.ensures.cases in
    let cut = found_cut c.walk.rest.now c.in-Some.word.now c.in-Some.others.now f.0 f.1 f.2.0 f.2.1 f.3 f.4 f.6 in
    record {
      same = c.walk.invariant.same ∙ cut_any (λ word. bytes_eq word (codes "__cedar")) _ _ _ cut ∙ or_false_first _ _ (sym c.eq.ensures ∙ c.if-eq.false);
      is_text = cut.is_text c.walk.invariant.is_text;
    }

pub returns : goal.returns
unfolding is_reserved
returns c =
    c.eq-2.ensures ∙ sym (uncut_any (λ word. bytes_eq word (codes "__cedar")) c.walk.rest.now (no_cut c.walk.rest.now c.in_default.ensures.cases)) ∙ sym c.walk.invariant.same
