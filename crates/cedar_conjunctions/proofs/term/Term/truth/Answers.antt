use Rattle.std.proofs.lemmas.Result.{err_from_is_err_and}
use Rattle.cedar_conjunctions.specs.Private.Terms.{comparison_expression}
use Rattle.cedar_conjunctions.proofs.Truths.{term_true, term_error}
use Rattle.cedar_conjunctions.proofs.term.Term.truth.Goals as goal

pub returns-in_err-truth-clause-truth : goal.returns-in_err-truth-clause-truth
returns-in_err-truth-clause-truth g c =
    let p = err_from_is_err_and c.from_residual.result c.from_residual.ensures.1 in
    rw (p.1, p.2)
    (term_error c.args.sources.now.request c.args.sources.now.world (comparison_expression c.args.self.now.comparison) c.args.self.now.is_negated c.in_err-truth.field-0.0 c.in_err-truth.ensures.truth)

pub returns-clause-truth : goal.returns-clause-truth
returns-clause-truth g c =
    term_true c.args.sources.now.request c.args.sources.now.world (comparison_expression c.args.self.now.comparison) c.args.self.now.is_negated c.in_ok-truth.truth c.in_ok-truth.ensures.truth
