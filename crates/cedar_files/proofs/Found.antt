-- Faults that a report counts, and faults that there are.
use Rattle.std.proofs.Common.{◌≡◌, ◌≢◌, ℕ, List, [], ◌∷◌, length, refl, sym, ap, subst, ◌∙◌, arith}
use Rattle.cedar_ast.specs.PolicyTree.{PolicyTree}
use Rattle.cedar_schema_spec.specs.SchemaTree.{SchemaTree}
use Rattle.cedar_check_spec.specs.Reports.{FaultTree, AreFaultsWith}
use Rattle.cedar_check_law.proofs.Reports.{faults_are}
use Rattle.cedar_check_spec.specs.declared.settings.Settings.{Settings}

counts_none : (xs : List FaultTree) → length xs ≡ 0 → xs ≡ []
counts_none [] e = refl
counts_none (x ∷ xs) e = absurd (omega arith)

module _ (settings : Settings) (s : SchemaTree) (ps : List PolicyTree) (xs : List FaultTree) (n : ℕ) where
  pub none_counted : AreFaultsWith settings s ps xs → n ≡ length xs → n ≡ 0 → AreFaultsWith settings s ps []
  none_counted h e z = subst (AreFaultsWith settings s ps) (counts_none xs (sym e ∙ z)) h

  pub some_counted : AreFaultsWith settings s ps xs → n ≡ length xs → n ≢ 0 → ¬ AreFaultsWith settings s ps []
  some_counted h e z = λ none. z (e ∙ ap length (faults_are settings s h ∙ sym (faults_are settings s none)))
