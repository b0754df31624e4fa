-- The parts of an expression so far.
use Rattle.std.proofs.Common.{◌≡◌, ℕ, zero, suc, ◌+◌, ◌<◌, ◌≤◌, ◌++◌, ◌⊎◌, inl, inr, ⊎_elim, None, subst, arith}
use Rattle.cedar_ast_expressions.specs.Expression.{Expression}
use Rattle.cedar_schema_spec.specs.declared.environment.Environment.{Environment}
use Rattle.cedar_schema_spec.specs.SchemaTree.{SchemaTree}
use Rattle.cedar_check_spec.specs.Capabilities.{Capabilities}
use Rattle.cedar_check_spec.specs.declared.settings.Settings.{Settings}
use Rattle.cedar_check_diagnostics.specs.Looking.{HasType, HasTypedParts, IsLookedAt}
use Rattle.cedar_check_diagnostics.specs.Paths.{part_of}

below : (n k : ℕ) → (n < k) ⊎ (k ≤ n)
below n zero = inr (omega arith)
below zero (suc k) = inl (omega arith)
below (suc n) (suc k) = ⊎_elim (λ l. inl (omega (arith, l))) (λ r. inr (omega (arith, r))) (below n k)

module _ (settings : Settings) (s : SchemaTree) (env : Environment) (h : Capabilities) (e : Expression) where
  -- one part more
  pub typed_more : (number : ℕ) → ((n : ℕ) (g : Capabilities) (p : Expression) → n < number → IsLookedAt settings s env h e n g p → HasType settings s env (h ++ g) p) → ((g : Capabilities) (p : Expression) → IsLookedAt settings s env h e number g p → HasType settings s env (h ++ g) p)
      → (n : ℕ) (g : Capabilities) (p : Expression) → n < number + 1 → IsLookedAt settings s env h e n g p → HasType settings s env (h ++ g) p
  typed_more number before here n g p lt l =
      ⊎_elim
      (λ b. before n g p b l)
      (λ ge.
      let is : n ≡ number = omega arith in
      here g p (subst (λ (k : ℕ). IsLookedAt settings s env h e k g p) is l))
      (below n number)

  -- all parts
  pub all_parts : (count number : ℕ) → count ≤ number → ((n : ℕ) → count ≤ n → part_of e n ≡ None) → ((n : ℕ) (g : Capabilities) (p : Expression) → n < number → IsLookedAt settings s env h e n g p → HasType settings s env (h ++ g) p) → HasTypedParts settings s env h e
  all_parts count number le past before n g p l =
      ⊎_elim
      (λ b. before n g p b l)
      (λ ge.
      let none = past n (omega arith) in
      let some = l.step.here in
      cc)
      (below n number)
