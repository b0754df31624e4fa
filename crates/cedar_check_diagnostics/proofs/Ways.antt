-- One step more on the way to a part.
use Rattle.std.proofs.Common.{ℕ, List, [], ◌∷◌, ◌++◌, refl, ap, subst, arith}
use Rattle.cedar_ast_expressions.specs.Expression.{Expression}
use Rattle.cedar_schema_spec.specs.declared.environment.Environment.{Environment}
use Rattle.cedar_schema_spec.specs.SchemaTree.{SchemaTree}
use Rattle.cedar_check_spec.specs.Capabilities.{Capabilities}
use Rattle.cedar_check_spec.specs.declared.settings.Settings.{Settings}
use Rattle.cedar_check_diagnostics.specs.Paths.{IsStep, LeadsTo}
use Rattle.cedar_check_diagnostics.specs.Private.Down.{IsBelow}
use Rattle.cedar_check_diagnostics.proofs.Smaller.{part_is_smaller}

module _ (settings : Settings) (s : SchemaTree) (env : Environment) where
  pub leads_on : (path : List ℕ) (held h : Capabilities) (e p q : Expression) (n : ℕ) (g : Capabilities) → LeadsTo settings s env held e path h p → IsStep settings s env h p n g q → LeadsTo settings s env held e (path ++ n ∷ []) (h ++ g) q
  leads_on [] held h e p q n g l x =
      let moved = subst (λ (y : Expression). IsStep settings s env h y n g q) l.1 x in
      (g, q, subst (λ (c : Capabilities). IsStep settings s env c e n g q) l.0 moved, (ap (λ (c : Capabilities). c ++ g) l.0, refl))
  leads_on (m ∷ path) held h e p q n g l x = (l.0, l.1, l.2, leads_on path (held ++ l.0) h l.1 p q n g l.3 x)

  pub below_same : (path : List ℕ) (held : Capabilities) (p : Expression) → IsBelow settings s env path held p path held p
  below_same path held p = record { leads = λ e l. l; smaller = omega arith }

  pub below_part : (path path1 : List ℕ) (held h : Capabilities) (p1 p q : Expression) (n : ℕ) (g : Capabilities) → IsBelow settings s env path held p1 path1 h p → IsStep settings s env h p n g q → IsBelow settings s env path held p1 (path1 ++ n ∷ []) (h ++ g) q
  below_part path path1 held h p1 p q n g b x =
      let less = part_is_smaller p n q x.here in
      record {
        leads = λ e l. leads_on path1 [] h e p q n g (b.leads e l) x;
        smaller = omega (arith, b.smaller, less);
      }

  pub below_both : (path1 path2 path3 : List ℕ) (h1 h2 h3 : Capabilities) (p1 p2 p3 : Expression) → IsBelow settings s env path1 h1 p1 path2 h2 p2 → IsBelow settings s env path2 h2 p2 path3 h3 p3 → IsBelow settings s env path1 h1 p1 path3 h3 p3
  below_both path1 path2 path3 h1 h2 h3 p1 p2 p3 a b = record { leads = λ e l. b.leads e (a.leads e l); smaller = omega (arith, a.smaller, b.smaller) }
