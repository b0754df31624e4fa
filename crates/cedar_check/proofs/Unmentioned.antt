-- An expression in which the action does not occur is as it was, the action replaced.
use Rattle.std.proofs.Common.{◌≡◌, Bool, true, false, refl, ap, ap₂}
use Rattle.std.specs.Prelude.{◌||◌}
use Rattle.cedar_value.specs.Datum.{uid}
use Rattle.cedar_value.specs.declared.uid.Uid.{Uid}
use Rattle.cedar_ast_expressions.specs.declared.operator.BinaryOperator.{BinaryOperator}
use Rattle.cedar_ast_expressions.specs.declared.variable.Variable.TheVariants.{Action}
use Rattle.cedar_ast_expressions.specs.Expression.{Expression, literal, variable, and, or, if_else, unary, binary, set_with, record_with, Expressions, no_more, and_then, Entries, no_entries, entry}
use Rattle.cedar_ast_expressions.specs.Replacement.{replace, replace_all, replace_entries}
use Rattle.cedar_check.specs.Private.Condition.{asked}
use Rattle.cedar_check.specs.Private.Mention.{mentions, any_mentions, entries_mention}

first : (a b : Bool) → (a || b) ≡ false → a ≡ false
first true b h = h
first false b h = refl

second : (a b : Bool) → (a || b) ≡ false → b ≡ false
second true b h = cc
second false b h = h

mutual
  pub unmentioned : (u : Uid) (e : Expression) → mentions e ≡ false → replace u e ≡ e
  unmentioned u (variable Action) h = cc
  unmentioned u (and a b) h = ap₂ and (unmentioned u a (first (mentions a) (mentions b) h)) (unmentioned u b (second (mentions a) (mentions b) h))
  unmentioned u (or a b) h = ap₂ or (unmentioned u a (first (mentions a) (mentions b) h)) (unmentioned u b (second (mentions a) (mentions b) h))
  unmentioned u (if_else c a b) h =
      let c_stays = unmentioned u c (first (mentions c) (mentions a || mentions b) h) in
      let a_stays = unmentioned u a (first (mentions a) (mentions b) (second (mentions c) (mentions a || mentions b) h)) in
      let b_stays = unmentioned u b (second (mentions a) (mentions b) (second (mentions c) (mentions a || mentions b) h)) in
      λ i. if_else (c_stays i) (a_stays i) (b_stays i)
  unmentioned u (unary op a) h = ap (unary op) (unmentioned u a h)
  unmentioned u (binary op a b) h = ap₂ (binary op) (unmentioned u a (first (mentions a) (mentions b) h)) (unmentioned u b (second (mentions a) (mentions b) h))
  unmentioned u (set_with es) h = ap set_with (unmentioned_all u es h)
  unmentioned u (record_with fs) h = ap record_with (unmentioned_entries u fs h)
  unmentioned u _ h = refl

  unmentioned_all : (u : Uid) (es : Expressions) → any_mentions es ≡ false → replace_all u es ≡ es
  unmentioned_all u no_more h = refl
  unmentioned_all u (and_then e es) h = ap₂ and_then (unmentioned u e (first (mentions e) (any_mentions es) h)) (unmentioned_all u es (second (mentions e) (any_mentions es) h))

  unmentioned_entries : (u : Uid) (fs : Entries) → entries_mention fs ≡ false → replace_entries u fs ≡ fs
  unmentioned_entries u no_entries h = refl
  unmentioned_entries u (entry k e fs) h = ap₂ (entry k) (unmentioned u e (first (mentions e) (entries_mention fs) h)) (unmentioned_entries u fs (second (mentions e) (entries_mention fs) h))

-- of a condition by its parts, the variable that its condition on the action compares is another
pub whole_replaced : (u : Uid) (op : BinaryOperator) (p a b : Expression) → mentions p ≡ false → mentions a ≡ false → mentions b ≡ false → replace u (and p (and (asked op a) b)) ≡ and p (and (binary op (literal (uid u)) a) b)
whole_replaced u op p a b p_stays a_stays b_stays = λ i. and (unmentioned u p p_stays i) (and (binary op (literal (uid u)) (unmentioned u a a_stays i)) (unmentioned u b b_stays i))
