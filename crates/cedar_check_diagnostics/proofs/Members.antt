-- The members of a set, as far as they join.
use Rattle.std.proofs.Common.{◌≡◌, ℕ, zero, suc, ◌+◌, ◌<◌, ◌≤◌, List, [], ◌++◌, ◌⊎◌, inl, inr, ⊎_elim, Option, Some, None, option_and_then, append-nil, get_or, length, refl, sym, ap, subst, ◌∙◌, arith}
use Rattle.std.specs.Prelude.{slice_get}
use Rattle.std.proofs.lemmas.Option.{slice_get_read, slice_get_within}
use Rattle.cedar_ast_expressions.specs.Expression.{Expression, Expressions, no_more, and_then, set_with, expressions_of}
use Rattle.cedar_schema_types.specs.Joining.{join}
use Rattle.cedar_schema_types.specs.Types.{TypeTree}
use Rattle.cedar_schema_types.specs.Types as kind
use Rattle.cedar_schema_spec.specs.declared.environment.Environment.{Environment}
use Rattle.cedar_schema_spec.specs.SchemaTree.{SchemaTree}
use Rattle.cedar_check.specs.Typings.{IsTypingOf}
use Rattle.cedar_check_spec.specs.Capabilities.{Capabilities}
use Rattle.cedar_check_spec.specs.Rows.{Typed, as_type}
use Rattle.cedar_check_spec.specs.Private.Checking.{type_of_with, types_all, types_onto}
use Rattle.cedar_check_spec.specs.declared.settings.Settings.{Settings}
use Rattle.cedar_check_law.proofs.Found.{and_then_some}
use Rattle.cedar_check_diagnostics.specs.Looking.{HasType, HasTypedParts, IsJoined, IsLookedAt, first_members, set_before}
use Rattle.cedar_check_diagnostics.specs.Paths.{IsStep, members_of}
use Rattle.cedar_check_diagnostics.proofs.PartLists.{members_back}
use Rattle.cedar_check_diagnostics.proofs.Typed.{found_type, has_type}

itself : {A : Type 0} (o : Option A) → option_and_then (λ v. Some v) o ≡ o
itself None = refl
itself (Some v) = refl

-- before, at, or after
placed : (n k : ℕ) → (n < k) ⊎ (n ≡ k) ⊎ (k < n)
placed zero zero = inr (inl refl)
placed zero (suc k) = inl (omega arith)
placed (suc n) zero = inr (inr (omega arith))
placed (suc n) (suc k) =
    ⊎_elim (λ l. inl (omega (arith, l))) (λ r. ⊎_elim (λ e. inr (inl (ap suc e))) (λ g. inr (inr (omega (arith, g)))) r) (placed n k)

module _ (settings : Settings) (s : SchemaTree) (env : Environment) (h : Capabilities) where
  -- one more member
  onto_more : (t w : TypeTree) (es : Expressions) (n : ℕ) (e : Expression) (x : Typed) (r : Option TypeTree) → types_onto settings s env h t (first_members n es) ≡ Some w → slice_get (members_of es) n ≡ Some e → type_of_with settings s env h e ≡ Some x → join w x.ty ≡ r
      → types_onto settings s env h t (first_members (suc n) es) ≡ r
  onto_more t w no_more n e x r so at typed joins = cc
  onto_more t w (and_then f es) zero e x r so at typed joins =
      let first : t ≡ w = cc in
      let one : f ≡ e = cc in
      ap (λ y. option_and_then (λ (x : Typed). option_and_then (λ v. Some v) (join t x.ty)) (type_of_with settings s env h y)) one
      ∙ ap (option_and_then (λ (x : Typed). option_and_then (λ v. Some v) (join t x.ty))) typed
      ∙ itself (join t x.ty)
      ∙ ap (λ y. join y x.ty) first
      ∙ joins
  onto_more t w (and_then f es) (suc n) e x r so at typed joins =
      let a = and_then_some (λ (y : Typed). option_and_then (λ v. types_onto settings s env h v (first_members n es)) (join t y.ty)) (type_of_with settings s env h f) w so in
      let b = and_then_some (λ v. types_onto settings s env h v (first_members n es)) (join t a.0.ty) w a.2 in
      ap (option_and_then (λ (y : Typed). option_and_then (λ v. types_onto settings s env h v (first_members (suc n) es)) (join t y.ty))) a.1
      ∙ ap (option_and_then (λ v. types_onto settings s env h v (first_members (suc n) es))) b.1
      ∙ onto_more b.0 w es n e x r b.2 at typed joins

  pub all_more : (w : TypeTree) (es : Expressions) (n : ℕ) (e : Expression) (x : Typed) (r : Option TypeTree) → types_all settings s env h (first_members n es) ≡ Some w → slice_get (members_of es) n ≡ Some e → type_of_with settings s env h e ≡ Some x → join w x.ty ≡ r
      → types_all settings s env h (first_members (suc n) es) ≡ r
  all_more w no_more n e x r so at typed joins = cc
  all_more w (and_then f es) zero e x r so at typed joins = cc
  all_more w (and_then f es) (suc n) e x r so at typed joins =
      let a = and_then_some (λ (y : Typed). types_onto settings s env h y.ty (first_members n es)) (type_of_with settings s env h f) w so in
      ap (option_and_then (λ (y : Typed). types_onto settings s env h y.ty (first_members (suc n) es))) a.1 ∙ onto_more a.0.ty w es n e x r a.2 at typed joins

  -- the first member alone
  pub all_first : (es : Expressions) (e : Expression) (x : Typed) → slice_get (members_of es) 0 ≡ Some e → type_of_with settings s env h e ≡ Some x → types_all settings s env h (first_members 1 es) ≡ Some x.ty
  all_first no_more e x at typed = cc
  all_first (and_then f es) e x at typed =
      let one : f ≡ e = cc in
      ap (λ y. option_and_then (λ (x : Typed). Some x.ty) (type_of_with settings s env h y)) one ∙ ap (option_and_then (λ (x : Typed). Some x.ty)) typed

  -- fewer members join too
  onto_fewer : (t v : TypeTree) (es : Expressions) (n m : ℕ) → n ≤ m → types_onto settings s env h t (first_members m es) ≡ Some v → (w : TypeTree) × (types_onto settings s env h t (first_members n es) ≡ Some w)
  onto_fewer t v es zero m le so = (t, refl)
  onto_fewer t v es (suc n) zero le so = absurd (omega arith)
  onto_fewer t v no_more (suc n) (suc m) le so = (t, refl)
  onto_fewer t v (and_then f es) (suc n) (suc m) le so =
      let a = and_then_some (λ (y : Typed). option_and_then (λ v. types_onto settings s env h v (first_members m es)) (join t y.ty)) (type_of_with settings s env h f) v so in
      let b = and_then_some (λ v. types_onto settings s env h v (first_members m es)) (join t a.0.ty) v a.2 in
      let c = onto_fewer b.0 v es n m (omega arith) b.2 in (
        c.0,
        ap (option_and_then (λ (y : Typed). option_and_then (λ v. types_onto settings s env h v (first_members n es)) (join t y.ty))) a.1
            ∙ ap (option_and_then (λ v. types_onto settings s env h v (first_members n es))) b.1
            ∙ c.1,
      )

  all_fewer : (v : TypeTree) (es : Expressions) (n m : ℕ) → 0 < n → n ≤ m → types_all settings s env h (first_members m es) ≡ Some v → (w : TypeTree) × (types_all settings s env h (first_members n es) ≡ Some w)
  all_fewer v es zero m some le so = absurd (omega arith)
  all_fewer v es (suc n) zero some le so = absurd (omega arith)
  all_fewer v no_more (suc n) (suc m) some le so = cc
  all_fewer v (and_then f es) (suc n) (suc m) some le so =
      let a = and_then_some (λ (y : Typed). types_onto settings s env h y.ty (first_members m es)) (type_of_with settings s env h f) v so in
      let c = onto_fewer a.0.ty v es n m (omega arith) a.2 in
      (c.0, ap (option_and_then (λ (y : Typed). types_onto settings s env h y.ty (first_members n es))) a.1 ∙ c.1)

  -- members that join have types
  onto_typed : (t v : TypeTree) (es : Expressions) (n m : ℕ) (e : Expression) → n < m → slice_get (members_of es) n ≡ Some e → types_onto settings s env h t (first_members m es) ≡ Some v → HasType settings s env h e
  onto_typed t v no_more n m e lt at so = cc
  onto_typed t v (and_then f es) n zero e lt at so = absurd (omega arith)
  onto_typed t v (and_then f es) zero (suc m) e lt at so =
      let a = and_then_some (λ (y : Typed). option_and_then (λ v. types_onto settings s env h v (first_members m es)) (join t y.ty)) (type_of_with settings s env h f) v so in
      let one : f ≡ e = cc in
      subst (λ (y : Expression). HasType settings s env h y) one (has_type settings s env h f a.0 a.1)
  onto_typed t v (and_then f es) (suc n) (suc m) e lt at so =
      let a = and_then_some (λ (y : Typed). option_and_then (λ v. types_onto settings s env h v (first_members m es)) (join t y.ty)) (type_of_with settings s env h f) v so in
      let b = and_then_some (λ v. types_onto settings s env h v (first_members m es)) (join t a.0.ty) v a.2 in
      onto_typed b.0 v es n m e (omega arith) at b.2

  pub all_typed : (v : TypeTree) (es : Expressions) (n m : ℕ) (e : Expression) → n < m → slice_get (members_of es) n ≡ Some e → types_all settings s env h (first_members m es) ≡ Some v → HasType settings s env h e
  all_typed v no_more n m e lt at so = cc
  all_typed v (and_then f es) n zero e lt at so = absurd (omega arith)
  all_typed v (and_then f es) zero (suc m) e lt at so =
      let a = and_then_some (λ (y : Typed). types_onto settings s env h y.ty (first_members m es)) (type_of_with settings s env h f) v so in
      let one : f ≡ e = cc in
      subst (λ (y : Expression). HasType settings s env h y) one (has_type settings s env h f a.0 a.1)
  all_typed v (and_then f es) (suc n) (suc m) e lt at so =
      let a = and_then_some (λ (y : Typed). types_onto settings s env h y.ty (first_members m es)) (type_of_with settings s env h f) v so in
      onto_typed a.0.ty v es n m e (omega arith) at a.2

  -- the set of these members has a type where they join
  joined_all : (es : Expressions) (n : ℕ) → 0 < n → IsJoined settings s env h (set_before (set_with es) n) → (v : TypeTree) × (types_all settings s env h (first_members n es) ≡ Some v)
  joined_all es zero some j = absurd (omega arith)
  joined_all es (suc n) some j =
      let x = found_type settings s env h (set_with (first_members (suc n) es)) j.ty j.gained j.typed in
      let a = and_then_some (λ (t : TypeTree). as_type (kind.set t)) (types_all settings s env h (first_members (suc n) es)) x.0 x.1 in
      (a.0, a.1)

  -- before a member nothing is gained
  at_member : (es : Expressions) (n : ℕ) (g : Capabilities) (p : Expression) → IsLookedAt settings s env h (set_with es) n g p → HasType settings s env h p → HasType settings s env (h ++ g) p
  at_member es n g p l t = subst (λ (c : Capabilities). HasType settings s env c p) (sym (ap (λ (x : Capabilities). h ++ x) l.step.before ∙ append-nil h)) t

  -- all members join
  pub members_typed : (v : TypeTree) (es : Expressions) (m : ℕ) → ((n : ℕ) (e : Expression) → slice_get (members_of es) n ≡ Some e → n < m) → types_all settings s env h (first_members m es) ≡ Some v → HasTypedParts settings s env h (set_with es)
  members_typed v es m last so n g p l = at_member es n g p l (all_typed v es n m p (last n p l.step.here) l.step.here so)

  -- a member does not join with those before it
  pub members_apart : (w : TypeTree) (es : Expressions) (k : ℕ) (e : Expression) (x : Typed) → types_all settings s env h (first_members k es) ≡ Some w → slice_get (members_of es) k ≡ Some e → type_of_with settings s env h e ≡ Some x → join w x.ty ≡ None → HasTypedParts settings s env h (set_with es)
  members_apart w es k e x so at typed apart n g p l =
      ⊎_elim
      (λ lt. at_member es n g p l (all_typed w es n k p lt l.step.here so))
      (λ r. ⊎_elim
      (λ is.
      let here : slice_get (members_of es) n ≡ Some p = l.step.here in
      let there : slice_get (members_of es) k ≡ Some p = subst (λ (i : ℕ). slice_get (members_of es) i ≡ Some p) is here in
      let one : e ≡ p = cc in
      at_member es n g p l (subst (λ (y : Expression). HasType settings s env h y) one (has_type settings s env h e x typed)))
      (λ gt.
      let j = joined_all es n (omega (arith, gt)) l.joined in
      let f = all_fewer j.0 es (suc k) n (omega arith) (omega (arith, gt)) j.1 in
      let none = all_more w es k e x None so at typed apart in
      let some = f.1 in
      cc)
      r)
      (placed n k)

  -- there is no member
  pub no_members : (es : Expressions) → ((n : ℕ) → slice_get (members_of es) n ≡ None) → HasTypedParts settings s env h (set_with es)
  no_members es none n g p l = let here = l.step.here in let no = none n in cc

  -- the member of this number
  pub at_number : (ms : List Expression) (k : ℕ) (e : Expression) → k < length ms → e ≡ get_or ms k e → slice_get (members_of (expressions_of ms)) k ≡ Some e
  at_number ms k e lt is = ap (λ l. slice_get l k) (members_back ms) ∙ slice_get_read ms (length ms) k e refl lt is

  pub member_step : (ms : List Expression) (k : ℕ) (e p : Expression) (g : Capabilities) → k < length ms → e ≡ get_or ms k e → p ≡ e → g ≡ [] → IsStep settings s env h (set_with (expressions_of ms)) k g p
  member_step ms k e p g lt is same none = record { here = at_number ms k e lt is ∙ ap Some (sym same); before = none }

  pub member_untyped : (e p : Expression) (g : Capabilities) (o : Option Typed) → IsTypingOf settings s env h e o → o ≡ None → p ≡ e → g ≡ [] → IsTypingOf settings s env (h ++ g) p None
  member_untyped e p g (Some x) d is same none = cc
  member_untyped e p g None d is same none =
      subst (λ (c : Capabilities). IsTypingOf settings s env c p None) (sym (ap (λ (x : Capabilities). h ++ x) none ∙ append-nil h)) (subst (λ (x : Expression). IsTypingOf settings s env h x None) (sym same) d)

  -- the typing that the rules give is the function's
  typed_as : (e : Expression) (o : Option Typed) (x : Typed) → IsTypingOf settings s env h e o → o ≡ Some x → (y : Typed) × (type_of_with settings s env h e ≡ Some y) × (y.ty ≡ x.ty)
  typed_as e None x d is = cc
  typed_as e (Some z) x d is =
      let same : z ≡ x = cc in
      let y = found_type settings s env h e z.ty z.gained d in
      (y.0, y.1, y.2 ∙ ap (λ (t : Typed). t.ty) same)

  pub first_joined : (ms : List Expression) (e : Expression) (o : Option Typed) (x : Typed) → 0 < length ms → e ≡ get_or ms 0 e → IsTypingOf settings s env h e o → o ≡ Some x → types_all settings s env h (first_members 1 (expressions_of ms)) ≡ Some x.ty
  first_joined ms e o x lt is d typed = let y = typed_as e o x d typed in all_first (expressions_of ms) e y.0 (at_number ms 0 e lt is) y.1 ∙ ap Some y.2

  pub member_joined : (ms : List Expression) (k : ℕ) (e : Expression) (o : Option Typed) (x : Typed) (w v : TypeTree) → types_all settings s env h (first_members k (expressions_of ms)) ≡ Some w → k < length ms → e ≡ get_or ms k e → IsTypingOf settings s env h e o → o ≡ Some x
      → join w x.ty ≡ Some v → types_all settings s env h (first_members (k + 1) (expressions_of ms)) ≡ Some v
  member_joined ms k e o x w v so lt is d typed joins =
      let y = typed_as e o x d typed in
      let next : k + 1 ≡ suc k = omega arith in
      ap (λ n. types_all settings s env h (first_members n (expressions_of ms))) next ∙ all_more w (expressions_of ms) k e y.0 (Some v) so (at_number ms k e lt is) y.1 (ap (λ t. join w t) y.2 ∙ joins)

  pub member_apart : (ms : List Expression) (k : ℕ) (e : Expression) (o : Option Typed) (x : Typed) (w : TypeTree) → types_all settings s env h (first_members k (expressions_of ms)) ≡ Some w → k < length ms → e ≡ get_or ms k e → IsTypingOf settings s env h e o → o ≡ Some x
      → join w x.ty ≡ None → HasTypedParts settings s env h (set_with (expressions_of ms))
  member_apart ms k e o x w so lt is d typed apart =
      let y = typed_as e o x d typed in
      members_apart w (expressions_of ms) k e y.0 so (at_number ms k e lt is) y.1 (ap (λ t. join w t) y.2 ∙ apart)

  pub all_joined : (ms : List Expression) (k : ℕ) (w : TypeTree) → length ms ≤ k → types_all settings s env h (first_members k (expressions_of ms)) ≡ Some w → HasTypedParts settings s env h (set_with (expressions_of ms))
  all_joined ms k w le so =
      members_typed w (expressions_of ms) k
      (λ n e at. let lt = slice_get_within ms n e (sym (ap (λ l. slice_get l n) (members_back ms)) ∙ at) in omega (arith, lt))
      so
