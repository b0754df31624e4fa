-- Numbers of signatures, and the forms that are known by them.
use Rattle.std.proofs.Common.{◌≡◌, false, ℕ, zero, suc, ◌<◌, ◌+◌, List, [], ◌∷◌, ◌++◌, length, get_or, take, map, Bor, arith, refl, ap, subst, sym, ◌∙◌}
use Rattle.std.specs.Prelude.{Option, Some, None, IfSome, IsSomeAnd, option_map, slice_get}
use Rattle.std.specs.List.{AllZip}
use Rattle.std.proofs.lemmas.List.{take_more}
use Rattle.std.proofs.lemmas.Option.{slice_get-map}
use Rattle.cedar_ast_expressions.specs.Expression.{Expression}
use Rattle.cedar_schema_spec.specs.SchemaTree.{SchemaTree}
use Rattle.cedar_schema_spec.specs.declared.environment.Environment.{Environment}
use Rattle.cedar_check_spec.specs.declared.settings.Settings.{Settings}
use Rattle.cedar_check.specs.declared.form.Form.{Form}
use Rattle.cedar_check.specs.Private.Mention.{mentions}
use Rattle.cedar_check.specs.Private.Signatures.{AreAlike, AreKnown, AreNumbered, form_with, IsNumberOf}
use Rattle.cedar_check.specs.Private.View.{form_view}
use Rattle.cedar_check.proofs.Alike.{form_alike}

zipped_more : {A B : Type 0} (R : A → B → Type 0) (xs : List A) (ys : List B) (x : A) (y : B) → AllZip R xs ys → R x y → AllZip R (xs ++ x ∷ []) (ys ++ y ∷ [])
zipped_more R [] [] x y h r = (r, tt)
zipped_more R [] (b ∷ ys) x y h r = absurd h
zipped_more R (a ∷ xs) [] x y h r = absurd h
zipped_more R (a ∷ xs) (b ∷ ys) x y h r = (h.0, zipped_more R xs ys x y h.1 r)

zipped_length : {A B : Type 0} (R : A → B → Type 0) (xs : List A) (ys : List B) → AllZip R xs ys → length xs ≡ length ys
zipped_length R [] [] h = refl
zipped_length R [] (b ∷ ys) h = absurd h
zipped_length R (a ∷ xs) [] h = absurd h
zipped_length R (a ∷ xs) (b ∷ ys) h = ap suc (zipped_length R xs ys h.1)

zipped_at : {A B : Type 0} (R : A → B → Type 0) (xs : List A) (ys : List B) (i : ℕ) (x : A) (y : B) → AllZip R xs ys → i < length ys → R (get_or xs i x) (get_or ys i y)
zipped_at R [] [] i x y h lt = absurd (omega arith)
zipped_at R [] (b ∷ ys) i x y h lt = absurd h
zipped_at R (a ∷ xs) [] i x y h lt = absurd h
zipped_at R (a ∷ xs) (b ∷ ys) zero x y h lt = h.0
zipped_at R (a ∷ xs) (b ∷ ys) (suc i) x y h lt = zipped_at R xs ys i x y h.1 (omega arith)

module _ (examples : List (Bor Environment)) where
  abbrev Numbers : Option ℕ → Environment → Type 0
  Numbers number env = IfSome number (IsNumberOf examples env)

  -- one environment more is numbered
  pub numbered_more : (numbers : List (Option ℕ)) (envs : List Environment) (i : ℕ) (number : Option ℕ) (env : Environment) → i < length envs → env ≡ get_or envs i env
      → AreNumbered examples numbers (take i envs) → IfSome number (IsNumberOf examples env) → AreNumbered examples (numbers ++ number ∷ []) (take (i + 1) envs)
  numbered_more numbers envs i number env lt is h one =
      subst (λ l. AllZip Numbers (numbers ++ number ∷ []) l) (ap (λ e. take i envs ++ e ∷ []) is ∙ sym (take_more envs i env lt))
      (zipped_more Numbers numbers (take i envs) number env h one)

  -- there are as many numbers as environments
  pub numbered_length : (numbers : List (Option ℕ)) (envs : List Environment) → AreNumbered examples numbers envs → length numbers ≡ length envs
  numbered_length numbers envs h = zipped_length Numbers numbers envs h

  -- the number at a place is the environment's
  pub numbered_at : (numbers : List (Option ℕ)) (envs : List Environment) (i : ℕ) (number : Option ℕ) (env : Environment) → i < length envs
      → number ≡ get_or numbers i number → env ≡ get_or envs i env → AreNumbered examples numbers envs → IfSome number (IsNumberOf examples env)
  numbered_at numbers envs i number env lt number_is env_is h =
      subst (λ e. Numbers number e) (sym env_is) (subst (λ o. Numbers o (get_or envs i env)) (sym number_is) (zipped_at Numbers numbers envs i number env h lt))

  module _ (settings : Settings) (s : SchemaTree) (e : Expression) (forms : List Form) where
    known_by : (n : ℕ) (env : Environment) (example : Option (Bor Environment)) (form : Option Form) → slice_get examples n ≡ example → slice_get forms n ≡ form
        → AreKnown settings s e examples forms → IsSomeAnd example (λ x. AreAlike x.now env) → IfSome form (λ f. form_view f ≡ form_with settings s env e)
    known_by n env None form there here known alike = absurd alike
    known_by n env (Some x) None there here known alike = tt
    known_by n env (Some x) (Some f) there here known alike = known n x f env there here alike

    -- what is known by an environment's number is the form there
    pub known_at : (number : Option ℕ) (env : Environment) → AreKnown settings s e examples forms → IfSome number (IsNumberOf examples env)
        → IfSome number (λ n. IfSome (slice_get forms n) (λ f. form_view f ≡ form_with settings s env e))
    known_at None env known h = tt
    known_at (Some n) env known h = known_by n env (slice_get examples n) (slice_get forms n) refl refl known h

same_in_some : {A : Type 0} (x y : A) → Some x ≡ Some y → x ≡ y
same_in_some x y h = cc

-- of a condition that does not name the action the forms in the examples are the forms in all environments like these
pub known_from : (settings : Settings) (s : SchemaTree) (e : Expression) (examples : List (Bor Environment)) (forms : List Form) → mentions e ≡ false
    → map form_view forms ≡ map (λ (x : Bor Environment). form_with settings s x.now e) examples → AreKnown settings s e examples forms
known_from settings s e examples forms free same n example form env there here alike =
    same_in_some (form_view form) (form_with settings s example.now e)
    (ap (option_map form_view) (sym here) ∙ sym (slice_get-map form_view forms n) ∙ ap (λ l. slice_get l n) same
    ∙ slice_get-map (λ (x : Bor Environment). form_with settings s x.now e) examples n ∙ ap (option_map (λ (x : Bor Environment). form_with settings s x.now e)) there)
    ∙ form_alike settings s example.now env alike e free
