-- To leave out policies that are false changes no response.
use Rattle.std.proofs.Common.{◌≡◌, Bool, true, false, cond, not, ◌&&◌, ◌||◌, List, [], ◌∷◌, map, filter, Option, None, refl, sym, ap, ap₂, ◌∙◌}
use Rattle.std.specs.Prelude.{Ok}
use Rattle.std.specs.List.{list_any, filter_map, cons_option}
use Rattle.cedar_value.specs.Datum.{boolean}
use Rattle.cedar_value.specs.World.{World}
use Rattle.cedar_value.specs.declared.request.Request.{Request}
use Rattle.cedar_ast.specs.PolicyTree.{PolicyTree}
use Rattle.cedar_ast.specs.Response.{meaning, is_true, is_permit, permits, forbids, erring_by, erring_of, allows, decided, response}
use Rattle.cedar_check_spec.specs.Candidates.{FalseOnesMayGo}

module _ {A : Type 0} (keeps : A → Bool) where
  any_step : (b : Bool) (f : A → Bool) (x : A) (xs : List A) → (b ≡ false → f x ≡ false) → list_any f (cond b (x ∷ filter keeps xs) (filter keeps xs)) ≡ (f x || list_any f (filter keeps xs))
  any_step true f x xs n = refl
  any_step false f x xs n = ap (λ b. b || list_any f (filter keeps xs)) (sym (n refl))

  any_kept : (f : A → Bool) (xs : List A) → ((x : A) → keeps x ≡ false → f x ≡ false) → list_any f (filter keeps xs) ≡ list_any f xs
  any_kept f [] n = refl
  any_kept f (x ∷ xs) n = any_step (keeps x) f x xs (n x) ∙ ap (λ b. f x || b) (any_kept f xs n)

  filter_step : (b : Bool) (g : A → Bool) (x : A) (xs : List A) → (b ≡ false → g x ≡ false) → filter g (cond b (x ∷ filter keeps xs) (filter keeps xs)) ≡ cond (g x) (x ∷ filter g (filter keeps xs)) (filter g (filter keeps xs))
  filter_step true g x xs n = refl
  filter_step false g x xs n = ap (λ b. cond b (x ∷ filter g (filter keeps xs)) (filter g (filter keeps xs))) (sym (n refl))

  filter_kept : (g : A → Bool) (xs : List A) → ((x : A) → keeps x ≡ false → g x ≡ false) → filter g (filter keeps xs) ≡ filter g xs
  filter_kept g [] n = refl
  filter_kept g (x ∷ xs) n = filter_step (keeps x) g x xs (n x) ∙ ap (λ l. cond (g x) (x ∷ l) l) (filter_kept g xs n)

  map_step : {B : Type 0} (b : Bool) (h : A → Option B) (x : A) (xs : List A) → (b ≡ false → h x ≡ None) → filter_map h (cond b (x ∷ filter keeps xs) (filter keeps xs)) ≡ cons_option (h x) (filter_map h (filter keeps xs))
  map_step true h x xs n = refl
  map_step false h x xs n = ap (λ o. cons_option o (filter_map h (filter keeps xs))) (sym (n refl))

  map_kept : {B : Type 0} (h : A → Option B) (xs : List A) → ((x : A) → keeps x ≡ false → h x ≡ None) → filter_map h (filter keeps xs) ≡ filter_map h xs
  map_kept h [] n = refl
  map_kept h (x ∷ xs) n = map_step (keeps x) h x xs (n x) ∙ ap (cons_option (h x)) (map_kept h xs n)

and_false : (b : Bool) → (b && false) ≡ false
and_false true = refl
and_false false = refl

module _ (q : Request) (w : World) (keeps : PolicyTree → Bool) (gone : (p : PolicyTree) → keeps p ≡ false → meaning q w p ≡ Ok (boolean false)) where
  no_permit : (p : PolicyTree) → keeps p ≡ false → permits q w p ≡ false
  no_permit p e = ap (λ o. is_permit p.effect && is_true o) (gone p e) ∙ and_false (is_permit p.effect)

  no_forbid : (p : PolicyTree) → keeps p ≡ false → forbids q w p ≡ false
  no_forbid p e = ap (λ o. not (is_permit p.effect) && is_true o) (gone p e) ∙ and_false (not (is_permit p.effect))

  no_error : (p : PolicyTree) → keeps p ≡ false → erring_of q w p ≡ None
  no_error p e = ap (λ o. erring_by o p.id) (gone p e)

  same_allows : (ps : List PolicyTree) → allows q w (filter keeps ps) ≡ allows q w ps
  same_allows ps = ap₂ (λ a b. not a && b) (any_kept keeps (forbids q w) ps no_forbid) (any_kept keeps (permits q w) ps no_permit)

  none_chosen : (b : Bool) (p : PolicyTree) → keeps p ≡ false → (cond b (permits q w) (forbids q w)) p ≡ false
  none_chosen true p e = no_permit p e
  none_chosen false p e = no_forbid p e

  determining : (b : Bool) (ps : List PolicyTree) → map (λ p. p.id) (filter (cond b (permits q w) (forbids q w)) (filter keeps ps)) ≡ map (λ p. p.id) (filter (cond b (permits q w) (forbids q w)) ps)
  determining b ps = ap (map (λ (p : PolicyTree). p.id)) (filter_kept keeps (cond b (permits q w) (forbids q w)) ps (none_chosen b))

  same_response : (ps : List PolicyTree) → response (filter keeps ps) q w ≡ response ps q w
  same_response ps =
      let a = same_allows ps in
      let d : map (λ p. p.id) (filter (cond (allows q w (filter keeps ps)) (permits q w) (forbids q w)) (filter keeps ps)) ≡ map (λ p. p.id) (filter (cond (allows q w ps) (permits q w) (forbids q w)) ps) =
      determining (allows q w (filter keeps ps)) ps ∙ ap (λ b. map (λ (p : PolicyTree). p.id) (filter (cond b (permits q w) (forbids q w)) ps)) a in
      let x = map_kept keeps (erring_of q w) ps no_error in
      λ i. record { decision = decided (a i); determining = d i; erring = x i }

pub false_ones_may_go : FalseOnesMayGo
false_ones_may_go q w keeps ps gone = same_response q w keeps gone ps
