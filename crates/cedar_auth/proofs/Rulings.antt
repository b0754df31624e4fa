-- Which effect rules while the policies run.
use Rattle.std.proofs.Common.{◌≡◌, ℕ, suc, ◌==◌, ◌+◌, ◌<◌, ◌≤◌, get_or, Bool, true, false, not, ◌&&◌, if◌then◌else◌, List, [], ◌∷◌, ◌++◌, length, take, Option, Some, None, Ok, Err, arith, refl, sym, ap, ◌∙◌}
use Rattle.std.specs.List.{slice_get}
use Rattle.std.proofs.lemmas.List.{take_all}
use Rattle.cedar_value.specs.World.{World}
use Rattle.cedar_value.specs.declared.request.Request.{Request}
use Rattle.cedar_ast.specs.declared.decision.Decision.{Decision}
use Rattle.cedar_ast.specs.declared.decision.Decision.TheVariants.{Allow, Deny}
use Rattle.cedar_ast.specs.declared.effect.Effect.{Effect}
use Rattle.cedar_ast.specs.declared.effect.Effect.TheVariants.{Permit, Forbid}
use Rattle.cedar_ast.specs.PolicyTree.{PolicyTree}
use Rattle.cedar_ast.specs.Response.{ResponseTree, decided, meaning}
use Rattle.cedar_machine.specs.Verdict.{Verdict, verdict_of}
use Rattle.cedar_auth.specs.Private.Ruling.{decision_by, ruled, ruling_by, ruling_of}
use Rattle.cedar_auth.specs.Private.Selected.{policies_at}
use Rattle.cedar_auth.specs.Private.Tally.{TallyTree, allows, entered, response_by, tally_of}
use Rattle.cedar_auth.proofs.Tallies.{tally_of-next}

-- ---- one more policy

permit_more : (permits forbids : List (List ℕ)) (id : List ℕ) → ruling_by (permits ++ id ∷ []) forbids ≡ ruled (ruling_by permits forbids) Permit (Ok true)
permit_more [] [] id = refl
permit_more (p ∷ ps) [] id = refl
permit_more [] (f ∷ fs) id = refl
permit_more (p ∷ ps) (f ∷ fs) id = refl

forbid_more : (permits forbids : List (List ℕ)) (id : List ℕ) → ruling_by permits (forbids ++ id ∷ []) ≡ ruled (ruling_by permits forbids) Forbid (Ok true)
forbid_more [] [] id = refl
forbid_more (p ∷ ps) [] id = refl
forbid_more [] (f ∷ fs) id = refl
forbid_more (p ∷ ps) (f ∷ fs) id = refl

-- a policy that is not satisfied changes nothing
none_more : (r : Option Effect) (effect : Effect) → r ≡ ruled r effect (Ok false)
none_more None effect = refl
none_more (Some Permit) effect = refl
none_more (Some Forbid) effect = refl

error_more : (r : Option Effect) (effect : Effect) (v : Verdict) → ((b : Bool) → v ≡ Ok b → ⊥) → r ≡ ruled r effect v
error_more r effect (Ok b) none = absurd (none b refl)
error_more None effect (Err e) none = refl
error_more (Some Permit) effect (Err e) none = refl
error_more (Some Forbid) effect (Err e) none = refl

ruling_entered : (t : TallyTree) (id : List ℕ) (effect : Effect) (v : Verdict) → ruling_of (entered t id effect v) ≡ ruled (ruling_of t) effect v
ruling_entered t id Permit (Ok true) = permit_more t.permits t.forbids id
ruling_entered t id Forbid (Ok true) = forbid_more t.permits t.forbids id
ruling_entered t id Permit (Ok false) = none_more (ruling_of t) Permit
ruling_entered t id Forbid (Ok false) = none_more (ruling_of t) Forbid
ruling_entered t id Permit (Err e) = error_more (ruling_of t) Permit (Err e) (λ b is. cc)
ruling_entered t id Forbid (Err e) = error_more (ruling_of t) Forbid (Err e) (λ b is. cc)

pub ruled_next : (q : Request) (w : World) (ps : List PolicyTree) (ks : List ℕ) (i : ℕ) (p : PolicyTree) (r r' : Option Effect)
    → i < length ks → Some p ≡ slice_get ps (get_or ks i 0) → r ≡ ruling_of (tally_of q w (policies_at ps (take i ks))) → r' ≡ ruled r p.effect (verdict_of (meaning q w p))
    → r' ≡ ruling_of (tally_of q w (policies_at ps (take (i + 1) ks)))
ruled_next q w ps ks i p r r' low at was is =
    let t = tally_of q w (policies_at ps (take i ks)) in
    let v = verdict_of (meaning q w p) in
    is
    ∙ ap (λ (r : Option Effect). ruled r p.effect v) was
    ∙ sym (ruling_entered t p.id p.effect v)
    ∙ ap ruling_of (tally_of-next q w ps ks i p t (entered t p.id p.effect v) p.id p.effect v low at refl refl refl refl refl)

-- ---- the decision

not_zero : (n : ℕ) → (suc n == 0) ≡ false
not_zero n = grind arith

-- the decision, where there is no forbid and where there is no permit
said : Bool → Bool → Decision
said unforbidden unpermitted = decided (unforbidden && not unpermitted)

said_by : (permits forbids : List (List ℕ)) → decision_by (ruling_by permits forbids) ≡ said (length forbids == 0) (length permits == 0)
unfolding said
said_by [] [] = refl
said_by (p ∷ ps) [] = sym (ap (λ (b : Bool). decided (true && not b)) (not_zero (length ps)))
said_by [] (f ∷ fs) = sym (ap (λ (b : Bool). decided (b && not true)) (not_zero (length fs)))
said_by (p ∷ ps) (f ∷ fs) = sym (ap (λ (b : Bool). decided (b && not (length (p ∷ ps) == 0))) (not_zero (length fs)))

responded : Bool → TallyTree → ResponseTree
responded b t = if b then record { decision = Allow; determining = t.permits; erring = t.erring } else record { decision = Deny; determining = t.forbids; erring = t.erring }

chosen : (b : Bool) (t : TallyTree) → decided b ≡ (responded b t).decision
unfolding responded
chosen true t = refl
chosen false t = refl

decision_is : (t : TallyTree) → decision_by (ruling_of t) ≡ (response_by t).decision
unfolding said responded
decision_is t = said_by t.permits t.forbids ∙ chosen (allows t) t

-- no policy is left
pub ruled_all : (q : Request) (w : World) (ps : List PolicyTree) (ks : List ℕ) (i : ℕ) (r : Option Effect)
    → length ks ≤ i → r ≡ ruling_of (tally_of q w (policies_at ps (take i ks))) → decision_by r ≡ (response_by (tally_of q w (policies_at ps ks))).decision
ruled_all q w ps ks i r past was =
    ap decision_by was
    ∙ decision_is (tally_of q w (policies_at ps (take i ks)))
    ∙ ap (λ (js : List ℕ). (response_by (tally_of q w (policies_at ps js))).decision) (take_all i ks past)
