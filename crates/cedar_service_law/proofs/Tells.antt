-- The results entered decide the response.
use Rattle.std.proofs.Common.{◌≡◌, ℕ, Bool, true, false, not, ◌&&◌, cond, if◌then◌else◌, List, [], ◌∷◌, ◌++◌, map, filter, Ok, Err, refl, ap, ◌∙◌, append-nil}
use Rattle.std.specs.List.{cons_option, filter_map}
use Rattle.std.proofs.lemmas.List.Elements.{filter_map-append}
use Rattle.cedar_value.specs.Datum.{Datum, boolean}
use Rattle.cedar_value.specs.World.{World}
use Rattle.cedar_value.specs.declared.request.Request.{Request}
use Rattle.cedar_ast.specs.declared.effect.Effect.{Effect}
use Rattle.cedar_ast.specs.declared.effect.Effect.TheVariants.{Permit, Forbid}
use Rattle.cedar_ast_expressions.specs.Answer.{Answer}
use Rattle.cedar_ast.specs.PolicyTree.{PolicyTree}
use Rattle.cedar_ast.specs.Response.{ErringTree, ResponseTree, meaning, is_true, is_permit, permits, forbids, erring_by, erring_of, allows, decided, response}
use Rattle.cedar_code.specs.Machine.{outcome_of}
use Rattle.cedar_auth_spec.proofs.Ids.{ids_where, ids_where-append, ids_first, allows_is}
use Rattle.cedar_service_law.specs.Results.{Results, entered, allowed_by, decided_by}
use Rattle.cedar_service_law.specs.Jobs.{tells, IsPartToRun, none_to_run, runs, leaves_out}

-- what the runs of these policies enter
abbrev pub results_of : Request → World → List PolicyTree → Results
results_of q w ps = record { permits = ids_where (permits q w) ps; forbids = ids_where (forbids q w) ps; erring = filter_map (erring_of q w) ps }

results : List (List ℕ) → List (List ℕ) → List ErringTree → Results
results permits forbids erring = record { permits = permits; forbids = forbids; erring = erring }

same_results : (a b c d : List (List ℕ)) (e f : List ErringTree) → a ≡ b → c ≡ d → e ≡ f → results a c e ≡ results b d f
same_results a b c d e f p q r = cc

-- one more result is entered, part by part
entered_by : (r : Results) (id : List ℕ) (effect : Effect) (a : Answer Datum)
    → results (r.permits ++ (if is_permit effect && is_true a then id ∷ [] else []))
    (r.forbids ++ (if not (is_permit effect) && is_true a then id ∷ [] else [])) (r.erring ++ cons_option (erring_by a id) [])
    ≡ entered r id effect (outcome_of a)
unfolding results
entered_by r id Permit (Err e) = simp append-nil
entered_by r id Permit (Ok (boolean true)) = simp append-nil
entered_by r id Permit (Ok (boolean false)) = simp append-nil
entered_by r id Permit (Ok _) = simp append-nil
entered_by r id Forbid (Err e) = simp append-nil
entered_by r id Forbid (Ok (boolean true)) = simp append-nil
entered_by r id Forbid (Ok (boolean false)) = simp append-nil
entered_by r id Forbid (Ok _) = simp append-nil

pub results_of-append : (q : Request) (w : World) (ps : List PolicyTree) (p : PolicyTree)
    → results_of q w (ps ++ p ∷ []) ≡ entered (results_of q w ps) p.id p.effect (outcome_of (meaning q w p))
unfolding results
results_of-append q w ps p =
    same_results _ _ _ _ _ _ (ids_where-append (permits q w) ps p) (ids_where-append (forbids q w) ps p) (filter_map-append (erring_of q w) ps (p ∷ []))
    ∙ entered_by (results_of q w ps) p.id p.effect (meaning q w p)

-- what is left out of a part to run enters nothing
not_kept : (b : Bool) (p : PolicyTree) (xs : List PolicyTree) → b ≡ false → xs ≡ cond b (p ∷ xs) xs
not_kept true p xs e = cc
not_kept false p xs e = refl

ids_of_part : (q : Request) (w : World) (test : PolicyTree → Bool) → ((p : PolicyTree) → tells (meaning q w p) ≡ false → test p ≡ false)
    → (part all : List PolicyTree) → IsPartToRun q w part all → ids_where test part ≡ ids_where test all
ids_of_part q w test idle part all none_to_run = refl
ids_of_part q w test idle part all (runs p ps qs h) = ids_first (test p) p (filter test ps) (filter test qs) (ids_of_part q w test idle ps qs h)
ids_of_part q w test idle part all (leaves_out p ps qs e h) =
    ids_of_part q w test idle ps qs h ∙ ap (map (λ (p : PolicyTree). p.id)) (not_kept (test p) p (filter test qs) (idle p e))

idle : (b : Bool) (a : Answer Datum) → tells a ≡ false → (b && is_true a) ≡ false
idle true (Ok v) e = e
idle false (Ok v) e = refl
idle b (Err x) e = absurd (cc e)

nothing_erred : (a : Answer Datum) (id : List ℕ) (es : List ErringTree) → tells a ≡ false → es ≡ cons_option (erring_by a id) es
nothing_erred (Ok v) id es e = refl
nothing_erred (Err x) id es e = absurd (cc e)

erring_of_part : (q : Request) (w : World) (part all : List PolicyTree) → IsPartToRun q w part all → filter_map (erring_of q w) part ≡ filter_map (erring_of q w) all
erring_of_part q w part all none_to_run = refl
erring_of_part q w part all (runs p ps qs h) = ap (cons_option (erring_of q w p)) (erring_of_part q w ps qs h)
erring_of_part q w part all (leaves_out p ps qs e h) = erring_of_part q w ps qs h ∙ nothing_erred (meaning q w p) p.id (filter_map (erring_of q w) qs) e

pub results_of_part : (q : Request) (w : World) (part all : List PolicyTree) → IsPartToRun q w part all → results_of q w part ≡ results_of q w all
unfolding results
results_of_part q w part all h =
    same_results _ _ _ _ _ _ (ids_of_part q w (permits q w) (λ p e. idle (is_permit p.effect) (meaning q w p) e) part all h)
    (ids_of_part q w (forbids q w) (λ p e. idle (not (is_permit p.effect)) (meaning q w p) e) part all h)
    (erring_of_part q w part all h)

chosen : (b : Bool) (f g : PolicyTree → Bool) (ps : List PolicyTree)
    → (if b then ids_where f ps else ids_where g ps) ≡ map (λ (p : PolicyTree). p.id) (filter (if b then f else g) ps)
chosen true f g ps = refl
chosen false f g ps = refl

answer : Bool → List (List ℕ) → List ErringTree → ResponseTree
answer allowed ids erring = record { decision = decided allowed; determining = ids; erring = erring }

-- the results of all policies decide the response
pub results_decide : (q : Request) (w : World) (ps : List PolicyTree) → decided_by (results_of q w ps) ≡ response ps q w
unfolding answer
results_decide q w ps =
    let forbidden = ids_where (forbids q w) ps in
    let permitted = ids_where (permits q w) ps in
    let same : allowed_by (results_of q w ps) ≡ allows q w ps = allows_is q w ps in
    ap (λ (b : Bool). answer b (if b then permitted else forbidden) (filter_map (erring_of q w) ps)) same
    ∙ ap (λ (ids : List (List ℕ)). answer (allows q w ps) ids (filter_map (erring_of q w) ps)) (chosen (allows q w ps) (permits q w) (forbids q w) ps)
