-- How good answers go on.
use Rattle.std.proofs.Common.{◌≡◌, ⊎_elim}
use Rattle.std.specs.Prelude.{Ok, Err}
use Rattle.cedar_value.specs.World.{World}
use Rattle.cedar_value.specs.declared.request.Request.{Request}
use Rattle.cedar_ast_expressions.specs.Answer.{Answer, with_answer}
use Rattle.cedar_check_spec.specs.Capabilities.{Capabilities, IsUnion, IsCommon, Hold}
use Rattle.cedar_check_spec.specs.Soundness.{GoodWith}
use Rattle.cedar_check_spec.specs.declared.settings.Settings.{Settings}

-- a step after a good answer
pub then_good : {A B : Type 0} (settings : Settings) (P : A → Type 0) (Q : B → Type 0) (o : Answer A) (k : A → Answer B) → GoodWith settings P o → ((v : A) → P v → GoodWith settings Q (k v)) → GoodWith settings Q (with_answer o k)
then_good settings P Q (Ok v) k h f = f v h
then_good settings P Q (Err e) k h f = h

-- a weaker property
pub good_weaker : {A : Type 0} (settings : Settings) (P Q : A → Type 0) (o : Answer A) → GoodWith settings P o → ((v : A) → P v → Q v) → GoodWith settings Q o
good_weaker settings P Q (Ok v) h f = f v h
good_weaker settings P Q (Err e) h f = h

-- where another step is known to give this
pub then_good_after : {A B : Type 0} (settings : Settings) (P : A → Type 0) (Q : B → Type 0) (o : Answer A) (j k : A → Answer B) (w : B) → GoodWith settings P o → with_answer o j ≡ Ok w → ((v : A) → P v → j v ≡ Ok w → GoodWith settings Q (k v)) → GoodWith settings Q (with_answer o k)
then_good_after settings P Q (Ok v) j k w h e f = f v h e
then_good_after settings P Q (Err e) j k w h d f = h

-- capabilities
pub holds_union : (q : Request) (w : World) (a b d : Capabilities) → IsUnion a b d → Hold q w a → Hold q w b → Hold q w d
holds_union q w a b d u ha hb = λ x m. ⊎_elim (ha x) (hb x) ((u.each x).0 m)

pub holds_common_left : (q : Request) (w : World) (a b d : Capabilities) → IsCommon a b d → Hold q w a → Hold q w d
holds_common_left q w a b d u h = λ x m. h x ((u.each x).0 m).0

pub holds_common_right : (q : Request) (w : World) (a b d : Capabilities) → IsCommon a b d → Hold q w b → Hold q w d
holds_common_right q w a b d u h = λ x m. h x ((u.each x).0 m).1
