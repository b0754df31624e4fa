use Rattle.std.proofs.Common.{◌≡◌, ◌++◌, ℕ, List, [], ◌∷◌, map, string_bytes, ap, subst, ◌∙◌}
use Rattle.std.specs.Str.{chars}
use Rattle.json.specs.Token.{string}
use Rattle.std.proofs.lemmas.Str.{chars-nil}
use Rattle.base_places.specs.Drafts.{Adds}
use Rattle.base_places.specs.Shown.{shown_as}
use Rattle.base_places.proofs.Drafts.{if_some}
use Rattle.base_places.proofs.json_draft.JsonDraft.shown.Goals as goal

pub returns-in-Ok : goal.returns-in-Ok
returns-in-Ok c =
    let t = string_bytes c.push_shown.new.shown in
    let is : chars t ≡ map shown_as (chars c.args.text.now) =
    c.in-Ok.ensures ∙ ap (λ (bytes : List ℕ). chars bytes ++ map shown_as (chars c.args.text.now)) c.new-shown.ensures.bytes ∙ ap (λ cs. cs ++ map shown_as (chars c.args.text.now)) chars-nil in
    let adds : Adds c.args.self.now (string t ∷ []) c.string.new.self =
    subst (λ (bytes : List ℕ). Adds c.args.self.now (string bytes ∷ []) c.string.new.self) c.as_str.ensures.value c.string.ensures in
    record { shown = if_some c.string.new.self (t, is, adds) }
