-- A pattern is read part by part.
use Rattle.std.proofs.Common.{◌≡◌, List, [], ◌∷◌, ◌++◌, Option, Some, None, length, option_map, refl, sym, ap, ◌∙◌, append_assoc, append-nil}
use Rattle.serde_json.specs.View.{view, items_view}
use Rattle.serde_json.specs.declared.value.Value.{Value}
use Rattle.cedar_ext.specs.declared.pattern.Element.{Element}
use Rattle.cedar_policies_json.specs.Expressions.{one_after, part_read, parts_read}
use Rattle.cedar_policies_json.proofs.Lists.{prefixed}

one_part : (done new x : List Element) (left : Option (List Element)) → new ≡ done ++ x → prefixed done (one_after (Some x) left) ≡ prefixed new left
one_part done new x None e = refl
one_part done new x (Some xs) e = ap Some (sym (append_assoc done x xs)) ∙ ap (λ d. Some (d ++ xs)) (sym e)

pub parts_more : (done new : List Element) (xs : List Value) (v : Value) (rest : List Value) (x : List Element) (whole : Option (List Element)) → xs ≡ v ∷ rest → Some x ≡ part_read (view v) → new ≡ done ++ x
    → whole ≡ prefixed done (parts_read (items_view xs)) → whole ≡ prefixed new (parts_read (items_view rest))
unfolding parts_read
parts_more done new xs v rest x whole e is more h =
    h ∙ ap (λ ys. prefixed done (parts_read (items_view ys))) e
    ∙ ap (λ p. prefixed done (one_after p (parts_read (items_view rest)))) (sym is)
    ∙ one_part done new x (parts_read (items_view rest)) more

pub parts_stop : (done : List Element) (xs : List Value) (v : Value) (rest : List Value) (whole : Option (List Element)) → xs ≡ v ∷ rest → None ≡ part_read (view v)
    → whole ≡ prefixed done (parts_read (items_view xs)) → None ≡ whole
unfolding parts_read
parts_stop done xs v rest whole e is h =
    sym (h ∙ ap (λ ys. prefixed done (parts_read (items_view ys))) e ∙ ap (λ p. prefixed done (one_after p (parts_read (items_view rest)))) (sym is))

pub parts_end : (done : List Element) (xs : List Value) (whole : Option (List Element)) → length xs ≡ 0 → whole ≡ prefixed done (parts_read (items_view xs)) → Some done ≡ whole
unfolding parts_read
parts_end done [] whole e h = sym (h ∙ ap Some (append-nil done))
parts_end done (x ∷ xs) whole e h = cc
