-- Lists and objects are read part by part.
use Rattle.std.proofs.Common.{◌≡◌, ℕ, List, [], ◌∷◌, ◌++◌, Option, Some, None, length, option_map, refl, sym, ap, ◌∙◌, append_assoc, append-nil, string_bytes}
use Rattle.std.proofs.Common.{String, Global}
use Rattle.serde_json.specs.Data.{Data}
use Rattle.serde_json.specs.View.{view, items_view, members_view}
use Rattle.serde_json.specs.declared.value.Value.{Value}
use Rattle.serde_json.proofs.Views.{Entry}
use Rattle.cedar_policies_json.specs.Parts.{in_front, each_read, members_read}

-- what was read, before what is left to be read, where that denotes something
abbrev pub prefixed : {A : Type 0} → List A → Option (List A) → Option (List A)
prefixed done left = option_map (λ rest. done ++ rest) left

pub none_read : {A : Type 0} (done : List A) (whole : Option (List A)) → done ≡ [] → whole ≡ prefixed done whole
none_read done None e = refl
none_read done (Some xs) e = ap (λ d. Some (d ++ xs)) (sym e)

one_more : {A : Type 0} (done new : List A) (x : A) (left : Option (List A)) → new ≡ done ++ x ∷ [] → prefixed done (in_front (Some x) left) ≡ prefixed new left
one_more done new x None e = refl
one_more done new x (Some xs) e = ap Some (sym (append_assoc done (x ∷ []) xs)) ∙ ap (λ d. Some (d ++ xs)) (sym e)

-- one more part is read
pub more_read : {A : Type 0} (done new : List A) (x : A) (o : Option A) (left whole : Option (List A)) → Some x ≡ o → new ≡ done ++ x ∷ [] → whole ≡ prefixed done (in_front o left) → whole ≡ prefixed new left
more_read done new x o left whole is e h = h ∙ ap (λ p. prefixed done (in_front p left)) (sym is) ∙ one_more done new x left e

-- a part denotes nothing
pub no_more_read : {A : Type 0} (done : List A) (o : Option A) (left whole : Option (List A)) → None ≡ o → whole ≡ prefixed done (in_front o left) → None ≡ whole
no_more_read done o left whole is h = sym (h ∙ ap (λ p. prefixed done (in_front p left)) (sym is))

-- ---- lists

pub items_more : {A : Type 0} (f : Data → Option A) (done new : List A) (xs : List Value) (x : Value) (rest : List Value) (a : A) (whole : Option (List A)) → xs ≡ x ∷ rest → Some a ≡ f (view x) → new ≡ done ++ a ∷ []
    → whole ≡ prefixed done (each_read f (items_view xs)) → whole ≡ prefixed new (each_read f (items_view rest))
unfolding each_read
items_more f done new xs x rest a whole e is more h =
    more_read done new a (f (view x)) (each_read f (items_view rest)) whole is more (h ∙ ap (λ ys. prefixed done (each_read f (items_view ys))) e)

pub items_stop : {A : Type 0} (f : Data → Option A) (done : List A) (xs : List Value) (x : Value) (rest : List Value) (whole : Option (List A)) → xs ≡ x ∷ rest → None ≡ f (view x)
    → whole ≡ prefixed done (each_read f (items_view xs)) → None ≡ whole
unfolding each_read
items_stop f done xs x rest whole e is h =
    no_more_read done (f (view x)) (each_read f (items_view rest)) whole is (h ∙ ap (λ ys. prefixed done (each_read f (items_view ys))) e)

pub items_end : {A : Type 0} (f : Data → Option A) (done : List A) (xs : List Value) (whole : Option (List A)) → length xs ≡ 0 → whole ≡ prefixed done (each_read f (items_view xs)) → Some done ≡ whole
unfolding each_read
items_end f done [] whole e h = sym (h ∙ ap Some (append-nil done))
items_end f done (x ∷ xs) whole e h = cc

-- ---- objects

pub entries_more : {A : Type 0} (f : List ℕ → Data → Option A) (done new : List A) (es : List Entry) (e : Entry) (rest : List Entry) (a : A) (whole : Option (List A)) → es ≡ e ∷ rest → Some a ≡ f (string_bytes e.0) (view e.1) → new ≡ done ++ a ∷ []
    → whole ≡ prefixed done (members_read f (members_view es)) → whole ≡ prefixed new (members_read f (members_view rest))
unfolding members_read
entries_more f done new es e rest a whole is one more h =
    more_read done new a (f (string_bytes e.0) (view e.1)) (members_read f (members_view rest)) whole one more (h ∙ ap (λ ys. prefixed done (members_read f (members_view ys))) is)

pub entries_stop : {A : Type 0} (f : List ℕ → Data → Option A) (done : List A) (es : List Entry) (e : Entry) (rest : List Entry) (whole : Option (List A)) → es ≡ e ∷ rest → None ≡ f (string_bytes e.0) (view e.1)
    → whole ≡ prefixed done (members_read f (members_view es)) → None ≡ whole
unfolding members_read
entries_stop f done es e rest whole is none h =
    no_more_read done (f (string_bytes e.0) (view e.1)) (members_read f (members_view rest)) whole none (h ∙ ap (λ ys. prefixed done (members_read f (members_view ys))) is)

pub entries_end : {A : Type 0} (f : List ℕ → Data → Option A) (done : List A) (es : List Entry) (whole : Option (List A)) → es ≡ [] → whole ≡ prefixed done (members_read f (members_view es)) → Some done ≡ whole
unfolding members_read
entries_end f done es whole e h = sym (h ∙ ap (λ ys. prefixed done (members_read f (members_view ys))) e ∙ ap Some (append-nil done))
