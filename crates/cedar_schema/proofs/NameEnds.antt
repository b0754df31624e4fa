-- A name in a namespace ends in the name: what it ends in tells names apart.
use Rattle.std.proofs.Common.{◌≡◌, ◌==◌, ◌||◌, codes, ℕ, Bool, true, false, cond, nat_eq, bytes_eq, List, [], ◌∷◌, ◌++◌, length, refl, sym, ap, ◌∙◌, append_assoc}
use Rattle.std.specs.List.{list_any}
use Rattle.std.proofs.lemmas.Slice.Eq.{bytes_eq-Decides}
use Rattle.cedar_schema_json.specs.declared.schema_fault.SchemaFault.{SchemaFault}
use Rattle.cedar_schema_json.specs.declared.schema_fault.SchemaFault.TheVariants.{Shape, ReservedName}
use Rattle.cedar_schema_json.specs.Naming.{qualified, fault_if, text_faults}
use Rattle.cedar_schema_json.specs.Reading.{Scope}
use Rattle.cedar_schema_json.specs.Entries.{key_text_faults, entity_key_faults}

abbrev pub has_colon : List ℕ → Bool
has_colon = list_any (nat_eq 58)

pub no_first : {A : Type 0} (xs ys : List A) → xs ++ ys ≡ [] → xs ≡ []
no_first [] ys h = refl
no_first (x ∷ xs) ys h = cc

pub no_second : {A : Type 0} (xs ys : List A) → xs ++ ys ≡ [] → ys ≡ []
no_second [] ys h = h
no_second (x ∷ xs) ys h = cc

pub no_fault : (b : Bool) (e : SchemaFault) → fault_if b e ≡ [] → b ≡ false
no_fault true e h = cc
no_fault false e h = refl

or_true : (b : Bool) → (b || true) ≡ true
or_true true = refl
or_true false = refl

or_later : (a b : Bool) → b ≡ true → (a || b) ≡ true
or_later true b h = refl
or_later false b h = h

pub colon_in : (xs ys : List ℕ) → has_colon (xs ++ 58 ∷ ys) ≡ true
colon_in [] ys = refl
colon_in (x ∷ xs) ys = or_later (nat_eq 58 x) _ (colon_in xs ys)

tails : (a b : ℕ) (xs ys : List ℕ) → a ∷ xs ≡ b ∷ ys → xs ≡ ys
tails a b xs ys h = cc

-- after their last colons two equal texts are equal
same_ends : (xs ys k l : List ℕ) → has_colon k ≡ false → has_colon l ≡ false → xs ++ 58 ∷ k ≡ ys ++ 58 ∷ l → k ≡ l
same_ends [] [] k l p q h = tails 58 58 k l h
same_ends [] (y ∷ ys) k l p q h =
    let is : k ≡ ys ++ 58 ∷ l = tails 58 y k (ys ++ 58 ∷ l) h in
    let no : true ≡ false = sym (colon_in ys l) ∙ ap has_colon (sym is) ∙ p in cc
same_ends (x ∷ xs) [] k l p q h =
    let is : xs ++ 58 ∷ k ≡ l = tails x 58 (xs ++ 58 ∷ k) l h in
    let no : true ≡ false = sym (colon_in xs k) ∙ ap has_colon is ∙ q in cc
same_ends (x ∷ xs) (y ∷ ys) k l p q h = same_ends xs ys k l p q (tails x y (xs ++ 58 ∷ k) (ys ++ 58 ∷ l) h)

before_colon : (ns k : List ℕ) → ns ++ codes "::" ++ k ≡ (ns ++ 58 ∷ []) ++ 58 ∷ k
before_colon ns k = append_assoc ns (58 ∷ 58 ∷ []) k ∙ sym (append_assoc ns (58 ∷ []) (58 ∷ k))

at_ends : (ns ms k l : List ℕ) (a b : Bool) → has_colon k ≡ false → has_colon l ≡ false → cond a k (ns ++ codes "::" ++ k) ≡ cond b l (ms ++ codes "::" ++ l) → k ≡ l
at_ends ns ms k l true true p q h = h
at_ends ns ms k l true false p q h =
    let is : k ≡ (ms ++ 58 ∷ []) ++ 58 ∷ l = h ∙ before_colon ms l in
    let no : true ≡ false = sym (colon_in (ms ++ 58 ∷ []) l) ∙ ap has_colon (sym is) ∙ p in cc
at_ends ns ms k l false true p q h =
    let is : (ns ++ 58 ∷ []) ++ 58 ∷ k ≡ l = sym (before_colon ns k) ∙ h in
    let no : true ≡ false = sym (colon_in (ns ++ 58 ∷ []) k) ∙ ap has_colon is ∙ q in cc
at_ends ns ms k l false false p q h =
    same_ends (ns ++ 58 ∷ []) (ms ++ 58 ∷ []) k l p q (sym (before_colon ns k) ∙ h ∙ before_colon ms l)

pub qualified_ends : (ns ms k l : List ℕ) → has_colon k ≡ false → has_colon l ≡ false → qualified ns k ≡ qualified ms l → k ≡ l
unfolding qualified
qualified_ends ns ms k l p q h = at_ends ns ms k l (length ns == 0) (length ms == 0) p q h

key_parts : (sc : Scope) (k : List ℕ) → entity_key_faults sc k ≡ [] → key_text_faults k ≡ []
unfolding entity_key_faults
key_parts sc k h = no_first (key_text_faults k) _ h

no_action : (sc : Scope) (k : List ℕ) → entity_key_faults sc k ≡ [] → bytes_eq k (codes "Action") ≡ false
unfolding entity_key_faults
no_action sc k h = no_fault (bytes_eq k (codes "Action")) ReservedName (no_first _ _ (no_second (key_text_faults k) _ h))

pub no_colon : (k : List ℕ) → key_text_faults k ≡ [] → has_colon k ≡ false
unfolding key_text_faults
no_colon k h = no_fault (has_colon k) Shape (no_second (text_faults k) _ h)

-- an entity type is not called as an action's type, in whatever namespaces
pub is_no_action : (sc : Scope) (ns ms k : List ℕ) → entity_key_faults sc k ≡ [] → qualified ms (codes "Action") ≡ qualified ns k → ⊥
is_no_action sc ns ms k fine h =
    let is : codes "Action" ≡ k = qualified_ends ms ns (codes "Action") k refl (no_colon k (key_parts sc k fine)) h in
    let same : bytes_eq k (codes "Action") ≡ true = (bytes_eq-Decides k (codes "Action")).1 (sym is) in
    let no : true ≡ false = sym same ∙ no_action sc k fine in cc
