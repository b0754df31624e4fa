-- Lemmas on lines of a report, and on what is left of a report policy by policy.
use Rattle.std.proofs.Common.{◌≡◌, ℕ, zero, suc, ◌<◌, ◌+◌, Bool, true, false, not, cond, List, [], ◌∷◌, ◌++◌, length, map, drop, Some, None, Result, Ok, Err, OnOk, arith, refl, sym, ap, ap₂, subst, ◌∙◌, add-one, append_assoc, append-nil, drop-cons}
use Rattle.std.specs.Prelude.{filter, is_some, slice_index_or, AllPairs}
use Rattle.std.specs.List.{slice_get, flat_map}
use Rattle.std.specs.Str.{bytes_eq}
use Rattle.std.proofs.lemmas.Option.{slice_get_within, get_or_from_slice_get}
use Rattle.std.proofs.lemmas.Slice.Eq.{bytes_eq-Decides}
use Rattle.json.specs.Token.{Token}
use Rattle.json.specs.Print.{print}
use Rattle.serde_json.specs.Data.{Data}
use Rattle.serde_json.specs.Written.{compact_text}
use Rattle.serde_json.proofs.Texts.{print-outline}
use Rattle.cedar_ast.specs.PolicyTree.{PolicyTree}
use Rattle.cedar_ast.specs.PolicySetTree.{ids_of}
use Rattle.base_lines.specs.Lines.{line_feed}
use Rattle.cedar_schema_spec.specs.SchemaTree.{SchemaTree, environments_of}
use Rattle.cedar_schema_spec.specs.declared.environment.Environment.{Environment}
use Rattle.cedar_check_spec.specs.Private.Checking.{form_in_with}
use Rattle.cedar_check_spec.specs.Private.Reporting.{faults_in_with, faults_of_with, all_faults_with, is_impossible_with, warnings_with}
use Rattle.cedar_check_spec.specs.Reports.{FaultTree, fault_at}
use Rattle.cedar_check_law.proofs.Reports.{are_faults_in, faults_in_are, impossible, impossible_without_fault, not_impossible}
use Rattle.cedar_check_spec.specs.declared.settings.Settings.{Settings}
use Rattle.cedar_files.specs.ReportText.{ReportLine, fault_line, warning_line, AreReported, of_none, of_satisfiable, of_impossible, Tells, TellsEach}
use Rattle.cedar_files.specs.Private.Telling.{AppendsLines, faults_of_first, faults_after, begins_with}
use Rattle.cedar_files.specs.Private.Tokens.{data_tokens}

-- ---- texts

-- what tells these lines, and after it what tells more
pub tells-append : (xs ys : List ReportLine) (a b : List ℕ) → TellsEach xs a → TellsEach ys b → TellsEach (xs ++ ys) (a ++ b)
tells-append [] ys a b h k = subst (λ (t : List ℕ). TellsEach ys (t ++ b)) (sym h) k
tells-append (x ∷ xs) ys a b h k =
    (h.0, h.1 ++ b, h.2, ap (λ (t : List ℕ). t ++ b) h.3 ∙ append_assoc h.0 (line_feed ∷ h.1) b, tells-append xs ys h.1 b h.4 k)

-- one line
pub tells-one : (x : ReportLine) (told : List ℕ) → Tells x told → TellsEach (x ∷ []) (told ++ line_feed ∷ [])
tells-one x told h = (told, [], h, refl, refl)

-- a line written after a text
pub line-behind : {E : Type 0} (r : Result (Unit {0}) E) (x : ReportLine) (d : Data) (old before new : List ℕ) (none tokens : List Token) → Tells x (compact_text d)
    → before ≡ old → none ≡ [] → tokens ≡ none ++ data_tokens d → OnOk r (new ≡ before ++ print tokens ++ line_feed ∷ []) → OnOk r (AppendsLines (x ∷ []) old new)
line-behind {E} (Err e) x d old before new none tokens t b z w n = tt
line-behind {E} (Ok u) x d old before new none tokens t b z w n =
    let written : print tokens ≡ compact_text d = ap print (w ∙ ap (λ (u : List Token). u ++ data_tokens d) z) ∙ print-outline d in
    let whole : new ≡ (old ++ compact_text d) ++ line_feed ∷ [] = n ∙ ap₂ (λ (u v : List ℕ). (u ++ v) ++ line_feed ∷ []) b written in
    (compact_text d ++ line_feed ∷ [], tells-one x (compact_text d) t, whole ∙ append_assoc old (compact_text d) (line_feed ∷ []))

-- some lines and some more after a text
pub lines-behind : (xs ys : List ReportLine) (a b c : List ℕ) → AppendsLines xs a b → AppendsLines ys b c → AppendsLines (xs ++ ys) a c
lines-behind xs ys a b c h k =
    (h.0 ++ k.0, tells-append xs ys h.0 k.0 h.1 k.1, k.2 ∙ ap (λ (t : List ℕ). t ++ k.0) h.2 ∙ append_assoc a h.0 k.0)

-- ---- ids

pub same : (a b : List ℕ) → a ≡ b → bytes_eq a b ≡ true
same a b e = (bytes_eq-Decides a b).1 e

by_test : (a b : List ℕ) (t : Bool) → bytes_eq a b ≡ t → (a ≡ b → ⊥) → t ≡ false
by_test a b true e h = absurd (h ((bytes_eq-Decides a b).0 e))
by_test a b false e h = refl

pub other : (a b : List ℕ) → (a ≡ b → ⊥) → bytes_eq a b ≡ false
other a b h = by_test a b (bytes_eq a b) refl h

-- no policy of these has the id
abbrev pub IsFree : List ℕ → List PolicyTree → Type 0
IsFree id [] = Unit {0}
IsFree id (p ∷ ps) = (p.id ≡ id → ⊥) × IsFree id ps

-- no two of these policies have one id
abbrev pub AreApart : List PolicyTree → Type 0
AreApart [] = Unit {0}
AreApart (p ∷ ps) = IsFree p.id ps × AreApart ps

free_of : (ps : List PolicyTree) (ts : List (List ℕ)) (id : List ℕ)
    → ((j : ℕ) (d : List ℕ) → j < length (ids_of ps ++ ts) → id ≡ slice_index_or (ids_of ps ++ ts) j d → ⊥) → IsFree id ps
free_of [] ts id h = tt
free_of (p ∷ ps) ts id h =
    (λ e. h 0 id (omega arith) (sym e), free_of ps ts id (λ j d lt e. h (suc j) d (omega arith) e))

pub apart_of : (ps : List PolicyTree) (ts : List (List ℕ)) → AllPairs (λ k l. k ≡ l → ⊥) (ids_of ps ++ ts) → AreApart ps
apart_of [] ts h = tt
apart_of (p ∷ ps) ts h =
    (free_of ps ts p.id (λ j d lt e. h 0 (suc j) d (omega arith) (omega arith) e), apart_of ps ts (λ i j d lt within. h (suc i) (suc j) d (omega arith) (omega arith)))

pub drop_got : {A : Type 0} (xs : List A) (i : ℕ) (x : A) → slice_get xs i ≡ Some x → drop i xs ≡ x ∷ drop (i + 1) xs
drop_got xs i x e =
    drop-cons xs i x (slice_get_within xs i x e) ∙ ap₂ (λ y (n : ℕ). y ∷ drop n xs) (get_or_from_slice_get xs i x x e) (sym (add-one i))

-- a place within a list holds something
pub not_past : {A : Type 0} (xs : List A) (i : ℕ) → slice_get xs i ≡ None → i < length xs → ⊥
not_past [] i e lt = absurd (omega arith)
not_past (x ∷ xs) zero e lt = cc
not_past (x ∷ xs) (suc i) e lt = not_past xs i e (omega arith)

pub apart_next : (ps : List PolicyTree) (i : ℕ) (p : PolicyTree) → slice_get ps i ≡ Some p → AreApart (drop i ps) → AreApart (drop (i + 1) ps)
apart_next ps i p e h = (subst AreApart (drop_got ps i p e) h).1

-- ---- faults

-- each of these faults is of this policy
abbrev AllOf : List ℕ → List FaultTree → Type 0
AllOf id [] = Unit {0}
AllOf id (f ∷ fs) = (f.policy ≡ id) × AllOf id fs

-- none of these faults is of this policy
abbrev NoneOf : List ℕ → List FaultTree → Type 0
NoneOf id [] = Unit {0}
NoneOf id (f ∷ fs) = (f.policy ≡ id → ⊥) × NoneOf id fs

split_here : (id : List ℕ) (more : List FaultTree) → NoneOf id more → (faults_of_first id more ≡ []) × (faults_after id more ≡ more)
split_here id [] h = (refl, refl)
split_here id (f ∷ more) h = let b = other f.policy id h.0 in (rw b refl, rw b refl)

by_not : (b c : Bool) → c ≡ not b → b ≡ not c
by_not true c e = rw e refl
by_not false c e = rw e refl

-- the first fault is another policy's
pub no-first : (policy : List ℕ) (f : FaultTree) (fs all : List FaultTree) → all ≡ f ∷ fs → true ≡ not (bytes_eq f.policy policy)
    → map fault_line (faults_of_first policy all) ≡ []
no-first policy f fs all e h =
    ap (λ (l : List FaultTree). map fault_line (faults_of_first policy l)) e
    ∙ ap (λ (b : Bool). map fault_line (cond b (f ∷ faults_of_first policy fs) [])) (by_not _ _ h)

-- no fault is left
pub none-left : {A : Type 0} (view : A → FaultTree) (policy : List ℕ) (xs : List A) → length xs ≡ 0 → map fault_line (faults_of_first policy (map view xs)) ≡ []
none-left view policy [] e = refl
none-left view policy (x ∷ xs) e = absurd (omega arith)

-- the first fault is this policy's
pub one-first : (policy : List ℕ) (f : FaultTree) (fs all : List FaultTree) → all ≡ f ∷ fs → false ≡ not (bytes_eq f.policy policy)
    → map fault_line (faults_of_first policy all) ≡ fault_line f ∷ map fault_line (faults_of_first policy fs)
one-first policy f fs all e h =
    ap (λ (l : List FaultTree). map fault_line (faults_of_first policy l)) e
    ∙ ap (λ (b : Bool). map fault_line (cond b (f ∷ faults_of_first policy fs) [])) (by_not _ _ h)

pub after-one : (policy : List ℕ) (f : FaultTree) (fs all : List FaultTree) → all ≡ f ∷ fs → false ≡ not (bytes_eq f.policy policy)
    → faults_after policy fs ≡ faults_after policy all
after-one policy f fs all e h =
    sym (ap (faults_after policy) e ∙ ap (λ (b : Bool). cond b (faults_after policy fs) (f ∷ fs)) (by_not _ _ h))

split_behind : (id : List ℕ) (fs more : List FaultTree) → AllOf id fs → NoneOf id more
    → (faults_of_first id (fs ++ more) ≡ fs) × (faults_after id (fs ++ more) ≡ more)
split_behind id [] more h k = split_here id more k
split_behind id (f ∷ fs) more h k =
    let b = same f.policy id h.0 in
    let rest = split_behind id fs more h.1 k in
    (rw b (ap (λ l. f ∷ l) rest.0), rw b rest.1)

all_step : (id : List ℕ) (b : Bool) (f : FaultTree) (fs : List FaultTree) → f.policy ≡ id → AllOf id fs → AllOf id (cond b fs (f ∷ fs))
all_step id true f fs e h = h
all_step id false f fs e h = (e, h)

none_step : (id : List ℕ) (b : Bool) (f : FaultTree) (fs more : List FaultTree) → (f.policy ≡ id → ⊥) → NoneOf id (fs ++ more)
    → NoneOf id (cond b fs (f ∷ fs) ++ more)
none_step id true f fs more e h = h
none_step id false f fs more e h = (e, h)

module _ (settings : Settings) (s : SchemaTree) where
  all_in : (p : PolicyTree) (envs : List Environment) → AllOf p.id (faults_in_with settings s p envs)
  all_in p [] = tt
  all_in p (env ∷ envs) = all_step p.id (is_some (form_in_with settings s env p)) (fault_at p env) (faults_in_with settings s p envs) refl (all_in p envs)

  none_in : (id : List ℕ) (p : PolicyTree) (envs : List Environment) (more : List FaultTree) → (p.id ≡ id → ⊥) → NoneOf id more
      → NoneOf id (faults_in_with settings s p envs ++ more)
  none_in id p [] more e h = h
  none_in id p (env ∷ envs) more e h =
      none_step id (is_some (form_in_with settings s env p)) (fault_at p env) (faults_in_with settings s p envs) more e (none_in id p envs more e h)

  none_left : (id : List ℕ) (ps : List PolicyTree) → IsFree id ps → NoneOf id (all_faults_with settings s ps)
  none_left id [] h = tt
  none_left id (p ∷ ps) h = none_in id p (environments_of s.actions) (all_faults_with settings s ps) h.0 (none_left id ps h.1)

  -- the faults of the first policy are the first that are its own
  pub split : (p : PolicyTree) (ps : List PolicyTree) → IsFree p.id ps
      → (faults_of_first p.id (all_faults_with settings s (p ∷ ps)) ≡ faults_of_with settings s p) × (faults_after p.id (all_faults_with settings s (p ∷ ps)) ≡ all_faults_with settings s ps)
  split p ps h = split_behind p.id (faults_of_with settings s p) (all_faults_with settings s ps) (all_in p (environments_of s.actions)) (none_left p.id ps h)

  -- ---- warnings

  warned_step : (id : List ℕ) (b : Bool) (p : PolicyTree) (ps : List PolicyTree) → (p.id ≡ id → ⊥) → begins_with id (map (λ (q : PolicyTree). q.id) ps) ≡ false
      → begins_with id (map (λ (q : PolicyTree). q.id) (cond b (p ∷ ps) ps)) ≡ false
  warned_step id true p ps e h = other p.id id e
  warned_step id false p ps e h = h

  none_warned : (id : List ℕ) (ps : List PolicyTree) → IsFree id ps → begins_with id (warnings_with settings s ps) ≡ false
  none_warned id [] h = refl
  none_warned id (p ∷ ps) h = warned_step id (is_impossible_with settings s p) p (filter (is_impossible_with settings s) ps) h.0 (none_warned id ps h.1)

  warned_first : (b : Bool) (p : PolicyTree) (ps : List PolicyTree) → begins_with p.id (map (λ (q : PolicyTree). q.id) ps) ≡ false
      → begins_with p.id (map (λ (q : PolicyTree). q.id) (cond b (p ∷ ps) ps)) ≡ b
  warned_first true p ps h = same p.id p.id refl
  warned_first false p ps h = h

  after_first : (b : Bool) (p : PolicyTree) (ps : List PolicyTree)
      → cond b (drop 1 (map (λ (q : PolicyTree). q.id) (cond b (p ∷ ps) ps))) (map (λ (q : PolicyTree). q.id) (cond b (p ∷ ps) ps)) ≡ map (λ (q : PolicyTree). q.id) ps
  after_first true p ps = refl
  after_first false p ps = refl

  -- the first policy is warned of where the warnings begin with its id
  pub warned : (p : PolicyTree) (ps : List PolicyTree) → IsFree p.id ps → begins_with p.id (warnings_with settings s (p ∷ ps)) ≡ is_impossible_with settings s p
  warned p ps h = warned_first (is_impossible_with settings s p) p (filter (is_impossible_with settings s) ps) (none_warned p.id ps h)

  pub left : (p : PolicyTree) (ps : List PolicyTree) → IsFree p.id ps
      → cond (begins_with p.id (warnings_with settings s (p ∷ ps))) (drop 1 (warnings_with settings s (p ∷ ps))) (warnings_with settings s (p ∷ ps)) ≡ warnings_with settings s ps
  left p ps h =
      ap (λ b. cond b (drop 1 (warnings_with settings s (p ∷ ps))) (warnings_with settings s (p ∷ ps))) (warned p ps h)
      ∙ after_first (is_impossible_with settings s p) p (filter (is_impossible_with settings s) ps)

  -- ---- policies

  -- what is told of a policy: its faults, in the order of the environments, and a warning where no request can satisfy it
  abbrev pub policy_lines : PolicyTree → List ReportLine
  policy_lines p = map fault_line (faults_of_with settings s p) ++ cond (is_impossible_with settings s p) (warning_line p.id ∷ []) []

  pub lines_of : (p : PolicyTree) (ps : List PolicyTree) (lines : List ReportLine) (b : Bool) → is_impossible_with settings s p ≡ b → AreReported settings s ps lines
      → AreReported settings s (p ∷ ps) ((map fault_line (faults_of_with settings s p) ++ cond b (warning_line p.id ∷ []) []) ++ lines)
  lines_of p ps lines true e h =
      let none : faults_of_with settings s p ≡ [] = sym (faults_in_are settings s p (impossible_without_fault settings s p (impossible settings s p e))) in
      subst (λ (fs : List FaultTree). AreReported settings s (p ∷ ps) ((map fault_line fs ++ warning_line p.id ∷ []) ++ lines)) (sym none) (of_impossible (impossible settings s p e) h)
  lines_of p ps lines false e h =
      subst (λ (ls : List ReportLine). AreReported settings s (p ∷ ps) (ls ++ lines)) (sym (append-nil (map fault_line (faults_of_with settings s p))))
      (of_satisfiable (not_impossible settings s p e) (are_faults_in settings s p (environments_of s.actions)) h)

  pub reported : (ps : List PolicyTree) → AreReported settings s ps (flat_map policy_lines ps)
  reported [] = of_none
  reported (p ∷ ps) = lines_of p ps (flat_map policy_lines ps) (is_impossible_with settings s p) refl (reported ps)

  -- what is left of the faults and the warnings of all policies, before the policy at a place
  pub record IsLeft (ps : List PolicyTree) (i : ℕ) (fs : List FaultTree) (ids : List (List ℕ)) : Type 0 where
    pub faults : fs ≡ all_faults_with settings s (drop i ps)
    pub warnings : ids ≡ warnings_with settings s (drop i ps)

  -- what is cut off is the policy's own, and the others are left
  pub cut-next : (ps : List PolicyTree) (i : ℕ) (p : PolicyTree) (id : List ℕ) (fs own others : List FaultTree) (ids own' others' : List (List ℕ))
      → slice_get ps i ≡ Some p → id ≡ p.id → AreApart (drop i ps) → IsLeft ps i fs ids
      → own ≡ faults_of_first id fs → others ≡ faults_after id fs
      → own' ≡ cond (begins_with id ids) (id ∷ []) [] → others' ≡ cond (begins_with id ids) (drop 1 ids) ids
      → (own ≡ faults_of_with settings s p) × (own' ≡ cond (is_impossible_with settings s p) (p.id ∷ []) []) × IsLeft ps (i + 1) others others'
  cut-next ps i p id fs own others ids own' others' e d apart h o f w v =
      let at : drop i ps ≡ p ∷ drop (i + 1) ps = drop_got ps i p e in
      let free : IsFree p.id (drop (i + 1) ps) = (subst AreApart at apart).0 in
      let faults : fs ≡ all_faults_with settings s (p ∷ drop (i + 1) ps) = h.faults ∙ ap (all_faults_with settings s) at in
      let warnings : ids ≡ warnings_with settings s (p ∷ drop (i + 1) ps) = h.warnings ∙ ap (warnings_with settings s) at in
      let first : begins_with id ids ≡ is_impossible_with settings s p = ap₂ begins_with d warnings ∙ warned p (drop (i + 1) ps) free in (
        o ∙ ap₂ faults_of_first d faults ∙ (split p (drop (i + 1) ps) free).0,
        w ∙ ap₂ (λ (b : Bool) (x : List ℕ). cond b (x ∷ []) []) first d,
        record {
          faults = f ∙ ap₂ faults_after d faults ∙ (split p (drop (i + 1) ps) free).1;
          warnings = v ∙ ap₂ (λ (x : List ℕ) (ids : List (List ℕ)). cond (begins_with x ids) (drop 1 ids) ids) d warnings ∙ left p (drop (i + 1) ps) free;
        },
      )
