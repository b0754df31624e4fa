-- Lemmas on parts of a report.
use Rattle.std.proofs.Common.{◌≡◌, ◌≤◌, ◌<◌, ℕ, zero, suc, ◌+◌, ◌-◌, Bool, true, false, cond, get_or, List, [], ◌∷◌, ◌++◌, length, map, take, drop, Option, None, Some, arith, refl, sym, ap, ap₂, subst, ◌∙◌, append_assoc, append-nil}
use Rattle.std.specs.List.{slice_get, flat_map}
use Rattle.std.proofs.Math.Seq.{take-add}
use Rattle.std.proofs.lemmas.List.{drop-drop, length-append, length-map, length-take-le, take_all, take_more}
use Rattle.serde_json.specs.Written.{compact_text}
use Rattle.base_lines.specs.Lines.{line_feed}
use Rattle.cedar_ast.specs.PolicyTree.{PolicyTree}
use Rattle.cedar_schema_spec.specs.SchemaTree.{SchemaTree}
use Rattle.cedar_check_spec.specs.Private.Reporting.{faults_of_with, all_faults_with, is_impossible_with, warnings_with}
use Rattle.cedar_check_spec.specs.Reports.{FaultTree, AreFaultsWith, of_none as no_faults, of_more, AreWarningsWith, on_none, on_satisfiable, on_impossible}
use Rattle.cedar_check_law.proofs.Reports.{are_faults, are_warnings, faults_are, warnings_are}
use Rattle.cedar_check_spec.specs.declared.settings.Settings.{Settings}
use Rattle.cedar_check_operators.specs.Numbers.{number_of}
use Rattle.cedar_check_operators.specs.declared.type_fault.TypeFault.TheVariants.{Undeclared}
use Rattle.cedar_files.specs.ReportJson.{fault_data, totals_data, warning_data}
use Rattle.cedar_files.specs.ReportPart.{IsReportPart, beginning, limit_after, stretch, totals_text, within_limit}
use Rattle.cedar_files.specs.ReportText.{ReportLine, fault_line, warning_line, totals_line, AreReported, of_none, of_satisfiable, of_impossible, Tells, TellsEach, IsReportText}
use Rattle.cedar_files.specs.Validation.{BeginsReport}
use Rattle.cedar_files.specs.Private.Reporting.{AppendsPart, AppendsWithin}
use Rattle.cedar_files.specs.Private.Telling.{AppendsLines}
use Rattle.cedar_files.specs.declared.report_place.ReportPlace.{ReportPlace}
use Rattle.cedar_files.proofs.Telling.{drop_got, lines-behind, lines_of, policy_lines, reported, tells-append, tells-one}

-- ---- lines within a limit

take-over : {A : Type 0} (n : ℕ) (xs ys : List A) → take n (xs ++ ys) ≡ take n xs ++ take (n - length xs) ys
take-over zero [] ys = refl
take-over {A} zero (x ∷ xs) ys = let e : 0 - length (x ∷ xs) ≡ 0 = omega arith in sym (ap (λ (k : ℕ). take k ys) e)
take-over (suc n) [] ys = let e : suc n ≡ suc n - 0 = omega arith in ap (λ (k : ℕ). take k ys) e
take-over (suc n) (x ∷ xs) ys =
    let e : n - length xs ≡ suc n - length (x ∷ xs) = omega arith in
    ap (λ l. x ∷ l) (take-over n xs ys ∙ ap (λ (k : ℕ). take n xs ++ take k ys) e)

within_more : (limit : Option ℕ) (xs ys : List ReportLine) → within_limit limit (xs ++ ys) ≡ within_limit limit xs ++ within_limit (limit_after limit (length xs)) ys
within_more None xs ys = refl
within_more (Some n) xs ys = take-over n xs ys

pub limit_more : (limit : Option ℕ) (m n : ℕ) → limit_after (limit_after limit m) n ≡ limit_after limit (m + n)
limit_more None m n = refl
limit_more (Some k) m n = let e : k - m - n ≡ k - (m + n) = omega arith in ap Some e

pub limit_none : (limit : Option ℕ) → limit ≡ limit_after limit 0
limit_none None = refl
limit_none (Some k) = let e : k ≡ k - 0 = omega arith in ap Some e

pub within_none : (limit : Option ℕ) → within_limit limit [] ≡ []
within_none None = refl
within_none (Some zero) = refl
within_none (Some (suc n)) = refl

-- no line is appended
pub appends-none : (limit : Option ℕ) (text : List ℕ) → AppendsWithin limit [] text text
appends-none limit text = ([], subst (λ (ls : List ReportLine). TellsEach ls []) (sym (within_none limit)) refl, sym (append-nil text))

-- some lines, and some more
pub appends-more : (limit : Option ℕ) (xs ys : List ReportLine) (old mid new : List ℕ) → AppendsWithin limit xs old mid
    → AppendsWithin (limit_after limit (length xs)) ys mid new → AppendsWithin limit (xs ++ ys) old new
appends-more limit xs ys old mid new h k =
    subst (λ (ls : List ReportLine). AppendsLines ls old new) (sym (within_more limit xs ys)) (lines-behind _ _ old mid new h k)

-- one line that may be written, or not
pub appends-taken : (limit : Option ℕ) (x : ReportLine) (r : Bool) (old new now : List ℕ) → within_limit limit (x ∷ []) ≡ cond r (x ∷ []) [] → r ≡ true
    → AppendsLines (x ∷ []) old new → now ≡ new → AppendsWithin limit (x ∷ []) old now
appends-taken limit x r old new now h e k n =
    subst (λ (ls : List ReportLine). AppendsLines ls old now) (sym (h ∙ ap (λ (b : Bool). cond b (x ∷ []) []) e))
    (subst (AppendsLines (x ∷ []) old) (sym n) k)

pub appends-left-out : (limit : Option ℕ) (x : ReportLine) (r : Bool) (old now : List ℕ) → within_limit limit (x ∷ []) ≡ cond r (x ∷ []) [] → r ≡ false
    → now ≡ old → AppendsWithin limit (x ∷ []) old now
appends-left-out limit x r old now h e n =
    subst (λ (ls : List ReportLine). AppendsLines ls old now) (sym (h ∙ ap (λ (b : Bool). cond b (x ∷ []) []) e)) ([], refl, n ∙ sym (append-nil old))

-- the line of one more element of a list, where F gives the lines of a list
pub lines-next : {A : Type 0} (F : List A → List ReportLine) (line : A → ReportLine) (limit : Option ℕ) (xs : List A) (i : ℕ) (x : A) (old mid new : List ℕ)
    → ((ys : List A) (y : A) → F (ys ++ y ∷ []) ≡ F ys ++ line y ∷ []) → ((ys : List A) → length (F ys) ≡ length ys)
    → i < length xs → x ≡ get_or xs i x → AppendsWithin limit (F (take i xs)) old mid → AppendsWithin (limit_after limit i) (line x ∷ []) mid new
    → AppendsWithin limit (F (take (i + 1) xs)) old new
lines-next F line limit xs i x old mid new more len lt is h k =
    let n : length (F (take i xs)) ≡ i = len (take i xs) ∙ length-take-le i xs (omega arith) in
    let whole : F (take (i + 1) xs) ≡ F (take i xs) ++ line x ∷ [] =
    ap F (take_more xs i x lt) ∙ more (take i xs) (get_or xs i x) ∙ ap (λ y. F (take i xs) ++ line y ∷ []) (sym is) in
    subst (λ (ls : List ReportLine). AppendsWithin limit ls old new) (sym whole)
    (appends-more limit (F (take i xs)) (line x ∷ []) old mid new h (subst (λ (m : ℕ). AppendsWithin (limit_after limit m) (line x ∷ []) mid new) (sym n) k))

-- the place after one more fault, or after one more warning
pub faults-next : (a b c : ReportPlace) (i : ℕ) → b ≡ record a { faults = a.faults + i; lines = limit_after a.lines i } → c ≡ record b { faults = b.faults + 1; lines = limit_after b.lines 1 }
    → c ≡ record a { faults = a.faults + (i + 1); lines = limit_after a.lines (i + 1) }
faults-next a b c i e k =
    let n : a.faults + i + 1 ≡ a.faults + (i + 1) = omega arith in
    k ∙ ap (λ (x : ReportPlace). record x { faults = x.faults + 1; lines = limit_after x.lines 1 }) e
    ∙ ap₂ (λ (m : ℕ) (l : Option ℕ). record a { faults = m; lines = l }) n (limit_more a.lines i 1)

pub warnings-next : (a b c : ReportPlace) (i : ℕ) → b ≡ record a { warnings = a.warnings + i; lines = limit_after a.lines i } → c ≡ record b { warnings = b.warnings + 1; lines = limit_after b.lines 1 }
    → c ≡ record a { warnings = a.warnings + (i + 1); lines = limit_after a.lines (i + 1) }
warnings-next a b c i e k =
    let n : a.warnings + i + 1 ≡ a.warnings + (i + 1) = omega arith in
    k ∙ ap (λ (x : ReportPlace). record x { warnings = x.warnings + 1; lines = limit_after x.lines 1 }) e
    ∙ ap₂ (λ (m : ℕ) (l : Option ℕ). record a { warnings = m; lines = l }) n (limit_more a.lines i 1)

-- ---- stretches

stretch_more : (i j k : ℕ) (ps : List PolicyTree) → i ≤ j → j ≤ k → stretch i k ps ≡ stretch i j ps ++ stretch j k ps
stretch_more i j k ps h l =
    let e : k - i ≡ (j - i) + (k - j) = omega arith in
    let d : i + (j - i) ≡ j = omega arith in
    ap (λ (n : ℕ). take n (drop i ps)) e
    ∙ take-add (j - i) (k - j) (drop i ps)
    ∙ ap (λ (qs : List PolicyTree). take (j - i) (drop i ps) ++ take (k - j) qs) (drop-drop (j - i) i ps ∙ ap (λ (n : ℕ). drop n ps) d)

stretch_one : (ps : List PolicyTree) (i : ℕ) (p : PolicyTree) → slice_get ps i ≡ Some p → stretch i (i + 1) ps ≡ p ∷ []
stretch_one ps i p e = let one : i + 1 - i ≡ 1 = omega arith in ap₂ (λ (n : ℕ) (qs : List PolicyTree). take n qs) one (drop_got ps i p e)

stretch_none : (i : ℕ) (ps : List PolicyTree) → stretch i i ps ≡ []
stretch_none i ps = let none : i - i ≡ 0 = omega arith in ap (λ (n : ℕ). take n (drop i ps)) none

-- ---- texts

tellable : (x : ReportLine) → (text : List ℕ) × Tells x text
tellable (fault_line f) = (compact_text (fault_data f (number_of Undeclared)), (Undeclared, refl))
tellable (warning_line policy) = (compact_text (warning_data policy), refl)
tellable (totals_line m n) = (compact_text (totals_data m n), refl)

tellable_each : (xs : List ReportLine) → (text : List ℕ) × TellsEach xs text
tellable_each [] = ([], refl)
tellable_each (x ∷ xs) =
    let first = tellable x in
    let more = tellable_each xs in
    (first.0 ++ line_feed ∷ more.0, (first.0, more.0, first.1, refl, more.1))

module _ (settings : Settings) (s : SchemaTree) where
  -- ---- what is reported of some policies and of more

  reported_more : {ps qs : List PolicyTree} {xs ys : List ReportLine} → AreReported settings s ps xs → AreReported settings s qs ys → AreReported settings s (ps ++ qs) (xs ++ ys)
  reported_more of_none k = k
  reported_more {qs = qs} {ys = ys} (of_satisfiable {p = p} {ps = ps} {faults = faults} {lines = lines} n d h) k =
      subst (AreReported settings s (p ∷ (ps ++ qs))) (sym (append_assoc (map fault_line faults) lines ys)) (of_satisfiable n d (reported_more h k))
  reported_more (of_impossible i h) k = of_impossible i (reported_more h k)

  faults_more : {ps qs : List PolicyTree} {xs ys : List FaultTree} → AreFaultsWith settings s ps xs → AreFaultsWith settings s qs ys → AreFaultsWith settings s (ps ++ qs) (xs ++ ys)
  faults_more no_faults k = k
  faults_more {qs = qs} {ys = ys} (of_more {p = p} {ps = ps} {faults = faults} {more = more} d h) k =
      subst (AreFaultsWith settings s (p ∷ (ps ++ qs))) (sym (append_assoc faults more ys)) (of_more d (faults_more h k))

  warnings_more : {ps qs : List PolicyTree} {xs ys : List (List ℕ)} → AreWarningsWith settings s ps xs → AreWarningsWith settings s qs ys → AreWarningsWith settings s (ps ++ qs) (xs ++ ys)
  warnings_more on_none k = k
  warnings_more (on_satisfiable n h) k = on_satisfiable n (warnings_more h k)
  warnings_more (on_impossible i h) k = on_impossible i (warnings_more h k)

  -- ---- parts

  module _ (ps : List PolicyTree) where
    -- a part of no policy
    pub no-part : (a : ReportPlace) → a.policy ≤ length ps → IsReportPart settings s ps a a []
    no-part a h =
        let none = stretch_none a.policy ps in
        record {
          lines = [];
          faults = [];
          warnings = [];
          forward = omega arith;
          within = h;
          reported = subst (λ (qs : List PolicyTree). AreReported settings s qs []) (sym none) of_none;
          are_faults = subst (λ (qs : List PolicyTree). AreFaultsWith settings s qs []) (sym none) no_faults;
          are_warnings = subst (λ (qs : List PolicyTree). AreWarningsWith settings s qs []) (sym none) on_none;
          faults_are = omega arith;
          warnings_are = omega arith;
          limit_is = limit_none a.lines;
          told = subst (λ (ls : List ReportLine). TellsEach ls []) (sym (within_none a.lines)) refl;
        }

    -- the part that begins a report
    pub begin-part : (place : ReportPlace) (text : List ℕ) → place ≡ beginning None → text ≡ [] → IsReportPart settings s ps (beginning None) place text
    begin-part place text b e =
        subst (IsReportPart settings s ps (beginning None) place) (sym e)
        (subst (λ (x : ReportPlace). IsReportPart settings s ps (beginning None) x []) (sym b) (no-part (beginning None) (omega arith)))

    -- two parts, one after the other
    pub join : (a b c : ReportPlace) (t u : List ℕ) → IsReportPart settings s ps a b t → IsReportPart settings s ps b c u → IsReportPart settings s ps a c (t ++ u)
    join a b c t u h k =
        let cut : stretch a.policy c.policy ps ≡ stretch a.policy b.policy ps ++ stretch b.policy c.policy ps = stretch_more a.policy b.policy c.policy ps h.forward k.forward in
        record {
          lines = h.lines ++ k.lines;
          faults = h.faults ++ k.faults;
          warnings = h.warnings ++ k.warnings;
          forward = omega arith;
          within = k.within;
          reported = subst (λ (qs : List PolicyTree). AreReported settings s qs (h.lines ++ k.lines)) (sym cut) (reported_more h.reported k.reported);
          are_faults = subst (λ (qs : List PolicyTree). AreFaultsWith settings s qs (h.faults ++ k.faults)) (sym cut) (faults_more h.are_faults k.are_faults);
          are_warnings = subst (λ (qs : List PolicyTree). AreWarningsWith settings s qs (h.warnings ++ k.warnings)) (sym cut) (warnings_more h.are_warnings k.are_warnings);
          faults_are = omega (arith, length-append h.faults k.faults);
          warnings_are = omega (arith, length-append h.warnings k.warnings);
          limit_is =
              k.limit_is ∙ ap (λ (limit : Option ℕ). limit_after limit (length k.lines)) h.limit_is
              ∙ limit_more a.lines (length h.lines) (length k.lines) ∙ ap (limit_after a.lines) (sym (length-append h.lines k.lines));
          told =
              subst (λ (ls : List ReportLine). TellsEach ls (t ++ u)) (sym (within_more a.lines h.lines k.lines))
              (tells-append _ _ t u h.told (subst (λ (limit : Option ℕ). TellsEach (within_limit limit k.lines) u) h.limit_is k.told));
        }

    -- a part, and what is appended as the next one
    pub join-on : (a b c : ReportPlace) (t old new : List ℕ) → IsReportPart settings s ps a b (t ++ old) → AppendsPart settings s ps b c old new → IsReportPart settings s ps a c (t ++ new)
    join-on a b c t old new h k =
        subst (IsReportPart settings s ps a c) (append_assoc t old k.0 ∙ ap (λ (u : List ℕ). t ++ u) (sym k.2)) (join a b c (t ++ old) k.0 h k.1)

    -- the part on all policies is the report, once the totals follow
    pub whole : (to : ReportPlace) (text : List ℕ) → IsReportPart settings s ps (beginning None) to text → to.policy ≡ length ps → IsReportText settings s ps (text ++ totals_text to)
    whole to text h e =
        let all : stretch 0 to.policy ps ≡ ps = take_all (to.policy - 0) ps (omega arith) in
        let m : length h.faults ≡ to.faults = omega arith in
        let n : length h.warnings ≡ to.warnings = omega arith in
        record {
          lines = h.lines;
          faults = h.faults;
          warnings = h.warnings;
          reported = subst (λ (qs : List PolicyTree). AreReported settings s qs h.lines) all h.reported;
          are_faults = subst (λ (qs : List PolicyTree). AreFaultsWith settings s qs h.faults) all h.are_faults;
          are_warnings = subst (λ (qs : List PolicyTree). AreWarningsWith settings s qs h.warnings) all h.are_warnings;
          told =
              subst (λ (x : ReportLine). TellsEach (h.lines ++ x ∷ []) (text ++ totals_text to)) (sym (ap₂ totals_line m n))
              (tells-append h.lines (totals_line to.faults to.warnings ∷ []) text (totals_text to) h.told
              (tells-one (totals_line to.faults to.warnings) (compact_text (totals_data to.faults to.warnings)) refl));
        }

    -- the place at the end of a report
    abbrev last_place : ReportPlace → ReportPlace
    last_place a = record {
      policy = length ps;
      faults = a.faults + length (all_faults_with settings s (stretch a.policy (length ps) ps));
      warnings = a.warnings + length (warnings_with settings s (stretch a.policy (length ps) ps));
      lines = limit_after a.lines (length (flat_map (policy_lines settings s) (stretch a.policy (length ps) ps)));
    }

    -- the part from a place to the end
    rest : (a : ReportPlace) → a.policy ≤ length ps → (text : List ℕ) × IsReportPart settings s ps a (last_place a) text
    rest a h =
        let qs = stretch a.policy (length ps) ps in
        let lines = flat_map (policy_lines settings s) qs in
        let told = tellable_each (within_limit a.lines lines) in (
          told.0,
          record {
            lines = lines;
            faults = all_faults_with settings s qs;
            warnings = warnings_with settings s qs;
            forward = h;
            within = omega arith;
            reported = reported settings s qs;
            are_faults = are_faults settings s qs;
            are_warnings = are_warnings settings s qs;
            faults_are = refl;
            warnings_are = refl;
            limit_is = refl;
            told = told.1;
          },
        )

    -- what begins a part from the beginning begins the report
    pub begun : (to : ReportPlace) (text more : List ℕ) → IsReportPart settings s ps (beginning None) to (text ++ more) → BeginsReport settings s ps text
    begun to text more h =
        let after = rest to h.within in
        let all = whole (last_place to) ((text ++ more) ++ after.0) (join (beginning None) to (last_place to) (text ++ more) after.0 h after.1) refl in
        let tail = totals_text (last_place to) in (
          more ++ (after.0 ++ tail),
          subst (IsReportText settings s ps) (append_assoc (text ++ more) after.0 tail ∙ append_assoc text more (after.0 ++ tail)) all,
        )

    -- ---- one policy

    warned_as : (p : PolicyTree) (b : Bool) → map warning_line (cond b (p.id ∷ []) []) ≡ cond b (warning_line p.id ∷ []) []
    warned_as p true = refl
    warned_as p false = refl

    ids_as : (p : PolicyTree) (b : Bool) → cond b (p.id ∷ []) [] ≡ map (λ (q : PolicyTree). q.id) (cond b (p ∷ []) [])
    ids_as p true = refl
    ids_as p false = refl

    -- the part that reports on one policy
    pub one : (p : PolicyTree) (a b : ReportPlace) (m n : ℕ) (fs : List FaultTree) (ids : List (List ℕ)) (old new : List ℕ)
        → slice_get ps a.policy ≡ Some p → a.policy < length ps
        → fs ≡ faults_of_with settings s p → ids ≡ cond (is_impossible_with settings s p) (p.id ∷ []) []
        → AppendsWithin a.lines (map fault_line fs ++ map warning_line ids) old new
        → m ≡ length fs → n ≡ length ids
        → b ≡ record { policy = a.policy + 1; faults = a.faults + m; warnings = a.warnings + n; lines = limit_after a.lines (m + n) }
        → AppendsPart settings s ps a b old new
    one p a b m n fs ids old new e lt f w k mf nw to =
        let lines : List ReportLine = map fault_line fs ++ map warning_line ids in
        let here : stretch a.policy b.policy ps ≡ p ∷ [] = ap (λ (x : ReportPlace). stretch a.policy x.policy ps) to ∙ stretch_one ps a.policy p e in
        let all : lines ≡ (map fault_line (faults_of_with settings s p) ++ cond (is_impossible_with settings s p) (warning_line p.id ∷ []) []) ++ [] =
        ap₂ (λ (xs : List FaultTree) (ys : List (List ℕ)). map fault_line xs ++ map warning_line ys) f w
        ∙ ap (λ (ls : List ReportLine). map fault_line (faults_of_with settings s p) ++ ls) (warned_as p (is_impossible_with settings s p))
        ∙ sym (append-nil _) in
        let told : AreReported settings s (p ∷ []) lines =
        subst (AreReported settings s (p ∷ [])) (sym all) (lines_of settings s p [] [] (is_impossible_with settings s p) refl of_none) in
        let faulty : AreFaultsWith settings s (p ∷ []) fs = subst (AreFaultsWith settings s (p ∷ [])) (append-nil _ ∙ sym f) (are_faults settings s (p ∷ [])) in
        let warned : AreWarningsWith settings s (p ∷ []) ids = subst (AreWarningsWith settings s (p ∷ [])) (sym (w ∙ ids_as p (is_impossible_with settings s p))) (are_warnings settings s (p ∷ [])) in (
          k.0,
          record {
            lines = lines;
            faults = fs;
            warnings = ids;
            forward = let at : b.policy ≡ a.policy + 1 = ap (λ (x : ReportPlace). x.policy) to in omega arith;
            within = let at : b.policy ≡ a.policy + 1 = ap (λ (x : ReportPlace). x.policy) to in omega arith;
            reported = subst (λ (qs : List PolicyTree). AreReported settings s qs lines) (sym here) told;
            are_faults = subst (λ (qs : List PolicyTree). AreFaultsWith settings s qs fs) (sym here) faulty;
            are_warnings = subst (λ (qs : List PolicyTree). AreWarningsWith settings s qs ids) (sym here) warned;
            faults_are = ap (λ (x : ReportPlace). x.faults) to ∙ ap (λ (x : ℕ). a.faults + x) mf;
            warnings_are = ap (λ (x : ReportPlace). x.warnings) to ∙ ap (λ (x : ℕ). a.warnings + x) nw;
            limit_is =
                ap (λ (x : ReportPlace). x.lines) to
                ∙ ap₂ (λ (x y : ℕ). limit_after a.lines (x + y)) mf nw
                ∙ ap (limit_after a.lines) (sym (length-append (map fault_line fs) (map warning_line ids) ∙ ap₂ (λ (x y : ℕ). x + y) (length-map fs fault_line) (length-map ids warning_line)));
            told = k.1;
          },
          k.2,
        )

    -- the same, where what was found is given
    pub one-found : (p : PolicyTree) (a b : ReportPlace) (m n : ℕ) (fs : List FaultTree) (ids : List (List ℕ)) (old new : List ℕ)
        → slice_get ps a.policy ≡ Some p → a.policy < length ps
        → AreFaultsWith settings s (p ∷ []) fs → AreWarningsWith settings s (p ∷ []) ids
        → AppendsWithin a.lines (map fault_line fs ++ map warning_line ids) old new
        → m ≡ length fs → n ≡ length ids
        → b ≡ record { policy = a.policy + 1; faults = a.faults + m; warnings = a.warnings + n; lines = limit_after a.lines (m + n) }
        → AppendsPart settings s ps a b old new
    one-found p a b m n fs ids old new e lt f w k mf nw to =
        one p a b m n fs ids old new e lt (faults_are settings s f ∙ append-nil _) (warnings_are settings s w ∙ sym (ids_as p (is_impossible_with settings s p))) k mf nw to
