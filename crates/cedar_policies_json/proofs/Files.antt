-- What bytes write, and why they write nothing.
use Rattle.std.proofs.Common.{◌≡◌, refl, sym, ap, subst, ◌∙◌, ℕ, ◌+◌, ◌<◌, List, [], ◌∷◌, ◌++◌, length, take, get_or, map, option_map, Option, Some, None, suc, true, false, arith}
use Rattle.std.specs.Prelude.{Contains, slice_get}
use Rattle.std.proofs.lemmas.Option.{slice_get_within, slice_get-map, get_or_from_slice_get}
use Rattle.std.proofs.lemmas.List.{get_or-take, length-take, take-map}
use Rattle.std.specs.Str.{IsUtf8, is_utf8}
use Rattle.std.proofs.lemmas.Bool.{false_from_ne_true}
use Rattle.std.proofs.lemmas.Str.{IsUtf8-from_is_utf8}
use Rattle.serde_json.specs.Data.{Data}
use Rattle.base_json.specs.JsonTree.{json_of}
use Rattle.cedar_ext.specs.declared.language.Language.{Language}
use Rattle.cedar_ast.specs.PolicySetTree.{PolicySetTree, no_policies}
use Rattle.cedar_ast.specs.declared.link.Link.{Link}
use Rattle.cedar_ast_expressions.specs.Keys.{AreDistinct}
use Rattle.cedar_parser_limits.specs.StatementLimits.{IsWithinLimits, Breaks}
use Rattle.cedar_parser_limits.specs.declared.side_condition.SideCondition.TheVariants.{Strings, Numbers, Keys, Names, Counts, Slots, Annotations}
use Rattle.cedar_parser_tokens.specs.declared.parse_fault.ParseFault.{ParseFault}
use Rattle.cedar_parser_tokens.specs.declared.parse_fault.ParseFault.TheVariants as f
use Rattle.cedar_policies_json.specs.declared.named_statement.NamedStatement.{NamedStatement}
use Rattle.cedar_policies_json.specs.declared.policy_file_fault.PolicyFileFault.{PolicyFileFault}
use Rattle.cedar_policies_json.specs.declared.policy_file_fault.PolicyFileFault.TheVariants as file
use Rattle.cedar_policies_json.specs.PolicyFiles.{ArePolicies, HasFault, HasFaultAt, HasStatementFault, IsPolicyFile, Writes, entered_all, file_read, ids_of}
use Rattle.cedar_policies_json.specs.Repeats.{has_each_key_once}
use Rattle.cedar_policies_json.specs.Private.Entering.{RefusesSet}

-- what is written
pub writes : (bytes : List ℕ) (d : Data) (ns : List NamedStatement) (links : List Link) → json_of bytes ≡ Some d → has_each_key_once bytes d ≡ true → file_read d ≡ Some (ns, links) → Writes bytes ns links
writes bytes d ns links e o h = record { tree = d; is_json = e; once = o; reading = h }

-- bytes write one list of statements, and one of links
pub record AreSame (ns : List NamedStatement) (links : List Link) (ms : List NamedStatement) (others : List Link) : Type 0 where
  pub statements : ms ≡ ns
  pub links_are : others ≡ links

pub one_writing : (bytes : List ℕ) (ns : List NamedStatement) (links : List Link) (ms : List NamedStatement) (others : List Link) → Writes bytes ns links → Writes bytes ms others → AreSame ns links ms others
one_writing bytes ns links ms others w v =
    let tree : Some v.tree ≡ Some w.tree = sym v.is_json ∙ w.is_json in
    let same : v.tree ≡ w.tree = cc in
    let pairs : Some (ms, others) ≡ Some (ns, links) = sym v.reading ∙ ap file_read same ∙ w.reading in
    let both : (ms, others) ≡ (ns, links) = cc in
    record { statements = ap (λ (p : List NamedStatement × List Link). p.0) both; links_are = ap (λ (p : List NamedStatement × List Link). p.1) both }

-- where the statements are policies, none has a fault
none_broken : (l : Language) (n : NamedStatement) (before : List NamedStatement) → IsWithinLimits l n.statement → (Contains (ids_of before) n.id → ⊥) → (x : ParseFault) → HasStatementFault l before n x → ⊥
none_broken l n before kept d f.OutOfMemory e = e
none_broken l n before kept d (f.DuplicateId at) e = d e
none_broken l n before kept d (f.EscapedStar at) e = e (kept.keeps Strings)
none_broken l n before kept d (f.NumberTooLarge at) e = e (kept.keeps Numbers)
none_broken l n before kept d (f.DuplicateKey at) e = e (kept.keeps Keys)
none_broken l n before kept d (f.UnknownFunction at) e = e (kept.keeps Names)
none_broken l n before kept d (f.Arity at) e = e (kept.keeps Counts)
none_broken l n before kept d (f.SlotMisplaced at) e = e (kept.keeps Slots)
none_broken l n before kept d (f.DuplicateAnnotation at) e = e (kept.keeps Annotations)
none_broken l n before kept d (f.TooHigh at) e = let low = kept.low in omega arith
none_broken l n before kept d (f.TooLarge at) e = let small = kept.small in omega arith
none_broken l n before kept d (f.Text y) e = e
none_broken l n before kept d (f.Syntax at) e = e
none_broken l n before kept d (f.TooDeep at) e = e

not_before : (xs : List (List ℕ)) (k : ℕ) (y : List ℕ) → AreDistinct xs → slice_get xs k ≡ Some y → Contains (take k xs) y → ⊥
not_before xs k y d e c =
    let within = slice_get_within xs k y e in
    let short : c.0 < k = omega (arith, c.1, length-take k xs) in
    d c.0 k y short within (sym (get_or-take k xs c.0 y short) ∙ c.2 ∙ sym (get_or_from_slice_get xs k y y e))

fresh : (ns : List NamedStatement) (k : ℕ) (n : NamedStatement) → AreDistinct (ids_of ns) → slice_get ns k ≡ Some n → Contains (ids_of (take k ns)) n.id → ⊥
fresh ns k n d e c =
    not_before (ids_of ns) k n.id d (slice_get-map (λ (n : NamedStatement). n.id) ns k ∙ ap (option_map (λ (n : NamedStatement). n.id)) e)
    (subst (λ (xs : List (List ℕ)). Contains xs n.id) (sym (take-map (λ (n : NamedStatement). n.id) k ns)) c)

none_at : (l : Language) (ns : List NamedStatement) (set : PolicySetTree) (k : ℕ) (x : ParseFault) → ArePolicies l ns set → HasFaultAt l ns k x → ⊥
none_at l ns set k x a h =
    let n = h.statement in
    let kept : IsWithinLimits l n.statement = subst (λ (m : NamedStatement). IsWithinLimits l m.statement) (get_or_from_slice_get ns k n n h.at) (a.limits k n (slice_get_within ns k n h.at)) in
    none_broken l n (take k ns) kept (fresh ns k n a.distinct h.at) x h.has

-- ---- what a file is, and is not

pub not_json : (l : Language) (bytes : List ℕ) → json_of bytes ≡ None → (set : PolicySetTree) (links : List Link) → IsPolicyFile l bytes set links → ⊥
not_json l bytes e set links h = let w = h.written.is_json in cc

pub not_shaped : (l : Language) (bytes : List ℕ) (d : Data) → json_of bytes ≡ Some d → file_read d ≡ None → (set : PolicySetTree) (links : List Link) → IsPolicyFile l bytes set links → ⊥
not_shaped l bytes d e none set links h =
    let trees : Some h.written.tree ≡ Some d = sym h.written.is_json ∙ e in
    let same : h.written.tree ≡ d = cc in
    let reading : Some (h.statements, links) ≡ None = sym h.written.reading ∙ ap file_read same ∙ none in
    cc

pub not_once : (l : Language) (bytes : List ℕ) (d : Data) → json_of bytes ≡ Some d → has_each_key_once bytes d ≡ false → (set : PolicySetTree) (links : List Link) → IsPolicyFile l bytes set links → ⊥
not_once l bytes d e repeated set links h =
    let trees : Some h.written.tree ≡ Some d = sym h.written.is_json ∙ e in
    let same : h.written.tree ≡ d = cc in
    let never : true ≡ false = sym h.written.once ∙ ap (has_each_key_once bytes) same ∙ repeated in
    cc

pub refused_only : (l : Language) (bytes : List ℕ) (ns : List NamedStatement) (links : List Link) → Writes bytes ns links → (x : PolicyFileFault) → RefusesSet l ns x → (set : PolicySetTree) (others : List Link) → IsPolicyFile l bytes set others
    → x ≡ file.OutOfMemory
refused_only l bytes ns links w file.OutOfMemory h set others i = refl
refused_only l bytes ns links w file.Json h set others i = absurd h
refused_only l bytes ns links w file.RepeatedKey h set others i = absurd h
refused_only l bytes ns links w file.Shape h set others i = absurd h
refused_only l bytes ns links w (file.Statement k x) h set others i =
    let same = one_writing bytes ns links i.statements others w i.written in
    absurd (none_at l ns set k x (subst (λ (ms : List NamedStatement). ArePolicies l ms set) same.statements i.are_policies) h)

pub refused_fault : (l : Language) (bytes : List ℕ) (ns : List NamedStatement) (links : List Link) → Writes bytes ns links → (x : PolicyFileFault) → RefusesSet l ns x → HasFault l bytes x
refused_fault l bytes ns links w file.OutOfMemory h = tt
refused_fault l bytes ns links w file.Json h = absurd h
refused_fault l bytes ns links w file.RepeatedKey h = absurd h
refused_fault l bytes ns links w file.Shape h = absurd h
refused_fault l bytes ns links w (file.Statement k x) h = record { statements = ns; links = links; written = w; has = h }

-- the set is the one that bytes write, and so are the links
pub record IsTheFile (set : PolicySetTree) (links : List Link) (other : PolicySetTree) (others : List Link) : Type 0 where
  pub sets : set ≡ other
  pub links_are : links ≡ others

pub one_file : (l : Language) (bytes : List ℕ) (ns : List NamedStatement) (links : List Link) (set : PolicySetTree) → Writes bytes ns links → ArePolicies l ns set → (other : PolicySetTree) (others : List Link) → IsPolicyFile l bytes other others
    → IsTheFile set links other others
one_file l bytes ns links set w a other others i =
    let same = one_writing bytes ns links i.statements others w i.written in
    record {
      sets = a.meaning ∙ ap (entered_all no_policies) (sym same.statements) ∙ sym i.are_policies.meaning;
      links_are = sym same.links_are;
    }

-- bytes that are not UTF-8 are not JSON
pub no_text : (bytes : List ℕ) → (IsUtf8 bytes → ⊥) → json_of bytes ≡ None
no_text bytes h = rw (false_from_ne_true (is_utf8 bytes) (λ e. h (IsUtf8-from_is_utf8 bytes e))) refl
