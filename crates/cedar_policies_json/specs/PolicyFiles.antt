-- The policies, templates and links that a JSON denotes, and why it denotes none (Cedar documentation, JSON policy format; JSON policy
-- set format).
use Rattle.std.specs.Prelude.{◌≡◌, ℕ, ◌+◌, ◌==◌, ◌&&◌, Bool, true, false, not, List, [], ◌∷◌, ◌++◌, map, take, slice_get, All, Contains, codes, Option, Some, None, option_map, option_and_then, is_some, if◌then◌else◌}
use Rattle.serde_json.specs.Data.{Data}
use Rattle.serde_json.specs.Find.{get, as_array, as_object}
use Rattle.base_json.specs.JsonTree.{json_of}
use Rattle.cedar_value.specs.declared.uid.Uid.{Uid}
use Rattle.cedar_ext.specs.declared.language.Language.{Language}
use Rattle.cedar_ast_expressions.specs.Keys.{AreDistinct}
use Rattle.cedar_ast.specs.PolicySetTree.{PolicySetTree, no_policies, entered}
use Rattle.cedar_ast.specs.declared.link.Link.{Link}
use Rattle.cedar_ast.specs.declared.slots.Slots.{Slots}
use Rattle.cedar_conform_values.specs.Objects.{size_of, text_at}
use Rattle.cedar_parser_tokens.specs.Names.{to_uid}
use Rattle.cedar_parser_tree.specs.StatementTree.{StatementTree}
use Rattle.cedar_parser_limits.specs.StatementMeaning.{has_slot, id_at, to_statement}
use Rattle.cedar_parser_limits.specs.StatementLimits.{IsWithinLimits, Breaks}
use Rattle.cedar_parser_tokens.specs.declared.parse_fault.ParseFault.{ParseFault}
use Rattle.cedar_parser_tokens.specs.declared.parse_fault.ParseFault.TheVariants as f
use Rattle.cedar_policies_json.specs.declared.named_statement.NamedStatement.{NamedStatement}
use Rattle.cedar_policies_json.specs.declared.policy_file_fault.PolicyFileFault.{PolicyFileFault}
use Rattle.cedar_policies_json.specs.declared.policy_file_fault.PolicyFileFault.TheVariants as fault
use Rattle.cedar_policies_json.specs.Parts.{both, each_read, members_read, uid_read}
use Rattle.cedar_policies_json.specs.Repeats.{has_each_key_once}
use Rattle.cedar_policies_json.specs.Statements.{statement_read}

-- ---- policies and templates by their ids

-- Whether a statement is a template exactly if it is to be one: a template has a slot, and a static policy has none (Cedar
-- documentation, JSON policy set format: staticPolicies, templates; own).
abbrev pub fits : Bool → StatementTree → Bool
fits true s = has_slot s.scope
fits false s = not (has_slot s.scope)

-- A statement with its id, where it fits (Cedar documentation, JSON policy set format: staticPolicies, templates).
abbrev pub named : Bool → List ℕ → StatementTree → Option NamedStatement
named is_template id s = if fits is_template s then Some (record { id = id; statement = s }) else None

-- The statement at an id (Cedar documentation, JSON policy set format: staticPolicies, templates).
abbrev pub named_read : Bool → List ℕ → Data → Option NamedStatement
named_read is_template id d = option_and_then (named is_template id) (statement_read d)

-- The statements of the object at a key, each at its id, in the order of the ids (Cedar documentation, JSON policy set format:
-- staticPolicies, templates).
abbrev pub named_at : Bool → List ℕ → Data → Option (List NamedStatement)
named_at is_template k d = option_and_then (members_read (named_read is_template)) (option_and_then as_object (get k d))

-- ---- links

-- What a link gives for a slot: the uid at the slot's key, or nothing where there is no such key (Cedar documentation, JSON policy set
-- format: templateLinks).
abbrev pub given_read : Option Data → Option (Option Uid)
given_read None = Some None
given_read (Some d) = option_map (λ u. Some (to_uid u)) (uid_read d)

-- How many values there are at a key, none or one (own).
abbrev pub count_at : List ℕ → Data → ℕ
count_at k d = if is_some (get k d) then 1 else 0

-- What an object gives for the slots `?principal` and `?resource`. It has no other key (Cedar documentation, JSON policy set format:
-- templateLinks).
abbrev pub slots_read : Data → Option Slots
slots_read d =
    if is_some (as_object d) && (size_of d == count_at (codes "?principal") d + count_at (codes "?resource") d)
    then option_map (λ p. record { principal = p.0; resource = p.1 })
    (both (given_read (get (codes "?principal") d)) (given_read (get (codes "?resource") d)))
    else None

-- The link of an object of exactly `templateId`, `newId` and `values` (Cedar documentation, JSON policy set format: templateLinks).
abbrev pub link_read : Data → Option Link
link_read d =
    if size_of d == 3
    then option_map (λ p. record { template = p.0; id = p.1.0; slots = p.1.1 })
    (both (text_at (codes "templateId") d) (both (text_at (codes "newId") d) (option_and_then slots_read (get (codes "values") d))))
    else None

-- ---- files

-- What a JSON writes: statements, each with its id, and links (own).
abbrev pub Written : Type 0
Written = List NamedStatement × List Link

-- One policy or template. Its id is the value of its annotation `id`, or else `policy0`, as in a text (Cedar documentation, JSON
-- policy format; own).
abbrev pub single_read : Data → Option Written
single_read d = option_map (λ s. (record { id = id_at 0 s; statement = s } ∷ [], [])) (statement_read d)

-- A set of exactly `staticPolicies`, `templates` and `templateLinks`. Its policies come before its templates (Cedar documentation,
-- JSON policy set format).
abbrev pub set_read : Data → Option Written
set_read d =
    if size_of d == 3
    then option_map (λ p. (p.0 ++ p.1.0, p.1.1))
    (both (named_at false (codes "staticPolicies") d)
    (both (named_at true (codes "templates") d) (option_and_then (each_read link_read) (option_and_then as_array (get (codes "templateLinks") d)))))
    else None

-- One policy or template, which has the key `effect`, or else a set (Cedar documentation, JSON policy format; JSON policy set format).
abbrev pub file_read : Data → Option Written
file_read d = if is_some (get (codes "effect") d) then single_read d else set_read d

-- ---- meaning

-- The ids of statements, in order (own).
abbrev pub ids_of : List NamedStatement → List (List ℕ)
ids_of ns = map (λ n. n.id) ns

-- The set after the policies and templates of statements are entered, one after another (own).
abbrev pub entered_all : PolicySetTree → List NamedStatement → PolicySetTree
entered_all set [] = set
entered_all set (n ∷ ns) = entered_all (entered set (to_statement n.id n.statement)) ns

-- Statements are within the limits of a language, each has an id of its own, and this is the set of their policies and templates
-- (Cedar language reference, policies; own).
pub record ArePolicies (language : Language) (ns : List NamedStatement) (set : PolicySetTree) : Type 0 where
  pub limits : All (λ n. IsWithinLimits language n.statement) ns
  pub distinct : AreDistinct (ids_of ns)
  pub meaning : set ≡ entered_all no_policies ns

-- The bytes are JSON that repeats no key, and that writes these statements and links (Cedar documentation, JSON policy format; RFC 8259).
pub record Writes (bytes : List ℕ) (ns : List NamedStatement) (links : List Link) : Type 0 where
  pub tree : Data
  pub is_json : json_of bytes ≡ Some tree
  pub once : has_each_key_once bytes tree ≡ true
  pub reading : file_read tree ≡ Some (ns, links)

-- The bytes are JSON that writes statements and these links, and in the language this is the set of their policies and templates
-- (Cedar documentation, JSON policy format; JSON policy set format).
pub record IsPolicyFile (language : Language) (bytes : List ℕ) (set : PolicySetTree) (links : List Link) : Type 0 where
  pub statements : List NamedStatement
  pub written : Writes bytes statements links
  pub are_policies : ArePolicies language statements set

-- ---- refusals

-- The bytes are JSON that writes no statements (own).
pub record WritesNone (bytes : List ℕ) : Type 0 where
  pub tree : Data
  pub is_json : json_of bytes ≡ Some tree
  pub none : file_read tree ≡ None

-- The bytes are JSON that repeats a key of an object (own).
pub record RepeatsKey (bytes : List ℕ) : Type 0 where
  pub tree : Data
  pub is_json : json_of bytes ≡ Some tree
  pub repeated : has_each_key_once bytes tree ≡ false

-- Why a statement is refused after those before it: it has the id of one of them, or it breaks a side condition or a limit (own).
abbrev pub HasStatementFault : Language → List NamedStatement → NamedStatement → ParseFault → Type 0
HasStatementFault l before n f.OutOfMemory = ⊥
HasStatementFault l before n (f.DuplicateId at) = Contains (ids_of before) n.id
HasStatementFault l before n fault = Breaks l n.statement fault

-- The statement at a position, from 0, has the fault (own).
pub record HasFaultAt (language : Language) (statements : List NamedStatement) (position : ℕ) (fault : ParseFault) : Type 0 where
  pub statement : NamedStatement
  pub at : slice_get statements position ≡ Some statement
  pub has : HasStatementFault language (take position statements) statement fault

-- The bytes write statements, of which the one at a position has the fault (own).
pub record WritesFault (language : Language) (bytes : List ℕ) (position : ℕ) (fault : ParseFault) : Type 0 where
  pub statements : List NamedStatement
  pub links : List Link
  pub written : Writes bytes statements links
  pub has : HasFaultAt language statements position fault

-- The bytes have the fault of the refusal. Out of memory says nothing about them (own).
abbrev pub HasFault : Language → List ℕ → PolicyFileFault → Type 0
HasFault l bytes fault.OutOfMemory = Unit {0}
HasFault l bytes fault.Json = json_of bytes ≡ None
HasFault l bytes fault.RepeatedKey = RepeatsKey bytes
HasFault l bytes fault.Shape = WritesNone bytes
HasFault l bytes (fault.Statement position breach) = WritesFault l bytes position breach
