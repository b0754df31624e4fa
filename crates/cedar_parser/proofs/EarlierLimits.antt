-- A statement that was within the limits is within them.
use Rattle.std.proofs.Common.{◌≡◌, ℕ, ◌≤◌, List, [], ◌∷◌, Bool, true, false, cond, Option, Some, None, IsSome, IsTrue, All, codes, refl, sym, subst, option_map}
use Rattle.std.proofs.lemmas.List.Elements.{All-head, All-tail}
use Rattle.std.specs.Str.{bytes_eq}
use Rattle.cedar_ext.specs.declared.extension.ExtensionType.{ExtensionType}
use Rattle.cedar_ast_expressions.specs.declared.variable.Variable.{Variable}
use Rattle.cedar_ast_expressions.specs.declared.variable.Variable.TheVariants.{Principal, Resource}
use Rattle.cedar_ast.specs.Condition.{condition_of}
use Rattle.cedar_ast.specs.PolicyTree.{PolicyTree}
use Rattle.cedar_parser_tokens.specs.Content.{Content}
use Rattle.cedar_parser_tokens.specs.declared.content.WrittenUid.{WrittenUid}
use Rattle.cedar_parser_tree.specs.declared.written_statement.Reference.{Reference}
use Rattle.cedar_parser_tree.specs.declared.written_statement.Reference.TheVariants as reference
use Rattle.cedar_parser_tree.specs.declared.written_statement.WrittenAnnotation.{WrittenAnnotation}
use Rattle.cedar_parser_tree.specs.declared.written_statement.WrittenCondition.{WrittenCondition}
use Rattle.cedar_ast.specs.declared.scope.EntityScope.TheVariants as written
use Rattle.cedar_ast.specs.declared.scope.ActionScope.TheVariants as written_action
use Rattle.cedar_parser_tree.specs.Written.{Written, truth, number, negative, text, entity, variable, slot, group, not, negated, relation, has, like, is, is_in, chain, choice, set, record_of, call, Links, no_links, operand, attribute, method, Members, no_members, member, Fields, no_fields, field}
use Rattle.cedar_parser_tree.specs.StatementTree.{StatementTree, WrittenEntityScope, WrittenActionScope}
use Rattle.cedar_parser_statements.proofs.EarlierPaths.{AskForNoPath}
use Rattle.cedar_parser_limits.specs.declared.functions.Method.{Method}
use Rattle.cedar_parser_limits.specs.declared.functions.Method.TheVariants.{Binary}
use Rattle.cedar_ast_expressions.specs.declared.operator.BinaryOperator.{BinaryOperator}
use Rattle.cedar_parser_limits.specs.declared.side_condition.SideCondition.{SideCondition}
use Rattle.cedar_parser_limits.specs.declared.side_condition.SideCondition.TheVariants.{Strings, Numbers, Keys, Names, Counts, Slots, Annotations}
use Rattle.cedar_ext.specs.Extensions.{constructor_in}
use Rattle.cedar_ext.specs.declared.language.Language.TheVariants.{Profile}
use Rattle.cedar_parser_limits.specs.Meaning.{method_of}
use Rattle.cedar_parser_limits.specs.Limits.{Stands, Fits, FitsNegative, IsKnown, count_of, arity_of, function_arity, has_operator, method_arity, method_in, only_in, HasArity, HasDistinctKeys, HasNoSlot, Keeps, KeepLinks, KeepMembers, KeepFields, size_of, max_height, max_nodes}
use Rattle.cedar_parser_limits.specs.StatementLimits.{IsOwn, KeepsReference, KeepsEntityScope, KeepUids, KeepsActionScope, HasDistinctNames, KeepAnnotations, KeepConditions, KeepsStatement, condition_size, IsWithinLimits}
use Rattle.cedar_parser.specs.EarlierMeaning.{earlier_method_of}
use Rattle.cedar_parser.specs.Earlier.{UsesEarlier, LinksUseEarlier, MembersUseEarlier, FieldsUseEarlier, WasWithinLimits}
use Rattle.cedar_parser.proofs.EarlierMeanings.{known_method, earlier_method, earlier_constructor, earlier_function, earlier_operator, same_policy}

-- a side condition that asks for nothing but what is kept by functions and methods that there were, of one argument
record AsksOfCalls (c : SideCondition) : Type 0 where
  pub fits : (n : ℕ) → Fits c n
  pub fits_negative : (n : ℕ) → FitsNegative c n
  pub stands : (x : Content) → Stands c x
  pub no_slot : HasNoSlot c
  pub own : (x y : Variable) → IsOwn c x y
  pub keys : (fs : Fields) → HasDistinctKeys c fs
  pub annotations : (notes : List WrittenAnnotation) → HasDistinctNames c notes
  pub function : (name : List ℕ) → IsTrue (bytes_eq name (codes "decimal")) → IsKnown c (constructor_in Profile name)
  pub argument : (name : List ℕ) (ms : Members) → IsTrue (bytes_eq name (codes "decimal")) → count_of ms ≡ 1 → HasArity c (function_arity name) ms
  pub method_is : (name : List ℕ) → IsSome (earlier_method_of name) → IsKnown c (method_in Profile name)
  pub method_argument : (name : List ℕ) (ms : Members) → IsSome (earlier_method_of name) → count_of ms ≡ 1 → HasArity c (method_arity name) ms

in_profile : (op : BinaryOperator) → IsTrue (has_operator Profile op) → IsSome (only_in Profile (Some (Binary op)))
in_profile op h = by (has_operator Profile op) h
  where
    by : (b : Bool) → IsTrue b → IsSome (cond b (Some (Binary op)) None)
    by true h = refl
    by false h = absurd cc

some_method : (name : List ℕ) → IsSome (earlier_method_of name) → IsSome (method_in Profile name)
some_method name h =
    let known = known_method (earlier_method_of name) (method_of name) h (earlier_method name) in
    subst (λ (m : Option Method). IsSome (only_in Profile m)) (sym known.2) (in_profile known.0 (earlier_operator name known.0 known.1))

one_of_method : (name : List ℕ) (ms : Members) → IsSome (earlier_method_of name) → count_of ms ≡ 1 → HasArity Counts (method_arity name) ms
one_of_method name ms h q =
    let known = known_method (earlier_method_of name) (method_of name) h (earlier_method name) in
    subst (λ (m : Option Method). HasArity Counts (option_map arity_of m) ms) (sym known.2) q

of_names : AsksOfCalls Names
of_names = record {
  fits = λ n. tt;
  fits_negative = λ n. tt;
  stands = λ x. tt;
  no_slot = tt;
  own = λ x y. tt;
  keys = λ fs. tt;
  annotations = λ notes. tt;
  function = λ name h. subst (λ (o : Option ExtensionType). IsSome o) (sym (earlier_function name h)) refl;
  argument = λ name ms h q. tt;
  method_is = some_method;
  method_argument = λ name ms h q. tt;
}

of_counts : AsksOfCalls Counts
of_counts = record {
  fits = λ n. tt;
  fits_negative = λ n. tt;
  stands = λ x. tt;
  no_slot = tt;
  own = λ x y. tt;
  keys = λ fs. tt;
  annotations = λ notes. tt;
  function = λ name h. tt;
  argument = λ name ms h q. subst (λ (o : Option ExtensionType). HasArity Counts (option_map (λ op. 1) o) ms) (sym (earlier_constructor name h)) q;
  method_is = λ name h. tt;
  method_argument = one_of_method;
}

mutual
  keeps : (c : SideCondition) → AsksOfCalls c → (w : Written) → UsesEarlier w → Keeps Profile c w
  keeps c k (truth b) u = tt
  keeps c k (number n) u = k.fits n
  keeps c k (negative n) u = k.fits_negative n
  keeps c k (text s) u = k.stands s
  keeps c k (entity x) u = k.stands x.id
  keeps c k (variable x) u = tt
  keeps c k (slot x) u = k.no_slot
  keeps c k (group a) u = keeps c k a u
  keeps c k (not a) u = keeps c k a u
  keeps c k (negated a) u = keeps c k a u
  keeps c k (relation sign a b) u = (keeps c k a u.0, keeps c k b u.1)
  keeps c k (has a s more) u = (keeps c k a u, k.stands s)
  keeps c k (like a p) u = keeps c k a u
  keeps c k (is a ty) u = keeps c k a u
  keeps c k (is_in a ty b) u = (keeps c k a u.0, keeps c k b u.1)
  keeps c k (chain a ls) u = (keeps c k a u.0, keep_links c k ls u.1)
  keeps c k (choice q a b) u = (keeps c k q u.0, keeps c k a u.1, keeps c k b u.2)
  keeps c k (set ms) u = keep_members c k ms u
  keeps c k (record_of fs) u = (k.keys fs, keep_fields c k fs u)
  keeps c k (call name ms) u = (k.function name u.0, k.argument name ms u.0 u.1, keep_members c k ms u.2)

  keep_links : (c : SideCondition) → AsksOfCalls c → (ls : Links) → LinksUseEarlier ls → KeepLinks Profile c ls
  keep_links c k no_links u = tt
  keep_links c k (operand sign a ls) u = (keeps c k a u.0, keep_links c k ls u.1)
  keep_links c k (attribute s ls) u = (k.stands s, keep_links c k ls u)
  keep_links c k (method name ms ls) u = ((k.method_is name u.0, k.method_argument name ms u.0 u.1, keep_members c k ms u.2), keep_links c k ls u.3)

  keep_members : (c : SideCondition) → AsksOfCalls c → (ms : Members) → MembersUseEarlier ms → KeepMembers Profile c ms
  keep_members c k no_members u = tt
  keep_members c k (member a ms) u = (keeps c k a u.0, keep_members c k ms u.1)

  keep_fields : (c : SideCondition) → AsksOfCalls c → (fs : Fields) → FieldsUseEarlier fs → KeepFields Profile c fs
  keep_fields c k no_fields u = tt
  keep_fields c k (field key a fs) u = ((k.stands key, keeps c k a u.0), keep_fields c k fs u.1)

-- ---- statements

keep_reference : (c : SideCondition) → AsksOfCalls c → (x : Variable) (q : Reference) → KeepsReference c x q
keep_reference c k x (reference.Entity u) = k.stands u.id
keep_reference c k x (reference.Slot at y) = k.own x y

keep_entity_scope : (c : SideCondition) → AsksOfCalls c → (x : Variable) (s : WrittenEntityScope) → KeepsEntityScope c x s
keep_entity_scope c k x written.Any = tt
keep_entity_scope c k x (written.Equal q) = keep_reference c k x q
keep_entity_scope c k x (written.In q) = keep_reference c k x q
keep_entity_scope c k x (written.Is ty) = tt
keep_entity_scope c k x (written.IsIn ty q) = keep_reference c k x q

keep_uids : (c : SideCondition) → AsksOfCalls c → (us : List WrittenUid) → KeepUids c us
keep_uids c k [] = tt
keep_uids c k (u ∷ us) = (k.stands u.id, keep_uids c k us)

keep_action_scope : (c : SideCondition) → AsksOfCalls c → (s : WrittenActionScope) → KeepsActionScope c s
keep_action_scope c k written_action.Any = tt
keep_action_scope c k (written_action.Equal u) = k.stands u.id
keep_action_scope c k (written_action.In u) = k.stands u.id
keep_action_scope c k (written_action.InSet us) = keep_uids c k us

keep_annotations : (c : SideCondition) → AsksOfCalls c → (notes : List WrittenAnnotation) → KeepAnnotations c notes
keep_annotations c k [] = tt
keep_annotations c k (a ∷ notes) = (k.stands a.value, keep_annotations c k notes)

keep_conditions : (c : SideCondition) → AsksOfCalls c → (cs : List WrittenCondition) → All (λ (q : WrittenCondition). UsesEarlier q.body) cs → KeepConditions Profile c cs
keep_conditions c k [] u = tt
keep_conditions c k (q ∷ cs) u =
    (keeps c k q.body (All-head (λ (q : WrittenCondition). UsesEarlier q.body) q cs u), keep_conditions c k cs (All-tail (λ (q : WrittenCondition). UsesEarlier q.body) q cs u))

keep_statement : (c : SideCondition) → AsksOfCalls c → (s : StatementTree) → All (λ (q : WrittenCondition). UsesEarlier q.body) s.conditions → KeepsStatement Profile c s
keep_statement c k s u = record {
  names = k.annotations s.annotations;
  annotations = keep_annotations c k s.annotations;
  principal = keep_entity_scope c k Principal s.scope.principal;
  action = keep_action_scope c k s.scope.action;
  resource = keep_entity_scope c k Resource s.scope.resource;
  conditions = keep_conditions c k s.conditions u;
}

keeps_each : (s : StatementTree) → WasWithinLimits s → (c : SideCondition) → KeepsStatement Profile c s
keeps_each s h Strings = h.others Strings tt
keeps_each s h Numbers = h.others Numbers tt
keeps_each s h Keys = h.others Keys tt
keeps_each s h Names = keep_statement Names of_names s h.calls
keeps_each s h Counts = keep_statement Counts of_counts s h.calls
keeps_each s h Slots = h.others Slots tt
keeps_each s h Annotations = h.others Annotations tt

pub within_limits : (s : StatementTree) → AskForNoPath s.conditions → WasWithinLimits s → IsWithinLimits Profile s
unfolding condition_size
within_limits s p h =
    let policy = same_policy [] s p h.calls in
    record {
      keeps = keeps_each s h;
      low = subst (λ (q : PolicyTree). (size_of (condition_of q)).height ≤ max_height) policy h.low;
      small = subst (λ (q : PolicyTree). (size_of (condition_of q)).nodes ≤ max_nodes) policy h.small;
    }
