-- Worked examples of evaluation, each computed by the definition itself: a value and each error of every form (of
-- `like` the value by the test of matching alone), and the order of errors (Cedar language reference, operators).
use Rattle.std.proofs.Common.{◌≡◌, ℕ, ℤ, pos, negsuc, Bool, true, false, List, [], ◌∷◌, refl}
use Rattle.std.specs.Prelude.{Ok, Err}
use Rattle.cedar_ext.specs.declared.pattern.Element.TheVariants.{Character, Star}
use Rattle.cedar_ext.specs.Matching.{is_match}
use Rattle.cedar_value.specs.Datum.{Datum, boolean, long, text, uid, set, extension, members_of}
use Rattle.cedar_value.specs.World.{World, EntityTree}
use Rattle.cedar_value.specs.World.{leads}
use Rattle.cedar_value.specs.World as above
use Rattle.cedar_value.specs.declared.uid.Uid.{Uid}
use Rattle.cedar_value.specs.declared.request.Request.{Request}
use Rattle.cedar_ast_expressions.specs.declared.variable.Variable.TheVariants as variable_named
use Rattle.cedar_ext.specs.declared.extension.Extension.TheVariants as ext
use Rattle.cedar_ext.specs.declared.extension.ExtensionType.TheVariants as constructor
use Rattle.cedar_ext.specs.declared.method.BinaryMethod.TheVariants as method
use Rattle.cedar_ast_expressions.specs.declared.operator.UnaryOperator.TheVariants as one
use Rattle.cedar_ast_expressions.specs.declared.operator.BinaryOperator.TheVariants as two
use Rattle.cedar_ast_expressions.specs.declared.error.EvaluationError.TheVariants.{Overflow, MissingEntity, MissingAttribute, «Type», Decimal}
use Rattle.cedar_ast_expressions.specs.Answer.{Answer}
use Rattle.cedar_ast_expressions.specs.Expression.{Expression, literal, variable, and, or, if_else, unary, binary, set_with, record_with, expressions_of, entries_of}
use Rattle.cedar_ast_expressions.specs.Evaluation.{eval}

abbrev number : ℕ → Expression
number n = literal (long (pos n))

abbrev greatest : Expression
greatest = number 9223372036854775807

abbrev least : Expression
least = literal (long (negsuc 9223372036854775807))

abbrev truth : Bool → Expression
truth b = literal (boolean b)

-- texts by their bytes
abbrev a : List ℕ
a = 97 ∷ []

abbrev b : List ℕ
b = 98 ∷ []

abbrev a_text : Expression
a_text = literal (text a)

-- entities of the type U: a in b in c, where c is absent
abbrev entity : List ℕ → Uid
entity id = record { ty = 85 ∷ []; id = id }

abbrev c : List ℕ
c = 99 ∷ []

abbrev world : World
world =
    record { uid = entity a; attributes = (a, long (pos 1)) ∷ []; parents = entity b ∷ [] }
    ∷ record { uid = entity b; attributes = []; parents = entity c ∷ [] }
    ∷ []

abbrev request : Request
request = record { principal = entity a; action = entity b; resource = entity c; context = (b, boolean true) ∷ [] }

abbrev the : List ℕ → Expression
the id = literal (uid (entity id))

abbrev members : List Expression → Expression
members es = set_with (expressions_of es)

-- a set that is there already, its members ascending
abbrev a_set : List Datum → Expression
a_set ds = literal (set (members_of ds))

abbrev value : Expression → Answer Datum
value e = eval e request world

-- variables
principal_is : value (variable variable_named.Principal) ≡ Ok (uid (entity a))
principal_is = refl

action_is : value (variable variable_named.Action) ≡ Ok (uid (entity b))
action_is = refl

resource_is : value (variable variable_named.Resource) ≡ Ok (uid (entity c))
resource_is = refl

context_has_b : value (unary (one.Get b) (variable variable_named.Context)) ≡ Ok (boolean true)
context_has_b = refl

-- `&&`: the right side is not evaluated after false, and must be a Boolean after true
and_stops : value (and (truth false) (number 1)) ≡ Ok (boolean false)
and_stops = refl

and_goes_on : value (and (truth true) (number 1)) ≡ Err «Type»
and_goes_on = refl

and_wants_truth : value (and (number 1) (truth false)) ≡ Err «Type»
and_wants_truth = refl

-- `||`
or_stops : value (or (truth true) (number 1)) ≡ Ok (boolean true)
or_stops = refl

or_goes_on : value (or (truth false) a_text) ≡ Err «Type»
or_goes_on = refl

or_wants_truth : value (or a_text (truth true)) ≡ Err «Type»
or_wants_truth = refl

-- `if`: one branch is evaluated
if_true : value (if_else (truth true) (number 1) (binary two.Add greatest (number 1))) ≡ Ok (long (pos 1))
if_true = refl

if_false : value (if_else (truth false) (number 1) (binary two.Add greatest (number 1))) ≡ Err Overflow
if_false = refl

if_wants_truth : value (if_else (number 1) (number 1) (number 1)) ≡ Err «Type»
if_wants_truth = refl

-- `!` and negation
not_true : value (unary one.Not (truth true)) ≡ Ok (boolean false)
not_true = refl

not_number : value (unary one.Not (number 0)) ≡ Err «Type»
not_number = refl

negative : value (unary one.Negate (number 5)) ≡ Ok (long (negsuc 4))
negative = refl

negative_least : value (unary one.Negate least) ≡ Err Overflow
negative_least = refl

negative_text : value (unary one.Negate a_text) ≡ Err «Type»
negative_text = refl

-- `==` never errs by itself
equal_kinds : value (binary two.Equal (number 1) a_text) ≡ Ok (boolean false)
equal_kinds = refl

equal_sets : value (binary two.Equal (members (number 1 ∷ [])) (a_set (long (pos 1) ∷ []))) ≡ Ok (boolean true)
equal_sets = refl

-- `<`, `<=`
less : value (binary two.Less (number 1) (number 1)) ≡ Ok (boolean false)
less = refl

less_equal : value (binary two.LessEqual (number 1) (number 1)) ≡ Ok (boolean true)
less_equal = refl

less_text : value (binary two.Less a_text a_text) ≡ Err «Type»
less_text = refl

less_equal_text : value (binary two.LessEqual (number 1) a_text) ≡ Err «Type»
less_equal_text = refl

-- `+`, `-`, `*`
sum : value (binary two.Add (number 9223372036854775806) (number 1)) ≡ value greatest
sum = refl

sum_overflows : value (binary two.Add greatest (number 1)) ≡ Err Overflow
sum_overflows = refl

difference : value (binary two.Subtract (literal (long (negsuc 9223372036854775806))) (number 1)) ≡ value least
difference = refl

difference_overflows : value (binary two.Subtract least (number 1)) ≡ Err Overflow
difference_overflows = refl

product : value (binary two.Multiply (number 3) (literal (long (negsuc 3)))) ≡ Ok (long (negsuc 11))
product = refl

product_overflows : value (binary two.Multiply least (literal (long (negsuc 0)))) ≡ Err Overflow
product_overflows = refl

sum_wants_numbers : value (binary two.Add (number 1) a_text) ≡ Err «Type»
sum_wants_numbers = refl

difference_wants_numbers : value (binary two.Subtract a_text (number 1)) ≡ Err «Type»
difference_wants_numbers = refl

product_wants_numbers : value (binary two.Multiply (number 1) (truth true)) ≡ Err «Type»
product_wants_numbers = refl

-- both operands are evaluated before their kinds are tested, the left one first
error_before_kind : value (binary two.Add (binary two.Add greatest (number 1)) a_text) ≡ Err Overflow
error_before_kind = refl

right_error_before_left_kind : value (binary two.Add a_text (binary two.Add greatest (number 1))) ≡ Err Overflow
right_error_before_left_kind = refl

left_error_first : value (binary two.Add (unary one.Not (number 1)) (binary two.Add greatest (number 1))) ≡ Err «Type»
left_error_first = refl

-- `in`: the entity itself, what is above it, sets of entities
in_itself : value (binary two.In (the c) (the c)) ≡ Ok (boolean true)
in_itself = refl

in_above : value (binary two.In (the a) (the c)) ≡ Ok (boolean true)
unfolding above.below leads
in_above = refl

in_below : value (binary two.In (the c) (the a)) ≡ Ok (boolean false)
unfolding above.below leads
in_below = refl

in_set : value (binary two.In (the a) (a_set (uid (entity a) ∷ uid (entity b) ∷ []))) ≡ Ok (boolean true)
in_set = refl

in_empty_set : value (binary two.In (the a) (members [])) ≡ Ok (boolean false)
in_empty_set = refl

in_set_with_number : value (binary two.In (the a) (a_set (long (pos 1) ∷ uid (entity a) ∷ []))) ≡ Err «Type»
in_set_with_number = refl

in_number : value (binary two.In (the a) (number 1)) ≡ Err «Type»
in_number = refl

number_in : value (binary two.In (number 1) (the a)) ≡ Err «Type»
number_in = refl

-- `contains`, `containsAll`, `containsAny`
contains : value (binary two.Contains (a_set (long (pos 1) ∷ text a ∷ [])) a_text) ≡ Ok (boolean true)
contains = refl

contains_not : value (binary two.Contains (members (number 1 ∷ [])) a_text) ≡ Ok (boolean false)
contains_not = refl

number_contains : value (binary two.Contains (number 1) (number 1)) ≡ Err «Type»
number_contains = refl

contains_all : value (binary two.ContainsAll (a_set (long (pos 1) ∷ long (pos 2) ∷ [])) (members (number 2 ∷ []))) ≡ Ok (boolean true)
contains_all = refl

contains_all_not : value (binary two.ContainsAll (members (number 2 ∷ [])) (a_set (long (pos 1) ∷ long (pos 2) ∷ []))) ≡ Ok (boolean false)
contains_all_not = refl

contains_all_of_number : value (binary two.ContainsAll (members []) (number 1)) ≡ Err «Type»
contains_all_of_number = refl

number_contains_all : value (binary two.ContainsAll (number 1) (members [])) ≡ Err «Type»
number_contains_all = refl

contains_any : value (binary two.ContainsAny (a_set (long (pos 1) ∷ long (pos 2) ∷ [])) (a_set (long (pos 2) ∷ long (pos 3) ∷ []))) ≡ Ok (boolean true)
contains_any = refl

contains_any_of_none : value (binary two.ContainsAny (members (number 1 ∷ [])) (members [])) ≡ Ok (boolean false)
contains_any_of_none = refl

contains_any_of_number : value (binary two.ContainsAny (members []) (number 1)) ≡ Err «Type»
contains_any_of_number = refl

number_contains_any : value (binary two.ContainsAny (number 1) (members [])) ≡ Err «Type»
number_contains_any = refl

-- `isEmpty`
is_empty : value (unary one.IsEmpty (members [])) ≡ Ok (boolean true)
is_empty = refl

is_not_empty : value (unary one.IsEmpty (members (number 1 ∷ []))) ≡ Ok (boolean false)
is_not_empty = refl

is_empty_number : value (unary one.IsEmpty (number 0)) ≡ Err «Type»
is_empty_number = refl

is_empty_record : value (unary one.IsEmpty (record_with (entries_of []))) ≡ Err «Type»
is_empty_record = refl

is_empty_error : value (unary one.IsEmpty (members (binary two.Add greatest (number 1) ∷ []))) ≡ Err Overflow
is_empty_error = refl

-- `has`: false of an absent entity
has_attribute : value (unary (one.Has a) (the a)) ≡ Ok (boolean true)
has_attribute = refl

has_no_attribute : value (unary (one.Has a) (the b)) ≡ Ok (boolean false)
has_no_attribute = refl

has_absent_entity : value (unary (one.Has a) (the c)) ≡ Ok (boolean false)
has_absent_entity = refl

has_number : value (unary (one.Has a) (number 1)) ≡ Err «Type»
has_number = refl

-- access
get_attribute : value (unary (one.Get a) (the a)) ≡ Ok (long (pos 1))
get_attribute = refl

get_missing_attribute : value (unary (one.Get a) (the b)) ≡ Err MissingAttribute
get_missing_attribute = refl

get_missing_entity : value (unary (one.Get a) (the c)) ≡ Err MissingEntity
get_missing_entity = refl

get_number : value (unary (one.Get a) (number 1)) ≡ Err «Type»
get_number = refl

-- `like`: a star denotes any run of characters
like : is_match (Star ∷ Character 97 ∷ []) (98 ∷ 98 ∷ 97 ∷ []) ≡ true
like = refl

like_not : is_match (Character 97 ∷ []) (98 ∷ []) ≡ false
like_not = refl

like_number : value (unary (one.Like []) (number 1)) ≡ Err «Type»
like_number = refl

-- `is`
is_type : value (unary (one.Is (85 ∷ [])) (the c)) ≡ Ok (boolean true)
is_type = refl

is_other_type : value (unary (one.Is (86 ∷ [])) (the c)) ≡ Ok (boolean false)
is_other_type = refl

is_number : value (unary (one.Is (85 ∷ [])) (number 1)) ≡ Err «Type»
is_number = refl

-- `decimal`: "1.0" and "1.00" are the same, and "1." is none
decimal_one : value (unary (one.Construct constructor.Decimal) (literal (text (49 ∷ 46 ∷ 48 ∷ [])))) ≡ Ok (extension (ext.Decimal (pos 10000)))
decimal_one = refl

decimal_same : value (unary (one.Construct constructor.Decimal) (literal (text (49 ∷ 46 ∷ 48 ∷ 48 ∷ [])))) ≡ Ok (extension (ext.Decimal (pos 10000)))
decimal_same = refl

decimal_none : value (unary (one.Construct constructor.Decimal) (literal (text (49 ∷ 46 ∷ [])))) ≡ Err Decimal
decimal_none = refl

decimal_number : value (unary (one.Construct constructor.Decimal) (number 1)) ≡ Err «Type»
decimal_number = refl

-- the comparisons of decimals
abbrev units : ℤ → Expression
units z = literal (extension (ext.Decimal z))

decimal_less : value (binary (two.Call method.LessThan) (units (negsuc 0)) (units (pos 0))) ≡ Ok (boolean true)
decimal_less = refl

decimal_less_equal : value (binary (two.Call method.LessThanOrEqual) (units (pos 0)) (units (pos 0))) ≡ Ok (boolean true)
decimal_less_equal = refl

decimal_greater : value (binary (two.Call method.GreaterThan) (units (pos 0)) (units (pos 0))) ≡ Ok (boolean false)
decimal_greater = refl

decimal_greater_equal : value (binary (two.Call method.GreaterThanOrEqual) (units (pos 0)) (units (pos 1))) ≡ Ok (boolean false)
decimal_greater_equal = refl

decimal_less_number : value (binary (two.Call method.LessThan) (units (pos 0)) (number 1)) ≡ Err «Type»
decimal_less_number = refl

number_decimal_less_equal : value (binary (two.Call method.LessThanOrEqual) (number 1) (units (pos 0))) ≡ Err «Type»
number_decimal_less_equal = refl

decimal_greater_text : value (binary (two.Call method.GreaterThan) (units (pos 0)) a_text) ≡ Err «Type»
decimal_greater_text = refl

text_decimal_greater_equal : value (binary (two.Call method.GreaterThanOrEqual) a_text (units (pos 0))) ≡ Err «Type»
text_decimal_greater_equal = refl

-- sets and records: the members and the entries from left to right
set_of_members : value (members (number 1 ∷ [])) ≡ value (a_set (long (pos 1) ∷ []))
set_of_members = refl

record_of_entries : value (unary (one.Get a) (record_with (entries_of ((b, number 2) ∷ (a, number 1) ∷ [])))) ≡ Ok (long (pos 1))
record_of_entries = refl

set_error : value (members (number 1 ∷ binary two.Add greatest (number 1) ∷ unary one.Not (number 1) ∷ [])) ≡ Err Overflow
set_error = refl

record_error : value (record_with (entries_of ((b, binary two.Add greatest (number 1)) ∷ (a, unary one.Not (number 1)) ∷ []))) ≡ Err Overflow
record_error = refl

record_missing : value (unary (one.Get c) (record_with (entries_of ((b, number 2) ∷ (a, number 1) ∷ [])))) ≡ Err MissingAttribute
record_missing = refl

record_order : value (binary two.Equal (record_with (entries_of ((b, number 2) ∷ (a, number 1) ∷ []))) (record_with (entries_of ((a, number 1) ∷ (b, number 2) ∷ [])))) ≡ Ok (boolean true)
record_order = refl
