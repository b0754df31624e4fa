-- Expressions as written, as trees of numbers, one to one, so that types which contracts see as such expressions can hold some.
use Rattle.std.specs.Prelude.{◌≡◌, ℕ, List, refl}
use Rattle.std.proofs.Common.{ap, arith}
use Rattle.std.specs.Coded.{codes, coded_ℕ, coded_bool, coded_list, coded_option}
use base.Stored.{Gv, gnil, gnum, gcons, Coded}
use Rattle.cedar_ext.specs.declared.pattern.Element.{Element}
use Rattle.cedar_ast_expressions.specs.Private.ExpressionCode.{variable_code, text_code}
use Rattle.cedar_parser_tokens.specs.declared.content.WrittenUid.{WrittenUid}
use Rattle.cedar_parser_tree.specs.declared.sign.ChainSign.{ChainSign}
use Rattle.cedar_parser_tree.specs.declared.sign.RelationSign.{RelationSign}
use Rattle.cedar_parser_tokens.specs.Content.{Content}
use Rattle.cedar_parser_tree.specs.Written.{Written, truth, number, negative, text, entity, variable, slot, group, not, negated, relation, has, like, is, is_in, chain, choice, set, record_of, call, Links, no_links, operand, attribute, method, Members, no_members, member, Fields, no_fields, field}

pub chain_sign_code : Coded ChainSign
chain_sign_code = Prim.hlevel codes

pub relation_sign_code : Coded RelationSign
relation_sign_code = Prim.hlevel codes

pub elements_code : Coded (List Element)
elements_code = Prim.hlevel codes

pub uid_code : Coded WrittenUid
uid_code = Prim.hlevel codes

abbrev pub content_code : Coded Content
content_code = coded_option text_code

abbrev pub names_code : Coded (List (List ℕ))
names_code = coded_list text_code

abbrev form : Gv → ℕ
form (gcons (gnum n) t) = n
form _ = 0

abbrev mutual
  pub tree : Written → Gv
  tree (truth b) = gcons (gnum 0) (coded_bool.code b)
  tree (number n) = gcons (gnum 1) (coded_ℕ.code n)
  tree (negative n) = gcons (gnum 2) (coded_ℕ.code n)
  tree (text c) = gcons (gnum 3) (content_code.code c)
  tree (entity u) = gcons (gnum 4) (uid_code.code u)
  tree (variable x) = gcons (gnum 5) (variable_code.code x)
  tree (slot x) = gcons (gnum 6) (variable_code.code x)
  tree (group a) = gcons (gnum 7) (tree a)
  tree (not a) = gcons (gnum 8) (tree a)
  tree (negated a) = gcons (gnum 9) (tree a)
  tree (relation s a b) = gcons (gnum 10) (gcons (relation_sign_code.code s) (gcons (tree a) (tree b)))
  tree (has a c names) = gcons (gnum 11) (gcons (tree a) (gcons (content_code.code c) (names_code.code names)))
  tree (like a p) = gcons (gnum 12) (gcons (tree a) (elements_code.code p))
  tree (is a ty) = gcons (gnum 13) (gcons (tree a) (text_code.code ty))
  tree (is_in a ty b) = gcons (gnum 14) (gcons (tree a) (gcons (text_code.code ty) (tree b)))
  tree (chain a ls) = gcons (gnum 15) (gcons (tree a) (links_tree ls))
  tree (choice c a b) = gcons (gnum 16) (gcons (tree c) (gcons (tree a) (tree b)))
  tree (set ms) = gcons (gnum 17) (members_tree ms)
  tree (record_of fs) = gcons (gnum 18) (fields_tree fs)
  tree (call name ms) = gcons (gnum 19) (gcons (text_code.code name) (members_tree ms))

  pub links_tree : Links → Gv
  links_tree no_links = gnil
  links_tree (operand s a ls) = gcons (gnum 0) (gcons (chain_sign_code.code s) (gcons (tree a) (links_tree ls)))
  links_tree (attribute c ls) = gcons (gnum 1) (gcons (content_code.code c) (links_tree ls))
  links_tree (method name ms ls) = gcons (gnum 2) (gcons (text_code.code name) (gcons (members_tree ms) (links_tree ls)))

  pub members_tree : Members → Gv
  members_tree no_members = gnil
  members_tree (member a ms) = gcons (tree a) (members_tree ms)

  pub fields_tree : Fields → Gv
  fields_tree no_fields = gnil
  fields_tree (field key a fs) = gcons (content_code.code key) (gcons (tree a) (fields_tree fs))

mutual
  pub one : (v w : Written) → tree v ≡ tree w → v ≡ w
  one (truth b) (truth e) h = λ k. truth (coded_bool.inj b e (cc) k)
  one (number n) (number n') h = λ k. number (coded_ℕ.inj n n' (cc) k)
  one (negative n) (negative n') h = λ k. negative (coded_ℕ.inj n n' (cc) k)
  one (text c) (text f) h = λ k. text (content_code.inj c f (cc) k)
  one (entity u) (entity u') h = λ k. entity (uid_code.inj u u' (cc) k)
  one (variable x) (variable x') h = λ k. variable (variable_code.inj x x' (cc) k)
  one (slot x) (slot x') h = λ k. slot (variable_code.inj x x' (cc) k)
  one (group a) (group d) h = λ k. group (one a d (cc) k)
  one (not a) (not d) h = λ k. not (one a d (cc) k)
  one (negated a) (negated d) h = λ k. negated (one a d (cc) k)
  one (relation s a b) (relation s' d e) h = λ k. relation (relation_sign_code.inj s s' (cc) k) (one a d (cc) k) (one b e (cc) k)
  one (has a c names) (has d f names') h = λ k. has (one a d (cc) k) (content_code.inj c f (cc) k) (names_code.inj names names' (cc) k)
  one (like a p) (like d p') h = λ k. like (one a d (cc) k) (elements_code.inj p p' (cc) k)
  one (is a ty) (is d ty') h = λ k. is (one a d (cc) k) (text_code.inj ty ty' (cc) k)
  one (is_in a ty b) (is_in d ty' e) h = λ k. is_in (one a d (cc) k) (text_code.inj ty ty' (cc) k) (one b e (cc) k)
  one (chain a ls) (chain d ls') h = λ k. chain (one a d (cc) k) (links_one ls ls' (cc) k)
  one (choice c a b) (choice f d e) h = λ k. choice (one c f (cc) k) (one a d (cc) k) (one b e (cc) k)
  one (set ms) (set ms') h = λ k. set (members_one ms ms' (cc) k)
  one (record_of fs) (record_of fs') h = λ k. record_of (fields_one fs fs' (cc) k)
  one (call name ms) (call name' ms') h = λ k. call (text_code.inj name name' (cc) k) (members_one ms ms' (cc) k)
  one v w h = absurd (omega (arith, ap form h))

  pub links_one : (ks ls : Links) → links_tree ks ≡ links_tree ls → ks ≡ ls
  links_one no_links no_links h = refl
  links_one (operand s a ks) (operand t b ls) h = λ k. operand (chain_sign_code.inj s t (cc) k) (one a b (cc) k) (links_one ks ls (cc) k)
  links_one (attribute c ks) (attribute d ls) h = λ k. attribute (content_code.inj c d (cc) k) (links_one ks ls (cc) k)
  links_one (method name ms ks) (method name' ns ls) h = λ k. method (text_code.inj name name' (cc) k) (members_one ms ns (cc) k) (links_one ks ls (cc) k)
  links_one ks ls h = absurd (cc)

  pub members_one : (ms ns : Members) → members_tree ms ≡ members_tree ns → ms ≡ ns
  members_one no_members no_members h = refl
  members_one (member a ms) (member b ns) h = λ k. member (one a b (cc) k) (members_one ms ns (cc) k)
  members_one ms ns h = absurd (cc)

  pub fields_one : (fs gs : Fields) → fields_tree fs ≡ fields_tree gs → fs ≡ gs
  fields_one no_fields no_fields h = refl
  fields_one (field key a fs) (field key' b gs) h = λ k. field (content_code.inj key key' (cc) k) (one a b (cc) k) (fields_one fs gs (cc) k)
  fields_one fs gs h = absurd (cc)

abbrev pub written_code : Coded Written
written_code = record { code = tree; inj = one }
