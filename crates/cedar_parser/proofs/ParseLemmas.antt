-- From a text to its tokens with their letters, and from these to what is answered.
use Rattle.std.proofs.Common.{◌≡◌, refl, sym, subst, true, false, ℕ, List, [], Result, Ok, Err}
use Rattle.std.specs.Prelude.{IfOk, IfErr, MatchResult}
use Rattle.cedar_ext.specs.declared.language.Language.{Language}
use Rattle.cedar_ext.specs.declared.language.Language.TheVariants.{Profile, Cedar4}
use Rattle.cedar_ast.specs.PolicySetTree.{PolicySetTree}
use Rattle.cedar_parser_tokens.specs.Marks.{Marks, IsMarked, IsNormallyMarked, AreNormal}
use Rattle.cedar_parser_tokens.specs.Spelling.{HasMarks, HasMarksFault}
use Rattle.cedar_parser_tokens.specs.declared.parse_fault.ParseFault.{ParseFault}
use Rattle.cedar_parser_tokens.specs.declared.parse_fault.ParseFault.TheVariants as f
use Rattle.cedar_parser_tokens.proofs.UidLemmas.{IsText}
use Rattle.cedar_parser.specs.PolicyText.{ArePolicies, NoPolicies, IsRead, IsReadLast, IsPolicyText, TokensFault, HasFault, written, normal}
use Rattle.cedar_parser.specs.Private.ReadAgain.{is_read_again}

abbrev pub Only : Result PolicySetTree ParseFault → PolicySetTree → Type 0
Only r set = MatchResult r (λ found. found ≡ set) (λ e. e ≡ f.OutOfMemory)

pub parsed : (l : Language) (source : List ℕ) (ms : Marks) (r : Result PolicySetTree ParseFault) → IsText source ms → IfOk r (ArePolicies l ms []) → IfOk r (IsPolicyText l source)
parsed l source ms (Ok set) t h = record { tokens = ms; are_tokens = written t.are; are_policies = h }
parsed l source ms (Err x) t h = tt

by_normal : (l : Language) (source : List ℕ) (ms ts : Marks) (r : Result PolicySetTree ParseFault) (set : PolicySetTree) → IsText source ms → is_read_again l r ≡ false → IfOk r (ArePolicies l ms [])
    → l ≡ Cedar4 → IsMarked source ts → NoPolicies Cedar4 ts → Only r set
by_normal l source ms ts (Ok found) set t last are e i none =
    absurd (none found (subst (λ (ns : Marks). ArePolicies Cedar4 ns [] found) (t.only ts i) (subst (λ (m : Language). ArePolicies m ms [] found) e are)))
by_normal Cedar4 source ms ts (Err f.OutOfMemory) set t last are e i none = refl
by_normal Cedar4 source ms ts (Err x) set t last are e i none = absurd cc
by_normal Profile source ms ts (Err x) set t last are e i none = absurd cc

by_tokens : (l : Language) (source : List ℕ) (ms ts : Marks) (r : Result PolicySetTree ParseFault) (set : PolicySetTree) → IsText source ms → is_read_again l r ≡ false → IfOk r (ArePolicies l ms [])
    → ((set : PolicySetTree) → ArePolicies l ms [] set → Only r set) → IsRead l source ts → ArePolicies l ts [] set → Only r set
by_tokens l source ms ts r set t last are only (written i) h = only set (subst (λ (ns : Marks). ArePolicies l ns [] set) (sym (t.only ts i)) h)
by_tokens l source ms ts r set t last are only (normal e i none n) h = by_normal l source ms _ r set t last are e i none

pub parsed_only : (l : Language) (source : List ℕ) (ms : Marks) (r : Result PolicySetTree ParseFault) → IsText source ms → is_read_again l r ≡ false → IfOk r (ArePolicies l ms [])
    → ((set : PolicySetTree) → ArePolicies l ms [] set → Only r set) → (set : PolicySetTree) → IsPolicyText l source set → Only r set
parsed_only l source ms r t last are only set h = by_tokens l source ms h.tokens r set t last are only h.are_tokens h.are_policies

-- tokens that are read last have the fault
fault_there : (l : Language) (source : List ℕ) (ms : Marks) → IsReadLast l source ms → (x : ParseFault) → TokensFault l ms x → HasFault l source x
fault_there l source ms i f.OutOfMemory h = tt
fault_there l source ms i (f.Text y) h = absurd h
fault_there l source ms i _ h = (ms, i, h)

written_fault : (l : Language) (source : List ℕ) (ms : Marks) (x : ParseFault) → IsText source ms → is_read_again l (Err x) ≡ false → TokensFault l ms x → HasFault l source x
written_fault Profile source ms x t last h = fault_there Profile source ms t.are x h
written_fault Cedar4 source ms f.OutOfMemory t last h = tt
written_fault Cedar4 source ms x t last h = absurd cc

pub parsed_fault : (l : Language) (source : List ℕ) (ms : Marks) (r : Result PolicySetTree ParseFault) → IsText source ms → is_read_again l r ≡ false → IfErr r (TokensFault l ms) → IfErr r (HasFault l source)
parsed_fault l source ms (Ok set) t last h = tt
parsed_fault l source ms (Err x) t last h = written_fault l source ms x t last h

-- ---- the normal tokens of a text

-- The tokens of the text are no policies, and these are its normal ones.
pub record IsReadAgain (l : Language) (source : List ℕ) (ms ns : Marks) : Type 0 where
  pub is : l ≡ Cedar4
  pub are : IsMarked source ms
  pub none : NoPolicies Cedar4 ms
  pub normal_are : IsNormallyMarked source ns
  pub one : (ts us : Marks) → IsNormallyMarked source ts → IsNormallyMarked source us → ts ≡ us
  pub only : (ts : Marks) → IsMarked source ts → ms ≡ ts

no_policies_in : (l : Language) (r : Result PolicySetTree ParseFault) (ms : Marks) → is_read_again l r ≡ true → ((set : PolicySetTree) → ArePolicies l ms [] set → Only r set) → NoPolicies Cedar4 ms
no_policies_in Profile r ms again only set h = absurd cc
no_policies_in Cedar4 (Ok found) ms again only set h = absurd cc
no_policies_in Cedar4 (Err f.OutOfMemory) ms again only set h = absurd cc
no_policies_in Cedar4 (Err x) ms again only set h = absurd (let e = only set h in cc)

is_cedar4 : (l : Language) (r : Result PolicySetTree ParseFault) → is_read_again l r ≡ true → l ≡ Cedar4
is_cedar4 Profile r again = absurd cc
is_cedar4 Cedar4 r again = refl

pub read_again : (l : Language) (source : List ℕ) (ms ns : Marks) (r : Result PolicySetTree ParseFault) → IsText source ms → is_read_again l r ≡ true → ((set : PolicySetTree) → ArePolicies l ms [] set → Only r set)
    → AreNormal ms ns → ((ts us : Marks) → IsNormallyMarked source ts → IsNormallyMarked source us → ts ≡ us) → IsReadAgain l source ms ns
read_again l source ms ns r t again only are one = record {
  is = is_cedar4 l r again;
  are = t.are;
  none = no_policies_in l r ms again only;
  normal_are = (t.are.0, t.are.1, are t.are.0 t.are.2);
  one = one;
  only = t.only;
}

pub parsed_again : (l : Language) (source : List ℕ) (ms ns : Marks) (r : Result PolicySetTree ParseFault) → IsReadAgain l source ms ns → IfOk r (ArePolicies l ns []) → IfOk r (IsPolicyText l source)
parsed_again l source ms ns (Ok set) a h = record { tokens = ns; are_tokens = normal a.is a.are a.none a.normal_are; are_policies = h }
parsed_again l source ms ns (Err x) a h = tt

tokens_again : (l : Language) (source : List ℕ) (ms ns ts : Marks) (set : PolicySetTree) → IsReadAgain l source ms ns → IsRead l source ts → ArePolicies l ts [] set → ArePolicies l ns [] set
tokens_again l source ms ns ts set a (written i) h =
    absurd (a.none set (subst (λ (us : Marks). ArePolicies Cedar4 us [] set) (sym (a.only ts i)) (subst (λ (m : Language). ArePolicies m ts [] set) a.is h)))
tokens_again l source ms ns ts set a (normal e i none n) h = subst (λ (us : Marks). ArePolicies l us [] set) (a.one ts ns n a.normal_are) h

pub parsed_again_only : (l : Language) (source : List ℕ) (ms ns : Marks) (r : Result PolicySetTree ParseFault) → IsReadAgain l source ms ns → ((set : PolicySetTree) → ArePolicies l ns [] set → Only r set)
    → (set : PolicySetTree) → IsPolicyText l source set → Only r set
parsed_again_only l source ms ns r a only set h = only set (tokens_again l source ms ns h.tokens set a h.are_tokens h.are_policies)

pub parsed_again_fault : (l : Language) (source : List ℕ) (ms ns : Marks) (r : Result PolicySetTree ParseFault) → IsReadAgain l source ms ns → IfErr r (TokensFault l ns) → IfErr r (HasFault l source)
parsed_again_fault l source ms ns (Ok set) a h = tt
parsed_again_fault l source ms ns (Err x) a h = fault_there l source ns (subst (λ (m : Language). IsReadLast m source ns) (sym a.is) a.normal_are) x h

-- ---- a text without tokens

-- a text that is read has tokens
has_tokens : (l : Language) (source : List ℕ) (ts : Marks) → IsRead l source ts → (ms : Marks) × IsMarked source ms
has_tokens l source ts (written i) = (ts, i)
has_tokens l source ts (normal e i none n) = (_, i)

no_marks : (ms : Marks) (x : ParseFault) → HasMarks ms (Err x) → x ≡ f.OutOfMemory
no_marks ms f.OutOfMemory h = refl
no_marks ms _ h = absurd h

pub unread_answers : (source : List ℕ) (x : ParseFault) → ((ms : Marks) → IsMarked source ms → HasMarks ms (Err x)) → (l : Language) (ts : Marks) → IsRead l source ts → x ≡ f.OutOfMemory
unread_answers source x only l ts i = let p = has_tokens l source ts i in no_marks p.0 x (only p.0 p.1)

pub unread_text : (l : Language) (source : List ℕ) (x : ParseFault) → HasMarksFault source x → HasFault l source x
unread_text l source f.OutOfMemory h = tt
unread_text l source (f.Text at) h = h
unread_text l source _ h = absurd h
