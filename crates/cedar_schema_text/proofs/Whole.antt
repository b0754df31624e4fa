-- A text has one list of tokens at most, and denotes one JSON at most.
use Rattle.std.proofs.Common.{◌≡◌, ℕ, zero, suc, ◌<◌, List, [], ◌∷◌, length, get_or, arith, Result, Ok, Err, Contains, ◌⊎◌, inl, inr, IfOk, IfErr, refl, sym, ap, ap₂, subst, ◌∙◌}
use Rattle.serde_json.specs.Data.{Data, null}
use Rattle.serde_json.specs.View.{view}
use Rattle.serde_json.specs.declared.value.Value.{Value}
use Rattle.cedar_schema_text.specs.declared.token_kind.TokenKind.{TokenKind}
use Rattle.cedar_schema_text.specs.declared.token_kind.TokenKind.TheVariants as k
use Rattle.cedar_schema_text.specs.declared.fault.SchemaTextFault.{SchemaTextFault}
use Rattle.cedar_schema_text.specs.declared.fault.SchemaTextFault.TheVariants as f
use Rattle.cedar_schema_text.specs.Marks.{Mark, Marks}
use Rattle.cedar_schema_text.specs.Strings.{IsRead, AreRead, IsBadString, ended}
use Rattle.cedar_schema_text.specs.Reading.{Outcome}
use Rattle.cedar_schema_text.specs.Grammar.{schema}
use Rattle.cedar_schema_text.specs.SchemaText.{HasTokens, IsSchemaText, LacksTokens, HasFault, HasJson}
use Rattle.cedar_schema_text.specs.Private.Contract.{Reads, IsRefusedFor}
use Rattle.cedar_schema_text.proofs.Denoting.{OneSpelling, one_text}

-- ---- one list of tokens

is_string : (kind : TokenKind) → (kind ≡ k.String) ⊎ (kind ≡ k.String → ⊥)
is_string k.String = inl refl
is_string k.Word = inr (λ e. absurd cc)
is_string k.LeftBrace = inr (λ e. absurd cc)
is_string k.RightBrace = inr (λ e. absurd cc)
is_string k.LeftBracket = inr (λ e. absurd cc)
is_string k.RightBracket = inr (λ e. absurd cc)
is_string k.LeftParen = inr (λ e. absurd cc)
is_string k.RightParen = inr (λ e. absurd cc)
is_string k.Less = inr (λ e. absurd cc)
is_string k.Greater = inr (λ e. absurd cc)
is_string k.Comma = inr (λ e. absurd cc)
is_string k.Semicolon = inr (λ e. absurd cc)
is_string k.Colon = inr (λ e. absurd cc)
is_string k.DoubleColon = inr (λ e. absurd cc)
is_string k.Question = inr (λ e. absurd cc)
is_string k.Equal = inr (λ e. absurd cc)
is_string k.At = inr (λ e. absurd cc)
is_string k.End = inr (λ e. absurd cc)

text_of : OneSpelling → (p m n : Mark) → IsRead p m → IsRead p n → m.text ≡ n.text
text_of one p m n a b = elim (is_string p.kind) [
  | inl e ↦ one_text one p.text m.text n.text (a.string e) (b.string e)
  | inr e ↦ a.other e ∙ sym (b.other e)
]

one_mark : OneSpelling → (p m n : Mark) → IsRead p m → IsRead p n → m ≡ n
one_mark one p m n a b =
    let kind : m.kind ≡ n.kind = a.kind ∙ sym b.kind in
    let start : m.start ≡ n.start = a.start ∙ sym b.start in
    let text = text_of one p m n a b in
    ap (λ q. record { kind = q; start = m.start; text = m.text }) kind ∙ ap (λ (q : ℕ). record { kind = n.kind; start = q; text = m.text }) start ∙ ap (λ (q : List ℕ). record { kind = n.kind; start = n.start; text = q }) text

one_read : OneSpelling → (ps ms ns : Marks) → AreRead ps ms → AreRead ps ns → ms ≡ ns
one_read one [] [] [] a b = refl
one_read one [] [] (n ∷ ns) a b = absurd b
one_read one [] (m ∷ ms) ns a b = absurd a
one_read one (p ∷ ps) [] ns a b = absurd a
one_read one (p ∷ ps) (m ∷ ms) [] a b = absurd b
one_read one (p ∷ ps) (m ∷ ms) (n ∷ ns) a b = ap₂ (λ x xs. x ∷ xs) (one_mark one p m n a.0 b.0) (one_read one ps ms ns a.1 b.1)

ok_is : {x y : Marks} → ◌≡◌ {A = Result Marks SchemaTextFault} (Ok x) (Ok y) → x ≡ y
ok_is h = cc

pub one_tokens : OneSpelling → (source : List ℕ) (ts us : Marks) → HasTokens source ts → HasTokens source us → ts ≡ us
one_tokens one source ts us a b =
    let same : a.0 ≡ b.0 = ok_is (sym a.2 ∙ b.2) in
    a.4 ∙ ap (ended (length source)) (one_read one b.0 a.1 b.1 (subst (λ ps. AreRead ps a.1) same a.3) b.3) ∙ sym b.4

-- ---- tokens, or none

-- each token as it is written is read
read_at : (ps ms : Marks) (i : ℕ) (d : Mark) → AreRead ps ms → i < length ps → (m : Mark) × IsRead (get_or ps i d) m
read_at [] ms i d a lt = absurd (omega arith)
read_at (p ∷ ps) [] i d a lt = absurd a
read_at (p ∷ ps) (m ∷ ms) zero d a lt = (m, a.0)
read_at (p ∷ ps) (m ∷ ms) (suc i) d a lt = read_at ps ms i d a.1 (omega arith)

no_bad_string : (ps ms : Marks) (p : Mark) (fault : SchemaTextFault) → AreRead ps ms → Contains ps p → IsBadString fault p → ⊥
no_bad_string ps ms p fault a within bad =
    let r = read_at ps ms within.0 p a within.1 in
    let read : IsRead p r.0 = subst (λ (q : Mark). IsRead q r.0) within.2 r.1 in
    bad.none r.0.text (read.string bad.string)

pub tokens_not_lacking : (source : List ℕ) (ts : Marks) (fault : SchemaTextFault) → HasTokens source ts → LacksTokens source fault → ⊥
tokens_not_lacking source ts fault a (inl e) = absurd (let h = sym a.2 ∙ e in cc)
tokens_not_lacking source ts fault a (inr l) =
    let same : a.0 ≡ l.0 = ok_is (sym a.2 ∙ l.1) in
    no_bad_string l.0 a.1 l.2.0 fault (subst (λ ps. AreRead ps a.1) same a.3) l.2.1 l.2.2

-- ---- one JSON

pub found_by : (source : List ℕ) (ts us : Marks) (r : Result Value SchemaTextFault) → HasTokens source ts → Reads view (schema ts) r us → IfOk r (λ v. IsSchemaText source (view v))
found_by source ts us (Ok v) tokens reads = (ts, us, tokens, reads)
found_by source ts us (Err fault) tokens reads = tt

one_data : (ts us vs : Marks) (d e : Data) → schema ts ≡ Ok (d, us) → schema ts ≡ Ok (e, vs) → d ≡ e
one_data ts us vs d e a b = ap data_in (sym a ∙ b)
  where
    data_in : Outcome Data → Data
    data_in (Ok p) = p.0
    data_in (Err fault) = null

pub only_by : OneSpelling → (source : List ℕ) (ts us : Marks) (r : Result Value SchemaTextFault) → HasTokens source ts → Reads view (schema ts) r us → (d : Data) → IsSchemaText source d → HasJson d r
only_by one source ts us (Ok v) tokens reads d i =
    let same = one_tokens one source ts i.0 tokens i.2 in
    one_data ts us i.1 (view v) d reads (ap schema same ∙ i.3)
only_by one source ts us (Err f.OutOfMemory) tokens reads d i = tt
only_by one source ts us (Err (f.Syntax at)) tokens reads d i = absurd (let h = sym reads ∙ ap schema (one_tokens one source ts i.0 tokens i.2) ∙ i.3 in cc)
only_by one source ts us (Err (f.Twice at)) tokens reads d i = absurd (let h = sym reads ∙ ap schema (one_tokens one source ts i.0 tokens i.2) ∙ i.3 in cc)

pub fault_by : (source : List ℕ) (ts us : Marks) (r : Result Value SchemaTextFault) → HasTokens source ts → Reads view (schema ts) r us → IfErr r (HasFault source)
fault_by source ts us (Ok v) tokens reads = tt
fault_by source ts us (Err f.OutOfMemory) tokens reads = tt
fault_by source ts us (Err (f.Syntax at)) tokens reads = inr (ts, tokens, reads)
fault_by source ts us (Err (f.Twice at)) tokens reads = inr (ts, tokens, reads)

-- ---- without tokens

pub only_without : (source : List ℕ) (fault : SchemaTextFault) → IsRefusedFor (LacksTokens source) fault → (d : Data) → IsSchemaText source d → HasJson d (Err fault)
only_without source f.OutOfMemory lacks d i = tt
only_without source (f.Syntax at) lacks d i = tokens_not_lacking source i.0 (f.Syntax at) i.2 lacks
only_without source (f.Twice at) lacks d i = tokens_not_lacking source i.0 (f.Twice at) i.2 lacks

pub fault_without : (source : List ℕ) (fault : SchemaTextFault) → IsRefusedFor (LacksTokens source) fault → HasFault source fault
fault_without source f.OutOfMemory lacks = tt
fault_without source (f.Syntax at) lacks = inl lacks
fault_without source (f.Twice at) lacks = inl lacks
