-- Lemmas on what was read and written since the call began.
use Rattle.std.proofs.Common.{◌≡◌, ◌≢◌, ℕ, List, [], ◌∷◌, ◌++◌, length, take, Option, None, Some, IfSome, refl, sym, ap, subst, ◌∙◌, append_assoc, append-nil}
use Rattle.std.proofs.Math.Seq.{take-append_seam}
use Rattle.std.specs.Io.KnownBytes.{Appends, Consumes, IsAtEnd, Keeps}
use Rattle.std.proofs.KnownBytes.{Appends-trans, Consumes-nil, Consumes-trans, Consumes-kept}
use Rattle.base_lines.specs.Lines.{line_feed, lines_of, ended_lines_of}
use Rattle.base_lines.specs.AnswerText.{AnswersEach, AnswersFirst, BeginsAnswers, IsAnswerText, Writes, Receives}
use Rattle.base_lines.specs.Private.Progress.{IsPiece, Answered, Sent, SendsOn, Served, ServedAll}
use Rattle.base_lines.proofs.Steps.{Sent-start, Sent-flush, Sent-part, Answered-more, Answered-first, Answered-ended, Answered-all, Answered-last}

pub known : (a b : Option (List ℕ)) (given : List ℕ) (P : List ℕ → Type 0) → Consumes a b given → ((tail : List ℕ) → P (given ++ tail)) → IfSome a P
known None b given P c h = tt
known (Some x) None given P c h = absurd c
known (Some x) (Some y) given P c h = subst P (sym c) (h y)

pub known_all : (a b : Option (List ℕ)) (given : List ℕ) (P : List ℕ → Type 0) → Consumes a b given → IsAtEnd b → P given → IfSome a P
known_all None b given P c e h = tt
known_all (Some x) None given P c e h = absurd c
known_all (Some x) (Some y) given P c e h = subst P (sym (c ∙ ap (λ (u : List ℕ). given ++ u) e ∙ append-nil given)) h

pub Served-start : (r : List ℕ → List ℕ → Type 0) (a w : Option (List ℕ)) (line out : List ℕ) → line ≡ [] → out ≡ [] → Served r a a w w line out
Served-start r a w line out l o = record {
  given = [];
  consumes = Consumes-nil a;
  sent = subst (λ (u : List ℕ). Sent r [] u w w out) (sym l) (subst (λ (u : List ℕ). Sent r [] [] w w u) (sym o) (Sent-start r w));
}

pub Served-flush : (r : List ℕ → List ℕ → Type 0) (a b w v v' : Option (List ℕ)) (rest out out' : List ℕ)
    → Served r a b w v rest out → Appends v v' out → out' ≡ [] → Served r a b w v' rest out'
Served-flush r a b w v v' rest out out' s p e = record {
  given = s.given;
  consumes = s.consumes;
  sent = Sent-flush r s.given rest w v v' out out' s.sent p e;
}

pub Served-part : (r : List ℕ → List ℕ → Type 0) (a b w v v' : Option (List ℕ)) (rest out : List ℕ)
    → Served r a b w v rest out → Writes v v' (λ text. (waits : List ℕ) × (out ≡ text ++ waits)) → (rest waits : List ℕ) × Served r a b w v' rest waits
Served-part r a b w v v' rest out s p = (
  rest,
  p.2.0,
  record {
    given = s.given;
    consumes = s.consumes;
    sent = Sent-part r s.given rest w v v' out p.0 p.2.0 s.sent p.1 p.2.1;
  },
)

pub Served-kept : (r : List ℕ → List ℕ → Type 0) (a b b' w v : Option (List ℕ)) (rest out : List ℕ)
    → Served r a b w v rest out → Keeps b b' → Served r a b' w v rest out
Served-kept r a b b' w v rest out s k = record {
  given = s.given;
  consumes = Consumes-kept a b b' s.given s.consumes k;
  sent = s.sent;
}

-- a read that gave nothing
pub Served-end : (r : List ℕ → List ℕ → Type 0) (a b b' w v : Option (List ℕ)) (rest out more : List ℕ)
    → Served r a b w v rest out → Consumes b b' more → more ≡ [] → Served r a b' w v rest out
Served-end r a b b' w v rest out more s c e = record {
  given = s.given;
  consumes = subst (λ (u : List ℕ). Consumes a b' u) (append-nil s.given)
      (Consumes-trans a b b' s.given [] s.consumes (subst (λ (u : List ℕ). Consumes b b' u) e c));
  sent = s.sent;
}

pub Served-on : (r : List ℕ → List ℕ → Type 0) (a b b' w v v' : Option (List ℕ)) (rest rest' out out' more : List ℕ)
    → Served r a b w v rest out → Consumes b b' more → SendsOn r more rest rest' v v' out out' → Served r a b' w v' rest' out'
Served-on r a b b' w v v' rest rest' out out' more s c h = record {
  given = s.given ++ more;
  consumes = Consumes-trans a b b' s.given more s.consumes c;
  sent = h s.given w s.sent;
}

pub Served-done : (r : List ℕ → List ℕ → Type 0) (a b w v : Option (List ℕ)) (rest out : List ℕ) → Served r a b w v rest out → rest ≡ [] → ServedAll r a b w v out
Served-done r a b w v rest out s e = record {
  given = s.given;
  text = s.sent.text;
  written = s.sent.written;
  consumes = s.consumes;
  answered = Answered-all r s.given s.sent.text (subst (λ (u : List ℕ). Answered r s.given u s.sent.text) e s.sent.answered);
  appends = s.sent.appends;
  waits = s.sent.waits;
}

pub Served-last : (r : List ℕ → List ℕ → Type 0) (a b w v : Option (List ℕ)) (rest out out' answer : List ℕ) → Served r a b w v rest out → IsPiece rest → rest ≢ [] → r (rest ++ []) answer
    → out' ≡ out ++ (answer ++ (line_feed ∷ [])) → ServedAll r a b w v out'
Served-last r a b w v rest out out' answer s p n h o = record {
  given = s.given;
  text = s.sent.text ++ (answer ++ (line_feed ∷ []));
  written = s.sent.written;
  consumes = s.consumes;
  answered = Answered-last r s.given rest s.sent.text answer s.sent.answered p n (subst (λ (u : List ℕ). r u answer) (append-nil rest) h);
  appends = s.sent.appends;
  waits = ap (λ (u : List ℕ). u ++ (answer ++ (line_feed ∷ []))) s.sent.waits ∙ append_assoc s.sent.written out (answer ++ (line_feed ∷ [])) ∙ ap (λ (u : List ℕ). s.sent.written ++ u) (sym o);
}

pub served-memory : (r : List ℕ → List ℕ → Type 0) (a b w v v' : Option (List ℕ)) (rest out : List ℕ) → Served r a b w v rest out → Appends v v' out
    → IfSome a (λ input. Writes w v' (AnswersFirst r (lines_of input)))
served-memory r a b w v v' rest out s p = known a b s.given (λ input. Writes w v' (AnswersFirst r (lines_of input))) s.consumes
    (λ tail. (
      s.sent.written ++ out,
      Appends-trans w v v' s.sent.written out s.sent.appends p,
      subst (λ (u : List ℕ). AnswersFirst r (lines_of (s.given ++ tail)) u) s.sent.waits
          (Answered-first r (s.given ++ tail) (rest ++ tail) s.sent.text (Answered-more r s.given rest s.sent.text tail s.sent.answered)),
    ))

pub served-begins : (r : List ℕ → List ℕ → Type 0) (a b w v : Option (List ℕ)) (rest waits : List ℕ) → Served r a b w v rest waits
    → IfSome a (λ input. Writes w v (BeginsAnswers r (lines_of input)))
served-begins r a b w v rest waits s = known a b s.given (λ input. Writes w v (BeginsAnswers r (lines_of input))) s.consumes
    (λ tail. (
      s.sent.written,
      s.sent.appends,
      (
        waits,
        subst (λ (u : List ℕ). AnswersFirst r (lines_of (s.given ++ tail)) u) s.sent.waits
            (Answered-first r (s.given ++ tail) (rest ++ tail) s.sent.text (Answered-more r s.given rest s.sent.text tail s.sent.answered)),
      ),
    ))

pub served-flushed : (r : List ℕ → List ℕ → Type 0) (a b w v v' : Option (List ℕ)) (rest out : List ℕ) → Served r a b w v rest out → Appends v v' out
    → IfSome a (λ input. Writes w v' (BeginsAnswers r (lines_of input)))
served-flushed r a b w v v' rest out s p = served-begins r a b w v' rest [] (Served-flush r a b w v v' rest out [] s p refl)

pub served-cut : (r : List ℕ → List ℕ → Type 0) (a b w v v' : Option (List ℕ)) (rest out : List ℕ) → Served r a b w v rest out → Writes v v' (λ text. (waits : List ℕ) × (out ≡ text ++ waits))
    → IfSome a (λ input. Writes w v' (BeginsAnswers r (lines_of input)))
served-cut r a b w v v' rest out s p = let q = Served-part r a b w v v' rest out s p in served-begins r a b w v' q.0 q.1 q.2

pub served-read : (r : List ℕ → List ℕ → Type 0) (a b w v : Option (List ℕ)) (rest : List ℕ) → Served r a b w v rest [] → IsPiece rest
    → Receives a b (λ given. Writes w v (AnswersEach r (ended_lines_of given)))
served-read r a b w v rest s p = (
  s.given,
  s.consumes,
  (
    s.sent.written,
    s.sent.appends,
    subst (λ (u : List ℕ). AnswersEach r (ended_lines_of s.given) u) (s.sent.waits ∙ append-nil s.sent.written) (Answered-ended r s.given rest s.sent.text s.sent.answered p),
  ),
)

pub served-all : (r : List ℕ → List ℕ → Type 0) (a b w v v' : Option (List ℕ)) (out : List ℕ) → ServedAll r a b w v out → IsAtEnd b → Appends v v' out
    → IfSome a (λ input. Writes w v' (IsAnswerText r input))
served-all r a b w v v' out s e p = known_all a b s.given (λ input. Writes w v' (IsAnswerText r input)) s.consumes e
    (s.written ++ out, Appends-trans w v v' s.written out s.appends p, subst (λ (u : List ℕ). IsAnswerText r s.given u) s.waits s.answered)

all_first : (r : List ℕ → List ℕ → Type 0) (lines : List (List ℕ)) (text : List ℕ) → AnswersEach r lines text → AnswersFirst r lines text
all_first r lines text h = (length lines, subst (λ (ls : List (List ℕ)). AnswersEach r ls text) (sym (ap (take (length lines)) (sym (append-nil lines)) ∙ take-append_seam lines [])) h)

pub served-all_cut : (r : List ℕ → List ℕ → Type 0) (a b w v v' : Option (List ℕ)) (out : List ℕ) → ServedAll r a b w v out → IsAtEnd b → Writes v v' (λ text. (waits : List ℕ) × (out ≡ text ++ waits))
    → IfSome a (λ input. Writes w v' (BeginsAnswers r (lines_of input)))
served-all_cut r a b w v v' out s e p = known_all a b s.given (λ input. Writes w v' (BeginsAnswers r (lines_of input))) s.consumes e (
  s.written ++ p.0,
  Appends-trans w v v' s.written p.0 s.appends p.1,
  (
    p.2.0,
    subst (λ (u : List ℕ). AnswersFirst r (lines_of s.given) u) (s.waits ∙ ap (λ (u : List ℕ). s.written ++ u) p.2.1 ∙ sym (append_assoc s.written p.0 p.2.0))
        (all_first r (lines_of s.given) s.text s.answered),
  ),
)
