-- Lemmas on answering line by line.
use Rattle.std.proofs.Common.{◌≡◌, ◌≢◌, ℕ, List, [], ◌∷◌, ◌++◌, length, take, drop, Option, refl, sym, ap, subst, ◌∙◌, append_assoc, append-nil, take-append-drop}
use Rattle.std.proofs.Math.Seq.{take-append_seam}
use Rattle.std.specs.Io.KnownBytes.{Appends}
use Rattle.std.proofs.KnownBytes.{Appends-nil, Appends-trans}
use Rattle.base_lines.specs.Lines.{line_feed, lines_of, ended_lines_of}
use Rattle.base_lines.specs.AnswerText.{AnswersEach, AnswersFirst, IsAnswerText, Writes}
use Rattle.base_lines.specs.Private.Progress.{IsPiece, joined, Answered, Sent, SendsOn}
use Rattle.base_lines.proofs.Cuts.{piece_append, lines_of-joined, ended-joined, lines_of-piece, joined-append, pieces-append}

pub AnswersEach-append : (r : List ℕ → List ℕ → Type 0) (ls ms : List (List ℕ)) (s t : List ℕ) → AnswersEach r ls s → AnswersEach r ms t → AnswersEach r (ls ++ ms) (s ++ t)
AnswersEach-append r [] ms s t p q = subst (λ (u : List ℕ). AnswersEach r ms (u ++ t)) (sym p) q
AnswersEach-append r (l ∷ ls) ms s t p q =
    (p.0, p.1 ++ t, p.2, ap (λ (u : List ℕ). u ++ t) p.3 ∙ append_assoc p.0 (line_feed ∷ p.1) t, AnswersEach-append r ls ms p.1 t p.4 q)

pub AnswersEach-one : (r : List ℕ → List ℕ → Type 0) (l a : List ℕ) → r l a → AnswersEach r (l ∷ []) (a ++ (line_feed ∷ []))
AnswersEach-one r l a p = (a, [], p, refl, refl)

pub Answered-none : (r : List ℕ → List ℕ → Type 0) (bytes : List ℕ) → Answered r bytes bytes []
Answered-none r bytes = record { lines = []; pieces = tt; cut = refl; answered = refl }

pub Answered-line : (r : List ℕ → List ℕ → Type 0) (bytes line rest text answer : List ℕ) → Answered r bytes (line ++ (line_feed ∷ rest)) text → IsPiece line → r line answer → Answered r bytes rest (text ++ (answer ++ (line_feed ∷ [])))
Answered-line r bytes line rest text answer h p a = record {
  lines = h.lines ++ (line ∷ []);
  pieces = pieces-append h.lines (line ∷ []) h.pieces (p, tt);
  cut = h.cut ∙ ap (λ (u : List ℕ). joined h.lines ++ u) (sym (append_assoc line (line_feed ∷ []) rest)) ∙ sym (append_assoc (joined h.lines) (joined (line ∷ [])) rest) ∙ ap (λ (u : List ℕ). u ++ rest) (sym (joined-append h.lines (line ∷ [])));
  answered = AnswersEach-append r h.lines (line ∷ []) text (answer ++ (line_feed ∷ [])) h.answered (AnswersEach-one r line answer a);
}

pub Answered-more : (r : List ℕ → List ℕ → Type 0) (bytes rest text more : List ℕ) → Answered r bytes rest text → Answered r (bytes ++ more) (rest ++ more) text
Answered-more r bytes rest text more h = record {
  lines = h.lines;
  pieces = h.pieces;
  cut = ap (λ (u : List ℕ). u ++ more) h.cut ∙ append_assoc (joined h.lines) rest more;
  answered = h.answered;
}

pub Answered-first : (r : List ℕ → List ℕ → Type 0) (bytes rest text : List ℕ) → Answered r bytes rest text → AnswersFirst r (lines_of bytes) text
Answered-first r bytes rest text h =
    (length h.lines, subst (λ (ls : List (List ℕ)). AnswersEach r ls text) (sym (ap (λ (u : List ℕ). take (length h.lines) (lines_of u)) h.cut ∙ ap (take (length h.lines)) (lines_of-joined h.lines rest h.pieces) ∙ take-append_seam h.lines (lines_of rest))) h.answered)

pub Answered-ended : (r : List ℕ → List ℕ → Type 0) (bytes rest text : List ℕ) → Answered r bytes rest text → IsPiece rest → AnswersEach r (ended_lines_of bytes) text
Answered-ended r bytes rest text h p =
    subst (λ (ls : List (List ℕ)). AnswersEach r ls text) (sym (ap ended_lines_of h.cut ∙ ended-joined h.lines rest h.pieces p)) h.answered

pub Answered-all : (r : List ℕ → List ℕ → Type 0) (bytes text : List ℕ) → Answered r bytes [] text → IsAnswerText r bytes text
Answered-all r bytes text h =
    subst (λ (ls : List (List ℕ)). AnswersEach r ls text) (sym (ap lines_of h.cut ∙ lines_of-joined h.lines [] h.pieces ∙ append-nil h.lines)) h.answered

pub Answered-last : (r : List ℕ → List ℕ → Type 0) (bytes rest text answer : List ℕ) → Answered r bytes rest text → IsPiece rest → rest ≢ [] → r rest answer → IsAnswerText r bytes (text ++ (answer ++ (line_feed ∷ [])))
Answered-last r bytes [] text answer h p n a = absurd (n refl)
Answered-last r bytes (b ∷ rest) text answer h p n a =
    subst (λ (ls : List (List ℕ)). AnswersEach r ls (text ++ (answer ++ (line_feed ∷ []))))
    (sym (ap lines_of h.cut ∙ lines_of-joined h.lines (b ∷ rest) h.pieces ∙ ap (λ (u : List (List ℕ)). h.lines ++ u) (lines_of-piece b rest p)))
    (AnswersEach-append r h.lines ((b ∷ rest) ∷ []) text (answer ++ (line_feed ∷ [])) h.answered (AnswersEach-one r (b ∷ rest) answer a))

pub Writes-more : (a b c : Option (List ℕ)) (all rest next : List ℕ) (n : ℕ) → Writes a b (λ t. all ≡ t ++ rest) → Appends b c (take n rest) → next ≡ drop n rest → Writes a c (λ t. all ≡ t ++ next)
Writes-more a b c all rest next n h p e = (
  h.0 ++ take n rest,
  Appends-trans a b c h.0 (take n rest) h.1 p,
  h.2 ∙ ap (λ (u : List ℕ). h.0 ++ u) (sym (take-append-drop n rest) ∙ ap (λ (u : List ℕ). take n rest ++ u) (sym e)) ∙ sym (append_assoc h.0 (take n rest) next),
)

pub Sent-start : (r : List ℕ → List ℕ → Type 0) (w : Option (List ℕ)) → Sent r [] [] w w []
Sent-start r w = record { text = []; written = []; answered = Answered-none r []; appends = Appends-nil w; waits = refl }

pub Sent-line : (r : List ℕ → List ℕ → Type 0) (bytes line end rest after : List ℕ) (old new : Option (List ℕ)) (out out' answer : List ℕ)
    → Sent r bytes (line ++ rest) old new out → rest ≡ end ++ (line_feed ∷ after) → IsPiece line → IsPiece end → r (line ++ end) answer
    → out' ≡ out ++ (answer ++ (line_feed ∷ [])) → Sent r bytes after old new out'
Sent-line r bytes line end rest after old new out out' answer h e p q a o = record {
  text = h.text ++ (answer ++ (line_feed ∷ []));
  written = h.written;
  answered = Answered-line r bytes (line ++ end) after h.text answer
      (subst (λ (u : List ℕ). Answered r bytes u h.text) (ap (λ (u : List ℕ). line ++ u) e ∙ sym (append_assoc line end (line_feed ∷ after))) h.answered)
      (piece_append line end p q) a;
  appends = h.appends;
  waits = ap (λ (u : List ℕ). u ++ (answer ++ (line_feed ∷ []))) h.waits ∙ append_assoc h.written out (answer ++ (line_feed ∷ [])) ∙ ap (λ (u : List ℕ). h.written ++ u) (sym o);
}

pub Sent-flush : (r : List ℕ → List ℕ → Type 0) (bytes rest : List ℕ) (old mid new : Option (List ℕ)) (out out' : List ℕ)
    → Sent r bytes rest old mid out → Appends mid new out → out' ≡ [] → Sent r bytes rest old new out'
Sent-flush r bytes rest old mid new out out' h a e = record {
  text = h.text;
  written = h.written ++ out;
  answered = h.answered;
  appends = Appends-trans old mid new h.written out h.appends a;
  waits = h.waits ∙ sym (append-nil (h.written ++ out)) ∙ ap (λ (u : List ℕ). (h.written ++ out) ++ u) (sym e);
}

pub Sent-part : (r : List ℕ → List ℕ → Type 0) (bytes rest : List ℕ) (old mid new : Option (List ℕ)) (out text more : List ℕ)
    → Sent r bytes rest old mid out → Appends mid new text → out ≡ text ++ more → Sent r bytes rest old new more
Sent-part r bytes rest old mid new out text more h a e = record {
  text = h.text;
  written = h.written ++ text;
  answered = h.answered;
  appends = Appends-trans old mid new h.written text h.appends a;
  waits = h.waits ∙ ap (λ (u : List ℕ). h.written ++ u) e ∙ sym (append_assoc h.written text more);
}

pub Sent-more : (r : List ℕ → List ℕ → Type 0) (bytes rest more : List ℕ) (old new : Option (List ℕ)) (out : List ℕ)
    → Sent r bytes rest old new out → Sent r (bytes ++ more) (rest ++ more) old new out
Sent-more r bytes rest more old new out h = record {
  text = h.text;
  written = h.written;
  answered = Answered-more r bytes rest h.text more h.answered;
  appends = h.appends;
  waits = h.waits;
}

pub SendsOn-line : (r : List ℕ → List ℕ → Type 0) (more first line line' end rest after : List ℕ) (old new : Option (List ℕ)) (out0 out out' answer : List ℕ)
    → SendsOn r more first (line ++ rest) old new out0 out → rest ≡ end ++ (line_feed ∷ after) → IsPiece line → IsPiece end → r (line ++ end) answer
    → out' ≡ out ++ (answer ++ (line_feed ∷ [])) → line' ≡ [] → SendsOn r more first (line' ++ after) old new out0 out'
SendsOn-line r more first line line' end rest after old new out0 out out' answer h e p q a o n = λ bytes w s.
    subst (λ (u : List ℕ). Sent r (bytes ++ more) (u ++ after) w new out') (sym n)
    (Sent-line r (bytes ++ more) line end rest after w new out out' answer (h bytes w s) e p q a o)

pub SendsOn-flush : (r : List ℕ → List ℕ → Type 0) (more first rest : List ℕ) (old mid new : Option (List ℕ)) (out0 out out' : List ℕ)
    → SendsOn r more first rest old mid out0 out → Appends mid new out → out' ≡ [] → SendsOn r more first rest old new out0 out'
SendsOn-flush r more first rest old mid new out0 out out' h a e = λ bytes w s. Sent-flush r (bytes ++ more) rest w mid new out out' (h bytes w s) a e

pub SendsOn-part : (r : List ℕ → List ℕ → Type 0) (more first rest : List ℕ) (old mid new : Option (List ℕ)) (out0 out : List ℕ)
    → SendsOn r more first rest old mid out0 out → Writes mid new (λ text. (waits : List ℕ) × (out ≡ text ++ waits))
    → (rest waits : List ℕ) × SendsOn r more first rest old new out0 waits
SendsOn-part r more first rest old mid new out0 out h w =
    (rest, w.2.0, λ bytes v s. Sent-part r (bytes ++ more) rest v mid new out w.0 w.2.0 (h bytes v s) w.1 w.2.1)
