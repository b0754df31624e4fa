-- Lemmas on cutting bytes at LF.
use Rattle.std.proofs.Common.{◌≡◌, ◌≢◌, ℕ, zero, suc, ◌+◌, ◌<◌, ◌≤◌, ◌==◌, List, [], ◌∷◌, ◌++◌, length, take, drop, get_or, true, false, refl, sym, ap, subst, ◌∙◌, arith, append_assoc}
use Rattle.std.proofs.lemmas.List.{take_all, take-append-drop, drop_more}
use Rattle.base_lines.specs.Lines.{line_feed, lines_of, ended_lines_of}
use Rattle.base_lines.specs.Private.Progress.{IsPiece, ArePieces, joined}

piece_suc : (xs : List ℕ) (i : ℕ) → IsPiece (take i xs) → i < length xs → get_or xs i 0 ≢ line_feed → IsPiece (take (suc i) xs)
piece_suc [] i p l n = tt
piece_suc (x ∷ xs) zero p l n = (n, tt)
piece_suc (x ∷ xs) (suc i) p l n = (p.0, piece_suc xs i p.1 (omega arith) n)

-- no place before n has an LF
pub piece_before : (xs : List ℕ) (n : ℕ) → n ≤ length xs → ((k : ℕ) → k < n → get_or xs k 0 ≢ line_feed) → IsPiece (take n xs)
piece_before xs zero h none = tt
piece_before xs (suc n) h none = piece_suc xs n (piece_before xs n (omega arith) (λ k less. none k (omega arith))) (omega arith) (none n (omega arith))

pub whole_piece : (xs : List ℕ) → ((k : ℕ) → k < length xs → get_or xs k 0 ≢ line_feed) → IsPiece xs
whole_piece xs none = subst IsPiece (take_all (length xs) xs (omega arith)) (piece_before xs (length xs) (omega arith) none)

pub cut_at : (xs : List ℕ) (end : ℕ) → end < length xs → get_or xs end 0 ≡ line_feed → xs ≡ take end xs ++ (line_feed ∷ drop (end + 1) xs)
cut_at xs end h e = sym (take-append-drop end xs) ∙ ap (λ (ys : List ℕ). take end xs ++ ys) (drop_more xs end 0 h ∙ ap (λ (b : ℕ). b ∷ drop (end + 1) xs) e)

pub piece_append : (xs ys : List ℕ) → IsPiece xs → IsPiece ys → IsPiece (xs ++ ys)
piece_append [] ys p q = q
piece_append (x ∷ xs) ys p q = (p.0, piece_append xs ys p.1 q)

eqb_other : (b : ℕ) → b ≢ line_feed → (b == line_feed) ≡ false
eqb_other b n = grind arith

pub lines_of-cut : (l rest : List ℕ) → IsPiece l → lines_of (l ++ (line_feed ∷ rest)) ≡ l ∷ lines_of rest
lines_of-cut [] rest p = refl
lines_of-cut (b ∷ l) rest p = rw (eqb_other b p.0, lines_of-cut l rest p.1) refl

pub ended-cut : (l rest : List ℕ) → IsPiece l → ended_lines_of (l ++ (line_feed ∷ rest)) ≡ l ∷ ended_lines_of rest
ended-cut [] rest p = refl
ended-cut (b ∷ l) rest p = rw (eqb_other b p.0, ended-cut l rest p.1) refl

pub ended-piece : (l : List ℕ) → IsPiece l → ended_lines_of l ≡ []
ended-piece [] p = refl
ended-piece (b ∷ l) p = rw (eqb_other b p.0, ended-piece l p.1) refl

pub lines_of-piece : (b : ℕ) (l : List ℕ) → IsPiece (b ∷ l) → lines_of (b ∷ l) ≡ (b ∷ l) ∷ []
lines_of-piece b [] p = rw (eqb_other b p.0) refl
lines_of-piece b (c ∷ l) p = rw (eqb_other b p.0, lines_of-piece c l p.1) refl

pub lines_of-joined : (ls : List (List ℕ)) (rest : List ℕ) → ArePieces ls → lines_of (joined ls ++ rest) ≡ ls ++ lines_of rest
lines_of-joined [] rest p = refl
lines_of-joined (l ∷ ls) rest p =
    ap lines_of (append_assoc l (line_feed ∷ joined ls) rest) ∙ lines_of-cut l (joined ls ++ rest) p.0 ∙ ap (λ (t : List (List ℕ)). l ∷ t) (lines_of-joined ls rest p.1)

pub ended-joined : (ls : List (List ℕ)) (rest : List ℕ) → ArePieces ls → IsPiece rest → ended_lines_of (joined ls ++ rest) ≡ ls
ended-joined [] rest p q = ended-piece rest q
ended-joined (l ∷ ls) rest p q =
    ap ended_lines_of (append_assoc l (line_feed ∷ joined ls) rest) ∙ ended-cut l (joined ls ++ rest) p.0 ∙ ap (λ (t : List (List ℕ)). l ∷ t) (ended-joined ls rest p.1 q)

pub ended-before : (ls : List (List ℕ)) (rest : List ℕ) → ArePieces ls → ended_lines_of (joined ls ++ rest) ≡ ls ++ ended_lines_of rest
ended-before [] rest p = refl
ended-before (l ∷ ls) rest p =
    ap ended_lines_of (append_assoc l (line_feed ∷ joined ls) rest) ∙ ended-cut l (joined ls ++ rest) p.0 ∙ ap (λ (t : List (List ℕ)). l ∷ t) (ended-before ls rest p.1)

pub joined-append : (ls ms : List (List ℕ)) → joined (ls ++ ms) ≡ joined ls ++ joined ms
joined-append [] ms = refl
joined-append (l ∷ ls) ms =
    ap (λ (t : List ℕ). l ++ (line_feed ∷ t)) (joined-append ls ms) ∙ sym (append_assoc l (line_feed ∷ joined ls) (joined ms))

pub pieces-append : (ls ms : List (List ℕ)) → ArePieces ls → ArePieces ms → ArePieces (ls ++ ms)
pieces-append [] ms p q = q
pieces-append (l ∷ ls) ms p q = (p.0, pieces-append ls ms p.1 q)

pub none_left : (n : ℕ) (xs : List ℕ) → n ≡ length xs → true ≡ (n == 0) → xs ≡ []
none_left n [] e t = refl
none_left n (x ∷ xs) e t = absurd (grind arith)

pub some_left : (n : ℕ) (xs : List ℕ) → n ≡ length xs → false ≡ (n == 0) → xs ≢ []
some_left n [] e t = λ _. grind arith
some_left n (x ∷ xs) e t = λ q. cc
