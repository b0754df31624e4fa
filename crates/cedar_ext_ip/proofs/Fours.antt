-- A text is read as an address of version 4 exactly where it is one.
use Rattle.std.proofs.Common.{◌≡◌, ℕ, ◌+◌, ◌*◌, ◌<◌, ◌≤◌, List, [], ◌∷◌, length, Option, Some, None, option_and_then, decimal, refl, sym, ap, ◌∙◌, arith, append-nil, lit≤, subst, ne_eqb}
use Rattle.std.specs.Char.{digit_value}
use Rattle.std.specs.Net.Reader.{read_ipv4, whole_value}
use Rattle.std.specs.Net.Addr.{ipv4_octets}
use Rattle.std.specs.Net.Grammar.{IsDotted, IsIpv4Text}
use Rattle.std.specs.declared.net.ipv4_addr.Ipv4Addr.{Ipv4Addr}
use Rattle.std.proofs.lemmas.Fmt.{decimal_is_IsNumeral}
use Rattle.std.proofs.NetLemmas.Ipv4.{read_ipv4_complete, read_ipv4_sound}
use Rattle.cedar_ext_ip.specs.declared.ip_version.IpVersion.{IpVersion}
use Rattle.cedar_ext_ip.specs.declared.ip_version.IpVersion.TheVariants.{V4}
use Rattle.cedar_ext_ip.specs.Values.{IpValue, width_of}
use Rattle.cedar_ext_ip.specs.Texts.{IsFour}
use Rattle.cedar_ext_ip.specs.IpOf.{of_octets, four_of}
use Rattle.cedar_ext_ip.proofs.Lacks.{Lacks, Lacks-append, Lacks-one, Lacks-digits}

-- One address of the version.
abbrev pub single : IpVersion → ℕ → IpValue
single version n = record { version = version; address = n; prefix = width_of version }

pub dotted : (text : List ℕ) (n : ℕ) (h : IsFour text n) → IsDotted text (h.a ∷ h.b ∷ h.c ∷ h.d ∷ [])
dotted text n h = record { a = h.a; b = h.b; c = h.c; d = h.d; fit = h.fit; value = refl; spelled = h.text_is }

dotted_found : (text octets : List ℕ) → IsDotted text octets → four_of text ≡ of_octets octets
dotted_found text octets h =
    let read = ap read_ipv4 (sym (append-nil text)) ∙ read_ipv4_complete text octets [] h (lit≤ tt) in
    ap (λ (r : Option (List ℕ × List ℕ)). option_and_then of_octets (whole_value r)) read

pub four_of-IsFour : (text : List ℕ) (n : ℕ) → IsFour text n → four_of text ≡ Some (single V4 n)
four_of-IsFour text n h =
    dotted_found text _ (dotted text n h) ∙ ap (λ (m : ℕ). Some (single V4 m)) (sym h.number_is)

-- What a reader that leaves a rest gives for the whole text.
pub whole_found : {A : Type 0} (r : Option (A × List ℕ)) (x : A) → whole_value r ≡ Some x → r ≡ Some (x, [])
whole_found None x e = absurd (cc)
whole_found {A} (Some p) x e = at p.0 p.1 e
  where
    at : (y : A) (rest : List ℕ) → whole_value {A = A} (Some (y, rest)) ≡ Some x → ◌≡◌ {A = Option (A × List ℕ)} (Some (y, rest)) (Some (x, []))
    at y [] k = let same : y ≡ x = cc in λ i. Some (same i, [])
    at y (c ∷ rest) k = let left = rw (ne_eqb (length (c ∷ rest)) 0 (omega arith)) at k in absurd (cc)

whole_dotted : (text octets : List ℕ) → whole_value (read_ipv4 text) ≡ Some octets → IsDotted text octets
whole_dotted text octets read =
    let (front, split, h) = read_ipv4_sound text octets [] (whole_found (read_ipv4 text) octets read) in
    let whole : front ≡ text = sym (append-nil front) ∙ sym split in
    subst (λ (t : List ℕ). IsDotted t octets) whole h

pub IsFour-four_of : (text : List ℕ) (ip : IpValue) → four_of text ≡ Some ip → (n : ℕ) × IsFour text n × (ip ≡ single V4 n)
IsFour-four_of text ip e = at (whole_value (read_ipv4 text)) refl e
  where
    spelled : (octets : List ℕ) → IsDotted text octets → of_octets octets ≡ Some ip → (n : ℕ) × IsFour text n × (ip ≡ single V4 n)
    spelled octets h k =
        let n : ℕ = ((h.a * 256 + h.b) * 256 + h.c) * 256 + h.d in
        let found : Some ip ≡ Some (single V4 n) = sym k ∙ ap of_octets h.value in
        let same : ip ≡ single V4 n = cc in
        (n, record { a = h.a; b = h.b; c = h.c; d = h.d; fit = h.fit; text_is = h.spelled; number_is = refl }, same)

    at : (o : Option (List ℕ)) → whole_value (read_ipv4 text) ≡ o → option_and_then of_octets o ≡ Some ip → (n : ℕ) × IsFour text n × (ip ≡ single V4 n)
    at None read k = absurd (cc)
    at (Some octets) read k = spelled octets (whole_dotted text octets read) k

-- What std's reader gives.

pub four_found : (text : List ℕ) (a : Ipv4Addr) (octets : List ℕ) (ip : IpValue) → IsIpv4Text text a → octets ≡ ipv4_octets a → of_octets octets ≡ Some ip → Some ip ≡ four_of text
four_found text a octets ip h same is = sym (dotted_found text (ipv4_octets a) h ∙ ap of_octets (sym same) ∙ is)

pub four_none : (text : List ℕ) → ((a : Ipv4Addr) → IsIpv4Text text a → ⊥) → None ≡ four_of text
four_none text h = at (whole_value (read_ipv4 text)) refl
  where
    at : (o : Option (List ℕ)) → whole_value (read_ipv4 text) ≡ o → None ≡ four_of text
    at None read = sym (ap (λ (r : Option (List ℕ)). option_and_then of_octets r) read)
    at (Some octets) read = absurd (h (record { octets = octets }) (whole_dotted text octets read))

Lacks-decimal : (x n : ℕ) → 10 ≤ digit_value x → n < 256 → Lacks x (decimal n)
Lacks-decimal x n far small = Lacks-digits 10 x (decimal n) far (decimal_is_IsNumeral n (omega arith)).0.1

pub Lacks-four : (x : ℕ) (text : List ℕ) (n : ℕ) → 10 ≤ digit_value x → (46 ≡ x → ⊥) → IsFour text n → Lacks x text
Lacks-four x text n far differs h =
    let point = Lacks-one x 46 differs in
    let a = Lacks-append x _ _ (Lacks-append x _ _ (Lacks-decimal x h.a far h.fit.0) point) (Lacks-decimal x h.b far h.fit.1) in
    let b = Lacks-append x _ _ (Lacks-append x _ _ a point) (Lacks-decimal x h.c far h.fit.2) in
    let all = Lacks-append x _ _ (Lacks-append x _ _ b point) (Lacks-decimal x h.d far h.fit.3) in
    subst (Lacks x) (sym h.text_is) all
