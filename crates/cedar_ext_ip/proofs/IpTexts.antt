-- A text is read as an IP address exactly where it is one.
use Rattle.std.proofs.Common.{◌≡◌, ℕ, ◌+◌, ◌<◌, ◌==◌, nat_lt, not, Bool, true, false, List, [], ◌∷◌, ◌++◌, length, take, drop, get_or, Option, Some, None, IfSome, IfNone, option_map, option_and_then, position, decimal, refl, sym, ap, ◌∙◌, subst, arith, append-nil, inl, inr, lit≤, add-one, length-append}
use Rattle.std.specs.List.{position_or_len, prefix_len, list_any}
use Rattle.std.proofs.lemmas.Bool.Decides.{nat_tests}
use Rattle.std.proofs.Math.Seq.{take-append_seam, drop-append-add, drop-cons}
use Rattle.std.proofs.lemmas.List.{take-append-drop}
use Rattle.std.proofs.lemmas.List.Quantifiers.{position-Some}
use Rattle.std.proofs.NetLemmas.Ipv6.{IsDotted-not_colon_hex}
use Rattle.cedar_ext_ip.specs.declared.ip_version.IpVersion.{IpVersion}
use Rattle.cedar_ext_ip.specs.declared.ip_version.IpVersion.TheVariants.{V4, V6}
use Rattle.cedar_ext_ip.specs.Values.{IpValue, width_of}
use Rattle.cedar_ext_ip.specs.Texts.{IsSix, IsAddress, IsPrefix, IsIp}
use Rattle.cedar_ext_ip.specs.IpOf.{four_of, six_of, or_else, address_of, prefix_of, with_prefix, ip_around, ip_of}
use Rattle.cedar_ext_ip.proofs.Lacks.{Lacks}
use Rattle.cedar_ext_ip.proofs.Fours.{single, dotted, four_of-IsFour, IsFour-four_of, Lacks-four}
use Rattle.cedar_ext_ip.proofs.Sixes.{colon_hex, six_of-IsSix, IsSix-six_of, Lacks-six}
use Rattle.cedar_ext_ip.proofs.Prefixes.{prefix_of-decimal, decimal-prefix_of}

-- the address

not_four : (text : List ℕ) (n : ℕ) → IsSix text n → four_of text ≡ None
not_four text n h = at (four_of text) refl
  where
    at : (o : Option IpValue) → four_of text ≡ o → four_of text ≡ None
    at None e = e
    at (Some ip) e =
        let (m, four, same) = IsFour-four_of text ip e in
        absurd (IsDotted-not_colon_hex text _ h.0 (dotted text m four) (colon_hex text h.0 h.1))

address_of-IsAddress : (version : IpVersion) (text : List ℕ) (n : ℕ) → IsAddress version text n → address_of text ≡ Some (single version n)
address_of-IsAddress V4 text n h = ap (λ (o : Option IpValue). or_else o (six_of text)) (four_of-IsFour text n h)
address_of-IsAddress V6 text n h = ap (λ (o : Option IpValue). or_else o (six_of text)) (not_four text n h) ∙ six_of-IsSix text n h

IsAddress-address_of : (text : List ℕ) (ip : IpValue) → address_of text ≡ Some ip → (version : IpVersion) × (n : ℕ) × IsAddress version text n × (ip ≡ single version n)
IsAddress-address_of text ip e = at (four_of text) refl e
  where
    at : (o : Option IpValue) → four_of text ≡ o → or_else o (six_of text) ≡ Some ip → (version : IpVersion) × (n : ℕ) × IsAddress version text n × (ip ≡ single version n)
    at None read k = let (n, h, same) = IsSix-six_of text ip k in (V6, n, h, same)
    at (Some x) read k = let (n, h, same) = IsFour-four_of text ip (read ∙ k) in (V4, n, h, same)

-- the slash

Lacks-address : (version : IpVersion) (text : List ℕ) (n : ℕ) → IsAddress version text n → Lacks 47 text
Lacks-address V4 text n h = Lacks-four 47 text n (lit≤ tt) (λ e. omega arith) h
Lacks-address V6 text n h = Lacks-six 47 text n (lit≤ tt) (λ e. omega arith) h

first_differs : (c : ℕ) (text : List ℕ) → Lacks 47 (c ∷ text) → ((c == 47) ≡ false) × Lacks 47 text
first_differs c text h = at (c == 47) refl h.none
  where
    at : (b : Bool) → (c == 47) ≡ b → list_any (λ (x : ℕ). x == 47) (c ∷ text) ≡ false → ((c == 47) ≡ false) × Lacks 47 text
    at true t k = let bad = rw t at k in absurd (cc)
    at false t k = (t, record { none = rw t at k })

slash_after : (front rest : List ℕ) → Lacks 47 front → position_or_len (λ b. b == 47) (front ++ 47 ∷ rest) ≡ length front
slash_after [] rest h = refl
slash_after (c ∷ front) rest h =
    let (n, lacks) = first_differs c front h in
    let later : prefix_len (λ x. not (x == 47)) (front ++ 47 ∷ rest) ≡ length front = slash_after front rest lacks in
    rw n (omega arith)

no_slash : (text : List ℕ) → Lacks 47 text → position_or_len (λ b. b == 47) text ≡ length text
no_slash [] h = refl
no_slash (c ∷ text) h =
    let (n, lacks) = first_differs c text h in
    let later : prefix_len (λ x. not (x == 47)) text ≡ length text = no_slash text lacks in
    rw n (omega arith)

below : (m n : ℕ) → m < n → nat_lt m n ≡ true
below m n h = grind (arith, nat_tests)

not_below : (n : ℕ) → nat_lt n n ≡ false
not_below n = grind (arith, nat_tests)

first_slash : (front rest : List ℕ) → Lacks 47 front → position (λ b. b == 47) (front ++ 47 ∷ rest) ≡ Some (length front)
first_slash front rest h =
    let lt : nat_lt (length front) (length (front ++ 47 ∷ rest)) ≡ true = below _ _ (omega (arith, length-append front (47 ∷ rest))) in
    rw (slash_after front rest h, lt) refl

nowhere : (text : List ℕ) → Lacks 47 text → position (λ b. b == 47) text ≡ None
nowhere text h = rw (no_slash text h, not_below (length text)) refl

-- the whole

pub ip_of-IsIp : (text : List ℕ) (ip : IpValue) → IsIp text ip → ip_of text ≡ Some ip
ip_of-IsIp text ip h = at h.prefix_is
  where
    address : address_of h.address_text ≡ Some (single ip.version ip.address)
    address = address_of-IsAddress ip.version h.address_text ip.address h.address_is

    lacks : Lacks 47 h.address_text
    lacks = Lacks-address ip.version h.address_text ip.address h.address_is

    small : (version : IpVersion) → width_of version < 1000
    small V4 = omega arith
    small V6 = omega arith

    at : IsPrefix (width_of ip.version) h.prefix_text ip.prefix → ip_of text ≡ Some ip
    at (inl p) =
        let whole : text ≡ h.address_text = h.text_is ∙ ap (λ (t : List ℕ). h.address_text ++ t) p.0 ∙ append-nil h.address_text in
        let full : single ip.version ip.address ≡ ip = λ i. record { version = ip.version; address = ip.address; prefix = sym p.1 i } in
        ap ip_of whole
        ∙ ap (ip_around h.address_text) (nowhere h.address_text lacks)
        ∙ address
        ∙ ap (λ (x : IpValue). Some x) full
    at (inr p) =
        let front = h.address_text in
        let rest = decimal ip.prefix in
        let whole : text ≡ front ++ 47 ∷ rest = h.text_is ∙ ap (λ (t : List ℕ). front ++ t) p.0 in
        let t : take (length front) (front ++ 47 ∷ rest) ≡ front = take-append_seam front (47 ∷ rest) in
        let d : drop (length front + 1) (front ++ 47 ∷ rest) ≡ rest = drop-append-add front (47 ∷ rest) 1 in
        let read : with_prefix rest (single ip.version ip.address) ≡ Some ip =
        ap (λ (o : Option ℕ). option_map (λ (n : ℕ). record (single ip.version ip.address) { prefix = n }) o)
        (prefix_of-decimal (width_of ip.version) ip.prefix (small ip.version) p.1) in
        ap ip_of whole
        ∙ ap (ip_around (front ++ 47 ∷ rest)) (first_slash front rest lacks)
        ∙ (λ i. option_and_then (with_prefix (d i)) (address_of (t i)))
        ∙ ap (λ (o : Option IpValue). option_and_then (with_prefix rest) o) address
        ∙ read

equal_from : (m n : ℕ) → (m == n) ≡ true → m ≡ n
equal_from m n h = grind (arith, nat_tests)

-- An address with a prefix: from the parts around a slash.
with_slash : (text front rest : List ℕ) (ip : IpValue) → text ≡ front ++ 47 ∷ rest → option_and_then (with_prefix rest) (address_of front) ≡ Some ip → IsIp text ip
with_slash text front rest ip split e = at (address_of front) refl e
  where
    prefixed : (version : IpVersion) (n : ℕ) → IsAddress version front n → (o : Option ℕ) → prefix_of (width_of version) rest ≡ o → option_map (λ (p : ℕ). record (single version n) { prefix = p }) o ≡ Some ip → IsIp text ip
    prefixed version n h None read k = absurd (cc)
    prefixed version n h (Some p) read k =
        let digits = decimal-prefix_of (width_of version) rest p read in
        let same : record (single version n) { prefix = p } ≡ ip = cc in
        subst (IsIp text) same (record {
          address_text = front;
          prefix_text = 47 ∷ rest;
          text_is = split;
          address_is = h;
          prefix_is = inr (ap (λ (t : List ℕ). 47 ∷ t) digits.0, digits.1);
        })

    at : (o : Option IpValue) → address_of front ≡ o → option_and_then (with_prefix rest) o ≡ Some ip → IsIp text ip
    at None read k = absurd (cc)
    at (Some x) read k =
        let (version, n, h, same) = IsAddress-address_of front x read in
        prefixed version n h (prefix_of (width_of version) rest) refl (ap (with_prefix rest) (sym same) ∙ k)

pub IsIp-ip_of : (text : List ℕ) (ip : IpValue) → ip_of text ≡ Some ip → IsIp text ip
IsIp-ip_of text ip e = at (position (λ b. b == 47) text) refl e
  where
    at : (o : Option ℕ) → position (λ b. b == 47) text ≡ o → ip_around text o ≡ Some ip → IsIp text ip
    at None found k =
        let (version, n, h, same) = IsAddress-address_of text ip k in
        subst (IsIp text) (sym same) (record { address_text = text; prefix_text = []; text_is = sym (append-nil text); address_is = h; prefix_is = inl (refl, refl) })
    at (Some slash) found k =
        let place = position-Some (λ (b : ℕ). b == 47) text slash 0 found in
        let c : get_or text slash 0 ≡ 47 = equal_from _ 47 place.1 in
        let d : drop slash text ≡ 47 ∷ drop (slash + 1) text = drop-cons text slash 0 place.0 ∙ (rw (c, add-one) refl) in
        let split : text ≡ take slash text ++ 47 ∷ drop (slash + 1) text = sym (take-append-drop slash text) ∙ ap (λ (r : List ℕ). take slash text ++ r) d in
        with_slash text (take slash text) (drop (slash + 1) text) ip split k

pub some_reads : (text : List ℕ) (o : Option IpValue) → o ≡ ip_of text → IfSome o (λ ip. IsIp text ip)
some_reads text None e = tt
some_reads text (Some ip) e = IsIp-ip_of text ip (sym e)

pub none_reads : (text : List ℕ) (o : Option IpValue) → o ≡ ip_of text → IfNone o ((ip : IpValue) → IsIp text ip → ⊥)
none_reads text None e = λ ip h. let r = ip_of-IsIp text ip h in cc
none_reads text (Some ip) e = tt

pub one_value : (text : List ℕ) (a b : IpValue) → IsIp text a → IsIp text b → a ≡ b
one_value text a b h k = let p = ip_of-IsIp text a h in let q = ip_of-IsIp text b k in cc
