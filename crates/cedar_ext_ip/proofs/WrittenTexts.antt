-- What is written of a value is a text of it.
use Rattle.std.proofs.Common.{◌≡◌, ℕ, zero, suc, ◌+◌, ◌*◌, ◌/◌, ◌%◌, ◌^◌, ◌<◌, ◌≤◌, Bool, true, false, if◌then◌else◌, List, [], ◌++◌, decimal, codes, refl, sym, subst, ◌∙◌, arith, append-nil, inl, inr, shr-shr, eqb-true, Result, Ok, Err, IfOk}
use Rattle.std.specs.Bool.{◌==◌}
use Rattle.std.proofs.lemmas.List.Elements.{All-weaker}
use Rattle.std.proofs.lemmas.List.Folds.{list_any_none}
use Rattle.std.proofs.lemmas.Bool.Decides.{nat_tests}
use Rattle.std.specs.Net.Text.{ipv4_text, hex_groups_text}
use Rattle.std.proofs.NetLemmas.Texts.{AllSegments, IsColonHex-hex_groups_text}
use Rattle.std.proofs.NetLemmas.Alphabet.{IsHexOrColon, All-hex_groups_text}
use Rattle.cedar_ext_ip.specs.declared.ip_version.IpVersion.{IpVersion}
use Rattle.cedar_ext_ip.specs.declared.ip_version.IpVersion.TheVariants.{V4, V6}
use Rattle.cedar_ext_ip.specs.Values.{width_of}
use Rattle.cedar_ext_ip.specs.Texts.{IsFour, IsSix, IsAddress, IsIp, number_after}
use Rattle.cedar_ext_ip.specs.Private.Inside.{value_of, IsInside}
use Rattle.cedar_ext_ip.specs.Private.Written.{octets_of, groups_of, written}
use Rattle.cedar_ext_ip.specs.declared.ip.Ip.TheInside.{Inside}
use Rattle.cedar_ext_ip.proofs.Lacks.{Lacks}
use Rattle.cedar_ext_ip.proofs.Sixes.{eight_groups}

IsFour-octets : (n : ℕ) → n < 2 ^ 32 → IsFour (ipv4_text (octets_of n)) n
IsFour-octets n fits = record {
  a = n / 16777216;
  b = n / 65536 % 256;
  c = n / 256 % 256;
  d = n % 256;
  fit = (omega arith, omega arith, omega arith, omega arith);
  text_is = refl;
  number_is = omega (arith, shr-shr n 8 8, shr-shr n 16 8);
}

quarter : (n : ℕ) → ((n / 281474976710656 * 65536 + n / 4294967296 % 65536) * 65536 + n / 65536 % 65536) * 65536 + n % 65536 ≡ n
quarter n = omega (arith, shr-shr n 16 16, shr-shr n 32 16)

all_fit : (high low : ℕ) → high < 2 ^ 64 → low < 2 ^ 64 → AllSegments (groups_of high low)
all_fit high low p q zero = omega arith
all_fit high low p q (suc zero) = omega arith
all_fit high low p q (suc (suc zero)) = omega arith
all_fit high low p q (suc (suc (suc zero))) = omega arith
all_fit high low p q (suc (suc (suc (suc zero)))) = omega arith
all_fit high low p q (suc (suc (suc (suc (suc zero))))) = omega arith
all_fit high low p q (suc (suc (suc (suc (suc (suc zero)))))) = omega arith
all_fit high low p q (suc (suc (suc (suc (suc (suc (suc zero))))))) = omega arith
all_fit high low p q (suc (suc (suc (suc (suc (suc (suc (suc k)))))))) = omega arith

no_point : (c : ℕ) → IsHexOrColon c → (c == 46) ≡ false
no_point c (inl h) = grind (arith, nat_tests)
no_point c (inr h) = grind (arith, nat_tests)

IsSix-groups : (high low : ℕ) → high < 2 ^ 64 → low < 2 ^ 64 → IsSix (hex_groups_text (groups_of high low)) (high * 2 ^ 64 + low)
IsSix-groups high low p q =
    let groups = groups_of high low in
    let fits : AllSegments groups = all_fit high low p q in
    let text = hex_groups_text groups in
    let plain = All-weaker IsHexOrColon (λ (c : ℕ). (c == 46) ≡ false) no_point text (All-hex_groups_text groups fits) in
    let lacks : Lacks 46 text = record { none = list_any_none (λ (c : ℕ). c == 46) text plain } in
    let number : high * 2 ^ 64 + low ≡ number_after 0 groups = omega (arith, quarter high, quarter low) in
    (groups, eight_groups text groups lacks (IsColonHex-hex_groups_text groups refl fits), number)

IsIp-written : (version : IpVersion) (n prefix : ℕ) (text : List ℕ) → IsAddress version text n → prefix ≤ width_of version → IsIp (written (width_of version) prefix text) (record { version = version; address = n; prefix = prefix })
IsIp-written version n prefix text h le = at (prefix == width_of version) refl
  where
    at : (b : Bool) → (prefix == width_of version) ≡ b → IsIp (if b then text else text ++ (codes "/" ++ decimal prefix)) (record { version = version; address = n; prefix = prefix })
    at true e = record { address_text = text; prefix_text = []; text_is = sym (append-nil text); address_is = h; prefix_is = inl (refl, eqb-true prefix (width_of version) e) }
    at false e = record { address_text = text; prefix_text = codes "/" ++ decimal prefix; text_is = refl; address_is = h; prefix_is = inr (refl, le) }

-- from the fields of a value

small : (n : ℕ) → n < 2 ^ 32 → n ≡ n % 2 ^ 32
small n h = omega arith

fourth_is : (ip : Inside) → IsInside ip → (value_of ip).address % 2 ^ 32 ≡ ip.fourth
fourth_is ip h = let fourth : ip.fourth < 2 ^ 32 = h.2 in omega arith

pub weaker : {A E : Type 0} (P Q : A → Type 0) (r : Result A E) → ((x : A) → P x → Q x) → IfOk r P → IfOk r Q
weaker P Q (Ok x) f h = f x h
weaker P Q (Err e) f h = tt

pub four_is : (ip : Inside) → IsInside ip → ip.version ≡ V4 → (text : List ℕ) → text ≡ written 32 ip.prefix (ipv4_text (octets_of ip.fourth)) → IsIp text (value_of ip)
four_is ip h version text is =
    let fits : (value_of ip).address < 2 ^ 32 = subst (λ (v : IpVersion). (value_of ip).address < 2 ^ width_of v) version h.3.0 in
    let le : ip.prefix ≤ 32 = subst (λ (v : IpVersion). ip.prefix ≤ width_of v) version h.3.1 in
    let same = small (value_of ip).address fits ∙ fourth_is ip h in
    let found = IsIp-written V4 ip.fourth ip.prefix (ipv4_text (octets_of ip.fourth)) (IsFour-octets ip.fourth h.2) le in
    let whole : record { version = V4; address = ip.fourth; prefix = ip.prefix } ≡ value_of ip = λ i. record { version = sym version i; address = sym same i; prefix = ip.prefix } in
    subst (λ (t : List ℕ). IsIp t (value_of ip)) (sym is) (subst (IsIp (written 32 ip.prefix (ipv4_text (octets_of ip.fourth)))) whole found)

half : (high low : ℕ) → high * 2 ^ 64 + low < 2 ^ 128 → high < 2 ^ 64
half high low h = omega arith

joined : (a b : ℕ) → a < 2 ^ 32 → b < 2 ^ 32 → a * 2 ^ 32 + b < 2 ^ 64
joined a b p q = omega arith

pub six_is : (ip : Inside) → IsInside ip → ip.version ≡ V6 → (text : List ℕ) → text ≡ written 128 ip.prefix (hex_groups_text (groups_of (ip.first * 2 ^ 32 + ip.second) (ip.third * 2 ^ 32 + ip.fourth))) → IsIp text (value_of ip)
six_is ip h version text is =
    let high = ip.first * 2 ^ 32 + ip.second in
    let low = ip.third * 2 ^ 32 + ip.fourth in
    let fits : high * 2 ^ 64 + low < 2 ^ 128 = subst (λ (v : IpVersion). high * 2 ^ 64 + low < 2 ^ width_of v) version h.3.0 in
    let le : ip.prefix ≤ 128 = subst (λ (v : IpVersion). ip.prefix ≤ width_of v) version h.3.1 in
    let groups = IsSix-groups high low (half high low fits) (joined ip.third ip.fourth h.1 h.2) in
    let found = IsIp-written V6 (high * 2 ^ 64 + low) ip.prefix (hex_groups_text (groups_of high low)) groups le in
    let whole : record { version = V6; address = high * 2 ^ 64 + low; prefix = ip.prefix } ≡ value_of ip = λ i. record { version = sym version i; address = high * 2 ^ 64 + low; prefix = ip.prefix } in
    subst (λ (t : List ℕ). IsIp t (value_of ip)) (sym is) (subst (IsIp (written 128 ip.prefix (hex_groups_text (groups_of high low)))) whole found)
