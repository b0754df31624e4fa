-- The test of ranges decides whether each address of the one range is in the other.
use Rattle.std.proofs.Common.{◌≡◌, ℕ, ◌+◌, ◌-◌, ◌*◌, ◌/◌, ◌%◌, ◌^◌, ◌<◌, ◌≤◌, Bool, true, false, ◌&&◌, nat_le, refl, sym, ap, ◌∙◌, arith, inl, inr, pow_pos, shr-shr}
use Rattle.std.specs.Bool.{Decides}
use Rattle.std.specs.Cmp.{unsigned_Decides}
use Rattle.std.proofs.lemmas.Bool.{cases_lt}
use Rattle.std.proofs.lemmas.Bool.Decides.{nat_tests}
use Rattle.std.proofs.lemmas.Nat.{div-mul-add, pow_below, div-add-mod'}
use Rattle.cedar_ext_ip.specs.Values.{IpValue, IsIpValue, width_of}
use Rattle.cedar_ext_ip.specs.Ranges.{IsWithin, is_within, first_bits}
use Rattle.cedar_ext_ip.specs.Private.Laws.{same_version}

-- Numbers that agree without their last s bits agree without d more.
coarser : (n m s d : ℕ) → n / 2 ^ s ≡ m / 2 ^ s → n / 2 ^ (s + d) ≡ m / 2 ^ (s + d)
coarser n m s d e = sym (shr-shr n s d) ∙ ap (λ (x : ℕ). x / 2 ^ d) e ∙ shr-shr m s d

coarser_at : (n m s t : ℕ) → s ≤ t → n / 2 ^ s ≡ m / 2 ^ s → n / 2 ^ t ≡ m / 2 ^ t
coarser_at n m s t le e =
    let sum : s + (t - s) ≡ t = omega arith in
    ap (λ (x : ℕ). n / 2 ^ x) (sym sum) ∙ coarser n m s (t - s) e ∙ ap (λ (x : ℕ). m / 2 ^ x) sum

one_more : (n k : ℕ) → 0 < k → (n + k) / k ≡ n / k + 1
one_more n k some =
    let whole = div-add-mod' n k in
    let rest : n % k < k = omega arith in
    let split : n + k ≡ (n / k + 1) * k + n % k = omega arith in
    ap (λ (x : ℕ). x / k) split ∙ div-mul-add (n / k + 1) k (n % k) rest

-- The range with fewer first bits has two addresses that differ in the first bits of the other.
no_finer : (n m s t : ℕ) → t < s → ((k : ℕ) → k / 2 ^ s ≡ n / 2 ^ s → k / 2 ^ t ≡ m / 2 ^ t) → ⊥
no_finer n m s t below h =
    let some : 0 < 2 ^ t = pow_pos t in
    let less : 2 ^ t < 2 ^ s = pow_below t s below in
    let first : ℕ = n / 2 ^ s * 2 ^ s in
    let here : (first + 0) / 2 ^ s ≡ n / 2 ^ s = div-mul-add (n / 2 ^ s) (2 ^ s) 0 (omega arith) in
    let next : (first + 2 ^ t) / 2 ^ s ≡ n / 2 ^ s = div-mul-add (n / 2 ^ s) (2 ^ s) (2 ^ t) less in
    let a = h (first + 0) here in
    let b = h (first + 2 ^ t) next in
    let c = one_more first (2 ^ t) some in
    let z : first + 0 ≡ first = omega arith in
    let a' : first / 2 ^ t ≡ m / 2 ^ t = ap (λ (x : ℕ). x / 2 ^ t) (sym z) ∙ a in
    let contrary : first / 2 ^ t + 1 ≡ first / 2 ^ t = sym c ∙ b ∙ sym a' in
    omega arith

both : (a b : Bool) {P Q : Type 0} → Decides a P → Decides b Q → Decides (a && b) (P × Q)
both true b p q = (λ e. (p.0 refl, q.0 e), λ h. q.1 h.1)
both false b p q = (λ e. absurd (cc), λ h. p.1 h.0)

le-Decides : (m n : ℕ) → Decides (nat_le m n) (m ≤ n)
le-Decides m n = (λ e. grind (arith, nat_tests), λ h. grind (arith, nat_tests))

abbrev Tested : IpValue → IpValue → Type 0
Tested ip range =
    ((width_of ip.version ≡ width_of range.version) × (range.prefix ≤ ip.prefix))
    × (first_bits range.version range.prefix ip.address ≡ first_bits range.version range.prefix range.address)

is_within-Decides : (ip range : IpValue) → Decides (is_within ip range) (Tested ip range)
is_within-Decides ip range =
    both _ _ (both _ _ (unsigned_Decides (width_of ip.version) (width_of range.version)) (le-Decides range.prefix ip.prefix))
    (unsigned_Decides (first_bits range.version range.prefix ip.address) (first_bits range.version range.prefix range.address))

within_from_test : (ip range : IpValue) → Tested ip range → IsWithin ip range
within_from_test ip range h =
    let width : width_of ip.version ≡ width_of range.version = h.0.0 in
    let fewer : range.prefix ≤ ip.prefix = h.0.1 in
    let le : width_of ip.version - ip.prefix ≤ width_of range.version - range.prefix = omega arith in (
      same_version ip.version range.version width,
      λ n is. coarser_at n ip.address (width_of ip.version - ip.prefix) (width_of range.version - range.prefix) le is ∙ h.1,
    )

test_from_within : (ip range : IpValue) → IsIpValue range → IsWithin ip range → Tested ip range
test_from_within ip range valid h =
    let width : width_of ip.version ≡ width_of range.version = ap width_of h.0 in
    let most : range.prefix ≤ width_of range.version = valid.1 in
    let fewer : range.prefix ≤ ip.prefix =
    elim (cases_lt ip.prefix range.prefix) [
      | inl less ↦ absurd (no_finer ip.address range.address (width_of ip.version - ip.prefix) (width_of range.version - range.prefix) (omega arith) h.1)
      | inr more ↦ more
    ] in
    ((width, fewer), h.1 ip.address refl)

pub is_within-tells : (ip range : IpValue) → IsIpValue range → Decides (is_within ip range) (IsWithin ip range)
is_within-tells ip range valid =
    let d = is_within-Decides ip range in
    (λ e. within_from_test ip range (d.0 e), λ h. d.1 (test_from_within ip range valid h))

pub meaning : (b : Bool) (ip range : IpValue) → b ≡ is_within ip range → IsIpValue range → (b ≡ true → IsWithin ip range) × (IsWithin ip range → b ≡ true)
meaning b ip range e valid =
    let d = is_within-tells ip range valid in
    (λ t. d.0 (sym e ∙ t), λ h. e ∙ d.1 h)
