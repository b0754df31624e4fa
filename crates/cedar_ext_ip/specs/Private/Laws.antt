-- The laws of the order, and of the test of equality.
use Rattle.std.specs.Prelude.{◌≡◌, ◌==◌, Bool, true, false, ◌&&◌, refl}
use Rattle.std.proofs.Common.{ap, ◌∙◌, arith}
use Rattle.std.proofs.lemmas.Cmp.{on_total, then_total}
use Rattle.std.specs.Bool.{Decides}
use Rattle.std.specs.Cmp.{IsEquivalence, IsTotalOrder, IsPartialOrder, decided, nat_cmp_total, unsigned_Decides, unsigned_ties, both_tied, partial_order_from_agreeing_total}
use Rattle.std.specs.Ordering.{is_eq, as_partial_cmp}
use Rattle.cedar_ext_ip.specs.declared.ip_version.IpVersion.{IpVersion}
use Rattle.cedar_ext_ip.specs.declared.ip_version.IpVersion.TheVariants.{V4, V6}
use Rattle.cedar_ext_ip.specs.Values.{IpValue, width_of}
use Rattle.cedar_ext_ip.specs.Order.{same_ip, ip_cmp}

pub same_version : (a b : IpVersion) → width_of a ≡ width_of b → a ≡ b
same_version V4 V4 e = refl
same_version V4 V6 e = absurd (omega arith)
same_version V6 V4 e = absurd (omega arith)
same_version V6 V6 e = refl

both : (a b : Bool) {P Q : Type 0} → Decides a P → Decides b Q → Decides (a && b) (P × Q)
both true b p q = (λ e. (p.0 refl, q.0 e), λ h. q.1 h.1)
both false b p q = (λ e. absurd (cc), λ h. p.1 h.0)

pub same_ip-Decides : (a b : IpValue) → Decides (same_ip a b) (a ≡ b)
same_ip-Decides a b =
    let d = both _ _ (both _ _ (unsigned_Decides (width_of a.version) (width_of b.version)) (unsigned_Decides a.address b.address)) (unsigned_Decides a.prefix b.prefix) in (
      λ e.
          let h = d.0 e in
          let v = same_version a.version b.version h.0.0 in
          λ i. record { version = v i; address = h.0.1 i; prefix = h.1 i },
      λ e. d.1 ((ap (λ (x : IpValue). width_of x.version) e, ap (λ (x : IpValue). x.address) e), ap (λ (x : IpValue). x.prefix) e),
    )

pub ip_equivalence : IsEquivalence same_ip
ip_equivalence = decided same_ip same_ip-Decides

pub ip_total : IsTotalOrder ip_cmp
ip_total =
    then_total (on_total (λ (a : IpValue). width_of a.version) nat_cmp_total)
    (then_total (on_total (λ (a : IpValue). a.address) nat_cmp_total) (on_total (λ (a : IpValue). a.prefix) nat_cmp_total))

three : (a b c : Bool) → ((a && b) && c) ≡ (a && (b && c))
three true b c = refl
three false b c = refl

pub ip_ties : (a b : IpValue) → same_ip a b ≡ is_eq (ip_cmp a b)
ip_ties a b =
    three (width_of a.version == width_of b.version) (a.address == b.address) (a.prefix == b.prefix)
    ∙ both_tied _ _ _ _ (unsigned_ties (width_of a.version) (width_of b.version))
    (both_tied _ _ _ _ (unsigned_ties a.address b.address) (unsigned_ties a.prefix b.prefix))

pub ip_partial_order : IsPartialOrder same_ip (as_partial_cmp ip_cmp)
ip_partial_order = partial_order_from_agreeing_total ip_cmp ip_total (λ x y. refl) ip_ties
