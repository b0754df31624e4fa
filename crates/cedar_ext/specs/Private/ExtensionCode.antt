-- A number, an extension type and a value of one as trees of numbers, from which they are read back, so that what contracts see
-- may hold types and values.
use Rattle.std.specs.Prelude.{◌≡◌, ℕ, zero, suc, ℤ, pos, negsuc, refl}
use Rattle.std.proofs.Common.{ap}
use base.Stored.{Gv, gnil, gnum, gcons}
use Rattle.cedar_ext_ip.specs.declared.ip_version.IpVersion.{IpVersion}
use Rattle.cedar_ext_ip.specs.declared.ip_version.IpVersion.TheVariants.{V4, V6}
use Rattle.cedar_ext_ip.specs.Values.{IpValue}
use Rattle.cedar_ext.specs.declared.extension.Extension.{Extension}
use Rattle.cedar_ext.specs.declared.extension.Extension.TheVariants.{Decimal, Ip, Datetime, Duration}
use Rattle.cedar_ext.specs.declared.extension.ExtensionType.{ExtensionType}
use Rattle.cedar_ext.specs.declared.extension.ExtensionType.TheVariants as type

abbrev pub int_tree : ℤ → Gv
int_tree (pos n) = gnum n
int_tree (negsuc n) = gcons gnil (gnum n)

abbrev pub int_from : Gv → ℤ
int_from gnil = pos 0
int_from (gnum n) = pos n
int_from (gcons a gnil) = pos 0
int_from (gcons a (gnum n)) = negsuc n
int_from (gcons a (gcons b c)) = pos 0

pub int_back : (z : ℤ) → int_from (int_tree z) ≡ z
int_back (pos n) = refl
int_back (negsuc n) = refl

abbrev nat_from : Gv → ℕ
nat_from (gnum n) = n
nat_from _ = 0

abbrev version_tree : IpVersion → Gv
version_tree V4 = gnum 0
version_tree V6 = gnum 1

abbrev version_from : Gv → IpVersion
version_from (gnum zero) = V4
version_from _ = V6

abbrev ip_tree : IpValue → Gv
ip_tree ip = gcons (version_tree ip.version) (gcons (gnum ip.address) (gnum ip.prefix))

abbrev ip_from : Gv → IpValue
ip_from (gcons v (gcons a p)) = record { version = version_from v; address = nat_from a; prefix = nat_from p }
ip_from _ = record { version = V4; address = 0; prefix = 0 }

version_back : (v : IpVersion) → version_from (version_tree v) ≡ v
version_back V4 = refl
version_back V6 = refl

ip_back : (ip : IpValue) → ip_from (ip_tree ip) ≡ ip
ip_back ip = λ i. record { version = version_back ip.version i; address = ip.address; prefix = ip.prefix }

abbrev pub extension_tree : Extension → Gv
extension_tree (Decimal z) = gcons (gnum 0) (int_tree z)
extension_tree (Ip ip) = gcons (gnum 1) (ip_tree ip)
extension_tree (Datetime z) = gcons (gnum 2) (int_tree z)
extension_tree (Duration z) = gcons (gnum 3) (int_tree z)

abbrev pub extension_from : Gv → Extension
extension_from (gcons (gnum (suc zero)) t) = Ip (ip_from t)
extension_from (gcons (gnum (suc (suc zero))) t) = Datetime (int_from t)
extension_from (gcons (gnum (suc (suc (suc zero)))) t) = Duration (int_from t)
extension_from (gcons a t) = Decimal (int_from t)
extension_from t = Decimal (pos 0)

pub extension_back : (e : Extension) → extension_from (extension_tree e) ≡ e
extension_back (Decimal z) = ap Decimal (int_back z)
extension_back (Ip ip) = ap Ip (ip_back ip)
extension_back (Datetime z) = ap Datetime (int_back z)
extension_back (Duration z) = ap Duration (int_back z)

abbrev pub extension_type_tree : ExtensionType → Gv
extension_type_tree type.Decimal = gnum 0
extension_type_tree type.Ip = gnum 1
extension_type_tree type.Datetime = gnum 2
extension_type_tree type.Duration = gnum 3

abbrev pub extension_type_from : Gv → ExtensionType
extension_type_from (gnum (suc zero)) = type.Ip
extension_type_from (gnum (suc (suc zero))) = type.Datetime
extension_type_from (gnum (suc (suc (suc zero)))) = type.Duration
extension_type_from _ = type.Decimal

pub extension_type_back : (t : ExtensionType) → extension_type_from (extension_type_tree t) ≡ t
extension_type_back type.Decimal = refl
extension_type_back type.Ip = refl
extension_type_back type.Datetime = refl
extension_type_back type.Duration = refl
