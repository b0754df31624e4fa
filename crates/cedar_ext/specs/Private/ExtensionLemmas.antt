-- The test of sameness and the order of values of extension types are exact.
use Rattle.std.specs.Prelude.{◌≡◌, ℕ, ◌<◌, ℤ, pos, ◌+ℤ◌, ◌<ℤ◌, Bool, true, List, Option, Some, None, option_map, refl}
use Rattle.std.proofs.Common.{arith, ap, subst, ◌∙◌}
use Rattle.std.proofs.lemmas.Int.{ints}
use Rattle.std.proofs.lemmas.Cmp.{int_ranked, ranked}
use Rattle.std.proofs.lemmas.Bool.Decides.{Decides-int_eq}
use Rattle.std.specs.Bool.{Decides}
use Rattle.std.specs.declared.cmp.Ordering.{Ordering}
use Rattle.std.specs.declared.cmp.Ordering.TheVariants.{Less, Equal, Greater}
use Rattle.std.specs.Ordering.{int_cmp, is_eq, nat_cmp, ordering_then, MatchOrdering}
use Rattle.std.specs.Cmp.Lexicographic.{slice_cmp}
use Rattle.cedar_ext_ip.specs.IpOf.{ip_of}
use Rattle.cedar_ext_ip.specs.Order.{ip_cmp}
use Rattle.cedar_ext_ip.specs.Private.Laws.{ip_ties, same_ip-Decides}
use Rattle.cedar_ext_ip.specs.Values.{IpValue, width_of}
use Rattle.cedar_ext_time.specs.DatetimeOf.{datetime_of}
use Rattle.cedar_ext_time.specs.DurationOf.{duration_of}
use Rattle.cedar_ext.specs.declared.extension.Extension.{Extension}
use Rattle.cedar_ext.specs.declared.extension.Extension.TheVariants.{Decimal, Ip, Datetime, Duration}
use Rattle.cedar_ext.specs.declared.extension.ExtensionType.{ExtensionType}
use Rattle.cedar_ext.specs.declared.extension.ExtensionType.TheVariants as type
use Rattle.cedar_ext.specs.DecimalOf.{decimal_of}
use Rattle.cedar_ext.specs.Extensions.{type_of, extension_of, same_extension, same_type, extension_row, extension_cmp}

module _ (x y c : ℤ) where
  shifted : (o p : Ordering) → MatchOrdering o ((x +ℤ c) <ℤ (y +ℤ c)) ((x +ℤ c) ≡ (y +ℤ c)) ((y +ℤ c) <ℤ (x +ℤ c)) → MatchOrdering p (x <ℤ y) (x ≡ y) (y <ℤ x) → o ≡ p
  shifted Less Less h g = refl
  shifted Less Equal h g = absurd (omega (arith, ints))
  shifted Less Greater h g = absurd (omega (arith, ints))
  shifted Equal Less h g = absurd (omega (arith, ints))
  shifted Equal Equal h g = refl
  shifted Equal Greater h g = absurd (omega (arith, ints))
  shifted Greater Less h g = absurd (omega (arith, ints))
  shifted Greater Equal h g = absurd (omega (arith, ints))
  shifted Greater Greater h g = refl

  pub int_cmp-shift : int_cmp (x +ℤ c) (y +ℤ c) ≡ int_cmp x y
  int_cmp-shift = shifted (int_cmp (x +ℤ c) (y +ℤ c)) (int_cmp x y) (int_ranked (x +ℤ c) (y +ℤ c) _ refl) (int_ranked x y _ refl)

int_by : (x y : ℤ) (o : Ordering) → o ≡ Equal → MatchOrdering o (x <ℤ y) (x ≡ y) (y <ℤ x) → x ≡ y
int_by x y Less e h = cc
int_by x y Equal e h = h
int_by x y Greater e h = cc

pub int_same : (x y : ℤ) → int_cmp x y ≡ Equal → x ≡ y
int_same x y e = int_by x y (int_cmp x y) e (int_ranked x y _ refl)

-- the test of sameness decides it
pub same_extension-Decides : (a b : Extension) → Decides (same_extension a b) (a ≡ b)
same_extension-Decides (Decimal m) (Decimal n) = let d = Decides-int_eq m n in (λ e. ap Decimal (d.0 e), λ e. d.1 cc)
same_extension-Decides (Ip a) (Ip b) = let d = same_ip-Decides a b in (λ e. ap Ip (d.0 e), λ e. d.1 cc)
same_extension-Decides (Datetime m) (Datetime n) = let d = Decides-int_eq m n in (λ e. ap Datetime (d.0 e), λ e. d.1 cc)
same_extension-Decides (Duration m) (Duration n) = let d = Decides-int_eq m n in (λ e. ap Duration (d.0 e), λ e. d.1 cc)
same_extension-Decides _ _ = (λ e. cc, λ e. cc)

pub same_type-Decides : (a b : ExtensionType) → Decides (same_type a b) (a ≡ b)
same_type-Decides type.Decimal type.Decimal = (λ e. refl, λ e. refl)
same_type-Decides type.Ip type.Ip = (λ e. refl, λ e. refl)
same_type-Decides type.Datetime type.Datetime = (λ e. refl, λ e. refl)
same_type-Decides type.Duration type.Duration = (λ e. refl, λ e. refl)
same_type-Decides _ _ = (λ e. cc, λ e. cc)

-- what a text writes is of the type
module _ {A : Type 0} (made : A → Extension) (t : ExtensionType) (typed : (x : A) → type_of (made x) ≡ t) where
  made_typed : (o : Option A) (e : Extension) → option_map made o ≡ Some e → type_of e ≡ t
  made_typed None e h = cc
  made_typed (Some x) e h = let same : made x ≡ e = cc in subst (λ (y : Extension). type_of y ≡ t) same (typed x)

pub extension_of-typed : (t : ExtensionType) (s : List ℕ) (e : Extension) → extension_of t s ≡ Some e → type_of e ≡ t
extension_of-typed type.Decimal s e h = made_typed Decimal type.Decimal (λ x. refl) (decimal_of s) e h
extension_of-typed type.Ip s e h = made_typed Ip type.Ip (λ x. refl) (ip_of s) e h
extension_of-typed type.Datetime s e h = made_typed Datetime type.Datetime (λ x. refl) (datetime_of s) e h
extension_of-typed type.Duration s e h = made_typed Duration type.Duration (λ x. refl) (duration_of s) e h

-- values that the order does not distinguish are the same
is_equal : (o : Ordering) → is_eq o ≡ true → o ≡ Equal
is_equal Less h = cc
is_equal Equal h = refl
is_equal Greater h = cc

ip_same : (a b : IpValue) → ip_cmp a b ≡ Equal → a ≡ b
ip_same a b e = (same_ip-Decides a b).0 (ip_ties a b ∙ ap is_eq e)

pub extension_same : (a b : Extension) → extension_cmp a b ≡ Equal → a ≡ b
extension_same (Decimal m) (Decimal n) e = ap Decimal (int_same m n e)
extension_same (Ip a) (Ip b) e = ap Ip (ip_same a b e)
extension_same (Datetime m) (Datetime n) e = ap Datetime (int_same m n e)
extension_same (Duration m) (Duration n) e = ap Duration (int_same m n e)
extension_same _ _ e = cc

-- the order is that of the rows, each before a rest
module _ (m n : ℕ) where
  as_nats : (o p : Ordering) → MatchOrdering o (pos m <ℤ pos n) (pos m ≡ pos n) (pos n <ℤ pos m) → MatchOrdering p (m < n) (m ≡ n) (n < m) → o ≡ p
  as_nats Less Less h g = refl
  as_nats Less Equal h g = absurd (omega (arith, ints))
  as_nats Less Greater h g = absurd (omega (arith, ints))
  as_nats Equal Less h g = absurd (omega (arith, ints))
  as_nats Equal Equal h g = refl
  as_nats Equal Greater h g = absurd (omega (arith, ints))
  as_nats Greater Less h g = absurd (omega (arith, ints))
  as_nats Greater Equal h g = absurd (omega (arith, ints))
  as_nats Greater Greater h g = refl

  int_cmp-pos : int_cmp (pos m) (pos n) ≡ nat_cmp m n
  int_cmp-pos = as_nats (int_cmp (pos m) (pos n)) (nat_cmp m n) (int_ranked (pos m) (pos n) _ refl) (ranked m n _ refl)

then_assoc : (o p q : Ordering) → ordering_then o (ordering_then p q) ≡ ordering_then (ordering_then o p) q
then_assoc Less p q = refl
then_assoc Equal p q = refl
then_assoc Greater p q = refl

then_three : (o p q r : Ordering) → ordering_then o (ordering_then p (ordering_then q r)) ≡ ordering_then (ordering_then o (ordering_then p q)) r
then_three Less p q r = refl
then_three Equal p q r = then_assoc p q r
then_three Greater p q r = refl

ip_rows : (a b : IpValue) (r : Ordering) →
    ordering_then (int_cmp (pos (width_of a.version)) (pos (width_of b.version)))
    (ordering_then (int_cmp (pos a.address) (pos b.address)) (ordering_then (int_cmp (pos a.prefix) (pos b.prefix)) r))
    ≡ ordering_then (ip_cmp a b) r
ip_rows a b r =
    rw (int_cmp-pos (width_of a.version) (width_of b.version), int_cmp-pos a.address b.address, int_cmp-pos a.prefix b.prefix)
    (then_three (nat_cmp (width_of a.version) (width_of b.version)) (nat_cmp a.address b.address) (nat_cmp a.prefix b.prefix) r)

pub extension_rows : (a b : Extension) (s t : List ℤ) → slice_cmp int_cmp (extension_row a s) (extension_row b t) ≡ ordering_then (extension_cmp a b) (slice_cmp int_cmp s t)
extension_rows (Decimal x) (Decimal y) s t = ap (λ o. ordering_then o (slice_cmp int_cmp s t)) (int_cmp-shift x y (pos 9223372036854775808))
extension_rows (Ip a) (Ip b) s t = ip_rows a b (slice_cmp int_cmp s t)
extension_rows (Datetime x) (Datetime y) s t = ap (λ o. ordering_then o (slice_cmp int_cmp s t)) (int_cmp-shift x y (pos 9223372036854775808))
extension_rows (Duration x) (Duration y) s t = ap (λ o. ordering_then o (slice_cmp int_cmp s t)) (int_cmp-shift x y (pos 9223372036854775808))
extension_rows _ _ s t = refl
